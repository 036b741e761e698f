use Rattle.std.proofs.Common.{◌≡◌, take, drop, sym, ap, ◌∙◌, arith}
use Rattle.std.specs.Cmp.Lexicographic.{slice_cmp}
use Rattle.std.specs.Int.{from_be_bytes, w64}
use Rattle.std.specs.Ordering.{nat_cmp, ordering_then}
use Rattle.resolver_names.proofs.Comparing.{by_words, left, told, untold}
use Rattle.resolver_names.proofs.words.order.Goals as goal

pub returns-then-is_ne : goal.returns-then-is_ne
returns-then-is_ne c =
    let xs = c.loop-word.one.now in
    let ys = c.loop-word.other.now in
    let front = c.in-Some.ensures.cases in
    let other = c.in-Some-split_first_chunk.ensures.cases in
    let words : c.cmp-order.result ≡ nat_cmp (from_be_bytes w64 (take 8 xs)) (from_be_bytes w64 (take 8 ys)) = cc in
    let read = by_words xs ys c.loop-word.invariant.one c.loop-word.invariant.other (omega arith) (omega arith) in
    sym (c.loop-word.invariant.same ∙ read ∙ ap (λ r. ordering_then r (slice_cmp nat_cmp (drop 8 xs) (drop 8 ys))) (sym words) ∙ told c.cmp-order.result _ (sym c.is_ne.ensures ∙ c.if-is_ne.true))

pub loop-word-preserved : goal.loop-word-preserved
loop-word-preserved c =
    let xs = c.loop-word.one.now in
    let ys = c.loop-word.other.now in
    let front = c.in-Some.ensures.cases in
    let other = c.in-Some-split_first_chunk.ensures.cases in
    let words : c.cmp-order.result ≡ nat_cmp (from_be_bytes w64 (take 8 xs)) (from_be_bytes w64 (take 8 ys)) = cc in
    let read = by_words xs ys c.loop-word.invariant.one c.loop-word.invariant.other (omega arith) (omega arith) in
    let level = untold c.cmp-order.result (slice_cmp nat_cmp (drop 8 xs) (drop 8 ys)) (sym c.is_ne.ensures ∙ c.if-is_ne.false) in
    record {
      same = c.loop-word.invariant.same ∙ read ∙ ap (λ r. ordering_then r (slice_cmp nat_cmp (drop 8 xs) (drop 8 ys))) (sym words) ∙ level ∙ (λ i. slice_cmp nat_cmp (sym front.1 i) (sym other.1 i));
      one = rw front.1 (left xs c.loop-word.invariant.one);
      other = rw other.1 (left ys c.loop-word.invariant.other);
    }
