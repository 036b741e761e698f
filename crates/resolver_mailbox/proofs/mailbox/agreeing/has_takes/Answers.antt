use Rattle.std.proofs.Common.{◌≡◌, ◌<◌, ℕ, [], ◌∷◌, length, map, take, slice_index_or, refl, ap, ◌∙◌, sym, rules, arith}
use Rattle.std.proofs.lemmas.Bool.{false≢true}
use Rattle.resolver_messages.specs.declared.message.Message.{Message}
use Rattle.resolver_desk.specs.declared.entry.Entry.{Entry}
use Rattle.resolver_messages.specs.Waiting.{told_of}
use Rattle.resolver_desk.specs.Book.{call_of, takes}
use Rattle.resolver_mailbox.proofs.Agreeing.{differs, picks, refuted, same-at, skips}
use Rattle.resolver_desk.proofs.Calls.{takes-append}
use Rattle.resolver_mailbox.proofs.mailbox.agreeing.has_takes.Goals as goal
use Rattle.resolver_mailbox.proofs.mailbox.agreeing.has_takes.Goals.{in-Put, in-Close, in-Take+else-next-taken+else-not-is_same_message, then-next-taken-via-then-next-taken, then-next-taken-via-else-next-taken+then-not-is_same_message}

pub loop-entry-preserved : goal.loop-entry-preserved
loop-entry-preserved g c =
    let listed = c.args.book.now in
    let i = c.loop-entry.entry-index in
    let entry = c.entry-item.result in
    let messages = c.args.taken.now in
    let n = c.loop-entry.next in
    let before = c.loop-entry.invariant in
    let skip = λ (none : takes (call_of entry ∷ []) ≡ []). skips takes takes-append listed i entry (map told_of (take n messages)) c.loop-entry-test.true c.entry-item.is before.0 none in
    elim c.match-entry.branch [
      | in-Put w ↦ (skip (ap (λ (e : Entry _ _ _ _). takes (call_of e ∷ [])) w.in-Put.is) ∙ ap (λ (k : ℕ). map told_of (take k messages)) (sym w.next-is), omega (arith, before.1, w.next-is))
      | in-Close w ↦ (skip (ap (λ (e : Entry _ _ _ _). takes (call_of e ∷ [])) w.in-Close.is) ∙ ap (λ (k : ℕ). map told_of (take k messages)) (sym w.next-is), omega (arith, before.1, w.next-is))
      | in-Take+else-next-taken+else-not-is_same_message w ↦ (
        picks takes takes-append listed i entry messages n (told_of w.in-Take.message) w.index-taken-next.result c.loop-entry-test.true c.entry-item.is before.0 (ap (λ (e : Entry _ _ _ _). takes (call_of e ∷ [])) w.in-Take.is) (search rules) w.if-next-taken.false w.index-taken-next.is
            ∙ ap (λ (k : ℕ). map told_of (take k messages)) (sym w.next-is),
        omega (arith, w.if-next-taken.false, w.next-is),
      )
    ]

pub returns-then-next-taken : goal.returns-then-next-taken
returns-then-next-taken g c =
    let messages = c.args.taken.now in
    let n = c.loop-entry.next in
    let told = told_of c.in-Take.message in
    let before = c.loop-entry.invariant in
    let unlike = λ (apart : (other : Message _ _ _ _) → n < length messages → other ≡ slice_index_or messages n other → told ≡ told_of other → ⊥).
    differs takes takes-append c.args.book.now c.loop-entry.entry-index c.entry-item.result messages n told c.loop-entry-test.true c.entry-item.is before.0 (ap (λ (e : Entry _ _ _ _). takes (call_of e ∷ [])) c.in-Take.is) before.1 apart in (
      λ wrong. absurd (false≢true wrong),
      λ same.
          elim c.then-next-taken.branch [
            | then-next-taken-via-then-next-taken w ↦ absurd (unlike (λ other less at told. omega (arith, less, w.if-next-taken.true)) same)
            | then-next-taken-via-else-next-taken+then-not-is_same_message w ↦
                absurd (unlike (λ other less at told. refuted w.is_same_message.result w.if-not-is_same_message.true w.is_same_message.ensures.1 (told ∙ same-at told_of messages messages n other w.index-taken-next.result less less at w.index-taken-next.is refl)) same)
          ],
    )
