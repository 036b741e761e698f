use Rattle.std.proofs.Common.{◌≡◌, ◌<◌, ℕ, [], ◌∷◌, length, map, take, slice_index_or, refl, ap, ◌∙◌, sym, rules, arith}
use Rattle.std.proofs.lemmas.Bool.{false≢true}
use Rattle.resolver_messages.specs.declared.message.Message.{Message}
use Rattle.resolver_desk.specs.declared.entry.Entry.{Entry}
use Rattle.resolver_messages.specs.Waiting.{told_of}
use Rattle.resolver_desk.specs.Book.{call_of, puts_of}
use Rattle.resolver_mailbox.proofs.Agreeing.{differs, no-put, one-put, picks, refuted, same-at, skips}
use Rattle.resolver_desk.proofs.Calls.{puts_of-append}
use Rattle.resolver_mailbox.proofs.mailbox.agreeing.has_puts.Goals as goal
use Rattle.resolver_mailbox.proofs.mailbox.agreeing.has_puts.Goals.{in-Take, in-Close, in-Put+then-posted-handle+else-next-messages+else-not-is_same_message, in-Put+else-posted-handle, then-next-messages-via-then-next-messages, then-next-messages-via-else-next-messages+then-not-is_same_message}

pub loop-entry-preserved : goal.loop-entry-preserved
loop-entry-preserved g c =
    let h = c.args.handle in
    let listed = c.args.book.now in
    let i = c.loop-entry.entry-index in
    let entry = c.entry-item.result in
    let messages = c.args.messages.now in
    let n = c.loop-entry.next in
    let before = c.loop-entry.invariant in
    let skip = λ (none : puts_of h (call_of entry ∷ []) ≡ []). skips (puts_of h) (puts_of-append h) listed i entry (map told_of (take n messages)) c.loop-entry-test.true c.entry-item.is before.0 none in
    elim c.match-entry.branch [
      | in-Take w ↦ (skip (ap (λ (e : Entry _ _ _ _). puts_of h (call_of e ∷ [])) w.in-Take.is) ∙ ap (λ (k : ℕ). map told_of (take k messages)) (sym w.next-is), omega (arith, before.1, w.next-is))
      | in-Close w ↦ (skip (ap (λ (e : Entry _ _ _ _). puts_of h (call_of e ∷ [])) w.in-Close.is) ∙ ap (λ (k : ℕ). map told_of (take k messages)) (sym w.next-is), omega (arith, before.1, w.next-is))
      | in-Put+then-posted-handle+else-next-messages+else-not-is_same_message w ↦ (
        picks (puts_of h) (puts_of-append h) listed i entry messages n (told_of w.in-Put.posted.message) w.index-messages-next.result c.loop-entry-test.true c.entry-item.is before.0 (one-put h entry w.in-Put.posted w.in-Put.is w.if-posted-handle.true) (search rules) w.if-next-messages.false w.index-messages-next.is
            ∙ ap (λ (k : ℕ). map told_of (take k messages)) (sym w.next-is),
        omega (arith, w.if-next-messages.false, w.next-is),
      )
      | in-Put+else-posted-handle w ↦
          (skip (ap (λ (e : Entry _ _ _ _). puts_of h (call_of e ∷ [])) w.in-Put.is ∙ no-put h w.in-Put.posted w.if-posted-handle.false) ∙ ap (λ (k : ℕ). map told_of (take k messages)) (sym w.next-is), omega (arith, before.1, w.next-is))
    ]

pub returns-then-next-messages : goal.returns-then-next-messages
returns-then-next-messages g c =
    let h = c.args.handle in
    let entry = c.entry-item.result in
    let messages = c.args.messages.now in
    let n = c.loop-entry.next in
    let told = told_of c.in-Put.posted.message in
    let before = c.loop-entry.invariant in
    let unlike = λ (apart : (other : Message _ _ _ _) → n < length messages → other ≡ slice_index_or messages n other → told ≡ told_of other → ⊥).
    differs (puts_of h) (puts_of-append h) c.args.book.now c.loop-entry.entry-index entry messages n told c.loop-entry-test.true c.entry-item.is before.0 (one-put h entry c.in-Put.posted c.in-Put.is c.if-posted-handle.true) before.1 apart in (
      λ wrong. absurd (false≢true wrong),
      λ same.
          elim c.then-next-messages.branch [
            | then-next-messages-via-then-next-messages w ↦ absurd (unlike (λ other less at told. omega (arith, less, w.if-next-messages.true)) same)
            | then-next-messages-via-else-next-messages+then-not-is_same_message w ↦
                absurd (unlike (λ other less at told. refuted w.is_same_message.result w.if-not-is_same_message.true w.is_same_message.ensures.1 (told ∙ same-at told_of messages messages n other w.index-messages-next.result less less at w.index-messages-next.is refl)) same)
          ],
    )
