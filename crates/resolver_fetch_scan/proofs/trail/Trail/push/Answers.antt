use Rattle.std.proofs.Common.{◌≡◌, ◌∙◌, ap, sym}
use Rattle.std.specs.Ordering.{is_eq}
use Rattle.resolver_fetch_scan.specs.Tried.{noted}
use Rattle.resolver_fetch_scan.proofs.Tried.{tried-more}
use Rattle.resolver_fetch_scan.proofs.trail.Trail.push.Goals as goal

pub invariant_of-self-2 : goal.invariant_of-self-2
invariant_of-self-2 g c = λ key.
    let cmp = g.K.Ord.cmp in
    let named : c.in_ok-named.named ≡ c.args.key = c.requires.keys_clone c.args.key c.in_ok-named.named c.in_ok-named.ensures.cases in
    let again : c.in_ok-again.again ≡ c.args.peer = c.requires.peers_clone c.args.peer c.in_ok-again.again c.in_ok-again.ensures.cases in
    rw (c.push_reserved.ensures.items, c.in_ok-reserve.ensures.items)
    (rw (named, again) at (c.in_ok-note.ensures.ok key)
    ∙ ap (noted (is_eq (cmp key c.args.key)) c.args.peer) (c.self.invariant key)
    ∙ sym (tried-more cmp (record { key = c.args.key; peer = c.args.peer; reason = c.args.reason }) key c.self.inside.tries.items))

-- where memory is wanting, what was tried and who was named are as they were
pub invariant_of-self : goal.invariant_of-self
invariant_of-self g c = rw c.in_err-reserve.ensures.items c.self.invariant

pub invariant_of-self-in_err-named : goal.invariant_of-self-in_err-named
invariant_of-self-in_err-named g c = rw c.in_ok-reserve.ensures.items c.self.invariant

pub invariant_of-self-in_err-again : goal.invariant_of-self-in_err-again
invariant_of-self-in_err-again g c = rw c.in_ok-reserve.ensures.items c.self.invariant

pub invariant_of-self-in_err-note : goal.invariant_of-self-in_err-note
invariant_of-self-in_err-note g c = λ key. rw c.in_ok-reserve.ensures.items (c.in_err-note.ensures.err key ∙ c.self.invariant key)
