use Rattle.std.proofs.Common.{◌≡◌, ◌∙◌, ◌∷◌, [], refl, ap, sym, ℕ, false, true, rules, arith}
use Rattle.std.proofs.lemmas.Fn.{says_at}
use Rattle.std.specs.List.{cons_option}
use Rattle.std.specs.VecDeque.Iter.{deque_iter_rest}
use Rattle.resolver_fetch_requests.specs.declared.requests.request.Request.{Request}
use Rattle.resolver_fetch_requests.proofs.Soonest.{nil}
use Rattle.resolver_fetch_scan.specs.Known.{known_by}
use Rattle.resolver_fetch.proofs.Freeing.{freed-first, freed-kept, freed-last, freed-off}
use Rattle.resolver_fetch.proofs.fetcher.free_each.Goals as goal
use Rattle.resolver_sequence.specs.Sequence.{entries_of, entry_in}

pub loop-slot-init : goal.loop-slot-init
loop-slot-init g c = λ test pure.
    let slots : deque_iter_rest c.into_iter-slot-iterator.result ≡ c.slots-slot-items.result.now.items = search rules in
    let list = ap entries_of slots ∙ c.slots-slot-items.ensures in
    rw list (freed-first g.P.Ord.cmp test c.args.requests.now (known_by g.P.Ord.cmp c.args.peers.now) c.requires.loaded)

pub returns : goal.returns
returns g c = λ test pure.
    let R = g.P.Ord.cmp in
    let none : deque_iter_rest c.loop-slot.slot-iterator ≡ [] = nil _ (λ some. omega (arith, some, c.in-None.ensures.steps.0)) in
    let before = rw none at (c.loop-slot.invariant test pure) in
    freed-last R test c.args.requests.now (known_by R c.args.peers.now) (known_by R c.loop-slot.peers) before

pub loop-slot-preserved-else-not-keep : goal.loop-slot-preserved-else-not-keep
loop-slot-preserved-else-not-keep g c = λ test pure.
    let R = g.P.Ord.cmp in
    let r : ℕ × Request g.row.K.Denot g.row.P.Denot = (_, c.in-Held.request) in
    let rest = entries_of (deque_iter_rest c.next.new.self) in
    let left : entries_of (deque_iter_rest c.loop-slot.slot-iterator) ≡ r ∷ rest =
    ap entries_of c.in-Some.ensures.steps ∙ ap (λ slot. cons_option (entry_in slot) rest) c.in-Held.is in
    let is : test r.1.key ≡ true = sym (pure.by r.1.key c.keep.result (says_at g.F.Fn c.keep.ensures refl)) ∙ c.if-not-keep.false in
    let before = rw left at (c.loop-slot.invariant test pure) in
    freed-kept R test c.args.requests.now r rest (known_by R c.args.peers.now) (known_by R c.loop-slot.peers) before is

pub loop-slot-preserved-then-not-keep : goal.loop-slot-preserved-then-not-keep
loop-slot-preserved-then-not-keep g c = λ test pure.
    let R = g.P.Ord.cmp in
    let r : ℕ × Request g.row.K.Denot g.row.P.Denot = (_, c.in-Held.request) in
    let rest = entries_of (deque_iter_rest c.next.new.self) in
    let left : entries_of (deque_iter_rest c.loop-slot.slot-iterator) ≡ r ∷ rest =
    ap entries_of c.in-Some.ensures.steps ∙ ap (λ slot. cons_option (entry_in slot) rest) c.in-Held.is in
    let is : test r.1.key ≡ false = sym (pure.by r.1.key c.keep.result (says_at g.F.Fn c.keep.ensures refl)) ∙ c.if-not-keep.true in
    let before = rw left at (c.loop-slot.invariant test pure) in
    freed-off R test c.args.requests.now r rest (known_by R c.args.peers.now) (known_by R c.loop-slot.peers) before is (known_by R c.freed.new.self) c.freed.ensures

pub loop-slot-preserved : goal.loop-slot-preserved
loop-slot-preserved g c = λ test pure.
    let rest = entries_of (deque_iter_rest c.next.new.self) in
    let left : entries_of (deque_iter_rest c.loop-slot.slot-iterator) ≡ rest =
    ap entries_of c.in-Some.ensures.steps ∙ ap (λ slot. cons_option (entry_in slot) rest) c.in_default.is in
    rw left at (c.loop-slot.invariant test pure)
