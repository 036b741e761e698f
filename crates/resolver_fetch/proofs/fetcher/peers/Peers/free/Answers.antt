use Rattle.std.proofs.Common.{◌≡◌, refl, ap, sym, ◌∙◌, ◌+◌, ◌<◌, ◌^◌, true, false, length, subst, Option}
use Rattle.std.specs.List.Sorted.{IsStrictlySortedBy}
use Rattle.std.specs.Map.{keys_of}
use Rattle.std.specs.Ordering.{is_eq}
use Rattle.std.specs.Prelude.{IsTrue, ℕ}
use Rattle.resolver_fetch_requests.specs.Loads.{Load, frees, is_full}
use Rattle.resolver_fetch_scan.specs.Known.{Company, askable, known_by, may_be_asked, weight_in}
use Rattle.resolver_fetch_scan.specs.Pools.{recounted, weighs}
use Rattle.resolver_fetch.proofs.Filling.{fewer-full, freed, may-same, refits-none, weighs-nothing}
use Rattle.resolver_fetch.proofs.Recounting.{others-fewer, recounted-then, room-for, some-weighs}
use Rattle.resolver_fetch.proofs.Refitting.{whole-refitted}
use Rattle.resolver_fetch.proofs.fetcher.peers.Peers.free.Goals as goal

pub recounted-self-inside-requires-clause-room : goal.recounted-self-inside-requires-clause-room
recounted-self-inside-requires-clause-room g c =
    let a = c.self.inside in
    let company : Company g.row.P.Denot = record { local = a.local; set = a.set.entries; blocked = a.blocked.keys; counts = a.load } in
    let few : length a.set.entries < 2 ^ 63 = rw (← c.self.view_is) at c.order.ensures.few in
    subst (λ (n : ℕ). n + 1 < 2 ^ 64) (sym c.self.invariant.0) (room-for (λ p. may_be_asked g.P.Ord.cmp (known_by g.P.Ord.cmp company) p.0) a.set.entries few)

pub recounted-self-inside-requires-clause-some : goal.recounted-self-inside-requires-clause-some
recounted-self-inside-requires-clause-some g c = λ weighed.
    let a = c.self.inside in
    let R = g.P.Ord.cmp in
    let x = c.args.peer.now in
    let company : Company g.row.P.Denot = record { local = a.local; set = a.set.entries; blocked = a.blocked.keys; counts = a.load } in
    let is : frees R x a.load ≡ true = sym c.remove_from.ensures.frees ∙ c.if-not-remove_from.false in
    let before : c.full_weight-before.result ≡ weight_in R (known_by R company) x =
    c.full_weight-before.ensures ∙ weighs-nothing R company x c.weight-now.result (record company { counts = c.remove_from.new.load }) refl c.weight-now.ensures (freed g.met.P.Ord.total x a.load is).0 in
    subst (λ (n : ℕ). 0 < n) (sym c.self.invariant.0) (some-weighs g.met.P.Ord.total company x (subst (λ (w : Option ℕ). IsTrue (weighs w)) before weighed))

pub invariant_of-self : goal.invariant_of-self
invariant_of-self g c =
    let a = c.self.inside in
    let R = g.P.Ord.cmp in
    let x = c.args.peer.now in
    let company : Company g.row.P.Denot = record { local = a.local; set = a.set.entries; blocked = a.blocked.keys; counts = a.load } in
    let is : frees R x a.load ≡ false = sym c.remove_from.ensures.frees ∙ c.if-not-remove_from.true in
    refits-none R company c.remove_from.new.load
    (may-same R company c.remove_from.new.load (λ p. ap (λ (l : Option (Load g.row.P.Denot)). is_full l p) c.remove_from.ensures.fewer ∙ fewer-full g.met.P.Ord.total x a.load is p)) a.allowed a.pool c.self.invariant

pub invariant_of-self-2 : goal.invariant_of-self-2
invariant_of-self-2 g c =
    let a = c.self.inside in
    let R = g.P.Ord.cmp in
    let x = c.args.peer.now in
    let company : Company g.row.P.Denot = record { local = a.local; set = a.set.entries; blocked = a.blocked.keys; counts = a.load } in
    let then_company : Company g.row.P.Denot = record { local = a.local; set = a.set.entries; blocked = a.blocked.keys; counts = c.remove_from.new.load } in
    let is : frees R x a.load ≡ true = sym c.remove_from.ensures.frees ∙ c.if-not-remove_from.false in
    let before : c.full_weight-before.result ≡ weight_in R (known_by R company) x =
    c.full_weight-before.ensures ∙ weighs-nothing R company x c.weight-now.result (record company { counts = c.remove_from.new.load }) refl c.weight-now.ensures (freed g.met.P.Ord.total x a.load is).0 in
    let now : c.weight-now.result ≡ weight_in R (known_by R then_company) x = c.weight-now.ensures in
    let sorted : IsStrictlySortedBy R (keys_of a.set.entries) = rw (← c.self.view_is) at c.order.ensures.ordered in
    let others : (p : g.row.P.Denot) → is_eq (R x p) ≡ false → may_be_asked R (known_by R then_company) p ≡ may_be_asked R (known_by R company) p =
    others-fewer R x company c.remove_from.new.load c.remove_from.ensures.fewer in
    let counts : recounted c.full_weight-before.result c.weight-now.result a.allowed ≡ recounted (weight_in R (known_by R company) x) (weight_in R (known_by R then_company) x) (askable R (known_by R company)) =
    λ i. recounted (before i) (now i) (c.self.invariant.0 i) in (
      c.recounted-self-inside.ensures ∙ counts ∙ recounted-then g.met.P.Ord.total x company then_company refl sorted others,
      rw (c.reweigh.ensures, now) (whole-refitted g.met.P.Ord.total x company then_company refl sorted others a.pool c.self.invariant.1),
    )
