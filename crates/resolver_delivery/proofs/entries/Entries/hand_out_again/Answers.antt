use Rattle.std.proofs.Common.{◌≡◌, refl, ap, ◌∙◌, ℕ, None, Some}
use Rattle.resolver_types.specs.declared.delivery.Delivery.{Delivery}
use Rattle.resolver_delivery.specs.declared.again.HandedOut.{HandedOut}
use Rattle.resolver_delivery.specs.Entries.{response_of}
use Rattle.resolver_delivery.proofs.Cached.{caches-some, flagged-next, flagged-number, flagged-response, noted, noted-name, noted-value, response-is}
use Rattle.resolver_delivery.proofs.entries.Entries.hand_out_again.Goals as goal

none-some : {X : Type 0} (x : X) → None ≡ Some x → ⊥
none-some x same = cc

some-same : {X : Type 0} (x y : X) → Some x ≡ Some y → x ≡ y
some-same x y same = cc

same-handed : {K S V : Type 0} (number number' response response' : ℕ) (delivery delivery' : Delivery K S) (value value' : V) → number ≡ number' → response ≡ response' → delivery ≡ delivery' → value ≡ value'
    → ◌≡◌ {A = HandedOut K S V} (record { number = number; response = response; delivery = delivery; value = value }) (record { number = number'; response = response'; delivery = delivery'; value = value' })
same-handed number number' response response' delivery delivery' value value' a b c d = rw (a, b, c, d) refl

pub unreachable-requires : goal.unreachable-requires
unreachable-requires g c =
    let x = caches-some g.K.Ord.cmp c.args.delivery.key c.args.self.now c.requires.cached in
    let there = ap (λ d. response_of g.K.Ord.cmp d c.args.delivery.key) c.note_accepted.ensures ∙ flagged-response g.K.Ord.cmp c.args.delivery.key c.args.self.now x c.args.accepted in
    none-some (noted g.K.Ord.cmp c.args.delivery.key c.args.self.now x c.args.accepted) (c.in_default.ensures ∙ there)

pub redeliver-requires-clause-idle : goal.redeliver-requires-clause-idle
redeliver-requires-clause-idle g c =
    let x = caches-some g.K.Ord.cmp c.args.delivery.key c.args.self.now c.requires.cached in
    rw c.note_accepted.ensures (flagged-number g.K.Ord.cmp c.args.delivery.key c.args.self.now x c.args.accepted ∙ c.requires.idle)

pub returns-clause-handed : goal.returns-clause-handed
returns-clause-handed g c =
    let x = caches-some g.K.Ord.cmp c.args.delivery.key c.args.self.now c.requires.cached in
    let there = ap (λ d. response_of g.K.Ord.cmp d c.args.delivery.key) c.note_accepted.ensures ∙ flagged-response g.K.Ord.cmp c.args.delivery.key c.args.self.now x c.args.accepted in
    let same = some-same c.in-Some.response.now (noted g.K.Ord.cmp c.args.delivery.key c.args.self.now x c.args.accepted) (c.in-Some.ensures ∙ there) in
    rw (response-is g.K.Ord.cmp c.args.delivery.key c.args.self.now x)
    (same-handed _ _ _ _ _ _ _ _
    (c.in_ok-number.ensures.number ∙ ap (λ d. d.next) c.note_accepted.ensures ∙ flagged-next g.K.Ord.cmp c.args.delivery.key c.args.self.now x c.args.accepted)
    (ap (λ r. r.name) same ∙ noted-name g.K.Ord.cmp c.args.delivery.key c.args.self.now x c.args.accepted)
    (ap (λ copies. copies.0) c.in_ok-told.ensures)
    (ap (λ copies. copies.1) c.in_ok-told.ensures ∙ ap (λ r. r.value) same ∙ noted-value g.K.Ord.cmp c.args.delivery.key c.args.self.now x c.args.accepted))
