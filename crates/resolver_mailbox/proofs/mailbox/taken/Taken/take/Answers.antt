use Rattle.std.proofs.Common.{◌≡◌, ◌∙◌, List, [], ◌∷◌, ◌++◌, Option, Some, None, map, is_some, refl, sym, ap, rules, arith}
use Rattle.std.proofs.lemmas.List.{append-nil, map-append}
use Rattle.resolver_messages.specs.declared.message.Message.{Message}
use Rattle.resolver_messages.specs.Waiting.{Told, told_of}
use Rattle.resolver_desk.specs.Desk.{Desk, desk_taken}
use Rattle.resolver_mailbox.proofs.mailbox.taken.Taken.take.Goals as goal

some-none : {A : Type 0} (a : A) (first : Option A) → Some a ≡ first → None ≡ first → ⊥
some-none a first some none = cc

module _ {K S M Q : Type 0} where
  -- where nothing is in front, a take gives nothing
  none-taken : (desk : Desk K S M Q) → None ≡ (desk_taken desk).0 → (None, desk) ≡ desk_taken desk
  none-taken desk none = cases desk.ready none where
    cases : (ready : List (Told K S M Q)) → None ≡ (desk_taken (record desk { ready = ready })).0 → (None, record desk { ready = ready }) ≡ desk_taken (record desk { ready = ready })
    cases [] none = refl
    cases (told ∷ ready) none = absurd cc

  -- the copy of what was in front goes last
  copy-listed : (items put : List (Message K S M Q)) (copy : Message K S M Q) (front message : Told K S M Q) (first : Option (Told K S M Q)) → put ≡ items ++ copy ∷ [] → told_of copy ≡ front
      → Some front ≡ first → Some message ≡ first → map told_of put ≡ map told_of items ++ message ∷ []
  copy-listed items put copy front message first is same fronts gives =
      let one : front ≡ message = cc in
      ap (λ ms. map told_of ms) is ∙ map-append told_of items (copy ∷ []) ∙ ap (λ told. map told_of items ++ told ∷ []) (same ∙ one)

pub unreachable-requires : goal.unreachable-requires
unreachable-requires g c = let wrong = sym (c.self.invariant.0 ∙ c.requires.recorded) ∙ ap is_some c.in_default.is in cc

pub unreachable-requires-in_default-2 : goal.unreachable-requires-in_default-2
unreachable-requires-in_default-2 g c = some-none (told_of c.in-Some-front.front.now) (desk_taken c.args.desk.now).0 c.in-Some-front.ensures (ap (λ pair. pair.0) (rw c.in_default-2.is at c.in_ok-message.ensures.ok))

pub take-requires : goal.take-requires
take-requires g c = record { keys_clone = g.met.K.Faithful.clones; subscribers_clone = g.met.S.Faithful.clones; tests_clone = g.met.Q.Faithful.clones }

pub returns-in_default-front : goal.returns-in_default-front
returns-in_default-front g c = record {
  desk = none-taken c.args.desk.now c.in_default-front.ensures;
  listed = c.self.view_is ∙ sym (append-nil c.args.self.now);
  total = omega arith;
  err = tt;
  err_desk = tt;
  err_total = tt;
  only = tt;
}

pub returns : goal.returns
returns g c =
    let pushed : c.push_reserved.new.self.items ≡ c.ready_copy.new.puts.items ++ c.in_ok-copy.copy ∷ [] = search rules in
    let taken = rw c.in-Some-2.is at c.in_ok-message.ensures.ok in
    record {
      desk = taken;
      listed = copy-listed _ _ c.in_ok-copy.copy (told_of c.in-Some-front.front.now) (told_of c.in-Some-2.message) _ pushed c.in_ok-copy.ensures.copy c.in-Some-front.ensures (ap (λ pair. pair.0) taken)
          ∙ ap (λ ms. map told_of ms ++ told_of c.in-Some-2.message ∷ []) c.in_ok-copy.ensures.same
          ∙ ap (λ told. told ++ told_of c.in-Some-2.message ∷ []) c.self.view_is;
      total = c.add.ensures.total;
      err = tt;
      err_desk = tt;
      err_total = tt;
      only = tt;
    }
