-- Runs of the core, one step after another.
use Rattle.std.proofs.Common.{◌≡◌, refl, ap, sym, ◌∙◌, subst, ℕ, ◌||◌, Bool, true, false, List, [], ◌∷◌, ◌++◌, Result, append-nil}
use Rattle.std.proofs.lemmas.List.{append_assoc}
use Rattle.std.proofs.lemmas.List.Folds.{list_any-append}
use Rattle.std.specs.List.{list_any}
use Rattle.std.specs.declared.vec.Vec.{Vec}
use Rattle.std.specs.declared.alloc.Global.{Global}
use Rattle.resolver_base.specs.declared.fault.Fault.{Fault}
use Rattle.resolver_model.specs.Steps.{stops}
use Rattle.resolver_model_peer.specs.Parties.{Parties}
use Rattle.resolver_model_peer.specs.Peer.{Machine}
use Rattle.resolver_model_peer.specs.declared.effects.Effect.{Effect as Told}
use Rattle.resolver_model_peer.specs.declared.inputs.Input.{Input as CodeInput}
use Rattle.resolver_peer_step.specs.Said.{Codec, answer_of, fed_of}
use Rattle.resolver_core.specs.Matching.{Engine, Matches}
use Rattle.resolver_core.specs.Taking.{Answers, Took, latest}
use Rattle.resolver_core.proofs.Stepped.{Becomes}
use Rattle.resolver_core.proofs.Taking.{both, ends, none, one}

module _ {K P S Q : Type 0} (a : Parties K S P) (c : Codec K) (keeps : Q → K → S → Bool) where
  -- what was taken, behind which these inputs are left
  pub record TookOn (m : Machine K S P) (moment : ℕ) (inputs left : List (CodeInput K P S Q)) (answers : Answers K P S) (e : Engine K S P) : Type 0 where
    pub taken : List (CodeInput K P S Q)
    pub split : taken ++ left ≡ inputs
    pub took : Took a c keeps m moment taken answers e
    pub goes : list_any stops answers ≡ false

  module _ (m : Machine K S P) (moment : ℕ) (inputs : List (CodeInput K P S Q)) where
    -- nothing is taken so far
    pub runs-first : (left : List (CodeInput K P S Q)) (answers : Answers K P S) (e : Engine K S P) → left ≡ inputs → answers ≡ [] → Matches a e m → TookOn m moment inputs left answers e
    runs-first left answers e all nothing matches =
        subst (λ answers. TookOn m moment inputs left answers e) (sym nothing) (record { taken = []; split = all; took = none a c keeps m moment e matches; goes = refl })

    module _ (left after : List (CodeInput K P S Q)) (input : CodeInput K P S Q) (answers : Answers K P S) (r : Result (Vec (Told K P S) Global) Fault) (e f : Engine K S P) (is : left ≡ input ∷ after)
        (on : TookOn m moment inputs left answers e) (becomes : Becomes a c on.took.machine (fed_of c keeps (latest c keeps moment on.taken) input) (answer_of r) f) where
      split-on : (on.taken ++ input ∷ []) ++ after ≡ inputs
      split-on = append_assoc on.taken (input ∷ []) after ∙ ap (λ left. on.taken ++ left) (sym is) ∙ on.split

      took-on : Took a c keeps m moment (on.taken ++ input ∷ []) (answers ++ r ∷ []) f
      took-on = both a c keeps m moment on.taken (input ∷ []) answers (r ∷ []) e f on.took on.goes (one a c keeps on.took.machine (latest c keeps moment on.taken) input r f becomes)

      stops-on : (b : Bool) → stops r ≡ b → list_any stops (answers ++ r ∷ []) ≡ b
      stops-on b is = list_any-append stops answers (r ∷ []) ∙ ap (λ fore. fore || (stops r || false)) on.goes ∙ either b is
        where
          either : (b : Bool) → stops r ≡ b → (stops r || false) ≡ b
          either b is = ap (λ stop. stop || false) is ∙ same b
            where
              same : (b : Bool) → (b || false) ≡ b
              same true = refl
              same false = refl

      -- the run goes on
      pub runs-next : stops r ≡ false → TookOn m moment inputs after (answers ++ r ∷ []) f
      runs-next goes = record { taken = on.taken ++ input ∷ []; split = split-on; took = took-on; goes = stops-on false goes }

      -- the run ends with this answer
      pub runs-last : stops r ≡ true → Took a c keeps m moment inputs (answers ++ r ∷ []) f
      runs-last over =
          subst (λ inputs. Took a c keeps m moment inputs (answers ++ r ∷ []) f) split-on
          (ends a c keeps m moment (on.taken ++ input ∷ []) after (answers ++ r ∷ []) f took-on (stops-on true over))

    -- nothing is left
    pub runs-all : (left : List (CodeInput K P S Q)) (answers : Answers K P S) (e : Engine K S P) → left ≡ [] → TookOn m moment inputs left answers e → Took a c keeps m moment inputs answers e
    runs-all left answers e nothing on =
        subst (λ inputs. Took a c keeps m moment inputs answers e) (sym (append-nil on.taken) ∙ ap (λ left. on.taken ++ left) (sym nothing) ∙ on.split) on.took
