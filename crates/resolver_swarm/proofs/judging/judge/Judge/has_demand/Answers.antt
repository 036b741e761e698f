use Rattle.std.proofs.Common.{rules, tests, arith, ℕ, ◌≡◌, ◌≢◌, Bool, List, [], ◌∷◌, length}
use Rattle.std.specs.Bool.{MatchBool, IsTrue}
use Rattle.std.specs.List.{AllByRecursion, AllZip, zip}
use Rattle.std.proofs.lemmas.Iterator.{YieldsList-from_slice, YieldsList-from_zip, cases_from_all}
use Rattle.std.proofs.lemmas.Iterator.Consumers.{YieldsList-from_rest}
use Rattle.std.proofs.lemmas.Iterator.Search.{true_from_All}
use Rattle.std.proofs.lemmas.List.Elements.{All-from_recursion, recursion_from_All}
use Rattle.std.proofs.lemmas.Slice.Zip.{AllZip-long}
use Rattle.resolver_core.specs.declared.p2p.rows.Row.{Row}
use Rattle.resolver_swarm.specs.Height.{number_of}
use Rattle.resolver_swarm.specs.declared.height.Height.{Height}
use Rattle.resolver_swarm.proofs.judging.judge.Judge.has_demand.Goals as goal
use mathlib.Core.Bool.{true, false}

-- of two facts, that which holds where the answer is true
true_fact : (P Q : Type 0) (answer : Bool) → MatchBool answer P Q → IsTrue answer → P
true_fact P Q true fact is_true = fact
true_fact P Q false fact is_true = cc

-- what holds of each pair of two lists that are as long holds of them place by place
AllZip-from_zip : {A B : Type 0} (R : A → B → Type 0) (xs : List A) (ys : List B) → length xs ≡ length ys → AllByRecursion (λ p. R p.0 p.1) (zip xs ys) → AllZip R xs ys
AllZip-from_zip R [] [] same each = tt
AllZip-from_zip R [] (y ∷ ys) same each = absurd (omega arith)
AllZip-from_zip R (x ∷ xs) [] same each = absurd (omega arith)
AllZip-from_zip R (x ∷ xs) (y ∷ ys) same each = (each.0, AllZip-from_zip R xs ys (omega arith) each.1)

-- and the way back
each_of_zip : {A B : Type 0} (R : A → B → Type 0) (xs : List A) (ys : List B) → AllZip R xs ys → AllByRecursion (λ p. R p.0 p.1) (zip xs ys)
each_of_zip R [] [] all = tt
each_of_zip R [] (y ∷ ys) all = absurd all
each_of_zip R (x ∷ xs) [] all = absurd all
each_of_zip R (x ∷ xs) (y ∷ ys) all = (all.0, each_of_zip R xs ys all.1)

-- a row has the key of the number beside it, and it has another
abbrev HasNumber : Row Height ℕ ℕ × ℕ → Type 0
HasNumber pair = number_of pair.0.key ≡ pair.1

abbrev HasAnother : Row Height ℕ ℕ × ℕ → Type 0
HasAnother pair = number_of pair.0.key ≢ pair.1

pub returns-then-rows-len : goal.returns-then-rows-len
returns-then-rows-len c =
    let cases = cases_from_all c.all.new.self _ c.all.result HasNumber HasAnother c.all.ensures.ran (YieldsList-from_zip (YieldsList-from_slice c.args.rows.now cc) (YieldsList-from_rest c.args.self.now.demand.keys cc)) (λ x q k. search (rules, tests)) (λ x q k. search (rules, tests)) in (
      λ is_true. AllZip-from_zip (λ row number. number_of row.key ≡ number) c.args.rows.now c.args.self.now.demand.keys (search rules)
          (recursion_from_All _ _ (λ k d inside. true_fact _ _ c.all.result cases is_true k d (omega arith) inside)),
      λ are_rows. true_from_All HasNumber HasAnother c.all.result (zip c.args.rows.now c.args.self.now.demand.keys) (λ p same other. other same) cases
          (All-from_recursion HasNumber _ (each_of_zip (λ row number. number_of row.key ≡ number) c.args.rows.now c.args.self.now.demand.keys are_rows)),
    )

pub returns-else-rows-len : goal.returns-else-rows-len
returns-else-rows-len c = (
  λ is_true. absurd (search (rules, tests)),
  λ are_rows. let long : length c.args.self.now.demand.keys ≡ length c.args.rows.now = AllZip-long (λ row number. number_of row.key ≡ number) _ _ are_rows in absurd (search rules),
)
