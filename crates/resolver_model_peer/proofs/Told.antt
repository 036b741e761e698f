-- Effects one after another, and a scan that expects nothing.
use Rattle.std.proofs.Common.{◌≡◌, refl, true, List, [], ◌∷◌, ◌++◌, Option, None, Some}
use Rattle.std.specs.Prelude.{is_none}
use Rattle.resolver_fetch_scan.specs.FetcherLaws.{AllAre}

module _ {X : Type 0} where
  pub all-append : (Q : X → Type 0) (xs ys : List X) → AllAre Q xs → AllAre Q ys → AllAre Q (xs ++ ys)
  all-append Q [] ys i j = j
  all-append Q (x ∷ xs) ys i j = (i.0, all-append Q xs ys i.1 j)

  pub over-none : (e : Option X) → is_none e ≡ true → e ≡ None
  over-none None is = refl
  over-none (Some e) is = cc
