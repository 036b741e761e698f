-- Open deliveries: their numbers rise, and no two carry one response.
use Rattle.resolver_model.specs.Lawful.{Each}
use Rattle.std.proofs.Common.{◌≡◌, ◌≢◌, refl, ap, sym, ◌∙◌, subst, ℕ, ◌+◌, ◌<◌, ◌≤◌, Bool, true, false, cond, List, [], ◌∷◌, ◌++◌, map, find, Some, arith}
use Rattle.std.specs.Prelude.{⊤}
use Rattle.std.specs.Map.{lookup, remove_entry}
use Rattle.std.specs.BTreeMap.{insert_entry, is_at}
use Rattle.std.specs.Ordering.{nat_cmp, match_ordering}
use Rattle.std.specs.declared.cmp.Ordering.TheVariants.{Greater}
use Rattle.resolver_model.specs.Account.{Watched}
use Rattle.resolver_model.proofs.Mapped.{seen}

pub Each-imply : {X : Type 0} (P Q : X → Type 0) → ((x : X) → P x → Q x) → (xs : List X) → Each P xs → Each Q xs
Each-imply P Q f [] ps = tt
Each-imply P Q f (x ∷ xs) ps = (f x ps.0, Each-imply P Q f xs ps.1)

pub Each-both : {X : Type 0} (P Q : X → Type 0) (xs : List X) → Each P xs → Each Q xs → Each (λ x. P x × Q x) xs
Each-both P Q [] ps qs = tt
Each-both P Q (x ∷ xs) ps qs = ((ps.0, qs.0), Each-both P Q xs ps.1 qs.1)

pub Each-push : {X : Type 0} (P : X → Type 0) (xs : List X) (y : X) → Each P xs → P y → Each P (xs ++ y ∷ [])
Each-push P [] y ps p = (p, tt)
Each-push P (x ∷ xs) y ps p = (ps.0, Each-push P xs y ps.1 p)

pub Each-map : {X Y : Type 0} (f : X → Y) (P : Y → Type 0) (xs : List X) → Each (λ x. P (f x)) xs → Each P (map f xs)
Each-map f P [] ps = tt
Each-map f P (x ∷ xs) ps = (ps.0, Each-map f P xs ps.1)

pub Each-remove_entry : {K X : Type 0} (test : K → Bool) (P : K × X → Type 0) (es : List (K × X)) → Each P es → Each P (remove_entry test es)
Each-remove_entry test P [] ps = tt
Each-remove_entry test P (e ∷ es) ps = at (Each-remove_entry test P es ps.1) (test e.0)
  where
    at : Each P (remove_entry test es) → (b : Bool) → Each P (cond b es (e ∷ remove_entry test es))
    at rest true = ps.1
    at rest false = (ps.0, rest)

at_number : (m k : ℕ) → is_at (nat_cmp m) k ≡ true → k ≡ m
at_number m k is = grind (arith)

not_at_number : (m k : ℕ) → is_at (nat_cmp m) k ≡ false → k ≢ m
not_at_number m k is = grind (arith)

insert_after : {X : Type 0} (e hi : ℕ) (x y z : X) → e < hi → match_ordering (nat_cmp hi e) x y z ≡ z
insert_after e hi x y z less = rw (after) refl
  where
    after : nat_cmp hi e ≡ Greater
    after = grind arith

-- what holds of each value holds of the one that is found
pub Each-found : {K X : Type 0} (P : X → Type 0) (test : K → Bool) (es : List (K × X)) (x : X) → Each (λ e. P e.1) es → lookup test es ≡ Some x → P x
Each-found P test [] x ps found = cc
Each-found P test (e ∷ es) x ps found = at (Each-found P test es x ps.1) (test e.0) found
  where
    at : (lookup test es ≡ Some x → P x) → (b : Bool) → cond b (Some e.1) (lookup test es) ≡ Some x → P x
    at rest true found = subst P here ps.0
      where
        here : e.1 ≡ x
        here = cc
    at rest false found = rest found

-- what is found passes, and has what each has
pub Each-find : {X : Type 0} (P : X → Type 0) (test : X → Bool) (xs : List X) (x : X) → Each P xs → find test xs ≡ Some x → P x × (test x ≡ true)
Each-find P test [] x ps found = cc
Each-find P test (y ∷ ys) x ps found = at (test y) refl (Each-find P test ys x ps.1) found
  where
    at : (b : Bool) → test y ≡ b → (find test ys ≡ Some x → P x × (test x ≡ true)) → cond b (Some y) (find test ys) ≡ Some x → P x × (test x ≡ true)
    at true is rest found = let same : y ≡ x = cc in (subst P same ps.0, subst (λ z. test z ≡ true) same is)
    at false is rest found = rest found

module _ {K S : Type 0} where
  -- the numbers rise, from lo on, and are below hi
  abbrev pub Climbs : ℕ → List (ℕ × Watched K S) → ℕ → Type 0
  Climbs lo [] hi = lo ≤ hi
  Climbs lo (e ∷ es) hi = lo ≤ e.0 × Climbs (e.0 + 1) es hi

  -- no two carry one response
  abbrev pub Separate : List (ℕ × Watched K S) → Type 0
  Separate [] = ⊤
  Separate (e ∷ es) = Each (λ f. e.1.handed.response ≢ f.1.handed.response) es × Separate es

  Climbs-from : (lo lower : ℕ) (es : List (ℕ × Watched K S)) (hi : ℕ) → lower ≤ lo → Climbs lo es hi → Climbs lower es hi
  Climbs-from lo lower [] hi below climbs = omega arith
  Climbs-from lo lower (e ∷ es) hi below climbs = (omega arith, climbs.1)

  pub Climbs-remove_entry : (test : ℕ → Bool) (lo : ℕ) (es : List (ℕ × Watched K S)) (hi : ℕ) → Climbs lo es hi → Climbs lo (remove_entry test es) hi
  Climbs-remove_entry test lo [] hi climbs = climbs
  Climbs-remove_entry test lo (e ∷ es) hi climbs = at (Climbs-remove_entry test (e.0 + 1) es hi climbs.1) (test e.0)
    where
      at : Climbs (e.0 + 1) (remove_entry test es) hi → (b : Bool) → Climbs lo (cond b es (e ∷ remove_entry test es)) hi
      at rest true = Climbs-from (e.0 + 1) lo es hi (omega (arith, climbs.0)) climbs.1
      at rest false = (climbs.0, rest)

  pub Climbs-push : (lo : ℕ) (es : List (ℕ × Watched K S)) (hi : ℕ) (w : Watched K S) → Climbs lo es hi → Climbs lo (es ++ (hi, w) ∷ []) (hi + 1)
  Climbs-push lo [] hi w climbs = (climbs, omega arith)
  Climbs-push lo (e ∷ es) hi w climbs = (climbs.0, Climbs-push (e.0 + 1) es hi w climbs.1)

  Climbs-le : (lo : ℕ) (es : List (ℕ × Watched K S)) (hi : ℕ) → Climbs lo es hi → lo ≤ hi
  Climbs-le lo [] hi climbs = climbs
  Climbs-le lo (e ∷ es) hi climbs = omega (arith, climbs.0, Climbs-le (e.0 + 1) es hi climbs.1)

  pub Climbs-below : (lo : ℕ) (es : List (ℕ × Watched K S)) (hi : ℕ) → Climbs lo es hi → Each (λ e. e.0 < hi) es
  Climbs-below lo [] hi climbs = tt
  Climbs-below lo (e ∷ es) hi climbs = (omega (arith, Climbs-le (e.0 + 1) es hi climbs.1), Climbs-below (e.0 + 1) es hi climbs.1)

  Climbs-above : (lo : ℕ) (es : List (ℕ × Watched K S)) (hi : ℕ) → Climbs lo es hi → Each (λ e. lo ≤ e.0) es
  Climbs-above lo [] hi climbs = tt
  Climbs-above lo (e ∷ es) hi climbs = (climbs.0, Each-imply (λ f. e.0 + 1 ≤ f.0) (λ f. lo ≤ f.0) (λ f le. omega (arith, le, climbs.0)) es (Climbs-above (e.0 + 1) es hi climbs.1))

  -- where a number is closed, none of the others is it
  pub Climbs-others : (m lo : ℕ) (es : List (ℕ × Watched K S)) (hi : ℕ) → Climbs lo es hi → Each (λ e. e.0 ≢ m) (remove_entry (is_at (nat_cmp m)) es)
  Climbs-others m lo [] hi climbs = tt
  Climbs-others m lo (e ∷ es) hi climbs = at (Climbs-others m (e.0 + 1) es hi climbs.1) (is_at (nat_cmp m) e.0) refl
    where
      at : Each (λ f. f.0 ≢ m) (remove_entry (is_at (nat_cmp m)) es) → (b : Bool) → is_at (nat_cmp m) e.0 ≡ b → Each (λ f. f.0 ≢ m) (cond b es (e ∷ remove_entry (is_at (nat_cmp m)) es))
      at rest true is = Each-imply (λ f. e.0 + 1 ≤ f.0) (λ f. f.0 ≢ m) (λ f le. omega (arith, le, at_number m e.0 is)) es (Climbs-above (e.0 + 1) es hi climbs.1)
      at rest false is = (not_at_number m e.0 is, rest)

  pub Climbs-watch : (f : ℕ × Watched K S → Watched K S) (lo : ℕ) (es : List (ℕ × Watched K S)) (hi : ℕ) → Climbs lo es hi → Climbs lo (map (λ e. (e.0, f e)) es) hi
  Climbs-watch f lo [] hi climbs = climbs
  Climbs-watch f lo (e ∷ es) hi climbs = (climbs.0, Climbs-watch f (e.0 + 1) es hi climbs.1)

  -- the next number goes to the end
  pub Climbs-insert : (lo : ℕ) (es : List (ℕ × Watched K S)) (hi : ℕ) (w : Watched K S) → Climbs lo es hi
      → insert_entry nat_cmp (seen (λ w. w.handed) es) hi w.handed ≡ seen (λ w. w.handed) (es ++ (hi, w) ∷ [])
  Climbs-insert lo [] hi w climbs = refl
  Climbs-insert lo (e ∷ es) hi w climbs =
      insert_after e.0 hi ((hi, w.handed) ∷ (e.0, e.1.handed) ∷ seen (λ w. w.handed) es) ((e.0, w.handed) ∷ seen (λ w. w.handed) es) ((e.0, e.1.handed) ∷ insert_entry nat_cmp (seen (λ w. w.handed) es) hi w.handed) (omega (arith, Climbs-le (e.0 + 1) es hi climbs.1)) ∙ ap (λ rest. (e.0, e.1.handed) ∷ rest) (Climbs-insert (e.0 + 1) es hi w climbs.1)

  pub Separate-remove_entry : (test : ℕ → Bool) (es : List (ℕ × Watched K S)) → Separate es → Separate (remove_entry test es)
  Separate-remove_entry test [] separate = tt
  Separate-remove_entry test (e ∷ es) separate = at (Separate-remove_entry test es separate.1) (test e.0)
    where
      at : Separate (remove_entry test es) → (b : Bool) → Separate (cond b es (e ∷ remove_entry test es))
      at rest true = separate.1
      at rest false = (Each-remove_entry test (λ f. e.1.handed.response ≢ f.1.handed.response) es separate.0, rest)

  pub Separate-push : (es : List (ℕ × Watched K S)) (g : ℕ × Watched K S) → Separate es → Each (λ e. e.1.handed.response ≢ g.1.handed.response) es → Separate (es ++ g ∷ [])
  Separate-push [] g separate apart = (tt, tt)
  Separate-push (e ∷ es) g separate apart = (Each-push (λ f. e.1.handed.response ≢ f.1.handed.response) es g separate.0 apart.0, Separate-push es g separate.1 apart.1)

  -- no other open delivery carries the response of one that is closed
  pub Separate-others : (test : ℕ → Bool) (es : List (ℕ × Watched K S)) (w : Watched K S) → Separate es → lookup test es ≡ Some w
      → Each (λ e. e.1.handed.response ≢ w.handed.response) (remove_entry test es)
  Separate-others test [] w separate found = tt
  Separate-others test (e ∷ es) w separate found = at (Separate-others test es w separate.1) (test e.0) found
    where
      at : (lookup test es ≡ Some w → Each (λ f. f.1.handed.response ≢ w.handed.response) (remove_entry test es)) → (b : Bool) → cond b (Some e.1) (lookup test es) ≡ Some w
          → Each (λ f. f.1.handed.response ≢ w.handed.response) (cond b es (e ∷ remove_entry test es))
      at rest true found = Each-imply (λ f. e.1.handed.response ≢ f.1.handed.response) (λ f. f.1.handed.response ≢ w.handed.response) (λ f apart same. apart (first ∙ sym same)) es separate.0
        where
          here : e.1 ≡ w
          here = cc

          first : e.1.handed.response ≡ w.handed.response
          first = ap (λ v. v.handed.response) here
      at rest false found = (clash, rest found)
        where
          clash : e.1.handed.response ≢ w.handed.response
          clash = Each-found (λ v. e.1.handed.response ≢ v.handed.response) test es w separate.0 found

  pub Separate-watch : (f : ℕ × Watched K S → Bool) (es : List (ℕ × Watched K S)) → Separate es → Separate (map (λ e. (e.0, record e.1 { live = f e })) es)
  Separate-watch f [] separate = tt
  Separate-watch f (e ∷ es) separate =
      (Each-map (λ e. (e.0, record e.1 { live = f e })) (λ g. e.1.handed.response ≢ g.1.handed.response) es separate.0, Separate-watch f es separate.1)

  -- what holds of each holds of the one that is found
  pub Each-lookup : (P : ℕ × Watched K S → Type 0) (m : ℕ) (es : List (ℕ × Watched K S)) (w : Watched K S) → Each P es → lookup (is_at (nat_cmp m)) es ≡ Some w → P (m, w)
  Each-lookup P m [] w ps found = cc
  Each-lookup P m (e ∷ es) w ps found = at (Each-lookup P m es w ps.1) (is_at (nat_cmp m) e.0) refl found
    where
      at : (lookup (is_at (nat_cmp m)) es ≡ Some w → P (m, w)) → (b : Bool) → is_at (nat_cmp m) e.0 ≡ b → cond b (Some e.1) (lookup (is_at (nat_cmp m)) es) ≡ Some w → P (m, w)
      at rest true is found = subst P same ps.0
        where
          same : e ≡ (m, w)
          same = rw (← at_number m e.0 is) (ap (λ v. (e.0, v)) here)
            where
              here : e.1 ≡ w
              here = cc
      at rest false is found = rest found
