-- A map with the value of one entry changed: what is seen of it, and what holds of each entry. So of lists by other words of the peer machine.
use Rattle.std.proofs.Common.{◌≡◌, refl, ap, ℕ, Bool, true, false, cond, List, [], ◌∷◌, filter, Option, None, Some, IfSome}
use Rattle.std.specs.Prelude.{filter_map, option_and_then, nat_le}
use Rattle.std.specs.List.{cons_option}
use Rattle.std.specs.Map.{lookup, set_value}
use Rattle.std.specs.BTreeMap.{insert_entry}
use Rattle.std.specs.BTreeSet.{insert_key}
use Rattle.std.specs.Ordering.{nat_cmp, match_ordering}
use Rattle.std.specs.declared.cmp.Ordering.{Ordering}
use Rattle.std.specs.declared.cmp.Ordering.TheVariants.{Less, Equal, Greater}
use Rattle.resolver_fetch_requests.specs.declared.requests.request.Request.{Request}
use Rattle.resolver_fetch_requests.specs.Requests.{soonest, sooner, is_sooner, if_overdue, overdue, by_id}
use Rattle.resolver_model_peer.specs.PeerRows.{change_entry}
use Rattle.resolver_model.proofs.Mapped.{seen}
use Rattle.resolver_model.specs.Lawful.{Each}

module _ {K X : Type 0} where
  pub Each-changed : (test : K → Bool) (f : X → X) (P : K × X → Type 0) (es : List (K × X)) → ((k : K) (x : X) → test k ≡ true → P (k, x) → P (k, f x)) → Each P es → Each P (change_entry test f es)
  Each-changed test f P [] keeps ps = tt
  Each-changed test f P (e ∷ es) keeps ps = at (test e.0) refl (Each-changed test f P es keeps ps.1)
    where
      at : (b : Bool) → test e.0 ≡ b → Each P (change_entry test f es) → Each P (cond b ((e.0, f e.1) ∷ es) (e ∷ change_entry test f es))
      at true is rest = (keeps e.0 e.1 is ps.0, ps.1)
      at false is rest = (ps.0, rest)

  pub Each-inserted : (cmp : K → K → Ordering) (P : K × X → Type 0) (es : List (K × X)) (k : K) (x : X) → Each P es → ((q : K) → P (q, x)) → Each P (insert_entry cmp es k x)
  Each-inserted cmp P [] k x ps p = (p k, tt)
  Each-inserted cmp P (e ∷ es) k x ps p = at (cmp k e.0) (Each-inserted cmp P es k x ps.1 p)
    where
      at : (o : Ordering) → Each P (insert_entry cmp es k x) → Each P (match_ordering o ((k, x) ∷ e ∷ es) ((e.0, x) ∷ es) (e ∷ insert_entry cmp es k x))
      at Less rest = (p k, ps)
      at Equal rest = (p e.0, ps.1)
      at Greater rest = (ps.0, rest)

  -- each is found by its key, as it is seen
  pub unmapped : {Y : Type 0} (g : X → Y) (P : K × Y → Type 0) (es : List (K × X)) → Each P (seen g es) → Each (λ e. P (e.0, g e.1)) es
  unmapped g P [] ps = tt
  unmapped g P (e ∷ es) ps = (ps.0, unmapped g P es ps.1)

module _ {X : Type 0} where
  pub Each-insert_key : (cmp : X → X → Ordering) (P : X → Type 0) (xs : List X) (x : X) → Each P xs → P x → Each P (insert_key cmp xs x)
  Each-insert_key cmp P [] x ps p = (p, tt)
  Each-insert_key cmp P (y ∷ ys) x ps p = at (cmp x y) (Each-insert_key cmp P ys x ps.1 p)
    where
      at : (o : Ordering) → Each P (insert_key cmp ys x) → Each P (match_ordering o (x ∷ y ∷ ys) (y ∷ ys) (y ∷ insert_key cmp ys x))
      at Less rest = (p, ps)
      at Equal rest = ps
      at Greater rest = (ps.0, rest)

  pub Each-filtered : (P : X → Type 0) (test : X → Bool) (xs : List X) → Each P xs → Each P (filter test xs)
  Each-filtered P test [] ps = tt
  Each-filtered P test (x ∷ xs) ps = at (test x) (Each-filtered P test xs ps.1)
    where
      at : (b : Bool) → Each P (filter test xs) → Each P (cond b (x ∷ filter test xs) (filter test xs))
      at true rest = (ps.0, rest)
      at false rest = rest

  pub Each-chosen : {Y : Type 0} (h : X → Option Y) (P : X → Type 0) (Q : Y → Type 0) → ((x : X) → P x → IfSome (h x) Q) → (xs : List X) → Each P xs → Each Q (filter_map h xs)
  Each-chosen h P Q keeps [] ps = tt
  Each-chosen {Y} h P Q keeps (x ∷ xs) ps = at (h x) (keeps x ps.0) (Each-chosen h P Q keeps xs ps.1)
    where
      at : (o : Option Y) → IfSome o Q → Each Q (filter_map h xs) → Each Q (cons_option o (filter_map h xs))
      at None q rest = rest
      at (Some y) q rest = (q, rest)

module _ {K X Y : Type 0} (g : X → Y) where
  pub changed-seen : (test : K → Bool) (f : X → X) (es : List (K × X)) (x : X) → lookup test es ≡ Some x → seen g (change_entry test f es) ≡ set_value test (seen g es) (g (f x))
  changed-seen test f [] x found = cc
  changed-seen test f (e ∷ es) x found = at (test e.0) found (changed-seen test f es x)
    where
      at : (b : Bool) → cond b (Some e.1) (lookup test es) ≡ Some x → (lookup test es ≡ Some x → seen g (change_entry test f es) ≡ set_value test (seen g es) (g (f x)))
          → seen g (cond b ((e.0, f e.1) ∷ es) (e ∷ change_entry test f es)) ≡ cond b ((e.0, g (f x)) ∷ seen g es) ((e.0, g e.1) ∷ set_value test (seen g es) (g (f x)))
      at true found rest = let here : e.1 ≡ x = cc in ap (λ y. (e.0, g (f y)) ∷ seen g es) here
      at false found rest = ap (λ ys. (e.0, g e.1) ∷ ys) (rest found)

  -- a change that is not seen
  pub unseen : (test : K → Bool) (f : X → X) (es : List (K × X)) → ((x : X) → lookup test es ≡ Some x → g (f x) ≡ g x) → seen g (change_entry test f es) ≡ seen g es
  unseen test f [] same = refl
  unseen test f (e ∷ es) same = at (test e.0) same (unseen test f es)
    where
      at : (b : Bool) → ((x : X) → cond b (Some e.1) (lookup test es) ≡ Some x → g (f x) ≡ g x) → (((x : X) → lookup test es ≡ Some x → g (f x) ≡ g x) → seen g (change_entry test f es) ≡ seen g es)
          → seen g (cond b ((e.0, f e.1) ∷ es) (e ∷ change_entry test f es)) ≡ (e.0, g e.1) ∷ seen g es
      at true same rest = ap (λ y. (e.0, y) ∷ seen g es) (same e.1 refl)
      at false same rest = ap (λ ys. (e.0, g e.1) ∷ ys) (rest same)

-- what holds of each request
module _ {K P : Type 0} (Q : Request K P → Type 0) where
  pub Each-by_id : (rs : List (ℕ × Request K P)) → Each (λ r. Q r.1) rs → Each (λ r. Q r.1) (by_id rs)
  Each-by_id [] qs = tt
  Each-by_id (r ∷ rs) qs = Each-inserted nat_cmp (λ r. Q r.1) (by_id rs) r.0 r.1 (Each-by_id rs qs.1) (λ id. qs.0)

  sooner-is : (r : ℕ × Request K P) (o : Option (ℕ × Request K P)) → Q r.1 → IfSome o (λ r. Q r.1) → Q (sooner r o).1
  sooner-is r None q p = q
  sooner-is r (Some s) q p = at (is_sooner s r)
    where
      at : (b : Bool) → Q (cond b s r).1
      at true = p
      at false = q

  soonest-is : (rs : List (ℕ × Request K P)) → Each (λ r. Q r.1) rs → IfSome (soonest rs) (λ r. Q r.1)
  soonest-is [] qs = tt
  soonest-is (r ∷ rs) qs = sooner-is r (soonest rs) qs.0 (soonest-is rs qs.1)

  pub overdue-is : (rs : List (ℕ × Request K P)) (now : ℕ) → Each (λ r. Q r.1) rs → IfSome (overdue rs now) (λ r. Q r.1)
  overdue-is rs now qs = at (soonest rs) (soonest-is rs qs)
    where
      some : (b : Bool) (r : ℕ × Request K P) → Q r.1 → IfSome (cond b (Some r) None) (λ r. Q r.1)
      some true r q = q
      some false r q = tt

      at : (o : Option (ℕ × Request K P)) → IfSome o (λ r. Q r.1) → IfSome (option_and_then (if_overdue now) o) (λ r. Q r.1)
      at None q = tt
      at (Some r) q = some (nat_le r.1.deadline now) r q
