-- What entries have of a key whose response is cached.
use Rattle.std.proofs.Common.{◌≡◌, refl, ap, sym, ◌∙◌, Bool, true, false, cond, List, [], ◌∷◌, Option, None, Some}
use Rattle.std.specs.Prelude.{IsSome, if◌then◌else◌}
use Rattle.std.specs.Option.{option_map, option_and_then}
use Rattle.std.specs.Map.{lookup, set_value}
use Rattle.std.specs.BTreeMap.{is_at}
use Rattle.std.specs.declared.cmp.Ordering.{Ordering}
use Rattle.resolver_delivery.specs.declared.entry.Entry.{Entry}
use Rattle.resolver_delivery.specs.declared.entry.Response.{Response}
use Rattle.resolver_delivery.specs.Entries.{Numbered, accepted, changed_at, entry_of, number_of, response_changed, response_of, state_of, with_response}
use Rattle.resolver_delivery.specs.Again.{flagged}

lookup-set : {K X : Type 0} (test : K → Bool) (es : List (K × X)) (v w : X) → lookup test es ≡ Some v → lookup test (set_value test es w) ≡ Some w
lookup-set test [] v w found = absurd cc
lookup-set test (e ∷ es) v w found = at (test e.0) refl found (lookup-set test es v w)
  where
    at : (b : Bool) → test e.0 ≡ b → cond b (Some e.1) (lookup test es) ≡ Some v → (lookup test es ≡ Some v → lookup test (set_value test es w) ≡ Some w)
        → lookup test (cond b ((e.0, w) ∷ es) (e ∷ set_value test es w)) ≡ Some w
    at true is found rest = rw is refl
    at false is found rest = rw is (rest found)

module _ {K S V C State : Type 0} (cmp : K → K → Ordering) (key : K) (d : Numbered K S V C State) where
  -- the entry of a key, with its response
  pub record Caches : Type 0 where
    pub entry : Entry V C State
    pub response : Response V C
    pub found : lookup (is_at (cmp key)) d.keys ≡ Some entry
    pub caches : entry.response ≡ Some response

  pub caches-some : IsSome (response_of cmp d key) → Caches
  caches-some is = at (entry_of cmp d key) refl is
    where
      none : IsSome {T = Response V C} None → ⊥
      none is = cc

      within : (y : Entry V C State) → entry_of cmp d key ≡ Some y → (r : Option (Response V C)) → y.response ≡ r → IsSome r → Caches
      within y there None caches is = absurd (none is)
      within y there (Some r) caches is = record { entry = y; response = r; found = there; caches = caches }

      at : (o : Option (Entry V C State)) → entry_of cmp d key ≡ o → IsSome (option_and_then (λ e. e.response) o) → Caches
      at None there is = absurd (none is)
      at (Some y) there is = within y there y.response refl is

  module _ (x : Caches) where
    abbrev pub noted : Bool → Response V C
    noted b = if b then accepted x.response else x.response

    abbrev pub flagged_entry : Bool → Entry V C State
    flagged_entry b = with_response (Some (noted b)) x.entry

    pub response-is : response_of cmp d key ≡ Some x.response
    response-is = ap (option_and_then (λ e. e.response)) x.found ∙ x.caches

    pub accepts-is : response_changed cmp key accepted d ≡ record d { keys = set_value (is_at (cmp key)) d.keys (flagged_entry true) }
    accepts-is =
        ap (λ p. record d { keys = changed_at (is_at (cmp key)) p (λ e. with_response (option_map accepted e.response) e) d.keys }) x.found
        ∙ ap (λ p. record d { keys = set_value (is_at (cmp key)) d.keys (with_response (option_map accepted p) x.entry) }) x.caches

    -- the entry once its response was noted, or not
    pub flagged-found : (b : Bool) → entry_of cmp (flagged cmp b key d) key ≡ Some (flagged_entry b)
    flagged-found true = ap (λ d. entry_of cmp d key) accepts-is ∙ lookup-set (is_at (cmp key)) d.keys x.entry (flagged_entry true) x.found
    flagged-found false = x.found ∙ ap (λ r. Some (with_response r x.entry)) x.caches

    pub flagged-response : (b : Bool) → response_of cmp (flagged cmp b key d) key ≡ Some (noted b)
    flagged-response b = ap (option_and_then (λ e. e.response)) (flagged-found b)

    pub flagged-number : (b : Bool) → number_of cmp (flagged cmp b key d) key ≡ number_of cmp d key
    flagged-number b = ap (option_and_then (λ e. e.number)) (flagged-found b) ∙ sym (ap (option_and_then (λ e. e.number)) x.found)

    pub flagged-state : (b : Bool) → state_of cmp (flagged cmp b key d) key ≡ state_of cmp d key
    flagged-state b = ap (option_map (λ e. e.state)) (flagged-found b) ∙ sym (ap (option_map (λ e. e.state)) x.found)

    pub flagged-next : (b : Bool) → (flagged cmp b key d).next ≡ d.next
    flagged-next true = refl
    flagged-next false = refl

    pub flagged-going : (b : Bool) → (flagged cmp b key d).going ≡ d.going
    flagged-going true = refl
    flagged-going false = refl

    pub noted-name : (b : Bool) → (noted b).name ≡ x.response.name
    noted-name true = refl
    noted-name false = refl

    pub noted-value : (b : Bool) → (noted b).value ≡ x.response.value
    noted-value true = refl
    noted-value false = refl
