-- The waiting keys by their dues, through every change of the entries.
use Rattle.std.proofs.Common.{◌≡◌, refl, ap, sym, ◌∙◌, subst, ℕ, Bool, true, false, cond, List, [], ◌∷◌, Option, None, Some, filter, map, arith, option_map, eq-eqb, ◌^◌, ◌<◌}
use Rattle.std.proofs.lemmas.Bool.Decides.{nat_tests}
use Rattle.std.proofs.lemmas.Cmp.{tied_itself}
use Rattle.std.proofs.lemmas.Grind.{common_steps}
use Rattle.std.specs.Cmp.{IsEquivalence, IsTotalOrder, Equal-is}
use Rattle.std.specs.List.Sorted.{IsStrictlySortedBy}
use Rattle.std.specs.Map.{keys_of, lookup, remove_entry, set_value}
use Rattle.std.specs.BTreeMap.{insert_entry, is_at}
use Rattle.std.specs.BTreeSet.{insert_key}
use Rattle.std.specs.Ordering.{is_eq, match_ordering, nat_cmp}
use Rattle.std.specs.declared.cmp.Ordering.{Ordering}
use Rattle.std.specs.declared.cmp.Ordering.TheVariants.{Less, Equal, Greater}
use Rattle.resolver_priority_set.specs.Priorities.{is_of, pair_order, put, without}
use Rattle.resolver_priority_set.proofs.Priorities.{is_of-same, is_of-other, then-equal, without-none, first_of-none}
use Rattle.resolver_base.specs.declared.fault.Fault.{Fault}
use Rattle.resolver_types.specs.declared.delivery.Delivery.{Delivery}
use Rattle.resolver_types.specs.declared.outcome.Outcome.{Outcome}
use Rattle.std.specs.Prelude.{Result, Ok, Err, option_and_then, IfOk, IsSome, ◌==◌}
use Rattle.std.specs.Result.{OnOk, OnErr}
use Rattle.resolver_delivery.specs.Again.{flagged, handed_again}
use Rattle.resolver_delivery.proofs.Cached.{caches-some, flagged-state}
use Rattle.resolver_delivery.specs.Entries.{Numbered, accepted, begun_again, changed, changed_at, completed, completed_from, completion_of, delivered, ended, fresh as fresh_entry, is_live, is_number, number_of, numbered, redelivered, response_of, state_of, with_response, with_state}
use Rattle.resolver_delivery.specs.declared.entry.Open.{Open}
use Rattle.resolver_delivery.specs.declared.entry.Response.{Response}
use Rattle.resolver_delivery.specs.declared.completion.Completion.{Completion}
use Rattle.resolver_delivery.specs.declared.completion.Aborted.{Aborted}
use Rattle.resolver_model_opaque.specs.declared.phase.Stage.{Stage}
use Rattle.resolver_model_opaque.specs.declared.phase.Stage.TheVariants as stages
use Rattle.resolver_model_opaque.specs.OpaqueStages.{Kept, attempt_in, if_same, if_under, key_under, kept_at, IsLed, resting, retry_at, retry_of, RestsAt, Rests, IsAsked, AreDue, waits}
use Rattle.resolver_model_opaque.proofs.Written.{set-set, lookup-set_self}
use Rattle.resolver_model_opaque.proofs.Led.{kept-inserted, kept-same, kept-removed, kept-changed, lookup-kept}

module _ {K : Type 0} {cmp : K → K → Ordering} (o : IsTotalOrder cmp) where
  -- the pairs of a key after another one was taken out
  pub pairs-without : (x q : K) (pairs : List (ℕ × K)) → filter (is_of cmp q) (without cmp x pairs) ≡ cond (is_eq (cmp x q)) [] (filter (is_of cmp q) pairs)
  pairs-without x q [] = grind (arith, common_steps)
  pairs-without x q (p ∷ pairs) =
      let rest = pairs-without x q pairs in
      let of = is_of-other o x q p in
      grind (arith, common_steps, rest, of)

  -- equal keys have the same pairs
  pairs-same : (x q : K) (pairs : List (ℕ × K)) → cmp x q ≡ Equal → filter (is_of cmp x) pairs ≡ filter (is_of cmp q) pairs
  pairs-same x q [] same = refl
  pairs-same x q (p ∷ pairs) same =
      ap (λ b. cond b (p ∷ filter (is_of cmp x) pairs) (filter (is_of cmp x) pairs)) (is_of-same o x q p same)
      ∙ ap (λ (ps : List (ℕ × K)). cond (is_of cmp q p) (p ∷ ps) ps) (pairs-same x q pairs same)

  -- the pairs of a key behind a new one
  pairs-front : (p : ℕ × K) (q : K) (pairs : List (ℕ × K)) → filter (is_of cmp p.1) pairs ≡ []
      → filter (is_of cmp q) (p ∷ pairs) ≡ cond (is_eq (cmp p.1 q)) (p ∷ []) (filter (is_of cmp q) pairs)
  pairs-front p q pairs none =
      let of = is_of-other o p.1 q p in
      let here = is_of-same o p.1 q p in
      let same = pairs-same p.1 q pairs in
      let itself = tied_itself o p.1 in
      let tied = Equal-is (cmp p.1 q) in
      grind (arith, common_steps, of, here, same, itself, tied, none)

  -- the pairs of a key after another one was put in
  pairs-insert : (p : ℕ × K) (q : K) (pairs : List (ℕ × K)) → filter (is_of cmp p.1) pairs ≡ []
      → filter (is_of cmp q) (insert_key (pair_order nat_cmp cmp) pairs p) ≡ cond (is_eq (cmp p.1 q)) (p ∷ []) (filter (is_of cmp q) pairs)
  pairs-insert p q [] none = pairs-front p q [] refl
  pairs-insert p q (e ∷ pairs) none = at (pairs-insert p q pairs others.1) (pair_order nat_cmp cmp p e) refl
    where
      apart : (b : Bool) → cond b (e ∷ filter (is_of cmp p.1) pairs) (filter (is_of cmp p.1) pairs) ≡ [] → (b ≡ false) × (filter (is_of cmp p.1) pairs ≡ [])
      apart true is = cc
      apart false is = (refl, is)

      others : (is_eq (cmp p.1 e.1) ≡ false) × (filter (is_of cmp p.1) pairs ≡ [])
      others = apart (is_eq (cmp p.1 e.1)) none

      never : is_of cmp q e ≡ true → is_eq (cmp p.1 q) ≡ true → ⊥
      never of same = let clash : true ≡ false = sym same ∙ (sym (is_of-other o p.1 q e of) ∙ others.0) in cc

      behind : (b c : Bool) (fs : List (ℕ × K)) → (b ≡ true → c ≡ true → ⊥) → cond b (e ∷ cond c (p ∷ []) fs) (cond c (p ∷ []) fs) ≡ cond c (p ∷ []) (cond b (e ∷ fs) fs)
      behind true true fs not_both = absurd (not_both refl refl)
      behind true false fs not_both = refl
      behind false c fs not_both = refl

      at : filter (is_of cmp q) (insert_key (pair_order nat_cmp cmp) pairs p) ≡ cond (is_eq (cmp p.1 q)) (p ∷ []) (filter (is_of cmp q) pairs)
          → (a : Ordering) → pair_order nat_cmp cmp p e ≡ a
          → filter (is_of cmp q) (match_ordering a (p ∷ e ∷ pairs) (e ∷ pairs) (e ∷ insert_key (pair_order nat_cmp cmp) pairs p)) ≡ cond (is_eq (cmp p.1 q)) (p ∷ []) (filter (is_of cmp q) (e ∷ pairs))
      at rest Less is = pairs-front p q (e ∷ pairs) none
      at rest Equal is = let both = then-equal (nat_cmp p.0 e.0) (cmp p.1 e.1) in grind (arith, common_steps, is, both, others.0)
      at rest Greater is =
          ap (λ (ps : List (ℕ × K)). cond (is_of cmp q e) (e ∷ ps) ps) rest
          ∙ behind (is_of cmp q e) (is_eq (cmp p.1 q)) (filter (is_of cmp q) pairs) never

  pub pairs-put : (r : ℕ) (x q : K) (pairs : List (ℕ × K)) → filter (is_of cmp x) pairs ≡ []
      → filter (is_of cmp q) (put nat_cmp cmp pairs (r, x)) ≡ cond (is_eq (cmp x q)) ((r, x) ∷ []) (filter (is_of cmp q) pairs)
  pairs-put r x q pairs none =
      let bare = ap (map (λ (p : ℕ × K). p.0)) none in
      ap (λ k. filter (is_of cmp q) (insert_key (pair_order nat_cmp cmp) (without cmp k pairs) (r, k))) (first_of-none o x pairs bare)
      ∙ ap (λ ps. filter (is_of cmp q) (insert_key (pair_order nat_cmp cmp) ps (r, x))) (without-none o x pairs bare)
      ∙ pairs-insert (r, x) q pairs none

some-number : (m n : ℕ) → Some m ≡ Some n → m ≡ n
some-number m n is = cc

some-key : {K : Type 0} (k l : K) → Some k ≡ Some l → k ≡ l
some-key k l is = cc

same-number : (m n : ℕ) → (m == n) ≡ true → m ≡ n
same-number m n is = grind (arith, nat_tests)

-- A delivery that ends, and a response that is noted to be right, leave a key at rest.
rests-ended : {V : Type 0} (stage : Stage) (number : Option ℕ) (response : Option (Response V (Unit {0}))) → RestsAt stage number response → RestsAt stage None response
rests-ended (stages.Waiting due) number response rests = record { idle = refl; forgotten = rests.forgotten; soon = rests.soon }
rests-ended (stages.Asked attempt) number response rests = tt

rests-accepted : {V : Type 0} (stage : Stage) (number : Option ℕ) (response : Option (Response V (Unit {0}))) → RestsAt stage number response → RestsAt stage number (option_map accepted response)
rests-accepted (stages.Waiting due) number response rests = record { idle = rests.idle; forgotten = ap (option_map accepted) rests.forgotten; soon = rests.soon }
rests-accepted (stages.Asked attempt) number response rests = tt

module _ {K V : Type 0} {cmp : K → K → Ordering} (o : IsTotalOrder cmp) (laws : IsEquivalence (λ k l. is_eq (cmp k l))) where
  -- one key's entry has changed, and the retries with it
  due-changed : (k : K) (after : Option (K × Kept V)) (retries left : List (ℕ × K)) (es fs : List (K × Kept V)) → AreDue cmp retries es
      → ((q : K) → kept_at cmp fs q ≡ cond (is_eq (cmp k q)) after (kept_at cmp es q))
      → ((q : K) → filter (is_of cmp q) left ≡ cond (is_eq (cmp k q)) (retry_of after) (filter (is_of cmp q) retries))
      → Rests after → AreDue cmp left fs
  due-changed k after retries left es fs d kept moved rests = record {
    due = λ q. moved q ∙ (due-at q (is_eq (cmp k q)) (d.due q) ∙ ap retry_of (sym (kept q)));
    rests = λ q. subst Rests (sym (kept q)) (rests-at q (is_eq (cmp k q)) (d.rests q));
  }
    where
      due-at : (q : K) (b : Bool) → filter (is_of cmp q) retries ≡ retry_of (kept_at cmp es q) → cond b (retry_of after) (filter (is_of cmp q) retries) ≡ retry_of (cond b after (kept_at cmp es q))
      due-at q true is = refl
      due-at q false is = is

      rests-at : (q : K) (b : Bool) → Rests (kept_at cmp es q) → Rests (cond b after (kept_at cmp es q))
      rests-at q true is = rests
      rests-at q false is = is

  module _ (k : K) (retries : List (ℕ × K)) (es : List (K × Kept V)) (d : AreDue cmp retries es) where
    -- the retries stay, where the key has the same one as before
    stay : (after : List (ℕ × K)) → retry_of (kept_at cmp es k) ≡ after → (q : K) → filter (is_of cmp q) retries ≡ cond (is_eq (cmp k q)) after (filter (is_of cmp q) retries)
    stay after is q = at (is_eq (cmp k q)) refl
      where
        at : (b : Bool) → is_eq (cmp k q) ≡ b → filter (is_of cmp q) retries ≡ cond b after (filter (is_of cmp q) retries)
        at true k_q = d.due q ∙ (ap retry_of (kept-same o laws k q es k_q) ∙ is)
        at false k_q = refl

    -- a key that wasn't there is asked for
    pub due-asked : (attempt : ℕ) → kept_at cmp es k ≡ None → AreDue cmp retries (insert_entry cmp es k (fresh_entry (stages.Asked attempt)))
    due-asked attempt none =
        due-changed k (Some (k, fresh_entry (stages.Asked attempt))) retries retries es _ d (λ q. kept-inserted o laws k q es (fresh_entry (stages.Asked attempt)) none) (stay [] (ap retry_of none)) tt

    -- a key is asked for again
    pub due-again : (attempt : ℕ) → AreDue cmp (without cmp k retries) (changed_at (is_at (cmp k)) (lookup (is_at (cmp k)) es) (with_state (stages.Asked attempt)) es)
    due-again attempt =
        due-changed k (option_map (λ f. (f.0, with_state (stages.Asked attempt) f.1)) (kept_at cmp es k)) retries (without cmp k retries) es _ d (λ q. kept-changed o laws k q es (with_state (stages.Asked attempt)))
        (λ q. pairs-without o k q retries ∙ ap (λ ps. cond (is_eq (cmp k q)) ps (filter (is_of cmp q) retries)) (none (kept_at cmp es k))) (rests (kept_at cmp es k))
      where
        none : (p : Option (K × Kept V)) → [] ≡ retry_of (option_map (λ f. (f.0, with_state (stages.Asked attempt) f.1)) p)
        none None = refl
        none (Some f) = refl

        rests : (p : Option (K × Kept V)) → Rests (option_map (λ f. (f.0, with_state (stages.Asked attempt) f.1)) p)
        rests None = tt
        rests (Some f) = tt

    -- a key is let go
    pub due-removed : (left : List (ℕ × K)) → IsStrictlySortedBy cmp (keys_of es)
        → left ≡ cond (waits (option_map (λ e. e.state) (lookup (is_at (cmp k)) es))) (without cmp k retries) retries
        → AreDue cmp left (remove_entry (is_at (cmp k)) es)
    due-removed left ordered leaves = at (kept_at cmp es k) refl (leaves ∙ ap (λ o. cond (waits (option_map (λ e. e.state) o)) (without cmp k retries) retries) (lookup-kept o laws k es))
      where
        waiting : left ≡ without cmp k retries → AreDue cmp left (remove_entry (is_at (cmp k)) es)
        waiting is = rw is (due-changed k None retries (without cmp k retries) es _ d (λ q. kept-removed o laws k q es ordered) (λ q. pairs-without o k q retries) tt)

        other : left ≡ retries → retry_of (kept_at cmp es k) ≡ [] → AreDue cmp left (remove_entry (is_at (cmp k)) es)
        other is none = rw is (due-changed k None retries retries es _ d (λ q. kept-removed o laws k q es ordered) (stay [] none) tt)

        staged : (f : K × Kept V) (stage : Stage) → f.1.state ≡ stage → kept_at cmp es k ≡ Some f → left ≡ cond (waits (Some f.1.state)) (without cmp k retries) retries
            → AreDue cmp left (remove_entry (is_at (cmp k)) es)
        staged f (stages.Waiting due) at kept is = waiting (is ∙ ap (λ s. cond (waits (Some s)) (without cmp k retries) retries) at)
        staged f (stages.Asked attempt) at kept is = other (is ∙ ap (λ s. cond (waits (Some s)) (without cmp k retries) retries) at) (ap retry_of kept ∙ ap (retry_at f.0) at)

        at : (p : Option (K × Kept V)) → kept_at cmp es k ≡ p → left ≡ cond (waits (option_map (λ e. e.state) (option_map (λ (f : K × Kept V). f.1) p))) (without cmp k retries) retries
            → AreDue cmp left (remove_entry (is_at (cmp k)) es)
        at None kept is = other is (ap retry_of kept)
        at (Some f) kept is = staged f f.1.state refl kept is

    -- a key that was asked for waits
    pub due-waits : (f : K × Kept V) (attempt due : ℕ) → kept_at cmp es k ≡ Some f → f.1.state ≡ stages.Asked attempt → due < 2 ^ 95 → is_eq (cmp k f.0) ≡ true
        → AreDue cmp (put nat_cmp cmp retries (due, f.0)) (changed_at (is_at (cmp k)) (lookup (is_at (cmp k)) es) (resting due) es)
    due-waits f attempt due kept asked soon same =
        due-changed k (option_map (λ f. (f.0, resting due f.1)) (kept_at cmp es k)) retries _ es _ d (λ q. kept-changed o laws k q es (resting due))
        (λ q. pairs-put o due f.0 q retries none ∙ ap (λ b. cond b ((due, f.0) ∷ []) (filter (is_of cmp q) retries)) (sym (laws.congr k f.0 q same)) ∙ ap (λ p. cond (is_eq (cmp k q)) (retry_of (option_map (λ f. (f.0, resting due f.1)) p)) (filter (is_of cmp q) retries)) (sym kept))
        (subst (λ p. Rests (option_map (λ f. (f.0, resting due f.1)) p)) (sym kept) (record { idle = refl; forgotten = refl; soon = soon }))
      where
        none : filter (is_of cmp f.0) retries ≡ []
        none = d.due f.0 ∙ (ap retry_of (kept-same o laws k f.0 es same ∙ kept) ∙ ap (retry_at f.0) asked)

    -- a change that leaves the key at its stage
    pub due-touched : (change : Kept V → Kept V) → ((e : Kept V) → (change e).state ≡ e.state) → ((f : K × Kept V) → kept_at cmp es k ≡ Some f → RestsAt (change f.1).state (change f.1).number (change f.1).response)
        → AreDue cmp retries (changed_at (is_at (cmp k)) (lookup (is_at (cmp k)) es) change es)
    due-touched change stays rests =
        due-changed k (option_map (λ f. (f.0, change f.1)) (kept_at cmp es k)) retries retries es _ d (λ q. kept-changed o laws k q es change)
        (stay (retry_of (option_map (λ f. (f.0, change f.1)) (kept_at cmp es k))) (same (kept_at cmp es k))) (still (kept_at cmp es k) refl)
      where
        same : (p : Option (K × Kept V)) → retry_of p ≡ retry_of (option_map (λ f. (f.0, change f.1)) p)
        same None = refl
        same (Some f) = ap (retry_at f.0) (sym (stays f.1))

        still : (p : Option (K × Kept V)) → kept_at cmp es k ≡ p → Rests (option_map (λ f. (f.0, change f.1)) p)
        still None is = tt
        still (Some f) is = rests f is

rests-asked : {V : Type 0} (stage : Stage) (number : Option ℕ) (response : Option (Response V (Unit {0}))) → IsAsked (Some stage) → RestsAt stage number response
rests-asked (stages.Waiting due) number response asked = absurd asked
rests-asked (stages.Asked attempt) number response asked = tt

-- a key that has a delivery in progress doesn't wait
asked-judged : {V : Type 0} (stage : Stage) (number : Option ℕ) (response : Option (Response V (Unit {0}))) (n : ℕ) → number ≡ Some n → RestsAt stage number response → IsAsked (Some stage)
asked-judged (stages.Waiting due) number response n is rests = absurd (clash is rests.idle)
  where
    clash : number ≡ Some n → number ≡ None → ⊥
    clash is none = cc
asked-judged (stages.Asked attempt) number response n is rests = tt

-- where no key is
pub due-none : {K V : Type 0} (cmp : K → K → Ordering) → AreDue {K = K} {V = V} cmp [] []
due-none cmp = record { due = λ q. refl; rests = λ q. tt }

-- Deliveries, and what is noted of a response, leave each key at its stage.
module _ {K V S : Type 0} {cmp : K → K → Ordering} (o : IsTotalOrder cmp) (laws : IsEquivalence (λ k l. is_eq (cmp k l))) (retries : List (ℕ × K)) (d : Numbered K S V (Unit {0}) Stage) (l : AreDue cmp retries d.keys) where
  rests-at : (key : K) (f : K × Kept V) (number : Option ℕ) (response : Option (Response V (Unit {0}))) → IsAsked (state_of cmp d key) → kept_at cmp d.keys key ≡ Some f → RestsAt f.1.state number response
  rests-at key f number response asked kept =
      rests-asked f.1.state number response (subst (λ (p : Option (Kept V)). IsAsked (option_map (λ e. e.state) p)) (lookup-kept o laws key d.keys ∙ ap (option_map (λ e. e.1)) kept) asked)

  pub due-delivered : (delivery : Delivery K S) (value : V) (e : Numbered K S V (Unit {0}) Stage) (result : Result ℕ Fault) → IsAsked (state_of cmp d delivery.key)
      → OnOk result (e ≡ delivered cmp delivery tt value d) → OnErr result (e ≡ d) → AreDue cmp retries e.keys
  due-delivered delivery value e (Ok number) asked ok err =
      rw ok (due-touched o laws delivery.key retries d.keys l (λ e. numbered d.next (with_response (Some (record { name = d.next; value = value; context = tt; accepted = false })) e)) (λ e. refl)
      (λ f kept. rests-at delivery.key f (Some d.next) (Some (record { name = d.next; value = value; context = tt; accepted = false })) asked kept))
  due-delivered delivery value e (Err fault) asked ok err = rw err l

  pub due-redelivered : (delivery : Delivery K S) → IsAsked (state_of cmp d delivery.key) → AreDue cmp retries (redelivered cmp delivery d).keys
  due-redelivered delivery asked = at (response_of cmp d delivery.key)
    where
      at : (p : Option (Response V (Unit {0}))) → AreDue cmp retries (begun_again cmp delivery p d).keys
      at None = l
      at (Some r) = due-touched o laws delivery.key retries d.keys l (λ e. numbered d.next e) (λ e. refl) (λ f kept. rests-at delivery.key f (Some d.next) f.1.response asked kept)

  pub due-flagged : (accepts : Bool) (key : K) → AreDue cmp retries (flagged cmp accepts key d).keys
  due-flagged true key = due-touched o laws key retries d.keys l (λ e. with_response (option_map accepted e.response) e) (λ e. refl) (λ f kept. rests-accepted f.1.state f.1.number f.1.response (subst Rests kept (l.rests key)))
  due-flagged false key = l

  pub due-completed : (number : ℕ) (verdict : Option Outcome) (e : Numbered K S V (Unit {0}) Stage) (result : Result (Completion K S (Unit {0})) Aborted) → (result, e) ≡ completed cmp d number verdict → AreDue cmp retries e.keys
  due-completed number verdict e result is = subst (λ e. AreDue cmp retries e.keys) (sym (ap (λ p. p.1) is)) (at (lookup (is_at (nat_cmp number)) d.going))
    where
      open_at : (b : Bool) (p : Open K S (Unit {0})) → AreDue cmp retries (cond b (record d { keys = changed_at (is_at (cmp p.delivery.key)) (lookup (is_at (cmp p.delivery.key)) d.keys) ended d.keys }) d).keys
      open_at true p = due-touched o laws p.delivery.key retries d.keys l ended (λ e. refl) (λ f kept. rests-ended f.1.state f.1.number f.1.response (subst Rests kept (l.rests p.delivery.key)))
      open_at false p = l

      at : (p : Option (Open K S (Unit {0}))) → AreDue cmp retries (completed_from cmp d number verdict p).1.keys
      at None = l
      at (Some p) = open_at (is_live cmp d number p) p

  -- a key whose delivery in progress is completed was asked for last
  pub asked-completed : (number : ℕ) (verdict : Option Outcome) (e : Numbered K S V (Unit {0}) Stage) (result : Result (Completion K S (Unit {0})) Aborted) → (result, e) ≡ completed cmp d number verdict
      → IfOk result (λ c. c.canceled ≡ false → IsAsked (state_of cmp e c.delivery.key))
  asked-completed number verdict e result is =
      subst (λ p. IfOk p.0 (λ c. c.canceled ≡ false → IsAsked (state_of cmp p.1 c.delivery.key))) (sym is) (at (lookup (is_at (nat_cmp number)) d.going))
    where
      numbered-at : (k : K) (p : Option (K × Kept V)) → kept_at cmp d.keys k ≡ p → is_number (option_and_then (λ e. e.number) (option_map (λ e. e.1) p)) number ≡ true
          → IsAsked (option_map (λ (e : Kept V). e.state) (option_map (λ (e : K × Kept V). e.1) (option_map (λ (f : K × Kept V). (f.0, ended f.1)) p)))
      numbered-at k None kept live = cc
      numbered-at k (Some f) kept live = asked-judged f.1.state f.1.number f.1.response number (number_is f.1.number live) (subst Rests kept (l.rests k))
        where
          number_is : (m : Option ℕ) → is_number m number ≡ true → m ≡ Some number
          number_is None is = cc
          number_is (Some m) is = ap Some (same-number m number is)

      after : (k : K) → is_number (option_and_then (λ e. e.number) (lookup (is_at (cmp k)) d.keys)) number ≡ true
          → IsAsked (option_map (λ (e : Kept V). e.state) (lookup (is_at (cmp k)) (changed_at (is_at (cmp k)) (lookup (is_at (cmp k)) d.keys) ended d.keys)))
      after k live =
          subst (λ (p : Option (Kept V)). IsAsked (option_map (λ e. e.state) p))
          (sym (lookup-kept o laws k (changed_at (is_at (cmp k)) (lookup (is_at (cmp k)) d.keys) ended d.keys)
          ∙ ap (option_map (λ e. e.1)) (kept-changed o laws k k d.keys ended ∙ ap (λ b. cond b (option_map (λ f. (f.0, ended f.1)) (kept_at cmp d.keys k)) (kept_at cmp d.keys k)) (laws.refl k))))
          (numbered-at k (kept_at cmp d.keys k) refl (ap (λ p. is_number (option_and_then (λ e. e.number) p) number) (sym (lookup-kept o laws k d.keys)) ∙ live))

      by_live : (p : Open K S (Unit {0})) (verdict : Option Outcome) (b : Bool) → is_live cmp d number p ≡ b
          → IfOk (completion_of p verdict b) (λ c. c.canceled ≡ false → IsAsked (state_of cmp (record (cond b (changed cmp p.delivery.key ended d) d) { going = remove_entry (is_at (nat_cmp number)) d.going }) c.delivery.key))
      by_live p None true live = λ still. after p.delivery.key live
      by_live p (Some v) true live = λ still. after p.delivery.key live
      by_live p None false live = tt
      by_live p (Some v) false live = λ still. absurd (clash still)
        where
          clash : true ≡ false → ⊥
          clash is = cc

      at : (p : Option (Open K S (Unit {0}))) → IfOk (completed_from cmp d number verdict p).0 (λ c. c.canceled ≡ false → IsAsked (state_of cmp (completed_from cmp d number verdict p).1 c.delivery.key))
      at None = tt
      at (Some p) = by_live p verdict (is_live cmp d number p) refl

module _ {K V : Type 0} {cmp : K → K → Ordering} (o : IsTotalOrder cmp) (laws : IsEquivalence (λ k l. is_eq (cmp k l))) (next : ℕ) (asked : List (ℕ × K)) (es : List (K × Kept V)) (l : IsLed cmp next asked es) (k : K) where
  -- a key that was asked for last, and its attempt
  pub record Stands (attempt : ℕ) : Type 0 where
    pub entry : K × Kept V
    pub kept : kept_at cmp es k ≡ Some entry
    pub state : entry.1.state ≡ stages.Asked attempt
    pub leads : if_same cmp k (lookup (is_at (nat_cmp attempt)) asked) ≡ Some entry.0

  pub stands : (attempt : ℕ) → Some attempt ≡ option_and_then attempt_in (option_map (λ (e : Kept V). e.state) (lookup (is_at (cmp k)) es)) → Stands attempt
  stands attempt is = at (kept_at cmp es k) refl (is ∙ ap (λ p. option_and_then attempt_in (option_map (λ (e : Kept V). e.state) p)) (lookup-kept o laws k es))
    where
      in-stage : (f : K × Kept V) → kept_at cmp es k ≡ Some f → (stage : Stage) → f.1.state ≡ stage → Some attempt ≡ attempt_in stage → Stands attempt
      in-stage f kept (stages.Waiting due) state is = cc
      in-stage f kept (stages.Asked a) state is =
          let same : attempt ≡ a = some-number attempt a is in
          record {
            entry = f;
            kept = kept;
            state = state ∙ ap (λ (n : ℕ). stages.Asked n) (sym same);
            leads = l.led k attempt ∙ (ap (key_under attempt) kept ∙ (ap (if_under attempt f.0) state ∙ ap (λ b. cond b (Some f.0) None) (eq-eqb attempt a same)));
          }

      at : (p : Option (K × Kept V)) → kept_at cmp es k ≡ p → Some attempt ≡ option_and_then attempt_in (option_map (λ (e : Kept V). e.state) (option_map (λ (e : K × Kept V). e.1) p)) → Stands attempt
      at None kept is = cc
      at (Some f) kept is = in-stage f kept f.1.state refl is

-- a key that was asked for last has an attempt
pub asked-attempt : (o : Option Stage) → IsAsked o → None ≡ option_and_then attempt_in o → ⊥
asked-attempt None asked none = asked
asked-attempt (Some (stages.Asked attempt)) asked none = cc
asked-attempt (Some (stages.Waiting due)) asked none = asked

pub led-nowhere : {K : Type 0} (cmp : K → K → Ordering) (k : K) (l : K) (p : Option K) → None ≡ p → if_same cmp k p ≡ Some l → ⊥
led-nowhere cmp k l p none is = let clash : None ≡ Some l = ap (if_same cmp k) none ∙ is in cc

pub led-same : {K : Type 0} (cmp : K → K → Ordering) (k l held : K) (p : Option K) → Some held ≡ p → if_same cmp k p ≡ Some l → (held ≡ l) × (is_eq (cmp k l) ≡ true)
led-same cmp k l held p some is = at (is_eq (cmp k held)) refl (ap (if_same cmp k) some ∙ is)
  where
    at : (b : Bool) → is_eq (cmp k held) ≡ b → cond b (Some held) None ≡ Some l → (held ≡ l) × (is_eq (cmp k l) ≡ true)
    at true same is = let held_is : held ≡ l = some-key held l is in (held_is, ap (λ x. is_eq (cmp k x)) (sym held_is) ∙ same)
    at false same is = cc

-- what was known of a key without a delivery in progress is forgotten, and it waits
pub rested : {K V S : Type 0} (cmp : K → K → Ordering) (key : K) (due : ℕ) (d : Numbered K S V (Unit {0}) Stage) → number_of cmp d key ≡ None
    → changed cmp key (with_state (stages.Waiting due)) (changed cmp key (with_response None) d) ≡ changed cmp key (resting due) d
rested {K} {V} {S} cmp key due d idle = ap (λ es. record d { keys = es }) (at (lookup (is_at (cmp key)) d.keys) refl idle)
  where
    at : (o : Option (Kept V)) → lookup (is_at (cmp key)) d.keys ≡ o → option_and_then (λ (e : Kept V). e.number) o ≡ None
        → changed_at (is_at (cmp key)) (lookup (is_at (cmp key)) (changed_at (is_at (cmp key)) o (with_response None) d.keys)) (with_state (stages.Waiting due)) (changed_at (is_at (cmp key)) o (with_response None) d.keys)
        ≡ changed_at (is_at (cmp key)) o (resting due) d.keys
    at None is idle = rw is refl
    at (Some e) is idle =
        ap (λ o. changed_at (is_at (cmp key)) o (with_state (stages.Waiting due)) (set_value (is_at (cmp key)) d.keys (with_response None e))) (lookup-set_self (is_at (cmp key)) d.keys e (with_response None e) is)
        ∙ (set-set (is_at (cmp key)) d.keys (with_response None e) (with_state (stages.Waiting due) (with_response None e))
        ∙ ap (λ (n : Option ℕ). set_value (is_at (cmp key)) d.keys (record { number = n; response = None; state = stages.Waiting due })) idle)

-- Handing out again leaves each key at its stage, and so does what was noted before it was refused.
pub due-handed : {K V S T : Type 0} {cmp : K → K → Ordering} (o : IsTotalOrder cmp) (laws : IsEquivalence (λ k l. is_eq (cmp k l))) (retries : List (ℕ × K)) (d : Numbered K S V (Unit {0}) Stage) → AreDue cmp retries d.keys
    → (delivery : Delivery K S) (accepts : Bool) (e : Numbered K S V (Unit {0}) Stage) (result : Result T Fault) → IsAsked (state_of cmp d delivery.key) → IsSome (response_of cmp d delivery.key)
    → OnOk result (e ≡ handed_again cmp delivery accepts d) → OnErr result (e ≡ flagged cmp accepts delivery.key d) → AreDue cmp retries e.keys
due-handed {cmp} o laws retries d l delivery accepts e (Ok handed) asked cached ok err =
    let x = caches-some cmp delivery.key d cached in
    rw ok (due-redelivered o laws retries (flagged cmp accepts delivery.key d) (due-flagged o laws retries d l accepts delivery.key) delivery (rw (flagged-state cmp delivery.key d x accepts) asked))
due-handed {cmp} o laws retries d l delivery accepts e (Err fault) asked cached ok err = rw err (due-flagged o laws retries d l accepts delivery.key)
