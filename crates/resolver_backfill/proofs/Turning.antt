-- The answers of a plan's calls lead from what one plan gives to what the next gives.
use Rattle.std.proofs.Common.{◌≡◌, ◌∙◌, sym, ap, refl, Bool, true, false, true≢false, not, ◌&&◌, ◌||◌, cond, ℕ, List, [], ◌∷◌, Option, None, Some, filter, map, Result}
use Rattle.std.specs.List.{list_all, list_any}
use Rattle.std.specs.Cmp.{IsTotalOrder}
use Rattle.resolver_base.specs.declared.fault.Fault.{Fault}
use Rattle.resolver_base.specs.declared.feedback.Feedback.{Feedback}
use Rattle.resolver_types.specs.Names.{Names, same_key, same_subscriber}
use Rattle.resolver_types.specs.Subscribers.{is_among}
use Rattle.resolver_types.specs.Demand.{Act, Pair, acts, added_all, kept, mark_of, without_named, IsSameDemand}
use Rattle.resolver_types.specs.declared.fetch.Fetch.{Fetch}
use Rattle.resolver_messages.proofs.Marks.{both-true, or_else, or_else-assoc, mark_of-append, mark_of-added_all}
use Rattle.resolver_messages.proofs.Right.{flips-by, follows-by, mark_of-kept}
use Rattle.resolver_backfill.specs.Plans.{Plan, Without, fetched, fetches_of, has, is_below, is_gone, keeps, lacking, let_go, let_go_below, met, settled, settled_below, wanting, without_below, without_keys}
use Rattle.resolver_backfill.specs.Given.{Call, Want, Done, DoneBelow, Forget, KeepsGiven, Lacks, Restores, Turns, called, fetch_told, given, is_due, others, pair_of, retain_told, turned, turned_all}
use Rattle.resolver_backfill.specs.Telling.{TakenTurns, if_taken, is_taken}
use Rattle.resolver_backfill.specs.Alike.{below_alike, has_alike, keeps_alike}
use Rattle.resolver_backfill.proofs.Keys.{from-all, has-filter, has-with, unmet-all}

module _ {K S : Type 0} (n : Names K S) (by_key : IsTotalOrder n.key) (by_subscriber : IsTotalOrder n.subscriber) where
  -- the mark of one of a plan's keys
  mark_of-pairs : (plan : Plan K S) (keys : List K) (k : K) (s : S) → mark_of n (map pair_of (fetches_of plan keys)) k s ≡ cond (same_subscriber n s plan.subscriber && has n.key keys k) (Some plan.mark) None
  mark_of-pairs plan [] k s = none (same_subscriber n s plan.subscriber) where
    none : (b : Bool) → None ≡ cond (b && false) (Some plan.mark) None
    none true = refl
    none false = refl
  mark_of-pairs plan (key ∷ keys) k s =
      ap (λ rest. cond (same_key n k key && same_subscriber n s plan.subscriber) (Some plan.mark) rest) (mark_of-pairs plan keys k s)
      ∙ cases (same_key n k key) (same_subscriber n s plan.subscriber) (has n.key keys k) where
        cases : (a b c : Bool) → cond (a && b) (Some plan.mark) (cond (b && c) (Some plan.mark) None) ≡ cond (b && (a || c)) (Some plan.mark) None
        cases true true c = refl
        cases true false c = refl
        cases false b c = refl

  -- a demand that lacks a subscriber has no mark of it
  unmarked : (who : S) (d : List (Pair K S)) (k : K) (s : S) → Lacks n who d → same_subscriber n s who ≡ true → mark_of n d k s ≡ None
  unmarked who [] k s none same = refl
  unmarked who (p ∷ d) k s none same = cases (same_subscriber n who p.subscriber) refl none (unmarked who d k s) where
    no : (a b : Bool) → b ≡ false → (a && b) ≡ false
    no true b is = is
    no false b is = refl

    cases : (b : Bool) → same_subscriber n who p.subscriber ≡ b → (b || list_any (λ (p : Pair K S). same_subscriber n who p.subscriber) d) ≡ false
        → (Lacks n who d → same_subscriber n s who ≡ true → mark_of n d k s ≡ None)
        → mark_of n (p ∷ d) k s ≡ None
    cases true is none rest = absurd (let wrong = none in cc)
    cases false is none rest =
        ap (λ b. cond b (Some p.mark) (mark_of n d k s)) (no (same_key n k p.key) (same_subscriber n s p.subscriber) (follows-by n.subscriber by_subscriber s who p.subscriber same ∙ is))
        ∙ rest none same

  mark_of-given : (plan : Plan K S) (d : List (Pair K S)) (k : K) (s : S)
      → mark_of n (given plan d) k s ≡ or_else (mark_of n d k s) (cond (same_subscriber n s plan.subscriber && has n.key plan.wanted k) (Some plan.mark) None)
  mark_of-given plan d k s = mark_of-append n d (map pair_of (fetches_of plan plan.wanted)) k s ∙ ap (or_else (mark_of n d k s)) (mark_of-pairs plan plan.wanted k s)

  -- no message is as good as an empty one
  fetch-told : (fetches : List (Fetch K S)) (d : List (Pair K S)) → acts n (fetch_told fetches) d ≡ added_all n d (map pair_of fetches)
  fetch-told [] d = refl
  fetch-told (fetch ∷ fetches) d = refl

  mark_of-fetch : (fetches : List (Fetch K S)) (d : List (Pair K S)) (k : K) (s : S) → mark_of n (acts n (fetch_told fetches) d) k s ≡ or_else (mark_of n d k s) (mark_of n (map pair_of fetches) k s)
  mark_of-fetch fetches d k s =
      ap (λ e. mark_of n e k s) (fetch-told fetches d)
      ∙ mark_of-added_all n (follows-by n.key by_key) (follows-by n.subscriber by_subscriber) d (map pair_of fetches) k s

  mark_of-retain : (without : Without K S) (d : List (Pair K S)) (k : K) (s : S)
      → mark_of n (acts n (retain_told n (Some without)) d) k s ≡ cond (not (same_subscriber n s without.subscriber && is_gone n.key without k)) (mark_of n d k s) None
  mark_of-retain without d k s = mark_of-kept (keeps n without) n (keeps_alike n by_key by_subscriber without) d k s

  pub want-turns : (plan : Plan K S) (keys : List K) → Turns n plan (fetch_told (fetched n.key plan keys)) (wanting n.key plan keys)
  want-turns plan keys d lacks k s =
      let new : List K = lacking n.key plan.wanted keys in
      let is : Bool = same_subscriber n s plan.subscriber in
      mark_of-fetch (fetches_of plan new) (given plan d) k s
      ∙ ap (λ m. or_else m (mark_of n (map pair_of (fetches_of plan new)) k s)) (mark_of-given plan d k s)
      ∙ ap (or_else (or_else (mark_of n d k s) (cond (is && has n.key plan.wanted k) (Some plan.mark) None))) (mark_of-pairs plan new k s)
      ∙ or_else-assoc (mark_of n d k s) (cond (is && has n.key plan.wanted k) (Some plan.mark) None) (cond (is && has n.key new k) (Some plan.mark) None)
      ∙ ap (or_else (mark_of n d k s)) (joins is (has n.key plan.wanted k) (has n.key new k) ∙ ap (λ b. cond (is && b) (Some plan.mark) None) (sym (has-with n.key by_key plan.wanted new k)))
      ∙ sym (mark_of-given (wanting n.key plan keys) d k s) where
        joins : (a b c : Bool) → or_else (cond (a && b) (Some plan.mark) None) (cond (a && c) (Some plan.mark) None) ≡ cond (a && (b || c)) (Some plan.mark) None
        joins true true c = refl
        joins true false c = refl
        joins false b c = refl

  -- A message that lets the subscriber go from those of the wanted keys that pass a test, and from no other wanted key
  removes : (plan : Plan K S) (test gone : K → Bool) (message : List (Act K S))
      → ((k l : K) → same_key n k l ≡ true → test k ≡ test l)
      → ((k : K) → has n.key plan.wanted k ≡ true → gone k ≡ test k)
      → ((e : List (Pair K S)) (k : K) (s : S) → mark_of n (acts n message e) k s ≡ cond (not (same_subscriber n s plan.subscriber && gone k)) (mark_of n e k s) None)
      → Turns n plan message (record plan { wanted = filter (λ key. not (test key)) plan.wanted })
  removes plan test gone message alike agrees lets d lacks k s =
      lets (given plan d) k s
      ∙ ap (λ m. cond (not (same_subscriber n s plan.subscriber && gone k)) m None) (mark_of-given plan d k s)
      ∙ leaves (same_subscriber n s plan.subscriber) (mark_of n d k s) (gone k) (test k) (has n.key plan.wanted k) (unmarked plan.subscriber d k s lacks) (agrees k)
      ∙ ap (λ b. or_else (mark_of n d k s) (cond (same_subscriber n s plan.subscriber && b) (Some plan.mark) None))
      (sym (has-filter n.key by_key (λ key. not (test key)) (not (test k)) k (λ l e. ap not (sym (alike k l e))) plan.wanted))
      ∙ sym (mark_of-given (record plan { wanted = filter (λ key. not (test key)) plan.wanted }) d k s) where
        leaves : (a : Bool) (m : Option ℕ) (t u hw : Bool) → (a ≡ true → m ≡ None) → (hw ≡ true → t ≡ u)
            → cond (not (a && t)) (or_else m (cond (a && hw) (Some plan.mark) None)) None ≡ or_else m (cond (a && (not u && hw)) (Some plan.mark) None)
        leaves false m t u hw none same = refl
        leaves true m t u hw none same = ap (λ o. cond (not t) (or_else o (cond hw (Some plan.mark) None)) None) (none refl) ∙ rest t u hw same ∙ ap (λ o. or_else o (cond (not u && hw) (Some plan.mark) None)) (sym (none refl)) where
          rest : (t u hw : Bool) → (hw ≡ true → t ≡ u) → cond (not t) (cond hw (Some plan.mark) None) None ≡ cond (not u && hw) (Some plan.mark) None
          rest true true hw same = refl
          rest true false true same = absurd (true≢false (same refl))
          rest true false false same = refl
          rest false true true same = absurd (true≢false (sym (same refl)))
          rest false true false same = refl
          rest false false hw same = refl

  -- nothing is told, and the plan stays
  stays : (plan now : Plan K S) → now ≡ plan → Turns n plan [] now
  stays plan now same d lacks k s = ap (λ p. mark_of n (given p d) k s) (sym same)

  or-false : (b : Bool) → (b || false) ≡ b
  or-false true = refl
  or-false false = refl

  pub done-turns : (plan : Plan K S) (keys : List K) → Turns n plan (retain_told n (let_go n.key plan keys)) (settled n.key plan keys)
  done-turns plan keys = cases (met n.key plan.wanted keys) refl where
    among : (k : K) → has n.key (met n.key plan.wanted keys) k ≡ (has n.key keys k && has n.key plan.wanted k)
    among k = has-filter n.key by_key (has n.key keys) (has n.key keys k) k (λ l e. sym (has_alike n.key by_key keys k l e)) plan.wanted

    and-true : (a b : Bool) → b ≡ true → (a && b) ≡ a
    and-true true b is = is
    and-true false b is = refl

    cases : (found : List K) → met n.key plan.wanted keys ≡ found → Turns n plan (retain_told n (without_keys plan.subscriber found)) (settled n.key plan keys)
    cases [] is = stays plan (settled n.key plan keys) (ap (λ ws. record plan { wanted = ws }) (unmet-all n.key by_key plan.wanted keys is))
    cases (key ∷ found) is = removes plan (has n.key keys) (λ k. has n.key (key ∷ found) k || false) (retain_told n (Some (record { subscriber = plan.subscriber; keys = key ∷ found; below = None })))
        (has_alike n.key by_key keys)
        (λ k there. or-false (has n.key (key ∷ found) k) ∙ ap (λ ks. has n.key ks k) (sym is) ∙ among k ∙ and-true (has n.key keys k) (has n.key plan.wanted k) there)
        (λ e k s. mark_of-retain (record { subscriber = plan.subscriber; keys = key ∷ found; below = None }) e k s)

  pub done-below-turns : (plan : Plan K S) (bound : K) → Turns n plan (retain_told n (let_go_below n.key plan bound)) (settled_below n.key plan bound)
  done-below-turns plan bound = cases (list_any (is_below n.key bound) plan.wanted) refl where
    cases : (b : Bool) → list_any (is_below n.key bound) plan.wanted ≡ b → Turns n plan (retain_told n (cond b (Some (without_below plan.subscriber bound)) None)) (settled_below n.key plan bound)
    cases true is = removes plan (is_below n.key bound) (is_below n.key bound) (retain_told n (Some (without_below plan.subscriber bound)))
        (below_alike n.key by_key bound) (λ k there. refl) (λ e k s. mark_of-retain (without_below plan.subscriber bound) e k s)
    cases false is = stays plan (settled_below n.key plan bound) (ap (λ ws. record plan { wanted = ws }) (from-all n.key by_key bound plan.wanted is))

  among_alike : (named : List (S × ℕ)) (s t : S) → same_subscriber n s t ≡ true → is_among n.subscriber named s ≡ is_among n.subscriber named t
  among_alike [] s t same = refl
  among_alike (one ∷ named) s t same =
      ap (λ b. b || is_among n.subscriber named s) (follows-by n.subscriber by_subscriber s t one.0 same)
      ∙ ap (λ b. same_subscriber n t one.0 || b) (among_alike named s t same)

  -- whom a key that came isn't retired for
  abbrev not-served : K → List (S × ℕ) → K → S → Bool
  not-served key named k s = not (same_key n key k && is_among n.subscriber named s)

  not-served-alike : (key : K) (named : List (S × ℕ)) (k l : K) (s t : S) → same_key n k l ≡ true → same_subscriber n s t ≡ true → not-served key named k s ≡ not-served key named l t
  not-served-alike key named k l s t e f =
      ap (λ b. not (b && is_among n.subscriber named s)) (flips-by n.key by_key key k ∙ follows-by n.key by_key k l key e ∙ flips-by n.key by_key l key)
      ∙ ap (λ b. not (same_key n key l && b)) (among_alike named s t f)

  mark_of-served : (key : K) (named : List (S × ℕ)) (d : List (Pair K S)) (k : K) (s : S) → mark_of n (without_named n key named d) k s ≡ cond (not-served key named k s) (mark_of n d k s) None
  mark_of-served key named d k s = mark_of-kept (not-served key named) n (not-served-alike key named) d k s

  -- a key that came for the plan's subscriber, and is forgotten
  served : (plan : Plan K S) (key : K) (named : List (S × ℕ)) (d : List (Pair K S)) → Lacks n plan.subscriber d → is_among n.subscriber named plan.subscriber ≡ true
      → IsSameDemand n (without_named n key named (given plan d)) (given (settled n.key plan (key ∷ [])) (without_named n key named d))
  served plan key named d lacks due k s =
      mark_of-served key named (given plan d) k s
      ∙ ap (λ m. cond (not-served key named k s) m None) (mark_of-given plan d k s)
      ∙ leaves (same_subscriber n s plan.subscriber) (same_key n key k) (is_among n.subscriber named s) (mark_of n d k s) (has n.key plan.wanted k) (unmarked plan.subscriber d k s lacks)
      (λ is. among_alike named s plan.subscriber is ∙ due)
      ∙ ap (λ m. or_else m (cond (same_subscriber n s plan.subscriber && (not (same_key n key k || false) && has n.key plan.wanted k)) (Some plan.mark) None)) (sym (mark_of-served key named d k s))
      ∙ ap (λ b. or_else (mark_of n (without_named n key named d) k s) (cond (same_subscriber n s plan.subscriber && b) (Some plan.mark) None))
      (ap (λ b. not (b || false) && has n.key plan.wanted k) (flips-by n.key by_key key k)
      ∙ sym (has-filter n.key by_key (λ l. not (has n.key (key ∷ []) l)) (not (has n.key (key ∷ []) k)) k (λ l e. ap not (sym (has_alike n.key by_key (key ∷ []) k l e))) plan.wanted))
      ∙ sym (mark_of-given (settled n.key plan (key ∷ [])) (without_named n key named d) k s) where
        leaves : (a e g : Bool) (m : Option ℕ) (hw : Bool) → (a ≡ true → m ≡ None) → (a ≡ true → g ≡ true)
            → cond (not (e && g)) (or_else m (cond (a && hw) (Some plan.mark) None)) None
            ≡ or_else (cond (not (e && g)) m None) (cond (a && (not (e || false) && hw)) (Some plan.mark) None)
        leaves true true true m hw none all = refl
        leaves true true false m hw none all = absurd (true≢false (sym (all refl)))
        leaves true false g m hw none all = refl
        leaves false true true m hw none all = refl
        leaves false true false m hw none all = refl
        leaves false false g m hw none all = refl

  -- what a demand lacks, it lacks without some pairs
  lacks-kept : (who : S) (keep : K → S → Bool) (d : List (Pair K S)) → Lacks n who d → Lacks n who (kept keep d)
  lacks-kept who keep [] lacks = refl
  lacks-kept who keep (p ∷ d) lacks = cases (same_subscriber n who p.subscriber) refl lacks (lacks-kept who keep d) where
    left : (b : Bool) → same_subscriber n who p.subscriber ≡ false → Lacks n who (kept keep d) → Lacks n who (cond b (p ∷ kept keep d) (kept keep d))
    left true is rest = ap (λ c. c || list_any (λ (p : Pair K S). same_subscriber n who p.subscriber) (kept keep d)) is ∙ rest
    left false is rest = rest

    cases : (b : Bool) → same_subscriber n who p.subscriber ≡ b → (b || list_any (λ (p : Pair K S). same_subscriber n who p.subscriber) d) ≡ false → (Lacks n who d → Lacks n who (kept keep d)) → Lacks n who (kept keep (p ∷ d))
    cases true is none rest = absurd (true≢false none)
    cases false is none rest = left (keep p.key p.subscriber) is (rest none)

  -- one call
  call-keeps : (plan : Plan K S) (call : Call K S) (d : List (Pair K S)) → Lacks n plan.subscriber d → is_due n plan.subscriber call ≡ true
      → IsSameDemand n (turned n plan call (given plan d)) (given (called n plan call) (others n call d))
  call-keeps plan (Want keys) d lacks due = want-turns plan keys d lacks
  call-keeps plan (Done keys) d lacks due = done-turns plan keys d lacks
  call-keeps plan (DoneBelow bound) d lacks due = done-below-turns plan bound d lacks
  call-keeps plan (Forget key named) d lacks due = served plan key named d lacks due

  -- demands that are the same stay the same
  retain-same : (told : Option (Without K S)) (d e : List (Pair K S)) → IsSameDemand n d e → IsSameDemand n (acts n (retain_told n told) d) (acts n (retain_told n told) e)
  retain-same None d e same k s = same k s
  retain-same (Some without) d e same k s =
      mark_of-retain without d k s
      ∙ ap (λ m. cond (not (same_subscriber n s without.subscriber && is_gone n.key without k)) m None) (same k s)
      ∙ sym (mark_of-retain without e k s)

  call-same : (plan : Plan K S) (call : Call K S) (d e : List (Pair K S)) → IsSameDemand n d e → IsSameDemand n (turned n plan call d) (turned n plan call e)
  call-same plan (Want keys) d e same k s =
      mark_of-fetch (fetched n.key plan keys) d k s
      ∙ ap (λ m. or_else m (mark_of n (map pair_of (fetched n.key plan keys)) k s)) (same k s)
      ∙ sym (mark_of-fetch (fetched n.key plan keys) e k s)
  call-same plan (Done keys) d e same k s = retain-same (let_go n.key plan keys) d e same k s
  call-same plan (DoneBelow bound) d e same k s = retain-same (let_go_below n.key plan bound) d e same k s
  call-same plan (Forget key named) d e same k s =
      mark_of-served key named d k s
      ∙ ap (λ m. cond (not-served key named k s) m None) (same k s)
      ∙ sym (mark_of-served key named e k s)

  calls-same : (plan : Plan K S) (calls : List (Call K S)) (d e : List (Pair K S)) → IsSameDemand n d e → IsSameDemand n (turned_all n plan calls d) (turned_all n plan calls e)
  calls-same plan [] d e same = same
  calls-same plan (call ∷ calls) d e same = calls-same (called n plan call) calls (turned n plan call d) (turned n plan call e) (call-same plan call d e same)

  same-subscriber : (plan : Plan K S) (call : Call K S) → (called n plan call).subscriber ≡ plan.subscriber
  same-subscriber plan (Want keys) = refl
  same-subscriber plan (Done keys) = refl
  same-subscriber plan (DoneBelow bound) = refl
  same-subscriber plan (Forget key named) = refl

  others-lack : (who : S) (call : Call K S) (d : List (Pair K S)) → Lacks n who d → Lacks n who (others n call d)
  others-lack who (Want keys) d lacks = lacks
  others-lack who (Done keys) d lacks = lacks
  others-lack who (DoneBelow bound) d lacks = lacks
  others-lack who (Forget key named) d lacks = lacks-kept who (not-served key named) d lacks

  -- any number of calls
  pub calls-keep : (plan : Plan K S) (calls : List (Call K S)) → KeepsGiven n plan calls
  calls-keep plan [] d lacks due k s = refl
  calls-keep plan (call ∷ calls) d lacks due k s =
      let both = both-true (is_due n plan.subscriber call) (list_all (is_due n plan.subscriber) calls) due in
      calls-same (called n plan call) calls (turned n plan call (given plan d)) (given (called n plan call) (others n call d)) (call-keeps plan call d lacks both.0) k s
      ∙ calls-keep (called n plan call) calls (others n call d) (rw (same-subscriber plan call) (others-lack plan.subscriber call d lacks)) (rw (same-subscriber plan call) both.1) k s

  -- what is taken of a message, all of it or nothing
  taken-turns : (plan now : Plan K S) (message : List (Act K S)) (answer : Result Feedback Fault) → Turns n plan message now → Turns n plan (if_taken answer message []) (if_taken answer now plan)
  taken-turns plan now message answer turns = cases (is_taken answer) where
    cases : (b : Bool) → Turns n plan (cond b message []) (cond b now plan)
    cases true = turns
    cases false = λ d lacks k s. refl

  pub told-turns : (plan : Plan K S) (answer : Result Feedback Fault) → TakenTurns n plan answer
  told-turns plan answer = record {
    fills = λ keys. taken-turns plan (wanting n.key plan keys) (fetch_told (fetched n.key plan keys)) answer (want-turns plan keys);
    settles = λ keys. taken-turns plan (settled n.key plan keys) (retain_told n (let_go n.key plan keys)) answer (done-turns plan keys);
    settles_below = λ bound. taken-turns plan (settled_below n.key plan bound) (retain_told n (let_go_below n.key plan bound)) answer (done-below-turns plan bound);
  }

  -- all that is wanted, asked for again
  pub again-restores : (plan : Plan K S) → Restores n plan (fetches_of plan plan.wanted)
  again-restores plan d = (once, twice) where
    once : IsSameDemand n (acts n (fetch_told (fetches_of plan plan.wanted)) d) (given plan d)
    once k s =
        mark_of-fetch (fetches_of plan plan.wanted) d k s
        ∙ sym (mark_of-append n d (map pair_of (fetches_of plan plan.wanted)) k s)

    same : (a b : Option ℕ) → or_else (or_else a b) b ≡ or_else a b
    same None None = refl
    same None (Some m) = refl
    same (Some m) b = refl

    twice : IsSameDemand n (acts n (fetch_told (fetches_of plan plan.wanted)) (given plan d)) (given plan d)
    twice k s =
        mark_of-fetch (fetches_of plan plan.wanted) (given plan d) k s
        ∙ ap (λ m. or_else m (mark_of n (map pair_of (fetches_of plan plan.wanted)) k s)) (mark_of-append n d (map pair_of (fetches_of plan plan.wanted)) k s)
        ∙ same (mark_of n d k s) (mark_of n (map pair_of (fetches_of plan plan.wanted)) k s)
        ∙ sym (mark_of-append n d (map pair_of (fetches_of plan plan.wanted)) k s)
