-- What a call leaves alone of parts that agree with a machine.
use Rattle.std.proofs.Common.{◌≡◌, refl, ap, sym, ◌∙◌, subst, ℕ, false, List, map, Option, None, Some, Result, Ok, Err, append-nil, if◌then◌else◌}
use Rattle.std.specs.Prelude.{is_none, is_some}
use Rattle.std.specs.Result.{IfErr, OnOk}
use Rattle.resolver_base.specs.declared.fault.Fault.{Fault}
use Rattle.resolver_base.specs.declared.fault.Fault.TheVariants.{OutOfMemory}
use Rattle.resolver_fetch_scan.specs.declared.trail.Expected.{Expected}
use Rattle.resolver_fetch_scan.specs.Fetcher.{Fetcher}
use Rattle.resolver_model_peer.specs.Parties.{Parties}
use Rattle.resolver_model_peer.specs.Peer.{Done, Machine, quiet}
use Rattle.resolver_peer_step.specs.declared.parts.Parts.{Parts}
use Rattle.resolver_model_peer.specs.declared.effects.Effect.{Effect as Told}
use Rattle.resolver_peer_step.specs.Going.{Goes, Went}
use Rattle.resolver_peer_step.specs.Said.{Codec}
use Rattle.resolver_peer_step.specs.Tied.{Agrees, IsSound, demand_of, fetcher_of, held_of, holds_of, open_of}

module _ {K S P : Type 0} where
  -- beside its fetcher a machine has what another has
  pub record IsLike (m n : Machine K S P) : Type 0 where
    pub demand : demand_of n.rows ≡ demand_of m.rows
    pub holds : holds_of n.rows ≡ holds_of m.rows
    pub deliveries : n.deliveries ≡ m.deliveries
    pub next_delivery : n.next_delivery ≡ m.next_delivery
    pub serves : n.serves ≡ m.serves
    pub next_serve : n.next_serve ≡ m.next_serve
    pub last_index : n.last_index ≡ m.last_index
    pub priority : n.priority_responses ≡ m.priority_responses

  pub like-itself : (m : Machine K S P) → IsLike m m
  like-itself m = record { demand = refl; holds = refl; deliveries = refl; next_delivery = refl; serves = refl; next_serve = refl; last_index = refl; priority = refl }

module _ {K S P : Type 0} (a : Parties K S P) where
  -- a call that changes the fetcher alone
  pub agrees-fetched : (e f : Parts K P S) (m n : Machine K S P) → Agrees a e m → f ≡ record e { fetcher = f.fetcher } → f.fetcher ≡ fetcher_of a n
      → IsLike m n → IsSound a n → Agrees a f n
  agrees-fetched e f m n is same fetcher like sound = record {
    sound = sound;
    demand = ap (λ (e : Parts K P S). e.demand) same ∙ is.demand ∙ sym like.demand;
    entries = ap (λ (e : Parts K P S). map (λ x. (x.0, held_of x.1)) e.entries.keys) same ∙ is.entries ∙ sym like.holds;
    deliveries = ap (λ (e : Parts K P S). map (λ x. (x.0, open_of x.1)) e.entries.going) same ∙ is.deliveries ∙ sym like.deliveries;
    next_delivery = ap (λ (e : Parts K P S). e.entries.next) same ∙ is.next_delivery ∙ sym like.next_delivery;
    fetcher = fetcher;
    serves = ap (λ (e : Parts K P S). e.serves.entries) same ∙ is.serves ∙ sym like.serves;
    next_serve = ap (λ (e : Parts K P S). e.next_serve) same ∙ is.next_serve ∙ sym like.next_serve;
    last_index = ap (λ (e : Parts K P S). e.last_index) same ∙ is.last_index ∙ sym like.last_index;
    priority = ap (λ (e : Parts K P S). e.priority_responses) same ∙ is.priority ∙ sym like.priority;
  }

  -- where the fetcher's scan is closed, the machine's is over
  pub closed-over : (e : Parts K P S) (m : Machine K S P) → Agrees a e m → is_some e.fetcher.scan ≡ false → m.scan.expects ≡ None
  closed-over e m is closed = at m.scan.expects (ap (λ (f : Fetcher K P). is_some f.scan) (sym is.fetcher) ∙ closed)
    where
      at : (expects : Option (Expected P)) → is_some (if is_none expects then None else Some m.scan) ≡ false → expects ≡ None
      at None closed = refl
      at (Some expected) closed = absurd cc

  -- the last moment is the machine's alone
  pub agrees-later : (e : Parts K P S) (m : Machine K S P) (now : ℕ) → Agrees a e m → Agrees a e (record m { moment = now })
  agrees-later e m now is = record {
    sound = record { ordered = is.sound.ordered; ids = is.sound.ids; own = is.sound.own; below = is.sound.below; new_id = is.sound.new_id };
    demand = is.demand;
    entries = is.entries;
    deliveries = is.deliveries;
    next_delivery = is.next_delivery;
    fetcher = is.fetcher;
    serves = is.serves;
    next_serve = is.next_serve;
    last_index = is.last_index;
    priority = is.priority;
  }

  module _ (c : Codec K) (going : Option (Done K S P)) (before after : List (Told K P S)) (e : Parts K P S) where
    -- memory may be wanting anywhere
    pub goes-wanting : (fault : Fault) → fault ≡ OutOfMemory → Goes a c going before after e (Err fault)
    goes-wanting fault is = subst (λ fault. Goes a c going before after e (Err fault)) (sym is) tt

    -- a last call that may want memory alone
    pub goes-last : {X : Type 0} (r : Result (Unit {0}) Fault) → OnOk r X → IfErr r (λ fault. fault ≡ OutOfMemory) → (X → Went a c going before after e) → Goes a c going before after e r
    goes-last (Ok _) ok only went = went ok
    goes-last (Err fault) ok only went = goes-wanting fault only

  -- a last call that tells nothing, and may want memory alone
  pub goes-quiet : (c : Codec K) (told : List (Told K P S)) (e : Parts K P S) (n : Machine K S P) (r : Result (Unit {0}) Fault) → OnOk r (Agrees a e n) → IfErr r (λ fault. fault ≡ OutOfMemory)
      → Goes a c (Some (quiet n)) told told e r
  goes-quiet c told e n r ok only = goes-last c (Some (quiet n)) told told e r ok only (λ agrees. record { done = quiet n; is = refl; told = sym (append-nil told); agrees = agrees })
