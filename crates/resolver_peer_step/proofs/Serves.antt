-- Peers' requests by their numbers.
use Rattle.std.proofs.Common.{◌≡◌, ap, ◌∙◌, ℕ, Bool, ◌==◌, List, [], ◌∷◌, Option, None, Some, arith}
use Rattle.std.specs.Map.{lookup, remove_entry}
use Rattle.std.specs.BTreeMap.{BTreeMap, is_at}
use Rattle.std.specs.Ordering.{nat_cmp}
use Rattle.resolver_model_peer.specs.declared.named.Serve.{Serve}
use Rattle.resolver_model_peer.specs.Parties.{Parties}
use Rattle.resolver_model_peer.specs.Peer.{Done, Machine, Reply, payload_of, quiet, served, served_by}
use Rattle.resolver_peer_step.specs.declared.parts.Parts.{Parts}
use Rattle.resolver_peer_step.specs.Tied.{Agrees}

-- a number is at itself alone
pub same_test : (number n : ℕ) → (number == n) ≡ is_at (nat_cmp number) n
same_test number n = grind (arith)

-- a test of numbers
abbrev Test : Type 0
Test = ℕ → Bool

-- the two tests of a number are one
pub same_tests : (number : ℕ) → ◌≡◌ {A = Test} (λ n. number == n) (is_at (nat_cmp number))
same_tests number = λ i n. same_test number n i

module _ {K S P : Type 0} (m : Machine K S P) (serve : ℕ) (value : Option (List ℕ)) where
  -- what is done is told by what is open under the number
  found : (s : Option (Serve P)) → lookup (is_at (nat_cmp serve)) m.serves ≡ s → served m serve value ≡ served_by m serve value s
  found s is = ap (λ test. served_by m serve value (lookup test m.serves)) (same_tests serve) ∙ ap (served_by m serve value) is

  -- nothing is open under the number
  pub passed-over : lookup (is_at (nat_cmp serve)) m.serves ≡ None → served m serve value ≡ quiet m
  passed-over none = found None none

  -- what is sent under the number
  abbrev pub sent : Serve P → Done K S P
  sent s = record {
    machine = record m { serves = remove_entry (is_at (nat_cmp serve)) m.serves };
    effects = Reply s.peer (record { id = s.id; payload = payload_of value }) m.priority_responses ∷ [];
  }

  -- a serve that is open is answered
  pub sends : (s : Serve P) → lookup (is_at (nat_cmp serve)) m.serves ≡ Some s → served m serve value ≡ sent s
  sends s some =
      found (Some s) some
      ∙ ap (λ test. let d : Done K S P = record {
        machine = record m { serves = remove_entry test m.serves };
        effects = Reply s.peer (record { id = s.id; payload = payload_of value }) m.priority_responses ∷ [];
      } in d) (same_tests serve)

module _ {K S P : Type 0} (a : Parties K S P) where
  -- other serves, and nothing else
  pub with-serves : (e : Parts K P S) (m : Machine K S P) (serves : BTreeMap ℕ (Serve P)) (now : List (ℕ × Serve P)) → Agrees a e m → serves.entries ≡ now
      → Agrees a (record e { serves = serves }) (record m { serves = now })
  with-serves e m serves now agrees is = record {
    sound = record {
      ordered = agrees.sound.ordered;
      ids = agrees.sound.ids;
      own = agrees.sound.own;
      below = agrees.sound.below;
      new_id = agrees.sound.new_id;
    };
    demand = agrees.demand;
    entries = agrees.entries;
    deliveries = agrees.deliveries;
    next_delivery = agrees.next_delivery;
    fetcher = agrees.fetcher;
    serves = is;
    next_serve = agrees.next_serve;
    last_index = agrees.last_index;
    priority = agrees.priority;
  }
