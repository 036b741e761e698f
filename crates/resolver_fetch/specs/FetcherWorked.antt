-- Worked runs of a fetcher, with keys and peers that are numbers.
use Rattle.std.specs.Prelude.{◌≡◌, ℕ, ◌-◌, ◌^◌, Bool, true, false, List, [], ◌∷◌, ◌++◌, length, Option, None, Some}
use Rattle.std.specs.Ordering.{nat_cmp}
use Rattle.resolver_base.specs.declared.check.Check.TheVariants.{Clear, Until}
use Rattle.resolver_fetch_scan.specs.declared.config.Config.{Config}
use Rattle.resolver_fetch_requests.specs.declared.requests.request.Request.{Request}
use Rattle.resolver_fetch_scan.specs.declared.scan.Answer.{Answer}
use Rattle.resolver_fetch_scan.specs.declared.scan.Answer.TheVariants.{Drawn, Checked, Sent}
use Rattle.resolver_fetch_scan.specs.declared.scan.Ask.{Ask}
use Rattle.resolver_fetch_scan.specs.declared.scan.Ask.TheVariants as asks
use Rattle.resolver_fetch_scan.specs.Orders.{Orders, orders}
use Rattle.resolver_fetch_waiting.specs.Queues.{fresh_queue, retry_queue}
use Rattle.resolver_fetch_requests.specs.Ids.{next_id}
use Rattle.resolver_fetch_scan.specs.Fetcher.{Fetcher, opening, reconcile, set_blocked, add_ready, add_retry, add_targets, scan_begin, scan_answer, question, pending_deadline, active_deadline, pop_response, pop_missing, weight}

abbrev numbers : Orders ℕ ℕ
numbers = orders nat_cmp nat_cmp

abbrev plain : (timeout delay : ℕ) → Config ℕ
plain timeout delay = record { me = None; fetch_timeout = timeout; retry_delay = delay; peer_limit = None; priority_requests = false }

abbrev none_yet : (timeout delay : ℕ) → Fetcher ℕ ℕ
none_yet timeout delay = opening (plain timeout delay)

-- the questions of a scan, to which the answers are given in turn
abbrev questions : Fetcher ℕ ℕ → List Answer → List (Option (Ask ℕ ℕ))
questions f [] = question numbers f ∷ []
questions f (a ∷ rest) = question numbers f ∷ questions (scan_answer numbers a f).1 rest

abbrev after : Fetcher ℕ ℕ → List Answer → Fetcher ℕ ℕ
after f [] = f
after f (a ∷ rest) = after (scan_answer numbers a f).1 rest

-- the question whether a request is on its way
abbrev sends : (peer id key : ℕ) → Option (Ask ℕ ℕ)
sends peer id key = Some (asks.Request peer id key false)

-- a peer that asks nothing of a number, and one that is sent to
abbrev limited : (until : ℕ) → List Answer
limited until = Drawn 0 ∷ Drawn 0 ∷ Checked (Until until) ∷ []

abbrev first_id : (id : ℕ) → (accepted : Bool) → List Answer
first_id id accepted = Drawn 0 ∷ Drawn 0 ∷ Checked Clear ∷ Drawn id ∷ Sent accepted ∷ []

-- ids

abbrev holding : ℕ → ℕ × Request ℕ ℕ
holding id = (id, record { key = 0; peer = 0; start = 0; deadline = 0 })

-- the next id is held by no request, and 0 follows the last
pub record NextIds : Type 0 where
  pub after_held : next_id (holding 5 ∷ holding 6 ∷ []) 4 ≡ 7
  pub after_last : next_id (holding 0 ∷ []) (2 ^ 64 - 1) ≡ 1

-- the wake-up, before any peer is there and then

abbrev ready : Fetcher ℕ ℕ
ready = add_ready numbers 1 5 (none_yet 50 10)

pub record WakeUp : Type 0 where
  pub when_due : pending_deadline ready ≡ Some 5
  pub without_peers : pending_deadline (scan_begin numbers 5 ready) ≡ Some (2 ^ 128 - 1)
  pub for_peers : pending_deadline (reconcile numbers (4 ∷ []) (scan_begin numbers 5 ready)) ≡ Some 5

-- a request, its answer and its timeout

abbrev one_peer : Fetcher ℕ ℕ
one_peer = scan_begin numbers 30 (add_ready numbers 1 30 (reconcile numbers (4 ∷ []) (none_yet 50 10)))

abbrev sent : Fetcher ℕ ℕ
sent = after one_peer (first_id 5 true)

pub record FirstRequest : Type 0 where
  pub asked : questions one_peer (first_id 5 true)
      ≡ Some (asks.Draw 4) ∷ Some (asks.Draw 1) ∷ Some (asks.Check 4) ∷ Some (asks.Draw (2 ^ 64)) ∷ sends 4 5 1 ∷ None ∷ []
  pub deadline : active_deadline sent ≡ Some 80
  pub foreign : pop_response numbers 5 3 40 sent ≡ (None, sent)
  -- the clock went back
  pub answered : (pop_response numbers 5 4 20 sent).0 ≡ Some (1, 0)

-- the data is missing, and the key is tried again

abbrev missed : Fetcher ℕ ℕ
missed = (pop_missing numbers 5 4 50 sent).1

abbrev again : Fetcher ℕ ℕ
again = add_retry numbers 1 50 missed

pub record MissingAndRetry : Type 0 where
  pub key : (pop_missing numbers 5 4 50 sent).0 ≡ Some 1
  pub none_asked : length missed.asked ≡ 0
  pub least_weight : weight numbers 4 missed ≡ Some 1
  pub wakes : pending_deadline again ≡ Some 60
  pub draws : question numbers (scan_begin numbers 60 again) ≡ Some (asks.Draw 5)

-- fresh keys before retries, in a queue each

abbrev tried_before : Fetcher ℕ ℕ
tried_before = add_retry numbers 2 0 (reconcile numbers (4 ∷ []) (none_yet 50 2))

abbrev two_kinds : Fetcher ℕ ℕ
two_kinds = add_ready numbers 1 5 tried_before

pub record TwoQueues : Type 0 where
  pub retry_wakes : pending_deadline tried_before ≡ Some 2
  pub fresh_wakes : pending_deadline two_kinds ≡ Some 5
  pub fresh : fresh_queue two_kinds.waiting ≡ (5, 1) ∷ []
  pub retries : retry_queue two_kinds.waiting ≡ (2, 2) ∷ []
  pub asked : questions (scan_begin numbers 5 two_kinds) (limited 9 ++ limited 8)
      ≡ Some (asks.Draw 4) ∷ Some (asks.Draw 1) ∷ Some (asks.Check 4) ∷ Some (asks.Draw 5) ∷ Some (asks.Draw 1) ∷ Some (asks.Check 4) ∷ None ∷ []
  pub least_limit : pending_deadline (after (scan_begin numbers 5 two_kinds) (limited 9 ++ limited 8)) ≡ Some 8

-- two peers that refuse: an id each, and the next try after the delay

abbrev two_peers : Fetcher ℕ ℕ
two_peers = scan_begin numbers 0 (add_ready numbers 1 0 (reconcile numbers (3 ∷ 4 ∷ []) (none_yet 50 10)))

abbrev refused_twice : List Answer
refused_twice = first_id (2 ^ 64 - 1) false ++ Drawn 0 ∷ Drawn 0 ∷ Checked Clear ∷ Sent false ∷ []

pub record RefusedSends : Type 0 where
  pub asked : questions two_peers refused_twice
      ≡ Some (asks.Draw 4) ∷ Some (asks.Draw 2) ∷ Some (asks.Check 3) ∷ Some (asks.Draw (2 ^ 64)) ∷ sends 3 (2 ^ 64 - 1) 1
      ∷ Some (asks.Draw 4) ∷ Some (asks.Draw 1) ∷ Some (asks.Check 4) ∷ sends 4 0 1 ∷ None ∷ []
  pub wakes : pending_deadline (after two_peers refused_twice) ≡ Some 10

-- a blocked target

abbrev aimed : Fetcher ℕ ℕ
aimed = add_ready numbers 1 0 (add_targets numbers 1 (3 ∷ []) (set_blocked numbers (3 ∷ []) (reconcile numbers (3 ∷ 4 ∷ []) (none_yet 50 10))))

pub record BlockedTarget : Type 0 where
  pub none_asked : question numbers (scan_begin numbers 0 aimed) ≡ None
  pub sleeps : pending_deadline (scan_begin numbers 0 aimed) ≡ Some (2 ^ 128 - 1)
  pub weightless : weight numbers 3 aimed ≡ Some 0
  pub unblocked : question numbers (scan_begin numbers 0 (set_blocked numbers [] (scan_begin numbers 0 aimed))) ≡ Some (asks.Draw 4)
