-- How the core's inputs are spelled: a tag, the moment of an event, and what the tag asks for. Tags from 16 on are answers to a scan.
use Rattle.std.specs.Prelude.{ℕ, ◌==◌, List, map, Option, Some, None, nat_lt, if◌then◌else◌}
use Rattle.std.specs.Int.{w64, w128}
use Rattle.resolver_base.specs.declared.check.Check.TheVariants.{Clear, Until}
use Rattle.resolver_fetch_scan.specs.declared.scan.Answer.{Answer}
use Rattle.resolver_fetch_scan.specs.declared.scan.Answer.TheVariants.{Drawn, Checked, Sent}
use Rattle.resolver_model_peer.specs.Parties.{Parties, parties}
use Rattle.resolver_model_peer.specs.Peer.{Event, Fetch, Retain, PeerSet, Blocked, ActiveDue, PendingDue, Verdict, Served, Net, End, Happens, Answers}
use Rattle.resolver_model_peer.specs.PeerRun.{Fed}
use Rattle.resolver_peer_step.specs.Said.{Codec, codec, item_of, message_of}
use Rattle.std.specs.Ordering.{nat_cmp}
use Rattle.resolver_flat.specs.Leavings.{set_of, stays}
use Rattle.resolver_flat.specs.Naming.{Shape, by_name}
use Rattle.resolver_flat.specs.Reading.{◌>>=◌, Reads, both_at, flag_at, item_at, list_at, moment_at, name_at, number_at, octet_at, option_at, outcome_at, rest_at, some_at, whole}

abbrev pub Happening : Type 0 → Type 0
Happening K = Event K ℕ K

unfoldable pub drawn_at : Reads Answer
drawn_at bytes = do
  number ← number_at w128 bytes
  Some (Drawn number.0, number.1)

unfoldable pub until_at : Reads Answer
until_at bytes = do
  moment ← moment_at bytes
  Some (Checked (Until moment.0), moment.1)

unfoldable pub sent_at : Reads Answer
sent_at bytes = do
  accepted ← flag_at bytes
  Some (Sent accepted.0, accepted.1)

unfoldable pub answer_at : (tag : ℕ) → Reads Answer
answer_at tag bytes =
    if tag == 16 then drawn_at bytes
    else if tag == 17 then Some (Checked Clear, bytes)
    else if tag == 18 then until_at bytes
    else if tag == 19 then sent_at bytes
    else None

-- `n` is how names look, of keys as of peers
module _ {K : Type 0} (n : Shape K) where
  -- subscribers are numbers
  abbrev pub by_names : Parties K ℕ K
  by_names = parties n.order nat_cmp n.order

  -- a key is its bytes
  abbrev pub as_bytes : Codec K
  as_bytes = codec n.size n.bytes_of n.read_from

  unfoldable pub fetch_at : Reads (Happening K)
  fetch_at bytes = do
    items ← list_at (item_at n (option_at (some_at (name_at n)))) bytes
    Some (Fetch (map item_of items.0), items.1)

  -- the pairs that leave
  unfoldable pub retain_at : Reads (Happening K)
  retain_at bytes = do
    pairs ← list_at (both_at (name_at n) (number_at w64)) bytes
    Some (Retain (stays (by_name n) (set_of (by_name n) pairs.0)), pairs.1)

  unfoldable pub peer_set_at : Reads (Happening K)
  peer_set_at bytes = do
    index ← number_at w64 bytes
    peers ← list_at (name_at n) index.1
    Some (PeerSet index.0 peers.0, peers.1)

  unfoldable pub blocked_at : Reads (Happening K)
  blocked_at bytes = do
    peers ← list_at (name_at n) bytes
    Some (Blocked peers.0, peers.1)

  unfoldable pub verdict_at : Reads (Happening K)
  verdict_at bytes = do
    number ← number_at w64 bytes
    outcome ← outcome_at number.1
    Some (Verdict number.0 outcome.0, outcome.1)

  unfoldable pub served_at : Reads (Happening K)
  served_at bytes = do
    serve ← number_at w64 bytes
    value ← option_at rest_at serve.1
    Some (Served serve.0 value.0, value.1)

  -- a peer, and what it sent: the rest
  unfoldable pub net_at : Reads (Happening K)
  net_at bytes = do
    peer ← name_at n bytes
    sent ← rest_at peer.1
    Some (Net peer.0 (message_of as_bytes sent.0), sent.1)

  unfoldable pub event_at : (tag : ℕ) → Reads (Happening K)
  event_at tag bytes =
      if tag == 0 then fetch_at bytes
      else if tag == 1 then retain_at bytes
      else if tag == 2 then peer_set_at bytes
      else if tag == 3 then blocked_at bytes
      else if tag == 4 then Some (ActiveDue, bytes)
      else if tag == 5 then Some (PendingDue, bytes)
      else if tag == 6 then verdict_at bytes
      else if tag == 7 then served_at bytes
      else if tag == 8 then net_at bytes
      else if tag == 9 then Some (End, bytes)
      else None

  unfoldable pub happens_at : (tag : ℕ) → Reads (Fed K ℕ K)
  happens_at tag bytes = do
    now ← moment_at bytes
    event ← event_at tag now.1
    Some (record { now = now.0; input = Happens event.0 }, event.1)

  -- an answer has this moment, which is that of its scan
  unfoldable pub answers_at : (moment tag : ℕ) → Reads (Fed K ℕ K)
  answers_at moment tag bytes = do
    answer ← answer_at tag bytes
    Some (record { now = moment; input = Answers answer.0 }, answer.1)

  unfoldable pub input_at : (moment : ℕ) → Reads (Fed K ℕ K)
  input_at moment bytes = do
    tag ← octet_at bytes
    if nat_lt tag.0 16 then happens_at tag.0 tag.1 else answers_at moment tag.0 tag.1

  -- the input that these bytes spell, all of them
  abbrev pub input_from : (moment : ℕ) → List ℕ → Option (Fed K ℕ K)
  input_from moment bytes = whole (input_at moment bytes)
