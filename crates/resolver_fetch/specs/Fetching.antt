-- What a whole scan makes of a fetcher that is lent a sender and draws.
use Rattle.std.specs.Prelude.{◌≡◌, ℕ, ◌⊎◌, Bool, List, [], ◌∷◌, None, Some, Ok}
use Rattle.resolver_base.specs.Sending.{is_accepted}
use Rattle.resolver_base.specs.declared.check.Check.{Check}
use Rattle.resolver_base.specs.declared.unreliable.Unreliable.{Unreliable}
use Rattle.resolver_fetch_scan.specs.declared.scan.Answer.{Answer}
use Rattle.resolver_fetch_scan.specs.declared.scan.Answer.TheVariants.{Drawn, Checked, Sent}
use Rattle.resolver_fetch_scan.specs.declared.scan.Ask.{Ask}
use Rattle.resolver_fetch_scan.specs.declared.scan.Ask.TheVariants as asks
use Rattle.resolver_wire.specs.declared.wire.Message.{Message}
use Rattle.resolver_wire.specs.declared.wire.Payload.TheVariants.{Request}
use Rattle.resolver_fetch_scan.specs.Fetcher.{Fetcher, question, scan_answer, scan_begin}
use Rattle.resolver_fetch_scan.specs.Orders.{Orders}
use Rattle.resolver_wire.specs.Spelling.{spelling}

-- what is outside of a fetcher: how keys are spelled, and what a sender and draws may say, with what they are then
pub record Outside (K P S D : Type 0) : Type 1 where
  pub bytes_of : K → List ℕ
  pub check : S → P → Check → S → Type 0
  pub send : S → P → (message : List ℕ) → (priority : Bool) → Unreliable → S → Type 0
  pub draw : D → (bound number : ℕ) → D → Type 0

abbrev pub outside : {K P S D : Type 0} → (K → List ℕ) → (S → P → Check → S → Type 0) → (S → P → List ℕ → Bool → Unreliable → S → Type 0) → (D → ℕ → ℕ → D → Type 0)
    → Outside K P S D
outside bytes_of check send draw = record { bytes_of = bytes_of; check = check; send = send; draw = draw }

-- a fetcher, and the sender and the draws that it is lent
pub record Lent (K P S D : Type 0) : Type 0 where
  pub fetcher : Fetcher K P
  pub sender : S
  pub draws : D

abbrev pub lent : {K P S D : Type 0} → Fetcher K P → S → D → Lent K P S D
lent fetcher sender draws = record { fetcher = fetcher; sender = sender; draws = draws }

-- the request on the wire
abbrev pub request_of : {K : Type 0} → (id : ℕ) → K → Message K
request_of id key = record { id = id; payload = Request key }

-- the scan is forgotten, and the waiter is clear
abbrev pub given_up : {K P : Type 0} → Fetcher K P → Fetcher K P
given_up f = record f { scan = None; waiter = None }

module _ {K P S D : Type 0} (out : Outside K P S D) where
  -- Draws answer where a number is asked for, and the sender where it is asked for a word. The other stays as it was.
  abbrev pub Says : Ask K P → Answer → (before : S) → D → (after : S) → D → Type 0
  Says (asks.Draw bound) (Drawn n) sender draws after then = out.draw draws bound n then × (after ≡ sender)
  Says (asks.Check peer) (Checked check) sender draws after then = out.check sender peer check after × (then ≡ draws)
  Says (asks.Request peer id key priority) (Sent accepted) sender draws after then =
      ((word : Unreliable) × (accepted ≡ is_accepted word) × out.send sender peer (spelling out.bytes_of (request_of id key)) priority word after) × (then ≡ draws)
  Says ask answer sender draws after then = ⊥

  -- what is asked is answered, or nothing is asked of the sender and the draws
  abbrev pub MaySay : Ask K P → (before : S) → D → (after : S) → D → Type 0
  MaySay ask sender draws after then = ((answer : Answer) × Says ask answer sender draws after then) ⊎ ((after ≡ sender) × (then ≡ draws))

module _ {K P S D : Type 0} (o : Orders K P) (out : Outside K P S D) where
  -- the open scan takes an answer to what it asks
  pub record TakesOne (answer : Answer) (before after : Lent K P S D) : Type 0 where
    pub ask : Ask K P
    pub asked : question o before.fetcher ≡ Some ask
    pub said : Says out ask answer before.sender before.draws after.sender after.draws
    pub taken : scan_answer o answer before.fetcher ≡ (Ok tt, after.fetcher)

  -- it takes these answers, one after another
  abbrev pub TakesAll : List Answer → (before after : Lent K P S D) → Type 0
  TakesAll [] before after = after ≡ before
  TakesAll (answer ∷ answers) before after = (then : Lent K P S D) × TakesOne answer before then × TakesAll answers then after

  -- a scan takes answers up to here
  abbrev pub GoesOn : (before after : Lent K P S D) → Type 0
  GoesOn before after = (answers : List Answer) × TakesAll answers before after

  -- a scan of this moment is begun, and goes on until it is over
  pub record Fetches (now : ℕ) (before after : Lent K P S D) : Type 0 where
    pub goes_on : GoesOn (record before { fetcher = scan_begin o now before.fetcher }) after
    pub over : after.fetcher.scan ≡ None

  -- a scan goes on up to a question that gets no answer, or whose answer is lost
  pub record Stops (before after : Lent K P S D) : Type 0 where
    pub then : Lent K P S D
    pub ask : Ask K P
    pub goes_on : GoesOn before then
    pub asked : question o then.fetcher ≡ Some ask
    pub said : MaySay out ask then.sender then.draws after.sender after.draws
    pub same : after.fetcher ≡ then.fetcher

  -- A scan of this moment is begun and stops, and is given up. The keys and the requests are as they were.
  pub record GivesUp (now : ℕ) (before after : Lent K P S D) : Type 0 where
    pub then : Fetcher K P
    pub stops : Stops (record before { fetcher = scan_begin o now before.fetcher }) (record after { fetcher = then })
    pub gives_up : after.fetcher ≡ given_up then
    pub keeps : after.fetcher ≡ given_up (record before.fetcher { last_id = after.fetcher.last_id })

  -- memory is wanting at the beginning, or later
  abbrev pub Wants : (now : ℕ) → (before after : Lent K P S D) → Type 0
  Wants now before after = (after ≡ before) ⊎ GivesUp now before after
