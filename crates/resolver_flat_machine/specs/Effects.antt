-- How the core's effects are spelled: a tag, and what the effect carries.
use Rattle.std.specs.Prelude.{ℕ, List, ◌∷◌, ◌++◌, map}
use Rattle.std.specs.List.{concat}
use Rattle.resolver_fetch_scan.specs.declared.scan.Ask.{Ask as Question}
use Rattle.resolver_fetch_scan.specs.declared.scan.Ask.TheVariants.{Draw, Check, Request}
use Rattle.resolver_model_peer.specs.declared.effects.Effect.{Effect}
use Rattle.resolver_model_peer.specs.declared.effects.Effect.TheVariants.{Ask, Deliver, Cancel, Produce, Reply, Credit, Block}
use Rattle.resolver_core.specs.declared.p2p.rows.Row.{Row}
use Rattle.resolver_flat.specs.Spelling.{demanded, flag, handed, number, value, wide}

-- `bytes_of` is a name's bytes
module _ {K : Type 0} (bytes_of : K → List ℕ) where
  abbrev pub asked : Question K K → List ℕ
  asked (Draw bound) = 0 ∷ wide bound
  asked (Check peer) = 1 ∷ bytes_of peer
  asked (Request peer id key priority) = 2 ∷ flag priority ++ bytes_of peer ++ number id ++ bytes_of key

  abbrev pub spelled : Effect K K ℕ → List ℕ
  spelled (Ask question) = asked question
  spelled (Deliver id response delivery bytes) = 3 ∷ handed bytes_of id response delivery ++ value bytes
  spelled (Cancel id) = 4 ∷ number id
  spelled (Produce serve key) = 5 ∷ number serve ++ bytes_of key
  spelled (Reply peer bytes priority) = 6 ∷ flag priority ++ bytes_of peer ++ value bytes
  spelled (Credit response source) = 7 ∷ number response ++ bytes_of source.peer ++ wide source.elapsed ++ number source.bytes
  spelled (Block response peer) = 8 ∷ number response ++ bytes_of peer

  -- one behind the other
  abbrev pub all_spelled : List (Effect K K ℕ) → List ℕ
  all_spelled effects = concat (map spelled effects)

  -- a demanded key, and who wants it
  unfoldable pub row_spelled : Row K ℕ K → List ℕ
  row_spelled row = demanded bytes_of row.key row.subscribers

  abbrev pub all_rows : List (Row K ℕ K) → List ℕ
  all_rows rows = concat (map row_spelled rows)
