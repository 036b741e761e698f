use Rattle.std.proofs.Common.{rules}
use Rattle.resolver_types.specs.Names.{names}
use Rattle.resolver_types.specs.Table.{is_asked}
use Rattle.resolver_peer_step.proofs.retain.forget.Goals as goal

pub returns-clause-entries : goal.returns-clause-entries
returns-clause-entries g c = c.retain.ensures.after (is_asked (names g.K.Ord.cmp g.S.Ord.cmp) c.args.demand.now) (record { by = λ item b is. search rules })

pub returns-clause-fetcher : goal.returns-clause-fetcher
returns-clause-fetcher g c = c.retain-2.ensures (is_asked (names g.K.Ord.cmp g.S.Ord.cmp) c.args.demand.now) (record { by = λ item b is. search rules })

-- what the tracker answers is what it holds
pub retain-requires-2-clause-pure : goal.retain-requires-2-clause-pure
retain-requires-2-clause-pure g c = (is_asked (names g.K.Ord.cmp g.S.Ord.cmp) c.args.demand.now, record { by = λ item b is. search rules })
