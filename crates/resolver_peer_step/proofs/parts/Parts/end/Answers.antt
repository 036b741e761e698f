use Rattle.std.proofs.Common.{rules, ap, ◌∙◌, refl, ◌++◌, false}
use Rattle.resolver_model_peer.specs.Parties.{parties}
use Rattle.resolver_model_peer.specs.Peer.{end}
use Rattle.resolver_peer_step.specs.Said.{codec}
use Rattle.resolver_peer_step.proofs.Retained.{agrees-ended, all-told, over-closed}
use Rattle.resolver_peer_step.proofs.parts.Parts.end.Goals as goal

pub returns : goal.returns
returns g c = λ m agrees.
    let a = parties g.K.Ord.cmp g.S.Ord.cmp g.P.Ord.cmp in
    let by_key = g.met.K.Ord.total in
    let e = c.args.self.now in
    record {
      done = end m;
      is = refl;
      told =
          c.in_ok-cancel_all.ensures.told
          ∙ ap (λ ts. c.args.effects.now.items ++ ts) (all-told a (codec g.K.Span.SIZE g.K.Span.bytes_of g.K.Span.read_from) e.entries.keys m.rows agrees.entries);
      agrees =
          agrees-ended a by_key e m agrees (over-closed e.fetcher.scan m.scan c.requires.closed (ap (λ f. f.scan) agrees.fetcher)) c.clear.new.self c.clear-2.new.self c.retain.new.self c.clear-3.new.self
          c.clear.ensures c.clear-2.ensures (c.retain.ensures (λ key. false) (record { by = λ item b is. search rules })) c.clear-3.ensures.empty;
    }

-- nothing is kept
pub retain-requires-clause-pure : goal.retain-requires-clause-pure
retain-requires-clause-pure g c = ((λ key. false), record { by = λ item b is. search rules })
