use Rattle.std.proofs.Common.{ap, ◌∙◌, refl, ◌++◌}
use Rattle.resolver_types.specs.Table.{emptied}
use Rattle.resolver_model_peer.specs.Parties.{parties}
use Rattle.resolver_model_peer.specs.Peer.{retain}
use Rattle.resolver_model_peer.specs.Canceled.{each_canceled}
use Rattle.resolver_peer_step.specs.Said.{codec}
use Rattle.resolver_peer_step.proofs.Retained.{agrees-retained, gone-told, over-closed}
use Rattle.resolver_peer_step.proofs.parts.Parts.retain.Goals as goal

pub returns : goal.returns
returns g c = λ m agrees.
    let a = parties g.K.Ord.cmp g.S.Ord.cmp g.P.Ord.cmp in
    let by_key = g.met.K.Ord.total in
    let keep = g.Q.Predicate.keeps c.args.keep.now in
    let e = c.args.self.now in
    let keys = c.as_slice.ensures.value ∙ c.in_ok-emptied.ensures.emptied ∙ ap (emptied keep) agrees.demand in
    record {
      done = retain m keep;
      is = refl;
      told =
          c.in_ok-cancel_each.ensures.told
          ∙ ap (λ ts. c.args.effects.now.items ++ ts) (ap (each_canceled g.K.Ord.cmp e.entries) keys ∙ gone-told a (codec g.K.Span.SIZE g.K.Span.bytes_of g.K.Span.read_from) by_key keep m agrees.sound e.entries agrees.entries);
      agrees =
          agrees-retained a by_key e m agrees (over-closed e.fetcher.scan m.scan c.requires.closed (ap (λ f. f.scan) agrees.fetcher)) keep c.retain.new.self c.forget.new.entries c.forget.new.fetcher
          c.in_ok-emptied.ensures.ok c.forget.ensures.entries c.forget.ensures.fetcher;
    }
