use Rattle.std.proofs.Common.{ap, sym, ◌∙◌, append-nil, refl, Some}
use Rattle.std.specs.Map.{lookup, remove_entry}
use Rattle.std.specs.BTreeMap.{is_at}
use Rattle.std.specs.Ordering.{nat_cmp}
use Rattle.resolver_model_peer.specs.Parties.{parties}
use Rattle.resolver_model_peer.specs.Peer.{quiet}
use Rattle.resolver_peer_step.proofs.Serves.{passed-over, sends, sent, with-serves}
use Rattle.resolver_peer_step.proofs.parts.Parts.served.Goals as goal

pub returns-in_default-clause-goes : goal.returns-in_default-clause-goes
returns-in_default-clause-goes g c = λ m agrees.
    let at = is_at (nat_cmp c.args.serve) in
    let h = c.in_default.ensures in
    record {
      done = quiet m;
      is = ap Some (passed-over m c.args.serve c.args.value (ap (lookup at) (sym agrees.serves) ∙ sym h.value));
      told = sym (append-nil c.args.effects.now.items);
      agrees = with-serves (parties g.K.Ord.cmp g.S.Ord.cmp g.P.Ord.cmp) c.args.self.now m c.remove.new.self m.serves agrees (h.unchanged ∙ agrees.serves);
    }

pub returns-clause-goes : goal.returns-clause-goes
returns-clause-goes g c = λ m agrees.
    let at = is_at (nat_cmp c.args.serve) in
    let h = c.in-Some.ensures in
    let s = c.in-Some.begun in
    record {
      done = sent m c.args.serve c.args.value s;
      is = ap Some (sends m c.args.serve c.args.value s (ap (lookup at) (sym agrees.serves) ∙ sym h.value));
      told = rw (c.in_ok-push.ensures.items, c.in_ok-bytes.ensures.bytes, c.into_serve-peer.ensures, agrees.priority) refl;
      agrees = with-serves (parties g.K.Ord.cmp g.S.Ord.cmp g.P.Ord.cmp) c.args.self.now m c.remove.new.self (remove_entry at m.serves) agrees (h.entries ∙ ap (remove_entry at) agrees.serves);
    }
