use Rattle.std.proofs.Common.{◌≡◌, ap, sym, subst, ◌∙◌, [], ◌∷◌, None, Some, true, false, if◌then◌else◌, rules}
use Rattle.std.specs.BTreeMap.{is_at}
use Rattle.std.specs.Map.{lookup, lookup_key}
use Rattle.resolver_fetch_scan.specs.Known.{Company, known_by, may_be_asked}
use Rattle.resolver_fetch_scan.specs.Trying.{weighed}
use Rattle.resolver_fetch.proofs.Among.{found-at, none-at}
use Rattle.resolver_fetch.proofs.fetcher.peers.Peers.askable_at.Goals as goal

pub returns-in_err-peer : goal.returns-in_err-peer
returns-in_err-peer g c =
    let known = known_by g.P.Ord.cmp c.args.self.now in
    let none : lookup_key (is_at (g.P.Ord.cmp c.args.name.now)) c.self.inside.set.entries ≡ None = search rules in
    let none_known = subst (λ (k : Company g.row.P.Denot). lookup_key (is_at (g.P.Ord.cmp c.args.name.now)) k.set ≡ None) c.self.view_is none in
    let gone : c.from_residual.result ≡ None = search rules in
    rw gone (sym (ap weighed (none-at g.met.P.Ord.total (may_be_asked g.P.Ord.cmp known) c.args.name.now known.set none_known)))

pub returns-then-may_be_asked : goal.returns-then-may_be_asked
returns-then-may_be_asked g c =
    let known = known_by g.P.Ord.cmp c.args.self.now in
    let peer = c.in_ok-peer.peer.now in
    let score = c.in_ok-peer.score.now in
    let key : lookup_key (is_at (g.P.Ord.cmp c.args.name.now)) c.self.inside.set.entries ≡ Some peer = search rules in
    let value : lookup (is_at (g.P.Ord.cmp c.args.name.now)) c.self.inside.set.entries ≡ Some score = search rules in
    let key_known = subst (λ (k : Company g.row.P.Denot). lookup_key (is_at (g.P.Ord.cmp c.args.name.now)) k.set ≡ Some peer) c.self.view_is key in
    let value_known = subst (λ (k : Company g.row.P.Denot). lookup (is_at (g.P.Ord.cmp c.args.name.now)) k.set ≡ Some score) c.self.view_is value in
    let found = found-at g.met.P.Ord.total (may_be_asked g.P.Ord.cmp known) c.args.name.now peer score known.set c.requires.ordered key_known value_known in
    let may : may_be_asked g.P.Ord.cmp known peer ≡ true = sym c.may_be_asked.ensures ∙ c.if-may_be_asked.true in
    ap (λ w. (peer, w) ∷ []) c.weight.ensures.value ∙ sym (ap weighed (found ∙ ap (λ b. if b then (peer, score) ∷ [] else []) may))

pub returns-else-may_be_asked : goal.returns-else-may_be_asked
returns-else-may_be_asked g c =
    let known = known_by g.P.Ord.cmp c.args.self.now in
    let peer = c.in_ok-peer.peer.now in
    let score = c.in_ok-peer.score.now in
    let key : lookup_key (is_at (g.P.Ord.cmp c.args.name.now)) c.self.inside.set.entries ≡ Some peer = search rules in
    let value : lookup (is_at (g.P.Ord.cmp c.args.name.now)) c.self.inside.set.entries ≡ Some score = search rules in
    let key_known = subst (λ (k : Company g.row.P.Denot). lookup_key (is_at (g.P.Ord.cmp c.args.name.now)) k.set ≡ Some peer) c.self.view_is key in
    let value_known = subst (λ (k : Company g.row.P.Denot). lookup (is_at (g.P.Ord.cmp c.args.name.now)) k.set ≡ Some score) c.self.view_is value in
    let found = found-at g.met.P.Ord.total (may_be_asked g.P.Ord.cmp known) c.args.name.now peer score known.set c.requires.ordered key_known value_known in
    let may : may_be_asked g.P.Ord.cmp known peer ≡ false = sym c.may_be_asked.ensures ∙ c.if-may_be_asked.false in
    sym (ap weighed (found ∙ ap (λ b. if b then (peer, score) ∷ [] else []) may))
