use Rattle.std.proofs.Common.{◌≡◌, ◌∙◌, ap, subst, sym, filter, is_some, option_map, rules}
use Rattle.std.proofs.lemmas.Map.Made.{filter_same_pairs}
use Rattle.std.specs.Fn.{FnReturnsAt}
use Rattle.std.specs.NonZero.{non_zero_u32_get}
use Rattle.resolver_fetch_scan.specs.Fetcher.{Fetcher, retain}
use Rattle.resolver_fetch_scan.specs.Known.{Known, known_by}
use Rattle.resolver_fetch_scan.specs.Orders.{orders}
use Rattle.resolver_fetch_waiting.specs.Pending.{with_kept}
use Rattle.resolver_fetch.proofs.Freeing.{load-kept}
use Rattle.resolver_fetch.proofs.Kept.{closed-any, kept-fewer, loaded-by}
use Rattle.resolver_fetch.proofs.fetcher.Fetcher.retain.Goals as goal

pub free_each-requires-clause-loaded : goal.free_each-requires-clause-loaded
free_each-requires-clause-loaded g c =
    let a = c.self.inside in
    loaded-by g.P.Ord.cmp (option_map non_zero_u32_get a.peer_limit) a.requests (known_by g.P.Ord.cmp a.peers).load c.self.invariant.1

pub returns : goal.returns
returns g c = λ test pure.
    let freed = c.free_each.ensures test pure in
    let set = ap (λ (k : Known g.row.P.Denot). k.set) freed in
    let blocked = ap (λ (k : Known g.row.P.Denot). k.blocked) freed in
    let local = ap (λ (k : Known g.row.P.Denot). k.local) freed in
    let waiting : c.retain.new.self ≡ with_kept test c.self.inside.pending = c.retain.ensures.kept test (record { by = λ key b called. pure.by key b (subst (λ k. FnReturnsAt g.F.Fn c.args.keep k b) called.shows called.says.met) }) in
    let asked : c.retain-2.new.self ≡ filter (λ r. test r.1.key) c.self.inside.requests = c.retain-2.ensures.kept test (record { by = λ key b called. pure.by key b (subst (λ k. FnReturnsAt g.F.Fn c.args.keep k b) called.shows called.says.met) }) in
    let targets : c.retain-3.new.self.entries ≡ filter (λ e. test e.0) c.self.inside.targets.entries =
    filter_same_pairs _ (λ e. test e.0) _ (λ k v b w f' t. (pure.by k b (subst (λ k. FnReturnsAt g.F.Fn c.args.keep k b) t.shows.0 t.called.met.1.0), sym t.leaves ∙ t.called.met.1.1 ∙ t.shows.1, search rules)) _ _ c.retain-3.ensures.filtered in
    let retries : c.retain-4.new.self.entries ≡ filter (λ e. test e.0) c.self.inside.retries.entries =
    filter_same_pairs _ (λ e. test e.0) _ (λ k v b w f' t. (pure.by k b (subst (λ k. FnReturnsAt g.F.Fn c.args.keep k b) t.shows.0 t.called.met.1.0), sym t.leaves ∙ t.called.met.1.1 ∙ t.shows.1, search rules)) _ _ c.retain-4.ensures.filtered in
    rw (waiting, asked, targets, retries, set, blocked, local) (ap (λ (f : Fetcher _ _). retain (orders g.K.Ord.cmp g.P.Ord.cmp) test f) c.self.view_is)

pub invariant_of-self : goal.invariant_of-self
invariant_of-self g c =
    let a = c.self.inside in
    let shut = ap is_some (ap (λ (f : Fetcher g.row.K.Denot g.row.P.Denot). f.scan) c.self.view_is) ∙ c.requires.closed in
    let test = c.requires.pure.0 in
    let pure = c.requires.pure.1 in
    let asked : c.retain-2.new.self ≡ filter (λ r. test r.1.key) a.requests = c.retain-2.ensures.kept test (record { by = λ key b called. pure.by key b (subst (λ k. FnReturnsAt g.F.Fn c.args.keep k b) called.shows called.says.met) }) in
    let freed = ap (λ (k : Known g.row.P.Denot). k.load) (c.free_each.ensures test pure) in
    let limit = option_map non_zero_u32_get a.peer_limit in
    let loaded = load-kept g.P.Ord.cmp limit (known_by g.P.Ord.cmp a.peers).load a.requests (filter (λ r. test r.1.key) a.requests) c.self.invariant.1 in (
      kept-fewer g.met.K.Ord.total a.fetch_timeout a.retry_delay a.last_id a.pending.keys a.requests c.self.invariant.0 c.retain.new.self.keys c.retain-2.new.self
          c.retain.ensures.fewer c.retain-2.ensures.fewer c.retain-2.ensures.none,
      rw asked (freed ∙ loaded),
      closed-any a.cursor shut _,
    )
