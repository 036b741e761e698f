use Rattle.std.proofs.Common.{◌≡◌, ap, ◌∙◌, refl}
use Rattle.resolver_fetch_scan.specs.Fetcher as calls
use Rattle.resolver_model_peer.specs.Parties.{orders_of, parties}
use Rattle.resolver_model_peer.specs.Peer.{row_of}
use Rattle.resolver_core.specs.declared.p2p.rows.Row.{Row as ListedRow}
use Rattle.resolver_core.specs.Listed.{listed, listed_phase}
use Rattle.resolver_model_peer.proofs.Refusals.{refused, refused-as}
use Rattle.resolver_core.proofs.Shown.{if-some, retries-shown, some-at}
use Rattle.resolver_core.proofs.p2p.rows.listed.Goals as goal

pub returns-clause-row : goal.returns-clause-row
returns-clause-row g c = λ m agrees.
    let a = parties g.K.Ord.cmp g.S.Ord.cmp g.P.Ord.cmp in
    let key = c.args.key.now in
    let shown : ListedRow _ _ _ = record {
      key = c.in_ok-clone.field-0;
      subscribers = c.subscribers.inside.items.items;
      targets = c.in_ok-listed_targets.field-0;
      retries = c.retries.result;
      phase = c.in_ok-listed_phase.field-0;
    } in
    if-some (row_of a m key) (λ row. c.args.subscribers.now ≡ row.subscribers → shown ≡ listed (key, row))
    (λ row found same.
    let targets = some-at (row_of a m key) (λ row. c.in_ok-listed_targets.field-0 ≡ row.targets) row found (c.in_ok-listed_targets.ensures.targets m agrees) in
    let phase = some-at (row_of a m key) (λ row. c.in_ok-listed_phase.field-0 ≡ listed_phase row.phase) row found (c.in_ok-listed_phase.ensures.phase m agrees) in
    let retries = c.retries.ensures ∙ ap (λ f. calls.retries_of (orders_of a) f key) agrees.fetcher ∙ retries-shown a g.met.K.Ord.total m agrees.sound key row found in
    let subscribers = c.subscribers.view_is ∙ c.in-Ok.ensures.ok ∙ c.in_ok-copied.ensures ∙ same in
    rw (c.requires.keys_clone _ _ c.in_ok-clone.ensures.cases, subscribers, targets, retries, phase) refl)

pub returns-in_err-copied-clause-row : goal.returns-in_err-copied-clause-row
returns-in_err-copied-clause-row g c = λ m agrees. if-some (row_of (parties g.K.Ord.cmp g.S.Ord.cmp g.P.Ord.cmp) m c.args.key.now) _ (λ row found same. refused c.from_residual.result _ _ c.from_residual.ensures.1)

pub returns-in_err-copied-clause-only : goal.returns-in_err-copied-clause-only
returns-in_err-copied-clause-only g c = refused-as c.from_residual.result _ _ c.from_residual.ensures.1 (λ fault same. same)

pub returns-in_err-clone-clause-row : goal.returns-in_err-clone-clause-row
returns-in_err-clone-clause-row g c = λ m agrees. if-some (row_of (parties g.K.Ord.cmp g.S.Ord.cmp g.P.Ord.cmp) m c.args.key.now) _ (λ row found same. refused c.from_residual-in_err-clone.result _ _ c.from_residual-in_err-clone.ensures.1)

pub returns-in_err-clone-clause-only : goal.returns-in_err-clone-clause-only
returns-in_err-clone-clause-only g c = refused-as c.from_residual-in_err-clone.result _ _ c.from_residual-in_err-clone.ensures.1 (λ fault same. same)

pub returns-in_err-listed_targets-clause-row : goal.returns-in_err-listed_targets-clause-row
returns-in_err-listed_targets-clause-row g c = λ m agrees. if-some (row_of (parties g.K.Ord.cmp g.S.Ord.cmp g.P.Ord.cmp) m c.args.key.now) _ (λ row found same. refused c.from_residual-in_err-listed_targets.result _ _ c.from_residual-in_err-listed_targets.ensures.1)

pub returns-in_err-listed_targets-clause-only : goal.returns-in_err-listed_targets-clause-only
returns-in_err-listed_targets-clause-only g c = refused-as c.from_residual-in_err-listed_targets.result _ _ c.from_residual-in_err-listed_targets.ensures.1 (λ fault same. same ∙ c.in_err-listed_targets.ensures.only)

pub returns-in_err-listed_phase-clause-row : goal.returns-in_err-listed_phase-clause-row
returns-in_err-listed_phase-clause-row g c = λ m agrees. if-some (row_of (parties g.K.Ord.cmp g.S.Ord.cmp g.P.Ord.cmp) m c.args.key.now) _ (λ row found same. refused c.from_residual-in_err-listed_phase.result _ _ c.from_residual-in_err-listed_phase.ensures.1)

pub returns-in_err-listed_phase-clause-only : goal.returns-in_err-listed_phase-clause-only
returns-in_err-listed_phase-clause-only g c = refused-as c.from_residual-in_err-listed_phase.result _ _ c.from_residual-in_err-listed_phase.ensures.1 (λ fault same. same ∙ c.in_err-listed_phase.ensures.only)
