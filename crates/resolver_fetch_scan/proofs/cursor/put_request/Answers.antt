use Rattle.std.proofs.Common.{refl, ap, ◌∙◌}
use Rattle.resolver_fetch_scan.specs.declared.cursor.Cursor.{Cursor}
use Rattle.resolver_fetch_scan.proofs.Outcomes.{on-err}
use Rattle.resolver_fetch_scan.proofs.cursor.put_request.Goals as goal

pub insert-requires-clause-new_key : goal.insert-requires-clause-new_key
insert-requires-clause-new_key g c =
    let key = c.requires.keys_clone _ c.in_ok-clone.field-0 c.in_ok-clone.ensures.cases ∙ ap (λ (u : Cursor g.row.K.Denot g.row.P.Denot). u.trying.key) c.cursor.view_is in
    rw key c.requires.new_key

pub returns-clause-ok : goal.returns-clause-ok
returns-clause-ok g c =
    let key = c.requires.keys_clone _ c.in_ok-clone.field-0 c.in_ok-clone.ensures.cases ∙ ap (λ (u : Cursor g.row.K.Denot g.row.P.Denot). u.trying.key) c.cursor.view_is in
    let moment = ap (λ (u : Cursor g.row.K.Denot g.row.P.Denot). u.moment) c.cursor.view_is in
    rw (key, moment) at c.insert.ensures.ok

pub returns-in_err-clone-clause-err : goal.returns-in_err-clone-clause-err
returns-in_err-clone-clause-err g c = on-err c.from_residual.result _ refl
