use Rattle.std.proofs.Common.{◌≡◌, ◌∙◌, sym, ap, ◌∷◌, ◌++◌, [], append-nil, append_assoc, refl, map, subst}
use Rattle.resolver_demand.specs.Rows.{AreListed}
use Rattle.resolver_model_opaque.specs.OpaqueTables.{row_of, rows_of}
use Rattle.resolver_model_opaque.specs.OpaqueListed.{listed}
use Rattle.resolver_model_opaque.proofs.rows.listed.Goals as goal

pub add_row-requires : goal.add_row-requires
add_row-requires g c = record {
  keys_clone = c.requires.keys_clone;
  subscribers_clone = c.requires.subscribers_clone;
  some = (subst (AreListed g.S.Ord.cmp) c.in-Some.ensures.steps c.loop-key.invariant.some).0.some;
}

pub loop-key-preserved : goal.loop-key-preserved
loop-key-preserved g c =
    let so_far = c.loop-key.list.items in
    let shown = listed (c.in-Some.key.now, row_of (c.in-Some.subscribers.now, c.in-Some-next.entry.now)) in
    let pushed : c.add_row.new.list.items ≡ so_far ++ shown ∷ [] = c.in_ok-add_row.ensures in
    record {
      made =
          rw (pushed, append_assoc)
          (sym (ap (λ es. so_far ++ map listed (rows_of ((c.in-Some.key.now, c.in-Some.subscribers.now) ∷ c.next.new.self) es)) c.in-Some-next.ensures.steps)
          ∙ (sym (ap (λ ts. so_far ++ map listed (rows_of ts c.loop-key.rest)) c.in-Some.ensures.steps)
          ∙ c.loop-key.invariant.made));
      some = (subst (AreListed g.S.Ord.cmp) c.in-Some.ensures.steps c.loop-key.invariant.some).1;
    }

pub loop-key-init : goal.loop-key-init
loop-key-init g c =
    let keys = c.into_iter-key-iterator.ensures.into_iter_gives ∙ c.iter-key-items.ensures.rest in
    record {
      made = rw (c.in_ok-list.ensures.items, keys, c.iter-rest.ensures.rest) refl;
      some = rw keys c.iter-key-items.ensures.listed;
    }

-- where no key is left, the list has all
pub returns-clause-rows : goal.returns-clause-rows
returns-clause-rows g c =
    sym (append-nil c.loop-key.list.items)
    ∙ ap (λ ts. c.loop-key.list.items ++ map listed (rows_of ts c.loop-key.rest)) (sym c.in-None.ensures.steps.0)
    ∙ c.loop-key.invariant.made

pub returns-in_default-clause-rows : goal.returns-in_default-clause-rows
returns-in_default-clause-rows g c =
    sym (append-nil c.loop-key.list.items)
    ∙ ap (λ ts. c.loop-key.list.items ++ map listed (rows_of ts [])) (sym c.in-Some.ensures.steps)
    ∙ ap (λ es. c.loop-key.list.items ++ map listed (rows_of c.loop-key.key-iterator es)) (sym c.in_default.ensures.steps.0)
    ∙ c.loop-key.invariant.made

pub returns-in_default-clause-ordered : goal.returns-in_default-clause-ordered
returns-in_default-clause-ordered g c = c.iter-key-items.ensures.ordered
