use Rattle.std.proofs.Common.{◌≡◌, ◌∙◌, sym, ap, arith, true, false, is_some, ◌∷◌, length}
use Rattle.std.proofs.lemmas.Cmp.{tied_itself}
use Rattle.std.specs.Map.{lookup, remove_entry}
use Rattle.std.specs.BTreeMap.{insert_entry, is_at}
use Rattle.std.specs.Ordering.{is_eq}
use Rattle.std.specs.Vec.Iter.{into_iter_items}
use Rattle.resolver_types.specs.Subscribers.{attached_all}
use Rattle.resolver_types.specs.Undone.{without_each}
use Rattle.resolver_demand.proofs.Placed.{attached-absent, attached-present}
use Rattle.resolver_types.proofs.Undone.{none-of, removed-inserted, without_each-last}
use Rattle.resolver_demand.proofs.subscribers.many.attach_all.Goals as goal

pub loop-one-preserved-then-contains_key : goal.loop-one-preserved-then-contains_key
loop-one-preserved-then-contains_key g c =
    let there : is_some (lookup (is_at (g.S.Ord.cmp c.in-Some.one.0)) c.loop-one.map.entries) ≡ true = sym c.contains_key.ensures ∙ c.if-contains_key.true in
    let next : into_iter_items c.loop-one.one-iterator ≡ c.in-Some.one ∷ into_iter_items c.next.new.self = c.in-Some.ensures.steps.0 in
    let stays = attached-present g.S.Ord.cmp g.met.S.Ord.total c.loop-one.map.entries c.in-Some.one c.loop-one.invariant.ordered there in
    record {
      room = omega (arith, c.loop-one.invariant.room, ap length next);
      makes = ap (λ entries. attached_all g.S.Ord.cmp entries (into_iter_items c.next.new.self)) (sym stays) ∙ ap (λ items. attached_all g.S.Ord.cmp c.loop-one.map.entries items) (sym next) ∙ c.loop-one.invariant.makes;
      ordered = c.loop-one.invariant.ordered;
      undone = c.loop-one.invariant.undone;
    }

pub loop-one-preserved : goal.loop-one-preserved
loop-one-preserved g c =
    let absent : is_some (lookup (is_at (g.S.Ord.cmp c.in-Some.one.0)) c.loop-one.map.entries) ≡ false = sym c.contains_key.ensures ∙ c.if-contains_key.false in
    let next : into_iter_items c.loop-one.one-iterator ≡ c.in-Some.one ∷ into_iter_items c.next.new.self = c.in-Some.ensures.steps.0 in
    let placed : c.attach.new.map.entries ≡ insert_entry g.S.Ord.cmp c.loop-one.map.entries c.in-Some.one.0 c.in-Some.one.1 = c.in_default.ensures.ok in
    let attaches = attached-absent g.S.Ord.cmp c.loop-one.map.entries c.in-Some.one absent in
    record {
      room = omega (arith, c.loop-one.invariant.room, ap length next, c.push_reserved.ensures.len, c.push_reserved.ensures.capacity);
      makes = ap (λ entries. attached_all g.S.Ord.cmp entries (into_iter_items c.next.new.self)) (placed ∙ sym attaches) ∙ ap (λ items. attached_all g.S.Ord.cmp c.loop-one.map.entries items) (sym next) ∙ c.loop-one.invariant.makes;
      ordered = c.in_default.ensures.ordered;
      undone =
          ap (λ added. without_each g.S.Ord.cmp added c.attach.new.map.entries) c.push_reserved.ensures.items
          ∙ without_each-last g.S.Ord.cmp c.loop-one.added.items c.in-Some.one.0 c.attach.new.map.entries
          ∙ ap (λ entries. without_each g.S.Ord.cmp c.loop-one.added.items entries) (ap (λ entries. remove_entry (is_at (g.S.Ord.cmp c.in-Some.one.0)) entries) placed ∙ removed-inserted g.S.Ord.cmp c.in-Some.one.0 c.loop-one.map.entries c.in-Some.one.1 (ap is_eq (tied_itself g.met.S.Ord.total c.in-Some.one.0)) (none-of _ absent))
          ∙ c.loop-one.invariant.undone;
    }

pub push_reserved-requires : goal.push_reserved-requires
push_reserved-requires g c = omega (arith, c.loop-one.invariant.room, ap length c.in-Some.ensures.steps.0)

pub returns-in-Err-clause-err : goal.returns-in-Err-clause-err
returns-in-Err-clause-err g c =
    c.take_back.ensures ∙ ap (λ entries. without_each g.S.Ord.cmp c.loop-one.added.items entries) c.in-Err.ensures.err ∙ c.loop-one.invariant.undone
