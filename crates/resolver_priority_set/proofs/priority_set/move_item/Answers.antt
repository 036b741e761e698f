use Rattle.std.proofs.Common.{◌∙◌, refl, ap, is_eq}
use Rattle.resolver_priority_set.proofs.Priorities.{found-none, put-exchanged}
use Rattle.resolver_priority_set.proofs.priority_set.move_item.Goals as goal

pub unreachable-requires : goal.unreachable-requires
unreachable-requires g c =
    found-none g.met.I.Ord.total g.met.R.Ord.total c.args.pair.1 c.args.held.now c.in_ok-clone.field-0 c.args.ordered.now.keys c.requires.there
    (c.requires.priorities_clone c.args.held.now c.in_ok-clone.field-0 c.in_ok-clone.ensures.cases) c.in_default.ensures.key

pub returns : goal.returns
returns g c = record {
  ok = put-exchanged g.met.I.Ord.total g.met.R.Ord.total c.args.pair.1 c.in-Some.there.now c.in_ok-clone-2.field-0 c.args.pair.0 c.args.held.now c.in_ok-clone.field-0
      c.args.ordered.now.keys c.exchange.new.set.keys c.is_eq-level.result
      c.requires.sorted c.requires.there (c.requires.priorities_clone c.args.held.now c.in_ok-clone.field-0 c.in_ok-clone.ensures.cases)
      c.in-Some.ensures.key (c.requires.items_clone c.in-Some.there.now.1 c.in_ok-clone-2.field-0 c.in_ok-clone-2.ensures.cases)
      (c.is_eq-level.ensures ∙ ap is_eq c.cmp.ensures) c.in_ok-exchange.ensures.ok;
  moved = refl;
  err = tt;
  stays = tt;
  sorted = c.exchange.ensures.sorted;
  only = tt;
}
