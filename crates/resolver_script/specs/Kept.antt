-- Which subscribers a line of a script keeps.
use Rattle.std.specs.Prelude.{ℕ, Bool, not, ◌==◌}
use Rattle.resolver_mailbox.specs.declared.mocks.Key.{Key}
use Rattle.resolver_script.specs.declared.kept.Kept.{Kept}
use Rattle.resolver_script.specs.declared.kept.Kept.TheVariants.{Subscriber, AllBut, Without}
use Rattle.std.specs.Ordering.{nat_cmp}
use Rattle.resolver_types.specs.Names.{names}
use Rattle.resolver_backfill.specs.Plans.{keeps}

abbrev pub is_kept : Kept → Key → ℕ → Bool
is_kept (Subscriber kept) key subscriber = subscriber == kept
is_kept (AllBut dropped) key subscriber = not (key.0 == dropped)
is_kept (Without without) key subscriber = keeps (names (λ k l. nat_cmp k.0 l.0) nat_cmp) without key subscriber
