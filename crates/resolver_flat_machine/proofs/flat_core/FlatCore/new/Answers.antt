use Rattle.std.proofs.Common.{Ok}
use Rattle.resolver_flat_machine.specs.Settings.{said}
use Rattle.resolver_flat_machine.proofs.Seen.{gives_whole}
use Rattle.resolver_flat_machine.proofs.flat_core.FlatCore.new.Goals as goal

pub returns : goal.returns
returns g c =
    (said c.in_ok-settings-2.settings, gives_whole said _ _ _ (Ok c.in_ok-settings-2.settings) c.in_ok-settings.ensures c.in_ok-settings-2.ensures, c.with.ensures)
