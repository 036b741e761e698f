use Rattle.std.proofs.Common.{true}
use Rattle.tests_parts.proofs.mail.handles.what_an_engine_is_asked_stands_in_the_share.Given as goal

abbrev pub ghosts-recorded_engine-N-Names : goal.ghosts-recorded_engine-N-Names
ghosts-recorded_engine-N-Names g a = record { puts = a.pages.puts.name; takes = a.pages.takes.name }

abbrev pub ghosts-recorded_engine-N-Naming : goal.ghosts-recorded_engine-N-Naming
ghosts-recorded_engine-N-Naming g a = record { is_recorded = true }
