use Rattle.std.proofs.Common.{true}
use Rattle.tests_parts.proofs.mail.handles.what_a_source_is_asked_stands_in_the_share.Given as goal

abbrev pub ghosts-recorded_source-N-Names : goal.ghosts-recorded_source-N-Names
ghosts-recorded_source-N-Names g a = record { puts = a.pages.puts.name; takes = a.pages.takes.name }

abbrev pub ghosts-recorded_source-N-Naming : goal.ghosts-recorded_source-N-Naming
ghosts-recorded_source-N-Naming g a = record { is_recorded = true }
