use Rattle.std.proofs.Common.{true}
use Rattle.tests_parts.proofs.mail.threads.run_by_itself.Given as goal

abbrev pub ghosts-run-N-Names : goal.ghosts-run-N-Names
ghosts-run-N-Names g a = record { puts = a.pages.puts.name; takes = a.pages.takes.name }

abbrev pub ghosts-run-N-Naming : goal.ghosts-run-N-Naming
ghosts-run-N-Naming g a = record { is_recorded = true }
