use Rattle.std.proofs.Common.{true}
use Rattle.examples.proofs.mailbox.run.Given as goal

abbrev pub ghosts-counted-N-Names : goal.ghosts-counted-N-Names
ghosts-counted-N-Names g a = record { puts = a.pages.puts.name; takes = a.pages.takes.name }

abbrev pub ghosts-counted-N-Naming : goal.ghosts-counted-N-Naming
ghosts-counted-N-Naming g a = record { is_recorded = true }
