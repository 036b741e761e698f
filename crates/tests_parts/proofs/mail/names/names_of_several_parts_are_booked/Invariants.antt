use Rattle.std.proofs.Common.{true}
use Rattle.tests_parts.proofs.mail.names.names_of_several_parts_are_booked.Given as goal

abbrev pub ghosts-booked-N-Names : goal.ghosts-booked-N-Names
ghosts-booked-N-Names g a = record { puts = a.pages.puts.name; takes = a.pages.takes.name }

abbrev pub ghosts-booked-N-Naming : goal.ghosts-booked-N-Naming
ghosts-booked-N-Naming g a = record { is_recorded = true }
