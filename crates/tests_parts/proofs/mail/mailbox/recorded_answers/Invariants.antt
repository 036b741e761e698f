use Rattle.std.proofs.Common.{true}
use Rattle.tests_parts.proofs.mail.mailbox.recorded_answers.Given as goal

abbrev pub ghosts-recorded_play-N-Names : goal.ghosts-recorded_play-N-Names
ghosts-recorded_play-N-Names g a = record { puts = a.pages.puts.name; takes = a.pages.takes.name }

abbrev pub ghosts-recorded_play-N-Naming : goal.ghosts-recorded_play-N-Naming
ghosts-recorded_play-N-Naming g a = record { is_recorded = true }
