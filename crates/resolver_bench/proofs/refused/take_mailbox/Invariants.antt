use Rattle.std.proofs.Common.{true}
use Rattle.resolver_bench.proofs.refused.take_mailbox.Given as goal

abbrev pub ghosts-mailbox_book-N-Names : goal.ghosts-mailbox_book-N-Names
ghosts-mailbox_book-N-Names g a = record { puts = a.pages.puts.name; takes = a.pages.takes.name }

abbrev pub ghosts-mailbox_book-N-Naming : goal.ghosts-mailbox_book-N-Naming
ghosts-mailbox_book-N-Naming g a = record { is_recorded = true }
