use Rattle.std.proofs.Common.{ap}
use Rattle.std.specs.Option.{option_map}
use Rattle.resolver_desk.specs.Desk.{book_of}
use Rattle.resolver_desk.proofs.desk.note_close.Goals as goal

pub close-requires : goal.close-requires
close-requires g c = record { unclosed = c.requires (book_of c.in-Some.book) (ap (option_map book_of) c.in-Some.is) }
