use Rattle.std.proofs.Common.{rules, ◌≡◌, ◌≤◌, length, map, arith}
use Rattle.std.proofs.lemmas.List.{length-map}
use Rattle.std.specs.Vec.{vec_len}
use Rattle.resolver_desk.specs.Book.{call_of, puts_of}
use Rattle.resolver_desk.proofs.Calls.{puts_of-short}
use Rattle.resolver_desk.proofs.book.Book.count.Goals as goal

pub returns-clause-within : goal.returns-clause-within
returns-clause-within g c =
    let calls = map call_of c.args.self.now.calls.items in
    let is : c.unwrap_or.result ≡ length (puts_of c.args.number calls) = search rules in
    let short : length (puts_of c.args.number calls) ≤ length calls = puts_of-short c.args.number calls in
    let same : length c.args.self.now.calls.items ≡ vec_len c.args.self.now.calls = search rules in
    omega (arith, is, short, length-map c.args.self.now.calls.items call_of, same)
