use Rattle.std.proofs.Common.{◌∙◌, map}
use Rattle.resolver_types.specs.Names.{names}
use Rattle.resolver_desk.specs.Book.{call_of}
use Rattle.resolver_desk.specs.Desk.{calls_of}
use Rattle.resolver_mailbox.proofs.Agreeing.{copied-book, kept-book}
use Rattle.resolver_mailbox.proofs.mailbox.counted.Counted.calls.Goals as goal

pub returns-clause-legal : goal.returns-clause-legal
returns-clause-legal g c recorded =
    let n = names g.K.Ord.cmp g.S.Ord.cmp in
    let was = c.args.self.now in
    copied-book n g.Q.Predicate.keeps (λ calls. map call_of calls.items) c.copied.result (map call_of c.calls.result.now) (calls_of was.desk) c.copied.ensures.same c.calls.ensures
    (kept-book n g.Q.Predicate.keeps was.desk (was.recorded ∙ recorded) c.law.ensures)
