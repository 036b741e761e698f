use Rattle.std.proofs.Common.{rules, refl, ◌≡◌, ◌∙◌, ◌∷◌, ◌++◌, [], sym, ap, length, map, arith}
use Rattle.resolver_desk.specs.declared.entry.Entry.TheVariants as entries
use Rattle.resolver_desk.specs.Book.{Close, call_of, closes, puts_of}
use Rattle.resolver_desk.proofs.Calls.{calls-append, closes-close, count-other}
use Rattle.resolver_desk.proofs.book.Book.close.Goals as goal

pub invariant_of-self-clause-counted : goal.invariant_of-self-clause-counted
invariant_of-self-clause-counted g c h =
    let pushed : c.push_reserved.new.self.items ≡ c.args.self.now.calls.items ++ entries.Close ∷ [] = search rules in
    c.args.self.now.counted h
    ∙ count-other h (map call_of c.args.self.now.calls.items) Close refl
    ∙ ap (λ calls. length (puts_of h calls)) (sym (calls-append c.args.self.now.calls.items entries.Close))
    ∙ ap (λ items. length (puts_of h (map call_of items))) (sym pushed)

pub invariant_of-self-clause-closable : goal.invariant_of-self-clause-closable
invariant_of-self-clause-closable g c none =
    let pushed : c.push_reserved.new.self.items ≡ c.args.self.now.calls.items ++ entries.Close ∷ [] = search rules in
    let closed = ap (λ items. closes (map call_of items)) pushed ∙ ap closes (calls-append c.args.self.now.calls.items entries.Close) ∙ closes-close (map call_of c.args.self.now.calls.items) in
    absurd (omega (arith, none, closed))
