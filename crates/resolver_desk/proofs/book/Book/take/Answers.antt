use Rattle.std.proofs.Common.{rules, refl, ◌≡◌, ◌∙◌, ◌∷◌, ◌++◌, [], sym, ap, length, map}
use Rattle.resolver_desk.specs.declared.entry.Entry.TheVariants as entries
use Rattle.resolver_messages.specs.Waiting.{told_of}
use Rattle.resolver_desk.specs.Book.{Take, call_of, puts_of}
use Rattle.resolver_desk.proofs.Calls.{calls-append, count-other}
use Rattle.resolver_desk.proofs.book.Book.take.Goals as goal

pub invariant_of-self-2-clause-counted : goal.invariant_of-self-2-clause-counted
invariant_of-self-2-clause-counted g c h =
    let pushed : c.push_reserved.new.self.items ≡ c.args.self.now.calls.items ++ entries.Take c.args.message ∷ [] = search rules in
    c.args.self.now.counted h
    ∙ count-other h (map call_of c.args.self.now.calls.items) (Take (told_of c.args.message)) refl
    ∙ ap (λ calls. length (puts_of h calls)) (sym (calls-append c.args.self.now.calls.items (entries.Take c.args.message)))
    ∙ ap (λ items. length (puts_of h (map call_of items))) (sym pushed)
