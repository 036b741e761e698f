use Rattle.std.proofs.Common.{rules, refl, ◌≡◌, ◌∙◌, ◌∷◌, ◌++◌, [], sym, ap, length, map, nat_eq, ◌+◌, ℕ, Some, cond, Bool, true, false, Option}
use Rattle.std.specs.Option.{unwrap_or}
use Rattle.std.specs.HashMap.{Updates, get}
use Rattle.resolver_desk.specs.declared.entry.Entry.TheVariants as entries
use Rattle.resolver_messages.specs.Waiting.{told_of}
use Rattle.resolver_desk.specs.Book.{call_of, puts_of}
use Rattle.resolver_desk.proofs.Calls.{calls-append, count-put}
use Rattle.resolver_desk.proofs.book.Book.put.Goals as goal

picked : (t : Bool) (x : ℕ) (o : Option ℕ) → unwrap_or (cond t (Some x) o) 0 ≡ cond t x (unwrap_or o 0)
picked true x o = refl
picked false x o = refl

pub invariant_of-self-clause-counted : goal.invariant_of-self-clause-counted
invariant_of-self-clause-counted g c h =
    let place = c.count-place.result in
    let updates : Updates nat_eq c.args.self.now.counts c.insert.new.self c.args.number (Some (place + 1)) = search rules in
    let entry = entries.Put (record { handle = c.args.number; place = place; message = c.args.message; is_ok = c.args.is_ok }) in
    let pushed : c.push_reserved.new.self.items ≡ c.args.self.now.calls.items ++ entry ∷ [] = search rules in
    ap (λ (o : Option ℕ). unwrap_or o 0) (updates.0 h)
    ∙ picked (nat_eq c.args.number h) (place + 1) (get nat_eq c.args.self.now.counts h)
    ∙ ap (λ (n : ℕ). cond (nat_eq c.args.number h) (place + 1) n) (c.args.self.now.counted h)
    ∙ count-put h c.args.number place (told_of c.args.message) c.args.is_ok (map call_of c.args.self.now.calls.items) place c.count-place.ensures.count
    ∙ ap (λ calls. length (puts_of h calls)) (sym (calls-append c.args.self.now.calls.items entry))
    ∙ ap (λ items. length (puts_of h (map call_of items))) (sym pushed)
