use Rattle.std.proofs.Common.{◌≡◌, ◌∙◌, ◌+◌, refl, sym, ap, rules, ℕ, Some, List}
use Rattle.std.specs.Ordering.{nat_cmp}
use Rattle.std.specs.BTreeMap.{insert_entry, is_at}
use Rattle.std.specs.declared.cmp.Ordering.{Ordering}
use Rattle.resolver_types.specs.declared.delivery.Delivery.{Delivery}
use Rattle.resolver_delivery.specs.declared.entry.Entry.{Entry}
use Rattle.resolver_delivery.specs.declared.entry.Open.{Open}
use Rattle.resolver_delivery.specs.declared.entry.Response.{Response}
use Rattle.resolver_delivery.specs.Entries.{Numbered, changed_at, entry_of, numbered, redelivered, response_of}
use Rattle.resolver_delivery.proofs.entries.Entries.redeliver.Goals as goal

begun-again : {K S V C State : Type 0} (cmp : K → K → Ordering) (delivery : Delivery K S) (d : Numbered K S V C State) (r : Response V C)
    (keys : List (K × Entry V C State)) (going : List (ℕ × Open K S C)) (next number : ℕ) (context : C)
    → response_of cmp d delivery.key ≡ Some r → number ≡ d.next → context ≡ r.context
    → keys ≡ changed_at (is_at (cmp delivery.key)) (entry_of cmp d delivery.key) (numbered number) d.keys
    → going ≡ insert_entry nat_cmp d.going number (record { response = r.name; delivery = delivery; context = context; accepted = r.accepted })
    → next ≡ d.next + 1
    → ◌≡◌ {A = Numbered K S V C State} (record { keys = keys; going = going; next = next }) (redelivered cmp delivery d)
begun-again cmp delivery d r keys going next number context found is same held opened after =
    rw (found, held, opened, after, is, same) refl

pub returns-clause-ok : goal.returns-clause-ok
returns-clause-ok g c =
    begun-again g.K.Ord.cmp c.args.delivery (record { keys = c.self.inside.keys.entries; going = c.self.inside.going; next = c.self.inside.numbers })
    c.in-Some.response.now c.begin.new.keys.entries c.begin.new.going c.take.new.self c.in_ok-number.number c.in_ok-context.context
    (ap (λ d. response_of g.K.Ord.cmp d c.args.delivery.key) c.self.view_is ∙ sym c.in-Some.ensures)
    (search rules) (c.requires.contexts_clone _ _ c.in_ok-context.ensures.cases) c.in_ok-begin.ensures.held c.in_ok-begin.ensures.opened (search rules)
    ∙ ap (redelivered g.K.Ord.cmp c.args.delivery) c.self.view_is
