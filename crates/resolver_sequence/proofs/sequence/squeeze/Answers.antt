use Rattle.std.proofs.Common.{◌≡◌, rules, filter}
use Rattle.std.proofs.lemmas.List.Elements.{filter_from_retain}
use Rattle.resolver_sequence.proofs.Slots.{begins-full, filtered-sorted, full-entries, is_full}
use Rattle.resolver_sequence.proofs.sequence.squeeze.Goals as goal

left : (g : _) (c : goal.After-retain g) → c.retain.new.self.items ≡ filter is_full c.args.slots.now.items
left g c = filter_from_retain _ is_full (λ f slot b f' t. search rules) _ _ _ c.retain.ensures.filtered

pub returns-then-len-held-clause-same : goal.returns-then-len-held-clause-same
returns-then-len-held-clause-same g c = rw (left g c) (full-entries c.args.slots.now.items)

pub returns-then-len-held-clause-rising : goal.returns-then-len-held-clause-rising
returns-then-len-held-clause-rising g c = rw (left g c) (filtered-sorted is_full c.args.slots.now.items c.requires.rising)

pub returns-then-len-held-clause-full : goal.returns-then-len-held-clause-full
returns-then-len-held-clause-full g c = rw (left g c) (begins-full c.args.slots.now.items)
