use Rattle.resolver_delivery.proofs.completion.Completion.clone.Goals as goal

pub returns : goal.returns
returns g c = record {
  same = λ i. record c.args.self.now {
    context = c.requires.contexts_clone _ _ c.in_ok-clone.ensures.cases i;
    delivery = c.in_ok-clone-2.ensures.same i;
  };
}
