-- The peers that a pass has found, and what it finds next.
use Rattle.std.proofs.Common.{◌≡◌, refl, ap, sym, ◌∙◌, ℕ, Bool, true, false, List, [], ◌∷◌, ◌++◌, filter, append_assoc}
use Rattle.std.proofs.lemmas.List.{map-append}
use Rattle.std.specs.declared.cmp.Ordering.{Ordering}
use Rattle.resolver_fetch_scan.specs.Known.{Known, askable_at}
use Rattle.resolver_fetch_scan.specs.Trying.{weighed}
use Rattle.resolver_sampling.specs.Scores.{weight_of}
use Rattle.resolver_sampling.specs.declared.score.Averages.{Averages}
use Rattle.resolver_fetch.proofs.Among.{among}

module _ {P : Type 0} (keep : P → Bool) where
  -- the peers that are kept, with what they weigh
  abbrev pub kept : List (P × Averages) → List (P × ℕ)
  kept es = weighed (filter (λ e. keep e.0) es)

  pub kept-here : (before : List (P × ℕ)) (e : P × Averages) (es : List (P × Averages)) → keep e.0 ≡ true → (before ++ (e.0, weight_of e.1) ∷ []) ++ kept es ≡ before ++ kept (e ∷ es)
  kept-here before e es is = rw is (append_assoc before ((e.0, weight_of e.1) ∷ []) (kept es))

  pub kept-past : (before : List (P × ℕ)) (e : P × Averages) (es : List (P × Averages)) → keep e.0 ≡ false → before ++ kept es ≡ before ++ kept (e ∷ es)
  kept-past before e es is = rw is refl

module _ {P : Type 0} (R : P → P → Ordering) (known : Known P) where
  pub found-here : (before found : List (P × ℕ)) (n : P) (ns : List P) → found ≡ weighed (askable_at R known n)
      → (before ++ found) ++ weighed (among R known ns) ≡ before ++ weighed (among R known (n ∷ ns))
  found-here before found n ns is =
      append_assoc before found (weighed (among R known ns))
      ∙ ap (λ ps. before ++ (ps ++ weighed (among R known ns))) is
      ∙ ap (λ ps. before ++ ps) (sym (map-append (λ (e : P × Averages). (e.0, weight_of e.1)) (askable_at R known n) (among R known ns)))
