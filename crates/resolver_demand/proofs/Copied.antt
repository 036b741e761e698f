-- A list that is copied item by item.
use Rattle.std.proofs.Common.{◌≡◌, ◌∙◌, sym, ap, List, [], ◌∷◌, ◌++◌, append_assoc}

-- one more is there again
pub one-more : {A : Type 0} (before after left rest all : List A) (one copy : A) → after ≡ before ++ copy ∷ [] → copy ≡ one → left ≡ one ∷ rest → before ++ left ≡ all → after ++ rest ≡ all
one-more before after left rest all one copy put same steps so-far =
    ap (λ items. items ++ rest) put
    ∙ append_assoc before (copy ∷ []) rest
    ∙ ap (λ item. before ++ item ∷ rest) same
    ∙ ap (λ items. before ++ items) (sym steps)
    ∙ so-far
