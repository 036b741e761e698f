-- The nodes of a tree, with the leaves put behind the others one after another.
use Rattle.std.proofs.Common.{◌≡◌, ◌∙◌, ap, sym, ℕ, ◌+◌, ◌<◌, List, [], ◌∷◌, ◌++◌, append_assoc, drop, get_or, length, map, replicate, take}
use Rattle.std.proofs.lemmas.List.{drop_at, length-replicate, map-append, take_more}

-- one leaf more
leaf-more : (inner nodes after so-far next : List ℕ) (leaf : ℕ) → after ≡ nodes ++ leaf ∷ [] → nodes ≡ inner ++ so-far → next ≡ so-far ++ leaf ∷ [] → after ≡ inner ++ next
leaf-more inner nodes after so-far next leaf pushed are more =
    pushed ∙ ap (λ ns. ns ++ leaf ∷ []) are ∙ append_assoc inner so-far (leaf ∷ []) ∙ ap (λ leaves. inner ++ leaves) (sym more)

-- the next weight is a leaf
pub weight-more : (inner nodes after ws : List ℕ) (i leaf : ℕ) → i < length ws → leaf ≡ get_or ws i 0 → after ≡ nodes ++ leaf ∷ [] → nodes ≡ inner ++ take i ws → after ≡ inner ++ take (i + 1) ws
weight-more inner nodes after ws i leaf below is pushed are =
    leaf-more inner nodes after (take i ws) (take (i + 1) ws) leaf pushed are (take_more ws i 0 below ∙ ap (λ n. take i ws ++ n ∷ []) (sym is))

-- what the next weight counts is a leaf
pub mark-more : (f : ℕ → ℕ) (inner nodes after ws : List ℕ) (i leaf : ℕ) → i < length ws → leaf ≡ f (get_or ws i 0) → after ≡ nodes ++ leaf ∷ [] → nodes ≡ inner ++ map f (take i ws)
    → after ≡ inner ++ map f (take (i + 1) ws)
mark-more f inner nodes after ws i leaf below is pushed are =
    leaf-more inner nodes after (map f (take i ws)) (map f (take (i + 1) ws)) leaf pushed are
    (ap (map f) (take_more ws i 0 below) ∙ map-append f (take i ws) (get_or ws i 0 ∷ []) ∙ ap (λ n. map f (take i ws) ++ n ∷ []) (sym is))

-- all leaves are there
pub leaves-all : (leaves : ℕ) (nodes so-far : List ℕ) → nodes ≡ replicate leaves 0 ++ so-far → drop leaves nodes ≡ so-far
leaves-all leaves nodes so-far are = ap (drop leaves) are ∙ drop_at (replicate leaves 0) so-far leaves (length-replicate leaves 0)
