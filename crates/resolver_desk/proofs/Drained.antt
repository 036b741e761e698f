-- What is taken from what waits, in order.
use Rattle.std.proofs.Common.{◌≡◌, ◌∙◌, sym, ap, refl, ℕ, List, [], ◌∷◌, ◌++◌, Option, None, Some, map, append_assoc, length, ◌<◌, arith, subst}
use Rattle.std.specs.List.{FoldsTo}
use Rattle.resolver_messages.specs.declared.message.Message.{Message}
use Rattle.resolver_types.specs.Names.{Names}
use Rattle.resolver_messages.specs.declared.message.FetchKey.{FetchKey}
use Rattle.resolver_messages.proofs.PlacesOfKeys.{placed-none}
use Rattle.resolver_messages.specs.Waiting.{Backlog, Drains, Fetches, IsFiled, Item, Retains, Takes, Told, batch_told, item_of, keys_of_items, told_of, waiting}

map-append : {A B : Type 0} (f : A → B) (xs ys : List A) → map f (xs ++ ys) ≡ map f xs ++ map f ys
map-append f [] ys = refl
map-append f (x ∷ xs) ys = ap (λ zs. f x ∷ zs) (map-append f xs ys)

folds-on : {P A : Type 0} (R : P → A → P → Type 0) (p q r : P) (xs ys : List A) → FoldsTo R p xs q → FoldsTo R q ys r → FoldsTo R p (xs ++ ys) r
folds-on R p q r [] ys is after = rw is after
folds-on R p q r (x ∷ xs) ys (j, first, is) after = (j, first, folds-on R j q r xs ys is after)

module _ {K S M Q F : Type 0} (step : F → Message K S M Q → Option (Message K S M Q) → F → Type 0) where
  pub takes-none : (push : F) (was : List (Told K S M Q)) → Takes step push push was was
  takes-none push was = ([], refl, refl)

  -- what is taken first, and then more
  pub takes-more : (push state last : F) (was then left : List (Told K S M Q)) → Takes step push state was then → Takes step state last then left → Takes step push last was left
  takes-more push state last was then left (first, steps, is) (more, goes, after) = (
    first ++ more,
    folds-on _ push state last first more steps goes,
    is ∙ ap (λ rest. map told_of first ++ rest) after ∙ sym (append_assoc (map told_of first) (map told_of more) left) ∙ ap (λ told. told ++ left) (sym (map-append told_of first more)),
  )

  pub takes-one : (push state last : F) (was left : List (Told K S M Q)) (message : Message K S M Q) → Takes step push state was (told_of message ∷ left) → step state message None last
      → Takes step push last was left
  takes-one push state last was left message takes taken =
      takes-more push state last was (told_of message ∷ left) left takes (message ∷ [], (last, taken, refl), refl)

  pub takes-behind : (push last : F) (was left behind : List (Told K S M Q)) → Takes step push last was left → Takes step push last (was ++ behind) (left ++ behind)
  takes-behind push last was left behind (taken, steps, is) =
      (taken, steps, ap (λ told. told ++ behind) is ∙ append_assoc (map told_of taken) left behind)

  -- what is taken first, and then a drain
  pub drains-on : (push state : F) (was then left : List (Told K S M Q)) → Takes step push state was then → Drains step state then left → Drains step push was left
  drains-on push state was then left takes (last, more, refused) = (last, takes-more push state last was then left takes more, refused)

  pub drains-refused : (push state last : F) (was left : List (Told K S M Q)) (message back : Message K S M Q) → Takes step push state was (told_of message ∷ left) → step state message (Some back) last
      → Drains step push was (told_of message ∷ left)
  drains-refused push state last was left message back takes refused = (state, takes, (message, back, last, refl, refused))

  -- all fetches as one batch, which is taken
  pub drains-batch : (push last : F) (was : List (Item K S M)) (fetches : List (FetchKey K S M)) (message : Message K S M Q) → was ≡ map item_of fetches → told_of message ≡ Fetches (map item_of fetches) → 0 < length fetches → step push message None last
      → Drains step push (batch_told was) []
  drains-batch push last was [] message same is some taken = absurd (omega (arith, some))
  drains-batch push last was (fetch ∷ fetches) message same is some taken = (last, (message ∷ [], (last, taken, refl), ap batch_told same ∙ ap (λ told. told ∷ []) (sym is)), tt {0})

  -- which is handed back
  pub drains-batch-refused : (push last : F) (was : List (Item K S M)) (fetches others : List (FetchKey K S M)) (message back : Message K S M Q) → was ≡ map item_of fetches → told_of message ≡ Fetches (map item_of fetches) → map item_of others ≡ map item_of fetches → 0 < length fetches → step push message (Some back) last
      → Drains step push (batch_told was) (batch_told (map item_of others))
  drains-batch-refused push last was [] others message back same is alike some refused = absurd (omega (arith, some))
  drains-batch-refused push last was (fetch ∷ fetches) others message back same is alike some refused =
      rw (alike, same) (push, ([], refl, refl), (message, back, last, is, refused))

  -- all tests are taken, and then the batch or nothing
  pub drains-all : (push state : F) (backlog left : Backlog K S M Q) → Takes step push state (map Retains backlog.retains) [] → left.retains ≡ [] → Drains step state (batch_told backlog.batch) (batch_told left.batch)
      → Drains step push (waiting backlog) (waiting left)
  drains-all push state backlog left taken none drained =
      subst (λ (retains : List Q). Drains step push (waiting backlog) (map Retains retains ++ batch_told left.batch)) (sym none)
      (drains-on push state (waiting backlog) (batch_told backlog.batch) (batch_told left.batch) (takes-behind push state (map Retains backlog.retains) [] (batch_told backlog.batch) taken) drained)

  pub drains-nothing : (push : F) → Drains step push [] []
  drains-nothing push = (push, ([], refl, refl), tt {0})

pub nothing : {A : Type 0} (xs : List A) → length xs ≡ 0 → xs ≡ []
nothing [] is = refl
nothing (x ∷ xs) is = absurd (omega (arith, is))

keys-items : {K S M : Type 0} (fetches : List (FetchKey K S M)) → keys_of_items fetches ≡ map (λ item. item.key) (map item_of fetches)
keys-items [] = refl
keys-items (fetch ∷ fetches) = ap (λ keys. fetch.key ∷ keys) (keys-items fetches)

-- fetches that are the same are filed alike
pub filed-again : {K S M : Type 0} (n : Names K S) (places : List (K × ℕ)) (fetches others : List (FetchKey K S M)) → map item_of fetches ≡ map item_of others → IsFiled n places others → IsFiled n places fetches
filed-again n places fetches others same filed =
    let keys : keys_of_items fetches ≡ keys_of_items others = keys-items fetches ∙ ap (map (λ item. item.key)) same ∙ sym (keys-items others) in
    record {
      placed = rw keys filed.placed;
      apart = rw same filed.apart;
    }

-- and none
pub filed-none : {K S M : Type 0} (n : Names K S) (places : List (K × ℕ)) (fetches : List (FetchKey K S M)) → places ≡ [] → fetches ≡ [] → IsFiled n places fetches
filed-none n places fetches none empty = rw (none, empty) (record { placed = placed-none n.key; apart = tt })
