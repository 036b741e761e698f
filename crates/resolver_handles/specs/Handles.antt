-- What a handle of a resolver puts, and what becomes of its share.
use Rattle.std.specs.Prelude.{◌≡◌, ◌≢◌, Bool, true, false, [], ◌∷◌, Option, None, Result, Ok, IfOk, IfErr, IfSome, OnErr}
use Rattle.std.specs.Option.{option_map, option_map_or}
use Rattle.resolver_base.specs.declared.fault.Fault.{Fault}
use Rattle.resolver_base.specs.declared.fault.Fault.TheVariants.{Exhausted, OutOfMemory}
use Rattle.resolver_base.specs.declared.feedback.Feedback.{Feedback}
use Rattle.resolver_base.specs.declared.feedback.Feedback.TheVariants.{Closed}
use Rattle.resolver_types.specs.declared.fetch.Fetch.{Fetch}
use Rattle.resolver_messages.specs.Waiting.{Item, Told}
use Rattle.resolver_mailbox.specs.Shares.{IsAdded, Share, marked}

-- a fetch as it stands in a message, for its one subscriber, with what is said of it besides
abbrev pub asked : {K S M : Type 0} → Fetch K S → M → Item K S M
asked fetch metadata = record { key = fetch.key; subscribers = (fetch.subscriber, fetch.mark) ∷ []; metadata = metadata }

module _ {K S M Q : Type 0} where
  -- whether the handle was answered Closed
  abbrev pub is_marked : Option (Share K S M Q) → Bool
  is_marked share = option_map_or (λ s. s.is_closed) share false

  -- What a call that puts this one message answers, and what becomes of its handle's share.
  pub record PutsOne (is_recorded : Bool) (told : Told K S M Q) (was : Option (Share K S M Q)) (answer : Result Feedback Fault) (now : Option (Share K S M Q)) : Type 0 where
    -- a message that was put goes last in the share
    pub added : is_recorded ≡ true → IfOk answer (λ feedback. feedback ≢ Closed → IsAdded told was now)
    pub unrecorded : is_recorded ≡ false → IfOk answer (λ feedback. feedback ≢ Closed → now ≡ was)
    pub closed : IfOk answer (λ feedback. feedback ≡ Closed → now ≡ option_map marked was)
    -- on a marked share there is no other answer than Closed
    pub stays : IfSome was (λ share. share.is_closed ≡ true → answer ≡ Ok Closed)
    pub refused : OnErr answer (now ≡ was)
    pub only : IfErr answer (λ fault. fault ≢ OutOfMemory → fault ≡ Exhausted)
    pub exhausted : IfErr answer (λ fault. fault ≡ Exhausted → (is_recorded ≡ true) × (was ≡ None))
