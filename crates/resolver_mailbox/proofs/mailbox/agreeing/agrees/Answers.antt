use Rattle.std.proofs.Common.{Bor, List, [], ◌∷◌, ◌++◌, map, take, refl, sym, ap, subst, ◌∙◌}
use Rattle.std.specs.List.{All}
use Rattle.std.proofs.lemmas.Bool.{false≢true}
use Rattle.std.proofs.lemmas.List.{take_more, take_all}
use Rattle.std.proofs.lemmas.List.Elements.{All-map, All-push}
use Rattle.resolver_desk.specs.Book.{call_of}
use Rattle.resolver_mailbox.specs.Shares.{AgreesWith}
use Rattle.resolver_mailbox.proofs.Agreeing.{refuted, so-at}
use Rattle.resolver_mailbox.proofs.mailbox.agreeing.agrees.Goals as goal

pub loop-share-preserved : goal.loop-share-preserved
loop-share-preserved g c =
    let i = c.loop-share.share-index in
    let shares = c.args.shares.now in
    let calls = map call_of c.args.book.now in
    let P : Bor _ → Type 0 = λ share. AgreesWith calls share.now in
    let more = take_more shares i c.share-item.result c.loop-share-test.true ∙ ap (λ (share : Bor _). take i shares ++ share ∷ []) (sym c.share-item.is) in
    let Q : List (Bor _) → Type 0 = λ some. All P some in
    subst Q (sym more) (All-push P (take i shares) c.share-item.result c.loop-share.invariant (c.agrees_with.ensures.0 c.if-not-agrees_with.false))

pub returns : goal.returns
returns g c =
    let shares = c.args.shares.now in
    let calls = map call_of c.args.book.now in
    let P : Bor _ → Type 0 = λ share. AgreesWith calls share.now in
    let Q : List (Bor _) → Type 0 = λ some. All P some in
    let all : Q shares = subst Q (take_all c.loop-share.share-index shares c.loop-share-test.false) c.loop-share.invariant in (
      λ fine. (c.has_takes.ensures.0 c.if-not-has_takes.false, All-map (AgreesWith calls) (λ (share : Bor _). share.now) shares all),
      λ both. refl,
    )

pub returns-then-not-agrees_with : goal.returns-then-not-agrees_with
returns-then-not-agrees_with g c =
    let calls = map call_of c.args.book.now in (
      λ wrong. absurd (false≢true wrong),
      λ both.
          absurd (refuted c.agrees_with.result c.if-not-agrees_with.true c.agrees_with.ensures.1
          (so-at (λ (share : Bor _). share.now) (AgreesWith calls) c.args.shares.now c.loop-share.share-index c.share-item.result c.loop-share-test.true c.share-item.is both.1)),
    )
