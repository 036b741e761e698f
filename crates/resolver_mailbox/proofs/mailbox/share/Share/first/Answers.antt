use Rattle.std.proofs.Common.{◌≡◌, ◌∙◌, ◌<◌, ◌≤◌, ◌+◌, ◌-◌, ◌^◌, ℕ, Bool, true, false, cond, Option, None, Some, is_some, length, map, rules, refl, sym, ap, arith}
use Rattle.std.specs.Vec.{vec_len}
use Rattle.std.proofs.lemmas.List.{length-map}
use Rattle.resolver_messages.specs.Waiting.{told_of}
use Rattle.std.specs.Option.{ForSome, option_map, option_map_or}
use Rattle.resolver_desk.specs.Desk.{Book, Desk, answered, number_of}
use Rattle.resolver_mailbox.specs.Shares.{numbered}
use Rattle.resolver_mailbox.proofs.mailbox.share.Share.first.Goals as goal

module _ {K S M Q : Type 0} where
  -- a handle that has put nothing gets the next number
  first-number : (desk : Desk K S M Q) (handle : Option ℕ) → desk.is_closed ≡ false → is_some desk.book ≡ true → handle ≡ answered None desk → handle ≡ Some (numbered desk)
  first-number desk handle unclosed some is = is ∙ ap (λ (t : Bool). cond t None (option_map (number_of None) desk.book)) unclosed ∙ noted desk.book some where
    noted : (book : Option (Book K S M Q)) → is_some book ≡ true → option_map (number_of None) book ≡ Some (option_map_or (λ b. b.next_handle) book 0)
    noted None some = absurd cc
    noted (Some book) some = refl

  -- while there is a number, there is a part
  part-left : (desk : Desk K S M Q) (parts : ℕ) → is_some desk.book ≡ true → ForSome desk.book (λ book. book.next_handle + 1 < 2 ^ 64) → parts + numbered desk ≡ 2 ^ 64 - 1 → 1 ≤ parts
  part-left desk parts some below all = noted desk.book some below all where
    noted : (book : Option (Book K S M Q)) → is_some book ≡ true → ForSome book (λ b. b.next_handle + 1 < 2 ^ 64) → parts + option_map_or (λ b. b.next_handle) book 0 ≡ 2 ^ 64 - 1 → 1 ≤ parts
    noted None some below all = absurd cc
    noted (Some book) some below all = let less = below book refl in omega (arith, less, all)

pub split_off-part-requires-clause-has_parts : goal.split_off-part-requires-clause-has_parts
split_off-part-requires-clause-has_parts g c =
    part-left c.args.desk.now c.args.spare.now.parts c.requires.recorded (c.in_ok-feedback.ensures.numbers c.requires.unclosed refl) c.requires.parts

pub returns-clause-share : goal.returns-clause-share
returns-clause-share g c =
    let number = first-number c.args.desk.now c.in_ok-feedback.field-0.1 c.requires.unclosed c.requires.recorded (ap (λ answer. answer.1) c.in_ok-feedback.ensures.answer) in
    let is = c.in_default-Some.is-1 in
    let handle : c.in_default-Some.handle ≡ numbered c.args.desk.now = cc in
    λ i. record { handle = handle i; puts = c.in_ok-puts.ensures.list i; is_closed = false }

pub returns-clause-desk : goal.returns-clause-desk
returns-clause-desk g c = c.in_ok-feedback.ensures.ok

pub put-requires : goal.put-requires
put-requires g c = record { keys_clone = g.met.K.Faithful.clones; subscribers_clone = g.met.S.Faithful.clones; tests_clone = g.met.Q.Faithful.clones }

pub invariant_of-share : goal.invariant_of-share
invariant_of-share g c =
    let one : length (map told_of c.in_ok-puts.puts.items) ≡ 1 = ap length c.in_ok-puts.ensures.list in
    let kept : length c.in_ok-puts.puts.items ≡ vec_len c.in_ok-puts.puts = search rules in
    let parts : c.add.new.share.parts ≡ 1 = c.add.ensures.parts ∙ c.split_off-part.ensures.parts in
    let amount : c.add.new.share.amount ≡ 1 = c.add.ensures.amount ∙ ap (λ (n : ℕ). n + 1) c.split_off-part.ensures.amount in
    (omega (arith, parts), amount ∙ sym one ∙ length-map c.in_ok-puts.puts.items told_of ∙ kept)

pub returns-clause-feedback : goal.returns-clause-feedback
returns-clause-feedback g c = ap (λ answer. answer.0) c.in_ok-feedback.ensures.answer

pub returns-clause-total : goal.returns-clause-total
returns-clause-total g c = c.add.ensures.total

pub returns-clause-spare : goal.returns-clause-spare
returns-clause-spare g c = c.split_off-part.ensures.parts_left
