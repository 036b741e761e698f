use Rattle.std.proofs.Common.{◌≡◌, ◌∙◌, refl, sym, ap, cond, Bool, true, false, List, [], ◌∷◌, ◌++◌, Option, Some, Vec, Global, rules}
use Rattle.std.proofs.lemmas.Cmp.{eq_by_cmp_equiv}
use Rattle.std.specs.Cmp.{IsTotalOrder, Equal-is}
use Rattle.std.specs.BTreeMap.{get_by, is_at}
use Rattle.std.specs.Map.{lookup}
use Rattle.std.specs.Option.{IsSome, option_map_or}
use Rattle.std.specs.Ordering.{is_eq}
use Rattle.std.specs.declared.cmp.Ordering.{Ordering}
use Rattle.resolver_fetch_scan.specs.Tried.{noted}
use Rattle.resolver_fetch_scan.proofs.trail.note.Goals as goal

-- the peers of a key get one more
noted-more : {K P : Type 0} {cmp : K → K → Ordering} (total : IsTotalOrder cmp) (key other : K) (peer : P) (es next : List (K × Vec P Global)) (found : Option (Vec P Global)) (after : Vec P Global)
    → lookup (is_at (cmp key)) es ≡ found → after.items ≡ option_map_or (λ ps. ps.items) found [] ++ peer ∷ []
    → lookup (is_at (cmp other)) next ≡ cond (is_at (cmp key) other) (Some after) (lookup (is_at (cmp other)) es)
    → option_map_or (λ ps. ps.items) (lookup (is_at (cmp other)) next) [] ≡ noted (is_eq (cmp other key)) peer (option_map_or (λ ps. ps.items) (lookup (is_at (cmp other)) es) [])
noted-more {K} {P} {cmp} total key other peer es next found after is put update =
    ap (λ there. option_map_or (λ ps. ps.items) there []) update ∙ by_tie (is_eq (cmp key other)) refl ∙ ap (λ tie. noted tie peer before) (sym ((eq_by_cmp_equiv total).symm other key)) where
      before : List P
      before = option_map_or (λ ps. ps.items) (lookup (is_at (cmp other)) es) []

      by_tie : (tie : Bool) → is_eq (cmp key other) ≡ tie → option_map_or (λ ps. ps.items) (cond tie (Some after) (lookup (is_at (cmp other)) es)) [] ≡ noted (is_eq (cmp key other)) peer before
      by_tie true tie =
          let same : lookup (is_at (cmp key)) es ≡ lookup (is_at (cmp other)) es
          = ap (λ (c : K → Ordering). lookup (is_at c) es) (λ i z. total.congr key other z ((Equal-is (cmp key other)).0 tie) i) in
          put ∙ ap (λ there. option_map_or (λ ps. ps.items) there [] ++ peer ∷ []) (sym is ∙ same) ∙ ap (λ tie. noted tie peer before) (sym tie)
      by_tie false tie = ap (λ tie. noted tie peer before) (sym tie)

pub returns : goal.returns
returns g c = record {
  ok = λ other. noted-more g.met.K.Ord.total c.args.key other c.args.peer c.args.peers.now.entries c.insert.new.self.entries _ c.push-2.new.self
      (sym c.in_default.ensures.value) (c.in_ok-push-2.ensures.items ∙ ap (λ ps. ps ++ c.args.peer ∷ []) c.new-first.ensures.items)
      (rw c.get_mut.follows.holds-at-none at c.in_ok-insert.ensures.updates.0 other);
  err = tt;
}

pub returns-in-Some : goal.returns-in-Some
returns-in-Some g c =
    let some : IsSome (get_by (g.K.Ord.cmp c.args.key) c.args.peers.now) = search rules in
    record {
      ok = λ other. noted-more g.met.K.Ord.total c.args.key other c.args.peer c.args.peers.now.entries (c.get_mut.follows.lender c.push.new.self).entries _ c.push.new.self
          (sym c.in-Some.ensures.value) c.in_ok-push.ensures.items (((c.get_mut.follows.holds c.push.new.self).3 some).0 other);
      err = tt;
    }
