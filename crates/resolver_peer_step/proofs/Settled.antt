-- A key that is given the state that it has: nothing changes.
use Rattle.std.proofs.Common.{◌≡◌, refl, ap, ◌∙◌, Bool, List, Option, None, Some}
use Rattle.std.specs.Prelude.{option_map}
use Rattle.std.specs.Map.{lookup}
use Rattle.std.specs.BTreeMap.{is_at}
use Rattle.std.specs.declared.cmp.Ordering.{Ordering}
use Rattle.std.proofs.lemmas.Map.Steps.{set_value_same}
use Rattle.resolver_delivery.specs.declared.entry.Entry.{Entry}
use Rattle.resolver_delivery.specs.Entries.{Numbered, changed, changed_at, entry_of, state_of, with_state}

some-same : {X : Type 0} (x y : X) → Some x ≡ Some y → x ≡ y
some-same x y same = cc

module _ {K V C State : Type 0} where
  settled-at : (test : K → Bool) (es : List (K × Entry V C State)) (state : State) (there : Option (Entry V C State)) → lookup test es ≡ there → option_map (λ e. e.state) there ≡ Some state
      → changed_at test there (with_state state) es ≡ es
  settled-at test es state None is same = refl
  settled-at test es state (Some v) is same =
      let here : v ≡ with_state state v = ap (λ state. with_state state v) (some-same v.state state same) in
      set_value_same test es (with_state state v) (is ∙ ap Some here)

pub settled-same : {K S V C State : Type 0} (cmp : K → K → Ordering) (d : Numbered K S V C State) (key : K) (state : State) → state_of cmp d key ≡ Some state → changed cmp key (with_state state) d ≡ d
settled-same cmp d key state same = ap (λ keys. record d { keys = keys }) (settled-at (is_at (cmp key)) d.keys state (entry_of cmp d key) refl same)
