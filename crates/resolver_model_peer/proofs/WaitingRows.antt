-- A key that a scan reads has a row, and waits.
use Rattle.std.proofs.Common.{◌≡◌, refl, ap, sym, ◌∙◌, subst, ◌⊎◌, inl, inr, List, [], ◌∷◌, Option, None, Some, filter_map}
use Rattle.std.specs.List.{cons_option}
use Rattle.resolver_fetch_scan.specs.declared.place.Place.{Place}
use Rattle.resolver_fetch_scan.specs.Waiting.{Waiting, in_order, waiting_order}
use Rattle.resolver_fetch_scan.specs.FetcherLaws.{IsAmong}
use Rattle.resolver_model_peer.specs.Parties.{Parties, orders_of}
use Rattle.resolver_model_peer.specs.PeerRows.{Row, Phase, Waits, Asked, Judged, waiting_in, waiting_of}
use Rattle.resolver_model_peer.proofs.InOrder.{among-put}

module _ {K P : Type 0} where
  abbrev targets_in : Option (K × Waiting P) → Option (List P)
  targets_in None = None
  targets_in (Some v) = v.1.targets

module _ {K S P : Type 0} where
  pub row-waits : (w : K × Waiting P) (rows : List (K × Row K S P)) → IsAmong w (filter_map waiting_of rows) → (r : K × Row K S P) × IsAmong r rows × (waiting_of r ≡ Some w)
  row-waits w [] i = absurd i
  row-waits w (r ∷ rows) i = at (waiting_of r) refl i (row-waits w rows) where
    at : (o : Option (K × Waiting P)) → waiting_of r ≡ o → IsAmong w (cons_option o (filter_map waiting_of rows))
        → (IsAmong w (filter_map waiting_of rows) → (r : K × Row K S P) × IsAmong r rows × (waiting_of r ≡ Some w)) → (q : K × Row K S P) × IsAmong q (r ∷ rows) × (waiting_of q ≡ Some w)
    at None is j rest = let found = rest j in (found.0, inr found.1, found.2)
    at (Some v) is (inl e) rest = (r, inl refl, is ∙ ap Some (sym e))
    at (Some v) is (inr j) rest = let found = rest j in (found.0, inr found.1, found.2)

  pub phase-waits : (r : K × Row K S P) (w : K × Waiting P) → waiting_of r ≡ Some w → (r.0 ≡ w.0) × ((place : Place) × (r.1.phase ≡ Waits place))
  phase-waits r w e = at r.1.phase refl e where
    at : (phase : Phase K P) → r.1.phase ≡ phase → waiting_in r.0 r.1 phase ≡ Some w → (r.0 ≡ w.0) × ((place : Place) × (r.1.phase ≡ Waits place))
    at (Waits place) is found = (cc, (place, is))
    at (Asked id request) is found = absurd cc
    at (Judged j) is found = absurd cc

  targets-of : (r : K × Row K S P) (w : K × Waiting P) → waiting_of r ≡ Some w → r.1.targets ≡ w.1.targets
  targets-of r w e = at r.1.phase e where
    at : (phase : Phase K P) → waiting_in r.0 r.1 phase ≡ Some w → r.1.targets ≡ w.1.targets
    at (Waits place) found = ap targets_in found
    at (Asked id request) found = absurd cc
    at (Judged j) found = absurd cc

module _ {K S P : Type 0} (a : Parties K S P) where
  pub in-order-from : (w : K × Waiting P) (ws : List (K × Waiting P)) → IsAmong w (in_order (orders_of a) ws) → IsAmong w ws
  in-order-from w [] i = i
  in-order-from w (v ∷ ws) i = at (among-put (waiting_order (orders_of a)) w v (in_order (orders_of a) ws) i) (in-order-from w ws) where
    at : (w ≡ v) ⊎ IsAmong w (in_order (orders_of a) ws) → (IsAmong w (in_order (orders_of a) ws) → IsAmong w ws) → IsAmong w (v ∷ ws)
    at (inl e) rest = inl e
    at (inr j) rest = inr (rest j)

  -- the row of a key that waits
  pub row-of : (rows : List (K × Row K S P)) (w : K × Waiting P) → IsAmong w (in_order (orders_of a) (filter_map waiting_of rows))
      → (row : Row K S P) × IsAmong (w.0, row) rows × ((place : Place) × (row.phase ≡ Waits place)) × (row.targets ≡ w.1.targets)
  row-of rows w i =
      let found = row-waits w rows (in-order-from w (filter_map waiting_of rows) i) in
      let waits = phase-waits found.0 w found.2 in
      (found.0.1, subst (λ (k : K). IsAmong (k, found.0.1) rows) waits.0 found.1, waits.1, targets-of found.0 w found.2)
