-- Each step leaves less to do.
use Rattle.std.proofs.Common.{◌≡◌, ℕ, zero, suc, ◌+◌, ◌<◌, ◌≤◌, List, [], ◌∷◌, ◌++◌, length, drop, Some, None, sym, ap, ◌∙◌, subst, arith, length-append}
use Rattle.std.specs.Prelude.{slice_set}
use Rattle.std.proofs.lemmas.Option.{same_Some}
use Rattle.std.proofs.lemmas.List.{length-map}
use Rattle.components.specs.declared.path.Place.{Place}
use Rattle.components.specs.declared.path.Place.TheVariants.{New, OnPath, Placed}
use Rattle.components.specs.Graph.{row}
use Rattle.components.specs.Search.{Search, At, edge, leaving, entered, set_all, closed, weight_at, weight, measure}
use Rattle.components.proofs.Lists.{push_length}

weight_new : (places : List Place) (t : List (List ℕ)) (k p : ℕ) → length places ≡ length t → At places k New → weight (slice_set places k (OnPath p)) t + suc (length (row t k)) ≡ weight places t
weight_new [] t k p many at = let bad : None ≡ Some New = at in absurd cc
weight_new (x ∷ places) [] k p many at = absurd (omega (arith, many))
weight_new (x ∷ places) (ks ∷ t) zero p many at = subst (λ (y : Place). 0 + weight places t + suc (length ks) ≡ weight_at y ks + weight places t) (sym (same_Some x New at)) (omega arith)
weight_new (x ∷ places) (ks ∷ t) (suc k) p many at = let e = weight_new places t k p (omega (arith, many)) at in omega (arith, e)

weight_least : (x : Place) (ks : List ℕ) → 0 ≤ weight_at x ks
weight_least x ks = omega arith

weight_one : (places : List Place) (t : List (List ℕ)) (k : ℕ) → weight (slice_set places k Placed) t ≤ weight places t
weight_one [] t k = omega arith
weight_one (x ∷ places) [] zero = omega arith
weight_one (x ∷ places) [] (suc k) = omega arith
weight_one (x ∷ places) (ks ∷ t) zero = omega arith
weight_one (x ∷ places) (ks ∷ t) (suc k) = let e = weight_one places t k in omega (arith, e)

weight_all : (places : List Place) (t : List (List ℕ)) (ks : List ℕ) → weight (set_all Placed places ks) t ≤ weight places t
weight_all places t [] = omega arith
weight_all places t (k ∷ ks) = let one = weight_one places t k in let rest = weight_all (slice_set places k Placed) t ks in omega (arith, one, rest)

module _ (t : List (List ℕ)) (s : Search) where
  pub entered_measure : (k : ℕ) → length s.places ≡ length t → At s.places k New → measure t (entered t s k) ≡ measure t s
  entered_measure k many at =
      let w = weight_new s.places t k (length s.path) many at in
      let starts = push_length s.starts (length s.path) in
      let ahead = length-append s.ahead (leaving (length s.path) (row t k)) in
      let edges = length-map (row t k) (edge (length s.path)) in
      omega (arith, w, starts, ahead, edges)

  pub closed_measure : (rest : List ℕ) (first : ℕ) → s.starts ≡ rest ++ first ∷ [] → measure t (closed s rest first) < measure t s
  closed_measure rest first is =
      let w = weight_all s.places t (drop first s.path) in
      let starts : length s.starts ≡ suc (length rest) = ap length is ∙ push_length rest first in
      omega (arith, w, starts)
