-- Ways in a graph.
use Rattle.std.proofs.Common.{◌≡◌, ℕ, zero, suc, ◌+◌, ◌<◌, ◌≤◌, List, [], ◌∷◌, length, true, false, ◌⊎◌, inl, inr, refl, sym, subst, arith}
use Rattle.std.specs.Prelude.{◌==◌}
use Rattle.std.specs.List.{list_any, IsDistinct, AllByRecursion}
use Rattle.std.proofs.lemmas.Bool.{cases_eq, ne_eqb, eqb-true, or_cases}
use Rattle.std.proofs.lemmas.Map.Steps.{length-le_from_distinct_below}
use Rattle.components.specs.Graph.{Among, row, Leads, at_once, through, Reaches, itself, onward}
use Rattle.components.proofs.Joining.{reaches_edge}
use Rattle.components.proofs.Whole.{row_within}

-- ---- numbers among others

pub among_or : (k : ℕ) (xs : List ℕ) → Among k xs ⊎ (Among k xs → ⊥)
among_or k [] = inr (λ h. h)
among_or k (x ∷ xs) = elim (cases_eq k x) [
  | inl e ↦ inl (inl e)
  | inr other ↦ (elim (among_or k xs) [
    | inl later ↦ inl (inr later)
    | inr none ↦ inr (λ h. elim h [ inl e ↦ other e | inr later ↦ none later ])
  ])
]

Fresh : List ℕ → Type 0
Fresh [] = Unit {0}
Fresh (x ∷ xs) = (Among x xs → ⊥) × Fresh xs

apart_all : (x : ℕ) (xs : List ℕ) → (Among x xs → ⊥) → AllByRecursion (λ y. (x == y) ≡ false) xs
apart_all x [] none = tt
apart_all x (y ∷ xs) none = (ne_eqb x y (λ e. none (inl e)), apart_all x xs (λ h. none (inr h)))

fresh_distinct : (xs : List ℕ) → Fresh xs → IsDistinct (λ x y. x == y) xs
unfolding IsDistinct Fresh
fresh_distinct [] f = tt
fresh_distinct (x ∷ xs) f = (apart_all x xs f.0, fresh_distinct xs f.1)

any_among : (k : ℕ) (xs : List ℕ) → list_any (λ y. k == y) xs ≡ true → Among k xs
any_among k [] h = let bad : false ≡ true = h in absurd cc
any_among k (x ∷ xs) h = elim (or_cases (k == x) (list_any (λ y. k == y) xs) h) [ inl e ↦ inl (eqb-true k x e) | inr later ↦ inr (any_among k xs later) ]

-- different numbers below n are at most n
fresh_few : (xs : List ℕ) (n : ℕ) → Fresh xs → ((k : ℕ) → Among k xs → k < n) → length xs ≤ n
fresh_few xs n f below = length-le_from_distinct_below xs n (fresh_distinct xs f) (λ k h. below k (any_among k xs h))

-- ---- ways

module _ (t : List (List ℕ)) where
  -- an edge, and back
  pub round : (j k : ℕ) → Among k (row t j) → Reaches t k j → Leads t j j
  round j k a back = by j k j a back
    where
      by : (i k j : ℕ) → Among k (row t i) → Reaches t k j → Leads t i j
      by i k j a itself = at_once a
      by i k j a (onward {j = m} b way) = through a (by k m j b way)

  pub leads_within : (j k : ℕ) → Leads t j k → j < length t
  leads_within j k (at_once a) = row_within t j k a
  leads_within j k (through {j = m} a way) = row_within t j m a

  pub reaches_within : (j k : ℕ) → Reaches t j k → k < length t → j < length t
  reaches_within j k itself small = small
  reaches_within j k (onward {j = m} a way) small = row_within t j m a

  -- what holds of a node, where it holds of all that the node leads to if it doesn't lead to itself, holds of all nodes
  module _ (P : ℕ → Type 0) (step : (k : ℕ) → k < length t → ((Leads t k k → ⊥) → (j : ℕ) → Among j (row t k) → j < length t → P j) → P k) where
    from : (fuel : ℕ) (before : List ℕ) (k : ℕ) → length t ≤ fuel + length before → Fresh (k ∷ before) → ((j : ℕ) → Among j (k ∷ before) → (j < length t) × Reaches t j k) → P k
    unfolding Fresh
    from zero before k long fresh known =
        let few : length (k ∷ before) ≤ length t = fresh_few (k ∷ before) (length t) fresh (λ j h. (known j h).0) in
        absurd (omega (arith, few, long))
    from (suc fuel) before k long fresh known = step k ((known k (inl refl)).0) (λ no_loop j a small. elim (among_or j (k ∷ before)) [
      | inl old ↦ absurd (no_loop (round k j a (known j old).1))
      | inr new ↦ from fuel (k ∷ before) j (omega (arith, long)) (new, fresh) (λ i h. elim h [
        | inl e ↦ (subst (λ (x : ℕ). x < length t) (sym e) small, subst (λ (x : ℕ). Reaches t x j) (sym e) itself)
        | inr old ↦ ((known i old).0, reaches_edge t i k j (known i old).1 a)
      ])
    ])

    pub holds_of_all : (k : ℕ) → k < length t → P k
    unfolding Fresh
    holds_of_all k small = from (length t) [] k (omega arith) ((λ h. h), tt) (λ j h. elim h [
      | inl e ↦ (subst (λ (x : ℕ). x < length t) (sym e) small, subst (λ (x : ℕ). Reaches t x k) (sym e) itself)
      | inr none ↦ absurd none
    ])
