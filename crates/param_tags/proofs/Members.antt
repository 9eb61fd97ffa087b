-- The functions of a batch, by their numbers.
use Rattle.std.proofs.Common.{◌≡◌, ◌⊎◌, inl, inr, ℕ, Bool, true, false, List, [], ◌∷◌, refl, subst, arith}
use Rattle.std.specs.List.{Contains}
use Rattle.std.specs.Prelude.{◌==◌, ◌||◌}
use Rattle.std.proofs.lemmas.Bool.Decides.{nat_tests}
use Rattle.escape_graph.specs.Edges.{is_own}
use Rattle.param_tags.proofs.Lists.{contains_nil, head_or_tail, head_in, tail_in}

or_first : (a b : Bool) → a ≡ true → (a || b) ≡ true
or_first true b h = refl
or_first false b h = absurd (cc)

or_second : (a b : Bool) → b ≡ true → (a || b) ≡ true
or_second true b h = refl
or_second false b h = h

or_cases : (a b : Bool) → (a || b) ≡ true → (a ≡ true) ⊎ (b ≡ true)
or_cases true b h = inl refl
or_cases false b h = inr h

same_number : (g f : ℕ) → g ≡ f → (g == f) ≡ true
same_number g f h = grind (arith, nat_tests)

number_same : (g f : ℕ) → (g == f) ≡ true → g ≡ f
number_same g f h = grind (arith, nat_tests)

pub own_contains : (own : List ℕ) (f : ℕ) → Contains own f → is_own own f ≡ true
own_contains [] f h = absurd (contains_nil f h)
own_contains (g ∷ own) f h = elim (head_or_tail g own f h) [
  | inl is ↦ or_first (g == f) (is_own own f) (same_number g f is)
  | inr rest ↦ or_second (g == f) (is_own own f) (own_contains own f rest)
]

pub contains_own : (own : List ℕ) (f : ℕ) → is_own own f ≡ true → Contains own f
contains_own [] f h = absurd (let never : false ≡ true = h in cc)
contains_own (g ∷ own) f h = elim (or_cases (g == f) (is_own own f) h) [
  | inl is ↦ subst (λ n. Contains (g ∷ own) n) (number_same g f is) (head_in g own)
  | inr rest ↦ tail_in g own f (contains_own own f rest)
]
