-- After an insert a name stands for its new entry, and every other name for what it stood for.
use Rattle.std.proofs.Common.{◌≡◌, ℕ, Bool, true, false, cond, List, [], ◌∷◌, Option, Some, ◌⊎◌, inl, inr, refl, ap, sym, ◌∙◌}
use Rattle.std.specs.Bool.{Decides}
use Rattle.std.specs.Str.{bytes_eq}
use Rattle.std.proofs.lemmas.Bool.{false≢true}
use Rattle.std.proofs.lemmas.Slice.Eq.{bytes_eq-Decides}
use Rattle.names.specs.Blocks.{Names, Blocks, entry_of, with_entry, lookup, or_else}

tells_if : (t : Bool) (a b : List ℕ) → Decides t (a ≡ b) → ((t ≡ true) × (a ≡ b)) ⊎ ((t ≡ false) × (a ≡ b → ⊥))
tells_if true a b h = inl (refl, h.0 refl)
tells_if false a b h = inr (refl, λ e. false≢true (h.1 e))

tells : (a b : List ℕ) → ((bytes_eq a b ≡ true) × (a ≡ b)) ⊎ ((bytes_eq a b ≡ false) × (a ≡ b → ⊥))
tells a b = tells_if (bytes_eq a b) a b (bytes_eq-Decides a b)

twice : (t : Bool) (x y z : Option ℕ) → cond t x z ≡ cond t x (cond t y z)
twice true x y z = refl
twice false x y z = refl

entry_after : (names : Names) (name : List ℕ) (k : ℕ) (other : List ℕ) → entry_of (with_entry names name k) other ≡ cond (bytes_eq other name) (Some k) (entry_of names other)
entry_after [] name k other = refl
entry_after (e ∷ es) name k other = elim (tells name e.0) [
  | inl same ↦ rw (same.0, same.1) (twice (bytes_eq other e.0) (Some k) (Some e.1) (entry_of es other))
  | inr apart ↦ rw (apart.0, entry_after es name k other) (elim (tells other e.0) [
    | inl here ↦ rw here.0 (elim (tells other name) [
      | inl same ↦ absurd (apart.1 (sym same.1 ∙ here.1))
      | inr unlike ↦ rw unlike.0 refl
    ])
    | inr there ↦ rw there.0 refl
  ])
]

outside : (t : Bool) (x : ℕ) (o outer : Option ℕ) → or_else (cond t (Some x) o) outer ≡ cond t (Some x) (or_else o outer)
outside true x o outer = refl
outside false x o outer = refl

pub last_insert : (names : Names) (outer : Blocks) (name : List ℕ) (k : ℕ) (other : List ℕ)
    → lookup (with_entry names name k ∷ outer) other ≡ cond (bytes_eq other name) (Some k) (lookup (names ∷ outer) other)
last_insert names outer name k other = ap (λ (o : Option ℕ). or_else o (lookup outer other)) (entry_after names name k other) ∙ outside (bytes_eq other name) k (entry_of names other) (lookup outer other)
