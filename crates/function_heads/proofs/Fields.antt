-- Parameters and results, one by one and by the fields that they share.
use Rattle.std.proofs.Common.{◌≡◌, ℕ, true, false, List, [], ◌∷◌, ◌++◌, ◌⊎◌, inl, inr, map, length, Option, Some, None, arith}
use Rattle.std.specs.Prelude.{◌==◌}
use Rattle.std.proofs.lemmas.Bool.{eqb-true}
use Rattle.syntax.specs.declared.expression.Name.{Name}
use Rattle.syntax.specs.Expressions.{Ex as TreeEx}
use Rattle.type_faults.specs.declared.fault.Fault.{Fault}
use Rattle.type_faults.specs.Least.{IsLeast}
use Rattle.type_faults.proofs.Leasts.{Kept}
use Rattle.names.specs.Scope.{Scope}
use Rattle.expression_types.specs.Faults.{StatedFails}
use Rattle.signatures.specs.Signatures.{Param, param_with}
use Rattle.function_heads.specs.HeadFaults.{TypesFail}

-- the same faults
pub least_same : (P Q : Fault → Type 0) (b : Option Fault) → ((f : Fault) → P f → Q f) → ((f : Fault) → Q f → P f) → IsLeast P b → IsLeast Q b
least_same P Q None into back least = λ f h. least f (back f h)
least_same P Q (Some f) into back least = (into f least.0, λ g h. least.1 g (back g h))

pub kept_same : (Whole P Q : Fault → Type 0) (least : Option Fault) → ((f : Fault) → P f → Q f) → ((f : Fault) → Q f → P f) → Kept Whole P least → Kept Whole Q least
kept_same Whole P Q least into back k = record {
  sound = k.sound;
  covered = λ g h. elim (k.covered g h) [ inl c ↦ inl c | inr a ↦ inr (into g a) ];
  within = λ g h. k.within g (back g h);
}

module _ (text : List ℕ) (s : Scope) where
  pub types_apart : (ps qs : List Param) (f : Fault) → TypesFail text s (ps ++ qs) f → TypesFail text s ps f ⊎ TypesFail text s qs f
  types_apart [] qs f h = inr h
  types_apart (p ∷ ps) qs f (inl h) = inl (inl h)
  types_apart (p ∷ ps) qs f (inr h) = elim (types_apart ps qs f h) [ inl k ↦ inl (inr k) | inr k ↦ inr k ]

  pub types_together : (ps qs : List Param) (f : Fault) → TypesFail text s ps f ⊎ TypesFail text s qs f → TypesFail text s (ps ++ qs) f
  types_together [] qs f (inl h) = absurd h
  types_together [] qs f (inr h) = h
  types_together (p ∷ ps) qs f (inl (inl h)) = inl h
  types_together (p ∷ ps) qs f (inl (inr h)) = inr (types_together ps qs f (inl h))
  types_together (p ∷ ps) qs f (inr h) = inr (types_together ps qs f (inr h))

  shared_type : (t : TreeEx) (ns : List Name) (f : Fault) → TypesFail text s (map (param_with t) ns) f → StatedFails text s t f
  shared_type t [] f h = absurd h
  shared_type t (n ∷ ns) f (inl h) = h
  shared_type t (n ∷ ns) f (inr h) = shared_type t ns f h

  -- the type that some names share
  pub shared_least : (t : TreeEx) (ns : List Name) (b : Option Fault) → (length ns == 0) ≡ false → IsLeast (StatedFails text s t) b → IsLeast (TypesFail text s (map (param_with t) ns)) b
  shared_least t [] b some least = absurd cc
  shared_least t (n ∷ ns) b some least = least_same (StatedFails text s t) (TypesFail text s (map (param_with t) (n ∷ ns))) b (λ f h. inl h) (λ f h. shared_type t (n ∷ ns) f h) least

  pub no_names_least : (t : TreeEx) (ns : List Name) → (length ns == 0) ≡ true → IsLeast (TypesFail text s (map (param_with t) ns)) None
  no_names_least t [] none = λ f h. h
  no_names_least t (n ∷ ns) none = let z = eqb-true (length (n ∷ ns)) 0 none in absurd (omega (arith, z))
