-- Expressions and names that are gone through one by one.
use Rattle.std.proofs.Common.{◌≡◌, ℕ, Bool, true, false, ◌<◌, get_or, drop, length, List, [], ◌∷◌, Option, Some, None, sym, ap, refl, arith}
use Rattle.std.specs.Prelude.{◌==◌, slice_get}
use Rattle.std.specs.Option.{option_map}
use Rattle.std.proofs.lemmas.Bool.{eqb-true}
use Rattle.syntax.specs.declared.expression.Expr.{Expr}
use Rattle.syntax.specs.declared.expression.Name.{Name}
use Rattle.syntax.specs.Expressions.{Ex as TreeEx, Exs as TreeExs, some, ex_of, exs_of}
use Rattle.base.specs.declared.value_type.ValueType.{ValueType}
use Rattle.names.specs.Scope.{Scope}
use Rattle.simple_statements.specs.SimpleStatements.{only, is_bare, spec_slots_of}

-- the first one of some expressions
pub first_of : (es : List Expr) (e : Expr) → 0 < length es → e ≡ get_or es 0 e → exs_of es ≡ some (ex_of e) (exs_of (drop 1 es))
first_of [] e some1 is = absurd (omega (arith, some1))
first_of (x ∷ es) e some1 is = ap (λ y. some (ex_of y) (exs_of es)) (sym is)

pub bare_is : (e : TreeEx) (xs : List Expr) → is_bare (Some e) (exs_of xs) ≡ (length xs == 0)
bare_is e [] = refl
bare_is e (x ∷ xs) = by (length (x ∷ xs) == 0) refl
  where
    by : (b : Bool) → (length (x ∷ xs) == 0) ≡ b → false ≡ b
    by false is = refl
    by true is = let none : length (x ∷ xs) ≡ 0 = eqb-true (length (x ∷ xs)) 0 is in absurd (omega (arith, none))

-- with a type that stands there, the types of values don't matter
pub bare_slots : (text : List ℕ) (s : Scope) (o : Option TreeEx) (es : TreeExs) (ts us : Option (List ValueType)) (ns : List Name) → is_bare o es ≡ true → spec_slots_of text s o ts ns ≡ spec_slots_of text s o us ns
bare_slots text s None es ts us ns is = cc is
bare_slots text s (Some e) es ts us ns is = refl

pub only_other : (xs : List Expr) → (length xs == 1) ≡ false → only (exs_of xs) ≡ None
only_other [] is = refl
only_other (x ∷ y ∷ xs) is = refl
only_other (x ∷ []) is = cc is

pub only_first : (xs : List Expr) → (length xs == 1) ≡ true → only (exs_of xs) ≡ option_map ex_of (slice_get xs 0)
only_first [] is = cc is
only_first (x ∷ []) is = refl
only_first (x ∷ y ∷ xs) is = let none : length (x ∷ y ∷ xs) ≡ 1 = eqb-true (length (x ∷ y ∷ xs)) 1 is in absurd (omega (arith, none))
