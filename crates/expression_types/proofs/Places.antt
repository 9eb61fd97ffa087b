-- The names of a declaration as places for values.
use Rattle.std.proofs.Common.{◌≡◌, ℕ, true, List, [], ◌∷◌, Option, Some, None, refl, map}
use Rattle.std.specs.Prelude.{is_some}
use Rattle.syntax.specs.declared.expression.Name.{Name}
use Rattle.syntax.specs.Expressions.{Ex as TreeEx}
use Rattle.base.specs.declared.value_type.ValueType.{ValueType}
use Rattle.names.specs.Scope.{Scope}
use Rattle.given_values.specs.Given.{wanted_by}
use Rattle.expression_types.specs.Typing.{stated_type, declared_wanted}
use Rattle.given_values.proofs.Places.{Asks, AllAsk}

-- the names of a declaration, where the type that stands there is known
pub spec_asks : (text : List ℕ) (s : Scope) (o : Option TreeEx) (ns : List Name) → ((e : TreeEx) → o ≡ Some e → is_some (stated_type text s e) ≡ true) → AllAsk (map (λ (n : Name). declared_wanted text s o) ns)
spec_asks text s o [] known = tt
spec_asks text s o (n ∷ ns) known = (by o known, spec_asks text s o ns known)
  where
    of_type : (u : Option ValueType) → is_some u ≡ true → Asks (wanted_by u)
    of_type None is = cc is
    of_type (Some u) is = tt

    by : (p : Option TreeEx) → ((e : TreeEx) → p ≡ Some e → is_some (stated_type text s e) ≡ true) → Asks (declared_wanted text s p)
    by None known1 = tt
    by (Some e) known1 = of_type (stated_type text s e) (known1 e refl)
