-- The elements of composite literals.
use Rattle.std.proofs.Common.{◌≡◌, ℕ, List, ◌∷◌, refl}
use Rattle.syntax.specs.declared.expression.Element.{Element}
use Rattle.syntax.specs.declared.expression.Element.TheVariants as element
use Rattle.syntax.specs.Expressions.{elements_of}
use Rattle.names.specs.Scope.{Scope}
use Rattle.expression_types.specs.Passing.{element_value}
use Rattle.entered_types.specs.Entered.{entered, entered_elements}

pub after_one : (text : List ℕ) (s : Scope) (x : Element) (xs : List Element) → entered_elements text s (elements_of (x ∷ xs)) ≡ entered_elements text (entered text s (element_value x)) (elements_of xs)
after_one text s (element.Plain e) xs = refl
after_one text s (element.Keyed n e) xs = refl
