-- Expressions side by side, one after the other.
use Rattle.std.proofs.Common.{◌≡◌, map, List, [], ◌∷◌, ◌++◌, refl, sym, ap, ◌∙◌, Option, append_assoc}
use Rattle.base.specs.declared.pos.Pos.{Pos}
use Rattle.std.proofs.lemmas.List.{map-append}
use Rattle.typed.specs.declared.expr.Expr.{Expr}
use Rattle.typed.specs.View.{ex_of, exs_of}
use Rattle.typed_syntax.specs.Syntax.{more}
use Rattle.given_values.specs.declared.gives.Item.{Item}
use Rattle.given_values.specs.Given.{Seen, Gives, each}
use Rattle.given_values.specs.Passing.{seen_of, seens}

pub each_of : (es : List Expr) → each (map ex_of es) ≡ exs_of es
each_of [] = refl
each_of (e ∷ es) = ap (more (ex_of e)) (each_of es)

-- one more item, which an expression gives, in front of those to come
pub pushed : (items : List Item) (item : Item) (g : Option Gives) (at : Pos) (all others : List Seen) → seen_of item ≡ record { at = at; gives = g } → all ≡ seens items ++ (record { at = at; gives = g } ∷ others)
    → all ≡ seens (items ++ item ∷ []) ++ others
pushed items item g at all others same is =
    is ∙ ap (λ (o : Seen). seens items ++ (o ∷ others)) (sym same) ∙ sym (append_assoc (seens items) (seen_of item ∷ []) others) ∙ ap (λ l. l ++ others) (sym (map-append seen_of items (item ∷ [])))
