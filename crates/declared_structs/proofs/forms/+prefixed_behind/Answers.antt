use Rattle.std.proofs.Common.{ℕ, [], ◌∷◌, ◌++◌, List, Option, ap, sym, ◌∙◌}
use Rattle.std.specs.Option.{option_map, option_and_then}
use Rattle.syntax.specs.declared.expression.Expr.{Expr}
use Rattle.syntax.specs.Expressions.{ex_of}
use Rattle.type_faults.proofs.Leasts.{if_ok}
use Rattle.names.specs.Scope.{scope_of}
use Rattle.struct_sizes.specs.declared.forms.Prefix.{Prefix}
use Rattle.struct_sizes.specs.declared.forms.Prefix.TheVariants.{Array}
use Rattle.operand_parts.specs.ArrayTypes.{length_of}
use Rattle.expression_types.specs.Typing.{early_gives}
use Rattle.declared_structs.specs.Forms.{array_of, prefixed}
use Rattle.declared_structs.specs.Passing.{behind}
use Rattle.declared_structs.proofs.Lists.{behind_array}
use Rattle.declared_structs.proofs.forms.+prefixed_behind.Goals as goal

pub returns-in_ok-push-in-ArrayType : goal.returns-in_ok-push-in-ArrayType
returns-in_ok-push-in-ArrayType c = λ d.
    let text = d.args.text.now in
    let s = scope_of d.args.scope.now in
    let ps = d.args.prefixes.items in
    let n = d.in-Some.length in
    let x : Expr = d.in-ArrayType.element.value in
    let inner = prefixed text s (ex_of x) in
    if_ok _ _ d.prefixed_behind-in-ArrayType.result
    (λ r e.
    e ∙ ap (λ (l : List Prefix). option_map (behind l) (prefixed text s (ex_of d.deref-element.result.now))) d.in_ok-push-in-ArrayType.ensures.items
    ∙ ap (λ (y : Expr). option_map (behind (ps ++ Array n ∷ [])) (prefixed text s (ex_of y))) d.deref-element.ensures ∙ behind_array ps n inner
    ∙ ap (λ (o : Option ℕ). option_map (behind ps) (option_and_then (λ (m : ℕ). option_map (array_of m) inner) o))
    (sym d.in-Some.is ∙ d.in_ok-length-in-ArrayType.ensures ∙ ap (λ (y : Expr). option_and_then length_of (early_gives text s (ex_of y))) d.deref.ensures)
    ∙ sym (ap (λ (y : Expr). option_map (behind ps) (prefixed text s (ex_of y))) d.in-ArrayType.is))
    d.prefixed_behind-in-ArrayType.ensures
