use Rattle.std.proofs.Common.{◌≡◌, ℕ, Bool, true, false, cond, [], ◌∷◌, ◌++◌, length, map, Option, sym, ap, ◌∙◌, append-nil}
use Rattle.std.proofs.lemmas.List.{map-append}
use Rattle.syntax.specs.Expressions.{spelled}
use Rattle.typed_syntax.specs.Value.{Value}
use Rattle.names.specs.Universe.{is_blank}
use Rattle.names.specs.Scope.{scope_of, known}
use Rattle.package_values.specs.Passing.{item_of}
use Rattle.types_go.specs.Functions.{type_or_int, begins, initial}
use Rattle.types_go.specs.Passing.{global_view}
use Rattle.types_go.proofs.functions.check_variable.Goals as goal

pub returns-then-is_blank-clause-globals : goal.returns-then-is_blank-clause-globals
returns-then-is_blank-clause-globals c =
    let text = c.args.text.now in
    let s = scope_of c.args.scope.now in
    let i = item_of c.args.item.now in
    let gs = c.args.globals.now.items in
    let entry : ℕ × Option Value = (length s.sites, begins (type_or_int (known s c.args.number.0)) (initial text s i.value)) in
    let blank : is_blank (spelled text i.name) ≡ true = sym (c.is_blank.ensures ∙ ap is_blank c.spelled.ensures) ∙ c.if-is_blank.true in
    sym (append-nil (map global_view gs)) ∙ ap (λ (b : Bool). map global_view gs ++ cond b [] (entry ∷ [])) (sym blank)

pub returns-clause-globals : goal.returns-clause-globals
returns-clause-globals c =
    let text = c.args.text.now in
    let s = scope_of c.args.scope.now in
    let i = item_of c.args.item.now in
    let gs = c.args.globals.now.items in
    let entry : ℕ × Option Value = (length s.sites, begins (type_or_int (known s c.args.number.0)) (initial text s i.value)) in
    let named : is_blank (spelled text i.name) ≡ false = sym (c.is_blank.ensures ∙ ap is_blank c.spelled.ensures) ∙ c.if-is_blank.false in
    rw (c.in_ok-push.ensures.items)
    (map-append global_view gs (c.in_ok-global.global ∷ []) ∙ ap (λ (e : ℕ × Option Value). map global_view gs ++ e ∷ []) c.in_ok-global.ensures.global
    ∙ ap (λ (b : Bool). map global_view gs ++ cond b [] (entry ∷ [])) (sym named))
