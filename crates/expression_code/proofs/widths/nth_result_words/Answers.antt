use Rattle.std.proofs.Common.{◌≡◌, ◌<◌, ◌≤◌, ◌∙◌, Option, Some, None, slice_get, ap, sym, length, map}
use Rattle.std.specs.Option.{option_map}
use Rattle.std.specs.Prelude.{slice_index}
use Rattle.std.proofs.lemmas.Bool.{ltb-true, ltb-false}
use Rattle.std.proofs.lemmas.Option.{slice_get-get_or, slice_get-map, slice_get_past}
use Rattle.base.specs.declared.ids.TypeId.{TypeId}
use Rattle.typed.specs.Trees.{trees}
use Rattle.typed_syntax.specs.Syntax.{Func, each_width, result_widths, type_in}
use Rattle.typed.specs.View.{func_of}
use Rattle.expression_code.proofs.widths.nth_result_words.Goals as goal

pub returns-in-Some : goal.returns-in-Some
returns-in-Some c =
    let types = trees c.args.program.now.types in let f = c.args.f.0 in let fs = c.deref.result.now in let func = c.in-Some.func.now in
    let found = c.in-Some.ensures.lookup in
    let there : f < length fs = ltb-true _ _ (sym found.0) in
    let one : slice_get fs f ≡ Some func = slice_get-get_or fs f func there ∙ ap Some (sym found.1) in
    let all : slice_get (map (func_of types) c.args.program.now.funcs.items) f ≡ Some (func_of types func) =
    ap (λ ys. slice_get (map (func_of types) ys) f) (sym c.deref.ensures.value) ∙ slice_get-map (func_of types) fs f ∙ ap (option_map (func_of types)) one in
    c.nth_words.ensures ∙ ap (λ ts. slice_index (each_width (map (λ (t : TypeId). type_in types t.0) ts)) c.args.i) c.deref-in-Some.ensures.value
    ∙ ap (λ (o : Option Func). slice_index (result_widths o) c.args.i) (sym all)

pub returns-in-None : goal.returns-in-None
returns-in-None c =
    let types = trees c.args.program.now.types in let f = c.args.f.0 in let fs = c.deref.result.now in
    let past : length fs ≤ f = ltb-false _ _ (sym c.in-None.ensures.lookup.0) in
    let none : slice_get (map (func_of types) c.args.program.now.funcs.items) f ≡ None =
    ap (λ ys. slice_get (map (func_of types) ys) f) (sym c.deref.ensures.value) ∙ slice_get-map (func_of types) fs f ∙ ap (option_map (func_of types)) (slice_get_past fs f past) in
    ap (λ (o : Option Func). slice_index (result_widths o) c.args.i) (sym none)
