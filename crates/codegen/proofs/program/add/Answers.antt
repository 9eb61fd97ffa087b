use Rattle.std.proofs.Common.{◌≡◌, List, [], ◌∷◌, ◌++◌, ◌-◌, ◌∙◌, ap, map, sym, length, length-append, replicate, arith}
use Rattle.base.specs.declared.ids.TypeId.{TypeId}
use Rattle.typed_syntax.specs.Syntax.{all_width, type_in}
use Rattle.typed.specs.Trees.{trees}
use Rattle.typed.specs.View.{program_of}
use Rattle.frame_layout.specs.declared.layout.FrameLayout.{FrameLayout}
use Rattle.placement.specs.Told.{placement_of}
use Rattle.program_code.specs.Code.{func_code, func_size, slots_of}
use Rattle.program_code.proofs.Sizes.{length_func}
use Rattle.expression_code.specs.Frame.{func_in}
use Rattle.codegen.proofs.Whole.{entry_is, slots_are}
use Rattle.codegen.proofs.program.add.Goals as goal

pub returns-clause-owners : goal.returns-clause-owners
returns-clause-owners c =
    let p = program_of c.args.program.now in let pl = placement_of c.in_ok-frame.frame.homes.placement in let f = func_in c.args.program.now c.args.func.now in
    let old = c.args.parts.now.instrs.items in
    let grown : length c.emit_func.new.code.items ≡ length (old ++ func_code p pl f (length old)) = ap length c.in_ok-emit_func.ensures in
    let same : func_size p pl f ≡ func_size p (placement_of c.args.homes.placement) f = ap (λ homes. func_size p (placement_of homes.placement) f) c.in_ok-frame.ensures.homes in
    let size : c.in_ok-end.end - c.in_ok-start.start ≡ func_size p (placement_of c.args.homes.placement) f =
    omega (arith, grown, length-append old (func_code p pl f (length old)), length_func p pl f (length old), same, c.in_ok-start.ensures, c.in_ok-end.ensures) in
    c.in_ok-own.ensures ∙ ap (λ n. c.args.parts.now.owners.items ++ replicate n c.args.number) size

pub returns-clause-funcs : goal.returns-clause-funcs
returns-clause-funcs c =
    let p = program_of c.args.program.now in let pl = placement_of c.in_ok-frame.frame.homes.placement in let f = func_in c.args.program.now c.args.func.now in
    let old = c.args.parts.now.instrs.items in
    let grown : length c.emit_func.new.code.items ≡ length (old ++ func_code p pl f (length old)) = ap length c.in_ok-emit_func.ensures in
    let same : func_size p pl f ≡ func_size p (placement_of c.args.homes.placement) f = ap (λ homes. func_size p (placement_of homes.placement) f) c.in_ok-frame.ensures.homes in
    let size : c.in_ok-end.end - c.in_ok-start.start ≡ func_size p (placement_of c.args.homes.placement) f =
    omega (arith, grown, length-append old (func_code p pl f (length old)), length_func p pl f (length old), same, c.in_ok-start.ensures, c.in_ok-end.ensures) in
    let types = trees c.args.program.now.types in
    let arguments = c.in_ok-arguments.ensures ∙ ap (λ (ts : List TypeId). all_width (map (λ t. type_in types t.0) ts)) c.deref.ensures.value in
    let results = c.in_ok-results.ensures ∙ ap (λ (ts : List TypeId). all_width (map (λ t. type_in types t.0) ts)) c.deref-2.ensures.value in
    c.in_ok-put_entry.ensures
    ∙ ap (λ e. c.args.parts.now.funcs.items ++ e ∷ []) (entry_is p (placement_of c.args.homes.placement) f _ _ _ _ _ (length old) (ap (λ (l : FrameLayout). l.frame) c.requires.layout) arguments results c.in_ok-start.ensures size)

pub emit_func-requires-clause-slots : goal.emit_func-requires-clause-slots
emit_func-requires-clause-slots c =
    let p = program_of c.args.program.now in let f = func_in c.args.program.now c.args.func.now in
    slots_are c.args.program.now (placement_of c.args.homes.placement) c.args.func.now c.args.layout _ c.requires.layout c.in_ok-frame.ensures.slots
    ∙ ap (λ homes. slots_of p (placement_of homes.placement) f) (sym c.in_ok-frame.ensures.homes)
