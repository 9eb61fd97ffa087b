use Rattle.std.proofs.Common.{rules, ◌≡◌, ◌+◌, ◌++◌, ◌∷◌, [], ◌<◌, ◌∙◌, refl, sym, ap, subst, length, map, replicate, arith}
use Rattle.isa.specs.Code.{Tables, IsCode}
use Rattle.frames.specs.Placement.{Placement}
use Rattle.placement.specs.Told.{placement_of}
use Rattle.frame_layout.specs.Layout.{layout_in}
use Rattle.typed.specs.Trees.{trees}
use Rattle.typed.specs.View.{func_of, program_of}
use Rattle.expression_code.specs.Frame.{func_in}
use Rattle.program_code.specs.Code.{entry_of, func_code, func_size}
use Rattle.codegen.specs.Temps.{FuncFitsIn}
use Rattle.codegen.proofs.Whole.{fits, layout_at, longer, code_next, owners_next, entries_next, finished, main_there}
use Rattle.codegen.proofs.IsCode.{is_code}
use Rattle.codegen.proofs.program.emit.Goals as goal

pub add-requires-clause-fits : goal.add-requires-clause-fits
add-requires-clause-fits c =
    let p = c.args.program.now in let g = c.func-item.result in
    subst (λ (l : Placement). FuncFitsIn (program_of p) l (func_in p g)) (sym c.loop-func.invariant.5)
    (fits p (placement_of c.args.placement) c.as_slice-funcs.result.now c.as_slice-funcs.ensures.value c.loop-func.func-index g c.loop-func-test.true c.func-item.is c.requires.form c.tell_solid.ensures)

pub add-requires-clause-layout : goal.add-requires-clause-layout
add-requires-clause-layout c =
    let p = c.args.program.now in let g = c.func-item.result in
    layout_at p (placement_of c.args.placement) c.as_slice-funcs.result.now c.as_slice-funcs.ensures.value c.loop-func.func-index g c.loop-func-test.true c.func-item.is c.frames-frames.result.now c.loop-func.number _
    (c.frames-frames.ensures ∙ c.requires.layouts) c.loop-func.invariant.3
    ∙ ap (λ (l : Placement). layout_in (program_of p) l (func_in p g)) (sym c.loop-func.invariant.5)

pub loop-func-preserved : goal.loop-func-preserved
loop-func-preserved c =
    let types = trees c.args.program.now.types in let gs = c.as_slice-funcs.result.now in let whole = program_of c.args.program.now in let pl = placement_of c.args.placement in
    let i = c.loop-func.func-index in let g = c.func-item.result in let l = c.loop-func-test.true in let is = c.func-item.is in
    let old = c.loop-func.parts in let more = c.add.new.parts in let same = c.loop-func.invariant.5 in let at = length old.instrs.items in
    let instrs : more.instrs.items ≡ old.instrs.items ++ func_code whole pl (func_of types g) at =
    c.in_ok-homes.ensures.instrs ∙ ap (λ (k : Placement). old.instrs.items ++ func_code whole k (func_of types g) at) same in
    let owners : more.owners.items ≡ old.owners.items ++ replicate (func_size whole pl (func_of types g)) c.loop-func.number =
    c.in_ok-homes.ensures.owners ∙ ap (λ (k : Placement). old.owners.items ++ replicate (func_size whole k (func_of types g)) c.loop-func.number) same in
    let entries : more.funcs.items ≡ old.funcs.items ++ entry_of whole pl (func_of types g) at ∷ [] =
    c.in_ok-homes.ensures.funcs ∙ ap (λ (k : Placement). old.funcs.items ++ entry_of whole k (func_of types g) at ∷ []) same in (
      code_next whole pl types gs i g l is _ old.instrs.items more.instrs.items c.loop-func.invariant.0 instrs,
      owners_next whole pl types gs i g l is _ old.owners.items more.owners.items c.loop-func.number (c.loop-func.number + 1) c.loop-func.invariant.1 owners refl,
      entries_next whole pl types gs i g l is _ old.funcs.items more.funcs.items at (length more.instrs.items) c.loop-func.invariant.2 entries (longer whole pl types gs i g l is old.instrs.items more.instrs.items instrs),
      omega (arith, c.loop-func.invariant.3),
      ap (λ homes. homes.globals.items) c.in_ok-homes.ensures.homes ∙ c.loop-func.invariant.4,
      ap (λ homes. placement_of homes.placement) c.in_ok-homes.ensures.homes ∙ same,
    )

pub made-requires : goal.made-requires
made-requires c =
    let p = c.args.program.now in let pl = placement_of c.args.placement in let parts = c.loop-func.parts in let done = c.loop-func.invariant in
    let same = finished p pl c.as_slice-funcs.result.now c.loop-func.func-index c.loop-func.number parts.instrs.items parts.owners.items parts.funcs.items _ c.as_slice-funcs.ensures.value (omega (arith, c.loop-func-test.false)) done.0 done.1 done.2 (c.in_ok-strings.ensures ∙ ap (λ x. map (λ bytes. bytes.items) x) c.deref.ensures.value) in
    subst (λ (t : Tables). IsCode t) (sym same) (is_code (program_of p) pl c.requires.form c.tell_solid.ensures)

pub returns : goal.returns
returns c =
    let p = c.args.program.now in let pl = placement_of c.args.placement in let parts = c.loop-func.parts in let done = c.loop-func.invariant in
    let same = c.made.ensures ∙ finished p pl c.as_slice-funcs.result.now c.loop-func.func-index c.loop-func.number parts.instrs.items parts.owners.items parts.funcs.items _ c.as_slice-funcs.ensures.value (omega (arith, c.loop-func-test.false)) done.0 done.1 done.2 (c.in_ok-strings.ensures ∙ ap (λ x. map (λ bytes. bytes.items) x) c.deref.ensures.value) in
    record {
      is = same;
      main = subst (λ (t : Tables). p.main.0 < length t.funcs) (sym same) (main_there (program_of p) pl c.requires.form);
      small = search rules;
    }
