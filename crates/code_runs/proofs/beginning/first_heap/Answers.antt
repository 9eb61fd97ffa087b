use Rattle.std.proofs.Common.{rules, ◌≡◌, ◌∙◌, [], Err, List, ap, map, refl, sym, arith}
use Rattle.typed.specs.declared.program.PackageVariable.{PackageVariable}
use Rattle.typed.specs.View.{global_of}
use Rattle.expression_code.specs.Frame.{sites_in}
use Rattle.simulated_code.specs.Correct.{begun, first_words}
use Rattle.code_runs.proofs.Begun.{begun_all, fault_begun, step_begun}
use Rattle.code_runs.proofs.beginning.first_heap.Goals as goal

pub loop-global-preserved : goal.loop-global-preserved
loop-global-preserved c =
    let sites = sites_in c.args.program.now in let gs = c.as_slice-globals.result.now in let i = c.loop-global.global-index in let heap = c.loop-global.heap in let max = c.args.heap_max in
    let inv = c.loop-global.invariant in
    let step = step_begun sites gs i c.loop-global-test.true _ _ refl max heap _ inv.0 c.in_ok-add.ensures.words c.in_ok-add.ensures.room in
    (step.0, λ follow. inv.1 follow ∙ step.1 follow)

pub returns-in_err-add-clause-fault : goal.returns-in_err-add-clause-fault
returns-in_err-add-clause-fault c =
    let sites = sites_in c.args.program.now in let gs = c.as_slice-globals.result.now in let max = c.args.heap_max in let inv = c.loop-global.invariant in
    let same : c.from_residual.result ≡ Err c.in_err-add.field-0.0 = search rules in
    rw same (fault_begun sites gs c.loop-global.global-index c.loop-global-test.true _ _ refl max c.loop-global.heap inv.0 _ c.in_err-add.ensures.fault _
    (λ follow. ap (λ (hs : List PackageVariable). begun max [] (first_words (map (global_of sites) hs)) follow) (sym c.as_slice-globals.ensures.value) ∙ inv.1 follow))

pub returns-clause-words : goal.returns-clause-words
returns-clause-words c =
    let sites = sites_in c.args.program.now in let gs = c.as_slice-globals.result.now in let i = c.loop-global.global-index in let heap = c.loop-global.heap in let max = c.args.heap_max in
    λ follow. ap (λ (hs : List PackageVariable). begun max [] (first_words (map (global_of sites) hs)) follow) (sym c.as_slice-globals.ensures.value)
    ∙ c.loop-global.invariant.1 follow ∙ begun_all sites gs i (omega (arith, c.loop-global-test.false)) max heap.words follow
