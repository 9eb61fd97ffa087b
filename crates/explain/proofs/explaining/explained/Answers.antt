use Rattle.std.proofs.Common.{◌≡◌, List, length, map, Vec, sym, subst, arith}
use Rattle.std.specs.declared.alloc.Global.{Global}
use Rattle.std.proofs.lemmas.Result.{IfOk-weaker}
use Rattle.base.specs.declared.ids.FuncId.{FuncId}
use Rattle.value_flows.specs.View.{program_of}
use Rattle.param_tags.specs.Order.{AreOrdered}
use Rattle.flow_batches.specs.Batches.{HaveAll}
use Rattle.explain.specs.Lines.{report_text}
use Rattle.explain.specs.Passing.{IsReadable}
use Rattle.explain.specs.Explained.{IsExplained}
use Rattle.explain.proofs.Whole.{both_ok, explained}
use Rattle.explain.proofs.explaining.explained.Goals as goal

pub returns : goal.returns
returns c =
    let program = c.args.program.now in
    let names = c.args.names.now in
    let p = program_of program in
    let lists = λ (bs : List (Vec FuncId Global)). map (λ b. b.items) bs in
    let batches = lists c.deref.result.now in
    let solved = c.in_ok-solved.solved in
    let ordered : AreOrdered p batches = subst (λ (bs : List (Vec FuncId Global)). AreOrdered p (lists bs)) (sym c.deref.ensures.value) c.in_ok-batches.ensures.ordered in
    let all : HaveAll p batches = subst (λ (bs : List (Vec FuncId Global)). HaveAll p (lists bs)) (sym c.deref.ensures.value) c.in_ok-batches.ensures.all in
    let sites : length names ≡ length program.sites.items = omega (arith, c.requires.sites, program.sites.ok.0) in
    IfOk-weaker c.report.result (λ v. (v.items ≡ report_text program names solved) × IsReadable program names solved) (λ v. IsExplained program names v.items)
    (λ v h. explained program names batches solved c.requires.formed c.requires.stands all c.in_ok-solved.ensures.solution c.in_ok-solved.ensures.paths ordered sites c.in_ok-solved.ensures.funcs h.1 v.items h.0)
    (both_ok c.report.result (λ v. v.items ≡ report_text program names solved) (λ v. IsReadable program names solved) c.report.ensures.text
    (IfOk-weaker c.report.result _ (λ v. IsReadable program names solved) (λ v h. h c.requires.counted) c.report.ensures.readable))
