use Rattle.std.proofs.Common.{None, map, refl, arith}
use Rattle.typed.specs.Trees.{trees}
use Rattle.typed_syntax.specs.Syntax.{each_width, type_in}
use Rattle.expression_code.specs.Frame.{slots_in}
use Rattle.expression_code.proofs.ByWidth.{width_behind}
use Rattle.codegen.proofs.Emitted.{param_emitted, params_split}
use Rattle.codegen.proofs.returning.emit_params.Goals as goal

pub overflow_cast-n : goal.overflow_cast-n
overflow_cast-n c =
    let behind = width_behind (trees c.args.program.now.types) c.args.types.now c.loop-i.i in let sofar = c.loop-i.invariant.2 in omega (arith, behind, sofar, c.nth_words-n.ensures, c.requires.small)

pub overflow_add-word : goal.overflow_add-word
overflow_add-word c =
    let behind = width_behind (trees c.args.program.now.types) c.args.types.now c.loop-i.i in let sofar = c.loop-i.invariant.2 in omega (arith, behind, sofar, c.nth_words-n.ensures, c.requires.small)

pub loop-i-preserved : goal.loop-i-preserved
loop-i-preserved c =
    let slots = slots_in c.args.program.now c.args.frame.now in let types = c.args.types.now in let ns = each_width (map (λ t. type_in (trees c.args.program.now.types) t.0) types) in
    let ps = c.args.params.now in let i = c.loop-i.i in
    let behind = width_behind (trees c.args.program.now.types) types i in let sofar = c.loop-i.invariant.2 in (
      param_emitted slots _ _ _ ns ps i None c.loop-i.word c.nth_words-n.result _ c.loop-i-test.true c.nth_words-n.ensures refl c.loop-i.invariant.0 c.in_ok-emit_taken.ensures,
      (params_split slots c.args.frame.now.sites ns ps i None c.loop-i-test.true c.loop-i.invariant.1).1,
      omega (arith, behind, sofar, c.nth_words-n.ensures),
    )
