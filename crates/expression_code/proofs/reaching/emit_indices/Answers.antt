use Rattle.std.proofs.Common.{◌≡◌, ◌+◌, ◌≤◌, ◌++◌, ◌∙◌, drop, ap, sym, arith}
use Rattle.typed_syntax.specs.Types.{TypeTree, part_type, width}
use Rattle.typed.specs.declared.expr.Step.{Step}
use Rattle.typed_syntax.specs.Syntax.{type_named}
use Rattle.typed.specs.View.{program_of, steps_of}
use Rattle.program_code.specs.Code.{index_code}
use Rattle.expression_code.specs.Frame.{slots_in}
use Rattle.expression_code.specs.Parts.{part_number}
use Rattle.expression_code.proofs.Reached.{part_most}
use Rattle.expression_code.proofs.Steps.{above_index, above_inner, above_least, index_emitted, index_inner, indices_next}
use Rattle.expression_code.proofs.reaching.emit_indices.Goals as goal
use Rattle.expression_code.proofs.reaching.emit_indices.Goals.{in-Inner, in-Index+in_ok-put-in-Index}

pub temp-c-requires : goal.temp-c-requires
temp-c-requires c =
    let least = above_least c.loop-step.next (steps_of (drop c.loop-step.step-index c.args.steps.now)) in let room = c.loop-step.invariant.3 in let small = c.requires.frame in
    omega (arith, least, room, small)

pub overflow_cast-w : goal.overflow_cast-w
overflow_cast-w c =
    let p = program_of c.args.program.now in let t = type_named p c.loop-step.part.0 in
    let most = part_most t (part_number c.step-item.result) 65535 (omega arith) c.loop-step.invariant.2 in
    let leads : type_named p c.part-part.result.0 ≡ part_type t c.part_number.result = c.part-part.ensures in
    let wide : c.width.result ≡ width (part_type t (part_number c.step-item.result)) = c.width.ensures ∙ ap width leads ∙ ap (λ k. width (part_type t k)) c.part_number.ensures in
    omega (arith, most, wide)

pub overflow_add-next : goal.overflow_add-next
overflow_add-next c =
    let steps = c.args.steps.now in let i = c.loop-step.step-index in
    let e = above_index steps i c.step-item.result c.loop-step-test.true c.step-item.is c.in-Index.field-0 c.in-Index.field-1 c.in-Index.length c.in-Index.is c.loop-step.next in
    let least = above_least (c.loop-step.next + 1) (steps_of (drop (i + 1) steps)) in let room = c.loop-step.invariant.3 in let small = c.requires.frame in
    omega (arith, e, least, room, small)

pub loop-step-preserved : goal.loop-step-preserved
loop-step-preserved c =
    let p = program_of c.args.program.now in let slots = slots_in c.args.program.now c.args.frame.now in let steps = c.args.steps.now in let i = c.loop-step.step-index in let x = c.step-item.result in
    let t = type_named p c.loop-step.part.0 in let u = type_named p c.part-part.result.0 in let first = c.loop-step.next in
    let l = c.loop-step-test.true in let is = c.step-item.is in let inv = c.loop-step.invariant in
    let leads : u ≡ part_type t (part_number x) = c.part-part.ensures ∙ ap (part_type t) c.part_number.ensures in
    let fit = indices_next steps i x l is t u leads inv.1 in
    let small : width u ≤ 65535 = (let most = part_most t (part_number x) 65535 (omega arith) inv.2 in let w = ap width leads in omega (arith, most, w)) in
    elim c.match-step.branch [
      | in-Inner w ↦
          let k = w.in-Inner.field-0 in
          let to : u ≡ part_type t k = leads ∙ ap (λ (y : Step). part_type t (part_number y)) w.in-Inner.is in
          let e = above_inner steps i x l is k w.in-Inner.is first in let most = inv.3 in
          rw (w.code-is, w.next-is) (
            inv.0 ∙ ap (λ y. c.loop-step.code.items ++ y) (index_inner steps i x l is k w.in-Inner.is slots t first c.args.at ∙ ap (λ (v : TypeTree). index_code slots v (steps_of (drop (i + 1) steps)) first c.args.at) (sym to)),
            fit,
            small,
            omega (arith, e, most),
          )
      | in-Index+in_ok-put-in-Index w ↦
          let to : u ≡ part_type t 0 = leads ∙ ap (λ (y : Step). part_type t (part_number y)) w.in-Index.is in
          let e = above_index steps i x l is w.in-Index.field-0 w.in-Index.field-1 w.in-Index.length w.in-Index.is first in let most = inv.3 in
          rw (w.code-is, w.next-is) (
            index_emitted steps i x l is w.in-Index.field-0 w.in-Index.field-1 w.in-Index.length w.in-Index.is slots t u _ c.loop-step.code.items _ first c.args.at _ _ _ c.temp-a.ensures w.temp-c.ensures
                (w.width.ensures ∙ ap width to) to inv.0 w.in_ok-put-in-Index.ensures,
            fit,
            small,
            omega (arith, e, most),
          )
    ]
