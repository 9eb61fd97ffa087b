use Rattle.type_faults.proofs.Leasts.{least_join, leaf}
use Rattle.types_go.proofs.functions.check_with_body.Goals as goal

pub returns-clause-fault : goal.returns-clause-fault
returns-clause-fault c =
    rw (c.lesser.ensures, c.lesser-head_fault.ensures, c.lesser-body_fault.ensures, c.fault_where.ensures, c.may_end-ends.ensures)
    (least_join _ _ _ _ (least_join _ _ c.check_head-head.result.fault c.in_ok-words.words.fault c.check_head-head.ensures.fault c.in_ok-words.ensures.fault)
    (least_join _ _ c.in_ok-parts.parts.fault _ c.in_ok-parts.ensures.fault (leaf _)))

pub returns-clause-pos : goal.returns-clause-pos
returns-clause-pos c = c.func_where.ensures.pos c.args.f.now.name.pos c.in_ok-parts.ensures.pos
