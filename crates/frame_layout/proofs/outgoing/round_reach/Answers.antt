use Rattle.std.proofs.Common.{[], ◌∷◌, arith}
use Rattle.std.proofs.lemmas.Grind.{common_steps}
use Rattle.typed.specs.View.{left_of, program_of}
use Rattle.frame_layout.proofs.Sides.{lefts_first, lefts_others}
use Rattle.frame_layout.proofs.outgoing.round_reach.Goals as goal

pub returns : goal.returns
returns c =
    let first = lefts_first (program_of c.args.program.now) (left_of c.args.key.now) (left_of c.args.value.now ∷ []) c.args.body in
    let second = lefts_others (program_of c.args.program.now) (left_of c.args.value.now ∷ []) c.args.body in
    grind (arith, common_steps, first, second)
