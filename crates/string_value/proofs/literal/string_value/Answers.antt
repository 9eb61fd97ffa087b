use Rattle.std.proofs.Common.{sym, ◌∙◌, arith}
use Rattle.std.proofs.lemmas.List.{take_rest}
use Rattle.string_value.proofs.PiecesFrom.{with_piece, at_end}
use Rattle.string_value.proofs.literal.string_value.Goals as goal

pub pieces-preserved : goal.pieces-preserved
pieces-preserved c =
    rw (c.in_ok-append.ensures, take_rest)
    (with_piece c.pieces.value.items c.pieces.rest.now c.first_piece-piece.result (omega arith) c.first_piece-piece.ensures.value c.first_piece-piece.ensures.some ∙ c.pieces.invariant)

pub returns : goal.returns
returns c = sym (at_end c.pieces.value.items c.pieces.rest.now (grind arith)) ∙ c.pieces.invariant
