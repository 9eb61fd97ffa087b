-- The first operand of a line and the others.
use Rattle.std.proofs.Common.{◌≡◌, max, List, ◌∷◌, refl, arith}
use Rattle.typed_syntax.specs.Syntax.{Piece, Program, text, shown}
use Rattle.frames.specs.Frames.{piece_reach, reach_pieces}

pub reaches_first : (p : Program) (q : Piece) (ps : List Piece) → reach_pieces p (q ∷ ps) ≡ max (piece_reach p q) (reach_pieces p ps)
reaches_first p (text number) ps = omega arith
reaches_first p (shown t e) ps = refl
