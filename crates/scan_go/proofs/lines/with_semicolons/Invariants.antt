use Rattle.std.proofs.Common.{◌≡◌, ◌++◌, length}
use Rattle.scan_go.specs.Tokens.{InOrder}
use Rattle.scan_go.specs.Lines.{pos_at, PosFits, with_semicolons}
use Rattle.scan_go.proofs.lines.with_semicolons.Given as goal

abbrev pub invariant-loop-lexeme : goal.invariant-loop-lexeme
invariant-loop-lexeme l = record {
  so_far : l.tokens.items ++ with_semicolons l.text l.rest ≡ with_semicolons l.text l.lexemes;
  pos : l.pos ≡ pos_at l.text l.pos.offset;
  fits : PosFits l.pos;
  order : InOrder l.pos.offset l.rest (length l.text);
}

abbrev pub decreases-loop-lexeme : goal.decreases-loop-lexeme
decreases-loop-lexeme l = length l.rest
