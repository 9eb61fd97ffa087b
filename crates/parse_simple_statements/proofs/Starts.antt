-- At its first terminal an expression or a type does not end.
use Rattle.std.proofs.Common.{[], Option, Some, None}
use Rattle.syntax.specs.declared.operator.UnOp.TheVariants.{Star}
use Rattle.parse_expressions.specs.declared.terminal.Terminal.{Terminal}
use Rattle.parse_expressions.specs.declared.terminal.Terminal.TheVariants.{Identifier, Number, String, LeftParen, LeftBracket}
use Rattle.parse_expressions.specs.Terminals.{Prefix, prefix, prefix_in}
use Rattle.parse_expressions.specs.Machine.{Progress, ends, operand, after_prefix, type_operand, after_type_prefix}

abbrev pub NeverEnds : Progress → Type 0
NeverEnds (ends e) = ⊥
NeverEnds p = Unit {0}

prefix_starts : (o : Option Prefix) → NeverEnds (after_prefix [] o)
prefix_starts None = tt
prefix_starts (Some (prefix pos op)) = tt

pub operand_starts : (t : Terminal) → NeverEnds (operand [] t)
operand_starts (Number q n) = tt
operand_starts (String q e) = tt
operand_starts (Identifier x) = tt
operand_starts (LeftParen q) = tt
operand_starts (LeftBracket q) = tt
operand_starts t = prefix_starts (prefix_in t)

type_prefix_starts : (o : Option Prefix) → NeverEnds (after_type_prefix [] o)
type_prefix_starts None = tt
type_prefix_starts (Some (prefix pos Star)) = tt
type_prefix_starts (Some (prefix pos op)) = tt

pub type_starts : (t : Terminal) → NeverEnds (type_operand [] t)
type_starts (Identifier x) = tt
type_starts (LeftParen q) = tt
type_starts (LeftBracket q) = tt
type_starts t = type_prefix_starts (prefix_in t)
