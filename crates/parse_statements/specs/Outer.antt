-- The blocks around a statement.
use Rattle.std.specs.Prelude.{ℕ, suc, List, [], ◌∷◌}
use Rattle.base.specs.declared.pos.Pos.{Pos}
use Rattle.syntax.specs.Statements.{Guard, Clause, Stm, if_stmt, Stms, nil, Els, else_if}
use Rattle.syntax.specs.Lists.{joined, one}

-- an `if` up to the end of its first body
pub record Branch : Type 0 where
  pub pos : Pos
  pub guard : Guard
  pub body : Stms

-- what a block that is open belongs to, after the statements before it in the block around it
pub data Outer : Type 0 where
  in_block : Stms → Outer
  in_loop : Stms → Pos → Clause → Outer
  -- the first body of an `if` that is the else of these branches, the innermost first
  in_then : Stms → List Branch → Pos → Guard → Outer
  -- the last body of an `if`
  in_else : Stms → List Branch → Branch → Outer

-- the nesting of an `if` that is the else of these branches, of which the first has nesting d
abbrev pub chain_depth : List Branch → ℕ → ℕ
chain_depth [] d = d
chain_depth (b ∷ bs) d = suc (chain_depth bs d)

-- the nesting of the closing brace of the innermost block
abbrev pub brace_depth : List Outer → ℕ
brace_depth [] = 0
brace_depth (in_block done ∷ os) = suc (brace_depth os)
brace_depth (in_loop done pos c ∷ os) = suc (brace_depth os)
brace_depth (in_then done bs pos g ∷ os) = chain_depth bs (suc (brace_depth os))
brace_depth (in_else done bs b ∷ os) = chain_depth bs (suc (brace_depth os))

-- the whole `if` of which a branch is the last
abbrev pub whole_if : List Branch → Branch → Els → Stm
whole_if [] b e = if_stmt b.pos b.guard b.body e
whole_if (o ∷ bs) b e = whole_if bs o (else_if b.pos b.guard b.body e)

-- the blocks that are open in a body, and the statements of the innermost so far
pub record Blocks : Type 0 where
  pub outer : List Outer
  pub done : Stms

-- the nesting of a statement
abbrev pub statement_depth : Blocks → ℕ
statement_depth b = suc (brace_depth b.outer)

abbrev pub around : List Outer → Stms → Blocks
around os done = record { outer = os; done = done }

-- the statements of the innermost block, and one more
abbrev pub with_statement : Blocks → Stm → Blocks
with_statement b s = around b.outer (joined b.done (one s))

-- one block more
abbrev pub within : Blocks → Outer → Blocks
within b o = around (o ∷ b.outer) nil

-- where the body of an `if` or of a `for` begins
abbrev pub opened_if : Blocks → List Branch → Pos → Guard → Blocks
opened_if b bs pos g = within b (in_then b.done bs pos g)

abbrev pub opened_for : Blocks → Pos → Clause → Blocks
opened_for b pos c = within b (in_loop b.done pos c)
