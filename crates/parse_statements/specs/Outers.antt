-- The blocks around a statement, from what lies in memory.
use Rattle.std.specs.Prelude.{List, map, reverse}
use Rattle.syntax.specs.Statements.{guard_of, clause_of, stms_of}
use Rattle.parse_statements.specs.declared.outer.Branch.{Branch as CodeBranch}
use Rattle.parse_statements.specs.declared.outer.Outer.{Outer as CodeOuter}
use Rattle.parse_statements.specs.declared.outer.Outer.TheVariants as outer
use Rattle.parse_statements.specs.Outer.{Branch, Outer, in_block, in_loop, in_then, in_else}

abbrev pub branch_of : CodeBranch → Branch
branch_of b = record { pos = b.pos; guard = guard_of b.guard; body = stms_of b.body.items }

-- the innermost stands last in the code's lists
abbrev pub branches_of : List CodeBranch → List Branch
branches_of bs = reverse (map branch_of bs)

abbrev pub outer_of : CodeOuter → Outer
outer_of (outer.Block done) = in_block (stms_of done.items)
outer_of (outer.For done pos c) = in_loop (stms_of done.items) pos (clause_of c)
outer_of (outer.Then done bs pos g) = in_then (stms_of done.items) (branches_of bs.items) pos (guard_of g)
outer_of (outer.Else done bs b) = in_else (stms_of done.items) (branches_of bs.items) (branch_of b)

abbrev pub outers_of : List CodeOuter → List Outer
outers_of os = reverse (map outer_of os)
