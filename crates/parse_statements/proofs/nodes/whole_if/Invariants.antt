use Rattle.std.proofs.Common.{◌≡◌, length}
use Rattle.syntax.specs.Statements.{els_of}
use Rattle.parse_statements.specs.Outer.{whole_if}
use Rattle.parse_statements.specs.Outers.{branch_of, branches_of}
use Rattle.parse_statements.proofs.nodes.whole_if.Given as goal

abbrev pub invariant-loop-before : goal.invariant-loop-before
invariant-loop-before l = whole_if (branches_of l.branches.items) (branch_of l.last) (els_of l.otherwise) ≡ whole_if (branches_of l.fn.branches.items) (branch_of l.fn.last) (els_of l.fn.otherwise)

abbrev pub decreases-loop-before : goal.decreases-loop-before
decreases-loop-before l = length l.branches.items
