-- The least fault of a post statement.
use Rattle.std.proofs.Common.{ℕ, List, Option}
use Rattle.syntax.specs.Statements.{Simple}
use Rattle.syntax.specs.Statements as tree
use Rattle.type_faults.specs.declared.fault.Fault.{Fault}
use Rattle.type_faults.specs.Least.{IsLeast}
use Rattle.names.specs.Scope.{Scope}
use Rattle.simple_statements.specs.SimpleFaults.{FailsInSimple}
use Rattle.simple_statements.proofs.InFormSimple.{DeclaresNone}
use Rattle.types_go.specs.StatementFaults.{PostFails}

-- a post statement that declares nothing
pub post_least : (text : List ℕ) (s : Scope) (m : Simple) (l : Option Fault) → DeclaresNone m → IsLeast (FailsInSimple text s m) l → IsLeast (PostFails text s m) l
post_least text s (tree.express e) l none1 least = least
post_least text s (tree.assign ls at es) l none1 least = least
post_least text s (tree.update ls at tree_op es) l none1 least = least
post_least text s (tree.define ns at es) l none1 least = absurd none1
post_least text s (tree.increment e at) l none1 least = least
post_least text s (tree.decrement e at) l none1 least = least
