use Rattle.std.proofs.Common.{◌≡◌, drop, false}
use Rattle.syntax.specs.Statements.{stms_of}
use Rattle.names.specs.Scope.{scope_of}
use Rattle.terminating.proofs.endings.+endings.Given as goal
use Rattle.terminating.specs.Terminating.{ends_after}

abbrev pub invariant-ends_in_terminating-loop-s : goal.invariant-ends_in_terminating-loop-s
invariant-ends_in_terminating-loop-s l = ends_after l.text (scope_of l.scope) false (stms_of l.ms) ≡ ends_after l.text (scope_of l.scope) l.ends (stms_of (drop l.s-index l.ms))
