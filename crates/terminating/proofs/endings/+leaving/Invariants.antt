use Rattle.std.proofs.Common.{◌≡◌, drop}
use Rattle.std.specs.Prelude.{◌||◌}
use Rattle.syntax.specs.Statements.{stms_of}
use Rattle.terminating.proofs.endings.+leaving.Given as goal
use Rattle.terminating.specs.Terminating.{leaves_any}

abbrev pub invariant-leaves_any-loop-s : goal.invariant-leaves_any-loop-s
invariant-leaves_any-loop-s l = leaves_any (stms_of l.ms) ≡ (l.any || leaves_any (stms_of (drop l.s-index l.ms)))
