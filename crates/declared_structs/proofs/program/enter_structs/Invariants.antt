use Rattle.std.proofs.Common.{◌≡◌}
use Rattle.typed.specs.Formed.{IsFormed}
use Rattle.declared_structs.specs.Tables.{with_structs}
use Rattle.declared_structs.proofs.program.enter_structs.Given as goal

abbrev pub invariant-loop-index : goal.invariant-loop-index
invariant-loop-index l = (l.table ≡ with_structs l.fn.table l.index) × IsFormed l.table
