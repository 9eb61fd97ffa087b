use Rattle.std.proofs.Common.{[], ◌∷◌, drop}
use Rattle.type_faults.proofs.Leasts.{Kept}
use Rattle.declared_structs.specs.Faults.{FieldNamesFail}
use Rattle.declared_structs.proofs.rules.names_fault.Given as goal

abbrev pub invariant-loop-name : goal.invariant-loop-name
invariant-loop-name l = Kept (FieldNamesFail l.text ([] ∷ []) l.names) (FieldNamesFail l.text l.noted (drop l.name-index l.names)) l.fault
