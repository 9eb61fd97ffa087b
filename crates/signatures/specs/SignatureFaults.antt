-- Which rules fail in the head of a function, and where each is reported.
use Rattle.std.specs.Prelude.{ℕ, Bool, true, false, not, Option, Some, None, nat_le}
use Rattle.base.specs.declared.pos.Pos.{Pos}
use Rattle.typed.specs.Tables.{Table}
use Rattle.type_faults.specs.declared.fault.Fault.{Fault}
use Rattle.type_faults.specs.declared.fault.FaultKind.TheVariants.{Redeclared, TooLarge}
use Rattle.type_faults.specs.Faults.{fault}
use Rattle.names.specs.declared.scope.Declared.{Declared}
use Rattle.names.specs.Scope.{Signature}
use Rattle.signatures.specs.Signatures.{is_number, most_words, words}
use Rattle.signatures.specs.Failing.{fault_where}

-- the name of the function of a number: the first declaration of a name stays
abbrev pub function_name_fault : ℕ → (is_blank : Bool) → Option Declared → Pos → Option Fault
function_name_fault i true d pos = None
function_name_fault i false d pos = fault_where (not (is_number i d)) (fault Redeclared pos)

-- arguments and results have at most `most_words` words
abbrev pub size_fault : Table → Option Signature → Pos → Option Fault
size_fault T None pos = None
size_fault T (Some sig) pos = fault_where (not (nat_le (words T sig) most_words)) (fault TooLarge pos)
