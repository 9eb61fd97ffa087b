use Rattle.std.proofs.Common.{◌≡◌, [], ◌∷◌, rules}
use Rattle.std.specs.Prelude.{not, is_some}
use Rattle.type_faults.proofs.Leasts.{least_join, leaf}
use Rattle.names.specs.Scope.{scope_of}
use Rattle.simple_statements.proofs.declaring.check_names.Goals as goal
use Rattle.simple_statements.specs.SimpleStatements.{are_distinct, has_all}
use Rattle.simple_statements.specs.SimpleFaults.{TwiceFails}
use Rattle.simple_statements.proofs.LeastSimple.{tested_none, not_twice}
use Rattle.simple_statements.proofs.SettledSimple.{distinct_tested}

pub returns-clause-fault : goal.returns-clause-fault
returns-clause-fault c =
    rw (c.lesser.ensures, c.fault_where.ensures, c.has_all-all.ensures) (least_join _ _ c.in_ok-twice.twice _ c.in_ok-twice.ensures (leaf _))

pub returns-clause-is_allowed : goal.returns-clause-is_allowed
returns-clause-is_allowed c =
    let text = c.args.text.now in
    let s = scope_of c.args.scope.now in
    let ns = c.args.names.now in
    let distinct : is_some c.in_ok-twice.twice ≡ not (are_distinct text ([] ∷ []) ns) = tested_none (are_distinct text ([] ∷ []) ns) (TwiceFails text ([] ∷ []) ns) c.in_ok-twice.twice (distinct_tested text ([] ∷ []) ns) c.in_ok-twice.ensures in
    let twice : c.is_some.result ≡ is_some c.in_ok-twice.twice = search rules in
    rw (c.neither.ensures, twice, distinct, c.has_all-all.ensures) (not_twice (are_distinct text ([] ∷ []) ns) (not (has_all text s ns)))
