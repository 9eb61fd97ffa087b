use Rattle.std.proofs.Common.{◌≡◌, false, List, sym, ◌∙◌, subst, length}
use Rattle.std.specs.Prelude.{◌==◌}
use Rattle.type_faults.specs.declared.fault.FaultKind.TheVariants.{ResultCount}
use Rattle.type_faults.specs.Least.{IsLeast}
use Rattle.type_faults.specs.Faults.{fault}
use Rattle.given_values.specs.declared.wants.Wanted.{Wanted}
use Rattle.given_values.specs.GivenFaults.{TakeFails}
use Rattle.given_values.specs.Passing.{seens}
use Rattle.simple_statements.proofs.statements.return_fault.Goals as goal
use Rattle.simple_statements.specs.SimpleStatements.{returns_view}
use Rattle.simple_statements.proofs.LeastSimple.{return_least}

pub returns-else-is_empty : goal.returns-else-is_empty
returns-else-is_empty c =
    let items = c.args.items.now in
    let empty : (length items == 0) ≡ false = sym c.is_empty.ensures ∙ c.if-is_empty.false in
    return_least c.args.pos (returns_view c.args.returns.now) items c.take_fault.result empty
    (subst (λ (l : List Wanted). IsLeast (TakeFails (fault ResultCount c.args.pos) l (seens items)) c.take_fault.result) c.deref.ensures.value c.take_fault.ensures)
