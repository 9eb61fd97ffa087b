use Rattle.std.proofs.Common.{ap, ◌∙◌, subst}
use Rattle.syntax.specs.Declarations.{declarations_of}
use Rattle.type_faults.specs.Least.{IsLeast}
use Rattle.names.specs.Scope.{Scope}
use Rattle.declared_structs.specs.Faults.{SizesOfAllFail}
use Rattle.declared_structs.specs.Forms.{structs_in}
use Rattle.declared_structs.specs.Tables.{IsTableOf}
use Rattle.entered_types.specs.Entered.{entered_all}
use Rattle.types_go.proofs.pass.package_names.Goals as goal

pub returns-clause-heads : goal.returns-clause-heads
returns-clause-heads c =
    let text = c.args.text.now in
    let ds = declarations_of c.args.decls.now in
    let T = c.in_ok-table.field-0.table in
    λ own_name. record {
      table = T;
      is_table = subst (λ (v : Scope). IsTableOf (structs_in text v ds) T) c.in_ok-heads.ensures c.in_ok-table.ensures.table;
      is = c.in_ok-enter_types.ensures.entered ∙ ap (λ (v : Scope). entered_all text (record v { types = T }) ds) c.in_ok-heads.ensures;
    }

pub returns-clause-sizes : goal.returns-clause-sizes
returns-clause-sizes c =
    let text = c.args.text.now in
    let ds = declarations_of c.args.decls.now in
    λ own_name. subst (λ (v : Scope). IsLeast (SizesOfAllFail text v ds) c.in_ok-table.field-0.fault) c.in_ok-heads.ensures c.in_ok-table.ensures.fault
