use Rattle.std.proofs.Common.{◌≡◌, ℕ, List, length, sym, ap, ◌∙◌, subst}
use Rattle.std.proofs.lemmas.List.{length-map}
use Rattle.typed.specs.Tables.{Table}
use Rattle.syntax.specs.Declarations.{declarations_of}
use Rattle.struct_sizes.specs.Structs.{Fields, fields_of, structs_of}
use Rattle.struct_sizes.specs.Verdicts.{IsSettled}
use Rattle.names.specs.Scope.{scope_of}
use Rattle.type_tables.specs.Types.{AllArrays}
use Rattle.declared_structs.specs.Forms.{structs_in}
use Rattle.declared_structs.specs.Tables.{with_structs}
use Rattle.type_tables.specs.Told.{sized_structs, program_table}
use Rattle.declared_structs.proofs.Arrays.{structs_are}
use Rattle.declared_structs.proofs.program.program_types.Goals as goal

pub type_table-requires-clause-arrays : goal.type_table-requires-clause-arrays
type_table-requires-clause-arrays c =
    subst AllArrays (sym (ap structs_of c.deref-2.ensures.value ∙ c.in_ok-structs.ensures)) (structs_are c.args.text.now (scope_of c.args.scope.now) (declarations_of c.args.decls.now))

pub returns-clause-table : goal.returns-clause-table
returns-clause-table c =
    let found = c.in_ok-found.found in
    let ss = structs_in c.args.text.now (scope_of c.args.scope.now) (declarations_of c.args.decls.now) in
    let all : structs_of c.in_ok-structs.structs.items ≡ ss = c.in_ok-structs.ensures in
    let told : c.in_ok-table.table ≡ program_table (sized_structs ss found.verdicts.items) =
    c.in_ok-table.ensures.table ∙ ap (λ (l : List Fields). program_table (sized_structs l found.verdicts.items)) (ap structs_of c.deref-2.ensures.value ∙ all) in (
      found,
      subst (λ (l : List Fields). IsSettled l found) (ap structs_of c.deref.ensures.value ∙ all) c.in_ok-found.ensures,
      c.in_ok-enter_structs.ensures.entered ∙ ap (λ (n : ℕ). with_structs c.in_ok-table.table n) (c.len.ensures ∙ c.in_ok-structs.structs.ok.0) ∙ ap (λ (T : Table). with_structs T (length c.in_ok-structs.structs.items)) told
          ∙ ap (λ (n : ℕ). with_structs (program_table (sized_structs ss found.verdicts.items)) n) (sym (length-map c.in_ok-structs.structs.items fields_of) ∙ ap length all),
    )
