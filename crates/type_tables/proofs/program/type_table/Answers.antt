use Rattle.std.proofs.Common.{◌≡◌, ℕ, List, Option, sym, subst, ◌∙◌}
use Rattle.std.proofs.lemmas.List.{length-map}
use Rattle.struct_sizes.specs.declared.verdicts.Verdict.{Verdict}
use Rattle.struct_sizes.specs.Structs.{structs_of}
use Rattle.std.specs.Prelude.{IfOk}
use Rattle.typed.specs.Tables.{Table, lists_of, with_all}
use Rattle.typed.specs.Formed.{AreStructWords}
use Rattle.type_tables.specs.Told.{sized_structs}
use Rattle.type_tables.specs.Types.{TellsEach, HaveWords}
use Rattle.type_tables.specs.Fits.{StructsFit}
use Rattle.type_tables.proofs.Whole.{fit, whole, if_ok}
use Rattle.type_tables.proofs.program.type_table.Goals as goal

pub enter_structs-requires-clause-fit : goal.enter_structs-requires-clause-fit
enter_structs-requires-clause-fit c =
    let ss = structs_of c.args.structs.now in
    subst (λ (vs : List Verdict). StructsFit (sized_structs ss vs)) (sym c.deref.ensures.value) (fit ss c.args.found.now c.requires.settled c.requires.arrays)

pub tell_all-requires-clause-formed : goal.tell_all-requires-clause-formed
tell_all-requires-clause-formed c =
    let ss = structs_of c.args.structs.now in
    let found = c.args.found.now in
    let T = c.enter_structs.new.table in
    let w =
    whole ss found c.requires.settled c.requires.arrays T c.in_ok-table.table c.deref.result.now c.in-Ok.count (lists_of c.in_ok-fields.fields.items) c.deref.ensures.value c.in_ok-fields.ensures.entered c.in_ok-table.ensures.basic (c.in-Ok.ensures.1 ∙ sym (length-map c.args.structs.now _)) c.in_ok-fields.ensures.formed c.in_ok-fields.ensures.told in
    w.formed

pub tell_all-requires-clause-words : goal.tell_all-requires-clause-words
tell_all-requires-clause-words c =
    let ss = structs_of c.args.structs.now in
    let found = c.args.found.now in
    let T = c.enter_structs.new.table in
    let w =
    whole ss found c.requires.settled c.requires.arrays T c.in_ok-table.table c.deref.result.now c.in-Ok.count (lists_of c.in_ok-fields.fields.items) c.deref.ensures.value c.in_ok-fields.ensures.entered c.in_ok-table.ensures.basic (c.in-Ok.ensures.1 ∙ sym (length-map c.args.structs.now _)) c.in_ok-fields.ensures.formed c.in_ok-fields.ensures.told in
    subst (λ (words : List (Option ℕ)). AreStructWords (with_all T (lists_of c.in_ok-fields.fields.items)) words) (sym c.deref-2.ensures.value) w.found_words

pub returns-clause-table : goal.returns-clause-table
returns-clause-table c =
    let ss = structs_of c.args.structs.now in
    let found = c.args.found.now in
    let T = c.enter_structs.new.table in
    let w =
    whole ss found c.requires.settled c.requires.arrays T c.in_ok-table.table c.deref.result.now c.in-Ok.count (lists_of c.in_ok-fields.fields.items) c.deref.ensures.value c.in_ok-fields.ensures.entered c.in_ok-table.ensures.basic (c.in-Ok.ensures.1 ∙ sym (length-map c.args.structs.now _)) c.in_ok-fields.ensures.formed c.in_ok-fields.ensures.told in
    subst (λ (U : Table). IfOk c.tell_all.result (λ t. t ≡ U)) w.table c.tell_all.ensures.told

pub returns-clause-fields : goal.returns-clause-fields
returns-clause-fields c =
    let ss = structs_of c.args.structs.now in
    let found = c.args.found.now in
    let T = c.enter_structs.new.table in
    let w =
    whole ss found c.requires.settled c.requires.arrays T c.in_ok-table.table c.deref.result.now c.in-Ok.count (lists_of c.in_ok-fields.fields.items) c.deref.ensures.value c.in_ok-fields.ensures.entered c.in_ok-table.ensures.basic (c.in-Ok.ensures.1 ∙ sym (length-map c.args.structs.now _)) c.in_ok-fields.ensures.formed c.in_ok-fields.ensures.told in
    if_ok c.tell_all.result (with_all T (lists_of c.in_ok-fields.fields.items)) (λ (t : Table). TellsEach t (sized_structs ss found.verdicts.items)) c.tell_all.ensures.told w.fields

pub returns-clause-words : goal.returns-clause-words
returns-clause-words c =
    let ss = structs_of c.args.structs.now in
    let found = c.args.found.now in
    let T = c.enter_structs.new.table in
    let w =
    whole ss found c.requires.settled c.requires.arrays T c.in_ok-table.table c.deref.result.now c.in-Ok.count (lists_of c.in_ok-fields.fields.items) c.deref.ensures.value c.in_ok-fields.ensures.entered c.in_ok-table.ensures.basic (c.in-Ok.ensures.1 ∙ sym (length-map c.args.structs.now _)) c.in_ok-fields.ensures.formed c.in_ok-fields.ensures.told in
    if_ok c.tell_all.result (with_all T (lists_of c.in_ok-fields.fields.items)) (λ (t : Table). HaveWords t found.verdicts.items) c.tell_all.ensures.told w.words
