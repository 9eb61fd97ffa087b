use Rattle.std.proofs.Common.{Some, None, subst, ap}
use Rattle.std.specs.Global.{Vec}
use Rattle.std.specs.Option.{option_map}
use Rattle.base.specs.declared.ids.FuncId.{FuncId}
use Rattle.syntax.specs.Declarations.{syntax_of}
use Rattle.typed.specs.View.{program_of}
use Rattle.typed.specs.declared.program.Func.{Func as FuncData}
use Rattle.typed.specs.declared.program.Program.{Program as ProgramData}
use Rattle.type_faults.specs.Least.{IsLeast}
use Rattle.types_go.specs.FunctionFaults.{FailsWithHeads}
use Rattle.types_go.specs.declared.pass.Passed.{Passed}
use Rattle.types_go.proofs.checking.check.Goals as goal
use Rattle.types_go.proofs.Answering.{typed, one_program, typed_or_fails, formed_of, passed_tree, where_found, main_there, functions_found}
use Rattle.types_go.proofs.InFormProgram.{in_form}
use Rattle.types_go.proofs.OneHeads.{least_of_tree}

-- the program of a pass that has these functions, one of which is `main`
abbrev program_with : Passed → Vec FuncData → FuncId → ProgramData
program_with q funcs main = record { funcs = funcs; main = main; sites = q.sites; names = q.names; types = q.types; strings = q.strings; globals = q.globals }

pub unreachable-requires : goal.unreachable-requires
unreachable-requires c =
    let t = syntax_of c.args.tree.now in
    let found = passed_tree c.args.tree.now c.deref.result.now c.deref-2.result.now c.deref.ensures.value c.deref-2.ensures.value _ _ _ _ _ _ _ _ c.in_ok-main.ensures in
    main_there t _ _ _ _ _ _ _ _ found c.in-None.is (ap (option_map (λ (f : FuncId). f.0)) c.in_default.is)

pub unreachable-requires-in_default-funcs : goal.unreachable-requires-in_default-funcs
unreachable-requires-in_default-funcs c =
    let t = syntax_of c.args.tree.now in
    let found = passed_tree c.args.tree.now c.deref.result.now c.deref-2.result.now c.deref.ensures.value c.deref-2.ensures.value _ _ _ _ _ _ _ _ c.in_ok-main.ensures in
    functions_found t _ _ _ _ _ _ _ _ found c.in-None.is
    (ap (option_map (λ (v : Vec FuncData). v.items)) c.in_default-funcs.is)

pub returns-in-Some-clause-fault : goal.returns-in-Some-clause-fault
returns-in-Some-clause-fault c =
    let t = syntax_of c.args.tree.now in
    let found = passed_tree c.args.tree.now c.deref.result.now c.deref-2.result.now c.deref.ensures.value c.deref-2.ensures.value _ _ _ _ _ _ _ _ c.in_ok-main.ensures in
    least_of_tree t found.heads (Some c.in-Some.fault) found.is_heads (subst (IsLeast (FailsWithHeads t found.heads)) c.in-Some.is found.least)

pub returns-in-Some-clause-only : goal.returns-in-Some-clause-only
returns-in-Some-clause-only c =
    let t = syntax_of c.args.tree.now in
    let found = passed_tree c.args.tree.now c.deref.result.now c.deref-2.result.now c.deref.ensures.value c.deref-2.ensures.value _ _ _ _ _ _ _ _ c.in_ok-main.ensures in
    let least = least_of_tree t found.heads (Some c.in-Some.fault) found.is_heads (subst (IsLeast (FailsWithHeads t found.heads)) c.in-Some.is found.least) in
    λ p a. typed_or_fails t found.heads found.is_heads found.formed p c.in-Some.fault a least.0

pub returns-in-Some-funcs-clause-typed : goal.returns-in-Some-funcs-clause-typed
returns-in-Some-funcs-clause-typed c =
    let t = syntax_of c.args.tree.now in
    let found = passed_tree c.args.tree.now c.deref.result.now c.deref-2.result.now c.deref.ensures.value c.deref-2.ensures.value _ _ _ _ _ _ _ _ c.in_ok-main.ensures in
    let q = c.in_ok-main.field-0 in
    let p = program_with q c.in-Some-funcs.funcs c.in-Some-main.main in
    let all = where_found t p q.main q.funcs q.fault c.in-Some-main.is c.in-Some-funcs.is c.in-None.is found in
    typed t p all

pub returns-in-Some-funcs-clause-in_form : goal.returns-in-Some-funcs-clause-in_form
returns-in-Some-funcs-clause-in_form c =
    let t = syntax_of c.args.tree.now in
    let found = passed_tree c.args.tree.now c.deref.result.now c.deref-2.result.now c.deref.ensures.value c.deref-2.ensures.value _ _ _ _ _ _ _ _ c.in_ok-main.ensures in
    let q = c.in_ok-main.field-0 in
    let p = program_with q c.in-Some-funcs.funcs c.in-Some-main.main in
    let all = where_found t p q.main q.funcs q.fault c.in-Some-main.is c.in-Some-funcs.is c.in-None.is found in
    let whole = typed t p all in in_form t (program_of p) whole (formed_of t all.heads all.is_heads all.formed (program_of p) whole)

pub returns-in-Some-funcs-clause-sites : goal.returns-in-Some-funcs-clause-sites
returns-in-Some-funcs-clause-sites c =
    let t = syntax_of c.args.tree.now in
    let found = passed_tree c.args.tree.now c.deref.result.now c.deref-2.result.now c.deref.ensures.value c.deref-2.ensures.value _ _ _ _ _ _ _ _ c.in_ok-main.ensures in
    let q = c.in_ok-main.field-0 in
    let p = program_with q c.in-Some-funcs.funcs c.in-Some-main.main in
    let all = where_found t p q.main q.funcs q.fault c.in-Some-main.is c.in-Some-funcs.is c.in-None.is found in
    (all.heads, all.is_heads, all.sites_are, all.names_are)

pub returns-in-Some-funcs-clause-places : goal.returns-in-Some-funcs-clause-places
returns-in-Some-funcs-clause-places c =
    let t = syntax_of c.args.tree.now in
    let found = passed_tree c.args.tree.now c.deref.result.now c.deref-2.result.now c.deref.ensures.value c.deref-2.ensures.value _ _ _ _ _ _ _ _ c.in_ok-main.ensures in
    let q = c.in_ok-main.field-0 in
    let p = program_with q c.in-Some-funcs.funcs c.in-Some-main.main in
    let all = where_found t p q.main q.funcs q.fault c.in-Some-main.is c.in-Some-funcs.is c.in-None.is found in
    (all.heads, all.is_heads, all.places_are)

pub returns-in-Some-funcs-clause-none_fails : goal.returns-in-Some-funcs-clause-none_fails
returns-in-Some-funcs-clause-none_fails c =
    let t = syntax_of c.args.tree.now in
    let found = passed_tree c.args.tree.now c.deref.result.now c.deref-2.result.now c.deref.ensures.value c.deref-2.ensures.value _ _ _ _ _ _ _ _ c.in_ok-main.ensures in
    let q = c.in_ok-main.field-0 in
    let p = program_with q c.in-Some-funcs.funcs c.in-Some-main.main in
    let all = where_found t p q.main q.funcs q.fault c.in-Some-main.is c.in-Some-funcs.is c.in-None.is found in
    least_of_tree t all.heads None all.is_heads all.least

pub returns-in-Some-funcs-clause-only : goal.returns-in-Some-funcs-clause-only
returns-in-Some-funcs-clause-only c =
    let t = syntax_of c.args.tree.now in
    let found = passed_tree c.args.tree.now c.deref.result.now c.deref-2.result.now c.deref.ensures.value c.deref-2.ensures.value _ _ _ _ _ _ _ _ c.in_ok-main.ensures in
    let q = c.in_ok-main.field-0 in
    let p = program_with q c.in-Some-funcs.funcs c.in-Some-main.main in
    let all = where_found t p q.main q.funcs q.fault c.in-Some-main.is c.in-Some-funcs.is c.in-None.is found in
    λ r a. one_program t (program_of p) r (typed t p all) a
