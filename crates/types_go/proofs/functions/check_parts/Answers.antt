use Rattle.std.proofs.Common.{◌≡◌, ℕ, false, List, Some, map, ap, ◌∙◌, subst, arith, length}
use Rattle.std.specs.Prelude.{◌==◌, ◌||◌}
use Rattle.std.specs.Option.{option_map}
use Rattle.std.proofs.lemmas.List.{length-map}
use Rattle.syntax.specs.Statements.{stms_of}
use Rattle.syntax.specs.Declarations.{body_of as body_view, Function as TreeFunction, function_of}
use Rattle.syntax.specs.declared.statement.Stmt.{Stmt}
use Rattle.typed.specs.View.{site_in, sts_of}
use Rattle.type_faults.specs.Least.{IsLeast, lesser}
use Rattle.type_faults.proofs.Leasts.{least_join}
use Rattle.typed.specs.declared.program.SiteKind.TheVariants as kind
use Rattle.names.specs.Scope.{Scope, scope_of, after_function, with_setting, opened, closed}
use Rattle.types_go.proofs.functions.check_parts.Goals as goal
use Rattle.signatures.specs.declared.slots.Slot.{Slot}
use Rattle.signatures.specs.declared.entries.Role.TheVariants.{Parameter, Result}
use Rattle.signatures.specs.Entries.{entries, behind_entries}
use Rattle.signatures.specs.EntryFaults.{EntriesFail}
use Rattle.signatures.specs.Signatures.{params_of, is_named}
use Rattle.function_heads.specs.HeadTypes.{slot_of, slots_of}
use Rattle.signatures.proofs.Growth.{grows_entries}
use Rattle.given_values.specs.Given.{wanted_by}
use Rattle.simple_statements.specs.SimpleStatements.{Returns, returns_view}
use Rattle.types_go.specs.Statements.{statements, behind_all}
use Rattle.types_go.specs.StatementFaults.{FailsInStatements}
use Rattle.types_go.specs.Functions.{param_entries, result_entries, declares, params_opened, behind_params, body_scope, behind_body, returns_of, body_of}
use Rattle.types_go.proofs.StatementGrowth.{grows_all}
use Rattle.types_go.proofs.Lines.{parts_of}

-- results that were looked at
returns_is : (text : List ℕ) (heads : Scope) (g : TreeFunction) (r : Returns) (slots : List Slot) → r ≡ record { wanted = map (λ (slot : Slot). wanted_by slot.value_type) slots; may_be_bare = (length slots == 0) || is_named g.results } → slots ≡ slots_of text heads g.results → r ≡ returns_of text heads g
returns_is text heads g r slots is slots_are =
    is ∙ ap (λ (l : List Slot). record { wanted = map (λ (slot : Slot). wanted_by slot.value_type) l; may_be_bare = (length l == 0) || is_named g.results }) slots_are
    ∙ ap (λ n. record { wanted = map (λ (slot : Slot). wanted_by slot.value_type) (slots_of text heads g.results); may_be_bare = (n == 0) || is_named g.results }) (length-map (params_of g.results) (slot_of text heads))

pub check_stmts-requires : goal.check_stmts-requires
check_stmts-requires c =
    let text = c.args.text.now in
    let heads = scope_of c.args.heads.now in
    omega (
      arith,
      c.requires,
      ap (λ (v : Scope). length v.blocks) c.in_ok-open.ensures,
      (grows_entries text (scope_of c.open.new.self) c.deref-2.result.now).depth,
      ap (λ (v : Scope). length v.blocks) c.in_ok-params.ensures.scope,
      (grows_entries text (with_setting (scope_of c.check_entries.new.scope) c.declaring-of_results.result) c.deref-3.result.now).depth,
      ap (λ (v : Scope). length v.blocks) c.in_ok-results.ensures.scope,
    )

pub close-requires : goal.close-requires
close-requires c =
    let text = c.args.text.now in
    let heads = scope_of c.args.heads.now in
    omega (
      arith,
      c.requires,
      ap (λ (v : Scope). length v.blocks) c.in_ok-open.ensures,
      (grows_entries text (scope_of c.open.new.self) c.deref-2.result.now).depth,
      ap (λ (v : Scope). length v.blocks) c.in_ok-params.ensures.scope,
      (grows_entries text (with_setting (scope_of c.check_entries.new.scope) c.declaring-of_results.result) c.deref-3.result.now).depth,
      ap (λ (v : Scope). length v.blocks) c.in_ok-results.ensures.scope,
      (grows_all text (with_setting (scope_of c.check_entries-2.new.scope) c.declaring-of_variables.result) (stms_of c.deref-4.result.now)).depth,
      ap (λ (v : Scope). length v.blocks) c.in_ok-lines.ensures.scope,
    )

pub returns-clause-func : goal.returns-clause-func
returns-clause-func c =
    let text = c.args.text.now in
    let heads = scope_of c.args.heads.now in
    let s = scope_of c.args.scope.now in
    let g = function_of c.args.f.now in
    let b = body_view c.args.body.now in
    let params = option_map (λ v. map site_in v.items) c.in_ok-params.params.entries in
    let results = option_map (λ v. map site_in v.items) c.in_ok-results.results.entries in
    let body = option_map (λ v. sts_of v.items) c.in_ok-lines.lines.statements in
    let ps_are : c.deref-2.result.now ≡ slots_of text heads g.params = c.deref-2.ensures.value ∙ c.in_ok-param_slots.ensures in
    let rs_are : c.deref-3.result.now ≡ slots_of text heads g.results = c.deref-3.ensures.value ∙ c.in_ok-result_slots.ensures in
    let open1 : scope_of c.open.new.self ≡ params_opened s = c.in_ok-open.ensures ∙ ap (λ x. opened (with_setting s x)) c.declaring-of_params.ensures in
    let after1 : scope_of c.check_entries.new.scope ≡ behind_entries text (params_opened s) (slots_of text heads g.params) =
    c.in_ok-params.ensures.scope ∙ ap (λ v. behind_entries text v c.deref-2.result.now) open1 ∙ ap (λ (l : List Slot). behind_entries text (params_opened s) l) ps_are in
    let with_results = with_setting (scope_of c.check_entries.new.scope) c.declaring-of_results.result in
    let behind1 : with_results ≡ behind_params text heads s g =
    ap (with_setting (scope_of c.check_entries.new.scope)) c.declaring-of_results.ensures ∙ ap (declares kind.Result) after1 in
    let after2 : scope_of c.check_entries-2.new.scope ≡ behind_entries text (behind_params text heads s g) (slots_of text heads g.results) =
    c.in_ok-results.ensures.scope ∙ ap (λ v. behind_entries text v c.deref-3.result.now) behind1 ∙ ap (λ (l : List Slot). behind_entries text (behind_params text heads s g) l) rs_are in
    let with_variables = with_setting (scope_of c.check_entries-2.new.scope) c.declaring-of_variables.result in
    let behind2 : with_variables ≡ body_scope text heads s g =
    ap (with_setting (scope_of c.check_entries-2.new.scope)) c.declaring-of_variables.ensures ∙ ap (declares kind.Variable) after2 in
    let ps : params ≡ param_entries text heads s g =
    c.in_ok-params.ensures.entries ∙ ap (λ v. entries text Parameter v c.deref-2.result.now) open1 ∙ ap (λ (l : List Slot). entries text Parameter (params_opened s) l) ps_are in
    let rs : results ≡ result_entries text heads s g =
    c.in_ok-results.ensures.entries ∙ ap (λ v. entries text Result v c.deref-3.result.now) behind1 ∙ ap (λ (l : List Slot). entries text Result (behind_params text heads s g) l) rs_are in
    let range_clause : c.deref.result.now ≡ slots_of text heads g.results = c.deref.ensures.value ∙ c.in_ok-result_slots.ensures in
    let given = returns_view c.in_ok-returns.returns in
    let returns : given ≡ returns_of text heads g = returns_is text heads g given c.deref.result.now c.in_ok-returns.ensures range_clause in
    let typed : body ≡ body_of text heads s g b =
    c.in_ok-lines.ensures.statements ∙ ap (λ x. statements text x false with_variables (stms_of c.deref-4.result.now)) returns
    ∙ ap (λ v. statements text (returns_of text heads g) false v (stms_of c.deref-4.result.now)) behind2 ∙ ap (λ (l : List Stmt). statements text (returns_of text heads g) false (body_scope text heads s g) (stms_of l)) c.deref-4.ensures.value in
    let whole : with_setting (scope_of c.close.new.self) c.in_ok-after.after ≡ behind_body text heads s g (Some b) =
    ap (with_setting (scope_of c.close.new.self)) c.in_ok-after.ensures
    ∙ ap (λ v. with_setting v (after_function s.setting)) (c.close.ensures ∙ ap closed (c.in_ok-lines.ensures.scope ∙ ap (λ v. behind_all text v (stms_of c.deref-4.result.now)) behind2 ∙ ap (λ (l : List Stmt). behind_all text (body_scope text heads s g) (stms_of l)) c.deref-4.ensures.value)) in
    let first : c.site_count-first.result ≡ length s.sites = c.site_count-first.ensures in
    let last0 : c.site_count.result ≡ length (scope_of c.close.new.self).sites = c.site_count.ensures in
    let last : c.site_count.result ≡ length (behind_body text heads s g (Some b)).sites = last0 ∙ ap (λ (v : Scope). length v.sites) whole in
    let param_slots : c.deref-5.result.now ≡ slots_of text heads g.params = c.deref-5.ensures.value ∙ c.in_ok-param_slots.ensures in
    let slots : c.deref-6.result.now ≡ slots_of text heads g.results = c.deref-6.ensures.value ∙ c.in_ok-result_slots.ensures in
    c.in_ok-func.ensures.func ∙ parts_of text heads s g b c.deref-5.result.now c.deref-6.result.now c.site_count-first.result c.site_count.result params results body param_slots slots first last ps rs typed

pub returns-clause-fault : goal.returns-clause-fault
returns-clause-fault c =
    let text = c.args.text.now in
    let heads = scope_of c.args.heads.now in
    let s = scope_of c.args.scope.now in
    let g = function_of c.args.f.now in
    let b = body_view c.args.body.now in
    let params = c.in_ok-params.params.fault in
    let results = c.in_ok-results.results.fault in
    let lines = c.in_ok-lines.lines.fault in
    let ps_are : c.deref-2.result.now ≡ slots_of text heads g.params = c.deref-2.ensures.value ∙ c.in_ok-param_slots.ensures in
    let rs_are : c.deref-3.result.now ≡ slots_of text heads g.results = c.deref-3.ensures.value ∙ c.in_ok-result_slots.ensures in
    let open1 : scope_of c.open.new.self ≡ params_opened s = c.in_ok-open.ensures ∙ ap (λ x. opened (with_setting s x)) c.declaring-of_params.ensures in
    let after1 : scope_of c.check_entries.new.scope ≡ behind_entries text (params_opened s) (slots_of text heads g.params) =
    c.in_ok-params.ensures.scope ∙ ap (λ v. behind_entries text v c.deref-2.result.now) open1 ∙ ap (λ (l : List Slot). behind_entries text (params_opened s) l) ps_are in
    let with_results = with_setting (scope_of c.check_entries.new.scope) c.declaring-of_results.result in
    let behind1 : with_results ≡ behind_params text heads s g =
    ap (with_setting (scope_of c.check_entries.new.scope)) c.declaring-of_results.ensures ∙ ap (declares kind.Result) after1 in
    let after2 : scope_of c.check_entries-2.new.scope ≡ behind_entries text (behind_params text heads s g) (slots_of text heads g.results) =
    c.in_ok-results.ensures.scope ∙ ap (λ v. behind_entries text v c.deref-3.result.now) behind1 ∙ ap (λ (l : List Slot). behind_entries text (behind_params text heads s g) l) rs_are in
    let with_variables = with_setting (scope_of c.check_entries-2.new.scope) c.declaring-of_variables.result in
    let behind2 : with_variables ≡ body_scope text heads s g =
    ap (with_setting (scope_of c.check_entries-2.new.scope)) c.declaring-of_variables.ensures ∙ ap (declares kind.Variable) after2 in
    let range_clause : c.deref.result.now ≡ slots_of text heads g.results = c.deref.ensures.value ∙ c.in_ok-result_slots.ensures in
    let given = returns_view c.in_ok-returns.returns in
    let returns : given ≡ returns_of text heads g = returns_is text heads g given c.deref.result.now c.in_ok-returns.ensures range_clause in
    let x : IsLeast (EntriesFail text Parameter (params_opened s) (slots_of text heads g.params)) params =
    subst (λ v. IsLeast (EntriesFail text Parameter v (slots_of text heads g.params)) params) open1 (subst (λ (l : List Slot). IsLeast (EntriesFail text Parameter (scope_of c.open.new.self) l) params) ps_are c.in_ok-params.ensures.fault) in
    let y : IsLeast (EntriesFail text Result (behind_params text heads s g) (slots_of text heads g.results)) results =
    subst (λ v. IsLeast (EntriesFail text Result v (slots_of text heads g.results)) results) behind1 (subst (λ (l : List Slot). IsLeast (EntriesFail text Result with_results l) results) rs_are c.in_ok-results.ensures.fault) in
    let z : IsLeast (FailsInStatements text (returns_of text heads g) false (body_scope text heads s g) b.statements) lines =
    subst (λ q. IsLeast (FailsInStatements text q false (body_scope text heads s g) b.statements) lines) returns
    (subst (λ v. IsLeast (FailsInStatements text given false v b.statements) lines) behind2
    (subst (λ (l : List Stmt). IsLeast (FailsInStatements text given false with_variables (stms_of l)) lines) c.deref-4.ensures.value c.in_ok-lines.ensures.fault)) in
    rw (c.lesser-fault.ensures, c.lesser.ensures)
    (least_join _ (FailsInStatements text (returns_of text heads g) false (body_scope text heads s g) b.statements) (lesser params results) lines
    (least_join (EntriesFail text Parameter (params_opened s) (slots_of text heads g.params)) (EntriesFail text Result (behind_params text heads s g) (slots_of text heads g.results)) params results x y) z)
