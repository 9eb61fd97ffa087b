use Rattle.std.proofs.Common.{rules, ◌≡◌, ◌+◌, ◌<◌, true, List, length, drop, ap, sym, subst, arith, ◌∙◌, IfOk}
use Rattle.std.specs.Option.{option_map}
use Rattle.syntax.specs.declared.statement.Stmt.{Stmt}
use Rattle.syntax.specs.declared.statement.Else.{Else}
use Rattle.syntax.specs.declared.statement.ValueSpec.{ValueSpec}
use Rattle.syntax.specs.Statements.{Stm, Stms, Els, stm_of, stms_of, els_of, guard_of, clause_of, simple_of, value_specs_of, var_stmt, simple, if_stmt, for_stmt, block, return_stmt, else_block, else_if}
use Rattle.syntax.specs.Expressions.{exs_of}
use Rattle.syntax.proofs.Views.{stmt_rows}
use Rattle.type_faults.specs.Least.{IsLeast, lesser}
use Rattle.type_faults.proofs.Leasts.{if_ok}
use Rattle.names.specs.Scope.{Scope, scope_of, in_header, in_body, with_setting, opened, closed}
use Rattle.types_go.proofs.blocks.+statements.Goals as goal
use Rattle.simple_statements.specs.SimpleStatements.{returns_view}
use Rattle.simple_statements.specs.SimpleFaults.{FailsInSpecs}
use Rattle.typed.specs.View.{sts_of}
use Rattle.types_go.specs.StatementPassing.{choice_view}
use Rattle.types_go.specs.Statements.{alone, choice_of, guard_head, looping, body_opened, statement, statements, alternative, header, clause_scope, behind_all}
use Rattle.types_go.specs.StatementFaults.{FailsInClause, FailsInStatement, FailsInStatements, FailsInElse}
use Rattle.types_go.proofs.StatementGrowth.{grows_header, grows_clause, grows_all, keeps_block, keeps_else}
use Rattle.types_go.proofs.Sequences.{choice_least, loop_least, KeptStatements, split, nothing_left, one_more, given_all, at_end}

-- as many blocks are open after a header as in it, and after a body as before it
pub check_else-check_inner-requires-in-If : goal.check_else-check_inner-requires-in-If
check_else-check_inner-requires-in-If t c =
    let inside : 0 < length c.check_guard.new.scope.names =
    omega (
      arith,
      c.requires,
      (grows_header c.args.text.now (scope_of c.args.scope.now) (guard_of c.in-If.guard).init).depth,
      ap (λ (v : Scope). length v.blocks) c.in_ok-head-in-If.ensures.scope,
    ) in
    search (rules, stmt_rows, inside)

pub check_else-check_else-requires : goal.check_else-check_else-requires
check_else-check_else-requires t c =
    let inside : 0 < length c.check_inner-in-If.new.scope.names =
    omega (
      arith,
      c.requires,
      (grows_header c.args.text.now (scope_of c.args.scope.now) (guard_of c.in-If.guard).init).depth,
      ap (λ (v : Scope). length v.blocks) c.in_ok-head-in-If.ensures.scope,
      ap length (keeps_block c.args.text.now (scope_of c.check_guard.new.scope) (stms_of c.deref-in-If.result.now)).blocks,
      ap (λ (v : Scope). length v.blocks) c.in_ok-body-in-If.ensures.scope,
    ) in
    search (rules, stmt_rows, inside)

pub check_else-close-requires : goal.check_else-close-requires
check_else-close-requires t c =
    omega (
      arith,
      c.requires,
      (grows_header c.args.text.now (scope_of c.args.scope.now) (guard_of c.in-If.guard).init).depth,
      ap (λ (v : Scope). length v.blocks) c.in_ok-head-in-If.ensures.scope,
      ap length (keeps_block c.args.text.now (scope_of c.check_guard.new.scope) (stms_of c.deref-in-If.result.now)).blocks,
      ap (λ (v : Scope). length v.blocks) c.in_ok-body-in-If.ensures.scope,
      ap length (keeps_else c.args.text.now (scope_of c.check_inner-in-If.new.scope) (els_of c.deref-rest.result.now)).blocks,
      ap (λ (v : Scope). length v.blocks) c.in_ok-rest-in-If.ensures.scope,
    )

pub check_stmt-check_inner-requires-in-If : goal.check_stmt-check_inner-requires-in-If
check_stmt-check_inner-requires-in-If t c =
    let inside : 0 < length c.check_guard.new.scope.names =
    omega (
      arith,
      c.requires,
      (grows_header c.args.text.now (scope_of c.args.scope.now) (guard_of c.in-If.guard).init).depth,
      ap (λ (v : Scope). length v.blocks) c.in_ok-head-in-If.ensures.scope,
    ) in
    search (rules, stmt_rows, inside)

pub check_stmt-check_else-requires : goal.check_stmt-check_else-requires
check_stmt-check_else-requires t c =
    let inside : 0 < length c.check_inner-in-If.new.scope.names =
    omega (
      arith,
      c.requires,
      (grows_header c.args.text.now (scope_of c.args.scope.now) (guard_of c.in-If.guard).init).depth,
      ap (λ (v : Scope). length v.blocks) c.in_ok-head-in-If.ensures.scope,
      ap length (keeps_block c.args.text.now (scope_of c.check_guard.new.scope) (stms_of c.deref-in-If.result.now)).blocks,
      ap (λ (v : Scope). length v.blocks) c.in_ok-body-in-If.ensures.scope,
    ) in
    search (rules, stmt_rows, inside)

pub check_stmt-close-requires : goal.check_stmt-close-requires
check_stmt-close-requires t c =
    omega (
      arith,
      c.requires,
      (grows_header c.args.text.now (scope_of c.args.scope.now) (guard_of c.in-If.guard).init).depth,
      ap (λ (v : Scope). length v.blocks) c.in_ok-head-in-If.ensures.scope,
      ap length (keeps_block c.args.text.now (scope_of c.check_guard.new.scope) (stms_of c.deref-in-If.result.now)).blocks,
      ap (λ (v : Scope). length v.blocks) c.in_ok-body-in-If.ensures.scope,
      ap length (keeps_else c.args.text.now (scope_of c.check_inner-in-If.new.scope) (els_of c.in-If.rest)).blocks,
      ap (λ (v : Scope). length v.blocks) c.in_ok-rest-in-If.ensures.scope,
    )

pub check_stmt-check_inner-requires-in-For : goal.check_stmt-check_inner-requires-in-For
check_stmt-check_inner-requires-in-For t c =
    let inside : 0 < length c.check_clause.new.scope.names =
    omega (
      arith,
      c.requires,
      (grows_clause c.args.text.now (with_setting (scope_of c.args.scope.now) c.in_ok-in_header-in-For.in_header) (clause_of c.in-For.clause)).depth,
      ap (λ (v : Scope). length v.blocks) c.in_ok-head-in-For.ensures.scope,
    ) in
    search (rules, stmt_rows, inside)

pub check_stmt-close-requires-in-For : goal.check_stmt-close-requires-in-For
check_stmt-close-requires-in-For t c =
    omega (
      arith,
      c.requires,
      (grows_clause c.args.text.now (with_setting (scope_of c.args.scope.now) c.in_ok-in_header-in-For.in_header) (clause_of c.in-For.clause)).depth,
      ap (λ (v : Scope). length v.blocks) c.in_ok-head-in-For.ensures.scope,
      ap length (keeps_block c.args.text.now (with_setting (scope_of c.check_clause.new.scope) c.in_body-in_body.result) (stms_of c.deref-in-For.result.now)).blocks,
      ap (λ (v : Scope). length v.blocks) c.in-Ok.ensures.scope,
    )

pub check_inner-close-requires : goal.check_inner-close-requires
check_inner-close-requires t c =
    omega (arith, c.requires, (grows_all c.args.text.now (scope_of c.open.new.self) (stms_of c.args.ms.now)).depth, ap (λ (v : Scope). length v.blocks) c.in_ok-open.ensures, ap (λ (v : Scope). length v.blocks) c.in_ok-lines.ensures.scope)

pub check_else-returns-in_ok-rest-in-If-clause-fault : goal.check_else-returns-in_ok-rest-in-If-clause-fault
check_else-returns-in_ok-rest-in-If-clause-fault t c =
    let text = c.args.text.now in
    let rets = returns_view c.args.returns.now in
    let looped = c.args.looped in
    let s = scope_of c.args.scope.now in
    let at = c.in-If.pos in
    let g = guard_of c.in-If.guard in
    let h = header text s g.init in
    let ms = stms_of c.in-If.body.items in
    let inner = closed (behind_all text (opened h) ms) in
    let tree : Else = c.in-If.rest.value in
    let later = els_of tree in
    let head = c.in_ok-head-in-If.head in
    let body = c.in_ok-body-in-If.body in
    let rest = c.in_ok-rest-in-If.rest in
    let shape : els_of c.args.e.now ≡ else_if at g ms later = grind (arith, stmt_rows) in
    let h_is : scope_of c.check_guard.new.scope ≡ h = c.in_ok-head-in-If.ensures.scope in
    let b : IsLeast (FailsInStatements text rets looped (opened h) ms) body.fault =
    subst (λ (v : Scope). IsLeast (FailsInStatements text rets looped (opened v) ms) body.fault) h_is
    (subst (λ (l : List Stmt). IsLeast (FailsInStatements text rets looped (opened (scope_of c.check_guard.new.scope)) (stms_of l)) body.fault) c.deref-in-If.ensures.value c.in_ok-body-in-If.ensures.fault) in
    let scope : scope_of c.check_inner-in-If.new.scope ≡ inner =
    c.in_ok-body-in-If.ensures.scope ∙ ap (λ (l : List Stmt). closed (behind_all text (opened (scope_of c.check_guard.new.scope)) (stms_of l))) c.deref-in-If.ensures.value
    ∙ ap (λ (v : Scope). closed (behind_all text (opened v) ms)) h_is in
    let r : IsLeast (FailsInElse text rets looped inner later) rest.fault =
    subst (λ (v : Scope). IsLeast (FailsInElse text rets looped v later) rest.fault) scope
    (subst (λ (x : Else). IsLeast (FailsInElse text rets looped (scope_of c.check_inner-in-If.new.scope) (els_of x)) rest.fault) c.deref-rest.ensures c.in_ok-rest-in-If.ensures.fault) in
    let whole : IsLeast (FailsInElse text rets looped s (els_of c.args.e.now)) (lesser (lesser head.fault body.fault) rest.fault) =
    subst (λ (x : Els). IsLeast (FailsInElse text rets looped s x) (lesser (lesser head.fault body.fault) rest.fault)) (sym shape)
    (choice_least text rets looped s at g ms later head.fault body.fault rest.fault c.in_ok-head-in-If.ensures.fault b r) in
    if_ok _ (λ l. IsLeast (FailsInElse text rets looped s (els_of c.args.e.now)) l.fault) c.choice.result (λ l e. subst (λ f. IsLeast (FailsInElse text rets looped s (els_of c.args.e.now)) f) (sym e) whole) c.choice.ensures.fault

-- by hand, since `search` enters no more than 128 records
pub check_stmt-returns-in_ok-rest-in-If-clause-statements : goal.check_stmt-returns-in_ok-rest-in-If-clause-statements
check_stmt-returns-in_ok-rest-in-If-clause-statements t c =
    let text = c.args.text.now in
    let rets = returns_view c.args.returns.now in
    let looped = c.args.looped in
    let s = scope_of c.args.scope.now in
    let g = guard_of c.in-If.guard in
    let h = header text s g.init in
    let ms = stms_of c.in-If.body.items in
    let inner = closed (behind_all text (opened h) ms) in
    let later = els_of c.in-If.rest in
    let head = c.in_ok-head-in-If.head in
    let body = c.in_ok-body-in-If.body in
    let rest = c.in_ok-rest-in-If.rest in
    let B = option_map (λ v. sts_of v.items) body.statements in
    let R = option_map (λ v. sts_of v.items) rest.statements in
    let shape : stm_of c.args.s.now ≡ if_stmt c.in-If.pos g ms later = grind (arith, stmt_rows) in
    let h_is : scope_of c.check_guard.new.scope ≡ h = c.in_ok-head-in-If.ensures.scope in
    let b : B ≡ statements text rets looped (opened h) ms =
    subst (λ (v : Scope). B ≡ statements text rets looped (opened v) ms) h_is
    (subst (λ (l : List Stmt). B ≡ statements text rets looped (opened (scope_of c.check_guard.new.scope)) (stms_of l)) c.deref-in-If.ensures.value c.in_ok-body-in-If.ensures.statements) in
    let scope : scope_of c.check_inner-in-If.new.scope ≡ inner =
    c.in_ok-body-in-If.ensures.scope ∙ ap (λ (l : List Stmt). closed (behind_all text (opened (scope_of c.check_guard.new.scope)) (stms_of l))) c.deref-in-If.ensures.value
    ∙ ap (λ (v : Scope). closed (behind_all text (opened v) ms)) h_is in
    let r : R ≡ alternative text rets looped inner later = subst (λ (v : Scope). R ≡ alternative text rets looped v later) scope c.in_ok-rest-in-If.ensures.statements in
    let G = guard_head text s g in
    let given : option_map alone (choice_of (option_map choice_view head.choice) B R) ≡ statement text rets looped s (if_stmt c.in-If.pos g ms later) =
    ap (λ o. option_map alone (choice_of o B R)) c.in_ok-head-in-If.ensures.choice ∙ ap (λ o. option_map alone (choice_of G o R)) b
    ∙ ap (λ o. option_map alone (choice_of G (statements text rets looped (opened h) ms) o)) r in
    let whole : option_map alone (choice_of (option_map choice_view head.choice) B R) ≡ statement text rets looped s (stm_of c.args.s.now) =
    subst (λ (x : Stm). option_map alone (choice_of (option_map choice_view head.choice) B R) ≡ statement text rets looped s x) (sym shape) given in
    if_ok _ (λ l. option_map (λ v. sts_of v.items) l.statements ≡ statement text rets looped s (stm_of c.args.s.now)) c.choice.result (λ l e. e ∙ whole) c.choice.ensures.statements

pub check_stmt-returns-in_ok-rest-in-If-clause-fault : goal.check_stmt-returns-in_ok-rest-in-If-clause-fault
check_stmt-returns-in_ok-rest-in-If-clause-fault t c =
    let text = c.args.text.now in
    let rets = returns_view c.args.returns.now in
    let looped = c.args.looped in
    let s = scope_of c.args.scope.now in
    let at = c.in-If.pos in
    let g = guard_of c.in-If.guard in
    let h = header text s g.init in
    let ms = stms_of c.in-If.body.items in
    let inner = closed (behind_all text (opened h) ms) in
    let later = els_of c.in-If.rest in
    let head = c.in_ok-head-in-If.head in
    let body = c.in_ok-body-in-If.body in
    let rest = c.in_ok-rest-in-If.rest in
    let shape : stm_of c.args.s.now ≡ if_stmt at g ms later = grind (arith, stmt_rows) in
    let h_is : scope_of c.check_guard.new.scope ≡ h = c.in_ok-head-in-If.ensures.scope in
    let b : IsLeast (FailsInStatements text rets looped (opened h) ms) body.fault =
    subst (λ (v : Scope). IsLeast (FailsInStatements text rets looped (opened v) ms) body.fault) h_is
    (subst (λ (l : List Stmt). IsLeast (FailsInStatements text rets looped (opened (scope_of c.check_guard.new.scope)) (stms_of l)) body.fault) c.deref-in-If.ensures.value c.in_ok-body-in-If.ensures.fault) in
    let scope : scope_of c.check_inner-in-If.new.scope ≡ inner =
    c.in_ok-body-in-If.ensures.scope ∙ ap (λ (l : List Stmt). closed (behind_all text (opened (scope_of c.check_guard.new.scope)) (stms_of l))) c.deref-in-If.ensures.value
    ∙ ap (λ (v : Scope). closed (behind_all text (opened v) ms)) h_is in
    let r : IsLeast (FailsInElse text rets looped inner later) rest.fault = subst (λ (v : Scope). IsLeast (FailsInElse text rets looped v later) rest.fault) scope c.in_ok-rest-in-If.ensures.fault in
    let whole : IsLeast (FailsInStatement text rets looped s (stm_of c.args.s.now)) (lesser (lesser head.fault body.fault) rest.fault) =
    subst (λ (x : Stm). IsLeast (FailsInStatement text rets looped s x) (lesser (lesser head.fault body.fault) rest.fault)) (sym shape)
    (choice_least text rets looped s at g ms later head.fault body.fault rest.fault c.in_ok-head-in-If.ensures.fault b r) in
    if_ok _ (λ l. IsLeast (FailsInStatement text rets looped s (stm_of c.args.s.now)) l.fault) c.choice.result (λ l e. subst (λ f. IsLeast (FailsInStatement text rets looped s (stm_of c.args.s.now)) f) (sym e) whole) c.choice.ensures.fault

pub check_stmt-returns-in-Ok-clause-fault : goal.check_stmt-returns-in-Ok-clause-fault
check_stmt-returns-in-Ok-clause-fault t c =
    let text = c.args.text.now in
    let rets = returns_view c.args.returns.now in
    let looped = c.args.looped in
    let s = scope_of c.args.scope.now in
    let at = c.in-For.pos in
    let clause = clause_of c.in-For.clause in
    let l = looping s clause in
    let h = clause_scope text l clause in
    let ms = stms_of c.in-For.body.items in
    let head = c.in_ok-head-in-For.head in
    let body = c.in-Ok.body in
    let shape : stm_of c.args.s.now ≡ for_stmt at clause ms = grind (arith, stmt_rows) in
    let l_is : with_setting s c.in_ok-in_header-in-For.in_header ≡ l =
    ap (with_setting s) c.in_ok-in_header-in-For.ensures ∙ ap (λ b. with_setting s (in_header b s.setting)) c.carries.ensures in
    let h_is : scope_of c.check_clause.new.scope ≡ h = c.in_ok-head-in-For.ensures.scope ∙ ap (λ (v : Scope). clause_scope text v clause) l_is in
    let begun : with_setting (scope_of c.check_clause.new.scope) c.in_body-in_body.result ≡ with_setting h (in_body h.setting) =
    ap (with_setting (scope_of c.check_clause.new.scope)) c.in_body-in_body.ensures ∙ ap (λ (v : Scope). with_setting v (in_body v.setting)) h_is in
    let a : IsLeast (FailsInClause text l at clause) head.fault = subst (λ (v : Scope). IsLeast (FailsInClause text v at clause) head.fault) l_is c.in_ok-head-in-For.ensures.fault in
    let b : IsLeast (FailsInStatements text rets true (body_opened h) ms) body.fault =
    subst (λ (v : Scope). IsLeast (FailsInStatements text rets true (opened v) ms) body.fault) begun
    (subst (λ (l : List Stmt). IsLeast (FailsInStatements text rets true (opened (with_setting (scope_of c.check_clause.new.scope) c.in_body-in_body.result)) (stms_of l)) body.fault) c.deref-in-For.ensures.value c.in-Ok.ensures.fault) in
    let whole : IsLeast (FailsInStatement text rets looped s (stm_of c.args.s.now)) (lesser head.fault body.fault) =
    subst (λ (x : Stm). IsLeast (FailsInStatement text rets looped s x) (lesser head.fault body.fault)) (sym shape)
    (loop_least text rets looped s at clause ms head.fault body.fault a b) in
    if_ok _ (λ l. IsLeast (FailsInStatement text rets looped s (stm_of c.args.s.now)) l.fault) c.for_clause.result (λ l e. subst (λ f. IsLeast (FailsInStatement text rets looped s (stm_of c.args.s.now)) f) (sym e) whole) c.for_clause.ensures.fault

pub check_else-returns-in-Block-clause-fault : goal.check_else-returns-in-Block-clause-fault
check_else-returns-in-Block-clause-fault t c =
    let text = c.args.text.now in
    let rets = returns_view c.args.returns.now in
    let looped = c.args.looped in
    let s = scope_of c.args.scope.now in
    let shape : els_of c.args.e.now ≡ else_block (stms_of c.in-Block.body.items) = grind (arith, stmt_rows) in
    rw (shape) (subst (λ (l : List Stmt). IfOk c.check_inner.result (λ k. IsLeast (FailsInStatements text rets looped (opened s) (stms_of l)) k.fault)) c.deref.ensures.value c.check_inner.ensures.fault)

pub check_stmt-returns-in_ok-simple-in-Simple-clause-fault : goal.check_stmt-returns-in_ok-simple-in-Simple-clause-fault
check_stmt-returns-in_ok-simple-in-Simple-clause-fault t c =
    let text = c.args.text.now in
    let rets = returns_view c.args.returns.now in
    let looped = c.args.looped in
    let s = scope_of c.args.scope.now in
    let own = c.in_ok-simple-in-Simple.simple.fault in
    let shape : stm_of c.args.s.now ≡ simple (simple_of c.in-Simple.simple) = grind (arith, stmt_rows) in
    let whole : IsLeast (FailsInStatement text rets looped s (stm_of c.args.s.now)) own =
    subst (λ (x : Stm). IsLeast (FailsInStatement text rets looped s x) own) (sym shape) c.in_ok-simple-in-Simple.ensures.fault in
    if_ok _ (λ l. IsLeast (FailsInStatement text rets looped s (stm_of c.args.s.now)) l.fault) c.line.result (λ l e. subst (λ f. IsLeast (FailsInStatement text rets looped s (stm_of c.args.s.now)) f) (sym e) whole) c.line.ensures.fault

pub check_stmt-returns-in_ok-body-in-Block-clause-fault : goal.check_stmt-returns-in_ok-body-in-Block-clause-fault
check_stmt-returns-in_ok-body-in-Block-clause-fault t c =
    let text = c.args.text.now in
    let rets = returns_view c.args.returns.now in
    let looped = c.args.looped in
    let s = scope_of c.args.scope.now in
    let own = c.in_ok-body-in-Block.body.fault in
    let shape : stm_of c.args.s.now ≡ block (stms_of c.in-Block.body.items) = grind (arith, stmt_rows) in
    let whole : IsLeast (FailsInStatement text rets looped s (stm_of c.args.s.now)) own =
    subst (λ (x : Stm). IsLeast (FailsInStatement text rets looped s x) own) (sym shape)
    (subst (λ (l : List Stmt). IsLeast (FailsInStatements text rets looped (opened s) (stms_of l)) own) c.deref.ensures.value c.in_ok-body-in-Block.ensures.fault) in
    if_ok _ (λ l. IsLeast (FailsInStatement text rets looped s (stm_of c.args.s.now)) l.fault) c.as_block.result (λ l e. subst (λ f. IsLeast (FailsInStatement text rets looped s (stm_of c.args.s.now)) f) (sym e) whole) c.as_block.ensures.fault

pub check_stmt-returns-in_ok-given-in-Return-clause-fault : goal.check_stmt-returns-in_ok-given-in-Return-clause-fault
check_stmt-returns-in_ok-given-in-Return-clause-fault t c =
    let text = c.args.text.now in
    let rets = returns_view c.args.returns.now in
    let looped = c.args.looped in
    let s = scope_of c.args.scope.now in
    let own = c.in_ok-given-in-Return.given.fault in
    let shape : stm_of c.args.s.now ≡ return_stmt c.in-Return.pos (exs_of c.in-Return.es.items) = grind (arith, stmt_rows) in
    let whole : IsLeast (FailsInStatement text rets looped s (stm_of c.args.s.now)) own = rw (shape, sym c.deref-in-Return.ensures.value) c.in_ok-given-in-Return.ensures.fault in
    if_ok _ (λ l. IsLeast (FailsInStatement text rets looped s (stm_of c.args.s.now)) l.fault) c.line-in-Return.result (λ l e. subst (λ f. IsLeast (FailsInStatement text rets looped s (stm_of c.args.s.now)) f) (sym e) whole) c.line-in-Return.ensures.fault

pub check_stmt-returns-in-Var-clause-fault : goal.check_stmt-returns-in-Var-clause-fault
check_stmt-returns-in-Var-clause-fault t c =
    let text = c.args.text.now in
    let s = scope_of c.args.scope.now in
    let shape : stm_of c.args.s.now ≡ var_stmt c.in-Var.pos (value_specs_of c.in-Var.specs.items) = grind (arith, stmt_rows) in
    rw (shape) (subst (λ (l : List ValueSpec). IfOk c.check_var.result (λ k. IsLeast (FailsInSpecs text s c.in-Var.pos (value_specs_of l)) k.fault)) c.deref-in-Var.ensures.value c.check_var.ensures.fault)

pub check_stmts-loop-s-preserved : goal.check_stmts-loop-s-preserved
check_stmts-loop-s-preserved t c =
    let text = c.args.text.now in
    let rets = returns_view c.args.returns.now in
    let looped = c.args.looped in
    let start = scope_of c.args.scope.now in
    let all = stms_of c.args.ms.now in
    let s = scope_of c.loop-s.scope in
    let m : Stmt = c.s-item.result in
    let others = stms_of (drop (c.loop-s.s-index + 1) c.args.ms.now) in
    let values = option_map (λ v. v.items) c.loop-s.statements in
    let kept = subst (λ (r : Stms). KeptStatements text rets looped start all r s values c.loop-s.fault) (split c.args.ms.now c.loop-s.s-index m c.loop-s-test.true c.s-item.is) c.loop-s.invariant in
    let found = c.in_ok-lines.ensures in
    rw (found.scope, c.in_ok-statements.ensures, c.lesser-fault.ensures)
    (one_more text rets looped start all (stm_of m) others s values c.in_ok-lines.lines.statements c.loop-s.fault c.in_ok-lines.lines.fault kept found.fault found.statements)

pub check_stmts-returns-clause-statements : goal.check_stmts-returns-clause-statements
check_stmts-returns-clause-statements t c =
    let text = c.args.text.now in
    let rets = returns_view c.args.returns.now in
    let looped = c.args.looped in
    let start = scope_of c.args.scope.now in
    let all = stms_of c.args.ms.now in
    let s = scope_of c.loop-s.scope in
    let values = option_map (λ v. v.items) c.loop-s.statements in
    let none = nothing_left c.args.ms.now c.loop-s.s-index (λ l. absurd (omega (arith, l, c.loop-s-test.false))) in
    given_all text rets looped start all s c.loop-s.statements c.loop-s.fault (subst (λ (r : Stms). KeptStatements text rets looped start all r s values c.loop-s.fault) none c.loop-s.invariant)

pub check_stmts-returns-clause-fault : goal.check_stmts-returns-clause-fault
check_stmts-returns-clause-fault t c =
    let text = c.args.text.now in
    let rets = returns_view c.args.returns.now in
    let looped = c.args.looped in
    let start = scope_of c.args.scope.now in
    let all = stms_of c.args.ms.now in
    let s = scope_of c.loop-s.scope in
    let values = option_map (λ v. v.items) c.loop-s.statements in
    let none = nothing_left c.args.ms.now c.loop-s.s-index (λ l. absurd (omega (arith, l, c.loop-s-test.false))) in
    at_end text rets looped start all s values c.loop-s.fault (subst (λ (r : Stms). KeptStatements text rets looped start all r s values c.loop-s.fault) none c.loop-s.invariant)
