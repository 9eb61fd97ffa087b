-- Where every variable has a type and every function a signature, a statement has its typed forms, or a rule fails in it, and never both.
use Rattle.std.proofs.Common.{◌≡◌, ℕ, Bool, true, false, List, ◌⊎◌, inl, inr, Option, Some, None, refl}
use Rattle.std.specs.Prelude.{option_and_then, not}
use Rattle.std.specs.Option.{option_map}
use Rattle.syntax.specs.Statements.{Clause, Stm, Stms, Els}
use Rattle.syntax.specs.Statements as tree
use Rattle.typed_syntax.specs.Syntax.{St, Sts, block, break_stmt, continue_stmt}
use Rattle.type_faults.specs.declared.fault.Fault.{Fault}
use Rattle.type_faults.specs.declared.fault.FaultKind.TheVariants.{BreakOutside}
use Rattle.type_faults.specs.Given.{allowed}
use Rattle.type_faults.specs.Faults.{fault, IsFault}
use Rattle.type_faults.proofs.Decided.{Decided, further, mapped, after}
use Rattle.type_faults.proofs.Options.{and_then_some, map_some}
use Rattle.names.specs.Scope.{Scope, in_header, in_body, with_setting, opened, closed}
use Rattle.names.proofs.Settled.{IsSettled}
use Rattle.expression_types.specs.Typing.{seen}
use Rattle.expression_types.specs.Faults.{FailsInEach}
use Rattle.expression_types.proofs.Settled.{seen_decided}
use Rattle.given_values.proofs.Places.{AllAsk}
use Rattle.signatures.specs.Failing.{fault_where}
use Rattle.signatures.proofs.SettledEntries.{settled_set, settled_opened, settled_closed}
use Rattle.simple_statements.specs.SimpleStatements.{Returns, before, returned, simple_statement}
use Rattle.simple_statements.specs.SimpleFaults.{ReturnFails, FailsInSimple}
use Rattle.simple_statements.proofs.SettledSimple.{return_decided, simple_decided, settled_simple}
use Rattle.simple_statements.proofs.SettledVariables.{specs_decided, settled_specs}
use Rattle.types_go.specs.Statements.{Choice, Head, alone, chosen, for_of, choice_of, loop_of, carries, looping, body_opened, behind_loop, header, guard_head, clause_scope, clause_head, behind, behind_else, behind_all, statement, alternative, statements}
use Rattle.types_go.specs.StatementFaults.{FailsInClause, FailsInGuard, FailsInStatement, FailsInElse, FailsInStatements}
use Rattle.types_go.proofs.SettledHeads.{guard_decided, settled_guard, clause_decided, settled_clause}

choice_decided : (h : Option Choice) (a b : Option Sts) (P Q R : Fault → Type 0) → Decided h P → ((c : Choice) → h ≡ Some c → Decided a Q) → ((c : Choice) (y : Sts) → h ≡ Some c → a ≡ Some y → Decided b R)
    → Decided (choice_of h a b) (λ f. (P f ⊎ Q f) ⊎ R f)
choice_decided None a b P Q R p q r = (p.0, inl (inl p.1))
choice_decided (Some c) None b P Q R p q r = let f = q c refl in (f.0, inl (inr f.1))
choice_decided (Some c) (Some y) b P Q R p q r = further (λ f. P f ⊎ Q f) R (option_map (chosen c y) b) (λ f h. elim h [ inl u ↦ p f u | inr u ↦ q c refl f u ]) (mapped (chosen c y) b R (r c y refl refl))

jump_decided : (looped : Bool) (b : Sts) (own : Fault) → Decided (allowed looped (Some b)) (IsFault (fault_where (not looped) own))
jump_decided true b own = λ f h. h
jump_decided false b own = (own, refl)

-- ---- what a typed statement is made of

pub choice_some : (h : Option Choice) (a b : Option Sts) (t : St) → choice_of h a b ≡ Some t → (c : Choice) × (y z : Sts) × (h ≡ Some c) × (a ≡ Some y) × (b ≡ Some z) × (chosen c y z ≡ t)
choice_some h a b t is =
    let r = and_then_some (λ c. option_and_then (λ y. option_map (chosen c y) b) a) h t is in
    let q = and_then_some (λ y. option_map (chosen r.0 y) b) a t r.2 in
    let p = map_some (chosen r.0 q.0) b t q.2 in
    (r.0, q.0, p.0, r.1, q.1, p.1, p.2)

pub loop_some : (h : Option Head) (b : Option Sts) (t : St) → loop_of h b ≡ Some t → (c : Head) × (y : Sts) × (h ≡ Some c) × (b ≡ Some y) × (for_of c y ≡ t)
loop_some h b t is =
    let r = and_then_some (λ c. option_map (for_of c) b) h t is in
    let q = map_some (for_of r.0) b t r.2 in
    (r.0, q.0, r.1, q.1, q.2)

-- a loop's body, and its header
settled_body_opened : (h : Scope) → IsSettled h → IsSettled (body_opened h)
settled_body_opened h settled = settled_opened (with_setting h (in_body h.setting)) (settled_set h (in_body h.setting) settled)

settled_looping : (s : Scope) (c : Clause) → IsSettled s → IsSettled (looping s c)
settled_looping s c settled = settled_set s (in_header (carries c) s.setting) settled

module _ (text : List ℕ) (r : Returns) where
  mutual
    -- after a typed statement every variable has a type
    pub settled_behind : (looped : Bool) (s : Scope) (m : Stm) (b : Sts) → IsSettled s → statement text r looped s m ≡ Some b → IsSettled (behind text s m)
    settled_behind looped s (tree.var_stmt at specs) b settled is = settled_specs text s specs b settled is
    settled_behind looped s (tree.simple m) b settled is = let q = map_some alone (simple_statement text s m) b is in settled_simple text s m q.0 settled q.1
    settled_behind looped s (tree.block ms) b settled is =
        let q = map_some (λ x. alone (block x)) (statements text r looped (opened s) ms) b is in settled_closed (behind_all text (opened s) ms) (settled_all looped (opened s) ms q.0 (settled_opened s settled) q.1)
    settled_behind looped s (tree.if_stmt at g body rest) b settled is =
        let h = header text s g.init in
        let inner = closed (behind_all text (opened h) body) in
        let u = map_some alone (choice_of (guard_head text s g) (statements text r looped (opened h) body) (alternative text r looped inner rest)) b is in
        let q = choice_some (guard_head text s g) (statements text r looped (opened h) body) (alternative text r looped inner rest) u.0 u.1 in
        let inside = settled_guard text s g q.0 settled q.3 in
        settled_closed (behind_else text inner rest) (settled_else looped inner rest q.2 (settled_closed (behind_all text (opened h) body) (settled_all looped (opened h) body q.1 (settled_opened h inside) q.4)) q.5)
    settled_behind looped s (tree.for_stmt at c body) b settled is =
        let l = looping s c in
        let h = clause_scope text l c in
        let u = map_some alone (loop_of (clause_head text l c) (statements text r true (body_opened h) body)) b is in
        let q = loop_some (clause_head text l c) (statements text r true (body_opened h) body) u.0 u.1 in
        let inside = settled_clause text l c q.0 (settled_looping s c settled) q.2 in
        let inner = closed (behind_all text (body_opened h) body) in
        settled_set (closed inner) s.setting (settled_closed inner (settled_closed (behind_all text (body_opened h) body) (settled_all true (body_opened h) body q.1 (settled_body_opened h inside) q.3)))
    settled_behind looped s (tree.break_stmt at) b settled is = settled
    settled_behind looped s (tree.continue_stmt at) b settled is = settled
    settled_behind looped s (tree.return_stmt at es) b settled is = settled

    settled_else : (looped : Bool) (s : Scope) (e : Els) (b : Sts) → IsSettled s → alternative text r looped s e ≡ Some b → IsSettled (behind_else text s e)
    settled_else looped s tree.no_else b settled is = settled
    settled_else looped s (tree.else_block ms) b settled is = settled_closed (behind_all text (opened s) ms) (settled_all looped (opened s) ms b (settled_opened s settled) is)
    settled_else looped s (tree.else_if at g body rest) b settled is =
        let h = header text s g.init in
        let inner = closed (behind_all text (opened h) body) in
        let u = map_some alone (choice_of (guard_head text s g) (statements text r looped (opened h) body) (alternative text r looped inner rest)) b is in
        let q = choice_some (guard_head text s g) (statements text r looped (opened h) body) (alternative text r looped inner rest) u.0 u.1 in
        let inside = settled_guard text s g q.0 settled q.3 in
        settled_closed (behind_else text inner rest) (settled_else looped inner rest q.2 (settled_closed (behind_all text (opened h) body) (settled_all looped (opened h) body q.1 (settled_opened h inside) q.4)) q.5)

    pub settled_all : (looped : Bool) (s : Scope) (ms : Stms) (b : Sts) → IsSettled s → statements text r looped s ms ≡ Some b → IsSettled (behind_all text s ms)
    settled_all looped s tree.nil b settled is = settled
    settled_all looped s (tree.cons m ms) b settled is =
        let q = and_then_some (λ t. option_map (before t) (statements text r looped (behind text s m) ms)) (statement text r looped s m) b is in
        let p = map_some (before q.0) (statements text r looped (behind text s m) ms) b q.2 in
        settled_all looped (behind text s m) ms p.0 (settled_behind looped s m q.0 settled q.1) p.1

  settled_inner : (looped : Bool) (s : Scope) (ms : Stms) (b : Sts) → IsSettled s → statements text r looped (opened s) ms ≡ Some b → IsSettled (closed (behind_all text (opened s) ms))
  settled_inner looped s ms b settled is = settled_closed (behind_all text (opened s) ms) (settled_all looped (opened s) ms b (settled_opened s settled) is)

  -- where the types of the results are known
  module _ (asks : AllAsk r.wanted) where
    mutual
      pub statement_decided : (looped : Bool) (s : Scope) (m : Stm) → IsSettled s → Decided (statement text r looped s m) (FailsInStatement text r looped s m)
      statement_decided looped s (tree.var_stmt at specs) settled = specs_decided text s at specs settled
      statement_decided looped s (tree.simple m) settled = mapped alone (simple_statement text s m) (FailsInSimple text s m) (simple_decided text s m settled)
      statement_decided looped s (tree.block ms) settled =
          mapped (λ x. alone (block x)) (statements text r looped (opened s) ms) (FailsInStatements text r looped (opened s) ms) (statements_decided looped (opened s) ms (settled_opened s settled))
      statement_decided looped s (tree.if_stmt at g body rest) settled =
          let h = header text s g.init in
          let inner = closed (behind_all text (opened h) body) in
          mapped alone (choice_of (guard_head text s g) (statements text r looped (opened h) body) (alternative text r looped inner rest)) _
          (choice_decided (guard_head text s g) (statements text r looped (opened h) body) (alternative text r looped inner rest) (FailsInGuard text s at g) (FailsInStatements text r looped (opened h) body) (FailsInElse text r looped inner rest)
          (guard_decided text s at g settled) (λ c is. statements_decided looped (opened h) body (settled_opened h (settled_guard text s g c settled is)))
          (λ c y is y_is. else_decided looped inner rest (settled_inner looped h body y (settled_guard text s g c settled is) y_is)))
      statement_decided looped s (tree.for_stmt at c body) settled =
          let l = looping s c in
          let h = clause_scope text l c in
          let inside = settled_looping s c settled in
          mapped alone (loop_of (clause_head text l c) (statements text r true (body_opened h) body)) _
          (after (clause_head text l c) (λ k. option_map (for_of k) (statements text r true (body_opened h) body)) (FailsInClause text l at c) (FailsInStatements text r true (body_opened h) body) (clause_decided text l at c inside)
          (λ k is. mapped (for_of k) (statements text r true (body_opened h) body) (FailsInStatements text r true (body_opened h) body) (statements_decided true (body_opened h) body (settled_body_opened h (settled_clause text l c k inside is)))))
      statement_decided looped s (tree.break_stmt at) settled = jump_decided looped (alone break_stmt) (fault BreakOutside at)
      statement_decided looped s (tree.continue_stmt at) settled = jump_decided looped (alone continue_stmt) (fault BreakOutside at)
      statement_decided looped s (tree.return_stmt at es) settled =
          mapped alone (returned r (seen text s es)) (λ f. FailsInEach text s es f ⊎ ReturnFails at r (seen text s es) f) (return_decided at r (seen text s es) (FailsInEach text s es) asks (seen_decided text s settled es))

      else_decided : (looped : Bool) (s : Scope) (e : Els) → IsSettled s → Decided (alternative text r looped s e) (FailsInElse text r looped s e)
      else_decided looped s tree.no_else settled = λ f h. h
      else_decided looped s (tree.else_block ms) settled = statements_decided looped (opened s) ms (settled_opened s settled)
      else_decided looped s (tree.else_if at g body rest) settled =
          let h = header text s g.init in
          let inner = closed (behind_all text (opened h) body) in
          mapped alone (choice_of (guard_head text s g) (statements text r looped (opened h) body) (alternative text r looped inner rest)) _
          (choice_decided (guard_head text s g) (statements text r looped (opened h) body) (alternative text r looped inner rest) (FailsInGuard text s at g) (FailsInStatements text r looped (opened h) body) (FailsInElse text r looped inner rest)
          (guard_decided text s at g settled) (λ c is. statements_decided looped (opened h) body (settled_opened h (settled_guard text s g c settled is)))
          (λ c y is y_is. else_decided looped inner rest (settled_inner looped h body y (settled_guard text s g c settled is) y_is)))

      pub statements_decided : (looped : Bool) (s : Scope) (ms : Stms) → IsSettled s → Decided (statements text r looped s ms) (FailsInStatements text r looped s ms)
      statements_decided looped s tree.nil settled = λ f h. h
      statements_decided looped s (tree.cons m ms) settled =
          after (statement text r looped s m) (λ t. option_map (before t) (statements text r looped (behind text s m) ms)) (FailsInStatement text r looped s m) (FailsInStatements text r looped (behind text s m) ms)
          (statement_decided looped s m settled)
          (λ t is. mapped (before t) (statements text r looped (behind text s m) ms) (FailsInStatements text r looped (behind text s m) ms) (statements_decided looped (behind text s m) ms (settled_behind looped s m t settled is)))
