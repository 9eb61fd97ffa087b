-- Where every variable has a type and every function a signature, a header has a typed form, or a rule fails in it, and never both.
use Rattle.std.proofs.Common.{◌≡◌, ℕ, List, ◌⊎◌, inl, inr, Option, Some, None, refl}
use Rattle.std.specs.Prelude.{option_and_then}
use Rattle.std.specs.Option.{option_map}
use Rattle.base.specs.declared.pos.Pos.{Pos}
use Rattle.syntax.specs.Statements.{Simple, Guard, Clause, forever, while_true, counting, ranging}
use Rattle.syntax.specs.Statements as tree
use Rattle.typed_syntax.specs.Syntax.{Ex, St, Sts, done}
use Rattle.type_faults.specs.declared.fault.Fault.{Fault}
use Rattle.type_faults.specs.declared.fault.FaultKind.TheVariants.{OutOfProfile}
use Rattle.type_faults.specs.Faults.{fault}
use Rattle.type_faults.proofs.Decided.{Decided, further, mapped, after}
use Rattle.type_faults.proofs.Options.{and_then_some, map_some}
use Rattle.names.specs.Scope.{Scope, opened}
use Rattle.names.proofs.Settled.{IsSettled}
use Rattle.expression_types.specs.Typing.{condition, test}
use Rattle.expression_types.specs.Faults.{FailsInCondition, FailsInTest}
use Rattle.expression_types.proofs.Settled.{condition_decided, test_decided}
use Rattle.signatures.proofs.SettledEntries.{settled_opened}
use Rattle.simple_statements.specs.SimpleStatements.{simple_statement}
use Rattle.simple_statements.specs.SimpleFaults.{names_place}
use Rattle.simple_statements.proofs.SettledSimple.{simple_decided, settled_simple}
use Rattle.types_go.specs.Ranges.{range_in}
use Rattle.types_go.specs.RangeFaults.{FailsInRange}
use Rattle.types_go.specs.Statements.{Choice, Head, for_clause, range_clause, alone, choice_head, loop_head, header, init_statement, post_simple, post_statement, behind_post_simple, behind_post, guard_head, clause_scope, clause_head}
use Rattle.types_go.specs.StatementFaults.{FailsInInit, PostFails, FailsInPost, FailsInClause, FailsInGuard}
use Rattle.types_go.proofs.SettledRanges.{range_decided, settled_range}

-- ---- of their parts

choice_head_decided : (i : Option (Option St)) (c : Option Ex) (P Q : Fault → Type 0) → Decided i P → ((h : Option St) → i ≡ Some h → Decided c Q) → Decided (choice_head i c) (λ f. P f ⊎ Q f)
choice_head_decided i c P Q p q = after i (λ h. option_map (λ x. record { init = h; condition = x }) c) P Q p (λ h is. mapped (λ x. record { init = h; condition = x }) c Q (q h is))

loop_head_decided : (i : Option (Option St)) (c : Option (Option Ex)) (o : Option Sts) (P Q R : Fault → Type 0) → Decided i P → ((h : Option St) → i ≡ Some h → Decided c Q) → ((h : Option St) → i ≡ Some h → Decided o R)
    → Decided (loop_head i c o) (λ f. (P f ⊎ Q f) ⊎ R f)
loop_head_decided None c o P Q R p q r = (p.0, inl (inl p.1))
loop_head_decided (Some h) None o P Q R p q r = let f = q h refl in (f.0, inl (inr f.1))
loop_head_decided (Some h) (Some x) o P Q R p q r = further (λ f. P f ⊎ Q f) R (option_map (for_clause h x) o) (λ f k. elim k [ inl u ↦ p f u | inr u ↦ q h refl f u ]) (mapped (for_clause h x) o R (r h refl))

while_decided : (c : Option Ex) (P : Fault → Type 0) → Decided c P → Decided (loop_head (Some None) (option_map Some c) (Some done)) P
while_decided None P p = p
while_decided (Some x) P p = p

module _ (text : List ℕ) where
  -- ---- headers

  init_decided : (s : Scope) (init : Option Simple) → IsSettled s → Decided (init_statement text s init) (FailsInInit text s init)
  init_decided s None settled = λ f h. h
  init_decided s (Some m) settled = mapped Some (simple_statement text (opened s) m) (FailsInInit text s (Some m)) (simple_decided text (opened s) m (settled_opened s settled))

  settled_header : (s : Scope) (init : Option Simple) (h : Option St) → IsSettled s → init_statement text s init ≡ Some h → IsSettled (header text s init)
  settled_header s None h settled is = settled_opened s settled
  settled_header s (Some m) h settled is =
      let q = map_some Some (simple_statement text (opened s) m) h is in settled_simple text (opened s) m q.0 (settled_opened s settled) q.1

  post_decided : (s : Scope) (m : Simple) → IsSettled s → Decided (post_simple text s m) (PostFails text s m)
  post_decided s (tree.express e) settled = simple_decided text s (tree.express e) settled
  post_decided s (tree.assign ls at es) settled = simple_decided text s (tree.assign ls at es) settled
  post_decided s (tree.update ls at tree_op es) settled = simple_decided text s (tree.update ls at tree_op es) settled
  post_decided s (tree.define ns at es) settled = (fault OutOfProfile (names_place ns at), refl)
  post_decided s (tree.increment e at) settled = simple_decided text s (tree.increment e at) settled
  post_decided s (tree.decrement e at) settled = simple_decided text s (tree.decrement e at) settled

  post_statement_decided : (s : Scope) (post : Option Simple) → IsSettled s → Decided (post_statement text s post) (FailsInPost text s post)
  post_statement_decided s None settled = λ f h. h
  post_statement_decided s (Some m) settled = mapped alone (post_simple text s m) (PostFails text s m) (post_decided s m settled)

  pub guard_decided : (s : Scope) (at : Pos) (g : Guard) → IsSettled s → Decided (guard_head text s g) (FailsInGuard text s at g)
  guard_decided s at g settled =
      choice_head_decided (init_statement text s g.init) (condition text (header text s g.init) g.condition) (FailsInInit text s g.init) (FailsInCondition text (header text s g.init) at g.condition) (init_decided s g.init settled)
      (λ h is. condition_decided text (header text s g.init) (settled_header s g.init h settled is) at g.condition)

  pub settled_guard : (s : Scope) (g : Guard) (c : Choice) → IsSettled s → guard_head text s g ≡ Some c → IsSettled (header text s g.init)
  settled_guard s g c settled is =
      let r = and_then_some (λ h. option_map (λ x. record { init = h; condition = x }) (condition text (header text s g.init) g.condition)) (init_statement text s g.init) c is in
      settled_header s g.init r.0 settled r.1

  pub clause_decided : (s : Scope) (at : Pos) (c : Clause) → IsSettled s → Decided (clause_head text s c) (FailsInClause text s at c)
  clause_decided s at forever settled = λ f h. h
  clause_decided s at (while_true e) settled = while_decided (condition text (opened s) e) (FailsInCondition text (opened s) at e) (condition_decided text (opened s) (settled_opened s settled) at e)
  clause_decided s at (counting init test1 post) settled =
      loop_head_decided (init_statement text s init) (test text (header text s init) test1) (post_statement text (header text s init) post) (FailsInInit text s init) (FailsInTest text (header text s init) at test1)
      (FailsInPost text (header text s init) post) (init_decided s init settled) (λ h is. test_decided text (header text s init) (settled_header s init h settled is) at test1)
      (λ h is. post_statement_decided (header text s init) post (settled_header s init h settled is))
  clause_decided s at (ranging t place e) settled = mapped range_clause (range_in text s t e) (FailsInRange text s at t e) (range_decided text s at t e settled)

  settled_post_simple : (s : Scope) (m : Simple) → IsSettled s → IsSettled (behind_post_simple text s m)
  settled_post_simple s (tree.express e) settled = record { all = settled.all; formed = settled.formed }
  settled_post_simple s (tree.assign ls at es) settled = settled
  settled_post_simple s (tree.update ls at tree_op es) settled = settled
  settled_post_simple s (tree.define ns at es) settled = settled
  settled_post_simple s (tree.increment e at) settled = settled
  settled_post_simple s (tree.decrement e at) settled = settled

  settled_post : (s : Scope) (post : Option Simple) → IsSettled s → IsSettled (behind_post text s post)
  settled_post s None settled = settled
  settled_post s (Some m) settled = settled_post_simple s m settled

  pub settled_clause : (s : Scope) (c : Clause) (h : Head) → IsSettled s → clause_head text s c ≡ Some h → IsSettled (clause_scope text s c)
  settled_clause s forever h settled is = settled_opened s settled
  settled_clause s (while_true e) h settled is = settled_opened s settled
  settled_clause s (counting init test1 post) h settled is =
      let r = and_then_some (λ i. option_and_then (λ x. option_map (for_clause i x) (post_statement text (header text s init) post)) (test text (header text s init) test1)) (init_statement text s init) h is in
      settled_post (header text s init) post (settled_header s init r.0 settled r.1)
  settled_clause s (ranging t at e) h settled is = let q = map_some range_clause (range_in text s t e) h is in settled_range text s t at e q.0 settled q.1
