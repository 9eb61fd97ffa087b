-- What a statement keeps of a scope.
use Rattle.std.proofs.Common.{ℕ, List, [], Option, Some, None, refl, sym, arith, append-nil}
use Rattle.base.specs.declared.pos.Pos.{Pos}
use Rattle.base.specs.declared.value_type.ValueType.{ValueType}
use Rattle.syntax.specs.Expressions.{Ex as TreeEx}
use Rattle.syntax.specs.Statements.{Simple, Guard, Targets, Clause, forever, while_true, counting, ranging, Stm, Stms, Els}
use Rattle.syntax.specs.Statements as tree
use Rattle.names.specs.Scope.{Scope, in_header, in_body, with_setting, opened, closed}
use Rattle.expression_types.specs.Typing.{gives}
use Rattle.signatures.proofs.Growth.{Grows, Keeps, grows_none, grows_twice, keeps_twice, keeps_none, keeps_grows, keeps_strings, keeps_set, keeps_back, keeps_inner, grows_entries}
use Rattle.simple_statements.specs.SimpleStatements.{strings_in}
use Rattle.simple_statements.proofs.Growth.{grows_simple, grows_specs}
use Rattle.types_go.specs.Ranges.{target_slots, copied, behind_copy, ranged, given, target_count, behind_targets, behind_range}
use Rattle.types_go.specs.Statements.{carries, looping, body_opened, behind_loop, header, behind_post_simple, behind_post, clause_scope, behind, behind_else, behind_all}

-- the site of a copy
pub keeps_copy : (s : Scope) (t : Option ValueType) (at : Pos) → Keeps s (behind_copy s t at)
keeps_copy s None at = keeps_none s
keeps_copy s (Some t) at = record { blocks = refl; declared = ([], sym (append-nil s.declared), tt); sites = (_, refl); kept = refl; strings = omega arith; kinds = λ k. k }

module _ (text : List ℕ) where
  pub grows_header : (s : Scope) (init : Option Simple) → Grows (opened s) (header text s init)
  grows_header s None = grows_none (opened s)
  grows_header s (Some m) = grows_simple text (opened s) m

  -- a post statement declares nothing
  keeps_post_simple : (s : Scope) (m : Simple) → Keeps s (behind_post_simple text s m)
  keeps_post_simple s (tree.express e) = keeps_strings s (strings_in (gives text s e))
  keeps_post_simple s (tree.assign ls at es) = keeps_none s
  keeps_post_simple s (tree.update ls at op es) = keeps_none s
  keeps_post_simple s (tree.define ns at es) = keeps_none s
  keeps_post_simple s (tree.increment e at) = keeps_none s
  keeps_post_simple s (tree.decrement e at) = keeps_none s

  pub keeps_post : (s : Scope) (post : Option Simple) → Keeps s (behind_post text s post)
  keeps_post s None = keeps_none s
  keeps_post s (Some m) = keeps_post_simple s m

  pub grows_range : (s : Scope) (t : Targets) (at : Pos) (e : TreeEx) → Grows (opened s) (behind_range text s t at e)
  grows_range s t at e =
      let r = behind_targets text s t e in
      let behind1 = behind_range text s t at e in
      grows_twice (opened s) r behind1 (grows_entries text (opened s) (target_slots (given text s e) t)) (keeps_grows r behind1 (keeps_copy r (copied (ranged text s e) (target_count text (opened s) t)) at))

  pub grows_clause : (s : Scope) (c : Clause) → Grows (opened s) (clause_scope text s c)
  grows_clause s forever = grows_none (opened s)
  grows_clause s (while_true e) = grows_none (opened s)
  grows_clause s (counting init test post) =
      let h = header text s init in
      grows_twice (opened s) h (behind_post text h post) (grows_header s init) (keeps_grows h (behind_post text h post) (keeps_post h post))
  grows_clause s (ranging t at e) = grows_range s t at e

  -- what is after the header keeps the header's block
  keeps_headed : (s h r : Scope) → Grows (opened s) h → Keeps h r → Keeps s (closed r)
  keeps_headed s h r g k = keeps_inner s r (grows_twice (opened s) h r g (keeps_grows h r k))

  -- a loop, whose body grows what it begins with
  loop_kept : (s : Scope) (c : Clause) (body : Stms) → Grows (body_opened (clause_scope text (looping s c) c)) (behind_all text (body_opened (clause_scope text (looping s c) c)) body)
      → Keeps s (behind_loop s (closed (closed (behind_all text (body_opened (clause_scope text (looping s c) c)) body))))
  loop_kept s c body g =
      let l = looping s c in
      let h = clause_scope text l c in
      let b = with_setting h (in_body h.setting) in
      let inner = closed (behind_all text (opened b) body) in
      let after = keeps_headed l h inner (grows_clause l c) (keeps_twice h b inner (keeps_set h (in_body h.setting) (λ k. k)) (keeps_inner b (behind_all text (opened b) body) g)) in
      keeps_back s (closed inner) (keeps_twice s l (closed inner) (keeps_set s (in_header (carries c) s.setting) (λ k. k)) after)

  mutual
    pub grows : (s : Scope) (m : Stm) → Grows s (behind text s m)
    grows s (tree.var_stmt at specs) = grows_specs text s specs
    grows s (tree.simple m) = grows_simple text s m
    grows s (tree.block ms) = keeps_grows s (closed (behind_all text (opened s) ms)) (keeps_inner s (behind_all text (opened s) ms) (grows_all (opened s) ms))
    grows s (tree.if_stmt at g body rest) =
        let h = header text s g.init in
        let inner = closed (behind_all text (opened h) body) in
        let last1 = behind_else text inner rest in
        keeps_grows s (closed last1) (keeps_headed s h last1 (grows_header s g.init) (keeps_twice h inner last1 (keeps_inner h (behind_all text (opened h) body) (grows_all (opened h) body)) (keeps_else inner rest)))
    grows s (tree.for_stmt at c body) =
        let inner = body_opened (clause_scope text (looping s c) c) in
        keeps_grows s (behind_loop s (closed (closed (behind_all text inner body)))) (loop_kept s c body (grows_all inner body))
    grows s (tree.break_stmt at) = grows_none s
    grows s (tree.continue_stmt at) = grows_none s
    grows s (tree.return_stmt at es) = grows_none s

    pub keeps_else : (s : Scope) (r : Els) → Keeps s (behind_else text s r)
    keeps_else s tree.no_else = keeps_none s
    keeps_else s (tree.else_block ms) = keeps_inner s (behind_all text (opened s) ms) (grows_all (opened s) ms)
    keeps_else s (tree.else_if at g body rest) =
        let h = header text s g.init in
        let inner = closed (behind_all text (opened h) body) in
        let last1 = behind_else text inner rest in
        keeps_headed s h last1 (grows_header s g.init) (keeps_twice h inner last1 (keeps_inner h (behind_all text (opened h) body) (grows_all (opened h) body)) (keeps_else inner rest))

    pub grows_all : (s : Scope) (ms : Stms) → Grows s (behind_all text s ms)
    grows_all s tree.nil = grows_none s
    grows_all s (tree.cons m ms) = grows_twice s (behind text s m) (behind_all text (behind text s m) ms) (grows s m) (grows_all (behind text s m) ms)

  pub keeps_block : (s : Scope) (ms : Stms) → Keeps s (closed (behind_all text (opened s) ms))
  keeps_block s ms = keeps_inner s (behind_all text (opened s) ms) (grows_all (opened s) ms)

  -- after an `if` without its last branch, and after it all
  pub keeps_choice : (s : Scope) (g : Guard) (body : Stms) (rest : Els) → Keeps s (closed (behind_else text (closed (behind_all text (opened (header text s g.init)) body)) rest))
  keeps_choice s g body rest =
      let h = header text s g.init in
      let inner = closed (behind_all text (opened h) body) in
      let last1 = behind_else text inner rest in
      keeps_headed s h last1 (grows_header s g.init) (keeps_twice h inner last1 (keeps_block h body) (keeps_else inner rest))

  pub keeps_loop : (s : Scope) (c : Clause) (body : Stms) → Keeps s (behind_loop s (closed (closed (behind_all text (body_opened (clause_scope text (looping s c) c)) body))))
  keeps_loop s c body = loop_kept s c body (grows_all (body_opened (clause_scope text (looping s c) c)) body)

  -- its body with the block around it
  pub keeps_loop_body : (h : Scope) (body : Stms) → Keeps h (closed (behind_all text (body_opened h) body))
  keeps_loop_body h body =
      let b = with_setting h (in_body h.setting) in keeps_twice h b (closed (behind_all text (opened b) body)) (keeps_set h (in_body h.setting) (λ k. k)) (keeps_block b body)
