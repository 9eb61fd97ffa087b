-- A terminal where a statement may begin divides the texts by it from the left.
use Rattle.std.proofs.Common.{◌≡◌, ℕ, suc, true, List, [], ◌∷◌, inl, inr, refl, sym, ap, subst}
use Rattle.base.specs.declared.pos.Pos.{Pos}
use Rattle.syntax.specs.Expressions.{none}
use Rattle.syntax.specs.Statements.{Simple, Stm, var_stmt, simple, block, if_stmt, for_stmt, break_stmt, continue_stmt, return_stmt, Stms, nil, cons}
use Rattle.syntax.specs.Lists.{joined, one}
use Rattle.parse_expressions.specs.declared.terminal.Terminal.{Terminal}
use Rattle.parse_expressions.specs.declared.terminal.Terminal.TheVariants.{Var, If, For, Break, Continue, Return, Semicolon, LeftBrace, RightBrace}
use Rattle.parse_expressions.specs.Grammar.{Mark, inside}
use Rattle.parse_expressions.specs.Machine as expression
use Rattle.parse_expressions.specs.Machine.{at_operand, operand}
use Rattle.parse_expressions.proofs.Following.{Iff}
use Rattle.parse_simple_statements.specs.Grammar.{of_variables, ReadsSimple}
use Rattle.parse_statements.specs.Grammar.{ReadsGuard, ReadsClause, IsStm, is_var, is_simple, is_break, is_continue, is_return, is_return_of, is_if, is_for, is_block, IsBody, close, empty, last, next}
use Rattle.parse_simple_statements.specs.Simples.{beginning}
use Rattle.parse_statements.specs.Outer.{in_block, brace_depth, Blocks, statement_depth, with_statement, within}
use Rattle.parse_statements.specs.Bodies.{in_body, at_statement, at_return, context_of, step, nesting_at_stop}
use Rattle.parse_simple_statements.proofs.Marks.{iff_trans}
use Rattle.parse_simple_statements.proofs.ValueSpecsFollowing as value_specs
use Rattle.parse_simple_statements.proofs.SimplesBegins.{begins}
use Rattle.parse_statements.proofs.BodiesFollowing.{Tail, brace, semi, Up, BehindStm, InBody, BehindIf, BehindFor, BehindSimple, BehindRange, Declared, Rest, After}
use Rattle.parse_statements.proofs.BodiesEnds.{closes_block, joined_none}
use Rattle.parse_statements.proofs.BodiesSimples.{InSimple, begins_step, begins_other}

joined_assoc : (a b c : Stms) → joined (joined a b) c ≡ joined a (joined b c)
joined_assoc nil b c = refl
joined_assoc (cons s a) b c = ap (cons s) (joined_assoc a b c)

-- a statement, and what may follow it
pub record OneStm (K : Stms → Pos → List Mark → Type 0) (b : Blocks) (w : List Mark) : Type 0 where
  pub whole : Stm
  pub rest : List Mark
  pub reads : IsStm (statement_depth b) whole w rest
  pub follows : BehindStm K (with_statement b whole) rest

-- a terminal that begins a statement which is not simple
abbrev NoWord : Terminal → Type 0
NoWord (Var q) = ⊥
NoWord (If q) = ⊥
NoWord (For q) = ⊥
NoWord (Break q) = ⊥
NoWord (Continue q) = ⊥
NoWord (Return q) = ⊥
NoWord (LeftBrace q) = ⊥
NoWord t = Unit {0}

module _ (K : Stms → Pos → List Mark → Type 0) (b : Blocks) where
  -- ---- a statement begins, or its block ends

  pub stm_then : (s : Stm) (others : Stms) (q : Pos) (m k : List Mark) → Tail (brace_depth b.outer) others q m k → Up K b.outer (joined b.done (cons s others)) q k → BehindStm K (with_statement b s) m
  stm_then s others q m k t f = record { others = others; end = q; rest = k; reads = t; follows = subst (λ (ss : Stms). Up K b.outer ss q k) (sym (joined_assoc b.done (one s) others)) f }

  body_of : (d : ℕ) (s : Stm) (others : Stms) (q : Pos) (ts m k : List Mark) → IsStm (suc d) s ts m → Tail d others q m k → IsBody d (cons s others) q ts k
  body_of d s _ q ts _ _ r brace = last r
  body_of d s _ q ts _ _ r (semi body) = next r body

  pub to_body : (w : List Mark) → OneStm K b w → InBody K b w
  to_body w h =
      let f = h.follows in
      record { others = cons h.whole f.others; end = f.end; rest = f.rest; reads = body_of (brace_depth b.outer) h.whole f.others f.end w h.rest f.rest h.reads f.reads; follows = subst (λ (ss : Stms). Up K b.outer ss f.end f.rest) (joined_assoc b.done (one h.whole) f.others) f.follows }

  pub stm_begins : (t : Terminal) (j : ℕ) (w : List Mark) → (t ≡ Semicolon → ⊥) → ((q : Pos) → t ≡ RightBrace q → ⊥) → Iff (InBody K b (inside t j ∷ w)) (OneStm K b (inside t j ∷ w))
  stm_begins t j w not_semi not_brace = (λ h. to t j w h.others h.end h.rest not_semi not_brace h.reads h.follows, to_body (inside t j ∷ w))
    where
      to : (x : Terminal) (i : ℕ) (v : List Mark) (ss : Stms) (q : Pos) (k : List Mark) → (x ≡ Semicolon → ⊥) → ((p : Pos) → x ≡ RightBrace p → ⊥) → IsBody (brace_depth b.outer) ss q (inside x i ∷ v) k → Up K b.outer (joined b.done ss) q k → OneStm K b (inside x i ∷ v)
      to _ _ _ _ q k never nor close f = absurd (nor q refl)
      to _ _ v ss q k never nor (empty body) f = absurd (never refl)
      to x i v _ q k never nor (last {s = s} r) f = record { whole = s; rest = inside (RightBrace q) (brace_depth b.outer) ∷ k; reads = r; follows = stm_then s nil q (inside (RightBrace q) (brace_depth b.outer) ∷ k) k brace f }
      to x i v _ q k never nor (next {s = s} {ss = ss} {m = m} r body) f = record { whole = s; rest = inside Semicolon (statement_depth b) ∷ m; reads = r; follows = stm_then s ss q (inside Semicolon (statement_depth b) ∷ m) k (semi body) f }

  -- ---- simple statements

  pub simple_in : (x : Simple) (w m : List Mark) → ReadsSimple true (statement_depth b) x w m → BehindStm K (with_statement b (simple x)) m → InSimple K b in_body beginning w
  simple_in x w m r f = (begins (context_of b in_body) (BehindSimple K b in_body) (BehindRange K b in_body) w).0 (inl (record { whole = x; rest = m; allowed = tt; reads = r; follows = f }))

  simple_out : (w : List Mark) → InSimple K b in_body beginning w → OneStm K b w
  simple_out w h = elim ((begins (context_of b in_body) (BehindSimple K b in_body) (BehindRange K b in_body) w).1 h) [
    | inl x ↦ record { whole = simple x.whole; rest = x.rest; reads = is_simple x.reads; follows = x.follows }
    | inr r ↦ absurd (cc (r.may))
  ]

  no_simple : (t : Terminal) (j : ℕ) (w : List Mark) (x : Simple) (m : List Mark) → operand [] t ≡ expression.fails → ReadsSimple true (statement_depth b) x (inside t j ∷ w) m → BehindStm K (with_statement b (simple x)) m → ⊥
  no_simple t j w x m is r f = begins_other K b in_body t j w is (simple_in x (inside t j ∷ w) m r f)

  simple_begins : (t : Terminal) (j : ℕ) (w : List Mark) → NoWord t → Iff (OneStm K b (inside t j ∷ w)) (InSimple K b in_body beginning (inside t j ∷ w))
  simple_begins t j w other = (λ h. to t j w h.whole h.rest other h.reads h.follows, simple_out (inside t j ∷ w))
    where
      to : (x : Terminal) (i : ℕ) (v : List Mark) (s : Stm) (m : List Mark) → NoWord x → IsStm (statement_depth b) s (inside x i ∷ v) m → BehindStm K (with_statement b s) m → InSimple K b in_body beginning (inside x i ∷ v)
      to x i v _ m none_begins (is_simple {s = s} r) f = simple_in s (inside x i ∷ v) m r f
      to _ _ _ _ m none_begins (is_var r) f = absurd none_begins
      to _ _ _ _ _ none_begins is_break f = absurd none_begins
      to _ _ _ _ _ none_begins is_continue f = absurd none_begins
      to _ _ _ _ _ none_begins is_return f = absurd none_begins
      to _ _ _ _ m none_begins (is_return_of r) f = absurd none_begins
      to _ _ _ _ m none_begins (is_if q r body e) f = absurd none_begins
      to _ _ _ _ m none_begins (is_for q r body) f = absurd none_begins
      to _ _ _ _ m none_begins (is_block body) f = absurd none_begins

  -- ---- words

  var_begins : (q : Pos) (j : ℕ) (w : List Mark) → Iff (OneStm K b (inside (Var q) j ∷ w)) ((j ≡ statement_depth b) × value_specs.Declared of_variables (statement_depth b) (Declared K b q) w)
  var_begins q j w = (
    λ h. to j w h.whole h.rest h.reads h.follows,
    λ h. let v = h.1 in subst (λ (i : ℕ). OneStm K b (inside (Var q) i ∷ w)) (sym h.0) (record { whole = var_stmt q v.whole; rest = v.rest; reads = is_var v.reads; follows = v.follows }),
  )
    where
      to : (i : ℕ) (v : List Mark) (s : Stm) (m : List Mark) → IsStm (statement_depth b) s (inside (Var q) i ∷ v) m → BehindStm K (with_statement b s) m → (i ≡ statement_depth b) × value_specs.Declared of_variables (statement_depth b) (Declared K b q) v
      to i v _ m (is_simple {s = s} r) f = absurd (no_simple (Var q) i v s m refl r f)
      to _ _ _ m (is_var {specs = specs} r) f = (refl, record { whole = specs; rest = m; reads = r; follows = f })

  break_begins : (q : Pos) (j : ℕ) (w : List Mark) → Iff (OneStm K b (inside (Break q) j ∷ w)) ((j ≡ statement_depth b) × BehindStm K (with_statement b (break_stmt q)) w)
  break_begins q j w = (
    λ h. to j w h.whole h.rest h.reads h.follows,
    λ h. subst (λ (i : ℕ). OneStm K b (inside (Break q) i ∷ w)) (sym h.0) (record { whole = break_stmt q; rest = w; reads = is_break; follows = h.1 }),
  )
    where
      to : (i : ℕ) (v : List Mark) (s : Stm) (m : List Mark) → IsStm (statement_depth b) s (inside (Break q) i ∷ v) m → BehindStm K (with_statement b s) m → (i ≡ statement_depth b) × BehindStm K (with_statement b (break_stmt q)) v
      to i v _ m (is_simple {s = s} r) f = absurd (no_simple (Break q) i v s m refl r f)
      to _ _ _ _ is_break f = (refl, f)

  continue_begins : (q : Pos) (j : ℕ) (w : List Mark) → Iff (OneStm K b (inside (Continue q) j ∷ w)) ((j ≡ statement_depth b) × BehindStm K (with_statement b (continue_stmt q)) w)
  continue_begins q j w = (
    λ h. to j w h.whole h.rest h.reads h.follows,
    λ h. subst (λ (i : ℕ). OneStm K b (inside (Continue q) i ∷ w)) (sym h.0) (record { whole = continue_stmt q; rest = w; reads = is_continue; follows = h.1 }),
  )
    where
      to : (i : ℕ) (v : List Mark) (s : Stm) (m : List Mark) → IsStm (statement_depth b) s (inside (Continue q) i ∷ v) m → BehindStm K (with_statement b s) m → (i ≡ statement_depth b) × BehindStm K (with_statement b (continue_stmt q)) v
      to i v _ m (is_simple {s = s} r) f = absurd (no_simple (Continue q) i v s m refl r f)
      to _ _ _ _ is_continue f = (refl, f)

  return_begins : (q : Pos) (j : ℕ) (w : List Mark) → Iff (OneStm K b (inside (Return q) j ∷ w)) ((j ≡ statement_depth b) × Rest K (at_return b q) w)
  return_begins q j w = (
    λ h. to j w h.whole h.rest h.reads h.follows,
    λ h. subst (λ (i : ℕ). OneStm K b (inside (Return q) i ∷ w)) (sym h.0) (back h.1),
  )
    where
      to : (i : ℕ) (v : List Mark) (s : Stm) (m : List Mark) → IsStm (statement_depth b) s (inside (Return q) i ∷ v) m → BehindStm K (with_statement b s) m → (i ≡ statement_depth b) × Rest K (at_return b q) v
      to i v _ m (is_simple {s = s} r) f = absurd (no_simple (Return q) i v s m refl r f)
      to _ _ _ _ is_return f = (refl, inl f)
      to _ _ _ m (is_return_of {es = es} r) f = (refl, inr (record { whole = es; rest = m; reads = r; follows = f }))

      back : Rest K (at_return b q) w → OneStm K b (inside (Return q) (statement_depth b) ∷ w)
      back h = elim h [
        | inl f ↦ record { whole = return_stmt q none; rest = w; reads = is_return; follows = f }
        | inr v ↦ record { whole = return_stmt q v.whole; rest = v.rest; reads = is_return_of v.reads; follows = v.follows }
      ]

  if_begins : (pos : Pos) (j : ℕ) (w : List Mark) → Iff (OneStm K b (inside (If pos) j ∷ w)) ((j ≡ statement_depth b) × BehindIf K b [] pos w)
  if_begins pos j w = (
    λ h. to j w h.whole h.rest h.reads h.follows,
    λ h.
        let i = h.1 in
        let o = i.follows in
        let body = o.follows in
        let e = body.follows in
        subst (λ (n : ℕ). OneStm K b (inside (If pos) n ∷ w)) (sym h.0)
        (record { whole = if_stmt pos i.guard body.others e.whole; rest = e.rest; reads = is_if o.pos (subst (λ (ts : List Mark). ReadsGuard (statement_depth b) i.guard w ts) o.mark i.reads) body.reads e.reads; follows = e.follows }),
  )
    where
      to : (i : ℕ) (v : List Mark) (s : Stm) (m : List Mark) → IsStm (statement_depth b) s (inside (If pos) i ∷ v) m → BehindStm K (with_statement b s) m → (i ≡ statement_depth b) × BehindIf K b [] pos v
      to i v _ m (is_simple {s = s} r) f = absurd (no_simple (If pos) i v s m refl r f)
      to _ _ _ m (is_if {g = g} {ss = ss} {end = end} {e = e} {k = k} {n = n} q guard body els) f =
          (refl, record { guard = g; rest = inside (LeftBrace q) (statement_depth b) ∷ k; reads = guard; follows = record { pos = q; rest = k; mark = refl; follows = record { others = ss; end = end; rest = n; reads = body; follows = record { whole = e; rest = m; reads = els; follows = f } } } })

  for_begins : (pos : Pos) (j : ℕ) (w : List Mark) → Iff (OneStm K b (inside (For pos) j ∷ w)) ((j ≡ statement_depth b) × BehindFor K b pos w)
  for_begins pos j w = (
    λ h. to j w h.whole h.rest h.reads h.follows,
    λ h.
        let i = h.1 in
        let o = i.follows in
        let body = o.follows in
        subst (λ (n : ℕ). OneStm K b (inside (For pos) n ∷ w)) (sym h.0)
        (record { whole = for_stmt pos i.clause body.others; rest = body.rest; reads = is_for o.pos (subst (λ (ts : List Mark). ReadsClause (statement_depth b) i.clause w ts) o.mark i.reads) body.reads; follows = body.follows }),
  )
    where
      to : (i : ℕ) (v : List Mark) (s : Stm) (m : List Mark) → IsStm (statement_depth b) s (inside (For pos) i ∷ v) m → BehindStm K (with_statement b s) m → (i ≡ statement_depth b) × BehindFor K b pos v
      to i v _ m (is_simple {s = s} r) f = absurd (no_simple (For pos) i v s m refl r f)
      to _ _ _ m (is_for {c = c} {ss = ss} {end = end} {k = k} q clause body) f =
          (refl, record { clause = c; rest = inside (LeftBrace q) (statement_depth b) ∷ k; reads = clause; follows = record { pos = q; rest = k; mark = refl; follows = record { others = ss; end = end; rest = m; reads = body; follows = f } } })

  block_begins : (q : Pos) (j : ℕ) (w : List Mark) → Iff (OneStm K b (inside (LeftBrace q) j ∷ w)) ((j ≡ statement_depth b) × InBody K (within b (in_block b.done)) w)
  block_begins q j w = (
    λ h. to j w h.whole h.rest h.reads h.follows,
    λ h. let body = h.1 in subst (λ (i : ℕ). OneStm K b (inside (LeftBrace q) i ∷ w)) (sym h.0) (record { whole = block body.others; rest = body.rest; reads = is_block body.reads; follows = body.follows }),
  )
    where
      to : (i : ℕ) (v : List Mark) (s : Stm) (m : List Mark) → IsStm (statement_depth b) s (inside (LeftBrace q) i ∷ v) m → BehindStm K (with_statement b s) m → (i ≡ statement_depth b) × InBody K (within b (in_block b.done)) v
      to i v _ m (is_simple {s = s} r) f = absurd (no_simple (LeftBrace q) i v s m refl r f)
      to _ _ _ m (is_block {ss = ss} {end = end} body) f = (refl, record { others = ss; end = end; rest = m; reads = body; follows = f })

  -- ---- a semicolon or a closing brace

  body_semicolon : (j : ℕ) (w : List Mark) → Iff (InBody K b (inside Semicolon j ∷ w)) ((j ≡ statement_depth b) × InBody K b w)
  body_semicolon j w = (
    λ h. to j w h.others h.end h.rest h.reads h.follows,
    λ h. let body = h.1 in subst (λ (i : ℕ). InBody K b (inside Semicolon i ∷ w)) (sym h.0) (record { others = body.others; end = body.end; rest = body.rest; reads = empty body.reads; follows = body.follows }),
  )
    where
      begins_none : (i : ℕ) (v : List Mark) (s : Stm) (m : List Mark) → IsStm (statement_depth b) s (inside Semicolon i ∷ v) m → BehindStm K (with_statement b s) m → ⊥
      begins_none i v _ m (is_simple {s = s} r) f = no_simple Semicolon i v s m refl r f

      to : (i : ℕ) (v : List Mark) (ss : Stms) (q : Pos) (k : List Mark) → IsBody (brace_depth b.outer) ss q (inside Semicolon i ∷ v) k → Up K b.outer (joined b.done ss) q k → (i ≡ statement_depth b) × InBody K b v
      to _ _ ss q k (empty body) f = (refl, record { others = ss; end = q; rest = k; reads = body; follows = f })
      to i v _ q k (last {s = s} r) f = absurd (begins_none i v s (inside (RightBrace q) (brace_depth b.outer) ∷ k) r (stm_then s nil q (inside (RightBrace q) (brace_depth b.outer) ∷ k) k brace f))
      to i v _ q k (next {s = s} {ss = ss} {m = m} r body) f = absurd (begins_none i v s (inside Semicolon (statement_depth b) ∷ m) r (stm_then s ss q (inside Semicolon (statement_depth b) ∷ m) k (semi body) f))

  body_brace : (p : Pos) (j : ℕ) (w : List Mark) → Iff (InBody K b (inside (RightBrace p) j ∷ w)) ((j ≡ brace_depth b.outer) × Up K b.outer b.done p w)
  body_brace p j w = (
    λ h. to p j w h.others h.end h.rest h.reads h.follows,
    λ h. subst (λ (i : ℕ). InBody K b (inside (RightBrace p) i ∷ w)) (sym h.0) (record { others = nil; end = p; rest = w; reads = close; follows = subst (λ (ss : Stms). Up K b.outer ss p w) (sym (joined_none b.done)) h.1 }),
  )
    where
      begins_none : (x : Pos) (i : ℕ) (v : List Mark) (s : Stm) (m : List Mark) → IsStm (statement_depth b) s (inside (RightBrace x) i ∷ v) m → BehindStm K (with_statement b s) m → ⊥
      begins_none x i v _ m (is_simple {s = s} r) f = no_simple (RightBrace x) i v s m refl r f

      to : (x : Pos) (i : ℕ) (v : List Mark) (ss : Stms) (q : Pos) (k : List Mark) → IsBody (brace_depth b.outer) ss q (inside (RightBrace x) i ∷ v) k → Up K b.outer (joined b.done ss) q k → (i ≡ brace_depth b.outer) × Up K b.outer b.done x v
      to x _ v _ _ _ close f = (refl, subst (λ (ss : Stms). Up K b.outer ss x v) (joined_none b.done) f)
      to x i v _ q k (last {s = s} r) f = absurd (begins_none x i v s (inside (RightBrace q) (brace_depth b.outer) ∷ k) r (stm_then s nil q (inside (RightBrace q) (brace_depth b.outer) ∷ k) k brace f))
      to x i v _ q k (next {s = s} {ss = ss} {m = m} r body) f = absurd (begins_none x i v s (inside Semicolon (statement_depth b) ∷ m) r (stm_then s ss q (inside Semicolon (statement_depth b) ∷ m) k (semi body) f))

  -- ---- the first terminal

  word_step : (t : Terminal) (j : ℕ) (w : List Mark) (C : Type 0) → (t ≡ Semicolon → ⊥) → ((q : Pos) → t ≡ RightBrace q → ⊥) → Iff (OneStm K b (inside t j ∷ w)) C → Iff (InBody K b (inside t j ∷ w)) C
  word_step t j w C not_semi not_brace i = iff_trans _ _ _ (stm_begins t j w not_semi not_brace) i

  pub statement_step : (t : Terminal) (j : ℕ) (w : List Mark) → Iff (Rest K (at_statement b) (inside t j ∷ w)) (After K (step (at_statement b) t) (nesting_at_stop b t) j w)
  statement_step (Var q) j w = word_step (Var q) j w _ (λ is. cc) (λ p is. cc) (var_begins q j w)
  statement_step (If q) j w = word_step (If q) j w _ (λ is. cc) (λ p is. cc) (if_begins q j w)
  statement_step (For q) j w = word_step (For q) j w _ (λ is. cc) (λ p is. cc) (for_begins q j w)
  statement_step (Return q) j w = word_step (Return q) j w _ (λ is. cc) (λ p is. cc) (return_begins q j w)
  statement_step (Break q) j w = word_step (Break q) j w _ (λ is. cc) (λ p is. cc) (break_begins q j w)
  statement_step (Continue q) j w = word_step (Continue q) j w _ (λ is. cc) (λ p is. cc) (continue_begins q j w)
  statement_step (LeftBrace q) j w = word_step (LeftBrace q) j w _ (λ is. cc) (λ p is. cc) (block_begins q j w)
  statement_step Semicolon j w = body_semicolon j w
  statement_step (RightBrace q) j w = iff_trans _ _ _ (body_brace q j w) (closes_block K b q j w)
  statement_step t j w = word_step t j w _ (λ is. cc) (λ p is. cc) (iff_trans _ _ _ (simple_begins t j w tt) (begins_step K b in_body t j w))
