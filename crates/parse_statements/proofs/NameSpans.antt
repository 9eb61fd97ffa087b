-- The names and strings of statements stand where tokens of the text stand.
use Rattle.std.proofs.Common.{ℕ, suc, true, false, List, ◌∷◌, inl, inr, Option, Some, None, subst}
use Rattle.base.specs.declared.pos.Pos.{Pos}
use Rattle.syntax.specs.Expressions.{Ex}
use Rattle.syntax.specs.Statements.{Simple, Guard, Targets, no_targets, targets_assigned, targets_defined, Clause, forever, while_true, counting, ranging, Stm, Stms, Els}
use Rattle.syntax.specs.Spans.{OptionalSpans, OptionalSimpleSpans, GuardSpans, TargetsSpans, ClauseSpans, StmSpans, StmsSpans, ElsSpans}
use Rattle.parse_expressions.specs.declared.terminal.Terminal.TheVariants.{Assign, Define, Semicolon, Range, LeftBrace}
use Rattle.parse_expressions.specs.Grammar.{Mark, inside}
use Rattle.parse_expressions.proofs.NameSpans.{HaveSpans, values_spans}
use Rattle.parse_simple_statements.specs.Grammar.{of_variables}
use Rattle.parse_statements.specs.Grammar.{ReadsOptionalSimple, ReadsOptionalValue, ReadsPost, ReadsInit, ReadsGuard, ReadsTargets, ReadsClause, IsStm, is_var, is_simple, is_break, is_continue, is_return, is_return_of, is_if, is_for, is_block, IsElse, absent, otherwise, otherwise_if, IsBody, close, empty, last, next}
use Rattle.parse_simple_statements.proofs.NameSpans.{names_spans, value_specs_spans, value_spans, simple_spans}

module _ (n : ℕ) where
  -- ---- headers

  optional_simple_spans : (d : ℕ) (s : Option Simple) (ts rest : List Mark) → ReadsOptionalSimple d s ts rest → HaveSpans n ts → OptionalSimpleSpans n s × HaveSpans n rest
  optional_simple_spans d None ts rest r a = (tt, subst (HaveSpans n) r a)
  optional_simple_spans d (Some s) ts rest r a = simple_spans n false d s ts rest r a

  optional_value_spans : (d : ℕ) (e : Option Ex) (ts rest : List Mark) → ReadsOptionalValue d e ts rest → HaveSpans n ts → OptionalSpans n e × HaveSpans n rest
  optional_value_spans d None ts rest r a = (tt, subst (HaveSpans n) r a)
  optional_value_spans d (Some e) ts rest r a = value_spans n false d e ts rest r a

  post_spans : (d : ℕ) (s : Option Simple) (ts rest : List Mark) → ReadsPost d s ts rest → HaveSpans n ts → OptionalSimpleSpans n s × HaveSpans n rest
  post_spans d None ts rest r a = (tt, subst (HaveSpans n) r a)
  post_spans d (Some s) ts rest r a = simple_spans n false d s ts rest r.1 a

  init_spans : (d : ℕ) (s : Option Simple) (ts rest : List Mark) → ReadsInit d s ts rest → HaveSpans n ts → OptionalSimpleSpans n s × HaveSpans n rest
  init_spans d None ts rest r a = elim r [ inl is ↦ (tt, subst (HaveSpans n) is a) | inr is ↦ (tt, (subst (HaveSpans n) is a).1) ]
  init_spans d (Some s) ts rest r a = let i = simple_spans n false d s ts (inside Semicolon d ∷ rest) r a in (i.0, i.1.1)

  guard_spans : (d : ℕ) (g : Guard) (ts rest : List Mark) → ReadsGuard d g ts rest → HaveSpans n ts → GuardSpans n g × HaveSpans n rest
  guard_spans d g ts rest r a =
      let i = init_spans d g.init ts r.0 r.1 a in
      let k = value_spans n false d g.condition r.0 rest r.2 i.1 in
      ((i.0, k.0), k.1)

  targets_spans : (d : ℕ) (t : Targets) (ts rest : List Mark) → ReadsTargets d t ts rest → HaveSpans n ts → TargetsSpans n t × HaveSpans n rest
  targets_spans d no_targets ts rest r a = (tt, subst (HaveSpans n) r a)
  targets_spans d (targets_assigned ls pos) ts rest r a = let i = values_spans n false d ls ts (inside (Assign pos) d ∷ rest) r a in (i.0, i.1.1)
  targets_spans d (targets_defined xs pos) ts rest r a = let i = names_spans n d xs ts (inside (Define pos) d ∷ rest) r a in (i.0, i.1.1)

  clause_spans : (d : ℕ) (c : Clause) (ts rest : List Mark) → ReadsClause d c ts rest → HaveSpans n ts → ClauseSpans n c × HaveSpans n rest
  clause_spans d forever ts rest r a = (tt, subst (HaveSpans n) r a)
  clause_spans d (while_true e) ts rest r a = value_spans n false d e ts rest r a
  clause_spans d (counting s c p) ts rest r a =
      let i = optional_simple_spans d s ts (inside Semicolon d ∷ r.0) r.2 a in
      let k = optional_value_spans d c r.0 (inside Semicolon d ∷ r.1) r.3 i.1.1 in
      let q = post_spans d p r.1 rest r.4 k.1.1 in
      ((i.0, k.0, q.0), q.1)
  clause_spans d (ranging t pos e) ts rest r a =
      let i = targets_spans d t ts (inside (Range pos) d ∷ r.0) r.1 a in
      let k = value_spans n false d e r.0 rest r.2 i.1.1 in
      ((i.0, k.0), k.1)

  -- ---- statements

  mutual
    stm_spans : {d : ℕ} {s : Stm} {ts rest : List Mark} → IsStm d s ts rest → HaveSpans n ts → StmSpans n s × HaveSpans n rest
    stm_spans (is_var g) a = value_specs_spans n of_variables g a.1
    stm_spans (is_simple {d = d} {s = s} {ts = ts} {rest = rest} r) a = simple_spans n true d s ts rest r a
    stm_spans is_break a = (tt, a.1)
    stm_spans is_continue a = (tt, a.1)
    stm_spans is_return a = (tt, a.1)
    stm_spans (is_return_of {d = d} {es = es} {m = m} {rest = rest} r) a = values_spans n true d es m rest r a.1
    stm_spans (is_if {d = d} {g = g} {m = m} {k = k} q r b l) a =
        let i = guard_spans d g m (inside (LeftBrace q) d ∷ k) r a.1 in
        let j = body_spans b i.1.1 in
        let o = else_spans l j.1 in
        ((i.0, j.0, o.0), o.1)
    stm_spans (is_for {d = d} {c = c} {m = m} {k = k} q r b) a =
        let i = clause_spans d c m (inside (LeftBrace q) d ∷ k) r a.1 in
        let j = body_spans b i.1.1 in
        ((i.0, j.0), j.1)
    stm_spans (is_block b) a = body_spans b a.1

    else_spans : {d : ℕ} {e : Els} {ts rest : List Mark} → IsElse d e ts rest → HaveSpans n ts → ElsSpans n e × HaveSpans n rest
    else_spans absent a = (tt, a)
    else_spans (otherwise b) a = body_spans b a.1.1
    else_spans (otherwise_if {d = d} {g = g} {m = m} {k = k} q r b l) a =
        let i = guard_spans (suc d) g m (inside (LeftBrace q) (suc d) ∷ k) r a.1.1 in
        let j = body_spans b i.1.1 in
        let o = else_spans l j.1 in
        ((i.0, j.0, o.0), o.1)

    pub body_spans : {d : ℕ} {ss : Stms} {end : Pos} {ts rest : List Mark} → IsBody d ss end ts rest → HaveSpans n ts → StmsSpans n ss × HaveSpans n rest
    body_spans close a = (tt, a.1)
    body_spans (empty b) a = body_spans b a.1
    body_spans (last r) a =
        let i = stm_spans r a in
        ((i.0, tt), i.1.1)
    body_spans (next r b) a =
        let i = stm_spans r a in
        let k = body_spans b i.1.1 in
        ((i.0, k.0), k.1)
