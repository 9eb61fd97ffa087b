-- The names and strings of declarations and simple statements stand where tokens of the text stand.
use Rattle.std.proofs.Common.{ℕ, suc, Bool, true, List, [], ◌∷◌, Option, Some, None, subst}
use Rattle.std.specs.List.{AllByRecursion}
use Rattle.syntax.specs.declared.expression.Name.{Name}
use Rattle.syntax.specs.Expressions.{Ex, Exs, none, some}
use Rattle.syntax.specs.Statements.{Simple, express, assign, update, define, increment, decrement, ValueSpec}
use Rattle.syntax.specs.Spans.{NamesSpans, ExSpans, ExsSpans, OptionalSpans, SimpleSpans, ValueSpecSpans}
use Rattle.parse_expressions.specs.declared.terminal.Terminal.TheVariants.{Assign, Update, Define, Increment, Decrement, Semicolon, RightParen}
use Rattle.parse_expressions.specs.Grammar.{Mark, inside, ReadsValue}
use Rattle.parse_expressions.proofs.NameSpans.{HaveSpans, ex_spans, type_spans, values_spans}
use Rattle.parse_simple_statements.specs.Grammar.{ReadsMoreNames, ReadsNames, Declares, ReadsOptionalType, ReadsInitial, ReadsValueSpec, AreGrouped, group_ends, last_of_group, next_of_group, IsGroup, alone, grouped, ReadsSimple}

module _ (n : ℕ) where
  -- ---- names

  more_names_spans : (d : ℕ) (xs : List Name) (ts rest : List Mark) → ReadsMoreNames d xs ts rest → HaveSpans n ts → NamesSpans n xs × HaveSpans n rest
  more_names_spans d [] ts rest r a = (tt, subst (HaveSpans n) r a)
  more_names_spans d (x ∷ xs) ts rest r a =
      let b = (subst (HaveSpans n) r.1 a).1 in
      let i = more_names_spans d xs r.0 rest r.2 b.1 in
      ((b.0, i.0), i.1)

  pub names_spans : (d : ℕ) (xs : List Name) (ts rest : List Mark) → ReadsNames d xs ts rest → HaveSpans n ts → NamesSpans n xs × HaveSpans n rest
  names_spans d [] ts rest r a = absurd r
  names_spans d (x ∷ xs) ts rest r a =
      let b = subst (HaveSpans n) r.1 a in
      let i = more_names_spans d xs r.0 rest r.2 b.1 in
      ((b.0, i.0), i.1)

  -- ---- declarations of constants and variables

  optional_type_spans : (d : ℕ) (t : Option Ex) (ts rest : List Mark) → ReadsOptionalType d t ts rest → HaveSpans n ts → OptionalSpans n t × HaveSpans n rest
  optional_type_spans d None ts rest r a = (tt, subst (HaveSpans n) r a)
  optional_type_spans d (Some t) ts rest r a = type_spans n true d t ts rest r a

  initial_spans : (d : ℕ) (es : Exs) (ts rest : List Mark) → ReadsInitial d es ts rest → HaveSpans n ts → ExsSpans n es × HaveSpans n rest
  initial_spans d none ts rest r a = (tt, subst (HaveSpans n) r a)
  initial_spans d (some e es) ts rest r a = values_spans n true d (some e es) r.1 rest r.3 (subst (HaveSpans n) r.2 a).1

  value_spec_spans : (k : Declares) (d : ℕ) (s : ValueSpec) (ts rest : List Mark) → ReadsValueSpec k d s ts rest → HaveSpans n ts → ValueSpecSpans n s × HaveSpans n rest
  value_spec_spans k d s ts rest r a =
      let i = names_spans d s.names ts r.0 r.2 a in
      let t = optional_type_spans d s.type_expr r.0 r.1 r.3 i.1 in
      let v = initial_spans d s.values r.1 rest r.4 t.1 in
      ((i.0, t.0, v.0), v.1)

  -- a group, where what one of some kind has is known
  module _ {A : Type 0} (Reads : ℕ → A → List Mark → List Mark → Type 0) (Spans : A → Type 0) (spans : (d : ℕ) (x : A) (ts rest : List Mark) → Reads d x ts rest → HaveSpans n ts → Spans x × HaveSpans n rest) where
    grouped_spans : {d : ℕ} {xs : List A} {ts rest : List Mark} → AreGrouped Reads d xs ts rest → HaveSpans n ts → AllByRecursion Spans xs × HaveSpans n rest
    grouped_spans group_ends a = (tt, a.1)
    grouped_spans (last_of_group {d = d} {a = x} {ts = ts} {rest = rest} r) a =
        let i = spans (suc d) x ts (inside RightParen d ∷ rest) r a in
        ((i.0, tt), i.1.1)
    grouped_spans (next_of_group {d = d} {a = x} {ts = ts} {m = m} r g) a =
        let i = spans (suc d) x ts (inside Semicolon (suc d) ∷ m) r a in
        let k = grouped_spans g i.1.1 in
        ((i.0, k.0), k.1)

    pub group_spans : {d : ℕ} {xs : List A} {ts rest : List Mark} → IsGroup Reads d xs ts rest → HaveSpans n ts → AllByRecursion Spans xs × HaveSpans n rest
    group_spans (alone {d = d} {a = x} {ts = ts} {rest = rest} r) a = let i = spans d x ts rest r a in ((i.0, tt), i.1)
    group_spans (grouped g) a = grouped_spans g a.1

  pub value_specs_spans : (k : Declares) {d : ℕ} {specs : List ValueSpec} {ts rest : List Mark} → IsGroup (ReadsValueSpec k) d specs ts rest → HaveSpans n ts → AllByRecursion (ValueSpecSpans n) specs × HaveSpans n rest
  value_specs_spans k g a = group_spans (ReadsValueSpec k) (ValueSpecSpans n) (value_spec_spans k) g a

  -- ---- simple statements

  pub value_spans : (l : Bool) (d : ℕ) (e : Ex) (ts rest : List Mark) → ReadsValue l d e ts rest → HaveSpans n ts → ExSpans n e × HaveSpans n rest
  value_spans l d e ts rest r a = ex_spans n l 1 d e ts rest r.1 a

  pub simple_spans : (l : Bool) (d : ℕ) (s : Simple) (ts rest : List Mark) → ReadsSimple l d s ts rest → HaveSpans n ts → SimpleSpans n s × HaveSpans n rest
  simple_spans l d (express e) ts rest r a = value_spans l d e ts rest r a
  simple_spans l d (assign ls pos es) ts rest r a =
      let i = values_spans n l d ls ts (inside (Assign pos) d ∷ r.0) r.1 a in
      let k = values_spans n l d es r.0 rest r.2 i.1.1 in
      ((i.0, k.0), k.1)
  simple_spans l d (update ls pos op es) ts rest r a =
      let i = values_spans n l d ls ts (inside (Update pos op) d ∷ r.0) r.1 a in
      let k = values_spans n l d es r.0 rest r.2 i.1.1 in
      ((i.0, k.0), k.1)
  simple_spans l d (define xs pos es) ts rest r a =
      let i = names_spans d xs ts (inside (Define pos) d ∷ r.0) r.1 a in
      let k = values_spans n l d es r.0 rest r.2 i.1.1 in
      ((i.0, k.0), k.1)
  simple_spans l d (increment e pos) ts rest r a = let i = value_spans l d e ts (inside (Increment pos) d ∷ rest) r a in (i.0, i.1.1)
  simple_spans l d (decrement e pos) ts rest r a = let i = value_spans l d e ts (inside (Decrement pos) d ∷ rest) r a in (i.0, i.1.1)
