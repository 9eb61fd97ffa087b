-- Names that share a type, from left to right: what may follow names that were read.
use Rattle.std.proofs.Common.{◌≡◌, ℕ, List, [], ◌∷◌, ◌++◌, inl, inr}
use Rattle.syntax.specs.declared.expression.Name.{Name}
use Rattle.syntax.specs.Expressions.{Ex}
use Rattle.syntax.specs.Declarations.{Field}
use Rattle.parse_expressions.specs.declared.terminal.Terminal.{Terminal}
use Rattle.parse_expressions.specs.declared.terminal.Terminal.TheVariants.{Identifier, Comma}
use Rattle.parse_expressions.specs.Grammar.{Mark, inside}
use Rattle.parse_expressions.proofs.Following.{Iff, After}
use Rattle.parse_simple_statements.proofs.Marks.{iff_trans}
use Rattle.parse_simple_statements.proofs.NameLists.{NamesThen, NameWanted, names_comma, names_other, names_end, name_joins, wanted_first, whole_names}
use Rattle.parse_go.specs.Grammar.{ReadsField}
use Rattle.parse_go.proofs.Types.{OneType, type_at, type_step, type_first, no_type, type_some}

-- what may follow the names of a field: its type, and then what Then says of the names and the type
abbrev pub TypeThen : ℕ → (List Name → Ex → List Mark → Type 0) → List Name → List Mark → Type 0
TypeThen d Then xs m = OneType d (Then xs) m

-- after the last of some names, and where one more name is wanted after some
abbrev pub InNames : ℕ → (List Name → Ex → List Mark → Type 0) → List Name → List Mark → Type 0
InNames d Then xs w = NamesThen (TypeThen d Then) d xs w

abbrev pub NextName : ℕ → (List Name → Ex → List Mark → Type 0) → List Name → List Mark → Type 0
NextName d Then xs w = NameWanted (TypeThen d Then) d xs w

-- one field, and then what Then says
pub record OneField (d : ℕ) (Then : Field → List Mark → Type 0) (w : List Mark) : Type 0 where
  pub whole : Field
  pub rest : List Mark
  pub reads : ReadsField d whole w rest
  pub follows : Then whole rest

abbrev pub field : List Name → Ex → Field
field xs e = record { names = xs; type_expr = e }

module _ (d : ℕ) (Then : List Name → Ex → List Mark → Type 0) where
  pub field_comma : (xs : List Name) (j : ℕ) (w : List Mark) → Iff (InNames d Then xs (inside Comma j ∷ w)) ((j ≡ d) × NextName d Then xs w)
  field_comma xs j w = (
    λ h. elim ((names_comma (TypeThen d Then) d xs j w).0 h) [ inl a ↦ a | inr k ↦ absurd (no_type d (Then xs) Comma j w (λ n. n) k) ],
    λ h. (names_comma (TypeThen d Then) d xs j w).1 (inl h),
  )

  pub field_type : (xs : List Name) (t : Terminal) (j : ℕ) (w : List Mark) → (t ≡ Comma → ⊥) → Iff (InNames d Then xs (inside t j ∷ w)) (After (type_at d) (Then xs) (type_step d t) d t j w)
  field_type xs t j w other = iff_trans (InNames d Then xs (inside t j ∷ w)) (OneType d (Then xs) (inside t j ∷ w)) (After (type_at d) (Then xs) (type_step d t) d t j w) (names_other (TypeThen d Then) d xs t j w other) (type_first d (Then xs) t j w)

  pub field_name : (xs : List Name) (x : Name) (j : ℕ) (w : List Mark) → Iff (NextName d Then xs (inside (Identifier x) j ∷ w)) ((j ≡ d) × InNames d Then (xs ++ x ∷ []) w)
  field_name xs x j w = name_joins (TypeThen d Then) d xs x j w

  pub no_name : (xs : List Name) (t : Terminal) (j : ℕ) (w : List Mark) → ((x : Name) → t ≡ Identifier x → ⊥) → NextName d Then xs (inside t j ∷ w) → ⊥
  no_name xs t j w other h = wanted_first (TypeThen d Then) d xs t j w other h

  pub in_names_some : (xs : List Name) → InNames d Then xs [] → ⊥
  in_names_some xs h = type_some d (Then xs) (names_end (TypeThen d Then) d xs h)

  pub next_name_some : (xs : List Name) → NextName d Then xs [] → ⊥
  next_name_some xs h = cc (h.4)

-- a field begins with a name
pub field_begins : (d : ℕ) (Then : Field → List Mark → Type 0) (w : List Mark) → Iff (OneField d Then w) (NextName d (λ xs e. Then (field xs e)) [] w)
field_begins d Then w = (
  λ h.
      let r = h.reads in
      (whole_names (TypeThen d (λ xs e. Then (field xs e))) d w).0 (h.whole.names, r.0, r.1, record { whole = h.whole.type_expr; rest = h.rest; reads = r.2; follows = h.follows }),
  λ h.
      let v = (whole_names (TypeThen d (λ xs e. Then (field xs e))) d w).1 h in
      let t = v.3 in
      record { whole = field v.0 t.whole; rest = t.rest; reads = (v.1, v.2, t.reads); follows = t.follows },
)
