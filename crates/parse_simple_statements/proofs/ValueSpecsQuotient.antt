-- A terminal in a state of the parser of declarations divides the texts by it from the left.
use Rattle.std.proofs.Common.{◌≡◌, ℕ, suc, List, [], ◌∷◌, ◌++◌, inl, inr, refl, sym, subst, append_assoc}
use Rattle.std.proofs.lemmas.List.{append-nil}
use Rattle.base.specs.declared.pos.Pos.{Pos}
use Rattle.syntax.specs.Statements.{ValueSpec}
use Rattle.parse_expressions.specs.declared.terminal.Terminal.{Terminal}
use Rattle.parse_expressions.specs.declared.terminal.Terminal.TheVariants.{Identifier, Semicolon, LeftParen, RightParen}
use Rattle.parse_expressions.specs.Grammar.{Mark, inside}
use Rattle.parse_expressions.specs.Machine as expression
use Rattle.parse_expressions.proofs.Following.{Iff}
use Rattle.parse_simple_statements.specs.Grammar.{Declares, ReadsValueSpec, AreGrouped, group_ends, last_of_group, next_of_group, IsGroup, alone, grouped}
use Rattle.parse_simple_statements.specs.ValueSpecs.{Spot, alone_here, in_group, Specs, at_first, at_spec, at_next_name, at_names, in_type, in_value, at_group_end, spot_depth, type_context, value_context, step, nesting}
use Rattle.parse_expressions.proofs.Quotient.{quotient as open_quotient}
use Rattle.parse_expressions.proofs.Viable.{valid_next as open_valid}
use Rattle.parse_simple_statements.proofs.Marks.{iff_same, iff_trans}
use Rattle.parse_simple_statements.proofs.NameLists.{NameWanted, whole_names, name_joins, wanted_first, names_first}
use Rattle.parse_simple_statements.proofs.ValueSpecsFollowing.{spec, Declared, Grouped, BehindSpec, BehindNames, BehindType, BehindValue, Rest, Valid, Apart, After}
use Rattle.parse_simple_statements.proofs.ValueSpecsSteps.{names_step, next_name_step, type_after, type_is_apart, value_after, value_is_apart}

-- one of them, and what may follow it
record OneSpec (k : Declares) (d : ℕ) (K : List ValueSpec → List Mark → Type 0) (s : Spot) (w : List Mark) : Type 0 where
  whole : ValueSpec
  rest : List Mark
  reads : ReadsValueSpec k (spot_depth d s) whole w rest
  follows : BehindSpec k d K s whole rest

module _ (k : Declares) (d : ℕ) (K : List ValueSpec → List Mark → Type 0) where
  spec_begins : (s : Spot) (w : List Mark) → Iff (OneSpec k d K s w) (NameWanted (BehindNames k d K s) (spot_depth d s) [] w)
  spec_begins s w = (
    λ h.
        let r = h.reads in
        let x = h.whole in
        (whole_names (BehindNames k d K s) (spot_depth d s) w).0 (x.names, r.0, r.2, record { type_expr = x.type_expr; values = x.values; between = r.1; rest = h.rest; typed = r.3; reads = r.4; given = r.5; follows = h.follows }),
    λ h.
        let v = (whole_names (BehindNames k d K s) (spot_depth d s) w).1 h in
        let f = v.3 in
        record { whole = spec v.0 f.type_expr f.values; rest = f.rest; reads = (v.1, f.between, v.2, f.typed, f.reads, f.given); follows = f.follows },
  )

  -- one of them begins with a name
  spec_first : (s : Spot) (t : Terminal) (j : ℕ) (w : List Mark) → Iff (OneSpec k d K s (inside t j ∷ w)) (NameWanted (BehindNames k d K s) (spot_depth d s) [] (inside t j ∷ w))
  spec_first s t j w = spec_begins s (inside t j ∷ w)

  no_spec : (s : Spot) (t : Terminal) (j : ℕ) (w : List Mark) → ((x : _) → t ≡ Identifier x → ⊥) → OneSpec k d K s (inside t j ∷ w) → ⊥
  no_spec s t j w other h = wanted_first (BehindNames k d K s) (spot_depth d s) [] t j w other ((spec_first s t j w).0 h)

  -- ---- the first one

  alone_read : (t : Terminal) (j : ℕ) (w : List Mark) → ((q : Pos) → t ≡ LeftParen q → ⊥) → Iff (Declared k d K (inside t j ∷ w)) (OneSpec k d K alone_here (inside t j ∷ w))
  alone_read t j w other = (λ h. to t j w other h.whole h.rest h.reads h.follows, λ h. record { whole = h.whole ∷ []; rest = h.rest; reads = alone h.reads; follows = h.follows })
    where
      to : (x : Terminal) (i : ℕ) (v : List Mark) → ((q : Pos) → x ≡ LeftParen q → ⊥) → (specs : List ValueSpec) (rest : List Mark) → IsGroup (ReadsValueSpec k) d specs (inside x i ∷ v) rest → K specs rest → OneSpec k d K alone_here (inside x i ∷ v)
      to x i v never _ rest (alone {a = a} r) f = record { whole = a; rest = rest; reads = r; follows = f }
      to _ i v never specs rest (grouped {pos = q} r) f = absurd (never q refl)

  group_read : (q : Pos) (j : ℕ) (w : List Mark) → Iff (Declared k d K (inside (LeftParen q) j ∷ w)) ((j ≡ d) × Grouped k d K [] w)
  group_read q j w = (λ h. to j h.whole h.rest h.reads h.follows, λ h. back j h.0 h.1)
    where
      to : (i : ℕ) (specs : List ValueSpec) (rest : List Mark) → IsGroup (ReadsValueSpec k) d specs (inside (LeftParen q) i ∷ w) rest → K specs rest → (i ≡ d) × Grouped k d K [] w
      to i _ rest (alone {a = a} r) f = absurd (no_spec alone_here (LeftParen q) i w (λ x e. cc) (record { whole = a; rest = rest; reads = r; follows = f }))
      to _ specs rest (grouped r) f = (refl, record { others = specs; rest = rest; reads = r; follows = f })

      back : (i : ℕ) → i ≡ d → Grouped k d K [] w → Declared k d K (inside (LeftParen q) i ∷ w)
      back i is h = subst (λ (n : ℕ). Declared k d K (inside (LeftParen q) n ∷ w)) (sym is) (record { whole = h.others; rest = h.rest; reads = grouped h.reads; follows = h.follows })

  first_step : (t : Terminal) (j : ℕ) (w : List Mark) → Iff (Rest k d K at_first (inside t j ∷ w)) (After k d K (step k d at_first t) d t j w)
  first_step (Identifier x) j w = iff_trans _ _ _ (alone_read (Identifier x) j w (λ q e. cc)) (iff_trans _ _ _ (spec_first alone_here (Identifier x) j w) (name_joins (BehindNames k d K alone_here) d [] x j w))
  first_step (LeftParen q) j w = group_read q j w
  first_step t j w = (λ h. absurd (no_spec alone_here t j w (λ x e. cc) ((alone_read t j w (λ q e. cc)).0 h)), λ h. absurd h)

  -- ---- in parentheses

  grouped_read : (done : List ValueSpec) (t : Terminal) (j : ℕ) (w : List Mark) → (t ≡ RightParen → ⊥) → Iff (Grouped k d K done (inside t j ∷ w)) (OneSpec k d K (in_group done) (inside t j ∷ w))
  grouped_read done t j w other = (λ h. to t j w other h.others h.rest h.reads h.follows, λ h. back h.whole h.rest h.reads h.follows)
    where
      to : (x : Terminal) (i : ℕ) (v : List Mark) → (x ≡ RightParen → ⊥) → (specs : List ValueSpec) (rest : List Mark) → AreGrouped (ReadsValueSpec k) d specs (inside x i ∷ v) rest → K (done ++ specs) rest → OneSpec k d K (in_group done) (inside x i ∷ v)
      to _ i v never _ rest group_ends f = absurd (never refl)
      to x i v never _ rest (last_of_group {a = a} r) f = record { whole = a; rest = inside RightParen d ∷ rest; reads = r; follows = inl (record { rest = rest; mark = refl; follows = f }) }
      to x i v never _ rest (next_of_group {a = a} {others = others} {m = m} r g) f = record { whole = a; rest = inside Semicolon (suc d) ∷ m; reads = r; follows = inr (record { rest = m; mark = refl; follows = record { others = others; rest = rest; reads = g; follows = subst (λ (specs : List ValueSpec). K specs rest) (sym (append_assoc done (a ∷ []) others)) f } }) }

      back : (x : ValueSpec) (m : List Mark) → ReadsValueSpec k (suc d) x (inside t j ∷ w) m → BehindSpec k d K (in_group done) x m → Grouped k d K done (inside t j ∷ w)
      back x m r f = elim f [
        | inl n ↦ record { others = x ∷ []; rest = n.rest; reads = last_of_group (subst (λ (ts : List Mark). ReadsValueSpec k (suc d) x (inside t j ∷ w) ts) n.mark r); follows = n.follows }
        | inr n ↦
            let g = n.follows in
            record { others = x ∷ g.others; rest = g.rest; reads = next_of_group (subst (λ (ts : List Mark). ReadsValueSpec k (suc d) x (inside t j ∷ w) ts) n.mark r) g.reads; follows = subst (λ (specs : List ValueSpec). K specs g.rest) (append_assoc done (x ∷ []) g.others) g.follows }
      ]

  group_closes : (done : List ValueSpec) (j : ℕ) (w : List Mark) → Iff (Grouped k d K done (inside RightParen j ∷ w)) ((j ≡ d) × K done w)
  group_closes done j w = (λ h. to j h.others h.rest h.reads h.follows, λ h. back j h.0 h.1)
    where
      to : (i : ℕ) (specs : List ValueSpec) (rest : List Mark) → AreGrouped (ReadsValueSpec k) d specs (inside RightParen i ∷ w) rest → K (done ++ specs) rest → (i ≡ d) × K done w
      to _ _ _ group_ends f = (refl, subst (λ (specs : List ValueSpec). K specs w) (append-nil done) f)
      to i _ rest (last_of_group {a = a} r) f = absurd (no_spec (in_group done) RightParen i w (λ x e. cc) (record { whole = a; rest = inside RightParen d ∷ rest; reads = r; follows = inl (record { rest = rest; mark = refl; follows = f }) }))
      to i _ rest (next_of_group {a = a} {m = m} r g) f = let n = names_first (suc d) a.names RightParen i w r.0 r.2 in absurd (cc (n.1))

      back : (i : ℕ) → i ≡ d → K done w → Grouped k d K done (inside RightParen i ∷ w)
      back i is f = subst (λ (n : ℕ). Grouped k d K done (inside RightParen n ∷ w)) (sym is) (record { others = []; rest = w; reads = group_ends; follows = subst (λ (specs : List ValueSpec). K specs w) (sym (append-nil done)) f })

  group_step : (done : List ValueSpec) (t : Terminal) (j : ℕ) (w : List Mark) → Iff (Rest k d K (at_spec done) (inside t j ∷ w)) (After k d K (step k d (at_spec done) t) (nesting d (at_spec done) t) t j w)
  group_step done (Identifier x) j w = iff_trans _ _ _ (grouped_read done (Identifier x) j w (λ e. cc)) (iff_trans _ _ _ (spec_first (in_group done) (Identifier x) j w) (name_joins (BehindNames k d K (in_group done)) (suc d) [] x j w))
  group_step done RightParen j w = group_closes done j w
  group_step done t j w = (λ h. absurd (no_spec (in_group done) t j w (λ x e. cc) ((grouped_read done t j w (λ e. cc)).0 h)), λ h. absurd h)

-- ---- every state

pub quotient : (k : Declares) (d : ℕ) (K : List ValueSpec → List Mark → Type 0) (s : Specs) (t : Terminal) (j : ℕ) (w : List Mark) → Valid d s → Apart K → Iff (Rest k d K s (inside t j ∷ w)) (After k d K (step k d s t) (nesting d s t) t j w)
quotient k d K at_first t j w valid apart = first_step k d K t j w
quotient k d K (at_spec done) t j w valid apart = group_step k d K done t j w
quotient k d K (at_next_name s xs) t j w valid apart = next_name_step k d K apart s xs t j w
quotient k d K (at_names s xs) t j w valid apart = names_step k d K apart s xs t j w
quotient k d K (in_type s xs o) t j w valid apart =
    iff_trans _ _ _
    (open_quotient (type_context d s) (BehindType k d K s xs) o t j w valid (type_is_apart k d K s xs))
    (type_after k d K apart s xs o t j w (expression.step (type_context d s) o t) (open_valid (type_context d s) o t valid))
quotient k d K (in_value s xs o es e) t j w valid apart =
    iff_trans _ _ _
    (open_quotient (value_context d s) (BehindValue k d K s xs o es) e t j w valid (value_is_apart k d K apart s xs o es))
    (value_after k d K apart s xs o es e t j w (expression.step (value_context d s) e t) (open_valid (value_context d s) e t valid))
quotient k d K (at_group_end done) t j w valid apart = iff_same _
