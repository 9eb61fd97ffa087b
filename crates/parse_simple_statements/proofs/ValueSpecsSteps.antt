-- A terminal after a name, a type or a value of a declaration divides the texts by it from the left.
use Rattle.std.proofs.Common.{◌≡◌, ℕ, suc, true, List, [], ◌∷◌, ◌++◌, inl, inr, Option, Some, None, refl, sym, ap, subst}
use Rattle.base.specs.declared.pos.Pos.{Pos}
use Rattle.syntax.specs.declared.expression.Name.{Name}
use Rattle.syntax.specs.Expressions.{Ex, Exs, none, some}
use Rattle.syntax.specs.Statements.{ValueSpec}
use Rattle.syntax.specs.Lists.{with_ex}
use Rattle.parse_expressions.specs.declared.terminal.Terminal.{Terminal}
use Rattle.parse_expressions.specs.declared.terminal.Terminal.TheVariants.{Identifier, Operator, Assign, Comma, Semicolon, Period, LeftParen, RightParen, LeftBracket, LeftBrace}
use Rattle.parse_expressions.specs.Grammar.{Mark, inside, ReadsExs}
use Rattle.parse_expressions.specs.Machine as expression
use Rattle.parse_expressions.specs.Machine.{Context, Open, at_operand, at_type_operand, type_operand}
use Rattle.parse_expressions.proofs.Following as following
use Rattle.parse_expressions.proofs.Following.{Iff}
use Rattle.parse_simple_statements.specs.Grammar.{Declares, of_constants, of_variables, IsGiven, ReadsOptionalType, ReadsInitial}
use Rattle.parse_simple_statements.specs.ValueSpecs.{Spot, alone_here, in_group, at_next_name, at_names, spot_depth, type_context, value_context, spec_ends, behind_type, after_type, behind_value, after_value, step, nesting_at_end, nesting_after}
use Rattle.parse_expressions.proofs.Quotient.{quotient}
use Rattle.parse_expressions.proofs.Starts.{begins_type, begins_type_valid}
use Rattle.parse_simple_statements.proofs.Marks.{next_read, next_other, iff_same, iff_trans, only_left, only_right, neither}
use Rattle.parse_simple_statements.proofs.NameLists.{names_comma, names_other, name_joins, wanted_first}
use Rattle.parse_simple_statements.proofs.Starts.{NeverEnds, type_starts}
use Rattle.parse_simple_statements.proofs.ValueLists.{Values, values_begin, values_comma, values_other, values_apart}
use Rattle.parse_simple_statements.proofs.ValueSpecsBegins.{never_given}
use Rattle.parse_simple_statements.proofs.ValueSpecsFollowing.{spec, Grouped, BehindSpec, BehindNames, BehindType, BehindValue, Rest, Apart, GoesOn, After}

value_on : (b : Context) (t : Terminal) → following.GoesOn b t → GoesOn t
value_on b (Operator q op) on = tt
value_on b (LeftParen q) on = tt
value_on b (Period q) on = tt
value_on b (LeftBracket q) on = tt
value_on b (LeftBrace q) on = tt
value_on b t on = absurd on

module _ (k : Declares) (d : ℕ) (K : List ValueSpec → List Mark → Type 0) where
  -- ---- after a whole one of them

  pub spec_step : (s : Spot) (x : ValueSpec) (t : Terminal) (j : ℕ) (w : List Mark) → Iff (BehindSpec k d K s x (inside t j ∷ w)) (After k d K (spec_ends s x t) (nesting_at_end d s t) t j w)
  spec_step alone_here x t j w = iff_same _
  spec_step (in_group done) x Semicolon j w = only_right _ _ _ (next_other RightParen d (K (done ++ x ∷ [])) Semicolon j w (λ e. cc)) (next_read Semicolon (suc d) (Grouped k d K (done ++ x ∷ [])) j w)
  spec_step (in_group done) x RightParen j w = only_left _ _ _ (next_other Semicolon (suc d) (Grouped k d K (done ++ x ∷ [])) RightParen j w (λ e. cc)) (next_read RightParen d (K (done ++ x ∷ [])) j w)
  spec_step (in_group done) x t j w = (
    λ h. absurd (neither _ _ (next_other RightParen d (K (done ++ x ∷ [])) t j w (λ e. cc)) (next_other Semicolon (suc d) (Grouped k d K (done ++ x ∷ [])) t j w (λ e. cc)) h),
    λ h. absurd h,
  )

  -- none of them goes on with these terminals
  pub spec_apart : Apart K → (s : Spot) (x : ValueSpec) (t : Terminal) (j : ℕ) (w : List Mark) → GoesOn t → BehindSpec k d K s x (inside t j ∷ w) → ⊥
  spec_apart apart alone_here x t j w on h = apart.never (x ∷ []) t j w on h
  spec_apart apart (in_group done) x t j w on h =
      neither _ _
      (next_other RightParen d (K (done ++ x ∷ [])) t j w (λ e. subst GoesOn e on))
      (next_other Semicolon (suc d) (Grouped k d K (done ++ x ∷ [])) t j w (λ e. subst GoesOn e on))
      h

  pub value_is_apart : Apart K → (s : Spot) (xs : List Name) (o : Option Ex) (es : Exs) → following.Apart (value_context d s) (BehindValue k d K s xs o es)
  value_is_apart apart s xs o es = values_apart true (spot_depth d s) (λ all_of m. BehindSpec k d K s (spec xs o all_of) m) es (λ ys t j w on. spec_apart apart s (spec xs o ys) t j w (value_on (value_context d s) t on))

  pub type_is_apart : (s : Spot) (xs : List Name) → following.Apart (type_context d s) (BehindType k d K s xs)
  type_is_apart s xs = record { never = λ is e t j w on h. absurd cc }

  -- ---- after a value

  behind_value_step : Apart K → (s : Spot) (xs : List Name) (o : Option Ex) (es : Exs) (e : Ex) (t : Terminal) (j : ℕ) (w : List Mark) → Iff (BehindValue k d K s xs o es e (inside t j ∷ w)) (After k d K (behind_value s xs o (with_ex es e) t) (nesting_at_end d s t) t j w)
  behind_value_step apart s xs o es e Comma j w = values_comma true (spot_depth d s) _ es e j w (spec_apart apart s (spec xs o (with_ex es e)) Comma j w tt)
  behind_value_step apart s xs o es e t j w = iff_trans _ _ _ (values_other true (spot_depth d s) _ es e t j w (λ is. cc)) (spec_step s (spec xs o (with_ex es e)) t j w)

  pub value_after : Apart K → (s : Spot) (xs : List Name) (o : Option Ex) (es : Exs) (x : Open) (t : Terminal) (j : ℕ) (w : List Mark) (p : expression.Progress) → following.ValidNext (value_context d s) p
      → Iff (following.After (value_context d s) (BehindValue k d K s xs o es) p (expression.nesting (value_context d s) x t) t j w) (After k d K (after_value s xs o es t p) (nesting_after d s (value_context d s) x t p) t j w)
  value_after apart s xs o es x t j w expression.fails valid = iff_same _
  value_after apart s xs o es x t j w (expression.goes y) valid = iff_same _
  value_after apart s xs o es x t j w (expression.ends e) valid =
      let i = behind_value_step apart s xs o es e t j w in
      (λ h. i.0 h.1, λ h. (valid, i.1 h))

  -- ---- after a type

  initial_read : Apart K → (s : Spot) (xs : List Name) (e : Ex) (q : Pos) (j : ℕ) (w : List Mark) → Iff (BehindType k d K s xs e (inside (Assign q) j ∷ w)) ((j ≡ spot_depth d s) × following.Rest (value_context d s) (BehindValue k d K s xs (Some e) none) (at_operand []) w)
  initial_read apart s xs e q j w = (
    λ h. to h.values h.rest h.reads h.follows,
    λ h. back h.0 ((values_begin true (spot_depth d s) _ w).1 h.1),
  )
    where
      to : (es : Exs) (m : List Mark) → ReadsInitial (spot_depth d s) es (inside (Assign q) j ∷ w) m → BehindSpec k d K s (spec xs (Some e) es) m → (j ≡ spot_depth d s) × following.Rest (value_context d s) (BehindValue k d K s xs (Some e) none) (at_operand []) w
      to none m r f = absurd (spec_apart apart s (spec xs (Some e) none) (Assign q) j w tt (subst (λ (ts : List Mark). BehindSpec k d K s (spec xs (Some e) none) ts) (sym r) f))
      to (some g gs) m r f =
          let same_w : r.1 ≡ w = cc (r.2) in
          (cc (r.2), (values_begin true (spot_depth d s) _ w).0 (record { whole = some g gs; rest = m; reads = subst (λ (ts : List Mark). ReadsExs true (spot_depth d s) (some g gs) ts m) same_w r.3; follows = f }))

      given : (c : Declares) (g : Ex) (gs : Exs) → IsGiven c (Some e) (some g gs)
      given of_constants g gs = tt
      given of_variables g gs = tt

      from_values : j ≡ spot_depth d s → (es : Exs) (m : List Mark) → ReadsExs true (spot_depth d s) es w m → BehindSpec k d K s (spec xs (Some e) es) m → BehindType k d K s xs e (inside (Assign q) j ∷ w)
      from_values is none m r f = absurd r
      from_values is (some g gs) m r f = record { values = some g gs; rest = m; reads = (q, w, ap (λ (i : ℕ). inside (Assign q) i ∷ w) is, r); given = given k g gs; follows = f }

      back : j ≡ spot_depth d s → Values true (spot_depth d s) (λ all_of m. BehindSpec k d K s (spec xs (Some e) all_of) m) w → BehindType k d K s xs e (inside (Assign q) j ∷ w)
      back is v = from_values is v.whole v.rest v.reads v.follows

-- no `=` after the type
no_initial : (k : Declares) (d : ℕ) (K : List ValueSpec → List Mark → Type 0) (s : Spot) (xs : List Name) (e : Ex) (t : Terminal) (j : ℕ) (w : List Mark) → ((q : Pos) → t ≡ Assign q → ⊥) → BehindType k d K s xs e (inside t j ∷ w) → IsGiven k (Some e) none × BehindSpec k d K s (spec xs (Some e) none) (inside t j ∷ w)
no_initial k d K s xs e t j w other h = to h.values h.rest h.reads h.given h.follows
  where
    to : (es : Exs) (m : List Mark) → ReadsInitial (spot_depth d s) es (inside t j ∷ w) m → IsGiven k (Some e) es → BehindSpec k d K s (spec xs (Some e) es) m → IsGiven k (Some e) none × BehindSpec k d K s (spec xs (Some e) none) (inside t j ∷ w)
    to none m r given f = (given, subst (λ (ts : List Mark). BehindSpec k d K s (spec xs (Some e) none) ts) (sym r) f)
    to (some g gs) m r given f = absurd (other r.0 (cc (r.2)))

behind_type_step : (k : Declares) (d : ℕ) (K : List ValueSpec → List Mark → Type 0) → Apart K → (s : Spot) (xs : List Name) (e : Ex) (t : Terminal) (j : ℕ) (w : List Mark) → Iff (BehindType k d K s xs e (inside t j ∷ w)) (After k d K (behind_type k s xs e t) (nesting_at_end d s t) t j w)
behind_type_step k d K apart s xs e (Assign q) j w = initial_read k d K apart s xs e q j w
behind_type_step of_constants d K apart s xs e t j w = (λ h. absurd (no_initial of_constants d K s xs e t j w (λ q is. cc) h).0, λ h. absurd h)
behind_type_step of_variables d K apart s xs e t j w =
    let i = spec_step of_variables d K s (spec xs (Some e) none) t j w in
    (λ h. i.0 (no_initial of_variables d K s xs e t j w (λ q is. cc) h).1, λ h. record { values = none; rest = inside t j ∷ w; reads = refl; given = tt; follows = i.1 h })

module _ (k : Declares) (d : ℕ) (K : List ValueSpec → List Mark → Type 0) (apart : Apart K) where
  pub type_after : (s : Spot) (xs : List Name) (x : Open) (t : Terminal) (j : ℕ) (w : List Mark) (p : expression.Progress) → following.ValidNext (type_context d s) p
      → Iff (following.After (type_context d s) (BehindType k d K s xs) p (expression.nesting (type_context d s) x t) t j w) (After k d K (after_type k s xs t p) (nesting_after d s (type_context d s) x t p) t j w)
  type_after s xs x t j w expression.fails valid = iff_same _
  type_after s xs x t j w (expression.goes y) valid = iff_same _
  type_after s xs x t j w (expression.ends e) valid =
      let i = behind_type_step k d K apart s xs e t j w in
      (λ h. i.0 h.1, λ h. (valid, i.1 h))

  -- ---- after a name

  -- a type begins, where no `=` comes next
  type_begins : (s : Spot) (xs : List Name) (t : Terminal) (j : ℕ) (w : List Mark) → ((q : Pos) → t ≡ Assign q → ⊥) → Iff (BehindNames k d K s xs (inside t j ∷ w)) (following.Rest (type_context d s) (BehindType k d K s xs) (at_type_operand []) (inside t j ∷ w))
  type_begins s xs t j w other = (
    λ h. to h.type_expr h.values h.between h.rest h.typed h.reads h.given h.follows,
    λ h.
        let i = (begins_type (type_context d s) (BehindType k d K s xs) (inside t j ∷ w) refl).1 h in
        let f = i.3 in
        record { type_expr = Some i.0; values = f.values; between = i.1; rest = f.rest; typed = i.2; reads = f.reads; given = f.given; follows = f.follows },
  )
    where
      to : (o : Option Ex) (es : Exs) (m n : List Mark) → ReadsOptionalType (spot_depth d s) o (inside t j ∷ w) m → ReadsInitial (spot_depth d s) es m n → IsGiven k o es → BehindSpec k d K s (spec xs o es) n → following.Rest (type_context d s) (BehindType k d K s xs) (at_type_operand []) (inside t j ∷ w)
      to None none m n typed r g f = absurd (never_given k g)
      to None (some x es) m n typed r g f = absurd (other r.0 (cc (typed, r.2)))
      to (Some e) es m n typed r g f = (begins_type (type_context d s) (BehindType k d K s xs) (inside t j ∷ w) refl).0 (e, m, typed, record { values = es; rest = n; reads = r; given = g; follows = f })

  type_read : (s : Spot) (xs : List Name) (t : Terminal) (j : ℕ) (w : List Mark) → Iff (following.Rest (type_context d s) (BehindType k d K s xs) (at_type_operand []) (inside t j ∷ w)) (After k d K (after_type k s xs t (expression.step (type_context d s) (at_type_operand []) t)) (spot_depth d s) t j w)
  type_read s xs t j w = iff_trans _ _ _ (quotient (type_context d s) (BehindType k d K s xs) (at_type_operand []) t j w (begins_type_valid (type_context d s) refl) (type_is_apart k d K s xs)) (starts (type_operand [] t) (type_starts t))
    where
      starts : (p : expression.Progress) → NeverEnds p → Iff (following.After (type_context d s) (BehindType k d K s xs) p (spot_depth d s) t j w) (After k d K (after_type k s xs t p) (spot_depth d s) t j w)
      starts expression.fails never = iff_same _
      starts (expression.goes y) never = iff_same _
      starts (expression.ends e) never = absurd never

  -- no type begins with these terminals
  no_type : (s : Spot) (xs : List Name) (t : Terminal) (j : ℕ) (w : List Mark) → type_operand [] t ≡ expression.fails → following.Rest (type_context d s) (BehindType k d K s xs) (at_type_operand []) (inside t j ∷ w) → ⊥
  no_type s xs t j w is h = subst (λ (p : expression.Progress). following.After (type_context d s) (BehindType k d K s xs) p (spot_depth d s) t j w) is ((quotient (type_context d s) (BehindType k d K s xs) (at_type_operand []) t j w (begins_type_valid (type_context d s) refl) (type_is_apart k d K s xs)).0 h)

  -- a `=` comes next
  names_assigned : (s : Spot) (xs : List Name) (q : Pos) (j : ℕ) (w : List Mark) → Iff (BehindNames k d K s xs (inside (Assign q) j ∷ w)) ((j ≡ spot_depth d s) × following.Rest (value_context d s) (BehindValue k d K s xs None none) (at_operand []) w)
  names_assigned s xs q j w = (
    λ h. to h.type_expr h.values h.between h.rest h.typed h.reads h.given h.follows,
    λ h. let v = (values_begin true (spot_depth d s) _ w).1 h.1 in back h.0 v.whole v.rest v.reads v.follows,
  )
    where
      to : (o : Option Ex) (es : Exs) (m n : List Mark) → ReadsOptionalType (spot_depth d s) o (inside (Assign q) j ∷ w) m → ReadsInitial (spot_depth d s) es m n → IsGiven k o es → BehindSpec k d K s (spec xs o es) n → (j ≡ spot_depth d s) × following.Rest (value_context d s) (BehindValue k d K s xs None none) (at_operand []) w
      to None none m n typed r g f = absurd (never_given k g)
      to None (some x es) m n typed r g f =
          let same_w : r.1 ≡ w = cc (typed, r.2) in
          (cc (typed, r.2), (values_begin true (spot_depth d s) _ w).0 (record { whole = some x es; rest = n; reads = subst (λ (ts : List Mark). ReadsExs true (spot_depth d s) (some x es) ts n) same_w r.3; follows = f }))
      to (Some e) es m n typed r g f = absurd (no_type s xs (Assign q) j w refl ((begins_type (type_context d s) (BehindType k d K s xs) (inside (Assign q) j ∷ w) refl).0 (e, m, typed, record { values = es; rest = n; reads = r; given = g; follows = f })))

      given : (c : Declares) (g : Ex) (gs : Exs) → IsGiven c None (some g gs)
      given of_constants g gs = tt
      given of_variables g gs = tt

      back : j ≡ spot_depth d s → (es : Exs) (m : List Mark) → ReadsExs true (spot_depth d s) es w m → BehindSpec k d K s (spec xs None es) m → BehindNames k d K s xs (inside (Assign q) j ∷ w)
      back is none m r f = absurd r
      back is (some g gs) m r f = record { type_expr = None; values = some g gs; between = inside (Assign q) j ∷ w; rest = m; typed = refl; reads = (q, w, ap (λ (i : ℕ). inside (Assign q) i ∷ w) is, r); given = given k g gs; follows = f }

  pub names_step : (s : Spot) (xs : List Name) (t : Terminal) (j : ℕ) (w : List Mark) → Iff (Rest k d K (at_names s xs) (inside t j ∷ w)) (After k d K (step k d (at_names s xs) t) (spot_depth d s) t j w)
  names_step s xs Comma j w = (
    λ h. elim ((names_comma (BehindNames k d K s) (spot_depth d s) xs j w).0 h) [ inl a ↦ a | inr b ↦ absurd (no_type s xs Comma j w refl ((type_begins s xs Comma j w (λ q e. cc)).0 b)) ],
    λ h. (names_comma (BehindNames k d K s) (spot_depth d s) xs j w).1 (inl h),
  )
  names_step s xs (Assign q) j w = iff_trans _ _ _ (names_other (BehindNames k d K s) (spot_depth d s) xs (Assign q) j w (λ e. cc)) (names_assigned s xs q j w)
  names_step s xs t j w = iff_trans _ _ _ (names_other (BehindNames k d K s) (spot_depth d s) xs t j w (λ e. cc)) (iff_trans _ _ _ (type_begins s xs t j w (λ q e. cc)) (type_read s xs t j w))

  pub next_name_step : (s : Spot) (xs : List Name) (t : Terminal) (j : ℕ) (w : List Mark) → Iff (Rest k d K (at_next_name s xs) (inside t j ∷ w)) (After k d K (step k d (at_next_name s xs) t) (spot_depth d s) t j w)
  next_name_step s xs (Identifier x) j w = name_joins (BehindNames k d K s) (spot_depth d s) xs x j w
  next_name_step s xs t j w = (λ h. absurd (wanted_first (BehindNames k d K s) (spot_depth d s) xs t j w (λ x e. cc) h), λ h. absurd h)
