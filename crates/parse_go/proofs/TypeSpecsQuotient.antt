-- A terminal of a type declaration divides what may follow by it from the left.
use Rattle.std.proofs.Common.{◌≡◌, ℕ, suc, List, [], ◌∷◌, ◌++◌, ◌⊎◌, inl, inr, refl, sym, subst, append_assoc}
use Rattle.std.proofs.lemmas.List.{append-nil}
use Rattle.base.specs.declared.pos.Pos.{Pos}
use Rattle.syntax.specs.declared.expression.Name.{Name}
use Rattle.syntax.specs.Declarations.{Field, TypeSpec}
use Rattle.parse_expressions.specs.declared.terminal.Terminal.{Terminal}
use Rattle.parse_expressions.specs.declared.terminal.Terminal.TheVariants.{Identifier, Comma, Semicolon, LeftParen, RightParen, LeftBrace, RightBrace, Struct}
use Rattle.parse_expressions.specs.Grammar.{Mark, inside}
use Rattle.parse_expressions.specs.Machine.{Open}
use Rattle.parse_expressions.specs.Machine as expression
use Rattle.parse_expressions.proofs.Following.{Iff, ValidOpen, After as ExpressionAfter}
use Rattle.parse_expressions.proofs.Quotient.{quotient as expression_quotient}
use Rattle.parse_simple_statements.specs.Grammar.{AreGrouped, group_ends, last_of_group, next_of_group, IsGroup, alone, grouped}
use Rattle.parse_simple_statements.proofs.Marks.{Next, NextAt, next_read, next_other, next_at_read, next_at_other, iff_same, iff_trans, iff_never, only_left, only_right, neither}
use Rattle.parse_simple_statements.proofs.Starts.{NeverEnds, type_starts}
use Rattle.parse_go.specs.Grammar.{ReadsField, AreFields, fields_end, last_field, next_field, ReadsTypeSpec}
use Rattle.parse_go.specs.TypeSpecs.{Spot, alone_here, in_group, Fields, Types, at_first, at_spec, at_struct, at_brace, at_field, at_next_name, at_names, in_type, at_end, at_group_end, spot_depth, type_context, with_field, spec_of, behind_type, after_type, step, nesting_in_braces, nesting_after, nesting}
use Rattle.parse_go.proofs.Types.{type_step, type_apart}
use Rattle.parse_go.proofs.Fields.{OneField, NextName, field_comma, field_type, field_name, no_name, field_begins}
use Rattle.parse_go.proofs.TypeSpecsFollowing.{FromSpecs, BehindSpec, with_fields, FromFields, BraceEnds, BehindField, FieldEnds, FromBrace, FromStruct, FromTypes, Rest, After, Valid}

-- one type, and then what may follow it
pub record OneSpec (K : List TypeSpec → List Mark → Type 0) (s : Spot) (w : List Mark) : Type 0 where
  pub whole : TypeSpec
  pub rest : List Mark
  pub reads : ReadsTypeSpec (spot_depth s) whole w rest
  pub follows : BehindSpec K s whole rest

module _ (K : List TypeSpec → List Mark → Type 0) where
  -- ---- the words of one type

  spec_name : (s : Spot) (x : Name) (j : ℕ) (w : List Mark) → Iff (OneSpec K s (inside (Identifier x) j ∷ w)) ((j ≡ spot_depth s) × FromStruct K s x w)
  spec_name s x j w = (
    λ h.
        let r = h.reads in
        let same_x : h.whole.name ≡ x = cc (r.2) in
        let rest_is : w ≡ inside Struct (spot_depth s) ∷ inside (LeftBrace r.0) (spot_depth s) ∷ r.1 = cc (r.2) in
        let brace : FromBrace K s h.whole.name (inside (LeftBrace r.0) (spot_depth s) ∷ r.1) = record { pos = r.0; rest = r.1; mark = refl; follows = record { others = h.whole.fields; rest = h.rest; reads = r.3; follows = h.follows } } in
        (cc (r.2), record { rest = inside (LeftBrace r.0) (spot_depth s) ∷ r.1; mark = rest_is; follows = subst (λ (y : Name). FromBrace K s y (inside (LeftBrace r.0) (spot_depth s) ∷ r.1)) same_x brace }),
    λ h.
        let a = h.1 in
        let b = a.follows in
        let f = b.follows in
        let marks : inside (Identifier x) j ∷ w ≡ inside (Identifier x) (spot_depth s) ∷ inside Struct (spot_depth s) ∷ inside (LeftBrace b.pos) (spot_depth s) ∷ b.rest = cc (h.0, a.mark, b.mark) in
        record { whole = record { name = x; fields = f.others }; rest = f.rest; reads = (b.pos, b.rest, marks, f.reads); follows = f.follows },
  )

  spec_first : (s : Spot) (t : Terminal) (j : ℕ) (w : List Mark) → ((x : Name) → t ≡ Identifier x → ⊥) → OneSpec K s (inside t j ∷ w) → ⊥
  spec_first s t j w other h = other h.whole.name (cc (h.reads.2))

  -- ---- groups

  -- a group ends, or goes on with one type more
  pub group_item : (specs : List TypeSpec) (w : List Mark) → Iff (FromSpecs K specs w) (Next RightParen 0 (K specs) w ⊎ OneSpec K (in_group specs) w)
  group_item specs w = (
    λ h. to w h.others h.rest h.reads h.follows,
    λ h. elim h [
      | inl a ↦ subst (FromSpecs K specs) (sym a.mark) (record { others = []; rest = a.rest; reads = group_ends; follows = subst (λ (l : List TypeSpec). K l a.rest) (sym (append-nil specs)) a.follows })
      | inr o ↦ elim o.follows [
        | inl a ↦ record { others = o.whole ∷ []; rest = a.rest; reads = last_of_group (subst (λ (ts : List Mark). ReadsTypeSpec 1 o.whole w ts) a.mark o.reads); follows = a.follows }
        | inr a ↦
            let f = a.follows in
            record { others = o.whole ∷ f.others; rest = f.rest; reads = next_of_group (subst (λ (ts : List Mark). ReadsTypeSpec 1 o.whole w ts) a.mark o.reads) f.reads; follows = subst (λ (l : List TypeSpec). K l f.rest) (append_assoc specs (o.whole ∷ []) f.others) f.follows }
      ]
    ],
  )
    where
      to : (ts : List Mark) (others : List TypeSpec) (m : List Mark) → AreGrouped ReadsTypeSpec 0 others ts m → K (specs ++ others) m → Next RightParen 0 (K specs) ts ⊎ OneSpec K (in_group specs) ts
      to _ _ m group_ends k = inl (record { rest = m; mark = refl; follows = subst (λ (l : List TypeSpec). K l m) (append-nil specs) k })
      to ts _ m (last_of_group {a = a} r) k = inr (record { whole = a; rest = inside RightParen 0 ∷ m; reads = r; follows = inl (record { rest = m; mark = refl; follows = k }) })
      to ts _ m (next_of_group {a = a} {others = others} {m = n} r g) k =
          let grouped : specs ++ a ∷ others ≡ (specs ++ a ∷ []) ++ others = sym (append_assoc specs (a ∷ []) others) in
          inr (record { whole = a; rest = inside Semicolon 1 ∷ n; reads = r; follows = inr (record { rest = n; mark = refl; follows = record { others = others; rest = m; reads = g; follows = subst (λ (l : List TypeSpec). K l m) grouped k } }) })

  -- after the word: one type, or a group
  pub first_item : (w : List Mark) → Iff (FromTypes K w) (NextAt LeftParen 0 (λ q. FromSpecs K []) w ⊎ OneSpec K alone_here w)
  first_item w = (
    λ h. to w h.specs h.rest h.reads h.follows,
    λ h. elim h [
      | inl a ↦ let f = a.follows in subst (FromTypes K) (sym a.mark) (record { specs = f.others; rest = f.rest; reads = grouped f.reads; follows = f.follows })
      | inr o ↦ record { specs = o.whole ∷ []; rest = o.rest; reads = alone o.reads; follows = o.follows }
    ],
  )
    where
      to : (ts : List Mark) (specs : List TypeSpec) (m : List Mark) → IsGroup ReadsTypeSpec 0 specs ts m → K specs m → NextAt LeftParen 0 (λ q. FromSpecs K []) ts ⊎ OneSpec K alone_here ts
      to ts _ m (alone {a = a} r) k = inr (record { whole = a; rest = m; reads = r; follows = k })
      to _ specs m (grouped {pos = q} {m = n} g) k = inl (record { pos = q; rest = n; mark = refl; follows = record { others = specs; rest = m; reads = g; follows = k } })

  -- ---- fields

  -- a struct ends, or goes on with one field more
  pub field_item : (s : Fields) (w : List Mark) → Iff (FromFields K s w) (BraceEnds K s w ⊎ OneField (suc (spot_depth s.spot)) (λ f. BehindField K (with_field s f.names f.type_expr)) w)
  field_item s w = (
    λ h. to w h.others h.rest h.reads h.follows,
    λ h. elim h [
      | inl a ↦ subst (FromFields K s) (sym a.mark) (record { others = []; rest = a.rest; reads = fields_end; follows = subst (λ (l : List Field). BehindSpec K s.spot (record { name = s.name; fields = l }) a.rest) (sym (append-nil s.fields)) a.follows })
      | inr o ↦ elim o.follows [
        | inl a ↦ record { others = o.whole ∷ []; rest = a.rest; reads = last_field a.pos (subst (λ (ts : List Mark). ReadsField (suc (spot_depth s.spot)) o.whole w ts) a.mark o.reads); follows = a.follows }
        | inr a ↦
            let f = a.follows in
            record { others = o.whole ∷ f.others; rest = f.rest; reads = next_field (subst (λ (ts : List Mark). ReadsField (suc (spot_depth s.spot)) o.whole w ts) a.mark o.reads) f.reads; follows = subst (λ (l : List Field). BehindSpec K s.spot (record { name = s.name; fields = l }) f.rest) (append_assoc s.fields (o.whole ∷ []) f.others) f.follows }
      ]
    ],
  )
    where
      to : (ts : List Mark) (others : List Field) (m : List Mark) → AreFields (spot_depth s.spot) others ts m → BehindSpec K s.spot (with_fields s others) m → BraceEnds K s ts ⊎ OneField (suc (spot_depth s.spot)) (λ f. BehindField K (with_field s f.names f.type_expr)) ts
      to _ _ m (fields_end {q = q}) k = inl (record { pos = q; rest = m; mark = refl; follows = subst (λ (l : List Field). BehindSpec K s.spot (record { name = s.name; fields = l }) m) (append-nil s.fields) k })
      to ts _ m (last_field {f = f} q r) k = inr (record { whole = f; rest = inside (RightBrace q) (spot_depth s.spot) ∷ m; reads = r; follows = inl (record { pos = q; rest = m; mark = refl; follows = k }) })
      to ts _ m (next_field {f = f} {fs = fs} {m = n} r g) k =
          let grouped : s.fields ++ f ∷ fs ≡ (s.fields ++ f ∷ []) ++ fs = sym (append_assoc s.fields (f ∷ []) fs) in
          inr (record { whole = f; rest = inside Semicolon (suc (spot_depth s.spot)) ∷ n; reads = r; follows = inr (record { rest = n; mark = refl; follows = record { others = fs; rest = m; reads = g; follows = subst (λ (l : List Field). BehindSpec K s.spot (record { name = s.name; fields = l }) m) grouped k } }) })

  -- ---- states

  first_step : (t : Terminal) (j : ℕ) (w : List Mark) → Iff (NextAt LeftParen 0 (λ q. FromSpecs K []) (inside t j ∷ w) ⊎ OneSpec K alone_here (inside t j ∷ w)) (After K (step at_first t) 0 t j w)
  first_step (Identifier x) j w = only_right _ _ _ (next_at_other LeftParen 0 (λ q. FromSpecs K []) (Identifier x) j w (λ p e. cc (e))) (spec_name alone_here x j w)
  first_step (LeftParen q) j w = only_left _ _ _ (spec_first alone_here (LeftParen q) j w (λ x e. cc (e))) (next_at_read LeftParen 0 (λ q. FromSpecs K []) q j w (λ p e. cc (e)))
  first_step t j w = iff_never _ (neither _ _ (next_at_other LeftParen 0 (λ q. FromSpecs K []) t j w (λ p e. cc (e))) (spec_first alone_here t j w (λ x e. cc (e))))

  spec_step : (specs : List TypeSpec) (t : Terminal) (j : ℕ) (w : List Mark) → Iff (Next RightParen 0 (K specs) (inside t j ∷ w) ⊎ OneSpec K (in_group specs) (inside t j ∷ w)) (After K (step (at_spec specs) t) (nesting (at_spec specs) t) t j w)
  spec_step specs (Identifier x) j w = only_right _ _ _ (next_other RightParen 0 (K specs) (Identifier x) j w (λ e. cc (e))) (spec_name (in_group specs) x j w)
  spec_step specs RightParen j w = only_left _ _ _ (spec_first (in_group specs) RightParen j w (λ x e. cc (e))) (next_read RightParen 0 (K specs) j w)
  spec_step specs t j w = iff_never _ (neither _ _ (next_other RightParen 0 (K specs) t j w (λ e. cc (e))) (spec_first (in_group specs) t j w (λ x e. cc (e))))

  struct_step : (s : Spot) (x : Name) (t : Terminal) (j : ℕ) (w : List Mark) → Iff (FromStruct K s x (inside t j ∷ w)) (After K (step (at_struct s x) t) (spot_depth s) t j w)
  struct_step s x Struct j w = next_read Struct (spot_depth s) (FromBrace K s x) j w
  struct_step s x t j w = (λ h. next_other Struct (spot_depth s) (FromBrace K s x) t j w (λ e. cc (e)) h, λ h. absurd h)

  brace_step : (s : Spot) (x : Name) (t : Terminal) (j : ℕ) (w : List Mark) → Iff (FromBrace K s x (inside t j ∷ w)) (After K (step (at_brace s x) t) (spot_depth s) t j w)
  brace_step s x (LeftBrace q) j w = next_at_read LeftBrace (spot_depth s) (λ p. FromFields K (record { spot = s; name = x; fields = [] })) q j w (λ p e. cc (e))
  brace_step s x t j w = (λ h. next_at_other LeftBrace (spot_depth s) (λ p. FromFields K (record { spot = s; name = x; fields = [] })) t j w (λ p e. cc (e)) h, λ h. absurd h)

  brace_ends : (s : Fields) (q : Pos) (j : ℕ) (w : List Mark) → Iff (BraceEnds K s (inside (RightBrace q) j ∷ w)) ((j ≡ spot_depth s.spot) × BehindSpec K s.spot (spec_of s) w)
  brace_ends s q j w = next_at_read RightBrace (spot_depth s.spot) (λ p. BehindSpec K s.spot (spec_of s)) q j w (λ p e. cc (e))

  no_brace : (s : Fields) (t : Terminal) (j : ℕ) (w : List Mark) → ((q : Pos) → t ≡ RightBrace q → ⊥) → BraceEnds K s (inside t j ∷ w) → ⊥
  no_brace s t j w other h = next_at_other RightBrace (spot_depth s.spot) (λ p. BehindSpec K s.spot (spec_of s)) t j w other h

  field_step : (s : Fields) (t : Terminal) (j : ℕ) (w : List Mark) → Iff (BraceEnds K s (inside t j ∷ w) ⊎ NextName (suc (spot_depth s.spot)) (FieldEnds K s) [] (inside t j ∷ w)) (After K (step (at_field s) t) (nesting_in_braces s t) t j w)
  field_step s (Identifier x) j w = only_right _ _ _ (no_brace s (Identifier x) j w (λ q e. cc (e))) (field_name (suc (spot_depth s.spot)) (FieldEnds K s) [] x j w)
  field_step s (RightBrace q) j w = only_left _ _ _ (no_name (suc (spot_depth s.spot)) (FieldEnds K s) [] (RightBrace q) j w (λ x e. cc (e))) (brace_ends s q j w)
  field_step s t j w = iff_never _ (neither _ _ (no_brace s t j w (λ q e. cc (e))) (no_name (suc (spot_depth s.spot)) (FieldEnds K s) [] t j w (λ x e. cc (e))))

  next_name_step : (s : Fields) (xs : List Name) (t : Terminal) (j : ℕ) (w : List Mark) → Iff (NextName (suc (spot_depth s.spot)) (FieldEnds K s) xs (inside t j ∷ w)) (After K (step (at_next_name s xs) t) (suc (spot_depth s.spot)) t j w)
  next_name_step s xs (Identifier x) j w = field_name (suc (spot_depth s.spot)) (FieldEnds K s) xs x j w
  next_name_step s xs t j w = (λ h. no_name (suc (spot_depth s.spot)) (FieldEnds K s) xs t j w (λ x e. cc (e)) h, λ h. absurd h)

  behind_field_step : (s : Fields) (t : Terminal) (j : ℕ) (w : List Mark) → Iff (BehindField K s (inside t j ∷ w)) (After K (behind_type s t) (nesting_in_braces s t) t j w)
  behind_field_step s (RightBrace q) j w = only_left _ _ _ (next_other Semicolon (suc (spot_depth s.spot)) (FromFields K s) (RightBrace q) j w (λ e. cc (e))) (brace_ends s q j w)
  behind_field_step s Semicolon j w = only_right _ _ _ (no_brace s Semicolon j w (λ q e. cc (e))) (next_read Semicolon (suc (spot_depth s.spot)) (FromFields K s) j w)
  behind_field_step s t j w = iff_never _ (neither _ _ (no_brace s t j w (λ q e. cc (e))) (next_other Semicolon (suc (spot_depth s.spot)) (FromFields K s) t j w (λ e. cc (e))))

  -- in the type of a field: what the machine of types does
  after_type_step : (s : Fields) (xs : List Name) (o : Open) (t : Terminal) (j : ℕ) (w : List Mark) (p : expression.Progress) → Iff (ExpressionAfter (type_context s) (FieldEnds K s xs) p (expression.nesting (type_context s) o t) t j w) (After K (after_type s xs t p) (nesting_after s o t p) t j w)
  after_type_step s xs o t j w expression.fails = iff_same _
  after_type_step s xs o t j w (expression.goes n) = iff_same _
  after_type_step s xs o t j w (expression.ends e) = (
    λ h. (behind_field_step (with_field s xs e) t j w).0 h.1,
    λ h. (λ is. cc (is), (behind_field_step (with_field s xs e) t j w).1 h),
  )

  -- the same at its first terminal
  type_begins_step : (s : Fields) (xs : List Name) (t : Terminal) (j : ℕ) (w : List Mark) (p : expression.Progress) → NeverEnds p → Iff (ExpressionAfter (type_context s) (FieldEnds K s xs) p (suc (spot_depth s.spot)) t j w) (After K (after_type s xs t p) (suc (spot_depth s.spot)) t j w)
  type_begins_step s xs t j w expression.fails begins = iff_same _
  type_begins_step s xs t j w (expression.goes n) begins = iff_same _
  type_begins_step s xs t j w (expression.ends e) begins = absurd begins

  names_step : (s : Fields) (xs : List Name) (t : Terminal) (j : ℕ) (w : List Mark) → Iff (Rest K (at_names s xs) (inside t j ∷ w)) (After K (step (at_names s xs) t) (suc (spot_depth s.spot)) t j w)
  names_step s xs Comma j w = field_comma (suc (spot_depth s.spot)) (FieldEnds K s) xs j w
  names_step s xs t j w =
      let d = suc (spot_depth s.spot) in
      iff_trans _ _ _ (field_type d (FieldEnds K s) xs t j w (λ e. cc (e))) (type_begins_step s xs t j w (type_step d t) (type_starts t))

  in_type_step : (s : Fields) (xs : List Name) (o : Open) (t : Terminal) (j : ℕ) (w : List Mark) → ValidOpen (type_context s) o → Iff (Rest K (in_type s xs o) (inside t j ∷ w)) (After K (step (in_type s xs o) t) (nesting (in_type s xs o) t) t j w)
  in_type_step s xs o t j w valid = iff_trans _ _ _ (expression_quotient (type_context s) (FieldEnds K s xs) o t j w valid (type_apart (suc (spot_depth s.spot)) (FieldEnds K s xs))) (after_type_step s xs o t j w (expression.step (type_context s) o t))

  end_step : (s : Spot) (x : TypeSpec) (t : Terminal) (j : ℕ) (w : List Mark) → Iff (BehindSpec K s x (inside t j ∷ w)) (After K (step (at_end s x) t) (nesting (at_end s x) t) t j w)
  end_step alone_here x t j w = iff_same _
  end_step (in_group specs) x RightParen j w = only_left _ _ _ (next_other Semicolon 1 (FromSpecs K (specs ++ x ∷ [])) RightParen j w (λ e. cc (e))) (next_read RightParen 0 (K (specs ++ x ∷ [])) j w)
  end_step (in_group specs) x Semicolon j w = only_right _ _ _ (next_other RightParen 0 (K (specs ++ x ∷ [])) Semicolon j w (λ e. cc (e))) (next_read Semicolon 1 (FromSpecs K (specs ++ x ∷ [])) j w)
  end_step (in_group specs) x t j w = iff_never _ (neither _ _ (next_other RightParen 0 (K (specs ++ x ∷ [])) t j w (λ e. cc (e))) (next_other Semicolon 1 (FromSpecs K (specs ++ x ∷ [])) t j w (λ e. cc (e))))

  -- the alternatives where a field may begin
  field_names : (s : Fields) (w : List Mark) → Iff (FromFields K s w) (BraceEnds K s w ⊎ NextName (suc (spot_depth s.spot)) (FieldEnds K s) [] w)
  field_names s w = (
    λ h. elim ((field_item s w).0 h) [ inl a ↦ inl a | inr o ↦ inr ((field_begins (suc (spot_depth s.spot)) (λ f. BehindField K (with_field s f.names f.type_expr)) w).0 o) ],
    λ h. elim h [ inl a ↦ (field_item s w).1 (inl a) | inr o ↦ (field_item s w).1 (inr ((field_begins (suc (spot_depth s.spot)) (λ f. BehindField K (with_field s f.names f.type_expr)) w).1 o)) ],
  )

  pub quotient : (s : Types) (t : Terminal) (j : ℕ) (w : List Mark) → Valid s → Iff (Rest K s (inside t j ∷ w)) (After K (step s t) (nesting s t) t j w)
  quotient at_first t j w valid = iff_trans _ _ _ (first_item (inside t j ∷ w)) (first_step t j w)
  quotient (at_spec specs) t j w valid = iff_trans _ _ _ (group_item specs (inside t j ∷ w)) (spec_step specs t j w)
  quotient (at_struct s x) t j w valid = struct_step s x t j w
  quotient (at_brace s x) t j w valid = brace_step s x t j w
  quotient (at_field s) t j w valid = iff_trans _ _ _ (field_names s (inside t j ∷ w)) (field_step s t j w)
  quotient (at_next_name s xs) t j w valid = next_name_step s xs t j w
  quotient (at_names s xs) t j w valid = names_step s xs t j w
  quotient (in_type s xs o) t j w valid = in_type_step s xs o t j w valid
  quotient (at_end s x) t j w valid = end_step s x t j w
  quotient (at_group_end specs) t j w valid = iff_same _
