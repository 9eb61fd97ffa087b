-- A terminal of parameters divides what may follow by it from the left.
use Rattle.std.proofs.Common.{◌≡◌, ℕ, false, true, List, [], ◌∷◌, ◌++◌, ◌⊎◌, inl, inr, refl, sym, ap, subst, ◌∙◌, append_assoc}
use Rattle.syntax.specs.declared.expression.Name.{Name}
use Rattle.syntax.specs.Expressions.{name, Exs, none, some}
use Rattle.syntax.specs.Lists.{appended, with_ex}
use Rattle.syntax.specs.Declarations.{Field, Parameters, unnamed, named}
use Rattle.syntax.proofs.Rows.{appended_assoc}
use Rattle.parse_expressions.specs.declared.terminal.Terminal.{Terminal}
use Rattle.parse_expressions.specs.declared.terminal.Terminal.TheVariants.{Identifier, Comma, RightParen}
use Rattle.parse_expressions.specs.Grammar.{Mark, inside, ReadsType, ClosesArguments, closing, comma_closing}
use Rattle.parse_expressions.specs.Machine.{Open}
use Rattle.parse_expressions.specs.Machine as expression
use Rattle.parse_expressions.proofs.Following.{Iff, After as ExpressionAfter}
use Rattle.parse_expressions.proofs.Quotient.{quotient as expression_quotient}
use Rattle.parse_simple_statements.proofs.Marks.{next_read, next_other, iff_same, iff_trans, iff_never, only_left, only_right, neither}
use Rattle.parse_simple_statements.proofs.Starts.{NeverEnds, type_starts}
use Rattle.parse_go.specs.Grammar.{ReadsMoreTypes, ReadsField, AreNamed, last_named, next_named}
use Rattle.parse_go.specs.Parameters.{Params, at_name_or_type, at_names, at_next_type, in_type, at_field, at_next_name, at_field_names, in_field_type, type_context, types_named, field_named, behind_type, after_type, behind_field, after_field, type_begins, step, nesting_in_parens, nesting_after, nesting}
use Rattle.parse_go.proofs.Types.{type_apart, type_first, type_name, no_type}
use Rattle.parse_go.proofs.Fields.{InNames, NextName, OneField, field_comma, field_type, field_name, no_name, field_begins}
use Rattle.parse_go.proofs.ParametersFollowing.{CloseParen, ListEnd, TypesEnd, TypesFrom, MoreFields, FieldEnd, FieldThen, Rest, After, Valid}

-- ---- how a list ends

end_comma : (j : ℕ) (w n : List Mark) → ClosesArguments 0 false (inside Comma j ∷ w) n → (j ≡ 1) × (w ≡ inside RightParen 0 ∷ n)
end_comma _ _ _ comma_closing = (refl, refl)

end_paren : (j : ℕ) (w n : List Mark) → ClosesArguments 0 false (inside RightParen j ∷ w) n → (j ≡ 0) × (w ≡ n)
end_paren _ _ _ closing = (refl, refl)

end_other : (t : Terminal) (j : ℕ) (w n : List Mark) → (t ≡ Comma → ⊥) → (t ≡ RightParen → ⊥) → ClosesArguments 0 false (inside t j ∷ w) n → ⊥
end_other _ _ _ _ not_comma not_paren closing = not_paren refl
end_other _ _ _ _ not_comma not_paren comma_closing = not_comma refl

pub appended_none : (es : Exs) → appended es none ≡ es
appended_none none = refl
appended_none (some e es) = ap (some e) (appended_none es)

-- a name more among names that are types
named_more : (xs : List Name) (x : Name) → with_ex (types_named xs) (name x) ≡ types_named (xs ++ x ∷ [])
named_more [] x = refl
named_more (y ∷ xs) x = ap (some (name y)) (named_more xs x)

module _ (K : Parameters → List Mark → Type 0) where
  list_comma : (ps : Parameters) (j : ℕ) (w : List Mark) → Iff (ListEnd K ps (inside Comma j ∷ w)) ((j ≡ 1) × CloseParen K ps w)
  list_comma ps j w = (
    λ h. let c = end_comma j w h.rest h.closes in (c.0, record { rest = h.rest; mark = c.1; follows = h.follows }),
    λ h.
        let a = h.1 in
        record { rest = a.rest; closes = subst (λ (i : ℕ). ClosesArguments 0 false (inside Comma i ∷ w) a.rest) (sym h.0) (subst (λ (ts : List Mark). ClosesArguments 0 false (inside Comma 1 ∷ ts) a.rest) (sym a.mark) comma_closing); follows = a.follows },
  )

  list_paren : (ps : Parameters) (j : ℕ) (w : List Mark) → Iff (ListEnd K ps (inside RightParen j ∷ w)) ((j ≡ 0) × K ps w)
  list_paren ps j w = (
    λ h. let c = end_paren j w h.rest h.closes in (c.0, subst (K ps) (sym c.1) h.follows),
    λ h. record { rest = w; closes = subst (λ (i : ℕ). ClosesArguments 0 false (inside RightParen i ∷ w) w) (sym h.0) closing; follows = h.1 },
  )

  no_list_end : (ps : Parameters) (t : Terminal) (j : ℕ) (w : List Mark) → (t ≡ Comma → ⊥) → (t ≡ RightParen → ⊥) → ListEnd K ps (inside t j ∷ w) → ⊥
  no_list_end ps t j w not_comma not_paren h = end_other t j w h.rest not_comma not_paren h.closes

  no_paren : (ps : Parameters) (t : Terminal) (j : ℕ) (w : List Mark) → (t ≡ RightParen → ⊥) → CloseParen K ps (inside t j ∷ w) → ⊥
  no_paren ps t j w other h = next_other RightParen 0 (K ps) t j w other h

  -- ---- types without names

  types_comma : (types : Exs) (j : ℕ) (w : List Mark) → Iff (TypesEnd K types (inside Comma j ∷ w)) ((j ≡ 1) × (CloseParen K (unnamed types) w ⊎ TypesFrom K types w))
  types_comma types j w = (
    λ h. to h.others h.between h.reads h.ends,
    λ h. elim h.1 [
      | inl a ↦ record { others = none; between = inside Comma j ∷ w; reads = refl; ends = subst (λ (es : Exs). ListEnd K (unnamed es) (inside Comma j ∷ w)) (sym (appended_none types)) ((list_comma (unnamed types) j w).1 (h.0, a)) }
      | inr o ↦
          let f = o.follows in
          record { others = some o.whole f.others; between = f.between; reads = (w, o.rest, ap (λ (i : ℕ). inside Comma i ∷ w) h.0, o.reads, f.reads); ends = subst (λ (es : Exs). ListEnd K (unnamed es) f.between) (appended_assoc types (some o.whole none) f.others) f.ends }
    ],
  )
    where
      to : (others : Exs) (m : List Mark) → ReadsMoreTypes 1 others (inside Comma j ∷ w) m → ListEnd K (unnamed (appended types others)) m → (j ≡ 1) × (CloseParen K (unnamed types) w ⊎ TypesFrom K types w)
      to none m r e =
          let c = (list_comma (unnamed types) j w).0 (subst (λ (es : Exs). ListEnd K (unnamed es) (inside Comma j ∷ w)) (appended_none types) (subst (ListEnd K (unnamed (appended types none))) (sym r) e)) in
          (c.0, inl c.1)
      to (some g gs) m r e =
          let same_w : r.0 ≡ w = cc (r.2) in
          let grouped : appended types (some g gs) ≡ appended (with_ex types g) gs = sym (appended_assoc types (some g none) gs) in
          (cc (r.2), inr (record { whole = g; rest = r.1; reads = subst (λ (ts : List Mark). ReadsType true 1 g ts r.1) same_w r.3; follows = record { others = gs; between = m; reads = r.4; ends = subst (λ (es : Exs). ListEnd K (unnamed es) m) grouped e } }))

  -- no comma follows
  types_end : (types : Exs) (t : Terminal) (j : ℕ) (w : List Mark) → (t ≡ Comma → ⊥) → Iff (TypesEnd K types (inside t j ∷ w)) (ListEnd K (unnamed types) (inside t j ∷ w))
  types_end types t j w other = (
    λ h. to h.others h.between h.reads h.ends,
    λ h. record { others = none; between = inside t j ∷ w; reads = refl; ends = subst (λ (es : Exs). ListEnd K (unnamed es) (inside t j ∷ w)) (sym (appended_none types)) h },
  )
    where
      to : (others : Exs) (m : List Mark) → ReadsMoreTypes 1 others (inside t j ∷ w) m → ListEnd K (unnamed (appended types others)) m → ListEnd K (unnamed types) (inside t j ∷ w)
      to none m r e = subst (λ (es : Exs). ListEnd K (unnamed es) (inside t j ∷ w)) (appended_none types) (subst (ListEnd K (unnamed (appended types none))) (sym r) e)
      to (some g gs) m r e = absurd (other (cc (r.2)))

  behind_type_step : (types : Exs) (t : Terminal) (j : ℕ) (w : List Mark) → Iff (TypesEnd K types (inside t j ∷ w)) (After K (behind_type types t) (nesting_in_parens t) j w)
  behind_type_step types Comma j w = types_comma types j w
  behind_type_step types RightParen j w = iff_trans _ _ _ (types_end types RightParen j w (λ e. cc (e))) (list_paren (unnamed types) j w)
  behind_type_step types t j w = iff_trans _ _ _ (types_end types t j w (λ e. cc (e))) (iff_never _ (no_list_end (unnamed types) t j w (λ e. cc (e)) (λ e. cc (e))))

  -- in a type: what the machine of types does
  after_type_step : (types : Exs) (o : Open) (t : Terminal) (j : ℕ) (w : List Mark) (p : expression.Progress) → Iff (ExpressionAfter type_context (λ e. TypesEnd K (with_ex types e)) p (expression.nesting type_context o t) t j w) (After K (after_type types t p) (nesting_after o t p) j w)
  after_type_step types o t j w expression.fails = iff_same _
  after_type_step types o t j w (expression.goes n) = iff_same _
  after_type_step types o t j w (expression.ends e) = (
    λ h. (behind_type_step (with_ex types e) t j w).0 h.1,
    λ h. (λ is. cc (is), (behind_type_step (with_ex types e) t j w).1 h),
  )

  type_begins_step : (types : Exs) (t : Terminal) (j : ℕ) (w : List Mark) (p : expression.Progress) → NeverEnds p → Iff (ExpressionAfter type_context (λ e. TypesEnd K (with_ex types e)) p 1 t j w) (After K (after_type types t p) 1 j w)
  type_begins_step types t j w expression.fails starts = iff_same _
  type_begins_step types t j w (expression.goes n) starts = iff_same _
  type_begins_step types t j w (expression.ends e) starts = absurd starts

  types_from_step : (types : Exs) (t : Terminal) (j : ℕ) (w : List Mark) → Iff (TypesFrom K types (inside t j ∷ w)) (After K (after_type types t (type_begins t)) 1 j w)
  types_from_step types t j w = iff_trans _ _ _ (type_first 1 (λ e. TypesEnd K (with_ex types e)) t j w) (type_begins_step types t j w (type_begins t) (type_starts t))

  -- ---- fields

  -- a field is wanted
  pub fields_more : (fs : List Field) (w : List Mark) → Iff (MoreFields K fs w) (NextName 1 (FieldThen K fs) [] w)
  fields_more fs w = iff_trans _ _ _ (λ h. to w h.others h.rest h.reads h.follows, back) (field_begins 1 (λ f. FieldEnd K (fs ++ f ∷ [])) w)
    where
      to : (ts : List Mark) (others : List Field) (m : List Mark) → AreNamed others ts m → K (named (fs ++ others)) m → OneField 1 (λ f. FieldEnd K (fs ++ f ∷ [])) ts
      to ts _ m (last_named {f = f} {m = n} r c) k = record { whole = f; rest = n; reads = r; follows = inl (record { rest = m; closes = c; follows = k }) }
      to ts _ m (next_named {f = f} {fs = others} {m = n} r a) k =
          let grouped : fs ++ f ∷ others ≡ (fs ++ f ∷ []) ++ others = sym (append_assoc fs (f ∷ []) others) in
          record { whole = f; rest = inside Comma 1 ∷ n; reads = r; follows = inr (record { rest = n; mark = refl; follows = record { others = others; rest = m; reads = a; follows = subst (λ (l : List Field). K (named l) m) grouped k } }) }

      back : OneField 1 (λ f. FieldEnd K (fs ++ f ∷ [])) w → MoreFields K fs w
      back o = elim o.follows [
        | inl a ↦ record { others = o.whole ∷ []; rest = a.rest; reads = last_named o.reads a.closes; follows = a.follows }
        | inr a ↦
            let f = a.follows in
            record { others = o.whole ∷ f.others; rest = f.rest; reads = next_named (subst (λ (ts : List Mark). ReadsField 1 o.whole w ts) a.mark o.reads) f.reads; follows = subst (λ (l : List Field). K (named l) f.rest) (append_assoc fs (o.whole ∷ []) f.others) f.follows }
      ]

  behind_field_step : (fs : List Field) (t : Terminal) (j : ℕ) (w : List Mark) → Iff (FieldEnd K fs (inside t j ∷ w)) (After K (behind_field fs t) (nesting_in_parens t) j w)
  behind_field_step fs Comma j w = (
    λ h. elim h [
      | inl a ↦ let c = (list_comma (named fs) j w).0 a in (c.0, inl c.1)
      | inr a ↦ let c = (next_read Comma 1 (MoreFields K fs) j w).0 a in (c.0, inr ((fields_more fs w).0 c.1))
    ],
    λ h. elim h.1 [
      | inl a ↦ inl ((list_comma (named fs) j w).1 (h.0, a))
      | inr a ↦ inr ((next_read Comma 1 (MoreFields K fs) j w).1 (h.0, (fields_more fs w).1 a))
    ],
  )
  behind_field_step fs RightParen j w = only_left _ _ _ (next_other Comma 1 (MoreFields K fs) RightParen j w (λ e. cc (e))) (list_paren (named fs) j w)
  behind_field_step fs t j w = iff_never _ (neither _ _ (no_list_end (named fs) t j w (λ e. cc (e)) (λ e. cc (e))) (next_other Comma 1 (MoreFields K fs) t j w (λ e. cc (e))))

  after_field_step : (fs : List Field) (xs : List Name) (o : Open) (t : Terminal) (j : ℕ) (w : List Mark) (p : expression.Progress) → Iff (ExpressionAfter type_context (FieldThen K fs xs) p (expression.nesting type_context o t) t j w) (After K (after_field fs xs t p) (nesting_after o t p) j w)
  after_field_step fs xs o t j w expression.fails = iff_same _
  after_field_step fs xs o t j w (expression.goes n) = iff_same _
  after_field_step fs xs o t j w (expression.ends e) = (
    λ h. (behind_field_step (field_named fs xs e) t j w).0 h.1,
    λ h. (λ is. cc (is), (behind_field_step (field_named fs xs e) t j w).1 h),
  )

  field_begins_step : (fs : List Field) (xs : List Name) (t : Terminal) (j : ℕ) (w : List Mark) (p : expression.Progress) → NeverEnds p → Iff (ExpressionAfter type_context (FieldThen K fs xs) p 1 t j w) (After K (after_field fs xs t p) 1 j w)
  field_begins_step fs xs t j w expression.fails starts = iff_same _
  field_begins_step fs xs t j w (expression.goes n) starts = iff_same _
  field_begins_step fs xs t j w (expression.ends e) starts = absurd starts

  -- after names that are no types: the type of the field begins
  field_type_step : (fs : List Field) (xs : List Name) (t : Terminal) (j : ℕ) (w : List Mark) → (t ≡ Comma → ⊥) → Iff (InNames 1 (FieldThen K fs) xs (inside t j ∷ w)) (After K (after_field fs xs t (type_begins t)) 1 j w)
  field_type_step fs xs t j w other = iff_trans _ _ _ (field_type 1 (FieldThen K fs) xs t j w other) (field_begins_step fs xs t j w (type_begins t) (type_starts t))

  -- ---- states

  -- a name that may be a type or that of a parameter
  first_name : (xs : List Name) (x : Name) (j : ℕ) (w : List Mark) → Iff (TypesFrom K (types_named xs) (inside (Identifier x) j ∷ w)) ((j ≡ 1) × TypesEnd K (types_named (xs ++ x ∷ [])) w)
  first_name xs x j w = (
    λ h.
        let is = type_name 1 h.whole x j w h.rest h.reads in
        let types : with_ex (types_named xs) h.whole ≡ types_named (xs ++ x ∷ []) = ap (with_ex (types_named xs)) is.1 ∙ named_more xs x in
        (is.0, subst (λ (es : Exs). TypesEnd K es w) types (subst (TypesEnd K (with_ex (types_named xs) h.whole)) (sym is.2) h.follows)),
    λ h. record { whole = name x; rest = w; reads = ap (λ (i : ℕ). inside (Identifier x) i ∷ w) h.0; follows = subst (λ (es : Exs). TypesEnd K es w) (sym (named_more xs x)) h.1 },
  )

  name_or_type_step : (xs : List Name) (t : Terminal) (j : ℕ) (w : List Mark) → Iff (Rest K (at_name_or_type xs) (inside t j ∷ w)) (After K (step (at_name_or_type xs) t) (nesting_in_parens t) j w)
  name_or_type_step xs (Identifier x) j w = only_right _ _ _ (no_paren (unnamed (types_named xs)) (Identifier x) j w (λ e. cc (e))) (
    λ h. elim h [
      | inl a ↦ let n = (first_name xs x j w).0 a in (n.0, inl n.1)
      | inr a ↦ let n = (field_name 1 (FieldThen K []) xs x j w).0 a in (n.0, inr n.1)
    ],
    λ h. elim h.1 [
      | inl a ↦ inl ((first_name xs x j w).1 (h.0, a))
      | inr a ↦ inr ((field_name 1 (FieldThen K []) xs x j w).1 (h.0, a))
    ],
  )
  name_or_type_step xs RightParen j w = only_left _ _ _ (neither _ _ (no_type 1 (λ e. TypesEnd K (with_ex (types_named xs) e)) RightParen j w (λ n. n)) (no_name 1 (FieldThen K []) xs RightParen j w (λ x e. cc (e)))) (next_read RightParen 0 (K (unnamed (types_named xs))) j w)
  name_or_type_step xs t j w = only_right _ _ _ (no_paren (unnamed (types_named xs)) t j w (λ e. cc (e))) (only_left _ _ _ (no_name 1 (FieldThen K []) xs t j w (λ x e. cc (e))) (types_from_step (types_named xs) t j w))

  names_step : (xs : List Name) (t : Terminal) (j : ℕ) (w : List Mark) → Iff (Rest K (at_names xs) (inside t j ∷ w)) (After K (step (at_names xs) t) (nesting_in_parens t) j w)
  names_step xs Comma j w = (
    λ h. elim h [
      | inl a ↦ let c = (types_comma (types_named xs) j w).0 a in (c.0, elim c.1 [ inl b ↦ inl b | inr b ↦ inr (inl b) ])
      | inr a ↦ let c = (field_comma 1 (FieldThen K []) xs j w).0 a in (c.0, inr (inr c.1))
    ],
    λ h. elim h.1 [
      | inl a ↦ inl ((types_comma (types_named xs) j w).1 (h.0, inl a))
      | inr b ↦ elim b [
        | inl a ↦ inl ((types_comma (types_named xs) j w).1 (h.0, inr a))
        | inr a ↦ inr ((field_comma 1 (FieldThen K []) xs j w).1 (h.0, a))
      ]
    ],
  )
  names_step xs RightParen j w = only_left _ _ _ (λ h. (field_type_step [] xs RightParen j w (λ e. cc (e))).0 h) (behind_type_step (types_named xs) RightParen j w)
  names_step xs t j w = only_right _ _ _ (λ h. (behind_type_step (types_named xs) t j w).0 h) (field_type_step [] xs t j w (λ e. cc (e)))

  next_type_step : (types : Exs) (t : Terminal) (j : ℕ) (w : List Mark) → Iff (Rest K (at_next_type types) (inside t j ∷ w)) (After K (step (at_next_type types) t) (nesting_in_parens t) j w)
  next_type_step types RightParen j w = only_left _ _ _ (no_type 1 (λ e. TypesEnd K (with_ex types e)) RightParen j w (λ n. n)) (next_read RightParen 0 (K (unnamed types)) j w)
  next_type_step types t j w = only_right _ _ _ (no_paren (unnamed types) t j w (λ e. cc (e))) (types_from_step types t j w)

  at_field_step : (fs : List Field) (t : Terminal) (j : ℕ) (w : List Mark) → Iff (Rest K (at_field fs) (inside t j ∷ w)) (After K (step (at_field fs) t) (nesting_in_parens t) j w)
  at_field_step fs (Identifier x) j w = only_right _ _ _ (no_paren (named fs) (Identifier x) j w (λ e. cc (e))) (field_name 1 (FieldThen K fs) [] x j w)
  at_field_step fs RightParen j w = only_left _ _ _ (no_name 1 (FieldThen K fs) [] RightParen j w (λ x e. cc (e))) (next_read RightParen 0 (K (named fs)) j w)
  at_field_step fs t j w = iff_never _ (neither _ _ (no_paren (named fs) t j w (λ e. cc (e))) (no_name 1 (FieldThen K fs) [] t j w (λ x e. cc (e))))

  next_name_step : (fs : List Field) (xs : List Name) (t : Terminal) (j : ℕ) (w : List Mark) → Iff (Rest K (at_next_name fs xs) (inside t j ∷ w)) (After K (step (at_next_name fs xs) t) (nesting_in_parens t) j w)
  next_name_step fs xs (Identifier x) j w = field_name 1 (FieldThen K fs) xs x j w
  next_name_step fs xs t j w = iff_never _ (no_name 1 (FieldThen K fs) xs t j w (λ x e. cc (e)))

  field_names_step : (fs : List Field) (xs : List Name) (t : Terminal) (j : ℕ) (w : List Mark) → Iff (Rest K (at_field_names fs xs) (inside t j ∷ w)) (After K (step (at_field_names fs xs) t) (nesting_in_parens t) j w)
  field_names_step fs xs Comma j w = field_comma 1 (FieldThen K fs) xs j w
  field_names_step fs xs RightParen j w = iff_never _ (λ h. (field_type_step fs xs RightParen j w (λ e. cc (e))).0 h)
  field_names_step fs xs t j w = field_type_step fs xs t j w (λ e. cc (e))

  pub quotient : (p : Params) (t : Terminal) (j : ℕ) (w : List Mark) → Valid p → Iff (Rest K p (inside t j ∷ w)) (After K (step p t) (nesting p t) j w)
  quotient (at_name_or_type xs) t j w valid = name_or_type_step xs t j w
  quotient (at_names xs) t j w valid = names_step xs t j w
  quotient (at_next_type types) t j w valid = next_type_step types t j w
  quotient (in_type types o) t j w valid = iff_trans _ _ _ (expression_quotient type_context (λ e. TypesEnd K (with_ex types e)) o t j w valid (type_apart 1 (λ e. TypesEnd K (with_ex types e)))) (after_type_step types o t j w (expression.step type_context o t))
  quotient (at_field fs) t j w valid = at_field_step fs t j w
  quotient (at_next_name fs xs) t j w valid = next_name_step fs xs t j w
  quotient (at_field_names fs xs) t j w valid = field_names_step fs xs t j w
  quotient (in_field_type fs xs o) t j w valid = iff_trans _ _ _ (expression_quotient type_context (FieldThen K fs xs) o t j w valid (type_apart 1 (FieldThen K fs xs))) (after_field_step fs xs o t j w (expression.step type_context o t))
