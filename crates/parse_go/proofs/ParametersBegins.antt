-- What may follow where parameters begin, after the opening parenthesis, and that no text ends before the closing one.
use Rattle.std.proofs.Common.{false, List, [], inl, inr, refl, subst, sym}
use Rattle.syntax.specs.Expressions.{Exs, none, some}
use Rattle.syntax.specs.Lists.{with_ex}
use Rattle.syntax.specs.Declarations.{Field, Parameters, unnamed, named}
use Rattle.parse_expressions.specs.Grammar.{Mark, ClosesArguments}
use Rattle.parse_expressions.proofs.Following.{Iff}
use Rattle.parse_expressions.proofs.TextEnds.{unfinished as expression_unfinished}
use Rattle.parse_go.specs.Grammar.{ReadsMoreTypes, ReadsTypes, AreParameters, no_parameters, unnamed_parameters, named_parameters}
use Rattle.parse_go.specs.Parameters.{Params, at_name_or_type, at_names, at_next_type, in_type, at_field, at_next_name, at_field_names, in_field_type, type_context, types_named, field_named}
use Rattle.parse_go.proofs.Types.{type_some}
use Rattle.parse_go.proofs.Fields.{in_names_some, next_name_some}
use Rattle.parse_go.proofs.ParametersFollowing.{ListEnd, TypesEnd, FieldEnd, FieldThen, Rest}
use Rattle.parse_go.proofs.ParametersQuotient.{fields_more}

module _ (K : Parameters → List Mark → Type 0) where
  begin_to : (w : List Mark) (ps : Parameters) (m : List Mark) → AreParameters ps w m → K ps m → Rest K (at_name_or_type []) w
  begin_to _ _ m no_parameters k = inl (record { rest = m; mark = refl; follows = k })
  begin_to w _ m (unnamed_parameters {es = es} {m = n} r c) k = types_to es r k
    where
      types_to : (types : Exs) → ReadsTypes 1 types w n → K (unnamed types) m → Rest K (at_name_or_type []) w
      types_to none t f = absurd t
      types_to (some e more) t f = inr (inl (record { whole = e; rest = t.0; reads = t.1; follows = record { others = more; between = n; reads = t.2; ends = record { rest = m; closes = c; follows = f } } }))
  begin_to w _ m (named_parameters {fs = fs} a) k = inr (inr ((fields_more K [] w).0 (record { others = fs; rest = m; reads = a; follows = k })))

  pub begins : (w : List Mark) → Iff ((ps : Parameters) × (rest : List Mark) × AreParameters ps w rest × K ps rest) (Rest K (at_name_or_type []) w)
  begins w = (
    λ h. begin_to w h.0 h.1 h.2 h.3,
    λ h. elim h [
      | inl a ↦ (unnamed none, a.rest, subst (λ (ts : List Mark). AreParameters (unnamed none) ts a.rest) (sym a.mark) no_parameters, a.follows)
      | inr b ↦ elim b [
        | inl o ↦
            let f = o.follows in
            let l = f.ends in
            (unnamed (some o.whole f.others), l.rest, unnamed_parameters (o.rest, o.reads, f.reads) l.closes, l.follows)
        | inr a ↦ let f = (fields_more K [] w).1 a in (named f.others, f.rest, named_parameters f.reads, f.follows)
      ]
    ],
  )

  list_end_some : (ps : Parameters) → ListEnd K ps [] → ⊥
  list_end_some ps h = elim h.closes [ ]

  types_end_some : (types : Exs) → TypesEnd K types [] → ⊥
  types_end_some types h = to h.others h.reads
    where
      to : (others : Exs) → ReadsMoreTypes 1 others [] h.between → ⊥
      to none r = elim (subst (λ (ts : List Mark). ClosesArguments 0 false ts h.ends.rest) (sym r) h.ends.closes) [ ]
      to (some e es) r = cc (r.2)

  field_end_some : (fs : List Field) → FieldEnd K fs [] → ⊥
  field_end_some fs h = elim h [ inl a ↦ list_end_some (named fs) a | inr a ↦ cc (a.mark) ]

  -- no text ends inside of parameters
  pub unfinished : (p : Params) → Rest K p [] → ⊥
  unfinished (at_name_or_type xs) h = elim h [ inl a ↦ cc (a.mark) | inr b ↦ elim b [ inl a ↦ type_some 1 (λ e. TypesEnd K (with_ex (types_named xs) e)) a | inr a ↦ next_name_some 1 (FieldThen K []) xs a ] ]
  unfinished (at_names xs) h = elim h [ inl a ↦ types_end_some (types_named xs) a | inr a ↦ in_names_some 1 (FieldThen K []) xs a ]
  unfinished (at_next_type types) h = elim h [ inl a ↦ cc (a.mark) | inr a ↦ type_some 1 (λ e. TypesEnd K (with_ex types e)) a ]
  unfinished (in_type types o) h = let i = expression_unfinished type_context (λ e. TypesEnd K (with_ex types e)) o h in types_end_some (with_ex types i.0) i.1
  unfinished (at_field fs) h = elim h [ inl a ↦ cc (a.mark) | inr a ↦ next_name_some 1 (FieldThen K fs) [] a ]
  unfinished (at_next_name fs xs) h = next_name_some 1 (FieldThen K fs) xs h
  unfinished (at_field_names fs xs) h = in_names_some 1 (FieldThen K fs) xs h
  unfinished (in_field_type fs xs o) h = let i = expression_unfinished type_context (FieldThen K fs xs) o h in field_end_some (field_named fs xs i.0) i.1
