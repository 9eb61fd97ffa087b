-- What may follow where a declaration of constants or variables begins, after its word, and where it may end.
use Rattle.std.proofs.Common.{ℕ, suc, true, List, [], ◌∷◌, inl, inr, Option, Some, None, refl, sym, subst}
use Rattle.syntax.specs.declared.expression.Name.{Name}
use Rattle.syntax.specs.Expressions.{Ex, Exs, none, some}
use Rattle.syntax.specs.Statements.{ValueSpec}
use Rattle.syntax.specs.Lists.{with_ex}
use Rattle.parse_expressions.specs.declared.terminal.Terminal.TheVariants.{Semicolon, RightParen}
use Rattle.parse_expressions.specs.Grammar.{Mark, inside}
use Rattle.parse_expressions.specs.Machine.{at_type_operand}
use Rattle.parse_expressions.proofs.Following.{Iff}
use Rattle.parse_simple_statements.specs.Grammar.{Declares, of_constants, of_variables, IsGiven, ReadsOptionalType, ReadsInitial, ReadsValueSpec, AreGrouped, last_of_group, next_of_group, IsGroup, alone}
use Rattle.parse_simple_statements.specs.ValueSpecs.{Spot, alone_here, in_group, Specs, at_first, at_spec, at_next_name, at_names, in_type, in_value, at_group_end, spot_depth, type_context, value_context}
use Rattle.parse_expressions.proofs.Starts.{begins_type}
use Rattle.parse_expressions.proofs.TextEnds.{unfinished as open_unfinished}
use Rattle.parse_simple_statements.proofs.Marks.{next_some}
use Rattle.parse_simple_statements.proofs.NameLists.{names_some, names_end}
use Rattle.parse_simple_statements.proofs.ValueLists.{values_end}
use Rattle.parse_simple_statements.proofs.ValueSpecsFollowing.{spec, BehindSpec, BehindNames, BehindType, BehindValue, Rest, Valid}

pub begins : (k : Declares) (d : ℕ) (K : List ValueSpec → List Mark → Type 0) (w : List Mark) → Iff ((specs : List ValueSpec) × (rest : List Mark) × IsGroup (ReadsValueSpec k) d specs w rest × K specs rest) (Rest k d K at_first w)
begins k d K w = (λ h. record { whole = h.0; rest = h.1; reads = h.2; follows = h.3 }, λ h. (h.whole, h.rest, h.reads, h.follows))

pub begins_valid : (d : ℕ) → Valid d at_first
begins_valid d = tt

-- ---- where a declaration may end

pub never_given : (k : Declares) → IsGiven k None none → ⊥
never_given of_constants g = g
never_given of_variables g = g

abbrev SomeEnd : (List ValueSpec → List Mark → Type 0) → Type 0
SomeEnd K = (specs : List ValueSpec) × K specs []

spec_some : (k : Declares) (d : ℕ) (x : ValueSpec) (m : List Mark) → ReadsValueSpec k d x [] m → ⊥
spec_some k d x m r = names_some d x.names r.0 r.2

group_some : (k : Declares) (d : ℕ) (others : List ValueSpec) (m : List Mark) → AreGrouped (ReadsValueSpec k) d others [] m → ⊥
group_some k d _ m (last_of_group {a = x} r) = spec_some k (suc d) x (inside RightParen d ∷ m) r
group_some k d _ m (next_of_group {a = x} {m = n} r g) = spec_some k (suc d) x (inside Semicolon (suc d) ∷ n) r

declared_some : (k : Declares) (d : ℕ) (specs : List ValueSpec) (m : List Mark) → IsGroup (ReadsValueSpec k) d specs [] m → ⊥
declared_some k d _ m (alone {a = x} r) = spec_some k d x m r

module _ (k : Declares) (d : ℕ) (K : List ValueSpec → List Mark → Type 0) where
  spec_end : (s : Spot) (x : ValueSpec) → BehindSpec k d K s x [] → SomeEnd K
  spec_end alone_here x h = (x ∷ [], h)
  spec_end (in_group done) x h = absurd (elim h [ inl n ↦ next_some RightParen d _ n | inr n ↦ next_some Semicolon (suc d) _ n ])

  type_end : (s : Spot) (xs : List Name) (e : Ex) → BehindType k d K s xs e [] → SomeEnd K
  type_end s xs e h = to h.values h.rest h.reads h.follows
    where
      to : (es : Exs) (m : List Mark) → ReadsInitial (spot_depth d s) es [] m → BehindSpec k d K s (spec xs (Some e) es) m → SomeEnd K
      to none m r f = spec_end s (spec xs (Some e) none) (subst (λ (ts : List Mark). BehindSpec k d K s (spec xs (Some e) none) ts) (sym r) f)
      to (some g gs) m r f = absurd (cc (r.2))

  value_end : (s : Spot) (xs : List Name) (o : Option Ex) (es : Exs) (e : Ex) → BehindValue k d K s xs o es e [] → SomeEnd K
  value_end s xs o es e h = spec_end s (spec xs o (with_ex es e)) (values_end true (spot_depth d s) (λ all_of m. BehindSpec k d K s (spec xs o all_of) m) es e h)

  names_then_end : (s : Spot) (xs : List Name) → BehindNames k d K s xs [] → SomeEnd K
  names_then_end s xs h = to h.type_expr h.values h.between h.rest h.typed h.reads h.given h.follows
    where
      to : (o : Option Ex) (es : Exs) (m n : List Mark) → ReadsOptionalType (spot_depth d s) o [] m → ReadsInitial (spot_depth d s) es m n → IsGiven k o es → BehindSpec k d K s (spec xs o es) n → SomeEnd K
      to None none m n typed r g f = absurd (never_given k g)
      to None (some x es) m n typed r g f = absurd (cc (typed, r.2))
      to (Some t) es m n typed r g f =
          let i = open_unfinished (type_context d s) (BehindType k d K s xs) (at_type_operand []) ((begins_type (type_context d s) (BehindType k d K s xs) [] refl).0 (t, m, typed, record { values = es; rest = n; reads = r; given = g; follows = f })) in
          type_end s xs i.0 i.1

  pub unfinished : (s : Specs) → Rest k d K s [] → (specs : List ValueSpec) × K specs []
  unfinished at_first h = absurd (declared_some k d h.whole h.rest h.reads)
  unfinished (at_spec done) h = absurd (group_some k d h.others h.rest h.reads)
  unfinished (at_next_name s xs) h = absurd (cc (h.4))
  unfinished (at_names s xs) h = names_then_end s xs (names_end (BehindNames k d K s) (spot_depth d s) xs h)
  unfinished (in_type s xs o) h = let i = open_unfinished (type_context d s) (BehindType k d K s xs) o h in type_end s xs i.0 i.1
  unfinished (in_value s xs o es e) h = let i = open_unfinished (value_context d s) (BehindValue k d K s xs o es) e h in value_end s xs o es i.0 i.1
  unfinished (at_group_end done) h = (done, h)
