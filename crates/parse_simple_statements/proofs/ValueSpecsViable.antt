-- What each state of the parser of declarations keeps, and that some text follows in each of them.
use Rattle.std.proofs.Common.{◌≡◌, ℕ, true, List, [], ◌∷◌, ◌++◌, inl, Option, Some, None, refl, sym, subst}
use Rattle.std.proofs.lemmas.List.{append-nil}
use Rattle.syntax.specs.declared.expression.Name.{Name}
use Rattle.syntax.specs.Expressions.{Ex, Exs, none, some}
use Rattle.syntax.specs.Statements.{ValueSpec}
use Rattle.syntax.specs.Lists.{with_ex}
use Rattle.parse_expressions.specs.declared.terminal.Terminal.{Terminal}
use Rattle.parse_expressions.specs.declared.terminal.Terminal.TheVariants.{Identifier, Number, Assign, Comma, Semicolon, LeftParen, RightParen}
use Rattle.parse_expressions.specs.Grammar.{Mark, inside}
use Rattle.parse_expressions.specs.Machine as expression
use Rattle.parse_expressions.specs.Machine.{at_type_operand}
use Rattle.parse_expressions.proofs.Following as following
use Rattle.parse_simple_statements.specs.Grammar.{Declares, of_constants, of_variables, IsGiven, group_ends, alone}
use Rattle.parse_simple_statements.specs.ValueSpecs.{Spot, alone_here, in_group, Specs, at_first, at_spec, at_next_name, at_names, in_type, in_value, at_group_end, goes, spot_depth, type_context, value_context, spec_ends, value_wanted, behind_type, after_type, behind_value, after_value, step}
use Rattle.parse_expressions.proofs.Starts.{begins_type_valid}
use Rattle.parse_expressions.proofs.Viable.{valid_next as open_valid, viable as open_viable}
use Rattle.parse_simple_statements.proofs.Shortest.{origin, some_word, zero_at_origin}
use Rattle.parse_simple_statements.proofs.ValueLists.{value_valid}
use Rattle.parse_simple_statements.proofs.ValueSpecsFollowing.{spec, BehindSpec, BehindNames, BehindType, Rest, Valid, ValidNext}

-- ---- what each state keeps

ends_valid : (d : ℕ) (s : Spot) (x : ValueSpec) (t : Terminal) → ValidNext d (spec_ends s x t)
ends_valid d alone_here x t = tt
ends_valid d (in_group done) x Semicolon = tt
ends_valid d (in_group done) x RightParen = tt
ends_valid d (in_group done) x t = tt

wanted_valid : (d : ℕ) (s : Spot) (xs : List Name) (o : Option Ex) (es : Exs) → ValidNext d (value_wanted s xs o es)
wanted_valid d s xs o es = value_valid true (spot_depth d s)

behind_type_valid : (k : Declares) (d : ℕ) (s : Spot) (xs : List Name) (e : Ex) (t : Terminal) → ValidNext d (behind_type k s xs e t)
behind_type_valid k d s xs e (Assign q) = wanted_valid d s xs (Some e) none
behind_type_valid of_constants d s xs e t = tt
behind_type_valid of_variables d s xs e t = ends_valid d s (spec xs (Some e) none) t

after_type_valid : (k : Declares) (d : ℕ) (s : Spot) (xs : List Name) (t : Terminal) (p : expression.Progress) → following.ValidNext (type_context d s) p → ValidNext d (after_type k s xs t p)
after_type_valid k d s xs t expression.fails valid = tt
after_type_valid k d s xs t (expression.goes o) valid = valid
after_type_valid k d s xs t (expression.ends e) valid = behind_type_valid k d s xs e t

behind_value_valid : (d : ℕ) (s : Spot) (xs : List Name) (o : Option Ex) (es : Exs) (t : Terminal) → ValidNext d (behind_value s xs o es t)
behind_value_valid d s xs o es Comma = wanted_valid d s xs o es
behind_value_valid d s xs o es t = ends_valid d s (spec xs o es) t

after_value_valid : (d : ℕ) (s : Spot) (xs : List Name) (o : Option Ex) (es : Exs) (t : Terminal) (p : expression.Progress) → following.ValidNext (value_context d s) p → ValidNext d (after_value s xs o es t p)
after_value_valid d s xs o es t expression.fails valid = tt
after_value_valid d s xs o es t (expression.goes e) valid = valid
after_value_valid d s xs o es t (expression.ends e) valid = behind_value_valid d s xs o (with_ex es e) t

first_valid : (k : Declares) (d : ℕ) (t : Terminal) → ValidNext d (step k d at_first t)
first_valid k d (Identifier x) = tt
first_valid k d (LeftParen q) = tt
first_valid k d t = tt

spec_valid : (k : Declares) (d : ℕ) (done : List ValueSpec) (t : Terminal) → ValidNext d (step k d (at_spec done) t)
spec_valid k d done (Identifier x) = tt
spec_valid k d done RightParen = tt
spec_valid k d done t = tt

next_name_valid : (k : Declares) (d : ℕ) (s : Spot) (xs : List Name) (t : Terminal) → ValidNext d (step k d (at_next_name s xs) t)
next_name_valid k d s xs (Identifier x) = tt
next_name_valid k d s xs t = tt

names_valid : (k : Declares) (d : ℕ) (s : Spot) (xs : List Name) (t : Terminal) → ValidNext d (step k d (at_names s xs) t)
names_valid k d s xs Comma = tt
names_valid k d s xs (Assign q) = wanted_valid d s xs None none
names_valid k d s xs t = after_type_valid k d s xs t (expression.step (type_context d s) (at_type_operand []) t) (open_valid (type_context d s) (at_type_operand []) t (begins_type_valid (type_context d s) refl))

pub valid_next : (k : Declares) (d : ℕ) (s : Specs) (t : Terminal) → Valid d s → ValidNext d (step k d s t)
valid_next k d at_first t valid = first_valid k d t
valid_next k d (at_spec done) t valid = spec_valid k d done t
valid_next k d (at_next_name s xs) t valid = next_name_valid k d s xs t
valid_next k d (at_names s xs) t valid = names_valid k d s xs t
valid_next k d (in_type s xs o) t valid = after_type_valid k d s xs t (expression.step (type_context d s) o t) (open_valid (type_context d s) o t valid)
valid_next k d (in_value s xs o es e) t valid = after_value_valid d s xs o es t (expression.step (value_context d s) e t) (open_valid (value_context d s) e t valid)
valid_next k d (at_group_end done) t valid = tt

pub valid_step : (k : Declares) (d : ℕ) (s : Specs) (t : Terminal) (next : Specs) → Valid d s → step k d s t ≡ goes next → Valid d next
valid_step k d s t next valid is = subst (ValidNext d) is (valid_next k d s t valid)

-- ---- some text follows

-- the value 0 after a `=`, inside of d brackets
abbrev zero_given : ℕ → List Mark → List Mark
zero_given d n = inside (Assign origin) d ∷ inside (Number origin 0) d ∷ n

given_some : (k : Declares) (o : Option Ex) → IsGiven k o (some zero_at_origin none)
given_some of_constants o = tt
given_some of_variables None = tt
given_some of_variables (Some t) = tt

module _ (k : Declares) (d : ℕ) (K : List ValueSpec → List Mark → Type 0) (done_some : (specs : List ValueSpec) → (n : List Mark) × K specs n) where
  spec_then : (s : Spot) (x : ValueSpec) → (n : List Mark) × BehindSpec k d K s x n
  spec_then alone_here x = done_some (x ∷ [])
  spec_then (in_group done) x = let n = done_some (done ++ x ∷ []) in (inside RightParen d ∷ n.0, inl (record { rest = n.0; mark = refl; follows = n.1 }))

  names_then : (s : Spot) (xs : List Name) → (n : List Mark) × BehindNames k d K s xs n
  names_then s xs =
      let f = spec_then s (spec xs None (some zero_at_origin none)) in
      let e = spot_depth d s in
      (zero_given e f.0, record { type_expr = None; values = some zero_at_origin none; between = zero_given e f.0; rest = f.0; typed = refl; reads = (origin, inside (Number origin 0) e ∷ f.0, refl, ((tt, tt), f.0, refl, refl)); given = given_some k None; follows = f.1 })

  type_then : (s : Spot) (xs : List Name) (e : Ex) → (n : List Mark) × BehindType k d K s xs e n
  type_then s xs e =
      let f = spec_then s (spec xs (Some e) (some zero_at_origin none)) in
      let i = spot_depth d s in
      (zero_given i f.0, record { values = some zero_at_origin none; rest = f.0; reads = (origin, inside (Number origin 0) i ∷ f.0, refl, ((tt, tt), f.0, refl, refl)); given = given_some k (Some e); follows = f.1 })

  viable_in : (s : Specs) → Valid d s → (w : List Mark) × Rest k d K s w
  viable_in at_first valid =
      let f = names_then alone_here (some_word ∷ []) in
      let g = f.1 in
      (inside (Identifier some_word) d ∷ f.0, record { whole = spec (some_word ∷ []) g.type_expr g.values ∷ []; rest = g.rest; reads = alone (f.0, g.between, (f.0, refl, refl), g.typed, g.reads, g.given); follows = g.follows })
  viable_in (at_spec done) valid =
      let f = done_some (done ++ []) in
      (inside RightParen d ∷ f.0, record { others = []; rest = f.0; reads = group_ends; follows = f.1 })
  viable_in (at_next_name s xs) valid =
      let f = names_then s (xs ++ some_word ∷ []) in
      (inside (Identifier some_word) (spot_depth d s) ∷ f.0, (some_word, [], f.0, f.0, refl, refl, f.1))
  viable_in (at_names s xs) valid =
      let f = names_then s xs in
      (f.0, ([], f.0, refl, subst (λ (zs : List Name). BehindNames k d K s zs f.0) (sym (append-nil xs)) f.1))
  viable_in (in_type s xs o) valid = open_viable (type_context d s) (BehindType k d K s xs) o valid (λ e is. type_then s xs e)
  viable_in (in_value s xs o es e) valid =
      open_viable (value_context d s) _ e valid (λ x is. let f = spec_then s (spec xs o (with_ex es x)) in (f.0, record { others = none; rest = f.0; values = tt; reads = refl; follows = f.1 }))
  viable_in (at_group_end done) valid = done_some done

pub viable : (k : Declares) (d : ℕ) (K : List ValueSpec → List Mark → Type 0) (s : Specs) → Valid d s → ((specs : List ValueSpec) → (n : List Mark) × K specs n) → (w : List Mark) × Rest k d K s w
viable k d K s valid done_some = viable_in k d K done_some s valid
