-- What each state of the machine of parameters keeps, and that some text follows in each of them.
use Rattle.std.proofs.Common.{List, [], ◌∷◌, ◌++◌, inl, inr, refl, sym, subst}
use Rattle.syntax.specs.declared.expression.Name.{Name}
use Rattle.syntax.specs.Expressions.{name, Exs, none}
use Rattle.syntax.specs.Lists.{with_ex}
use Rattle.syntax.specs.Declarations.{Field, Parameters, unnamed, named}
use Rattle.parse_expressions.specs.declared.terminal.Terminal.{Terminal}
use Rattle.parse_expressions.specs.declared.terminal.Terminal.TheVariants.{Identifier, Comma, RightParen}
use Rattle.parse_expressions.specs.Grammar.{Mark, inside, closing}
use Rattle.parse_expressions.specs.Machine.{at_type_operand}
use Rattle.parse_expressions.specs.Machine as expression
use Rattle.parse_expressions.proofs.Following as following
use Rattle.parse_expressions.proofs.Viable.{valid_next as expression_valid, viable as expression_viable}
use Rattle.parse_go.specs.Parameters.{Params, at_name_or_type, at_names, at_next_type, in_type, at_field, at_next_name, at_field_names, in_field_type, type_context, types_named, field_named, behind_type, after_type, behind_field, after_field, type_begins, step}
use Rattle.parse_go.proofs.Types.{type_valid}
use Rattle.parse_go.proofs.Fields.{InNames, NextName, field_name}
use Rattle.parse_go.proofs.ParametersFollowing.{CloseParen, TypesEnd, FieldEnd, FieldThen, Rest, Valid, ValidNext}
use Rattle.parse_go.proofs.ParametersQuotient.{appended_none}
use Rattle.parse_go.proofs.TypeSpecsViable.{some_word}

-- ---- what each state keeps

behind_type_valid : (types : Exs) (t : Terminal) → ValidNext (behind_type types t)
behind_type_valid types Comma = tt
behind_type_valid types RightParen = tt
behind_type_valid types t = tt

after_type_valid : (types : Exs) (t : Terminal) (p : expression.Progress) → following.ValidNext type_context p → ValidNext (after_type types t p)
after_type_valid types t expression.fails valid = tt
after_type_valid types t (expression.goes o) valid = valid
after_type_valid types t (expression.ends e) valid = behind_type_valid (with_ex types e) t

behind_field_valid : (fs : List Field) (t : Terminal) → ValidNext (behind_field fs t)
behind_field_valid fs Comma = tt
behind_field_valid fs RightParen = tt
behind_field_valid fs t = tt

after_field_valid : (fs : List Field) (xs : List Name) (t : Terminal) (p : expression.Progress) → following.ValidNext type_context p → ValidNext (after_field fs xs t p)
after_field_valid fs xs t expression.fails valid = tt
after_field_valid fs xs t (expression.goes o) valid = valid
after_field_valid fs xs t (expression.ends e) valid = behind_field_valid (field_named fs xs e) t

type_begins_valid : (t : Terminal) → following.ValidNext type_context (type_begins t)
type_begins_valid t = expression_valid type_context (at_type_operand []) t (type_valid 1)

name_or_type_valid : (xs : List Name) (t : Terminal) → ValidNext (step (at_name_or_type xs) t)
name_or_type_valid xs (Identifier x) = tt
name_or_type_valid xs RightParen = tt
name_or_type_valid xs t = after_type_valid (types_named xs) t (type_begins t) (type_begins_valid t)

names_valid : (xs : List Name) (t : Terminal) → ValidNext (step (at_names xs) t)
names_valid xs Comma = tt
names_valid xs RightParen = tt
names_valid xs t = after_field_valid [] xs t (type_begins t) (type_begins_valid t)

next_type_valid : (types : Exs) (t : Terminal) → ValidNext (step (at_next_type types) t)
next_type_valid types RightParen = tt
next_type_valid types t = after_type_valid types t (type_begins t) (type_begins_valid t)

field_valid : (fs : List Field) (t : Terminal) → ValidNext (step (at_field fs) t)
field_valid fs (Identifier x) = tt
field_valid fs RightParen = tt
field_valid fs t = tt

next_name_valid : (fs : List Field) (xs : List Name) (t : Terminal) → ValidNext (step (at_next_name fs xs) t)
next_name_valid fs xs (Identifier x) = tt
next_name_valid fs xs t = tt

field_names_valid : (fs : List Field) (xs : List Name) (t : Terminal) → ValidNext (step (at_field_names fs xs) t)
field_names_valid fs xs Comma = tt
field_names_valid fs xs t = after_field_valid fs xs t (type_begins t) (type_begins_valid t)

pub valid_next : (p : Params) (t : Terminal) → Valid p → ValidNext (step p t)
valid_next (at_name_or_type xs) t valid = name_or_type_valid xs t
valid_next (at_names xs) t valid = names_valid xs t
valid_next (at_next_type types) t valid = next_type_valid types t
valid_next (in_type types o) t valid = after_type_valid types t (expression.step type_context o t) (expression_valid type_context o t valid)
valid_next (at_field fs) t valid = field_valid fs t
valid_next (at_next_name fs xs) t valid = next_name_valid fs xs t
valid_next (at_field_names fs xs) t valid = field_names_valid fs xs t
valid_next (in_field_type fs xs o) t valid = after_field_valid fs xs t (expression.step type_context o t) (expression_valid type_context o t valid)

-- ---- some text follows

module _ (K : Parameters → List Mark → Type 0) (parameters_some : (ps : Parameters) → (n : List Mark) × K ps n) where
  paren_then : (ps : Parameters) → (n : List Mark) × CloseParen K ps n
  paren_then ps = let n = parameters_some ps in (inside RightParen 0 ∷ n.0, record { rest = n.0; mark = refl; follows = n.1 })

  types_then : (types : Exs) → (n : List Mark) × TypesEnd K types n
  types_then types =
      let n = parameters_some (unnamed types) in
      let end : List Mark = inside RightParen 0 ∷ n.0 in
      (end, record { others = none; between = end; reads = refl; ends = record { rest = n.0; closes = closing; follows = subst (λ (es : Exs). K (unnamed es) n.0) (sym (appended_none types)) n.1 } })

  field_then : (fs : List Field) → (n : List Mark) × FieldEnd K fs n
  field_then fs = let n = parameters_some (named fs) in (inside RightParen 0 ∷ n.0, inl (record { rest = n.0; closes = closing; follows = n.1 }))

  -- a type that is a name, and the closing parenthesis
  names_then : (fs : List Field) (xs : List Name) → (n : List Mark) × InNames 1 (FieldThen K fs) xs n
  names_then fs xs =
      let e = field_then (field_named fs (xs ++ []) (name some_word)) in
      let n : List Mark = inside (Identifier some_word) 1 ∷ e.0 in
      (n, ([], n, refl, record { whole = name some_word; rest = e.0; reads = refl; follows = e.1 }))

  next_name_then : (fs : List Field) (xs : List Name) → (n : List Mark) × NextName 1 (FieldThen K fs) xs n
  next_name_then fs xs = let n = names_then fs (xs ++ some_word ∷ []) in (inside (Identifier some_word) 1 ∷ n.0, (field_name 1 (FieldThen K fs) xs some_word 1 n.0).1 (refl, n.1))

  pub viable : (p : Params) → Valid p → (w : List Mark) × Rest K p w
  viable (at_name_or_type xs) valid = let n = paren_then (unnamed (types_named xs)) in (n.0, inl n.1)
  viable (at_names xs) valid = let n = names_then [] xs in (n.0, inr n.1)
  viable (at_next_type types) valid = let n = paren_then (unnamed types) in (n.0, inl n.1)
  viable (in_type types o) valid = expression_viable type_context (λ e. TypesEnd K (with_ex types e)) o valid (λ e is. types_then (with_ex types e))
  viable (at_field fs) valid = let n = paren_then (named fs) in (n.0, inl n.1)
  viable (at_next_name fs xs) valid = next_name_then fs xs
  viable (at_field_names fs xs) valid = names_then fs xs
  viable (in_field_type fs xs o) valid = expression_viable type_context (FieldThen K fs xs) o valid (λ e is. field_then (field_named fs xs e))
