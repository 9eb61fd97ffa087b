-- What may follow in each state of the machine of parameters, where the relation K says what may follow the closing parenthesis.
use Rattle.std.proofs.Common.{◌≡◌, ℕ, false, List, [], ◌++◌, ◌⊎◌}
use Rattle.syntax.specs.declared.expression.Name.{Name}
use Rattle.syntax.specs.Expressions.{Ex, Exs}
use Rattle.syntax.specs.Lists.{appended, with_ex}
use Rattle.syntax.specs.Declarations.{Field, Parameters, unnamed, named}
use Rattle.parse_expressions.specs.declared.terminal.Terminal.TheVariants.{Comma, RightParen}
use Rattle.parse_expressions.specs.Grammar.{Mark, ClosesArguments}
use Rattle.parse_expressions.proofs.Following.{ValidOpen}
use Rattle.parse_expressions.proofs.Following as expression
use Rattle.parse_simple_statements.proofs.Marks.{Next}
use Rattle.parse_go.specs.Grammar.{ReadsMoreTypes, AreNamed}
use Rattle.parse_go.specs.Parameters.{Params, at_name_or_type, at_names, at_next_type, in_type, at_field, at_next_name, at_field_names, in_field_type, Progress, fails, goes, ends, type_context, types_named, field_named}
use Rattle.parse_go.proofs.Types.{OneType}
use Rattle.parse_go.proofs.Fields.{InNames, NextName}

-- the closing parenthesis of these parameters
abbrev pub CloseParen : (Parameters → List Mark → Type 0) → Parameters → List Mark → Type 0
CloseParen K ps w = Next RightParen 0 (K ps) w

-- the same, and a comma may stand before it
pub record ListEnd (K : Parameters → List Mark → Type 0) (ps : Parameters) (w : List Mark) : Type 0 where
  pub rest : List Mark
  pub closes : ClosesArguments 0 false w rest
  pub follows : K ps rest

-- after a type: the other types
pub record TypesEnd (K : Parameters → List Mark → Type 0) (types : Exs) (w : List Mark) : Type 0 where
  pub others : Exs
  pub between : List Mark
  pub reads : ReadsMoreTypes 1 others w between
  pub ends : ListEnd K (unnamed (appended types others)) between

-- one type more
abbrev pub TypesFrom : (Parameters → List Mark → Type 0) → Exs → List Mark → Type 0
TypesFrom K types w = OneType 1 (λ e. TypesEnd K (with_ex types e)) w

-- other fields
pub record MoreFields (K : Parameters → List Mark → Type 0) (fs : List Field) (w : List Mark) : Type 0 where
  pub others : List Field
  pub rest : List Mark
  pub reads : AreNamed others w rest
  pub follows : K (named (fs ++ others)) rest

-- after a field: the list ends, or other fields follow
abbrev pub FieldEnd : (Parameters → List Mark → Type 0) → List Field → List Mark → Type 0
FieldEnd K fs w = ListEnd K (named fs) w ⊎ Next Comma 1 (MoreFields K fs) w

-- after the type of a field
abbrev pub FieldThen : (Parameters → List Mark → Type 0) → List Field → List Name → Ex → List Mark → Type 0
FieldThen K fs xs e m = FieldEnd K (field_named fs xs e) m

-- what may follow in a state
abbrev pub Rest : (Parameters → List Mark → Type 0) → Params → List Mark → Type 0
Rest K (at_name_or_type xs) w = CloseParen K (unnamed (types_named xs)) w ⊎ (TypesFrom K (types_named xs) w ⊎ NextName 1 (FieldThen K []) xs w)
Rest K (at_names xs) w = TypesEnd K (types_named xs) w ⊎ InNames 1 (FieldThen K []) xs w
Rest K (at_next_type types) w = CloseParen K (unnamed types) w ⊎ TypesFrom K types w
Rest K (in_type types o) w = expression.Rest type_context (λ e. TypesEnd K (with_ex types e)) o w
Rest K (at_field fs) w = CloseParen K (named fs) w ⊎ NextName 1 (FieldThen K fs) [] w
Rest K (at_next_name fs xs) w = NextName 1 (FieldThen K fs) xs w
Rest K (at_field_names fs xs) w = InNames 1 (FieldThen K fs) xs w
Rest K (in_field_type fs xs o) w = expression.Rest type_context (FieldThen K fs xs) o w

-- what may follow a terminal of nesting j, where the machine makes this progress at it
abbrev pub After : (Parameters → List Mark → Type 0) → Progress → ℕ → ℕ → List Mark → Type 0
After K fails n j w = ⊥
After K (goes p) n j w = (j ≡ n) × Rest K p w
After K (ends ps) n j w = (j ≡ n) × K ps w

-- what each state keeps
abbrev pub Valid : Params → Type 0
Valid (in_type types o) = ValidOpen type_context o
Valid (in_field_type fs xs o) = ValidOpen type_context o
Valid _ = Unit {0}

abbrev pub ValidNext : Progress → Type 0
ValidNext (goes p) = Valid p
ValidNext _ = Unit {0}
