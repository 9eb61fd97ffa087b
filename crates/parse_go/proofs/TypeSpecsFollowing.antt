-- What may follow in each state of the machine of type declarations, where the relation K says what may follow the whole declaration.
use Rattle.std.proofs.Common.{◌≡◌, ℕ, suc, List, [], ◌∷◌, ◌++◌, ◌⊎◌}
use Rattle.syntax.specs.declared.expression.Name.{Name}
use Rattle.syntax.specs.Expressions.{Ex}
use Rattle.syntax.specs.Declarations.{Field, TypeSpec}
use Rattle.parse_expressions.specs.declared.terminal.Terminal.{Terminal}
use Rattle.parse_expressions.specs.declared.terminal.Terminal.TheVariants.{Semicolon, RightParen, LeftBrace, RightBrace, Struct}
use Rattle.parse_expressions.specs.Grammar.{Mark, inside}
use Rattle.parse_expressions.proofs.Following.{ValidOpen}
use Rattle.parse_expressions.proofs.Following as expression
use Rattle.parse_simple_statements.specs.Grammar.{AreGrouped, IsGroup}
use Rattle.parse_simple_statements.proofs.Marks.{Next, NextAt}
use Rattle.parse_go.specs.Grammar.{AreFields, ReadsTypeSpec}
use Rattle.parse_go.specs.TypeSpecs.{Spot, alone_here, in_group, Fields, Types, at_first, at_spec, at_struct, at_brace, at_field, at_next_name, at_names, in_type, at_end, at_group_end, Progress, fails, goes, ends, spot_depth, type_context, with_field, spec_of}
use Rattle.parse_go.proofs.Fields.{InNames, NextName}

-- the other types of a group, and its end
pub record FromSpecs (K : List TypeSpec → List Mark → Type 0) (specs : List TypeSpec) (w : List Mark) : Type 0 where
  pub others : List TypeSpec
  pub rest : List Mark
  pub reads : AreGrouped ReadsTypeSpec 0 others w rest
  pub follows : K (specs ++ others) rest

-- after a whole type
abbrev pub BehindSpec : (List TypeSpec → List Mark → Type 0) → Spot → TypeSpec → List Mark → Type 0
BehindSpec K alone_here s w = K (s ∷ []) w
BehindSpec K (in_group specs) s w = Next RightParen 0 (K (specs ++ s ∷ [])) w ⊎ Next Semicolon 1 (FromSpecs K (specs ++ s ∷ [])) w

abbrev pub with_fields : Fields → List Field → TypeSpec
with_fields s others = record { name = s.name; fields = s.fields ++ others }

-- the other fields of a struct, and its end
pub record FromFields (K : List TypeSpec → List Mark → Type 0) (s : Fields) (w : List Mark) : Type 0 where
  pub others : List Field
  pub rest : List Mark
  pub reads : AreFields (spot_depth s.spot) others w rest
  pub follows : BehindSpec K s.spot (with_fields s others) rest

-- the closing brace
abbrev pub BraceEnds : (List TypeSpec → List Mark → Type 0) → Fields → List Mark → Type 0
BraceEnds K s w = NextAt RightBrace (spot_depth s.spot) (λ q. BehindSpec K s.spot (spec_of s)) w

-- after a whole field
abbrev pub BehindField : (List TypeSpec → List Mark → Type 0) → Fields → List Mark → Type 0
BehindField K s w = BraceEnds K s w ⊎ Next Semicolon (suc (spot_depth s.spot)) (FromFields K s) w

-- after the type of the last field
abbrev pub FieldEnds : (List TypeSpec → List Mark → Type 0) → Fields → List Name → Ex → List Mark → Type 0
FieldEnds K s xs e m = BehindField K (with_field s xs e) m

-- after the word `struct`, and after the name
abbrev pub FromBrace : (List TypeSpec → List Mark → Type 0) → Spot → Name → List Mark → Type 0
FromBrace K s x w = NextAt LeftBrace (spot_depth s) (λ q. FromFields K (record { spot = s; name = x; fields = [] })) w

abbrev pub FromStruct : (List TypeSpec → List Mark → Type 0) → Spot → Name → List Mark → Type 0
FromStruct K s x w = Next Struct (spot_depth s) (FromBrace K s x) w

-- after the word
pub record FromTypes (K : List TypeSpec → List Mark → Type 0) (w : List Mark) : Type 0 where
  pub specs : List TypeSpec
  pub rest : List Mark
  pub reads : IsGroup ReadsTypeSpec 0 specs w rest
  pub follows : K specs rest

-- what may follow in a state
abbrev pub Rest : (List TypeSpec → List Mark → Type 0) → Types → List Mark → Type 0
Rest K at_first w = FromTypes K w
Rest K (at_spec specs) w = FromSpecs K specs w
Rest K (at_struct s x) w = FromStruct K s x w
Rest K (at_brace s x) w = FromBrace K s x w
Rest K (at_field s) w = FromFields K s w
Rest K (at_next_name s xs) w = NextName (suc (spot_depth s.spot)) (FieldEnds K s) xs w
Rest K (at_names s xs) w = InNames (suc (spot_depth s.spot)) (FieldEnds K s) xs w
Rest K (in_type s xs o) w = expression.Rest (type_context s) (FieldEnds K s xs) o w
Rest K (at_end s x) w = BehindSpec K s x w
Rest K (at_group_end specs) w = K specs w

-- what may follow a terminal t of nesting j, where the machine makes this progress at it
abbrev pub After : (List TypeSpec → List Mark → Type 0) → Progress → ℕ → Terminal → ℕ → List Mark → Type 0
After K fails n t j w = ⊥
After K (goes s) n t j w = (j ≡ n) × Rest K s w
After K (ends specs) n t j w = K specs (inside t j ∷ w)

-- what each state keeps
abbrev pub Valid : Types → Type 0
Valid (in_type s xs o) = ValidOpen (type_context s) o
Valid _ = Unit {0}

abbrev pub ValidNext : Progress → Type 0
ValidNext (goes s) = Valid s
ValidNext _ = Unit {0}
