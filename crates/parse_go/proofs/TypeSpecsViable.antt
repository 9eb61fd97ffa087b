-- What each state of the machine of type declarations keeps, and that some text follows in each of them.
use Rattle.std.proofs.Common.{suc, List, [], ◌∷◌, ◌++◌, inl, refl}
use Rattle.base.specs.declared.pos.Pos.{Pos}
use Rattle.syntax.specs.declared.expression.Name.{Name}
use Rattle.syntax.specs.Expressions.{name}
use Rattle.syntax.specs.Declarations.{TypeSpec}
use Rattle.parse_expressions.specs.declared.terminal.Terminal.{Terminal}
use Rattle.parse_expressions.specs.declared.terminal.Terminal.TheVariants.{Identifier, Comma, Semicolon, LeftParen, RightParen, LeftBrace, RightBrace, Struct}
use Rattle.parse_expressions.specs.Terminals.{name_at}
use Rattle.parse_expressions.specs.Grammar.{Mark, inside}
use Rattle.parse_expressions.specs.Machine.{at_type_operand}
use Rattle.parse_expressions.specs.Machine as expression
use Rattle.parse_expressions.proofs.Following as following
use Rattle.parse_expressions.proofs.Viable.{valid_next as expression_valid, viable as expression_viable}
use Rattle.parse_simple_statements.specs.Grammar.{group_ends, grouped}
use Rattle.parse_go.specs.Grammar.{fields_end}
use Rattle.parse_go.specs.TypeSpecs.{Spot, alone_here, in_group, Fields, Types, at_first, at_spec, at_struct, at_brace, at_field, at_next_name, at_names, in_type, at_end, at_group_end, spot_depth, type_context, with_field, spec_of, behind_type, after_type, spec_ends, step}
use Rattle.parse_go.proofs.Types.{type_valid}
use Rattle.parse_go.proofs.Fields.{InNames, field_name}
use Rattle.parse_go.proofs.TypeSpecsFollowing.{BehindSpec, with_fields, FromFields, BraceEnds, FieldEnds, FromBrace, FromStruct, Rest, Valid, ValidNext}

-- ---- what each state keeps

behind_type_valid : (s : Fields) (t : Terminal) → ValidNext (behind_type s t)
behind_type_valid s Semicolon = tt
behind_type_valid s (RightBrace q) = tt
behind_type_valid s t = tt

after_type_valid : (s : Fields) (xs : List Name) (t : Terminal) (p : expression.Progress) → following.ValidNext (type_context s) p → ValidNext (after_type s xs t p)
after_type_valid s xs t expression.fails valid = tt
after_type_valid s xs t (expression.goes o) valid = valid
after_type_valid s xs t (expression.ends e) valid = behind_type_valid (with_field s xs e) t

spec_ends_valid : (s : Spot) (x : TypeSpec) (t : Terminal) → ValidNext (spec_ends s x t)
spec_ends_valid alone_here x t = tt
spec_ends_valid (in_group specs) x Semicolon = tt
spec_ends_valid (in_group specs) x RightParen = tt
spec_ends_valid (in_group specs) x t = tt

first_valid : (t : Terminal) → ValidNext (step at_first t)
first_valid (Identifier x) = tt
first_valid (LeftParen q) = tt
first_valid t = tt

spec_valid : (specs : List TypeSpec) (t : Terminal) → ValidNext (step (at_spec specs) t)
spec_valid specs (Identifier x) = tt
spec_valid specs RightParen = tt
spec_valid specs t = tt

struct_valid : (s : Spot) (x : Name) (t : Terminal) → ValidNext (step (at_struct s x) t)
struct_valid s x Struct = tt
struct_valid s x t = tt

brace_valid : (s : Spot) (x : Name) (t : Terminal) → ValidNext (step (at_brace s x) t)
brace_valid s x (LeftBrace q) = tt
brace_valid s x t = tt

field_valid : (s : Fields) (t : Terminal) → ValidNext (step (at_field s) t)
field_valid s (Identifier x) = tt
field_valid s (RightBrace q) = tt
field_valid s t = tt

next_name_valid : (s : Fields) (xs : List Name) (t : Terminal) → ValidNext (step (at_next_name s xs) t)
next_name_valid s xs (Identifier x) = tt
next_name_valid s xs t = tt

names_valid : (s : Fields) (xs : List Name) (t : Terminal) → ValidNext (step (at_names s xs) t)
names_valid s xs Comma = tt
names_valid s xs t = after_type_valid s xs t (expression.step (type_context s) (at_type_operand []) t) (expression_valid (type_context s) (at_type_operand []) t (type_valid (suc (spot_depth s.spot))))

pub valid_next : (s : Types) (t : Terminal) → Valid s → ValidNext (step s t)
valid_next at_first t valid = first_valid t
valid_next (at_spec specs) t valid = spec_valid specs t
valid_next (at_struct s x) t valid = struct_valid s x t
valid_next (at_brace s x) t valid = brace_valid s x t
valid_next (at_field s) t valid = field_valid s t
valid_next (at_next_name s xs) t valid = next_name_valid s xs t
valid_next (at_names s xs) t valid = names_valid s xs t
valid_next (in_type s xs o) t valid = after_type_valid s xs t (expression.step (type_context s) o t) (expression_valid (type_context s) o t valid)
valid_next (at_end s x) t valid = spec_ends_valid s x t
valid_next (at_group_end specs) t valid = tt

-- ---- some text follows

pub origin : Pos
origin = record { offset = 0; line = 0; col = 0 }

pub some_word : Name
some_word = name_at origin 0

module _ (K : List TypeSpec → List Mark → Type 0) (types_some : (specs : List TypeSpec) → (n : List Mark) × K specs n) where
  spec_then : (s : Spot) (x : TypeSpec) → (n : List Mark) × BehindSpec K s x n
  spec_then alone_here x = types_some (x ∷ [])
  spec_then (in_group specs) x = let n = types_some (specs ++ x ∷ []) in (inside RightParen 0 ∷ n.0, inl (record { rest = n.0; mark = refl; follows = n.1 }))

  brace_then : (s : Fields) → (n : List Mark) × BraceEnds K s n
  brace_then s = let n = spec_then s.spot (spec_of s) in (inside (RightBrace origin) (spot_depth s.spot) ∷ n.0, record { pos = origin; rest = n.0; mark = refl; follows = n.1 })

  fields_then : (s : Fields) → (n : List Mark) × FromFields K s n
  fields_then s =
      let n = spec_then s.spot (with_fields s []) in
      (inside (RightBrace origin) (spot_depth s.spot) ∷ n.0, record { others = []; rest = n.0; reads = fields_end; follows = n.1 })

  struct_brace_then : (s : Spot) (x : Name) → (n : List Mark) × FromBrace K s x n
  struct_brace_then s x = let n = fields_then (record { spot = s; name = x; fields = [] }) in (inside (LeftBrace origin) (spot_depth s) ∷ n.0, record { pos = origin; rest = n.0; mark = refl; follows = n.1 })

  struct_then : (s : Spot) (x : Name) → (n : List Mark) × FromStruct K s x n
  struct_then s x = let n = struct_brace_then s x in (inside Struct (spot_depth s) ∷ n.0, record { rest = n.0; mark = refl; follows = n.1 })

  -- a type that is a name, and the closing brace
  names_then : (s : Fields) (xs : List Name) → (n : List Mark) × InNames (suc (spot_depth s.spot)) (FieldEnds K s) xs n
  names_then s xs =
      let e = brace_then (with_field s (xs ++ []) (name some_word)) in
      let n : List Mark = inside (Identifier some_word) (suc (spot_depth s.spot)) ∷ e.0 in
      (n, ([], n, refl, record { whole = name some_word; rest = e.0; reads = refl; follows = inl e.1 }))

  pub viable : (s : Types) → Valid s → (w : List Mark) × Rest K s w
  viable at_first valid = let n = types_some [] in (inside (LeftParen origin) 0 ∷ inside RightParen 0 ∷ n.0, record { specs = []; rest = n.0; reads = grouped group_ends; follows = n.1 })
  viable (at_spec specs) valid = let n = types_some (specs ++ []) in (inside RightParen 0 ∷ n.0, record { others = []; rest = n.0; reads = group_ends; follows = n.1 })
  viable (at_struct s x) valid = struct_then s x
  viable (at_brace s x) valid = struct_brace_then s x
  viable (at_field s) valid = fields_then s
  viable (at_next_name s xs) valid =
      let n = names_then s (xs ++ some_word ∷ []) in
      (inside (Identifier some_word) (suc (spot_depth s.spot)) ∷ n.0, (field_name (suc (spot_depth s.spot)) (FieldEnds K s) xs some_word (suc (spot_depth s.spot)) n.0).1 (refl, n.1))
  viable (at_names s xs) valid = names_then s xs
  viable (in_type s xs o) valid = expression_viable (type_context s) (FieldEnds K s xs) o valid (λ e is. let n = brace_then (with_field s xs e) in (n.0, inl n.1))
  viable (at_end s x) valid = spec_then s x
  viable (at_group_end specs) valid = types_some specs
