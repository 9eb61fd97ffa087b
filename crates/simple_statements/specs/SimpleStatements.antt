-- The typed forms that the rules of the language give statements without statements in them (Go specification, "Short variable
-- declarations", "Variable declarations", "Assignment statements", "IncDec statements", "Expression statements", "Return statements").
use Rattle.std.specs.Prelude.{ℕ, ◌+◌, length, Bool, true, false, not, ◌&&◌, ◌||◌, List, [], ◌∷◌, map, Option, Some, None, is_some, option_and_then, if◌then◌else◌}
use Rattle.std.specs.Option.{option_map}
use Rattle.base.specs.declared.value_type.ValueType.{ValueType}
use Rattle.base.specs.declared.pos.Pos.{Pos}
use Rattle.syntax.specs.declared.expression.Name.{Name}
use Rattle.syntax.specs.declared.operator.ArithmeticOp.{ArithmeticOp}
use Rattle.syntax.specs.declared.operator.BinOp.TheVariants.{Arithmetic}
use Rattle.syntax.specs.Expressions.{Ex as TreeEx, Exs as TreeExs, some, spelled}
use Rattle.syntax.specs.Expressions as expressions
use Rattle.syntax.specs.Statements.{Simple, ValueSpec}
use Rattle.syntax.specs.Statements as tree
use Rattle.typed_syntax.specs.declared.operators.BinOp.{BinOp as TypedOp}
use Rattle.typed_syntax.specs.declared.operators.BinOp.TheVariants as op
use Rattle.typed.specs.Positions.{position}
use Rattle.typed_syntax.specs.Positions.{Position}
use Rattle.typed_syntax.specs.Syntax.{Exs, Left, Piece, St, Sts, text as string_number, shown, binary, read, none, results, read_int, blank, new, to, declare, assign, update, bump, discard, return_stmt, print, panic, exit, done, next}
use Rattle.base.specs.declared.value_type.ValueType.TheVariants.{Int}
use Rattle.type_faults.specs.Given.{allowed, both}
use Rattle.operators.specs.Operands.{Operand, value, TypedPlace, place_of}
use Rattle.operators.specs.Operators.{combined}
use Rattle.names.specs.Blocks.{Blocks, innermost, insert}
use Rattle.names.specs.Universe.{is_blank}
use Rattle.names.specs.Scope.{Scope, is_here, with_variable, with_strings}
use Rattle.names.specs.Naming.{name_in}
use Rattle.given_values.specs.declared.wants.Wanted.{Wanted}
use Rattle.given_values.specs.declared.wants.Wanted.TheVariants as wants
use Rattle.given_values.specs.Given.{Part, said, valued, Gives, one, called, asking, quoted, printed, panicked, exited, operand_in, Seen, wanted_by, value_types, taken}
use Rattle.expression_types.specs.Typing.{spec_wanted, gives, stated_type, seen}
use Rattle.signatures.specs.declared.slots.Slot.{Slot}
use Rattle.signatures.specs.declared.entries.Role.TheVariants.{Parameter}
use Rattle.signatures.specs.Entries.{sites_of, entry_left, slot_with, slots_each, entries, behind_entries}
use Rattle.simple_statements.specs.declared.statements.Returns.{Returns as ReturnsData}

-- what a function gives back: what the places of its values ask for, and whether a `return` may have none
pub record Returns : Type 0 where
  pub wanted : List Wanted
  pub may_be_bare : Bool

abbrev pub returns_view : ReturnsData → Returns
returns_view r = record { wanted = r.wanted.items; may_be_bare = r.may_be_bare }

-- the expression that stands alone
abbrev pub only : TreeExs → Option TreeEx
only expressions.none = None
only (some e expressions.none) = Some e
only (some e (some g es)) = None

-- ---- left sides

-- a place as a left side, its type, and its value
abbrev pub target : Option TypedPlace → Option Left
target p = option_map (λ x. to x.place) p

abbrev pub place_type : Option TypedPlace → Option ValueType
place_type p = option_map (λ x. x.value_type) p

abbrev pub place_value : Option TypedPlace → Option Operand
place_value p = option_map (λ x. value x.value_type (read x.place)) p

-- a left side of `=`, and what it asks for: nothing is known of that where it is no place
abbrev pub left_of : (is_blank : Bool) → Option TypedPlace → Option Left
left_of is_blank p = if is_blank then Some blank else target p

abbrev pub wanted_of : (is_blank : Bool) → Option TypedPlace → Wanted
wanted_of is_blank p = if is_blank then wants.Own else wanted_by (place_type p)

-- a left side of `:=`: a variable that the block has, or a new one with the next site
abbrev pub new_left_of : (is_blank is_here : Bool) → Option TypedPlace → ℕ → Option Left
new_left_of is_blank is_here p site = if is_blank then Some blank else (if is_here then target p else Some (new site))

abbrev pub new_wanted_of : (is_blank is_here : Bool) → Option TypedPlace → Wanted
new_wanted_of is_blank is_here p = if is_here then wanted_of is_blank p else wants.Own

-- whether a `:=` declares the name
abbrev pub declares : Scope → List ℕ → Bool
declares s n = not (is_blank n) && not (is_here s n)

-- the names so far as one block, apart from blank ones
abbrev pub noted : Blocks → List ℕ → Blocks
noted names n = if is_blank n then names else insert names n 0

abbrev pub is_noted : Blocks → List ℕ → Bool
is_noted names n = not (is_blank n) && is_some (innermost names n)

-- the types of the values at these places
abbrev pub taken_types : List Wanted → List Seen → Option (List ValueType)
taken_types places os = option_and_then (λ v. value_types os) (taken places os)

-- ---- statements of their parts

-- statements before others
abbrev pub before : Sts → Sts → Sts
before done r = r
before (next t ts) r = next t (before ts r)

-- the strings among operands, and the operands where the strings are numbered from one on
abbrev pub strings_of : List Part → List (List ℕ)
strings_of [] = []
strings_of (said bytes ∷ ps) = bytes ∷ strings_of ps
strings_of (valued t e ∷ ps) = strings_of ps

abbrev pub piece_from : ℕ → Part → Piece
piece_from n (said bytes) = string_number n
piece_from n (valued t e) = shown t e

abbrev pub pieces_from : ℕ → List Part → List Piece
pieces_from n [] = []
pieces_from n (said bytes ∷ ps) = string_number n ∷ pieces_from (1 + n) ps
pieces_from n (valued t e ∷ ps) = shown t e ∷ pieces_from n ps

-- those of a call
abbrev pub strings_in_call : Gives → List (List ℕ)
strings_in_call (printed pos line ps) = strings_of ps
strings_in_call (panicked pos p) = strings_of (p ∷ [])
strings_in_call other = []

abbrev pub strings_in : Option Gives → List (List ℕ)
strings_in None = []
strings_in (Some g) = strings_in_call g

-- a call as a statement, where its strings are numbered from one on
abbrev pub expressed : ℕ → Gives → Option St
expressed n (one x) = None
expressed n (called pos ts f es) = Some (discard (results f es))
expressed n (asking pos) = Some (discard read_int)
expressed n (quoted pos bytes) = None
expressed n (printed pos line ps) = Some (print line (pieces_from n ps))
expressed n (panicked pos p) = Some (panic (position pos) (piece_from n p))
expressed n (exited pos e) = Some (exit (position pos) e)

-- a declaration or an assignment with these left sides and values
abbrev pub assignment : Option (List Left) → Option Exs → Option St
assignment ls v = option_and_then (λ l. option_map (assign l) v) ls

-- an assignment with an operator, of what the operator gives of the variable and the operand
abbrev pub updated : Operand → Option St
updated (value t (binary pos typed_op (read q) e)) = Some (update pos q typed_op e)
updated other = None

-- `++` or `--` on a variable, which is an int
abbrev pub stepped : Position → TypedOp → Operand → Option St
stepped pos typed_op (value Int (read q)) = Some (bump pos q typed_op)
stepped pos typed_op other = None

-- the values of a `return`
abbrev pub returned : Returns → List Seen → Option St
returned r [] = if r.may_be_bare then Some (return_stmt none) else None
returned r (o ∷ os) = option_map return_stmt (taken r.wanted (o ∷ os))

-- the names of a declaration: a type that stands before them holds for all, or else each has that of its value
abbrev pub slots_before : Option (Option ValueType) → Option (List ValueType) → List Name → List Slot
slots_before None ts ns = slots_each ts ns
slots_before (Some t) ts ns = map (slot_with t) ns

-- whether what stands before them is a type, if anything does
abbrev pub is_known_before : Option (Option ValueType) → Bool
is_known_before None = true
is_known_before (Some t) = is_some t

-- a declaration with a type and no values
abbrev pub is_bare : Option TreeEx → TreeExs → Bool
is_bare None es = false
is_bare (Some e) expressions.none = true
is_bare (Some e) (some x xs) = false

module _ (text : List ℕ) where
  -- the place whose value an expression gives
  abbrev pub place_in : Scope → TreeEx → Option TypedPlace
  place_in s e = option_and_then place_of (operand_in (gives text s e))

  -- whether an expression is the blank name, in parentheses or not
  abbrev pub is_blank_name : Option Name → Bool
  is_blank_name None = false
  is_blank_name (Some n) = is_blank (spelled text n)

  -- a left side of `=`: the blank name, or what is a place
  abbrev pub left : Scope → TreeEx → Option Left
  left s e = left_of (is_blank_name (name_in e)) (place_in s e)

  abbrev pub wanted : Scope → TreeEx → Wanted
  wanted s e = wanted_of (is_blank_name (name_in e)) (place_in s e)

  -- the left sides of `=`, where each is a place with a type or blank, and what they ask for
  abbrev pub lefts : Scope → TreeExs → Option (List Left)
  lefts s expressions.none = Some []
  lefts s (some e es) = option_and_then (λ l. option_map (λ ls. l ∷ ls) (lefts s es)) (left s e)

  abbrev pub all_wanted : Scope → TreeExs → List Wanted
  all_wanted s expressions.none = []
  all_wanted s (some e es) = wanted s e ∷ all_wanted s es

  -- the names that a `:=` declares, where it begins
  abbrev pub slot_declares : Scope → Option Name → Bool
  slot_declares s None = false
  slot_declares s (Some n) = declares s (spelled text n)

  abbrev pub new_slots : Scope → List Slot → List Slot
  new_slots s [] = []
  new_slots s (v ∷ vs) = if slot_declares s v.name then v ∷ new_slots s vs else new_slots s vs

  abbrev pub new_left : Scope → ℕ → Name → Option Left
  new_left s site n = new_left_of (is_blank (spelled text n)) (is_here s (spelled text n)) (place_in s (expressions.name n)) site

  abbrev pub new_wanted : Scope → Name → Wanted
  new_wanted s n = new_wanted_of (is_blank (spelled text n)) (is_here s (spelled text n)) (place_in s (expressions.name n))

  -- its left sides, the new ones of which have sites from one on, and what they ask for
  abbrev pub new_lefts : Scope → ℕ → List Name → Option (List Left)
  new_lefts s site [] = Some []
  new_lefts s site (n ∷ ns) = option_and_then (λ l. option_map (λ ls. l ∷ ls) (new_lefts s (if declares s (spelled text n) then 1 + site else site) ns)) (new_left s site n)

  abbrev pub all_new_wanted : Scope → List Name → List Wanted
  all_new_wanted s ns = map (new_wanted s) ns

  -- the scope after new variables, with types or without
  abbrev pub with_slot : Option ValueType → Scope → Option Name → Scope
  with_slot t s None = s
  with_slot t s (Some n) = with_variable t s (spelled text n) n.pos

  abbrev pub with_variables : Scope → List Slot → Scope
  with_variables s [] = s
  with_variables s (v ∷ vs) = with_variables (with_slot v.value_type s v.name) vs

  -- no name but the blank one stands twice
  abbrev pub are_distinct : Blocks → List Name → Bool
  are_distinct names [] = true
  are_distinct names (n ∷ ns) = not (is_noted names (spelled text n)) && are_distinct (noted names (spelled text n)) ns

  -- each name is blank, or the block has it
  abbrev pub has_all : Scope → List Name → Bool
  has_all s [] = true
  has_all s (n ∷ ns) = (is_blank (spelled text n) || is_here s (spelled text n)) && has_all s ns

  abbrev pub may_define : Scope → List Name → Bool
  may_define s ns = are_distinct ([] ∷ []) ns && not (has_all s ns)

  -- the value of a left side that is given another one of its own; the blank name has none
  abbrev pub own_value : Scope → TreeEx → Option Operand
  own_value s e = if is_blank_name (name_in e) then None else place_value (place_in s e)

  -- ---- simple statements

  abbrev pub definition_types : Scope → List Name → TreeExs → Option (List ValueType)
  definition_types s ns es = taken_types (all_new_wanted s ns) (seen text s es)

  abbrev pub behind_simple : Scope → Simple → Scope
  behind_simple s (tree.express e) = with_strings s (strings_in (gives text s e))
  behind_simple s (tree.assign ls pos es) = s
  behind_simple s (tree.update ls pos tree_op es) = s
  behind_simple s (tree.define ns pos es) = with_variables s (new_slots s (slots_each (definition_types s ns es) ns))
  behind_simple s (tree.increment e pos) = s
  behind_simple s (tree.decrement e pos) = s

  abbrev pub update_one : Scope → Pos → ArithmeticOp → TreeEx → TreeEx → Option St
  update_one s pos tree_op e v = option_and_then updated (both (combined pos (Arithmetic tree_op)) (own_value s e) (operand_in (gives text s v)))

  abbrev pub update_statement : Scope → Pos → ArithmeticOp → Option TreeEx → Option TreeEx → Option St
  update_statement s pos tree_op e v = option_and_then (λ x. option_and_then (update_one s pos tree_op x) v) e

  abbrev pub step_statement : Scope → Pos → TypedOp → TreeEx → Option St
  step_statement s pos typed_op e = option_and_then (stepped (position pos) typed_op) (own_value s e)

  abbrev pub simple_statement : Scope → Simple → Option St
  simple_statement s (tree.express e) = option_and_then (expressed (length s.strings)) (gives text s e)
  simple_statement s (tree.assign ls pos es) = assignment (lefts s ls) (taken (all_wanted s ls) (seen text s es))
  simple_statement s (tree.update ls pos tree_op es) = update_statement s pos tree_op (only ls) (only es)
  simple_statement s (tree.define ns pos es) = if may_define s ns then assignment (new_lefts s (length s.sites) ns) (taken (all_new_wanted s ns) (seen text s es)) else None
  simple_statement s (tree.increment e pos) = step_statement s pos op.Add e
  simple_statement s (tree.decrement e pos) = step_statement s pos op.Sub e

  -- ---- a `var` among statements: the values are worked out before the names are declared

  abbrev pub spec_slots_of : Scope → Option TreeEx → Option (List ValueType) → List Name → List Slot
  spec_slots_of s o ts ns = slots_before (option_map (stated_type text s) o) ts ns

  abbrev pub spec_slots : Scope → ValueSpec → List Slot
  spec_slots s v = spec_slots_of s v.type_expr (taken_types (spec_wanted text s v) (seen text s v.values)) v.names

  abbrev pub behind_spec : Scope → ValueSpec → Scope
  behind_spec s v = behind_entries text s (spec_slots s v)

  abbrev pub spec_entries : Scope → ValueSpec → Option (List (Option ℕ))
  spec_entries s v = entries text Parameter s (spec_slots s v)

  abbrev pub is_known : Scope → Option TreeEx → Bool
  is_known s o = is_known_before (option_map (stated_type text s) o)

  abbrev pub spec_declared : Scope → ValueSpec → Option St
  spec_declared s v = option_map (λ es. declare (sites_of es)) (spec_entries s v)

  abbrev pub spec_assigned : Scope → ValueSpec → Option St
  spec_assigned s v = assignment (option_map (map entry_left) (spec_entries s v)) (taken (spec_wanted text s v) (seen text s v.values))

  abbrev pub spec_statement : Scope → ValueSpec → Option St
  spec_statement s v = allowed (is_known s v.type_expr) (if is_bare v.type_expr v.values then spec_declared s v else spec_assigned s v)

  abbrev pub spec_statements : Scope → List ValueSpec → Option Sts
  spec_statements s [] = Some done
  spec_statements s (v ∷ vs) = option_and_then (λ t. option_map (next t) (spec_statements (behind_spec s v) vs)) (spec_statement s v)

  abbrev pub behind_specs : Scope → List ValueSpec → Scope
  behind_specs s [] = s
  behind_specs s (v ∷ vs) = behind_specs (behind_spec s v) vs
