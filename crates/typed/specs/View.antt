-- The abstract syntax of typed programs.
use Rattle.std.specs.Prelude.{ℕ, Bool as TruthValue, true, false, List, [], ◌∷◌, Option, Some, None, map, get_or}
use Rattle.base.specs.declared.ids.SiteId.{SiteId}
use Rattle.base.specs.declared.value_type.ValueType.{ValueType}
use Rattle.base.specs.declared.value_type.ValueType.TheVariants.{Pointer, Slice}
use Rattle.typed.specs.declared.expr.Const.{Const}
use Rattle.typed.specs.declared.expr.Const.TheVariants.{Int, Bool}
use Rattle.typed.specs.declared.expr.Step.{Step}
use Rattle.typed.specs.declared.expr.Step.TheVariants as way
use Rattle.typed.specs.declared.expr.Place.{Place, Row_of-Step, end_of-Step, more_of-Step, Local', Global', Indirect', SliceElement'}
use Rattle.typed.specs.declared.expr.Element.{Element}
use Rattle.typed.specs.declared.expr.Element.TheVariants as item
use Rattle.typed.specs.declared.expr.Expr.{Expr, Row_of-Element, end_of-Element, more_of-Element, Constant, Read, Unary', Binary', LogicalAnd', LogicalOr', Call', Part', Literal', Nil, AddressOf, New as NewVariable, NewLiteral', SliceLiteral', Make', Append', AppendSlice', Copy', Slicing', ArraySlicing, Len', Cap'}
use Rattle.typed.specs.declared.expr.Bound.{Bound as BoundData, Absent, At'}
use Rattle.typed.specs.declared.expr.Values.{Values, Row_of-Expr, end_of-Expr, more_of-Expr, Each', Results', ReadInt}
use Rattle.typed.specs.declared.stmt.Left.{Left as LeftData}
use Rattle.typed.specs.declared.stmt.Left.TheVariants.{Blank, New, To}
use Rattle.typed.specs.declared.stmt.Piece.{Piece as PieceData}
use Rattle.typed.specs.declared.stmt.Piece.TheVariants.{Text, Shown}
use Rattle.typed.specs.declared.stmt.Stmt.{Stmt, Row_of-Stmt, end_of-Stmt, more_of-Stmt, Declare, Assign, Update, Bump, Discard, Block', If', For', Count', Indices', Elements', SliceElements', PointedElements', PointedIndices', Break, Continue, Return, Print, Panic, Exit}
use Rattle.typed.specs.declared.program.Func.{Func as FuncData}
use Rattle.typed.specs.declared.program.PackageVariable.{PackageVariable}
use Rattle.typed.specs.declared.program.Site.{Site}
use Rattle.typed.specs.declared.program.SiteKind.{SiteKind}
use Rattle.typed.specs.declared.program.SiteKind.TheVariants as kind
use Rattle.typed.specs.declared.program.Program.{Program as ProgramData}
use Rattle.typed.specs.Positions.{position}
use Rattle.typed.specs.Trees.{trees}
use Rattle.typed_syntax.specs.Types.{TypeTree, ints, bools, pointer_to, slice_of}
use Rattle.typed_syntax.specs.Value.{Value, int, bool, zero_of}
use Rattle.typed_syntax.specs.Syntax.{Ex, Exs, Pl, Steps, Bound, Elements, Left, Piece, St, Sts, Func, Program, constant, read, unary, binary, logical_and, logical_or, call, part_of, literal, nil, address_of, new_variable, literal_variable, slice_literal, make, append, append_slice, copy, slicing, array_slicing, len, cap, absent, bound, no_elements, element, local, global, indirect, slice_element, here, inner, at_index, none, more, results, read_int, blank, new, to, text, shown, over_int, over_length, over_copy, over_slice, over_pointer, over_pointed, declare, assign, update, bump, discard, block, if_stmt, for_stmt, range, break_stmt, continue_stmt, return_stmt, print, panic, exit, done, next, type_in}

-- the types of whole numbers and of truth values, by their numbers: they come first in each table
abbrev pub basic_types : List TypeTree
basic_types = ints ∷ bools ∷ []

abbrev pub type_of : ℕ → TypeTree
type_of n = type_in basic_types n

-- the type of a `nil`, which is one of pointers or of slices
abbrev pub nil_type : ValueType → TypeTree
nil_type (Pointer e) = pointer_to e.0
nil_type (Slice e) = slice_of e.0
nil_type other = ints

abbrev pub value_of : Const → Value
value_of (Int z) = int z
value_of (Bool b) = bool b

abbrev mutual
  pub ex_of : Expr → Ex
  ex_of (Constant c) = constant (value_of c)
  ex_of (Read q) = read (place_of q)
  ex_of (Unary' op p a) = unary op (ex_of a)
  ex_of (Binary' at op p a q b) = binary (position at) op (ex_of a) (ex_of b)
  ex_of (LogicalAnd' p a q b) = logical_and (ex_of a) (ex_of b)
  ex_of (LogicalOr' p a q b) = logical_or (ex_of a) (ex_of b)
  ex_of (Call' f p vs) = call f.0 (exs_of_values vs)
  ex_of (Part' t i p e) = part_of t.0 i (ex_of e)
  ex_of (Literal' t shape row) = literal t.0 (elements_of_row row)
  ex_of (Nil t) = nil (nil_type t)
  ex_of (AddressOf q) = address_of (place_of q)
  ex_of (NewVariable site) = new_variable site.0
  ex_of (NewLiteral' site p e) = literal_variable site.0 (ex_of e)
  ex_of (SliceLiteral' site shape row) = slice_literal site.0 (exs_of_row row)
  ex_of (Make' at site p e room) = make (position at) site.0 (ex_of e) (bound_of room)
  ex_of (Append' site p e shape row) = append site.0 (ex_of e) (exs_of_row row)
  ex_of (AppendSlice' site p a q b) = append_slice site.0 (ex_of a) (ex_of b)
  ex_of (Copy' t p a q b) = copy t.0 (ex_of a) (ex_of b)
  ex_of (Slicing' at t p e low high) = slicing (position at) t.0 (ex_of e) (bound_of low) (bound_of high)
  ex_of (ArraySlicing at q n low high) = array_slicing (position at) (place_of q) n (bound_of low) (bound_of high)
  ex_of (Len' p e) = len (ex_of e)
  ex_of (Cap' p e) = cap (ex_of e)

  pub bound_of : BoundData → Bound
  bound_of Absent = absent
  bound_of (At' p e) = bound (ex_of e)

  pub place_of : Place → Pl
  place_of (Local' site shape row) = local site.0 (steps_of_row row)
  place_of (Global' number shape row) = global number (steps_of_row row)
  place_of (Indirect' at p e t shape row) = indirect (position at) (ex_of e) t.0 (steps_of_row row)
  place_of (SliceElement' at p e q i t shape row) = slice_element (position at) (ex_of e) (ex_of i) t.0 (steps_of_row row)

  pub steps_of_row : {m : _} → Row_of-Step m → Steps
  steps_of_row end_of-Step = here
  steps_of_row (more_of-Step (way.Inner i) rest) = inner i (steps_of_row rest)
  steps_of_row (more_of-Step (way.Index at e n) rest) = at_index (position at) (ex_of e) n (steps_of_row rest)

  pub elements_of_row : {m : _} → Row_of-Element m → Elements
  elements_of_row end_of-Element = no_elements
  elements_of_row (more_of-Element (item.For i e) rest) = element i (ex_of e) (elements_of_row rest)

  pub exs_of_row : {m : _} → Row_of-Expr m → Exs
  exs_of_row end_of-Expr = none
  exs_of_row (more_of-Expr e rest) = more (ex_of e) (exs_of_row rest)

  pub exs_of_values : Values → Exs
  exs_of_values (Each' shape row) = exs_of_row row
  exs_of_values (Results' f p vs) = results f.0 (exs_of_values vs)
  exs_of_values ReadInt = read_int

-- the same at lists
abbrev pub exs_of : List Expr → Exs
exs_of [] = none
exs_of (e ∷ es) = more (ex_of e) (exs_of es)

abbrev pub steps_of : List Step → Steps
steps_of [] = here
steps_of (way.Inner i ∷ steps) = inner i (steps_of steps)
steps_of (way.Index at e n ∷ steps) = at_index (position at) (ex_of e) n (steps_of steps)

abbrev pub elements_of : List Element → Elements
elements_of [] = no_elements
elements_of (item.For i e ∷ es) = element i (ex_of e) (elements_of es)

abbrev pub left_of : LeftData → Left
left_of Blank = blank
left_of (New site) = new site.0
left_of (To q) = to (place_of q)

abbrev pub piece_of : PieceData → Piece
piece_of (Text number) = text number
piece_of (Shown t e) = shown (type_of t.0) (ex_of e)

abbrev pub site_numbers : List SiteId → List ℕ
site_numbers sites = map (λ site. site.0) sites

abbrev pub test_of : Option Expr → Option Ex
test_of None = None
test_of (Some e) = Some (ex_of e)

abbrev mutual
  pub st_of : Stmt → St
  st_of (Declare sites) = declare (site_numbers sites.items)
  st_of (Assign ls vs) = assign (map left_of ls.items) (exs_of_values vs)
  st_of (Update at q op e) = update (position at) (place_of q) op (ex_of e)
  st_of (Bump at q op) = bump (position at) (place_of q) op
  st_of (Discard vs) = discard (exs_of_values vs)
  st_of (Block' shape row) = block (sts_of_row row)
  st_of (If' e shape row shape' row') = if_stmt (ex_of e) (sts_of_row row) (sts_of_row row')
  st_of (For' sites test shape row shape' row') = for_stmt (site_numbers sites.items) (test_of test) (sts_of_row row) (sts_of_row row')
  st_of (Count' e key shape row) = range (over_int (ex_of e)) (left_of key) blank (sts_of_row row)
  st_of (Indices' n key shape row) = range (over_length n) (left_of key) blank (sts_of_row row)
  st_of (Elements' site e n key value shape row) = range (over_copy site.0 (ex_of e) n) (left_of key) (left_of value) (sts_of_row row)
  st_of (SliceElements' e t key value shape row) = range (over_slice (ex_of e) t.0) (left_of key) (left_of value) (sts_of_row row)
  st_of (PointedElements' at e n t key value shape row) = range (over_pointer (position at) (ex_of e) n t.0) (left_of key) (left_of value) (sts_of_row row)
  st_of (PointedIndices' n key shape row) = range (over_pointed n) (left_of key) blank (sts_of_row row)
  st_of Break = break_stmt
  st_of Continue = continue_stmt
  st_of (Return vs) = return_stmt (exs_of_values vs)
  st_of (Print ln ps) = print ln (map piece_of ps.items)
  st_of (Panic at p) = panic (position at) (piece_of p)
  st_of (Exit at e) = exit (position at) (ex_of e)

  pub sts_of_row : {m : _} → Row_of-Stmt m → Sts
  sts_of_row end_of-Stmt = done
  sts_of_row (more_of-Stmt s rest) = next (st_of s) (sts_of_row rest)

-- the same at lists
abbrev pub sts_of : List Stmt → Sts
sts_of [] = done
sts_of (s ∷ ss) = next (st_of s) (sts_of ss)

-- the number of a site, where there is one
abbrev pub site_in : Option SiteId → Option ℕ
site_in None = None
site_in (Some site) = Some site.0

-- a function, where these are the types
abbrev pub func_of : List TypeTree → FuncData → Func
func_of types f = record {
  first = f.first_site;
  count = f.sites;
  params = map site_in f.params.items;
  param_types = map (λ t. type_in types t.0) f.param_types.items;
  results = map (λ t. type_in types t.0) f.results.items;
  named = map (λ site. site.0) f.named.items;
  body = sts_of f.body.items;
}

-- the value that a package variable of a type begins with
abbrev pub first_value : TypeTree → Option Const → Value
first_value t None = zero_of t
first_value t (Some c) = value_of c

abbrev pub site_types : List TypeTree → List Site → List TypeTree
site_types types sites = map (λ site. type_in types site.type_id.0) sites

-- whether expressions make variables of a kind: no name stands for them
abbrev pub is_made_kind : SiteKind → TruthValue
is_made_kind kind.New = true
is_made_kind kind.Make = true
is_made_kind kind.Append = true
is_made_kind kind.Literal = true
is_made_kind kind.SliceLiteral = true
is_made_kind other = false

abbrev pub addresses_taken : List Site → List TruthValue
addresses_taken sites = map (λ site. site.address_taken) sites

abbrev pub made_by_expressions : List Site → List TruthValue
made_by_expressions sites = map (λ site. is_made_kind site.kind) sites

-- a package variable, where these are the types of the sites
abbrev pub global_of : List TypeTree → PackageVariable → ℕ × Value
global_of types g = (g.site.0, first_value (get_or types g.site.0 ints) g.value)

-- a program, where these are its types
abbrev pub program_in : List TypeTree → ProgramData → Program
program_in types p = record {
  funcs = map (func_of types) p.funcs.items;
  types = types;
  sites = site_types types p.sites.items;
  taken = addresses_taken p.sites.items;
  made = made_by_expressions p.sites.items;
  strings = map (λ bytes. bytes.items) p.strings.items;
  globals = map (global_of (site_types types p.sites.items)) p.globals.items;
  main = p.main.0;
}

abbrev pub program_of : ProgramData → Program
program_of p = program_in (trees p.types) p
