-- What the names of a program stand for, at a place of it (Go specification, "Declarations and scope").
use Rattle.std.specs.Prelude.{ℕ, ◌+◌, ◌-◌, Bool, false, nat_lt, if◌then◌else◌, List, map, [], ◌∷◌, ◌++◌, length, slice_get, slice_set, Option, Some, None, option_and_then, is_some}
use Rattle.std.specs.Option.{option_map, unwrap_or}
use Rattle.base.specs.declared.ids.FuncId.{FuncId}
use Rattle.base.specs.declared.pos.Pos.{Pos}
use Rattle.typed.specs.declared.program.Site.{Site}
use Rattle.typed.specs.declared.program.SiteKind.{SiteKind}
use Rattle.typed.specs.declared.program.SiteKind.TheVariants.{Package, Range}
use Rattle.typed.specs.declared.program.HeapReason.{HeapReason}
use Rattle.typed.specs.declared.program.HeapReason.TheVariants as reason
use Rattle.typed_syntax.specs.Types.{TypeTree, width}
use Rattle.base.specs.declared.value_type.ValueType.{ValueType}
use Rattle.base.specs.declared.value_type.ValueType.TheVariants.{Int, Bool as Truth}
use Rattle.typed.specs.Tables.{Table, number_of}
use Rattle.typed.specs.Trees.{tree_named}
use Rattle.names.specs.Blocks.{Blocks, lookup, innermost, insert}
use Rattle.names.specs.declared.settings.Setting.{Setting}
use Rattle.names.specs.declared.scope.Signature.{Signature as SignatureData}
use Rattle.names.specs.declared.scope.Declared.{Declared}
use Rattle.names.specs.declared.scope.Declared.TheVariants.{Variable, Untyped}
use Rattle.names.specs.declared.scope.Known.{Known}
use Rattle.names.specs.declared.scope.Scope.{Scope as ScopeData}
use Rattle.names.specs.Universe.{predeclared}

-- the number of a type in a typed program with this table
abbrev pub type_number : Table → ValueType → ℕ
type_number T t = unwrap_or (number_of T t) 0

-- a type as those of values are given
abbrev pub type_tree : Table → ValueType → TypeTree
type_tree T t = tree_named T (type_number T t)

abbrev pub type_trees : Table → List ValueType → List TypeTree
type_trees T ts = map (type_tree T) ts

-- the table of the basic types
abbrev pub basic_table : Table
basic_table = record { types = Int ∷ Truth ∷ []; structs = [] }

-- the types of a function's parameters and of its results
pub record Signature : Type 0 where
  pub params : List ValueType
  pub results : List ValueType

abbrev pub signature_of : SignatureData → Signature
signature_of s = record { params = s.params.items; results = s.results.items }

-- ---- sites

-- the most words of a variable in a frame
abbrev pub most_frame_words : ℕ
most_frame_words = 8192

-- why variables of this kind with so many words are on the heap, whatever flows
abbrev pub heap_reason : SiteKind → ℕ → Option HeapReason
heap_reason Package words = Some reason.Package
heap_reason kind words = if nat_lt most_frame_words words then Some reason.Size else None

-- the function of a site: a package variable has none
abbrev pub site_function : SiteKind → FuncId → Option FuncId
site_function Package f = None
site_function kind f = Some f

-- a site of a type, whose name's bytes begin at a number
abbrev pub site_at : Setting → Table → ℕ → (name : List ℕ) → ValueType → Pos → Site
site_at x T start name t pos = record {
  pos = pos;
  type_id = record { 0 = type_number T t };
  kind = x.kind;
  func = site_function x.kind x.func;
  depth = x.depth;
  carried = x.carried;
  words = width (type_tree T t);
  known = heap_reason x.kind (width (type_tree T t));
  name = record { start = start; end = start + length name };
  address_taken = false;
}

-- ---- where sites stand

-- at the level of the package, before its first function
abbrev pub first_setting : Setting
first_setting = record { kind = Package; func = record { 0 = 0 }; depth = 0; carried = false }

-- where variables of a kind are declared
abbrev pub declaring : SiteKind → Setting → Setting
declaring kind x = record x { kind = kind }

-- in a loop: in its header, where it may be that variables are carried on from one iteration to the next, and in its body
abbrev pub in_header : Bool → Setting → Setting
in_header carried x = record x { depth = x.depth + 1; carried = carried }

abbrev pub in_body : Setting → Setting
in_body x = record x { carried = false }

-- the hidden copy of an array that a `range` goes over stands outside of the loop, in whose header this is
abbrev pub of_copy : Setting → Setting
of_copy x = record x { kind = Range; depth = x.depth - 1; carried = false }

-- after a function
abbrev pub after_function : Setting → Setting
after_function x = record { kind = Package; func = record { 0 = x.func.0 + 1 }; depth = 0; carried = false }

-- ---- names

-- the blocks that are open, which number the declarations; the declarations; the sites of the variables with a type; the signatures of the
-- functions, where they have one; what is known of the constants and the package variables, which are numbered together: the value of a
-- constant, and the type of a variable; which of them are the package variables with a name; the bytes of the strings that stand in
-- statements so far; the types of the program; the fields of each struct, a block of names for each; where new sites stand; and the bytes of
-- the names of the sites
pub record Scope : Type 0 where
  pub blocks : Blocks
  pub declared : List Declared
  pub sites : List Site
  pub signatures : List (Option Signature)
  pub values : List (Option Known)
  pub globals : List ℕ
  pub strings : List (List ℕ)
  pub types : Table
  pub fields : List Blocks
  pub setting : Setting
  pub site_names : List ℕ

abbrev pub scope_of : ScopeData → Scope
scope_of s = record { blocks = s.names; declared = s.declared.items; sites = s.sites.items; signatures = map (option_map signature_of) s.signatures.items; values = s.values.items; globals = map (λ k. k.0) s.globals.items; strings = map (λ string. string.items) s.strings.items; types = s.types; fields = s.fields.items; setting = s.setting; site_names = s.site_names.items }

-- what the number of a declaration stands for, or else what the language says of the name
abbrev pub numbered : Scope → List ℕ → Option ℕ → Option Declared
numbered s name (Some k) = slice_get s.declared k
numbered s name None = predeclared name

-- what a name stands for: the innermost block that declares it says so, and outside of them all the language
abbrev pub declaration : Scope → List ℕ → Option Declared
declaration s name = numbered s name (lookup s.blocks name)

-- whether the innermost block declares a name
abbrev pub is_here : Scope → List ℕ → Bool
is_here s name = is_some (innermost s.blocks name)

-- the signature of a function, by its number
abbrev pub signature : Scope → ℕ → Option Signature
signature s f = option_and_then (λ o. o) (slice_get s.signatures f)

-- what is known of a constant or a package variable, by its number
abbrev pub known : Scope → ℕ → Option Known
known s k = option_and_then (λ o. o) (slice_get s.values k)

-- one more declaration, of a name of the innermost block
abbrev pub with_declaration : Scope → List ℕ → Declared → Scope
with_declaration s name d = record s { blocks = insert s.blocks name (length s.declared); declared = s.declared ++ d ∷ [] }

-- one more site, of a type, at a place, which has a name or none
abbrev pub with_site : Scope → Setting → (name : List ℕ) → ValueType → Pos → Scope
with_site s x name t pos = record s { sites = s.sites ++ site_at x s.types (length s.site_names) name t pos ∷ []; site_names = s.site_names ++ name }

-- one more variable: with a type it has a site of its own
abbrev pub with_variable : Option ValueType → Scope → List ℕ → Pos → Scope
with_variable (Some t) s name pos = with_site (with_declaration s name (Variable (record { 0 = length s.sites }) t)) s.setting name t pos
with_variable None s name pos = with_declaration s name Untyped

-- one more function, which has a signature or none
abbrev pub with_signature : Scope → Option Signature → Scope
with_signature s o = record s { signatures = s.signatures ++ o ∷ [] }

-- one more constant or package variable, of which something is known or nothing
abbrev pub with_value : Scope → Option Known → Scope
with_value s o = record s { values = s.values ++ o ∷ [] }

-- one more package variable with a name, which is the constant or variable of the next number
abbrev pub with_global : Scope → Scope
with_global s = record s { globals = s.globals ++ length s.values ∷ [] }

-- what is known of the constant or package variable of a number
abbrev pub with_known : Scope → ℕ → Option Known → Scope
with_known s k o = record s { values = slice_set s.values k o }

-- more strings
abbrev pub with_strings : Scope → List (List ℕ) → Scope
with_strings s strings = record s { strings = s.strings ++ strings }

-- one more struct, by the names of its fields
abbrev pub with_struct : Scope → Blocks → Scope
with_struct s names = record s { fields = s.fields ++ names ∷ [] }

-- where new sites stand elsewhere
abbrev pub with_setting : Scope → Setting → Scope
with_setting s x = record s { setting = x }

-- where a block begins
abbrev pub opened : Scope → Scope
opened s = record s { blocks = [] ∷ s.blocks }

abbrev pub outer : Blocks → Blocks
outer [] = []
outer (b ∷ bs) = bs

-- after a block
abbrev pub closed : Scope → Scope
closed s = record s { blocks = outer s.blocks }

-- where no name is declared
abbrev pub beginning : Scope
beginning = record { blocks = [] ∷ []; declared = []; sites = []; signatures = []; values = []; globals = []; strings = []; types = basic_table; fields = []; setting = first_setting; site_names = [] }
