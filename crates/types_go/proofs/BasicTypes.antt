-- The basic types are known in the table of a package's names.
use Rattle.std.proofs.Common.{◌≡◌, ℕ, zero, suc, true, List, [], ◌∷◌, Option, Some, None, is_some, if◌then◌else◌, refl, ap, ◌∙◌}
use Rattle.std.specs.Prelude.{option_and_then}
use Rattle.std.specs.List.{fold}
use Rattle.std.specs.Option.{option_map}
use Rattle.base.specs.declared.value_type.ValueType.{ValueType}
use Rattle.base.specs.declared.value_type.ValueType.TheVariants.{Int, Bool as Boolean, Struct, Array}
use Rattle.typed_syntax.specs.Types.{TypeTree, ints, bools, width}
use Rattle.typed.specs.Tables.{Table, Holds, number_of, with_type}
use Rattle.typed.specs.Trees.{tree_within, tree_of}
use Rattle.typed.specs.Formed.{words_at}
use Rattle.typed.proofs.Numbers.{number_holds, lacks}
use Rattle.typed.proofs.Nested.{depth_is}
use Rattle.typed.proofs.Entered.{entered, entered_grows}
use Rattle.names.specs.Types.{is_known}
use Rattle.names.proofs.Trees.{tree_held}
use Rattle.struct_sizes.specs.declared.forms.Prefix.{Prefix}
use Rattle.struct_sizes.specs.declared.forms.Prefix.TheVariants as prefix
use Rattle.struct_sizes.specs.declared.forms.Base.{Base}
use Rattle.struct_sizes.specs.Structs.{Prefixed, Fields}
use Rattle.type_tables.specs.Told.{base_type, with_prefixed, with_field, with_struct, number_in, program_table}
use Rattle.declared_structs.specs.Tables.{with_structs}

-- ---- a type that has a number and a tree is known

int_tree : (T : Table) → tree_of T Int ≡ Some ints
unfolding tree_of
int_tree T = ap (λ (d : ℕ). tree_within T d Int) (depth_is T)

bool_tree : (T : Table) → tree_of T Boolean ≡ Some bools
unfolding tree_of
bool_tree T = ap (λ (d : ℕ). tree_within T d Boolean) (depth_is T)

known_by : (T : Table) (t : ValueType) (i : ℕ) (x : TypeTree) → Holds T i t → tree_of T t ≡ Some x → is_known T t ≡ true
known_by T t i x h tree = by (number_of T t) refl
  where
    by : (o : Option ℕ) → number_of T t ≡ o → is_some (option_and_then (words_at T) o) ≡ true
    by None n = absurd (lacks T t i n h)
    by (Some j) n = ap (λ o. is_some (option_map width o)) (tree_held T t j (number_holds T t j n) ∙ tree)

-- both basic types have numbers
pub record HasBasic (T : Table) : Type 0 where
  pub int : Holds T 0 Int
  pub bool : Holds T 1 Boolean

pub int_known : (T : Table) → HasBasic T → is_known T Int ≡ true
int_known T has = known_by T Int 0 ints has.int (int_tree T)

pub bool_known : (T : Table) → HasBasic T → is_known T Boolean ≡ true
bool_known T has = known_by T Boolean 1 bools has.bool (bool_tree T)

-- ---- tables grow

type_keeps : (T : Table) (t : ValueType) → HasBasic T → HasBasic (with_type T t)
type_keeps T t has = by (number_of T t)
  where
    by : (o : Option ℕ) → HasBasic (if is_some o then T else entered T t)
    by None = record { int = (entered_grows T t).types 0 Int has.int; bool = (entered_grows T t).types 1 Boolean has.bool }
    by (Some i) = has

prefixed_keeps : (T : Table) (ps : List Prefix) (base : Base) → HasBasic T → HasBasic (with_prefixed T ps base)
prefixed_keeps T [] base has = type_keeps T (base_type base) has
prefixed_keeps T (prefix.Array n ∷ ps) base has =
    let U = with_prefixed T ps base in
    type_keeps U (Array n (record { 0 = number_in U ps base })) (prefixed_keeps T ps base has)
prefixed_keeps T (prefix.Pointer ∷ ps) base has = prefixed_keeps T ps base has
prefixed_keeps T (prefix.Slice ∷ ps) base has = prefixed_keeps T ps base has

field_keeps : (T : Table) (o : Option Prefixed) → HasBasic T → HasBasic (with_field T o)
field_keeps T None has = has
field_keeps T (Some t) has = prefixed_keeps T t.prefixes t.base has

fold_keeps : {A : Type 0} (f : Table → A → Table) → ((T : Table) (x : A) → HasBasic T → HasBasic (f T x))
    → (T : Table) (xs : List A)
    → HasBasic T → HasBasic (fold f T xs)
fold_keeps f each T [] has = has
fold_keeps f each T (x ∷ xs) has = fold_keeps f each (f T x) xs (each T x has)

struct_keeps : (T : Table) (o : Option Fields) → HasBasic T → HasBasic (with_struct T o)
struct_keeps T None has = has
struct_keeps T (Some fs) has = fold_keeps with_field field_keeps T fs has

program_has : (structs : List (Option Fields)) → HasBasic (program_table structs)
program_has structs =
    let has = fold_keeps with_struct struct_keeps _ structs (record { int = refl; bool = refl }) in
    record { int = has.int; bool = has.bool }

-- in the table of a program's structs
pub structs_have : (structs : List (Option Fields)) (n : ℕ) → HasBasic (with_structs (program_table structs) n)
structs_have structs zero = program_has structs
structs_have structs (suc n) =
    type_keeps (with_structs (program_table structs) n) (Struct (record { 0 = n })) (structs_have structs n)
