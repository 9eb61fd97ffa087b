-- What operators and calls give is in form, where their operands are: constants are words, and operators and calls have operands of the types
-- that they take.
use Rattle.std.proofs.Common.{◌≡◌, ◌<◌, ℕ, ℤ, Bool, true, false, cond, List, [], ◌∷◌, inl, inr, Option, Some, None, Result, refl, sym, ap, ap₂, ◌∙◌, subst, arith, length}
use Rattle.std.specs.Prelude.{option_and_then, nat_le, slice_get, ◌==◌, ◌&&◌}
use Rattle.std.specs.Option.{option_map}
use Rattle.std.proofs.lemmas.Int.{ints as int_lemmas}
use Rattle.std.proofs.lemmas.Bool.{eqb-true}
use Rattle.base.specs.declared.pos.Pos.{Pos}
use Rattle.base.specs.declared.ids.SiteId.{SiteId}
use Rattle.syntax.specs.declared.operator.ArithmeticOp.{ArithmeticOp}
use Rattle.syntax.specs.declared.operator.ArithmeticOp.TheVariants.{Add, Sub, Mul, Div, Rem, And, Or, Xor, AndNot, ShiftLeft, ShiftRight}
use Rattle.syntax.specs.declared.operator.BinOp.{BinOp}
use Rattle.syntax.specs.declared.operator.BinOp.TheVariants.{Arithmetic, Compare, LogicalAnd, LogicalOr}
use Rattle.syntax.specs.declared.operator.CompareOp.{CompareOp}
use Rattle.syntax.specs.declared.operator.CompareOp.TheVariants.{Equal, NotEqual, Less, LessEqual, Greater, GreaterEqual}
use Rattle.syntax.specs.declared.operator.UnOp.{UnOp}
use Rattle.syntax.specs.declared.operator.UnOp.TheVariants.{Plus, Negate, Complement, Not}
use Rattle.syntax.specs.Expressions.{unary, binary, call}
use Rattle.typed_syntax.specs.declared.operators.UnOp.{UnOp as TypedPrefix}
use Rattle.typed.specs.declared.program.Site.{Site}
use Rattle.typed_syntax.specs.Syntax.{Ex, Exs, Func, Program, site_type, global_type}
use Rattle.typed.specs.Positions.{position}
use Rattle.typed_syntax.specs.Syntax as typed
use Rattle.typed.specs.Tables.{Table}
use Rattle.typed.specs.Trees.{trees, tree_named}
use Rattle.typed.specs.Formed.{IsFormed}
use Rattle.typed_syntax.specs.Form.{IsPlain, InScope, IsWord, IsComparable, TakesOne, ExFits, ExsFit}
use Rattle.typed_syntax.specs.Types.{TypeTree, ints, bools}
use Rattle.typed_syntax.specs.Value.{int}
use Rattle.constants.specs.declared.constant.Constant.{Constant}
use Rattle.constants.specs.declared.constant.Constant.TheVariants.{Number, Truth}
use Rattle.base.specs.declared.value_type.ValueType.{ValueType}
use Rattle.base.specs.declared.value_type.ValueType.TheVariants.{Int, Bool as Boolean, Slice}
use Rattle.base.specs.Types.{same_type}
use Rattle.base.proofs.Types.{same_is}
use Rattle.constants.specs.Constants.{is_int, is_held, constant_type}
use Rattle.type_faults.specs.Given.{allowed}
use Rattle.type_faults.proofs.Options.{and_then_some, map_some, none_some, same_some}
use Rattle.operators.specs.declared.folding.Const.{Const}
use Rattle.operators.specs.declared.folding.ConstFault.{ConstFault}
use Rattle.operators.specs.Folding.{folded_one}
use Rattle.operators.specs.Operands.{Operand, constant, value, nil, type_of, is_assignable, constant_value, const_of, as_value, constant_of}
use Rattle.operators.specs.Operators.{joint_type, converts, worked_out, takes_one, prefix_of, prefixed, are_comparable, takes, takes_both, result_type, right_allowed, arithmetic_of, compare_of, typed_pair, both_values, value_pair, combined}
use Rattle.operators.proofs.Held.{held_type, constant_is}
use Rattle.names.specs.declared.scope.ValueId.{ValueId}
use Rattle.names.specs.declared.scope.GlobalId.{GlobalId}
use Rattle.names.specs.declared.scope.Declared.TheVariants as declared
use Rattle.names.specs.Scope.{Scope, Signature, type_number, type_tree, type_trees, declaration, signature, known}
use Rattle.names.specs.declared.scope.Known.{Known}
use Rattle.names.proofs.Trees.{int_tree, bool_tree}
use Rattle.given_values.specs.declared.wants.Wanted.{Wanted}
use Rattle.given_values.specs.declared.wants.Wanted.TheVariants as wants
use Rattle.given_values.specs.Given.{Part, said, valued, Gives, one, called, asking, quoted, printed, panicked, exited, known_type, single, operand_in, value_in, shown_type, shown_of, as_part, part_in, Seen, values, parts, type_in_one, single_types, Many, many_in, many, types_with, value_types, accepts, types_agree, accepts_operand, operand_agrees, values_agree, each, fits_with, fits, all_values, taken, asked, Callee, printer, panicker, reader, exiter, function, conversion, no_function, no_spread, no_text_spread, nothing, panicked_with, exit_places, exited_with, called_with, as_condition, measurer, measured, measure_constant}
use Rattle.given_values.proofs.DecidedValues.{many_single}
use Rattle.given_values.proofs.HeldCalls.{measured_int}
use Rattle.given_values.proofs.NoSlices.{HoldsNoSlice, comparable}

pub is_word : (z : ℤ) → is_int z ≡ true → IsWord (int z)
is_word z h = grind (arith, int_lemmas)

-- what a program has at the sites, functions and package variables of a scope: sites of these types, functions with these signatures, and
-- package variables of these types; and its types are those of the scope's table, which has no slices yet
pub record Agrees (s : Scope) (p : Program) : Type 0 where
  pub sites : (k : ℕ) (site : Site) → slice_get s.sites k ≡ Some site → site_type p k ≡ tree_named s.types site.type_id.0
  pub functions : (f : ℕ) (sig : Signature) → signature s f ≡ Some sig
      → (func : Func) × (slice_get p.funcs f ≡ Some func) × (func.param_types ≡ type_trees s.types sig.params) × (func.results ≡ type_trees s.types sig.results)
  pub globals : (g k : ℕ) (x : Known) → slice_get s.globals g ≡ Some k → known s k ≡ Some x → (g < length p.globals) × (global_type p g ≡ type_tree s.types (known_type x))
  pub types : p.types ≡ trees s.types
  pub formed : IsFormed s.types
  pub no_slice : HoldsNoSlice s.types

-- the package variables that names stand for have their numbers
abbrev pub AreNumbered : Scope → Type 0
AreNumbered s = (n : List ℕ) (k : ValueId) (g : GlobalId) → declaration s n ≡ Some (declared.Global k g) → slice_get s.globals g.0 ≡ Some k.0

-- a variable of a scope has a site of its type
abbrev pub HasSite : Scope → ℕ → ValueType → Type 0
HasSite s k t = (site : Site) × (slice_get s.sites k ≡ Some site) × (site.type_id.0 ≡ type_number s.types t)

-- the variables that names stand for are in scope
abbrev pub AreShown : Scope → List ℕ → Type 0
AreShown s scope = (n : List ℕ) (site : SiteId) (t : ValueType) → declaration s n ≡ Some (declared.Variable site t) → InScope site.0 scope × HasSite s site.0 t

-- values of these types are taken at these places
abbrev pub AreAccepted : List Wanted → List ValueType → Type 0
AreAccepted [] [] = Unit {0}
AreAccepted (wants.Own ∷ ps) (t ∷ ts) = AreAccepted ps ts
AreAccepted (wants.Typed s ∷ ps) (t ∷ ts) = (s ≡ t) × AreAccepted ps ts
AreAccepted (wants.Unknown ∷ ps) (t ∷ ts) = AreAccepted ps ts
AreAccepted ps ts = ⊥

pub both_true : (a b : Bool) → (a && b) ≡ true → (a ≡ true) × (b ≡ true)
both_true true b is = (refl, is)
both_true false b is = cc is

pub allowed_some : {A : Type 0} (b : Bool) (o : Option A) (x : A) → allowed b o ≡ Some x → (b ≡ true) × (o ≡ Some x)
allowed_some true o x is = (refl, is)
allowed_some false o x is = absurd (none_some is)

pub accepted_all : (ps : List Wanted) (ts : List ValueType) → length ts ≡ length ps → types_agree ps ts ≡ true → AreAccepted ps ts
accepted_all [] [] long is = tt
accepted_all [] (t ∷ ts) long is = absurd (omega (arith, long))
accepted_all (p ∷ ps) [] long is = absurd (omega (arith, long))
accepted_all (wants.Own ∷ ps) (t ∷ ts) long is = accepted_all ps ts (omega (arith, long)) is
accepted_all (wants.Unknown ∷ ps) (t ∷ ts) long is = accepted_all ps ts (omega (arith, long)) is
accepted_all (wants.Typed s ∷ ps) (t ∷ ts) long is =
    let k = both_true (same_type s t) (types_agree ps ts) is in (same_is s t k.0, accepted_all ps ts (omega (arith, long)) k.1)

pub accepted_one : (q : Wanted) (t : ValueType) (ps : List Wanted) (ts : List ValueType) → accepts q t ≡ true → AreAccepted ps ts → AreAccepted (q ∷ ps) (t ∷ ts)
accepted_one wants.Own t ps ts is all = all
accepted_one wants.Unknown t ps ts is all = all
accepted_one (wants.Typed s) t ps ts is all = (same_is s t is, all)

-- what is a value has a type
pub typed_value : (x : Operand) (e : Ex) → as_value x ≡ Some e → (t : ValueType) × (type_of x ≡ Some t)
typed_value (constant f) e is = (constant_type f.value_type f.value, refl)
typed_value (value t y) e is = (t, refl)
typed_value nil e is = absurd (none_some is)

pub taken_accepted : (q : Wanted) (x : Operand) (t : ValueType) → type_of x ≡ Some t → accepts_operand q x ≡ true → accepts q t ≡ true
taken_accepted wants.Own x t typed is = refl
taken_accepted wants.Unknown x t typed is = refl
taken_accepted (wants.Typed s) (constant f) t typed is = ap (same_type s) (sym (same_some typed)) ∙ is
taken_accepted (wants.Typed s) (value u y) t typed is = ap (same_type s) (sym (same_some typed)) ∙ is
taken_accepted (wants.Typed s) nil t typed is = absurd (none_some typed)

pub agrees_some : (q : Wanted) (o : Option Operand) (x : Operand) (t : ValueType) → o ≡ Some x → type_of x ≡ Some t → operand_agrees q o ≡ true → accepts q t ≡ true
agrees_some q None x t found typed is = absurd (none_some found)
agrees_some q (Some y) x t found typed is = taken_accepted q x t typed (ap (accepts_operand q) (sym (same_some found)) ∙ is)

-- where places ask for types the values have these
pub asked_types : (ts us : List ValueType) → AreAccepted (asked ts) us → ts ≡ us
asked_types [] [] all = refl
asked_types [] (u ∷ us) all = absurd all
asked_types (t ∷ ts) [] all = absurd all
asked_types (t ∷ ts) (u ∷ us) all = let front : t ≡ u = all.0 in let rest : ts ≡ us = asked_types ts us all.1 in cc (front, rest)

-- ---- the types of operators

comparable_same : (s t : ValueType) → are_comparable s t ≡ true → same_type s t ≡ true
comparable_same (Slice e) t is = cc is
comparable_same s t is = is

takes_numbers : (op : ArithmeticOp) (s t : ValueType) → takes (Arithmetic op) s t ≡ true → (s ≡ Int) × (t ≡ Int)
takes_numbers op Int Int is = (refl, refl)
takes_numbers op s t is = absurd cc is

-- an operator takes operands that have types
pub both_typed : (op : BinOp) (s t : Option ValueType) → takes_both op s t ≡ true → (u : ValueType) × (v : ValueType) × (s ≡ Some u) × (t ≡ Some v) × (takes op u v ≡ true)
both_typed op (Some u) (Some v) is = (u, v, refl, refl, is)
both_typed op None t is = cc is
both_typed op (Some u) None is = cc is

-- what can be given to a place of a type is of that type
pub assigned_type : (t : ValueType) (x : Operand) → is_assignable t x ≡ true → type_of x ≡ Some t
assigned_type t (constant f) is = ap Some (sym (same_is t (constant_type f.value_type f.value) is))
assigned_type t (value u y) is = ap Some (sym (same_is t u is))
assigned_type t nil is = cc is

takes_truths : (s t : ValueType) → takes LogicalAnd s t ≡ true → (s ≡ Boolean) × (t ≡ Boolean)
takes_truths Boolean Boolean is = (refl, refl)
takes_truths s t is = absurd cc is

takes_either : (s t : ValueType) → takes LogicalOr s t ≡ true → (s ≡ Boolean) × (t ≡ Boolean)
takes_either Boolean Boolean is = (refl, refl)
takes_either s t is = absurd cc is

-- ---- what fits in a program

module _ (p : Program) (scope : List ℕ) where
  -- an operand of `print`, `println` or `panic`
  abbrev pub PartFits : Part → Type 0
  PartFits (said bytes) = Unit {0}
  PartFits (valued t e) = IsPlain t × ExFits p scope t e

  abbrev pub PartsFit : List Part → Type 0
  PartsFit [] = Unit {0}
  PartsFit (q ∷ qs) = PartFits q × PartsFit qs

  abbrev pub OptionalFits : Option Ex → Type 0
  OptionalFits None = Unit {0}
  OptionalFits (Some e) = ExFits p scope bools e

module _ (T : Table) (p : Program) (scope : List ℕ) where
  abbrev pub OperandFits : Operand → Type 0
  OperandFits (constant f) = is_held f.value_type f.value ≡ true
  OperandFits (value t x) = ExFits p scope (type_tree T t) x
  OperandFits nil = Unit {0}

  -- a call of a function with these results
  abbrev pub CallFits : List ValueType → ℕ → Exs → Type 0
  CallFits ts f es = (func : Func) × (slice_get p.funcs f ≡ Some func) × (func.results ≡ type_trees T ts) × ExsFit p scope func.param_types es

  abbrev pub GivesFit : Gives → Type 0
  GivesFit (one x) = OperandFits x
  GivesFit (called at ts f es) = CallFits ts f es
  GivesFit (asking at) = Unit {0}
  GivesFit (quoted at bytes) = Unit {0}
  GivesFit (printed at line ps) = PartsFit p scope ps
  GivesFit (panicked at q) = PartFits p scope q
  GivesFit (exited at e) = ExFits p scope ints e

  abbrev pub MaybeFits : Option Gives → Type 0
  MaybeFits None = Unit {0}
  MaybeFits (Some g) = GivesFit g

  abbrev pub AllFit : List Seen → Type 0
  AllFit [] = Unit {0}
  AllFit (o ∷ os) = MaybeFits o.gives × AllFit os

  pub maybe_fits : (o : Option Gives) → ((g : Gives) → o ≡ Some g → GivesFit g) → MaybeFits o
  maybe_fits None f = tt
  maybe_fits (Some g) f = f g refl

  pub some_fits : (x y : Operand) → OperandFits x → Some x ≡ Some y → OperandFits y
  some_fits x y fits is = subst OperandFits (same_some is) fits

  -- a function that is called has parameters and results of these types
  abbrev pub CalleeFits : Callee → Type 0
  CalleeFits (function f ps ts) = (func : Func) × (us : List ValueType) × (ps ≡ asked us) × (slice_get p.funcs f ≡ Some func) × (func.param_types ≡ type_trees T us) × (func.results ≡ type_trees T ts)
  CalleeFits (printer line) = Unit {0}
  CalleeFits panicker = Unit {0}
  CalleeFits (measurer m) = Unit {0}
  CalleeFits reader = Unit {0}
  CalleeFits exiter = Unit {0}
  CalleeFits conversion = Unit {0}
  CalleeFits no_function = Unit {0}
  CalleeFits no_spread = Unit {0}
  CalleeFits no_text_spread = Unit {0}
  CalleeFits nothing = Unit {0}

  pub single_fits : (g : Gives) (x : Operand) → GivesFit g → single g ≡ Some x → OperandFits x
  single_fits (one y) x fits is = some_fits y x fits is
  single_fits (called at [] f es) x fits is = absurd (none_some is)
  single_fits (called at (t ∷ []) f es) x fits is = some_fits (value t (typed.call f es)) x fits is
  single_fits (called at (t ∷ u ∷ ts) f es) x fits is = absurd (none_some is)
  single_fits (asking at) x fits is = absurd (none_some is)
  single_fits (quoted at bytes) x fits is = absurd (none_some is)
  single_fits (printed at line ps) x fits is = absurd (none_some is)
  single_fits (panicked at q) x fits is = absurd (none_some is)
  single_fits (exited at e) x fits is = absurd (none_some is)

  pub operand_fits : (o : Option Gives) (x : Operand) → MaybeFits o → operand_in o ≡ Some x → OperandFits x
  operand_fits None x fits is = absurd (none_some is)
  operand_fits (Some g) x fits is = single_fits g x fits is

  -- the values that there are, with their types
  record Valued (ps : List Wanted) (os : List Seen) (xs : List Ex) : Type 0 where
    types : List ValueType
    found : single_types os ≡ Some types
    accepted : AreAccepted ps types
    fit : ExsFit p scope (type_trees T types) (each xs)

  -- values at these places: of types that these take
  pub record TakenFit (ps : List Wanted) (os : List Seen) (es : Exs) : Type 0 where
    pub types : List ValueType
    pub found : value_types os ≡ Some types
    pub accepted : AreAccepted ps types
    pub fit : ExsFit p scope (type_trees T types) es

  module _ (formed : IsFormed T) where
    -- ---- values of the two basic types, and operators on values

    as_number : (t : ValueType) (x : Ex) → t ≡ Int → ExFits p scope (type_tree T t) x → ExFits p scope ints x
    as_number t x is f = subst (λ (u : TypeTree). ExFits p scope u x) (ap (type_tree T) is ∙ int_tree T formed) f

    as_truth : (t : ValueType) (x : Ex) → t ≡ Boolean → ExFits p scope (type_tree T t) x → ExFits p scope bools x
    as_truth t x is f = subst (λ (u : TypeTree). ExFits p scope u x) (ap (type_tree T) is ∙ bool_tree T formed) f

    arithmetic_fits : (op : ArithmeticOp) (at : Pos) (x y : Ex) → ExFits p scope ints x → ExFits p scope ints y → ExFits p scope ints (typed.binary (position at) (arithmetic_of op) x y)
    arithmetic_fits Add at x y f g = (ints, (refl, refl), f, g)
    arithmetic_fits Sub at x y f g = (ints, (refl, refl), f, g)
    arithmetic_fits Mul at x y f g = (ints, (refl, refl), f, g)
    arithmetic_fits Div at x y f g = (ints, (refl, refl), f, g)
    arithmetic_fits Rem at x y f g = (ints, (refl, refl), f, g)
    arithmetic_fits And at x y f g = (ints, (refl, refl), f, g)
    arithmetic_fits Or at x y f g = (ints, (refl, refl), f, g)
    arithmetic_fits Xor at x y f g = (ints, (refl, refl), f, g)
    arithmetic_fits AndNot at x y f g = (ints, (refl, refl), f, g)
    arithmetic_fits ShiftLeft at x y f g = (ints, (refl, refl), f, g)
    arithmetic_fits ShiftRight at x y f g = (ints, (refl, refl), f, g)

    -- two values of one type, which can be compared
    alike_fits : HoldsNoSlice T → (s t : ValueType) (y : Ex) → same_type s t ≡ true → ExFits p scope (type_tree T t) y → IsComparable (type_tree T s) × ExFits p scope (type_tree T s) y
    alike_fits no_slice s t y is g = (comparable T no_slice formed (type_number T s), subst (λ (u : ValueType). ExFits p scope (type_tree T u) y) (sym (same_is s t is)) g)

    order_fits : HoldsNoSlice T → (op : CompareOp) (s t : ValueType) (at : Pos) (x y : Ex) → takes (Compare op) s t ≡ true → ExFits p scope (type_tree T s) x → ExFits p scope (type_tree T t) y
        → ExFits p scope bools (typed.binary (position at) (compare_of op) x y)
    order_fits no_slice Equal s t at x y is f g = let k = alike_fits no_slice s t y (comparable_same s t is) g in (type_tree T s, (inl k.0, refl), f, k.1)
    order_fits no_slice NotEqual s t at x y is f g = let k = alike_fits no_slice s t y (comparable_same s t is) g in (type_tree T s, (inl k.0, refl), f, k.1)
    order_fits no_slice Less Int Int at x y is f g = (ints, (refl, refl), as_number Int x refl f, as_number Int y refl g)
    order_fits no_slice LessEqual Int Int at x y is f g = (ints, (refl, refl), as_number Int x refl f, as_number Int y refl g)
    order_fits no_slice Greater Int Int at x y is f g = (ints, (refl, refl), as_number Int x refl f, as_number Int y refl g)
    order_fits no_slice GreaterEqual Int Int at x y is f g = (ints, (refl, refl), as_number Int x refl f, as_number Int y refl g)
    order_fits no_slice op s t at x y is f g = absurd cc is

    takes_fits : HoldsNoSlice T → (op : BinOp) (s t : ValueType) → takes op s t ≡ true → (at : Pos) (x y : Ex) → ExFits p scope (type_tree T s) x → ExFits p scope (type_tree T t) y
        → ExFits p scope (type_tree T (result_type op)) (typed_pair at op x y)
    takes_fits no_slice (Arithmetic op) s t is at x y f g =
        let k = takes_numbers op s t is in
        subst (λ (u : TypeTree). ExFits p scope u (typed.binary (position at) (arithmetic_of op) x y)) (sym (int_tree T formed)) (arithmetic_fits op at x y (as_number s x k.0 f) (as_number t y k.1 g))
    takes_fits no_slice (Compare op) s t is at x y f g =
        subst (λ (u : TypeTree). ExFits p scope u (typed.binary (position at) (compare_of op) x y)) (sym (bool_tree T formed)) (order_fits no_slice op s t at x y is f g)
    takes_fits no_slice LogicalAnd s t is at x y f g = let k = takes_truths s t is in (bool_tree T formed, as_truth s x k.0 f, as_truth t y k.1 g)
    takes_fits no_slice LogicalOr s t is at x y f g = let k = takes_either s t is in (bool_tree T formed, as_truth s x k.0 f, as_truth t y k.1 g)

    takes_prefix : (op : UnOp) (t : ValueType) (g : TypedPrefix) → takes_one op t ≡ true → prefix_of op ≡ Some g → TakesOne g (type_tree T t)
    takes_prefix Plus Int g is found = subst (λ (k : TypedPrefix). TakesOne k (type_tree T Int)) (same_some found) (int_tree T formed)
    takes_prefix Negate Int g is found = subst (λ (k : TypedPrefix). TakesOne k (type_tree T Int)) (same_some found) (int_tree T formed)
    takes_prefix Complement Int g is found = subst (λ (k : TypedPrefix). TakesOne k (type_tree T Int)) (same_some found) (int_tree T formed)
    takes_prefix Not Boolean g is found = subst (λ (k : TypedPrefix). TakesOne k (type_tree T Boolean)) (same_some found) (bool_tree T formed)
    takes_prefix op t g is found = absurd cc is

    -- the types that are shown
    shown_is : (u : ValueType) (t : TypeTree) → shown_type u ≡ Some t → (type_tree T u ≡ t) × IsPlain t
    shown_is Int t is = subst (λ (x : TypeTree). (type_tree T Int ≡ x) × IsPlain x) (same_some is) (int_tree T formed, inl refl)
    shown_is Boolean t is = subst (λ (x : TypeTree). (type_tree T Boolean ≡ x) × IsPlain x) (same_some is) (bool_tree T formed, inr refl)
    shown_is u t is = absurd (none_some is)

    -- a constant as a value of the type that it has by itself
    constant_fits : (c : Constant) (e : Ex) → constant_value c ≡ Some e → ExFits p scope (type_tree T (constant_type None c)) e
    constant_fits (Truth b) e is = subst (λ (u : TypeTree). ExFits p scope u e) (sym (bool_tree T formed)) (subst (ExFits p scope bools) (same_some is) (tt, tt))
    constant_fits (Number z) e is = subst (λ (u : TypeTree). ExFits p scope u e) (sym (int_tree T formed)) (by (is_int z) refl is)
      where
        by : (b : Bool) → is_int z ≡ b → cond b (Some (typed.constant (int z))) None ≡ Some e → ExFits p scope ints e
        by true h is1 = subst (ExFits p scope ints) (same_some is1) (tt, is_word z h)
        by false h is1 = absurd (none_some is1)

    -- an operand as a value of its type
    own_fits : (x : Operand) (e : Ex) → OperandFits x → as_value x ≡ Some e → (t : ValueType) × (type_of x ≡ Some t) × ExFits p scope (type_tree T t) e
    own_fits (value t x) e fits is = (t, refl, subst (ExFits p scope (type_tree T t)) (same_some is) fits)
    own_fits (constant f) e fits is =
        (constant_type f.value_type f.value, refl, subst (λ (t : ValueType). ExFits p scope (type_tree T t) e) (sym (held_type f.value_type f.value fits)) (constant_fits f.value e is))
    own_fits nil e fits is = absurd (none_some is)

    pub value_fits : (x : Operand) (t : ValueType) (e : Ex) → type_of x ≡ Some t → OperandFits x → as_value x ≡ Some e → ExFits p scope (type_tree T t) e
    value_fits x t e typed fits is = let k = own_fits x e fits is in subst (λ (u : ValueType). ExFits p scope (type_tree T u) e) (same_some (sym k.1 ∙ typed)) k.2

    -- ---- values at places

    values_fit : (ps : List Wanted) (os : List Seen) (xs : List Ex) → AllFit os → length os ≡ length ps → values_agree ps os ≡ true → values os ≡ Some xs → Valued ps os xs
    values_fit [] [] xs all long agree is = subst (λ (l : List Ex). Valued [] [] l) (same_some is) (record { types = []; found = refl; accepted = tt; fit = tt })
    values_fit (q ∷ ps) [] xs all long agree is = absurd (omega (arith, long))
    values_fit [] (o ∷ os) xs all long agree is = absurd (omega (arith, long))
    values_fit (q ∷ ps) (o ∷ os) xs all long agree is =
        let r = and_then_some (λ x. option_map (λ ys. x ∷ ys) (values os)) (value_in o.gives) xs is in
        let k = map_some (λ ys. r.0 ∷ ys) (values os) xs r.2 in
        let m = and_then_some as_value (operand_in o.gives) r.0 r.1 in
        let both1 = both_true (operand_agrees q (operand_in o.gives)) (values_agree ps os) agree in
        let rest = values_fit ps os k.0 all.1 (omega (arith, long)) both1.1 k.1 in
        let typed = typed_value m.0 r.0 m.2 in
        let t = typed.0 in
        let first1 : type_in_one o.gives ≡ Some t = ap (option_and_then type_of) m.1 ∙ typed.1 in
        subst (λ (l : List Ex). Valued (q ∷ ps) (o ∷ os) l) k.2 (record {
          types = t ∷ rest.types;
          found = ap (λ (y : Option ValueType). option_and_then (λ x. option_map (λ ts. x ∷ ts) (single_types os)) y) first1 ∙ ap (option_map (λ ts. t ∷ ts)) rest.found;
          accepted = accepted_one q t ps rest.types (agrees_some q (operand_in o.gives) m.0 t m.1 typed.1 both1.0) rest.accepted;
          fit = (value_fits m.0 t r.0 typed.1 (operand_fits o.gives m.0 all.0 m.1) m.2, rest.fit);
        })

    as_part_fits : (x : Operand) (q : Part) → OperandFits x → as_part x ≡ Some q → PartFits p scope q
    as_part_fits x q fits is =
        let r = and_then_some (λ t. option_map (valued t) (as_value x)) (shown_of x) q is in
        let v = map_some (valued r.0) (as_value x) q r.2 in
        let u = and_then_some shown_type (type_of x) r.0 r.1 in
        let k = shown_is u.0 r.0 u.2 in
        subst (PartFits p scope) v.2 (k.1, subst (λ (t : TypeTree). ExFits p scope t v.0) k.0 (value_fits x u.0 v.0 u.1 fits v.1))

    part_fits : (o : Option Gives) (q : Part) → MaybeFits o → part_in o ≡ Some q → PartFits p scope q
    part_fits None q fits is = absurd (none_some is)
    part_fits (Some (one x)) q fits is = as_part_fits x q fits is
    part_fits (Some (called at [] f es)) q fits is = absurd (none_some is)
    part_fits (Some (called at (t ∷ []) f es)) q fits is = as_part_fits (value t (typed.call f es)) q fits is
    part_fits (Some (called at (t ∷ u ∷ ts) f es)) q fits is = absurd (none_some is)
    part_fits (Some (asking at)) q fits is = absurd (none_some is)
    part_fits (Some (quoted at bytes)) q fits is = subst (PartFits p scope) (same_some is) tt
    part_fits (Some (printed at line ps)) q fits is = absurd (none_some is)
    part_fits (Some (panicked at r)) q fits is = absurd (none_some is)
    part_fits (Some (exited at e)) q fits is = absurd (none_some is)

    parts_fit : (os : List Seen) (qs : List Part) → AllFit os → parts os ≡ Some qs → PartsFit p scope qs
    parts_fit [] qs all is = subst (PartsFit p scope) (same_some is) tt
    parts_fit (o ∷ os) qs all is =
        let r = and_then_some (λ x. option_map (λ ys. x ∷ ys) (parts os)) (part_in o.gives) qs is in
        let k = map_some (λ ys. r.0 ∷ ys) (parts os) qs r.2 in
        subst (PartsFit p scope) k.2 (part_fits o.gives r.0 all.0 r.1, parts_fit os k.0 all.1 k.1)

    results_fit : (ts : List ValueType) (f : ℕ) (es : Exs) → CallFits ts f es → ExsFit p scope (type_trees T ts) (typed.results f es)
    results_fit [] f es fits = fits
    results_fit (t ∷ ts) f es fits = fits

    abbrev ManyFit : Many → Type 0
    ManyFit m = ExsFit p scope (type_trees T m.types) m.values

    many_fits : (o : Option Gives) (m : Many) → MaybeFits o → many_in o ≡ Some m → ManyFit m
    many_fits None m fits is = absurd (none_some is)
    many_fits (Some (one x)) m fits is = absurd (none_some is)
    many_fits (Some (asking at)) m fits is = subst ManyFit (same_some is) (ap₂ (λ a b. a ∷ b ∷ []) (int_tree T formed) (bool_tree T formed))
    many_fits (Some (quoted at bytes)) m fits is = absurd (none_some is)
    many_fits (Some (printed at line ps)) m fits is = absurd (none_some is)
    many_fits (Some (panicked at q)) m fits is = absurd (none_some is)
    many_fits (Some (exited at e)) m fits is = absurd (none_some is)
    many_fits (Some (called at ts f es)) m fits is = by (nat_le 2 (length ts)) is
      where
        by : (b : Bool) → cond b (Some (record { at = at; types = ts; values = typed.results f es })) None ≡ Some m → ManyFit m
        by true is1 = subst ManyFit (same_some is1) (results_fit ts f es fits)
        by false is1 = absurd (none_some is1)

    many_all : (os : List Seen) (m : Many) → AllFit os → many os ≡ Some m → ManyFit m
    many_all [] m all is = absurd (none_some is)
    many_all (o ∷ []) m all is = many_fits o.gives m all.0 is
    many_all (o ∷ q ∷ os) m all is = absurd (none_some is)

    pub taken_fits : (ps : List Wanted) (os : List Seen) (es : Exs) → AllFit os → taken ps os ≡ Some es → TakenFit ps os es
    taken_fits ps os es all is = by (many os) refl is
      where
        of_many : (m : Many) → many os ≡ Some m → fits_with ps os (Some m) ≡ true → m.values ≡ es → TakenFit ps os es
        of_many m found good same =
            let k = both_true (length m.types == length ps) (types_agree ps m.types) good in
            subst (λ (e : Exs). TakenFit ps os e) same (record {
              types = m.types;
              found = ap (types_with os) found;
              accepted = accepted_all ps m.types (eqb-true (length m.types) (length ps) k.0) k.1;
              fit = many_all os m all found;
            })

        of_each : many os ≡ None → fits_with ps os None ≡ true → (xs : List Ex) → values os ≡ Some xs → each xs ≡ es → TakenFit ps os es
        of_each found good xs list same =
            let k = both_true (length os == length ps) (values_agree ps os) good in
            let v = values_fit ps os xs all (eqb-true (length os) (length ps) k.0) k.1 list in
            subst (λ (e : Exs). TakenFit ps os e) same (record { types = v.types; found = ap (types_with os) found ∙ v.found; accepted = v.accepted; fit = v.fit })

        by : (m : Option Many) → many os ≡ m → allowed (fits_with ps os m) (all_values os m) ≡ Some es → TakenFit ps os es
        by None found is1 =
            let a = allowed_some (fits_with ps os None) (option_map each (values os)) es is1 in
            let r = map_some each (values os) es a.1 in
            of_each found a.0 r.0 r.1 r.2
        by (Some m) found is1 =
            let a = allowed_some (fits_with ps os (Some m)) (Some m.values) es is1 in
            of_many m found a.0 (same_some a.1)

    -- ---- operators

    both_fit : HoldsNoSlice T → (at : Pos) (op : BinOp) (s t : ValueType) (a b : Option Ex) (x : Operand) → takes op s t ≡ true → ((e : Ex) → a ≡ Some e → ExFits p scope (type_tree T s) e) → ((e : Ex) → b ≡ Some e → ExFits p scope (type_tree T t) e)
        → both_values at op a b ≡ Some x → OperandFits x
    both_fit no_slice at op s t None b x k f g is = absurd (none_some is)
    both_fit no_slice at op s t (Some y) None x k f g is = absurd (none_some is)
    both_fit no_slice at op s t (Some y) (Some z) x k f g is = some_fits (value (result_type op) (typed_pair at op y z)) x (takes_fits no_slice op s t k at y z (f y refl) (g z refl)) is

    value_pair_fits : HoldsNoSlice T → (at : Pos) (op : BinOp) (x y z : Operand) → OperandFits x → OperandFits y → value_pair at op x y ≡ Some z → OperandFits z
    value_pair_fits no_slice at op x y z f g is =
        let a = allowed_some (takes_both op (type_of x) (type_of y) && right_allowed op y) (both_values at op (as_value x) (as_value y)) z is in
        let k = both_true (takes_both op (type_of x) (type_of y)) (right_allowed op y) a.0 in
        let t = both_typed op (type_of x) (type_of y) k.0 in
        both_fit no_slice at op t.0 t.1 (as_value x) (as_value y) z t.4 (λ e h. value_fits x t.0 e t.2 f h) (λ e h. value_fits y t.1 e t.3 g h) a.1

    -- what constants are folded to is held by its type
    folded_fits : (b : Bool) (t : Option ValueType) (r : Result Const ConstFault) (x : Operand) → allowed b (constant_of t r) ≡ Some x → OperandFits x
    folded_fits b t r x is = constant_is OperandFits (λ f h. h) t r x (allowed_some b (constant_of t r) x is).1

    pub pair_fits : HoldsNoSlice T → (at : Pos) (op : BinOp) (x y z : Operand) → OperandFits x → OperandFits y → combined at op x y ≡ Some z → OperandFits z
    pair_fits no_slice at op (constant a) (constant b) z f g is =
        folded_fits (takes op (constant_type a.value_type a.value) (constant_type b.value_type b.value) && converts op a b) (joint_type op a.value_type b.value_type) (worked_out op a b) z is
    pair_fits no_slice at op (constant a) (value t y) z f g is = value_pair_fits no_slice at op (constant a) (value t y) z f g is
    pair_fits no_slice at op (constant a) nil z f g is = value_pair_fits no_slice at op (constant a) nil z f g is
    pair_fits no_slice at op (value s x) y z f g is = value_pair_fits no_slice at op (value s x) y z f g is
    pair_fits no_slice at op nil y z f g is = value_pair_fits no_slice at op nil y z f g is

    pub prefix_fits : (op : UnOp) (x y : Operand) → OperandFits x → prefixed op x ≡ Some y → OperandFits y
    prefix_fits op (constant f) y fits is = folded_fits (takes_one op (constant_type f.value_type f.value)) f.value_type (folded_one op (const_of f.value)) y is
    prefix_fits op (value t x) y fits is =
        let a = allowed_some (takes_one op t) (option_map (λ g. value t (typed.unary g x)) (prefix_of op)) y is in
        let r = map_some (λ g. value t (typed.unary g x)) (prefix_of op) y a.1 in
        subst OperandFits r.2 (takes_prefix op t r.0 a.0 r.1, fits)
    prefix_fits op nil y fits is = absurd (none_some is)

    pub condition_value_fits : (x : Operand) (e : Ex) → OperandFits x → as_condition x ≡ Some e → ExFits p scope bools e
    condition_value_fits x e fits is =
        let a = allowed_some (is_assignable Boolean x) (as_value x) e is in
        as_truth Boolean e refl (value_fits x Boolean e (assigned_type Boolean x a.0) fits a.1)

    panicked_fits : (at : Pos) (qs : List Part) (g : Gives) → PartsFit p scope qs → panicked_with at qs ≡ Some g → GivesFit g
    panicked_fits at [] g all is = absurd (none_some is)
    panicked_fits at (q ∷ []) g all is = subst GivesFit (same_some is) all.0
    panicked_fits at (q ∷ r ∷ qs) g all is = absurd (none_some is)

    -- the one argument of `exit` is an int
    exited_fits : (at : Pos) (ts : List ValueType) (xs : List Ex) (g : Gives) → AreAccepted exit_places ts → ExsFit p scope (type_trees T ts) (each xs) → exited_with at xs ≡ Some g → GivesFit g
    exited_fits at ts [] g all fit is = absurd (none_some is)
    exited_fits at [] (x ∷ []) g all fit is = absurd all
    exited_fits at (t ∷ []) (x ∷ []) g all fit is = subst GivesFit (same_some is) (as_number t x (sym all.0) fit.0)
    exited_fits at (t ∷ u ∷ ts) (x ∷ []) g all fit is = absurd all.1
    exited_fits at ts (x ∷ y ∷ xs) g all fit is = absurd (none_some is)

    exit_fits : (at : Pos) (os : List Seen) (g : Gives) → AllFit os → option_and_then (exited_with at) (allowed (fits exit_places os) (values os)) ≡ Some g → GivesFit g
    exit_fits at os g all is =
        let r = and_then_some (exited_with at) (allowed (fits exit_places os) (values os)) g is in
        let a = allowed_some (fits exit_places os) (values os) r.0 r.1 in
        by (many os) refl r.0 a.0 a.1 r.2
      where
        by : (m : Option Many) → many os ≡ m → (xs : List Ex) → fits_with exit_places os m ≡ true → values os ≡ Some xs → exited_with at xs ≡ Some g → GivesFit g
        by None found xs good list given =
            let k = both_true (length os == length exit_places) (values_agree exit_places os) good in
            let v = values_fit exit_places os xs all (eqb-true (length os) (length exit_places) k.0) k.1 list in
            exited_fits at v.types xs g v.accepted v.fit given
        by (Some m) found xs good list given = absurd (no_values os m found xs list)
          where
            no_values : (os1 : List Seen) (m1 : Many) → many os1 ≡ Some m1 → (xs1 : List Ex) → values os1 ≡ Some xs1 → ⊥
            no_values [] m1 e xs1 f = none_some e
            no_values (o ∷ []) m1 e xs1 f = none_some (sym (ap (λ (x : Option Operand). option_and_then (λ y. option_map (λ ys. y ∷ ys) (Some [])) (option_and_then as_value x)) (many_single o.gives m1 e)) ∙ f)
            no_values (o ∷ q ∷ rest) m1 e xs1 f = none_some e

    pub call_fits : (at : Pos) (k : Callee) (os : List Seen) (g : Gives) → CalleeFits k → AllFit os → called_with at k os ≡ Some g → GivesFit g
    call_fits at (printer line) os g k all is = let r = map_some (printed at line) (parts os) g is in subst GivesFit r.2 (parts_fit os r.0 all r.1)
    call_fits at panicker os g k all is = let r = and_then_some (panicked_with at) (parts os) g is in panicked_fits at r.0 g (parts_fit os r.0 all r.1) r.2
    call_fits at (measurer m) os g k all is = let r = map_some measure_constant (measured os) g is in subst GivesFit r.2 (measured_int os r.0 r.1)
    call_fits at reader os g k all is = let a = allowed_some (fits [] os) (Some (asking at)) g is in subst GivesFit (same_some a.1) tt
    call_fits at exiter os g k all is = exit_fits at os g all is
    call_fits at (function f ps ts) os g k all is =
        let r = map_some (called at ts f) (taken ps os) g is in
        let t = taken_fits ps os r.0 all r.1 in
        let same1 : k.1 ≡ t.types = asked_types k.1 t.types (subst (λ (l : List Wanted). AreAccepted l t.types) k.2 t.accepted) in
        subst GivesFit r.2 (k.0, k.3, k.5, subst (λ (l : List TypeTree). ExsFit p scope l r.0) (ap (type_trees T) (sym same1) ∙ sym k.4) t.fit)
    call_fits at conversion os g k all is = absurd (none_some is)
    call_fits at no_function os g k all is = absurd (none_some is)
    call_fits at no_spread os g k all is = absurd (none_some is)
    call_fits at no_text_spread os g k all is = absurd (none_some is)
    call_fits at nothing os g k all is = absurd (none_some is)
