-- How many words expressions have.
use Rattle.std.proofs.Common.{◌≡◌, inl, inr, ℕ, ◌<◌, List, [], ◌∷◌, length, refl, sym, ap, ◌∙◌, arith, ap₂}
use Rattle.typed_syntax.specs.declared.operators.BinOp.{BinOp}
use Rattle.typed_syntax.specs.declared.operators.BinOp.TheVariants.{Add, Sub, Mul, Div, Rem, And, Or, Xor, AndNot, ShiftLeft, ShiftRight, Equal, NotEqual, Less, LessEqual, Greater, GreaterEqual}
use Rattle.typed_syntax.specs.declared.operators.UnOp.{UnOp}
use Rattle.typed_syntax.specs.declared.operators.UnOp.TheVariants.{Plus, Negate, Complement, Not}
use Rattle.typed_syntax.specs.Types.{TypeTree, pointer_to, slice_of, width, part_type}
use Rattle.typed_syntax.specs.Value.{Value, int, bool, IsOf}
use Rattle.typed_syntax.specs.Paths.{type_at}
use Rattle.typed_syntax.specs.Words.{contents}
use Rattle.value_laws.proofs.Parts.{count_of, element}
use Rattle.typed_syntax.specs.Syntax.{Ex, Exs, Pl, Steps, Program, constant, read, unary, binary, logical_and, logical_or, call, part_of, literal, nil, address_of, new_variable, literal_variable, slice_literal, make, append, append_slice, copy, slicing, array_slicing, len, cap, local, global, indirect, slice_element, here, inner, at_index, none, more, results, read_int, results_in, result_widths, each_width, all_width, site_type, global_type, type_named, path_of, place_type, wide, all_wide, value_widths}
use Rattle.typed_syntax.specs.Form.{IsPlain, IsNil, IsNilable, AreCompared, Takes, TakesOne, PlFits, StepsLead, ExFits, ExsFit}

pub plain_one : (t : TypeTree) → IsPlain t → width t ≡ 1
plain_one t (inl e) = ap width e
plain_one t (inr e) = ap width e

-- a number or a truth value has one word
pub plain_value : (t : TypeTree) (v : Value) → IsPlain t → IsOf t v → length (contents v) ≡ 1
plain_value t v plain is = count_of t v is ∙ plain_one t plain

abbrev pub AllPlain : List TypeTree → Type 0
AllPlain [] = Unit {0}
AllPlain (t ∷ ts) = IsPlain t × AllPlain ts

-- what may lead nowhere has a word at least
pub nilable_some : (t : TypeTree) → IsNilable t → 0 < width t
nilable_some (pointer_to n) is = omega arith
nilable_some (slice_of n) is = omega arith
nilable_some t is = absurd is

module _ (p : Program) (scope : List ℕ) where
  nil_some : (s : TypeTree) (e : Ex) → IsNil e → ExFits p scope s e → 0 < width s
  nil_some s (nil t) is fit = nilable_some s fit.1
  nil_some s e is fit = absurd is

  compared_some : (s : TypeTree) (a b : Ex) → AreCompared s a b → ExFits p scope s a → ExFits p scope s b → 0 < width s
  compared_some s a b (inl is) f g = is.0
  compared_some s a b (inr (inl is)) f g = nil_some s a is f
  compared_some s a b (inr (inr is)) f g = nil_some s b is g

  -- operands have a word at least
  pub takes_some : (o : BinOp) (a b : Ex) (s t : TypeTree) → Takes o a b s t → ExFits p scope s a → ExFits p scope s b → 0 < width s
  takes_some Equal a b s t is f g = compared_some s a b is.0 f g
  takes_some NotEqual a b s t is f g = compared_some s a b is.0 f g
  takes_some Less a b s t is f g = let one = ap width is.0 in omega arith
  takes_some LessEqual a b s t is f g = let one = ap width is.0 in omega arith
  takes_some Greater a b s t is f g = let one = ap width is.0 in omega arith
  takes_some GreaterEqual a b s t is f g = let one = ap width is.0 in omega arith
  takes_some Add a b s t is f g = let one = ap width is.0 in omega arith
  takes_some Sub a b s t is f g = let one = ap width is.0 in omega arith
  takes_some Mul a b s t is f g = let one = ap width is.0 in omega arith
  takes_some Div a b s t is f g = let one = ap width is.0 in omega arith
  takes_some Rem a b s t is f g = let one = ap width is.0 in omega arith
  takes_some And a b s t is f g = let one = ap width is.0 in omega arith
  takes_some Or a b s t is f g = let one = ap width is.0 in omega arith
  takes_some Xor a b s t is f g = let one = ap width is.0 in omega arith
  takes_some AndNot a b s t is f g = let one = ap width is.0 in omega arith
  takes_some ShiftLeft a b s t is f g = let one = ap width is.0 in omega arith
  takes_some ShiftRight a b s t is f g = let one = ap width is.0 in omega arith

pub takes_gives : (o : BinOp) (a b : Ex) (s t : TypeTree) → Takes o a b s t → IsPlain t
takes_gives Equal a b s t is = inr is.1
takes_gives NotEqual a b s t is = inr is.1
takes_gives Less a b s t is = inr is.1
takes_gives LessEqual a b s t is = inr is.1
takes_gives Greater a b s t is = inr is.1
takes_gives GreaterEqual a b s t is = inr is.1
takes_gives Add a b s t is = inl is.1
takes_gives Sub a b s t is = inl is.1
takes_gives Mul a b s t is = inl is.1
takes_gives Div a b s t is = inl is.1
takes_gives Rem a b s t is = inl is.1
takes_gives And a b s t is = inl is.1
takes_gives Or a b s t is = inl is.1
takes_gives Xor a b s t is = inl is.1
takes_gives AndNot a b s t is = inl is.1
takes_gives ShiftLeft a b s t is = inl is.1
takes_gives ShiftRight a b s t is = inl is.1

pub takes_one : (o : UnOp) (t : TypeTree) → TakesOne o t → IsPlain t
takes_one Not t is = inr is
takes_one Plus t is = inl is
takes_one Negate t is = inl is
takes_one Complement t is = inl is

module _ (p : Program) where
  -- the type of a part, whatever the indices on the way are
  steps_are : (scope : List ℕ) (t s : TypeTree) (steps : Steps) → StepsLead p scope t steps s → type_at t (path_of steps) ≡ s
  steps_are scope t s here fit = fit
  steps_are scope t s (inner i steps) fit = steps_are scope (part_type t i) s steps fit.1
  steps_are scope t s (at_index at e n steps) (r, is, some, index, fit) = ap (λ u. type_at (part_type u 0) (path_of steps)) is ∙ ap (λ u. type_at u (path_of steps)) (((element n r r 0 [] some).leads refl).1) ∙ steps_are scope r s steps fit

  pub place_is_of : (scope : List ℕ) (t : TypeTree) (q : Pl) → PlFits p scope t q → place_type p q ≡ t
  place_is_of scope t (local site steps) fit = steps_are scope (site_type p site) t steps fit.1
  place_is_of scope t (global g steps) fit = steps_are scope (global_type p g) t steps fit.1
  place_is_of scope t (indirect at e n steps) fit = steps_are scope (type_named p n) t steps fit.1
  place_is_of scope t (slice_element at e i n steps) fit = steps_are scope (type_named p n) t steps fit.2

  one_of : (ts : List TypeTree) (t : TypeTree) → ts ≡ t ∷ [] → all_width ts ≡ width t
  one_of ts t e = let q = ap all_width e in omega (arith, q)

  pub wide_is : (scope : List ℕ) (t : TypeTree) (e : Ex) → ExFits p scope t e → wide p e ≡ width t
  wide_is scope t (constant (int z)) fit = count_of t (int z) fit.0
  wide_is scope t (constant (bool b)) fit = count_of t (bool b) fit.0
  wide_is scope t (constant v) fit = absurd fit.1
  wide_is scope t (read q) fit = ap width (place_is_of scope t q fit)
  wide_is scope t (unary o e) fit = sym (plain_one t (takes_one o t fit.0))
  wide_is scope t (binary at o a b) fit = sym (plain_one t (takes_gives o a b fit.0 t fit.1))
  wide_is scope t (logical_and a b) fit = sym (ap width fit.0)
  wide_is scope t (logical_or a b) fit = sym (ap width fit.0)
  wide_is scope t (call f es) fit = ap results_in fit.1 ∙ one_of fit.0.results t fit.2
  wide_is scope t (part_of n i e) fit = ap width fit.1
  wide_is scope t (literal n es) fit = ap width fit.0
  wide_is scope t (nil s) fit = ap width fit.0
  wide_is scope t (address_of q) fit = sym (ap width fit.1)
  wide_is scope t (new_variable site) fit = sym (ap width fit.1)
  wide_is scope t (literal_variable site e) fit = sym (ap width fit.0.1)
  wide_is scope t (slice_literal site es) fit = sym (ap width fit.0.1)
  wide_is scope t (make at site count room) fit = sym (ap width fit.0.1)
  wide_is scope t (append site e es) fit = sym (ap width fit.0.1)
  wide_is scope t (append_slice site e f) fit = sym (ap width fit.0.1)
  wide_is scope t (copy n e f) fit = sym (ap width fit.0)
  wide_is scope t (slicing at n e low high) fit = sym (ap width fit.0)
  wide_is scope t (array_slicing at q x low high) fit = sym (ap width fit.1)
  wide_is scope t (len e) fit = sym (ap width fit.0)
  wide_is scope t (cap e) fit = sym (ap width fit.0)

  pub all_wide_is : (scope : List ℕ) (ts : List TypeTree) (es : Exs) → ExsFit p scope ts es → all_wide p es ≡ all_width ts
  all_wide_is scope [] none fit = refl
  all_wide_is scope (t ∷ ts) none fit = absurd fit
  all_wide_is scope [] (more e es) fit = absurd fit
  all_wide_is scope (t ∷ ts) (more e es) fit = omega (arith, wide_is scope t e fit.0, all_wide_is scope ts es fit.1)
  all_wide_is scope [] (results f es) fit = ap results_in fit.1 ∙ ap all_width fit.2
  all_wide_is scope (t ∷ ts) (results f es) fit = ap results_in fit.1 ∙ ap all_width fit.2
  all_wide_is scope [] read_int fit = sym (ap all_width fit)
  all_wide_is scope (t ∷ ts) read_int fit = sym (ap all_width fit)

  pub widths_are : (scope : List ℕ) (ts : List TypeTree) (es : Exs) → ExsFit p scope ts es → value_widths p es ≡ each_width ts
  widths_are scope [] none fit = refl
  widths_are scope (t ∷ ts) none fit = absurd fit
  widths_are scope [] (more e es) fit = absurd fit
  widths_are scope (t ∷ ts) (more e es) fit = ap₂ (λ n ns. n ∷ ns) (wide_is scope t e fit.0) (widths_are scope ts es fit.1)
  widths_are scope [] (results f es) fit = ap result_widths fit.1 ∙ ap each_width fit.2
  widths_are scope (t ∷ ts) (results f es) fit = ap result_widths fit.1 ∙ ap each_width fit.2
  widths_are scope [] read_int fit = sym (ap each_width fit)
  widths_are scope (t ∷ ts) read_int fit = sym (ap each_width fit)
