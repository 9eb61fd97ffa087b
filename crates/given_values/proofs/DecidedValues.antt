-- Expressions side by side: where each gives something, their values are decided.
use Rattle.std.proofs.Common.{◌≡◌, ℕ, suc, Bool, true, false, cond, List, [], ◌∷◌, ◌⊎◌, inl, inr, Option, Some, None, refl, sym, ap, ◌∙◌, length, arith, subst}
use Rattle.std.specs.Prelude.{⊤, option_and_then, is_some, is_none, nat_le, ◌≤◌, not, ◌&&◌, ◌==◌}
use Rattle.std.specs.Option.{option_map}
use Rattle.std.proofs.lemmas.Bool.{eqb-true, leb-true}
use Rattle.base.specs.declared.pos.Pos.{Pos}
use Rattle.typed_syntax.specs.Syntax.{Ex}
use Rattle.typed_syntax.specs.Syntax as typed
use Rattle.typed_syntax.specs.Types.{TypeTree}
use Rattle.typed_syntax.specs.Value.{int}
use Rattle.type_faults.specs.declared.fault.Fault.{Fault}
use Rattle.type_faults.specs.declared.fault.FaultKind.TheVariants.{Unfit, ConstRange, Mismatch, WrongCount}
use Rattle.constants.specs.declared.constant.Constant.{Constant}
use Rattle.constants.specs.declared.constant.Constant.TheVariants.{Number, Truth}
use Rattle.base.specs.declared.value_type.ValueType.{ValueType}
use Rattle.type_faults.specs.Least.{IsLeast}
use Rattle.type_faults.specs.Given.{allowed}
use Rattle.constants.specs.Constants.{is_int}
use Rattle.type_faults.specs.Faults.{fault, IsFault}
use Rattle.operators.specs.ConstantFaults.{constant_range_fault}
use Rattle.type_faults.proofs.Decided.{Decided, Tested, further, mapped, after, both_tested, same, turned}
use Rattle.type_faults.proofs.Options.{and_then_some, map_some, none_some, same_some}
use Rattle.operators.specs.Operands.{Operand, constant, value, nil, type_of, constant_value, as_value}
use Rattle.given_values.specs.declared.wants.Wanted.{Wanted}
use Rattle.given_values.specs.declared.wants.Wanted.TheVariants as wants
use Rattle.given_values.specs.Given.{Part, valued, Gives, one, called, asking, quoted, printed, panicked, exited, Seen, Many, single, operand_in, value_in, shown_of, as_part, part_in, is_part, listed, values, parts, are_single, are_parts, is_shown, are_shown, part_count, many_in, many, count_of, count, each, types_agree, values_agree, fits_with, fits, all_values, taken, types_with, value_types, single_types, taken_types, panicked_with, exit_places, exited_with, length_in, measured, measure_constant}
use Rattle.given_values.specs.GivenFaults.{single_fault, part_fault, SinglesFail, PartsFail, ValuesFail, range_fault, RangeFails, SidesFail, placed_range_fault, TypesFail, results_fault, MismatchFails, CountFails, TakeFails, refused_fault, shown_fault, PrintFails, measured_fault, measure_fault}
use Rattle.type_faults.proofs.Lists.{and_true}
use Rattle.given_values.proofs.Places.{Asks, AllAsk, agree_tested}

-- one value of what is given
pub single_decided : (g : Gives) → Decided (single g) (IsFault (single_fault (Some g)))
single_decided (one x) = λ f h. h
single_decided (called at [] k es) = (_, refl)
single_decided (called at (t ∷ []) k es) = λ f h. h
single_decided (called at (t ∷ u ∷ ts) k es) = (_, refl)
single_decided (asking at) = (_, refl)
single_decided (quoted at bytes) = (_, refl)
single_decided (printed at line ps) = (_, refl)
single_decided (panicked at p) = (_, refl)
single_decided (exited at e) = (_, refl)

pub operand_decided : (o : Option Gives) (P : Fault → Type 0) → Decided o P → Decided (operand_in o) (λ f. P f ⊎ IsFault (single_fault o) f)
operand_decided None P d = (d.0, inl d.1)
operand_decided (Some g) P d = further P (IsFault (single_fault (Some g))) (single g) d (single_decided g)

constant_value_decided : (at : Pos) (c : Constant) → Decided (constant_value c) (IsFault (constant_range_fault at c))
constant_value_decided at (Truth b) = λ f h. h
constant_value_decided at (Number z) = by (is_int z)
  where
    by : (b : Bool) → Decided (cond b (Some (typed.constant (int z))) None) (IsFault (cond b None (Some (fault ConstRange at))))
    by true = λ f h. h
    by false = (_, refl)

pub as_value_decided : (at : Pos) (x : Operand) → Decided (as_value x) (IsFault (range_fault at (Some x)))
as_value_decided at (value t x) = λ f h. h
as_value_decided at nil = (_, refl)
as_value_decided at (constant c) = constant_value_decided at c.value

abbrev pub IsGiven : Option Gives → Type 0
IsGiven None = ⊥
IsGiven (Some g) = ⊤

-- each gives something
abbrev pub AllGiven : List Seen → Type 0
AllGiven [] = Unit {0}
AllGiven (o ∷ os) = IsGiven o.gives × AllGiven os

-- where something is given, no more is asked than that it is one value
one_decided : (o : Option Gives) → IsGiven o → Decided (operand_in o) (IsFault (single_fault o))
one_decided None g = absurd g
one_decided (Some g) t = single_decided g

one_tested : (o : Option Gives) → IsGiven o → Tested (is_some (operand_in o)) (IsFault (single_fault o))
one_tested o g = by (operand_in o) (one_decided o g)
  where
    by : (x : Option Operand) → Decided x (IsFault (single_fault o)) → Tested (is_some x) (IsFault (single_fault o))
    by None d = d
    by (Some x) d = d

pub singles_tested : (os : List Seen) → AllGiven os → Tested (are_single os) (SinglesFail os)
singles_tested [] all = λ f h. h
singles_tested (o ∷ os) all = both_tested (IsFault (single_fault o.gives)) (SinglesFail os) (is_some (operand_in o.gives)) (are_single os) (one_tested o.gives all.0) (singles_tested os all.1)

-- an operand of `print`, `println` or `panic`
part_tested : (o : Option Gives) → IsGiven o → Tested (is_part o) (IsFault (part_fault o))
part_tested None g = absurd g
part_tested (Some (one x)) g = λ f h. h
part_tested (Some (called at [] k es)) g = (_, refl)
part_tested (Some (called at (t ∷ []) k es)) g = λ f h. h
part_tested (Some (called at (t ∷ u ∷ ts) k es)) g = (_, refl)
part_tested (Some (asking at)) g = (_, refl)
part_tested (Some (quoted at bytes)) g = λ f h. h
part_tested (Some (printed at line ps)) g = (_, refl)
part_tested (Some (panicked at p)) g = (_, refl)
part_tested (Some (exited at e)) g = (_, refl)

pub parts_tested : (os : List Seen) → AllGiven os → Tested (are_parts os) (PartsFail os)
parts_tested [] all = λ f h. h
parts_tested (o ∷ os) all = both_tested (IsFault (part_fault o.gives)) (PartsFail os) (is_part o.gives) (are_parts os) (part_tested o.gives all.0) (parts_tested os all.1)

-- ---- one of each, in some form that is decided by the ranges

-- the form that an expression has where it may have it, and a test of whether all may
record Form {A : Type 0} (In : Option Gives → Option A) (are : List Seen → Bool) : Type 0 where
  may : Option Gives → Bool
  none : are [] ≡ true
  more : (o : Seen) (os : List Seen) → are (o ∷ os) ≡ (may o.gives && are os)
  decided : (at : Pos) (o : Option Gives) → may o ≡ true → Decided (In o) (IsFault (range_fault at (operand_in o)))
  missing : (o : Option Gives) → may o ≡ false → In o ≡ None

module _ {A : Type 0} (In : Option Gives → Option A) (are : List Seen → Bool) (form : Form In are) where
  -- where each may have the form, the ranges decide whether it has
  ranges_decided : (os : List Seen) → are os ≡ true → Decided (listed In os) (RangeFails os)
  ranges_decided [] is = λ f h. h
  ranges_decided (o ∷ os) is = by (form.may o.gives) refl (sym (form.more o os) ∙ is) (λ rest. ranges_decided os rest)
    where
      cons : (y : Option A) (P : Fault → Type 0) → Decided y P → Decided (listed In os) (RangeFails os) → Decided (option_and_then (λ x. option_map (λ xs. x ∷ xs) (listed In os)) y) (λ f. P f ⊎ RangeFails os f)
      cons y P d rest = after y (λ x. option_map (λ xs. x ∷ xs) (listed In os)) P (RangeFails os) d (λ x is1. mapped (λ xs. x ∷ xs) (listed In os) (RangeFails os) rest)

      by : (b : Bool) → form.may o.gives ≡ b → (b && are os) ≡ true → (are os ≡ true → Decided (listed In os) (RangeFails os)) → Decided (listed In (o ∷ os)) (RangeFails (o ∷ os))
      by false may1 all rest = let bad : false ≡ true = all in absurd cc
      by true may1 all rest = cons (In o.gives) (IsFault (range_fault o.at (operand_in o.gives))) (form.decided o.at o.gives may1) (rest all)

  -- where one may not have it there are none
  no_list : (os : List Seen) → are os ≡ false → listed In os ≡ None
  no_list [] is = let bad : true ≡ false = sym form.none ∙ is in absurd cc
  no_list (o ∷ os) is = by (form.may o.gives) refl (sym (form.more o os) ∙ is) (λ rest. no_list os rest)
    where
      nothing_behind : (y : Option A) → listed In os ≡ None → option_and_then (λ x. option_map (λ xs. x ∷ xs) (listed In os)) y ≡ None
      nothing_behind None none1 = refl
      nothing_behind (Some x) none1 = ap (option_map (λ xs. x ∷ xs)) none1

      by : (b : Bool) → form.may o.gives ≡ b → (b && are os) ≡ false → (are os ≡ false → listed In os ≡ None) → listed In (o ∷ os) ≡ None
      by false may1 all rest = ap (λ (y : Option A). option_and_then (λ x. option_map (λ xs. x ∷ xs) (listed In os)) y) (form.missing o.gives may1)
      by true may1 all rest = nothing_behind (In o.gives) (rest all)

  list_decided : (P : Fault → Type 0) (os : List Seen) → Tested (are os) P → Decided (listed In os) (λ f. P f ⊎ RangeFails os f)
  list_decided P os t = by (are os) refl t
    where
      none_by : (o : Option (List A)) → o ≡ None → (f : Fault) → P f → Decided o (λ g. P g ⊎ RangeFails os g)
      none_by None is f h = (f, inl h)
      none_by (Some x) is f h = cc is

      by : (b : Bool) → are os ≡ b → Tested b P → Decided (listed In os) (λ f. P f ⊎ RangeFails os f)
      by true is t1 = further P (RangeFails os) (listed In os) t1 (ranges_decided os is)
      by false is t1 = none_by (listed In os) (no_list os is) t1.0 t1.1

  -- where there are some, each has the form, and there is one of each
  list_are : (os : List Seen) (xs : List A) → listed In os ≡ Some xs → are os ≡ true
  list_are os xs is = by (are os) refl
    where
      by : (b : Bool) → are os ≡ b → b ≡ true
      by true e = refl
      by false e = absurd (none_some (sym (no_list os e) ∙ is))

  list_long : (os : List Seen) (xs : List A) → listed In os ≡ Some xs → length xs ≡ length os
  list_long [] xs is = ap length (sym (same_some is))
  list_long (o ∷ os) xs is =
      let r = and_then_some (λ x. option_map (λ ys. x ∷ ys) (listed In os)) (In o.gives) xs is in
      let q = map_some (λ ys. r.0 ∷ ys) (listed In os) xs r.2 in
      ap length (sym q.2) ∙ ap suc (list_long os q.0 q.1)

-- values
value_decided : (at : Pos) (x : Option Operand) → is_some x ≡ true → Decided (option_and_then as_value x) (IsFault (range_fault at x))
value_decided at None is = let bad : false ≡ true = is in absurd cc
value_decided at (Some x) is = as_value_decided at x

no_value : (x : Option Operand) → is_some x ≡ false → option_and_then as_value x ≡ None
no_value None is = refl
no_value (Some x) is = let bad : true ≡ false = is in absurd cc

value_form : Form value_in are_single
value_form = record {
  may = λ o. is_some (operand_in o);
  none = refl;
  more = λ o os. refl;
  decided = λ at o is. value_decided at (operand_in o) is;
  missing = λ o is. no_value (operand_in o) is;
}

-- operands of `print`, `println` or `panic`, where each value is of a type that is shown
abbrev are_printed : List Seen → Bool
are_printed os = are_parts os && are_shown os

abbrev is_printed : Option Gives → Bool
is_printed o = is_part o && is_shown (operand_in o)

-- four tests, two by two
crossed : (a b c d : Bool) → ((a && c) && (b && d)) ≡ ((a && b) && (c && d))
crossed false b c d = refl
crossed true b true d = refl
crossed true false false d = refl
crossed true true false d = refl

as_part_decided : (at : Pos) (x : Operand) → is_shown (Some x) ≡ true → Decided (as_part x) (IsFault (range_fault at (Some x)))
as_part_decided at x is = by (shown_of x) is
  where
    by : (o : Option TypeTree) → is_some o ≡ true → Decided (option_and_then (λ t. option_map (valued t) (as_value x)) o) (IsFault (range_fault at (Some x)))
    by None is1 = cc is1
    by (Some t) is1 = mapped (valued t) (as_value x) (IsFault (range_fault at (Some x))) (as_value_decided at x)

part_decided : (at : Pos) (o : Option Gives) → is_printed o ≡ true → Decided (part_in o) (IsFault (range_fault at (operand_in o)))
part_decided at None is = cc is
part_decided at (Some (one x)) is = as_part_decided at x is
part_decided at (Some (called place [] k es)) is = cc is
part_decided at (Some (called place (t ∷ []) k es)) is = as_part_decided at (value t (typed.call k es)) is
part_decided at (Some (called place (t ∷ u ∷ ts) k es)) is = cc is
part_decided at (Some (asking place)) is = cc is
part_decided at (Some (quoted place bytes)) is = λ f h. h
part_decided at (Some (printed place line ps)) is = cc is
part_decided at (Some (panicked place p)) is = cc is
part_decided at (Some (exited place e)) is = cc is

not_shown : (x : Operand) → is_shown (Some x) ≡ false → as_part x ≡ None
not_shown x is = by (shown_of x) is
  where
    by : (o : Option TypeTree) → is_some o ≡ false → option_and_then (λ t. option_map (valued t) (as_value x)) o ≡ None
    by None is1 = refl
    by (Some t) is1 = cc is1

no_part : (o : Option Gives) → is_printed o ≡ false → part_in o ≡ None
no_part None is = refl
no_part (Some (one x)) is = not_shown x is
no_part (Some (called place [] k es)) is = refl
no_part (Some (called place (t ∷ []) k es)) is = not_shown (value t (typed.call k es)) is
no_part (Some (called place (t ∷ u ∷ ts) k es)) is = refl
no_part (Some (asking place)) is = refl
no_part (Some (quoted place bytes)) is = cc is
no_part (Some (printed place line ps)) is = refl
no_part (Some (panicked place p)) is = refl
no_part (Some (exited place e)) is = refl

part_form : Form part_in are_printed
part_form = record {
  may = is_printed;
  none = refl;
  more = λ o os. crossed (is_part o.gives) (is_shown (operand_in o.gives)) (are_parts os) (are_shown os);
  decided = part_decided;
  missing = no_part;
}

-- what may be no operand has a fault, and a value that isn't shown has one of its own
abbrev NotPrinted : Fault → List Seen → Fault → Type 0
NotPrinted own os f = PartsFail os f ⊎ IsFault (shown_fault os own) f

printed_tested : (own : Fault) (os : List Seen) → AllGiven os → Tested (are_printed os) (λ f. NotPrinted own os f)
printed_tested own os all = by (are_parts os) (are_shown os) (parts_tested os all)
  where
    by : (a b : Bool) → Tested a (PartsFail os) → Tested (a && b) (λ f. PartsFail os f ⊎ IsFault (cond (a && not b) (Some own) None) f)
    by false b t = (t.0, inl t.1)
    by true false t = (own, inr refl)
    by true true t = λ f h. elim h [ inl k ↦ t f k | inr k ↦ k ]

-- ---- values at places

-- where each place has a rule, and its own expression, no value is passed over that is none by itself
range_at : (p : Wanted) (at : Pos) (x : Option Operand) → Asks p → placed_range_fault p at x ≡ range_fault at x
range_at wants.Own at x asks = refl
range_at (wants.Typed t) at x asks = refl
range_at wants.Unknown at x asks = absurd asks

ranges_in : (ps : List Wanted) (os : List Seen) → AllAsk ps → (f : Fault) → SidesFail placed_range_fault ps os f → RangeFails os f
ranges_in [] os asks f h = absurd h
ranges_in (p ∷ ps) [] asks f h = absurd h
ranges_in (p ∷ ps) (o ∷ os) asks f (inl h) = inl (subst (λ (r : Option Fault). IsFault r f) (range_at p o.at (operand_in o.gives) asks.0) h)
ranges_in (p ∷ ps) (o ∷ os) asks f (inr h) = inr (ranges_in ps os asks.1 f h)

pub ranges_placed : (ps : List Wanted) (os : List Seen) → AllAsk ps → length os ≡ length ps → (f : Fault) → RangeFails os f → SidesFail placed_range_fault ps os f
ranges_placed ps [] asks long f h = absurd h
ranges_placed [] (o ∷ os) asks long f h = absurd (omega (arith, long))
ranges_placed (p ∷ ps) (o ∷ os) asks long f (inl h) = inl (subst (λ (r : Option Fault). IsFault r f) (sym (range_at p o.at (operand_in o.gives) asks.0)) h)
ranges_placed (p ∷ ps) (o ∷ os) asks long f (inr h) = inr (ranges_placed ps os asks.1 (omega (arith, long)) f h)

-- a call with more than one value is no single value
pub many_single : (o : Option Gives) (m : Many) → many_in o ≡ Some m → operand_in o ≡ None
many_single None m is = refl
many_single (Some (one x)) m is = cc is
many_single (Some (asking place)) m is = refl
many_single (Some (quoted place bytes)) m is = refl
many_single (Some (printed place line ps)) m is = refl
many_single (Some (panicked place p)) m is = refl
many_single (Some (exited place e)) m is = refl
many_single (Some (called place [] k es)) m is = refl
many_single (Some (called place (t ∷ []) k es)) m is = absurd (none_some is)
many_single (Some (called place (t ∷ u ∷ ts) k es)) m is = refl

many_ranges : (ps : List Wanted) (os : List Seen) (m : Many) → many os ≡ Some m → (f : Fault) → SidesFail placed_range_fault ps os f → ⊥
many_ranges [] os m is f h = h
many_ranges (p ∷ ps) [] m is f h = h
many_ranges (p ∷ ps) (o ∷ []) m is f (inl h) = no_operand p (subst (λ (x : Option Operand). IsFault (placed_range_fault p o.at x) f) (many_single o.gives m is) h)
  where
    no_operand : (q : Wanted) → IsFault (placed_range_fault q o.at None) f → ⊥
    no_operand wants.Own h1 = h1
    no_operand (wants.Typed t) h1 = h1
    no_operand wants.Unknown h1 = h1
many_ranges (p ∷ ps) (o ∷ []) m is f (inr h) = nothing_in ps h
  where
    nothing_in : (qs : List Wanted) → SidesFail placed_range_fault qs [] f → ⊥
    nothing_in [] h1 = h1
    nothing_in (q ∷ qs) h1 = h1
many_ranges (p ∷ ps) (o ∷ q ∷ os) m is f h = cc is

-- values are of another number, or there are as many
counted : (m n : ℕ) (own : Fault) → Tested (m == n) (CountFails (Some m) n own)
counted m n own = by (m == n)
  where
    by : (b : Bool) → Tested b (IsFault (cond b None (Some own)))
    by true = λ f h. h
    by false = (own, refl)

results_tested : (ps : List Wanted) (m : Many) → Tested (types_agree ps m.types) (IsFault (results_fault ps m))
results_tested ps m = by (types_agree ps m.types)
  where
    by : (b : Bool) → Tested b (IsFault (cond b None (Some (fault Mismatch m.at))))
    by true = λ f h. h
    by false = (_, refl)

-- two tests, the second of which is reported first
two_tested : (P Q : Fault → Type 0) (a b : Bool) → Tested a P → Tested b Q → Tested (a && b) (λ f. Q f ⊎ P f)
two_tested P Q false b p q = (p.0, inr p.1)
two_tested P Q true false p q = (q.0, inl q.1)
two_tested P Q true true p q = λ f h. elim h [ inl k ↦ q f k | inr k ↦ p f k ]

module _ (own : Fault) (ps : List Wanted) (os : List Seen) (asks : AllAsk ps) (all : AllGiven os) where
  abbrev Takes : Option Many → Option ℕ → Fault → Type 0
  Takes m k f = ((ValuesFail m os f ⊎ SidesFail placed_range_fault ps os f) ⊎ MismatchFails ps os m f) ⊎ CountFails k (length ps) own f

  -- a test that says more than a rule that nothing else fails
  test_then : {A : Type 0} (b : Bool) (o : Option A) (V T : Fault → Type 0) → Tested b T → (b ≡ true → Decided o V) → Decided (allowed b o) (λ f. V f ⊎ T f)
  test_then false o V T t d = (t.0, inr t.1)
  test_then true o V T t d = turned T V o (further T V o t (d refl))

  regroup : {A : Type 0} (V M C : Fault → Type 0) (o : Option A) → Decided o (λ f. V f ⊎ (M f ⊎ C f)) → Decided o (λ f. (V f ⊎ M f) ⊎ C f)
  regroup V M C o d = same (λ f. V f ⊎ (M f ⊎ C f)) (λ f. (V f ⊎ M f) ⊎ C f) o (λ f h. elim h [ inl v ↦ inl (inl v) | inr k ↦ elim k [ inl m ↦ inl (inr m) | inr c ↦ inr c ] ]) back d
    where
      back : (f : Fault) → (V f ⊎ M f) ⊎ C f → V f ⊎ (M f ⊎ C f)
      back f (inl (inl v)) = inl v
      back f (inl (inr m)) = inr (inl m)
      back f (inr c) = inr (inr c)

  of_many : (m : Many) → many os ≡ Some m → Decided (allowed (fits_with ps os (Some m)) (all_values os (Some m))) (Takes (Some m) (Some (length m.types)))
  of_many m is =
      let V = λ (f : Fault). ValuesFail (Some m) os f ⊎ SidesFail placed_range_fault ps os f in
      let M = IsFault (results_fault ps m) in
      let C = CountFails (Some (length m.types)) (length ps) own in
      let n = length m.types == length ps in
      regroup V M C (allowed (n && types_agree ps m.types) (all_values os (Some m)))
      (test_then (n && types_agree ps m.types) (all_values os (Some m)) V (λ f. M f ⊎ C f)
      (two_tested C M n (types_agree ps m.types) (counted (length m.types) (length ps) own) (results_tested ps m))
      (λ e f h. elim h [ inl v ↦ v | inr r ↦ many_ranges ps os m is f r ]))

  same_long : (b c : Bool) → (b && c) ≡ true → b ≡ true
  same_long true c is = refl
  same_long false c is = is

  -- each has one value
  of_singles : are_single os ≡ true → ((f : Fault) → SinglesFail os f → ⊥) → Decided (allowed (fits_with ps os None) (all_values os None)) (Takes None (Some (length os)))
  of_singles are none =
      let V = λ (f : Fault). SinglesFail os f ⊎ SidesFail placed_range_fault ps os f in
      let M = TypesFail ps os in
      let C = CountFails (Some (length os)) (length ps) own in
      let n = length os == length ps in
      regroup V M C (allowed (n && values_agree ps os) (option_map each (values os)))
      (test_then (n && values_agree ps os) (option_map each (values os)) V (λ f. M f ⊎ C f)
      (two_tested C M n (values_agree ps os) (counted (length os) (length ps) own) (agree_tested ps os))
      (λ e.
      let long = eqb-true (length os) (length ps) (same_long n (values_agree ps os) e) in
      let R = SidesFail placed_range_fault ps os in
      further (SinglesFail os) R (option_map each (values os)) none
      (mapped each (values os) R (same (RangeFails os) R (values os) (ranges_placed ps os asks long) (ranges_in ps os asks) (ranges_decided value_in are_single value_form os are)))))

  of_none : (b : Bool) → are_single os ≡ b → Tested b (SinglesFail os) → Decided (allowed (fits_with ps os None) (all_values os None)) (Takes None (cond b (Some (length os)) None))
  of_none true is t = of_singles is t
  of_none false is t = nothing_by (values os) (no_list value_in are_single value_form os is) (fits_with ps os None)
    where
      nothing_by : (o : Option (List Ex)) → o ≡ None → (b : Bool) → Decided (allowed b (option_map each o)) (Takes None None)
      nothing_by None e true = (t.0, inl (inl (inl t.1)))
      nothing_by None e false = (t.0, inl (inl (inl t.1)))
      nothing_by (Some x) e b = cc e

  pub taken_decided : Decided (taken ps os) (TakeFails own ps os)
  taken_decided = by (many os) refl
    where
      by : (m : Option Many) → many os ≡ m → Decided (allowed (fits_with ps os m) (all_values os m)) (Takes m (count_of os m))
      by None is = of_none (are_single os) refl (singles_tested os all)
      by (Some m) is = of_many m is

-- ---- where one gives nothing

-- the list has no values where one expression gives none
abbrev pub given_all : List Seen → Option (Unit {0})
given_all [] = Some tt
given_all (o ∷ os) = option_and_then (λ g. given_all os) o.gives

pub given : (os : List Seen) → given_all os ≡ Some tt → AllGiven os
given [] is = tt
given (o ∷ os) is = by o.gives is (λ rest. given os rest)
  where
    by : (g : Option Gives) → option_and_then (λ x. given_all os) g ≡ Some tt → (given_all os ≡ Some tt → AllGiven os) → IsGiven g × AllGiven os
    by None e rest = cc e
    by (Some x) e rest = (tt, rest e)

not_single : (os : List Seen) → given_all os ≡ None → are_single os ≡ false
not_single [] is = cc is
not_single (o ∷ os) is = by o.gives is (λ rest. not_single os rest)
  where
    last : (x : Option Operand) → are_single os ≡ false → (is_some x && are_single os) ≡ false
    last None e = refl
    last (Some x) e = e

    by : (g : Option Gives) → option_and_then (λ x. given_all os) g ≡ None → (given_all os ≡ None → are_single os ≡ false) → (is_some (operand_in g) && are_single os) ≡ false
    by None e rest = refl
    by (Some x) e rest = last (single x) (rest e)

not_parts : (os : List Seen) → given_all os ≡ None → are_parts os ≡ false
not_parts [] is = cc is
not_parts (o ∷ os) is = by o.gives is (λ rest. not_parts os rest)
  where
    last : (b : Bool) → are_parts os ≡ false → (b && are_parts os) ≡ false
    last true e = e
    last false e = refl

    by : (g : Option Gives) → option_and_then (λ x. given_all os) g ≡ None → (given_all os ≡ None → are_parts os ≡ false) → (is_part g && are_parts os) ≡ false
    by None e rest = refl
    by (Some x) e rest = last (is_part (Some x)) (rest e)

not_printed : (os : List Seen) → given_all os ≡ None → are_printed os ≡ false
not_printed os is = ap (λ b. b && are_shown os) (not_parts os is)

no_many : (os : List Seen) → given_all os ≡ None → many os ≡ None
no_many [] is = refl
no_many (o ∷ []) is = by o.gives is
  where
    by : (g : Option Gives) → option_and_then (λ x. given_all []) g ≡ None → many_in g ≡ None
    by None e = refl
    by (Some x) e = cc e
no_many (o ∷ p ∷ os) is = refl

no_values : (ps : List Wanted) (os : List Seen) → given_all os ≡ None → taken ps os ≡ None
no_values ps os is =
    ap (λ (m : Option Many). allowed (fits_with ps os m) (all_values os m)) (no_many os is) ∙ by (fits_with ps os None) (values os) (no_list value_in are_single value_form os (not_single os is))
  where
    by : (b : Bool) (o : Option (List Ex)) → o ≡ None → allowed b (option_map each o) ≡ None
    by true o e = ap (option_map each) e
    by false o e = refl

decided_none : {A : Type 0} (o : Option A) (P : Fault → Type 0) (f : Fault) → o ≡ None → P f → Decided o P
decided_none None P f is h = (f, h)
decided_none (Some x) P f is h = cc is

-- ---- the one operand of `panic`

counted_parts : (os : List Seen) (xs : List Part) → parts os ≡ Some xs → part_count os ≡ Some (length xs)
counted_parts os xs is = by (are_parts os) (list_are part_in are_printed part_form os xs is) ∙ ap Some (sym (list_long part_in are_printed part_form os xs is))
  where
    by : (b : Bool) → (b && are_shown os) ≡ true → cond b (Some (length os)) None ≡ Some (length os)
    by true e = refl
    by false e = cc e

panicked_decided : (at : Pos) (own : Fault) (xs : List Part) → Decided (panicked_with at xs) (CountFails (Some (length xs)) 1 own)
panicked_decided at own [] = (own, refl)
panicked_decided at own (p ∷ []) = λ f h. h
panicked_decided at own (p ∷ q ∷ ps) = (own, subst (λ (b : Bool). IsFault (cond b None (Some own)) own) (sym (not_one (length ps))) refl)
  where
    not_one : (n : ℕ) → (suc (suc n) == 1) ≡ false
    not_one n = by (suc (suc n) == 1) refl
      where
        by : (b : Bool) → (suc (suc n) == 1) ≡ b → b ≡ false
        by true is = absurd (omega (arith, eqb-true (suc (suc n)) 1 is))
        by false is = refl

-- ---- the one argument of `exit`

-- a call with more than one value has two at least
many_long : (o : Option Gives) (m : Many) → many_in o ≡ Some m → 2 ≤ length m.types
many_long None m is = absurd (none_some is)
many_long (Some (one x)) m is = absurd (none_some is)
many_long (Some (asking place)) m is = subst (λ (n : Many). 2 ≤ length n.types) (same_some is) (leb-true 2 2 refl)
many_long (Some (quoted place bytes)) m is = absurd (none_some is)
many_long (Some (printed place line ps)) m is = absurd (none_some is)
many_long (Some (panicked place p)) m is = absurd (none_some is)
many_long (Some (exited place e)) m is = absurd (none_some is)
many_long (Some (called place ts k es)) m is = by (nat_le 2 (length ts)) refl is
  where
    by : (b : Bool) → nat_le 2 (length ts) ≡ b → cond b (Some (record { at = place; types = ts; values = typed.results k es })) None ≡ Some m → 2 ≤ length m.types
    by true le is1 = subst (λ (n : Many). 2 ≤ length n.types) (same_some is1) (leb-true 2 (length ts) le)
    by false le is1 = absurd (none_some is1)

same_front : (b c : Bool) → (b && c) ≡ true → b ≡ true
same_front true c is = refl
same_front false c is = is

-- where the arguments fit there is one value at most
exit_given : (at : Pos) (os : List Seen) → fits exit_places os ≡ true → is_some (all_values os (many os)) ≡ is_some (option_and_then (exited_with at) (values os))
exit_given at [] is = absurd (omega (arith, eqb-true 0 1 (same_front (0 == 1) (values_agree exit_places []) is)))
exit_given at (o ∷ []) is = by (many_in o.gives) refl is
  where
    of_one : (x : Option Ex) → is_some (option_map each (option_and_then (λ y. option_map (λ ys. y ∷ ys) (Some [])) x)) ≡ is_some (option_and_then (exited_with at) (option_and_then (λ y. option_map (λ ys. y ∷ ys) (Some [])) x))
    of_one None = refl
    of_one (Some x) = refl

    by : (m : Option Many) → many_in o.gives ≡ m → fits_with exit_places (o ∷ []) m ≡ true → is_some (all_values (o ∷ []) m) ≡ is_some (option_and_then (exited_with at) (values (o ∷ [])))
    by None found is1 = of_one (value_in o.gives)
    by (Some m) found is1 = absurd (omega (arith, many_long o.gives m found, eqb-true (length m.types) 1 (same_front (length m.types == 1) (types_agree exit_places m.types) is1)))
exit_given at (o ∷ p ∷ os) is = absurd (omega (arith, eqb-true (length (o ∷ p ∷ os)) 1 (same_front (length (o ∷ p ∷ os) == 1) (values_agree exit_places (o ∷ p ∷ os)) is)))

exit_taken : (at : Pos) (os : List Seen) → is_some (taken exit_places os) ≡ is_some (option_and_then (exited_with at) (allowed (fits exit_places os) (values os)))
exit_taken at os = by (fits exit_places os) refl
  where
    by : (b : Bool) → fits exit_places os ≡ b → is_some (allowed b (all_values os (many os))) ≡ is_some (option_and_then (exited_with at) (allowed b (values os)))
    by true is = exit_given at os is
    by false is = refl

alike_decided : {A B : Type 0} (o : Option A) (q : Option B) (P : Fault → Type 0) → is_some o ≡ is_some q → Decided o P → Decided q P
alike_decided None None P is d = d
alike_decided (Some x) (Some y) P is d = d
alike_decided None (Some y) P is d = cc is
alike_decided (Some x) None P is d = cc is

-- ---- `readInt`, which has no argument

-- where no values fit there are all of them
read_given : (os : List Seen) → fits [] os ≡ true → is_some (all_values os (many os)) ≡ true
read_given [] is = refl
read_given (o ∷ os) is = by (many (o ∷ os)) is
  where
    by : (m : Option Many) → fits_with [] (o ∷ os) m ≡ true → is_some (all_values (o ∷ os) m) ≡ true
    by None is1 = absurd (omega (arith, eqb-true (length (o ∷ os)) 0 (same_front (length (o ∷ os) == 0) (values_agree [] (o ∷ os)) is1)))
    by (Some m) is1 = refl

read_taken : (at : Pos) (os : List Seen) → is_some (taken [] os) ≡ is_some (allowed (fits [] os) (Some (asking at)))
read_taken at os = by (fits [] os) refl
  where
    by : (b : Bool) → fits [] os ≡ b → is_some (allowed b (all_values os (many os))) ≡ is_some (allowed b (Some (asking at)))
    by true is = read_given os is
    by false is = refl

-- ---- `len` and `cap`

-- an array, or a rule says that there is none
length_decided : (at : Pos) (o : Option Operand) (P : Fault → Type 0) → Decided o P → Decided (option_and_then length_in o) (λ f. P f ⊎ IsFault (measured_fault at o) f)
length_decided at None P d = (d.0, inl d.1)
length_decided at (Some x) P d = by (length_in x)
  where
    by : (n : Option ℕ) → Decided n (λ f. P f ⊎ IsFault (cond (is_some n) None (Some (fault Unfit at))) f)
    by None = (_, inr refl)
    by (Some n) = λ f h. elim h [ inl k ↦ d f k | inr k ↦ k ]

-- one operand is measured
one_measured : (at : Pos) (os : List Seen) → AllGiven os → Decided (measured os) (λ f. SinglesFail os f ⊎ IsFault (measure_fault at os) f)
one_measured at [] all = (_, inr refl)
one_measured at (o ∷ []) all =
    same (λ f. IsFault (single_fault o.gives) f ⊎ IsFault (measured_fault at (operand_in o.gives)) f) (λ f. SinglesFail (o ∷ []) f ⊎ IsFault (measure_fault at (o ∷ [])) f) (measured (o ∷ []))
    (λ f h. elim h [ inl k ↦ inl (inl k) | inr k ↦ inr k ]) (λ f h. elim h [ inl k ↦ elim k [ inl l ↦ inl l | inr l ↦ absurd l ] | inr k ↦ inr k ])
    (length_decided at (operand_in o.gives) (IsFault (single_fault o.gives)) (one_decided o.gives all.0))
one_measured at (o ∷ p ∷ os) all = by (are_single (o ∷ p ∷ os)) (singles_tested (o ∷ p ∷ os) all)
  where
    by : (b : Bool) → Tested b (SinglesFail (o ∷ p ∷ os)) → (f : Fault) × (SinglesFail (o ∷ p ∷ os) f ⊎ IsFault (cond b (Some (fault WrongCount at)) None) f)
    by true t = (_, inr refl)
    by false t = (t.0, inl t.1)

-- what gives nothing isn't measured
unmeasured : (os : List Seen) → given_all os ≡ None → measured os ≡ None
unmeasured [] is = refl
unmeasured (o ∷ []) is = by o.gives is
  where
    by : (g : Option Gives) → option_and_then (λ x. given_all []) g ≡ None → option_and_then length_in (operand_in g) ≡ None
    by None is1 = refl
    by (Some x) is1 = cc is1
unmeasured (o ∷ p ∷ os) is = refl

-- what each gives is decided by rules, so the values are
module _ (os : List Seen) (P : Fault → Type 0) (d : Decided (given_all os) P) where
  pub take_decided : (own : Fault) (ps : List Wanted) → AllAsk ps → Decided (taken ps os) (λ f. P f ⊎ TakeFails own ps os f)
  take_decided own ps asks = by (given_all os) refl d
    where
      by : (g : Option (Unit {0})) → given_all os ≡ g → Decided g P → Decided (taken ps os) (λ f. P f ⊎ TakeFails own ps os f)
      by None is p = decided_none (taken ps os) (λ f. P f ⊎ TakeFails own ps os f) p.0 (no_values ps os is) (inl p.1)
      by (Some u) is p = further P (TakeFails own ps os) (taken ps os) p (taken_decided own ps os asks (given os is))

  pub read_decided : (at : Pos) (own : Fault) → Decided (allowed (fits [] os) (Some (asking at))) (λ f. P f ⊎ TakeFails own [] os f)
  read_decided at own = alike_decided (taken [] os) _ (λ f. P f ⊎ TakeFails own [] os f) (read_taken at os) (take_decided own [] tt)

  pub exit_decided : (at : Pos) (own : Fault) → Decided (option_and_then (exited_with at) (allowed (fits exit_places os) (values os))) (λ f. P f ⊎ TakeFails own exit_places os f)
  exit_decided at own = alike_decided (taken exit_places os) _ (λ f. P f ⊎ TakeFails own exit_places os f) (exit_taken at os) (take_decided own exit_places (tt, tt))

  pub print_decided : (at : Pos) → Decided (parts os) (λ f. P f ⊎ PrintFails at os f)
  print_decided at = by (given_all os) refl d
    where
      into : (f : Fault) → NotPrinted (fault Unfit at) os f ⊎ RangeFails os f → PrintFails at os f
      into f (inl (inl h)) = inl (inl h)
      into f (inl (inr h)) = inr h
      into f (inr h) = inl (inr h)

      back : (f : Fault) → PrintFails at os f → NotPrinted (fault Unfit at) os f ⊎ RangeFails os f
      back f (inl (inl h)) = inl (inl h)
      back f (inl (inr h)) = inr h
      back f (inr h) = inl (inr h)

      by : (g : Option (Unit {0})) → given_all os ≡ g → Decided g P → Decided (parts os) (λ f. P f ⊎ PrintFails at os f)
      by None is p = decided_none (parts os) (λ f. P f ⊎ PrintFails at os f) p.0 (no_list part_in are_printed part_form os (not_printed os is)) (inl p.1)
      by (Some u) is p =
          further P (PrintFails at os) (parts os) p (same (λ f. NotPrinted (fault Unfit at) os f ⊎ RangeFails os f) (PrintFails at os) (parts os) into back (list_decided part_in are_printed part_form (NotPrinted (fault Unfit at) os) os (printed_tested (fault Unfit at) os (given os is))))

  pub panic_decided : (at : Pos) (own : Fault) → Decided (option_and_then (panicked_with at) (parts os)) (λ f. P f ⊎ (PrintFails at os f ⊎ CountFails (part_count os) 1 own f))
  panic_decided at own =
      let V = PrintFails at os in
      let C = CountFails (part_count os) 1 own in
      same (λ f. (P f ⊎ V f) ⊎ C f) (λ f. P f ⊎ (V f ⊎ C f)) (option_and_then (panicked_with at) (parts os)) into back
      (after (parts os) (panicked_with at) (λ f. P f ⊎ V f) C (print_decided at) (λ xs is.
      subst (λ (n : Option ℕ). Decided (panicked_with at xs) (CountFails n 1 own)) (sym (counted_parts os xs is)) (panicked_decided at own xs)))
    where
      into : (f : Fault) → (P f ⊎ PrintFails at os f) ⊎ CountFails (part_count os) 1 own f → P f ⊎ (PrintFails at os f ⊎ CountFails (part_count os) 1 own f)
      into f (inl (inl p)) = inl p
      into f (inl (inr v)) = inr (inl v)
      into f (inr c) = inr (inr c)

      back : (f : Fault) → P f ⊎ (PrintFails at os f ⊎ CountFails (part_count os) 1 own f) → (P f ⊎ PrintFails at os f) ⊎ CountFails (part_count os) 1 own f
      back f (inl p) = inl (inl p)
      back f (inr (inl v)) = inl (inr v)
      back f (inr (inr c)) = inr c

  -- the operand of `len` or `cap`
  pub measured_decided : (at : Pos) → Decided (option_map measure_constant (measured os)) (λ f. P f ⊎ (SinglesFail os f ⊎ IsFault (measure_fault at os) f))
  measured_decided at = by (given_all os) refl d
    where
      by : (g : Option (Unit {0})) → given_all os ≡ g → Decided g P → Decided (option_map measure_constant (measured os)) (λ f. P f ⊎ (SinglesFail os f ⊎ IsFault (measure_fault at os) f))
      by None is p = decided_none (option_map measure_constant (measured os)) (λ f. P f ⊎ (SinglesFail os f ⊎ IsFault (measure_fault at os) f)) p.0 (ap (option_map measure_constant) (unmeasured os is)) (inl p.1)
      by (Some u) is p =
          further P (λ f. SinglesFail os f ⊎ IsFault (measure_fault at os) f) (option_map measure_constant (measured os)) p
          (mapped measure_constant (measured os) (λ f. SinglesFail os f ⊎ IsFault (measure_fault at os) f) (one_measured at os (given os is)))

  -- operands that are refused
  pub parts_refused : (own : Fault) → (f : Fault) × (P f ⊎ (PartsFail os f ⊎ IsFault (refused_fault (part_count os) own) f))
  parts_refused own = by (given_all os) refl d
    where
      counted_by : (b : Bool) → Tested b (PartsFail os) → (f : Fault) × (PartsFail os f ⊎ IsFault (refused_fault (cond b (Some (length os)) None) own) f)
      counted_by true t = (own, inr refl)
      counted_by false t = (t.0, inl t.1)

      by : (g : Option (Unit {0})) → given_all os ≡ g → Decided g P → (f : Fault) × (P f ⊎ (PartsFail os f ⊎ IsFault (refused_fault (part_count os) own) f))
      by None is p = (p.0, inl p.1)
      by (Some u) is p = let v = counted_by (are_parts os) (parts_tested os (given os is)) in (v.0, inr v.1)

  -- a call that is refused: there is always a rule that fails
  pub refused : (own : Fault) → (f : Fault) × (P f ⊎ (ValuesFail (many os) os f ⊎ IsFault (refused_fault (count os) own) f))
  refused own = by (given_all os) refl d
    where
      counted_by : (b : Bool) → Tested b (SinglesFail os) → (f : Fault) × (SinglesFail os f ⊎ IsFault (refused_fault (cond b (Some (length os)) None) own) f)
      counted_by true t = (own, inr refl)
      counted_by false t = (t.0, inl t.1)

      valued : (m : Option Many) → AllGiven os → (f : Fault) × (ValuesFail m os f ⊎ IsFault (refused_fault (count_of os m) own) f)
      valued None all = counted_by (are_single os) (singles_tested os all)
      valued (Some m) all = (own, inr refl)

      by : (g : Option (Unit {0})) → given_all os ≡ g → Decided g P → (f : Fault) × (P f ⊎ (ValuesFail (many os) os f ⊎ IsFault (refused_fault (count os) own) f))
      by None is p = (p.0, inl p.1)
      by (Some u) is p = let v = valued (many os) (given os is) in (v.0, inr v.1)

-- ---- the types of values at places

many_no_range : (os : List Seen) (m : Many) → many os ≡ Some m → (f : Fault) → RangeFails os f → ⊥
many_no_range [] m is f h = cc is
many_no_range (o ∷ []) m is f (inl h) = subst (λ (x : Option Operand). IsFault (range_fault o.at x) f) (many_single o.gives m is) h
many_no_range (o ∷ []) m is f (inr h) = h
many_no_range (o ∷ p ∷ os) m is f h = cc is

no_types : (os : List Seen) → are_single os ≡ false → single_types os ≡ None
no_types [] are = let bad : true ≡ false = are in cc
no_types (o ∷ os) are = by (operand_in o.gives) are (λ rest. no_types os rest)
  where
    by : (x : Option Operand) → (is_some x && are_single os) ≡ false → (are_single os ≡ false → single_types os ≡ None) → option_and_then (λ t. option_map (λ ts. t ∷ ts) (single_types os)) (option_and_then type_of x) ≡ None
    by None is rest = refl
    by (Some x) is rest = typed (type_of x) (rest is)
      where
        typed : (t : Option ValueType) → single_types os ≡ None → option_and_then (λ u. option_map (λ ts. u ∷ ts) (single_types os)) t ≡ None
        typed None none1 = refl
        typed (Some u) none1 = ap (option_map (λ ts. u ∷ ts)) none1

and_false : (b : Bool) → (b && false) ≡ false
and_false true = refl
and_false false = refl

-- there are values at the places where they fit and no number is out of range
pub types_taken : (ps : List Wanted) (os : List Seen) (r : Option Fault) → IsLeast (RangeFails os) r → cond (is_none r && fits ps os) (value_types os) None ≡ taken_types ps os
types_taken ps os r least = by (many os) refl (fits ps os)
  where
    of_decided : (v : Option (List Ex)) (q : Option Fault) (t : Option (List ValueType)) → Decided v (RangeFails os) → IsLeast (RangeFails os) q → cond (is_none q) t None ≡ option_and_then (λ es. t) (option_map each v)
    of_decided (Some xs) None t d l = refl
    of_decided (Some xs) (Some f) t d l = absurd (d f l.0)
    of_decided None None t d l = absurd (l d.0 d.1)
    of_decided None (Some f) t d l = refl

    of_nothing : (b : Bool) (v : Option (List Ex)) (t : Option (List ValueType)) → v ≡ None → t ≡ None → cond b t None ≡ option_and_then (λ es. t) (option_map each v)
    of_nothing true None t e is = is
    of_nothing false None t e is = refl
    of_nothing b (Some xs) t e is = cc e

    of_singles : (b : Bool) → are_single os ≡ b → cond (is_none r) (single_types os) None ≡ option_and_then (λ es. single_types os) (option_map each (values os))
    of_singles true are = of_decided (values os) r (single_types os) (ranges_decided value_in are_single value_form os are) least
    of_singles false are = of_nothing (is_none r) (values os) (single_types os) (no_list value_in are_single value_form os are) (no_types os are)

    of_many : (m : Many) → many os ≡ Some m → (q : Option Fault) → IsLeast (RangeFails os) q → cond (is_none q) (Some m.types) None ≡ Some m.types
    of_many m is None l = refl
    of_many m is (Some f) l = absurd (many_no_range os m is f l.0)

    by : (m : Option Many) → many os ≡ m → (b : Bool) → cond (is_none r && b) (types_with os m) None ≡ option_and_then (λ es. types_with os m) (allowed b (all_values os m))
    by m is false = ap (λ c. cond c (types_with os m) None) (and_false (is_none r))
    by None is true = ap (λ c. cond c (single_types os) None) (and_true (is_none r)) ∙ of_singles (are_single os) refl
    by (Some m) is true = ap (λ c. cond c (Some m.types) None) (and_true (is_none r)) ∙ of_many m is r least
