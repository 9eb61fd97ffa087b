-- The machine follows an operator on two operands, of one word each or of several where they are compared.
use Rattle.std.proofs.Common.{◌≡◌, ◌⊎◌, inl, inr, ℕ, zero, suc, ◌+◌, ◌^◌, ◌<◌, Bool, true, false, ◌&&◌, List, [], ◌∷◌, Option, Some, Ok, refl, sym, ap, ◌∙◌, subst, arith, get_or}
use Rattle.std.specs.Prelude.{Decides, not, nat_eq, slice_get, slice_index}
use Rattle.std.specs.Cmp.Lexicographic.{pointwise}
use Rattle.std.specs.Int.{w64, cast_signed}
use Rattle.std.specs.Ordering.{int_eq}
use Rattle.std.proofs.lemmas.Bool.Decides.{Decides-int_eq, Decides-eqb}
use Rattle.typed_syntax.specs.Positions.{Position}
use Rattle.typed_syntax.specs.Types.{TypeTree, PartTypes, ints, bools, struct_of, array_of, pointer_to, slice_of, no_types, more_types, width, repeated}
use Rattle.typed_syntax.specs.Value.{Value, Values, int, bool, composite, nil_pointer, pointer, nil_slice, slice_in, no_values, more_values, IsOf, AreOf as ArePartsOf, zero_of, same}
use Rattle.typed_syntax.specs.Words.{contents, all_equal}
use Rattle.typed_syntax.specs.Syntax.{Ex, Program}
use Rattle.value_laws.specs.Laws.{HasNoSlices, HaveNoSlices}
use Rattle.typed_syntax.specs.declared.operators.BinOp.{BinOp}
use Rattle.typed_syntax.specs.declared.operators.BinOp.TheVariants.{Add, Sub, Mul, Div, Rem, And, Or, Xor, AndNot, ShiftLeft, ShiftRight, Equal, NotEqual, Less, LessEqual, Greater, GreaterEqual}
use Rattle.typed_syntax.specs.Form.{IsPlain, HasNoSlice, HaveNoSlice, IsNilable, AreCompared, Takes}
use Rattle.meaning.specs.Trace.{World}
use Rattle.meaning.specs.Operators.{binary_of}
use Rattle.meaning.specs.Meaning
use Rattle.meaning.specs.Meaning.{Env, Then, Ways}
use Rattle.simulation.specs.Steps.{Goes}
use Rattle.isa.specs.Bin.{bit_of}
use Rattle.isa.specs.declared.instr.BinOp.TheVariants as Word
use Rattle.isa.specs.declared.instr.Instr.{Instr}
use Rattle.isa.specs.declared.instr.Sameness.TheVariants as Wanted
use Rattle.isa.specs.declared.instr.Instr.TheVariants.{Bin, Same}
use Rattle.machine.specs.Machine.{words_at, same_words}
use Rattle.program_code.specs.Code.{operation, binary_code, same_code, differ_code}
use Rattle.state_relation.specs.Views.{Place, View}
use Rattle.state_relation.specs.Leaves.{leaves, leaf}
use Rattle.state_relation.specs.Relation.{Memory, sets, Frame, nothing, Leading, to_heap, to_any, Stand, StandsFor}
use Rattle.state_relation.proofs.Distances.{read_index}
use Rattle.state_relation.proofs.Leaves.{leaves_length}
use Rattle.state_relation.proofs.Words.{Spells, stands_plain, plain_leaf}
use Rattle.state_relation.proofs.Equal.{word_small, values_tell}
use Rattle.state_relation.proofs.Built.{Built}
use Rattle.state_relation.proofs.Rules.{state_of, does_at, At, Stands, stepped}
use Rattle.simulated_code.proofs.Numbers.{TakesPlain, truth_of, signed_once}
use Rattle.simulated_code.proofs.Standing.{Panics}
use Rattle.simulated_code.proofs.OperatorsFollow.{operates}

-- ---- what is compared

-- no slice is in a value of a type without slices
repeated_none : (n : ℕ) (t : TypeTree) → HasNoSlice t → HaveNoSlice (repeated n t)
repeated_none zero t none = tt
repeated_none (suc n) t none = (none, repeated_none n t none)

mutual
  pub no_slices_of : (t : TypeTree) (v : Value) → IsOf t v → HasNoSlice t → HasNoSlices v
  no_slices_of ints (int z) is none = tt
  no_slices_of bools (bool b) is none = tt
  no_slices_of (struct_of ts) (composite vs) is none = none_in ts vs is none
  no_slices_of (array_of n t) (composite vs) is none = none_in (repeated n t) vs is (repeated_none n t none)
  no_slices_of (pointer_to n) nil_pointer is none = tt
  no_slices_of (pointer_to n) (pointer x path) is none = tt
  no_slices_of (slice_of n) v is none = absurd none
  no_slices_of t v is none = absurd is

  none_in : (ts : PartTypes) (vs : Values) → ArePartsOf ts vs → HaveNoSlice ts → HaveNoSlices vs
  none_in no_types no_values is none = tt
  none_in (more_types t ts) (more_values v vs) is none = (no_slices_of t v is.0 none.0, none_in ts vs is.1 none.1)
  none_in no_types (more_values v vs) is none = absurd is
  none_in (more_types t ts) no_values is none = absurd is

-- so many words of two values of a type are compared: all n of them, where these have no slices, or the first ones, where one of both is nil
abbrev pub Compares : (s : TypeTree) (x y : Value) (n size : ℕ) → Type 0
Compares s x y n size = ((size ≡ n) × HasNoSlices x) ⊎ ((size ≡ 1) × IsNilable s × ((x ≡ zero_of s) ⊎ (y ≡ zero_of s)))

-- ---- words are equal where values are

pairs_equal : (xs ys : List ℕ) → pointwise nat_eq xs ys ≡ all_equal nat_eq xs ys
pairs_equal [] [] = refl
pairs_equal [] (y ∷ ys) = refl
pairs_equal (x ∷ xs) [] = refl
pairs_equal (x ∷ xs) (y ∷ ys) = ap (λ b. nat_eq x y && b) (pairs_equal xs ys)

signed_decides : (x y : ℕ) → x < 2 ^ 64 → y < 2 ^ 64 → Decides (int_eq (cast_signed w64 x) (cast_signed w64 y)) (x ≡ y)
signed_decides x y lx ly = let by = Decides-int_eq (cast_signed w64 x) (cast_signed w64 y) in (λ e. signed_once x y lx ly (by.0 e), λ e. by.1 (ap (cast_signed w64) e))

and_nothing : (b : Bool) → (b && true) ≡ b
and_nothing true = refl
and_nothing false = refl

heap_any : to_heap ≡ to_any → ⊥
heap_any e = cc

not_true : (b : Bool) → (b ≡ true → ⊥) → b ≡ false
not_true true never = absurd (never refl)
not_true false never = refl

nowhere : (x : ℕ) (path : List ℕ) → pointer x path ≡ nil_pointer → ⊥
nowhere x path e = cc

no_array : (x : ℕ) (path : List ℕ) (first count room : ℕ) → slice_in x path first count room ≡ nil_slice → ⊥
no_array x path first count room e = cc

-- one of two pointers or slices is nil: both are where their first words are one
module _ (p : Program) (led : Leading) (homes : ℕ → Option Place) (hi : ℕ) (w : World) (i j : ℕ) (equal : Bool) (decides : Decides equal (i ≡ j)) where
  abbrev First : TypeTree → Value → ℕ → Type 0
  First s v u = StandsFor p led homes hi w (leaf s 0) (get_or (contents v) 0 nothing) u

  nil_tells : (s : TypeTree) (x y : Value) → IsNilable s → IsOf s x → IsOf s y → (x ≡ zero_of s) ⊎ (y ≡ zero_of s) → First s x i → First s y j → equal ≡ same x y
  nil_tells (pointer_to n) nil_pointer nil_pointer may ix iy none sx sy = decides.1 (sx ∙ sym sy)
  nil_tells (pointer_to n) nil_pointer (pointer z path) may ix iy none sx sy = not_true equal (λ e. let some = sy.2.some in omega (arith, sx, decides.0 e))
  nil_tells (pointer_to n) (pointer z path) nil_pointer may ix iy none sx sy = not_true equal (λ e. let some = sx.2.some in omega (arith, sy, decides.0 e))
  nil_tells (pointer_to n) (pointer z path) (pointer u way) may ix iy none sx sy = absurd (elim none [ inl e ↦ nowhere z path e | inr e ↦ nowhere u way e ])
  nil_tells (slice_of n) nil_slice nil_slice may ix iy none sx sy = decides.1 (sx ∙ sym sy)
  nil_tells (slice_of n) nil_slice (slice_in z path first count room) may ix iy none sx sy = not_true equal (λ e. let some = sy.1.some in omega (arith, sx, decides.0 e))
  nil_tells (slice_of n) (slice_in z path first count room) nil_slice may ix iy none sx sy = not_true equal (λ e. let some = sx.1.some in omega (arith, sy, decides.0 e))
  nil_tells (slice_of n) (slice_in z path first count room) (slice_in u way begin many space) may ix iy none sx sy = absurd (elim none [ inl e ↦ no_array z path first count room e | inr e ↦ no_array u way begin many space e ])
  nil_tells (pointer_to n) nil_pointer y may ix iy none sx sy = absurd iy
  nil_tells (pointer_to n) (pointer z path) y may ix iy none sx sy = absurd iy
  nil_tells (pointer_to n) x y may ix iy none sx sy = absurd ix
  nil_tells (slice_of n) nil_slice y may ix iy none sx sy = absurd iy
  nil_tells (slice_of n) (slice_in z path first count room) y may ix iy none sx sy = absurd iy
  nil_tells (slice_of n) x y may ix iy none sx sy = absurd ix
  nil_tells s x y may ix iy none sx sy = absurd may

-- ---- the operators

equal_is : (v u : Value) → binary_of Equal v u ≡ Ok (bool (same v u))
equal_is (int a) (int b) = refl
equal_is (bool a) (bool b) = refl
equal_is v u = refl

differ_is : (v u : Value) → binary_of NotEqual v u ≡ Ok (bool (not (same v u)))
differ_is (int a) (int b) = refl
differ_is (bool a) (bool b) = refl
differ_is v u = refl

module _ (m : Built) (s t : TypeTree) (x y : Value) (ix : IsOf s x) (iy : IsOf s y) (v : View) (w : World) (G : Memory → Type 0) (G1 : Value → Memory → Type 0) (n a c pc lo hi b : ℕ) (count : n ≡ width s) (some : 0 < n)
    (sx : (u : Memory) → G u → Stand m.program m.leading v.homes u.hi w (leaves s) (contents x) (words_at u.words a n)) (sy : (u : Memory) → G u → Stand m.program m.leading v.homes u.hi w (leaves s) (contents y) (words_at u.words c n))
    (calls : List Frame) (good : (u : Memory) → G u → Stands m v w calls u) (at : Position) (ws : Ways) (env : Env) (k : Then Value)
    (keeps : (r : Value) (word : ℕ) (u : Memory) → IsOf t r → Spells r word → G u → G1 r (sets u a word)) (post : (r : Value) → IsOf t r → At m lo hi b v (k r w) (G1 r) (pc + 1)) where
  -- an instruction that tells a truth value
  tells : (i : Instr) (z : Bool) → t ≡ bools → slice_get m.code.instrs pc ≡ Some i → ((u : Memory) → G u → does_at m i pc u ≡ Goes [] (state_of m (pc + 1) (sets u a (bit_of z)))) → At m (suc lo) 1 b v (k (bool z) w) G pc
  tells i z e here does = stepped m {lo = lo} {hi = hi} i (λ u. sets u a (bit_of z)) here (λ u g. (does u g, refl, keeps (bool z) (bit_of z) u (truth_of t z e) refl g)) (post (bool z) (truth_of t z e))

  -- what is led to has a home
  some_home : m.leading ≡ to_any → ⊥
  some_home e = heap_any (sym m.apart ∙ e)

  several : HasNoSlices x → (u : Memory) → G u → same_words u.words a c n ≡ same x y
  several none u g =
      pairs_equal (words_at u.words a n) (words_at u.words c n)
      ∙ values_tell m v w calls u (good u g) some_home nat_eq (λ i j li lj. Decides-eqb i j) s x y (words_at u.words a n) (words_at u.words c n) ix iy none (sx u g) (sy u g)

  first_word : (u : Memory) (r : Value) (from : ℕ) → Stand m.program m.leading v.homes u.hi w (leaves s) (contents r) (words_at u.words from n) → StandsFor m.program m.leading v.homes u.hi w (leaf s 0) (get_or (contents r) 0 nothing) (slice_index u.words from)
  first_word u r from st =
      let e : from + 0 ≡ from = omega arith in
      subst (λ z. StandsFor m.program m.leading v.homes u.hi w (leaf s 0) (get_or (contents r) 0 nothing) z) (read_index u.words from n 0 some ∙ ap (slice_index u.words) e) (st.each 0 (omega (arith, leaves_length s)))

  one : n ≡ 1 → (u : Memory) (r : Value) (from : ℕ) → Stand m.program m.leading v.homes u.hi w (leaves s) (contents r) (words_at u.words from n) → Stand m.program m.leading v.homes u.hi w (leaves s) (contents r) (slice_index u.words from ∷ [])
  one single u r from st = record { long = omega (arith, leaves_length s); each = λ j l. only j (omega (arith, leaves_length s)) }
    where
      only : (j : ℕ) → j ≡ 0 → StandsFor m.program m.leading v.homes u.hi w (leaf s j) (get_or (contents r) j nothing) (slice_index (slice_index u.words from ∷ []) j)
      only zero e = first_word u r from st
      only (suc j) e = absurd (omega arith)

  alone : n ≡ 1 → HasNoSlices x → (u : Memory) → G u → int_eq (cast_signed w64 (slice_index u.words a)) (cast_signed w64 (slice_index u.words c)) ≡ same x y
  alone single none u g =
      let i = slice_index u.words a in let j = slice_index u.words c in
      sym (and_nothing (int_eq (cast_signed w64 i) (cast_signed w64 j)))
      ∙ values_tell m v w calls u (good u g) some_home (λ k l. int_eq (cast_signed w64 k) (cast_signed w64 l)) signed_decides s x y (i ∷ []) (j ∷ []) ix iy none (one single u x a (sx u g)) (one single u y c (sy u g))

  nil_alone : IsNilable s → (x ≡ zero_of s) ⊎ (y ≡ zero_of s) → (u : Memory) → G u → int_eq (cast_signed w64 (slice_index u.words a)) (cast_signed w64 (slice_index u.words c)) ≡ same x y
  nil_alone may none u g =
      let i = slice_index u.words a in let j = slice_index u.words c in let first_x = first_word u x a (sx u g) in let first_y = first_word u y c (sy u g) in
      nil_tells m.program m.leading v.homes u.hi w i j (int_eq (cast_signed w64 i) (cast_signed w64 j))
      (signed_decides i j (word_small m v w calls u (good u g) some_home (leaf s 0) (get_or (contents x) 0 nothing) i first_x) (word_small m v w calls u (good u g) some_home (leaf s 0) (get_or (contents y) 0 nothing) j first_y))
      s x y may ix iy none first_x first_y

  -- by one word, and by several
  one_tells : Compares s x y n 1 → (u : Memory) → G u → int_eq (cast_signed w64 (slice_index u.words a)) (cast_signed w64 (slice_index u.words c)) ≡ same x y
  one_tells (inl whole) u g = alone (sym whole.0) whole.1 u g
  one_tells (inr first) u g = nil_alone first.1 first.2 u g

  more_tell : (size : ℕ) → 1 < size → Compares s x y n size → (u : Memory) → G u → same_words u.words a c size ≡ same x y
  more_tell size more (inl whole) u g = subst (λ j. same_words u.words a c j ≡ same x y) (sym whole.0) (several whole.1 u g)
  more_tell size more (inr first) u g = absurd (omega (arith, first.0))

  at_equal : t ≡ bools → (size : ℕ) → Compares s x y n size → slice_get m.code.instrs pc ≡ Some (same_code size a c) → At m (suc lo) 1 b v (Meaning.or_panic ws env at (binary_of Equal x y) k w) G pc
  at_equal e size q here = subst (λ r. At m (suc lo) 1 b v (Meaning.or_panic ws env at r k w) G pc) (sym (equal_is x y)) (by size q here)
    where
      by : (size : ℕ) → Compares s x y n size → slice_get m.code.instrs pc ≡ Some (same_code size a c) → At m (suc lo) 1 b v (k (bool (same x y)) w) G pc
      by zero q here = absurd (elim q [ inl r ↦ omega (arith, r.0) | inr r ↦ omega (arith, r.0) ])
      by (suc zero) q here = tells (Bin Word.Equal a a c) (same x y) e here (λ u g. ap (λ z. Goes [] (state_of m (pc + 1) (sets u a (bit_of z)))) (one_tells q u g))
      by (suc (suc i)) q here = tells (Same Wanted.Equal a a c (suc (suc i))) (same x y) e here (λ u g. ap (λ z. Goes [] (state_of m (pc + 1) (sets u a (bit_of z)))) (more_tell (suc (suc i)) (omega arith) q u g))

  at_differ : t ≡ bools → (size : ℕ) → Compares s x y n size → slice_get m.code.instrs pc ≡ Some (differ_code size a c) → At m (suc lo) 1 b v (Meaning.or_panic ws env at (binary_of NotEqual x y) k w) G pc
  at_differ e size q here = subst (λ r. At m (suc lo) 1 b v (Meaning.or_panic ws env at r k w) G pc) (sym (differ_is x y)) (by size q here)
    where
      by : (size : ℕ) → Compares s x y n size → slice_get m.code.instrs pc ≡ Some (differ_code size a c) → At m (suc lo) 1 b v (k (bool (not (same x y))) w) G pc
      by zero q here = absurd (elim q [ inl r ↦ omega (arith, r.0) | inr r ↦ omega (arith, r.0) ])
      by (suc zero) q here = tells (Bin Word.NotEqual a a c) (not (same x y)) e here (λ u g. ap (λ z. Goes [] (state_of m (pc + 1) (sets u a (bit_of (not z))))) (one_tells q u g))
      by (suc (suc i)) q here = tells (Same Wanted.Different a a c (suc (suc i))) (not (same x y)) e here (λ u g. ap (λ z. Goes [] (state_of m (pc + 1) (sets u a (bit_of (not z))))) (more_tell (suc (suc i)) (omega arith) q u g))

  on_words : (o : BinOp) → IsPlain s → TakesPlain o s t → Panics ws → slice_get m.code.instrs pc ≡ Some (Bin (operation o) a a c) → At m (suc lo) 1 b v (Meaning.or_panic ws env at (binary_of o x y) k w) G pc
  on_words o plain takes stops here = operates m at o s t x y ws env k v w G G1 a a c pc lo hi b here stops plain takes ix iy (λ u g. (good u g).sized.heap_used)
      (λ u g. (
        stands_plain m.program m.leading v.homes u.hi w (leaf s 0) (get_or (contents x) 0 nothing) (slice_index u.words a) (plain_leaf s plain).0 (first_word u x a (sx u g)),
        stands_plain m.program m.leading v.homes u.hi w (leaf s 0) (get_or (contents y) 0 nothing) (slice_index u.words c) (plain_leaf s plain).0 (first_word u y c (sy u g)),
      )) keeps post

  -- on what two expressions give, of which so many words are compared
  pub both_operate : (o : BinOp) (left right : Ex) (size : ℕ) → Takes o left right s t → (AreCompared s left right → Compares s x y n size) → Panics ws → slice_get m.code.instrs pc ≡ Some (binary_code o size a c) → At m (suc lo) 1 b v (Meaning.or_panic ws env at (binary_of o x y) k w) G pc
  both_operate Equal left right size takes compares stops here = at_equal takes.1 size (compares takes.0) here
  both_operate NotEqual left right size takes compares stops here = at_differ takes.1 size (compares takes.0) here
  both_operate Add left right size takes compares stops here = on_words Add (inl takes.0) takes stops here
  both_operate Sub left right size takes compares stops here = on_words Sub (inl takes.0) takes stops here
  both_operate Mul left right size takes compares stops here = on_words Mul (inl takes.0) takes stops here
  both_operate Div left right size takes compares stops here = on_words Div (inl takes.0) takes stops here
  both_operate Rem left right size takes compares stops here = on_words Rem (inl takes.0) takes stops here
  both_operate And left right size takes compares stops here = on_words And (inl takes.0) takes stops here
  both_operate Or left right size takes compares stops here = on_words Or (inl takes.0) takes stops here
  both_operate Xor left right size takes compares stops here = on_words Xor (inl takes.0) takes stops here
  both_operate AndNot left right size takes compares stops here = on_words AndNot (inl takes.0) takes stops here
  both_operate ShiftLeft left right size takes compares stops here = on_words ShiftLeft (inl takes.0) takes stops here
  both_operate ShiftRight left right size takes compares stops here = on_words ShiftRight (inl takes.0) takes stops here
  both_operate Less left right size takes compares stops here = on_words Less (inl takes.0) takes stops here
  both_operate LessEqual left right size takes compares stops here = on_words LessEqual (inl takes.0) takes stops here
  both_operate Greater left right size takes compares stops here = on_words Greater (inl takes.0) takes stops here
  both_operate GreaterEqual left right size takes compares stops here = on_words GreaterEqual (inl takes.0) takes stops here
