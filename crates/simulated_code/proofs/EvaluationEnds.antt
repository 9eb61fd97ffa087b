-- What ends the evaluation of expressions, and what is to be shown of each.
use Rattle.std.proofs.Common.{◌≡◌, inl, inr, ℕ, zero, suc, ◌+◌, ◌<◌, ◌≤◌, true, false, List, [], ◌∷◌, ◌++◌, length, Some, Option, refl, sym, ap, ◌∙◌, subst, arith, append_assoc, append-nil, get_or, ◌⊎◌, ℤ}
use Rattle.std.specs.Prelude.{slice_get, slice_index, replicate, None, IfSome, FitsSigned, ◌||◌, if◌then◌else◌}
use Rattle.std.specs.Int.{w64}
use Rattle.typed_syntax.specs.Value.{Value, int, bool, IsOf, zero_of}
use Rattle.typed_syntax.specs.Syntax.{Pl, type_named, Ex, Exs, Func, Program, constant, read, unary, binary, logical_and, logical_or, call, part_of, literal, address_of, results, read_int, wide, nil, new_variable, literal_variable, slice_literal, make, append, append_slice, copy, slicing, array_slicing, len, cap, Bound, absent, bound}
use Rattle.typed_syntax.specs.Form.{IsPlain, AreOf, IsWord, PlFits, ExFits, ExsFit, IsNil, IsNilable, AreCompared, BoundFits}
use Rattle.frames.specs.Frames.{far, place_need, place_reach, need, need_all, reach, reach_all, outgoing_of, temps_of, bound_need, bound_reach}
use Rattle.meaning.specs.Trace.{World, Asked, Turn, Note}
use Rattle.meaning.specs.Meaning
use Rattle.meaning.specs.Meaning.{Go, Then, Ways, Calls, Setting, Item, Aim, Step, fixed, worked, through, only_value, indexed}
use Rattle.isa.specs.declared.instr.Instr.TheVariants.{Jump, JumpZero, ReadInt}
use Rattle.machine.specs.Machine as Machine
use Rattle.machine.specs.Machine.{words_at, item_words}
use Rattle.program_code.specs.Code.{temp, slots_of, place_above, place_code, place_size, ex_code, exs_code, size, exs_size, word_of, is_nil, compared, Slots, bound_code, bound_size, bound_end, room_code, cut_code, low_code, high_code}
use Rattle.program_code.proofs.Sizes.{length_code, length_cut}
use Rattle.program_code.proofs.Wide.{place_is_of, plain_one, takes_gives, takes_some, wide_is, nilable_some}
use Rattle.typed_syntax.specs.Types.{TypeTree, bools, ints, width, slice_of}
use Rattle.typed_syntax.specs.Words.{contents}
use Rattle.value_laws.proofs.Zeros.{zero_is}
use Rattle.state_relation.specs.Leaves.{all_leaves, leaf}
use Rattle.state_relation.specs.Views.{Place, View}
use Rattle.state_relation.specs.Relation.{puts, Frame, hold, Leading, StandsFor, contents_of, nothing}
use Rattle.state_relation.proofs.Words.{Holds, Spells, HoldIn, hold_stand, all_fit, zero_stands}
use Rattle.state_relation.proofs.Changes.{good_read}
use Rattle.state_relation.proofs.Built.{Built}
use Rattle.state_relation.proofs.Rules.{state_of, At, Stands, later, turned, seen, stepped, asking}
use Rattle.state_relation.proofs.Values.{kept, all_kept, value_put, values_put, fewer}
use Rattle.isa.specs.declared.instr.Instr.{Instr}
use Rattle.simulated_code.proofs.SlicesFollow.{bound_held, IsDefault}
use Rattle.simulated_code.proofs.Standing.{Standing, back, Panics}
use Rattle.simulated_code.proofs.Numbers.{number_stands}
use Rattle.simulated_code.proofs.Places.{PlaceOperands, root_of, aimed, operand_types, Somewhere, pointer_held, place_held}
use Rattle.simulated_code.proofs.Reached.{Guided}
use Rattle.simulated_code.proofs.Temps.{last_word, words_zeroed, held_there}
use Rattle.simulated_code.proofs.EqualityFollows.{Compares, no_slices_of}
use Rattle.simulated_code.proofs.ConditionsFollow.{goes_on, goes_to}
use Rattle.simulated_code.proofs.Composites.{part_within}

-- the one value of a call with one result
pub single : (t : TypeTree) (rs : List Value) → AreOf (t ∷ []) rs → rs ≡ only_value rs ∷ []
single t [] are = absurd are
single t (r ∷ []) are = refl
single t (r ∷ q ∷ rs) are = absurd are.1

pub only_of : (t : TypeTree) (rs : List Value) → AreOf (t ∷ []) rs → IsOf t (only_value rs)
only_of t [] are = absurd are
only_of t (r ∷ rs) are = are.0

pub word_spells : (v : Value) → IsWord v → Spells v (word_of v)
word_spells (int z) is = number_stands z is
word_spells (bool x) is = refl
word_spells v is = absurd is

pub word_one : (v : Value) → IsWord v → length (contents v) ≡ 1
word_one (int z) is = refl
word_one (bool x) is = refl
word_one v is = absurd is

-- what `readInt` gives
pub asked_fits : (p : Program) (scope : List ℕ) (ts : List TypeTree) → ExsFit p scope ts read_int → ts ≡ ints ∷ bools ∷ []
asked_fits p scope [] fit = fit
asked_fits p scope (t ∷ ts) fit = fit

-- the values of an item, and their words
item_types : (item : Item) → AreOf (ints ∷ bools ∷ []) (Meaning.item_values item)
item_types None = (tt, (tt, tt))
item_types (Some z) = (tt, (tt, tt))

item_two : (item : Item) → length (contents_of (Meaning.item_values item)) ≡ 2
item_two None = refl
item_two (Some z) = refl

item_long : (item : Item) → length (item_words item) ≡ 2
item_long None = refl
item_long (Some z) = refl

item_each : (item : Item) → IfSome item (FitsSigned w64) → (j : ℕ) → j < 2 → Holds (get_or (contents_of (Meaning.item_values item)) j nothing) (slice_index (item_words item) j)
item_each None fits zero l = (refl, omega arith)
item_each None fits (suc zero) l = refl
item_each None fits (suc (suc j)) l = absurd (omega arith)
item_each (Some z) fits zero l = number_stands z fits
item_each (Some z) fits (suc zero) l = refl
item_each (Some z) fits (suc (suc j)) l = absurd (omega arith)

item_holds : (item : Item) → IfSome item (FitsSigned w64) → HoldIn (contents_of (Meaning.item_values item)) (item_words item)
item_holds item fits = record { long = item_long item ∙ sym (item_two item); each = λ j l. item_each item fits j (omega (arith, item_two item)) }

-- from one part of a value on each word stands for its content as 0, wherever homes are
abbrev pub Zeros : Program → Leading → TypeTree → Value → ℕ → Type 0
Zeros p led t x from = (homes : ℕ → Option Place) (hi : ℕ) (w : World) (j : ℕ) → from ≤ j → j < width t → StandsFor p led homes hi w (leaf t j) (get_or (contents x) j nothing) 0

-- the last call of some expressions
pub last_fits : (p : Program) (scope : List ℕ) (ts : List TypeTree) (f : ℕ) (es : Exs) → ExsFit p scope ts (results f es) → (func : Func) × (slice_get p.funcs f ≡ Some func) × (func.results ≡ ts) × ExsFit p scope func.param_types es
last_fits p scope [] f es fit = fit
last_fits p scope (t ∷ ts) f es fit = fit

module _ (m : Built) where
  -- the words of a value are among the temps that working it out needs
  pub wide_need : (scope : List ℕ) (t : TypeTree) (e : Ex) → ExFits m.program scope t e → width t ≤ need m.program e
  wide_need scope t (constant (int z)) fit = let l = wide_is m.program scope t (constant (int z)) fit in omega (arith, l)
  wide_need scope t (constant (bool b)) fit = let l = wide_is m.program scope t (constant (bool b)) fit in omega (arith, l)
  wide_need scope t (constant v) fit = absurd fit.1
  wide_need scope t (read p) fit = let e = ap width (place_is_of m.program scope t p fit) in omega arith
  wide_need scope t (unary op e) fit = wide_need scope t e fit.1
  wide_need scope t (binary at op a b) fit =
      let one = plain_one t (takes_gives op a b fit.0 t fit.1) in let some = takes_some m.program scope op a b fit.0 t fit.1 fit.2 fit.3 in let l = wide_need scope fit.0 a fit.2 in omega arith
  wide_need scope t (logical_and a b) fit = let l = wide_need scope bools a fit.1 in let e = ap width fit.0 in omega arith
  wide_need scope t (logical_or a b) fit = let l = wide_need scope bools a fit.1 in let e = ap width fit.0 in omega arith
  wide_need scope t (call f es) fit = let r = wide_is m.program scope t (call f es) fit in omega (arith, r)
  wide_need scope t (part_of n i e) fit = let s = type_named m.program n in let l = wide_need scope s e fit.3 in let e = ap width fit.1 in let r = part_within s i fit.0 in omega arith
  wide_need scope t (literal n es) fit = let e = ap width fit.0 in omega arith
  wide_need scope t (nil s) fit = let e = ap width fit.0 in omega arith
  wide_need scope t (address_of q) fit = let e = ap width fit.1 in omega arith
  wide_need scope t (new_variable site) fit = let e = ap width fit.1 in omega arith
  wide_need scope t (literal_variable site e) fit = let one = ap width fit.0.1 in omega arith
  wide_need scope t (slice_literal site es) fit = let e = ap width fit.0.1 in omega (arith, e)
  wide_need scope t (make at site count room) fit = let e = ap width fit.0.1 in omega (arith, e)
  wide_need scope t (append site e es) fit = let e = ap width fit.0.1 in omega (arith, e)
  wide_need scope t (append_slice site e f) fit = let e = ap width fit.0.1 in omega (arith, e)
  wide_need scope t (copy number e f) fit = let e = ap width fit.0 in omega (arith, e)
  wide_need scope t (slicing at number e low high) fit = let e = ap width fit.0 in omega (arith, e)
  wide_need scope t (array_slicing at q x low high) fit = let e = ap width fit.1 in omega (arith, e)
  wide_need scope t (len e) fit = let l = wide_need scope (slice_of fit.1.0) e fit.1.1 in let e = ap width fit.0 in omega (arith, e)
  wide_need scope t (cap e) fit = let l = wide_need scope (slice_of fit.1.0) e fit.1.1 in let e = ap width fit.0 in omega (arith, e)

  pub some_need : (scope : List ℕ) (t : TypeTree) (e : Ex) → 0 < width t → ExFits m.program scope t e → 0 < need m.program e
  some_need scope t e some fit = let l = wide_need scope t e fit in omega arith

  -- the first temp of a number or a truth value is there
  pub plain_need : (scope : List ℕ) (t : TypeTree) (e : Ex) → IsPlain t → ExFits m.program scope t e → 0 < need m.program e
  plain_need scope t e plain fit = let one = plain_one t plain in some_need scope t e (omega arith) fit

  -- ---- comparisons

  nil_or : (e : Ex) → ((is_nil e ≡ true) × IsNil e) ⊎ ((is_nil e ≡ false) × (IsNil e → ⊥))
  nil_or (nil t) = inl (refl, tt)
  nil_or e = inr (refl, λ is. is)

  nil_may : (scope : List ℕ) (s : TypeTree) (e : Ex) → IsNil e → ExFits m.program scope s e → IsNilable s
  nil_may scope s (nil t) is fit = fit.1
  nil_may scope s e is fit = absurd is

  -- so many words of two operands are compared
  pub compared_so : (scope : List ℕ) (s : TypeTree) (a b : Ex) (x y : Value) → ExFits m.program scope s a → ExFits m.program scope s b → IsOf s x → (IsNil a → x ≡ zero_of s) → (IsNil b → y ≡ zero_of s) → wide m.program a ≡ width s
      → AreCompared s a b → Compares s x y (wide m.program a) (compared m.program a b)
  compared_so scope s a b x y fit_a fit_b ix nil_x nil_y count are = elim (nil_or a) [
    | inl left ↦ inr (ap (λ z. if z || is_nil b then 1 else wide m.program a) left.0, nil_may scope s a left.1 fit_a, inl (nil_x left.1))
    | inr left ↦ elim (nil_or b) [
      | inl right ↦ inr (ap (λ z. if z || is_nil b then 1 else wide m.program a) left.0 ∙ ap (λ z. if false || z then 1 else wide m.program a) right.0, nil_may scope s b right.1 fit_b, inr (nil_y right.1))
      | inr right ↦ elim are [
        | inl is ↦ inl (ap (λ z. if z || is_nil b then 1 else wide m.program a) left.0 ∙ ap (λ z. if false || z then 1 else wide m.program a) right.0, no_slices_of s x ix is.1)
        | inr one ↦ absurd (elim one [ inl is ↦ left.1 is | inr is ↦ right.1 is ])
      ]
    ]
  ]

  -- the operands of a place, and its address above them
  pub guided : (q : Pl) (t : TypeTree) (vs : List Value) (way : List ℕ) (c : Frame) (h at : ℕ) → PlaceOperands q vs → Somewhere q vs → length c.held ≡ h → length (c.held ++ all_kept (operand_types q) vs) ≡ at → Guided m (c.held ++ (all_kept (operand_types q) vs ++ place_held m c.env q vs t way)) c.env q vs t way h at
  guided q t vs way c h at ops somewhere hh above =
      let those = all_kept (operand_types q) vs in let by = place_held m c.env q vs t way in let all = c.held ++ those in record {
        led = pointer_held q vs c.held by (c.held ++ (those ++ by)) h ops somewhere refl hh;
        there = λ i f. ap (λ l. slice_get l at) (sym (append_assoc c.held those by) ∙ ap (λ l. all ++ l) (sym (append-nil by))) ∙ held_there m (far q) i t _ (root_of q vs ++ way) _ all [] at above f;
      }

  -- a truth value of a type
  pub truth_post : (t : TypeTree) → t ≡ bools → (c : Frame) (calls : List Frame) (k : Then Value) (pc lo b : ℕ) → ((x : Value) (w1 : World) (v1 : View) → IsOf t x → At m (suc lo) 0 b v1 (k x w1) (Stands m v1 w1 (hold c (c.held ++ kept t x) ∷ calls)) pc)
      → (x : Value) (w1 : World) (v1 : View) → IsOf bools x → At m (suc lo) 0 b v1 (k x w1) (Stands m v1 w1 (hold c (c.held ++ kept bools x) ∷ calls)) pc
  truth_post t e c calls k pc lo b post x w1 v1 ix = subst (λ z. At m (suc lo) 0 b v1 (k x w1) (Stands m v1 w1 (hold c (c.held ++ kept z x) ∷ calls)) pc) e (post x w1 v1 (subst (λ z. IsOf z x) (sym e) ix))

  -- after the first operand of `&&`, and of `||`, which is in its temp; where it decides, the turn has an instruction to spare
  pub both_end : (whole : Ex) (x : Value) (g : Go) (c : Frame) (calls : List Frame) (ws : Ways) (k : Then Value) (v : View) (w : World) (h goal pc lo b : ℕ) → slice_get m.code.instrs pc ≡ Some (JumpZero (temp (slots_of m.program m.placement c.func) h) goal)
      → length c.held ≡ h → IsOf bools x → At m lo 0 b v (g w) (Stands m v w (c ∷ calls)) (pc + 1) → At m (suc lo) 0 b v (k (bool false) w) (Stands m v w (hold c (c.held ++ kept bools (bool false)) ∷ calls)) goal
      → At m lo 0 b v (Turn (Meaning.branch x g (Meaning.give ws whole k (bool false)) w)) (Stands m v w (hold c (c.held ++ kept bools x) ∷ calls)) pc
  both_end whole (bool true) g c calls ws k v w h goal pc lo b here hh is on off =
      let a = temp (slots_of m.program m.placement c.func) h in
      turned m {lo1 = suc lo} (omega arith) (goes_on m {lo = lo} a goal here (λ u s. (last_word m v w c calls u c.held bools (bool true) h hh (inr refl) s, fewer m v w c calls u c.held (kept bools (bool true)) s)) on)
  both_end whole (bool false) g c calls ws k v w h goal pc lo b here hh is on off =
      let a = temp (slots_of m.program m.placement c.func) h in
      turned m {lo1 = suc (suc lo)} (omega arith) (goes_to m {lo = suc lo} a goal here (λ u s. (last_word m v w c calls u c.held bools (bool false) h hh (inr refl) s, s)) (seen m _ off))
  both_end whole x g c calls ws k v w h goal pc lo b here hh is on off = absurd is

  pub either_end : (whole : Ex) (x : Value) (g : Go) (c : Frame) (calls : List Frame) (ws : Ways) (k : Then Value) (v : View) (w : World) (h goal end pc lo b : ℕ) → slice_get m.code.instrs pc ≡ Some (JumpZero (temp (slots_of m.program m.placement c.func) h) goal) → slice_get m.code.instrs (pc + 1) ≡ Some (Jump end)
      → length c.held ≡ h → IsOf bools x → At m lo 0 b v (g w) (Stands m v w (c ∷ calls)) goal → At m (suc lo) 0 b v (k (bool true) w) (Stands m v w (hold c (c.held ++ kept bools (bool true)) ∷ calls)) end
      → At m lo 0 b v (Turn (Meaning.branch x (Meaning.give ws whole k (bool true)) g w)) (Stands m v w (hold c (c.held ++ kept bools x) ∷ calls)) pc
  either_end whole (bool false) g c calls ws k v w h goal end pc lo b here jump hh is off on =
      let a = temp (slots_of m.program m.placement c.func) h in
      turned m {lo1 = suc lo} (omega arith) (goes_to m {lo = lo} a goal here (λ u s. (last_word m v w c calls u c.held bools (bool false) h hh (inr refl) s, fewer m v w c calls u c.held (kept bools (bool false)) s)) off)
  either_end whole (bool true) g c calls ws k v w h goal end pc lo b here jump hh is off on =
      let a = temp (slots_of m.program m.placement c.func) h in
      turned m {lo1 = suc (suc (suc lo))} (omega arith) (goes_on m {lo = suc (suc lo)} {hi = 1} a goal here (λ u s. (last_word m v w c calls u c.held bools (bool true) h hh (inr refl) s, s))
      (stepped m {lo = suc lo} {hi = 0} (Jump end) (λ u. u) jump (λ u s. (refl, refl, s)) (seen m _ on)))
  either_end whole x g c calls ws k v w h goal end pc lo b here jump hh is off on = absurd is

  -- where a bound ends
  pub bound_behind : (bd : Bound) (s : Slots) (h pc : ℕ) (rest : List Instr) (f : ℕ) → Standing m.code f pc (bound_code m.program s bd h pc ++ rest) → Standing m.code f (bound_end m.program bd pc) rest
  bound_behind absent s h pc rest f has = has
  bound_behind (bound e) s h pc rest f has = back m.code f pc (size m.program e) (ex_code m.program s e h pc) rest (length_code m.program s e h pc) has

  pub room_place : (bd : Bound) (s : Slots) (h pc : ℕ) → pc + (bound_size m.program bd + 1) ≡ bound_end m.program bd pc + length (room_code s bd h) + 1
  room_place absent s h pc = let one : length (room_code s absent h) ≡ 1 = refl in omega (arith, one)
  room_place (bound e) s h pc = omega arith

  low_place : (bd : Bound) (s : Slots) (h pc : ℕ) → pc + bound_size m.program bd ≡ bound_end m.program bd pc + length (low_code s bd h)
  low_place absent s h pc = let one : length (low_code s absent h) ≡ 1 = refl in omega (arith, one)
  low_place (bound e) s h pc = omega arith

  high_place : (bd : Bound) (s : Slots) (h pc : ℕ) → pc + bound_size m.program bd ≡ bound_end m.program bd pc + length (high_code s bd h)
  high_place absent s h pc = let one : length (high_code s absent h) ≡ 1 = refl in omega (arith, one)
  high_place (bound e) s h pc = omega arith

  pub cut_place : (low high : Bound) (s : Slots) (n0 h pc : ℕ) → pc + (bound_size m.program low + (bound_size m.program high + 1)) ≡ bound_end m.program high (bound_end m.program low pc) + length (cut_code s low high n0 h)
  cut_place low high s n0 h pc = omega (arith, length_cut s low high n0 h, low_place low s h pc, high_place high s h (bound_end m.program low pc))

  module _ (around : Setting) (inputs : around.items ≡ m.items) where
    -- an item of the input: its number and its truth value go to two temps
    pub item_read : (c : Frame) (calls : List Frame) (ws : Ways) (k : Then (List Value)) (v : View) (w : World) (h pc lo b : ℕ) → length c.held ≡ h → Standing m.code c.fn pc (ReadInt (temp (slots_of m.program m.placement c.func) h) ∷ []) → h + 2 ≤ temps_of m.program m.placement c.func
        → ((vs : List Value) (w1 : World) → AreOf (ints ∷ bools ∷ []) vs → At m lo 0 b v (k vs w1) (Stands m v w1 (hold c (c.held ++ all_kept (ints ∷ bools ∷ []) vs) ∷ calls)) (pc + 1))
        → At m lo 0 b v (Meaning.turn (Meaning.ask around (Meaning.give_all ws read_int k)) w) (Stands m v w (c ∷ calls)) pc
    item_read c calls ws k v w h pc lo b hh has room post =
        let a = temp (slots_of m.program m.placement c.func) h in let item = m.items w.reads in
        let w1 : World = record { store = w.store; reads = suc w.reads } in
        subst (λ (items : ℕ → Item). At m lo 0 b v (Turn (Note Asked (Meaning.give_all ws read_int k (Meaning.item_values (items w.reads)) w1))) (Stands m v w (c ∷ calls)) pc) (sym inputs)
        (turned m {lo1 = suc lo} (omega arith) (asking m {lo = lo} {hi = 0} (ReadInt a) (λ s. record (puts s a (item_words item)) { reads = suc w.reads }) has.0.0
        (λ s g. (
          ap (λ n. Machine.reads_item (record (state_of m pc s) { reads = n }) a (m.items n)) g.sized.asked,
          refl,
          values_put m v w1 c calls (record s { reads = suc w.reads }) h (ints ∷ bools ∷ []) (Meaning.item_values item) (item_words item) hh room
              (hold_stand m.program m.leading v.homes s.hi w1 (all_leaves (ints ∷ bools ∷ [])) (contents_of (Meaning.item_values item)) (item_words item) (all_fit (ints ∷ bools ∷ []) (Meaning.item_values item) (item_types item)) (item_holds item (m.numbers w.reads)))
              (good_read m.program m.placement m.max m.leading v w (c ∷ calls) s (suc w.reads) g),
        )) (seen m _ (post (Meaning.item_values item) w1 (item_types item)))))

  module _ (around : Setting) (callees : Calls) where
    -- `nil`, whose words are zeros
    pub nil_pays : (o t : TypeTree) (c : Frame) (calls : List Frame) (ws : Ways) (k : Then Value) (v : View) (w : World) (h pc lo b : ℕ) → length c.held ≡ h → Standing m.code c.fn pc (ex_code m.program (slots_of m.program m.placement c.func) (nil o) h pc) → ExFits m.program c.scope t (nil o)
        → h + need m.program (nil o) ≤ temps_of m.program m.placement c.func → At m (suc lo) 0 b v (k (zero_of t) w) (Stands m v w (hold c (c.held ++ kept t (zero_of t)) ∷ calls)) (pc + size m.program (nil o))
        → At m lo 0 b v (Meaning.ev around callees (nil o) ws c.env k w) (Stands m v w (c ∷ calls)) pc
    nil_pays o t c calls ws k v w h pc lo b hh has fit enough post =
        let s = slots_of m.program m.placement c.func in
        let some : 0 < width o = subst (λ z. 0 < width z) (sym fit.0) (nilable_some t fit.1) in
        turned m {lo1 = suc (suc lo)} (omega arith) (seen m _
        (later m {lo = suc (suc lo)} {hi = 1} {b = b} (omega arith) (omega arith) (omega arith)
        (words_zeroed m {lo = suc lo} {hi = 0} {G1 = Stands m v w (hold c (c.held ++ kept o (zero_of o)) ∷ calls)} (width o) (temp s h) has.0.0 some
        (λ r g. ((let long = g.sized.used in omega arith), value_put m v w c calls r h o (zero_of o) (replicate (width o) 0) hh enough (zero_stands m.program m.leading v.homes r.hi w o) g))
        (subst (λ z. At m (suc lo) 0 b v (k (zero_of z) w) (Stands m v w (hold c (c.held ++ kept z (zero_of z)) ∷ calls)) (pc + 1)) (sym fit.0) post))))

    -- an operand, of which is known whether it is `nil`
    pub operand_pays : (e : Ex) (t : TypeTree) (c : Frame) (calls : List Frame) (ws : Ways) (k : Then Value) (v : View) (w : World) (h pc lo b : ℕ) → length c.held ≡ h → Standing m.code c.fn pc (ex_code m.program (slots_of m.program m.placement c.func) e h pc) → ExFits m.program c.scope t e → h + need m.program e ≤ temps_of m.program m.placement c.func
        → (((x : Value) (w1 : World) (v1 : View) → IsOf t x → At m (suc lo) 0 b v1 (k x w1) (Stands m v1 w1 (hold c (c.held ++ kept t x) ∷ calls)) (pc + size m.program e)) → At m lo 0 b v (Meaning.ev around callees e ws c.env k w) (Stands m v w (c ∷ calls)) pc)
        → ((x : Value) (w1 : World) (v1 : View) → IsOf t x → (IsNil e → x ≡ zero_of t) → At m (suc lo) 0 b v1 (k x w1) (Stands m v1 w1 (hold c (c.held ++ kept t x) ∷ calls)) (pc + size m.program e))
        → At m lo 0 b v (Meaning.ev around callees e ws c.env k w) (Stands m v w (c ∷ calls)) pc
    operand_pays (nil o) t c calls ws k v w h pc lo b hh has fit enough evaluates post = nil_pays o t c calls ws k v w h pc lo b hh has fit enough (post (zero_of t) w v (zero_is t) (λ is. refl))
    operand_pays e t c calls ws k v w h pc lo b hh has fit enough evaluates post = evaluates (λ x w1 v1 ix. post x w1 v1 ix (λ is. absurd is))

-- what is to be shown of expressions, each by those that it has
module _ (m : Built) (around : Setting) (callees : Calls) (n : ℕ) where
  -- the last turn of an evaluation has an instruction to spare, for what a literal does with an element
  abbrev pub Evaluated : Ex → Type 0
  Evaluated e =
      (t : TypeTree) (c : Frame) (calls : List Frame) (ws : Ways) (k : Then Value) (v : View) (w : World) (h pc lo b : ℕ) → b ≤ suc n → length c.held ≡ h → Panics ws → Standing m.code c.fn pc (ex_code m.program (slots_of m.program m.placement c.func) e h pc)
      → ExFits m.program c.scope t e → h + need m.program e ≤ temps_of m.program m.placement c.func → reach m.program e ≤ outgoing_of m.program c.func
      → ((x : Value) (w1 : World) (v1 : View) → IsOf t x → At m (suc lo) 0 b v1 (k x w1) (Stands m v1 w1 (hold c (c.held ++ kept t x) ∷ calls)) (pc + size m.program e))
      → At m lo 0 b v (Meaning.ev around callees e ws c.env k w) (Stands m v w (c ∷ calls)) pc

  abbrev pub AllEvaluated : Exs → Type 0
  AllEvaluated es =
      (ts : List TypeTree) (c : Frame) (calls : List Frame) (ws : Ways) (k : Then (List Value)) (v : View) (w : World) (h pc lo b : ℕ) → b ≤ suc n → length c.held ≡ h → Panics ws → Standing m.code c.fn pc (exs_code m.program (slots_of m.program m.placement c.func) es h pc)
      → ExsFit m.program c.scope ts es → h + need_all m.program es ≤ temps_of m.program m.placement c.func → reach_all m.program es ≤ outgoing_of m.program c.func
      → ((vs : List Value) (w1 : World) (v1 : View) → AreOf ts vs → At m lo 0 b v1 (k vs w1) (Stands m v1 w1 (hold c (c.held ++ all_kept ts vs) ∷ calls)) (pc + exs_size m.program es))
      → At m lo 0 b v (Meaning.evs around callees es ws c.env k w) (Stands m v w (c ∷ calls)) pc

  -- a bound that is there, or the number in its place
  abbrev pub BoundEvaluated : Bound → Type 0
  BoundEvaluated bd =
      (other : ℤ) (c : Frame) (calls : List Frame) (ws : Ways) (k : Then Value) (v : View) (w : World) (h pc lo b : ℕ) → b ≤ suc n → length c.held ≡ h → Panics ws → Standing m.code c.fn pc (bound_code m.program (slots_of m.program m.placement c.func) bd h pc)
      → BoundFits m.program c.scope bd → h + bound_need m.program bd ≤ temps_of m.program m.placement c.func → bound_reach m.program bd ≤ outgoing_of m.program c.func
      → ((z : ℤ) (w1 : World) (v1 : View) → IsDefault bd other z → At m lo 0 b v1 (k (int z) w1) (Stands m v1 w1 (hold c (c.held ++ bound_held bd z) ∷ calls)) (bound_end m.program bd pc))
      → At m lo 0 b v (Meaning.ev_bound around callees bd (int other) ws c.env k w) (Stands m v w (c ∷ calls)) pc

  -- the operands of a place, and room for some words after them
  abbrev pub PlaceFollowed : Pl → Type 0
  PlaceFollowed q =
      (t : TypeTree) (behind others : ℕ) (c : Frame) (calls : List Frame) (ws : Ways) (k : Then Aim) (v : View) (w : World) (h pc lo b : ℕ) → b ≤ suc n → length c.held ≡ h → Panics ws → Standing m.code c.fn pc (place_code m.program (slots_of m.program m.placement c.func) q h pc)
      → PlFits m.program c.scope t q → h + place_need m.program q behind ≤ temps_of m.program m.placement c.func → place_reach m.program q others ≤ outgoing_of m.program c.func
      → ((vs : List Value) (w1 : World) (v1 : View) → PlaceOperands q vs → length (c.held ++ all_kept (operand_types q) vs) ≡ place_above q h → place_above q h + behind ≤ temps_of m.program m.placement c.func
      → At m lo 0 b v1 (k (aimed c.env q vs) w1) (Stands m v1 w1 (hold c (c.held ++ all_kept (operand_types q) vs) ∷ calls)) (pc + place_size m.program q 0))
      → At m lo 0 b v (Meaning.aim around callees q ws c.env k w) (Stands m v w (c ∷ calls)) pc
