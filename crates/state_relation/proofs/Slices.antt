-- Slices: what their headers stand for, and the address of an element.
use Rattle.std.proofs.Common.{◌≡◌, inl, inr, ℕ, zero, suc, ◌+◌, ◌-◌, ◌*◌, ◌^◌, ◌<◌, ◌≤◌, pos, negsuc, Bool, true, false, List, [], ◌∷◌, Option, Some, refl, sym, ap, ◌∙◌, subst, arith, get_or}
use Rattle.std.specs.Prelude.{slice_get, slice_index, nat_lt, nat_le, ◌&&◌, unsigned_abs}
use mir.Val.{sel}
use Rattle.std.specs.Int.{w64, cast_signed}
use Rattle.std.proofs.lemmas.Bool.{lt-ltb, le-ltb, le-leb}
use Rattle.std.proofs.lemmas.Bool.Decides.{leb_tells}
use Rattle.std.proofs.lemmas.Int.{to_z_pos}
use Rattle.typed_syntax.specs.Types.{TypeTree, ints, array_of, slice_of, width}
use Rattle.typed_syntax.specs.Value.{Value, nil_slice, slice_in, IsOf}
use Rattle.typed_syntax.specs.Paths.{Leads, offset}
use Rattle.typed_syntax.specs.Words.{contents}
use Rattle.typed_syntax.specs.Syntax.{type_named}
use Rattle.value_laws.proofs.Parts.{within}
use Rattle.meaning.specs.Trace.{World, Cell}
use Rattle.meaning.specs.Operators.{slice_count, slice_room}
use Rattle.heap_bump.specs.Words.{first_address}
use Rattle.machine.specs.Machine.{is_below, is_upto}
use Rattle.state_relation.specs.Leaves.{leaves}
use Rattle.state_relation.specs.Views.{Place, on_heap, View}
use Rattle.state_relation.specs.Relation.{Memory, Frame, nothing, address_in, Leading, to_heap, MayLead, ReachesInto, StandsFor, Stand}
use Rattle.state_relation.proofs.Lists.{some_same, less_or}
use Rattle.state_relation.proofs.Addresses.{times_sum}
use Rattle.state_relation.proofs.Stretches.{stretch}
use Rattle.state_relation.proofs.Built.{Built}
use Rattle.state_relation.proofs.Rules.{Stands}

-- ---- numbers

-- the word of a number from 0 on is that number, and each other one is above those
pub pos_word : (y n : ℕ) → cast_signed w64 y ≡ pos n → (y ≡ n) × (n < 2 ^ 63)
pos_word y n e = elim (less_or y (2 ^ 63)) [
  | inl l ↦ (let same : pos y ≡ pos n = sym (to_z_pos w64 y l) ∙ e in let one : y ≡ n = ap unsigned_abs same in (one, omega arith))
  | inr l ↦ absurd (let none : pos n ≡ negsuc (2 ^ 64 - suc y) = sym e ∙ ap (λ t. sel t (pos y) (negsuc (2 ^ 64 - suc y))) (le-ltb y (2 ^ 63) l) in cc)
]

pub neg_word : (y n : ℕ) → cast_signed w64 y ≡ negsuc n → 2 ^ 63 ≤ y
neg_word y n e = elim (less_or y (2 ^ 63)) [
  | inl l ↦ absurd (let none : pos y ≡ negsuc n = sym (to_z_pos w64 y l) ∙ e in cc)
  | inr l ↦ l
]

both_true : (a b : Bool) → a ≡ true → b ≡ true → (a && b) ≡ true
both_true true true p q = refl
both_true true false p q = absurd cc q
both_true false b p q = absurd cc p

one_false : (a b : Bool) → a ≡ false → (a && b) ≡ false
one_false false b p = refl
one_false true b p = absurd cc p

not_le : (a b : ℕ) → b < a → nat_le a b ≡ false
not_le a b l = elim (leb_tells a b) [ inl t ↦ absurd (let k = t.1 in omega arith) | inr t ↦ t.0 ]

pub below_is : (i n : ℕ) → i < n → n < 2 ^ 63 → is_below i n ≡ true
below_is i n l k = both_true (nat_lt i n) (nat_lt n (2 ^ 63)) (lt-ltb i n l) (lt-ltb n (2 ^ 63) k)

pub below_not : (i n : ℕ) → n ≤ i → is_below i n ≡ false
below_not i n l = one_false (nat_lt i n) (nat_lt n (2 ^ 63)) (le-ltb i n l)

pub upto_is : (i n : ℕ) → i ≤ n → n < 2 ^ 63 → is_upto i n ≡ true
upto_is i n l k = both_true (nat_le i n) (nat_lt n (2 ^ 63)) (le-leb i n l) (lt-ltb n (2 ^ 63) k)

pub upto_not : (i n : ℕ) → n < i → is_upto i n ≡ false
upto_not i n l = one_false (nat_le i n) (nat_lt n (2 ^ 63)) (not_le i n l)

-- ---- headers

-- A word is the address of an element of the array at a path of a variable, which lives on the heap: from there on so many elements of the
-- array have their words among those that are taken.
pub record Points (v : View) (w : World) (t : TypeTree) (x : ℕ) (path : List ℕ) (first room u : ℕ) : Type 0 where
  pub cell : Cell
  pub there : slice_get w.store x ≡ Some cell
  pub at : ℕ
  pub home : v.homes x ≡ Some (on_heap at)
  pub long : ℕ
  pub leads : Leads cell.type path (array_of long t)
  pub within : first + room ≤ long
  pub inside : at + (stretch cell.type path t first + room * width t) ≤ v.heap
  pub word : u ≡ first_address + (at + stretch cell.type path t first)

abbrev pub Based : View → World → TypeTree → Value → ℕ → Type 0
Based v w t nil_slice u = u ≡ 0
Based v w t (slice_in x path first count room) u = Points v w t x path first room u
Based v w t sv u = ⊥

-- three words are the header of a slice of elements of a type
pub record Header (v : View) (w : World) (t : TypeTree) (sv : Value) (first long capacity : ℕ) : Type 0 where
  pub base : Based v w t sv first
  pub count : cast_signed w64 long ≡ pos (slice_count sv)
  pub room : cast_signed w64 capacity ≡ pos (slice_room sv)
  pub long_is : long ≡ slice_count sv
  pub room_is : capacity ≡ slice_room sv
  pub small : slice_room sv < 2 ^ 63
  pub less : slice_count sv ≤ slice_room sv

-- an address leads there
pub points_into : (v : View) (w : World) (hi : ℕ) (t : TypeTree) (x : ℕ) (path : List ℕ) (first room u : ℕ) → Points v w t x path first room u → ReachesInto v.homes hi w t x path first room u
points_into v w hi t x path first room u a = record {
  cell = a.cell;
  there = a.there;
  count = a.long;
  leads = a.leads;
  within = a.within;
  some = let e = a.word in omega (arith, e);
  at = λ q e. subst (λ r. u ≡ address_in hi r + (offset a.cell.type path + first * width t)) (some_same (sym a.home ∙ e)) (let f = a.word in omega (arith, f));
}

heap_home : (led : Leading) (homes : ℕ → Option Place) (x : ℕ) → led ≡ to_heap → MayLead led homes x → (h : ℕ) × (homes x ≡ Some (on_heap h))
heap_home led homes x e m = subst (λ l. MayLead l homes x) e m

module _ (m : Built) (v : View) (w : World) (calls : List Frame) (s : Memory) (g : Stands m v w calls s) where
  pub into_points : (t : TypeTree) (x : ℕ) (path : List ℕ) (first room u : ℕ) → MayLead m.leading v.homes x → ReachesInto v.homes s.hi w t x path first room u → Points v w t x path first room u
  into_points t x path first room u may r =
      let h = heap_home m.leading v.homes x m.apart may in
      let a = r.at (on_heap h.0) h.1 in let le = r.within in
      let heaped = g.homed.heaped x h.0 r.cell r.there h.1 in let ends = within r.cell.type (array_of r.count t) path r.leads in
      let behind = r.count - (first + room) in let all : first + room + behind ≡ r.count = omega arith in
      let product : (first + room + behind) * width t ≡ r.count * width t = ap (λ k. k * width t) all in
      record {
        cell = r.cell;
        there = r.there;
        at = h.0;
        home = h.1;
        long = r.count;
        leads = r.leads;
        within = le;
        inside = omega (arith, heaped, ends, product, times_sum (first + room) behind (width t), times_sum first room (width t));
        word = omega (arith, a);
      }

  -- the words of a slice
  pub header_of : (n : ℕ) (sv : Value) (first long capacity : ℕ) → IsOf (slice_of n) sv → Stand m.program m.leading v.homes s.hi w (leaves (slice_of n)) (contents sv) (first ∷ (long ∷ (capacity ∷ []))) → Header v w (type_named m.program n) sv first long capacity
  header_of n nil_slice first long capacity is st =
      let a = st.each 1 (omega arith) in let b = st.each 2 (omega arith) in
      record { base = st.each 0 (omega arith); count = a.0; room = b.0; long_is = (pos_word long 0 a.0).0; room_is = (pos_word capacity 0 b.0).0; small = omega arith; less = omega arith }
  header_of n (slice_in x path start many room) first long capacity is st =
      let z = st.each 0 (omega arith) in let a = st.each 1 (omega arith) in let b = st.each 2 (omega arith) in
      record {
        base = into_points (type_named m.program n) x path start room first z.0 z.1;
        count = a.0;
        room = b.0;
        long_is = (pos_word long many a.0).0;
        room_is = (pos_word capacity room b.0).0;
        small = (pos_word capacity room b.0).1;
        less = is;
      }
  header_of n sv first long capacity is st = absurd is

pub may_heap : (led : Leading) (homes : ℕ → Option Place) (x h : ℕ) → led ≡ to_heap → homes x ≡ Some (on_heap h) → MayLead led homes x
may_heap led homes x h e home = subst (λ l. MayLead l homes x) (sym e) (h, home)

-- a slice whose header it is
pub header_stands : (m : Built) (v : View) (w : World) (hi n : ℕ) (sv : Value) (first long capacity : ℕ) → long < 2 ^ 64 → capacity < 2 ^ 64 → Header v w (type_named m.program n) sv first long capacity → Stand m.program m.leading v.homes hi w (leaves (slice_of n)) (contents sv) (first ∷ (long ∷ (capacity ∷ [])))
header_stands m v w hi n nil_slice first long capacity fits roomy h = record { long = refl; each = each }
  where
    each : (j : ℕ) → j < 3 → StandsFor m.program m.leading v.homes hi w (get_or (leaves (slice_of n)) j ints) (get_or (contents nil_slice) j nothing) (slice_index (first ∷ (long ∷ (capacity ∷ []))) j)
    each zero l = h.base
    each (suc zero) l = (h.count, fits)
    each (suc (suc zero)) l = (h.room, roomy)
    each (suc (suc (suc j))) l = absurd (omega arith)
header_stands m v w hi n (slice_in x path start many room) first long capacity fits roomy h = record { long = refl; each = each }
  where
    each : (j : ℕ) → j < 3 → StandsFor m.program m.leading v.homes hi w (get_or (leaves (slice_of n)) j ints) (get_or (contents (slice_in x path start many room)) j nothing) (slice_index (first ∷ (long ∷ (capacity ∷ []))) j)
    each zero l = (may_heap m.leading v.homes x h.base.at m.apart h.base.home, points_into v w hi (type_named m.program n) x path start room first h.base)
    each (suc zero) l = (h.count, fits)
    each (suc (suc zero)) l = (h.room, roomy)
    each (suc (suc (suc j))) l = absurd (omega arith)
header_stands m v w hi n sv first long capacity fits roomy h = absurd h.base
