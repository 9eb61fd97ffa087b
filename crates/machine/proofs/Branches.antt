-- Instructions on slices go on by one branch of their definition.
use Rattle.std.proofs.Common.{◌≡◌, ℕ, ◌+◌, ◌-◌, ◌*◌, ◌<◌, ◌≤◌, Bool, true, false, List, [], length, take, drop, Option, Some, refl, ap, sym, ◌∙◌, arith}
use Rattle.std.specs.Prelude.{◌==◌, if◌then◌else◌, nat_le, slice_get}
use Rattle.std.proofs.lemmas.Bool.{le-leb, lt-leb}
use Rattle.std.proofs.lemmas.List.{drop-take, take-take}
use Rattle.std.proofs.Math.Nat.{mul-le-mul_right}
use Rattle.simulation.specs.Steps.{Goes}
use Rattle.heap_bump.specs.Words.{Words, first_address}
use Rattle.isa.specs.declared.instr.Added.{Added}
use Rattle.isa.specs.declared.instr.Added.TheVariants.{Slice as OfSlice}
use Rattle.isa.specs.Code.{Tables}
use Rattle.isa.specs.declared.instr.BinOp.{BinOp}
use Rattle.isa.specs.declared.instr.Direction.{Direction}
use Rattle.isa.specs.declared.instr.MoveEvent.{MoveEvent}
use Rattle.isa.specs.declared.instr.StoreEvent.{StoreEvent}
use Rattle.isa.specs.declared.instr.Instr.{Instr}
use Rattle.isa.specs.declared.instr.Instr.TheVariants.{Const, Move, Bin, Jump, JumpZero, Call, Incoming, Load, Store, Return, Born, Alloc, Make, Append}
use Rattle.isa.specs.declared.func.Func.{Func}
use Rattle.machine.specs.Machine.{Range, State, Does, frame_in, frame_of, slot, spot_of, put_words, words_in, put_at, header, is_nowhere, most_elements, are_sizes, allocates, makes, grown, renews, adds_in_place, adds_in_new, adds, appends_slots, appends_slice, appends_to, appends, copies, lesser, puts_words, next_address}
use Rattle.machine.specs.Inside.{HasRoom, IsRare}
use Rattle.machine.specs.Answers.{Comes, NeedsMemory, NoRoom}
use Rattle.machine.specs.declared.run_state.RunState.{RunState}
use Rattle.machine.specs.declared.memory.Spot.{Spot}
use Rattle.machine.specs.declared.memory.Spot.TheVariants.{InHeap, InStack, Nowhere}
use Rattle.machine.specs.declared.run_state.Ending.{Ending}

then_comes : (b : Bool) (d e : Does) (s : State) (x : Option Ending) → b ≡ true → Comes d s x → Comes (let done : Does = if b then d else e in done) s x
then_comes true d e s x is c = c
then_comes false d e s x is c = absurd cc

else_comes : (b : Bool) (d e : Does) (s : State) (x : Option Ending) → b ≡ false → Comes e s x → Comes (let done : Does = if b then d else e in done) s x
else_comes false d e s x is c = c
else_comes true d e s x is c = absurd cc

-- sizes that are good ones, read from slots
pub made : (s new : State) (a w long capacity l k : ℕ) (x : Option Ending) → l ≡ long → k ≡ capacity → l ≤ most_elements → are_sizes l k ≡ true → Comes (allocates s a (k * w)) new x
    → Comes (makes s a long capacity w) new x
made s new a w long capacity l k x el ek small good c =
    rw (← el, ← ek) (then_comes (nat_le l most_elements) _ _ new x (le-leb l most_elements small) (then_comes (are_sizes l k) _ _ new x good c))

pub copied_by : (s new : State) (a w b c to from count : ℕ) (x : Option Ending) → to ≡ slot s b → from ≡ slot s c → count ≡ lesser (slot s (b + 1)) (slot s (c + 1)) → Comes (copies s a to from count w) new x
    → Comes (copies s a (slot s b) (slot s c) (lesser (slot s (b + 1)) (slot s (c + 1))) w) new x
copied_by s new a w b c to from count x et ef ec comes = rw (← et, ← ef, ← ec) comes

module _ (s new : State) (a first long capacity w : ℕ) (x : Option Ending) where
  pub added_in_place : (count : ℕ) (source : Spot) → long + count ≤ capacity → Comes (adds_in_place s a first long capacity count w source) new x → Comes (adds s a first long capacity count w source) new x
  added_in_place count source fits c = then_comes (nat_le (long + count) capacity) _ _ new x (le-leb (long + count) capacity fits) c

  pub added_in_new : (count room : ℕ) (source : Spot) → capacity < long + count → room ≡ grown (long + count) capacity → Comes (adds_in_new s a first long room count w source) new x
      → Comes (adds s a first long capacity count w source) new x
  added_in_new count room source outgrown is c =
      else_comes (nat_le (long + count) capacity) _ _ new x (lt-leb (long + count) capacity outgrown) (rw (← is) c)

  pub appended_slots : (c d : ℕ) → (d == 0) ≡ false → Comes (adds s a first long capacity d w (InStack c)) new x → Comes (appends_slots s a first long capacity c d w) new x
  appended_slots c d some comes = else_comes (d == 0) _ _ new x some comes

  pub appended_slice : (from count : ℕ) (source : Spot) → count ≤ most_elements → (count == 0) ≡ false → source ≡ spot_of s.range.hi s.heap.words s.words from (count * w) → is_nowhere source ≡ false
      → Comes (adds s a first long capacity count w source) new x → Comes (appends_slice s a first long capacity from count w) new x
  appended_slice from count source few some is somewhere c =
      then_comes (nat_le count most_elements) _ _ new x (le-leb count most_elements few)
      (else_comes (count == 0) _ _ new x some
      (rw (← is) (else_comes (is_nowhere source) _ _ new x somewhere c)))

  module _ (b c d : ℕ) (is_first : first ≡ slot s b) (is_long : long ≡ slot s (b + 1)) (is_capacity : capacity ≡ slot s (b + 2)) (good : are_sizes long capacity ≡ true) where
    pub appended : (added : Added) → Comes (appends_to s added a first long capacity c d w) new x → Comes (appends s added a b c d w) new x
    appended added comes = rw (← is_first, ← is_long, ← is_capacity) (then_comes (are_sizes long capacity) _ _ new x good comes)

    pub appended_of : (from count : ℕ) → from ≡ slot s c → count ≡ slot s (c + 1) → Comes (appends_slice s a first long capacity from count w) new x → Comes (appends s OfSlice a b c d w) new x
    appended_of from count is_from is_count comes = appended OfSlice (rw (← is_from, ← is_count) comes)

-- elements that are added have room behind the old ones
pub room_behind : (used long count capacity w : ℕ) → long + count ≤ capacity → used + long * w + count * w ≤ used + capacity * w
room_behind used long count capacity w fits =
    let more : (long + count) * w ≤ capacity * w = mul-le-mul_right w fits in omega (arith, more)

-- words of the heap are the same after others were taken and written
pub kept_words : (source : Spot) (old new stack : List ℕ) (long base n : ℕ) → HasRoom old long base n source → take (length old) new ≡ old → words_in source new stack n ≡ words_in source old stack n
kept_words (InHeap i) old new stack long base n room kept =
    let more : i + (length old - i) ≡ length old = omega (arith, room) in
    let few : n ≤ length old - i = omega (arith, room) in
    let part : drop i old ≡ take (length old - i) (drop i new) = ap (drop i) (sym kept) ∙ ap (λ k. drop i (take k new)) (sym more) ∙ drop-take i (length old - i) new in
    sym (ap (take n) part ∙ take-take n (length old - i) (drop i new) few)
kept_words (InStack i) old new stack long base n room kept = refl
kept_words Nowhere old new stack long base n room kept = refl

-- added elements are put into a new array, and its header into slots
pub put_in_new : (range : Range) (pc reads : ℕ) (stack stack' : List ℕ) (heap renewed heap' : Words) (a first long capacity count w at behind long_stack base : ℕ) (source : Spot)
    → ((does : State → Does) → renews (record { pc = pc; range = range; words = stack; reads = reads; heap = heap }) first long capacity w does ≡ does (record { pc = pc; range = range; words = stack; reads = reads; heap = renewed }))
    → at ≡ first_address + length heap.words → behind ≡ length heap.words + long * w → HasRoom heap.words long_stack base (count * w) source → take (length heap.words) renewed.words ≡ heap.words
    → heap' ≡ record renewed { words = put_words renewed.words behind (words_in source renewed.words stack (count * w)) }
    → stack' ≡ put_words stack a (header at (long + count) capacity)
    → (let s : State = record { pc = pc; range = range; words = stack; reads = reads; heap = heap } in adds_in_new s a first long capacity count w source) ≡ Goes [] (record { pc = pc + 1; range = range; words = stack'; reads = reads; heap = heap' })
put_in_new range pc reads stack stack' heap renewed heap' a first long capacity count w at behind long_stack base source renews_by is_at is_behind room kept is_heap is_stack =
    let same = kept_words source heap.words renewed.words stack long_stack base (count * w) room kept in
    let s : State = record { pc = pc; range = range; words = stack; reads = reads; heap = heap } in
    let rest : State → Does =
    λ t. puts_words (put_at (InHeap (length heap.words + long * w)) t (words_in source heap.words stack (count * w))) a (header (next_address s) (long + count) capacity) in
    renews_by rest ∙ rw (is_heap, is_stack, is_at, is_behind, same) refl

same_call : (g f : ℕ) → Some (Call g) ≡ Some (Call f) → g ≡ f
same_call g f e = cc

-- at a place stands a call of a function whose frame the stack may have
pub call_needs : (t : Tables) (max pc : ℕ) (stack : List ℕ) (heap : Words) (g : ℕ) (fn : Func) → slice_get t.instrs pc ≡ Some (Call g) → slice_get t.funcs g ≡ Some fn → length stack + fn.frame ≤ max
    → NeedsMemory t max pc stack heap
call_needs t max pc stack heap g fn is named fits = let frame : frame_of t g ≡ fn.frame = ap frame_in named in (Call g, is, omega (arith, frame, fits))

-- the function that is called at a place is the one whose frame has no room
pub call_room : (t : Tables) (at : RunState) (g : ℕ) (fn : Func) → slice_get t.instrs at.pc ≡ Some (Call g) → slice_get t.funcs g ≡ Some fn → at.base < fn.frame → NoRoom t at
call_room t at g fn is named low f call =
    let same : g ≡ f = same_call g f (sym is ∙ call) in
    let frame : frame_of t f ≡ fn.frame = ap (λ (h : ℕ). frame_of t h) (sym same) ∙ ap frame_in named in
    omega (arith, frame, low)

-- no call stands there
pub alloc_room : (t : Tables) (at : RunState) (a n site : ℕ) → slice_get t.instrs at.pc ≡ Some (Alloc a n site) → NoRoom t at
alloc_room t at a n site is f call = absurd (let both : Some (Alloc a n site) ≡ Some (Call f) = sym is ∙ call in cc)

pub make_room : (t : Tables) (at : RunState) (a w site : ℕ) → slice_get t.instrs at.pc ≡ Some (Make a w site) → NoRoom t at
make_room t at a w site is f call = absurd (let both : Some (Make a w site) ≡ Some (Call f) = sym is ∙ call in cc)

pub append_room : (t : Tables) (at : RunState) (added : Added) (a b c d w site : ℕ) → slice_get t.instrs at.pc ≡ Some (Append added a b c d w site) → NoRoom t at
append_room t at added a b c d w site is f call = absurd (let both : Some (Append added a b c d w site) ≡ Some (Call f) = sym is ∙ call in cc)

-- what is none of the frequent instructions is a rare one
pub seldom : (i : Instr) → ((a word : ℕ) → i ≡ Const a word → ⊥) → ((event : MoveEvent) (a b n : ℕ) → i ≡ Move event a b n → ⊥) → ((op : BinOp) (a b c : ℕ) → i ≡ Bin op a b c → ⊥)
    → ((to : ℕ) → i ≡ Jump to → ⊥) → ((a to : ℕ) → i ≡ JumpZero a to → ⊥) → ((g : ℕ) → i ≡ Call g → ⊥) → ((direction : Direction) (a b n : ℕ) → i ≡ Incoming direction a b n → ⊥)
    → ((a b off n : ℕ) → i ≡ Load a b off n → ⊥) → ((event : StoreEvent) (a off c n : ℕ) → i ≡ Store event a off c n → ⊥) → ((a n site : ℕ) → i ≡ Born a n site → ⊥) → (i ≡ Return → ⊥) → IsRare i
seldom (Const a word) n1 n2 n3 n4 n5 n6 n7 n8 n9 n10 n11 = n1 a word refl
seldom (Move event a b n) n1 n2 n3 n4 n5 n6 n7 n8 n9 n10 n11 = n2 event a b n refl
seldom (Bin op a b c) n1 n2 n3 n4 n5 n6 n7 n8 n9 n10 n11 = n3 op a b c refl
seldom (Jump to) n1 n2 n3 n4 n5 n6 n7 n8 n9 n10 n11 = n4 to refl
seldom (JumpZero a to) n1 n2 n3 n4 n5 n6 n7 n8 n9 n10 n11 = n5 a to refl
seldom (Call g) n1 n2 n3 n4 n5 n6 n7 n8 n9 n10 n11 = n6 g refl
seldom (Incoming direction a b n) n1 n2 n3 n4 n5 n6 n7 n8 n9 n10 n11 = n7 direction a b n refl
seldom (Load a b off n) n1 n2 n3 n4 n5 n6 n7 n8 n9 n10 n11 = n8 a b off n refl
seldom (Store event a off c n) n1 n2 n3 n4 n5 n6 n7 n8 n9 n10 n11 = n9 event a off c n refl
seldom (Born a n site) n1 n2 n3 n4 n5 n6 n7 n8 n9 n10 n11 = n10 a n site refl
seldom Return n1 n2 n3 n4 n5 n6 n7 n8 n9 n10 n11 = n11 refl
seldom i n1 n2 n3 n4 n5 n6 n7 n8 n9 n10 n11 = tt
