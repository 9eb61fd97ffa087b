-- Places whose frame lies inside the words.
use Rattle.std.specs.Prelude.{◌≡◌, ℕ, ◌+◌, ◌-◌, ◌*◌, ◌<◌, ◌≤◌, ⊤, List, length, slice_get, Some}
use Rattle.heap_bump.specs.Words.{AreTaken, first_address}
use Rattle.isa.specs.Code.{Tables}
use Rattle.isa.specs.declared.instr.Added.{Added}
use Rattle.isa.specs.declared.instr.Added.TheVariants.{Slots, Slice as OfSlice}
use Rattle.isa.specs.declared.instr.Instr.{Instr}
use Rattle.isa.specs.declared.instr.Instr.TheVariants.{Const, Zero, Move, Same, Bin, Un, Jump, JumpZero, Call, Incoming, Load, Store, Address, Offset, Index, SliceIndex, Slice, Born, Alloc, Make, Append, Copy, PrintInt, PrintBool, PrintText, ReadInt, Return, Exit, PanicText, PanicInt, PanicBool}
use Rattle.isa.specs.declared.func.Func.{Func}
use Rattle.machine.specs.declared.memory.Spot.{Spot}
use Rattle.machine.specs.declared.memory.Spot.TheVariants.{InHeap, InStack, Nowhere}

pub record Inside (t : Tables) (long pc base : ℕ) : Type 0 where
  pub f : ℕ
  pub fn : Func
  pub owner : slice_get t.owners pc ≡ Some f
  pub is : slice_get t.funcs f ≡ Some fn
  pub room : base + fn.frame ≤ long

-- where an instruction leads, but for returns, the same frame lies inside; a call comes back to it, and one that ends the run leads
-- nowhere
abbrev pub Leads : Tables → ℕ → ℕ → ℕ → Instr → Type 0
Leads t long pc base Return = ⊤
Leads t long pc base (Exit a) = ⊤
Leads t long pc base (PanicText text) = ⊤
Leads t long pc base (PanicInt a) = ⊤
Leads t long pc base (PanicBool a) = ⊤
Leads t long pc base (Jump to) = Inside t long to base
Leads t long pc base (JumpZero a to) = Inside t long to base × Inside t long (pc + 1) base
Leads t long pc base _ = Inside t long (pc + 1) base

-- a function of the code that can be called from the frame at an index: its arguments and results lie inside `long` words
pub record Callable (t : Tables) (long base g : ℕ) : Type 0 where
  pub fn : Func
  pub is : slice_get t.funcs g ≡ Some fn
  pub linked : 2 ≤ fn.frame
  pub starts : slice_get t.owners fn.start ≡ Some g
  pub room : base + (fn.arguments + fn.results) ≤ long

-- what an append adds lies inside `long` words
abbrev pub AddedInside : (long base : ℕ) → Added → (c d w : ℕ) → Type 0
AddedInside long base Slots c d w = base + (c + d * w) ≤ long
AddedInside long base OfSlice c d w = base + (c + 3) ≤ long

-- the slots that an instruction touches lie inside `long` words, the function that it calls can be called, and the string that it
-- prints is there
abbrev pub Touches : Tables → ℕ → ℕ → Instr → Type 0
Touches t long base (Const a word) = base + a < long
Touches t long base (Zero a n) = base + (a + n) ≤ long
Touches t long base (Move event a b n) = (base + (a + n) ≤ long) × (base + (b + n) ≤ long)
Touches t long base (Same wanted a b c n) = (base + a < long) × (base + (b + n) ≤ long) × (base + (c + n) ≤ long)
Touches t long base (Bin op a b c) = (base + a < long) × (base + b < long) × (base + c < long)
Touches t long base (Un op a b) = (base + a < long) × (base + b < long)
Touches t long base (JumpZero a to) = base + a < long
Touches t long base (Call g) = Callable t long base g
Touches t long base (Incoming direction a b n) = base + (a + n) ≤ long
Touches t long base (Load a b off n) = (base + (a + n) ≤ long) × (base + b < long)
Touches t long base (Store event a off c n) = (base + a < long) × (base + (c + n) ≤ long)
Touches t long base (Address a b) = (base + a < long) × (base + b < long)
Touches t long base (Offset a b off) = (base + a < long) × (base + b < long)
Touches t long base (Index a b c len w) = (base + a < long) × (base + b < long) × (base + c < long)
Touches t long base (SliceIndex a b c w) = (base + a < long) × (base + (b + 3) ≤ long) × (base + c < long)
Touches t long base (Slice a b c w) = (base + (a + 3) ≤ long) × (base + (b + 3) ≤ long) × (base + (c + 2) ≤ long)
Touches t long base (Born a n site) = base + (a + n) ≤ long
Touches t long base (Alloc a n site) = base + a < long
Touches t long base (Make a w site) = base + (a + 3) ≤ long
Touches t long base (Append added a b c d w site) = (1 ≤ w) × (base + (a + 3) ≤ long) × (base + (b + 3) ≤ long) × AddedInside long base added c d w
Touches t long base (Copy a b c w) = (base + a < long) × (base + (b + 3) ≤ long) × (base + (c + 3) ≤ long)
Touches t long base (PrintInt a) = base + a < long
Touches t long base (PrintBool a) = base + a < long
Touches t long base (PrintText text) = text < length t.strings
Touches t long base (ReadInt a) = base + (a + 2) ≤ long
Touches t long base (Exit a) = base + a < long
Touches t long base (PanicInt a) = base + a < long
Touches t long base (PanicBool a) = base + a < long
Touches t long base _ = ⊤

-- words that lie somewhere are taken ones of the heap, or lie above the frame's lowest word in a block of `long`
abbrev pub Reached : (heap : List ℕ) → (long base at count : ℕ) → Spot → Type 0
Reached heap long base at count (InHeap index) = AreTaken heap at count × (index ≡ at - first_address) × (index + count ≤ length heap)
Reached heap long base at count (InStack index) = base + (index + count) ≤ long
Reached heap long base at count Nowhere = ⊤

-- a spot has room for `count` words
abbrev pub HasRoom : (heap : List ℕ) → (long base count : ℕ) → Spot → Type 0
HasRoom heap long base count (InHeap index) = index + count ≤ length heap
HasRoom heap long base count (InStack index) = base + (index + count) ≤ long
HasRoom heap long base count Nowhere = ⊤

-- an instruction that programs do seldom
abbrev pub IsRare : Instr → Type 0
IsRare (Const a word) = ⊥
IsRare (Move event a b n) = ⊥
IsRare (Bin op a b c) = ⊥
IsRare (Jump to) = ⊥
IsRare (JumpZero a to) = ⊥
IsRare (Call g) = ⊥
IsRare (Incoming direction a b n) = ⊥
IsRare (Load a b off n) = ⊥
IsRare (Store event a off c n) = ⊥
IsRare (Born a n site) = ⊥
IsRare Return = ⊥
IsRare _ = ⊤
