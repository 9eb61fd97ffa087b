-- A program with its code.
use Rattle.std.proofs.Common.{◌≡◌, ℕ, ◌^◌, ◌<◌, ◌≤◌, Some, ap}
use Rattle.std.specs.Prelude.{slice_get}
use Rattle.typed_syntax.specs.Types.{width}
use Rattle.typed_syntax.specs.Syntax.{Func, Program, site_type}
use Rattle.typed_syntax.specs.Form.{FuncFits}
use Rattle.frames.specs.Placement.{Placement, IsPlaced}
use Rattle.frames.specs.Frames.{frame_in, frame_of}
use Rattle.meaning.specs.Meaning.{Item}
use Rattle.meaning.specs.Output.{Limits}
use Rattle.isa.specs.Code.{Tables}
use Rattle.program_code.proofs.Compiled.{Compiled}
use Rattle.state_relation.specs.Relation.{Leading, to_heap}
use Rattle.state_relation.specs.Alike.{AreNumbers}

-- A program in form, which variables live on the heap, where pointers and slices lead, which is to these alone, its code, the most words
-- that the stack and the heap may have, and the items of the input.
pub record Built : Type 0 where
  pub program : Program
  pub placement : Placement
  pub leading : Leading
  pub apart : leading ≡ to_heap
  pub code : Tables
  pub max : ℕ
  pub heap_max : ℕ
  pub roomy : max ≤ 2 ^ 32
  pub heap_roomy : heap_max ≤ 2 ^ 32
  pub items : ℕ → Item
  pub fits : (f : ℕ) (func : Func) → slice_get program.funcs f ≡ Some func → FuncFits program func
  pub solid : (site : ℕ) → 0 < width (site_type program site)
  pub placed : IsPlaced program placement
  pub strings : code.strings ≡ program.strings
  pub numbers : AreNumbers items
  pub compiled : Compiled program placement code

module _ (m : Built) where
  -- the limits under which its source runs
  abbrev pub limits_of : Limits
  limits_of = record { frame = λ f. frame_in m.program m.placement (slice_get m.program.funcs f); on_heap = m.placement.on_heap; stack_max = m.max; heap_max = m.heap_max }

  pub frames_are : (f : ℕ) (func : Func) → slice_get m.program.funcs f ≡ Some func → limits_of.frame f ≡ frame_of m.program m.placement func
  frames_are f func named = ap (frame_in m.program m.placement) named
