-- The words of each frame, and what a layout is refused for.
use Rattle.std.specs.Prelude.{◌≡◌, ℕ, zero, suc, ◌+◌, nat_lt, if◌then◌else◌, Bool, List, [], ◌∷◌, Option, Some, None, map}
use Rattle.base.specs.declared.pos.Pos.{Pos}
use Rattle.base.specs.declared.ids.TypeId.{TypeId}
use Rattle.typed_syntax.specs.Types.{TypeTree, ints}
use Rattle.typed_syntax.specs.Syntax.{Func, Program, type_named}
use Rattle.typed.specs.View.{func_of}
use Rattle.frames.specs.Placement.{Placement}
use Rattle.frames.specs.Frames.{outgoing_of, temps_of, frame_of, cell_words, stack_words}
use Rattle.typed.specs.declared.program.Func.{Func as FuncData}
use Rattle.frame_layout.specs.declared.layout.FrameLayout.{FrameLayout}
use Rattle.frame_layout.specs.declared.fault.LayoutFault.{LayoutFault}
use Rattle.frame_layout.specs.declared.fault.LayoutFault.TheVariants as fault

-- the type of a number, where there is one; what has no type counts as a whole number
abbrev pub type_or_ints : Program → Option TypeId → TypeTree
type_or_ints p None = ints
type_or_ints p (Some id) = type_named p id.0

-- Where each of `count` sites from one on starts: its cell, if its variables live on the heap, and else its words. The first cell is this
-- one, and the words begin so far on.
abbrev pub start_at : Placement → (site cell word : ℕ) → ℕ
start_at l site cell word = if l.on_heap site then cell else word

abbrev pub starts : Placement → (made : List Bool) → (sites : List TypeTree) → (from cell word count : ℕ) → List ℕ
starts l made sites from cell word zero = []
starts l made sites from cell word (suc n) = start_at l from cell word ∷ starts l made sites (suc from) (cell + cell_words l made from) (word + stack_words l sites from) n

abbrev pub layout_in : Program → Placement → Func → FrameLayout
layout_in p l f = record { outgoing = outgoing_of p f; temps = temps_of p l f; frame = frame_of p l f }

-- the frames of a program's functions, by their numbers
abbrev pub layouts : Program → Placement → List FrameLayout
layouts p l = map (layout_in p l) p.funcs

-- a frame that has more words than a frame may have: the place of the function's name, and the words
pub record Large : Type 0 where
  pub pos : Pos
  pub words : ℕ

abbrev pub is_large : Program → Placement → FuncData → Option Large
is_large p l f = if nat_lt 65535 (frame_of p l (func_of p.types f)) then Some (record { pos = f.pos; words = frame_of p l (func_of p.types f) }) else None

abbrev pub or_else : Option Large → Option Large → Option Large
or_else None l = l
or_else (Some k) l = Some k

-- the first of some functions whose frame is one
abbrev pub first_too_large : Program → Placement → List FuncData → Option Large
first_too_large p l [] = None
first_too_large p l (f ∷ gs) = or_else (is_large p l f) (first_too_large p l gs)

abbrev pub IsTooLarge : Option Large → LayoutFault → Type 0
IsTooLarge large fault.NoMemory = Unit {0}
IsTooLarge large (fault.FrameTooLarge pos words) = large ≡ Some (record { pos = pos; words = words })
