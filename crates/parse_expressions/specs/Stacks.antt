-- What is open, from what lies in memory.
use Rattle.std.specs.Prelude.{ℕ, suc, List, [], ◌∷◌, map, reverse}
use Rattle.syntax.specs.Expressions.{ex_of, exs_of, bound_of, elements_of}
use Rattle.parse_expressions.specs.declared.frame.Frame.{Frame as CodeFrame}
use Rattle.parse_expressions.specs.declared.frame.Frame.TheVariants as frame
use Rattle.parse_expressions.specs.Frames.{Frame, prefixed, enclosed, awaiting, calling, indexing, bounding, measuring, filling, pointing, of_array, of_slice, enclosed_type}
use Rattle.parse_expressions.specs.Containers.{container_of}

abbrev pub frame_of : CodeFrame → Frame
frame_of (frame.Prefix pos op) = prefixed pos op
frame_of (frame.Paren pos) = enclosed pos
frame_of (frame.Right left pos op) = awaiting (ex_of left.expr) pos op
frame_of (frame.Call call) = calling (ex_of call.function) (exs_of call.arguments.items)
frame_of (frame.Index part pos) = indexing (ex_of part.expr) pos
frame_of (frame.High part pos low) = bounding (ex_of part.expr) pos (bound_of low.bound)
frame_of (frame.Length pos) = measuring pos
frame_of (frame.Element braces key) = filling (container_of braces.container) (elements_of braces.elements.items) key
frame_of (frame.Pointer pos) = pointing pos
frame_of (frame.Array pos len) = of_array pos (ex_of len.expr)
frame_of (frame.Slice pos) = of_slice pos
frame_of (frame.TypeParen pos) = enclosed_type pos

-- the innermost frame stands last in the code's list
abbrev pub frames_of : List CodeFrame → List Frame
frames_of fs = reverse (map frame_of fs)

-- how many parentheses are open
abbrev pub open_parentheses : List Frame → ℕ
open_parentheses [] = 0
open_parentheses (enclosed pos ∷ fs) = suc (open_parentheses fs)
open_parentheses (calling f es ∷ fs) = suc (open_parentheses fs)
open_parentheses (enclosed_type pos ∷ fs) = suc (open_parentheses fs)
open_parentheses (f ∷ fs) = open_parentheses fs

-- how many levels a construct adds to the nesting of what stands in it
abbrev pub levels : Frame → ℕ
levels (awaiting a pos op) = 0
levels f = 1

-- how many parentheses it is
abbrev pub parentheses_of : Frame → ℕ
parentheses_of (enclosed pos) = 1
parentheses_of (calling f es) = 1
parentheses_of (enclosed_type pos) = 1
parentheses_of f = 0
