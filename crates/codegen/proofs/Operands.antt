-- Temps above the operands of places and left sides, and above an address.
use Rattle.std.proofs.Common.{◌≡◌, ℕ, ◌+◌, ◌≤◌, List, [], ◌∷◌, arith}
use Rattle.typed_syntax.specs.Syntax.{Program, Pl, Steps, Left, local, global, indirect, slice_element, here, inner, at_index, blank, new, to}
use Rattle.frames.specs.Frames.{far, steps_far}
use Rattle.program_code.specs.Code.{above_address, place_above, lefts_above}
use Rattle.program_code.proofs.Rooms.{place_from}

steps_sum : (steps : Steps) (at : ℕ) → above_address (steps_far steps) at ≡ at + steps_far steps
steps_sum here at = omega arith
steps_sum (inner i steps) at = steps_sum steps at
steps_sum (at_index place e n steps) at = omega arith

pub above_sum : (q : Pl) (at : ℕ) → above_address (far q) at ≡ at + far q
above_sum (local site steps) at = steps_sum steps at
above_sum (global g steps) at = omega arith
above_sum (indirect at e n steps) h = steps_sum steps h
above_sum (slice_element at e i n steps) h = omega arith

pub lefts_from : (p : Program) (ls : List Left) (h : ℕ) → h ≤ lefts_above ls h
lefts_from p [] h = omega arith
lefts_from p (blank ∷ ls) h = lefts_from p ls h
lefts_from p (new site ∷ ls) h = lefts_from p ls h
lefts_from p (to q ∷ ls) h = let a = place_from p h q in let b = lefts_from p ls (place_above q h) in omega (arith, a, b)
