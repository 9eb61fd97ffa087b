-- Places that are within the slots of a frame.
use Rattle.std.proofs.Common.{◌≡◌, ℕ, zero, suc, ◌+◌, ◌≤◌, pos, get_or, refl, sym, ap, ◌∙◌, arith}
use Rattle.std.proofs.Math.ListN.{get_or-map}
use Rattle.typed_syntax.specs.Types.{TypeTree, PartTypes, ints, bools, struct_of, array_of, pointer_to, slice_of, no_types, more_types, width, widths, part_type, nth_type, repeated}
use Rattle.typed_syntax.specs.Value.{Value, int}
use Rattle.typed_syntax.specs.Paths.{type_at}
use Rattle.value_laws.proofs.Parts.{width_repeated}
use Rattle.typed_syntax.specs.Syntax.{Pl, local, global, indirect, slice_element, global_site, path_of, place_width, site_type}
use Rattle.typed.specs.View.{program_of}
use Rattle.typed.specs.declared.program.Program.{Program}
use Rattle.program_code.specs.Code.{global_type, near_offset, near_words, root_type}
use Rattle.expression_code.specs.declared.slots.Frame.{Frame}
use Rattle.expression_code.specs.Frame.{globals_in, sites_in, slots_in, IsLaid}
use Rattle.expression_code.specs.Temps.{PlaceFits}
use Rattle.expression_code.proofs.PackageVariables.{globals_are}

-- no part is wider than the whole; what is no part is a whole number
nth_most : (ts : PartTypes) (i m : ℕ) → 1 ≤ m → widths ts ≤ m → width (nth_type ts i) ≤ m
nth_most no_types i m one l = one
nth_most (more_types t ts) zero m one l = omega arith
nth_most (more_types t ts) (suc i) m one l = nth_most ts i m one (omega arith)

pub part_most : (t : TypeTree) (i m : ℕ) → 1 ≤ m → width t ≤ m → width (part_type t i) ≤ m
part_most ints i m one l = one
part_most bools i m one l = one
part_most (struct_of ts) i m one l = nth_most ts i m one l
part_most (array_of n t) i m one l = nth_most (repeated n t) i m one (let e = width_repeated n t in omega (arith, e, l))
part_most (pointer_to n) i m one l = one
part_most (slice_of n) i m one l = one

-- the words of what a place begins at are told by 16 bits
pub root_small : (p : Program) (frame : Frame) (q : Pl) → IsLaid p frame → width (root_type (slots_in p frame) q) ≤ 65535
root_small p frame (local site steps) laid = laid.1.words site
root_small p frame (global g steps) laid = laid.1.words (get_or (globals_in p) g 0)
root_small p frame (indirect at e n steps) laid = laid.1.types n
root_small p frame (slice_element at e i n steps) laid = laid.1.types n

-- and so are those of a place, after those before it
pub near_small : (p : Program) (frame : Frame) (q : Pl) → IsLaid p frame → PlaceFits (slots_in p frame) frame.sites q → near_offset (slots_in p frame) q + near_words (slots_in p frame) q ≤ 65535
near_small p frame q laid f = let small = root_small p frame q laid in let part = f.2 in omega (arith, small, part)

-- a package variable has the type of its site
pub global_root : (p : Program) (frame : Frame) (g : ℕ) → site_type (program_of p) (global_site (program_of p) g) ≡ global_type (slots_in p frame) g
global_root p frame g =
    ap (λ n. get_or (sites_in p) n ints)
    (sym (get_or-map (λ (v : ℕ × Value). v.0) (program_of p).globals g (0, int (pos 0))) ∙ ap (λ sites. get_or sites g 0) (sym (globals_are p)))

-- a place has the words of its type
pub words_near : (p : Program) (frame : Frame) (q : Pl) → place_width (program_of p) q ≡ near_words (slots_in p frame) q
words_near p frame (local site steps) = refl
words_near p frame (global g steps) = ap (λ t. width (type_at t (path_of steps))) (global_root p frame g)
words_near p frame (indirect at e n steps) = refl
words_near p frame (slice_element at e i n steps) = refl
