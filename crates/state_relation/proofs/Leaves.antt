-- The types of a part's words stand among those of the whole.
use Rattle.std.proofs.Common.{◌≡◌, ℕ, zero, suc, ◌+◌, ◌*◌, ◌<◌, List, [], ◌∷◌, ◌++◌, length, get_or, refl, sym, ap, ◌∙◌, arith, length-append, suc-mul}
use Rattle.std.proofs.lemmas.List.{get_or_append_left, get_or-append-add}
use Rattle.typed_syntax.specs.Types.{TypeTree, PartTypes, ints, bools, struct_of, array_of, pointer_to, slice_of, no_types, more_types, width, widths, repeated, part_types, types_in, nth_type, widths_before, part_count, part_type, part_offset}
use Rattle.typed_syntax.specs.Paths.{Leads, offset}
use Rattle.typed_syntax.specs.Syntax.{all_width}
use Rattle.value_laws.proofs.Parts.{within}
use Rattle.state_relation.specs.Leaves.{times, leaves, leaves_in, leaf, all_leaves}

times_length : (n : ℕ) (ls : List TypeTree) → length (times n ls) ≡ n * length ls
times_length zero ls = omega arith
times_length (suc n) ls = omega (arith, length-append ls (times n ls), times_length n ls, suc-mul n (length ls))

mutual
  pub leaves_length : (t : TypeTree) → length (leaves t) ≡ width t
  leaves_length ints = refl
  leaves_length bools = refl
  leaves_length (struct_of ts) = leaves_in_length ts
  leaves_length (array_of n t) = times_length n (leaves t) ∙ ap (λ m. n * m) (leaves_length t)
  leaves_length (pointer_to n) = refl
  leaves_length (slice_of n) = refl

  leaves_in_length : (ts : PartTypes) → length (leaves_in ts) ≡ widths ts
  leaves_in_length no_types = refl
  leaves_in_length (more_types t ts) = omega (arith, length-append (leaves t) (leaves_in ts), leaves_length t, leaves_in_length ts)

pub all_leaves_length : (ts : List TypeTree) → length (all_leaves ts) ≡ all_width ts
all_leaves_length [] = refl
all_leaves_length (t ∷ ts) = omega (arith, length-append (leaves t) (all_leaves ts), leaves_length t, all_leaves_length ts)

pub leaves_repeated : (n : ℕ) (t : TypeTree) → leaves_in (repeated n t) ≡ times n (leaves t)
leaves_repeated zero t = refl
leaves_repeated (suc n) t = ap (λ ls. leaves t ++ ls) (leaves_repeated n t)

-- a type with parts
parts_leaves : (t : TypeTree) (i : ℕ) → i < part_count t → leaves t ≡ leaves_in (part_types t)
parts_leaves ints i l = absurd (omega arith)
parts_leaves bools i l = absurd (omega arith)
parts_leaves (struct_of ts) i l = refl
parts_leaves (array_of n t) i l = sym (leaves_repeated n t)
parts_leaves (pointer_to n) i l = absurd (omega arith)
parts_leaves (slice_of n) i l = absurd (omega arith)

nth_leaf : (ts : PartTypes) (i j : ℕ) → i < types_in ts → j < width (nth_type ts i) → get_or (leaves_in ts) (widths_before ts i + j) ints ≡ leaf (nth_type ts i) j
nth_leaf no_types i j l lj = absurd (omega arith)
nth_leaf (more_types t ts) zero j l lj =
    let z : 0 + j ≡ j = omega arith in
    ap (λ n. get_or (leaves t ++ leaves_in ts) n ints) z ∙ get_or_append_left (leaves t) (leaves_in ts) ints j (omega (arith, leaves_length t))
nth_leaf (more_types t ts) (suc i) j l lj =
    let z : width t + widths_before ts i + j ≡ length (leaves t) + (widths_before ts i + j) = omega (arith, leaves_length t) in
    ap (λ n. get_or (leaves t ++ leaves_in ts) n ints) z ∙ get_or-append-add (leaves t) (leaves_in ts) (widths_before ts i + j) ints ∙ nth_leaf ts i j (omega arith) lj

-- the word of a part that a path leads to
pub part_leaf : (t s : TypeTree) (path : List ℕ) (j : ℕ) → Leads t path s → j < width s → leaf t (offset t path + j) ≡ leaf s j
part_leaf t s [] j e l = let z : 0 + j ≡ j = omega arith in ap (leaf t) z ∙ ap (λ u. leaf u j) e
part_leaf t s (i ∷ path) j leads l =
    let at = part_offset t i in let off = offset (part_type t i) path in let ends = within (part_type t i) s path leads.1 in
    let z : at + off + j ≡ at + (off + j) = omega arith in
    ap (leaf t) z ∙ ap (λ ls. get_or ls (at + (off + j)) ints) (parts_leaves t i leads.0) ∙ nth_leaf (part_types t) i (off + j) leads.0 (omega (arith, ends, l))
    ∙ part_leaf (part_type t i) s path j leads.1 l
