-- Which sites' variables a body takes the address of, or of a part of them: by `&` of a place that begins at one, and by a slicing of an array
-- there (Go specification, "Address operators", "Slice expressions"). What a pointer leads to, and an element of a slice, begins at no
-- variable by its name, and the package's variables are asked for by none.
use Rattle.std.specs.Prelude.{ℕ, suc, ◌==◌, Bool, false, ◌||◌, List, [], ◌∷◌, ◌++◌, Option, Some, None}
use Rattle.typed.specs.declared.program.Site.{Site}
use Rattle.typed_syntax.specs.Syntax.{Ex, Exs, Pl, Steps, local, global, indirect, slice_element, nil, address_of, new_variable, literal_variable, slice_literal, make, append, append_slice, copy, slicing, array_slicing, len, cap, Bound, absent, bound, here, inner, at_index, Left, blank, new, to, Piece, Over, St, Sts, constant, read, unary, binary, logical_and, logical_or, call, part_of, literal, Elements, no_elements, element, none, more, results, read_int, text, shown, over_int, over_length, over_copy, over_slice, over_pointer, over_pointed, declare, assign, update, bump, discard, block, if_stmt, for_stmt, range, break_stmt, continue_stmt, return_stmt, print, panic, exit, done, next}

-- the variable that a place begins at, where that is one of a function
abbrev pub root_of : Pl → List ℕ
root_of (local site steps) = site ∷ []
root_of (global number steps) = []
root_of (indirect at e n steps) = []
root_of (slice_element at e i n steps) = []

abbrev mutual
  pub taken : Ex → List ℕ
  taken (constant v) = []
  taken (read q) = taken_in_place q
  taken (unary op e) = taken e
  taken (binary at op a b) = taken a ++ taken b
  taken (logical_and a b) = taken a ++ taken b
  taken (logical_or a b) = taken a ++ taken b
  taken (call f es) = taken_all es
  taken (part_of n i e) = taken e
  taken (literal n es) = taken_in_elements es
  taken (nil n) = []
  taken (address_of q) = root_of q ++ taken_in_place q
  taken (new_variable site) = []
  taken (literal_variable site e) = taken e
  taken (slice_literal site es) = taken_all es
  taken (make at site count room) = taken count ++ taken_in_bound room
  taken (append site e es) = taken e ++ taken_all es
  taken (append_slice site a b) = taken a ++ taken b
  taken (copy n a b) = taken a ++ taken b
  taken (slicing at n e low high) = taken e ++ (taken_in_bound low ++ taken_in_bound high)
  taken (array_slicing at q n low high) = root_of q ++ (taken_in_place q ++ (taken_in_bound low ++ taken_in_bound high))
  taken (len e) = taken e
  taken (cap e) = taken e

  pub taken_in_bound : Bound → List ℕ
  taken_in_bound absent = []
  taken_in_bound (bound e) = taken e

  -- in the operands of a place; those of its indices come first, since the order is no matter
  pub taken_in_place : Pl → List ℕ
  taken_in_place (local site steps) = taken_in_steps steps
  taken_in_place (global number steps) = taken_in_steps steps
  taken_in_place (indirect at e n steps) = taken_in_steps steps ++ taken e
  taken_in_place (slice_element at e i n steps) = taken_in_steps steps ++ (taken e ++ taken i)

  pub taken_in_steps : Steps → List ℕ
  taken_in_steps here = []
  taken_in_steps (inner i steps) = taken_in_steps steps
  taken_in_steps (at_index at e n steps) = taken e ++ taken_in_steps steps

  pub taken_in_elements : Elements → List ℕ
  taken_in_elements no_elements = []
  taken_in_elements (element i e es) = taken e ++ taken_in_elements es

  pub taken_all : Exs → List ℕ
  taken_all none = []
  taken_all (more e es) = taken e ++ taken_all es
  taken_all (results f es) = taken_all es
  taken_all read_int = []

abbrev pub taken_in_piece : Piece → List ℕ
taken_in_piece (text number) = []
taken_in_piece (shown t e) = taken e

abbrev pub taken_in_pieces : List Piece → List ℕ
taken_in_pieces [] = []
taken_in_pieces (p ∷ ps) = taken_in_piece p ++ taken_in_pieces ps

abbrev pub taken_in_test : Option Ex → List ℕ
taken_in_test None = []
taken_in_test (Some e) = taken e

abbrev pub taken_in_over : Over → List ℕ
taken_in_over (over_int e) = taken e
taken_in_over (over_length x) = []
taken_in_over (over_copy site e x) = taken e
taken_in_over (over_slice e n) = taken e
taken_in_over (over_pointer at e x n) = taken e
taken_in_over (over_pointed x) = []

abbrev pub taken_in_left : Left → List ℕ
taken_in_left blank = []
taken_in_left (new site) = []
taken_in_left (to q) = taken_in_place q

abbrev pub taken_in_lefts : List Left → List ℕ
taken_in_lefts [] = []
taken_in_lefts (l ∷ ls) = taken_in_left l ++ taken_in_lefts ls

abbrev mutual
  pub taken_by : St → List ℕ
  taken_by (declare sites) = []
  taken_by (assign ls es) = taken_in_lefts ls ++ taken_all es
  taken_by (update at q op e) = taken_in_place q ++ taken e
  taken_by (bump at q op) = taken_in_place q
  taken_by (discard es) = taken_all es
  taken_by (block ss) = taken_by_all ss
  taken_by (if_stmt e a b) = taken e ++ (taken_by_all a ++ taken_by_all b)
  taken_by (for_stmt sites test post body) = taken_in_test test ++ (taken_by_all post ++ taken_by_all body)
  taken_by (range over key value body) = taken_in_over over ++ (taken_in_lefts (key ∷ value ∷ []) ++ taken_by_all body)
  taken_by break_stmt = []
  taken_by continue_stmt = []
  taken_by (return_stmt es) = taken_all es
  taken_by (print ln ps) = taken_in_pieces ps
  taken_by (panic at p) = taken_in_piece p
  taken_by (exit at e) = taken e

  pub taken_by_all : Sts → List ℕ
  taken_by_all done = []
  taken_by_all (next s ss) = taken_by s ++ taken_by_all ss

abbrev pub among : ℕ → List ℕ → Bool
among n [] = false
among n (m ∷ ms) = (m == n) || among n ms

-- sites from a number on, where each whose number is among some is marked, besides those that were
abbrev pub marked_from : ℕ → List ℕ → List Site → List Site
marked_from n numbers [] = []
marked_from n numbers (s ∷ ss) = record s { address_taken = s.address_taken || among n numbers } ∷ marked_from (suc n) numbers ss

abbrev pub marked : List ℕ → List Site → List Site
marked numbers sites = marked_from 0 numbers sites
