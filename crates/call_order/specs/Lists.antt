-- The calls of a body as a list, in the order of the text.
use Rattle.std.specs.Prelude.{ℕ, List, [], ◌∷◌, ◌++◌, Option, Some, None, map}
use Rattle.typed_syntax.specs.Syntax.{Ex, Exs, Pl, Steps, local, global, indirect, slice_element, nil, address_of, new_variable, literal_variable, slice_literal, make, append, append_slice, copy, slicing, array_slicing, len, cap, Bound, absent, bound, here, inner, at_index, Left, blank, new, to, Piece, Over, St, Sts, Func, constant, read, unary, binary, logical_and, logical_or, call, part_of, literal, Elements, no_elements, element, none, more, results, read_int, text, shown, over_int, over_length, over_copy, over_slice, over_pointer, over_pointed, declare, assign, update, bump, discard, block, if_stmt, for_stmt, range, break_stmt, continue_stmt, return_stmt, print, panic, exit, done, next}

abbrev mutual
  pub called : Ex → List ℕ
  called (constant v) = []
  called (read q) = called_in_place q
  called (unary op e) = called e
  called (binary at op a b) = called a ++ called b
  called (logical_and a b) = called a ++ called b
  called (logical_or a b) = called a ++ called b
  called (call f es) = f ∷ called_all es
  called (part_of n i e) = called e
  called (literal n es) = called_in_elements es
  called (nil n) = []
  called (address_of q) = called_in_place q
  called (new_variable site) = []
  called (literal_variable site e) = called e
  called (slice_literal site es) = called_all es
  called (make at site count room) = called count ++ called_in_bound room
  called (append site e es) = called e ++ called_all es
  called (append_slice site a b) = called a ++ called b
  called (copy n a b) = called a ++ called b
  called (slicing at n e low high) = called e ++ (called_in_bound low ++ called_in_bound high)
  called (array_slicing at q n low high) = called_in_place q ++ (called_in_bound low ++ called_in_bound high)
  called (len e) = called e
  called (cap e) = called e

  pub called_in_bound : Bound → List ℕ
  called_in_bound absent = []
  called_in_bound (bound e) = called e

  -- in the operands of a place; those of its indices come first, since the order is no matter
  pub called_in_place : Pl → List ℕ
  called_in_place (local site steps) = called_in_steps steps
  called_in_place (global number steps) = called_in_steps steps
  called_in_place (indirect at e n steps) = called_in_steps steps ++ called e
  called_in_place (slice_element at e i n steps) = called_in_steps steps ++ (called e ++ called i)

  pub called_in_steps : Steps → List ℕ
  called_in_steps here = []
  called_in_steps (inner i steps) = called_in_steps steps
  called_in_steps (at_index at e n steps) = called e ++ called_in_steps steps

  pub called_in_elements : Elements → List ℕ
  called_in_elements no_elements = []
  called_in_elements (element i e es) = called e ++ called_in_elements es

  pub called_all : Exs → List ℕ
  called_all none = []
  called_all (more e es) = called e ++ called_all es
  called_all (results f es) = f ∷ called_all es
  called_all read_int = []

abbrev pub called_in_piece : Piece → List ℕ
called_in_piece (text number) = []
called_in_piece (shown t e) = called e

abbrev pub called_in_pieces : List Piece → List ℕ
called_in_pieces [] = []
called_in_pieces (p ∷ ps) = called_in_piece p ++ called_in_pieces ps

abbrev pub called_in_test : Option Ex → List ℕ
called_in_test None = []
called_in_test (Some e) = called e

abbrev pub called_in_over : Over → List ℕ
called_in_over (over_int e) = called e
called_in_over (over_length x) = []
called_in_over (over_copy site e x) = called e
called_in_over (over_slice e n) = called e
called_in_over (over_pointer at e x n) = called e
called_in_over (over_pointed x) = []

abbrev pub called_in_left : Left → List ℕ
called_in_left blank = []
called_in_left (new site) = []
called_in_left (to q) = called_in_place q

abbrev pub called_in_lefts : List Left → List ℕ
called_in_lefts [] = []
called_in_lefts (l ∷ ls) = called_in_left l ++ called_in_lefts ls

abbrev mutual
  pub called_by : St → List ℕ
  called_by (declare sites) = []
  called_by (assign ls es) = called_in_lefts ls ++ called_all es
  called_by (update at q op e) = called_in_place q ++ called e
  called_by (bump at q op) = called_in_place q
  called_by (discard es) = called_all es
  called_by (block ss) = called_by_all ss
  called_by (if_stmt e a b) = called e ++ (called_by_all a ++ called_by_all b)
  called_by (for_stmt sites test post body) = called_in_test test ++ (called_by_all post ++ called_by_all body)
  called_by (range over key value body) = called_in_over over ++ (called_in_lefts (key ∷ value ∷ []) ++ called_by_all body)
  called_by break_stmt = []
  called_by continue_stmt = []
  called_by (return_stmt es) = called_all es
  called_by (print ln ps) = called_in_pieces ps
  called_by (panic at p) = called_in_piece p
  called_by (exit at e) = called e

  pub called_by_all : Sts → List ℕ
  called_by_all done = []
  called_by_all (next s ss) = called_by s ++ called_by_all ss

-- the calls of each function
abbrev pub call_lists : List Func → List (List ℕ)
call_lists fs = map (λ f. called_by_all f.body) fs
