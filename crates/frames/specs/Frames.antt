-- The words of a frame, from its lowest address: the outgoing area, in which the arguments of a call stand and then its
-- results; the temps that values are worked out in; a cell for each site whose variables live on the heap, which has the address of the
-- newest one; the words of each other site; the link and the return place.
use Rattle.std.specs.Prelude.{ℕ, zero, suc, ◌+◌, ◌&&◌, Bool, true, false, not, List, [], ◌∷◌, Option, Some, None, max, get_or, slice_get, if◌then◌else◌}
use Rattle.frames.specs.Placement.{Placement}
use Rattle.typed_syntax.specs.Types.{TypeTree, ints, width, part_type, part_offset}
use Rattle.typed_syntax.specs.Value.{words}
use Rattle.typed_syntax.specs.Syntax.{Ex, Exs, Pl, Steps, here, inner, at_index, Left, Piece, Over, St, Sts, Func, Program, constant, read, unary, binary, logical_and, logical_or, call, part_of, literal, Elements, no_elements, element, nil, address_of, new_variable, literal_variable, slice_literal, make, append, append_slice, copy, slicing, array_slicing, len, cap, Bound, absent, bound, local, global, indirect, slice_element, none, more, results, read_int, blank, new, to, text, shown, over_int, over_length, over_copy, over_slice, over_pointer, over_pointed, declare, assign, update, bump, discard, block, if_stmt, for_stmt, range, break_stmt, continue_stmt, return_stmt, print, panic, exit, done, next, arguments_of, results_of, type_named, site_type, site_width, place_width, wide, all_wide, ascend}

-- the words of the address of a place, where it is reached by one: of a package variable, of an element of a slice, and of a part by an
-- index that is worked out
abbrev pub steps_far : Steps → ℕ
steps_far here = 0
steps_far (inner i steps) = steps_far steps
steps_far (at_index at e n steps) = 1

abbrev pub far : Pl → ℕ
far (local site steps) = steps_far steps
far (global g steps) = 1
-- the pointer itself is the address of what it leads to
far (indirect at e n steps) = steps_far steps
far (slice_element at e i n steps) = 1

abbrev pub left_far : Left → ℕ
left_far blank = 0
left_far (new site) = 0
left_far (to q) = far q

-- the most of these among left sides
abbrev pub lefts_far : List Left → ℕ
lefts_far [] = 0
lefts_far (l ∷ ls) = max (left_far l) (lefts_far ls)

-- the words of a site in a frame, beside its cell, and its cell; where an expression makes its variables no name asks for the newest one, so it
-- has no cell
abbrev pub stack_words : Placement → List TypeTree → (site : ℕ) → ℕ
stack_words l sites site = if l.on_heap site then 0 else width (get_or sites site ints)

abbrev pub cell_words : Placement → (made : List Bool) → (site : ℕ) → ℕ
cell_words l made site = if l.on_heap site && not (get_or made site false) then 1 else 0

-- those of `count` sites from one on
abbrev pub words_between : Placement → List TypeTree → (from count : ℕ) → ℕ
words_between l sites from zero = 0
words_between l sites from (suc n) = stack_words l sites from + words_between l sites (suc from) n

abbrev pub cells_between : Placement → (made : List Bool) → (from count : ℕ) → ℕ
cells_between l made from zero = 0
cells_between l made from (suc n) = cell_words l made from + cells_between l made (suc from) n

-- words of values, and after them an address, if there is one
abbrev pub behind_values : (values address : ℕ) → ℕ
behind_values values zero = 0
behind_values values (suc address) = values + suc address

module _ (p : Program) where
  -- temps from the one on in which the value lands, and those of values side by side
  abbrev mutual
    pub need : Ex → ℕ
    need (constant v) = words v
    need (read q) = max (place_need q (far q)) (place_width p q)
    need (unary op e) = need e
    need (binary at op a b) = max (need a) (wide p a + need b)
    need (logical_and a b) = max (need a) (need b)
    need (logical_or a b) = max (need a) (need b)
    need (call f es) = max (need_all es) (results_of p f)
    need (part_of n i e) = need e
    need (literal n es) = max (width (type_named p n)) (elements_need (type_named p n) (ascend es) es)
    need (nil t) = width t
    need (address_of q) = max (place_need q (far q)) 1
    need (new_variable site) = 1
    need (literal_variable site e) = max (need e) (wide p e + 1)
    -- the header of a slice stands below the elements, and so does that of one that is made or to which they are added
    need (slice_literal site es) = 3 + need_all es
    need (make at site count room) = max (1 + need count) (max (2 + bound_need room) 3)
    need (append site e es) = max (need e) (3 + need_all es)
    need (append_slice site e s) = max (need e) (3 + need s)
    need (copy n target source) = max (need target) (3 + need source)
    need (slicing at n e low high) = max (need e) (max (3 + bound_need low) (max (4 + bound_need high) 5))
    need (array_slicing at q n low high) = max (max (place_need q (far q)) 1) (max (3 + bound_need low) (max (4 + bound_need high) 5))
    need (len e) = need e
    need (cap e) = need e

    -- a number stands in the place of a bound that is not there
    pub bound_need : Bound → ℕ
    bound_need absent = 1
    bound_need (bound e) = need e

    -- the operands of a place, one after the other, and a number of words after them
    pub place_need : Pl → (behind : ℕ) → ℕ
    place_need (local site steps) behind = steps_need steps behind
    place_need (global g steps) behind = steps_need steps behind
    place_need (indirect at e n steps) behind = max (need e) (1 + steps_need steps behind)
    place_need (slice_element at e i n steps) behind = max (need e) (3 + max (need i) (1 + steps_need steps behind))

    pub steps_need : Steps → (behind : ℕ) → ℕ
    steps_need here behind = behind
    steps_need (inner i steps) behind = steps_need steps behind
    steps_need (at_index at e n steps) behind = max (need e) (1 + steps_need steps behind)

    -- elements of a literal: each stands in its place at once where they come in order, and else after the literal first
    pub elements_need : TypeTree → (in_order : Bool) → Elements → ℕ
    elements_need t in_order no_elements = 0
    elements_need t true (element i e es) = max (part_offset t i + need e) (elements_need t true es)
    elements_need t false (element i e es) = max (width t + need e) (elements_need t false es)

    pub need_all : Exs → ℕ
    need_all none = 0
    need_all (more e es) = max (need e) (wide p e + need_all es)
    need_all (results f es) = max (need_all es) (results_of p f)
    need_all read_int = 2

  -- a string is no value
  abbrev pub piece_need : Piece → ℕ
  piece_need (text number) = 0
  piece_need (shown t e) = need e

  abbrev pub need_pieces : List Piece → ℕ
  need_pieces [] = 0
  need_pieces (text number ∷ ps) = need_pieces ps
  need_pieces (shown t e ∷ ps) = max (need e) (1 + need_pieces ps)

  abbrev pub test_need : Option Ex → ℕ
  test_need None = 0
  test_need (Some e) = need e

  -- the words of the calls inside: of arguments and results together, the most
  abbrev mutual
    pub reach : Ex → ℕ
    reach (constant v) = 0
    reach (read q) = place_reach q 0
    reach (unary op e) = reach e
    reach (binary at op a b) = max (reach a) (reach b)
    reach (logical_and a b) = max (reach a) (reach b)
    reach (logical_or a b) = max (reach a) (reach b)
    reach (call f es) = max (reach_all es) (arguments_of p f + results_of p f)
    reach (part_of n i e) = reach e
    reach (literal n es) = elements_reach es
    reach (nil t) = 0
    reach (address_of q) = place_reach q 0
    reach (new_variable site) = 0
    reach (literal_variable site e) = reach e
    reach (slice_literal site es) = reach_all es
    reach (make at site count room) = max (reach count) (bound_reach room)
    reach (append site e es) = max (reach e) (reach_all es)
    reach (append_slice site e s) = max (reach e) (reach s)
    reach (copy n target source) = max (reach target) (reach source)
    reach (slicing at n e low high) = max (reach e) (max (bound_reach low) (bound_reach high))
    reach (array_slicing at q n low high) = max (place_reach q 0) (max (bound_reach low) (bound_reach high))
    reach (len e) = reach e
    reach (cap e) = reach e

    pub bound_reach : Bound → ℕ
    bound_reach absent = 0
    bound_reach (bound e) = reach e

    -- of the operands of a place, and of what comes with them
    pub place_reach : Pl → (others : ℕ) → ℕ
    place_reach (local site steps) others = steps_reach steps others
    place_reach (global g steps) others = steps_reach steps others
    place_reach (indirect at e n steps) others = max (reach e) (steps_reach steps others)
    place_reach (slice_element at e i n steps) others = max (reach e) (max (reach i) (steps_reach steps others))

    pub steps_reach : Steps → (others : ℕ) → ℕ
    steps_reach here others = others
    steps_reach (inner i steps) others = steps_reach steps others
    steps_reach (at_index at e n steps) others = max (reach e) (steps_reach steps others)

    pub elements_reach : Elements → ℕ
    elements_reach no_elements = 0
    elements_reach (element i e es) = max (reach e) (elements_reach es)

    pub reach_all : Exs → ℕ
    reach_all none = 0
    reach_all (more e es) = max (reach e) (reach_all es)
    reach_all (results f es) = max (reach_all es) (arguments_of p f + results_of p f)
    reach_all read_int = 0

  abbrev pub piece_reach : Piece → ℕ
  piece_reach (text number) = 0
  piece_reach (shown t e) = reach e

  abbrev pub reach_pieces : List Piece → ℕ
  reach_pieces [] = 0
  reach_pieces (text number ∷ ps) = reach_pieces ps
  reach_pieces (shown t e ∷ ps) = max (reach e) (reach_pieces ps)

  abbrev pub test_reach : Option Ex → ℕ
  test_reach None = 0
  test_reach (Some e) = reach e

  abbrev pub over_reach : Over → ℕ
  over_reach (over_int e) = reach e
  over_reach (over_length x) = 0
  over_reach (over_copy site e x) = reach e
  over_reach (over_slice e n) = reach e
  over_reach (over_pointer at e x n) = reach e
  over_reach (over_pointed x) = 0

  -- the operands of left sides, and a number of words after them
  abbrev pub lefts_need : List Left → (behind : ℕ) → ℕ
  lefts_need [] behind = behind
  lefts_need (blank ∷ ls) behind = lefts_need ls behind
  lefts_need (new site ∷ ls) behind = lefts_need ls behind
  lefts_need (to q ∷ ls) behind = place_need q (lefts_need ls behind)

  abbrev pub lefts_reach : List Left → (others : ℕ) → ℕ
  lefts_reach [] others = others
  lefts_reach (blank ∷ ls) others = lefts_reach ls others
  lefts_reach (new site ∷ ls) others = lefts_reach ls others
  lefts_reach (to q ∷ ls) others = place_reach q (lefts_reach ls others)

  -- the words of the widest of some sites: a new round's variables are moved through temps, and so are a function's results
  -- with names
  abbrev pub widest : List ℕ → ℕ
  widest [] = 0
  widest (site ∷ sites) = max (site_width p site) (widest sites)

  -- `range`: the words that it keeps, and what it works with above them
  abbrev pub over_need : Over → ℕ
  over_need (over_int e) = need e
  over_need (over_length x) = 0
  over_need (over_copy site e x) = need e
  over_need (over_slice e n) = need e
  over_need (over_pointer at e x n) = need e
  over_need (over_pointed x) = 0

  abbrev pub hidden : Over → ℕ
  hidden (over_int e) = 2
  hidden (over_length x) = 1
  hidden (over_copy site e x) = 1
  -- the header or the pointer, and the index; a pointer has its word also where it is not worked out
  hidden (over_slice e n) = 4
  hidden (over_pointer at e x n) = 2
  hidden (over_pointed x) = 2

  -- the index that a left side gets, after its operands
  abbrev pub key_need : Left → ℕ
  key_need blank = 0
  key_need (new site) = 1
  key_need (to q) = place_need q (1 + far q)

  -- the words of an element of a site's array
  abbrev pub element_words : ℕ → ℕ
  element_words site = width (part_type (site_type p site) 0)

  -- the words of values that left sides get, after their operands
  abbrev pub pair_need : List Left → (values : ℕ) → ℕ
  pair_need ls values = lefts_need ls (max values (behind_values values (lefts_far ls)))

  -- what a round over elements of so many words gives to left sides: without a second one it is the index alone
  abbrev pub elements_round : (words : ℕ) → (key value : Left) → ℕ
  elements_round words key blank = key_need key
  elements_round words key value = pair_need (key ∷ value ∷ []) (1 + words)

  -- what a round gives to left sides: the index, and the element
  abbrev pub round_need : Over → (key value : Left) → ℕ
  round_need (over_int e) key value = key_need key
  round_need (over_length x) key value = key_need key
  round_need (over_copy site e x) key value = pair_need (key ∷ value ∷ []) (1 + element_words site)
  round_need (over_slice e n) key value = elements_round (width (type_named p n)) key value
  round_need (over_pointer at e x n) key value = pair_need (key ∷ value ∷ []) (1 + width (type_named p n))
  round_need (over_pointed x) key value = key_need key

  abbrev mutual
    pub st_need : (named : List ℕ) → St → ℕ
    st_need named (declare sites) = 0
    st_need named (assign ls es) = lefts_need ls (max (need_all es) (behind_values (all_wide p es) (lefts_far ls)))
    st_need named (update at q op e) = place_need q (far q + 1 + need e)
    st_need named (bump at q op) = place_need q (far q + 2)
    st_need named (discard es) = need_all es
    st_need named (block ss) = sts_need named ss
    st_need named (if_stmt e a b) = max (need e) (max (sts_need named a) (sts_need named b))
    st_need named (for_stmt sites test post body) = max (max (test_need test) (widest sites)) (max (sts_need named post) (sts_need named body))
    st_need named (range over key value body) = max (over_need over) (max (hidden over + 2) (max (hidden over + round_need over key value) (hidden over + sts_need named body)))
    st_need named break_stmt = 0
    st_need named continue_stmt = 0
    st_need named (return_stmt es) = max (need_all es) (widest named)
    st_need named (print ln ps) = need_pieces ps
    st_need named (panic at q) = piece_need q
    st_need named (exit at e) = need e

    pub sts_need : (named : List ℕ) → Sts → ℕ
    sts_need named done = 0
    sts_need named (next s ss) = max (st_need named s) (sts_need named ss)

  abbrev mutual
    pub st_reach : St → ℕ
    st_reach (declare sites) = 0
    st_reach (assign ls es) = lefts_reach ls (reach_all es)
    st_reach (update at q op e) = place_reach q (reach e)
    st_reach (bump at q op) = place_reach q 0
    st_reach (discard es) = reach_all es
    st_reach (block ss) = sts_reach ss
    st_reach (if_stmt e a b) = max (reach e) (max (sts_reach a) (sts_reach b))
    st_reach (for_stmt sites test post body) = max (test_reach test) (max (sts_reach post) (sts_reach body))
    st_reach (range over key value body) = max (over_reach over) (lefts_reach (key ∷ value ∷ []) (sts_reach body))
    st_reach break_stmt = 0
    st_reach continue_stmt = 0
    st_reach (return_stmt es) = reach_all es
    st_reach (print ln ps) = reach_pieces ps
    st_reach (panic at q) = piece_reach q
    st_reach (exit at e) = reach e

    pub sts_reach : Sts → ℕ
    sts_reach done = 0
    sts_reach (next s ss) = max (st_reach s) (sts_reach ss)

  -- the outgoing area of a function
  abbrev pub outgoing_of : Func → ℕ
  outgoing_of f = sts_reach f.body

-- at the entry of a function, its parameters whose variables live on the heap go through temps
abbrev pub entry_need : Placement → List (Option ℕ) → List TypeTree → ℕ
entry_need l [] ts = 0
entry_need l (q ∷ ps) [] = 0
entry_need l (None ∷ ps) (t ∷ ts) = entry_need l ps ts
entry_need l (Some site ∷ ps) (t ∷ ts) = max (if l.on_heap site then width t else 0) (entry_need l ps ts)

module _ (p : Program) (l : Placement) where
  -- the temps of a function, which gives back its results with names through temps, and the words of its frame
  abbrev pub temps_of : Func → ℕ
  temps_of f = max (entry_need l f.params f.param_types) (max (widest p f.named) (sts_need p f.named f.body))

  abbrev pub frame_of : Func → ℕ
  frame_of f = 2 + words_between l p.sites f.first f.count + cells_between l p.made f.first f.count + temps_of f + outgoing_of p f

  abbrev pub frame_in : Option Func → ℕ
  frame_in None = 0
  frame_in (Some f) = frame_of f

-- the words of the frame of a program's function, by its number
abbrev pub frame_words : Program → Placement → ℕ → ℕ
frame_words p l f = frame_in p l (slice_get p.funcs f)
