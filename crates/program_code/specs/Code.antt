-- The code of a program: a table of each function's instructions, one function after the other.
use Rattle.std.specs.Prelude.{ℕ, zero, suc, ◌+◌, ◌-◌, Bool, true, false, ◌||◌, if◌then◌else◌, List, [], ◌∷◌, ◌++◌, Option, Some, None, length, map, replicate, get_or}
use Rattle.std.specs.Int.{w64, cast_unsigned}
use Rattle.isa.specs.Bin.{bit_of}
use Rattle.isa.specs.Code.{Tables}
use Rattle.isa.specs.declared.instr.BinOp.{BinOp}
use Rattle.isa.specs.declared.instr.BinOp.TheVariants as Word
use Rattle.isa.specs.declared.instr.UnOp.TheVariants as WordOne
use Rattle.isa.specs.declared.instr.Direction.TheVariants.{ToSlots, FromSlots}
use Rattle.isa.specs.declared.instr.MoveEvent.TheVariants.{Silent, Read, Write}
use Rattle.isa.specs.declared.instr.Sameness.TheVariants as Wanted
use Rattle.isa.specs.declared.instr.Added.TheVariants as added
use Rattle.isa.specs.declared.instr.StoreEvent.TheVariants as Stored
use Rattle.isa.specs.declared.instr.Instr.{Instr}
use Rattle.isa.specs.declared.instr.Instr.TheVariants.{Const, Zero, Move, Same, Bin, Un, Jump, JumpZero, Call, Incoming, Load, Store, Address, Offset, Index, SliceIndex, Slice, Born, Alloc, Make, Append, Copy, ReadInt, PrintInt, PrintBool, PrintText, PrintSpace, PrintLine, Return, Exit, PanicText, PanicInt, PanicBool}
use Rattle.isa.specs.declared.func.Func.{Func as Entry}
use Rattle.typed_syntax.specs.declared.operators.BinOp.{BinOp as Operator}
use Rattle.typed_syntax.specs.declared.operators.BinOp.TheVariants.{Add, Sub, Mul, Div, Rem, And, Or, Xor, AndNot, ShiftLeft, ShiftRight, Equal, NotEqual, Less, LessEqual, Greater, GreaterEqual}
use Rattle.typed_syntax.specs.declared.operators.UnOp.{UnOp}
use Rattle.typed_syntax.specs.declared.operators.UnOp.TheVariants as One
use Rattle.typed_syntax.specs.Types.{TypeTree, ints, bools, width, part_type, part_offset}
use Rattle.typed_syntax.specs.Value.{Value, int, bool}
use Rattle.typed_syntax.specs.Paths.{type_at, offset}
use Rattle.typed_syntax.specs.Syntax.{Ex, Exs, Pl, Steps, here, inner, at_index, Left, Piece, St, Sts, Func, Program, constant, read, unary, binary, logical_and, logical_or, call, part_of, literal, Elements, no_elements, element, nil, address_of, new_variable, literal_variable, slice_literal, make, append, append_slice, copy, slicing, array_slicing, len, cap, Bound, absent, bound, local, global, indirect, slice_element, none, more, results, read_int, blank, new, to, text, shown, over_int, over_length, over_copy, over_slice, over_pointer, over_pointed, declare, assign, update, bump, discard, block, if_stmt, for_stmt, range, break_stmt, continue_stmt, return_stmt, print, panic, exit, done, next, argument_words, result_words, arguments_of, results_of, type_named, path_of, wide, all_wide, each_width, value_widths, ascend, words_through, gap_behind}
use Rattle.frames.specs.Placement.{Placement}
use Rattle.frames.specs.Frames.{far, words_between, cells_between, outgoing_of, temps_of, frame_of}
use Rattle.heap_bump.specs.Words.{first_address}

abbrev pub operation : Operator → BinOp
operation Add = Word.Add
operation Sub = Word.Sub
operation Mul = Word.Mul
operation Div = Word.Div
operation Rem = Word.Rem
operation And = Word.And
operation Or = Word.Or
operation Xor = Word.Xor
operation AndNot = Word.AndNot
operation ShiftLeft = Word.ShiftLeft
operation ShiftRight = Word.ShiftRight
operation Equal = Word.Equal
operation NotEqual = Word.NotEqual
operation Less = Word.Less
operation LessEqual = Word.LessEqual
operation Greater = Word.Greater
operation GreaterEqual = Word.GreaterEqual

-- whether n words from slot a on are those from slot b on goes to slot a
abbrev pub same_code : (n a b : ℕ) → Instr
same_code (suc zero) a b = Bin Word.Equal a a b
same_code n a b = Same Wanted.Equal a a b n

abbrev pub differ_code : (n a b : ℕ) → Instr
differ_code (suc zero) a b = Bin Word.NotEqual a a b
differ_code n a b = Same Wanted.Different a a b n

-- how many words of two operands are compared; of a slice and `nil` it is the first, an address
abbrev pub is_nil : Ex → Bool
is_nil (nil t) = true
is_nil e = false

abbrev pub compared : Program → Ex → Ex → ℕ
compared p a b = if is_nil a || is_nil b then 1 else wide p a

-- an operator on operands of n words, from slots a and b on; what it gives goes to slot a
abbrev pub binary_code : Operator → (n a b : ℕ) → Instr
binary_code Equal n a b = same_code n a b
binary_code NotEqual n a b = differ_code n a b
binary_code op n a b = Bin (operation op) a a b

abbrev pub unary_code : UnOp → ℕ → Instr
unary_code One.Plus a = Move Silent a a 1
unary_code One.Negate a = Un WordOne.Negate a a
unary_code One.Complement a = Un WordOne.Complement a a
unary_code One.Not a = Un WordOne.IsZero a a

-- the word of a number or a truth value
abbrev pub word_of : Value → ℕ
word_of (int z) = cast_unsigned w64 z
word_of (bool b) = bit_of b
word_of v = 0

-- The slots of a frame, from its lowest word: the outgoing area, the temps, of `count` sites from this one on the cells of those whose
-- variables live on the heap (but for what expressions make) and then the others, each with the words of its type; above them the link and
-- the return place. The package variables, by their sites, stand in the heap. The program's types go by their numbers.
pub record Slots : Type 0 where
  pub outgoing : ℕ
  pub temps : ℕ
  pub first : ℕ
  pub count : ℕ
  pub placement : Placement
  pub types : List TypeTree
  pub sites : List TypeTree
  pub made : List Bool
  pub globals : List ℕ

abbrev pub temp : Slots → ℕ → ℕ
temp s h = s.outgoing + h

-- the cell of a site, and the first slot of one whose variables live in the frame
abbrev pub cell_slot : Slots → ℕ → ℕ
cell_slot s site = s.outgoing + s.temps + cells_between s.placement s.made s.first (site - s.first)

abbrev pub site_slot : Slots → ℕ → ℕ
site_slot s site = s.outgoing + s.temps + cells_between s.placement s.made s.first s.count + words_between s.placement s.sites s.first (site - s.first)

abbrev pub site_type : Slots → ℕ → TypeTree
site_type s site = get_or s.sites site ints

abbrev pub site_words : Slots → ℕ → ℕ
site_words s site = width (site_type s site)

-- the first slot of a part of a site, and its words
abbrev pub part_slot : Slots → ℕ → List ℕ → ℕ
part_slot s site path = site_slot s site + offset (site_type s site) path

abbrev pub part_words : Slots → ℕ → List ℕ → ℕ
part_words s site path = width (type_at (site_type s site) path)

-- slots from a on get zeros
abbrev pub zeros : (n a : ℕ) → Instr
zeros (suc zero) a = Const a 0
zeros n a = Zero a n

-- zeros go to slots from a on, if there are any
abbrev pub gap_code : (n a : ℕ) → List Instr
gap_code zero a = []
gap_code (suc n) a = zeros (suc n) a ∷ []

abbrev pub gap_size : ℕ → ℕ
gap_size zero = 0
gap_size (suc n) = 1

-- where the words are that an instruction reads or writes: in slots of the frame from one on, or behind the address in a slot
pub data Access : Type 0 where
  in_slots : (slot : ℕ) → Access
  by_address : (slot : ℕ) → Access

-- those of a variable of a site, from its beginning
abbrev pub site_access : Slots → (site : ℕ) → Access
site_access s site = if s.placement.on_heap site then by_address (cell_slot s site) else in_slots (site_slot s site)

-- n words of the part that lies `off` behind it go to slots from a on; they are those of slots from c on; and the address of the part goes
-- to slot a
abbrev pub fetch : Access → (off n a : ℕ) → Instr
fetch (in_slots slot) off n a = Move Read a (slot + off) n
fetch (by_address slot) off n a = Load a slot off n

abbrev pub land : Access → (off n c : ℕ) → Instr
land (in_slots slot) off n c = Move Write (slot + off) c n
land (by_address slot) off n c = Store Stored.Write slot off c n

abbrev pub point : Access → (off a : ℕ) → Instr
point (in_slots slot) off a = Address a (slot + off)
point (by_address slot) off a = Offset a slot off

-- a new variable gets its words from slots from c on
abbrev pub fill : Access → (n c : ℕ) → Instr
fill (in_slots slot) n c = Move Silent slot c n
fill (by_address slot) n c = Store Stored.Silent slot 0 c n

-- a variable of a site is born, in its slots, or on the heap with its address in the cell; and one gets its value from temps from h on
abbrev pub born_code : Slots → (site : ℕ) → Instr
born_code s site = if s.placement.on_heap site then Alloc (cell_slot s site) (site_words s site) site else Born (site_slot s site) (site_words s site) site

abbrev pub fill_code : Slots → (site h : ℕ) → Instr
fill_code s site h = fill (site_access s site) (site_words s site) (temp s h)

abbrev pub birth_code : Slots → (site h : ℕ) → List Instr
birth_code s site h = born_code s site ∷ fill_code s site h ∷ []

-- a variable of a site, which has no name, is born on the heap and gets the words of temps from h on, and its address goes there, by temp `at`
abbrev pub new_code : Slots → (site at h : ℕ) → List Instr
new_code s site at h =
    let n = site_words s site in
    Alloc (temp s at) n site ∷ Store Stored.Silent (temp s at) 0 (temp s h) n ∷ Move Silent (temp s h) (temp s at) 1 ∷ []

-- of a slice whose n elements, of so many words together, are in temps from h + 3 on: an array of a site is born on the heap and gets them,
-- and the header goes to temps from h on
abbrev pub elements_put : Slots → (words h : ℕ) → List Instr
elements_put s zero h = []
elements_put s (suc n) h = Store Stored.Silent (temp s h) 0 (temp s (h + 3)) (suc n) ∷ []

abbrev pub sliced_code : Slots → (site n words h : ℕ) → List Instr
sliced_code s site n words h = Alloc (temp s h) words site ∷ (elements_put s words h ++ (Const (temp s (h + 1)) n ∷ Const (temp s (h + 2)) n ∷ []))

-- n elements in temps from h + 3 on are put behind those of the slice with its header in temps from h on
abbrev pub append_code : Slots → (site n h : ℕ) → Instr
append_code s site zero h = Move Silent (temp s h) (temp s h) 3
append_code s site (suc n) h = Append added.Slots (temp s h) (temp s h) (temp s (h + 3)) (suc n) (site_words s site) site

-- what stands in the place of a capacity and of bounds that are not there: the length in temp h + 1, and 0
abbrev pub room_code : Slots → Bound → (h : ℕ) → List Instr
room_code s absent h = Move Silent (temp s (h + 2)) (temp s (h + 1)) 1 ∷ []
room_code s (bound e) h = []

abbrev pub low_code : Slots → Bound → (h : ℕ) → List Instr
low_code s absent h = Const (temp s (h + 3)) 0 ∷ []
low_code s (bound e) h = []

abbrev pub high_code : Slots → Bound → (h : ℕ) → List Instr
high_code s absent h = Move Silent (temp s (h + 4)) (temp s (h + 1)) 1 ∷ []
high_code s (bound e) h = []

-- the header of a part of a slice of elements of w words, whose header is in temps from h on, its bounds behind it
abbrev pub cut_code : Slots → (low high : Bound) → (w h : ℕ) → List Instr
cut_code s low high w h = low_code s low h ++ (high_code s high h ++ Slice (temp s h) (temp s h) (temp s (h + 3)) w ∷ [])

-- the length and the capacity of a slice of a whole array of x elements
abbrev pub whole_code : Slots → (x h : ℕ) → List Instr
whole_code s x h = Const (temp s (h + 1)) x ∷ Const (temp s (h + 2)) x ∷ []

-- the type of a package variable
abbrev pub global_type : Slots → ℕ → TypeTree
global_type s g = site_type s (get_or s.globals g 0)

-- the words of the first variables of some sites together
abbrev pub globals_before : List TypeTree → List ℕ → ℕ → ℕ
globals_before sites [] g = 0
globals_before sites (x ∷ xs) zero = 0
globals_before sites (x ∷ xs) (suc g) = width (get_or sites x ints) + globals_before sites xs g

-- package variables stand one after the other from the heap's first word on
abbrev pub global_address : Slots → ℕ → ℕ
global_address s g = first_address + globals_before s.sites s.globals g

-- the first temp above the operands of a place, which are in temps from h on, and that above an address, if there is one
abbrev pub steps_above : Steps → (h : ℕ) → ℕ
steps_above here h = h
steps_above (inner i steps) h = steps_above steps h
steps_above (at_index p e n steps) h = steps_above steps (h + 1)

abbrev pub place_above : Pl → (h : ℕ) → ℕ
place_above (local site steps) h = steps_above steps h
place_above (global g steps) h = steps_above steps h
place_above (indirect at e n steps) h = steps_above steps (h + 1)
-- the header of the slice and the index
place_above (slice_element at e i n steps) h = steps_above steps (h + 4)

abbrev pub above_address : (far at : ℕ) → ℕ
above_address zero at = at
above_address (suc n) at = at + 1

abbrev pub lefts_above : List Left → (h : ℕ) → ℕ
lefts_above [] h = h
lefts_above (blank ∷ ls) h = lefts_above ls h
lefts_above (new site ∷ ls) h = lefts_above ls h
lefts_above (to q ∷ ls) h = lefts_above ls (place_above q h)

-- the address of an array, in temp `at`, becomes that of an element, for each index among the steps; these are in temps from
-- `first` on. What lies before fields and elements by their numbers is added by the one who reads or writes.
abbrev pub index_code : Slots → TypeTree → Steps → (first at : ℕ) → List Instr
index_code s t here first at = []
index_code s t (inner i steps) first at = index_code s (part_type t i) steps first at
index_code s t (at_index p e n steps) first at =
    Index (temp s at) (temp s at) (temp s first) n (width (part_type t 0)) ∷ index_code s (part_type t 0) steps (first + 1) at

abbrev pub index_count : Steps → ℕ
index_count here = 0
index_count (inner i steps) = index_count steps
index_count (at_index p e n steps) = suc (index_count steps)

-- the type of what a place begins at: a variable of a site or of the package, or what a pointer leads to; and the part's words, and those
-- before it that its indices don't count
abbrev pub root_type : Slots → Pl → TypeTree
root_type s (local site steps) = site_type s site
root_type s (global g steps) = global_type s g
root_type s (indirect at e n steps) = get_or s.types n ints
root_type s (slice_element at e i n steps) = get_or s.types n ints

abbrev pub steps_of : Pl → Steps
steps_of (local site steps) = steps
steps_of (global g steps) = steps
steps_of (indirect at e n steps) = steps
steps_of (slice_element at e i n steps) = steps

abbrev pub near_offset : Slots → Pl → ℕ
near_offset s q = offset (root_type s q) (path_of (steps_of q))

abbrev pub near_words : Slots → Pl → ℕ
near_words s q = width (type_at (root_type s q) (path_of (steps_of q)))

-- the words of an element of the array at a place
abbrev pub element_words : Slots → Pl → ℕ
element_words s q = width (part_type (type_at (root_type s q) (path_of (steps_of q))) 0)

-- the address at which a place begins, where it is reached by one, goes to temp `at`; the operands are in temps from `first` on
abbrev pub local_root : Slots → (site at : ℕ) → Instr
local_root s site at = if s.placement.on_heap site then Move Silent (temp s at) (cell_slot s site) 1 else Address (temp s at) (site_slot s site)

abbrev pub root_code : Slots → Pl → (first at : ℕ) → List Instr
root_code s (local site steps) first at = local_root s site at ∷ []
root_code s (global g steps) first at = Const (temp s at) (global_address s g) ∷ []
root_code s (indirect p e n steps) first at = Offset (temp s at) (temp s first) 0 ∷ []
root_code s (slice_element p e i n steps) first at = SliceIndex (temp s at) (temp s first) (temp s (first + 3)) (width (get_or s.types n ints)) ∷ []

-- where its indices begin
abbrev pub indices_from : Pl → (first : ℕ) → ℕ
indices_from (local site steps) first = first
indices_from (global g steps) first = first
indices_from (indirect at e n steps) first = first + 1
indices_from (slice_element at e i n steps) first = first + 4

-- and the address of the part, by its indices
abbrev pub far_code : Slots → Pl → (far first at : ℕ) → List Instr
far_code s q zero first at = []
far_code s q (suc n) first at = root_code s q first at ++ index_code s (root_type s q) (steps_of q) (indices_from q first) at

abbrev pub address_code : Slots → Pl → (first at : ℕ) → List Instr
address_code s q first at = far_code s q (far q) first at

abbrev pub far_size : (far : ℕ) → Steps → ℕ
far_size zero steps = 0
far_size (suc n) steps = suc (index_count steps)

abbrev pub address_size : Pl → ℕ
address_size q = far_size (far q) (steps_of q)

-- from where the words of a place are reached: without an index from where it begins, and else from the address in temp `at`
abbrev pub near_access : Slots → Pl → (first : ℕ) → Access
near_access s (local site steps) first = site_access s site
near_access s (indirect p e n steps) first = by_address (temp s first)
near_access s q first = in_slots 0

abbrev pub access_by : Slots → Pl → (far first at : ℕ) → Access
access_by s q zero first at = near_access s q first
access_by s q (suc n) first at = by_address (temp s at)

abbrev pub access : Slots → Pl → (first at : ℕ) → Access
access s q first at = access_by s q (far q) first at

-- the words of a place go to temps from h on, it gets those of temps from h on, and its address goes to temp h
abbrev pub fetch_code : Slots → Pl → (first at h : ℕ) → Instr
fetch_code s q first at h = fetch (access s q first at) (near_offset s q) (near_words s q) (temp s h)

abbrev pub land_code : Slots → Pl → (first at h : ℕ) → Instr
land_code s q first at h = land (access s q first at) (near_offset s q) (near_words s q) (temp s h)

abbrev pub point_code : Slots → Pl → (first at h : ℕ) → Instr
point_code s q first at h = point (access s q first at) (near_offset s q) (temp s h)

-- the operands of a place are in temps from h on, and its words, or its address, go there; temp `at`, above them, is free for the address
abbrev pub read_code : Slots → Pl → (at h : ℕ) → List Instr
read_code s q at h = address_code s q h at ++ fetch_code s q h at h ∷ []

abbrev pub pointing_code : Slots → Pl → (at h : ℕ) → List Instr
pointing_code s q at h = address_code s q h at ++ point_code s q h at h ∷ []

-- its operands are in temps from `first` on
abbrev pub write_code : Slots → Pl → (first at h : ℕ) → List Instr
write_code s q first at h = address_code s q first at ++ land_code s q first at h ∷ []

-- n words go from slots from b on to slots from a on
abbrev pub move_code : (n a b : ℕ) → List Instr
move_code zero a b = []
move_code (suc n) a b = Move Silent a b (suc n) ∷ []

abbrev pub move_size : ℕ → ℕ
move_size zero = 0
move_size (suc n) = 1

-- n values in slots from a on are the results from incoming word b on
abbrev pub result_code : (n a b : ℕ) → List Instr
result_code zero a b = []
result_code (suc n) a b = Incoming FromSlots a b (suc n) ∷ []

-- a value of a type in a slot is shown, and a panic with it
abbrev pub shown_code : TypeTree → (a : ℕ) → Instr
shown_code bools a = PrintBool a
shown_code t a = PrintInt a

abbrev pub raised_code : TypeTree → (a : ℕ) → Instr
raised_code bools a = PanicBool a
raised_code t a = PanicInt a

-- the operands, those that are values in temps from h on, are shown, each with a space before it
abbrev pub show_more : Slots → List Piece → ℕ → List Instr
show_more s [] h = PrintLine ∷ []
show_more s (text number ∷ ps) h = PrintSpace ∷ PrintText number ∷ show_more s ps h
show_more s (shown t e ∷ ps) h = PrintSpace ∷ shown_code t (temp s h) ∷ show_more s ps (h + 1)

-- a line of them
abbrev pub show_line : Slots → List Piece → ℕ → List Instr
show_line s [] h = PrintLine ∷ []
show_line s (text number ∷ ps) h = PrintText number ∷ show_more s ps h
show_line s (shown t e ∷ ps) h = shown_code t (temp s h) ∷ show_more s ps (h + 1)

-- without spaces and a newline
abbrev pub show_plain : Slots → List Piece → ℕ → List Instr
show_plain s [] h = []
show_plain s (text number ∷ ps) h = PrintText number ∷ show_plain s ps h
show_plain s (shown t e ∷ ps) h = shown_code t (temp s h) ∷ show_plain s ps (h + 1)

abbrev pub show_code : Slots → Bool → List Piece → ℕ → List Instr
show_code s true ps h = show_line s ps h
show_code s false ps h = show_plain s ps h

-- the first of some numbers of words, and the others
abbrev pub first_width : List ℕ → ℕ
first_width [] = 0
first_width (n ∷ ns) = n

abbrev pub other_widths : List ℕ → List ℕ
other_widths [] = []
other_widths (n ∷ ns) = ns

-- left sides, with operands in temps from `first` on, get the values, of as many words each as the list says, in temps from h on; an address
-- goes to temp `at`
abbrev pub lefts_code : Slots → (each : List ℕ) → List Left → (first at h : ℕ) → List Instr
lefts_code s ns [] first at h = []
lefts_code s ns (blank ∷ ls) first at h = lefts_code s (other_widths ns) ls first at (h + first_width ns)
lefts_code s ns (new site ∷ ls) first at h = birth_code s site h ++ lefts_code s (other_widths ns) ls first at (h + first_width ns)
lefts_code s ns (to p ∷ ls) first at h = write_code s p first at h ++ lefts_code s (other_widths ns) ls (place_above p first) at (h + first_width ns)

abbrev pub lefts_size : List Left → ℕ
lefts_size [] = 0
lefts_size (blank ∷ ls) = lefts_size ls
lefts_size (new site ∷ ls) = suc (suc (lefts_size ls))
lefts_size (to p ∷ ls) = address_size p + 1 + lefts_size ls

-- results with names: they get the values in temps from h on, and are the results from incoming word i on
abbrev pub named_write_code : Slots → List ℕ → (h : ℕ) → List Instr
named_write_code s [] h = []
named_write_code s (site ∷ sites) h = land (site_access s site) 0 (site_words s site) (temp s h) ∷ named_write_code s sites (h + site_words s site)

abbrev pub named_read_code : Slots → List ℕ → (i : ℕ) → List Instr
named_read_code s [] i = []
named_read_code s (site ∷ sites) i = fetch (site_access s site) 0 (site_words s site) (temp s 0) ∷ Incoming FromSlots (temp s 0) i (site_words s site) ∷ named_read_code s sites (i + site_words s site)

abbrev pub named_read_size : List ℕ → ℕ
named_read_size [] = 0
named_read_size (site ∷ sites) = suc (suc (named_read_size sites))

-- the end of a body, and what stands before it where there are n words of values in temps from h on
abbrev pub leave_code : Slots → (arguments : ℕ) → List ℕ → List Instr
leave_code s arguments named = named_read_code s named arguments ++ Return ∷ []

abbrev pub leave_size : List ℕ → ℕ
leave_size named = named_read_size named + 1

abbrev pub values_code : Slots → (arguments n : ℕ) → List ℕ → (h : ℕ) → List Instr
values_code s arguments n [] h = result_code n (temp s h) arguments
values_code s arguments zero (site ∷ sites) h = []
values_code s arguments (suc n) (site ∷ sites) h = named_write_code s (site ∷ sites) h

abbrev pub values_size : (n : ℕ) → List ℕ → ℕ
values_size n [] = move_size n
values_size zero (site ∷ sites) = 0
values_size (suc n) (site ∷ sites) = length (site ∷ sites)

-- a parameter is born and gets n incoming words from i on, through temps where its variables live on the heap
abbrev pub param_by : (apart : Bool) → Slots → (site i n : ℕ) → List Instr
param_by true s site i n = born_code s site ∷ Incoming ToSlots (temp s 0) i n ∷ Store Stored.Silent (cell_slot s site) 0 (temp s 0) n ∷ []
param_by false s site i n = born_code s site ∷ Incoming ToSlots (site_slot s site) i n ∷ []

abbrev pub param_code : Slots → (site i n : ℕ) → List Instr
param_code s site i n = param_by (s.placement.on_heap site) s site i n

-- parameters of as many words each as the list says, those with sites, get the incoming words from i on
abbrev pub params_code : Slots → (each : List ℕ) → List (Option ℕ) → (i : ℕ) → List Instr
params_code s ns [] i = []
params_code s ns (None ∷ ps) i = params_code s (other_widths ns) ps (i + first_width ns)
params_code s ns (Some site ∷ ps) i = param_code s site i (first_width ns) ++ params_code s (other_widths ns) ps (i + first_width ns)

-- variables with zeros are born
abbrev pub zeros_code : Slots → List ℕ → List Instr
zeros_code s [] = []
zeros_code s (site ∷ sites) = born_code s site ∷ zeros_code s sites

-- a new round's variables get the words of the old ones, through temps from h on
abbrev pub renew_code : Slots → List ℕ → (h : ℕ) → List Instr
renew_code s [] h = []
renew_code s (site ∷ sites) h = fetch (site_access s site) 0 (site_words s site) (temp s h) ∷ (birth_code s site h ++ renew_code s sites h)

abbrev pub renew_size : List ℕ → ℕ
renew_size [] = 0
renew_size (site ∷ sites) = suc (suc (suc (renew_size sites)))

abbrev pub param_size : (apart : Bool) → ℕ
param_size true = 3
param_size false = 2

abbrev pub params_size : Placement → List (Option ℕ) → ℕ
params_size l [] = 0
params_size l (None ∷ ps) = params_size l ps
params_size l (Some site ∷ ps) = param_size (l.on_heap site) + params_size l ps

-- how many instructions show operands
abbrev pub more_size : List Piece → ℕ
more_size [] = 1
more_size (p ∷ ps) = suc (suc (more_size ps))

abbrev pub shown_size : Bool → List Piece → ℕ
shown_size true [] = 1
shown_size true (p ∷ ps) = suc (more_size ps)
shown_size false ps = length ps

-- the index in temp h goes to temp v, and the element of a site's array, of x elements, after it
abbrev pub element_code : Slots → (site x h v : ℕ) → List Instr
element_code s site x h v =
    let a = temp s (v + 1) in let w = width (part_type (site_type s site) 0) in
    Move Silent (temp s v) (temp s h) 1 ∷ (local_root s site (v + 1) ∷ (Index a a (temp s h) x w ∷ (Load a a 0 w ∷ [])))

-- the index in temp h + 1 goes to temp v, and after it the element of the array of x elements, of w words each, that the pointer in temp h
-- leads to
abbrev pub pointed_code : Slots → (x w h v : ℕ) → List Instr
pointed_code s x w h v =
    let a = temp s (v + 1) in
    Move Silent (temp s v) (temp s (h + 1)) 1 ∷ (Index a (temp s h) (temp s (h + 1)) x w ∷ (Load a a 0 w ∷ []))

-- the index in temp h + 3 goes to temp v, and after it the element, of w words, of the slice whose header is in temps from h on
abbrev pub sliced_element_code : Slots → (w h v : ℕ) → List Instr
sliced_element_code s w h v =
    let a = temp s (v + 1) in
    Move Silent (temp s v) (temp s (h + 3)) 1 ∷ (SliceIndex a (temp s h) (temp s (h + 3)) w ∷ (Load a a 0 w ∷ []))

-- the rounds, of these parts, for x elements: the index in temp h begins at 0
abbrev pub array_code : Slots → (x h test behind : ℕ) → (round body : List Instr) → List Instr
array_code s x h test behind round body =
    let i = temp s h in let t = temp s (h + 1) in
    Const i 0
    ∷ (Const t x
    ∷ (Bin Word.Less t i t
    ∷ (JumpZero t behind
    ∷ (round ++ (body ++ (Const t 1 ∷ (Bin Word.Add i i t ∷ (Jump test ∷ []))))))))

module _ (p : Program) where
  -- a call whose arguments are in temps from h on; its results land there
  abbrev pub call_code : Slots → (f h : ℕ) → List Instr
  call_code s f h = move_code (arguments_of p f) 0 (temp s h) ++ Call f ∷ move_code (results_of p f) (temp s h) (arguments_of p f)

  abbrev pub call_size : ℕ → ℕ
  call_size f = move_size (arguments_of p f) + suc (move_size (results_of p f))

  -- the numbers of instructions
  abbrev mutual
    pub size : Ex → ℕ
    size (constant v) = 1
    size (read q) = place_size q (address_size q + 1)
    size (unary op a) = size a + 1
    size (binary at op a b) = size a + size b + 1
    size (logical_and a b) = size a + 1 + size b
    size (logical_or a b) = size a + 2 + size b
    size (call f es) = exs_size es + call_size f
    size (part_of n i e) = size e + 1
    size (literal n es) = 1 + elements_size (type_named p n) (ascend es) es
    size (nil t) = 1
    size (address_of q) = place_size q (address_size q + 1)
    size (new_variable site) = 1
    size (literal_variable site e) = size e + 3
    size (slice_literal site es) = exs_size es + (3 + move_size (all_wide p es))
    size (make at site count room) = size count + (bound_size room + 1)
    size (append site e es) = size e + (exs_size es + 1)
    size (append_slice site e f) = size e + (size f + 1)
    size (copy n e f) = size e + (size f + 1)
    size (slicing at n e low high) = size e + (bound_size low + (bound_size high + 1))
    size (array_slicing at q x low high) = place_size q (address_size q + 1) + (bound_size low + (bound_size high + 3))
    size (len e) = size e + 1
    size (cap e) = size e + 1

    -- of a bound, or of what stands in its place
    pub bound_size : Bound → ℕ
    bound_size absent = 1
    bound_size (bound e) = size e

    -- of the operands of a place, and of n more after them
    pub place_size : Pl → (behind : ℕ) → ℕ
    place_size (local site steps) behind = steps_size steps behind
    place_size (global g steps) behind = steps_size steps behind
    place_size (indirect at e n steps) behind = size e + steps_size steps behind
    place_size (slice_element at e i n steps) behind = size e + (size i + steps_size steps behind)

    pub steps_size : Steps → (behind : ℕ) → ℕ
    steps_size here behind = behind
    steps_size (inner i steps) behind = steps_size steps behind
    steps_size (at_index at e n steps) behind = size e + steps_size steps behind

    pub elements_size : TypeTree → (in_order : Bool) → Elements → ℕ
    elements_size t in_order no_elements = 0
    elements_size t true (element i e es) = size e + (gap_size (gap_behind t i es) + elements_size t true es)
    elements_size t false (element i e es) = size e + (1 + elements_size t false es)

    pub exs_size : Exs → ℕ
    exs_size none = 0
    exs_size (more e es) = size e + exs_size es
    exs_size (results f es) = exs_size es + call_size f
    exs_size read_int = 1

  -- the place after a bound that stands from one on
  abbrev pub bound_end : Bound → (pc : ℕ) → ℕ
  bound_end absent pc = pc
  bound_end (bound e) pc = pc + size e

  -- the place after the operands of a place that stand from one on
  abbrev pub steps_end : Steps → (pc : ℕ) → ℕ
  steps_end here pc = pc
  steps_end (inner i steps) pc = steps_end steps pc
  steps_end (at_index at e n steps) pc = steps_end steps (pc + size e)

  abbrev pub place_end : Pl → (pc : ℕ) → ℕ
  place_end (local site steps) pc = steps_end steps pc
  place_end (global g steps) pc = steps_end steps pc
  place_end (indirect at e n steps) pc = steps_end steps (pc + size e)
  place_end (slice_element at e i n steps) pc = steps_end steps (pc + size e + size i)

  -- the same of left sides
  abbrev pub lefts_sized : List Left → (behind : ℕ) → ℕ
  lefts_sized [] behind = behind
  lefts_sized (blank ∷ ls) behind = lefts_sized ls behind
  lefts_sized (new site ∷ ls) behind = lefts_sized ls behind
  lefts_sized (to q ∷ ls) behind = place_size q (lefts_sized ls behind)

  abbrev pub lefts_end : List Left → (pc : ℕ) → ℕ
  lefts_end [] pc = pc
  lefts_end (blank ∷ ls) pc = lefts_end ls pc
  lefts_end (new site ∷ ls) pc = lefts_end ls pc
  lefts_end (to q ∷ ls) pc = lefts_end ls (place_end q pc)

  abbrev pub piece_size : Piece → ℕ
  piece_size (text number) = 0
  piece_size (shown t e) = size e

  abbrev pub pieces_size : List Piece → ℕ
  pieces_size [] = 0
  pieces_size (q ∷ ps) = piece_size q + pieces_size ps

  -- a condition, where there is one, and the jump after it
  abbrev pub test_size : Option Ex → ℕ
  test_size None = 0
  test_size (Some e) = size e + 1

  -- at a place the value lands in temp h, values in temps from h on. The second operand of `&&` and `||` is passed over where the
  -- first, which is then in the temp, decides.
  abbrev mutual
    pub ex_code : Slots → Ex → (h pc : ℕ) → List Instr
    ex_code s (constant v) h pc = Const (temp s h) (word_of v) ∷ []
    ex_code s (read q) h pc = place_code s q h pc ++ read_code s q (place_above q h) h
    ex_code s (unary op e) h pc = ex_code s e h pc ++ unary_code op (temp s h) ∷ []
    ex_code s (binary at op a b) h pc = ex_code s a h pc ++ (ex_code s b (h + wide p a) (pc + size a) ++ binary_code op (compared p a b) (temp s h) (temp s (h + wide p a)) ∷ [])
    ex_code s (logical_and a b) h pc = ex_code s a h pc ++ JumpZero (temp s h) (pc + size a + 1 + size b) ∷ ex_code s b h (pc + size a + 1)
    ex_code s (logical_or a b) h pc =
        ex_code s a h pc ++ JumpZero (temp s h) (pc + size a + 2) ∷ (Jump (pc + size a + 2 + size b) ∷ ex_code s b h (pc + size a + 2))
    ex_code s (call f es) h pc = exs_code s es h pc ++ call_code s f h
    ex_code s (part_of n i e) h pc = ex_code s e h pc ++ Move Silent (temp s h) (temp s (h + part_offset (type_named p n) i)) (width (part_type (type_named p n) i)) ∷ []
    ex_code s (literal n es) h pc = zeros (width (type_named p n)) (temp s h) ∷ elements_code s (type_named p n) (ascend es) es h (pc + 1)
    ex_code s (nil t) h pc = zeros (width t) (temp s h) ∷ []
    ex_code s (address_of q) h pc = place_code s q h pc ++ pointing_code s q (place_above q h) h
    ex_code s (new_variable site) h pc = Alloc (temp s h) (site_words s site) site ∷ []
    -- the literal is whole before its variable is born
    ex_code s (literal_variable site e) h pc =
        ex_code s e h pc ++ new_code s site (h + site_words s site) h
    -- the header of a slice stands in temps from h on, and what it is made of above it
    ex_code s (slice_literal site es) h pc = exs_code s es (h + 3) pc ++ sliced_code s site (length (value_widths p es)) (all_wide p es) h
    ex_code s (make at site count room) h pc =
        ex_code s count (h + 1) pc ++ (bound_code s room (h + 2) (pc + size count) ++ (room_code s room h ++ Make (temp s h) (site_words s site) site ∷ []))
    ex_code s (append site e es) h pc =
        ex_code s e h pc ++ (exs_code s es (h + 3) (pc + size e) ++ append_code s site (length (value_widths p es)) h ∷ [])
    ex_code s (append_slice site e f) h pc =
        ex_code s e h pc ++ (ex_code s f (h + 3) (pc + size e) ++ Append added.Slice (temp s h) (temp s h) (temp s (h + 3)) 0 (site_words s site) site ∷ [])
    ex_code s (copy n e f) h pc =
        ex_code s e h pc ++ (ex_code s f (h + 3) (pc + size e) ++ Copy (temp s h) (temp s h) (temp s (h + 3)) (width (type_named p n)) ∷ [])
    ex_code s (slicing at n e low high) h pc =
        ex_code s e h pc
        ++ (bound_code s low (h + 3) (pc + size e)
        ++ (bound_code s high (h + 4) (bound_end low (pc + size e)) ++ cut_code s low high (width (type_named p n)) h))
    ex_code s (array_slicing at q x low high) h pc =
        let behind = pc + place_size q (address_size q + 1) in
        place_code s q h pc
        ++ (pointing_code s q (place_above q h) h
        ++ (bound_code s low (h + 3) behind ++ (bound_code s high (h + 4) (bound_end low behind) ++ (whole_code s x h ++ cut_code s low high (element_words s q) h))))
    ex_code s (len e) h pc = ex_code s e h pc ++ Move Silent (temp s h) (temp s (h + 1)) 1 ∷ []
    ex_code s (cap e) h pc = ex_code s e h pc ++ Move Silent (temp s h) (temp s (h + 2)) 1 ∷ []

    -- a bound that is there
    pub bound_code : Slots → Bound → (h pc : ℕ) → List Instr
    bound_code s absent h pc = []
    bound_code s (bound e) h pc = ex_code s e h pc

    -- the operands of a place land in temps from h on
    pub place_code : Slots → Pl → (h pc : ℕ) → List Instr
    place_code s (local site steps) h pc = steps_code s steps h pc
    place_code s (global g steps) h pc = steps_code s steps h pc
    place_code s (indirect at e n steps) h pc = ex_code s e h pc ++ steps_code s steps (h + 1) (pc + size e)
    place_code s (slice_element at e i n steps) h pc = ex_code s e h pc ++ (ex_code s i (h + 3) (pc + size e) ++ steps_code s steps (h + 4) (pc + size e + size i))

    pub steps_code : Slots → Steps → (h pc : ℕ) → List Instr
    steps_code s here h pc = []
    steps_code s (inner i steps) h pc = steps_code s steps h pc
    steps_code s (at_index at e n steps) h pc = ex_code s e h pc ++ steps_code s steps (h + 1) (pc + size e)

    -- Elements of a literal in temps from h on. In order each is worked out in its place, and what lies between it and the next
    -- one is zeroed again, since it may have been worked with. Else each is worked out after the literal and moved.
    pub elements_code : Slots → TypeTree → (in_order : Bool) → Elements → (h pc : ℕ) → List Instr
    elements_code s t in_order no_elements h pc = []
    elements_code s t true (element i e es) h pc =
        let gap = gap_behind t i es in
        ex_code s e (h + part_offset t i) pc ++ (gap_code gap (temp s (h + words_through t i)) ++ elements_code s t true es h (pc + size e + gap_size gap))
    elements_code s t false (element i e es) h pc =
        ex_code s e (h + width t) pc ++ Move Silent (temp s (h + part_offset t i)) (temp s (h + width t)) (width (part_type t i)) ∷ elements_code s t false es h (pc + size e + 1)

    pub exs_code : Slots → Exs → (h pc : ℕ) → List Instr
    exs_code s none h pc = []
    exs_code s (more e es) h pc = ex_code s e h pc ++ exs_code s es (h + wide p e) (pc + size e)
    exs_code s (results f es) h pc = exs_code s es h pc ++ call_code s f h
    exs_code s read_int h pc = ReadInt (temp s h) ∷ []

  -- the operands of left sides land in temps from h on
  abbrev pub ready_code : Slots → List Left → (h pc : ℕ) → List Instr
  ready_code s [] h pc = []
  ready_code s (blank ∷ ls) h pc = ready_code s ls h pc
  ready_code s (new site ∷ ls) h pc = ready_code s ls h pc
  ready_code s (to q ∷ ls) h pc = place_code s q h pc ++ ready_code s ls (place_above q h) (place_end q pc)

  -- A round of `range` over an array, whose index is in temp h, up to the body: left sides get the index, or the index and the
  -- element of the copy, which are put after their operands.
  abbrev pub index_round_code : Slots → Left → (h pc : ℕ) → List Instr
  index_round_code s key h pc = ready_code s (key ∷ []) (h + 1) pc ++ lefts_code s (1 ∷ []) (key ∷ []) (h + 1) (lefts_above (key ∷ []) (h + 1)) h

  abbrev pub index_round_size : Left → ℕ
  index_round_size key = lefts_sized (key ∷ []) (lefts_size (key ∷ []))

  abbrev pub element_round_code : Slots → (site x : ℕ) → (key value : Left) → (h pc : ℕ) → List Instr
  element_round_code s site x key value h pc =
      let v = lefts_above (key ∷ value ∷ []) (h + 1) in let w = width (part_type (site_type s site) 0) in
      ready_code s (key ∷ value ∷ []) (h + 1) pc ++ (element_code s site x h v ++ lefts_code s (1 ∷ w ∷ []) (key ∷ value ∷ []) (h + 1) (v + 1 + w) v)

  abbrev pub element_round_size : (key value : Left) → ℕ
  element_round_size key value = lefts_sized (key ∷ value ∷ []) (4 + lefts_size (key ∷ value ∷ []))

  -- the same of the array of x elements, of w words each, that the pointer in temp h leads to; the index is in temp h + 1
  abbrev pub pointed_round_code : Slots → (x w : ℕ) → (key value : Left) → (h pc : ℕ) → List Instr
  pointed_round_code s x w key value h pc =
      let v = lefts_above (key ∷ value ∷ []) (h + 2) in
      ready_code s (key ∷ value ∷ []) (h + 2) pc ++ (pointed_code s x w h v ++ lefts_code s (1 ∷ w ∷ []) (key ∷ value ∷ []) (h + 2) (v + 1 + w) v)

  abbrev pub pointed_round_size : (key value : Left) → ℕ
  pointed_round_size key value = lefts_sized (key ∷ value ∷ []) (3 + lefts_size (key ∷ value ∷ []))

  -- A round over a slice of elements of w words, whose header is in temps from h on and the index in temp h + 3; without a second left side
  -- no element is read.
  abbrev pub slice_round_code : Slots → (w : ℕ) → (key value : Left) → (h pc : ℕ) → List Instr
  slice_round_code s w key blank h pc = index_round_code s key (h + 3) pc
  slice_round_code s w key value h pc =
      let v = lefts_above (key ∷ value ∷ []) (h + 4) in
      ready_code s (key ∷ value ∷ []) (h + 4) pc ++ (sliced_element_code s w h v ++ lefts_code s (1 ∷ w ∷ []) (key ∷ value ∷ []) (h + 4) (v + 1 + w) v)

  abbrev pub slice_round_size : (key value : Left) → ℕ
  slice_round_size key blank = index_round_size key
  slice_round_size key value = lefts_sized (key ∷ value ∷ []) (3 + lefts_size (key ∷ value ∷ []))

  abbrev pub pieces_code : Slots → List Piece → (h pc : ℕ) → List Instr
  pieces_code s [] h pc = []
  pieces_code s (text number ∷ ps) h pc = pieces_code s ps h pc
  pieces_code s (shown t e ∷ ps) h pc = ex_code s e h pc ++ pieces_code s ps (h + 1) (pc + size e)

  abbrev pub test_code : Slots → Option Ex → (h pc goal : ℕ) → List Instr
  test_code s None h pc goal = []
  test_code s (Some e) h pc goal = ex_code s e h pc ++ JumpZero (temp s h) goal ∷ []

  -- the statements of a function with these results and m argument words
  module _ (arguments : ℕ) (named : List ℕ) where
    abbrev mutual
      pub st_size : St → ℕ
      st_size (declare sites) = length sites
      st_size (assign ls es) = lefts_sized ls (exs_size es + lefts_size ls)
      st_size (update at q op e) = place_size q (address_size q + 1 + size e + 1 + 1)
      st_size (bump at q op) = place_size q (address_size q + 1 + 2 + 1)
      st_size (discard es) = exs_size es
      st_size (block ss) = sts_size ss
      st_size (if_stmt e a b) = size e + 1 + sts_size a + 1 + sts_size b
      st_size (for_stmt sites test post body) = test_size test + sts_size body + renew_size sites + sts_size post + 1
      st_size (range (over_int e) key value body) = size e + 1 + 2 + lefts_sized (key ∷ []) (lefts_size (key ∷ [])) + sts_size body + 3
      st_size (range (over_length x) key value body) = 4 + index_round_size key + sts_size body + 3
      st_size (range (over_copy site e x) key value body) = size e + 2 + (4 + element_round_size key value + sts_size body + 3)
      st_size (range (over_pointer at e x t) key value body) = size e + (4 + pointed_round_size key value + sts_size body + 3)
      st_size (range (over_pointed x) key value body) = 4 + index_round_size key + sts_size body + 3
      st_size (range (over_slice e t) key value body) = size e + 3 + slice_round_size key value + sts_size body + 3
      st_size break_stmt = 1
      st_size continue_stmt = 1
      st_size (return_stmt es) = exs_size es + (values_size (all_wide p es) named + leave_size named)
      st_size (print ln ps) = pieces_size ps + shown_size ln ps
      st_size (panic at q) = piece_size q + 1
      st_size (exit at e) = size e + 1

      pub sts_size : Sts → ℕ
      sts_size done = 0
      sts_size (next s ss) = st_size s + sts_size ss

    -- At a place, with temps from h on. A `break` goes on at `out`, and a `continue` at `again`. A round of `for` is its test, its body,
    -- the new round's variables, the post statement and a jump back. `range` over a number keeps that in temp h, and the index above it.
    abbrev mutual
      pub st_code : Slots → St → (h out again pc : ℕ) → List Instr
      st_code s (declare sites) h out again pc = zeros_code s sites
      st_code s (assign ls es) h out again pc =
          let first = lefts_above ls h in
          ready_code s ls h pc ++ (exs_code s es first (lefts_end ls pc) ++ lefts_code s (value_widths p es) ls h (first + all_wide p es) first)
      st_code s (update at q op e) h out again pc =
          let at = place_above q h in
          let v = above_address (far q) at in
          place_code s q h pc
          ++ (address_code s q h at
          ++ fetch_code s q h at v ∷ (ex_code s e (v + 1) (place_end q pc + (address_size q + 1)) ++ Bin (operation op) (temp s v) (temp s v) (temp s (v + 1)) ∷ (land_code s q h at v ∷ [])))
      st_code s (bump at q op) h out again pc =
          let at = place_above q h in
          let v = above_address (far q) at in
          place_code s q h pc
          ++ (address_code s q h at
          ++ fetch_code s q h at v ∷ (Const (temp s (v + 1)) 1 ∷ (Bin (operation op) (temp s v) (temp s v) (temp s (v + 1)) ∷ (land_code s q h at v ∷ []))))
      st_code s (discard es) h out again pc = exs_code s es h pc
      st_code s (block ss) h out again pc = sts_code s ss h out again pc
      st_code s (if_stmt e a b) h out again pc =
          ex_code s e h pc
          ++ (JumpZero (temp s h) (pc + size e + 1 + sts_size a + 1)
          ∷ (sts_code s a h out again (pc + size e + 1) ++ (Jump (pc + size e + 1 + sts_size a + 1 + sts_size b) ∷ sts_code s b h out again (pc + size e + 1 + sts_size a + 1))))
      st_code s (for_stmt sites test post body) h out again pc =
          let inside = pc + test_size test in
          let turn = inside + sts_size body in
          let behind = turn + renew_size sites + sts_size post + 1 in
          test_code s test h pc behind
          ++ (sts_code s body h behind turn inside ++ (renew_code s sites h ++ (sts_code s post h behind turn (turn + renew_size sites) ++ Jump pc ∷ [])))
      st_code s (range (over_int e) key value body) h out again pc =
          let test = pc + size e + 1 in
          let inside = test + 2 + lefts_sized (key ∷ []) (lefts_size (key ∷ [])) in
          let turn = inside + sts_size body in
          let behind = turn + 3 in
          ex_code s e h pc
          ++ (Const (temp s (h + 1)) 0
          ∷ (Bin Word.Less (temp s (h + 2)) (temp s (h + 1)) (temp s h)
          ∷ (JumpZero (temp s (h + 2)) behind
          ∷ ((ready_code s (key ∷ []) (h + 2) (test + 2) ++ lefts_code s (1 ∷ []) (key ∷ []) (h + 2) (lefts_above (key ∷ []) (h + 2)) (h + 1))
          ++ (sts_code s body (h + 2) behind turn inside
          ++ (Const (temp s (h + 2)) 1 ∷ Bin Word.Add (temp s (h + 1)) (temp s (h + 1)) (temp s (h + 2)) ∷ Jump test ∷ []))))))
      st_code s (range (over_length x) key value body) h out again pc =
          let inside = pc + 4 + index_round_size key in
          let turn = inside + sts_size body in
          let behind = turn + 3 in
          array_code s x h (pc + 1) behind (index_round_code s key h (pc + 4)) (sts_code s body (h + 1) behind turn inside)
      st_code s (range (over_copy site e x) key value body) h out again pc =
          let start = pc + size e + 2 in
          let inside = start + 4 + element_round_size key value in
          let turn = inside + sts_size body in
          let behind = turn + 3 in
          ex_code s e h pc
          ++ (birth_code s site h
          ++ array_code s x h (start + 1) behind (element_round_code s site x key value h (start + 4)) (sts_code s body (h + 1) behind turn inside))
      -- the pointer is in temp h and the index above it; without elements the pointer's temp is not used
      st_code s (range (over_pointer at e x t) key value body) h out again pc =
          let start = pc + size e in
          let inside = start + 4 + pointed_round_size key value in
          let turn = inside + sts_size body in
          let behind = turn + 3 in
          ex_code s e h pc
          ++ array_code s x (h + 1) (start + 1) behind (pointed_round_code s x (width (type_named p t)) key value h (start + 4)) (sts_code s body (h + 2) behind turn inside)
      st_code s (range (over_pointed x) key value body) h out again pc =
          let inside = pc + 4 + index_round_size key in
          let turn = inside + sts_size body in
          let behind = turn + 3 in
          array_code s x (h + 1) (pc + 1) behind (index_round_code s key (h + 1) (pc + 4)) (sts_code s body (h + 2) behind turn inside)
      st_code s (range (over_slice e t) key value body) h out again pc =
          let test = pc + size e + 1 in
          let inside = test + 2 + slice_round_size key value in
          let turn = inside + sts_size body in
          let behind = turn + 3 in
          let i = temp s (h + 3) in let t1 = temp s (h + 4) in
          ex_code s e h pc
          ++ (Const i 0
          ∷ (Bin Word.Less t1 i (temp s (h + 1))
          ∷ (JumpZero t1 behind
          ∷ (slice_round_code s (width (type_named p t)) key value h (test + 2)
          ++ (sts_code s body (h + 4) behind turn inside ++ (Const t1 1 ∷ Bin Word.Add i i t1 ∷ Jump test ∷ []))))))
      st_code s break_stmt h out again pc = Jump out ∷ []
      st_code s continue_stmt h out again pc = Jump again ∷ []
      st_code s (return_stmt es) h out again pc = exs_code s es h pc ++ (values_code s arguments (all_wide p es) named h ++ leave_code s arguments named)
      st_code s (print ln ps) h out again pc = pieces_code s ps h pc ++ show_code s ln ps h
      st_code s (panic at (text number)) h out again pc = PanicText number ∷ []
      st_code s (panic at (shown t e)) h out again pc = ex_code s e h pc ++ raised_code t (temp s h) ∷ []
      st_code s (exit at e) h out again pc = ex_code s e h pc ++ Exit (temp s h) ∷ []

      pub sts_code : Slots → Sts → (h out again pc : ℕ) → List Instr
      sts_code s done h out again pc = []
      sts_code s (next x xs) h out again pc = st_code s x h out again pc ++ sts_code s xs h out again (pc + st_size x)

module _ (p : Program) (l : Placement) where
  abbrev pub entry_size : Func → ℕ
  entry_size f = params_size l f.params + length f.named

  abbrev pub func_size : Func → ℕ
  func_size f = entry_size f + (sts_size p (argument_words f) f.named f.body + leave_size f.named)

  -- the number of the function that each instruction belongs to, of functions one after the other
  abbrev pub funcs_owners : List Func → (number : ℕ) → List ℕ
  funcs_owners [] number = []
  funcs_owners (f ∷ gs) number = replicate (func_size f) number ++ funcs_owners gs (number + 1)

  abbrev pub slots_of : Func → Slots
  slots_of f = record {
    outgoing = outgoing_of p f;
    temps = temps_of p l f;
    first = f.first;
    count = f.count;
    placement = l;
    types = p.types;
    sites = p.sites;
    made = p.made;
    globals = map (λ g. g.0) p.globals;
  }

  -- what stands before a function's body
  abbrev pub entry_code : Func → List Instr
  entry_code f = params_code (slots_of f) (each_width f.param_types) f.params 0 ++ zeros_code (slots_of f) f.named

  -- the instructions of a function at a place; nothing is around its body that a `break` leaves
  abbrev pub func_code : Func → ℕ → List Instr
  func_code f pc =
      entry_code f ++ (sts_code p (argument_words f) f.named (slots_of f) f.body 0 0 0 (pc + entry_size f) ++ leave_code (slots_of f) (argument_words f) f.named)

  abbrev pub entry_of : Func → ℕ → Entry
  entry_of f pc = record { frame = frame_of p l f; arguments = argument_words f; results = result_words f; start = pc; size = func_size f }

  -- functions one after the other, from a place on
  abbrev pub funcs_code : List Func → (pc : ℕ) → List Instr
  funcs_code [] pc = []
  funcs_code (f ∷ gs) pc = func_code f pc ++ funcs_code gs (pc + func_size f)

  abbrev pub funcs_entries : List Func → (pc : ℕ) → List Entry
  funcs_entries [] pc = []
  funcs_entries (f ∷ gs) pc = entry_of f pc ∷ funcs_entries gs (pc + func_size f)

-- the code of a program with a placement
abbrev pub code_of : Program → Placement → Tables
code_of p l = record {
  instrs = funcs_code p l p.funcs 0;
  owners = funcs_owners p l p.funcs 0;
  funcs = funcs_entries p l p.funcs 0;
  strings = p.strings;
}
