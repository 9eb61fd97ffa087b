-- The code of a program is a code.
use Rattle.std.proofs.Common.{◌≡◌, ◌⊎◌, inl, inr, ℕ, zero, suc, ◌+◌, ◌-◌, ◌*◌, ◌<◌, ◌≤◌, Bool, true, false, List, [], ◌∷◌, ◌++◌, length, map, replicate, Some, refl, sym, ap, ◌∙◌, subst, arith, length-append, append_assoc}
use Rattle.std.specs.Prelude.{if◌then◌else◌, ◌&&◌, not, get_or, Option, None, slice_get, ⊤}
use Rattle.std.proofs.lemmas.Bool.{false≢true}
use Rattle.std.proofs.lemmas.Option.{slice_get_within}
use Rattle.isa.specs.Code.{AddedFits, AreLaid, CanCall, Fits as FitsAt, FitsPlace, IsCode, IsLinked, owners_of}
use Rattle.isa.specs.declared.func.Func.{Func as Entry}
use Rattle.isa.specs.declared.instr.Instr.{Instr}
use Rattle.isa.specs.declared.instr.BinOp.TheVariants as Word
use Rattle.isa.specs.declared.instr.Direction.TheVariants.{FromSlots, ToSlots}
use Rattle.isa.specs.declared.instr.MoveEvent.{MoveEvent}
use Rattle.isa.specs.declared.instr.MoveEvent.TheVariants.{Silent, Read, Write}
use Rattle.isa.specs.declared.instr.StoreEvent.TheVariants as Stored
use Rattle.isa.specs.declared.instr.Added.TheVariants as Added
use Rattle.isa.specs.declared.instr.Instr.TheVariants.{Const, Zero, Move, Same, Bin, Un, Jump, JumpZero, Call, Incoming, Load, Store, Address, Offset, Index, SliceIndex, Slice, Born, Alloc, Make, Append, Copy, ReadInt, PrintInt, PrintBool, PrintText, PrintSpace, PrintLine, Return, Exit, PanicText, PanicInt, PanicBool}
use Rattle.typed_syntax.specs.declared.operators.BinOp.{BinOp}
use Rattle.typed_syntax.specs.declared.operators.BinOp.TheVariants.{Add, Sub, Mul, Div, Rem, And, Or, Xor, AndNot, ShiftLeft, ShiftRight, Equal, NotEqual, Less, LessEqual, Greater, GreaterEqual}
use Rattle.typed_syntax.specs.declared.operators.UnOp.{UnOp}
use Rattle.typed_syntax.specs.declared.operators.UnOp.TheVariants as One
use Rattle.typed_syntax.specs.Types.{TypeTree, ints, bools, struct_of, array_of, pointer_to, slice_of, width, part_type, part_offset}
use Rattle.typed_syntax.specs.Syntax.{Ex, Exs, Steps, here, inner, at_index, Pl, Left, Piece, St, Sts, Func, Program, constant, read, unary, binary, logical_and, logical_or, call, part_of, literal, Elements, no_elements, element, nil, address_of, new_variable, literal_variable, slice_literal, make, append, append_slice, copy, slicing, array_slicing, len, cap, Bound, absent, bound, local, global, indirect, slice_element, none, more, results, read_int, blank, new, to, text, shown, over_int, over_length, over_copy, over_slice, over_pointer, over_pointed, declare, assign, update, bump, discard, block, if_stmt, for_stmt, range, break_stmt, continue_stmt, return_stmt, print, panic, exit, done, next, all_width, each_width, arguments_in, results_in, argument_words, result_words, arguments_of, results_of, type_named, site_width, wide, all_wide, value_widths, ascend, words_through, gap_behind}
use Rattle.typed_syntax.specs.Form.{scope_in, body_first, IsInForm}
use Rattle.frames.specs.Placement.{Placement}
use Rattle.frames.specs.Frames.{far, cell_words, cells_between, words_between, frame_of}
use Rattle.expression_code.specs.Temps.{SiteFits, IndicesFit, PlaceFits, AddressFits, CallFits, Fits, BoundFitsIn, OperandsFit, StepsFitIn, ElementsFitIn, ExsFitIn}
use Rattle.codegen.specs.Frame.{sliced_pair_code}
use Rattle.codegen.specs.Temps.{SitesFit, sites_words, ParamsFitIn, LeftFits, LeftsFitIn, ValuesFit, MovesFit, ReadyFitIn, PiecesFitIn, SliceRoundFits, TestFitsIn, StFitsIn, StsFitIn, FuncFitsIn}
use Rattle.program_code.specs.Code.{Slots, Access, in_slots, by_address, site_access, site_words, cell_slot, fetch, land, point, fill, fill_code, born_code, birth_code, new_code, elements_put, sliced_code, append_code, room_code, low_code, high_code, cut_code, whole_code, element_words, bound_code, bound_end, bound_size, sliced_element_code, slice_round_code, slice_round_size, local_root, root_code, root_type, steps_of, indices_from, far_code, near_access, near_offset, near_words, access, access_by, point_code, pointing_code, param_by, param_code, pointed_code, compared, temp, site_slot, site_type, zeros, first_width, other_widths, operation, binary_code, unary_code, gap_code, gap_size, above_address, steps_above, place_above, lefts_above, index_code, address_code, address_size, fetch_code, land_code, read_code, write_code, move_code, result_code, call_code, ex_code, exs_code, place_code, steps_code, elements_code, ready_code, place_size, steps_size, place_end, elements_size, lefts_sized, lefts_end, pieces_code, test_code, shown_code, raised_code, show_more, show_plain, show_code, lefts_code, lefts_size, element_code, array_code, named_write_code, named_read_code, leave_code, values_code, params_code, zeros_code, renew_code, renew_size, size, exs_size, pieces_size, test_size, st_size, sts_size, st_code, sts_code, slots_of, entry_code, entry_size, func_code, func_size, entry_of, funcs_code, funcs_owners, funcs_entries, code_of}
use Rattle.program_code.proofs.Rooms.{steps_from}
use Rattle.program_code.proofs.Sizes.{length_func, place_sum, place_ends, lefts_sum, lefts_ends}
use Rattle.program_code.proofs.Stands.{same_some, start_of, some_size, length_owners, stands, located, entered_from, exists}
use Rattle.expression_code.proofs.InSlots.{site_within}
use Rattle.codegen.proofs.Operands.{above_sum, lefts_from}
use Rattle.codegen.proofs.Suffice.{func_fits}
use Rattle.codegen.proofs.Within.{PiecesWithin, StWithin, StsWithin, sts_within}

-- an instruction of a function with these slots and incoming words, in a code with these strings: its jumps lead to places
-- of the function
module _ (fns : List Entry) (strings slots incoming start end : ℕ) where
  abbrev Ok : Instr → Type 0
  Ok (Const a w) = a < slots
  Ok (Zero a n) = (1 ≤ n) × (a + n ≤ slots)
  Ok (Move event a b n) = (1 ≤ n) × (a + n ≤ slots) × (b + n ≤ slots)
  Ok (Same wanted a b c n) = (1 ≤ n) × (a < slots) × (b + n ≤ slots) × (c + n ≤ slots)
  Ok (Bin o a b c) = (a < slots) × (b < slots) × (c < slots)
  Ok (Un o a b) = (a < slots) × (b < slots)
  Ok (Jump goal) = (start ≤ goal) × (goal < end)
  Ok (JumpZero a goal) = (a < slots) × ((start ≤ goal) × (goal < end))
  Ok (Call g) = CanCall fns slots g
  Ok (Incoming direction a b n) = (1 ≤ n) × (a + n ≤ slots) × (b + n ≤ incoming)
  Ok (Load a b off n) = (1 ≤ n) × (a + n ≤ slots) × (b < slots)
  Ok (Store event a off c n) = (1 ≤ n) × (a < slots) × (c + n ≤ slots)
  Ok (Address a b) = (a < slots) × (b < slots)
  Ok (Offset a b off) = (a < slots) × (b < slots)
  Ok (Index a b c x w) = (1 ≤ x) × (1 ≤ w) × (a < slots) × (b < slots) × (c < slots)
  Ok (SliceIndex a b c w) = (1 ≤ w) × (a < slots) × (b + 3 ≤ slots) × (c < slots)
  Ok (Slice a b c w) = (1 ≤ w) × (a + 3 ≤ slots) × (b + 3 ≤ slots) × (c + 2 ≤ slots)
  Ok (Born a n site) = a + n ≤ slots
  Ok (Alloc a n site) = a < slots
  Ok (Make a w site) = (1 ≤ w) × (a + 3 ≤ slots)
  Ok (Append added a b c d w site) = (1 ≤ w) × (a + 3 ≤ slots) × (b + 3 ≤ slots) × AddedFits slots added c d w
  Ok (Copy a b c w) = (1 ≤ w) × (a < slots) × (b + 3 ≤ slots) × (c + 3 ≤ slots)
  Ok (PrintInt a) = a < slots
  Ok (PrintBool a) = a < slots
  Ok (PrintText number) = number < strings
  Ok PrintSpace = ⊤
  Ok PrintLine = ⊤
  Ok (ReadInt a) = a + 2 ≤ slots
  Ok Return = ⊤
  Ok (Exit a) = a < slots
  Ok (PanicText number) = number < strings
  Ok (PanicInt a) = a < slots
  Ok (PanicBool a) = a < slots

  abbrev All : List Instr → Type 0
  All [] = ⊤
  All (i ∷ is) = Ok i × All is

-- a site's cell stands before those of later sites
cells_next : (pl : Placement) (made : List Bool) (from k n : ℕ) → k < n → cells_between pl made from k + cell_words pl made (from + k) ≤ cells_between pl made from n
cells_next pl made from k zero lt = absurd (omega (arith, lt))
cells_next pl made from zero (suc n) lt = let e : from + 0 ≡ from = omega arith in let q = ap (cell_words pl made) e in omega (arith, q)
cells_next pl made from (suc k) (suc n) lt =
    let e : suc from + k ≡ from + suc k = omega arith in
    let q = ap (cell_words pl made) e in
    let l = cells_next pl made (suc from) k n (omega (arith, lt)) in omega (arith, q, l)

-- one that has a name and is on the heap has a cell
cell_is : (heap made : Bool) → heap ≡ true → made ≡ false → ◌≡◌ {A = ℕ} (if heap && not made then 1 else 0) 1
cell_is true false apart named = refl
cell_is true true apart named = absurd (false≢true (sym named))
cell_is false made apart named = absurd (false≢true apart)

-- the code of a function of which these are the slots
module _ (p : Program) (solid : (site : ℕ) → 0 < site_width p site) (pl : Placement) (outgoing temps first n : ℕ) (fns : List Entry) (strings arguments wanted start end : ℕ)
    (can : (f : ℕ) → f < length p.funcs → arguments_of p f + results_of p f ≤ outgoing → CanCall fns (outgoing + temps + (cells_between pl p.made first n + words_between pl p.sites first n)) f) where
  abbrev s : Slots
  s = record { outgoing = outgoing; temps = temps; first = first; count = n; placement = pl; types = p.types; sites = p.sites; made = p.made; globals = map (λ g. g.0) p.globals }

  abbrev room : ℕ
  room = outgoing + temps + (cells_between pl p.made first n + words_between pl p.sites first n)

  abbrev Are : List Instr → Type 0
  Are is = All fns strings room (arguments + wanted) start end is

  -- a place of the function
  abbrev Here : ℕ → Type 0
  Here goal = (start ≤ goal) × (goal < end)

  join : (a b : List Instr) → Are a → Are b → Are (a ++ b)
  join [] b f g = g
  join (i ∷ a) b f g = (f.0, join a b f.1 g)

  -- m words are in the frame's slots, or behind the address in one
  abbrev Has : Access → (m : ℕ) → Type 0
  Has (in_slots slot) m = slot + m ≤ room
  Has (by_address slot) m = slot < room

  cell_in : (site : ℕ) → SiteFits s n site → pl.on_heap site ≡ true → cell_slot s site < room
  cell_in site f apart =
      let from = f.0 in let to = f.1 in
      let e : first + (site - first) ≡ site = omega (arith, from) in
      let one : cell_words pl p.made (first + (site - first)) ≡ 1 = ap (cell_words pl p.made) e ∙ cell_is (pl.on_heap site) (get_or p.made site false) apart f.2 in
      let l = cells_next pl p.made first (site - first) n (omega (arith, from, to)) in omega (arith, one, l)

  site_in : (site : ℕ) → SiteFits s n site → Has (site_access s site) (site_width p site)
  site_in site f = by (pl.on_heap site) refl
    where
      by : (heap : Bool) → pl.on_heap site ≡ heap → Has (if heap then by_address (cell_slot s site) else in_slots (site_slot s site)) (site_width p site)
      by true apart = cell_in site f apart
      by false stays = let l = site_within s n site stays f in omega (arith, l)

  has_less : (a : Access) (k m : ℕ) → k ≤ m → Has a m → Has a k
  has_less (in_slots slot) k m l h = omega (arith, l, h)
  has_less (by_address slot) k m l h = h

  whole_in : (site : ℕ) → SiteFits s n site → Has (site_access s site) (0 + site_width p site)
  whole_in site f = has_less (site_access s site) (0 + site_width p site) (site_width p site) (omega arith) (site_in site f)

  moved_ok : (event : MoveEvent) (m a b : ℕ) (is : List Instr) → 0 < m → a + m ≤ room → b + m ≤ room → Are is → Are (Move event a b m ∷ is)
  moved_ok event m a b is some f g k = ((omega (arith, some), f, g), k)

  zeroed_ok : (m a : ℕ) (is : List Instr) → 0 < m → a + m ≤ room → Are is → Are (zeros m a ∷ is)
  zeroed_ok zero a is some f k = absurd (omega (arith, some))
  zeroed_ok (suc zero) a is some f k = (omega (arith, f), k)
  zeroed_ok (suc (suc m)) a is some f k = ((omega arith, f), k)

  -- words are read and written where they are, and their address is taken
  fetched_ok : (a : Access) (off m c : ℕ) (is : List Instr) → 0 < m → Has a (off + m) → c + m ≤ room → Are is → Are (fetch a off m c ∷ is)
  fetched_ok (in_slots slot) off m c is some h l k = moved_ok Read m c (slot + off) is some l (omega (arith, h)) k
  fetched_ok (by_address slot) off m c is some h l k = ((omega (arith, some), l, h), k)

  landed_ok : (a : Access) (off m c : ℕ) (is : List Instr) → 0 < m → Has a (off + m) → c + m ≤ room → Are is → Are (land a off m c ∷ is)
  landed_ok (in_slots slot) off m c is some h l k = moved_ok Write m (slot + off) c is some (omega (arith, h)) l k
  landed_ok (by_address slot) off m c is some h l k = ((omega (arith, some), h, l), k)

  pointed_to_ok : (a : Access) (off m c : ℕ) (is : List Instr) → 0 < m → Has a (off + m) → c < room → Are is → Are (point a off c ∷ is)
  pointed_to_ok (in_slots slot) off m c is some h l k = ((l, omega (arith, some, h)), k)
  pointed_to_ok (by_address slot) off m c is some h l k = ((l, h), k)

  filled_ok : (a : Access) (m c : ℕ) (is : List Instr) → 0 < m → Has a m → c + m ≤ room → Are is → Are (fill a m c ∷ is)
  filled_ok (in_slots slot) m c is some h l k = moved_ok Silent m slot c is some h l k
  filled_ok (by_address slot) m c is some h l k = ((omega (arith, some), h, l), k)

  born_ok : (site : ℕ) (is : List Instr) → SiteFits s n site → Are is → Are (born_code s site ∷ is)
  born_ok site is f k = by (pl.on_heap site) refl
    where
      by : (heap : Bool) → pl.on_heap site ≡ heap → Are ((if heap then Alloc (cell_slot s site) (site_words s site) site else Born (site_slot s site) (site_words s site) site) ∷ is)
      by true apart = (cell_in site f apart, k)
      by false stays = (let l = site_within s n site stays f in omega (arith, l), k)

  birth_ok : (site h : ℕ) (is : List Instr) → SiteFits s n site → h + site_width p site ≤ temps → Are is → Are (birth_code s site h ++ is)
  birth_ok site h is f l k =
      born_ok site (fill_code s site h ∷ is) f (filled_ok (site_access s site) (site_width p site) (temp s h) is (solid site) (site_in site f) (omega (arith, l)) k)

  move_ok : (m a b : ℕ) → a + m ≤ room → b + m ≤ room → Are (move_code m a b)
  move_ok zero a b f g = tt
  move_ok (suc m) a b f g = ((omega arith, f, g), tt)

  result_ok : (m a b : ℕ) → a + m ≤ room → b + m ≤ arguments + wanted → Are (result_code m a b)
  result_ok zero a b f g = tt
  result_ok (suc m) a b f g = ((omega arith, f, g), tt)

  call_ok : (f h : ℕ) → CallFits p s n h f → Are (call_code p s f h)
  call_ok f h (there, few, calls, ins, outs) =
      let given = arguments_of p f in let gets = results_of p f in
      join (move_code given 0 (temp s h)) (Call f ∷ move_code gets (temp s h) given) (move_ok given 0 (temp s h) (omega arith) (omega arith))
      (can f there calls, move_ok gets (temp s h) given (omega arith) (omega arith))

  unary_ok : (op : UnOp) (h : ℕ) → h < temps → Are (unary_code op (temp s h) ∷ [])
  unary_ok One.Plus h l = ((omega arith, omega arith, omega arith), tt)
  unary_ok One.Negate h l = ((omega arith, omega arith), tt)
  unary_ok One.Complement h l = ((omega arith, omega arith), tt)
  unary_ok One.Not h l = ((omega arith, omega arith), tt)

  gap_ok : (m a : ℕ) → a + m ≤ room → Are (gap_code m a)
  gap_ok zero a l = tt
  gap_ok (suc m) a l = zeroed_ok (suc m) a [] (omega arith) l tt

  binary_ok : (op : BinOp) (m a b : ℕ) → 0 < m → a + m ≤ room → b + m ≤ room → Are (binary_code op m a b ∷ [])
  binary_ok Equal zero a b some f g = absurd (omega (arith, some))
  binary_ok Equal (suc zero) a b some f g = ((omega (arith, f), omega (arith, f), omega (arith, g)), tt)
  binary_ok Equal (suc (suc m)) a b some f g = ((omega arith, omega (arith, f), f, g), tt)
  binary_ok NotEqual zero a b some f g = absurd (omega (arith, some))
  binary_ok NotEqual (suc zero) a b some f g = ((omega (arith, f), omega (arith, f), omega (arith, g)), tt)
  binary_ok NotEqual (suc (suc m)) a b some f g = ((omega arith, omega (arith, f), f, g), tt)
  binary_ok Add m a b some f g = ((omega (arith, some, f), omega (arith, some, f), omega (arith, some, g)), tt)
  binary_ok Sub m a b some f g = ((omega (arith, some, f), omega (arith, some, f), omega (arith, some, g)), tt)
  binary_ok Mul m a b some f g = ((omega (arith, some, f), omega (arith, some, f), omega (arith, some, g)), tt)
  binary_ok Div m a b some f g = ((omega (arith, some, f), omega (arith, some, f), omega (arith, some, g)), tt)
  binary_ok Rem m a b some f g = ((omega (arith, some, f), omega (arith, some, f), omega (arith, some, g)), tt)
  binary_ok And m a b some f g = ((omega (arith, some, f), omega (arith, some, f), omega (arith, some, g)), tt)
  binary_ok Or m a b some f g = ((omega (arith, some, f), omega (arith, some, f), omega (arith, some, g)), tt)
  binary_ok Xor m a b some f g = ((omega (arith, some, f), omega (arith, some, f), omega (arith, some, g)), tt)
  binary_ok AndNot m a b some f g = ((omega (arith, some, f), omega (arith, some, f), omega (arith, some, g)), tt)
  binary_ok ShiftLeft m a b some f g = ((omega (arith, some, f), omega (arith, some, f), omega (arith, some, g)), tt)
  binary_ok ShiftRight m a b some f g = ((omega (arith, some, f), omega (arith, some, f), omega (arith, some, g)), tt)
  binary_ok Less m a b some f g = ((omega (arith, some, f), omega (arith, some, f), omega (arith, some, g)), tt)
  binary_ok LessEqual m a b some f g = ((omega (arith, some, f), omega (arith, some, f), omega (arith, some, g)), tt)
  binary_ok Greater m a b some f g = ((omega (arith, some, f), omega (arith, some, f), omega (arith, some, g)), tt)
  binary_ok GreaterEqual m a b some f g = ((omega (arith, some, f), omega (arith, some, f), omega (arith, some, g)), tt)

  -- the indices of a place, in temps from `first` on, and its address in temp `at`
  index_ok : (t : TypeTree) (steps : Steps) (first at : ℕ) (is : List Instr) → at < temps → steps_above steps first ≤ temps → IndicesFit t steps → Are is → Are (index_code s t steps first at ++ is)
  index_ok t here first at is a l f g = g
  index_ok t (inner i steps) first at is a l f g = index_ok (part_type t i) steps first at is a l f g
  index_ok t (at_index place e m steps) first at is a l f g =
      let k = steps_from p (first + 1) steps in
      ((f.0, f.2, omega (arith, a), omega (arith, a), omega (arith, k, l)), index_ok (part_type t 0) steps (first + 1) at is a l f.3 g)

  -- the address of a variable
  local_root_ok : (site at : ℕ) (is : List Instr) → SiteFits s n site → at < temps → Are is → Are (local_root s site at ∷ is)
  local_root_ok site at is f l k = by (pl.on_heap site) refl
    where
      by : (heap : Bool) → pl.on_heap site ≡ heap → Are ((if heap then Move Silent (temp s at) (cell_slot s site) 1 else Address (temp s at) (site_slot s site)) ∷ is)
      by true apart = let c = cell_in site f apart in moved_ok Silent 1 (temp s at) (cell_slot s site) is (omega arith) (omega (arith, l)) (omega (arith, c)) k
      by false stays = let own = site_within s n site stays f in let words = solid site in ((omega (arith, l), omega (arith, own, words)), k)

  -- that at which a place begins, and that of its part by its indices
  root_ok : (q : Pl) (first at : ℕ) (is : List Instr) → at < temps → place_above q first ≤ temps → PlaceFits s n q → Are is → Are (root_code s q first at ++ is)
  root_ok (local site steps) first at is a l f g = local_root_ok site at is f.0 a g
  root_ok (global number steps) first at is a l f g = (omega (arith, a), g)
  root_ok (indirect e x m steps) first at is a l f g = let k = steps_from p (first + 1) steps in ((omega (arith, a), omega (arith, k, l)), g)
  root_ok (slice_element e x i m steps) first at is a l f g =
      let k = steps_from p (first + 4) steps in let some = f.1 in let whole = f.2 in ((omega (arith, some, whole), omega (arith, a), omega (arith, k, l), omega (arith, k, l)), g)

  -- the indices of a place are among its operands
  indices_above : (q : Pl) (first : ℕ) → place_above q first ≤ temps → PlaceFits s n q → steps_above (steps_of q) (indices_from q first) ≤ temps
  indices_above (local site steps) first l f = l
  indices_above (global number steps) first l f = l
  indices_above (indirect e x m steps) first l f = l
  indices_above (slice_element e x i m steps) first l f = l

  far_ok : (q : Pl) (k first at : ℕ) (is : List Instr) → at + k ≤ temps → place_above q first ≤ temps → PlaceFits s n q → Are is → Are (far_code s q k first at ++ is)
  far_ok q zero first at is a l f g = g
  far_ok q (suc k) first at is a l f g =
      let root = root_code s q first at in let indices = index_code s (root_type s q) (steps_of q) (indices_from q first) at in
      subst Are (sym (append_assoc root indices is))
      (root_ok q first at (indices ++ is) (omega (arith, a)) l f (index_ok (root_type s q) (steps_of q) (indices_from q first) at is (omega (arith, a)) (indices_above q first l f) f.3 g))

  address_ok : (q : Pl) (first at : ℕ) (is : List Instr) → AddressFits temps at q → place_above q first ≤ temps → PlaceFits s n q → Are is → Are (address_code s q first at ++ is)
  address_ok q first at is a l f g = far_ok q (far q) first at is a l f g

  -- the words of a place are there
  near_has : (q : Pl) (first : ℕ) → far q ≡ 0 → place_above q first ≤ temps → PlaceFits s n q → Has (near_access s q first) (near_offset s q + near_words s q)
  near_has (local site steps) first near l f = has_less (site_access s site) (near_offset s (local site steps) + near_words s (local site steps)) (site_width p site) f.2 (site_in site f.0)
  near_has (global number steps) first near l f = absurd (omega (arith, near))
  near_has (indirect e x m steps) first near l f = let k = steps_from p (first + 1) steps in omega (arith, k, l)
  near_has (slice_element e x i m steps) first near l f = absurd (omega (arith, near))

  place_has : (q : Pl) (first at : ℕ) → AddressFits temps at q → place_above q first ≤ temps → PlaceFits s n q → Has (access s q first at) (near_offset s q + near_words s q)
  place_has q first at a l f = by (far q) refl
    where
      by : (k : ℕ) → far q ≡ k → Has (access_by s q k first at) (near_offset s q + near_words s q)
      by zero near = near_has q first near l f
      by (suc k) away = omega (arith, a, away)

  fetch_ok : (q : Pl) (first at h : ℕ) (is : List Instr) → h + near_words s q ≤ temps → PlaceFits s n q → AddressFits temps at q → place_above q first ≤ temps → Are is → Are (fetch_code s q first at h ∷ is)
  fetch_ok q first at h is l f a b g = fetched_ok (access s q first at) (near_offset s q) (near_words s q) (temp s h) is f.1 (place_has q first at a b f) (omega (arith, l)) g

  land_ok : (q : Pl) (first at h : ℕ) (is : List Instr) → h + near_words s q ≤ temps → PlaceFits s n q → AddressFits temps at q → place_above q first ≤ temps → Are is → Are (land_code s q first at h ∷ is)
  land_ok q first at h is l f a b g = landed_ok (access s q first at) (near_offset s q) (near_words s q) (temp s h) is f.1 (place_has q first at a b f) (omega (arith, l)) g

  -- the address of a place after its operands, which are in temps from h on
  read_ok : (q : Pl) (h : ℕ) → h + near_words s q ≤ temps → PlaceFits s n q → AddressFits temps (place_above q h) q → Are (read_code s q (place_above q h) h)
  read_ok q h l f a = let at = place_above q h in address_ok q h at (fetch_code s q h at h ∷ []) a (omega (arith, a)) f (fetch_ok q h at h [] l f a (omega (arith, a)) tt)

  pointing_ok : (q : Pl) (h : ℕ) → h < temps → PlaceFits s n q → AddressFits temps (place_above q h) q → Are (pointing_code s q (place_above q h) h)
  pointing_ok q h l f a =
      let at = place_above q h in
      address_ok q h at (point_code s q h at h ∷ []) a (omega (arith, a)) f (pointed_to_ok (access s q h at) (near_offset s q) (near_words s q) (temp s h) [] f.1 (place_has q h at a (omega (arith, a)) f) (omega (arith, l)) tt)

  write_ok : (q : Pl) (first at h : ℕ) → h + near_words s q ≤ temps → PlaceFits s n q → AddressFits temps at q → place_above q first ≤ temps → Are (write_code s q first at h)
  write_ok q first at h l f a b = address_ok q first at (land_code s q first at h ∷ []) a b f (land_ok q first at h [] l f a b tt)

  -- what puts a slice together: its header takes three temps from h on
  put_ok : (words h : ℕ) → h + 3 + words ≤ temps → Are (elements_put s words h)
  put_ok zero h l = tt
  put_ok (suc words) h l = ((omega arith, omega (arith, l), omega (arith, l)), tt)

  sliced_ok : (site k words h : ℕ) → h + 3 + words ≤ temps → Are (sliced_code s site k words h)
  sliced_ok site k words h l =
      let last : List Instr = Const (temp s (h + 1)) k ∷ Const (temp s (h + 2)) k ∷ [] in
      (omega (arith, l), join (elements_put s words h) last (put_ok words h l) (omega (arith, l), (omega (arith, l), tt)))

  append_ok : (site k h : ℕ) → 0 < site_words s site → h + 3 + k * site_words s site ≤ temps → Are (append_code s site k h ∷ [])
  append_ok site zero h some l = ((omega arith, omega (arith, l), omega (arith, l)), tt)
  append_ok site (suc k) h some l = ((omega (arith, some), omega (arith, l), omega (arith, l), omega (arith, l)), tt)

  room_ok : (b : Bound) (h : ℕ) → h + 3 ≤ temps → Are (room_code s b h)
  room_ok absent h l = ((omega arith, omega (arith, l), omega (arith, l)), tt)
  room_ok (bound e) h l = tt

  low_ok : (b : Bound) (h : ℕ) → h + 5 ≤ temps → Are (low_code s b h)
  low_ok absent h l = (omega (arith, l), tt)
  low_ok (bound e) h l = tt

  high_ok : (b : Bound) (h : ℕ) → h + 5 ≤ temps → Are (high_code s b h)
  high_ok absent h l = ((omega arith, omega (arith, l), omega (arith, l)), tt)
  high_ok (bound e) h l = tt

  cut_ok : (low high : Bound) (w h : ℕ) → 0 < w → h + 5 ≤ temps → Are (cut_code s low high w h)
  cut_ok low high w h some l =
      let last : List Instr = Slice (temp s h) (temp s h) (temp s (h + 3)) w ∷ [] in
      join (low_code s low h) (high_code s high h ++ last) (low_ok low h l)
      (join (high_code s high h) last (high_ok high h l) ((omega (arith, some), omega (arith, l), omega (arith, l), omega (arith, l)), tt))

  -- a bound ends before the code of what stands in its place
  bound_within : (b : Bound) (pc : ℕ) → (pc ≤ bound_end p b pc) × (bound_end p b pc ≤ pc + bound_size p b)
  bound_within absent pc = (omega arith, omega arith)
  bound_within (bound e) pc = (omega arith, omega arith)

  mutual
    ex_ok : (e : Ex) (h pc : ℕ) → Fits p s n h e → start ≤ pc → pc + size p e < end → Are (ex_code p s e h pc)
    ex_ok (constant v) h pc f a l = (omega arith, tt)
    ex_ok (read q) h pc f a l = join (place_code p s q h pc) (read_code s q (place_above q h) h) (place_ok q h pc (address_size q + 1) f.3 a l) (read_ok q h f.0 f.1 f.2)
    ex_ok (unary op e) h pc f a l = join (ex_code p s e h pc) (unary_code op (temp s h) ∷ []) (ex_ok e h pc f.1 a (omega arith)) (unary_ok op h f.0)
    ex_ok (binary at o x y) h pc f a l =
        let k = f.1 in let w = wide p x in let c = compared p x y in let py = pc + size p x in let i = binary_code o c (temp s h) (temp s (h + w)) in
        join (ex_code p s x h pc) (ex_code p s y (h + w) py ++ i ∷ []) (ex_ok x h pc f.2 a (omega arith))
        (join (ex_code p s y (h + w) py) (i ∷ []) (ex_ok y (h + w) py f.3 (omega arith) (omega arith)) (binary_ok o c (temp s h) (temp s (h + w)) f.0 (omega (arith, k)) (omega (arith, k))))
    ex_ok (logical_and x y) h pc f a l =
        let k = f.0 in let py = pc + size p x + 1 in
        join (ex_code p s x h pc) (JumpZero (temp s h) (py + size p y) ∷ ex_code p s y h py) (ex_ok x h pc f.1 a (omega arith))
        ((omega arith, (omega arith, omega arith)), ex_ok y h py f.2 (omega arith) (omega arith))
    ex_ok (logical_or x y) h pc f a l =
        let k = f.0 in let py = pc + size p x + 2 in
        join (ex_code p s x h pc) (JumpZero (temp s h) py ∷ Jump (py + size p y) ∷ ex_code p s y h py) (ex_ok x h pc f.1 a (omega arith))
        ((omega arith, (omega arith, omega arith)), ((omega arith, omega arith), ex_ok y h py f.2 (omega arith) (omega arith)))
    ex_ok (call g es) h pc f a l = join (exs_code p s es h pc) (call_code p s g h) (exs_ok es h pc f.1 a (omega arith)) (call_ok g h f.0)
    ex_ok (part_of m i e) h pc f a l =
        let t = type_named p m in let w = width (part_type t i) in let k = f.1 in let from = temp s (h + part_offset t i) in
        join (ex_code p s e h pc) (Move Silent (temp s h) from w ∷ []) (ex_ok e h pc f.2 a (omega arith)) (moved_ok Silent w (temp s h) from [] f.0 (omega (arith, k)) (omega (arith, k)) tt)
    ex_ok (literal m es) h pc f a l =
        let t = type_named p m in let k = f.1 in zeroed_ok (width t) (temp s h) (elements_code p s t (ascend es) es h (pc + 1)) f.0 (omega (arith, k)) (elements_ok t (ascend es) es h (pc + 1) f.2 (omega arith) (omega arith))
    ex_ok (nil t) h pc f a l = let k = f.1 in zeroed_ok (width t) (temp s h) [] f.0 (omega (arith, k)) tt
    ex_ok (address_of q) h pc f a l = join (place_code p s q h pc) (pointing_code s q (place_above q h) h) (place_ok q h pc (address_size q + 1) f.3 a l) (pointing_ok q h f.0 f.1 f.2)
    ex_ok (new_variable site) h pc f a l = (omega arith, tt)
    ex_ok (literal_variable site e) h pc f a l =
        let w = site_words s site in let k = f.1 in
        join (ex_code p s e h pc) (new_code s site (h + w) h) (ex_ok e h pc f.2 a (omega arith))
        (omega (arith, k), ((omega (arith, solid site), omega (arith, k), omega (arith, k)), ((omega arith, omega (arith, k), omega (arith, k)), tt)))
    ex_ok (slice_literal site es) h pc f a l =
        let own = sliced_code s site (length (value_widths p es)) (all_wide p es) h in
        join (exs_code p s es (h + 3) pc) own (exs_ok es (h + 3) pc f.1 a (omega arith)) (sliced_ok site (length (value_widths p es)) (all_wide p es) h f.0)
    ex_ok (make at site count room) h pc f a l =
        let k = f.0 in let pb = pc + size p count in let own : List Instr = Make (temp s h) (site_words s site) site ∷ [] in
        join (ex_code p s count (h + 1) pc) (bound_code p s room (h + 2) pb ++ (room_code s room h ++ own)) (ex_ok count (h + 1) pc f.2 a (omega arith))
        (join (bound_code p s room (h + 2) pb) (room_code s room h ++ own) (bound_ok room (h + 2) pb f.3 (omega arith) (omega arith))
        (join (room_code s room h) own (room_ok room h k) ((f.1, omega (arith, k)), tt)))
    ex_ok (append site e es) h pc f a l =
        let pe = pc + size p e in let own = append_code s site (length (value_widths p es)) h in
        join (ex_code p s e h pc) (exs_code p s es (h + 3) pe ++ own ∷ []) (ex_ok e h pc f.2 a (omega arith))
        (join (exs_code p s es (h + 3) pe) (own ∷ []) (exs_ok es (h + 3) pe f.3 (omega arith) (omega arith)) (append_ok site (length (value_widths p es)) h f.1 f.0))
    ex_ok (append_slice site e other) h pc f a l =
        let k = f.0 in let pe = pc + size p e in let own : List Instr = Append Added.Slice (temp s h) (temp s h) (temp s (h + 3)) 0 (site_words s site) site ∷ [] in
        join (ex_code p s e h pc) (ex_code p s other (h + 3) pe ++ own) (ex_ok e h pc f.2 a (omega arith))
        (join (ex_code p s other (h + 3) pe) own (ex_ok other (h + 3) pe f.3 (omega arith) (omega arith)) ((f.1, omega (arith, k), omega (arith, k), (omega (arith, k), refl)), tt))
    ex_ok (copy m e other) h pc f a l =
        let k = f.0 in let pe = pc + size p e in let own : List Instr = Copy (temp s h) (temp s h) (temp s (h + 3)) (width (type_named p m)) ∷ [] in
        join (ex_code p s e h pc) (ex_code p s other (h + 3) pe ++ own) (ex_ok e h pc f.2 a (omega arith))
        (join (ex_code p s other (h + 3) pe) own (ex_ok other (h + 3) pe f.3 (omega arith) (omega arith)) ((f.1, omega (arith, k), omega (arith, k), omega (arith, k)), tt))
    ex_ok (slicing at m e low high) h pc f a l =
        let pl = pc + size p e in let within = bound_within low pl in let from = within.0 in let to_end = within.1 in let ph = bound_end p low pl in
        let cut = cut_code s low high (width (type_named p m)) h in
        join (ex_code p s e h pc) (bound_code p s low (h + 3) pl ++ (bound_code p s high (h + 4) ph ++ cut)) (ex_ok e h pc f.2 a (omega arith))
        (join (bound_code p s low (h + 3) pl) (bound_code p s high (h + 4) ph ++ cut) (bound_ok low (h + 3) pl f.3 (omega arith) (omega arith))
        (join (bound_code p s high (h + 4) ph) cut (bound_ok high (h + 4) ph f.4 (omega (arith, a, from)) (omega (arith, l, to_end))) (cut_ok low high (width (type_named p m)) h f.1 f.0)))
    ex_ok (array_slicing at q x low high) h pc f a l =
        let k = f.0 in let pl = pc + place_size p q (address_size q + 1) in let within = bound_within low pl in let from = within.0 in let to_end = within.1 in let ph = bound_end p low pl in
        let cut = cut_code s low high (element_words s q) h in let whole = whole_code s x h in let point = pointing_code s q (place_above q h) h in
        let bounds = bound_code p s low (h + 3) pl ++ (bound_code p s high (h + 4) ph ++ (whole ++ cut)) in
        join (place_code p s q h pc) (point ++ bounds) (place_ok q h pc (address_size q + 1) f.4 a (omega arith))
        (join point bounds (pointing_ok q h (omega (arith, k)) f.2 f.3)
        (join (bound_code p s low (h + 3) pl) (bound_code p s high (h + 4) ph ++ (whole ++ cut)) (bound_ok low (h + 3) pl f.5 (omega arith) (omega arith))
        (join (bound_code p s high (h + 4) ph) (whole ++ cut) (bound_ok high (h + 4) ph f.6 (omega (arith, a, from)) (omega (arith, l, to_end)))
        (join whole cut (omega (arith, k), (omega (arith, k), tt)) (cut_ok low high (element_words s q) h f.1 k)))))
    ex_ok (len e) h pc f a l =
        let k = f.0 in join (ex_code p s e h pc) (Move Silent (temp s h) (temp s (h + 1)) 1 ∷ []) (ex_ok e h pc f.1 a (omega arith)) ((omega arith, omega (arith, k), omega (arith, k)), tt)
    ex_ok (cap e) h pc f a l =
        let k = f.0 in join (ex_code p s e h pc) (Move Silent (temp s h) (temp s (h + 2)) 1 ∷ []) (ex_ok e h pc f.1 a (omega arith)) ((omega arith, omega (arith, k), omega (arith, k)), tt)

    bound_ok : (b : Bound) (h pc : ℕ) → BoundFitsIn p s n h b → start ≤ pc → pc + bound_size p b < end → Are (bound_code p s b h pc)
    bound_ok absent h pc f a l = tt
    bound_ok (bound e) h pc f a l = ex_ok e h pc f.1 a l

    -- the operands of a place, and some instructions after them
    place_ok : (q : Pl) (h pc behind : ℕ) → OperandsFit p s n h q → start ≤ pc → pc + place_size p q behind < end → Are (place_code p s q h pc)
    place_ok (local site steps) h pc behind f a l = steps_ok steps h pc behind f a l
    place_ok (global g steps) h pc behind f a l = steps_ok steps h pc behind f a l
    place_ok (indirect at e m steps) h pc behind f a l =
        join (ex_code p s e h pc) (steps_code p s steps (h + 1) (pc + size p e)) (ex_ok e h pc f.1 a (omega arith)) (steps_ok steps (h + 1) (pc + size p e) behind f.2 (omega arith) (omega arith))
    place_ok (slice_element at e i m steps) h pc behind f a l =
        let pi = pc + size p e in let ps = pc + size p e + size p i in
        join (ex_code p s e h pc) (ex_code p s i (h + 3) pi ++ steps_code p s steps (h + 4) ps) (ex_ok e h pc f.1 a (omega arith))
        (join (ex_code p s i (h + 3) pi) (steps_code p s steps (h + 4) ps) (ex_ok i (h + 3) pi f.2 (omega arith) (omega arith)) (steps_ok steps (h + 4) ps behind f.3 (omega arith) (omega arith)))

    steps_ok : (steps : Steps) (h pc behind : ℕ) → StepsFitIn p s n h steps → start ≤ pc → pc + steps_size p steps behind < end → Are (steps_code p s steps h pc)
    steps_ok here h pc behind f a l = tt
    steps_ok (inner i steps) h pc behind f a l = steps_ok steps h pc behind f a l
    steps_ok (at_index at e m steps) h pc behind f a l =
        join (ex_code p s e h pc) (steps_code p s steps (h + 1) (pc + size p e)) (ex_ok e h pc f.1 a (omega arith)) (steps_ok steps (h + 1) (pc + size p e) behind f.2 (omega arith) (omega arith))

    elements_ok : (t : TypeTree) (in_order : Bool) (es : Elements) (h pc : ℕ) → ElementsFitIn p s n h t in_order es → start ≤ pc → pc + elements_size p t in_order es < end → Are (elements_code p s t in_order es h pc)
    elements_ok t in_order no_elements h pc f a l = tt
    elements_ok t true (element i e es) h pc f a l =
        let gap = gap_behind t i es in let k = f.0 in let behind = temp s (h + words_through t i) in let next = pc + size p e + gap_size gap in
        join (ex_code p s e (h + part_offset t i) pc) (gap_code gap behind ++ elements_code p s t true es h next) (ex_ok e (h + part_offset t i) pc f.1 a (omega arith))
        (join (gap_code gap behind) (elements_code p s t true es h next) (gap_ok gap behind (omega (arith, k))) (elements_ok t true es h next f.2 (omega arith) (omega arith)))
    elements_ok t false (element i e es) h pc f a l =
        let w = width (part_type t i) in let k = f.1 in let b = f.2 in let next = pc + size p e + 1 in
        let to_temp = temp s (h + part_offset t i) in let from = temp s (h + width t) in let others = elements_code p s t false es h next in
        join (ex_code p s e (h + width t) pc) (Move Silent to_temp from w ∷ others) (ex_ok e (h + width t) pc f.3 a (omega arith))
        (moved_ok Silent w to_temp from others f.0 (omega (arith, k)) (omega (arith, b)) (elements_ok t false es h next f.4 (omega arith) (omega arith)))

    exs_ok : (es : Exs) (h pc : ℕ) → ExsFitIn p s n h es → start ≤ pc → pc + exs_size p es < end → Are (exs_code p s es h pc)
    exs_ok none h pc f a l = tt
    exs_ok (more e es) h pc f a l =
        join (ex_code p s e h pc) (exs_code p s es (h + wide p e) (pc + size p e)) (ex_ok e h pc f.1 a (omega arith)) (exs_ok es (h + wide p e) (pc + size p e) f.2 (omega arith) (omega arith))
    exs_ok (results g es) h pc f a l = join (exs_code p s es h pc) (call_code p s g h) (exs_ok es h pc f.1 a (omega arith)) (call_ok g h f.0)
    exs_ok read_int h pc f a l = (omega arith, tt)

  ready_ok : (ls : List Left) (h pc behind : ℕ) → ReadyFitIn p s n h ls → start ≤ pc → pc + lefts_sized p ls behind < end → Are (ready_code p s ls h pc)
  ready_ok [] h pc behind f a l = tt
  ready_ok (blank ∷ ls) h pc behind f a l = ready_ok ls h pc behind f a l
  ready_ok (new site ∷ ls) h pc behind f a l = ready_ok ls h pc behind f a l
  ready_ok (to q ∷ ls) h pc behind f a l =
      let e = place_ends p q pc in let k = place_sum p q (lefts_sized p ls behind) in
      join (place_code p s q h pc) (ready_code p s ls (place_above q h) (place_end p q pc)) (place_ok q h pc (lefts_sized p ls behind) f.0 a l)
      (ready_ok ls (place_above q h) (place_end p q pc) behind f.1 (omega (arith, e, a)) (omega (arith, e, k, l)))

  pieces_ok : (ps : List Piece) (h pc : ℕ) → PiecesFitIn p s n h ps → start ≤ pc → pc + pieces_size p ps < end → Are (pieces_code p s ps h pc)
  pieces_ok [] h pc f a l = tt
  pieces_ok (text number ∷ ps) h pc f a l = pieces_ok ps h pc f a (omega arith)
  pieces_ok (shown t e ∷ ps) h pc f a l =
      join (ex_code p s e h pc) (pieces_code p s ps (h + 1) (pc + size p e)) (ex_ok e h pc f.1 a (omega arith)) (pieces_ok ps (h + 1) (pc + size p e) f.2 (omega arith) (omega arith))

  test_ok : (test : Option Ex) (h pc goal : ℕ) → TestFitsIn p s n h test → start ≤ pc → pc + test_size p test < end → Here goal → Are (test_code p s test h pc goal)
  test_ok None h pc goal f a l g = tt
  test_ok (Some e) h pc goal f a l g =
      let k = f.0 in join (ex_code p s e h pc) (JumpZero (temp s h) goal ∷ []) (ex_ok e h pc f.1 a (omega arith)) ((omega arith, g), tt)

  -- a value of any type
  value_ok : (t : TypeTree) (h : ℕ) (is : List Instr) → h < temps → Are is → Are (shown_code t (temp s h) ∷ is)
  value_ok ints h is l g = (omega arith, g)
  value_ok bools h is l g = (omega arith, g)
  value_ok (struct_of ts) h is l g = (omega arith, g)
  value_ok (array_of m t) h is l g = (omega arith, g)
  value_ok (pointer_to m) h is l g = (omega arith, g)
  value_ok (slice_of m) h is l g = (omega arith, g)

  raised_ok : (t : TypeTree) (h : ℕ) → h < temps → Are (raised_code t (temp s h) ∷ [])
  raised_ok ints h l = (omega arith, tt)
  raised_ok bools h l = (omega arith, tt)
  raised_ok (struct_of ts) h l = (omega arith, tt)
  raised_ok (array_of m t) h l = (omega arith, tt)
  raised_ok (pointer_to m) h l = (omega arith, tt)
  raised_ok (slice_of m) h l = (omega arith, tt)

  more_ok : (ps : List Piece) (h : ℕ) → PiecesFitIn p s n h ps → PiecesWithin strings ps → Are (show_more s ps h)
  more_ok [] h f w = (tt, tt)
  more_ok (text number ∷ ps) h f w = (tt, (w.0, more_ok ps h f w.1))
  more_ok (shown t e ∷ ps) h f w = (tt, value_ok t h (show_more s ps (h + 1)) f.0 (more_ok ps (h + 1) f.2 w.1))

  plain_ok : (ps : List Piece) (h : ℕ) → PiecesFitIn p s n h ps → PiecesWithin strings ps → Are (show_plain s ps h)
  plain_ok [] h f w = tt
  plain_ok (text number ∷ ps) h f w = (w.0, plain_ok ps h f w.1)
  plain_ok (shown t e ∷ ps) h f w = value_ok t h (show_plain s ps (h + 1)) f.0 (plain_ok ps (h + 1) f.2 w.1)

  shown_ok : (line : Bool) (ps : List Piece) (h : ℕ) → PiecesFitIn p s n h ps → PiecesWithin strings ps → Are (show_code s line ps h)
  shown_ok true [] h f w = (tt, tt)
  shown_ok true (text number ∷ ps) h f w = (w.0, more_ok ps h f w.1)
  shown_ok true (shown t e ∷ ps) h f w = value_ok t h (show_more s ps (h + 1)) f.0 (more_ok ps (h + 1) f.2 w.1)
  shown_ok false ps h f w = plain_ok ps h f w

  lefts_ok : (ns : List ℕ) (ls : List Left) (first at h : ℕ) → lefts_above ls first ≤ temps → LeftsFitIn s n at h ns ls → Are (lefts_code s ns ls first at h)
  lefts_ok ns [] first at h b f = tt
  lefts_ok ns (blank ∷ ls) first at h b f = lefts_ok (other_widths ns) ls first at (h + first_width ns) b f.3
  lefts_ok ns (new site ∷ ls) first at h b f =
      let l = f.0 in let k = f.2 in
      birth_ok site h (lefts_code s (other_widths ns) ls first at (h + first_width ns)) f.1 (omega (arith, l, k)) (lefts_ok (other_widths ns) ls first at (h + first_width ns) b f.3)
  lefts_ok ns (to q ∷ ls) first at h b f =
      let l = f.0 in let k = f.2 in let above = place_above q first in let c = lefts_from p ls above in
      join (write_code s q first at h) (lefts_code s (other_widths ns) ls above at (h + first_width ns)) (write_ok q first at h (omega (arith, l, k)) f.1.0 f.1.1 (omega (arith, b, c))) (lefts_ok (other_widths ns) ls above at (h + first_width ns) b f.3)

  -- the temps of the operands of the left side that gets an index
  key_above : (key : Left) (h : ℕ) → h ≤ temps → LeftFits s n (lefts_above (key ∷ []) h) key → lefts_above (key ∷ []) h ≤ temps
  key_above blank h l f = l
  key_above (new site) h l f = l
  key_above (to q) h l f = let a = f.1 in omega (arith, a)

  -- an element that is loaded by its address
  loaded_ok : (a b c x w : ℕ) → 0 < x → 0 < w → a + w ≤ room → b < room → c < room → Are (Index a b c x w ∷ Load a a 0 w ∷ [])
  loaded_ok a b c x w some wide l m k = ((omega (arith, some), omega (arith, wide), omega (arith, l, wide), m, k), ((omega (arith, wide), l, omega (arith, l, wide)), tt))

  -- the element of a site's array, by the index in temp h
  element_ok : (site x h v : ℕ) → SiteFits s n site → 0 < x → 0 < width (part_type (site_type s site) 0) → h < temps → v + 1 + width (part_type (site_type s site) 0) ≤ temps → Are (element_code s site x h v)
  element_ok site x h v f some wide k l =
      let w = width (part_type (site_type s site) 0) in let a = temp s (v + 1) in let i = temp s h in
      moved_ok Silent 1 (temp s v) i (local_root s site (v + 1) ∷ (Index a a i x w ∷ (Load a a 0 w ∷ []))) (omega arith) (omega (arith, l)) (omega (arith, k))
      (local_root_ok site (v + 1) (Index a a i x w ∷ (Load a a 0 w ∷ [])) f (omega (arith, l, wide)) (loaded_ok a a i x w some wide (omega (arith, l)) (omega (arith, l, wide)) (omega (arith, k))))

  -- that of an array that the pointer in temp h leads to, by the index above it
  pointed_ok : (x w h v : ℕ) → 0 < x → 0 < w → h + 1 < temps → v + 1 + w ≤ temps → Are (pointed_code s x w h v)
  pointed_ok x w h v some wide k l =
      let a = temp s (v + 1) in let i = temp s (h + 1) in
      moved_ok Silent 1 (temp s v) i (Index a (temp s h) i x w ∷ (Load a a 0 w ∷ [])) (omega arith) (omega (arith, l)) (omega (arith, k))
      (loaded_ok a (temp s h) i x w some wide (omega (arith, l)) (omega (arith, k)) (omega (arith, k)))

  -- that of the slice whose header is in temps from h on
  sliced_element_ok : (w h v : ℕ) → 0 < w → h + 4 < temps → v + 1 + w ≤ temps → Are (sliced_element_code s w h v)
  sliced_element_ok w h v wide k l =
      let a = temp s (v + 1) in let i = temp s (h + 3) in
      moved_ok Silent 1 (temp s v) i (SliceIndex a (temp s h) i w ∷ (Load a a 0 w ∷ [])) (omega arith) (omega (arith, l)) (omega (arith, k))
      ((omega (arith, wide), omega (arith, l, wide), omega (arith, k), omega (arith, k)), ((omega (arith, wide), omega (arith, l), omega (arith, l, wide)), tt))

  -- a round over it
  sliced_pair_ok : (w : ℕ) (key value : Left) (h pc : ℕ) → 0 < w → h + 4 < temps → (let v = lefts_above (key ∷ value ∷ []) (h + 4) in ReadyFitIn p s n (h + 4) (key ∷ value ∷ []) × (v + 1 + w ≤ temps) × LeftsFitIn s n (v + 1 + w) v (1 ∷ w ∷ []) (key ∷ value ∷ []))
      → start ≤ pc → pc + lefts_sized p (key ∷ value ∷ []) (3 + lefts_size (key ∷ value ∷ [])) < end → Are (sliced_pair_code p s w key value h pc)
  sliced_pair_ok w key value h pc wide k (ready_fit, above, lefts_fit) a l =
      let ls = key ∷ value ∷ [] in let v = lefts_above ls (h + 4) in
      let ready = ready_code p s ls (h + 4) pc in let element = sliced_element_code s w h v in let lefts = lefts_code s (1 ∷ w ∷ []) ls (h + 4) (v + 1 + w) v in
      join ready (element ++ lefts) (ready_ok ls (h + 4) pc (3 + lefts_size ls) ready_fit a l)
      (join element lefts (sliced_element_ok w h v wide k above) (lefts_ok (1 ∷ w ∷ []) ls (h + 4) (v + 1 + w) v (omega (arith, above)) lefts_fit))

  slice_round_ok : (w : ℕ) (key value : Left) (h pc : ℕ) → 0 < w → h + 4 < temps → SliceRoundFits p s n w h key value → start ≤ pc → pc + slice_round_size p key value < end → Are (slice_round_code p s w key value h pc)
  slice_round_ok w key blank h pc wide k f a l =
      let same : h + 4 ≡ h + 3 + 1 = omega arith in
      let ready = λ (g : ℕ). ready_code p s (key ∷ []) g pc in let lefts = λ (g : ℕ). lefts_code s (1 ∷ []) (key ∷ []) g (lefts_above (key ∷ []) g) (h + 3) in
      subst (λ (g : ℕ). Are (ready g ++ lefts g)) same
      (join (ready (h + 4)) (lefts (h + 4)) (ready_ok (key ∷ []) (h + 4) pc (lefts_size (key ∷ [])) f.0 a l)
      (lefts_ok (1 ∷ []) (key ∷ []) (h + 4) (lefts_above (key ∷ []) (h + 4)) (h + 3) (key_above key (h + 4) (omega (arith, k)) f.1) (omega (arith, k), f.1, f.2, tt)))
  slice_round_ok w key (new site) h pc wide k f a l = sliced_pair_ok w key (new site) h pc wide k f a l
  slice_round_ok w key (to q) h pc wide k f a l = sliced_pair_ok w key (to q) h pc wide k f a l

  -- the rounds over an array's indices
  array_ok : (x h test behind : ℕ) (round body : List Instr) → h + 1 < temps → Here test → Here behind → Are round → Are body → Are (array_code s x h test behind round body)
  array_ok x h test behind round body l t b r k =
      let last : List Instr = Const (temp s (h + 1)) 1 ∷ Bin Word.Add (temp s h) (temp s h) (temp s (h + 1)) ∷ Jump test ∷ [] in (
        omega (arith, l),
        (
          omega (arith, l),
          (
            (omega (arith, l), omega (arith, l), omega (arith, l)),
            ((omega (arith, l), b), join round (body ++ last) r (join body last k (omega (arith, l), ((omega (arith, l), omega (arith, l), omega (arith, l)), (t, tt))))),
          ),
        ),
      )

  named_write_ok : (sites : List ℕ) (h : ℕ) → SitesFit s n sites → h + sites_words s sites ≤ temps → Are (named_write_code s sites h)
  named_write_ok [] h f l = tt
  named_write_ok (site ∷ sites) h f l =
      let w = site_width p site in landed_ok (site_access s site) 0 w (temp s h) (named_write_code s sites (h + w)) (solid site) (whole_in site f.0) (omega (arith, l)) (named_write_ok sites (h + w) f.1 (omega (arith, l)))

  named_read_ok : (sites : List ℕ) (i : ℕ) → SitesFit s n sites → MovesFit s 0 sites → i + sites_words s sites ≤ arguments + wanted → Are (named_read_code s sites i)
  named_read_ok [] i f m l = tt
  named_read_ok (site ∷ sites) i f m l =
      let w = site_width p site in let rest = named_read_code s sites (i + w) in let k = m.0 in
      fetched_ok (site_access s site) 0 w (temp s 0) (Incoming FromSlots (temp s 0) i w ∷ rest) (solid site) (whole_in site f.0) (omega (arith, k))
      ((omega (arith, solid site), omega (arith, k), omega (arith, l)), named_read_ok sites (i + w) f.1 m.1 (omega (arith, l)))

  leave_ok : (named : List ℕ) → SitesFit s n named → MovesFit s 0 named → sites_words s named ≤ wanted → Are (leave_code s arguments named)
  leave_ok named f m l = join (named_read_code s named arguments) (Return ∷ []) (named_read_ok named arguments f m (omega arith)) (tt, tt)

  values_ok : (named : List ℕ) (k h : ℕ) → SitesFit s n named → ValuesFit s wanted h k named → Are (values_code s arguments k named h)
  values_ok [] k h f v = let a = v.0 in let b = v.1 in result_ok k (temp s h) arguments (omega (arith, a)) (omega (arith, b))
  values_ok (site ∷ sites) zero h f v = tt
  values_ok (site ∷ sites) (suc k) h f v = named_write_ok (site ∷ sites) h f v

  param_ok : (site i m : ℕ) (is : List Instr) → SiteFits s n site → site_width p site ≡ m → (pl.on_heap site ≡ true → m ≤ temps) → i + m ≤ arguments → Are is → Are (param_code s site i m ++ is)
  param_ok site i m is f same through l k = by (pl.on_heap site) refl
    where
      some : 0 < m
      some = let words = solid site in omega (arith, words, same)

      by : (heap : Bool) → pl.on_heap site ≡ heap → Are (param_by heap s site i m ++ is)
      by true apart =
          let t = through apart in let c = cell_in site f apart in
          born_ok site (Incoming ToSlots (temp s 0) i m ∷ Store Stored.Silent (cell_slot s site) 0 (temp s 0) m ∷ is) f
          ((omega (arith, some), omega (arith, t), omega (arith, l)), ((omega (arith, some), c, omega (arith, t)), k))
      by false stays =
          let own = site_within s n site stays f in born_ok site (Incoming ToSlots (site_slot s site) i m ∷ is) f ((omega (arith, some), omega (arith, own, same), omega (arith, l)), k)

  params_ok : (ts : List TypeTree) (ps : List (Option ℕ)) (i : ℕ) → ParamsFitIn s n (each_width ts) ps → i + all_width ts ≤ arguments → Are (params_code s (each_width ts) ps i)
  params_ok ts [] i f l = tt
  params_ok [] (None ∷ ps) i f l = params_ok [] ps (i + 0) f.2 (omega (arith, l))
  params_ok [] (Some site ∷ ps) i f l = absurd (let some = solid site in let none = f.1.0 in omega (arith, some, none))
  params_ok (t ∷ ts) (None ∷ ps) i f l = params_ok ts ps (i + width t) f.2 (omega (arith, l))
  params_ok (t ∷ ts) (Some site ∷ ps) i f l =
      param_ok site i (width t) (params_code s (each_width ts) ps (i + width t)) f.0 f.1.0 f.1.1 (omega (arith, l)) (params_ok ts ps (i + width t) f.2 (omega (arith, l)))

  zeros_ok : (sites : List ℕ) → SitesFit s n sites → Are (zeros_code s sites)
  zeros_ok [] f = tt
  zeros_ok (site ∷ sites) f = born_ok site (zeros_code s sites) f.0 (zeros_ok sites f.1)

  renewal_ok : (sites : List ℕ) (h : ℕ) → SitesFit s n sites → MovesFit s h sites → Are (renew_code s sites h)
  renewal_ok [] h f r = tt
  renewal_ok (site ∷ sites) h f r =
      let w = site_width p site in let k = r.0 in let rest = renew_code s sites h in
      fetched_ok (site_access s site) 0 w (temp s h) (birth_code s site h ++ rest) (solid site) (whole_in site f.0) (omega (arith, k)) (birth_ok site h rest f.0 (omega (arith, k)) (renewal_ok sites h f.1 r.1))

  module _ (named : List ℕ) (sites : SitesFit s n named) (moves : MovesFit s 0 named) (names : sites_words s named ≤ wanted) where
    abbrev st_len : St → ℕ
    st_len t = st_size p arguments named t

    abbrev sts_len : Sts → ℕ
    sts_len ss = sts_size p arguments named ss

    abbrev code : Sts → (h out again pc : ℕ) → List Instr
    code ss h out again pc = sts_code p arguments named s ss h out again pc

    -- inside a loop, `break` and `continue` have places to go to
    abbrev Around : (looped : Bool) (out again : ℕ) → Type 0
    Around looped out again = looped ≡ true → Here out × Here again

    mutual
      st_ok : (looped : Bool) (t : St) (h out again pc : ℕ) → StFitsIn p s n wanted named h t → StWithin strings looped t → Around looped out again → start ≤ pc → pc + st_len t < end → Are (st_code p arguments named s t h out again pc)
      st_ok looped (declare births) h out again pc f w r a l = zeros_ok births f
      st_ok looped (assign ls es) h out again pc f w r a l =
          let ns = value_widths p es in let first = lefts_above ls h in let at = first + all_wide p es in let behind = exs_size p es + lefts_size ls in
          let e = lefts_ends p ls pc in let k = lefts_sum p ls behind in let room_left = f.0 in
          join (ready_code p s ls h pc) (exs_code p s es first (lefts_end p ls pc) ++ lefts_code s ns ls h at first) (ready_ok ls h pc behind f.1 a l)
          (join (exs_code p s es first (lefts_end p ls pc)) (lefts_code s ns ls h at first) (exs_ok es first (lefts_end p ls pc) f.2 (omega (arith, e, a)) (omega (arith, e, k, l))) (lefts_ok ns ls h at first (omega (arith, room_left)) f.3))
      st_ok looped (update at q o e) h out again pc f w r a l =
          let k = f.0 in let one = f.2 in let at = place_above q h in let v = above_address (far q) at in let sum = above_sum q at in
          let pe = place_end p q pc + (address_size q + 1) in let behind = address_size q + 1 + size p e + 1 + 1 in
          let ends = place_ends p q pc in let sizes = place_sum p q behind in
          let i = Bin (operation o) (temp s v) (temp s v) (temp s (v + 1)) in let ce = ex_code p s e (v + 1) pe in let cl = land_code s q h at v in
          let address : AddressFits temps at q = omega (arith, sum, k) in
          join (place_code p s q h pc) (address_code s q h at ++ fetch_code s q h at v ∷ (ce ++ i ∷ (cl ∷ []))) (place_ok q h pc behind f.3 a l)
          (address_ok q h at (fetch_code s q h at v ∷ (ce ++ i ∷ (cl ∷ []))) address (omega (arith, address)) f.1
          (fetch_ok q h at v (ce ++ i ∷ (cl ∷ [])) (omega (arith, k, one)) f.1 address (omega (arith, address))
          (join ce (i ∷ (cl ∷ [])) (ex_ok e (v + 1) pe f.4 (omega (arith, ends, a)) (omega (arith, ends, sizes, l)))
          ((omega (arith, k), omega (arith, k), omega (arith, k)), land_ok q h at v [] (omega (arith, k, one)) f.1 address (omega (arith, address)) tt))))
      st_ok looped (bump at q o) h out again pc f w r a l =
          let k = f.0 in let one = f.2 in let at = place_above q h in let v = above_address (far q) at in let sum = above_sum q at in
          let i = Bin (operation o) (temp s v) (temp s v) (temp s (v + 1)) in let c1 = Const (temp s (v + 1)) 1 in let cl = land_code s q h at v in
          let address : AddressFits temps at q = omega (arith, sum, k) in
          join (place_code p s q h pc) (address_code s q h at ++ fetch_code s q h at v ∷ (c1 ∷ (i ∷ (cl ∷ [])))) (place_ok q h pc (address_size q + 1 + 2 + 1) f.3 a l)
          (address_ok q h at (fetch_code s q h at v ∷ (c1 ∷ (i ∷ (cl ∷ [])))) address (omega (arith, address)) f.1
          (fetch_ok q h at v (c1 ∷ (i ∷ (cl ∷ []))) (omega (arith, k, one)) f.1 address (omega (arith, address))
          (omega (arith, k), ((omega (arith, k), omega (arith, k), omega (arith, k)), land_ok q h at v [] (omega (arith, k, one)) f.1 address (omega (arith, address)) tt))))
      st_ok looped (discard es) h out again pc f w r a l = exs_ok es h pc f a l
      st_ok looped (block ss) h out again pc f w r a l = sts_ok looped ss h out again pc f w r a l
      st_ok looped (if_stmt e x y) h out again pc f w r a l =
          let k = f.0 in let pa = pc + size p e + 1 in let pb = pa + sts_len x + 1 in
          join (ex_code p s e h pc) (JumpZero (temp s h) pb ∷ (code x h out again pa ++ Jump (pb + sts_len y) ∷ code y h out again pb)) (ex_ok e h pc f.1 a (omega arith)) (
            (omega arith, (omega arith, omega arith)),
            join (code x h out again pa) (Jump (pb + sts_len y) ∷ code y h out again pb) (sts_ok looped x h out again pa f.2 w.0 r (omega arith) (omega arith))
                ((omega arith, omega arith), sts_ok looped y h out again pb f.3 w.1 r (omega arith) (omega arith)),
          )
      st_ok looped (for_stmt births test post body) h out again pc f w r a l =
          let inside = pc + test_size p test in
          let turn = inside + sts_len body in
          let last = turn + renew_size births in
          let behind = last + sts_len post + 1 in
          let here_behind : Here behind = (omega arith, omega arith) in
          let here_turn : Here turn = (omega arith, omega arith) in
          let cb = code body h behind turn inside in let cr = renew_code s births h in let cp = code post h behind turn last in
          join (test_code p s test h pc behind) (cb ++ (cr ++ (cp ++ Jump pc ∷ []))) (test_ok test h pc behind f.0 a (omega arith) here_behind)
          (join cb (cr ++ (cp ++ Jump pc ∷ [])) (sts_ok true body h behind turn inside f.4 w.1 (λ e. (here_behind, here_turn)) (omega arith) (omega arith))
          (join cr (cp ++ Jump pc ∷ []) (renewal_ok births h f.1 f.2)
          (join cp (Jump pc ∷ []) (sts_ok false post h behind turn last f.3 w.0 (λ e. (here_behind, here_turn)) (omega arith) (omega arith)) ((omega arith, omega arith), tt))))
      st_ok looped (range (over_int e) key value body) h out again pc f w r a l =
          let k = f.0 in
          let test = pc + size p e + 1 in
          let first = lefts_above (key ∷ []) (h + 2) in
          let sized = lefts_sized p (key ∷ []) (lefts_size (key ∷ [])) in
          let inside = test + 2 + sized in
          let turn = inside + sts_len body in
          let behind = turn + 3 in
          let here_behind : Here behind = (omega arith, omega arith) in
          let here_turn : Here turn = (omega arith, omega arith) in
          let ready = ready_code p s (key ∷ []) (h + 2) (test + 2) in let lefts = lefts_code s (1 ∷ []) (key ∷ []) (h + 2) first (h + 1) in
          let cl = ready ++ lefts in let cb = code body (h + 2) behind turn inside in
          let last : List Instr = Const (temp s (h + 2)) 1 ∷ Bin Word.Add (temp s (h + 1)) (temp s (h + 1)) (temp s (h + 2)) ∷ Jump test ∷ [] in
          join (ex_code p s e h pc) (Const (temp s (h + 1)) 0 ∷ Bin Word.Less (temp s (h + 2)) (temp s (h + 1)) (temp s h) ∷ JumpZero (temp s (h + 2)) behind ∷ (cl ++ (cb ++ last))) (ex_ok e h pc f.1 a (omega arith)) (
            omega arith,
            (
              (omega arith, omega arith, omega arith),
              (
                (omega arith, here_behind),
                join cl (cb ++ last)
                    (join ready lefts (ready_ok (key ∷ []) (h + 2) (test + 2) (lefts_size (key ∷ [])) f.2 (omega arith) (omega arith)) (lefts_ok (1 ∷ []) (key ∷ []) (h + 2) first (h + 1) (key_above key (h + 2) (omega (arith, k)) f.3) (omega arith, f.3, f.4, tt)))
                    (join cb last (sts_ok true body (h + 2) behind turn inside f.5 w (λ e. (here_behind, here_turn)) (omega arith) (omega arith))
                    (omega arith, ((omega arith, omega arith, omega arith), ((omega arith, omega arith), tt)))),
              ),
            ),
          )
      st_ok looped (range (over_length x) key value body) h out again pc f w r a l =
          let k = f.0 in
          let first = lefts_above (key ∷ []) (h + 1) in
          let inside = pc + 4 + lefts_sized p (key ∷ []) (lefts_size (key ∷ [])) in
          let turn = inside + sts_len body in
          let behind = turn + 3 in
          let here_behind : Here behind = (omega arith, omega arith) in
          let here_turn : Here turn = (omega arith, omega arith) in
          let ready = ready_code p s (key ∷ []) (h + 1) (pc + 4) in let lefts = lefts_code s (1 ∷ []) (key ∷ []) (h + 1) first h in
          array_ok x h (pc + 1) behind (ready ++ lefts) (code body (h + 1) behind turn inside) k (omega arith, omega arith) here_behind
          (join ready lefts (ready_ok (key ∷ []) (h + 1) (pc + 4) (lefts_size (key ∷ [])) f.1 (omega arith) (omega arith)) (lefts_ok (1 ∷ []) (key ∷ []) (h + 1) first h (key_above key (h + 1) (omega (arith, k)) f.2) (omega (arith, k), f.2, f.3, tt)))
          (sts_ok true body (h + 1) behind turn inside f.4 w (λ e. (here_behind, here_turn)) (omega arith) (omega arith))
      st_ok looped (range (over_copy site e x) key value body) h out again pc f w r a l =
          let k = f.0 in let words = f.2 in let above = f.8 in
          let ls = key ∷ value ∷ [] in let v = lefts_above ls (h + 1) in let wide = width (part_type (site_type s site) 0) in
          let begin = pc + size p e + 2 in
          let inside = begin + 4 + lefts_sized p ls (4 + lefts_size ls) in
          let turn = inside + sts_len body in
          let behind = turn + 3 in
          let here_behind : Here behind = (omega arith, omega arith) in
          let here_turn : Here turn = (omega arith, omega arith) in
          let ready = ready_code p s ls (h + 1) (begin + 4) in let element = element_code s site x h v in let lefts = lefts_code s (1 ∷ wide ∷ []) ls (h + 1) (v + 1 + wide) v in
          let cb = code body (h + 1) behind turn inside in
          let rounds = array_code s x h (begin + 1) behind (ready ++ (element ++ lefts)) cb in
          join (ex_code p s e h pc) (birth_code s site h ++ rounds) (ex_ok e h pc f.6 a (omega arith))
          (birth_ok site h rounds f.1 (omega (arith, words))
          (array_ok x h (begin + 1) behind (ready ++ (element ++ lefts)) cb k (omega arith, omega arith) here_behind
          (join ready (element ++ lefts) (ready_ok ls (h + 1) (begin + 4) (4 + lefts_size ls) f.7 (omega arith) (omega arith))
          (join element lefts (element_ok site x h v f.1 f.3 f.5 (omega (arith, k)) above) (lefts_ok (1 ∷ wide ∷ []) ls (h + 1) (v + 1 + wide) v (omega (arith, above)) f.9)))
          (sts_ok true body (h + 1) behind turn inside f.10 w (λ e. (here_behind, here_turn)) (omega arith) (omega arith))))
      st_ok looped (range (over_pointer at e x t) key value body) h out again pc f w r a l =
          let k = f.0 in let above = f.6 in
          let ls = key ∷ value ∷ [] in let v = lefts_above ls (h + 2) in let wide = width (type_named p t) in
          let begin = pc + size p e in
          let inside = begin + 4 + lefts_sized p ls (3 + lefts_size ls) in
          let turn = inside + sts_len body in
          let behind = turn + 3 in
          let here_behind : Here behind = (omega arith, omega arith) in
          let here_turn : Here turn = (omega arith, omega arith) in
          let ready = ready_code p s ls (h + 2) (begin + 4) in let element = pointed_code s x wide h v in let lefts = lefts_code s (1 ∷ wide ∷ []) ls (h + 2) (v + 1 + wide) v in
          let cb = code body (h + 2) behind turn inside in
          let rounds = array_code s x (h + 1) (begin + 1) behind (ready ++ (element ++ lefts)) cb in
          join (ex_code p s e h pc) rounds (ex_ok e h pc f.4 a (omega arith))
          (array_ok x (h + 1) (begin + 1) behind (ready ++ (element ++ lefts)) cb (omega (arith, k)) (omega arith, omega arith) here_behind
          (join ready (element ++ lefts) (ready_ok ls (h + 2) (begin + 4) (3 + lefts_size ls) f.5 (omega arith) (omega arith))
          (join element lefts (pointed_ok x wide h v f.2 f.3 (omega (arith, k)) above) (lefts_ok (1 ∷ wide ∷ []) ls (h + 2) (v + 1 + wide) v (omega (arith, above)) f.7)))
          (sts_ok true body (h + 2) behind turn inside f.8 w (λ e. (here_behind, here_turn)) (omega arith) (omega arith)))
      st_ok looped (range (over_pointed x) key value body) h out again pc f w r a l =
          let k = f.0 in let same : h + 1 + 1 ≡ h + 2 = omega arith in
          let first = lefts_above (key ∷ []) (h + 2) in
          let inside = pc + 4 + lefts_sized p (key ∷ []) (lefts_size (key ∷ [])) in
          let turn = inside + sts_len body in
          let behind = turn + 3 in
          let here_behind : Here behind = (omega arith, omega arith) in
          let here_turn : Here turn = (omega arith, omega arith) in
          let ready = λ (g : ℕ). ready_code p s (key ∷ []) g (pc + 4) in let lefts = λ (g : ℕ). lefts_code s (1 ∷ []) (key ∷ []) g (lefts_above (key ∷ []) g) (h + 1) in
          let round : Are (ready (h + 2) ++ lefts (h + 2)) =
          join (ready (h + 2)) (lefts (h + 2)) (ready_ok (key ∷ []) (h + 2) (pc + 4) (lefts_size (key ∷ [])) f.1 (omega arith) (omega arith)) (lefts_ok (1 ∷ []) (key ∷ []) (h + 2) first (h + 1) (key_above key (h + 2) (omega (arith, k)) f.2) (omega (arith, k), f.2, f.3, tt)) in
          array_ok x (h + 1) (pc + 1) behind (ready (h + 1 + 1) ++ lefts (h + 1 + 1)) (code body (h + 2) behind turn inside) (omega (arith, k)) (omega arith, omega arith) here_behind
          (subst (λ (g : ℕ). Are (ready g ++ lefts g)) (sym same) round)
          (sts_ok true body (h + 2) behind turn inside f.4 w (λ e. (here_behind, here_turn)) (omega arith) (omega arith))
      st_ok looped (range (over_slice e t) key value body) h out again pc f w r a l =
          let k = f.0 in let wide = width (type_named p t) in
          let test = pc + size p e + 1 in
          let inside = test + 2 + slice_round_size p key value in
          let turn = inside + sts_len body in
          let behind = turn + 3 in
          let here_behind : Here behind = (omega arith, omega arith) in
          let here_turn : Here turn = (omega arith, omega arith) in
          let i = temp s (h + 3) in let above = temp s (h + 4) in
          let round = slice_round_code p s wide key value h (test + 2) in let cb = code body (h + 4) behind turn inside in
          let last : List Instr = Const above 1 ∷ Bin Word.Add i i above ∷ Jump test ∷ [] in
          join (ex_code p s e h pc) (Const i 0 ∷ Bin Word.Less above i (temp s (h + 1)) ∷ JumpZero above behind ∷ (round ++ (cb ++ last))) (ex_ok e h pc f.2 a (omega arith)) (
            omega (arith, k),
            (
              (omega (arith, k), omega (arith, k), omega (arith, k)),
              (
                (omega (arith, k), here_behind),
                join round (cb ++ last) (slice_round_ok wide key value h (test + 2) f.1 k f.3 (omega arith) (omega arith))
                    (join cb last (sts_ok true body (h + 4) behind turn inside f.4 w (λ e. (here_behind, here_turn)) (omega arith) (omega arith))
                    (omega (arith, k), ((omega (arith, k), omega (arith, k), omega (arith, k)), ((omega arith, omega arith), tt)))),
              ),
            ),
          )
      st_ok looped break_stmt h out again pc f w r a l = ((r w).0, tt)
      st_ok looped continue_stmt h out again pc f w r a l = ((r w).1, tt)
      st_ok looped (return_stmt es) h out again pc f w r a l =
          let values = values_code s arguments (all_wide p es) named h in let leave = leave_code s arguments named in
          join (exs_code p s es h pc) (values ++ leave) (exs_ok es h pc f.0 a (omega arith)) (join values leave (values_ok named (all_wide p es) h sites f.1) (leave_ok named sites moves names))
      st_ok looped (print line ps) h out again pc f w r a l = join (pieces_code p s ps h pc) (show_code s line ps h) (pieces_ok ps h pc f a (omega arith)) (shown_ok line ps h f w)
      st_ok looped (panic at (text number)) h out again pc f w r a l = (w, tt)
      st_ok looped (panic at (shown t e)) h out again pc f w r a l = join (ex_code p s e h pc) (raised_code t (temp s h) ∷ []) (ex_ok e h pc f.1 a (omega arith)) (raised_ok t h f.0)
      st_ok looped (exit at e) h out again pc f w r a l = let k = f.0 in join (ex_code p s e h pc) (Exit (temp s h) ∷ []) (ex_ok e h pc f.1 a (omega arith)) (omega arith, tt)

      sts_ok : (looped : Bool) (ss : Sts) (h out again pc : ℕ) → StsFitIn p s n wanted named h ss → StsWithin strings looped ss → Around looped out again → start ≤ pc → pc + sts_len ss < end → Are (code ss h out again pc)
      sts_ok looped done h out again pc f w r a l = tt
      sts_ok looped (next x xs) h out again pc f w r a l =
          join (st_code p arguments named s x h out again pc) (code xs h out again (pc + st_len x)) (st_ok looped x h out again pc f.0 w.0 r a (omega arith)) (sts_ok looped xs h out again (pc + st_len x) f.1 w.1 r (omega arith) (omega arith))

all_at : (fns : List Entry) (strings slots incoming start end : ℕ) (xs : List Instr) (p : ℕ) (i : Instr) → All fns strings slots incoming start end xs → slice_get xs p ≡ Some i → Ok fns strings slots incoming start end i
all_at fns strings slots incoming start end [] p i f h = absurd (no h)
  where
    no : {A : Type 0} {x : A} → None ≡ Some x → ⊥
    no e = cc
all_at fns strings slots incoming start end (x ∷ xs) zero i f h = subst (λ y. Ok fns strings slots incoming start end y) (same_some h) f.0
all_at fns strings slots incoming start end (x ∷ xs) (suc p) i f h = all_at fns strings slots incoming start end xs p i f.1 h

-- after each instruction but the last one, which returns, there is another
before_last : (xs : List Instr) (p : ℕ) (i : Instr) → slice_get (xs ++ Return ∷ []) p ≡ Some i → (i ≡ Return) ⊎ (p + 1 < length (xs ++ Return ∷ []))
before_last [] zero i h = inl (sym (same_some h))
before_last [] (suc p) i h = absurd (no h)
  where
    no : {A : Type 0} {x : A} → None ≡ Some x → ⊥
    no e = cc
before_last (x ∷ xs) zero i h = inr (let one : length (Return ∷ []) ≡ 1 = refl in omega (arith, one, length-append xs (Return ∷ [])))
before_last (x ∷ xs) (suc p) i h = elim (before_last xs p i h) [ inl r ↦ inl r | inr l ↦ inr (omega (arith, l)) ]

ends_so : (a b c : List Instr) (p : ℕ) (i : Instr) → slice_get (a ++ (b ++ (c ++ Return ∷ []))) p ≡ Some i → (i ≡ Return) ⊎ (p + 1 < length (a ++ (b ++ (c ++ Return ∷ []))))
ends_so a b c p i h =
    let same : a ++ (b ++ (c ++ Return ∷ [])) ≡ (a ++ (b ++ c)) ++ Return ∷ [] = sym (simp append_assoc) in
    elim (before_last (a ++ (b ++ c)) p i (subst (λ l. slice_get l p ≡ Some i) same h)) [ inl r ↦ inl r | inr l ↦ inr (subst (λ xs. p + 1 < length xs) (sym same) l) ]

module _ (owners : List ℕ) (f start end : ℕ) (own : (p : ℕ) → start ≤ p → p < end → slice_get owners p ≡ Some f) (fns : List Entry) (strings : ℕ) where
  fits_at : (place slots incoming : ℕ) (i : Instr) → Ok fns strings slots incoming start end i → (i ≡ Return) ⊎ (slice_get owners (place + 1) ≡ Some f) → FitsAt owners fns strings place f slots incoming i
  fits_at place slots incoming i k (inl e) = subst (λ j. FitsAt owners fns strings place f slots incoming j) (sym e) tt
  fits_at place slots incoming (Const a w) k (inr g) = (k, g)
  fits_at place slots incoming (Zero a n) k (inr g) = (k.0, k.1, g)
  fits_at place slots incoming (Move event a b n) k (inr g) = (k.0, k.1, k.2, g)
  fits_at place slots incoming (Same wanted a b c n) k (inr g) = (k.0, k.1, k.2, k.3, g)
  fits_at place slots incoming (Bin o a b c) k (inr g) = (k.0, k.1, k.2, g)
  fits_at place slots incoming (Un o a b) k (inr g) = (k.0, k.1, g)
  fits_at place slots incoming (Jump goal) k (inr g) = own goal k.0 k.1
  fits_at place slots incoming (JumpZero a goal) k (inr g) = (k.0, own goal k.1.0 k.1.1, g)
  fits_at place slots incoming (Call c) k (inr g) = (k, g)
  fits_at place slots incoming (Incoming direction a b n) k (inr g) = (k.0, k.1, k.2, g)
  fits_at place slots incoming (Load a b off n) k (inr g) = (k.0, k.1, k.2, g)
  fits_at place slots incoming (Store event a off c n) k (inr g) = (k.0, k.1, k.2, g)
  fits_at place slots incoming (Address a b) k (inr g) = (k.0, k.1, g)
  fits_at place slots incoming (Offset a b off) k (inr g) = (k.0, k.1, g)
  fits_at place slots incoming (Index a b c x w) k (inr g) = (k.0, k.1, k.2, k.3, k.4, g)
  fits_at place slots incoming (SliceIndex a b c w) k (inr g) = (k.0, k.1, k.2, k.3, g)
  fits_at place slots incoming (Slice a b c w) k (inr g) = (k.0, k.1, k.2, k.3, g)
  fits_at place slots incoming (Born a n site) k (inr g) = (k, g)
  fits_at place slots incoming (Alloc a n site) k (inr g) = (k, g)
  fits_at place slots incoming (Make a w site) k (inr g) = (k.0, k.1, g)
  fits_at place slots incoming (Append added a b c d w site) k (inr g) = (k.0, k.1, k.2, k.3, g)
  fits_at place slots incoming (Copy a b c w) k (inr g) = (k.0, k.1, k.2, k.3, g)
  fits_at place slots incoming (PrintInt a) k (inr g) = (k, g)
  fits_at place slots incoming (PrintBool a) k (inr g) = (k, g)
  fits_at place slots incoming (PrintText number) k (inr g) = (k, g)
  fits_at place slots incoming PrintSpace k (inr g) = g
  fits_at place slots incoming PrintLine k (inr g) = g
  fits_at place slots incoming (ReadInt a) k (inr g) = (k, g)
  fits_at place slots incoming Return k (inr g) = tt
  fits_at place slots incoming (Exit a) k (inr g) = k
  fits_at place slots incoming (PanicText number) k (inr g) = k
  fits_at place slots incoming (PanicInt a) k (inr g) = k
  fits_at place slots incoming (PanicBool a) k (inr g) = k

-- no type of a program is without words
abbrev pub AreSolid : Program → Type 0
AreSolid p = (t : ℕ) → 0 < width (type_named p t)

pub all_fit : (p : Program) (pl : Placement) → IsInForm p → AreSolid p → (f : ℕ) (func : Func) → slice_get p.funcs f ≡ Some func → FuncFitsIn p pl func
all_fit p pl form solid f func is = func_fits p pl func form solid (form.fits f func is)

-- functions lie one after the other
laid : (p : Program) (pl : Placement) (gs : List Func) (pc : ℕ) → AreLaid (funcs_entries p pl gs pc) pc
laid p pl [] pc = tt
laid p pl (g ∷ gs) pc = (refl, some_size p pl g, laid p pl gs (pc + func_size p pl g))

owned : (p : Program) (pl : Placement) (gs : List Func) (number pc : ℕ) → funcs_owners p pl gs number ≡ owners_of (funcs_entries p pl gs pc) number
owned p pl [] number pc = refl
owned p pl (g ∷ gs) number pc = ap (λ l. replicate (func_size p pl g) number ++ l) (owned p pl gs (number + 1) (pc + func_size p pl g))

unlike : false ≡ true → ⊥
unlike e = cc

module _ (p : Program) (pl : Placement) (form : IsInForm p) (solid : AreSolid p) where
  abbrev strings : ℕ
  strings = length p.strings

  abbrev instrs : List Instr
  instrs = funcs_code p pl p.funcs 0

  abbrev owners : List ℕ
  owners = funcs_owners p pl p.funcs 0

  abbrev fns : List Entry
  fns = funcs_entries p pl p.funcs 0

  can : (slots outgoing : ℕ) → outgoing ≤ slots → (f : ℕ) → f < length p.funcs → arguments_of p f + results_of p f ≤ outgoing → CanCall fns slots f
  can slots outgoing wide f there room =
      let (func, is) = exists p pl p.funcs f there in
      let r = stands p pl p.funcs 0 0 f func is in
      let a : arguments_of p f ≡ argument_words func = ap arguments_in is in
      let b : results_of p f ≡ result_words func = ap results_in is in
      record { fn = entry_of p pl func (0 + start_of p pl p.funcs f); is = r.entry; room = omega (arith, a, b, room, wide) }

  func_ok : (func : Func) (pc : ℕ) → FuncFitsIn p pl func → StsWithin strings false func.body → All fns strings (frame_of p pl func - 2) (argument_words func + result_words func) pc (pc + func_size p pl func) (func_code p pl func pc)
  func_ok func pc ok within =
      let s = slots_of p pl func in let n = func.count in let m = argument_words func in let long = cells_between pl p.made func.first func.count + words_between pl p.sites func.first func.count in
      let slots : s.outgoing + s.temps + long ≡ frame_of p pl func - 2 = omega arith in
      let end = pc + func_size p pl func in
      let can_call = can (s.outgoing + s.temps + long) s.outgoing (omega arith) in
      let body = sts_code p m func.named s func.body 0 0 0 (pc + entry_size p pl func) in let leave = leave_code s m func.named in
      let params = params_code s (each_width func.param_types) func.params 0 in let zeros = zeros_code s func.named in
      let entry = join p form.solid pl s.outgoing s.temps func.first n fns strings m (result_words func) pc end can_call params zeros
      (params_ok p form.solid pl s.outgoing s.temps func.first n fns strings m (result_words func) pc end can_call func.param_types func.params 0 ok.params (omega arith))
      (zeros_ok p form.solid pl s.outgoing s.temps func.first n fns strings m (result_words func) pc end can_call func.named ok.named) in
      let inner = sts_ok p form.solid pl s.outgoing s.temps func.first n fns strings m (result_words func) pc end can_call func.named ok.named ok.moves ok.names false func.body 0 0 0 (pc + entry_size p pl func) ok.body within (λ e. absurd (unlike e)) (omega arith) (omega arith) in
      let last = leave_ok p form.solid pl s.outgoing s.temps func.first n fns strings m (result_words func) pc end can_call func.named ok.named ok.moves ok.names in
      subst (λ k. All fns strings k (m + result_words func) pc end (func_code p pl func pc)) slots
      (join p form.solid pl s.outgoing s.temps func.first n fns strings m (result_words func) pc end can_call (params ++ zeros) (body ++ leave) entry
      (join p form.solid pl s.outgoing s.temps func.first n fns strings m (result_words func) pc end can_call body leave inner last))

  within : (f : ℕ) (func : Func) → slice_get p.funcs f ≡ Some func → StsWithin strings false func.body
  within f func is = sts_within p func.results (length func.named) false (scope_in func) (body_first func) (func.first + func.count) func.body (form.fits f func is).body

  own : (f : ℕ) (func : Func) → slice_get p.funcs f ≡ Some func → (place : ℕ) → start_of p pl p.funcs f ≤ place → place < start_of p pl p.funcs f + func_size p pl func → slice_get owners place ≡ Some f
  own f func is place a b =
      let r = stands p pl p.funcs 0 0 f func is in
      let z : start_of p pl p.funcs f + (place - start_of p pl p.funcs f) ≡ place = omega (arith, a) in
      let y : 0 + f ≡ f = omega arith in
      ap (λ q. slice_get owners q) (sym z) ∙ r.owned (place - start_of p pl p.funcs f) (omega (arith, a, b)) ∙ ap (λ q. Some q) y

  fits_place : (place : ℕ) (i : Instr) → slice_get instrs place ≡ Some i → FitsPlace owners fns strings place i
  fits_place place i h =
      let r = located p pl p.funcs 0 place (slice_get_within instrs place i h) in
      let start = start_of p pl p.funcs r.k in
      let st = stands p pl p.funcs 0 0 r.k r.func r.is in
      let z : 0 + start ≡ start = omega arith in
      let there : slice_get (func_code p pl r.func start) r.p ≡ Some i =
      ap (λ q. slice_get (func_code p pl r.func q) r.p) (sym z) ∙ sym (st.code r.p r.within) ∙ ap (λ q. slice_get instrs q) (sym r.at) ∙ h in
      let s = slots_of p pl r.func in
      let next = ends_so (entry_code p pl r.func) (sts_code p (argument_words r.func) r.func.named s r.func.body 0 0 0 (start + entry_size p pl r.func)) (named_read_code s r.func.named (argument_words r.func)) r.p i there in
      record {
        f = r.k;
        fn = entry_of p pl r.func start;
        owner = own r.k r.func r.is place (let e = r.at in omega (arith, e)) (let e = r.at in let w = r.within in omega (arith, e, w));
        is = st.entry ∙ ap (λ q. Some (entry_of p pl r.func q)) z;
        fits = fits_at owners r.k start (start + func_size p pl r.func) (own r.k r.func r.is) fns strings place (frame_of p pl r.func - 2) (argument_words r.func + result_words r.func) i
            (all_at fns strings (frame_of p pl r.func - 2) (argument_words r.func + result_words r.func) start (start + func_size p pl r.func) (func_code p pl r.func start) r.p i (func_ok r.func start (all_fit p pl form solid r.k r.func r.is) (within r.k r.func r.is)) there)
            (elim next [
              | inl e ↦ inl e
              | inr last ↦ inr (own r.k r.func r.is (place + 1) (let e = r.at in omega (arith, e)) (let e = r.at in omega (arith, e, last, length_func p pl r.func start)))
            ]);
      }

  linked : (f : ℕ) (fn : Entry) → slice_get fns f ≡ Some fn → IsLinked fn
  linked f fn e =
      let (func, is) = entered_from p pl p.funcs 0 f fn e in
      let start = start_of p pl p.funcs f in
      let r = stands p pl p.funcs 0 0 f func is in
      let z : 0 + start ≡ start = omega arith in
      let same : entry_of p pl func start ≡ fn = same_some (ap (λ q. Some (entry_of p pl func q)) (sym z) ∙ sym r.entry ∙ e) in
      subst (λ (g : Entry). IsLinked g) same (record { frame = omega arith })

  pub is_code : IsCode (code_of p pl)
  is_code = record { laid = laid p pl p.funcs 0; owned = owned p pl p.funcs 0 0; same = length_owners p pl p.funcs 0 0; fits = fits_place; linked = linked }
