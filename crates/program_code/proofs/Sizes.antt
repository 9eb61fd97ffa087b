-- The code of forms: its length.
use Rattle.std.proofs.Common.{◌≡◌, ℕ, zero, suc, ◌+◌, Bool, true, false, List, [], ◌∷◌, ◌++◌, length, Some, None, refl, ap, arith, length-append}
use Rattle.std.specs.Prelude.{Option, get_or}
use Rattle.isa.specs.declared.instr.Instr.{Instr}
use Rattle.isa.specs.declared.instr.MoveEvent.TheVariants.{Silent}
use Rattle.isa.specs.declared.instr.Added.TheVariants as added
use Rattle.isa.specs.declared.instr.Instr.TheVariants.{Const, Move, Bin, Call, Jump, JumpZero, Slice, Make, Append, Copy, Return, Exit}
use Rattle.isa.specs.declared.instr.BinOp.TheVariants as Word
use Rattle.frames.specs.Frames.{far}
use Rattle.typed_syntax.specs.Syntax.{Ex, Exs, Pl, Steps, here as itself, inner, at_index, Left, Piece, St, Sts, Func, Program, constant, read, unary, binary, logical_and, logical_or, call, part_of, literal, Elements, no_elements, element, nil, address_of, new_variable, literal_variable, slice_literal, make, append, append_slice, copy, slicing, array_slicing, len, cap, Bound, absent, bound, local, global, indirect, slice_element, none, more, results, read_int, blank, new, to, text, shown, over_int, over_length, over_copy, over_slice, over_pointer, over_pointed, declare, assign, update, bump, discard, block, if_stmt, for_stmt, range, break_stmt, continue_stmt, return_stmt, print, panic, exit, done, next, argument_words, arguments_of, results_of, type_named, wide, all_wide, each_width, value_widths, ascend, words_through, gap_behind}
use Rattle.frames.specs.Placement.{Placement}
use Rattle.typed_syntax.specs.Types.{TypeTree, ints, width, part_type, part_offset}
use Rattle.program_code.specs.Code.{param_by, param_code, param_size, compared, point_code, pointing_code, new_code, elements_put, sliced_code, append_code, room_code, low_code, high_code, cut_code, whole_code, element_words, bound_code, bound_size, bound_end, sliced_element_code, slice_round_code, slice_round_size, element_code, pointed_code, pointed_round_code, pointed_round_size, index_round_code, index_round_size, element_round_code, element_round_size, array_code, Slots, birth_code, site_type, global_type, site_words, place_above, above_address, lefts_above, index_code, index_count, far_code, far_size, steps_of, address_size, place_code, place_size, place_end, steps_code, steps_size, steps_end, ready_code, lefts_sized, lefts_end, first_width, other_widths, temp, operation, binary_code, unary_code, address_code, fetch_code, land_code, read_code, write_code, move_code, move_size, result_code, gap_code, gap_size, elements_code, elements_size, call_code, call_size, ex_code, exs_code, pieces_code, test_code, test_size, size, exs_size, pieces_size, raised_code, show_more, show_plain, show_code, more_size, shown_size, lefts_code, lefts_size, named_write_code, named_read_code, named_read_size, leave_code, leave_size, values_code, values_size, params_code, params_size, zeros_code, renew_code, renew_size, st_code, sts_code, st_size, sts_size, slots_of, entry_code, entry_size, func_code, func_size}

pub length_move : (n a b : ℕ) → length (move_code n a b) ≡ move_size n
length_move zero a b = refl
length_move (suc n) a b = refl

pub length_result : (n a b : ℕ) → length (result_code n a b) ≡ move_size n
length_result zero a b = refl
length_result (suc n) a b = refl

pub length_gap : (n a : ℕ) → length (gap_code n a) ≡ gap_size n
length_gap zero a = refl
length_gap (suc n) a = refl

pub length_index : (s : Slots) (t : TypeTree) (steps : Steps) (first at : ℕ) → length (index_code s t steps first at) ≡ index_count steps
length_index s t itself first at = refl
length_index s t (inner i steps) first at = length_index s (part_type t i) steps first at
length_index s t (at_index p e n steps) first at = ap suc (length_index s (part_type t 0) steps (first + 1) at)

length_root : (s : Slots) (q : Pl) (far first at : ℕ) → length (far_code s q far first at) ≡ far_size far (steps_of q)
length_root s q zero first at = refl
length_root s (local site steps) (suc n) first at = ap suc (length_index s (site_type s site) steps first at)
length_root s (global g steps) (suc n) first at = ap suc (length_index s (global_type s g) steps first at)
length_root s (indirect p e k steps) (suc n) first at = ap suc (length_index s (get_or s.types k ints) steps (first + 1) at)
length_root s (slice_element p e i k steps) (suc n) first at = ap suc (length_index s (get_or s.types k ints) steps (first + 4) at)

pub length_address : (s : Slots) (p : Pl) (first at : ℕ) → length (address_code s p first at) ≡ address_size p
length_address s p first at = length_root s p (far p) first at

pub length_read : (s : Slots) (p : Pl) (at h : ℕ) → length (read_code s p at h) ≡ address_size p + 1
length_read s p at h = let one : length (fetch_code s p h at h ∷ []) ≡ 1 = refl in omega (arith, one, length-append (address_code s p h at) (fetch_code s p h at h ∷ []), length_address s p h at)

pub length_pointing : (s : Slots) (p : Pl) (at h : ℕ) → length (pointing_code s p at h) ≡ address_size p + 1
length_pointing s p at h = let one : length (point_code s p h at h ∷ []) ≡ 1 = refl in omega (arith, one, length-append (address_code s p h at) (point_code s p h at h ∷ []), length_address s p h at)

pub length_write : (s : Slots) (p : Pl) (first at h : ℕ) → length (write_code s p first at h) ≡ address_size p + 1
length_write s p first at h = let one : length (land_code s p first at h ∷ []) ≡ 1 = refl in omega (arith, one, length-append (address_code s p first at) (land_code s p first at h ∷ []), length_address s p first at)

pub length_lefts : (s : Slots) (ns : List ℕ) (ls : List Left) (first at h : ℕ) → length (lefts_code s ns ls first at h) ≡ lefts_size ls
length_lefts s ns [] first at h = refl
length_lefts s ns (blank ∷ ls) first at h = length_lefts s (other_widths ns) ls first at (h + first_width ns)
length_lefts s ns (new site ∷ ls) first at h = ap (λ l. suc (suc l)) (length_lefts s (other_widths ns) ls first at (h + first_width ns))
length_lefts s ns (to p ∷ ls) first at h =
    let above = place_above p first in
    omega (arith, length-append (write_code s p first at h) (lefts_code s (other_widths ns) ls above at (h + first_width ns)), length_write s p first at h, length_lefts s (other_widths ns) ls above at (h + first_width ns))

pub length_named_write : (s : Slots) (sites : List ℕ) (h : ℕ) → length (named_write_code s sites h) ≡ length sites
length_named_write s [] h = refl
length_named_write s (site ∷ sites) h = ap suc (length_named_write s sites (h + site_words s site))

pub length_named_read : (s : Slots) (sites : List ℕ) (i : ℕ) → length (named_read_code s sites i) ≡ named_read_size sites
length_named_read s [] i = refl
length_named_read s (site ∷ sites) i = ap (λ l. suc (suc l)) (length_named_read s sites (i + site_words s site))

pub length_leave : (s : Slots) (arguments : ℕ) (named : List ℕ) → length (leave_code s arguments named) ≡ leave_size named
length_leave s arguments named =
    let one : length (Return ∷ []) ≡ 1 = refl in
    omega (arith, one, length-append (named_read_code s named arguments) (Return ∷ []), length_named_read s named arguments)

pub length_values : (s : Slots) (arguments n : ℕ) (named : List ℕ) (h : ℕ) → length (values_code s arguments n named h) ≡ values_size n named
length_values s arguments n [] h = length_result n (temp s h) arguments
length_values s arguments zero (site ∷ sites) h = refl
length_values s arguments (suc n) (site ∷ sites) h = length_named_write s (site ∷ sites) h

length_param : (apart : Bool) (s : Slots) (site i n : ℕ) → length (param_by apart s site i n) ≡ param_size apart
length_param true s site i n = refl
length_param false s site i n = refl

pub length_params : (s : Slots) (ns : List ℕ) (ps : List (Option ℕ)) (i : ℕ) → length (params_code s ns ps i) ≡ params_size s.placement ps
length_params s ns [] i = refl
length_params s ns (None ∷ ps) i = length_params s (other_widths ns) ps (i + first_width ns)
length_params s ns (Some site ∷ ps) i =
    let rest = params_code s (other_widths ns) ps (i + first_width ns) in
    omega (arith, length-append (param_code s site i (first_width ns)) rest, length_param (s.placement.on_heap site) s site i (first_width ns), length_params s (other_widths ns) ps (i + first_width ns))

pub length_zeros : (s : Slots) (sites : List ℕ) → length (zeros_code s sites) ≡ length sites
length_zeros s [] = refl
length_zeros s (site ∷ sites) = ap suc (length_zeros s sites)

pub length_renew : (s : Slots) (sites : List ℕ) (h : ℕ) → length (renew_code s sites h) ≡ renew_size sites
length_renew s [] h = refl
length_renew s (site ∷ sites) h = ap (λ l. suc (suc (suc l))) (length_renew s sites h)

pub length_more : (s : Slots) (ps : List Piece) (h : ℕ) → length (show_more s ps h) ≡ more_size ps
length_more s [] h = refl
length_more s (text number ∷ ps) h = ap (λ l. suc (suc l)) (length_more s ps h)
length_more s (shown t e ∷ ps) h = ap (λ l. suc (suc l)) (length_more s ps (h + 1))

pub length_plain : (s : Slots) (ps : List Piece) (h : ℕ) → length (show_plain s ps h) ≡ length ps
length_plain s [] h = refl
length_plain s (text number ∷ ps) h = ap suc (length_plain s ps h)
length_plain s (shown t e ∷ ps) h = ap suc (length_plain s ps (h + 1))

pub length_shown : (s : Slots) (line : Bool) (ps : List Piece) (h : ℕ) → length (show_code s line ps h) ≡ shown_size line ps
length_shown s true [] h = refl
length_shown s true (text number ∷ ps) h = ap suc (length_more s ps h)
length_shown s true (shown t e ∷ ps) h = ap suc (length_more s ps (h + 1))
length_shown s false ps h = length_plain s ps h

-- what puts a slice together
length_elements_put : (s : Slots) (words h : ℕ) → length (elements_put s words h) ≡ move_size words
length_elements_put s zero h = refl
length_elements_put s (suc n) h = refl

pub length_sliced : (s : Slots) (site n words h : ℕ) → length (sliced_code s site n words h) ≡ 3 + move_size words
length_sliced s site n words h =
    let last : List Instr = Const (temp s (h + 1)) n ∷ Const (temp s (h + 2)) n ∷ [] in
    let two : length last ≡ 2 = refl in
    let one : length (sliced_code s site n words h) ≡ suc (length (elements_put s words h ++ last)) = refl in
    omega (arith, one, two, length-append (elements_put s words h) last, length_elements_put s words h)

-- one instruction after a code
pub length_last : (is : List Instr) (i : Instr) → length (is ++ i ∷ []) ≡ length is + 1
length_last is i = let one : length (i ∷ []) ≡ 1 = refl in omega (arith, one, length-append is (i ∷ []))

pub length_cut : (s : Slots) (low high : Bound) (w h : ℕ) → length (cut_code s low high w h) ≡ length (low_code s low h) + (length (high_code s high h) + 1)
length_cut s low high w h =
    let last = Slice (temp s h) (temp s h) (temp s (h + 3)) w in let ch = high_code s high h in
    omega (arith, length-append (low_code s low h) (ch ++ last ∷ []), length_last ch last)

module _ (fs : Program) where
  pub length_call : (s : Slots) (f h : ℕ) → length (call_code fs s f h) ≡ call_size fs f
  length_call s f h =
      let m = arguments_of fs f in let n = results_of fs f in
      let before = move_code m 0 (temp s h) in let behind = move_code n (temp s h) m in
      let one : length (Call f ∷ behind) ≡ suc (length behind) = refl in
      omega (arith, one, length-append before (Call f ∷ behind), length_move m 0 (temp s h), length_move n (temp s h) m)

  -- what stands after operands
  steps_sum : (steps : Steps) (n : ℕ) → steps_size fs steps n ≡ steps_size fs steps 0 + n
  steps_sum itself n = omega arith
  steps_sum (inner i steps) n = steps_sum steps n
  steps_sum (at_index p e k steps) n = omega (arith, steps_sum steps n)

  pub steps_ends : (steps : Steps) (pc : ℕ) → steps_end fs steps pc ≡ pc + steps_size fs steps 0
  steps_ends itself pc = omega arith
  steps_ends (inner i steps) pc = steps_ends steps pc
  steps_ends (at_index p e k steps) pc = omega (arith, steps_ends steps (pc + size fs e))

  pub place_sum : (p : Pl) (n : ℕ) → place_size fs p n ≡ place_size fs p 0 + n
  place_sum (local site steps) n = steps_sum steps n
  place_sum (global g steps) n = steps_sum steps n
  place_sum (indirect p e k steps) n = omega (arith, steps_sum steps n)
  place_sum (slice_element p e i k steps) n = omega (arith, steps_sum steps n)

  pub place_ends : (p : Pl) (pc : ℕ) → place_end fs p pc ≡ pc + place_size fs p 0
  place_ends (local site steps) pc = steps_ends steps pc
  place_ends (global g steps) pc = steps_ends steps pc
  place_ends (indirect p e k steps) pc = omega (arith, steps_ends steps (pc + size fs e))
  place_ends (slice_element p e i k steps) pc = omega (arith, steps_ends steps (pc + size fs e + size fs i))

  pub lefts_sum : (ls : List Left) (n : ℕ) → lefts_sized fs ls n ≡ lefts_sized fs ls 0 + n
  lefts_sum [] n = omega arith
  lefts_sum (blank ∷ ls) n = lefts_sum ls n
  lefts_sum (new site ∷ ls) n = lefts_sum ls n
  lefts_sum (to p ∷ ls) n = omega (arith, place_sum p (lefts_sized fs ls n), place_sum p (lefts_sized fs ls 0), lefts_sum ls n)

  pub lefts_ends : (ls : List Left) (pc : ℕ) → lefts_end fs ls pc ≡ pc + lefts_sized fs ls 0
  lefts_ends [] pc = omega arith
  lefts_ends (blank ∷ ls) pc = lefts_ends ls pc
  lefts_ends (new site ∷ ls) pc = lefts_ends ls pc
  lefts_ends (to p ∷ ls) pc = omega (arith, lefts_ends ls (place_end fs p pc), place_ends p pc, place_sum p (lefts_sized fs ls 0))

  mutual
    pub length_code : (s : Slots) (e : Ex) (h pc : ℕ) → length (ex_code fs s e h pc) ≡ size fs e
    length_code s (constant v) h pc = refl
    length_code s (read p) h pc =
        omega (arith, length-append (place_code fs s p h pc) (read_code s p (place_above p h) h), length_place s p h pc, length_read s p (place_above p h) h, place_sum p (address_size p + 1))
    length_code s (unary op a) h pc =
        omega (arith, length_last (ex_code fs s a h pc) (unary_code op (temp s h)), length_code s a h pc)
    length_code s (binary at o a b) h pc =
        let pb = pc + size fs a in
        let hb = h + wide fs a in
        let ca = ex_code fs s a h pc in let cb = ex_code fs s b hb pb in let i = binary_code o (compared fs a b) (temp s h) (temp s hb) in
        omega (arith, length-append ca (cb ++ i ∷ []), length_last cb i, length_code s a h pc, length_code s b hb pb)
    length_code s (logical_and a b) h pc =
        let pb = pc + size fs a + 1 in
        let ca = ex_code fs s a h pc in let cb = ex_code fs s b h pb in let z = JumpZero (temp s h) (pb + size fs b) in
        let one : length (z ∷ cb) ≡ suc (length cb) = refl in
        omega (arith, one, length-append ca (z ∷ cb), length_code s a h pc, length_code s b h pb)
    length_code s (logical_or a b) h pc =
        let pb = pc + size fs a + 2 in
        let ca = ex_code fs s a h pc in let cb = ex_code fs s b h pb in let z = JumpZero (temp s h) pb in let j = Jump (pb + size fs b) in
        let one : length (z ∷ j ∷ cb) ≡ suc (suc (length cb)) = refl in
        omega (arith, one, length-append ca (z ∷ j ∷ cb), length_code s a h pc, length_code s b h pb)
    length_code s (call f es) h pc = omega (arith, length-append (exs_code fs s es h pc) (call_code fs s f h), length_exs s es h pc, length_call s f h)
    length_code s (part_of n i e) h pc =
        let t = type_named fs n in
        omega (arith, length_last (ex_code fs s e h pc) (Move Silent (temp s h) (temp s (h + part_offset t i)) (width (part_type t i))), length_code s e h pc)
    length_code s (literal n es) h pc = omega (arith, length_elements s (type_named fs n) (ascend es) es h (pc + 1))
    length_code s (nil t) h pc = refl
    length_code s (address_of p) h pc =
        omega (arith, length-append (place_code fs s p h pc) (pointing_code s p (place_above p h) h), length_place s p h pc, length_pointing s p (place_above p h) h, place_sum p (address_size p + 1))
    length_code s (new_variable site) h pc = refl
    length_code s (literal_variable site e) h pc =
        let w = site_words s site in let own = new_code s site (h + w) h in
        let three : length own ≡ 3 = refl in
        omega (arith, three, length-append (ex_code fs s e h pc) own, length_code s e h pc)
    length_code s (slice_literal site es) h pc =
        let own = sliced_code s site (length (value_widths fs es)) (all_wide fs es) h in
        omega (arith, length-append (exs_code fs s es (h + 3) pc) own, length_exs s es (h + 3) pc, length_sliced s site (length (value_widths fs es)) (all_wide fs es) h)
    length_code s (make at site count room) h pc =
        let last = Make (temp s h) (site_words s site) site in
        let cc = ex_code fs s count (h + 1) pc in let cb = bound_code fs s room (h + 2) (pc + size fs count) in let cr = room_code s room h in
        omega (arith, length-append cc (cb ++ (cr ++ last ∷ [])), length-append cb (cr ++ last ∷ []), length_last cr last, length_code s count (h + 1) pc, length_room s room h (h + 2) (pc + size fs count))
    length_code s (append site e es) h pc =
        let i = append_code s site (length (value_widths fs es)) h in
        let ce = ex_code fs s e h pc in let ces = exs_code fs s es (h + 3) (pc + size fs e) in
        omega (arith, length-append ce (ces ++ i ∷ []), length_last ces i, length_code s e h pc, length_exs s es (h + 3) (pc + size fs e))
    length_code s (append_slice site e f) h pc =
        let i = Append added.Slice (temp s h) (temp s h) (temp s (h + 3)) 0 (site_words s site) site in
        let ce = ex_code fs s e h pc in let cf = ex_code fs s f (h + 3) (pc + size fs e) in
        omega (arith, length-append ce (cf ++ i ∷ []), length_last cf i, length_code s e h pc, length_code s f (h + 3) (pc + size fs e))
    length_code s (copy n e f) h pc =
        let i = Copy (temp s h) (temp s h) (temp s (h + 3)) (width (type_named fs n)) in
        let ce = ex_code fs s e h pc in let cf = ex_code fs s f (h + 3) (pc + size fs e) in
        omega (arith, length-append ce (cf ++ i ∷ []), length_last cf i, length_code s e h pc, length_code s f (h + 3) (pc + size fs e))
    length_code s (slicing at n e low high) h pc =
        let w = width (type_named fs n) in let pl = pc + size fs e in let ph = bound_end fs low pl in
        let ce = ex_code fs s e h pc in let cl = bound_code fs s low (h + 3) pl in let ch = bound_code fs s high (h + 4) ph in let cut = cut_code s low high w h in
        omega (arith, length-append ce (cl ++ (ch ++ cut)), length-append cl (ch ++ cut), length-append ch cut, length_code s e h pc, length_cut s low high w h, length_low s low h (h + 3) pl, length_high s high h (h + 4) ph)
    length_code s (array_slicing at q x low high) h pc =
        let w = element_words s q in let pl = pc + place_size fs q (address_size q + 1) in let ph = bound_end fs low pl in
        let cq = place_code fs s q h pc in let cp = pointing_code s q (place_above q h) h in let cl = bound_code fs s low (h + 3) pl in let ch = bound_code fs s high (h + 4) ph in
        let cw = whole_code s x h in let cut = cut_code s low high w h in
        let two : length (cw ++ cut) ≡ suc (suc (length cut)) = refl in
        omega (arith, two, length-append cq (cp ++ (cl ++ (ch ++ (cw ++ cut)))), length-append cp (cl ++ (ch ++ (cw ++ cut))), length-append cl (ch ++ (cw ++ cut)), length-append ch (cw ++ cut), length_place s q h pc, length_pointing s q (place_above q h) h, place_sum q (address_size q + 1), length_cut s low high w h, length_low s low h (h + 3) pl, length_high s high h (h + 4) ph)
    length_code s (len e) h pc = omega (arith, length_last (ex_code fs s e h pc) (Move Silent (temp s h) (temp s (h + 1)) 1), length_code s e h pc)
    length_code s (cap e) h pc = omega (arith, length_last (ex_code fs s e h pc) (Move Silent (temp s h) (temp s (h + 2)) 1), length_code s e h pc)

    -- a bound, or what stands in its place
    length_room : (s : Slots) (b : Bound) (h at pc : ℕ) → length (bound_code fs s b at pc) + length (room_code s b h) ≡ bound_size fs b
    length_room s absent h at pc = refl
    length_room s (bound e) h at pc = omega (arith, length_code s e at pc)

    length_low : (s : Slots) (b : Bound) (h at pc : ℕ) → length (bound_code fs s b at pc) + length (low_code s b h) ≡ bound_size fs b
    length_low s absent h at pc = refl
    length_low s (bound e) h at pc = omega (arith, length_code s e at pc)

    length_high : (s : Slots) (b : Bound) (h at pc : ℕ) → length (bound_code fs s b at pc) + length (high_code s b h) ≡ bound_size fs b
    length_high s absent h at pc = refl
    length_high s (bound e) h at pc = omega (arith, length_code s e at pc)

    pub length_place : (s : Slots) (p : Pl) (h pc : ℕ) → length (place_code fs s p h pc) ≡ place_size fs p 0
    length_place s (local site steps) h pc = length_steps s steps h pc
    length_place s (global g steps) h pc = length_steps s steps h pc
    length_place s (indirect p e k steps) h pc =
        omega (arith, length-append (ex_code fs s e h pc) (steps_code fs s steps (h + 1) (pc + size fs e)), length_code s e h pc, length_steps s steps (h + 1) (pc + size fs e))
    length_place s (slice_element p e i k steps) h pc =
        let ce = ex_code fs s e h pc in let ci = ex_code fs s i (h + 3) (pc + size fs e) in let cs = steps_code fs s steps (h + 4) (pc + size fs e + size fs i) in
        omega (arith, length-append ce (ci ++ cs), length-append ci cs, length_code s e h pc, length_code s i (h + 3) (pc + size fs e), length_steps s steps (h + 4) (pc + size fs e + size fs i))

    pub length_steps : (s : Slots) (steps : Steps) (h pc : ℕ) → length (steps_code fs s steps h pc) ≡ steps_size fs steps 0
    length_steps s itself h pc = refl
    length_steps s (inner i steps) h pc = length_steps s steps h pc
    length_steps s (at_index p e n steps) h pc =
        omega (arith, length-append (ex_code fs s e h pc) (steps_code fs s steps (h + 1) (pc + size fs e)), length_code s e h pc, length_steps s steps (h + 1) (pc + size fs e))

    pub length_elements : (s : Slots) (t : TypeTree) (in_order : Bool) (es : Elements) (h pc : ℕ) → length (elements_code fs s t in_order es h pc) ≡ elements_size fs t in_order es
    length_elements s t in_order no_elements h pc = refl
    length_elements s t true (element i e es) h pc =
        let gap = gap_behind t i es in let here = h + part_offset t i in
        let ce = ex_code fs s e here pc in let cg = gap_code gap (temp s (h + words_through t i)) in let rest = elements_code fs s t true es h (pc + size fs e + gap_size gap) in
        omega (arith, length-append ce (cg ++ rest), length-append cg rest, length_gap gap (temp s (h + words_through t i)), length_code s e here pc, length_elements s t true es h (pc + size fs e + gap_size gap))
    length_elements s t false (element i e es) h pc =
        let ce = ex_code fs s e (h + width t) pc in let rest = elements_code fs s t false es h (pc + size fs e + 1) in
        let move = Move Silent (temp s (h + part_offset t i)) (temp s (h + width t)) (width (part_type t i)) in
        let one : length (move ∷ rest) ≡ suc (length rest) = refl in
        omega (arith, one, length-append ce (move ∷ rest), length_code s e (h + width t) pc, length_elements s t false es h (pc + size fs e + 1))

    pub length_exs : (s : Slots) (es : Exs) (h pc : ℕ) → length (exs_code fs s es h pc) ≡ exs_size fs es
    length_exs s none h pc = refl
    length_exs s (more e es) h pc =
        let pb = pc + size fs e in
        omega (arith, length-append (ex_code fs s e h pc) (exs_code fs s es (h + wide fs e) pb), length_code s e h pc, length_exs s es (h + wide fs e) pb)
    length_exs s (results f es) h pc = omega (arith, length-append (exs_code fs s es h pc) (call_code fs s f h), length_exs s es h pc, length_call s f h)
    length_exs s read_int h pc = refl

  pub length_ready : (s : Slots) (ls : List Left) (h pc : ℕ) → length (ready_code fs s ls h pc) ≡ lefts_sized fs ls 0
  length_ready s [] h pc = refl
  length_ready s (blank ∷ ls) h pc = length_ready s ls h pc
  length_ready s (new site ∷ ls) h pc = length_ready s ls h pc
  length_ready s (to p ∷ ls) h pc =
      let above = place_above p h in let behind = place_end fs p pc in
      omega (arith, length-append (place_code fs s p h pc) (ready_code fs s ls above behind), length_place s p h pc, length_ready s ls above behind, place_sum p (lefts_sized fs ls 0))

  pub length_index_round : (s : Slots) (key : Left) (h pc : ℕ) → length (index_round_code fs s key h pc) ≡ index_round_size fs key
  length_index_round s key h pc =
      let above = lefts_above (key ∷ []) (h + 1) in let cr = ready_code fs s (key ∷ []) (h + 1) pc in let cl = lefts_code s (1 ∷ []) (key ∷ []) (h + 1) above h in
      omega (arith, length-append cr cl, length_ready s (key ∷ []) (h + 1) pc, length_lefts s (1 ∷ []) (key ∷ []) (h + 1) above h, lefts_sum (key ∷ []) (lefts_size (key ∷ [])))

  pub length_element_round : (s : Slots) (site x : ℕ) (key value : Left) (h pc : ℕ) → length (element_round_code fs s site x key value h pc) ≡ element_round_size fs key value
  length_element_round s site x key value h pc =
      let ls : List Left = key ∷ value ∷ [] in let v = lefts_above ls (h + 1) in let w = width (part_type (site_type s site) 0) in
      let cr = ready_code fs s ls (h + 1) pc in let ce = element_code s site x h v in let cl = lefts_code s (1 ∷ w ∷ []) ls (h + 1) (v + 1 + w) v in
      let four : length ce ≡ 4 = refl in
      omega (arith, four, length-append cr (ce ++ cl), length-append ce cl, length_ready s ls (h + 1) pc, length_lefts s (1 ∷ w ∷ []) ls (h + 1) (v + 1 + w) v, lefts_sum ls (4 + lefts_size ls))

  pub length_pointed_round : (s : Slots) (x w : ℕ) (key value : Left) (h pc : ℕ) → length (pointed_round_code fs s x w key value h pc) ≡ pointed_round_size fs key value
  length_pointed_round s x w key value h pc =
      let ls : List Left = key ∷ value ∷ [] in let v = lefts_above ls (h + 2) in
      let cr = ready_code fs s ls (h + 2) pc in let ce = pointed_code s x w h v in let cl = lefts_code s (1 ∷ w ∷ []) ls (h + 2) (v + 1 + w) v in
      let three : length ce ≡ 3 = refl in
      omega (arith, three, length-append cr (ce ++ cl), length-append ce cl, length_ready s ls (h + 2) pc, length_lefts s (1 ∷ w ∷ []) ls (h + 2) (v + 1 + w) v, lefts_sum ls (3 + lefts_size ls))

  length_sliced_round : (s : Slots) (w : ℕ) (key value : Left) (h pc : ℕ)
      → length (ready_code fs s (key ∷ value ∷ []) (h + 4) pc ++ (sliced_element_code s w h (lefts_above (key ∷ value ∷ []) (h + 4)) ++ lefts_code s (1 ∷ w ∷ []) (key ∷ value ∷ []) (h + 4) (lefts_above (key ∷ value ∷ []) (h + 4) + 1 + w) (lefts_above (key ∷ value ∷ []) (h + 4))))
      ≡ lefts_sized fs (key ∷ value ∷ []) (3 + lefts_size (key ∷ value ∷ []))
  length_sliced_round s w key value h pc =
      let ls : List Left = key ∷ value ∷ [] in let v = lefts_above ls (h + 4) in
      let cr = ready_code fs s ls (h + 4) pc in let ce = sliced_element_code s w h v in let cl = lefts_code s (1 ∷ w ∷ []) ls (h + 4) (v + 1 + w) v in
      let three : length ce ≡ 3 = refl in
      omega (arith, three, length-append cr (ce ++ cl), length-append ce cl, length_ready s ls (h + 4) pc, length_lefts s (1 ∷ w ∷ []) ls (h + 4) (v + 1 + w) v, lefts_sum ls (3 + lefts_size ls))

  pub length_slice_round : (s : Slots) (w : ℕ) (key value : Left) (h pc : ℕ) → length (slice_round_code fs s w key value h pc) ≡ slice_round_size fs key value
  length_slice_round s w key blank h pc = length_index_round s key (h + 3) pc
  length_slice_round s w key (new site) h pc = length_sliced_round s w key (new site) h pc
  length_slice_round s w key (to q) h pc = length_sliced_round s w key (to q) h pc

  pub length_array : (s : Slots) (x h test behind : ℕ) (round body : List Instr) → length (array_code s x h test behind round body) ≡ 4 + length round + length body + 3
  length_array s x h test behind round body =
      let i = temp s h in let t = temp s (h + 1) in
      let last : List Instr = Const t 1 ∷ (Bin Word.Add i i t ∷ (Jump test ∷ [])) in
      let three : length last ≡ 3 = refl in
      let four : length (array_code s x h test behind round body) ≡ suc (suc (suc (suc (length (round ++ (body ++ last)))))) = refl in
      omega (arith, three, four, length-append round (body ++ last), length-append body last)

  pub length_pieces : (s : Slots) (ps : List Piece) (h pc : ℕ) → length (pieces_code fs s ps h pc) ≡ pieces_size fs ps
  length_pieces s [] h pc = refl
  length_pieces s (text number ∷ ps) h pc = omega (arith, length_pieces s ps h pc)
  length_pieces s (shown t e ∷ ps) h pc =
      let pb = pc + size fs e in
      omega (arith, length-append (ex_code fs s e h pc) (pieces_code fs s ps (h + 1) pb), length_code s e h pc, length_pieces s ps (h + 1) pb)

  pub length_test : (s : Slots) (test : Option Ex) (h pc goal : ℕ) → length (test_code fs s test h pc goal) ≡ test_size fs test
  length_test s None h pc goal = refl
  length_test s (Some e) h pc goal = omega (arith, length_last (ex_code fs s e h pc) (JumpZero (temp s h) goal), length_code s e h pc)

  -- the statements of a function with these results and `m` argument words
  module _ (arguments : ℕ) (named : List ℕ) where
    mutual
      pub length_st : (s : Slots) (t : St) (h out again pc : ℕ) → length (st_code fs arguments named s t h out again pc) ≡ st_size fs arguments named t
      length_st s (declare sites) h out again pc = length_zeros s sites
      length_st s (assign ls es) h out again pc =
          let first = lefts_above ls h in let behind = lefts_end fs ls pc in
          let cr = ready_code fs s ls h pc in let ces = exs_code fs s es first behind in let cl = lefts_code s (value_widths fs es) ls h (first + all_wide fs es) first in
          omega (arith, length-append cr (ces ++ cl), length-append ces cl, length_ready s ls h pc, length_exs s es first behind, length_lefts s (value_widths fs es) ls h (first + all_wide fs es) first, lefts_sum ls (exs_size fs es + lefts_size ls))
      length_st s (update at p o e) h out again pc =
          let there = place_above p h in let v = above_address (far p) there in let behind = place_end fs p pc + (address_size p + 1) in
          let cp = place_code fs s p h pc in let ca = address_code s p h there in
          let ce = ex_code fs s e (v + 1) behind in let i = Bin (operation o) (temp s v) (temp s v) (temp s (v + 1)) in let last : List Instr = i ∷ (land_code s p h there v ∷ []) in
          let fetch : List Instr = fetch_code s p h there v ∷ (ce ++ last) in
          let two : length last ≡ 2 = refl in let one : length fetch ≡ suc (length (ce ++ last)) = refl in
          omega (arith, one, two, length-append cp (ca ++ fetch), length-append ca fetch, length-append ce last, length_place s p h pc, length_address s p h there, length_code s e (v + 1) behind, place_sum p (address_size p + 1 + size fs e + 1 + 1))
      length_st s (bump at p o) h out again pc =
          let there = place_above p h in let v = above_address (far p) there in
          let cp = place_code fs s p h pc in let ca = address_code s p h there in
          let rest : List Instr = fetch_code s p h there v ∷ (Const (temp s (v + 1)) 1 ∷ (Bin (operation o) (temp s v) (temp s v) (temp s (v + 1)) ∷ (land_code s p h there v ∷ []))) in
          let four : length rest ≡ 4 = refl in
          omega (arith, four, length-append cp (ca ++ rest), length-append ca rest, length_place s p h pc, length_address s p h there, place_sum p (address_size p + 1 + 2 + 1))
      length_st s (discard es) h out again pc = length_exs s es h pc
      length_st s (block ss) h out again pc = length_sts s ss h out again pc
      length_st s (if_stmt e a b) h out again pc =
          let p1 = pc + size fs e + 1 in let p2 = p1 + sts_size fs arguments named a + 1 in
          let ca = sts_code fs arguments named s a h out again p1 in let cb = sts_code fs arguments named s b h out again p2 in
          let j = Jump (p2 + sts_size fs arguments named b) in let z = JumpZero (temp s h) p2 in
          let one : length (j ∷ cb) ≡ suc (length cb) = refl in
          let two : length (z ∷ (ca ++ j ∷ cb)) ≡ suc (length (ca ++ j ∷ cb)) = refl in
          omega (arith, one, two, length-append (ex_code fs s e h pc) (z ∷ (ca ++ j ∷ cb)), length-append ca (j ∷ cb), length_code s e h pc, length_sts s a h out again p1, length_sts s b h out again p2)
      length_st s (for_stmt sites test post body) h out again pc =
          let inside = pc + test_size fs test in
          let turn = inside + sts_size fs arguments named body in
          let behind = turn + renew_size sites + sts_size fs arguments named post + 1 in
          let cb = sts_code fs arguments named s body h behind turn inside in
          let cr = renew_code s sites h in
          let cp = sts_code fs arguments named s post h behind turn (turn + renew_size sites) in
          let ct = test_code fs s test h pc behind in
          omega (
            arith,
            length-append ct (cb ++ (cr ++ (cp ++ Jump pc ∷ []))),
            length-append cb (cr ++ (cp ++ Jump pc ∷ [])),
            length-append cr (cp ++ Jump pc ∷ []),
            length_last cp (Jump pc),
            length_test s test h pc behind,
            length_sts s body h behind turn inside,
            length_renew s sites h,
            length_sts s post h behind turn (turn + renew_size sites),
          )
      length_st s (range (over_int e) key value body) h out again pc =
          let test = pc + size fs e + 1 in
          let inside = test + 2 + lefts_sized fs (key ∷ []) (lefts_size (key ∷ [])) in
          let turn = inside + sts_size fs arguments named body in
          let behind = turn + 3 in
          let ce = ex_code fs s e h pc in
          let above = lefts_above (key ∷ []) (h + 2) in
          let cr = ready_code fs s (key ∷ []) (h + 2) (test + 2) in let ck = lefts_code s (1 ∷ []) (key ∷ []) (h + 2) above (h + 1) in
          let cl = cr ++ ck in
          let cb = sts_code fs arguments named s body (h + 2) behind turn inside in
          let last : List Instr = Const (temp s (h + 2)) 1 ∷ Bin Word.Add (temp s (h + 1)) (temp s (h + 1)) (temp s (h + 2)) ∷ Jump test ∷ [] in
          let round : List Instr = Const (temp s (h + 1)) 0 ∷ Bin Word.Less (temp s (h + 2)) (temp s (h + 1)) (temp s h) ∷ JumpZero (temp s (h + 2)) behind ∷ (cl ++ (cb ++ last)) in
          let three : length last ≡ 3 = refl in
          let one : length round ≡ suc (suc (suc (length (cl ++ (cb ++ last))))) = refl in
          let whole : length (ce ++ round) ≡ length ce + length round = length-append ce round in
          let tail : length (cl ++ (cb ++ last)) ≡ length cl + length (cb ++ last) = length-append cl (cb ++ last) in
          let end : length (cb ++ last) ≡ length cb + length last = length-append cb last in
          omega (arith, one, three, whole, tail, end, length_code s e h pc, length-append cr ck, length_ready s (key ∷ []) (h + 2) (test + 2), length_lefts s (1 ∷ []) (key ∷ []) (h + 2) above (h + 1), lefts_sum (key ∷ []) (lefts_size (key ∷ [])), length_sts s body (h + 2) behind turn inside)
      length_st s (range (over_length x) key value body) h out again pc =
          let inside = pc + 4 + index_round_size fs key in let turn = inside + sts_size fs arguments named body in let behind = turn + 3 in
          let cr = index_round_code fs s key h (pc + 4) in let cb = sts_code fs arguments named s body (h + 1) behind turn inside in
          omega (arith, length_array s x h (pc + 1) behind cr cb, length_index_round s key h (pc + 4), length_sts s body (h + 1) behind turn inside)
      length_st s (range (over_copy site e x) key value body) h out again pc =
          let start = pc + size fs e + 2 in let inside = start + 4 + element_round_size fs key value in let turn = inside + sts_size fs arguments named body in let behind = turn + 3 in
          let ce = ex_code fs s e h pc in let cr = element_round_code fs s site x key value h (start + 4) in let cb = sts_code fs arguments named s body (h + 1) behind turn inside in
          let rest = array_code s x h (start + 1) behind cr cb in let copy = birth_code s site h in
          let two : length (copy ++ rest) ≡ suc (suc (length rest)) = refl in
          omega (arith, two, length-append ce (copy ++ rest), length_code s e h pc, length_array s x h (start + 1) behind cr cb, length_element_round s site x key value h (start + 4), length_sts s body (h + 1) behind turn inside)
      length_st s (range (over_pointer at e x t) key value body) h out again pc =
          let start = pc + size fs e in let inside = start + 4 + pointed_round_size fs key value in let turn = inside + sts_size fs arguments named body in let behind = turn + 3 in
          let w = width (type_named fs t) in
          let ce = ex_code fs s e h pc in let cr = pointed_round_code fs s x w key value h (start + 4) in let cb = sts_code fs arguments named s body (h + 2) behind turn inside in
          let rest = array_code s x (h + 1) (start + 1) behind cr cb in
          omega (arith, length-append ce rest, length_code s e h pc, length_array s x (h + 1) (start + 1) behind cr cb, length_pointed_round s x w key value h (start + 4), length_sts s body (h + 2) behind turn inside)
      length_st s (range (over_pointed x) key value body) h out again pc =
          let inside = pc + 4 + index_round_size fs key in let turn = inside + sts_size fs arguments named body in let behind = turn + 3 in
          let cr = index_round_code fs s key (h + 1) (pc + 4) in let cb = sts_code fs arguments named s body (h + 2) behind turn inside in
          omega (arith, length_array s x (h + 1) (pc + 1) behind cr cb, length_index_round s key (h + 1) (pc + 4), length_sts s body (h + 2) behind turn inside)
      length_st s (range (over_slice e t) key value body) h out again pc =
          let test = pc + size fs e + 1 in let inside = test + 2 + slice_round_size fs key value in let turn = inside + sts_size fs arguments named body in let behind = turn + 3 in
          let i = temp s (h + 3) in let t1 = temp s (h + 4) in let w = width (type_named fs t) in
          let ce = ex_code fs s e h pc in let cr = slice_round_code fs s w key value h (test + 2) in let cb = sts_code fs arguments named s body (h + 4) behind turn inside in
          let last : List Instr = Const t1 1 ∷ Bin Word.Add i i t1 ∷ Jump test ∷ [] in
          let round : List Instr = Const i 0 ∷ Bin Word.Less t1 i (temp s (h + 1)) ∷ JumpZero t1 behind ∷ (cr ++ (cb ++ last)) in
          let three : length last ≡ 3 = refl in
          let one : length round ≡ suc (suc (suc (length (cr ++ (cb ++ last))))) = refl in
          omega (arith, one, three, length-append ce round, length-append cr (cb ++ last), length-append cb last, length_code s e h pc, length_slice_round s w key value h (test + 2), length_sts s body (h + 4) behind turn inside)
      length_st s break_stmt h out again pc = refl
      length_st s continue_stmt h out again pc = refl
      length_st s (return_stmt es) h out again pc =
          let values = values_code s arguments (all_wide fs es) named h in let leave = leave_code s arguments named in
          omega (arith, length-append (exs_code fs s es h pc) (values ++ leave), length-append values leave, length_exs s es h pc, length_values s arguments (all_wide fs es) named h, length_leave s arguments named)
      length_st s (print line ps) h out again pc = omega (arith, length-append (pieces_code fs s ps h pc) (show_code s line ps h), length_pieces s ps h pc, length_shown s line ps h)
      length_st s (panic at (text number)) h out again pc = refl
      length_st s (panic at (shown t e)) h out again pc = omega (arith, length_last (ex_code fs s e h pc) (raised_code t (temp s h)), length_code s e h pc)
      length_st s (exit at e) h out again pc = omega (arith, length_last (ex_code fs s e h pc) (Exit (temp s h)), length_code s e h pc)

      pub length_sts : (s : Slots) (ss : Sts) (h out again pc : ℕ) → length (sts_code fs arguments named s ss h out again pc) ≡ sts_size fs arguments named ss
      length_sts s done h out again pc = refl
      length_sts s (next x xs) h out again pc =
          let behind = pc + st_size fs arguments named x in
          omega (arith, length-append (st_code fs arguments named s x h out again pc) (sts_code fs arguments named s xs h out again behind), length_st s x h out again pc, length_sts s xs h out again behind)

  pub length_entry : (pl : Placement) (f : Func) → length (entry_code fs pl f) ≡ entry_size fs pl f
  length_entry pl f =
      let s = slots_of fs pl f in
      omega (arith, length-append (params_code s (each_width f.param_types) f.params 0) (zeros_code s f.named), length_params s (each_width f.param_types) f.params 0, length_zeros s f.named)

  pub length_func : (pl : Placement) (f : Func) (pc : ℕ) → length (func_code fs pl f pc) ≡ func_size fs pl f
  length_func pl f pc =
      let s = slots_of fs pl f in let m = argument_words f in
      let body = sts_code fs m f.named s f.body 0 0 0 (pc + entry_size fs pl f) in let leave = leave_code s m f.named in
      omega (arith, length-append (entry_code fs pl f) (body ++ leave), length-append body leave, length_entry pl f, length_sts m f.named s f.body 0 0 0 (pc + entry_size fs pl f), length_leave s m f.named)
