-- The machine follows the evaluation of lengths, literals, slicings, `make`, `append` and `copy`.
use Rattle.std.proofs.Common.{◌≡◌, inr, ℕ, suc, ◌+◌, ◌<◌, ◌≤◌, List, [], ◌∷◌, ◌++◌, length, Some, refl, sym, ap, ◌∙◌, subst, arith, append_assoc, append-nil, pos, ◌*◌, length-append}
use Rattle.std.specs.Prelude.{slice_get, replicate}
use Rattle.typed_syntax.specs.Positions.{Position}
use Rattle.typed_syntax.specs.Value.{Value, int, IsOf, composite, slice_in}
use Rattle.typed_syntax.specs.Syntax.{Pl, type_named, Ex, Exs, slice_literal, make, append, append_slice, copy, slicing, array_slicing, len, cap, Bound, all_wide, value_widths}
use Rattle.typed_syntax.specs.Form.{AreOf, ExFits, AllFit}
use Rattle.frames.specs.Frames.{far}
use Rattle.meaning.specs.Store.{born, values_of}
use Rattle.meaning.specs.Operators.{slice_count, slice_room, sizes_of}
use Rattle.meaning.specs.Meaning
use Rattle.meaning.specs.Meaning.{Go, Then, Ways, Calls, Setting, Item, Aim, Step, fixed, worked, through, only_value, indexed}
use Rattle.isa.specs.declared.instr.MoveEvent.TheVariants.{Silent}
use Rattle.isa.specs.declared.instr.Added.TheVariants as added
use Rattle.isa.specs.declared.instr.Instr.TheVariants.{Copy, Move, Make, Append}
use Rattle.program_code.specs.Code.{temp, slots_of, place_above, near_offset, address_code, address_size, point_code, place_code, place_size, ex_code, exs_code, size, exs_size, site_words, sliced_code, move_size, bound_code, bound_size, bound_end, room_code, append_code, cut_code, whole_code, element_words}
use Rattle.program_code.proofs.Sizes.{length_address, length_place, place_sum, length_code, length_exs, length_pointing}
use Rattle.typed_syntax.specs.Types.{ints, width, slice_of, array_of}
use Rattle.typed_syntax.specs.Words.{array_address}
use Rattle.state_relation.specs.Views.{after_apart}
use Rattle.state_relation.specs.Relation.{Kept, hold, spent, word}
use Rattle.state_relation.proofs.Built.{Built}
use Rattle.state_relation.proofs.Rules.{At, Stands, later, spared, place_is, given, turned, seen}
use Rattle.state_relation.proofs.Values.{kept, all_kept, one_more}
use Rattle.state_relation.proofs.SliceSteps.{length_follows, capacity_follows}
use Rattle.state_relation.proofs.SliceMoves.{copied_world, copy_follows}
use Rattle.simulated_code.proofs.SlicesFollow as Slices
use Rattle.simulated_code.proofs.SlicesFollow.{all_fit_side, widths_count, all_wide_alike, alike_count, bound_held, IsDefault, int_is, with_spent, literal_ends, make_ends, low_held, low_kept, cut_ends}
use Rattle.state_relation.proofs.SliceAppends.{values_appended, slice_appended}
use Rattle.state_relation.proofs.Addresses.{array_sliced}
use Rattle.state_relation.proofs.SliceLiterals.{numbers_put}
use Rattle.simulated_code.proofs.Standing.{Standing, front, back}
use Rattle.simulated_code.proofs.Places.{variable_of, root_of, operand_types, located, place_held, element_words_are}
use Rattle.simulated_code.proofs.Settled.{settled_follow}
use Rattle.simulated_code.proofs.Reached.{pointed_as}
use Rattle.simulated_code.proofs.Births.{cell_kind}
use Rattle.simulated_code.proofs.EvaluationEnds.{wide_need, guided, bound_behind, room_place, cut_place, Evaluated, AllEvaluated, BoundEvaluated, PlaceFollowed}

module _ (m : Built) (around : Setting) (sites_are : around.sites ≡ m.program.sites) (callees : Calls) (n : ℕ) where
  pub len_pays : (e : Ex) → Evaluated m around callees n e → Evaluated m around callees n (len e)
  len_pays e first t c calls ws k v w h pc lo b le hh stops has (is, (number, fit)) enough reaches post =
      let s = slots_of m.program m.placement c.func in let u = slice_of number in let ne = size m.program e in
      let ce = ex_code m.program s e h pc in let move = Move Silent (temp s h) (temp s (h + 1)) 1 in
      let has_i = back m.code c.fn pc ne ce (move ∷ []) (length_code m.program s e h pc) has in let room = wide_need m c.scope u e fit in
      first u c calls ws _ v w h pc lo b le hh stops (front m.code c.fn pc ce (move ∷ []) has) fit enough reaches (λ x w1 v1 ix. spared m (
      let y = int (pos (slice_count x)) in
      turned m {lo1 = suc (suc lo)} (omega arith) (seen m _ (length_follows m c calls number x c.held h v1 w1 ix hh (omega arith) {lo = suc lo} {hi = 0} (pc + ne) has_i.0.0
      (place_is m (let q : pc + (ne + 1) ≡ pc + ne + 1 = omega arith in q)
      (subst (λ z. At m (suc lo) 0 b v1 (k y w1) (Stands m v1 w1 (hold c (c.held ++ kept z y) ∷ calls)) (pc + (ne + 1))) is (post y w1 v1 (subst (λ z. IsOf z y) (sym is) tt))))))))

  pub cap_pays : (e : Ex) → Evaluated m around callees n e → Evaluated m around callees n (cap e)
  cap_pays e first t c calls ws k v w h pc lo b le hh stops has (is, (number, fit)) enough reaches post =
      let s = slots_of m.program m.placement c.func in let u = slice_of number in let ne = size m.program e in
      let ce = ex_code m.program s e h pc in let move = Move Silent (temp s h) (temp s (h + 2)) 1 in
      let has_i = back m.code c.fn pc ne ce (move ∷ []) (length_code m.program s e h pc) has in let room = wide_need m c.scope u e fit in
      first u c calls ws _ v w h pc lo b le hh stops (front m.code c.fn pc ce (move ∷ []) has) fit enough reaches (λ x w1 v1 ix. spared m (
      let y = int (pos (slice_room x)) in
      turned m {lo1 = suc (suc lo)} (omega arith) (seen m _ (capacity_follows m c calls number x c.held h v1 w1 ix hh (omega arith) {lo = suc lo} {hi = 0} (pc + ne) has_i.0.0
      (place_is m (let q : pc + (ne + 1) ≡ pc + ne + 1 = omega arith in q)
      (subst (λ z. At m (suc lo) 0 b v1 (k y w1) (Stands m v1 w1 (hold c (c.held ++ kept z y) ∷ calls)) (pc + (ne + 1))) is (post y w1 v1 (subst (λ z. IsOf z y) (sym is) tt))))))))

  pub copy_pays : (number : ℕ) (e f : Ex) → Evaluated m around callees n e → Evaluated m around callees n f → Evaluated m around callees n (copy number e f)
  copy_pays number e f first second t c calls ws k v w h pc lo b le hh stops has fit enough reaches post =
      let s = slots_of m.program m.placement c.func in let u = slice_of number in let ne = size m.program e in let nf = size m.program f in
      let ce = ex_code m.program s e h pc in let cf = ex_code m.program s f (h + 3) (pc + ne) in let i = Copy (temp s h) (temp s h) (temp s (h + 3)) (width (type_named m.program number)) in
      let has_f = back m.code c.fn pc ne ce (cf ++ i ∷ []) (length_code m.program s e h pc) has in
      let has_i = back m.code c.fn (pc + ne) nf cf (i ∷ []) (length_code m.program s f (h + 3) (pc + ne)) has_f in
      first u c calls ws _ v w h pc lo b le hh stops (front m.code c.fn pc ce (cf ++ i ∷ []) has) fit.2 (omega arith) (omega arith) (λ x w1 v1 ix. spared m (
      second u (hold c (c.held ++ kept u x)) calls (Meaning.holding ws e x) _ v1 w1 (h + 3) (pc + ne) lo b le (one_more c.held u x h 3 hh refl) stops (front m.code c.fn (pc + ne) cf (i ∷ []) has_f) fit.3 (omega arith) (omega arith) (λ y w2 v2 iy. spared m (
      let z = int (pos (Meaning.copy_count x y)) in let w3 = copied_world m c calls number x y c.held h (pc + ne + nf) (suc lo) v2 w2 ix iy hh (omega arith) has_i.0.0 (Meaning.copy_count x y) in
      turned m {lo1 = suc (suc lo)} (omega arith)
      (given m (λ r g. subst (λ l. Stands m v2 w2 (hold c l ∷ calls) r) (append_assoc c.held (kept u x) (kept u y)) g)
      (copy_follows m c calls number x y c.held h (pc + ne + nf) (suc lo) v2 w2 ix iy hh (omega arith) has_i.0.0 {hi = 0} {b = b} (Meaning.give ws (copy number e f) k z)
      (seen m _ (place_is m (let q : pc + (ne + (nf + 1)) ≡ pc + ne + nf + 1 = omega arith in q)
      (subst (λ o. At m (suc lo) 0 b v2 (k z w3) (Stands m v2 w3 (hold c (c.held ++ kept o z) ∷ calls)) (pc + (ne + (nf + 1)))) fit.0 (post z w3 v2 (subst (λ o. IsOf o z) (sym fit.0) tt)))))))))))

  pub slice_literal_pays : (site : ℕ) (es : Exs) → AllEvaluated m around callees n es → Evaluated m around callees n (slice_literal site es)
  slice_literal_pays site es all_of t c calls ws k v w h pc lo b le hh stops has ((number, is, named, taken), fit) enough reaches post =
      let s = slots_of m.program m.placement c.func in let u = type_named m.program number in let elements = subst (λ z. AllFit m.program c.scope z es) (sym named) fit in
      let count = Slices.count_of es in let words = all_wide m.program es in let nes = exs_size m.program es in let spents : List Kept = spent ∷ (spent ∷ (spent ∷ [])) in
      let ces = exs_code m.program s es (h + 3) pc in let rest = sliced_code s site (length (value_widths m.program es)) words h in
      let has_r = back m.code c.fn pc nes ces rest (length_exs m.program s es (h + 3) pc) has in
      given m (λ r g. with_spent m 3 v w c calls r (omega arith) g)
      (all_of (replicate count u) (hold c (c.held ++ spents)) calls ws _ v w (h + 3) pc lo b le (omega (arith, length-append c.held spents)) stops (front m.code c.fn pc ces rest has) (all_fit_side m.program c.scope u es elements) (omega arith) reaches (λ vs w1 v1 are.
      let many = alike_count count u vs are in let n0 = length vs in let those = subst (λ j. AreOf (replicate j u) vs) (sym many) are in
      let sites_u = cell_kind m around sites_are site ∙ sym named in let some = subst (λ z. 0 < width z) (sym named) (m.solid site) in
      let wide = all_wide_alike m.program c.scope u es elements ∙ ap (λ j. j * width u) (sym many) in
      let has_l = subst (λ j. Standing m.code c.fn (pc + nes) (sliced_code s site j words h)) (widths_count m.program c.scope u es elements ∙ sym many) has_r in
      let y = slice_in (length w1.store) [] 0 n0 n0 in let w2 = born w1 (Meaning.new_cell ws.call site (array_of n0 u) (composite (values_of vs))) in
      turned m {lo1 = suc (suc (suc (suc (suc lo))))} (omega arith)
      (subst (λ z. At m (suc (suc (suc (suc (suc lo))))) 1 b v1 (Meaning.bear_array ws.call site z n0 (composite (values_of vs)) (λ x. Meaning.give ws (slice_literal site es) k (slice_in x [] 0 n0 n0)) w1) (Stands m v1 w1 (hold c ((c.held ++ spents) ++ all_kept (replicate count u) vs) ∷ calls)) (pc + nes)) (sym sites_u)
      (given m (λ r g. subst (λ l. Stands m v1 w1 (hold c l ∷ calls) r) (append_assoc c.held spents (all_kept (replicate count u) vs) ∙ ap (λ j. c.held ++ (spent ∷ (spent ∷ (spent ∷ all_kept (replicate j u) vs)))) (sym many)) g)
      (literal_ends m c calls number c.held h hh {lo = suc lo} {b = b} n0 words (pc + nes) site ws.call vs v1 w1 (m.placed.taken site taken) some those wide has_l
      (seen m _ (place_is m (let q : pc + (nes + (3 + move_size words)) ≡ pc + nes + (3 + move_size words) = omega arith in q)
      (subst (λ z. At m (suc lo) 0 b (after_apart v1 (n0 * width u)) (k y w2) (Stands m (after_apart v1 (n0 * width u)) w2 (hold c (c.held ++ kept z y) ∷ calls)) (pc + (nes + (3 + move_size words)))) is (post y w2 (after_apart v1 (n0 * width u)) (subst (λ z. IsOf z y) (sym is) (let le : n0 ≤ n0 = omega arith in le)))))))))))

  pub make_pays : (at : Position) (site : ℕ) (count : Ex) (room : Bound) → Evaluated m around callees n count → BoundEvaluated m around callees n room → Evaluated m around callees n (make at site count room)
  make_pays at site count room first second t c calls ws k v w h pc lo b le hh stops has ((number, is, named, taken), fit_count, fit_room) enough reaches post =
      let s = slots_of m.program m.placement c.func in let u = type_named m.program number in let nc = size m.program count in
      let cc = ex_code m.program s count (h + 1) pc in let cb = bound_code m.program s room (h + 2) (pc + nc) in let i = Make (temp s h) (site_words s site) site in let ends = room_code s room h ++ i ∷ [] in
      let has_b = back m.code c.fn pc nc cc (cb ++ ends) (length_code m.program s count (h + 1) pc) has in
      let has_e = bound_behind m room s (h + 2) (pc + nc) ends c.fn has_b in let sites_u = cell_kind m around sites_are site ∙ sym named in
      let wide : length (c.held ++ spent ∷ []) ≡ h + 1 = omega (arith, length-append c.held (spent ∷ [])) in
      given m (λ r g. with_spent m 1 v w c calls r (omega arith) g)
      (first ints (hold c (c.held ++ spent ∷ [])) calls ws _ v w (h + 1) pc lo b le wide stops (front m.code c.fn pc cc (cb ++ ends) has) fit_count (omega arith) (omega arith) (λ x w1 v1 ix. spared m (
      let l = Meaning.int_of x in let same_x = int_is x ix in let low_part = (c.held ++ spent ∷ []) ++ kept ints x in let q2 : h + 1 + 1 ≡ h + 2 = omega arith in
      subst (λ (x0 : Value). At m lo 0 b v1 (Meaning.ev_bound around callees room x0 (Meaning.holding ws count x) c.env (λ y. Meaning.turn (Meaning.or_panic ws c.env at (sizes_of l (Meaning.int_of y)) (λ z. Meaning.bear_zero_array around ws.call site z.room (λ a. Meaning.give ws (make at site count room) k (slice_in a [] 0 z.count z.room))))) w1) (Stands m v1 w1 (hold c low_part ∷ calls)) (pc + nc)) (sym same_x)
      (second l (hold c low_part) calls (Meaning.holding ws count x) _ v1 w1 (h + 2) (pc + nc) lo b le (one_more (c.held ++ spent ∷ []) ints x (h + 1) 1 wide refl ∙ q2) stops (front m.code c.fn (pc + nc) cb ends has_b) fit_room (omega arith) (omega arith) (λ z w2 v2 other.
      turned m {lo1 = suc (suc (suc lo))} (omega arith)
      (given m (λ r g. subst (λ q. Stands m v2 w2 (hold c q ∷ calls) r) (ap (λ o. ((c.held ++ spent ∷ []) ++ kept ints o) ++ bound_held room z) same_x ∙ append_assoc (c.held ++ spent ∷ []) (kept ints (int l)) (bound_held room z) ∙ append_assoc c.held (spent ∷ []) (kept ints (int l) ++ bound_held room z)) g)
      (make_ends m c calls number c.held h hh v2 w2 l z site ws.call (m.placed.taken site taken) (ap width (sym named)) (omega arith) ws c.env at around sites_u (Meaning.give ws (make at site count room) k) stops room (suc lo) b (bound_end m.program room (pc + nc)) other has_e (λ y v3 w3 iy.
      seen m _ (place_is m (let q : pc + (nc + (bound_size m.program room + 1)) ≡ bound_end m.program room (pc + nc) + length (room_code s room h) + 1 = omega (arith, room_place m room s h (pc + nc)) in q)
      (subst (λ o. At m (suc lo) 0 b v3 (k y w3) (Stands m v3 w3 (hold c (c.held ++ kept o y) ∷ calls)) (pc + (nc + (bound_size m.program room + 1)))) is (post y w3 v3 (subst (λ o. IsOf o y) (sym is) iy))))))))))))

  pub append_pays : (site : ℕ) (e : Ex) (es : Exs) → Evaluated m around callees n e → AllEvaluated m around callees n es → Evaluated m around callees n (append site e es)
  append_pays site e es first all_of t c calls ws k v w h pc lo b le hh stops has ((number, is, named, taken), fit_e, fit) enough reaches post =
      let s = slots_of m.program m.placement c.func in let u = type_named m.program number in let a = slice_of number in let elements = subst (λ z. AllFit m.program c.scope z es) (sym named) fit in let fits = subst (λ z. ExFits m.program c.scope z e) is fit_e in
      let count = Slices.count_of es in let ne = size m.program e in let nes = exs_size m.program es in
      let ce = ex_code m.program s e h pc in let ces = exs_code m.program s es (h + 3) (pc + ne) in let i = append_code s site (length (value_widths m.program es)) h in
      let has_s = back m.code c.fn pc ne ce (ces ++ i ∷ []) (length_code m.program s e h pc) has in
      let has_i = back m.code c.fn (pc + ne) nes ces (i ∷ []) (length_exs m.program s es (h + 3) (pc + ne)) has_s in
      let sites_u = cell_kind m around sites_are site ∙ sym named in let some = subst (λ z. 0 < width z) (sym named) (m.solid site) in
      first a c calls ws _ v w h pc lo b le hh stops (front m.code c.fn pc ce (ces ++ i ∷ []) has) fits (omega arith) (omega arith) (λ x w1 v1 ix. spared m (
      all_of (replicate count u) (hold c (c.held ++ kept a x)) calls (Meaning.holding ws e x) _ v1 w1 (h + 3) (pc + ne) lo b le (one_more c.held a x h 3 hh refl) stops (front m.code c.fn (pc + ne) ces (i ∷ []) has_s) (all_fit_side m.program c.scope u es elements) (omega arith) (omega arith) (λ vs w2 v2 are.
      let many = alike_count count u vs are in let those = subst (λ j. AreOf (replicate j u) vs) (sym many) are in
      turned m {lo1 = suc (suc lo)} (omega arith)
      (given m (λ r g. subst (λ l. Stands m v2 w2 (hold c l ∷ calls) r) (append_assoc c.held (kept a x) (all_kept (replicate count u) vs) ∙ ap (λ j. c.held ++ (kept a x ++ all_kept (replicate j u) vs)) (sym many)) g)
      (values_appended m c calls number x c.held h (pc + ne + nes) site ws.call v2 w2 ix hh (omega arith) (m.placed.taken site taken) some (ap width (sym named)) {lo = suc lo} {hi = 0} {b = b} around (Meaning.give ws (append site e es) k) sites_u (λ y v3 w3 iy.
      seen m _ (place_is m (let q : pc + (ne + (nes + 1)) ≡ pc + ne + nes + 1 = omega arith in q)
      (subst (λ o. At m (suc lo) 0 b v3 (k y w3) (Stands m v3 w3 (hold c (c.held ++ kept o y) ∷ calls)) (pc + (ne + (nes + 1)))) is (post y w3 v3 (subst (λ o. IsOf o y) (sym is) iy)))))
      vs those (subst (λ j. slice_get m.code.instrs (pc + ne + nes) ≡ Some (append_code s site j h)) (widths_count m.program c.scope u es elements ∙ sym many) has_i.0.0))))))

  pub append_slice_pays : (site : ℕ) (e f : Ex) → Evaluated m around callees n e → Evaluated m around callees n f → Evaluated m around callees n (append_slice site e f)
  append_slice_pays site e f first second t c calls ws k v w h pc lo b le hh stops has ((number, is, named, taken), fit_e, fit_f) enough reaches post =
      let s = slots_of m.program m.placement c.func in let u = type_named m.program number in let a = slice_of number in let fits_e = subst (λ z. ExFits m.program c.scope z e) is fit_e in let fits_f = subst (λ z. ExFits m.program c.scope z f) is fit_f in
      let ne = size m.program e in let nf = size m.program f in
      let ce = ex_code m.program s e h pc in let cf = ex_code m.program s f (h + 3) (pc + ne) in let i = Append added.Slice (temp s h) (temp s h) (temp s (h + 3)) 0 (site_words s site) site in
      let has_f = back m.code c.fn pc ne ce (cf ++ i ∷ []) (length_code m.program s e h pc) has in
      let has_i = back m.code c.fn (pc + ne) nf cf (i ∷ []) (length_code m.program s f (h + 3) (pc + ne)) has_f in
      let sites_u = cell_kind m around sites_are site ∙ sym named in let some = subst (λ z. 0 < width z) (sym named) (m.solid site) in
      first a c calls ws _ v w h pc lo b le hh stops (front m.code c.fn pc ce (cf ++ i ∷ []) has) fits_e (omega arith) (omega arith) (λ x w1 v1 ix. spared m (
      second a (hold c (c.held ++ kept a x)) calls (Meaning.holding ws e x) _ v1 w1 (h + 3) (pc + ne) lo b le (one_more c.held a x h 3 hh refl) stops (front m.code c.fn (pc + ne) cf (i ∷ []) has_f) fits_f (omega arith) (omega arith) (λ y w2 v2 iy. spared m (
      turned m {lo1 = suc (suc lo)} (omega arith)
      (given m (λ r g. subst (λ l. Stands m v2 w2 (hold c l ∷ calls) r) (append_assoc c.held (kept a x) (kept a y)) g)
      (slice_appended m c calls number x c.held h (pc + ne + nf) site ws.call v2 w2 ix hh (omega arith) (m.placed.taken site taken) some (ap width (sym named)) {lo = suc lo} {hi = 0} {b = b} around (Meaning.give ws (append_slice site e f) k) sites_u (λ r v3 w3 ir.
      seen m _ (place_is m (let q : pc + (ne + (nf + 1)) ≡ pc + ne + nf + 1 = omega arith in q)
      (subst (λ o. At m (suc lo) 0 b v3 (k r w3) (Stands m v3 w3 (hold c (c.held ++ kept o r) ∷ calls)) (pc + (ne + (nf + 1)))) is (post r w3 v3 (subst (λ o. IsOf o r) (sym is) ir)))))
      y iy has_i.0.0))))))

  pub slicing_pays : (at : Position) (number : ℕ) (e : Ex) (low high : Bound) → Evaluated m around callees n e → BoundEvaluated m around callees n low → BoundEvaluated m around callees n high → Evaluated m around callees n (slicing at number e low high)
  slicing_pays at number e low high first lowest highest t c calls ws k v w h pc lo b le hh stops has (is, some, fit, fit_low, fit_high) enough reaches post =
      let s = slots_of m.program m.placement c.func in let a = slice_of number in let n0 = width (type_named m.program number) in let fits = subst (λ z. ExFits m.program c.scope z e) is fit in
      let ne = size m.program e in let pl = pc + ne in let ph = bound_end m.program low pl in
      let ce = ex_code m.program s e h pc in let cl = bound_code m.program s low (h + 3) pl in let ch = bound_code m.program s high (h + 4) ph in let cut = cut_code s low high n0 h in
      let has_l = back m.code c.fn pc ne ce (cl ++ (ch ++ cut)) (length_code m.program s e h pc) has in
      let has_h = bound_behind m low s (h + 3) pl (ch ++ cut) c.fn has_l in let has_c = bound_behind m high s (h + 4) ph cut c.fn has_h in
      first a c calls ws _ v w h pc lo b le hh stops (front m.code c.fn pc ce (cl ++ (ch ++ cut)) has) fits (omega arith) (omega arith) (λ x w1 v1 ix. spared m (
      let low_part = c.held ++ kept a x in let wide = one_more c.held a x h 3 hh refl in let q4 : h + 3 + 1 ≡ h + 4 = omega arith in
      lowest (pos 0) (hold c low_part) calls (Meaning.holding ws e x) _ v1 w1 (h + 3) pl lo b le wide stops (front m.code c.fn pl cl (ch ++ cut) has_l) fit_low (omega arith) (omega arith) (λ l w2 v2 low_is.
      given m (λ r g. low_kept m low l v2 w2 c calls r low_part (omega (arith, wide)) g)
      (highest (pos (slice_count x)) (hold c (low_part ++ low_held low l ∷ [])) calls _ _ v2 w2 (h + 4) ph lo b le (let one : length (low_held low l ∷ []) ≡ 1 = refl in omega (arith, wide, one, length-append low_part (low_held low l ∷ []))) stops (front m.code c.fn ph ch cut has_h) fit_high (omega arith) (omega arith) (λ z w3 v3 high_is.
      turned m {lo1 = suc (suc (suc (suc lo)))} (omega arith)
      (given m (λ r g. subst (λ q. Stands m v3 w3 (hold c q ∷ calls) r) (append_assoc low_part (low_held low l ∷ []) (bound_held high z) ∙ append_assoc c.held (kept a x) (low_held low l ∷ bound_held high z)) g)
      (cut_ends m c calls number c.held h hh x v3 w3 l z ix (omega arith) ws c.env at (Meaning.give ws (slicing at number e low high) k) stops low high (suc lo) b (bound_end m.program high ph) low_is high_is has_c (λ r ir.
      seen m _ (place_is m (let q : pc + (ne + (bound_size m.program low + (bound_size m.program high + 1))) ≡ bound_end m.program high ph + length cut = omega (arith, cut_place m low high s n0 h pl) in q)
      (subst (λ o. At m (suc lo) 0 b v3 (k r w3) (Stands m v3 w3 (hold c (c.held ++ kept o r) ∷ calls)) (pc + (ne + (bound_size m.program low + (bound_size m.program high + 1))))) is (post r w3 v3 (subst (λ o. IsOf o r) (sym is) ir))))))))))))

  pub array_slicing_pays : (from : Position) (q : Pl) (x : ℕ) (low high : Bound) → PlaceFollowed m around callees n q → BoundEvaluated m around callees n low → BoundEvaluated m around callees n high → Evaluated m around callees n (array_slicing from q x low high)
  array_slicing_pays from q x low high first lowest highest t c calls ws k v w h pc lo b le hh stops has (number, is, small, fit, taken, fit_low, fit_high) enough reaches post =
      let s = slots_of m.program m.placement c.func in let u = type_named m.program number in let a = slice_of number in let array = array_of x u in let at = place_above q h in let behind = place_size m.program q 0 in
      let pl = pc + place_size m.program q (address_size q + 1) in let ph = bound_end m.program low pl in let there = located m c.scope array q fit in
      let cp = place_code m.program s q h pc in let ca = address_code s q h at in let point = point_code s q h at h in let cl = bound_code m.program s low (h + 3) pl in let ch = bound_code m.program s high (h + 4) ph in
      let whole = whole_code s x h in let cut = cut_code s low high (element_words s q) h in let rest = cl ++ (ch ++ (whole ++ cut)) in
      let has_p = back m.code c.fn pc behind cp ((ca ++ point ∷ []) ++ rest) (length_place m.program s q h pc) has in
      let has_a = front m.code c.fn (pc + behind) (ca ++ point ∷ []) rest has_p in let has_i = back m.code c.fn (pc + behind) (address_size q) ca (point ∷ []) (length_address s q h at) has_a in
      let place_l : pc + behind + (address_size q + 1) ≡ pl = omega (arith, place_sum m.program q (address_size q + 1)) in
      let has_l = subst (λ j. Standing m.code c.fn j rest) place_l (back m.code c.fn (pc + behind) (address_size q + 1) (ca ++ point ∷ []) rest (length_pointing s q at h) has_p) in
      let has_h = bound_behind m low s (h + 3) pl (ch ++ (whole ++ cut)) c.fn has_l in let has_w = bound_behind m high s (h + 4) ph (whole ++ cut) c.fn has_h in
      let has_c = subst (λ j. Standing m.code c.fn (bound_end m.program high ph + 1 + 1) (cut_code s low high j h)) (element_words_are m c.func c.scope u x q there) has_w.1.1 in let ops = operand_types q in
      first array (far q) 0 c calls ws _ v w h pc lo b le hh stops (front m.code c.fn pc cp ((ca ++ point ∷ []) ++ rest) has) fit (omega arith) (omega arith) (λ vs w1 v1 given_vs above room.
      let all = c.held ++ all_kept ops vs in let x0 = variable_of c.env q vs in
      settled_follow m q array vs c.held [] (hold c all) calls ws c.env c.env _ v1 w1 h at (pc + behind) lo b point stops there refl given_vs (ap (λ l. c.held ++ l) (sym (append-nil (all_kept ops vs)))) hh above room
      (front m.code c.fn (pc + behind) ca (point ∷ []) has_a) has_i.0.0 (near_offset s q, 0, temp s h, inr (inr refl)) (λ somewhere way leads.
      let by = place_held m c.env q vs array way in let path = root_of q vs ++ way in let y = slice_in x0 path 0 x x in let base = word a (array_address x0 path 0 x) in
      let low_part = (c.held ++ base ∷ []) ++ (spent ∷ (spent ∷ [])) in let base_wide : length (c.held ++ base ∷ []) ≡ h + 1 = omega (arith, length-append c.held (base ∷ [])) in
      let wide : length low_part ≡ h + 3 = omega (arith, base_wide, length-append (c.held ++ base ∷ []) (spent ∷ (spent ∷ []))) in let iy : IsOf a y = (let same : x ≤ x = omega arith in same) in
      later m {lo = suc lo} {hi = 1} {b = b} (omega arith) (omega arith) (omega arith)
      (given m (λ r g. subst (λ l. Stands m v1 w1 (hold c l ∷ calls) r) (append_assoc c.held (all_kept ops vs) by) g)
      (pointed_as m q array vs way c calls c.held (all_kept ops vs ++ by) v1 w1 h at h (pc + behind + address_size q) lo 0 b _ base has_i.0.0 there taken leads
      (guided m q array vs way c h at given_vs somewhere hh above) hh (omega arith) (λ r j may reached. (may, array_sliced v1.homes r.hi w1 x u x0 path j reached))
      (place_is m (let e : pl ≡ pc + behind + address_size q + 1 = omega (arith, place_l) in e)
      (given m (λ r g. with_spent m 2 v1 w1 (hold c (c.held ++ base ∷ [])) calls r (omega (arith, base_wide)) g)
      (lowest (pos 0) (hold c low_part) calls _ _ v1 w1 (h + 3) pl lo b le wide stops (front m.code c.fn pl cl (ch ++ (whole ++ cut)) has_l) fit_low (omega arith) (omega arith) (λ l w2 v2 low_is.
      given m (λ r g. low_kept m low l v2 w2 c calls r low_part (omega (arith, wide)) g)
      (highest (pos x) (hold c (low_part ++ low_held low l ∷ [])) calls _ _ v2 w2 (h + 4) ph lo b le (let one : length (low_held low l ∷ []) ≡ 1 = refl in omega (arith, wide, one, length-append low_part (low_held low l ∷ []))) stops (front m.code c.fn ph ch (whole ++ cut) has_h) fit_high (omega arith) (omega arith) (λ z w3 v3 high_is.
      let more_held = low_held low l ∷ bound_held high z in
      turned m {lo1 = suc (suc (suc (suc (suc (suc lo)))))} (omega arith)
      (given m (λ r g. subst (λ o. Stands m v3 w3 (hold c o ∷ calls) r) (append_assoc low_part (low_held low l ∷ []) (bound_held high z) ∙ append_assoc (c.held ++ base ∷ []) (spent ∷ (spent ∷ [])) more_held ∙ append_assoc c.held (base ∷ []) (spent ∷ (spent ∷ more_held))) g)
      (numbers_put m c calls {lo = suc (suc (suc (suc lo)))} {hi = 1} v3 w3 c.held more_held base spent spent h x (bound_end m.program high ph) hh small has_w.0.0 has_w.1.0.0
      (cut_ends m c calls number c.held h hh y v3 w3 l z iy (omega arith) ws c.env from (Meaning.give ws (array_slicing from q x low high) k) stops low high (suc lo) b (bound_end m.program high ph + 1 + 1) low_is high_is has_c (λ r ir.
      seen m _ (place_is m (let e : pc + (place_size m.program q (address_size q + 1) + (bound_size m.program low + (bound_size m.program high + 3))) ≡ bound_end m.program high ph + 1 + 1 + length (cut_code s low high (width u) h) = omega (arith, cut_place m low high s (width u) h pl) in e)
      (subst (λ o. At m (suc lo) 0 b v3 (k r w3) (Stands m v3 w3 (hold c (c.held ++ kept o r) ∷ calls)) (pc + (place_size m.program q (address_size q + 1) + (bound_size m.program low + (bound_size m.program high + 3))))) is (post r w3 v3 (subst (λ o. IsOf o r) (sym is) ir))))))))))))))))))
