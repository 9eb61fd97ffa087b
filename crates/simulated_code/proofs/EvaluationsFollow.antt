-- The machine follows an evaluation.
use Rattle.std.proofs.Common.{◌≡◌, inl, inr, ℕ, suc, ◌+◌, ◌<◌, ◌≤◌, Bool, true, false, List, [], ◌∷◌, ◌++◌, length, refl, sym, ap, ◌∙◌, subst, arith, append_assoc, append-nil, get_or}
use Rattle.std.specs.Prelude.{slice_index, take, replicate, max}
use Rattle.typed_syntax.specs.Value.{Value, bool, pointer, IsOf, zero_of}
use Rattle.typed_syntax.specs.Syntax.{Pl, Steps, local, global, indirect, slice_element, here as itself, inner, at_index, type_in, type_named, site_type, global_type, Ex, Exs, Piece, constant, read, unary, binary, logical_and, logical_or, call, part_of, literal, address_of, Elements, no_elements, element, none, more, results, read_int, text, shown, wide, ascend_from, ascend, words_before, words_through, gap_behind, nil, new_variable, literal_variable, slice_literal, make, append, append_slice, copy, slicing, array_slicing, len, cap, Bound, absent, bound}
use Rattle.value_laws.proofs.Parts.{words_count, count_of, part_is, with_part_is}
use Rattle.typed_syntax.specs.Form.{AreOf, StepsLead, ExFits, ElementsFit, PiecesFit}
use Rattle.frames.specs.Frames.{far, steps_need, steps_reach, need, elements_need, need_pieces, reach, elements_reach, reach_pieces, outgoing_of, temps_of}
use Rattle.meaning.specs.Trace.{World, Turn}
use Rattle.meaning.specs.Store.{born}
use Rattle.meaning.specs.Operators.{unary_of}
use Rattle.meaning.specs.Meaning
use Rattle.meaning.specs.Meaning.{Go, Then, Ways, Calls, Setting, Item, Aim, Step, fixed, worked, through, only_value, indexed}
use Rattle.isa.specs.declared.instr.MoveEvent.TheVariants.{Silent}
use Rattle.isa.specs.declared.instr.Instr.TheVariants.{Const, Move, Jump, JumpZero}
use Rattle.machine.specs.Machine.{words_at}
use Rattle.program_code.specs.Code.{temp, slots_of, binary_code, unary_code, place_above, steps_above, near_offset, near_words, address_code, address_size, fetch_code, point_code, place_code, place_size, steps_code, steps_size, gap_code, gap_size, ex_code, exs_code, elements_code, pieces_code, size, exs_size, elements_size, pieces_size, call_code, call_size, word_of, compared, new_code}
use Rattle.program_code.proofs.Sizes.{length_gap, length_address, length_place, place_sum, length_code, length_exs}
use Rattle.program_code.proofs.Wide.{AllPlain, place_is_of, plain_one, takes_gives, takes_some, takes_one, wide_is}
use Rattle.typed_syntax.specs.Types.{TypeTree, bools, ints, pointer_to, width, part_type, part_offset, slice_of}
use Rattle.typed_syntax.specs.Paths.{part, with_part}
use Rattle.typed_syntax.specs.Words.{contents}
use Rattle.value_laws.proofs.Zeros.{zero_is}
use Rattle.state_relation.specs.Leaves.{leaf, leaves}
use Rattle.state_relation.specs.Views.{View}
use Rattle.state_relation.specs.Relation.{Memory, sets, Kept, Frame, hold, StandsFor, Stand}
use Rattle.state_relation.proofs.Words.{zero_stands, zero_behind}
use Rattle.state_relation.proofs.Built.{Built}
use Rattle.state_relation.proofs.Rules.{At, Stands, knowing, later, spared, place_is, given, turned, seen, read_of, stepped}
use Rattle.state_relation.proofs.Values.{kept, all_kept, all_kept_one, one_more, more_kept, value_put, temp_set, fewer, held_none}
use Rattle.simulated_code.proofs.SlicesFollow.{int_is}
use Rattle.simulated_code.proofs.Standing.{Standing, front, back, Panics}
use Rattle.simulated_code.proofs.Numbers.{agrees_one, unary_word}
use Rattle.simulated_code.proofs.Places.{Operands, variable_of, root_of, steps_with, index_types, operand_types, located, place_held}
use Rattle.simulated_code.proofs.Settled.{settled_follow}
use Rattle.simulated_code.proofs.Reached.{fetched, pointed_at}
use Rattle.simulated_code.proofs.Temps.{last_word, last_stand, words_moved, words_zeroed}
use Rattle.simulated_code.proofs.Moves.{CallsFollow, call_end}
use Rattle.simulated_code.proofs.Births.{births_pointed, births_pointed_filled, cell_kind, zero_value}
use Rattle.simulated_code.proofs.OperatorsFollow.{operates_one}
use Rattle.simulated_code.proofs.EqualityFollows.{both_operate}
use Rattle.simulated_code.proofs.LinesFollow.{piece_types, texts}
use Rattle.simulated_code.proofs.Composites.{part_within, behind_part, in_order, gap_fits, before_fits, UpTo, up_to_wide, up_to_end, up_to_front, up_to_part, part_put, part_stand, gap_follows}
use Rattle.simulated_code.proofs.EvaluationEnds.{single, only_of, Zeros, last_fits, asked_fits, wide_need, some_need, plain_need, compared_so, guided, truth_post, both_end, either_end, item_read, nil_pays, operand_pays, word_spells, word_one, Evaluated, AllEvaluated, BoundEvaluated, PlaceFollowed}
use Rattle.simulated_code.proofs.SliceValuesFollow.{len_pays, cap_pays, copy_pays, slice_literal_pays, make_pays, append_pays, append_slice_pays, slicing_pays, array_slicing_pays}

module _ (m : Built) (around : Setting) (types : around.types ≡ m.program.types) (inputs : around.items ≡ m.items) (sites_are : around.sites ≡ m.program.sites) (callees : Calls) (n : ℕ) (cf : CallsFollow m callees n) where
  mutual
    -- the last turn of an evaluation has an instruction to spare, for what a literal does with an element
    pub ev_pays : (e : Ex) → Evaluated m around callees n e
    ev_pays (constant x) t c calls ws k v w h pc lo b le hh stops has fit enough reaches post =
        let s = slots_of m.program m.placement c.func in let one = word_one x fit.1 in let count = words_count x in
        turned m {lo1 = suc (suc lo)} (omega arith) (seen m _ (stepped m {lo = suc lo} {hi = 0} (Const (temp s h) (word_of x)) (λ u. sets u (temp s h) (word_of x)) has.0.0
        (λ u g. (refl, refl, temp_set m v w c calls u h (word_of x) t x hh (omega arith) fit.0 (sym (count_of t x fit.0) ∙ one) (word_spells x fit.1) g)) (post x w v fit.0)))
    ev_pays (read q) t c calls ws k v w h pc lo b le hh stops has fit enough reaches post =
        let s = slots_of m.program m.placement c.func in let at = place_above q h in let behind = place_size m.program q 0 in
        let cp = place_code m.program s q h pc in let ca = address_code s q h at in let fetch = fetch_code s q h at h in
        let has_r = back m.code c.fn pc behind cp (ca ++ fetch ∷ []) (length_place m.program s q h pc) has in
        let has_f = back m.code c.fn (pc + behind) (address_size q) ca (fetch ∷ []) (length_address s q h at) has_r in
        let wide = ap width (place_is_of m.program c.scope t q fit) in let ops = operand_types q in let there = located m c.scope t q fit in
        place_follows q t (far q) 0 c calls ws _ v w h pc lo b le hh stops (front m.code c.fn pc cp (ca ++ fetch ∷ []) has) fit (omega arith) reaches (λ vs w1 v1 given_vs above room.
        let all = c.held ++ all_kept ops vs in
        settled_follow m q t vs c.held [] (hold c all) calls ws c.env c.env _ v1 w1 h at (pc + behind) lo b fetch stops there refl given_vs (ap (λ l. c.held ++ l) (sym (append-nil (all_kept ops vs)))) hh above room
        (front m.code c.fn (pc + behind) ca (fetch ∷ []) has_r) has_f.0.0 (near_offset s q, near_words s q, temp s h, inl refl) (λ somewhere way leads.
        let by = place_held m c.env q vs t way in
        later m {lo = suc (suc lo)} {hi = 1} {b = b} (omega arith) (omega arith) (omega arith) (read_of m _ _ _ (seen m _
        (given m (λ u g. subst (λ l. Stands m v1 w1 (hold c l ∷ calls) u) (append_assoc c.held (all_kept ops vs) by) g)
        (fetched m q t vs way c calls c.held (all_kept ops vs ++ by) v1 w1 h at h (pc + behind + address_size q) (suc lo) 0 b _ has_f.0.0 there leads
        (guided m q t vs way c h at given_vs somewhere hh above) hh (omega arith) (λ is.
        place_is m (let e : pc + place_size m.program q (address_size q + 1) ≡ pc + behind + address_size q + 1 = omega (arith, place_sum m.program q (address_size q + 1)) in e) (post _ w1 v1 is))))))))
    ev_pays (address_of q) t c calls ws k v w h pc lo b le hh stops has (number, is, fit, taken) enough reaches post =
        let s = slots_of m.program m.placement c.func in let u = type_named m.program number in let at = place_above q h in let behind = place_size m.program q 0 in
        let cp = place_code m.program s q h pc in let ca = address_code s q h at in let point = point_code s q h at h in
        let has_r = back m.code c.fn pc behind cp (ca ++ point ∷ []) (length_place m.program s q h pc) has in
        let has_p = back m.code c.fn (pc + behind) (address_size q) ca (point ∷ []) (length_address s q h at) has_r in
        let ops = operand_types q in let there = located m c.scope u q fit in
        place_follows q u (far q) 0 c calls ws _ v w h pc lo b le hh stops (front m.code c.fn pc cp (ca ++ point ∷ []) has) fit (omega arith) reaches (λ vs w1 v1 given_vs above room.
        let all = c.held ++ all_kept ops vs in let x = variable_of c.env q vs in
        settled_follow m q u vs c.held [] (hold c all) calls ws c.env c.env _ v1 w1 h at (pc + behind) lo b point stops there refl given_vs (ap (λ l. c.held ++ l) (sym (append-nil (all_kept ops vs)))) hh above room
        (front m.code c.fn (pc + behind) ca (point ∷ []) has_r) has_p.0.0 (near_offset s q, 0, temp s h, inr (inr refl)) (λ somewhere way leads.
        let by = place_held m c.env q vs u way in let y = pointer x (root_of q vs ++ way) in
        later m {lo = suc (suc lo)} {hi = 1} {b = b} (omega arith) (omega arith) (omega arith) (seen m _
        (given m (λ r g. subst (λ l. Stands m v1 w1 (hold c l ∷ calls) r) (append_assoc c.held (all_kept ops vs) by) g)
        (pointed_at m q number vs way c calls c.held (all_kept ops vs ++ by) v1 w1 h at h (pc + behind + address_size q) (suc lo) 0 b _ has_p.0.0 there taken leads
        (guided m q u vs way c h at given_vs somewhere hh above) hh (omega arith)
        (place_is m (let e : pc + place_size m.program q (address_size q + 1) ≡ pc + behind + address_size q + 1 = omega (arith, place_sum m.program q (address_size q + 1)) in e)
        (subst (λ z. At m (suc lo) 0 b v1 (k y w1) (Stands m v1 w1 (hold c (c.held ++ kept z y) ∷ calls)) (pc + place_size m.program q (address_size q + 1))) is (post y w1 v1 (subst (λ z. IsOf z y) (sym is) tt)))))))))
    ev_pays (unary o a) t c calls ws k v w h pc lo b le hh stops has fit enough reaches post =
        let s = slots_of m.program m.placement c.func in let na = size m.program a in
        let ca = ex_code m.program s a h pc in let i = unary_code o (temp s h) in
        let has_i = back m.code c.fn pc na ca (i ∷ []) (length_code m.program s a h pc) has in
        let plain = takes_one o t fit.0 in let one = plain_one t plain in let some = plain_need m c.scope t a plain fit.1 in
        ev_pays a t c calls ws _ v w h pc lo b le hh stops (front m.code c.fn pc ca (i ∷ []) has) fit.1 enough reaches (λ x w1 v1 is. spared m (
        let agree = λ (u : Memory) (g : Stands m v1 w1 (hold c (c.held ++ kept t x) ∷ calls) u). agrees_one o t x (slice_index u.words (temp s h)) fit.0 is (last_word m v1 w1 c calls u c.held t x h hh plain g) in
        knowing m (λ u0 g0.
        turned m {lo1 = suc (suc lo)} (omega arith) (seen m _ (operates_one m {lo = suc lo} {hi = 0} o (temp s h) has_i.0.0
        (λ u g. let r = agree u g in temp_set m v1 w1 c calls u h (unary_word o (slice_index u.words (temp s h))) t (unary_of o x) hh (omega arith) r.0 one r.1 (fewer m v1 w1 c calls u c.held (kept t x) g))
        (place_is m (let e : pc + (na + 1) ≡ pc + na + 1 = omega arith in e)
        (post (unary_of o x) w1 v1 (agree u0 g0).0)))))))
    ev_pays (binary at o a d) t c calls ws k v w h pc lo b le hh stops has fit enough reaches post =
        let s = slots_of m.program m.placement c.func in let na = size m.program a in let nd = size m.program d in let n = wide m.program a in let those = compared m.program a d in
        let ca = ex_code m.program s a h pc in let cd = ex_code m.program s d (h + n) (pc + na) in let i = binary_code o those (temp s h) (temp s (h + n)) in
        let has_d = back m.code c.fn pc na ca (cd ++ i ∷ []) (length_code m.program s a h pc) has in
        let has_i = back m.code c.fn (pc + na) nd cd (i ∷ []) (length_code m.program s d (h + n) (pc + na)) has_d in
        let r = fit.0 in let count = wide_is m.program c.scope r a fit.2 in let takes = takes_some m.program c.scope o a d r t fit.1 fit.2 fit.3 in
        let some = some_need m c.scope r a takes fit.2 in let one = plain_one t (takes_gives o a d r t fit.1) in let has_a = front m.code c.fn pc ca (cd ++ i ∷ []) has in
        operand_pays m around callees a r c calls ws _ v w h pc lo b hh has_a fit.2 (omega arith) (ev_pays a r c calls ws _ v w h pc lo b le hh stops has_a fit.2 (omega arith) (omega arith)) (λ x w1 v1 ix nil_x. spared m (
        let c1 = hold c (c.held ++ kept r x) in let wide_x = one_more c.held r x h n hh count in let has_2 = front m.code c.fn (pc + na) cd (i ∷ []) has_d in
        operand_pays m around callees d r c1 calls (Meaning.holding ws a x) _ v1 w1 (h + n) (pc + na) lo b wide_x has_2 fit.3 (omega arith) (ev_pays d r c1 calls (Meaning.holding ws a x) _ v1 w1 (h + n) (pc + na) lo b le wide_x stops has_2 fit.3 (omega arith) (omega arith)) (λ y w2 v2 iy nil_y. spared m (
        let all = (c.held ++ kept r x) ++ kept r y in
        let under = λ (u : Memory) (g : Stands m v2 w2 (hold c all ∷ calls) u). fewer m v2 w2 c calls u (c.held ++ kept r x) (kept r y) g in
        turned m {lo1 = suc (suc lo)} (omega arith)
        (both_operate m r t x y ix iy v2 w2 (Stands m v2 w2 (hold c all ∷ calls)) (λ z. Stands m v2 w2 (hold c (c.held ++ kept t z) ∷ calls)) n (temp s h) (temp s (h + n)) (pc + na + nd) (suc lo) 0 b count (omega arith)
        (λ u g. last_stand m v2 w2 c calls u c.held r x h n hh count (under u g)) (λ u g. last_stand m v2 w2 c calls u (c.held ++ kept r x) r y (h + n) n (one_more c.held r x h n hh count) count g) (hold c all ∷ calls) (λ u g. g) at ws c.env _
        (λ z word u iz sz g. temp_set m v2 w2 c calls u h word t z hh (omega arith) iz one sz (fewer m v2 w2 c calls u c.held (kept r x) (under u g)))
        (λ z iz. seen m _ (place_is m (let e : pc + (na + nd + 1) ≡ pc + na + nd + 1 = omega arith in e) (post z w2 v2 iz))) o a d those fit.1 (compared_so m c.scope r a d x y fit.2 fit.3 ix nil_x nil_y count) stops has_i.0.0)))))
    ev_pays (logical_and a d) t c calls ws k v w h pc lo b le hh stops has fit enough reaches post =
        let s = slots_of m.program m.placement c.func in let na = size m.program a in let nd = size m.program d in
        let ca = ex_code m.program s a h pc in let cd = ex_code m.program s d h (pc + na + 1) in let i = JumpZero (temp s h) (pc + na + 1 + nd) in
        let has_i = back m.code c.fn pc na ca (i ∷ cd) (length_code m.program s a h pc) has in
        let on = λ (x : Value) (w2 : World) (v2 : View) (ix : IsOf bools x). truth_post m t fit.0 c calls k (pc + (na + 1 + nd)) lo b post x w2 v2 ix in
        let e : pc + (na + 1 + nd) ≡ pc + na + 1 + nd = omega arith in
        ev_pays a bools c calls ws _ v w h pc lo b le hh stops (front m.code c.fn pc ca (i ∷ cd) has) fit.1 (omega arith) (omega arith) (λ x w1 v1 ix. spared m (
        both_end m (logical_and a d) x _ c calls ws k v1 w1 h (pc + na + 1 + nd) (pc + na) lo b has_i.0.0 hh ix
        (ev_pays d bools c calls ws k v1 w1 h (pc + na + 1) lo b le hh stops has_i.1 fit.2 (omega arith) (omega arith) (λ y w2 v2 iy. place_is m e (on y w2 v2 iy)))
        (place_is m e (on (bool false) w1 v1 tt))))
    ev_pays (logical_or a d) t c calls ws k v w h pc lo b le hh stops has fit enough reaches post =
        let s = slots_of m.program m.placement c.func in let na = size m.program a in let nd = size m.program d in
        let ca = ex_code m.program s a h pc in let cd = ex_code m.program s d h (pc + na + 2) in let i = JumpZero (temp s h) (pc + na + 2) in let j = Jump (pc + na + 2 + nd) in
        let has_i = back m.code c.fn pc na ca (i ∷ j ∷ cd) (length_code m.program s a h pc) has in
        let e2 : pc + na + 1 + 1 ≡ pc + na + 2 = omega arith in
        let on = λ (x : Value) (w2 : World) (v2 : View) (ix : IsOf bools x). truth_post m t fit.0 c calls k (pc + (na + 2 + nd)) lo b post x w2 v2 ix in
        let e : pc + (na + 2 + nd) ≡ pc + na + 2 + nd = omega arith in
        ev_pays a bools c calls ws _ v w h pc lo b le hh stops (front m.code c.fn pc ca (i ∷ j ∷ cd) has) fit.1 (omega arith) (omega arith) (λ x w1 v1 ix. spared m (
        either_end m (logical_or a d) x _ c calls ws k v1 w1 h (pc + na + 2) (pc + na + 2 + nd) (pc + na) lo b has_i.0.0 has_i.1.0.0 hh ix
        (ev_pays d bools c calls ws k v1 w1 h (pc + na + 2) lo b le hh stops (subst (λ p. Standing m.code c.fn p cd) e2 has_i.1.1) fit.2 (omega arith) (omega arith) (λ y w2 v2 iy. place_is m e (on y w2 v2 iy)))
        (place_is m e (on (bool true) w1 v1 tt))))
    ev_pays (call f es) t c calls ws k v w h pc lo b le hh stops has fit enough reaches post =
        let s = slots_of m.program m.placement c.func in let nes = exs_size m.program es in
        let ces = exs_code m.program s es h pc in
        let has_c = back m.code c.fn pc nes ces (call_code m.program s f h) (length_exs m.program s es h pc) has in
        evs_follow es fit.0.param_types c calls ws _ v w h pc lo b le hh stops (front m.code c.fn pc ces (call_code m.program s f h) has) fit.3 (omega arith) (omega arith) (λ vs w1 v1 are.
        call_end m callees n cf f fit.0 vs c calls ws c.env _ v1 w1 h (pc + nes) lo b le fit.1 hh stops are has_c (omega arith) (omega arith) (λ rs w2 v2 some.
        let one : AreOf (t ∷ []) rs = subst (λ ts. AreOf ts rs) fit.2 some in
        let same : all_kept fit.0.results rs ≡ kept t (only_value rs) = ap (λ ts. all_kept ts rs) fit.2 ∙ ap (λ l. all_kept (t ∷ []) l) (single t rs one) ∙ all_kept_one t (only_value rs) (only_of t rs one) in
        seen m _ (place_is m (let e : pc + (nes + call_size m.program f) ≡ pc + nes + call_size m.program f = omega arith in e)
        (subst (λ l. At m (suc lo) 0 b v2 (k (only_value rs) w2) (Stands m v2 w2 (hold c (c.held ++ l) ∷ calls)) (pc + (nes + call_size m.program f))) (sym same) (post (only_value rs) w2 v2 (only_of t rs one))))))
    ev_pays (part_of number i e) t c calls ws k v w h pc lo b le hh stops has fit enough reaches post =
        let s = slots_of m.program m.placement c.func in let u = type_named m.program number in let ne = size m.program e in let count = width (part_type u i) in
        let ce = ex_code m.program s e h pc in let move = Move Silent (temp s h) (temp s (h + part_offset u i)) count in
        let has_i = back m.code c.fn pc ne ce (move ∷ []) (length_code m.program s e h pc) has in
        ev_pays e u c calls ws _ v w h pc lo b le hh stops (front m.code c.fn pc ce (move ∷ []) has) fit.3 enough reaches (λ x w1 v1 ix. spared m (
        let same = ap width fit.1 in let some = fit.2 in let y = part x i in let iy = part_is u x i ix fit.0 in
        let room = wide_need m c.scope u e fit.3 in let within = part_within u i fit.0 in
        turned m {lo1 = suc (suc lo)} (omega arith) (seen m _
        (later m {lo = suc (suc lo)} {hi = 1} {b = b} (omega arith) (omega arith) (omega arith)
        (words_moved m {lo = suc lo} {hi = 0} Silent count (temp s h) (temp s (h + part_offset u i)) has_i.0.0
        (λ r g. value_put m v1 w1 c calls r h (part_type u i) y (words_at r.words (temp s (h + part_offset u i)) count) hh (omega arith) (part_stand m c calls v1 w1 r c.held h u x i hh fit.0 ix g) (fewer m v1 w1 c calls r c.held (kept u x) g))
        (place_is m (let q : pc + (ne + 1) ≡ pc + ne + 1 = omega arith in q)
        (subst (λ z. At m (suc lo) 0 b v1 (k y w1) (Stands m v1 w1 (hold c (c.held ++ kept z y) ∷ calls)) (pc + (ne + 1))) (sym fit.1) (post y w1 v1 (subst (λ z. IsOf z y) fit.1 iy)))))))))
    ev_pays (literal number es) t c calls ws k v w h pc lo b le hh stops has fit enough reaches post =
        let s = slots_of m.program m.placement c.func in let u = type_named m.program number in let n = width u in let zero = zero_of u in
        let some = subst (λ r. 0 < width r) (sym fit.0) fit.1 in let fitting = subst (λ r. ElementsFit m.program c.scope r es) (sym fit.0) fit.2 in
        let is = zero_is u in let begins = Stands m v w (hold c (c.held ++ kept u zero) ∷ calls) in
        let typed = λ (y : Value) (iy : IsOf u y). subst (λ r. IsOf r y) fit.0 iy in
        subst (λ (those : List TypeTree). At m lo 0 b v (Turn (Meaning.fill around callees es (zero_of (type_in those number)) ws c.env (Meaning.give ws (literal number es) k) w)) (Stands m v w (c ∷ calls)) pc) (sym types)
        (turned m {lo1 = suc (suc lo)} (omega arith)
        (later m {lo = suc (suc lo)} {hi = 1} {b = b} (omega arith) (omega arith) (omega arith)
        (words_zeroed m {lo = suc lo} {hi = 0} {G1 = begins} n (temp s h) has.0.0 some
        (λ r g. ((let long = g.sized.used in omega arith), value_put m v w c calls r h u zero (replicate n 0) hh (omega arith) (zero_stands m.program m.leading v.homes r.hi w u) g))
        (elim (ascend es) as (λ (o : Bool). ascend es ≡ o → Standing m.code c.fn (pc + 1) (elements_code m.program s u o es h (pc + 1)) → h + max n (elements_need m.program u o es) ≤ temps_of m.program m.placement c.func
        → ((y : Value) (w1 : World) (v1 : View) → IsOf u y → At m (suc lo) 0 b v1 (Meaning.give ws (literal number es) k y w1) (Stands m v1 w1 (hold c (c.held ++ kept u y) ∷ calls)) (pc + 1 + elements_size m.program u o es))
        → At m (suc lo) 0 b v (Meaning.fill around callees es zero ws c.env (Meaning.give ws (literal number es) k) w) begins (pc + 1)) [
          | true ↦ λ order stands room on. given m (up_to_front m c calls v w c.held u zero (words_before u es)) (placed_follow es 0 u zero c c.held calls ws (Meaning.give ws (literal number es) k) v w h (pc + 1) (suc lo) b le hh stops stands order is (λ homes hi w1 j from l. zero_behind m.program m.leading homes hi w1 u j l) fitting room reaches on)
          | false ↦ λ order stands room on. moved_follow es u zero c c.held calls ws (Meaning.give ws (literal number es) k) v w h (pc + 1) (suc lo) b le hh stops stands is fitting room reaches on
        ] refl has.1 enough (λ y w1 v1 iy.
        seen m _ (place_is m (let q : pc + (1 + elements_size m.program u (ascend es) es) ≡ pc + 1 + elements_size m.program u (ascend es) es = omega arith in q)
        (subst (λ z. At m (suc lo) 0 b v1 (k y w1) (Stands m v1 w1 (hold c (c.held ++ kept z y) ∷ calls)) (pc + (1 + elements_size m.program u (ascend es) es))) (sym fit.0) (post y w1 v1 (typed y iy)))))))))
    ev_pays (nil o) t c calls ws k v w h pc lo b le hh stops has fit enough reaches post = nil_pays m around callees o t c calls ws k v w h pc lo b hh has fit enough (post (zero_of t) w v (zero_is t))
    ev_pays (new_variable site) t c calls ws k v w h pc lo b le hh stops has (number, is, named, taken) enough reaches post =
        let zero = Meaning.zero_of around site in let cell = Meaning.new_cell ws.call site (Meaning.site_type around site) zero in let y = pointer (length w.store) [] in
        turned m {lo1 = suc (suc lo)} (omega arith)
        (later m {lo = suc (suc lo)} {hi = 1} {b = b} (omega arith) (omega arith) (omega arith)
        (births_pointed m {lo = suc lo} {hi = 0} c calls v w site number pc h cell has.0.0 (m.placed.taken site taken) hh (omega arith) named (cell_kind m around sites_are site) (zero_value m around sites_are site) (λ v1.
        seen m _ (subst (λ z. At m (suc lo) 0 b v1 (k y (born w cell)) (Stands m v1 (born w cell) (hold c (c.held ++ kept z y) ∷ calls)) (pc + 1)) is (post y (born w cell) v1 (subst (λ z. IsOf z y) (sym is) tt))))))
    ev_pays (literal_variable site e) t c calls ws k v w h pc lo b le hh stops has ((number, is, named, taken), fit) enough reaches post =
        let s = slots_of m.program m.placement c.func in let u = site_type m.program site in let n = width u in let ne = size m.program e in let at = h + n in
        let ce = ex_code m.program s e h pc in let rest = new_code s site at h in
        let has_n = back m.code c.fn pc ne ce rest (length_code m.program s e h pc) has in let same = wide_is m.program c.scope u e fit in
        ev_pays e u c calls ws _ v w h pc lo b le hh stops (front m.code c.fn pc ce rest has) fit (omega arith) reaches (λ x w1 v1 ix. spared m (
        let all = c.held ++ kept u x in let y = pointer (length w1.store) [] in let cell = Meaning.new_cell ws.call site (Meaning.site_type around site) x in let kind = cell_kind m around sites_are site in
        let wide_x = one_more c.held u x h n hh refl in
        turned m {lo1 = suc (suc (suc (suc lo)))} (omega arith)
        (later m {lo = suc (suc (suc (suc lo)))} {hi = 1} {b = b} (omega arith) (omega arith) (omega arith)
        (births_pointed_filled m {lo = suc (suc lo)} {hi = 1} (hold c all) calls v1 w1 site number (pc + ne) at h cell has_n.0.0 has_n.1.0.0 (m.placed.taken site taken) wide_x (omega (arith, same)) (omega arith) named kind (subst (λ o. IsOf o x) (sym kind) ix)
        (λ r g. subst (λ o. Stand m.program m.leading v1.homes r.hi w1 (leaves o) (contents x) (words_at r.words (temp s h) n)) (sym kind) (last_stand m v1 w1 c calls r c.held u x h n hh refl g)) (λ v2.
        seen m _ (words_moved m {lo = suc lo} {hi = 0} Silent 1 (temp s h) (temp s at) has_n.1.1.0.0
        (λ r g. value_put m v2 (born w1 cell) c calls r h (pointer_to number) y (words_at r.words (temp s at) 1) hh (omega (arith, same)) (last_stand m v2 (born w1 cell) c calls r all (pointer_to number) y at 1 wide_x refl g)
        (fewer m v2 (born w1 cell) c calls r c.held (kept u x) (fewer m v2 (born w1 cell) c calls r all (kept (pointer_to number) y) g)))
        (place_is m (let q : pc + (ne + 3) ≡ pc + ne + 1 + 1 + 1 = omega arith in q)
        (subst (λ z. At m (suc lo) 0 b v2 (k y (born w1 cell)) (Stands m v2 (born w1 cell) (hold c (c.held ++ kept z y) ∷ calls)) (pc + (ne + 3))) is (post y (born w1 cell) v2 (subst (λ z. IsOf z y) (sym is) tt))))))))))
    ev_pays (len e) t c calls ws k v w h pc lo b le hh stops has fit enough reaches post =
        len_pays m around sites_are callees n e (ev_pays e) t c calls ws k v w h pc lo b le hh stops has fit enough reaches post
    ev_pays (cap e) t c calls ws k v w h pc lo b le hh stops has fit enough reaches post =
        cap_pays m around sites_are callees n e (ev_pays e) t c calls ws k v w h pc lo b le hh stops has fit enough reaches post
    ev_pays (copy number e f) t c calls ws k v w h pc lo b le hh stops has fit enough reaches post =
        copy_pays m around sites_are callees n number e f (ev_pays e) (ev_pays f) t c calls ws k v w h pc lo b le hh stops has fit enough reaches post
    ev_pays (slice_literal site es) t c calls ws k v w h pc lo b le hh stops has fit enough reaches post =
        slice_literal_pays m around sites_are callees n site es (evs_follow es) t c calls ws k v w h pc lo b le hh stops has fit enough reaches post
    ev_pays (make at site count room) t c calls ws k v w h pc lo b le hh stops has fit enough reaches post =
        make_pays m around sites_are callees n at site count room (ev_pays count) (bound_follows room) t c calls ws k v w h pc lo b le hh stops has fit enough reaches post
    ev_pays (append site e es) t c calls ws k v w h pc lo b le hh stops has fit enough reaches post =
        append_pays m around sites_are callees n site e es (ev_pays e) (evs_follow es) t c calls ws k v w h pc lo b le hh stops has fit enough reaches post
    ev_pays (append_slice site e f) t c calls ws k v w h pc lo b le hh stops has fit enough reaches post =
        append_slice_pays m around sites_are callees n site e f (ev_pays e) (ev_pays f) t c calls ws k v w h pc lo b le hh stops has fit enough reaches post
    ev_pays (slicing at number e low high) t c calls ws k v w h pc lo b le hh stops has fit enough reaches post =
        slicing_pays m around sites_are callees n at number e low high (ev_pays e) (bound_follows low) (bound_follows high) t c calls ws k v w h pc lo b le hh stops has fit enough reaches post
    ev_pays (array_slicing from q x low high) t c calls ws k v w h pc lo b le hh stops has fit enough reaches post =
        array_slicing_pays m around sites_are callees n from q x low high (place_follows q) (bound_follows low) (bound_follows high) t c calls ws k v w h pc lo b le hh stops has fit enough reaches post

    -- a bound that is there, or the number in its place
    bound_follows : (bd : Bound) → BoundEvaluated m around callees n bd
    bound_follows absent other c calls ws k v w h pc lo b le hh stops has fit enough reaches post = given m (held_none m v w c calls) (post other w v refl)
    bound_follows (bound e) other c calls ws k v w h pc lo b le hh stops has fit enough reaches post =
        ev_pays e ints c calls ws k v w h pc lo b le hh stops has fit enough reaches (λ x w1 v1 ix. spared m (
        subst (λ (y : Value). At m lo 0 b v1 (k y w1) (Stands m v1 w1 (hold c (c.held ++ kept ints y) ∷ calls)) (pc + size m.program e)) (sym (int_is x ix)) (post (Meaning.int_of x) w1 v1 tt)))

    -- the operands of a place, and room for some words after them
    pub place_follows : (q : Pl) → PlaceFollowed m around callees n q
    place_follows (local site steps) t behind others c calls ws k v w h pc lo b le hh stops has fit enough reaches post =
        steps_follow steps (site_type m.program site) t behind others c calls ws (λ r. k (record { base = Meaning.variable (c.env site); steps = r })) v w h pc lo b le hh stops has fit.1 enough reaches post
    place_follows (global g0 steps) t behind others c calls ws k v w h pc lo b le hh stops has fit enough reaches post =
        steps_follow steps (global_type m.program g0) t behind others c calls ws (λ r. k (record { base = Meaning.variable g0; steps = r })) v w h pc lo b le hh stops has fit.1 enough reaches post
    place_follows (indirect at e number steps) t behind others c calls ws k v w h pc lo b le hh stops has fit enough reaches post =
        let s = slots_of m.program m.placement c.func in let ne = size m.program e in let u = pointer_to number in
        let ce = ex_code m.program s e h pc in let cs = steps_code m.program s steps (h + 1) (pc + ne) in
        ev_pays e u c calls ws _ v w h pc lo b le hh stops (front m.code c.fn pc ce cs has) fit.0 (omega arith) (omega arith) (λ y w1 v1 iy. spared m (
        steps_follow steps (type_named m.program number) t behind others (hold c (c.held ++ kept u y)) calls (Meaning.holding ws e y) (λ r. k (record { base = through at e y; steps = r })) v1 w1 (h + 1) (pc + ne) lo b le (one_more c.held u y h 1 hh refl) stops
        (back m.code c.fn pc ne ce cs (length_code m.program s e h pc) has) fit.1 (omega arith) (omega arith) (λ vs w2 v2 those above room.
        let same = more_kept c.held u (index_types steps) y vs iy in
        place_is m (let q : pc + (ne + steps_size m.program steps 0) ≡ pc + ne + steps_size m.program steps 0 = omega arith in q)
        (subst (λ l. At m lo 0 b v2 (k (record { base = through at e y; steps = steps_with steps vs }) w2) (Stands m v2 w2 (hold c l ∷ calls)) (pc + (ne + steps_size m.program steps 0))) same
        (post (y ∷ vs) w2 v2 (iy, those) (ap (λ l. length l) same ∙ above) room)))))
    place_follows (slice_element at e i number steps) t behind others c calls ws k v w h pc lo b le hh stops has fit enough reaches post =
        let s = slots_of m.program m.placement c.func in let ne = size m.program e in let ni = size m.program i in let u = slice_of number in
        let ce = ex_code m.program s e h pc in let ci = ex_code m.program s i (h + 3) (pc + ne) in let cs = steps_code m.program s steps (h + 4) (pc + ne + ni) in
        let has_i = back m.code c.fn pc ne ce (ci ++ cs) (length_code m.program s e h pc) has in let q4 : h + 3 + 1 ≡ h + 4 = omega arith in
        ev_pays e u c calls ws _ v w h pc lo b le hh stops (front m.code c.fn pc ce (ci ++ cs) has) fit.0 (omega arith) (omega arith) (λ y w1 v1 iy. spared m (
        let first = c.held ++ kept u y in let wide = one_more c.held u y h 3 hh refl in
        ev_pays i ints (hold c first) calls (Meaning.holding ws e y) _ v1 w1 (h + 3) (pc + ne) lo b le wide stops (front m.code c.fn (pc + ne) ci cs has_i) fit.1 (omega arith) (omega arith) (λ z w2 v2 iz. spared m (
        steps_follow steps (type_named m.program number) t behind others (hold c (first ++ kept ints z)) calls (Meaning.holding (Meaning.holding ws e y) i z) (λ r. k (record { base = indexed at e y i z; steps = r })) v2 w2 (h + 4) (pc + ne + ni) lo b le (one_more first ints z (h + 3) 1 wide refl ∙ q4) stops
        (back m.code c.fn (pc + ne) ni ci cs (length_code m.program s i (h + 3) (pc + ne)) has_i) fit.2 (omega arith) (omega arith) (λ vs w3 v3 those above room.
        let same = more_kept c.held u (ints ∷ index_types steps) y (z ∷ vs) iy ∙ more_kept first ints (index_types steps) z vs iz in
        place_is m (let q : pc + (ne + (ni + steps_size m.program steps 0)) ≡ pc + ne + ni + steps_size m.program steps 0 = omega arith in q)
        (subst (λ l. At m lo 0 b v3 (k (record { base = indexed at e y i z; steps = steps_with steps vs }) w3) (Stands m v3 w3 (hold c l ∷ calls)) (pc + (ne + (ni + steps_size m.program steps 0)))) same
        (post (y ∷ z ∷ vs) w3 v3 (iy, (iz, those)) (ap (λ l. length l) same ∙ above) room)))))))

    steps_follow : (steps : Steps) (u t : TypeTree) (behind others : ℕ) (c : Frame) (calls : List Frame) (ws : Ways) (k : Then (List Step)) (v : View) (w : World) (h pc lo b : ℕ) → b ≤ suc n → length c.held ≡ h → Panics ws → Standing m.code c.fn pc (steps_code m.program (slots_of m.program m.placement c.func) steps h pc)
        → StepsLead m.program c.scope u steps t → h + steps_need m.program steps behind ≤ temps_of m.program m.placement c.func → steps_reach m.program steps others ≤ outgoing_of m.program c.func
        → ((vs : List Value) (w1 : World) (v1 : View) → Operands steps vs → length (c.held ++ all_kept (index_types steps) vs) ≡ steps_above steps h → steps_above steps h + behind ≤ temps_of m.program m.placement c.func
        → At m lo 0 b v1 (k (steps_with steps vs) w1) (Stands m v1 w1 (hold c (c.held ++ all_kept (index_types steps) vs) ∷ calls)) (pc + steps_size m.program steps 0))
        → At m lo 0 b v (Meaning.walk around callees steps ws c.env k w) (Stands m v w (c ∷ calls)) pc
    steps_follow itself u t behind others c calls ws k v w h pc lo b le hh stops has fit enough reaches post =
        given m (held_none m v w c calls) (place_is m (let q : pc + 0 ≡ pc = omega arith in q) (post [] w v tt (ap (λ l. length l) (append-nil c.held) ∙ hh) enough))
    steps_follow (inner i steps) u t behind others c calls ws k v w h pc lo b le hh stops has fit enough reaches post =
        steps_follow steps (part_type u i) t behind others c calls ws (λ r. k (fixed i ∷ r)) v w h pc lo b le hh stops has fit.1 enough reaches post
    steps_follow (at_index at e x steps) u t behind others c calls ws k v w h pc lo b le hh stops has (r, is, some, index, fit) enough reaches post =
        let s = slots_of m.program m.placement c.func in let ne = size m.program e in
        let ce = ex_code m.program s e h pc in let cs = steps_code m.program s steps (h + 1) (pc + ne) in
        ev_pays e ints c calls ws _ v w h pc lo b le hh stops (front m.code c.fn pc ce cs has) index (omega arith) (omega arith) (λ y w1 v1 iy. spared m (
        steps_follow steps r t behind others (hold c (c.held ++ kept ints y)) calls (Meaning.holding ws e y) (λ q. k (worked at e y x ∷ q)) v1 w1 (h + 1) (pc + ne) lo b le (one_more c.held ints y h 1 hh refl) stops
        (back m.code c.fn pc ne ce cs (length_code m.program s e h pc) has) fit (omega arith) (omega arith) (λ vs w2 v2 those above room.
        let same = more_kept c.held ints (index_types steps) y vs iy in
        place_is m (let q : pc + (ne + steps_size m.program steps 0) ≡ pc + ne + steps_size m.program steps 0 = omega arith in q)
        (subst (λ l. At m lo 0 b v2 (k (worked at e y x ∷ steps_with steps vs) w2) (Stands m v2 w2 (hold c l ∷ calls)) (pc + (ne + steps_size m.program steps 0))) same
        (post (y ∷ vs) w2 v2 (iy, those) (ap (λ l. length l) same ∙ above) room)))))

    -- elements in order: what lies before the first of them stands, and after that the value is zero
    placed_follow : (es : Elements) (first : ℕ) (t : TypeTree) (x : Value) (c : Frame) (held : List Kept) (calls : List Frame) (ws : Ways) (k : Then Value) (v : View) (w : World) (h pc lo b : ℕ) → b ≤ suc n → length held ≡ h → Panics ws
        → Standing m.code c.fn pc (elements_code m.program (slots_of m.program m.placement c.func) t true es h pc) → ascend_from first es ≡ true → IsOf t x → Zeros m.program m.leading t x (words_before t es) → ElementsFit m.program c.scope t es
        → h + max (width t) (elements_need m.program t true es) ≤ temps_of m.program m.placement c.func → elements_reach m.program es ≤ outgoing_of m.program c.func
        → ((y : Value) (w1 : World) (v1 : View) → IsOf t y → At m lo 0 b v1 (k y w1) (Stands m v1 w1 (hold c (held ++ kept t y) ∷ calls)) (pc + elements_size m.program t true es))
        → At m lo 0 b v (Meaning.fill around callees es x ws c.env k w) (UpTo m c calls v w held t x (words_before t es)) pc
    placed_follow no_elements first t x c held calls ws k v w h pc lo b le hh stops has order ix zeros fit enough reaches post =
        given m (up_to_end m c calls v w held t x) (place_is m (let q : pc + 0 ≡ pc = omega arith in q) (post x w v ix))
    placed_follow (element i e es) first t x c held calls ws k v w h pc lo b le hh stops has order ix zeros fit enough reaches post =
        let s = slots_of m.program m.placement c.func in let u = part_type t i in let here = h + part_offset t i in let ne = size m.program e in let gap = gap_behind t i es in
        let next = pc + ne + gap_size gap in
        let front_held = held ++ take (part_offset t i) (kept t x) in
        let ce = ex_code m.program s e here pc in let cg = gap_code gap (temp s (h + words_through t i)) in let rest = elements_code m.program s t true es h next in
        let has_g = back m.code c.fn pc ne ce (cg ++ rest) (length_code m.program s e here pc) has in
        let has_r = back m.code c.fn (pc + ne) (gap_size gap) cg rest (length_gap gap (temp s (h + words_through t i))) has_g in
        let inside = part_within t i fit.0 in
        ev_pays e u (hold c front_held) calls ws _ v w here pc lo b le (up_to_wide m c calls v w held t x (part_offset t i) (omega arith) ∙ (let q : length held + part_offset t i ≡ here = omega arith in q)) stops (front m.code c.fn pc ce (cg ++ rest) has) fit.2 (omega arith) (omega arith) (λ y w1 v1 iy.
        let z = with_part x i y in let iz = with_part_is t x y i ix fit.0 iy in
        let after = gap_fits m c.scope t x i es ix fit.0 fit.3 (in_order first i e es order).1 in
        let behind = before_fits m c.scope t x es ix fit.3 in
        let zero : Zeros m.program m.leading t z (words_through t i) = λ homes hi w2 j from l. subst (λ r. StandsFor m.program m.leading homes hi w2 (leaf t j) r 0) (sym (behind_part t x y i fit.0 ix iy j from)) (zeros homes hi w2 j (omega arith) l) in
        given m (up_to_part m c calls v1 w1 held t x y i fit.0 ix iy)
        (gap_follows m c calls v1 w1 held t z h (words_through t i) (words_before t es) (pc + ne) lo b _ hh after behind (omega arith) (λ j hi from l. zero v1.homes hi w1 j from (omega arith)) (front m.code c.fn (pc + ne) cg rest has_g)
        (placed_follow es (suc i) t z c held calls (Meaning.holding ws e y) k v1 w1 h next lo b le hh stops has_r (in_order first i e es order).1 iz (λ homes hi w2 j from l. zero homes hi w2 j (omega arith) l) fit.3 (omega arith) (omega arith) (λ r w2 v2 ir.
        place_is m (let q : pc + (ne + (gap_size gap + elements_size m.program t true es)) ≡ next + elements_size m.program t true es = omega arith in q) (post r w2 v2 ir)))))

    -- elements in another order: each is worked out after the value, and its words go to their place
    moved_follow : (es : Elements) (t : TypeTree) (x : Value) (c : Frame) (held : List Kept) (calls : List Frame) (ws : Ways) (k : Then Value) (v : View) (w : World) (h pc lo b : ℕ) → b ≤ suc n → length held ≡ h → Panics ws
        → Standing m.code c.fn pc (elements_code m.program (slots_of m.program m.placement c.func) t false es h pc) → IsOf t x → ElementsFit m.program c.scope t es
        → h + max (width t) (elements_need m.program t false es) ≤ temps_of m.program m.placement c.func → elements_reach m.program es ≤ outgoing_of m.program c.func
        → ((y : Value) (w1 : World) (v1 : View) → IsOf t y → At m lo 0 b v1 (k y w1) (Stands m v1 w1 (hold c (held ++ kept t y) ∷ calls)) (pc + elements_size m.program t false es))
        → At m lo 0 b v (Meaning.fill around callees es x ws c.env k w) (Stands m v w (hold c (held ++ kept t x) ∷ calls)) pc
    moved_follow no_elements t x c held calls ws k v w h pc lo b le hh stops has ix fit enough reaches post =
        place_is m (let q : pc + 0 ≡ pc = omega arith in q) (post x w v ix)
    moved_follow (element i e es) t x c held calls ws k v w h pc lo b le hh stops has ix fit enough reaches post =
        let s = slots_of m.program m.placement c.func in let u = part_type t i in let there = h + width t in let ne = size m.program e in let count = width u in
        let from = temp s there in let to = temp s (h + part_offset t i) in
        let ce = ex_code m.program s e there pc in let rest = elements_code m.program s t false es h (pc + ne + 1) in
        let has_m = back m.code c.fn pc ne ce (Move Silent to from count ∷ rest) (length_code m.program s e there pc) has in
        let wide = one_more held t x h (width t) hh refl in let inside = part_within t i fit.0 in let some = fit.1 in
        ev_pays e u (hold c (held ++ kept t x)) calls ws _ v w there pc lo b le wide stops (front m.code c.fn pc ce (Move Silent to from count ∷ rest) has) fit.2 (omega arith) (omega arith) (λ y w1 v1 iy.
        later m {lo = suc lo} {hi = 1} {b = b} (omega arith) (omega arith) (omega arith)
        (words_moved m {lo = lo} {hi = 0} Silent count to from has_m.0.0
        (λ r g. part_put m c calls v1 w1 r (words_at r.words from count) held h t x y i hh fit.0 ix iy (last_stand m v1 w1 c calls r (held ++ kept t x) u y there count wide refl g) (fewer m v1 w1 c calls r (held ++ kept t x) (kept u y) g))
        (moved_follow es t (with_part x i y) c held calls (Meaning.holding ws e y) k v1 w1 h (pc + ne + 1) lo b le hh stops has_m.1 (with_part_is t x y i ix fit.0 iy) fit.3 (omega arith) (omega arith) (λ z w2 v2 iz.
        place_is m (let q : pc + (ne + (1 + elements_size m.program t false es)) ≡ pc + ne + 1 + elements_size m.program t false es = omega arith in q) (post z w2 v2 iz)))))

    pub evs_follow : (es : Exs) → AllEvaluated m around callees n es
    evs_follow none [] c calls ws k v w h pc lo b le hh stops has fit enough reaches post =
        given m (held_none m v w c calls) (place_is m (let e : pc + 0 ≡ pc = omega arith in e) (post [] w v tt))
    evs_follow none (t ∷ ts) c calls ws k v w h pc lo b le hh stops has fit enough reaches post = absurd fit
    evs_follow (more e es) [] c calls ws k v w h pc lo b le hh stops has fit enough reaches post = absurd fit
    evs_follow (more e es) (t ∷ ts) c calls ws k v w h pc lo b le hh stops has fit enough reaches post =
        let s = slots_of m.program m.placement c.func in let ne = size m.program e in let nes = exs_size m.program es in
        let ce = ex_code m.program s e h pc in let ces = exs_code m.program s es (h + wide m.program e) (pc + ne) in let lw = wide_is m.program c.scope t e fit.0 in
        ev_pays e t c calls ws _ v w h pc lo b le hh stops (front m.code c.fn pc ce ces has) fit.0 (omega arith) (omega arith) (λ x w1 v1 ix. spared m (
        evs_follow es ts (hold c (c.held ++ kept t x)) calls (Meaning.holding ws e x) _ v1 w1 (h + wide m.program e) (pc + ne) lo b le (one_more c.held t x h (wide m.program e) hh lw) stops (back m.code c.fn pc ne ce ces (length_code m.program s e h pc) has) fit.1 (omega arith) (omega arith) (λ vs w2 v2 are.
        place_is m (let q : pc + (ne + nes) ≡ pc + ne + nes = omega arith in q)
        (subst (λ l. At m lo 0 b v2 (k (x ∷ vs) w2) (Stands m v2 w2 (hold c l ∷ calls)) (pc + (ne + nes))) (more_kept c.held t ts x vs ix) (post (x ∷ vs) w2 v2 (ix, are))))))
    evs_follow read_int ts c calls ws k v w h pc lo b le hh stops has fit enough reaches post =
        let two : ts ≡ ints ∷ bools ∷ [] = asked_fits m.program c.scope ts fit in
        item_read m around inputs c calls ws k v w h pc lo b hh has enough (λ vs w1 are. subst (λ us. At m lo 0 b v (k vs w1) (Stands m v w1 (hold c (c.held ++ all_kept us vs) ∷ calls)) (pc + 1)) two (post vs w1 v (subst (λ us. AreOf us vs) (sym two) are)))
    evs_follow (results f es) ts c calls ws k v w h pc lo b le hh stops has fit enough reaches post =
        let s = slots_of m.program m.placement c.func in let nes = exs_size m.program es in
        let last = last_fits m.program c.scope ts f es fit in
        let ces = exs_code m.program s es h pc in
        let has_c = back m.code c.fn pc nes ces (call_code m.program s f h) (length_exs m.program s es h pc) has in
        evs_follow es last.0.param_types c calls ws _ v w h pc lo b le hh stops (front m.code c.fn pc ces (call_code m.program s f h) has) last.3 (omega arith) (omega arith) (λ vs w1 v1 are.
        call_end m callees n cf f last.0 vs c calls ws c.env _ v1 w1 h (pc + nes) lo b le last.1 hh stops are has_c (omega arith) (omega arith) (λ rs w2 v2 some.
        later m {lo = lo} {hi = 0} {b = b} (omega arith) (omega arith) (omega arith)
        (seen m _ (place_is m (let e : pc + (nes + call_size m.program f) ≡ pc + nes + call_size m.program f = omega arith in e)
        (subst (λ us. At m lo 0 b v2 (k rs w2) (Stands m v2 w2 (hold c (c.held ++ all_kept us rs) ∷ calls)) (pc + (nes + call_size m.program f))) (sym last.2) (post rs w2 v2 (subst (λ us. AreOf us rs) last.2 some)))))))

  pub ev_follows : (e : Ex) (t : TypeTree) (c : Frame) (calls : List Frame) (ws : Ways) (k : Then Value) (v : View) (w : World) (h pc lo b : ℕ) → b ≤ suc n → length c.held ≡ h → Panics ws → Standing m.code c.fn pc (ex_code m.program (slots_of m.program m.placement c.func) e h pc)
      → ExFits m.program c.scope t e → h + need m.program e ≤ temps_of m.program m.placement c.func → reach m.program e ≤ outgoing_of m.program c.func
      → ((x : Value) (w1 : World) (v1 : View) → IsOf t x → At m lo 0 b v1 (k x w1) (Stands m v1 w1 (hold c (c.held ++ kept t x) ∷ calls)) (pc + size m.program e))
      → At m lo 0 b v (Meaning.ev around callees e ws c.env k w) (Stands m v w (c ∷ calls)) pc
  ev_follows e t c calls ws k v w h pc lo b le hh stops has fit enough reaches post =
      ev_pays e t c calls ws k v w h pc lo b le hh stops has fit enough reaches (λ x w1 v1 ix. spared m (post x w1 v1 ix))

  pub pieces_plain : (scope : List ℕ) (ps : List Piece) → PiecesFit m.program scope ps → AllPlain (piece_types ps)
  pieces_plain scope [] fit = tt
  pieces_plain scope (text number ∷ ps) fit = pieces_plain scope ps fit.1
  pieces_plain scope (shown t e ∷ ps) fit = (fit.0.0, pieces_plain scope ps fit.1)

  pub pieces_follow : (ps : List Piece) (c : Frame) (calls : List Frame) (ws : Ways) (k : Then (List (List ℕ))) (v : View) (w : World) (h pc lo b : ℕ) → b ≤ suc n → length c.held ≡ h → Panics ws → Standing m.code c.fn pc (pieces_code m.program (slots_of m.program m.placement c.func) ps h pc)
      → PiecesFit m.program c.scope ps → h + need_pieces m.program ps ≤ temps_of m.program m.placement c.func → reach_pieces m.program ps ≤ outgoing_of m.program c.func
      → ((vs : List Value) (w1 : World) (v1 : View) → AreOf (piece_types ps) vs → At m lo 0 b v1 (k (texts around.strings ps vs) w1) (Stands m v1 w1 (hold c (c.held ++ all_kept (piece_types ps) vs) ∷ calls)) (pc + pieces_size m.program ps))
      → At m lo 0 b v (Meaning.pieces around callees ps ws c.env k w) (Stands m v w (c ∷ calls)) pc
  pieces_follow [] c calls ws k v w h pc lo b le hh stops has fit enough reaches post =
      given m (held_none m v w c calls) (place_is m (let e : pc + 0 ≡ pc = omega arith in e) (post [] w v tt))
  pieces_follow (text number ∷ ps) c calls ws k v w h pc lo b le hh stops has fit enough reaches post =
      let q : pc + pieces_size m.program (text number ∷ ps) ≡ pc + pieces_size m.program ps = omega arith in
      pieces_follow ps c calls ws (λ r. k (get_or around.strings number [] ∷ r)) v w h pc lo b le hh stops has fit.1 enough reaches (λ vs w1 v1 are. place_is m {pc = pc + pieces_size m.program (text number ∷ ps)} q (post vs w1 v1 are))
  pieces_follow (shown t e ∷ ps) c calls ws k v w h pc lo b le hh stops has fit enough reaches post =
      let s = slots_of m.program m.placement c.func in let ne = size m.program e in let nps = pieces_size m.program ps in
      let ce = ex_code m.program s e h pc in let cps = pieces_code m.program s ps (h + 1) (pc + ne) in
      ev_follows e t c calls ws _ v w h pc lo b le hh stops (front m.code c.fn pc ce cps has) fit.0.1 (omega arith) (omega arith) (λ x w1 v1 ix.
      pieces_follow ps (hold c (c.held ++ kept t x)) calls (Meaning.holding ws e x) _ v1 w1 (h + 1) (pc + ne) lo b le (one_more c.held t x h 1 hh (sym (plain_one t fit.0.0))) stops (back m.code c.fn pc ne ce cps (length_code m.program s e h pc) has) fit.1 (omega arith) (omega arith) (λ vs w2 v2 are.
      place_is m (let q : pc + (ne + nps) ≡ pc + ne + nps = omega arith in q)
      (subst (λ l. At m lo 0 b v2 (k (texts around.strings (shown t e ∷ ps) (x ∷ vs)) w2) (Stands m v2 w2 (hold c l ∷ calls)) (pc + (ne + nps))) (more_kept c.held t (piece_types ps) x vs ix) (post (x ∷ vs) w2 v2 (ix, are)))))
