-- The machine follows statements that have no others inside.
use Rattle.std.proofs.Common.{◌≡◌, inl, inr, ℕ, zero, suc, ◌+◌, ◌<◌, ◌≤◌, ℤ, pos, negsuc, Bool, true, false, List, [], ◌∷◌, ◌++◌, length, Some, refl, sym, ap, ◌∙◌, subst, arith, length-append, get_or, append_assoc, append-nil}
use Rattle.std.specs.Prelude.{slice_get, slice_index, max, not, ◌==◌, nat_lt, if◌then◌else◌}
use Rattle.std.specs.Int.{w64, cast_signed}
use Rattle.typed_syntax.specs.Positions.{Position}
use Rattle.typed_syntax.specs.declared.operators.BinOp.{BinOp}
use Rattle.typed_syntax.specs.Value.{Value, int, bool, IsOf}
use Rattle.typed_syntax.specs.Syntax.{all_width, Ex, Exs, Pl, Left, Piece, none, more, results, read_int, text, shown, declare, assign, update, bump, discard, break_stmt, continue_stmt, return_stmt, print, panic, exit, argument_words, all_wide, value_widths, read}
use Rattle.typed_syntax.specs.Types.{TypeTree, ints, bools, struct_of, array_of, pointer_to, slice_of}
use Rattle.simulated_code.proofs.Numbers.{TakesPlain, arithmetic_takes, no_struct, no_array, no_pointer, no_slice, step_takes}
use Rattle.typed_syntax.specs.Form.{IsPlain, AreOf, lefts_after, scope_behind, ExsFit, ReturnFits}
use Rattle.frames.specs.Frames.{far, lefts_far, behind_values, need, need_all, reach, reach_all, temps_of}
use Rattle.meaning.specs.Trace.{World, Exit, Panic, raised, raised_text, exit_code}
use Rattle.meaning.specs.Store.{value_of, written}
use Rattle.meaning.specs.Operators.{binary_of}
use Rattle.meaning.specs.Meaning
use Rattle.meaning.specs.Meaning.{Env, Go, Ways, Calls, Setting}
use Rattle.isa.specs.Bin.{bit_of}
use Rattle.isa.specs.declared.instr.Instr.TheVariants.{Const, Bin, Jump, Exit as ExitWith, PanicText, PanicInt, PanicBool}
use Rattle.machine.specs.Machine.{stops as ends, exit_of, panics}
use Rattle.machine.specs.declared.run_state.Ending.TheVariants.{Exit as Exited, Panic as Panicked}
use Rattle.machine.specs.declared.run_state.Panic.TheVariants.{Text, Int, Bool as Truth, ExitCode}
use Rattle.program_code.specs.Code.{temp, slots_of, operation, near_offset, near_words, place_above, above_address, lefts_above, place_code, place_size, place_end, address_code, address_size, fetch_code, land_code, ready_code, lefts_sized, lefts_end, ex_code, exs_code, pieces_code, show_code, lefts_code, values_code, leave_code, raised_code, size, exs_size, pieces_size, lefts_size, shown_size}
use Rattle.program_code.proofs.Sizes.{length_address, length_place, length_ready, place_sum, place_ends, lefts_sum, lefts_ends, length_code, length_exs, length_pieces}
use Rattle.program_code.proofs.Rooms.{address_room, lefts_room, place_others, lefts_others}
use Rattle.simulated_code.proofs.Moves.{CallsFollow}
use Rattle.simulated_code.proofs.OperatorsFollow.{operates}
use Rattle.simulated_code.proofs.EvaluationsFollow.{ev_follows, evs_follow, place_follows, pieces_plain, pieces_follow}
use Rattle.simulated_code.proofs.ReadyFollows.{ready_follow}
use Rattle.simulated_code.proofs.ReturnsFollow.{Given}
use Rattle.simulated_code.proofs.Leading.{After, Followed}
use Rattle.state_relation.specs.Views.{View}
use Rattle.state_relation.specs.Relation.{Memory, sets, Kept, Frame, hold, during}
use Rattle.state_relation.proofs.Words.{Spells}
use Rattle.state_relation.proofs.Changes.{narrowed}
use Rattle.state_relation.proofs.Built.{Built}
use Rattle.state_relation.proofs.Rules.{seen_from, At, Stands, knowing, later, place_is, given, turned, read_of, written_to, stepped, halts, state_of}
use Rattle.state_relation.proofs.Values.{kept, all_kept, all_kept_length, one_more, temp_set, fewer}
use Rattle.simulated_code.proofs.Standing.{Standing, front, back, Panics}
use Rattle.simulated_code.proofs.Places.{variable_of, root_of, PlaceOperands, operand_types, Somewhere, pointer_held, Located, located, LeadsTo, held_by, place_held, lacks_of, aimed}
use Rattle.simulated_code.proofs.Settled.{settled_follow}
use Rattle.simulated_code.proofs.Reached.{Guided, fetched, landed}
use Rattle.simulated_code.proofs.Temps.{last_word, held_there}
use Rattle.simulated_code.proofs.LinesFollow.{piece_types, texts, line_follows, plain_follows}
use Rattle.simulated_code.proofs.LeftsFollow.{together, left_types, landings, lefts_follow, zeros_follow}
use Rattle.program_code.proofs.Wide.{AllPlain, all_wide_is, widths_are}
use Rattle.typed_syntax.specs.Paths.{at_path}

-- an address takes its temp
address_high : (f at : ℕ) → above_address f at ≤ at + f
address_high zero at = omega arith
address_high (suc n) at = omega arith

bit_tells : (x : Bool) → not (bit_of x == 0) ≡ x
bit_tells true = refl
bit_tells false = refl

module _ (m : Built) where
  -- the temp above an address
  address_wide : (f : ℕ) (t : TypeTree) (x : ℕ) (path : List ℕ) (lacks at : ℕ) (held : List Kept) → length held ≡ at → length (held ++ held_by m f t x path lacks) ≡ above_address f at
  address_wide zero t x path lacks at held hh = ap (λ l. length l) (append-nil held) ∙ hh
  address_wide (suc n) t x path lacks at held hh = omega (arith, length-append held (held_by m (suc n) t x path lacks), hh)

  -- the operands of a place, its address above them, and what comes after that
  guided : (q : Pl) (t : TypeTree) (us : List Value) (way : List ℕ) (env : Env) (held beyond : List Kept) (h there : ℕ) → length held ≡ h → PlaceOperands q us → Somewhere q us → length (held ++ all_kept (operand_types q) us) ≡ there
      → Guided m (((held ++ all_kept (operand_types q) us) ++ place_held m env q us t way) ++ beyond) env q us t way h there
  guided q t us way env held beyond h there hh ops somewhere above =
      let ks = all_kept (operand_types q) us in let by = place_held m env q us t way in record {
        led = pointer_held q us held (by ++ beyond) (((held ++ ks) ++ by) ++ beyond) h ops somewhere (append_assoc (held ++ ks) by beyond ∙ append_assoc held ks (by ++ beyond)) hh;
        there = λ i f. ap (λ l. slice_get l there) (append_assoc (held ++ ks) by beyond) ∙ held_there m (far q) i t (variable_of env q us) (root_of q us ++ way) _ (held ++ ks) beyond there above f;
      }

  module _ (c : Frame) (calls : List Frame) where
    -- two operands after a place's operands and its address: the operator, and the place gets the result
    updated : (at : Position) (o : BinOp) (q : Pl) (us : List Value) (way : List ℕ) (h there a : ℕ) (ws : Ways) (env : Env) (scope : List ℕ) (held : List Kept) (x y : Value) (k : Env → Go) (v : View) (w : World) (pc lo b : ℕ)
        → slice_get m.code.instrs pc ≡ Some (Bin (operation o) (temp (slots_of m.program m.placement c.func) a) (temp (slots_of m.program m.placement c.func) a) (temp (slots_of m.program m.placement c.func) (a + 1))) → slice_get m.code.instrs (pc + 1) ≡ Some (land_code (slots_of m.program m.placement c.func) q h there a)
        → length held ≡ h → PlaceOperands q us → Somewhere q us → length (held ++ all_kept (operand_types q) us) ≡ there → length ((held ++ all_kept (operand_types q) us) ++ place_held m env q us ints way) ≡ a → a < temps_of m.program m.placement c.func → Located m scope ints q → LeadsTo m ints q way → Panics ws → TakesPlain o ints ints → IsOf ints x → IsOf ints y → After m c calls held scope (pc + 1 + 1) lo b k
        → At m (suc (suc lo)) 1 b v (Meaning.or_panic ws env at (binary_of o x y) (λ z. Meaning.write_part (variable_of env q us) (root_of q us ++ way) z (k env)) w) (Stands m v w (during c env scope ((((held ++ all_kept (operand_types q) us) ++ place_held m env q us ints way) ++ kept ints x) ++ kept ints y) ∷ calls)) pc
    updated at o q us way h there a ws env scope held x y k v w pc lo b here lands hh ops somewhere hw ha room fit leads stops takes ix iy post =
        let s = slots_of m.program m.placement c.func in let ks = all_kept (operand_types q) us in let by = place_held m env q us ints way in let base = (held ++ ks) ++ by in let c0 = during c env scope base in
        let site = variable_of env q us in let path = root_of q us ++ way in
        let left = λ (u : Memory) (g : Stands m v w (during c env scope ((base ++ kept ints x) ++ kept ints y) ∷ calls) u). fewer m v w c0 calls u (base ++ kept ints x) (kept ints y) g in
        operates m at o ints ints x y ws env (λ z. Meaning.write_part site path z (k env)) v w (Stands m v w (during c env scope ((base ++ kept ints x) ++ kept ints y) ∷ calls)) (λ z. Stands m v w (during c env scope (base ++ kept ints z) ∷ calls)) (temp s a) (temp s a) (temp s (a + 1)) pc (suc lo) 1 b here stops (inl refl) takes ix iy (λ u g. g.sized.heap_used)
        (λ u g. (last_word m v w c0 calls u base ints x a ha (inl refl) (left u g), last_word m v w c0 calls u (base ++ kept ints x) ints y (a + 1) (one_more base ints x a 1 ha refl) (inl refl) g))
        (λ z word u iz sz g. temp_set m v w c0 calls u a word ints z ha room iz refl sz (fewer m v w c0 calls u base (kept ints x) (left u g)))
        (λ z iz.
        let all = base ++ kept ints z in let w1 = written w site path z in
        written_to m _ _ _
        (landed m q ints us way z (during c env scope all) calls base [] v w h there a (pc + 1) lo 0 b _ lands fit leads (guided q ints us way env held (kept ints z) h there hh ops somewhere hw) (ap (λ l. base ++ l) (sym (append-nil (kept ints z)))) ha iz
        (given m (λ u g. fewer m v w1 (during c env scope held) calls u held ks (fewer m v w1 (during c env scope held) calls u (held ++ ks) by (fewer m v w1 c0 calls u base (kept ints z) g))) (post env w1 v))))

  module _ (around : Setting) (strings : around.strings ≡ m.program.strings) (types : around.types ≡ m.program.types) (inputs : around.items ≡ m.items) (sites_are : around.sites ≡ m.program.sites)
      (callees : Calls) (n : ℕ) (cf : CallsFollow m callees n) (c : Frame) (calls : List Frame) where
    pub declare_follows : (sites : List ℕ) → Followed m c calls around callees n (declare sites)
    declare_follows sites ws env k v w held h looped outer scope q out again pc lo b le hh has fit enough reaches sc leads post =
        zeros_follow m around sites_are sites c env scope held calls ws.call k v w q pc lo b has fit sc.from (post refl)

    pub assign_follows : (ls : List Left) (es : Exs) → Followed m c calls around callees n (assign ls es)
    assign_follows ls es ws env k v w held h looped outer scope q out again pc lo b le hh has fit enough reaches sc leads post =
        let s = slots_of m.program m.placement c.func in let all = all_wide m.program es in let first = lefts_above ls h in
        let size = lefts_sized m.program ls 0 in let behind = lefts_end m.program ls pc in let limit = c.func.first + c.func.count in
        let cr = ready_code m.program s ls h pc in let ces = exs_code m.program s es first behind in let cls = lefts_code s (value_widths m.program es) ls h (first + all) first in
        let ends : pc + size ≡ behind = sym (lefts_ends m.program ls pc) in
        let has_v = subst (λ x. Standing m.code c.fn x (ces ++ cls)) ends (back m.code c.fn pc size cr (ces ++ cls) (length_ready m.program s ls h pc) has) in
        let has_l = subst (λ ns. Standing m.code c.fn (behind + exs_size m.program es) (lefts_code s ns ls h (first + all) first)) (widths_are m.program scope fit.0 es fit.2)
        (back m.code c.fn behind (exs_size m.program es) ces cls (length_exs m.program s es first behind) has_v) in
        let needs = max (need_all m.program es) (behind_values all (lefts_far ls)) in
        let enough1 = lefts_room m.program (temps_of m.program m.placement c.func) h needs ls enough in let reaches1 = lefts_others m.program (reach_all m.program es) ls in
        ready_follow m around types inputs sites_are callees n cf ls fit.0 needs (reach_all m.program es) q limit (during c env scope held) calls ws _ v w h pc lo b le hh leads.panics (front m.code c.fn pc cr (ces ++ cls) has) fit.1 enough reaches (λ uss ws1 w1 v1 stops1 gives above.
        let ops = all_kept (left_types ls) (together uss) in let under = held ++ ops in
        place_is m (sym ends)
        (evs_follow m around types inputs sites_are callees n cf es fit.0 (during c env scope under) calls ws1 (λ vs. Meaning.land_all around (landings env ls uss) vs ws env k) v1 w1 first behind lo b le above stops1 (front m.code c.fn behind ces cls has_v) fit.2 (omega arith) (omega arith) (λ vs w2 v2 are.
        let vals = all_kept fit.0 vs in
        let count : all_width fit.0 ≡ all = sym (all_wide_is m.program scope fit.0 es fit.2) in
        let long : length (under ++ vals) ≡ first + all = omega (arith, length-append under vals, all_kept_length fit.0 vs, count, above) in
        knowing m (λ s0 g0.
        let within = g0.homed.owned.0.room in
        let room = address_room (temps_of m.program m.placement c.func) first all (lefts_far ls) (omega (arith, long)) (omega arith) in
        lefts_follow m around sites_are ls fit.0 vs under [] (under ++ vals) uss held vals c env env scope scope calls ws k v2 w2 q (lefts_after q ls) (first + all) h first (behind + exs_size m.program es) lo b leads.panics are above
        (ap (λ l. under ++ l) (sym (append-nil vals))) gives hh (append_assoc held ops vals) long has_l fit.1 room sc.from (omega arith) (λ u i. (i, refl, inl (sc.below u i))) (λ env1 w3 v3.
        place_is m (let e : pc + lefts_sized m.program ls (exs_size m.program es + lefts_size ls) ≡ behind + exs_size m.program es + lefts_size ls = omega (arith, lefts_sum m.program ls (exs_size m.program es + lefts_size ls), ends) in e)
        (given m (λ u g. fewer m v3 w3 (during c env1 (scope_behind scope ls) held) calls u held ops (fewer m v3 w3 (during c env1 (scope_behind scope ls) held) calls u under vals g)) (post refl env1 w3 v3)))))))

    pub update_follows : (at : Position) (p : Pl) (o : BinOp) (e : Ex) → Followed m c calls around callees n (update at p o e)
    update_follows at p o e ws env k v w held h looped outer scope q out again pc lo b le hh has fit enough reaches sc leads post =
        let s = slots_of m.program m.placement c.func in let fs = m.program in let c0 = during c env scope held in
        let there = place_above p h in let a = above_address (far p) there in let operands = place_size fs p 0 in let behind = place_end fs p pc + (address_size p + 1) in
        let cp = place_code fs s p h pc in let ca = address_code s p h there in let fetch = fetch_code s p h there a in
        let ce = ex_code fs s e (a + 1) behind in let i = Bin (operation o) (temp s a) (temp s a) (temp s (a + 1)) in let land = land_code s p h there a in
        let rest = fetch ∷ (ce ++ i ∷ (land ∷ [])) in
        let has_a = back m.code c.fn pc operands cp (ca ++ rest) (length_place fs s p h pc) has in
        let has_f = back m.code c.fn (pc + operands) (address_size p) ca rest (length_address s p h there) has_a in
        let begins : pc + operands + address_size p + 1 ≡ behind = omega (arith, place_ends fs p pc) in
        let has_e = subst (λ x. Standing m.code c.fn x (ce ++ i ∷ (land ∷ []))) begins has_f.1 in
        let has_o = back m.code c.fn behind (size fs e) ce (i ∷ (land ∷ [])) (length_code fs s e (a + 1) behind) has_e in
        let loc = located m scope ints p fit.1 in let needs = far p + 1 + need fs e in let others = place_others fs (reach fs e) p in
        place_follows m around types inputs sites_are callees n cf p ints needs (reach fs e) c0 calls ws _ v w h pc lo b le hh leads.panics (front m.code c.fn pc cp (ca ++ rest) has) fit.1 enough reaches (λ us w0 v0 those above room.
        let ks = all_kept (operand_types p) us in
        settled_follow m p ints us held [] (during c env scope (held ++ ks)) calls ws env env _ v0 w0 h there (pc + operands) lo b fetch leads.panics loc refl those (ap (λ l. held ++ l) (sym (append-nil ks))) hh above (omega arith)
        (front m.code c.fn (pc + operands) ca rest has_a) has_f.0.0 (near_offset s p, near_words s p, temp s a, inl refl) (λ somewhere way aims.
        let path = root_of p us ++ way in let by = place_held m env p us ints way in let base = (held ++ ks) ++ by in let x = at_path (value_of w0 (variable_of env p us)) path in
        let wide = address_wide (far p) ints (variable_of env p us) path (lacks_of m p) there (held ++ ks) above in let high = address_high (far p) there in
        later m {lo = suc (suc (suc lo))} {hi = 1} {b = b} (omega arith) (omega arith) (omega arith) (read_of m _ _ _
        (given m (λ u g. subst (λ l. Stands m v0 w0 (during c env scope l ∷ calls) u) (sym (append-nil base)) g)
        (fetched m p ints us way c0 calls base [] v0 w0 h there a (pc + operands + address_size p) (suc (suc lo)) 0 b _ has_f.0.0 loc aims (guided p ints us way env held [] h there hh those somewhere above) wide (omega arith) (λ ix.
        place_is m (sym begins)
        (ev_follows m around types inputs sites_are callees n cf e ints (hold c0 (base ++ kept ints x)) calls (Meaning.holding (Meaning.holding_all ws (Meaning.base_values ws.call (aimed env p us).base)) (read p) x) _ v0 w0 (a + 1) behind (suc (suc lo)) b le (one_more base ints x a 1 wide refl) leads.panics (front m.code c.fn behind ce (i ∷ (land ∷ [])) has_e) fit.2 (omega arith) (omega arith) (λ y w1 v1 iy.
        later m {lo = suc (suc lo)} {hi = 1} {b = b} (omega arith) (omega arith) (omega arith)
        (updated c calls at o p us way h there a ws env scope held x y k v1 w1 (behind + size fs e) lo b has_o.0.0 has_o.1.0.0 hh those somewhere above wide (omega arith) loc aims leads.panics (arithmetic_takes o fit.0) ix iy
        (λ env1 w2 v2. place_is m (let r : pc + place_size fs p (address_size p + 1 + size fs e + 1 + 1) ≡ behind + size fs e + 1 + 1 = omega (arith, place_sum fs p (address_size p + 1 + size fs e + 1 + 1), begins) in r) (post refl env1 w2 v2)))))))))))

    pub bump_follows : (at : Position) (p : Pl) (o : BinOp) → Followed m c calls around callees n (bump at p o)
    bump_follows at p o ws env k v w held h looped outer scope q out again pc lo b le hh has fit enough reaches sc leads post =
        let s = slots_of m.program m.placement c.func in let fs = m.program in let c0 = during c env scope held in
        let there = place_above p h in let a = above_address (far p) there in let size = place_size fs p 0 in let behind = pc + size + address_size p + 1 in
        let cp = place_code fs s p h pc in let ca = address_code s p h there in let fetch = fetch_code s p h there a in
        let i = Bin (operation o) (temp s a) (temp s a) (temp s (a + 1)) in let land = land_code s p h there a in
        let rest = fetch ∷ (Const (temp s (a + 1)) 1 ∷ (i ∷ (land ∷ []))) in
        let has_a = back m.code c.fn pc size cp (ca ++ rest) (length_place fs s p h pc) has in
        let has_f = back m.code c.fn (pc + size) (address_size p) ca rest (length_address s p h there) has_a in
        let loc = located m scope ints p fit.1 in
        place_follows m around types inputs sites_are callees n cf p ints (far p + 2) 0 c0 calls ws _ v w h pc lo b le hh leads.panics (front m.code c.fn pc cp (ca ++ rest) has) fit.1 enough reaches (λ us w0 v0 those above room.
        let ks = all_kept (operand_types p) us in
        settled_follow m p ints us held [] (during c env scope (held ++ ks)) calls ws env env _ v0 w0 h there (pc + size) lo b fetch leads.panics loc refl those (ap (λ l. held ++ l) (sym (append-nil ks))) hh above (omega arith)
        (front m.code c.fn (pc + size) ca rest has_a) has_f.0.0 (near_offset s p, near_words s p, temp s a, inl refl) (λ somewhere way aims.
        let path = root_of p us ++ way in let by = place_held m env p us ints way in let base = (held ++ ks) ++ by in let x = at_path (value_of w0 (variable_of env p us)) path in
        let wide = address_wide (far p) ints (variable_of env p us) path (lacks_of m p) there (held ++ ks) above in let high = address_high (far p) there in
        later m {lo = suc (suc (suc (suc lo)))} {hi = 1} {b = b} (omega arith) (omega arith) (omega arith) (read_of m _ _ _
        (given m (λ u g. subst (λ l. Stands m v0 w0 (during c env scope l ∷ calls) u) (sym (append-nil base)) g)
        (fetched m p ints us way c0 calls base [] v0 w0 h there a (pc + size + address_size p) (suc (suc (suc lo))) 1 b _ has_f.0.0 loc aims (guided p ints us way env held [] h there hh those somewhere above) wide (omega arith) (λ ix.
        let above_x = one_more base ints x a 1 wide refl in
        stepped m {lo = suc (suc lo)} {hi = 1} {G1 = Stands m v0 w0 (during c env scope ((base ++ kept ints x) ++ kept ints (int (pos 1))) ∷ calls)} (Const (temp s (a + 1)) 1) (λ u. sets u (temp s (a + 1)) 1) has_f.1.0.0
        (λ u g. (refl, refl, temp_set m v0 w0 (hold c0 (base ++ kept ints x)) calls u (a + 1) 1 ints (int (pos 1)) above_x (omega arith) tt refl (refl, omega arith) g))
        (updated c calls at o p us way h there a ws env scope held x (int (pos 1)) k v0 w0 (behind + 1) lo b has_f.1.1.0.0 has_f.1.1.1.0.0 hh those somewhere above wide (omega arith) loc aims leads.panics (step_takes o fit.0) ix tt
        (λ env1 w2 v2. place_is m (let r : pc + place_size fs p (address_size p + 1 + 2 + 1) ≡ behind + 1 + 1 + 1 = omega (arith, place_sum fs p (address_size p + 1 + 2 + 1)) in r) (post refl env1 w2 v2)))))))))

    pub discard_follows : (es : Exs) → Followed m c calls around callees n (discard es)
    discard_follows es ws env k v w held h looped outer scope q out again pc lo b le hh has fit enough reaches sc leads post =
        evs_follow m around types inputs sites_are callees n cf es fit.0 (during c env scope held) calls ws (λ vs. k env) v w h pc lo b le hh leads.panics has fit.1 enough reaches (λ vs w1 v1 are.
        given m (λ u g. fewer m v1 w1 (during c env scope held) calls u held (all_kept fit.0 vs) g) (post refl env w1 v1))

    pub break_follows : Followed m c calls around callees n break_stmt
    break_follows ws env k v w held h looped outer scope q out again pc lo b le hh has fit enough reaches sc leads post =
        turned m {lo1 = suc lo} (omega arith) (stepped m {lo = lo} {hi = 0} (Jump out) (λ u. u) has.0.0 (λ u g. (refl, refl, narrowed m.program m.placement m.max m.leading v w (hold c held) calls u env scope outer leads.around g)) (leads.broken fit refl env w v))

    pub continue_follows : Followed m c calls around callees n continue_stmt
    continue_follows ws env k v w held h looped outer scope q out again pc lo b le hh has fit enough reaches sc leads post =
        turned m {lo1 = suc lo} (omega arith) (stepped m {lo = lo} {hi = 0} (Jump again) (λ u. u) has.0.0 (λ u g. (refl, refl, narrowed m.program m.placement m.max m.leading v w (hold c held) calls u env scope outer leads.around g)) (leads.continued fit env w v))

    -- a return's values
    module _ (scope : List ℕ) (es : Exs) where
      values_given : ExsFit m.program scope c.func.results es → (vs : List Value) → AreOf c.func.results vs → Given m c.func (all_wide m.program es) vs (all_kept c.func.results vs)
      values_given fit vs are = inl (all_wide_is m.program scope c.func.results es fit, are, refl)

    none_given : (vs : List Value) → AreOf [] vs → vs ≡ []
    none_given [] are = refl
    none_given (x ∷ vs) are = absurd are

    return_values : (scope : List ℕ) (es : Exs) → ReturnFits m.program scope c.func.results (length c.func.named) es
        → (ts : List TypeTree) × ExsFit m.program scope ts es × ((vs : List Value) → AreOf ts vs → Given m c.func (all_wide m.program es) vs (all_kept ts vs))
    return_values scope none fit = ([], tt, λ vs are. inr (refl, none_given vs are, sym fit))
    return_values scope (more e es) fit = (c.func.results, fit, values_given scope (more e es) fit)
    return_values scope (results f es) fit = (c.func.results, fit, values_given scope (results f es) fit)
    return_values scope read_int fit = (c.func.results, fit, values_given scope read_int fit)

    pub return_follows : (es : Exs) → Followed m c calls around callees n (return_stmt es)
    return_follows es ws env k v w held h looped outer scope q out again pc lo b le hh has fit enough reaches sc leads post =
        let s = slots_of m.program m.placement c.func in let fs = m.program in let a = argument_words c.func in let named = c.func.named in
        let ces = exs_code fs s es h pc in let behind = values_code s a (all_wide fs es) named h ++ leave_code s a named in
        let has_v = back m.code c.fn pc (exs_size fs es) ces behind (length_exs fs s es h pc) has in
        let r = return_values scope es fit in
        evs_follow m around types inputs sites_are callees n cf es r.0 (during c env scope held) calls ws (λ vs. ws.returned vs env) v w h pc lo b le hh leads.panics (front m.code c.fn pc ces behind has) r.1 (omega arith) reaches (λ vs w1 v1 are.
        leads.returned vs (all_kept r.0 vs) (all_wide fs es) env scope held v1 w1 h (pc + exs_size fs es) hh has_v (r.2 vs are) (omega arith) sc.named)

    pub print_follows : (line : Bool) (ps : List Piece) → Followed m c calls around callees n (print line ps)
    print_follows line ps ws env k v w held h looped outer scope q out again pc lo b le hh has fit enough reaches sc leads post =
        let s = slots_of m.program m.placement c.func in let fs = m.program in
        let cps = pieces_code fs s ps h pc in let show = show_code s line ps h in
        let has_l = back m.code c.fn pc (pieces_size fs ps) cps show (length_pieces fs s ps h pc) has in
        let e : pc + (pieces_size fs ps + shown_size line ps) ≡ pc + pieces_size fs ps + shown_size line ps = omega arith in
        pieces_follow m around types inputs sites_are callees n cf ps (during c env scope held) calls ws _ v w h pc lo b le hh leads.panics (front m.code c.fn pc cps show has) fit enough reaches (λ vs w1 v1 are.
        showing (pieces_plain m around types inputs sites_are callees n cf scope ps fit) line vs w1 v1 are has_l (place_is m e (given m (λ u g. fewer m v1 w1 (during c env scope held) calls u held (all_kept (piece_types ps) vs) g) (post refl env w1 v1))))
      where
        showing : AllPlain (piece_types ps) → (line : Bool) (vs : List Value) (w1 : World) (v1 : View) → AreOf (piece_types ps) vs → Standing m.code c.fn (pc + pieces_size m.program ps) (show_code (slots_of m.program m.placement c.func) line ps h)
            → At m lo 0 b v1 (k env w1) (Stands m v1 w1 (during c env scope (held ++ all_kept (piece_types ps) vs) ∷ calls)) (pc + pieces_size m.program ps + shown_size line ps)
            → At m lo 0 b v1 (Meaning.emit line (texts around.strings ps vs) (k env) w1) (Stands m v1 w1 (during c env scope (held ++ all_kept (piece_types ps) vs) ∷ calls)) (pc + pieces_size m.program ps)
        showing plain true vs w1 v1 are has_l on = line_follows m around.strings strings ps vs held (held ++ all_kept (piece_types ps) vs) (k env) (during c env scope held) calls v1 w1 h (pc + pieces_size m.program ps) lo b plain are hh refl has_l on
        showing plain false vs w1 v1 are has_l on = plain_follows m around.strings strings ps vs held (held ++ all_kept (piece_types ps) vs) (k env) (during c env scope held) calls v1 w1 h (pc + pieces_size m.program ps) lo b plain are hh refl has_l on

    -- a panic that a value is raised with
    raises : (at : Position) (t : TypeTree) (x : Value) (ws : Ways) (env : Env) (v : View) (w : World) (G : Memory → Type 0) (a pc lo b : ℕ) → IsPlain t → Panics ws → slice_get m.code.instrs pc ≡ Some (raised_code t a) → IsOf t x → ((u : Memory) → G u → length u.heap ≡ v.heap) → ((u : Memory) → G u → Spells x (slice_index u.words a))
        → At m (suc lo) 1 b v (ws.panicked at (raised x) env w) G pc
    raises at ints (int z) ws env v w G a pc lo b plain stops here typed heaped stands =
        halts m {lo = lo} (PanicInt a) (Panic at (raised (int z))) (Panicked (Int z)) here refl (λ r. ap (seen_from m v r) (stops at (raised (int z)) env w)) heaped (λ u g. ap (λ y. panics (state_of m pc u) (Int y)) (stands u g).0)
    raises at bools (bool x) ws env v w G a pc lo b plain stops here typed heaped stands =
        halts m {lo = lo} (PanicBool a) (Panic at (raised (bool x))) (Panicked (Truth x)) here refl (λ r. ap (seen_from m v r) (stops at (raised (bool x)) env w)) heaped (λ u g. ap (λ y. panics (state_of m pc u) (Truth (not (y == 0)))) (stands u g) ∙ ap (λ y. panics (state_of m pc u) (Truth y)) (bit_tells x))
    raises at ints x ws env v w G a pc lo b plain stops here typed heaped stands = absurd typed
    raises at bools x ws env v w G a pc lo b plain stops here typed heaped stands = absurd typed
    raises at (struct_of ts) x ws env v w G a pc lo b plain stops here typed heaped stands = absurd (no_struct ts plain)
    raises at (array_of i t) x ws env v w G a pc lo b plain stops here typed heaped stands = absurd (no_array i t plain)
    raises at (pointer_to i) x ws env v w G a pc lo b plain stops here typed heaped stands = absurd (no_pointer i plain)
    raises at (slice_of i) x ws env v w G a pc lo b plain stops here typed heaped stands = absurd (no_slice i plain)

    pub raise_follows : (at : Position) (p : Piece) → Followed m c calls around callees n (panic at p)
    raise_follows at (text number) ws env k v w held h looped outer scope q out again pc lo b le hh has fit enough reaches sc leads post =
        turned m {lo1 = suc lo} (omega arith)
        (halts m {lo = lo} (PanicText number) (Panic at (raised_text (get_or around.strings number []))) (Panicked (Text number)) has.0.0 (ap (λ ss. get_or ss number []) strings) (λ r. ap (seen_from m v r) (leads.panics at (raised_text (get_or around.strings number [])) env w)) (λ u g. g.sized.heap_used) (λ u g. refl))
    raise_follows at (shown t e) ws env k v w held h looped outer scope q out again pc lo b le hh has fit enough reaches sc leads post =
        let s = slots_of m.program m.placement c.func in let fs = m.program in
        let ce = ex_code fs s e h pc in
        let has_p = back m.code c.fn pc (size fs e) ce (raised_code t (temp s h) ∷ []) (length_code fs s e h pc) has in
        ev_follows m around types inputs sites_are callees n cf e t (during c env scope held) calls ws _ v w h pc lo b le hh leads.panics (front m.code c.fn pc ce (raised_code t (temp s h) ∷ []) has) fit.1 enough reaches (λ x w1 v1 ix.
        turned m {lo1 = suc lo} (omega arith) (raises at t x ws env v1 w1 _ (temp s h) (pc + size fs e) lo b fit.0 leads.panics has_p.0.0 ix (λ u g. g.sized.heap_used) (λ u g. last_word m v1 w1 (during c env scope held) calls u held t x h hh fit.0 g)))

    -- an exit, with a status or with a panic
    quits : (at : Position) (z : ℤ) (ws : Ways) (env : Env) (v : View) (w : World) (G : Memory → Type 0) (a pc lo b : ℕ) → Panics ws → slice_get m.code.instrs pc ≡ Some (ExitWith a) → ((u : Memory) → G u → length u.heap ≡ v.heap) → ((u : Memory) → G u → cast_signed w64 (slice_index u.words a) ≡ z)
        → At m (suc lo) 1 b v (Meaning.quit_with ws env at z w) G pc
    quits at (pos z) ws env v w G a pc lo b stops here heaped stands = by (nat_lt z 126) refl
      where
        by : (r : Bool) → nat_lt z 126 ≡ r → At m (suc lo) 1 b v (Meaning.when r (Meaning.stop (Exit z)) (ws.panicked at (exit_code (pos z)) env) w) G pc
        by true e = halts m {lo = lo} (ExitWith a) (Exit z) (Exited z) here refl (λ r. refl) heaped (λ u g. ap (λ i. ends (state_of m pc u) (exit_of i)) (stands u g) ∙ ap (λ r. ends (state_of m pc u) (if r then Exited z else Panicked (ExitCode (pos z)))) e)
        by false e =
            halts m {lo = lo} (ExitWith a) (Panic at (exit_code (pos z))) (Panicked (ExitCode (pos z))) here refl (λ r. ap (seen_from m v r) (stops at (exit_code (pos z)) env w)) heaped
            (λ u g. ap (λ i. ends (state_of m pc u) (exit_of i)) (stands u g) ∙ ap (λ r. ends (state_of m pc u) (if r then Exited z else Panicked (ExitCode (pos z)))) e)
    quits at (negsuc z) ws env v w G a pc lo b stops here heaped stands =
        halts m {lo = lo} (ExitWith a) (Panic at (exit_code (negsuc z))) (Panicked (ExitCode (negsuc z))) here refl (λ r. ap (seen_from m v r) (stops at (exit_code (negsuc z)) env w)) heaped (λ u g. ap (λ i. ends (state_of m pc u) (exit_of i)) (stands u g))

    pub quit_follows : (at : Position) (e : Ex) → Followed m c calls around callees n (exit at e)
    quit_follows at e ws env k v w held h looped outer scope q out again pc lo b le hh has fit enough reaches sc leads post =
        let s = slots_of m.program m.placement c.func in let fs = m.program in
        let ce = ex_code fs s e h pc in
        let has_x = back m.code c.fn pc (size fs e) ce (ExitWith (temp s h) ∷ []) (length_code fs s e h pc) has in
        ev_follows m around types inputs sites_are callees n cf e ints (during c env scope held) calls ws _ v w h pc lo b le hh leads.panics (front m.code c.fn pc ce (ExitWith (temp s h) ∷ []) has) fit enough reaches (λ x w1 v1 ix.
        turned m {lo1 = suc lo} (omega arith) (by x w1 v1 ix has_x.0.0))
      where
        by : (x : Value) (w1 : World) (v1 : View) → IsOf ints x → slice_get m.code.instrs (pc + size m.program e) ≡ Some (ExitWith (temp (slots_of m.program m.placement c.func) h))
            → At m (suc lo) 1 b v1 (Meaning.quit_with ws env at (Meaning.int_of x) w1) (Stands m v1 w1 (during c env scope (held ++ kept ints x) ∷ calls)) (pc + size m.program e)
        by (int z) w1 v1 ix here = quits at z ws env v1 w1 _ (temp (slots_of m.program m.placement c.func) h) (pc + size m.program e) lo b leads.panics here (λ u g. g.sized.heap_used) (λ u g. (last_word m v1 w1 (during c env scope held) calls u held ints (int z) h hh (inl refl) g).0)
        by (bool x) w1 v1 ix here = absurd ix
        by x w1 v1 ix here = absurd ix
