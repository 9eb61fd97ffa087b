-- The machine follows a `range` over a slice, whose header is held below the index.
use Rattle.std.proofs.Common.{◌≡◌, inl, ℕ, suc, ◌+◌, ◌^◌, ◌<◌, ◌≤◌, pos, Bool, true, false, List, [], ◌∷◌, ◌++◌, length, refl, sym, ap, ◌∙◌, subst, arith, append_assoc, append-nil}
use Rattle.std.specs.Prelude.{slice_index, max}
use Rattle.std.specs.Int.{w64, cast_signed}
use Rattle.typed_syntax.specs.Types.{TypeTree, ints, slice_of, width}
use Rattle.typed_syntax.specs.Value.{Value, int, IsOf}
use Rattle.typed_syntax.specs.Syntax.{Ex, Left, Sts, blank, new, to, over_slice, range, argument_words, type_named}
use Rattle.typed_syntax.specs.Form.{lefts_after, scope_behind, ExFits, LeftsFit, StsFit}
use Rattle.frames.specs.Frames.{lefts_far, behind_values, lefts_need, lefts_reach, key_need, need, reach, sts_need, sts_reach, outgoing_of, temps_of}
use Rattle.meaning.specs.Trace.{World}
use Rattle.meaning.specs.Store.{read_at as value_at}
use Rattle.meaning.specs.Operators.{slice_variable, slice_path, slice_first, slice_count}
use Rattle.meaning.specs.Meaning
use Rattle.meaning.specs.Meaning.{Env, Go, Then, Ways, Calls, Setting}
use Rattle.isa.specs.declared.instr.Instr.{Instr}
use Rattle.isa.specs.declared.instr.Instr.TheVariants.{Const, Bin, Jump, JumpZero}
use Rattle.isa.specs.declared.instr.BinOp.TheVariants as Word
use Rattle.program_code.specs.Code.{Slots, temp, slots_of, lefts_above, lefts_code, lefts_size, ready_code, lefts_sized, index_round_code, index_round_size, sliced_element_code, ex_code, size, sts_code, sts_size}
use Rattle.program_code.proofs.Sizes.{length_code}
use Rattle.state_relation.specs.Views.{View}
use Rattle.state_relation.specs.Relation.{Memory, Kept, Frame, during}
use Rattle.state_relation.proofs.Built.{Built}
use Rattle.state_relation.proofs.Rules.{At, Stands, knowing, later, place_is, given, seen, read_of}
use Rattle.state_relation.proofs.Values.{kept, one_more, fewer}
use Rattle.state_relation.proofs.SliceSteps.{header_held, sliced_read}
use Rattle.simulated_code.proofs.Standing.{Standing, front, back}
use Rattle.simulated_code.proofs.Moves.{CallsFollow}
use Rattle.simulated_code.proofs.EvaluationsFollow.{ev_follows}
use Rattle.simulated_code.proofs.Scopes.{Scoped, scoped_behind}
use Rattle.simulated_code.proofs.ArrayRounds.{indexed_by, Tests, held_tests}
use Rattle.simulated_code.proofs.ArraysFollow.{counts, Placed, indices_follow, Reads, elements_follow}
use Rattle.simulated_code.proofs.ElementsFollow.{index_copied}
use Rattle.simulated_code.proofs.Leading.{After, leads_holding, Leads, Followed, AllFollowed}

module _ (m : Built) (around : Setting) (types : around.types ≡ m.program.types) (inputs : around.items ≡ m.items) (sites_are : around.sites ≡ m.program.sites) (callees : Calls) (n : ℕ) (cf : CallsFollow m callees n) (c : Frame) (calls : List Frame) where
  module _ (t : ℕ) (y : Value) (held : List Kept) (h : ℕ) (scope : List ℕ) (iy : IsOf (slice_of t) y) (hh : length held ≡ h) where
    abbrev under : List Kept
    under = held ++ kept (slice_of t) y

    under_wide : length under ≡ h + 3
    under_wide = one_more held (slice_of t) y h 3 hh refl

    -- the length is held
    length_held : (i : ℕ) (env : Env) (w : World) (v : View) (s : Memory) → Stands m v w (during c env scope (indexed_by under i) ∷ calls) s → cast_signed w64 (slice_index s.words (temp (slots_of m.program m.placement c.func) (h + 1))) ≡ pos (slice_count y)
    length_held i env w v s g =
        let g1 = subst (λ l. Stands m v w (during c env scope l ∷ calls) s) (append_assoc held (kept (slice_of t) y) (kept ints (int (pos i)))) g in
        let head = header_held m (during c env scope held) calls v w s held (kept ints (int (pos i))) t y h hh iy g1 in
        let at : temp (slots_of m.program m.placement c.func) h + 1 ≡ temp (slots_of m.program m.placement c.func) (h + 1) = omega arith in
        subst (λ k. cast_signed w64 (slice_index s.words k) ≡ pos (slice_count y)) at head.count

    -- the rounds, from their code
    slice_placed : (start behind : ℕ) (round body : List Instr) → slice_count y < 2 ^ 63 → h + 3 + 1 < temps_of m.program m.placement c.func
        → Standing m.code c.fn start (Const (temp (slots_of m.program m.placement c.func) (h + 3)) 0 ∷ (Bin Word.Less (temp (slots_of m.program m.placement c.func) (h + 3 + 1)) (temp (slots_of m.program m.placement c.func) (h + 3)) (temp (slots_of m.program m.placement c.func) (h + 1)) ∷ (JumpZero (temp (slots_of m.program m.placement c.func) (h + 3 + 1)) behind ∷ (round ++ (body ++ counts m around types inputs sites_are callees n cf c calls (h + 3) start)))))
        → Placed m around types inputs sites_are callees n cf c calls (slice_count y) under (h + 3) scope start (start + 1 + 2) behind round body
    slice_placed start behind round body small room has =
        let there : start + 1 + 1 + 1 ≡ start + 1 + 2 = omega arith in record {
          zero = has.0.0;
          tests = subst (λ j. Tests m c calls (slice_count y) under scope (start + 1) j behind) there
              (held_tests m c calls (slice_count y) small under (h + 3) scope under_wide room (start + 1) behind (temp (slots_of m.program m.placement c.func) (h + 1)) length_held has.1.0.0 has.1.1.0.0);
          stands = subst (λ j. Standing m.code c.fn j (round ++ (body ++ counts m around types inputs sites_are callees n cf c calls (h + 3) start))) there has.1.1.1;
        }

  -- an element is read
  element_read : (t : ℕ) (y : Value) (held : List Kept) (h : ℕ) (scope : List ℕ) (there above lo b : ℕ) (ws : Ways) → IsOf (slice_of t) y → length held ≡ h → above + 1 + width (type_named m.program t) ≤ temps_of m.program m.placement c.func → 0 < width (type_named m.program t)
      → Standing m.code c.fn there (sliced_element_code (slots_of m.program m.placement c.func) (width (type_named m.program t)) h above)
      → Reads m around types inputs sites_are callees n cf c calls (slice_count y) (type_named m.program t) (Meaning.read_sliced y) ws (held ++ kept (slice_of t) y) scope there above 3 lo b
  element_read t y held h scope there above lo b ws iy hh room some has i env v w ready d g lt db wide post =
      let u = type_named m.program t in let under = held ++ kept (slice_of t) y in let index = kept ints (int (pos i)) in let under_wide = one_more held (slice_of t) y h 3 hh refl in
      let before = held ++ (kept (slice_of t) y ++ (index ++ (ready ++ index))) in let way = slice_path y ++ (slice_first y + i) ∷ [] in let z = value_at w (slice_variable y) way in
      let beside = (indexed_by under i ++ ready) ++ index in
      let same : beside ≡ before = append_assoc (under ++ index) ready index ∙ append_assoc under index (ready ++ index) ∙ append_assoc held (kept (slice_of t) y) (index ++ (ready ++ index)) in
      let all_wide = one_more (indexed_by under i ++ ready) ints (int (pos i)) above 1 wide refl in
      later m {lo = suc (suc (suc lo))} {hi = 1} {b = d} (omega arith) (omega arith) (omega arith)
      (read_of m _ _ _
      (index_copied m c calls i env scope v w under ready (h + 3) above under_wide wide {lo = suc (suc lo)} {hi = 1} {b = d} {rest = g z w} there (omega arith) has.0.0
      (given m (λ s e. subst (λ l. Stands m v w (during c env scope l ∷ calls) s) same e)
      (sliced_read m (during c env scope held) calls t y held (ready ++ index) h (above + 1) (there + 1) v w i iy hh (ap (λ l. length l) (sym same) ∙ all_wide) lt room {lo = lo} {hi = 0} {b = d} {rest = g z w} (omega arith) has.1.0.0 has.1.1.0.0 (λ iz.
      place_is m (let q : there + 3 ≡ there + 1 + 1 + 1 = omega arith in q)
      (subst (λ l. At m lo 0 d v (g z w) (Stands m v w (during c env scope (l ++ kept u z) ∷ calls)) (there + 3)) same (post z iz)))))))

  -- ---- whole statements

  module _ (e : Ex) (t : ℕ) (body : Sts) (bodies : AllFollowed m c calls around callees n body) (ws : Ways) (env : Env) (k : Env → Go) (v : View) (w : World) (held : List Kept) (h : ℕ) (looped : Bool) (outer scope : List ℕ) (q out again pc lo b : ℕ) (le : b ≤ suc n) (hh : length held ≡ h) (sc : Scoped c.func scope q) (leads : Leads m c calls held looped false outer scope out again lo b ws) where
    abbrev s : Slots
    s = slots_of m.program m.placement c.func

    abbrev r : TypeTree
    r = type_named m.program t

    abbrev start : ℕ
    start = pc + size m.program e

    abbrev entry : ℕ
    entry = start + 1 + 2

    -- the code with the temp above the index
    abbrev from_temp : (z behind : ℕ) (round body : List Instr) → List Instr
    from_temp z behind round body = Const (temp s (h + 3)) 0 ∷ (Bin Word.Less (temp s z) (temp s (h + 3)) (temp s (h + 1)) ∷ (JumpZero (temp s z) behind ∷ (round ++ (body ++ (Const (temp s z) 1 ∷ (Bin Word.Add (temp s (h + 3)) (temp s (h + 3)) (temp s z) ∷ (Jump (start + 1) ∷ [])))))))

    -- a slice has fewer elements than half the range
    few : (y : Value) (w1 : World) (v1 : View) → IsOf (slice_of t) y → (u : Memory) → Stands m v1 w1 (during c env scope (held ++ kept (slice_of t) y) ∷ calls) u → slice_count y < 2 ^ 63
    few y w1 v1 iy u g =
        let head = header_held m (during c env scope held) calls v1 w1 u held [] t y h hh iy (subst (λ l. Stands m v1 w1 (during c env scope (held ++ l) ∷ calls) u) (sym (append-nil (kept (slice_of t) y))) g) in
        let less = head.less in let small = head.small in omega arith

    -- over the indices alone
    indices_only : (key : Left) → LeftsFit m.program scope q (c.func.first + c.func.count) (ints ∷ []) (key ∷ []) → StsFit m.program c.func.results (length c.func.named) true (scope_behind scope (key ∷ [])) (lefts_after q (key ∷ [])) (c.func.first + c.func.count) body
        → ExFits m.program scope (slice_of t) e → h + need m.program e ≤ temps_of m.program m.placement c.func → h + 6 ≤ temps_of m.program m.placement c.func → h + (4 + key_need m.program key) ≤ temps_of m.program m.placement c.func → h + (4 + sts_need m.program c.func.named body) ≤ temps_of m.program m.placement c.func
        → reach m.program e ≤ outgoing_of m.program c.func → lefts_reach m.program (key ∷ []) (sts_reach m.program body) ≤ outgoing_of m.program c.func
        → (inside_at turn : ℕ) → inside_at ≡ entry + index_round_size m.program key → inside_at + sts_size m.program (argument_words c.func) c.func.named body ≡ turn
        → Standing m.code c.fn pc (ex_code m.program s e h pc ++ from_temp (h + 4) (turn + 3) (index_round_code m.program s key (h + 3) entry) (sts_code m.program (argument_words c.func) c.func.named s body (h + 4) (turn + 3) turn inside_at))
        → After m c calls held scope (turn + 3) lo b k
        → At m lo 0 b v (Meaning.ev around callees e ws env (λ y. Meaning.turn (Meaning.births (λ u. Meaning.counted (suc n) 0 (slice_count y) (Meaning.index_round around callees (suc n) key (Meaning.exec_all around callees (suc n) body) (Meaning.holding ws e y) (Meaning.outside k)) (Meaning.outside k) u env))) w) (Stands m v w (during c env scope held ∷ calls)) pc
    indices_only key fl fb fe enough six key_room body_room reaches lefts_room inside_at turn inner_is turn_is has post =
        let ce = ex_code m.program s e h pc in let round = index_round_code m.program s key (h + 3) entry in let rest = from_temp (h + 4) (turn + 3) round (sts_code m.program (argument_words c.func) c.func.named s body (h + 4) (turn + 3) turn inside_at) in
        let two : h + 4 ≡ h + 3 + 1 = omega arith in
        let has_r = subst (λ z. Standing m.code c.fn start (from_temp z (turn + 3) round (sts_code m.program (argument_words c.func) c.func.named s body z (turn + 3) turn inside_at))) two (back m.code c.fn pc (size m.program e) ce rest (length_code m.program s e h pc) has) in
        ev_follows m around types inputs sites_are callees n cf e (slice_of t) (during c env scope held) calls ws _ v w h pc lo b le hh leads.panics (front m.code c.fn pc ce rest has) fe enough reaches (λ y w1 v1 iy.
        knowing m (λ u0 g0.
        let small = few y w1 v1 iy u0 g0 in let more = held ++ kept (slice_of t) y in let wide = one_more held (slice_of t) y h 3 hh refl in
        indices_follow m around types inputs sites_are callees n cf c calls (slice_count y) key body bodies (Meaning.holding ws e y) k more held (h + 3) looped outer scope q out again inside_at turn (turn + 3) start entry lo b env v1 w1 le wide inner_is turn_is
        (slice_placed t y held h scope iy hh start (turn + 3) round _ small (omega arith) has_r) small fl fb (omega arith) (omega arith) (omega arith) lefts_room sc (leads_holding m c calls e y leads)
        (λ u env1 w2 v2. given m (λ p g. fewer m v2 w2 (during c env1 scope held) calls p held (kept (slice_of t) y) g) (seen m _ (post env1 w2 v2)))))

    -- and over the elements
    elements_too : (key value : Left) → 0 < width r → LeftsFit m.program scope q (c.func.first + c.func.count) (ints ∷ r ∷ []) (key ∷ value ∷ []) → StsFit m.program c.func.results (length c.func.named) true (scope_behind scope (key ∷ value ∷ [])) (lefts_after q (key ∷ value ∷ [])) (c.func.first + c.func.count) body
        → ExFits m.program scope (slice_of t) e → h + need m.program e ≤ temps_of m.program m.placement c.func → h + 6 ≤ temps_of m.program m.placement c.func → h + (4 + lefts_need m.program (key ∷ value ∷ []) (max (1 + width r) (behind_values (1 + width r) (lefts_far (key ∷ value ∷ []))))) ≤ temps_of m.program m.placement c.func
        → h + (4 + sts_need m.program c.func.named body) ≤ temps_of m.program m.placement c.func → reach m.program e ≤ outgoing_of m.program c.func → lefts_reach m.program (key ∷ value ∷ []) (sts_reach m.program body) ≤ outgoing_of m.program c.func
        → (turn : ℕ) → entry + lefts_sized m.program (key ∷ value ∷ []) (3 + lefts_size (key ∷ value ∷ [])) + sts_size m.program (argument_words c.func) c.func.named body ≡ turn
        → Standing m.code c.fn pc (ex_code m.program s e h pc ++ from_temp (h + 4) (turn + 3)
        (ready_code m.program s (key ∷ value ∷ []) (h + 4) entry ++ (sliced_element_code s (width r) h (lefts_above (key ∷ value ∷ []) (h + 4)) ++ lefts_code s (1 ∷ width r ∷ []) (key ∷ value ∷ []) (h + 4) (lefts_above (key ∷ value ∷ []) (h + 4) + 1 + width r) (lefts_above (key ∷ value ∷ []) (h + 4))))
        (sts_code m.program (argument_words c.func) c.func.named s body (h + 4) (turn + 3) turn (entry + lefts_sized m.program (key ∷ value ∷ []) (3 + lefts_size (key ∷ value ∷ [])))))
        → After m c calls held scope (turn + 3) lo b k
        → At m lo 0 b v (Meaning.ev around callees e ws env (λ y. Meaning.turn (Meaning.births (λ u. Meaning.counted (suc n) 0 (slice_count y) (Meaning.reading_round around callees (suc n) (Meaning.read_sliced y) key value (Meaning.exec_all around callees (suc n) body) (Meaning.holding ws e y) (Meaning.outside k)) (Meaning.outside k) u env))) w) (Stands m v w (during c env scope held ∷ calls)) pc
    elements_too key value some fl fb fe enough six pair_room body_room reaches lefts_room turn turn_is has post =
        let ls = key ∷ value ∷ [] in let ce = ex_code m.program s e h pc in
        let round = λ (z : ℕ). ready_code m.program s ls z entry ++ (sliced_element_code s (width r) h (lefts_above ls z) ++ lefts_code s (1 ∷ width r ∷ []) ls z (lefts_above ls z + 1 + width r) (lefts_above ls z)) in
        let inside_at = entry + lefts_sized m.program ls (3 + lefts_size ls) in let cb = λ (z : ℕ). sts_code m.program (argument_words c.func) c.func.named s body z (turn + 3) turn inside_at in
        let rest = from_temp (h + 4) (turn + 3) (round (h + 4)) (cb (h + 4)) in let two : h + 4 ≡ h + 3 + 1 = omega arith in
        let has_r = subst (λ z. Standing m.code c.fn start (from_temp z (turn + 3) (round z) (cb z))) two (back m.code c.fn pc (size m.program e) ce rest (length_code m.program s e h pc) has) in
        ev_follows m around types inputs sites_are callees n cf e (slice_of t) (during c env scope held) calls ws _ v w h pc lo b le hh leads.panics (front m.code c.fn pc ce rest has) fe enough reaches (λ y w1 v1 iy.
        knowing m (λ u0 g0.
        let small = few y w1 v1 iy u0 g0 in let more = held ++ kept (slice_of t) y in let wide = one_more held (slice_of t) y h 3 hh refl in let above = lefts_above ls (h + 3 + 1) in
        elements_follow m around types inputs sites_are callees n cf c calls (slice_count y) r key value body bodies (Meaning.read_sliced y) (sliced_element_code s (width r) h above) 3 (width r) (Meaning.holding ws e y) k more held (h + 3) looped outer scope scope q (lefts_after q ls) out again turn (turn + 3) start entry lo b env v1 w1 le wide refl (λ z. refl) turn_is
        (slice_placed t y held h scope iy hh start (turn + 3) (round (h + 3 + 1)) (cb (h + 3 + 1)) small (omega arith) has_r) small fl fb (omega arith) (omega arith) (omega arith) lefts_room
        (scoped_behind m.program c.func scope q (c.func.first + c.func.count) (ints ∷ r ∷ []) ls fl sc) sc.from (λ p z. inl (sc.below p z)) (leads_holding m c calls e y leads)
        (λ u env1 w2 v2. given m (λ p g. fewer m v2 w2 (during c env1 scope held) calls p held (kept (slice_of t) y) g) (seen m _ (post env1 w2 v2)))
        (λ stands room. element_read t y held h scope (entry + lefts_sized m.program ls 0) above lo b (Meaning.holding ws e y) iy hh room some stands)))

  pub slices_follow : (e : Ex) (t : ℕ) (key value : Left) (body : Sts) → AllFollowed m c calls around callees n body → Followed m c calls around callees n (range (over_slice e t) key value body)
  slices_follow e t blank blank body bodies ws env k v w held h looped outer scope q out again pc lo b le hh has (some, fe, fl, fb) enough reaches sc leads post =
      indices_only e t body bodies ws env k v w held h looped outer scope q out again pc lo b le hh sc leads blank fl fb fe (omega arith) (omega arith) (omega arith) (omega arith) (omega arith) (omega arith) _ _ refl refl has
      (λ env1 w1 v1. place_is m (omega arith) (post refl env1 w1 v1))
  slices_follow e t (new site) blank body bodies ws env k v w held h looped outer scope q out again pc lo b le hh has (some, fe, fl, fb) enough reaches sc leads post =
      indices_only e t body bodies ws env k v w held h looped outer scope q out again pc lo b le hh sc leads (new site) fl fb fe (omega arith) (omega arith) (omega arith) (omega arith) (omega arith) (omega arith) _ _ refl refl has
      (λ env1 w1 v1. place_is m (omega arith) (post refl env1 w1 v1))
  slices_follow e t (to p) blank body bodies ws env k v w held h looped outer scope q out again pc lo b le hh has (some, fe, fl, fb) enough reaches sc leads post =
      indices_only e t body bodies ws env k v w held h looped outer scope q out again pc lo b le hh sc leads (to p) fl fb fe (omega arith) (omega arith) (omega arith) (omega arith) (omega arith) (omega arith) _ _ refl refl has
      (λ env1 w1 v1. place_is m (omega arith) (post refl env1 w1 v1))
  slices_follow e t key (new site) body bodies ws env k v w held h looped outer scope q out again pc lo b le hh has (some, fe, fl, fb) enough reaches sc leads post =
      elements_too e t body bodies ws env k v w held h looped outer scope q out again pc lo b le hh sc leads key (new site) some fl fb fe (omega arith) (omega arith) (omega arith) (omega arith) (omega arith) (omega arith) _ refl has
      (λ env1 w1 v1. place_is m (omega arith) (post refl env1 w1 v1))
  slices_follow e t key (to p) body bodies ws env k v w held h looped outer scope q out again pc lo b le hh has (some, fe, fl, fb) enough reaches sc leads post =
      elements_too e t body bodies ws env k v w held h looped outer scope q out again pc lo b le hh sc leads key (to p) some fl fb fe (omega arith) (omega arith) (omega arith) (omega arith) (omega arith) (omega arith) _ refl has
      (λ env1 w1 v1. place_is m (omega arith) (post refl env1 w1 v1))
