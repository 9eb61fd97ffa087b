-- The machine follows a `range` over an array.
use Rattle.std.proofs.Common.{◌≡◌, ◌⊎◌, inl, inr, ℕ, suc, ◌+◌, ◌-◌, ◌^◌, ◌<◌, ◌≤◌, pos, Bool, true, false, List, [], ◌∷◌, ◌++◌, length, refl, sym, ap, ◌∙◌, subst, arith, append_assoc, append-nil, length-append, Some}
use Rattle.std.specs.Prelude.{max, slice_get}
use Rattle.typed_syntax.specs.Positions.{Position}
use Rattle.typed_syntax.specs.Types.{TypeTree, ints, array_of, pointer_to, width, part_type}
use Rattle.typed_syntax.specs.Value.{Value, int, IsOf}
use Rattle.typed_syntax.specs.Words.{contents}
use Rattle.typed_syntax.specs.Paths.{at_path}
use Rattle.typed_syntax.specs.Syntax.{Ex, Left, Sts, blank, new, to, over_length, over_copy, over_pointer, over_pointed, range, argument_words, site_type, type_named}
use Rattle.typed_syntax.specs.Form.{InScope, lefts_after, scope_behind, LeftsFit, StFits, StsFit}
use Rattle.frames.specs.Frames.{left_far, lefts_far, behind_values, lefts_need, lefts_reach, key_need, st_need, sts_need, st_reach, sts_reach, outgoing_of, temps_of}
use Rattle.meaning.specs.Trace.{World}
use Rattle.meaning.specs.Store.{value_of, born}
use Rattle.meaning.specs.Meaning
use Rattle.meaning.specs.Meaning.{Env, Go, Then, Ways, Calls, Setting, with_home}
use Rattle.isa.specs.declared.instr.Instr.{Instr}
use Rattle.isa.specs.declared.instr.Instr.TheVariants.{Const, Bin, Jump}
use Rattle.isa.specs.declared.instr.BinOp.TheVariants as Word
use Rattle.machine.specs.Machine.{words_at}
use Rattle.program_code.specs.Code.{Slots, birth_code, temp, slots_of, lefts_above, lefts_code, lefts_size, ready_code, lefts_sized, index_round_code, index_round_size, element_code, element_round_code, element_round_size, pointed_code, pointed_round_code, pointed_round_size, array_code, ex_code, size, st_code, st_size, sts_code, sts_size}
use Rattle.program_code.proofs.Sizes.{length_code, length_ready, length_lefts, length_index_round, lefts_sum, length_sts}
use Rattle.program_code.proofs.Rooms.{key_alone, address_room, array_room, lefts_room, lefts_others}
use Rattle.state_relation.specs.Leaves.{leaves}
use Rattle.state_relation.specs.Views.{View}
use Rattle.state_relation.specs.Relation.{Memory, sets, word_at, Kept, spent, Frame, hold, during, depth, StandsKept, Stand}
use Rattle.state_relation.proofs.Lists.{append_cases, one_item}
use Rattle.state_relation.proofs.Changes.{good_kept, narrowed}
use Rattle.state_relation.proofs.Built.{Built}
use Rattle.state_relation.proofs.Rules.{At, Stands, later, place_is, given, turned, seen, read_of, stepped}
use Rattle.state_relation.proofs.Values.{kept, all_kept, all_kept_one, more_kept, one_more, temp_set, fewer}
use Rattle.simulated_code.proofs.Standing.{Standing, front, back}
use Rattle.simulated_code.proofs.Moves.{CallsFollow}
use Rattle.simulated_code.proofs.Temps.{last_stand}
use Rattle.simulated_code.proofs.Births.{births_filled, cell_kind}
use Rattle.simulated_code.proofs.Places.{element_leads}
use Rattle.simulated_code.proofs.EvaluationEnds.{wide_need}
use Rattle.simulated_code.proofs.EvaluationsFollow.{ev_follows}
use Rattle.simulated_code.proofs.LeftsFollow.{together, left_types, landings, first_landing, land_one, lefts_follow}
use Rattle.simulated_code.proofs.ReadyFollows.{ready_follow}
use Rattle.simulated_code.proofs.Scopes.{Scoped, behind_has, lefts_from, behind_new, scoped_behind}
use Rattle.simulated_code.proofs.ArrayRounds.{indexed_by, Tests, ArrayRound, array_tests, arrays_follow}
use Rattle.simulated_code.proofs.ElementsFollow.{element_follows, pointed_follows as pointed_element}
use Rattle.simulated_code.proofs.Leading.{After, after_later, inside, leads_inside, leads_holding, Leads, Followed, AllFollowed}

module _ (m : Built) (around : Setting) (types : around.types ≡ m.program.types) (inputs : around.items ≡ m.items) (sites_are : around.sites ≡ m.program.sites) (callees : Calls) (n : ℕ) (cf : CallsFollow m callees n) (c : Frame) (calls : List Frame) where
  -- what counts on in the end of a round
  abbrev pub counts : (h start : ℕ) → List Instr
  counts h start = Const (temp (slots_of m.program m.placement c.func) (h + 1)) 1 ∷ (Bin Word.Add (temp (slots_of m.program m.placement c.func) h) (temp (slots_of m.program m.placement c.func) h) (temp (slots_of m.program m.placement c.func) (h + 1)) ∷ (Jump (start + 1) ∷ []))

  -- where the parts of the rounds stand: the index begins at 0, the test comes after that, and the round behind the test
  pub record Placed (x : ℕ) (held : List Kept) (h : ℕ) (scope : List ℕ) (start inside behind : ℕ) (round body : List Instr) : Type 0 where
    pub zero : slice_get m.code.instrs start ≡ Some (Const (temp (slots_of m.program m.placement c.func) h) 0)
    pub tests : Tests m c calls x held scope (start + 1) inside behind
    pub stands : Standing m.code c.fn inside (round ++ (body ++ counts h start))

  -- of an array
  array_placed : (x : ℕ) → x < 2 ^ 63 → (held : List Kept) (h : ℕ) → length held ≡ h → h + 1 < temps_of m.program m.placement c.func → (scope : List ℕ) (start behind : ℕ) (round body : List Instr) → Standing m.code c.fn start (array_code (slots_of m.program m.placement c.func) x h (start + 1) behind round body)
      → Placed x held h scope start (start + 4) behind round body
  array_placed x small held h hh room scope start behind round body has =
      let there : start + 1 + 1 + 1 + 1 ≡ start + 4 = omega arith in record {
        zero = has.0.0;
        tests = subst (λ j. Tests m c calls x held scope (start + 1) j behind) there (array_tests m c calls x small held h scope hh room (start + 1) behind has.1.0.0 has.1.1.0.0 has.1.1.1.0.0);
        stands = subst (λ j. Standing m.code c.fn j (round ++ (body ++ counts h start))) there has.1.1.1.1;
      }

  -- the rounds, where each follows
  module _ (x : ℕ) (small : x < 2 ^ 63) (held : List Kept) (h : ℕ) (hh : length held ≡ h) (room : h + 1 < temps_of m.program m.placement c.func) (scope : List ℕ) (start inner behind turn : ℕ) (round body : List Instr) (has : Placed x held h scope start inner behind round body) (turn_is : inner + length round + length body ≡ turn) where
    pub has_c : Standing m.code c.fn turn (counts h start)
    has_c = subst (λ p. Standing m.code c.fn p (counts h start)) turn_is (back m.code c.fn (inner + length round) (length body) body (counts h start) refl (back m.code c.fn inner (length round) round (body ++ counts h start) refl has.stands))

    abbrev pub Rounded : (lo b : ℕ) → (ℕ → ℕ → Env → (ℕ → Env → Go) → Go) → Type 0
    Rounded lo b one = ArrayRound m c calls x small held h scope hh room (start + 1) inner turn behind has.tests has_c.0.0 has_c.1.0.0 has_c.1.1.0.0 lo b one

    pub array_follows : (one : ℕ → ℕ → Env → (ℕ → Env → Go) → Go) (k : ℕ → Env → Go) (env : Env) (v : View) (w : World) (lo b : ℕ) → b ≤ suc n → Rounded lo b one → ((u : ℕ) → After m c calls held scope behind lo b (k u))
        → At m lo 0 b v (Meaning.turn (Meaning.births (λ u. Meaning.counted (suc n) 0 x one k u env)) w) (Stands m v w (during c env scope held ∷ calls)) start
    array_follows one k env v w lo b le each post =
        let s = slots_of m.program m.placement c.func in
        turned m {lo1 = suc lo} (omega arith) (stepped m {lo = lo} {hi = 0} {G1 = Stands m v w (during c env scope (indexed_by held 0) ∷ calls)} (Const (temp s h) 0) (λ u. sets u (temp s h) 0) has.zero
        (λ u g. (refl, refl, temp_set m v w (during c env scope held) calls u h 0 ints (int (pos 0)) hh (omega arith) tt refl (refl, omega arith) g))
        (arrays_follow m c calls x small held h scope hh room (start + 1) inner turn behind has.tests has_c.0.0 has_c.1.0.0 has_c.1.1.0.0 one k lo b each post (suc n) 0 x b (omega arith) le (omega arith) (length w.store) env w v))

  -- the body of a round; the ways lead from around the loop, where less may be held
  body_follows : (body : Sts) → AllFollowed m c calls around callees n body → (ws : Ways) (k : Env → Go) (held around_loop : List Kept) (h : ℕ) (looped : Bool) (outer scope inner more : List ℕ) (q q1 out again inside_at turn behind lo b d i u : ℕ) (j : ℕ → Env → Go) (env : Env) (v : View) (w : World)
      → d ≤ b → b ≤ suc n → length held ≡ h → Standing m.code c.fn inside_at (sts_code m.program (argument_words c.func) c.func.named (slots_of m.program m.placement c.func) body (h + 1) behind turn inside_at) → StsFit m.program c.func.results (length c.func.named) true more q1 (c.func.first + c.func.count) body
      → h + 1 + sts_need m.program c.func.named body ≤ temps_of m.program m.placement c.func → sts_reach m.program body ≤ outgoing_of m.program c.func → Scoped c.func more q1 → inside_at + sts_size m.program (argument_words c.func) c.func.named body ≡ turn
      → ((y : ℕ) → InScope y inner → InScope y more) → Leads m c calls around_loop looped false outer scope out again lo b ws → ((y : ℕ) → After m c calls held inner behind lo d (Meaning.outside k y)) → ((y : ℕ) → After m c calls (indexed_by held i) inner turn lo d (j y))
      → At m lo 0 d v (Meaning.in_loop (Meaning.exec_all around callees (suc n) body) ws (Meaning.outside k u) (Meaning.to_next_count u j) env w) (Stands m v w (during c env more (indexed_by held i) ∷ calls)) inside_at
  body_follows body bodies ws k held around_loop h looped outer scope inner more q q1 out again inside_at turn behind lo b d i u j env v w db le hh has fit enough reaches sc ends sub leads left go =
      let first = Meaning.outside k u in let then_next = Meaning.to_next_count u j in let all = indexed_by held i in
      let next : After m c calls all inner turn lo d then_next = λ env1 w1 v1. seen m _ (go (length w1.store) env1 w1 v1) in
      bodies (inside m c calls ws first then_next) env then_next v w all (h + 1) true inner more q1 behind turn inside_at lo d (omega arith) (one_more held ints (int (pos i)) h 1 hh refl) has fit enough reaches sc
      (leads_inside m c calls first then_next db sub leads (λ t env3 w4 v4. given m (λ y g. fewer m v4 w4 (during c env3 inner held) calls y held (kept ints (int (pos i))) g) (left u env3 w4 v4)) next)
      (λ goes env3 w4 v4. place_is m (sym ends) (given m (λ y g. narrowed m.program m.placement m.max m.leading v4 w4 (hold c all) calls y env3 more inner sub g) (next env3 w4 v4)))

  -- ---- over the indices alone

  pub indices_follow : (x : ℕ) (key : Left) (body : Sts) → AllFollowed m c calls around callees n body → (ws : Ways) (k : Env → Go) (held around_loop : List Kept) (h : ℕ) (looped : Bool) (outer scope : List ℕ) (q out again inside_at turn behind pc inner lo b : ℕ) (env : Env) (v : View) (w : World)
      → b ≤ suc n → length held ≡ h → inside_at ≡ inner + index_round_size m.program key → inside_at + sts_size m.program (argument_words c.func) c.func.named body ≡ turn
      → Placed x held h scope pc inner behind (index_round_code m.program (slots_of m.program m.placement c.func) key h inner) (sts_code m.program (argument_words c.func) c.func.named (slots_of m.program m.placement c.func) body (h + 1) behind turn inside_at)
      → x < 2 ^ 63 → LeftsFit m.program scope q (c.func.first + c.func.count) (ints ∷ []) (key ∷ []) → StsFit m.program c.func.results (length c.func.named) true (scope_behind scope (key ∷ [])) (lefts_after q (key ∷ [])) (c.func.first + c.func.count) body
      → h + 1 < temps_of m.program m.placement c.func → h + (1 + key_need m.program key) ≤ temps_of m.program m.placement c.func → h + 1 + sts_need m.program c.func.named body ≤ temps_of m.program m.placement c.func → lefts_reach m.program (key ∷ []) (sts_reach m.program body) ≤ outgoing_of m.program c.func
      → Scoped c.func scope q → Leads m c calls around_loop looped false outer scope out again lo b ws → ((u : ℕ) → After m c calls held scope behind lo b (Meaning.outside k u))
      → At m lo 0 b v (Meaning.turn (Meaning.births (λ u. Meaning.counted (suc n) 0 x (Meaning.index_round around callees (suc n) key (Meaning.exec_all around callees (suc n) body) ws (Meaning.outside k)) (Meaning.outside k) u env)) w) (Stands m v w (during c env scope held ∷ calls)) pc
  indices_follow x key body bodies ws k held around_loop h looped outer scope q out again inside_at turn behind pc inner lo b env v w le hh inner_is turn_is has small fl fb room key_room body_room reaches sc leads left =
      array_follows x small held h hh room scope pc inner behind turn cr cb has ends one (Meaning.outside k) env v w lo b le each left
    where
      above : ℕ
      above = lefts_above (key ∷ []) (h + 1)

      cr : List Instr
      cr = index_round_code m.program (slots_of m.program m.placement c.func) key h (inner)

      cb : List Instr
      cb = sts_code m.program (argument_words c.func) c.func.named (slots_of m.program m.placement c.func) body (h + 1) behind turn inside_at

      ends : inner + length cr + length cb ≡ turn
      ends = omega (arith, inner_is, turn_is, length_index_round m.program (slots_of m.program m.placement c.func) key h (inner), length_sts m.program (argument_words c.func) c.func.named (slots_of m.program m.placement c.func) body (h + 1) behind turn inside_at)

      one : ℕ → ℕ → Env → (ℕ → Env → Go) → Go
      one = Meaning.index_round around callees (suc n) key (Meaning.exec_all around callees (suc n) body) ws (Meaning.outside k)

      each : Rounded x small held h hh room scope pc inner behind turn cr cb has ends lo b one
      each i u j d db l go env1 w1 v1 =
          let all = indexed_by held i in let ready = ready_code m.program (slots_of m.program m.placement c.func) (key ∷ []) (h + 1) inner in let lands = lefts_code (slots_of m.program m.placement c.func) (1 ∷ []) (key ∷ []) (h + 1) above h in
          let start = inner + lefts_sized m.program (key ∷ []) 0 in let counting = Const (temp (slots_of m.program m.placement c.func) (h + 1)) 1 ∷ (Bin Word.Add (temp (slots_of m.program m.placement c.func) h) (temp (slots_of m.program m.placement c.func) h) (temp (slots_of m.program m.placement c.func) (h + 1)) ∷ (Jump (pc + 1) ∷ [])) in
          let has_r = has.stands in
          let has_b = subst (λ p. Standing m.code c.fn p (cb ++ counting)) (sym inner_is) (back m.code c.fn inner (index_round_size m.program key) cr (cb ++ counting) (length_index_round m.program (slots_of m.program m.placement c.func) key h (inner)) has_r) in
          let has_k = back m.code c.fn inner (lefts_sized m.program (key ∷ []) 0) ready lands (length_ready m.program (slots_of m.program m.placement c.func) (key ∷ []) (h + 1) (inner)) (front m.code c.fn inner cr (cb ++ counting) has_r) in
          let land = λ (env2 : Env). Meaning.in_loop (Meaning.exec_all around callees (suc n) body) ws (Meaning.outside k u) (Meaning.to_next_count u j) env2 in
          let begins : start + lefts_size (key ∷ []) ≡ inside_at = omega (arith, inner_is, lefts_sum m.program (key ∷ []) (lefts_size (key ∷ []))) in
          let wide = one_more held ints (int (pos i)) h 1 hh refl in
          let rooms = array_room m.program (temps_of m.program m.placement c.func) h key key_room in
          later m {lo = lo} {hi = 0} {b = d} (omega arith) (omega arith) (omega arith)
          (ready_follow m around types inputs sites_are callees n cf (key ∷ []) (ints ∷ []) (left_far key) (sts_reach m.program body) q (c.func.first + c.func.count) (during c env1 scope all) calls ws (λ xs ws1. Meaning.land around (first_landing xs) (int (pos i)) ws env1 land) v1 w1 (h + 1) inner lo d (omega arith) wide leads.panics
          (front m.code c.fn inner ready lands (front m.code c.fn inner cr (cb ++ counting) has_r)) fl rooms reaches (λ uss ws1 w2 v2 stops1 gives there.
          let ops = all_kept (left_types (key ∷ [])) (together uss) in
          let inside_room = lefts_room m.program (temps_of m.program m.placement c.func) (h + 1) (left_far key) (key ∷ []) rooms in
          subst (λ t. At m lo 0 d v2 t (Stands m v2 w2 (during c env1 scope (all ++ ops) ∷ calls)) start) (sym (land_one around key uss env1 env1 (int (pos i)) ws land w2 gives))
          (lefts_follow m around sites_are (key ∷ []) (ints ∷ []) (int (pos i) ∷ []) held ops (all ++ ops) uss all [] c env1 env1 scope scope calls ws land v2 w2 q (lefts_after q (key ∷ [])) above (h + 1) h start lo d leads.panics (tt, tt)
          hh (append_assoc held (kept ints (int (pos i))) ops) gives wide (ap (λ z. all ++ z) (sym (append-nil ops))) there has_k fl (omega arith) sc.from (omega arith) (λ y z. (z, refl, inl (sc.below y z))) (λ env2 w3 v3.
          place_is m (sym begins)
          (given m (λ y g. fewer m v3 w3 (during c env2 (scope_behind scope (key ∷ [])) all) calls y all ops g)
          (body_follows body bodies ws k held around_loop h looped outer scope scope (scope_behind scope (key ∷ [])) q (lefts_after q (key ∷ [])) out again inside_at turn behind lo b d i u j env2 v3 w3 db le hh (front m.code c.fn inside_at cb counting has_b) fb body_room
          (let others = lefts_others m.program (sts_reach m.program body) (key ∷ []) in omega arith) (scoped_behind m.program c.func scope q (c.func.first + c.func.count) (ints ∷ []) (key ∷ []) fl sc) turn_is (behind_has scope (key ∷ [])) leads
          (λ y. after_later m c calls held scope behind lo lo b d (Meaning.outside k y) (omega arith) db (left y)) go))))))

  pub lengths_follow : (x : ℕ) (key value : Left) (body : Sts) → AllFollowed m c calls around callees n body → Followed m c calls around callees n (range (over_length x) key value body)
  lengths_follow x key (new site) body bodies ws env k v w held h looped outer scope q out again pc lo b le hh has fit enough reaches sc leads post = absurd fit
  lengths_follow x key (to p) body bodies ws env k v w held h looped outer scope q out again pc lo b le hh has fit enough reaches sc leads post = absurd fit
  lengths_follow x key blank body bodies ws env k v w held h looped outer scope q out again pc lo b le hh has fit enough reaches sc leads post =
      let inside_at = pc + 4 + index_round_size m.program key in let turn = inside_at + sts_size m.program (argument_words c.func) c.func.named body in
      indices_follow x key body bodies ws k held held h looped outer scope q out again inside_at turn (turn + 3) pc (pc + 4) lo b env v w le hh refl refl (array_placed x fit.0 held h hh (omega arith) scope pc (turn + 3) _ _ has) fit.0 fit.1 fit.2 (omega arith) (omega arith) (omega arith) (omega (arith, key_alone m.program key (sts_reach m.program body))) sc leads
      (λ u env1 w1 v1. seen m _ (place_is m (let q1 : pc + (4 + index_round_size m.program key + sts_size m.program (argument_words c.func) c.func.named body + 3) ≡ turn + 3 = omega arith in q1) (post refl env1 w1 v1)))

  -- a temp that keeps nothing
  spent_more : (v : View) (w : World) (c0 : Frame) (s : Memory) → length c0.held < temps_of m.program m.placement c0.func → Stands m v w (c0 ∷ calls) s → Stands m v w (hold c0 (c0.held ++ spent ∷ []) ∷ calls) s
  spent_more v w c0 s room g =
      good_kept m.program m.placement m.max m.leading v w c0 calls s (c0.held ++ spent ∷ []) (omega (arith, length-append c0.held (spent ∷ []))) (λ i j l e. elim (append_cases c0.held (spent ∷ []) j i e) [
        | inl old ↦ g.framed.kept (depth m.program m.placement (c0 ∷ calls) - (outgoing_of m.program c0.func + i)) j (inl (i, l, refl, old))
        | inr (z, is, at) ↦ subst (λ o. StandsKept m.program m.leading v.homes s.hi w o (word_at s.words (depth m.program m.placement (c0 ∷ calls) - (outgoing_of m.program c0.func + i)))) (one_item spent j z at).1 tt
      ]) g

  -- those of an array that a pointer leads to, which is not worked out: its temp is not used
  pub pointed_follow : (x : ℕ) (key value : Left) (body : Sts) → AllFollowed m c calls around callees n body → Followed m c calls around callees n (range (over_pointed x) key value body)
  pointed_follow x key (new site) body bodies ws env k v w held h looped outer scope q out again pc lo b le hh has fit enough reaches sc leads post = absurd fit
  pointed_follow x key (to p) body bodies ws env k v w held h looped outer scope q out again pc lo b le hh has fit enough reaches sc leads post = absurd fit
  pointed_follow x key blank body bodies ws env k v w held h looped outer scope q out again pc lo b le hh has fit enough reaches sc leads post =
      let s = slots_of m.program m.placement c.func in let inside_at = pc + 4 + index_round_size m.program key in let turn = inside_at + sts_size m.program (argument_words c.func) c.func.named body in
      let more = held ++ spent ∷ [] in let long = length-append held (spent ∷ []) in let two : h + 2 ≡ h + 1 + 1 = omega arith in
      given m (λ u g. spent_more v w (during c env scope held) u (omega arith) g)
      (indices_follow x key body bodies ws k more held (h + 1) looped outer scope q out again inside_at turn (turn + 3) pc (pc + 4) lo b env v w le (omega (arith, long, hh)) refl refl
      (array_placed x fit.0 more (h + 1) (omega (arith, long, hh)) (omega arith) scope pc (turn + 3) _ _ (subst (λ z. Standing m.code c.fn pc (array_code s x (h + 1) (pc + 1) (turn + 3) (index_round_code m.program s key (h + 1) (pc + 4)) (sts_code m.program (argument_words c.func) c.func.named s body z (turn + 3) turn inside_at))) two has))
      fit.0 fit.1 fit.2 (omega arith) (omega arith) (omega arith) (omega (arith, key_alone m.program key (sts_reach m.program body))) sc leads
      (λ u env1 w1 v1. given m (λ p g. fewer m v1 w1 (during c env1 scope held) calls p held (spent ∷ []) g) (seen m _ (place_is m (let q1 : pc + (4 + index_round_size m.program key + sts_size m.program (argument_words c.func) c.func.named body + 3) ≡ turn + 3 = omega arith in q1) (post refl env1 w1 v1)))))

  -- ---- over the elements

  -- where the code of the read of an element stands in a round, and where the body does
  abbrev pub read_at : (key value : Left) (entry : ℕ) → ℕ
  read_at key value entry = entry + lefts_sized m.program (key ∷ value ∷ []) 0

  abbrev pub body_at : (key value : Left) (entry count : ℕ) → ℕ
  body_at key value entry count = entry + lefts_sized m.program (key ∷ value ∷ []) (count + lefts_size (key ∷ value ∷ []))

  -- the round up to the body, with the words of an element and this code for its read
  abbrev pub round_code : (key value : Left) (h entry words : ℕ) → List Instr → List Instr
  round_code key value h entry words elem =
      let s = slots_of m.program m.placement c.func in let ls = key ∷ value ∷ [] in let above = lefts_above ls (h + 1) in
      ready_code m.program s ls (h + 1) entry ++ (elem ++ lefts_code s (1 ∷ words ∷ []) ls (h + 1) (above + 1 + words) above)

  -- an element is read: the index and its words go behind the operands of the left sides
  abbrev pub Reads : (x : ℕ) (r : TypeTree) (get : ℕ → Ways → Env → Then Value → Go) (ws : Ways) (held : List Kept) (scope : List ℕ) (there above count lo b : ℕ) → Type 0
  Reads x r get ws held scope there above count lo b =
      (i : ℕ) (env : Env) (v : View) (w : World) (ready : List Kept) (d : ℕ) (g : Then Value) → i < x → d ≤ b → length (indexed_by held i ++ ready) ≡ above
      → ((y : Value) → IsOf r y → At m lo 0 d v (g y w) (Stands m v w (during c env scope (((indexed_by held i ++ ready) ++ kept ints (int (pos i))) ++ kept r y) ∷ calls)) (there + count))
      → At m (4 + lo) 0 d v (get i ws env g w) (Stands m v w (during c env scope (indexed_by held i ++ ready) ∷ calls)) there

  pub elements_follow : (x : ℕ) (r : TypeTree) (key value : Left) (body : Sts) → AllFollowed m c calls around callees n body → (get : ℕ → Ways → Env → Then Value → Go) (elem : List Instr) (count words : ℕ) (ws : Ways) (k : Env → Go) (held around_loop : List Kept) (h : ℕ) (looped : Bool) (outer scope inner : List ℕ) (q q1 out again turn behind start entry lo b : ℕ) (env : Env) (v : View) (w : World)
      → b ≤ suc n → length held ≡ h → length elem ≡ count → (0 < x → words ≡ width r) → body_at key value entry count + sts_size m.program (argument_words c.func) c.func.named body ≡ turn
      → Placed x held h inner start entry behind (round_code key value h entry words elem) (sts_code m.program (argument_words c.func) c.func.named (slots_of m.program m.placement c.func) body (h + 1) behind turn (body_at key value entry count))
      → x < 2 ^ 63 → LeftsFit m.program inner q (c.func.first + c.func.count) (ints ∷ r ∷ []) (key ∷ value ∷ []) → StsFit m.program c.func.results (length c.func.named) true (scope_behind inner (key ∷ value ∷ [])) q1 (c.func.first + c.func.count) body
      → h + 1 < temps_of m.program m.placement c.func → h + 1 + lefts_need m.program (key ∷ value ∷ []) (max (1 + words) (behind_values (1 + words) (lefts_far (key ∷ value ∷ [])))) ≤ temps_of m.program m.placement c.func
      → h + 1 + sts_need m.program c.func.named body ≤ temps_of m.program m.placement c.func → lefts_reach m.program (key ∷ value ∷ []) (sts_reach m.program body) ≤ outgoing_of m.program c.func
      → Scoped c.func (scope_behind inner (key ∷ value ∷ [])) q1 → c.func.first ≤ q → ((p : ℕ) → InScope p inner → (p < q) ⊎ (lefts_after q (key ∷ value ∷ []) ≤ p))
      → Leads m c calls around_loop looped false outer scope out again lo b ws → ((u : ℕ) → After m c calls held inner behind lo b (Meaning.outside k u))
      → (Standing m.code c.fn (read_at key value entry) elem → lefts_above (key ∷ value ∷ []) (h + 1) + 1 + width r ≤ temps_of m.program m.placement c.func → Reads x r get ws held inner (read_at key value entry) (lefts_above (key ∷ value ∷ []) (h + 1)) count lo b)
      → At m lo 0 b v (Meaning.turn (Meaning.births (λ u. Meaning.counted (suc n) 0 x (Meaning.reading_round around callees (suc n) get key value (Meaning.exec_all around callees (suc n) body) ws (Meaning.outside k)) (Meaning.outside k) u env)) w) (Stands m v w (during c env inner held ∷ calls)) start
  elements_follow x r key value body bodies get elem count words ws k held around_loop h looped outer scope inner q q1 out again turn behind start entry lo b env v w le hh elem_long words_are turn_is has small fl fb room pair_room body_room reaches sc from keeping leads left reads =
      array_follows x small held h hh room inner start entry behind turn cr cb has ends one (Meaning.outside k) env v w lo b le each left
    where
      s : Slots
      s = slots_of m.program m.placement c.func

      ls : List Left
      ls = key ∷ value ∷ []

      above : ℕ
      above = lefts_above ls (h + 1)

      inside_at : ℕ
      inside_at = body_at key value entry count

      ready : List Instr
      ready = ready_code m.program s ls (h + 1) entry

      lands : List Instr
      lands = lefts_code s (1 ∷ words ∷ []) ls (h + 1) (above + 1 + words) above

      cr : List Instr
      cr = round_code key value h entry words elem

      cb : List Instr
      cb = sts_code m.program (argument_words c.func) c.func.named s body (h + 1) behind turn inside_at

      length_cr : length cr ≡ lefts_sized m.program ls (count + lefts_size ls)
      length_cr = omega (arith, length-append ready (elem ++ lands), length-append elem lands, elem_long, length_ready m.program s ls (h + 1) entry, length_lefts s (1 ∷ words ∷ []) ls (h + 1) (above + 1 + words) above, lefts_sum m.program ls (count + lefts_size ls))

      ends : entry + length cr + length cb ≡ turn
      ends = omega (arith, length_cr, turn_is, length_sts m.program (argument_words c.func) c.func.named s body (h + 1) behind turn inside_at)

      one : ℕ → ℕ → Env → (ℕ → Env → Go) → Go
      one = Meaning.reading_round around callees (suc n) get key value (Meaning.exec_all around callees (suc n) body) ws (Meaning.outside k)

      each : Rounded x small held h hh room inner start entry behind turn cr cb has ends lo b one
      each i u j d db l go env1 w1 v1 =
          let all = indexed_by held i in let start1 = read_at key value entry in
          let counting = Const (temp s (h + 1)) 1 ∷ (Bin Word.Add (temp s h) (temp s h) (temp s (h + 1)) ∷ (Jump (start + 1) ∷ [])) in
          let has_r = has.stands in
          let has_b = back m.code c.fn entry (lefts_sized m.program ls (count + lefts_size ls)) cr (cb ++ counting) length_cr has_r in
          let has_cr = front m.code c.fn entry cr (cb ++ counting) has_r in
          let has_e = back m.code c.fn entry (lefts_sized m.program ls 0) ready (elem ++ lands) (length_ready m.program s ls (h + 1) entry) has_cr in
          let same = words_are (omega arith) in
          let has_k = subst (λ z. Standing m.code c.fn (start1 + count) (lefts_code s (1 ∷ z ∷ []) ls (h + 1) (above + 1 + z) above)) same (back m.code c.fn start1 count elem lands elem_long has_e) in
          let land = λ (env2 : Env). Meaning.in_loop (Meaning.exec_all around callees (suc n) body) ws (Meaning.outside k u) (Meaning.to_next_count u j) env2 in
          let begins : start1 + count + lefts_size ls ≡ inside_at = omega (arith, lefts_sum m.program ls (count + lefts_size ls)) in
          let wide = one_more held ints (int (pos i)) h 1 hh refl in
          let values = 1 + words in let needs = max values (behind_values values (lefts_far ls)) in
          let inside_room = lefts_room m.program (temps_of m.program m.placement c.func) (h + 1) needs ls pair_room in
          let rooms = address_room (temps_of m.program m.placement c.func) above values (lefts_far ls) (omega arith) (omega arith) in
          (ready_follow m around types inputs sites_are callees n cf ls (ints ∷ r ∷ []) needs (sts_reach m.program body) q (c.func.first + c.func.count) (during c env1 inner all) calls ws (λ those ws1. get i ws env1 (λ y. Meaning.land_all around those (int (pos i) ∷ y ∷ []) ws env1 land)) v1 w1 (h + 1) entry (4 + lo) d (omega arith) wide leads.panics
          (front m.code c.fn entry ready (elem ++ lands) has_cr) fl pair_room reaches (λ uss ws1 w2 v2 stops1 gives there.
          let ops = all_kept (left_types ls) (together uss) in let first = kept ints (int (pos i)) in let ahead = all ++ ops in
          reads (front m.code c.fn start1 elem lands has_e) (omega (arith, same)) i env1 v2 w2 ops d (λ y. Meaning.land_all around (landings env1 ls uss) (int (pos i) ∷ y ∷ []) ws env1 land) l db there (λ y typed.
          let both = all_kept (ints ∷ r ∷ []) (int (pos i) ∷ y ∷ []) in
          let beside : (ahead ++ first) ++ kept r y ≡ ahead ++ both = ap (λ z. (ahead ++ first) ++ z) (sym (all_kept_one r y typed)) ∙ sym (more_kept ahead ints (r ∷ []) (int (pos i)) (y ∷ []) tt) in
          lefts_follow m around sites_are ls (ints ∷ r ∷ []) (int (pos i) ∷ y ∷ []) ahead [] ((ahead ++ first) ++ kept r y) uss all both c env1 env1 inner inner calls ws land v2 w2 q (lefts_after q ls) (above + 1 + width r) (h + 1) above (start1 + count) lo d leads.panics (tt, (typed, tt))
          there (beside ∙ ap (λ z. ahead ++ z) (sym (append-nil both))) gives wide (beside ∙ append_assoc all ops both) (one_more (ahead ++ first) r y (above + 1) (width r) (one_more ahead ints (int (pos i)) above 1 there refl) refl) has_k fl (omega (arith, same)) from (omega arith)
          (λ p z. (z, refl, keeping p z)) (λ env2 w3 v3.
          place_is m (sym begins)
          (given m (λ p g. fewer m v3 w3 (during c env2 (scope_behind inner ls) all) calls p all (ops ++ both) (subst (λ z. Stands m v3 w3 (during c env2 (scope_behind inner ls) z ∷ calls) p) (beside ∙ append_assoc all ops both) g))
          (body_follows body bodies ws k held around_loop h looped outer scope inner (scope_behind inner ls) q q1 out again inside_at turn behind lo b d i u j env2 v3 w3 db le hh (front m.code c.fn inside_at cb counting has_b) fb body_room
          (let others = lefts_others m.program (sts_reach m.program body) ls in omega arith) sc turn_is (behind_has inner ls) leads
          (λ p. after_later m c calls held inner behind lo lo b d (Meaning.outside k p) (omega arith) db (left p)) go))))))

  -- of a copy
  pub copies_follow : (site : ℕ) (e : Ex) (x : ℕ) (key value : Left) (body : Sts) → AllFollowed m c calls around callees n body → Followed m c calls around callees n (range (over_copy site e x) key value body)
  copies_follow site e x key value body bodies ws env k v w held h looped outer scope q out again pc lo b le hh has (r, is, some, small, (behind_lefts, top, declared), fe, fl, fb) enough reaches sc leads post =
      ev_follows m around types inputs sites_are callees n cf e (array_of x r) (during c env scope held) calls ws _ v w h pc lo b le hh leads.panics (front m.code c.fn pc ce (copy ++ rounds) has) fe (omega arith) (omega arith) (λ y w1 v1 iv.
      let t = array_of x r in let n1 = width (site_type m.program site) in let solid = m.solid site in let c0 = during c env scope (held ++ kept t y) in
      let same : n1 ≡ width t = ap width is in let from = sc.from in let up = ascends in
      let cell = Meaning.new_cell ws.call site (Meaning.site_type around site) y in let kind = cell_kind m around sites_are site in
      let home = with_home env site (length w1.store) in
      turned m {lo1 = suc (suc lo)} (omega arith)
      (births_filled m {lo = lo} {hi = 0} c0 calls v1 w1 site (pc + size m.program e) h cell has_m.0.0 has_m.1.0.0 (omega (arith, same, wide_need m scope t e fe)) (omega arith) (omega arith) declared kind (subst (λ o. IsOf o y) (sym (kind ∙ is)) iv)
      (λ u g. subst (λ o. Stand m.program m.leading v1.homes u.hi w1 (leaves o) (contents y) (words_at u.words (temp s h) n1)) (sym (kind ∙ is)) (last_stand m v1 w1 (during c env scope held) calls u held t y h n1 hh same g))
      (λ v2.
      given m (λ u g. fewer m v2 (born w1 cell) (during c home (site ∷ scope) held) calls u held (kept t y) g)
      (place_is m there
      (elements_follow x r key value body bodies (Meaning.read_copied site) elem 4 words ws k held held h looped outer scope (site ∷ scope) q (suc site) out again turn behind start (start + 4) lo b home v2 (born w1 cell) le hh refl words_are refl (array_placed x small held h hh (omega arith) (site ∷ scope) start behind _ _ has_rounds) small fl fb
      (omega arith) (omega arith) (omega arith) (omega arith) scoped sc.from (λ p z. elim z [ inl o ↦ inr (omega arith) | inr o ↦ inl (sc.below p o) ]) leads left
      (λ stands room i env2 v3 w2 ready d g l db above to.
      later m {lo = suc (suc (suc (suc lo)))} {hi = 1} {b = d} (omega arith) (omega arith) (omega arith) (read_of m _ _ _
      (element_follows m c calls i env2 (site ∷ scope) v3 w2 held ready h (lefts_above ls (h + 1)) hh above site x r ws (read_at key value (start + 4)) lo 0 d (g (at_path (value_of w2 (env2 site)) (i ∷ [])) w2) is l (inl refl) room some leads.panics stands
      (λ typed. place_is m (let p : read_at key value (start + 4) + 4 ≡ read_at key value (start + 4) + 1 + 1 + 1 + 1 = omega arith in p) (to (at_path (value_of w2 (env2 site)) (i ∷ [])) typed))))))))))
    where
      s : Slots
      s = slots_of m.program m.placement c.func

      ls : List Left
      ls = key ∷ value ∷ []

      start : ℕ
      start = pc + size m.program e + 2

      turn : ℕ
      turn = body_at key value (start + 4) 4 + sts_size m.program (argument_words c.func) c.func.named body

      behind : ℕ
      behind = turn + 3

      ce : List Instr
      ce = ex_code m.program s e h pc

      copy : List Instr
      copy = birth_code s site h

      elem : List Instr
      elem = element_code s site x h (lefts_above ls (h + 1))

      cb : List Instr
      cb = sts_code m.program (argument_words c.func) c.func.named s body (h + 1) behind turn (body_at key value (start + 4) 4)

      rounds : List Instr
      rounds = array_code s x h (start + 1) behind (element_round_code m.program s site x key value h (start + 4)) cb

      has_m : Standing m.code c.fn (pc + size m.program e) (copy ++ rounds)
      has_m = back m.code c.fn pc (size m.program e) ce (copy ++ rounds) (length_code m.program s e h pc) has

      there : start ≡ pc + size m.program e + 1 + 1
      there = omega arith

      words : ℕ
      words = width (part_type (site_type m.program site) 0)

      words_are : 0 < x → words ≡ width r
      words_are l = ap width ((element_leads (site_type m.program site) r x 0 is l).1)

      has_rounds : Standing m.code c.fn start (array_code s x h (start + 1) behind (round_code key value h (start + 4) words elem) cb)
      has_rounds = subst (λ p. Standing m.code c.fn p rounds) (sym there) has_m.1.1

      behind_loop : (u : ℕ) → After m c calls held scope behind lo b (Meaning.outside k u)
      behind_loop u env1 w1 v1 =
          seen m _ (place_is m (let q1 : pc + (size m.program e + 2 + (4 + element_round_size m.program key value + sts_size m.program (argument_words c.func) c.func.named body + 3)) ≡ behind = omega arith in q1) (post refl env1 w1 v1))

      left : (u : ℕ) → After m c calls held (site ∷ scope) behind lo b (Meaning.outside k u)
      left u env1 w1 v1 = given m (λ p g. narrowed m.program m.placement m.max m.leading v1 w1 (hold c held) calls p env1 (site ∷ scope) scope (λ y i. inr i) g) (behind_loop u env1 w1 v1)

      ascends : q ≤ lefts_after q ls
      ascends = lefts_from m.program (site ∷ scope) q (c.func.first + c.func.count) (ints ∷ r ∷ []) ls fl

      scoped : Scoped c.func (scope_behind (site ∷ scope) ls) (suc site)
      scoped = record {
        named = λ u i. behind_has (site ∷ scope) ls u (inr (sc.named u i));
        below = λ u i. elim (behind_new m.program (site ∷ scope) (site ∷ scope) q (c.func.first + c.func.count) (ints ∷ r ∷ []) ls fl u i) [
          | inl j ↦ elim j [ inl y ↦ omega arith | inr y ↦ (let l = sc.below u y in let up = ascends in omega arith) ]
          | inr l ↦ (let l1 = l.1 in omega arith)
        ];
        from = let l = sc.from in let up = ascends in omega arith;
      }

  -- of an array that a pointer leads to, which is held below the index; the first element that is read tells that it leads somewhere
  pointers_reach : (from : Position) (e : Ex) (x t : ℕ) (key value : Left) (body : Sts) → AllFollowed m c calls around callees n body → (ws : Ways) (env : Env) (k : Env → Go) (v : View) (w : World) (held : List Kept) (h : ℕ) (looped : Bool) (outer scope : List ℕ) (q out again pc lo b : ℕ) → b ≤ suc n → length held ≡ h
      → Standing m.code c.fn pc (st_code m.program (argument_words c.func) c.func.named (slots_of m.program m.placement c.func) (range (over_pointer from e x t) key value body) h out again pc)
      → StFits m.program c.func.results (length c.func.named) looped scope q (c.func.first + c.func.count) (range (over_pointer from e x t) key value body) → h + st_need m.program c.func.named (range (over_pointer from e x t) key value body) ≤ temps_of m.program m.placement c.func
      → st_reach m.program (range (over_pointer from e x t) key value body) ≤ outgoing_of m.program c.func → Scoped c.func scope q → Leads m c calls held looped false outer scope out again lo b ws
      → After m c calls held scope (pc + st_size m.program (argument_words c.func) c.func.named (range (over_pointer from e x t) key value body)) lo b k
      → At m lo 0 b v (Meaning.ev around callees e ws env (λ y. Meaning.turn (Meaning.births (λ u. Meaning.counted (suc n) 0 x (Meaning.reading_round around callees (suc n) (Meaning.read_pointed from y) key value (Meaning.exec_all around callees (suc n) body) (Meaning.holding ws e y) (Meaning.outside k)) (Meaning.outside k) u env))) w) (Stands m v w (during c env scope held ∷ calls)) pc
  pointers_reach from e x t key value body bodies ws env k v w held h looped outer scope q out again pc lo b le hh has (a, is, some, small, used, fe, fl, fb) enough reaches sc leads post =
      ev_follows m around types inputs sites_are callees n cf e (pointer_to a) (during c env scope held) calls ws _ v w h pc lo b le hh leads.panics (front m.code c.fn pc ce rounds has) fe (omega arith) (omega arith) (λ y w1 v1 iy.
      let more = held ++ kept (pointer_to a) y in let long = one_more held (pointer_to a) y h 1 hh refl in
      elements_follow x r key value body bodies (Meaning.read_pointed from y) elem 3 (width r) (Meaning.holding ws e y) k more held (h + 1) looped outer scope scope q (lefts_after q ls) out again turn behind start (start + 4) lo b env v1 w1 le long refl (λ z. refl) refl (array_placed x small more (h + 1) long (omega arith) scope start behind _ _ has_rounds) small fl fb
      (omega arith) (omega arith) (omega arith) (omega arith) (scoped_behind m.program c.func scope q (c.func.first + c.func.count) (ints ∷ r ∷ []) ls fl sc) sc.from (λ p z. inl (sc.below p z)) (leads_holding m c calls e y leads)
      (λ u env1 w2 v2. given m (λ p g. fewer m v2 w2 (during c env1 scope held) calls p held (kept (pointer_to a) y) g) (seen m _ (place_is m ends (post env1 w2 v2))))
      (λ stands room i env2 v3 w2 ready d g l db above to.
      later m {lo = suc (suc (suc lo))} {hi = 1} {b = d} (omega arith) (omega arith) (omega arith)
      (pointed_element m c calls i env2 scope v3 w2 held ready h (lefts_above ls (h + 1 + 1)) a x r y hh above iy is l room some from (Meaning.holding ws e y) g (read_at key value (start + 4)) lo 0 d leads.panics stands
      (λ z typed. place_is m (let p : read_at key value (start + 4) + 3 ≡ read_at key value (start + 4) + 1 + 1 + 1 = omega arith in p) (to z typed)))))
    where
      s : Slots
      s = slots_of m.program m.placement c.func

      ls : List Left
      ls = key ∷ value ∷ []

      r : TypeTree
      r = type_named m.program t

      start : ℕ
      start = pc + size m.program e

      turn : ℕ
      turn = body_at key value (start + 4) 3 + sts_size m.program (argument_words c.func) c.func.named body

      behind : ℕ
      behind = turn + 3

      ce : List Instr
      ce = ex_code m.program s e h pc

      rounds : List Instr
      rounds = array_code s x (h + 1) (start + 1) behind (pointed_round_code m.program s x (width r) key value h (start + 4)) (sts_code m.program (argument_words c.func) c.func.named s body (h + 2) behind turn (body_at key value (start + 4) 3))

      elem : List Instr
      elem = pointed_code s x (width r) h (lefts_above ls (h + 1 + 1))

      two : h + 2 ≡ h + 1 + 1
      two = omega arith

      -- the code with the index's temp
      from_temp : ℕ → List Instr
      from_temp z =
          let v1 = lefts_above ls z in
          array_code s x (h + 1) (start + 1) behind (ready_code m.program s ls z (start + 4) ++ (pointed_code s x (width r) h v1 ++ lefts_code s (1 ∷ width r ∷ []) ls z (v1 + 1 + width r) v1)) (sts_code m.program (argument_words c.func) c.func.named s body z behind turn (body_at key value (start + 4) 3))

      has_rounds : Standing m.code c.fn start (array_code s x (h + 1) (start + 1) behind (round_code key value (h + 1) (start + 4) (width r) elem) (sts_code m.program (argument_words c.func) c.func.named s body (h + 1 + 1) behind turn (body_at key value (start + 4) 3)))
      has_rounds = subst (λ z. Standing m.code c.fn start (from_temp z)) two (back m.code c.fn pc (size m.program e) ce rounds (length_code m.program s e h pc) has)

      ends : pc + (size m.program e + (4 + pointed_round_size m.program key value + sts_size m.program (argument_words c.func) c.func.named body + 3)) ≡ behind
      ends = omega arith

  pub pointers_follow : (from : Position) (e : Ex) (x t : ℕ) (key value : Left) (body : Sts) → AllFollowed m c calls around callees n body → Followed m c calls around callees n (range (over_pointer from e x t) key value body)
  pointers_follow from e x t key blank body bodies ws env k v w held h looped outer scope q out again pc lo b le hh has fit enough reaches sc leads post = absurd fit.4
  pointers_follow from e x t key (new site) body bodies ws env k v w held h looped outer scope q out again pc lo b le hh has fit enough reaches sc leads post =
      pointers_reach from e x t key (new site) body bodies ws env k v w held h looped outer scope q out again pc lo b le hh has fit enough reaches sc leads (post refl)
  pointers_follow from e x t key (to p) body bodies ws env k v w held h looped outer scope q out again pc lo b le hh has fit enough reaches sc leads post =
      pointers_reach from e x t key (to p) body bodies ws env k v w held h looped outer scope q out again pc lo b le hh has fit enough reaches sc leads (post refl)
