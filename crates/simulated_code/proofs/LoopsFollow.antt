-- The machine follows statements with others inside, where it follows those.
use Rattle.std.proofs.Common.{◌≡◌, inr, inl, ℕ, suc, ◌+◌, ◌-◌, ◌≤◌, ℤ, pos, true, false, List, [], ◌∷◌, ◌++◌, length, Option, Some, None, refl, sym, ap, ◌∙◌, subst, arith, append_assoc, append-nil, length-append}
use Rattle.std.specs.Prelude.{◌&&◌}
use Rattle.typed_syntax.specs.Value.{Value, int, IsOf}
use Rattle.typed_syntax.specs.Syntax.{Ex, Left, St, Sts, blank, new, to, over_int, if_stmt, for_stmt, range, done, next, argument_words}
use Rattle.typed_syntax.specs.Form.{TestFits, lefts_after, declared_after, all_sites_after, scope_behind, scope_after, breaks, breaks_all, ends, ends_all}
use Rattle.frames.specs.Frames.{test_need, test_reach, sts_reach, left_far, outgoing_of, temps_of}
use Rattle.meaning.specs.Trace.{World}
use Rattle.meaning.specs.Meaning
use Rattle.meaning.specs.Meaning.{Env, Go, Ways, Calls, Setting}
use Rattle.isa.specs.declared.instr.BinOp.TheVariants as Word
use Rattle.isa.specs.declared.instr.Instr.{Instr}
use Rattle.isa.specs.declared.instr.Instr.TheVariants.{Const, Bin, Jump, JumpZero}
use Rattle.program_code.specs.Code.{temp, slots_of, lefts_above, ready_code, lefts_sized, ex_code, test_code, lefts_code, renew_code, st_code, sts_code, size, test_size, lefts_size, renew_size, st_size, sts_size}
use Rattle.program_code.proofs.Sizes.{length_code, length_test, length_ready, length_lefts, lefts_sum, length_renew, length_st, length_sts}
use Rattle.program_code.proofs.Rooms.{key_alone, key_room, lefts_room, lefts_others}
use Rattle.state_relation.specs.Views.{View}
use Rattle.state_relation.specs.Relation.{sets, Kept, Frame, hold, during}
use Rattle.state_relation.proofs.Changes.{narrowed}
use Rattle.state_relation.proofs.Built.{Built}
use Rattle.state_relation.proofs.Rules.{At, Stands, later, place_is, given, turned, seen, stepped}
use Rattle.state_relation.proofs.Values.{kept, all_kept, one_more, temp_set, fewer}
use Rattle.simulated_code.proofs.Standing.{Standing, front, back, Panics}
use Rattle.simulated_code.proofs.Temps.{last_word}
use Rattle.simulated_code.proofs.Moves.{CallsFollow}
use Rattle.simulated_code.proofs.ConditionsFollow.{branches}
use Rattle.simulated_code.proofs.EvaluationsFollow.{ev_follows}
use Rattle.simulated_code.proofs.LeftsFollow.{together, left_types, first_landing, land_one, lefts_follow, renew_follows}
use Rattle.simulated_code.proofs.ReadyFollows.{ready_follow}
use Rattle.simulated_code.proofs.Scopes.{behind_has, after_has, both_go_on, one_goes_on, first_or, second_or, tested, test_goes_on, break_goes_on, scoped_later, scoped_behind, scoped_after, sites_ascend}
use Rattle.simulated_code.proofs.Counting.{remains_first}
use Rattle.simulated_code.proofs.RoundsFollow.{counting, counting_is, two_held, Tests, Round, rounds_follow, CountRound, counted_follow}
use Rattle.simulated_code.proofs.Leading.{After, after_later, leads_later, leads_alone, inside, leads_inside, leads_holding, Followed, AllFollowed}
use Rattle.typed_syntax.specs.Types.{bools, ints}

module _ (m : Built) (around : Setting) (types : around.types ≡ m.program.types) (inputs : around.items ≡ m.items) (sites_are : around.sites ≡ m.program.sites) (callees : Calls) (n : ℕ) (cf : CallsFollow m callees n) (c : Frame) (calls : List Frame) where
  pub done_follows : AllFollowed m c calls around callees n done
  done_follows ws env k v w held h looped outer scope q out again pc lo b le hh has fit enough reaches sc leads post =
      seen m _ (place_is m (let e : pc + 0 ≡ pc = omega arith in e) (post refl env w v))

  pub next_follows : (x : St) (xs : Sts) → Followed m c calls around callees n x → AllFollowed m c calls around callees n xs → AllFollowed m c calls around callees n (next x xs)
  next_follows x xs one rest ws env k v w held h looped outer scope q out again pc lo b le hh has fit enough reaches sc leads post =
      let s = slots_of m.program m.placement c.func in let fs = m.program in let a = argument_words c.func in let named = c.func.named in
      let lx = st_size fs a named x in let lxs = sts_size fs a named xs in
      let cx = st_code fs a named s x h out again pc in let cxs = sts_code fs a named s xs h out again (pc + lx) in
      seen m _ (one ws env _ v w held h looped outer scope q out again pc lo b le hh (front m.code c.fn pc cx cxs has) fit.0 (omega arith) (omega arith) sc
      (leads_later m c calls {lo = lo} {b = b} (omega arith) (omega arith) (first_or (breaks x) (breaks_all xs)) (λ u i. i) leads)
      (λ goes env1 w1 v1. rest ws env1 k v1 w1 held h looped outer (scope_after scope x) (declared_after q x) out again (pc + lx) lo b le hh (back m.code c.fn pc lx cx cxs (length_st fs a named s x h out again pc) has) fit.1 (omega arith) (omega arith)
      (scoped_after m.program c.func c.func.results (length named) looped (c.func.first + c.func.count) scope q x fit.0 sc)
      (leads_later m c calls {lo = lo} {b = b} (omega arith) (omega arith) (second_or (breaks x) (breaks_all xs)) (after_has scope x) leads)
      (λ go_on env2 w2 v2. place_is m (let e : pc + (lx + lxs) ≡ pc + lx + lxs = omega arith in e)
      (given m (λ u g. narrowed m.program m.placement m.max m.leading v2 w2 (hold c held) calls u env2 (scope_after scope x) scope (after_has scope x) g) (post (both_go_on x xs goes go_on) env2 w2 v2)))))

  pub choose_follows : (e : Ex) (x y : Sts) → AllFollowed m c calls around callees n x → AllFollowed m c calls around callees n y → Followed m c calls around callees n (if_stmt e x y)
  choose_follows e x y first second ws env k v w held h looped outer scope q out again pc lo b le hh has fit enough reaches sc leads post =
      let s = slots_of m.program m.placement c.func in let fs = m.program in let a = argument_words c.func in let named = c.func.named in
      let lx = sts_size fs a named x in let ly = sts_size fs a named y in
      let p1 = pc + size fs e + 1 in let p2 = p1 + lx + 1 in
      let ce = ex_code fs s e h pc in let cx = sts_code fs a named s x h out again p1 in let cy = sts_code fs a named s y h out again p2 in
      let z = JumpZero (temp s h) p2 in let j = Jump (p2 + ly) in
      let has1 = back m.code c.fn pc (size fs e) ce (z ∷ (cx ++ j ∷ cy)) (length_code fs s e h pc) has in
      let has3 = back m.code c.fn p1 lx cx (j ∷ cy) (length_sts fs a named s x h out again p1) has1.1 in
      let q2 : pc + (size fs e + 1 + lx + 1 + ly) ≡ p2 + ly = omega arith in
      ev_follows m around types inputs sites_are callees n cf e bools (during c env scope held) calls ws _ v w h pc lo b le hh leads.panics (front m.code c.fn pc ce (z ∷ (cx ++ j ∷ cy)) has) fit.0 (omega arith) (omega arith) (λ r w1 v1 ir.
      turned m {lo1 = suc (suc lo)} (omega arith)
      (branches m r (Meaning.exec_all around callees (suc n) x ws env k) (Meaning.exec_all around callees (suc n) y ws env k) v1 w1 (Stands m v1 w1 (during c env scope (held ++ kept bools r) ∷ calls)) (Stands m v1 w1 (during c env scope held ∷ calls)) (temp s h) p2 (pc + size fs e) (suc lo) b has1.0.0 ir
      (λ u g. (last_word m v1 w1 (during c env scope held) calls u held bools r h hh (inr refl) g, fewer m v1 w1 (during c env scope held) calls u held (kept bools r) g))
      (first ws env k v1 w1 held h looped outer scope q out again p1 (suc lo) b le hh (front m.code c.fn p1 cx (j ∷ cy) has1.1) fit.1 (omega arith) (omega arith) sc
      (leads_later m c calls {lo = lo} {b = b} (omega arith) (omega arith) (first_or (breaks_all x) (breaks_all y)) (λ u i. i) leads)
      (λ goes env1 w2 v2. later m {lo = suc lo} {hi = 1} {b = b} (omega arith) (omega arith) (omega arith) (stepped m {lo = lo} {hi = 0} j (λ u. u) has3.0.0 (λ u g. (refl, refl, g))
      (place_is m q2 (post (ap (λ t. t && ends_all y) goes) env1 w2 v2)))))
      (later m {lo = lo} {hi = 0} {b = b} (omega arith) (omega arith) (omega arith)
      (second ws env k v1 w1 held h looped outer scope (all_sites_after q x) out again p2 lo b le hh has3.1 fit.2 (omega arith) (omega arith) (scoped_later c.func scope q (all_sites_after q x) (sites_ascend fs c.func.results (length named) (c.func.first + c.func.count) x looped scope q fit.1) sc)
      (leads_later m c calls {lo = lo} {b = b} (omega arith) (omega arith) (second_or (breaks_all x) (breaks_all y)) (λ u i. i) leads)
      (λ goes env1 w2 v2. place_is m q2 (post (one_goes_on (ends_all x) (ends_all y) goes) env1 w2 v2))))))

  -- a condition, where there is one
  test_follows : (test : Option Ex) (ws : Ways) (held : List Kept) (scope : List ℕ) (h pc behind lo b : ℕ) → b ≤ suc n → length held ≡ h → Panics ws → Standing m.code c.fn pc (test_code m.program (slots_of m.program m.placement c.func) test h pc behind)
      → TestFits m.program scope test → h + test_need m.program test ≤ temps_of m.program m.placement c.func → test_reach m.program test ≤ outgoing_of m.program c.func
      → Tests m c calls held scope (tested test) pc (pc + test_size m.program test) behind lo b (Meaning.test_of around callees test ws)
  test_follows None ws held scope h pc behind lo b le hh stops has fit enough reaches env g1 g2 v w d db on off = place_is m (let e : pc + 0 ≡ pc = omega arith in e) (on w v)
  test_follows (Some e) ws held scope h pc behind lo b le hh stops has fit enough reaches env g1 g2 v w d db on off =
      let s = slots_of m.program m.placement c.func in let fs = m.program in
      let ce = ex_code fs s e h pc in let z = JumpZero (temp s h) behind in
      let has1 = back m.code c.fn pc (size fs e) ce (z ∷ []) (length_code fs s e h pc) has in
      ev_follows m around types inputs sites_are callees n cf e bools (during c env scope held) calls ws _ v w h pc lo d (omega arith) hh stops (front m.code c.fn pc ce (z ∷ []) has) fit enough reaches (λ r w1 v1 ir.
      turned m {lo1 = suc lo} (omega arith)
      (branches m r g1 g2 v1 w1 (Stands m v1 w1 (during c env scope (held ++ kept bools r) ∷ calls)) (Stands m v1 w1 (during c env scope held ∷ calls)) (temp s h) behind (pc + size fs e) lo d has1.0.0 ir
      (λ u g. (last_word m v1 w1 (during c env scope held) calls u held bools r h hh (inr refl) g, fewer m v1 w1 (during c env scope held) calls u held (kept bools r) g))
      (place_is m (let q : pc + (size fs e + 1) ≡ pc + size fs e + 1 = omega arith in q) (on w1 v1)) (off refl w1 v1)))

  pub loop_follows : (sites : List ℕ) (test : Option Ex) (after body : Sts) → AllFollowed m c calls around callees n after → AllFollowed m c calls around callees n body → Followed m c calls around callees n (for_stmt sites test after body)
  loop_follows sites test after body afters bodies ws env k v w held h looped outer scope q out again pc lo b le hh has fit enough reaches sc leads post =
      rounds_follow m c calls held scope pc here last behind (tested test) has_j.0.0 (Meaning.test_of around callees test ws) body_of (Meaning.outside k) lo b
      (test_follows test ws held scope h pc behind lo b le hh leads.panics (front m.code c.fn pc ct (cb ++ (cr ++ (cp ++ Jump pc ∷ []))) has) fit.1 (omega arith) (omega arith))
      round (λ t. behind_loop (test_goes_on sites test after body t)) (suc n) b (omega arith) le (length w.store - length sites) env w v
    where
      here : ℕ
      here = pc + test_size m.program test

      turn : ℕ
      turn = here + sts_size m.program (argument_words c.func) c.func.named body

      then_post : ℕ
      then_post = turn + renew_size sites

      last : ℕ
      last = then_post + sts_size m.program (argument_words c.func) c.func.named after

      behind : ℕ
      behind = last + 1

      ct : List Instr
      ct = test_code m.program (slots_of m.program m.placement c.func) test h pc behind

      cb : List Instr
      cb = sts_code m.program (argument_words c.func) c.func.named (slots_of m.program m.placement c.func) body h behind turn here

      cr : List Instr
      cr = renew_code (slots_of m.program m.placement c.func) sites h

      cp : List Instr
      cp = sts_code m.program (argument_words c.func) c.func.named (slots_of m.program m.placement c.func) after h behind turn then_post

      has_b : Standing m.code c.fn here (cb ++ (cr ++ (cp ++ Jump pc ∷ [])))
      has_b = back m.code c.fn pc (test_size m.program test) ct (cb ++ (cr ++ (cp ++ Jump pc ∷ []))) (length_test m.program (slots_of m.program m.placement c.func) test h pc behind) has

      has_r : Standing m.code c.fn turn (cr ++ (cp ++ Jump pc ∷ []))
      has_r = back m.code c.fn here (sts_size m.program (argument_words c.func) c.func.named body) cb (cr ++ (cp ++ Jump pc ∷ [])) (length_sts m.program (argument_words c.func) c.func.named (slots_of m.program m.placement c.func) body h behind turn here) has_b

      has_p : Standing m.code c.fn then_post (cp ++ Jump pc ∷ [])
      has_p = back m.code c.fn turn (renew_size sites) cr (cp ++ Jump pc ∷ []) (length_renew (slots_of m.program m.placement c.func) sites h) has_r

      has_j : Standing m.code c.fn last (Jump pc ∷ [])
      has_j = back m.code c.fn then_post (sts_size m.program (argument_words c.func) c.func.named after) cp (Jump pc ∷ []) (length_sts m.program (argument_words c.func) c.func.named (slots_of m.program m.placement c.func) after h behind turn then_post) has_p

      next_of : ℕ → (ℕ → Env → Go) → Env → Go
      next_of u j = Meaning.to_next around u sites (Meaning.exec_all around callees (suc n) after) ws j

      body_of : ℕ → Env → (ℕ → Env → Go) → Go
      body_of u env1 j = Meaning.exec_all around callees (suc n) body (inside m c calls ws (Meaning.outside k u) (next_of u j)) env1 (next_of u j)

      behind_loop : ends (for_stmt sites test after body) ≡ false → (u : ℕ) → After m c calls held scope behind lo b (Meaning.outside k u)
      behind_loop goes u env1 w1 v1 =
          seen m _ (place_is m (let e : pc + (test_size m.program test + sts_size m.program (argument_words c.func) c.func.named body + renew_size sites + sts_size m.program (argument_words c.func) c.func.named after + 1) ≡ behind = omega arith in e) (post goes env1 w1 v1))

      next_follow : (u : ℕ) (j : ℕ → Env → Go) (d : ℕ) → d ≤ b → ((u1 : ℕ) → After m c calls held scope last lo d (j u1)) → After m c calls held scope turn lo d (next_of u j)
      next_follow u j d db go env1 w1 v1 =
          seen m _ (renew_follows m around sites_are sites c env1 scope held calls ws.call _ v1 w1 h turn lo d hh (omega arith) fit.0 (front m.code c.fn turn cr (cp ++ Jump pc ∷ []) has_r) (λ env2 w2 v2.
          afters ws env2 (j (length w1.store)) v2 w2 held h false scope scope q behind turn then_post lo d (omega arith) hh (front m.code c.fn then_post cp (Jump pc ∷ []) has_p) fit.2 (omega arith) (omega arith) sc
          (leads_alone m c calls (leads_later m c calls {lo = lo} {b = b} (omega arith) db (λ e. e) (λ u i. i) leads)) (λ goes. go (length w1.store))))

      round : Round m c calls held scope here last lo b body_of
      round u j d db go env1 w1 v1 =
          bodies (inside m c calls ws (Meaning.outside k u) (next_of u j)) env1 (next_of u j) v1 w1 held h true scope scope (all_sites_after q after) behind turn here lo d (omega arith) hh
          (front m.code c.fn here cb (cr ++ (cp ++ Jump pc ∷ [])) has_b) fit.3 (omega arith) (omega arith) (scoped_later c.func scope q (all_sites_after q after) (sites_ascend m.program c.func.results (length c.func.named) (c.func.first + c.func.count) after false scope q fit.2) sc)
          (leads_inside m c calls (Meaning.outside k u) (next_of u j) db (λ z i. i) leads
          (λ e. after_later m c calls held scope behind lo lo b d (Meaning.outside k u) (omega arith) db (behind_loop (break_goes_on sites test after body e) u)) (next_follow u j d db go)) (λ goes. next_follow u j d db go)

  pub range_follows : (e : Ex) (key value : Left) (body : Sts) → AllFollowed m c calls around callees n body → Followed m c calls around callees n (range (over_int e) key value body)
  range_follows e key (new site) body bodies ws env k v w held h looped outer scope q out again pc lo b le hh has fit enough reaches sc leads post = absurd fit
  range_follows e key (to p) body bodies ws env k v w held h looped outer scope q out again pc lo b le hh has fit enough reaches sc leads post = absurd fit
  range_follows e key blank body bodies ws env k v w held h looped outer scope q out again pc lo b le hh has fit enough reaches sc leads post =
      ev_follows m around types inputs sites_are callees n cf e ints (during c env scope held) calls ws _ v w h pc lo b le hh leads.panics (front m.code c.fn pc ce rest has) fit.0 (omega arith) (omega arith) over
    where
      test : ℕ
      test = pc + size m.program e + 1

      start : ℕ
      start = test + 2 + lefts_sized m.program (key ∷ []) 0

      here : ℕ
      here = test + 2 + lefts_sized m.program (key ∷ []) (lefts_size (key ∷ []))

      begins : start + lefts_size (key ∷ []) ≡ here
      begins = omega (arith, lefts_sum m.program (key ∷ []) (lefts_size (key ∷ [])))

      turn : ℕ
      turn = here + sts_size m.program (argument_words c.func) c.func.named body

      behind : ℕ
      behind = turn + 3

      number_slot : ℕ
      number_slot = temp (slots_of m.program m.placement c.func) h

      index_slot : ℕ
      index_slot = temp (slots_of m.program m.placement c.func) (h + 1)

      spare_slot : ℕ
      spare_slot = temp (slots_of m.program m.placement c.func) (h + 2)

      ce : List Instr
      ce = ex_code m.program (slots_of m.program m.placement c.func) e h pc

      above : ℕ
      above = lefts_above (key ∷ []) (h + 2)

      cr : List Instr
      cr = ready_code m.program (slots_of m.program m.placement c.func) (key ∷ []) (h + 2) (test + 2)

      ck : List Instr
      ck = lefts_code (slots_of m.program m.placement c.func) (1 ∷ []) (key ∷ []) (h + 2) above (h + 1)

      cl : List Instr
      cl = cr ++ ck

      length_cl : length cl ≡ lefts_sized m.program (key ∷ []) (lefts_size (key ∷ []))
      length_cl = omega (arith, length-append cr ck, length_ready m.program (slots_of m.program m.placement c.func) (key ∷ []) (h + 2) (test + 2), length_lefts (slots_of m.program m.placement c.func) (1 ∷ []) (key ∷ []) (h + 2) above (h + 1), lefts_sum m.program (key ∷ []) (lefts_size (key ∷ [])))

      cb : List Instr
      cb = sts_code m.program (argument_words c.func) c.func.named (slots_of m.program m.placement c.func) body (h + 2) behind turn here

      counts : List Instr
      counts = Const spare_slot 1 ∷ Bin Word.Add index_slot index_slot spare_slot ∷ Jump test ∷ []

      rest : List Instr
      rest = Const index_slot 0 ∷ (Bin Word.Less spare_slot index_slot number_slot ∷ (JumpZero spare_slot behind ∷ (cl ++ (cb ++ counts))))

      has_rest : Standing m.code c.fn (pc + size m.program e) rest
      has_rest = back m.code c.fn pc (size m.program e) ce rest (length_code m.program (slots_of m.program m.placement c.func) e h pc) has

      has_l : Standing m.code c.fn (test + 2) (cl ++ (cb ++ counts))
      has_l = subst (λ p. Standing m.code c.fn p (cl ++ (cb ++ counts))) (let q1 : test + 1 + 1 ≡ test + 2 = omega arith in q1) has_rest.1.1.1

      has_b : Standing m.code c.fn here (cb ++ counts)
      has_b = back m.code c.fn (test + 2) (lefts_sized m.program (key ∷ []) (lefts_size (key ∷ []))) cl (cb ++ counts) length_cl has_l

      has_k : Standing m.code c.fn start ck
      has_k = back m.code c.fn (test + 2) (lefts_sized m.program (key ∷ []) 0) cr ck (length_ready m.program (slots_of m.program m.placement c.func) (key ∷ []) (h + 2) (test + 2)) (front m.code c.fn (test + 2) cl (cb ++ counts) has_l)

      has_c : Standing m.code c.fn turn counts
      has_c = back m.code c.fn here (sts_size m.program (argument_words c.func) c.func.named body) cb counts (length_sts m.program (argument_words c.func) c.func.named (slots_of m.program m.placement c.func) body (h + 2) behind turn here) has_b

      behind_loop : (u : ℕ) → After m c calls held scope behind lo b (Meaning.outside k u)
      behind_loop u env1 w1 v1 =
          seen m _ (place_is m (let q1 : pc + (size m.program e + 1 + 2 + lefts_sized m.program (key ∷ []) (lefts_size (key ∷ [])) + sts_size m.program (argument_words c.func) c.func.named body + 3) ≡ behind = omega arith in q1) (post refl env1 w1 v1))

      -- while the number is held
      ways : ℤ → Ways
      ways z = Meaning.holding ws e (int z)

      body_of : ℤ → ℕ → ℕ → Env → (ℕ → Env → Go) → Go
      body_of z = Meaning.index_round around callees (suc n) key (Meaning.exec_all around callees (suc n) body) (ways z) (Meaning.outside k)

      next_follow : (z : ℤ) (i u : ℕ) (j : ℕ → Env → Go) (d : ℕ) → ((u1 : ℕ) → After m c calls (counting z held i) scope turn lo d (j u1)) → After m c calls (counting z held i) scope turn lo d (Meaning.to_next_count u j)
      next_follow z i u j d go env1 w1 v1 = seen m _ (go (length w1.store) env1 w1 v1)

      round : (z : ℤ) → CountRound m c calls z held h scope test turn behind hh (omega arith) has_rest.1.0.0 has_rest.1.1.0.0 has_c.0.0 has_c.1.0.0 has_c.1.1.0.0 lo b (body_of z)
      round z i u j d db go env1 w1 v1 =
          let first = Meaning.outside k u in let then_next = Meaning.to_next_count u j in
          let all = counting z held i in let more = scope_behind scope (key ∷ []) in
          let next = next_follow z i u j d go in
          let cb0 = during c env1 scope all in let land = λ (env2 : Env). Meaning.in_loop (Meaning.exec_all around callees (suc n) body) (ways z) first then_next env2 in
          let room = key_room m.program (temps_of m.program m.placement c.func) h key (omega arith) in
          place_is m (let q1 : test + 2 ≡ test + 1 + 1 = omega arith in q1)
          (ready_follow m around types inputs sites_are callees n cf (key ∷ []) (ints ∷ []) (left_far key) (sts_reach m.program body) q (c.func.first + c.func.count) cb0 calls (ways z) (λ xs ws1. Meaning.land around (first_landing xs) (int (pos i)) (ways z) env1 land) v1 w1 (h + 2) (test + 2) lo d (omega arith) (two_held z held h i hh) leads.panics
          (front m.code c.fn (test + 2) cr ck (front m.code c.fn (test + 2) cl (cb ++ counts) has_l)) fit.1 (omega arith) (omega (arith, key_alone m.program key (sts_reach m.program body))) (λ uss ws1 w2 v2 stops1 gives there.
          let ops = all_kept (left_types (key ∷ [])) (together uss) in
          let inside_room = lefts_room m.program (temps_of m.program m.placement c.func) (h + 2) (left_far key) (key ∷ []) (omega arith) in
          subst (λ t. At m lo 0 d v2 t (Stands m v2 w2 (during c env1 scope (all ++ ops) ∷ calls)) start) (sym (land_one around key uss env1 env1 (int (pos i)) (ways z) land w2 gives))
          (lefts_follow m around sites_are (key ∷ []) (ints ∷ []) (int (pos i) ∷ []) (held ++ kept ints (int z)) ops (all ++ ops) uss all [] c env1 env1 scope scope calls (ways z) land v2 w2 q (lefts_after q (key ∷ [])) above (h + 2) (h + 1) start lo d leads.panics (tt, tt)
          (one_more held ints (int z) h 1 hh refl) (ap (λ l. l ++ ops) (sym (counting_is z held i)) ∙ append_assoc (held ++ kept ints (int z)) (kept ints (int (pos i))) ops) gives (two_held z held h i hh) (ap (λ l. all ++ l) (sym (append-nil ops))) there has_k fit.1 (omega arith) sc.from (omega arith) (λ x y. (y, refl, inl (sc.below x y))) (λ env2 w3 v3.
          place_is m (sym begins)
          (given m (λ x g. fewer m v3 w3 (during c env2 more all) calls x all ops g)
          (bodies (inside m c calls (ways z) first then_next) env2 then_next v3 w3 all (h + 2) true scope more (lefts_after q (key ∷ [])) behind turn here lo d (omega arith) (two_held z held h i hh)
          (front m.code c.fn here cb counts has_b) fit.2 (omega arith) (let others = lefts_others m.program (sts_reach m.program body) (key ∷ []) in omega (arith, key_alone m.program key (sts_reach m.program body))) (scoped_behind m.program c.func scope q (c.func.first + c.func.count) (ints ∷ []) (key ∷ []) fit.1 sc)
          (leads_inside m c calls first then_next db (behind_has scope (key ∷ [])) (leads_holding m c calls e (int z) leads)
          (λ t env3 w4 v4. given m (λ x g. fewer m v4 w4 (during c env3 scope held) calls x held (kept ints (int z) ++ kept ints (int (pos i))) g) (after_later m c calls held scope behind lo lo b d first (omega arith) db (behind_loop u) env3 w4 v4)) next)
          (λ goes env3 w4 v4. given m (λ x g. narrowed m.program m.placement m.max m.leading v4 w4 (hold c all) calls x env3 more scope (behind_has scope (key ∷ [])) g) (next env3 w4 v4))))))))

      over : (x : Value) (w1 : World) (v1 : View) → IsOf ints x
          → At m lo 0 b v1 (Meaning.turn (Meaning.births (λ u1. Meaning.counted (suc n) 0 (Meaning.count_of x) (Meaning.index_round around callees (suc n) key (Meaning.exec_all around callees (suc n) body) (Meaning.holding ws e x) (Meaning.outside k)) (Meaning.outside k) u1 env)) w1) (Stands m v1 w1 (during c env scope (held ++ kept ints x) ∷ calls)) (pc + size m.program e)
      over (int z) w1 v1 ix =
          turned m {lo1 = suc lo} (omega arith)
          (stepped m {lo = lo} {hi = 0} {G1 = Stands m v1 w1 (during c env scope (counting z held 0) ∷ calls)} (Const index_slot 0) (λ u. sets u index_slot 0) has_rest.0.0
          (λ u g. (
            refl,
            refl,
            subst (λ l. Stands m v1 w1 (during c env scope l ∷ calls) (sets u index_slot 0)) (counting_is z held 0)
                (temp_set m v1 w1 (during c env scope (held ++ kept ints (int z))) calls u (h + 1) 0 ints (int (pos 0)) (one_more held ints (int z) h 1 hh refl) (omega arith) tt refl (refl, omega arith) g),
          ))
          (counted_follow m c calls z held h scope test turn behind hh (omega arith) has_rest.1.0.0 has_rest.1.1.0.0 has_c.0.0 has_c.1.0.0 has_c.1.1.0.0 (body_of z) (Meaning.outside k) lo b (round z) behind_loop (suc n) 0 (Meaning.count_of (int z)) b (omega arith) le (remains_first z) (length w1.store) env w1 v1))
      over x w1 v1 ix = absurd ix
