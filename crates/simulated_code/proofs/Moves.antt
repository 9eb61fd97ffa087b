-- Arguments go to the outgoing area, and results come from it.
use Rattle.std.proofs.Common.{◌≡◌, inl, inr, ℕ, zero, suc, ◌+◌, ◌-◌, ◌≤◌, get_or, length-append, List, [], ◌∷◌, ◌++◌, length, Some, None, refl, sym, ap, subst, arith}
use Rattle.std.specs.Prelude.{Option, slice_get}
use Rattle.std.proofs.lemmas.List.{get_or_append_left, get_or-append_right, get_or-append-add}
use Rattle.typed_syntax.specs.Value.{Value}
use Rattle.typed_syntax.specs.Types.{TypeTree, ints}
use Rattle.typed_syntax.specs.Words.{Content}
use Rattle.typed_syntax.specs.Form.{AreOf, ParamsFit}
use Rattle.typed_syntax.specs.Syntax.{Func, Program, all_width, argument_words, result_words, arguments_in, results_in, arguments_of, results_of}
use Rattle.frames.specs.Frames.{outgoing_of, temps_of}
use Rattle.meaning.specs.Trace.{World, Trace, Turn}
use Rattle.meaning.specs.Meaning.{Env, Then, Ways, Calls}
use Rattle.isa.specs.declared.instr.MoveEvent.TheVariants.{Silent}
use Rattle.isa.specs.declared.instr.Instr.TheVariants.{Move, Call}
use Rattle.machine.specs.Machine.{words_at, owner_of}
use Rattle.program_code.specs.Code.{temp, slots_of, move_code, move_size, call_code, call_size}
use Rattle.program_code.proofs.Sizes.{length_move}
use Rattle.state_relation.specs.Leaves.{all_leaves}
use Rattle.state_relation.specs.Views.{View}
use Rattle.state_relation.specs.Relation.{Memory, puts, Frame, hold, word_at, Stand, StandsFor, contents_of, nothing, depth}
use Rattle.state_relation.proofs.Lists.{less_or}
use Rattle.state_relation.proofs.Relation.{Later, stands_later}
use Rattle.state_relation.proofs.Leaves.{all_leaves_length}
use Rattle.state_relation.proofs.Changes.{good_free}
use Rattle.state_relation.proofs.Built.{Built}
use Rattle.state_relation.proofs.Rules.{At, Stands, later, place_is, given, turned_less, stepped}
use Rattle.state_relation.proofs.Values.{all_kept, all_kept_length, values_put, values_stand, fewer, held_none}
use Rattle.state_relation.proofs.Calls.{Passing, passing_put, passing_read}
use Rattle.simulated_code.proofs.Standing.{Standing, front, back, Panics}

-- parameters are as many as their types
pub params_length : (p : Program) (m : ℕ) (ts : List TypeTree) (ps : List (Option ℕ)) → ParamsFit p m ts ps → length ts ≡ length ps
params_length p m [] [] fit = refl
params_length p m (t ∷ ts) (None ∷ ps) fit = ap suc (params_length p m ts ps fit)
params_length p m (t ∷ ts) (Some site ∷ ps) fit = ap suc (params_length p (suc m) ts ps fit.3)
params_length p m [] (q ∷ ps) fit = absurd fit
params_length p m (t ∷ ts) [] fit = absurd fit

none_there : {A : Type 0} (xs : List A) → length xs ≡ 0 → xs ≡ []
none_there [] e = refl
none_there (x ∷ xs) e = absurd (omega (arith, e))

module _ (m : Built) where
  -- values of these types lie in the outgoing area of the newest of these calls
  abbrev pub Passed : View → World → List Frame → List TypeTree → List Value → (a : ℕ) → Memory → Type 0
  Passed v w calls ts vs a s = Stands m v w calls s × Passing m v w calls (all_leaves ts) (contents_of vs) a s

  -- the outgoing area of the newest call
  abbrev pub room_of : List Frame → ℕ
  room_of [] = 0
  room_of (c ∷ calls) = outgoing_of m.program c.func

  -- words that are passed, one after the other
  pub passing_first : (v : View) (w : World) (calls : List Frame) (ls ms : List TypeTree) (cs ds : List Content) (a : ℕ) (s : Memory) → length cs ≡ length ls → Passing m v w calls (ls ++ ms) (cs ++ ds) a s → Passing m v w calls ls cs a s
  passing_first v w calls ls ms cs ds a s e pass j l =
      subst (λ k. StandsFor m.program m.leading v.homes s.hi w k (get_or cs j nothing) (word_at s.words (depth m.program m.placement calls - (a + j)))) (get_or_append_left ls ms ints j l)
      (subst (λ k. StandsFor m.program m.leading v.homes s.hi w (get_or (ls ++ ms) j ints) k (word_at s.words (depth m.program m.placement calls - (a + j)))) (get_or_append_left cs ds nothing j (omega (arith, e))) (pass j (omega (arith, length-append ls ms))))

  pub passing_rest : (v : View) (w : World) (calls : List Frame) (ls ms : List TypeTree) (cs ds : List Content) (a n : ℕ) (s : Memory) → length cs ≡ length ls → n ≡ length ls → Passing m v w calls (ls ++ ms) (cs ++ ds) a s → Passing m v w calls ms ds (a + n) s
  passing_rest v w calls ls ms cs ds a n s e many pass j l =
      let q : depth m.program m.placement calls - (a + (length ls + j)) ≡ depth m.program m.placement calls - (a + n + j) = omega (arith, many) in
      let p = pass (length ls + j) (omega (arith, length-append ls ms)) in
      let p1 = subst (λ k. StandsFor m.program m.leading v.homes s.hi w k (get_or (cs ++ ds) (length ls + j) nothing) (word_at s.words (depth m.program m.placement calls - (a + (length ls + j))))) (get_or-append-add ls ms j ints) p in
      let p2 = subst (λ k. StandsFor m.program m.leading v.homes s.hi w (get_or ms j ints) (get_or (cs ++ ds) (k + j) nothing) (word_at s.words (depth m.program m.placement calls - (a + (length ls + j))))) (sym e) p1 in
      let p3 = subst (λ k. StandsFor m.program m.leading v.homes s.hi w (get_or ms j ints) k (word_at s.words (depth m.program m.placement calls - (a + (length ls + j))))) (get_or-append-add cs ds j nothing) p2 in
      subst (λ k. StandsFor m.program m.leading v.homes s.hi w (get_or ms j ints) (get_or ds j nothing) (word_at s.words k)) q p3

  pub passing_joined : (v : View) (w : World) (calls : List Frame) (ls ms : List TypeTree) (cs ds : List Content) (a : ℕ) (s : Memory) → length cs ≡ length ls → Passing m v w calls ls cs a s → Passing m v w calls ms ds (a + length ls) s → Passing m v w calls (ls ++ ms) (cs ++ ds) a s
  passing_joined v w calls ls ms cs ds a s e one two j l = elim (less_or j (length ls)) [
    | inl lt ↦
        subst (λ k. StandsFor m.program m.leading v.homes s.hi w k (get_or (cs ++ ds) j nothing) (word_at s.words (depth m.program m.placement calls - (a + j)))) (sym (get_or_append_left ls ms ints j lt))
        (subst (λ k. StandsFor m.program m.leading v.homes s.hi w (get_or ls j ints) k (word_at s.words (depth m.program m.placement calls - (a + j)))) (sym (get_or_append_left cs ds nothing j (omega (arith, e)))) (one j lt))
    | inr le ↦ (
        let i : ℕ = j - length ls in let q : depth m.program m.placement calls - (a + length ls + i) ≡ depth m.program m.placement calls - (a + j) = omega arith in
        subst (λ k. StandsFor m.program m.leading v.homes s.hi w k (get_or (cs ++ ds) j nothing) (word_at s.words (depth m.program m.placement calls - (a + j)))) (sym (get_or-append_right ls ms (length ls) j ints refl le))
        (subst (λ k. StandsFor m.program m.leading v.homes s.hi w (get_or ms i ints) k (word_at s.words (depth m.program m.placement calls - (a + j)))) (sym (get_or-append_right cs ds (length ls) j nothing e le))
        (subst (λ k. StandsFor m.program m.leading v.homes s.hi w (get_or ms i ints) (get_or ds i nothing) (word_at s.words k)) q (two i (omega (arith, length-append ls ms)))))
        )
  ]

  -- they stay where the words of these calls do
  pub passing_kept : (v v1 : View) (w w1 : World) (calls : List Frame) (ls : List TypeTree) (cs : List Content) (a : ℕ) (s s1 : Memory) → Later v.homes v1.homes w w1 → s.hi ≡ s1.hi → ((d : ℕ) → d ≤ depth m.program m.placement calls → word_at s1.words d ≡ word_at s.words d) → Passing m v w calls ls cs a s → Passing m v1 w1 calls ls cs a s1
  passing_kept v v1 w w1 calls ls cs a s s1 later upper same pass j l =
      subst (λ k. StandsFor m.program m.leading v1.homes k w1 (get_or ls j ints) (get_or cs j nothing) (word_at s1.words (depth m.program m.placement calls - (a + j)))) upper
      (subst (λ k. StandsFor m.program m.leading v1.homes s.hi w1 (get_or ls j ints) (get_or cs j nothing) k) (sym (same (depth m.program m.placement calls - (a + j)) (omega arith)))
      (stands_later m.program m.leading v.homes v1.homes s.hi w w1 (get_or ls j ints) (get_or cs j nothing) _ later (pass j l)))

  pub arguments_moved : (count h : ℕ) (c : Frame) (calls : List Frame) (v : View) (w : World) (ts : List TypeTree) (vs : List Value) (pc lo b : ℕ) (t : Trace) → Standing m.code c.fn pc (move_code count 0 (temp (slots_of m.program m.placement c.func) h))
      → length c.held ≡ h → all_width ts ≡ count → count ≤ outgoing_of m.program c.func
      → At m lo 1 b v t (Passed v w (c ∷ calls) ts vs 0) (pc + move_size count) → At m (suc lo) 1 b v t (Stands m v w (hold c (c.held ++ all_kept ts vs) ∷ calls)) pc
  arguments_moved zero h c calls v w ts vs pc lo b t has hh many room post =
      let e : pc + 0 ≡ pc = omega arith in
      later m {lo = lo} {hi = 1} {b = b} (omega arith) (omega arith) (omega arith)
      (given m (λ s g. (fewer m v w c calls s c.held (all_kept ts vs) g, λ j l. absurd (omega (arith, all_leaves_length ts, many)))) (place_is m e post))
  arguments_moved (suc k) h c calls v w ts vs pc lo b t has hh many room post =
      let a = temp (slots_of m.program m.placement c.func) h in
      stepped m {lo = lo} {hi = 1} (Move Silent 0 a (suc k)) (λ s. puts s 0 (words_at s.words a (suc k))) has.0.0 (λ s g. (refl, refl, passed s g)) post
    where
      passed : (s : Memory) → Stands m v w (hold c (c.held ++ all_kept ts vs) ∷ calls) s → Passed v w (c ∷ calls) ts vs 0 (puts s 0 (words_at s.words (temp (slots_of m.program m.placement c.func) h) (suc k)))
      passed s g =
          let st = values_stand m v w c calls s c.held ts vs h (suc k) hh (sym many) g in let long = st.long in let g1 = fewer m v w c calls s c.held (all_kept ts vs) g in
          let xs = words_at s.words (temp (slots_of m.program m.placement c.func) h) (suc k) in (
            good_free m.program m.placement m.max m.leading v w c calls s 0 xs (inr (omega (arith, all_leaves_length ts))) g1,
            passing_put m v w c calls s (all_leaves ts) (contents_of vs) 0 xs (omega (arith, all_leaves_length ts)) st g1,
          )

  pub results_moved : (count h a : ℕ) (c : Frame) (calls : List Frame) (v : View) (w : World) (ts : List TypeTree) (rs : List Value) (pc lo b : ℕ) (t : Trace) → Standing m.code c.fn pc (move_code count (temp (slots_of m.program m.placement c.func) h) a)
      → length c.held ≡ h → all_width ts ≡ count → a + count ≤ outgoing_of m.program c.func → h + count ≤ temps_of m.program m.placement c.func
      → At m lo 0 b v t (Stands m v w (hold c (c.held ++ all_kept ts rs) ∷ calls)) (pc + move_size count) → At m (suc lo) 0 b v t (Passed v w (c ∷ calls) ts rs a) pc
  results_moved zero h a c calls v w ts rs pc lo b t has hh many room within post =
      let e : pc + 0 ≡ pc = omega arith in let none : all_kept ts rs ≡ [] = none_there (all_kept ts rs) (omega (arith, all_kept_length ts rs, many)) in
      later m {lo = lo} {hi = 0} {b = b} (omega arith) (omega arith) (omega arith)
      (given m (λ s g. subst (λ l. Stands m v w (hold c (c.held ++ l) ∷ calls) s) (sym none) (held_none m v w c calls s g.0)) (place_is m e post))
  results_moved (suc k) h a c calls v w ts rs pc lo b t has hh many room within post =
      let to = temp (slots_of m.program m.placement c.func) h in
      later m {lo = suc lo} {hi = 1} {b = b} (omega arith) (omega arith) (omega arith)
      (stepped m {lo = lo} {hi = 0} (Move Silent to a (suc k)) (λ s. puts s to (words_at s.words a (suc k))) has.0.0 (λ s g. (refl, refl, moved s g)) post)
    where
      moved : (s : Memory) → Passed v w (c ∷ calls) ts rs a s → Stands m v w (hold c (c.held ++ all_kept ts rs) ∷ calls) (puts s (temp (slots_of m.program m.placement c.func) h) (words_at s.words a (suc k)))
      moved s g =
          let n : length (all_leaves ts) ≡ suc k = omega (arith, all_leaves_length ts, many) in
          let st = passing_read m v w c calls s (all_leaves ts) (contents_of rs) a (omega arith) g.0 g.1 in
          values_put m v w c calls s h ts rs (words_at s.words a (suc k)) hh (omega arith) (subst (λ j. Stand m.program m.leading v.homes s.hi w (all_leaves ts) (contents_of rs) (words_at s.words a j)) n st) g.0

  -- what a call does, where it is known for as many turns
  pub record CallsFollow (callees : Calls) (n : ℕ) : Type 0 where
    pub by : (f : ℕ) (func : Func) (vs : List Value) (c : Frame) (calls : List Frame) (ws : Ways) (env : Env) (k : Then (List Value)) (v : View) (w : World) (pc lo b : ℕ) → b ≤ n → slice_get m.program.funcs f ≡ Some func
        → slice_get m.code.instrs pc ≡ Some (Call f) → owner_of m.code pc ≡ c.fn → Panics ws → AreOf func.param_types vs → argument_words func + result_words func ≤ outgoing_of m.program c.func
        → ((rs : List Value) (w1 : World) (v1 : View) → AreOf func.results rs → At m lo 0 b v1 (k rs w1) (Passed v1 w1 (c ∷ calls) func.results rs (argument_words func)) (pc + 1))
        → At m (suc lo) 1 b v (callees f vs ws env k w) (Passed v w (c ∷ calls) func.param_types vs 0) pc

  -- the arguments are held: the call, whose results take their places; its turn has an instruction to spare
  pub call_end : (callees : Calls) (n : ℕ) → CallsFollow callees n → (f : ℕ) (func : Func) (vs : List Value) (c : Frame) (calls : List Frame) (ws : Ways) (env : Env) (k : Then (List Value)) (v : View) (w : World) (h pc lo b : ℕ) → b ≤ suc n → slice_get m.program.funcs f ≡ Some func
      → length c.held ≡ h → Panics ws → AreOf func.param_types vs → Standing m.code c.fn pc (call_code m.program (slots_of m.program m.placement c.func) f h) → h + results_of m.program f ≤ temps_of m.program m.placement c.func → arguments_of m.program f + results_of m.program f ≤ outgoing_of m.program c.func
      → ((rs : List Value) (w1 : World) (v1 : View) → AreOf func.results rs → At m (suc lo) 0 b v1 (k rs w1) (Stands m v1 w1 (hold c (c.held ++ all_kept func.results rs) ∷ calls)) (pc + call_size m.program f))
      → At m lo 0 b v (Turn (callees f vs ws env k w)) (Stands m v w (hold c (c.held ++ all_kept func.param_types vs) ∷ calls)) pc
  call_end callees n cf f func vs c calls ws env k v w h pc lo b le named hh stops typed has room reach post =
      let s = slots_of m.program m.placement c.func in
      let na = arguments_of m.program f in let nr = results_of m.program f in
      let ea : na ≡ argument_words func = ap arguments_in named in let er : nr ≡ result_words func = ap results_in named in
      let before = move_code na 0 (temp s h) in let behind = move_code nr (temp s h) na in
      let has_call = back m.code c.fn pc (move_size na) before (Call f ∷ behind) (length_move na 0 (temp s h)) has in
      turned_less m {lo1 = suc (suc (suc (suc lo)))} (omega arith)
      (arguments_moved na h c calls v w func.param_types vs pc (suc (suc (suc lo))) (b - 1) _ (front m.code c.fn pc before (Call f ∷ behind) has) hh (sym ea) (omega arith)
      (cf.by f func vs c calls ws env k v w (pc + move_size na) (suc (suc lo)) (b - 1) (omega arith) named has_call.0.0 has_call.0.1 stops typed (omega arith) (λ rs w1 v1 some.
      subst (λ a. At m (suc (suc lo)) 0 (b - 1) v1 (k rs w1) (Passed v1 w1 (c ∷ calls) func.results rs a) (pc + move_size na + 1)) ea
      (results_moved nr h na c calls v1 w1 func.results rs (pc + move_size na + 1) (suc lo) (b - 1) _ has_call.1 hh (sym er) (omega arith) (omega arith)
      (later m {lo = suc lo} {hi = 0} {b = b} (omega arith) (omega arith) (omega arith)
      (place_is m (let e : pc + call_size m.program f ≡ pc + move_size na + 1 + move_size nr = omega arith in e) (post rs w1 v1 some)))))))
