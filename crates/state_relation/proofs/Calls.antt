-- The rules of a call and of a return, and what is seen of a birth on the stack.
use Rattle.std.proofs.Common.{◌≡◌, ◌≢◌, inl, inr, ℕ, suc, ◌+◌, ◌-◌, ◌<◌, ◌≤◌, Bool, true, false, List, [], ◌∷◌, length, Some, replicate, refl, sym, ap, ◌∙◌, subst, arith, get_or}
use Rattle.std.specs.Prelude.{slice_get, slice_index, nat_le, nat_lt, ◌==◌, ◌&&◌, not, drop, if◌then◌else◌}
use Rattle.std.proofs.lemmas.Bool.{eq-eqb, le-leb, le-ltb, lt-ltb, leb-true}
use Rattle.std.proofs.lemmas.Bool.Decides.{eqb_tells, leb_tells}
use Rattle.std.proofs.lemmas.List.{length-replicate}
use Rattle.typed_syntax.specs.Types.{TypeTree, ints}
use Rattle.typed_syntax.specs.Words.{Content}
use Rattle.typed_syntax.specs.Syntax.{Func, argument_words, result_words}
use Rattle.frames.specs.Frames.{frame_in, frame_of, outgoing_of}
use Rattle.meaning.specs.Trace.{Call as Called, Return as Returned, Born, Exit, StackLimit, HeapLimit, World, Trace, Note, End}
use Rattle.meaning.specs.Output.{last, used_by, tail_of}
use Rattle.simulation.specs.Outcome as Outcome
use Rattle.simulation.specs.Steps.{Goes}
use Rattle.isa.specs.Code.{Tables}
use Rattle.isa.specs.declared.instr.Instr.TheVariants.{Call, Return}
use Rattle.machine.specs.Machine.{State, Does, slot, put_words, words_at, zeroed, entered, address_of, calls as calling, stops, first_return, calls_function, follows_call, goes_back, owner_of, frame_of as code_frame}
use Rattle.machine.specs.declared.run_state.Ending.TheVariants.{Exit as Stopped, StackLimit as Limit, WildReturn, WildLink}
use Rattle.program_code.specs.Code.{site_slot, slots_of}
use Rattle.program_code.proofs.Compiled.{Placed}
use Rattle.state_relation.specs.Views.{View, Range, distance, slot_in, after_call, after_return, after_stack, after_apart}
use Rattle.state_relation.specs.Relation.{Memory, puts, Frame, placed, fresh, back_of, word_at, nothing, StandsFor, Stand, depth, over, link_word}
use Rattle.state_relation.proofs.Distances.{word_slot, put_length, put_other, put_same, read_length, read_index, entered_keeps, dropped}
use Rattle.state_relation.proofs.Relation.{Needed, needed_within, used, stands_later}
use Rattle.state_relation.proofs.Changes.{good_words, good_placed, good_free}
use Rattle.state_relation.proofs.Crossing.{call_enters, call_leaves, return_later}
use Rattle.state_relation.proofs.Built.{Built, limits_of, frames_are}
use Rattle.state_relation.proofs.Rules.{state_of, does_at, seen_from, At, Stands, stepped_as, halts, gated, knowing, frame_here}

pub different : (a b : ℕ) → a ≢ b → (a == b) ≡ false
different a b ne = elim (eqb_tells a b) [ inl p ↦ absurd (ne p.1) | inr p ↦ p.0 ]

-- a return from function f, by the numbers that it reads
abbrev gives_back : Tables → (f frame ret link : ℕ) → State → Does
gives_back t f frame ret link s =
    if frame == length s.words then stops s (first_return ret link)
    else (if follows_call t f ret then goes_back frame (code_frame t (owner_of t (ret - 1))) ret link s else stops s (WildReturn ret))

-- more than the most, or not
pub turned_round : {A : Type 0} (n max : ℕ) (x y : A) → (if nat_lt max n then x else y) ≡ (if nat_le n max then y else x)
turned_round n max x y = elim (leb_tells n max) [
  | inl l ↦ ap (λ b. if b then x else y) (le-ltb max n l.1) ∙ sym (ap (λ b. if b then y else x) l.0)
  | inr l ↦ ap (λ b. if b then x else y) (lt-ltb max n l.1) ∙ sym (ap (λ b. if b then y else x) l.0)
]

module _ (m : Built) where
  -- contents of these types lie in the outgoing area of the newest of these calls, from a slot on, also while it waits
  abbrev pub Passing : View → World → List Frame → List TypeTree → List Content → (a : ℕ) → Memory → Type 0
  Passing v w calls ls cs a s = (j : ℕ) → j < length ls → StandsFor m.program m.leading v.homes s.hi w (get_or ls j ints) (get_or cs j nothing) (word_at s.words (depth m.program m.placement calls - (a + j)))

  -- a call of a function from these ends after an instruction that calls it
  pub record Behind (f : ℕ) (c : Frame) : Type 0 where
    pub some : 0 < c.place
    pub call : slice_get m.code.instrs (c.place - 1) ≡ Some (Call f)
    pub owner : owner_of m.code (c.place - 1) ≡ c.fn

  abbrev pub Linked : ℕ → List Frame → Type 0
  Linked f [] = Unit {0}
  Linked f (c ∷ calls) = Behind f c

  -- ---- words in the outgoing area

  pub passing_none : (v : View) (w : World) (calls : List Frame) (cs : List Content) (a : ℕ) (s : Memory) → Passing v w calls [] cs a s
  passing_none v w calls cs a s j l = absurd (omega arith)

  -- they are put there
  pub passing_put : (v : View) (w : World) (c : Frame) (calls : List Frame) (s : Memory) (ls : List TypeTree) (cs : List Content) (a : ℕ) (xs : List ℕ) → a + length ls ≤ outgoing_of m.program c.func → Stand m.program m.leading v.homes s.hi w ls cs xs → Stands m v w (c ∷ calls) s → Passing v w (c ∷ calls) ls cs a (puts s a xs)
  passing_put v w c calls s ls cs a xs room st g j l =
      let u = g.sized.used in let n = st.long in
      subst (λ x. StandsFor m.program m.leading v.homes s.hi w (get_or ls j ints) (get_or cs j nothing) x) (sym (put_same s.words a xs j (depth m.program m.placement (c ∷ calls) - (a + j)) (omega arith) (omega arith) (omega arith))) (st.each j l)

  -- and read, by the call itself and by one that it makes
  pub passing_read : (v : View) (w : World) (c : Frame) (calls : List Frame) (s : Memory) (ls : List TypeTree) (cs : List Content) (a : ℕ) → a + length ls ≤ outgoing_of m.program c.func → Stands m v w (c ∷ calls) s → Passing v w (c ∷ calls) ls cs a s → Stand m.program m.leading v.homes s.hi w ls cs (words_at s.words a (length ls))
  passing_read v w c calls s ls cs a room g pass = record {
    long = (let u = g.sized.used in read_length s.words a (length ls) (omega arith));
    each = λ j l. (let u = g.sized.used in
        subst (λ x. StandsFor m.program m.leading v.homes s.hi w (get_or ls j ints) (get_or cs j nothing) x) (word_slot s.words (depth m.program m.placement (c ∷ calls)) (a + j) u (omega arith) ∙ sym (read_index s.words a (length ls) j l)) (pass j l));
  }

  pub passing_above : (v : View) (w : World) (c up : Frame) (calls : List Frame) (s : Memory) (ls : List TypeTree) (cs : List Content) (a : ℕ) → a + length ls ≤ outgoing_of m.program up.func → Stands m v w (c ∷ up ∷ calls) s → Passing v w (up ∷ calls) ls cs a s
      → Stand m.program m.leading v.homes s.hi w ls cs (words_at s.words (frame_of m.program m.placement c.func + a) (length ls))
  passing_above v w c up calls s ls cs a room g pass = record {
    long = (let u = g.sized.used in read_length s.words (frame_of m.program m.placement c.func + a) (length ls) (omega arith));
    each = λ j l. (let u = g.sized.used in
        let e : depth m.program m.placement (up ∷ calls) - (a + j) ≡ depth m.program m.placement (c ∷ up ∷ calls) - (frame_of m.program m.placement c.func + a + j) = omega arith in
        subst (λ x. StandsFor m.program m.leading v.homes s.hi w (get_or ls j ints) (get_or cs j nothing) x)
        (ap (word_at s.words) e ∙ word_slot s.words (depth m.program m.placement (c ∷ up ∷ calls)) (frame_of m.program m.placement c.func + a + j) u (omega arith) ∙ sym (read_index s.words (frame_of m.program m.placement c.func + a) (length ls) j l)) (pass j l));
  }

  -- a call puts words into the outgoing area of the one above it
  pub good_above : (v : View) (w : World) (c up : Frame) (calls : List Frame) (s : Memory) (a : ℕ) (xs : List ℕ) → a + length xs ≤ outgoing_of m.program up.func → Stands m v w (c ∷ up ∷ calls) s → Stands m v w (c ∷ up ∷ calls) (puts s (frame_of m.program m.placement c.func + a) xs)
  good_above v w c up calls s a xs room g = good_words m.program m.placement m.max m.leading v w (c ∷ up ∷ calls) s (put_words s.words from xs) (put_length s.words from xs fits) (λ d n. stays d n) g
    where
      from : ℕ
      from = frame_of m.program m.placement c.func + a

      fits : from + length xs ≤ length s.words
      fits = let u = g.sized.used in omega arith

      stays : (d : ℕ) → Needed m.program m.placement (c ∷ up ∷ calls) d → word_at (put_words s.words from xs) d ≡ word_at s.words d
      stays d (inl own) = let u = g.sized.used in put_other s.words from xs d fits (inl (omega (arith, own.0, own.1)))
      stays d (inr (inl own)) = let u = g.sized.used in put_other s.words from xs d fits (inr (omega (arith, own.0, own.1)))
      stays d (inr (inr up1)) = let b = needed_within m.program m.placement calls d up1 in let u = g.sized.used in put_other s.words from xs d fits (inr (omega (arith, b)))

  pub passing_put_above : (v : View) (w : World) (c up : Frame) (calls : List Frame) (s : Memory) (ls : List TypeTree) (cs : List Content) (a : ℕ) (xs : List ℕ) → a + length ls ≤ outgoing_of m.program up.func → Stand m.program m.leading v.homes s.hi w ls cs xs → Stands m v w (c ∷ up ∷ calls) s
      → Passing v w (up ∷ calls) ls cs a (puts s (frame_of m.program m.placement c.func + a) xs)
  passing_put_above v w c up calls s ls cs a xs room st g j l =
      let u = g.sized.used in let n = st.long in
      subst (λ x. StandsFor m.program m.leading v.homes s.hi w (get_or ls j ints) (get_or cs j nothing) x) (sym (put_same s.words (frame_of m.program m.placement c.func + a) xs j (depth m.program m.placement (up ∷ calls) - (a + j)) (omega arith) (omega arith) (omega arith))) (st.each j l)

  -- ---- a call

  -- the words in use are those of the running functions
  pub words_used : (v : View) (w : World) (calls : List Frame) (s : Memory) → Stands m v w calls s → used_by (limits_of m) v.calls ≡ depth m.program m.placement calls
  words_used v w calls s g = ap (used_by (limits_of m)) g.homed.calling ∙ used m.program m.placement (limits_of m) (frames_are m) calls g.homed.owned

  -- a frame stands below, with the arguments above it
  pub called : (c : Frame) (calls : List Frame) (v : View) (w : World) (f : ℕ) (func : Func) (ls : List TypeTree) (cs : List Content) (pc lo b : ℕ) (t : Trace) (place : Placed m.program m.placement m.code f func) → slice_get m.program.funcs f ≡ Some func
      → slice_get m.code.instrs pc ≡ Some (Call f) → owner_of m.code pc ≡ c.fn → length ls ≡ argument_words func → argument_words func + result_words func ≤ outgoing_of m.program c.func
      → At m lo 0 b (after_call v f) t (λ s. Stands m (after_call v f) w (fresh f func ∷ placed c (pc + 1) ∷ calls) s × Passing (after_call v f) w (c ∷ calls) ls cs 0 s) place.start
      → At m (suc lo) 1 b v (Note (Called f) t) (λ s. Stands m v w (c ∷ calls) s × Passing v w (c ∷ calls) ls cs 0 s) pc
  called c calls v w f func ls cs pc lo b t place named here own many room post =
      knowing m (λ s0 g0.
      gated m (Call f) (nat_le (deep + frame) m.max) (StackLimit deep frame m.max) (Limit deep frame m.max) next here (refl, refl, refl)
      (λ r. ap (λ k. if nat_le (k + frame_in m.program m.placement (slice_get m.program.funcs f)) m.max then seen_from m (after_call v f) r t else Outcome.End (last v.heap (StackLimit k (frame_in m.program m.placement (slice_get m.program.funcs f)) m.max))) (words_used v w (c ∷ calls) s0 g0.0)
      ∙ ap (λ k. if nat_le (deep + k) m.max then seen_from m (after_call v f) r t else Outcome.End (last v.heap (StackLimit deep k m.max))) (frames_are m f func named))
      (λ s g. g.0.sized.heap_used) (λ s g. does s g.0) (λ s. refl) (λ fits s g. (good1 s g.0 (leb-true (deep + frame) m.max fits), pass1 s g.0 g.1)) (λ fits. post))
    where
      deep : ℕ
      deep = depth m.program m.placement (c ∷ calls)

      frame : ℕ
      frame = frame_of m.program m.placement func

      cleared : Memory → List ℕ
      cleared s = zeroed s.words (argument_words func) (result_words func)

      link : Memory → ℕ
      link s = address_of s.hi (length s.words - code_frame m.code (owner_of m.code pc))

      next : Memory → Memory
      next s = record s { words = entered frame (link s) (pc + 1) (cleared s) }

      none : length {A = ℕ} (replicate (result_words func) 0) ≡ result_words func
      none = length-replicate (result_words func) 0

      does : (s : Memory) → Stands m v w (c ∷ calls) s → does_at m (Call f) pc s ≡ (if nat_le (deep + frame) m.max then Goes [] (state_of m place.start (next s)) else stops (state_of m pc s) (Limit deep frame m.max))
      does s g =
          ap (λ o. calling m.max (code_frame m.code (owner_of m.code pc)) o (state_of m pc s)) place.entry
          ∙ turned_round (length s.words + frame) m.max (stops (state_of m pc s) (Limit (length s.words) frame m.max)) (Goes [] (state_of m place.start (next s)))
          ∙ ap (λ n. if nat_le (n + frame) m.max then Goes [] (state_of m place.start (next s)) else stops (state_of m pc s) (Limit n frame m.max)) g.sized.used

      good0 : (s : Memory) → Stands m v w (c ∷ calls) s → Stands m v w (placed c (pc + 1) ∷ calls) (record s { words = cleared s })
      good0 s g = good_placed m.program m.placement m.max m.leading v w c calls (record s { words = cleared s }) (pc + 1) (good_free m.program m.placement m.max m.leading v w c calls s (argument_words func) (replicate (result_words func) 0) (inr (omega (arith, none))) g)

      linked : (s : Memory) → Stands m v w (c ∷ calls) s → link s ≡ s.hi - depth m.program m.placement calls
      linked s g =
          let u = g.sized.used in
          let e : length s.words - frame_of m.program m.placement c.func ≡ depth m.program m.placement calls = omega arith in
          ap (λ n. address_of s.hi (length s.words - n)) (frame_here m c.fn pc c.func g.homed.owned.0.named own) ∙ ap (address_of s.hi) e

      good1 : (s : Memory) → Stands m v w (c ∷ calls) s → deep + frame ≤ m.max → Stands m (after_call v f) w (fresh f func ∷ placed c (pc + 1) ∷ calls) (next s)
      good1 s g fits =
          call_enters m.program m.placement m.max m.leading v w f func (placed c (pc + 1) ∷ calls) (record s { words = cleared s }) (link s) (pc + 1) named g.homed.begun (let h = g.sized.full in omega arith) (linked s g) refl (good0 s g)

      pass1 : (s : Memory) → Stands m v w (c ∷ calls) s → Passing v w (c ∷ calls) ls cs 0 s → Passing (after_call v f) w (c ∷ calls) ls cs 0 (next s)
      pass1 s g pass j l =
          let u = g.sized.used in
          let same : length (cleared s) ≡ length s.words = put_length s.words (argument_words func) (replicate (result_words func) 0) (omega (arith, none)) in
          subst (λ x. StandsFor m.program m.leading v.homes s.hi w (get_or ls j ints) (get_or cs j nothing) x)
          (sym (entered_keeps frame (link s) (pc + 1) (cleared s) (deep - (0 + j)) (omega arith) (omega (arith, same))
          ∙ put_other s.words (argument_words func) (replicate (result_words func) 0) (deep - (0 + j)) (omega (arith, none)) (inl (omega arith)))) (pass j l)

  -- ---- a return

  -- the numbers that it reads
  return_word : (c : Frame) (calls : List Frame) (v : View) (w : World) (s : Memory) → Stands m v w (c ∷ calls) s → slice_index s.words (frame_of m.program m.placement c.func - 1) ≡ back_of calls
  return_word c calls v w s g =
      let e : depth m.program m.placement (c ∷ calls) - (frame_of m.program m.placement c.func - 1) ≡ depth m.program m.placement calls + 1 = omega arith in
      sym (word_slot s.words (depth m.program m.placement (c ∷ calls)) (frame_of m.program m.placement c.func - 1) g.sized.used (omega arith)) ∙ ap (word_at s.words) e ∙ g.framed.backs (depth m.program m.placement calls + 1) (back_of calls) (inl (refl, refl))

  link_at : (c : Frame) (calls : List Frame) (v : View) (w : World) (s : Memory) → Stands m v w (c ∷ calls) s → slice_index s.words (frame_of m.program m.placement c.func - 2) ≡ link_word m.program m.placement s.hi (over m.program m.placement calls)
  link_at c calls v w s g =
      let e : depth m.program m.placement (c ∷ calls) - (frame_of m.program m.placement c.func - 2) ≡ depth m.program m.placement calls + 2 = omega arith in
      sym (word_slot s.words (depth m.program m.placement (c ∷ calls)) (frame_of m.program m.placement c.func - 2) g.sized.used (omega arith)) ∙ ap (word_at s.words) e ∙ g.framed.links (depth m.program m.placement calls + 2) (over m.program m.placement calls) (inl (refl, refl))

  reads : (c : Frame) (calls : List Frame) (v : View) (w : World) (s : Memory) (pc : ℕ) → owner_of m.code pc ≡ c.fn → Stands m v w (c ∷ calls) s →
      does_at m Return pc s ≡ gives_back m.code c.fn (frame_of m.program m.placement c.func) (back_of calls) (link_word m.program m.placement s.hi (over m.program m.placement calls)) (state_of m pc s)
  reads c calls v w s pc own g =
      let st = state_of m pc s in let fr = frame_of m.program m.placement c.func in
      ap (λ f. gives_back m.code f (code_frame m.code f) (slot st (code_frame m.code f - 1)) (slot st (code_frame m.code f - 2)) st) own
      ∙ ap (λ n. gives_back m.code c.fn n (slot st (n - 1)) (slot st (n - 2)) st) (ap (code_frame m.code) (sym own) ∙ frame_here m c.fn pc c.func g.homed.owned.0.named own)
      ∙ ap (λ r. gives_back m.code c.fn fr r (slot st (fr - 2)) st) (return_word c calls v w s g)
      ∙ ap (λ l. gives_back m.code c.fn fr (back_of calls) l st) (link_at c calls v w s g)

  -- the first call returns
  pub first_returns : (c : Frame) (v : View) (w : World) (pc lo b : ℕ) (G : Memory → Type 0) → ((s : Memory) → G s → Stands m v w (c ∷ []) s) → slice_get m.code.instrs pc ≡ Some Return → owner_of m.code pc ≡ c.fn → At m (suc lo) 1 b v (Note Returned (End (Exit 0))) G pc
  first_returns c v w pc lo b G stands here own =
      halts m Return (Exit 0) (Stopped 0) here refl (λ r. refl) (λ s x. (stands s x).sized.heap_used)
      (λ s x. let g = stands s x in let fr = frame_of m.program m.placement c.func in let u = g.sized.used in
      reads c [] v w s pc own g
      ∙ ap (λ (x : Bool). if x then stops (state_of m pc s) (first_return 0 0) else (if follows_call m.code c.fn 0 then goes_back fr (code_frame m.code (owner_of m.code (0 - 1))) 0 0 (state_of m pc s) else stops (state_of m pc s) (WildReturn 0))) (eq-eqb fr (length s.words) (omega arith)))

  -- another one does: to the place behind its call
  pub returned : (c up : Frame) (calls : List Frame) (v : View) (w : World) (ls : List TypeTree) (cs : List Content) (a pc lo b : ℕ) (t : Trace) → slice_get m.code.instrs pc ≡ Some Return → owner_of m.code pc ≡ c.fn → Behind c.fn up → a + length ls ≤ outgoing_of m.program up.func
      → At m lo 0 b (after_return (limits_of m) v) t (λ s. Stands m (after_return (limits_of m) v) w (up ∷ calls) s × Passing (after_return (limits_of m) v) w (up ∷ calls) ls cs a s) up.place
      → At m (suc lo) 1 b v (Note Returned t) (λ s. Stands m v w (c ∷ up ∷ calls) s × Passing v w (up ∷ calls) ls cs a s) pc
  returned c up calls v w ls cs a pc lo b t here own from room post =
      stepped_as m {lo = lo} {hi = 0} {v1 = after_return (limits_of m) v} {t1 = t} Return next here (λ r. refl) (λ s g. (does s g.0, refl, (call_leaves m.program m.placement m.max m.leading (limits_of m) (frames_are m) v w c (up ∷ calls) s g.0, passed s g.0 g.1))) post
    where
      fr : ℕ
      fr = frame_of m.program m.placement c.func

      next : Memory → Memory
      next s = record s { words = drop fr s.words }

      passed : (s : Memory) → Stands m v w (c ∷ up ∷ calls) s → Passing v w (up ∷ calls) ls cs a s → Passing (after_return (limits_of m) v) w (up ∷ calls) ls cs a (next s)
      passed s g pass j l =
          let u = g.sized.used in let homes1 = (after_return (limits_of m) v).homes in
          subst (λ x. StandsFor m.program m.leading homes1 s.hi w (get_or ls j ints) (get_or cs j nothing) x) (sym (dropped s.words fr (depth m.program m.placement (up ∷ calls) - (a + j)) (omega arith)))
          (stands_later m.program m.leading v.homes homes1 s.hi w w (get_or ls j ints) (get_or cs j nothing) _ (return_later m.program m.placement m.max m.leading v.homes (used_by (limits_of m) (tail_of v.calls)) w) (pass j l))

      above : ℕ
      above = code_frame m.code (owner_of m.code (up.place - 1))

      follows : follows_call m.code c.fn up.place ≡ true
      follows =
          ap (λ (x : Bool). not x && calls_function c.fn (slice_get m.code.instrs (up.place - 1))) (different up.place 0 (λ e. let k = from.some in absurd (omega arith)))
          ∙ ap (calls_function c.fn) from.call ∙ eq-eqb c.fn c.fn refl

      does : (s : Memory) → Stands m v w (c ∷ up ∷ calls) s → does_at m Return pc s ≡ Goes [] (state_of m up.place (next s))
      does s g =
          let u = g.sized.used in
          let link = s.hi - depth m.program m.placement calls in
          let above_is : above ≡ frame_of m.program m.placement up.func = frame_here m up.fn (up.place - 1) up.func g.homed.owned.1.0.named from.owner in
          let up_fr = frame_of m.program m.placement up.func in
          let there : nat_le (fr + up_fr) (length s.words) ≡ true = le-leb (fr + up_fr) (length s.words) (omega arith) in
          let meets : (link == address_of s.hi (length s.words - (fr + up_fr))) ≡ true = eq-eqb link (address_of s.hi (length s.words - (fr + up_fr))) (omega arith) in
          reads c (up ∷ calls) v w s pc own g
          ∙ ap (λ (x : Bool). if x then stops (state_of m pc s) (first_return up.place link) else (if follows_call m.code c.fn up.place then goes_back fr above up.place link (state_of m pc s) else stops (state_of m pc s) (WildReturn up.place))) (different fr (length s.words) (λ e. absurd (omega (arith, u, e))))
          ∙ ap (λ (x : Bool). if x then goes_back fr above up.place link (state_of m pc s) else stops (state_of m pc s) (WildReturn up.place)) follows
          ∙ ap (λ n. goes_back fr n up.place link (state_of m pc s)) above_is
          ∙ ap (λ (x : Bool). if x && (link == address_of s.hi (length s.words - (fr + up_fr))) then Goes [] (state_of m up.place (next s)) else stops (state_of m pc s) (WildLink link)) there
          ∙ ap (λ (x : Bool). if x then Goes [] (state_of m up.place (next s)) else stops (state_of m pc s) (WildLink link)) meets

  -- ---- a birth on the stack

  pub birth_seen : (v : View) (w : World) (c : Frame) (calls : List Frame) (s : Memory) (site n : ℕ) (r : Range) (t : Trace) → m.placement.on_heap site ≡ false → Stands m v w (c ∷ calls) s
      → seen_from m v r (Note (Born site n) t) ≡ seen_from m (after_stack v (depth m.program m.placement (c ∷ calls) - site_slot (slots_of m.program m.placement c.func) site)) r t
  birth_seen v w c calls s site n r t plain g =
      ap (λ (x : Bool). if x then (if nat_le (v.heap + n) m.heap_max then seen_from m (after_apart v n) r t else Outcome.End (last v.heap (HeapLimit v.heap n m.heap_max))) else seen_from m (after_stack v (distance m.program m.placement (limits_of m) v.calls site)) r t) plain
      ∙ ap (λ d. seen_from m (after_stack v d) r t) far
    where
      far : distance m.program m.placement (limits_of m) v.calls site ≡ depth m.program m.placement (c ∷ calls) - site_slot (slots_of m.program m.placement c.func) site
      far =
          ap (λ ns. distance m.program m.placement (limits_of m) ns site) g.homed.calling
          ∙ ap (λ k. k - slot_in m.program m.placement (slice_get m.program.funcs c.fn) site) (used m.program m.placement (limits_of m) (frames_are m) (c ∷ calls) g.homed.owned)
          ∙ ap (λ o. depth m.program m.placement (c ∷ calls) - slot_in m.program m.placement o site) g.homed.owned.0.named
