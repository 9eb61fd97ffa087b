-- A place of the code that a trace has come to, and the rules of a step. The store is quantified over whole: a family over where the
-- stack begins, of each of which something holds.
use Rattle.std.proofs.Common.{◌≡◌, ℕ, zero, suc, ◌+◌, ◌-◌, ◌<◌, ◌≤◌, Bool, true, false, List, [], ◌∷◌, length, Some, refl, sym, ap, ◌∙◌, subst, arith}
use Rattle.std.specs.Prelude.{slice_get, slice_index, replicate, if◌then◌else◌}
use Rattle.std.proofs.lemmas.Bool.{le-leb}
use Rattle.typed_syntax.specs.Syntax.{Func}
use Rattle.frames.specs.Frames.{frame_of}
use Rattle.meaning.specs.Trace.{Read, Write, Print, Asked, Ending, World, Mark, Trace, Turn, Note, Seen, Cut}
use Rattle.meaning.specs.Output as Output
use Rattle.meaning.specs.Output.{Sight, Last, last}
use Rattle.simulation.specs.Outcome as Outcome
use Rattle.simulation.specs.Outcome.{Lines, Gives, Ends, Unfinished}
use Rattle.simulation.specs.Steps.{Goes, exec, after}
use Rattle.simulation.specs.Follows.{Follows}
use Rattle.simulation.proofs.Rules as Pace
use Rattle.isa.specs.declared.instr.Instr.{Instr}
use Rattle.isa.specs.declared.instr.Direction.TheVariants.{ToSlots, FromSlots}
use Rattle.isa.specs.declared.instr.MoveEvent.{MoveEvent}
use Rattle.isa.specs.declared.instr.Instr.TheVariants.{Incoming, Move}
use Rattle.machine.specs.Machine.{Event, Printed, State, Last as Stopped, Does, stops, act, act_on, puts_words, put_words, words_at, reaches, address_of, owner_of, frame_of as code_frame, frame_in as entry_frame}
use Rattle.machine.specs.declared.run_state.Ending.{Ending as Stop}
use Rattle.machine.specs.declared.run_state.Ending.TheVariants.{WildAddress}
use Rattle.program_code.specs.Code.{zeros}
use Rattle.state_relation.specs.Views.{View, Range, out_from}
use Rattle.state_relation.specs.Relation.{Memory, puts, sets, Frame, Good}
use Rattle.state_relation.specs.Alike.{same_event, same_end, same_last}
use Rattle.state_relation.proofs.Distances.{one_word, put_one}
use Rattle.state_relation.proofs.Built.{Built, limits_of}

module _ (m : Built) where
  abbrev pub range_of : Memory → Range
  range_of s = record { hi = s.hi; size = s.size }

  -- the state of the machine that a store is a part of
  abbrev pub state_of : (pc : ℕ) → Memory → State
  state_of pc s = record { pc = pc; range = range_of s; words = s.words; reads = s.reads; heap = record { words = s.heap; max = m.heap_max } }

  -- what at most k instructions show from a place on
  abbrev pub run_from : (pc : ℕ) → Memory → ℕ → Outcome.Outcome Event Stopped
  run_from pc s k = exec (act m.code m.max m.items) k (state_of pc s)

  -- what one instruction does there
  abbrev pub does_at : Instr → (pc : ℕ) → Memory → Does
  does_at i pc s = act_on m.code m.max m.items (Some i) (state_of pc s)

  -- what is seen of a trace from a view on
  abbrev pub seen_from : View → Range → Trace → Lines Sight Last
  seen_from v r t = out_from m.program m.placement (limits_of m) v r t

  abbrev pub Paces : (lo hi b : ℕ) → Lines Sight Last → (ℕ → Outcome.Outcome Event Stopped) → Type 0
  Paces lo hi b t run = Follows Sight Event Last Stopped same_event (same_last m.program.strings) lo hi b t run

  -- From each start the run follows what is seen of the trace from there, and all show the same after as many steps.
  pub record Run (lo hi b : ℕ) (v : View) (r : ℕ → Range) (t : Trace) (run : ℕ → ℕ → Outcome.Outcome Event Stopped) : Type 0 where
    pub each : (start : ℕ) → Paces lo hi b (seen_from v (r start) t) (run start)
    pub same : (start other n k : ℕ) → n < b → k ≤ n + hi → run start k ≡ run other k

  pub run_weaken : {lo lo1 hi hi1 b b1 : ℕ} {v : View} {r : ℕ → Range} {t : Trace} {run : ℕ → ℕ → Outcome.Outcome Event Stopped} → lo ≤ lo1 → hi1 ≤ hi → b1 ≤ b → Run lo hi b v r t run → Run lo1 hi1 b1 v r t run
  run_weaken x y z f = record {
    each = λ n. record { lower = λ i k le. (f.each n).lower i k (omega arith); upper = λ i k lt le. (f.each n).upper i k (omega arith) (omega arith) };
    same = λ n o i k lt le. f.same n o i k (omega arith) (omega arith);
  }

  pub run_turn : {lo lo1 b : ℕ} {v : View} {r : ℕ → Range} {t : Trace} {run : ℕ → ℕ → Outcome.Outcome Event Stopped} → lo1 ≤ 16 + lo → ((n : ℕ) → run n 0 ≡ Unfinished) → Run lo1 1 (b - 1) v r t run → Run lo 0 b v r (Turn t) run
  run_turn {lo} {lo1} {b} {v} {r} {t} {run} le start f = record {
    each = λ n. (let x = Pace.turn Sight Event Last Stopped same_event (same_last m.program.strings) {lo = lo} {lo' = lo1} {b = b - 1} le (start n) (f.each n) in
        record { lower = x.lower; upper = λ i k lt l. x.upper i k (omega arith) l });
    same = both;
  }
    where
      both : (p q n k : ℕ) → n < b → k ≤ n + 0 → run p k ≡ run q k
      both p q zero k lt l = let e : 0 ≡ k = omega arith in subst (λ j. run p j ≡ run q j) e (start p ∙ sym (start q))
      both p q (suc n) k lt l = f.same p q n k (omega arith) (omega arith)

  -- what is seen may be that of another trace, from another view
  pub run_silent : {lo hi b : ℕ} {v v1 : View} {r r1 : ℕ → Range} {t t1 : Trace} {run run1 : ℕ → ℕ → Outcome.Outcome Event Stopped} → ((n : ℕ) → seen_from v (r n) t ≡ seen_from v1 (r1 n) t1) → ((n k : ℕ) → run n (suc k) ≡ run1 n k) → ((n : ℕ) → run n 0 ≡ Unfinished)
      → Run lo hi b v1 r1 t1 run1 → Run (suc lo) 1 b v r t run
  run_silent {lo} {hi} {b} {v} {v1} {r} {r1} {t} {t1} {run} {run1} seen go start f = record {
    each = λ n. subst (λ u. Paces (suc lo) 1 b u (run n)) (sym (seen n)) (Pace.silent Sight Event Last Stopped same_event (same_last m.program.strings) (go n) (start n) (f.each n));
    same = both;
  }
    where
      both : (p q n k : ℕ) → n < b → k ≤ n + 1 → run p k ≡ run q k
      both p q n zero lt l = start p ∙ sym (start q)
      both p q n (suc k) lt l = go p k ∙ f.same p q n k lt (omega arith) ∙ sym (go q k)

  pub run_seen : {lo hi b : ℕ} {v v1 : View} {r r1 : ℕ → Range} {t t1 : Trace} {run : ℕ → ℕ → Outcome.Outcome Event Stopped} → ((n : ℕ) → seen_from v (r n) t ≡ seen_from v1 (r1 n) t1) → Run lo hi b v1 r1 t1 run → Run lo hi b v r t run
  run_seen {lo} {hi} {b} {v} {v1} {r} {r1} {t} {t1} {run} seen f = record { each = λ n. subst (λ u. Paces lo hi b u (run n)) (sym (seen n)) (f.each n); same = f.same }

  -- an event, at no step of its own
  pub run_shown : {lo hi b : ℕ} {v v1 : View} {r r1 : ℕ → Range} {t t1 : Trace} {run run1 : ℕ → ℕ → Outcome.Outcome Event Stopped} (x : Sight) (d : Event) → same_event x d → ((n : ℕ) → seen_from v (r n) t ≡ Outcome.Line x (seen_from v1 (r1 n) t1)) → ((n k : ℕ) → run n k ≡ Gives d (run1 n k))
      → Run lo hi b v1 r1 t1 run1 → Run lo hi b v r t run
  run_shown {lo} {hi} {b} {v} {v1} {r} {r1} {t} {t1} {run} {run1} x d alike seen go f = record {
    each = λ n. subst (λ u. Paces lo hi b u (run n)) (sym (seen n)) (Pace.shown Sight Event Last Stopped same_event (same_last m.program.strings) x d alike (go n) (f.each n));
    same = λ n o i k lt le. go n k ∙ ap (Gives d) (f.same n o i k lt le) ∙ sym (go o k);
  }

  pub run_ended : {lo hi b : ℕ} {v : View} {r : ℕ → Range} {t : Trace} {run : ℕ → ℕ → Outcome.Outcome Event Stopped} (e : Last) (y : Stopped) → same_last m.program.strings e y → ((n : ℕ) → seen_from v (r n) t ≡ Outcome.End e) → ((n k : ℕ) → run n k ≡ Ends y) → Run lo hi b v r t run
  run_ended {lo} {hi} {b} {v} {r} {t} {run} e y alike seen go = record {
    each = λ n. subst (λ u. Paces lo hi b u (run n)) (sym (seen n)) (Pace.ended Sight Event Last Stopped same_event (same_last m.program.strings) e y alike (go n));
    same = λ n o i k lt le. go n k ∙ sym (go o k);
  }

  -- A trace has come to a place of the code, whatever the stores are of which G holds.
  pub record At (lo hi b : ℕ) (v : View) (t : Trace) (G : Memory → Type 0) (pc : ℕ) : Type 0 where
    pub at : (ss : ℕ → Memory) → ((n : ℕ) → G (ss n)) → Run lo hi b v (λ n. range_of (ss n)) t (λ n k. run_from pc (ss n) k)

  -- they stand for the world
  abbrev pub Stands : View → World → List Frame → Memory → Type 0
  Stands v w calls s = Good m.program m.placement m.max m.leading v w calls s

  -- ---- without an instruction

  -- what holds of every store may be used
  pub knowing : {lo hi b : ℕ} {v : View} {t : Trace} {G : Memory → Type 0} {pc : ℕ} → ((s : Memory) → G s → At lo hi b v t G pc) → At lo hi b v t G pc
  knowing f = record { at = λ ss gs. (f (ss 0) (gs 0)).at ss gs }

  pub later : {lo lo1 hi hi1 b b1 : ℕ} {v : View} {t : Trace} {G : Memory → Type 0} {pc : ℕ} → lo ≤ lo1 → hi1 ≤ hi → b1 ≤ b → At lo hi b v t G pc → At lo1 hi1 b1 v t G pc
  later x y z a = record { at = λ ss gs. run_weaken x y z (a.at ss gs) }

  -- an instruction to spare
  pub spared : {lo hi b : ℕ} {v : View} {t : Trace} {G : Memory → Type 0} {pc : ℕ} → At lo hi b v t G pc → At (suc lo) hi b v t G pc
  spared {lo} {hi} {b} a = later {lo = lo} {hi = hi} {b = b} (omega arith) (omega arith) (omega arith) a

  pub place_is : {lo hi b : ℕ} {v : View} {t : Trace} {G : Memory → Type 0} {pc pc1 : ℕ} → pc ≡ pc1 → At lo hi b v t G pc → At lo hi b v t G pc1
  place_is {lo} {hi} {b} {v} {t} {G} e a = subst (λ p. At lo hi b v t G p) e a

  -- no turn is asked for
  pub none_asked : {lo hi b : ℕ} {v : View} {G : Memory → Type 0} {pc : ℕ} → b ≤ 0 → At lo hi b v Cut G pc
  none_asked le = record { at = λ ss gs. record { each = λ n. record { lower = λ i k l. tt; upper = λ i k l u. absurd (omega arith) }; same = λ n o i k l u. absurd (omega arith) } }

  pub turned_less : {lo lo1 b : ℕ} {v : View} {t : Trace} {G : Memory → Type 0} {pc : ℕ} → lo1 ≤ 16 + lo → At lo1 1 (b - 1) v t G pc → At lo 0 b v (Turn t) G pc
  turned_less le a = record { at = λ ss gs. run_turn le (λ n. refl) (a.at ss gs) }

  pub turned : {lo lo1 b : ℕ} {v : View} {t : Trace} {G : Memory → Type 0} {pc : ℕ} → lo1 ≤ 16 + lo → At lo1 1 b v t G pc → At lo 0 b v (Turn t) G pc
  turned {lo = lo} {lo1 = lo1} {b = b} le a = turned_less {lo = lo} {lo1 = lo1} le (later {lo = lo1} {hi = 1} {b = b} (omega arith) (omega arith) (omega arith) a)

  -- the same stores, of which something else holds, and a trace of which as much is seen
  pub recast : {lo hi b : ℕ} {v v1 : View} {t t1 : Trace} {G G1 : Memory → Type 0} {pc : ℕ} → ((r : Range) → seen_from v r t ≡ seen_from v1 r t1) → ((s : Memory) → G s → G1 s) → At lo hi b v1 t1 G1 pc → At lo hi b v t G pc
  recast seen f a = record { at = λ ss gs. run_seen (λ n. seen (range_of (ss n))) (a.at ss (λ n. f (ss n) (gs n))) }

  -- the same trace
  pub given : {lo hi b : ℕ} {v : View} {t : Trace} {G G1 : Memory → Type 0} {pc : ℕ} → ((s : Memory) → G s → G1 s) → At lo hi b v t G1 pc → At lo hi b v t G pc
  given f a = record { at = λ ss gs. a.at ss (λ n. f (ss n) (gs n)) }

  -- what shows nothing
  pub seen : {lo hi b : ℕ} {v : View} {t : Trace} {G : Memory → Type 0} {pc : ℕ} (mark : Mark) → At lo hi b v t G pc → At lo hi b v (Seen mark t) G pc
  seen {v = v} {t = t} mark a = record { at = λ ss gs. run_seen {v1 = v} {r1 = λ n. range_of (ss n)} {t1 = t} (λ n. refl) (a.at ss gs) }

  pub read_of : {lo hi b : ℕ} {v : View} {t : Trace} {G : Memory → Type 0} {pc : ℕ} (x : ℕ) (path : List ℕ) (n : ℕ) → At lo hi b v t G pc → At lo hi b v (Note (Read x path n) t) G pc
  read_of {v = v} {t = t} x path n a = record { at = λ ss gs. run_seen {v1 = v} {r1 = λ i. range_of (ss i)} {t1 = t} (λ i. refl) (a.at ss gs) }

  pub written_to : {lo hi b : ℕ} {v : View} {t : Trace} {G : Memory → Type 0} {pc : ℕ} (x : ℕ) (path : List ℕ) (n : ℕ) → At lo hi b v t G pc → At lo hi b v (Note (Write x path n) t) G pc
  written_to {v = v} {t = t} x path n a = record { at = λ ss gs. run_seen {v1 = v} {r1 = λ i. range_of (ss i)} {t1 = t} (λ i. refl) (a.at ss gs) }

  -- ---- one instruction

  -- one that shows nothing and moves nothing
  pub stepped_as : {lo hi b : ℕ} {v v1 : View} {t t1 : Trace} {G G1 : Memory → Type 0} {pc pc1 : ℕ} (i : Instr) (next : Memory → Memory) → slice_get m.code.instrs pc ≡ Some i → ((r : Range) → seen_from v r t ≡ seen_from v1 r t1)
      → ((s : Memory) → G s → (does_at i pc s ≡ Goes [] (state_of pc1 (next s))) × (range_of s ≡ range_of (next s)) × G1 (next s)) → At lo hi b v1 t1 G1 pc1 → At (suc lo) 1 b v t G pc
  stepped_as {v1 = v1} {t1 = t1} {pc = pc} i next here same does a = record {
    at = λ ss gs. run_silent (λ n. same (range_of (ss n)) ∙ ap (λ r. seen_from v1 r t1) (does (ss n) (gs n)).1)
        (λ n k. ap (λ o. after (act_on m.code m.max m.items o (state_of pc (ss n))) (exec (act m.code m.max m.items) k)) here ∙ ap (λ d. after d (exec (act m.code m.max m.items) k)) (does (ss n) (gs n)).0) (λ n. refl)
        (a.at (λ n. next (ss n)) (λ n. (does (ss n) (gs n)).2));
  }

  pub stepped : {lo hi b : ℕ} {v : View} {t : Trace} {G G1 : Memory → Type 0} {pc pc1 : ℕ} (i : Instr) (next : Memory → Memory) → slice_get m.code.instrs pc ≡ Some i
      → ((s : Memory) → G s → (does_at i pc s ≡ Goes [] (state_of pc1 (next s))) × (range_of s ≡ range_of (next s)) × G1 (next s)) → At lo hi b v t G1 pc1 → At (suc lo) 1 b v t G pc
  stepped {v = v} {t = t} i next here does a = stepped_as {v1 = v} {t1 = t} i next here (λ r. refl) does a

  -- one that shows an event
  pub stepped_shown : {lo hi b : ℕ} {v v1 : View} {t t1 : Trace} {G G1 : Memory → Type 0} {pc pc1 : ℕ} (i : Instr) (x : Sight) (d : Event) (next : Memory → Memory) → slice_get m.code.instrs pc ≡ Some i → same_event x d → ((r : Range) → seen_from v r t ≡ Outcome.Line x (seen_from v1 r t1))
      → ((s : Memory) → G s → (does_at i pc s ≡ Goes (d ∷ []) (state_of pc1 (next s))) × (range_of s ≡ range_of (next s)) × G1 (next s)) → At lo hi b v1 t1 G1 pc1 → At (suc lo) 1 b v t G pc
  stepped_shown {lo} {hi} {b} {v} {v1} {t} {t1} {pc = pc} {pc1 = pc1} i x d next here alike same does a = record {
    at = λ ss gs. run_silent {lo = lo} {hi = hi} {v1 = v} {r1 = λ n. range_of (ss n)} {t1 = t} {run1 = λ n k. Gives d (run_from pc1 (next (ss n)) k)} (λ n. refl)
        (λ n k. ap (λ o. after (act_on m.code m.max m.items o (state_of pc (ss n))) (exec (act m.code m.max m.items) k)) here ∙ ap (λ o. after o (exec (act m.code m.max m.items) k)) (does (ss n) (gs n)).0) (λ n. refl)
        (run_shown {v1 = v1} {r1 = λ n. range_of (next (ss n))} {t1 = t1} x d alike (λ n. same (range_of (ss n)) ∙ ap (λ r. Outcome.Line x (seen_from v1 r t1)) (does (ss n) (gs n)).1) (λ n k. refl) (a.at (λ n. next (ss n)) (λ n. (does (ss n) (gs n)).2)));
  }

  -- bytes are printed
  pub printing : {lo hi b : ℕ} {v : View} {t : Trace} {G G1 : Memory → Type 0} {pc pc1 : ℕ} (i : Instr) (bytes : List ℕ) → slice_get m.code.instrs pc ≡ Some i → ((s : Memory) → G s → (does_at i pc s ≡ Goes (Printed bytes ∷ []) (state_of pc1 s)) × G1 s) → At lo hi b v t G1 pc1 → At (suc lo) 1 b v (Note (Print bytes) t) G pc
  printing {v = v} {t = t} i bytes here does a = stepped_shown {v1 = v} {t1 = t} i (Output.printing bytes) (Printed bytes) (λ s. s) here refl (λ r. refl) (λ s g. ((does s g).0, refl, (does s g).1)) a

  -- an item of the input is asked for
  pub asking : {lo hi b : ℕ} {v : View} {t : Trace} {G G1 : Memory → Type 0} {pc pc1 : ℕ} (i : Instr) (next : Memory → Memory) → slice_get m.code.instrs pc ≡ Some i
      → ((s : Memory) → G s → (does_at i pc s ≡ Goes (Event.Asked ∷ []) (state_of pc1 (next s))) × (range_of s ≡ range_of (next s)) × G1 (next s)) → At lo hi b v t G1 pc1 → At (suc lo) 1 b v (Note Asked t) G pc
  asking {v = v} {t = t} i next here does a = stepped_shown {v1 = v} {t1 = t} i Output.asking Event.Asked next here refl (λ r. refl) does a

  -- one that ends the run
  pub halts : {lo b : ℕ} {v : View} {t : Trace} {G : Memory → Type 0} {pc : ℕ} (i : Instr) (e : Ending) (y : Stop) → slice_get m.code.instrs pc ≡ Some i → same_end m.program.strings e y → ((r : Range) → seen_from v r t ≡ Outcome.End (last v.heap e))
      → ((s : Memory) → G s → length s.heap ≡ v.heap) → ((s : Memory) → G s → does_at i pc s ≡ stops (state_of pc s) y) → At (suc lo) 1 b v t G pc
  halts {lo} {b} {v} {t} {G} {pc} i e y here alike same taken does = record {
    at = λ ss gs. run_silent {lo = lo} {hi = 0} {v1 = v} {r1 = λ n. range_of (ss n)} {t1 = t} {run1 = λ n k. Ends ended} (λ n. refl)
        (λ n k. ap (λ o. after (act_on m.code m.max m.items o (state_of pc (ss n))) (exec (act m.code m.max m.items) k)) here ∙ ap (λ d. after d (exec (act m.code m.max m.items) k)) (does (ss n) (gs n)) ∙ ap (λ h. Ends (record { ending = y; heap = h })) (taken (ss n) (gs n))) (λ n. refl)
        (run_ended (last v.heap e) ended (alike, refl) (λ n. same (range_of (ss n))) (λ n k. refl));
  }
    where
      ended : Stopped
      ended = record { ending = y; heap = v.heap }

  -- one that meets a limit in every run or in none
  pub gated : {lo hi b : ℕ} {v v1 : View} {t t1 : Trace} {G G1 : Memory → Type 0} {pc pc1 : ℕ} (i : Instr) (x : Bool) (e : Ending) (y : Stop) (next : Memory → Memory) → slice_get m.code.instrs pc ≡ Some i → same_end m.program.strings e y
      → ((r : Range) → seen_from v r t ≡ (if x then seen_from v1 r t1 else Outcome.End (last v.heap e))) → ((s : Memory) → G s → length s.heap ≡ v.heap) → ((s : Memory) → G s → does_at i pc s ≡ (if x then Goes [] (state_of pc1 (next s)) else stops (state_of pc s) y)) → ((s : Memory) → range_of s ≡ range_of (next s))
      → (x ≡ true → (s : Memory) → G s → G1 (next s)) → (x ≡ true → At lo hi b v1 t1 G1 pc1) → At (suc lo) 1 b v t G pc
  gated {v1 = v1} {t1 = t1} i true e y next here alike same taken does stays keeps a = stepped_as {v1 = v1} {t1 = t1} i next here same (λ s g. (does s g, stays s, keeps refl s g)) (a refl)
  gated i false e y next here alike same taken does stays keeps a = halts i e y here alike same taken does

  -- ---- what instructions do to words

  -- the frame of the function that a place belongs to
  pub frame_here : (f pc : ℕ) (func : Func) → slice_get m.program.funcs f ≡ Some func → owner_of m.code pc ≡ f → code_frame m.code (owner_of m.code pc) ≡ frame_of m.program m.placement func
  frame_here f pc func named own = ap (code_frame m.code) own ∙ ap entry_frame (m.compiled.placed f func named).entry

  -- one word goes to a slot
  pub moved_one : (event : MoveEvent) (to from pc : ℕ) (s : Memory) → to < length s.words → from < length s.words → does_at (Move event to from 1) pc s ≡ Goes [] (state_of (pc + 1) (sets s to (slice_index s.words from)))
  moved_one event to from pc s room within =
      ap (λ ws. Goes [] (state_of (pc + 1) (record s { words = ws }))) (ap (put_words s.words to) (one_word s.words from within) ∙ put_one s.words to (slice_index s.words from) room)

  pub zeroed_by : (n to pc : ℕ) (s : Memory) → 0 < n → to + n ≤ length s.words → does_at (zeros n to) pc s ≡ Goes [] (state_of (pc + 1) (puts s to (replicate n 0)))
  zeroed_by zero to pc s some room = absurd (omega arith)
  zeroed_by (suc zero) to pc s some room = ap (λ ws. Goes [] (state_of (pc + 1) (record s { words = ws }))) (sym (put_one s.words to 0 (omega arith)))
  zeroed_by (suc (suc n)) to pc s some room = refl

  reached : (index n pc : ℕ) (s : Memory) (done : Does) → index + n ≤ length s.words → reaches index n (state_of pc s) done ≡ done
  reached index n pc s done le = ap (λ b. if b then done else stops (state_of pc s) (WildAddress (address_of s.hi (length s.words) + index))) (le-leb (index + n) (length s.words) le)

  -- incoming words are read and written
  pub argument_by : (a i n frame pc : ℕ) (s : Memory) → code_frame m.code (owner_of m.code pc) ≡ frame → frame + i + n ≤ length s.words → does_at (Incoming ToSlots a i n) pc s ≡ Goes [] (state_of (pc + 1) (puts s a (words_at s.words (frame + i) n)))
  argument_by a i n frame pc s own le =
      ap (λ f. reaches (f + i) n (state_of pc s) (puts_words (state_of pc s) a (words_at s.words (f + i) n))) own ∙ reached (frame + i) n pc s (puts_words (state_of pc s) a (words_at s.words (frame + i) n)) le

  pub results_by : (a i n frame pc : ℕ) (s : Memory) → code_frame m.code (owner_of m.code pc) ≡ frame → frame + i + n ≤ length s.words → does_at (Incoming FromSlots a i n) pc s ≡ Goes [] (state_of (pc + 1) (puts s (frame + i) (words_at s.words a n)))
  results_by a i n frame pc s own le =
      ap (λ f. reaches (f + i) n (state_of pc s) (puts_words (state_of pc s) (f + i) (words_at s.words a n))) own ∙ reached (frame + i) n pc s (puts_words (state_of pc s) (frame + i) (words_at s.words a n)) le
