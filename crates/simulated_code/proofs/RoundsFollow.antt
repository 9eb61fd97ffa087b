-- The machine follows the rounds of loops.
use Rattle.std.proofs.Common.{◌≡◌, inl, ℕ, zero, suc, ◌+◌, ◌-◌, ◌<◌, ◌≤◌, ℤ, pos, Bool, true, false, List, ◌∷◌, ◌++◌, length, Some, Ok, refl, sym, ap, ◌∙◌, subst, arith, append_assoc, get_or-set_same}
use Rattle.std.specs.Prelude.{slice_get, slice_index, ◌==◌, int_lt, if◌then◌else◌}
use Rattle.typed_syntax.specs.Types.{ints}
use Rattle.typed_syntax.specs.Value.{Value, int}
use Rattle.frames.specs.Frames.{temps_of}
use Rattle.meaning.specs.Trace.{World}
use Rattle.meaning.specs.Meaning
use Rattle.meaning.specs.Meaning.{Env, Go, Then}
use Rattle.isa.specs.Bin.{bit_of, bin_of}
use Rattle.isa.specs.declared.instr.BinOp.TheVariants as Word
use Rattle.isa.specs.declared.instr.Instr.TheVariants.{Const, Bin, Jump, JumpZero}
use Rattle.machine.specs.Machine.{puts_or_panics}
use Rattle.program_code.specs.Code.{temp, slots_of}
use Rattle.state_relation.specs.Views.{View}
use Rattle.state_relation.specs.Relation.{Memory, sets, Kept, Frame, during}
use Rattle.state_relation.proofs.Words.{Spells}
use Rattle.state_relation.proofs.Built.{Built}
use Rattle.state_relation.proofs.Rules.{state_of, At, Stands, knowing, place_is, none_asked, turned, turned_less, stepped, given}
use Rattle.state_relation.proofs.Values.{kept, one_more, temp_set, fewer, held_word}
use Rattle.simulated_code.proofs.Temps.{last_word, spare_set}
use Rattle.simulated_code.proofs.ConditionsFollow.{goes_on, goes_to}
use Rattle.simulated_code.proofs.Numbers.{signed_once}
use Rattle.simulated_code.proofs.Counting.{Remains, remains_next, none_less, some_less, less_bit, next_index}
use Rattle.simulated_code.proofs.Leading.{After, after_later}

-- what a `range` over a number holds in the round of an index
module _ (z : ℤ) (held : List Kept) where
  abbrev pub counting : ℕ → List Kept
  counting i = held ++ (kept ints (int z) ++ kept ints (int (pos i)))

  pub counting_is : (i : ℕ) → (held ++ kept ints (int z)) ++ kept ints (int (pos i)) ≡ counting i
  counting_is i = append_assoc held (kept ints (int z)) (kept ints (int (pos i)))

  pub two_held : (h i : ℕ) → length held ≡ h → length (counting i) ≡ h + 2
  two_held h i hh = ap (λ l. length l) (sym (counting_is i)) ∙ one_more (held ++ kept ints (int z)) ints (int (pos i)) (h + 1) 1 (one_more held ints (int z) h 1 hh refl) refl ∙ (let e : h + 1 + 1 ≡ h + 2 = omega arith in e)

module _ (m : Built) (c : Frame) (calls : List Frame) where
  -- what a test does; where there is none, it leads to the round
  abbrev pub Tests : (held : List Kept) → (scope : List ℕ) → (tested : Bool) → (pc inside behind lo b : ℕ) → (Env → Then Value → Go) → Type 0
  Tests held scope tested pc inside behind lo b test =
      (env : Env) (g h : Go) (v : View) (w : World) (d : ℕ) → d ≤ b → ((w1 : World) (v1 : View) → At m lo 0 d v1 (g w1) (Stands m v1 w1 (during c env scope held ∷ calls)) inside)
      → (tested ≡ true → (w1 : World) (v1 : View) → At m lo 0 d v1 (h w1) (Stands m v1 w1 (during c env scope held ∷ calls)) behind) → At m lo 0 d v (test env (λ x. Meaning.branch x g h) w) (Stands m v w (during c env scope held ∷ calls)) pc

  -- what a round does, from after its test to the jump back
  abbrev pub Round : (held : List Kept) → (scope : List ℕ) → (inside last lo b : ℕ) → (ℕ → Env → (ℕ → Env → Go) → Go) → Type 0
  Round held scope inside last lo b body =
      (u : ℕ) (j : ℕ → Env → Go) (d : ℕ) → d ≤ b → ((u1 : ℕ) → After m c calls held scope last lo d (j u1)) → After m c calls held scope inside lo d (λ env. body u env j)

  -- the rounds of a loop whose test and body follow; after the loop goes on only what a test leads to
  module _ (held : List Kept) (scope : List ℕ) (pc inside last behind : ℕ) (tested : Bool) (back : slice_get m.code.instrs last ≡ Some (Jump pc)) where
    pub rounds_follow : (test : Env → Then Value → Go) (body : ℕ → Env → (ℕ → Env → Go) → Go) (k : ℕ → Env → Go) (lo b : ℕ) → Tests held scope tested pc inside behind lo b test → Round held scope inside last lo b body → (tested ≡ true → (u : ℕ) → After m c calls held scope behind lo b (k u))
        → (fuel d : ℕ) → d ≤ b → d ≤ fuel → (u : ℕ) → After m c calls held scope pc lo d (Meaning.rounds fuel test body k u)
    rounds_follow test body k lo b tests round post zero d db df u env w v = none_asked m (omega arith)
    rounds_follow test body k lo b tests round post (suc fuel) d db df u env w v =
        tests env _ _ v w d db
        (λ w1 v1. round u _ d db (λ u1 env1 w2 v2.
        turned_less m {lo1 = suc lo} (omega arith) (stepped m {lo = lo} {hi = 0} (Jump pc) (λ s. s) back (λ s g. (refl, refl, g)) (rounds_follow test body k lo b tests round post fuel (d - 1) (omega arith) (omega arith) u1 env1 w2 v2))) env w1 v1)
        (λ t w1 v1. after_later m c calls held scope behind lo lo b d (k u) (omega arith) db (post t u) env w1 v1)

  -- the rounds of a `range` over a number, which is held, with the index above it
  module _ (z : ℤ) (held : List Kept) (h : ℕ) (scope : List ℕ) (test turn behind : ℕ) (hh : length held ≡ h) (room : h + 2 < temps_of m.program m.placement c.func)
      (less : slice_get m.code.instrs test ≡ Some (Bin Word.Less (temp (slots_of m.program m.placement c.func) (h + 2)) (temp (slots_of m.program m.placement c.func) (h + 1)) (temp (slots_of m.program m.placement c.func) h)))
      (leave : slice_get m.code.instrs (test + 1) ≡ Some (JumpZero (temp (slots_of m.program m.placement c.func) (h + 2)) behind))
      (one : slice_get m.code.instrs turn ≡ Some (Const (temp (slots_of m.program m.placement c.func) (h + 2)) 1))
      (add : slice_get m.code.instrs (turn + 1) ≡ Some (Bin Word.Add (temp (slots_of m.program m.placement c.func) (h + 1)) (temp (slots_of m.program m.placement c.func) (h + 1)) (temp (slots_of m.program m.placement c.func) (h + 2))))
      (back : slice_get m.code.instrs (turn + 1 + 1) ≡ Some (Jump test)) where
    abbrev number_slot : ℕ
    number_slot = temp (slots_of m.program m.placement c.func) h

    abbrev index_slot : ℕ
    index_slot = temp (slots_of m.program m.placement c.func) (h + 1)

    abbrev spare_slot : ℕ
    spare_slot = temp (slots_of m.program m.placement c.func) (h + 2)

    -- the stores in the round of an index
    abbrev In : ℕ → Env → World → View → Memory → Type 0
    In i env w v s = Stands m v w (during c env scope (counting z held i) ∷ calls) s

    number_spells : (i : ℕ) (env : Env) (w : World) (v : View) (s : Memory) → In i env w v s → Spells (int z) (slice_index s.words number_slot)
    number_spells i env w v s g = held_word m v w (during c env scope held) calls s held (kept ints (int (pos i))) ints (int z) h hh (inl refl) g

    above : (i : ℕ) (env : Env) (w : World) (v : View) (s : Memory) → In i env w v s → Stands m v w (during c env scope ((held ++ kept ints (int z)) ++ kept ints (int (pos i))) ∷ calls) s
    above i env w v s g = subst (λ l. Stands m v w (during c env scope l ∷ calls) s) (sym (counting_is z held i)) g

    index_spells : (i : ℕ) (env : Env) (w : World) (v : View) (s : Memory) → In i env w v s → Spells (int (pos i)) (slice_index s.words index_slot)
    index_spells i env w v s g = last_word m v w (during c env scope held) calls s (held ++ kept ints (int z)) ints (int (pos i)) (h + 1) (one_more held ints (int z) h 1 hh refl) (inl refl) (above i env w v s g)

    -- the temp above both gets a word
    spare : (i x : ℕ) (env : Env) (w : World) (v : View) (s : Memory) → In i env w v s → In i env w v (sets s spare_slot x) × (slice_index (sets s spare_slot x).words spare_slot ≡ x)
    spare i x env w v s g = (
      spare_set m v w (during c env scope (counting z held i)) calls s (h + 2) x (two_held z held h i hh) room g,
      let long = g.sized.used in get_or-set_same s.words spare_slot x 0 (omega arith),
    )

    -- the index gets another one's word
    counted_on : (i j x : ℕ) (env : Env) (w : World) (v : View) (s : Memory) → Spells (int (pos j)) x → In i env w v s → In j env w v (sets s index_slot x)
    counted_on i j x env w v s stands g =
        subst (λ l. Stands m v w (during c env scope l ∷ calls) (sets s index_slot x)) (counting_is z held j)
        (temp_set m v w (during c env scope (held ++ kept ints (int z))) calls s (h + 1) x ints (int (pos j)) (one_more held ints (int z) h 1 hh refl) (omega arith) tt refl stands
        (fewer m v w (during c env scope held) calls s (held ++ kept ints (int z)) (kept ints (int (pos i))) (above i env w v s g)))

    -- what a round does, from its first instruction to those that count
    abbrev pub CountRound : (lo b : ℕ) → (ℕ → ℕ → Env → (ℕ → Env → Go) → Go) → Type 0
    CountRound lo b body =
        (i u : ℕ) (j : ℕ → Env → Go) (d : ℕ) → d ≤ b → ((u1 : ℕ) → After m c calls (counting z held i) scope turn lo d (j u1)) → After m c calls (counting z held i) scope (test + 1 + 1) lo d (λ env. body i u env j)

    -- the comparison, whose outcome is known, and the jump
    compared : (r : Bool) (goal i lo d : ℕ) (env : Env) (g : Go) (w : World) (v : View) → int_lt (pos i) z ≡ r → (if bit_of r == 0 then behind else test + 1 + 1) ≡ goal → At m lo 0 d v (g w) (In i env w v) goal → At m lo 0 d v (Meaning.turn g w) (In i env w v) test
    compared r goal i lo d env g w v known leads post =
        turned m {lo1 = suc (suc lo)} (omega arith)
        (stepped m {lo = suc lo} {hi = 1} {G1 = λ s. In i env w v s × (slice_index s.words spare_slot ≡ bit_of r)} (Bin Word.Less spare_slot index_slot number_slot) (λ s. sets s spare_slot (bit_of r)) less
        (λ s k. (
          ap (puts_or_panics (state_of m test s) spare_slot) (less_bit (slice_index s.words index_slot) (slice_index s.words number_slot) (pos i) z (index_spells i env w v s k).0 (number_spells i env w v s k).0 ∙ ap (λ t. Ok (bit_of t)) known),
          refl,
          spare i (bit_of r) env w v s k,
        ))
        (jumped r leads post))
      where
        jumped : (r : Bool) → (if bit_of r == 0 then behind else test + 1 + 1) ≡ goal → At m lo 0 d v (g w) (In i env w v) goal → At m (suc lo) 1 d v (g w) (λ s. In i env w v s × (slice_index s.words spare_slot ≡ bit_of r)) (test + 1)
        jumped true leads post = goes_on m {lo = lo} spare_slot behind leave (λ s k. (k.1, k.0)) (place_is m (sym leads) post)
        jumped false leads post = goes_to m {lo = lo} spare_slot behind leave (λ s k. (k.1, k.0)) (place_is m (sym leads) post)

    pub counted_follow : (body : ℕ → ℕ → Env → (ℕ → Env → Go) → Go) (k : ℕ → Env → Go) (lo b : ℕ) → CountRound lo b body → ((u : ℕ) → After m c calls held scope behind lo b (k u))
        → (fuel i left d : ℕ) → d ≤ b → d ≤ fuel → Remains z i left → (u : ℕ) → After m c calls (counting z held i) scope test lo d (Meaning.counted fuel i left body k u)
    counted_follow body k lo b round post zero i left d db df remains u env w v = none_asked m (omega arith)
    counted_follow body k lo b round post (suc fuel) i zero d db df remains u env w v =
        compared false behind i lo d env (k u env) w v (none_less z i remains) refl
        (given m (λ s g. fewer m v w (during c env scope held) calls s held (kept ints (int z) ++ kept ints (int (pos i))) g) (after_later m c calls held scope behind lo lo b d (k u) (omega arith) db (post u) env w v))
    counted_follow body k lo b round post (suc fuel) i (suc left) d db df remains u env w v =
        compared true (test + 1 + 1) i lo d env (body i u env (λ u1 env1. Meaning.turn (Meaning.counted fuel (suc i) left body k u1 env1))) w v (some_less z i left remains) refl
        (round i u _ d db (λ u1 env1 w2 v2.
        knowing m (λ s0 g0.
        let x = slice_index s0.words index_slot in let y = slice_index s0.words number_slot in
        let sx = index_spells i env1 w2 v2 s0 g0 in let sy = number_spells i env1 w2 v2 s0 g0 in
        let next = next_index z i left x y remains sx.0 sy.0 in
        turned_less m {lo1 = suc (suc (suc lo))} (omega arith)
        (stepped m {lo = suc (suc lo)} {hi = 1} {G1 = λ s. In i env1 w2 v2 s × (slice_index s.words spare_slot ≡ 1)} (Const spare_slot 1) (λ s. sets s spare_slot 1) one (λ s g. (refl, refl, spare i 1 env1 w2 v2 s g))
        (stepped m {lo = suc lo} {hi = 1} {G1 = In (suc i) env1 w2 v2} (Bin Word.Add index_slot index_slot spare_slot) (λ s. sets s index_slot next.0) add
        (λ s g. (
          (let t = index_spells i env1 w2 v2 s g.0 in
              let same : slice_index s.words index_slot ≡ x = signed_once (slice_index s.words index_slot) x t.1 sx.1 (t.0 ∙ sym sx.0) in
              ap (puts_or_panics (state_of m (turn + 1) s) index_slot) (ap (λ n. bin_of Word.Add n (slice_index s.words spare_slot)) same ∙ ap (bin_of Word.Add x) g.1 ∙ next.1.0)),
          refl,
          counted_on i (suc i) next.0 env1 w2 v2 s next.1.1 g.0,
        ))
        (stepped m {lo = lo} {hi = 0} (Jump test) (λ s. s) back (λ s g. (refl, refl, g))
        (counted_follow body k lo b round post fuel (suc i) left (d - 1) (omega arith) (omega arith) (remains_next z i left remains) u1 env1 w2 v2)))))) env w v)
