-- The machine follows the rounds of a `range` over an array, whose index is held.
use Rattle.std.proofs.Common.{◌≡◌, inl, ℕ, zero, suc, ◌+◌, ◌-◌, ◌^◌, ◌<◌, ◌≤◌, pos, Bool, true, false, List, ◌∷◌, ◌++◌, length, Some, Ok, refl, sym, ap, ◌∙◌, arith, get_or-set_same}
use Rattle.std.specs.Prelude.{slice_get, slice_index, ◌==◌, int_lt, if◌then◌else◌}
use Rattle.std.specs.Int.{w64, cast_signed}
use Rattle.std.proofs.lemmas.Int.{to_z_pos}
use Rattle.typed_syntax.specs.Types.{ints}
use Rattle.typed_syntax.specs.Value.{int}
use Rattle.frames.specs.Frames.{temps_of}
use Rattle.meaning.specs.Trace.{World}
use Rattle.meaning.specs.Meaning
use Rattle.meaning.specs.Meaning.{Env, Go}
use Rattle.isa.specs.Bin.{bit_of, bin_of}
use Rattle.isa.specs.declared.instr.BinOp.TheVariants as Word
use Rattle.isa.specs.declared.instr.Instr.TheVariants.{Const, Bin, Jump, JumpZero}
use Rattle.machine.specs.Machine.{puts_or_panics}
use Rattle.program_code.specs.Code.{temp, slots_of}
use Rattle.state_relation.specs.Views.{View}
use Rattle.state_relation.specs.Relation.{Memory, sets, Kept, Frame, during}
use Rattle.state_relation.proofs.Words.{Spells}
use Rattle.state_relation.proofs.Built.{Built}
use Rattle.state_relation.proofs.Rules.{state_of, At, Stands, knowing, place_is, none_asked, turned, turned_less, stepped, given}
use Rattle.state_relation.proofs.Values.{kept, one_more, temp_set, fewer}
use Rattle.simulated_code.proofs.Temps.{last_word, spare_set}
use Rattle.simulated_code.proofs.ConditionsFollow.{goes_on, goes_to}
use Rattle.simulated_code.proofs.Numbers.{signed_once}
use Rattle.simulated_code.proofs.Counting.{none_less, some_less, less_bit, next_index}
use Rattle.simulated_code.proofs.Leading.{After, after_later}

-- what is held in the round of an index
abbrev pub indexed_by : List Kept → ℕ → List Kept
indexed_by held i = held ++ kept ints (int (pos i))

-- what the test of a round does where its outcome is known: it leads past the loop, or into the round
abbrev pub Tests : (m : Built) (c : Frame) (calls : List Frame) (x : ℕ) (held : List Kept) (scope : List ℕ) (test inside behind : ℕ) → Type 0
Tests m c calls x held scope test inside behind =
    (r : Bool) (goal i base lo d : ℕ) (env : Env) (g : Go) (w : World) (v : View) → suc (suc (suc lo)) ≤ 16 + base → int_lt (pos i) (pos x) ≡ r → (if bit_of r == 0 then behind else inside) ≡ goal → At m lo 0 d v (g w) (Stands m v w (during c env scope (indexed_by held i) ∷ calls)) goal
    → At m base 0 d v (Meaning.turn g w) (Stands m v w (during c env scope (indexed_by held i) ∷ calls)) test

module _ (m : Built) (c : Frame) (calls : List Frame) (x : ℕ) (small : x < 2 ^ 63) (held : List Kept) (h : ℕ) (scope : List ℕ) (hh : length held ≡ h) (room : h + 1 < temps_of m.program m.placement c.func) where
  abbrev index_slot : ℕ
  index_slot = temp (slots_of m.program m.placement c.func) h

  abbrev spare_slot : ℕ
  spare_slot = temp (slots_of m.program m.placement c.func) (h + 1)

  -- the stores in the round of an index
  abbrev In : ℕ → Env → World → View → Memory → Type 0
  In i env w v s = Stands m v w (during c env scope (indexed_by held i) ∷ calls) s

  index_spells : (i : ℕ) (env : Env) (w : World) (v : View) (s : Memory) → In i env w v s → Spells (int (pos i)) (slice_index s.words index_slot)
  index_spells i env w v s g = last_word m v w (during c env scope held) calls s held ints (int (pos i)) h hh (inl refl) g

  -- the temp above it gets a word
  spare : (i y : ℕ) (env : Env) (w : World) (v : View) (s : Memory) → In i env w v s → In i env w v (sets s spare_slot y) × (slice_index (sets s spare_slot y).words spare_slot ≡ y)
  spare i y env w v s g = (
    spare_set m v w (during c env scope (indexed_by held i)) calls s (h + 1) y (one_more held ints (int (pos i)) h 1 hh refl) room g,
    let long = g.sized.used in get_or-set_same s.words spare_slot y 0 (omega arith),
  )

  -- the index gets another one's word
  counted_on : (i j y : ℕ) (env : Env) (w : World) (v : View) (s : Memory) → Spells (int (pos j)) y → In i env w v s → In j env w v (sets s index_slot y)
  counted_on i j y env w v s stands g = temp_set m v w (during c env scope held) calls s h y ints (int (pos j)) hh (omega arith) tt refl stands (fewer m v w (during c env scope held) calls s held (kept ints (int (pos i))) g)

  number_is : (y : ℕ) → y ≡ x → cast_signed w64 y ≡ pos x
  number_is y e = ap (cast_signed w64) e ∙ to_z_pos w64 x small

  -- the number is one of the code, and stands in the spare temp first
  module _ (test behind : ℕ) (number : slice_get m.code.instrs test ≡ Some (Const (temp (slots_of m.program m.placement c.func) (h + 1)) x))
      (less : slice_get m.code.instrs (test + 1) ≡ Some (Bin Word.Less (temp (slots_of m.program m.placement c.func) (h + 1)) (temp (slots_of m.program m.placement c.func) h) (temp (slots_of m.program m.placement c.func) (h + 1))))
      (leave : slice_get m.code.instrs (test + 1 + 1) ≡ Some (JumpZero (temp (slots_of m.program m.placement c.func) (h + 1)) behind)) where
    pub array_tests : Tests m c calls x held scope test (test + 1 + 1 + 1) behind
    array_tests r goal i base lo d env g w v enough known leads post =
        turned m {lo1 = suc (suc (suc lo))} enough
        (stepped m {lo = suc (suc lo)} {hi = 1} {G1 = λ s. In i env w v s × (slice_index s.words spare_slot ≡ x)} (Const spare_slot x) (λ s. sets s spare_slot x) number (λ s k. (refl, refl, spare i x env w v s k))
        (stepped m {lo = suc lo} {hi = 1} {G1 = λ s. In i env w v s × (slice_index s.words spare_slot ≡ bit_of r)} (Bin Word.Less spare_slot index_slot spare_slot) (λ s. sets s spare_slot (bit_of r)) less
        (λ s k. (
          ap (puts_or_panics (state_of m (test + 1) s) spare_slot) (less_bit (slice_index s.words index_slot) (slice_index s.words spare_slot) (pos i) (pos x) (index_spells i env w v s k.0).0 (number_is (slice_index s.words spare_slot) k.1) ∙ ap (λ t. Ok (bit_of t)) known),
          refl,
          spare i (bit_of r) env w v s k.0,
        ))
        (jumped r leads post)))
      where
        jumped : (r : Bool) → (if bit_of r == 0 then behind else test + 1 + 1 + 1) ≡ goal → At m lo 0 d v (g w) (In i env w v) goal → At m (suc lo) 1 d v (g w) (λ s. In i env w v s × (slice_index s.words spare_slot ≡ bit_of r)) (test + 1 + 1)
        jumped true leads post = goes_on m {lo = lo} spare_slot behind leave (λ s k. (k.1, k.0)) (place_is m (sym leads) post)
        jumped false leads post = goes_to m {lo = lo} spare_slot behind leave (λ s k. (k.1, k.0)) (place_is m (sym leads) post)

  -- the number is held in another temp
  module _ (test behind limit : ℕ) (limits : (i : ℕ) (env : Env) (w : World) (v : View) (s : Memory) → In i env w v s → cast_signed w64 (slice_index s.words limit) ≡ pos x)
      (less : slice_get m.code.instrs test ≡ Some (Bin Word.Less (temp (slots_of m.program m.placement c.func) (h + 1)) (temp (slots_of m.program m.placement c.func) h) limit))
      (leave : slice_get m.code.instrs (test + 1) ≡ Some (JumpZero (temp (slots_of m.program m.placement c.func) (h + 1)) behind)) where
    pub held_tests : Tests m c calls x held scope test (test + 1 + 1) behind
    held_tests r goal i base lo d env g w v enough known leads post =
        turned m {lo1 = suc (suc lo)} (omega arith)
        (stepped m {lo = suc lo} {hi = 1} {G1 = λ s. In i env w v s × (slice_index s.words spare_slot ≡ bit_of r)} (Bin Word.Less spare_slot index_slot limit) (λ s. sets s spare_slot (bit_of r)) less
        (λ s k. (
          ap (puts_or_panics (state_of m test s) spare_slot) (less_bit (slice_index s.words index_slot) (slice_index s.words limit) (pos i) (pos x) (index_spells i env w v s k).0 (limits i env w v s k) ∙ ap (λ t. Ok (bit_of t)) known),
          refl,
          spare i (bit_of r) env w v s k,
        ))
        (jumped r leads post))
      where
        jumped : (r : Bool) → (if bit_of r == 0 then behind else test + 1 + 1) ≡ goal → At m lo 0 d v (g w) (In i env w v) goal → At m (suc lo) 1 d v (g w) (λ s. In i env w v s × (slice_index s.words spare_slot ≡ bit_of r)) (test + 1)
        jumped true leads post = goes_on m {lo = lo} spare_slot behind leave (λ s k. (k.1, k.0)) (place_is m (sym leads) post)
        jumped false leads post = goes_to m {lo = lo} spare_slot behind leave (λ s k. (k.1, k.0)) (place_is m (sym leads) post)

  -- the rounds, where their tests do that
  module _ (test inside turn behind : ℕ) (tests : Tests m c calls x held scope test inside behind) (one : slice_get m.code.instrs turn ≡ Some (Const (temp (slots_of m.program m.placement c.func) (h + 1)) 1))
      (add : slice_get m.code.instrs (turn + 1) ≡ Some (Bin Word.Add (temp (slots_of m.program m.placement c.func) h) (temp (slots_of m.program m.placement c.func) h) (temp (slots_of m.program m.placement c.func) (h + 1))))
      (back : slice_get m.code.instrs (turn + 1 + 1) ≡ Some (Jump test)) where
    -- what a round does, from its first instruction to those that count; the test's turn has instructions to spare for it
    abbrev pub ArrayRound : (lo b : ℕ) → (ℕ → ℕ → Env → (ℕ → Env → Go) → Go) → Type 0
    ArrayRound lo b body =
        (i u : ℕ) (j : ℕ → Env → Go) (d : ℕ) → d ≤ b → i < x → ((u1 : ℕ) → After m c calls (indexed_by held i) scope turn lo d (j u1)) → After m c calls (indexed_by held i) scope inside (4 + lo) d (λ env. body i u env j)

    pub arrays_follow : (body : ℕ → ℕ → Env → (ℕ → Env → Go) → Go) (k : ℕ → Env → Go) (lo b : ℕ) → ArrayRound lo b body → ((u : ℕ) → After m c calls held scope behind lo b (k u))
        → (fuel i left d : ℕ) → d ≤ b → d ≤ fuel → i + left ≡ x → (u : ℕ) → After m c calls (indexed_by held i) scope test lo d (Meaning.counted fuel i left body k u)
    arrays_follow body k lo b round post zero i left d db df remains u env w v = none_asked m (omega arith)
    arrays_follow body k lo b round post (suc fuel) i zero d db df remains u env w v =
        tests false behind i lo lo d env (k u env) w v (omega arith) (none_less (pos x) i remains) refl
        (given m (λ s g. fewer m v w (during c env scope held) calls s held (kept ints (int (pos i))) g) (after_later m c calls held scope behind lo lo b d (k u) (omega arith) db (post u) env w v))
    arrays_follow body k lo b round post (suc fuel) i (suc left) d db df remains u env w v =
        tests true inside i lo (4 + lo) d env (body i u env (λ u1 env1. Meaning.turn (Meaning.counted fuel (suc i) left body k u1 env1))) w v (omega arith) (some_less (pos x) i left remains) refl
        (round i u _ d db (omega arith) (λ u1 env1 w2 v2.
        knowing m (λ s0 g0.
        let a = slice_index s0.words index_slot in let sa = index_spells i env1 w2 v2 s0 g0 in
        let next = next_index (pos x) i left a x remains sa.0 (number_is x refl) in
        turned_less m {lo1 = suc (suc (suc lo))} (omega arith)
        (stepped m {lo = suc (suc lo)} {hi = 1} {G1 = λ s. In i env1 w2 v2 s × (slice_index s.words spare_slot ≡ 1)} (Const spare_slot 1) (λ s. sets s spare_slot 1) one (λ s g. (refl, refl, spare i 1 env1 w2 v2 s g))
        (stepped m {lo = suc lo} {hi = 1} {G1 = In (suc i) env1 w2 v2} (Bin Word.Add index_slot index_slot spare_slot) (λ s. sets s index_slot next.0) add
        (λ s g. (
          (let t = index_spells i env1 w2 v2 s g.0 in
              let same : slice_index s.words index_slot ≡ a = signed_once (slice_index s.words index_slot) a t.1 sa.1 (t.0 ∙ sym sa.0) in
              ap (puts_or_panics (state_of m (turn + 1) s) index_slot) (ap (λ n. bin_of Word.Add n (slice_index s.words spare_slot)) same ∙ ap (bin_of Word.Add a) g.1 ∙ next.1.0)),
          refl,
          counted_on i (suc i) next.0 env1 w2 v2 s next.1.1 g.0,
        ))
        (stepped m {lo = lo} {hi = 0} (Jump test) (λ s. s) back (λ s g. (refl, refl, g))
        (arrays_follow body k lo b round post fuel (suc i) left (d - 1) (omega arith) (omega arith) (omega arith) u1 env1 w2 v2)))))) env w v)
