-- What ends the evaluation of slices: literals, `make`, and slicings.
use Rattle.std.proofs.Common.{◌≡◌, inl, inr, ℕ, zero, suc, ◌+◌, ◌-◌, ◌*◌, ◌<◌, ◌≤◌, ℤ, pos, true, List, [], ◌∷◌, ◌++◌, length, Some, refl, sym, ap, ◌∙◌, subst, arith, append_assoc, append-nil, length-append}
use Rattle.std.specs.Prelude.{slice_get, slice_index, replicate}
use Rattle.std.specs.Int.{w64, cast_signed}
use Rattle.std.proofs.lemmas.Int.{to_z_pos}
use Rattle.std.proofs.lemmas.List.{length-replicate}
use Rattle.typed_syntax.specs.Positions.{Position}
use Rattle.typed_syntax.specs.Types.{TypeTree, ints, slice_of, width}
use Rattle.typed_syntax.specs.Value.{Value, int, slice_in, IsOf}
use Rattle.typed_syntax.specs.Words.{number}
use Rattle.typed_syntax.specs.Syntax.{Exs, none, more, results, read_int, Bound, absent, bound, Program, type_named, all_wide, value_widths}
use Rattle.typed_syntax.specs.Form.{AreOf, ExsFit, AllFit}
use Rattle.frames.specs.Frames.{outgoing_of, temps_of}
use Rattle.meaning.specs.Trace.{World, Trace, Born, Note}
use Rattle.meaning.specs.Operators.{slice_count, slice_part, sizes_of}
use Rattle.meaning.specs.Meaning
use Rattle.meaning.specs.Meaning.{Env, Then, Ways, Setting}
use Rattle.isa.specs.declared.instr.MoveEvent.TheVariants.{Silent}
use Rattle.isa.specs.declared.instr.StoreEvent.TheVariants as Stored
use Rattle.isa.specs.declared.instr.Instr.TheVariants.{Const, Move, Alloc, Store, Make, Slice}
use Rattle.program_code.specs.Code.{temp, slots_of, site_words, sliced_code, room_code, high_code, cut_code, move_size}
use Rattle.program_code.proofs.Wide.{all_wide_is}
use Rattle.state_relation.specs.Views.{View, after_apart}
use Rattle.state_relation.specs.Relation.{Memory, sets, Kept, word, spent, Frame, hold, word_at, StandsKept, depth}
use Rattle.state_relation.proofs.Lists.{some_same, none_some, append_cases}
use Rattle.state_relation.proofs.Changes.{good_kept}
use Rattle.state_relation.proofs.Built.{Built}
use Rattle.state_relation.proofs.Rules.{At, Stands, later, place_is, stepped, moved_one}
use Rattle.state_relation.proofs.Values.{kept, all_kept, kept_length, held_word, temp_set}
use Rattle.state_relation.proofs.Slices.{pos_word}
use Rattle.state_relation.proofs.SliceSteps.{header_held, parts_follow}
use Rattle.state_relation.proofs.SliceBirths.{good_replaced, made_follows}
use Rattle.state_relation.proofs.SliceLiterals as Literals
use Rattle.state_relation.proofs.SliceLiterals.{alike_wide, literal_follows, empty_literal_follows}
use Rattle.simulated_code.proofs.Standing.{Standing, Panics}

-- ---- elements of one type, each an expression

abbrev pub count_of : Exs → ℕ
count_of none = 0
count_of (more e es) = suc (count_of es)
count_of (results f es) = 0
count_of read_int = 0

pub all_fit_side : (p : Program) (scope : List ℕ) (t : TypeTree) (es : Exs) → AllFit p scope t es → ExsFit p scope (replicate (count_of es) t) es
all_fit_side p scope t none fit = tt
all_fit_side p scope t (more e es) fit = (fit.0, all_fit_side p scope t es fit.1)
all_fit_side p scope t (results f es) fit = absurd fit
all_fit_side p scope t read_int fit = absurd fit

pub widths_count : (p : Program) (scope : List ℕ) (t : TypeTree) (es : Exs) → AllFit p scope t es → length (value_widths p es) ≡ count_of es
widths_count p scope t none fit = refl
widths_count p scope t (more e es) fit = ap suc (widths_count p scope t es fit.1)
widths_count p scope t (results f es) fit = absurd fit
widths_count p scope t read_int fit = absurd fit

pub all_wide_alike : (p : Program) (scope : List ℕ) (t : TypeTree) (es : Exs) → AllFit p scope t es → all_wide p es ≡ count_of es * width t
all_wide_alike p scope t es fit = all_wide_is p scope (replicate (count_of es) t) es (all_fit_side p scope t es fit) ∙ alike_wide (count_of es) t

pub alike_count : (k : ℕ) (t : TypeTree) (vs : List Value) → AreOf (replicate k t) vs → length vs ≡ k
alike_count zero t [] are = refl
alike_count zero t (v ∷ vs) are = absurd are
alike_count (suc k) t [] are = absurd are
alike_count (suc k) t (v ∷ vs) are = ap suc (alike_count k t vs are.1)

-- ---- bounds

-- what is held of a bound that is there; without a low one, others may stand above its temp
abbrev pub low_held : Bound → ℤ → Kept
low_held absent l = spent
low_held (bound e) l = word ints (number l)

abbrev pub bound_held : Bound → ℤ → List Kept
bound_held absent z = []
bound_held (bound e) z = kept ints (int z)

-- without a bound it is another number
abbrev pub IsDefault : Bound → (other z : ℤ) → Type 0
IsDefault absent other z = z ≡ other
IsDefault (bound e) other z = Unit {0}

pub int_is : (x : Value) → IsOf ints x → x ≡ int (Meaning.int_of x)
int_is (int z) is = refl
int_is x is = absurd is

module _ (m : Built) where
  -- temps that keep nothing
  only_spent : (k i : ℕ) (q : Kept) → slice_get (replicate k spent) i ≡ Some q → spent ≡ q
  only_spent zero i q e = absurd (none_some e)
  only_spent (suc k) zero q e = some_same e
  only_spent (suc k) (suc i) q e = only_spent k i q e

  pub with_spent : (k : ℕ) (v : View) (w : World) (c : Frame) (calls : List Frame) (s : Memory) → length c.held + k ≤ temps_of m.program m.placement c.func → Stands m v w (c ∷ calls) s → Stands m v w (hold c (c.held ++ replicate k spent) ∷ calls) s
  with_spent k v w c calls s room g =
      good_kept m.program m.placement m.max m.leading v w c calls s (c.held ++ replicate k spent) (omega (arith, room, length-append c.held (replicate k spent), length-replicate {A = Kept} k spent)) now g
    where
      now : (i : ℕ) (q : Kept) → i < temps_of m.program m.placement c.func → slice_get (c.held ++ replicate k spent) i ≡ Some q → StandsKept m.program m.leading v.homes s.hi w q (word_at s.words (depth m.program m.placement (c ∷ calls) - (outgoing_of m.program c.func + i)))
      now i q lt e = elim (append_cases c.held (replicate k spent) q i e) [
        | inl old ↦ g.framed.kept (depth m.program m.placement (c ∷ calls) - (outgoing_of m.program c.func + i)) q (inl (i, lt, refl, old))
        | inr (j, at, new) ↦ subst (λ a. StandsKept m.program m.leading v.homes s.hi w a (word_at s.words (depth m.program m.placement (c ∷ calls) - (outgoing_of m.program c.func + i)))) (only_spent k j q new) tt
      ]

  -- also where a low bound is not there
  pub low_kept : (low : Bound) (l : ℤ) (v : View) (w : World) (c : Frame) (calls : List Frame) (s : Memory) (held : List Kept) → length held + 1 ≤ temps_of m.program m.placement c.func → Stands m v w (hold c (held ++ bound_held low l) ∷ calls) s → Stands m v w (hold c (held ++ low_held low l ∷ []) ∷ calls) s
  low_kept (bound e) l v w c calls s held room g = g
  low_kept absent l v w c calls s held room g = with_spent 1 v w (hold c held) calls s room (subst (λ k. Stands m v w (hold c k ∷ calls) s) (append-nil held) g)

module _ (m : Built) (c : Frame) (calls : List Frame) (n : ℕ) (held : List Kept) (h : ℕ) (hh : length held ≡ h) where
  abbrev t : TypeTree
  t = type_named m.program n

  abbrev slot : ℕ → ℕ
  slot i = temp (slots_of m.program m.placement c.func) i

  -- ---- a literal

  pub literal_ends : {lo b : ℕ} {rest : Trace} (k words pc site entry : ℕ) (vs : List Value) (v : View) (w : World) → (boxed : m.placement.on_heap site ≡ true) (some : 0 < width t) (are : AreOf (replicate k t) vs) → words ≡ k * width t → Standing m.code c.fn pc (sliced_code (slots_of m.program m.placement c.func) site k words h)
      → At m lo 0 b (after_apart v (k * width t)) rest (Stands m (after_apart v (k * width t)) (Literals.w1 m c calls n k vs held spent spent spent h pc site entry v w hh boxed some are) (hold c (held ++ kept (slice_of n) (Literals.slice m c calls n k vs held spent spent spent h pc site entry v w hh boxed some are)) ∷ calls)) (pc + (3 + move_size words))
      → At m (suc (suc (suc (suc lo)))) 1 b v (Note (Born site (k * width t)) rest) (Stands m v w (hold c (held ++ (spent ∷ (spent ∷ (spent ∷ all_kept (replicate k t) vs)))) ∷ calls)) pc
  literal_ends {lo} {b} {rest} k zero pc site entry vs v w boxed some are e has post =
      later m {lo = suc (suc (suc lo))} {hi = 1} {b = b} (omega arith) (omega arith) (omega arith)
      (empty_literal_follows m c calls n k vs held spent spent spent h pc site entry v w hh boxed some are {lo = lo} {b = b} rest (pc + 3) post (sym e) (omega arith)
      (subst (λ q. slice_get m.code.instrs pc ≡ Some (Alloc (slot h) q site)) e has.0.0) has.1.0.0 has.1.1.0.0)
  literal_ends {lo} {b} {rest} k (suc words) pc site entry vs v w boxed some are e has post =
      literal_follows m c calls n k vs held spent spent spent h pc site entry v w hh boxed some are {lo = lo} {b = b} rest (pc + 4) post (omega arith)
      (subst (λ q. slice_get m.code.instrs pc ≡ Some (Alloc (slot h) q site)) e has.0.0) (subst (λ q. slice_get m.code.instrs (pc + 1) ≡ Some (Store Stored.Silent (slot h) 0 (slot (h + 3)) q)) e has.1.0.0) has.1.1.0.0 has.1.1.1.0.0

  -- ---- the bounds of a slicing

  module _ (sv : Value) (v : View) (w : World) (l z : ℤ) (is : IsOf (slice_of n) sv) (room : h + 5 ≤ temps_of m.program m.placement c.func) (ws : Ways) (env : Env) (p : Position) (k : Then Value) (stops : Panics ws) where
    abbrev Cut : (lo b pc : ℕ) → List Kept → Type 0
    Cut lo b pc above = At m lo 1 b v (Meaning.or_panic ws env p (slice_part sv l z) k w) (Stands m v w (hold c (held ++ (kept (slice_of n) sv ++ above)) ∷ calls)) pc

    abbrev Goes : (lo b pc : ℕ) → Type 0
    Goes lo b pc = (r : Value) → IsOf (slice_of n) r → At m lo 0 b v (k r w) (Stands m v w (hold c (held ++ kept (slice_of n) r) ∷ calls)) pc

    -- the header above
    above_slice : (above : List Kept) {s : Memory} → Stands m v w (hold c (held ++ (kept (slice_of n) sv ++ above)) ∷ calls) s → Stands m v w (hold c ((held ++ kept (slice_of n) sv) ++ above) ∷ calls) s
    above_slice above {s} g = subst (λ q. Stands m v w (hold c q ∷ calls) s) (sym (append_assoc held (kept (slice_of n) sv) above)) g

    slice_below : (above : List Kept) {s : Memory} → Stands m v w (hold c ((held ++ kept (slice_of n) sv) ++ above) ∷ calls) s → Stands m v w (hold c (held ++ (kept (slice_of n) sv ++ above)) ∷ calls) s
    slice_below above {s} g = subst (λ q. Stands m v w (hold c q ∷ calls) s) (append_assoc held (kept (slice_of n) sv) above) g

    wide : length (held ++ kept (slice_of n) sv) ≡ h + 3
    wide = omega (arith, length-append held (kept (slice_of n) sv), kept_length (slice_of n) sv, hh)

    high_put : (high : Bound) (lo b pc : ℕ) → IsDefault high (pos (slice_count sv)) z → Standing m.code c.fn pc (high_code (slots_of m.program m.placement c.func) high h ++ Slice (slot h) (slot h) (slot (h + 3)) (width t) ∷ [])
        → Goes lo b (pc + length (high_code (slots_of m.program m.placement c.func) high h) + 1) → Cut (suc (suc lo)) b pc (word ints (number l) ∷ bound_held high z)
    high_put (bound e) lo b pc is_high has post =
        later m {lo = suc lo} {hi = 1} {b = b} (omega arith) (omega arith) (omega arith)
        (parts_follow m c calls n sv held h pc lo b v w l z is hh (omega arith) has.0.0 ws env p k stops (λ r ir. place_is m (let q : pc + 0 + 1 ≡ pc + 1 = omega arith in q) (post r ir)))
    high_put absent lo b pc is_high has post =
        stepped m {lo = suc lo} {hi = 1} {G1 = Stands m v w (hold c (held ++ (kept (slice_of n) sv ++ (word ints (number l) ∷ kept ints (int z)))) ∷ calls)} (Move Silent (slot (h + 4)) (slot (h + 1)) 1) (λ s. sets s (slot (h + 4)) (slice_index s.words (slot (h + 1)))) has.0.0
        (λ s g.
        let head = header_held m c calls v w s held (word ints (number l) ∷ []) n sv h hh is g in let at : slot h + 1 ≡ slot (h + 1) = omega arith in
        let count = subst (λ q. cast_signed w64 (slice_index s.words q) ≡ pos (slice_count sv)) at head.count in let small = pos_word (slice_index s.words (slot (h + 1))) (slice_count sv) count in let same = small.0 in let top = small.1 in
        let front_held = (held ++ kept (slice_of n) sv) ++ kept ints (int l) in let long = g.sized.used in (
          moved_one m Silent (slot (h + 4)) (slot (h + 1)) pc s (omega arith) (omega arith),
          refl,
          slice_below (word ints (number l) ∷ kept ints (int z)) (subst (λ q. Stands m v w (hold c q ∷ calls) (sets s (slot (h + 4)) (slice_index s.words (slot (h + 1))))) (append_assoc (held ++ kept (slice_of n) sv) (kept ints (int l)) (kept ints (int z)))
              (temp_set m v w (hold c front_held) calls s (h + 4) (slice_index s.words (slot (h + 1))) ints (int z) (omega (arith, wide, length-append (held ++ kept (slice_of n) sv) (kept ints (int l)), kept_length ints (int l))) (omega arith) tt refl
              (count ∙ sym is_high, omega (arith, same, top)) (above_slice (word ints (number l) ∷ []) g))),
        ))
        (parts_follow m c calls n sv held h (pc + 1) lo b v w l z is hh (omega arith) has.1.0.0 ws env p k stops post)

    -- what stands in the place of bounds that are not there, and the slicing
    pub cut_ends : (low high : Bound) (lo b pc : ℕ) → IsDefault low (pos 0) l → IsDefault high (pos (slice_count sv)) z → Standing m.code c.fn pc (cut_code (slots_of m.program m.placement c.func) low high (width t) h) → Goes lo b (pc + length (cut_code (slots_of m.program m.placement c.func) low high (width t) h)) → Cut (suc (suc (suc lo))) b pc (low_held low l ∷ bound_held high z)
    cut_ends (bound e) high lo b pc is_low is_high has post =
        let code = high_code (slots_of m.program m.placement c.func) high h in let i = Slice (slot h) (slot h) (slot (h + 3)) (width t) in let one : length (i ∷ []) ≡ 1 = refl in
        later m {lo = suc (suc lo)} {hi = 1} {b = b} (omega arith) (omega arith) (omega arith)
        (high_put high lo b pc is_high has (λ r ir. place_is m (let q : pc + length (code ++ i ∷ []) ≡ pc + length code + 1 = omega (arith, one, length-append code (i ∷ [])) in q) (post r ir)))
    cut_ends absent high lo b pc is_low is_high has post =
        let code = high_code (slots_of m.program m.placement c.func) high h in let i = Slice (slot h) (slot h) (slot (h + 3)) (width t) in let one : length (i ∷ []) ≡ 1 = refl in
        let first : length (Const (slot (h + 3)) 0 ∷ (code ++ i ∷ [])) ≡ suc (length (code ++ i ∷ [])) = refl in
        stepped m {lo = suc (suc lo)} {hi = 1} {G1 = Stands m v w (hold c (held ++ (kept (slice_of n) sv ++ (word ints (number l) ∷ bound_held high z))) ∷ calls)} (Const (slot (h + 3)) 0) (λ s. sets s (slot (h + 3)) 0) has.0.0
        (λ s g. (
          refl,
          refl,
          slice_below (word ints (number l) ∷ bound_held high z)
              (good_replaced m c calls v w s (held ++ kept (slice_of n) sv) (bound_held high z) spent (word ints (number l)) (h + 3) 0 wide (to_z_pos w64 0 (omega arith) ∙ sym is_low, omega arith) (above_slice (spent ∷ bound_held high z) g)),
        ))
        (high_put high lo b (pc + 1) is_high has.1 (λ r ir. place_is m (let q : pc + length (Const (slot (h + 3)) 0 ∷ (code ++ i ∷ [])) ≡ pc + 1 + length code + 1 = omega (arith, one, first, length-append code (i ∷ [])) in q) (post r ir)))

  -- ---- `make`

  module _ (v : View) (w : World) (l z : ℤ) (site entry : ℕ) (boxed : m.placement.on_heap site ≡ true) (words_are : site_words (slots_of m.program m.placement c.func) site ≡ width t) (room : h + 3 ≤ temps_of m.program m.placement c.func) (ws : Ways) (env : Env) (p : Position) (around : Setting) (sites : Meaning.site_type around site ≡ t)
      (k : Then Value) (stops : Panics ws) where
    abbrev Made : (lo b pc : ℕ) → List Kept → Type 0
    Made lo b pc above = At m lo 1 b v (Meaning.or_panic ws env p (sizes_of l z) (λ o. Meaning.bear_zero_array around entry site o.room (λ x. k (slice_in x [] 0 o.count o.room))) w) (Stands m v w (hold c (held ++ (spent ∷ (kept ints (int l) ++ above))) ∷ calls)) pc

    pub make_ends : (capacity : Bound) (lo b pc : ℕ) → IsDefault capacity l z → Standing m.code c.fn pc (room_code (slots_of m.program m.placement c.func) capacity h ++ Make (slot h) (site_words (slots_of m.program m.placement c.func) site) site ∷ [])
        → ((r : Value) (v1 : View) (w1 : World) → IsOf (slice_of n) r → At m lo 0 b v1 (k r w1) (Stands m v1 w1 (hold c (held ++ kept (slice_of n) r) ∷ calls)) (pc + length (room_code (slots_of m.program m.placement c.func) capacity h) + 1))
        → Made (suc (suc lo)) b pc (bound_held capacity z)
    make_ends (bound e) lo b pc is_room has post =
        later m {lo = suc lo} {hi = 1} {b = b} (omega arith) (omega arith) (omega arith)
        (made_follows m c calls n held spent h pc lo b site entry v w l z hh boxed (subst (λ q. slice_get m.code.instrs pc ≡ Some (Make (slot h) q site)) words_are has.0.0) ws env p around sites k stops
        (λ x count room v1 w1 le. place_is m (let q : pc + 0 + 1 ≡ pc + 1 = omega arith in q) (post (slice_in x [] 0 count room) v1 w1 le)))
    make_ends absent lo b pc is_room has post =
        stepped m {lo = suc lo} {hi = 1} {G1 = Stands m v w (hold c (held ++ (spent ∷ (kept ints (int l) ++ kept ints (int z)))) ∷ calls)} (Move Silent (slot (h + 2)) (slot (h + 1)) 1) (λ s. sets s (slot (h + 2)) (slice_index s.words (slot (h + 1)))) has.0.0
        (λ s g.
        let front_held = held ++ spent ∷ [] in let long = g.sized.used in let number_wide : length front_held ≡ h + 1 = omega (arith, length-append held (spent ∷ [])) in
        let g1 = subst (λ q. Stands m v w (hold c q ∷ calls) s) (sym (append_assoc held (spent ∷ []) (kept ints (int l) ++ []))) g in
        let spells = held_word m v w c calls s front_held [] ints (int l) (h + 1) number_wide (inl refl) g1 in (
          moved_one m Silent (slot (h + 2)) (slot (h + 1)) pc s (omega arith) (omega arith),
          refl,
          subst (λ q. Stands m v w (hold c q ∷ calls) (sets s (slot (h + 2)) (slice_index s.words (slot (h + 1))))) (append_assoc held (spent ∷ kept ints (int l)) (kept ints (int z)))
              (temp_set m v w (hold c (held ++ (spent ∷ kept ints (int l)))) calls s (h + 2) (slice_index s.words (slot (h + 1))) ints (int z) (omega (arith, length-append held (spent ∷ kept ints (int l)))) (omega arith) tt refl
              (spells.0 ∙ sym is_room, spells.1) g),
        ))
        (made_follows m c calls n held spent h (pc + 1) lo b site entry v w l z hh boxed (subst (λ q. slice_get m.code.instrs (pc + 1) ≡ Some (Make (slot h) q site)) words_are has.1.0.0) ws env p around sites k stops
        (λ x count room v1 w1 le. post (slice_in x [] 0 count room) v1 w1 le))
