-- The machine follows the printing of operands.
use Rattle.std.proofs.Common.{◌≡◌, ℕ, suc, ◌+◌, true, false, List, [], ◌∷◌, ◌++◌, length, refl, sym, ap, ◌∙◌, subst, arith, get_or}
use Rattle.std.specs.Prelude.{slice_get, slice_index, Some}
use Rattle.std.specs.Fmt.{signed_decimal}
use Rattle.typed_syntax.specs.Value.{Value, int, bool, IsOf}
use Rattle.typed_syntax.specs.Syntax.{Piece, text, shown}
use Rattle.typed_syntax.specs.Types.{TypeTree, ints, bools, struct_of, array_of, pointer_to, slice_of}
use Rattle.typed_syntax.specs.Form.{IsPlain, AreOf}
use Rattle.meaning.specs.Trace.{World, Print, Trace, Note}
use Rattle.meaning.specs.Meaning
use Rattle.meaning.specs.Meaning.{Go, shown_bytes}
use Rattle.simulation.specs.Steps.{Goes}
use Rattle.isa.specs.declared.instr.Instr.TheVariants.{PrintInt, PrintBool, PrintText, PrintSpace, PrintLine}
use Rattle.machine.specs.Machine.{Printed, truth_bytes}
use Rattle.program_code.specs.Code.{temp, slots_of, shown_code, show_more, show_line, show_plain, more_size, shown_size}
use Rattle.program_code.proofs.Wide.{AllPlain, plain_one}
use Rattle.state_relation.specs.Views.{View}
use Rattle.state_relation.specs.Relation.{Memory, Kept, Frame, hold}
use Rattle.state_relation.proofs.Words.{Spells}
use Rattle.state_relation.proofs.Built.{Built}
use Rattle.state_relation.proofs.Rules.{state_of, At, Stands, place_is, turned, printing}
use Rattle.state_relation.proofs.Values.{kept, all_kept, all_kept_first, one_more, more_kept, held_word}
use Rattle.simulated_code.proofs.Numbers.{no_struct, no_array, no_pointer, no_slice}
use Rattle.simulated_code.proofs.Standing.{Standing}

-- the types of the operands that are values
abbrev pub piece_types : List Piece → List TypeTree
piece_types [] = []
piece_types (text number ∷ ps) = piece_types ps
piece_types (shown t e ∷ ps) = t ∷ piece_types ps

-- what is printed for operands with these values
abbrev pub texts : (strings : List (List ℕ)) → List Piece → List Value → List (List ℕ)
texts strings [] vs = []
texts strings (text number ∷ ps) vs = get_or strings number [] ∷ texts strings ps vs
texts strings (shown t e ∷ ps) [] = []
texts strings (shown t e ∷ ps) (v ∷ vs) = shown_bytes v ∷ texts strings ps vs

module _ (m : Built) where
  -- an operand's value
  value_printed : {v : View} {G : Memory → Type 0} (t : TypeTree) (x : Value) (a pc lo hi b : ℕ) (rest : Trace) → IsPlain t → IsOf t x → slice_get m.code.instrs pc ≡ Some (shown_code t a) → ((u : Memory) → G u → Spells x (slice_index u.words a))
      → At m lo hi b v rest G (pc + 1) → At m (suc lo) 1 b v (Note (Print (shown_bytes x)) rest) G pc
  value_printed ints (int z) a pc lo hi b rest plain typed here stands post =
      printing m {lo = lo} {hi = hi} (PrintInt a) (signed_decimal z) here (λ u g. (ap (λ y. Goes (Printed (signed_decimal y) ∷ []) (state_of m (pc + 1) u)) (stands u g).0, g)) post
  value_printed bools (bool true) a pc lo hi b rest plain typed here stands post =
      printing m {lo = lo} {hi = hi} (PrintBool a) _ here (λ u g. (ap (λ y. Goes (Printed (truth_bytes y) ∷ []) (state_of m (pc + 1) u)) (stands u g), g)) post
  value_printed bools (bool false) a pc lo hi b rest plain typed here stands post =
      printing m {lo = lo} {hi = hi} (PrintBool a) _ here (λ u g. (ap (λ y. Goes (Printed (truth_bytes y) ∷ []) (state_of m (pc + 1) u)) (stands u g), g)) post
  value_printed ints x a pc lo hi b rest plain typed here stands post = absurd typed
  value_printed bools x a pc lo hi b rest plain typed here stands post = absurd typed
  value_printed (struct_of ts) x a pc lo hi b rest plain typed here stands post = absurd (no_struct ts plain)
  value_printed (array_of n t) x a pc lo hi b rest plain typed here stands post = absurd (no_array n t plain)
  value_printed (pointer_to n) x a pc lo hi b rest plain typed here stands post = absurd (no_pointer n plain)
  value_printed (slice_of n) x a pc lo hi b rest plain typed here stands post = absurd (no_slice n plain)

  -- one among values that are held
  held_next : (v : View) (w : World) (c : Frame) (calls : List Frame) (before all : List Kept) (t : TypeTree) (ts : List TypeTree) (x : Value) (vs : List Value) (h : ℕ) → IsPlain t → IsOf t x → length before ≡ h → all ≡ before ++ all_kept (t ∷ ts) (x ∷ vs) → (u : Memory) → Stands m v w (hold c all ∷ calls) u
      → Spells x (slice_index u.words (temp (slots_of m.program m.placement c.func) h))
  held_next v w c calls before all t ts x vs h plain typed hb e u g =
      held_word m v w c calls u before (all_kept ts vs) t x h hb plain (subst (λ l. Stands m v w (hold c l ∷ calls) u) (e ∙ ap (λ l. before ++ l) (all_kept_first t ts x vs typed)) g)

  -- the strings are those of the program
  module _ (strings : List (List ℕ)) (same : strings ≡ m.program.strings) where
    text_printed : {v : View} {G : Memory → Type 0} (number pc lo hi b : ℕ) (rest : Trace) → slice_get m.code.instrs pc ≡ Some (PrintText number) → At m lo hi b v rest G (pc + 1) → At m (suc lo) 1 b v (Note (Print (get_or strings number [])) rest) G pc
    text_printed number pc lo hi b rest here post =
        printing m {lo = lo} {hi = hi} (PrintText number) (get_or strings number []) here (λ u g. (ap (λ ss. Goes (Printed (get_or ss number []) ∷ []) (state_of m (pc + 1) u)) (m.strings ∙ sym same), g)) post

    more_follows : (ps : List Piece) (vs : List Value) (before all : List Kept) (g : Go) (c : Frame) (calls : List Frame) (v : View) (w : World) (h pc lo b : ℕ) → AllPlain (piece_types ps) → AreOf (piece_types ps) vs → length before ≡ h → all ≡ before ++ all_kept (piece_types ps) vs → Standing m.code c.fn pc (show_more (slots_of m.program m.placement c.func) ps h)
        → At m lo 0 b v (g w) (Stands m v w (hold c all ∷ calls)) (pc + more_size ps) → At m lo 0 b v (Meaning.emit_more (texts strings ps vs) g w) (Stands m v w (hold c all ∷ calls)) pc
    more_follows [] vs before all g c calls v w h pc lo b plain are hb e has post =
        turned m {lo1 = suc lo} (omega arith) (printing m {lo = lo} {hi = 0} PrintLine (10 ∷ []) has.0.0 (λ u k. (refl, k)) post)
    more_follows (text number ∷ ps) vs before all g c calls v w h pc lo b plain are hb e has post =
        let q : pc + suc (suc (more_size ps)) ≡ pc + 1 + 1 + more_size ps = omega arith in
        turned m {lo1 = suc (suc lo)} (omega arith) (printing m {lo = suc lo} {hi = 1} PrintSpace (32 ∷ []) has.0.0 (λ u k. (refl, k))
        (text_printed number (pc + 1) lo 0 b _ has.1.0.0
        (more_follows ps vs before all g c calls v w h (pc + 1 + 1) lo b plain are hb e has.1.1 (place_is m q post))))
    more_follows (shown t x ∷ ps) [] before all g c calls v w h pc lo b plain are hb e has post = absurd are
    more_follows (shown t x ∷ ps) (y ∷ vs) before all g c calls v w h pc lo b plain are hb e has post =
        let q : pc + suc (suc (more_size ps)) ≡ pc + 1 + 1 + more_size ps = omega arith in
        turned m {lo1 = suc (suc lo)} (omega arith) (printing m {lo = suc lo} {hi = 1} PrintSpace (32 ∷ []) has.0.0 (λ u k. (refl, k))
        (value_printed t y (temp (slots_of m.program m.placement c.func) h) (pc + 1) lo 0 b _ plain.0 are.0 has.1.0.0 (held_next v w c calls before all t (piece_types ps) y vs h plain.0 are.0 hb e)
        (more_follows ps vs (before ++ kept t y) all g c calls v w (h + 1) (pc + 1 + 1) lo b plain.1 are.1 (one_more before t y h 1 hb (sym (plain_one t plain.0))) (e ∙ more_kept before t (piece_types ps) y vs are.0) has.1.1 (place_is m q post))))

    -- a line
    pub line_follows : (ps : List Piece) (vs : List Value) (before all : List Kept) (g : Go) (c : Frame) (calls : List Frame) (v : View) (w : World) (h pc lo b : ℕ) → AllPlain (piece_types ps) → AreOf (piece_types ps) vs → length before ≡ h → all ≡ before ++ all_kept (piece_types ps) vs → Standing m.code c.fn pc (show_line (slots_of m.program m.placement c.func) ps h)
        → At m lo 0 b v (g w) (Stands m v w (hold c all ∷ calls)) (pc + shown_size true ps) → At m lo 0 b v (Meaning.emit_line (texts strings ps vs) g w) (Stands m v w (hold c all ∷ calls)) pc
    line_follows [] vs before all g c calls v w h pc lo b plain are hb e has post =
        turned m {lo1 = suc lo} (omega arith) (printing m {lo = lo} {hi = 0} PrintLine (10 ∷ []) has.0.0 (λ u k. (refl, k)) post)
    line_follows (text number ∷ ps) vs before all g c calls v w h pc lo b plain are hb e has post =
        let q : pc + suc (more_size ps) ≡ pc + 1 + more_size ps = omega arith in
        turned m {lo1 = suc lo} (omega arith) (text_printed number pc lo 0 b _ has.0.0
        (more_follows ps vs before all g c calls v w h (pc + 1) lo b plain are hb e has.1 (place_is m q post)))
    line_follows (shown t x ∷ ps) [] before all g c calls v w h pc lo b plain are hb e has post = absurd are
    line_follows (shown t x ∷ ps) (y ∷ vs) before all g c calls v w h pc lo b plain are hb e has post =
        let q : pc + suc (more_size ps) ≡ pc + 1 + more_size ps = omega arith in
        turned m {lo1 = suc lo} (omega arith) (value_printed t y (temp (slots_of m.program m.placement c.func) h) pc lo 0 b _ plain.0 are.0 has.0.0 (held_next v w c calls before all t (piece_types ps) y vs h plain.0 are.0 hb e)
        (more_follows ps vs (before ++ kept t y) all g c calls v w (h + 1) (pc + 1) lo b plain.1 are.1 (one_more before t y h 1 hb (sym (plain_one t plain.0))) (e ∙ more_kept before t (piece_types ps) y vs are.0) has.1 (place_is m q post)))

    -- without spaces and a newline
    pub plain_follows : (ps : List Piece) (vs : List Value) (before all : List Kept) (g : Go) (c : Frame) (calls : List Frame) (v : View) (w : World) (h pc lo b : ℕ) → AllPlain (piece_types ps) → AreOf (piece_types ps) vs → length before ≡ h → all ≡ before ++ all_kept (piece_types ps) vs → Standing m.code c.fn pc (show_plain (slots_of m.program m.placement c.func) ps h)
        → At m lo 0 b v (g w) (Stands m v w (hold c all ∷ calls)) (pc + shown_size false ps) → At m lo 0 b v (Meaning.emit_plain (texts strings ps vs) g w) (Stands m v w (hold c all ∷ calls)) pc
    plain_follows [] vs before all g c calls v w h pc lo b plain are hb e has post = place_is m (let q : pc + 0 ≡ pc = omega arith in q) post
    plain_follows (text number ∷ ps) vs before all g c calls v w h pc lo b plain are hb e has post =
        let q : pc + suc (length ps) ≡ pc + 1 + length ps = omega arith in
        turned m {lo1 = suc lo} (omega arith) (text_printed number pc lo 0 b _ has.0.0
        (plain_follows ps vs before all g c calls v w h (pc + 1) lo b plain are hb e has.1 (place_is m q post)))
    plain_follows (shown t x ∷ ps) [] before all g c calls v w h pc lo b plain are hb e has post = absurd are
    plain_follows (shown t x ∷ ps) (y ∷ vs) before all g c calls v w h pc lo b plain are hb e has post =
        let q : pc + suc (length ps) ≡ pc + 1 + length ps = omega arith in
        turned m {lo1 = suc lo} (omega arith) (value_printed t y (temp (slots_of m.program m.placement c.func) h) pc lo 0 b _ plain.0 are.0 has.0.0 (held_next v w c calls before all t (piece_types ps) y vs h plain.0 are.0 hb e)
        (plain_follows ps vs (before ++ kept t y) all g c calls v w (h + 1) (pc + 1) lo b plain.1 are.1 (one_more before t y h 1 hb (sym (plain_one t plain.0))) (e ∙ more_kept before t (piece_types ps) y vs are.0) has.1 (place_is m q post)))
