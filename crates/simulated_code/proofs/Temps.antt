-- The value that is held last, words that move between slots, and the address that is held last.
use Rattle.std.proofs.Common.{◌≡◌, inl, ℕ, suc, zero, ◌+◌, ◌<◌, ◌≤◌, List, [], ◌∷◌, ◌++◌, length, Some, refl, sym, ap, ◌∙◌, subst, arith, append-nil}
use Rattle.std.specs.Prelude.{slice_get, slice_index, replicate}
use Rattle.typed_syntax.specs.Types.{TypeTree, width}
use Rattle.typed_syntax.specs.Value.{Value}
use Rattle.typed_syntax.specs.Words.{contents}
use Rattle.typed_syntax.specs.Form.{IsPlain}
use Rattle.meaning.specs.Trace.{World, Trace}
use Rattle.machine.specs.Machine.{words_at}
use Rattle.isa.specs.declared.instr.MoveEvent.{MoveEvent}
use Rattle.isa.specs.declared.instr.Instr.TheVariants.{Move}
use Rattle.program_code.specs.Code.{temp, slots_of, zeros}
use Rattle.state_relation.specs.Leaves.{leaves}
use Rattle.state_relation.specs.Views.{View}
use Rattle.state_relation.specs.Relation.{Memory, puts, sets, Kept, address, Frame, hold, Stand}
use Rattle.frames.specs.Frames.{temps_of}
use Rattle.state_relation.proofs.Lists.{append_new}
use Rattle.state_relation.proofs.Distances.{put_one}
use Rattle.state_relation.proofs.Changes.{good_free}
use Rattle.state_relation.proofs.Words.{Spells}
use Rattle.state_relation.proofs.Built.{Built}
use Rattle.state_relation.proofs.Rules.{At, Stands, stepped, zeroed_by}
use Rattle.state_relation.proofs.Values.{kept, held_stand, held_room, held_word}
use Rattle.simulated_code.proofs.Places.{held_by}

module _ (m : Built) where
  none_behind : (v : View) (w : World) (c : Frame) (calls : List Frame) (s : Memory) (held : List Kept) (t : TypeTree) (x : Value) → Stands m v w (hold c (held ++ kept t x) ∷ calls) s → Stands m v w (hold c (held ++ (kept t x ++ [])) ∷ calls) s
  none_behind v w c calls s held t x g = subst (λ l. Stands m v w (hold c (held ++ l) ∷ calls) s) (sym (append-nil (kept t x))) g

  pub last_word : (v : View) (w : World) (c : Frame) (calls : List Frame) (s : Memory) (held : List Kept) (t : TypeTree) (x : Value) (h : ℕ) → length held ≡ h → IsPlain t → Stands m v w (hold c (held ++ kept t x) ∷ calls) s → Spells x (slice_index s.words (temp (slots_of m.program m.placement c.func) h))
  last_word v w c calls s held t x h hh plain g = held_word m v w c calls s held [] t x h hh plain (none_behind v w c calls s held t x g)

  pub last_stand : (v : View) (w : World) (c : Frame) (calls : List Frame) (s : Memory) (held : List Kept) (t : TypeTree) (x : Value) (h n : ℕ) → length held ≡ h → n ≡ width t → Stands m v w (hold c (held ++ kept t x) ∷ calls) s
      → Stand m.program m.leading v.homes s.hi w (leaves t) (contents x) (words_at s.words (temp (slots_of m.program m.placement c.func) h) n)
  last_stand v w c calls s held t x h n hh wide g = held_stand m v w c calls s held [] t x h n hh wide (none_behind v w c calls s held t x g)

  pub last_room : (v : View) (w : World) (c : Frame) (calls : List Frame) (s : Memory) (held : List Kept) (t : TypeTree) (x : Value) (h n : ℕ) → length held ≡ h → n ≡ width t → Stands m v w (hold c (held ++ kept t x) ∷ calls) s → temp (slots_of m.program m.placement c.func) h + n ≤ length s.words
  last_room v w c calls s held t x h n hh wide g = held_room m v w c calls s held [] t x h n hh wide (none_behind v w c calls s held t x g)

  -- words go from slots to slots, and slots get zeros
  pub words_moved : {lo hi b : ℕ} {v : View} {t : Trace} {G G1 : Memory → Type 0} {pc : ℕ} (event : MoveEvent) (n to from : ℕ) → slice_get m.code.instrs pc ≡ Some (Move event to from n)
      → ((s : Memory) → G s → G1 (puts s to (words_at s.words from n))) → At m lo hi b v t G1 (pc + 1) → At m (suc lo) 1 b v t G pc
  words_moved {lo} {hi} {b} {pc = pc} event n to from here keeps post =
      stepped m {lo = lo} {hi = hi} {b = b} (Move event to from n) (λ s. puts s to (words_at s.words from n)) here (λ s g. (refl, refl, keeps s g)) post

  pub words_zeroed : {lo hi b : ℕ} {v : View} {t : Trace} {G G1 : Memory → Type 0} {pc : ℕ} (n to : ℕ) → slice_get m.code.instrs pc ≡ Some (zeros n to) → 0 < n
      → ((s : Memory) → G s → (to + n ≤ length s.words) × G1 (puts s to (replicate n 0))) → At m lo hi b v t G1 (pc + 1) → At m (suc lo) 1 b v t G pc
  words_zeroed {lo} {hi} {b} {pc = pc} n to here some facts post =
      stepped m {lo = lo} {hi = hi} {b = b} (zeros n to) (λ s. puts s to (replicate n 0)) here (λ s g. let f = facts s g in (zeroed_by m n to pc s some f.0, refl, f.1)) post

  -- an address is held, where there is one
  pub held_there : (far n : ℕ) (t : TypeTree) (x : ℕ) (path : List ℕ) (lacks : ℕ) (held more : List Kept) (at : ℕ) → length held ≡ at → far ≡ suc n → slice_get (held ++ (held_by m far t x path lacks ++ more)) at ≡ Some (address t x path lacks)
  held_there zero n t x path lacks held more at e f = absurd (omega (arith, f))
  held_there (suc far) n t x path lacks held more at e f =
      let z : at ≡ length held + 0 = omega arith in
      ap (slice_get (held ++ (address t x path lacks ∷ more))) z ∙ append_new held (address t x path lacks ∷ more) 0

  -- a temp that keeps nothing gets a word
  pub spare_set : (v : View) (w : World) (c : Frame) (calls : List Frame) (s : Memory) (h x : ℕ) → length c.held ≡ h → h < temps_of m.program m.placement c.func → Stands m v w (c ∷ calls) s → Stands m v w (c ∷ calls) (sets s (temp (slots_of m.program m.placement c.func) h) x)
  spare_set v w c calls s h x hh room g =
      let long = g.sized.used in
      subst (λ ws. Stands m v w (c ∷ calls) (record s { words = ws })) (put_one s.words (temp (slots_of m.program m.placement c.func) h) x (omega arith))
      (good_free m.program m.placement m.max m.leading v w c calls s (temp (slots_of m.program m.placement c.func) h) (x ∷ []) (inl (omega arith, omega arith)) g)
