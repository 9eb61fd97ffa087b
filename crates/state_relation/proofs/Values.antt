-- Values in temps.
use Rattle.std.proofs.Common.{◌≡◌, inl, ℕ, zero, suc, ◌+◌, ◌<◌, ◌≤◌, List, [], ◌∷◌, ◌++◌, length, refl, sym, ap, ◌∙◌, subst, arith, get_or, append_assoc, append-nil, length-append}
use Rattle.std.specs.Prelude.{slice_get, slice_index}
use Rattle.typed_syntax.specs.Types.{TypeTree, ints, width}
use Rattle.typed_syntax.specs.Value.{Value, IsOf}
use Rattle.typed_syntax.specs.Words.{contents}
use Rattle.typed_syntax.specs.Syntax.{all_width}
use Rattle.typed_syntax.specs.Form.{IsPlain, AreOf}
use Rattle.frames.specs.Frames.{temps_of}
use Rattle.value_laws.proofs.Parts.{count_of}
use Rattle.meaning.specs.Trace.{World}
use Rattle.machine.specs.Machine.{words_at}
use Rattle.program_code.specs.Code.{temp, slots_of}
use Rattle.state_relation.specs.Leaves.{leaves, all_leaves}
use Rattle.state_relation.specs.Views.{View}
use Rattle.state_relation.specs.Relation.{Memory, puts, sets, Kept, Frame, hold, Stand, keeps, contents_of, nothing, StandsFor}
use Rattle.state_relation.proofs.Distances.{put_one, read_index}
use Rattle.state_relation.proofs.Leaves.{leaves_length, all_leaves_length}
use Rattle.state_relation.proofs.Words.{Holds, Spells, value_fits, all_fit, fit_length, stands_plain, plain_leaf, hold_stand}
use Rattle.state_relation.proofs.Changes.{keeps_length, keeps_joined, good_kept, good_fewer, good_stand, holds_last, held_stand as stand_of_held}
use Rattle.state_relation.proofs.Built.{Built}
use Rattle.state_relation.proofs.Rules.{Stands}

-- what temps keep of a value, and of values side by side
abbrev pub kept : TypeTree → Value → List Kept
kept t x = keeps (leaves t) (contents x)

abbrev pub all_kept : List TypeTree → List Value → List Kept
all_kept ts vs = keeps (all_leaves ts) (contents_of vs)

pub kept_length : (t : TypeTree) (x : Value) → length (kept t x) ≡ width t
kept_length t x = keeps_length (leaves t) (contents x) ∙ leaves_length t

pub all_kept_length : (ts : List TypeTree) (vs : List Value) → length (all_kept ts vs) ≡ all_width ts
all_kept_length ts vs = keeps_length (all_leaves ts) (contents_of vs) ∙ all_leaves_length ts

-- the first of values side by side
pub all_kept_first : (t : TypeTree) (ts : List TypeTree) (x : Value) (vs : List Value) → IsOf t x → all_kept (t ∷ ts) (x ∷ vs) ≡ kept t x ++ all_kept ts vs
all_kept_first t ts x vs is = keeps_joined (leaves t) (all_leaves ts) (contents x) (contents_of vs) (count_of t x is ∙ sym (leaves_length t))

leaves_joined : (ts us : List TypeTree) → all_leaves (ts ++ us) ≡ all_leaves ts ++ all_leaves us
leaves_joined [] us = refl
leaves_joined (t ∷ ts) us = ap (λ l. leaves t ++ l) (leaves_joined ts us) ∙ sym (append_assoc (leaves t) (all_leaves ts) (all_leaves us))

contents_joined : (vs us : List Value) → contents_of (vs ++ us) ≡ contents_of vs ++ contents_of us
contents_joined [] us = refl
contents_joined (v ∷ vs) us = ap (λ l. contents v ++ l) (contents_joined vs us) ∙ sym (append_assoc (contents v) (contents_of vs) (contents_of us))

pub all_kept_joined : (ts us : List TypeTree) (vs ws : List Value) → AreOf ts vs → all_kept (ts ++ us) (vs ++ ws) ≡ all_kept ts vs ++ all_kept us ws
all_kept_joined ts us vs ws are =
    ap (λ l. keeps l (contents_of (vs ++ ws))) (leaves_joined ts us) ∙ ap (λ l. keeps (all_leaves ts ++ all_leaves us) l) (contents_joined vs ws)
    ∙ keeps_joined (all_leaves ts) (all_leaves us) (contents_of vs) (contents_of ws) (fit_length (all_leaves ts) (contents_of vs) (all_fit ts vs are))

pub all_kept_one : (t : TypeTree) (x : Value) → IsOf t x → all_kept (t ∷ []) (x ∷ []) ≡ kept t x
all_kept_one t x is = all_kept_first t [] x [] is ∙ append-nil (kept t x)

-- so many more words are kept
pub one_more : (held : List Kept) (t : TypeTree) (x : Value) (h n : ℕ) → length held ≡ h → n ≡ width t → length (held ++ kept t x) ≡ h + n
one_more held t x h n e w = omega (arith, length-append held (kept t x), kept_length t x)

pub more_kept : (held : List Kept) (t : TypeTree) (ts : List TypeTree) (x : Value) (vs : List Value) → IsOf t x → held ++ all_kept (t ∷ ts) (x ∷ vs) ≡ (held ++ kept t x) ++ all_kept ts vs
more_kept held t ts x vs is = ap (λ l. held ++ l) (all_kept_first t ts x vs is) ∙ sym (append_assoc held (kept t x) (all_kept ts vs))

module _ (m : Built) where
  -- temps get a value, and values
  pub value_put : (v : View) (w : World) (c : Frame) (calls : List Frame) (s : Memory) (h : ℕ) (t : TypeTree) (x : Value) (xs : List ℕ) → length c.held ≡ h → h + width t ≤ temps_of m.program m.placement c.func → Stand m.program m.leading v.homes s.hi w (leaves t) (contents x) xs
      → Stands m v w (c ∷ calls) s → Stands m v w (hold c (c.held ++ kept t x) ∷ calls) (puts s (temp (slots_of m.program m.placement c.func) h) xs)
  value_put v w c calls s h t x xs hh room st g = good_stand m.program m.placement m.max m.leading v w c calls s h (leaves t) (contents x) xs hh (omega (arith, leaves_length t)) st g

  pub values_put : (v : View) (w : World) (c : Frame) (calls : List Frame) (s : Memory) (h : ℕ) (ts : List TypeTree) (vs : List Value) (xs : List ℕ) → length c.held ≡ h → h + all_width ts ≤ temps_of m.program m.placement c.func → Stand m.program m.leading v.homes s.hi w (all_leaves ts) (contents_of vs) xs
      → Stands m v w (c ∷ calls) s → Stands m v w (hold c (c.held ++ all_kept ts vs) ∷ calls) (puts s (temp (slots_of m.program m.placement c.func) h) xs)
  values_put v w c calls s h ts vs xs hh room st g = good_stand m.program m.placement m.max m.leading v w c calls s h (all_leaves ts) (contents_of vs) xs hh (omega (arith, all_leaves_length ts)) st g

  pub fewer : (v : View) (w : World) (c : Frame) (calls : List Frame) (s : Memory) (held more : List Kept) → Stands m v w (hold c (held ++ more) ∷ calls) s → Stands m v w (hold c held ∷ calls) s
  fewer v w c calls s held more g = good_fewer m.program m.placement m.max m.leading v w c calls s held more g

  -- no more is held
  pub held_none : (v : View) (w : World) (c : Frame) (calls : List Frame) (s : Memory) → Stands m v w (c ∷ calls) s → Stands m v w (hold c (c.held ++ []) ∷ calls) s
  held_none v w c calls s g = subst (λ l. Stands m v w (hold c l ∷ calls) s) (sym (append-nil c.held)) (held_again g)
    where
      held_again : Stands m v w (c ∷ calls) s → Stands m v w (hold c c.held ∷ calls) s
      held_again g = good_kept m.program m.placement m.max m.leading v w c calls s c.held g.homed.owned.0.room (λ i k l e. g.framed.kept _ k (inl (i, l, refl, e))) g

  -- a value that is kept, as words that are read
  pub held_stand : (v : View) (w : World) (c : Frame) (calls : List Frame) (s : Memory) (held more : List Kept) (t : TypeTree) (x : Value) (h n : ℕ) → length held ≡ h → n ≡ width t → Stands m v w (hold c (held ++ (kept t x ++ more)) ∷ calls) s
      → Stand m.program m.leading v.homes s.hi w (leaves t) (contents x) (words_at s.words (temp (slots_of m.program m.placement c.func) h) n)
  held_stand v w c calls s held more t x h n hh wide g =
      subst (λ k. Stand m.program m.leading v.homes s.hi w (leaves t) (contents x) (words_at s.words (temp (slots_of m.program m.placement c.func) h) k)) (leaves_length t ∙ sym wide)
      (stand_of_held m.program m.placement m.max m.leading v w (hold c (held ++ (kept t x ++ more))) calls s h (leaves t) (contents x) (holds_last m.program m.placement m.max m.leading c held more h (leaves t) (contents x) hh)
      (omega (arith, length-append held (kept t x ++ more), length-append (kept t x) more, kept_length t x, leaves_length t)) g)

  pub held_room : (v : View) (w : World) (c : Frame) (calls : List Frame) (s : Memory) (held more : List Kept) (t : TypeTree) (x : Value) (h n : ℕ) → length held ≡ h → n ≡ width t → Stands m v w (hold c (held ++ (kept t x ++ more)) ∷ calls) s → temp (slots_of m.program m.placement c.func) h + n ≤ length s.words
  held_room v w c calls s held more t x h n hh wide g =
      let r = g.homed.owned.0.room in let u = g.sized.used in
      omega (arith, length-append held (kept t x ++ more), length-append (kept t x) more, kept_length t x)

  -- values side by side
  pub values_stand : (v : View) (w : World) (c : Frame) (calls : List Frame) (s : Memory) (held : List Kept) (ts : List TypeTree) (vs : List Value) (h n : ℕ) → length held ≡ h → n ≡ all_width ts → Stands m v w (hold c (held ++ all_kept ts vs) ∷ calls) s
      → Stand m.program m.leading v.homes s.hi w (all_leaves ts) (contents_of vs) (words_at s.words (temp (slots_of m.program m.placement c.func) h) n)
  values_stand v w c calls s held ts vs h n hh wide g =
      subst (λ k. Stand m.program m.leading v.homes s.hi w (all_leaves ts) (contents_of vs) (words_at s.words (temp (slots_of m.program m.placement c.func) h) k)) (all_leaves_length ts ∙ sym wide)
      (stand_of_held m.program m.placement m.max m.leading v w (hold c (held ++ all_kept ts vs)) calls s h (all_leaves ts) (contents_of vs)
      (λ i l. ap (λ ks. slice_get (held ++ ks) (h + i)) (sym (append-nil (all_kept ts vs))) ∙ holds_last m.program m.placement m.max m.leading c held [] h (all_leaves ts) (contents_of vs) hh i l)
      (omega (arith, length-append held (all_kept ts vs), all_kept_length ts vs, all_leaves_length ts)) g)

  -- ---- one word

  -- a temp gets a value of one word, and is read
  pub temp_set : (v : View) (w : World) (c : Frame) (calls : List Frame) (s : Memory) (h u : ℕ) (t : TypeTree) (x : Value) → length c.held ≡ h → h < temps_of m.program m.placement c.func → IsOf t x → width t ≡ 1 → Spells x u
      → Stands m v w (c ∷ calls) s → Stands m v w (hold c (c.held ++ kept t x) ∷ calls) (sets s (temp (slots_of m.program m.placement c.func) h) u)
  temp_set v w c calls s h u t x hh room is one spells g =
      let long = g.sized.used in
      subst (λ ws. Stands m v w (hold c (c.held ++ kept t x) ∷ calls) (record s { words = ws })) (put_one s.words (temp (slots_of m.program m.placement c.func) h) u (omega arith))
      (value_put v w c calls s h t x (u ∷ []) hh (omega arith) (hold_stand m.program m.leading v.homes s.hi w (leaves t) (contents x) (u ∷ []) (value_fits t x is) (record { long = omega (arith, count_of t x is); each = λ j l. only j (omega (arith, count_of t x is)) })) g)
    where
      only : (j : ℕ) → j ≡ 0 → Holds (get_or (contents x) j nothing) (slice_index (u ∷ []) j)
      only zero e = spells
      only (suc j) e = absurd (omega arith)

  pub held_word : (v : View) (w : World) (c : Frame) (calls : List Frame) (s : Memory) (held more : List Kept) (t : TypeTree) (x : Value) (h : ℕ) → length held ≡ h → IsPlain t → Stands m v w (hold c (held ++ (kept t x ++ more)) ∷ calls) s → Spells x (slice_index s.words (temp (slots_of m.program m.placement c.func) h))
  held_word v w c calls s held more t x h hh plain g =
      let one = (plain_leaf t plain).1 in
      let st = held_stand v w c calls s held more t x h 1 hh (sym one) g in
      let e : temp (slots_of m.program m.placement c.func) h + 0 ≡ temp (slots_of m.program m.placement c.func) h = omega arith in
      stands_plain m.program m.leading v.homes s.hi w (get_or (leaves t) 0 ints) (get_or (contents x) 0 nothing) _ (plain_leaf t plain).0
      (subst (λ u. StandsFor m.program m.leading v.homes s.hi w (get_or (leaves t) 0 ints) (get_or (contents x) 0 nothing) u) (read_index s.words (temp (slots_of m.program m.placement c.func) h) 1 0 (omega arith) ∙ ap (slice_index s.words) e) (st.each 0 (omega (arith, leaves_length t))))
