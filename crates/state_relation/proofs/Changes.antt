-- What temps keep, and the words of variables' parts.
use Rattle.std.proofs.Common.{◌≡◌, ◌≢◌, ◌⊎◌, inl, inr, ℕ, zero, suc, ◌+◌, ◌-◌, ◌<◌, ◌≤◌, Bool, true, false, List, [], ◌∷◌, ◌++◌, length, Option, Some, None, refl, sym, ap, ◌∙◌, subst, arith, get_or, length-append}
use Rattle.std.specs.Prelude.{slice_get, slice_index, if◌then◌else◌}
use Rattle.std.proofs.lemmas.Option.{slice_get_within}
use Rattle.std.proofs.lemmas.Bool.{eq-eqb}
use Rattle.std.proofs.lemmas.Bool.Decides.{eqb_tells}
use Rattle.typed_syntax.specs.Types.{TypeTree, ints, width}
use Rattle.typed_syntax.specs.Paths.{at_path, Leads, offset}
use Rattle.typed_syntax.specs.Words.{Content, contents}
use Rattle.typed_syntax.specs.Syntax.{Program}
use Rattle.typed_syntax.specs.Form.{InScope}
use Rattle.frames.specs.Placement.{Placement}
use Rattle.frames.specs.Frames.{outgoing_of, temps_of}
use Rattle.value_laws.proofs.Parts.{at_is, within, part_words}
use Rattle.meaning.specs.Trace.{World, Cell}
use Rattle.meaning.specs.Meaning.{Env, with_home}
use Rattle.machine.specs.Machine.{put_words, words_at}
use Rattle.program_code.specs.Code.{temp, slots_of}
use Rattle.state_relation.specs.Leaves.{leaves, leaf}
use Rattle.state_relation.specs.Views.{Place, on_stack, on_heap, View, not_at, born_at, born_apart}
use Rattle.state_relation.specs.Relation.{Memory, puts, sets, Kept, word, spent, Frame, hold, placed, with_sites, numbers, behind, word_at, word_in, part_place, nothing, Leading, StandsFor, StandsKept, Stand, keeps, depth, SiteAt, NamedAt, HeldAt, BackAt, LinkAt, AllOwn, Begun, Good}
use Rattle.state_relation.proofs.Lists.{some_same, none_some, append_cases, append_old, append_new}
use Rattle.state_relation.proofs.Distances.{put_one, word_slot, put_length, put_other, put_same, read_length, read_index}
use Rattle.state_relation.proofs.Leaves.{leaves_length, part_leaf}
use Rattle.state_relation.proofs.Relation.{Needed, site_within, needed_within, other_needed, site_needed, Later, same_later, stands_later, framed_later}

-- ---- places

pub stack_same : (a b : ℕ) → on_stack a ≡ on_stack b → a ≡ b
stack_same a b e = cc

pub heap_same : (a b : ℕ) → on_heap a ≡ on_heap b → a ≡ b
heap_same a b e = cc

pub stack_heap : (a b : ℕ) → on_stack a ≡ on_heap b → ⊥
stack_heap a b e = cc

pub not_at_some : (d : ℕ) (o : Option Place) (q : Place) → not_at d o ≡ Some q → (o ≡ Some q) × (q ≡ on_stack d → ⊥)
not_at_some d None q e = absurd (none_some e)
not_at_some d (Some (on_heap h)) q e = (e, λ r. stack_heap d h (sym (some_same e ∙ r)))
not_at_some d (Some (on_stack n)) q e =
    elim (eqb_tells n d) [
      | inl h ↦ absurd (none_some (sym (ap (λ b. if b then None else Some (on_stack n)) h.0) ∙ e))
      | inr h ↦
          let a : Some (on_stack n) ≡ Some q = sym (ap (λ b. if b then None else Some (on_stack n)) h.0) ∙ e in
          (a, λ r. h.1 (stack_same n d (some_same a ∙ r)))
    ]

pub not_at_other : (d n : ℕ) (o : Option Place) → o ≡ Some (on_stack n) → n ≢ d → not_at d o ≡ Some (on_stack n)
not_at_other d n o e ne = ap (not_at d) e ∙ elim (eqb_tells n d) [ inl h ↦ absurd (ne h.1) | inr h ↦ ap (λ b. if b then None else Some (on_stack n)) h.0 ]

pub not_at_heap : (d h : ℕ) (o : Option Place) → o ≡ Some (on_heap h) → not_at d o ≡ Some (on_heap h)
not_at_heap d h o e = ap (not_at d) e

pub born_new : (homes : ℕ → Option Place) (n d : ℕ) → born_at homes n d n ≡ Some (on_stack d)
born_new homes n d = ap (λ b. if b then Some (on_stack d) else not_at d (homes n)) (eq-eqb n n refl)

pub born_old : (homes : ℕ → Option Place) (n d x : ℕ) → x ≢ n → born_at homes n d x ≡ not_at d (homes x)
born_old homes n d x ne = elim (eqb_tells x n) [ inl h ↦ absurd (ne h.1) | inr h ↦ ap (λ b. if b then Some (on_stack d) else not_at d (homes x)) h.0 ]

pub apart_new : (homes : ℕ → Option Place) (n h : ℕ) → born_apart homes n h n ≡ Some (on_heap h)
apart_new homes n h = ap (λ b. if b then Some (on_heap h) else homes n) (eq-eqb n n refl)

pub apart_old : (homes : ℕ → Option Place) (n h x : ℕ) → x ≢ n → born_apart homes n h x ≡ homes x
apart_old homes n h x ne = elim (eqb_tells x n) [ inl e ↦ absurd (ne e.1) | inr e ↦ ap (λ b. if b then Some (on_heap h) else homes x) e.0 ]

pub home_same : (env : Env) (site x : ℕ) → with_home env site x site ≡ x
home_same env site x = ap (λ b. if b then x else env site) (eq-eqb site site refl)

pub home_other : (env : Env) (site x z : ℕ) → z ≢ site → with_home env site x z ≡ env z
home_other env site x z ne = elim (eqb_tells z site) [ inl h ↦ absurd (ne h.1) | inr h ↦ ap (λ b. if b then x else env z) h.0 ]

-- ---- words

pub stands_same : (p : Program) (led : Leading) (homes : ℕ → Option Place) (hi : ℕ) (w : World) (t t1 : TypeTree) (c c1 : Content) (u u1 : ℕ) → t ≡ t1 → c ≡ c1 → u ≡ u1 → StandsFor p led homes hi w t c u → StandsFor p led homes hi w t1 c1 u1
stands_same p led homes hi w t t1 c c1 u u1 et ec eu s =
    subst (λ a. StandsFor p led homes hi w t1 c1 a) eu (subst (λ a. StandsFor p led homes hi w t1 a u) ec (subst (λ a. StandsFor p led homes hi w a c u) et s))

pub keeps_length : (ls : List TypeTree) (cs : List Content) → length (keeps ls cs) ≡ length ls
keeps_length [] cs = refl
keeps_length (l ∷ ls) [] = ap suc (keeps_length ls [])
keeps_length (l ∷ ls) (c ∷ cs) = ap suc (keeps_length ls cs)

no_content : (i : ℕ) → get_or [] i nothing ≡ nothing
no_content i = refl

pub keeps_at : (ls : List TypeTree) (cs : List Content) (i : ℕ) → i < length ls → slice_get (keeps ls cs) i ≡ Some (word (get_or ls i ints) (get_or cs i nothing))
keeps_at [] cs i lt = absurd (omega arith)
keeps_at (l ∷ ls) [] zero lt = refl
keeps_at (l ∷ ls) [] (suc i) lt = keeps_at ls [] i (omega arith)
keeps_at (l ∷ ls) (c ∷ cs) zero lt = refl
keeps_at (l ∷ ls) (c ∷ cs) (suc i) lt = keeps_at ls cs i (omega arith)

pub keeps_get : (ls : List TypeTree) (cs : List Content) (i : ℕ) (k : Kept) → slice_get (keeps ls cs) i ≡ Some k → (i < length ls) × (word (get_or ls i ints) (get_or cs i nothing) ≡ k)
keeps_get ls cs i k e =
    let l : i < length ls = subst (λ n. i < n) (keeps_length ls cs) (slice_get_within (keeps ls cs) i k e) in
    (l, some_same (sym (keeps_at ls cs i l) ∙ e))

-- words side by side are kept side by side
pub keeps_joined : (ls ms : List TypeTree) (cs ds : List Content) → length cs ≡ length ls → keeps (ls ++ ms) (cs ++ ds) ≡ keeps ls cs ++ keeps ms ds
keeps_joined [] ms [] ds e = refl
keeps_joined [] ms (c ∷ cs) ds e = absurd (omega (arith, e))
keeps_joined (l ∷ ls) ms [] ds e = absurd (omega (arith, e))
keeps_joined (l ∷ ls) ms (c ∷ cs) ds e = ap (λ ks. word l c ∷ ks) (keeps_joined ls ms cs ds (omega (arith, e)))

module _ (p : Program) (pl : Placement) (max : ℕ) (led : Leading) where
  -- ---- the same store for other frames

  pub good_frames : (v : View) (w : World) (calls calls1 : List Frame) (s : Memory) → ((d : ℕ) (t : TypeTree) → SiteAt p pl calls d t → SiteAt p pl calls1 d t) → ((x d : ℕ) (b : Bool) (t : TypeTree) → NamedAt p pl calls1 x d b t → NamedAt p pl calls x d b t)
      → ((d : ℕ) (k : Kept) → HeldAt p pl calls1 d k → StandsKept p led v.homes s.hi w k (word_at s.words d)) → ((d n : ℕ) → BackAt p pl calls1 d n → BackAt p pl calls d n) → ((d : ℕ) (e : Option ℕ) → LinkAt p pl calls1 d e → LinkAt p pl calls d e)
      → (Begun p pl calls (length w.store) → Begun p pl calls1 (length w.store)) → numbers calls ≡ numbers calls1 → AllOwn p pl calls1 → depth p pl calls1 ≡ depth p pl calls → Good p pl max led v w calls s → Good p pl max led v w calls1 s
  good_frames v w calls calls1 s sites names kept backs links begun same own deep g = let h = g.homed in let z = g.sized in record {
    homed = record {
      sole = h.sole;
      known = h.known;
      stacked = λ x d y e hm. sites d y.type (h.stacked x d y e hm);
      heaped = h.heaped;
      named = λ x d b t m. h.named x d b t (names x d b t m);
      slots = λ x d t m. h.slots x d t (names x d false t m);
      boxes = λ x d t m. h.boxes x d t (names x d true t m);
      globals = h.globals;
      begun = begun h.begun;
      typed = h.typed;
      births = h.births;
      calling = h.calling ∙ same;
      owned = own;
    };
    cells = g.cells;
    framed = record { kept = kept; boxed = λ x d h t m e. g.framed.boxed x d h t (names x d true t m) e; backs = λ d n m. g.framed.backs d n (backs d n m); links = λ d e m. g.framed.links d e (links d e m) };
    sized = record { used = z.used ∙ sym deep; heap_used = z.heap_used; asked = z.asked; full = z.full; low = z.low; high = z.high; fits = omega (arith, z.fits, deep); small = z.small };
  }

  -- other things are kept, which stand
  pub good_kept : (v : View) (w : World) (c : Frame) (calls : List Frame) (s : Memory) (held : List Kept) → length held ≤ temps_of p pl c.func → ((i : ℕ) (k : Kept) → i < temps_of p pl c.func → slice_get held i ≡ Some k → StandsKept p led v.homes s.hi w k (word_at s.words (depth p pl (c ∷ calls) - (outgoing_of p c.func + i))))
      → Good p pl max led v w (c ∷ calls) s → Good p pl max led v w (hold c held ∷ calls) s
  good_kept v w c calls s held room stands g =
      let own = g.homed.owned in
      good_frames v w (c ∷ calls) (hold c held ∷ calls) s (λ d t m. m) (λ x d b t m. m) now (λ d n m. m) (λ d e m. m) (λ n. n) refl (record { named = own.0.named; room = room; among = own.0.among }, own.1) refl g
    where
      now : (d : ℕ) (k : Kept) → HeldAt p pl (hold c held ∷ calls) d k → StandsKept p led v.homes s.hi w k (word_at s.words d)
      now d k (inr h) = g.framed.kept d k (inr h)
      now d k (inl h) = subst (λ e. StandsKept p led v.homes s.hi w k (word_at s.words e)) (sym h.2) (stands h.0 k h.1 h.3)

  -- the place to go on at is no matter of the newest frame's words
  pub good_placed : (v : View) (w : World) (c : Frame) (calls : List Frame) (s : Memory) (place : ℕ) → Good p pl max led v w (c ∷ calls) s → Good p pl max led v w (placed c place ∷ calls) s
  good_placed v w c calls s place g =
      let own = g.homed.owned in
      good_frames v w (c ∷ calls) (placed c place ∷ calls) s (λ d t m. m) (λ x d b t m. m) (λ d k m. g.framed.kept d k m) (λ d n m. m) (λ d e m. m) (λ n. n) refl (record { named = own.0.named; room = own.0.room; among = own.0.among }, own.1) refl g

  pub good_back : (v : View) (w : World) (c : Frame) (calls : List Frame) (s : Memory) (place : ℕ) → Good p pl max led v w (placed c place ∷ calls) s → Good p pl max led v w (c ∷ calls) s
  good_back v w c calls s place g =
      let own = g.homed.owned in
      good_frames v w (placed c place ∷ calls) (c ∷ calls) s (λ d t m. m) (λ x d b t m. m) (λ d k m. g.framed.kept d k m) (λ d n m. m) (λ d e m. m) (λ n. n) refl (record { named = own.0.named; room = own.0.room; among = own.0.among }, own.1) refl g

  -- fewer sites are in scope
  pub narrowed : (v : View) (w : World) (c : Frame) (calls : List Frame) (s : Memory) (env : Env) (scope less : List ℕ) → ((site : ℕ) → InScope site less → InScope site scope) → Good p pl max led v w (with_sites c env scope ∷ calls) s → Good p pl max led v w (with_sites c env less ∷ calls) s
  narrowed v w c calls s env scope less sub g =
      let own = g.homed.owned in
      good_frames v w (with_sites c env scope ∷ calls) (with_sites c env less ∷ calls) s (λ d t m. m) names (λ d k m. g.framed.kept d k m) (λ d n m. m) (λ d e m. m) (λ n. n) refl (record { named = own.0.named; room = own.0.room; among = λ site i. own.0.among site (sub site i) }, own.1) refl g
    where
      names : (x d : ℕ) (b : Bool) (t : TypeTree) → NamedAt p pl (with_sites c env less ∷ calls) x d b t → NamedAt p pl (with_sites c env scope ∷ calls) x d b t
      names x d b t (inl m) = inl (m.0, sub m.0 m.1, m.2, m.3, m.4, m.5)
      names x d b t (inr m) = inr m

  -- fewer words are kept, and some are spent
  pub good_less : (v : View) (w : World) (c : Frame) (calls : List Frame) (s : Memory) (held held1 : List Kept) → length held1 ≤ length held → ((i : ℕ) (k : Kept) → slice_get held1 i ≡ Some k → (k ≡ spent) ⊎ (slice_get held i ≡ Some k)) → Good p pl max led v w (hold c held ∷ calls) s → Good p pl max led v w (hold c held1 ∷ calls) s
  good_less v w c calls s held held1 short less g = good_kept v w (hold c held) calls s held1 (let r = g.homed.owned.0.room in omega arith) stands g
    where
      stands : (i : ℕ) (k : Kept) → i < temps_of p pl c.func → slice_get held1 i ≡ Some k → StandsKept p led v.homes s.hi w k (word_at s.words (depth p pl (c ∷ calls) - (outgoing_of p c.func + i)))
      stands i k lt e = elim (less i k e) [
        | inl q ↦ subst (λ a. StandsKept p led v.homes s.hi w a (word_at s.words (depth p pl (c ∷ calls) - (outgoing_of p c.func + i)))) (sym q) tt
        | inr q ↦ g.framed.kept (depth p pl (c ∷ calls) - (outgoing_of p c.func + i)) k (inl (i, lt, refl, q))
      ]

  pub good_fewer : (v : View) (w : World) (c : Frame) (calls : List Frame) (s : Memory) (held more : List Kept) → Good p pl max led v w (hold c (held ++ more) ∷ calls) s → Good p pl max led v w (hold c held ∷ calls) s
  good_fewer v w c calls s held more g = good_less v w c calls s (held ++ more) held (omega (arith, length-append held more)) (λ i k e. inr (append_old held more k i e)) g

  -- ---- other words

  -- words change that are not needed
  pub good_words : (v : View) (w : World) (calls : List Frame) (s : Memory) (ws : List ℕ) → length ws ≡ length s.words → ((d : ℕ) → Needed p pl calls d → word_at ws d ≡ word_at s.words d) → Good p pl max led v w calls s → Good p pl max led v w calls (record s { words = ws })
  good_words v w calls s ws long same g = record {
    homed = g.homed;
    cells = λ x j y q e h lt. cell x j y q e h lt;
    framed = framed_later p pl led v v.homes s.hi w w calls s.words ws g.homed (same_later v.homes w) (λ d o. same d (other_needed p pl calls d o)) g.framed;
    sized = let z = g.sized in record { used = long ∙ z.used; heap_used = z.heap_used; asked = z.asked; full = z.full; low = z.low; high = z.high; fits = z.fits; small = z.small };
  }
    where
      cell : (x j : ℕ) (y : Cell) (q : Place) → slice_get w.store x ≡ Some y → v.homes x ≡ Some q → j < width y.type → StandsFor p led v.homes s.hi w (leaf y.type j) (get_or (contents y.value) j nothing) (word_in ws s.heap (behind q j))
      cell x j y (on_heap h) e hm lt = g.cells x j y (on_heap h) e hm lt
      cell x j y (on_stack d) e hm lt =
          subst (λ u. StandsFor p led v.homes s.hi w (leaf y.type j) (get_or (contents y.value) j nothing) u) (sym (same (d - j) (site_needed p pl calls d j y.type lt (g.homed.stacked x d y e hm)))) (g.cells x j y (on_stack d) e hm lt)

  -- how many items were read is no matter of the words
  pub good_read : (v : View) (w : World) (calls : List Frame) (s : Memory) (n : ℕ) → Good p pl max led v w calls s → Good p pl max led v (record { store = w.store; reads = n }) calls (record s { reads = n })
  good_read v w calls s n g = let h = g.homed in let z = g.sized in let u : World = record { store = w.store; reads = n } in record {
    homed = record { sole = h.sole; known = h.known; stacked = h.stacked; heaped = h.heaped; named = h.named; slots = h.slots; boxes = h.boxes; globals = h.globals; begun = h.begun; typed = h.typed; births = h.births; calling = h.calling; owned = h.owned };
    cells = λ x j y q e hm lt. stands_later p led v.homes v.homes s.hi w u (leaf y.type j) (get_or (contents y.value) j nothing) _ later (g.cells x j y q e hm lt);
    framed = framed_later p pl led v v.homes s.hi w u calls s.words s.words g.homed later (λ d o. refl) g.framed;
    sized = record { used = z.used; heap_used = z.heap_used; asked = refl; full = z.full; low = z.low; high = z.high; fits = z.fits; small = z.small };
  }
    where
      later : Later v.homes v.homes w (record { store = w.store; reads = n })
      later = record { keeps = λ x y e. (y, e, refl); ends = λ x q lt e. e; stays = λ x h lt e. e }

  -- free temps and outgoing words get words
  pub good_free : (v : View) (w : World) (c : Frame) (calls : List Frame) (s : Memory) (a : ℕ) (xs : List ℕ) → ((outgoing_of p c.func + length c.held ≤ a) × (a + length xs ≤ outgoing_of p c.func + temps_of p pl c.func)) ⊎ (a + length xs ≤ outgoing_of p c.func) → Good p pl max led v w (c ∷ calls) s → Good p pl max led v w (c ∷ calls) (puts s a xs)
  good_free v w c calls s a xs (inl free) g =
      let u = g.sized.used in
      good_words v w (c ∷ calls) s (put_words s.words a xs) (put_length s.words a xs (omega (arith, free.1)))
      (λ d n. elim n [
        | inl own ↦ put_other s.words a xs d (omega (arith, free.1)) (elim own.2 [ inl q ↦ inl (omega (arith, free.0, own.0, own.1)) | inr q ↦ inr (omega (arith, free.1, own.1)) ])
        | inr up ↦ let b = needed_within p pl calls d up in put_other s.words a xs d (omega (arith, free.1)) (inr (omega (arith, free.1, b)))
      ]) g
  good_free v w c calls s a xs (inr out) g =
      let u = g.sized.used in
      good_words v w (c ∷ calls) s (put_words s.words a xs) (put_length s.words a xs (omega arith))
      (λ d n. elim n [
        | inl own ↦ put_other s.words a xs d (omega arith) (inr (omega (arith, own.1)))
        | inr up ↦ let b = needed_within p pl calls d up in put_other s.words a xs d (omega arith) (inr (omega (arith, b)))
      ]) g

  -- ---- temps

  -- a word that is kept
  pub kept_word : (v : View) (w : World) (c : Frame) (calls : List Frame) (s : Memory) (i : ℕ) (k : Kept) → slice_get c.held i ≡ Some k → Good p pl max led v w (c ∷ calls) s → StandsKept p led v.homes s.hi w k (slice_index s.words (temp (slots_of p pl c.func) i))
  kept_word v w c calls s i k e g =
      let u = g.sized.used in let room = g.homed.owned.0.room in let lt = slice_get_within c.held i k e in
      subst (λ u. StandsKept p led v.homes s.hi w k u) (word_slot s.words (depth p pl (c ∷ calls)) (temp (slots_of p pl c.func) i) u (omega arith)) (g.framed.kept (depth p pl (c ∷ calls) - (outgoing_of p c.func + i)) k (inl (i, omega arith, refl, e)))

  -- temps get what they keep
  pub good_more : (v : View) (w : World) (c : Frame) (calls : List Frame) (s : Memory) (h : ℕ) (ks : List Kept) (xs : List ℕ) → length c.held ≡ h → length xs ≡ length ks → h + length ks ≤ temps_of p pl c.func → ((i : ℕ) (k : Kept) → slice_get ks i ≡ Some k → StandsKept p led v.homes s.hi w k (slice_index xs i))
      → Good p pl max led v w (c ∷ calls) s → Good p pl max led v w (hold c (c.held ++ ks) ∷ calls) (puts s (temp (slots_of p pl c.func) h) xs)
  good_more v w c calls s h ks xs eh long room stands g = good_kept v w c calls s1 (c.held ++ ks) (omega (arith, length-append c.held ks)) now g1
    where
      a : ℕ
      a = outgoing_of p c.func + h

      s1 : Memory
      s1 = puts s a xs

      g1 : Good p pl max led v w (c ∷ calls) s1
      g1 = good_free v w c calls s a xs (inl (omega arith, omega arith)) g

      now : (i : ℕ) (k : Kept) → i < temps_of p pl c.func → slice_get (c.held ++ ks) i ≡ Some k → StandsKept p led v.homes s.hi w k (word_at s1.words (depth p pl (c ∷ calls) - (outgoing_of p c.func + i)))
      now i k lt e =
          let u = g.sized.used in
          elim (append_cases c.held ks k i e) [
            | inl old ↦ g1.framed.kept (depth p pl (c ∷ calls) - (outgoing_of p c.func + i)) k (inl (i, lt, refl, old))
            | inr (j, at, new) ↦
                let n = slice_get_within ks j k new in
                subst (λ u. StandsKept p led v.homes s.hi w k u) (sym (put_same s.words a xs j (depth p pl (c ∷ calls) - (outgoing_of p c.func + i)) (omega arith) (omega arith) (omega arith))) (stands j k new)
          ]

  -- of words of values
  pub good_stand : (v : View) (w : World) (c : Frame) (calls : List Frame) (s : Memory) (h : ℕ) (ls : List TypeTree) (cs : List Content) (xs : List ℕ) → length c.held ≡ h → h + length ls ≤ temps_of p pl c.func → Stand p led v.homes s.hi w ls cs xs → Good p pl max led v w (c ∷ calls) s → Good p pl max led v w (hold c (c.held ++ keeps ls cs) ∷ calls) (puts s (temp (slots_of p pl c.func) h) xs)
  good_stand v w c calls s h ls cs xs eh room st g =
      let n = keeps_length ls cs in let m = st.long in
      good_more v w c calls s h (keeps ls cs) xs eh (omega arith) (omega arith)
      (λ i k e. let q = keeps_get ls cs i k e in subst (λ a. StandsKept p led v.homes s.hi w a (slice_index xs i)) q.1 (st.each i q.0)) g

  -- one word
  pub good_set : (v : View) (w : World) (c : Frame) (calls : List Frame) (s : Memory) (h x : ℕ) (k : Kept) → length c.held ≡ h → h < temps_of p pl c.func → StandsKept p led v.homes s.hi w k x → Good p pl max led v w (c ∷ calls) s → Good p pl max led v w (hold c (c.held ++ k ∷ []) ∷ calls) (sets s (temp (slots_of p pl c.func) h) x)
  good_set v w c calls s h x k eh room stands g =
      let u = g.sized.used in
      subst (λ ws. Good p pl max led v w (hold c (c.held ++ k ∷ []) ∷ calls) (record s { words = ws })) (put_one s.words (temp (slots_of p pl c.func) h) x (omega arith))
      (good_more v w c calls s h (k ∷ []) (x ∷ []) eh refl (omega arith) one g)
    where
      one : (i : ℕ) (k1 : Kept) → slice_get (k ∷ []) i ≡ Some k1 → StandsKept p led v.homes s.hi w k1 (slice_index (x ∷ []) i)
      one zero k1 e = subst (λ a. StandsKept p led v.homes s.hi w a x) (some_same e) stands
      one (suc i) k1 e = absurd (none_some e)

  -- the words of values are kept from a temp on
  abbrev pub Holds : Frame → ℕ → List TypeTree → List Content → Type 0
  Holds c h ls cs = (i : ℕ) → i < length ls → slice_get c.held (h + i) ≡ Some (word (get_or ls i ints) (get_or cs i nothing))

  pub holds_last : (c : Frame) (held more : List Kept) (h : ℕ) (ls : List TypeTree) (cs : List Content) → length held ≡ h → Holds (hold c (held ++ (keeps ls cs ++ more))) h ls cs
  holds_last c held more h ls cs eh i lt =
      ap (λ n. slice_get (held ++ (keeps ls cs ++ more)) (n + i)) (sym eh) ∙ append_new held (keeps ls cs ++ more) i ∙ append_old (keeps ls cs) more _ i (keeps_at ls cs i lt)

  pub held_room : (v : View) (w : World) (c : Frame) (calls : List Frame) (s : Memory) (h : ℕ) (ls : List TypeTree) (cs : List Content) → Holds c h ls cs → h + length ls ≤ length c.held → Good p pl max led v w (c ∷ calls) s → temp (slots_of p pl c.func) h + length ls ≤ length s.words
  held_room v w c calls s h ls cs holds le g = let r = g.homed.owned.0.room in let u = g.sized.used in omega arith

  pub held_stand : (v : View) (w : World) (c : Frame) (calls : List Frame) (s : Memory) (h : ℕ) (ls : List TypeTree) (cs : List Content) → Holds c h ls cs → h + length ls ≤ length c.held → Good p pl max led v w (c ∷ calls) s → Stand p led v.homes s.hi w ls cs (words_at s.words (temp (slots_of p pl c.func) h) (length ls))
  held_stand v w c calls s h ls cs holds le g = record {
    long = read_length s.words (temp (slots_of p pl c.func) h) (length ls) (held_room v w c calls s h ls cs holds le g);
    each = λ i lt. subst (λ u. StandsFor p led v.homes s.hi w (get_or ls i ints) (get_or cs i nothing) u) (sym (same i lt)) (kept_word v w c calls s (h + i) (word (get_or ls i ints) (get_or cs i nothing)) (holds i lt) g);
  }
    where
      same : (i : ℕ) → i < length ls → slice_index (words_at s.words (temp (slots_of p pl c.func) h) (length ls)) i ≡ slice_index s.words (temp (slots_of p pl c.func) (h + i))
      same i lt = let e : outgoing_of p c.func + h + i ≡ outgoing_of p c.func + (h + i) = omega arith in read_index s.words (temp (slots_of p pl c.func) h) (length ls) i lt ∙ ap (slice_index s.words) e

  -- ---- variables

  -- the words of a variable's part
  pub home_value : (v : View) (w : World) (calls : List Frame) (s : Memory) (x : ℕ) (y : Cell) (q : Place) (path : List ℕ) (t : TypeTree) → slice_get w.store x ≡ Some y → v.homes x ≡ Some q → Leads y.type path t → Good p pl max led v w calls s
      → Stand p led v.homes s.hi w (leaves t) (contents (at_path y.value path)) (part_place s q (offset y.type path) (width t))
  home_value v w calls s x y q path t here home leads g = record { long = long q home ∙ sym (leaves_length t); each = λ j lt. word_of j (subst (λ n. j < n) (leaves_length t) lt) }
    where
      off : ℕ
      off = offset y.type path

      ends : off + width t ≤ width y.type
      ends = within y.type t path leads

      long : (r : Place) → v.homes x ≡ Some r → length (part_place s r off (width t)) ≡ width t
      long (on_stack d) e =
          let r = site_within p pl calls d y.type (g.homed.stacked x d y here e) in let u = g.sized.used in let m = ends in
          read_length s.words (length s.words - (d - off)) (width t) (omega (arith, r.0, r.1))
      long (on_heap h) e = let r = g.homed.heaped x h y here e in let u = g.sized.heap_used in let m = ends in read_length s.heap (h + off) (width t) (omega arith)

      place_word : (r : Place) (j : ℕ) → v.homes x ≡ Some r → j < width t → word_in s.words s.heap (behind r (off + j)) ≡ slice_index (part_place s r off (width t)) j
      place_word (on_stack d) j e lt =
          let r = site_within p pl calls d y.type (g.homed.stacked x d y here e) in let u = g.sized.used in let m = ends in
          let i : length s.words - (d - (off + j)) ≡ length s.words - (d - off) + j = omega (arith, r.0, r.1) in
          ap (slice_index s.words) i ∙ sym (read_index s.words (length s.words - (d - off)) (width t) j lt)
      place_word (on_heap h) j e lt =
          let i : h + (off + j) ≡ h + off + j = omega arith in
          ap (slice_index s.heap) i ∙ sym (read_index s.heap (h + off) (width t) j lt)

      word_of : (j : ℕ) → j < width t → StandsFor p led v.homes s.hi w (leaf t j) (get_or (contents (at_path y.value path)) j nothing) (slice_index (part_place s q off (width t)) j)
      word_of j lt =
          let is = g.homed.typed x y here in let m = ends in
          let parts = part_words y.type t y.value (at_path y.value path) path nothing is leads (at_is y.type t y.value path is leads) in
          stands_same p led v.homes s.hi w (leaf y.type (off + j)) (leaf t j) (get_or (contents y.value) (off + j) nothing) (get_or (contents (at_path y.value path)) j nothing)
          (word_in s.words s.heap (behind q (off + j))) (slice_index (part_place s q off (width t)) j)
          (part_leaf y.type t path j leads lt) (sym (parts.read j lt)) (place_word q j home lt) (g.cells x (off + j) y q here home (omega arith))
