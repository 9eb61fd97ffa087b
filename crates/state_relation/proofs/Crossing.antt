-- Births on the heap, calls and returns.
use Rattle.std.proofs.Common.{◌≡◌, ◌≢◌, inl, inr, ℕ, ◌+◌, ◌-◌, ◌^◌, ◌<◌, ◌≤◌, Bool, true, false, List, [], ◌∷◌, ◌++◌, length, drop, Option, Some, None, refl, sym, ap, ◌∙◌, subst, arith, get_or, length-append}
use Rattle.std.specs.Prelude.{slice_get, slice_index, nat_le, if◌then◌else◌}
use Rattle.std.proofs.lemmas.List.{get_or_append_left, get_or-append_right}
use Rattle.std.proofs.lemmas.Option.{slice_get_within}
use Rattle.std.proofs.lemmas.Bool.{cases_eq, le-leb, leb-true}
use Rattle.typed_syntax.specs.Types.{TypeTree, width}
use Rattle.typed_syntax.specs.Value.{IsOf}
use Rattle.typed_syntax.specs.Words.{contents}
use Rattle.typed_syntax.specs.Syntax.{Func, Program, global_type}
use Rattle.frames.specs.Placement.{Placement}
use Rattle.frames.specs.Frames.{frame_of}
use Rattle.meaning.specs.Trace.{World, Cell}
use Rattle.meaning.specs.Store.{born}
use Rattle.meaning.specs.Output.{Limits, used_by, tail_of}
use Rattle.machine.specs.Machine.{entered}
use Rattle.state_relation.specs.Leaves.{leaves, leaf}
use Rattle.state_relation.specs.Views.{Place, on_stack, on_heap, View, born_apart, not_past, left_to, after_call, after_return, after_apart, nothing_yet}
use Rattle.state_relation.specs.Relation.{Memory, Kept, Frame, fresh, back_of, behind, word_at, word_in, nothing, Leading, StandsFor, StandsKept, Stand, words_before, depth, over, link_word, SiteAt, NamedAt, HeldAt, BackAt, LinkAt, Begun, Good}
use Rattle.state_relation.proofs.Lists.{some_same, none_some, less_or}
use Rattle.state_relation.proofs.Distances.{entered_length, entered_link, entered_return, entered_keeps, dropped_length, dropped}
use Rattle.state_relation.proofs.Leaves.{leaves_length}
use Rattle.state_relation.proofs.Relation.{site_inside, site_within, named_within, other_within, held_other, back_other, link_other, used, Later, stands_later, kept_later, framed_later}
use Rattle.state_relation.proofs.Changes.{stack_same, heap_same, stack_heap, apart_new, apart_old}
use Rattle.state_relation.proofs.Births.{get_new, is_new, get_old, still, born_length}

module _ (p : Program) (pl : Placement) (max : ℕ) (led : Leading) where
  -- before a run nothing stands for nothing
  pub good_none : (s : Memory) → s.words ≡ [] → s.heap ≡ [] → s.reads ≡ 0 → 2 ^ 40 + s.size ≤ s.hi → s.hi < 2 ^ 64 → s.size ≡ max → Good p pl max led nothing_yet (record { store = []; reads = 0 }) [] s
  good_none s words heap reads low high full = record {
    homed = record {
      sole = λ x z i j a b q r ea eb hq hr li lj e. absurd (none_some hq);
      known = λ x q e. absurd (none_some e);
      stacked = λ x d y e hm. absurd (none_some hm);
      heaped = λ x h y e hm. absurd (none_some hm);
      named = λ x d b t m. absurd m;
      slots = λ x d t m. absurd m;
      boxes = λ x d t m. absurd m;
      globals = λ g l k. absurd (omega arith);
      begun = tt;
      typed = λ x y e. absurd (nothing_at x y e);
      births = refl;
      calling = refl;
      owned = tt;
    };
    cells = λ x j y q e hm lt. absurd (none_some hm);
    framed = record { kept = λ d k m. absurd m; boxed = λ x d h t m e. absurd m; backs = λ d n m. absurd m; links = λ d e m. absurd m };
    sized = record { used = ap (λ l. length l) words; heap_used = ap (λ l. length l) heap; asked = reads; full = full; low = low; high = high; fits = omega arith; small = omega arith };
  }
    where
      nothing_at : (x : ℕ) (y : Cell) → slice_get [] x ≡ Some y → ⊥
      nothing_at x y e = none_some e

  -- ---- a variable is born on the heap

  module _ (v : View) (w : World) (calls : List Frame) (s : Memory) (n : ℕ) (y : Cell) (xs : List ℕ) (wide : n ≡ width y.type) (room : v.heap + n ≤ 2 ^ 32) (is : IsOf y.type y.value) (st : Stand p led v.homes s.hi w (leaves y.type) (contents y.value) xs)
      (begins : length w.store < length p.globals → (y.type ≡ global_type p (length w.store)) × (v.heap ≡ words_before p (length w.store))) (g : Good p pl max led v w calls s) where
    abbrev top : ℕ
    top = length w.store

    abbrev w1 : World
    w1 = born w y

    abbrev homes1 : ℕ → Option Place
    homes1 = born_apart v.homes v.births v.heap

    count : length xs ≡ n
    count = st.long ∙ leaves_length y.type ∙ sym wide

    home_new : (x : ℕ) → x ≡ top → homes1 x ≡ Some (on_heap v.heap)
    home_new x q = ap homes1 (q ∙ sym g.homed.births) ∙ apart_new v.homes v.births v.heap

    home_is : (x : ℕ) → x ≢ top → homes1 x ≡ v.homes x
    home_is x ne = apart_old v.homes v.births v.heap x (λ q. ne (q ∙ g.homed.births))

    home_old : (x : ℕ) (q : Place) → x ≢ top → homes1 x ≡ Some q → v.homes x ≡ Some q
    home_old x q ne h = sym (home_is x ne) ∙ h

    later : Later v.homes homes1 w w1
    later = record { keeps = λ x a e. (a, still p pl max led w y x a e, refl); ends = λ x q less h. let ne : x ≢ top = omega arith in home_old x q ne h; stays = λ x h less e. let ne : x ≢ top = omega arith in home_is x ne ∙ e }

    old_name : (x e : ℕ) (b : Bool) (u : TypeTree) → NamedAt p pl calls x e b u → x ≢ top
    old_name x e b u m = let r = g.homed.named x e b u m in let k = slice_get_within w.store x r.0 r.1 in omega arith

    cell : (x j : ℕ) (a : Cell) (q : Place) → slice_get w1.store x ≡ Some a → homes1 x ≡ Some q → j < width a.type → StandsFor p led homes1 s.hi w1 (leaf a.type j) (get_or (contents a.value) j nothing) (word_in s.words (s.heap ++ xs) (behind q j))
    cell x j a q e hq lt = elim (cases_eq x top) [ inl k ↦ fresh_one k | inr ne ↦ old_one ne ]
      where
        fresh_one : x ≡ top → StandsFor p led homes1 s.hi w1 (leaf a.type j) (get_or (contents a.value) j nothing) (word_in s.words (s.heap ++ xs) (behind q j))
        fresh_one k =
            let f = get_new p pl max led w y x a k e in let here : on_heap v.heap ≡ q = some_same (sym (home_new x k) ∙ hq) in
            let lt1 : j < width y.type = subst (λ (r : Cell). j < width r.type) (sym f) lt in
            let at : v.heap + j - v.heap ≡ j = omega arith in
            let word : slice_index (s.heap ++ xs) (v.heap + j) ≡ slice_index xs j = get_or-append_right s.heap xs v.heap (v.heap + j) 0 g.sized.heap_used (omega arith) ∙ ap (slice_index xs) at in
            subst (λ (z : Place). StandsFor p led homes1 s.hi w1 (leaf a.type j) (get_or (contents a.value) j nothing) (word_in s.words (s.heap ++ xs) (behind z j))) here
            (subst (λ (z : Cell). StandsFor p led homes1 s.hi w1 (leaf z.type j) (get_or (contents z.value) j nothing) (slice_index (s.heap ++ xs) (v.heap + j))) f
            (subst (λ z. StandsFor p led homes1 s.hi w1 (leaf y.type j) (get_or (contents y.value) j nothing) z) (sym word)
            (stands_later p led v.homes homes1 s.hi w w1 (leaf y.type j) (get_or (contents y.value) j nothing) (slice_index xs j) later (st.each j (subst (λ l. j < l) (sym (leaves_length y.type)) lt1)))))

        same : (r : Place) → x ≢ top → v.homes x ≡ Some r → word_in s.words (s.heap ++ xs) (behind r j) ≡ word_in s.words s.heap (behind r j)
        same (on_stack k) ne o = refl
        same (on_heap k) ne o =
            let r = g.homed.heaped x k a (get_old p pl max led w y x a ne e) o in let u = g.sized.heap_used in
            get_or_append_left s.heap xs 0 (k + j) (omega arith)

        old_one : x ≢ top → StandsFor p led homes1 s.hi w1 (leaf a.type j) (get_or (contents a.value) j nothing) (word_in s.words (s.heap ++ xs) (behind q j))
        old_one ne =
            let o = home_old x q ne hq in
            subst (λ z. StandsFor p led homes1 s.hi w1 (leaf a.type j) (get_or (contents a.value) j nothing) z) (sym (same q ne o))
            (stands_later p led v.homes homes1 s.hi w w1 (leaf a.type j) (get_or (contents a.value) j nothing) _ later (g.cells x j a q (get_old p pl max led w y x a ne e) o lt))

    clash : (x j i : ℕ) (a : Cell) (q : Place) → slice_get w.store x ≡ Some a → v.homes x ≡ Some q → j < width a.type → behind q j ≡ on_heap (v.heap + i) → ⊥
    clash x j i a (on_stack k) e o lj r = stack_heap (k - j) (v.heap + i) r
    clash x j i a (on_heap k) e o lj r = let h = g.homed.heaped x k a e o in let f = heap_same (k + j) (v.heap + i) r in omega arith

    one_home : (x z i j : ℕ) (a b : Cell) (q r : Place) → slice_get w1.store x ≡ Some a → slice_get w1.store z ≡ Some b → homes1 x ≡ Some q → homes1 z ≡ Some r → i < width a.type → j < width b.type → behind q i ≡ behind r j → (x ≡ z) × (i ≡ j)
    one_home x z i j a b q r ea eb hq hr li lj e = elim (cases_eq x top) [
      | inl kx ↦ elim (cases_eq z top) [
        | inl kz ↦ (
            let f = heap_same (v.heap + i) (v.heap + j) (ap (λ u. behind u i) (placed_new x q kx hq) ∙ e ∙ ap (λ u. behind u j) (sym (placed_new z r kz hr))) in
            (kx ∙ sym kz, omega (arith, f))
            )
        | inr nz ↦ absurd (clash z j i b r (get_old p pl max led w y z b nz eb) (home_old z r nz hr) lj (sym e ∙ ap (λ u. behind u i) (sym (placed_new x q kx hq))))
      ]
      | inr nx ↦ elim (cases_eq z top) [
        | inl kz ↦ absurd (clash x i j a q (get_old p pl max led w y x a nx ea) (home_old x q nx hq) li (e ∙ ap (λ u. behind u j) (sym (placed_new z r kz hr))))
        | inr nz ↦ g.homed.sole x z i j a b q r (get_old p pl max led w y x a nx ea) (get_old p pl max led w y z b nz eb) (home_old x q nx hq) (home_old z r nz hr) li lj e
      ]
    ]
      where
        placed_new : (u : ℕ) (k : Place) → u ≡ top → homes1 u ≡ Some k → on_heap v.heap ≡ k
        placed_new u k f h = some_same (sym (home_new u f) ∙ h)

    pub birth_apart : Good p pl max led (after_apart v n) w1 calls (record s { heap = s.heap ++ xs })
    birth_apart = record {
      homed = let h = g.homed in let long = born_length p pl max led w y in record {
        sole = one_home;
        known = λ x q hq. elim (cases_eq x top) [ inl k ↦ omega (arith, k, long) | inr ne ↦ let k = h.known x q (home_old x q ne hq) in omega (arith, k, long) ];
        stacked = λ x e a ea hq. elim (cases_eq x top) [
          | inl q ↦ absurd (stack_heap e v.heap (some_same (sym hq ∙ home_new x q)))
          | inr ne ↦ h.stacked x e a (get_old p pl max led w y x a ne ea) (home_old x _ ne hq)
        ];
        heaped = λ x k a ea hq. elim (cases_eq x top) [
          | inl q ↦ (let i = heap_same v.heap k (some_same (sym (home_new x q) ∙ hq)) in let b = ap (λ (r : Cell). width r.type) (get_new p pl max led w y x a q ea) in omega (arith, i, b, wide))
          | inr ne ↦ (let r = h.heaped x k a (get_old p pl max led w y x a ne ea) (home_old x _ ne hq) in omega arith)
        ];
        named = λ x e b u m. (let r = h.named x e b u m in (r.0, still p pl max led w y x r.0 r.1, r.2));
        slots = λ x e u m. home_is x (old_name x e false u m) ∙ h.slots x e u m;
        boxes = λ x e u m. (let r = h.boxes x e u m in (r.0, home_is x (old_name x e true u m) ∙ r.1));
        globals = λ k l m. elim (cases_eq k top) [
          | inl q ↦ (let b = begins (omega (arith, q, l)) in (y, is_new p pl max led w y k q, b.0 ∙ ap (global_type p) (sym q), home_new k q ∙ ap (λ i. Some (on_heap i)) (b.1 ∙ ap (words_before p) (sym q))))
          | inr ne ↦ (let r = h.globals k l (under k ne m) in (r.0, still p pl max led w y k r.0 r.1, r.2, home_is k ne ∙ r.3))
        ];
        begun = subst (λ i. Begun p pl calls i) (sym long) (more calls h.begun);
        typed = λ x a ea. elim (cases_eq x top) [ inl k ↦ subst (λ (r : Cell). IsOf r.type r.value) (get_new p pl max led w y x a k ea) is | inr ne ↦ h.typed x a (get_old p pl max led w y x a ne ea) ];
        births = ap (λ k. k + 1) h.births ∙ sym long;
        calling = h.calling;
        owned = h.owned;
      };
      cells = cell;
      framed = framed_later p pl led v homes1 s.hi w w1 calls s.words s.words g.homed later (λ d o. refl) g.framed;
      sized = let z = g.sized in let k = count in record { used = z.used; heap_used = omega (arith, length-append s.heap xs, z.heap_used); asked = z.asked; full = z.full; low = z.low; high = z.high; fits = z.fits; small = room };
    }
      where
        under : (k : ℕ) → k ≢ top → k < length (born w y).store → k < top
        under k ne lt = elim (less_or k top) [ inl l ↦ l | inr le ↦ absurd (ne (omega (arith, born_length p pl max led w y))) ]

        more : (cs : List Frame) → Begun p pl cs top → Begun p pl cs (top + 1)
        more [] b = tt
        more (c ∷ cs) b = omega arith

  -- ---- a call

  -- what a new frame's words are: zeros, the link to the end of the frame above, and the place to return to
  module _ (v : View) (w : World) (f : ℕ) (func : Func) (calls : List Frame) (s : Memory) (link back : ℕ) (named : slice_get p.funcs f ≡ Some func) (began : length p.globals ≤ length w.store)
      (room : frame_of p pl func + depth p pl calls ≤ s.size) (linked : link ≡ link_word p pl s.hi (over p pl calls)) (returns : back ≡ back_of calls) (g : Good p pl max led v w calls s) where
    abbrev c : Frame
    c = fresh f func

    abbrev words1 : List ℕ
    words1 = entered (frame_of p pl func) link back s.words

    stays : (d : ℕ) → d ≤ depth p pl calls → word_at words1 d ≡ word_at s.words d
    stays d le = entered_keeps (frame_of p pl func) link back s.words d (omega arith) (let u = g.sized.used in omega arith)

    outer : (x d : ℕ) (b : Bool) (u : TypeTree) → NamedAt p pl (c ∷ calls) x d b u → NamedAt p pl calls x d b u
    outer x d b u (inl m) = absurd m.1
    outer x d b u (inr m) = m

    keep : (d : ℕ) (k : Kept) → HeldAt p pl (c ∷ calls) d k → StandsKept p led v.homes s.hi w k (word_at words1 d)
    keep d k (inl m) = absurd (none_some m.3)
    keep d k (inr m) = let r = other_within p pl calls d (held_other p pl calls d k m) in subst (λ u. StandsKept p led v.homes s.hi w k u) (sym (stays d r.1)) (g.framed.kept d k m)

    back_word : (d n : ℕ) → BackAt p pl (c ∷ calls) d n → word_at words1 d ≡ n
    back_word d n (inl m) = ap (word_at words1) (m.0 ∙ ap (λ k. k + 1) (sym g.sized.used)) ∙ entered_return (frame_of p pl func) link back s.words (omega arith) ∙ returns ∙ sym m.1
    back_word d n (inr m) = let r = other_within p pl calls d (back_other p pl calls d n m) in stays d r.1 ∙ g.framed.backs d n m

    link_words : (d : ℕ) (e : Option ℕ) → LinkAt p pl (c ∷ calls) d e → word_at words1 d ≡ link_word p pl s.hi e
    link_words d e (inl m) = ap (word_at words1) (m.0 ∙ ap (λ k. k + 2) (sym g.sized.used)) ∙ entered_link (frame_of p pl func) link back s.words (omega arith) ∙ linked ∙ ap (link_word p pl s.hi) (sym m.1)
    link_words d e (inr m) = let r = other_within p pl calls d (link_other p pl calls d e m) in stays d r.1 ∙ g.framed.links d e m

    cell_stays : (z j : ℕ) (b : Cell) (q : Place) → slice_get w.store z ≡ Some b → v.homes z ≡ Some q → j < width b.type → StandsFor p led v.homes s.hi w (leaf b.type j) (get_or (contents b.value) j nothing) (word_in words1 s.heap (behind q j))
    cell_stays z j b (on_heap k) e hm lj = g.cells z j b (on_heap k) e hm lj
    cell_stays z j b (on_stack k) e hm lj =
        let r = site_within p pl calls k b.type (g.homed.stacked z k b e hm) in
        subst (λ u. StandsFor p led v.homes s.hi w (leaf b.type j) (get_or (contents b.value) j nothing) u) (sym (stays (k - j) (omega (arith, r.1)))) (g.cells z j b (on_stack k) e hm lj)

    pub call_enters : Good p pl max led (after_call v f) w (c ∷ calls) (record s { words = words1 })
    call_enters = record {
      homed = let h = g.homed in record {
        sole = h.sole;
        known = h.known;
        stacked = λ x d y e hm. inr (h.stacked x d y e hm);
        heaped = h.heaped;
        named = λ x d b u m. h.named x d b u (outer x d b u m);
        slots = λ x d u m. h.slots x d u (outer x d false u m);
        boxes = λ x d u m. h.boxes x d u (outer x d true u m);
        globals = h.globals;
        begun = began;
        typed = h.typed;
        births = h.births;
        calling = ap (λ ns. f ∷ ns) h.calling;
        owned = (record { named = named; room = omega arith; among = λ site i. absurd i }, h.owned);
      };
      cells = cell_stays;
      framed = record { kept = keep; boxed = λ x d h u m e. (let r = named_within p pl calls x d true u (outer x d true u m) in stays d r ∙ g.framed.boxed x d h u (outer x d true u m) e); backs = back_word; links = link_words };
      sized = let z = g.sized in record { used = entered_length (frame_of p pl func) link back s.words (omega arith) ∙ ap (λ n. frame_of p pl func + n) z.used; heap_used = z.heap_used; asked = z.asked; full = z.full; low = z.low; high = z.high; fits = room; small = z.small };
    }

  -- ---- a return

  pub not_past_some : (d : ℕ) (o : Option Place) (q : Place) → not_past d o ≡ Some q → (o ≡ Some q) × ((e : ℕ) → q ≡ on_stack e → e ≤ d)
  not_past_some d None q e = absurd (none_some e)
  not_past_some d (Some (on_heap h)) q e = (e, λ n r. absurd (stack_heap n h (sym (some_same e ∙ r))))
  not_past_some d (Some (on_stack n)) q e = at (nat_le n d) refl
    where
      at : (b : Bool) → nat_le n d ≡ b → (Some (on_stack n) ≡ Some q) × ((e : ℕ) → q ≡ on_stack e → e ≤ d)
      at true r =
          let a : Some (on_stack n) ≡ Some q = sym (ap (λ b. if b then Some (on_stack n) else None) r) ∙ e in
          (a, λ k u. let f = stack_same n k (some_same a ∙ u) in let le = leb-true n d r in omega arith)
      at false r = absurd (none_some (sym (ap (λ b. if b then Some (on_stack n) else None) r) ∙ e))

  pub return_later : (homes : ℕ → Option Place) (d : ℕ) (w : World) → Later homes (left_to homes d) w w
  return_later homes d w = record { keeps = λ x y e. (y, e, refl); ends = λ x q less h. (not_past_some d (homes x) q h).0; stays = λ x h less e. ap (not_past d) e }

  module _ (l : Limits) (frames : (f : ℕ) (func : Func) → slice_get p.funcs f ≡ Some func → l.frame f ≡ frame_of p pl func) (v : View) (w : World) (c : Frame) (calls : List Frame) (s : Memory) (g : Good p pl max led v w (c ∷ calls) s) where
    bound : used_by l (tail_of v.calls) ≡ depth p pl calls
    bound = ap (λ ns. used_by l (tail_of ns)) g.homed.calling ∙ used p pl l frames calls g.homed.owned.1

    abbrev homes2 : ℕ → Option Place
    homes2 = left_to v.homes (used_by l (tail_of v.calls))

    homes_old : (x : ℕ) (q : Place) → homes2 x ≡ Some q → (v.homes x ≡ Some q) × ((e : ℕ) → q ≡ on_stack e → e ≤ depth p pl calls)
    homes_old x q h = not_past_some (depth p pl calls) (v.homes x) q (sym (ap (λ b. not_past b (v.homes x)) bound) ∙ h)

    kept_home : (x : ℕ) (q : Place) → v.homes x ≡ Some q → ((e : ℕ) → q ≡ on_stack e → e ≤ depth p pl calls) → homes2 x ≡ Some q
    kept_home x (on_heap h) e le = ap (λ b. not_past b (v.homes x)) bound ∙ ap (not_past (depth p pl calls)) e
    kept_home x (on_stack d) e le = ap (λ b. not_past b (v.homes x)) bound ∙ ap (not_past (depth p pl calls)) e ∙ ap (λ b. if b then Some (on_stack d) else None) (le-leb d (depth p pl calls) (le d refl))

    later_left : Later v.homes homes2 w w
    later_left = record { keeps = λ x y e. (y, e, refl); ends = λ x q less h. (homes_old x q h).0; stays = λ x h less e. kept_home x (on_heap h) e (λ n r. absurd (stack_heap n h (sym r))) }

    below : (d : ℕ) (t : TypeTree) → d ≤ depth p pl calls → SiteAt p pl (c ∷ calls) d t → SiteAt p pl calls d t
    below d t le (inl h) = let r = site_inside p pl c.func h.0 h.5 h.1 h.2 in absurd (omega (arith, r.1, h.3))
    below d t le (inr h) = h

    left_stays : (d : ℕ) → d ≤ depth p pl calls → word_at (drop (frame_of p pl c.func) s.words) d ≡ word_at s.words d
    left_stays d le = dropped s.words (frame_of p pl c.func) d (let u = g.sized.used in omega arith)

    cell_left : (x j : ℕ) (y : Cell) (q : Place) → slice_get w.store x ≡ Some y → j < width y.type → (v.homes x ≡ Some q) × ((e : ℕ) → q ≡ on_stack e → e ≤ depth p pl calls) → StandsFor p led homes2 s.hi w (leaf y.type j) (get_or (contents y.value) j nothing) (word_in (drop (frame_of p pl c.func) s.words) s.heap (behind q j))
    cell_left x j y (on_heap k) e lj o = stands_later p led v.homes homes2 s.hi w w (leaf y.type j) (get_or (contents y.value) j nothing) _ later_left (g.cells x j y (on_heap k) e o.0 lj)
    cell_left x j y (on_stack k) e lj o =
        let le = o.1 k refl in
        subst (λ u. StandsFor p led homes2 s.hi w (leaf y.type j) (get_or (contents y.value) j nothing) u) (sym (left_stays (k - j) (omega arith)))
        (stands_later p led v.homes homes2 s.hi w w (leaf y.type j) (get_or (contents y.value) j nothing) _ later_left (g.cells x j y (on_stack k) e o.0 lj))

    pub call_leaves : Good p pl max led (after_return l v) w calls (record s { words = drop (frame_of p pl c.func) s.words })
    call_leaves = record {
      homed = let h = g.homed in record {
        sole = λ a b i j ca cb qa qb ea eb ha hb li lj e. h.sole a b i j ca cb qa qb ea eb (homes_old a qa ha).0 (homes_old b qb hb).0 li lj e;
        known = λ x q hm. h.known x q (homes_old x q hm).0;
        stacked = λ x d y e hm. let o = homes_old x (on_stack d) hm in below d y.type (o.1 d refl) (h.stacked x d y e o.0);
        heaped = λ x k y e hm. h.heaped x k y e (homes_old x _ hm).0;
        named = λ x d b u m. h.named x d b u (inr m);
        slots = λ x d u m. kept_home x (on_stack d) (h.slots x d u (inr m)) (λ e q. let r = named_within p pl calls x d false u m in let f = stack_same d e q in omega arith);
        boxes = λ x d u m. (let r = h.boxes x d u (inr m) in (r.0, kept_home x (on_heap r.0) r.1 (λ e q. absurd (stack_heap e r.0 (sym q)))));
        globals = λ k i m. (let r = h.globals k i m in (r.0, r.1, r.2, kept_home k (on_heap (words_before p k)) r.3 (λ e q. absurd (stack_heap e (words_before p k) (sym q)))));
        begun = fewer calls h.begun;
        typed = h.typed;
        births = h.births;
        calling = ap tail_of h.calling;
        owned = h.owned.1;
      };
      cells = λ x j y q e hm lj. cell_left x j y q e lj (homes_old x q hm);
      framed = record {
        kept = λ d k m. let r = other_within p pl calls d (held_other p pl calls d k m) in subst (λ u. StandsKept p led homes2 s.hi w k u) (sym (left_stays d r.1)) (kept_later p led v.homes homes2 s.hi w w k _ later_left (g.framed.kept d k (inr m)));
        boxed = λ x d h u m e. left_stays d (named_within p pl calls x d true u m) ∙ g.framed.boxed x d h u (inr m) (homes_old x (on_heap h) e).0;
        backs = λ d n m. let r = other_within p pl calls d (back_other p pl calls d n m) in left_stays d r.1 ∙ g.framed.backs d n (inr m);
        links = λ d e m. let r = other_within p pl calls d (link_other p pl calls d e m) in left_stays d r.1 ∙ g.framed.links d e (inr m);
      };
      sized = let z = g.sized in record { used = dropped_length s.words (frame_of p pl c.func) (depth p pl calls) z.used; heap_used = z.heap_used; asked = z.asked; full = z.full; low = z.low; high = z.high; fits = (let f = z.fits in omega arith); small = z.small };
    }
      where
        fewer : (cs : List Frame) → length p.globals ≤ length w.store → Begun p pl cs (length w.store)
        fewer [] b = tt
        fewer (c1 ∷ cs) b = b
