-- The births of the package variables, with which a program begins.
use Rattle.std.proofs.Common.{◌≡◌, pos, ℕ, zero, suc, ◌+◌, ◌<◌, ◌≤◌, ◌^◌, Bool, true, false, List, [], ◌∷◌, ◌++◌, length, Some, refl, sym, ap, ◌∙◌, subst, arith, get_or, length-append, inl, inr}
use Rattle.std.specs.Prelude.{slice_get, map, nat_le, if◌then◌else◌}
use Rattle.std.proofs.lemmas.Bool.Decides.{leb_tells}
use Rattle.std.proofs.lemmas.List.{length-map, map-append}
use Rattle.typed_syntax.specs.Types.{TypeTree, ints, width}
use Rattle.typed_syntax.specs.Value.{Value, Values, int, bool, composite, nil_pointer, pointer, nil_slice, slice_in, no_values, more_values, words, IsOf, FitsWords, FitWords, LeadsNowhere, LeadNowhere}
use Rattle.typed_syntax.specs.Words.{bit_of, word_of, contents, contents_in, words_of, Hold}
use Rattle.frames.specs.Placement.{Placement}
use Rattle.typed_syntax.specs.Syntax.{Program, global_type}
use Rattle.meaning.specs.Trace.{HeapLimit, World}
use Rattle.meaning.specs.Store.{born}
use Rattle.meaning.specs.Meaning
use Rattle.meaning.specs.Meaning.{Go, Setting}
use Rattle.meaning.specs.Output.{Limits, Sight, Last, last}
use Rattle.simulation.specs.Outcome as Run
use Rattle.simulation.specs.Outcome.{Lines, Outcome}
use Rattle.simulation.specs.Follows.{Follows}
use Rattle.simulation.proofs.Rules
use Rattle.isa.specs.Bin as Bin
use Rattle.machine.specs.Machine.{Event, Last as Stopped, full_range}
use Rattle.machine.specs.declared.run_state.Ending.TheVariants.{HeapLimit as Full}
use Rattle.program_code.specs.Code.{globals_before}
use Rattle.value_laws.proofs.Lists.{held_joined}
use Rattle.value_laws.proofs.Parts.{count_of, words_count}
use Rattle.state_relation.specs.Leaves.{leaves}
use Rattle.state_relation.specs.Views.{View, Range, after_apart, after_stack, distance, out_from}
use Rattle.state_relation.specs.Relation.{Memory, to_heap, Good, sites_of, words_before}
use Rattle.state_relation.specs.Alike.{same_event, same_last}
use Rattle.state_relation.proofs.PackageWords.{no_global, site_is}
use Rattle.state_relation.proofs.Lists.{get_is}
use Rattle.state_relation.proofs.Words.{Holds, held_in, hold_stand, value_fits}
use Rattle.state_relation.proofs.Births.{born_length}
use Rattle.state_relation.proofs.Crossing.{birth_apart}
use Rattle.simulated_code.specs.Correct.{first_words, begun}
use Rattle.simulated_code.proofs.Numbers.{number_stands}

-- all have sites with this
abbrev pub AllOn : (ℕ → Bool) → List (ℕ × Value) → Type 0
AllOn on [] = Unit {0}
AllOn on (g ∷ gs) = (on g.0 ≡ true) × AllOn on gs

-- each begins with a value of its site's type, whose whole numbers are of 64 bits, and which leads to no variable
abbrev pub AllFit : List TypeTree → List (ℕ × Value) → Type 0
AllFit sites [] = Unit {0}
AllFit sites (g ∷ gs) = (IsOf (get_or sites g.0 ints) g.1 × FitsWords g.1 × LeadsNowhere g.1) × AllFit sites gs

-- the words of a value hold what it holds
bit_same : (b : Bool) → bit_of b ≡ Bin.bit_of b
bit_same true = refl
bit_same false = refl

mutual
  words_hold : (v : Value) → FitsWords v → LeadsNowhere v → Hold Holds (contents v) (words_of v)
  words_hold (int z) fits alone = (number_stands z fits, tt)
  words_hold (bool b) fits alone = (bit_same b, tt)
  words_hold (composite vs) fits alone = words_hold_in vs fits alone
  words_hold nil_pointer fits alone = (refl, tt)
  words_hold (pointer x path) fits alone = absurd alone
  words_hold nil_slice fits alone = (refl, (number_stands (pos 0) (search arith), (number_stands (pos 0) (search arith), tt)))
  words_hold (slice_in x path first count room) fits alone = absurd alone

  words_hold_in : (vs : Values) → FitWords vs → LeadNowhere vs → Hold Holds (contents_in vs) (map word_of (contents_in vs))
  words_hold_in no_values fits alone = tt
  words_hold_in (more_values v vs) fits alone =
      subst (λ ws. Hold Holds (contents v ++ contents_in vs) ws) (sym (map-append word_of (contents v) (contents_in vs)))
      (held_joined Holds (contents v) (contents_in vs) (words_of v) (map word_of (contents_in vs)) (words_hold v fits.0 alone.0)
      (words_hold_in vs fits.1 alone.1))

first_long : (t : TypeTree) (v : Value) → IsOf t v → length (words_of v) ≡ width t
first_long t v is = length-map (contents v) word_of ∙ count_of t v is

pub none_before : (sites : List TypeTree) (xs : List ℕ) → globals_before sites xs 0 ≡ 0
none_before sites [] = refl
none_before sites (x ∷ xs) = refl

-- the next one's words are behind those of this one
before_step : (sites : List TypeTree) (xs : List ℕ) (g : ℕ) → g < length xs → globals_before sites xs (suc g) ≡ globals_before sites xs g + width (get_or sites (get_or xs g 0) ints)
before_step sites [] g lt = absurd (omega arith)
before_step sites (x ∷ xs) zero lt = omega (arith, none_before sites xs)
before_step sites (x ∷ xs) (suc g) lt = omega (arith, before_step sites xs g (omega arith))

-- around the first call
abbrev pub first_store : (stack_max : ℕ) → (heap words : List ℕ) → Memory
first_store stack_max heap words = record { hi = 2 ^ 40 + stack_max; size = stack_max; words = words; heap = heap; reads = 0 }

abbrev pub first_range : (stack_max : ℕ) → Range
first_range stack_max = full_range stack_max

module _ (p : Program) (pl : Placement) (l : Limits) (small : l.heap_max ≤ 2 ^ 32) (around : Setting) (sites_are : around.sites ≡ p.sites) (go : Go) (run : List ℕ → ℕ → Outcome Event Stopped) (b : ℕ) where
  abbrev Follow : Lines Sight Last → (ℕ → Outcome Event Stopped) → Type 0
  Follow t m = Follows Sight Event Last Stopped same_event (same_last p.strings) 0 0 b t m

  abbrev full : (used asked : ℕ) → Stopped
  full used asked = record { ending = Full used asked l.heap_max; heap = used }

  abbrev store_with : List ℕ → Memory
  store_with heap = first_store l.stack_max heap []

  abbrev range_with : Range
  range_with = first_range l.stack_max

  -- what stands when so many are born
  pub record Begins (i : ℕ) (v : View) (w : World) (heap : List ℕ) : Type 0 where
    pub good : Good p pl l.stack_max to_heap v w [] (store_with heap)
    pub count : length w.store ≡ i
    pub before : v.heap ≡ words_before p i
    pub room : length heap ≤ l.heap_max

  -- one more is born
  one_born : (i site : ℕ) (x : Value) (v : View) (w : World) (heap : List ℕ) → slice_get p.globals i ≡ Some (site, x) → i < length p.globals → IsOf (get_or p.sites site ints) x → FitsWords x → LeadsNowhere x → length heap + length (words_of x) ≤ l.heap_max
      → Begins i v w heap → Begins (suc i) (after_apart v (words x)) (born w (Meaning.new_cell 0 site (Meaning.site_type around site) x)) (heap ++ words_of x)
  one_born i site x v w heap e lt is fits alone le g =
      let y = Meaning.new_cell 0 site (Meaning.site_type around site) x in let count = g.count in let used = g.good.sized.heap_used in let before = g.before in
      let kind : y.type ≡ get_or p.sites site ints = ap (λ ts. get_or ts site ints) sites_are in
      let this : (get_or p.globals i no_global).0 ≡ site = ap (λ (q : ℕ × Value). q.0) (get_is p.globals i (site, x) no_global e) in
      let wide : words x ≡ width y.type = words_count x ∙ count_of (get_or p.sites site ints) x is ∙ ap width (sym kind) in
      let long : length (words_of x) ≡ words x = length-map (contents x) word_of ∙ sym (words_count x) in
      let type : global_type p i ≡ y.type = ap (λ k. get_or p.sites k ints) this ∙ sym kind in
      let first : get_or (sites_of p.globals) i 0 ≡ site = site_is p.globals i ∙ this in
      let step = before_step p.sites (sites_of p.globals) i (omega (arith, length-map p.globals (λ (q : ℕ × Value). q.0))) in
      let step_wide : width (get_or p.sites (get_or (sites_of p.globals) i 0) ints) ≡ width y.type = ap (λ k. width (get_or p.sites k ints)) first ∙ ap width (sym kind) in
      record {
        good = birth_apart p pl l.stack_max to_heap v w [] (store_with heap) (words x) y (words_of x) wide (omega arith) (subst (λ o. IsOf o x) (sym kind) is)
            (hold_stand p to_heap v.homes (2 ^ 40 + l.stack_max) w (leaves y.type) (contents x) (words_of x) (value_fits y.type x (subst (λ o. IsOf o x) (sym kind) is)) (held_in (contents x) (words_of x) (words_hold x fits alone)))
            (λ z. (sym type ∙ ap (λ k. global_type p k) (sym count), before ∙ ap (words_before p) (sym count))) g.good;
        count = omega (arith, count, born_length p pl l.stack_max to_heap w y);
        before = omega (arith, before, step, step_wide, wide);
        room = omega (arith, length-append heap (words_of x));
      }

  -- They follow: each takes its words of the heap, until one has no room.
  pub globals_follow : (gs : List (ℕ × Value)) (i : ℕ) (v : View) (w : World) (heap : List ℕ) → ((j : ℕ) → slice_get gs j ≡ slice_get p.globals (i + j)) → i + length gs ≡ length p.globals → AllOn l.on_heap gs → AllFit p.sites gs → Begins i v w heap
      → ((v1 : View) (w1 : World) (heap1 : List ℕ) → Begins (length p.globals) v1 w1 heap1 → Follow (out_from p pl l v1 range_with (go w1)) (run heap1))
      → Follow (out_from p pl l v range_with (Meaning.bear_globals around gs go w)) (λ k. begun l.heap_max heap (first_words gs) (λ ws. run ws k))
  globals_follow [] i v w heap rest ends on fit g post = post v w heap (let e : i ≡ length p.globals = omega arith in subst (λ k. Begins k v w heap) e g)
  globals_follow ((site, x) ∷ gs) i v w heap rest ends on fit g post =
      let u = born w (Meaning.new_cell 0 site (Meaning.site_type around site) x) in let t = Meaning.bear_globals around gs go u in let v1 = after_apart v (words x) in
      let n = length (words_of x) in let have = length heap in let more = first_words gs in
      let same : n ≡ words x = length-map (contents x) word_of ∙ sym (words_count x) in let used : have ≡ v.heap = g.good.sized.heap_used in
      let zero_more : i ≡ i + 0 = omega arith in
      let this : slice_get p.globals i ≡ Some (site, x) = ap (slice_get p.globals) zero_more ∙ sym (rest 0) in
      let behind : (j : ℕ) → slice_get gs j ≡ slice_get p.globals (suc i + j) = λ j. (let e : i + suc j ≡ suc i + j = omega arith in rest (suc j) ∙ ap (slice_get p.globals) e) in
      subst (λ z. Follow (if z then (if nat_le (v.heap + words x) l.heap_max then out_from p pl l v1 range_with t else Run.End (last v.heap (HeapLimit v.heap (words x) l.heap_max))) else out_from p pl l (after_stack v (distance p pl l v.calls site)) range_with t)
      (λ k. if nat_le (have + n) l.heap_max then begun l.heap_max (heap ++ words_of x) more (λ ws. run ws k) else Run.Ends (full have n))) (sym on.0)
      (subst (λ c. Follow (if nat_le (c + words x) l.heap_max then out_from p pl l v1 range_with t else Run.End (last c (HeapLimit c (words x) l.heap_max))) (λ k. if nat_le (have + n) l.heap_max then begun l.heap_max (heap ++ words_of x) more (λ ws. run ws k) else Run.Ends (full have n))) used
      (subst (λ c. Follow (if nat_le (have + c) l.heap_max then out_from p pl l v1 range_with t else Run.End (last have (HeapLimit have c l.heap_max))) (λ k. if nat_le (have + n) l.heap_max then begun l.heap_max (heap ++ words_of x) more (λ ws. run ws k) else Run.Ends (full have n))) same
      (elim (leb_tells (have + n) l.heap_max) [
        | inl q ↦ subst (λ z. Follow (if z then out_from p pl l v1 range_with t else Run.End (last have (HeapLimit have n l.heap_max))) (λ k. if z then begun l.heap_max (heap ++ words_of x) more (λ ws. run ws k) else Run.Ends (full have n))) (sym q.0)
            (globals_follow gs (suc i) v1 u (heap ++ words_of x) behind (omega arith) on.1 fit.1 (one_born i site x v w heap this (omega arith) fit.0.0 fit.0.1 fit.0.2 q.1 g) post)
        | inr q ↦ subst (λ z. Follow (if z then out_from p pl l v1 range_with t else Run.End (last have (HeapLimit have n l.heap_max))) (λ k. if z then begun l.heap_max (heap ++ words_of x) more (λ ws. run ws k) else Run.Ends (full have n))) (sym q.0)
            (Rules.ended Sight Event Last Stopped same_event (same_last p.strings) {lo = 0} {hi = 0} {b = b} (last have (HeapLimit have n l.heap_max)) (full have n) ((refl, refl, refl), refl) (λ k. refl))
      ])))
