-- The laws: longer runs extend, more fuel changes nothing, what is shown is what the journal prints, variables stay.
use Rattle.std.proofs.Common.{◌≡◌, ◌≢◌, ℕ, zero, suc, ◌+◌, ◌-◌, ◌≤◌, List, [], ◌∷◌, ◌++◌, true, false, refl, sym, ap, ◌∙◌, subst, arith, inl, inr}
use Rattle.std.specs.Prelude.{nat_le, if◌then◌else◌, Bool, Option, Some, None}
use Rattle.std.proofs.lemmas.Bool.{cases_lt}
use Rattle.simulation.specs.Outcome as Run
use Rattle.simulation.specs.Outcome.{Lines, Outcome, Gives, Ends, Unfinished, upto, ending_in as last_in}
use Rattle.meaning.specs.Trace.{Entry, Call, Return, Born, Read, Write, Print, Asked, Ending, Turns, StackLimit, HeapLimit, World, Mark, state, entered, ended, copied, Trace, Turn, Note, Seen, End, Cut}
use Rattle.meaning.specs.Meaning.{whole, beginning, trace}
use Rattle.meaning.specs.Output.{Limits, used_by, tail_of, Sight, Last, last, out}
use Rattle.meaning.specs.Journal.{entries, entries_within, with_entry, journal_in, bytes_in, with_ask, asks_in, ending_of, meaning_of}
use Rattle.meaning_laws.specs.Laws.{Begins, Extends, LongerRunsExtend, LongerCappedExtend, LongerSourcesExtend, FuelIsEnough, Shows, SourceShowsJournal, heap_after, Under, Fuelled, Later, IsOther, Always, OnlyLater, VariablesStay}
use Rattle.meaning_laws.proofs.Later.{later_same, later_trans}
use Rattle.meaning_laws.proofs.Family.{Family}
use Rattle.meaning_laws.proofs.Holding.{whole_holds}

-- fuel
fuelled_less : (n : ℕ) (t : Trace) → Fuelled (suc n) t → Fuelled n t
fuelled_less zero t h = tt
fuelled_less (suc n) (Turn t) h = fuelled_less n t h
fuelled_less (suc n) (Note x t) h = fuelled_less (suc n) t h
fuelled_less (suc n) (Seen m t) h = fuelled_less (suc n) t h
fuelled_less (suc n) (End e) h = tt
fuelled_less (suc n) Cut h = h

fuelled_turn : (b : ℕ) (t : Trace) → Fuelled (b - 1) t → Fuelled b (Turn t)
fuelled_turn zero t h = tt
fuelled_turn (suc b) t h = let e : suc b - 1 ≡ b = omega arith in subst (λ n. Fuelled n t) e h

fuelled_note : (b : ℕ) (x : Entry) (t : Trace) → Fuelled b t → Fuelled b (Note x t)
fuelled_note zero x t h = tt
fuelled_note (suc b) x t h = h

fuelled_seen : (b : ℕ) (m : Mark) (t : Trace) → Fuelled b t → Fuelled b (Seen m t)
fuelled_seen zero m t h = tt
fuelled_seen (suc b) m t h = h

fuelled_end : (b : ℕ) (e : Ending) → Fuelled b (End e)
fuelled_end zero e = tt
fuelled_end (suc b) e = tt

fuelled_fewer : (n b : ℕ) (t : Trace) → b ≤ n → Fuelled n t → Fuelled b t
fuelled_fewer zero b t le h = let e : 0 ≡ b = omega arith in subst (λ m. Fuelled m t) e h
fuelled_fewer (suc n) b t le h =
    elim (cases_lt n b) [
      | inl lt ↦ (let e : suc n ≡ b = omega arith in subst (λ m. Fuelled m t) e h)
      | inr ge ↦ fuelled_fewer n b t ge (fuelled_less n t h)
    ]

-- the run with less fuel is under that with more, and lasts as long as its fuel
abbrev lasting : Family
lasting = record {
  Holds = λ b w s t. Under s t × Fuelled b s;
  turns = λ b w s t h. (h.0, fuelled_turn b s h.1);
  notes = λ b w e s t h. ((refl, h.0), fuelled_note b e s h.1);
  sees = λ b w vs us s t h. (h.0, fuelled_seen b (state w vs) s h.1);
  marks = λ b w m is s t h. (h.0, fuelled_seen b m s h.1);
  later = λ b w u s t l h. h;
  fewer = λ b n w s t le h. (h.0, fuelled_fewer n b s le h.1);
  ends = λ b w e. (refl, fuelled_end b e);
  cuts = λ w t. (tt, tt);
}

fuelled_same : (n : ℕ) (s t : Trace) → Fuelled (suc n) s → Under s t → upto n (entries s) ≡ upto n (entries t)
fuelled_same n Cut t f h = absurd f
fuelled_same zero (Turn s) (Turn t) f h = refl
fuelled_same (suc n) (Turn s) (Turn t) f h = fuelled_same n s t f h
fuelled_same n (Note x s) (Note y t) f h = ap (λ z. Gives z (upto n (entries s))) h.0 ∙ ap (Gives y) (fuelled_same n s t f h.1)
fuelled_same n (Seen x s) (Seen y t) f h = fuelled_same n s t f h
fuelled_same n (End e) (End d) f h = ap Ends h
fuelled_same n (Turn s) (Note x t) f h = absurd h
fuelled_same n (Turn s) (Seen x t) f h = absurd h
fuelled_same n (Turn s) (End e) f h = absurd h
fuelled_same n (Turn s) Cut f h = absurd h
fuelled_same n (Note x s) (Turn t) f h = absurd h
fuelled_same n (Note x s) (Seen y t) f h = absurd h
fuelled_same n (Note x s) (End e) f h = absurd h
fuelled_same n (Note x s) Cut f h = absurd h
fuelled_same n (Seen x s) (Turn t) f h = absurd h
fuelled_same n (Seen x s) (Note y t) f h = absurd h
fuelled_same n (Seen x s) (End e) f h = absurd h
fuelled_same n (Seen x s) Cut f h = absurd h
fuelled_same n (End e) (Turn t) f h = absurd h
fuelled_same n (End e) (Note x t) f h = absurd h
fuelled_same n (End e) (Seen x t) f h = absurd h
fuelled_same n (End e) Cut f h = absurd h

pub fuel_is_enough : FuelIsEnough
fuel_is_enough items p n k =
    let h = whole_holds lasting items p (suc n) (suc n + k) (omega arith) beginning in
    fuelled_same n (whole items p (suc n) beginning) (whole items p (suc n + k) beginning) h.1 h.0

-- the first shows what the second shows, or stops earlier
abbrev Below : Outcome Entry Ending → Outcome Entry Ending → Type 0
Below o p = Run.Below (λ x y. x ≡ y) (λ x y. x ≡ y) o p

abbrev BelowShown : Outcome Sight Last → Outcome Sight Last → Type 0
BelowShown o p = Run.Below (λ x y. x ≡ y) (λ x y. x ≡ y) o p

-- more turns, and more fuel
under_below : (n m : ℕ) → n ≤ m → (s t : Trace) → Under s t → Below (upto n (entries s)) (upto m (entries t))
under_below n m le Cut t h = tt
under_below zero m le (Turn s) (Turn t) h = tt
under_below (suc n) zero le (Turn s) (Turn t) h = absurd (omega arith)
under_below (suc n) (suc m) le (Turn s) (Turn t) h = under_below n m (omega arith) s t h
under_below n m le (Note x s) (Note y t) h = (h.0, under_below n m le s t h.1)
under_below n m le (Seen x s) (Seen y t) h = under_below n m le s t h
under_below n m le (End e) (End f) h = h
under_below n m le (Turn s) (Note x t) h = absurd h
under_below n m le (Turn s) (Seen x t) h = absurd h
under_below n m le (Turn s) (End e) h = absurd h
under_below n m le (Turn s) Cut h = absurd h
under_below n m le (Note x s) (Turn t) h = absurd h
under_below n m le (Note x s) (Seen y t) h = absurd h
under_below n m le (Note x s) (End e) h = absurd h
under_below n m le (Note x s) Cut h = absurd h
under_below n m le (Seen x s) (Turn t) h = absurd h
under_below n m le (Seen x s) (Note y t) h = absurd h
under_below n m le (Seen x s) (End e) h = absurd h
under_below n m le (Seen x s) Cut h = absurd h
under_below n m le (End e) (Turn t) h = absurd h
under_below n m le (End e) (Note x t) h = absurd h
under_below n m le (End e) (Seen x t) h = absurd h
under_below n m le (End e) Cut h = absurd h

-- the same under limits
no_last : (heap : ℕ) (x : Last) → (let none : Option Last = None in none ≡ Some x) → x.heap ≡ heap
no_last heap x e = absurd cc

last_there : (y x : Last) → Some y ≡ Some x → x.heap ≡ y.heap
last_there y x e = let same : y ≡ x = cc in ap (λ (z : Last). z.heap) (sym same)

module _ (l : Limits) where
  within_note : (n m : ℕ) (x : Entry) (s t : Trace) → ((calls : List ℕ) (heap : ℕ) → Below (upto n (entries_within l calls heap s)) (upto m (entries_within l calls heap t))) → (calls : List ℕ) (heap : ℕ) → Below (upto n (entries_within l calls heap (Note x s))) (upto m (entries_within l calls heap (Note x t)))
  within_note n m Return s t h calls heap = (refl, h (tail_of calls) heap)
  within_note n m (Born site k) s t h calls heap =
      let cut : Lines Entry Ending = Run.End (HeapLimit heap k l.heap_max) in
      elim (l.on_heap site) as (λ q. Below (upto n (if q then (if nat_le (heap + k) l.heap_max then Run.Line (Born site k) (entries_within l calls (heap + k) s) else cut) else Run.Line (Born site k) (entries_within l calls heap s)))
      (upto m (if q then (if nat_le (heap + k) l.heap_max then Run.Line (Born site k) (entries_within l calls (heap + k) t) else cut) else Run.Line (Born site k) (entries_within l calls heap t)))) [
        | true ↦
            elim (nat_le (heap + k) l.heap_max) as (λ o. Below (upto n (if o then Run.Line (Born site k) (entries_within l calls (heap + k) s) else cut)) (upto m (if o then Run.Line (Born site k) (entries_within l calls (heap + k) t) else cut)))
            [ true ↦ (refl, h calls (heap + k)) | false ↦ refl ]
        | false ↦ (refl, h calls heap)
      ]
  within_note n m (Read v path k) s t h calls heap = (refl, h calls heap)
  within_note n m (Write v path k) s t h calls heap = (refl, h calls heap)
  within_note n m (Print bytes) s t h calls heap = (refl, h calls heap)
  within_note n m Asked s t h calls heap = (refl, h calls heap)
  within_note n m (Call f) s t h calls heap =
      let cut : Lines Entry Ending = Run.End (StackLimit (used_by l calls) (l.frame f) l.stack_max) in
      elim (nat_le (used_by l calls + l.frame f) l.stack_max) as (λ o. Below (upto n (if o then Run.Line (Call f) (entries_within l (f ∷ calls) heap s) else cut)) (upto m (if o then Run.Line (Call f) (entries_within l (f ∷ calls) heap t) else cut)))
      [ true ↦ (refl, h (f ∷ calls) heap) | false ↦ refl ]

  within_below : (n m : ℕ) → n ≤ m → (s t : Trace) → Under s t → (calls : List ℕ) (heap : ℕ) → Below (upto n (entries_within l calls heap s)) (upto m (entries_within l calls heap t))
  within_below n m le Cut t h calls heap = tt
  within_below zero m le (Turn s) (Turn t) h calls heap = tt
  within_below (suc n) zero le (Turn s) (Turn t) h calls heap = absurd (omega arith)
  within_below (suc n) (suc m) le (Turn s) (Turn t) h calls heap = within_below n m (omega arith) s t h calls heap
  within_below n m le (End e) (End f) h calls heap = h
  within_below n m le (Seen x s) (Seen y t) h calls heap = within_below n m le s t h calls heap
  within_below n m le (Note x s) (Note y t) h calls heap =
      subst (λ e. Below (upto n (entries_within l calls heap (Note x s))) (upto m (entries_within l calls heap (Note e t)))) h.0 (within_note n m x s t (within_below n m le s t h.1) calls heap)
  within_below n m le (Turn s) (Note x t) h calls heap = absurd h
  within_below n m le (Turn s) (Seen x t) h calls heap = absurd h
  within_below n m le (Turn s) (End e) h calls heap = absurd h
  within_below n m le (Turn s) Cut h calls heap = absurd h
  within_below n m le (Note x s) (Turn t) h calls heap = absurd h
  within_below n m le (Note x s) (Seen y t) h calls heap = absurd h
  within_below n m le (Note x s) (End e) h calls heap = absurd h
  within_below n m le (Note x s) Cut h calls heap = absurd h
  within_below n m le (Seen x s) (Turn t) h calls heap = absurd h
  within_below n m le (Seen x s) (Note y t) h calls heap = absurd h
  within_below n m le (Seen x s) (End e) h calls heap = absurd h
  within_below n m le (Seen x s) Cut h calls heap = absurd h
  within_below n m le (End e) (Turn t) h calls heap = absurd h
  within_below n m le (End e) (Note x t) h calls heap = absurd h
  within_below n m le (End e) (Seen x t) h calls heap = absurd h
  within_below n m le (End e) Cut h calls heap = absurd h

  -- what a source shows
  out_note : (n m : ℕ) (x : Entry) (s t : Trace) → ((calls : List ℕ) (heap : ℕ) → BelowShown (upto n (out l calls heap s)) (upto m (out l calls heap t))) → (calls : List ℕ) (heap : ℕ) → BelowShown (upto n (out l calls heap (Note x s))) (upto m (out l calls heap (Note x t)))
  out_note n m Return s t h calls heap = h (tail_of calls) heap
  out_note n m (Born site k) s t h calls heap =
      let cut : Lines Sight Last = Run.End (last heap (HeapLimit heap k l.heap_max)) in
      elim (l.on_heap site) as (λ q. BelowShown (upto n (if q then (if nat_le (heap + k) l.heap_max then out l calls (heap + k) s else cut) else out l calls heap s))
      (upto m (if q then (if nat_le (heap + k) l.heap_max then out l calls (heap + k) t else cut) else out l calls heap t))) [
        | true ↦
            elim (nat_le (heap + k) l.heap_max) as (λ o. BelowShown (upto n (if o then out l calls (heap + k) s else cut)) (upto m (if o then out l calls (heap + k) t else cut)))
            [ true ↦ h calls (heap + k) | false ↦ refl ]
        | false ↦ h calls heap
      ]
  out_note n m (Read v path k) s t h calls heap = h calls heap
  out_note n m (Write v path k) s t h calls heap = h calls heap
  out_note n m (Print bytes) s t h calls heap = (refl, h calls heap)
  out_note n m Asked s t h calls heap = (refl, h calls heap)
  out_note n m (Call f) s t h calls heap =
      let cut : Lines Sight Last = Run.End (last heap (StackLimit (used_by l calls) (l.frame f) l.stack_max)) in
      elim (nat_le (used_by l calls + l.frame f) l.stack_max) as (λ o. BelowShown (upto n (if o then out l (f ∷ calls) heap s else cut)) (upto m (if o then out l (f ∷ calls) heap t else cut)))
      [ true ↦ h (f ∷ calls) heap | false ↦ refl ]

  out_below : (n m : ℕ) → n ≤ m → (s t : Trace) → Under s t → (calls : List ℕ) (heap : ℕ) → BelowShown (upto n (out l calls heap s)) (upto m (out l calls heap t))
  out_below n m le Cut t h calls heap = tt
  out_below zero m le (Turn s) (Turn t) h calls heap = tt
  out_below (suc n) zero le (Turn s) (Turn t) h calls heap = absurd (omega arith)
  out_below (suc n) (suc m) le (Turn s) (Turn t) h calls heap = out_below n m (omega arith) s t h calls heap
  out_below n m le (End e) (End f) h calls heap = ap (last heap) h
  out_below n m le (Seen x s) (Seen y t) h calls heap = out_below n m le s t h calls heap
  out_below n m le (Note x s) (Note y t) h calls heap =
      subst (λ e. BelowShown (upto n (out l calls heap (Note x s))) (upto m (out l calls heap (Note e t)))) h.0 (out_note n m x s t (out_below n m le s t h.1) calls heap)
  out_below n m le (Turn s) (Note x t) h calls heap = absurd h
  out_below n m le (Turn s) (Seen x t) h calls heap = absurd h
  out_below n m le (Turn s) (End e) h calls heap = absurd h
  out_below n m le (Turn s) Cut h calls heap = absurd h
  out_below n m le (Note x s) (Turn t) h calls heap = absurd h
  out_below n m le (Note x s) (Seen y t) h calls heap = absurd h
  out_below n m le (Note x s) (End e) h calls heap = absurd h
  out_below n m le (Note x s) Cut h calls heap = absurd h
  out_below n m le (Seen x s) (Turn t) h calls heap = absurd h
  out_below n m le (Seen x s) (Note y t) h calls heap = absurd h
  out_below n m le (Seen x s) (End e) h calls heap = absurd h
  out_below n m le (Seen x s) Cut h calls heap = absurd h
  out_below n m le (End e) (Turn t) h calls heap = absurd h
  out_below n m le (End e) (Note x t) h calls heap = absurd h
  out_below n m le (End e) (Seen x t) h calls heap = absurd h
  out_below n m le (End e) Cut h calls heap = absurd h

  -- what is shown
  shows_note : (n : ℕ) (x : Entry) (t : Trace) → ((calls : List ℕ) (heap : ℕ) → Shows l heap (upto n (out l calls heap t)) (meaning_of (upto n (entries_within l calls heap t)))) → (calls : List ℕ) (heap : ℕ) → Shows l heap (upto n (out l calls heap (Note x t))) (meaning_of (upto n (entries_within l calls heap (Note x t))))
  shows_note n Return t h calls heap = let s = h (tail_of calls) heap in record { printed = s.printed; ending = s.ending; taken = s.taken }
  shows_note n (Born site k) t h calls heap =
      let cut : Lines Sight Last = Run.End (last heap (HeapLimit heap k l.heap_max)) in
      let cut' : Lines Entry Ending = Run.End (HeapLimit heap k l.heap_max) in
      let more : Bool → List Entry → ℕ = λ q es. heap_after l (if q then heap + k else heap) es in
      elim (l.on_heap site) as (λ q. l.on_heap site ≡ q → Shows l heap (upto n (if q then (if nat_le (heap + k) l.heap_max then out l calls (heap + k) t else cut) else out l calls heap t))
      (meaning_of (upto n (if q then (if nat_le (heap + k) l.heap_max then Run.Line (Born site k) (entries_within l calls (heap + k) t) else cut') else Run.Line (Born site k) (entries_within l calls heap t))))) [
        | true ↦ λ is.
            elim (nat_le (heap + k) l.heap_max) as (λ o. Shows l heap (upto n (if o then out l calls (heap + k) t else cut)) (meaning_of (upto n (if o then Run.Line (Born site k) (entries_within l calls (heap + k) t) else cut')))) [
              | true ↦ let s = h calls (heap + k) in let es = journal_in (upto n (entries_within l calls (heap + k) t)) in
                  record { printed = s.printed; ending = s.ending; taken = λ x e. s.taken x e ∙ ap (λ q. more q es) (sym is) }
              | false ↦ record { printed = refl; ending = refl; taken = last_there (last heap (HeapLimit heap k l.heap_max)) }
            ]
        | false ↦ λ is. let s = h calls heap in let es = journal_in (upto n (entries_within l calls heap t)) in
            record { printed = s.printed; ending = s.ending; taken = λ x e. s.taken x e ∙ ap (λ q. more q es) (sym is) }
      ] refl
  shows_note n (Read v path k) t h calls heap = let s = h calls heap in record { printed = s.printed; ending = s.ending; taken = s.taken }
  shows_note n (Write v path k) t h calls heap = let s = h calls heap in record { printed = s.printed; ending = s.ending; taken = s.taken }
  shows_note n (Print bytes) t h calls heap = let s = h calls heap in record { printed = ap (λ r. bytes ++ r) s.printed; ending = s.ending; taken = s.taken }
  shows_note n Asked t h calls heap = let s = h calls heap in record { printed = s.printed; ending = s.ending; taken = s.taken }
  shows_note n (Call f) t h calls heap =
      let cut : Lines Sight Last = Run.End (last heap (StackLimit (used_by l calls) (l.frame f) l.stack_max)) in
      let cut' : Lines Entry Ending = Run.End (StackLimit (used_by l calls) (l.frame f) l.stack_max) in
      elim (nat_le (used_by l calls + l.frame f) l.stack_max) as (λ o. Shows l heap (upto n (if o then out l (f ∷ calls) heap t else cut)) (meaning_of (upto n (if o then Run.Line (Call f) (entries_within l (f ∷ calls) heap t) else cut')))) [
        | true ↦ let s = h (f ∷ calls) heap in record { printed = s.printed; ending = s.ending; taken = s.taken }
        | false ↦ record { printed = refl; ending = refl; taken = last_there (last heap (StackLimit (used_by l calls) (l.frame f) l.stack_max)) }
      ]

  shows : (n : ℕ) (t : Trace) (calls : List ℕ) (heap : ℕ) → Shows l heap (upto n (out l calls heap t)) (meaning_of (upto n (entries_within l calls heap t)))
  shows n Cut calls heap = record { printed = refl; ending = refl; taken = no_last heap }
  shows zero (Turn t) calls heap = record { printed = refl; ending = refl; taken = no_last heap }
  shows (suc n) (Turn t) calls heap = let s = shows n t calls heap in record { printed = s.printed; ending = s.ending; taken = s.taken }
  shows n (End e) calls heap = record { printed = refl; ending = refl; taken = last_there (last heap e) }
  shows n (Seen m t) calls heap = let s = shows n t calls heap in record { printed = s.printed; ending = s.ending; taken = s.taken }
  shows n (Note x t) calls heap = shows_note n x t (shows n t) calls heap

pub source_shows_journal : SourceShowsJournal
source_shows_journal items p l n = shows l n (trace items p n) [] 0

-- in the words of a reader
entry_begins : (x : Entry) (es fs : List Entry) → Begins es fs → Begins (with_entry x es) (with_entry x fs)
entry_begins (Call f) es fs r = (r.0, ap (λ l. Call f ∷ l) r.1)
entry_begins Return es fs r = (r.0, ap (λ l. Return ∷ l) r.1)
entry_begins (Born site n) es fs r = (r.0, ap (λ l. Born site n ∷ l) r.1)
entry_begins (Read v path n) es fs r = (r.0, ap (λ l. Read v path n ∷ l) r.1)
entry_begins (Write v path n) es fs r = (r.0, ap (λ l. Write v path n ∷ l) r.1)
entry_begins (Print bytes) es fs r = (r.0, ap (λ l. Print bytes ∷ l) r.1)
entry_begins Asked es fs r = r

entries_begin : (o p : Outcome Entry Ending) → Below o p → Begins (journal_in o) (journal_in p)
entries_begin Unfinished p h = (journal_in p, refl)
entries_begin (Ends e) (Ends f) h = ([], refl)
entries_begin (Ends e) (Gives x p) h = absurd h
entries_begin (Ends e) Unfinished h = absurd h
entries_begin (Gives x o) (Ends f) h = absurd h
entries_begin (Gives x o) Unfinished h = absurd h
entries_begin (Gives x o) (Gives y p) h =
    subst (λ z. Begins (with_entry x (journal_in o)) (with_entry z (journal_in p))) h.0 (entry_begins x (journal_in o) (journal_in p) (entries_begin o p h.1))

pub ask_begins : (x : Entry) (before : List ℕ) (es fs : List (List ℕ)) → Begins es fs → Begins (with_ask x before es) (with_ask x before fs)
ask_begins (Call f) before es fs r = r
ask_begins Return before es fs r = r
ask_begins (Born site n) before es fs r = r
ask_begins (Read v path n) before es fs r = r
ask_begins (Write v path n) before es fs r = r
ask_begins (Print bytes) before es fs r = r
ask_begins Asked before es fs r = (r.0, ap (λ l. before ∷ l) r.1)

asks_begin : (before : List ℕ) (o p : Outcome Entry Ending) → Below o p → Begins (asks_in before o) (asks_in before p)
asks_begin before Unfinished p h = (asks_in before p, refl)
asks_begin before (Ends e) (Ends f) h = ([], refl)
asks_begin before (Ends e) (Gives x p) h = absurd h
asks_begin before (Ends e) Unfinished h = absurd h
asks_begin before (Gives x o) (Ends f) h = absurd h
asks_begin before (Gives x o) Unfinished h = absurd h
asks_begin before (Gives x o) (Gives y p) h =
    let behind : List ℕ = before ++ bytes_in x in
    subst (λ z. Begins (with_ask x before (asks_in behind o)) (with_ask z before (asks_in (before ++ bytes_in z) p))) h.0 (ask_begins x before (asks_in behind o) (asks_in behind p) (asks_begin behind o p h.1))

kept_whole : (o p : Outcome Entry Ending) → Below o p → ending_of o ≢ Turns → p ≡ o
kept_whole Unfinished p h q = absurd (q refl)
kept_whole (Ends e) (Ends f) h q = ap Ends (sym h)
kept_whole (Ends e) (Gives x p) h q = absurd h
kept_whole (Ends e) Unfinished h q = absurd h
kept_whole (Gives x o) (Ends f) h q = absurd h
kept_whole (Gives x o) Unfinished h q = absurd h
kept_whole (Gives x o) (Gives y p) h q = ap (λ z. Gives z p) (sym h.0) ∙ ap (Gives x) (kept_whole o p h.1 q)

extends : (o p : Outcome Entry Ending) → Below o p → Extends (meaning_of o) (meaning_of p)
extends o p h = record { journal = entries_begin o p h; asks = asks_begin [] o p h; kept = λ q. ap meaning_of (kept_whole o p h q) }

pub longer_runs_extend : LongerRunsExtend
longer_runs_extend items p n m le =
    let h = whole_holds lasting items p (suc n) (suc m) (omega arith) beginning in
    extends _ _ (under_below n m le (trace items p n) (trace items p m) h.0)

pub longer_capped_extend : LongerCappedExtend
longer_capped_extend items p l n m le =
    let h = whole_holds lasting items p (suc n) (suc m) (omega arith) beginning in
    extends _ _ (within_below l n m le (trace items p n) (trace items p m) h.0 [] 0)

pub longer_sources_extend : LongerSourcesExtend
longer_sources_extend items p l n m le =
    let h = whole_holds lasting items p (suc n) (suc m) (omega arith) beginning in
    out_below l n m le (trace items p n) (trace items p m) h.0 [] 0

-- variables stay
always_later : (w u : World) → Later w u → (t : Trace) → Always (Later u) t → Always (Later w) t
always_later w u l (Turn t) h = always_later w u l t h
always_later w u l (Note e t) h = always_later w u l t h
always_later w u l (Seen (state v vs) t) h = (later_trans w u v l h.0, always_later w u l t h.1)
always_later w u l (Seen (entered v vs) t) h = always_later w u l t h
always_later w u l (Seen (ended n) t) h = always_later w u l t h
always_later w u l (Seen (copied v) t) h = always_later w u l t h
always_later w u l (End e) h = tt
always_later w u l Cut h = tt

stay_mark : (w : World) (m : Mark) → IsOther m → (s : Trace) → Always (Later w) s × OnlyLater s → Always (Later w) (Seen m s) × OnlyLater (Seen m s)
stay_mark w (state u vs) is s h = absurd is
stay_mark w (entered u vs) is s h = h
stay_mark w (ended n) is s h = h
stay_mark w (copied v) is s h = h

abbrev staying : Family
staying = record {
  Holds = λ b w s t. Always (Later w) s × OnlyLater s;
  turns = λ b w s t h. h;
  notes = λ b w e s t h. h;
  sees = λ b w vs us s t h. ((later_same w, h.0), (h.0, h.1));
  marks = λ b w m is s t h. stay_mark w m is s h;
  later = λ b w u s t l h. (always_later w u l s h.0, h.1);
  fewer = λ b n w s t le h. h;
  ends = λ b w e. (tt, tt);
  cuts = λ w t. (tt, tt);
}

pub variables_stay : VariablesStay
variables_stay items p n = (whole_holds staying items p (suc n) (suc n) (omega arith) beginning).1
