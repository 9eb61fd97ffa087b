-- Under limits a run is the one without them, cut before the first entry that would pass one.
use Rattle.std.proofs.Common.{◌≡◌, ◌⊎◌, inl, inr, ℕ, zero, suc, ◌+◌, List, [], ◌∷◌, ◌++◌, Option, Some, None, true, false, refl, sym, ap, ◌∙◌, subst}
use Rattle.std.specs.Prelude.{nat_le, if◌then◌else◌}
use Rattle.simulation.specs.Outcome as Run
use Rattle.simulation.specs.Outcome.{Lines, Outcome, Gives, Ends, Unfinished, upto}
use Rattle.meaning.specs.Trace.{Entry, Call, Return, Born, Read, Write, Print, Asked, Ending, StackLimit, HeapLimit, Trace, Turn, Note, Seen, End, Cut}
use Rattle.meaning.specs.Meaning.{trace}
use Rattle.meaning.specs.Output.{Limits, used_by}
use Rattle.meaning.specs.Journal.{entries, entries_within, with_entry, journal_in, bytes_in, asks_in, ending_of, meaning_of}
use Rattle.meaning_laws.specs.Laws.{Begins, calls_with, heap_with, calls_after, heap_after, limit_at, Within, LimitsCut}
use Rattle.meaning_laws.proofs.Runs.{ask_begins}

some_limit : {e : Ending} → None ≡ Some e → ⊥
some_limit h = cc

-- an entry that would pass a limit ends the run
abbrev stopped : Option Ending → Lines Entry Ending → Lines Entry Ending
stopped None t = t
stopped (Some e) t = Run.End e

module _ (l : Limits) where
  note_is : (x : Entry) (t : Trace) (calls : List ℕ) (heap : ℕ) → entries_within l calls heap (Note x t) ≡ stopped (limit_at l calls heap x) (Run.Line x (entries_within l (calls_with calls x) (heap_with l heap x) t))
  note_is (Call f) t calls heap =
      let cut : Ending = StackLimit (used_by l calls) (l.frame f) l.stack_max in
      let goes : Lines Entry Ending = Run.Line (Call f) (entries_within l (f ∷ calls) heap t) in
      elim (nat_le (used_by l calls + l.frame f) l.stack_max) as (λ b. (if b then goes else Run.End cut) ≡ stopped (if b then None else Some cut) goes) [ true ↦ refl | false ↦ refl ]
  note_is (Born site n) t calls heap =
      let cut : Ending = HeapLimit heap n l.heap_max in
      let grown : Lines Entry Ending = Run.Line (Born site n) (entries_within l calls (heap + n) t) in
      let goes : Lines Entry Ending = Run.Line (Born site n) (entries_within l calls heap t) in
      elim (l.on_heap site) as (λ q. (if q then (if nat_le (heap + n) l.heap_max then grown else Run.End cut) else goes)
      ≡ stopped (if q then (if nat_le (heap + n) l.heap_max then None else Some cut) else None) (Run.Line (Born site n) (entries_within l calls (if q then heap + n else heap) t))) [
        | true ↦ elim (nat_le (heap + n) l.heap_max) as (λ b. (if b then grown else Run.End cut) ≡ stopped (if b then None else Some cut) grown) [ true ↦ refl | false ↦ refl ]
        | false ↦ refl
      ]
  note_is Return t calls heap = refl
  note_is (Read v path n) t calls heap = refl
  note_is (Write v path n) t calls heap = refl
  note_is (Print bytes) t calls heap = refl
  note_is Asked t calls heap = refl

  -- what stands in the journal
  abbrev Plain : Entry → Type 0
  Plain x = (es : List Entry) → with_entry x es ≡ x ∷ es

  plain_limit : (x : Entry) (calls : List ℕ) (heap : ℕ) (e : Ending) → limit_at l calls heap x ≡ Some e → Plain x
  plain_limit (Call f) calls heap e h = λ es. refl
  plain_limit (Born site n) calls heap e h = λ es. refl
  plain_limit Return calls heap e h = λ es. refl
  plain_limit (Read v path n) calls heap e h = λ es. refl
  plain_limit (Write v path n) calls heap e h = λ es. refl
  plain_limit (Print bytes) calls heap e h = λ es. refl
  plain_limit Asked calls heap e h = absurd (some_limit h)

  -- the same from some running calls and words of the heap on
  record CutFrom (calls : List ℕ) (heap : ℕ) (o c : Outcome Entry Ending) : Type 0 where
    entry : Entry
    rest : List Entry
    journal : journal_in o ≡ journal_in c ++ entry ∷ rest
    within : Within l calls heap (journal_in c)
    limit : limit_at l (calls_after calls (journal_in c)) (heap_after l heap (journal_in c)) entry ≡ Some (ending_of c)
    asks : (before : List ℕ) → Begins (asks_in before c) (asks_in before o)

  abbrev IsCutFrom : List ℕ → ℕ → Outcome Entry Ending → Outcome Entry Ending → Type 0
  IsCutFrom calls heap o c = (Within l calls heap (journal_in o) × (c ≡ o)) ⊎ CutFrom calls heap o c

  plain_kept : (x : Entry) → Plain x → (calls : List ℕ) (heap : ℕ) (o c : Outcome Entry Ending) → limit_at l calls heap x ≡ None
      → IsCutFrom (calls_with calls x) (heap_with l heap x) o c → IsCutFrom calls heap (Gives x o) (Gives x c)
  plain_kept x plain calls heap o c none (inl h) = inl (subst (λ (es : List Entry). Within l calls heap es) (sym (plain (journal_in o))) (none, h.0), ap (Gives x) h.1)
  plain_kept x plain calls heap o c none (inr f) = inr (record {
    entry = f.entry;
    rest = f.rest;
    journal = plain (journal_in o) ∙ ap (λ es. x ∷ es) f.journal ∙ ap (λ es. es ++ f.entry ∷ f.rest) (sym (plain (journal_in c)));
    within = subst (λ (es : List Entry). Within l calls heap es) (sym (plain (journal_in c))) (none, f.within);
    limit = subst (λ (es : List Entry). limit_at l (calls_after calls es) (heap_after l heap es) f.entry ≡ Some (ending_of c)) (sym (plain (journal_in c))) f.limit;
    asks = λ before. ask_begins x before _ _ (f.asks (before ++ bytes_in x));
  })

  kept : (x : Entry) (calls : List ℕ) (heap : ℕ) (o c : Outcome Entry Ending) → limit_at l calls heap x ≡ None
      → IsCutFrom (calls_with calls x) (heap_with l heap x) o c → IsCutFrom calls heap (Gives x o) (Gives x c)
  kept (Call f) calls heap o c none h = plain_kept (Call f) (λ es. refl) calls heap o c none h
  kept Return calls heap o c none h = plain_kept Return (λ es. refl) calls heap o c none h
  kept (Born site n) calls heap o c none h = plain_kept (Born site n) (λ es. refl) calls heap o c none h
  kept (Read v path n) calls heap o c none h = plain_kept (Read v path n) (λ es. refl) calls heap o c none h
  kept (Write v path n) calls heap o c none h = plain_kept (Write v path n) (λ es. refl) calls heap o c none h
  kept (Print bytes) calls heap o c none h = plain_kept (Print bytes) (λ es. refl) calls heap o c none h
  kept Asked calls heap o c none (inl h) = inl (h.0, ap (Gives Asked) h.1)
  kept Asked calls heap o c none (inr f) = inr (record { entry = f.entry; rest = f.rest; journal = f.journal; within = f.within; limit = f.limit; asks = λ before. ask_begins Asked before _ _ (f.asks (before ++ [])) })

  -- an entry, where this is what it would pass
  noted : (n : ℕ) (x : Entry) (calls : List ℕ) (heap : ℕ) (s t : Lines Entry Ending) (o : Option Ending) → limit_at l calls heap x ≡ o
      → IsCutFrom (calls_with calls x) (heap_with l heap x) (upto n s) (upto n t) → IsCutFrom calls heap (Gives x (upto n s)) (upto n (stopped o (Run.Line x t)))
  noted n x calls heap s t None is h = kept x calls heap (upto n s) (upto n t) is h
  noted n x calls heap s t (Some e) is h = inr (record {
    entry = x;
    rest = journal_in (upto n s);
    journal = plain_limit x calls heap e is (journal_in (upto n s));
    within = tt;
    limit = is;
    asks = λ before. (asks_in before (Gives x (upto n s)), refl);
  })

  cut_from : (n : ℕ) (t : Trace) (calls : List ℕ) (heap : ℕ) → IsCutFrom calls heap (upto n (entries t)) (upto n (entries_within l calls heap t))
  cut_from n Cut calls heap = inl (tt, refl)
  cut_from zero (Turn t) calls heap = inl (tt, refl)
  cut_from (suc n) (Turn t) calls heap = cut_from n t calls heap
  cut_from n (End e) calls heap = inl (tt, refl)
  cut_from n (Seen m t) calls heap = cut_from n t calls heap
  cut_from n (Note x t) calls heap =
      subst (λ (s : Lines Entry Ending). IsCutFrom calls heap (Gives x (upto n (entries t))) (upto n s)) (sym (note_is x t calls heap))
      (noted n x calls heap (entries t) (entries_within l (calls_with calls x) (heap_with l heap x) t) (limit_at l calls heap x) refl (cut_from n t (calls_with calls x) (heap_with l heap x)))

pub limits_cut : LimitsCut
limits_cut items p l n = elim (cut_from l n (trace items p n) [] 0) [
  | inl h ↦ inl (h.0, ap meaning_of h.1)
  | inr f ↦ inr (record { entry = f.entry; rest = f.rest; journal = f.journal; within = f.within; limit = f.limit; asks = f.asks [] })
]
