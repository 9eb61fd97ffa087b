-- What a call read from the input, by what its parts read.
use Rattle.std.proofs.Common.{◌≡◌, ◌≢◌, ℕ, suc, Result, Ok, Err, append-nil, ◌+◌, ◌-◌, List, [], ◌∷◌, ◌++◌, Option, Some, None, length, take, drop, arith, refl, ap, sym, ◌∙◌, subst, length-append}
use Rattle.std.specs.Prelude.{IfSome, FitsSigned, OnOk, OnErr, Bool, true, false, not, ◌==◌, if◌then◌else◌, codes}
use Rattle.std.specs.Int.{w64}
use Rattle.std.proofs.lemmas.Bool.{eq-eqb}
use Rattle.std.proofs.lemmas.List.{take-append-drop, length-drop}
use Rattle.outside.specs.Causes.{HasCause}
use Rattle.outside.specs.Items.{Reads, Loses}
use Rattle.outside.specs.Puts.{Puts}
use Rattle.outside.specs.declared.fault.WriteFault.{WriteFault as Fault}
use Rattle.outside.proofs.Took.{Took-nothing}
use Rattle.outside.specs.Took.{Took}
use Rattle.simulation.specs.Steps.{Goes, Stops, events_of}
use Rattle.heap_bump.specs.Words.{Words}
use Rattle.isa.specs.Code.{Tables}
use Rattle.machine.specs.Machine.{Range, Last, State, Does, last_of, stops, slot, first_return, returns, frame_of, Event, Printed, Asked, Item, asks_in, prints, truth_bytes, reads_item, item_words, put_words}
use Rattle.machine.specs.Answers.{AllNumbers, Answers, Comes, HasFrom, ReadInOrder, ReadsUpTo, WithAnswers, printed_by, state_of}
use Rattle.machine.specs.declared.run_state.Next.{Next}
use Rattle.machine.specs.declared.run_state.RunState.{RunState}
use Rattle.machine.specs.declared.run_state.Ending.{Ending}
use Rattle.machine.specs.declared.run_state.Ending.TheVariants.{Exit, Panic, ReadFault, WriteFault, NoMemory, StackLimit, HeapLimit, WildAddress, WildReturn, WildLink, WildHeader}

has_front : (items : ℕ → Item) (n : ℕ) (a b : List Item) → HasFrom items n (a ++ b) → HasFrom items n a
has_front items n [] b h = tt
has_front items n (x ∷ a) b h = (h.0, has_front items (suc n) a b h.1)

has_rest : (items : ℕ → Item) (n : ℕ) (a b : List Item) → HasFrom items n (a ++ b) → HasFrom items (n + length a) b
has_rest items n [] b h = let same : n ≡ n + 0 = omega arith in subst (λ k. HasFrom items k b) same h
has_rest items n (x ∷ a) b h =
    let same : suc n + length a ≡ n + suc (length a) = omega arith in
    subst (λ k. HasFrom items k b) same (has_rest items (suc n) a b h.1)

read_more : (old mid new : Option (List ℕ)) (a b : List Item) → ReadInOrder old mid a → ReadInOrder mid new b → ReadInOrder old new (a ++ b)
read_more old mid new [] b p q = subst (λ o. ReadInOrder o new b) p q
read_more old mid new (x ∷ a) b p q = (p.0, p.1, read_more p.0 mid new a b p.2 q)

reads_more : (e : Option Ending) (old mid new : Option (List ℕ)) (a b : List Item) → ReadInOrder old mid a → ReadsUpTo e mid new b → ReadsUpTo e old new (a ++ b)
reads_more (Some ReadFault) old mid new a b p q = (q.0, read_more old mid q.0 a b p q.1, q.2)
reads_more e old mid new a b p q = read_more old mid new a b p q

all_more : (a b : List Item) → AllNumbers a → AllNumbers b → AllNumbers (a ++ b)
all_more [] b p q = q
all_more (x ∷ a) b p q = (p.0, all_more a b p.1 q)

nil_front : (a b : List Item) → a ++ b ≡ [] → a ≡ []
nil_front [] b e = refl
nil_front (x ∷ a) b e = absurd cc

nil_rest : (a b : List Item) → a ++ b ≡ [] → b ≡ []
nil_rest [] b e = e
nil_rest (x ∷ a) b e = absurd cc

pub goes_on_is_no_fault : let e : Option Ending = None in e ≢ Some ReadFault
goes_on_is_no_fault e = cc

-- two parts of a call, of which the first doesn't end it
pub joined : (e : Option Ending) (old mid new : Option (List ℕ)) (U V W : Type 0) (P Q R : (ℕ → Item) → ℕ → ℕ → Type 0) → WithAnswers None old mid U P → WithAnswers e mid new V Q
    → (U → V → W) → ((items : ℕ → Item) (reads a b : ℕ) → P items reads a → Q items (reads + a) b → R items reads (a + b)) → WithAnswers e old new W R
joined e old mid new U V W P Q R p q both goes = record {
  answers = p.answers ++ q.answers;
  numbers = all_more p.answers q.answers p.numbers q.numbers;
  read = reads_more e old mid new p.answers q.answers p.read q.read;
  unread = λ fine none. both (p.unread goes_on_is_no_fault (nil_front p.answers q.answers none)) (q.unread fine (nil_rest p.answers q.answers none));
  does = λ items reads has.
      rw (length-append p.answers q.answers)
      (goes items reads (length p.answers) (length q.answers) (p.does items reads (has_front items reads p.answers q.answers has)) (q.does items (reads + length p.answers) (has_rest items reads p.answers q.answers has)));
}

-- a claim that follows from another one
pub follows : (e : Option Ending) (old new : Option (List ℕ)) (U : Type 0) (P Q : (ℕ → Item) → ℕ → ℕ → Type 0) → WithAnswers e old new U P
    → ((items : ℕ → Item) (reads a : ℕ) → P items reads a → Q items reads a) → WithAnswers e old new U Q
follows e old new U P Q p goes = record { answers = p.answers; numbers = p.numbers; read = p.read; unread = p.unread; does = λ items reads has. goes items reads (length p.answers) (p.does items reads has) }

reads_nothing : (e : Option Ending) (old : Option (List ℕ)) → e ≢ Some ReadFault → ReadsUpTo e old old []
reads_nothing (Some ReadFault) old fine = absurd (fine refl)
reads_nothing e old fine = refl

pub nothing_read : (e : Option Ending) (old : Option (List ℕ)) (U : Type 0) (P : (ℕ → Item) → ℕ → ℕ → Type 0) → e ≢ Some ReadFault → U → ((items : ℕ → Item) (reads : ℕ) → P items reads 0) → WithAnswers e old old U P
nothing_read e old U P fine same goes = record { answers = []; numbers = tt; read = reads_nothing e old fine; unread = λ f n. same; does = λ items reads has. goes items reads }

one_is_not_none : (x : Item) → x ∷ [] ≢ []
one_is_not_none x e = cc

pub one_read : (answer : Item) (old new : Option (List ℕ)) (U : Type 0) (P : (ℕ → Item) → ℕ → ℕ → Type 0) → Reads old new answer → IfSome answer (FitsSigned w64) → ((items : ℕ → Item) (reads : ℕ) → items reads ≡ answer → P items reads 1) → WithAnswers None old new U P
one_read answer old new U P reads number goes = record {
  answers = answer ∷ [];
  numbers = (number, tt);
  read = (new, reads, refl);
  unread = λ f none. absurd (one_is_not_none answer none);
  does = λ items from has. goes items from has.0;
}

pub read_failed : (old new : Option (List ℕ)) (U : Type 0) (P : (ℕ → Item) → ℕ → ℕ → Type 0) → Loses old new → ((items : ℕ → Item) (reads : ℕ) → P items reads 0) → WithAnswers (Some ReadFault) old new U P
read_failed old new U P lost goes = record { answers = []; numbers = tt; read = (old, refl, lost); unread = λ fine n. absurd (fine refl); does = λ items reads has. goes items reads }

goes_quietly : (d : Does) (s : State) (taken : Option (List ℕ)) → d ≡ Goes [] s → (d ≡ Goes (events_of d) s) × Took taken taken (printed_by d) × (asks_in (events_of d) ≡ 0)
goes_quietly d s taken is =
    let told : events_of d ≡ [] = ap (λ (x : Does). events_of x) is in
    (is ∙ ap (λ (l : List Event). let x : Does = Goes l s in x) (sym told), rw told (Took-nothing taken), ap asks_in told)

stops_quietly : (d : Does) (e : Last) (taken : Option (List ℕ)) → d ≡ Stops [] e → (d ≡ Stops (events_of d) e) × Took taken taken (printed_by d) × (asks_in (events_of d) ≡ 0)
stops_quietly d e taken is =
    let told : events_of d ≡ [] = ap (λ (x : Does). events_of x) is in
    (is ∙ ap (λ (l : List Event). let x : Does = Stops l e in x) (sym told), rw told (Took-nothing taken), ap asks_in told)

-- a step that tells nothing, in a call that read nothing and left the sink
pub told_nothing : (d : Does) (s : State) (e : Option Ending) (taken : Option (List ℕ)) (faults : ℕ) → Comes d s e → Answers d s 0 e taken taken faults faults
told_nothing d s None taken faults c = goes_quietly d s taken c
told_nothing d s (Some ReadFault) taken faults c = absurd c
told_nothing d s (Some WriteFault) taken faults c = absurd c
told_nothing d s (Some NoMemory) taken faults c = ((printed_by d, record { done = []; splits = refl; took = Took-nothing taken }), omega arith)
told_nothing d s (Some (Exit n)) taken faults c = stops_quietly d (last_of s (Exit n)) taken c
told_nothing d s (Some (Panic x)) taken faults c = stops_quietly d (last_of s (Panic x)) taken c
told_nothing d s (Some (StackLimit used asked limit)) taken faults c = stops_quietly d (last_of s (StackLimit used asked limit)) taken c
told_nothing d s (Some (HeapLimit used asked limit)) taken faults c = stops_quietly d (last_of s (HeapLimit used asked limit)) taken c
told_nothing d s (Some (WildAddress n)) taken faults c = stops_quietly d (last_of s (WildAddress n)) taken c
told_nothing d s (Some (WildReturn n)) taken faults c = stops_quietly d (last_of s (WildReturn n)) taken c
told_nothing d s (Some (WildLink n)) taken faults c = stops_quietly d (last_of s (WildLink n)) taken c
told_nothing d s (Some (WildHeader n)) taken faults c = stops_quietly d (last_of s (WildHeader n)) taken c

-- a run that ends by its code, and not by a device or for want of memory
pub ended_so : (d : Does) (s : State) (e : Ending) → e ≢ ReadFault → e ≢ WriteFault → e ≢ NoMemory → d ≡ stops s e → Comes d s (Some e)
ended_so d s ReadFault read write memory is = absurd (read refl)
ended_so d s WriteFault read write memory is = absurd (write refl)
ended_so d s NoMemory read write memory is = absurd (memory refl)
ended_so d s (Exit n) read write memory is = is
ended_so d s (Panic x) read write memory is = is
ended_so d s (StackLimit used asked limit) read write memory is = is
ended_so d s (HeapLimit used asked limit) read write memory is = is
ended_so d s (WildAddress n) read write memory is = is
ended_so d s (WildReturn n) read write memory is = is
ended_so d s (WildLink n) read write memory is = is
ended_so d s (WildHeader n) read write memory is = is

chosen : (b : Bool) (d e : Does) → b ≡ true → (let done : Does = if b then d else e in done) ≡ d
chosen true d e is = refl
chosen false d e is = absurd cc

-- the first frame ends where the words do
pub first_frame_leaves : (t : Tables) (s : State) (f frame : ℕ) (e : Ending) → frame ≡ frame_of t f → frame ≡ length s.words → e ≡ first_return (slot s (frame - 1)) (slot s (frame - 2)) → returns t f s ≡ stops s e
first_frame_leaves t s f frame e is whole ends = rw (← is) (chosen (frame == length s.words) _ _ (eq-eqb frame (length s.words) whole) ∙ ap (stops s) (sym ends))

-- what comes of a read, and the state that it comes to
pub item_read : (s new : State) (a : ℕ) (item answer : Item) → item ≡ answer → new.pc ≡ s.pc + 1 → new.words ≡ put_words s.words a (item_words answer) → new.reads ≡ s.reads + 1 → new.heap ≡ s.heap → new.range ≡ s.range
    → reads_item s a item ≡ Goes (Asked ∷ []) new
item_read s new a item answer is pc words reads heap range =
    let more : new.reads ≡ suc s.reads = omega (arith, reads) in
    let same : (let x : State = record s { pc = s.pc + 1; words = put_words s.words a (item_words answer); reads = suc s.reads } in x) ≡ new =
    rw (sym pc, sym words, sym more, sym heap, sym range) refl in
    ap (reads_item s a) is ∙ ap (λ (x : State). let d : Does = Goes (Asked ∷ []) x in d) same

-- a step that asks for an item, and the item came
pub asked_once : (d : Does) (s : State) (taken : Option (List ℕ)) (faults : ℕ) → d ≡ Goes (Asked ∷ []) s → Answers d s 1 None taken taken faults faults
asked_once d s taken faults is =
    let told : events_of d ≡ Asked ∷ [] = ap (λ (x : Does). events_of x) is in
    (is ∙ ap (λ (l : List Event). let x : Does = Goes l s in x) (sym told), rw told (Took-nothing taken), ap asks_in told)

-- the same, and the read failed
pub asked_in_vain : (d : Does) (new : State) (taken : Option (List ℕ)) (faults : ℕ) → events_of d ≡ Asked ∷ [] → Answers d new 0 (Some ReadFault) taken taken faults faults
asked_in_vain d new taken faults told = record { before = []; after = []; splits = sym told; asked = refl; took = Took-nothing taken }

-- a piece was written, or the sink failed
pub piece_printed : {T : Type 0} (words : List ℕ) (at : RunState) (next : Next) (written : Result T Fault) (bytes piece : List ℕ) → bytes ≡ piece → (range : Range) (reads : ℕ) (heap : Words) (old new : Option (List ℕ)) (few many : Option ℕ) (before now : ℕ)
    → OnOk written (next ≡ record { at = record { pc = at.pc + 1; base = at.base }; ending = None }) → OnErr written (next ≡ record { at = at; ending = Some WriteFault })
    → Puts old new few many written piece → HasCause before now written → Answers (prints (state_of range words at reads heap) bytes) (state_of range words next.at reads heap) 0 next.ending old new before now
piece_printed words at next (Ok x) bytes piece same range reads heap old new few many before now ok err puts cause = rw ok (refl, rw (append-nil, same) puts.whole, refl)
piece_printed words at next (Err f) bytes piece same range reads heap old new few many before now ok err puts cause =
    rw err (
      record {
        before = [];
        front = take f.gone piece;
        rest = drop f.gone piece;
        after = [];
        splits = ap (λ l. Printed l ∷ []) (take-append-drop f.gone piece ∙ sym same);
        short = omega (arith, puts.within, length-drop f.gone piece);
        asked = refl;
        took = puts.part;
      },
      cause.failed,
    )

-- a truth value in words
pub truth_is : (word : ℕ) → truth_bytes word ≡ (if not (word == 0) then codes "true" else codes "false")
truth_is word = by (word == 0)
  where
    by : (b : Bool) → (if b then 102 ∷ (97 ∷ (108 ∷ (115 ∷ (101 ∷ [])))) else 116 ∷ (114 ∷ (117 ∷ (101 ∷ [])))) ≡ (if not b then codes "true" else codes "false")
    by true = refl
    by false = refl
