-- The table of answers, read by the status.
use Rattle.std.proofs.Common.{◌≡◌, ◌∙◌, refl, sym, ap, subst, ◌⊎◌, inl, inr, arith, ℕ, ◌≤◌, ◌++◌, Bool, true, false, List, [], ◌∷◌, length, Option, Some, None, length-append}
use Rattle.std.specs.Prelude.{nat_le, ◌==◌}
use Rattle.std.proofs.lemmas.Bool.{le-leb}
use Rattle.limits.specs.Limits.{Bounds, AreLimits, IsFirstFault}
use Rattle.limits.specs.declared.limits.LimitFault.{LimitFault}
use Rattle.limits.specs.declared.limits.LimitFault.TheVariants.{StartTooSmall, StartOverMax, OverTop}
use Rattle.outside.specs.Causes.{Rose}
use Rattle.outside.specs.Files.{Content, Call, ReadOf, ReadsAs, Missing, Holds}
use Rattle.outside.specs.Took.{Took}
use Rattle.simulation.specs.Outcome.{Outcome}
use Rattle.typed_syntax.specs.Syntax.{Program}
use Rattle.meaning.specs.Trace as source
use Rattle.meaning.specs.Meaning.{Item}
use Rattle.meaning.specs.Output.{Sight, Last, output, ending_in}
use Rattle.compile.specs.Accepted.{Accepted}
use Rattle.typed_syntax.specs.Positions.{Position}
use Rattle.gostk.specs.Answer.{IsStatus, of_run, words_refused as for_words, text_refused as for_text, read_failed as for_reading, write_failed as for_writing, steps_passed as for_steps, heap_passed as for_heap, stack_passed as for_stack, memory_refused as for_memory, status_of, line_of, reason_text, fault_text, panic_line, steps_line, stack_line, heap_line}
use Rattle.gostk.specs.Programs.{EndsBy, PanicsWith, PanicsBy, GoesOn, Begins, CameInOrder, Reading, few_turns, all_turns}
use Rattle.gostk.specs.Words.{bounds_of, is_source, path_of, Asks, IsOffLimits, IsNoSource}
use Rattle.gostk.specs.Rows.{Seen, Reads, IsNoText, IsRunOf, GainedRead, Allowed, Reported, FinishedOrPanicked, WordsRefused, TextRefused, ReadFailed, WriteFailed, StepsPassed, HeapPassed, StackPassed, MemoryRefused, IsWrong, IsMissing, IsUnaccepted, Comes, IsCalm, Completes, Does}
use Rattle.gostk.proofs.Items.{none_came}
use Rattle.gostk.specs.declared.answer.Answer.{Answer}
use Rattle.gostk.specs.declared.answer.Answer.TheVariants.{Ended, Panicked, Usage, Limits, SourceOnly, Refused, ReadFault, WriteFault, Steps, StackLimit, HeapLimit, NoMemory}

-- words that are refused ask for nothing
on_limits : (b : Bounds) (f : LimitFault) → AreLimits b → IsFirstFault b f → ⊥
on_limits b StartTooSmall are h = omega (arith, are.least, h)
on_limits b StartOverMax are h = omega (arith, are.within, h.1)
on_limits b OverTop are h = elim h.2 [ inl x ↦ omega (arith, are.stack, x) | inr x ↦ omega (arith, are.heap, x) ]

off_limits : (words : List (List ℕ)) (path : List ℕ) (f : LimitFault) → Asks words path → IsOffLimits words f → ⊥
off_limits words path f asks off = on_limits (bounds_of words) f asks.limits off.first

no_source : (words : List (List ℕ)) (path : List ℕ) → Asks words path → IsNoSource words → ⊥
no_source words path asks other =
    let is : is_source (path_of words) ≡ true = ap is_source asks.file ∙ asks.source in
    let isnt : is_source (path_of words) ≡ false = other.source in
    cc

-- what the words ask for reads as one text
same_text : (c : Content) (text other : List ℕ) → c ≡ Holds text → ReadsAs c other → text ≡ other
same_text c text other holds reads =
    let h : ReadsAs (Holds text) other = subst (λ (x : Content). ReadsAs x other) holds reads in
    sym h

not_missing : (c : Content) (other : List ℕ) → c ≡ Missing → ReadsAs c other → ⊥
not_missing c other missing reads = subst (λ (x : Content). ReadsAs x other) missing reads

module _ (content : List ℕ → Content) (words : List (List ℕ)) (path text : List ℕ) (asks : Asks words path) (holds : content path ≡ Holds text) where
  here : (path1 text1 : List ℕ) → Reads content words path1 text1 → text ≡ text1
  here path1 text1 reads =
      let same : path1 ≡ path = sym reads.asks.file ∙ asks.file in
      same_text (content path) text text1 holds (subst (λ (x : List ℕ). ReadsAs (content x) text1) same reads.read)

no_growth : (calls : List Call) (call : Call) → calls ≡ calls ++ call ∷ [] → ⊥
no_growth calls call e = omega (arith, ap length e, length-append calls (call ∷ []))

-- what ends in the sixteenth of the turns ends so in all of them
early_end : (p : Program) (b : Bounds) (answers : List Item) (x y : source.Ending) (old new : Option (List ℕ)) (r : Reading) → EndsBy p b answers x old new → Begins answers r
    → ending_in (few_turns p b r) ≡ Some y → (x ≡ y) × Took old new (output (few_turns p b r))
early_end p b answers x y old new r ends starts e =
    let same = ends.early r y e in
    let is : Some x ≡ Some y = sym (ends.ends r starts) ∙ (ap ending_in (sym same) ∙ e) in
    (cc, subst (λ (o : Outcome Sight Last). Took old new (output o)) (sym same) (ends.took r starts))

-- what panics, and ends in the sixteenth of the turns, panics so in these
early_panic : (p : Program) (b : Bounds) (answers : List Item) (text : List ℕ) (y : source.Ending) (old new : Option (List ℕ)) (r : Reading) → PanicsBy p b answers text old new → Begins answers r
    → ending_in (few_turns p b r) ≡ Some y → PanicsWith text (Some y) × Took old new (output (few_turns p b r))
early_panic p b answers text y old new r ends starts e =
    let same = ends.early r y e in
    let is : ending_in (all_turns p b r) ≡ Some y = ap ending_in (sym same) ∙ e in
    (subst (λ (o : Option source.Ending). PanicsWith text o) is (ends.ends r starts), subst (λ (o : Outcome Sight Last). Took old new (output o)) (sym same) (ends.took r starts))

some_none : (x : source.Ending) → Some x ≡ None → ⊥
some_none x e = cc

same_some : (x y : source.Ending) → Some x ≡ Some y → x ≡ y
same_some x y e = cc

module _ (p : Program) (b : Bounds) (answers : List Item) (old new : Seen) (came : CameInOrder old.io.left answers) (status : ℕ) (err err' : Option (List ℕ)) where
  does_nothing : status ≡ 209 → Does p b old new status err err'
  does_nothing h = record { answers = answers; came = came; ends = λ r starts n e. inr h; panics = λ r starts at f e. inr h; meets = λ r starts u a l e. inr h; fills = λ r starts u a l e. inr h; stops = λ r starts e. inr h }

  -- the status and the line of an ending
  abbrev Told : source.Ending → Type 0
  Told (source.Exit n) = (status ≡ n) × Took err err' []
  Told (source.Panic at f) = (status ≡ 2) × Took err err' (panic_line (fault_text f))
  Told (source.StackLimit used asked limit) = (status ≡ 207) × Took err err' (stack_line used asked limit)
  Told (source.HeapLimit used asked limit) = (status ≡ 206) × Took err err' (heap_line used asked limit)
  Told source.Turns = ⊥

  -- what ends in all of the turns, and is told and printed as what it ends by in the sixteenth of them
  does_end : ((r : Reading) → Begins answers r → (y : source.Ending) → ending_in (few_turns p b r) ≡ Some y → Told y × Took old.io.taken new.io.taken (output (few_turns p b r)))
      → ((r : Reading) → Begins answers r → ending_in (all_turns p b r) ≡ None → ⊥) → Does p b old new status err err'
  does_end early ended = record {
    answers = answers;
    came = came;
    ends = λ r starts n e. let h = early r starts (source.Exit n) e in inl (h.0.0, h.1, h.0.1);
    panics = λ r starts at f e. let h = early r starts (source.Panic at f) e in inl (h.0.0, h.1, h.0.1);
    meets = λ r starts u a l e. let h = early r starts (source.StackLimit u a l) e in inl (h.0.0, h.1, h.0.1);
    fills = λ r starts u a l e. let h = early r starts (source.HeapLimit u a l) e in inl (h.0.0, h.1, h.0.1);
    stops = λ r starts e. absurd (ended r starts e);
  }

  does_end_by : (x : source.Ending) → EndsBy p b answers x old.io.taken new.io.taken → Told x → Does p b old new status err err'
  does_end_by x ends told =
      does_end (λ r starts y e. let h = early_end p b answers x y old.io.taken new.io.taken r ends starts e in (subst Told h.0 told, h.1))
      (λ r starts e. some_none x (sym (ends.ends r starts) ∙ e))

  -- the reason of a panic is told by its text
  told_by : (text : List ℕ) (y : source.Ending) → PanicsWith text (Some y) → status ≡ 2 → Took err err' (panic_line text) → Told y
  told_by text y h is line =
      subst Told (sym (same_some y (source.Panic h.0 h.1) h.2)) (is, subst (λ (t : List ℕ). Took err err' (panic_line t)) (sym h.3) line)

  does_panic : (text : List ℕ) → PanicsBy p b answers text old.io.taken new.io.taken → status ≡ 2 → Took err err' (panic_line text) → Does p b old new status err err'
  does_panic text ends is line =
      does_end (λ r starts y e. let h = early_panic p b answers text y old.io.taken new.io.taken r ends starts e in (told_by text y h.0 is line, h.1))
      (λ r starts e. let h = ends.ends r starts in some_none (source.Panic h.0 h.1) (sym h.2 ∙ e))

  does_stop : (n : ℕ) → GoesOn p b answers old.io.taken new.io.taken → n ≡ b.steps → status ≡ 205 → Took err err' (steps_line n) → Does p b old new status err err'
  does_stop n on steps is line = record {
    answers = answers;
    came = came;
    ends = λ r starts m e. absurd (none (source.Exit m) (sym (on.goes_on r starts) ∙ e));
    panics = λ r starts at f e. absurd (none (source.Panic at f) (sym (on.goes_on r starts) ∙ e));
    meets = λ r starts u a l e. absurd (none (source.StackLimit u a l) (sym (on.goes_on r starts) ∙ e));
    fills = λ r starts u a l e. absurd (none (source.HeapLimit u a l) (sym (on.goes_on r starts) ∙ e));
    stops = λ r starts e. inl (is, subst (λ (k : ℕ). Took err err' (steps_line k)) steps line);
  }
    where
      none : (x : source.Ending) → None ≡ Some x → ⊥
      none x e = cc

module _ (old new : Seen) (words : List (List ℕ)) (status : ℕ) (err err' : Option (List ℕ)) (before now : ℕ) (path text : List ℕ) (program : Program)
    (asks : Asks words path) (holds : old.content path ≡ Holds text) (accepted : Accepted text program) (calm : IsCalm old new before now) where
  the_program : (p : Program) (answers : List Item) → IsRunOf p answers old new words → p ≡ program
  the_program p answers run =
      let same : text ≡ run.text = here old.content words path text asks holds run.path run.text run.reads in
      run.accepted.only program (subst (λ (t : List ℕ). Accepted t program) same accepted)

  of_program : (p : Program) (answers : List Item) → IsRunOf p answers old new words → Does p (bounds_of words) old new status err err' → Does program (bounds_of words) old new status err err'
  of_program p answers run does = subst (λ (q : Program). Does q (bounds_of words) old new status err err') (the_program p answers run) does

  by_answer : (a : Answer) → Allowed old new words a → status ≡ status_of a → Took err err' (line_of a) → Does program (bounds_of words) old new status err err'
  by_answer (Ended n) h is line = of_program h.0 h.1 h.2 (does_end_by h.0 (bounds_of words) h.1 old new h.2.came status err err' (source.Exit n) h.3 (is, line))
  by_answer (Panicked reason) h is line = of_program h.0 h.1 h.2 (does_panic h.0 (bounds_of words) h.1 old new h.2.came status err err' (reason_text reason) h.3 is line)
  by_answer (Usage t) h is line = absurd (h.0 asks.taken)
  by_answer (Limits f) h is line = absurd (off_limits words path f asks h.0)
  by_answer SourceOnly h is line = absurd (no_source words path asks h.0)
  by_answer (Refused file refusal) h is line =
      let same : text ≡ h.0 = here old.content words path text asks holds file.now h.0 h.1 in
      absurd (h.3 program (subst (λ (t : List ℕ). Accepted t program) same accepted))
  by_answer ReadFault (inl file) is line = absurd (no_growth old.failed (ReadOf file.gained.0) (sym calm.files ∙ file.gained.2))
  by_answer ReadFault (inr input) is line = absurd (calm.input input.out.rose)
  by_answer WriteFault h is line = absurd (calm.out h.3.rose)
  by_answer (Steps n) h is line = of_program h.0 h.1 h.2 (does_stop h.0 (bounds_of words) h.1 old new h.2.came status err err' n h.3 h.4 is line)
  by_answer (StackLimit u a l) h is line = of_program h.0 h.1 h.2 (does_end_by h.0 (bounds_of words) h.1 old new h.2.came status err err' (source.StackLimit u a l) h.3 (is, line))
  by_answer (HeapLimit u a l) h is line = of_program h.0 h.1 h.2 (does_end_by h.0 (bounds_of words) h.1 old new h.2.came status err err' (source.HeapLimit u a l) h.3 (is, line))
  by_answer NoMemory h is line = does_nothing program (bounds_of words) [] old new (none_came old.io.left) status err err' is

-- what comes where a text is accepted and nothing fails
pub completes : (old new : Seen) (words : List (List ℕ)) (a : Answer) (status : ℕ) (err err' : Option (List ℕ)) (before now : ℕ)
    → Allowed old new words a → Reported a status err err' before now → Completes old new words status err err' before now
completes old new words a status err err' before now allowed reported = λ path text program asks holds accepted calm. elim reported [
  | inl h ↦ by_answer old new words status err err' before now path text program asks holds accepted calm a allowed h.0 h.1
  | inr h ↦ absurd (calm.err h.1)
]

module _ (old new : Seen) (words : List (List ℕ)) (status : ℕ) (before now : ℕ) where
  abbrev Wanted : ℕ → Type 0
  Wanted n = Comes n status before now ⊎ (status ≡ 209)

  -- words that ask for nothing
  wrong_by : (a : Answer) → Allowed old new words a → IsWrong words → (status ≡ status_of a) ⊎ ((status ≡ 204) × Rose before now) → Wanted 200
  wrong_by a h wrong (inr r) = inl (inr r)
  wrong_by (Ended n) h wrong (inl is) = absurd (wrong h.2.path h.2.reads.asks)
  wrong_by (Panicked reason) h wrong (inl is) = absurd (wrong h.2.path h.2.reads.asks)
  wrong_by (Usage t) h wrong (inl is) = inl (inl is)
  wrong_by (Limits f) h wrong (inl is) = inl (inl is)
  wrong_by SourceOnly h wrong (inl is) = inl (inl is)
  wrong_by (Refused file refusal) h wrong (inl is) = absurd (wrong file.now h.1.asks)
  wrong_by ReadFault (inl file) wrong (inl is) = absurd (wrong file.gained.0 file.gained.1)
  wrong_by ReadFault (inr input) wrong (inl is) = absurd (wrong input.run.path input.run.reads.asks)
  wrong_by WriteFault h wrong (inl is) = absurd (wrong h.2.path h.2.reads.asks)
  wrong_by (Steps n) h wrong (inl is) = absurd (wrong h.2.path h.2.reads.asks)
  wrong_by (StackLimit u x l) h wrong (inl is) = absurd (wrong h.2.path h.2.reads.asks)
  wrong_by (HeapLimit u x l) h wrong (inl is) = absurd (wrong h.2.path h.2.reads.asks)
  wrong_by NoMemory h wrong (inl is) = inr is

  -- a file that is missing
  no_file : (path : List ℕ) → Asks words path → old.content path ≡ Missing → (path1 text1 : List ℕ) → Reads old.content words path1 text1 → ⊥
  no_file path asks missing path1 text1 reads =
      let same : path1 ≡ path = sym reads.asks.file ∙ asks.file in
      not_missing (old.content path) text1 missing (subst (λ (x : List ℕ). ReadsAs (old.content x) text1) same reads.read)

  missing_by : (a : Answer) → Allowed old new words a → IsMissing old.content words → (status ≡ status_of a) ⊎ ((status ≡ 204) × Rose before now) → Wanted 203
  missing_by a h m (inr r) = inl (inr r)
  missing_by (Ended n) h m (inl is) = absurd (no_file m.0 m.1 m.2 h.2.path h.2.text h.2.reads)
  missing_by (Panicked reason) h m (inl is) = absurd (no_file m.0 m.1 m.2 h.2.path h.2.text h.2.reads)
  missing_by (Usage t) h m (inl is) = absurd (h.0 m.1.taken)
  missing_by (Limits f) h m (inl is) = absurd (off_limits words m.0 f m.1 h.0)
  missing_by SourceOnly h m (inl is) = absurd (no_source words m.0 m.1 h.0)
  missing_by (Refused file refusal) h m (inl is) = absurd (no_file m.0 m.1 m.2 file.now h.0 h.1)
  missing_by ReadFault h m (inl is) = inl (inl is)
  missing_by WriteFault h m (inl is) = absurd (no_file m.0 m.1 m.2 h.2.path h.2.text h.2.reads)
  missing_by (Steps n) h m (inl is) = absurd (no_file m.0 m.1 m.2 h.2.path h.2.text h.2.reads)
  missing_by (StackLimit u x l) h m (inl is) = absurd (no_file m.0 m.1 m.2 h.2.path h.2.text h.2.reads)
  missing_by (HeapLimit u x l) h m (inl is) = absurd (no_file m.0 m.1 m.2 h.2.path h.2.text h.2.reads)
  missing_by NoMemory h m (inl is) = inr is

  -- a text that is not accepted
  no_run : (path text : List ℕ) → Asks words path → old.content path ≡ Holds text → IsNoText text → (p : Program) (answers : List Item) → IsRunOf p answers old new words → ⊥
  no_run path text asks holds none p answers run =
      let same : text ≡ run.text = here old.content words path text asks holds run.path run.text run.reads in
      none p (subst (λ (t : List ℕ). Accepted t p) (sym same) run.accepted.accepted)

  unaccepted_by : (a : Answer) → Allowed old new words a → IsUnaccepted old.content words → (status ≡ status_of a) ⊎ ((status ≡ 204) × Rose before now)
      → Comes 201 status before now ⊎ ((status ≡ 209) ⊎ GainedRead old.failed new.failed words)
  unaccepted_by a h u (inr r) = inl (inr r)
  unaccepted_by (Ended n) h u (inl is) = absurd (no_run u.0 u.1 u.2 u.3 u.4 h.0 h.1 h.2)
  unaccepted_by (Panicked reason) h u (inl is) = absurd (no_run u.0 u.1 u.2 u.3 u.4 h.0 h.1 h.2)
  unaccepted_by (Usage t) h u (inl is) = absurd (h.0 u.2.taken)
  unaccepted_by (Limits f) h u (inl is) = absurd (off_limits words u.0 f u.2 h.0)
  unaccepted_by SourceOnly h u (inl is) = absurd (no_source words u.0 u.2 h.0)
  unaccepted_by (Refused file refusal) h u (inl is) = inl (inl is)
  unaccepted_by ReadFault (inl file) u (inl is) = inr (inr file.gained)
  unaccepted_by ReadFault (inr input) u (inl is) = absurd (no_run u.0 u.1 u.2 u.3 u.4 input.program input.answers input.run)
  unaccepted_by WriteFault h u (inl is) = absurd (no_run u.0 u.1 u.2 u.3 u.4 h.0 h.1 h.2)
  unaccepted_by (Steps n) h u (inl is) = absurd (no_run u.0 u.1 u.2 u.3 u.4 h.0 h.1 h.2)
  unaccepted_by (StackLimit x y z) h u (inl is) = absurd (no_run u.0 u.1 u.2 u.3 u.4 h.0 h.1 h.2)
  unaccepted_by (HeapLimit x y z) h u (inl is) = absurd (no_run u.0 u.1 u.2 u.3 u.4 h.0 h.1 h.2)
  unaccepted_by NoMemory h u (inl is) = inr (inl is)

how : (a : Answer) (status : ℕ) (err err' : Option (List ℕ)) (before now : ℕ) → Reported a status err err' before now → (status ≡ status_of a) ⊎ ((status ≡ 204) × Rose before now)
how a status err err' before now (inl h) = inl h.0
how a status err err' before now (inr h) = inr (h.0, h.1)

pub wrong_words : (old new : Seen) (words : List (List ℕ)) (a : Answer) (status : ℕ) (err err' : Option (List ℕ)) (before now : ℕ)
    → Allowed old new words a → Reported a status err err' before now → IsWrong words → Comes 200 status before now ⊎ (status ≡ 209)
wrong_words old new words a status err err' before now allowed reported wrong = wrong_by old new words status before now a allowed wrong (how a status err err' before now reported)

pub missing_file : (old new : Seen) (words : List (List ℕ)) (a : Answer) (status : ℕ) (err err' : Option (List ℕ)) (before now : ℕ)
    → Allowed old new words a → Reported a status err err' before now → IsMissing old.content words → Comes 203 status before now ⊎ (status ≡ 209)
missing_file old new words a status err err' before now allowed reported m = missing_by old new words status before now a allowed m (how a status err err' before now reported)

pub wrong_text : (old new : Seen) (words : List (List ℕ)) (a : Answer) (status : ℕ) (err err' : Option (List ℕ)) (before now : ℕ)
    → Allowed old new words a → Reported a status err err' before now → IsUnaccepted old.content words
    → Comes 201 status before now ⊎ ((status ≡ 209) ⊎ GainedRead old.failed new.failed words)
wrong_text old new words a status err err' before now allowed reported u = unaccepted_by old new words status before now a allowed u (how a status err err' before now reported)

-- the one or the other, by a test
abbrev pub either : Bool → Type 0 → Type 0 → Type 0
either true p q = p
either false p q = q

passes : (b : Bool) (p q : Type 0) → b ≡ true → p → either b p q
passes true p q is h = h
passes false p q is h = absurd (let e : false ≡ true = is in cc)

passed : (b : Bool) (p q : Type 0) → b ≡ true → either b p q → p
passed true p q is h = h
passed false p q is h = absurd (let e : false ≡ true = is in cc)

-- what the table says of a call by its status
module _ (old new : Seen) (words : List (List ℕ)) (err err' : Option (List ℕ)) (before now : ℕ) where
  abbrev pub Row : ℕ → Type 0
  Row status =
      either (nat_le status 125) (FinishedOrPanicked status old new words err err')
      (either (status == 200) (WordsRefused old new words err err')
      (either (status == 201) (TextRefused old new words err err')
      (either (status == 203) (ReadFailed old new words err err')
      (either (status == 204) (WriteFailed old new words err err' before now)
      (either (status == 205) (StepsPassed old new words err err')
      (either (status == 206) (HeapPassed old new words err err')
      (either (status == 207) (StackPassed old new words err err') (MemoryRefused old new words err err'))))))))

  row_of : (a : Answer) → Allowed old new words a → Took err err' (line_of a) → Row (status_of a)
  row_of (Ended n) al line =
      passes (nat_le n 125) _ _ (le-leb n 125 al.4) (inl (record { program = al.0; answers = al.1; run = al.2; out = al.3; line = line }))
  row_of (Panicked reason) al line = inr (refl, record { program = al.0; answers = al.1; text = reason_text reason; run = al.2; out = al.3; line = line })
  row_of (Usage t) al line = record { reason = inl (al.0, (_, line)); untouched = al.1 }
  row_of (Limits f) al line = record { reason = inr (inl (f, al.0, line)); untouched = al.1 }
  row_of SourceOnly al line = record { reason = inr (inr (al.0, line)); untouched = al.1 }
  row_of (Refused file refusal) al line =
      record { path = file.now; text = al.0; refusal = refusal; reads = al.1; refused = al.2; unaccepted = al.3; untouched = al.4; line = line }
  row_of ReadFault al line = record { cause = al; line = line }
  row_of WriteFault al line = inl (record { program = al.0; answers = al.1; run = al.2; out = al.3; line = line })
  row_of (Steps n) al line =
      record { program = al.0; answers = al.1; run = al.2; out = al.3; line = subst (λ (k : ℕ). Took err err' (steps_line k)) al.4 line }
  row_of (StackLimit u x l) al line = record { program = al.0; answers = al.1; used = u; asked = x; limit = l; run = al.2; out = al.3; line = line }
  row_of (HeapLimit u x l) al line = record { program = al.0; answers = al.1; used = u; asked = x; limit = l; run = al.2; out = al.3; line = line }
  row_of NoMemory al line = record { when = al; line = line }

  pub row : (a : Answer) (status : ℕ) → Allowed old new words a → Reported a status err err' before now → Row status
  row a status al (inl h) = subst Row (sym h.0) (row_of a al h.1)
  row a status al (inr h) = subst Row (sym h.0) (inr (record { answer = a; allowed = al; rose = h.1; line = h.2 }))

  -- a row of its own, by its number
  pub numbered : (status n : ℕ) → Row status → status ≡ n → Row n
  numbered status n r is = subst Row is r

  pub finished : (status : ℕ) → Row status → status ≤ 125 → FinishedOrPanicked status old new words err err'
  finished status r le = passed (nat_le status 125) _ _ (le-leb status 125 le) r

-- every answer has a status of the table
answer_status : (old new : Seen) (words : List (List ℕ)) (a : Answer) → Allowed old new words a → IsStatus (status_of a)
answer_status old new words (Ended n) al = of_run n al.4
answer_status old new words (Panicked reason) al = of_run 2 (omega arith)
answer_status old new words (Usage t) al = for_words
answer_status old new words (Limits f) al = for_words
answer_status old new words SourceOnly al = for_words
answer_status old new words (Refused file refusal) al = for_text
answer_status old new words ReadFault al = for_reading
answer_status old new words WriteFault al = for_writing
answer_status old new words (Steps n) al = for_steps
answer_status old new words (StackLimit u x l) al = for_stack
answer_status old new words (HeapLimit u x l) al = for_heap
answer_status old new words NoMemory al = for_memory

pub has_status : (old new : Seen) (words : List (List ℕ)) (a : Answer) (status : ℕ) (err err' : Option (List ℕ)) (before now : ℕ) → Allowed old new words a → Reported a status err err' before now → IsStatus status
has_status old new words a status err err' before now al (inl h) = subst IsStatus (sym h.0) (answer_status old new words a al)
has_status old new words a status err err' before now al (inr h) = subst IsStatus (sym h.0) for_writing
