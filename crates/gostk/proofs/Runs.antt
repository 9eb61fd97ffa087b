-- What a run of a program's code leaves, in the words of the table of answers.
use Rattle.std.proofs.Common.{◌≡◌, ◌≢◌, ◌⊎◌, ◌∙◌, refl, sym, ap, inl, inr, subst, ℕ, ◌/◌, ◌≤◌, List, [], ◌∷◌, length, Option, Some, Result, Ok, Err, append-nil, arith}
use Rattle.limits.specs.Limits.{Bounds}
use Rattle.outside.specs.Causes.{Rose}
use Rattle.outside.specs.Took.{Took, TookPrefix}
use Rattle.typed_syntax.specs.Syntax.{Program}
use Rattle.frames.specs.Placement.{coarse}
use Rattle.meaning.specs.Trace.{Ending}
use Rattle.meaning.specs.Meaning.{Item}
use Rattle.meaning.specs.Output.{source, ending_in}
use Rattle.meaning_laws.proofs.Runs.{longer_sources_extend}
use Rattle.machine.specs.declared.run_state.Panic.{Panic as MachinePanic}
use Rattle.simulated_code.specs.Correct.{limits}
use Rattle.code_runs.specs.Runs.{Ran as RanCode, ReadBy, asks_of}
use Rattle.code_runs.specs.declared.running.RunFault.{RunFault}
use Rattle.code_runs.specs.declared.running.RunFault.TheVariants as fault
use Rattle.gostk.specs.Programs.{AsksOnce, Begins, CameInOrder, Reading, few_turns, all_turns}
use Rattle.compile.specs.declared.fault.CompileFault.{CompileFault}
use Rattle.compile.specs.declared.fault.CompileFault.TheVariants.{NoMemory}
use Rattle.gostk.specs.Refusal.{refusal_of}
use Rattle.gostk.specs.declared.refusal.Refusal.{Refusal}
use Rattle.gostk.specs.declared.answer.Answer.{Answer}
use Rattle.gostk.specs.Words.{bounds_of}
use Rattle.gostk.specs.Rows.{Allowed, Asking, IsRunOf, IsTextOf, Ran, RanBy, RanText, Reads, RunsAsking, Seen, Streams, Tells}
use Rattle.gostk.specs.declared.answer.Answer.TheVariants as answer
use Rattle.code_runs.proofs.Composed.{asked_before}
use Rattle.gostk.proofs.Early.{joined}
use Rattle.gostk.proofs.Endings.{exit_status}
use Rattle.code_runs.proofs.Items.{reading_of}
use Rattle.gostk.proofs.Items.{begins, asks_beyond}

-- what a run under these limits read of the input and did, where nothing was read the input is untouched
pub record Told (p : Program) (b : Bounds) (result : Result ℕ RunFault) (untouched : Type 0) (old new : Streams) : Type 0 where
  pub answers : List Item
  pub came : CameInOrder old.left answers
  pub unread : result ≢ Err fault.ReadFault → answers ≡ [] → untouched
  pub does : (r : Reading) → Begins answers r → RanCode p.strings (few_turns p b r) (all_turns p b r) result (length answers) old.taken new.taken old.faults new.faults

-- what is said of a run of code with these limits
abbrev pub Says : Program → (max heap_max steps : ℕ) → Result ℕ RunFault → Streams → Streams → (ℕ → Item) → ℕ → Type 0
Says p max heap_max steps result old new items answered =
    RanCode p.strings (source items p (limits p (coarse p) max heap_max) (steps / 16)) (source items p (limits p (coarse p) max heap_max) steps) result answered old.taken new.taken old.faults new.faults

pub told : (p : Program) (b : Bounds) (max heap_max steps : ℕ) (result : Result ℕ RunFault) (untouched : Type 0) (old new : Streams) → max ≡ b.stack_max → heap_max ≡ b.heap_max → steps ≡ b.steps
    → ReadBy result old.left untouched (Says p max heap_max steps result old new) → Told p b result untouched old new
told p b max heap_max steps result untouched old new m l n h = record {
  answers = h.answers;
  came = record { numbers = h.numbers; rest = h.rest; read = h.read };
  unread = h.unread;
  does = λ r starts.
      let did = h.does r starts.numbers starts.has in
      subst (λ (k : ℕ). RanCode p.strings (source r p (limits p (coarse p) b.stack_max b.heap_max) (k / 16)) (source r p (limits p (coarse p) b.stack_max b.heap_max) k) result (length h.answers) old.taken new.taken old.faults new.faults) n
      (subst (λ (k : ℕ). RanCode p.strings (source r p (limits p (coarse p) b.stack_max k) (steps / 16)) (source r p (limits p (coarse p) b.stack_max k) steps) result (length h.answers) old.taken new.taken old.faults new.faults) l
      (subst (λ (k : ℕ). RanCode p.strings (source r p (limits p (coarse p) k heap_max) (steps / 16)) (source r p (limits p (coarse p) k heap_max) steps) result (length h.answers) old.taken new.taken old.faults new.faults) m did));
}

-- a whole text that was taken is a front part of itself
whole_front : (old new : Option (List ℕ)) (text : List ℕ) → Took old new text → TookPrefix old new text
whole_front old new text took = ([], record { done = text; splits = append-nil text; took = took })

module _ (p : Program) (b : Bounds) (untouched : Type 0) (old new : Streams) where
  early : (r : Reading) (x : Ending) → ending_in (few_turns p b r) ≡ Some x → few_turns p b r ≡ all_turns p b r
  early r x e =
      joined (few_turns p b r) (all_turns p b r) (longer_sources_extend r p (limits p (coarse p) b.stack_max b.heap_max) (b.steps / 16) b.steps (omega arith)) x e

  pub ended : (status : ℕ) → Told p b (Ok status) untouched old new → RanBy p b (answer.Ended status) old new
  ended status h =
      let some = h.does (reading_of h.answers) (begins old.left h.answers h.came) in
      record {
        answers = h.answers;
        came = h.came;
        leaves = (
          record { ends = λ r starts. (h.does r starts).0; took = λ r starts. (h.does r starts).1; asks = λ r starts. (h.does r starts).2; early = early },
          exit_status (reading_of h.answers) p (limits p (coarse p) b.stack_max b.heap_max) b.steps status some.0,
        );
      }

  -- a panic of the machine is told as the source's is
  panicked_by : (x : MachinePanic) (a : Answer) (h : Told p b (Err (fault.Panic x)) untouched old new) → Tells x p.strings a → Ran p b h.answers a old new
  panicked_by x (answer.Panicked reason) h tells = record {
    ends = λ r starts. (let t = h.does r starts in (t.0, t.1, t.2, tells t.1 t.3));
    took = λ r starts. (h.does r starts).4;
    asks = λ r starts. (h.does r starts).5;
    early = early;
  }
  panicked_by x answer.NoMemory h tells = record {
    took = λ r starts. whole_front old.taken new.taken _ (h.does r starts).4;
    asks = λ r starts. let as_many = (h.does r starts).5 in omega (arith, as_many);
  }
  panicked_by x (answer.Ended status) h tells = absurd tells
  panicked_by x (answer.Usage text) h tells = absurd tells
  panicked_by x (answer.Limits limit) h tells = absurd tells
  panicked_by x answer.SourceOnly h tells = absurd tells
  panicked_by x (answer.Refused name refusal) h tells = absurd tells
  panicked_by x answer.ReadFault h tells = absurd tells
  panicked_by x answer.WriteFault h tells = absurd tells
  panicked_by x (answer.Steps n) h tells = absurd tells
  panicked_by x (answer.StackLimit used asked limit) h tells = absurd tells
  panicked_by x (answer.HeapLimit used asked limit) h tells = absurd tells

  pub panicked : (x : MachinePanic) (a : Answer) → Told p b (Err (fault.Panic x)) untouched old new → Tells x p.strings a → RanBy p b a old new
  panicked x a h tells = record { answers = h.answers; came = h.came; leaves = panicked_by x a h tells }

  pub met_limit : (used asked limit : ℕ) → Told p b (Err (fault.StackLimit used asked limit)) untouched old new → RanBy p b (answer.StackLimit used asked limit) old new
  met_limit used asked limit h = record {
    answers = h.answers;
    came = h.came;
    leaves = record { ends = λ r starts. (h.does r starts).0; took = λ r starts. (h.does r starts).1; asks = λ r starts. (h.does r starts).2; early = early };
  }

  pub filled_heap : (used asked limit : ℕ) → Told p b (Err (fault.HeapLimit used asked limit)) untouched old new → RanBy p b (answer.HeapLimit used asked limit) old new
  filled_heap used asked limit h = record {
    answers = h.answers;
    came = h.came;
    leaves = record { ends = λ r starts. (h.does r starts).0; took = λ r starts. (h.does r starts).1; asks = λ r starts. (h.does r starts).2; early = early };
  }

  pub went_on : (n : ℕ) → n ≡ b.steps → Told p b (Err fault.Steps) untouched old new → RanBy p b (answer.Steps n) old new
  went_on n is h = record {
    answers = h.answers;
    came = h.came;
    leaves = (
      record {
        goes_on = λ r starts. (h.does r starts).0;
        took = λ r starts. (h.does r starts).1;
        at_least = λ r starts. (h.does r starts).2;
        at_most = λ r starts. (h.does r starts).3;
      },
      is,
    );
  }

  pub unanswered : Rose old.read_faults new.read_faults → Told p b (Err fault.ReadFault) untouched old new → RanBy p b answer.ReadFault old new
  unanswered rose h = record { answers = h.answers; came = h.came; leaves = record { asks = λ r starts. h.does r starts; rose = rose } }

  pub failed : Told p b (Err fault.WriteFault) untouched old new → RanBy p b answer.WriteFault old new
  failed h =
      let some = h.does (reading_of h.answers) (begins old.left h.answers h.came) in
      record { answers = h.answers; came = h.came; leaves = record { prints = λ r starts. (let did = h.does r starts in (did.0, did.1, did.2)); rose = some.3 } }

  pub refused : Told p b (Err fault.NoMemory) untouched old new → RanBy p b answer.NoMemory old new
  refused h = record { answers = h.answers; came = h.came; leaves = record { took = λ r starts. (h.does r starts).0; asks = λ r starts. (h.does r starts).1 } }

  -- a run asks for as many items as came, or for one more
  asks_as_many : (result : Result ℕ RunFault) (h : Told p b result untouched old new) (r : Reading) → Begins h.answers r → length h.answers ≤ asks_of (all_turns p b r)
  asks_as_many (Ok status) h r starts = let as_many = (h.does r starts).2 in omega (arith, as_many)
  asks_as_many (Err (fault.Panic x)) h r starts = let as_many = (h.does r starts).5 in omega (arith, as_many)
  asks_as_many (Err (fault.StackLimit used asked limit)) h r starts = let as_many = (h.does r starts).2 in omega (arith, as_many)
  asks_as_many (Err (fault.HeapLimit used asked limit)) h r starts = let as_many = (h.does r starts).2 in omega (arith, as_many)
  asks_as_many (Err fault.Steps) h r starts = (h.does r starts).3
  asks_as_many (Err fault.ReadFault) h r starts =
      let did = h.does r starts in
      let more = asks_beyond (length h.answers) did.0 (all_turns p b r) did.1 in
      omega (arith, more)
  asks_as_many (Err fault.WriteFault) h r starts = let did = h.does r starts in asked_before (length h.answers) did.0 (all_turns p b r) did.1
  asks_as_many (Err fault.NoMemory) h r starts = (h.does r starts).1

  -- one that came is one that the source asks for
  asks_by : (answers : List Item) → (answers ≡ [] → untouched) → ((r : Reading) → Begins answers r → length answers ≤ asks_of (all_turns p b r)) → untouched ⊎ AsksOnce p b answers
  asks_by [] unread asks = inl (unread refl)
  asks_by (x ∷ xs) unread asks = inr (λ r starts. let as_many = asks r starts in omega (arith, as_many))

  asking : (h : Told p b (Err fault.ReadFault) untouched old new) → AsksOnce p b h.answers
  asking h = λ r starts.
      let did = h.does r starts in
      let more = asks_beyond (length h.answers) did.0 (all_turns p b r) did.1 in
      omega (arith, more)

  other : (result : Result ℕ RunFault) (h : Told p b result untouched old new) → result ≢ Err fault.ReadFault → untouched ⊎ Asking p b old.left
  other result h fine = elim (asks_by h.answers (h.unread fine) (asks_as_many result h)) [
    | inl same ↦ inl same
    | inr asks ↦ inr (record { answers = h.answers; came = h.came; asks = asks })
  ]

  -- the input is untouched, or the source asks for an item
  pub asked_or_untouched : (result : Result ℕ RunFault) → Told p b result untouched old new → untouched ⊎ Asking p b old.left
  asked_or_untouched (Err fault.ReadFault) h = inr (record { answers = h.answers; came = h.came; asks = asking h })
  asked_or_untouched (Ok status) h = other (Ok status) h (λ e. absurd cc e)
  asked_or_untouched (Err fault.NoMemory) h = other (Err fault.NoMemory) h (λ e. absurd cc e)
  asked_or_untouched (Err fault.WriteFault) h = other (Err fault.WriteFault) h (λ e. absurd cc e)
  asked_or_untouched (Err (fault.Panic x)) h = other (Err (fault.Panic x)) h (λ e. absurd cc e)
  asked_or_untouched (Err fault.Steps) h = other (Err fault.Steps) h (λ e. absurd cc e)
  asked_or_untouched (Err (fault.StackLimit used asked limit)) h = other (Err (fault.StackLimit used asked limit)) h (λ e. absurd cc e)
  asked_or_untouched (Err (fault.HeapLimit used asked limit)) h = other (Err (fault.HeapLimit used asked limit)) h (λ e. absurd cc e)

-- what a run of a text's program leaves, a run of the text leaves
pub of_text : (file text : List ℕ) (b : Bounds) (a : Answer) (old new : Streams) (p : Program) → IsTextOf text p → RanBy p b a old new → RanText file text b a old new
of_text file text b (answer.Ended status) old new p is h = (p, is, h)
of_text file text b (answer.Panicked reason) old new p is h = (p, is, h)
of_text file text b (answer.Usage t) old new p is h = absurd h.leaves
of_text file text b (answer.Limits f) old new p is h = absurd h.leaves
of_text file text b answer.SourceOnly old new p is h = absurd h.leaves
of_text file text b (answer.Refused name refusal) old new p is h = absurd h.leaves
of_text file text b answer.ReadFault old new p is h = (p, is, h)
of_text file text b answer.WriteFault old new p is h = (p, is, h)
of_text file text b (answer.Steps n) old new p is h = (p, is, h)
of_text file text b (answer.StackLimit used asked limit) old new p is h = (p, is, h)
of_text file text b (answer.HeapLimit used asked limit) old new p is h = (p, is, h)
of_text file text b answer.NoMemory old new p is h = inr (p, is, h)

-- and of the input
pub input_of_text : (untouched : Type 0) (text : List ℕ) (b : Bounds) (left : Option (List ℕ)) (p : Program) → IsTextOf text p → untouched ⊎ Asking p b left
    → untouched ⊎ ((q : Program) × IsTextOf text q × Asking q b left)
input_of_text untouched text b left p is (inl same) = inl same
input_of_text untouched text b left p is (inr asking) = inr (p, is, asking)

-- a run that came of these words
run_of : (old new : Seen) (words : List (List ℕ)) (path text : List ℕ) → Reads old.content words path text → new.failed ≡ old.failed → (p : Program) → IsTextOf text p
    → (answers : List Item) → CameInOrder old.io.left answers → IsRunOf p answers old new words
run_of old new words path text reads files p is answers came = record { path = path; text = text; reads = reads; accepted = is; came = came; files = files }

module _ (old new : Seen) (words : List (List ℕ)) (path text : List ℕ) (reads : Reads old.content words path text) (files : new.failed ≡ old.failed) where
  -- what a run of the text leaves, the call leaves
  pub allowed_by : (a : Answer) → RanText path text (bounds_of words) a old.io new.io → Allowed old new words a
  allowed_by (answer.Ended status) h = (h.0, h.2.answers, run_of old new words path text reads files h.0 h.1 h.2.answers h.2.came, h.2.leaves.0, h.2.leaves.1)
  allowed_by (answer.Panicked reason) h = (h.0, h.2.answers, run_of old new words path text reads files h.0 h.1 h.2.answers h.2.came, h.2.leaves)
  allowed_by (answer.Usage t) h = absurd h.2.leaves
  allowed_by (answer.Limits f) h = absurd h.2.leaves
  allowed_by answer.SourceOnly h = absurd h.2.leaves
  allowed_by (answer.Refused name refusal) h =
      (text, subst (λ (x : List ℕ). Reads old.content words x text) (sym h.0) reads, h.1, h.2, record { io = h.3; files = files })
  allowed_by answer.ReadFault h = inr (record {
    program = h.0;
    answers = h.2.answers;
    run = run_of old new words path text reads files h.0 h.1 h.2.answers h.2.came;
    out = h.2.leaves;
  })
  allowed_by answer.WriteFault h = (h.0, h.2.answers, run_of old new words path text reads files h.0 h.1 h.2.answers h.2.came, h.2.leaves)
  allowed_by (answer.Steps n) h = (h.0, h.2.answers, run_of old new words path text reads files h.0 h.1 h.2.answers h.2.came, h.2.leaves.0, h.2.leaves.1)
  allowed_by (answer.StackLimit used asked limit) h = (h.0, h.2.answers, run_of old new words path text reads files h.0 h.1 h.2.answers h.2.came, h.2.leaves)
  allowed_by (answer.HeapLimit used asked limit) h = (h.0, h.2.answers, run_of old new words path text reads files h.0 h.1 h.2.answers h.2.came, h.2.leaves)
  allowed_by answer.NoMemory (inl quiet) = inl (record { io = quiet; files = files })
  allowed_by answer.NoMemory (inr h) = inr (h.0, h.2.answers, run_of old new words path text reads files h.0 h.1 h.2.answers h.2.came, h.2.leaves)

  -- and where the text asks for an item, the words do
  pub asking_by : (untouched : Type 0) → untouched ⊎ ((p : Program) × IsTextOf text p × Asking p (bounds_of words) old.io.left) → untouched ⊎ RunsAsking old new words
  asking_by untouched (inl same) = inl same
  asking_by untouched (inr asked) = inr (record {
    program = asked.0;
    answers = asked.2.answers;
    run = run_of old new words path text reads files asked.0 asked.1 asked.2.answers asked.2.came;
    asks = asked.2.asks;
  })

-- want of memory is not reported as a refusal of the text
pub no_refusal : (f : CompileFault) (r : Refusal) → f ≡ NoMemory → refusal_of f ≡ Some r → ⊥
no_refusal f r h is = let e : refusal_of NoMemory ≡ Some r = sym (ap refusal_of h) ∙ is in cc
