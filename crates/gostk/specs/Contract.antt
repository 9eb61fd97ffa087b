-- The contract of the top call, a field a promise. `before` and `after` are all that is seen of what the call was handed, as it
-- begins and as it returns; each row of the table of answers is a field, and then come the rows that have to come.
use Rattle.std.specs.Prelude.{◌≡◌, ◌⊎◌, ℕ, ◌≤◌, List, Option}
use Rattle.outside.specs.Files.{Content, Call}
use Rattle.gostk.specs.Answer.{IsStatus}
use Rattle.gostk.specs.Rows.{Seen, seen, streams, Allowed, Reported, FinishedOrPanicked, WordsRefused, TextRefused, ReadFailed, WriteFailed, StepsPassed, HeapPassed, StackPassed, MemoryRefused, GainedRead, IsWrong, IsMissing, IsUnaccepted, Comes, Completes, RunsAsking}
use Rattle.gostk.specs.declared.answer.Answer.{Answer}

-- the files, out and the input, the bytes that err took, and how often it failed
pub record Moment : Type 0 where
  pub seen : Seen
  pub err : Option (List ℕ)
  pub err_faults : ℕ

abbrev pub moment : (List ℕ → Content) → List Call → (taken : Option (List ℕ)) → (faults : ℕ) → (left : Option (List ℕ)) → (read_faults : ℕ) → (err : Option (List ℕ)) → (err_faults : ℕ) → Moment
moment content failed taken faults left read_faults err err_faults =
    record { seen = seen content failed (streams taken faults left read_faults); err = err; err_faults = err_faults }

-- what the call promises of the status that it answers to these words; `untouched` says that the input is the value that it was
pub record Answers (words : List (List ℕ)) (status : ℕ) (untouched : Type 0) (before after : Moment) : Type 0 where
  -- what came of the call is one row of the table, and is reported as such
  pub answered : (answer : Answer) × Allowed before.seen after.seen words answer × Reported answer status before.err after.err before.err_faults after.err_faults
  pub status_is : IsStatus status
  -- the rows, each by its status
  pub finished : status ≤ 125 → FinishedOrPanicked status before.seen after.seen words before.err after.err
  pub words_refused : status ≡ 200 → WordsRefused before.seen after.seen words before.err after.err
  pub text_refused : status ≡ 201 → TextRefused before.seen after.seen words before.err after.err
  pub read_failed : status ≡ 203 → ReadFailed before.seen after.seen words before.err after.err
  pub write_failed : status ≡ 204 → WriteFailed before.seen after.seen words before.err after.err before.err_faults after.err_faults
  pub steps_passed : status ≡ 205 → StepsPassed before.seen after.seen words before.err after.err
  pub heap_passed : status ≡ 206 → HeapPassed before.seen after.seen words before.err after.err
  pub stack_passed : status ≡ 207 → StackPassed before.seen after.seen words before.err after.err
  pub memory_refused : status ≡ 209 → MemoryRefused before.seen after.seen words before.err after.err
  -- where a row has to come, unless err failed
  pub wrong_words : IsWrong words → Comes 200 status before.err_faults after.err_faults ⊎ (status ≡ 209)
  pub missing_file : IsMissing before.seen.content words → Comes 203 status before.err_faults after.err_faults ⊎ (status ≡ 209)
  pub wrong_text : IsUnaccepted before.seen.content words
      → Comes 201 status before.err_faults after.err_faults ⊎ ((status ≡ 209) ⊎ GainedRead before.seen.failed after.seen.failed words)
  pub right_text : Completes before.seen after.seen words status before.err after.err before.err_faults after.err_faults
  -- what is left of the files and the input: it is as it was, unless the words run an accepted text whose program asks for an item
  pub contents : (path : List ℕ) → after.seen.content path ≡ before.seen.content path
  pub files : (after.seen.failed ≡ before.seen.failed) ⊎ GainedRead before.seen.failed after.seen.failed words
  pub input : untouched ⊎ RunsAsking before.seen after.seen words
