-- The contract of the top call, from what came of the call and how it was reported.
use Rattle.std.proofs.Common.{◌≡◌, ◌⊎◌, inl, inr, ℕ, List}
use Rattle.gostk.specs.Rows.{Seen, GainedRead, Allowed, Reported, RunsAsking}
use Rattle.gostk.specs.Contract.{Moment, Answers}
use Rattle.gostk.proofs.Table.{Row, completes, finished, has_status, missing_file, numbered, row, wrong_text, wrong_words}
use Rattle.gostk.specs.declared.answer.Answer.{Answer}
use Rattle.gostk.specs.declared.answer.Answer.TheVariants.{Ended, Panicked, Usage, Limits, SourceOnly, Refused, ReadFault, WriteFault, Steps, StackLimit, HeapLimit, NoMemory}

-- the failed calls on the files
failed_calls : (old new : Seen) (words : List (List ℕ)) (a : Answer) → Allowed old new words a → (new.failed ≡ old.failed) ⊎ GainedRead old.failed new.failed words
failed_calls old new words (Ended n) al = inl al.2.files
failed_calls old new words (Panicked reason) al = inl al.2.files
failed_calls old new words (Usage t) al = inl al.1.files
failed_calls old new words (Limits f) al = inl al.1.files
failed_calls old new words SourceOnly al = inl al.1.files
failed_calls old new words (Refused file refusal) al = inl al.4.files
failed_calls old new words ReadFault (inl file) = inr file.gained
failed_calls old new words ReadFault (inr input) = inl input.run.files
failed_calls old new words WriteFault al = inl al.2.files
failed_calls old new words (Steps n) al = inl al.2.files
failed_calls old new words (StackLimit u x l) al = inl al.2.files
failed_calls old new words (HeapLimit u x l) al = inl al.2.files
failed_calls old new words NoMemory (inl al) = inl al.files
failed_calls old new words NoMemory (inr al) = inl al.2.files

pub answers : (words : List (List ℕ)) (status : ℕ) (untouched : Type 0) (before after : Moment) (a : Answer)
    → Allowed before.seen after.seen words a → Reported a status before.err after.err before.err_faults after.err_faults
    → ((path : List ℕ) → after.seen.content path ≡ before.seen.content path) → untouched ⊎ RunsAsking before.seen after.seen words
    → Answers words status untouched before after
answers words status untouched b f a al re contents input =
    let the_row = row b.seen f.seen words b.err f.err b.err_faults f.err_faults a status al re in
    let by_number : (n : ℕ) → status ≡ n → Row b.seen f.seen words b.err f.err b.err_faults f.err_faults n =
    λ n is. numbered b.seen f.seen words b.err f.err b.err_faults f.err_faults status n the_row is in
    record {
      answered = (a, al, re);
      status_is = has_status b.seen f.seen words a status b.err f.err b.err_faults f.err_faults al re;
      finished = finished b.seen f.seen words b.err f.err b.err_faults f.err_faults status the_row;
      words_refused = by_number 200;
      text_refused = by_number 201;
      read_failed = by_number 203;
      write_failed = by_number 204;
      steps_passed = by_number 205;
      heap_passed = by_number 206;
      stack_passed = by_number 207;
      memory_refused = by_number 209;
      wrong_words = wrong_words b.seen f.seen words a status b.err f.err b.err_faults f.err_faults al re;
      missing_file = missing_file b.seen f.seen words a status b.err f.err b.err_faults f.err_faults al re;
      wrong_text = wrong_text b.seen f.seen words a status b.err f.err b.err_faults f.err_faults al re;
      right_text = completes b.seen f.seen words a status b.err f.err b.err_faults f.err_faults al re;
      contents = contents;
      files = failed_calls b.seen f.seen words a al;
      input = input;
    }
