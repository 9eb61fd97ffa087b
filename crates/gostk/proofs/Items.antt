-- That the answers that came begin a reading, and how many items a run asks for.
use Rattle.std.proofs.Common.{refl, arith, ℕ, zero, suc, ◌<◌, List, [], Option}
use Rattle.simulation.specs.Outcome.{Outcome, Gives, Ends, Unfinished}
use Rattle.meaning.specs.Meaning.{Item}
use Rattle.meaning.specs.Output.{Sight, Last, printing, asking}
use Rattle.code_runs.specs.Runs.{AsksFor, asks_of}
use Rattle.code_runs.proofs.Items.{reading_of, are_numbers, has_answers}
use Rattle.gostk.specs.Programs.{Reading, CameInOrder, Begins}

pub begins : (left : Option (List ℕ)) (answers : List Item) → CameInOrder left answers → Begins answers (reading_of answers)
begins left answers came = record {
  numbers = are_numbers answers came.numbers;
  has = has_answers answers;
}

-- nothing came
pub none_came : (left : Option (List ℕ)) → CameInOrder left []
none_came left = record { numbers = tt; rest = left; read = refl }

-- a run that asks for the item of a number asks for more items than the number says
pub asks_beyond : (k : ℕ) (before : List ℕ) (o : Outcome Sight Last) → AsksFor k before o → k < asks_of o
asks_beyond k before (Gives (printing bytes) o) h = asks_beyond k h.0 o h.2
asks_beyond zero before (Gives asking o) h = omega arith
asks_beyond (suc k) before (Gives asking o) h = let less = asks_beyond k before o h in omega (arith, less)
asks_beyond k before (Ends e) h = absurd h
asks_beyond k before Unfinished h = absurd h
