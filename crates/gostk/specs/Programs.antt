-- What a text is refused for, and what a run reads and shows of an accepted one.
use Rattle.std.specs.Prelude.{◌≡◌, ℕ, ◌/◌, ◌<◌, ◌≤◌, List, length, Option, Some, None}
use Rattle.limits.specs.Limits.{Bounds}
use Rattle.outside.specs.Causes.{Rose}
use Rattle.outside.specs.Took.{Took, TookPrefix}
use Rattle.simulation.specs.Outcome.{Outcome}
use Rattle.typed_syntax.specs.Syntax.{Program}
use Rattle.typed_syntax.specs.Positions.{Position}
use Rattle.frames.specs.Placement.{coarse}
use Rattle.meaning.specs.Trace.{Ending, Panic, Fault}
use Rattle.meaning.specs.Meaning.{Item}
use Rattle.meaning.specs.Output.{Sight, Last, source, output, ending_in}
use Rattle.machine.specs.Answers.{AllNumbers, ReadInOrder, HasFrom}
use Rattle.simulated_code.specs.Correct.{AreNumbers, limits}
use Rattle.code_runs.specs.Runs.{AsksFor, Between, PrintsInPart, asks_of}
use Rattle.compile.specs.Accepted.{Refuses as HasFault}
use Rattle.compile.specs.declared.fault.CompileFault.{CompileFault}
use Rattle.gostk.specs.Answer.{fault_text}
use Rattle.gostk.specs.Refusal.{refusal_of}
use Rattle.gostk.specs.declared.refusal.Refusal.{Refusal}

-- the text is refused for a fault of the compiler that is reported as this
pub record Refuses (text : List ℕ) (refusal : Refusal) : Type 0 where
  pub fault : CompileFault
  pub cause : HasFault text fault
  pub is : refusal_of fault ≡ Some refusal

-- the items of an input, by their number
abbrev pub Reading : Type 0
Reading = ℕ → Item

-- these answers came in order from an input that had these bytes left; each is a number of 64 bits or none
pub record CameInOrder (left : Option (List ℕ)) (answers : List Item) : Type 0 where
  pub numbers : AllNumbers answers
  pub rest : Option (List ℕ)
  pub read : ReadInOrder left rest answers

-- Items that begin with these, each a number of 64 bits or none. All that a run knows of the items of its input are the
-- answers that came: so what is said of the run is said for whatever items begin with them.
pub record Begins (answers : List Item) (r : Reading) : Type 0 where
  pub numbers : AreNumbers r
  pub has : HasFrom r 0 answers

-- what the source of a program shows in as many turns as steps are allowed, under the limits of the stack and the heap
abbrev pub all_turns : Program → Bounds → Reading → Outcome Sight Last
all_turns p b r = source r p (limits p (coarse p) b.stack_max b.heap_max) b.steps

-- and in a sixteenth of them, rounded down
abbrev pub few_turns : Program → Bounds → Reading → Outcome Sight Last
few_turns p b r = source r p (limits p (coarse p) b.stack_max b.heap_max) (b.steps / 16)

-- within the turns the source ends so, it asks for just the items that came, and out took exactly what it prints; where it
-- ends in the sixteenth of them already, that is the same run
pub record EndsBy (p : Program) (b : Bounds) (answers : List Item) (e : Ending) (old new : Option (List ℕ)) : Type 0 where
  pub ends : (r : Reading) → Begins answers r → ending_in (all_turns p b r) ≡ Some e
  pub took : (r : Reading) → Begins answers r → Took old new (output (all_turns p b r))
  pub asks : (r : Reading) → Begins answers r → asks_of (all_turns p b r) ≡ length answers
  pub early : (r : Reading) (x : Ending) → ending_in (few_turns p b r) ≡ Some x → few_turns p b r ≡ all_turns p b r

-- an ending by a panic with this text
abbrev pub PanicsWith : List ℕ → Option Ending → Type 0
PanicsWith text o = (at : Position) × (f : Fault) × (o ≡ Some (Panic at f)) × (fault_text f ≡ text)

-- within the turns the source panics with this text, it asks for just the items that came, and out took exactly what it
-- prints; where it ends in the sixteenth of them already, that is the same run
pub record PanicsBy (p : Program) (b : Bounds) (answers : List Item) (text : List ℕ) (old new : Option (List ℕ)) : Type 0 where
  pub ends : (r : Reading) → Begins answers r → PanicsWith text (ending_in (all_turns p b r))
  pub took : (r : Reading) → Begins answers r → Took old new (output (all_turns p b r))
  pub asks : (r : Reading) → Begins answers r → asks_of (all_turns p b r) ≡ length answers
  pub early : (r : Reading) (x : Ending) → ending_in (few_turns p b r) ≡ Some x → few_turns p b r ≡ all_turns p b r

-- within the sixteenth of the turns the source has not ended; out took all that it prints in these, and nothing that it
-- doesn't print within all of them; and so with the items that came and that it asks for
pub record GoesOn (p : Program) (b : Bounds) (answers : List Item) (old new : Option (List ℕ)) : Type 0 where
  pub goes_on : (r : Reading) → Begins answers r → ending_in (few_turns p b r) ≡ None
  pub took : (r : Reading) → Begins answers r → Between (output (few_turns p b r)) (output (all_turns p b r)) old new
  pub at_least : (r : Reading) → Begins answers r → asks_of (few_turns p b r) ≤ length answers
  pub at_most : (r : Reading) → Begins answers r → length answers ≤ asks_of (all_turns p b r)

-- out took a front part of what the source prints within the turns, and the source asks for the items that came
pub record PrintedFront (p : Program) (b : Bounds) (answers : List Item) (old new : Option (List ℕ)) : Type 0 where
  pub took : (r : Reading) → Begins answers r → TookPrefix old new (output (all_turns p b r))
  pub asks : (r : Reading) → Begins answers r → length answers ≤ asks_of (all_turns p b r)

-- out failed: within the turns the source prints a piece after it asked for just the items that came, and out took exactly what it
-- prints before that and a front of the piece, but not all of it
pub record PrintedPart (p : Program) (b : Bounds) (answers : List Item) (old new : Option (List ℕ)) (before now : ℕ) : Type 0 where
  pub prints : (r : Reading) → Begins answers r → (text : List ℕ) × PrintsInPart (length answers) text (all_turns p b r) × Took old new text
  pub rose : Rose before now

-- the input failed: within the turns the source asks for the item after those that came, and out took exactly what it prints
-- before that
pub record AsksInVain (p : Program) (b : Bounds) (answers : List Item) (old new : Option (List ℕ)) (before now : ℕ) : Type 0 where
  pub asks : (r : Reading) → Begins answers r → (text : List ℕ) × AsksFor (length answers) text (all_turns p b r) × Took old new text
  pub rose : Rose before now

-- within the turns the source asks for an item
abbrev pub AsksOnce : Program → Bounds → List Item → Type 0
AsksOnce p b answers = (r : Reading) → Begins answers r → 0 < asks_of (all_turns p b r)
