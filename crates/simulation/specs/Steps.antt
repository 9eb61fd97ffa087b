-- Runs of a machine whose step goes on in a state or stops, with events. S are states, D are events, Y are endings.
use Rattle.std.specs.Prelude.{ℕ, zero, suc, List, [], ◌∷◌, ◌++◌}
use Rattle.simulation.specs.Outcome.{Outcome, Gives, Ends, Unfinished}

pub data Done (S D Y : Type 0) : Type 0 where
  Goes : List D → S → Done S D Y
  Stops : List D → Y → Done S D Y

abbrev pub events_of : {S D Y : Type 0} → Done S D Y → List D
events_of (Goes es s) = es
events_of (Stops es e) = es

abbrev pub giving : {D Y : Type 0} → List D → Outcome D Y → Outcome D Y
giving [] o = o
giving (e ∷ es) o = Gives e (giving es o)

abbrev pub after : {S D Y : Type 0} → Done S D Y → (S → Outcome D Y) → Outcome D Y
after (Goes es s) k = giving es (k s)
after (Stops es e) k = giving es (Ends e)

-- what is shown by at most n steps
abbrev pub exec : {S D Y : Type 0} → (S → Done S D Y) → ℕ → S → Outcome D Y
exec step zero s = Unfinished
exec step (suc n) s = after (step s) (exec step n)

-- these events come first
abbrev pub behind : {S D Y : Type 0} → List D → Done S D Y → Done S D Y
behind es (Goes fs s) = Goes (es ++ fs) s
behind es (Stops fs e) = Stops (es ++ fs) e

abbrev pub go_on : {S D Y : Type 0} → Done S D Y → (S → Done S D Y) → Done S D Y
go_on (Goes es s) k = behind es (k s)
go_on (Stops es e) k = Stops es e

-- what n steps, or fewer where the run stops before, come to
unfoldable pub many : {S D Y : Type 0} → (S → Done S D Y) → ℕ → S → Done S D Y
many step zero s = Goes [] s
many step (suc n) s = go_on (step s) (many step n)

-- what is shown by steps that came to this
abbrev pub shown_by : {S D Y : Type 0} → Done S D Y → Outcome D Y
shown_by (Goes es s) = giving es Unfinished
shown_by (Stops es e) = giving es (Ends e)
