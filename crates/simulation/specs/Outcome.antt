-- What a bounded run shows, and when one run is another that stopped earlier. E are events, X are endings.
use Rattle.std.specs.Prelude.{ℕ, zero, suc, List, [], ◌∷◌, Option, Some, None}

-- a run with the turns marked in it
pub data Lines (E X : Type 0) : Type 0 where
  Turn : Lines E X → Lines E X
  Line : E → Lines E X → Lines E X
  End : X → Lines E X
  -- the fuel is out
  Cut : Lines E X

-- what a bounded run shows
pub data Outcome (E X : Type 0) : Type 0 where
  Gives : E → Outcome E X → Outcome E X
  Ends : X → Outcome E X
  Unfinished : Outcome E X

-- before turn n + 1
abbrev pub upto : {E X : Type 0} → ℕ → Lines E X → Outcome E X
upto n (Line e t) = Gives e (upto n t)
upto n (End e) = Ends e
upto n Cut = Unfinished
upto zero (Turn t) = Unfinished
upto (suc n) (Turn t) = upto n t

-- the first is related to the second, or stops earlier
abbrev pub Below : {E D X Y : Type 0} → (E → D → Type 0) → (X → Y → Type 0) → Outcome E X → Outcome D Y → Type 0
Below same alike Unfinished p = Unit {0}
Below same alike (Ends e) (Ends f) = alike e f
Below same alike (Ends e) (Gives x p) = ⊥
Below same alike (Ends e) Unfinished = ⊥
Below same alike (Gives x o) (Gives y p) = same x y × Below same alike o p
Below same alike (Gives x o) (Ends f) = ⊥
Below same alike (Gives x o) Unfinished = ⊥

abbrev pub events_in : {E X : Type 0} → Outcome E X → List E
events_in (Gives e o) = e ∷ events_in o
events_in (Ends x) = []
events_in Unfinished = []

abbrev pub ending_in : {E X : Type 0} → Outcome E X → Option X
ending_in (Gives e o) = ending_in o
ending_in (Ends x) = Some x
ending_in Unfinished = None
