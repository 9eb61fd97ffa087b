-- What holds of every run.
use Rattle.std.specs.Prelude.{◌≡◌, ◌≢◌, ◌⊎◌, ℕ, zero, suc, ◌+◌, ◌≤◌, List, [], ◌∷◌, ◌++◌, Option, Some, None, map, nat_le, if◌then◌else◌}
use Rattle.typed_syntax.specs.Syntax.{Program}
use Rattle.simulation.specs.Outcome.{Outcome, Below, ending_in as last_in, upto}
use Rattle.meaning.specs.Trace.{Entry, Call, Return, Born, Ending, Turns, StackLimit, HeapLimit, World, Cell, Mark, state, entered, ended, copied, Trace, Turn, Note, Seen, End, Cut}
use Rattle.meaning.specs.Meaning.{Item, whole, beginning, trace}
use Rattle.meaning.specs.Output.{Limits, used_by, tail_of, Sight, Last, source, output, ending_in}
use Rattle.meaning.specs.Journal.{Meaning, entries, mean, capped, printed}

-- a list begins with another
abbrev pub Begins : {A : Type 0} → List A → List A → Type 0
Begins {A} es fs = (gs : List A) × (fs ≡ es ++ gs)

-- the meaning within more turns
pub record Extends (short long : Meaning) : Type 0 where
  pub journal : Begins short.journal long.journal
  pub asks : Begins short.asks long.asks
  pub kept : short.ending ≢ Turns → long ≡ short

-- with more turns a journal only gains at its end, and an ending other than Turns is kept
abbrev pub LongerRunsExtend : Type 0
LongerRunsExtend = (items : ℕ → Item) (p : Program) (n m : ℕ) → n ≤ m → Extends (mean items p n) (mean items p m)

-- the same under limits
abbrev pub LongerCappedExtend : Type 0
LongerCappedExtend = (items : ℕ → Item) (p : Program) (l : Limits) (n m : ℕ) → n ≤ m → Extends (capped items p l n) (capped items p l m)

-- what a source shows in fewer turns is what it shows in more, or it stops earlier
abbrev pub LongerSourcesExtend : Type 0
LongerSourcesExtend = (items : ℕ → Item) (p : Program) (l : Limits) (n m : ℕ) → n ≤ m → Below (λ x y. x ≡ y) (λ x y. x ≡ y) (source items p l n) (source items p l m)

-- more fuel changes nothing, so a run that ends by Turns has met a turn that it could not take
abbrev pub FuelIsEnough : Type 0
FuelIsEnough = (items : ℕ → Item) (p : Program) (n k : ℕ) → upto n (entries (trace items p n)) ≡ upto n (entries (whole items p (suc n + k) beginning))

-- an ending, where there is one
abbrev pub settled : Option Ending → Ending
settled None = Turns
settled (Some e) = e

-- the running calls after an entry, and the words of the heap
abbrev pub calls_with : List ℕ → Entry → List ℕ
calls_with calls (Call f) = f ∷ calls
calls_with calls Return = tail_of calls
calls_with calls e = calls

abbrev pub heap_with : Limits → ℕ → Entry → ℕ
heap_with l heap (Born site n) = if l.on_heap site then heap + n else heap
heap_with l heap e = heap

abbrev pub calls_after : List ℕ → List Entry → List ℕ
calls_after calls [] = calls
calls_after calls (e ∷ es) = calls_after (calls_with calls e) es

abbrev pub heap_after : Limits → ℕ → List Entry → ℕ
heap_after l heap [] = heap
heap_after l heap (e ∷ es) = heap_after l (heap_with l heap e) es

-- what a source shows to those outside is what the journal under limits prints, with the same ending, at which as many words of the heap
-- are taken as variables of the journal are born with there, after those that were taken before
pub record Shows (l : Limits) (heap : ℕ) (o : Outcome Sight Last) (m : Meaning) : Type 0 where
  pub printed : output o ≡ printed m.journal
  pub ending : settled (ending_in o) ≡ m.ending
  pub taken : (x : Last) → last_in o ≡ Some x → x.heap ≡ heap_after l heap m.journal

abbrev pub SourceShowsJournal : Type 0
SourceShowsJournal = (items : ℕ → Item) (p : Program) (l : Limits) (n : ℕ) → Shows l 0 (source items p l n) (capped items p l n)

-- the limit that an entry would pass, where these calls run and the heap has `heap` words
abbrev pub limit_at : Limits → List ℕ → (heap : ℕ) → Entry → Option Ending
limit_at l calls heap (Call f) = if nat_le (used_by l calls + l.frame f) l.stack_max then None else Some (StackLimit (used_by l calls) (l.frame f) l.stack_max)
limit_at l calls heap (Born site n) = if l.on_heap site then (if nat_le (heap + n) l.heap_max then None else Some (HeapLimit heap n l.heap_max)) else None
limit_at l calls heap e = None

-- no entry of a journal passes a limit
abbrev pub Within : Limits → List ℕ → (heap : ℕ) → List Entry → Type 0
Within l calls heap [] = Unit {0}
Within l calls heap (e ∷ es) = (limit_at l calls heap e ≡ None) × Within l (calls_with calls e) (heap_with l heap e) es

-- the second run is the first cut before the first entry that would pass a limit, and ends with that limit
pub record CutAt (l : Limits) (uncut cut : Meaning) : Type 0 where
  pub entry : Entry
  pub rest : List Entry
  pub journal : uncut.journal ≡ cut.journal ++ entry ∷ rest
  pub within : Within l [] 0 cut.journal
  pub limit : limit_at l (calls_after [] cut.journal) (heap_after l 0 cut.journal) entry ≡ Some cut.ending
  pub asks : Begins cut.asks uncut.asks

abbrev pub IsCut : Limits → Meaning → Meaning → Type 0
IsCut l uncut cut = (Within l [] 0 uncut.journal × (cut ≡ uncut)) ⊎ CutAt l uncut cut

-- under limits a run is the one without them, cut before the first call or birth that would pass one
abbrev pub LimitsCut : Type 0
LimitsCut = (items : ℕ → Item) (p : Program) (l : Limits) (n : ℕ) → IsCut l (mean items p n) (capped items p l n)

-- the first trace is the second, or its fuel is out earlier; marks are not compared
abbrev pub Under : Trace → Trace → Type 0
Under Cut t = Unit {0}
Under (Turn s) (Turn t) = Under s t
Under (Note x s) (Note y t) = (x ≡ y) × Under s t
Under (Seen m s) (Seen n t) = Under s t
Under (End e) (End f) = e ≡ f
Under _ _ = ⊥

-- the fuel is not out before n turns
abbrev pub Fuelled : ℕ → Trace → Type 0
Fuelled zero t = Unit {0}
Fuelled (suc n) (Turn t) = Fuelled n t
Fuelled (suc n) (Note x t) = Fuelled (suc n) t
Fuelled (suc n) (Seen m t) = Fuelled (suc n) t
Fuelled (suc n) (End e) = Unit {0}
Fuelled (suc n) Cut = ⊥

-- the variables of a state are those of an earlier one and maybe more
abbrev pub sites_in : World → List ℕ
sites_in w = map (λ (c : Cell). c.site) w.store

abbrev pub Later : World → World → Type 0
Later w u = Begins (sites_in w) (sites_in u)

-- the marks that show no state
abbrev pub IsOther : Mark → Type 0
IsOther (state w vs) = ⊥
IsOther (entered w vs) = Unit {0}
IsOther (ended n) = Unit {0}
IsOther (copied v) = Unit {0}

-- this of each state that is seen
abbrev pub Always : (World → Type 0) → Trace → Type 0
Always I (Turn t) = Always I t
Always I (Note e t) = Always I t
Always I (Seen (state w vs) t) = I w × Always I t
Always I (Seen (entered w vs) t) = Always I t
Always I (Seen (ended n) t) = Always I t
Always I (Seen (copied v) t) = Always I t
Always I (End e) = Unit {0}
Always I Cut = Unit {0}

-- after a state only later ones are seen
abbrev pub OnlyLater : Trace → Type 0
OnlyLater (Turn t) = OnlyLater t
OnlyLater (Note e t) = OnlyLater t
OnlyLater (Seen (state w vs) t) = Always (Later w) t × OnlyLater t
OnlyLater (Seen (entered w vs) t) = OnlyLater t
OnlyLater (Seen (ended n) t) = OnlyLater t
OnlyLater (Seen (copied v) t) = OnlyLater t
OnlyLater (End e) = Unit {0}
OnlyLater Cut = Unit {0}

-- no variable dies or moves
abbrev pub VariablesStay : Type 0
VariablesStay = (items : ℕ → Item) (p : Program) (n : ℕ) → OnlyLater (trace items p n)
