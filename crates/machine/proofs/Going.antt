-- A run goes on by its steps.
use Rattle.std.proofs.Common.{◌≡◌, ℕ, zero, suc, ◌+◌, ◌-◌, ◌*◌, ◌<◌, ◌≤◌, Bool, true, false, List, [], ◌∷◌, ◌++◌, drop, Option, Some, None, arith, refl, ap, sym, ◌∙◌, subst, length, append_assoc, append-nil}
use Rattle.std.specs.Prelude.{◌==◌, ◌&&◌, if◌then◌else◌, nat_le, nat_lt, slice_get}
use Rattle.std.proofs.lemmas.Option.{slice_get_within}
use Rattle.outside.specs.Took.{Took, TookPrefix}
use Rattle.outside.proofs.Took.{Took-trans, Took-nothing}
use Rattle.simulation.specs.Steps.{Goes, Stops, events_of, behind, go_on, many}
use Rattle.simulation.proofs.Whole.{many_none, many_more}
use Rattle.heap_bump.specs.Words.{Words}
use Rattle.isa.specs.Code.{Tables, IsCode}
use Rattle.isa.specs.declared.instr.Added.{Added}
use Rattle.isa.specs.declared.instr.Added.TheVariants.{Slots, Slice as OfSlice}
use Rattle.isa.specs.declared.instr.Instr.{Instr}
use Rattle.isa.specs.declared.instr.Instr.TheVariants.{Const, Zero, Move, Same, Bin, Un, Jump, JumpZero, Call, Incoming, Load, Store, Address, Offset, Index, SliceIndex, Slice, Born, Alloc, Make, Append, Copy, PrintInt, PrintBool, PrintText, PrintSpace, PrintLine, ReadInt, Return, Exit as ExitWith, PanicText, PanicInt, PanicBool}
use Rattle.isa.specs.declared.func.Func.{Func}
use Rattle.machine.specs.Machine.{Last, State, Does, full_range, last_of, stops, Event, Printed, Asked, Item, bytes_of, asks_in, act, act_on, calls, entered, address_of, zeroed, frame_of, owner_of, slot, puts, spot_of, is_nowhere, next_address, most_elements, taken, takes, touches, allocates, makes, element, header, grown, adds_in_place, adds_in_new, moves_old, adds, appends, appends_to, are_sizes, words_in, put_at, puts_words}
use Rattle.machine.specs.declared.memory.Spot.{Spot}
use Rattle.machine.specs.declared.memory.Spot.TheVariants.{InHeap, InStack}
use Rattle.machine.specs.Inside.{Inside}
use Rattle.machine.specs.Answers.{Answers, AskedBehind, Needs, NeedsMemory, PrintedInPart, Refused, RunAnswers, Unwritten, WithAnswers, printed_by, state_of}
use Rattle.machine.specs.declared.run_state.RunState.{RunState}
use Rattle.machine.proofs.Reading.{joined, follows, nothing_read, goes_on_is_no_fault}
use Rattle.machine.specs.declared.run_state.Ending.{Ending}
use Rattle.machine.specs.declared.run_state.Ending.TheVariants.{Exit, Panic, ReadFault, WriteFault, NoMemory, StackLimit, HeapLimit, WildAddress, WildReturn, WildLink, WildHeader}

-- a run that has come so far, with `answered` items read
pub record Going (t : Tables) (max : ℕ) (items : ℕ → Item) (steps : ℕ) (first : State) (left : ℕ) (s : State) (answered : ℕ) (old now : Option (List ℕ)) : Type 0 where
  pub done : List Event
  pub within : left ≤ steps
  pub whole : (n k : ℕ) → k ≡ steps - left + n → many (act t max items) k first ≡ behind done (many (act t max items) n s)
  pub took : Took old now (bytes_of done)
  pub asked : asks_in done ≡ answered

behind_nothing : (d : Does) → behind [] d ≡ d
behind_nothing (Goes es s) = refl
behind_nothing (Stops es e) = refl

behind_behind : (a b : List Event) (d : Does) → behind a (behind b d) ≡ behind (a ++ b) d
behind_behind a b (Goes es s) = ap (λ (l : List Event). let d : Does = Goes l s in d) (sym (append_assoc a b es))
behind_behind a b (Stops es e) = ap (λ (l : List Event). let d : Does = Stops l e in d) (sym (append_assoc a b es))

bytes_append : (a b : List Event) → bytes_of (a ++ b) ≡ bytes_of a ++ bytes_of b
bytes_append [] b = refl
bytes_append (Printed x ∷ a) b = ap (λ l. x ++ l) (bytes_append a b) ∙ sym (append_assoc x (bytes_of a) (bytes_of b))
bytes_append (Asked ∷ a) b = bytes_append a b

asks_append : (a b : List Event) → asks_in (a ++ b) ≡ asks_in a + asks_in b
asks_append [] b = omega arith
asks_append (Printed x ∷ a) b = asks_append a b
asks_append (Asked ∷ a) b = let more = asks_append a b in omega (arith, more)

pub at_first : (t : Tables) (max : ℕ) (items : ℕ → Item) (steps : ℕ) (s : State) (old : Option (List ℕ)) → Going t max items steps s steps s 0 old old
at_first t max items steps s old = record {
  done = [];
  within = omega arith;
  whole = λ n k e. let same : k ≡ n = omega (arith, e) in ap (λ (m : ℕ). many (act t max items) m s) same ∙ sym (behind_nothing (many (act t max items) n s));
  took = Took-nothing old;
  asked = refl;
}

many_first : (t : Tables) (max : ℕ) (items : ℕ → Item) (n : ℕ) (s : State) → 0 < n → many (act t max items) n s ≡ go_on (act t max items s) (many (act t max items) (n - 1))
many_first t max items zero s some = absurd (omega arith)
many_first t max items (suc n) s some = let same : suc n - 1 ≡ n = omega arith in rw same (many_more State Event Last (act t max items) n s)

-- what a first step tells comes first in what the run tells
first_of : (t : Tables) (max : ℕ) (items : ℕ → Item) (n : ℕ) (d : Does) → (more : List Event) × (events_of (go_on d (many (act t max items) n)) ≡ events_of d ++ more)
first_of t max items n (Goes es s) = by (many (act t max items) n s)
  where
    by : (r : Does) → (more : List Event) × (events_of (behind es r) ≡ es ++ more)
    by (Goes fs u) = (fs, refl)
    by (Stops fs e) = (fs, refl)
first_of t max items n (Stops es e) = ([], sym (append-nil es))

events_behind : (es : List Event) (d : Does) → events_of (behind es d) ≡ es ++ events_of d
events_behind es (Goes fs s) = refl
events_behind es (Stops fs e) = refl

module _ (t : Tables) (max : ℕ) (items : ℕ → Item) (steps : ℕ) (first : State) (left : ℕ) (s new : State) (answered more : ℕ) (old now late : Option (List ℕ)) (g : Going t max items steps first left s answered old now) (some : 0 < left) where
  whole : many (act t max items) steps first ≡ behind g.done (many (act t max items) left s)
  whole = let within = g.within in g.whole left steps (omega arith)

  pub goes_on : (act t max items s ≡ Goes (events_of (act t max items s)) new) × Took now late (printed_by (act t max items s)) × (asks_in (events_of (act t max items s)) ≡ more)
      → Going t max items steps first (left - 1) new (answered + more) old late
  goes_on did =
      let es = events_of (act t max items s) in
      let within = g.within in
      let step : (n : ℕ) → many (act t max items) (suc n) s ≡ behind es (many (act t max items) n new) =
      λ n. many_more State Event Last (act t max items) n s ∙ ap (λ (d : Does). go_on d (many (act t max items) n)) did.0 in
      record {
        done = g.done ++ es;
        within = omega arith;
        whole = λ n k e. g.whole (suc n) k (omega (arith, e)) ∙ ap (behind g.done) (step n) ∙ behind_behind g.done es (many (act t max items) n new);
        took = rw (bytes_append g.done es) (Took-trans old now late _ _ g.took did.1);
        asked = omega (arith, asks_append g.done es, g.asked, did.2);
      }

  stopped : (e : Last) → (act t max items s ≡ Stops (events_of (act t max items s)) e) × Took now late (printed_by (act t max items s)) × (asks_in (events_of (act t max items s)) ≡ more)
      → (many (act t max items) steps first ≡ Stops (events_of (many (act t max items) steps first)) e) × Took old late (printed_by (many (act t max items) steps first)) × (asks_in (events_of (many (act t max items) steps first)) ≡ answered + more)
  stopped e did =
      let es = events_of (act t max items s) in
      let step : many (act t max items) left s ≡ Stops es e = many_first t max items left s some ∙ ap (λ (d : Does). go_on d (many (act t max items) (left - 1))) did.0 in
      let all : many (act t max items) steps first ≡ Stops (g.done ++ es) e = whole ∙ ap (behind g.done) step in
      let told : events_of (many (act t max items) steps first) ≡ g.done ++ es = ap (λ (d : Does). events_of d) all in (
        all ∙ ap (λ (l : List Event). let d : Does = Stops l e in d) (sym told),
        rw (told, bytes_append g.done es) (Took-trans old now late _ _ g.took did.1),
        rw told (omega (arith, asks_append g.done es, g.asked, did.2)),
      )

  -- what the run tells: what is done, what the step tells, and what comes later
  told_in_order : (later : List Event) × (events_of (many (act t max items) steps first) ≡ g.done ++ (events_of (act t max items s) ++ later))
  told_in_order =
      let rest = first_of t max items (left - 1) (act t max items s) in (
        rest.0,
        ap (λ (d : Does). events_of d) (whole ∙ ap (behind g.done) (many_first t max items left s some)) ∙ events_behind g.done (go_on (act t max items s) (many (act t max items) (left - 1)))
            ∙ ap (λ l. g.done ++ l) rest.1,
      )

  part_taken : TookPrefix now late (printed_by (act t max items s)) → TookPrefix old late (printed_by (many (act t max items) steps first))
  part_taken f =
      let es = events_of (act t max items s) in
      let part = f.1 in
      let later = told_in_order.0 in
      let bytes : printed_by (many (act t max items) steps first) ≡ bytes_of g.done ++ (bytes_of es ++ bytes_of later) =
      ap bytes_of told_in_order.1 ∙ bytes_append g.done (es ++ later) ∙ ap (λ l. bytes_of g.done ++ l) (bytes_append es later) in
      let rest = f.0 ++ bytes_of later in
      let splits : (bytes_of g.done ++ part.done) ++ rest ≡ printed_by (many (act t max items) steps first) =
      append_assoc (bytes_of g.done) part.done rest
      ∙ ap (λ l. bytes_of g.done ++ l) (sym (append_assoc part.done f.0 (bytes_of later)) ∙ ap (λ l. l ++ bytes_of later) part.splits)
      ∙ sym bytes in
      (rest, record { done = bytes_of g.done ++ part.done; splits = splits; took = Took-trans old now late _ _ g.took part.took })

  part_asked : more ≤ asks_in (events_of (act t max items s)) → answered + more ≤ asks_in (events_of (many (act t max items) steps first))
  part_asked few =
      let es = events_of (act t max items s) in
      let later = told_in_order.0 in
      rw (told_in_order.1) (omega (arith, few, g.asked, asks_append g.done (es ++ later), asks_append es later))

  asked_in_step : AskedBehind (act t max items s) more now late → AskedBehind (many (act t max items) steps first) (answered + more) old late
  asked_in_step f =
      let later = told_in_order.0 in
      record {
        before = g.done ++ f.before;
        after = f.after ++ later;
        splits = append_assoc g.done f.before (Asked ∷ (f.after ++ later))
            ∙ ap (λ l. g.done ++ l) (sym (append_assoc f.before (Asked ∷ f.after) later) ∙ ap (λ l. l ++ later) f.splits)
            ∙ sym told_in_order.1;
        asked = omega (arith, asks_append g.done f.before, g.asked, f.asked);
        took = rw (bytes_append g.done f.before) (Took-trans old now late _ _ g.took f.took);
      }

  printed_in_step : PrintedInPart (act t max items s) more now late → PrintedInPart (many (act t max items) steps first) (answered + more) old late
  printed_in_step f =
      let later = told_in_order.0 in
      let piece : Event = Printed (f.front ++ f.rest) in
      record {
        before = g.done ++ f.before;
        front = f.front;
        rest = f.rest;
        after = f.after ++ later;
        splits = append_assoc g.done f.before (piece ∷ (f.after ++ later))
            ∙ ap (λ l. g.done ++ l) (sym (append_assoc f.before (piece ∷ f.after) later) ∙ ap (λ l. l ++ later) f.splits)
            ∙ sym told_in_order.1;
        short = f.short;
        asked = omega (arith, asks_append g.done f.before, g.asked, f.asked);
        took = subst (λ l. Took old late l) (sym (append_assoc (bytes_of g.done) (bytes_of f.before) f.front) ∙ ap (λ l. l ++ f.front) (sym (bytes_append g.done f.before)))
            (Took-trans old now late _ _ g.took f.took);
      }

  module _ (before later last : ℕ) (grown : before ≤ later) where
    pub ends : (e : Ending) → Answers (act t max items s) new more (Some e) now late later last → Answers (many (act t max items) steps first) new (answered + more) (Some e) old late before last
    ends ReadFault a = asked_in_step a
    ends WriteFault a = (printed_in_step a.0, let rose = a.1 in omega (arith, grown))
    ends NoMemory a = (part_taken a.0, part_asked a.1)
    ends (Exit n) a = stopped (last_of new (Exit n)) a
    ends (Panic x) a = stopped (last_of new (Panic x)) a
    ends (StackLimit used asked limit) a = stopped (last_of new (StackLimit used asked limit)) a
    ends (HeapLimit used asked limit) a = stopped (last_of new (HeapLimit used asked limit)) a
    ends (WildAddress n) a = stopped (last_of new (WildAddress n)) a
    ends (WildReturn n) a = stopped (last_of new (WildReturn n)) a
    ends (WildLink n) a = stopped (last_of new (WildLink n)) a
    ends (WildHeader n) a = stopped (last_of new (WildHeader n)) a

pub runs_out : (t : Tables) (max : ℕ) (items : ℕ → Item) (steps : ℕ) (first : State) (left : ℕ) (s : State) (answered : ℕ) (old now : Option (List ℕ)) (before later : ℕ)
    → Going t max items steps first left s answered old now → left ≤ 0 → Answers (many (act t max items) steps first) s answered None old now before later
runs_out t max items steps first left s answered old now before later g none =
    let within = g.within in
    let whole : many (act t max items) steps first ≡ Goes (g.done ++ []) s = g.whole 0 steps (omega arith) ∙ ap (behind g.done) (many_none State Event Last (act t max items) s) in
    let told : events_of (many (act t max items) steps first) ≡ g.done = ap (λ (d : Does). events_of d) whole ∙ append-nil g.done in
    (whole ∙ ap (λ (l : List Event). let d : Does = Goes l s in d) (append-nil g.done ∙ sym told), rw told g.took, rw told g.asked)

pub below : (t : Tables) (long pc base : ℕ) → IsCode t → Inside t long pc base → pc < length t.instrs
below t long pc base code inside = subst (λ n. pc < n) code.same (slice_get_within t.owners pc inside.f inside.owner)

-- memory was refused to an instruction after the steps that were done
pub refused : (t : Tables) (max : ℕ) (items : ℕ → Item) (steps : ℕ) (first : State) (left : ℕ) (s : State) (answered : ℕ) (old now late : Option (List ℕ))
    → Going t max items steps first left s answered old now → 0 < left → NeedsMemory t max s.pc s.words s.heap → Took now late [] → Refused t max items steps first answered old late
refused t max items steps first left s answered old now late g some needs nothing =
    let within = g.within in
    let so_far : many (act t max items) (steps - left) first ≡ Goes (g.done ++ []) s =
    g.whole 0 (steps - left) (omega arith) ∙ ap (behind g.done) (many_none State Event Last (act t max items) s) in
    record {
      done = steps - left;
      before = omega arith;
      told = g.done ++ [];
      state = s;
      whole = so_far;
      needs = needs;
      asked = rw (append-nil g.done) g.asked;
      took = rw (bytes_append g.done []) (Took-trans old now late _ _ g.took nothing);
    }

module _ {d : Does} {answered : ℕ} {old new : Option (List ℕ)} (part : PrintedInPart d answered old new) where
  -- all that is printed, cut where the sink stopped
  printed_whole : (bytes_of part.before ++ part.front) ++ (part.rest ++ bytes_of part.after) ≡ printed_by d
  printed_whole =
      let after = bytes_of part.after in
      append_assoc (bytes_of part.before) part.front (part.rest ++ after)
      ∙ ap (λ l. bytes_of part.before ++ l) (sym (append_assoc part.front part.rest after))
      ∙ sym (bytes_append part.before (Printed (part.front ++ part.rest) ∷ part.after))
      ∙ ap bytes_of part.splits

  asked_whole : answered ≤ asks_in (events_of d)
  asked_whole = rw (sym part.splits) (omega (arith, part.asked, asks_append part.before (Printed (part.front ++ part.rest) ∷ part.after)))

-- the sink failed in the step after those that were done
pub unwritten : (t : Tables) (max : ℕ) (items : ℕ → Item) (steps : ℕ) (first : State) (left : ℕ) (s : State) (answered more : ℕ) (old now late : Option (List ℕ))
    → Going t max items steps first left s answered old now → 0 < left → PrintedInPart (act t max items s) more now late → Unwritten t max items steps first (answered + more) old late
unwritten t max items steps first left s answered more old now late g some part =
    let within = g.within in
    let so_far : many (act t max items) (steps - left) first ≡ Goes (g.done ++ []) s =
    g.whole 0 (steps - left) (omega arith) ∙ ap (behind g.done) (many_none State Event Last (act t max items) s) in
    let same : g.done ++ [] ≡ g.done = append-nil g.done in
    record {
      done = steps - left;
      before = omega arith;
      told = g.done;
      state = s;
      whole = so_far ∙ ap (λ (es : List Event). let d : Does = Goes es s in d) same;
      front = bytes_of part.before ++ part.front;
      rest = part.rest ++ bytes_of part.after;
      prints = printed_whole part;
      took = Took-trans old now late _ _ g.took part.took;
      at_least = omega (arith, g.asked);
      at_most = omega (arith, g.asked, asked_whole part);
    }

-- a call tells nothing
call_events : (max frame : ℕ) (f : Option Func) (s : State) → events_of (calls max frame f s) ≡ []
call_events max frame None s = refl
call_events max frame (Some callee) s = by (nat_lt max (length s.words + callee.frame))
  where
    by : (b : Bool)
        → events_of
        (let done : Does = if b
        then stops s (StackLimit (length s.words) callee.frame max)
        else Goes [] (record s { pc = callee.start; words = entered callee.frame (address_of s.range.hi (length s.words - frame)) (s.pc + 1) (zeroed s.words callee.arguments callee.results) }) in done)
        ≡ []
    by true = refl
    by false = refl

if_nothing : (b : Bool) (d e : Does) → events_of d ≡ [] → events_of e ≡ [] → events_of (let done : Does = if b then d else e in done) ≡ []
if_nothing true d e p q = p
if_nothing false d e p q = q

takes_nothing : (s : State) (count : ℕ) (does : State → Does) → ((t : State) → events_of (does t) ≡ []) → events_of (takes s count does) ≡ []
takes_nothing s count does none = if_nothing (nat_lt s.heap.max (length s.heap.words + count)) _ (does (taken s count)) refl (none (taken s count))

touches_nothing : (s : State) (at count : ℕ) (does : Spot → Does) → ((spot : Spot) → events_of (does spot) ≡ []) → events_of (touches s at count does) ≡ []
touches_nothing s at count does none =
    let spot = spot_of s.range.hi s.heap.words s.words at count in if_nothing (is_nowhere spot) _ (does spot) refl (none spot)

allocates_nothing : (s : State) (a count : ℕ) → events_of (allocates s a count) ≡ []
allocates_nothing s a count = takes_nothing s count (λ t. puts t a (next_address s)) (λ t. refl)

makes_nothing : (s : State) (a long capacity w : ℕ) → events_of (makes s a long capacity w) ≡ []
makes_nothing s a long capacity w =
    if_nothing (nat_le long most_elements) _ _
    (if_nothing (nat_le long capacity && nat_le capacity most_elements) _ _ (allocates_nothing s a (capacity * w)) refl)
    refl

adds_nothing : (s : State) (a first long capacity count w : ℕ) (source : Spot) → events_of (adds s a first long capacity count w source) ≡ []
adds_nothing s a first long capacity count w source =
    let put = words_in source s.heap.words s.words (count * w) in
    let room = grown (long + count) capacity in
    let rest : State → Does = λ t. puts_words (put_at (InHeap (length s.heap.words + long * w)) t put) a (header (next_address s) (long + count) room) in
    let renewed : State → Spot → Does = λ t spot. rest (put_at (InHeap (length s.heap.words)) t (words_in spot t.heap.words t.words (long * w))) in
    if_nothing (nat_le (long + count) capacity) (adds_in_place s a first long capacity count w source) (adds_in_new s a first long room count w source)
    (touches_nothing s (element first long w) (count * w) (λ target. puts_words (put_at target s put) a (header first (long + count) capacity)) (λ spot. refl))
    (takes_nothing s (room * w) (λ t. moves_old t first long w (length s.heap.words) rest)
    (λ t. if_nothing (long == 0) (rest t) (touches t first (long * w) (renewed t)) refl (touches_nothing t first (long * w) (renewed t) (λ spot. refl))))

appends_nothing : (s : State) (added : Added) (a b c d w : ℕ) → events_of (appends s added a b c d w) ≡ []
appends_nothing s added a b c d w = if_nothing (are_sizes (slot s (b + 1)) (slot s (b + 2))) (appends_to s added a first long capacity c d w) (stops s (WildHeader long)) (by added) refl
  where
    first : ℕ
    first = slot s b

    long : ℕ
    long = slot s (b + 1)

    capacity : ℕ
    capacity = slot s (b + 2)

    by : (x : Added) → events_of (appends_to s x a first long capacity c d w) ≡ []
    by Slots = if_nothing (d == 0) (puts_words s a (header first long capacity)) (adds s a first long capacity d w (InStack c)) refl (adds_nothing s a first long capacity d w (InStack c))
    by OfSlice =
        let count = slot s (c + 1) in
        let put : Spot → Does = λ source. adds s a first long capacity count w source in
        let found = touches s (slot s c) (count * w) put in
        let some : Does = if count == 0 then puts_words s a (header first long capacity) else found in
        if_nothing (nat_le count most_elements) some (stops s (WildHeader count))
        (if_nothing (count == 0) (puts_words s a (header first long capacity)) found refl
        (touches_nothing s (slot s c) (count * w) put (λ source. adds_nothing s a first long capacity count w source)))
        refl

-- an instruction that needs memory tells nothing
needy_events : (t : Tables) (max : ℕ) (items : ℕ → Item) (s : State) (i : Instr) → Needs t max s.words s.heap i → events_of (act_on t max items (Some i) s) ≡ []
needy_events t max items s (Call g) needs = call_events max (frame_of t (owner_of t s.pc)) (slice_get t.funcs g) s
needy_events t max items s (Alloc a n site) needs = allocates_nothing s a n
needy_events t max items s (Make a w site) needs = makes_nothing s a (slot s (a + 1)) (slot s (a + 2)) w
needy_events t max items s (Append added a b c d w site) needs = appends_nothing s added a b c d w
needy_events t max items s (Const a word) needs = absurd needs
needy_events t max items s (Zero a n) needs = absurd needs
needy_events t max items s (Move event a b n) needs = absurd needs
needy_events t max items s (Same wanted a b c n) needs = absurd needs
needy_events t max items s (Bin op a b c) needs = absurd needs
needy_events t max items s (Un op a b) needs = absurd needs
needy_events t max items s (Jump to) needs = absurd needs
needy_events t max items s (JumpZero a to) needs = absurd needs
needy_events t max items s (Incoming direction a b n) needs = absurd needs
needy_events t max items s (Load a b off n) needs = absurd needs
needy_events t max items s (Store event a off c n) needs = absurd needs
needy_events t max items s (Address a b) needs = absurd needs
needy_events t max items s (Offset a b off) needs = absurd needs
needy_events t max items s (Index a b c len w) needs = absurd needs
needy_events t max items s (SliceIndex a b c w) needs = absurd needs
needy_events t max items s (Slice a b c w) needs = absurd needs
needy_events t max items s (Born a n site) needs = absurd needs
needy_events t max items s (Copy a b c w) needs = absurd needs
needy_events t max items s (PrintInt a) needs = absurd needs
needy_events t max items s (PrintBool a) needs = absurd needs
needy_events t max items s (PrintText text) needs = absurd needs
needy_events t max items s PrintSpace needs = absurd needs
needy_events t max items s PrintLine needs = absurd needs
needy_events t max items s (ReadInt a) needs = absurd needs
needy_events t max items s Return needs = absurd needs
needy_events t max items s (ExitWith a) needs = absurd needs
needy_events t max items s (PanicText text) needs = absurd needs
needy_events t max items s (PanicInt a) needs = absurd needs
needy_events t max items s (PanicBool a) needs = absurd needs

needy_asks : (t : Tables) (max : ℕ) (items : ℕ → Item) (s : State) → NeedsMemory t max s.pc s.words s.heap → asks_in (events_of (act t max items s)) ≡ 0
needy_asks t max items s needs =
    ap (λ i. asks_in (events_of (act_on t max items i s))) needs.1 ∙ ap asks_in (needy_events t max items s needs.0 needs.2)

-- how far a run is that began and goes on at these places of a block
abbrev pub SoFar : Tables → ℕ → ℕ → List ℕ → Words → RunState → ℕ → List ℕ → Words → RunState → Option (List ℕ) → Option (List ℕ) → (ℕ → Item) → ℕ → ℕ → Type 0
SoFar t max steps block0 heap0 at0 left block heap at old now items reads answered = Going t max items steps (state_of (full_range max) block0 at0 reads heap0) left (state_of (full_range max) block at (reads + answered) heap) answered old now

-- how one step answers
abbrev pub StepAnswers : Tables → ℕ → List ℕ → Words → RunState → List ℕ → Words → RunState → Option Ending → Option (List ℕ) → Option (List ℕ) → ℕ → ℕ → (ℕ → Item) → ℕ → ℕ → Type 0
StepAnswers t max block0 heap0 at0 block heap at e old new before now items reads answered =
    Answers (act t max items (state_of (full_range max) block0 at0 reads heap0)) (state_of (full_range max) block at (reads + answered) heap) answered e old new before now

module _ (t r : Tables) (max steps : ℕ) (block0 : List ℕ) (heap0 : Words) (at0 : RunState) (left : ℕ) (block : List ℕ) (heap : Words) (at : RunState) (block1 : List ℕ) (heap1 : Words) (at1 : RunState) (old now late : Option (List ℕ)) (before later last : ℕ) (come0 come come1 : Option (List ℕ)) (U V W : Type 0) (e : Option Ending)
    (so_far : WithAnswers None come0 come U (SoFar t max steps block0 heap0 at0 left block heap at old now)) (some : 0 < left) (same : r ≡ t) (both : U → V → W) (did : WithAnswers e come come1 V (StepAnswers r max block heap at block1 heap1 at1 e now late later last)) where
  pub on_by : e ≡ None → WithAnswers None come0 come1 W (SoFar t max steps block0 heap0 at0 (left - 1) block1 heap1 at1 old late)
  on_by none =
      let one = subst (λ (x : Tables). WithAnswers e come come1 V (StepAnswers x max block heap at block1 heap1 at1 e now late later last)) same did in
      let two = subst (λ x. WithAnswers x come come1 V (StepAnswers t max block heap at block1 heap1 at1 x now late later last)) none one in
      joined None come0 come come1 U V W _ _ (SoFar t max steps block0 heap0 at0 (left - 1) block1 heap1 at1 old late) so_far two both
      (λ items reads a b g d.
      let order : reads + (a + b) ≡ reads + a + b = omega arith in
      rw order (goes_on t max items steps (state_of (full_range max) block0 at0 reads heap0) left (state_of (full_range max) block at (reads + a) heap) (state_of (full_range max) block1 at1 (reads + a + b) heap1) a b old now late g some d))

  pub ends_by : (ending : Ending) → e ≡ Some ending → before ≤ later → (e ≡ Some NoMemory → NeedsMemory r max at.pc (drop at.base block) heap × Took now late []) → WithAnswers e come0 come1 W (RunAnswers t max steps block0 heap0 at0 block1 heap1 at1 e old late before last)
  ends_by ending is grown memory =
      let one = subst (λ (x : Tables). WithAnswers e come come1 V (StepAnswers x max block heap at block1 heap1 at1 e now late later last)) same did in
      joined e come0 come come1 U V W _ _ (RunAnswers t max steps block0 heap0 at0 block1 heap1 at1 e old late before last) so_far one both
      (λ items reads a b g d.
      let order : reads + (a + b) ≡ reads + a + b = omega arith in
      let s = state_of (full_range max) block at (reads + a) heap in
      let first = state_of (full_range max) block0 at0 reads heap0 in
      let new = state_of (full_range max) block1 at1 (reads + a + b) heap1 in
      let by_ending = subst (λ x. Answers (act t max items s) new b x now late later last) is d in
      let answers = ends t max items steps first left s new a b old now late g some before later last grown ending by_ending in (
        rw order (subst (λ x. Answers (many (act t max items) steps first) new (a + b) x old late before last) (sym is) answers),
        λ refusal.
            let fits = memory refusal in
            let needs = subst (λ (x : Tables). NeedsMemory x max at.pc (drop at.base block) heap) same fits.0 in
            let by_memory = subst (λ x. Answers (act t max items s) new b x now late later last) refusal d in
            let none : a + b ≡ a = omega (arith, by_memory.1, needy_asks t max items s needs) in
            rw none (refused t max items steps first left s a old now late g some needs fits.1),
        λ failure.
            let by_write = subst (λ x. Answers (act t max items s) new b x now late later last) failure d in
            unwritten t max items steps first left s a b old now late g some by_write.0,
      ))

pub ran_out : (t : Tables) (max steps : ℕ) (block0 : List ℕ) (heap0 : Words) (at0 : RunState) (left : ℕ) (block : List ℕ) (heap : Words) (at : RunState) (old now : Option (List ℕ)) (before later : ℕ) (come0 come : Option (List ℕ)) (U : Type 0)
    → WithAnswers None come0 come U (SoFar t max steps block0 heap0 at0 left block heap at old now) → left ≤ 0 → WithAnswers None come0 come U (RunAnswers t max steps block0 heap0 at0 block heap at None old now before later)
ran_out t max steps block0 heap0 at0 left block heap at old now before later come0 come U so_far none =
    follows None come0 come U _ (RunAnswers t max steps block0 heap0 at0 block heap at None old now before later) so_far
    (λ items reads a g. (runs_out t max items steps (state_of (full_range max) block0 at0 reads heap0) left (state_of (full_range max) block at (reads + a) heap) a old now before later g none, λ refusal. absurd (no_refusal refusal), λ failure. absurd (no_failure failure)))
  where
    no_refusal : (let e : Option Ending = None in e ≡ Some NoMemory) → ⊥
    no_refusal e = cc

    no_failure : (let e : Option Ending = None in e ≡ Some WriteFault) → ⊥
    no_failure e = cc

pub at_start : (t : Tables) (max steps : ℕ) (block : List ℕ) (heap : Words) (at : RunState) (old come : Option (List ℕ)) (U : Type 0) → U → WithAnswers None come come U (SoFar t max steps block heap at steps block heap at old old)
at_start t max steps block heap at old come U same =
    nothing_read None come U (SoFar t max steps block heap at steps block heap at old old) goes_on_is_no_fault same
    (λ items reads. let zero_more : reads + 0 ≡ reads = omega arith in rw zero_more (at_first t max items steps (state_of (full_range max) block at reads heap) old))
