-- What a run of the machine and the theorem give together.
use Rattle.std.proofs.Common.{◌≡◌, inl, inr, ℕ, zero, suc, ◌/◌, ◌^◌, ◌<◌, ◌≤◌, length, List, [], ◌∷◌, ◌++◌, Option, Some, None, true, false, sym, refl, ap, ◌∙◌, subst, arith, append_assoc}
use Rattle.std.specs.Prelude.{◌≢◌, replicate, nat_le, slice_get, Result, Err}
use Rattle.outside.specs.Pending.{Pending, to_come}
use Rattle.outside.specs.Took.{Took, TookPrefix}
use Rattle.outside.proofs.Took.{Took-nothing}
use Rattle.typed_syntax.specs.Positions.{Position}
use Rattle.typed_syntax.specs.Syntax.{Program}
use Rattle.typed_syntax.specs.Form.{IsInForm}
use Rattle.meaning.specs.Trace.{Fault, Ending, Exit, Panic, Turns, StackLimit, HeapLimit}
use Rattle.meaning.specs.Meaning.{Item}
use Rattle.frames.specs.Placement.{Placement, IsPlaced, coarse}
use Rattle.meaning.specs.Output.{Sight, Last, printing, asking, source, output, ending_in, AsksBehind}
use Rattle.simulation.specs.Outcome.{Outcome, Gives, Ends, Unfinished, Below, events_in, ending_in as last_in}
use Rattle.simulation.specs.Steps.{Stops, events_of, many, shown_by}
use Rattle.simulation.proofs.Whole.{shows, events_shown, ending_giving}
use Rattle.heap_bump.specs.Words.{Words}
use Rattle.isa.specs.Code.{Tables}
use Rattle.isa.specs.declared.func.Func.{Func as Entry}
use Rattle.machine.specs.Machine.{State, Last as Halt, full_range, last_of, Does, Event, Printed, Asked, bytes_of, asks_in, act}
use Rattle.machine.specs.Answers.{Answers, ReadInOrder, ReadsUpTo, WithAnswers, printed_by, state_of}
use Rattle.machine.specs.declared.run_state.Panic.{Panic as MachinePanic}
use Rattle.machine.specs.declared.run_state.Ending.{Ending as Stop}
use Rattle.machine.specs.declared.run_state.Ending.TheVariants.{Exit as Stopped, Panic as Panicked, ReadFault, WriteFault, NoMemory, StackLimit as Limit, HeapLimit as Full, WildReturn, WildLink, WildAddress, WildHeader}
use Rattle.program_code.specs.Code.{code_of}
use Rattle.program_code.proofs.Sites.{coarse_placed}
use Rattle.program_code.proofs.Stands.{compiled}
use Rattle.simulated_code.proofs.Follows.{simulated}
use Rattle.simulated_code.specs.Correct.{same_event, same_fault, same_end, same_last, limits, first_words, target, entered, first_state, Simulated, AreNumbers}
use Rattle.code_runs.specs.Runs.{asks_of, AreBegun, AsksFor, FindsNoRoom, PrintsInPart, Ran, ReadBy, answer_to}
use Rattle.code_runs.specs.declared.running.RunFault.{RunFault}
use Rattle.code_runs.specs.declared.running.RunFault.TheVariants as fault
use Rattle.code_runs.proofs.Items.{reading_of, are_numbers, has_answers}
use Rattle.code_runs.proofs.Begun.{gated, shut}

-- the theorem, of tables that are the program's code with the placement that needs no analysis
pub simulates : (p : Program) (code : Tables) → IsInForm p → code ≡ code_of p (coarse p) → Simulated p (coarse p) code
simulates p code form is =
    let l = coarse p in subst (λ (t : Tables). Simulated p l t) (sym is) (simulated p l (code_of p l) (compiled p l) form (coarse_placed p) refl)

-- what is said of a run's answer, of one that stands for an ending of the machine
abbrev RanAs : List (List ℕ) → (few many : Outcome Sight Last) → Option (Result ℕ RunFault) → ℕ → (old new : Option (List ℕ)) → (before now : ℕ) → Type 0
RanAs strings few many (Some r) answered old new before now = Ran strings few many r answered old new before now
RanAs strings few many None answered old new before now = ⊥

some_same : {A : Type 0} (x y : A) → Some x ≡ Some y → x ≡ y
some_same x y e = cc

none_some : {A : Type 0} {x : A} → None ≡ Some x → ⊥
none_some e = cc

no_item : {y : Event} {ys : List Event} → [] ≡ y ∷ ys → ⊥
no_item e = cc

printed_asked : (x : List ℕ) → Printed x ≡ Asked → ⊥
printed_asked x e = cc

piece_same : (x y : List ℕ) → Printed x ≡ Printed y → x ≡ y
piece_same x y e = cc

first_same : (x y : Event) (xs ys : List Event) → x ∷ xs ≡ y ∷ ys → x ≡ y
first_same x y xs ys e = cc

rest_same : (x y : Event) (xs ys : List Event) → x ∷ xs ≡ y ∷ ys → xs ≡ ys
rest_same x y xs ys e = cc

-- an item that is asked for by its number is asked for
pub asks_behind : (k : ℕ) (before : List ℕ) (o : Outcome Sight Last) → AsksFor k before o → AsksBehind before o
asks_behind k before (Gives (printing bytes) o) (rest, e, a) = (rest, e, asks_behind k rest o a)
asks_behind zero before (Gives asking o) a = inl a
asks_behind (suc k) before (Gives asking o) a = inr (asks_behind k before o a)
asks_behind k before (Ends e) a = a
asks_behind k before Unfinished a = a

-- what was taken of a piece and before it is a front of all output
pub part_of_output : (k : ℕ) (text : List ℕ) (o : Outcome Sight Last) → PrintsInPart k text o → (rest : List ℕ) × (text ++ rest ≡ output o)
part_of_output k text (Gives (printing bytes) o) (inl cut) = (cut.1.0 ++ output o, sym (append_assoc text cut.1.0 (output o)) ∙ ap (λ l. l ++ output o) cut.1.1)
part_of_output k text (Gives (printing bytes) o) (inr (front, e, later)) =
    let r = part_of_output k front o later in (r.0, ap (λ l. l ++ r.0) e ∙ append_assoc bytes front r.0 ∙ ap (λ l. bytes ++ l) r.1)
part_of_output zero text (Gives asking o) a = absurd a
part_of_output (suc k) text (Gives asking o) a = part_of_output k text o a
part_of_output k text (Ends e) a = absurd a
part_of_output k text Unfinished a = absurd a

pub asked_before : (k : ℕ) (text : List ℕ) (o : Outcome Sight Last) → PrintsInPart k text o → k ≤ asks_of o
asked_before k text (Gives (printing bytes) o) (inl cut) = let none = cut.0 in omega (arith, none)
asked_before k text (Gives (printing bytes) o) (inr (front, e, later)) = asked_before k front o later
asked_before zero text (Gives asking o) a = absurd a
asked_before (suc k) text (Gives asking o) a = let r = asked_before k text o a in omega (arith, r)
asked_before k text (Ends e) a = absurd a
asked_before k text Unfinished a = absurd a

module _ (strings : List (List ℕ)) where
  abbrev Within : Outcome Event Halt → Outcome Sight Last → Type 0
  Within p o = Below (λ d e. same_event e d) (λ d e. same_last strings e d) p o

  -- what a run shows is a front of what the source shows
  part : (p : Outcome Event Halt) (o : Outcome Sight Last) → Within p o → (rest : List ℕ) × (bytes_of (events_in p) ++ rest ≡ output o)
  part Unfinished o b = (output o, refl)
  part (Ends e) (Ends f) b = ([], refl)
  part (Ends e) (Gives x o) b = absurd b
  part (Ends e) Unfinished b = absurd b
  part (Gives y p) (Gives (printing x) o) (e, b) =
      let r = part p o b in
      (r.0, ap (λ (v : Event). bytes_of (v ∷ events_in p) ++ r.0) e ∙ append_assoc x (bytes_of (events_in p)) r.0 ∙ ap (λ l. x ++ l) r.1)
  part (Gives y p) (Gives asking o) (e, b) = let r = part p o b in (r.0, ap (λ (v : Event). bytes_of (v ∷ events_in p) ++ r.0) e ∙ r.1)
  part (Gives y p) (Ends f) b = absurd b
  part (Gives y p) Unfinished b = absurd b

  told_asks : (y : Event) (x : List ℕ) (es : List Event) → y ≡ Printed x → asks_in (y ∷ es) ≡ asks_in es
  told_asks y x es e = ap (λ (v : Event). asks_in (v ∷ es)) e

  one_asked : (y : Event) (es : List Event) → y ≡ Asked → asks_in (y ∷ es) ≡ suc (asks_in es)
  one_asked y es e = ap (λ (v : Event). asks_in (v ∷ es)) e

  -- it asks for no more items
  fewer_asks : (p : Outcome Event Halt) (o : Outcome Sight Last) → Within p o → asks_in (events_in p) ≤ asks_of o
  fewer_asks Unfinished o b = omega arith
  fewer_asks (Ends e) o b = omega arith
  fewer_asks (Gives y p) (Gives (printing x) o) (e, b) = let r = fewer_asks p o b in let q = told_asks y x (events_in p) e in omega (arith, r, q)
  fewer_asks (Gives y p) (Gives asking o) (e, b) = let r = fewer_asks p o b in let q = one_asked y (events_in p) e in omega (arith, r, q)
  fewer_asks (Gives y p) (Ends f) b = absurd b
  fewer_asks (Gives y p) Unfinished b = absurd b

  -- an item that a run asks for is one that the source asks for, after the same output and as many others
  asked_for : (before after : List Event) (p : Outcome Event Halt) (o : Outcome Sight Last) → Within p o → events_in p ≡ before ++ (Asked ∷ after) → AsksFor (asks_in before) (bytes_of before) o
  asked_for [] after Unfinished o b h = absurd (no_item h)
  asked_for (v ∷ before) after Unfinished o b h = absurd (no_item h)
  asked_for [] after (Ends e) o b h = absurd (no_item h)
  asked_for (v ∷ before) after (Ends e) o b h = absurd (no_item h)
  asked_for [] after (Gives y p) (Gives (printing x) o) (e, b) h = absurd (printed_asked x (sym e ∙ first_same y Asked (events_in p) after h))
  asked_for (v ∷ before) after (Gives y p) (Gives (printing x) o) (e, b) h =
      let same : Printed x ≡ v = sym e ∙ first_same y v (events_in p) (before ++ (Asked ∷ after)) h in
      subst (λ (u : Event). AsksFor (asks_in (u ∷ before)) (bytes_of (u ∷ before)) (Gives (printing x) o)) same
      (bytes_of before, refl, asked_for before after p o b (rest_same y v (events_in p) (before ++ (Asked ∷ after)) h))
  asked_for [] after (Gives y p) (Gives asking o) (e, b) h = refl
  asked_for (v ∷ before) after (Gives y p) (Gives asking o) (e, b) h =
      let same : Asked ≡ v = sym e ∙ first_same y v (events_in p) (before ++ (Asked ∷ after)) h in
      subst (λ (u : Event). AsksFor (asks_in (u ∷ before)) (bytes_of (u ∷ before)) (Gives asking o)) same
      (asked_for before after p o b (rest_same y v (events_in p) (before ++ (Asked ∷ after)) h))
  asked_for before after (Gives y p) (Ends f) b h = absurd b
  asked_for before after (Gives y p) Unfinished b h = absurd b

  -- a piece that a run prints is one that the source prints, after the same output and as many items
  printed_in_part : (before after : List Event) (front rest : List ℕ) (p : Outcome Event Halt) (o : Outcome Sight Last) → Within p o → events_in p ≡ before ++ (Printed (front ++ rest) ∷ after) → 0 < length rest
      → PrintsInPart (asks_in before) (bytes_of before ++ front) o
  printed_in_part [] after front rest Unfinished o b h short = absurd (no_item h)
  printed_in_part (v ∷ before) after front rest Unfinished o b h short = absurd (no_item h)
  printed_in_part [] after front rest (Ends e) o b h short = absurd (no_item h)
  printed_in_part (v ∷ before) after front rest (Ends e) o b h short = absurd (no_item h)
  printed_in_part [] after front rest (Gives y p) (Gives (printing x) o) (e, b) h short =
      let same : x ≡ front ++ rest = piece_same x (front ++ rest) (sym e ∙ first_same y (Printed (front ++ rest)) (events_in p) after h) in
      inl (refl, (rest, sym same, short))
  printed_in_part (v ∷ before) after front rest (Gives y p) (Gives (printing x) o) (e, b) h short =
      let later = before ++ (Printed (front ++ rest) ∷ after) in
      let same : Printed x ≡ v = sym e ∙ first_same y v (events_in p) later h in
      subst (λ (u : Event). PrintsInPart (asks_in (u ∷ before)) (bytes_of (u ∷ before) ++ front) (Gives (printing x) o)) same
      (inr (bytes_of before ++ front, append_assoc x (bytes_of before) front, printed_in_part before after front rest p o b (rest_same y v (events_in p) later h) short))
  printed_in_part [] after front rest (Gives y p) (Gives asking o) (e, b) h short =
      absurd (printed_asked (front ++ rest) (sym (first_same y (Printed (front ++ rest)) (events_in p) after h) ∙ e))
  printed_in_part (v ∷ before) after front rest (Gives y p) (Gives asking o) (e, b) h short =
      let later = before ++ (Printed (front ++ rest) ∷ after) in
      let same : Asked ≡ v = sym e ∙ first_same y v (events_in p) later h in
      subst (λ (u : Event). PrintsInPart (asks_in (u ∷ before)) (bytes_of (u ∷ before) ++ front) (Gives asking o)) same
      (printed_in_part before after front rest p o b (rest_same y v (events_in p) later h) short)
  printed_in_part before after front rest (Gives y p) (Ends f) b h short = absurd b
  printed_in_part before after front rest (Gives y p) Unfinished b h short = absurd b

  -- what has ended is all that the source shows
  record Met (y : Halt) (p : Outcome Event Halt) (o : Outcome Sight Last) : Type 0 where
    ending : Ending
    ended : ending_in o ≡ Some ending
    alike : same_end strings ending y.ending
    all : output o ≡ bytes_of (events_in p)
    asked : asks_of o ≡ asks_in (events_in p)

  met : (p : Outcome Event Halt) (o : Outcome Sight Last) (y : Halt) → Within p o → last_in p ≡ Some y → Met y p o
  met Unfinished o y b h = absurd (none_some h)
  met (Ends e) (Ends f) y b h = record { ending = f.ending; ended = refl; alike = subst (λ (z : Halt). same_end strings f.ending z.ending) (some_same e y h) b.0; all = refl; asked = refl }
  met (Ends e) (Gives x o) y b h = absurd b
  met (Ends e) Unfinished y b h = absurd b
  met (Gives d p) (Gives (printing x) o) y (e, b) h =
      let r = met p o y b h in
      record { ending = r.ending; ended = r.ended; alike = r.alike; all = ap (λ l. x ++ l) r.all ∙ sym (ap (λ (v : Event). bytes_of (v ∷ events_in p)) e); asked = r.asked ∙ sym (told_asks d x (events_in p) e) }
  met (Gives d p) (Gives asking o) y (e, b) h =
      let r = met p o y b h in
      record { ending = r.ending; ended = r.ended; alike = r.alike; all = r.all ∙ sym (ap (λ (v : Event). bytes_of (v ∷ events_in p)) e); asked = ap suc r.asked ∙ sym (one_asked d (events_in p) e) }
  met (Gives d p) (Ends f) y b h = absurd b
  met (Gives d p) Unfinished y b h = absurd b

  -- what has not ended shows at least what few turns show, and these have not ended
  open_yet : (o : Outcome Sight Last) (p : Outcome Event Halt) → Below same_event (same_last strings) o p → last_in p ≡ None → (ending_in o ≡ None) × ((rest : List ℕ) × (output o ++ rest ≡ bytes_of (events_in p))) × (asks_of o ≤ asks_in (events_in p))
  open_yet Unfinished p b h = (refl, (bytes_of (events_in p), refl), omega arith)
  open_yet (Ends e) (Ends f) b h = absurd (none_some (sym h))
  open_yet (Ends e) (Gives y p) b h = absurd b
  open_yet (Ends e) Unfinished b h = absurd b
  open_yet (Gives (printing x) o) (Gives y p) (e, b) h =
      let r = open_yet o p b h in let asks = r.2 in let q = told_asks y x (events_in p) e in
      (r.0, (r.1.0, append_assoc x (output o) r.1.0 ∙ ap (λ l. x ++ l) r.1.1 ∙ sym (ap (λ (v : Event). bytes_of (v ∷ events_in p)) e)), omega (arith, asks, q))
  open_yet (Gives asking o) (Gives y p) (e, b) h =
      let r = open_yet o p b h in let asks = r.2 in let q = one_asked y (events_in p) e in
      (r.0, (r.1.0, r.1.1 ∙ sym (ap (λ (v : Event). bytes_of (v ∷ events_in p)) e)), omega (arith, asks, q))
  open_yet (Gives x o) (Ends f) b h = absurd b
  open_yet (Gives x o) Unfinished b h = absurd b

  exit_is : (e : Ending) (m : ℕ) → same_end strings e (Stopped m) → e ≡ Exit m
  exit_is (Exit n) m a = ap Exit a
  exit_is (StackLimit u k l) m a = absurd a
  exit_is (HeapLimit u k l) m a = absurd a
  exit_is Turns m a = absurd a
  exit_is (Panic at f) m a = absurd a

  panic_is : (e : Ending) (x : MachinePanic) → same_end strings e (Panicked x) → (at : Position) × (f : Fault) × (e ≡ Panic at f) × same_fault strings f x
  panic_is (Panic at f) x a = (at, f, refl, a)
  panic_is (Exit n) x a = absurd a
  panic_is (StackLimit u k l) x a = absurd a
  panic_is (HeapLimit u k l) x a = absurd a
  panic_is Turns x a = absurd a

  limit_is : (e : Ending) (u k l : ℕ) → same_end strings e (Limit u k l) → e ≡ StackLimit u k l
  limit_is (StackLimit a b c) u k l (e, f, g) = ap (λ x. StackLimit x b c) e ∙ ap (λ x. StackLimit u x c) f ∙ ap (λ x. StackLimit u k x) g
  limit_is (Exit n) u k l a = absurd a
  limit_is Turns u k l a = absurd a
  limit_is (HeapLimit a b c) u k l d = absurd d
  limit_is (Panic at f) u k l a = absurd a

  heap_is : (e : Ending) (u k l : ℕ) → same_end strings e (Full u k l) → e ≡ HeapLimit u k l
  heap_is (HeapLimit a b c) u k l (e, f, g) = ap (λ x. HeapLimit x b c) e ∙ ap (λ x. HeapLimit u x c) f ∙ ap (λ x. HeapLimit u k x) g
  heap_is (Exit n) u k l a = absurd a
  heap_is Turns u k l a = absurd a
  heap_is (StackLimit a b c) u k l d = absurd d
  heap_is (Panic at f) u k l a = absurd a

  place_is : (e : Ending) (x : ℕ) → same_end strings e (WildReturn x) → ⊥
  place_is (Exit n) x a = a
  place_is (StackLimit u k l) x a = a
  place_is (HeapLimit u k l) x a = a
  place_is Turns x a = a
  place_is (Panic at f) x a = a

  address_is : (e : Ending) (x : ℕ) → same_end strings e (WildAddress x) → ⊥
  address_is (Exit n) x a = a
  address_is (StackLimit u k l) x a = a
  address_is (HeapLimit u k l) x a = a
  address_is Turns x a = a
  address_is (Panic at f) x a = a

  link_is : (e : Ending) (x : ℕ) → same_end strings e (WildLink x) → ⊥
  link_is (Exit n) x a = a
  link_is (StackLimit u k l) x a = a
  link_is (HeapLimit u k l) x a = a
  link_is Turns x a = a
  link_is (Panic at f) x a = a

  header_is : (e : Ending) (x : ℕ) → same_end strings e (WildHeader x) → ⊥
  header_is (Exit n) x a = a
  header_is (StackLimit u k l) x a = a
  header_is (HeapLimit u k l) x a = a
  header_is Turns x a = a
  header_is (Panic at f) x a = a

  -- the steps' outcome against the source
  module _ (few many_turns : Outcome Sight Last) (d : Does) (s : State) (answered : ℕ) (old new : Option (List ℕ)) (before now : ℕ) (low : Below same_event (same_last strings) few (shown_by d)) (high : Within (shown_by d) many_turns) where
    told : bytes_of (events_in (shown_by d)) ≡ printed_by d
    told = ap bytes_of (events_shown d)

    told_asked : asks_in (events_in (shown_by d)) ≡ asks_in (events_of d)
    told_asked = ap asks_in (events_shown d)

    front : (rest : List ℕ) × (printed_by d ++ rest ≡ output many_turns)
    front = let r = part (shown_by d) many_turns high in (r.0, ap (λ l. l ++ r.0) (sym told) ∙ r.1)

    -- as many items as were read are asked for
    within_asks : answered ≤ asks_in (events_of d) → answered ≤ asks_of many_turns
    within_asks le = let f = fewer_asks (shown_by d) many_turns high in omega (arith, le, f, told_asked)

    ends : (e : Halt) → d ≡ Stops (events_of d) e → Met e (shown_by d) many_turns
    ends e is = met (shown_by d) many_turns e high (ap (λ (x : Does). last_in (shown_by x)) is ∙ ending_giving (events_of d) (Ends e))

    whole : (e : Halt) → Met e (shown_by d) many_turns → Took old new (printed_by d) → Took old new (output many_turns)
    whole e m a = subst (λ x. Took old new x) (sym (m.all ∙ told)) a

    whole_asked : (e : Halt) → Met e (shown_by d) many_turns → asks_in (events_of d) ≡ answered → asks_of many_turns ≡ answered
    whole_asked e m a = m.asked ∙ told_asked ∙ a

    -- a front of what is printed is one of what the source shows
    widened : TookPrefix old new (printed_by d) → TookPrefix old new (output many_turns)
    widened t =
        let u = t.1 in
        (t.0 ++ front.0, record { done = u.done; splits = sym (append_assoc u.done t.0 front.0) ∙ ap (λ l. l ++ front.0) u.splits ∙ front.1; took = u.took })

    ran : (e : Option Stop) → Answers d s answered e old new before now → RanAs strings few many_turns (answer_to e) answered old new before now
    ran None (goes, took, asked) =
        let o = open_yet few (shown_by d) low (ap (λ (x : Does). last_in (shown_by x)) goes ∙ ending_giving (events_of d) Unfinished) in
        let least = o.2 in
        (o.0, record { bytes = printed_by d; took = took; begins = (o.1.0, o.1.1 ∙ told); within = front }, omega (arith, least, told_asked, asked), within_asks (omega (arith, asked)))
    ran (Some ReadFault) a =
        (bytes_of a.before, subst (λ k. AsksFor k (bytes_of a.before) many_turns) a.asked (asked_for a.before a.after (shown_by d) many_turns high (events_shown d ∙ sym a.splits)), a.took)
    ran (Some WriteFault) (a, rose) = (
      bytes_of a.before ++ a.front,
      subst (λ k. PrintsInPart k (bytes_of a.before ++ a.front) many_turns) a.asked
          (printed_in_part a.before a.after a.front a.rest (shown_by d) many_turns high (events_shown d ∙ sym a.splits) a.short),
      a.took,
      rose,
    )
    ran (Some NoMemory) (t, asked) = (widened t, within_asks asked)
    ran (Some (Stopped n)) (stops, took, asked) =
        let m = ends (last_of s (Stopped n)) stops in (m.ended ∙ ap (λ x. Some x) (exit_is m.ending n m.alike), whole (last_of s (Stopped n)) m took, whole_asked (last_of s (Stopped n)) m asked)
    ran (Some (Panicked x)) (stops, took, asked) =
        let m = ends (last_of s (Panicked x)) stops in let i = panic_is m.ending x m.alike in
        (i.0, i.1, m.ended ∙ ap (λ y. Some y) i.2, i.3, whole (last_of s (Panicked x)) m took, whole_asked (last_of s (Panicked x)) m asked)
    ran (Some (Limit u k l)) (stops, took, asked) =
        let m = ends (last_of s (Limit u k l)) stops in (m.ended ∙ ap (λ x. Some x) (limit_is m.ending u k l m.alike), whole (last_of s (Limit u k l)) m took, whole_asked (last_of s (Limit u k l)) m asked)
    ran (Some (Full u k l)) (stops, took, asked) =
        let m = ends (last_of s (Full u k l)) stops in (m.ended ∙ ap (λ x. Some x) (heap_is m.ending u k l m.alike), whole (last_of s (Full u k l)) m took, whole_asked (last_of s (Full u k l)) m asked)
    ran (Some (WildReturn x)) a = let m = ends (last_of s (WildReturn x)) a.0 in absurd (place_is m.ending x m.alike)
    ran (Some (WildLink x)) a = let m = ends (last_of s (WildLink x)) a.0 in absurd (link_is m.ending x m.alike)
    ran (Some (WildAddress x)) a = let m = ends (last_of s (WildAddress x)) a.0 in absurd (address_is m.ending x m.alike)
    ran (Some (WildHeader x)) a = let m = ends (last_of s (WildHeader x)) a.0 in absurd (header_is m.ending x m.alike)

module _ (p : Program) (code : Tables) (is : Simulated p (coarse p) code) (items : ℕ → Item) (numbers : AreNumbers items) (max heap_max steps : ℕ) (stack : max ≤ 2 ^ 32) (small : heap_max ≤ 2 ^ 32) where
  abbrev few : Outcome Sight Last
  few = source items p (limits p (coarse p) max heap_max) (steps / 16)

  abbrev turns : Outcome Sight Last
  turns = source items p (limits p (coarse p) max heap_max) steps

  abbrev goal : Outcome Event Halt
  goal = target code items (first_words p.globals) p.main max heap_max steps

  few_below : Below same_event (same_last p.strings) few goal
  few_below = is.at_least items numbers max heap_max (steps / 16) steps stack small (omega arith)

  -- a run that ends before its first instruction
  at_once : (e : Halt) (old : Option (List ℕ)) → goal ≡ Ends e → (m : Met p.strings e (Ends e) turns) × Took old old (output turns)
  at_once e old same =
      let m = met p.strings (Ends e) turns e (subst (λ o. Within p.strings o turns) same (is.at_most items numbers max heap_max steps stack small)) refl in
      (m, subst (λ x. Took old old x) (sym m.all) (Took-nothing old))

  -- where the package variables have no room
  pub full : (old : Option (List ℕ)) (faults used asked : ℕ) → FindsNoRoom heap_max (first_words p.globals) used asked → Ran p.strings few turns (Err (fault.HeapLimit used asked heap_max)) 0 old old faults faults
  full old faults used asked passes =
      let r = at_once (record { ending = Full used asked heap_max; heap = used }) old (passes _) in
      (r.0.ended ∙ ap (λ x. Some x) (heap_is p.strings r.0.ending used asked heap_max r.0.alike), r.1, r.0.asked)

  -- where there is no memory for them, or for the first frame
  pub unready : (old : Option (List ℕ)) (faults : ℕ) → Ran p.strings few turns (Err fault.NoMemory) 0 old old faults faults
  unready old faults = ((output turns, record { done = []; splits = refl; took = Took-nothing old }), omega arith)

  -- where they have, and the heap begins with these words
  module _ (taken : List ℕ) (room : AreBegun heap_max (first_words p.globals) taken) (fn : Entry) (entry : slice_get code.funcs p.main ≡ Some fn) where
    abbrev heap : Words
    heap = record { words = taken; max = heap_max }

    enters : goal ≡ entered code items max heap (Some fn) steps
    enters = room _ ∙ ap (λ (f : Option Entry). entered code items max heap f steps) entry

    -- of a block of words that is the first frame, and such a heap
    composed : (block : List ℕ) (first : Words) (s : State) (answered : ℕ) (e : Option Stop) (old new : Option (List ℕ)) (before now : ℕ) → nat_le fn.frame max ≡ true → block ≡ replicate fn.frame 0 → first ≡ heap
        → Answers (many (act code max items) steps (state_of (full_range max) block (record { pc = fn.start; base = 0 }) 0 first)) s answered e old new before now
        → RanAs p.strings few turns (answer_to e) answered old new before now
    composed block first s answered e old new before now fits zeros begins a =
        let d = many (act code max items) steps (first_state fn max heap) in
        let same : goal ≡ shown_by d = enters ∙ gated (nat_le fn.frame max) _ _ fits ∙ shows State Event Halt (act code max items) steps (first_state fn max heap) in
        ran p.strings few turns d s answered old new before now
        (subst (λ o. Below same_event (same_last p.strings) few o) same few_below)
        (subst (λ o. Within p.strings o turns) same (is.at_most items numbers max heap_max steps stack small)) e
        (subst (λ (h : Words). let s0 : State = record { pc = fn.start; range = full_range max; words = replicate fn.frame 0; reads = 0; heap = h } in Answers (many (act code max items) steps s0) s answered e old new before now) begins
        (subst (λ (ws : List ℕ). let s0 : State = record { pc = fn.start; range = full_range max; words = ws; reads = 0; heap = first } in Answers (many (act code max items) steps s0) s answered e old new before now) zeros a))

    -- an answer that stands for the ending
    pub answers : (block : List ℕ) (first : Words) (s : State) (answered : ℕ) (e : Option Stop) (r : Result ℕ RunFault) (old new : Option (List ℕ)) (before now : ℕ) → nat_le fn.frame max ≡ true → block ≡ replicate fn.frame 0 → first ≡ heap
        → answer_to e ≡ Some r → Answers (many (act code max items) steps (state_of (full_range max) block (record { pc = fn.start; base = 0 }) 0 first)) s answered e old new before now
        → Ran p.strings few turns r answered old new before now
    answers block first s answered e r old new before now fits zeros begins is a =
        subst (λ x. RanAs p.strings few turns x answered old new before now) is (composed block first s answered e old new before now fits zeros begins a)

    -- there is one
    pub tame : (block : List ℕ) (first : Words) (s : State) (answered : ℕ) (e : Option Stop) (old new : Option (List ℕ)) (before now : ℕ) → nat_le fn.frame max ≡ true → block ≡ replicate fn.frame 0 → first ≡ heap
        → Answers (many (act code max items) steps (state_of (full_range max) block (record { pc = fn.start; base = 0 }) 0 first)) s answered e old new before now
        → answer_to e ≢ None
    tame block first s answered e old new before now fits zeros begins a none =
        subst (λ x. RanAs p.strings few turns x answered old new before now) none (composed block first s answered e old new before now fits zeros begins a)

    -- where the first frame passes the limit
    pub refused : (old : Option (List ℕ)) (faults : ℕ) → nat_le fn.frame max ≡ false → Ran p.strings few turns (Err (fault.StackLimit 0 fn.frame max)) 0 old old faults faults
    refused old faults passes =
        let r = at_once (record { ending = Limit 0 fn.frame max; heap = length taken }) old (enters ∙ shut (nat_le fn.frame max) _ _ passes) in
        (r.0.ended ∙ ap (λ x. Some x) (limit_is p.strings r.0.ending 0 fn.frame max r.0.alike), r.1, r.0.asked)

-- a reader that holds nothing has to give what the source has left
fresh : (reader : Pending) → reader ≡ record { bytes = []; ended = false } → (left : Option (List ℕ)) → to_come reader left ≡ left
fresh reader empty left = ap (λ (r : Pending). to_come r left) empty ∙ all left
  where
    all : (left : Option (List ℕ)) → to_come (record { bytes = []; ended = false }) left ≡ left
    all None = refl
    all (Some bytes) = refl

-- the answers, whether or not a read failed after them
answered_by : (e : Option Stop) (old new : Option (List ℕ)) (answers : List Item) → ReadsUpTo e old new answers → (rest : Option (List ℕ)) × ReadInOrder old rest answers
answered_by (Some ReadFault) old new answers (next, r, loses) = (next, r)
answered_by None old new answers r = (new, r)
answered_by (Some WriteFault) old new answers r = (new, r)
answered_by (Some NoMemory) old new answers r = (new, r)
answered_by (Some (Stopped n)) old new answers r = (new, r)
answered_by (Some (Panicked x)) old new answers r = (new, r)
answered_by (Some (Limit u k l)) old new answers r = (new, r)
answered_by (Some (Full u k l)) old new answers r = (new, r)
answered_by (Some (WildReturn x)) old new answers r = (new, r)
answered_by (Some (WildLink x)) old new answers r = (new, r)
answered_by (Some (WildAddress x)) old new answers r = (new, r)
answered_by (Some (WildHeader x)) old new answers r = (new, r)

-- what a run of the machine read is what the run of the program read
pub read_by : (e : Option Stop) (r : Result ℕ RunFault) (reader : Pending) (left new : Option (List ℕ)) (same gone : Type 0) (step_claim : (ℕ → Item) → ℕ → ℕ → Type 0) (claim : (ℕ → Item) → ℕ → Type 0)
    → answer_to e ≡ Some r → reader ≡ record { bytes = []; ended = false } → WithAnswers e (to_come reader left) new same step_claim → (same → gone)
    → ((items : ℕ → Item) (answered : ℕ) → AreNumbers items → step_claim items 0 answered → claim items answered)
    → ReadBy r left gone claim
read_by e r reader left new same gone step_claim claim is empty w untouched does =
    let came = answered_by e left new w.answers (subst (λ old. ReadsUpTo e old new w.answers) (fresh reader empty left) w.read) in
    record {
      answers = w.answers;
      numbers = w.numbers;
      rest = came.0;
      read = came.1;
      unread = λ other none. untouched (w.unread (λ fails. other (some_same r (Err fault.ReadFault) (sym is ∙ ap answer_to fails))) none);
      does = λ items numbers has. does items (length w.answers) numbers (w.does items 0 has);
    }

-- what can be said of no items can't be said of those that came
pub nothing_says : (e : Option Stop) (old new : Option (List ℕ)) (same : Type 0) (step_claim : (ℕ → Item) → ℕ → ℕ → Type 0) → WithAnswers e old new same step_claim
    → ((items : ℕ → Item) (answered : ℕ) → AreNumbers items → step_claim items 0 answered → ⊥) → ⊥
nothing_says e old new same step_claim w none =
    none (reading_of w.answers) (length w.answers) (are_numbers w.answers w.numbers) (w.does (reading_of w.answers) 0 (has_answers w.answers))

-- a run that ended before its first instruction read nothing
pub read_nothing : (r : Result ℕ RunFault) (left : Option (List ℕ)) (untouched : Type 0) (claim : (ℕ → Item) → ℕ → Type 0) → untouched → ((items : ℕ → Item) → AreNumbers items → claim items 0) → ReadBy r left untouched claim
read_nothing r left untouched claim same does = record {
  answers = [];
  numbers = tt;
  rest = left;
  read = refl;
  unread = λ other none. same;
  does = λ items numbers has. does items numbers;
}
