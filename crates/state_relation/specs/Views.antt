-- A run of the source as its trace so far tells it, wherever the stack lies, and what those outside see from there on.
use Rattle.std.specs.Prelude.{◌≡◌, ℕ, ◌+◌, ◌-◌, List, [], ◌∷◌, Option, Some, None, nat_eq, nat_le, slice_get, if◌then◌else◌}
use Rattle.typed_syntax.specs.Syntax.{Func, Program}
use Rattle.frames.specs.Placement.{Placement}
use Rattle.meaning.specs.Trace.{Call, Return, Born, Read, Write, Print, Asked, StackLimit, HeapLimit, Trace, Turn, Note, Seen, End, Cut}
use Rattle.meaning.specs.Output.{Limits, used_by, tail_of, Sight, Last, last, printing, asking, out}
use Rattle.simulation.specs.Outcome as Run
use Rattle.simulation.specs.Outcome.{Lines}
use Rattle.program_code.specs.Code.{site_slot, slots_of}
pub use Rattle.machine.specs.Machine.{Range}

-- a place that never moves: so many words below the stack's upper end, or from the heap's first word on
pub data Place : Type 0 where
  on_stack : (distance : ℕ) → Place
  on_heap : (index : ℕ) → Place

-- the running calls, the place where each variable is as long as it has one, how many were born, and the words of the heap
pub record View : Type 0 where
  pub calls : List ℕ
  pub homes : ℕ → Option Place
  pub births : ℕ
  pub heap : ℕ

abbrev pub slot_in : Program → Placement → Option Func → ℕ → ℕ
slot_in p pl None site = 0
slot_in p pl (Some f) site = site_slot (slots_of p pl f) site

-- how far the first word of a site of the newest call lies below the stack's upper end
abbrev pub distance : Program → Placement → Limits → List ℕ → ℕ → ℕ
distance p pl l [] site = 0
distance p pl l (f ∷ calls) site = used_by l (f ∷ calls) - slot_in p pl (slice_get p.funcs f) site

-- a new variable takes its place, and none has it any more
abbrev pub not_at : ℕ → Option Place → Option Place
not_at d None = None
not_at d (Some (on_heap h)) = Some (on_heap h)
not_at d (Some (on_stack e)) = if nat_eq e d then None else Some (on_stack e)

abbrev pub born_at : (ℕ → Option Place) → ℕ → ℕ → ℕ → Option Place
born_at homes n d = λ x. if nat_eq x n then Some (on_stack d) else not_at d (homes x)

abbrev pub born_apart : (ℕ → Option Place) → ℕ → ℕ → ℕ → Option Place
born_apart homes n h = λ x. if nat_eq x n then Some (on_heap h) else homes x

-- the homes of a call end with it
abbrev pub not_past : ℕ → Option Place → Option Place
not_past d None = None
not_past d (Some (on_heap h)) = Some (on_heap h)
not_past d (Some (on_stack e)) = if nat_le e d then Some (on_stack e) else None

abbrev pub left_to : (ℕ → Option Place) → ℕ → ℕ → Option Place
left_to homes d = λ x. not_past d (homes x)

-- the view after an entry of the trace
abbrev pub after_call : View → ℕ → View
after_call v f = record v { calls = f ∷ v.calls }

abbrev pub after_return : Limits → View → View
after_return l v = record v { calls = tail_of v.calls; homes = left_to v.homes (used_by l (tail_of v.calls)) }

abbrev pub after_stack : View → ℕ → View
after_stack v d = record v { homes = born_at v.homes v.births d; births = v.births + 1 }

abbrev pub after_apart : View → ℕ → View
after_apart v n = record v { homes = born_apart v.homes v.births v.heap; births = v.births + 1; heap = v.heap + n }

-- before a run
abbrev pub nothing_yet : View
nothing_yet = record { calls = []; homes = λ x. None; births = 0; heap = 0 }

-- What those outside see of a trace, from a view on, where the stack lies in a range: nothing that is seen tells of it.
module _ (p : Program) (pl : Placement) (l : Limits) where
  abbrev pub out_from : View → Range → Trace → Lines Sight Last
  out_from v r (Turn t) = Run.Turn (out_from v r t)
  out_from v r (Seen m t) = out_from v r t
  out_from v r (End e) = Run.End (last v.heap e)
  out_from v r Cut = Run.Cut
  out_from v r (Note (Print bytes) t) = Run.Line (printing bytes) (out_from v r t)
  out_from v r (Note Asked t) = Run.Line asking (out_from v r t)
  out_from v r (Note (Call f) t) = if nat_le (used_by l v.calls + l.frame f) l.stack_max then out_from (after_call v f) r t else Run.End (last v.heap (StackLimit (used_by l v.calls) (l.frame f) l.stack_max))
  out_from v r (Note Return t) = out_from (after_return l v) r t
  out_from v r (Note (Born site n) t) =
      if l.on_heap site then (if nat_le (v.heap + n) l.heap_max then out_from (after_apart v n) r t else Run.End (last v.heap (HeapLimit v.heap n l.heap_max)))
      else out_from (after_stack v (distance p pl l v.calls site)) r t
  out_from v r (Note (Read x path n) t) = out_from v r t
  out_from v r (Note (Write x path n) t) = out_from v r t

-- The fold by views is the one of the meaning.
abbrev pub ViewsShowTheSame : Type 0
ViewsShowTheSame = (p : Program) (pl : Placement) (l : Limits) (v : View) (r : Range) (t : Trace) → out_from p pl l v r t ≡ out l v.calls v.heap t
