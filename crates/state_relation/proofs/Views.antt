-- What is seen by views is what the meaning lets see.
use Rattle.std.proofs.Common.{◌≡◌, ◌+◌, refl, ap, ap₂}
use Rattle.std.specs.Prelude.{nat_le, if◌then◌else◌}
use Rattle.typed_syntax.specs.Syntax.{Program}
use Rattle.frames.specs.Placement.{Placement}
use Rattle.meaning.specs.Trace.{Call, Return, Born, Read, Write, Print, Asked, StackLimit, HeapLimit, Trace, Turn, Note, Seen, End, Cut}
use Rattle.meaning.specs.Output.{Limits, last, used_by, printing, asking, out}
use Rattle.simulation.specs.Outcome as Run
use Rattle.state_relation.specs.Views.{View, Range, distance, after_call, after_return, after_stack, after_apart, out_from}

pub same_sight : (p : Program) (pl : Placement) (l : Limits) (v : View) (r : Range) (t : Trace) → out_from p pl l v r t ≡ out l v.calls v.heap t
same_sight p pl l v r (Turn t) = ap Run.Turn (same_sight p pl l v r t)
same_sight p pl l v r (Seen m t) = same_sight p pl l v r t
same_sight p pl l v r (End e) = refl
same_sight p pl l v r Cut = refl
same_sight p pl l v r (Note (Print bytes) t) = ap (Run.Line (printing bytes)) (same_sight p pl l v r t)
same_sight p pl l v r (Note Asked t) = ap (Run.Line asking) (same_sight p pl l v r t)
same_sight p pl l v r (Note (Call f) t) =
    ap (λ x. if nat_le (used_by l v.calls + l.frame f) l.stack_max then x else Run.End (last v.heap (StackLimit (used_by l v.calls) (l.frame f) l.stack_max))) (same_sight p pl l (after_call v f) r t)
same_sight p pl l v r (Note Return t) = same_sight p pl l (after_return l v) r t
same_sight p pl l v r (Note (Born site n) t) =
    ap₂ (λ x y. if l.on_heap site then (if nat_le (v.heap + n) l.heap_max then x else Run.End (last v.heap (HeapLimit v.heap n l.heap_max))) else y) (same_sight p pl l (after_apart v n) r t) (same_sight p pl l (after_stack v (distance p pl l v.calls site)) r t)
same_sight p pl l v r (Note (Read x path n) t) = same_sight p pl l v r t
same_sight p pl l v r (Note (Write x path n) t) = same_sight p pl l v r t
