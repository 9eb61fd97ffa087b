use Rattle.std.proofs.Common.{◌≡◌, List, [], ℕ, drop, map}
use Rattle.machine.specs.Machine.{Event, Last as Halt}
use Rattle.simulation.specs.Outcome.{Outcome}
use Rattle.typed.specs.View.{global_of}
use Rattle.expression_code.specs.Frame.{sites_in}
use Rattle.simulated_code.specs.Correct.{begun, first_words}
use Rattle.code_runs.proofs.beginning.first_heap.Given as goal

abbrev pub invariant-loop-global : goal.invariant-loop-global
invariant-loop-global l =
    (l.heap.max ≡ l.heap_max)
    × ((follow : List ℕ → Outcome Event Halt) → begun l.heap_max [] (first_words (map (global_of (sites_in l.program)) l.globals)) follow
    ≡ begun l.heap_max l.heap.words (first_words (map (global_of (sites_in l.program)) (drop l.global-index l.globals))) follow)
