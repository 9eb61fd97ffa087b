-- When what the source and the machine show, and how they end, is the same.
use Rattle.std.specs.Prelude.{◌≡◌, ⊤, ℕ, List, [], get_or, IfSome, FitsSigned}
use Rattle.std.specs.Int.{w64}
use Rattle.typed_syntax.specs.Value.{int, bool}
use Rattle.meaning.specs.Trace.{Ending, Exit, Panic, StackLimit, HeapLimit, Fault, divide_by_zero, shift_count, nil_dereference, index_out_of_range, slice_high, slice_low, make_length, make_capacity, exit_code, raised_text, raised}
use Rattle.meaning.specs.Meaning.{Item}
use Rattle.meaning.specs.Output.{Sight, Last, printing, asking}
use Rattle.machine.specs.Machine.{Event, Printed, Asked, Last as Stopped}
use Rattle.machine.specs.declared.run_state.Ending.{Ending as Stop}
use Rattle.machine.specs.declared.run_state.Ending.TheVariants as Machine
use Rattle.machine.specs.declared.run_state.Panic.{Panic as MachinePanic}
use Rattle.machine.specs.declared.run_state.Panic.TheVariants as machine_panic

abbrev pub same_event : Sight → Event → Type 0
same_event (printing bytes) e = e ≡ Printed bytes
same_event asking e = e ≡ Asked

-- each number among the items of the input is one of 64 bits with a sign
abbrev pub AreNumbers : (ℕ → Item) → Type 0
AreNumbers items = (k : ℕ) → IfSome (items k) (FitsSigned w64)

-- a panic of the source, and one of the machine, which names a string by its number in a table
abbrev pub same_fault : List (List ℕ) → Fault → MachinePanic → Type 0
same_fault strings divide_by_zero machine_panic.DivideByZero = ⊤
same_fault strings (shift_count z) (machine_panic.ShiftCount y) = z ≡ y
same_fault strings (exit_code z) (machine_panic.ExitCode y) = z ≡ y
same_fault strings nil_dereference machine_panic.NilPointer = ⊤
same_fault strings (index_out_of_range i n) (machine_panic.IndexOutOfRange j m) = (i ≡ j) × (n ≡ m)
same_fault strings (slice_high h c) (machine_panic.SliceHigh j d) = (h ≡ j) × (c ≡ d)
same_fault strings (slice_low l h) (machine_panic.SliceLow k j) = (l ≡ k) × (h ≡ j)
same_fault strings (make_length n) (machine_panic.MakeLength m) = n ≡ m
same_fault strings (make_capacity c n) (machine_panic.MakeCapacity d m) = (c ≡ d) × (n ≡ m)
same_fault strings (raised_text bytes) (machine_panic.Text number) = bytes ≡ get_or strings number []
same_fault strings (raised (int z)) (machine_panic.Int y) = z ≡ y
same_fault strings (raised (bool b)) (machine_panic.Bool c) = b ≡ c
same_fault strings f x = ⊥

abbrev pub same_end : List (List ℕ) → Ending → Stop → Type 0
same_end strings (Exit n) (Machine.Exit m) = n ≡ m
same_end strings (Panic at f) (Machine.Panic x) = same_fault strings f x
same_end strings (StackLimit used asked max) (Machine.StackLimit u a m) = (used ≡ u) × (asked ≡ a) × (max ≡ m)
same_end strings (HeapLimit used asked max) (Machine.HeapLimit u a m) = (used ≡ u) × (asked ≡ a) × (max ≡ m)
same_end strings e f = ⊥

-- the same ending, with as many words of the heap taken
abbrev pub same_last : List (List ℕ) → Last → Stopped → Type 0
same_last strings l s = same_end strings l.ending s.ending × (l.heap ≡ s.heap)
