-- The status and the line of each answer.
use Rattle.std.specs.Prelude.{ℕ, ℤ, ◌≤◌, Bool, true, false, List, [], ◌++◌, codes, decimal, string_bytes}
use Rattle.std.specs.Fmt.{signed_decimal}
use Rattle.typed_syntax.specs.Value.{Value, int, bool}
use Rattle.meaning.specs.Trace.{Fault, divide_by_zero, shift_count, nil_dereference, index_out_of_range, slice_high, slice_low, make_length, make_capacity, exit_code, raised_text, raised}
use Rattle.limits.specs.declared.limits.LimitFault.{LimitFault}
use Rattle.limits.specs.Limits.{fault_number}
use Rattle.gostk.specs.Refusal.{refusal_line}
use Rattle.gostk.specs.declared.answer.Answer.{Answer}
use Rattle.gostk.specs.declared.answer.Reason.{Reason}
use Rattle.gostk.specs.declared.answer.Reason.TheVariants.{DivideByZero, NilPointer, ShiftCount, IndexOutOfRange, SliceHigh, SliceLow, MakeLength, MakeCapacity, ExitCode, Text, Int, Bool as Truth}
use Rattle.gostk.specs.declared.answer.Answer.TheVariants.{Ended, Panicked, Usage, Limits, SourceOnly, Refused, ReadFault, WriteFault, Steps, StackLimit, HeapLimit, NoMemory}

abbrev pub status_of : Answer → ℕ
status_of (Ended status) = status
status_of (Panicked reason) = 2
status_of (Usage text) = 200
status_of (Limits fault) = 200
status_of SourceOnly = 200
status_of (Refused file refusal) = 201
status_of ReadFault = 203
status_of WriteFault = 204
status_of (Steps n) = 205
status_of (StackLimit used asked limit) = 207
status_of (HeapLimit used asked limit) = 206
status_of NoMemory = 209

-- the statuses that the program ends with: those of a program that ran, and those of the table
pub data IsStatus : ℕ → Type 0 where
  of_run : (status : ℕ) → status ≤ 125 → IsStatus status
  words_refused : IsStatus 200
  text_refused : IsStatus 201
  read_failed : IsStatus 203
  write_failed : IsStatus 204
  steps_passed : IsStatus 205
  heap_passed : IsStatus 206
  stack_passed : IsStatus 207
  memory_refused : IsStatus 209

abbrev pub limits_line : LimitFault → List ℕ
limits_line fault = codes "gostk: limits kind " ++ (decimal (fault_number fault) ++ codes "\n")

abbrev pub steps_line : ℕ → List ℕ
steps_line n = codes "gostk: steps " ++ (decimal n ++ codes "\n")

-- the line of a limit: the words in use, those asked for, and the limit
abbrev pub limit_line : List ℕ → (used asked limit : ℕ) → List ℕ
limit_line before used asked limit =
    before ++ (decimal used ++ (codes " asked " ++ (decimal asked ++ (codes " limit " ++ (decimal limit ++ codes "\n")))))

abbrev pub stack_line : (used asked limit : ℕ) → List ℕ
stack_line used asked limit = limit_line (codes "gostk: stack used ") used asked limit

abbrev pub heap_line : (used asked limit : ℕ) → List ℕ
heap_line used asked limit = limit_line (codes "gostk: heap used ") used asked limit

-- why a program panics, in words
abbrev pub truth_text : Bool → List ℕ
truth_text true = codes "true"
truth_text false = codes "false"

abbrev pub numbers_text : (before : List ℕ) → (first : ℤ) → (between : List ℕ) → (second : ℤ) → List ℕ
numbers_text before first between second = before ++ (signed_decimal first ++ (between ++ signed_decimal second))

abbrev pub index_text : (index length : ℤ) → List ℕ
index_text index length = numbers_text (codes "index ") index (codes " length ") length

abbrev pub reason_text : Reason → List ℕ
reason_text DivideByZero = codes "divide by zero"
reason_text NilPointer = codes "nil pointer"
reason_text (ShiftCount n) = codes "shift count " ++ signed_decimal n
reason_text (IndexOutOfRange index length) = index_text index length
reason_text (SliceHigh high capacity) = numbers_text (codes "slice high ") high (codes " capacity ") capacity
reason_text (SliceLow low high) = numbers_text (codes "slice low ") low (codes " high ") high
reason_text (MakeLength n) = codes "make length " ++ signed_decimal n
reason_text (MakeCapacity capacity length) = numbers_text (codes "make capacity ") capacity (codes " length ") length
reason_text (ExitCode n) = codes "exit code " ++ signed_decimal n
reason_text (Text bytes) = bytes.items
reason_text (Int n) = signed_decimal n
reason_text (Truth b) = truth_text b

-- the same of a panic of the source
abbrev pub value_text : Value → List ℕ
value_text (int z) = signed_decimal z
value_text (bool b) = truth_text b
value_text v = []

abbrev pub fault_text : Fault → List ℕ
fault_text divide_by_zero = codes "divide by zero"
fault_text (shift_count n) = codes "shift count " ++ signed_decimal n
fault_text nil_dereference = codes "nil pointer"
fault_text (index_out_of_range index length) = index_text index length
fault_text (slice_high high capacity) = numbers_text (codes "slice high ") high (codes " capacity ") capacity
fault_text (slice_low low high) = numbers_text (codes "slice low ") low (codes " high ") high
fault_text (make_length n) = codes "make length " ++ signed_decimal n
fault_text (make_capacity capacity length) = numbers_text (codes "make capacity ") capacity (codes " length ") length
fault_text (exit_code n) = codes "exit code " ++ signed_decimal n
fault_text (raised_text bytes) = bytes
fault_text (raised v) = value_text v

abbrev pub panic_line : List ℕ → List ℕ
panic_line text = codes "panic: " ++ (text ++ codes "\n")

abbrev pub line_of : Answer → List ℕ
line_of (Ended status) = []
line_of (Panicked reason) = panic_line (reason_text reason)
line_of (Usage text) = string_bytes text
line_of (Limits fault) = limits_line fault
line_of SourceOnly = codes "gostk: source only\n"
line_of (Refused file refusal) = refusal_line file.now refusal
line_of ReadFault = codes "gostk: read fault\n"
line_of WriteFault = codes "gostk: write fault\n"
line_of (Steps n) = steps_line n
line_of (StackLimit used asked limit) = stack_line used asked limit
line_of (HeapLimit used asked limit) = heap_line used asked limit
line_of NoMemory = codes "gostk: no memory\n"
