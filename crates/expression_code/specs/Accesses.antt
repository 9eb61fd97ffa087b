-- Where words are, as data.
use Rattle.std.specs.Prelude.{ℕ, ◌+◌, ◌≤◌}
use Rattle.isa.specs.declared.instr.Instr.{Instr}
use Rattle.isa.specs.declared.instr.Instr.TheVariants.{Address, Alloc, Born, Move}
use Rattle.isa.specs.declared.instr.MoveEvent.TheVariants.{Silent}
use Rattle.program_code.specs.Code.{Access, in_slots, by_address}
use Rattle.expression_code.specs.declared.access.Access.{Access as AccessData}
use Rattle.expression_code.specs.declared.access.Access.TheVariants as words

abbrev pub access_of : AccessData → Access
access_of (words.InSlots slot) = in_slots slot
access_of (words.ByAddress slot) = by_address slot

-- the slot that lies so far on, where words are in slots, is told by 16 bits
abbrev pub Spans : Access → (off : ℕ) → Type 0
Spans (in_slots slot) off = slot + off ≤ 65535
Spans (by_address slot) off = Unit {0}

-- a variable of a site is born there with n words, and the address of one that is there goes to slot a
abbrev pub born : Access → (n site : ℕ) → Instr
born (in_slots slot) n site = Born slot n site
born (by_address slot) n site = Alloc slot n site

abbrev pub begin : Access → (a : ℕ) → Instr
begin (in_slots slot) a = Address a slot
begin (by_address slot) a = Move Silent a slot 1
