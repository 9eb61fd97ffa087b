-- Where the code of a program's functions stands.
use Rattle.std.proofs.Common.{◌≡◌, ℕ, zero, suc, ◌+◌, ◌<◌, List, [], ◌∷◌, ◌++◌, length, Some, subst, arith}
use Rattle.std.specs.Prelude.{slice_get}
use Rattle.isa.specs.Code.{Tables}
use Rattle.isa.specs.declared.instr.Instr.{Instr}
use Rattle.typed_syntax.specs.Syntax.{Func, Program}
use Rattle.frames.specs.Placement.{Placement}
use Rattle.program_code.specs.Code.{func_code, func_size, entry_of}

-- these instructions stand at this place
abbrev pub HasAt : List Instr → ℕ → List Instr → Type 0
HasAt code pc [] = Unit {0}
HasAt code pc (i ∷ is) = (slice_get code pc ≡ Some i) × HasAt code (pc + 1) is

pub has_front : (code : List Instr) (pc : ℕ) (a b : List Instr) → HasAt code pc (a ++ b) → HasAt code pc a
has_front code pc [] b h = tt
has_front code pc (i ∷ a) b h = (h.0, has_front code (pc + 1) a b h.1)

pub has_back : (code : List Instr) (pc n : ℕ) (a b : List Instr) → length a ≡ n → HasAt code pc (a ++ b) → HasAt code (pc + n) b
has_back code pc n [] b e h = let f : pc ≡ pc + n = omega arith in subst (λ n. HasAt code n b) f h
has_back code pc zero (i ∷ a) b e h = absurd (omega arith)
has_back code pc (suc n) (i ∷ a) b e h =
    let f : pc + 1 + n ≡ pc + suc n = omega arith in
    subst (λ n. HasAt code n b) f (has_back code (pc + 1) n a b (omega arith) h.1)

-- the function of this number stands from a place on, and the places belong to it
pub record Placed (p : Program) (l : Placement) (code : Tables) (f : ℕ) (func : Func) : Type 0 where
  pub start : ℕ
  pub entry : slice_get code.funcs f ≡ Some (entry_of p l func start)
  pub stands : HasAt code.instrs start (func_code p l func start)
  pub owned : (i : ℕ) → i < func_size p l func → slice_get code.owners (start + i) ≡ Some f

-- all functions do
pub record Compiled (p : Program) (l : Placement) (code : Tables) : Type 0 where
  pub placed : (f : ℕ) (func : Func) → slice_get p.funcs f ≡ Some func → Placed p l code f func
