-- Where a function's instructions stand.
use Rattle.std.proofs.Common.{◌≡◌, ℕ, zero, suc, ◌+◌, ◌<◌, List, [], ◌∷◌, ◌++◌, length, Some, sym, ap, ◌∙◌, subst, arith}
use Rattle.std.specs.Prelude.{slice_get, slice_index}
use Rattle.typed_syntax.specs.Positions.{Position}
use Rattle.meaning.specs.Trace.{Fault, Panic, World, End}
use Rattle.meaning.specs.Meaning.{Env, Ways}
use Rattle.isa.specs.Code.{Tables}
use Rattle.isa.specs.declared.instr.Instr.{Instr}
use Rattle.machine.specs.Machine.{owner_of}
use Rattle.program_code.proofs.Compiled.{HasAt}

-- these instructions of one function stand at this place
abbrev pub Standing : Tables → (f pc : ℕ) → List Instr → Type 0
Standing code f pc [] = Unit {0}
Standing code f pc (i ∷ is) = ((slice_get code.instrs pc ≡ Some i) × (owner_of code pc ≡ f)) × Standing code f (pc + 1) is

pub front : (code : Tables) (f pc : ℕ) (a b : List Instr) → Standing code f pc (a ++ b) → Standing code f pc a
front code f pc [] b h = tt
front code f pc (i ∷ a) b h = (h.0, front code f (pc + 1) a b h.1)

pub back : (code : Tables) (f pc n : ℕ) (a b : List Instr) → length a ≡ n → Standing code f pc (a ++ b) → Standing code f (pc + n) b
back code f pc n [] b e h = let q : pc ≡ pc + n = omega arith in subst (λ n. Standing code f n b) q h
back code f pc zero (i ∷ a) b e h = absurd (omega arith)
back code f pc (suc n) (i ∷ a) b e h =
    let q : pc + 1 + n ≡ pc + suc n = omega arith in
    subst (λ n. Standing code f n b) q (back code f (pc + 1) n a b (omega arith) h.1)

slice_is : (xs : List ℕ) (i x : ℕ) → slice_get xs i ≡ Some x → slice_index xs i ≡ x
slice_is [] i x e = absurd cc e
slice_is (y ∷ xs) zero x e = cc e
slice_is (y ∷ xs) (suc i) x e = slice_is xs i x e

-- where a function's instructions stand, and the places are its own
pub standing : (code : Tables) (f pc : ℕ) (is : List Instr) → HasAt code.instrs pc is → ((i : ℕ) → i < length is → slice_get code.owners (pc + i) ≡ Some f) → Standing code f pc is
standing code f pc [] h own = tt
standing code f pc (i ∷ is) h own =
    let here : pc + 0 ≡ pc = omega arith in (
      (h.0, ap (λ p. slice_index code.owners p) (sym here) ∙ slice_is code.owners (pc + 0) f (own 0 (omega arith))),
      standing code f (pc + 1) is h.1 (λ j l. let e : pc + suc j ≡ pc + 1 + j = omega arith in ap (slice_get code.owners) (sym e) ∙ own (suc j) (omega arith)),
    )

-- a panic ends the run
abbrev pub Panics : Ways → Type 0
Panics ws = (at : Position) (f : Fault) (env : Env) (w : World) → ws.panicked at f env w ≡ End (Panic at f)
