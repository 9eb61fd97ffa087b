-- The machine follows a truth value.
use Rattle.std.proofs.Common.{◌≡◌, ℕ, suc, ◌+◌, true, false, Bool, [], Some, refl, ap}
use Rattle.std.specs.Prelude.{slice_get, slice_index, ◌==◌, if◌then◌else◌}
use Rattle.typed_syntax.specs.Types.{bools}
use Rattle.typed_syntax.specs.Value.{Value, bool, IsOf}
use Rattle.meaning.specs.Trace.{World, Trace}
use Rattle.meaning.specs.Meaning
use Rattle.meaning.specs.Meaning.{Go}
use Rattle.simulation.specs.Steps.{Goes}
use Rattle.isa.specs.Bin.{bit_of}
use Rattle.isa.specs.declared.instr.Instr.TheVariants.{JumpZero}
use Rattle.state_relation.specs.Views.{View}
use Rattle.state_relation.specs.Relation.{Memory}
use Rattle.state_relation.proofs.Words.{Spells}
use Rattle.state_relation.proofs.Built.{Built}
use Rattle.state_relation.proofs.Rules.{state_of, At, stepped}

module _ (m : Built) where
  -- a jump is not taken, or taken
  pub goes_on : {lo hi b : ℕ} {v : View} {t : Trace} {G G1 : Memory → Type 0} {pc : ℕ} (a goal : ℕ) → slice_get m.code.instrs pc ≡ Some (JumpZero a goal) → ((u : Memory) → G u → (slice_index u.words a ≡ 1) × G1 u) → At m lo hi b v t G1 (pc + 1) → At m (suc lo) 1 b v t G pc
  goes_on {lo = lo} {hi = hi} {pc = pc} a goal here tells post =
      stepped m {lo = lo} {hi = hi} (JumpZero a goal) (λ u. u) here (λ u g. (ap (λ x. if x == 0 then Goes [] (state_of m goal u) else Goes [] (state_of m (pc + 1) u)) (tells u g).0, refl, (tells u g).1)) post

  pub goes_to : {lo hi b : ℕ} {v : View} {t : Trace} {G G1 : Memory → Type 0} {pc : ℕ} (a goal : ℕ) → slice_get m.code.instrs pc ≡ Some (JumpZero a goal) → ((u : Memory) → G u → (slice_index u.words a ≡ 0) × G1 u) → At m lo hi b v t G1 goal → At m (suc lo) 1 b v t G pc
  goes_to {lo = lo} {hi = hi} {pc = pc} a goal here tells post =
      stepped m {lo = lo} {hi = hi} (JumpZero a goal) (λ u. u) here (λ u g. (ap (λ x. if x == 0 then Goes [] (state_of m goal u) else Goes [] (state_of m (pc + 1) u)) (tells u g).0, refl, (tells u g).1)) post

  -- a truth value decides
  pub decides : (x : Bool) (g h : Go) (v : View) (w : World) (G G1 : Memory → Type 0) (a goal pc lo b : ℕ) → slice_get m.code.instrs pc ≡ Some (JumpZero a goal) → ((u : Memory) → G u → (slice_index u.words a ≡ bit_of x) × G1 u)
      → At m lo 0 b v (g w) G1 (pc + 1) → At m lo 0 b v (h w) G1 goal → At m (suc lo) 1 b v (Meaning.when x g h w) G pc
  decides true g h v w G G1 a goal pc lo b here tells on off = goes_on {lo = lo} a goal here tells on
  decides false g h v w G G1 a goal pc lo b here tells on off = goes_to {lo = lo} a goal here tells off

  -- a value of the type of truth values does
  pub branches : (x : Value) (g h : Go) (v : View) (w : World) (G G1 : Memory → Type 0) (a goal pc lo b : ℕ) → slice_get m.code.instrs pc ≡ Some (JumpZero a goal) → IsOf bools x → ((u : Memory) → G u → Spells x (slice_index u.words a) × G1 u)
      → At m lo 0 b v (g w) G1 (pc + 1) → At m lo 0 b v (h w) G1 goal → At m (suc lo) 1 b v (Meaning.branch x g h w) G pc
  branches (bool x) g h v w G G1 a goal pc lo b here typed stands on off = decides x g h v w G G1 a goal pc lo b here stands on off
  branches x g h v w G G1 a goal pc lo b here typed stands on off = absurd typed
