-- The machine follows an operator.
use Rattle.std.proofs.Common.{◌≡◌, ℕ, suc, ◌+◌, Some, Result, Ok, Err, refl, ap, ◌∙◌, length}
use Rattle.std.specs.Prelude.{[], slice_get, slice_index}
use Rattle.simulation.specs.Steps.{Goes}
use Rattle.typed_syntax.specs.Positions.{Position}
use Rattle.typed_syntax.specs.Types.{TypeTree}
use Rattle.typed_syntax.specs.Value.{Value, IsOf}
use Rattle.typed_syntax.specs.declared.operators.BinOp.{BinOp}
use Rattle.typed_syntax.specs.declared.operators.UnOp.{UnOp}
use Rattle.typed_syntax.specs.declared.operators.UnOp.TheVariants.{Plus, Negate, Complement, Not}
use Rattle.typed_syntax.specs.Form.{IsPlain}
use Rattle.meaning.specs.Trace.{World, Trace, Fault, Panic}
use Rattle.meaning.specs.Operators.{binary_of}
use Rattle.meaning.specs.Meaning
use Rattle.meaning.specs.Meaning.{Env, Then, Ways}
use Rattle.isa.specs.Bin.{bin_of}
use Rattle.isa.specs.declared.instr.MoveEvent.TheVariants.{Silent}
use Rattle.isa.specs.declared.instr.Instr.TheVariants.{Move, Bin, Un}
use Rattle.isa.specs.declared.instr.UnOp.TheVariants as WordOne
use Rattle.isa.specs.declared.instr.BinFault.{BinFault}
use Rattle.machine.specs.Machine.{panic_of, puts_or_panics}
use Rattle.machine.specs.declared.run_state.Ending.TheVariants.{Panic as Panicked}
use Rattle.program_code.specs.Code.{operation, unary_code}
use Rattle.state_relation.specs.Views.{View}
use Rattle.state_relation.specs.Relation.{Memory, sets}
use Rattle.state_relation.proofs.Words.{Spells}
use Rattle.state_relation.proofs.Built.{Built}
use Rattle.state_relation.proofs.Distances.{put_own}
use Rattle.state_relation.proofs.Rules.{state_of, seen_from, does_at, At, knowing, stepped, halts}
use Rattle.simulated_code.proofs.Numbers.{TakesPlain, Agree, agrees, spelled_once, unary_word}
use Rattle.simulated_code.proofs.Standing.{Panics}

module _ (m : Built) where
  -- on two operands in slots: a slot gets the word of what it gives, or it panics
  pub operates : (at : Position) (o : BinOp) (s t : TypeTree) (x y : Value) (ws : Ways) (env : Env) (k : Then Value) (v : View) (w : World) (G : Memory → Type 0) (G1 : Value → Memory → Type 0) (to left right pc lo hi b : ℕ) → slice_get m.code.instrs pc ≡ Some (Bin (operation o) to left right)
      → Panics ws → IsPlain s → TakesPlain o s t → IsOf s x → IsOf s y → ((u : Memory) → G u → length u.heap ≡ v.heap) → ((u : Memory) → G u → Spells x (slice_index u.words left) × Spells y (slice_index u.words right))
      → ((r : Value) (word : ℕ) (u : Memory) → IsOf t r → Spells r word → G u → G1 r (sets u to word)) → ((r : Value) → IsOf t r → At m lo hi b v (k r w) (G1 r) (pc + 1))
      → At m (suc lo) 1 b v (Meaning.or_panic ws env at (binary_of o x y) k w) G pc
  operates at o s t x y ws env k v w G G1 to left right pc lo hi b here stops plain takes ix iy heaped stands keeps post =
      knowing m (λ u0 g0.
      let a = slice_index u0.words left in let c = slice_index u0.words right in let r = stands u0 g0 in
      go a c r.0 r.1 (binary_of o x y) (bin_of (operation o) a c) (agrees o s t x y a c plain takes ix iy r.0 r.1) refl)
    where
      -- the operands' words are the same in each store
      does : (a c : ℕ) → Spells x a → Spells y c → (u : Memory) → G u → does_at m (Bin (operation o) to left right) pc u ≡ puts_or_panics (state_of m pc u) to (bin_of (operation o) a c)
      does a c sa sc u g =
          let r = stands u g in
          ap (λ i. puts_or_panics (state_of m pc u) to (bin_of (operation o) i (slice_index u.words right))) (spelled_once s x (slice_index u.words left) a plain ix r.0 sa)
          ∙ ap (λ i. puts_or_panics (state_of m pc u) to (bin_of (operation o) a i)) (spelled_once s y (slice_index u.words right) c plain iy r.1 sc)

      go : (a c : ℕ) → Spells x a → Spells y c → (r : Result Value Fault) (q : Result ℕ BinFault) → Agree t r q → bin_of (operation o) a c ≡ q → At m (suc lo) 1 b v (Meaning.or_panic ws env at r k w) G pc
      go a c sa sc (Ok r) (Ok word) agree e =
          stepped m {lo = lo} {hi = hi} (Bin (operation o) to left right) (λ u. sets u to word) here
          (λ u g. (does a c sa sc u g ∙ ap (puts_or_panics (state_of m pc u) to) e, refl, keeps r word u agree.0 agree.1 g)) (post r agree.0)
      go a c sa sc (Err f) (Err h) agree e =
          halts m {lo = lo} (Bin (operation o) to left right) (Panic at f) (Panicked (panic_of h)) here (agree m.program.strings) (λ r. ap (seen_from m v r) (stops at f env w)) heaped
          (λ u g. does a c sa sc u g ∙ ap (puts_or_panics (state_of m pc u) to) e)
      go a c sa sc (Ok r) (Err h) agree e = absurd agree
      go a c sa sc (Err f) (Ok word) agree e = absurd agree

  -- on the operand in a slot
  pub operates_one : {lo hi b : ℕ} {v : View} {t : Trace} {G G1 : Memory → Type 0} {pc : ℕ} (o : UnOp) (a : ℕ) → slice_get m.code.instrs pc ≡ Some (unary_code o a) → ((u : Memory) → G u → G1 (sets u a (unary_word o (slice_index u.words a)))) → At m lo hi b v t G1 (pc + 1) → At m (suc lo) 1 b v t G pc
  operates_one {lo = lo} {hi = hi} {pc = pc} Plus a here keeps post =
      stepped m {lo = lo} {hi = hi} (Move Silent a a 1) (λ u. sets u a (slice_index u.words a)) here
      (λ u g. (ap (λ ws. Goes [] (state_of m (pc + 1) (record u { words = ws }))) (put_own u.words a), refl, keeps u g)) post
  operates_one {lo = lo} {hi = hi} Negate a here keeps post = stepped m {lo = lo} {hi = hi} (Un WordOne.Negate a a) (λ u. sets u a (unary_word Negate (slice_index u.words a))) here (λ u g. (refl, refl, keeps u g)) post
  operates_one {lo = lo} {hi = hi} Complement a here keeps post = stepped m {lo = lo} {hi = hi} (Un WordOne.Complement a a) (λ u. sets u a (unary_word Complement (slice_index u.words a))) here (λ u g. (refl, refl, keeps u g)) post
  operates_one {lo = lo} {hi = hi} Not a here keeps post = stepped m {lo = lo} {hi = hi} (Un WordOne.IsZero a a) (λ u. sets u a (unary_word Not (slice_index u.words a))) here (λ u g. (refl, refl, keeps u g)) post
