-- What follows statements: what stands after them, and where a break, a continue, a return and a panic lead.
use Rattle.std.proofs.Common.{◌≡◌, ℕ, suc, ◌+◌, ◌≤◌, Bool, true, false, List, ◌∷◌, length, arith}
use Rattle.typed_syntax.specs.Value.{Value}
use Rattle.typed_syntax.specs.Syntax.{St, Sts, argument_words, Ex}
use Rattle.typed_syntax.specs.Form.{InScope, scope_after, breaks, breaks_all, ends, ends_all, StFits, StsFit}
use Rattle.frames.specs.Frames.{st_need, sts_need, st_reach, sts_reach, outgoing_of, temps_of}
use Rattle.meaning.specs.Trace.{World}
use Rattle.meaning.specs.Meaning
use Rattle.meaning.specs.Meaning.{Env, Go, Ways, Calls, Setting}
use Rattle.program_code.specs.Code.{slots_of, st_code, sts_code, st_size, sts_size}
use Rattle.state_relation.specs.Views.{View}
use Rattle.state_relation.specs.Relation.{Kept, Frame, during}
use Rattle.state_relation.proofs.Built.{Built}
use Rattle.state_relation.proofs.Rules.{At, Stands, later}
use Rattle.simulated_code.proofs.Standing.{Standing, Panics}
use Rattle.simulated_code.proofs.Scopes.{Scoped}
use Rattle.simulated_code.proofs.ReturnsFollow.{Returns, returns_later}

module _ (m : Built) (c : Frame) (calls : List Frame) where
  -- what goes on at a place, with these values held
  abbrev pub After : (held : List Kept) → (scope : List ℕ) → (pc lo b : ℕ) → (Env → Go) → Type 0
  After held scope pc lo b k = (env : Env) (w : World) (v : View) → At m lo 0 b v (k env w) (Stands m v w (during c env scope held ∷ calls)) pc

  pub after_later : (held : List Kept) (scope : List ℕ) (pc lo lo1 b b1 : ℕ) (k : Env → Go) → lo ≤ lo1 → b1 ≤ b → After held scope pc lo b k → After held scope pc lo1 b1 k
  after_later held scope pc lo lo1 b b1 k p q post env w v = later m {lo = lo} {hi = 0} {b = b} p (omega arith) q (post env w v)

  -- where the ways of statements lead: a break, where there is one, goes on at one place, and a continue at another, with the
  -- scope of the loop around
  pub record Leads (held : List Kept) (looped breaks : Bool) (outer scope : List ℕ) (out again lo b : ℕ) (ws : Ways) : Type 0 where
    pub panics : Panics ws
    pub around : (v : ℕ) → InScope v outer → InScope v scope
    pub broken : looped ≡ true → breaks ≡ true → After held outer out lo b ws.broken
    pub continued : looped ≡ true → After held outer again lo b ws.continued
    pub returned : Returns m lo b c calls ws.returned

  -- for a part of the statements, of which something more may be due
  pub leads_later : {held : List Kept} {looped breaks less : Bool} {outer scope more : List ℕ} {out again lo lo1 b b1 : ℕ} {ws : Ways} → lo ≤ lo1 → b1 ≤ b → (less ≡ true → breaks ≡ true) → ((v : ℕ) → InScope v scope → InScope v more)
      → Leads held looped breaks outer scope out again lo b ws → Leads held looped less outer more out again lo1 b1 ws
  leads_later {held} {outer = outer} {out = out} {again = again} {lo = lo} {lo1 = lo1} {b = b} {b1 = b1} {ws = ws} p q some sub l = record {
    panics = l.panics;
    around = λ v i. sub v (l.around v i);
    broken = λ t e. after_later held outer out lo lo1 b b1 ws.broken p q (l.broken t (some e));
    continued = λ t. after_later held outer again lo lo1 b b1 ws.continued p q (l.continued t);
    returned = returns_later m lo lo1 b b1 c calls ws.returned p q l.returned;
  }

  -- where no loop is around
  pub leads_alone : {held : List Kept} {looped breaks less : Bool} {outer scope : List ℕ} {out again aside back lo b : ℕ} {ws : Ways} → Leads held looped breaks outer scope out again lo b ws → Leads held false less scope scope aside back lo b ws
  leads_alone l = record { panics = l.panics; around = λ v i. i; broken = λ t e. absurd (let f : false ≡ true = t in cc); continued = λ t. absurd (let f : false ≡ true = t in cc); returned = l.returned }

  -- in the body of a loop
  abbrev pub inside : Ways → (broken continued : Env → Go) → Ways
  inside ws broken continued = record { broken = broken; continued = continued; returned = ws.returned; panicked = ws.panicked; held = ws.held; call = ws.call }

  pub leads_inside : {held : List Kept} {looped breaks less : Bool} {outer scope inner more : List ℕ} {kept : List Kept} {out again aside back lo b b1 : ℕ} {ws : Ways} (broken continued : Env → Go) → b1 ≤ b → ((v : ℕ) → InScope v inner → InScope v more)
      → Leads held looped breaks outer scope out again lo b ws → (less ≡ true → After kept inner aside lo b1 broken) → After kept inner back lo b1 continued → Leads kept true less inner more aside back lo b1 (inside ws broken continued)
  leads_inside {lo = lo} {b = b} {b1 = b1} {ws = ws} broken continued q sub l behind next = record {
    panics = l.panics;
    around = sub;
    broken = λ t e. behind e;
    continued = λ t. next;
    returned = returns_later m lo lo b b1 c calls ws.returned (omega arith) q l.returned;
  }

  -- a value more is held for the invariants
  pub leads_holding : {held : List Kept} {looped breaks : Bool} {outer scope : List ℕ} {out again lo b : ℕ} {ws : Ways} (e : Ex) (v : Value) → Leads held looped breaks outer scope out again lo b ws → Leads held looped breaks outer scope out again lo b (Meaning.holding ws e v)
  leads_holding e v l = record { panics = l.panics; around = l.around; broken = l.broken; continued = l.continued; returned = l.returned }

  -- a statement is followed, and statements are, where calls are known
  module _ (around : Setting) (callees : Calls) (n : ℕ) where
    abbrev pub Followed : St → Type 0
    Followed x =
        (ws : Ways) (env : Env) (k : Env → Go) (v : View) (w : World) (held : List Kept) (h : ℕ) (looped : Bool) (outer scope : List ℕ) (q out again pc lo b : ℕ) → b ≤ suc n → length held ≡ h
        → Standing m.code c.fn pc (st_code m.program (argument_words c.func) c.func.named (slots_of m.program m.placement c.func) x h out again pc)
        → StFits m.program c.func.results (length c.func.named) looped scope q (c.func.first + c.func.count) x → h + st_need m.program c.func.named x ≤ temps_of m.program m.placement c.func → st_reach m.program x ≤ outgoing_of m.program c.func
        → Scoped c.func scope q → Leads held looped (breaks x) outer scope out again lo b ws
        → (ends x ≡ false → After held (scope_after scope x) (pc + st_size m.program (argument_words c.func) c.func.named x) lo b k)
        → At m lo 0 b v (Meaning.exec around callees (suc n) x ws env k w) (Stands m v w (during c env scope held ∷ calls)) pc

    abbrev pub AllFollowed : Sts → Type 0
    AllFollowed xs =
        (ws : Ways) (env : Env) (k : Env → Go) (v : View) (w : World) (held : List Kept) (h : ℕ) (looped : Bool) (outer scope : List ℕ) (q out again pc lo b : ℕ) → b ≤ suc n → length held ≡ h
        → Standing m.code c.fn pc (sts_code m.program (argument_words c.func) c.func.named (slots_of m.program m.placement c.func) xs h out again pc)
        → StsFit m.program c.func.results (length c.func.named) looped scope q (c.func.first + c.func.count) xs → h + sts_need m.program c.func.named xs ≤ temps_of m.program m.placement c.func → sts_reach m.program xs ≤ outgoing_of m.program c.func
        → Scoped c.func scope q → Leads held looped (breaks_all xs) outer scope out again lo b ws
        → (ends_all xs ≡ false → After held scope (pc + sts_size m.program (argument_words c.func) c.func.named xs) lo b k)
        → At m lo 0 b v (Meaning.exec_all around callees (suc n) xs ws env k w) (Stands m v w (during c env scope held ∷ calls)) pc
