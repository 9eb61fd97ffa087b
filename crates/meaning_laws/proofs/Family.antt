-- A family of relations of two traces that runs of programs keep.
use Rattle.std.proofs.Common.{◌≡◌, ℕ, ◌-◌, ◌≤◌, List, arith}
use Rattle.typed_syntax.specs.Value.{Value}
use Rattle.typed_syntax.specs.Positions.{Position}
use Rattle.typed_syntax.specs.Syntax.{Ex}
use Rattle.meaning.specs.Trace.{Entry, Fault, Ending, World, Held, Mark, state, Trace, Turn, Note, Seen, End, Cut}
use Rattle.meaning.specs.Meaning.{Go, Then, Env, Ways, Calls, holding, holding_all}
use Rattle.meaning_laws.specs.Laws.{Later, IsOther}

-- up to `b` turns, from a state; the fuel is out at none
pub record Family : Type 1 where
  pub Holds : ℕ → World → Trace → Trace → Type 0
  pub turns : (b : ℕ) (w : World) (s t : Trace) → Holds (b - 1) w s t → Holds b w (Turn s) (Turn t)
  pub notes : (b : ℕ) (w : World) (e : Entry) (s t : Trace) → Holds b w s t → Holds b w (Note e s) (Note e t)
  pub sees : (b : ℕ) (w : World) (vs us : List Held) (s t : Trace) → Holds b w s t → Holds b w (Seen (state w vs) s) (Seen (state w us) t)
  pub marks : (b : ℕ) (w : World) (m : Mark) → IsOther m → (s t : Trace) → Holds b w s t → Holds b w (Seen m s) (Seen m t)
  pub later : (b : ℕ) (w u : World) (s t : Trace) → Later w u → Holds b u s t → Holds b w s t
  pub fewer : (b n : ℕ) (w : World) (s t : Trace) → b ≤ n → Holds n w s t → Holds b w s t
  pub ends : (b : ℕ) (w : World) (e : Ending) → Holds b w (End e) (End e)
  pub cuts : (w : World) (t : Trace) → Holds 0 w Cut t

module _ (F : Family) where
  pub record WaysHold (b : ℕ) (ws us : Ways) : Type 0 where
    pub broken : (env : Env) (w : World) → F.Holds b w (ws.broken env w) (us.broken env w)
    pub continued : (env : Env) (w : World) → F.Holds b w (ws.continued env w) (us.continued env w)
    pub returned : (vs : List Value) (env : Env) (w : World) → F.Holds b w (ws.returned vs env w) (us.returned vs env w)
    pub panicked : (at : Position) (f : Fault) (env : Env) (w : World) → F.Holds b w (ws.panicked at f env w) (us.panicked at f env w)

  -- the ways of both runs, in the same call and within a limit
  pub record Pair (limit b : ℕ) : Type 0 where
    pub left : Ways
    pub right : Ways
    pub same : left.call ≡ right.call
    pub within : b ≤ limit
    pub hold : WaysHold b left right

  pub record CallsHold (n : ℕ) (calls dalls : Calls) : Type 0 where
    pub by : (f : ℕ) (vs : List Value) (ws us : Ways) (env : Env) (b : ℕ) → b ≤ n → WaysHold b ws us → (k j : Then (List Value)) → ((rs : List Value) (w : World) → F.Holds b w (k rs w) (j rs w)) → (w : World) → F.Holds b w (calls f vs ws env k w) (dalls f vs us env j w)

  pub turning : {b : ℕ} {w : World} {s t : Trace} → F.Holds b w s t → F.Holds b w (Turn s) (Turn t)
  turning {b} {w} {s} {t} h = F.turns b w s t (F.fewer (b - 1) b w s t (omega arith) h)

  pub noting : {b : ℕ} {w : World} {e : Entry} {s t : Trace} → F.Holds b w s t → F.Holds b w (Note e s) (Note e t)
  noting {b} {w} {e} {s} {t} h = F.notes b w e s t h

  pub seeing : {b : ℕ} {w : World} {vs us : List Held} {s t : Trace} → F.Holds b w s t → F.Holds b w (Seen (state w vs) s) (Seen (state w us) t)
  seeing {b} {w} {vs} {us} {s} {t} h = F.sees b w vs us s t h

  abbrev pub keeping : {limit b : ℕ} → (e : Ex) (v : Value) → Pair limit b → Pair limit b
  keeping e v p = record { left = holding p.left e v; right = holding p.right e v; same = p.same; within = p.within; hold = record { broken = p.hold.broken; continued = p.hold.continued; returned = p.hold.returned; panicked = p.hold.panicked } }

  abbrev pub keeping_all : {limit b : ℕ} → (vs us : List Held) → Pair limit b → Pair limit b
  keeping_all vs us p = record { left = holding_all p.left vs; right = holding_all p.right us; same = p.same; within = p.within; hold = record { broken = p.hold.broken; continued = p.hold.continued; returned = p.hold.returned; panicked = p.hold.panicked } }

  -- under a lower bound
  abbrev pub ways_fewer : (b c : ℕ) (ws us : Ways) → c ≤ b → WaysHold b ws us → WaysHold c ws us
  ways_fewer b c ws us le h = record {
    broken = λ env w. F.fewer c b w _ _ le (h.broken env w);
    continued = λ env w. F.fewer c b w _ _ le (h.continued env w);
    returned = λ vs env w. F.fewer c b w _ _ le (h.returned vs env w);
    panicked = λ at f env w. F.fewer c b w _ _ le (h.panicked at f env w);
  }

  abbrev pub lower : {limit b : ℕ} → Pair limit b → (c : ℕ) → c ≤ b → Pair limit c
  lower {limit} {b} p c le = record { left = p.left; right = p.right; same = p.same; within = (let l = p.within in omega arith); hold = ways_fewer b c p.left p.right le p.hold }

  abbrev pub looping : {limit b : ℕ} → (p : Pair limit b) → (out nout again nagain : Env → Go) → ((env : Env) (w : World) → F.Holds b w (out env w) (nout env w)) → ((env : Env) (w : World) → F.Holds b w (again env w) (nagain env w)) → Pair limit b
  looping p out nout again nagain ho ha = record {
    left = record { broken = out; continued = again; returned = p.left.returned; panicked = p.left.panicked; held = p.left.held; call = p.left.call };
    right = record { broken = nout; continued = nagain; returned = p.right.returned; panicked = p.right.panicked; held = p.right.held; call = p.right.call };
    same = p.same;
    within = p.within;
    hold = record { broken = ho; continued = ha; returned = p.hold.returned; panicked = p.hold.panicked };
  }
