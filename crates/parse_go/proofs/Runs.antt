-- Runs of the machine over the terminals that were read so far, with their nestings.
use Rattle.std.proofs.Common.{◌≡◌, ℕ, zero, suc, ◌+◌, ◌<◌, ◌≤◌, List, [], ◌∷◌, ◌++◌, length, take, drop, Option, Some, None, inl, inr, refl, sym, ap, subst, ◌∙◌, append_assoc, arith}
use Rattle.std.proofs.lemmas.List.{append-nil, take_all, take-append-drop, take_at, map-append, length-map}
use Rattle.std.proofs.lemmas.Bool.{cases_lt}
use Rattle.syntax.specs.declared.limit.TheConstants.{NESTING_LIMIT}
use Rattle.syntax.specs.Declarations.{Declaration, File}
use Rattle.parse_expressions.specs.declared.terminal.Terminal.{Terminal}
use Rattle.parse_expressions.specs.declared.terminal.Terminal.TheVariants.{Package, Identifier, Semicolon}
use Rattle.parse_expressions.specs.Grammar.{Mark, inside, terminal_in, nesting_of, terminals_in}
use Rattle.parse_go.specs.Grammar.{AreDeclarations, IsMarked, IsShallow, IsProgram}
use Rattle.parse_go.specs.Faults.{Begins, InEachText, IsUnexpected, LastIsDeep, IsTooDeep}
use Rattle.parse_go.specs.Machine.{State, at_package, at_declaration, step, nesting}
use Rattle.parse_go.proofs.Following.{Rest, Follows, ValidState, ValidNext}
use Rattle.parse_go.proofs.Quotient.{quotient}
use Rattle.parse_go.proofs.Viable.{valid_step, viable, nothing_more}
use Rattle.parse_go.proofs.Endings.{unfinished}

from_marked : (ms : List Mark) (tree : File) → IsMarked ms tree → Rest at_package tree ms
from_marked ms tree h = record {
  rest = inside (Identifier tree.package_name) 0 ∷ inside Semicolon 0 ∷ h.0;
  mark = h.1;
  follows = record { name = tree.package_name; follows = record { rest = inside Semicolon 0 ∷ h.0; mark = refl; follows = record { rest = h.0; mark = refl; follows = record { others = tree.declarations; reads = h.2; whole = refl } } } };
}

to_marked : (ms : List Mark) (tree : File) → Rest at_package tree ms → IsMarked ms tree
to_marked ms tree h =
    let a = h.follows in
    let b = a.follows in
    let c = b.follows in
    let d = c.follows in
    let name_is : tree.package_name ≡ a.name = ap (λ (f : File). f.package_name) d.whole in
    let declarations_are : tree.declarations ≡ d.others = ap (λ (f : File). f.declarations) d.whole in
    let marks : ms ≡ inside Package 0 ∷ inside (Identifier tree.package_name) 0 ∷ inside Semicolon 0 ∷ c.rest = cc (h.mark, b.mark, c.mark, name_is) in
    (c.rest, marks, subst (λ (ds : List Declaration). AreDeclarations ds c.rest) (sym declarations_are) d.reads)

-- a text that begins with the terminals read so far: their nestings, and what follows
pub record Parted (front : List Mark) (s : State) (ms : List Mark) (w : List Terminal) (tree : File) : Type 0 where
  pub rest : List Mark
  pub parts : ms ≡ front ++ rest
  pub terminals : terminals_in rest ≡ w
  pub follows : Rest s tree rest

-- The texts that begin with the terminals of front are those that may follow in the state, and in each of them these terminals have these nestings.
pub record Reached (front : List Mark) (s : State) : Type 0 where
  pub valid : ValidState s
  pub parted : (ms : List Mark) (w : List Terminal) (tree : File) → terminals_in ms ≡ terminals_in front ++ w → IsMarked ms tree → Parted front s ms w tree
  pub whole : (rest : List Mark) (tree : File) → Rest s tree rest → IsMarked (front ++ rest) tree

pub at_start : Reached [] at_package
at_start = record {
  valid = tt;
  parted = λ ms w tree is h. record { rest = ms; parts = refl; terminals = is; follows = from_marked ms tree h };
  whole = λ rest tree h. to_marked rest tree h;
}

-- the first of some marks whose terminals are known
first_mark : (v : List Mark) (t : Terminal) (w : List Terminal) → terminals_in v ≡ t ∷ w → (j : ℕ) × (u : List Mark) × (v ≡ inside t j ∷ u) × (terminals_in u ≡ w)
first_mark [] t w is = absurd cc
first_mark (inside x j ∷ u) t w is = let e : x ≡ t = cc in (j, u, ap (λ (y : Terminal). inside y j ∷ u) e, cc)

module _ (front : List Mark) (s : State) (t : Terminal) (r : Reached front s) where
  terminals_grow : (w : List Terminal) → terminals_in (front ++ inside t (nesting s t) ∷ []) ++ w ≡ terminals_in front ++ t ∷ w
  terminals_grow w = ap (λ (l : List Terminal). l ++ w) (map-append terminal_in front (inside t (nesting s t) ∷ [])) ∙ append_assoc (terminals_in front) (t ∷ []) w

  -- one terminal more of a text that begins so
  one_more : (ms : List Mark) (w : List Terminal) (tree : File) → terminals_in ms ≡ terminals_in front ++ t ∷ w → IsMarked ms tree
      → (u : List Mark) × (ms ≡ (front ++ inside t (nesting s t) ∷ []) ++ u) × (terminals_in u ≡ w) × Follows (step s t) tree u
  one_more ms w tree is h =
      let p = r.parted ms (t ∷ w) tree is h in
      let f = first_mark p.rest t w p.terminals in
      let q = (quotient tree s t f.0 f.1 r.valid).0 (subst (Rest s tree) f.2 p.follows) in
      let e : ms ≡ (front ++ inside t (nesting s t) ∷ []) ++ f.1 = p.parts ∙ ap (λ (l : List Mark). front ++ l) (f.2 ∙ ap (λ (j : ℕ). inside t j ∷ f.1) q.0) ∙ sym (append_assoc front (inside t (nesting s t) ∷ []) f.1) in
      (f.1, e, f.3, q.1)

  pub goes_on : (n : State) → step s t ≡ Some n → Reached (front ++ inside t (nesting s t) ∷ []) n
  goes_on n is = record {
    valid = subst ValidNext is (valid_step s t r.valid);
    parted = λ ms w tree e h.
        let o = one_more ms w tree (e ∙ terminals_grow w) h in
        record { rest = o.0; parts = o.1; terminals = o.2; follows = subst (λ (x : Option State). Follows x tree o.0) is o.3 };
    whole = λ rest tree h.
        subst (λ (l : List Mark). IsMarked l tree) (sym (append_assoc front (inside t (nesting s t) ∷ []) rest)) (r.whole (inside t (nesting s t) ∷ rest) tree ((quotient tree s t (nesting s t) rest r.valid).1 (refl, subst (λ (x : Option State). Follows x tree rest) (sym is) h)));
  }

  pub fails : step s t ≡ None → Begins (terminals_in front ++ t ∷ []) → ⊥
  fails is h =
      let o = one_more h.0 h.2 h.1 (h.3 ∙ append_assoc (terminals_in front) (t ∷ []) h.2) h.4 in
      subst (λ (x : Option State). Follows x h.1 o.0) is o.3

pub begins : (front : List Mark) (s : State) → Reached front s → Begins (terminals_in front)
begins front s r =
    let v = viable s r.valid in
    (front ++ v.0, v.1, terminals_in v.0, map-append terminal_in front v.0, r.whole v.0 v.1 v.2)

-- in each text that begins so the terminals have these nestings
pub in_each_text : (P : List Mark → Type 0) (front : List Mark) (s : State) → Reached front s → P front → InEachText (terminals_in front) P
in_each_text P front s r holds ms tree w is h =
    let p = r.parted ms w tree is h in
    let e : take (length (terminals_in front)) ms ≡ front = ap (take (length (terminals_in front))) p.parts ∙ take_at front p.rest (length (terminals_in front)) (sym (length-map front terminal_in)) in
    subst P (sym e) holds

pub is_program : (front : List Mark) (f : File) → Reached front (at_declaration f) → IsShallow front → IsProgram (terminals_in front) f
is_program front f r shallow = (front, refl, subst (λ (l : List Mark). IsMarked l f) (append-nil front) (r.whole [] f (nothing_more f)), shallow)

pub only_program : (front : List Mark) (s : State) (ms : List Mark) (tree : File) → Reached front s → terminals_in ms ≡ terminals_in front → IsMarked ms tree → (f : File) × (s ≡ at_declaration f) × (tree ≡ f)
only_program front s ms tree r is h =
    let p = r.parted ms [] tree (is ∙ sym (append-nil (terminals_in front))) h in
    unfinished s tree (nothing p.rest p.terminals p.follows)
  where
    nothing : (v : List Mark) → terminals_in v ≡ [] → Rest s tree v → Rest s tree []
    nothing [] e f = f
    nothing (m ∷ v) e f = absurd cc

-- ---- the same of a list of terminals and an index into it

pub record ReachedAt (ts : List Terminal) (i : ℕ) (s : State) : Type 0 where
  pub marks : List Mark
  pub terminals : terminals_in marks ≡ take i ts
  pub reached : Reached marks s
  pub shallow : IsShallow marks

pub from_start : (ts : List Terminal) → ReachedAt ts 0 at_package
from_start ts = record { marks = []; terminals = refl; reached = at_start; shallow = tt }

shallow_more : (ms : List Mark) (m : Mark) → IsShallow ms → nesting_of m ≤ NESTING_LIMIT → IsShallow (ms ++ m ∷ [])
shallow_more [] m shallow le = (le, tt)
shallow_more (n ∷ ms) m shallow le = (shallow.0, shallow_more ms m shallow.1 le)

last_deep : (ms : List Mark) (m : Mark) → IsShallow ms → NESTING_LIMIT < nesting_of m → LastIsDeep (ms ++ m ∷ [])
last_deep [] m shallow lt = lt
last_deep (n ∷ []) m shallow lt = (shallow.0, lt)
last_deep (n ∷ o ∷ ms) m shallow lt = (shallow.0, last_deep (o ∷ ms) m shallow.1 lt)

pub deep_not_shallow : (k : ℕ) (ms : List Mark) → LastIsDeep (take k ms) → IsShallow ms → ⊥
deep_not_shallow zero ms deep shallow = deep
deep_not_shallow (suc k) [] deep shallow = deep
deep_not_shallow (suc zero) (m ∷ ms) deep shallow = omega (arith, deep, shallow.0)
deep_not_shallow (suc (suc k)) (m ∷ []) deep shallow = omega (arith, deep, shallow.0)
deep_not_shallow (suc (suc k)) (m ∷ n ∷ ms) deep shallow = deep_not_shallow (suc k) (n ∷ ms) deep.1 shallow.1

module _ (ts : List Terminal) (i : ℕ) (t : Terminal) (s : State) (lt : i < length ts) (is_t : take (i + 1) ts ≡ take i ts ++ t ∷ []) (r : ReachedAt ts i s) where
  terminals_to : terminals_in r.marks ++ t ∷ [] ≡ take (i + 1) ts
  terminals_to = ap (λ (l : List Terminal). l ++ t ∷ []) r.terminals ∙ sym is_t

  pub more_read : (n : State) → step s t ≡ Some n → nesting s t ≤ NESTING_LIMIT → ReachedAt ts (i + 1) n
  more_read n is le = record {
    marks = r.marks ++ inside t (nesting s t) ∷ [];
    terminals = map-append terminal_in r.marks (inside t (nesting s t) ∷ []) ∙ terminals_to;
    reached = goes_on r.marks s t r.reached n is;
    shallow = shallow_more r.marks (inside t (nesting s t)) r.shallow le;
  }

  pub stopped : step s t ≡ None → IsUnexpected ts i
  stopped is = record {
    within = omega arith;
    before = subst Begins r.terminals (begins r.marks s r.reached);
    shallow = subst (λ (l : List Terminal). InEachText l IsShallow) r.terminals (in_each_text IsShallow r.marks s r.reached r.shallow);
    terminal = λ _ h. fails r.marks s t r.reached is (subst Begins (sym terminals_to) h);
    ends = λ le. absurd (omega arith);
  }

  pub too_deep : (n : State) → step s t ≡ Some n → NESTING_LIMIT < nesting s t → IsTooDeep ts i
  too_deep n is deep =
      let m = r.marks ++ inside t (nesting s t) ∷ [] in
      let reached = goes_on r.marks s t r.reached n is in
      let terminals = map-append terminal_in r.marks (inside t (nesting s t) ∷ []) ∙ terminals_to in
      record {
        within = lt;
        begins = subst Begins terminals (begins m n reached);
        deep = subst (λ (l : List Terminal). InEachText l LastIsDeep) terminals (in_each_text LastIsDeep m n reached (last_deep r.marks (inside t (nesting s t)) r.shallow deep));
      }

pub ended : (ts : List Terminal) (i : ℕ) (s : State) → i ≤ length ts → length ts ≤ i → ReachedAt ts i s → ((f : File) → s ≡ at_declaration f → ⊥) → IsUnexpected ts i
ended ts i s within le r other = record {
  within = within;
  before = subst Begins r.terminals (begins r.marks s r.reached);
  shallow = subst (λ (l : List Terminal). InEachText l IsShallow) r.terminals (in_each_text IsShallow r.marks s r.reached r.shallow);
  terminal = λ lt. absurd (omega arith);
  ends = λ _ ms tree is h.
      let u = only_program r.marks s ms tree r.reached (is ∙ sym (r.terminals ∙ take_all i ts le)) h in
      other u.0 u.1;
}

pub found_program : (ts : List Terminal) (i : ℕ) (s : State) (f : File) → length ts ≤ i → s ≡ at_declaration f → ReachedAt ts i s → IsProgram ts f
found_program ts i s f le is r = subst (λ (l : List Terminal). IsProgram l f) (r.terminals ∙ take_all i ts le) (is_program r.marks f (subst (Reached r.marks) is r.reached) r.shallow)

end_same : (a b : File) → at_declaration a ≡ at_declaration b → a ≡ b
end_same a b e = cc

pub found_only : (ts : List Terminal) (i : ℕ) (s : State) (f : File) → length ts ≤ i → s ≡ at_declaration f → ReachedAt ts i s → (other : File) → IsProgram ts other → f ≡ other
found_only ts i s f le is r other h =
    let u = only_program r.marks s h.0 other r.reached (h.1 ∙ sym (r.terminals ∙ take_all i ts le)) h.2 in
    end_same f u.0 (sym is ∙ u.1) ∙ sym u.2

-- ---- a fault rules a tree out

all_begins : (ts : List Terminal) (i : ℕ) (f : File) → IsProgram ts f → Begins (take i ts)
all_begins ts i f h = (h.0, f, drop i ts, h.1 ∙ sym (take-append-drop i ts), h.2)

pub unexpected_none : (ts : List Terminal) (i : ℕ) (f : File) → IsUnexpected ts i → IsProgram ts f → ⊥
unexpected_none ts i f fault h =
    elim (cases_lt i (length ts)) [
      | inl lt ↦ fault.terminal lt (all_begins ts (i + 1) f h)
      | inr le ↦ fault.ends le h.0 f h.1 h.2
    ]

pub deep_none : (ts : List Terminal) (i : ℕ) (f : File) → IsTooDeep ts i → IsProgram ts f → ⊥
deep_none ts i f fault h = deep_not_shallow (length (take (i + 1) ts)) h.0 (fault.deep h.0 f (drop (i + 1) ts) (h.1 ∙ sym (take-append-drop (i + 1) ts)) h.2) h.3
