-- Where a program's functions stand in the tables.
use Rattle.std.proofs.Common.{◌≡◌, ◌⊎◌, inl, inr, ℕ, zero, suc, ◌+◌, ◌<◌, List, [], ◌∷◌, ◌++◌, length, replicate, Some, refl, ap, ◌∙◌, subst, arith, length-append}
use Rattle.std.specs.Prelude.{slice_get, None}
use Rattle.std.proofs.lemmas.List.{length-replicate}
use Rattle.isa.specs.declared.func.Func.{Func as Entry}
use Rattle.isa.specs.declared.instr.Instr.{Instr}
use Rattle.typed_syntax.specs.Syntax.{Func, Program}
use Rattle.frames.specs.Placement.{Placement}
use Rattle.program_code.specs.Code.{func_code, func_size, entry_of, funcs_code, funcs_owners, funcs_entries, code_of}
use Rattle.program_code.proofs.Sizes.{length_func}
use Rattle.program_code.proofs.Compiled.{HasAt, Compiled}

-- an item of two lists, one after the other
pub front_get : {X : Type 0} (a b : List X) (p : ℕ) → p < length a → slice_get (a ++ b) p ≡ slice_get a p
front_get [] b p l = absurd (omega arith)
front_get (x ∷ a) b zero l = refl
front_get (x ∷ a) b (suc p) l = front_get a b p (omega arith)

pub back_get : {X : Type 0} (a b : List X) (n p : ℕ) → length a ≡ n → slice_get (a ++ b) (n + p) ≡ slice_get b p
back_get [] b n p e = let z : n + p ≡ p = omega (arith, e) in ap (λ k. slice_get b k) z
back_get (x ∷ a) b zero p e = absurd (omega (arith, e))
back_get (x ∷ a) b (suc n) p e =
    let z : suc n + p ≡ suc (n + p) = omega arith in
    ap (λ k. slice_get (x ∷ (a ++ b)) k) z ∙ back_get a b n p (omega (arith, e))

same_get : (long p x : ℕ) → p < long → slice_get {X = ℕ} (replicate long x) p ≡ Some x
same_get zero p x l = absurd (omega arith)
same_get (suc long) zero x l = refl
same_get (suc long) (suc p) x l = same_get long p x (omega arith)

none_some : {A : Type 0} {x : A} → None ≡ Some x → ⊥
none_some e = cc

pub same_some : {A : Type 0} {x y : A} → Some x ≡ Some y → x ≡ y
same_some e = cc

module _ (fs : Program) (pl : Placement) where
  -- the sizes of the functions before a number
  abbrev pub start_of : List Func → ℕ → ℕ
  start_of [] k = 0
  start_of (g ∷ gs) zero = 0
  start_of (g ∷ gs) (suc k) = func_size fs pl g + start_of gs k

  pub some_size : (f : Func) → 0 < func_size fs pl f
  some_size f = omega arith

  pub length_owners : (gs : List Func) (number pc : ℕ) → length (funcs_owners fs pl gs number) ≡ length (funcs_code fs pl gs pc)
  length_owners [] number pc = refl
  length_owners (g ∷ gs) number pc =
      let own : List ℕ = replicate (func_size fs pl g) number in
      let l : length own ≡ func_size fs pl g = length-replicate (func_size fs pl g) number in
      omega (arith, l, length-append own (funcs_owners fs pl gs (number + 1)), length-append (func_code fs pl g pc) (funcs_code fs pl gs (pc + func_size fs pl g)), length_func fs pl g pc, length_owners gs (number + 1) (pc + func_size fs pl g))

  -- function k of some, which stand from a place on and are counted from a number on
  pub record Stands (gs : List Func) (pc number k : ℕ) (func : Func) : Type 0 where
    pub entry : slice_get (funcs_entries fs pl gs pc) k ≡ Some (entry_of fs pl func (pc + start_of gs k))
    pub code : (p : ℕ) → p < func_size fs pl func → slice_get (funcs_code fs pl gs pc) (start_of gs k + p) ≡ slice_get (func_code fs pl func (pc + start_of gs k)) p
    pub owned : (p : ℕ) → p < func_size fs pl func → slice_get (funcs_owners fs pl gs number) (start_of gs k + p) ≡ Some (number + k)

  pub stands : (gs : List Func) (pc number k : ℕ) (func : Func) → slice_get gs k ≡ Some func → Stands gs pc number k func
  stands [] pc number k func e = absurd (none_some e)
  stands (g ∷ gs) pc number zero func e = subst (λ (f : Func). Stands (g ∷ gs) pc number 0 f) (same_some e) (record {
    entry = let z : pc ≡ pc + 0 = omega arith in ap (λ p. Some (entry_of fs pl g p)) z;
    code = λ p l.
        let z : pc ≡ pc + 0 = omega arith in let y : 0 + p ≡ p = omega arith in
        ap (λ q. slice_get (func_code fs pl g pc ++ funcs_code fs pl gs (pc + func_size fs pl g)) q) y
        ∙ front_get (func_code fs pl g pc) (funcs_code fs pl gs (pc + func_size fs pl g)) p (omega (arith, l, length_func fs pl g pc))
        ∙ ap (λ q. slice_get (func_code fs pl g q) p) z;
    owned = λ p l.
        let z : number ≡ number + 0 = omega arith in let y : 0 + p ≡ p = omega arith in
        let own : List ℕ = replicate (func_size fs pl g) number in
        ap (λ q. slice_get (own ++ funcs_owners fs pl gs (number + 1)) q) y
        ∙ front_get own (funcs_owners fs pl gs (number + 1)) p (omega (arith, l, length-replicate (func_size fs pl g) number))
        ∙ same_get (func_size fs pl g) p number l
        ∙ ap (λ q. Some q) z;
  })
  stands (g ∷ gs) pc number (suc k) func e =
      let n = func_size fs pl g in
      let r = stands gs (pc + n) (number + 1) k func e in
      let z : pc + n + start_of gs k ≡ pc + (n + start_of gs k) = omega arith in
      record {
        entry = r.entry ∙ ap (λ p. Some (entry_of fs pl func p)) z;
        code = λ p l.
            let y : n + start_of gs k + p ≡ n + (start_of gs k + p) = omega arith in
            ap (λ q. slice_get (func_code fs pl g pc ++ funcs_code fs pl gs (pc + n)) q) y
            ∙ back_get (func_code fs pl g pc) (funcs_code fs pl gs (pc + n)) n (start_of gs k + p) (length_func fs pl g pc)
            ∙ r.code p l
            ∙ ap (λ q. slice_get (func_code fs pl func q) p) z;
        owned = λ p l.
            let own : List ℕ = replicate n number in
            let y : n + start_of gs k + p ≡ n + (start_of gs k + p) = omega arith in
            let x : number + 1 + k ≡ number + suc k = omega arith in
            ap (λ q. slice_get (own ++ funcs_owners fs pl gs (number + 1)) q) y
            ∙ back_get own (funcs_owners fs pl gs (number + 1)) n (start_of gs k + p) (length-replicate n number)
            ∙ r.owned p l
            ∙ ap (λ q. Some q) x;
      }

  split : (n place : ℕ) → (place < n) ⊎ ((q : ℕ) × (place ≡ n + q))
  split zero place = inr (place, omega arith)
  split (suc n) zero = inl (omega arith)
  split (suc n) (suc place) = elim (split n place) [ inl l ↦ inl (omega (arith, l)) | inr (q, e) ↦ inr (q, omega (arith, e)) ]

  -- a place belongs to a function
  pub record Located (gs : List Func) (place : ℕ) : Type 0 where
    pub k : ℕ
    pub func : Func
    pub is : slice_get gs k ≡ Some func
    pub p : ℕ
    pub within : p < func_size fs pl func
    pub at : place ≡ start_of gs k + p

  pub located : (gs : List Func) (pc place : ℕ) → place < length (funcs_code fs pl gs pc) → Located gs place
  located [] pc place l = absurd (omega arith)
  located (g ∷ gs) pc place l =
      let n = func_size fs pl g in
      elim (split n place) [
        | inl m ↦ record { k = 0; func = g; is = refl; p = place; within = m; at = omega arith }
        | inr (q, e) ↦
            let r = located gs (pc + n) q (omega (arith, e, l, length-append (func_code fs pl g pc) (funcs_code fs pl gs (pc + n)), length_func fs pl g pc)) in
            record { k = suc r.k; func = r.func; is = r.is; p = r.p; within = r.within; at = omega (arith, e, r.at) }
      ]

  pub entered_from : (gs : List Func) (pc k : ℕ) (fn : Entry) → slice_get (funcs_entries fs pl gs pc) k ≡ Some fn → (func : Func) × (slice_get gs k ≡ Some func)
  entered_from [] pc k fn e = absurd (none_some e)
  entered_from (g ∷ gs) pc zero fn e = (g, refl)
  entered_from (g ∷ gs) pc (suc k) fn e = entered_from gs (pc + func_size fs pl g) k fn e

  pub exists : (gs : List Func) (k : ℕ) → k < length gs → (func : Func) × (slice_get gs k ≡ Some func)
  exists [] k l = absurd (omega arith)
  exists (g ∷ gs) zero l = (g, refl)
  exists (g ∷ gs) (suc k) l = exists gs k (omega arith)

  has_all : (whole : List Instr) (pc : ℕ) (xs : List Instr) → ((k : ℕ) → k < length xs → slice_get whole (pc + k) ≡ slice_get xs k) → HasAt whole pc xs
  has_all whole pc [] h = tt
  has_all whole pc (i ∷ is) h =
      let z : pc + 0 ≡ pc = omega arith in (
        subst (λ p. slice_get whole p ≡ Some i) z (h 0 (omega arith)),
        has_all whole (pc + 1) is (λ k l. let m : pc + suc k ≡ pc + 1 + k = omega arith in subst (λ p. slice_get whole p ≡ slice_get is k) m (h (suc k) (omega (arith, l)))),
      )

pub compiled : (p : Program) (pl : Placement) → Compiled p pl (code_of p pl)
compiled p pl = record {
  placed = λ f func is.
      let gs = p.funcs in let start = start_of p pl gs f in
      let r = stands p pl gs 0 0 f func is in
      let z : 0 + start ≡ start = omega arith in
      let y : 0 + f ≡ f = omega arith in
      record {
        start = start;
        entry = r.entry ∙ ap (λ q. Some (entry_of p pl func q)) z;
        stands = has_all p pl (funcs_code p pl gs 0) start (func_code p pl func start)
            (λ k l. r.code k (omega (arith, l, length_func p pl func start)) ∙ ap (λ q. slice_get (func_code p pl func q) k) z);
        owned = λ i l. r.owned i l ∙ ap (λ q. Some q) y;
      };
}
