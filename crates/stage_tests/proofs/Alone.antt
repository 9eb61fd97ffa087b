-- One instruction before the return of the only function.
use Rattle.std.proofs.Common.{◌≡◌, ℕ, zero, suc, ◌+◌, ◌-◌, ◌≤◌, [], ◌∷◌, refl, subst, Some, arith}
use Rattle.std.specs.Prelude.{None, slice_get}
use Rattle.isa.specs.Code.{Fits, FitsPlace, IsCode, IsLinked}
use Rattle.isa.specs.declared.func.Func.{Func}
use Rattle.isa.specs.declared.instr.Instr.{Instr}
use Rattle.isa.specs.declared.instr.Instr.TheVariants.{Return}

same_some : {A : Type 0} {x y : A} → Some x ≡ Some y → x ≡ y
same_some e = cc

none : {A : Type 0} {x : A} → None ≡ Some x → ⊥
none e = cc

module _ (i : Instr) (fn : Func) (two : 2 ≤ fn.frame) (start : fn.start ≡ 0) (size : fn.size ≡ 2) (fits : Fits (0 ∷ (0 ∷ [])) (fn ∷ []) 0 0 0 (fn.frame - 2) (fn.arguments + fn.results) i) where
  each : (place : ℕ) (j : Instr) → slice_get (i ∷ (Return ∷ [])) place ≡ Some j → FitsPlace (0 ∷ (0 ∷ [])) (fn ∷ []) 0 place j
  each zero j is = record {
    f = 0;
    fn = fn;
    owner = refl;
    is = refl;
    fits = subst (λ (k : Instr). Fits (0 ∷ (0 ∷ [])) (fn ∷ []) 0 0 0 (fn.frame - 2) (fn.arguments + fn.results) k) (same_some is) fits;
  }
  each (suc zero) j is = record {
    f = 0;
    fn = fn;
    owner = refl;
    is = refl;
    fits = subst (λ (k : Instr). Fits (0 ∷ (0 ∷ [])) (fn ∷ []) 0 1 0 (fn.frame - 2) (fn.arguments + fn.results) k) (same_some is) tt;
  }
  each (suc (suc n)) j is = absurd (none is)

  linked : (f : ℕ) (g : Func) → slice_get (fn ∷ []) f ≡ Some g → IsLinked g
  linked zero g is = subst (λ (h : Func). IsLinked h) (same_some is) (record { frame = two })
  linked (suc n) g is = absurd (none is)

  pub alone : IsCode (record { instrs = i ∷ (Return ∷ []); owners = 0 ∷ (0 ∷ []); funcs = fn ∷ []; strings = [] })
  alone = record { laid = (start, omega (arith, size), tt); owned = rw size refl; same = refl; fits = each; linked = linked }
