-- Inside a function a name stands for what it stands for around the function, or for a variable of the function.
use Rattle.std.proofs.Common.{◌≡◌, ℕ, zero, suc, ◌≤◌, Bool, true, false, cond, List, [], ◌∷◌, ◌++◌, ◌⊎◌, inl, inr, length, Option, Some, None, refl, sym, ap, ◌∙◌, subst, arith, append-nil}
use Rattle.std.specs.Prelude.{slice_get}
use Rattle.std.specs.List.{AllByRecursion}
use Rattle.std.specs.Str.{bytes_eq}
use Rattle.type_faults.proofs.Options.{none_some, same_some}
use Rattle.names.specs.Blocks.{Names, Blocks, entry_of, or_else, lookup}
use Rattle.names.specs.declared.settings.Setting.{Setting}
use Rattle.names.specs.declared.scope.Declared.{Declared}
use Rattle.names.specs.declared.scope.Declared.TheVariants.{Variable, Untyped, Panic}
use Rattle.names.specs.Scope.{Scope, numbered, declaration, outer, with_setting, opened}
use Rattle.signatures.proofs.Growth.{IsLocal, Longer, longer_length, longer_twice, EntriesAbove, InnerAbove, Grows}

-- a scope inside of another one: it has blocks of its own before the other's, and the names in them have numbers after those of the other's
-- declarations
pub record Inside (p r : Scope) : Type 0 where
  pub first : Names
  pub others : Blocks
  pub blocks : r.blocks ≡ first ∷ (others ++ p.blocks)
  pub above : AllByRecursion (EntriesAbove (length p.declared)) (first ∷ others)
  pub declared : Longer p.declared r.declared

pub inside_start : (p : Scope) (x : Setting) → Inside p (opened (with_setting p x))
inside_start p x = record { first = []; others = []; blocks = refl; above = (tt, tt); declared = ([], sym (append-nil p.declared), tt) }

pub inside_opened : (p r : Scope) → Inside p r → Inside p (opened r)
inside_opened p r i = record { first = []; others = i.first ∷ i.others; blocks = ap (λ bs. [] ∷ bs) i.blocks; above = (tt, i.above); declared = i.declared }

innermost_is : (bs : Blocks) (n k : ℕ) → length bs ≡ suc k → InnerAbove n bs → (b : Names) × (bs ≡ b ∷ outer bs) × EntriesAbove n b
innermost_is [] n k is above = absurd (omega (arith, is))
innermost_is (b ∷ bs) n k is above = (b, refl, above)

pub inside_grows : (p r q : Scope) → Inside p r → Grows r q → Inside p q
inside_grows p r q i g =
    let n = length p.declared in
    let deep : length q.blocks ≡ suc (length (i.others ++ p.blocks)) = g.depth ∙ ap length i.blocks in
    let own = innermost_is q.blocks n (length (i.others ++ p.blocks)) deep (g.newer n (longer_length p.declared r.declared i.declared) (subst (InnerAbove n) (sym i.blocks) i.above.0)) in
    record {
      first = own.0;
      others = i.others;
      blocks = own.1 ∙ ap (λ bs. own.0 ∷ bs) (g.around ∙ ap outer i.blocks);
      above = (own.2, i.above.1);
      declared = longer_twice p.declared r.declared q.declared i.declared g.declared;
    }

-- what a name may stand for inside where it stands for the built-in `panic` around: nothing but that can be called
abbrev pub MayPanic : Option Declared → Type 0
MayPanic None = Unit {0}
MayPanic (Some (Variable site t)) = Unit {0}
MayPanic (Some Untyped) = Unit {0}
MayPanic (Some Panic) = Unit {0}
MayPanic (Some other) = ⊥

entry_above : (n : ℕ) (es : Names) (name : List ℕ) (k : ℕ) → EntriesAbove n es → entry_of es name ≡ Some k → n ≤ k
entry_above n [] name k above is = absurd (none_some is)
entry_above n (e ∷ es) name k above is = by (λ is1. entry_above n es name k above.1 is1) (bytes_eq name e.0) is
  where
    by : (entry_of es name ≡ Some k → n ≤ k) → (b : Bool) → cond b (Some e.1) (entry_of es name) ≡ Some k → n ≤ k
    by later true is1 = let same1 = same_some is1 in omega (arith, above.0, same1)
    by later false is1 = later is1

lookup_apart : (n : ℕ) (bs ps : Blocks) (name : List ℕ) → AllByRecursion (EntriesAbove n) bs → ((k : ℕ) × (lookup (bs ++ ps) name ≡ Some k) × (n ≤ k)) ⊎ (lookup (bs ++ ps) name ≡ lookup ps name)
lookup_apart n [] ps name above = inr refl
lookup_apart n (b ∷ bs) ps name above = by (lookup_apart n bs ps name above.1) (entry_of b name) refl
  where
    by : ((k : ℕ) × (lookup (bs ++ ps) name ≡ Some k) × (n ≤ k)) ⊎ (lookup (bs ++ ps) name ≡ lookup ps name) → (o : Option ℕ) → entry_of b name ≡ o
        → ((k : ℕ) × (lookup ((b ∷ bs) ++ ps) name ≡ Some k) × (n ≤ k)) ⊎ (lookup ((b ∷ bs) ++ ps) name ≡ lookup ps name)
    by (inl f) None e = inl (f.0, ap (λ x. or_else x (lookup (bs ++ ps) name)) e ∙ f.1, f.2)
    by (inr i) None e = inr (ap (λ x. or_else x (lookup (bs ++ ps) name)) e ∙ i)
    by later (Some k) e = inl (k, ap (λ x. or_else x (lookup (bs ++ ps) name)) e, entry_above n b name k above.0 e)

local_may : (d : Declared) → IsLocal d → MayPanic (Some d)
local_may (Variable site t) local = tt
local_may Untyped local = tt
local_may other local = absurd local

got_any : (more : List Declared) (k : ℕ) → AllByRecursion IsLocal more → MayPanic (slice_get more k)
got_any [] k all = tt
got_any (d ∷ more) zero all = local_may d all.0
got_any (d ∷ more) (suc k) all = got_any more k all.1

got_local : (ds more : List Declared) (k : ℕ) → length ds ≤ k → AllByRecursion IsLocal more → MayPanic (slice_get (ds ++ more) k)
got_local [] more k le all = got_any more k all
got_local (d ∷ ds) more zero le all = absurd (omega (arith, le))
got_local (d ∷ ds) more (suc k) le all = got_local ds more k (omega (arith, le)) all

got_same : (ds more : List Declared) (k : ℕ) (d : Declared) → slice_get ds k ≡ Some d → slice_get (ds ++ more) k ≡ Some d
got_same [] more k d is = absurd (none_some is)
got_same (e ∷ ds) more zero d is = is
got_same (e ∷ ds) more (suc k) d is = got_same ds more k d is

pub panic_inside : (p r : Scope) → Inside p r → (n : List ℕ) → declaration p n ≡ Some Panic → MayPanic (declaration r n)
panic_inside p r i n is =
    let found : lookup r.blocks n ≡ lookup ((i.first ∷ i.others) ++ p.blocks) n = ap (λ bs. lookup bs n) i.blocks in
    elim (lookup_apart (length p.declared) (i.first ∷ i.others) p.blocks n i.above) [
      | inl own ↦ subst (λ o. MayPanic (numbered r n o)) (sym (found ∙ own.1)) (subst (λ ds. MayPanic (slice_get ds own.0)) (sym i.declared.1) (got_local p.declared i.declared.0 own.0 own.2 i.declared.2))
      | inr same1 ↦ subst (λ o. MayPanic (numbered r n o)) (sym (found ∙ same1)) (around (lookup p.blocks n) is)
    ]
  where
    around : (o : Option ℕ) → numbered p n o ≡ Some Panic → MayPanic (numbered r n o)
    around None is1 = subst MayPanic (sym is1) tt
    around (Some k) is1 = subst MayPanic (sym (ap (λ ds. slice_get ds k) i.declared.1 ∙ got_same p.declared i.declared.0 k Panic is1)) tt
