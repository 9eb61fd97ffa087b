-- Numbers of words up to one more than the limit: what agrees in what is kept agrees in sums, products and faults.
use Rattle.std.proofs.Common.{◌≡◌, ℕ, zero, suc, ◌+◌, ◌*◌, ◌<◌, ◌≤◌, List, [], ◌∷◌, map, drop, get_or, Option, Some, None, ◌⊎◌, inl, inr, refl, sym, ap, ◌∙◌, arith}
use Rattle.std.specs.Prelude.{nat_lt, if◌then◌else◌}
use Rattle.std.proofs.lemmas.Bool.{cases_lt, lt-ltb, le-ltb, ne_eqb}
use Rattle.std.proofs.lemmas.Option.{same_Some}
use Rattle.struct_sizes.specs.declared.forms.Prefix.{Prefix}
use Rattle.struct_sizes.specs.declared.forms.Prefix.TheVariants.{Pointer, Slice, Array}
use Rattle.struct_sizes.specs.declared.forms.Base.{Base}
use Rattle.struct_sizes.specs.declared.forms.Base.TheVariants.{Int, Bool as Truth, Struct}
use Rattle.struct_sizes.specs.declared.verdicts.SizeFault.{SizeFault}
use Rattle.struct_sizes.specs.declared.verdicts.SizeFault.TheVariants.{ZeroSize, TooLarge}
use Rattle.struct_sizes.specs.Structs.{Prefixed, Fields}
use Rattle.struct_sizes.specs.Words.{prefix_words, prefixed_words, base_words, type_words, field_words, added, sum_words}
use Rattle.struct_sizes.specs.Faults.{size_fault, known_fault, prefix_fault, outer_fault, FailsAt}
use Rattle.struct_sizes.specs.Kept.{capped, kept, Agree, AgreeAll}

-- ---- numbers

pub low : (n : ℕ) → n ≤ 65535 → capped n ≡ n
low n l = ap (λ b. if b then 65536 else n) (le-ltb 65535 n l)

pub high : (n : ℕ) → 65535 < n → capped n ≡ 65536
high n l = ap (λ b. if b then 65536 else n) (lt-ltb 65535 n l)

-- the same, or both above the limit
abbrev Same : ℕ → ℕ → Type 0
Same m n = (m ≡ n) ⊎ ((65535 < m) × (65535 < n))

from_same : (m n : ℕ) → Same m n → capped m ≡ capped n
from_same m n (inl e) = ap capped e
from_same m n (inr l) = high m l.0 ∙ sym (high n l.1)

to_same : (m n : ℕ) → capped m ≡ capped n → Same m n
to_same m n e = elim (cases_lt 65535 m) [
  | inl over ↦ (elim (cases_lt 65535 n) [
    | inl over' ↦ inr (over, over')
    | inr under ↦ (let f = sym (high m over) ∙ e ∙ low n under in absurd (omega (arith, f, under)))
  ])
  | inr under ↦ (elim (cases_lt 65535 n) [
    | inl over ↦ (let f = sym (low m under) ∙ e ∙ high n over in absurd (omega (arith, f, under)))
    | inr under' ↦ inl (sym (low m under) ∙ e ∙ low n under')
  ])
]

same_sum : (a a' b b' : ℕ) → Same a a' → Same b b' → Same (a + b) (a' + b')
same_sum a a' b b' (inl e) (inl f) = inl (omega (arith, e, f))
same_sum a a' b b' (inl e) (inr l) = inr (let l0 = l.0 in let l1 = l.1 in (omega (arith, l0), omega (arith, l1)))
same_sum a a' b b' (inr l) f = inr (let l0 = l.0 in let l1 = l.1 in (omega (arith, l0), omega (arith, l1)))

same_times : (n a a' : ℕ) → Same a a' → Same (n * a) (n * a')
same_times n a a' (inl e) = inl (ap (λ (x : ℕ). n * x) e)
same_times zero a a' (inr l) = inl (omega arith)
same_times (suc n) a a' (inr l) = inr (let l0 = l.0 in let l1 = l.1 in (omega (arith, l0), omega (arith, l1)))

pub again : (n : ℕ) → capped (capped n) ≡ capped n
again n = elim (cases_lt 65535 n) [
  | inl over ↦ ap capped (high n over) ∙ sym (high n over)
  | inr under ↦ ap capped (low n under)
]

-- ---- faults of numbers

pub large_fault : (n : ℕ) → 65535 < n → size_fault n ≡ Some TooLarge
large_fault n l = ap (λ b. if b then Some ZeroSize else if nat_lt 65535 n then Some TooLarge else None) (ne_eqb n 0 (λ e. omega (arith, e, l))) ∙ ap (λ b. if b then Some TooLarge else None) (lt-ltb 65535 n l)

same_fault : (m n : ℕ) → Same m n → size_fault m ≡ size_fault n
same_fault m n (inl e) = ap size_fault e
same_fault m n (inr l) = large_fault m l.0 ∙ sym (large_fault n l.1)

pub no_fault_small : (n : ℕ) → size_fault n ≡ None → n ≤ 65535
no_fault_small n e = elim (cases_lt 65535 n) [
  | inl over ↦ absurd (let bad : Some TooLarge ≡ None = sym (large_fault n over) ∙ e in cc)
  | inr under ↦ under
]

-- ---- known words

pub agree_kept : (a : Option ℕ) → Agree (kept a) a
agree_kept None = refl
agree_kept (Some a) = ap Some (again a)

some_same : (a b : ℕ) → Agree (Some a) (Some b) → Same a b
some_same a b e = to_same a b (same_Some (capped a) (capped b) e)

pub agree_prefix : (p : Prefix) (a b : Option ℕ) → Agree a b → Agree (prefix_words p a) (prefix_words p b)
agree_prefix Pointer a b e = refl
agree_prefix Slice a b e = refl
agree_prefix (Array n) None None e = refl
agree_prefix (Array n) None (Some b) e = let bad : None ≡ Some (capped b) = e in absurd cc
agree_prefix (Array n) (Some a) None e = let bad : Some (capped a) ≡ None = e in absurd cc
agree_prefix (Array n) (Some a) (Some b) e = ap Some (from_same (n * a) (n * b) (same_times n a b (some_same a b e)))

pub agree_prefixed : (ps : List Prefix) (a b : Option ℕ) → Agree a b → Agree (prefixed_words ps a) (prefixed_words ps b)
agree_prefixed [] a b e = e
agree_prefixed (p ∷ ps) a b e = agree_prefix p (prefixed_words ps a) (prefixed_words ps b) (agree_prefixed ps a b e)

pub agree_added : (a a' b b' : Option ℕ) → Agree a a' → Agree b b' → Agree (added a b) (added a' b')
agree_added None None b b' e f = refl
agree_added None (Some a') b b' e f = let bad : None ≡ Some (capped a') = e in absurd cc
agree_added (Some a) None b b' e f = let bad : Some (capped a) ≡ None = e in absurd cc
agree_added (Some a) (Some a') None None e f = refl
agree_added (Some a) (Some a') None (Some b') e f = let bad : None ≡ Some (capped b') = f in absurd cc
agree_added (Some a) (Some a') (Some b) None e f = let bad : Some (capped b) ≡ None = f in absurd cc
agree_added (Some a) (Some a') (Some b) (Some b') e f = ap Some (from_same (a + b) (a' + b') (same_sum a a' b b' (some_same a a' e) (some_same b b' f)))

-- one field more, by what is kept of those before it
pub added_more : (sum field : Option ℕ) (exact rest : Option ℕ) → Agree field exact → Agree (added (kept (added sum field)) rest) (added sum (added exact rest))
added_more sum field exact rest e =
    agree_added (kept (added sum field)) (added sum field) rest rest (agree_kept (added sum field)) refl
    ∙ ap kept (by sum field rest) ∙ agree_added sum sum (added field rest) (added exact rest) refl (agree_added field exact rest rest e refl)
  where
    by : (a b c : Option ℕ) → added (added a b) c ≡ added a (added b c)
    by None b c = refl
    by (Some a) None c = refl
    by (Some a) (Some b) None = refl
    by (Some a) (Some b) (Some c) = ap Some (omega arith)

-- ---- by tables that agree

get_kept : (table : List (Option ℕ)) (k : ℕ) → kept (get_or table k None) ≡ get_or (map kept table) k None
get_kept [] k = refl
get_kept (w ∷ table) zero = refl
get_kept (w ∷ table) (suc k) = get_kept table k

module _ (table exact : List (Option ℕ)) (same : AgreeAll table exact) where
  pub agree_at : (k : ℕ) → Agree (get_or table k None) (get_or exact k None)
  agree_at k = get_kept table k ∙ ap (λ (l : List (Option ℕ)). get_or l k None) same ∙ sym (get_kept exact k)

  pub agree_base : (b : Base) → Agree (base_words table b) (base_words exact b)
  agree_base Int = refl
  agree_base Truth = refl
  agree_base (Struct id) = agree_at id.0

  pub agree_type : (t : Prefixed) → Agree (type_words table t) (type_words exact t)
  agree_type t = agree_prefixed t.prefixes (base_words table t.base) (base_words exact t.base) (agree_base t.base)

  pub agree_field : (f : Option Prefixed) → Agree (field_words table f) (field_words exact f)
  agree_field None = refl
  agree_field (Some t) = agree_type t

  pub agree_sum : (fs : Fields) → Agree (sum_words table fs) (sum_words exact fs)
  agree_sum [] = refl
  agree_sum (f ∷ fs) = agree_added (field_words table f) (field_words exact f) (sum_words table fs) (sum_words exact fs) (agree_field f) (agree_sum fs)

-- ---- faults of known words

pub agree_fault : (a b : Option ℕ) → Agree a b → known_fault a ≡ known_fault b
agree_fault None None e = refl
agree_fault None (Some b) e = let bad : None ≡ Some (capped b) = e in absurd cc
agree_fault (Some a) None e = let bad : Some (capped a) ≡ None = e in absurd cc
agree_fault (Some a) (Some b) e = same_fault a b (some_same a b e)

pub prefix_agree : (p : Prefix) (a b : Option ℕ) → Agree a b → prefix_fault p a ≡ prefix_fault p b
prefix_agree Pointer a b e = refl
prefix_agree Slice a b e = refl
prefix_agree (Array n) a b e = agree_fault a b e

pub outer_agree : (ps : List Prefix) (a b : Option ℕ) → Agree a b → outer_fault ps a ≡ outer_fault ps b
outer_agree [] a b e = refl
outer_agree (p ∷ ps) a b e = prefix_agree p (prefixed_words (p ∷ ps) a) (prefixed_words (p ∷ ps) b) (agree_prefixed (p ∷ ps) a b e)

pub fails_agree : (table exact : List (Option ℕ)) → AgreeAll table exact → (t : Prefixed) (level : ℕ) (fault : SizeFault) → FailsAt table t level fault → FailsAt exact t level fault
fails_agree table exact same t level fault h = sym (outer_agree (drop level t.prefixes) (base_words table t.base) (base_words exact t.base) (agree_base table exact same t.base)) ∙ h

-- words within the limit are exact
pub exact_from : (a : ℕ) (b : Option ℕ) → Agree (Some a) b → size_fault a ≡ None → b ≡ Some a
exact_from a None e none = let bad : Some (capped a) ≡ None = e in absurd cc
exact_from a (Some b) e none = by (some_same a b e)
  where
    by : Same a b → Some b ≡ Some a
    by (inl f) = ap Some (sym f)
    by (inr l) = (let small = no_fault_small a none in let large = l.0 in absurd (omega (arith, small, large)))
