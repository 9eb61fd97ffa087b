-- The least of two sets of faults.
use Rattle.std.proofs.Common.{◌≡◌, Bool, true, false, cond, ltb, leb, eqb, ◌⊎◌, inl, inr, Option, Some, None, Result, Ok, Err, IfOk, refl, sym, ap, arith}
use Rattle.std.specs.Prelude.{◌||◌, ◌&&◌}
use Rattle.std.proofs.lemmas.Bool.{cases_Bool, ltb-true, ltb-false, eqb-true, eqb-false, leb-true, leb-false}
use Rattle.type_faults.specs.declared.fault.Fault.{Fault}
use Rattle.type_faults.specs.Least.{AtMost, IsLeast, lesser, kind_number}
use Rattle.type_faults.specs.Faults.{IsFault}

abbrev is_before : Fault → Fault → Bool
is_before f g = ltb f.pos.offset g.pos.offset || (eqb f.pos.offset g.pos.offset && leb (kind_number f.kind) (kind_number g.kind))

before_true : (f g : Fault) → is_before f g ≡ true → AtMost f g
before_true f g h =
    elim (cases_Bool (ltb f.pos.offset g.pos.offset)) [
      | inl lt ↦ inl (ltb-true _ _ lt)
      | inr ge ↦ elim (cases_Bool (eqb f.pos.offset g.pos.offset)) [
        | inl eq ↦ elim (cases_Bool (leb (kind_number f.kind) (kind_number g.kind))) [
          | inl le ↦ inr (eqb-true _ _ eq, leb-true _ _ le)
          | inr gt ↦ let e : false ≡ true = rw (ge, eq, gt) at h in absurd cc
        ]
        | inr ne ↦ let e : false ≡ true = rw (ge, ne) at h in absurd cc
      ]
    ]

before_false : (f g : Fault) → is_before f g ≡ false → AtMost g f
before_false f g h =
    elim (cases_Bool (ltb f.pos.offset g.pos.offset)) [
      | inl lt ↦ let e : true ≡ false = rw lt at h in absurd cc
      | inr ge ↦ elim (cases_Bool (eqb f.pos.offset g.pos.offset)) [
        | inl eq ↦ elim (cases_Bool (leb (kind_number f.kind) (kind_number g.kind))) [
          | inl le ↦ let e : true ≡ false = rw (ge, eq, le) at h in absurd cc
          | inr gt ↦ let lt = leb-false (kind_number f.kind) (kind_number g.kind) gt in inr (sym (eqb-true _ _ eq), omega arith)
        ]
        | inr ne ↦ let other = eqb-false f.pos.offset g.pos.offset ne in let le = ltb-false f.pos.offset g.pos.offset ge in inl (omega arith)
      ]
    ]

AtMost-trans : (f g h : Fault) → AtMost f g → AtMost g h → AtMost f h
AtMost-trans f g h (inl a) (inl b) = inl (omega arith)
AtMost-trans f g h (inl a) (inr b) = inl (omega (arith, b.0))
AtMost-trans f g h (inr a) (inl b) = inl (omega (arith, a.0))
AtMost-trans f g h (inr a) (inr b) = inr (omega (arith, a.0, b.0), omega (arith, a.1, b.1))

module _ (P Q : Fault → Type 0) where
  join_if : (f g : Fault) (t : Bool) → is_before f g ≡ t → IsLeast P (Some f) → IsLeast Q (Some g) → IsLeast (λ h. P h ⊎ Q h) (cond t (Some f) (Some g))
  join_if f g true is p q = (inl p.0, λ h r. both h r)
    where
      both : (h : Fault) → P h ⊎ Q h → AtMost f h
      both h (inl r) = p.1 h r
      both h (inr r) = AtMost-trans f g h (before_true f g is) (q.1 h r)
  join_if f g false is p q = (inr q.0, λ h r. both h r)
    where
      both : (h : Fault) → P h ⊎ Q h → AtMost g h
      both h (inl r) = AtMost-trans g f h (before_false f g is) (p.1 h r)
      both h (inr r) = q.1 h r

  pub least_join : (a b : Option Fault) → IsLeast P a → IsLeast Q b → IsLeast (λ h. P h ⊎ Q h) (lesser a b)
  least_join None None p q = λ f r. elim r [ inl x ↦ p f x | inr x ↦ q f x ]
  least_join None (Some g) p q = (inr q.0, λ h r. elim r [ inl x ↦ absurd (p h x) | inr x ↦ q.1 h x ])
  least_join (Some f) None p q = (inl p.0, λ h r. elim r [ inl x ↦ p.1 h x | inr x ↦ absurd (q h x) ])
  least_join (Some f) (Some g) p q = join_if f g (is_before f g) refl p q

-- the fault that is kept is reported no later than g
abbrev pub Covers : Option Fault → Fault → Type 0
Covers None g = ⊥
Covers (Some f) g = AtMost f g

left_if : (f h g : Fault) (t : Bool) → is_before f h ≡ t → AtMost f g → Covers (cond t (Some f) (Some h)) g
left_if f h g true is a = a
left_if f h g false is a = AtMost-trans h f g (before_false f h is) a

right_if : (f h g : Fault) (t : Bool) → is_before f h ≡ t → AtMost h g → Covers (cond t (Some f) (Some h)) g
right_if f h g true is a = AtMost-trans f h g (before_true f h is) a
right_if f h g false is a = a

pub covers_left : (a b : Option Fault) (g : Fault) → Covers a g → Covers (lesser a b) g
covers_left None b g c = absurd c
covers_left (Some f) None g c = c
covers_left (Some f) (Some h) g c = left_if f h g (is_before f h) refl c

pub covers_right : (a b : Option Fault) (g : Fault) → Covers b g → Covers (lesser a b) g
covers_right None b g c = c
covers_right (Some f) None g c = absurd c
covers_right (Some f) (Some h) g c = right_if f h g (is_before f h) refl c

pub least_covers : (P : Fault → Type 0) (b : Option Fault) (g : Fault) → IsLeast P b → P g → Covers b g
least_covers P None g least p = least g p
least_covers P (Some f) g least p = least.1 g p

-- what is kept is a fault that there is
abbrev pub Sound : (Fault → Type 0) → Option Fault → Type 0
Sound P None = Unit {0}
Sound P (Some f) = P f

sound_if : (P : Fault → Type 0) (f h : Fault) (t : Bool) → P f → P h → Sound P (cond t (Some f) (Some h))
sound_if P f h true p q = p
sound_if P f h false p q = q

pub sound_lesser : (P : Fault → Type 0) (a b : Option Fault) → Sound P a → Sound P b → Sound P (lesser a b)
sound_lesser P None b p q = q
sound_lesser P (Some f) None p q = p
sound_lesser P (Some f) (Some h) p q = sound_if P f h (is_before f h) p q

pub least_sound : (P Q : Fault → Type 0) (b : Option Fault) → IsLeast P b → ((f : Fault) → P f → Q f) → Sound Q b
least_sound P Q None least into = tt
least_sound P Q (Some f) least into = into f least.0

pub is_least : (P : Fault → Type 0) (b : Option Fault) → Sound P b → ((g : Fault) → P g → Covers b g) → IsLeast P b
is_least P None sound covers = covers
is_least P (Some f) sound covers = (sound, covers)

lesser_if : (f g : Fault) (t : Bool) → cond t (Some f) (Some g) ≡ None → ⊥
lesser_if f g true e = let bad : None ≡ Some f = sym e in cc
lesser_if f g false e = let bad : None ≡ Some g = sym e in cc

pub lesser_none : (a b : Option Fault) → lesser a b ≡ None → (a ≡ None) × (b ≡ None)
lesser_none None b e = (refl, e)
lesser_none (Some f) None e = let bad : None ≡ Some f = sym e in absurd cc
lesser_none (Some f) (Some g) e = absurd (lesser_if f g (is_before f g) e)

-- what is said of an answer that there is
pub if_ok : {A E : Type 0} (P Q : A → Type 0) (r : Result A E) → ((x : A) → P x → Q x) → IfOk r P → IfOk r Q
if_ok P Q (Ok x) f h = f x h
if_ok P Q (Err e) f h = tt

-- ---- a fault that is least among some, in steps

-- what is kept is a fault of the whole; each fault of the whole is covered or still ahead
pub record Kept (Whole Ahead : Fault → Type 0) (least : Option Fault) : Type 0 where
  pub sound : Sound Whole least
  pub covered : (g : Fault) → Whole g → Covers least g ⊎ Ahead g
  pub within : (g : Fault) → Ahead g → Whole g

pub kept_start : (Whole : Fault → Type 0) → Kept Whole Whole None
kept_start Whole = record { sound = tt; covered = λ g h. inr h; within = λ g h. h }

pub kept_more : (Whole P Ahead : Fault → Type 0) (least own : Option Fault) → Kept Whole (λ g. P g ⊎ Ahead g) least → IsLeast P own → Kept Whole Ahead (lesser least own)
kept_more Whole P Ahead least own k found = record {
  sound = sound_lesser Whole least own k.sound (least_sound P Whole own found (λ f h. k.within f (inl h)));
  covered = λ g h. sorted g (k.covered g h);
  within = λ g h. k.within g (inr h);
}
  where
    sorted : (g : Fault) → Covers least g ⊎ (P g ⊎ Ahead g) → Covers (lesser least own) g ⊎ Ahead g
    sorted g (inl c) = inl (covers_left least own g c)
    sorted g (inr (inl h)) = inl (covers_right least own g (least_covers P own g found h))
    sorted g (inr (inr h)) = inr h

pub kept_end : (Whole Ahead : Fault → Type 0) (least : Option Fault) → ((g : Fault) → Ahead g → ⊥) → Kept Whole Ahead least → IsLeast Whole least
kept_end Whole Ahead least nothing k = is_least Whole least k.sound (λ g h. covers g (k.covered g h))
  where
    covers : (g : Fault) → Covers least g ⊎ Ahead g → Covers least g
    covers g (inl c) = c
    covers g (inr n) = absurd (nothing g n)

-- ---- one fault

pub same_fault : (f g : Fault) → g ≡ f → AtMost f g
same_fault f g is = let o = ap (λ (x : Fault). x.pos.offset) is in let k = ap (λ (x : Fault). kind_number x.kind) is in inr (sym o, omega arith)

pub just : (f : Fault) → IsLeast (λ g. g ≡ f) (Some f)
just f = (refl, λ g h. same_fault f g h)

-- a rule that fails where a test is false
pub unless : (b : Bool) (f : Fault) → IsLeast (λ g. (b ≡ false) × (g ≡ f)) (cond b None (Some f))
unless true f = λ g h. cc h.0
unless false f = ((refl, refl), λ g h. same_fault f g h.1)

-- a rule with one fault, or none
pub leaf : (o : Option Fault) → IsLeast (IsFault o) o
leaf None = λ f h. h
leaf (Some f) = just f
