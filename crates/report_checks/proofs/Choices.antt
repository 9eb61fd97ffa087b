-- Steps that may fail.
use Rattle.std.proofs.Common.{◌≡◌, ◌⊎◌, inl, inr, Bool, true, false, Option, Some, None, refl, ap, ◌∙◌}
use Rattle.std.specs.Prelude.{if◌then◌else◌}
use Rattle.report_checks.specs.Reading.{◌>>=◌, first_of}

pub bound : {A B : Type 0} (o : Option A) (f : A → Option B) (v : B) → (o >>= f) ≡ Some v → (m : A) × (o ≡ Some m) × (f m ≡ Some v)
bound None f v h = absurd (cc)
bound (Some m) f v h = (m, refl, h)

pub tried : {A B : Type 0} (o : Option A) (f : A → Option B) (alt : Option B) (v : B) → first_of o f alt ≡ Some v → ((m : A) × (o ≡ Some m) × (f m ≡ Some v)) ⊎ ((o ≡ None) × (alt ≡ Some v))
tried None f alt v h = inr (refl, h)
tried (Some m) f alt v h = inl (m, refl, h)

pub chosen : {A : Type 0} (b : Bool) (x y : Option A) (v : A) → (if b then x else y) ≡ Some v → ((b ≡ true) × (x ≡ Some v)) ⊎ ((b ≡ false) × (y ≡ Some v))
chosen true x y v h = inl (refl, h)
chosen false x y v h = inr (refl, h)

pub follow : {A B : Type 0} (o : Option A) (f : A → Option B) (m : A) (v : Option B) → o ≡ Some m → f m ≡ v → (o >>= f) ≡ v
follow {A = A} o f m v e h = ap (λ (x : Option A). x >>= f) e ∙ h

pub some_same : {A : Type 0} (x y : A) → Some x ≡ Some y → x ≡ y
some_same x y h = cc
