-- What the rules give is decided where they give something and no rule fails, or nothing and some rule fails.
use Rattle.std.proofs.Common.{◌≡◌, Bool, true, false, ◌⊎◌, inl, inr, Option, Some, None, refl}
use Rattle.std.specs.Prelude.{option_and_then, ◌&&◌}
use Rattle.std.specs.Option.{option_map}
use Rattle.type_faults.specs.declared.fault.Fault.{Fault}
use Rattle.type_faults.specs.Given.{both, allowed}

abbrev pub Decided : {A : Type 0} → Option A → (Fault → Type 0) → Type 0
Decided (Some x) P = (f : Fault) → P f → ⊥
Decided None P = (f : Fault) × P f

-- a test, where a rule says that it holds
abbrev pub Tested : Bool → (Fault → Type 0) → Type 0
Tested true P = (f : Fault) → P f → ⊥
Tested false P = (f : Fault) × P f

module _ {A : Type 0} where
  -- nothing more fails
  pub further : (P Q : Fault → Type 0) (o : Option A) → ((f : Fault) → P f → ⊥) → Decided o Q → Decided o (λ f. P f ⊎ Q f)
  further P Q None p q = (q.0, inr q.1)
  further P Q (Some x) p q = λ f h. elim h [ inl k ↦ p f k | inr k ↦ q f k ]

  pub same : (P Q : Fault → Type 0) (o : Option A) → ((f : Fault) → P f → Q f) → ((f : Fault) → Q f → P f) → Decided o P → Decided o Q
  same P Q None into back d = (d.0, into d.0 d.1)
  same P Q (Some x) into back d = λ f h. d f (back f h)

  pub tested : (P Q : Fault → Type 0) (b : Bool) (o : Option A) → Tested b P → Decided o Q → Decided (allowed b o) (λ f. P f ⊎ Q f)
  tested P Q false o t d = (t.0, inl t.1)
  tested P Q true o t d = further P Q o t d

  -- the other way round
  pub turned : (P Q : Fault → Type 0) (o : Option A) → Decided o (λ f. P f ⊎ Q f) → Decided o (λ f. Q f ⊎ P f)
  turned P Q o d = same (λ f. P f ⊎ Q f) (λ f. Q f ⊎ P f) o (λ f h. elim h [ inl k ↦ inr k | inr k ↦ inl k ]) (λ f h. elim h [ inl k ↦ inr k | inr k ↦ inl k ]) d

module _ {A B : Type 0} where
  pub mapped : (h : A → B) (o : Option A) (P : Fault → Type 0) → Decided o P → Decided (option_map h o) P
  mapped h None P d = d
  mapped h (Some x) P d = d

  -- what is worked out, and then what follows from it
  pub after : (o : Option A) (k : A → Option B) (P Q : Fault → Type 0) → Decided o P → ((x : A) → o ≡ Some x → Decided (k x) Q) → Decided (option_and_then k o) (λ f. P f ⊎ Q f)
  after None k P Q d q = (d.0, inl d.1)
  after (Some x) k P Q d q = further P Q (k x) d (q x refl)

module _ {A B C : Type 0} where
  -- two that are worked out, and what follows from both
  pub both_decided : (a : Option A) (b : Option B) (k : A → B → Option C) (P Q R : Fault → Type 0) → Decided a P → Decided b Q → ((x : A) (y : B) → a ≡ Some x → b ≡ Some y → Decided (k x y) R)
      → Decided (both k a b) (λ f. (P f ⊎ Q f) ⊎ R f)
  both_decided None b k P Q R p q r = (p.0, inl (inl p.1))
  both_decided (Some x) None k P Q R p q r = (q.0, inl (inr q.1))
  both_decided (Some x) (Some y) k P Q R p q r = further (λ f. P f ⊎ Q f) R (k x y) (λ f h. elim h [ inl u ↦ p f u | inr u ↦ q f u ]) (r x y refl refl)

-- two tests
pub both_tested : (P Q : Fault → Type 0) (a b : Bool) → Tested a P → Tested b Q → Tested (a && b) (λ f. P f ⊎ Q f)
both_tested P Q false b p q = (p.0, inl p.1)
both_tested P Q true false p q = (q.0, inr q.1)
both_tested P Q true true p q = λ f h. elim h [ inl k ↦ p f k | inr k ↦ q f k ]
