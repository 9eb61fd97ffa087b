-- What there is stays there, if the parts stay that it is made of.
use Rattle.std.proofs.Common.{◌≡◌, Option, Some, None, refl, sym, ap, ◌∙◌}
use Rattle.std.specs.Prelude.{option_and_then}
use Rattle.std.specs.Option.{option_map}
use Rattle.type_faults.specs.Given.{both}
use Rattle.type_faults.proofs.Options.{none_some}

module _ {A : Type 0} where
  abbrev pub Stays : Option A → Option A → Type 0
  Stays x y = (a : A) → x ≡ Some a → y ≡ Some a

pub map_stays : {A B : Type 0} (h : A → B) (x y : Option A) → Stays x y → Stays (option_map h x) (option_map h y)
map_stays h None y still b is = absurd (none_some is)
map_stays h (Some a) y still b is = ap (option_map h) (still a refl) ∙ is

-- by rules that make the same of it
pub then_stays : {A B : Type 0} (k m : A → Option B) (x y : Option A) → ((a : A) → k a ≡ m a) → Stays x y → Stays (option_and_then k x) (option_and_then m y)
then_stays k m None y same still b is = absurd (none_some is)
then_stays k m (Some a) y same still b is = ap (option_and_then m) (still a refl) ∙ sym (same a) ∙ is

pub both_stay : {A B C : Type 0} (k : A → B → Option C) (x u : Option A) (y v : Option B) → Stays x u → Stays y v → Stays (both k x y) (both k u v)
both_stay k None u y v s1 s2 c is = absurd (none_some is)
both_stay k (Some a) u None v s1 s2 c is = absurd (none_some is)
both_stay k (Some a) u (Some b) v s1 s2 c is = ap (λ (o : Option _). both k o v) (s1 a refl) ∙ ap (λ (o : Option _). both k (Some a) o) (s2 b refl) ∙ is
