-- Functions of a batch by their numbers, and places in lists.
use Rattle.std.proofs.Common.{◌≡◌, ◌⊎◌, inl, inr, ℕ, zero, suc, ◌<◌, Bool, true, false, List, [], ◌∷◌, ◌++◌, Option, Some, length, refl, sym, ◌∙◌, arith}
use Rattle.std.specs.List.{Contains}
use Rattle.std.specs.Prelude.{slice_get}
use Rattle.std.proofs.lemmas.Option.{slice_get_read, slice_get_within, get_or_from_slice_get}
use Rattle.base.specs.declared.ids.FuncId.{FuncId}
use Rattle.escape_graph.specs.Edges.{numbers, is_own}
use Rattle.param_tags.proofs.Members.{own_contains, contains_own}
use Rattle.param_tags.proofs.Targets.{map_has, map_is}

-- ---- the functions of a batch

pub member_own : (b : List FuncId) (f : FuncId) → Contains b f → is_own (numbers b) f.0 ≡ true
member_own b f h = own_contains (numbers b) f.0 (map_has (λ (g : FuncId). g.0) b f h)

pub own_member : (b : List FuncId) (f : ℕ) → is_own (numbers b) f ≡ true → (g : FuncId) × Contains b g × (g.0 ≡ f)
own_member b f h = map_is (λ (g : FuncId). g.0) b f (contains_own (numbers b) f h)

-- ---- places

pub or_true : (a : Bool) → (a ≡ true) ⊎ (a ≡ false)
or_true true = inl refl
or_true false = inr refl

pub two_values : (a : Bool) → a ≡ true → a ≡ false → ⊥
two_values a t f = absurd (let e : true ≡ false = sym t ∙ f in cc)

pub one_value : {X : Type 0} (o : Option X) (x y : X) → o ≡ Some x → o ≡ Some y → x ≡ y
one_value o x y h g = cc

pub contains_at : {X : Type 0} (xs : List X) (i : ℕ) (x : X) → slice_get xs i ≡ Some x → Contains xs x
contains_at xs i x h = (i, slice_get_within xs i x h, get_or_from_slice_get xs i x x h)

pub place_of : {X : Type 0} (xs : List X) (x : X) → Contains xs x → (i : ℕ) × (i < length xs) × (slice_get xs i ≡ Some x)
place_of xs x h = (h.0, h.1, slice_get_read xs (length xs) h.0 x refl h.1 (sym h.2))

pub at_end : {X : Type 0} (seen rest : List X) (x : X) → slice_get (seen ++ x ∷ rest) (length seen) ≡ Some x
at_end [] rest x = refl
at_end (s ∷ seen) rest x = at_end seen rest x

pub at_front : {X : Type 0} (xs ys : List X) (i : ℕ) (x : X) → slice_get xs i ≡ Some x → slice_get (xs ++ ys) i ≡ Some x
at_front [] ys i x h = absurd (cc)
at_front (y ∷ xs) ys zero x h = h
at_front (y ∷ xs) ys (suc i) x h = at_front xs ys i x h

pub before_end : {X : Type 0} (seen rest : List X) (x : X) → Contains seen x → (i : ℕ) × (i < length seen) × (slice_get (seen ++ rest) i ≡ Some x)
before_end seen rest x h = let at = place_of seen x h in (at.0, at.1, at_front seen rest at.0 x at.2)

pub element_at : {X : Type 0} (xs : List X) (i : ℕ) → i < length xs → (x : X) × (slice_get xs i ≡ Some x)
element_at [] i within = absurd (omega arith)
element_at (x ∷ xs) zero within = (x, refl)
element_at (x ∷ xs) (suc i) within = element_at xs i (omega arith)
