-- Contents without their types, which lead nowhere.
use Rattle.std.proofs.Common.{◌≡◌, inl, inr, Bool, true, false, ℕ, zero, suc, ◌^◌, ◌<◌, List, [], ◌∷◌, ◌++◌, length, Option, refl, sym, ap, ◌∙◌, subst, arith, get_or}
use Rattle.std.specs.Prelude.{slice_index, replicate}
use Rattle.std.specs.Int.{w64, cast_signed}
use Rattle.typed_syntax.specs.Types.{TypeTree, PartTypes, ints, bools, struct_of, array_of, pointer_to, slice_of, no_types, more_types, width, repeated}
use Rattle.typed_syntax.specs.Value.{Value, Values, int, bool, composite, nil_pointer, pointer, nil_slice, slice_in, no_values, more_values, IsOf, AreOf as ArePartsOf, zero_of}
use Rattle.typed_syntax.specs.Words.{Content, number, truth, no_address, part_address, array_address, contents, contents_in, Hold, IsZero}
use Rattle.typed_syntax.specs.Syntax.{Program}
use Rattle.typed_syntax.specs.Form.{IsPlain, AreOf}
use Rattle.value_laws.proofs.Lists.{held_long}
use Rattle.value_laws.proofs.Zeros.{zero_held, zero_is}
use Rattle.meaning.specs.Trace.{World}
use Rattle.isa.specs.Bin.{bit_of}
use Rattle.state_relation.specs.Leaves.{leaves, leaves_in, leaf, all_leaves}
use Rattle.state_relation.specs.Views.{Place}
use Rattle.state_relation.specs.Relation.{nothing, Leading, to_none, MayLead, StandsFor, Stand, contents_of}
use Rattle.state_relation.proofs.Lists.{true_false}
use Rattle.state_relation.proofs.Leaves.{leaves_length, leaves_repeated}

-- a word holds a number, a truth value or no address; which word holds an address is a matter of homes and types
abbrev pub Holds : Content → ℕ → Type 0
Holds (number z) u = (cast_signed w64 u ≡ z) × (u < 2 ^ 64)
Holds (truth b) u = u ≡ bit_of b
Holds no_address u = u ≡ 0
Holds c u = ⊥

-- a value of one word is spelled by a word
abbrev pub Spells : Value → ℕ → Type 0
Spells v u = Holds (get_or (contents v) 0 nothing) u

-- a content is one of a type of one word
abbrev pub FitsLeaf : TypeTree → Content → Type 0
FitsLeaf ints (number z) = Unit {0}
FitsLeaf bools (truth b) = Unit {0}
FitsLeaf (pointer_to n) no_address = Unit {0}
FitsLeaf (pointer_to n) (part_address x path) = Unit {0}
FitsLeaf (slice_of n) no_address = Unit {0}
FitsLeaf (slice_of n) (array_address x path first room) = Unit {0}
FitsLeaf t c = ⊥

abbrev pub FitLeaves : List TypeTree → List Content → Type 0
FitLeaves [] [] = Unit {0}
FitLeaves (l ∷ ls) (c ∷ cs) = FitsLeaf l c × FitLeaves ls cs
FitLeaves ls cs = ⊥

pub fit_joined : (ls ms : List TypeTree) (cs ds : List Content) → FitLeaves ls cs → FitLeaves ms ds → FitLeaves (ls ++ ms) (cs ++ ds)
fit_joined [] ms [] ds f g = g
fit_joined (l ∷ ls) ms (c ∷ cs) ds f g = (f.0, fit_joined ls ms cs ds f.1 g)
fit_joined [] ms (c ∷ cs) ds f g = absurd f
fit_joined (l ∷ ls) ms [] ds f g = absurd f

mutual
  -- the words of a value of a type are of the types of its words
  pub value_fits : (t : TypeTree) (v : Value) → IsOf t v → FitLeaves (leaves t) (contents v)
  value_fits ints (int z) is = (tt, tt)
  value_fits bools (bool b) is = (tt, tt)
  value_fits (struct_of ts) (composite vs) is = values_fit ts vs is
  value_fits (array_of n t) (composite vs) is = subst (λ ls. FitLeaves ls (contents_in vs)) (leaves_repeated n t) (values_fit (repeated n t) vs is)
  value_fits (pointer_to n) nil_pointer is = (tt, tt)
  value_fits (pointer_to n) (pointer x path) is = (tt, tt)
  value_fits (slice_of n) nil_slice is = (tt, (tt, (tt, tt)))
  value_fits (slice_of n) (slice_in x path first count room) is = (tt, (tt, (tt, tt)))
  value_fits t v is = absurd is

  values_fit : (ts : PartTypes) (vs : Values) → ArePartsOf ts vs → FitLeaves (leaves_in ts) (contents_in vs)
  values_fit no_types no_values is = tt
  values_fit (more_types t ts) (more_values v vs) is = fit_joined (leaves t) (leaves_in ts) (contents v) (contents_in vs) (value_fits t v is.0) (values_fit ts vs is.1)
  values_fit no_types (more_values v vs) is = absurd is
  values_fit (more_types t ts) no_values is = absurd is

pub all_fit : (ts : List TypeTree) (vs : List Value) → AreOf ts vs → FitLeaves (all_leaves ts) (contents_of vs)
all_fit [] [] are = tt
all_fit (t ∷ ts) (v ∷ vs) are = fit_joined (leaves t) (all_leaves ts) (contents v) (contents_of vs) (value_fits t v are.0) (all_fit ts vs are.1)
all_fit [] (v ∷ vs) are = absurd are
all_fit (t ∷ ts) [] are = absurd are

pub fit_length : (ls : List TypeTree) (cs : List Content) → FitLeaves ls cs → length cs ≡ length ls
fit_length [] [] f = refl
fit_length (l ∷ ls) (c ∷ cs) f = ap suc (fit_length ls cs f.1)
fit_length [] (c ∷ cs) f = absurd f
fit_length (l ∷ ls) [] f = absurd f

fit_at : (ls : List TypeTree) (cs : List Content) (j : ℕ) → FitLeaves ls cs → j < length ls → FitsLeaf (get_or ls j ints) (get_or cs j nothing)
fit_at [] cs j f l = absurd (omega arith)
fit_at (t ∷ ls) (c ∷ cs) zero f l = f.0
fit_at (t ∷ ls) (c ∷ cs) (suc j) f l = fit_at ls cs j f.1 (omega arith)
fit_at (t ∷ ls) [] j f l = absurd f

abbrev is_address : TypeTree → Bool
is_address (pointer_to n) = true
is_address (slice_of n) = true
is_address t = false

no_address_type : (t : TypeTree) → IsPlain t → is_address t ≡ true → ⊥
no_address_type t (inl e) a = true_false (sym a ∙ ap is_address e)
no_address_type t (inr e) a = true_false (sym a ∙ ap is_address e)

-- a word that stands for a content holds it where addresses lead nowhere, and the other way round where the content is of the type
pub stands_hold : (p : Program) (led : Leading) (homes : ℕ → Option Place) (hi : ℕ) (w : World) (t : TypeTree) (c : Content) (u : ℕ) → led ≡ to_none → StandsFor p led homes hi w t c u → Holds c u
stands_hold p led homes hi w ints (number z) u none s = s
stands_hold p led homes hi w bools (truth b) u none s = s
stands_hold p led homes hi w (pointer_to n) no_address u none s = s
stands_hold p led homes hi w (pointer_to n) (part_address x path) u none s = absurd (subst (λ l. MayLead l homes x) none s.0)
stands_hold p led homes hi w (slice_of n) no_address u none s = s
stands_hold p led homes hi w (slice_of n) (array_address x path first room) u none s = absurd (subst (λ l. MayLead l homes x) none s.0)
stands_hold p led homes hi w (struct_of ts) c u none s = absurd s
stands_hold p led homes hi w (array_of n t) c u none s = absurd s
stands_hold p led homes hi w t c u none s = absurd s

-- a word of a number or a truth value holds it wherever addresses lead
pub stands_plain : (p : Program) (led : Leading) (homes : ℕ → Option Place) (hi : ℕ) (w : World) (t : TypeTree) (c : Content) (u : ℕ) → IsPlain t → StandsFor p led homes hi w t c u → Holds c u
stands_plain p led homes hi w ints (number z) u plain s = s
stands_plain p led homes hi w bools (truth b) u plain s = s
stands_plain p led homes hi w (pointer_to n) c u plain s = absurd (no_address_type (pointer_to n) plain refl)
stands_plain p led homes hi w (slice_of n) c u plain s = absurd (no_address_type (slice_of n) plain refl)
stands_plain p led homes hi w t c u plain s = absurd s

pub plain_leaf : (t : TypeTree) → IsPlain t → IsPlain (leaf t 0) × (width t ≡ 1)
plain_leaf t (inl e) = (inl (ap (λ u. leaf u 0) e), ap width e)
plain_leaf t (inr e) = (inr (ap (λ u. leaf u 0) e), ap width e)

pub holds_stand : (p : Program) (led : Leading) (homes : ℕ → Option Place) (hi : ℕ) (w : World) (t : TypeTree) (c : Content) (u : ℕ) → FitsLeaf t c → Holds c u → StandsFor p led homes hi w t c u
holds_stand p led homes hi w ints (number z) u f s = s
holds_stand p led homes hi w bools (truth b) u f s = s
holds_stand p led homes hi w (pointer_to n) no_address u f s = s
holds_stand p led homes hi w (slice_of n) no_address u f s = s
holds_stand p led homes hi w t (part_address x path) u f s = absurd s
holds_stand p led homes hi w t (array_address x path first room) u f s = absurd s
holds_stand p led homes hi w t c u f s = absurd f

-- words hold contents, one by one
pub record HoldIn (cs : List Content) (xs : List ℕ) : Type 0 where
  pub long : length xs ≡ length cs
  pub each : (j : ℕ) → j < length cs → Holds (get_or cs j nothing) (slice_index xs j)

pub hold_stand : (p : Program) (led : Leading) (homes : ℕ → Option Place) (hi : ℕ) (w : World) (ls : List TypeTree) (cs : List Content) (xs : List ℕ) → FitLeaves ls cs → HoldIn cs xs → Stand p led homes hi w ls cs xs
hold_stand p led homes hi w ls cs xs f h = record {
  long = h.long ∙ fit_length ls cs f;
  each = λ j l. holds_stand p led homes hi w (get_or ls j ints) (get_or cs j nothing) (slice_index xs j) (fit_at ls cs j f l) (h.each j (omega (arith, fit_length ls cs f)));
}

pub stand_hold : (p : Program) (led : Leading) (homes : ℕ → Option Place) (hi : ℕ) (w : World) (ls : List TypeTree) (cs : List Content) (xs : List ℕ) → led ≡ to_none → length cs ≡ length ls → Stand p led homes hi w ls cs xs → HoldIn cs xs
stand_hold p led homes hi w ls cs xs none e s = record {
  long = s.long ∙ sym e;
  each = λ j l. stands_hold p led homes hi w (get_or ls j ints) (get_or cs j nothing) (slice_index xs j) none (s.each j (omega (arith, e)));
}

-- ---- zeros

zero_word : (c : Content) → IsZero c → Holds c 0
zero_word (number z) e = (sym e, omega arith)
zero_word (truth b) e = sym (ap bit_of e)
zero_word no_address e = refl
zero_word (part_address x path) e = absurd e
zero_word (array_address x path first room) e = absurd e

pub held_in : (cs : List Content) (xs : List ℕ) → Hold Holds cs xs → HoldIn cs xs
held_in cs xs h = record { long = held_long Holds cs xs h; each = λ j l. at cs xs j h l }
  where
    at : (cs : List Content) (xs : List ℕ) (j : ℕ) → Hold Holds cs xs → j < length cs → Holds (get_or cs j nothing) (slice_index xs j)
    at [] xs j h l = absurd (omega arith)
    at (c ∷ cs) (x ∷ xs) zero h l = h.0
    at (c ∷ cs) (x ∷ xs) (suc j) h l = at cs xs j h.1 (omega arith)
    at (c ∷ cs) [] j h l = absurd h

pub zero_stands : (p : Program) (led : Leading) (homes : ℕ → Option Place) (hi : ℕ) (w : World) (t : TypeTree) → Stand p led homes hi w (leaves t) (contents (zero_of t)) (replicate (width t) 0)
zero_stands p led homes hi w t = hold_stand p led homes hi w (leaves t) (contents (zero_of t)) (replicate (width t) 0) (value_fits t (zero_of t) (zero_is t)) (held_in (contents (zero_of t)) (replicate (width t) 0) (zero_held Holds zero_word t))

pub all_zero : (n i : ℕ) → slice_index (replicate n 0) i ≡ 0
all_zero zero i = refl
all_zero (suc n) zero = refl
all_zero (suc n) (suc i) = all_zero n i

-- each word of it is 0
pub zero_behind : (p : Program) (led : Leading) (homes : ℕ → Option Place) (hi : ℕ) (w : World) (t : TypeTree) (j : ℕ) → j < width t → StandsFor p led homes hi w (leaf t j) (get_or (contents (zero_of t)) j nothing) 0
zero_behind p led homes hi w t j l =
    subst (λ x. StandsFor p led homes hi w (leaf t j) (get_or (contents (zero_of t)) j nothing) x) (all_zero (width t) j) ((zero_stands p led homes hi w t).each j (omega (arith, leaves_length t)))
