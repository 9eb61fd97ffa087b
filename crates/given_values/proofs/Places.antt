-- Expressions side by side and the places for their values.
use Rattle.std.proofs.Common.{◌≡◌, ℕ, ◌+◌, ◌<◌, ◌≤◌, min, Bool, true, false, cond, ltb, List, [], ◌∷◌, ◌⊎◌, inl, inr, Option, Some, None, refl, ap, drop, get_or, length, arith, subst}
use Rattle.std.specs.Prelude.{is_some, is_none, ◌&&◌, ◌==◌}
use Rattle.std.proofs.lemmas.Bool.{ltb-true, ltb-false}
use Rattle.std.specs.Option.{option_map}
use Rattle.base.specs.declared.pos.Pos.{Pos}
use Rattle.type_faults.specs.declared.fault.Fault.{Fault}
use Rattle.type_faults.specs.declared.fault.FaultKind.TheVariants.{Mismatch}
use Rattle.base.specs.declared.value_type.ValueType.{ValueType}
use Rattle.type_faults.specs.Least.{IsLeast, lesser}
use Rattle.type_faults.specs.Faults.{fault, IsFault}
use Rattle.type_faults.proofs.Decided.{Tested, both_tested}
use Rattle.type_faults.proofs.Leasts.{Kept, kept_more, leaf}
use Rattle.operators.specs.Operands.{Operand}
use Rattle.given_values.specs.declared.gives.Item.{Item}
use Rattle.given_values.specs.declared.wants.Wanted.{Wanted}
use Rattle.given_values.specs.declared.wants.Wanted.TheVariants as wants
use Rattle.given_values.specs.Given.{Seen, Many, operand_in, many, asked, operand_agrees, values_agree, types_agree, fits_with, fits}
use Rattle.given_values.specs.GivenFaults.{SinglesFail, ValuesFail, SidesFail, TypesFail, MismatchFails, type_fault}
use Rattle.given_values.specs.Passing.{gives_of, seens}
use Rattle.type_faults.proofs.Lists.{from_one, from_there, nothing_left}

pub values_least : (m : Option Many) (os : List Seen) (f : Option Fault) → option_map (λ (k : Many). k.at) m ≡ None → IsLeast (SinglesFail os) f → IsLeast (ValuesFail m os) f
values_least None os f is least = least
values_least (Some m) os f is least = cc is

pub mismatch_least : (ps : List Wanted) (m : Option Many) (os : List Seen) (f : Option Fault) → option_map (λ (k : Many). k.at) m ≡ None → IsLeast (TypesFail ps os) f → IsLeast (MismatchFails ps os m) f
mismatch_least ps None os f is least = least
mismatch_least ps (Some m) os f is least = cc is

pub there : (m : Option Many) (at : Pos) (ts : List ValueType) → Some at ≡ option_map (λ (k : Many). k.at) m → Some ts ≡ option_map (λ (k : Many). k.types) m → (k : Many) × (m ≡ Some k) × (k.at ≡ at) × (k.types ≡ ts)
there None at ts a t = cc a
there (Some k) at ts a t = (k, refl, cc a, cc t)

-- a place that has a rule: the type that it asks for is known, or it asks for none
abbrev pub Asks : Wanted → Type 0
Asks wants.Own = Unit {0}
Asks (wants.Typed t) = Unit {0}
Asks wants.Unknown = ⊥

abbrev pub AllAsk : List Wanted → Type 0
AllAsk [] = Unit {0}
AllAsk (p ∷ ps) = Asks p × AllAsk ps

pub asked_ask : (ts : List ValueType) → AllAsk (asked ts)
asked_ask [] = tt
asked_ask (t ∷ ts) = (tt, asked_ask ts)

pub is_some_map : {A B : Type 0} (f : A → B) (o : Option A) → is_some (option_map f o) ≡ is_some o
is_some_map f None = refl
is_some_map f (Some x) = refl

-- a type fails where the types don't agree
agree_one : (p : Wanted) (at : Pos) (o : Option Operand) → Tested (operand_agrees p o) (IsFault (type_fault p at o))
agree_one p at o = by (operand_agrees p o)
  where
    by : (b : Bool) → Tested b (IsFault (cond b None (Some (fault Mismatch at))))
    by true = λ f h. h
    by false = (_, refl)

pub agree_tested : (ps : List Wanted) (os : List Seen) → Tested (values_agree ps os) (TypesFail ps os)
agree_tested [] os = λ f h. h
agree_tested (p ∷ ps) [] = λ f h. h
agree_tested (p ∷ ps) (o ∷ os) = both_tested (IsFault (type_fault p o.at (operand_in o.gives))) (TypesFail ps os) (operand_agrees p (operand_in o.gives)) (values_agree ps os) (agree_one p o.at (operand_in o.gives)) (agree_tested ps os)

pub agree_none : (ps : List Wanted) (os : List Seen) (r : Option Fault) → IsLeast (TypesFail ps os) r → is_none r ≡ values_agree ps os
agree_none ps os r = by (values_agree ps os) (agree_tested ps os) r
  where
    by : (b : Bool) → Tested b (TypesFail ps os) → (r1 : Option Fault) → IsLeast (TypesFail ps os) r1 → is_none r1 ≡ b
    by true t None least = refl
    by true t (Some f) least = absurd (t f least.0)
    by false t None least = absurd (least t.0 t.1)
    by false t (Some f) least = refl

-- two lists from one place on
pub pairs_here : {A B : Type 0} (xs : List A) (ys : List B) (i : ℕ) (d : A) (e : B) → i < length xs → i < length ys
    → (drop i xs ≡ get_or xs i d ∷ drop (i + 1) xs) × (drop i ys ≡ get_or ys i e ∷ drop (i + 1) ys)
pairs_here xs ys i d e l m = (from_there xs i d l, from_there ys i e m)

types_end : (ps : List Wanted) (ts : List ValueType) → (ps ≡ []) ⊎ (ts ≡ []) → types_agree ps ts ≡ true
types_end [] ts h = refl
types_end (p ∷ ps) [] h = refl
types_end (p ∷ ps) (t ∷ ts) (inl e) = cc e
types_end (p ∷ ps) (t ∷ ts) (inr e) = cc e

-- a rule of places and of the values there
abbrev pub Rule : Type 0
Rule = Wanted → Pos → Option Operand → Option Fault

none_beside : (rule : Rule) (ps : List Wanted) (os : List Seen) (f : Fault) → (ps ≡ []) ⊎ (os ≡ []) → SidesFail rule ps os f → ⊥
none_beside rule [] os f h k = k
none_beside rule (p ∷ ps) [] f h k = k
none_beside rule (p ∷ ps) (o ∷ os) f (inl e) k = cc e
none_beside rule (p ∷ ps) (o ∷ os) f (inr e) k = cc e

-- after the last place or the last element
behind_one : {A B : Type 0} (xs : List A) (ys : List B) (i : ℕ) → min (length xs) (length ys) ≤ i → (drop i xs ≡ []) ⊎ (drop i ys ≡ [])
behind_one xs ys i le = by (ltb i (length xs)) refl
  where
    by : (b : Bool) → ltb i (length xs) ≡ b → (drop i xs ≡ []) ⊎ (drop i ys ≡ [])
    by true is = inr (nothing_left ys i (λ l. absurd (omega (arith, le, l, ltb-true i (length xs) is))))
    by false is = inl (nothing_left xs i (λ l. absurd (omega (arith, l, ltb-false i (length xs) is))))

pub types_all : (ps : List Wanted) (ts : List ValueType) (i : ℕ) → min (length ps) (length ts) ≤ i → types_agree (drop i ps) (drop i ts) ≡ true
types_all ps ts i le = types_end (drop i ps) (drop i ts) (behind_one ps ts i le)

pub sides_end : (rule : Rule) (ps : List Wanted) (items : List Item) (i : ℕ) → min (length ps) (length items) ≤ i → (f : Fault) → SidesFail rule (drop i ps) (seens (drop i items)) f → ⊥
sides_end rule ps items i le f = by (behind_one ps items i le)
  where
    by : (drop i ps ≡ []) ⊎ (drop i items ≡ []) → SidesFail rule (drop i ps) (seens (drop i items)) f → ⊥
    by (inl e) = none_beside rule (drop i ps) (seens (drop i items)) f (inl e)
    by (inr e) = none_beside rule (drop i ps) (seens (drop i items)) f (inr (ap seens e))

-- one more place and its expression
pub sides_kept : (rule : Rule) (ps : List Wanted) (items : List Item) (k : ℕ) (least own : Option Fault) (d : Wanted) (item : Item) → k < length ps → k < length items → item ≡ get_or items k item
    → Kept (SidesFail rule ps (seens items)) (SidesFail rule (drop k ps) (seens (drop k items))) least → own ≡ rule (get_or ps k d) item.pos (operand_in (option_map gives_of item.gives))
    → Kept (SidesFail rule ps (seens items)) (SidesFail rule (drop (k + 1) ps) (seens (drop (k + 1) items))) (lesser least own)
sides_kept rule ps items k least own d item l m is kept found =
    let x = operand_in (option_map gives_of item.gives) in
    let here : drop k ps ≡ get_or ps k d ∷ drop (k + 1) ps = from_there ps k d l in
    let there1 : drop k items ≡ item ∷ drop (k + 1) items = from_one items k item m is in
    let kept1 = subst (λ (z : List Wanted). Kept (SidesFail rule ps (seens items)) (SidesFail rule z (seens (drop k items))) least) here kept in
    let kept2 = subst (λ (z : List Item). Kept (SidesFail rule ps (seens items)) (SidesFail rule (get_or ps k d ∷ drop (k + 1) ps) (seens z)) least) there1 kept1 in
    rw (found) (kept_more (SidesFail rule ps (seens items)) (IsFault (rule (get_or ps k d) item.pos x)) (SidesFail rule (drop (k + 1) ps) (seens (drop (k + 1) items))) least _ kept2 (leaf (rule (get_or ps k d) item.pos x)))

pub fits_singles : (ps : List Wanted) (os : List Seen) → option_map (λ (k : Many). k.at) (many os) ≡ None → (length os == length ps) ≡ true → fits ps os ≡ values_agree ps os
fits_singles ps os none long = by (many os) none
  where
    by : (m : Option Many) → option_map (λ (k : Many). k.at) m ≡ None → fits_with ps os m ≡ values_agree ps os
    by None is = ap (λ b. b && values_agree ps os) long
    by (Some m) is = cc is
