-- The table has what stands in the text.
use Rattle.std.proofs.Common.{◌≡◌, ℕ, ◌*◌, ◌^◌, ◌≤◌, Bool, true, false, List, length, Option, Some, None, is_some, if◌then◌else◌, refl, sym, ap, ap₂, ◌∙◌, subst, arith, nat_lt}
use Rattle.std.specs.Prelude.{◌==◌, option_and_then}
use Rattle.std.specs.Option.{unwrap_or}
use Rattle.base.specs.declared.pos.Pos.{Pos}
use Rattle.base.specs.declared.value_type.ValueType.{ValueType}
use Rattle.base.specs.declared.value_type.ValueType.TheVariants.{Array}
use Rattle.syntax.specs.Expressions.{Ex as TreeEx, name, paren, array_type, spelled}
use Rattle.syntax.specs.Declarations.{Declaration}
use Rattle.type_faults.proofs.Options.{none_some, and_then_some, map_some}
use Rattle.typed.specs.Tables.{Table, number_of}
use Rattle.typed.specs.Words.{refusal_by}
use Rattle.typed.specs.Formed.{IsFormed, words_at, refusal}
use Rattle.typed.specs.declared.fault.TableFault.TheVariants.{Empty, TooLarge as TooMany}
use Rattle.type_faults.specs.declared.fault.Fault.{Fault}
use Rattle.type_faults.specs.declared.fault.FaultKind.{FaultKind}
use Rattle.type_faults.specs.declared.fault.FaultKind.TheVariants.{ZeroSize, TooLarge, OutOfProfile}
use Rattle.type_faults.specs.Faults.{fault}
use Rattle.names.specs.declared.scope.Declared.{Declared}
use Rattle.names.specs.declared.scope.Declared.TheVariants as declared
use Rattle.names.specs.Scope.{Scope, declaration}
use Rattle.names.specs.Types.{declared_type}
use Rattle.names.specs.Types.{array_type as array_in}
use Rattle.operand_parts.specs.ArrayTypes.{element_words, size_kind, array_fault, array_with}
use Rattle.expression_types.specs.Typing.{stated_type}
use Rattle.entered_types.specs.Entered.{with_array, length_in, entered, stated_after, entered_all}
use Rattle.array_laws.specs.Occurs.{StandsInAll}
use Rattle.array_laws.specs.Laws.{NamedHaveNumbers, IsReady, IsFine, NoneMissing, NoneUnknown, Within, NoneLeftOut, LengthsStay, StaysFormed, TreesStay}
use Rattle.array_laws.proofs.Lengths.{length_kept, length_same, lengths_same}
use Rattle.array_laws.proofs.Growth.{Leads, same_scope, onwards, array_leads}
use Rattle.array_laws.proofs.Walks.{Walk, leads_ex, leads_all, walk_all}
use Rattle.array_laws.proofs.Known.{Known, known_by, Has, array_known, array_is, array_there, stated_known}

module _ (text : List ℕ) (r h : Scope) (formed : IsFormed r.types) (fits : length h.types.types ≤ 2 ^ 32)
    (named : NamedHaveNumbers r) (len e : TreeEx) (n : ℕ) (u : ValueType) (i : ℕ) (known : IsFine text h len e n u i) where
  -- where the array type has entered
  here : (s : Scope) (at : Pos) → Leads r s → Leads (entered text s (array_type at len e)) h → Has h.types n i
  here s at before behind =
      let a = entered text s len in
      let m = entered text a e in
      let o = length_in text a len in
      let q = stated_after text a e in
      let to_a = onwards r s a before (leads_ex text s len) in
      let to_m = onwards r a m to_a (leads_ex text a e) in
      let from_m = onwards m (record m { types = with_array m.types o q }) h (array_leads m o q) behind in
      let inner = stated_known text r h formed fits named a e to_a from_m u known.known_type in
      let len_is : o ≡ Some n = length_same text r h a (onwards r m h to_m from_m).others to_a.others len n known.known_length in
      let is : with_array m.types o q ≡ with_array m.types (Some n) (Some u) = ap₂ (with_array m.types) len_is inner.0 in
      array_there text r h formed fits named m to_m n u inner.1
      (subst (λ (T : Table). Leads (record m { types = T }) h) is behind) i known.number known.fine

module _ (text : List ℕ) (r : Scope) (ds : List Declaration) (ready : IsReady text r ds) (len e : TreeEx)
    (stands : StandsInAll len e ds) (n : ℕ) (u : ValueType) (i : ℕ) where
  abbrev all : Scope
  all = entered_all text r ds

  module _ (known : IsFine text all len e n u i) where
    walk : Walk r all (Has all.types n i) r all (StandsInAll len e ds)
    walk =
        walk_all text r all len e (Has all.types n i)
        (here text r all ready.formed ready.fits ready.named len e n u i known) r ds

    has : Has all.types n i
    has = walk.found stands (same_scope r) (same_scope all)

    is_there : (k : ℕ) × (number_of all.types (Array n (record { 0 = i })) ≡ Some k)
    is_there = (has.number, has.is_number)

    is_type : array_in all.types n u ≡ Some (Array n (record { 0 = i }))
    is_type =
        let formed = walk.leads.grown.formed ready.formed ready.fits in
        array_is all.types n i u known.number
        (array_known all.types formed n i has.words has.number has.is_words has.is_number)

-- ---- the rule

-- left out of the profile is what has the right size, and isn't there
kinds : (z l b : Bool)
    → (if z then Some ZeroSize else (if l then Some TooLarge else (if b then None else Some OutOfProfile))) ≡ Some OutOfProfile
    → (z ≡ false) × (l ≡ false) × (b ≡ false)
kinds true l b h = cc h
kinds false true b h = cc h
kinds false false true h = cc h
kinds false false false h = (refl, refl, refl)

right_size : (p : ℕ) → (p == 0) ≡ false → nat_lt 65535 p ≡ false → refusal_by p ≡ None
right_size p z l = ap₂ (λ (a b : Bool). if a then Some Empty else if b then Some TooMany else None) z l

no_words : (n : ℕ) → (n * 0 == 0) ≡ false → ⊥
no_words n h = let z : n * 0 ≡ 0 = omega arith in let q : true ≡ false = ap (λ (p : ℕ). p == 0) (sym z) ∙ h in cc q

module _ (T : Table) (n : ℕ) (u : ValueType) (out : size_kind T n u ≡ Some OutOfProfile) where
  abbrev product : ℕ
  product = n * element_words T u

  has_kind : (product == 0 ≡ false) × (nat_lt 65535 product ≡ false) × (is_some (array_in T n u) ≡ false)
  has_kind = kinds (product == 0) (nat_lt 65535 product) (is_some (array_in T n u)) out

  elements_known : Known T u
  elements_known = by (option_and_then (words_at T) (number_of T u)) refl
    where
      by : (o : Option ℕ) → option_and_then (words_at T) (number_of T u) ≡ o → Known T u
      by None is = absurd (no_words n (sym (ap (λ (w : Option ℕ). n * unwrap_or w 0 == 0) is) ∙ has_kind.0))
      by (Some w) is = known_by T u (ap is_some is)

  not_refused : refusal T (Array n (record { 0 = elements_known.number })) ≡ None
  not_refused =
      let k = elements_known in
      let words : element_words T u ≡ k.words =
      ap (λ (o : Option ℕ). unwrap_or (option_and_then (words_at T) o) 0) k.is_number
      ∙ ap (λ (o : Option ℕ). unwrap_or o 0) k.is_words in
      ap (λ (o : Option ℕ). refusal_by (n * unwrap_or o 1)) k.is_words ∙ ap (λ (w : ℕ). refusal_by (n * w)) (sym words)
      ∙ right_size product has_kind.0 has_kind.1

-- what is stated within a scope is stated in it
module _ (text : List ℕ) (s h : Scope) (within : Within s h) where
  stated_name : (word : List ℕ) (d : Option Declared) → declaration s word ≡ d → (u : ValueType)
      → declared_type s.types d ≡ Some u → declared_type h.types (declaration h word) ≡ Some u
  stated_name word (Some (declared.«Type» t)) is u q =
      ap (declared_type h.types) (within.named word t is)
      ∙ ap (λ (T : Table). declared_type T (Some (declared.«Type» t))) (sym within.same_types) ∙ q
  stated_name word d is u q = absurd (none_some q)

  stated_within : (x : TreeEx) (u : ValueType) → stated_type text s x ≡ Some u → stated_type text h x ≡ Some u
  unfolding length_in
  stated_within (name n) u q = stated_name (spelled text n) (declaration s (spelled text n)) refl u q
  stated_within (paren at x) u q = stated_within x u q
  stated_within (array_type at l x) u q =
      let sized = and_then_some (λ n. option_and_then (array_in s.types n) (stated_type text s x)) (length_in text s l) u q in
      let stated = and_then_some (array_in s.types sized.0) (stated_type text s x) u sized.2 in
      ap₂ (array_with h.types) (length_kept text s h within.constants l sized.0 sized.1) (stated_within x stated.0 stated.1)
      ∙ ap (λ (T : Table). array_in T sized.0 stated.0) (sym within.same_types) ∙ stated.2
  stated_within x u q = absurd (none_some q)

module _ (text : List ℕ) (r : Scope) (ds : List Declaration) (ready : IsReady text r ds) (len e : TreeEx)
    (stands : StandsInAll len e ds) (s : Scope) (within : Within s (entered_all text r ds)) (bracket at : Pos) where
  abbrev h : Scope
  h = entered_all text r ds

  no_kind : (n : ℕ) (u : ValueType) → length_in text h len ≡ Some n → stated_type text h e ≡ Some u
      → size_kind h.types n u ≡ Some OutOfProfile → ⊥
  no_kind n u sized stated out =
      let k = elements_known h.types n u out in
      let is = is_type text r ds ready len e stands n u k.number
      (record { known_length = sized; known_type = stated; number = k.is_number; fine = not_refused h.types n u out }) in
      let q : true ≡ false = sym (ap is_some is) ∙ (has_kind h.types n u out).2 in
      cc q

  same_kind : (k : FaultKind) → fault k bracket ≡ fault OutOfProfile at → k ≡ OutOfProfile
  same_kind k is = ap (λ (f : Fault). f.kind) is

  no_fault : (o : Option ℕ) (t : Option ValueType) → length_in text s len ≡ o → stated_type text s e ≡ t
      → array_fault s.types bracket o t ≡ Some (fault OutOfProfile at) → ⊥
  no_fault None t sized stated out = none_some out
  no_fault (Some n) None sized stated out = none_some out
  no_fault (Some n) (Some u) sized stated out =
      let k = map_some (λ kind. fault kind bracket) (size_kind s.types n u) (fault OutOfProfile at) out in
      no_kind n u (length_kept text s h within.constants len n sized) (stated_within text s h within e u stated)
      (ap (λ (T : Table). size_kind T n u) (sym within.same_types) ∙ k.1 ∙ ap Some (same_kind k.0 k.2))

-- ---- the laws

pub none_missing : NoneMissing
none_missing text r ds ready len e stands n u i known = is_there text r ds ready len e stands n u i known

pub none_unknown : NoneUnknown
none_unknown text r ds ready len e stands n u i known = is_type text r ds ready len e stands n u i known

pub none_left_out : NoneLeftOut
none_left_out text r ds ready len e stands s within bracket at out =
    no_fault text r ds ready len e stands s within bracket at (length_in text s len) (stated_type text s e) refl refl out

pub lengths_stay : LengthsStay
lengths_stay text r ds len = lengths_same text r (entered_all text r ds) (leads_all text r ds).others len

pub stays_formed : StaysFormed
stays_formed text r ds formed fits = (leads_all text r ds).grown.formed formed fits

pub trees_stay : TreesStay
trees_stay text r ds formed fits i t h = (leads_all text r ds).grown.trees formed fits i t h

-- a scope is within itself
pub within_itself : (s : Scope) → Within s s
within_itself s = record { same_types = refl; named = λ word t h. h; constants = λ word f h. h }
