-- The structs of a program can be told one after another, each after those that it holds: so they can be told at once.
use Rattle.std.proofs.Common.{◌≡◌, ◌⊎◌, inl, inr, ℕ, zero, suc, ◌<◌, ◌≤◌, ◌==◌, Bool, true, false, List, [], ◌∷◌, ◌++◌, length, get_or, Option, None, Some, All, slice_get, refl, sym, ap, subst, ◌∙◌, arith, eqb-true}
use Rattle.std.specs.Option.{option_map}
use Rattle.std.proofs.lemmas.Bool.{cases_lt}
use Rattle.std.proofs.lemmas.Option.{same_Some, slice_get-get_or, get_or_from_slice_get}
use Rattle.typed_syntax.specs.Types.{width}
use Rattle.base.specs.declared.ids.TypeId.{TypeId}
use Rattle.base.specs.declared.ids.StructId.{StructId}
use Rattle.base.specs.declared.value_type.ValueType.{ValueType}
use Rattle.base.specs.declared.value_type.ValueType.TheVariants.{Int as IntType, Bool as BoolType}
use Rattle.struct_sizes.specs.declared.forms.Base.{Base}
use Rattle.struct_sizes.specs.declared.forms.Base.TheVariants.{Int, Bool as Truth, Struct}
use Rattle.struct_sizes.specs.Structs.{Prefixed, Fields, holds}
use Rattle.struct_sizes.specs.Words.{sum_words}
use Rattle.struct_sizes.proofs.Ways.{holds_of_all}
use Rattle.struct_sizes.proofs.Sums.{holds_length}
use Rattle.components.specs.Graph.{Among, row, Leads}
use Rattle.typed.specs.Tables.{Table, Holds, fields_of, with_all}
use Rattle.typed.specs.Trees.{words_of}
use Rattle.typed.specs.Formed.{IsFormed, TreesAreMade, HasWords, AreStructWords, sum_of}
use Rattle.typed.proofs.Nested.{IsDeep, deep, made_by}
use Rattle.typed.proofs.Entered.{words_there}
use Rattle.typed.proofs.Telling.{IsUntold as IsUntoldAt, told_now, others_stay, telling_grows}
use Rattle.typed.proofs.AllTold.{Order, told_in, after_all, IsInOrder, all_deep, all_grow, AreKnown, all_known, none_known, WordsWithin, same_count, TypesWithin, ready}
use Rattle.type_tables.specs.Types.{AreNumbersOf, IsToldAs}
use Rattle.type_tables.specs.Fits.{IsUntold, AreToldAs}
use Rattle.type_tables.proofs.Standing.{part_stays, numbers_stay, IsInSome}
use Rattle.type_tables.proofs.Counting.{IsSized, StandsTold, part_words, base_known, fields_are}

-- ---- one struct more

pub after_more : (T : Table) (order : Order) (x : StructId × List TypeId) → after_all T (order ++ x ∷ []) ≡ told_in (after_all T order) x
after_more T [] x = refl
after_more T (y ∷ order) x = after_more (told_in T y) order x

pub order_more : (T : Table) (order : Order) (x : StructId × List TypeId) → IsInOrder T order → IsUntoldAt (after_all T order) x.0.0 → All (HasWords (after_all T order)) x.1 → IsInOrder T (order ++ x ∷ [])
order_more T [] x o untold have = (untold, have, tt)
order_more T (y ∷ order) x o untold have = (o.0, o.1, order_more (told_in T y) order x o.2 untold have)

pub known_more : (T : Table) (words : List (Option ℕ)) (order : Order) (x : StructId × List TypeId) → AreKnown T words order → get_or words x.0.0 None ≡ Some (sum_of (after_all T order) x.1) → AreKnown T words (order ++ x ∷ [])
known_more T words [] x known is = (is, tt)
known_more T words (y ∷ order) x known is = (known.0, known_more (told_in T y) words order x known.1 is)

-- ---- lists

pub some_within : {A : Type 0} (xs : List (Option A)) (k : ℕ) (x : A) → get_or xs k None ≡ Some x → k < length xs
some_within [] k x e = absurd cc e
some_within (y ∷ xs) zero x e = omega arith
some_within (y ∷ xs) (suc k) x e = let l = some_within xs k x e in omega (arith, l)

pub told_at : (T : Table) (ss : List (Option Fields)) (xs : List (Option (List TypeId))) → AreToldAs T ss xs → (k : ℕ) → IsToldAs T (get_or ss k None) (get_or xs k None)
told_at T [] [] h k = tt
told_at T [] (x ∷ xs) h k = absurd h
told_at T (s ∷ ss) [] h k = absurd h
told_at T (s ∷ ss) (x ∷ xs) h zero = h.0
told_at T (s ∷ ss) (x ∷ xs) h (suc k) = told_at T ss xs h.1 k

pub told_length : (T : Table) (ss : List (Option Fields)) (xs : List (Option (List TypeId))) → AreToldAs T ss xs → length xs ≡ length ss
told_length T [] [] h = refl
told_length T [] (x ∷ xs) h = absurd h
told_length T (s ∷ ss) [] h = absurd h
told_length T (s ∷ ss) (x ∷ xs) h = ap suc (told_length T ss xs h.1)

told_some : (T : Table) (fs : Fields) (x : Option (List TypeId)) → IsToldAs T (Some fs) x → (es : List TypeId) × (x ≡ Some es) × AreNumbersOf T fs es
told_some T fs None h = absurd h
told_some T fs (Some es) h = (es, refl, h)

told_none : (T : Table) (x : Option (List TypeId)) → IsToldAs T None x → x ≡ None
told_none T None h = refl
told_none T (Some es) h = absurd h

-- ---- a program

-- structs of which none that has fields holds itself, and each holds such as have fields, with their words
pub record IsProgram (ss : List Fields) (structs : List (Option Fields)) (words : List (Option ℕ)) : Type 0 where
  pub size : length structs ≡ length ss
  pub free : (k : ℕ) (fs : Fields) → get_or structs k None ≡ Some fs → Leads (holds ss) k k → ⊥
  pub held : (k : ℕ) (fs : Fields) → get_or structs k None ≡ Some fs → (i : ℕ) (t : Prefixed) (id : StructId) → slice_get fs i ≡ Some (Some t) → t.base ≡ Struct id
      → Among id.0 (row (holds ss) k) × (gs : Fields) × (get_or structs id.0 None ≡ Some gs)
  pub fields : (k : ℕ) (fs : Fields) → get_or structs k None ≡ Some fs → (i : ℕ) (f : Option Prefixed) → slice_get fs i ≡ Some f → IsSized words f
  pub sums : (k : ℕ) (fs : Fields) → get_or structs k None ≡ Some fs → get_or words k None ≡ sum_words words fs
  pub within : WordsWithin words

module _ (ss : List Fields) (structs : List (Option Fields)) (words : List (Option ℕ)) (p : IsProgram ss structs words) (T : Table) (formed : IsFormed T) (none : IsUntold T) (size : length T.structs ≡ length structs)
    (ids : List (Option (List TypeId))) (told : AreToldAs T structs ids) where
  -- some structs are told, in an order
  record IsState (order : Order) : Type 0 where
    in_order : IsInOrder T order
    known : AreKnown T words order
    fits : (s : ℕ) → (fields_of (after_all T order) s ≡ None) ⊎ (fields_of (after_all T order) s ≡ get_or ids s None)

  abbrev StaysTold : Order → Order → Type 0
  StaysTold order next = (s : ℕ) (es : List TypeId) → fields_of (after_all T order) s ≡ Some es → fields_of (after_all T next) s ≡ Some es

  abbrev IsTold : Order → ℕ → Type 0
  IsTold order k = (es : List TypeId) × (fields_of (after_all T order) k ≡ Some es)

  abbrev Next : Order → (Order → Type 0) → Type 0
  Next order P = (next : Order) × IsState next × StaysTold order next × P next

  -- a struct can be told after any others
  abbrev CanBeTold : ℕ → Type 0
  CanBeTold k = (order : Order) → IsState order → Next order (λ next. (fs : Fields) → get_or structs k None ≡ Some fs → IsTold next k)

  abbrev AreTold : List ℕ → Order → Type 0
  AreTold js next = (k : ℕ) (fs : Fields) → Among k js → get_or structs k None ≡ Some fs → IsTold next k

  refused : (k : ℕ) → get_or structs k None ≡ None → CanBeTold k
  refused k e order state = (order, state, λ s es h. h, λ fs at. absurd cc (sym e ∙ at))

  all_told : (js : List ℕ) → ((j : ℕ) → Among j js → CanBeTold j) → (order : Order) → IsState order → Next order (AreTold js)
  all_told [] can order state = (order, state, λ s es h. h, λ k fs a at. absurd a)
  all_told (j ∷ js) can order state =
      let one = can j (inl refl) order state in
      let rest = all_told js (λ k a. can k (inr a)) one.0 one.1 in (
        rest.0,
        rest.1,
        λ s es h. rest.2 s es (one.2 s es h),
        λ k fs a at. elim a [
          | inl e ↦ (let x = one.3 fs (subst (λ m. get_or structs m None ≡ Some fs) e at) in (x.0, rest.2 k x.0 (subst (λ m. fields_of (after_all T one.0) m ≡ Some x.0) (sym e) x.1)))
          | inr later ↦ rest.3 k fs later at
        ],
      )

  -- a struct whose turn it is
  module _ (k : ℕ) (fs : Fields) (at : get_or structs k None ≡ Some fs) (order : Order) (state : IsState order) (ready_fields : AreTold (row (holds ss) k) order) (yet : fields_of (after_all T order) k ≡ None) where
    abbrev U : Table
    U = after_all T order

    nests : IsDeep U
    nests = all_deep T (deep T formed) order state.in_order

    numbers : (es : List TypeId) × (get_or ids k None ≡ Some es) × AreNumbersOf T fs es
    numbers = told_some T fs (get_or ids k None) (subst (λ s. IsToldAs T s (get_or ids k None)) at (told_at T structs ids told k))

    abbrev entry : StructId × List TypeId
    entry = (record { 0 = k }, numbers.0)

    untold : IsUntoldAt U k
    untold =
        let l = some_within structs k fs at in
        let c = same_count T order in
        slice_get-get_or U.structs k None (omega (arith, l, c, size)) ∙ ap (λ o. Some o) yet

    base_told : (i : ℕ) (t : Prefixed) → slice_get fs i ≡ Some (Some t) → StandsTold U t.base
    base_told i t here = by t.base refl
      where
        by : (b : Base) → t.base ≡ b → StandsTold U b
        by Int e = tt
        by Truth e = tt
        by (Struct id) e = let h = p.held k fs at i t id here e in ready_fields id.0 h.1 h.0 h.2

    counted : All (HasWords U) numbers.0 × (sum_words words fs ≡ Some (sum_of U numbers.0))
    counted =
        let grows = all_grow T (deep T formed) order state.in_order in
        let are = all_known T (deep T formed) words (none_known T words none) order state.in_order state.known in
        fields_are U (made_by U nests) words are fs numbers.0 (p.fields k fs at) base_told (numbers_stay T U grows.types fs numbers.0 numbers.2)

    abbrev next : Order
    next = order ++ entry ∷ []

    is_next : after_all T next ≡ told_in U entry
    is_next = after_more T order entry

    here_told : fields_of (after_all T next) k ≡ Some numbers.0
    here_told = ap (λ V. fields_of V k) is_next ∙ told_now U nests k untold numbers.0 counted.0

    next_fits : (s : ℕ) → (fields_of (after_all T next) s ≡ None) ⊎ (fields_of (after_all T next) s ≡ get_or ids s None)
    next_fits s = by (s == k) refl
      where
        by : (b : Bool) → (s == k) ≡ b → (fields_of (after_all T next) s ≡ None) ⊎ (fields_of (after_all T next) s ≡ get_or ids s None)
        by true e =
            inr (subst (λ m. fields_of (after_all T next) m ≡ get_or ids m None) (sym (eqb-true s k e)) (here_told ∙ sym numbers.1))
        by false e =
            let same = ap (λ V. fields_of V s) is_next ∙ others_stay U nests k untold numbers.0 counted.0 s e in
            elim (state.fits s) [ inl a ↦ inl (same ∙ a) | inr a ↦ inr (same ∙ a) ]

    next_state : IsState next
    next_state = record {
      in_order = order_more T order entry state.in_order untold counted.0;
      known = known_more T words order entry state.known (p.sums k fs at ∙ counted.1);
      fits = next_fits;
    }

    next_stays : StaysTold order next
    next_stays s es h = ap (λ V. fields_of V s) is_next ∙ (telling_grows U nests k untold numbers.0 counted.0).fields s es h

    turn : Next order (λ n. IsTold n k)
    turn = (next, next_state, next_stays, (numbers.0, here_told))

  can_step : (k : ℕ) → k < length (holds ss) → ((Leads (holds ss) k k → ⊥) → (j : ℕ) → Among j (row (holds ss) k) → j < length (holds ss) → CanBeTold j) → CanBeTold k
  can_step k small below = by (get_or structs k None) refl
    where
      held : (fs : Fields) → get_or structs k None ≡ Some fs → (j : ℕ) → Among j (row (holds ss) k) → CanBeTold j
      held fs at j a = elim (cases_lt j (length (holds ss))) [
        | inl l ↦ below (p.free k fs at) j a l
        | inr past ↦ outside j past (get_or structs j None) refl
      ]
        where
          outside : (j : ℕ) → length (holds ss) ≤ j → (o : Option Fields) → get_or structs j None ≡ o → CanBeTold j
          outside j past None e = refused j e
          outside j past (Some gs) e = let l = some_within structs j gs e in let m = holds_length ss in let n = p.size in absurd (omega (arith, l, m, n, past))

      after : (fs : Fields) → get_or structs k None ≡ Some fs → (order : Order) → (r : Next order (AreTold (row (holds ss) k))) → (o : Option (List TypeId)) → fields_of (after_all T r.0) k ≡ o → Next order (λ next. (gs : Fields) → get_or structs k None ≡ Some gs → IsTold next k)
      after fs at order r (Some es) e = (r.0, r.1, r.2, λ gs there. (es, e))
      after fs at order r None e =
          let t = turn k fs at r.0 r.1 r.3 e in
          (t.0, t.1, λ s es h. t.2 s es (r.2 s es h), λ gs there. t.3)

      by : (o : Option Fields) → get_or structs k None ≡ o → CanBeTold k
      by None e = refused k e
      by (Some fs) e = λ order state.
          let r = all_told (row (holds ss) k) (held fs e) order state in
          after fs e order r (fields_of (after_all T r.0) k) refl

  can : (k : ℕ) → CanBeTold k
  can k = elim (cases_lt k (length (holds ss))) [
    | inl l ↦ holds_of_all (holds ss) CanBeTold can_step k l
    | inr past ↦ outside (get_or structs k None) refl past
  ]
    where
      outside : (o : Option Fields) → get_or structs k None ≡ o → length (holds ss) ≤ k → CanBeTold k
      outside None e past = refused k e
      outside (Some gs) e past = let l = some_within structs k gs e in let m = holds_length ss in let n = p.size in absurd (omega (arith, l, m, n, past))

  begin : IsState []
  begin = record { in_order = tt; known = tt; fits = λ s. inl (none s) }

  upto : (n : ℕ) → Next [] (λ next. (k : ℕ) (fs : Fields) → k < n → get_or structs k None ≡ Some fs → IsTold next k)
  upto zero = ([], begin, λ s es h. h, λ k fs l at. absurd (omega (arith, l)))
  upto (suc n) =
      let before = upto n in
      let one = can n before.0 before.1 in (
        one.0,
        one.1,
        λ s es h. one.2 s es (before.2 s es h),
        λ k fs l at. elim (cases_lt k n) [
          | inl less ↦ (let x = before.3 k fs less at in (x.0, one.2 k x.0 x.1))
          | inr more ↦ (
              let e : n ≡ k = omega (arith, l, more) in
              let x = one.3 fs (subst (λ m. get_or structs m None ≡ Some fs) (sym e) at) in
              (x.0, subst (λ m. fields_of (after_all T one.0) m ≡ Some x.0) e x.1)
              )
        ],
      )

  -- ---- all of them

  whole : Next [] (λ next. (k : ℕ) (fs : Fields) → k < length structs → get_or structs k None ≡ Some fs → IsTold next k)
  whole = upto (length structs)

  same_fields : (s : ℕ) → get_or ids s None ≡ fields_of (after_all T whole.0) s
  same_fields s = elim (whole.1.fits s) [
    | inr e ↦ sym e
    | inl e ↦ missing e (get_or structs s None) refl
  ]
    where
      missing : fields_of (after_all T whole.0) s ≡ None → (o : Option Fields) → get_or structs s None ≡ o → get_or ids s None ≡ fields_of (after_all T whole.0) s
      missing e None q = told_none T (get_or ids s None) (subst (λ o. IsToldAs T o (get_or ids s None)) q (told_at T structs ids told s)) ∙ sym e
      missing e (Some fs) q = let x = whole.3 s fs (some_within structs s fs q) q in absurd cc (sym e ∙ x.1)

  abbrev W : Table
  W = with_all T ids

  -- a type that stands is basic, or a part of a field's
  abbrev pub IsKnownType : Table → Type 0
  IsKnownType T = (i : ℕ) (u : ValueType) → Holds T i u → (u ≡ IntType) ⊎ ((u ≡ BoolType) ⊎ IsInSome T structs i)

  pub told_now_at : (k : ℕ) (fs : Fields) → get_or structs k None ≡ Some fs → (es : List TypeId) × (fields_of W k ≡ Some es)
  told_now_at k fs at =
      let x = told_some T fs (get_or ids k None) (subst (λ s. IsToldAs T s (get_or ids k None)) at (told_at T structs ids told k)) in
      (x.0, x.1)

  base_now : (k : ℕ) (fs : Fields) → get_or structs k None ≡ Some fs → (i : ℕ) (t : Prefixed) → slice_get fs i ≡ Some (Some t) → StandsTold W t.base
  base_now k fs at i t there = by t.base refl
    where
      by : (b : Base) → t.base ≡ b → StandsTold W b
      by Int e = tt
      by Truth e = tt
      by (Struct id) e = let h = p.held k fs at i t id there e in told_now_at id.0 h.1 h.2

  types_within : IsKnownType T → TreesAreMade W → AreStructWords W words → TypesWithin T W
  types_within old trees are i u w h e = elim (old i u h) [
    | inl is ↦ (let one = same_Some 1 w (sym (ap (option_map width) (trees IntType)) ∙ ap (words_of W) (sym is) ∙ e) in omega (arith, one))
    | inr rest ↦ elim rest [
      | inl is ↦ (let one = same_Some 1 w (sym (ap (option_map width) (trees BoolType)) ∙ ap (words_of W) (sym is) ∙ e) in omega (arith, one))
      | inr q ↦ (
          let k = q.0 in
          let fs = q.1 in
          let t = q.3.1 in
          let here = get_or_from_slice_get structs k (Some fs) None q.2 in
          let sized : IsSized words (Some t) = p.fields k fs here q.3.0 (Some t) q.3.2 in
          let base = base_known W trees words are t.base (base_now k fs here q.3.0 t q.3.2) sized.0 sized.1 in
          let v = part_words W trees t.prefixes t.base i sized.0 base sized.2.1 sized.3 (part_stays T W (λ m x r. r) t.prefixes t.base i q.3.3) in
          let is = same_Some v.0 w (sym v.1 ∙ words_there W i u h ∙ e) in
          let few = v.2 in
          omega (arith, is, few)
          )
    ]
  ]

  -- the structs can be told at once, and each has the words that it should have
  pub can_tell : IsKnownType T → IsFormed W × AreStructWords W words
  can_tell old =
      let r = ready T formed none words p.within whole.0 whole.1.in_order whole.1.known ids (told_length T structs ids told ∙ sym size) same_fields (types_within old) in
      (r.0, r.1)
