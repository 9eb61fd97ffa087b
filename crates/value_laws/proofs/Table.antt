-- The types of a table.
use Rattle.std.proofs.Common.{◌≡◌, ℕ, zero, suc, ◌+◌, ◌<◌, List, [], ◌∷◌, ◌++◌, length, Some, refl, sym, ap, ap₂, ◌∙◌, subst, arith, append_assoc, append-nil, length-append}
use Rattle.std.specs.Prelude.{slice_get}
use Rattle.std.proofs.lemmas.List.{get_or_append_left}
use Rattle.typed_syntax.specs.Types.{TypeTree, ints, struct_of, array_of, more_types, TypeEntry, int_entry, bool_entry, struct_entry, array_entry, pointer_entry, slice_entry, numbered, all_numbered, entry_type, types_after, types_of, AllBelow, PartsBefore}

-- what is known stays
after_grows : (known : List TypeTree) (es : List TypeEntry) → (more : List TypeTree) × (types_after known es ≡ known ++ more)
after_grows known [] = ([], sym (append-nil known))
after_grows known (e ∷ es) =
    let r = after_grows (known ++ entry_type known e ∷ []) es in
    (entry_type known e ∷ r.0, r.1 ∙ append_assoc known (entry_type known e ∷ []) r.0)

numbered_stays : (known more : List TypeTree) (t : ℕ) → t < length known → numbered (known ++ more) t ≡ numbered known t
numbered_stays known more t l = get_or_append_left known more ints t l

all_numbered_stay : (known more : List TypeTree) (ts : List ℕ) → AllBelow (length known) ts → all_numbered (known ++ more) ts ≡ all_numbered known ts
all_numbered_stay known more [] below = refl
all_numbered_stay known more (t ∷ ts) below = ap₂ more_types (numbered_stays known more t below.0) (all_numbered_stay known more ts below.1)

entry_stays : (known more : List TypeTree) (e : TypeEntry) → PartsBefore (length known) e → entry_type (known ++ more) e ≡ entry_type known e
entry_stays known more int_entry before = refl
entry_stays known more bool_entry before = refl
entry_stays known more (struct_entry fields) before = ap struct_of (all_numbered_stay known more fields before)
entry_stays known more (array_entry n t) before = ap (array_of n) (numbered_stays known more t before)
entry_stays known more (pointer_entry t) before = refl
entry_stays known more (slice_entry t) before = refl

get_first : (xs ys : List TypeTree) (x : TypeTree) → slice_get (xs ++ x ∷ ys) (length xs) ≡ Some x
get_first [] ys x = refl
get_first (y ∷ xs) ys x = get_first xs ys x

stands_after : (known : List TypeTree) (es : List TypeEntry) (k : ℕ) (e : TypeEntry) → slice_get es k ≡ Some e → PartsBefore (length known + k) e → slice_get (types_after known es) (length known + k) ≡ Some (entry_type (types_after known es) e)
stands_after known [] k e is before = absurd cc is
stands_after known (f ∷ es) zero e is before =
    let g : f ≡ e = cc in
    let here : length known + 0 ≡ length known = omega arith in
    let x = entry_type known f in
    let r = after_grows (known ++ x ∷ []) es in
    let all : types_after (known ++ x ∷ []) es ≡ known ++ x ∷ r.0 = r.1 ∙ append_assoc known (x ∷ []) r.0 in
    let same : entry_type (types_after (known ++ x ∷ []) es) e ≡ x =
    ap (λ l. entry_type l e) all ∙ entry_stays known (x ∷ r.0) e (subst (λ n. PartsBefore n e) here before) ∙ ap (entry_type known) (sym g)
    in
    ap (slice_get (types_after (known ++ x ∷ []) es)) here ∙ ap (λ l. slice_get l (length known)) all ∙ get_first known r.0 x ∙ ap (λ y. Some y) (sym same)
stands_after known (f ∷ es) (suc k) e is before =
    let x = entry_type known f in
    let there : length (known ++ x ∷ []) + k ≡ length known + suc k = omega (arith, length-append known (x ∷ [])) in
    subst (λ n. slice_get (types_after (known ++ x ∷ []) es) n ≡ Some (entry_type (types_after (known ++ x ∷ []) es) e)) there
    (stands_after (known ++ x ∷ []) es k e is (subst (λ n. PartsBefore n e) (sym there) before))

pub table_gives : (es : List TypeEntry) (t : ℕ) (e : TypeEntry) → slice_get es t ≡ Some e → PartsBefore t e → slice_get (types_of es) t ≡ Some (entry_type (types_of es) e)
table_gives es t e is before =
    let z : t ≡ 0 + t = omega arith in
    subst (λ n. slice_get (types_of es) n ≡ Some (entry_type (types_of es) e)) (sym z) (stands_after [] es t e is (subst (λ n. PartsBefore n e) z before))
