-- A table whose structs are told one after another, each after those that it holds.
use Rattle.std.proofs.Common.{◌≡◌, ℕ, suc, ◌+◌, ◌≤◌, ◌==◌, Bool, true, false, List, [], ◌∷◌, length, get_or, Option, None, Some, All, refl, sym, ap, ap₂, subst, ◌∙◌, arith, eqb-true}
use Rattle.std.specs.Option.{unwrap_or, option_map}
use Rattle.std.proofs.lemmas.Bool.{eqb-false}
use Rattle.std.proofs.lemmas.List.{get_or-set_other, length-set}
use Rattle.std.proofs.lemmas.List.Elements.{All-cons, All-nil}
use Rattle.std.proofs.lemmas.List.Sums.{sum_by-cons}
use Rattle.typed_syntax.specs.Types.{TypeTree, width}
use Rattle.base.specs.declared.ids.TypeId.{TypeId}
use Rattle.base.specs.declared.ids.StructId.{StructId}
use Rattle.base.specs.declared.value_type.ValueType.{ValueType}
use Rattle.base.specs.declared.value_type.ValueType.TheVariants.{Struct}
use Rattle.typed.specs.Tables.{Table, Holds, fields_of, with_fields, with_all}
use Rattle.typed.specs.Words.{IsInLimits}
use Rattle.typed.specs.Trees.{tree_of, words_of}
use Rattle.typed.specs.Formed.{IsFormed, TreesAreMade, KeepsTrees, HasWords, AreStructWords, tree_at, words_at, sum_of}
use Rattle.typed.proofs.Growing.{Grows, same_table, part_grows}
use Rattle.typed.proofs.Nested.{IsDeep, deep, made_by}
use Rattle.typed.proofs.Passing.{not_over_by}
use Rattle.typed.proofs.Telling.{IsUntold, some_is, telling_grows, telling_keeps, deep_now, told_now, others_stay, told_words, other_words, formed_told}

-- structs with the types of their fields, in the order in which they're told
abbrev pub Order : Type 0
Order = List (StructId × List TypeId)

abbrev pub told_in : Table → StructId × List TypeId → Table
told_in T x = with_fields T x.0.0 x.1

abbrev pub after_all : Table → Order → Table
after_all T [] = T
after_all T (x ∷ order) = after_all (told_in T x) order

-- at its turn each is untold, and each of its fields has words
abbrev pub IsInOrder : Table → Order → Type 0
IsInOrder T [] = Unit {0}
IsInOrder T (x ∷ order) = IsUntold T x.0.0 × All (HasWords T) x.1 × IsInOrder (told_in T x) order

pub same_types : (T : Table) (order : Order) → (after_all T order).types ≡ T.types
same_types T [] = refl
same_types T (x ∷ order) = same_types (told_in T x) order

-- ---- trees

pub all_deep : (T : Table) → IsDeep T → (order : Order) → IsInOrder T order → IsDeep (after_all T order)
all_deep T nests [] o = nests
all_deep T nests (x ∷ order) o = all_deep (told_in T x) (deep_now T nests x.0.0 o.0 x.1 o.1) order o.2

pub all_grow : (T : Table) → IsDeep T → (order : Order) → IsInOrder T order → Grows T (after_all T order)
all_grow T nests [] o = same_table T
all_grow T nests (x ∷ order) o =
    let g = telling_grows T nests x.0.0 o.0 x.1 o.1 in
    let h = all_grow (told_in T x) (deep_now T nests x.0.0 o.0 x.1 o.1) order o.2 in
    record { types = λ i t p. h.types i t (g.types i t p); fields = λ s fs p. h.fields s fs (g.fields s fs p) }

pub all_keep : (T : Table) → IsDeep T → (order : Order) → IsInOrder T order → KeepsTrees T (after_all T order)
all_keep T nests [] o = λ t y p. p
all_keep T nests (x ∷ order) o =
    λ t y p. all_keep (told_in T x) (deep_now T nests x.0.0 o.0 x.1 o.1) order o.2 t y (telling_keeps T nests x.0.0 o.0 x.1 o.1 t y p)

-- ---- words

-- what has words keeps them where trees are kept
pub words_keep : (T U : Table) → KeepsTrees T U → (u : ValueType) (w : ℕ) → words_of T u ≡ Some w → words_of U u ≡ Some w
words_keep T U keep u w p = by (tree_of T u) refl p
  where
    by : (o : Option TypeTree) → tree_of T u ≡ o → option_map width o ≡ Some w → words_of U u ≡ Some w
    by None e q = absurd cc q
    by (Some x) e q = ap (option_map width) (keep u x e) ∙ q

pub words_at_stay : (T U : Table) → Grows T U → KeepsTrees T U → (e : TypeId) → HasWords T e → words_at T e.0 ≡ words_at U e.0
words_at_stay T U g keep e have =
    let x = some_is width (tree_at T e.0) have in
    ap (option_map width) (x.1 ∙ sym (part_grows T U g (tree_of T) (tree_of U) keep e.0 x.0 x.1))

pub sum_stays : (T U : Table) → Grows T U → KeepsTrees T U → (es : List TypeId) → All (HasWords T) es → sum_of T es ≡ sum_of U es
sum_stays T U g keep [] have = refl
sum_stays T U g keep (e ∷ es) have =
    sum_by-cons (λ e. unwrap_or (words_at T e.0) 0) e es
    ∙ ap₂ (λ a b. a + b) (ap (λ o. unwrap_or o 0) (words_at_stay T U g keep e (have 0 e (omega arith)))) (sum_stays T U g keep es (λ k d l. have (suc k) d (omega arith)))
    ∙ sym (sum_by-cons (λ e. unwrap_or (words_at U e.0) 0) e es)

-- the words of a struct that's told are those of its fields
abbrev pub IsSummed : Table → StructId × List TypeId → Type 0
IsSummed U x = words_of U (Struct x.0) ≡ Some (sum_of U x.1)

pub all_summed : (T : Table) → IsDeep T → (order : Order) → IsInOrder T order → All (IsSummed (after_all T order)) order
all_summed T nests [] o = All-nil (IsSummed T)
all_summed T nests (x ∷ order) o =
    let V = told_in T x in
    let U = after_all V order in
    let below = deep_now T nests x.0.0 o.0 x.1 o.1 in
    let all = x ∷ order in
    All-cons (IsSummed U) x order
    (words_keep V U (all_keep V below order o.2) (Struct x.0) (sum_of T x.1) (told_words T nests x.0.0 o.0 x.1 o.1 x.0 refl)
    ∙ ap (λ w. Some w) (sum_stays T U (all_grow T nests all o) (all_keep T nests all o) x.1 o.1))
    (all_summed V below order o.2)

-- ---- limits

-- no type of the table T has too many words in U
abbrev pub TypesWithin : Table → Table → Type 0
TypesWithin T U = (i : ℕ) (u : ValueType) (w : ℕ) → Holds T i u → words_of U u ≡ Some w → w ≤ 65535

-- one struct more, where the types and the struct are within limits later
formed_next : (T U : Table) → IsFormed T → (x : StructId × List TypeId) → IsUntold T x.0.0 → All (HasWords T) x.1 → Grows T U → KeepsTrees T U → KeepsTrees (told_in T x) U → TypesWithin T U → IsInLimits (sum_of U x.1)
    → IsFormed (told_in T x)
formed_next T U formed x untold have g keep keep_next types limits =
    formed_told T (deep T formed) x.0.0 untold x.1 have formed (subst IsInLimits (sym (sum_stays T U g keep x.1 have)) limits)
    (λ i u h. not_over_by (words_of (told_in T x) u) (λ w e. types i u w h (words_keep (told_in T x) U keep_next u w e)))

-- where all types of the table and all structs are within limits in the end, each table on the way is formed, and so is the last
pub formed_all : (T : Table) → IsFormed T → (order : Order) → IsInOrder T order → TypesWithin T (after_all T order) → All (λ x. IsInLimits (sum_of (after_all T order) x.1)) order → IsFormed (after_all T order)
formed_all T formed [] o types limits = formed
formed_all T formed (x ∷ order) o types limits =
    let V = told_in T x in
    let U = after_all V order in
    let nests = deep T formed in
    let all = x ∷ order in
    let keep_next = all_keep V (deep_now T nests x.0.0 o.0 x.1 o.1) order o.2 in
    let next : IsFormed V = formed_next T U formed x o.0 o.1 (all_grow T nests all o) (all_keep T nests all o) keep_next types (limits 0 x (omega arith)) in
    formed_all V next order o.2 types (λ k d l. limits (suc k) d (omega arith))

-- ---- words that are known from elsewhere

-- they stay right where a struct is told whose words are known
pub known_next : (T : Table) → IsDeep T → (x : StructId × List TypeId) → IsUntold T x.0.0 → All (HasWords T) x.1 → (words : List (Option ℕ)) → AreStructWords T words → get_or words x.0.0 None ≡ Some (sum_of T x.1)
    → AreStructWords (told_in T x) words
known_next T nests x untold have words are known = λ r fs f. by r fs f (r.0 == x.0.0) refl
  where
    by : (r : StructId) (fs : List TypeId) → fields_of (told_in T x) r.0 ≡ Some fs → (b : Bool) → (r.0 == x.0.0) ≡ b → get_or words r.0 None ≡ words_of (told_in T x) (Struct r)
    by r fs f true e =
        let same = eqb-true r.0 x.0.0 e in
        ap (λ n. get_or words n None) same ∙ known ∙ sym (told_words T nests x.0.0 untold x.1 have r same)
    by r fs f false e =
        are r fs (sym (others_stay T nests x.0.0 untold x.1 have r.0 e) ∙ f) ∙ sym (other_words T nests x.0.0 untold x.1 have r e)

-- the words of each struct are known at its turn
abbrev pub AreKnown : Table → List (Option ℕ) → Order → Type 0
AreKnown T words [] = Unit {0}
AreKnown T words (x ∷ order) = (get_or words x.0.0 None ≡ Some (sum_of T x.1)) × AreKnown (told_in T x) words order

pub all_known : (T : Table) → IsDeep T → (words : List (Option ℕ)) → AreStructWords T words → (order : Order) → IsInOrder T order → AreKnown T words order → AreStructWords (after_all T order) words
all_known T nests words are [] o known = are
all_known T nests words are (x ∷ order) o known =
    all_known (told_in T x) (deep_now T nests x.0.0 o.0 x.1 o.1) words (known_next T nests x o.0 o.1 words are known.0) order o.2 known.1

-- a table with no struct told
pub none_known : (T : Table) (words : List (Option ℕ)) → ((s : ℕ) → fields_of T s ≡ None) → AreStructWords T words
none_known T words none s fields f = absurd cc (sym (none s.0) ∙ f)

-- all words that are known are within limits
abbrev pub WordsWithin : List (Option ℕ) → Type 0
WordsWithin words = (s w : ℕ) → get_or words s None ≡ Some w → IsInLimits w

pub sums_within : (T : Table) → IsDeep T → (words : List (Option ℕ)) → WordsWithin words → (order : Order) → IsInOrder T order → AreKnown T words order → All (λ x. IsInLimits (sum_of (after_all T order) x.1)) order
sums_within T nests words within [] o known = All-nil (λ x. IsInLimits (sum_of T x.1))
sums_within T nests words within (x ∷ order) o known =
    let all = x ∷ order in
    let U = after_all T all in
    All-cons (λ x. IsInLimits (sum_of U x.1)) x order
    (subst IsInLimits (sum_stays T U (all_grow T nests all o) (all_keep T nests all o) x.1 o.1) (within x.0.0 (sum_of T x.1) known.0))
    (sums_within (told_in T x) (deep_now T nests x.0.0 o.0 x.1 o.1) words within order o.2 known.1)

pub formed_known : (T : Table) → IsFormed T → (words : List (Option ℕ)) → WordsWithin words → (order : Order) → IsInOrder T order → AreKnown T words order → TypesWithin T (after_all T order) → IsFormed (after_all T order)
formed_known T formed words within order o known types = formed_all T formed order o types (sums_within T (deep T formed) words within order o known)

-- ---- fields

-- each struct of the order is told with its fields
pub all_fields : (T : Table) → IsDeep T → (order : Order) → IsInOrder T order → All (λ x. fields_of (after_all T order) x.0.0 ≡ Some x.1) order
all_fields T nests [] o = All-nil (λ x. fields_of T x.0.0 ≡ Some x.1)
all_fields T nests (x ∷ order) o =
    let V = told_in T x in
    let below = deep_now T nests x.0.0 o.0 x.1 o.1 in
    All-cons (λ x. fields_of (after_all V order) x.0.0 ≡ Some x.1) x order ((all_grow V below order o.2).fields x.0.0 x.1 (told_now T nests x.0.0 o.0 x.1 o.1)) (all_fields V below order o.2)

-- and every other one as before
pub other_fields : (T : Table) (order : Order) (s : ℕ) → All (λ x. (s == x.0.0) ≡ false) order → fields_of (after_all T order) s ≡ fields_of T s
other_fields T [] s others = refl
other_fields T (x ∷ order) s others =
    other_fields (told_in T x) order s (λ k d l. others (suc k) d (omega arith))
    ∙ get_or-set_other T.structs x.0.0 s (Some x.1) None (eqb-false s x.0.0 (others 0 x (omega arith)))

pub same_count : (T : Table) (order : Order) → length (after_all T order).structs ≡ length T.structs
same_count T [] = refl
same_count T (x ∷ order) = same_count (told_in T x) order ∙ length-set T.structs x.0.0 (Some x.1)

same_lists : {X : Type 0} (xs ys : List (Option X)) → length xs ≡ length ys → ((i : ℕ) → get_or xs i None ≡ get_or ys i None) → xs ≡ ys
same_lists [] [] l same = refl
same_lists [] (y ∷ ys) l same = absurd (omega arith)
same_lists (x ∷ xs) [] l same = absurd (omega arith)
same_lists (x ∷ xs) (y ∷ ys) l same = ap₂ (λ z zs. z ∷ zs) (same 0) (same_lists xs ys (let m : length xs ≡ length ys = omega arith in m) (λ i. same (suc i)))

-- it's the table in which all are told at once
pub told_at_once : (T : Table) (order : Order) (structs : List (Option (List TypeId))) → length structs ≡ length T.structs → ((s : ℕ) → get_or structs s None ≡ fields_of (after_all T order) s) → with_all T structs ≡ after_all T order
told_at_once T order structs l same =
    ap₂ (λ ts ss. record { types = ts; structs = ss }) (sym (same_types T order)) (same_lists structs (after_all T order).structs (l ∙ sym (same_count T order)) same)

-- what is asked of the structs that are told at once, and that types keep their trees. That no type has too many words is asked where
-- the words of types follow from those of the structs already.
pub ready : (T : Table) → IsFormed T → ((s : ℕ) → fields_of T s ≡ None) → (words : List (Option ℕ)) → WordsWithin words → (order : Order) → IsInOrder T order → AreKnown T words order
    → (structs : List (Option (List TypeId))) → length structs ≡ length T.structs → ((s : ℕ) → get_or structs s None ≡ fields_of (after_all T order) s)
    → (TreesAreMade (with_all T structs) → AreStructWords (with_all T structs) words → TypesWithin T (with_all T structs))
    → IsFormed (with_all T structs) × AreStructWords (with_all T structs) words × KeepsTrees T (with_all T structs)
ready T formed none words within order o known structs l same types =
    let U = after_all T order in
    let nests = deep T formed in
    let is : with_all T structs ≡ U = told_at_once T order structs l same in
    let are : AreStructWords U words = all_known T nests words (none_known T words none) order o known in
    let fine : TypesWithin T U =
    subst (λ V. TreesAreMade V → AreStructWords V words → TypesWithin T V) is types (made_by U (all_deep T nests order o)) are in
    subst (λ V. IsFormed V × AreStructWords V words × KeepsTrees T V) (sym is) (formed_known T formed words within order o known fine, are, all_keep T nests order o)
