-- Values and states of their types, whose pointers and slices lead to parts that are there: what operators, slicings, births and writes keep.
use Rattle.std.proofs.Common.{◌≡◌, ℕ, zero, suc, ◌*◌, ◌<◌, List, [], ◌∷◌, ◌++◌, Some, None, Bool, ℤ, pos, negsuc, refl, sym, ap, ◌∙◌, subst, arith}
use Rattle.std.specs.Prelude.{length, slice_get, IfOk, int_rem}
use Rattle.std.specs.Int.{w64, int_wrapping_div, int_shl, int_shr}
use Rattle.typed_syntax.specs.declared.operators.BinOp.{BinOp}
use Rattle.typed_syntax.specs.declared.operators.BinOp.TheVariants.{Add, Sub, Mul, Div, Rem, And, Or, Xor, AndNot, ShiftLeft, ShiftRight, Equal, NotEqual, Less, LessEqual, Greater, GreaterEqual}
use Rattle.typed_syntax.specs.declared.operators.UnOp.{UnOp}
use Rattle.typed_syntax.specs.declared.operators.UnOp.TheVariants.{Plus, Negate, Complement, Not}
use Rattle.typed_syntax.specs.Types.{TypeTree, PartTypes, ints, bools, struct_of, array_of, pointer_to, slice_of, no_types, more_types, repeated, part_types, types_in as count_in, nth_type, part_count, part_type, width, widths}
use Rattle.typed_syntax.specs.Value.{Value, Values, int, bool, composite, nil_pointer, pointer, nil_slice, slice_in, no_values, more_values, words, words_in, copies, zero_of, zeros_of, IsOf, AreOf, LeadsNowhere, LeadNowhere}
use Rattle.typed_syntax.specs.Paths.{nth_value, with_nth, part, with_part, at_path, with_path, Leads}
use Rattle.typed_syntax.specs.Syntax.{Program}
use Rattle.typed_syntax.specs.Form.{TakesOne, IsArithmetic}
use Rattle.meaning.specs.Trace.{Cell}
use Rattle.meaning.specs.Store.{change, values_of}
use Rattle.meaning.specs.Operators.{divide, shift, of_ints, binary_of, unary_of}
use Rattle.meaning_laws.specs.Rules.{Combines}
use Rattle.meaning_laws.specs.Typing.{types_in, LeadsToPart, IsTyped, AreTyped}

-- ---- types and paths

pub repeated_count : (n : ℕ) (t : TypeTree) → count_in (repeated n t) ≡ n
repeated_count zero t = refl
repeated_count (suc n) t = ap suc (repeated_count n t)

pub repeated_nth : (n : ℕ) (t : TypeTree) (i : ℕ) → i < n → nth_type (repeated n t) i ≡ t
repeated_nth zero t i l = absurd (omega arith)
repeated_nth (suc n) t zero l = refl
repeated_nth (suc n) t (suc i) l = repeated_nth n t i (omega arith)

width_repeated : (n : ℕ) (t : TypeTree) → widths (repeated n t) ≡ n * width t
width_repeated zero t = omega arith
width_repeated (suc n) t = omega (arith, width_repeated n t)

-- a path goes on by a part
pub leads_on : (path : List ℕ) (s t : TypeTree) (i : ℕ) → Leads s path t → i < part_count t → Leads s (path ++ i ∷ []) (part_type t i)
leads_on [] s t i h l = (subst (λ r. i < part_count r) (sym h) l, ap (λ r. part_type r i) h)
leads_on (j ∷ path) s t i h l = (h.0, leads_on path (part_type s j) t i h.1 l)

-- and by an element
pub leads_into : (path : List ℕ) (s t : TypeTree) (n i : ℕ) → Leads s path (array_of n t) → i < n → Leads s (path ++ i ∷ []) t
leads_into path s t n i h l =
    subst (λ r. Leads s (path ++ i ∷ []) r) (repeated_nth n t i l) (leads_on path s (array_of n t) i h (subst (λ k. i < k) (sym (repeated_count n t)) l))

-- ---- the types of variables

-- variables stay, and keep their types
abbrev pub Stay : (vars more : List TypeTree) → Type 0
Stay vars more = (x : ℕ) (t : TypeTree) → slice_get vars x ≡ Some t → slice_get more x ≡ Some t

pub changed_types : (cs : List Cell) (v : ℕ) (path : List ℕ) (x : Value) → types_in (change cs v path x) ≡ types_in cs
changed_types [] v path x = refl
changed_types (c ∷ cs) zero path x = refl
changed_types (c ∷ cs) (suc v) path x = ap (λ ts. c.type ∷ ts) (changed_types cs v path x)

pub none_some : {A : Type 0} {a : A} → None ≡ Some a → ⊥
none_some h = cc

pub stay_born : (cs : List Cell) (c : Cell) → Stay (types_in cs) (types_in (cs ++ c ∷ []))
stay_born [] c x t h = absurd (none_some h)
stay_born (d ∷ cs) c zero t h = h
stay_born (d ∷ cs) c (suc x) t h = stay_born cs c x t h

pub types_born : (cs : List Cell) (c : Cell) → types_in (cs ++ c ∷ []) ≡ types_in cs ++ c.type ∷ []
types_born [] c = refl
types_born (d ∷ cs) c = ap (λ ts. d.type ∷ ts) (types_born cs c)

pub there_born : (cs : List Cell) (c : Cell) → slice_get (types_in (cs ++ c ∷ [])) (length cs) ≡ Some c.type
there_born [] c = refl
there_born (d ∷ cs) c = there_born cs c

-- the variable of a part that a path leads to is there
cell_there : (cs : List Cell) (x : ℕ) (s : TypeTree) → slice_get (types_in cs) x ≡ Some s → (c : Cell) × (slice_get cs x ≡ Some c) × (c.type ≡ s)
cell_there [] x s h = absurd (none_some h)
cell_there (c ∷ cs) zero s h = (c, refl, cc)
cell_there (c ∷ cs) (suc x) s h = cell_there cs x s h

pub part_there : (cs : List Cell) (x : ℕ) (path : List ℕ) (t : TypeTree) → LeadsToPart (types_in cs) x path t → (c : Cell) × (slice_get cs x ≡ Some c) × Leads c.type path t
part_there cs x path t h = let (c, there, is) = cell_there cs x h.0 h.1 in (c, there, subst (λ r. Leads r path t) (sym is) h.2)

-- ---- values

module _ (p : Program) where
  mutual
    pub more_typed : (t : TypeTree) (v : Value) (vars more : List TypeTree) → Stay vars more → IsTyped p vars t v → IsTyped p more t v
    more_typed ints (int z) vars more stay h = tt
    more_typed bools (bool b) vars more stay h = tt
    more_typed (struct_of ts) (composite vs) vars more stay h = all_more_typed ts vs vars more stay h
    more_typed (array_of n t) (composite vs) vars more stay h = all_more_typed (repeated n t) vs vars more stay h
    more_typed (pointer_to n) nil_pointer vars more stay h = tt
    more_typed (pointer_to n) (pointer x path) vars more stay h = (h.0, stay x h.0 h.1, h.2)
    more_typed (slice_of n) nil_slice vars more stay h = tt
    more_typed (slice_of n) (slice_in x path first count room) vars more stay h = (h.0, (h.1.0, stay x h.1.0 h.1.1, h.1.2), h.2, h.3)
    more_typed t v vars more stay h = absurd h

    pub all_more_typed : (ts : PartTypes) (vs : Values) (vars more : List TypeTree) → Stay vars more → AreTyped p vars ts vs → AreTyped p more ts vs
    all_more_typed no_types no_values vars more stay h = tt
    all_more_typed (more_types t ts) (more_values v vs) vars more stay h = (more_typed t v vars more stay h.0, all_more_typed ts vs vars more stay h.1)
    all_more_typed ts vs vars more stay h = absurd h

  -- what is typed is of its type
  mutual
    pub typed_is : (t : TypeTree) (v : Value) (vars : List TypeTree) → IsTyped p vars t v → IsOf t v
    typed_is ints (int z) vars h = tt
    typed_is bools (bool b) vars h = tt
    typed_is (struct_of ts) (composite vs) vars h = typed_are ts vs vars h
    typed_is (array_of n t) (composite vs) vars h = typed_are (repeated n t) vs vars h
    typed_is (pointer_to n) nil_pointer vars h = tt
    typed_is (pointer_to n) (pointer x path) vars h = tt
    typed_is (slice_of n) nil_slice vars h = tt
    typed_is (slice_of n) (slice_in x path first count room) vars h = h.3
    typed_is t v vars h = absurd h

    typed_are : (ts : PartTypes) (vs : Values) (vars : List TypeTree) → AreTyped p vars ts vs → AreOf ts vs
    typed_are no_types no_values vars h = tt
    typed_are (more_types t ts) (more_values v vs) vars h = (typed_is t v vars h.0, typed_are ts vs vars h.1)
    typed_are ts vs vars h = absurd h

  -- what leads nowhere is typed whatever the variables are
  mutual
    pub nowhere_typed : (t : TypeTree) (v : Value) (vars : List TypeTree) → IsOf t v → LeadsNowhere v → IsTyped p vars t v
    nowhere_typed ints (int z) vars h a = tt
    nowhere_typed bools (bool b) vars h a = tt
    nowhere_typed (struct_of ts) (composite vs) vars h a = all_nowhere_typed ts vs vars h a
    nowhere_typed (array_of n t) (composite vs) vars h a = all_nowhere_typed (repeated n t) vs vars h a
    nowhere_typed (pointer_to n) nil_pointer vars h a = tt
    nowhere_typed (pointer_to n) (pointer x path) vars h a = absurd a
    nowhere_typed (slice_of n) nil_slice vars h a = tt
    nowhere_typed (slice_of n) (slice_in x path first count room) vars h a = absurd a
    nowhere_typed t v vars h a = absurd h

    all_nowhere_typed : (ts : PartTypes) (vs : Values) (vars : List TypeTree) → AreOf ts vs → LeadNowhere vs → AreTyped p vars ts vs
    all_nowhere_typed no_types no_values vars h a = tt
    all_nowhere_typed (more_types t ts) (more_values v vs) vars h a = (nowhere_typed t v vars h.0 a.0, all_nowhere_typed ts vs vars h.1 a.1)
    all_nowhere_typed ts vs vars h a = absurd h

  -- a value has the words of its type
  mutual
    pub typed_words : (t : TypeTree) (v : Value) (vars : List TypeTree) → IsTyped p vars t v → words v ≡ width t
    typed_words ints (int z) vars h = refl
    typed_words bools (bool b) vars h = refl
    typed_words (struct_of ts) (composite vs) vars h = all_typed_words ts vs vars h
    typed_words (array_of n t) (composite vs) vars h = all_typed_words (repeated n t) vs vars h ∙ width_repeated n t
    typed_words (pointer_to n) nil_pointer vars h = refl
    typed_words (pointer_to n) (pointer x path) vars h = refl
    typed_words (slice_of n) nil_slice vars h = refl
    typed_words (slice_of n) (slice_in x path first count room) vars h = refl
    typed_words t v vars h = absurd h

    all_typed_words : (ts : PartTypes) (vs : Values) (vars : List TypeTree) → AreTyped p vars ts vs → words_in vs ≡ widths ts
    all_typed_words no_types no_values vars h = refl
    all_typed_words (more_types t ts) (more_values v vs) vars h = omega (arith, typed_words t v vars h.0, all_typed_words ts vs vars h.1)
    all_typed_words ts vs vars h = absurd h

  module _ (vars : List TypeTree) where
    -- a value with parts is a composite of them
    parted : (P : Value → Type 0) (t : TypeTree) (v : Value) (i : ℕ) → IsTyped p vars t v → i < part_count t → ((vs : Values) → AreTyped p vars (part_types t) vs → P (composite vs)) → P v
    parted P (struct_of ts) (composite vs) i h l f = f vs h
    parted P (array_of n t) (composite vs) i h l f = f vs h
    parted P ints v i h l f = absurd (omega arith)
    parted P bools v i h l f = absurd (omega arith)
    parted P (pointer_to n) v i h l f = absurd (omega arith)
    parted P (slice_of n) v i h l f = absurd (omega arith)
    parted P t v i h l f = absurd h

    nth_typed : (ts : PartTypes) (vs : Values) (i : ℕ) → AreTyped p vars ts vs → i < count_in ts → IsTyped p vars (nth_type ts i) (nth_value vs i)
    nth_typed no_types vs i h l = absurd (omega arith)
    nth_typed (more_types t ts) no_values i h l = absurd h
    nth_typed (more_types t ts) (more_values v vs) zero h l = h.0
    nth_typed (more_types t ts) (more_values v vs) (suc i) h l = nth_typed ts vs i h.1 (omega arith)

    with_nth_typed : (ts : PartTypes) (vs : Values) (i : ℕ) (x : Value) → AreTyped p vars ts vs → i < count_in ts → IsTyped p vars (nth_type ts i) x → AreTyped p vars ts (with_nth vs i x)
    with_nth_typed no_types vs i x h l g = absurd (omega arith)
    with_nth_typed (more_types t ts) no_values i x h l g = absurd h
    with_nth_typed (more_types t ts) (more_values v vs) zero x h l g = (g, h.1)
    with_nth_typed (more_types t ts) (more_values v vs) (suc i) x h l g = (h.0, with_nth_typed ts vs i x h.1 (omega arith) g)

    composite_typed : (t : TypeTree) (vs : Values) (i : ℕ) → i < part_count t → AreTyped p vars (part_types t) vs → IsTyped p vars t (composite vs)
    composite_typed (struct_of ts) vs i l h = h
    composite_typed (array_of n t) vs i l h = h
    composite_typed t vs i l h = absurd (omega arith)

    pub part_typed : (t : TypeTree) (v : Value) (i : ℕ) → IsTyped p vars t v → i < part_count t → IsTyped p vars (part_type t i) (part v i)
    part_typed t v i h l = parted (λ u. IsTyped p vars (part_type t i) (part u i)) t v i h l (λ vs g. nth_typed (part_types t) vs i g l)

    pub with_part_typed : (t : TypeTree) (v x : Value) (i : ℕ) → IsTyped p vars t v → i < part_count t → IsTyped p vars (part_type t i) x → IsTyped p vars t (with_part v i x)
    with_part_typed t v x i h l g = parted (λ u. IsTyped p vars t (with_part u i x)) t v i h l (λ vs a. composite_typed t (with_nth vs i x) i l (with_nth_typed (part_types t) vs i x a l g))

    pub at_typed : (path : List ℕ) (t s : TypeTree) (v : Value) → IsTyped p vars t v → Leads t path s → IsTyped p vars s (at_path v path)
    at_typed [] t s v h l = subst (λ r. IsTyped p vars r v) l h
    at_typed (i ∷ path) t s v h l = at_typed path (part_type t i) s (part v i) (part_typed t v i h l.0) l.1

    pub with_path_typed : (path : List ℕ) (t s : TypeTree) (v x : Value) → IsTyped p vars t v → Leads t path s → IsTyped p vars s x → IsTyped p vars t (with_path v path x)
    with_path_typed [] t s v x h l g = subst (λ r. IsTyped p vars r x) (sym l) g
    with_path_typed (i ∷ path) t s v x h l g = with_part_typed t v (with_path (part v i) path x) i h l.0 (with_path_typed path (part_type t i) s (part v i) x (part_typed t v i h l.0) l.1 g)

    copies_typed : (n : ℕ) (t : TypeTree) (v : Value) → IsTyped p vars t v → AreTyped p vars (repeated n t) (copies n v)
    copies_typed zero t v h = tt
    copies_typed (suc n) t v h = (h, copies_typed n t v h)

    mutual
      pub zero_typed : (t : TypeTree) → IsTyped p vars t (zero_of t)
      zero_typed ints = tt
      zero_typed bools = tt
      zero_typed (struct_of ts) = zeros_typed ts
      zero_typed (array_of n t) = copies_typed n t (zero_of t) (zero_typed t)
      zero_typed (pointer_to n) = tt
      zero_typed (slice_of n) = tt

      zeros_typed : (ts : PartTypes) → AreTyped p vars ts (zeros_of ts)
      zeros_typed no_types = tt
      zeros_typed (more_types t ts) = (zero_typed t, zeros_typed ts)

    -- values of one type
    abbrev pub AllTyped : TypeTree → List Value → Type 0
    AllTyped t [] = Unit {0}
    AllTyped t (v ∷ vs) = IsTyped p vars t v × AllTyped t vs

    pub values_typed : (t : TypeTree) (vs : List Value) → AllTyped t vs → AreTyped p vars (repeated (length vs) t) (values_of vs)
    values_typed t [] h = tt
    values_typed t (v ∷ vs) h = (h.0, values_typed t vs h.1)

    pub values_words : (t : TypeTree) (vs : List Value) → AllTyped t vs → words_in (values_of vs) ≡ length vs * width t
    values_words t vs h = all_typed_words (repeated (length vs) t) (values_of vs) vars (values_typed t vs h) ∙ width_repeated (length vs) t

    pub int_typed : (v : Value) → IsTyped p vars ints v → (P : Value → Type 0) → ((z : ℤ) → P (int z)) → P v
    int_typed (int z) h P f = f z
    int_typed v h P f = absurd h

    pub bool_typed : (v : Value) → IsTyped p vars bools v → (P : Value → Type 0) → ((b : Bool) → P (bool b)) → P v
    bool_typed (bool b) h P f = f b
    bool_typed v h P f = absurd h

    -- ---- operators

    divided_typed : (f : ℤ → ℤ → ℤ) (a b : ℤ) → IfOk (divide f a b) (IsTyped p vars ints)
    divided_typed f a (pos zero) = tt
    divided_typed f a (pos (suc b)) = tt
    divided_typed f a (negsuc b) = tt

    shifted_typed : (f : ℤ → ℕ → ℤ) (a b : ℤ) → IfOk (shift f a b) (IsTyped p vars ints)
    shifted_typed f a (pos b) = tt
    shifted_typed f a (negsuc b) = tt

    pub arithmetic_typed : (op : BinOp) (a b : ℤ) → IsArithmetic op → IfOk (of_ints op a b) (IsTyped p vars ints)
    arithmetic_typed Div a b h = divided_typed (int_wrapping_div w64) a b
    arithmetic_typed Rem a b h = divided_typed int_rem a b
    arithmetic_typed ShiftLeft a b h = shifted_typed (int_shl w64) a b
    arithmetic_typed ShiftRight a b h = shifted_typed int_shr a b
    arithmetic_typed Equal a b h = absurd h
    arithmetic_typed NotEqual a b h = absurd h
    arithmetic_typed Less a b h = absurd h
    arithmetic_typed LessEqual a b h = absurd h
    arithmetic_typed Greater a b h = absurd h
    arithmetic_typed GreaterEqual a b h = absurd h
    arithmetic_typed op a b h = tt

    pub of_numbers_typed : (op : BinOp) (v u : Value) → IsArithmetic op → IsTyped p vars ints v → IsTyped p vars ints u → IfOk (binary_of op v u) (IsTyped p vars ints)
    of_numbers_typed op v u a h g =
        int_typed v h (λ x. IfOk (binary_of op x u) (IsTyped p vars ints)) (λ y. int_typed u g (λ x. IfOk (binary_of op (int y) x) (IsTyped p vars ints)) (λ z. arithmetic_typed op y z a))

    equal_typed : (v u : Value) → IfOk (binary_of Equal v u) (IsTyped p vars bools)
    equal_typed (int a) (int b) = tt
    equal_typed (bool a) (bool b) = tt
    equal_typed v u = tt

    unequal_typed : (v u : Value) → IfOk (binary_of NotEqual v u) (IsTyped p vars bools)
    unequal_typed (int a) (int b) = tt
    unequal_typed (bool a) (bool b) = tt
    unequal_typed v u = tt

    compared_typed : (op : BinOp) (s t : TypeTree) (v u : Value) → s ≡ ints → t ≡ bools → ((a b : ℤ) → IfOk (of_ints op a b) (IsTyped p vars bools)) → IsTyped p vars s v → IsTyped p vars s u → IfOk (binary_of op v u) (IsTyped p vars t)
    compared_typed op s t v u is gives c h g =
        subst (λ r. IfOk (binary_of op v u) (IsTyped p vars r)) (sym gives)
        (int_typed v (subst (λ r. IsTyped p vars r v) is h) (λ x. IfOk (binary_of op x u) (IsTyped p vars bools))
        (λ y. int_typed u (subst (λ r. IsTyped p vars r u) is g) (λ x. IfOk (binary_of op (int y) x) (IsTyped p vars bools)) (λ z. c y z)))

    counted_typed : (op : BinOp) (s t : TypeTree) (v u : Value) → s ≡ ints → t ≡ ints → IsArithmetic op → IsTyped p vars s v → IsTyped p vars s u → IfOk (binary_of op v u) (IsTyped p vars t)
    counted_typed op s t v u is gives a h g =
        subst (λ r. IfOk (binary_of op v u) (IsTyped p vars r)) (sym gives)
        (of_numbers_typed op v u a (subst (λ r. IsTyped p vars r v) is h) (subst (λ r. IsTyped p vars r u) is g))

    pub binary_typed : (op : BinOp) (s t : TypeTree) (v u : Value) → Combines op s t → IsTyped p vars s v → IsTyped p vars s u → IfOk (binary_of op v u) (IsTyped p vars t)
    binary_typed Equal s t v u k h g = subst (λ r. IfOk (binary_of Equal v u) (IsTyped p vars r)) (sym k) (equal_typed v u)
    binary_typed NotEqual s t v u k h g = subst (λ r. IfOk (binary_of NotEqual v u) (IsTyped p vars r)) (sym k) (unequal_typed v u)
    binary_typed Less s t v u k h g = compared_typed Less s t v u k.0 k.1 (λ a b. tt) h g
    binary_typed LessEqual s t v u k h g = compared_typed LessEqual s t v u k.0 k.1 (λ a b. tt) h g
    binary_typed Greater s t v u k h g = compared_typed Greater s t v u k.0 k.1 (λ a b. tt) h g
    binary_typed GreaterEqual s t v u k h g = compared_typed GreaterEqual s t v u k.0 k.1 (λ a b. tt) h g
    binary_typed Add s t v u k h g = counted_typed Add s t v u k.0 k.1 tt h g
    binary_typed Sub s t v u k h g = counted_typed Sub s t v u k.0 k.1 tt h g
    binary_typed Mul s t v u k h g = counted_typed Mul s t v u k.0 k.1 tt h g
    binary_typed Div s t v u k h g = counted_typed Div s t v u k.0 k.1 tt h g
    binary_typed Rem s t v u k h g = counted_typed Rem s t v u k.0 k.1 tt h g
    binary_typed And s t v u k h g = counted_typed And s t v u k.0 k.1 tt h g
    binary_typed Or s t v u k h g = counted_typed Or s t v u k.0 k.1 tt h g
    binary_typed Xor s t v u k h g = counted_typed Xor s t v u k.0 k.1 tt h g
    binary_typed AndNot s t v u k h g = counted_typed AndNot s t v u k.0 k.1 tt h g
    binary_typed ShiftLeft s t v u k h g = counted_typed ShiftLeft s t v u k.0 k.1 tt h g
    binary_typed ShiftRight s t v u k h g = counted_typed ShiftRight s t v u k.0 k.1 tt h g

    number_typed : (op : UnOp) (t : TypeTree) (v : Value) → t ≡ ints → IsTyped p vars t v → IsTyped p vars t (unary_of op v)
    number_typed op t v is h =
        subst (λ r. IsTyped p vars r (unary_of op v)) (sym is) (int_typed v (subst (λ r. IsTyped p vars r v) is h) (λ x. IsTyped p vars ints (unary_of op x)) (λ z. tt))

    pub unary_typed : (op : UnOp) (t : TypeTree) (v : Value) → TakesOne op t → IsTyped p vars t v → IsTyped p vars t (unary_of op v)
    unary_typed Not t v is h =
        subst (λ r. IsTyped p vars r (unary_of Not v)) (sym is) (bool_typed v (subst (λ r. IsTyped p vars r v) is h) (λ x. IsTyped p vars bools (unary_of Not x)) (λ b. tt))
    unary_typed Plus t v is h = number_typed Plus t v is h
    unary_typed Negate t v is h = number_typed Negate t v is h
    unary_typed Complement t v is h = number_typed Complement t v is h
