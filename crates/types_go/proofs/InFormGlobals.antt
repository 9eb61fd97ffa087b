-- The package variables of a typed program are in form: each has a site of its type, which lies between those of the functions.
use Rattle.std.proofs.Common.{◌≡◌, ℕ, zero, suc, ℤ, pos, ◌+◌, ◌<◌, ◌≤◌, Bool, true, false, cond, List, [], ◌∷◌, ◌++◌, ◌⊎◌, inl, inr, map, length, get_or, Option, Some, None, refl, sym, ap, ◌∙◌, subst, arith, length-append}
use Rattle.std.specs.Prelude.{slice_get, option_and_then}
use Rattle.std.specs.Option.{option_map}
use Rattle.std.proofs.lemmas.Int.{ints as int_lemmas}
use Rattle.syntax.specs.Expressions.{spelled}
use Rattle.syntax.specs.Declarations.{Function as TreeFunction, Declaration, constants, variables, types}
use Rattle.syntax.specs.Declarations as tree
use Rattle.syntax.specs.declared.expression.Name.{Name}
use Rattle.typed.specs.declared.program.Site.{Site}
use Rattle.typed_syntax.specs.Syntax.{Func, Program, site_type}
use Rattle.typed_syntax.specs.Form.{GlobalFits}
use Rattle.typed_syntax.specs.Types.{TypeTree}
use Rattle.typed_syntax.specs.Value.{Value, int, bool, IsOf, FitsWords, LeadsNowhere, zero_of}
use Rattle.value_laws.proofs.Zeros.{zero_is, zero_fits, zero_alone}
use Rattle.constants.specs.declared.constant.Constant.{Constant}
use Rattle.constants.specs.declared.constant.Constant.TheVariants.{Number, Truth}
use Rattle.constants.specs.declared.constant.Fixed.{Fixed}
use Rattle.base.specs.declared.value_type.ValueType.{ValueType}
use Rattle.base.specs.declared.value_type.ValueType.TheVariants.{Int, Bool as Boolean, Struct, Array, Pointer, Slice}
use Rattle.typed.specs.Tables.{Table}
use Rattle.typed.specs.Formed.{IsFormed}
use Rattle.constants.specs.Constants.{is_int}
use Rattle.type_faults.proofs.Options.{and_then_some, map_some, none_some, same_some}
use Rattle.names.specs.Universe.{is_blank}
use Rattle.names.specs.declared.scope.Known.{Known}
use Rattle.names.specs.Scope.{Scope, type_tree, known, site_at, with_site}
use Rattle.names.proofs.Trees.{int_tree, bool_tree}
use Rattle.package_values.specs.declared.items.Role.TheVariants as role
use Rattle.package_values.specs.Values.{Item, items_in_specs}
use Rattle.function_heads.specs.PackageBlock.{is_external}
use Rattle.signatures.proofs.Growth.{Extends, Package, package_of, extends_length}
use Rattle.signatures.proofs.Visible.{HasSite, has_longer, new_site}
use Rattle.signatures.proofs.InFormEntries.{HasSites, site_is}
use Rattle.types_go.specs.Functions.{Member, of_function, of_variable, numbered, type_or_int, int_in, truth_in, begins, or_zero, begun_at, behind_variable, initial, members_in, behind_body, behind_function, function, functions, behind_members, globals}
use Rattle.types_go.proofs.SettledFunctions.{function_some}
use Rattle.types_go.proofs.Growth.{keeps_function, keeps_variable, keeps_members}
use Rattle.types_go.proofs.InFormStatements.{AreGlobals}
use Rattle.types_go.proofs.Package.{names_numbers, all_names, items_names, globals_numbers}

-- ---- values of their types

is_word : (z : ℤ) → is_int z ≡ true → FitsWords (int z)
is_word z h = grind (arith, int_lemmas)

word_by : (z : ℤ) (b : Bool) → is_int z ≡ b → FitsWords (int (cond b z (pos 0)))
word_by z true is = is_word z is
word_by z false is = is_word (pos 0) refl

int_word : (c : Constant) → FitsWords (int (int_in c))
int_word (Number z) = word_by z (is_int z) refl
int_word (Truth b) = is_word (pos 0) refl

-- what a variable begins with leads nowhere
first_alone : (t : ValueType) (c : Option Fixed) (x : TypeTree) → LeadsNowhere (or_zero x (begins t c))
first_alone Int (Some f) x = tt
first_alone Boolean (Some f) x = tt
first_alone t c x = zero_alone x

-- and is of its type
module _ (T : Table) (formed : IsFormed T) where
  zero_begins : (x : TypeTree) → IsOf x (zero_of x) × FitsWords (zero_of x)
  zero_begins x = (zero_is x, zero_fits x)

  first_fits : (t : ValueType) (c : Option Fixed) (x : TypeTree) → x ≡ type_tree T t → IsOf x (or_zero x (begins t c)) × FitsWords (or_zero x (begins t c))
  first_fits Int None x is = zero_begins x
  first_fits Int (Some f) x is = (subst (λ (y : TypeTree). IsOf y (int (int_in f.value))) (sym (is ∙ int_tree T formed)) tt, int_word f.value)
  first_fits Boolean None x is = zero_begins x
  first_fits Boolean (Some f) x is = (subst (λ (y : TypeTree). IsOf y (bool (truth_in f.value))) (sym (is ∙ bool_tree T formed)) tt, tt)
  first_fits (Struct k) c x is = zero_begins x
  first_fits (Array n e) c x is = zero_begins x
  first_fits (Pointer e) c x is = zero_begins x
  first_fits (Slice e) c x is = zero_begins x

mapped_at : {A B : Type 0} (f : A → B) (xs : List A) (k : ℕ) (x : A) → slice_get xs k ≡ Some x → slice_get (map f xs) k ≡ Some (f x)
mapped_at f [] k x is = absurd (none_some is)
mapped_at f (y ∷ xs) zero x is = ap (λ z. Some (f z)) (same_some is)
mapped_at f (y ∷ xs) (suc k) x is = mapped_at f xs k x is

mapped_back : {A B : Type 0} (f : A → B) (xs : List A) (k : ℕ) (y : B) → slice_get (map f xs) k ≡ Some y → (x : A) × (slice_get xs k ≡ Some x) × (f x ≡ y)
mapped_back f [] k y is = absurd (none_some is)
mapped_back f (x ∷ xs) zero y is = (x, refl, same_some is)
mapped_back f (x ∷ xs) (suc k) y is = mapped_back f xs k y is

last_site : (sites : List Site) (x : Site) → slice_get (sites ++ x ∷ []) (length sites) ≡ Some x
last_site [] x = refl
last_site (y ∷ sites) x = last_site sites x

-- ---- the numbers of the package variables with a name

module _ (text : List ℕ) where
  abbrev pub member_numbers : List Member → List ℕ
  member_numbers [] = []
  member_numbers (of_function g ∷ ms) = member_numbers ms
  member_numbers (of_variable k i ∷ ms) = cond (is_blank (spelled text i.name)) (member_numbers ms) (k ∷ member_numbers ms)

  numbers_apart : (k : ℕ) (is : List Item) (ms : List Member) → member_numbers (numbered k is ++ ms) ≡ names_numbers text k (map (λ (i : Item). i.name) is) ++ member_numbers ms
  numbers_apart k [] ms = refl
  numbers_apart k (i ∷ is) ms = by (numbers_apart (1 + k) is ms) (is_blank (spelled text i.name))
    where
      rest : List ℕ
      rest = names_numbers text (1 + k) (map (λ (j : Item). j.name) is)

      by : member_numbers (numbered (1 + k) is ++ ms) ≡ rest ++ member_numbers ms → (b : Bool)
          → cond b (member_numbers (numbered (1 + k) is ++ ms)) (k ∷ member_numbers (numbered (1 + k) is ++ ms)) ≡ cond b rest (k ∷ rest) ++ member_numbers ms
      by later true = later
      by later false = ap (λ l. k ∷ l) later

module _ (text : List ℕ) (heads : Scope) where
  pub members_numbers : (k : ℕ) (ds : List Declaration) → member_numbers text (members_in text heads k ds) ≡ globals_numbers text heads k ds
  members_numbers k [] = refl
  members_numbers k (constants at specs ∷ ds) = members_numbers (k + length (items_in_specs role.Constant specs)) ds
  members_numbers k (variables at specs ∷ ds) =
      let is = items_in_specs role.Variable specs in
      let rest = members_in text heads (k + length is) ds in
      numbers_apart text k is rest ∙ ap (λ (ns : List Name). names_numbers text k ns ++ member_numbers text rest) (items_names text role.Variable specs)
      ∙ ap (λ l. names_numbers text k (all_names text specs) ++ l) (members_numbers (k + length is) ds)
  members_numbers k (types at specs ∷ ds) = members_numbers k ds
  members_numbers k (tree.function g ∷ ds) = by (members_numbers k ds) (is_external text heads g)
    where
      by : member_numbers text (members_in text heads k ds) ≡ globals_numbers text heads k ds → (b : Bool)
          → member_numbers text (cond b (members_in text heads k ds) (of_function g ∷ members_in text heads k ds)) ≡ globals_numbers text heads k ds
      by later true = later
      by later false = later

  -- ---- each has a site of its type, and begins with a value of the type

  -- a site of the type that is known of a package variable
  abbrev TypedAt : Package → List Site → (site k : ℕ) → Type 0
  TypedAt q sites site k = HasSite q.types sites site (type_or_int (option_and_then (λ o. o) (slice_get q.values k)))

  -- by the number of a package variable, its site has the type that is known of it
  global_at : (s : Scope) (ms : List Member) (g k : ℕ) → slice_get (member_numbers text ms) g ≡ Some k
      → (entry : ℕ × Option Value) × (slice_get (globals text heads s ms) g ≡ Some entry) × TypedAt (package_of s) (behind_members text heads s ms).sites entry.0 k
  global_at s [] g k is = absurd (none_some is)
  global_at s (of_function h ∷ ms) g k is =
      let s1 = behind_function text heads s h in
      let later = global_at s1 ms g k is in
      (later.0, later.1, subst (λ (q : Package). TypedAt q (behind_members text heads s1 ms).sites later.0.0 k) (keeps_function text heads s h).kept later.2)
  global_at s (of_variable v x ∷ ms) g k is =
      by (λ j is1. global_at s ms j k is1) (λ j is1. global_at (with_site s s.setting (spelled text x.name) (type_or_int (known s v)) x.name.pos) ms j k is1) (is_blank (spelled text x.name)) g is
    where
      c : Option Fixed
      c = initial text s x.value

      t : ValueType
      t = type_or_int (known s v)

      s1 : Scope
      s1 = with_site s s.setting (spelled text x.name) t x.name.pos

      Found : Scope → ℕ → Type 0
      Found u j = (entry : ℕ × Option Value) × (slice_get (globals text heads u ms) j ≡ Some entry) × TypedAt (package_of s) (behind_members text heads u ms).sites entry.0 k

      by : ((j : ℕ) → slice_get (member_numbers text ms) j ≡ Some k → Found s j) → ((j : ℕ) → slice_get (member_numbers text ms) j ≡ Some k → Found s1 j) → (b : Bool) (j : ℕ)
          → slice_get (cond b (member_numbers text ms) (v ∷ member_numbers text ms)) j ≡ Some k
          → (entry : ℕ × Option Value) × (slice_get (cond b [] ((length s.sites, begins t c) ∷ []) ++ globals text heads (cond b s s1) ms) j ≡ Some entry)
          × TypedAt (package_of s) (behind_members text heads (cond b s s1) ms).sites entry.0 k
      by same later true j is1 = same j is1
      by same later false zero is1 = (
        (length s.sites, begins t c),
        refl,
        subst (λ (m : ℕ). TypedAt (package_of s) (behind_members text heads s1 ms).sites (length s.sites) m) (same_some is1)
            (has_longer s.types s1.sites (behind_members text heads s1 ms).sites (length s.sites) t (keeps_members text heads s1 ms).sites (new_site s s.setting (spelled text x.name) t x.name.pos)),
      )
      by same later false (suc j) is1 = later j is1

  -- one of them, by its place
  abbrev pub Begins : Package → List Site → ℕ × Option Value → Type 0
  Begins q sites entry = (k : ℕ) × ((c : Option Fixed) × (TypedAt q sites entry.0 k × (entry.1 ≡ begins (type_or_int (option_and_then (λ o. o) (slice_get q.values k))) c)))

  global_begins : (s : Scope) (ms : List Member) (j : ℕ) (entry : ℕ × Option Value) → slice_get (globals text heads s ms) j ≡ Some entry → (length s.sites ≤ entry.0) × Begins (package_of s) (behind_members text heads s ms).sites entry
  global_begins s [] j entry is = absurd (none_some is)
  global_begins s (of_function h ∷ ms) j entry is =
      let s1 = behind_function text heads s h in
      let later = global_begins s1 ms j entry is in
      let long = extends_length s.sites s1.sites (keeps_function text heads s h).sites in
      (omega (arith, later.0, long), subst (λ (q : Package). Begins q (behind_members text heads s1 ms).sites entry) (keeps_function text heads s h).kept later.1)
  global_begins s (of_variable v x ∷ ms) j entry is =
      by (λ n is1. global_begins s ms n entry is1) (λ n is1. global_begins (with_site s s.setting (spelled text x.name) (type_or_int (known s v)) x.name.pos) ms n entry is1) (is_blank (spelled text x.name)) j is
    where
      c : Option Fixed
      c = initial text s x.value

      t : ValueType
      t = type_or_int (known s v)

      s1 : Scope
      s1 = with_site s s.setting (spelled text x.name) t x.name.pos

      Begun : Scope → Type 0
      Begun u = (n : ℕ) → slice_get (globals text heads u ms) n ≡ Some entry → (length u.sites ≤ entry.0) × Begins (package_of s) (behind_members text heads u ms).sites entry

      by : Begun s → Begun s1 → (b : Bool) (n : ℕ) → slice_get (cond b [] ((length s.sites, begins t c) ∷ []) ++ globals text heads (cond b s s1) ms) n ≡ Some entry
          → (length s.sites ≤ entry.0) × Begins (package_of s) (behind_members text heads (cond b s s1) ms).sites entry
      by same others true n is1 = same n is1
      by same others false zero is1 =
          let e : (length s.sites, begins t c) ≡ entry = same_some is1 in
          subst (λ (y : ℕ × Option Value). (length s.sites ≤ y.0) × Begins (package_of s) (behind_members text heads s1 ms).sites y) e
          (omega arith, (v, (c, (has_longer s.types s1.sites (behind_members text heads s1 ms).sites (length s.sites) t (keeps_members text heads s1 ms).sites (new_site s s.setting (spelled text x.name) t x.name.pos), refl))))
      by same others false (suc n) is1 =
          let later = others n is1 in
          let long = length-append s.sites (site_at s.setting s.types (length s.site_names) (spelled text x.name) t x.name.pos ∷ []) in
          (omega (arith, later.0, long), later.1)

  -- ---- its site is none of a function

  function_sites : (s : Scope) (i : ℕ) (h : TreeFunction) (f : Func) → function text heads s i h ≡ Some f → (f.first ≡ length s.sites) × (f.first + f.count ≡ length (behind_function text heads s h).sites)
  function_sites s i h f is =
      let found = function_some text heads s i h f is in
      let made = found.1.1.3.6 in
      let first1 : length s.sites ≡ f.first = ap (λ (y : Func). y.first) made in
      let count1 = ap (λ (y : Func). y.count) made in
      let body = ap (λ o. length (behind_body text heads s h o).sites) (sym found.1.0) in
      let long = extends_length s.sites (behind_function text heads s h).sites (keeps_function text heads s h).sites in
      (sym first1, omega (arith, first1, count1, body, long))

  abbrev FirstsBehind : ℕ → List Func → Type 0
  FirstsBehind n fs = (k : ℕ) (f : Func) → slice_get fs k ≡ Some f → n ≤ f.first

  one_behind : (n m : ℕ) (x : Func) (fs : List Func) → n ≤ x.first → n ≤ m → FirstsBehind m fs → FirstsBehind n (x ∷ fs)
  one_behind n m x fs here le later zero f at = let e : x.first ≡ f.first = ap (λ (y : Func). y.first) (same_some at) in omega (arith, e, here)
  one_behind n m x fs here le later (suc k) f at = let l = later k f at in omega (arith, l, le)

  firsts_behind : (s : Scope) (i : ℕ) (ms : List Member) (fs : List Func) → functions text heads s i ms ≡ Some fs → FirstsBehind (length s.sites) fs
  firsts_behind s i [] fs is = λ k f found. absurd (none_some (subst (λ (l : List Func). slice_get l k ≡ Some f) (sym (same_some is)) found))
  firsts_behind s i (of_variable v x ∷ ms) fs is = λ k f found.
      let later = firsts_behind (behind_variable text s v x) i ms fs is k f found in
      let long = extends_length s.sites (behind_variable text s v x).sites (keeps_variable text heads s v x).sites in
      omega (arith, later, long)
  firsts_behind s i (of_function h ∷ ms) fs is =
      let s1 = behind_function text heads s h in
      let r = and_then_some (λ y. option_map (λ us. y ∷ us) (functions text heads s1 (1 + i) ms)) (function text heads s i h) fs is in
      let q = map_some (λ us. r.0 ∷ us) (functions text heads s1 (1 + i) ms) fs r.2 in
      let own = function_sites s i h r.0 r.1 in
      subst (λ (l : List Func). FirstsBehind (length s.sites) l) q.2
      (one_behind (length s.sites) (length s1.sites) r.0 q.0 (omega (arith, own.0)) (extends_length s.sites s1.sites (keeps_function text heads s h).sites) (firsts_behind s1 (1 + i) ms q.0 q.1))

  abbrev Apart : ℕ → List Func → Type 0
  Apart site fs = (k : ℕ) (f : Func) → slice_get fs k ≡ Some f → (site < f.first) ⊎ (f.first + f.count ≤ site)

  one_apart : (site : ℕ) (x : Func) (fs : List Func) → x.first + x.count ≤ site → Apart site fs → Apart site (x ∷ fs)
  one_apart site x fs here later zero f at =
      let e : x.first ≡ f.first = ap (λ (y : Func). y.first) (same_some at) in
      let c : x.count ≡ f.count = ap (λ (y : Func). y.count) (same_some at) in
      inr (omega (arith, e, c, here))
  one_apart site x fs here later (suc k) f at = later k f at

  globals_apart : (s : Scope) (i : ℕ) (ms : List Member) (fs : List Func) → functions text heads s i ms ≡ Some fs → (j : ℕ) (entry : ℕ × Option Value) → slice_get (globals text heads s ms) j ≡ Some entry → Apart entry.0 fs
  globals_apart s i [] fs is j entry at = absurd (none_some at)
  globals_apart s i (of_function h ∷ ms) fs is j entry at =
      let s1 = behind_function text heads s h in
      let r = and_then_some (λ y. option_map (λ us. y ∷ us) (functions text heads s1 (1 + i) ms)) (function text heads s i h) fs is in
      let q = map_some (λ us. r.0 ∷ us) (functions text heads s1 (1 + i) ms) fs r.2 in
      let own = function_sites s i h r.0 r.1 in
      let behind1 = (global_begins s1 ms j entry at).0 in
      subst (λ (l : List Func). Apart entry.0 l) q.2 (one_apart entry.0 r.0 q.0 (omega (arith, own.1, behind1)) (globals_apart s1 (1 + i) ms q.0 q.1 j entry at))
  globals_apart s i (of_variable v x ∷ ms) fs is j entry at =
      by (λ n is1 at1. globals_apart s i ms fs is1 n entry at1) (λ n is1 at1. globals_apart (with_site s s.setting (spelled text x.name) (type_or_int (known s v)) x.name.pos) i ms fs is1 n entry at1) (is_blank (spelled text x.name)) j is at
    where
      c : Option Fixed
      c = initial text s x.value

      t : ValueType
      t = type_or_int (known s v)

      s1 : Scope
      s1 = with_site s s.setting (spelled text x.name) t x.name.pos

      Lies : Scope → Type 0
      Lies u = (n : ℕ) → functions text heads u i ms ≡ Some fs → slice_get (globals text heads u ms) n ≡ Some entry → Apart entry.0 fs

      by : Lies s → Lies s1 → (b : Bool) (n : ℕ) → functions text heads (cond b s s1) i ms ≡ Some fs → slice_get (cond b [] ((length s.sites, begins t c) ∷ []) ++ globals text heads (cond b s s1) ms) n ≡ Some entry
          → Apart entry.0 fs
      by same others true n is1 at1 = same n is1 at1
      by same others false zero is1 at1 =
          λ k f found.
          let e : length s.sites ≡ entry.0 = ap (λ (y : ℕ × Option Value). y.0) (same_some at1) in
          let long = length-append s.sites (site_at s.setting s.types (length s.site_names) (spelled text x.name) t x.name.pos ∷ []) in
          let first1 = firsts_behind s1 i ms fs is1 k f found in
          inl (omega (arith, e, long, first1))
      by same others false (suc n) is1 at1 = others n is1 at1

  -- ---- so they fit

  module _ (T : Table) (p : Program) (all : List Site) (has : HasSites T p all) (s : Scope) (types_are : s.types ≡ T) (ms : List Member) where
    got : (gs : List (ℕ × Value)) (g : ℕ) (entry : ℕ × Value) (d : ℕ × Value) → slice_get gs g ≡ Some entry → (g < length gs) × (get_or gs g d ≡ entry)
    got [] g entry d is = absurd (none_some is)
    got (x ∷ gs) zero entry d is = (omega arith, same_some is)
    got (x ∷ gs) (suc g) entry d is = let k = got gs g entry d is in (omega (arith, k.0), k.1)

    -- its type in the program
    type_of_site : (site k : ℕ) → (behind_members text heads s ms).sites ≡ all → TypedAt (package_of s) (behind_members text heads s ms).sites site k → site_type p site ≡ type_tree T (type_or_int (known s k))
    type_of_site site k sites typed =
        site_is T p all has site (type_or_int (known s k))
        (subst (λ (U : Table). HasSite U all site (type_or_int (known s k))) types_are (subst (λ (l : List Site). HasSite s.types l site (type_or_int (known s k))) sites typed))

    abbrev AreBegun : Type 0
    AreBegun = p.globals ≡ map (begun_at p.sites) (globals text heads s ms)

    pub globals_agree : s.globals ≡ member_numbers text ms → AreBegun → (behind_members text heads s ms).sites ≡ all → AreGlobals T (package_of s) p
    globals_agree numbers globals1 sites g k x at known_is =
        let found = global_at s ms g k (ap (λ l. slice_get l g) (sym numbers) ∙ at) in
        let here = got p.globals g (begun_at p.sites found.0) (0, int (pos 0))
        (ap (λ (l : List (ℕ × Value)). slice_get l g) globals1 ∙ mapped_at (begun_at p.sites) (globals text heads s ms) g found.0 found.1) in
        let type_is = type_of_site found.0.0 k sites found.2 in
        (here.0, ap (λ (y : ℕ × Value). site_type p y.0) here.1 ∙ type_is ∙ ap (λ (o : Option Known). type_tree T (type_or_int o)) known_is)

    pub globals_fit : IsFormed T → (fs : List Func) → functions text heads s 0 ms ≡ Some fs → p.funcs ≡ fs → (behind_members text heads s ms).sites ≡ all → AreBegun
        → (j : ℕ) (entry : ℕ × Value) → slice_get p.globals j ≡ Some entry → GlobalFits p entry
    globals_fit formed fs is funcs sites globals1 j entry at =
        let raw = mapped_back (begun_at p.sites) (globals text heads s ms) j entry (ap (λ (l : List (ℕ × Value)). slice_get l j) (sym globals1) ∙ at) in
        let begins1 = (global_begins s ms j raw.0 raw.1).1 in
        let k = begins1.0 in
        let t = type_or_int (known s k) in
        let type_is = type_of_site raw.0.0 k sites begins1.1.1.0 in
        let fits = first_fits T formed t begins1.1.0 (site_type p raw.0.0) type_is in
        let here : GlobalFits p (begun_at p.sites raw.0) = record {
          value = subst (λ (o : Option Value). IsOf (site_type p raw.0.0) (or_zero (site_type p raw.0.0) o) × FitsWords (or_zero (site_type p raw.0.0) o))
              (sym begins1.1.1.1) fits;
          alone = subst (λ (o : Option Value). LeadsNowhere (or_zero (site_type p raw.0.0) o)) (sym begins1.1.1.1) (first_alone t begins1.1.0 (site_type p raw.0.0));
          apart = λ n f found. globals_apart s 0 ms fs is j raw.0 raw.1 n f (ap (λ (l : List Func). slice_get l n) (sym funcs) ∙ found);
        } in
        subst (GlobalFits p) raw.2 here
