-- A typed program is in form.
use Rattle.std.proofs.Common.{◌≡◌, ℕ, zero, suc, ◌+◌, ◌<◌, ◌≤◌, Bool, true, false, cond, List, [], ◌∷◌, ◌++◌, ◌⊎◌, inl, inr, map, get_or, Option, Some, None, refl, sym, ap, ◌∙◌, subst, arith, length, append-nil}
use Rattle.std.specs.Prelude.{option_and_then, ◌&&◌, ◌||◌, ◌==◌, nat_lt, slice_get, codes}
use Rattle.std.specs.Option.{option_map}
use Rattle.std.proofs.lemmas.Bool.{eqb-true, ltb-true, leb-true}
use Rattle.std.proofs.lemmas.List.{length-map}
use Rattle.syntax.specs.declared.expression.Name.{Name}
use Rattle.syntax.specs.Expressions.{Ex as TreeEx, Exs as TreeExs, some, spelled}
use Rattle.syntax.specs.Expressions as expressions
use Rattle.syntax.specs.Declarations.{Field, Parameters, unnamed, named, Body, Function as TreeFunction, Declaration, Syntax}
use Rattle.typed.specs.declared.program.Site.{Site}
use Rattle.typed_syntax.specs.Syntax.{Sts, Func, Program, all_width, site_type}
use Rattle.typed.specs.Tables.{Table}
use Rattle.typed.specs.Trees.{trees, tree_named}
use Rattle.typed.specs.Formed.{IsFormed}
use Rattle.typed.specs.View.{site_types}
use Rattle.typed_syntax.specs.Form.{ends_all, ParamsFit, NamedFit, named_params as with_sites, params_scope, scope_in, body_first, StsFit, FuncFits, IsInForm}
use Rattle.typed_syntax.specs.Types.{TypeTree, ints, width}
use Rattle.base.specs.declared.value_type.ValueType.{ValueType}
use Rattle.type_faults.proofs.Options.{and_then_some, map_some, none_some, same_some}
use Rattle.names.specs.Universe.{is_blank, is_main}
use Rattle.names.specs.Scope.{Scope, Signature, type_tree, type_trees, declaration, is_here, declaring}
use Rattle.names.proofs.Trees.{solid}
use Rattle.given_values.specs.declared.wants.Wanted.TheVariants as wants
use Rattle.given_values.specs.Given.{wanted_by, asked}
use Rattle.given_values.proofs.NoSlices.{HoldsNoSlice}
use Rattle.package_values.specs.Values.{items_in, settled}
use Rattle.signatures.specs.declared.slots.Slot.{Slot}
use Rattle.signatures.specs.declared.entries.Role.{Role}
use Rattle.signatures.specs.declared.entries.Role.TheVariants.{Parameter, Result}
use Rattle.signatures.specs.Entries.{entry_of, sites_of, entry_in, behind_entry, entries, behind_entries}
use Rattle.signatures.specs.Signatures.{Param, param_with, unnamed_params, named_params, params_of, is_named, words, is_small, types_of, may_be_named}
use Rattle.function_heads.specs.HeadTypes.{slot_of, slots_of, signature_in}
use Rattle.typed.specs.declared.program.SiteKind.TheVariants as kind
use Rattle.signatures.proofs.Growth.{Package, package_of, extends_twice, keeps_grows}
use Rattle.signatures.proofs.Visible.{Visible, visible_set, visible_block, visible_opened, visible_kept}
use Rattle.signatures.proofs.InFormEntries.{HasSites, Within, within_before, SlotsHave, sites_long, named_of_params, named_scope_of, variable_is, entries_fit}
use Rattle.simple_statements.proofs.InFormSimple.{ReturnsFit}
use Rattle.terminating.specs.Terminating.{ends_after}
use Rattle.types_go.specs.Statements.{behind_all}
use Rattle.function_heads.specs.Heads.{is_plain, number_of, plain_number, number_or_int, slot_tree, functions_in, are_supported}
use Rattle.types_go.specs.Functions.{Member, of_function, of_variable, functions_of, behind_variable, members_in, declares, params_opened, behind_params, body_scope, behind_body, behind_function, behind_members, returns_of, func, function, functions, declarations_in, block_with, numbered_functions, members, package_scope, main_number}
use Rattle.types_go.specs.Checked.{Types, program_with}
use Rattle.types_go.proofs.SettledFunctions.{allowed_some, signature_parts, small_signed, function_some}
use Rattle.types_go.proofs.SettledPackage.{block, members_functions}
use Rattle.types_go.proofs.Package.{signatures_are, globals_are, settled_kept}
use Rattle.types_go.proofs.Types.{block_types}
use Rattle.types_go.proofs.StatementGrowth.{grows_all}
use Rattle.types_go.proofs.Growth.{keeps_function, keeps_variable, keeps_members, grows_params, grows_results, grows_body}
use Rattle.types_go.proofs.Visible.{visible_package}
use Rattle.types_go.proofs.NoSlices.{heads_none}
use Rattle.types_go.proofs.InFormStatements.{AreSigned, AreGlobals, formed_all}
use Rattle.types_go.proofs.InFormGlobals.{member_numbers, members_numbers, globals_agree, globals_fit}
use Rattle.types_go.proofs.Inside.{inside_start, inside_grows}
use Rattle.types_go.proofs.Terminating.{ends_same, ends_list}

empty_list : {A : Type 0} (xs : List A) → length xs ≡ 0 → xs ≡ []
empty_list [] is = refl
empty_list (x ∷ xs) is = absurd (omega (arith, is))

both_true : (a b : Bool) → (a && b) ≡ true → (a ≡ true) × (b ≡ true)
both_true true b is = (refl, is)
both_true false b is = cc is

-- ---- how many

types_long : (ps : List Slot) (ts : List ValueType) → types_of ps ≡ Some ts → length ts ≡ length ps
types_long [] ts is = ap length (sym (same_some is))
types_long (p ∷ ps) ts is =
    let r = and_then_some (λ t. option_map (λ us. t ∷ us) (types_of ps)) p.value_type ts is in
    let q = map_some (λ us. r.0 ∷ us) (types_of ps) ts r.2 in
    ap length (sym q.2) ∙ ap suc (types_long ps q.0 q.1)

slots_have : (ps : List Slot) (ts : List ValueType) → types_of ps ≡ Some ts → SlotsHave ps ts
slots_have [] ts is = subst (λ (l : List ValueType). SlotsHave [] l) (same_some is) tt
slots_have (p ∷ ps) ts is =
    let r = and_then_some (λ t. option_map (λ us. t ∷ us) (types_of ps)) p.value_type ts is in
    let q = map_some (λ us. r.0 ∷ us) (types_of ps) ts r.2 in
    subst (λ (l : List ValueType). SlotsHave (p ∷ ps) l) q.2 (r.1, slots_have ps q.0 q.1)

trees_are : (T : Table) (ps : List Slot) (ts : List ValueType) → SlotsHave ps ts → map (slot_tree T) ps ≡ type_trees T ts
trees_are T [] [] have = refl
trees_are T (p ∷ ps) (t ∷ ts) have = ap (λ (o : Option ValueType). tree_named T (number_or_int T o) ∷ map (slot_tree T) ps) have.0 ∙ ap (λ l. type_tree T t ∷ l) (trees_are T ps ts have.1)
trees_are T [] (t ∷ ts) have = absurd have
trees_are T (p ∷ ps) [] have = absurd have

wanted_are : (ps : List Slot) (ts : List ValueType) → SlotsHave ps ts → map (λ (p : Slot). wanted_by p.value_type) ps ≡ asked ts
wanted_are [] [] have = refl
wanted_are (p ∷ ps) (t ∷ ts) have = ap (λ (o : Option ValueType). wanted_by o ∷ map (λ (q : Slot). wanted_by q.value_type) ps) have.0 ∙ ap (λ l. wants.Typed t ∷ l) (wanted_are ps ts have.1)
wanted_are [] (t ∷ ts) have = absurd have
wanted_are (p ∷ ps) [] have = absurd have

-- ---- names of results

-- a result with a name has a variable
result_is : (b h : Bool) (site : ℕ) (e : Option ℕ) → entry_of Result b h site ≡ Some e → e ≡ Some site
result_is true h site e is = absurd (none_some is)
result_is false h site e is = (variable_is h site e is).1

abbrev NoNames : List Slot → Type 0
NoNames [] = Unit {0}
NoNames (p ∷ ps) = (p.name ≡ None) × NoNames ps

abbrev AllNames : List Slot → Type 0
AllNames [] = Unit {0}
AllNames (p ∷ ps) = ((n : Name) × (p.name ≡ Some n)) × AllNames ps

abbrev AllSites : List (Option ℕ) → Type 0
AllSites [] = Unit {0}
AllSites (None ∷ es) = ⊥
AllSites (Some site ∷ es) = AllSites es

all_long : (es : List (Option ℕ)) → AllSites es → length (sites_of es) ≡ length es
all_long [] every = refl
all_long (None ∷ es) every = absurd every
all_long (Some site ∷ es) every = ap suc (all_long es every)

all_types : (p : Program) (m : ℕ) (ts : List TypeTree) (es : List (Option ℕ)) → AllSites es → ParamsFit p m ts es → map (site_type p) (sites_of es) ≡ ts
all_types p m [] [] every fit = refl
all_types p m (t ∷ ts) (Some site ∷ es) every fit = ap (λ x. x ∷ map (site_type p) (sites_of es)) fit.2 ∙ ap (λ l. t ∷ l) (all_types p (suc m) ts es every fit.3)
all_types p m (t ∷ ts) (None ∷ es) every fit = absurd every
all_types p m [] (e ∷ es) every fit = absurd fit
all_types p m (t ∷ ts) [] every fit = absurd fit

module _ (text : List ℕ) (heads : Scope) where
  no_names : (ts : TreeExs) → NoNames (map (slot_of text heads) (unnamed_params ts))
  no_names expressions.none = tt
  no_names (some t ts) = (refl, no_names ts)

  field_names : (t : TreeEx) (ns : List Name) (rest : List Param) → AllNames (map (slot_of text heads) rest) → AllNames (map (slot_of text heads) (map (param_with t) ns ++ rest))
  field_names t [] rest all = all
  field_names t (n ∷ ns) rest all = ((n, refl), field_names t ns rest all)

  all_names : (fs : List Field) → AllNames (map (slot_of text heads) (named_params fs))
  all_names [] = tt
  all_names (f ∷ fs) = field_names f.type_expr f.names (named_params fs) (all_names fs)

  none_of : (role : Role) (s : Scope) (o : Option Name) (e : Option ℕ) → o ≡ None → entry_in text role s o ≡ Some e → e ≡ None
  none_of role s None e o_is is = sym (same_some is)
  none_of role s (Some n) e o_is is = absurd (none_some (sym o_is))

  -- without names there are no variables
  entries_unnamed : (role : Role) (s : Scope) (ps : List Slot) (es : List (Option ℕ)) → NoNames ps → entries text role s ps ≡ Some es → sites_of es ≡ []
  entries_unnamed role s [] es none1 is = ap sites_of (sym (same_some is))
  entries_unnamed role s (p ∷ ps) es none1 is =
      let r = and_then_some (λ e. option_map (λ xs. e ∷ xs) (entries text role (behind_entry text s p) ps)) (entry_in text role s p.name) es is in
      let q = map_some (λ xs. r.0 ∷ xs) (entries text role (behind_entry text s p) ps) es r.2 in
      let e_is = none_of role s p.name r.0 none1.0 r.1 in
      ap sites_of (sym q.2) ∙ ap (λ (x : Option ℕ). sites_of (x ∷ q.0)) e_is ∙ entries_unnamed role (behind_entry text s p) ps q.0 none1.1 q.1

  site_of : (s : Scope) (o : Option Name) (n : Name) (e : Option ℕ) → o ≡ Some n → entry_in text Result s o ≡ Some e → e ≡ Some (length s.sites)
  site_of s None n e o_is is = absurd (none_some o_is)
  site_of s (Some m) n e o_is is = result_is (is_blank (spelled text m)) (is_here s (spelled text m)) (length s.sites) e is

  -- results with names have a variable each
  entries_named : (s : Scope) (ps : List Slot) (es : List (Option ℕ)) → AllNames ps → entries text Result s ps ≡ Some es → AllSites es
  entries_named s [] es all is = subst AllSites (same_some is) tt
  entries_named s (p ∷ ps) es all is =
      let r = and_then_some (λ e. option_map (λ xs. e ∷ xs) (entries text Result (behind_entry text s p) ps)) (entry_in text Result s p.name) es is in
      let q = map_some (λ xs. r.0 ∷ xs) (entries text Result (behind_entry text s p) ps) es r.2 in
      let e_is = site_of s p.name all.0.0 r.0 all.0.1 r.1 in
      let later = entries_named (behind_entry text s p) ps q.0 all.1 q.1 in
      subst AllSites q.2 (subst (λ (x : Option ℕ). AllSites (x ∷ q.0)) (sym e_is) later)

  slots_long : (ps : Parameters) → length (slots_of text heads ps) ≡ length (params_of ps)
  slots_long ps = length-map (params_of ps) (slot_of text heads)

  entries_long : (role : Role) (s : Scope) (ps : List Slot) (es : List (Option ℕ)) → entries text role s ps ≡ Some es → length es ≡ length ps
  entries_long role s [] es is = ap length (sym (same_some is))
  entries_long role s (p ∷ ps) es is =
      let r = and_then_some (λ e. option_map (λ xs. e ∷ xs) (entries text role (behind_entry text s p) ps)) (entry_in text role s p.name) es is in
      let q = map_some (λ xs. r.0 ∷ xs) (entries text role (behind_entry text s p) ps) es r.2 in
      ap length (sym q.2) ∙ ap suc (entries_long role (behind_entry text s p) ps q.0 q.1)

  -- the signature of a function counts its parameters and results
  signature_counts : (g : TreeFunction) (sig : Signature) → signature_in text heads g ≡ Some sig → (length sig.params ≡ length (params_of g.params)) × (length sig.results ≡ length (params_of g.results))
  signature_counts g sig is =
      let r = and_then_some (λ ps. option_map (λ rs. record { params = ps; results = rs }) (types_of (slots_of text heads g.results))) (types_of (slots_of text heads g.params)) sig is in
      let q = map_some (λ rs. record { params = r.0; results = rs }) (types_of (slots_of text heads g.results)) sig r.2 in (
        ap (λ (x : Signature). length x.params) (sym q.2) ∙ types_long (slots_of text heads g.params) r.0 r.1 ∙ slots_long g.params,
        ap (λ (x : Signature). length x.results) (sym q.2) ∙ types_long (slots_of text heads g.results) q.0 q.1 ∙ slots_long g.results,
      )

  trees_long : (ps : Parameters) → length (map (slot_tree heads.types) (slots_of text heads ps)) ≡ length (params_of ps)
  trees_long ps = length-map (slots_of text heads ps) (slot_tree heads.types) ∙ slots_long ps

  results_long : (s : Scope) (i : ℕ) (g : TreeFunction) (t : Func) → function text heads s i g ≡ Some t → length t.results ≡ length (params_of g.results)
  results_long s i g t is = let p = (function_some text heads s i g t is).1.1 in ap (λ (x : Func). length x.results) (sym p.3.6) ∙ trees_long g.results

  -- a function has the types that its signature says
  function_types : (s : Scope) (i : ℕ) (g : TreeFunction) (t : Func) (sig : Signature) → function text heads s i g ≡ Some t → signature_in text heads g ≡ Some sig → (t.param_types ≡ type_trees heads.types sig.params) × (t.results ≡ type_trees heads.types sig.results)
  function_types s i g t sig is signed =
      let p = (function_some text heads s i g t is).1.1 in
      let r = and_then_some (λ ps. option_map (λ rs. record { params = ps; results = rs }) (types_of (slots_of text heads g.results))) (types_of (slots_of text heads g.params)) sig signed in
      let q = map_some (λ rs. record { params = r.0; results = rs }) (types_of (slots_of text heads g.results)) sig r.2 in (
        ap (λ (x : Func). x.param_types) (sym p.3.6) ∙ trees_are heads.types (slots_of text heads g.params) r.0 (slots_have (slots_of text heads g.params) r.0 r.1) ∙ ap (λ (x : Signature). type_trees heads.types x.params) q.2,
        ap (λ (x : Func). x.results) (sym p.3.6) ∙ trees_are heads.types (slots_of text heads g.results) q.0 (slots_have (slots_of text heads g.results) q.0 q.1) ∙ ap (λ (x : Signature). type_trees heads.types x.results) q.2,
      )

  -- the words of arguments and results are those of the signature
  abbrev words_of_slots : Parameters → ℕ
  words_of_slots ps = all_width (map (slot_tree heads.types) (slots_of text heads ps))

  signature_words : (g : TreeFunction) (sig : Signature) → signature_in text heads g ≡ Some sig → words heads.types sig ≡ words_of_slots g.params + words_of_slots g.results
  signature_words g sig is =
      let r = and_then_some (λ ps. option_map (λ rs. record { params = ps; results = rs }) (types_of (slots_of text heads g.results))) (types_of (slots_of text heads g.params)) sig is in
      let q = map_some (λ rs. record { params = r.0; results = rs }) (types_of (slots_of text heads g.results)) sig r.2 in
      let params1 = ap all_width (trees_are heads.types (slots_of text heads g.params) r.0 (slots_have (slots_of text heads g.params) r.0 r.1)) in
      let results1 = ap all_width (trees_are heads.types (slots_of text heads g.results) q.0 (slots_have (slots_of text heads g.results) q.0 q.1)) in
      let whole : all_width (type_trees heads.types r.0) + all_width (type_trees heads.types q.0) ≡ words heads.types sig = ap (words heads.types) q.2 in
      omega (arith, params1, results1, whole)

  small_words : (g : TreeFunction) → is_small heads.types (signature_in text heads g) ≡ true → words_of_slots g.params + words_of_slots g.results ≤ 65535
  small_words g is = by (signature_in text heads g) refl is
    where
      by : (sig : Option Signature) → signature_in text heads g ≡ sig → is_small heads.types sig ≡ true → words_of_slots g.params + words_of_slots g.results ≤ 65535
      by None found small = absurd cc
      by (Some sig) found small = let k = signature_words g sig found in omega (arith, leb-true (words heads.types sig) 65535 small, k)

  -- ---- one function

  -- all results have a variable of their type, or none has
  names_of : (p : Program) (m : ℕ) (s : Scope) (ps : Parameters) (ts : List TypeTree) (rs : List (Option ℕ)) → entries text Result s (slots_of text heads ps) ≡ Some rs → ParamsFit p m ts rs → (sites_of rs ≡ []) ⊎ (map (site_type p) (sites_of rs) ≡ ts)
  names_of p m s (unnamed us) ts rs is fit = inl (entries_unnamed Result s (slots_of text heads (unnamed us)) rs (no_names us) is)
  names_of p m s (named fs) ts rs is fit = inr (all_types p m ts rs (entries_named s (slots_of text heads (named fs)) rs (all_names fs) is) fit)

  bare_of : (s : Scope) (ps : Parameters) (rs : List (Option ℕ)) → entries text Result s (slots_of text heads ps) ≡ Some rs → length rs ≡ length (params_of ps) → (b : Bool) → (length (params_of ps) == 0) ≡ b → (b || is_named ps) ≡ true
      → length (params_of ps) ≡ length (sites_of rs)
  bare_of s ps rs found long true zero1 is = let z = eqb-true (length (params_of ps)) 0 zero1 in z ∙ ap (λ l. length (sites_of l)) (sym (empty_list rs (long ∙ z)))
  bare_of s (unnamed ts) rs found long false zero1 is = absurd cc
  bare_of s (named fs) rs found long false zero1 is = sym (all_long rs (entries_named s (slots_of text heads (named fs)) rs (all_names fs) found) ∙ long)

  returns_fit : (s : Scope) (g : TreeFunction) (ts : List ValueType) (rs : List (Option ℕ)) → SlotsHave (slots_of text heads g.results) ts → entries text Result s (slots_of text heads g.results) ≡ Some rs → length rs ≡ length (params_of g.results)
      → ReturnsFit heads.types (returns_of text heads g) (map (slot_tree heads.types) (slots_of text heads g.results)) (length (sites_of rs))
  returns_fit s g ts rs have found long = record {
    types = ts;
    wanted = wanted_are (slots_of text heads g.results) ts have;
    trees = sym (trees_are heads.types (slots_of text heads g.results) ts have);
    bare = λ is. trees_long g.results ∙ bare_of s g.results rs found long (length (params_of g.results) == 0) refl is;
    no_values = λ is. ap (λ l. length (sites_of l)) (empty_list rs (long ∙ (sym (trees_long g.results) ∙ ap length is)));
  }

  module _ (p : Program) (all : List Site) (has : HasSites heads.types p all) (formed : IsFormed heads.types) (no_slice : HoldsNoSlice heads.types) (own : Package) (own_types : own.types ≡ heads.types) (agrees : AreSigned heads.types own.signatures p.funcs) (numbered : AreGlobals heads.types own p) where
    function_fits : (s : Scope) (i : ℕ) (g : TreeFunction) (t : Func) → Visible s [] → package_of s ≡ own → Within p all (behind_function text heads s g) → function text heads s i g ≡ Some t → FuncFits p t
    function_fits s i g t visible signed ext0 is =
        let found = function_some text heads s i g t is in
        let b = found.0 in
        let k = found.1.1 in
        let ps = k.3.0 in
        let rs = k.3.1 in
        let body = k.3.2 in
        let results1 = map (slot_tree heads.types) (slots_of text heads g.results) in
        let types = signature_parts text heads g (small_signed heads.types (signature_in text heads g) k.1) in
        let have_params = slots_have (slots_of text heads g.params) types.0 types.2 in
        let have_results = slots_have (slots_of text heads g.results) types.1 types.3 in
        let behind1 = behind_entries text (params_opened s) (slots_of text heads g.params) in
        let behind2 = behind_entries text (behind_params text heads s g) (slots_of text heads g.results) in
        let inner = body_scope text heads s g in
        let last1 = behind_all text inner b.statements in
        let ext : Within p all last1 = subst (λ (o : Option Body). Within p all (behind_body text heads s g o)) found.1.0 ext0 in
        let ext_inner = extends_twice inner.sites last1.sites all (grows_all text inner b.statements).sites ext.0 in
        let ext_params = extends_twice (behind_params text heads s g).sites inner.sites all (grows_results text heads s g).sites ext_inner in
        let types_are : s.types ≡ heads.types = ap (λ (q : Package). q.types) signed ∙ own_types in
        let params_types : (behind_params text heads s g).types ≡ heads.types = ap (λ (q : Package). q.types) (grows_params text heads s g).kept ∙ types_are in
        let one1 = entries_fit heads.types text p all has Parameter (params_opened s) [] (slots_of text heads g.params) types.0 ps types_are (visible_opened (declares kind.Parameter s) [] (visible_set s [] (declaring kind.Parameter s.setting) refl visible)) have_params k.3.3 ext_params in
        let two1 = entries_fit heads.types text p all has Result (behind_params text heads s g) (params_scope [] ps) (slots_of text heads g.results) types.1 rs params_types (visible_set behind1 (params_scope [] ps) (declaring kind.Result behind1.setting) refl one1.visible) have_results k.3.4 ext_inner in
        let long : length rs ≡ length (params_of g.results) = two1.long ∙ slots_long g.results in
        let goes = returns_fit (behind_params text heads s g) g types.1 rs have_results k.3.4 long in
        let lines = formed_all heads.types text p all has formed no_slice own own_types agrees numbered (returns_of text heads g) results1 (length (sites_of rs)) goes false inner (params_scope (params_scope [] ps) rs) b.statements body (visible_set behind2 (params_scope (params_scope [] ps) rs) (declaring kind.Variable behind2.setting) refl two1.visible) ((grows_body text heads s g).kept ∙ signed) ext k.3.5 in
        let t0 = func text heads s g b ps rs body in
        let named_long = sites_long rs in
        let param_types_are = trees_are heads.types (slots_of text heads g.params) types.0 have_params in
        let result_types_are = trees_are heads.types (slots_of text heads g.results) types.1 have_results in
        let first_is : t0.first + with_sites ps ≡ length (behind_params text heads s g).sites = one1.count in
        let body_is : body_first t0 ≡ length inner.sites = omega (arith, one1.count, two1.count, named_long) in
        let whole : t0.first + t0.count ≡ length last1.sites = omega (arith, one1.count, two1.count, lines.more) in
        let statements1 : StsFit p results1 (length (sites_of rs)) false (params_scope (params_scope [] ps) rs) (length inner.sites) (length last1.sites) body = lines.fit (length last1.sites) (omega arith) in
        subst (FuncFits p) k.3.6
        (record {
          params = subst (λ l. ParamsFit p (length s.sites) l ps) (sym param_types_are) one1.fit;
          named = subst (λ m. NamedFit p m (sites_of rs)) (sym first_is) (named_of_params p (length (behind_params text heads s g).sites) (type_trees heads.types types.1) rs two1.fit);
          names = names_of p (length (behind_params text heads s g).sites) (behind_params text heads s g) g.results results1 rs k.3.4 (subst (λ l. ParamsFit p (length (behind_params text heads s g).sites) l rs) (sym result_types_are) two1.fit);
          count = omega (arith, one1.count, two1.count, lines.more, named_long);
          body = subst (λ n. StsFit p results1 (length (sites_of rs)) false (scope_in t0) (body_first t0) n body) (sym whole)
              (subst (λ m. StsFit p results1 (length (sites_of rs)) false (scope_in t0) m (length last1.sites) body) (sym body_is)
              (subst (λ (l : List ℕ). StsFit p results1 (length (sites_of rs)) false l (length inner.sites) (length last1.sites) body) (named_scope_of (params_scope [] ps) rs) statements1));
          end = finish b body results1 (length (params_of g.results) == 0) refl k.2 (λ ending. sym (ends_same body) ∙ ends_list text (returns_of text heads g) s false inner (inside_grows s (params_opened s) inner (inside_start s (declaring kind.Parameter s.setting)) (grows_body text heads s g)) b.statements body k.3.5 false ending) (trees_long g.results);
          small = small_words g k.1;
        })
      where
        finish : (b : Body) (body : Sts) (ts : List TypeTree) (none1 : Bool) → (length (params_of g.results) == 0) ≡ none1 → (none1 || ends_after text s false b.statements) ≡ true → (ends_after text s false b.statements ≡ true → ends_all body ≡ true) → length ts ≡ length (params_of g.results)
            → (ts ≡ []) ⊎ (ends_all body ≡ true)
        finish b body ts true zero1 is1 same long1 = inl (empty_list ts (long1 ∙ eqb-true (length (params_of g.results)) 0 zero1))
        finish b body ts false zero1 is1 same long1 = inr (same is1)

  -- ---- the functions of a program

  function_at : (s : Scope) (i : ℕ) (ms : List Member) (ts : List Func) → functions text heads s i ms ≡ Some ts → (k : ℕ) (g : TreeFunction) → slice_get (functions_of ms) k ≡ Some g
      → (r : Scope) × ((j : ℕ) × ((t : Func) × ((slice_get ts k ≡ Some t) × (function text heads r j g ≡ Some t))))
  function_at s i [] ts is k g found = absurd (none_some found)
  function_at s i (of_variable v x ∷ ms) ts is k g found = function_at (behind_variable text s v x) i ms ts is k g found
  function_at s i (of_function h ∷ ms) ts is zero g found =
      let r = and_then_some (λ t. option_map (λ us. t ∷ us) (functions text heads (behind_function text heads s h) (1 + i) ms)) (function text heads s i h) ts is in
      let q = map_some (λ us. r.0 ∷ us) (functions text heads (behind_function text heads s h) (1 + i) ms) ts r.2 in
      (s, (i, (r.0, (ap (λ (l : List Func). slice_get l 0) (sym q.2), subst (λ (x : TreeFunction). function text heads s i x ≡ Some r.0) (same_some found) r.1))))
  function_at s i (of_function h ∷ ms) ts is (suc k) g found =
      let r = and_then_some (λ t. option_map (λ us. t ∷ us) (functions text heads (behind_function text heads s h) (1 + i) ms)) (function text heads s i h) ts is in
      let q = map_some (λ us. r.0 ∷ us) (functions text heads (behind_function text heads s h) (1 + i) ms) ts r.2 in
      let later = function_at (behind_function text heads s h) (1 + i) ms q.0 q.1 k g found in
      (later.0, (later.1.0, (later.1.1.0, (ap (λ (l : List Func). slice_get l (suc k)) (sym q.2) ∙ later.1.1.1.0, later.1.1.1.1))))

  module _ (p : Program) (all : List Site) (has : HasSites heads.types p all) (formed : IsFormed heads.types) (no_slice : HoldsNoSlice heads.types) (own : Package) (own_types : own.types ≡ heads.types) (agrees : AreSigned heads.types own.signatures p.funcs) (numbered : AreGlobals heads.types own p) where
    all_fit : (s : Scope) (i : ℕ) (ms : List Member) (ts : List Func) → Visible s [] → package_of s ≡ own → Within p all (behind_members text heads s ms) → functions text heads s i ms ≡ Some ts → (k : ℕ) (t : Func) → slice_get ts k ≡ Some t → FuncFits p t
    all_fit s i [] ts visible signed ext is k t found = absurd (none_some (subst (λ (l : List Func). slice_get l k ≡ Some t) (sym (same_some is)) found))
    all_fit s i (of_variable v x ∷ ms) ts visible signed ext is k t found =
        let keeps = keeps_variable text heads s v x in
        all_fit (behind_variable text s v x) i ms ts (visible_kept s (behind_variable text s v x) [] visible keeps) (keeps.kept ∙ signed) ext is k t found
    all_fit s i (of_function h ∷ ms) ts visible signed ext is k t found =
        let s1 = behind_function text heads s h in
        let r = and_then_some (λ x. option_map (λ us. x ∷ us) (functions text heads s1 (1 + i) ms)) (function text heads s i h) ts is in
        let q = map_some (λ us. r.0 ∷ us) (functions text heads s1 (1 + i) ms) ts r.2 in
        let keeps = keeps_function text heads s h in
        let ext1 = within_before p all s1 (behind_members text heads s1 ms) (keeps_grows s1 (behind_members text heads s1 ms) (keeps_members text heads s1 ms)) ext in
        by k r.0 q.0 (function_fits p all has formed no_slice own own_types agrees numbered s i h r.0 visible signed ext1 r.1)
        (λ j found1. all_fit s1 (1 + i) ms q.0 (visible_kept s s1 [] visible keeps) (keeps.kept ∙ signed) ext q.1 j t found1)
        (subst (λ (l : List Func). slice_get l k ≡ Some t) (sym q.2) found)
      where
        by : (j : ℕ) (x : Func) (us : List Func) → FuncFits p x → ((n : ℕ) → slice_get us n ≡ Some t → FuncFits p t) → slice_get (x ∷ us) j ≡ Some t → FuncFits p t
        by zero x us here1 later found1 = subst (FuncFits p) (same_some found1) here1
        by (suc j) x us here1 later found1 = later j found1

  few_functions : (s : Scope) (i : ℕ) (ms : List Member) (ts : List Func) → functions text heads s i ms ≡ Some ts → i ≤ 4096 → i + length ts ≤ 4096
  few_functions s i [] ts is le = let e : 0 ≡ length ts = ap length (same_some is) in omega (arith, le, e)
  few_functions s i (of_variable v x ∷ ms) ts is le = few_functions (behind_variable text s v x) i ms ts is le
  few_functions s i (of_function h ∷ ms) ts is le =
      let r = and_then_some (λ x. option_map (λ us. x ∷ us) (functions text heads (behind_function text heads s h) (1 + i) ms)) (function text heads s i h) ts is in
      let q = map_some (λ us. r.0 ∷ us) (functions text heads (behind_function text heads s h) (1 + i) ms) ts r.2 in
      let head = (function_some text heads s i h r.0 r.1).1.1.0 in
      let lt = both_true (may_be_named i (is_blank (spelled text h.name)) (declaration s (spelled text h.name))) (nat_lt i 4096) head in
      let rest = few_functions (behind_function text heads s h) (1 + i) ms q.0 q.1 (omega (arith, ltb-true i 4096 lt.1)) in
      let e : suc (length q.0) ≡ length ts = ap length q.2 in
      omega (arith, rest, e)

  signed_function : (gs : List TreeFunction) (k : ℕ) (sig : Signature) → option_and_then (λ o. o) (slice_get (map (signature_in text heads) gs) k) ≡ Some sig → (g : TreeFunction) × ((slice_get gs k ≡ Some g) × (signature_in text heads g ≡ Some sig))
  signed_function [] k sig is = absurd (none_some is)
  signed_function (g ∷ gs) zero sig is = (g, (refl, is))
  signed_function (g ∷ gs) (suc k) sig is = signed_function gs k sig is

  agree : (s : Scope) (ms : List Member) (ts : List Func) → s.signatures ≡ map (signature_in text heads) (functions_of ms) → functions text heads s 0 ms ≡ Some ts → AreSigned heads.types s.signatures ts
  agree s ms ts signatures is k sig found =
      let g = signed_function (functions_of ms) k sig (ap (λ (l : List (Option Signature)). option_and_then (λ o. o) (slice_get l k)) (sym signatures) ∙ found) in
      let at = function_at s 0 ms ts is k g.0 g.1.0 in
      let types = function_types at.0 at.1.0 g.0 at.1.1.0 sig at.1.1.1.1 g.1.1 in
      (at.1.1.0, at.1.1.1.0, types.0, types.1)

  -- the signatures of the package block
  package_signatures : (ds : List Declaration) → (settled text (block text heads ds) (items_in ds)).signatures ≡ map (signature_in text heads) (functions_in text heads ds)
  package_signatures ds =
      let s = block text heads ds in
      settled_kept text (λ (v : Scope). v.signatures ≡ s.signatures) (λ v k i h. h) s (items_in ds) refl ∙ signatures_are text heads (block_with heads) ds

  -- its package variables have the numbers of the members
  package_globals : (ds : List Declaration) → (settled text (block text heads ds) (items_in ds)).globals ≡ member_numbers text (members_in text heads 0 ds)
  package_globals ds =
      let s = block text heads ds in
      settled_kept text (λ (v : Scope). v.globals ≡ s.globals) (λ v k i h. h) s (items_in ds) refl ∙ globals_are text heads (block_with heads) ds
      ∙ sym (members_numbers text heads 0 ds)

-- ---- the sites of a program

sites_solid : (T : Table) → IsFormed T → (sites : List Site) (k : ℕ) → 0 < width (get_or (site_types (trees T) sites) k ints)
sites_solid T formed [] k = omega arith
sites_solid T formed (site ∷ sites) zero = solid T formed site.type_id.0
sites_solid T formed (site ∷ sites) (suc k) = sites_solid T formed sites k

-- a function without parameters and results
abbrev PlainAt : List TreeFunction → ℕ → Type 0
PlainAt gs m = (g : TreeFunction) × ((slice_get gs m ≡ Some g) × ((length (params_of g.params) ≡ 0) × (length (params_of g.results) ≡ 0)))

plain_here : (gs : List TreeFunction) (i m : ℕ) (g : TreeFunction) → slice_get gs i ≡ Some g → (b : Bool) → ((length (params_of g.params) == 0) && (length (params_of g.results) == 0)) ≡ b → cond b (Some i) None ≡ Some m → PlainAt gs m
plain_here gs i m g found true b_is is =
    let both = both_true (length (params_of g.params) == 0) (length (params_of g.results) == 0) b_is in
    (g, (ap (λ k. slice_get gs k) (sym (same_some is)) ∙ found, (eqb-true (length (params_of g.params)) 0 both.0, eqb-true (length (params_of g.results)) 0 both.1)))
plain_here gs i m g found false b_is is = absurd (none_some is)

plain_some : (gs : List TreeFunction) (o : Option ℕ) (m : ℕ) → plain_number gs o ≡ Some m → PlainAt gs m
plain_some gs None m is = absurd (none_some is)
plain_some gs (Some i) m is = by (slice_get gs i) refl is
  where
    by : (o : Option TreeFunction) → slice_get gs i ≡ o → cond (is_plain o) (Some i) None ≡ Some m → PlainAt gs m
    by None found is1 = absurd (none_some is1)
    by (Some g) found is1 = plain_here gs i m g found ((length (params_of g.params) == 0) && (length (params_of g.results) == 0)) refl is1

main_some : (t : Syntax) (h : Scope) (m : ℕ) → main_number t h ≡ Some m → PlainAt (numbered_functions t h) m
main_some t h m is = by (is_main (spelled t.text t.file.package_name)) is
  where
    gs : List TreeFunction
    gs = numbered_functions t h

    by : (b : Bool) → cond b (plain_number gs (number_of (declaration (package_scope t h) (codes "main")))) None ≡ Some m → PlainAt gs m
    by true is1 = plain_some gs (number_of (declaration (package_scope t h) (codes "main"))) m is1
    by false is1 = absurd (none_some is1)

-- without results there are no names for them
plain_function : (text : List ℕ) (heads s : Scope) (i : ℕ) (g : TreeFunction) (t : Func) → function text heads s i g ≡ Some t → length (params_of g.params) ≡ 0 → length (params_of g.results) ≡ 0 → (t.params ≡ []) × ((t.results ≡ []) × (t.named ≡ []))
plain_function text heads s i g t is no_params no_results =
    let p = (function_some text heads s i g t is).1.1 in
    let ps : p.3.0 ≡ [] = empty_list p.3.0 (entries_long text heads Parameter (params_opened s) (slots_of text heads g.params) p.3.0 p.3.3 ∙ slots_long text heads g.params ∙ no_params) in
    let rs : p.3.1 ≡ [] = empty_list p.3.1 (entries_long text heads Result (behind_params text heads s g) (slots_of text heads g.results) p.3.1 p.3.4 ∙ slots_long text heads g.results ∙ no_results) in (
      ap (λ (x : Func). x.params) (sym p.3.6) ∙ ps,
      (empty_list t.results (results_long text heads s i g t is ∙ no_results), ap (λ (x : Func). x.named) (sym p.3.6) ∙ ap sites_of rs),
    )

pub in_form : (t : Syntax) (p : Program) (a : Types t p) → IsFormed a.heads.types → IsInForm p
in_form t p a formed =
    let ds = declarations_in t in
    let h = a.heads in
    let gs = members t h in
    let s = package_scope t h in
    let w = allowed_some (are_supported t.text h s ds) (functions t.text h s 0 gs) a.funcs a.functions in
    let found : functions t.text h s 0 gs ≡ Some a.funcs = w.1 in
    let last1 = behind_members t.text h s gs in
    let same_functions : functions_of gs ≡ numbered_functions t h = members_functions t.text h 0 ds in
    let all = last1.sites in
    let p0 = program_with t h a.funcs a.main in
    let own_types : s.types ≡ h.types = block_types t.text h h.types (block_with h) ds refl in
    let has : HasSites h.types p0 all = record { types = refl; sites = refl; made = refl } in
    let agrees = agree t.text h s gs a.funcs (package_signatures t.text h ds ∙ ap (map (signature_in t.text h)) (sym same_functions)) found in
    let numbered1 : AreGlobals h.types (package_of s) p0 = globals_agree t.text h h.types p0 all has s own_types gs (package_globals t.text h ds) refl refl in
    let g = main_some t h a.main a.main_is in
    let at = function_at t.text h s 0 gs a.funcs found a.main g.0 (ap (λ (l : List TreeFunction). slice_get l a.main) same_functions ∙ g.1.0) in
    let plain = plain_function t.text h at.0 at.1.0 g.0 at.1.1.0 at.1.1.1.1 g.1.1.0 g.1.1.1 in
    let few0 = few_functions t.text h s 0 gs a.funcs found (omega arith) in
    let few : length a.funcs ≤ 4096 = omega (arith, few0) in
    let visible = visible_package t.text h (block_with h) ds (visible_block h.types) in
    let within : Within p0 all last1 = (([], sym (append-nil all)), omega arith) in
    subst IsInForm (sym a.is)
    (record {
      fits = λ k f got. all_fit t.text h p0 all has formed (heads_none t h a.is_heads) (package_of s) own_types agrees numbered1 s 0 gs a.funcs visible refl within found k f got;
      few = few;
      main = (at.1.1.0, at.1.1.1.0, plain.0, plain.1.0, plain.1.1);
      solid = λ site. sites_solid h.types formed all site;
      globals = λ i g got. globals_fit t.text h h.types p0 all has s own_types gs formed a.funcs found refl refl refl i g got;
    })
