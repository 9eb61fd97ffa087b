-- Names with types in a block have sites in the order of the text, of these types, and stand for variables that can be named.
use Rattle.std.proofs.Common.{◌≡◌, ℕ, zero, suc, ◌+◌, ◌≤◌, Bool, true, false, cond, List, [], ◌∷◌, map, get_or, Option, Some, None, refl, sym, ap, ◌∙◌, subst, arith, length, length-append}
use Rattle.std.specs.Prelude.{slice_get, not, ◌&&◌}
use Rattle.std.specs.Option.{option_map}
use Rattle.syntax.specs.declared.expression.Name.{Name}
use Rattle.syntax.specs.Expressions.{spelled}
use Rattle.typed.specs.declared.program.Site.{Site}
use Rattle.typed_syntax.specs.Syntax.{Program, type_in, site_type, is_made}
use Rattle.typed.specs.Tables.{Table}
use Rattle.typed.specs.Trees.{trees, tree_named}
use Rattle.typed.specs.View.{site_types, is_made_kind, made_by_expressions}
use Rattle.typed_syntax.specs.Form.{LeftsFit, sites_after, lefts_after, scope_behind, scope_with, SitesNext, ParamsFit, NamedFit, named_params as with_sites, params_scope}
use Rattle.typed_syntax.specs.Types.{TypeTree, ints}
use Rattle.base.specs.declared.value_type.ValueType.{ValueType}
use Rattle.type_faults.proofs.Options.{and_then_some, map_some, none_some, same_some}
use Rattle.names.specs.Universe.{is_blank}
use Rattle.names.specs.Scope.{Scope, type_tree, type_trees, is_here, with_variable, site_at}
use Rattle.signatures.specs.declared.slots.Slot.{Slot}
use Rattle.signatures.specs.declared.entries.Role.{Role}
use Rattle.signatures.specs.declared.entries.Role.TheVariants.{Parameter, Result}
use Rattle.signatures.specs.Entries.{blank_entry, variable_entry, entry_of, sites_of, entry_left, slot_with, slots_each, entry_in, behind_entry_name, behind_entry, entries, behind_entries}
use Rattle.signatures.proofs.Growth.{Extends, extends_twice, Grows, grows_entries}
use Rattle.signatures.proofs.Visible.{HasSite, has_longer, new_site, IsUnmade, unmade_longer, new_unmade, Visible, visible_with}

-- ---- the sites of a program

pub get_mapped : (types : List TypeTree) (sites : List Site) (k : ℕ) (x : Site) → slice_get sites k ≡ Some x → get_or (site_types types sites) k ints ≡ type_in types x.type_id.0
get_mapped types [] k x is = absurd (none_some is)
get_mapped types (y ∷ sites) zero x is = ap (λ (site : Site). type_in types site.type_id.0) (same_some is)
get_mapped types (y ∷ sites) (suc k) x is = get_mapped types sites k x is

get_made : (sites : List Site) (k : ℕ) (x : Site) → slice_get sites k ≡ Some x → get_or (made_by_expressions sites) k false ≡ is_made_kind x.kind
get_made [] k x is = absurd (none_some is)
get_made (y ∷ sites) zero x is = ap (λ (site : Site). is_made_kind site.kind) (same_some is)
get_made (y ∷ sites) (suc k) x is = get_made sites k x is

-- a program with the types of a table, and with those of these sites and what makes them
pub record HasSites (T : Table) (p : Program) (all : List Site) : Type 0 where
  pub types : p.types ≡ trees T
  pub sites : p.sites ≡ site_types p.types all
  pub made : p.made ≡ made_by_expressions all

module _ (T : Table) (p : Program) (all : List Site) (has : HasSites T p all) where
  pub site_is : (site : ℕ) (t : ValueType) → HasSite T all site t → site_type p site ≡ type_tree T t
  site_is site t h = ap (λ (l : List TypeTree). get_or l site ints) has.sites ∙ get_mapped p.types all site h.0 h.1 ∙ ap (λ ts. type_in ts h.0.type_id.0) has.types ∙ ap (tree_named T) h.2

  -- what a scope with this table shows has its type
  pub site_shown : (s : Scope) → s.types ≡ T → Extends s.sites all → (site : ℕ) (t : ValueType) → HasSite s.types s.sites site t → site_type p site ≡ type_tree T t
  site_shown s types_are e site t h = site_is site t (subst (λ (U : Table). HasSite U all site t) types_are (has_longer s.types s.sites all site t e h))

  -- no expression makes the declared variables of a scope before the end
  pub unmade_shown : (s : Scope) → Extends s.sites all → (site : ℕ) → IsUnmade s.sites site → is_made p site ≡ false
  unmade_shown s e site h =
      let k = unmade_longer s.sites all site e h in ap (λ (l : List Bool). get_or l site false) has.made ∙ get_made all site k.0 k.1 ∙ k.2

-- a scope before the end: its sites are the first ones of the program, which has its strings
abbrev pub Within : Program → List Site → Scope → Type 0
Within p all s = Extends s.sites all × (length s.strings ≤ length p.strings)

pub within_before : (p : Program) (all : List Site) (s r : Scope) → Grows s r → Within p all r → Within p all s
within_before p all s r grow w = (extends_twice s.sites r.sites all grow.sites w.0, omega (arith, grow.strings, w.1))

-- ---- names with these types

abbrev pub SlotsHave : List Slot → List ValueType → Type 0
SlotsHave [] [] = Unit {0}
SlotsHave (p ∷ ps) (t ∷ ts) = (p.value_type ≡ Some t) × SlotsHave ps ts
SlotsHave ps ts = ⊥

pub each_have : (ts : List ValueType) (ns : List Name) → length ts ≡ length ns → SlotsHave (slots_each (Some ts) ns) ts
each_have [] [] long = tt
each_have [] (n ∷ ns) long = absurd (omega (arith, long))
each_have (t ∷ ts) [] long = absurd (omega (arith, long))
each_have (t ∷ ts) (n ∷ ns) long = (refl, each_have ts ns (omega (arith, long)))

pub with_have : (t : ValueType) (ns : List Name) → SlotsHave (map (slot_with (Some t)) ns) (map (λ (n : Name). t) ns)
with_have t [] = tt
with_have t (n ∷ ns) = (refl, with_have t ns)

-- ---- the sites of entries

pub sites_long : (es : List (Option ℕ)) → length (sites_of es) ≡ with_sites es
sites_long [] = refl
sites_long (None ∷ es) = sites_long es
sites_long (Some site ∷ es) = ap suc (sites_long es)

pub left_scope : (scope : List ℕ) (es : List (Option ℕ)) → scope_behind scope (map entry_left es) ≡ params_scope scope es
left_scope scope [] = refl
left_scope scope (None ∷ es) = left_scope scope es
left_scope scope (Some site ∷ es) = left_scope (site ∷ scope) es

pub named_scope_of : (scope : List ℕ) (es : List (Option ℕ)) → params_scope scope es ≡ scope_with scope (sites_of es)
named_scope_of scope [] = refl
named_scope_of scope (None ∷ es) = named_scope_of scope es
named_scope_of scope (Some site ∷ es) = named_scope_of (site ∷ scope) es

module _ (p : Program) where
  -- what they declare lies below the next number
  pub lefts_upto : (m : ℕ) (ts : List TypeTree) (es : List (Option ℕ)) → ParamsFit p m ts es → lefts_after m (map entry_left es) ≤ m + with_sites es
  lefts_upto m [] [] fit = omega arith
  lefts_upto m (t ∷ ts) (None ∷ es) fit = lefts_upto m ts es fit
  lefts_upto m (t ∷ ts) (Some site ∷ es) fit =
      let later = lefts_upto (suc m) ts es fit.3 in subst (λ j. lefts_after (suc j) (map entry_left es) ≤ m + suc (with_sites es)) (sym fit.0) (omega (arith, later))
  lefts_upto m [] (e ∷ es) fit = absurd fit
  lefts_upto m (t ∷ ts) [] fit = absurd fit

  pub sites_upto : (m : ℕ) (ts : List TypeTree) (es : List (Option ℕ)) → ParamsFit p m ts es → sites_after m (sites_of es) ≤ m + with_sites es
  sites_upto m [] [] fit = omega arith
  sites_upto m (t ∷ ts) (None ∷ es) fit = sites_upto m ts es fit
  sites_upto m (t ∷ ts) (Some site ∷ es) fit =
      let later = sites_upto (suc m) ts es fit.3 in subst (λ j. sites_after (suc j) (sites_of es) ≤ m + suc (with_sites es)) (sym fit.0) (omega (arith, later))
  sites_upto m [] (e ∷ es) fit = absurd fit
  sites_upto m (t ∷ ts) [] fit = absurd fit

  pub lefts_of_params : (scope : List ℕ) (m n : ℕ) (ts : List TypeTree) (es : List (Option ℕ)) → ParamsFit p m ts es → m + with_sites es ≤ n → LeftsFit p scope m n ts (map entry_left es)
  lefts_of_params scope m n [] [] fit le = tt
  lefts_of_params scope m n (t ∷ ts) (None ∷ es) fit le = lefts_of_params scope m n ts es fit le
  lefts_of_params scope m n (t ∷ ts) (Some site ∷ es) fit le = (
    (omega (arith, fit.0), omega (arith, fit.0, le), fit.1),
    fit.2,
    subst (λ j. LeftsFit p scope (suc j) n ts (map entry_left es)) (sym fit.0) (lefts_of_params scope (suc m) n ts es fit.3 (omega (arith, le))),
  )
  lefts_of_params scope m n [] (e ∷ es) fit le = absurd fit
  lefts_of_params scope m n (t ∷ ts) [] fit le = absurd fit

  pub next_of_params : (m n : ℕ) (ts : List TypeTree) (es : List (Option ℕ)) → ParamsFit p m ts es → m + with_sites es ≤ n → SitesNext p m n (sites_of es)
  next_of_params m n [] [] fit le = tt
  next_of_params m n (t ∷ ts) (None ∷ es) fit le = next_of_params m n ts es fit le
  next_of_params m n (t ∷ ts) (Some site ∷ es) fit le = (
    (omega (arith, fit.0), omega (arith, fit.0, le), fit.1),
    subst (λ j. SitesNext p (suc j) n (sites_of es)) (sym fit.0) (next_of_params (suc m) n ts es fit.3 (omega (arith, le))),
  )
  next_of_params m n [] (e ∷ es) fit le = absurd fit
  next_of_params m n (t ∷ ts) [] fit le = absurd fit

  pub named_of_params : (m : ℕ) (ts : List TypeTree) (es : List (Option ℕ)) → ParamsFit p m ts es → NamedFit p m (sites_of es)
  named_of_params m [] [] fit = tt
  named_of_params m (t ∷ ts) (None ∷ es) fit = named_of_params m ts es fit
  named_of_params m (t ∷ ts) (Some site ∷ es) fit = (fit.0, fit.1, named_of_params (suc m) ts es fit.3)
  named_of_params m [] (e ∷ es) fit = absurd fit
  named_of_params m (t ∷ ts) [] fit = absurd fit

-- ---- entries are in form

pub record EntriesFit (T : Table) (text : List ℕ) (p : Program) (s : Scope) (scope : List ℕ) (ps : List Slot) (ts : List ValueType) (es : List (Option ℕ)) : Type 0 where
  pub fit : ParamsFit p (length s.sites) (type_trees T ts) es
  pub visible : Visible (behind_entries text s ps) (params_scope scope es)
  pub count : length s.sites + with_sites es ≡ length (behind_entries text s ps).sites
  pub long : length es ≡ length ps

pub blank_is : (role : Role) (e : Option ℕ) → blank_entry role ≡ Some e → e ≡ None
blank_is Parameter e is = sym (same_some is)
blank_is Result e is = absurd (none_some is)

-- a variable: a new one
pub variable_is : (h : Bool) (site : ℕ) (e : Option ℕ) → variable_entry h site ≡ Some e → (h ≡ false) × (e ≡ Some site)
variable_is true site e is = absurd (none_some is)
variable_is false site e is = (refl, sym (same_some is))

-- in a scope with the program's table
module _ (T : Table) (text : List ℕ) (p : Program) (all : List Site) (has : HasSites T p all) where
  pub entries_fit : (role : Role) (s : Scope) (scope : List ℕ) (ps : List Slot) (ts : List ValueType) (es : List (Option ℕ)) → s.types ≡ T → Visible s scope → SlotsHave ps ts → entries text role s ps ≡ Some es → Extends (behind_entries text s ps).sites all
      → EntriesFit T text p s scope ps ts es
  entries_fit role s scope [] (t ∷ ts) es types_are visible types is ext = absurd types
  entries_fit role s scope (q ∷ ps) [] es types_are visible types is ext = absurd types
  entries_fit role s scope [] [] es types_are visible types is ext =
      subst (λ (l : List (Option ℕ)). EntriesFit T text p s scope [] [] l) (same_some is) (record { fit = tt; visible = visible; count = omega arith; long = refl })
  entries_fit role s scope (q ∷ ps) (t ∷ ts) es types_are visible types is ext =
      let r = and_then_some (λ e. option_map (λ xs. e ∷ xs) (entries text role (behind_entry text s q) ps)) (entry_in text role s q.name) es is in
      let k = map_some (λ xs. r.0 ∷ xs) (entries text role (behind_entry text s q) ps) es r.2 in
      subst (λ (l : List (Option ℕ)). EntriesFit T text p s scope (q ∷ ps) (t ∷ ts) l) k.2
      (by q.name refl r.0 k.0 r.1 (ap (λ (o : Option ValueType). entries text role (behind_entry_name text o s q.name) ps) (sym types.0) ∙ k.1)
      (subst (λ (o : Option ValueType). Extends (behind_entries text (behind_entry_name text o s q.name) ps).sites all) types.0 ext)
      (λ s1 scope1 xs k1 v i x. entries_fit role s1 scope1 ps ts xs k1 v types.1 i x))
    where
      Later : Type 0
      Later = (s1 : Scope) (scope1 : List ℕ) (xs : List (Option ℕ)) → s1.types ≡ T → Visible s1 scope1 → entries text role s1 ps ≡ Some xs → Extends (behind_entries text s1 ps).sites all → EntriesFit T text p s1 scope1 ps ts xs

      Whole : Scope → List (Option ℕ) → Type 0
      Whole s1 xs = (ParamsFit p (length s.sites) (type_tree T t ∷ type_trees T ts) xs) × (Visible (behind_entries text s1 ps) (params_scope scope xs)) × (length s.sites + with_sites xs ≡ length (behind_entries text s1 ps).sites) × (length xs ≡ suc (length ps))

      as_fit : (n : Option Name) → q.name ≡ n → (xs : List (Option ℕ)) → Whole (behind_entry_name text (Some t) s n) xs → EntriesFit T text p s scope (q ∷ ps) (t ∷ ts) xs
      as_fit n n_is xs w =
          let w1 : Whole (behind_entry text s q) xs = subst (λ (o : Option ValueType). Whole (behind_entry_name text o s q.name) xs) (sym types.0) (subst (λ (m : Option Name). Whole (behind_entry_name text (Some t) s m) xs) (sym n_is) w) in
          record { fit = w1.0; visible = w1.1; count = w1.2; long = w1.3 }

      nothing : (xs : List (Option ℕ)) → EntriesFit T text p s scope ps ts xs → Whole s (None ∷ xs)
      nothing xs f = (f.fit, f.visible, f.count, ap suc f.long)

      variable : (n : Name) (xs : List (Option ℕ)) → EntriesFit T text p (with_variable (Some t) s (spelled text n) n.pos) (length s.sites ∷ scope) ps ts xs → Extends (behind_entries text (with_variable (Some t) s (spelled text n) n.pos) ps).sites all
          → Whole (with_variable (Some t) s (spelled text n) n.pos) (Some (length s.sites) ∷ xs)
      variable n xs f x =
          let s1 = with_variable (Some t) s (spelled text n) n.pos in
          let one1 : length s1.sites ≡ length s.sites + 1 = length-append s.sites (site_at s.setting s.types (length s.site_names) (spelled text n) t n.pos ∷ []) in
          let next1 : length s1.sites ≡ suc (length s.sites) = omega (arith, one1) in
          let before : Extends s1.sites all = extends_twice s1.sites (behind_entries text s1 ps).sites all (grows_entries text s1 ps).sites x in
          let type_is = site_shown T p all has s1 types_are before (length s.sites) t (new_site s s.setting (spelled text n) t n.pos) in
          let unmade = unmade_shown T p all has s1 before (length s.sites) (new_unmade s s.setting (spelled text n) t n.pos visible.kinds) in
          ((refl, unmade, type_is, subst (λ j. ParamsFit p j (type_trees T ts) xs) next1 f.fit), f.visible, omega (arith, f.count, one1), ap suc f.long)

      with_name : (n : Name) (b h : Bool) (e : Option ℕ) (xs : List (Option ℕ)) → entry_of role b h (length s.sites) ≡ Some e
          → entries text role (cond (not b && not h) (with_variable (Some t) s (spelled text n) n.pos) s) ps ≡ Some xs
          → Extends (behind_entries text (cond (not b && not h) (with_variable (Some t) s (spelled text n) n.pos) s) ps).sites all → Later
          → Whole (cond (not b && not h) (with_variable (Some t) s (spelled text n) n.pos) s) (e ∷ xs)
      with_name n true h e xs e_is xs_is x later = subst (λ (o : Option ℕ). Whole s (o ∷ xs)) (sym (blank_is role e e_is)) (nothing xs (later s scope xs types_are visible xs_is x))
      with_name n false true e xs e_is xs_is x later = let v = variable_is true (length s.sites) e e_is in absurd cc
      with_name n false false e xs e_is xs_is x later =
          let v = variable_is false (length s.sites) e e_is in
          let s1 = with_variable (Some t) s (spelled text n) n.pos in
          subst (λ (o : Option ℕ). Whole s1 (o ∷ xs)) (sym v.1) (variable n xs (later s1 (length s.sites ∷ scope) xs types_are (visible_with s scope (spelled text n) t n.pos visible) xs_is x) x)

      by : (n : Option Name) → q.name ≡ n → (e : Option ℕ) (xs : List (Option ℕ)) → entry_in text role s n ≡ Some e → entries text role (behind_entry_name text (Some t) s q.name) ps ≡ Some xs
          → Extends (behind_entries text (behind_entry_name text (Some t) s q.name) ps).sites all → Later → EntriesFit T text p s scope (q ∷ ps) (t ∷ ts) (e ∷ xs)
      by None n_is e xs e_is xs_is x later =
          let found : entries text role s ps ≡ Some xs = ap (λ (m : Option Name). entries text role (behind_entry_name text (Some t) s m) ps) (sym n_is) ∙ xs_is in
          let x1 : Extends (behind_entries text s ps).sites all = subst (λ (m : Option Name). Extends (behind_entries text (behind_entry_name text (Some t) s m) ps).sites all) n_is x in
          as_fit None n_is (e ∷ xs) (subst (λ (o : Option ℕ). Whole s (o ∷ xs)) (same_some e_is) (nothing xs (later s scope xs types_are visible found x1)))
      by (Some n) n_is e xs e_is xs_is x later =
          let found : entries text role (behind_entry_name text (Some t) s (Some n)) ps ≡ Some xs = ap (λ (m : Option Name). entries text role (behind_entry_name text (Some t) s m) ps) (sym n_is) ∙ xs_is in
          let x1 : Extends (behind_entries text (behind_entry_name text (Some t) s (Some n)) ps).sites all = subst (λ (m : Option Name). Extends (behind_entries text (behind_entry_name text (Some t) s m) ps).sites all) n_is x in
          as_fit (Some n) n_is (e ∷ xs) (with_name n (is_blank (spelled text n)) (is_here s (spelled text n)) e xs e_is found x1 later)
