-- The names that a scope shows stand for variables that can be named there, and for package variables by their numbers.
use Rattle.std.proofs.Common.{◌≡◌, ℕ, zero, suc, ◌+◌, ◌<◌, ◌≤◌, Bool, true, false, cond, List, [], ◌∷◌, ◌++◌, ◌⊎◌, inl, inr, length, Option, Some, None, refl, sym, ap, ◌∙◌, subst, arith, length-append}
use Rattle.std.specs.Prelude.{slice_get}
use Rattle.std.specs.Str.{bytes_eq}
use Rattle.base.specs.declared.ids.SiteId.{SiteId}
use Rattle.base.specs.declared.pos.Pos.{Pos}
use Rattle.base.specs.declared.value_type.ValueType.{ValueType}
use Rattle.typed_syntax.specs.Form.{InScope}
use Rattle.typed.specs.Tables.{Table}
use Rattle.typed.specs.View.{is_made_kind}
use Rattle.type_faults.proofs.Options.{none_some}
use Rattle.typed.specs.declared.program.Site.{Site}
use Rattle.names.specs.Blocks.{Names, Blocks, entry_of, or_else, lookup, with_entry, insert}
use Rattle.names.specs.declared.settings.Setting.{Setting}
use Rattle.names.specs.declared.scope.Declared.{Declared}
use Rattle.names.specs.declared.scope.ValueId.{ValueId}
use Rattle.names.specs.declared.scope.GlobalId.{GlobalId}
use Rattle.names.specs.declared.scope.Declared.TheVariants.{Variable, Global}
use Rattle.names.specs.Universe.{predeclared}
use Rattle.names.specs.Scope.{Scope, type_number, numbered, declaration, with_declaration, with_site, with_variable, with_strings, with_setting, opened, site_at, beginning}
use Rattle.names.proofs.Settled.{AreSound, predeclared_is}
use Rattle.signatures.proofs.Growth.{Extends, Package, IsDeclaring, Keeps}

-- the numbers of the names lie below one
abbrev EntriesBelow : ℕ → Names → Type 0
EntriesBelow n [] = Unit {0}
EntriesBelow n (e ∷ es) = (e.1 < n) × EntriesBelow n es

abbrev BlocksBelow : ℕ → Blocks → Type 0
BlocksBelow n [] = Unit {0}
BlocksBelow n (b ∷ bs) = EntriesBelow n b × BlocksBelow n bs

some_same : {A : Type 0} (x y : A) → Some x ≡ Some y → x ≡ y
some_same x y e = cc

entry_below : (n : ℕ) (es : Names) (name : List ℕ) (k : ℕ) → EntriesBelow n es → entry_of es name ≡ Some k → k < n
entry_below n [] name k below is = absurd (none_some is)
entry_below n (e ∷ es) name k below is = by (λ is1. entry_below n es name k below.1 is1) (bytes_eq name e.0) is
  where
    by : (entry_of es name ≡ Some k → k < n) → (b : Bool) → cond b (Some e.1) (entry_of es name) ≡ Some k → k < n
    by later true is1 = let same = some_same e.1 k is1 in omega (arith, below.0, same)
    by later false is1 = later is1

lookup_below : (n : ℕ) (bs : Blocks) (name : List ℕ) (k : ℕ) → BlocksBelow n bs → lookup bs name ≡ Some k → k < n
lookup_below n [] name k below is = absurd (none_some is)
lookup_below n (b ∷ bs) name k below is = by (λ is1. lookup_below n bs name k below.1 is1) (entry_of b name) refl is
  where
    by : (lookup bs name ≡ Some k → k < n) → (o : Option ℕ) → entry_of b name ≡ o → or_else o (lookup bs name) ≡ Some k → k < n
    by later None e is1 = later is1
    by later (Some j) e is1 = entry_below n b name k below.0 (e ∙ is1)

more_entries : (n m : ℕ) → n ≤ m → (es : Names) → EntriesBelow n es → EntriesBelow m es
more_entries n m le [] below = tt
more_entries n m le (e ∷ es) below = (omega (arith, le, below.0), more_entries n m le es below.1)

more_blocks : (n m : ℕ) → n ≤ m → (bs : Blocks) → BlocksBelow n bs → BlocksBelow m bs
more_blocks n m le [] below = tt
more_blocks n m le (b ∷ bs) below = (more_entries n m le b below.0, more_blocks n m le bs below.1)

with_entry_below : (n k : ℕ) → k < n → (es : Names) (name : List ℕ) → EntriesBelow n es → EntriesBelow n (with_entry es name k)
with_entry_below n k lt [] name below = (lt, tt)
with_entry_below n k lt (e ∷ es) name below = by (with_entry_below n k lt es name below.1) (bytes_eq name e.0)
  where
    by : EntriesBelow n (with_entry es name k) → (b : Bool) → EntriesBelow n (cond b ((e.0, k) ∷ es) (e ∷ with_entry es name k))
    by later true = (lt, below.1)
    by later false = (below.0, later)

insert_below : (n k : ℕ) → k < n → (bs : Blocks) (name : List ℕ) → BlocksBelow n bs → BlocksBelow n (insert bs name k)
insert_below n k lt [] name below = tt
insert_below n k lt (b ∷ bs) name below = (with_entry_below n k lt b name below.0, below.1)

-- after an insertion a name has the new number or its old one
entry_with : (es : Names) (name other : List ℕ) (k j : ℕ) → entry_of (with_entry es name k) other ≡ Some j → (j ≡ k) ⊎ (entry_of es other ≡ Some j)
entry_with [] name other k j is = by (bytes_eq other name) is
  where
    by : (b : Bool) → cond b (Some k) None ≡ Some j → (j ≡ k) ⊎ (entry_of [] other ≡ Some j)
    by true is1 = inl (sym (some_same k j is1))
    by false is1 = absurd (none_some is1)
entry_with (e ∷ es) name other k j is = by (λ is1. entry_with es name other k j is1) (bytes_eq name e.0) is
  where
    new1 : (c : Bool) → cond c (Some k) (entry_of es other) ≡ Some j → (j ≡ k) ⊎ (cond c (Some e.1) (entry_of es other) ≡ Some j)
    new1 true is1 = inl (sym (some_same k j is1))
    new1 false is1 = inr is1

    old : (entry_of (with_entry es name k) other ≡ Some j → (j ≡ k) ⊎ (entry_of es other ≡ Some j)) → (c : Bool) → cond c (Some e.1) (entry_of (with_entry es name k) other) ≡ Some j → (j ≡ k) ⊎ (cond c (Some e.1) (entry_of es other) ≡ Some j)
    old later true is1 = inr is1
    old later false is1 = later is1

    by : (entry_of (with_entry es name k) other ≡ Some j → (j ≡ k) ⊎ (entry_of es other ≡ Some j)) → (b : Bool) → entry_of (cond b ((e.0, k) ∷ es) (e ∷ with_entry es name k)) other ≡ Some j → (j ≡ k) ⊎ (entry_of (e ∷ es) other ≡ Some j)
    by later true is1 = new1 (bytes_eq other e.0) is1
    by later false is1 = old later (bytes_eq other e.0) is1

entry_none : (es : Names) (name other : List ℕ) (k : ℕ) → entry_of (with_entry es name k) other ≡ None → entry_of es other ≡ None
entry_none [] name other k is = refl
entry_none (e ∷ es) name other k is = by (λ is1. entry_none es name other k is1) (bytes_eq name e.0) is
  where
    some_none : {A : Type 0} {x : A} → Some x ≡ None → ⊥
    some_none e1 = none_some (sym e1)

    new1 : (c : Bool) → cond c (Some k) (entry_of es other) ≡ None → cond c (Some e.1) (entry_of es other) ≡ None
    new1 true is1 = absurd (some_none is1)
    new1 false is1 = is1

    old : (entry_of (with_entry es name k) other ≡ None → entry_of es other ≡ None) → (c : Bool) → cond c (Some e.1) (entry_of (with_entry es name k) other) ≡ None → cond c (Some e.1) (entry_of es other) ≡ None
    old later true is1 = absurd (some_none is1)
    old later false is1 = later is1

    by : (entry_of (with_entry es name k) other ≡ None → entry_of es other ≡ None) → (b : Bool) → entry_of (cond b ((e.0, k) ∷ es) (e ∷ with_entry es name k)) other ≡ None → entry_of (e ∷ es) other ≡ None
    by later true is1 = new1 (bytes_eq other e.0) is1
    by later false is1 = old later (bytes_eq other e.0) is1

lookup_insert : (bs : Blocks) (name other : List ℕ) (k j : ℕ) → lookup (insert bs name k) other ≡ Some j → (j ≡ k) ⊎ (lookup bs other ≡ Some j)
lookup_insert [] name other k j is = inr is
lookup_insert (b ∷ bs) name other k j is = by (entry_of (with_entry b name k) other) refl is
  where
    by : (o : Option ℕ) → entry_of (with_entry b name k) other ≡ o → or_else o (lookup bs other) ≡ Some j → (j ≡ k) ⊎ (lookup (b ∷ bs) other ≡ Some j)
    by None e is1 = inr (ap (λ o. or_else o (lookup bs other)) (entry_none b name other k e) ∙ is1)
    by (Some i) e is1 = elim (entry_with b name other k j (e ∙ is1)) [ inl n ↦ inl n | inr o ↦ inr (ap (λ p. or_else p (lookup bs other)) o) ]

get_left : (ds es : List Declared) (k : ℕ) → k < length ds → slice_get (ds ++ es) k ≡ slice_get ds k
get_left [] es k lt = absurd (omega (arith, lt))
get_left (d ∷ ds) es zero lt = refl
get_left (d ∷ ds) es (suc k) lt = get_left ds es k (omega (arith, lt))

get_last : (ds : List Declared) (d : Declared) → slice_get (ds ++ d ∷ []) (length ds) ≡ Some d
get_last [] d = refl
get_last (e ∷ ds) d = get_last ds d

-- a site of a type stands at a place of the list
abbrev pub HasSite : Table → List Site → ℕ → ValueType → Type 0
HasSite T sites site t = (x : Site) × (slice_get sites site ≡ Some x) × (x.type_id.0 ≡ type_number T t)

pub got_longer : (a b : List Site) (k : ℕ) (x : Site) → slice_get a k ≡ Some x → slice_get (a ++ b) k ≡ Some x
got_longer [] b k x is = absurd (none_some is)
got_longer (y ∷ a) b zero x is = is
got_longer (y ∷ a) b (suc k) x is = got_longer a b k x is

pub has_longer : (T : Table) (a b : List Site) (site : ℕ) (t : ValueType) → Extends a b → HasSite T a site t → HasSite T b site t
has_longer T a b site t e h = (h.0, ap (λ (l : List Site). slice_get l site) e.1 ∙ got_longer a e.0 site h.0 h.1, h.2)

site_last : (sites : List Site) (x : Site) → slice_get (sites ++ x ∷ []) (length sites) ≡ Some x
site_last [] x = refl
site_last (y ∷ sites) x = site_last sites x

-- the one that a new variable gets
pub new_site : (s : Scope) (x : Setting) (name : List ℕ) (t : ValueType) (at : Pos) → HasSite s.types (with_site s x name t at).sites (length s.sites) t
new_site s x name t at = (_, site_last s.sites (site_at x s.types (length s.site_names) name t at), refl)

-- a site of declared variables stands at a place of the list: no expression makes them
abbrev pub IsUnmade : List Site → ℕ → Type 0
IsUnmade sites site = (x : Site) × (slice_get sites site ≡ Some x) × (is_made_kind x.kind ≡ false)

pub unmade_longer : (a b : List Site) (site : ℕ) → Extends a b → IsUnmade a site → IsUnmade b site
unmade_longer a b site e h = (h.0, ap (λ (l : List Site). slice_get l site) e.1 ∙ got_longer a e.0 site h.0 h.1, h.2)

pub new_unmade : (s : Scope) (x : Setting) (name : List ℕ) (t : ValueType) (at : Pos) → IsDeclaring x → IsUnmade (with_site s x name t at).sites (length s.sites)
new_unmade s x name t at kinds = (_, site_last s.sites (site_at x s.types (length s.site_names) name t at), kinds)

-- what a name stands for that a scope shows: a variable is in scope, with a site of its type; a package variable has its number
abbrev pub IsShown : Table → List ℕ → List Site → List ℕ → Declared → Type 0
IsShown T scope sites globals (Variable site t) = InScope site.0 scope × HasSite T sites site.0 t
IsShown T scope sites globals (Global k g) = slice_get globals g.0 ≡ Some k.0
IsShown T scope sites globals other = Unit {0}

-- with more variables in scope, and more sites
wider_shown : (T : Table) (scope wider : List ℕ) (sites more : List Site) (globals : List ℕ) → ((v : ℕ) → InScope v scope → InScope v wider) → Extends sites more → (d : Declared) → IsShown T scope sites globals d → IsShown T wider more globals d
wider_shown T scope wider sites more globals into e (Variable site t) h = (into site.0 h.0, has_longer T sites more site.0 t e h.1)
wider_shown T scope wider sites more globals into e (Global k g) h = h
wider_shown T scope wider sites more globals into e d h = tt

-- a predeclared name is no variable
predeclared_shown : (T : Table) (scope : List ℕ) (sites : List Site) (globals : List ℕ) (name : List ℕ) (d : Declared) → predeclared name ≡ Some d → IsShown T scope sites globals d
predeclared_shown T scope sites globals name d is = predeclared_is (IsShown T scope sites globals) tt tt (λ b. tt) tt (λ line. tt) tt (λ m. tt) tt tt name d is

-- a name that has a number or none
numbered_shown : (s : Scope) (scope : List ℕ) (sites : List Site) (globals : List ℕ) (name : List ℕ) (o : Option ℕ) (d : Declared) → ((k : ℕ) → o ≡ Some k → slice_get s.declared k ≡ Some d → IsShown s.types scope sites globals d)
    → numbered s name o ≡ Some d → IsShown s.types scope sites globals d
numbered_shown s scope sites globals name None d here is = predeclared_shown s.types scope sites globals name d is
numbered_shown s scope sites globals name (Some k) d here is = here k refl is

-- names have numbers of declarations, those of variables are in scope, with sites of their types, package variables have their numbers,
-- constants are held by their types, and new sites are of declared variables
pub record Visible (s : Scope) (scope : List ℕ) : Type 0 where
  pub bounded : BlocksBelow (length s.declared) s.blocks
  pub shown : (name : List ℕ) (d : Declared) → declaration s name ≡ Some d → IsShown s.types scope s.sites s.globals d
  pub held : AreSound s.values
  pub kinds : IsDeclaring s.setting

-- of a variable, and of a package variable
pub shown_site : (s : Scope) (scope : List ℕ) → Visible s scope → (name : List ℕ) (site : SiteId) (t : ValueType) → declaration s name ≡ Some (Variable site t) → InScope site.0 scope × HasSite s.types s.sites site.0 t
shown_site s scope v name site t is = v.shown name (Variable site t) is

pub shown_number : (s : Scope) (scope : List ℕ) → Visible s scope → (name : List ℕ) (k : ValueId) (g : GlobalId) → declaration s name ≡ Some (Global k g) → slice_get s.globals g.0 ≡ Some k.0
shown_number s scope v name k g is = v.shown name (Global k g) is

-- where no name is declared, whatever the types
pub visible_block : (T : Table) → Visible (record beginning { types = T }) []
visible_block T = record {
  bounded = (tt, tt);
  shown = λ name d is. predeclared_shown T [] [] [] name d is;
  held = λ k f is. absurd (none_some is);
  kinds = refl;
}

pub visible_opened : (s : Scope) (scope : List ℕ) → Visible s scope → Visible (opened s) scope
visible_opened s scope v = record { bounded = (tt, v.bounded); shown = v.shown; held = v.held; kinds = v.kinds }

pub visible_strings : (s : Scope) (scope : List ℕ) (strings : List (List ℕ)) → Visible s scope → Visible (with_strings s strings) scope
visible_strings s scope strings v = record { bounded = v.bounded; shown = v.shown; held = v.held; kinds = v.kinds }

pub visible_set : (s : Scope) (scope : List ℕ) (x : Setting) → IsDeclaring x → Visible s scope → Visible (with_setting s x) scope
visible_set s scope x kinds v = record { bounded = v.bounded; shown = v.shown; held = v.held; kinds = kinds }

-- the same blocks, and more declarations
pub visible_kept : (s r : Scope) (scope : List ℕ) → Visible s scope → Keeps s r → Visible r scope
visible_kept s r scope v k = record {
  bounded = subst (λ bs. BlocksBelow (length r.declared) bs) (sym k.blocks) (more_blocks (length s.declared) (length r.declared) (omega (arith, longer)) s.blocks v.bounded);
  shown = λ name d is. numbered_shown r scope r.sites r.globals name (lookup r.blocks name) d (λ j j_is got. here name d j j_is got) is;
  held = subst AreSound (sym (ap (λ (q : Package). q.values) k.kept)) v.held;
  kinds = k.kinds v.kinds;
}
  where
    longer : length r.declared ≡ length s.declared + length k.declared.0
    longer = ap length k.declared.1 ∙ length-append s.declared k.declared.0

    here : (name : List ℕ) (d : Declared) (j : ℕ) → lookup r.blocks name ≡ Some j → slice_get r.declared j ≡ Some d → IsShown r.types scope r.sites r.globals d
    here name d j j_is got =
        let found : lookup s.blocks name ≡ Some j = ap (λ bs. lookup bs name) (sym k.blocks) ∙ j_is in
        let below = lookup_below (length s.declared) s.blocks name j v.bounded found in
        let old : slice_get s.declared j ≡ Some d = sym (get_left s.declared k.declared.0 j below) ∙ ap (λ ds. slice_get ds j) (sym k.declared.1) ∙ got in
        let known = v.shown name d (ap (numbered s name) found ∙ old) in
        subst (λ (q : Package). IsShown q.types scope r.sites q.globals d) (sym k.kept) (wider_shown s.types scope scope s.sites r.sites s.globals (λ u h. h) k.sites d known)

-- one more declaration, and perhaps more sites
pub visible_more : (s : Scope) (sites : List Site) (scope wider : List ℕ) (name : List ℕ) (d : Declared) → Visible s scope → Extends s.sites sites → ((v : ℕ) → InScope v scope → InScope v wider) → IsShown s.types wider sites s.globals d
    → BlocksBelow (length (s.declared ++ d ∷ [])) (insert s.blocks name (length s.declared))
    × ((other : List ℕ) (e : Declared) → declaration (with_declaration s name d) other ≡ Some e → IsShown s.types wider sites s.globals e)
visible_more s sites scope wider name d v more into new1 =
    (insert_below (length (s.declared ++ d ∷ [])) (length s.declared) (omega (arith, one)) s.blocks name (more_blocks (length s.declared) (length (s.declared ++ d ∷ [])) (omega (arith, one)) s.blocks v.bounded), shown)
  where
    one : length (s.declared ++ d ∷ []) ≡ length s.declared + 1
    one = length-append s.declared (d ∷ [])

    newest : (e : Declared) (k : ℕ) → k ≡ length s.declared → slice_get (s.declared ++ d ∷ []) k ≡ Some e → d ≡ e
    newest e k is got = some_same d e (sym (ap (λ j. slice_get (s.declared ++ d ∷ []) j) is ∙ get_last s.declared d) ∙ got)

    here : (other : List ℕ) (e : Declared) (k : ℕ) → lookup (insert s.blocks name (length s.declared)) other ≡ Some k → slice_get (s.declared ++ d ∷ []) k ≡ Some e → IsShown s.types wider sites s.globals e
    here other e k k_is got =
        elim (lookup_insert s.blocks name other (length s.declared) k k_is) [
          | inl n ↦ subst (λ (x : Declared). IsShown s.types wider sites s.globals x) (newest e k n got) new1
          | inr o ↦ let below = lookup_below (length s.declared) s.blocks other k v.bounded o in
              let known = v.shown other e (ap (numbered s other) o ∙ (sym (get_left s.declared (d ∷ []) k below) ∙ got)) in
              wider_shown s.types scope wider s.sites sites s.globals into more e known
        ]

    shown : (other : List ℕ) (e : Declared) → declaration (with_declaration s name d) other ≡ Some e → IsShown s.types wider sites s.globals e
    shown other e is =
        numbered_shown (with_declaration s name d) wider sites s.globals other (lookup (insert s.blocks name (length s.declared)) other) e (λ k k_is got. here other e k k_is got) is

-- one more variable of a type, and its site in scope
pub visible_with : (s : Scope) (scope name : List ℕ) (u : ValueType) (at : Pos) → Visible s scope → Visible (with_variable (Some u) s name at) (length s.sites ∷ scope)
visible_with s scope name u at v =
    let d : Declared = Variable (record { 0 = length s.sites }) u in
    let w = visible_more s (with_site s s.setting name u at).sites scope (length s.sites ∷ scope) name d v (_, refl) (λ w h. inr h) (inl refl, new_site s s.setting name u at) in
    record { bounded = w.0; shown = w.1; held = v.held; kinds = v.kinds }
