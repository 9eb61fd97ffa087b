-- What names with types keep of a scope: the blocks outside the innermost one, the declarations before it, and what it has of the
-- package.
-- There are at least as many strings after it.
use Rattle.std.proofs.Common.{◌≡◌, ℕ, ◌≤◌, Bool, true, false, cond, List, [], ◌∷◌, ◌++◌, length, Option, Some, None, refl, sym, ap, ◌∙◌, subst, arith, append-nil, append_assoc, length-append}
use Rattle.std.specs.Prelude.{⊤, not, ◌&&◌}
use Rattle.std.specs.List.{AllByRecursion}
use Rattle.base.specs.declared.pos.Pos.{Pos}
use Rattle.std.specs.Str.{bytes_eq}
use Rattle.names.specs.declared.scope.Known.{Known}
use Rattle.base.specs.declared.value_type.ValueType.{ValueType}
use Rattle.syntax.specs.declared.expression.Name.{Name}
use Rattle.syntax.specs.Expressions.{spelled}
use Rattle.typed.specs.declared.program.Site.{Site}
use Rattle.typed.specs.Tables.{Table}
use Rattle.typed.specs.View.{is_made_kind}
use Rattle.names.specs.Blocks.{Names, Blocks, with_entry, insert}
use Rattle.names.specs.declared.settings.Setting.{Setting}
use Rattle.names.specs.declared.scope.Declared.{Declared}
use Rattle.names.specs.declared.scope.Declared.TheVariants.{Variable, Untyped}
use Rattle.names.specs.Universe.{is_blank}
use Rattle.names.specs.Scope.{Scope, Signature, is_here, with_variable, with_strings, with_setting, outer, opened, closed}
use Rattle.signatures.specs.declared.slots.Slot.{Slot}
use Rattle.signatures.specs.Entries.{behind_entry_name, behind_entry, behind_entries}

-- what statements and parameters declare
abbrev pub IsLocal : Declared → Type 0
IsLocal (Variable site t) = ⊤
IsLocal Untyped = ⊤
IsLocal other = ⊥

-- some declarations, and more of statements after them
abbrev pub Longer : List Declared → List Declared → Type 0
Longer ds es = (more : List Declared) × (es ≡ ds ++ more) × AllByRecursion IsLocal more

-- some sites, and more after them
abbrev pub Extends : List Site → List Site → Type 0
Extends a b = (more : List Site) × (b ≡ a ++ more)

-- what a scope has of its package: the signatures of the functions, what is known of the constants and variables, the numbers of these, the
-- types, and the fields of the structs
pub record Package : Type 0 where
  pub signatures : List (Option Signature)
  pub values : List (Option Known)
  pub globals : List ℕ
  pub types : Table
  pub fields : List Blocks

abbrev pub package_of : Scope → Package
package_of s = record { signatures = s.signatures; values = s.values; globals = s.globals; types = s.types; fields = s.fields }

-- new sites are of declared variables, which no expression makes
abbrev pub IsDeclaring : Setting → Type 0
IsDeclaring x = is_made_kind x.kind ≡ false

-- the numbers of the names in a block, and in the innermost one, are not below one
abbrev pub EntriesAbove : ℕ → Names → Type 0
EntriesAbove n [] = Unit {0}
EntriesAbove n (e ∷ es) = (n ≤ e.1) × EntriesAbove n es

abbrev pub InnerAbove : ℕ → Blocks → Type 0
InnerAbove n [] = Unit {0}
InnerAbove n (b ∷ bs) = EntriesAbove n b

-- the names of the innermost block that are new have numbers after those of the declarations so far
pub record Grows (s r : Scope) : Type 0 where
  pub around : outer r.blocks ≡ outer s.blocks
  pub depth : length r.blocks ≡ length s.blocks
  pub newer : (n : ℕ) → n ≤ length s.declared → InnerAbove n s.blocks → InnerAbove n r.blocks
  pub declared : Longer s.declared r.declared
  pub sites : Extends s.sites r.sites
  pub kept : package_of r ≡ package_of s
  pub strings : length s.strings ≤ length r.strings
  pub kinds : IsDeclaring s.setting → IsDeclaring r.setting

-- the same blocks, and more declarations
pub record Keeps (s r : Scope) : Type 0 where
  pub blocks : r.blocks ≡ s.blocks
  pub declared : Longer s.declared r.declared
  pub sites : Extends s.sites r.sites
  pub kept : package_of r ≡ package_of s
  pub strings : length s.strings ≤ length r.strings
  pub kinds : IsDeclaring s.setting → IsDeclaring r.setting

pub extends_none : (a : List Site) → Extends a a
extends_none a = ([], sym (append-nil a))

pub extends_twice : (a b c : List Site) → Extends a b → Extends b c → Extends a c
extends_twice a b c p q = (p.0 ++ q.0, q.1 ∙ ap (λ l. l ++ q.0) p.1 ∙ append_assoc a p.0 q.0)

pub extends_length : (a b : List Site) → Extends a b → length a ≤ length b
extends_length a b e = let whole = ap length e.1 ∙ length-append a e.0 in omega (arith, whole)

pub longer_twice : (a b c : List Declared) → Longer a b → Longer b c → Longer a c
longer_twice a b c p q = (p.0 ++ q.0, q.1 ∙ ap (λ l. l ++ q.0) p.1 ∙ append_assoc a p.0 q.0, all_both p.0 p.2)
  where
    all_both : (ds : List Declared) → AllByRecursion IsLocal ds → AllByRecursion IsLocal (ds ++ q.0)
    all_both [] all = q.2
    all_both (d ∷ ds) all = (all.0, all_both ds all.1)

pub longer_length : (a b : List Declared) → Longer a b → length a ≤ length b
longer_length a b p = let whole = ap length p.1 ∙ length-append a p.0 in omega (arith, whole)

-- the table of types stays
pub grows_types : (s r : Scope) → Grows s r → r.types ≡ s.types
grows_types s r g = ap (λ (q : Package). q.types) g.kept

pub grows_none : (s : Scope) → Grows s s
grows_none s = record { around = refl; depth = refl; newer = λ n le above. above; declared = ([], sym (append-nil s.declared), tt); sites = extends_none s.sites; kept = refl; strings = omega arith; kinds = λ k. k }

pub grows_twice : (a b c : Scope) → Grows a b → Grows b c → Grows a c
grows_twice a b c p q = record {
  around = q.around ∙ p.around;
  depth = q.depth ∙ p.depth;
  newer = λ n le above. q.newer n (omega (arith, le, longer_length a.declared b.declared p.declared)) (p.newer n le above);
  declared = longer_twice a.declared b.declared c.declared p.declared q.declared;
  sites = extends_twice a.sites b.sites c.sites p.sites q.sites;
  kept = q.kept ∙ p.kept;
  strings = omega (arith, p.strings, q.strings);
  kinds = λ k. q.kinds (p.kinds k);
}

pub keeps_twice : (a b c : Scope) → Keeps a b → Keeps b c → Keeps a c
keeps_twice a b c p q = record {
  blocks = q.blocks ∙ p.blocks;
  declared = longer_twice a.declared b.declared c.declared p.declared q.declared;
  sites = extends_twice a.sites b.sites c.sites p.sites q.sites;
  kept = q.kept ∙ p.kept;
  strings = omega (arith, p.strings, q.strings);
  kinds = λ k. q.kinds (p.kinds k);
}

pub keeps_none : (s : Scope) → Keeps s s
keeps_none s = record { blocks = refl; declared = ([], sym (append-nil s.declared), tt); sites = extends_none s.sites; kept = refl; strings = omega arith; kinds = λ k. k }

pub keeps_grows : (s r : Scope) → Keeps s r → Grows s r
keeps_grows s r k = record { around = ap outer k.blocks; depth = ap length k.blocks; newer = λ n le above. subst (InnerAbove n) (sym k.blocks) above; declared = k.declared; sites = k.sites; kept = k.kept; strings = k.strings; kinds = k.kinds }

-- more strings
pub keeps_strings : (s : Scope) (strings : List (List ℕ)) → Keeps s (with_strings s strings)
keeps_strings s strings =
    let long = length-append s.strings strings in
    record { blocks = refl; declared = ([], sym (append-nil s.declared), tt); sites = extends_none s.sites; kept = refl; strings = omega (arith, long); kinds = λ k. k }

pub grows_strings : (s : Scope) (strings : List (List ℕ)) → Grows s (with_strings s strings)
grows_strings s strings = keeps_grows s (with_strings s strings) (keeps_strings s strings)

-- another setting
pub keeps_set : (s : Scope) (x : Setting) → (IsDeclaring s.setting → IsDeclaring x) → Keeps s (with_setting s x)
keeps_set s x kinds = record { blocks = refl; declared = ([], sym (append-nil s.declared), tt); sites = extends_none s.sites; kept = refl; strings = omega arith; kinds = kinds }

-- the setting before again
pub keeps_back : (s r : Scope) → Keeps s r → Keeps s (with_setting r s.setting)
keeps_back s r k = record { blocks = k.blocks; declared = k.declared; sites = k.sites; kept = k.kept; strings = k.strings; kinds = λ h. h }

-- after a block
pub keeps_inner : (s r : Scope) → Grows (opened s) r → Keeps s (closed r)
keeps_inner s r g = record { blocks = g.around; declared = g.declared; sites = g.sites; kept = g.kept; strings = g.strings; kinds = g.kinds }

insert_outer : (bs : Blocks) (name : List ℕ) (k : ℕ) → outer (insert bs name k) ≡ outer bs
insert_outer [] name k = refl
insert_outer (b ∷ bs) name k = refl

insert_length : (bs : Blocks) (name : List ℕ) (k : ℕ) → length (insert bs name k) ≡ length bs
insert_length [] name k = refl
insert_length (b ∷ bs) name k = refl

with_entry_above : (n k : ℕ) → n ≤ k → (es : Names) (name : List ℕ) → EntriesAbove n es → EntriesAbove n (with_entry es name k)
with_entry_above n k le [] name above = (le, tt)
with_entry_above n k le (e ∷ es) name above = by (with_entry_above n k le es name above.1) (bytes_eq name e.0)
  where
    by : EntriesAbove n (with_entry es name k) → (b : Bool) → EntriesAbove n (cond b ((e.0, k) ∷ es) (e ∷ with_entry es name k))
    by later true = (le, above.1)
    by later false = (above.0, later)

insert_above : (n k : ℕ) → n ≤ k → (bs : Blocks) (name : List ℕ) → InnerAbove n bs → InnerAbove n (insert bs name k)
insert_above n k le [] name above = tt
insert_above n k le (b ∷ bs) name above = with_entry_above n k le b name above

pub grows_variable : (t : Option ValueType) (s : Scope) (name : List ℕ) (at : Pos) → Grows s (with_variable t s name at)
grows_variable (Some t) s name at = record { around = insert_outer s.blocks name _; depth = insert_length s.blocks name _; newer = λ n le above. insert_above n (length s.declared) le s.blocks name above; declared = (_, refl, (tt, tt)); sites = (_, refl); kept = refl; strings = omega arith; kinds = λ k. k }
grows_variable None s name at = record { around = insert_outer s.blocks name _; depth = insert_length s.blocks name _; newer = λ n le above. insert_above n (length s.declared) le s.blocks name above; declared = (_, refl, (tt, tt)); sites = extends_none s.sites; kept = refl; strings = omega arith; kinds = λ k. k }

grows_where : (b : Bool) (t : Option ValueType) (s : Scope) (name : List ℕ) (at : Pos) → Grows s (cond b (with_variable t s name at) s)
grows_where true t s name at = grows_variable t s name at
grows_where false t s name at = grows_none s

module _ (text : List ℕ) where
  grows_entry : (t : Option ValueType) (s : Scope) (n : Option Name) → Grows s (behind_entry_name text t s n)
  grows_entry t s None = grows_none s
  grows_entry t s (Some n) = grows_where (not (is_blank (spelled text n)) && not (is_here s (spelled text n))) t s (spelled text n) n.pos

  pub grows_entries : (s : Scope) (ps : List Slot) → Grows s (behind_entries text s ps)
  grows_entries s [] = grows_none s
  grows_entries s (p ∷ ps) = grows_twice s (behind_entry text s p) (behind_entries text (behind_entry text s p) ps) (grows_entry p.value_type s p.name) (grows_entries (behind_entry text s p) ps)
