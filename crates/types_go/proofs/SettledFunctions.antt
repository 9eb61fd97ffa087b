-- Where each function has a signature and the package block is settled, the functions have a typed form, or a rule fails in one, and never both.
use Rattle.std.proofs.Common.{◌≡◌, ℕ, ◌+◌, Bool, true, false, cond, List, [], ◌∷◌, ◌⊎◌, inl, inr, map, Option, Some, None, refl, sym, subst}
use Rattle.std.specs.Prelude.{option_and_then, not, nat_lt, nat_le}
use Rattle.std.specs.Option.{option_map}
use Rattle.base.specs.declared.pos.Pos.{Pos}
use Rattle.type_faults.specs.declared.fault.Fault.{Fault}
use Rattle.syntax.specs.Expressions.{spelled}
use Rattle.syntax.specs.Declarations.{Body, Function as TreeFunction}
use Rattle.typed_syntax.specs.Syntax.{Sts, Func}
use Rattle.typed.specs.Tables.{Table}
use Rattle.type_faults.specs.declared.fault.FaultKind.TheVariants.{Redeclared, MissingReturn, TooLarge}
use Rattle.base.specs.declared.value_type.ValueType.{ValueType}
use Rattle.type_faults.specs.Given.{allowed}
use Rattle.type_faults.specs.Faults.{fault, IsFault}
use Rattle.type_faults.proofs.Decided.{Decided, Tested, further, same, mapped, after, both_decided, both_tested}
use Rattle.type_faults.proofs.Options.{and_then_some, map_some}
use Rattle.typed.specs.declared.program.SiteKind.TheVariants as kind
use Rattle.names.specs.declared.settings.Setting.{Setting}
use Rattle.names.specs.declared.scope.Declared.{Declared}
use Rattle.names.specs.Universe.{is_blank}
use Rattle.names.specs.Scope.{Scope, Signature, declaration, known, declaring, after_function, with_site, closed}
use Rattle.names.proofs.Settled.{HasSignature, IsSettled}
use Rattle.package_values.specs.Values.{Item}
use Rattle.signatures.specs.declared.slots.Slot.{Slot}
use Rattle.signatures.specs.declared.entries.Role.TheVariants.{Parameter, Result}
use Rattle.signatures.specs.Entries.{behind_entries}
use Rattle.signatures.specs.EntryFaults.{EntriesFail}
use Rattle.signatures.specs.Signatures.{types_of, words, is_number, may_be_named, is_small}
use Rattle.signatures.specs.Failing.{fault_where}
use Rattle.signatures.specs.SignatureFaults.{function_name_fault, size_fault}
use Rattle.signatures.proofs.SettledEntries.{where_not, settled_set, settled_opened, settled_closed, AllTyped, settled_entries, entries_decided}
use Rattle.function_heads.specs.HeadTypes.{slots_of, signature_in}
use Rattle.function_heads.specs.Heads.{function_head}
use Rattle.function_heads.specs.HeadFaults.{FailsInHead, FailsInWords, external_fault, missing_body_fault}
use Rattle.types_go.specs.Statements.{behind_all}
use Rattle.types_go.specs.Functions.{Member, of_function, of_variable, functions_of, type_or_int, behind_variable, declares, params_opened, behind_params, body_scope, behind_body, behind_function, returns_of, may_end, func, param_entries, result_entries, body_of, parts, function_with, function, functions}
use Rattle.types_go.specs.StatementFaults.{FailsInStatements}
use Rattle.types_go.specs.FunctionFaults.{FailsInParts, FailsWith, FailsInFunction, FailsInFunctions}
use Rattle.given_values.specs.Given.{wanted_by}
use Rattle.given_values.proofs.Places.{Asks, AllAsk}
use Rattle.types_go.proofs.SettledStatements.{settled_all, statements_decided}

name_tested : (i : ℕ) (is_blank : Bool) (d : Option Declared) (at : Pos) → Tested (may_be_named i is_blank d) (IsFault (function_name_fault i is_blank d at))
name_tested i true d at = λ f h. h
name_tested i false d at = where_not (is_number i d) (fault Redeclared at)

small_tested : (T : Table) (sig : Option Signature) (at : Pos) → HasSignature sig → Tested (is_small T sig) (IsFault (size_fault T sig at))
small_tested T None at has = absurd has
small_tested T (Some sig) at has = where_not (nat_le (words T sig) 65535) (fault TooLarge at)

-- three tests before what a function's parts are
three_decided : {A : Type 0} (a b c : Bool) (o : Option A) (P Q R S : Fault → Type 0) → Tested a P → Tested b Q → Tested c S → (b ≡ true → Decided o R) → Decided (allowed a (allowed b (allowed c o))) (λ f. (P f ⊎ Q f) ⊎ (R f ⊎ S f))
three_decided false b c o P Q R S p q s r = (p.0, inl (inl p.1))
three_decided true false c o P Q R S p q s r = (q.0, inl (inr q.1))
three_decided true true false o P Q R S p q s r = (s.0, inr (inr s.1))
three_decided true true true o P Q R S p q s r = further (λ f. P f ⊎ Q f) (λ f. R f ⊎ S f) o (λ f h. elim h [ inl k ↦ p f k | inr k ↦ q f k ])
    (same (λ f. S f ⊎ R f) (λ f. R f ⊎ S f) o (λ f h. elim h [ inl k ↦ inr k | inr k ↦ inl k ]) (λ f h. elim h [ inl k ↦ inr k | inr k ↦ inl k ]) (further S R o s (r refl)))

parts_decided : {A B C D : Type 0} (a : Option A) (b : Option B) (c : Option C) (k : A → B → C → D) (P Q R : Fault → Type 0) → Decided a P → Decided b Q → Decided c R
    → Decided (option_and_then (λ x. option_and_then (λ y. option_map (k x y) c) b) a) (λ f. (P f ⊎ Q f) ⊎ R f)
parts_decided a b c k P Q R p q r = both_decided a b (λ x y. option_map (k x y) c) P Q R p q (λ x y x_is y_is. mapped (k x y) c R r)

pub small_signed : (T : Table) (sig : Option Signature) → is_small T sig ≡ true → HasSignature sig
small_signed T None is = cc is
small_signed T (Some sig) is = tt

pub allowed_some : {A : Type 0} (b : Bool) (o : Option A) (x : A) → allowed b o ≡ Some x → (b ≡ true) × (o ≡ Some x)
allowed_some true o x is = (refl, is)
allowed_some false o x is = cc is

module _ (text : List ℕ) (heads : Scope) where
  -- where all types are known, every variable has one
  all_typed : (ps : List Slot) (ts : List ValueType) → types_of ps ≡ Some ts → AllTyped ps
  all_typed [] ts is = tt
  all_typed (p ∷ ps) ts is =
      let r = and_then_some (λ t. option_map (λ us. t ∷ us) (types_of ps)) p.value_type ts is in
      let q = map_some (λ us. r.0 ∷ us) (types_of ps) ts r.2 in
      (r.0, r.1, all_typed ps q.0 q.1)

  pub signature_parts : (g : TreeFunction) → HasSignature (signature_in text heads g) → (ps rs : List ValueType) × (types_of (slots_of text heads g.params) ≡ Some ps) × (types_of (slots_of text heads g.results) ≡ Some rs)
  signature_parts g has = by (signature_in text heads g) refl has
    where
      by : (sig : Option Signature) → signature_in text heads g ≡ sig → HasSignature sig → (ps rs : List ValueType) × (types_of (slots_of text heads g.params) ≡ Some ps) × (types_of (slots_of text heads g.results) ≡ Some rs)
      by None is has1 = absurd has1
      by (Some sig) is has1 =
          let r = and_then_some (λ ps. option_map (λ rs. record { params = ps; results = rs }) (types_of (slots_of text heads g.results))) (types_of (slots_of text heads g.params)) sig is in
          let q = map_some (λ rs. record { params = r.0; results = rs }) (types_of (slots_of text heads g.results)) sig r.2 in
          (r.0, q.0, r.1, q.1)

  typed_ask : (ps : List Slot) → AllTyped ps → AllAsk (map (λ (p : Slot). wanted_by p.value_type) ps)
  typed_ask [] all = tt
  typed_ask (p ∷ ps) all = (subst (λ (o : Option ValueType). Asks (wanted_by o)) (sym all.1) tt, typed_ask ps all.2)

  -- a function with a signature gives back values of types that are known
  returns_ask : (g : TreeFunction) → HasSignature (signature_in text heads g) → AllAsk (returns_of text heads g).wanted
  returns_ask g has = let t = signature_parts g has in typed_ask (slots_of text heads g.results) (all_typed (slots_of text heads g.results) t.1 t.3)

  pub settled_body : (s : Scope) (g : TreeFunction) → HasSignature (signature_in text heads g) → IsSettled s → IsSettled (body_scope text heads s g)
  settled_body s g has settled =
      let t = signature_parts g has in
      let params = slots_of text heads g.params in
      let results = slots_of text heads g.results in
      let behind1 = behind_entries text (params_opened s) params in
      let r = behind_params text heads s g in
      let behind2 = behind_entries text r results in
      let settled1 = settled_entries text (params_opened s) params (all_typed params t.0 t.2) (settled_opened (declares kind.Parameter s) (settled_set s (declaring kind.Parameter s.setting) settled)) in
      settled_set behind2 (declaring kind.Variable behind2.setting) (settled_entries text r results (all_typed results t.1 t.3) (settled_set behind1 (declaring kind.Result behind1.setting) settled1))

  head_tested : (s : Scope) (i : ℕ) (g : TreeFunction) → Tested (function_head text s i g) (FailsInHead text s i g)
  head_tested s i g =
      both_tested _ _ (may_be_named i (is_blank (spelled text g.name)) (declaration s (spelled text g.name))) (nat_lt i 4096)
      (name_tested i (is_blank (spelled text g.name)) (declaration s (spelled text g.name)) g.name.pos) (where_not (nat_lt i 4096) (fault TooLarge g.name.pos))

  with_decided : (s : Scope) (i : ℕ) (g : TreeFunction) (o : Option Body) → HasSignature (signature_in text heads g) → IsSettled s
      → Decided (function_with text heads s i g o) (FailsWith text heads s i g o)
  with_decided s i g None has settled = by (signature_in text heads g) refl has
    where
      by : (o : Option Signature) → signature_in text heads g ≡ o → HasSignature o → (f : Fault) × FailsWith text heads s i g None f
      by None is has1 = absurd has1
      by (Some sig) is has1 =
          (external_fault g, inr (subst (λ (o : Option Signature). IsFault (missing_body_fault o (external_fault g)) (external_fault g)) (sym is) refl))
  with_decided s i g (Some b) has settled =
      three_decided (function_head text s i g) (is_small heads.types (signature_in text heads g)) (may_end text heads s g b) (parts text heads s g b) (FailsInHead text s i g) (FailsInWords text heads g) (FailsInParts text heads s g b) (IsFault (fault_where (not (may_end text heads s g b)) (fault MissingReturn b.end)))
      (head_tested s i g) (small_tested heads.types (signature_in text heads g) g.name.pos has)
      (where_not (may_end text heads s g b) (fault MissingReturn b.end))
      (λ small. parts_decided (param_entries text heads s g) (result_entries text heads s g) (body_of text heads s g b) (func text heads s g b)
      (EntriesFail text Parameter (params_opened s) (slots_of text heads g.params)) (EntriesFail text Result (behind_params text heads s g) (slots_of text heads g.results)) (FailsInStatements text (returns_of text heads g) false (body_scope text heads s g) b.statements)
      (entries_decided text Parameter (params_opened s) (slots_of text heads g.params)) (entries_decided text Result (behind_params text heads s g) (slots_of text heads g.results))
      (statements_decided text (returns_of text heads g) (returns_ask g has) false (body_scope text heads s g) b.statements (settled_body s g has settled)))

  -- what a typed function is made of
  abbrev pub Made : Scope → ℕ → TreeFunction → Func → Body → Type 0
  Made s i g t b =
      (function_head text s i g ≡ true) × (is_small heads.types (signature_in text heads g) ≡ true) × (may_end text heads s g b ≡ true)
      × ((ps rs : List (Option ℕ)) × (body : Sts) × (param_entries text heads s g ≡ Some ps) × (result_entries text heads s g ≡ Some rs) × (body_of text heads s g b ≡ Some body) × (func text heads s g b ps rs body ≡ t))

  with_some : (s : Scope) (i : ℕ) (g : TreeFunction) (t : Func) (b : Body) → function_with text heads s i g (Some b) ≡ Some t → Made s i g t b
  with_some s i g t b is =
      let a = allowed_some (function_head text s i g) _ t is in
      let e = allowed_some (is_small heads.types (signature_in text heads g)) _ t a.1 in
      let c = allowed_some (may_end text heads s g b) _ t e.1 in
      let p = and_then_some (λ ps. option_and_then (λ rs. option_map (func text heads s g b ps rs) (body_of text heads s g b)) (result_entries text heads s g)) (param_entries text heads s g) t c.1 in
      let q = and_then_some (λ rs. option_map (func text heads s g b p.0 rs) (body_of text heads s g b)) (result_entries text heads s g) t p.2 in
      let r = map_some (func text heads s g b p.0 q.0) (body_of text heads s g b) t q.2 in
      (a.0, e.0, c.0, (p.0, q.0, r.0, p.1, q.1, r.1, r.2))

  -- it has a body
  pub function_some : (s : Scope) (i : ℕ) (g : TreeFunction) (t : Func) → function text heads s i g ≡ Some t → (b : Body) × ((g.body ≡ Some b) × Made s i g t b)
  function_some s i g t is = by g.body refl is
    where
      by : (o : Option Body) → g.body ≡ o → function_with text heads s i g o ≡ Some t → (b : Body) × ((g.body ≡ Some b) × Made s i g t b)
      by None o_is is1 = cc is1
      by (Some b) o_is is1 = (b, (o_is, with_some s i g t b is1))

  pub settled_function : (s : Scope) (i : ℕ) (g : TreeFunction) (t : Func) → IsSettled s → function text heads s i g ≡ Some t → IsSettled (behind_function text heads s g)
  settled_function s i g t settled is =
      let p = function_some s i g t is in
      let b = p.0 in
      let made = p.1.1 in
      subst (λ o. IsSettled (behind_body text heads s g o)) (sym p.1.0)
      (settled_set (closed (behind_all text (body_scope text heads s g) b.statements)) (after_function s.setting)
      (settled_closed (behind_all text (body_scope text heads s g) b.statements)
      (settled_all text (returns_of text heads g) false (body_scope text heads s g) b.statements made.3.2 (settled_body s g (small_signed heads.types (signature_in text heads g) made.1) settled) made.3.5)))

  settled_named : (s : Scope) (x : Setting) (name : List ℕ) (t : ValueType) (at : Pos) (blank : Bool) → IsSettled s → IsSettled (cond blank s (with_site s x name t at))
  settled_named s x name t at true settled = settled
  settled_named s x name t at false settled = record { all = settled.all; formed = settled.formed }

  settled_variable : (s : Scope) (k : ℕ) (v : Item) → IsSettled s → IsSettled (behind_variable text s k v)
  settled_variable s k v settled = settled_named s s.setting (spelled text v.name) (type_or_int (known s k)) v.name.pos (is_blank (spelled text v.name)) settled

  abbrev pub AllSigned : List TreeFunction → Type 0
  AllSigned [] = Unit {0}
  AllSigned (g ∷ gs) = HasSignature (signature_in text heads g) × AllSigned gs

  pub functions_decided : (s : Scope) (i : ℕ) (gs : List Member) → AllSigned (functions_of gs) → IsSettled s
      → Decided (functions text heads s i gs) (FailsInFunctions text heads s i gs)
  functions_decided s i [] signed settled = λ f h. h
  functions_decided s i (of_variable k v ∷ gs) signed settled = functions_decided (behind_variable text s k v) i gs signed (settled_variable s k v settled)
  functions_decided s i (of_function g ∷ gs) signed settled =
      let r = behind_function text heads s g in
      after (function text heads s i g) (λ t. option_map (λ ts. t ∷ ts) (functions text heads r (1 + i) gs)) (FailsInFunction text heads s i g) (FailsInFunctions text heads r (1 + i) gs)
      (with_decided s i g g.body signed.0 settled)
      (λ t is. mapped (λ ts. t ∷ ts) (functions text heads r (1 + i) gs) (FailsInFunctions text heads r (1 + i) gs)
      (functions_decided r (1 + i) gs signed.1 (settled_function s i g t settled is)))

  -- typed functions have signatures
  pub functions_signed : (s : Scope) (i : ℕ) (gs : List Member) (fs : List Func) → functions text heads s i gs ≡ Some fs → AllSigned (functions_of gs)
  functions_signed s i [] fs is = tt
  functions_signed s i (of_variable k v ∷ gs) fs is = functions_signed (behind_variable text s k v) i gs fs is
  functions_signed s i (of_function g ∷ gs) fs is =
      let r = behind_function text heads s g in
      let p = and_then_some (λ t. option_map (λ ts. t ∷ ts) (functions text heads r (1 + i) gs)) (function text heads s i g) fs is in
      let q = map_some (λ ts. p.0 ∷ ts) (functions text heads r (1 + i) gs) fs p.2 in
      (small_signed heads.types (signature_in text heads g) (function_some s i g p.0 p.1).1.1.1, functions_signed r (1 + i) gs q.0 q.1)
