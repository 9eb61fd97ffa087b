-- The functions and variables of a package one after the other: those so far, and those still ahead.
use Rattle.std.proofs.Common.{◌≡◌, ℕ, zero, suc, ◌+◌, ◌-◌, ◌<◌, true, false, List, [], ◌∷◌, ◌++◌, map, length, Option, Some, None, refl, sym, ap, ◌∙◌, subst, arith, append-nil, append_assoc}
use Rattle.std.specs.Prelude.{slice_get, ◌==◌}
use Rattle.std.specs.Option.{option_map}
use Rattle.std.specs.Global.{Vec}
use Rattle.std.proofs.lemmas.Bool.{eqb-true}
use Rattle.std.proofs.lemmas.List.{map-append}
use Rattle.base.specs.declared.pos.Pos.{Pos}
use Rattle.syntax.specs.Declarations.{Function as TreeFunction}
use Rattle.typed_syntax.specs.Syntax.{Func}
use Rattle.typed.specs.Trees.{trees}
use Rattle.typed.specs.View.{func_of}
use Rattle.typed_syntax.specs.Types.{TypeTree}
use Rattle.typed.specs.declared.program.Func.{Func as FuncData}
use Rattle.typed.specs.declared.program.PackageVariable.{PackageVariable}
use Rattle.package_values.specs.Values.{Item}
use Rattle.type_faults.specs.declared.fault.Fault.{Fault}
use Rattle.type_faults.specs.Least.{IsLeast, lesser}
use Rattle.type_faults.proofs.Leasts.{Kept, kept_start, kept_more, kept_end}
use Rattle.names.specs.Scope.{Scope}
use Rattle.type_faults.specs.Given.{with_last}
use Rattle.type_faults.proofs.Lists.{joined, joined_start, joined_more, joined_none}
use Rattle.types_go.specs.Functions.{Member, of_function, of_variable, functions_of, behind_variable, globals_of, function, functions, behind_function, behind_members, globals}
use Rattle.types_go.specs.FunctionFaults.{FailsInFunction, FailsInFunctions}
use Rattle.function_heads.specs.Assembled.{IsAt}
use Rattle.types_go.specs.Passing.{AreAt, global_view}
use Rattle.types_go.proofs.Growth.{keeps_function, keeps_variable}
use Rattle.types_go.proofs.Sites.{PlacesKept, places_more, places_all}

abbrev pub places_in : List TreeFunction → List Pos
places_in gs = map (λ g. g.name.pos) gs

abbrev pub views : List TypeTree → Option (List FuncData) → Option (List Func)
views types o = option_map (λ l. map (func_of types) l) o

pub record MembersKept (text : List ℕ) (heads start : Scope) (all rest : List Member) (s : Scope) (i : ℕ) (funcs : Option (List FuncData)) (least : Option Fault) : Type 0 where
  pub given : functions text heads start 0 all ≡ joined (views (trees heads.types) funcs) (functions text heads s i rest)
  pub kept : Kept (FailsInFunctions text heads start 0 all) (FailsInFunctions text heads s i rest) least
  pub scope : behind_members text heads start all ≡ behind_members text heads s rest
  pub places : PlacesKept (places_in (functions_of all)) funcs (places_in (functions_of rest))
  pub inside : 0 < length s.blocks

-- the package variables so far, and those still ahead
abbrev pub GlobalsKept : List ℕ → (heads start : Scope) → (all rest : List Member) → Scope → List PackageVariable → Type 0
GlobalsKept text heads start all rest s gs = globals text heads start all ≡ map global_view gs ++ globals text heads s rest

views_more : (types : List TypeTree) (funcs : Option (List FuncData)) (f : Option FuncData) → views types (with_last funcs f) ≡ with_last (views types funcs) (option_map (func_of types) f)
views_more types None f = refl
views_more types (Some fs) None = refl
views_more types (Some fs) (Some f) = ap Some (map-append (func_of types) fs (f ∷ []))

pub members_start : (text : List ℕ) (heads s : Scope) (all : List Member) → 0 < length s.blocks → MembersKept text heads s all all s 0 (Some []) None
members_start text heads s all inside = record { given = sym (joined_start (functions text heads s 0 all)); kept = kept_start _; scope = refl; places = refl; inside = inside }

module _ (text : List ℕ) (heads start : Scope) (all : List Member) where
  pub function_more : (g : TreeFunction) (ms : List Member) (s : Scope) (i : ℕ) (funcs : Option (List FuncData)) (f : Option FuncData) (least own : Option Fault)
      → MembersKept text heads start all (of_function g ∷ ms) s i funcs least → option_map (func_of (trees heads.types)) f ≡ function text heads s i g → IsAt g.name.pos f → IsLeast (FailsInFunction text heads s i g) own
      → MembersKept text heads start all ms (behind_function text heads s g) (i + 1) (with_last funcs f) (lesser least own)
  function_more g ms s i funcs f least own k found at fails =
      let s1 = behind_function text heads s g in
      let next1 : 1 + i ≡ i + 1 = omega arith in
      let depth : length s1.blocks ≡ length s.blocks = ap length (keeps_function text heads s g).blocks in
      let given1 : functions text heads start 0 all ≡ joined (views (trees heads.types) (with_last funcs f)) (functions text heads s1 (1 + i) ms) =
      k.given ∙ joined_more (views (trees heads.types) funcs) (function text heads s i g) (functions text heads s1 (1 + i) ms) ∙ ap (λ o. joined (with_last (views (trees heads.types) funcs) o) (functions text heads s1 (1 + i) ms)) (sym found) ∙ ap (λ o. joined o (functions text heads s1 (1 + i) ms)) (sym (views_more (trees heads.types) funcs f)) in
      record {
        given = subst (λ j. functions text heads start 0 all ≡ joined (views (trees heads.types) (with_last funcs f)) (functions text heads s1 j ms)) next1 given1;
        kept = subst (λ j. Kept (FailsInFunctions text heads start 0 all) (FailsInFunctions text heads s1 j ms) (lesser least own)) next1
            (kept_more (FailsInFunctions text heads start 0 all) (FailsInFunction text heads s i g) (FailsInFunctions text heads s1 (1 + i) ms) least own k.kept fails);
        scope = k.scope;
        places = places_more (places_in (functions_of all)) funcs f g.name.pos (places_in (functions_of ms)) k.places at;
        inside = omega (arith, depth, k.inside);
      }

  pub variable_more : (v : ℕ) (x : Item) (ms : List Member) (s : Scope) (i : ℕ) (funcs : Option (List FuncData)) (least : Option Fault) → MembersKept text heads start all (of_variable v x ∷ ms) s i funcs least
      → MembersKept text heads start all ms (behind_variable text s v x) i funcs least
  variable_more v x ms s i funcs least k =
      let depth : length (behind_variable text s v x).blocks ≡ length s.blocks = ap length (keeps_variable text heads s v x).blocks in
      record { given = k.given; kept = k.kept; scope = k.scope; places = k.places; inside = omega (arith, depth, k.inside) }

  pub globals_more : (v : ℕ) (x : Item) (ms : List Member) (s : Scope) (gs hs : List PackageVariable) → GlobalsKept text heads start all (of_variable v x ∷ ms) s gs
      → map global_view hs ≡ map global_view gs ++ globals_of text s v x → GlobalsKept text heads start all ms (behind_variable text s v x) hs
  globals_more v x ms s gs hs k is =
      let rest = globals text heads (behind_variable text s v x) ms in
      k ∙ sym (append_assoc (map global_view gs) (globals_of text s v x) rest) ∙ ap (λ l. l ++ rest) (sym is)

  pub globals_all : (s : Scope) (gs : List PackageVariable) → GlobalsKept text heads start all [] s gs → map global_view gs ≡ globals text heads start all
  globals_all s gs k = sym (k ∙ append-nil (map global_view gs))

  views_of : (funcs : Option (Vec FuncData)) → option_map (λ (v : Vec FuncData). map (func_of (trees heads.types)) v.items) funcs ≡ views (trees heads.types) (option_map (λ (v : Vec FuncData). v.items) funcs)
  views_of None = refl
  views_of (Some v) = refl

  pub functions_all : (s : Scope) (i : ℕ) (funcs : Option (Vec FuncData)) (least : Option Fault) → MembersKept text heads start all [] s i (option_map (λ (v : Vec FuncData). v.items) funcs) least
      → option_map (λ (v : Vec FuncData). map (func_of (trees heads.types)) v.items) funcs ≡ functions text heads start 0 all
  functions_all s i funcs least k = views_of funcs ∙ sym (k.given ∙ joined_none (views (trees heads.types) (option_map (λ (v : Vec FuncData). v.items) funcs)))

  pub fault_all : (s : Scope) (i : ℕ) (funcs : Option (List FuncData)) (least : Option Fault) → MembersKept text heads start all [] s i funcs least → IsLeast (FailsInFunctions text heads start 0 all) least
  fault_all s i funcs least k = kept_end (FailsInFunctions text heads start 0 all) (FailsInFunctions text heads s i []) least (λ g h. h) k.kept

  pub places_are : (s : Scope) (i : ℕ) (funcs : Option (List FuncData)) (least : Option Fault) → MembersKept text heads start all [] s i funcs least → AreAt (places_in (functions_of all)) funcs
  places_are s i funcs least k = places_all (places_in (functions_of all)) funcs k.places

-- ---- one of them by its number

pub first_got : {A : Type 0} (x : A) (xs : List A) (n : ℕ) → (n == 0) ≡ true → slice_get (x ∷ xs) n ≡ Some x
first_got x xs n is = ap (λ m. slice_get (x ∷ xs) m) (eqb-true n 0 is)

pub later_got : {A : Type 0} (x : A) (xs : List A) (n : ℕ) → (n == 0) ≡ false → slice_get (x ∷ xs) n ≡ slice_get xs (n - 1)
later_got x xs zero is = absurd cc
later_got x xs (suc n) is = let e : n ≡ suc n - 1 = omega arith in ap (λ m. slice_get xs m) e
