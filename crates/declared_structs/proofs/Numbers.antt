-- The structs of declarations by their numbers.
use Rattle.std.proofs.Common.{◌≡◌, ℕ, zero, suc, List, [], ◌∷◌, ◌++◌, map, drop, Bor, Option, Some, None, refl, sym, ap, ◌∙◌, subst}
use Rattle.std.specs.Prelude.{slice_get}
use Rattle.std.proofs.lemmas.List.{map-append}
use Rattle.syntax.specs.declared.declaration.TypeSpec.{TypeSpec as TypeSpecData}
use Rattle.syntax.specs.Declarations.{type_spec_of, TypeSpec, Declaration, constants, variables, types, function}
use Rattle.type_faults.specs.declared.fault.Fault.{Fault}
use Rattle.type_faults.specs.Least.{IsLeast}
use Rattle.struct_sizes.specs.Words.{IsTable}
use Rattle.struct_sizes.proofs.Sums.{one_table}
use Rattle.names.specs.Scope.{Scope}
use Rattle.declared_structs.specs.Forms.{structs_in}
use Rattle.declared_structs.specs.Passing.{types_of, spec_views}
use Rattle.declared_structs.specs.Faults.{SizesFail, type_specs_in, SizesOfAllFail}

-- the same faults
pub least_same : (P Q : Fault → Type 0) (b : Option Fault) → ((f : Fault) → P f → Q f) → ((f : Fault) → Q f → P f) → IsLeast P b → IsLeast Q b
least_same P Q None into back least = λ f h. least f (back f h)
least_same P Q (Some f) into back least = (into f least.0, λ g h. least.1 g (back g h))

-- what stands at a number as it lies in memory
pub drop_views : (xs : List (Bor TypeSpecData)) (k : ℕ) (x : Bor TypeSpecData) (rest : List (Bor TypeSpecData)) → drop k xs ≡ x ∷ rest → drop k (spec_views xs) ≡ type_spec_of x.now ∷ spec_views rest
drop_views xs zero x rest is = ap spec_views is
drop_views [] (suc k) x rest is = absurd cc is
drop_views (y ∷ xs) (suc k) x rest is = drop_views xs k x rest is

module _ (text : List ℕ) (s : Scope) where
  pub structs_mapped : (ds : List Declaration) → structs_in text s ds ≡ map (types_of text s) (type_specs_in ds)
  structs_mapped [] = refl
  structs_mapped (constants at specs ∷ ds) = structs_mapped ds
  structs_mapped (variables at specs ∷ ds) = structs_mapped ds
  structs_mapped (types at specs ∷ ds) = ap (λ l. map (types_of text s) specs ++ l) (structs_mapped ds) ∙ sym (map-append (types_of text s) specs (type_specs_in ds))
  structs_mapped (function f ∷ ds) = structs_mapped ds

  -- what stands at a number of some
  pub get_dropped : (ts : List TypeSpec) (k : ℕ) (t : TypeSpec) (rest : List TypeSpec) → drop k ts ≡ t ∷ rest → slice_get (map (types_of text s) ts) k ≡ Some (types_of text s t)
  get_dropped [] zero t rest is = absurd cc is
  get_dropped [] (suc k) t rest is = absurd cc is
  get_dropped (x ∷ ts) zero t rest is = let e : x ≡ t = cc in ap (λ y. Some (types_of text s y)) e
  get_dropped (x ∷ ts) (suc k) t rest is = get_dropped ts k t rest is

  -- the words of all structs are one table
  pub all_least : (ds : List Declaration) (table : List (Option ℕ)) (o : Option Fault) → IsTable (structs_in text s ds) table → IsLeast (SizesFail text s (structs_in text s ds) table 0 (type_specs_in ds)) o → IsLeast (SizesOfAllFail text s ds) o
  all_least ds table o is least =
      let ss = structs_in text s ds in
      least_same (SizesFail text s ss table 0 (type_specs_in ds)) (SizesOfAllFail text s ds) o (λ f h. record { table = table; is_table = is; fails = h })
      (λ f h. subst (λ u. SizesFail text s ss u 0 (type_specs_in ds) f) (one_table ss h.table table h.is_table is) h.fails) least
