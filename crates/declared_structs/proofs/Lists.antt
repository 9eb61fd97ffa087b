-- Lists that grow at their ends, and a type after prefixes that stand before it.
use Rattle.std.proofs.Common.{◌≡◌, ℕ, List, [], ◌∷◌, ◌++◌, map, Option, Some, None, refl, sym, ap, ◌∙◌, append_assoc, append-nil}
use Rattle.std.specs.Option.{option_map}
use Rattle.std.proofs.lemmas.List.{map-append}
use Rattle.struct_sizes.specs.declared.forms.Prefix.{Prefix}
use Rattle.struct_sizes.specs.declared.forms.Prefix.TheVariants.{Array}
use Rattle.struct_sizes.specs.declared.forms.Base.{Base}
use Rattle.struct_sizes.specs.Structs.{Prefixed}
use Rattle.declared_structs.specs.Forms.{plain, array_of}
use Rattle.declared_structs.specs.Passing.{behind}

-- what a list has after one more item and what follows it
pub one_more : {A B : Type 0} (view : A → B) (xs : List A) (x : A) (ys : List B) → map view xs ++ view x ∷ ys ≡ map view (xs ++ x ∷ []) ++ ys
one_more view xs x ys = sym (ap (λ l. l ++ ys) (map-append view xs (x ∷ [])) ∙ append_assoc (map view xs) (view x ∷ []) ys)

pub behind_plain : (ps : List Prefix) (o : Option Base) → option_map (λ b. record { prefixes = ps; base = b }) o ≡ option_map (behind ps) (option_map plain o)
behind_plain ps None = refl
behind_plain ps (Some b) = ap (λ l. Some (record { prefixes = l; base = b })) (sym (append-nil ps))

pub behind_array : (ps : List Prefix) (n : ℕ) (o : Option Prefixed) → option_map (behind (ps ++ Array n ∷ [])) o ≡ option_map (behind ps) (option_map (array_of n) o)
behind_array ps n None = refl
behind_array ps n (Some t) = ap (λ l. Some (record { prefixes = l; base = t.base })) (append_assoc ps (Array n ∷ []) t.prefixes)

pub behind_none : (o : Option Prefixed) → option_map (behind []) o ≡ o
behind_none None = refl
behind_none (Some t) = refl
