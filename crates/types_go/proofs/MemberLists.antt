-- What a package has one after the other, from the constants and variables of its declarations.
use Rattle.std.proofs.Common.{◌≡◌, ℕ, ◌+◌, Bool, true, false, cond, List, [], ◌∷◌, ◌++◌, length, map, drop, refl, sym, ap, ◌∙◌, arith, append_assoc, length-append}
use Rattle.syntax.specs.Declarations.{Declaration, constants, variables, types, function}
use Rattle.names.specs.Scope.{Scope}
use Rattle.package_values.specs.Values.{Item}
use Rattle.package_values.specs.Passing.{items_of_decl}
use Rattle.function_heads.specs.PackageBlock.{is_external}
use Rattle.types_go.specs.Functions.{Member, of_function, members_in}
use Rattle.types_go.specs.Passing.{members_of_decl}

-- those after the ones so far
pub behind_those : {A B : Type 0} (f : A → B) (xs ys : List A) (zs : List B) → map f ys ≡ map f xs ++ zs → map f (drop (length xs) ys) ≡ zs
behind_those f [] ys zs is = is
behind_those f (x ∷ xs) [] zs is = cc is
behind_those f (x ∷ xs) (y ∷ ys) zs is = behind_those f xs ys zs (let rest : map f ys ≡ map f xs ++ zs = cc is in rest)

module _ (text : List ℕ) (heads : Scope) where
  pub members_one : (k : ℕ) (d : Declaration) (ds : List Declaration) → members_in text heads k (d ∷ ds) ≡ members_of_decl text heads k d ++ members_in text heads (k + length (items_of_decl d)) ds
  members_one k (constants at specs) ds = refl
  members_one k (variables at specs) ds = refl
  members_one k (types at specs) ds = let e : k ≡ k + 0 = omega arith in ap (λ j. members_in text heads j ds) e
  members_one k (function g) ds = by (is_external text heads g)
    where
      e : k ≡ k + 0
      e = omega arith

      by : (b : Bool) → cond b (members_in text heads k ds) (of_function g ∷ members_in text heads k ds) ≡ cond b [] (of_function g ∷ []) ++ members_in text heads (k + 0) ds
      by true = ap (λ j. members_in text heads j ds) e
      by false = ap (λ j. of_function g ∷ members_in text heads j ds) e

  -- those of one more declaration
  pub members_more : (all before now : List Member) (is js here : List Item) (d : Declaration) (ds : List Declaration) → here ≡ items_of_decl d → all ≡ before ++ members_in text heads (length is) (d ∷ ds)
      → now ≡ before ++ members_of_decl text heads (length is) d → js ≡ is ++ here → all ≡ now ++ members_in text heads (length js) ds
  members_more all before now is js here d ds here_is front now_is js_is =
      let long : length is + length (items_of_decl d) ≡ length js = sym (ap length js_is ∙ length-append is here ∙ ap (λ (l : List Item). length is + length l) here_is) in
      let rest = members_in text heads (length is + length (items_of_decl d)) ds in
      front ∙ ap (λ l. before ++ l) (members_one (length is) d ds) ∙ sym (append_assoc before (members_of_decl text heads (length is) d) rest) ∙ ap (λ l. l ++ rest) (sym now_is) ∙ ap (λ k. now ++ members_in text heads k ds) long
