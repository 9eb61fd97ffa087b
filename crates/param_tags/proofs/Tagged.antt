-- Tags of results and of parameters, one after another.
use Rattle.std.proofs.Common.{◌≡◌, ℕ, suc, ◌<◌, ◌+◌, Bool, List, [], ◌∷◌, ◌++◌, Option, Some, None, length, get_or, map, take, refl, sym, subst, ap, ◌∙◌, arith, length-take}
use Rattle.std.proofs.Math.Nat.{add-zero}
use Rattle.std.proofs.lemmas.List.{take_more, map-append, length-map}
use Rattle.std.specs.Option.{option_map}
use Rattle.base.specs.declared.ids.SiteId.{SiteId}
use Rattle.deref_walk.specs.declared.loc.Loc.{Loc}
use Rattle.deref_walk.specs.declared.graph.Edge.{Edge}
use Rattle.value_flows.specs.declared.tags.ResultTag.{ResultTag}
use Rattle.value_flows.specs.declared.program.FuncResult.{FuncResult}
use Rattle.value_flows.specs.Syntax.{Result, Program, ParamTags}
use Rattle.value_flows.specs.declared.tags.ParamTags.{ParamTags as ParamTagsData}
use Rattle.value_flows.specs.View.{result_of, param_tags_of}
use Rattle.escape_graph.specs.Targets.{result_at}
use Rattle.param_tags.specs.Heap.{result_roots, IsTag, AreResultTags, listed, IsTaggedAt, AreTagged}
use Rattle.param_tags.specs.Walks.{AreListed}

-- ---- results

one_on : (j n : ℕ) → suc j + n ≡ j + suc n
one_on j n = omega arith

listed_push : (j : ℕ) (os : List (Option ℕ)) (o : Option ℕ) → listed j (os ++ o ∷ []) ≡ listed j os ++ listed (j + length os) (o ∷ [])
listed_push j [] o = ap (λ (n : ℕ). listed n (o ∷ [])) (sym (add-zero j))
listed_push j (None ∷ os) o = listed_push (suc j) os o ∙ ap (λ (n : ℕ). listed (suc j) os ++ listed n (o ∷ [])) (one_on j (length os))
listed_push j (Some n ∷ os) o = ap (λ (xs : List ResultTag). record { result = j; by = n } ∷ xs) (listed_push (suc j) os o ∙ ap (λ (m : ℕ). listed (suc j) os ++ listed m (o ∷ [])) (one_on j (length os)))

as_many : (E : List Edge) (l : Loc) (f j : ℕ) (rs : List Result) (os : List (Option ℕ)) → AreResultTags E l f j rs os → length os ≡ length rs
as_many E l f j [] [] are = refl
as_many E l f j [] (o ∷ os) are = absurd are
as_many E l f j (r ∷ rs) [] are = absurd are
as_many E l f j (r ∷ rs) (o ∷ os) are = ap suc (as_many E l f (suc j) rs os are.1)

are_push : (E : List Edge) (l : Loc) (f j : ℕ) (rs : List Result) (os : List (Option ℕ)) (r : Result) (o : Option ℕ) → AreResultTags E l f j rs os → IsTag (result_roots (result_at f (j + length rs) r.site)) E l o → AreResultTags E l f j (rs ++ r ∷ []) (os ++ o ∷ [])
are_push E l f j [] [] r o are tag = (subst (λ (n : ℕ). IsTag (result_roots (result_at f n r.site)) E l o) (add-zero j) tag, tt)
are_push E l f j [] (p ∷ os) r o are tag = absurd are
are_push E l f j (q ∷ rs) [] r o are tag = absurd are
are_push E l f j (q ∷ rs) (p ∷ os) r o are tag = (are.0, are_push E l f (suc j) rs os r o are.1 (subst (λ (n : ℕ). IsTag (result_roots (result_at f n r.site)) E l o) (sym (one_on j (length rs))) tag))

pub listed_none : (E : List Edge) (l : Loc) (f : ℕ) → AreListed E l f [] []
listed_none E l f = record { numbers = []; are = tt; listed = refl }

listed_more : (E : List Edge) (l : Loc) (f : ℕ) (rs : List Result) (tags : List ResultTag) (i : ℕ) (r : Result) (o : Option ℕ) → i ≡ 0 + length rs → IsTag (result_roots (result_at f i r.site)) E l o → AreListed E l f rs tags → AreListed E l f (rs ++ r ∷ []) (tags ++ listed i (o ∷ []))
listed_more E l f rs tags i r o place tag a = record {
  numbers = a.numbers ++ o ∷ [];
  are = are_push E l f 0 rs a.numbers r o a.are (subst (λ (n : ℕ). IsTag (result_roots (result_at f n r.site)) E l o) place tag);
  listed =
      let many : 0 + length a.numbers ≡ i = (let same = as_many E l f 0 rs a.numbers a.are in omega arith) in
      ap (λ (xs : List ResultTag). xs ++ listed i (o ∷ [])) a.listed ∙ sym (listed_push 0 a.numbers o ∙ ap (λ (n : ℕ). listed 0 a.numbers ++ listed n (o ∷ [])) many);
}

pub listed_step : (E : List Edge) (l : Loc) (f : ℕ) (xs : List FuncResult) (tags : List ResultTag) (i j : ℕ) (d : FuncResult) (o : Option ℕ) → i < length xs → j ≡ i → IsTag (result_roots (result_at f j (result_of (get_or xs i d)).site)) E l o → AreListed E l f (map result_of (take i xs)) tags → AreListed E l f (map result_of (take (i + 1) xs)) (tags ++ listed j (o ∷ []))
listed_step E l f xs tags i j d o within same tag a =
    let seen : map result_of (take (i + 1) xs) ≡ map result_of (take i xs) ++ result_of (get_or xs i d) ∷ [] = ap (map result_of) (take_more xs i d within) ∙ map-append result_of (take i xs) (get_or xs i d ∷ []) in
    let many : j ≡ 0 + length (map result_of (take i xs)) = omega (arith, length-map (take i xs) result_of, length-take i xs) in
    subst (λ (rs : List Result). AreListed E l f rs (tags ++ listed j (o ∷ []))) (sym seen) (listed_more E l f (map result_of (take i xs)) tags j (result_of (get_or xs i d)) o many tag a)

-- ---- parameters

pub tagged_push : (p : Program) (E : List Edge) (K : ℕ → Bool) (f : ℕ) (os : List (Option ℕ)) (ts : List ParamTags) (o : Option ℕ) (t : ParamTags) → AreTagged p E K f os ts → IsTaggedAt p E K f o t → AreTagged p E K f (os ++ o ∷ []) (ts ++ t ∷ [])
tagged_push p E K f [] [] o t are is = (is, tt)
tagged_push p E K f [] (u ∷ ts) o t are is = absurd are
tagged_push p E K f (q ∷ os) [] o t are is = absurd are
tagged_push p E K f (q ∷ os) (u ∷ ts) o t are is = (are.0, tagged_push p E K f os ts o t are.1 is)

-- the site of a parameter with a name
abbrev pub param_site : Option SiteId → Option ℕ
param_site o = option_map (λ x. x.0) o

pub tagged_step : (p : Program) (E : List Edge) (K : ℕ → Bool) (f : ℕ) (xs : List (Option SiteId)) (ts : List ParamTagsData) (i : ℕ) (d : Option SiteId) (t : ParamTagsData) → i < length xs → IsTaggedAt p E K f (param_site (get_or xs i d)) (param_tags_of t) → AreTagged p E K f (map (option_map (λ x. x.0)) (take i xs)) (map param_tags_of ts) → AreTagged p E K f (map (option_map (λ x. x.0)) (take (i + 1) xs)) (map param_tags_of (ts ++ t ∷ []))
tagged_step p E K f xs ts i d t within is are =
    let sites : List (Option SiteId) → List (Option ℕ) = map (option_map (λ x. x.0)) in
    let seen : sites (take (i + 1) xs) ≡ sites (take i xs) ++ param_site (get_or xs i d) ∷ [] = ap sites (take_more xs i d within) ∙ map-append (option_map (λ x. x.0)) (take i xs) (get_or xs i d ∷ []) in
    let more = tagged_push p E K f (sites (take i xs)) (map param_tags_of ts) (param_site (get_or xs i d)) (param_tags_of t) are is in
    subst (λ (us : List ParamTags). AreTagged p E K f (sites (take (i + 1) xs)) us) (sym (map-append param_tags_of ts (t ∷ []))) (subst (λ (os : List (Option ℕ)). AreTagged p E K f os (map param_tags_of ts ++ param_tags_of t ∷ [])) (sym seen) more)
