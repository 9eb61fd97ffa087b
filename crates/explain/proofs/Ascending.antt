-- The tags of a solution ascend.
use Rattle.std.proofs.Common.{◌≡◌, ℕ, zero, suc, ◌≤◌, Bool, List, [], ◌∷◌, map, get_or, Option, Some, None, sym, ap, subst, arith}
use Rattle.std.specs.Prelude.{Vec, slice_get}
use Rattle.std.specs.declared.alloc.Global.{Global}
use Rattle.deref_walk.specs.declared.graph.Edge.{Edge}
use Rattle.value_flows.specs.declared.tags.ParamTags.{ParamTags as ParamTagsData}
use Rattle.value_flows.specs.Syntax.{Program, ParamTags}
use Rattle.value_flows.specs.View.{param_tags_of}
use Rattle.escape_graph.specs.Edges.{params_of}
use Rattle.param_tags.specs.Heap.{listed, IsTaggedAt, AreTagged}
use Rattle.explain.specs.Passing.{Ascend, TagsAscend}

listed_ascend : (b j : ℕ) (os : List (Option ℕ)) → b ≤ j → Ascend b (listed j os)
listed_ascend b j [] h = tt
listed_ascend b j (None ∷ os) h = listed_ascend b (suc j) os (omega arith)
listed_ascend b j (Some n ∷ os) h = (h, listed_ascend (suc j) (suc j) os (omega arith))

tag_ascends : (p : Program) (edges : List Edge) (K : ℕ → Bool) (f : ℕ) (o : Option ℕ) (t : ParamTags) → IsTaggedAt p edges K f o t → Ascend 0 t.results
tag_ascends p edges K f None t h = subst (λ (u : ParamTags). Ascend 0 u.results) (sym h) tt
tag_ascends p edges K f (Some x) t h = subst (Ascend 0) (sym h.listed) (listed_ascend 0 0 h.numbers (omega arith))

all_ascend : (p : Program) (edges : List Edge) (K : ℕ → Bool) (f : ℕ) (os : List (Option ℕ)) (ts : List ParamTags) (j : ℕ) (t : ParamTags) → AreTagged p edges K f os ts → slice_get ts j ≡ Some t → Ascend 0 t.results
all_ascend p edges K f [] [] j t h e = absurd (cc)
all_ascend p edges K f [] (u ∷ ts) j t h e = absurd h
all_ascend p edges K f (o ∷ os) [] j t h e = absurd h
all_ascend p edges K f (o ∷ os) (u ∷ ts) zero t h e = let same : u ≡ t = cc in subst (λ (x : ParamTags). Ascend 0 x.results) same (tag_ascends p edges K f o u h.0)
all_ascend p edges K f (o ∷ os) (u ∷ ts) (suc j) t h e = all_ascend p edges K f os ts j t h.1 e

seen : {A B : Type 0} (view : A → B) (xs : List A) (j : ℕ) (x : A) → slice_get xs j ≡ Some x → slice_get (map view xs) j ≡ Some (view x)
seen view [] j x e = absurd (cc)
seen {A = A} view (y ∷ ys) zero x e = let same : y ≡ x = cc in ap (λ (z : A). Some (view z)) same
seen view (y ∷ ys) (suc j) x e = seen view ys j x e

taken : {B : Type 0} (xs : List B) (j : ℕ) (x d : B) → slice_get xs j ≡ Some x → get_or xs j d ≡ x
taken [] j x d e = absurd (cc)
taken (y ∷ ys) zero x d e = cc
taken (y ∷ ys) (suc j) x d e = taken ys j x d e

pub tags_ascend : TagsAscend
tags_ascend p edges K tags f j ts t h here there =
    let row : Vec ParamTagsData Global → List ParamTags = λ v. map param_tags_of v.items in
    let own : get_or (map row tags.funcs.items) f [] ≡ row ts = taken (map row tags.funcs.items) f (row ts) [] (seen row tags.funcs.items f ts here) in
    all_ascend p edges K f (params_of p f) (row ts) j (param_tags_of t) (subst (AreTagged p edges K f (params_of p f)) own h) (seen param_tags_of ts.items j t there)
