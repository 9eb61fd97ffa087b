-- The paths of the sites that are on the heap by flow, one batch after the other.
use Rattle.std.proofs.Common.{◌≡◌, inl, inr, ℕ, false, List, [], ◌∷◌, ◌++◌, Option, length, get_or, take, drop, sym, subst, ap, ◌∙◌, ◌<◌, ◌≤◌, ◌+◌, suc}
use Rattle.std.specs.List.{Contains}
use Rattle.std.specs.Prelude.{slice_get, Some, Vec}
use Rattle.std.specs.declared.alloc.Global.{Global}
use Rattle.std.proofs.lemmas.List.{take_all}
use Rattle.std.proofs.lemmas.List.Elements.{Contains-append_left, Contains-push}
use Rattle.base.specs.declared.ids.FuncId.{FuncId}
use Rattle.deref_walk.specs.declared.loc.Loc.{Loc}
use Rattle.deref_walk.specs.declared.graph.Edge.{Edge}
use Rattle.deref_walk.specs.declared.levels.Step.{Step}
use Rattle.value_flows.specs.Syntax.{Program, Tags}
use Rattle.escape_graph.specs.Edges.{numbers, is_own, tags_of, batch_edges, whole_edges}
use Rattle.value_flows.specs.declared.placed.Placed.{Placed}
use Rattle.value_flows.specs.declared.placed.Placed.TheVariants.{Flow}
use Rattle.param_tags.specs.Heap.{placed_at}
use Rattle.param_tags.specs.Order.{AreOrdered}
use Rattle.param_tags.specs.Paths.{IsPath, path_at, ArePaths, KeepsPaths}
use Rattle.param_tags.specs.Solved.{first_placements}
use Rattle.param_tags.proofs.Places.{at_end, before_end}
use Rattle.param_tags.proofs.Batches.{same_edges, same_here}
use Rattle.param_tags.proofs.Within.{in_whole}
use Rattle.param_tags.proofs.Going.{lists, no_flow, split, seen_more}
use Rattle.param_tags.proofs.Steps.{path_up}

-- each site that is on the heap by flow has a path in a batch that was seen
pub record Traced (p : Program) (seen : List (List FuncId)) (T : Tags) (H : List Placed) (list : List (Option (Vec Step Global))) : Type 0 where
  pub size : length list ≡ length p.sites
  pub paths : (l : ℕ) (r : Loc) → placed_at H l ≡ Flow r → (c : List FuncId) × Contains seen c × IsPath (batch_edges p T c) r l (path_at list l)

pub traced_none : (p : Program) (T : Tags) (H : List Placed) (paths : List (Option (Vec Step Global))) → H ≡ first_placements p.sites → length paths ≡ length p.sites → Traced p [] T H paths
traced_none p T H paths placed size = record {
  size = size;
  paths = λ l r m. absurd (no_flow p.sites l r (sym (ap (λ (x : List Placed). placed_at x l) placed) ∙ m));
}

traced_more : (p : Program) (all seen rest : List (List FuncId)) (b : List FuncId) → all ≡ seen ++ b ∷ rest → AreOrdered p all → (T U : Tags) (H G : List Placed) (old new : List (Option (Vec Step Global))) → ((g : ℕ) → is_own (numbers b) g ≡ false → tags_of U g ≡ tags_of T g) → length new ≡ length old → KeepsPaths (batch_edges p T b) H G old new → Traced p seen T H old → Traced p (seen ++ b ∷ []) U G new
traced_more p all seen rest b split order T U H G old new others size keeps t =
    let k = length seen in
    let at : slice_get all k ≡ Some b = subst (λ (xs : List (List FuncId)). slice_get xs k ≡ Some b) (sym split) (at_end seen rest b) in
    record {
      size = size ∙ t.size;
      paths = λ l r m. elim (keeps.paths l r m) [
        | inl path ↦ (b, Contains-push seen b, subst (λ (E : List Edge). IsPath E r l (path_at new l)) (sym (same_here p all order k b at T U others)) path)
        | inr kept ↦ (let was = t.paths l r kept.0 in
            let c = was.0 in
            let place = before_end seen (b ∷ rest) c was.1 in
            let there : slice_get all place.0 ≡ Some c = subst (λ (xs : List (List FuncId)). slice_get xs place.0 ≡ Some c) (sym split) place.2 in
            let same = same_edges p all order k b at T U others place.0 c place.1 there in
            (c, Contains-append_left seen (b ∷ []) c was.1, subst (λ (E : List Edge). IsPath E r l (path_at new l)) (sym same) (subst (λ (o : Option (Vec Step Global)). IsPath (batch_edges p T c) r l o) (sym kept.1) was.2)))
      ];
    }

pub traces_on : (p : Program) (batches : List (Vec FuncId Global)) (i : ℕ) (x : Vec FuncId Global) (b : List FuncId) → b ≡ x.items → i < length batches → x ≡ get_or batches i x → AreOrdered p (lists batches) → (T U : Tags) (H G : List Placed) (old new : List (Option (Vec Step Global))) → ((g : ℕ) → is_own (numbers b) g ≡ false → tags_of U g ≡ tags_of T g) → length new ≡ length old → KeepsPaths (batch_edges p T b) H G old new → Traced p (lists (take i batches)) T H old → Traced p (lists (take (i + 1) batches)) U G new
traces_on p batches i x b of within is order T U H G old new others size keeps t =
    let apart = subst (λ (c : List FuncId). (g : ℕ) → is_own (numbers c) g ≡ false → tags_of U g ≡ tags_of T g) of others in
    let kept = subst (λ (c : List FuncId). KeepsPaths (batch_edges p T c) H G old new) of keeps in
    subst (λ (seen : List (List FuncId)). Traced p seen U G new) (sym (seen_more batches i x within is)) (traced_more p (lists batches) (lists (take i batches)) (lists (drop (suc i) batches)) x.items (split batches i x within is) order T U H G old new apart size kept t)

pub traced_all : (p : Program) (batches : List (Vec FuncId Global)) (i : ℕ) (T : Tags) (H : List Placed) (paths : List (Option (Vec Step Global))) → length batches ≤ i → Traced p (lists (take i batches)) T H paths → ArePaths (whole_edges p T (lists batches)) H paths
traced_all p batches i T H paths past t = λ l r m.
    let was = (subst (λ (bs : List (Vec FuncId Global)). Traced p (lists bs) T H paths) (take_all i batches past) t).paths l r m in
    path_up (batch_edges p T was.0) (whole_edges p T (lists batches)) (λ e among. in_whole p T (lists batches) was.0 e was.1 among) r l (path_at paths l) was.2
