-- The report of a program's solution passes on its graph.
use Rattle.std.proofs.Common.{◌≡◌, ◌⊎◌, inl, inr, ℕ, zero, suc, ◌<◌, ℤ, pos, negsuc, Bool, true, false, List, [], ◌∷◌, length, Option, Some, None, refl, sym, ap, subst, ◌∙◌, arith}
use Rattle.std.specs.Prelude.{◌||◌, ◌==◌, Result, Ok, Err, IfOk, Vec, slice_index_or}
use Rattle.std.specs.declared.alloc.Global.{Global}
use Rattle.std.specs.List.{Contains}
use Rattle.std.proofs.lemmas.Bool.Decides.{nat_tests}
use Rattle.std.proofs.lemmas.List.{length-map}
use Rattle.std.proofs.lemmas.Option.{slice_get_within}
use Rattle.base.specs.declared.ids.FuncId.{FuncId}
use Rattle.base.specs.declared.ids.SiteId.{SiteId}
use Rattle.deref_walk.specs.declared.loc.Loc.{Loc}
use Rattle.deref_walk.specs.declared.loc.Loc.TheVariants as loc
use Rattle.deref_walk.specs.declared.graph.Edge.{Edge}
use Rattle.deref_walk.specs.declared.graph.Location.{Location}
use Rattle.deref_walk.specs.declared.levels.Step.{Step}
use Rattle.deref_walk.specs.Flow.{Leads, arrived, onward}
use Rattle.value_flows.specs.declared.placed.Placed.TheVariants as homes
use Rattle.value_flows.specs.declared.program.Program.{Program}
use Rattle.value_flows.specs.View.{func_of, program_of, tags_of}
use Rattle.escape_graph.specs.Targets.{site}
use Rattle.escape_graph.specs.Edges.{numbers, is_own, whole_edges}
use Rattle.escape_graph.specs.Locations.{whole_locations}
use Rattle.param_tags.specs.Heap.{placed_at, heap_of, IsTagged}
use Rattle.param_tags.specs.Order.{AreOrdered, IsFormed}
use Rattle.param_tags.specs.Whole.{IsSolution}
use Rattle.param_tags.specs.Paths.{IsPath, ArePaths, path_at as found_path}
use Rattle.param_tags.specs.declared.solving.Solved.{Solved}
use Rattle.flow_batches.specs.Batches.{HaveAll}
use Rattle.flow_batches.specs.Standing.{IsStanding}
use Rattle.flow_batches.proofs.Listed.{contains_first, contains_later}
use Rattle.flow_batches.proofs.Stood.{place_contains}
use Rattle.flow_batches.proofs.Ends.{IsHere, here_whole}
use Rattle.flow_batches.proofs.There.{are_there}
use Rattle.report_checks.specs.Verdict.{is_there, verdict}
use Rattle.report_checks.specs.Lines.{lines_of}
use Rattle.explain.specs.declared.names.SiteName.{SiteName}
use Rattle.explain.specs.Lines.{path_at, report_text}
use Rattle.explain.specs.Passing.{IsReadable, IsSupported}
use Rattle.explain.specs.Explained.{IsExplained}
use Rattle.explain.proofs.Standing.{supported_passes}
use Rattle.explain.proofs.Ascending.{tags_ascend}
use Rattle.explain.proofs.Outliving.{site_within, outlives_alike}

-- ---- results

pub both_ok : {T E : Type 0} (r : Result T E) (P Q : T → Type 0) → IfOk r P → IfOk r Q → IfOk r (λ x. P x × Q x)
both_ok (Ok x) P Q h k = (h, k)
both_ok (Err e) P Q h k = tt

-- ---- paths

-- steps to another number go along an edge to their root
root_is_end : {edges : List Edge} {r l : Loc} {d n : ℤ} {steps : List Step} → Leads edges r d steps l n → (d ≡ n) ⊎ ((e : Edge) × Contains edges e × (e.to ≡ r))
root_is_end arrived = inl refl
root_is_end (onward e c rest) = inr (e, c, refl)

path_is : (paths : List (Option (Vec Step Global))) (l : ℕ) (steps : Vec Step Global) → slice_index_or paths l None ≡ Some steps → path_at paths l ≡ steps.items
path_is [] l steps at = let bad : None ≡ Some steps = at in absurd cc bad
path_is (None ∷ paths) zero steps at = let bad : None ≡ Some steps = at in absurd cc bad
path_is (Some other ∷ paths) zero steps at = let same : other ≡ steps = cc in ap (λ (v : Vec Step Global). v.items) same
path_is (o ∷ paths) (suc l) steps at = path_is paths l steps at

path_leads : (edges : List Edge) (r : Loc) (l : ℕ) (paths : List (Option (Vec Step Global))) (o : Option (Vec Step Global)) → found_path paths l ≡ o → IsPath edges r l o → Leads edges r (pos 0) (path_at paths l) (site l) (negsuc 0)
path_leads edges r l paths None at h = absurd h
path_leads edges r l paths (Some steps) at h = subst (λ (s : List Step). Leads edges r (pos 0) s (site l) (negsuc 0)) (sym (path_is paths l steps at)) h

-- ---- functions of batches

either : (a b : Bool) → (a || b) ≡ true → (a ≡ true) ⊎ (b ≡ true)
either true b h = inl refl
either false b h = inr h

number_is : (a b : ℕ) → (a == b) ≡ true → a ≡ b
number_is a b h = grind (arith, nat_tests)

own_is : (b : List FuncId) (f : ℕ) → is_own (numbers b) f ≡ true → (g : FuncId) × Contains b g × (g.0 ≡ f)
own_is [] f h = absurd (let e : false ≡ true = h in cc)
own_is (g ∷ gs) f h = elim (either (g.0 == f) (is_own (numbers gs) f) h) [
  | inl here ↦ (g, contains_first g gs, number_is g.0 f here)
  | inr later ↦ (let there = own_is gs f later in (there.0, contains_later g there.0 gs there.1, there.2))
]

-- ---- the whole

module _ (program : Program) (names : List SiteName) (batches : List (List FuncId)) (solved : Solved)
    (formed : IsFormed (program_of program)) (standing : IsStanding (program_of program)) (all : HaveAll (program_of program) batches)
    (solution : IsSolution (program_of program) batches (tags_of solved.tags) solved.placed.items)
    (paths : ArePaths (whole_edges (program_of program) (tags_of solved.tags) batches) solved.placed.items solved.paths.items) where
  edges : List Edge
  edges = whole_edges (program_of program) (tags_of solved.tags) batches

  locations : List Location
  locations = whole_locations (program_of program) batches

  leads : (l : ℕ) (r : Loc) → placed_at solved.placed.items l ≡ homes.Flow r → Leads edges r (pos 0) (path_at solved.paths.items l) (site l) (negsuc 0)
  unfolding edges
  leads l r is = path_leads edges r l solved.paths.items (found_path solved.paths.items l) refl (paths l r is)

  root_there : (l : ℕ) (r : Loc) → placed_at solved.placed.items l ≡ homes.Flow r → is_there locations r ≡ true
  unfolding edges locations
  root_there l r is = elim (root_is_end (leads l r is)) [
    | inl same ↦ (let bad : pos 0 ≡ negsuc 0 = same in absurd cc bad)
    | inr at ↦ are_there (program_of program) batches all standing r (subst (IsHere (program_of program)) at.2 ((here_whole (program_of program) formed standing (tags_of solved.tags) batches).ends at.0 at.1).0)
  ]

  tagged : (f : ℕ) → f < length program.funcs.items → IsTagged (program_of program) edges (heap_of solved.placed.items) (tags_of solved.tags) f
  unfolding edges
  tagged f within =
      let few : f < length (program_of program).funcs = subst (λ (n : ℕ). f < n) (sym (length-map program.funcs.items func_of)) within in
      let stands = all f few in
      let own = own_is stands.1.0 f stands.1.2 in
      subst (IsTagged (program_of program) edges (heap_of solved.placed.items) (tags_of solved.tags)) own.2
      (solution.set.closed.tagged stands.1.0 (place_contains batches stands.0 stands.1.0 stands.1.1) own.0 own.1)

  supported : length names ≡ length program.sites.items → length solved.tags.funcs.items ≡ length program.funcs.items → IsSupported edges locations names solved
  unfolding edges locations
  supported sites funcs =
      let there : (l : SiteId) → l.0 < length names → is_there locations (loc.Site l) ≡ true =
      λ l within. are_there (program_of program) batches all standing (loc.Site l) (subst (λ (n : ℕ). l.0 < n) sites within) in
      record {
        there = there;
        within = λ l h. subst (λ (n : ℕ). l.0 < n) (sym sites) (site_within (program_of program) batches l h);
        roots = λ l r within is. outlives_alike (program_of program) batches (heap_of solved.placed.items) r l (root_there l.0 r is) (there l within) (solution.reasons l.0 r is).0;
        paths = λ l r within is. leads l.0 r is;
        ascending = λ f j ts t at place. tags_ascend (program_of program) edges (heap_of solved.placed.items) solved.tags f j ts t (tagged f (subst (λ (n : ℕ). f < n) funcs (slice_get_within solved.tags.funcs.items f ts at))) at place;
      }

  pub explained : AreOrdered (program_of program) batches → length names ≡ length program.sites.items → length solved.tags.funcs.items ≡ length program.funcs.items → IsReadable program names solved → (report : List ℕ) → report ≡ report_text program names solved → IsExplained program names report
  unfolding edges locations
  explained ordered sites funcs readable report is = record {
    batches = batches;
    ordered = ordered;
    all = all;
    solved = solved;
    solution = solution;
    paths = paths;
    text = is;
    passes = ap (λ (t : List ℕ). verdict edges locations (lines_of t)) is ∙ supported_passes edges locations program names solved readable (supported sites funcs);
  }
