-- Paths that have the least number, and one path after another.
use Rattle.std.proofs.Common.{◌≡◌, inl, inr, ℕ, zero, suc, ◌<◌, ◌+◌, ◌≤◌, ℤ, pos, negsuc, ◌≤ℤ◌, true, false, List, [], ◌∷◌, ◌++◌, Option, Some, None, length, get_or, set, take, refl, sym, subst, ap, ◌∙◌, arith}
use Rattle.std.specs.List.{Contains}
use Rattle.std.specs.Prelude.{Vec}
use Rattle.std.specs.declared.alloc.Global.{Global}
use Rattle.std.proofs.lemmas.Int.{ints}
use Rattle.std.proofs.lemmas.List.{take_all, take_more}
use Rattle.std.proofs.lemmas.List.Elements.{Contains-get_or, Contains-push_cases}
use Rattle.deref_walk.specs.declared.loc.Loc.{Loc}
use Rattle.deref_walk.specs.declared.graph.Edge.{Edge}
use Rattle.deref_walk.specs.declared.levels.Step.{Step}
use Rattle.deref_walk.specs.Flow.{number_after, Reaches, itself, along, IsLeast, Leads, arrived, onward, IsPathTo}
use Rattle.deref_walk.specs.Found.{IsWalked}
use Rattle.deref_walk.specs.Locations.{same}
use Rattle.deref_walk.proofs.Same.{same_is, same_self}
use Rattle.value_flows.specs.Syntax.{Program}
use Rattle.escape_graph.specs.Targets.{site}
use Rattle.value_flows.specs.declared.placed.Placed.{Placed}
use Rattle.value_flows.specs.declared.placed.Placed.TheVariants.{Stack, Known, Flow}
use Rattle.param_tags.specs.declared.walks.Hold.{Hold}
use Rattle.param_tags.specs.declared.walks.Walked.{Walked}
use Rattle.param_tags.specs.Heap.{placed_at}
use Rattle.param_tags.specs.Walks.{AreWalked, AreHolds}
use Rattle.param_tags.specs.Rounds.{Joins}
use Rattle.param_tags.specs.Paths.{IsPath, path_at, names, AddsPaths, KeepsPaths}
use Rattle.param_tags.proofs.Lists.{contains_nil, one_is, one_has, cases_same}
use Rattle.param_tags.proofs.Ends.{first_edge}

-- ---- one path

leads_reaches : (E : List Edge) (root l : Loc) (d : ℤ) (steps : List Step) (m : Loc) (n : ℤ) → Reaches E root l d → Leads E l d steps m n → Reaches E root m n
leads_reaches E root _ _ _ _ _ flow arrived = flow
leads_reaches E root _ _ _ m n flow (onward {d = d} {steps = steps} e among rest) = leads_reaches E root e.from (number_after d e.weight) steps m n (along e among flow) rest

pub leads_up : (E F : List Edge) → ((e : Edge) → Contains E e → Contains F e) → (l : Loc) (d : ℤ) (steps : List Step) (m : Loc) (n : ℤ) → Leads E l d steps m n → Leads F l d steps m n
leads_up E F up _ _ _ _ _ arrived = arrived
leads_up E F up _ _ _ m n (onward {d = d} {steps = steps} e among rest) = onward e (up e among) (leads_up E F up e.from (number_after d e.weight) steps m n rest)

pub path_up : (E F : List Edge) → ((e : Edge) → Contains E e → Contains F e) → (r : Loc) (l : ℕ) (o : Option (Vec Step Global)) → IsPath E r l o → IsPath F r l o
path_up E F up r l None h = absurd h
path_up E F up r l (Some steps) h = leads_up E F up r (pos 0) steps.items (site l) (negsuc 0) h

both_ways : (n : ℤ) → n ≤ℤ negsuc 0 → negsuc 0 ≤ℤ n → n ≡ negsuc 0
both_ways n h g = omega (arith, ints)

path_held : (E : List Edge) (r : Loc) (l : ℕ) (o : Option (Vec Step Global)) → IsPathTo E r (site l) o → IsLeast E r (site l) (Some (negsuc 0)) → IsPath E r l o
path_held E r l None none least = none (negsuc 0) least.0
path_held E r l (Some steps) path least =
    let flow = leads_reaches E r r (pos 0) steps.items (site l) path.0 itself path.1 in
    subst (λ (n : ℤ). Leads E r (pos 0) steps.items (site l) n) (both_ways path.0 (path.2 (negsuc 0) least.0) (least.1 path.0 flow)) path.1

-- ---- the walk of a pair

module _ (walks : List Walked) (i : ℕ) (w : Walked) (within : i < length walks) (is : w ≡ get_or walks i w) (r : Loc) where
  pub path_by : same w.root r ≡ true → (l : ℕ) (o : Option (Vec Step Global)) → ((edges : List Edge) (root : Loc) → IsWalked edges root w.levels.found.items → IsPathTo edges root (site l) o) → (edges : List Edge) → AreWalked edges walks → IsLeast edges r (site l) (Some (negsuc 0)) → IsPath edges r l o
  path_by one l o path edges walked least =
      let among : Contains walks w = subst (λ (x : Walked). Contains walks x) (sym is) (Contains-get_or walks i w within) in
      path_held edges r l o (subst (λ (x : Loc). IsPathTo edges x (site l) o) (same_is w.root r one) (path edges w.root (walked.sound w among))) least

  pub none_more : same w.root r ≡ false → ((v : Walked) → Contains (take i walks) v → v.root ≡ r → ⊥) → (v : Walked) → Contains (take (i + 1) walks) v → v.root ≡ r → ⊥
  none_more other none v among at =
      let seen : take (i + 1) walks ≡ take i walks ++ w ∷ [] = take_more walks i w within ∙ ap (λ (x : Walked). take i walks ++ x ∷ []) (sym is) in
      elim (Contains-push_cases (take i walks) w v (subst (λ (xs : List Walked). Contains xs v) seen among)) [
        | inl before ↦ none v before at
        | inr one ↦ absurd (let root : w.root ≡ r = ap (λ (x : Walked). x.root) one ∙ at in
            let t : same w.root r ≡ true = subst (λ (x : Loc). same w.root x ≡ true) root (same_self w.root) in
            let e : true ≡ false = sym t ∙ other in cc)
      ]

pub no_walk : (walks : List Walked) (i : ℕ) (r : Loc) (l : ℕ) → length walks ≤ i → ((v : Walked) → Contains (take i walks) v → v.root ≡ r → ⊥) → (edges : List Edge) → AreWalked edges walks → IsLeast edges r (site l) (Some (negsuc 0)) → ⊥
no_walk walks i r l past none edges walked least = elim (first_edge edges r (site l) (negsuc 0) least.0) [
  | inl here ↦ absurd (let e : negsuc 0 ≡ pos 0 = here.1 in cc)
  | inr first ↦ (let w = walked.whole first.0 first.1 in
      none w.0 (subst (λ (xs : List Walked). Contains xs w.0) (sym (take_all i walks past)) w.1) (w.2 ∙ first.2))
]

-- ---- the path of one pair

named : (m : Placed) (r : Loc) → names m r ≡ true → m ≡ Flow r
named Stack r h = absurd (let e : false ≡ true = h in cc)
named (Known why) r h = absurd (let e : false ≡ true = h in cc)
named (Flow root) r h = ap Flow (same_is root r h)

not_named : (m : Placed) (r : Loc) → names m r ≡ false → m ≡ Flow r → ⊥
not_named m r h is = absurd (let t : names m r ≡ true = subst (λ (x : Placed). names x r ≡ true) (sym is) (same_self r) in let e : true ≡ false = sym t ∙ h in cc)

path_here : (paths : List (Option (Vec Step Global))) (x : ℕ) (o : Option (Vec Step Global)) → x < length paths → path_at (set paths x o) x ≡ o
path_here [] x o within = absurd (omega arith)
path_here (y ∷ ys) zero o within = refl
path_here (y ∷ ys) (suc x) o within = path_here ys x o (omega arith)

path_there : (paths : List (Option (Vec Step Global))) (x l : ℕ) (o : Option (Vec Step Global)) → (x ≡ l → ⊥) → path_at (set paths x o) l ≡ path_at paths l
path_there [] x l o apart = refl
path_there (y ∷ ys) zero zero o apart = absurd (apart refl)
path_there (y ∷ ys) zero (suc l) o apart = refl
path_there (y ∷ ys) (suc x) zero o apart = refl
path_there (y ∷ ys) (suc x) (suc l) o apart = path_there ys x l o (λ e. apart (ap suc e))

one_root : (q r : Loc) → Flow q ≡ Flow r → q ≡ r
one_root q r h = cc

pub path_set : (E : List Edge) (placed : List Placed) (h : Hold) (o : Option (Vec Step Global)) (paths : List (Option (Vec Step Global))) → h.site.0 < length paths → names (placed_at placed h.site.0) h.root ≡ true → IsPath E h.root h.site.0 o → AddsPaths E placed (h ∷ []) paths (set paths h.site.0 o)
path_set E placed h o paths within reason path = record {
  paths = λ l r m. elim (cases_same h.site.0 l) [
    | inl same ↦ (let root : h.root ≡ r = one_root h.root r (sym (named (placed_at placed h.site.0) h.root reason) ∙ ap (placed_at placed) same ∙ m) in
        let here : IsPath E h.root h.site.0 (path_at (set paths h.site.0 o) h.site.0) = subst (λ (x : Option (Vec Step Global)). IsPath E h.root h.site.0 x) (sym (path_here paths h.site.0 o within)) path in
        inl (subst (λ (x : Loc). IsPath E x l (path_at (set paths h.site.0 o) l)) root (subst (λ (n : ℕ). IsPath E h.root n (path_at (set paths h.site.0 o) n)) same here)))
    | inr apart ↦ inr (
      λ stands. apart (ap (λ (x : Hold). x.site.0) (one_is h stands.0 stands.1) ∙ stands.3),
      path_there paths h.site.0 l o apart,
    )
  ];
}

pub path_kept : (E : List Edge) (placed : List Placed) (h : Hold) (paths : List (Option (Vec Step Global))) → names (placed_at placed h.site.0) h.root ≡ false → AddsPaths E placed (h ∷ []) paths paths
path_kept E placed h paths other = record {
  paths = λ l r m. inr (
    λ stands.
        let one : h ≡ stands.0 = one_is h stands.0 stands.1 in
        let root : h.root ≡ r = ap (λ (x : Hold). x.root) one ∙ stands.2 in
        let at : h.site.0 ≡ l = ap (λ (x : Hold). x.site.0) one ∙ stands.3 in
        not_named (placed_at placed h.site.0) h.root other (ap (placed_at placed) at ∙ m ∙ ap Flow (sym root)),
    refl,
  );
}

-- ---- one pair more

pub adds_nothing : (E : List Edge) (placed : List Placed) (paths : List (Option (Vec Step Global))) → AddsPaths E placed [] paths paths
adds_nothing E placed paths = record { paths = λ l r m. inr (λ stands. absurd (contains_nil stands.0 stands.1), refl) }

adds_both : (E : List Edge) (placed : List Placed) (seen : List Hold) (h : Hold) (old mid new : List (Option (Vec Step Global))) → AddsPaths E placed seen old mid → AddsPaths E placed (h ∷ []) mid new → AddsPaths E placed (seen ++ h ∷ []) old new
adds_both E placed seen h old mid new a b = record {
  paths = λ l r m. elim (b.paths l r m) [
    | inl path ↦ inl path
    | inr kept ↦ (elim (a.paths l r m) [
      | inl path ↦ inl (subst (λ (x : Option (Vec Step Global)). IsPath E r l x) (sym kept.1) path)
      | inr old ↦ inr (
        λ stands. elim (Contains-push_cases seen h stands.0 stands.1) [
          | inl before ↦ old.0 (stands.0, before, stands.2, stands.3)
          | inr is ↦ kept.0 (stands.0, subst (λ (x : Hold). Contains (h ∷ []) x) is (one_has h), stands.2, stands.3)
        ],
        kept.1 ∙ old.1,
      )
    ])
  ];
}

pub adds_more : (E : List Edge) (placed : List Placed) (holds : List Hold) (i : ℕ) (d : Hold) (old mid new : List (Option (Vec Step Global))) → i < length holds → AddsPaths E placed (take i holds) old mid → AddsPaths E placed (get_or holds i d ∷ []) mid new → AddsPaths E placed (take (i + 1) holds) old new
adds_more E placed holds i d old mid new within a b = subst (λ (xs : List Hold). AddsPaths E placed xs old new) (sym (take_more holds i d within)) (adds_both E placed (take i holds) (get_or holds i d) old mid new a b)

pub held_at : (E : List Edge) (holds : List Hold) (i : ℕ) (d : Hold) → i < length holds → AreHolds E holds → IsLeast E (get_or holds i d).root (site (get_or holds i d).site.0) (Some (negsuc 0))
held_at E holds i d within are =
    let h = get_or holds i d in
    (are h.root h.site.0).0 (h, Contains-get_or holds i d within, refl, refl)

-- ---- the paths of a batch

pub keeps_paths : (p : Program) (E : List Edge) (holds : List Hold) (before after : List Placed) (old new : List (Option (Vec Step Global))) → Joins p holds before after → AddsPaths E after holds old new → KeepsPaths E before after old new
keeps_paths p E holds before after old new joins adds = record {
  paths = λ l r m. elim (adds.paths l r m) [
    | inl path ↦ inl path
    | inr kept ↦ (elim (joins.reasons l r m) [
      | inl was ↦ inr (was, kept.1)
      | inr stands ↦ absurd (kept.0 stands.0)
    ])
  ];
}
