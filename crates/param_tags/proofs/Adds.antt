-- Walks and pairs, one after the other.
use Rattle.std.proofs.Common.{◌≡◌, inl, inr, ℕ, ◌<◌, ◌+◌, pos, negsuc, List, [], ◌∷◌, ◌++◌, Some, length, get_or, take, sym, subst, ap, ◌∙◌}
use Rattle.std.specs.List.{Contains}
use Rattle.std.proofs.lemmas.List.{take_more}
use Rattle.std.proofs.lemmas.List.Elements.{Contains-append_left, Contains-push, Contains-push_cases}
use Rattle.base.specs.declared.ids.SiteId.{SiteId}
use Rattle.deref_walk.specs.declared.loc.Loc.{Loc}
use Rattle.deref_walk.specs.declared.loc.Loc.TheVariants as loc
use Rattle.deref_walk.specs.declared.graph.Edge.{Edge}
use Rattle.deref_walk.specs.Flow.{IsLeast}
use Rattle.deref_walk.specs.Found.{IsWalked}
use Rattle.param_tags.specs.declared.walks.Walked.{Walked}
use Rattle.param_tags.specs.declared.walks.Hold.{Hold}
use Rattle.escape_graph.specs.Targets.{site}
use Rattle.param_tags.specs.Walks.{AreWalked, AreHolds, Stands, Adds, AddsWalk}
use Rattle.param_tags.proofs.Ends.{first_edge, last_edge}
use Rattle.param_tags.proofs.Lists.{contains_nil, one_is}

-- ---- pairs

pub adds_none : (E : List Edge) (root : Loc) (holds : List Hold) → Adds E root [] holds holds
adds_none E root holds = record { kept = λ h m. h_of h m; sound = λ h m. inl m; whole = λ e m l is least. absurd (contains_nil e m) }
  where
    h_of : (h : Hold) → Contains holds h → Contains holds h
    h_of h m = m

-- an edge that comes from no site, or from one that is not held
pub adds_skip : (E : List Edge) (root : Loc) (e : Edge) (holds : List Hold) → ((l : ℕ) → e.from ≡ site l → IsLeast E root (site l) (Some (negsuc 0)) → ⊥) → Adds E root (e ∷ []) holds holds
adds_skip E root e holds none = record { kept = λ h m. m; sound = λ h m. inl m; whole = λ d m l is least. absurd (none l (subst (λ (x : Edge). x.from ≡ site l) (sym (one_is e d m)) is) least) }

site_is : (x : SiteId) (l : ℕ) → loc.Site x ≡ site l → x.0 ≡ l
site_is x l h = let e : x ≡ record { 0 = l } = cc in ap (λ (y : SiteId). y.0) e

pub adds_push : (E : List Edge) (root : Loc) (e : Edge) (holds : List Hold) (h : Hold) → h.root ≡ root → e.from ≡ loc.Site h.site → IsLeast E root (loc.Site h.site) (Some (negsuc 0)) → Adds E root (e ∷ []) holds (holds ++ h ∷ [])
adds_push E root e holds h at from least = record {
  kept = λ g m. Contains-append_left holds (h ∷ []) g m;
  sound = λ g m. elim (Contains-push_cases holds h g m) [
    | inl old ↦ inl old
    | inr is ↦ inr (subst (λ (x : Hold). IsLeast E x.root (site x.site.0) (Some (negsuc 0))) is (subst (λ (r : Loc). IsLeast E r (loc.Site h.site) (Some (negsuc 0))) (sym at) least))
  ];
  whole = λ d m l is other.
      let same : e ≡ d = one_is e d m in
      let of : loc.Site h.site ≡ site l = sym from ∙ ap (λ (x : Edge). x.from) same ∙ is in
      (h, Contains-push holds h, at, site_is h.site l of);
}

adds_both : (E : List Edge) (root : Loc) (seen : List Edge) (e : Edge) (old mid new : List Hold) → Adds E root seen old mid → Adds E root (e ∷ []) mid new → Adds E root (seen ++ e ∷ []) old new
adds_both E root seen e old mid new a b = record {
  kept = λ h m. b.kept h (a.kept h m);
  sound = λ h m. elim (b.sound h m) [ inl before ↦ a.sound h before | inr is ↦ inr is ];
  whole = λ d m l is least. elim (Contains-push_cases seen e d m) [
    | inl before ↦ (let s = a.whole d before l is least in (s.0, b.kept s.0 s.1, s.2, s.3))
    | inr same ↦ b.whole e (Contains-push [] e) l (subst (λ (x : Edge). x.from ≡ site l) (sym same) is) least
  ];
}

pub adds_more : (E : List Edge) (root : Loc) (edges : List Edge) (i : ℕ) (e : Edge) (old mid new : List Hold) → i < length edges → Adds E root (take i edges) old mid → Adds E root (get_or edges i e ∷ []) mid new → Adds E root (take (i + 1) edges) old new
adds_more E root edges i e old mid new within a b = subst (λ (xs : List Edge). Adds E root xs old new) (sym (take_more edges i e within)) (adds_both E root (take i edges) (get_or edges i e) old mid new a b)

-- ---- walks

pub record WalkedSome (edges seen : List Edge) (walks : List Walked) : Type 0 where
  pub sound : (w : Walked) → Contains walks w → IsWalked edges w.root w.levels.found.items
  pub whole : (e : Edge) → Contains seen e → (w : Walked) × Contains walks w × (w.root ≡ e.to)

pub walked_none : (E : List Edge) → WalkedSome E [] []
walked_none E = record { sound = λ w m. absurd (contains_nil w m); whole = λ e m. absurd (contains_nil e m) }

pub walked_more : (E edges : List Edge) (i : ℕ) (e : Edge) (old new : List Walked) → i < length edges → WalkedSome E (take i edges) old → AddsWalk E (get_or edges i e).to old new → WalkedSome E (take (i + 1) edges) new
walked_more E edges i e old new within a b =
    let here = get_or edges i e in
    subst (λ (xs : List Edge). WalkedSome E xs new) (sym (take_more edges i e within)) (record {
      sound = λ w m. elim (b.sound w m) [ inl before ↦ a.sound w before | inr is ↦ is ];
      whole = λ d m. elim (Contains-push_cases (take i edges) here d m) [
        | inl before ↦ (let w = a.whole d before in (w.0, b.kept w.0 w.1, w.2))
        | inr same ↦ (b.there.0, b.there.1, b.there.2 ∙ ap (λ (x : Edge). x.to) same)
      ];
    })

pub walked_all : (E : List Edge) (walks : List Walked) → WalkedSome E E walks → AreWalked E walks
walked_all E walks w = record { sound = w.sound; whole = w.whole }

pub walk_there : (E : List Edge) (r : Loc) (old : List Walked) → (w : Walked) × Contains old w × (w.root ≡ r) → AddsWalk E r old old
walk_there E r old there = record { kept = λ w m. m; sound = λ w m. inl m; there = there }

pub walk_pushed : (E : List Edge) (r : Loc) (old : List Walked) (w : Walked) → w.root ≡ r → IsWalked E w.root w.levels.found.items → AddsWalk E r old (old ++ w ∷ [])
walk_pushed E r old w at walked = record {
  kept = λ v m. Contains-append_left old (w ∷ []) v m;
  sound = λ v m. elim (Contains-push_cases old w v m) [ inl before ↦ inl before | inr is ↦ inr (subst (λ (x : Walked). IsWalked E x.root x.levels.found.items) is walked) ];
  there = (w, Contains-push old w, at);
}

-- ---- all pairs

pub record HoldsSome (E : List Edge) (seen : List Walked) (holds : List Hold) : Type 0 where
  pub sound : (h : Hold) → Contains holds h → IsLeast E h.root (site h.site.0) (Some (negsuc 0))
  pub whole : (w : Walked) → Contains seen w → (e : Edge) → Contains E e → (l : ℕ) → e.from ≡ site l → IsLeast E w.root (site l) (Some (negsuc 0)) → Stands holds w.root l

pub holds_none : (E : List Edge) → HoldsSome E [] []
holds_none E = record { sound = λ h m. absurd (contains_nil h m); whole = λ w m e n l is least. absurd (contains_nil w m) }

pub holds_more : (E : List Edge) (walks : List Walked) (i : ℕ) (w : Walked) (old new : List Hold) → i < length walks → w ≡ get_or walks i w → HoldsSome E (take i walks) old → Adds E w.root E old new → HoldsSome E (take (i + 1) walks) new
holds_more E walks i w old new within is a b =
    let seen : take (i + 1) walks ≡ take i walks ++ w ∷ [] = take_more walks i w within ∙ ap (λ (x : Walked). take i walks ++ x ∷ []) (sym is) in
    subst (λ (xs : List Walked). HoldsSome E xs new) (sym seen) (record {
      sound = λ h m. elim (b.sound h m) [ inl before ↦ a.sound h before | inr least ↦ least ];
      whole = λ v m e n l from least. elim (Contains-push_cases (take i walks) w v m) [
        | inl before ↦ (let s = a.whole v before e n l from least in (s.0, b.kept s.0 s.1, s.2, s.3))
        | inr same ↦ (let s = b.whole e n l from (subst (λ (x : Walked). IsLeast E x.root (site l) (Some (negsuc 0))) (sym same) least) in (s.0, s.1, s.2 ∙ ap (λ (x : Walked). x.root) same, s.3))
      ];
    })

pub holds_all : (E : List Edge) (walks : List Walked) (holds : List Hold) → AreWalked E walks → HoldsSome E walks holds → AreHolds E holds
holds_all E walks holds walked s = λ r l. (
  λ stands. subst (λ (x : ℕ). IsLeast E r (site x) (Some (negsuc 0))) stands.3 (subst (λ (x : Loc). IsLeast E x (site stands.0.site.0) (Some (negsuc 0))) stands.2 (s.sound stands.0 stands.1)),
  λ least. elim (first_edge E r (site l) (negsuc 0) least.0) [
    | inl here ↦ absurd (let e : negsuc 0 ≡ pos 0 = here.1 in cc)
    | inr first ↦ (elim (last_edge E r (site l) (negsuc 0) least.0) [
      | inl here ↦ absurd (let e : negsuc 0 ≡ pos 0 = here.1 in cc)
      | inr last ↦ (let w = walked.whole first.0 first.1 in
          let is : w.0.root ≡ r = w.2 ∙ first.2 in
          let stands = s.whole w.0 w.1 last.0 last.1 l last.2 (subst (λ (x : Loc). IsLeast E x (site l) (Some (negsuc 0))) (sym is) least) in
          (stands.0, stands.1, stands.2 ∙ is, stands.3))
    ])
  ],
)
