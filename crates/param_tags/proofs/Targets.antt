-- What lists of targets contain.
use Rattle.std.proofs.Common.{◌≡◌, ◌⊎◌, inl, inr, Bool, true, false, List, [], ◌∷◌, ◌++◌, map, get_or, refl, sym, ◌∙◌, subst, ap, arith}
use Rattle.std.specs.Prelude.{cond, ◌==◌, filter}
use Rattle.std.specs.List.{Contains, list_any}
use Rattle.std.proofs.lemmas.Bool.{and_parts}
use Rattle.std.proofs.lemmas.Bool.Decides.{nat_tests}
use Rattle.std.proofs.lemmas.List.Elements.{Contains-push_cases, Contains-push, Contains-append_left}
use Rattle.std.proofs.lemmas.Map.Views.{Contains-from_any}
use Rattle.deref_walk.proofs.Same.{same_is}
use Rattle.deref_walk.specs.Locations.{same}
use Rattle.value_flows.specs.declared.value.Target.{Target}
use Rattle.value_flows.specs.declared.tags.ResultTag.{ResultTag}
use Rattle.escape_graph.specs.Targets.{target, further, same_target, with_target, with_targets, tagged}
use Rattle.param_tags.proofs.Lists.{contains_nil, head_or_tail, head_in, tail_in}

-- ---- any lists

module _ {X Y : Type 0} (f : X → Y) where
  pub map_has : (xs : List X) (x : X) → Contains xs x → Contains (map f xs) (f x)
  map_has [] x h = absurd (contains_nil x h)
  map_has (y ∷ ys) x h = elim (head_or_tail y ys x h) [
    | inl is ↦ subst (λ z. Contains (map f (y ∷ ys)) z) (ap f is) (head_in (f y) (map f ys))
    | inr rest ↦ tail_in (f y) (map f ys) (f x) (map_has ys x rest)
  ]

  pub map_is : (xs : List X) (y : Y) → Contains (map f xs) y → (x : X) × Contains xs x × (f x ≡ y)
  map_is [] y h = absurd (contains_nil y h)
  map_is (x ∷ xs) y h = elim (head_or_tail (f x) (map f xs) y h) [
    | inl is ↦ (x, head_in x xs, is)
    | inr rest ↦ (let there = map_is xs y rest in (there.0, tail_in x xs there.0 there.1, there.2))
  ]

module _ {X : Type 0} where
  first_kept : (t : Bool) (y : X) (ys : List X) → t ≡ true → Contains (cond t (y ∷ ys) ys) y
  first_kept true y ys h = head_in y ys
  first_kept false y ys h = absurd (cc)

  rest_kept : (t : Bool) (y : X) (ys : List X) (x : X) → Contains ys x → Contains (cond t (y ∷ ys) ys) x
  rest_kept true y ys x h = tail_in y ys x h
  rest_kept false y ys x h = h

  kept_cases : (t : Bool) (y : X) (ys : List X) (x : X) → Contains (cond t (y ∷ ys) ys) x → ((t ≡ true) × (y ≡ x)) ⊎ Contains ys x
  kept_cases true y ys x h = elim (head_or_tail y ys x h) [ inl is ↦ inl (refl, is) | inr rest ↦ inr rest ]
  kept_cases false y ys x h = inr h

  pub filter_has : (p : X → Bool) (xs : List X) (x : X) → Contains xs x → p x ≡ true → Contains (filter p xs) x
  filter_has p [] x h t = absurd (contains_nil x h)
  filter_has p (y ∷ ys) x h t = elim (head_or_tail y ys x h) [
    | inl is ↦ (let first : p y ≡ true = cc in subst (λ z. Contains (filter p (y ∷ ys)) z) is (first_kept (p y) y (filter p ys) first))
    | inr rest ↦ rest_kept (p y) y (filter p ys) x (filter_has p ys x rest t)
  ]

  pub filter_is : (p : X → Bool) (xs : List X) (x : X) → Contains (filter p xs) x → Contains xs x × (p x ≡ true)
  filter_is p [] x h = absurd (contains_nil x h)
  filter_is p (y ∷ ys) x h = elim (kept_cases (p y) y (filter p ys) x h) [
    | inl first ↦ (let is : y ≡ x = first.1 in (subst (λ z. Contains (y ∷ ys) z) is (head_in y ys), subst (λ z. p z ≡ true) is first.0))
    | inr rest ↦ (let there = filter_is p ys x rest in (tail_in y ys x there.0, there.1))
  ]

-- ---- targets

pub same_target_is : (t u : Target) → same_target t u ≡ true → t ≡ u
same_target_is t u h =
    let both = and_parts (same t.to u.to) (t.by == u.by) h in
    let to : t.to ≡ u.to = same_is t.to u.to both.0 in
    let by : t.by ≡ u.by = grind (arith, nat_tests) in
    let first : t ≡ target u.to t.by = ap (λ (l : _). target l t.by) to in
    first ∙ ap (λ n. target u.to n) by

if_has : (b : Bool) (us : List Target) (t : Target) → (b ≡ true → Contains us t) → Contains (cond b us (us ++ t ∷ [])) t
if_has true us t h = h refl
if_has false us t h = Contains-push us t

if_keeps : (b : Bool) (us : List Target) (t u : Target) → Contains us u → Contains (cond b us (us ++ t ∷ [])) u
if_keeps true us t u h = h
if_keeps false us t u h = Contains-append_left us (t ∷ []) u h

if_cases : (b : Bool) (us : List Target) (t u : Target) → Contains (cond b us (us ++ t ∷ [])) u → Contains us u ⊎ (t ≡ u)
if_cases true us t u h = inl h
if_cases false us t u h = Contains-push_cases us t u h

with_target_has : (us : List Target) (t : Target) → Contains (with_target us t) t
with_target_has us t = if_has (list_any (same_target t) us) us t (λ h. Contains-from_any same_target_is t us h)

with_target_keeps : (us : List Target) (t u : Target) → Contains us u → Contains (with_target us t) u
with_target_keeps us t u h = if_keeps (list_any (same_target t) us) us t u h

with_target_cases : (us : List Target) (t u : Target) → Contains (with_target us t) u → Contains us u ⊎ (t ≡ u)
with_target_cases us t u h = if_cases (list_any (same_target t) us) us t u h

pub with_targets_keeps : (us ts : List Target) (u : Target) → Contains us u → Contains (with_targets us ts) u
with_targets_keeps us [] u h = h
with_targets_keeps us (t ∷ ts) u h = with_targets_keeps (with_target us t) ts u (with_target_keeps us t u h)

pub with_targets_has : (us ts : List Target) (u : Target) → Contains ts u → Contains (with_targets us ts) u
with_targets_has us [] u h = absurd (contains_nil u h)
with_targets_has us (t ∷ ts) u h = elim (head_or_tail t ts u h) [
  | inl is ↦ with_targets_keeps (with_target us t) ts u (subst (λ (x : Target). Contains (with_target us t) x) is (with_target_has us t))
  | inr rest ↦ with_targets_has (with_target us t) ts u rest
]

pub with_targets_cases : (us ts : List Target) (u : Target) → Contains (with_targets us ts) u → Contains us u ⊎ Contains ts u
with_targets_cases us [] u h = inl h
with_targets_cases us (t ∷ ts) u h = elim (with_targets_cases (with_target us t) ts u h) [
  | inl old ↦ elim (with_target_cases us t u old) [ inl older ↦ inl older | inr is ↦ inr (subst (λ (x : Target). Contains (t ∷ ts) x) is (head_in t ts)) ]
  | inr rest ↦ inr (tail_in t ts u rest)
]

-- ---- where an argument goes

-- what one tag sends there
abbrev pub by_tag : List (List Target) → ResultTag → List Target
by_tag tss a = further a.by (get_or tss a.result [])

pub tagged_keeps : (us : List Target) (tags : List ResultTag) (tss : List (List Target)) (u : Target) → Contains us u → Contains (tagged us tags tss) u
tagged_keeps us [] tss u h = h
tagged_keeps us (a ∷ tags) tss u h = tagged_keeps (with_targets us (by_tag tss a)) tags tss u (with_targets_keeps us (by_tag tss a) u h)

pub tagged_has : (us : List Target) (tags : List ResultTag) (tss : List (List Target)) (a : ResultTag) (u : Target) → Contains tags a → Contains (by_tag tss a) u → Contains (tagged us tags tss) u
tagged_has us [] tss a u h g = absurd (contains_nil a h)
tagged_has us (b ∷ tags) tss a u h g = elim (head_or_tail b tags a h) [
  | inl is ↦ tagged_keeps (with_targets us (by_tag tss b)) tags tss u (with_targets_has us (by_tag tss b) u (subst (λ (x : ResultTag). Contains (by_tag tss x) u) (sym is) g))
  | inr rest ↦ tagged_has (with_targets us (by_tag tss b)) tags tss a u rest g
]

pub tagged_cases : (us : List Target) (tags : List ResultTag) (tss : List (List Target)) (u : Target) → Contains (tagged us tags tss) u → Contains us u ⊎ ((a : ResultTag) × Contains tags a × Contains (by_tag tss a) u)
tagged_cases us [] tss u h = inl h
tagged_cases us (a ∷ tags) tss u h = elim (tagged_cases (with_targets us (by_tag tss a)) tags tss u h) [
  | inl old ↦ elim (with_targets_cases us (by_tag tss a) u old) [ inl older ↦ inl older | inr new ↦ inr (a, head_in a tags, new) ]
  | inr rest ↦ inr (rest.0, tail_in a tags rest.0 rest.1, rest.2)
]
