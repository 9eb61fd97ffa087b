-- The test of what the graph of a whole program asks of it tells it.
use Rattle.std.proofs.Common.{◌≡◌, ℕ, zero, suc, ◌+◌, ◌-◌, ◌<◌, ◌≤◌, nat_lt, Bool, true, ◌&&◌, not, List, [], ◌∷◌, take, drop, length, Option, Some, None, slice_get, Decides, refl, sym, ap, subst, ◌∙◌, inl, inr, arith}
use Rattle.std.specs.List.{Contains, list_all}
use Rattle.std.specs.Prelude.{is_some}
use Rattle.std.proofs.lemmas.Bool.{false≢true}
use Rattle.std.proofs.lemmas.Bool.Decides.{Decides-ltb, Decides-like, Decides-and, Decides-not}
use Rattle.std.proofs.lemmas.Option.{same_Some, slice_get_within, slice_get_cases, get_or_from_slice_get}
use Rattle.deref_walk.specs.declared.loc.Loc.{Loc}
use Rattle.deref_walk.specs.declared.loc.Loc.TheVariants as loc
use Rattle.value_flows.specs.declared.program.Site.{Site}
use Rattle.value_flows.specs.declared.value.Target.{Target}
use Rattle.value_flows.specs.Syntax.{Val, Vals, Exs, variable, address, inside, behind, parts, beside, sent, call, none, more, each, results, Act, give, carry, Result, Func, Program}
use Rattle.escape_graph.specs.Edges.{results_of}
use Rattle.param_tags.specs.Order.{number_in, func_in, func_at}
use Rattle.flow_batches.specs.Standing.{IsAmong, IsUnnamed, Has, GoesTo, Stands, EachStands, AllStand, ActStands, FuncStands, IsStanding}
use Rattle.flow_batches.specs.Tested.{all_from, has_func, is_among, is_right_in, is_right, is_unnamed, is_carried, has, goes_to, stands, each_stands, all_stand, act_stands, func_stands, is_standing}
use Rattle.flow_batches.proofs.Formed.{each_decides, number_decides}
use Rattle.flow_batches.proofs.Listed.{contains_place}

-- ---- parts of lists

in_drop : {A : Type 0} (xs : List A) (n i : ℕ) → slice_get (drop n xs) i ≡ slice_get xs (n + i)
in_drop xs zero i = let e : zero + i ≡ i = omega arith in ap (slice_get xs) (sym e)
in_drop [] (suc n) i = refl
in_drop (y ∷ ys) (suc n) i = let e : suc n + i ≡ suc (n + i) = omega arith in in_drop ys n i ∙ ap (slice_get (y ∷ ys)) (sym e)

in_take : {A : Type 0} (xs : List A) (n i : ℕ) → i < n → slice_get (take n xs) i ≡ slice_get xs i
in_take xs zero i h = absurd (omega arith)
in_take [] (suc n) i h = refl
in_take (y ∷ ys) (suc n) zero h = refl
in_take (y ∷ ys) (suc n) (suc i) h = in_take ys n i (omega arith)

from_take : {A : Type 0} (xs : List A) (n i : ℕ) (x : A) → slice_get (take n xs) i ≡ Some x → (i < n) × (slice_get xs i ≡ Some x)
from_take xs zero i x h = let bad : None ≡ Some x = h in absurd (cc bad)
from_take [] (suc n) i x h = let bad : None ≡ Some x = h in absurd (cc bad)
from_take (y ∷ ys) (suc n) zero x h = (omega arith, h)
from_take (y ∷ ys) (suc n) (suc i) x h = let rest = from_take ys n i x h in let less : i < n = rest.0 in (omega arith, rest.1)

pub part_at : {A : Type 0} (xs : List A) (first count i : ℕ) → first ≤ i → i < first + count → slice_get (take count (drop first xs)) (i - first) ≡ slice_get xs i
part_at xs first count i low high =
    let e : first + (i - first) ≡ i = omega arith in
    in_take (drop first xs) count (i - first) (omega arith) ∙ in_drop xs first (i - first) ∙ ap (slice_get xs) e

pub place_contains : {A : Type 0} (xs : List A) (k : ℕ) (x : A) → slice_get xs k ≡ Some x → Contains xs x
place_contains xs k x at = (k, slice_get_within xs k x at, get_or_from_slice_get xs k x x at)

pub at_place : {A : Type 0} (xs : List A) (k : ℕ) → k < length xs → (x : A) × (slice_get xs k ≡ Some x)
at_place xs k within = elim (slice_get_cases xs k).1 [
  | inl here ↦ (here.0, here.2)
  | inr past ↦ (let least : length xs ≤ k = past.0 in absurd (omega arith))
]

-- ---- each of some things, by its number

module _ {A : Type 0} (test : ℕ → A → Bool) (P : ℕ → A → Type 0) (decides : (k : ℕ) (x : A) → Decides (test k x) (P k x)) where
  -- from the number k on
  abbrev AllFrom : ℕ → List A → Type 0
  AllFrom k xs = (i j : ℕ) (x : A) → i ≡ k + j → slice_get xs j ≡ Some x → P i x

  from_more : (k : ℕ) (y : A) (xs : List A) → P k y → AllFrom (suc k) xs → AllFrom k (y ∷ xs)
  from_more k y xs here later i zero x is at = let e : k ≡ i = omega arith in subst (P i) (same_Some y x at) (subst (λ (n : ℕ). P n y) e here)
  from_more k y xs here later i (suc j) x is at = later i j x (omega arith) at

  from_decides : (k : ℕ) (xs : List A) → Decides (all_from test k xs) (AllFrom k xs)
  from_decides k [] = ((λ e i j x is at. (let bad : None ≡ Some x = at in absurd cc bad)), λ h. refl)
  from_decides k (y ∷ xs) = Decides-like {P = P k y × AllFrom (suc k) xs} {Q = AllFrom k (y ∷ xs)} (test k y && all_from test (suc k) xs)
      (λ q. from_more k y xs q.0 q.1)
      (λ h. (h k 0 y (omega arith) refl, λ i j x is at. h i (suc j) x (omega arith) at))
      (Decides-and (test k y) (all_from test (suc k) xs) (decides k y) (from_decides (suc k) xs))

  all_decides : (xs : List A) → Decides (all_from test 0 xs) ((k : ℕ) (x : A) → slice_get xs k ≡ Some x → P k x)
  all_decides xs = Decides-like {P = AllFrom 0 xs} {Q = (k : ℕ) (x : A) → slice_get xs k ≡ Some x → P k x} (all_from test 0 xs)
      (λ q k x at. q k k x (omega arith) at)
      (λ h i j x is at. (let e : i ≡ j = omega arith in h i x (subst (λ (n : ℕ). slice_get xs n ≡ Some x) (sym e) at)))
      (from_decides 0 xs)

-- ---- what values go to

none_decides : (o : Option ℕ) → Decides (not (is_some o)) (o ≡ None)
none_decides None = ((λ e. refl), λ e. refl)
none_decides (Some x) = ((λ e. absurd (false≢true e)), λ e. absurd cc e)

unnamed_decides : (o : Option Result) → Decides (is_unnamed o) (IsUnnamed o)
unnamed_decides None = ((λ e. absurd (false≢true e)), λ h. absurd h)
unnamed_decides (Some r) = none_decides r.site

itself_decides : (b : Bool) → Decides b (b ≡ true)
itself_decides b = ((λ e. e), λ e. e)

always : Decides true (Unit {0})
always = ((λ e. tt), λ u. refl)

module _ (p : Program) where
  has_decides : (l : Loc) → Decides (has p l) (Has p l)
  has_decides (loc.Site x) = always
  has_decides (loc.Result g j) = unnamed_decides (slice_get (results_of p g.0) j)
  has_decides loc.Heap = always
  has_decides (loc.Carry x) = itself_decides (is_carried p x.0)

  goes_decides : (t : Option Target) → Decides (goes_to p t) (GoesTo p t)
  goes_decides None = always
  goes_decides (Some t) = has_decides t.to

  mutual
    stands_decides : (v : Val) → Decides (stands p v) (Stands p v)
    stands_decides (variable x) = always
    stands_decides (address x) = always
    stands_decides (inside follows v) = stands_decides v
    stands_decides (behind v) = stands_decides v
    stands_decides (parts vs) = each_stands_decides vs
    stands_decides (beside vs v) = Decides-and (each_stands p vs) (stands p v) (each_stands_decides vs) (stands_decides v)
    stands_decides (sent t v) = Decides-and (has p t.to) (stands p v) (has_decides t.to) (stands_decides v)
    stands_decides (call g es) = all_stand_decides es

    each_stands_decides : (vs : Vals) → Decides (each_stands p vs) (EachStands p vs)
    each_stands_decides none = always
    each_stands_decides (more v vs) = Decides-and (stands p v) (each_stands p vs) (stands_decides v) (each_stands_decides vs)

    all_stand_decides : (es : Exs) → Decides (all_stand p es) (AllStand p es)
    all_stand_decides (each vs) = each_stands_decides vs
    all_stand_decides (results g es) = all_stand_decides es

  act_decides : (a : Act) → Decides (act_stands p a) (ActStands p a)
  act_decides (give es targets) = Decides-and (all_stand p es) (list_all (goes_to p) targets) (all_stand_decides es) (each_decides (goes_to p) (GoesTo p) goes_decides targets)
  act_decides (carry x) = itself_decides (is_carried p x)

-- ---- sites

among_decides : (x : ℕ) (o : Option Func) → Decides (is_among x o) ((func : Func) × (o ≡ Some func) × IsAmong x func)
among_decides x None = ((λ e. absurd (false≢true e)), λ h. (let bad : None ≡ Some h.0 = h.1 in absurd cc bad))
among_decides x (Some func) = Decides-like {P = (x < func.first → ⊥) × (x < func.first + func.count)} {Q = (g : Func) × (Some func ≡ Some g) × IsAmong x g} (not (nat_lt x func.first) && nat_lt x (func.first + func.count))
    (λ q. (func, refl, among x func q.0 q.1))
    (λ h. back x func (subst (IsAmong x) (sym (same_Some func h.0 h.1)) h.2))
    (Decides-and (not (nat_lt x func.first)) (nat_lt x (func.first + func.count)) (Decides-not (nat_lt x func.first) (Decides-ltb x func.first)) (Decides-ltb x (func.first + func.count)))
  where
    among : (x : ℕ) (func : Func) → (x < func.first → ⊥) → x < func.first + func.count → IsAmong x func
    among x func low high = (omega (arith, low), high)

    back : (x : ℕ) (func : Func) → IsAmong x func → (x < func.first → ⊥) × (x < func.first + func.count)
    back x func h = let low : func.first ≤ x = h.0 in ((λ bad. absurd (omega arith)), h.1)

module _ (p : Program) where
  -- a site that has a function is among its sites
  IsRight : ℕ → Option ℕ → Type 0
  IsRight x o = (f : ℕ) → o ≡ Some f → (func : Func) × (slice_get p.funcs f ≡ Some func) × IsAmong x func

  right_in_decides : (x : ℕ) (o : Option ℕ) → Decides (is_right_in p x o) (IsRight x o)
  unfolding IsRight
  right_in_decides x None = ((λ e f h. (let bad : None ≡ Some f = h in absurd cc bad)), λ h. refl)
  right_in_decides x (Some g) = Decides-like {P = (func : Func) × (slice_get p.funcs g ≡ Some func) × IsAmong x func} {Q = IsRight x (Some g)} (is_among x (slice_get p.funcs g))
      (λ q f h. subst (λ (n : ℕ). (func : Func) × (slice_get p.funcs n ≡ Some func) × IsAmong x func) (same_Some g f h) q)
      (λ h. h g refl)
      (among_decides x (slice_get p.funcs g))

  sites_decide : Decides (all_from (is_right p) 0 p.sites) ((x f : ℕ) → func_at p x ≡ Some f → (func : Func) × (slice_get p.funcs f ≡ Some func) × IsAmong x func)
  unfolding IsRight
  sites_decide = Decides-like {P = (x : ℕ) (s : Site) → slice_get p.sites x ≡ Some s → IsRight x (number_in s.func)} {Q = (x f : ℕ) → func_at p x ≡ Some f → (func : Func) × (slice_get p.funcs f ≡ Some func) × IsAmong x func} (all_from (is_right p) 0 p.sites)
      (λ q x f h. at_site x f (slice_get p.sites x) refl q h)
      (λ h x s at f is. h x f (ap func_in at ∙ is))
      (all_decides (is_right p) (λ x s. IsRight x (number_in s.func)) (λ x s. right_in_decides x (number_in s.func)) p.sites)
    where
      at_site : (x f : ℕ) (o : Option Site) → slice_get p.sites x ≡ o → ((y : ℕ) (s : Site) → slice_get p.sites y ≡ Some s → IsRight y (number_in s.func)) → func_in o ≡ Some f → (func : Func) × (slice_get p.funcs f ≡ Some func) × IsAmong x func
      at_site x f None at q h = let bad : None ≡ Some f = h in absurd cc bad
      at_site x f (Some s) at q h = q x s at f h

  -- each among a function's sites is its own
  OwnSites : ℕ → Func → Type 0
  OwnSites f func = (x : ℕ) → IsAmong x func → x < length p.sites → func_at p x ≡ Some f

  own_decides : (f : ℕ) (func : Func) → Decides (list_all (has_func f) (take func.count (drop func.first p.sites))) (OwnSites f func)
  unfolding OwnSites
  own_decides f func =
      let part = take func.count (drop func.first p.sites) in
      Decides-like {P = (s : Site) → Contains part s → number_in s.func ≡ Some f} {Q = OwnSites f func} (list_all (has_func f) part)
      (λ q x among within. (
      let at = at_place p.sites x within in
      ap func_in at.1 ∙ q at.0 (place_contains part (x - func.first) at.0 (part_at p.sites func.first func.count x among.0 among.1 ∙ at.1))))
      (λ h s c. (
      let place = contains_place part s c in
      let taken = from_take (drop func.first p.sites) func.count place.0 s place.1 in
      let less : place.0 < func.count = taken.0 in
      let at : slice_get p.sites (func.first + place.0) ≡ Some s = sym (in_drop p.sites func.first place.0) ∙ taken.1 in
      ap func_in (sym at) ∙ h (func.first + place.0) (omega arith, omega arith) (slice_get_within p.sites (func.first + place.0) s at)))
      (each_decides (has_func f) (λ (s : Site). number_in s.func ≡ Some f) (λ s. number_decides f (number_in s.func)) part)

  func_decides : (f : ℕ) (func : Func) → Decides (func_stands p f func) (FuncStands p f func)
  unfolding OwnSites
  func_decides f func =
      let own : Bool = list_all (has_func f) (take func.count (drop func.first p.sites)) in
      let body : Bool = list_all (act_stands p) func.body in
      Decides-like {P = OwnSites f func × ((a : Act) → Contains func.body a → ActStands p a)} {Q = FuncStands p f func} (own && body)
      (λ q. record { sites = q.0; body = q.1 })
      (λ h. (h.sites, h.body))
      (Decides-and own body (own_decides f func) (each_decides (act_stands p) (ActStands p) (act_decides p) func.body))

pub standing_decides : (p : Program) → Decides (is_standing p) (IsStanding p)
standing_decides p =
    let Sites = (x f : ℕ) → func_at p x ≡ Some f → (func : Func) × (slice_get p.funcs f ≡ Some func) × IsAmong x func in
    let Funcs = (f : ℕ) (func : Func) → slice_get p.funcs f ≡ Some func → FuncStands p f func in
    Decides-like {P = Sites × Funcs} {Q = IsStanding p} (is_standing p)
    (λ q. record { sites = q.0; funcs = q.1 })
    (λ h. (h.sites, h.funcs))
    (Decides-and (all_from (is_right p) 0 p.sites) (all_from (func_stands p) 0 p.funcs) (sites_decide p) (all_decides (func_stands p) (FuncStands p) (func_decides p) p.funcs))
