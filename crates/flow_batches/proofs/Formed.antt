-- The test of a program's form tells it.
use Rattle.std.proofs.Common.{◌≡◌, ℕ, zero, suc, ◌+◌, ◌<◌, ◌==◌, nat_lt, Bool, true, ◌&&◌, List, [], ◌∷◌, length, Option, Some, None, slice_get, Decides, refl, sym, ap, subst, inl, inr, ◌⊎◌, arith}
use Rattle.std.specs.List.{Contains, list_all}
use Rattle.std.specs.Prelude.{slice_index_or}
use Rattle.std.proofs.lemmas.Bool.{false≢true}
use Rattle.std.proofs.lemmas.Bool.Decides.{Decides-eqb, Decides-ltb, Decides-like, Decides-and}
use Rattle.std.proofs.lemmas.Option.{same_Some}
use Rattle.deref_walk.specs.declared.loc.Loc.{Loc}
use Rattle.deref_walk.specs.declared.loc.Loc.TheVariants as loc
use Rattle.value_flows.specs.declared.value.Target.{Target}
use Rattle.value_flows.specs.Syntax.{Val, Vals, Exs, variable, address, inside, behind, parts, beside, sent, call, none, more, each, results, Act, give, carry, Result, Func, Program}
use Rattle.param_tags.specs.Order.{Calls, AnyCalls, AllCall, ActCalls, func_at, IsOf, MayBeOf, IsIn, GoesIn, Fits, EachFits, AllFit, ActFits, FuncFits, IsFormed}
use Rattle.flow_batches.specs.Batches.{CallsAreThere}
use Rattle.flow_batches.proofs.Listed.{contains_first, contains_later}
use Rattle.flow_batches.specs.Form.{is_number, is_of, may_be_of, is_in, goes_in, fits, each_fits, all_fit, act_fits, func_fits, funcs_fit, is_formed}

-- ---- elements of lists

contains_cases_at : {A : Type 0} (x : A) (xs : List A) (y : A) (k : ℕ) → k < length (x ∷ xs) → slice_index_or (x ∷ xs) k y ≡ y → (x ≡ y) ⊎ Contains xs y
contains_cases_at x xs y zero within is = inl is
contains_cases_at x xs y (suc k) within is = inr (k, omega arith, is)

contains_cases : {A : Type 0} (x : A) (xs : List A) (y : A) → Contains (x ∷ xs) y → (x ≡ y) ⊎ Contains xs y
contains_cases x xs y c = contains_cases_at x xs y c.0 c.1 c.2

module _ {A : Type 0} (test : A → Bool) (P : A → Type 0) (decides : (x : A) → Decides (test x) (P x)) where
  pub each_decides : (xs : List A) → Decides (list_all test xs) ((x : A) → Contains xs x → P x)
  each_decides [] = ((λ e x c. (let within : c.0 < 0 = c.1 in absurd (omega arith))), λ h. refl)
  each_decides (y ∷ xs) = Decides-like {P = P y × ((x : A) → Contains xs x → P x)} {Q = (x : A) → Contains (y ∷ xs) x → P x} (test y && list_all test xs)
      (λ q x c. elim (contains_cases y xs x c) [ inl is ↦ subst P is q.0 | inr later ↦ q.1 x later ])
      (λ h. (h y (contains_first y xs), λ x c. h x (contains_later y x xs c)))
      (Decides-and (test y) (list_all test xs) (decides y) (each_decides xs))

-- ---- sites and locations

pub number_decides : (f : ℕ) (o : Option ℕ) → Decides (is_number f o) (o ≡ Some f)
number_decides f None = ((λ e. absurd (false≢true e)), λ e. absurd cc e)
number_decides f (Some g) = Decides-like {P = g ≡ f} {Q = Some g ≡ Some f} (g == f) (λ e. ap Some e) (λ e. same_Some g f e) (Decides-eqb g f)

module _ (p : Program) (f : ℕ) where
  of_decides : (x : ℕ) → Decides (is_of p f x) (IsOf p f x)
  of_decides x = number_decides f (func_at p x)

  may_be_decides : (o : Option ℕ) → Decides (may_be_of p f o) (MayBeOf p f o)
  may_be_decides None = ((λ e. tt), λ u. refl)
  may_be_decides (Some x) = of_decides x

  in_decides : (l : Loc) → Decides (is_in p f l) (IsIn p f l)
  in_decides (loc.Site x) = of_decides x.0
  in_decides (loc.Result g j) = Decides-eqb g.0 f
  in_decides loc.Heap = ((λ e. tt), λ u. refl)
  in_decides (loc.Carry x) = of_decides x.0

  goes_decides : (t : Option Target) → Decides (goes_in p f t) (GoesIn p f t)
  goes_decides None = ((λ e. tt), λ u. refl)
  goes_decides (Some t) = in_decides t.to

-- ---- what stands in a function is its own, and what it calls is there

-- each function that is called is
abbrev There : Program → (ℕ → Type 0) → Type 0
There p Called = (g : ℕ) → Called g → g < length p.funcs

module _ (p : Program) where
  no_calls : {A : Type 0} (b : Bool) → Decides b A → Decides b (A × There p (λ g. ⊥))
  no_calls {A = A} b d = Decides-like {P = A} {Q = A × There p (λ g. ⊥)} b (λ a. (a, λ g h. absurd h)) (λ q. q.0) d

  both_fit : (A B : Type 0) (C D : ℕ → Type 0) (x y : Bool) → Decides x (A × There p C) → Decides y (B × There p D) → Decides (x && y) ((A × B) × There p (λ g. C g ⊎ D g))
  both_fit A B C D x y d e = Decides-like {P = (A × There p C) × (B × There p D)} {Q = (A × B) × There p (λ g. C g ⊎ D g)} (x && y)
      (λ q. ((q.0.0, q.1.0), λ g h. elim h [ inl c ↦ q.0.1 g c | inr d ↦ q.1.1 g d ]))
      (λ q. ((q.0.0, λ g c. q.1 g (inl c)), (q.0.1, λ g d. q.1 g (inr d))))
      (Decides-and x y d e)

  call_fits : (A : Type 0) (C : ℕ → Type 0) (h : ℕ) (y : Bool) → Decides y (A × There p C) → Decides (nat_lt h (length p.funcs) && y) (A × There p (λ g. (h ≡ g) ⊎ C g))
  call_fits A C h y d = Decides-like {P = (h < length p.funcs) × (A × There p C)} {Q = A × There p (λ g. (h ≡ g) ⊎ C g)} (nat_lt h (length p.funcs) && y)
      (λ q. (q.1.0, λ g c. elim c [ inl is ↦ subst (λ (n : ℕ). n < length p.funcs) is q.0 | inr inner ↦ q.1.1 g inner ]))
      (λ q. (q.1 h (inl refl), (q.0, λ g c. q.1 g (inr c))))
      (Decides-and (nat_lt h (length p.funcs)) y (Decides-ltb h (length p.funcs)) d)

  beside_first : (A B : Type 0) (C : ℕ → Type 0) (x y : Bool) → Decides x A → Decides y (B × There p C) → Decides (x && y) ((A × B) × There p C)
  beside_first A B C x y d e = Decides-like {P = A × (B × There p C)} {Q = (A × B) × There p C} (x && y) (λ q. ((q.0, q.1.0), q.1.1)) (λ q. (q.0.0, (q.0.1, q.1))) (Decides-and x y d e)

  beside_last : (A B : Type 0) (C : ℕ → Type 0) (x y : Bool) → Decides x (A × There p C) → Decides y B → Decides (x && y) ((A × B) × There p C)
  beside_last A B C x y d e = Decides-like {P = (A × There p C) × B} {Q = (A × B) × There p C} (x && y) (λ q. ((q.0.0, q.1), q.0.1)) (λ q. ((q.0.0, q.1), q.0.1)) (Decides-and x y d e)

module _ (p : Program) (f : ℕ) where
  mutual
    fits_decides : (v : Val) → Decides (fits p f v) (Fits p f v × There p (Calls v))
    fits_decides (variable x) = no_calls p (is_of p f x) (of_decides p f x)
    fits_decides (address x) = no_calls p (is_of p f x) (of_decides p f x)
    fits_decides (inside has v) = fits_decides v
    fits_decides (behind v) = fits_decides v
    fits_decides (parts vs) = each_fits_decides vs
    fits_decides (beside vs v) = both_fit p (EachFits p f vs) (Fits p f v) (AnyCalls vs) (Calls v) (each_fits p f vs) (fits p f v) (each_fits_decides vs) (fits_decides v)
    fits_decides (sent t v) = beside_first p (IsIn p f t.to) (Fits p f v) (Calls v) (is_in p f t.to) (fits p f v) (in_decides p f t.to) (fits_decides v)
    fits_decides (call g es) = call_fits p (AllFit p f es) (AllCall es) g (all_fit p f es) (all_fit_decides es)

    each_fits_decides : (vs : Vals) → Decides (each_fits p f vs) (EachFits p f vs × There p (AnyCalls vs))
    each_fits_decides none = no_calls p true ((λ e. tt), λ u. refl)
    each_fits_decides (more v vs) = both_fit p (Fits p f v) (EachFits p f vs) (Calls v) (AnyCalls vs) (fits p f v) (each_fits p f vs) (fits_decides v) (each_fits_decides vs)

    all_fit_decides : (es : Exs) → Decides (all_fit p f es) (AllFit p f es × There p (AllCall es))
    all_fit_decides (each vs) = each_fits_decides vs
    all_fit_decides (results g es) = call_fits p (AllFit p f es) (AllCall es) g (all_fit p f es) (all_fit_decides es)

  act_decides : (a : Act) → Decides (act_fits p f a) (ActFits p f a × There p (ActCalls a))
  act_decides (give es targets) = beside_last p (AllFit p f es) ((t : Option Target) → Contains targets t → GoesIn p f t) (AllCall es) (all_fit p f es) (list_all (goes_in p f) targets) (all_fit_decides es) (each_decides (goes_in p f) (GoesIn p f) (goes_decides p f) targets)
  act_decides (carry x) = no_calls p (is_of p f x) (of_decides p f x)

-- what a function calls is there
abbrev BodyIsThere : Program → Func → Type 0
BodyIsThere p func = (a : Act) → Contains func.body a → There p (ActCalls a)

func_decides : (p : Program) (f : ℕ) (func : Func) → Decides (func_fits p f func) (FuncFits p f func × BodyIsThere p func)
func_decides p f func =
    let Params = (o : Option ℕ) → Contains func.params o → MayBeOf p f o in
    let Results = (r : Result) → Contains func.results r → MayBeOf p f r.site in
    let Body = (a : Act) → Contains func.body a → ActFits p f a × There p (ActCalls a) in
    let params : Bool = list_all (may_be_of p f) func.params in
    let results' : Bool = list_all (λ r. may_be_of p f r.site) func.results in
    let body : Bool = list_all (act_fits p f) func.body in
    Decides-like {P = Params × (Results × Body)} {Q = FuncFits p f func × BodyIsThere p func} (params && (results' && body))
    (λ q. (record { params = q.0; results = q.1.0; body = λ a c. (q.1.1 a c).0 }, λ a c. (q.1.1 a c).1))
    (λ q. (q.0.params, (q.0.results, λ a c. (q.0.body a c, q.1 a c))))
    (Decides-and params (results' && body)
    (each_decides (may_be_of p f) (MayBeOf p f) (may_be_decides p f) func.params)
    (Decides-and results' body
    (each_decides (λ (r : Result). may_be_of p f r.site) (λ (r : Result). MayBeOf p f r.site) (λ r. may_be_decides p f r.site) func.results)
    (each_decides (act_fits p f) (λ (a : Act). ActFits p f a × There p (ActCalls a)) (act_decides p f) func.body)))

-- ---- all functions

-- each of some functions, from the number k on, fits
abbrev FuncsFit : Program → ℕ → List Func → Type 0
FuncsFit p k fs = (i j : ℕ) (func : Func) → i ≡ k + j → slice_get fs j ≡ Some func → FuncFits p i func × BodyIsThere p func

funcs_more : (p : Program) (k : ℕ) (first : Func) (fs : List Func) → FuncFits p k first × BodyIsThere p first → FuncsFit p (suc k) fs → FuncsFit p k (first ∷ fs)
funcs_more p k first fs here later i zero func is at =
    let e : k ≡ i = omega arith in
    subst (λ (x : Func). FuncFits p i x × BodyIsThere p x) (same_Some first func at) (subst (λ (n : ℕ). FuncFits p n first × BodyIsThere p first) e here)
funcs_more p k first fs here later i (suc j) func is at = later i j func (omega arith) at

funcs_decides : (p : Program) (k : ℕ) (fs : List Func) → Decides (funcs_fit p k fs) (FuncsFit p k fs)
funcs_decides p k [] = ((λ e i j func is at. (let bad : None ≡ Some func = at in absurd cc bad)), λ h. refl)
funcs_decides p k (first ∷ fs) = Decides-like {P = (FuncFits p k first × BodyIsThere p first) × FuncsFit p (suc k) fs} {Q = FuncsFit p k (first ∷ fs)} (func_fits p k first && funcs_fit p (suc k) fs)
    (λ q. funcs_more p k first fs q.0 q.1)
    (λ h. (h k 0 first (omega arith) refl, λ i j func is at. h i (suc j) func (omega arith) at))
    (Decides-and (func_fits p k first) (funcs_fit p (suc k) fs) (func_decides p k first) (funcs_decides p (suc k) fs))

pub formed_decides : (p : Program) → Decides (is_formed p) (IsFormed p × CallsAreThere p)
formed_decides p = Decides-like {P = FuncsFit p 0 p.funcs} {Q = IsFormed p × CallsAreThere p} (is_formed p)
    (λ q. ((λ f func at. (q f f func (omega arith) at).0), λ f g c. (q f f c.0 (omega arith) c.2).1 c.1 c.3 g c.4))
    (λ q i j func is at. (let e : i ≡ j = omega arith in let here : slice_get p.funcs i ≡ Some func = subst (λ (n : ℕ). slice_get p.funcs n ≡ Some func) (sym e) at in (q.0 i func here, λ a c g h. q.1 i g (func, a, here, c, h))))
    (funcs_decides p 0 p.funcs)
