-- What the analysis asks of values and acts, in one: sites, targets and results are a function's own and there, and so is what is called.
use Rattle.std.proofs.Common.{◌≡◌, ◌⊎◌, inl, inr, ℕ, ◌<◌, Bool, true, false, List, [], ◌∷◌, ◌++◌, map, length, Option, Some, None, subst}
use Rattle.std.specs.List.{Contains}
use Rattle.deref_walk.specs.declared.loc.Loc.{Loc}
use Rattle.value_flows.specs.declared.value.Target.{Target}
use Rattle.value_flows.specs.Syntax.{Val, Vals, Exs, variable, address, inside, behind, parts, beside, sent, call, none, more, each, results, Act, give, carry, Program}
use Rattle.param_tags.specs.Order.{IsOf, IsIn, GoesIn, Fits, EachFits, AllFit, ActFits, Calls, AnyCalls, AllCall, ActCalls}
use Rattle.param_tags.proofs.Lists.{contains_nil, head_or_tail}
use Rattle.flow_batches.specs.Standing.{IsCarried, Has, GoesTo, Stands, EachStands, AllStand, ActStands}
use Rattle.typed_flows.specs.Values.{row, held, copied}

module _ (p : Program) (f : ℕ) where
  abbrev pub GoodLoc : Loc → Type 0
  GoodLoc l = IsIn p f l × Has p l

  abbrev pub GoodTarget : Option Target → Type 0
  GoodTarget None = Unit {0}
  GoodTarget (Some t) = GoodLoc t.to

  abbrev mutual
    pub Good : Val → Type 0
    Good (variable x) = IsOf p f x
    Good (address x) = IsOf p f x
    Good (inside has v) = Good v
    Good (behind v) = Good v
    Good (parts vs) = EachGood vs
    Good (beside vs v) = EachGood vs × Good v
    Good (sent t v) = GoodLoc t.to × Good v
    Good (call g es) = (g < length p.funcs) × AllGood es

    pub EachGood : Vals → Type 0
    EachGood none = Unit {0}
    EachGood (more v vs) = Good v × EachGood vs

    pub AllGood : Exs → Type 0
    AllGood (each vs) = EachGood vs
    AllGood (results g es) = (g < length p.funcs) × AllGood es

  abbrev pub Goods : List Val → Type 0
  Goods [] = Unit {0}
  Goods (v ∷ vs) = Good v × Goods vs

  abbrev pub GoodTargets : List (Option Target) → Type 0
  GoodTargets [] = Unit {0}
  GoodTargets (t ∷ ts) = GoodTarget t × GoodTargets ts

  abbrev pub GoodAct : Act → Type 0
  GoodAct (give es targets) = AllGood es × GoodTargets targets
  GoodAct (carry x) = IsOf p f x × IsCarried p x

  abbrev pub GoodActs : List Act → Type 0
  GoodActs [] = Unit {0}
  GoodActs (a ∷ acts) = GoodAct a × GoodActs acts

  -- ---- lists

  pub good_row : (vs : List Val) → Goods vs → EachGood (row vs)
  good_row [] h = tt
  good_row (v ∷ vs) h = (h.0, good_row vs h.1)

  pub goods_both : (vs ws : List Val) → Goods vs → Goods ws → Goods (vs ++ ws)
  goods_both [] ws h k = k
  goods_both (v ∷ vs) ws h k = (h.0, goods_both vs ws h.1 k)

  pub goods_sent : (t : Target) (vs : List Val) → GoodLoc t.to → Goods vs → Goods (map (sent t) vs)
  goods_sent t [] l h = tt
  goods_sent t (v ∷ vs) l h = ((l, h.0), goods_sent t vs l h.1)

  pub acts_both : (xs ys : List Act) → GoodActs xs → GoodActs ys → GoodActs (xs ++ ys)
  acts_both [] ys h k = k
  acts_both (a ∷ xs) ys h k = (h.0, acts_both xs ys h.1 k)

  pub good_held : (has : Bool) (v : Val) → Good v → Good (held has v)
  good_held true v h = h
  good_held false v h = ((h, tt), tt)

  pub good_copied : (has : Bool) (v : Val) → Good v → Good (copied has v)
  good_copied true v h = ((tt, tt), h)
  good_copied false v h = h

  -- ---- what follows

  mutual
    fits : (v : Val) → Good v → Fits p f v
    fits (variable x) h = h
    fits (address x) h = h
    fits (inside has v) h = fits v h
    fits (behind v) h = fits v h
    fits (parts vs) h = each_fits vs h
    fits (beside vs v) h = (each_fits vs h.0, fits v h.1)
    fits (sent t v) h = (h.0.0, fits v h.1)
    fits (call g es) h = all_fit es h.1

    each_fits : (vs : Vals) → EachGood vs → EachFits p f vs
    each_fits none h = tt
    each_fits (more v vs) h = (fits v h.0, each_fits vs h.1)

    all_fit : (es : Exs) → AllGood es → AllFit p f es
    all_fit (each vs) h = each_fits vs h
    all_fit (results g es) h = all_fit es h.1

  mutual
    stands : (v : Val) → Good v → Stands p v
    stands (variable x) h = tt
    stands (address x) h = tt
    stands (inside has v) h = stands v h
    stands (behind v) h = stands v h
    stands (parts vs) h = each_stands vs h
    stands (beside vs v) h = (each_stands vs h.0, stands v h.1)
    stands (sent t v) h = (h.0.1, stands v h.1)
    stands (call g es) h = all_stand es h.1

    each_stands : (vs : Vals) → EachGood vs → EachStands p vs
    each_stands none h = tt
    each_stands (more v vs) h = (stands v h.0, each_stands vs h.1)

    all_stand : (es : Exs) → AllGood es → AllStand p es
    all_stand (each vs) h = each_stands vs h
    all_stand (results g es) h = all_stand es h.1

  there_or : {A : Type 0} (g h : ℕ) → g < length p.funcs → (A → h < length p.funcs) → (g ≡ h) ⊎ A → h < length p.funcs
  there_or g h here later c = elim c [ inl is ↦ subst (λ (n : ℕ). n < length p.funcs) is here | inr inner ↦ later inner ]

  mutual
    there : (v : Val) (g : ℕ) → Good v → Calls v g → g < length p.funcs
    there (variable x) g h c = absurd c
    there (address x) g h c = absurd c
    there (inside has v) g h c = there v g h c
    there (behind v) g h c = there v g h c
    there (parts vs) g h c = each_there vs g h c
    there (beside vs v) g h c = elim c [ inl first ↦ each_there vs g h.0 first | inr last ↦ there v g h.1 last ]
    there (sent t v) g h c = there v g h.1 c
    there (call k es) g h c = there_or k g h.0 (all_there es g h.1) c

    each_there : (vs : Vals) (g : ℕ) → EachGood vs → AnyCalls vs g → g < length p.funcs
    each_there none g h c = absurd c
    each_there (more v vs) g h c = elim c [ inl first ↦ there v g h.0 first | inr last ↦ each_there vs g h.1 last ]

    all_there : (es : Exs) (g : ℕ) → AllGood es → AllCall es g → g < length p.funcs
    all_there (each vs) g h c = each_there vs g h c
    all_there (results k es) g h c = there_or k g h.0 (all_there es g h.1) c

  target : (t : Option Target) → GoodTarget t → GoesIn p f t × GoesTo p t
  target None h = (tt, tt)
  target (Some t) h = h

  targets_have : (ts : List (Option Target)) → GoodTargets ts → (t : Option Target) → Contains ts t → GoodTarget t
  targets_have [] h t c = absurd (contains_nil t c)
  targets_have (u ∷ ts) h t c = elim (head_or_tail u ts t c) [ inl is ↦ subst GoodTarget is h.0 | inr later ↦ targets_have ts h.1 t later ]

  pub acts_have : (xs : List Act) → GoodActs xs → (a : Act) → Contains xs a → GoodAct a
  acts_have [] h a c = absurd (contains_nil a c)
  acts_have (b ∷ xs) h a c = elim (head_or_tail b xs a c) [ inl is ↦ subst GoodAct is h.0 | inr later ↦ acts_have xs h.1 a later ]

  pub act_fits : (a : Act) → GoodAct a → ActFits p f a
  act_fits (give es targets) h = (all_fit es h.0, λ t c. (target t (targets_have targets h.1 t c)).0)
  act_fits (carry x) h = h.0

  pub act_stands : (a : Act) → GoodAct a → ActStands p a
  act_stands (give es targets) h = (all_stand es h.0, λ t c. (target t (targets_have targets h.1 t c)).1)
  act_stands (carry x) h = h.1

  pub act_there : (a : Act) (g : ℕ) → GoodAct a → ActCalls a g → g < length p.funcs
  act_there (give es targets) g h c = all_there es g h.0 c
  act_there (carry x) g h c = absurd c
