-- Looks at values that are known or not: each keeps what is known, and where one makes nothing more known, none does.
use Rattle.std.proofs.Common.{◌≡◌, ℕ, zero, suc, ◌+◌, ◌<◌, ◌≤◌, ◌⊎◌, inl, inr, List, [], ◌∷◌, length, Option, Some, None, refl, sym, ap, ◌∙◌, subst, arith, eqb, true, false}
use Rattle.std.specs.Prelude.{slice_get, slice_set, option_and_then}
use Rattle.std.proofs.lemmas.Bool.{cases_Bool, eqb-true, eqb-false}

module _ {A : Type 0} where
  -- the value at a number, where it is known
  abbrev pub known : List (Option A) → ℕ → Option A
  known cs k = option_and_then (λ o. o) (slice_get cs k)

  -- what is known stays so
  abbrev pub Within : List (Option A) → List (Option A) → Type 0
  Within cs ds = (k : ℕ) (f : A) → known cs k ≡ Some f → known ds k ≡ Some f

  none_is : {f : A} → None ≡ Some f → ⊥
  none_is e = cc

  some_is : {f g : A} → Some f ≡ Some g → f ≡ g
  some_is e = cc

  pub set_known : (cs : List (Option A)) (k : ℕ) (o : Option A) → k < length cs → known (slice_set cs k o) k ≡ o
  set_known [] k o l = absurd (omega (arith, l))
  set_known (c ∷ cs) zero o l = refl
  set_known (c ∷ cs) (suc k) o l = set_known cs k o (omega (arith, l))

  set_other : (cs : List (Option A)) (k j : ℕ) (o : Option A) (f : A) → known (slice_set cs k o) j ≡ Some f → ((j ≡ k) × (o ≡ Some f)) ⊎ (known cs j ≡ Some f)
  set_other [] k j o f h = inr h
  set_other (c ∷ cs) zero zero o f h = inl (refl, h)
  set_other (c ∷ cs) zero (suc j) o f h = inr h
  set_other (c ∷ cs) (suc k) zero o f h = inr h
  set_other (c ∷ cs) (suc k) (suc j) o f h = elim (set_other cs k j o f h) [ inl p ↦ inl (ap suc p.0, p.1) | inr q ↦ inr q ]

  pub set_others : (cs : List (Option A)) (k j : ℕ) (o : Option A) → (j ≡ k → ⊥) → known (slice_set cs k o) j ≡ known cs j
  set_others [] k j o other = refl
  set_others (c ∷ cs) zero zero o other = absurd (other refl)
  set_others (c ∷ cs) zero (suc j) o other = refl
  set_others (c ∷ cs) (suc k) zero o other = refl
  set_others (c ∷ cs) (suc k) (suc j) o other = set_others cs k j o (λ e. other (ap suc e))

  set_grows : (cs : List (Option A)) (k : ℕ) (o : Option A) → ((f : A) → known cs k ≡ Some f → o ≡ Some f) → (j : ℕ) (f : A) → known cs j ≡ Some f → known (slice_set cs k o) j ≡ Some f
  set_grows [] k o keeps j f h = h
  set_grows (c ∷ cs) zero o keeps zero f h = keeps f h
  set_grows (c ∷ cs) zero o keeps (suc j) f h = h
  set_grows (c ∷ cs) (suc k) o keeps zero f h = h
  set_grows (c ∷ cs) (suc k) o keeps (suc j) f h = set_grows cs k o keeps j f h

  pub set_many : (cs : List (Option A)) (k : ℕ) (o : Option A) → length (slice_set cs k o) ≡ length cs
  set_many [] k o = refl
  set_many (c ∷ cs) zero o = refl
  set_many (c ∷ cs) (suc k) o = ap suc (set_many cs k o)

  abbrev how_many : List (Option A) → ℕ
  how_many [] = 0
  how_many (None ∷ cs) = how_many cs
  how_many (Some f ∷ cs) = suc (how_many cs)

  many_all : (cs : List (Option A)) → how_many cs ≤ length cs
  many_all [] = omega arith
  many_all (None ∷ cs) = let l = many_all cs in omega (arith, l)
  many_all (Some f ∷ cs) = let l = many_all cs in omega (arith, l)

  many_le : (cs ds : List (Option A)) → length cs ≡ length ds → Within cs ds → how_many cs ≤ how_many ds
  many_le [] [] e w = omega arith
  many_le [] (d ∷ ds) e w = absurd (omega (arith, e))
  many_le (c ∷ cs) [] e w = absurd (omega (arith, e))
  many_le (None ∷ cs) (None ∷ ds) e w = many_le cs ds (omega (arith, e)) (λ k f h. w (suc k) f h)
  many_le (None ∷ cs) (Some g ∷ ds) e w = let l = many_le cs ds (omega (arith, e)) (λ k f h. w (suc k) f h) in omega (arith, l)
  many_le (Some f ∷ cs) (None ∷ ds) e w = absurd (none_is (w zero f refl))
  many_le (Some f ∷ cs) (Some g ∷ ds) e w = let l = many_le cs ds (omega (arith, e)) (λ k f h. w (suc k) f h) in omega (arith, l)

  many_same : (cs ds : List (Option A)) → length cs ≡ length ds → Within cs ds → how_many ds ≤ how_many cs → ds ≡ cs
  many_same [] [] e w n = refl
  many_same [] (d ∷ ds) e w n = absurd (omega (arith, e))
  many_same (c ∷ cs) [] e w n = absurd (omega (arith, e))
  many_same (None ∷ cs) (None ∷ ds) e w n = ap (λ l. None ∷ l) (many_same cs ds (omega (arith, e)) (λ k f h. w (suc k) f h) n)
  many_same (None ∷ cs) (Some g ∷ ds) e w n = let l = many_le cs ds (omega (arith, e)) (λ k f h. w (suc k) f h) in absurd (omega (arith, l, n))
  many_same (Some f ∷ cs) (None ∷ ds) e w n = absurd (none_is (w zero f refl))
  many_same (Some f ∷ cs) (Some g ∷ ds) e w n =
      ap (λ o. o ∷ ds) (w zero f refl) ∙ ap (λ l. Some f ∷ l) (many_same cs ds (omega (arith, e)) (λ k f h. w (suc k) f h) (omega (arith, n)))

-- what each of some gives, by what is known, and more where more is known
module _ {A I : Type 0} (give : List (Option A) → I → Option A) (monotone : (cs ds : List (Option A)) → Within cs ds → (i : I) (f : A) → give cs i ≡ Some f → give ds i ≡ Some f) where
  abbrev pub renewed : ℕ → List (Option A) → List I → List (Option A)
  renewed k cs [] = cs
  renewed k cs (i ∷ is) = renewed (1 + k) (slice_set cs k (give cs i)) is

  abbrev pub rounds : ℕ → List (Option A) → List I → List (Option A)
  rounds zero cs is = cs
  rounds (suc n) cs is = rounds n (renewed 0 cs is) is

  module _ (items : List I) where
    abbrev pub Consistent : List (Option A) → Type 0
    Consistent cs = (k : ℕ) (i : I) (f : A) → slice_get items k ≡ Some i → known cs k ≡ Some f → give cs i ≡ Some f

    pub record Good (cs ds : List (Option A)) : Type 0 where
      pub consistent : Consistent ds
      pub within : Within cs ds
      pub as_many : length ds ≡ length cs

    good_start : (cs : List (Option A)) → Consistent cs → Good cs cs
    good_start cs consistent = record { consistent = consistent; within = λ k f h. h; as_many = refl }

    good_more : (cs ds es : List (Option A)) → Good cs ds → Good ds es → Good cs es
    good_more cs ds es a b = record { consistent = b.consistent; within = λ k f h. b.within k f (a.within k f h); as_many = b.as_many ∙ a.as_many }

    one_step : (cs : List (Option A)) (k : ℕ) (i : I) → Consistent cs → slice_get items k ≡ Some i → Good cs (slice_set cs k (give cs i))
    one_step cs k i consistent has = record { consistent = λ j x f at h. by j x f at (set_other cs k j (give cs i) f h); within = within; as_many = set_many cs k (give cs i) }
      where
        within : Within cs (slice_set cs k (give cs i))
        within = set_grows cs k (give cs i) (λ f h. consistent k i f has h)

        more : (x : I) (f : A) → give cs x ≡ Some f → give (slice_set cs k (give cs i)) x ≡ Some f
        more x f h = monotone cs (slice_set cs k (give cs i)) within x f h

        by : (j : ℕ) (x : I) (f : A) → slice_get items j ≡ Some x → ((j ≡ k) × (give cs i ≡ Some f)) ⊎ (known cs j ≡ Some f) → give (slice_set cs k (give cs i)) x ≡ Some f
        by j x f at (inl p) =
            let both : Some i ≡ Some x = sym has ∙ ap (λ (n : ℕ). slice_get items n) (sym p.0) ∙ at in let same : i ≡ x = cc both in more x f (subst (λ (y : I). give cs y ≡ Some f) same p.1)
        by j x f at (inr h) = more x f (consistent j x f at h)

    -- some of them, from a number on
    abbrev Behind : ℕ → List I → Type 0
    Behind k is = (j : ℕ) (i : I) → slice_get is j ≡ Some i → slice_get items (j + k) ≡ Some i

    first : (k : ℕ) (i : I) (is : List I) → Behind k (i ∷ is) → slice_get items k ≡ Some i
    first k i is b = let e : zero + k ≡ k = omega arith in subst (λ (n : ℕ). slice_get items n ≡ Some i) e (b zero i refl)

    others : (k : ℕ) (i : I) (is : List I) → Behind k (i ∷ is) → Behind (1 + k) is
    others k i is b = λ j x at. let e : suc j + k ≡ j + (1 + k) = omega arith in subst (λ (n : ℕ). slice_get items n ≡ Some x) e (b (suc j) x at)

    all : Behind 0 items
    all j i at = let e : j ≡ j + 0 = omega arith in subst (λ (n : ℕ). slice_get items n ≡ Some i) e at

    pass : (k : ℕ) (is : List I) (cs : List (Option A)) → Behind k is → Consistent cs → Good cs (renewed k cs is)
    pass k [] cs b consistent = good_start cs consistent
    pass k (i ∷ is) cs b consistent =
        let a = one_step cs k i consistent (first k i is b) in
        good_more cs (slice_set cs k (give cs i)) (renewed (1 + k) (slice_set cs k (give cs i)) is) a (pass (1 + k) is (slice_set cs k (give cs i)) (others k i is b) a.consistent)

    -- what gives something is known after a look
    seen_at : (k : ℕ) (is : List I) (cs : List (Option A)) → Behind k is → Consistent cs → (j : ℕ) (i : I) (f : A) → slice_get is j ≡ Some i → give cs i ≡ Some f → j + k < length cs
        → known (renewed k cs is) (j + k) ≡ Some f
    seen_at k [] cs b consistent j i f at g l = let bad : None ≡ Some i = at in absurd cc
    seen_at k (x ∷ is) cs b consistent zero i f at g l =
        let same : x ≡ i = cc at in
        let here : k < length cs = omega (arith, l) in
        let e : k ≡ zero + k = omega arith in
        let a = one_step cs k x consistent (first k x is b) in
        let set : known (slice_set cs k (give cs x)) k ≡ Some f = set_known cs k (give cs x) here ∙ ap (λ (y : I). give cs y) same ∙ g in
        let rest = pass (1 + k) is (slice_set cs k (give cs x)) (others k x is b) a.consistent in
        subst (λ (n : ℕ). known (renewed (1 + k) (slice_set cs k (give cs x)) is) n ≡ Some f) e (rest.within k f set)
    seen_at k (x ∷ is) cs b consistent (suc j) i f at g l =
        let a = one_step cs k x consistent (first k x is b) in
        let e : j + (1 + k) ≡ suc j + k = omega arith in
        let many = a.as_many in
        subst (λ (n : ℕ). known (renewed (1 + k) (slice_set cs k (give cs x)) is) n ≡ Some f) e
        (seen_at (1 + k) is (slice_set cs k (give cs x)) (others k x is b) a.consistent j i f at (monotone cs (slice_set cs k (give cs x)) a.within i f g) (omega (arith, many, l)))

    pub rounds_good : (n : ℕ) (cs : List (Option A)) → Consistent cs → Good cs (rounds n cs items)
    rounds_good zero cs consistent = good_start cs consistent
    rounds_good (suc n) cs consistent =
        let a = pass 0 items cs all consistent in good_more cs (renewed 0 cs items) (rounds n (renewed 0 cs items) items) a (rounds_good n (renewed 0 cs items) a.consistent)

    rounds_same : (n : ℕ) (cs : List (Option A)) → renewed 0 cs items ≡ cs → rounds n cs items ≡ cs
    rounds_same zero cs e = refl
    rounds_same (suc n) cs e = ap (λ (l : List (Option A)). rounds n l items) e ∙ rounds_same n cs e

    -- all is done, or as many more are known as there were looks
    abbrev pub IsEnd : List (Option A) → Type 0
    IsEnd cs = renewed 0 cs items ≡ cs

    one_round : (n : ℕ) (cs ds : List (Option A)) → Good cs ds → renewed 0 cs items ≡ ds → IsEnd (rounds n ds items) ⊎ (n + how_many ds ≤ how_many (rounds n ds items))
        → IsEnd (rounds n ds items) ⊎ (suc n + how_many cs ≤ how_many (rounds n ds items))
    one_round n cs ds good is behind = by (cases_Bool (eqb (how_many cs) (how_many ds)))
      where
        by : (eqb (how_many cs) (how_many ds) ≡ true) ⊎ (eqb (how_many cs) (how_many ds) ≡ false) → IsEnd (rounds n ds items) ⊎ (suc n + how_many cs ≤ how_many (rounds n ds items))
        by (inl e) =
            let n_is : how_many cs ≡ how_many ds = eqb-true _ _ e in
            let same : ds ≡ cs = many_same cs ds (sym good.as_many) good.within (omega (arith, n_is)) in
            let end : IsEnd ds = ap (λ (l : List (Option A)). renewed 0 l items) same ∙ is in
            inl (subst (λ (l : List (Option A)). IsEnd l) (sym (rounds_same n ds end)) end)
        by (inr e) =
            let differ = eqb-false (how_many cs) (how_many ds) e in
            let le = many_le cs ds (sym good.as_many) good.within in
            elim behind [ inl end ↦ inl end | inr l ↦ inr (omega (arith, differ, le, l)) ]

    rounds_end : (n : ℕ) (cs : List (Option A)) → Consistent cs → IsEnd (rounds n cs items) ⊎ (n + how_many cs ≤ how_many (rounds n cs items))
    rounds_end zero cs consistent = inr (omega arith)
    rounds_end (suc n) cs consistent =
        let a = pass 0 items cs all consistent in one_round n cs (renewed 0 cs items) a refl (rounds_end n (renewed 0 cs items) a.consistent)

    end_by : (cs ds : List (Option A)) → Good cs ds → renewed 0 ds items ≡ ds ⊎ (length cs ≤ how_many ds) → Consistent ds → IsEnd ds
    end_by cs ds good (inl end) consistent = end
    end_by cs ds good (inr l) consistent =
        let a = pass 0 items ds all consistent in
        let many = many_all (renewed 0 ds items) in
        let as_many = a.as_many in
        let before = good.as_many in
        many_same ds (renewed 0 ds items) (sym a.as_many) a.within (omega (arith, l, many, as_many, before))

    -- after as many looks as there are values no look makes more known
    pub rounds_settle : (cs : List (Option A)) → Consistent cs → length cs ≡ length items → IsEnd (rounds (length items) cs items)
    rounds_settle cs consistent many =
        let good = rounds_good (length items) cs consistent in
        end_by cs (rounds (length items) cs items) good (elim (rounds_end (length items) cs consistent) [ inl end ↦ inl end | inr l ↦ inr (omega (arith, l, many)) ]) good.consistent

    -- so what gives something is known
    pub all_seen : (cs : List (Option A)) → Consistent cs → IsEnd cs → (k : ℕ) (i : I) (f : A) → slice_get items k ≡ Some i → give cs i ≡ Some f → k < length cs → known cs k ≡ Some f
    all_seen cs consistent end k i f at g l =
        let e : k + 0 ≡ k = omega arith in
        subst (λ (ds : List (Option A)). known ds k ≡ Some f) end
        (subst (λ (n : ℕ). known (renewed 0 cs items) n ≡ Some f) e (seen_at 0 items cs all consistent k i f at g (omega (arith, l))))

    -- what holds of all that is given holds of all that is known
    module _ (P : A → Type 0) (holds : (cs : List (Option A)) → ((k : ℕ) (f : A) → known cs k ≡ Some f → P f) → (i : I) (f : A) → give cs i ≡ Some f → P f) where
      abbrev pub AllHold : List (Option A) → Type 0
      AllHold cs = (k : ℕ) (f : A) → known cs k ≡ Some f → P f

      set_holds : (cs : List (Option A)) (k : ℕ) (i : I) → AllHold cs → AllHold (slice_set cs k (give cs i))
      set_holds cs k i before = λ j f h. elim (set_other cs k j (give cs i) f h) [ inl p ↦ holds cs before i f p.1 | inr q ↦ before j f q ]

      pass_holds : (k : ℕ) (is : List I) (cs : List (Option A)) → AllHold cs → AllHold (renewed k cs is)
      pass_holds k [] cs before = before
      pass_holds k (i ∷ is) cs before = pass_holds (1 + k) is (slice_set cs k (give cs i)) (set_holds cs k i before)

      pub rounds_hold : (n : ℕ) (cs : List (Option A)) → AllHold cs → AllHold (rounds n cs items)
      rounds_hold zero cs before = before
      rounds_hold (suc n) cs before = rounds_hold n (renewed 0 cs items) (pass_holds 0 items cs before)

  -- there are as many as before
  renewed_many : (k : ℕ) (cs : List (Option A)) (is : List I) → length (renewed k cs is) ≡ length cs
  renewed_many k cs [] = refl
  renewed_many k cs (i ∷ is) = renewed_many (1 + k) (slice_set cs k (give cs i)) is ∙ set_many cs k (give cs i)

  pub rounds_many : (n : ℕ) (cs : List (Option A)) (is : List I) → length (rounds n cs is) ≡ length cs
  rounds_many zero cs is = refl
  rounds_many (suc n) cs is = rounds_many n (renewed 0 cs is) is ∙ renewed_many 0 cs is
