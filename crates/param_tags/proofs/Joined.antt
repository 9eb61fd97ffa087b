-- One look after another.
use Rattle.std.proofs.Common.{◌≡◌, ◌⊎◌, inl, inr, ◌↔◌, ℕ, zero, suc, ◌<◌, ◌+◌, Bool, true, false, List, [], ◌∷◌, ◌++◌, length, get_or, set, take, refl, sym, subst, ap, ◌∙◌, arith}
use Rattle.std.specs.List.{Contains}
use Rattle.std.specs.Prelude.{◌||◌}
use Rattle.std.proofs.lemmas.List.{take_more, length-set}
use Rattle.std.proofs.lemmas.List.Elements.{Contains-append_left, Contains-append_right, Contains-push_cases}
use Rattle.value_flows.specs.declared.placed.Known.{Known as KnownData}
use Rattle.value_flows.specs.Syntax.{Program}
use Rattle.param_tags.specs.declared.walks.Hold.{Hold}
use Rattle.param_tags.specs.Heap.{is_on, placed_at, heap_of, is_result, outside, outlives}
use Rattle.param_tags.specs.Walks.{Stands}
use Rattle.value_flows.specs.declared.placed.Placed.{Placed}
use Rattle.value_flows.specs.declared.placed.Placed.TheVariants.{Known, Flow}
use Rattle.deref_walk.specs.declared.loc.Loc.{Loc}
use Rattle.deref_walk.specs.declared.loc.Loc.TheVariants as loc
use Rattle.param_tags.specs.Rounds.{Joins, IsRound, on_stack}
use Rattle.param_tags.proofs.Lists.{one_has, cases_same}

pub joins_none : (p : Program) (H : List Placed) → Joins p [] H H
joins_none p H = record { size = refl; more = λ l h. h; least = λ K sub keeps l h. sub l h; knowns = λ l why. (λ h. h, λ h. h); reasons = λ l r h. inl h; gained = λ l h. inl h }

stands_left : (seen : List Hold) (h : Hold) (r : Loc) (l : ℕ) → Stands seen r l → Stands (seen ++ h ∷ []) r l
stands_left seen h r l s = (s.0, Contains-append_left seen (h ∷ []) s.0 s.1, s.2, s.3)

stands_right : (seen : List Hold) (h : Hold) (r : Loc) (l : ℕ) → Stands (h ∷ []) r l → Stands (seen ++ h ∷ []) r l
stands_right seen h r l s = (s.0, Contains-append_right seen (h ∷ []) s.0 s.1, s.2, s.3)

pub or_map : (a b c : Bool) → (a ≡ true → b ≡ true) → (a || c) ≡ true → (b || c) ≡ true
or_map true b c h t = (let e : b ≡ true = h refl in rw e refl)
or_map false true c h t = refl
or_map false false c h t = t

pub outlives_more : (p : Program) (K L : ℕ → Bool) → ((m : ℕ) → K m ≡ true → L m ≡ true) → (r : Loc) (l : ℕ) → outlives p K r l ≡ true → outlives p L r l ≡ true
outlives_more p K L h (loc.Site m) l t = or_map (K m.0) (L m.0) (is_result p m.0 || outside p m.0 0 l) (h m.0) t
outlives_more p K L h (loc.Result f i) l t = t
outlives_more p K L h loc.Heap l t = t
outlives_more p K L h (loc.Carry m) l t = t

-- nothing joins
pub joins_skip : (p : Program) (h : Hold) (H : List Placed) → Joins p (h ∷ []) H H
joins_skip p h H = record { size = refl; more = λ l m. m; least = λ K sub keeps l m. sub l m; knowns = λ l why. (λ m. m, λ m. m); reasons = λ l r m. inl m; gained = λ l m. inl m }

home_here : (H : List Placed) (x : ℕ) (home : Placed) → x < length H → placed_at (set H x home) x ≡ home
home_here [] x home within = absurd (omega arith)
home_here (y ∷ H) zero home within = refl
home_here (y ∷ H) (suc x) home within = home_here H x home (omega arith)

home_there : (H : List Placed) (x l : ℕ) (home : Placed) → (x ≡ l → ⊥) → placed_at (set H x home) l ≡ placed_at H l
home_there [] x l home apart = refl
home_there (y ∷ H) zero zero home apart = absurd (apart refl)
home_there (y ∷ H) zero (suc l) home apart = refl
home_there (y ∷ H) (suc x) zero home apart = refl
home_there (y ∷ H) (suc x) (suc l) home apart = home_there H x l home (λ e. apart (ap suc e))

-- a site that was on the stack has no known reason, and it gets none
knowns_one : (H G : List Placed) (x : ℕ) (root : Loc) → heap_of H x ≡ false → placed_at G x ≡ Flow root → (why : KnownData) → (placed_at H x ≡ Known why) ↔ (placed_at G x ≡ Known why)
knowns_one H G x root off here why = (
  λ old. absurd (let e : true ≡ false = sym (ap is_on old) ∙ off in cc),
  λ new. absurd (let e : Flow root ≡ Known why = sym here ∙ new in cc),
)

-- one site joins
pub joins_one : (p : Program) (h : Hold) (H : List Placed) → h.site.0 < length H → heap_of H h.site.0 ≡ false → outlives p (heap_of H) h.root h.site.0 ≡ true → Joins p (h ∷ []) H (set H h.site.0 (Flow h.root))
joins_one p h H within off out =
    let x = h.site.0 in
    let G = set H x (Flow h.root) in
    let here : placed_at G x ≡ Flow h.root = home_here H x (Flow h.root) within in
    let on : heap_of G x ≡ true = ap is_on here in
    let up : (l : ℕ) → heap_of H l ≡ true → heap_of G l ≡ true = (λ l m. elim (cases_same x l) [
      | inl same ↦ subst (λ (n : ℕ). heap_of G n ≡ true) same on
      | inr apart ↦ ap is_on (home_there H x l (Flow h.root) apart) ∙ m
    ]) in
    record {
      size = length-set H x (Flow h.root);
      more = up;
      least = λ K sub keeps l m. elim (cases_same x l) [
        | inl same ↦ subst (λ (n : ℕ). K n ≡ true) same (keeps h (one_has h) (outlives_more p (heap_of H) K sub h.root x out))
        | inr apart ↦ sub l (sym (ap is_on (home_there H x l (Flow h.root) apart)) ∙ m)
      ];
      knowns = λ l why. elim (cases_same x l) [
        | inl same ↦ subst (λ (n : ℕ). (placed_at H n ≡ Known why) ↔ (placed_at G n ≡ Known why)) same (knowns_one H G x h.root off here why)
        | inr apart ↦ (let still = home_there H x l (Flow h.root) apart in (λ old. still ∙ old, λ new. sym still ∙ new))
      ];
      reasons = λ l r m. elim (cases_same x l) [
        | inl same ↦ (let of : placed_at G x ≡ Flow r = subst (λ (n : ℕ). placed_at G n ≡ Flow r) (sym same) m in
            let one : Flow h.root ≡ Flow r = sym here ∙ of in
            let root : h.root ≡ r = cc in
            inr ((h, one_has h, root, same), subst (λ (q : Loc). outlives p (heap_of G) q l ≡ true) root (subst (λ (n : ℕ). outlives p (heap_of G) h.root n ≡ true) same (outlives_more p (heap_of H) (heap_of G) up h.root x out))))
        | inr apart ↦ inl (sym (home_there H x l (Flow h.root) apart) ∙ m)
      ];
      gained = λ l m. elim (cases_same x l) [
        | inl same ↦ inr (h, one_has h, same)
        | inr apart ↦ inl (sym (ap is_on (home_there H x l (Flow h.root) apart)) ∙ m)
      ];
    }

both_ways : {A B C : Type 0} → A ↔ B → B ↔ C → A ↔ C
both_ways a b = (λ x. b.0 (a.0 x), λ z. a.1 (b.1 z))

pub joins_more : (p : Program) (seen : List Hold) (h : Hold) (old mid new : List Placed) → Joins p seen old mid → Joins p (h ∷ []) mid new → Joins p (seen ++ h ∷ []) old new
joins_more p seen h old mid new a b = record {
  size = b.size ∙ a.size;
  more = λ l m. b.more l (a.more l m);
  least = λ K sub keeps l m. b.least K (λ j n. a.least K sub (λ g among out. keeps g (Contains-append_left seen (h ∷ []) g among) out) j n) (λ g among out. keeps g (Contains-append_right seen (h ∷ []) g among) out) l m;
  knowns = λ l why. both_ways (a.knowns l why) (b.knowns l why);
  reasons = λ l r m. elim (b.reasons l r m) [
    | inl before ↦ (elim (a.reasons l r before) [ inl old ↦ inl old | inr now ↦ inr (stands_left seen h r l now.0, outlives_more p (heap_of mid) (heap_of new) b.more r l now.1) ])
    | inr now ↦ inr (stands_right seen h r l now.0, now.1)
  ];
  gained = λ l m. elim (b.gained l m) [
    | inl before ↦ (elim (a.gained l before) [ inl old ↦ inl old | inr new ↦ inr (new.0, Contains-append_left seen (h ∷ []) new.0 new.1, new.2) ])
    | inr new ↦ inr (new.0, Contains-append_right seen (h ∷ []) new.0 new.1, new.2)
  ];
}

-- the same pairs again
pub joins_again : (p : Program) (holds : List Hold) (old mid new : List Placed) → Joins p holds old mid → Joins p holds mid new → Joins p holds old new
joins_again p holds old mid new a b = record {
  size = b.size ∙ a.size;
  more = λ l m. b.more l (a.more l m);
  least = λ K sub keeps l m. b.least K (λ j n. a.least K sub keeps j n) keeps l m;
  knowns = λ l why. both_ways (a.knowns l why) (b.knowns l why);
  reasons = λ l r m. elim (b.reasons l r m) [
    | inl before ↦ (elim (a.reasons l r before) [ inl old ↦ inl old | inr now ↦ inr (now.0, outlives_more p (heap_of mid) (heap_of new) b.more r l now.1) ])
    | inr now ↦ inr now
  ];
  gained = λ l m. elim (b.gained l m) [ inl before ↦ a.gained l before | inr new ↦ inr new ];
}

-- a look never leaves more sites on the stack
pub not_more : (p : Program) (seen : List Hold) (old new : List Placed) (was : Bool) → IsRound p seen old new was → on_stack new < on_stack old + 1
not_more p seen old new true r = omega arith
not_more p seen old new false r = let e : on_stack new ≡ on_stack old = ap on_stack r.0 in omega arith

joined_more : (p : Program) (seen : List Hold) (h : Hold) (old mid new : List Placed) (was : Bool) → IsRound p seen old mid was → IsRound p (h ∷ []) mid new true → IsRound p (seen ++ h ∷ []) old new true
joined_more p seen h old mid new was a b =
    let less : on_stack mid < on_stack old + 1 = not_more p seen old mid was a in
    omega arith

stays_more : (p : Program) (seen : List Hold) (h : Hold) (old mid new : List Placed) (was : Bool) → IsRound p seen old mid was → IsRound p (h ∷ []) mid new false → IsRound p (seen ++ h ∷ []) old new was
stays_more p seen h old mid new true a b = subst (λ (x : List Placed). on_stack x < on_stack old) (sym b.0) a
stays_more p seen h old mid new false a b = (
  b.0 ∙ a.0,
  λ g among out. elim (Contains-push_cases seen h g among) [
    | inl before ↦ subst (λ (x : List Placed). heap_of x g.site.0 ≡ true) (sym b.0) (a.1 g before (subst (λ (x : List Placed). outlives p (heap_of x) g.root g.site.0 ≡ true) b.0 out))
    | inr same ↦ b.1 g (subst (λ (x : Hold). Contains (h ∷ []) x) same (one_has h)) out
  ],
)

pub round_more : (p : Program) (seen : List Hold) (h : Hold) (old mid new : List Placed) (was now joined : Bool) → IsRound p seen old mid was → IsRound p (h ∷ []) mid new now → ((now ≡ true) × (joined ≡ true)) ⊎ ((now ≡ false) × (joined ≡ was)) → IsRound p (seen ++ h ∷ []) old new joined
round_more p seen h old mid new was now joined a b (inl fell) = subst (λ (x : Bool). IsRound p (seen ++ h ∷ []) old new x) (sym fell.1) (joined_more p seen h old mid new was a (subst (λ (x : Bool). IsRound p (h ∷ []) mid new x) fell.0 b))
round_more p seen h old mid new was now joined a b (inr stays) = subst (λ (x : Bool). IsRound p (seen ++ h ∷ []) old new x) (sym stays.1) (stays_more p seen h old mid new was a (subst (λ (x : Bool). IsRound p (h ∷ []) mid new x) stays.0 b))

pub one_more : (p : Program) (holds : List Hold) (i : ℕ) (h : Hold) (old mid new : List Placed) (was now joined : Bool) → i < length holds → Joins p (take i holds) old mid → IsRound p (take i holds) old mid was → Joins p (get_or holds i h ∷ []) mid new → IsRound p (get_or holds i h ∷ []) mid new now → ((now ≡ true) × (joined ≡ true)) ⊎ ((now ≡ false) × (joined ≡ was)) → Joins p (take (i + 1) holds) old new × IsRound p (take (i + 1) holds) old new joined
one_more p holds i h old mid new was now joined within a r b q branch =
    let e = get_or holds i h in
    let seen : take (i + 1) holds ≡ take i holds ++ e ∷ [] = take_more holds i h within in (
      subst (λ (xs : List Hold). Joins p xs old new) (sym seen) (joins_more p (take i holds) e old mid new a b),
      subst (λ (xs : List Hold). IsRound p xs old new joined) (sym seen) (round_more p (take i holds) e old mid new was now joined r q branch),
    )
