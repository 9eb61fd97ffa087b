-- Lines after lines: their text, and that their numbers fit.
use Rattle.std.proofs.Common.{◌≡◌, ℕ, suc, ◌+◌, ◌<◌, List, [], ◌∷◌, ◌++◌, length, drop, get_or, Option, None, slice_get, refl, sym, ap, subst, ◌∙◌, arith}
use Rattle.std.specs.Prelude.{Vec}
use Rattle.std.specs.declared.alloc.Global.{Global}
use Rattle.std.proofs.Math.Seq.{drop-cons}
use mathlib.Core.List.{append_assoc}
use Rattle.base.specs.declared.ids.SiteId.{SiteId}
use Rattle.deref_walk.specs.declared.levels.Step.{Step}
use Rattle.value_flows.specs.declared.placed.Placed.{Placed}
use Rattle.value_flows.specs.declared.tags.ParamTags.{ParamTags}
use Rattle.value_flows.specs.declared.program.Func.{Func}
use Rattle.param_tags.specs.Heap.{placed_at}
use Rattle.report_checks.specs.Texts.{line_text, LineFits}
use Rattle.explain.specs.declared.names.SiteName.{SiteName}
use Rattle.explain.specs.Lines.{Named, site_line, path_at, path_lines, site_lines, param_lines, params_lines, tags_in, func_lines, text_of}
use Rattle.explain.specs.Passing.{AreFit}

pub text_append : (xs ys : List Named) → text_of (xs ++ ys) ≡ text_of xs ++ text_of ys
text_append [] ys = refl
text_append (x ∷ xs) ys =
    ap (λ (t : List ℕ). line_text x.line x.name ++ 10 ∷ t) (text_append xs ys) ∙ sym (append_assoc (line_text x.line x.name) (10 ∷ text_of xs) (text_of ys))

one_more : (k : ℕ) → suc k ≡ k + 1
one_more k = omega arith

-- what a turn of a loop puts stands at the front of what is left
turn : (before x rest after whole : List ℕ) → after ≡ before ++ x → before ++ (x ++ rest) ≡ whole → after ++ rest ≡ whole
turn before x rest after whole e h = ap (λ (t : List ℕ). t ++ rest) e ∙ append_assoc before x rest ∙ h

first_left : {A : Type 0} (xs : List A) (k : ℕ) (x d : A) → x ≡ get_or xs k d → k < length xs → drop k xs ≡ x ∷ drop (suc k) xs
first_left {A = A} xs k x d e h = drop-cons xs k d h ∙ ap (λ (y : A). y ∷ drop (suc k) xs) (sym e)

pub fit_append : (xs ys : List Named) → AreFit xs → AreFit ys → AreFit (xs ++ ys)
fit_append [] ys h k = k
fit_append (x ∷ xs) ys h k = (h.0, fit_append xs ys h.1 k)

-- some lines, and then those that are left
cut_text : (xs here left : List Named) → xs ≡ here ++ left → text_of xs ≡ text_of here ++ text_of left
cut_text xs here left e = ap text_of e ∙ text_append here left

cut_fit : (xs here left : List Named) → xs ≡ here ++ left → AreFit here → AreFit left → AreFit xs
cut_fit xs here left e h k = subst AreFit (sym e) (fit_append here left h k)

module _ (f : ℕ) (os : List (Option SiteId)) (tags : List ParamTags) where
  left_params : ℕ → List Named
  left_params j = params_lines f j (drop j os) tags

  params_cut : (j : ℕ) (o : Option SiteId) → o ≡ get_or os j None → j < length os → left_params j ≡ param_lines f j o (slice_get tags j) ++ left_params (j + 1)
  unfolding left_params
  params_cut j o e h =
      ap (λ (xs : List (Option SiteId)). params_lines f j xs tags) (first_left os j o None e h)
      ∙ ap (λ (i : ℕ). param_lines f j o (slice_get tags j) ++ params_lines f i (drop i os) tags) (one_more j)

  pub params_turn : (j : ℕ) (o : Option SiteId) (before after whole : List ℕ) → o ≡ get_or os j None → j < length os → after ≡ before ++ text_of (param_lines f j o (slice_get tags j))
      → before ++ text_of (params_lines f j (drop j os) tags) ≡ whole → after ++ text_of (params_lines f (j + 1) (drop (j + 1) os) tags) ≡ whole
  unfolding left_params
  params_turn j o before after whole e h put left =
      let here = param_lines f j o (slice_get tags j) in
      turn before (text_of here) (text_of (left_params (j + 1))) after whole put (ap (λ (t : List ℕ). before ++ t) (sym (cut_text (left_params j) here (left_params (j + 1)) (params_cut j o e h))) ∙ left)

  pub params_fit : (j : ℕ) (o : Option SiteId) → o ≡ get_or os j None → j < length os → AreFit (param_lines f j o (slice_get tags j)) → AreFit (params_lines f (j + 1) (drop (j + 1) os) tags) → AreFit (params_lines f j (drop j os) tags)
  unfolding left_params
  params_fit j o e h here left = cut_fit (left_params j) (param_lines f j o (slice_get tags j)) (left_params (j + 1)) (params_cut j o e h) here left

module _ (gs : List Func) (tags : List (Vec ParamTags Global)) where
  own_lines : ℕ → Func → List Named
  own_lines f g = params_lines f 0 g.params.items (tags_in (slice_get tags f))

  left_funcs : ℕ → List Named
  left_funcs f = func_lines f (drop f gs) tags

  funcs_cut : (f : ℕ) (g : Func) → g ≡ get_or gs f g → f < length gs → left_funcs f ≡ own_lines f g ++ left_funcs (f + 1)
  unfolding left_funcs own_lines
  funcs_cut f g e h =
      ap (λ (xs : List Func). func_lines f xs tags) (first_left gs f g g e h)
      ∙ ap (λ (i : ℕ). own_lines f g ++ func_lines i (drop i gs) tags) (one_more f)

  pub funcs_turn : (f : ℕ) (g : Func) (before after whole : List ℕ) → g ≡ get_or gs f g → f < length gs → after ≡ before ++ text_of (params_lines f 0 g.params.items (tags_in (slice_get tags f)))
      → before ++ text_of (func_lines f (drop f gs) tags) ≡ whole → after ++ text_of (func_lines (f + 1) (drop (f + 1) gs) tags) ≡ whole
  unfolding left_funcs own_lines
  funcs_turn f g before after whole e h put left =
      turn before (text_of (own_lines f g)) (text_of (left_funcs (f + 1))) after whole put (ap (λ (t : List ℕ). before ++ t) (sym (cut_text (left_funcs f) (own_lines f g) (left_funcs (f + 1)) (funcs_cut f g e h))) ∙ left)

  pub funcs_fit : (f : ℕ) (g : Func) → g ≡ get_or gs f g → f < length gs → AreFit (params_lines f 0 g.params.items (tags_in (slice_get tags f))) → AreFit (func_lines (f + 1) (drop (f + 1) gs) tags) → AreFit (func_lines f (drop f gs) tags)
  unfolding left_funcs own_lines
  funcs_fit f g e h here left = cut_fit (left_funcs f) (own_lines f g) (left_funcs (f + 1)) (funcs_cut f g e h) here left

module _ (ns : List SiteName) (placed : List Placed) (paths : List (Option (Vec Step Global))) where
  path : ℕ → List Named
  path k = path_lines (placed_at placed k) (path_at paths k)

  line : ℕ → SiteName → List Named
  line k n = site_line k n (placed_at placed k) ∷ []

  left_sites : ℕ → List Named
  left_sites k = site_lines k (drop k ns) placed paths

  sites_cut : (k : ℕ) (n : SiteName) → n ≡ get_or ns k n → k < length ns → left_sites k ≡ line k n ++ (path k ++ left_sites (k + 1))
  unfolding left_sites path line
  sites_cut k n e h =
      ap (λ (xs : List SiteName). site_lines k xs placed paths) (first_left ns k n n e h)
      ∙ ap (λ (i : ℕ). line k n ++ (path k ++ site_lines i (drop i ns) placed paths)) (one_more k)

  pub sites_turn : (k : ℕ) (n : SiteName) (before between after whole : List ℕ) → n ≡ get_or ns k n → k < length ns → between ≡ before ++ text_of (site_line k n (placed_at placed k) ∷ []) → after ≡ between ++ text_of (path_lines (placed_at placed k) (path_at paths k))
      → before ++ text_of (site_lines k (drop k ns) placed paths) ≡ whole → after ++ text_of (site_lines (k + 1) (drop (k + 1) ns) placed paths) ≡ whole
  unfolding left_sites path line
  sites_turn k n before between after whole e h put steps left =
      let later = left_sites (k + 1) in
      let cut : text_of (left_sites k) ≡ text_of (line k n) ++ (text_of (path k) ++ text_of later) =
      cut_text (left_sites k) (line k n) (path k ++ later) (sites_cut k n e h) ∙ ap (λ (t : List ℕ). text_of (line k n) ++ t) (text_append (path k) later) in
      turn between (text_of (path k)) (text_of later) after whole steps
      (turn before (text_of (line k n)) (text_of (path k) ++ text_of later) between whole put
      (ap (λ (t : List ℕ). before ++ t) (sym cut) ∙ left))

  pub sites_fit : (k : ℕ) (n : SiteName) → n ≡ get_or ns k n → k < length ns → LineFits (site_line k n (placed_at placed k)).line → AreFit (path_lines (placed_at placed k) (path_at paths k)) → AreFit (site_lines (k + 1) (drop (k + 1) ns) placed paths)
      → AreFit (site_lines k (drop k ns) placed paths)
  unfolding left_sites path line
  sites_fit k n e h here steps left = cut_fit (left_sites k) (line k n) (path k ++ left_sites (k + 1)) (sites_cut k n e h) (here, tt) (fit_append (path k) (left_sites (k + 1)) steps left)
