-- The lines of an analysis are a report of its graph.
use Rattle.std.proofs.Common.{◌≡◌, ◌⊎◌, inl, inr, ℕ, suc, ◌+◌, ◌<◌, ◌≤◌, pos, negsuc, Bool, true, false, List, [], ◌∷◌, ◌++◌, length, map, Option, Some, None, refl, sym, ap, subst, ◌∙◌, arith}
use Rattle.std.specs.Prelude.{◌==◌, ◌&&◌, ◌||◌, nat_lt, Vec, slice_get}
use Rattle.std.specs.declared.alloc.Global.{Global}
use Rattle.std.specs.List.{list_any}
use Rattle.std.proofs.lemmas.Bool.Decides.{nat_tests}
use mathlib.Core.List.{append_assoc}
use Rattle.base.specs.declared.ids.SiteId.{SiteId}
use Rattle.deref_walk.specs.declared.loc.Loc.{Loc}
use Rattle.deref_walk.specs.declared.loc.Loc.TheVariants as loc
use Rattle.deref_walk.specs.declared.graph.Edge.{Edge}
use Rattle.deref_walk.specs.declared.graph.Location.{Location}
use Rattle.deref_walk.specs.declared.levels.Step.{Step}
use Rattle.deref_walk.specs.Flow.{Leads}
use Rattle.value_flows.specs.declared.placed.Placed.{Placed}
use Rattle.value_flows.specs.declared.placed.Placed.TheVariants as homes
use Rattle.value_flows.specs.declared.tags.ResultTag.{ResultTag}
use Rattle.value_flows.specs.declared.tags.ParamTags.{ParamTags}
use Rattle.value_flows.specs.declared.program.Func.{Func}
use Rattle.param_tags.specs.Heap.{is_on, placed_at, heap_of}
use Rattle.report_checks.specs.declared.line.TagFlow.{TagFlow}
use Rattle.report_checks.specs.declared.line.TagFlow.TheVariants as flow
use Rattle.report_checks.specs.declared.line.SiteLine.{SiteLine}
use Rattle.report_checks.specs.declared.line.TagLine.{TagLine}
use Rattle.report_checks.specs.declared.line.Line.{Line}
use Rattle.report_checks.specs.declared.line.Line.TheVariants as lines
use Rattle.report_checks.specs.Verdict.{is_there, outlives_all, lies_outside, is_put_on_heap, outlives, is_on_heap, is_line_of, has_line, is_heap_line, on_heap, is_above, is_flow_after, is_tag_after, verdict}
use Rattle.report_checks.specs.Report.{line_of, ComesAfter, AreTags, no_tags, more_tags, IsNextSite, IsReport, ended, stays, known, flows}
use Rattle.explain.specs.declared.names.SiteName.{SiteName}
use Rattle.explain.specs.Lines.{Named, site_line, step_line, path_at, path_lines, site_lines, result_flows, flows_to, tag_line, param_lines, params_lines, tags_in, func_lines, report_lines}
use Rattle.explain.specs.Passing.{read_of, Ascend, SupportedPasses}
use Rattle.explain.proofs.Back.{read_back}
use Rattle.explain.proofs.Passes.{both_true, or_left, or_right, report_passes}

abbrev reads : List Named → List (Option Line)
reads ls = map read_of ls

-- ---- tags

tag : ℕ → ℕ → TagFlow → TagLine
tag f j x = record { func = record { 0 = f }; param = j; flow = x }

-- a tag comes before those of the parameter j of the function f
is_before : TagLine → ℕ → ℕ → Bool
is_before t f j = nat_lt t.func.0 f || (t.func.0 == f && nat_lt t.param j)

-- so does the last one, if there is one
IsUpTo : Option TagLine → ℕ → ℕ → Type 0
IsUpTo None f j = Unit {0}
IsUpTo (Some t) f j = is_before t f j ≡ true

weaker : (a b c d : Bool) → (a || (b && c)) ≡ true → (a || (b && (c || d))) ≡ true
weaker true b c d h = refl
weaker false true true d h = refl
weaker false true false d h = absurd (let e : false ≡ true = h in cc)
weaker false false c d h = absurd (let e : false ≡ true = h in cc)

after_up_to : (last : Option TagLine) (f j : ℕ) (x : TagFlow) → IsUpTo last f j → ComesAfter last (tag f j x)
unfolding IsUpTo is_before tag is_tag_after
after_up_to None f j x h = tt
after_up_to (Some t) f j x h = weaker (nat_lt t.func.0 f) (t.func.0 == f) (nat_lt t.param j) (t.param == j && is_flow_after t.flow x) h

next_param : (a b f j : ℕ) → (nat_lt a f || (a == f && nat_lt b j)) ≡ true → (nat_lt a f || (a == f && nat_lt b (suc j))) ≡ true
next_param a b f j h = grind (arith, nat_tests)

next_func : (a b f j : ℕ) → (nat_lt a f || (a == f && nat_lt b j)) ≡ true → (nat_lt a (suc f) || (a == suc f && nat_lt b 0)) ≡ true
next_func a b f j h = grind (arith, nat_tests)

own_param : (f j : ℕ) → (nat_lt f f || (f == f && nat_lt j (suc j))) ≡ true
own_param f j = grind (arith, nat_tests)

own_order : (f j : ℕ) (b : Bool) → b ≡ true → (nat_lt f f || (f == f && (nat_lt j j || (j == j && b)))) ≡ true
own_order f j b h = grind (arith, nat_tests)

is_less : (a b : ℕ) → suc a ≤ b → nat_lt a b ≡ true
is_less a b h = grind (arith, nat_tests)

up_to_next : (last : Option TagLine) (f j : ℕ) → IsUpTo last f j → IsUpTo last f (suc j)
unfolding IsUpTo is_before
up_to_next None f j h = tt
up_to_next (Some t) f j h = next_param t.func.0 t.param f j h

up_to_func : (last : Option TagLine) (f j : ℕ) → IsUpTo last f j → IsUpTo last (suc f) 0
unfolding IsUpTo is_before
up_to_func None f j h = tt
up_to_func (Some t) f j h = next_func t.func.0 t.param f j h

up_to_own : (f j : ℕ) (x : TagFlow) → IsUpTo (Some (tag f j x)) f (suc j)
unfolding IsUpTo is_before tag
up_to_own f j x = own_param f j

in_order : (f j : ℕ) (x y : TagFlow) → is_flow_after x y ≡ true → ComesAfter (Some (tag f j x)) (tag f j y)
unfolding tag is_tag_after
in_order f j x y h = own_order f j (is_flow_after x y) h

heap_first : (n i m : ℕ) → is_flow_after (flow.Heap n) (flow.Result i m) ≡ true
unfolding is_flow_after
heap_first n i m = refl

results_ascend : (i n j m : ℕ) → suc i ≤ j → is_flow_after (flow.Result i n) (flow.Result j m) ≡ true
unfolding is_flow_after
results_ascend i n j m h = is_less i j h

-- whatever the last tag before a parameter is, lines are tags
FollowOn : ℕ → ℕ → List Named → Type 0
FollowOn f j rest = (last : Option TagLine) → IsUpTo last f j → AreTags last (reads rest)

results_are : (f j b : ℕ) (last : Option TagLine) (ts : List ResultTag) (rest : List Named) → Ascend b ts → ((i n : ℕ) → b ≤ i → ComesAfter last (tag f j (flow.Result i n))) → IsUpTo last f (suc j) → FollowOn f (suc j) rest
    → AreTags last (reads (map (tag_line f j) (result_flows ts) ++ rest))
unfolding FollowOn tag
results_are f j b last [] rest ascend order up follow = follow last up
results_are f j b last (t ∷ ts) rest ascend order up follow =
    let this = flow.Result t.result t.by in
    more_tags (tag f j this) (order t.result t.by ascend.0)
    (results_are f j (suc t.result) (Some (tag f j this)) ts rest ascend.1 (λ i n h. in_order f j this (flow.Result i n) (results_ascend t.result t.by i n h)) (up_to_own f j this) follow)

flows_are : (f j : ℕ) (last : Option TagLine) (heap : Option ℕ) (ts : List ResultTag) (rest : List Named) → Ascend 0 ts → IsUpTo last f j → FollowOn f (suc j) rest → AreTags last (reads (map (tag_line f j) (flows_to heap ts) ++ rest))
unfolding FollowOn tag
flows_are f j last (Some n) ts rest ascend up follow =
    more_tags (tag f j (flow.Heap n)) (after_up_to last f j (flow.Heap n) up)
    (results_are f j 0 (Some (tag f j (flow.Heap n))) ts rest ascend (λ i m h. in_order f j (flow.Heap n) (flow.Result i m) (heap_first n i m)) (up_to_own f j (flow.Heap n)) follow)
flows_are f j last None [] rest ascend up follow =
    more_tags (tag f j flow.Nowhere) (after_up_to last f j flow.Nowhere up) (follow (Some (tag f j flow.Nowhere)) (up_to_own f j flow.Nowhere))
flows_are f j last None (t ∷ ts) rest ascend up follow =
    results_are f j 0 last (t ∷ ts) rest ascend (λ i n h. after_up_to last f j (flow.Result i n) up) (up_to_next last f j up) follow

-- the tags of a parameter ascend
IsOrdered : Option ParamTags → Type 0
IsOrdered None = Unit {0}
IsOrdered (Some t) = Ascend 0 t.results.items

param_are : (f j : ℕ) (last : Option TagLine) (o : Option SiteId) (tags : Option ParamTags) (rest : List Named) → IsOrdered tags → IsUpTo last f j → FollowOn f (suc j) rest → AreTags last (reads (param_lines f j o tags ++ rest))
unfolding FollowOn IsOrdered tag
param_are f j last None tags rest ordered up follow = follow last (up_to_next last f j up)
param_are f j last (Some x) None rest ordered up follow = flows_are f j last None [] rest tt up follow
param_are f j last (Some x) (Some t) rest ordered up follow = flows_are f j last t.heap t.results.items rest ordered up follow

params_are : (f j : ℕ) (last : Option TagLine) (os : List (Option SiteId)) (tags : List ParamTags) (rest : List Named) → ((i : ℕ) → IsOrdered (slice_get tags i)) → IsUpTo last f j → ((i : ℕ) → FollowOn f i rest)
    → AreTags last (reads (params_lines f j os tags ++ rest))
unfolding FollowOn
params_are f j last [] tags rest ordered up follow = follow j last up
params_are f j last (o ∷ os) tags rest ordered up follow =
    let here = param_lines f j o (slice_get tags j) in
    let later = params_lines f (suc j) os tags in
    subst (λ (ls : List Named). AreTags last (reads ls)) (sym (append_assoc here later rest))
    (param_are f j last o (slice_get tags j) (later ++ rest) (ordered j) up (λ next h. params_are f (suc j) next os tags rest ordered h follow))

ordered_in : (o : Option (Vec ParamTags Global)) → ((ts : Vec ParamTags Global) (i : ℕ) → o ≡ Some ts → IsOrdered (slice_get ts.items i)) → (i : ℕ) → IsOrdered (slice_get (tags_in o) i)
unfolding IsOrdered
ordered_in None h i = tt
ordered_in (Some ts) h i = h ts i refl

funcs_are : (f : ℕ) (last : Option TagLine) (gs : List Func) (tags : List (Vec ParamTags Global)) → ((g : ℕ) (ts : Vec ParamTags Global) (i : ℕ) → slice_get tags g ≡ Some ts → IsOrdered (slice_get ts.items i)) → IsUpTo last f 0 → AreTags last (reads (func_lines f gs tags))
unfolding FollowOn
funcs_are f last [] tags ordered up = no_tags
funcs_are f last (g ∷ gs) tags ordered up =
    params_are f 0 last g.params.items (tags_in (slice_get tags f)) (func_lines (suc f) gs tags) (ordered_in (slice_get tags f) (λ ts i e. ordered f ts i e)) up
    (λ j next h. funcs_are (suc f) next gs tags ordered (up_to_func next f j h))

ordered_at : (o : Option ParamTags) → ((t : ParamTags) → o ≡ Some t → Ascend 0 t.results.items) → IsOrdered o
unfolding IsOrdered
ordered_at None h = tt
ordered_at (Some t) h = h t refl

-- ---- the line of each site is there

either : (b : Bool) → (b ≡ true) ⊎ (b ≡ false)
either true = inl refl
either false = inr refl

later_one : (P : Option Line → Bool) (xs ys : List Named) → list_any P (reads ys) ≡ true → list_any P (reads (xs ++ ys)) ≡ true
later_one P [] ys h = h
later_one P (x ∷ xs) ys h = or_right (P (read_of x)) (list_any P (reads (xs ++ ys))) (later_one P xs ys h)

number_is : (a b : ℕ) → (a == b) ≡ true → a ≡ b
number_is a b h = grind (arith, nat_tests)

number_above : (a b : ℕ) → (a == b) ≡ false → a ≤ b → suc a ≤ b
number_above a b h k = grind (arith, nat_tests)

number_self : (a : ℕ) → (a == a) ≡ true
number_self a = grind (arith, nat_tests)

found : (placed : List Placed) (paths : List (Option (Vec Step Global))) (P : Option Line → Bool) (l k : ℕ) (ns : List SiteName) (rest : List Named) → ((n : SiteName) → P (read_of (site_line l n (placed_at placed l))) ≡ true) → k ≤ l → l < k + length ns
    → list_any P (reads (site_lines k ns placed paths ++ rest)) ≡ true
found placed paths P l k [] rest h low high = absurd (omega arith)
found placed paths P l k (n ∷ ns) rest h low high =
    let this = site_line k n (placed_at placed k) in
    let path = path_lines (placed_at placed k) (path_at paths k) in
    let more = site_lines (suc k) ns placed paths in
    elim (either (k == l)) [
      | inl here ↦ or_left (P (read_of this)) (list_any P (reads ((path ++ more) ++ rest))) (subst (λ (i : ℕ). P (read_of (site_line i n (placed_at placed i))) ≡ true) (sym (number_is k l here)) (h n))
      | inr other ↦ or_right (P (read_of this)) (list_any P (reads ((path ++ more) ++ rest)))
          (subst (λ (ls : List Named). list_any P (reads ls) ≡ true) (sym (append_assoc path more rest)) (later_one P path (more ++ rest) (found placed paths P l (suc k) ns rest h (number_above k l other low) (omega arith))))
    ]

on_there : (p : Placed) → is_on p ≡ true → is_on_heap p ≡ true
unfolding is_on_heap
on_there homes.Stack h = h
on_there (homes.Known why) h = refl
on_there (homes.Flow r) h = refl

heap_line : (m : SiteId) (n : SiteName) (p : Placed) → is_on p ≡ true → is_heap_line m (read_of (site_line m.0 n p)) ≡ true
unfolding is_heap_line
heap_line m n p h = both_true (number_self m.0) (on_there p h)

own_line : (l : SiteId) (n : SiteName) (p : Placed) → is_line_of l (read_of (site_line l.0 n p)) ≡ true
unfolding is_line_of
own_line l n p = number_self l.0

nat_above : (k : ℕ) → nat_lt k (suc k) ≡ true
nat_above k = grind (arith, nat_tests)

above_next : (k : ℕ) → is_above (Some (record { 0 = k })) (record { 0 = suc k }) ≡ true
unfolding is_above
above_next k = nat_above k

above_none : (k : ℕ) → is_above None (record { 0 = k }) ≡ true
unfolding is_above
above_none k = refl

-- ---- a location that outlives a site under fewer sites on the heap outlives it

first_part : (a b : Bool) → (a && b) ≡ true → a ≡ true
first_part true b h = refl
first_part false b h = h

put_too : (heap more : SiteId → Bool) (r : Loc) → ((m : SiteId) → r ≡ loc.Site m → heap m ≡ true → more m ≡ true) → is_put_on_heap heap r ≡ true → is_put_on_heap more r ≡ true
unfolding is_put_on_heap
put_too heap more loc.Heap k h = h
put_too heap more (loc.Result f i) k h = h
put_too heap more (loc.Site m) k h = k m refl h
put_too heap more (loc.Carry m) k h = h

last_weaker : (a b c d e : Bool) → (d ≡ true → e ≡ true) → (a && (b || (c || d))) ≡ true → (a && (b || (c || e))) ≡ true
last_weaker true true c d e k h = refl
last_weaker true false true d e k h = refl
last_weaker true false false d e k h = k h
last_weaker false b c d e k h = h

outlives_too : (locations : List Location) (heap more : SiteId → Bool) (r : Loc) (l : SiteId) → ((m : SiteId) → is_there locations (loc.Site m) ≡ true → heap m ≡ true → more m ≡ true) → outlives locations heap r l ≡ true → outlives locations more r l ≡ true
outlives_too locations heap more r l k h =
    let there = first_part (is_there locations r) _ h in
    last_weaker (is_there locations r) (outlives_all locations r) (lies_outside locations r (loc.Site l)) (is_put_on_heap heap r) (is_put_on_heap more r)
    (put_too heap more r (λ m e. k m (subst (λ (x : Loc). is_there locations x ≡ true) e there))) h

-- ---- the lines of sites are a report

path_reads : (steps : List Step) (rest : List Named) → reads (map step_line steps ++ rest) ≡ map line_of steps ++ reads rest
path_reads [] rest = refl
path_reads (s ∷ steps) rest = ap (λ (xs : List (Option Line)). line_of s ∷ xs) (path_reads steps rest)

module _ (edges : List Edge) (locations : List Location) (heap : SiteId → Bool) (placed : List Placed) (paths : List (Option (Vec Step Global))) where
  -- what a site on the heap by a flow has
  HasReason : ℕ → Loc → Type 0
  HasReason k r = (outlives locations heap r (record { 0 = k }) ≡ true) × Leads edges r (pos 0) (path_at paths k) (loc.Site (record { 0 = k })) (negsuc 0)

  site_is : (k : ℕ) (n : SiteName) (last : Option SiteId) (p : Placed) (rest : List Named) → placed_at placed k ≡ p → IsNextSite locations last (record { 0 = k }) → ((r : Loc) → p ≡ homes.Flow r → HasReason k r) → IsReport edges locations heap (Some (record { 0 = k })) (reads rest)
      → IsReport edges locations heap last (reads (site_line k n p ∷ (path_lines p (path_at paths k) ++ rest)))
  unfolding HasReason
  site_is k n last homes.Stack rest e next reason report = stays (record { site = record { 0 = k }; line = n.pos.line; col = n.pos.col; placed = homes.Stack }) next refl report
  site_is k n last (homes.Known why) rest e next reason report = known (record { site = record { 0 = k }; line = n.pos.line; col = n.pos.col; placed = homes.Known why }) why next refl report
  site_is k n last (homes.Flow r) rest e next reason report =
      let held = reason r refl in
      let line : SiteLine = record { site = record { 0 = k }; line = n.pos.line; col = n.pos.col; placed = homes.Flow r } in
      subst (λ (xs : List (Option Line)). IsReport edges locations heap last (Some (lines.Site line) ∷ xs)) (sym (path_reads (path_at paths k) rest))
      (flows line r (path_at paths k) next refl held.0 held.1 report)

  sites_are : (k : ℕ) (last : Option SiteId) (ns : List SiteName) (rest : List Named) → ((i : ℕ) → k ≤ i → i < k + length ns → is_there locations (loc.Site (record { 0 = i })) ≡ true) → ((i : ℕ) → k ≤ i → i < k + length ns → (r : Loc) → placed_at placed i ≡ homes.Flow r → HasReason i r)
      → is_above last (record { 0 = k }) ≡ true → AreTags None (reads rest) → IsReport edges locations heap last (reads (site_lines k ns placed paths ++ rest))
  sites_are k last [] rest there reason above tags = ended tags
  sites_are k last (n ∷ ns) rest there reason above tags =
      let p = placed_at placed k in
      let path = path_lines p (path_at paths k) in
      let more = site_lines (suc k) ns placed paths in
      let later = sites_are (suc k) (Some (record { 0 = k })) ns rest (λ i low high. there i (omega arith) (omega arith)) (λ i low high. reason i (omega arith) (omega arith)) (above_next k) tags in
      subst (λ (ls : List Named). IsReport edges locations heap last (reads (site_line k n p ∷ ls))) (sym (append_assoc path more rest))
      (site_is k n last p (more ++ rest) refl (record { there = there k (omega arith) (omega arith); above = above }) (reason k (omega arith) (omega arith)) later)

-- ---- the whole

from_none : {a n : ℕ} → a < n → a < 0 + n
from_none h = omega arith

to_none : {a n : ℕ} → a < 0 + n → a < n
to_none h = omega arith

pub supported_passes : SupportedPasses
unfolding IsUpTo HasReason
supported_passes edges locations program names solved readable h =
    let placed = solved.placed.items in
    let paths = solved.paths.items in
    let funcs = func_lines 0 program.funcs.items solved.tags.funcs.items in
    let read = reads (report_lines program names solved) in
    let on : (m : SiteId) → is_there locations (loc.Site m) ≡ true → heap_of placed m.0 ≡ true → on_heap read m ≡ true =
    λ m there k. found placed paths (is_heap_line m) m.0 0 names funcs (λ n. heap_line m n (placed_at placed m.0) k) (omega arith) (from_none (h.within m there)) in
    let told : (l : SiteId) → is_there locations (loc.Site l) ≡ true → has_line read l ≡ true =
    λ l there. found placed paths (is_line_of l) l.0 0 names funcs (λ n. own_line l n (placed_at placed l.0)) (omega arith) (from_none (h.within l there)) in
    let tags = funcs_are 0 None program.funcs.items solved.tags.funcs.items (λ g ts i e. ordered_at (slice_get ts.items i) (λ t k. h.ascending g i ts t e k)) tt in
    let report = sites_are edges locations (on_heap read) placed paths 0 None names funcs
    (λ i low high. h.there (record { 0 = i }) (to_none high))
    (λ i low high r e. (outlives_too locations (λ m. heap_of placed m.0) (on_heap read) r (record { 0 = i }) on (h.roots (record { 0 = i }) r (to_none high) e), h.paths (record { 0 = i }) r (to_none high) e))
    (above_none 0) tags in
    ap (verdict edges locations) (read_back program names solved readable) ∙ report_passes edges locations read report told
