-- One batch after the other.
use Rattle.std.proofs.Common.{◌≡◌, ◌⊎◌, inl, inr, ◌↔◌, ℕ, ◌<◌, ℤ, pos, negsuc, Bool, true, false, List, [], ◌∷◌, ◌++◌, Option, Some, None, length, refl, sym, subst, ap, ◌∙◌, arith}
use Rattle.std.specs.List.{Contains}
use Rattle.std.specs.Prelude.{slice_get, ◌||◌}
use Rattle.std.proofs.lemmas.List.Elements.{Contains-append_left, Contains-push, Contains-push_cases}
use Rattle.std.proofs.lemmas.Option.{slice_get_past}
use Rattle.std.proofs.lemmas.Bool.{cases_lt}
use Rattle.base.specs.declared.ids.FuncId.{FuncId}
use Rattle.base.specs.declared.ids.SiteId.{SiteId}
use Rattle.deref_walk.specs.declared.loc.Loc.{Loc}
use Rattle.deref_walk.specs.declared.loc.Loc.TheVariants as loc
use Rattle.deref_walk.specs.declared.graph.Edge.{Edge}
use Rattle.deref_walk.specs.Flow.{Reaches, IsLeast}
use Rattle.value_flows.specs.declared.placed.Known.{Known as KnownData}
use Rattle.value_flows.specs.Syntax.{Func, Program, ParamTags, Tags}
use Rattle.escape_graph.specs.Targets.{site}
use Rattle.escape_graph.specs.Edges.{numbers, is_own, params_in, params_of, tags_of, batch_edges}
use Rattle.value_flows.specs.declared.placed.Placed.{Placed}
use Rattle.value_flows.specs.declared.placed.Placed.TheVariants.{Known, Flow}
use Rattle.param_tags.specs.declared.walks.Hold.{Hold}
use Rattle.param_tags.specs.Heap.{placed_at, heap_of, reason_in, known, is_result, outside, outlives, heap_roots, IsParamTagged, IsTagged, AreTagged, Agree, AgreeOnEach}
use Rattle.param_tags.specs.Order.{AreOrdered, IsFormed, BatchFits, FuncCalls, func_in, func_at}
use Rattle.param_tags.specs.Whole.{OwnSite, Own}
use Rattle.param_tags.specs.Walks.{AreHolds}
use Rattle.param_tags.specs.Solved.{Solves}
use Rattle.param_tags.proofs.Finer.{IsFiner, AreLessParams, AreLess, finer_batch}
use Rattle.param_tags.proofs.Same.{same_batch}
use Rattle.param_tags.proofs.Owned.{OwnOrHeap, owned_batch}
use Rattle.escape_graph.proofs.Weights.{weights_batch}
use Rattle.param_tags.proofs.Joined.{or_map, outlives_more}
use Rattle.param_tags.proofs.Ends.{first_edge, last_edge}
use Rattle.param_tags.proofs.Flows.{least_finer, tag_roots}
use Rattle.param_tags.proofs.Places.{member_own, own_member, or_true, two_values, one_value, contains_at, at_end, before_end, element_at}
use Rattle.param_tags.proofs.Lesser.{root_more, tags_less, tags_map}

-- some batches are solved: their tags are set and their sites have their homes, and no closed set has fewer sites or lesser tags
pub record Done (p : Program) (all seen : List (List FuncId)) (T : Tags) (H : List Placed) : Type 0 where
  pub tags : length T ≡ length p.funcs
  pub sites : length H ≡ length p.sites
  pub known : (l : ℕ) → known p l ≡ true → heap_of H l ≡ true
  pub knowns : (l : ℕ) (why : KnownData) → (placed_at H l ≡ Known why) ↔ (reason_in (slice_get p.sites l) ≡ Some why)
  pub agree : (b : List FuncId) → Contains seen b → Agree p T (heap_of H) b
  pub reasons : (l : ℕ) (r : Loc) → placed_at H l ≡ Flow r → (outlives p (heap_of H) r l ≡ true) × ((c : List FuncId) × Contains seen c × IsLeast (batch_edges p T c) r (site l) (Some (negsuc 0)))
  pub sub : (U : Tags) (K : ℕ → Bool) → AgreeOnEach p all U K → (l : ℕ) → heap_of H l ≡ true → K l ≡ true
  pub less : (U : Tags) (K : ℕ → Bool) → AgreeOnEach p all U K → AreLess T U

-- ---- roots and sets

-- where each site that one set has more is not this location
root_back : (K L : ℕ → Bool) (r : Loc) → ((m : SiteId) → r ≡ loc.Site m → L m.0 ≡ true → K m.0 ≡ true) → heap_roots L r ≡ true → heap_roots K r ≡ true
root_back K L (loc.Site m) h t = h m refl t
root_back K L (loc.Result f i) h t = t
root_back K L loc.Heap h t = t
root_back K L (loc.Carry m) h t = t

outlives_back : (p : Program) (K L : ℕ → Bool) (r : Loc) (l : ℕ) → ((m : SiteId) → r ≡ loc.Site m → L m.0 ≡ true → K m.0 ≡ true) → outlives p L r l ≡ true → outlives p K r l ≡ true
outlives_back p K L (loc.Site m) l h t = or_map (L m.0) (K m.0) (is_result p m.0 || outside p m.0 0 l) (h m refl) t
outlives_back p K L (loc.Result f i) l h t = t
outlives_back p K L loc.Heap l h t = t
outlives_back p K L (loc.Carry m) l h t = t

site_of_heap : (m : SiteId) → loc.Site m ≡ loc.Heap → ⊥
site_of_heap m h = absurd (cc)

own_at : (p : Program) (c : List FuncId) (m : SiteId) (r : Loc) → r ≡ loc.Site m → OwnOrHeap p (numbers c) r → OwnSite p (numbers c) m.0
own_at p c m r is (inl heap) = absurd (site_of_heap m (sym is ∙ heap))
own_at p c m r is (inr own) = subst (λ (x : Loc). Own p (numbers c) x) is own

-- the batch at a place k, after those that were seen
module _ (p : Program) (all : List (List FuncId)) (order : AreOrdered p all) (k : ℕ) (b : List FuncId) (at : slice_get all k ≡ Some b) where
  apart : (i : ℕ) (c : List FuncId) → i < k → slice_get all i ≡ Some c → (g : ℕ) → is_own (numbers c) g ≡ true → is_own (numbers b) g ≡ false
  apart i c less there g mine = elim (or_true (is_own (numbers b) g)) [
    | inl both ↦ (let same : i ≡ k = order.once i k g (c, there, mine) (b, at, both) in absurd (omega arith))
    | inr not ↦ not
  ]

  -- what an earlier batch calls outside of it is not in this one
  calls_apart : (i : ℕ) (c : List FuncId) → i < k → slice_get all i ≡ Some c → (f : ℕ) → is_own (numbers c) f ≡ true → (g : ℕ) → FuncCalls p f g → is_own (numbers c) g ≡ false → is_own (numbers b) g ≡ false
  calls_apart i c less there f among g call outer = elim (order.earlier i f g (c, there, among) call) [
    | inl here ↦ (let same : here.0 ≡ c = one_value (slice_get all i) here.0 c here.1 there in
        let mine : is_own (numbers c) g ≡ true = subst (λ (x : List FuncId). is_own (numbers x) g ≡ true) same here.2 in
        absurd (two_values (is_own (numbers c) g) mine outer))
    | inr before ↦ (let below : before.0 < k = omega arith in apart before.0 before.2.0 below before.2.1 g before.2.2)
  ]

  -- so new tags of this one leave the edges as they are
  module _ (T U : Tags) (others : (g : ℕ) → is_own (numbers b) g ≡ false → tags_of U g ≡ tags_of T g) where
    pub same_edges : (i : ℕ) (c : List FuncId) → i < k → slice_get all i ≡ Some c → batch_edges p U c ≡ batch_edges p T c
    same_edges i c less there = same_batch p T U c (λ f among g call outer. sym (others g (calls_apart i c less there f among g call outer)))

    pub same_here : batch_edges p U b ≡ batch_edges p T b
    same_here = same_batch p T U b (λ f among g call outer. sym (others g outer))

  -- no site of this batch is named in an earlier one
  site_apart : (i : ℕ) (c : List FuncId) → i < k → slice_get all i ≡ Some c → (m : ℕ) → OwnSite p (numbers b) m → OwnSite p (numbers c) m → ⊥
  site_apart i c less there m mine other =
      let same : mine.0 ≡ other.0 = one_value (func_at p m) mine.0 other.0 mine.1 other.1 in
      let not : is_own (numbers b) other.0 ≡ false = apart i c less there other.0 other.2 in
      two_values (is_own (numbers b) other.0) (subst (λ (x : ℕ). is_own (numbers b) x ≡ true) same mine.2) not

  -- from no such site something flows to a location of an earlier batch
  none_flows : (i : ℕ) (c : List FuncId) → i < k → slice_get all i ≡ Some c → (T : Tags) → BatchFits p c → (m : SiteId) (l : Loc) (d : ℤ) → OwnSite p (numbers b) m.0 → Own p (numbers c) l → Reaches (batch_edges p T c) (loc.Site m) l d → ⊥
  none_flows i c less there T fits m l d mine own flow = elim (first_edge (batch_edges p T c) (loc.Site m) l d flow) [
    | inl here ↦ site_apart i c less there m.0 mine (subst (λ (x : Loc). Own p (numbers c) x) (sym here.0) own)
    | inr first ↦ site_apart i c less there m.0 mine (own_at p c m first.0.to first.2 ((owned_batch p T c fits).ends first.0 first.1).0)
  ]

pub batch_fits : (p : Program) (all : List (List FuncId)) → AreOrdered p all → IsFormed p → (k : ℕ) (b : List FuncId) → slice_get all k ≡ Some b → BatchFits p b
batch_fits p all order formed k b at = λ f mine.
    let there = element_at p.funcs f (order.within k f (b, at, mine)) in
    (there.0, there.1, formed f there.0 there.1)

-- a parameter's site is its batch's
pub own_param : (p : Program) (b : List FuncId) → BatchFits p b → (f : ℕ) → is_own (numbers b) f ≡ true → (x : ℕ) → Contains (params_of p f) (Some x) → OwnSite p (numbers b) x
own_param p b fits f mine x among =
    let at = fits f mine in
    let here : Contains at.0.params (Some x) = subst (λ (o : Option Func). Contains (params_in o) (Some x)) at.1 among in
    (f, at.2.params (Some x) here, mine)

-- nothing flows by -1 to where it comes from, so that the last edge is there
pub own_last : (p : Program) (b : List FuncId) (T : Tags) → BatchFits p b → (r : Loc) (l : ℕ) → Reaches (batch_edges p T b) r (site l) (negsuc 0) → OwnSite p (numbers b) l
own_last p b T fits r l flow = elim (last_edge (batch_edges p T b) r (site l) (negsuc 0) flow) [
  | inl here ↦ absurd (let e : negsuc 0 ≡ pos 0 = here.1 in cc)
  | inr last ↦ subst (λ (x : Loc). Own p (numbers b) x) last.2 ((owned_batch p T b fits).ends last.0 last.1).1
]

-- ---- one batch more

module _ (p : Program) (all : List (List FuncId)) (order : AreOrdered p all) (formed : IsFormed p) (k : ℕ) (b : List FuncId) (at : slice_get all k ≡ Some b) (T U : Tags) (H G : List Placed) (s : Solves p b T H U G) where
  more : (l : ℕ) → heap_of H l ≡ true → heap_of G l ≡ true
  more = s.joined.joins.more

  held_own : (h : Hold) → Contains s.holds h → OwnSite p (numbers b) h.site.0
  held_own h among =
      let least : IsLeast (batch_edges p T b) h.root (site h.site.0) (Some (negsuc 0)) = (s.are h.root h.site.0).0 (h, among, refl, refl) in
      own_last p b T (batch_fits p all order formed k b at) h.root h.site.0 least.0

  -- what joined is a site of this batch
  fresh : (l : ℕ) → heap_of G l ≡ true → (heap_of H l ≡ true) ⊎ OwnSite p (numbers b) l
  fresh l m = elim (s.joined.joins.gained l m) [
    | inl old ↦ inl old
    | inr new ↦ inr (subst (λ (x : ℕ). OwnSite p (numbers b) x) new.2 (held_own new.0 new.1))
  ]

  -- an earlier batch stays as it was
  stays : (i : ℕ) (c : List FuncId) → i < k → slice_get all i ≡ Some c → Agree p T (heap_of H) c → Agree p U (heap_of G) c
  stays i c less there agree =
      let E = batch_edges p T c in
      let fits = batch_fits p all order formed i c there in
      let same : batch_edges p U c ≡ E = same_edges p all order k b at T U s.others i c less there in
      let on_before : (r l : Loc) (d : ℤ) → Own p (numbers c) l → Reaches E r l d → (m : SiteId) → r ≡ loc.Site m → heap_of G m.0 ≡ true → heap_of H m.0 ≡ true = (λ r l d own flow m is t. elim (fresh m.0 t) [
        | inl old ↦ old
        | inr mine ↦ absurd (none_flows p all order k b at i c less there T fits m l d mine own (subst (λ (x : Loc). Reaches E x l d) is flow))
      ]) in
      let keep : (f : ℕ) → is_own (numbers c) f ≡ true → (x : ℕ) (t : ParamTags) → Contains (params_of p f) (Some x) → IsParamTagged p E (heap_of H) f x t → IsParamTagged p E (heap_of G) f x t = (λ f mine x t among tag. record {
        heap = tag_roots (heap_roots (heap_of H)) (heap_roots (heap_of G)) E (site x) t.heap tag.heap (root_more (heap_of H) (heap_of G) more) (λ r d root flow. root_back (heap_of H) (heap_of G) r (on_before r (site x) d (own_param p c fits f mine x among) flow) root);
        numbers = tag.numbers;
        results = tag.results;
        listed = tag.listed;
      }) in
      let right : (f : FuncId) → Contains c f → IsTagged p E (heap_of G) U f.0 = (λ f among.
      let mine = member_own c f among in
      let kept : tags_of U f.0 ≡ tags_of T f.0 = s.others f.0 (apart p all order k b at i c less there f.0 mine) in
      subst (λ (ts : List ParamTags). AreTagged p E (heap_of G) f.0 (params_of p f.0) ts) (sym kept) (tags_map p E E (heap_of H) (heap_of G) f.0 (params_of p f.0) (tags_of T f.0) (keep f.0 mine) (agree.tagged f among))) in
      let shut : (r : Loc) (l : ℕ) → outlives p (heap_of G) r l ≡ true → IsLeast E r (site l) (Some (negsuc 0)) → heap_of G l ≡ true = (λ r l out least.
      let own : Own p (numbers c) (site l) = own_last p c T fits r l least.0 in
      more l (agree.closed r l (outlives_back p (heap_of H) (heap_of G) r l (on_before r (site l) (negsuc 0) own least.0) out) least)) in
      record {
        tagged = λ f among. subst (λ (F : List Edge). IsTagged p F (heap_of G) U f.0) (sym same) (right f among);
        closed = λ r l out least. shut r l out (subst (λ (F : List Edge). IsLeast F r (site l) (Some (negsuc 0))) same least);
      }

  -- this batch agrees
  joins_in : Agree p U (heap_of G) b
  joins_in =
      let E = batch_edges p T b in
      let same : batch_edges p U b ≡ E = same_here p all order k b at T U s.others in
      let shut : (r : Loc) (l : ℕ) → outlives p (heap_of G) r l ≡ true → IsLeast E r (site l) (Some (negsuc 0)) → heap_of G l ≡ true = (λ r l out least.
      let h = (s.are r l).1 least in
      subst (λ (x : ℕ). heap_of G x ≡ true) h.3 (s.joined.keeps h.0 h.1 (subst (λ (x : Loc). outlives p (heap_of G) x h.0.site.0 ≡ true) (sym h.2) (subst (λ (x : ℕ). outlives p (heap_of G) r x ≡ true) (sym h.3) out)))) in
      record {
        tagged = λ f among. subst (λ (F : List Edge). IsTagged p F (heap_of G) U f.0) (sym same) (s.tagged f among);
        closed = λ r l out least. shut r l out (subst (λ (F : List Edge). IsLeast F r (site l) (Some (negsuc 0))) same least);
      }

  -- each closed set has what joined, and its tags are no greater
  module _ (V : Tags) (K : ℕ → Bool) (closed : AgreeOnEach p all V K) (sub : (l : ℕ) → heap_of H l ≡ true → K l ≡ true) (less : AreLess T V) where
    there : Contains all b
    there = contains_at all k b at

    finer : IsFiner (batch_edges p T b) (batch_edges p V b)
    finer = finer_batch p T V b (λ f among g call outer. less g)

    sub_more : (l : ℕ) → heap_of G l ≡ true → K l ≡ true
    sub_more = s.joined.joins.least K sub (λ h among out. (closed.agree b there).closed h.root h.site.0 out (least_finer (batch_edges p T b) (batch_edges p V b) (weights_batch p V b) finer h.root (site h.site.0) ((s.are h.root h.site.0).0 (h, among, refl, refl))))

    less_own : (f : ℕ) → is_own (numbers b) f ≡ true → AreLessParams (tags_of U f) (tags_of V f)
    less_own f mine =
        let g = own_member b f mine in
        let this = s.tagged g.0 g.1 in
        let that = (closed.agree b there).tagged g.0 g.1 in
        subst (λ (x : ℕ). AreLessParams (tags_of U x) (tags_of V x)) g.2 (tags_less p (batch_edges p T b) (batch_edges p V b) (heap_of G) K finer sub_more g.0.0 (params_of p g.0.0) (tags_of U g.0.0) (tags_of V g.0.0) this that)

    less_more : AreLess U V
    less_more = λ f. elim (or_true (is_own (numbers b) f)) [
      | inl mine ↦ less_own f mine
      | inr not ↦ subst (λ (ts : List ParamTags). AreLessParams ts (tags_of V f)) (sym (s.others f not)) (less f)
    ]

pub done_more : (p : Program) (all seen rest : List (List FuncId)) (b : List FuncId) → all ≡ seen ++ b ∷ rest → AreOrdered p all → IsFormed p → (T U : Tags) (H G : List Placed) → Done p all seen T H → Solves p b T H U G → Done p all (seen ++ b ∷ []) U G
done_more p all seen rest b split order formed T U H G d s =
    let k = length seen in
    let at : slice_get all k ≡ Some b = subst (λ (xs : List (List FuncId)). slice_get xs k ≡ Some b) (sym split) (at_end seen rest b) in
    record {
      tags = s.size ∙ d.tags;
      sites = s.joined.joins.size ∙ d.sites;
      known = λ l h. s.joined.joins.more l (d.known l h);
      knowns = λ l why. (λ m. (d.knowns l why).0 ((s.joined.joins.knowns l why).1 m), λ m. (s.joined.joins.knowns l why).0 ((d.knowns l why).1 m));
      agree = λ c among. elim (Contains-push_cases seen b c among) [
        | inl before ↦ (let place = before_end seen (b ∷ rest) c before in
            stays p all order formed k b at T U H G s place.0 c place.1 (subst (λ (xs : List (List FuncId)). slice_get xs place.0 ≡ Some c) (sym split) place.2) (d.agree c before))
        | inr this ↦ subst (λ (x : List FuncId). Agree p U (heap_of G) x) this (joins_in p all order formed k b at T U H G s)
      ];
      reasons = λ l r m. elim (s.joined.joins.reasons l r m) [
        | inl old ↦ (let was = d.reasons l r old in
            let c = was.1.0 in
            let place = before_end seen (b ∷ rest) c was.1.1 in
            let there : slice_get all place.0 ≡ Some c = subst (λ (xs : List (List FuncId)). slice_get xs place.0 ≡ Some c) (sym split) place.2 in
            (outlives_more p (heap_of H) (heap_of G) s.joined.joins.more r l was.0, (c, Contains-append_left seen (b ∷ []) c was.1.1, subst (λ (E : List Edge). IsLeast E r (site l) (Some (negsuc 0))) (sym (same_edges p all order k b at T U s.others place.0 c place.1 there)) was.1.2)))
        | inr now ↦ (now.1, (b, Contains-push seen b, subst (λ (E : List Edge). IsLeast E r (site l) (Some (negsuc 0))) (sym (same_here p all order k b at T U s.others)) ((s.are r l).0 now.0)))
      ];
      sub = λ V K closed. sub_more p all order formed k b at T U H G s V K closed (d.sub V K closed) (d.less V K closed);
      less = λ V K closed. less_more p all order formed k b at T U H G s V K closed (d.sub V K closed) (d.less V K closed);
    }

-- ---- the sites of pairs are there

in_range : (p : Program) (x f : ℕ) → func_at p x ≡ Some f → x < length p.sites
in_range p x f h = elim (cases_lt x (length p.sites)) [
  | inl within ↦ within
  | inr past ↦ absurd (let e : slice_get p.sites x ≡ None = slice_get_past p.sites x past in let g : None ≡ Some f = sym (ap func_in e) ∙ h in cc)
]

pub holds_range : (p : Program) (b : List FuncId) (T : Tags) → BatchFits p b → (holds : List Hold) → AreHolds (batch_edges p T b) holds → (h : Hold) → Contains holds h → h.site.0 < length p.sites
holds_range p b T fits holds are h among =
    let least : IsLeast (batch_edges p T b) h.root (site h.site.0) (Some (negsuc 0)) = (are h.root h.site.0).0 (h, among, refl, refl) in
    let own : OwnSite p (numbers b) h.site.0 = own_last p b T fits h.root h.site.0 least.0 in
    in_range p h.site.0 own.0 own.1
