-- Where the loop over batches begins, and how it goes on.
use Rattle.std.proofs.Common.{◌≡◌, ◌↔◌, ℕ, zero, suc, ◌<◌, ◌+◌, ◌≤◌, List, [], ◌∷◌, ◌++◌, map, Option, Some, None, is_some, Result, Ok, Err, length, get_or, take, drop, refl, sym, subst, ap, ◌∙◌, arith, append-nil}
use Rattle.std.specs.List.{Contains}
use Rattle.std.specs.Prelude.{slice_get, Vec, OnOk}
use Rattle.std.specs.declared.alloc.Global.{Global}
use Rattle.std.proofs.lemmas.List.{take_all, drop_all, take_more, length-map, map-append}
use Rattle.base.specs.declared.ids.FuncId.{FuncId}
use Rattle.deref_walk.specs.declared.loc.Loc.{Loc}
use Rattle.value_flows.specs.declared.placed.Known.{Known as KnownData}
use Rattle.value_flows.specs.declared.program.Site.{Site}
use Rattle.value_flows.specs.Syntax.{Program, ParamTags, Tags}
use Rattle.escape_graph.specs.Edges.{tags_of}
use Rattle.value_flows.specs.declared.placed.Placed.{Placed}
use Rattle.value_flows.specs.declared.placed.Placed.TheVariants.{Known, Flow}
use Rattle.param_tags.specs.Heap.{is_on, placed_at, heap_of, reason_in, known}
use Rattle.param_tags.specs.Order.{AreOrdered, IsFormed}
use Rattle.param_tags.specs.Whole.{IsSolution}
use Rattle.param_tags.specs.Solved.{Solves, home_by, first_placed, first_placements}
use Rattle.param_tags.proofs.Finer.{AreLessParams}
use Rattle.param_tags.proofs.Lists.{contains_nil}
use Rattle.param_tags.proofs.Places.{member_own}
use Rattle.param_tags.proofs.Batches.{Done, done_more}
use Rattle.param_tags.proofs.Within.{whole_solution}

abbrev pub lists : List (Vec FuncId Global) → List (List FuncId)
lists bs = map (λ b. b.items) bs

pub all_on_ok : {T E A B C D : Type 0} (r : Result T E) → OnOk r A → OnOk r B → OnOk r C → (A → B → C → D) → OnOk r D
all_on_ok (Ok x) a b c f = f a b c
all_on_ok (Err e) a b c f = tt

pub written_back : {X : Type 0} (new old : List X) (n : ℕ) → n ≡ length old → length new ≡ length old → take n (new ++ drop (length new) old) ≡ new
written_back new old n whole size =
    let gone : drop (length new) old ≡ [] = drop_all (length new) old (omega arith) in
    rw (gone, append-nil) (take_all n new (omega arith))

-- ---- the first homes and tags

first_on : (o : Option KnownData) → is_on (home_by o) ≡ is_some o
first_on None = refl
first_on (Some why) = refl

first_flow : (o : Option KnownData) (r : Loc) → home_by o ≡ Flow r → ⊥
first_flow None r h = absurd (cc)
first_flow (Some why) r h = absurd (cc)

pub no_flow : (sites : List Site) (l : ℕ) (r : Loc) → placed_at (first_placements sites) l ≡ Flow r → ⊥
no_flow [] l r h = absurd (cc)
no_flow (s ∷ sites) zero r h = first_flow s.known r h
no_flow (s ∷ sites) (suc l) r h = no_flow sites l r h

first_on_heap : (sites : List Site) (l : ℕ) → heap_of (first_placements sites) l ≡ is_some (reason_in (slice_get sites l))
first_on_heap [] l = refl
first_on_heap (s ∷ sites) zero = first_on s.known
first_on_heap (s ∷ sites) (suc l) = first_on_heap sites l

first_by : (o : Option KnownData) (why : KnownData) → (home_by o ≡ Known why) ↔ (o ≡ Some why)
first_by None why = (λ h. absurd (cc), λ h. absurd (cc))
first_by (Some own) why = (λ h. (let same : own ≡ why = cc in ap Some same), λ h. (let same : own ≡ why = cc in ap Known same))

first_known : (sites : List Site) (l : ℕ) (why : KnownData) → (placed_at (first_placements sites) l ≡ Known why) ↔ (reason_in (slice_get sites l) ≡ Some why)
first_known [] l why = (λ h. absurd (cc), λ h. absurd (cc))
first_known (s ∷ sites) zero why = first_by s.known why
first_known (s ∷ sites) (suc l) why = first_known sites l why

less_none : (ts us : List ParamTags) → ts ≡ [] → AreLessParams ts us
less_none ts us none i t at = absurd (let gone : slice_get [] i ≡ Some t = subst (λ (xs : List ParamTags). slice_get xs i ≡ Some t) none at in cc)

pub begins : (p : Program) (all : List (List FuncId)) (T : Tags) (H : List Placed) → length T ≡ length p.funcs → ((f : ℕ) → tags_of T f ≡ []) → H ≡ first_placements p.sites → Done p all [] T H
begins p all T H size none placed =
    let same : (l : ℕ) → heap_of H l ≡ known p l = (λ l. ap (λ (x : List Placed). heap_of x l) placed ∙ first_on_heap p.sites l) in
    record {
      tags = size;
      sites = ap length placed ∙ length-map p.sites first_placed;
      known = λ l h. same l ∙ h;
      knowns = λ l why. subst (λ (x : List Placed). (placed_at x l ≡ Known why) ↔ (reason_in (slice_get p.sites l) ≡ Some why)) (sym placed) (first_known p.sites l why);
      agree = λ b among. absurd (contains_nil b among);
      reasons = λ l r m. absurd (no_flow p.sites l r (sym (ap (λ (x : List Placed). placed_at x l) placed) ∙ m));
      sub = λ U K closed l h. closed.known l (sym (same l) ∙ h);
      less = λ U K closed f. less_none (tags_of T f) (tags_of U f) (none f);
    }

-- ---- places of batches

pub place : (batches : List (Vec FuncId Global)) (i : ℕ) (x : Vec FuncId Global) → i < length batches → x ≡ get_or batches i x → slice_get (lists batches) i ≡ Some x.items
place [] i x within is = absurd (omega arith)
place (y ∷ ys) zero x within is = ap (λ (b : Vec FuncId Global). Some b.items) (sym is)
place (y ∷ ys) (suc i) x within is = place ys i x (omega arith) is

pub split : (batches : List (Vec FuncId Global)) (i : ℕ) (x : Vec FuncId Global) → i < length batches → x ≡ get_or batches i x → lists batches ≡ lists (take i batches) ++ x.items ∷ lists (drop (suc i) batches)
split [] i x within is = absurd (omega arith)
split (y ∷ ys) zero x within is = ap (λ (b : Vec FuncId Global). b.items ∷ lists ys) (sym is)
split (y ∷ ys) (suc i) x within is = ap (λ (bs : List (List FuncId)). y.items ∷ bs) (split ys i x (omega arith) is)

pub seen_more : (batches : List (Vec FuncId Global)) (i : ℕ) (x : Vec FuncId Global) → i < length batches → x ≡ get_or batches i x → lists (take (i + 1) batches) ≡ lists (take i batches) ++ x.items ∷ []
seen_more batches i x within is = ap lists (take_more batches i x within) ∙ map-append (λ b. b.items) (take i batches) (get_or batches i x ∷ []) ∙ ap (λ (b : Vec FuncId Global). lists (take i batches) ++ b.items ∷ []) (sym is)

-- ---- the loop

pub goes_on : (p : Program) (batches : List (Vec FuncId Global)) (i : ℕ) (x : Vec FuncId Global) (b : List FuncId) → b ≡ x.items → i < length batches → x ≡ get_or batches i x → AreOrdered p (lists batches) → IsFormed p → (T U : Tags) (H G : List Placed) → Done p (lists batches) (lists (take i batches)) T H → Solves p b T H U G → Done p (lists batches) (lists (take (i + 1) batches)) U G
goes_on p batches i x b of within is order formed T U H G d s =
    let this = subst (λ (c : List FuncId). Solves p c T H U G) of s in
    subst (λ (seen : List (List FuncId)). Done p (lists batches) seen U G) (sym (seen_more batches i x within is)) (done_more p (lists batches) (lists (take i batches)) (lists (drop (suc i) batches)) x.items (split batches i x within is) order formed T U H G d this)

pub ends : (p : Program) (batches : List (Vec FuncId Global)) (i : ℕ) (T : Tags) (H : List Placed) → AreOrdered p (lists batches) → IsFormed p → length batches ≤ i → Done p (lists batches) (lists (take i batches)) T H → IsSolution p (lists batches) T H
ends p batches i T H order formed past d = whole_solution p (lists batches) order formed T H (subst (λ (bs : List (Vec FuncId Global)). Done p (lists batches) (lists bs) T H) (take_all i batches past) d)

pub tags_within : (p : Program) (batches : List (Vec FuncId Global)) (i : ℕ) (x : Vec FuncId Global) → i < length batches → x ≡ get_or batches i x → AreOrdered p (lists batches) → (f : FuncId) → Contains x.items f → f.0 < length p.funcs
tags_within p batches i x within is order f among = order.within i f.0 (x.items, place batches i x within is, member_own x.items f among)
