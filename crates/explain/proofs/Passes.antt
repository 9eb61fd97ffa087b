-- Lines that are a report pass.
use Rattle.std.proofs.Common.{◌≡◌, ◌⊎◌, inl, inr, ℕ, zero, suc, ◌+◌, ◌<◌, ℤ, pos, negsuc, Bool, true, false, List, [], ◌∷◌, ◌++◌, length, get_or, map, Option, Some, None, Ok, refl, sym, ap, subst, ◌∙◌, arith}
use Rattle.std.specs.Prelude.{◌&&◌, ◌||◌, not, if◌then◌else◌}
use Rattle.std.specs.List.{Contains}
use Rattle.std.specs.Ordering.{int_eq}
use Rattle.std.proofs.lemmas.Bool.Decides.{Decides-int_eq}
use Rattle.base.specs.declared.ids.SiteId.{SiteId}
use Rattle.deref_walk.specs.declared.loc.Loc.{Loc}
use Rattle.deref_walk.specs.declared.loc.Loc.TheVariants as loc
use Rattle.deref_walk.specs.declared.graph.Edge.{Edge}
use Rattle.deref_walk.specs.declared.graph.Location.{Location}
use Rattle.deref_walk.specs.declared.levels.Step.{Step}
use Rattle.deref_walk.specs.Flow.{number_after, Leads, arrived, onward}
use Rattle.deref_walk.specs.Locations.{same}
use Rattle.deref_walk.proofs.Same.{same_self}
use Rattle.value_flows.specs.declared.placed.Placed.{Placed}
use Rattle.value_flows.specs.declared.placed.Placed.TheVariants as homes
use Rattle.report_checks.specs.declared.line.SiteLine.{SiteLine}
use Rattle.report_checks.specs.declared.line.StepLine.{StepLine}
use Rattle.report_checks.specs.declared.line.TagLine.{TagLine}
use Rattle.report_checks.specs.declared.line.Line.{Line}
use Rattle.report_checks.specs.declared.line.Line.TheVariants as lines
use Rattle.report_checks.specs.declared.fault.ReportFault.{ReportFault}
use Rattle.report_checks.specs.declared.fault.ReportFault.TheVariants.{BadLine, NoSuchEdge, WrongSum, NotOutliving}
use Rattle.report_checks.specs.declared.state.Next.{Next}
use Rattle.report_checks.specs.declared.state.Next.TheVariants as nexts
use Rattle.report_checks.specs.declared.state.PathEnd.{PathEnd}
use Rattle.report_checks.specs.declared.state.State.{State}
use Rattle.report_checks.specs.declared.state.State.TheVariants as states
use Rattle.report_checks.specs.Verdict.{is_there, is_edge, has_line, on_heap, is_above, is_tag_after, kind_of, next_of, is_step, is_something, goes_on, after_site, after_step, state_after, is_on_path, is_summed, test, or_else, tag_fault, is_rooted, site_fault, step_fault, fault_of, first_fault, lesser, site_if, least_site, missing, answer, verdict}
use Rattle.report_checks.specs.Report.{line_of, ComesAfter, AreTags, no_tags, more_tags, IsNextSite, IsReport, ended, stays, known, flows}

-- ---- tests

pub both_true : {a b : Bool} → a ≡ true → b ≡ true → (a && b) ≡ true
both_true {b = b} p q = ap (λ (x : Bool). x && b) p ∙ q

pub or_left : (a b : Bool) → a ≡ true → (a || b) ≡ true
or_left a b p = ap (λ (x : Bool). x || b) p

pub or_right : (a b : Bool) → b ≡ true → (a || b) ≡ true
or_right true b p = refl
or_right false b p = p

holds : (b : Bool) (f : ReportFault) (rest : Option ReportFault) → b ≡ true → rest ≡ None → test b f rest ≡ None
holds b f rest p q = ap (λ (x : Bool). test x f rest) p ∙ q

int_self : (a b : ℤ) → a ≡ b → int_eq a b ≡ true
int_self a b e = (Decides-int_eq a b).1 e

same_of : (a b : Loc) → a ≡ b → same a b ≡ true
same_of a b e = subst (λ (x : Loc). same a x ≡ true) e (same_self a)

is_one : Edge → Edge → Bool
is_one x e = same x.to e.to && (same x.from e.from && int_eq x.weight e.weight)

one_self : (x e : Edge) → x ≡ e → is_one x e ≡ true
unfolding is_one
one_self x e h = subst (λ (y : Edge). is_one x y ≡ true) h (both_true (same_self x.to) (both_true (same_self x.from) (int_self x.weight x.weight refl)))

edge_at : (edges : List Edge) (e : Edge) (k : ℕ) → k < length edges → get_or edges k e ≡ e → is_edge edges e.to e.from e.weight ≡ true
unfolding is_one
edge_at [] e k within h = absurd (omega arith)
edge_at (x ∷ xs) e zero within h = or_left (is_one x e) (is_edge xs e.to e.from e.weight) (one_self x e h)
edge_at (x ∷ xs) e (suc k) within h = or_right (is_one x e) (is_edge xs e.to e.from e.weight) (edge_at xs e k (omega arith) h)

edge_there : (edges : List Edge) (e : Edge) → Contains edges e → is_edge edges e.to e.from e.weight ≡ true
edge_there edges e c = edge_at edges e c.0 c.1 c.2

step_next : (k : Next) → is_step k ≡ true → k ≡ nexts.Step
step_next nexts.Nothing h = absurd (cc)
step_next nexts.Step h = refl
step_next nexts.Other h = absurd (cc)

step_stops : (l : SiteId) (s : StepLine) (k : Next) → is_step k ≡ false → after_step l s k ≡ states.Sites (Some l)
unfolding after_step
step_stops l s nexts.Nothing h = refl
step_stops l s nexts.Step h = absurd (cc)
step_stops l s nexts.Other h = refl

step_goes : (l : SiteId) (s : StepLine) (k : Next) → is_step k ≡ true → after_step l s k ≡ states.Path (record { site = l; at = s.from; sum = s.sum })
unfolding after_step
step_goes l s nexts.Nothing h = absurd (cc)
step_goes l s nexts.Step h = refl
step_goes l s nexts.Other h = absurd (cc)

step_something : (k : Next) → is_step k ≡ true → is_something k ≡ true
step_something nexts.Nothing h = h
step_something nexts.Step h = refl
step_something nexts.Other h = refl

-- no step follows tags, or a whole report
tags_next : {last : Option TagLine} {read : List (Option Line)} → AreTags last read → is_step (next_of read) ≡ false
unfolding next_of kind_of
tags_next no_tags = refl
tags_next (more_tags t order rest) = refl

module _ (edges : List Edge) (locations : List Location) (heap : SiteId → Bool) where
  judge : State → ℕ → List (Option Line) → Option ReportFault
  judge state n read = first_fault edges locations heap state n read

  passes_on : (state : State) (n : ℕ) (o : Option Line) (read : List (Option Line)) → fault_of edges locations heap state n o (next_of read) ≡ None → judge (state_after state o (next_of read)) (n + 1) read ≡ None → judge state n (o ∷ read) ≡ None
  unfolding judge first_fault
  passes_on state n o read e h = ap (λ (f : Option ReportFault). or_else f (judge (state_after state o (next_of read)) (n + 1) read)) e ∙ h

  report_next : {last : Option SiteId} {read : List (Option Line)} → IsReport edges locations heap last read → is_step (next_of read) ≡ false
  unfolding next_of kind_of
  report_next (ended tags) = tags_next tags
  report_next (stays s next placed rest) = refl
  report_next (known s why next placed rest) = refl
  report_next (flows s root steps next placed out leads rest) = refl

  -- ---- tags

  tags_pass : (last : TagLine) (o : Option TagLine) (n : ℕ) {read : List (Option Line)} → o ≡ Some last → AreTags o read → judge (states.Tags last) n read ≡ None
  unfolding judge first_fault fault_of state_after tag_fault
  tags_pass last o n e no_tags = refl
  tags_pass last o n e (more_tags {read = read} t order rest) =
      let here : is_tag_after last t ≡ true = subst (λ (x : Option TagLine). ComesAfter x t) e order in
      passes_on (states.Tags last) n (Some (lines.Tag t)) read (holds (is_tag_after last t) (BadLine n) None here refl) (tags_pass t (Some t) (n + 1) refl rest)

  first_tags : (last : Option SiteId) (o : Option TagLine) (n : ℕ) {read : List (Option Line)} → AreTags o read → judge (states.Sites last) n read ≡ None
  unfolding judge first_fault fault_of state_after
  first_tags last o n no_tags = refl
  first_tags last o n (more_tags {read = read} t order rest) = passes_on (states.Sites last) n (Some (lines.Tag t)) read refl (tags_pass t (Some t) (n + 1) refl rest)

  -- ---- paths

  step_pass : (path : PathEnd) (n : ℕ) (s : StepLine) (read : List (Option Line)) → s.to ≡ path.at → is_edge edges s.to s.from s.weight ≡ true → s.sum ≡ number_after path.sum s.weight
      → (is_step (next_of read) || same s.from (loc.Site path.site)) ≡ true → (is_step (next_of read) || int_eq s.sum (negsuc 0)) ≡ true
      → judge (after_step path.site s (next_of read)) (n + 1) read ≡ None → judge (states.Path path) n (Some (lines.Step s) ∷ read) ≡ None
  unfolding judge fault_of state_after step_fault is_on_path is_summed
  step_pass path n s read to edge sum at last rest =
      let k = next_of read in
      passes_on (states.Path path) n (Some (lines.Step s)) read
      (holds (is_on_path path.site path.at s k) (BadLine n) _ (both_true (same_of s.to path.at to) at)
      (holds (is_edge edges s.to s.from s.weight) (NoSuchEdge n) _ edge
      (holds (is_summed path.sum s k) (WrongSum n) None (both_true (int_self s.sum (number_after path.sum s.weight) sum) last) refl))) rest

  -- steps either go on, or have arrived
  ends : (rest : List (Option Line)) {at l : Loc} {d n : ℤ} {steps : List Step} → Leads edges at d steps l n → (is_step (next_of (map line_of steps ++ rest)) ≡ true) ⊎ ((steps ≡ []) × (at ≡ l) × (d ≡ n))
  unfolding next_of kind_of
  ends rest arrived = inr (refl, refl, refl)
  ends rest (onward e c more) = inl refl

  path_pass : (l : SiteId) (rest : List (Option Line)) → is_step (next_of rest) ≡ false → ((m : ℕ) → judge (states.Sites (Some l)) m rest ≡ None)
      → {at to : Loc} {d last : ℤ} {steps : List Step} → to ≡ loc.Site l → last ≡ negsuc 0 → Leads edges at d steps to last → (n : ℕ) → is_step (next_of (map line_of steps ++ rest)) ≡ true
      → judge (states.Path (record { site = l; at = at; sum = d })) n (map line_of steps ++ rest) ≡ None
  path_pass l rest stops pass to last arrived n some = absurd (let e : true ≡ false = sym some ∙ stops in cc)
  path_pass l rest stops pass {at = at} {d = d} to last (onward {steps = steps} e c more) n some =
      let m = number_after d e.weight in
      let read = map line_of steps ++ rest in
      let s : StepLine = record { to = e.to; from = e.from; weight = e.weight; sum = m } in
      elim (ends rest more) [
        | inl goes ↦ step_pass (record { site = l; at = e.to; sum = d }) n s read refl (edge_there edges e c) refl (or_left (is_step (next_of read)) _ goes) (or_left (is_step (next_of read)) _ goes)
            (ap (λ (state : State). judge state (n + 1) read) (step_goes l s (next_of read) goes) ∙ path_pass l rest stops pass to last more (n + 1) goes)
        | inr here ↦ (
            let whole : read ≡ rest = ap (λ (xs : List Step). map line_of xs ++ rest) here.0 in
            let no_step : is_step (next_of read) ≡ false = ap (λ (xs : List (Option Line)). is_step (next_of xs)) whole ∙ stops in
            step_pass (record { site = l; at = e.to; sum = d }) n s read refl (edge_there edges e c) refl
            (or_right (is_step (next_of read)) (same e.from (loc.Site l)) (same_of e.from (loc.Site l) (here.1 ∙ to)))
            (or_right (is_step (next_of read)) (int_eq m (negsuc 0)) (int_self m (negsuc 0) (here.2 ∙ last)))
            (ap (λ (state : State). judge state (n + 1) read) (step_stops l s (next_of read) no_step) ∙ ap (judge (states.Sites (Some l)) (n + 1)) whole ∙ pass (n + 1)))
      ]

  -- ---- sites

  site_pass : (last : Option SiteId) (n : ℕ) (s : SiteLine) (p : Placed) (read : List (Option Line)) → s.placed ≡ p → IsNextSite locations last s.site → goes_on p (next_of read) ≡ true → is_rooted locations heap p s.site ≡ true
      → judge (after_site s.site p) (n + 1) read ≡ None → judge (states.Sites last) n (Some (lines.Site s) ∷ read) ≡ None
  unfolding judge fault_of state_after site_fault
  site_pass last n s p read e next goes root rest =
      let k = next_of read in
      let goes_there : goes_on s.placed k ≡ true = subst (λ (x : Placed). goes_on x k ≡ true) (sym e) goes in
      let rooted : is_rooted locations heap s.placed s.site ≡ true = subst (λ (x : Placed). is_rooted locations heap x s.site ≡ true) (sym e) root in
      passes_on (states.Sites last) n (Some (lines.Site s)) read
      (holds (is_there locations (loc.Site s.site) && (is_above last s.site && goes_on s.placed k)) (BadLine n) _ (both_true next.there (both_true next.above goes_there))
      (holds (is_rooted locations heap s.placed s.site) (NotOutliving n) None rooted refl))
      (ap (λ (x : Placed). judge (after_site s.site x) (n + 1) read) e ∙ rest)

  begins : (l : SiteId) (rest : List (Option Line)) {at : Loc} {steps : List Step} → Leads edges at (pos 0) steps (loc.Site l) (negsuc 0) → is_step (next_of (map line_of steps ++ rest)) ≡ true
  begins l rest leads = elim (ends rest leads) [
    | inl goes ↦ goes
    | inr here ↦ absurd (let e : pos 0 ≡ negsuc 0 = here.2 in cc)
  ]

  report_pass : {last : Option SiteId} {read : List (Option Line)} → IsReport edges locations heap last read → (n : ℕ) → judge (states.Sites last) n read ≡ None
  unfolding after_site is_rooted goes_on
  report_pass (ended {last = last} tags) n = first_tags last None n tags
  report_pass (stays {last = last} {read = read} s next placed rest) n = site_pass last n s homes.Stack read placed next refl refl (report_pass rest (n + 1))
  report_pass (known {last = last} {read = read} s why next placed rest) n = site_pass last n s (homes.Known why) read placed next refl refl (report_pass rest (n + 1))
  report_pass (flows {last = last} {read = read} s root steps next placed out leads rest) n =
      let some = begins s.site read leads in
      site_pass last n s (homes.Flow root) (map line_of steps ++ read) placed next (step_something (next_of (map line_of steps ++ read)) some) out
      (path_pass s.site read (report_next rest) (report_pass rest) refl refl leads (n + 1) some)

-- ---- no site is missing

not_true : (b : Bool) → b ≡ true → not b ≡ false
not_true b h = ap not h

chosen_none : (b : Bool) (l : SiteId) → b ≡ false → (if b then Some l else None) ≡ None
chosen_none b l h = ap (λ (x : Bool). if x then Some l else None) h

not_here : (wanted : SiteId → Bool) (y : Loc) → ((l : SiteId) → y ≡ loc.Site l → wanted l ≡ false) → site_if wanted y ≡ None
unfolding site_if
not_here wanted loc.Heap h = refl
not_here wanted (loc.Result f i) h = refl
not_here wanted (loc.Site l) h = chosen_none (wanted l) l (h l refl)
not_here wanted (loc.Carry l) h = refl

neither_less : (a b : Option SiteId) → a ≡ None → b ≡ None → lesser a b ≡ None
unfolding lesser
neither_less a b p q = ap (λ (x : Option SiteId). lesser x b) p ∙ q

none_wanted : (wanted : SiteId → Bool) (locations : List Location) → ((l : SiteId) → is_there locations (loc.Site l) ≡ true → wanted l ≡ false) → least_site wanted locations ≡ None
unfolding least_site
none_wanted wanted [] h = refl
none_wanted wanted (x ∷ xs) h =
    neither_less (site_if wanted x.loc) (least_site wanted xs)
    (not_here wanted x.loc (λ l e. h l (or_left (same x.loc (loc.Site l)) (is_there xs (loc.Site l)) (same_of x.loc (loc.Site l) e))))
    (none_wanted wanted xs (λ l there. h l (or_right (same x.loc (loc.Site l)) (is_there xs (loc.Site l)) there)))

pub report_passes : (edges : List Edge) (locations : List Location) (read : List (Option Line)) → IsReport edges locations (on_heap read) None read → ((l : SiteId) → is_there locations (loc.Site l) ≡ true → has_line read l ≡ true) → verdict edges locations read ≡ Ok tt
unfolding verdict answer judge
report_passes edges locations read report told =
    ap (λ (f : Option ReportFault). answer f (missing locations read)) (report_pass edges locations (on_heap read) report 1)
    ∙ ap (answer None) (none_wanted (λ (l : SiteId). not (has_line read l)) locations (λ l there. not_true (has_line read l) (told l there)))
