-- A report that passes is one.
use Rattle.std.proofs.Common.{◌≡◌, ◌⊎◌, inl, inr, ℕ, ◌+◌, ◌≤◌, ℤ, pos, negsuc, Bool, true, false, List, [], ◌∷◌, ◌++◌, Option, Some, None, Ok, map, refl, sym, ap, subst, ◌∙◌, arith}
use Rattle.std.specs.Prelude.{◌==◌, ◌&&◌, ◌||◌, not, nat_lt, cond, count_by, if◌then◌else◌}
use Rattle.std.proofs.lemmas.List.Sums.{sum_by-cons}
use Rattle.std.specs.List.{Contains}
use Rattle.std.specs.Ordering.{int_eq}
use Rattle.std.proofs.lemmas.Bool.Decides.{nat_tests, Decides-int_eq}
use Rattle.std.proofs.lemmas.List.Elements.{Contains-push, Contains-append_left, Contains-append_right}
use Rattle.base.specs.declared.ids.SiteId.{SiteId}
use Rattle.deref_walk.specs.declared.loc.Loc.{Loc}
use Rattle.deref_walk.specs.declared.loc.Loc.TheVariants as loc
use Rattle.deref_walk.specs.declared.graph.Edge.{Edge}
use Rattle.deref_walk.specs.declared.graph.Location.{Location}
use Rattle.deref_walk.specs.declared.levels.Step.{Step}
use Rattle.deref_walk.specs.Flow.{number_after, Leads, arrived, onward}
use Rattle.deref_walk.specs.Locations.{same}
use Rattle.deref_walk.proofs.Same.{same_is}
use Rattle.value_flows.specs.declared.placed.Placed.{Placed}
use Rattle.value_flows.specs.declared.placed.Placed.TheVariants as homes
use Rattle.report_checks.specs.declared.line.SiteLine.{SiteLine}
use Rattle.report_checks.specs.declared.line.StepLine.{StepLine}
use Rattle.report_checks.specs.declared.line.TagLine.{TagLine}
use Rattle.report_checks.specs.declared.line.Line.{Line}
use Rattle.report_checks.specs.declared.line.Line.TheVariants as lines
use Rattle.report_checks.specs.declared.fault.ReportFault.{ReportFault}
use Rattle.report_checks.specs.declared.fault.ReportFault.TheVariants.{BadLine, NoSuchEdge, WrongSum, NotOutliving}
use Rattle.report_checks.specs.declared.state.Next.{Next}
use Rattle.report_checks.specs.declared.state.Next.TheVariants as nexts
use Rattle.report_checks.specs.declared.state.PathEnd.{PathEnd}
use Rattle.report_checks.specs.declared.state.State.{State}
use Rattle.report_checks.specs.declared.state.State.TheVariants as states
use Rattle.report_checks.specs.Verdict.{is_there, is_edge, is_line_of, has_line, on_heap, outlives, is_above, is_tag_after, next_of, is_step, is_something, goes_on, after_site, after_step, state_after, is_on_path, is_summed, test, or_else, tag_fault, is_rooted, site_fault, step_fault, fault_of, first_fault, lesser, site_if, least_site, missing, answer, verdict}
use Rattle.report_checks.specs.Report.{line_of, AreTags, no_tags, more_tags, IsNextSite, IsReport, ended, stays, known, flows, PassedIsReport}

-- ---- tests

tested : (b : Bool) (f : ReportFault) (rest : Option ReportFault) → test b f rest ≡ None → (b ≡ true) × (rest ≡ None)
tested true f rest h = (refl, h)
tested false f rest h = absurd (cc)

neither : (o p : Option ReportFault) → or_else o p ≡ None → (o ≡ None) × (p ≡ None)
neither None p h = (refl, h)
neither (Some f) p h = absurd (cc)

both : (a b : Bool) → (a && b) ≡ true → (a ≡ true) × (b ≡ true)
both true b h = (refl, h)
both false b h = absurd (let e : false ≡ true = h in cc)

or_false : (a b : Bool) → a ≡ false → (a || b) ≡ true → b ≡ true
or_false false b h t = t
or_false true b h t = absurd (cc)

or_cases : (a b : Bool) → (a || b) ≡ true → (a ≡ true) ⊎ (b ≡ true)
or_cases true b h = inl refl
or_cases false b h = inr h

number_is : (a b : ℤ) → int_eq a b ≡ true → a ≡ b
number_is a b h = (Decides-int_eq a b).0 h

edge_is : (edges : List Edge) (to from : Loc) (w : ℤ) → is_edge edges to from w ≡ true → (e : Edge) × Contains edges e × (e.to ≡ to) × (e.from ≡ from) × (e.weight ≡ w)
edge_is [] to from w h = absurd (let e : false ≡ true = h in cc)
edge_is (e ∷ es) to from w h = elim (or_cases (same e.to to && (same e.from from && int_eq e.weight w)) (is_edge es to from w) h) [
  | inl here ↦ (let a = both (same e.to to) (same e.from from && int_eq e.weight w) here in
      let b = both (same e.from from) (int_eq e.weight w) a.1 in
      (e, Contains-append_left (e ∷ []) es e (Contains-push [] e), same_is e.to to a.0, same_is e.from from b.0, number_is e.weight w b.1))
  | inr there ↦ (let d = edge_is es to from w there in (d.0, Contains-append_right (e ∷ []) es d.0 d.1, d.2, d.3, d.4))
]

next_cases : (k : Next) → (k ≡ nexts.Step) ⊎ (is_step k ≡ false)
next_cases nexts.Nothing = inr refl
next_cases nexts.Step = inl refl
next_cases nexts.Other = inr refl

step_behind : (l : SiteId) (s : StepLine) (k : Next) → is_step k ≡ false → after_step l s k ≡ states.Sites (Some l)
unfolding after_step
step_behind l s nexts.Nothing h = refl
step_behind l s nexts.Step h = absurd (cc)
step_behind l s nexts.Other h = refl

step_on : (l : SiteId) (s : StepLine) (k : Next) → k ≡ nexts.Step → after_step l s k ≡ states.Path (record { site = l; at = s.from; sum = s.sum })
unfolding after_step
step_on l s k h = ap (after_step l s) h

module _ (edges : List Edge) (locations : List Location) (heap : SiteId → Bool) where
  judge : State → ℕ → List (Option Line) → Option ReportFault
  judge state n read = first_fault edges locations heap state n read

  -- steps that lead to the address of a site, and what comes behind them
  Follows : SiteId → Loc → ℤ → List (Option Line) → Type 0
  Follows l at sum read = (steps : List Step) × (rest : List (Option Line)) × (read ≡ map line_of steps ++ rest) × Leads edges at sum steps (loc.Site l) (negsuc 0) × IsReport edges locations heap (Some l) rest

  same_line : (s : StepLine) (x y : Loc) (v m : ℤ) → x ≡ s.to → y ≡ s.from → v ≡ s.weight → m ≡ s.sum → Some (lines.Step s) ≡ Some (lines.Step (record { to = x; from = y; weight = v; sum = m }))
  same_line s x y v m p q r t =
      ap (λ (a : Loc). Some (lines.Step (record { to = a; from = s.from; weight = s.weight; sum = s.sum }))) (sym p)
      ∙ ap (λ (a : Loc). Some (lines.Step (record { to = x; from = a; weight = s.weight; sum = s.sum }))) (sym q)
      ∙ ap (λ (a : ℤ). Some (lines.Step (record { to = x; from = y; weight = a; sum = s.sum }))) (sym r)
      ∙ ap (λ (a : ℤ). Some (lines.Step (record { to = x; from = y; weight = v; sum = a }))) (sym t)

  one_step : (l : SiteId) (at : Loc) (sum : ℤ) (s : StepLine) (read : List (Option Line)) → s.to ≡ at → s.sum ≡ number_after sum s.weight → ((e : Edge) × Contains edges e × (e.to ≡ s.to) × (e.from ≡ s.from) × (e.weight ≡ s.weight)) → Follows l s.from s.sum read → Follows l at sum (Some (lines.Step s) ∷ read)
  unfolding Follows
  one_step l at sum s read here number e f =
      let edge = e.0 in
      let m = number_after sum edge.weight in
      let sums : m ≡ s.sum = ap (number_after sum) e.4 ∙ sym number in
      let step : Step = record { to = edge.to; from = edge.from; weight = edge.weight; sum = m } in
      let line : Some (lines.Step s) ≡ line_of step = same_line s edge.to edge.from edge.weight m e.2 e.3 e.4 sums in
      let behind_it : Leads edges edge.from m f.0 (loc.Site l) (negsuc 0) = subst (λ (x : ℤ). Leads edges edge.from x f.0 (loc.Site l) (negsuc 0)) (sym sums) (subst (λ (x : Loc). Leads edges x s.sum f.0 (loc.Site l) (negsuc 0)) (sym e.3) f.3) in
      let whole : Leads edges at sum (step ∷ f.0) (loc.Site l) (negsuc 0) = subst (λ (x : Loc). Leads edges x sum (step ∷ f.0) (loc.Site l) (negsuc 0)) (e.2 ∙ here) (onward edge e.1 behind_it) in
      let all : Some (lines.Step s) ∷ read ≡ line_of step ∷ (map line_of f.0 ++ f.1) = ap (λ (x : Option Line). x ∷ read) line ∙ ap (λ (x : List (Option Line)). line_of step ∷ x) f.2 in
      (step ∷ f.0, f.1, all, whole, f.4)

  last_step : (l : SiteId) (b : Loc) (d : ℤ) (read : List (Option Line)) → b ≡ loc.Site l → d ≡ negsuc 0 → IsReport edges locations heap (Some l) read → Follows l b d read
  unfolding Follows
  last_step l b d read at number report = ([], read, refl, subst (λ (x : ℤ). Leads edges b d [] (loc.Site l) x) number (subst (λ (x : Loc). Leads edges b d [] x d) at arrived), report)

  flow_report : (last : Option SiteId) (s : SiteLine) (r : Loc) (read : List (Option Line)) → IsNextSite locations last s.site → s.placed ≡ homes.Flow r → outlives locations heap r s.site ≡ true → Follows s.site r (pos 0) read → IsReport edges locations heap last (Some (lines.Site s) ∷ read)
  unfolding Follows
  flow_report last s r read next placed out f = subst (λ (xs : List (Option Line)). IsReport edges locations heap last (Some (lines.Site s) ∷ xs)) (sym f.2) (flows s r f.0 next placed out f.3 f.4)

  step_is : (path : PathEnd) (n : ℕ) (s : StepLine) (read : List (Option Line)) (k : Next) → step_fault edges path n s k ≡ None → judge (after_step path.site s k) (n + 1) read ≡ None
      → (k ≡ nexts.Step → judge (states.Path (record { site = path.site; at = s.from; sum = s.sum })) (n + 1) read ≡ None → Follows path.site s.from s.sum read)
      → (judge (states.Sites (Some path.site)) (n + 1) read ≡ None → IsReport edges locations heap (Some path.site) read)
      → Follows path.site path.at path.sum (Some (lines.Step s) ∷ read)
  unfolding step_fault is_on_path is_summed
  step_is path n s read k h rest on stops =
      let site = loc.Site path.site in
      let last = tested (is_summed path.sum s k) (WrongSum n) None in
      let t = tested (is_on_path path.site path.at s k) (BadLine n) (test (is_edge edges s.to s.from s.weight) (NoSuchEdge n) (test (is_summed path.sum s k) (WrongSum n) None)) h in
      let x = both (same s.to path.at) (is_step k || same s.from site) t.0 in
      let u = tested (is_edge edges s.to s.from s.weight) (NoSuchEdge n) (test (is_summed path.sum s k) (WrongSum n) None) t.1 in
      let v = last u.1 in
      let y = both (int_eq s.sum (number_after path.sum s.weight)) (is_step k || int_eq s.sum (negsuc 0)) v.0 in
      one_step path.site path.at path.sum s read (same_is s.to path.at x.0) (number_is s.sum (number_after path.sum s.weight) y.0) (edge_is edges s.to s.from s.weight u.0) (elim (next_cases k) [
        | inl step ↦ on step (ap (λ (st : State). judge st (n + 1) read) (sym (step_on path.site s k step)) ∙ rest)
        | inr off ↦ last_step path.site s.from s.sum read (same_is s.from site (or_false (is_step k) (same s.from site) off x.1)) (number_is s.sum (negsuc 0) (or_false (is_step k) (int_eq s.sum (negsuc 0)) off y.1)) (stops (ap (λ (st : State). judge st (n + 1) read) (sym (step_behind path.site s k off)) ∙ rest))
      ])

  site_parts : (last : Option SiteId) (n : ℕ) (s : SiteLine) (k : Next) (p : Placed) → s.placed ≡ p → site_fault locations heap last n s k ≡ None → IsNextSite locations last s.site × (goes_on p k ≡ true) × (is_rooted locations heap p s.site ≡ true)
  unfolding site_fault
  site_parts last n s k p e h =
      let t = tested (is_there locations (loc.Site s.site) && (is_above last s.site && goes_on s.placed k)) (BadLine n) (test (is_rooted locations heap s.placed s.site) (NotOutliving n) None) h in
      let a = both (is_there locations (loc.Site s.site)) (is_above last s.site && goes_on s.placed k) t.0 in
      let b = both (is_above last s.site) (goes_on s.placed k) a.1 in
      let u = tested (is_rooted locations heap s.placed s.site) (NotOutliving n) None t.1 in
      (record { there = a.0; above = b.0 }, subst (λ (x : Placed). goes_on x k ≡ true) e b.1, subst (λ (x : Placed). is_rooted locations heap x s.site ≡ true) e u.0)

  site_is : (last : Option SiteId) (n : ℕ) (s : SiteLine) (read : List (Option Line)) (k : Next) (p : Placed) → s.placed ≡ p → site_fault locations heap last n s k ≡ None → judge (after_site s.site p) (n + 1) read ≡ None
      → (judge (states.Sites (Some s.site)) (n + 1) read ≡ None → IsReport edges locations heap (Some s.site) read)
      → ((r : Loc) → is_something k ≡ true → judge (states.Path (record { site = s.site; at = r; sum = pos 0 })) (n + 1) read ≡ None → Follows s.site r (pos 0) read)
      → IsReport edges locations heap last (Some (lines.Site s) ∷ read)
  unfolding is_rooted after_site goes_on
  site_is last n s read k homes.Stack e h rest stops path = stays s (site_parts last n s k homes.Stack e h).0 e (stops rest)
  site_is last n s read k (homes.Known why) e h rest stops path = known s why (site_parts last n s k (homes.Known why) e h).0 e (stops rest)
  site_is last n s read k (homes.Flow r) e h rest stops path =
      let parts = site_parts last n s k (homes.Flow r) e h in
      flow_report last s r read parts.0 e parts.2 (path r parts.1 rest)

  tags_are : (last : TagLine) (n : ℕ) (read : List (Option Line)) → judge (states.Tags last) n read ≡ None → AreTags (Some last) read
  unfolding judge first_fault fault_of state_after tag_fault
  tags_are last n [] h = no_tags
  tags_are last n (None ∷ read) h = absurd (cc)
  tags_are last n (Some (lines.Site s) ∷ read) h = absurd (cc)
  tags_are last n (Some (lines.Step s) ∷ read) h = absurd (cc)
  tags_are last n (Some (lines.Tag t) ∷ read) h =
      let a = neither (tag_fault last n t) (judge (states.Tags t) (n + 1) read) h in
      let b = tested (is_tag_after last t) (BadLine n) None a.0 in
      more_tags t b.0 (tags_are t (n + 1) read a.1)

  mutual
    unfolding judge first_fault fault_of state_after next_of

    sites_are : (last : Option SiteId) (n : ℕ) (read : List (Option Line)) → judge (states.Sites last) n read ≡ None → IsReport edges locations heap last read
    sites_are last n [] h = ended no_tags
    sites_are last n (None ∷ read) h = absurd (cc)
    sites_are last n (Some (lines.Site s) ∷ read) h =
        let k = next_of read in
        let a = neither (site_fault locations heap last n s k) (judge (after_site s.site s.placed) (n + 1) read) h in
        site_is last n s read k s.placed refl a.0 a.1 (sites_are (Some s.site) (n + 1) read) (λ r some. path_is (record { site = s.site; at = r; sum = pos 0 }) (n + 1) read some)
    sites_are last n (Some (lines.Step s) ∷ read) h = absurd (cc)
    sites_are last n (Some (lines.Tag t) ∷ read) h = ended (more_tags t tt (tags_are t (n + 1) read h))

    path_is : (path : PathEnd) (n : ℕ) (read : List (Option Line)) → is_something (next_of read) ≡ true → judge (states.Path path) n read ≡ None → Follows path.site path.at path.sum read
    path_is path n [] some h = absurd (cc)
    path_is path n (None ∷ read) some h = absurd (cc)
    path_is path n (Some (lines.Site s) ∷ read) some h = absurd (cc)
    path_is path n (Some (lines.Tag t) ∷ read) some h = absurd (cc)
    path_is path n (Some (lines.Step s) ∷ read) some h =
        let k = next_of read in
        let a = neither (step_fault edges path n s k) (judge (after_step path.site s k) (n + 1) read) h in
        step_is path n s read k a.0 a.1 (λ step. path_is (record { site = path.site; at = s.from; sum = s.sum }) (n + 1) read (ap is_something step)) (sites_are (Some path.site) (n + 1) read)

-- lines without a fault
pub lines_are : (edges : List Edge) (locations : List Location) (heap : SiteId → Bool) (read : List (Option Line)) → first_fault edges locations heap (states.Sites None) 1 read ≡ None → IsReport edges locations heap None read
unfolding judge
lines_are edges locations heap read h = sites_are edges locations heap None 1 read h

-- ---- one line for each site

one_of : {A : Type 0} (b : Bool) (x y : Option A) → (x ≡ None → ⊥) → (y ≡ None → ⊥) → (if b then x else y) ≡ None → ⊥
one_of true x y p q h = p h
one_of false x y p q h = q h

not_wanted : (b : Bool) (l : SiteId) → (if b then Some l else None) ≡ None → b ≡ false
not_wanted true l h = absurd (cc)
not_wanted false l h = refl

not_false : (b : Bool) → not b ≡ false → b ≡ true
not_false true h = refl
not_false false h = absurd (cc)

answer_ok : (f : Option ReportFault) (m : Option SiteId) → answer f m ≡ Ok tt → (f ≡ None) × (m ≡ None)
unfolding answer
answer_ok (Some f) m h = absurd (cc)
answer_ok None (Some l) h = absurd (cc)
answer_ok None None h = (refl, refl)

lesser_none : (a b : Option SiteId) → lesser a b ≡ None → (a ≡ None) × (b ≡ None)
unfolding lesser
lesser_none None b h = (refl, h)
lesser_none (Some l) None h = absurd (cc)
lesser_none (Some l) (Some m) h = absurd (one_of (nat_lt m.0 l.0) (Some m) (Some l) (λ e. cc) (λ e. cc) h)

wanted_none : (wanted : SiteId → Bool) (l : SiteId) → site_if wanted (loc.Site l) ≡ None → wanted l ≡ false
unfolding site_if
wanted_none wanted l h = not_wanted (wanted l) l h

least_none : (wanted : SiteId → Bool) (locations : List Location) (l : SiteId) → least_site wanted locations ≡ None → is_there locations (loc.Site l) ≡ true → wanted l ≡ false
unfolding least_site
least_none wanted [] l h there = absurd (let e : false ≡ true = there in cc)
least_none wanted (x ∷ xs) l h there =
    let parts = lesser_none (site_if wanted x.loc) (least_site wanted xs) h in
    elim (or_cases (same x.loc (loc.Site l)) (is_there xs (loc.Site l)) there) [
      | inl here ↦ wanted_none wanted l (ap (site_if wanted) (sym (same_is x.loc (loc.Site l) here)) ∙ parts.0)
      | inr later ↦ least_none wanted xs l parts.1 later
    ]

here_or : (b : Bool) → (b ≡ true) ⊎ (b ≡ false)
here_or true = inl refl
here_or false = inr refl

not_less : (a b : ℕ) → (a == b) ≡ true → nat_lt a b ≡ false
not_less a b h = grind (arith, nat_tests)

apart_same : (m a b : ℕ) → nat_lt m a ≡ true → nat_lt m b ≡ false → (a == b) ≡ false
apart_same m a b h k = grind (arith, nat_tests)

apart_less : (m a b : ℕ) → nat_lt m a ≡ true → nat_lt m b ≡ false → nat_lt a b ≡ false
apart_less m a b h k = grind (arith, nat_tests)

exactly : {n : ℕ} → 1 ≤ n → n ≤ 1 → n ≡ 1
exactly p q = omega arith

-- a site above the last one, where another is not
apart : (last : Option SiteId) (a b : SiteId) → is_above last a ≡ true → is_above last b ≡ false → ((a.0 == b.0) ≡ false) × (is_above (Some a) b ≡ false)
unfolding is_above
apart None a b h k = absurd (cc)
apart (Some m) a b h k = (apart_same m.0 a.0 b.0 h k, apart_less m.0 a.0 b.0 h k)

-- how many lines a site has
one_if : Bool → ℕ
one_if b = cond b 1 0

counted : (b : Bool) → b ≡ true → one_if b ≡ 1
unfolding one_if
counted b h = ap one_if h

not_counted : (b : Bool) → b ≡ false → one_if b ≡ 0
unfolding one_if
not_counted b h = ap one_if h

pub lines_for : SiteId → List (Option Line) → ℕ
lines_for l read = count_by (is_line_of l) read

one_line : (l : SiteId) (o : Option Line) (read : List (Option Line)) → lines_for l (o ∷ read) ≡ one_if (is_line_of l o) + lines_for l read
unfolding lines_for one_if
one_line l o read = sum_by-cons (λ (x : Option Line). cond (is_line_of l x) 1 0) o read

pub has_some : (l : SiteId) (read : List (Option Line)) → has_line read l ≡ true → 1 ≤ lines_for l read
has_some l [] h = absurd (let e : false ≡ true = h in cc)
has_some l (o ∷ read) h = elim (or_cases (is_line_of l o) (has_line read l) h) [
  | inl here ↦ (let e = one_line l o read in let f = counted (is_line_of l o) here in omega arith)
  | inr later ↦ (let e = one_line l o read in let k = has_some l read later in omega arith)
]

module _ (edges : List Edge) (locations : List Location) (heap : SiteId → Bool) (l : SiteId) where
  no_line : (o : Option Line) (read : List (Option Line)) → is_line_of l o ≡ false → lines_for l (o ∷ read) ≡ lines_for l read
  no_line o read h = let e = one_line l o read in let f = not_counted (is_line_of l o) h in omega arith

  in_tags : {last : Option TagLine} {read : List (Option Line)} → AreTags last read → lines_for l read ≡ 0
  unfolding lines_for is_line_of
  in_tags no_tags = refl
  in_tags (more_tags {read = read} t order tags) = no_line (Some (lines.Tag t)) read refl ∙ in_tags tags

  in_steps : (steps : List Step) (read : List (Option Line)) → lines_for l (map line_of steps ++ read) ≡ lines_for l read
  unfolding is_line_of
  in_steps [] read = refl
  in_steps (s ∷ steps) read = no_line (line_of s) (map line_of steps ++ read) refl ∙ in_steps steps read

  -- a line of another site, and those after it
  later_one : (last : Option SiteId) (s : SiteLine) (read : List (Option Line)) → is_above last s.site ≡ true → is_above last l ≡ false → (is_above (Some s.site) l ≡ false → lines_for l read ≡ 0) → lines_for l (Some (lines.Site s) ∷ read) ≡ 0
  unfolding is_line_of
  later_one last s read above h rest = let order = apart last s.site l above h in no_line (Some (lines.Site s)) read order.0 ∙ rest order.1

  at_most : (s : SiteLine) (read : List (Option Line)) → (is_above (Some s.site) l ≡ false → lines_for l read ≡ 0) → lines_for l read ≤ 1 → lines_for l (Some (lines.Site s) ∷ read) ≤ 1
  unfolding is_line_of is_above
  at_most s read zero most = elim (here_or (s.site.0 == l.0)) [
    | inl here ↦ (let e = one_line l (Some (lines.Site s)) read in let f = counted (s.site.0 == l.0) here in let z = zero (not_less s.site.0 l.0 here) in omega arith)
    | inr other ↦ (let e = no_line (Some (lines.Site s)) read other in omega arith)
  ]

  -- lines after a site are not those of it or of lesser ones
  pub later : {last : Option SiteId} {read : List (Option Line)} → IsReport edges locations heap last read → is_above last l ≡ false → lines_for l read ≡ 0
  later (ended tags) h = in_tags tags
  later (stays {last = last} {read = read} s next placed report) h = later_one last s read next.above h (later report)
  later (known {last = last} {read = read} s why next placed report) h = later_one last s read next.above h (later report)
  later (flows {last = last} {read = read} s root steps next placed out leads report) h = later_one last s (map line_of steps ++ read) next.above h (λ k. in_steps steps read ∙ later report k)

  most_one : {last : Option SiteId} {read : List (Option Line)} → IsReport edges locations heap last read → lines_for l read ≤ 1
  most_one (ended tags) = let e = in_tags tags in omega arith
  most_one (stays {read = read} s next placed report) = at_most s read (later report) (most_one report)
  most_one (known {read = read} s why next placed report) = at_most s read (later report) (most_one report)
  most_one (flows {read = read} s root steps next placed out leads report) = at_most s (map line_of steps ++ read) (λ k. in_steps steps read ∙ later report k) (let e = in_steps steps read in let k = most_one report in omega arith)

pub passed : PassedIsReport
unfolding verdict lines_for
passed edges locations read h =
    let parts = answer_ok (first_fault edges locations (on_heap read) (states.Sites None) 1 read) (missing locations read) h in
    let report = lines_are edges locations (on_heap read) read parts.0 in
    record {
      lines = report;
      once = λ l there. (
          let told : has_line read l ≡ true = not_false (has_line read l) (least_none (λ (k : SiteId). not (has_line read k)) locations l parts.1 there) in
          exactly (has_some l read told) (most_one edges locations (on_heap read) l report));
    }
