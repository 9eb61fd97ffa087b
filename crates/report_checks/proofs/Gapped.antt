-- Of lines that ascend, the first gap is the least site without a line.
use Rattle.std.proofs.Common.{◌≡◌, ◌⊎◌, inl, inr, ℕ, Bool, true, false, List, [], ◌∷◌, ◌++◌, Option, Some, None, map, refl, sym, ap, ◌∙◌, arith}
use Rattle.std.specs.Prelude.{◌==◌, ◌&&◌, ◌||◌, not, nat_lt, if◌then◌else◌}
use Rattle.std.proofs.lemmas.Bool.Decides.{nat_tests}
use Rattle.base.specs.declared.ids.SiteId.{SiteId}
use Rattle.deref_walk.specs.declared.loc.Loc.{Loc}
use Rattle.deref_walk.specs.declared.loc.Loc.TheVariants as loc
use Rattle.deref_walk.specs.declared.graph.Edge.{Edge}
use Rattle.deref_walk.specs.declared.graph.Location.{Location}
use Rattle.deref_walk.specs.declared.levels.Step.{Step}
use Rattle.report_checks.specs.declared.line.SiteLine.{SiteLine}
use Rattle.report_checks.specs.declared.line.TagLine.{TagLine}
use Rattle.report_checks.specs.declared.line.Line.{Line}
use Rattle.report_checks.specs.declared.line.Line.TheVariants as lines
use Rattle.report_checks.specs.declared.fault.ReportFault.{ReportFault}
use Rattle.report_checks.specs.declared.state.State.TheVariants as states
use Rattle.report_checks.specs.Verdict.{is_line_of, has_line, on_heap, is_above, first_fault, lesser, site_if, least_site, missing, answer, verdict}
use Rattle.report_checks.specs.Gaps.{is_below, is_between, site_of, or_site, gap_before, first_gap}
use Rattle.report_checks.specs.Report.{line_of, AreTags, no_tags, more_tags, IsReport, ended, stays, known, flows}
use Rattle.report_checks.proofs.Passed.{lines_are, later, has_some, lines_for}

-- ---- choices

passing : (wanted : SiteId → Bool) (m l : SiteId) (b : Bool) → wanted m ≡ b → (if b then Some m else None) ≡ Some l → wanted l ≡ true
passing wanted m l true e h = let same : m ≡ l = cc in ap wanted (sym same) ∙ e
passing wanted m l false e h = absurd (cc)

one_or : (b : Bool) (m k l : SiteId) → (if b then Some k else Some m) ≡ Some l → (Some m ≡ Some l) ⊎ (Some k ≡ Some l)
one_or true m k l h = inr h
one_or false m k l h = inl h

kept : (x y : Option SiteId) (b : Bool) → b ≡ false → (if b then x else y) ≡ y
kept x y true h = absurd (cc)
kept x y false h = refl

taken : (x y : Option SiteId) (b : Bool) → b ≡ true → (if b then x else y) ≡ x
taken x y true h = refl
taken x y false h = absurd (cc)

first_stays : (b : Bool) (x y z : Option SiteId) → ((l : SiteId) × (x ≡ Some l)) → ((l : SiteId) × (y ≡ Some l)) → (if b then x else y) ≡ or_site (if b then x else y) z
first_stays true x y z p q = p.1 ∙ sym (ap (λ (o : Option SiteId). or_site o z) p.1)
first_stays false x y z p q = q.1 ∙ sym (ap (λ (o : Option SiteId). or_site o z) q.1)

above_all : (m s k : ℕ) → nat_lt m s ≡ true → nat_lt s k ≡ true → nat_lt k m ≡ false
above_all m s k p q = grind (arith, nat_tests)

through : (k s m : ℕ) → nat_lt k s ≡ true → nat_lt s m ≡ true → nat_lt k m ≡ true
through k s m p q = grind (arith, nat_tests)

-- ---- the least site that passes a test

site_passes : (wanted : SiteId → Bool) (x : Loc) (l : SiteId) → site_if wanted x ≡ Some l → wanted l ≡ true
unfolding site_if
site_passes wanted loc.Heap l h = absurd (cc)
site_passes wanted (loc.Result f i) l h = absurd (cc)
site_passes wanted (loc.Site m) l h = passing wanted m l (wanted m) refl h
site_passes wanted (loc.Carry m) l h = absurd (cc)

lesser_one : (a b : Option SiteId) (l : SiteId) → lesser a b ≡ Some l → (a ≡ Some l) ⊎ (b ≡ Some l)
unfolding lesser
lesser_one None b l h = inr h
lesser_one (Some m) None l h = inl h
lesser_one (Some m) (Some k) l h = one_or (nat_lt k.0 m.0) m k l h

least_passes : (wanted : SiteId → Bool) (locations : List Location) (l : SiteId) → least_site wanted locations ≡ Some l → wanted l ≡ true
unfolding least_site
least_passes wanted [] l h = absurd (cc)
least_passes wanted (x ∷ xs) l h = elim (lesser_one (site_if wanted x.loc) (least_site wanted xs) l h) [
  | inl here ↦ site_passes wanted x.loc l here
  | inr more ↦ least_passes wanted xs l more
]

-- tests that agree have one least site
site_agrees : (v w : SiteId → Bool) (x : Loc) → ((l : SiteId) → v l ≡ w l) → site_if v x ≡ site_if w x
unfolding site_if
site_agrees v w loc.Heap e = refl
site_agrees v w (loc.Result f i) e = refl
site_agrees v w (loc.Site m) e = ap (λ (b : Bool). if b then Some m else None) (e m)
site_agrees v w (loc.Carry m) e = refl

least_agrees : (v w : SiteId → Bool) (locations : List Location) → ((l : SiteId) → v l ≡ w l) → least_site v locations ≡ least_site w locations
unfolding least_site
least_agrees v w [] e = refl
least_agrees v w (x ∷ xs) e = ap (λ (a : Option SiteId). lesser a (least_site v xs)) (site_agrees v w x.loc e) ∙ ap (lesser (site_if w x.loc)) (least_agrees v w xs e)

-- ---- two tests, of which one passes lesser sites alone

-- m is a location's site, a and b whether it passes, x and y the least others that do
step : (a b : Bool) (s m : SiteId) (x y : Option SiteId) → (a ≡ true → nat_lt m.0 s.0 ≡ true) → (b ≡ true → nat_lt s.0 m.0 ≡ true) → ((l : SiteId) → x ≡ Some l → nat_lt l.0 s.0 ≡ true) → ((l : SiteId) → y ≡ Some l → nat_lt s.0 l.0 ≡ true)
    → lesser (if a || b then Some m else None) (or_site x y) ≡ or_site (lesser (if a then Some m else None) x) (lesser (if b then Some m else None) y)
unfolding lesser
step true b s m None None p q f g = refl
step true b s m None (Some k) p q f g = kept (Some k) (Some m) (nat_lt k.0 m.0) (above_all m.0 s.0 k.0 (p refl) (g k refl))
step true b s m (Some k) y p q f g = first_stays (nat_lt k.0 m.0) (Some k) (Some m) _ (k, refl) (m, refl)
step false true s m None y p q f g = refl
step false true s m (Some k) y p q f g = taken (Some k) (Some m) (nat_lt k.0 m.0) (through k.0 s.0 m.0 (f k refl) (q refl))
step false false s m x y p q f g = refl

merged_at : (v w u : SiteId → Bool) (s : SiteId) (at : Loc) (x y : Option SiteId) → ((l : SiteId) → u l ≡ (v l || w l)) → ((l : SiteId) → v l ≡ true → nat_lt l.0 s.0 ≡ true) → ((l : SiteId) → w l ≡ true → nat_lt s.0 l.0 ≡ true)
    → ((l : SiteId) → x ≡ Some l → nat_lt l.0 s.0 ≡ true) → ((l : SiteId) → y ≡ Some l → nat_lt s.0 l.0 ≡ true)
    → lesser (site_if u at) (or_site x y) ≡ or_site (lesser (site_if v at) x) (lesser (site_if w at) y)
unfolding site_if lesser
merged_at v w u s loc.Heap x y e p q f g = refl
merged_at v w u s (loc.Result i j) x y e p q f g = refl
merged_at v w u s (loc.Site m) x y e p q f g = ap (λ (c : Bool). lesser (if c then Some m else None) (or_site x y)) (e m) ∙ step (v m) (w m) s m x y (p m) (q m) f g
merged_at v w u s (loc.Carry m) x y e p q f g = refl

merged : (v w u : SiteId → Bool) (s : SiteId) (locations : List Location) → ((l : SiteId) → u l ≡ (v l || w l)) → ((l : SiteId) → v l ≡ true → nat_lt l.0 s.0 ≡ true) → ((l : SiteId) → w l ≡ true → nat_lt s.0 l.0 ≡ true)
    → least_site u locations ≡ or_site (least_site v locations) (least_site w locations)
unfolding least_site
merged v w u s [] e p q = refl
merged v w u s (x ∷ xs) e p q =
    ap (lesser (site_if u x.loc)) (merged v w u s xs e p q)
    ∙ merged_at v w u s x.loc (least_site v xs) (least_site w xs) e p q (λ l h. p l (least_passes v xs l h)) (λ l h. q l (least_passes w xs l h))

-- ---- the lines of a report

-- a site above the last one that has no line
left_out : Option SiteId → List (Option Line) → SiteId → Bool
left_out last read l = is_above last l && not (has_line read l)

over_other : (locations : List Location) (last : Option SiteId) (o : Option Line) (read : List (Option Line)) → site_of o ≡ None → first_gap locations last (o ∷ read) ≡ first_gap locations last read
unfolding first_gap gap_before
over_other locations last o read h = ap (λ (a : Option SiteId). or_site (gap_before locations last a) (first_gap locations (or_site a last) read)) h

over_steps : (locations : List Location) (last : Option SiteId) (steps : List Step) (read : List (Option Line)) → first_gap locations last (map line_of steps ++ read) ≡ first_gap locations last read
unfolding site_of
over_steps locations last [] read = refl
over_steps locations last (s ∷ steps) read = over_other locations last (line_of s) (map line_of steps ++ read) refl ∙ over_steps locations last steps read

step_lines : (l : SiteId) (steps : List Step) (read : List (Option Line)) → has_line (map line_of steps ++ read) l ≡ has_line read l
unfolding is_line_of
step_lines l [] read = refl
step_lines l (s ∷ steps) read = step_lines l steps read

over_tags : (locations : List Location) (last : Option SiteId) {tag : Option TagLine} {read : List (Option Line)} → AreTags tag read → first_gap locations last read ≡ least_site (is_between last None) locations
unfolding first_gap site_of
over_tags locations last no_tags = refl
over_tags locations last (more_tags {read = read} t order tags) = over_other locations last (Some (lines.Tag t)) read refl ∙ over_tags locations last tags

tag_lines : (l : SiteId) {tag : Option TagLine} {read : List (Option Line)} → AreTags tag read → has_line read l ≡ false
unfolding is_line_of
tag_lines l no_tags = refl
tag_lines l (more_tags {read = read} t order tags) = tag_lines l tags

at_end : (last : Option SiteId) (read : List (Option Line)) (l : SiteId) → has_line read l ≡ false → is_between last None l ≡ left_out last read l
unfolding is_between is_below left_out
at_end last read l h = ap (λ (b : Bool). is_above last l && not b) (sym h)

over_site : (locations : List Location) (last : Option SiteId) (s : SiteLine) (read : List (Option Line)) → first_gap locations last (Some (lines.Site s) ∷ read) ≡ or_site (least_site (is_between last (Some s.site)) locations) (first_gap locations (Some s.site) read)
unfolding first_gap gap_before site_of
over_site locations last s read = refl

not_told : (l : SiteId) (read : List (Option Line)) (b : Bool) → has_line read l ≡ b → lines_for l read ≡ 0 → b ≡ false
not_told l read true e h = absurd (let k = has_some l read e in omega arith)
not_told l read false e h = refl

with_steps : (last : Option SiteId) (l : SiteId) (steps : List Step) (read : List (Option Line)) → left_out last read l ≡ left_out last (map line_of steps ++ read) l
unfolding left_out
with_steps last l steps read = ap (λ (b : Bool). is_above last l && not b) (sym (step_lines l steps read))

both_parts : (a b : Bool) → (a && b) ≡ true → (a ≡ true) × (b ≡ true)
both_parts true b h = (refl, h)
both_parts false b h = absurd (let e : false ≡ true = h in cc)

lesser_side : (last : Option SiteId) (s l : SiteId) → is_between last (Some s) l ≡ true → nat_lt l.0 s.0 ≡ true
unfolding is_between is_below
lesser_side last s l h = (both_parts (is_above last l) (nat_lt l.0 s.0) h).1

greater_side : (s : SiteId) (read : List (Option Line)) (l : SiteId) → left_out (Some s) read l ≡ true → nat_lt s.0 l.0 ≡ true
unfolding left_out is_above
greater_side s read l h = (both_parts (nat_lt s.0 l.0) (not (has_line read l)) h).0

-- where a site stands to another one that has a line, of those above the last one
three_ways : (m s l : ℕ) (h : Bool) → nat_lt m s ≡ true → (nat_lt s l ≡ false → h ≡ false) → (nat_lt m l && not ((s == l) || h)) ≡ ((nat_lt m l && nat_lt l s) || (nat_lt s l && not h))
three_ways m s l h p q = grind (arith, nat_tests)

two_ways : (s l : ℕ) (h : Bool) → (nat_lt s l ≡ false → h ≡ false) → not ((s == l) || h) ≡ (nat_lt l s || (nat_lt s l && not h))
two_ways s l h q = grind (arith, nat_tests)

split_at : (last : Option SiteId) (s : SiteLine) (read : List (Option Line)) (l : SiteId) → is_above last s.site ≡ true → (is_above (Some s.site) l ≡ false → has_line read l ≡ false)
    → left_out last (Some (lines.Site s) ∷ read) l ≡ (is_between last (Some s.site) l || left_out (Some s.site) read l)
unfolding left_out is_between is_below is_above is_line_of
split_at None s read l above none = two_ways s.site.0 l.0 (has_line read l) none
split_at (Some m) s read l above none = three_ways m.0 s.site.0 l.0 (has_line read l) above none

module _ (edges : List Edge) (locations : List Location) (heap : SiteId → Bool) where
  no_later : {last : Option SiteId} {read : List (Option Line)} (l : SiteId) → IsReport edges locations heap last read → is_above last l ≡ false → has_line read l ≡ false
  no_later {last = last} {read = read} l report h = not_told l read (has_line read l) refl (later edges locations heap l report h)

  before_site : (last : Option SiteId) (s : SiteLine) (read : List (Option Line)) → is_above last s.site ≡ true → ((l : SiteId) → is_above (Some s.site) l ≡ false → has_line read l ≡ false)
      → least_site (left_out last (Some (lines.Site s) ∷ read)) locations ≡ or_site (least_site (is_between last (Some s.site)) locations) (least_site (left_out (Some s.site) read) locations)
  before_site last s read above none = merged (is_between last (Some s.site)) (left_out (Some s.site) read) (left_out last (Some (lines.Site s) ∷ read)) s.site locations (λ l. split_at last s read l above (none l)) (λ l h. lesser_side last s.site l h) (λ l h. greater_side s.site read l h)

  one_site : (last : Option SiteId) (s : SiteLine) (read : List (Option Line)) → is_above last s.site ≡ true → ((l : SiteId) → is_above (Some s.site) l ≡ false → has_line read l ≡ false) → first_gap locations (Some s.site) read ≡ least_site (left_out (Some s.site) read) locations
      → first_gap locations last (Some (lines.Site s) ∷ read) ≡ least_site (left_out last (Some (lines.Site s) ∷ read)) locations
  one_site last s read above none h =
      over_site locations last s read ∙ ap (or_site (least_site (is_between last (Some s.site)) locations)) h ∙ sym (before_site last s read above none)

  gap_is : {last : Option SiteId} {read : List (Option Line)} → IsReport edges locations heap last read → first_gap locations last read ≡ least_site (left_out last read) locations
  gap_is {last = last} {read = read} (ended tags) = over_tags locations last tags ∙ least_agrees (is_between last None) (left_out last read) locations (λ l. at_end last read l (tag_lines l tags))
  gap_is (stays {last = last} {read = read} s next placed report) = one_site last s read next.above (λ l h. no_later l report h) (gap_is report)
  gap_is (known {last = last} {read = read} s why next placed report) = one_site last s read next.above (λ l h. no_later l report h) (gap_is report)
  gap_is (flows {last = last} {read = read} s root steps next placed out leads report) =
      one_site last s (map line_of steps ++ read) next.above (λ l h. step_lines l steps read ∙ no_later l report h)
      (over_steps locations (Some s.site) steps read ∙ gap_is report ∙ least_agrees (left_out (Some s.site) read) (left_out (Some s.site) (map line_of steps ++ read)) locations (λ l. with_steps (Some s.site) l steps read))

pub gap_is_missing : (edges : List Edge) (locations : List Location) (read : List (Option Line)) → first_fault edges locations (on_heap read) (states.Sites None) 1 read ≡ None → first_gap locations None read ≡ missing locations read
unfolding left_out is_above
gap_is_missing edges locations read h = gap_is edges locations (on_heap read) (lines_are edges locations (on_heap read) read h)

-- ---- what the code finds

pub at_line : (locations : List Location) (last : Option SiteId) (o : Option Line) (read all : List (Option Line)) (next gap : Option SiteId) → all ≡ o ∷ read → next ≡ site_of o → gap ≡ gap_before locations last next
    → first_gap locations last all ≡ or_site gap (first_gap locations (or_site next last) read)
unfolding first_gap
at_line locations last o read all next gap e n g =
    ap (first_gap locations last) e ∙ ap (λ (a : Option SiteId). or_site (gap_before locations last a) (first_gap locations (or_site a last) read)) (sym n)
    ∙ ap (λ (a : Option SiteId). or_site a (first_gap locations (or_site next last) read)) (sym g)

pub past_lines : (locations : List Location) (last : Option SiteId) (all : List (Option Line)) → all ≡ [] → first_gap locations last all ≡ least_site (is_between last None) locations
unfolding first_gap
past_lines locations last all e = ap (first_gap locations last) e

pub told : (edges : List Edge) (locations : List Location) (read : List (Option Line)) (gap : Option SiteId) → None ≡ first_fault edges locations (on_heap read) (states.Sites None) 1 read → gap ≡ first_gap locations None read
    → answer None gap ≡ verdict edges locations read
unfolding verdict
told edges locations read gap none g =
    ap (answer None) (g ∙ gap_is_missing edges locations read (sym none)) ∙ ap (λ (f : Option ReportFault). answer f (missing locations read)) none
