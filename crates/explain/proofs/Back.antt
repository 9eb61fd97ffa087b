-- A report is read back.
use Rattle.std.proofs.Common.{◌≡◌, ℕ, zero, suc, ◌^◌, ◌<◌, ℤ, pos, negsuc, Bool, true, false, List, [], ◌∷◌, ◌++◌, get_or, map, Option, Some, None, refl, ap, ◌∙◌, arith}
use Rattle.std.specs.Prelude.{◌==◌, ◌&&◌, not, codes, decimal, Vec, slice_get}
use Rattle.std.specs.declared.alloc.Global.{Global}
use Rattle.std.specs.Fmt.{signed_decimal}
use Rattle.std.specs.List.{list_all}
use Rattle.std.proofs.lemmas.Bool.Decides.{nat_tests}
use Rattle.base.specs.declared.ids.SiteId.{SiteId}
use Rattle.deref_walk.specs.declared.loc.Loc.{Loc}
use Rattle.deref_walk.specs.declared.loc.Loc.TheVariants as loc
use Rattle.deref_walk.specs.declared.levels.Step.{Step}
use Rattle.value_flows.specs.declared.placed.Known.{Known}
use Rattle.value_flows.specs.declared.placed.Known.TheVariants.{Package, Size, Unknown}
use Rattle.value_flows.specs.declared.placed.Placed.{Placed}
use Rattle.value_flows.specs.declared.placed.Placed.TheVariants as homes
use Rattle.value_flows.specs.declared.tags.ParamTags.{ParamTags}
use Rattle.value_flows.specs.declared.program.Func.{Func}
use Rattle.param_tags.specs.Heap.{placed_at}
use Rattle.report_checks.specs.declared.line.TagFlow.{TagFlow}
use Rattle.report_checks.specs.declared.line.TagFlow.TheVariants as flows
use Rattle.report_checks.specs.declared.line.Line.{Line}
use Rattle.report_checks.specs.declared.line.Line.TheVariants as lines
use Rattle.report_checks.specs.Texts.{loc_text, known_text, placed_text, flow_text, line_text, IsName, SignedFits, LocFits, PlacedFits, FlowFits, LineFits}
use Rattle.report_checks.specs.Reading.{read_text}
use Rattle.report_checks.specs.Lines.{lines_of}
use Rattle.report_checks.proofs.Cutting.{Free, free_nil, free_cons, free_append}
use Rattle.report_checks.proofs.Decimals.{number_free}
use Rattle.report_checks.proofs.Exact.{line_complete, free_of}
use Rattle.report_checks.proofs.Splitting.{lines_cut, lines_nil}
use Rattle.explain.specs.declared.names.SiteName.{SiteName}
use Rattle.explain.specs.Lines.{Named, IsGoodName, AreNames, step_line, path_at, path_lines, site_lines, flows_in, tag_line, param_lines, params_lines, tags_in, func_lines, text_of, report_lines}
use Rattle.explain.specs.Passing.{AreFit, read_of, IsReadBack}

-- ---- no newline stands in a line

plain : List ℕ → Bool
plain xs = list_all (λ c. not (c == 10)) xs

parts : (a b : Bool) → (a && b) ≡ true → (a ≡ true) × (b ≡ true)
parts true b h = (refl, h)
parts false b h = absurd (let e : false ≡ true = h in cc)

other : (c : ℕ) → not (c == 10) ≡ true → c ≡ 10 → ⊥
other c h e = grind (arith, nat_tests)

plain_free : (xs : List ℕ) → plain xs ≡ true → Free 10 xs
unfolding plain
plain_free [] h = free_nil
plain_free (c ∷ cs) h = let p = parts (not (c == 10)) (list_all (λ x. not (x == 10)) cs) h in free_cons (other c p.0) (plain_free cs p.1)

word : (xs : List ℕ) → plain xs ≡ true → {ys : List ℕ} → Free 10 ys → Free 10 (xs ++ ys)
word xs h {ys = ys} f = free_append 10 xs ys (plain_free xs h) f

number : (n : ℕ) → n < 2 ^ 32 → {ys : List ℕ} → Free 10 ys → Free 10 (decimal n ++ ys)
number n h {ys = ys} f = free_append 10 (decimal n) ys (number_free 10 n refl h) f

signed_free : (z : ℤ) → SignedFits z → Free 10 (signed_decimal z)
unfolding plain
signed_free (pos n) h = number_free 10 n refl (omega arith)
signed_free (negsuc n) h = free_cons (other 45 refl) (number_free 10 (suc n) refl (omega arith))

loc_free : (l : Loc) → LocFits l → Free 10 (loc_text l)
unfolding plain
loc_free (loc.Site l) h = word (codes "s") refl (number_free 10 l.0 refl h)
loc_free (loc.Result f i) h = word (codes "f") refl (number f.0 h.0 (word (codes ".r") refl (number_free 10 i refl h.1)))
loc_free loc.Heap h = plain_free (codes "heap") refl
loc_free (loc.Carry l) h = word (codes "c") refl (number_free 10 l.0 refl h)

known_free : (k : Known) → Free 10 (known_text k)
unfolding plain
known_free Package = plain_free (codes "package") refl
known_free Size = plain_free (codes "size") refl
known_free Unknown = plain_free (codes "unknown") refl

placed_free : (p : Placed) → PlacedFits p → Free 10 (placed_text p)
unfolding plain
placed_free homes.Stack h = plain_free (codes "stack") refl
placed_free (homes.Known k) h = word (codes "heap ") refl (known_free k)
placed_free (homes.Flow r) h = word (codes "heap ") refl (word (codes "flow ") refl (loc_free r h))

flow_free : (f : TagFlow) → FlowFits f → Free 10 (flow_text f)
unfolding plain
flow_free (flows.Heap n) h = word (codes "heap ") refl (number_free 10 n refl h)
flow_free (flows.Result j n) h = word (codes "result ") refl (number j h.0 (word (codes " ") refl (number_free 10 n refl h.1)))
flow_free flows.Nowhere h = plain_free (codes "none") refl

-- a site's name is whole
IsWell : Line → List ℕ → Type 0
IsWell (lines.Site s) name = IsGoodName name
IsWell (lines.Step s) name = Unit {0}
IsWell (lines.Tag t) name = Unit {0}

then : (xs : List ℕ) {ys : List ℕ} → Free 10 xs → Free 10 ys → Free 10 (xs ++ ys)
then xs {ys = ys} f g = free_append 10 xs ys f g

line_free : (l : Line) (name : List ℕ) → LineFits l → IsWell l name → Free 10 (line_text l name)
unfolding plain IsWell
line_free (lines.Site s) name h w =
    word (codes "site ") refl (number s.site.0 h.0 (word (codes " ") refl (number s.line h.1 (word (codes ":") refl (number s.col h.2 (word (codes " ") refl
    (then name (free_of 10 name w.line) (word (codes " ") refl (placed_free s.placed h.3)))))))))
line_free (lines.Step s) name h w =
    word (codes "step ") refl (then (loc_text s.to) (loc_free s.to h.0) (word (codes " ") refl (then (loc_text s.from) (loc_free s.from h.1) (word (codes " ") refl
    (then (signed_decimal s.weight) (signed_free s.weight h.2) (word (codes " ") refl (signed_free s.sum h.3)))))))
line_free (lines.Tag t) name h w =
    word (codes "tag ") refl (number t.func.0 h.0 (word (codes " ") refl (number t.param h.1 (word (codes " ") refl (flow_free t.flow h.2)))))

-- ---- a line is read back

abbrev one_byte : List ℕ
one_byte = 48 ∷ []

not_a_space : (k : ℕ) → k < 1 → get_or one_byte k 32 ≡ 32 → ⊥
not_a_space zero h e = omega arith
not_a_space (suc k) h e = absurd (omega arith)

any_name : IsName one_byte
any_name = record { some = omega arith; whole = λ c. not_a_space c.0 c.1 c.2 }

line_back : (l : Line) (name : List ℕ) → LineFits l → IsWell l name → read_text (line_text l name) ≡ Some l
unfolding IsWell
line_back (lines.Site s) name h w = line_complete (lines.Site s) name h w.word
line_back (lines.Step s) name h w = line_complete (lines.Step s) one_byte h any_name
line_back (lines.Tag t) name h w = line_complete (lines.Tag t) one_byte h any_name

AreWell : List Named → Type 0
AreWell [] = Unit {0}
AreWell (l ∷ ls) = IsWell l.line l.name × AreWell ls

lines_back : (ls : List Named) → AreFit ls → AreWell ls → lines_of (text_of ls) ≡ map read_of ls
unfolding AreWell
lines_back [] h w = lines_nil
lines_back (l ∷ ls) h w =
    let fits = h.0 in
    lines_cut (line_text l.line l.name) (text_of ls) (line_free l.line l.name fits w.0)
    ∙ ap (λ (o : Option Line). o ∷ lines_of (text_of ls)) (line_back l.line l.name fits w.0)
    ∙ ap (λ (os : List (Option Line)). Some l.line ∷ os) (lines_back ls h.1 w.1)

-- ---- the names of a report's lines are whole

well_append : (xs ys : List Named) → AreWell xs → AreWell ys → AreWell (xs ++ ys)
unfolding AreWell
well_append [] ys v w = w
well_append (x ∷ xs) ys v w = (v.0, well_append xs ys v.1 w)

steps_well : (steps : List Step) → AreWell (map step_line steps)
unfolding AreWell IsWell
steps_well [] = tt
steps_well (s ∷ steps) = (tt, steps_well steps)

path_well : (p : Placed) (steps : List Step) → AreWell (path_lines p steps)
unfolding AreWell
path_well homes.Stack steps = tt
path_well (homes.Known k) steps = tt
path_well (homes.Flow r) steps = steps_well steps

sites_well : (k : ℕ) (ns : List SiteName) (placed : List Placed) (paths : List (Option (Vec Step Global))) → AreNames ns → AreWell (site_lines k ns placed paths)
unfolding AreWell IsWell
sites_well k [] placed paths h = tt
sites_well k (n ∷ ns) placed paths h =
    (h n (0, omega arith, refl), well_append (path_lines (placed_at placed k) (path_at paths k)) (site_lines (suc k) ns placed paths) (path_well (placed_at placed k) (path_at paths k)) (sites_well (suc k) ns placed paths (λ m c. h m (suc c.0, omega arith, c.2))))

flows_well : (f j : ℕ) (fs : List TagFlow) → AreWell (map (tag_line f j) fs)
unfolding AreWell IsWell
flows_well f j [] = tt
flows_well f j (x ∷ fs) = (tt, flows_well f j fs)

param_well : (f j : ℕ) (o : Option SiteId) (tags : Option ParamTags) → AreWell (param_lines f j o tags)
unfolding AreWell
param_well f j None tags = tt
param_well f j (Some x) tags = flows_well f j (flows_in tags)

params_well : (f j : ℕ) (os : List (Option SiteId)) (tags : List ParamTags) → AreWell (params_lines f j os tags)
unfolding AreWell
params_well f j [] tags = tt
params_well f j (o ∷ os) tags = well_append (param_lines f j o (slice_get tags j)) (params_lines f (suc j) os tags) (param_well f j o (slice_get tags j)) (params_well f (suc j) os tags)

funcs_well : (f : ℕ) (gs : List Func) (tags : List (Vec ParamTags Global)) → AreWell (func_lines f gs tags)
unfolding AreWell
funcs_well f [] tags = tt
funcs_well f (g ∷ gs) tags = well_append (params_lines f 0 g.params.items (tags_in (slice_get tags f))) (func_lines (suc f) gs tags) (params_well f 0 g.params.items (tags_in (slice_get tags f))) (funcs_well (suc f) gs tags)

pub read_back : IsReadBack
read_back program names solved h =
    let sites = site_lines 0 names solved.placed.items solved.paths.items in
    let funcs = func_lines 0 program.funcs.items solved.tags.funcs.items in
    lines_back (report_lines program names solved) h.fits (well_append sites funcs (sites_well 0 names solved.placed.items solved.paths.items h.named) (funcs_well 0 program.funcs.items solved.tags.funcs.items))
