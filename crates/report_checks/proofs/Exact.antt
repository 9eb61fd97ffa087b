-- Texts are read exactly.
use Rattle.std.proofs.Common.{◌≡◌, inl, inr, ℕ, zero, suc, ◌^◌, ◌<◌, Bool, false, List, [], ◌∷◌, ◌++◌, length, get_or, Option, Some, None, refl, sym, ap, subst, ◌∙◌, arith}
use Rattle.std.specs.Prelude.{◌==◌, codes, decimal, if◌then◌else◌}
use Rattle.std.specs.Fmt.{signed_decimal}
use Rattle.std.specs.Char.{is_ascii_digit}
use Rattle.std.specs.Str.{bytes_eq}
use Rattle.std.specs.List.{Contains}
use Rattle.std.proofs.lemmas.Bool.Decides.{nat_tests}
use Rattle.std.proofs.lemmas.Slice.Eq.{bytes_eq-Decides}
use Rattle.base.specs.declared.ids.SiteId.{SiteId}
use Rattle.base.specs.declared.ids.FuncId.{FuncId}
use Rattle.deref_walk.specs.declared.loc.Loc.{Loc}
use Rattle.deref_walk.specs.declared.loc.Loc.TheVariants as loc
use Rattle.value_flows.specs.declared.placed.Known.{Known}
use Rattle.value_flows.specs.declared.placed.Known.TheVariants.{Package, Size, Unknown}
use Rattle.value_flows.specs.declared.placed.Placed.{Placed}
use Rattle.value_flows.specs.declared.placed.Placed.TheVariants as homes
use Rattle.report_checks.specs.declared.line.TagFlow.{TagFlow}
use Rattle.report_checks.specs.declared.line.TagFlow.TheVariants as flows
use Rattle.report_checks.specs.declared.line.Line.{Line}
use Rattle.report_checks.specs.declared.line.SiteLine.{SiteLine}
use Rattle.report_checks.specs.declared.line.StepLine.{StepLine}
use Rattle.report_checks.specs.declared.line.TagLine.{TagLine}
use Rattle.report_checks.specs.declared.line.Line.TheVariants as lines
use Rattle.report_checks.specs.Cuts.{front_length, front, rest, after}
use Rattle.report_checks.specs.Reading.{read_number, read_signed, number_before, read_result, read_site_number, read_loc, loc_before, read_known, read_heap, read_placed, after_name, read_site, read_step, read_result_flow, read_flow, read_tag, read_text}
use Rattle.report_checks.specs.Texts.{loc_text, known_text, placed_text, flow_text, line_text, IsName, LocFits, PlacedFits, FlowFits, LineFits, IsTextOf, IsLineOf}
use Rattle.report_checks.proofs.Choices.{bound, tried, chosen, follow, some_same}
use Rattle.report_checks.proofs.Cutting.{after_is, Free, free_nil, free_cons, free_append, front_free, rest_free, rest_sound, length_free}
use Rattle.report_checks.proofs.Decimals.{number_sound, number_complete, signed_sound, signed_complete, number_free, signed_free}

-- ---- a number before a separator

part_sound : (s : ℕ) (t : List ℕ) (n : ℕ) (r : List ℕ) → number_before s t ≡ Some n → rest s t ≡ Some r → (t ≡ decimal n ++ s ∷ r) × (n < 2 ^ 32)
unfolding number_before
part_sound s t n r h k =
    let number = number_sound (front s t) n h in
    ((rest_sound s t r k).0 ∙ ap (λ (a : List ℕ). a ++ s ∷ r) number.0, number.1)

part_complete : (s n : ℕ) (r : List ℕ) → is_ascii_digit s ≡ false → n < 2 ^ 32 → number_before s (decimal n ++ s ∷ r) ≡ Some n
unfolding number_before
part_complete s n r h small = ap read_number (front_free s (decimal n) r (number_free s n h small)) ∙ number_complete n small

rest_complete : (s n : ℕ) (r : List ℕ) → is_ascii_digit s ≡ false → n < 2 ^ 32 → rest s (decimal n ++ s ∷ r) ≡ Some r
rest_complete s n r h small = rest_free s (decimal n) r (number_free s n h small)

-- ---- locations

site_number_sound : (t : List ℕ) (l : SiteId) → read_site_number t ≡ Some l → (t ≡ decimal l.0) × (l.0 < 2 ^ 32)
unfolding read_site_number
site_number_sound t l h =
    let b = bound (read_number t) (λ n. Some (record { 0 = n })) l h in
    let same : record { 0 = b.0 } ≡ l = cc in
    let number = number_sound t b.0 b.1 in
    subst (λ (k : SiteId). (t ≡ decimal k.0) × (k.0 < 2 ^ 32)) same number

site_number_complete : (l : SiteId) → l.0 < 2 ^ 32 → read_site_number (decimal l.0) ≡ Some l
unfolding read_site_number
site_number_complete l h = follow (read_number (decimal l.0)) (λ n. Some (record { 0 = n })) l.0 (Some l) (number_complete l.0 h) refl

result_sound : (t : List ℕ) (l : Loc) → read_result t ≡ Some l → (codes "f" ++ t ≡ loc_text l) × LocFits l
unfolding read_result
result_sound t l h =
    let f = bound (number_before 46 t) _ l h in
    let b = bound (rest 46 t) _ l f.2 in
    let d = bound (after (codes "r") b.0) _ l b.2 in
    let i = bound (read_number d.0) _ l d.2 in
    let head = part_sound 46 t f.0 b.0 f.1 b.1 in
    let tail = after_is (codes "r") b.0 d.0 d.1 in
    let number = number_sound d.0 i.0 i.1 in
    let same : loc.Result (record { 0 = f.0 }) i.0 ≡ l = cc in
    let text : codes "f" ++ t ≡ loc_text (loc.Result (record { 0 = f.0 }) i.0) = ap (λ (x : List ℕ). codes "f" ++ x) (head.0 ∙ ap (λ (x : List ℕ). decimal f.0 ++ 46 ∷ x) (tail ∙ ap (λ (x : List ℕ). 114 ∷ x) number.0)) in
    subst (λ (k : Loc). (codes "f" ++ t ≡ loc_text k) × LocFits k) same (text, (head.1, number.1))

pub loc_sound : (t : List ℕ) (l : Loc) → read_loc t ≡ Some l → (t ≡ loc_text l) × LocFits l
unfolding read_loc
loc_sound t l h = elim (chosen (bytes_eq t (codes "heap")) _ _ l h) [
  | inl heap ↦ (let same : loc.Heap ≡ l = cc in subst (λ (k : Loc). (t ≡ loc_text k) × LocFits k) same ((bytes_eq-Decides t (codes "heap")).0 heap.0, tt))
  | inr other ↦ elim (tried (after (codes "s") t) _ _ l other.1) [
    | inl site ↦ (let b = bound (read_site_number site.0) _ l site.2 in
        let n = site_number_sound site.0 b.0 b.1 in
        let same : loc.Site b.0 ≡ l = cc in
        subst (λ (k : Loc). (t ≡ loc_text k) × LocFits k) same (after_is (codes "s") t site.0 site.1 ∙ ap (λ (x : List ℕ). codes "s" ++ x) n.0, n.1))
    | inr no_site ↦ elim (tried (after (codes "c") t) _ _ l no_site.1) [
      | inl carry ↦ (let b = bound (read_site_number carry.0) _ l carry.2 in
          let n = site_number_sound carry.0 b.0 b.1 in
          let same : loc.Carry b.0 ≡ l = cc in
          subst (λ (k : Loc). (t ≡ loc_text k) × LocFits k) same (after_is (codes "c") t carry.0 carry.1 ∙ ap (λ (x : List ℕ). codes "c" ++ x) n.0, n.1))
      | inr no_carry ↦ (let b = bound (after (codes "f") t) read_result l no_carry.1 in
          let r = result_sound b.0 l b.2 in
          (after_is (codes "f") t b.0 b.1 ∙ r.0, r.1))
    ]
  ]
]

result_complete : (f : FuncId) (i : ℕ) → f.0 < 2 ^ 32 → i < 2 ^ 32 → read_result (decimal f.0 ++ (codes ".r" ++ decimal i)) ≡ Some (loc.Result f i)
unfolding read_result after
result_complete f i h k =
    let t = decimal f.0 ++ 46 ∷ 114 ∷ decimal i in
    follow (number_before 46 t) _ f.0 _ (part_complete 46 f.0 (114 ∷ decimal i) refl h)
    (follow (rest 46 t) _ (114 ∷ decimal i) _ (rest_complete 46 f.0 (114 ∷ decimal i) refl h)
    (follow (read_number (decimal i)) _ i _ (number_complete i k) refl))

pub loc_complete : (l : Loc) → LocFits l → read_loc (loc_text l) ≡ Some l
unfolding read_loc after
loc_complete (loc.Site l) h = follow (read_site_number (decimal l.0)) _ l _ (site_number_complete l h) refl
loc_complete (loc.Result f i) h = result_complete f i h.0 h.1
loc_complete loc.Heap h = refl
loc_complete (loc.Carry l) h = follow (read_site_number (decimal l.0)) _ l _ (site_number_complete l h) refl

-- ---- where a site is

known_sound : (t : List ℕ) (k : Known) → read_known t ≡ Some k → t ≡ known_text k
unfolding read_known
known_sound t k h = elim (chosen (bytes_eq t (codes "package")) _ _ k h) [
  | inl here ↦ (let same : Package ≡ k = cc in subst (λ (x : Known). t ≡ known_text x) same ((bytes_eq-Decides t (codes "package")).0 here.0))
  | inr h2 ↦ elim (chosen (bytes_eq t (codes "size")) _ _ k h2.1) [
    | inl here ↦ (let same : Size ≡ k = cc in subst (λ (x : Known). t ≡ known_text x) same ((bytes_eq-Decides t (codes "size")).0 here.0))
    | inr h3 ↦ elim (chosen (bytes_eq t (codes "unknown")) _ _ k h3.1) [
      | inl here ↦ (let same : Unknown ≡ k = cc in subst (λ (x : Known). t ≡ known_text x) same ((bytes_eq-Decides t (codes "unknown")).0 here.0))
      | inr h4 ↦ absurd (let e : None ≡ Some k = h4.1 in cc)
    ]
  ]
]

heap_sound : (t : List ℕ) (p : Placed) → read_heap t ≡ Some p → (codes "heap " ++ t ≡ placed_text p) × PlacedFits p
unfolding read_heap
heap_sound t p h = elim (tried (read_known t) _ _ p h) [
  | inl known ↦ (let same : homes.Known known.0 ≡ p = cc in
      subst (λ (x : Placed). (codes "heap " ++ t ≡ placed_text x) × PlacedFits x) same (ap (λ (x : List ℕ). codes "heap " ++ x) (known_sound t known.0 known.1), tt))
  | inr flow ↦ (let b = bound (after (codes "flow ") t) _ p flow.1 in
      let r = bound (read_loc b.0) _ p b.2 in
      let root = loc_sound b.0 r.0 r.1 in
      let same : homes.Flow r.0 ≡ p = cc in
      let text : t ≡ codes "flow " ++ loc_text r.0 = after_is (codes "flow ") t b.0 b.1 ∙ ap (λ (x : List ℕ). codes "flow " ++ x) root.0 in
      subst (λ (x : Placed). (codes "heap " ++ t ≡ placed_text x) × PlacedFits x) same (ap (λ (x : List ℕ). codes "heap " ++ x) text, root.1))
]

placed_sound : (t : List ℕ) (p : Placed) → read_placed t ≡ Some p → (t ≡ placed_text p) × PlacedFits p
unfolding read_placed
placed_sound t p h = elim (chosen (bytes_eq t (codes "stack")) _ _ p h) [
  | inl stack ↦ (let same : homes.Stack ≡ p = cc in subst (λ (x : Placed). (t ≡ placed_text x) × PlacedFits x) same ((bytes_eq-Decides t (codes "stack")).0 stack.0, tt))
  | inr heap ↦ (let b = bound (after (codes "heap ") t) read_heap p heap.1 in
      let r = heap_sound b.0 p b.2 in
      (after_is (codes "heap ") t b.0 b.1 ∙ r.0, r.1))
]

known_complete : (k : Known) → read_known (known_text k) ≡ Some k
unfolding read_known
known_complete Package = refl
known_complete Size = refl
known_complete Unknown = refl

placed_complete : (p : Placed) → PlacedFits p → read_placed (placed_text p) ≡ Some p
unfolding read_placed read_heap read_known after
placed_complete homes.Stack h = refl
placed_complete (homes.Known Package) h = refl
placed_complete (homes.Known Size) h = refl
placed_complete (homes.Known Unknown) h = refl
placed_complete (homes.Flow r) h = follow (read_loc (loc_text r)) _ r _ (loc_complete r h) refl

-- ---- names

pub free_of : (s : ℕ) (xs : List ℕ) → (Contains xs s → ⊥) → Free s xs
free_of s [] h = free_nil
free_of s (x ∷ xs) h = free_cons (λ e. h (0, omega arith, e)) (free_of s xs (λ c. h (suc c.0, omega arith, c.2)))

not_in : (s : ℕ) (xs : List ℕ) → Free s xs → (k : ℕ) → k < length xs → get_or xs k s ≡ s → ⊥
not_in s _ free_nil k within h = absurd (omega arith)
not_in s _ (free_cons other f) zero within h = other h
not_in s _ (free_cons {x = x} {xs = xs} other f) (suc k) within h = not_in s xs f k (omega arith) h

not_zero : (a b : ℕ) → a ≡ b → (a == 0) ≡ false → 0 < b
not_zero a b e h = grind (arith, nat_tests)

is_some : (a b : ℕ) → a ≡ b → 0 < b → (a == 0) ≡ false
is_some a b e h = grind (arith, nat_tests)

name_sound : (t r : List ℕ) → after_name t ≡ Some r → (name : List ℕ) × IsName name × (t ≡ name ++ 32 ∷ r)
unfolding after_name
name_sound t r h = elim (chosen (front_length 32 t == 0) None (rest 32 t) r h) [
  | inl empty ↦ absurd (let e : None ≡ Some r = empty.1 in cc)
  | inr some ↦ (let cut = rest_sound 32 t r some.1 in
      let length_is : front_length 32 t ≡ length (front 32 t) = ap (front_length 32) cut.0 ∙ length_free 32 (front 32 t) r cut.1 in
      (front 32 t, record { some = not_zero (front_length 32 t) (length (front 32 t)) length_is some.0; whole = λ c. not_in 32 (front 32 t) cut.1 c.0 c.1 c.2 }, cut.0))
]

name_complete : (name r : List ℕ) → IsName name → after_name (name ++ 32 ∷ r) ≡ Some r
unfolding after_name
name_complete name r h =
    let f = free_of 32 name h.whole in
    let n : front_length 32 (name ++ 32 ∷ r) ≡ length name = length_free 32 name r f in
    ap (λ (b : Bool). if b then None else rest 32 (name ++ 32 ∷ r)) (is_some (front_length 32 (name ++ 32 ∷ r)) (length name) n h.some) ∙ rest_free 32 name r f

-- ---- lines

site_sound : (t : List ℕ) (l : Line) → read_site t ≡ Some l → IsTextOf l (codes "site " ++ t)
unfolding read_site
site_sound t l h =
    let site = bound (number_before 32 t) _ l h in
    let place = bound (rest 32 t) _ l site.2 in
    let line = bound (number_before 58 place.0) _ l place.2 in
    let column = bound (rest 58 place.0) _ l line.2 in
    let col = bound (number_before 32 column.0) _ l column.2 in
    let name = bound (rest 32 column.0) _ l col.2 in
    let end = bound (after_name name.0) _ l name.2 in
    let placed = bound (read_placed end.0) _ l end.2 in
    let a = part_sound 32 t site.0 place.0 site.1 place.1 in
    let b = part_sound 58 place.0 line.0 column.0 line.1 column.1 in
    let c = part_sound 32 column.0 col.0 name.0 col.1 name.1 in
    let d = name_sound name.0 end.0 end.1 in
    let e = placed_sound end.0 placed.0 placed.1 in
    let this : Line = lines.Site (record { site = record { 0 = site.0 }; line = line.0; col = col.0; placed = placed.0 }) in
    let same : this ≡ l = some_same this l placed.2 in
    let text : codes "site " ++ t ≡ line_text this d.0 =
    ap (λ (x : List ℕ). codes "site " ++ x) (a.0 ∙ ap (λ (x : List ℕ). decimal site.0 ++ 32 ∷ x)
    (b.0 ∙ ap (λ (x : List ℕ). decimal line.0 ++ 58 ∷ x)
    (c.0 ∙ ap (λ (x : List ℕ). decimal col.0 ++ 32 ∷ x)
    (d.2 ∙ ap (λ (x : List ℕ). d.0 ++ 32 ∷ x) e.0)))) in
    subst (λ (k : Line). IsTextOf k (codes "site " ++ t)) same (record { fits = (a.1, b.1, c.1, e.1); name = d.0; named = d.1; is = text })

site_complete : (s : SiteLine) (name : List ℕ) → LineFits (lines.Site s) → IsName name → read_text (line_text (lines.Site s) name) ≡ Some (lines.Site s)
unfolding read_text read_site after
site_complete s name h n =
    let end = placed_text s.placed in
    let named = name ++ 32 ∷ end in
    let column = decimal s.col ++ 32 ∷ named in
    let place = decimal s.line ++ 58 ∷ column in
    let t = decimal s.site.0 ++ 32 ∷ place in
    follow (number_before 32 t) _ s.site.0 _ (part_complete 32 s.site.0 place refl h.0)
    (follow (rest 32 t) _ place _ (rest_complete 32 s.site.0 place refl h.0)
    (follow (number_before 58 place) _ s.line _ (part_complete 58 s.line column refl h.1)
    (follow (rest 58 place) _ column _ (rest_complete 58 s.line column refl h.1)
    (follow (number_before 32 column) _ s.col _ (part_complete 32 s.col named refl h.2)
    (follow (rest 32 column) _ named _ (rest_complete 32 s.col named refl h.2)
    (follow (after_name named) _ end _ (name_complete name end n)
    (follow (read_placed end) _ s.placed _ (placed_complete s.placed h.3) refl)))))))

other_than : (n : ℕ) → (n == 32) ≡ false → n ≡ 32 → ⊥
other_than n h e = absurd (let k : (32 == 32) ≡ false = subst (λ (x : ℕ). (x == 32) ≡ false) e h in cc)

any_name : IsName (48 ∷ [])
any_name = record { some = omega arith; whole = λ c. not_in 32 (48 ∷ []) (free_cons (λ e. other_than 48 refl e) free_nil) c.0 c.1 c.2 }

loc_part_sound : (t : List ℕ) (l : Loc) (r : List ℕ) → loc_before 32 t ≡ Some l → rest 32 t ≡ Some r → (t ≡ loc_text l ++ 32 ∷ r) × LocFits l
unfolding loc_before
loc_part_sound t l r h k =
    let at = loc_sound (front 32 t) l h in
    ((rest_sound 32 t r k).0 ∙ ap (λ (a : List ℕ). a ++ 32 ∷ r) at.0, at.1)

loc_free : (l : Loc) → LocFits l → Free 32 (loc_text l)
loc_free (loc.Site l) h = free_cons (λ e. other_than 115 refl e) (number_free 32 l.0 refl h)
loc_free (loc.Result f i) h = free_cons (λ e. other_than 102 refl e) (free_append 32 (decimal f.0) (codes ".r" ++ decimal i) (number_free 32 f.0 refl h.0) (free_cons (λ e. other_than 46 refl e) (free_cons (λ e. other_than 114 refl e) (number_free 32 i refl h.1))))
loc_free loc.Heap h = free_cons (λ e. other_than 104 refl e) (free_cons (λ e. other_than 101 refl e) (free_cons (λ e. other_than 97 refl e) (free_cons (λ e. other_than 112 refl e) free_nil)))
loc_free (loc.Carry l) h = free_cons (λ e. other_than 99 refl e) (number_free 32 l.0 refl h)

loc_part_complete : (l : Loc) (r : List ℕ) → LocFits l → loc_before 32 (loc_text l ++ 32 ∷ r) ≡ Some l
unfolding loc_before
loc_part_complete l r h = ap read_loc (front_free 32 (loc_text l) r (loc_free l h)) ∙ loc_complete l h

step_sound : (t : List ℕ) (l : Line) → read_step t ≡ Some l → IsTextOf l (codes "step " ++ t)
unfolding read_step
step_sound t l h =
    let to = bound (loc_before 32 t) _ l h in
    let behind_to = bound (rest 32 t) _ l to.2 in
    let from = bound (loc_before 32 behind_to.0) _ l behind_to.2 in
    let behind_from = bound (rest 32 behind_to.0) _ l from.2 in
    let weight = bound (read_signed (front 32 behind_from.0)) _ l behind_from.2 in
    let behind_weight = bound (rest 32 behind_from.0) _ l weight.2 in
    let sum = bound (read_signed behind_weight.0) _ l behind_weight.2 in
    let a = loc_part_sound t to.0 behind_to.0 to.1 behind_to.1 in
    let b = loc_part_sound behind_to.0 from.0 behind_from.0 from.1 behind_from.1 in
    let c = signed_sound (front 32 behind_from.0) weight.0 weight.1 in
    let cut = rest_sound 32 behind_from.0 behind_weight.0 behind_weight.1 in
    let d = signed_sound behind_weight.0 sum.0 sum.1 in
    let this : Line = lines.Step (record { to = to.0; from = from.0; weight = weight.0; sum = sum.0 }) in
    let same : this ≡ l = some_same this l sum.2 in
    let name : List ℕ = 48 ∷ [] in
    let text : codes "step " ++ t ≡ line_text this name =
    ap (λ (x : List ℕ). codes "step " ++ x) (a.0 ∙ ap (λ (x : List ℕ). loc_text to.0 ++ 32 ∷ x)
    (b.0 ∙ ap (λ (x : List ℕ). loc_text from.0 ++ 32 ∷ x)
    (cut.0 ∙ ap (λ (x : List ℕ). x ++ 32 ∷ behind_weight.0) c.0 ∙ ap (λ (x : List ℕ). signed_decimal weight.0 ++ 32 ∷ x) d.0))) in
    subst (λ (k : Line). IsTextOf k (codes "step " ++ t)) same (record { fits = (a.1, b.1, c.1, d.1); name = name; named = any_name; is = text })

step_complete : (s : StepLine) (name : List ℕ) → LineFits (lines.Step s) → read_text (line_text (lines.Step s) name) ≡ Some (lines.Step s)
unfolding read_text read_step after
step_complete s name h =
    let end = signed_decimal s.sum in
    let behind_from = signed_decimal s.weight ++ 32 ∷ end in
    let behind_to = loc_text s.from ++ 32 ∷ behind_from in
    let t = loc_text s.to ++ 32 ∷ behind_to in
    follow (loc_before 32 t) _ s.to _ (loc_part_complete s.to behind_to h.0)
    (follow (rest 32 t) _ behind_to _ (rest_free 32 (loc_text s.to) behind_to (loc_free s.to h.0))
    (follow (loc_before 32 behind_to) _ s.from _ (loc_part_complete s.from behind_from h.1)
    (follow (rest 32 behind_to) _ behind_from _ (rest_free 32 (loc_text s.from) behind_from (loc_free s.from h.1))
    (follow (read_signed (front 32 behind_from)) _ s.weight _ (ap read_signed (front_free 32 (signed_decimal s.weight) end (signed_free s.weight h.2)) ∙ signed_complete s.weight h.2)
    (follow (rest 32 behind_from) _ end _ (rest_free 32 (signed_decimal s.weight) end (signed_free s.weight h.2))
    (follow (read_signed end) _ s.sum _ (signed_complete s.sum h.3) refl))))))

flow_sound : (t : List ℕ) (f : TagFlow) → read_flow t ≡ Some f → (t ≡ flow_text f) × FlowFits f
unfolding read_flow read_result_flow
flow_sound t f h = elim (chosen (bytes_eq t (codes "none")) _ _ f h) [
  | inl none ↦ (let same : flows.Nowhere ≡ f = some_same _ f none.1 in subst (λ (x : TagFlow). (t ≡ flow_text x) × FlowFits x) same ((bytes_eq-Decides t (codes "none")).0 none.0, tt))
  | inr other ↦ elim (tried (after (codes "heap ") t) _ _ f other.1) [
    | inl heap ↦ (let n = bound (read_number heap.0) _ f heap.2 in
        let number = number_sound heap.0 n.0 n.1 in
        let same : flows.Heap n.0 ≡ f = some_same _ f n.2 in
        subst (λ (x : TagFlow). (t ≡ flow_text x) × FlowFits x) same (after_is (codes "heap ") t heap.0 heap.1 ∙ ap (λ (x : List ℕ). codes "heap " ++ x) number.0, number.1))
    | inr result ↦ (let b = bound (after (codes "result ") t) _ f result.1 in
        let j = bound (number_before 32 b.0) _ f b.2 in
        let r = bound (rest 32 b.0) _ f j.2 in
        let n = bound (read_number r.0) _ f r.2 in
        let head = part_sound 32 b.0 j.0 r.0 j.1 r.1 in
        let number = number_sound r.0 n.0 n.1 in
        let same : flows.Result j.0 n.0 ≡ f = some_same _ f n.2 in
        let text : t ≡ flow_text (flows.Result j.0 n.0) = after_is (codes "result ") t b.0 b.1 ∙ ap (λ (x : List ℕ). codes "result " ++ x) (head.0 ∙ ap (λ (x : List ℕ). decimal j.0 ++ 32 ∷ x) number.0) in
        subst (λ (x : TagFlow). (t ≡ flow_text x) × FlowFits x) same (text, (head.1, number.1)))
  ]
]

flow_complete : (f : TagFlow) → FlowFits f → read_flow (flow_text f) ≡ Some f
unfolding read_flow read_result_flow after
flow_complete (flows.Heap n) h = follow (read_number (decimal n)) _ n _ (number_complete n h) refl
flow_complete (flows.Result j n) h =
    let t = decimal j ++ 32 ∷ decimal n in
    follow (number_before 32 t) _ j _ (part_complete 32 j (decimal n) refl h.0)
    (follow (rest 32 t) _ (decimal n) _ (rest_complete 32 j (decimal n) refl h.0)
    (follow (read_number (decimal n)) _ n _ (number_complete n h.1) refl))
flow_complete flows.Nowhere h = refl

tag_sound : (t : List ℕ) (l : Line) → read_tag t ≡ Some l → IsTextOf l (codes "tag " ++ t)
unfolding read_tag
tag_sound t l h =
    let func = bound (number_before 32 t) _ l h in
    let behind_func = bound (rest 32 t) _ l func.2 in
    let param = bound (number_before 32 behind_func.0) _ l behind_func.2 in
    let behind_param = bound (rest 32 behind_func.0) _ l param.2 in
    let flow = bound (read_flow behind_param.0) _ l behind_param.2 in
    let a = part_sound 32 t func.0 behind_func.0 func.1 behind_func.1 in
    let b = part_sound 32 behind_func.0 param.0 behind_param.0 param.1 behind_param.1 in
    let c = flow_sound behind_param.0 flow.0 flow.1 in
    let this : Line = lines.Tag (record { func = record { 0 = func.0 }; param = param.0; flow = flow.0 }) in
    let same : this ≡ l = some_same this l flow.2 in
    let name : List ℕ = 48 ∷ [] in
    let text : codes "tag " ++ t ≡ line_text this name =
    ap (λ (x : List ℕ). codes "tag " ++ x) (a.0 ∙ ap (λ (x : List ℕ). decimal func.0 ++ 32 ∷ x) (b.0 ∙ ap (λ (x : List ℕ). decimal param.0 ++ 32 ∷ x) c.0)) in
    subst (λ (k : Line). IsTextOf k (codes "tag " ++ t)) same (record { fits = (a.1, b.1, c.1); name = name; named = any_name; is = text })

tag_complete : (s : TagLine) (name : List ℕ) → LineFits (lines.Tag s) → read_text (line_text (lines.Tag s) name) ≡ Some (lines.Tag s)
unfolding read_text read_tag after
tag_complete s name h =
    let end = flow_text s.flow in
    let behind_func = decimal s.param ++ 32 ∷ end in
    let t = decimal s.func.0 ++ 32 ∷ behind_func in
    follow (number_before 32 t) _ s.func.0 _ (part_complete 32 s.func.0 behind_func refl h.0)
    (follow (rest 32 t) _ behind_func _ (rest_complete 32 s.func.0 behind_func refl h.0)
    (follow (number_before 32 behind_func) _ s.param _ (part_complete 32 s.param end refl h.1)
    (follow (rest 32 behind_func) _ end _ (rest_complete 32 s.param end refl h.1)
    (follow (read_flow end) _ s.flow _ (flow_complete s.flow h.2) refl))))

text_sound : (t : List ℕ) (l : Line) → read_text t ≡ Some l → IsTextOf l t
unfolding read_text
text_sound t l h = elim (tried (after (codes "site ") t) _ _ l h) [
  | inl site ↦ subst (IsTextOf l) (sym (after_is (codes "site ") t site.0 site.1)) (site_sound site.0 l site.2)
  | inr other ↦ elim (tried (after (codes "step ") t) _ _ l other.1) [
    | inl step ↦ subst (IsTextOf l) (sym (after_is (codes "step ") t step.0 step.1)) (step_sound step.0 l step.2)
    | inr last ↦ (let b = bound (after (codes "tag ") t) read_tag l last.1 in
        subst (IsTextOf l) (sym (after_is (codes "tag ") t b.0 b.1)) (tag_sound b.0 l b.2))
  ]
]

pub line_complete : (l : Line) (name : List ℕ) → LineFits l → IsName name → read_text (line_text l name) ≡ Some l
line_complete (lines.Site s) name h n = site_complete s name h n
line_complete (lines.Step s) name h n = step_complete s name h
line_complete (lines.Tag s) name h n = tag_complete s name h

read_is : (t : List ℕ) (o : Option Line) → read_text t ≡ o → IsLineOf t o
read_is t None h = λ l is. absurd (let e : read_text t ≡ Some l = ap read_text is.is ∙ line_complete l is.name is.fits is.named in cc)
read_is t (Some l) h = text_sound t l h

-- a text is read as the line that it is one's, and as none where it is no line's
pub exact : (t : List ℕ) → IsLineOf t (read_text t)
exact t = read_is t (read_text t) refl
