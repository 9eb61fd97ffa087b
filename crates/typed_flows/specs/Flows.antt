-- What flows in a typed program.
use Rattle.std.specs.Prelude.{ℕ, suc, Bool, true, false, if◌then◌else◌, List, [], ◌∷◌, ◌++◌, map, slice_get, Option, Some, None}
use Rattle.deref_walk.specs.declared.loc.Loc.{Loc}
use Rattle.deref_walk.specs.declared.loc.Loc.TheVariants as loc
use Rattle.value_flows.specs.declared.value.Target.{Target}
use Rattle.value_flows.specs.declared.program.Site.{Site}
use Rattle.value_flows.specs.declared.placed.Known.{Known}
use Rattle.value_flows.specs.declared.placed.Known.TheVariants as known
use Rattle.value_flows.specs.Syntax.{Val, variable, behind, Act, give, carry, Result}
use Rattle.value_flows.specs.Syntax as flow
use Rattle.typed.specs.declared.program.Site.{Site as TypedSite}
use Rattle.typed.specs.declared.program.SiteKind.{SiteKind}
use Rattle.typed.specs.declared.program.SiteKind.TheVariants as kind
use Rattle.typed.specs.declared.program.HeapReason.{HeapReason}
use Rattle.typed.specs.declared.program.HeapReason.TheVariants as reason
use Rattle.typed_syntax.specs.Types.{TypeTree}
use Rattle.typed_syntax.specs.Syntax.{Ex, Exs, Pl, Left, Piece, Over, St, Sts, Func, Program, none, local, blank, new, to, text, shown, over_int, over_length, over_copy, over_slice, over_pointer, over_pointed, declare, assign, update, bump, discard, block, if_stmt, for_stmt, range, break_stmt, continue_stmt, return_stmt, print, panic, exit, done, next, type_named, site_type}
use Rattle.typed_flows.specs.Pointers.{has_pointers}
use Rattle.typed_flows.specs.Values.{site, whole_to, to_site, to_heap, row, value, place_value, arguments}

-- ---- statements

-- values that go nowhere
abbrev pub evaluated : List Val → Act
evaluated vs = give (flow.each (row vs)) []

-- a value that goes to a target, if there is one
abbrev pub given : Val → Option Target → Act
given v t = give (flow.each (row (v ∷ []))) (t ∷ [])

-- where a value with pointers goes; one without goes nowhere
abbrev pub where_held : Bool → Option Target → Option Target
where_held true t = t
where_held false t = None

-- a variable holds what is stored in it or in a part of it; what is stored anywhere else is on the heap
abbrev pub place_target : Pl → Target
place_target (local site steps) = to_site site
place_target q = to_heap

abbrev pub left_target : Left → Option Target
left_target blank = None
left_target (new site) = Some (to_site site)
left_target (to q) = Some (place_target q)

-- the targets of the results of the function with number f, from the number j on: the sites of those with names
abbrev pub result_location : (f j : ℕ) → Option ℕ → Loc
result_location f j None = loc.Result (record { 0 = f }) j
result_location f j (Some x) = site x

abbrev pub result_targets : (f j : ℕ) → List Result → List (Option Target)
result_targets f j [] = []
result_targets f j (r ∷ rs) = Some (whole_to (result_location f j r.site)) ∷ result_targets f (suc j) rs

-- whether a return has values
abbrev pub gives : Exs → Bool
gives none = false
gives es = true

module _ (p : Program) where
  -- the operands of left sides
  abbrev pub left_values : Left → List Val
  left_values blank = []
  left_values (new site) = []
  left_values (to q) = place_value p q ∷ []

  abbrev pub lefts_values : List Left → List Val
  lefts_values [] = []
  lefts_values (l ∷ ls) = left_values l ++ lefts_values ls

  abbrev pub piece_values : Piece → List Val
  piece_values (text number) = []
  piece_values (shown t e) = value p e ∷ []

  abbrev pub pieces_values : List Piece → List Val
  pieces_values [] = []
  pieces_values (q ∷ qs) = piece_values q ++ pieces_values qs

  abbrev pub test_values : Option Ex → List Val
  test_values None = []
  test_values (Some e) = value p e ∷ []

  -- the variables of a `for` that are carried on to the next round
  abbrev pub carried : List ℕ → List Act
  carried [] = []
  carried (x ∷ xs) = (if has_pointers (site_type p x) then carry x ∷ [] else []) ++ carried xs

  -- what `range` goes over, whose elements go to the second left side
  abbrev pub over_acts : Over → Left → List Act
  over_acts (over_int e) l = evaluated (value p e ∷ []) ∷ []
  over_acts (over_length n) l = []
  over_acts (over_copy site e n) l = given (value p e) (Some (to_site site)) ∷ given (variable site) (where_held (has_pointers (site_type p site)) (left_target l)) ∷ []
  over_acts (over_slice e n) l = given (behind (value p e)) (where_held (has_pointers (type_named p n)) (left_target l)) ∷ []
  over_acts (over_pointer at e n t) l = given (behind (value p e)) (where_held (has_pointers (type_named p t)) (left_target l)) ∷ []
  over_acts (over_pointed n) l = []

  -- the header of a `for`, and that of a `range`
  abbrev pub for_head : List ℕ → Option Ex → List Act
  for_head sites test = carried sites ++ evaluated (test_values test) ∷ []

  abbrev pub range_head : Over → (key element : Left) → List Act
  range_head over key element = over_acts over element ++ evaluated (lefts_values (key ∷ element ∷ [])) ∷ []

  -- a return; one without values gives nothing, since results with names are there already
  abbrev pub return_acts : List (Option Target) → Exs → List Act
  return_acts returned es = if gives es then give (arguments p es) returned ∷ [] else []

  -- the statements of a function whose results go to these targets
  module _ (returned : List (Option Target)) where
    abbrev mutual
      pub acts : St → List Act
      acts (declare sites) = []
      acts (assign ls es) = evaluated (lefts_values ls) ∷ give (arguments p es) (map left_target ls) ∷ []
      acts (update at q op e) = evaluated (place_value p q ∷ value p e ∷ []) ∷ []
      acts (bump at q op) = evaluated (place_value p q ∷ []) ∷ []
      acts (discard es) = give (arguments p es) [] ∷ []
      acts (block ss) = all_acts ss
      acts (if_stmt e a b) = evaluated (value p e ∷ []) ∷ (all_acts a ++ all_acts b)
      acts (for_stmt sites test post body) = for_head sites test ++ (all_acts post ++ all_acts body)
      acts (range over key element body) = range_head over key element ++ all_acts body
      acts break_stmt = []
      acts continue_stmt = []
      acts (return_stmt es) = return_acts returned es
      acts (print ln ps) = evaluated (pieces_values ps) ∷ []
      acts (panic at q) = evaluated (piece_values q) ∷ []
      acts (exit at e) = evaluated (value p e ∷ []) ∷ []

      pub all_acts : Sts → List Act
      all_acts done = []
      all_acts (next s ss) = acts s ++ all_acts ss

-- ---- functions

-- results from the number j on, with the sites of those that have names
abbrev pub results_from : (j : ℕ) → List TypeTree → (named : List ℕ) → List Result
results_from j [] named = []
results_from j (t ∷ ts) named = record { site = slice_get named j; pointers = has_pointers t } ∷ results_from (suc j) ts named

abbrev pub results_of : Func → List Result
results_of g = results_from 0 g.results g.named

-- the function with number f of a program
abbrev pub func_flows : Program → ℕ → Func → flow.Func
func_flows p f g = record {
  first = g.first;
  count = g.count;
  params = g.params;
  results = results_of g;
  body = all_acts p (result_targets f 0 (results_of g)) g.body;
}

abbrev pub funcs_flows : Program → ℕ → List Func → List flow.Func
funcs_flows p f [] = []
funcs_flows p f (g ∷ gs) = func_flows p f g ∷ funcs_flows p (suc f) gs

-- ---- sites

abbrev pub is_result : SiteKind → Bool
is_result kind.Result = true
is_result k = false

abbrev pub known_by : Option HeapReason → Option Known
known_by None = None
known_by (Some reason.Package) = Some known.Package
known_by (Some reason.Size) = Some known.Size
known_by (Some reason.Unknown) = Some known.Unknown

abbrev pub site_flows : TypedSite → Site
site_flows s = record { func = s.func; depth = s.depth; result = is_result s.kind; carried = s.carried; known = known_by s.known }

-- a program, with what is known of its sites
abbrev pub flows_of : Program → List TypedSite → flow.Program
flows_of p sites = record { funcs = funcs_flows p 0 p.funcs; sites = map site_flows sites }
