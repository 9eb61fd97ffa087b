-- The code of a program, put together function by function.
use Rattle.std.proofs.Common.{◌≡◌, ℕ, zero, suc, ◌+◌, ◌-◌, ◌<◌, ◌≤◌, List, [], ◌∷◌, ◌++◌, length, get_or, drop, map, replicate, Some, refl, sym, ap, ◌∙◌, subst, arith, length-append, append_assoc}
use Rattle.std.specs.Prelude.{Option, None, slice_get, slice_index_or}
use Rattle.std.specs.Option.{option_map, unwrap_or}
use Rattle.std.proofs.Math.Seq.{drop-cons}
use Rattle.std.proofs.lemmas.List.{append-nil}
use Rattle.std.proofs.lemmas.Option.{slice_get_read, slice_get-map, slice_get_within, get_or_from_slice_get}
use Rattle.isa.specs.Code.{Tables}
use Rattle.isa.specs.declared.func.Func.{Func as Entry}
use Rattle.isa.specs.declared.instr.Instr.{Instr}
use Rattle.typed.specs.declared.program.Func.{Func as FuncData}
use Rattle.typed.specs.declared.program.Program.{Program as ProgramData}
use Rattle.typed.specs.Trees.{tree_named, tree_of, trees}
use Rattle.typed_syntax.specs.Types.{TypeTree, ints, width}
use Rattle.base.specs.declared.value_type.ValueType.{ValueType}
use Rattle.typed.specs.Tables.{Table, Holds}
use Rattle.typed.specs.Formed.{IsFormed}
use Rattle.typed_syntax.specs.Syntax.{Func, Program, argument_words, result_words, each_width}
use Rattle.typed.specs.View.{func_of, program_of}
use Rattle.typed_syntax.specs.Form.{IsInForm}
use Rattle.frame_layout.specs.declared.layout.FrameLayout.{FrameLayout}
use Rattle.frame_layout.specs.Layout.{layout_in, layouts}
use Rattle.frames.specs.Placement.{Placement}
use Rattle.frames.specs.Frames.{outgoing_of, temps_of, frame_of}
use Rattle.expression_code.specs.Frame.{func_in, globals_in, made_in, sites_in, types_in}
use Rattle.expression_code.proofs.PackageVariables.{globals_are}
use Rattle.codegen.specs.Temps.{FuncFitsIn}
use Rattle.program_code.specs.Code.{Slots, slots_of, params_code, zeros_code, sts_code, leave_code, entry_size, func_code, func_size, entry_of, funcs_code, funcs_owners, funcs_entries, code_of}
use Rattle.program_code.proofs.Sizes.{length_entry, length_func}
use Rattle.codegen.proofs.IsCode.{AreSolid, all_fit}

-- the types of a table have words
some_among : (ts : List ValueType) (f : ValueType → TypeTree) (i : ℕ) → ((t : ValueType) → slice_get ts i ≡ Some t → 0 < width (f t)) → 0 < width (get_or (map f ts) i ints)
some_among [] f i s = omega arith
some_among (t ∷ ts) f zero s = s t refl
some_among (t ∷ ts) f (suc i) s = some_among ts f i s

pub solid_types : (T : Table) → IsFormed T → (i : ℕ) → 0 < width (tree_named T i)
solid_types T formed i = some_among T.types (λ t. unwrap_or (tree_of T t) ints) i (λ t holds. by t holds (tree_of T t) refl)
  where
    by : (t : ValueType) → Holds T i t → (o : Option TypeTree) → tree_of T t ≡ o → 0 < width (unwrap_or o ints)
    by t holds None is = omega arith
    by t holds (Some x) is = (formed.types i t (width x) holds (ap (option_map width) is)).0

-- a function's parts, one after the other
pub func_emitted : (p : Program) (pl : Placement) (f : Func) (s : Slots) (old c1 c2 c3 c4 : List Instr) → s ≡ slots_of p pl f → c1 ≡ old ++ params_code s (each_width f.param_types) f.params 0 → c2 ≡ c1 ++ zeros_code s f.named
    → c3 ≡ c2 ++ sts_code p (argument_words f) f.named s f.body 0 0 0 (length c2) → c4 ≡ c3 ++ leave_code s (argument_words f) f.named → c4 ≡ old ++ func_code p pl f (length old)
func_emitted p pl f s old c1 c2 c3 c4 same e1 e2 e3 e4 =
    let m = argument_words f in
    let params = params_code s (each_width f.param_types) f.params 0 in let zeros = zeros_code s f.named in let leave = leave_code s m f.named in
    let here = length old + entry_size p pl f in
    let body = sts_code p m f.named s f.body 0 0 0 here in
    let f2 : c2 ≡ old ++ (params ++ zeros) = e2 ∙ ap (λ c. c ++ zeros) e1 ∙ append_assoc old params zeros in
    let entry : length (params ++ zeros) ≡ entry_size p pl f = ap (λ (x : Slots). length (params_code x (each_width f.param_types) f.params 0 ++ zeros_code x f.named)) same ∙ length_entry p pl f in
    let n : length c2 ≡ here = ap length f2 ∙ omega (arith, length-append old (params ++ zeros), entry) in
    let f3 : c3 ≡ c2 ++ body = e3 ∙ ap (λ place. c2 ++ sts_code p m f.named s f.body 0 0 0 place) n in
    let all : c4 ≡ old ++ ((params ++ zeros) ++ (body ++ leave)) =
    e4 ∙ ap (λ c. c ++ leave) (f3 ∙ ap (λ c. c ++ body) f2)
    ∙ append_assoc (old ++ (params ++ zeros)) body leave
    ∙ append_assoc old (params ++ zeros) (body ++ leave) in
    all ∙ ap (λ (x : Slots). old ++ ((params_code x (each_width f.param_types) f.params 0 ++ zeros_code x f.named) ++ (sts_code p m f.named x f.body 0 0 0 here ++ leave_code x m f.named))) same

-- the slots of a frame that is laid out for a function
pub slots_are : (p : ProgramData) (pl : Placement) (f : FuncData) (layout : FrameLayout) (s : Slots) → layout ≡ layout_in (program_of p) pl (func_in p f)
    → s ≡ record { outgoing = layout.outgoing; temps = layout.temps; first = f.first_site; count = f.sites; placement = pl; types = types_in p; sites = sites_in p; made = made_in p; globals = globals_in p } → s ≡ slots_of (program_of p) pl (func_in p f)
slots_are p pl f layout s laid is =
    is ∙ ap (λ (l : FrameLayout). let r : Slots = record { outgoing = l.outgoing; temps = l.temps; first = f.first_site; count = f.sites; placement = pl; types = types_in p; sites = sites_in p; made = made_in p; globals = globals_in p } in r) laid
    ∙ ap (λ (gs : List ℕ). let r : Slots = record { outgoing = outgoing_of (program_of p) (func_in p f); temps = temps_of (program_of p) pl (func_in p f); first = f.first_site; count = f.sites; placement = pl; types = types_in p; sites = sites_in p; made = made_in p; globals = gs } in r) (globals_are p)

-- the entry of a function, by its parts
pub entry_is : (p : Program) (pl : Placement) (f : Func) (frame arguments results start size at : ℕ) → frame ≡ frame_of p pl f → arguments ≡ argument_words f → results ≡ result_words f → start ≡ at → size ≡ func_size p pl f
    → (let e : Entry = record { frame = frame; arguments = arguments; results = results; start = start; size = size } in e) ≡ entry_of p pl f at
entry_is p pl f frame arguments results start size at a b c d e =
    ap (λ k. let r : Entry = record { frame = k; arguments = arguments; results = results; start = start; size = size } in r) a
    ∙ ap (λ k. let r : Entry = record { frame = frame_of p pl f; arguments = k; results = results; start = start; size = size } in r) b
    ∙ ap (λ k. let r : Entry = record { frame = frame_of p pl f; arguments = argument_words f; results = k; start = start; size = size } in r) c
    ∙ ap (λ k. let r : Entry = record { frame = frame_of p pl f; arguments = argument_words f; results = result_words f; start = k; size = size } in r) d
    ∙ ap (λ k. let r : Entry = record { frame = frame_of p pl f; arguments = argument_words f; results = result_words f; start = at; size = k } in r) e

split : (types : List TypeTree) (gs : List FuncData) (i : ℕ) (g : FuncData) → i < length gs → g ≡ get_or gs i g → map (func_of types) (drop i gs) ≡ func_of types g ∷ map (func_of types) (drop (i + 1) gs)
split types gs i g l is =
    let one : suc i ≡ i + 1 = omega arith in
    ap (map (func_of types)) (drop-cons gs i g l) ∙ ap (λ (y : FuncData). func_of types y ∷ map (func_of types) (drop (suc i) gs)) (sym is) ∙ ap (λ j. func_of types g ∷ map (func_of types) (drop j gs)) one

module _ (p : Program) (pl : Placement) (types : List TypeTree) (gs : List FuncData) (i : ℕ) (g : FuncData) (l : i < length gs) (is : g ≡ get_or gs i g) where
  abbrev now : List Func
  now = map (func_of types) (drop i gs)

  abbrev rest : List Func
  rest = map (func_of types) (drop (i + 1) gs)

  pub longer : (code more : List Instr) → more ≡ code ++ func_code p pl (func_of types g) (length code) → length code + func_size p pl (func_of types g) ≡ length more
  longer code more e = omega (arith, length-append code (func_code p pl (func_of types g) (length code)), length_func p pl (func_of types g) (length code), ap length e)

  pub code_next : (whole code more : List Instr) → whole ≡ code ++ funcs_code p pl now (length code) → more ≡ code ++ func_code p pl (func_of types g) (length code) → whole ≡ more ++ funcs_code p pl rest (length more)
  code_next whole code more e1 e2 =
      let c = func_code p pl (func_of types g) (length code) in
      e1 ∙ ap (λ y. code ++ funcs_code p pl y (length code)) (split types gs i g l is)
      ∙ sym (append_assoc code c (funcs_code p pl rest (length code + func_size p pl (func_of types g))))
      ∙ ap (λ place. (code ++ c) ++ funcs_code p pl rest place) (longer code more e2)
      ∙ ap (λ x. x ++ funcs_code p pl rest (length more)) (sym e2)

  pub owners_next : (whole code more : List ℕ) (number after : ℕ) → whole ≡ code ++ funcs_owners p pl now number → more ≡ code ++ replicate (func_size p pl (func_of types g)) number → after ≡ number + 1 → whole ≡ more ++ funcs_owners p pl rest after
  owners_next whole code more number after e1 e2 e3 =
      let c : List ℕ = replicate (func_size p pl (func_of types g)) number in
      e1 ∙ ap (λ y. code ++ funcs_owners p pl y number) (split types gs i g l is)
      ∙ sym (append_assoc code c (funcs_owners p pl rest (number + 1)))
      ∙ ap (λ place. (code ++ c) ++ funcs_owners p pl rest place) (sym e3)
      ∙ ap (λ x. x ++ funcs_owners p pl rest after) (sym e2)

  pub entries_next : (whole code more : List Entry) (pc after : ℕ) → whole ≡ code ++ funcs_entries p pl now pc → more ≡ code ++ entry_of p pl (func_of types g) pc ∷ [] → pc + func_size p pl (func_of types g) ≡ after → whole ≡ more ++ funcs_entries p pl rest after
  entries_next whole code more pc after e1 e2 e3 =
      let c : List Entry = entry_of p pl (func_of types g) pc ∷ [] in
      e1 ∙ ap (λ y. code ++ funcs_entries p pl y pc) (split types gs i g l is)
      ∙ sym (append_assoc code c (funcs_entries p pl rest (pc + func_size p pl (func_of types g))))
      ∙ ap (λ place. (code ++ c) ++ funcs_entries p pl rest place) e3
      ∙ ap (λ x. x ++ funcs_entries p pl rest after) (sym e2)

-- a function by its number
pub there : (types : List TypeTree) (gs : List FuncData) (i : ℕ) (g : FuncData) → i < length gs → g ≡ get_or gs i g → slice_get (map (func_of types) gs) i ≡ Some (func_of types g)
there types gs i g l is = slice_get-map (func_of types) gs i ∙ ap (option_map (func_of types)) (slice_get_read gs (length gs) i g refl l is)

module _ (p : ProgramData) (pl : Placement) (gs : List FuncData) (same : gs ≡ p.funcs.items) (i : ℕ) (g : FuncData) (l : i < length gs) (is : g ≡ get_or gs i g) where
  pub fits : IsInForm (program_of p) → AreSolid (program_of p) → FuncFitsIn (program_of p) pl (func_in p g)
  fits form solid = all_fit (program_of p) pl form solid i (func_in p g) (subst (λ hs. slice_get (map (func_in p) hs) i ≡ Some (func_in p g)) same (there (trees p.types) gs i g l is))

  pub layout_at : (frames : List FrameLayout) (number : ℕ) (d : FrameLayout) → frames ≡ layouts (program_of p) pl → number ≡ i → slice_index_or frames number d ≡ layout_in (program_of p) pl (func_in p g)
  layout_at frames number d laid n =
      let lay = layout_in (program_of p) pl in let fs = map (func_in p) gs in
      let all : frames ≡ map lay fs = laid ∙ ap (λ hs. map (layout_in (program_of p) pl) (map (func_in p) hs)) (sym same) in
      get_or_from_slice_get frames number (lay (func_in p g)) d
      (ap (slice_get frames) n ∙ ap (λ (x : List FrameLayout). slice_get x i) all ∙ slice_get-map lay fs i ∙ ap (option_map lay) (there (trees p.types) gs i g l is))

pub length_entries : (p : Program) (pl : Placement) (gs : List Func) (pc : ℕ) → length (funcs_entries p pl gs pc) ≡ length gs
length_entries p pl [] pc = refl
length_entries p pl (g ∷ gs) pc = ap suc (length_entries p pl gs (pc + func_size p pl g))

pub main_there : (p : Program) (pl : Placement) → IsInForm p → p.main < length (code_of p pl).funcs
main_there p pl form =
    let l : p.main < length p.funcs = slice_get_within p.funcs p.main form.main.0 form.main.1 in
    omega (arith, l, length_entries p pl p.funcs 0)

-- one place less belongs to the function
pub own_next : (whole owners more : List ℕ) (left number : ℕ) → 0 < left → whole ≡ owners ++ replicate left number → more ≡ owners ++ number ∷ [] → whole ≡ more ++ replicate (left - 1) number
own_next whole owners more zero number l e1 e2 = absurd (omega (arith, l))
own_next whole owners more (suc left) number l e1 e2 =
    let n : left ≡ suc left - 1 = omega arith in
    e1 ∙ sym (append_assoc owners (number ∷ []) (replicate left number)) ∙ ap (λ k. (owners ++ number ∷ []) ++ replicate k number) n ∙ ap (λ x. x ++ replicate (suc left - 1) number) (sym e2)

-- tables by their parts
tables_are : (p : Program) (pl : Placement) (instrs : List Instr) (owners : List ℕ) (funcs : List Entry) (strings : List (List ℕ)) → instrs ≡ funcs_code p pl p.funcs 0 → owners ≡ funcs_owners p pl p.funcs 0 → funcs ≡ funcs_entries p pl p.funcs 0 → strings ≡ p.strings
    → (let r : Tables = record { instrs = instrs; owners = owners; funcs = funcs; strings = strings } in r) ≡ code_of p pl
tables_are p pl instrs owners funcs strings a b c d =
    ap (λ (t : List (List ℕ)). let r : Tables = record { instrs = instrs; owners = owners; funcs = funcs; strings = t } in r) d
    ∙ ap (λ (f : List Entry). let r : Tables = record { instrs = instrs; owners = owners; funcs = f; strings = p.strings } in r) c
    ∙ ap (λ (o : List ℕ). let r : Tables = record { instrs = instrs; owners = o; funcs = funcs_entries p pl p.funcs 0; strings = p.strings } in r) b
    ∙ ap (λ (i : List Instr). let r : Tables = record { instrs = i; owners = funcs_owners p pl p.funcs 0; funcs = funcs_entries p pl p.funcs 0; strings = p.strings } in r) a

past : (gs : List FuncData) (i : ℕ) → length gs ≤ i → drop i gs ≡ []
past [] zero l = refl
past [] (suc i) l = refl
past (g ∷ gs) zero l = absurd (omega arith)
past (g ∷ gs) (suc i) l = past gs i (omega arith)

-- after the last function the tables are the program's
pub finished : (p : ProgramData) (pl : Placement) (gs : List FuncData) (i number : ℕ) (instrs : List Instr) (owners : List ℕ) (entries : List Entry) (strings : List (List ℕ)) → gs ≡ p.funcs.items → length gs ≤ i
    → funcs_code (program_of p) pl (map (func_in p) gs) 0 ≡ instrs ++ funcs_code (program_of p) pl (map (func_in p) (drop i gs)) (length instrs)
    → funcs_owners (program_of p) pl (map (func_in p) gs) 0 ≡ owners ++ funcs_owners (program_of p) pl (map (func_in p) (drop i gs)) number
    → funcs_entries (program_of p) pl (map (func_in p) gs) 0 ≡ entries ++ funcs_entries (program_of p) pl (map (func_in p) (drop i gs)) (length instrs)
    → strings ≡ map (λ bytes. bytes.items) p.strings.items → (let r : Tables = record { instrs = instrs; owners = owners; funcs = entries; strings = strings } in r) ≡ code_of (program_of p) pl
finished p pl gs i number instrs owners entries strings same l a b c d =
    let fs = map (func_in p) gs in let whole = program_of p in
    let none : map (func_in p) (drop i gs) ≡ [] = ap (map (func_in p)) (past gs i l) in
    let all : fs ≡ map (func_in p) p.funcs.items = ap (map (func_in p)) same in
    let x : instrs ≡ funcs_code whole pl fs 0 = sym (a ∙ ap (λ hs. instrs ++ funcs_code whole pl hs (length instrs)) none ∙ append-nil instrs) in
    let y : owners ≡ funcs_owners whole pl fs 0 = sym (b ∙ ap (λ hs. owners ++ funcs_owners whole pl hs number) none ∙ append-nil owners) in
    let z : entries ≡ funcs_entries whole pl fs 0 = sym (c ∙ ap (λ hs. entries ++ funcs_entries whole pl hs (length instrs)) none ∙ append-nil entries) in
    tables_are whole pl instrs owners entries strings (x ∙ ap (λ hs. funcs_code whole pl hs 0) all) (y ∙ ap (λ hs. funcs_owners whole pl hs 0) all) (z ∙ ap (λ hs. funcs_entries whole pl hs 0) all) d
