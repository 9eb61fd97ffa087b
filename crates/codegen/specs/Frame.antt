-- Functions in frames, and the code of statements by their parts.
use Rattle.std.specs.Prelude.{ℕ, ◌+◌, ◌<◌, ◌≤◌, List, [], ◌∷◌, ◌++◌, Option, Some, None}
use Rattle.isa.specs.declared.instr.Instr.{Instr}
use Rattle.isa.specs.declared.instr.Instr.TheVariants.{Bin, Const, Jump, PrintText}
use Rattle.isa.specs.declared.instr.BinOp.TheVariants.{Add}
use Rattle.typed_syntax.specs.declared.operators.BinOp.{BinOp}
use Rattle.typed_syntax.specs.Syntax.{Ex, Exs, Pl, Func, Program as AnyProgram, Left, Piece, all_wide, value_widths, blank, new, to, text, shown, argument_words, result_words}
use Rattle.frames.specs.Frames.{far}
use Rattle.typed.specs.declared.program.Program.{Program}
use Rattle.program_code.specs.Code.{Slots, temp, birth_code, param_code as site_param, operation, shown_code, above_address, place_above, lefts_above, address_code, address_size, fetch_code, land_code, write_code, lefts_code, lefts_end, place_code, place_end, ready_code, ex_code, exs_code, sliced_element_code}
use Rattle.codegen.specs.Temps.{SitesFit, sites_words}
use Rattle.expression_code.specs.declared.slots.Frame.{Frame}
use Rattle.expression_code.specs.Frame.{slots_in}

-- a function's results can be given back from a frame
abbrev pub Returns : Program → Frame → Func → Type 0
Returns p frame f = SitesFit (slots_in p frame) frame.sites f.named × (sites_words (slots_in p frame) f.named ≤ result_words f) × (argument_words f + result_words f ≤ 65535)

-- a left side, with operands in temps from `first` on, gets the words of temps from h on
abbrev pub left_code : Slots → Left → (first at h : ℕ) → List Instr
left_code s blank first at h = []
left_code s (new site) first at h = birth_code s site h
left_code s (to p) first at h = write_code s p first at h

-- the left side that gets the index in a temp, after its operands
abbrev pub key_code : AnyProgram → Slots → Left → (first index pc : ℕ) → List Instr
key_code p s key first index pc = ready_code p s (key ∷ []) first pc ++ left_code s key first (lefts_above (key ∷ []) first) index

-- the left sides that get the index and an element, of w words, of the slice whose header is in temps from h on
abbrev pub sliced_pair_code : AnyProgram → Slots → (w : ℕ) → (key value : Left) → (h pc : ℕ) → List Instr
sliced_pair_code p s w key value h pc =
    let v = lefts_above (key ∷ value ∷ []) (h + 4) in
    ready_code p s (key ∷ value ∷ []) (h + 4) pc ++ (sliced_element_code s w h v ++ lefts_code s (1 ∷ w ∷ []) (key ∷ value ∷ []) (h + 4) (v + 1 + w) v)

-- the end of a round whose index is in a temp: with the temp above it the index grows by 1, and the test comes again
abbrev pub turn_code : Slots → (index test : ℕ) → List Instr
turn_code s index test = Const (temp s (index + 1)) 1 ∷ Bin Add (temp s index) (temp s index) (temp s (index + 1)) ∷ Jump test ∷ []

-- The code of an assignment, of one with an operator and of `++` and `--`, from a place in the code on: what stands for
-- these statements in the code of a program.
abbrev pub assign_code : AnyProgram → Slots → List Left → Exs → (h pc : ℕ) → List Instr
assign_code p s ls es h pc =
    let first = lefts_above ls h in
    ready_code p s ls h pc ++ (exs_code p s es first (lefts_end p ls pc) ++ lefts_code s (value_widths p es) ls h (first + all_wide p es) first)

abbrev pub update_code : AnyProgram → Slots → Pl → BinOp → Ex → (h pc : ℕ) → List Instr
update_code p s q op e h pc =
    let at = place_above q h in
    let v = above_address (far q) at in
    place_code p s q h pc
    ++ (address_code s q h at
    ++ fetch_code s q h at v ∷ (ex_code p s e (v + 1) (place_end p q pc + (address_size q + 1)) ++ Bin (operation op) (temp s v) (temp s v) (temp s (v + 1)) ∷ (land_code s q h at v ∷ [])))

abbrev pub bump_code : AnyProgram → Slots → Pl → BinOp → (h pc : ℕ) → List Instr
bump_code p s q op h pc =
    let at = place_above q h in
    let v = above_address (far q) at in
    place_code p s q h pc
    ++ (address_code s q h at
    ++ fetch_code s q h at v ∷ (Const (temp s (v + 1)) 1 ∷ (Bin (operation op) (temp s v) (temp s v) (temp s (v + 1)) ∷ (land_code s q h at v ∷ []))))

-- a parameter with a site gets n incoming words from one on
abbrev pub param_code : Slots → Option ℕ → (n i : ℕ) → List Instr
param_code s None n i = []
param_code s (Some site) n i = site_param s site i n

-- what shows an operand, one that is a value in temp h, and the temp of the next value
abbrev pub show_piece : Slots → Piece → (h : ℕ) → Instr
show_piece s (text number) h = PrintText number
show_piece s (shown t e) h = shown_code t (temp s h)

abbrev pub temp_behind : Piece → (h : ℕ) → ℕ
temp_behind (text number) h = h
temp_behind (shown t e) h = h + 1

-- operands, those that are values in temps from h on
abbrev pub ShownFit : Slots → (h : ℕ) → List Piece → Type 0
ShownFit s h [] = Unit {0}
ShownFit s h (text number ∷ ps) = ShownFit s h ps
ShownFit s h (shown t e ∷ ps) = (h < s.temps) × ShownFit s (h + 1) ps
