-- A frame as data.
use Rattle.std.specs.Prelude.{◌≡◌, ℕ, ◌+◌, ◌≤◌, Bool, List, [], ◌∷◌, map, get_or}
use Rattle.heap_bump.specs.Words.{first_address}
use Rattle.typed_syntax.specs.Types.{TypeTree, ints, width}
use Rattle.typed_syntax.specs.Syntax.{Func}
use Rattle.frames.specs.Frames.{cells_between, words_between}
use Rattle.typed.specs.Trees.{trees}
use Rattle.typed.specs.View.{func_of, made_by_expressions, program_of, site_types}
use Rattle.typed.specs.declared.program.Func.{Func as FuncData}
use Rattle.typed.specs.declared.program.Program.{Program}
use Rattle.placement.specs.Told.{placement_of}
use Rattle.frame_layout.specs.Layout.{starts}
use Rattle.program_code.specs.Code.{Slots}
use Rattle.expression_code.specs.declared.slots.Frame.{Frame}

-- the types by their numbers, those of the sites, whether expressions make their variables, the sites of the package variables, and a function
abbrev pub types_in : Program → List TypeTree
types_in p = trees p.types

abbrev pub sites_in : Program → List TypeTree
sites_in p = site_types (trees p.types) p.sites.items

abbrev pub made_in : Program → List Bool
made_in p = made_by_expressions p.sites.items

unfoldable pub globals_in : Program → List ℕ
globals_in p = map (λ g. g.0) (program_of p).globals

abbrev pub func_in : Program → FuncData → Func
func_in p f = func_of (trees p.types) f

abbrev pub slots_in : Program → Frame → Slots
slots_in p f = record {
  outgoing = f.outgoing;
  temps = f.temps;
  first = f.first;
  count = f.sites;
  placement = placement_of f.homes.placement;
  types = types_in p;
  sites = sites_in p;
  made = made_in p;
  globals = globals_in p;
}

-- how many words values of each of some types have is told by 16 bits
abbrev pub AreSmall : List TypeTree → Type 0
AreSmall types = (n : ℕ) → width (get_or types n ints) ≤ 65535

-- the address of each of some variables, by their sites, that stand one after the other from an address on
abbrev pub addresses : List TypeTree → List ℕ → (at : ℕ) → List ℕ
addresses sites [] at = []
addresses sites (x ∷ xs) at = at ∷ addresses sites xs (at + width (get_or sites x ints))

abbrev pub global_addresses : Program → List ℕ
global_addresses p = addresses (sites_in p) (globals_in p) first_address

-- the cells of a frame, and the words of its sites
abbrev pub cells_in : Program → Frame → ℕ
cells_in p f = cells_between (placement_of f.homes.placement) (made_in p) f.first f.sites

abbrev pub words_in : Program → Frame → ℕ
words_in p f = words_between (placement_of f.homes.placement) (sites_in p) f.first f.sites

-- what a frame knows beside its slots: where each of its sites starts, and the address of each package variable; the program's types are small
pub record KnowsPlaces (p : Program) (f : Frame) : Type 0 where
  pub types : AreSmall (types_in p)
  pub words : AreSmall (sites_in p)
  pub sites : f.starts.items ≡ starts (placement_of f.homes.placement) (made_in p) (sites_in p) f.first 0 (cells_in p f) f.sites
  pub globals : f.homes.globals.items ≡ global_addresses p

-- its slots are numbers of 16 bits, and it knows the places of variables
abbrev pub IsLaid : Program → Frame → Type 0
IsLaid p f = (f.outgoing + f.temps + cells_in p f + words_in p f ≤ 65535) × KnowsPlaces p f
