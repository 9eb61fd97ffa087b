-- A function of its parts, and where it stands.
use Rattle.std.specs.Prelude.{◌≡◌, ⊤, ◌-◌, ℕ, List, map, Option, Some, None, option_and_then}
use Rattle.std.specs.Option.{option_map}
use Rattle.base.specs.declared.pos.Pos.{Pos}
use Rattle.typed_syntax.specs.Syntax.{Sts, Func}
use Rattle.typed.specs.Tables.{Table}
use Rattle.typed.specs.declared.program.Func.{Func as FuncData}
use Rattle.signatures.specs.declared.slots.Slot.{Slot}
use Rattle.signatures.specs.Entries.{sites_of}
use Rattle.function_heads.specs.Heads.{slot_tree}

-- a function of its parts in a table of types, with the sites from one number on up to another
abbrev pub assembled : Table → (params results : List Slot) → (first behind : ℕ) → Option (List (Option ℕ)) → Option (List (Option ℕ)) → Option Sts → Option Func
assembled T param_slots result_slots first behind ps rs body =
    option_and_then (λ params. option_and_then (λ results. option_map (λ b. record {
      first = first;
      count = behind - first;
      params = params;
      param_types = map (slot_tree T) param_slots;
      results = map (slot_tree T) result_slots;
      named = sites_of results;
      body = b;
    }) body) rs) ps

-- a typed function stands at a place, and some at places
abbrev pub IsAt : Pos → Option FuncData → Type 0
IsAt pos None = ⊤
IsAt pos (Some f) = f.pos ≡ pos
