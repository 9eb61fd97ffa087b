-- The texts of lines.
use Rattle.std.specs.Prelude.{◌≡◌, ℕ, ◌^◌, ◌<◌, ℤ, pos, negsuc, List, ◌++◌, length, Option, Some, None, codes, decimal}
use Rattle.std.specs.Fmt.{signed_decimal}
use Rattle.std.specs.List.{Contains}
use Rattle.deref_walk.specs.declared.loc.Loc.{Loc}
use Rattle.deref_walk.specs.declared.loc.Loc.TheVariants as loc
use Rattle.value_flows.specs.declared.placed.Known.{Known}
use Rattle.value_flows.specs.declared.placed.Known.TheVariants.{Package, Size, Unknown}
use Rattle.value_flows.specs.declared.placed.Placed.{Placed}
use Rattle.value_flows.specs.declared.placed.Placed.TheVariants as homes
use Rattle.report_checks.specs.declared.line.TagFlow.{TagFlow}
use Rattle.report_checks.specs.declared.line.TagFlow.TheVariants as flows
use Rattle.report_checks.specs.declared.line.Line.{Line}
use Rattle.report_checks.specs.declared.line.Line.TheVariants as lines

abbrev pub loc_text : Loc → List ℕ
loc_text (loc.Site l) = codes "s" ++ decimal l.0
loc_text (loc.Result f i) = codes "f" ++ (decimal f.0 ++ (codes ".r" ++ decimal i))
loc_text loc.Heap = codes "heap"
loc_text (loc.Carry l) = codes "c" ++ decimal l.0

abbrev pub known_text : Known → List ℕ
known_text Package = codes "package"
known_text Size = codes "size"
known_text Unknown = codes "unknown"

abbrev pub placed_text : Placed → List ℕ
placed_text homes.Stack = codes "stack"
placed_text (homes.Known k) = codes "heap " ++ known_text k
placed_text (homes.Flow r) = codes "heap " ++ (codes "flow " ++ loc_text r)

abbrev pub flow_text : TagFlow → List ℕ
flow_text (flows.Heap n) = codes "heap " ++ decimal n
flow_text (flows.Result j n) = codes "result " ++ (decimal j ++ (codes " " ++ decimal n))
flow_text flows.Nowhere = codes "none"

-- the text of a line without its newline, with the name that the line of a site has
abbrev pub line_text : Line → List ℕ → List ℕ
line_text (lines.Site s) name =
    codes "site " ++ (decimal s.site.0 ++ (codes " " ++ (decimal s.line ++ (codes ":" ++ (decimal s.col ++ (codes " " ++ (name ++ (codes " " ++ placed_text s.placed))))))))
line_text (lines.Step s) name =
    codes "step " ++ (loc_text s.to ++ (codes " " ++ (loc_text s.from ++ (codes " " ++ (signed_decimal s.weight ++ (codes " " ++ signed_decimal s.sum))))))
line_text (lines.Tag t) name =
    codes "tag " ++ (decimal t.func.0 ++ (codes " " ++ (decimal t.param ++ (codes " " ++ flow_text t.flow))))

-- a name has a byte at least, and no space
pub record IsName (name : List ℕ) : Type 0 where
  pub some : 0 < length name
  pub whole : Contains name 32 → ⊥

-- ---- the numbers of a line have 32 bits

abbrev pub SignedFits : ℤ → Type 0
SignedFits (pos n) = n < 2 ^ 31
SignedFits (negsuc n) = n < 2 ^ 31

abbrev pub LocFits : Loc → Type 0
LocFits (loc.Site l) = l.0 < 2 ^ 32
LocFits (loc.Result f i) = (f.0 < 2 ^ 32) × (i < 2 ^ 32)
LocFits loc.Heap = Unit {0}
LocFits (loc.Carry l) = l.0 < 2 ^ 32

abbrev pub PlacedFits : Placed → Type 0
PlacedFits homes.Stack = Unit {0}
PlacedFits (homes.Known k) = Unit {0}
PlacedFits (homes.Flow r) = LocFits r

abbrev pub FlowFits : TagFlow → Type 0
FlowFits (flows.Heap n) = n < 2 ^ 32
FlowFits (flows.Result j n) = (j < 2 ^ 32) × (n < 2 ^ 32)
FlowFits flows.Nowhere = Unit {0}

abbrev pub LineFits : Line → Type 0
LineFits (lines.Site s) = (s.site.0 < 2 ^ 32) × (s.line < 2 ^ 32) × (s.col < 2 ^ 32) × PlacedFits s.placed
LineFits (lines.Step s) = LocFits s.to × LocFits s.from × SignedFits s.weight × SignedFits s.sum
LineFits (lines.Tag t) = (t.func.0 < 2 ^ 32) × (t.param < 2 ^ 32) × FlowFits t.flow

-- ---- which line a text is

pub record IsTextOf (l : Line) (text : List ℕ) : Type 0 where
  pub fits : LineFits l
  pub name : List ℕ
  pub named : IsName name
  pub is : text ≡ line_text l name

-- the line of a text, if it is one's
abbrev pub IsLineOf : List ℕ → Option Line → Type 0
IsLineOf text None = (l : Line) → IsTextOf l text → ⊥
IsLineOf text (Some l) = IsTextOf l text
