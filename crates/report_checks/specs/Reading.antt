-- What a text of a line stands for.
use Rattle.std.specs.Prelude.{ℕ, zero, suc, ◌+◌, ◌-◌, ◌*◌, ◌^◌, ◌==◌, ◌&&◌, nat_lt, not, Bool, true, false, ℤ, pos, negsuc, List, [], ◌∷◌, Option, Some, None, option_and_then, codes, if◌then◌else◌}
use Rattle.std.specs.Str.{bytes_eq}
use Rattle.std.specs.Char.{is_ascii_digit}
use Rattle.base.specs.declared.ids.SiteId.{SiteId}
use Rattle.deref_walk.specs.declared.loc.Loc.{Loc}
use Rattle.deref_walk.specs.declared.loc.Loc.TheVariants as loc
use Rattle.value_flows.specs.declared.placed.Known.{Known}
use Rattle.value_flows.specs.declared.placed.Known.TheVariants.{Package, Size, Unknown}
use Rattle.value_flows.specs.declared.placed.Placed.{Placed}
use Rattle.value_flows.specs.declared.placed.Placed.TheVariants as homes
use Rattle.report_checks.specs.declared.line.TagFlow.{TagFlow}
use Rattle.report_checks.specs.declared.line.TagFlow.TheVariants as flows
use Rattle.report_checks.specs.declared.line.Line.{Line}
use Rattle.report_checks.specs.declared.line.Line.TheVariants as lines
use Rattle.report_checks.specs.Cuts.{front_length, front, rest, after}

infixl 10 ◌>>=◌
abbrev pub ◌>>=◌ : {A B : Type 0} → Option A → (A → Option B) → Option B
o >>= f = option_and_then f o

-- the second reading where the first gives nothing
abbrev pub first_of : {A B : Type 0} → Option A → (A → Option B) → Option B → Option B
first_of None f o = o
first_of (Some a) f o = f a

-- ---- numbers

-- a number with a digit behind it, where it has 32 bits
unfoldable pub with_digit : ℕ → ℕ → Option ℕ
with_digit n c = if is_ascii_digit c && nat_lt (n * 10 + (c - 48)) (2 ^ 32) then Some (n * 10 + (c - 48)) else None

-- a number with digits behind it
unfoldable pub with_digits : ℕ → List ℕ → Option ℕ
with_digits n [] = Some n
with_digits n (c ∷ cs) = with_digit n c >>= (λ m. with_digits m cs)

-- a first digit, and no zero before other digits
unfoldable pub begins_number : List ℕ → Bool
begins_number [] = false
begins_number (c ∷ []) = true
begins_number (c ∷ d ∷ ds) = not (c == 48)

unfoldable pub read_number : List ℕ → Option ℕ
read_number text = if begins_number text then with_digits 0 text else None

unfoldable pub positive : ℕ → Option ℤ
positive n = if nat_lt n (2 ^ 31) then Some (pos n) else None

unfoldable pub negative : ℕ → Option ℤ
negative zero = None
negative (suc n) = if nat_lt n (2 ^ 31) then Some (negsuc n) else None

unfoldable pub read_signed : List ℕ → Option ℤ
read_signed text = first_of (after (codes "-") text) (λ digits. read_number digits >>= negative) (read_number text >>= positive)

unfoldable pub number_before : ℕ → List ℕ → Option ℕ
number_before separator text = read_number (front separator text)

-- ---- locations

unfoldable pub read_result : List ℕ → Option Loc
read_result text = do
  f ← number_before 46 text
  behind ← rest 46 text
  digits ← after (codes "r") behind
  i ← read_number digits
  Some (loc.Result (record { 0 = f }) i)

unfoldable pub read_site_number : List ℕ → Option SiteId
read_site_number text = read_number text >>= (λ n. Some (record { 0 = n }))

unfoldable pub read_loc : List ℕ → Option Loc
read_loc text = if bytes_eq text (codes "heap") then Some loc.Heap else
    first_of (after (codes "s") text) (λ digits. read_site_number digits >>= (λ l. Some (loc.Site l)))
    (first_of (after (codes "c") text) (λ digits. read_site_number digits >>= (λ l. Some (loc.Carry l)))
    (after (codes "f") text >>= read_result))

unfoldable pub loc_before : ℕ → List ℕ → Option Loc
loc_before separator text = read_loc (front separator text)

-- ---- lines

unfoldable pub read_known : List ℕ → Option Known
read_known text = if bytes_eq text (codes "package") then Some Package else
    (if bytes_eq text (codes "size") then Some Size else
    (if bytes_eq text (codes "unknown") then Some Unknown else None))

unfoldable pub read_heap : List ℕ → Option Placed
read_heap text = first_of (read_known text) (λ known. Some (homes.Known known))
    (after (codes "flow ") text >>= (λ behind. read_loc behind >>= (λ r. Some (homes.Flow r))))

unfoldable pub read_placed : List ℕ → Option Placed
read_placed text = if bytes_eq text (codes "stack") then Some homes.Stack else
    (after (codes "heap ") text >>= read_heap)

-- what stands behind a name, which has a byte at least, and a space
unfoldable pub after_name : List ℕ → Option (List ℕ)
after_name text = if front_length 32 text == 0 then None else rest 32 text

unfoldable pub read_site : List ℕ → Option Line
read_site text = do
  site ← number_before 32 text
  place ← rest 32 text
  line ← number_before 58 place
  column ← rest 58 place
  col ← number_before 32 column
  name ← rest 32 column
  end ← after_name name
  placed ← read_placed end
  Some (lines.Site (record { site = record { 0 = site }; line = line; col = col; placed = placed }))

unfoldable pub read_step : List ℕ → Option Line
read_step text = do
  to ← loc_before 32 text
  behind_to ← rest 32 text
  from ← loc_before 32 behind_to
  behind_from ← rest 32 behind_to
  weight ← (read_signed (front 32 behind_from))
  behind_weight ← rest 32 behind_from
  sum ← read_signed behind_weight
  Some (lines.Step (record { to = to; from = from; weight = weight; sum = sum }))

unfoldable pub read_result_flow : List ℕ → Option TagFlow
read_result_flow text = do
  result ← number_before 32 text
  behind ← rest 32 text
  number ← read_number behind
  Some (flows.Result result number)

unfoldable pub read_flow : List ℕ → Option TagFlow
read_flow text = if bytes_eq text (codes "none") then Some flows.Nowhere else
    first_of (after (codes "heap ") text) (λ behind. read_number behind >>= (λ n. Some (flows.Heap n)))
    (after (codes "result ") text >>= read_result_flow)

unfoldable pub read_tag : List ℕ → Option Line
read_tag text = do
  func ← number_before 32 text
  behind_func ← rest 32 text
  param ← number_before 32 behind_func
  behind_param ← rest 32 behind_func
  flow ← read_flow behind_param
  Some (lines.Tag (record { func = record { 0 = func }; param = param; flow = flow }))

unfoldable pub read_text : List ℕ → Option Line
read_text text = first_of (after (codes "site ") text) read_site
    (first_of (after (codes "step ") text) read_step
    (after (codes "tag ") text >>= read_tag))
