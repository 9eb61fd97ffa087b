-- What the reader knows of an item before it has seen its end.
use Rattle.std.specs.Prelude.{ℕ, ◌+◌, ◌-◌, ◌*◌, ◌^◌, ◌==◌, ◌&&◌, ◌||◌, nat_le, nat_lt, true, false, not, if◌then◌else◌, Option, Some, None, ℤ, pos, neg_ℤ}
use Rattle.std.specs.Char.{is_ascii_digit}
use Rattle.outside.specs.declared.item.Item.{Item}

abbrev pub start : Item
start = record { any = false; negative = false; digits = false; good = true; value = 0 }

-- an item with one more byte that is no minus at its front
abbrev pub grow : Item → ℕ → Item
grow i b =
    if is_ascii_digit b && nat_le (10 * i.value + (b - 48)) (2 ^ 63)
    then record { any = true; negative = i.negative; digits = true; good = i.good; value = 10 * i.value + (b - 48) }
    else record { any = true; negative = i.negative; digits = i.digits; good = false; value = i.value }

-- an item with one more byte
abbrev pub push : Item → ℕ → Item
push i b =
    if not i.any && b == 45 then record { any = true; negative = true; digits = false; good = true; value = 0 }
    else grow i b

abbrev pub number_so_far : Item → Option ℤ
number_so_far i =
    if i.good && (i.digits && (i.negative || nat_lt i.value (2 ^ 63)))
    then Some (if i.negative then neg_ℤ (pos i.value) else pos i.value) else None
