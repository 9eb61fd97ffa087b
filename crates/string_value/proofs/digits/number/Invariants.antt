use Rattle.std.proofs.Common.{◌≡◌, ◌<◌, ◌^◌, drop}
use Rattle.std.specs.Prelude.{fold}
use Rattle.std.specs.List.{list_all}
use Rattle.std.specs.Char.{is_digit}
use Rattle.string_value.specs.Digits.{radix, add_digit, value}
use Rattle.string_value.proofs.digits.number.Given as goal

abbrev pub invariant-loop-b : goal.invariant-loop-b
invariant-loop-b l = record {
  so_far : fold (add_digit l.base) l.number (drop l.b-index l.digits) ≡ value l.base l.digits;
  digits : list_all (λ c. is_digit c (radix l.base)) (drop l.b-index l.digits) ≡ list_all (λ c. is_digit c (radix l.base)) l.digits;
  small : l.number < 16 ^ l.b-index;
}
