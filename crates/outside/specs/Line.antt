-- The text of a line of parts, and what was taken of it.
use Rattle.std.specs.Prelude.{◌≡◌, ◌<◌, ℕ, List, [], ◌∷◌, ◌++◌, length, take, Option, decimal}
use Rattle.std.specs.Fmt.{signed_decimal}
use Rattle.outside.specs.Took.{Took}
use Rattle.outside.specs.declared.line.LinePart.{LinePart}
use Rattle.outside.specs.declared.line.LinePart.TheVariants.{Text, Number, Int}

abbrev pub part_text : LinePart → List ℕ
part_text (Text text) = text.now
part_text (Number n) = decimal n
part_text (Int n) = signed_decimal n

abbrev pub text_of : List LinePart → List ℕ
text_of [] = []
text_of (part ∷ parts) = part_text part ++ text_of parts

-- the parts before one of them were taken, and `gone` bytes of that one, which are not all
pub record StoppedIn (old new : Option (List ℕ)) (parts : List LinePart) (gone : ℕ) : Type 0 where
  pub before : List LinePart
  pub part : LinePart
  pub after : List LinePart
  pub splits : before ++ (part ∷ after) ≡ parts
  pub within : gone < length (part_text part)
  pub took : Took old new (text_of before ++ take gone (part_text part))
