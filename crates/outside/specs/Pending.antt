-- A reader with a buffer, as contracts see it.
use Rattle.std.specs.Prelude.{◌≡◌, ℕ, Bool, true, List, [], ◌∷◌, Option, Some, None, Result, Ok, Err, if◌then◌else◌}
use Rattle.std.specs.Io.KnownBytes.{prepend_known, Consumes, Keeps, IsAtEnd}

-- the bytes of the buffer
abbrev pub buffer_size : ℕ
buffer_size = 512

-- the bytes that were read and not yet given, and whether the end was seen
pub record Pending : Type 0 where
  pub bytes : List ℕ
  pub ended : Bool

-- What is still to come: the bytes held and those that the source has left, where it tells them. After the end that
-- was seen nothing comes.
abbrev pub to_come : Pending → Option (List ℕ) → Option (List ℕ)
to_come p left = if p.ended then Some [] else prepend_known p.bytes left

-- once the end was seen, the source has nothing left
abbrev pub KnowsEnd : Pending → Option (List ℕ) → Type 0
KnowsEnd p left = p.ended ≡ true → IsAtEnd left

-- a byte was given, or the end
abbrev pub Gives : {E : Type 0} → Result (Option ℕ) E → Option (List ℕ) → Option (List ℕ) → Type 0
Gives (Ok (Some b)) old new = Consumes old new (b ∷ [])
Gives (Ok None) old new = IsAtEnd old × Keeps old new
Gives (Err e) old new = Keeps old new
