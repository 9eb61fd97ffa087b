-- What a put of a piece has written so far.
use Rattle.std.proofs.Common.{ℕ, ◌+◌, ◌-◌, ◌≤◌, ◌<◌, List, [], length, take, drop, arith, append-nil, add-zero, Err}
use Rattle.std.specs.Prelude.{Option, None, Some}
use Rattle.std.proofs.Math.Seq.{take-add}
use Rattle.std.proofs.lemmas.List.{take_rest, take-append-drop}
use Rattle.outside.specs.Took.{Took}
use Rattle.outside.specs.Counts.{Grew}
use Rattle.outside.specs.Puts.{Puts}
use Rattle.outside.proofs.Took.{Took-nothing, Took-trans}

-- `gone` bytes of the piece were taken, and the count of faults has not fallen
pub record Written (old new : Option (List ℕ)) (old_number new_number : Option ℕ) (before now gone : ℕ) (piece : List ℕ) : Type 0 where
  pub within : gone ≤ length piece
  pub bytes : Took old new (take gone piece)
  pub number : Grew old_number new_number gone
  pub later : before ≤ now

pub Grew-nothing : (a : Option ℕ) → Grew a a 0
Grew-nothing None = tt
Grew-nothing (Some k) = omega arith

pub Grew-trans : (a b c : Option ℕ) (x y : ℕ) → Grew a b x → Grew b c y → Grew a c (x + y)
Grew-trans a b None x y p q = tt
Grew-trans a None (Some n) x y p q = absurd q
Grew-trans None (Some m) (Some n) x y p q = absurd p
Grew-trans (Some k) (Some m) (Some n) x y p q = omega arith

-- nothing is written at first
pub at_first : (a : Option (List ℕ)) (n : Option ℕ) (faults : ℕ) (piece : List ℕ) → Written a a n n faults faults 0 piece
at_first a n faults piece = record {
  within = omega arith;
  bytes = Took-nothing a;
  number = Grew-nothing n;
  later = omega arith;
}

-- a write of the rest carries it on
pub carried_on : (a b c : Option (List ℕ)) (i j k : Option ℕ) (before now after gone n : ℕ) (piece : List ℕ)
    → Written a b i j before now gone piece
    → n ≤ length piece - gone
    → Took b c (take n (take (length piece - gone) (drop gone piece))) → Grew j k n → now ≤ after
    → Written a c i k before after (gone + n) piece
carried_on a b c i j k before now after gone n piece s bound bytes number later = record {
  within = let w = s.within in omega arith;
  bytes = rw take-add (Took-trans a b c _ _ s.bytes (rw take_rest at bytes));
  number = Grew-trans i j k gone n s.number number;
  later = let l = s.later in omega arith;
}

-- a put that stops says so much
pub stopped : {T : Type 0} (a b c : Option (List ℕ)) (i j k : Option ℕ) (before now gone : ℕ) (piece : List ℕ)
    → Written a b i j before now gone piece → gone < length piece → Took b c [] → Grew j k 0
    → Puts {T = T} a c i k (Err (record { gone = gone })) piece
stopped a b c i j k before now gone piece s below took grew =
    let all : Took a c (take gone piece) = rw (← append-nil (take gone piece)) (Took-trans a b c _ _ s.bytes took) in
    let number : Grew i k gone = rw (← add-zero gone) (Grew-trans i j k _ _ s.number grew) in
    record {
      whole = tt;
      whole_number = tt;
      within = below;
      part = all;
      part_number = number;
      prefix = (drop gone piece, record { done = take gone piece; splits = take-append-drop gone piece; took = all });
    }
