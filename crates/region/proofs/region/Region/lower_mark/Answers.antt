use Rattle.std.proofs.Common.{◌≡◌, ◌-◌, ◌≤◌, ◌++◌, length, take, replicate, reverse, vec_len, arith}
use Rattle.std.proofs.lemmas.List.{length-reverse}
use Rattle.region.proofs.Reversed.{lowered}
use Rattle.region.proofs.region.Region.lower_mark.Goals as goal

pub returns : goal.returns
returns c =
    let old = c.self.inside.words.items in
    let items : c.resize.new.self.items ≡ take (c.self.inside.hi - c.args.to) old ++ replicate (c.self.inside.hi - c.args.to - vec_len c.self.inside.words) 0 = rw c.unwrap.ensures at c.resize.ensures.items in
    let len : vec_len c.self.inside.words ≡ length old = c.self.inside.words.ok.0 in
    let down : c.args.to ≤ c.self.inside.hi - length (reverse old) = rw (← c.self.view_is) at c.requires.down in
    let words = lowered c.self.inside.hi c.args.to old (omega arith) (omega (arith, length-reverse old)) in
    rw (← c.self.view_is, items, len, words)
