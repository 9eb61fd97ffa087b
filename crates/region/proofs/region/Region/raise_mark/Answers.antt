use Rattle.std.proofs.Common.{◌≡◌, ◌-◌, ◌≤◌, length, reverse, vec_len, arith}
use Rattle.std.proofs.lemmas.List.{length-reverse}
use Rattle.region.proofs.Reversed.{raised}
use Rattle.region.proofs.region.Region.raise_mark.Goals as goal

pub returns : goal.returns
returns c =
    let old = c.self.inside.words.items in
    let len : vec_len c.self.inside.words ≡ length old = c.self.inside.words.ok.0 in
    let up : c.self.inside.hi - length (reverse old) ≤ c.args.to = rw (← c.self.view_is) at c.requires.up in
    let within : c.args.to ≤ c.self.inside.hi = rw (← c.self.view_is) at c.requires.within in
    let words = raised c.self.inside.hi c.args.to old (omega arith) (omega (arith, length-reverse old)) within in
    rw (← c.self.view_is, c.truncate.ensures.items, words)
