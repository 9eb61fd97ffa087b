use Rattle.std.proofs.Common.{◌≡◌, ◌-◌, ◌<◌, ◌≤◌, length, reverse, vec_len, arith}
use Rattle.std.proofs.lemmas.List.{length-reverse}
use Rattle.region.proofs.Reversed.{written}
use Rattle.region.proofs.region.Region.set.Goals as goal

pub returns : goal.returns
returns c =
    let old = c.self.inside.words.items in
    let len : vec_len c.self.inside.words ≡ length old = c.self.inside.words.ok.0 in
    let above : c.self.inside.hi - length (reverse old) ≤ c.args.at = rw (← c.self.view_is) at c.requires.0 in
    let below : c.args.at < c.self.inside.hi = rw (← c.self.view_is) at c.requires.1 in
    let words = written c.self.inside.hi c.args.at c.args.word old (omega arith) (omega (arith, length-reverse old)) below in
    rw (← c.self.view_is, words)
