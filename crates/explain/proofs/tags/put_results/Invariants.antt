use Rattle.std.proofs.Common.{◌≡◌, ◌<◌, ◌^◌, ◌++◌, map, drop}
use Rattle.explain.specs.Lines.{result_flows, tag_line, text_of}
use Rattle.explain.specs.Passing.{AreFit}
use Rattle.explain.proofs.tags.put_results.Given as goal

abbrev pub invariant-loop-tag : goal.invariant-loop-tag
invariant-loop-tag l = record {
  text : l.text.items ++ text_of (map (tag_line l.func l.param) (result_flows (drop l.tag-index l.tags))) ≡ l.fn.text.items ++ text_of (map (tag_line l.func l.param) (result_flows l.tags));
  fits : l.func < 2 ^ 32 → l.param < 2 ^ 32 → AreFit (map (tag_line l.func l.param) (result_flows (drop l.tag-index l.tags))) → AreFit (map (tag_line l.func l.param) (result_flows l.tags));
}
