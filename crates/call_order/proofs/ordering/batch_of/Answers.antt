use Rattle.std.proofs.Common.{rules}
use Rattle.std.proofs.lemmas.List.Sorted.{IsNonDecreasingBy-from_sort_by_key}
use Rattle.call_order.proofs.Batched.{is_batch}
use Rattle.call_order.proofs.ordering.batch_of.Goals as goal

pub returns : goal.returns
returns c = is_batch c.args.nodes.now c.in_ok-funcs.funcs.items c.sort_unstable_by_key.new.self.items c.in_ok-funcs.ensures c.sort_unstable_by_key.ensures.permutation (IsNonDecreasingBy-from_sort_by_key (λ f. f.0) _ c.sort_unstable_by_key.ensures.sorted (λ a r q k. search rules))
