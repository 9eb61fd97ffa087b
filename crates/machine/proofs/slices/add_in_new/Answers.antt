use Rattle.std.proofs.Common.{rules, ◌+◌, ◌*◌, length, drop, refl, arith}
use Rattle.machine.specs.Machine.{full_range, State, puts_words, put_at, words_in, header, next_address}
use Rattle.machine.specs.Answers.{state_of}
use Rattle.machine.specs.declared.memory.Spot.TheVariants.{InHeap}
use Rattle.machine.proofs.Branches.{room_behind, put_in_new}
use Rattle.machine.proofs.slices.add_in_new.Goals as goal

pub move_to_heap-requires-clause-target : goal.move_to_heap-requires-clause-target
move_to_heap-requires-clause-target c =
    let room = room_behind (length c.args.heap.now.words) c.args.old.long c.args.count c.args.capacity c.args.w c.requires.sizes.0 in
    omega (arith, room, c.used.ensures.is, c.in-Ok.ensures.long)

pub returns-in-Ok-clause-adds : goal.returns-in-Ok-clause-adds
returns-in-Ok-clause-adds c =
    λ reads. rw c.on.ensures
    (put_in_new (full_range c.args.stack_max) c.args.at.pc reads (drop c.args.at.base c.args.words.now.items) (drop c.args.at.base c.set_header.new.words.items) c.args.heap.now c.renew.new.heap c.move_to_heap.new.heap
    c.args.a c.args.old.first c.args.old.long c.args.capacity c.args.count c.args.w c.in-Ok.first (c.used.result + c.args.old.long * c.args.w) (length c.args.words.now.items) c.args.at.base c.args.source
    (c.in-Ok.ensures.renews c.args.at.pc reads) c.in-Ok.ensures.address (search rules) c.requires.source.0 c.in-Ok.ensures.kept c.move_to_heap.ensures c.set_header.ensures.words)

pub returns-in-Err-clause-adds : goal.returns-in-Err-clause-adds
returns-in-Err-clause-adds c =
    λ reads.
    let s : State = state_of (full_range c.args.stack_max) c.args.words.now.items c.args.at reads c.args.heap.now in
    let a = c.args.a in let long = c.args.old.long in let count = c.args.count in let w = c.args.w in let capacity = c.args.capacity in
    rw c.ended.ensures
    (c.in-Err.ensures.renews c.args.at.pc reads
    (λ t. puts_words (put_at (InHeap (length s.heap.words + long * w)) t (words_in c.args.source s.heap.words s.words (count * w))) a (header (next_address s) (long + count) capacity))
    (state_of (full_range c.args.stack_max) c.args.words.now.items c.args.at reads c.renew.new.heap) refl)
