use Rattle.std.proofs.Common.{rules}
use Rattle.outside.proofs.Reading.{read_on}
use Rattle.outside.proofs.memory.listed.MemSourceSource.read.Goals as goal

pub returns-clause-bytes : goal.returns-clause-bytes
returns-clause-bytes c =
    let h = read_on c.self.inside.bytes.items c.self.inside.at c.copy_front-n.result c.args.buf.now c.copy_front-n.new.to _ (search rules)
    c.copy_front-n.ensures.count c.copy_front-n.auto.to c.copy_front-n.ensures.copied in
    search rules
