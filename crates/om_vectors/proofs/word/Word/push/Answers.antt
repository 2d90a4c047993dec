use Rattle.std.proofs.Common.{ap, arith, length}
use Rattle.om_vectors.specs.Words.{length-used}
use Rattle.om_vectors.proofs.WordTables.{pushed}
use Rattle.om_vectors.proofs.word.Word.push.Goals as goal

pub invariant_of-self : goal.invariant_of-self
invariant_of-self c =
    let room = c.requires in
    let used = length-used c.self.inside.vectors c.self.inside.len c.self.invariant in
    let view = ap length c.self.view_is in
    pushed c.self.inside.vectors c.self.inside.len c.args.v (omega arith) c.self.invariant
