use Rattle.std.proofs.Common.{arith}
use Rattle.std.proofs.lemmas.Grind.{common_steps}
use Rattle.om_representation.proofs.point_vectors.word_of.Goals as goal

pub loop-point-preserved : goal.loop-point-preserved
loop-point-preserved c = grind (arith, common_steps)

pub returns : goal.returns
returns c = grind (arith, common_steps)
