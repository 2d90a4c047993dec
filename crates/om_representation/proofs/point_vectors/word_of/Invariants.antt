use Rattle.om_representation.proofs.PointLaws.{AreFilled}
use Rattle.om_representation.proofs.point_vectors.word_of.Given as goal

abbrev pub invariant-loop-point : goal.invariant-loop-point
invariant-loop-point l = AreFilled l.word l.points l.point-index
