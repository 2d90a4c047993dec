use Rattle.om_laws.specs.Tuples.{value}
use Rattle.om_laws.proofs.TupleLaws.{value_alternating, zero_at_repeat}
use Rattle.om_laws.proofs.tuples.value_at_a_repeat.Goals as goal

pub returns : goal.returns
returns c = λ f t n. zero_at_repeat (value f) (value_alternating f) t n
