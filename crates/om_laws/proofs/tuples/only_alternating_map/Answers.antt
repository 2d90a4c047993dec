use Rattle.std.proofs.Common.{◌∙◌, sym}
use Rattle.om_laws.specs.Tuples.{value}
use Rattle.om_laws.proofs.TupleLaws.{value_alternating}
use Rattle.om_laws.proofs.SortingLaws.{alternating_equal, value_increasing}
use Rattle.om_laws.proofs.tuples.only_alternating_map.Goals as goal

pub returns : goal.returns
returns c = λ f chi alt h. alternating_equal chi (value f) alt (value_alternating f)
    (λ t i. h t i ∙ sym (value_increasing f t i))
