use Rattle.om_rows.proofs.Casts.{stored-narrow}
use Rattle.om_decide.proofs.WeightLists.{weight_made}
use Rattle.om_decide.proofs.evidence.bracket_weight.Goals as goal

pub returns : goal.returns
returns c = weight_made c.args.bracket.elements _ _ _ c.args.value _ c.three_elements-a.ensures.elements
    (stored-narrow c.args.value c.ranges.value)
