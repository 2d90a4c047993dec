use Rattle.std.proofs.Common.{◌∙◌, ap}
use Rattle.om_subsets.specs.Subsets.{with_element}
use Rattle.om_subsets.proofs.subset.Subset.triple.Goals as goal

pub returns-clause-elements : goal.returns-clause-elements
returns-clause-elements c =
    c.with-3.ensures.elements
    ∙ ap (with_element c.args.x)
    (c.with-2.ensures.elements
    ∙ ap (with_element c.args.y) (c.with.ensures.elements ∙ ap (with_element c.args.z) c.first.ensures.elements))
