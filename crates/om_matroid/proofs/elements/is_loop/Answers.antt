use Rattle.std.proofs.Common.{ap, ◌∙◌}
use Rattle.std.specs.Option.{is_some}
use Rattle.om_subsets.specs.Subsets.{with_element}
use Rattle.om_matroid.proofs.ElementLaws.{none_both, loop_both}
use Rattle.om_matroid.proofs.elements.is_loop.Goals as goal

pub returns : goal.returns
returns c = none_both (is_some c.first_between.result) c.is_none.result c.is_none.ensures c.first_between.ensures.none
    (loop_both c.args.chi.now c.args.e c.with.result.elements c.first-nothing.result.elements
    (c.with.ensures.elements ∙ ap (with_element c.args.e) c.first-nothing.ensures.elements)
    c.first-nothing.ensures.elements)
