use Rattle.std.proofs.Common.{ap, ◌∙◌, sym, subst, ◌<◌, ◌-◌, ◌↔◌, arith}
use Rattle.std.specs.Prelude.{IsTrue}
use Rattle.om_subsets.specs.Subsets.{subset_at, choose}
use Rattle.om_threeterm.specs.Sets.{IsUnbalancedAt}
use Rattle.om_threeterm.proofs.RelationLaws.{some_unbalanced}
use Rattle.om_threeterm.proofs.relations.FramesProbe.bad.Goals as goal

pub returns : goal.returns
returns c =
    let m = c.args.self.now.map.now in
    let end = c.choose.ensures.value ∙ ap (λ m. choose m.elements (m.rank - 2)) c.map.view_is in
    let lt = c.if-k-choose.false in
    let few : c.args.k < choose m.elements (m.rank - 2) = omega (arith, end, lt) in
    subst (λ b. IsTrue b ↔ IsUnbalancedAt m c.args.k) (sym c.is_some.ensures)
    (some_unbalanced m c.args.k c.unrank-p.result.elements c.first_unbalanced_of.result few
    (c.unrank-p.ensures.elements ∙ ap (λ m. subset_at m.elements (m.rank - 2) c.args.k) c.map.view_is)
    c.first_unbalanced_of.ensures.none c.first_unbalanced_of.ensures.first)
