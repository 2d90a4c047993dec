use Rattle.std.proofs.Common.{ap, ◌∙◌, sym, subst, ◌<◌, ◌↔◌, arith}
use Rattle.std.specs.Prelude.{IsTrue}
use Rattle.om_subsets.specs.Subsets.{choose}
use Rattle.om_threeterm.specs.Sets.{IsUnexchangedAt}
use Rattle.om_threeterm.proofs.ExchangeLaws.{some_unexchanged}
use Rattle.om_threeterm.proofs.exchanges.BasesProbe.bad.Goals as goal

pub returns : goal.returns
returns c =
    let m = c.args.self.now.map.now in
    let end = c.choose.ensures.value ∙ ap (λ m. choose m.elements m.rank) c.map.view_is in
    let lt = c.if-k-choose.false in
    let few : c.args.k < choose m.elements m.rank = omega (arith, end, lt) in
    subst (λ b. IsTrue b ↔ IsUnexchangedAt m c.args.k) (sym c.is_some.ensures)
    (some_unexchanged m c.args.k c.set_at.result.elements c.first_unexchanged_of.result few c.set_at.ensures.elements
    c.first_unexchanged_of.ensures.none c.first_unexchanged_of.ensures.first)
