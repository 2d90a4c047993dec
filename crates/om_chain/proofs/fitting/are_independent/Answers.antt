use Rattle.std.proofs.Common.{◌≡◌, ◌∷◌, [], ap, ◌∙◌, arith}
use Rattle.std.proofs.lemmas.Bool.Decides.{nat_tests}
use Rattle.om_subsets.specs.Subsets.{with_element}
use Rattle.om_chain.proofs.Pairs.{pair_elements, pair_rank}
use Rattle.om_chain.proofs.fitting.are_independent.Goals as goal

pub returns : goal.returns
returns c =
    let e = c.args.e in
    let f = c.args.f in
    let q : c.with-pair.result.elements ≡ e ∷ f ∷ [] =
    c.with-pair.ensures.elements
    ∙ ap (with_element e) (c.with.ensures.elements ∙ ap (with_element f) c.first.ensures.elements)
    ∙ pair_elements e f c.requires.apart in
    let both = pair_rank c.args.chi.now e f c.requires.low c.requires.apart c.requires.high c.with-pair.result.elements
    c.rank_of.result q c.rank_of.ensures in
    (λ t. both.0 (grind (arith, nat_tests, t)), λ i. (let k = both.1 i in grind (arith, nat_tests, k)))
