use Rattle.std.proofs.Common.{◌≡◌, rules, tests}
use Rattle.om_signs.specs.declared.sign.Sign.TheVariants.{Zero}
use Rattle.om_subsets.proofs.SetChains.{callable_at_sets, holds_of_all}
use Rattle.om_wiring.specs.Maps.{crossing_sign}
use Rattle.om_wiring.proofs.FlatLaws.{flat_from, flat_sign}
use Rattle.om_wiring.proofs.chirotopes.is_flat.Goals as goal

pub all-requires-2-clause-callable : goal.all-requires-2-clause-callable
all-requires-2-clause-callable c =
    callable_at_sets c.args.elements 3 c.all.ensures.sets (λ x q k. search (rules, tests))
    (λ x set. let s = set.size in search rules)

pub returns : goal.returns
returns c =
    let all =
    holds_of_all c.args.elements 3 (λ t. crossing_sign c.args.blocks.now t ≡ Zero) c.all.ensures.sets _ _
    c.all-2.result c.all-2.ensures.ran (λ x q k. search (rules, tests)) (λ x q k. search (rules, tests)) in
    (λ e. flat_from c.args.elements c.args.blocks.now (all.0 e), λ f. all.1 (flat_sign _ _ f))
