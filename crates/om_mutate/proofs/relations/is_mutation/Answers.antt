use Rattle.std.proofs.Common.{◌≢◌, ◌∙◌, rules, arith}
use Rattle.om_signs.specs.declared.sign.Sign.TheVariants.{Zero}
use Rattle.om_mutate.proofs.TurnedRelations.{mutation_by_relations}
use Rattle.om_mutate.proofs.relations.is_mutation.Goals as goal

pub returns : goal.returns
returns c =
    let nonzero : c.at.result ≢ Zero = search rules in
    let three = c.three_elements-a.ensures in
    let k = mutation_by_relations c.args.chi.now c.args.triple.elements _ _ _ c.requires.lawful c.requires.rank
    three.elements three.low three.second three.third (omega arith) in (
      λ h. k.0 (c.stays_balanced_around.ensures.0 h) (λ z. nonzero (c.at.ensures.place ∙ z)),
      λ u. c.stays_balanced_around.ensures.1 (k.1 u),
    )

pub returns-then-eq : goal.returns-then-eq
returns-then-eq c = search rules
