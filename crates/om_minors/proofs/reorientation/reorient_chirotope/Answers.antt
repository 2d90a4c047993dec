use Rattle.std.proofs.Common.{sym, ◌∙◌, ap, subst}
use Rattle.om_chirotope.specs.Chirotope.{IsChirotope}
use Rattle.om_denotation.specs.Maps.{IsNormalFormOf}
use Rattle.om_minors.specs.Minors.{reoriented_on}
use Rattle.om_minors.proofs.Turning.{reoriented_axioms, is_reorientation}
use Rattle.om_minors.proofs.reorientation.reorient_chirotope.Goals as goal

pub lawful-requires-clause-axioms : goal.lawful-requires-clause-axioms
lawful-requires-clause-axioms c =
    subst IsChirotope (sym (c.turned.ensures ∙ ap (reoriented_on c.args.mask) c.into_raw.ensures.value))
    (reoriented_axioms c.args.chi c.into_raw.ensures.lawful c.args.mask)

pub returns-clause-reorientation : goal.returns-clause-reorientation
returns-clause-reorientation c =
    is_reorientation c.args.chi c.into_raw.ensures.lawful c.args.mask c.normal.result
    (subst (λ k. IsNormalFormOf k c.normal.result)
    (c.lawful.ensures ∙ c.turned.ensures ∙ ap (reoriented_on c.args.mask) c.into_raw.ensures.value)
    (record { same = c.normal.ensures.same; normal = c.normal.ensures.normal }))
