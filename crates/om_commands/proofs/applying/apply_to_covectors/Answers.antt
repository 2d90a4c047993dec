use Rattle.std.specs.Prelude.{◌≡◌, None}
use Rattle.std.proofs.Common.{subst}
use Rattle.om_reply.specs.Above.{first_above}
use Rattle.om_commands.specs.Operations.{IsLawful, named_elements}
use Rattle.om_commands.proofs.AboveLaws.{mask_below}
use Rattle.om_commands.proofs.OperationLaws.{dual_outcome, dual_unmade}
use Rattle.om_commands.proofs.applying.apply_to_covectors.Goals as goal

pub reorient_covectors-requires : goal.reorient_covectors-requires
reorient_covectors-requires c =
    mask_below c.args.covectors.elements c.in-Reorient.mask (subst IsLawful c.in-Reorient.is c.requires.lawful)
    (subst (λ o. first_above c.args.covectors.elements (named_elements o) ≡ None) c.in-Reorient.is c.requires.within)

pub returns-in_ok-made-in-Dual : goal.returns-in_ok-made-in-Dual
returns-in_ok-made-in-Dual c =
    let d = c.in_ok-made-in-Dual.ensures in
    rw c.in-Dual.is (dual_outcome c.args.covectors c.in_ok-made-in-Dual.made d.elements d.dual d.narrow d.few)

pub returns-in_err-made-in-Dual : goal.returns-in_err-made-in-Dual
returns-in_err-made-in-Dual c =
    rw c.in-Dual.is
    (dual_unmade c.args.covectors c.from_residual.result _ c.from_residual.ensures.1
    c.in_err-made-in-Dual.ensures.refused)
