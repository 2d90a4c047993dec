use Rattle.std.specs.Prelude.{◌≡◌, None}
use Rattle.std.proofs.Common.{subst, rules}
use Rattle.om_reply.specs.Above.{first_above}
use Rattle.om_commands.specs.Operations.{IsLawful, named_elements}
use Rattle.om_commands.proofs.AboveLaws.{mask_below}
use Rattle.om_commands.proofs.OperationLaws.{circuits_deleted}
use Rattle.om_commands.proofs.applying.apply_to_circuits.Goals as goal

pub reorient_circuits-requires : goal.reorient_circuits-requires
reorient_circuits-requires c =
    mask_below c.args.circuits.0.elements c.in-Reorient.mask (subst IsLawful c.in-Reorient.is c.requires.lawful)
    (subst (λ o. first_above c.args.circuits.0.elements (named_elements o) ≡ None) c.in-Reorient.is c.requires.within)

pub returns-in_ok-made-in-Delete : goal.returns-in_ok-made-in-Delete
returns-in_ok-made-in-Delete c =
    let made = c.in_ok-made-in-Delete.ensures in
    rw c.in-Delete.is
    (circuits_deleted c.args.circuits.0 c.in_ok-made-in-Delete.made _ (λ one. let same = made.last_element.1 one in cc)
    made.elements (search rules))
