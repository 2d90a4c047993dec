use Rattle.std.specs.Prelude.{◌≡◌, None}
use Rattle.std.proofs.Common.{subst}
use Rattle.om_reply.specs.Above.{first_above}
use Rattle.om_commands.specs.Operations.{IsLawful, named_elements}
use Rattle.om_commands.proofs.AboveLaws.{mask_below}
use Rattle.om_representation.proofs.WidthLaws.{few_dual, few_deleted, few_contracted}
use Rattle.om_commands.proofs.applying.apply_to_chirotope.Goals as goal

pub reorient_chirotope-requires : goal.reorient_chirotope-requires
reorient_chirotope-requires c =
    mask_below c.args.chirotope.elements c.in-Reorient.mask (subst IsLawful c.in-Reorient.is c.requires.lawful)
    (subst (λ o. first_above c.args.chirotope.elements (named_elements o) ≡ None) c.in-Reorient.is c.requires.within)

pub returns-in_ok-dual-in-Dual-clause-few : goal.returns-in_ok-dual-in-Dual-clause-few
returns-in_ok-dual-in-Dual-clause-few c =
    let d = c.in_ok-dual-in-Dual.ensures in
    few_dual c.args.chirotope c.in_ok-dual-in-Dual.field-0 d.rank d.elements c.requires.few

pub returns-in-Delete-clause-few : goal.returns-in-Delete-clause-few
returns-in-Delete-clause-few c =
    let d = c.delete_chirotope.ensures in
    few_deleted _ c.args.chirotope.elements c.args.chirotope.rank c.delete_chirotope.result c.requires.few d.elements
    d.rank d.rank_at_coloop

pub returns-in-Contract-clause-few : goal.returns-in-Contract-clause-few
returns-in-Contract-clause-few c =
    let d = c.contract_chirotope.ensures in
    few_contracted _ c.args.chirotope.elements c.args.chirotope.rank c.contract_chirotope.result c.requires.few
    d.elements d.rank d.rank_at_loop
