use Rattle.std.proofs.Common.{◌∙◌}
use Rattle.om_commands.proofs.KeepingLaws.{wiring_kept}
use Rattle.om_commands.proofs.keeping.keep_wiring.Goals as goal

pub returns-in-Ok : goal.returns-in-Ok
returns-in-Ok c = wiring_kept c.args.elements c.args.blocks c.into_blocks.result c.args.names
    (c.into_blocks.ensures.value ∙ c.in-Ok.ensures.blocks) c.in-Ok.ensures.axioms

pub returns-in-Err : goal.returns-in-Err
returns-in-Err c = c.in-Err.ensures.refused
