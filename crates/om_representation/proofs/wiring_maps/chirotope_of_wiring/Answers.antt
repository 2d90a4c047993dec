use Rattle.std.proofs.lemmas.Result.{on_ok_weaker}
use Rattle.om_representation.proofs.wiring_maps.chirotope_of_wiring.Goals as goal

pub bent_chirotope-requires : goal.bent_chirotope-requires
bent_chirotope-requires c = rw (c.in-Ok.ensures.elements, c.in-Ok.ensures.blocks) c.in-Ok.ensures.axioms

pub returns-in-Ok-clause-value : goal.returns-in-Ok-clause-value
returns-in-Ok-clause-value c = rw (c.in-Ok.ensures.elements, c.in-Ok.ensures.blocks) at c.bent_chirotope.ensures.value

pub returns-in-Ok-clause-axioms : goal.returns-in-Ok-clause-axioms
returns-in-Ok-clause-axioms c =
    on_ok_weaker c.bent_chirotope.result (λ bent. c.in-Ok.ensures.axioms) c.bent_chirotope.ensures.bent

pub returns-in-Ok-clause-bent : goal.returns-in-Ok-clause-bent
returns-in-Ok-clause-bent c = rw (c.in-Ok.ensures.elements, c.in-Ok.ensures.blocks) at c.bent_chirotope.ensures.bent

pub returns-in-Ok-clause-refused : goal.returns-in-Ok-clause-refused
returns-in-Ok-clause-refused c =
    rw (c.in-Ok.ensures.elements, c.in-Ok.ensures.blocks) at c.bent_chirotope.ensures.refused
