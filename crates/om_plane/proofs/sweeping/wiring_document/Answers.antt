use Rattle.om_plane.proofs.SweepLaws.{wiring_in_form}
use Rattle.om_plane.proofs.sweeping.wiring_document.Goals as goal

pub returns-clause-form : goal.returns-clause-form
returns-clause-form c = wiring_in_form _ _ _ _ c.new.result c.new.ensures c.elements-elements.ensures.value
    c.into_blocks.ensures.value c.elements-elements.ensures.low c.elements-elements.ensures.high
    c.into_blocks.ensures.few c.into_blocks.ensures.lawful
