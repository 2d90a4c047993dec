use Rattle.om_document.proofs.PrintingTwo.{after_spaces, names_more}
use Rattle.om_document.proofs.Pushes.{taken_all}
use Rattle.om_document.proofs.printer_two.push_names.Goals as goal

pub loop-name-preserved : goal.loop-name-preserved
loop-name-preserved c = names_more c.args.out.now.items _ _ c.args.names.now c.loop-name.name-index c.name-item.result
    c.loop-name-test.true c.name-item.is c.loop-name.invariant c.in_ok-push_name.ensures

pub returns : goal.returns
returns c =
    taken_all after_spaces c.args.names.now c.loop-name.name-index c.loop-name.out.items c.args.out.now.items
    c.loop-name-test.false c.loop-name.invariant
