use Rattle.om_chirotope.proofs.Words.{mark_more, mark_others}
use Rattle.om_chirotope.proofs.marking.mark.Goals as goal

pub returns-clause-here : goal.returns-clause-here
returns-clause-here c = mark_more c.args.words.now c.args.set c.requires

pub returns-clause-others : goal.returns-clause-others
returns-clause-others c = λ j n. mark_others c.args.words.now c.args.set j c.requires n
