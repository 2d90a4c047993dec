use Rattle.om_existence.proofs.Inputs.{answer_possible}
use Rattle.om_existence.proofs.laws.every_input_has_an_answer.Goals as goal

pub returns : goal.returns
returns c = answer_possible
