use Rattle.om_lines.specs.Lines.{lines}
use Rattle.om_answer.proofs.OneReading.{same_claim, same_fault, no_fault, claim_or_fault}
use Rattle.om_answer.proofs.laws.bytes_have_one_reading.Goals as goal

pub returns-clause-value : goal.returns-clause-value
returns-clause-value c = λ bytes. same_claim (lines bytes)

pub returns-clause-fault : goal.returns-clause-fault
returns-clause-fault c = λ bytes. same_fault (lines bytes)

pub returns-clause-apart : goal.returns-clause-apart
returns-clause-apart c = λ bytes. no_fault (lines bytes)

pub returns-clause-either : goal.returns-clause-either
returns-clause-either c = λ bytes. claim_or_fault (lines bytes)
