use Rattle.std.proofs.Common.{◌+◌, arith}
use Rattle.om_grassmann.proofs.Counting.{same_number, before_first, number_next, number_last, none_lawful}
use Rattle.om_grassmann.proofs.Counting.{number_exceeds}
use Rattle.om_grassmann.proofs.Listed.{listed_numbers}
use Rattle.om_grassmann.proofs.laws.numbers_of_lawful_statements.Goals as goal

pub returns-clause-unique : goal.returns-clause-unique
returns-clause-unique c = same_number

pub returns-clause-first : goal.returns-clause-first
returns-clause-first c = before_first

pub returns-clause-next : goal.returns-clause-next
returns-clause-next c = number_next

pub returns-clause-last : goal.returns-clause-last
returns-clause-last c = λ m k s h l. number_last m k (k + 1) s h l (omega arith)

pub returns-clause-none : goal.returns-clause-none
returns-clause-none c = none_lawful

pub returns-clause-past : goal.returns-clause-past
returns-clause-past c = λ m k s a h. number_exceeds m k s h a

pub returns-clause-listed : goal.returns-clause-listed
returns-clause-listed c = listed_numbers
