use Rattle.std.proofs.Common.{arith}
use Rattle.om_decide.proofs.Few.{few_statements, few_rows}
use Rattle.om_decide.proofs.laws.few_rows_and_columns.Goals as goal

pub returns-clause-rows : goal.returns-clause-rows
returns-clause-rows c = λ m small. let h = few_rows m small in omega arith

pub returns-clause-columns : goal.returns-clause-columns
returns-clause-columns c = λ m ss columns small are. let e = are.size in let h = few_statements m small ss are.all in
    omega arith
