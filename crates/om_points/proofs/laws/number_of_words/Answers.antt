use Rattle.om_points.proofs.Budgets.{candidates_number, words_number}
use Rattle.om_points.proofs.laws.number_of_words.Goals as goal

pub returns-clause-candidates : goal.returns-clause-candidates
returns-clause-candidates c = λ box. candidates_number box

pub returns-clause-words : goal.returns-clause-words
returns-clause-words c = λ box s. words_number box s
