use Rattle.std.proofs.Common.{rules}
use Rattle.std.proofs.lemmas.Int.{ints}
use Rattle.om_make.proofs.generator.Generator.draw.Goals as goal

pub returns-clause-value : goal.returns-clause-value
returns-clause-value c = search (ints, rules, c.from-2.ensures)
