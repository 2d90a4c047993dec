use Rattle.std.proofs.Common.{◌∙◌, rules, tests}
use Rattle.std.proofs.lemmas.Iterator.{YieldsList-from_slice}
use Rattle.std.proofs.lemmas.Iterator.Search.{position_from_yields_List}
use Rattle.om_lines.specs.Lines.{is_blank}
use Rattle.om_lines.proofs.Scan.{position_or, position_le}
use Rattle.om_lines.proofs.lines.word_len.Goals as goal

pub returns-clause-value : goal.returns-clause-value
returns-clause-value c = c.unwrap_or.ensures ∙ position_or _ c.args.line.now c.position.result
    (position_from_yields_List is_blank _ _ c.position.result c.position.ensures.ran
    (YieldsList-from_slice c.args.line.now cc) (λ x b q k. search (rules, tests)))

pub returns-clause-within : goal.returns-clause-within
returns-clause-within c = rw (returns-clause-value c) (position_le _ c.args.line.now)
