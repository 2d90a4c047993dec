use Rattle.std.proofs.Common.{◌∙◌, rules, tests}
use Rattle.std.proofs.lemmas.Iterator.{YieldsList-from_slice}
use Rattle.std.proofs.lemmas.Iterator.Search.{all_from_yields_List}
use Rattle.om_lines.specs.Lines.{is_blank}
use Rattle.om_lines.proofs.Scan.{all_blank}
use Rattle.om_lines.proofs.lines.has_no_words.Goals as goal

pub returns : goal.returns
returns c =
    all_from_yields_List is_blank _ _ c.all.result c.all.ensures.ran (YieldsList-from_slice c.args.line.now cc)
    (λ x b q k. search (rules, tests)) ∙ all_blank c.args.line.now
