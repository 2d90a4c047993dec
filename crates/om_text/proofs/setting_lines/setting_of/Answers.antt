use Rattle.std.proofs.Common.{sym, ap, ◌∙◌}
use Rattle.om_lines.specs.Lines.{runs}
use Rattle.om_document.specs.Settings.{setting_in}
use Rattle.om_text.proofs.setting_lines.setting_of.Goals as goal

pub returns-in-Chirotope : goal.returns-in-Chirotope
returns-in-Chirotope c = c.order_of.ensures c.in-Chirotope.field-0
    ∙ ap (λ b. setting_in b (runs c.args.line.now)) (sym c.in-Chirotope.is)
