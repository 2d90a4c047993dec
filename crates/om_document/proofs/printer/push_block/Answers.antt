use Rattle.std.specs.Prelude.{decimal, [], ◌∷◌}
use Rattle.std.proofs.Common.{◌∙◌, sym, append_assoc}
use Rattle.om_document.proofs.Printing.{pushed}
use Rattle.om_document.proofs.printer.push_block.Goals as goal

pub returns : goal.returns
returns c =
    pushed c.push_bytes.result _ _ _ _ (c.as_slice.ensures.value ∙ c.in_ok-text.ensures
    ∙ sym (append_assoc (decimal c.args.block.first) (45 ∷ decimal c.args.block.last) (10 ∷ []))) c.push_bytes.ensures
