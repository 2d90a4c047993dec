use Rattle.om_document.proofs.PrintingTwo.{value_read}
use Rattle.om_document.proofs.printer_two.value_at.Goals as goal

pub returns : goal.returns
returns c = value_read c.args.raw.now c.args.place _ _ _ c.at.result c.requires.place c.unrank_revlex-subset.ensures.n
    c.unrank_revlex-subset.ensures.elements c.rank.ensures.value c.at.ensures
