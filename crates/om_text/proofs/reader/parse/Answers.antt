use Rattle.om_lines.specs.Lines.{lines}
use Rattle.om_text.proofs.Outcome.{comes_document, comes_form, comes_fault, comes_every, comes_first}
use Rattle.om_text.proofs.reader.parse.Goals as goal

pub returns : goal.returns
returns c = record {
  document = comes_document c.whole.result (lines c.args.bytes.now) c.whole.ensures;
  form = comes_form c.whole.result (lines c.args.bytes.now) c.whole.ensures;
  every = λ d o. comes_every c.whole.result (lines c.args.bytes.now) d c.whole.ensures o;
  fault = comes_fault c.whole.result (lines c.args.bytes.now) c.whole.ensures;
  first = λ l k f. comes_first c.whole.result (lines c.args.bytes.now) l k c.whole.ensures f;
}
