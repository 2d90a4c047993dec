use Rattle.std.proofs.Common.{refl}
use Rattle.om_callers.proofs.reading.covectors_of_text.Goals as goal

-- src/reading.rt:30:1
pub returns-in-Ok : goal.returns-in-Ok
returns-in-Ok g c = record {
  covectors = cc;
  cause = record {
    other = c.in-Ok.document.body;
    text = record { document = c.in-Ok.document; reads = c.in-Ok.ensures.document; same = refl };
    no_map = c.in_default.not-Chirotope;
  };
}
