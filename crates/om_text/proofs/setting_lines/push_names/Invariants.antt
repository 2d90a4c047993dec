use Rattle.std.proofs.Common.{◌≤◌, length}
use Rattle.om_lines.specs.Lines.{runs}
use Rattle.om_document.proofs.NameForms.{AreKept}
use Rattle.om_text.proofs.setting_lines.push_names.Given as goal

abbrev pub invariant-loop-word : goal.invariant-loop-word
invariant-loop-word l = record {
  kept : AreKept (runs l.words) l.names (runs l.rest);
  few : length l.names ≤ l.elements;
}

abbrev pub decreases-loop-word : goal.decreases-loop-word
decreases-loop-word l = length l.rest
