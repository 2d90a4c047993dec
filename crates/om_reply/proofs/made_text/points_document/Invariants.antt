use Rattle.std.specs.Prelude.{All}
use Rattle.std.proofs.Common.{◌≡◌, map, take}
use Rattle.om_document.specs.Form.{IsPoint}
use Rattle.om_reply.specs.VerdictText.{vector_numbers}
use Rattle.om_reply.proofs.made_text.points_document.Given as goal

abbrev pub invariant-loop-v : goal.invariant-loop-v
invariant-loop-v l = record {
  points : l.points ≡ map vector_numbers (take l.v-index l.vectors);
  each : All IsPoint l.points;
}
