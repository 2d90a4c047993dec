use Rattle.std.proofs.Common.{◌≡◌, length}
use Rattle.om_parallel.specs.Parts.{AreGivenFrom}
use Rattle.om_parallel.proofs.part.map_alone.Given as goal

abbrev pub invariant-loop-k : goal.invariant-loop-k
invariant-loop-k g l = record {
  size : length l.answers.items ≡ l.k;
  given : AreGivenFrom (g.P.Part.gives l.parts) 0 l.answers.items;
}
