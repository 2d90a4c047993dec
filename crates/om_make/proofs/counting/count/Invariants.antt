use Rattle.std.proofs.Common.{◌≡◌, ◌≤◌, take}
use Rattle.om_make.specs.Tallies.{count_of}
use Rattle.om_make.proofs.counting.count.Given as goal

abbrev pub invariant-loop-sign : goal.invariant-loop-sign
invariant-loop-sign l = record {
  value : l.found ≡ count_of l.wanted (take l.sign-index l.signs);
  few : l.found ≤ l.sign-index;
}
