use Rattle.std.proofs.Common.{◌≡◌, ◌++◌, length, map}
use Rattle.std.specs.List.{range_with_len}
use Rattle.om_levels.specs.Packing.{packed_byte}
use Rattle.om_levels.proofs.packing.push_packed.Given as goal

abbrev pub invariant-loop-k : goal.invariant-loop-k
invariant-loop-k l = record {
  begun : l.start ≡ length l.initial.bytes.items;
  made : l.bytes.items ≡ l.initial.bytes.items ++ map (packed_byte l.signs) (range_with_len 0 l.k);
}
