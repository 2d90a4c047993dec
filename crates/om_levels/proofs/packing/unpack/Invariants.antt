use Rattle.std.proofs.Common.{◌≡◌, ◌+◌, ◌/◌, ◌%◌, map, slice_index_or}
use Rattle.std.specs.List.{range_with_len}
use Rattle.om_levels.specs.Packing.{sign_in}
use Rattle.om_levels.proofs.packing.unpack.Given as goal

abbrev pub invariant-loop-place : goal.invariant-loop-place
invariant-loop-place l =
    l.signs ≡ map (λ p. sign_in (slice_index_or l.bytes (l.from + p / 4) 0) (p % 4)) (range_with_len 0 l.place)
