-- The values of a map that stand in reverse lexicographic order.
--
-- Main definitions: value_at
-- Main results: value_is, the value that stands at the place of a set
use Rattle.std.proofs.Common.{◌≡◌, ℕ, List, sym, ap, ◌∙◌}
use Rattle.std.specs.Prelude.{Some, slice_get, slice_index_or}
use Rattle.std.proofs.lemmas.Option.{get_or_from_slice_get}
use Rattle.om_signs.specs.declared.raw_map.RawMap.{RawMap}
use Rattle.om_signs.specs.declared.sign.Sign.{Sign}
use Rattle.om_signs.specs.declared.sign.Sign.TheVariants.{Zero}
use Rattle.om_subsets.specs.Reverse.{revlex_rank_of}

-- the value of a set, where the values stand in reverse lexicographic order
abbrev pub value_at : RawMap → List ℕ → Sign
value_at m s = slice_index_or m.signs (revlex_rank_of s) Zero

pub value_is : (m : RawMap) (s : List ℕ) (k : ℕ) (x : Sign) → k ≡ revlex_rank_of s → slice_get m.signs k ≡ Some x
    → x ≡ value_at m s
value_is m s k x e h =
    sym (get_or_from_slice_get m.signs (revlex_rank_of s) x Zero (ap (slice_get m.signs) (sym e) ∙ h))
