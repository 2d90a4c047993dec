use Rattle.std.proofs.Common.{ℕ, ◌+◌, ◌/◌, ◌%◌, ◌++◌, ◌∷◌, [], ◌∙◌, sym, ap, map, slice_index_or, arith}
use Rattle.std.specs.List.{range_with_len}
use Rattle.std.proofs.lemmas.List.FromFn.{map-range_with_len_more}
use Rattle.om_levels.specs.Packing.{sign_in}
use Rattle.om_levels.proofs.packing.unpack.Goals as goal

pub loop-place-preserved : goal.loop-place-preserved
loop-place-preserved c =
    let f = λ (p : ℕ). sign_in (slice_index_or c.args.bytes.now (c.args.from + p / 4) 0) (p % 4) in
    let k = c.loop-place.place in
    c.in_ok-push.ensures.ok ∙ ap (λ xs. xs ++ c.sign_in.result ∷ []) c.loop-place.invariant
    ∙ ap (λ s. map f (range_with_len 0 k) ++ s ∷ []) c.sign_in.ensures
    ∙ sym (map-range_with_len_more f 0 k k (omega arith))
