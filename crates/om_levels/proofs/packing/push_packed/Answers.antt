use Rattle.std.proofs.Common.{◌≡◌, ◌++◌, ◌∷◌, [], ◌∙◌, sym, ap, cond, not, true, map, arith, append_assoc}
use Rattle.std.specs.List.{range_with_len}
use Rattle.std.specs.Result.{is_ok}
use Rattle.std.proofs.lemmas.List.FromFn.{map-range_with_len_more}
use Rattle.om_levels.specs.Packing.{packed_byte}
use Rattle.om_levels.proofs.packing.push_packed.Goals as goal

pub loop-k-preserved : goal.loop-k-preserved
loop-k-preserved c =
    let old = c.loop-k.bytes.items in
    let b = c.packed_byte.result in
    let f = packed_byte c.args.signs.now in
    let k = c.loop-k.k in
    let ok : is_ok c.push.result ≡ true = c.is_err.ensures.negation ∙ ap not c.if-is_err.false in
    let items : c.push.new.self.items ≡ old ++ b ∷ [] =
    c.push.ensures.items ∙ ap (λ t. cond t (old ++ b ∷ []) old) ok in
    record {
      begun = c.loop-k.invariant.begun;
      made = items ∙ ap (λ xs. xs ++ b ∷ []) c.loop-k.invariant.made
          ∙ append_assoc c.args.bytes.now.items (map f (range_with_len 0 k)) (b ∷ [])
          ∙ ap (λ x. c.args.bytes.now.items ++ (map f (range_with_len 0 k) ++ x ∷ [])) c.packed_byte.ensures
          ∙ ap (λ xs. c.args.bytes.now.items ++ xs) (sym (map-range_with_len_more f 0 k k (omega arith)));
    }
