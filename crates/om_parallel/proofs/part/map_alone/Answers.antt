use Rattle.std.proofs.Common.{◌≡◌, ◌+◌, ◌∷◌, [], length, length-append, sym, ◌∙◌, ap, subst, arith}
use Rattle.om_parallel.specs.Parts.{AreGivenFrom}
use Rattle.om_parallel.proofs.PartLaws.{given_more}
use Rattle.om_parallel.proofs.part.map_alone.Goals as goal

pub loop-k-preserved : goal.loop-k-preserved
loop-k-preserved g c =
    let size = c.loop-k.invariant.size in
    let gives = g.P.Part.gives c.args.parts.now in
    let next : c.loop-k.k ≡ 0 + length c.loop-k.answers.items = omega (arith, size) in
    record {
      size = ap length c.in_ok-push.ensures.items ∙ length-append c.loop-k.answers.items (c.part.result ∷ [])
          ∙ ap (λ k. k + 1) size;
      given = subst (AreGivenFrom gives 0) (sym c.in_ok-push.ensures.items)
          (given_more gives 0 c.loop-k.answers.items c.part.result c.loop-k.invariant.given
          (subst (λ k. gives k c.part.result) next c.part.ensures));
    }
