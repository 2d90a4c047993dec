use Rattle.std.proofs.Common.{sym, ◌∙◌}
use Rattle.om_points.specs.Slabs.{corner}
use Rattle.om_points.proofs.CandidateOrder.{same_vector}
use Rattle.om_points.proofs.Codes.{short_back}
use Rattle.om_points.proofs.Sizes.{read_back}
use Rattle.om_points.proofs.short_vector.ShortVector.corner.Goals as goal

pub invariant_of-result : goal.invariant_of-result
invariant_of-result c =
    record {
      x = short_back c.x.result c.x.ensures.size;
      y = short_back c.choice.result c.choice.ensures.size;
      z =
          short_back c.choice-2.result c.choice-2.ensures.size;
    }

pub returns : goal.returns
returns c =
    let size = c.greatest-size.ensures.size in
    let value = c.greatest-size.ensures.value in
    same_vector _ (corner c.args.self c.args.rows c.args.far c.args.high)
    (read_back c.x.result c.args.self.x c.x.ensures.size c.x.ensures.value)
    (read_back c.choice.result _ c.choice.ensures.size
    (c.choice.ensures.value
    ∙ simp (
      read_back _ _ c.row.ensures.size (sym c.row.ensures.value),
      read_back _ _ c.y.ensures.size c.y.ensures.value,
    )))
    (read_back c.choice-2.result _ c.choice-2.ensures.size
    (c.choice-2.ensures.value
    ∙ simp (read_back _ _ size (sym value), read_back _ _ c.lowest.ensures.size (sym c.lowest.ensures.value))))
