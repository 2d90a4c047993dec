use Rattle.std.proofs.Common.{refl, ap, subst, ◌∙◌}
use Rattle.om_vectors.specs.Realizations.{IsRankLow, signs_map}
use Rattle.om_representation.proofs.point_vectors.chirotope_of_points.Goals as goal

pub returns-in-Ok-clause-value : goal.returns-in-Ok-clause-value
returns-in-Ok-clause-value c =
    c.in-Ok.ensures.value ∙ ap signs_map (c.as_slice.ensures.value ∙ c.word_of-word.ensures)

pub returns-in-Err-RankLow-clause-refused : goal.returns-in-Err-RankLow-clause-refused
returns-in-Err-RankLow-clause-refused c =
    let low = c.signs_of.ensures.rank_low.0 (cc) in
    (refl, subst IsRankLow (c.as_slice.ensures.value ∙ c.word_of-word.ensures) low)
