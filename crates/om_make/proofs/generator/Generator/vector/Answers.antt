use Rattle.std.proofs.Common.{◌∙◌}
use Rattle.om_make.proofs.GeneratorLaws.{small_vector, made_some, made_value, drawn_vector}
use Rattle.om_make.proofs.generator.Generator.vector.Goals as goal

pub unwrap-requires : goal.unwrap-requires
unwrap-requires c =
    made_some _ _ _ c.new.ensures
    (small_vector c.draw-x.result c.draw-y.result c.draw-z.result c.draw-x.ensures.size c.draw-y.ensures.size
    c.draw-z.ensures.size)

pub returns-clause-value : goal.returns-clause-value
returns-clause-value c =
    made_value _ _ _ _ c.new.ensures c.unwrap.ensures
    ∙ drawn_vector c.args.self.now.state _ _ _ _ _ _ c.draw-x.ensures.state c.draw-y.ensures.state
    c.draw-z.ensures.state c.draw-x.ensures.value c.draw-y.ensures.value c.draw-z.ensures.value
    c.draw-x.ensures.size c.draw-y.ensures.size c.draw-z.ensures.size
