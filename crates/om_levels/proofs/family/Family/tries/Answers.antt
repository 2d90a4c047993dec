use Rattle.std.proofs.Common.{IsTrue, ◌↔◌, sym, subst}
use Rattle.om_levels.specs.Families.{IsHalfOf}
use Rattle.om_levels.proofs.family.Family.tries.Goals as goal

pub returns-in-Simple : goal.returns-in-Simple
returns-in-Simple c = subst (λ f. IsTrue c.is_simple_half.result ↔ IsHalfOf f c.args.n c.args.signature)
    (sym c.in-Simple.is) c.is_simple_half.ensures

pub returns-in-Uniform : goal.returns-in-Uniform
returns-in-Uniform c = subst (λ f. IsTrue c.is_uniform_half.result ↔ IsHalfOf f c.args.n c.args.signature)
    (sym c.in-Uniform.is) c.is_uniform_half.ensures
