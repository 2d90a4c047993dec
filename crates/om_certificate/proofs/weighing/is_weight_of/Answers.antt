use Rattle.std.proofs.Common.{rules, ◌≡◌, sym, ◌∙◌}
use Rattle.std.proofs.lemmas.Bool.{false≢true}
use Rattle.om_certificate.specs.Weights.{bracket_of}
use Rattle.om_certificate.proofs.Reasons.{weight_of_triple}
use Rattle.om_certificate.proofs.Triples.{increasing_triple}
use Rattle.om_certificate.proofs.weighing.is_weight_of.Goals as goal

pub returns-then-not-is_of_triple : goal.returns-then-not-is_of_triple
returns-then-not-is_of_triple c = (
  λ h. absurd (false≢true h),
  λ e. absurd
      (false≢true (sym c.if-not-is_of_triple.true
      ∙ c.is_of_triple.ensures.1
      (weight_of_triple _ _ c.args.weight c.args.bracket.elements c.n-n.ensures.value c.requires.lawful c.requires.size
      e))),
)

pub returns : goal.returns
returns c =
    let t = c.is_of_triple.ensures.0 c.if-not-is_of_triple.false in
    let made : c.triple.result.elements ≡ bracket_of c.args.weight = c.triple.ensures.elements
    ∙ increasing_triple c.args.weight.a c.args.weight.b c.args.weight.c t.a_b t.b_c in
    search rules
