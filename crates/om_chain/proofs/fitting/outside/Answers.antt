use Rattle.std.proofs.Common.{refl, sym, subst, ◌∙◌}
use Rattle.om_levels.specs.Families.{IsOfFamily}
use Rattle.om_chain.proofs.fitting.outside.Goals as goal

pub returns-in_err-e-in-Simple-clause-none : goal.returns-in_err-e-in-Simple-clause-none
returns-in_err-e-in-Simple-clause-none c = λ none.
    let m = c.args.chi.now in
    subst (λ f. IsOfFamily f m.elements m) (sym c.in-Simple.is)
    (record {
      axioms = c.rank.ensures.lawful;
      rank = c.requires;
      elements = refl;
      simple = c.in_err-e-in-Simple.ensures.none refl;
    })

pub returns-in_err-set-in-Uniform-clause-none : goal.returns-in_err-set-in-Uniform-clause-none
returns-in_err-set-in-Uniform-clause-none c = λ none.
    let m = c.args.chi.now in
    subst (λ f. IsOfFamily f m.elements m) (sym c.in-Uniform.is)
    (record {
      axioms = c.rank.ensures.lawful;
      rank = c.requires;
      elements = refl;
      uniform = c.in_err-set-in-Uniform.ensures.none refl;
    })

pub returns-in_ok-e-in-Simple-clause-some : goal.returns-in_ok-e-in-Simple-clause-some
returns-in_ok-e-in-Simple-clause-some c = λ chain q. (q ∙ c.in-Simple.is, c.in_ok-e-in-Simple.ensures.some)

pub returns-in_ok-set-in-Uniform-clause-some : goal.returns-in_ok-set-in-Uniform-clause-some
returns-in_ok-set-in-Uniform-clause-some c = λ chain q. (q ∙ c.in-Uniform.is, c.in_ok-set-in-Uniform.ensures.some)
