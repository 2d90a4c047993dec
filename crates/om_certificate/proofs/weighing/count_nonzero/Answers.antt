use Rattle.std.proofs.Common.{◌∙◌, refl, rules, tests}
use Rattle.std.proofs.lemmas.Iterator.Consumers.{count_from_yields_List, YieldsList-from_filter}
use Rattle.om_subsets.proofs.SetChains.{all_sets_of, callable_at_sets, gives_all_subsets}
use Rattle.om_chirotope.specs.Map.{chi_of}
use Rattle.om_certificate.specs.Weights.{is_nonzero}
use Rattle.om_certificate.proofs.weighing.count_nonzero.Goals as goal

pub count-requires-clause-can : goal.count-requires-clause-can
count-requires-clause-can c = (
  tt,
  tt,
  callable_at_sets c.args.chi.now.elements 3
      (all_sets_of {r = 3} {q = 3} (c.filter.ensures.source ∙ c.all.ensures.sets) c.elements.ensures.value refl)
      (λ x q k. search (rules, tests)) (λ x set. let n = set.n_is in let s = set.size in search rules),
)

pub returns : goal.returns
returns c =
    count_from_yields_List c.filter.result c.count.result c.count.ensures.ran
    (YieldsList-from_filter _ (λ b. is_nonzero (chi_of c.args.chi.now b))
    (gives_all_subsets c.args.chi.now.elements 3
    (all_sets_of {r = 3} {q = 3} (c.filter.ensures.source ∙ c.all.ensures.sets) c.elements.ensures.value refl))
    c.filter.ensures.closure (λ x b q k. search (rules, tests)))
