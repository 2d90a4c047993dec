use Rattle.std.proofs.Common.{◌+◌, ap, rules, tests}
use Rattle.om_signs.specs.SignVec.{IsOrthogonal}
use Rattle.om_subsets.proofs.SetChains.{all_sets_of, callable_at_sets, holds_of_all}
use Rattle.om_chirotope.specs.Map.{circuit_vector}
use Rattle.om_oriented.proofs.chirotopes.is_orthogonal_to_all.Goals as goal

pub all-requires-2-clause-callable : goal.all-requires-2-clause-callable
all-requires-2-clause-callable c =
    callable_at_sets c.args.chi.now.elements (c.args.chi.now.rank + 1)
    (all_sets_of c.all.ensures.sets c.elements.ensures.value (ap (λ r. r + 1) c.rank.ensures.value))
    (λ x q k. search (rules, tests))
    (λ x set. let n = set.n_is in let s = set.size in search rules)

pub returns : goal.returns
returns c =
    let all =
    holds_of_all c.args.chi.now.elements (c.args.chi.now.rank + 1)
    (λ t. IsOrthogonal c.args.x (circuit_vector c.args.chi.now t))
    (all_sets_of c.all.ensures.sets c.elements.ensures.value (ap (λ r. r + 1) c.rank.ensures.value)) _ _
    c.all-2.result c.all-2.ensures.ran (λ x q k. search (rules, tests)) (λ x q k. search (rules, tests)) in
    (λ e. record { size = c.requires; orthogonal = all.0 e }, λ h. all.1 h.orthogonal)
