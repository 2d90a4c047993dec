use Rattle.std.proofs.Common.{◌≡◌, rules, tests}
use Rattle.std.proofs.lemmas.Option.{IfSome_then}
use Rattle.om_signs.specs.declared.sign.Sign.TheVariants.{Zero}
use Rattle.om_subsets.proofs.SetChains.{all_sets_of, callable_at_sets, finds_first}
use Rattle.om_chirotope.specs.Map.{chi_of}
use Rattle.om_chain.proofs.Pairs.{FindsZero, uniform_from, first_found}
use Rattle.om_chain.proofs.fitting.first_zero.Goals as goal
use Rattle.om_chain.proofs.fitting.first_zero.Goals.{After-find}

pub find-requires-clause-callable : goal.find-requires-clause-callable
find-requires-clause-callable c =
    callable_at_sets c.args.chi.now.elements c.args.chi.now.rank
    (all_sets_of c.all.ensures.sets c.elements.ensures.value c.rank.ensures.value) (λ x q k. search (rules, tests))
    (λ x set. let n = set.n_is in let s = set.size in search rules)

-- the call of `find` gives the first set with the sign zero
found : (c : After-find) → FindsZero c.args.chi.now c.find.result
found c =
    finds_first c.args.chi.now.elements c.args.chi.now.rank (λ xs. chi_of c.args.chi.now xs ≡ Zero)
    (λ xs. chi_of c.args.chi.now xs ≡ Zero → ⊥)
    (all_sets_of c.all.ensures.sets c.elements.ensures.value c.rank.ensures.value) _ _ c.find.result
    c.find.ensures.ran (λ x q k. search (rules, tests)) (λ x q k. search (rules, tests))

pub returns-clause-none : goal.returns-clause-none
returns-clause-none c = uniform_from c.args.chi.now c.find.result (found c)

pub returns-clause-some : goal.returns-clause-some
returns-clause-some c = IfSome_then c.find.result (found c).first (first_found c.args.chi.now)
