use Rattle.std.proofs.Common.{rules, tests}
use Rattle.std.proofs.lemmas.Option.{IfSome_then}
use Rattle.om_subsets.proofs.SetChains.{all_sets_of, callable_at_sets, finds_first}
use Rattle.om_matroid.specs.Search.{IsBasisBetween}
use Rattle.om_matroid.proofs.WalkLaws.{FindsBetween, first_between, none_between}
use Rattle.om_matroid.proofs.search.first_between.Goals as goal
use Rattle.om_matroid.proofs.search.first_between.Goals.{After-find}

pub find-requires-clause-callable : goal.find-requires-clause-callable
find-requires-clause-callable c =
    callable_at_sets c.elements.result c.rank.result c.all.ensures.sets (λ x q k. search (rules, tests))
    (λ x set. let n = set.n_is in let e = c.elements.ensures.value in search rules)

-- the call of `find` gives the first basis between the two sets
found : (c : After-find) → FindsBetween c.args.chi.now c.args.inside.elements c.args.outside.elements c.find.result
found c =
    finds_first c.args.chi.now.elements c.args.chi.now.rank
    (IsBasisBetween c.args.chi.now c.args.inside.elements c.args.outside.elements)
    (λ b. IsBasisBetween c.args.chi.now c.args.inside.elements c.args.outside.elements b → ⊥)
    (all_sets_of c.all.ensures.sets c.elements.ensures.value c.rank.ensures.value) _ _ c.find.result
    c.find.ensures.ran (λ x q k. search (rules, tests)) (λ x q k. search (rules, tests))

pub returns-clause-none : goal.returns-clause-none
returns-clause-none c =
    none_between c.args.chi.now c.args.inside.elements c.args.outside.elements c.find.result (found c)

pub returns-clause-n : goal.returns-clause-n
returns-clause-n c = IfSome_then c.find.result (found c).first (λ b h. h.set.n_is)

pub returns-clause-first : goal.returns-clause-first
returns-clause-first c = IfSome_then c.find.result (found c).first
    (λ b h. first_between c.args.chi.now c.args.inside.elements c.args.outside.elements b h)
