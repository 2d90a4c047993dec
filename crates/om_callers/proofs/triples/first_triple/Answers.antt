use Rattle.std.proofs.Common.{◌≡◌, ◌<◌, ◌∙◌, rules, tests, subst}
use Rattle.om_subsets.specs.Subsets.{rank_of}
use Rattle.std.proofs.lemmas.Option.{IfSome_then}
use Rattle.om_subsets.proofs.SetChains.{all_sets_of, callable_at_sets, finds_first, none_at_places}
use Rattle.om_subsets.proofs.SetChains.{FindsFirst}
use Rattle.om_chirotope.specs.Map.{chi_of}
use Rattle.om_callers.proofs.triples.first_triple.Goals as goal
use Rattle.om_callers.proofs.triples.first_triple.Goals.{After-find}

pub find-requires-clause-callable : goal.find-requires-clause-callable
find-requires-clause-callable c =
    callable_at_sets c.args.chi.now.elements c.args.chi.now.rank
    (all_sets_of c.all.ensures.sets c.elements.ensures.value c.rank.ensures.value) (λ x q k. search (rules, tests))
    (λ x set. let n = set.n_is in let s = set.size in search rules)

-- the call of `find` gives the first triple with the sign
found : (c : After-find) → FindsFirst c.args.chi.now.elements c.args.chi.now.rank
    (λ t. chi_of c.args.chi.now t ≡ c.args.sign) (λ t. chi_of c.args.chi.now t ≡ c.args.sign → ⊥) c.find.result
found c =
    finds_first c.args.chi.now.elements c.args.chi.now.rank (λ t. chi_of c.args.chi.now t ≡ c.args.sign)
    (λ t. chi_of c.args.chi.now t ≡ c.args.sign → ⊥)
    (all_sets_of c.all.ensures.sets c.elements.ensures.value c.rank.ensures.value) _ _ c.find.result
    c.find.ensures.ran (λ x q k. search (rules, tests)) (λ x q k. search (rules, tests))

pub returns-clause-found : goal.returns-clause-found
returns-clause-found c = IfSome_then c.find.result (found c).first
    (λ t h. record {
      n = h.set.n_is;
      triple = record { list = h.set.list; size = h.set.size ∙ c.requires };
      sign = h.yes;
      first = λ k l. h.below k (subst (λ n. k < rank_of n t.elements) h.set.n_is l);
    })

pub returns-clause-none : goal.returns-clause-none
returns-clause-none c = none_at_places c.args.chi.now.elements c.args.chi.now.rank _ _ c.find.result (found c)
