use Rattle.std.proofs.Common.{◌<◌, ◌∙◌, ap, refl, rules, tests, length}
use Rattle.std.specs.Prelude.{MatchOption, zip}
use Rattle.std.specs.List.{AllWithin, HoldsAt}
use Rattle.std.proofs.lemmas.Iterator.{YieldsList-from_slice, YieldsList-from_zip, IsFirst-from_position}
use Rattle.std.proofs.lemmas.Iterator.Adapters.{serves_from_places}
use Rattle.std.proofs.lemmas.Iterator.Consumers.{YieldsList-from_filter, YieldsList-from_copied, YieldsList-at}
use Rattle.std.specs.Iterator.Adapters.{filter_source}
use Rattle.std.specs.Slice.Iter.{iter_rest}
use Rattle.om_subsets.proofs.SetChains.{all_sets_of, callable_at_sets, gives_all_subsets, gives_all_sets, set_of_pair}
use Rattle.om_chirotope.specs.Map.{chi_of}
use Rattle.om_certificate.specs.Weights.{is_nonzero, nonzero_brackets}
use Rattle.om_certificate.proofs.NonzeroBrackets.{IsPaired, first_unpaired}
use Rattle.om_certificate.proofs.weighing.first_other_bracket.Goals as goal
use Rattle.om_certificate.proofs.weighing.first_other_bracket.Goals.{After-position}

pub position-requires-clause-can : goal.position-requires-clause-can
position-requires-clause-can c = (
  (
    tt,
    tt,
    callable_at_sets c.args.chi.now.elements 3
        (all_sets_of {r = 3} {q = 3}
        (ap (λ z. filter_source z) c.zip.ensures.first ∙ c.filter.ensures.source ∙ c.all.ensures.sets)
        c.elements.ensures.value refl) (λ x q k. search (rules, tests))
        (λ x set. let n = set.n_is in let s = set.size in search rules),
  ),
  tt,
)

pub position-requires-clause-callable : goal.position-requires-clause-callable
position-requires-clause-callable c =
    serves_from_places
    (YieldsList-from_zip
    (YieldsList-at c.zip.ensures.first
    (YieldsList-from_filter _ (λ b. is_nonzero (chi_of c.args.chi.now b.elements))
    (gives_all_sets c.args.chi.now.elements 3
    (all_sets_of {r = 3} {q = 3} (c.filter.ensures.source ∙ c.all.ensures.sets) c.elements.ensures.value refl))
    c.filter.ensures.closure (λ x b q k. search (rules, tests))))
    (YieldsList-at c.zip.ensures.second
    (YieldsList-from_copied
    (YieldsList-from_slice c.args.weights.now
    (ap (λ i. iter_rest i) c.copied.ensures.source ∙ c.iter.ensures.rest)))))
    (λ x q k. search (rules, tests))
    (λ x k l e.
    let set =
    set_of_pair c.args.chi.now.elements 3 (λ b. is_nonzero (chi_of c.args.chi.now b.elements)) c.args.weights.now k x
    l e in
    let n = set.n_is in let s = set.size in let h = set.list in search rules)

-- what `position` gives of the nonzero brackets and the weights
found : (c : After-position) → MatchOption c.position.result
    (AllWithin IsPaired (zip (nonzero_brackets c.args.chi.now) c.args.weights.now) 0
    (length (zip (nonzero_brackets c.args.chi.now) c.args.weights.now)))
    (λ i. (i < length (zip (nonzero_brackets c.args.chi.now) c.args.weights.now))
    × HoldsAt (λ p. IsPaired p → ⊥) (zip (nonzero_brackets c.args.chi.now) c.args.weights.now) i
    × AllWithin IsPaired (zip (nonzero_brackets c.args.chi.now) c.args.weights.now) 0 i)
found c =
    IsFirst-from_position _ _ c.position.result (λ p. IsPaired p → ⊥) IsPaired c.position.ensures.ran
    (YieldsList-from_zip
    (YieldsList-at c.zip.ensures.first
    (YieldsList-from_filter _ (λ b. is_nonzero (chi_of c.args.chi.now b))
    (gives_all_subsets c.args.chi.now.elements 3
    (all_sets_of {r = 3} {q = 3} (c.filter.ensures.source ∙ c.all.ensures.sets) c.elements.ensures.value refl))
    c.filter.ensures.closure (λ x b q k. search (rules, tests))))
    (YieldsList-at c.zip.ensures.second
    (YieldsList-from_copied
    (YieldsList-from_slice c.args.weights.now
    (ap (λ i. iter_rest i) c.copied.ensures.source ∙ c.iter.ensures.rest)))))
    (λ x q k. search (rules, tests)) (λ x q k. search (rules, tests))

pub returns-clause-none : goal.returns-clause-none
returns-clause-none c =
    (first_unpaired c.args.chi.now c.args.weights.now c.position.result c.requires.number (found c)).0

pub returns-clause-first : goal.returns-clause-first
returns-clause-first c =
    (first_unpaired c.args.chi.now c.args.weights.now c.position.result c.requires.number (found c)).1
