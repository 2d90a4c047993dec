use Rattle.std.proofs.Common.{◌∙◌, ◌∷◌, [], ◌++◌, ap, sym, refl, rules, tests, map}
use Rattle.std.specs.Iterator.Adapters.{filter_source, zip_first}
use Rattle.std.specs.Slice.Iter.{iter_rest}
use Rattle.std.proofs.lemmas.Iterator.{YieldsList-from_slice, YieldsList-from_zip}
use Rattle.std.proofs.lemmas.Iterator.Consumers.{YieldsList-from_filter, YieldsList-from_copied, YieldsList-at}
use Rattle.std.proofs.lemmas.Iterator.Consumers.{YieldsList-turn, YieldsList-end}
use Rattle.std.proofs.lemmas.List.{map-append}
use Rattle.om_subsets.proofs.SetChains.{all_sets_of, callable_at_sets, gives_all_subsets, gives_all_sets, set_of_pair}
use Rattle.om_chirotope.specs.Map.{chi_of}
use Rattle.om_rows.proofs.Casts.{stored-narrow}
use Rattle.om_certificate.specs.Weights.{is_nonzero, nonzero_brackets}
use Rattle.om_decide.specs.Columns.{weight_on}
use Rattle.om_decide.proofs.WeightLists.{weights_at_end}
use Rattle.om_decide.proofs.evidence.bracket_weights.Goals as goal

pub loop-bracket-init : goal.loop-bracket-init
loop-bracket-init c = (
  (
    (
      tt,
      tt,
      callable_at_sets c.args.chi.now.elements 3
          (all_sets_of {r = 3} {q = 3}
          (ap (λ z. filter_source (zip_first z)) c.into_iter-bracket-iterator.ensures.into_iter_gives
          ∙ ap (λ z. filter_source z) c.zip-bracket-items.ensures.first ∙ c.filter-nonzero.ensures.source
          ∙ c.all.ensures.sets) c.elements.ensures.value refl) (λ x q k. search (rules, tests))
          (λ x set. let n = set.n_is in let s = set.size in search rules),
    ),
    tt,
  ),
  search rules,
  c.new-weights.ensures,
)

pub loop-bracket-preserved : goal.loop-bracket-preserved
loop-bracket-preserved c = (
  rw (c.in-Some.is) at c.next.ensures.goes.keeps,
  search rules,
  c.in_ok-push.ensures.ok ∙ ap (λ ws. ws ++ c.bracket_weight.result ∷ []) c.loop-bracket.invariant.2
      ∙ ap (λ w. map (λ p. weight_on p.0.elements p.1) c.loop-bracket.yielded ++ w ∷ [])
      (c.bracket_weight.ensures
      ∙ ap (weight_on c.in-Some.bracket.elements) (stored-narrow c.in-Some.value (search rules)))
      ∙ sym (map-append (λ p. weight_on p.0.elements p.1) c.loop-bracket.yielded
      ((c.in-Some.bracket, c.in-Some.value) ∷ [])),
)

pub bracket_weight-requires : goal.bracket_weight-requires
bracket_weight-requires c =
    let turn =
    YieldsList-turn (YieldsList-at c.into_iter-bracket-iterator.ensures.into_iter_gives
    (YieldsList-from_zip (YieldsList-at c.zip-bracket-items.ensures.first
    (YieldsList-from_filter _ (λ b. is_nonzero (chi_of c.args.chi.now b.elements))
    (gives_all_sets c.args.chi.now.elements 3
    (all_sets_of {r = 3} {q = 3} (c.filter-nonzero.ensures.source ∙ c.all.ensures.sets) c.elements.ensures.value refl))
    c.filter-nonzero.ensures.closure (λ x b q k. search (rules, tests))))
    (YieldsList-at c.zip-bracket-items.ensures.second
    (YieldsList-from_copied
    (YieldsList-from_slice c.args.values.now
    (ap (λ i. iter_rest i) c.copied.ensures.source ∙ c.iter.ensures.rest ∙ c.as_slice.ensures))))))
    c.loop-bracket.yielded _ c.loop-bracket.yielded_by _ _ _ c.in-Some.is c.next.ensures.steps in
    (set_of_pair c.args.chi.now.elements 3 (λ b. is_nonzero (chi_of c.args.chi.now b.elements)) c.args.values.now _ _
    turn.0 turn.1).size

pub returns : goal.returns
returns c =
    let end =
    YieldsList-end (YieldsList-at c.into_iter-bracket-iterator.ensures.into_iter_gives
    (YieldsList-from_zip (YieldsList-at c.zip-bracket-items.ensures.first
    (YieldsList-from_filter _ (λ b. is_nonzero (chi_of c.args.chi.now b))
    (gives_all_subsets c.args.chi.now.elements 3
    (all_sets_of {r = 3} {q = 3} (c.filter-nonzero.ensures.source ∙ c.all.ensures.sets) c.elements.ensures.value refl))
    c.filter-nonzero.ensures.closure (λ x b q k. search (rules, tests))))
    (YieldsList-at c.zip-bracket-items.ensures.second
    (YieldsList-from_copied
    (YieldsList-from_slice c.args.values.now
    (ap (λ i. iter_rest i) c.copied.ensures.source ∙ c.iter.ensures.rest ∙ c.as_slice.ensures))))))
    c.loop-bracket.yielded _ c.loop-bracket.yielded_by _ _ c.in-None.is c.next.ensures.steps in
    c.loop-bracket.invariant.2
    ∙ weights_at_end c.loop-bracket.yielded (nonzero_brackets c.args.chi.now) c.args.values.now end.0
