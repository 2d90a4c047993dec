use Rattle.std.proofs.Common.{◌+◌, ◌∙◌, ◌∷◌, [], length, get_or, sym, ap, subst, arith}
use Rattle.std.specs.Prelude.{None}
use Rattle.std.proofs.lemmas.List.{length-append, length-map}
use Rattle.om_signs.specs.Sign.{opposite}
use Rattle.om_subsets.proofs.SetChains.{all_sets_of, at_turn, number_at_end}
use Rattle.om_chirotope.specs.Map.{circuit_vector, value_of}
use Rattle.om_laws.specs.Relations.{around}
use Rattle.om_laws.proofs.BridgeLaws.{length-as_list}
use Rattle.om_paint.proofs.Firsts.{AreFirsts, met_none, met_more, first_of_circuits}
use Rattle.om_paint.proofs.search.first_circuits.Goals as goal

pub loop-s-init : goal.loop-s-init
loop-s-init g c = (
  tt,
  tt,
  met_none (circuit_vector c.args.chi.now) (g.C.Classes.holds c.args.classes.now) c.args.chi.now.elements
      (c.args.chi.now.rank + 1),
)

pub circuit_of-v-requires : goal.circuit_of-v-requires
circuit_of-v-requires g c =
    let turn =
    at_turn c.args.chi.now.elements (c.args.chi.now.rank + 1) _ _ _
    (all_sets_of (c.into_iter-s-iterator.ensures.into_iter_gives ∙ c.all-s-items.ensures.sets)
    c.elements.ensures.value (ap (λ r. r + 1) c.rank.ensures.value)) c.loop-s.yielded_by c.in-Some.is
    c.next.ensures.steps in
    record { n = turn.at.n_is; size = turn.at.size }

pub meet-requires-clause-size : goal.meet-requires-clause-size
meet-requires-clause-size g c = ap length c.circuit_of-v.ensures
    ∙ length-as_list c.args.chi.now.elements (around (value_of c.args.chi.now) c.in-Some.s.elements)
    ∙ sym c.requires.elements

pub meet-requires-in-loop-s-clause-size : goal.meet-requires-in-loop-s-clause-size
meet-requires-in-loop-s-clause-size g c =
    let size = ap length c.circuit_of-v.ensures
    ∙ length-as_list c.args.chi.now.elements (around (value_of c.args.chi.now) c.in-Some.s.elements)
    ∙ sym c.requires.elements in
    let same = ap length c.neg-negative.ensures ∙ length-map c.circuit_of-v.result opposite in
    omega (arith, size, same)

pub loop-s-preserved : goal.loop-s-preserved
loop-s-preserved g c =
    let turn =
    at_turn c.args.chi.now.elements (c.args.chi.now.rank + 1) _ _ _
    (all_sets_of (c.into_iter-s-iterator.ensures.into_iter_gives ∙ c.all-s-items.ensures.sets)
    c.elements.ensures.value (ap (λ r. r + 1) c.rank.ensures.value)) c.loop-s.yielded_by c.in-Some.is
    c.next.ensures.steps in (
      tt,
      tt,
      rw (length-append c.loop-s.yielded (c.in-Some.s ∷ []))
          (met_more (circuit_vector c.args.chi.now) (g.C.Classes.holds c.args.classes.now) c.args.chi.now.elements
          (c.args.chi.now.rank + 1) (length c.loop-s.yielded) c.in-Some.s.elements c.loop-s.firsts
          c.meet.new.firsts c.meet-in-loop-s.new.firsts c.circuit_of-v.result c.neg-negative.result c.loop-s.invariant.2
          turn.here c.circuit_of-v.ensures c.neg-negative.ensures c.meet.ensures c.meet-in-loop-s.ensures),
    )

pub returns : goal.returns
returns g c = λ i lt.
    let all =
    number_at_end c.args.chi.now.elements (c.args.chi.now.rank + 1) _ _ _
    (all_sets_of (c.into_iter-s-iterator.ensures.into_iter_gives ∙ c.all-s-items.ensures.sets)
    c.elements.ensures.value (ap (λ r. r + 1) c.rank.ensures.value)) c.loop-s.yielded_by c.in-None.is
    c.next.ensures.steps in
    first_of_circuits c.args.chi.now (g.C.Classes.holds c.args.classes.now i)
    (get_or c.loop-s.firsts i None)
    (subst
    (λ k. AreFirsts (circuit_vector c.args.chi.now) (g.C.Classes.holds c.args.classes.now) c.args.chi.now.elements
    (c.args.chi.now.rank + 1) k c.loop-s.firsts) all c.loop-s.invariant.2 i lt)
