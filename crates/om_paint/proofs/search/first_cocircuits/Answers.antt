use Rattle.std.proofs.Common.{◌-◌, ◌∙◌, ◌∷◌, [], length, get_or, sym, ap, subst, arith}
use Rattle.std.specs.Prelude.{None}
use Rattle.std.proofs.lemmas.List.{length-append, length-map}
use Rattle.om_signs.specs.Sign.{opposite}
use Rattle.om_subsets.proofs.SetChains.{all_sets_of, at_turn, number_at_end}
use Rattle.om_chirotope.specs.Map.{cocircuit_vector, value_of}
use Rattle.om_laws.specs.Relations.{along}
use Rattle.om_laws.proofs.BridgeLaws.{length-as_list}
use Rattle.om_paint.proofs.Firsts.{AreFirsts, met_none, met_more, first_of_cocircuits, no_cocircuits}
use Rattle.om_paint.proofs.search.first_cocircuits.Goals as goal

pub returns-then-rank-eq0 : goal.returns-then-rank-eq0
returns-then-rank-eq0 g c = λ i lt. no_cocircuits c.args.chi.now (g.C.Classes.holds c.args.classes.now i)
    (sym c.rank-rank.ensures.value ∙ c.if-rank-eq0.true) i lt

pub loop-a-init : goal.loop-a-init
loop-a-init g c = (
  tt,
  tt,
  met_none (cocircuit_vector c.args.chi.now) (g.C.Classes.holds c.args.classes.now) c.args.chi.now.elements
      (c.args.chi.now.rank - 1),
)

pub cocircuit_of-u-requires : goal.cocircuit_of-u-requires
cocircuit_of-u-requires g c =
    let turn =
    at_turn c.args.chi.now.elements (c.args.chi.now.rank - 1) _ _ _
    (all_sets_of (c.into_iter-a-iterator.ensures.into_iter_gives ∙ c.all-a-items.ensures.sets)
    c.elements.ensures.value (ap (λ r. r - 1) c.rank-rank.ensures.value)) c.loop-a.yielded_by c.in-Some.is
    c.next.ensures.steps in
    let size = turn.at.size in
    let r = c.rank-rank.ensures.value in
    let some = c.if-rank-eq0.false in
    record { n = turn.at.n_is; size = omega (arith, size, r, some) }

pub meet-requires-clause-size : goal.meet-requires-clause-size
meet-requires-clause-size g c = ap length c.cocircuit_of-u.ensures
    ∙ length-as_list c.args.chi.now.elements (along (value_of c.args.chi.now) c.in-Some.a.elements)
    ∙ sym c.requires.elements

pub meet-requires-in-loop-a-clause-size : goal.meet-requires-in-loop-a-clause-size
meet-requires-in-loop-a-clause-size g c =
    let size = ap length c.cocircuit_of-u.ensures
    ∙ length-as_list c.args.chi.now.elements (along (value_of c.args.chi.now) c.in-Some.a.elements)
    ∙ sym c.requires.elements in
    let same = ap length c.neg-negative.ensures ∙ length-map c.cocircuit_of-u.result opposite in
    omega (arith, size, same)

pub loop-a-preserved : goal.loop-a-preserved
loop-a-preserved g c =
    let turn =
    at_turn c.args.chi.now.elements (c.args.chi.now.rank - 1) _ _ _
    (all_sets_of (c.into_iter-a-iterator.ensures.into_iter_gives ∙ c.all-a-items.ensures.sets)
    c.elements.ensures.value (ap (λ r. r - 1) c.rank-rank.ensures.value)) c.loop-a.yielded_by c.in-Some.is
    c.next.ensures.steps in (
      tt,
      tt,
      rw (length-append c.loop-a.yielded (c.in-Some.a ∷ []))
          (met_more (cocircuit_vector c.args.chi.now) (g.C.Classes.holds c.args.classes.now) c.args.chi.now.elements
          (c.args.chi.now.rank - 1) (length c.loop-a.yielded) c.in-Some.a.elements c.loop-a.firsts
          c.meet.new.firsts c.meet-in-loop-a.new.firsts c.cocircuit_of-u.result c.neg-negative.result
          c.loop-a.invariant.2 turn.here c.cocircuit_of-u.ensures c.neg-negative.ensures c.meet.ensures
          c.meet-in-loop-a.ensures),
    )

pub returns : goal.returns
returns g c = λ i lt.
    let all =
    number_at_end c.args.chi.now.elements (c.args.chi.now.rank - 1) _ _ _
    (all_sets_of (c.into_iter-a-iterator.ensures.into_iter_gives ∙ c.all-a-items.ensures.sets)
    c.elements.ensures.value (ap (λ r. r - 1) c.rank-rank.ensures.value)) c.loop-a.yielded_by c.in-None.is
    c.next.ensures.steps in
    first_of_cocircuits c.args.chi.now (g.C.Classes.holds c.args.classes.now i)
    (let r = c.rank-rank.ensures.value in let n = c.if-rank-eq0.false in omega (arith, r, n))
    (get_or c.loop-a.firsts i None)
    (subst
    (λ k. AreFirsts (cocircuit_vector c.args.chi.now) (g.C.Classes.holds c.args.classes.now) c.args.chi.now.elements
    (c.args.chi.now.rank - 1) k c.loop-a.firsts) all c.loop-a.invariant.2 i lt)
