use Rattle.std.proofs.Common.{◌∙◌, refl, sym, subst, arith}
use Rattle.std.proofs.lemmas.List.{length_push}
use Rattle.om_subsets.specs.Subsets.{choose}
use Rattle.om_subsets.proofs.SetChains.{all_sets_of, at_turn, number_at_end}
use Rattle.om_certificate.proofs.Triples.{triples_room}
use Rattle.om_decide.proofs.RowNumbers.{AreRowsBefore, no_rows, one_more, past_nonzero, past_zero}
use Rattle.om_decide.proofs.making.row_numbers.Goals as goal

pub loop-bracket-init : goal.loop-bracket-init
loop-bracket-init c = (tt, tt, no_rows c.args.chi.now c.new-rows.result c.new-rows.ensures)

pub is_nonzero-requires : goal.is_nonzero-requires
is_nonzero-requires c =
    let turn =
    at_turn c.args.chi.now.elements 3 _ _ _
    (all_sets_of {r = 3} {q = 3} (c.into_iter-bracket-iterator.ensures.into_iter_gives
    ∙ c.all-bracket-items.ensures.sets) c.elements.ensures.value refl) c.loop-bracket.yielded_by c.in-Some.is
    c.next.ensures.steps in
    record { rank = c.requires; n = turn.at.n_is; size = turn.at.size }

pub overflow_add-next : goal.overflow_add-next
overflow_add-next c =
    let turn =
    at_turn c.elements.result 3 _ _ _
    (c.into_iter-bracket-iterator.ensures.into_iter_gives ∙ c.all-bracket-items.ensures.sets)
    c.loop-bracket.yielded_by c.in-Some.is c.next.ensures.steps in
    omega (arith, turn.inside, c.loop-bracket.invariant.2.few, triples_room c.elements.result c.elements.ensures.high)

pub loop-bracket-preserved-then-is_nonzero : goal.loop-bracket-preserved-then-is_nonzero
loop-bracket-preserved-then-is_nonzero c =
    let turn =
    at_turn c.args.chi.now.elements 3 _ _ _
    (all_sets_of {r = 3} {q = 3} (c.into_iter-bracket-iterator.ensures.into_iter_gives
    ∙ c.all-bracket-items.ensures.sets) c.elements.ensures.value refl) c.loop-bracket.yielded_by c.in-Some.is
    c.next.ensures.steps in (
      tt,
      tt,
      rw (length_push c.loop-bracket.yielded c.in-Some.bracket, c.in_ok-push.ensures.ok)
          (past_nonzero _ _ _ _ _ c.loop-bracket.invariant.2 turn.inside turn.here
          (sym c.is_nonzero.ensures ∙ c.if-is_nonzero.true)),
    )

pub loop-bracket-preserved : goal.loop-bracket-preserved
loop-bracket-preserved c =
    let turn =
    at_turn c.args.chi.now.elements 3 _ _ _
    (all_sets_of {r = 3} {q = 3} (c.into_iter-bracket-iterator.ensures.into_iter_gives
    ∙ c.all-bracket-items.ensures.sets) c.elements.ensures.value refl) c.loop-bracket.yielded_by c.in-Some.is
    c.next.ensures.steps in (
      tt,
      tt,
      rw (length_push c.loop-bracket.yielded c.in-Some.bracket, c.in_ok-push.ensures.ok)
          (past_zero _ _ _ _ _ c.loop-bracket.invariant.2 turn.inside turn.here
          (sym c.is_nonzero.ensures ∙ c.if-is_nonzero.false)),
    )

pub returns : goal.returns
returns c =
    let all =
    number_at_end c.args.chi.now.elements 3 _ _ _
    (all_sets_of {r = 3} {q = 3} (c.into_iter-bracket-iterator.ensures.into_iter_gives
    ∙ c.all-bracket-items.ensures.sets) c.elements.ensures.value refl) c.loop-bracket.yielded_by c.in-None.is
    c.next.ensures.steps in
    let rows = subst (λ k. AreRowsBefore c.args.chi.now k c.loop-bracket.rows c.loop-bracket.next) all
    c.loop-bracket.invariant.2 in
    rw (c.in_ok-push-2.ensures.ok)
    (one_more c.args.chi.now (choose c.args.chi.now.elements 3) c.loop-bracket.rows c.loop-bracket.next rows.next
    rows.rows)
