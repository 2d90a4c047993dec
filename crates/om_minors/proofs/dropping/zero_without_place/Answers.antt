use denote.Enum.Bare.{sameb}
use Rattle.std.proofs.Common.{true, true≢false, refl, ◌≡◌, ◌+◌, ◌-◌, sym, ◌∙◌, subst}
use Rattle.std.specs.List.{remove}
use Rattle.om_signs.specs.declared.sign.Sign.{Sign}
use Rattle.om_signs.specs.declared.sign.Sign.TheVariants.{Minus, Zero, Plus}
use Rattle.om_signs.specs.contracts.sign.Sign.{the_type}
use Rattle.om_signs.specs.SignVec.{at_element}
use Rattle.om_minors.proofs.GatheringLaws.{AreGathered, gathered_kept, gathered_more, gathered_all, not_twice}
use Rattle.om_minors.proofs.dropping.zero_without_place.Goals as goal
use Rattle.om_minors.proofs.dropping.zero_without_place.Goals.{then-eq+in_ok-push, else-eq}

equal_signs : (s : Sign) → sameb the_type s Zero ≡ true → s ≡ Zero
equal_signs Minus q = cc
equal_signs Zero q = refl
equal_signs Plus q = cc

signs_equal : (s : Sign) → s ≡ Zero → sameb the_type s Zero ≡ true
signs_equal Minus q = cc
signs_equal Zero q = refl
signs_equal Plus q = cc

pub loop-x-preserved : goal.loop-x-preserved
loop-x-preserved c = elim c.if-eq.branch [
  | then-eq+in_ok-push w ↦
      subst (λ l. AreGathered (λ W X. (at_element W c.args.e ≡ Zero) × (remove W (c.args.e - 1) ≡ X)) c.args.vectors.now
      l (c.loop-x.x-index + 1)) (sym (w.list-is ∙ w.in_ok-push.ensures.ok))
      (gathered_more (λ W X. (at_element W c.args.e ≡ Zero) × (remove W (c.args.e - 1) ≡ X)) c.args.vectors.now
      c.loop-x.x-index c.x-item.result c.loop-x-test.true c.x-item.is c.loop-x.list w.drop_place.result
      c.loop-x.invariant
      (sym c.get.ensures ∙ equal_signs c.get.result (sym c.eq.ensures ∙ w.if-eq.true), sym w.drop_place.ensures)
      (λ X r. sym r.1 ∙ sym w.drop_place.ensures)
      (not_twice c.args.e c.args.vectors.now c.loop-x.x-index c.x-item.result c.loop-x-test.true c.x-item.is
      c.requires.distinct c.requires.low c.requires.places
      (sym c.get.ensures ∙ equal_signs c.get.result (sym c.eq.ensures ∙ w.if-eq.true)) c.loop-x.list
      w.drop_place.result w.drop_place.ensures c.loop-x.invariant.members))
  | else-eq w ↦
      subst (λ l. AreGathered (λ W X. (at_element W c.args.e ≡ Zero) × (remove W (c.args.e - 1) ≡ X)) c.args.vectors.now
      l (c.loop-x.x-index + 1)) (sym w.list-is)
      (gathered_kept (λ W X. (at_element W c.args.e ≡ Zero) × (remove W (c.args.e - 1) ≡ X)) c.args.vectors.now
      c.loop-x.x-index c.x-item.result c.loop-x-test.true c.x-item.is c.loop-x.list c.loop-x.invariant
      (λ X r. absurd
      (true≢false (sym (signs_equal c.get.result (c.get.ensures ∙ r.0)) ∙ sym c.eq.ensures ∙ w.if-eq.false))))
]

pub returns-clause-members : goal.returns-clause-members
returns-clause-members c = gathered_all (λ W X. (at_element W c.args.e ≡ Zero) × (remove W (c.args.e - 1) ≡ X))
    c.args.vectors.now c.loop-x.x-index c.loop-x.list c.loop-x-test.false c.loop-x.invariant
