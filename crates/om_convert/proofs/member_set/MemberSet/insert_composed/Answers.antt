use Rattle.std.proofs.Common.{[], length, arith, refl, sym, ◌∙◌, subst, ◌≡◌}
use Rattle.std.proofs.lemmas.List.{get_or_default}
use Rattle.std.proofs.lemmas.Result.{err_from_is_err_and}
use Rattle.om_convert.specs.Gathering.{IsExtendedBy, IsOldOrAdded}
use Rattle.om_convert.specs.Limits.{IsCause}
use Rattle.om_convert.proofs.GatheringLaws.{IsComposedBelow, none_composed, still_member, composed_below_more}
use Rattle.om_convert.proofs.GatheringLaws.{composed_below_cause, composed_below_all}
use Rattle.om_convert.proofs.member_set.MemberSet.insert_composed.Goals as goal

pub loop-y-init : goal.loop-y-init
loop-y-init c =
    record {
      added = none_composed c.args.x c.args.ys.now c.args.self.now;
      first = c.requires.member;
      second =
          c.requires.member;
    }

pub loop-y-preserved : goal.loop-y-preserved
loop-y-preserved c =
    let at = get_or_default c.args.ys.now c.loop-y.y-index [] c.y-item.result c.loop-y-test.true ∙ sym c.y-item.is in
    let step = c.in_ok-insert_beside.ensures.added in
    record {
      added = composed_below_more c.args.x c.args.ys.now c.loop-y.y-index c.y-item.result c.loop-y-test.true at
          c.args.self.now c.loop-y.self c.insert_beside.new.self c.loop-y.invariant.added
          (subst (λ Z. IsExtendedBy (λ X. X ≡ Z) c.loop-y.self c.insert_beside.new.self) c.compose-composed.ensures
          step);
      first = still_member (λ X. X ≡ c.compose-composed.result) c.loop-y.self c.insert_beside.new.self c.loop-y.last
          step c.loop-y.invariant.second;
      second = step.complete c.compose-composed.result refl;
    }

pub returns-in_err-insert_beside-clause-many : goal.returns-in_err-insert_beside-clause-many
returns-in_err-insert_beside-clause-many c =
    let p = err_from_is_err_and c.from_residual.result c.from_residual.ensures.1 in
    let at = get_or_default c.args.ys.now c.loop-y.y-index [] c.y-item.result c.loop-y-test.true ∙ sym c.y-item.is in
    rw (p.1, p.2)
    (composed_below_cause c.args.x c.args.ys.now c.loop-y.y-index c.y-item.result c.loop-y-test.true at
    c.args.self.now c.loop-y.self c.in_err-insert_beside.field-0.0 c.loop-y.invariant.added
    (subst (λ Z. IsCause (IsOldOrAdded c.loop-y.self (λ X. X ≡ Z)) c.in_err-insert_beside.field-0.0)
    c.compose-composed.ensures c.in_err-insert_beside.ensures.many))

pub returns-clause-added : goal.returns-clause-added
returns-clause-added c =
    let all : c.loop-y.y-index ≡ length c.args.ys.now = omega arith in
    composed_below_all c.args.x c.args.ys.now c.args.self.now c.loop-y.self
    (subst (λ k. IsExtendedBy (IsComposedBelow c.args.x c.args.ys.now k) c.args.self.now c.loop-y.self) all
    c.loop-y.invariant.added)
