use Rattle.std.proofs.Common.{subst, ◌≡◌}
use Rattle.std.proofs.lemmas.Result.{err_from_is_err_and}
use Rattle.om_convert.specs.Gathering.{IsExtendedBy, IsOldOrAdded}
use Rattle.om_convert.specs.Limits.{IsCause}
use Rattle.om_denotation.proofs.Supports.{nonzero_from_support, zero_from_support}
use Rattle.om_convert.proofs.GatheringLaws.{zero_added, signed_added, signed_cause, negative_cause}
use Rattle.om_convert.proofs.member_set.MemberSet.insert_signed.Goals as goal

pub returns-in_err-insert-clause-many : goal.returns-in_err-insert-clause-many
returns-in_err-insert-clause-many c =
    let p = err_from_is_err_and c.from_residual.result c.from_residual.ensures.1 in
    let n = nonzero_from_support c.args.v c.support.result c.support.ensures c.support.type_inv c.if-support-ne0.true in
    rw (p.1, p.2) (signed_cause c.args.v n c.args.self.now c.in_err-insert.field-0.0 c.in_err-insert.ensures.many)

pub returns-in_err-insert-2-clause-many : goal.returns-in_err-insert-2-clause-many
returns-in_err-insert-2-clause-many c =
    let p = err_from_is_err_and c.from_residual-in_err-insert-2.result c.from_residual-in_err-insert-2.ensures.1 in
    let n = nonzero_from_support c.args.v c.support.result c.support.ensures c.support.type_inv c.if-support-ne0.true in
    rw (p.1, p.2)
    (negative_cause c.args.v n c.args.self.now c.insert.new.self c.in_err-insert-2.field-0.0
    c.in_ok-insert.ensures.added
    (subst (λ Z. IsCause (IsOldOrAdded c.insert.new.self (λ X. X ≡ Z)) c.in_err-insert-2.field-0.0) c.neg.ensures
    c.in_err-insert-2.ensures.many))

pub returns-in_ok-insert-2-clause-added : goal.returns-in_ok-insert-2-clause-added
returns-in_ok-insert-2-clause-added c =
    let n = nonzero_from_support c.args.v c.support.result c.support.ensures c.support.type_inv c.if-support-ne0.true in
    signed_added c.args.v n c.args.self.now c.insert.new.self c.insert-then-support-ne0.new.self
    c.in_ok-insert.ensures.added
    (subst (λ Z. IsExtendedBy (λ X. X ≡ Z) c.insert.new.self c.insert-then-support-ne0.new.self) c.neg.ensures
    c.in_ok-insert-2.ensures.added)

pub returns-else-support-ne0-clause-added : goal.returns-else-support-ne0-clause-added
returns-else-support-ne0-clause-added c =
    zero_added c.args.v c.args.self.now
    (zero_from_support c.args.v c.support.result c.support.ensures c.if-support-ne0.false)
