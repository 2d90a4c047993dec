use Rattle.std.specs.List.{Contains}
use Rattle.std.proofs.Common.{◌≡◌, ◌<◌, [], length, replicate, sym, ◌∙◌, subst, arith}
use Rattle.std.proofs.lemmas.Option.{get_or_from_slice_get}
use Rattle.std.proofs.lemmas.Result.{err_from_is_err_and}
use Rattle.om_signs.specs.declared.sign.Sign.TheVariants.{Zero}
use Rattle.om_convert.specs.Gathering.{IsExtendedBy, IsOldOrAdded}
use Rattle.om_convert.specs.Limits.{IsCause}
use Rattle.om_convert.proofs.CompositionLaws.{IsClosedBelow, composition_length, closed_start, closed_more, closed_all}
use Rattle.om_convert.proofs.CompositionLaws.{start_cause, composed_cause}
use Rattle.om_convert.proofs.closure.all_compositions.Goals as goal

pub returns-in_err-insert-clause-many : goal.returns-in_err-insert-clause-many
returns-in_err-insert-clause-many c =
    let p = err_from_is_err_and c.from_residual.result c.from_residual.ensures.1 in
    rw (p.1, p.2) (start_cause c.args.elements c.args.vectors.now c.requires.lengths c.in_err-insert.field-0.0
    (subst (λ l. IsCause (IsOldOrAdded l (λ X. X ≡ replicate c.args.elements Zero)) c.in_err-insert.field-0.0)
    c.new-members.ensures
    (subst (λ Z. IsCause (IsOldOrAdded c.new-members.result (λ X. X ≡ Z)) c.in_err-insert.field-0.0) c.zero.ensures
    c.in_err-insert.ensures.many)))

pub loop-done-init : goal.loop-done-init
loop-done-init c = closed_start c.args.elements c.args.vectors.now c.requires.lengths c.insert.new.self
    (subst (λ l. IsExtendedBy (λ X. X ≡ replicate c.args.elements Zero) l c.insert.new.self) c.new-members.ensures
    (subst (λ Z. IsExtendedBy (λ X. X ≡ Z) c.new-members.result c.insert.new.self) c.zero.ensures
    c.in_ok-insert.ensures.added))

pub insert_composed-requires-clause-member : goal.insert_composed-requires-clause-member
insert_composed-requires-clause-member c =
    let below = subst (λ n. c.loop-done.done < n) c.len.ensures.value c.loop-done-test.true in (
      c.loop-done.done,
      below,
      get_or_from_slice_get c.loop-done.members c.loop-done.done c.at.result c.at.result c.at.ensures,
    )

pub insert_composed-requires-clause-lengths : goal.insert_composed-requires-clause-lengths
insert_composed-requires-clause-lengths c =
    let below = subst (λ n. c.loop-done.done < n) c.len.ensures.value c.loop-done-test.true in
    let here : Contains c.loop-done.members c.at.result = (
      c.loop-done.done,
      below,
      get_or_from_slice_get c.loop-done.members c.loop-done.done c.at.result c.at.result c.at.ensures,
    ) in
    let size = composition_length c.args.elements c.args.vectors.now c.requires.lengths c.at.result
    (c.loop-done.invariant.sound c.at.result here) in
    λ k d l. c.requires.lengths k d l ∙ sym size

pub loop-done-preserved : goal.loop-done-preserved
loop-done-preserved c =
    let below = subst (λ n. c.loop-done.done < n) c.len.ensures.value c.loop-done-test.true in
    closed_more c.args.elements c.args.vectors.now c.requires.lengths c.loop-done.done c.loop-done.members
    c.insert_composed.new.self c.at.result
    below (get_or_from_slice_get c.loop-done.members c.loop-done.done c.at.result [] c.at.ensures) c.loop-done.invariant
    c.in_ok-insert_composed.ensures.added

pub returns-in_err-insert_composed-clause-many : goal.returns-in_err-insert_composed-clause-many
returns-in_err-insert_composed-clause-many c =
    let p = err_from_is_err_and c.from_residual-in_err-insert_composed.result
    c.from_residual-in_err-insert_composed.ensures.1 in
    let below = subst (λ n. c.loop-done.done < n) c.len.ensures.value c.loop-done-test.true in
    let here : Contains c.loop-done.members c.at.result = (
      c.loop-done.done,
      below,
      get_or_from_slice_get c.loop-done.members c.loop-done.done c.at.result c.at.result c.at.ensures,
    ) in
    rw (p.1, p.2)
    (composed_cause c.args.elements c.args.vectors.now c.requires.lengths c.loop-done.done c.loop-done.members
    c.at.result here c.loop-done.invariant c.in_err-insert_composed.field-0.0 c.in_err-insert_composed.ensures.many)

pub returns-clause-members : goal.returns-clause-members
returns-clause-members c =
    let n = c.len.ensures.value in
    let w = c.loop-done.invariant.within in
    let f = c.loop-done-test.false in
    let all : c.loop-done.done ≡ length c.loop-done.members = omega (arith, n, w, f) in
    closed_all c.args.elements c.args.vectors.now c.requires.lengths c.loop-done.members
    (subst (λ k. IsClosedBelow c.args.elements c.args.vectors.now k c.loop-done.members) all c.loop-done.invariant)
