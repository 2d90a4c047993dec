use Rattle.std.proofs.Common.{◌+◌, ◌<◌, ◌∙◌, length, refl, sym, subst, arith, false}
use Rattle.std.proofs.lemmas.Bool.{false≢true}
use Rattle.om_symmetry.specs.declared.signed_element.SignedElement.{SignedElement}
use Rattle.om_least.proofs.Completing.{IsFilled, room_behind, filled_with, filled_without, filled_end}
use Rattle.om_least.proofs.image.completed.Goals as goal
use Rattle.om_least.proofs.image.completed.Goals.{then-not-has, else-not-has}

pub followed_by-entries-requires : goal.followed_by-entries-requires
followed_by-entries-requires c =
    let test = c.loop-element-test.true in
    let low = c.loop-element.auto.element in
    let room = c.requires.room in
    let few : length c.loop-element.entries < c.args.elements =
    room_behind c.args.elements c.args.first c.loop-element.entries c.loop-element.element c.loop-element.invariant
    (low, omega (arith, test)) (λ h. false≢true (sym c.if-not-has.true ∙ c.has.ensures.1 h)) in
    omega (arith, few, room)

pub loop-element-preserved : goal.loop-element-preserved
loop-element-preserved c =
    let n = c.args.elements in
    let w = c.args.first in
    let u = c.loop-element.entries in
    let e = c.loop-element.element in
    let a : SignedElement = record { element = e; negated = false } in
    let test = c.loop-element-test.true in
    let low = c.loop-element.auto.element in
    elim c.if-not-has.branch [
      | then-not-has b ↦
          subst (λ v. IsFilled n w v (e + 1)) (sym (b.entries-is ∙ b.followed_by-entries.ensures))
          (filled_with n w u e c.loop-element.invariant a refl (low, omega (arith, test))
          (λ h. false≢true (sym b.if-not-has.true ∙ c.has.ensures.1 h)))
      | else-not-has b ↦
          subst (λ v. IsFilled n w v (e + 1)) (sym b.entries-is)
          (filled_without n w u e c.loop-element.invariant (c.has.ensures.0 b.if-not-has.false))
    ]

pub returns-clause-permutation : goal.returns-clause-permutation
returns-clause-permutation c =
    let over = c.loop-element-test.false in
    filled_end c.args.elements c.args.first c.loop-element.entries c.loop-element.element c.loop-element.invariant
    (omega (arith, over))
