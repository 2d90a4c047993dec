use Rattle.std.proofs.Common.{ℕ, ◌≡◌, ◌∙◌, arith, refl, subst, sym}
use Rattle.std.proofs.lemmas.Bool.{false≢true}
use Rattle.om_signs.specs.declared.block.Block.{Block}
use Rattle.om_wiring.specs.Wirings.{Holds}
use Rattle.om_wiring.specs.Scans.{position_in, IsInOrder}
use Rattle.om_wiring.proofs.OpeningLaws.{each_more}
use Rattle.om_wiring.proofs.checking.is_below_others.Goals as goal

-- the same, at positions that are equal
same_order : (b : Block) (x y p q r s : ℕ) → p ≡ r → q ≡ s → IsInOrder b x p y q → IsInOrder b x r y s
same_order b x y p q r s e f h =
    subst (λ k. IsInOrder b x k y s) e (subst (λ k. IsInOrder b x p y k) f h)

pub returns-then-not-holds : goal.returns-then-not-holds
returns-then-not-holds c = (
  λ e y i h. absurd (false≢true (sym c.if-not-holds.true
      ∙ c.holds.ensures.1 (subst (Holds c.args.block) (sym c.position-at_x.ensures) h))),
  λ each. refl,
)

pub loop-y-preserved : goal.loop-y-preserved
loop-y-preserved c =
    let pos = position_in c.args.order.now in
    each_more c.args.elements c.loop-y.y (λ y. IsInOrder c.args.block c.args.x (pos c.args.x) y (pos y))
    c.loop-y.invariant
    (same_order c.args.block c.args.x c.loop-y.y _ _ _ _ c.position-at_x.ensures c.position.ensures
    (c.is_in_order.ensures.0 c.if-not-is_in_order.false))

pub returns-then-not-is_in_order : goal.returns-then-not-is_in_order
returns-then-not-is_in_order c = (
  λ e. absurd (false≢true e),
  λ each. let low = c.loop-y.auto.y in
      let l = c.loop-y-test.true in
      sym c.if-not-is_in_order.true
      ∙ c.is_in_order.ensures.1
      (same_order c.args.block c.args.x c.loop-y.y _ _ _ _ (sym c.position-at_x.ensures) (sym c.position.ensures)
      (each c.loop-y.y (low, omega arith))),
)
