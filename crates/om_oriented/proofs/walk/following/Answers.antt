use Rattle.std.proofs.Common.{◌≡◌, ◌+◌, length, arith, refl, sym, ◌∙◌, subst}
use Rattle.om_oriented.specs.Places.{base_three}
use Rattle.om_oriented.proofs.Walks.{IsCarried, raised_minus, raised_zero, not_last, carried_none, carried_on, last}
use Rattle.om_oriented.proofs.walk.following.Goals as goal

pub loop-e-init : goal.loop-e-init
loop-e-init c = let size = c.len-e.ensures.value in carried_none c.args.x _ (omega arith)

raised-Minus : (c : goal.After-set) → (base_three c.set.result ≡ base_three c.args.x + 1)
    × (length c.set.result ≡ length c.args.x)
raised-Minus c =
    let size = c.len-e.ensures.value in
    let within = c.loop-e.auto.e in
    let below = c.loop-e-test.true in
    raised_minus c.args.x c.loop-e.next c.set.result _ _ c.loop-e.invariant (omega arith)
    (sym c.get.ensures ∙ c.in-Minus.is) c.set.ensures

raised-Zero : (c : goal.After-set-in-Zero) → (base_three c.set-in-Zero.result ≡ base_three c.args.x + 1)
    × (length c.set-in-Zero.result ≡ length c.args.x)
raised-Zero c =
    let size = c.len-e.ensures.value in
    let within = c.loop-e.auto.e in
    let below = c.loop-e-test.true in
    raised_zero c.args.x c.loop-e.next c.set-in-Zero.result _ _ c.loop-e.invariant (omega arith)
    (sym c.get.ensures ∙ c.in-Zero.is) c.set-in-Zero.ensures

pub returns-in-Minus-clause-none : goal.returns-in-Minus-clause-none
returns-in-Minus-clause-none c = (λ e. cc, λ h. absurd (not_last c.args.x c.set.result (raised-Minus c) h))

pub returns-in-Minus-clause-next : goal.returns-in-Minus-clause-next
returns-in-Minus-clause-next c = (raised-Minus c).0

pub returns-in-Zero-clause-none : goal.returns-in-Zero-clause-none
returns-in-Zero-clause-none c = (λ e. cc, λ h. absurd (not_last c.args.x c.set-in-Zero.result (raised-Zero c) h))

pub returns-in-Zero-clause-next : goal.returns-in-Zero-clause-next
returns-in-Zero-clause-next c = (raised-Zero c).0

pub loop-e-preserved : goal.loop-e-preserved
loop-e-preserved c =
    let size = c.len-e.ensures.value in
    let within = c.loop-e.auto.e in
    let below = c.loop-e-test.true in
    subst (IsCarried c.args.x c.set-next.result) (omega arith)
    (carried_on c.args.x c.loop-e.next c.set-next.result _ _ c.loop-e.invariant (omega arith)
    (sym c.get.ensures ∙ c.in-Plus.is) c.set-next.ensures)

pub returns-clause-none : goal.returns-clause-none
returns-clause-none c =
    let size = c.len-e.ensures.value in
    let over = c.loop-e-test.false in
    let few = c.loop-e.invariant.few in
    (λ e. last c.args.x c.loop-e.next _ c.loop-e.invariant (omega arith), λ h. refl)
