use Rattle.std.proofs.Common.{◌∙◌, ap, refl, subst}
use Rattle.std.specs.Prelude.{pos, ◌+ℤ◌}
use Rattle.om_points.specs.ShortVectors.{IsShort}
use Rattle.om_points.proofs.Successors.{by_z, by_side, by_y, by_x}
use Rattle.om_points.proofs.Codes.{read_negative, read_more, less_back, least_back, same_back, short_back, more_short}
use Rattle.om_points.proofs.Codes.{negative_short, codes_apart, last_of_size}
use Rattle.om_points.proofs.Sizes.{read_back}
use Rattle.om_points.proofs.short_vector.ShortVector.next_of_size.Goals as goal

pub above-requires : goal.above-requires
above-requires c =
    subst IsShort (read_more c.self.inside.z c.self.invariant.z ∙ ap (λ v. v.z +ℤ pos 1) c.self.view_is)
    (more_short c.self.inside.z c.greatest-size.result c.self.invariant.z c.greatest-size.ensures.size
    c.if-self-size.true)

pub returns-then-side-size-clause-next : goal.returns-then-side-size-clause-next
returns-then-side-size-clause-next c = λ box candidate.
    let r = c.greatest-size.ensures.size in
    by_z box _ _ c.greatest-size.result c.side.result candidate c.greatest-size.ensures.value c.side.ensures.value
    (less_back c.self.inside.z _ _ c.self.invariant.z r (ap (λ v. v.z) c.self.view_is) c.if-self-size.true)
    (same_back c.side.result c.greatest-size.result c.side.ensures.size r c.if-side-size.true)
    (ap (λ v. v.x) c.above.ensures) (ap (λ v. v.y) c.above.ensures) (ap (λ v. v.z) c.above.ensures)

pub invariant_of-result : goal.invariant_of-result
invariant_of-result c = let v = c.self-then-self-size in
    let z = short_back c.greatest-size.result c.greatest-size.ensures.size in
    record { x = short_back v.inside.x v.invariant.x; y = short_back v.inside.y v.invariant.y; z = z }

pub returns-then-self-size-clause-next : goal.returns-then-self-size-clause-next
returns-then-self-size-clause-next c = λ box candidate.
    let r = c.greatest-size.ensures.size in
    let is = c.self-then-self-size in
    by_side box _ _ c.greatest-size.result c.side.result candidate c.greatest-size.ensures.value c.side.ensures.value
    (less_back c.self.inside.z _ _ c.self.invariant.z r (ap (λ v. v.z) c.self.view_is) c.if-self-size.true)
    (codes_apart c.side.result c.greatest-size.result c.if-side-size.false)
    (read_back _ _ is.invariant.x (ap (λ v. v.x) is.view_is)) (read_back _ _ is.invariant.y (ap (λ v. v.y) is.view_is))
    (read_back c.greatest-size.result _ r refl)

pub invariant_of-result-then-self-size-2 : goal.invariant_of-result-then-self-size-2
invariant_of-result-then-self-size-2 c =
    let r = c.greatest-size.ensures.size in
    let y = more_short c.self.inside.y c.greatest-size.result c.self.invariant.y r c.if-self-size-2.true in
    record { x = short_back c.self.inside.x c.self.invariant.x; y = y; z = negative_short c.greatest-size.result r }

pub returns-then-self-size-2-clause-next : goal.returns-then-self-size-2-clause-next
returns-then-self-size-2-clause-next c = λ box candidate.
    let r = c.greatest-size.ensures.size in
    let v = c.self in
    by_y box _ _ c.greatest-size.result candidate c.greatest-size.ensures.value
    (least_back v.inside.z _ _ v.invariant.z r (ap (λ v. v.z) v.view_is) c.if-self-size.false)
    (less_back v.inside.y _ _ v.invariant.y r (ap (λ v. v.y) v.view_is) c.if-self-size-2.true)
    (read_back _ _ v.invariant.x (ap (λ v. v.x) v.view_is))
    (read_more v.inside.y v.invariant.y ∙ ap (λ v. v.y +ℤ pos 1) v.view_is) (read_negative c.greatest-size.result r)

pub invariant_of-result-then-self-size-3 : goal.invariant_of-result-then-self-size-3
invariant_of-result-then-self-size-3 c =
    let r = c.greatest-size.ensures.size in
    let n = negative_short c.greatest-size.result r in
    let x = more_short c.self.inside.x c.greatest-size.result c.self.invariant.x r c.if-self-size-3.true in
    record { x = x; y = n; z = n }

pub returns-then-self-size-3-clause-next : goal.returns-then-self-size-3-clause-next
returns-then-self-size-3-clause-next c = λ box candidate.
    let r = c.greatest-size.ensures.size in
    let n = read_negative c.greatest-size.result r in
    let v = c.self in
    by_x box _ _ c.greatest-size.result candidate c.greatest-size.ensures.value
    (least_back v.inside.z _ _ v.invariant.z r (ap (λ v. v.z) v.view_is) c.if-self-size.false)
    (least_back v.inside.y _ _ v.invariant.y r (ap (λ v. v.y) v.view_is) c.if-self-size-2.false)
    (less_back v.inside.x _ _ v.invariant.x r (ap (λ v. v.x) v.view_is) c.if-self-size-3.true)
    (read_more v.inside.x v.invariant.x ∙ ap (λ v. v.x +ℤ pos 1) v.view_is) n n

pub returns-clause-last : goal.returns-clause-last
returns-clause-last c =
    let r = c.greatest-size.ensures.size in
    let v = c.self in
    last_of_size c.args.self c.greatest-size.result c.greatest-size.ensures.value
    (least_back v.inside.x _ _ v.invariant.x r (ap (λ v. v.x) v.view_is) c.if-self-size-3.false)
    (least_back v.inside.y _ _ v.invariant.y r (ap (λ v. v.y) v.view_is) c.if-self-size-2.false)
    (least_back v.inside.z _ _ v.invariant.z r (ap (λ v. v.z) v.view_is) c.if-self-size.false)
