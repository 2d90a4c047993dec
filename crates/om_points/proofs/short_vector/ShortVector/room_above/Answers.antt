use Rattle.std.proofs.Common.{arith, ap, subst, sym}
use Rattle.std.proofs.lemmas.Int.{ints}
use Rattle.om_points.specs.ShortVectors.{IsShort}
use Rattle.om_points.proofs.Codes.{read_room, room_few, room_fits}
use Rattle.om_points.proofs.Successors.{next_above}
use Rattle.om_points.proofs.short_vector.ShortVector.room_above.Goals as goal

pub returns-then-side-size-clause-next : goal.returns-then-side-size-clause-next
returns-then-side-size-clause-next c = λ box i k l.
    let r = c.greatest-size.ensures.size in
    let g = c.greatest-size.ensures.value in
    next_above box c.args.self c.greatest-size.result c.side.result _ i k c.greatest-size.ensures.value
    c.side.ensures.value (let t = c.if-side-size.true in omega (arith, ints))
    (read_room c.greatest-size.result c.self.inside.z c.args.self.z r c.self.invariant.z (ap (λ v. v.z) c.self.view_is)
    (omega (arith, ints))) l

pub overflow_cast-result : goal.overflow_cast-result
overflow_cast-result c =
    let r = c.greatest-size.ensures.size in
    let g = c.greatest-size.ensures.value in
    room_fits c.greatest-size.result c.self.inside.z c.args.self.z r c.self.invariant.z (ap (λ v. v.z) c.self.view_is)
    (omega (arith, ints))

pub returns-then-side-size-clause-few : goal.returns-then-side-size-clause-few
returns-then-side-size-clause-few c =
    let r = c.greatest-size.ensures.size in
    let g = c.greatest-size.ensures.value in
    room_few c.greatest-size.result c.self.inside.z c.args.self.z r c.self.invariant.z (ap (λ v. v.z) c.self.view_is)
    (omega (arith, ints))

pub returns-then-side-size-clause-short : goal.returns-then-side-size-clause-short
returns-then-side-size-clause-short c =
    let r = c.greatest-size.ensures.size in
    let g = c.greatest-size.ensures.value in
    subst IsShort
    (sym (read_room c.greatest-size.result c.self.inside.z c.args.self.z r c.self.invariant.z
    (ap (λ v. v.z) c.self.view_is) (omega (arith, ints)))) r
