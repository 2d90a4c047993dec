use Rattle.std.proofs.Common.{◌<◌, length, subst, arith}
use Rattle.std.specs.Prelude.{None}
use Rattle.std.proofs.lemmas.List.{get_or_default}
use Rattle.om_paint.specs.Paintings.{ComesBefore}
use Rattle.om_denotation.proofs.Supports.{nonzero_from_support, zero_from_support}
use Rattle.om_paint.proofs.Firsts.{kept_zero, put}
use Rattle.om_paint.proofs.search.meet.Goals as goal

pub returns-then-support-eq0 : goal.returns-then-support-eq0
returns-then-support-eq0 g c =
    λ i lt. kept_zero (g.C.Classes.holds c.args.classes.now) c.args.x c.args.firsts.now
    (zero_from_support c.args.x c.support.result c.support.ensures c.if-support-eq0.true) i

pub returns-then-is_earlier : goal.returns-then-is_earlier
returns-then-is_earlier g c = λ j small.
    let few = c.in-Some.ensures.few in
    let lt : c.in-Some.i < length c.args.firsts.now = omega (arith, few) in
    put (g.C.Classes.holds c.args.classes.now) c.args.x c.args.firsts.now c.class_of.result c.class_of.ensures.class
    c.in-Some.i c.in-Some.is lt
    (nonzero_from_support c.args.x c.support.result c.support.ensures c.support.type_inv c.if-support-eq0.false)
    (subst (ComesBefore c.args.x) (get_or_default c.args.firsts.now c.in-Some.i c.index-firsts-i.result None lt)
    (c.is_earlier.ensures.0 c.if-is_earlier.true)) j
