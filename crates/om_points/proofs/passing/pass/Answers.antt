use Rattle.std.proofs.Common.{arith, subst, sym, ap, ◌∙◌, get_or, length, ◌-◌}
use Rattle.std.proofs.lemmas.Option.{get_or_from_slice_get}
use Rattle.om_vectors.specs.WholeVectors.{zero_vector}
use Rattle.om_points.specs.Passes.{Disagrees, IsPassed}
use Rattle.om_points.specs.Forms.{Refuses}
use Rattle.om_points.proofs.Passes.{passed_none, passed_further, passed_where, passed_candidate}
use Rattle.om_points.proofs.passing.pass.Goals as goal

pub loop-steps-init : goal.loop-steps-init
loop-steps-init c =
    let vs = c.args.placing.now in
    let e = ap (λ n. get_or vs (n - 1) zero_vector) (sym c.len.ensures.value)
    ∙ get_or_from_slice_get vs (c.len.result - 1) c.at-vector.result zero_vector c.at-vector.ensures in
    record {
      few = omega arith;
      passed = subst
          (λ v. IsPassed c.args.box_size (Disagrees vs c.args.wanted.now (length vs - 1))
          (get_or vs (length vs - 1) zero_vector) 0 v) e
          (passed_none c.args.box_size (Disagrees vs c.args.wanted.now (length vs - 1))
          (get_or vs (length vs - 1) zero_vector));
      sound = c.of-refusers.ensures;
    }

pub leap-requires-clause-candidate : goal.leap-requires-clause-candidate
leap-requires-clause-candidate c =
    passed_candidate c.args.box_size (Disagrees c.args.placing.now c.args.wanted.now (length c.args.placing.now - 1)) _
    _ _ c.requires.candidate c.loop-steps.invariant.passed

pub loop-steps-preserved : goal.loop-steps-preserved
loop-steps-preserved c =
    let vs = c.args.placing.now in
    let few = c.in-Some-leap.ensures.few in
    let before = c.loop-steps.invariant.few in
    record {
      few = omega arith;
      passed = passed_further c.args.box_size (Disagrees vs c.args.wanted.now (length vs - 1))
          (get_or vs (length vs - 1) zero_vector) c.loop-steps.vector c.in-Some-leap.passed.vector c.loop-steps.steps
          c.in-Some-leap.passed.steps c.loop-steps.invariant.passed
          (passed_where c.args.box_size (Refuses c.in-Some.form) (Disagrees vs c.args.wanted.now (length vs - 1))
          c.in-Some.ensures.sound c.loop-steps.vector c.in-Some-leap.passed.vector c.in-Some-leap.passed.steps
          c.in-Some-leap.ensures.passed);
      sound = c.refusing.ensures.still;
    }
