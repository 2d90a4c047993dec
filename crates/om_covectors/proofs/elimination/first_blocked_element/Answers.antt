use Rattle.std.proofs.Common.{◌-◌, ◌<◌, arith, below_more, refl}
use Rattle.std.proofs.lemmas.Bool.{iff_false}
use Rattle.om_covectors.specs.Scans.{HasCovectorEliminatorIfAsked}
use Rattle.om_covectors.proofs.EliminationLaws.{has_fixed_eliminator, separated_if_tested, tested_if_separated}
use Rattle.om_covectors.proofs.EliminationLaws.{none_separated}
use Rattle.om_covectors.proofs.elimination.first_blocked_element.Goals as goal
use Rattle.om_covectors.proofs.elimination.first_blocked_element.Goals.{else-separation-bit-ne0-via-then-separation-bit-ne0+else-not-has_fixed_outside}
use Rattle.om_covectors.proofs.elimination.first_blocked_element.Goals.{else-separation-bit-ne0-via-else-separation-bit-ne0}

pub returns-then-separation-eq0-clause-none : goal.returns-then-separation-eq0-clause-none
returns-then-separation-eq0-clause-none c =
    λ e lt low s. absurd
    (none_separated c.args.x c.args.y c.separation-separation.result e c.separation-separation.ensures
    c.if-separation-eq0.true s)

pub returns-then-not-has_fixed_outside-clause-first : goal.returns-then-not-has_fixed_outside-clause-first
returns-then-not-has_fixed_outside-clause-first c =
    let le : c.loop-e.e - 1 < 32 = let t = c.loop-e-test.true in let h = c.requires.high in omega arith in
    let s = separated_if_tested c.args.x c.args.y c.separation-separation.result c.loop-e.e le
    c.separation-separation.ensures c.if-separation-bit-ne0.true in
    record {
      within = c.loop-e-test.true;
      bad = record {
        element = c.loop-e.auto.e;
        separated = s;
        none = λ q. iff_false c.has_fixed_outside.ensures c.if-not-has_fixed_outside.true
            ((has_fixed_eliminator c.args.members.now c.args.x c.args.y c.compose-composed.result
            c.separation-separation.result c.plus.result c.minus.result c.loop-e.e _
            c.separation-separation.type_inv c.plus.type_inv c.minus.type_inv le refl c.compose-composed.ensures
            c.separation-separation.ensures c.plus.ensures c.minus.ensures s).1 q);
      };
      before = c.loop-e.invariant;
    }

pub loop-e-preserved : goal.loop-e-preserved
loop-e-preserved c =
    let le : c.loop-e.e - 1 < 32 = let t = c.loop-e-test.true in let h = c.requires.high in omega arith in
    below_more (HasCovectorEliminatorIfAsked c.args.members.now c.args.x c.args.y) c.loop-e.e c.loop-e.invariant
    (λ low s. elim c.else-separation-bit-ne0.branch [
      | else-separation-bit-ne0-via-then-separation-bit-ne0+else-not-has_fixed_outside w ↦
          (has_fixed_eliminator c.args.members.now c.args.x c.args.y c.compose-composed.result
          c.separation-separation.result c.plus.result c.minus.result c.loop-e.e _ c.separation-separation.type_inv
          c.plus.type_inv c.minus.type_inv le refl c.compose-composed.ensures c.separation-separation.ensures
          c.plus.ensures c.minus.ensures s).0
          (w.has_fixed_outside.ensures.0 w.if-not-has_fixed_outside.false)
      | else-separation-bit-ne0-via-else-separation-bit-ne0 w ↦
          absurd (tested_if_separated c.args.x c.args.y c.separation-separation.result c.loop-e.e le
          c.separation-separation.ensures w.if-separation-bit-ne0.false s)
    ])
