use Rattle.std.proofs.Common.{◌≡◌, ◌≢◌, ◌-◌, ◌<◌, ◌↔◌, List, Bool, true, false, IsTrue, arith, below_more, refl, sym}
use Rattle.std.proofs.Common.{◌∙◌}
use Rattle.std.proofs.lemmas.Bool.{iff_false}
use Rattle.om_signs.specs.declared.sign.Sign.{Sign}
use Rattle.om_members.specs.Vectors.{negated}
use Rattle.om_circuits.specs.Scans.{HasEliminatorIfAsked}
use Rattle.om_circuits.proofs.EliminationLaws.{has_within_eliminator, opposed_if_tested, tested_if_opposed}
use Rattle.om_circuits.proofs.EliminationLaws.{none_opposed}
use Rattle.om_circuits.proofs.elimination.first_blocked_element.Goals as goal
use Rattle.om_circuits.proofs.elimination.first_blocked_element.Goals.{then-opposed-eq0-via-then-opposed-eq0}
use Rattle.om_circuits.proofs.elimination.first_blocked_element.Goals.{then-opposed-eq0-via-else-opposed-eq0+then-are_same}
use Rattle.om_circuits.proofs.elimination.first_blocked_element.Goals.{else-opposed-bit-ne0-via-then-opposed-bit-ne0+else-not-has_within}
use Rattle.om_circuits.proofs.elimination.first_blocked_element.Goals.{else-opposed-bit-ne0-via-else-opposed-bit-ne0}

not_same : (r : Bool) (xs ys ns : List Sign) → (IsTrue r ↔ (xs ≡ ns)) → ns ≡ negated ys → r ≡ false → xs ≢ negated ys
not_same r xs ys ns h e f q = let t : false ≡ true = sym f ∙ h.1 (q ∙ sym e) in cc

pub returns-then-opposed-eq0-clause-none : goal.returns-then-opposed-eq0-clause-none
returns-then-opposed-eq0-clause-none c = λ e lt low n o. elim c.then-opposed-eq0.branch [
  | then-opposed-eq0-via-then-opposed-eq0 w ↦
      absurd (none_opposed c.args.x c.args.y c.plus.result c.minus.result e c.plus.ensures c.minus.ensures
      w.if-opposed-eq0.true o)
  | then-opposed-eq0-via-else-opposed-eq0+then-are_same w ↦
      absurd (n (w.are_same.ensures.0 w.if-are_same.true ∙ w.neg.ensures))
]

pub loop-e-init : goal.loop-e-init
loop-e-init c = λ e lt low n o. absurd (omega arith)

pub returns-then-not-has_within-clause-first : goal.returns-then-not-has_within-clause-first
returns-then-not-has_within-clause-first c =
    let le : c.loop-e.e - 1 < 32 = let t = c.loop-e-test.true in let h = c.requires in omega arith in
    record {
      within = c.loop-e-test.true;
      bad = record {
        element = c.loop-e.auto.e;
        not_negative = not_same c.are_same.result c.args.x c.args.y c.neg.result c.are_same.ensures c.neg.ensures
            c.if-are_same.false;
        opposed = opposed_if_tested c.args.x c.args.y c.plus.result c.minus.result c.loop-e.e le c.plus.ensures
            c.minus.ensures c.if-opposed-bit-ne0.true;
        none = λ q. iff_false c.has_within.ensures c.if-not-has_within.true
            ((has_within_eliminator c.args.members.now c.args.x c.args.y c.plus-2.result c.minus-2.result
            c.plus-3.result
            c.minus-3.result c.loop-e.e _ c.plus-2.type_inv c.minus-2.type_inv c.plus-3.type_inv c.minus-3.type_inv
            le refl c.plus-2.ensures c.minus-2.ensures c.plus-3.ensures c.minus-3.ensures).1 q);
      };
      before = c.loop-e.invariant;
    }

pub loop-e-preserved : goal.loop-e-preserved
loop-e-preserved c =
    let le : c.loop-e.e - 1 < 32 = let t = c.loop-e-test.true in let h = c.requires in omega arith in
    below_more (HasEliminatorIfAsked c.args.members.now c.args.x c.args.y) c.loop-e.e c.loop-e.invariant
    (λ low n o. elim c.else-opposed-bit-ne0.branch [
      | else-opposed-bit-ne0-via-then-opposed-bit-ne0+else-not-has_within w ↦
          (has_within_eliminator c.args.members.now c.args.x c.args.y c.plus-2.result c.minus-2.result c.plus-3.result
          c.minus-3.result c.loop-e.e _ c.plus-2.type_inv c.minus-2.type_inv c.plus-3.type_inv c.minus-3.type_inv le
          refl c.plus-2.ensures c.minus-2.ensures c.plus-3.ensures c.minus-3.ensures).0
          (w.has_within.ensures.0 w.if-not-has_within.false)
      | else-opposed-bit-ne0-via-else-opposed-bit-ne0 w ↦
          absurd (tested_if_opposed c.args.x c.args.y c.plus.result c.minus.result c.loop-e.e le c.plus.ensures
          c.minus.ensures w.if-opposed-bit-ne0.false o)
    ])

pub returns-clause-none : goal.returns-clause-none
returns-clause-none c = λ e lt. c.loop-e.invariant e (let t = c.loop-e-test.false in omega arith)
