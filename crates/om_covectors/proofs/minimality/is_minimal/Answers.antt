use Rattle.std.proofs.Common.{◌≡◌, true, false, refl, sym, ◌∙◌, subst, arith, rules, below_more}
use Rattle.om_covectors.specs.Minimality.{HasNoSmallerSupport}
use Rattle.om_members.specs.Scans.{nth}
use Rattle.om_members.proofs.ScanLaws.{nth_read, nth_contained}
use Rattle.om_covectors.proofs.minimality.is_minimal.Goals as goal

pub returns : goal.returns
returns c = (
  λ _. record {
    nonzero = λ z. let q : false ≡ true = sym c.if-is_zero.false ∙ c.is_zero.ensures.1 z in cc;
    least = λ Y y. subst (λ Z. HasNoSmallerSupport Z c.args.x) (nth_contained c.args.members.now Y y)
        (c.loop-y.invariant y.0 (let a = y.1 in let b = c.loop-y-test.false in omega arith));
  },
  λ _. refl,
)

pub returns-then-is_zero : goal.returns-then-is_zero
returns-then-is_zero c = search rules

pub returns-then-has_smaller_support : goal.returns-then-has_smaller_support
returns-then-has_smaller_support c =
    let smaller = rw c.if-has_smaller_support.true at c.has_smaller_support.ensures in (
      λ t. absurd (let q : false ≡ true = t in cc),
      λ h. absurd
          (smaller.other (h.least c.y-item.result (c.loop-y.y-index, c.loop-y-test.true, sym c.y-item.is)
          smaller.nonzero smaller.within)),
    )

pub loop-y-preserved : goal.loop-y-preserved
loop-y-preserved c =
    let members = c.args.members.now in
    below_more (λ k. HasNoSmallerSupport (nth members k) c.args.x) c.loop-y.y-index c.loop-y.invariant
    (subst (λ Y. HasNoSmallerSupport Y c.args.x)
    (sym (nth_read members c.loop-y.y-index c.y-item.result c.loop-y-test.true c.y-item.is))
    (rw c.if-has_smaller_support.false at c.has_smaller_support.ensures))
