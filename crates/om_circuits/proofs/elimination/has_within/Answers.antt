use Rattle.std.proofs.Common.{◌≡◌, true, false, refl, sym, subst, below_more, arith}
use Rattle.std.proofs.lemmas.Bool.{iff_false}
use Rattle.om_members.specs.Scans.{nth}
use Rattle.om_members.proofs.ScanLaws.{nth_read, nth_contained}
use Rattle.om_circuits.specs.Scans.{IsWithin}
use Rattle.om_circuits.proofs.elimination.has_within.Goals as goal

pub returns-then-is_within : goal.returns-then-is_within
returns-then-is_within c = (
  λ _. (
    c.z-item.result,
    (c.loop-z.z-index, c.loop-z-test.true, sym c.z-item.is),
    c.is_within.ensures.0 c.if-is_within.true,
  ),
  λ _. refl,
)

pub loop-z-preserved : goal.loop-z-preserved
loop-z-preserved c =
    let members = c.args.members.now in
    below_more (λ k. IsWithin c.args.plus c.args.minus (nth members k) → ⊥) c.loop-z.z-index c.loop-z.invariant
    (subst (λ Z. IsWithin c.args.plus c.args.minus Z → ⊥)
    (sym (nth_read members c.loop-z.z-index c.z-item.result c.loop-z-test.true c.z-item.is))
    (iff_false c.is_within.ensures c.if-is_within.false))

pub returns : goal.returns
returns c = (
  λ t. absurd (let q : false ≡ true = t in cc),
  λ h. absurd
      (c.loop-z.invariant h.1.0 (let a = h.1.1 in let b = c.loop-z-test.false in omega arith)
      (subst (IsWithin c.args.plus c.args.minus) (sym (nth_contained c.args.members.now h.0 h.1)) h.2)),
)
