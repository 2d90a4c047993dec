use Rattle.std.proofs.Common.{◌≡◌, true, false, sym, subst, arith}
use Rattle.om_members.specs.Vectors.{IsZero}
use Rattle.om_members.proofs.ScanLaws.{nth_contained}
use Rattle.om_covectors.proofs.closure.has_zero.Goals as goal

pub returns : goal.returns
returns c = (
  λ t. let d : false ≡ true = t in cc,
  λ h. absurd
      (c.loop-x.invariant h.1.0 (let a = h.1.1 in let b = c.loop-x-test.false in omega arith)
      (subst IsZero (sym (nth_contained c.args.members.now h.0 h.1)) h.2)),
)
