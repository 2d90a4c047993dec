use Rattle.std.proofs.Common.{sym, subst, ◌≤◌}
use Rattle.om_signs.specs.declared.limits.TheConstants.{MAX_PLACES}
use Rattle.om_signs.proofs.Views.{length_is}
use Rattle.om_signs.proofs.sign_vec.SignVec.len.Goals as goal

pub returns-clause-value : goal.returns-clause-value
returns-clause-value c = sym (length_is _ _ _ _ c.self.view_is)

pub returns-clause-low : goal.returns-clause-low
returns-clause-low c = subst (λ k. 1 ≤ k) (sym (length_is _ _ _ _ c.self.view_is)) c.self.invariant.low

pub returns-clause-high : goal.returns-clause-high
returns-clause-high c = subst (λ k. k ≤ MAX_PLACES) (sym (length_is _ _ _ _ c.self.view_is)) c.self.invariant.high
