-- Why a list of sign vectors isn't accepted: its first violated instance. The list is returned unchanged.
use Rattle.std.specs.Prelude.{◌≡◌, List}
use Rattle.om_signs.specs.declared.sign.Sign.{Sign}
use Rattle.om_circuits.specs.declared.bad_set.BadSet.{BadSet}
use Rattle.om_circuits.specs.Axioms.{MeetsCircuitAxioms}
use Rattle.om_circuits.specs.Instances.{IsFirstViolated}
use Rattle.om_covectors.specs.declared.bad_cov.BadCov.{BadCov}
use Rattle.om_covectors.specs.Axioms.{MeetsCovectorAxioms}
use Rattle.om_covectors.specs.Instances.{IsFirstViolatedCovectorAxiom}
use Rattle.om_convert.specs.declared.read_error.ReadSetError.{ReadSetError}
use Rattle.om_convert.specs.declared.read_error.ReadSetError.TheVariants as sets
use Rattle.om_convert.specs.declared.read_error.ReadCovError.{ReadCovError}
use Rattle.om_convert.specs.declared.read_error.ReadCovError.TheVariants as covectors

-- the list fails the axioms of circuits, and is returned with the first violated instance
pub record IsBadSet (members : List (List Sign)) (bad : BadSet) : Type 0 where
  pub unchanged : bad.list ≡ members
  pub first : IsFirstViolated members bad.why
  pub violated : MeetsCircuitAxioms members → ⊥

-- the list fails the axioms of covectors, and is returned with the first violated instance
pub record IsBadCov (members : List (List Sign)) (bad : BadCov) : Type 0 where
  pub unchanged : bad.list ≡ members
  pub first : IsFirstViolatedCovectorAxiom members bad.why
  pub violated : MeetsCovectorAxioms members → ⊥

-- why a list isn't accepted as circuits or as cocircuits; memory is never the reason
abbrev pub IsSetReadError : List (List Sign) → ReadSetError → Type 0
IsSetReadError members (sets.Bad bad) = IsBadSet members bad
IsSetReadError members (sets.Memory list) = ⊥

-- why a list isn't accepted as covectors; memory is never the reason
abbrev pub IsCovReadError : List (List Sign) → ReadCovError → Type 0
IsCovReadError members (covectors.Bad bad) = IsBadCov members bad
IsCovReadError members (covectors.Memory list) = ⊥
