-- The evidence of a verdict.
use Rattle.std.specs.Prelude.{Result, Ok, Err, IfOk}
use Rattle.om_certificate.specs.declared.evidence.Evidence.{Evidence}
use Rattle.om_certificate.specs.declared.evidence.Evidence.TheVariants.{Vectors, Balanced, Weights}
use Rattle.om_certificate.specs.declared.verdict.Verdict.{Verdict}
use Rattle.om_certificate.specs.declared.verdict.Verdict.TheVariants.{Realizable, Nonrealizable, Undecided, Limit}
use Rattle.om_certificate.specs.Validity.{IsWithinLimits}

-- the vectors, the entries or the weights; a limit is given back
abbrev pub certificate_of : Verdict → Result Evidence Verdict
certificate_of (Realizable word) = Ok (Vectors word)
certificate_of (Nonrealizable entries) = Ok (Balanced entries)
certificate_of (Undecided weights unfound) = Ok (Weights weights)
certificate_of (Limit end unfound) = Err (Limit end unfound)

-- if the verdict carries evidence, this is within the limits of the checker
abbrev pub HasEvidenceWithinLimits : Verdict → Type 0
HasEvidenceWithinLimits v = IfOk (certificate_of v) IsWithinLimits
