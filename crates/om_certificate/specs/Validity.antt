-- When evidence proves what it is given for, and what it then shows.
use Rattle.std.specs.Prelude.{ℕ, ◌≤◌, List, length, All, unsigned_abs}
use Rattle.om_signs.specs.declared.limits.TheConstants.{MAX_ENTRIES, MAX_MULTIPLICITY, MAX_WEIGHT}
use Rattle.om_chirotope.specs.Map.{SignMap}
use Rattle.om_vectors.specs.WholeVectors.{WholeVector}
use Rattle.om_vectors.specs.Realizations.{Realizes}
use Rattle.om_certificate.specs.declared.entry.Entry.{Entry}
use Rattle.om_certificate.specs.declared.weight.Weight.{Weight}
use Rattle.om_certificate.specs.declared.evidence.Evidence.{Evidence}
use Rattle.om_certificate.specs.declared.evidence.Evidence.TheVariants.{Vectors, Balanced, Weights}
use Rattle.om_certificate.specs.Certificates.{IsCertificate}
use Rattle.om_certificate.specs.Weights.{AreWeights}

-- vectors that realize the map, a certificate of it, or weights for it
abbrev pub IsValid : SignMap → Evidence → Type 0
IsValid m (Vectors vs) = Realizes vs m
IsValid m (Balanced es) = IsCertificate m es
IsValid m (Weights ws) = AreWeights m ws

-- no list of whole-number vectors, of any size, realizes the map
abbrev pub IsUnrealizable : SignMap → Type 0
IsUnrealizable m = (vs : List WholeVector) → Realizes vs m → ⊥

-- no list of statements is a certificate
abbrev pub HasNoCertificate : SignMap → Type 0
HasNoCertificate m = (es : List Entry) → IsCertificate m es → ⊥

-- what valid evidence shows about the map
abbrev pub Shows : SignMap → Evidence → Type 0
Shows m (Vectors vs) = Realizes vs m
Shows m (Balanced es) = IsUnrealizable m
Shows m (Weights ws) = HasNoCertificate m

-- a multiplicity within the limits
pub record IsMultiplicity (times : ℕ) : Type 0 where
  pub low : 1 ≤ times
  pub high : times ≤ MAX_MULTIPLICITY

-- entries within the limits
pub record AreEntriesWithinLimits (es : List Entry) : Type 0 where
  pub few : length es ≤ MAX_ENTRIES
  pub counted : All (λ e. IsMultiplicity e.times) es

-- weights within the limits
pub record AreWeightsWithinLimits (ws : List Weight) : Type 0 where
  pub few : length ws ≤ MAX_ENTRIES
  pub small : All (λ w. unsigned_abs w.value ≤ unsigned_abs MAX_WEIGHT) ws

-- evidence within the limits
abbrev pub IsWithinLimits : Evidence → Type 0
IsWithinLimits (Vectors vs) = Unit {0}
IsWithinLimits (Balanced es) = AreEntriesWithinLimits es
IsWithinLimits (Weights ws) = AreWeightsWithinLimits ws
