-- A list has one first violated instance at most.
--
-- Main results: one_first.
use Rattle.std.proofs.Common.{◌≡◌, List, refl, inl, inr}
use Rattle.om_signs.specs.declared.sign.Sign.{Sign}
use Rattle.om_members.proofs.OrderLaws.{IsKey, ordered_keys}
use Rattle.om_covectors.specs.declared.cov_refused.CovRefused.{CovRefused}
use Rattle.om_covectors.specs.declared.cov_refused.CovRefused.TheVariants.{NoZero, NoNegative, NoComposition}
use Rattle.om_covectors.specs.declared.cov_refused.CovRefused.TheVariants.{NoElimination}
use Rattle.om_covectors.specs.Instances.{covector_key, IsFirstViolatedCovectorAxiom}

keyed : (a : CovRefused) → IsKey (λ k. k) (covector_key a)
keyed NoZero = refl
keyed (NoNegative i) = refl
keyed (NoComposition i j) = refl
keyed (NoElimination i j e) = refl

-- an instance is known by its key
same_key : (a b : CovRefused) → covector_key a ≡ covector_key b → a ≡ b
same_key NoZero NoZero e = refl
same_key (NoNegative i) (NoNegative k) e = cc
same_key (NoComposition i j) (NoComposition k l) e = cc
same_key (NoElimination i j x) (NoElimination k l y) e = cc
same_key a b e = cc

pub one_first : (members : List (List Sign)) (a b : CovRefused) → IsFirstViolatedCovectorAxiom members a
    → IsFirstViolatedCovectorAxiom members b → a ≡ b
one_first members a b f g = elim (ordered_keys (λ k. k) (covector_key a) (covector_key b) (keyed a) (keyed b)) [
  | inl before ↦ absurd (g.first a before f.violated)
  | inr (inl after) ↦ absurd (f.first b after g.violated)
  | inr (inr same) ↦ same_key a b same
]
