-- Vectors that span have a chirotope.
--
-- Main results: chirotope_possible.
use Rattle.std.specs.Prelude.{ℕ, ◌≢◌, List, length}
use Rattle.std.proofs.Common.{inl, inr}
use Rattle.om_signs.specs.declared.sign.Sign.TheVariants.{Zero}
use Rattle.om_signs.proofs.SignLaws.{zero_or_nonzero}
use Rattle.om_subsets.specs.Subsets.{IsTriple}
use Rattle.om_chirotope.specs.Chirotope.{IsChirotope}
use Rattle.om_vectors.specs.Realizations.{signs_map, triple_sign, IsRankLow}
use Rattle.om_vectors.specs.WholeVectors.{WholeVector}
use Rattle.om_vectors.proofs.Triples.{low_rank_from, chirotope_from}
use Rattle.om_existence.specs.Possible.{IsPossible}
use Rattle.om_existence.proofs.Possible.{mapped}

-- some triple product isn't 0
nonzero_possible : (vs : List WholeVector) → (IsRankLow vs → ⊥)
    → IsPossible ((t : List ℕ) × (IsTriple (length vs) t × (triple_sign vs t ≢ Zero)))
nonzero_possible vs high none =
    high (low_rank_from vs
    (λ t triple. elim (zero_or_nonzero (triple_sign vs t))
    [ inl zero ↦ zero | inr other ↦ absurd (none (t, (triple, other))) ]))

pub chirotope_possible : (vs : List WholeVector) → (IsRankLow vs → ⊥) → IsPossible (IsChirotope (signs_map vs))
chirotope_possible vs high = mapped (λ h. chirotope_from vs h.0 h.1.0 h.1.1) (nonzero_possible vs high)
