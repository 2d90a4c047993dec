-- What the calls on covectors make of a list.
--
-- Main results: the members without an element have one sign less, meet the axioms and are the deletion
-- (without_members, without_lengths, without_axioms, without_deletion); so it is with those that are zero there, and
-- the contraction (zero_members, zero_lengths, zero_axioms, zero_contraction).
-- Reference: Björner, Las Vergnas, Sturmfels, White and Ziegler, Oriented Matroids, chapters 3 and 4.
use Rattle.std.specs.Prelude.{ℕ, ◌≡◌, ◌+◌, ◌-◌, ◌≤◌, List}
use Rattle.std.specs.List.{Contains}
use Rattle.std.proofs.Common.{sym, ◌∙◌, ap, subst, arith}
use Rattle.om_signs.specs.declared.sign.Sign.{Sign}
use Rattle.om_members.specs.Listings.{Listing, HaveLength}
use Rattle.om_covectors.specs.Axioms.{MeetsCovectorAxioms}
use Rattle.om_covectors.specs.CovectorSets.{IsCovectorSet}
use Rattle.om_denotation.specs.Covectors.{IsCovectorOfCovectors}
use Rattle.om_denotation.specs.Listings.{AreAllOf}
use Rattle.om_denotation.specs.Operations.{IsWithout, IsZeroWithout, IsDeletion, IsContraction}
use Rattle.om_minors.specs.Dropped.{IsDropped, IsZeroDropped}
use Rattle.om_minors.proofs.DroppedMembers as dropped
use Rattle.om_minors.proofs.ListMinors.{covectors_deleted, deleted_covector_axioms, covectors_contracted}
use Rattle.om_minors.proofs.ListMinors.{contracted_covector_axioms}

-- the list made of the members of c, which as many elements as k have, and the members of d
module _ (c : Listing) (set : IsCovectorSet c.elements c.members) (e k : ℕ) (low : 1 ≤ e) (high : e ≤ c.elements)
    (size : k ≡ c.elements) (other : k ≡ 1 → ⊥)
    (members list : List (List Sign)) (same : members ≡ c.members) where
  several : 2 ≤ c.elements
  several = let some = set.low in omega (arith, some, size, other)

  less : k - 1 + 1 ≡ c.elements
  less = let some = set.low in omega (arith, some, size)

  module _ (all : AreAllOf (IsDropped e members) list) where
    pub without_members : AreAllOf (IsWithout c.elements e (Contains c.members)) list
    without_members = dropped.dropped_all c.elements e several low high c.members set.lengths list
        (subst (λ l. AreAllOf (IsDropped e l) list) same all)

    pub without_lengths : HaveLength (k - 1) list
    without_lengths = dropped.without_lengths c.elements e several low high c.members set.lengths (k - 1) less list
        without_members

    pub without_axioms : MeetsCovectorAxioms list
    without_axioms = deleted_covector_axioms c (record { elements = k - 1; members = list }) e several low high less
        without_members set.lengths set.axioms

    pub without_deletion : (d : Listing) → d.elements ≡ k - 1 → d.members ≡ list
        → IsDeletion c.elements e (IsCovectorOfCovectors c) (IsCovectorOfCovectors d)
    without_deletion d q m =
        covectors_deleted c d e several low high (ap (λ n. n + 1) q ∙ less)
        (subst (AreAllOf (IsWithout c.elements e (Contains c.members))) (sym m) without_members)

  module _ (all : AreAllOf (IsZeroDropped e members) list) where
    pub zero_members : AreAllOf (IsZeroWithout c.elements e (Contains c.members)) list
    zero_members = dropped.zero_dropped_all c.elements e several low high c.members set.lengths list
        (subst (λ l. AreAllOf (IsZeroDropped e l) list) same all)

    pub zero_lengths : HaveLength (k - 1) list
    zero_lengths = dropped.zero_without_lengths c.elements e several low high c.members set.lengths (k - 1) less list
        zero_members

    pub zero_axioms : MeetsCovectorAxioms list
    zero_axioms = contracted_covector_axioms c (record { elements = k - 1; members = list }) e several low high less
        zero_members set.lengths set.axioms

    pub zero_contraction : (d : Listing) → d.elements ≡ k - 1 → d.members ≡ list
        → IsContraction c.elements e (IsCovectorOfCovectors c) (IsCovectorOfCovectors d)
    zero_contraction d q m =
        covectors_contracted c d e several low high (ap (λ n. n + 1) q ∙ less)
        (subst (AreAllOf (IsZeroWithout c.elements e (Contains c.members))) (sym m) zero_members)
