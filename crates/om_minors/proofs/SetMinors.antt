-- What the calls on circuits and cocircuits make of a list.
--
-- Main results: the members that are zero at an element, without it, have one sign less and meet the axioms
-- (zero_members, zero_lengths, zero_axioms); so do those of least support among all without the element (least_members,
-- least_lengths, least_axioms), and they are no more and distinct (least_few, least_distinct); what they denote, read
-- as cocircuits and as circuits (zero_cocircuits, zero_circuits, least_cocircuits, least_circuits).
-- Reference: Björner, Las Vergnas, Sturmfels, White and Ziegler, Oriented Matroids, chapters 3 and 4.
use Rattle.std.specs.Prelude.{ℕ, ◌≡◌, ◌+◌, ◌-◌, ◌≤◌, List, length}
use Rattle.std.specs.List.{Contains}
use Rattle.std.proofs.Common.{subst, arith}
use Rattle.om_signs.specs.declared.sign.Sign.{Sign}
use Rattle.om_members.specs.Listings.{Listing, HaveLength, AreDistinct}
use Rattle.om_circuits.specs.Axioms.{MeetsCircuitAxioms}
use Rattle.om_circuits.specs.SignedSets.{IsSignedSet}
use Rattle.om_covectors.specs.Minimality.{IsMinimal, AreThose}
use Rattle.om_denotation.specs.Compositions.{IsOfLeastSupport}
use Rattle.om_denotation.specs.Covectors.{IsCovectorOfCircuits, IsCovectorOfCocircuits}
use Rattle.om_denotation.specs.Listings.{AreAllOf}
use Rattle.om_denotation.specs.Operations.{IsWithout, IsZeroWithout, IsDeletion, IsContraction}
use Rattle.om_denotation.proofs.SelectionLaws.{those_few, those_distinct}
use Rattle.om_minors.specs.Dropped.{IsDropped, IsZeroDropped}
use Rattle.om_minors.proofs.DroppedMembers as dropped
use Rattle.om_minors.proofs.ListMinors.{contracted_axioms, contracted_cocircuits, deleted_circuits, deleted_axioms}
use Rattle.om_minors.proofs.ListMinors.{deleted_cocircuits, contracted_circuits}

-- the list made of the members of c, which has as many elements as k says
module _ (c : Listing) (set : IsSignedSet c.elements c.members) (e k : ℕ) (several : 2 ≤ c.elements) (low : 1 ≤ e)
    (high : e ≤ c.elements) (size : k ≡ c.elements)
    (members : List (List Sign)) (same : members ≡ c.members) where
  less : k - 1 + 1 ≡ c.elements
  less = omega (arith, several, size)

  module _ (list : List (List Sign)) (all : AreAllOf (IsZeroDropped e members) list) where
    pub zero_members : AreAllOf (IsZeroWithout c.elements e (Contains c.members)) list
    zero_members = dropped.zero_dropped_all c.elements e several low high c.members set.lengths list
        (subst (λ l. AreAllOf (IsZeroDropped e l) list) same all)

    pub zero_lengths : HaveLength (k - 1) list
    zero_lengths = dropped.zero_without_lengths c.elements e several low high c.members set.lengths (k - 1) less list
        zero_members

    pub zero_axioms : MeetsCircuitAxioms list
    zero_axioms = contracted_axioms c (record { elements = k - 1; members = list }) e several low high less set.lengths
        set.axioms zero_members

  module _ (without list : List (List Sign)) (all : AreAllOf (IsDropped e members) without)
      (those : AreThose (IsMinimal without) without list) where
    pub least_members : AreAllOf (IsOfLeastSupport (IsWithout c.elements e (Contains c.members))) list
    least_members = dropped.least_all (IsWithout c.elements e (Contains c.members)) without
        (dropped.dropped_all c.elements e several low high c.members set.lengths without
        (subst (λ l. AreAllOf (IsDropped e l) without) same all)) list those

    pub least_lengths : HaveLength (k - 1) list
    least_lengths = dropped.least_lengths c.elements e several low high c.members set.lengths (k - 1) less list
        least_members

    pub least_axioms : MeetsCircuitAxioms list
    least_axioms = deleted_axioms c (record { elements = k - 1; members = list }) e several low high less set.lengths
        set.axioms least_members

    pub least_distinct : AreDistinct without → AreDistinct list
    least_distinct distinct = those_distinct (IsMinimal without) without list those distinct

    pub least_few : (most : ℕ) → length without ≤ most → length list ≤ most
    least_few most few = let fewer = those_few (IsMinimal without) without list those in omega arith

-- ---- what they denote

-- the list d made of the members of c, which has more than one element
module _ (c d : Listing) (set : IsSignedSet c.elements c.members) (e k : ℕ) (low : 1 ≤ e) (high : e ≤ c.elements)
    (size : k ≡ c.elements) (other : k ≡ 1 → ⊥) (smaller : d.elements + 1 ≡ c.elements) where
  more : 2 ≤ c.elements
  more = let some = set.low in omega (arith, some, size, other)

  module _ (all : AreAllOf (IsZeroWithout c.elements e (Contains c.members)) d.members) where
    pub zero_cocircuits : IsContraction c.elements e (IsCovectorOfCocircuits c) (IsCovectorOfCocircuits d)
    zero_cocircuits = contracted_cocircuits c d e more low high smaller set.lengths set.axioms all

    pub zero_circuits : IsDeletion c.elements e (IsCovectorOfCircuits c) (IsCovectorOfCircuits d)
    zero_circuits = deleted_circuits c d e more low high smaller set.lengths set.axioms all
        (dropped.zero_without_lengths c.elements e more low high c.members set.lengths d.elements smaller d.members all)

  module _ (all : AreAllOf (IsOfLeastSupport (IsWithout c.elements e (Contains c.members))) d.members) where
    pub least_cocircuits : IsDeletion c.elements e (IsCovectorOfCocircuits c) (IsCovectorOfCocircuits d)
    least_cocircuits = deleted_cocircuits c d e more low high smaller set.lengths set.axioms all

    pub least_circuits : IsContraction c.elements e (IsCovectorOfCircuits c) (IsCovectorOfCircuits d)
    least_circuits = contracted_circuits c d e more low high smaller set.lengths set.axioms all
        (dropped.least_lengths c.elements e more low high c.members set.lengths d.elements smaller d.members all)
