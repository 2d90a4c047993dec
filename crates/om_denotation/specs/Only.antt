-- Values that are determined by what they denote: a chirotope up to sign, a list up to the order of its members.
--
-- Reference: Björner, Las Vergnas, Sturmfels, White and Ziegler, Oriented Matroids, chapter 3.
use Rattle.std.specs.Prelude.{◌≡◌, ◌↔◌, ◌⊎◌, List}
use Rattle.std.specs.List.{Contains}
use Rattle.om_signs.specs.declared.sign.Sign.{Sign}
use Rattle.om_chirotope.specs.Map.{SignMap, negated}
use Rattle.om_chirotope.specs.Chirotope.{IsChirotope}
use Rattle.om_members.specs.Listings.{Listing, HaveLength}
use Rattle.om_circuits.specs.Axioms.{MeetsCircuitAxioms}
use Rattle.om_covectors.specs.Axioms.{MeetsCovectorAxioms}
use Rattle.om_denotation.specs.Covectors.{IsCovectorOfChirotope, IsCovectorOfCircuits, IsCovectorOfCocircuits}
use Rattle.om_denotation.specs.Covectors.{IsCovectorOfCovectors}
use Rattle.om_denotation.specs.Denotation.{DenoteTheSame}

-- each chirotope on as many elements that denotes the same as m is m or its negative
pub record IsOnlyChirotope (m : SignMap) : Type 0 where
  pub only : (k : SignMap) → IsChirotope k → k.elements ≡ m.elements
      → DenoteTheSame m.elements (IsCovectorOfChirotope m) (IsCovectorOfChirotope k) → (k ≡ m) ⊎ (k ≡ negated m)

-- each list on as many elements that satisfies the axioms and denotes the same has the same members
pub record AreOnlyMembers (axioms : List (List Sign) → Type 0) (covectors : Listing → List Sign → Type 0)
    (c : Listing) : Type 0 where
  pub only : (d : Listing) → HaveLength d.elements d.members → axioms d.members → d.elements ≡ c.elements
      → DenoteTheSame c.elements (covectors c) (covectors d)
      → (X : List Sign) → Contains c.members X ↔ Contains d.members X

-- each list of circuits on as many elements that denotes the same has the same members
abbrev pub AreOnlyCircuits : Listing → Type 0
AreOnlyCircuits c = AreOnlyMembers MeetsCircuitAxioms IsCovectorOfCircuits c

-- each list of cocircuits on as many elements that denotes the same has the same members
abbrev pub AreOnlyCocircuits : Listing → Type 0
AreOnlyCocircuits c = AreOnlyMembers MeetsCircuitAxioms IsCovectorOfCocircuits c

-- each list of covectors on as many elements that denotes the same has the same members
abbrev pub AreOnlyCovectors : Listing → Type 0
AreOnlyCovectors c = AreOnlyMembers MeetsCovectorAxioms IsCovectorOfCovectors c
