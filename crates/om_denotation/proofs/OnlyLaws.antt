-- What meets its axioms is the only one of its kind that denotes what it denotes.
--
-- Main results: only_chirotope, only_circuits, only_cocircuits, only_covectors.
-- Reference: Björner, Las Vergnas, Sturmfels, White and Ziegler, Oriented Matroids, chapter 3.
use Rattle.std.proofs.Common.{ℕ, ◌≡◌, List, sym, subst}
use Rattle.om_signs.specs.declared.sign.Sign.{Sign}
use Rattle.om_chirotope.specs.Map.{SignMap}
use Rattle.om_chirotope.specs.Chirotope.{IsChirotope}
use Rattle.om_members.specs.Listings.{Listing, HaveLength}
use Rattle.om_circuits.specs.Axioms.{MeetsCircuitAxioms}
use Rattle.om_denotation.specs.Only.{IsOnlyChirotope, AreOnlyCircuits, AreOnlyCocircuits, AreOnlyCovectors}
use Rattle.om_denotation.proofs.ListUniqueness.{one_list_of_circuits, one_list_of_cocircuits, one_list_of_covectors}
use Rattle.om_denotation.proofs.Uniqueness.{same_by_covectors}

-- a chirotope and its negative are the only ones on these elements that denote the same
pub only_chirotope : (m : SignMap) → IsChirotope m → IsOnlyChirotope m
only_chirotope m om = record { only = λ k ok e same. same_by_covectors m k om ok e same }

-- a listing with n elements and these members
module _ (c : Listing) (n : ℕ) (members : List (List Sign)) (e : c.elements ≡ n) (p : c.members ≡ members)
    (lengths : HaveLength n members) where
  all_lengths : HaveLength c.elements c.members
  all_lengths = subst (λ xs. HaveLength c.elements xs) (sym p) (subst (λ k. HaveLength k members) (sym e) lengths)

  -- if the members meet the axioms of circuits, each list of circuits that denotes the same has the same members
  pub only_circuits : MeetsCircuitAxioms members → AreOnlyCircuits c
  only_circuits axioms =
      record {
        only = λ d ld ad q same. one_list_of_circuits c d all_lengths ld
            (subst MeetsCircuitAxioms (sym p) axioms) ad q same;
      }

  -- if the members meet the axioms of circuits, each list of cocircuits that denotes the same has the same members
  pub only_cocircuits : MeetsCircuitAxioms members → AreOnlyCocircuits c
  only_cocircuits axioms =
      record {
        only = λ d ld ad q same. one_list_of_cocircuits c d all_lengths ld
            (subst MeetsCircuitAxioms (sym p) axioms) ad q same;
      }

  -- each list of covectors that denotes the same as the members has the same members
  pub only_covectors : AreOnlyCovectors c
  only_covectors = record { only = λ d ld ad q same. one_list_of_covectors c d all_lengths ld q same }
