-- Reorientations of lists of circuits, of cocircuits and of covectors.
--
-- Main results: the members of a list of circuits or of cocircuits, each negated on a mask, meet the axioms
-- (reoriented_axioms) and are those of the reorientation (reoriented_circuits, reoriented_cocircuits); so it is with
-- covectors (reoriented_covector_axioms, covectors_reoriented).
-- Reference: Björner, Las Vergnas, Sturmfels, White and Ziegler, Oriented Matroids, chapter 3.
use Rattle.std.specs.Prelude.{ℕ, ◌≡◌, List, map}
use Rattle.std.specs.List.{Contains}
use Rattle.std.proofs.Common.{sym, ◌∙◌, subst}
use Rattle.om_signs.specs.declared.sign.Sign.{Sign}
use Rattle.om_signs.specs.SignVec.{flip}
use Rattle.om_chirotope.specs.Map.{SignMap}
use Rattle.om_chirotope.specs.Chirotope.{IsChirotope}
use Rattle.om_members.specs.Listings.{Listing, HaveLength}
use Rattle.om_circuits.specs.Axioms.{MeetsCircuitAxioms}
use Rattle.om_covectors.specs.Axioms.{MeetsCovectorAxioms}
use Rattle.om_denotation.specs.Covectors.{IsCovectorOfChirotope, IsCovectorOfCircuits, IsCovectorOfCocircuits}
use Rattle.om_denotation.specs.Covectors.{IsCovectorOfCovectors}
use Rattle.om_denotation.specs.Denotation.{DenoteTheSame}
use Rattle.om_denotation.specs.Existence.{HasCocircuits, HasCovectors}
use Rattle.om_denotation.specs.Operations.{IsDual, IsReorientation}
use Rattle.om_denotation.proofs.DualLists.{dual_of_cocircuits}
use Rattle.om_denotation.proofs.FamilyLaws.{least_both}
use Rattle.om_denotation.proofs.ListExistence.{of_cocircuits, of_covectors}
use Rattle.om_convert.proofs.ChirotopeLaws.{covectors_lawful}
use Rattle.om_minors.proofs.FamilyMinors.{the_same, reorientation_same, reorientation_exists}
use Rattle.om_minors.proofs.FlippedLists.{length-flip, least_flipped, dual_reorientation, flipped_contains}
use Rattle.om_minors.proofs.FlippedLists.{contains_flipped, flipped_lengths}
use Rattle.om_minors.proofs.ListMinors.{has_cocircuits, axioms_of}

module _ (c d : Listing) (mask : ℕ) (elements : d.elements ≡ c.elements)
    (members : d.members ≡ map (flip mask) c.members) where
  from_member : (X : List Sign) → Contains d.members X → Contains c.members (flip mask X)
  from_member X x = flipped_contains mask c.members X (subst (λ l. Contains l X) members x)

  to_member : (X : List Sign) → Contains c.members (flip mask X) → Contains d.members X
  to_member X x = subst (λ l. Contains l X) (sym members) (contains_flipped mask c.members X x)

  pub flipped_sizes : HaveLength c.elements c.members → HaveLength d.elements d.members
  flipped_sizes lengths = subst (λ n. HaveLength n d.members) (sym elements)
      (subst (HaveLength c.elements) (sym members) (flipped_lengths mask c.elements c.members lengths))

  -- ---- circuits and cocircuits

  module _ (lengths : HaveLength c.elements c.members) (axioms : MeetsCircuitAxioms c.members) where
    reorientation_map : (k : SignMap) × HasCocircuits d k
        × IsReorientation c.elements mask (IsCovectorOfCocircuits c) (IsCovectorOfChirotope k)
    reorientation_map = by_map (of_cocircuits c lengths axioms)
      where
        by_map : (m : SignMap) × HasCocircuits c m → (k : SignMap) × HasCocircuits d k
            × IsReorientation c.elements mask (IsCovectorOfCocircuits c) (IsCovectorOfChirotope k)
        by_map (m, h) = by_other (reorientation_exists m h.axioms mask)
          where
            by_other : (k : SignMap) × IsChirotope k × (k.elements ≡ m.elements)
                × IsReorientation m.elements mask (IsCovectorOfChirotope m) (IsCovectorOfChirotope k)
                → (k : SignMap) × HasCocircuits d k
                × IsReorientation c.elements mask (IsCovectorOfCocircuits c) (IsCovectorOfChirotope k)
            by_other (k, ok, q, turned) =
                let least = least_flipped mask m.elements (IsCovectorOfChirotope m) (IsCovectorOfChirotope k) turned
                (λ X x. x.size) (λ X x. x.size ∙ q) in (
                  k,
                  has_cocircuits k d ok (q ∙ h.elements ∙ sym elements) (record {
                    sound = λ X x. (least_both k ok X).1
                        ((least X).1
                        ((least_both m h.axioms (flip mask X)).0 (h.members.sound (flip mask X) (from_member X x))));
                    complete =
                        λ X x. to_member X
                        (h.members.complete (flip mask X)
                        ((least_both m h.axioms (flip mask X)).1 ((least X).0 ((least_both k ok X).0 x))));
                  }),
                  reorientation_same mask c.elements (IsCovectorOfCocircuits c) (IsCovectorOfChirotope k)
                      (IsCovectorOfChirotope m) (IsCovectorOfChirotope k) h.same
                      (the_same c.elements (IsCovectorOfChirotope k))
                      (subst (λ n. IsReorientation n mask (IsCovectorOfChirotope m) (IsCovectorOfChirotope k))
                      h.elements turned),
                )

    pub reoriented_axioms : MeetsCircuitAxioms d.members
    reoriented_axioms = axioms_of d reorientation_map.0 reorientation_map.1

    pub reoriented_cocircuits : IsReorientation c.elements mask (IsCovectorOfCocircuits c) (IsCovectorOfCocircuits d)
    reoriented_cocircuits = reorientation_same mask c.elements (IsCovectorOfCocircuits c) (IsCovectorOfCocircuits d)
        (IsCovectorOfCocircuits c) (IsCovectorOfChirotope reorientation_map.0)
        (the_same c.elements (IsCovectorOfCocircuits c))
        (subst (λ n. DenoteTheSame n (IsCovectorOfCocircuits d) (IsCovectorOfChirotope reorientation_map.0))
        elements reorientation_map.1.same) reorientation_map.2

    pub reoriented_circuits : IsReorientation c.elements mask (IsCovectorOfCircuits c) (IsCovectorOfCircuits d)
    reoriented_circuits = dual_reorientation mask c.elements (IsCovectorOfCocircuits c) (IsCovectorOfCocircuits d)
        reoriented_cocircuits (IsCovectorOfCircuits c) (IsCovectorOfCircuits d)
        (dual_of_cocircuits c lengths axioms)
        (subst (λ n. IsDual n (IsCovectorOfCocircuits d) (IsCovectorOfCircuits d)) elements
        (dual_of_cocircuits d (flipped_sizes lengths) reoriented_axioms))

  -- ---- covectors

  pub covectors_reoriented : IsReorientation c.elements mask (IsCovectorOfCovectors c) (IsCovectorOfCovectors d)
  covectors_reoriented X l = (
    λ x. record { size = length-flip mask X ∙ l; member = from_member X x.member },
    λ x. record { size = l ∙ sym elements; member = to_member X x.member },
  )

  pub reoriented_covector_axioms : HaveLength c.elements c.members → MeetsCovectorAxioms c.members
      → MeetsCovectorAxioms d.members
  reoriented_covector_axioms lengths axioms = by_map (of_covectors c lengths axioms)
    where
      by_map : (m : SignMap) × HasCovectors c m → MeetsCovectorAxioms d.members
      by_map (m, h) = by_other (reorientation_exists m h.axioms mask)
        where
          by_other : (k : SignMap) × IsChirotope k × (k.elements ≡ m.elements)
              × IsReorientation m.elements mask (IsCovectorOfChirotope m) (IsCovectorOfChirotope k)
              → MeetsCovectorAxioms d.members
          by_other (k, ok, q, turned) = covectors_lawful k d.members (record {
            sound = λ X x. let y = h.members.sound (flip mask X) (from_member X x) in
                (turned X (sym (length-flip mask X) ∙ y.size)).1 y;
            complete = λ X x. to_member X (h.members.complete (flip mask X) ((turned X (x.size ∙ q)).0 x));
          }) ok
