-- Minors of lists of circuits, of cocircuits and of covectors.
--
-- Main results: contractions and deletions of covectors (covectors_contracted, covectors_deleted); the members of a
-- list of cocircuits that are zero at an element are the cocircuits of the contraction, and read as circuits those of
-- the deletion (contracted_axioms, contracted_cocircuits, deleted_circuits); those of least support without the element
-- are the cocircuits of the deletion, and read as circuits those of the contraction (deleted_axioms,
-- deleted_cocircuits, contracted_circuits).
-- Reference: Björner, Las Vergnas, Sturmfels, White and Ziegler, Oriented Matroids, chapters 3 and 4.
use Rattle.std.specs.Prelude.{ℕ, ◌≡◌, ◌+◌, ◌-◌, ◌≤◌, List, length, refl}
use Rattle.std.specs.List.{Contains}
use Rattle.std.proofs.Common.{sym, ◌∙◌, subst, arith}
use Rattle.om_signs.specs.declared.sign.Sign.{Sign}
use Rattle.om_chirotope.specs.Map.{SignMap}
use Rattle.om_chirotope.specs.Chirotope.{IsChirotope}
use Rattle.om_members.specs.Listings.{Listing, HaveLength}
use Rattle.om_circuits.specs.Axioms.{MeetsCircuitAxioms}
use Rattle.om_covectors.specs.Axioms.{MeetsCovectorAxioms}
use Rattle.om_denotation.specs.Circuits.{IsCocircuitOfChirotope}
use Rattle.om_denotation.specs.Compositions.{IsOfLeastSupport, HasConformingParts}
use Rattle.om_denotation.specs.Covectors.{IsCovectorOfChirotope, IsCovectorOfCircuits, IsCovectorOfCocircuits}
use Rattle.om_denotation.specs.Covectors.{IsCovectorOfCovectors}
use Rattle.om_denotation.specs.Denotation.{DenoteTheSame}
use Rattle.om_denotation.specs.Existence.{HasCircuits, HasCocircuits, HasCovectors}
use Rattle.om_denotation.specs.Listings.{AreAllOf}
use Rattle.om_denotation.specs.Operations.{IsDual, IsWithout, IsZeroWithout, IsDeletion, IsContraction}
use Rattle.om_denotation.proofs.DualLists.{dual_of_cocircuits}
use Rattle.om_denotation.proofs.FamilyLaws.{cocircuit_covector, least_both, parts_both}
use Rattle.om_denotation.proofs.ListExistence.{of_circuits, of_cocircuits, of_covectors}
use Rattle.om_convert.proofs.ChirotopeLaws.{cocircuits_lawful, same_as_cocircuits, covectors_lawful}
use Rattle.om_minors.proofs.DroppedPlaces.{shorter_of, without_within, zero_without_within, least_contracted}
use Rattle.om_minors.proofs.DroppedPlaces.{least_deleted}
use Rattle.om_minors.proofs.DualMinors.{deletion_exists, dual_deletion}
use Rattle.om_minors.proofs.FamilyMinors.{the_same, deletion_same, contraction_same, dual_between, dual_contraction}
use Rattle.om_minors.proofs.FamilyMinors.{contraction_exists}

-- ---- lists of all cocircuits and of all covectors of a chirotope

pub has_cocircuits : (k : SignMap) (d : Listing) → IsChirotope k → k.elements ≡ d.elements
    → AreAllOf (IsCocircuitOfChirotope k) d.members → HasCocircuits d k
has_cocircuits k d ok q all = record {
  axioms = ok;
  elements = q;
  members = all;
  same = subst (λ n. DenoteTheSame n (IsCovectorOfCocircuits d) (IsCovectorOfChirotope k)) q
      (λ X l. let s = same_as_cocircuits k ok d.members all d (sym q) refl X l in (s.1, s.0));
}

pub axioms_of : (d : Listing) (k : SignMap) → HasCocircuits d k → MeetsCircuitAxioms d.members
axioms_of d k h = cocircuits_lawful k h.axioms d.members h.members

-- ---- minors

module _ (c d : Listing) (e : ℕ) (several : 2 ≤ c.elements) (low : 1 ≤ e) (high : e ≤ c.elements)
    (size : d.elements + 1 ≡ c.elements) where
  smaller : (m k : SignMap) → m.elements ≡ c.elements → k.elements ≡ m.elements - 1 → k.elements ≡ d.elements
  smaller m k q r = omega (arith, q, r, size)

  of_size : (m : SignMap) → m.elements ≡ c.elements → (2 ≤ m.elements) × (e ≤ m.elements)
  of_size m q = (omega (arith, q, several), omega (arith, q, high))

  -- what is said of the covectors of a chirotope with one element less
  shortened : (m k : SignMap) → m.elements ≡ c.elements → k.elements ≡ m.elements - 1 → (X : List Sign)
      → IsCovectorOfChirotope k X → length X + 1 ≡ c.elements
  shortened m k q r X x = let l = x.size in omega (arith, l, q, r, several)

  -- ---- cocircuits

  module _ (lengths : HaveLength c.elements c.members) (axioms : MeetsCircuitAxioms c.members) where
    -- the members that are zero at e
    module _ (all : AreAllOf (IsZeroWithout c.elements e (Contains c.members)) d.members) where
      contraction_map : (k : SignMap) × HasCocircuits d k
          × IsContraction c.elements e (IsCovectorOfCocircuits c) (IsCovectorOfChirotope k)
      contraction_map = by_map (of_cocircuits c lengths axioms)
        where
          by_map : (m : SignMap) × HasCocircuits c m → (k : SignMap) × HasCocircuits d k
              × IsContraction c.elements e (IsCovectorOfCocircuits c) (IsCovectorOfChirotope k)
          by_map (m, h) =
              by_minor (contraction_exists m h.axioms e (of_size m h.elements).0 low (of_size m h.elements).1)
            where
              by_minor : (k : SignMap) × IsChirotope k × (k.elements ≡ m.elements - 1)
                  × IsContraction m.elements e (IsCovectorOfChirotope m) (IsCovectorOfChirotope k)
                  → (k : SignMap) × HasCocircuits d k
                  × IsContraction c.elements e (IsCovectorOfCocircuits c) (IsCovectorOfChirotope k)
              by_minor (k, ok, q, minor) =
                  let less =
                  subst (λ n. IsContraction n e (IsCovectorOfChirotope m) (IsCovectorOfChirotope k)) h.elements
                  minor in
                  let least =
                  least_contracted c.elements e low high (IsCovectorOfChirotope m) (IsCovectorOfChirotope k)
                  (λ X x. x.size ∙ h.elements) (shortened m k h.elements q) less in (
                    k,
                    has_cocircuits k d ok (smaller m k h.elements q) (record {
                      sound = λ X x. (least_both k ok X).1
                          ((least X).1
                          (zero_without_within c.elements e low high (Contains c.members)
                          (IsOfLeastSupport (IsCovectorOfChirotope m))
                          (λ W w. (least_both m h.axioms W).0 (h.members.sound W w)) X (all.sound X x)));
                      complete =
                          λ X x. all.complete X
                          (zero_without_within c.elements e low high (IsOfLeastSupport (IsCovectorOfChirotope m))
                          (Contains c.members) (λ W w. h.members.complete W ((least_both m h.axioms W).1 w)) X
                          ((least X).0 ((least_both k ok X).0 x)));
                    }),
                    contraction_same c.elements d.elements e (IsCovectorOfCocircuits c) (IsCovectorOfChirotope k)
                        (IsCovectorOfChirotope m) (IsCovectorOfChirotope k) size h.same
                        (the_same d.elements (IsCovectorOfChirotope k)) less,
                  )

      pub contracted_axioms : MeetsCircuitAxioms d.members
      contracted_axioms = axioms_of d contraction_map.0 contraction_map.1

      pub contracted_cocircuits : IsContraction c.elements e (IsCovectorOfCocircuits c) (IsCovectorOfCocircuits d)
      contracted_cocircuits =
          contraction_same c.elements d.elements e (IsCovectorOfCocircuits c) (IsCovectorOfCocircuits d)
          (IsCovectorOfCocircuits c) (IsCovectorOfChirotope contraction_map.0)
          size (the_same c.elements (IsCovectorOfCocircuits c)) contraction_map.1.same contraction_map.2

      pub deleted_circuits : HaveLength d.elements d.members
          → IsDeletion c.elements e (IsCovectorOfCircuits c) (IsCovectorOfCircuits d)
      deleted_circuits shorter =
          by_maps (of_cocircuits c lengths axioms) (of_circuits c lengths axioms)
          (of_circuits d shorter contracted_axioms)
        where
          by_maps : (m : SignMap) × HasCocircuits c m → (o : SignMap) × HasCircuits c o → (l : SignMap)
              × HasCircuits d l → IsDeletion c.elements e (IsCovectorOfCircuits c) (IsCovectorOfCircuits d)
          by_maps (m, hm) (o, ho) (l, hl) =
              let k = contraction_map.0 in
              let hk = contraction_map.1 in
              let back : m.elements ≡ c.elements = hm.elements in
              let less : d.elements ≡ m.elements - 1 = omega (arith, back, size) in
              let dual = subst (λ n. IsDual n (IsCovectorOfChirotope m) (IsCovectorOfChirotope o)) (sym back)
              (dual_between c.elements (IsCovectorOfCocircuits c) (IsCovectorOfCircuits c) (IsCovectorOfChirotope m)
              (IsCovectorOfChirotope o) hm.same ho.same (dual_of_cocircuits c lengths axioms)) in
              let last = subst (λ n. IsDual n (IsCovectorOfChirotope contraction_map.0) (IsCovectorOfChirotope l)) less
              (dual_between d.elements (IsCovectorOfCocircuits d) (IsCovectorOfCircuits d)
              (IsCovectorOfChirotope contraction_map.0) (IsCovectorOfChirotope l) contraction_map.1.same hl.same
              (dual_of_cocircuits d shorter contracted_axioms)) in
              let minor =
              subst (λ n. IsContraction n e (IsCovectorOfChirotope m) (IsCovectorOfChirotope contraction_map.0))
              (sym back)
              (contraction_same c.elements d.elements e (IsCovectorOfChirotope m)
              (IsCovectorOfChirotope contraction_map.0) (IsCovectorOfCocircuits c)
              (IsCovectorOfChirotope contraction_map.0)
              size (λ X s. ((hm.same X s).1, (hm.same X s).0))
              (the_same d.elements (IsCovectorOfChirotope contraction_map.0)) contraction_map.2) in
              deletion_same c.elements d.elements e (IsCovectorOfCircuits c) (IsCovectorOfCircuits d)
              (IsCovectorOfChirotope o) (IsCovectorOfChirotope l) size ho.same hl.same
              (subst (λ n. IsDeletion n e (IsCovectorOfChirotope o) (IsCovectorOfChirotope l)) back
              (dual_deletion m o contraction_map.0 l e hm.axioms (of_size m back).0 low (of_size m back).1 dual minor
              last))

    -- the members of least support, without e
    module _ (all : AreAllOf (IsOfLeastSupport (IsWithout c.elements e (Contains c.members))) d.members) where
      deletion_map : (k : SignMap) × HasCocircuits d k
          × IsDeletion c.elements e (IsCovectorOfCocircuits c) (IsCovectorOfChirotope k)
      deletion_map = by_map (of_cocircuits c lengths axioms)
        where
          by_map : (m : SignMap) × HasCocircuits c m → (k : SignMap) × HasCocircuits d k
              × IsDeletion c.elements e (IsCovectorOfCocircuits c) (IsCovectorOfChirotope k)
          by_map (m, h) = by_minor (deletion_exists m h.axioms e (of_size m h.elements).0 low (of_size m h.elements).1)
            where
              within : (X : List Sign) → Contains c.members X → IsCovectorOfChirotope m X
              within X x = cocircuit_covector m h.axioms X (h.members.sound X x)

              parts : (X : List Sign) → IsCovectorOfChirotope m X → HasConformingParts (Contains c.members) X
              parts X x i k = let p = (parts_both m h.axioms X x.size).0 x i k in
                  (p.0, h.members.complete p.0 p.1, p.2, p.3)

              by_minor : (k : SignMap) × IsChirotope k × (k.elements ≡ m.elements - 1)
                  × IsDeletion m.elements e (IsCovectorOfChirotope m) (IsCovectorOfChirotope k)
                  → (k : SignMap) × HasCocircuits d k
                  × IsDeletion c.elements e (IsCovectorOfCocircuits c) (IsCovectorOfChirotope k)
              by_minor (k, ok, q, minor) =
                  let less =
                  subst (λ n. IsDeletion n e (IsCovectorOfChirotope m) (IsCovectorOfChirotope k)) h.elements minor
                  in
                  let least =
                  least_deleted c.elements e low high (IsCovectorOfChirotope m) (IsCovectorOfChirotope k)
                  (λ X x. x.size ∙ h.elements) (shortened m k h.elements q) less (Contains c.members) within parts
                  in (
                    k,
                    has_cocircuits k d ok (smaller m k h.elements q) (record {
                      sound = λ X x. (least_both k ok X).1 ((least X).1 (all.sound X x));
                      complete = λ X x. all.complete X ((least X).0 ((least_both k ok X).0 x));
                    }),
                    deletion_same c.elements d.elements e (IsCovectorOfCocircuits c) (IsCovectorOfChirotope k)
                        (IsCovectorOfChirotope m) (IsCovectorOfChirotope k) size h.same
                        (the_same d.elements (IsCovectorOfChirotope k)) less,
                  )

      pub deleted_axioms : MeetsCircuitAxioms d.members
      deleted_axioms = axioms_of d deletion_map.0 deletion_map.1

      pub deleted_cocircuits : IsDeletion c.elements e (IsCovectorOfCocircuits c) (IsCovectorOfCocircuits d)
      deleted_cocircuits = deletion_same c.elements d.elements e (IsCovectorOfCocircuits c) (IsCovectorOfCocircuits d)
          (IsCovectorOfCocircuits c) (IsCovectorOfChirotope deletion_map.0)
          size (the_same c.elements (IsCovectorOfCocircuits c)) deletion_map.1.same deletion_map.2

      pub contracted_circuits : HaveLength d.elements d.members
          → IsContraction c.elements e (IsCovectorOfCircuits c) (IsCovectorOfCircuits d)
      contracted_circuits shorter =
          let less : d.elements ≡ c.elements - 1 = omega (arith, size) in
          dual_contraction c.elements e low high (IsCovectorOfCocircuits c) (IsCovectorOfCircuits c)
          (IsCovectorOfCocircuits d) (IsCovectorOfCircuits d)
          (dual_of_cocircuits c lengths axioms)
          (subst (λ n. IsDual n (IsCovectorOfCocircuits d) (IsCovectorOfCircuits d)) less
          (dual_of_cocircuits d shorter deleted_axioms))
          deleted_cocircuits

  -- ---- covectors

  -- the members without e
  module _ (all : AreAllOf (IsWithout c.elements e (Contains c.members)) d.members) where
    pub covectors_deleted : IsDeletion c.elements e (IsCovectorOfCovectors c) (IsCovectorOfCovectors d)
    covectors_deleted X l = (
      λ x. let w = all.sound X x.member in (w.0, w.1, record { size = w.1; member = w.2 }, w.3),
      λ w. record { size = omega (arith, l, size); member = all.complete X (w.0, w.1, w.2.member, w.3) },
    )

    pub deleted_covector_axioms : HaveLength c.elements c.members → MeetsCovectorAxioms c.members
        → MeetsCovectorAxioms d.members
    deleted_covector_axioms lengths axioms = by_map (of_covectors c lengths axioms)
      where
        by_map : (m : SignMap) × HasCovectors c m → MeetsCovectorAxioms d.members
        by_map (m, h) = by_minor (deletion_exists m h.axioms e (of_size m h.elements).0 low (of_size m h.elements).1)
          where
            by_minor : (k : SignMap) × IsChirotope k × (k.elements ≡ m.elements - 1)
                × IsDeletion m.elements e (IsCovectorOfChirotope m) (IsCovectorOfChirotope k)
                → MeetsCovectorAxioms d.members
            by_minor (k, ok, q, minor) =
                let less = subst (λ n. IsDeletion n e (IsCovectorOfChirotope m) (IsCovectorOfChirotope k)) h.elements
                minor in
                covectors_lawful k d.members (record {
                  sound = λ X x. let w = all.sound X x in
                      (less X (shorter_of c.elements e low high X w.0 w.1 w.3)).1
                      (without_within c.elements e low high (Contains c.members) (IsCovectorOfChirotope m)
                      h.members.sound X w);
                  complete =
                      λ X x. all.complete X
                      (without_within c.elements e low high (IsCovectorOfChirotope m) (Contains c.members)
                      h.members.complete X ((less X (shortened m k h.elements q X x)).0 x));
                }) ok

  -- the members that are zero at e, without e
  module _ (all : AreAllOf (IsZeroWithout c.elements e (Contains c.members)) d.members) where
    pub covectors_contracted : IsContraction c.elements e (IsCovectorOfCovectors c) (IsCovectorOfCovectors d)
    covectors_contracted X l = (
      λ x. let w = all.sound X x.member in (w.0, w.1, record { size = w.1; member = w.2 }, w.3, w.4),
      λ w. record { size = omega (arith, l, size); member = all.complete X (w.0, w.1, w.2.member, w.3, w.4) },
    )

    pub contracted_covector_axioms : HaveLength c.elements c.members → MeetsCovectorAxioms c.members
        → MeetsCovectorAxioms d.members
    contracted_covector_axioms lengths axioms = by_map (of_covectors c lengths axioms)
      where
        by_map : (m : SignMap) × HasCovectors c m → MeetsCovectorAxioms d.members
        by_map (m, h) = by_minor (contraction_exists m h.axioms e (of_size m h.elements).0 low (of_size m h.elements).1)
          where
            by_minor : (k : SignMap) × IsChirotope k × (k.elements ≡ m.elements - 1)
                × IsContraction m.elements e (IsCovectorOfChirotope m) (IsCovectorOfChirotope k)
                → MeetsCovectorAxioms d.members
            by_minor (k, ok, q, minor) =
                let less = subst (λ n. IsContraction n e (IsCovectorOfChirotope m) (IsCovectorOfChirotope k)) h.elements
                minor in
                covectors_lawful k d.members (record {
                  sound = λ X x. let w = all.sound X x in
                      (less X (shorter_of c.elements e low high X w.0 w.1 w.4)).1
                      (zero_without_within c.elements e low high (Contains c.members) (IsCovectorOfChirotope m)
                      h.members.sound X w);
                  complete =
                      λ X x. all.complete X
                      (zero_without_within c.elements e low high (IsCovectorOfChirotope m) (Contains c.members)
                      h.members.complete X ((less X (shortened m k h.elements q X x)).0 x));
                }) ok
