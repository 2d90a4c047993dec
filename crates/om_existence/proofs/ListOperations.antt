-- Duals, minors and reorientations of lists of circuits, of cocircuits and of covectors.
--
-- Main results: circuits_dual, circuits_deleted, circuits_contracted, circuits_reoriented, and the same of cocircuits
-- and of covectors: a list that the operation makes, with no more members than a list may have.
-- Reference: Björner, Las Vergnas, Sturmfels, White and Ziegler, Oriented Matroids, chapters 3 and 4.
use Rattle.std.specs.Prelude.{ℕ, ◌≡◌, ◌+◌, ◌-◌, List, map, refl}
use Rattle.std.specs.List.{Contains}
use Rattle.std.proofs.Common.{◌∙◌, subst, arith}
use Rattle.om_signs.specs.declared.limits.TheConstants.{MAX_MEMBERS}
use Rattle.om_signs.specs.declared.sign.Sign.{Sign}
use Rattle.om_signs.specs.SignVec.{flip}
use Rattle.om_chirotope.specs.Map.{SignMap}
use Rattle.om_circuits.specs.Axioms.{MeetsCircuitAxioms}
use Rattle.om_covectors.specs.Axioms.{MeetsCovectorAxioms}
use Rattle.om_members.specs.Listings.{Listing}
use Rattle.om_convert.proofs.ChirotopeLaws.{covectors_lawful}
use Rattle.om_denotation.specs.Compositions.{IsOfLeastSupport}
use Rattle.om_denotation.specs.Covectors.{IsCovectorOfChirotope, IsCovectorOfCircuits, IsCovectorOfCocircuits}
use Rattle.om_denotation.specs.Covectors.{IsCovectorOfCovectors}
use Rattle.om_denotation.specs.Dual.{dual_of}
use Rattle.om_denotation.specs.Existence.{HasCovectors}
use Rattle.om_denotation.specs.Listings.{AreAllOf, HasMoreThan}
use Rattle.om_denotation.specs.Maps.{IsNormalFormOf}
use Rattle.om_denotation.specs.Operations.{IsDual, IsWithout, IsZeroWithout}
use Rattle.om_denotation.specs.Vectors.{IsVectorOf}
use Rattle.om_denotation.proofs.DualLists.{dual_of_circuits, dual_of_cocircuits, normal_dual, axioms_of_dual}
use Rattle.om_denotation.proofs.DualMaps.{is_dual}
use Rattle.om_denotation.proofs.ListExistence.{of_covectors}
use Rattle.om_denotation.proofs.NormalForms.{normal_elements}
use Rattle.om_minors.proofs.FamilyMinors.{the_same, dual_between}
use Rattle.om_minors.proofs.ListMinors as minors
use Rattle.om_minors.proofs.ListReorientations as turns
use Rattle.om_document.specs.Form.{AreMembersOn}
use Rattle.om_commands.specs.declared.operation.Operation.{Operation}
use Rattle.om_commands.specs.declared.operation.Operation.TheVariants.{Dual, Delete, Contract, Reorient}
use Rattle.om_commands.specs.Operations.{AreMade, elements_left}
use Rattle.om_existence.specs.Possible.{IsPossible}
use Rattle.om_existence.proofs.Possible.{mapped}
use Rattle.om_existence.proofs.OperationCases.{IsOneOfSeveral}
use Rattle.om_existence.proofs.ShorterLists.{shorter_list, flipped_on}
use Rattle.om_existence.proofs.WithinLimits.{HasList, all_listed}

abbrev listing : ℕ → List (List Sign) → Listing
listing n members = record { elements = n; members = members }

-- a list that meets axioms and has, read as a kind says, the covectors that an operation makes of the covectors P
pub record IsListMade (o : Operation) (n : ℕ) (P : List Sign → Type 0) (Axioms : List (List Sign) → Type 0)
    (Reading : Listing → List Sign → Type 0) (list : List (List Sign)) : Type 0 where
  pub on : AreMembersOn (elements_left o n) list
  pub axioms : Axioms list
  pub covectors : AreMade o n P (Reading (listing (elements_left o n) list))

-- such a list of circuits, of cocircuits, of covectors
abbrev pub AreCircuitsMade : Operation → ℕ → (List Sign → Type 0) → List (List Sign) → Type 0
AreCircuitsMade o n P = IsListMade o n P MeetsCircuitAxioms IsCovectorOfCircuits

abbrev pub AreCocircuitsMade : Operation → ℕ → (List Sign → Type 0) → List (List Sign) → Type 0
AreCocircuitsMade o n P = IsListMade o n P MeetsCircuitAxioms IsCovectorOfCocircuits

abbrev pub AreCovectorsMade : Operation → ℕ → (List Sign → Type 0) → List (List Sign) → Type 0
AreCovectorsMade o n P = IsListMade o n P MeetsCovectorAxioms IsCovectorOfCovectors

-- some list is such a one
abbrev pub HasMembers : (List (List Sign) → Type 0) → Type 0
HasMembers Made = (list : List (List Sign)) × Made list

module _ (n : ℕ) (members : List (List Sign)) (on : AreMembersOn n members) where
  abbrev c : Listing
  c = listing n members

  abbrev flipped : ℕ → List (List Sign)
  flipped mask = map (flip mask) members

  -- the members that are zero at e, all members, and those of least support, without e
  module _ (e : ℕ) (one : IsOneOfSeveral n e) where
    abbrev IsZeroPart : List Sign → Type 0
    IsZeroPart = IsZeroWithout n e (Contains members)

    abbrev IsPart : List Sign → Type 0
    IsPart = IsWithout n e (Contains members)

    less : n - 1 + 1 ≡ n
    less = let more = one.several in omega (arith, more)

    zero_list : IsPossible (HasList (n - 1) IsZeroPart)
    zero_list = shorter_list n members on e one IsZeroPart (λ X w. (w.0, w.1, w.2, w.4))

    without_list : IsPossible (HasList (n - 1) IsPart)
    without_list = shorter_list n members on e one IsPart (λ X w. w)

    least_list : IsPossible (HasList (n - 1) (IsOfLeastSupport IsPart))
    least_list = shorter_list n members on e one (IsOfLeastSupport IsPart) (λ X w. w.member)

  -- ---- circuits and cocircuits

  module _ (axioms : MeetsCircuitAxioms members) where
    -- the dual reads the same members as the other kind
    pub circuits_dual : AreCocircuitsMade Dual n (IsCovectorOfCircuits c) members
    circuits_dual = record { on = on; axioms = axioms; covectors = dual_of_circuits c on.long axioms }

    pub cocircuits_dual : AreCircuitsMade Dual n (IsCovectorOfCocircuits c) members
    cocircuits_dual = record { on = on; axioms = axioms; covectors = dual_of_cocircuits c on.long axioms }

    module _ (e : ℕ) (one : IsOneOfSeveral n e) where
      zero_axioms : (h : HasList (n - 1) (IsZeroPart e one)) → MeetsCircuitAxioms h.0
      zero_axioms (list, (all, short)) = minors.contracted_axioms c (listing (n - 1) list)
          e one.several one.low one.high (less e one) on.long axioms all

      least_axioms : (h : HasList (n - 1) (IsOfLeastSupport (IsPart e one))) → MeetsCircuitAxioms h.0
      least_axioms (list, (all, short)) = minors.deleted_axioms c (listing (n - 1) list)
          e one.several one.low one.high (less e one) on.long axioms all

      pub circuits_deleted : IsPossible (HasMembers (AreCircuitsMade (Delete e) n (IsCovectorOfCircuits c)))
      circuits_deleted = mapped (λ h. (
        h.0,
        record {
          on = h.1.1;
          axioms = zero_axioms h;
          covectors = minors.deleted_circuits c (listing (n - 1) h.0)
              e one.several one.low one.high (less e one) on.long axioms h.1.0 h.1.1.long;
        },
      )) (zero_list e one)

      pub circuits_contracted : IsPossible (HasMembers (AreCircuitsMade (Contract e) n (IsCovectorOfCircuits c)))
      circuits_contracted = mapped (λ h. (
        h.0,
        record {
          on = h.1.1;
          axioms = least_axioms h;
          covectors = minors.contracted_circuits c (listing (n - 1) h.0)
              e one.several one.low one.high (less e one) on.long axioms h.1.0 h.1.1.long;
        },
      )) (least_list e one)

      pub cocircuits_deleted : IsPossible (HasMembers (AreCocircuitsMade (Delete e) n (IsCovectorOfCocircuits c)))
      cocircuits_deleted = mapped (λ h. (
        h.0,
        record {
          on = h.1.1;
          axioms = least_axioms h;
          covectors = minors.deleted_cocircuits c (listing (n - 1) h.0)
              e one.several one.low one.high (less e one) on.long axioms h.1.0;
        },
      )) (least_list e one)

      pub cocircuits_contracted : IsPossible (HasMembers (AreCocircuitsMade (Contract e) n (IsCovectorOfCocircuits c)))
      cocircuits_contracted = mapped (λ h. (
        h.0,
        record {
          on = h.1.1;
          axioms = zero_axioms h;
          covectors = minors.contracted_cocircuits c (listing (n - 1) h.0)
              e one.several one.low one.high (less e one) on.long axioms h.1.0;
        },
      )) (zero_list e one)

    pub circuits_reoriented : (mask : ℕ) → AreCircuitsMade (Reorient mask) n (IsCovectorOfCircuits c) (flipped mask)
    circuits_reoriented mask = record {
      on = flipped_on mask n members on;
      axioms = turns.reoriented_axioms c (listing n (flipped mask)) mask refl refl on.long axioms;
      covectors = turns.reoriented_circuits c (listing n (flipped mask)) mask refl refl on.long axioms;
    }

    pub cocircuits_reoriented : (mask : ℕ)
        → AreCocircuitsMade (Reorient mask) n (IsCovectorOfCocircuits c) (flipped mask)
    cocircuits_reoriented mask = record {
      on = flipped_on mask n members on;
      axioms = turns.reoriented_axioms c (listing n (flipped mask)) mask refl refl on.long axioms;
      covectors = turns.reoriented_cocircuits c (listing n (flipped mask)) mask refl refl on.long axioms;
    }

  -- ---- covectors

  module _ (axioms : MeetsCovectorAxioms members) where
    -- the covectors of the dual are the vectors
    dual_covectors : (m : SignMap) (h : HasCovectors c m) (k : SignMap) → IsNormalFormOf (dual_of m) k
        → IsDual n (IsCovectorOfCovectors c) (IsCovectorOfChirotope k)
    dual_covectors m h k normal =
        let P = IsCovectorOfChirotope m in
        let Q = IsCovectorOfChirotope k in
        let own = subst (λ j. IsDual j P Q) h.elements (is_dual m h.axioms k normal) in
        dual_between n P Q (IsCovectorOfCovectors c) Q (λ X l. ((h.same X l).1, (h.same X l).0)) (the_same n Q) own

    vectors_lawful : (list : List (List Sign)) → AreAllOf (IsVectorOf n (IsCovectorOfCovectors c)) list
        → MeetsCovectorAxioms list
    vectors_lawful list all = by_map (of_covectors c on.long axioms)
      where
        by_map : (m : SignMap) × HasCovectors c m → MeetsCovectorAxioms list
        by_map (m, h) =
            let k = normal_dual m h.axioms in
            let size = normal_elements (dual_of m) k.0 k.1 ∙ h.elements in
            let dual = dual_covectors m h k.0 k.1 in
            covectors_lawful k.0 list (record {
              sound = λ X x. let v = all.sound X x in (dual X v.0).1 v.1;
              complete = λ X x. all.complete X (x.size ∙ size, (dual X (x.size ∙ size)).0 x);
            }) (axioms_of_dual m h.axioms k.0 k.1)

    pub covectors_dual : (HasMoreThan MAX_MEMBERS (IsVectorOf n (IsCovectorOfCovectors c)) → ⊥)
        → IsPossible (HasMembers (AreCovectorsMade Dual n (IsCovectorOfCovectors c)))
    covectors_dual few = mapped (λ h. (
      h.0,
      record {
        on = h.1.1;
        axioms = vectors_lawful h.0 h.1.0;
        covectors = λ Y size. (
          λ y. (h.1.0.sound Y y.member).1,
          λ v. record { size = size; member = h.1.0.complete Y (size, v) },
        );
      },
    )) (all_listed n (IsVectorOf n (IsCovectorOfCovectors c)) (λ X v. v.0) few)

    module _ (e : ℕ) (one : IsOneOfSeveral n e) where
      pub covectors_deleted : IsPossible (HasMembers (AreCovectorsMade (Delete e) n (IsCovectorOfCovectors c)))
      covectors_deleted = mapped (λ h. (
        h.0,
        record {
          on = h.1.1;
          axioms = minors.deleted_covector_axioms c (listing (n - 1) h.0)
              e one.several one.low one.high (less e one) h.1.0 on.long axioms;
          covectors = minors.covectors_deleted c (listing (n - 1) h.0)
              e one.several one.low one.high (less e one) h.1.0;
        },
      )) (without_list e one)

      pub covectors_contracted : IsPossible (HasMembers (AreCovectorsMade (Contract e) n (IsCovectorOfCovectors c)))
      covectors_contracted = mapped (λ h. (
        h.0,
        record {
          on = h.1.1;
          axioms = minors.contracted_covector_axioms c (listing (n - 1) h.0)
              e one.several one.low one.high (less e one) h.1.0 on.long axioms;
          covectors = minors.covectors_contracted c (listing (n - 1) h.0)
              e one.several one.low one.high (less e one) h.1.0;
        },
      )) (zero_list e one)

    pub covectors_reoriented : (mask : ℕ) → AreCovectorsMade (Reorient mask) n (IsCovectorOfCovectors c) (flipped mask)
    covectors_reoriented mask = record {
      on = flipped_on mask n members on;
      axioms = turns.reoriented_covector_axioms c (listing n (flipped mask)) mask refl refl on.long axioms;
      covectors = turns.covectors_reoriented c (listing n (flipped mask)) mask refl refl;
    }
