-- The rank as the size of a minimal set that meets each vector of a family.
--
-- Main definitions: HasCocircuitIn, the support of some cocircuit stands in that of a vector.
-- Main results: a minimal set that meets each vector of a family has as many elements as the rank, where the cocircuits
-- are of the family and each vector of it has one in its support (minimal_rank); the rank of what some cocircuits
-- (rank_of_cocircuits), circuits (rank_of_circuits) and covectors (rank_of_covectors) denote; the rank of the dual of
-- some circuits (rank_of_dual).
-- Reference: Björner, Las Vergnas, Sturmfels, White and Ziegler, Oriented Matroids, chapter 3.
use Rattle.std.specs.Prelude.{ℕ, ◌≡◌, ◌≢◌, ◌-◌, ◌≤◌, ◌⊎◌, List, length, refl}
use Rattle.std.specs.List.{Contains}
use Rattle.std.proofs.Common.{zero, suc, sym, ap, subst, ◌∙◌, ⊎_elim, arith}
use Rattle.om_signs.specs.declared.sign.Sign.{Sign}
use Rattle.om_signs.specs.declared.sign.Sign.TheVariants.{Zero}
use Rattle.om_signs.specs.SignVec.{at_element}
use Rattle.om_signs.proofs.SignLaws.{zero_or_nonzero}
use Rattle.om_subsets.specs.Subsets.{IsSubsetFrom, IsMember, without_element}
use Rattle.om_subsets.proofs.Statements.{members_without}
use Rattle.om_laws.specs.Signs.{IsNonzero}
use Rattle.om_laws.specs.Vectors.{SignVector}
use Rattle.om_laws.specs.Chirotope as theory
use Rattle.om_laws.specs.Chirotope.{elements_to}
use Rattle.om_laws.specs.Circuits.{IsCocircuit}
use Rattle.om_laws.specs.Bridge.{as_function, as_list}
use Rattle.om_laws.specs.Vectors as vectors
use Rattle.om_laws.proofs.BridgeLaws.{as_function-as_list}
use Rattle.om_laws.proofs.SortingLaws.{increasing_distinct}
use Rattle.om_laws.proofs.TupleSizes.{on_tuples_tuple}
use Rattle.om_members.specs.Listings.{Listing}
use Rattle.om_chirotope.specs.Map.{SignMap, chi_of, negated}
use Rattle.om_chirotope.specs.Chirotope.{IsChirotope}
use Rattle.om_chirotope.proofs.Theory.{theory_chirotope}
use Rattle.om_circuits.specs.SignedSets.{IsSignedSet}
use Rattle.om_covectors.specs.CovectorSets.{IsCovectorSet}
use Rattle.om_denotation.specs.Circuits.{IsCocircuitOfChirotope}
use Rattle.om_denotation.specs.Covectors.{IsCovectorOfChirotope, IsCovectorOfCircuits, IsCovectorOfCocircuits}
use Rattle.om_denotation.specs.Denotation.{DenoteTheSame}
use Rattle.om_denotation.specs.Dual.{dual_of}
use Rattle.om_denotation.specs.Existence.{HasCovectors}
use Rattle.om_denotation.proofs.ChirotopeBridge.{tuples_of, cocircuit_function, cocircuit_supported, cocircuit_list}
use Rattle.om_denotation.proofs.ChirotopeBridge.{increasing_subset}
use Rattle.om_denotation.proofs.DualMaps.{dual_axioms}
use Rattle.om_denotation.proofs.FamilyLaws.{cocircuit_covector, parts_both}
use Rattle.om_denotation.proofs.FunctionLaws.{nonzero_element, nonzero_list_not_zero}
use Rattle.om_denotation.proofs.ListExistence.{of_covectors}
use Rattle.om_denotation.proofs.NormalForms.{normal_exists, normal_covectors, normal_rank, normal_elements}
use Rattle.om_denotation.proofs.Uniqueness.{same_by_covectors, normal_axioms}
use Rattle.om_convert.specs.Hitting.{IsNonzeroOn, MeetsFamily, IsNonzeroMember, IsMinimalMeeting, IsNormalOf}
use Rattle.om_convert.specs.Hitting.{IsRankOfNormal}
use Rattle.om_convert.specs.Ranks.{IsRankFor}
use Rattle.om_convert.proofs.HittingLaws.{Meets, sharp_base}
use Rattle.om_convert.proofs.MeetingBases.{met_function, met_list}
use Rattle.om_convert.proofs.NormalSigns.{normal_of, denotes, has_circuits}

-- ---- minimal sets

module _ (m : SignMap) (om : IsChirotope m) where
  abbrev E : List ℕ
  E = elements_to m.elements

  abbrev chi : List ℕ → Sign
  chi = tuples_of m

  chirotope : theory.IsChirotope E chi
  chirotope = theory_chirotope m om

  abbrev pub HasCocircuitIn : List Sign → Type 0
  HasCocircuitIn X = (Y : List Sign) × IsCocircuitOfChirotope m Y
      × ((e : ℕ) → at_element Y e ≢ Zero → at_element X e ≢ Zero)

  meets_functions : (s : List ℕ) → IsSubsetFrom 1 m.elements s → MeetsFamily (IsCocircuitOfChirotope m) s
      → (F : SignVector) → IsCocircuit chi F → Meets s F
  meets_functions s list each F f =
      let k = met_function m.elements s (as_list m.elements F) list (each (as_list m.elements F) (cocircuit_list m F f))
      in
      (k.0, k.1, subst IsNonzero (as_function-as_list m.elements F (cocircuit_supported m F f) k.0) k.2)

  module _ (P : List Sign → Type 0) (all : (X : List Sign) → IsCocircuitOfChirotope m X → P X)
      (part : (X : List Sign) → P X → HasCocircuitIn X) where
    pub minimal_rank : (s : List ℕ) → IsSubsetFrom 1 m.elements s → IsMinimalMeeting P s → length s ≡ m.rank
    minimal_rank s list l =
        let each = meets_functions s list (λ X x. l.each X (all X x)) in
        (on_tuples_tuple m.elements m.rank (chi_of m) s
        (sharp_base E chi chirotope s each (increasing_distinct s (increasing_subset m.elements s list))
        sharp)).size
      where
        sharp : (e : ℕ) → IsMember e s → (F : SignVector) × IsCocircuit chi F
            × ((g : ℕ) → IsMember g s → g ≢ e → F g ≡ Zero)
        sharp e k =
            let y = l.minimal e k in
            let c = part y.0 y.1 in
            let missed : IsNonzeroOn (without_element e s) c.0 → ⊥ = (λ met. y.2 (met.0, met.1, c.2 met.0 met.2)) in (
              as_function c.0,
              cocircuit_function m c.0 c.1,
              λ g j ne. ⊎_elim (λ z. z)
                  (λ nz. absurd (missed (met_list (without_element e s) c.0 (
                    g,
                    (members_without e g s).1 (ne, j),
                    nz,
                  ))))
                  (zero_or_nonzero (as_function c.0 g)),
            )

cocircuits_rank : (n : ℕ) (members : List (List Sign)) (m : SignMap) → IsNormalOf n members m → (s : List ℕ)
    → IsSubsetFrom 1 n s → IsMinimalMeeting (IsNonzeroMember members) s → length s ≡ m.rank
cocircuits_rank n members m h s list minimal =
    minimal_rank m h.axioms (IsNonzeroMember members)
    (λ X x. (h.cocircuits.complete X x, nonzero_list_not_zero X x.nonzero))
    (λ X x. (X, h.cocircuits.sound X x.0, λ e k. k)) s
    (subst (λ i. IsSubsetFrom 1 i s) (sym h.elements) list) minimal

covectors_rank : (c : Listing) (m : SignMap) → HasCovectors c m → (s : List ℕ) → IsSubsetFrom 1 c.elements s
    → IsMinimalMeeting (IsNonzeroMember c.members) s → length s ≡ m.rank
covectors_rank c m h s list minimal =
    minimal_rank m h.axioms (IsNonzeroMember c.members)
    (λ X x. (h.members.complete X (cocircuit_covector m h.axioms X x), nonzero_list_not_zero X x.nonzero)) within s
    (subst (λ i. IsSubsetFrom 1 i s) (sym h.elements) list) minimal
  where
    at_part : (X : List Sign) → IsCovectorOfChirotope m X → vectors.HasNonzero (as_function X)
        → HasCocircuitIn m h.axioms X
    at_part X x (zero, n) = absurd (n refl)
    at_part X x (suc i, n) =
        let y = (parts_both m h.axioms X x.size).0 x i n in
        (y.0, y.1, λ e k z. k (y.2 (e - 1) k ∙ z))

    within : (X : List Sign) → IsNonzeroMember c.members X → HasCocircuitIn m h.axioms X
    within X x = at_part X (h.members.sound X x.0) (nonzero_element X x.1)

-- ---- the rank of what a list denotes

same_rank : (m k : SignMap) → (k ≡ m) ⊎ (k ≡ negated m) → m.rank ≡ k.rank
same_rank m k h = ⊎_elim (λ q. sym (ap (λ j. j.rank) q)) (λ q. sym (ap (λ j. j.rank) q)) h

pub rank_for : (n : ℕ) (P : List Sign → Type 0) (m : SignMap) → IsChirotope m → m.elements ≡ n
    → DenoteTheSame n P (IsCovectorOfChirotope m) → (r : ℕ) → r ≡ m.rank → IsRankFor n P r
rank_for n P m om q same r e =
    let d = normal_exists m om in
    record {
      each = λ k ok p other. e
          ∙ same_rank m k
          (same_by_covectors m k om ok (p ∙ sym q)
          (λ X l. (λ x. (other X (l ∙ q)).0 ((same X (l ∙ q)).1 x), λ x. (same X (l ∙ q)).0 ((other X (l ∙ q)).1 x))));
      map = d.0;
      axioms = normal_axioms m d.0 om d.1;
      elements = normal_elements m d.0 d.1 ∙ q;
      same = λ X l. let b = normal_covectors m d.0 d.1 X (l ∙ sym q) in
          (λ x. b.1 ((same X l).0 x), λ x. (same X l).1 (b.0 x));
      normal = d.1.normal;
    }

module _ (c : Listing) (n : ℕ) (vectors : List (List Sign)) (s : List ℕ) (q : n ≡ c.elements) (w : vectors ≡ c.members)
    (list : IsSubsetFrom 1 n s) (minimal : IsMinimalMeeting (IsNonzeroMember vectors) s)
    (size : ℕ) (e : size ≡ length s) where
  here_list : IsSubsetFrom 1 c.elements s
  here_list = subst (λ i. IsSubsetFrom 1 i s) q list

  here_minimal : IsMinimalMeeting (IsNonzeroMember c.members) s
  here_minimal = subst (λ l. IsMinimalMeeting (IsNonzeroMember l) s) w minimal

  pub rank_of_cocircuits : IsSignedSet c.elements c.members → IsRankFor c.elements (IsCovectorOfCocircuits c) size
  rank_of_cocircuits v =
      let of = normal_of c v.lengths v.axioms in
      rank_for c.elements (IsCovectorOfCocircuits c) of.0 of.1.axioms of.1.elements (denotes c of.0 of.1) size
      (e ∙ cocircuits_rank c.elements c.members of.0 of.1 s here_list here_minimal)

  pub rank_of_circuits : IsSignedSet c.elements c.members → IsRankFor c.elements (IsCovectorOfCircuits c) (n - size)
  rank_of_circuits v =
      let of = normal_of c v.lengths v.axioms in
      let d = normal_exists (dual_of of.0) (dual_axioms of.0 of.1.axioms) in
      let h = has_circuits c of.0 d.0 of.1 d.1 in
      let rank = normal_rank (dual_of of.0) d.0 d.1 in
      let known = e ∙ cocircuits_rank c.elements c.members of.0 of.1 s here_list here_minimal in
      let elements = of.1.elements in
      rank_for c.elements (IsCovectorOfCircuits c) d.0 h.axioms h.elements h.same (n - size)
      (omega (arith, rank, known, elements, q))

  pub rank_of_covectors : IsCovectorSet c.elements c.members → IsRankFor c.elements (Contains c.members) size
  rank_of_covectors v =
      let of = of_covectors c v.lengths v.axioms in
      let same : DenoteTheSame c.elements (Contains c.members) (IsCovectorOfChirotope of.0) =
      (λ X l. (λ x. (of.1.same X l).0 (record { size = l; member = x }), λ x. ((of.1.same X l).1 x).member)) in
      rank_for c.elements (Contains c.members) of.0 of.1.axioms of.1.elements same size
      (e ∙ covectors_rank c of.0 of.1 s here_list here_minimal)

-- ---- the dual of circuits

pub rank_of_dual : (c : Listing) (rank : ℕ) → rank ≤ c.elements → IsRankFor c.elements (IsCovectorOfCircuits c) rank
    → (n : ℕ) → n ≡ c.elements → IsRankOfNormal c.elements c.members (n - rank)
rank_of_dual c rank part r n q m h =
    let d = normal_exists (dual_of m) (dual_axioms m h.axioms) in
    let k = has_circuits c m d.0 h d.1 in
    let known = r.each d.0 k.axioms k.elements k.same in
    let dual_rank = normal_rank (dual_of m) d.0 d.1 in
    let within = h.axioms.whole.part in
    let elements = h.elements in
    omega (arith, part, q, known, dual_rank, within, elements)
