-- A finite list of sign vectors that meets the axioms of covectors has exactly the covectors of a chirotope.
--
-- Main results: least_axioms, the nonzero members of least support meet the axioms of circuits; covectors_chirotope,
-- the map that they give is a chirotope; member_covector and covector_member, its covectors are the members.
use Rattle.std.specs.Prelude.{ℕ, ◌≡◌, ◌⊎◌, refl, List, [], ◌∷◌}
use Rattle.std.proofs.Common.{sym, subst, ⊎_elim, inl, inr}
use Rattle.om_signs.specs.declared.sign.Sign.{Sign}
use Rattle.om_signs.specs.declared.sign.Sign.TheVariants.{Zero}
use Rattle.om_signs.specs.Sign.{opposite, first_nonzero}
use Rattle.om_signs.proofs.SignLaws.{zero_or_nonzero, opposite_nonzero, nonzero_from_opposite, opposite_swap}
use Rattle.om_laws.specs.Signs.{IsNonzero}
use Rattle.om_laws.specs.Members.{IsDistinct}
use Rattle.om_laws.proofs.MemberLaws.{search_members}
use Rattle.om_laws.specs.Vectors.{SignVector, negated, IsSupportedOn, HasNonzero}
use Rattle.om_laws.specs.Chirotope.{IsChirotope}
use Rattle.om_laws.specs.Circuits.{IsCircuit, IsCocircuit}
use Rattle.om_laws.proofs.DualPairs.{dual_pair}
use Rattle.om_laws.specs.Axioms.{CircuitAxioms, CovectorAxioms}
use Rattle.om_laws.specs.Compositions.{EachVector, composition_of}
use Rattle.om_laws.specs.Covectors.{HasLeastSupport}
use Rattle.om_laws.proofs.PairAxioms.{not_opposite_at, nonzero_composition}
use Rattle.om_laws.specs.Covectors.{IsCovector}
use Rattle.om_laws.specs.Compositions.{IsConforming}
use Rattle.om_laws.proofs.PairCovectors.{covector_from_parts}
use Rattle.om_laws.proofs.ChirotopeCovectors.{covector_composition}
use Rattle.om_laws.proofs.FiniteExistence.{list_map, list_chirotope, list_member_cocircuit, list_cocircuit_member}
use Rattle.om_laws.specs.Families.{IsListed}
use Rattle.om_laws.proofs.FamilyLaws.{Found, NotFound, found_or_not, not_found_same, minimal_of, decompose}
use Rattle.om_laws.proofs.FamilyLaws.{least_incomparable, least_elimination, search_vectors, listed_same}

-- nonzero, and of least support
abbrev pub IsLeast : List SignVector → SignVector → Type 0
IsLeast Ls Y = HasNonzero Y × HasLeastSupport (λ X. IsListed Ls X) Y

least_same : (Ls : List SignVector) (X Y : SignVector) → ((e : ℕ) → X e ≡ Y e) → IsLeast Ls Y → IsLeast Ls X
least_same Ls X Y q y = (
  (y.0.0, subst IsNonzero (sym (q y.0.0)) y.0.1),
  λ Z z n sub g m. y.1 Z z n (λ e k. subst IsNonzero (q e) (sub e k)) g (subst IsNonzero (q g) m),
)

module _ (Ls : List SignVector) (E : List ℕ) (distinct : IsDistinct E)
    (supported : (X : SignVector) → IsListed Ls X → IsSupportedOn E X) (ax : CovectorAxioms (λ X. IsListed Ls X)) where
  abbrev pub L : SignVector → Type 0
  L X = IsListed Ls X

  eliminated : (X Y : SignVector) → L X → L Y → (e : ℕ) → IsNonzero (X e) → Y e ≡ opposite (X e)
      → (Z : SignVector) × L Z × (Z e ≡ Zero)
      × ((g : ℕ) → (IsNonzero (X g) → Y g ≡ opposite (X g) → ⊥) → Z g ≡ first_nonzero (X g) (Y g))
  eliminated X Y x y e n q =
      let z = ax.elimination X Y x y e (n, opposite_swap (Y e) (X e) q) in
      (z.0, z.1, z.2, λ g o. z.3 g (λ s. o s.0 (opposite_swap (X g) (Y g) s.1)))

  found_not_least : (Y Z : SignVector) → L Z → Found Ls E supported ax.negation eliminated Y Z → HasLeastSupport L Y → ⊥
  found_not_least Y Z z f least = least Z z (f.0, f.2)
      (λ g n. ⊎_elim (λ q. absurd (n q)) (λ m. m) (f.3 g (supported Z z g n))) f.1 f.4 f.5

  nonzero_or_zero : (Y : SignVector) → L Y → HasNonzero Y ⊎ (HasNonzero Y → ⊥)
  nonzero_or_zero Y y = ⊎_elim
      (λ k. inl (k.0, k.2))
      (λ none. inr (λ n. n.1 (none n.0 (supported Y y n.0 n.1))))
      (search_members (λ g. IsNonzero (Y g)) (λ g. Y g ≡ Zero)
      (λ g. ⊎_elim (λ q. inr q) (λ q. inl q) (zero_or_nonzero (Y g))) E)

  least_or_not : (Y : SignVector) → L Y → IsLeast Ls Y ⊎ (IsLeast Ls Y → ⊥)
  least_or_not Y y = ⊎_elim
      (λ n. ⊎_elim
      (λ f. inr (λ l. found_not_least Y f.0 f.1 f.2 l.1))
      (λ none. inl (n, minimal_of Ls E supported ax.negation eliminated Y y none))
      (search_vectors (Found Ls E supported ax.negation eliminated Y) (NotFound Ls E supported ax.negation eliminated Y)
      (found_or_not Ls E supported ax.negation eliminated Y)
      (not_found_same Ls E supported ax.negation eliminated Y) Ls))
      (λ n. inr (λ l. n l.0))
      (nonzero_or_zero Y y)

  kept : (Y : SignVector) → List SignVector → IsLeast Ls Y ⊎ (IsLeast Ls Y → ⊥) → List SignVector
  kept Y l (inl k) = Y ∷ l
  kept Y l (inr n) = l

  filtered : (l : List SignVector) → ((X : SignVector) → IsListed l X → L X) → List SignVector
  filtered [] i = []
  filtered (Y ∷ l) i = kept Y (filtered l (λ X m. i X (inr m))) (least_or_not Y (i Y (inl (λ e. refl))))

  kept_out : (X Y : SignVector) (l : List SignVector) (d : IsLeast Ls Y ⊎ (IsLeast Ls Y → ⊥)) → IsListed (kept Y l d) X
      → (((e : ℕ) → X e ≡ Y e) × IsLeast Ls Y) ⊎ IsListed l X
  unfolding kept
  kept_out X Y l (inl k) (inl q) = inl (q, k)
  kept_out X Y l (inl k) (inr m) = inr m
  kept_out X Y l (inr n) m = inr m

  kept_here : (X Y : SignVector) (l : List SignVector) (d : IsLeast Ls Y ⊎ (IsLeast Ls Y → ⊥)) → ((e : ℕ) → X e ≡ Y e)
      → IsLeast Ls Y → IsListed (kept Y l d) X
  unfolding kept
  kept_here X Y l (inl k) q least = inl q
  kept_here X Y l (inr n) q least = absurd (n least)

  kept_later : (X Y : SignVector) (l : List SignVector) (d : IsLeast Ls Y ⊎ (IsLeast Ls Y → ⊥)) → IsListed l X
      → IsListed (kept Y l d) X
  unfolding kept
  kept_later X Y l (inl k) m = inr m
  kept_later X Y l (inr n) m = m

  filtered_out : (l : List SignVector) (i : (X : SignVector) → IsListed l X → L X) (X : SignVector)
      → IsListed (filtered l i) X → L X × IsLeast Ls X
  unfolding filtered
  filtered_out [] i X m = absurd m
  filtered_out (Y ∷ l) i X m = ⊎_elim
      (λ k. (i X (inl k.0), least_same Ls X Y k.0 k.1))
      (λ k. filtered_out l (λ Z j. i Z (inr j)) X k)
      (kept_out X Y (filtered l (λ Z j. i Z (inr j))) (least_or_not Y (i Y (inl (λ e. refl)))) m)

  filtered_in : (l : List SignVector) (i : (X : SignVector) → IsListed l X → L X) (X : SignVector) → IsListed l X
      → IsLeast Ls X → IsListed (filtered l i) X
  unfolding filtered
  filtered_in [] i X m least = absurd m
  filtered_in (Y ∷ l) i X (inl q) least =
      kept_here X Y (filtered l (λ Z j. i Z (inr j))) (least_or_not Y (i Y (inl (λ e. refl)))) q
      (least_same Ls Y X (λ e. sym (q e)) least)
  filtered_in (Y ∷ l) i X (inr m) least =
      kept_later X Y (filtered l (λ Z j. i Z (inr j))) (least_or_not Y (i Y (inl (λ e. refl))))
      (filtered_in l (λ Z j. i Z (inr j)) X m least)

  pub least_members : List SignVector
  least_members = filtered Ls (λ X m. m)

  pub least_member_in : (X : SignVector) → IsListed least_members X → L X × IsLeast Ls X
  unfolding least_members
  least_member_in X m = filtered_out Ls (λ X m. m) X m

  pub in_least_members : (X : SignVector) → L X → IsLeast Ls X → IsListed least_members X
  unfolding least_members
  in_least_members X x least = filtered_in Ls (λ X m. m) X x least

  negated_least : (X : SignVector) → IsLeast Ls X → IsLeast Ls (negated X)
  negated_least X x = (
    (x.0.0, opposite_nonzero (X x.0.0) x.0.1),
    λ Z z n sub g m. x.1 Z z n (λ e k. nonzero_from_opposite (X e) (sub e k)) g (nonzero_from_opposite (X g) m),
  )

  pub least_axioms : CircuitAxioms (λ X. IsListed least_members X)
  least_axioms = record {
    nonzero = λ X x. (least_member_in X x).1.0;
    negation =
        λ X x. (let k = least_member_in X x in in_least_members (negated X) (ax.negation X k.0) (negated_least X k.1));
    incomparable = λ X Y x y sub.
        let k = least_member_in X x in
        let j = least_member_in Y y in
        least_incomparable Ls E supported ax.negation eliminated X Y k.0 j.0 k.1.1 j.1.1 k.1.0.0 k.1.0.1 sub;
    elimination = λ X Y x y ne e s.
        let k = least_member_in X x in
        let j = least_member_in Y y in
        let h = not_opposite_at E X Y (supported X k.0) (supported Y j.0) ne in
        let z = least_elimination Ls E supported ax.negation eliminated X Y k.0 j.0 e h.0 s.0
        (opposite_swap (X e) (Y e) s.1) (nonzero_composition (X h.0) (Y h.0) h.1)
        (λ n q. h.1 (opposite_swap (Y h.0) (X h.0) q)) in
        (z.0, in_least_members z.0 z.1 ((h.0, z.4), z.2), z.3, z.5);
  }

  least_supported : (X : SignVector) → IsListed least_members X → IsSupportedOn E X
  least_supported X x = supported X (least_member_in X x).0

  -- the map whose covectors are the members of a list that satisfies the covector axioms
  pub covectors_map : List ℕ → Sign
  covectors_map = list_map least_members E distinct least_supported least_axioms

  -- the map whose covectors are the members of the list is a chirotope
  pub covectors_chirotope : IsChirotope E covectors_map
  unfolding covectors_map
  covectors_chirotope = list_chirotope least_members E distinct least_supported least_axioms

  least_cocircuit : (X : SignVector) → IsListed least_members X → IsCocircuit covectors_map X
  unfolding covectors_map
  least_cocircuit = list_member_cocircuit least_members E distinct least_supported least_axioms

  cocircuit_least : (X : SignVector) → IsCocircuit covectors_map X → IsListed least_members X
  unfolding covectors_map
  cocircuit_least = list_cocircuit_member least_members E distinct least_supported least_axioms

  -- each member of the list is a covector
  pub member_covector : (X : SignVector) → L X → IsCovector E covectors_map X
  member_covector X x = covector_from_parts E (IsCircuit E covectors_map) (IsCocircuit covectors_map)
      (dual_pair E covectors_map covectors_chirotope) X (λ e n.
      let y = decompose Ls E supported ax.negation eliminated X x e n in
      (y.0, least_cocircuit y.0 (in_least_members y.0 y.1 ((e, subst IsNonzero (sym y.3) n), y.4)), y.3, y.2))

  composed : (X : SignVector) (Ys : List SignVector) → EachVector (IsConforming (IsCocircuit covectors_map) X) Ys
      → L (composition_of Ys)
  composed X [] d = ax.zero
  composed X (Y ∷ Ys) d = ax.composition_closed Y (composition_of Ys) (least_member_in Y (cocircuit_least Y d.0.0)).0
      (composed X Ys d.1)

  -- each covector is a member of the list
  pub covector_member : (X : SignVector) → IsCovector E covectors_map X → L X
  covector_member X x =
      let r = covector_composition E covectors_map covectors_chirotope X x in
      listed_same X (composition_of r.0) Ls r.2 (composed X r.0 r.1)
