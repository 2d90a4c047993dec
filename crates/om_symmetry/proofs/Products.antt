-- Products of signed permutations.
--
-- Main results: what is at a place of a product (product_at), its tuples and its signs (product_tuple, product_signs);
-- the product of signed permutations is one (product_permutation), reorientations and the identity are
-- (reorientation_permutation, identity_permutation); products associate (product_associates), and the identity is
-- neutral (neutral_behind, neutral_before); the list of the old places is the inverse (inverse_by), and there is one
-- (inverse_exists).
use Rattle.std.proofs.Common.{ℕ, zero, suc, ◌≡◌, List, [], ◌∷◌, length, map, refl, sym, ap}
use Rattle.std.proofs.Common.{subst, ◌∙◌, inl, inr, false, true, Bool, cond, not}
use Rattle.std.proofs.lemmas.List.{length-map}
use Rattle.om_signs.specs.declared.sign.Sign.TheVariants.{Minus, Plus}
use Rattle.om_signs.specs.Sign.{product}
use Rattle.om_signs.proofs.SignLaws.{product_middle_exchange}
use Rattle.om_laws.specs.Sorting.{IsElement}
use Rattle.om_laws.specs.Chirotope.{elements_to}
use Rattle.om_laws.specs.Reorientation.{turning, signs_product}
use Rattle.om_laws.proofs.TupleSizes.{element_or_not}
use Rattle.om_symmetry.specs.declared.signed_element.SignedElement.{SignedElement}
use Rattle.om_symmetry.specs.Permutations.{IsSignedPermutation, signed_at, element_at, is_negated_at}
use Rattle.om_symmetry.specs.Permutations.{negated_if, followed_by, negated_on, identity, AreInverse}
use Rattle.om_symmetry.proofs.Places.{same_entries, made_at, length_made, permutation_length, element_within}
use Rattle.om_symmetry.proofs.Places.{element_apart, old_place, permutation_by}

-- ---- products

pub product_at : (w v : List SignedElement) (i : ℕ)
    → signed_at (followed_by w v) i ≡ negated_if (is_negated_at v i) (signed_at w (element_at v i))
product_at w v zero = refl
product_at w [] (suc i) = refl
product_at w (b ∷ v) (suc zero) = refl
product_at w (b ∷ v) (suc (suc i)) = product_at w v (suc i)

product_element : (w v : List SignedElement) (i : ℕ) → element_at (followed_by w v) i ≡ element_at w (element_at v i)
product_element w v i = ap (λ (a : SignedElement). a.element) (product_at w v i)

pub product_tuple : (w v : List SignedElement) (t : List ℕ)
    → map (element_at (followed_by w v)) t ≡ map (element_at w) (map (element_at v) t)
product_tuple w v [] = refl
product_tuple w v (x ∷ t) =
    ap (λ e. e ∷ map (element_at (followed_by w v)) t) (product_element w v x)
    ∙ ap (λ l. element_at w (element_at v x) ∷ l) (product_tuple w v t)

sign_twice : (a b : Bool) → cond (cond b (not a) a) Minus Plus ≡ product (cond b Minus Plus) (cond a Minus Plus)
sign_twice true true = refl
sign_twice true false = refl
sign_twice false true = refl
sign_twice false false = refl

pub product_signs : (w v : List SignedElement) (t : List ℕ)
    → signs_product (turning (is_negated_at (followed_by w v))) t
    ≡ product (signs_product (turning (is_negated_at v)) t)
    (signs_product (turning (is_negated_at w)) (map (element_at v) t))
product_signs w v [] = refl
product_signs w v (x ∷ t) =
    ap (λ s. product s (signs_product (turning (is_negated_at (followed_by w v))) t))
    (ap (λ (a : SignedElement). cond a.negated Minus Plus) (product_at w v x)
    ∙ sign_twice (is_negated_at w (element_at v x)) (is_negated_at v x))
    ∙ ap (product (product (turning (is_negated_at v) x) (turning (is_negated_at w) (element_at v x))))
    (product_signs w v t)
    ∙ product_middle_exchange (turning (is_negated_at v) x) (turning (is_negated_at w) (element_at v x))
    (signs_product (turning (is_negated_at v)) t) (signs_product (turning (is_negated_at w)) (map (element_at v) t))

pub length_product : (w v : List SignedElement) → length (followed_by w v) ≡ length v
length_product w v = length-map v (λ (b : SignedElement). negated_if b.negated (signed_at w b.element))

pub product_permutation : (n : ℕ) (w v : List SignedElement) → IsSignedPermutation n w → IsSignedPermutation n v
    → IsSignedPermutation n (followed_by w v)
product_permutation n w v p q = permutation_by n (followed_by w v) (length_product w v ∙ permutation_length n v q)
    (λ i h. subst (IsElement n) (sym (product_element w v i))
    (element_within n w p (element_at v i) (element_within n v q i h)))
    (λ i j h k e. element_apart n v q i j h k
    (element_apart n w p (element_at v i) (element_at v j) (element_within n v q i h) (element_within n v q j k)
    (sym (product_element w v i) ∙ e ∙ product_element w v j)))

-- ---- reorientations

pub stays : (n : ℕ) (set : ℕ → Bool) (i : ℕ) → IsElement n i
    → signed_at (negated_on n set) i ≡ record { element = i; negated = set i }
stays n set i h = made_at n (λ i. record { element = i; negated = set i }) i h

-- the reorientation of a set is a signed permutation
pub reorientation_permutation : (n : ℕ) (set : ℕ → Bool) → IsSignedPermutation n (negated_on n set)
reorientation_permutation n set =
    permutation_by n (negated_on n set) (length_made n (λ i. record { element = i; negated = set i }))
    (λ i k. subst (IsElement n) (sym (here i k)) k) (λ i j hi hj q. sym (here i hi) ∙ q ∙ here j hj)
  where
    here : (i : ℕ) → IsElement n i → element_at (negated_on n set) i ≡ i
    here i h = ap (λ (a : SignedElement). a.element) (stays n set i h)

-- the identity is a signed permutation
pub identity_permutation : (n : ℕ) → IsSignedPermutation n (identity n)
identity_permutation n = reorientation_permutation n (λ i. false)

-- the same, of the length of a list
pub lawful_identity : (n : ℕ) → IsSignedPermutation (length (identity n)) (identity n)
lawful_identity n = subst (λ k. IsSignedPermutation k (identity n))
    (sym (length_made n (λ i. record { element = i; negated = false }))) (identity_permutation n)

pub lawful_product : (w v : List SignedElement) → IsSignedPermutation (length w) w → IsSignedPermutation (length v) v
    → length v ≡ length w → IsSignedPermutation (length (followed_by w v)) (followed_by w v)
lawful_product w v p q l = subst (λ k. IsSignedPermutation k (followed_by w v)) (sym (length_product w v))
    (product_permutation (length v) w v (subst (λ k. IsSignedPermutation k w) (sym l) p) q)

-- ---- the laws of a group

negated_by_both : (c b a : Bool) → cond c (not (cond b (not a) a)) (cond b (not a) a)
    ≡ cond (cond c (not b) b) (not a) a
negated_by_both true true true = refl
negated_by_both true true false = refl
negated_by_both true false true = refl
negated_by_both true false false = refl
negated_by_both false true true = refl
negated_by_both false true false = refl
negated_by_both false false true = refl
negated_by_both false false false = refl

negated_once : (b : Bool) → cond b true false ≡ b
negated_once true = refl
negated_once false = refl

pub product_associates : (w v u : List SignedElement)
    → followed_by (followed_by w v) u ≡ followed_by w (followed_by v u)
product_associates w v [] = refl
product_associates w v (c ∷ u) =
    ap (λ (a : SignedElement). a ∷ followed_by (followed_by w v) u)
    (ap (negated_if c.negated) (product_at w v c.element)
    ∙ (λ i. record {
      element = element_at w (element_at v c.element);
      negated =
          negated_by_both c.negated (is_negated_at v c.element) (is_negated_at w (element_at v c.element)) i;
    }))
    ∙ ap (λ l. negated_if (cond c.negated (not (is_negated_at v c.element)) (is_negated_at v c.element))
    (signed_at w (element_at v c.element)) ∷ l) (product_associates w v u)

pub neutral_behind : (n : ℕ) (w : List SignedElement) → IsSignedPermutation n w → followed_by w (identity n) ≡ w
neutral_behind n w p = same_entries n (followed_by w (identity n)) w
    (length_product w (identity n) ∙ permutation_length n (identity n) (identity_permutation n))
    (permutation_length n w p) (λ i h.
    product_at w (identity n) i
    ∙ ap (λ (a : SignedElement). negated_if a.negated (signed_at w a.element)) (stays n (λ i. false) i h))

pub neutral_before : (n : ℕ) (w : List SignedElement) → IsSignedPermutation n w → followed_by (identity n) w ≡ w
neutral_before n w p = same_entries n (followed_by (identity n) w) w
    (length_product (identity n) w ∙ permutation_length n w p) (permutation_length n w p) (λ i h.
    product_at (identity n) w i
    ∙ ap (negated_if (is_negated_at w i)) (stays n (λ i. false) (element_at w i) (element_within n w p i h))
    ∙ (λ j. record { element = element_at w i; negated = negated_once (is_negated_at w i) j }))

-- ---- inverses

negated_twice : (b : Bool) → cond b (not b) b ≡ false
negated_twice true = refl
negated_twice false = refl

-- v has at each element of w its place, negated as the element is
pub record HasOldPlaces (n : ℕ) (w v : List SignedElement) : Type 0 where
  pub whole : length v ≡ n
  pub places : (i : ℕ) → IsElement n i → signed_at v (element_at w i)
      ≡ record { element = i; negated = is_negated_at w i }

pub record IsInverse (n : ℕ) (w v : List SignedElement) : Type 0 where
  pub permutation : IsSignedPermutation n v
  pub inverse : AreInverse w v

module _ (n : ℕ) (w v : List SignedElement) (p : IsSignedPermutation n w) (old : HasOldPlaces n w v) where
  -- what v has at e
  back_at : (e i : ℕ) → IsElement n i → element_at w i ≡ e
      → signed_at v e ≡ record { element = i; negated = is_negated_at w i }
  back_at e i h q = ap (signed_at v) (sym q) ∙ old.places i h

  back_element : (e i : ℕ) → IsElement n i → element_at w i ≡ e → element_at v e ≡ i
  back_element e i h q = ap (λ (a : SignedElement). a.element) (back_at e i h q)

  inverse_permutation : IsSignedPermutation n v
  inverse_permutation = permutation_by n v old.whole
      (λ e h. let k = old_place n w p e h in
      subst (IsElement n) (sym (back_element e k.0 k.1 k.2)) k.1)
      (λ e f h k q.
      let i = old_place n w p e h in
      let j = old_place n w p f k in
      sym i.2 ∙ ap (element_at w) (sym (back_element e i.0 i.1 i.2) ∙ q ∙ back_element f j.0 j.1 j.2) ∙ j.2)

  there_and_back : followed_by w v ≡ identity n
  there_and_back = same_entries n (followed_by w v) (identity n) (length_product w v ∙ old.whole)
      (permutation_length n (identity n) (identity_permutation n)) (λ e h.
      let k = old_place n w p e h in
      product_at w v e
      ∙ ap (λ (a : SignedElement). negated_if a.negated (signed_at w a.element)) (back_at e k.0 k.1 k.2)
      ∙ (λ i. record { element = k.2 i; negated = negated_twice (is_negated_at w k.0) i })
      ∙ sym (stays n (λ i. false) e h))

  back_and_there : followed_by v w ≡ identity n
  back_and_there = same_entries n (followed_by v w) (identity n) (length_product v w ∙ permutation_length n w p)
      (permutation_length n (identity n) (identity_permutation n)) (λ i h.
      product_at v w i ∙ ap (negated_if (is_negated_at w i)) (old.places i h)
      ∙ (λ j. record { element = i; negated = negated_twice (is_negated_at w i) j })
      ∙ sym (stays n (λ i. false) i h))

  pub inverse_by : IsInverse n w v
  inverse_by = record {
    permutation = inverse_permutation;
    inverse = record {
      then_back = there_and_back ∙ ap identity (sym (permutation_length n w p));
      back_then = back_and_there ∙ ap identity (sym (permutation_length n w p));
    };
  }

-- the place of e in w, where there is one
place_in : (n : ℕ) (w : List SignedElement) → IsSignedPermutation n w → ℕ → ℕ
place_in n w p e = elim (element_or_not n e) [ inl h ↦ (old_place n w p e h).0 | inr off ↦ 0 ]

place_in_is : (n : ℕ) (w : List SignedElement) (p : IsSignedPermutation n w) (i : ℕ) → IsElement n i
    → place_in n w p (element_at w i) ≡ i
unfolding place_in
place_in_is n w p i h = elim (element_or_not n (element_at w i)) as
    (λ c. elim c [ inl k ↦ (old_place n w p (element_at w i) k).0 | inr off ↦ 0 ] ≡ i) [
      | inl k ↦ element_apart n w p (old_place n w p (element_at w i) k).0 i
          (old_place n w p (element_at w i) k).1 h (old_place n w p (element_at w i) k).2
      | inr off ↦ absurd (off (element_within n w p i h))
    ]

abbrev back_element_at : (n : ℕ) (w : List SignedElement) → IsSignedPermutation n w → ℕ → SignedElement
back_element_at n w p e = record { element = place_in n w p e; negated = is_negated_at w (place_in n w p e) }

pub inverse_exists : (n : ℕ) (w : List SignedElement) → IsSignedPermutation n w
    → (v : List SignedElement) × IsInverse n w v
inverse_exists n w p = (
  map (back_element_at n w p) (elements_to n),
  inverse_by n w (map (back_element_at n w p) (elements_to n)) p
      (record {
        whole = length_made n (back_element_at n w p);
        places = λ i h. made_at n (back_element_at n w p) (element_at w i) (element_within n w p i h)
            ∙ ap (λ k. record { element = k; negated = is_negated_at w k }) (place_in_is n w p i h);
      }),
)
