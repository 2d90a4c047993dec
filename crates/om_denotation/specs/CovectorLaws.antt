-- The zero vector is a covector, and so is the negative of a covector.
--
-- Main results: zero_of_chirotope, zero_of_circuits, zero_of_cocircuits, negative_of_chirotope, negative_of_circuits,
-- negative_of_cocircuits, zero_of_covectors, negative_of_covectors
use Rattle.std.specs.Prelude.{ℕ, ◌≡◌, ◌+◌, ◌-◌, ◌≢◌, List, length, map, replicate}
use Rattle.std.proofs.Common.{sym, ◌∙◌, ap, subst, arith}
use Rattle.std.specs.List.{Contains}
use Rattle.std.proofs.lemmas.List.Elements.{All-contains}
use Rattle.std.proofs.lemmas.List.{length-map, length-replicate, ext_get_or}
use Rattle.om_signs.specs.declared.sign.Sign.{Sign}
use Rattle.om_signs.specs.declared.sign.Sign.TheVariants.{Minus, Zero, Plus}
use Rattle.om_signs.specs.Sign.{opposite, product}
use Rattle.om_signs.specs.SignVec.{at, IsInSupport, HasProduct, IsOrthogonal, IsConformal}
use Rattle.om_signs.proofs.SignLaws.{plus_nonzero, minus_nonzero, opposite-opposite, product-opposite_left}
use Rattle.om_signs.proofs.ListPlaces.{at-map-opposite, at-replicate}
use Rattle.om_chirotope.specs.Map.{SignMap}
use Rattle.om_chirotope.specs.Chirotope.{IsChirotopeWithinLimits}
use Rattle.om_members.specs.Vectors.{IsZero}
use Rattle.om_members.specs.Listings.{Listing}
use Rattle.om_circuits.specs.SignedSets.{IsSignedSet}
use Rattle.om_denotation.specs.Covectors.{IsCovectorOfChirotope, IsCovectorOfCircuits, IsCovectorOfCocircuits}
use Rattle.om_denotation.specs.Covectors.{IsCovectorOfCovectors, HasConformingMember}
use Rattle.om_covectors.specs.CovectorSets as covector_sets

-- ---- the zero vector

product_with_zero : (n : ℕ) (Y : List Sign) (i : ℕ) → product (at (replicate n Zero) i) (at Y i) ≡ Zero
product_with_zero n Y i = ap (λ s. product s (at Y i)) (at-replicate n i)

no_product : (n : ℕ) (Y : List Sign) (s : Sign) → s ≢ Zero → HasProduct (replicate n Zero) Y s → ⊥
no_product n Y s nonzero p = nonzero (sym p.1 ∙ product_with_zero n Y p.0)

zero_orthogonal : (n : ℕ) (Y : List Sign) → IsOrthogonal (replicate n Zero) Y
zero_orthogonal n Y =
    (λ p. absurd (no_product n Y Plus plus_nonzero p), λ p. absurd (no_product n Y Minus minus_nonzero p))

pub zero_of_chirotope : (m : SignMap) → IsChirotopeWithinLimits m → IsCovectorOfChirotope m (replicate m.elements Zero)
zero_of_chirotope m v =
    record { size = length-replicate m.elements Zero; orthogonal = λ S list few. zero_orthogonal m.elements _ }

pub zero_of_circuits : (c : Listing) → IsSignedSet c.elements c.members
    → IsCovectorOfCircuits c (replicate c.elements Zero)
zero_of_circuits c v =
    record { size = length-replicate c.elements Zero; orthogonal = λ Y in_members. zero_orthogonal c.elements Y }

pub zero_of_cocircuits : (c : Listing) → IsSignedSet c.elements c.members
    → IsCovectorOfCocircuits c (replicate c.elements Zero)
zero_of_cocircuits c v =
    record {
      size = length-replicate c.elements Zero;
      composed = λ i nonzero. absurd (nonzero (at-replicate c.elements i));
    }

-- ---- the negative

product_negative : (X Y : List Sign) (i : ℕ) → product (at (map opposite X) i) (at Y i)
    ≡ opposite (product (at X i) (at Y i))
product_negative X Y i = ap (λ s. product s (at Y i)) (at-map-opposite X i) ∙ product-opposite_left (at X i) (at Y i)

-- from a product with the negative of a vector to the product with the vector
product_back : (X Y : List Sign) (s : Sign) → HasProduct (map opposite X) Y s → HasProduct X Y (opposite s)
product_back X Y s p = (p.0, sym (opposite-opposite _) ∙ ap opposite (sym (product_negative X Y p.0) ∙ p.1))

product_forth : (X Y : List Sign) (s : Sign) → HasProduct X Y s → HasProduct (map opposite X) Y (opposite s)
product_forth X Y s p = (p.0, product_negative X Y p.0 ∙ ap opposite p.1)

negative_orthogonal : (X Y : List Sign) → IsOrthogonal X Y → IsOrthogonal (map opposite X) Y
negative_orthogonal X Y o = (
  λ p. product_forth X Y Plus (o.1 (product_back X Y Plus p)),
  λ p. product_forth X Y Minus (o.0 (product_back X Y Minus p)),
)

pub negative_of_chirotope : (m : SignMap) (X : List Sign) → IsChirotopeWithinLimits m → length X ≡ m.elements
    → IsCovectorOfChirotope m X → IsCovectorOfChirotope m (map opposite X)
negative_of_chirotope m X v l c =
    record {
      size = length-map X opposite ∙ l;
      orthogonal =
          λ S list few. negative_orthogonal X _ (c.orthogonal S list few);
    }

pub negative_of_circuits : (c : Listing) (X : List Sign) → IsSignedSet c.elements c.members → length X ≡ c.elements
    → IsCovectorOfCircuits c X → IsCovectorOfCircuits c (map opposite X)
negative_of_circuits c X v l h =
    record {
      size = length-map X opposite ∙ l;
      orthogonal =
          λ Y in_members. negative_orthogonal X Y (h.orthogonal Y in_members);
    }

nonzero_back : (X : List Sign) (i : ℕ) → IsInSupport (map opposite X) i → IsInSupport X i
nonzero_back X i nonzero e = nonzero (at-map-opposite X i ∙ ap opposite e)

same_negative : (X Y : List Sign) (i : ℕ) → at Y i ≡ at X i → at (map opposite Y) i ≡ at (map opposite X) i
same_negative X Y i e = at-map-opposite Y i ∙ ap opposite e ∙ sym (at-map-opposite X i)

conformal_negative : (X Y : List Sign) → IsConformal Y X → IsConformal (map opposite Y) (map opposite X)
conformal_negative X Y h i nonzero = same_negative X Y i (h i (nonzero_back Y i nonzero))

pub negative_of_cocircuits : (c : Listing) (X : List Sign) → IsSignedSet c.elements c.members → length X ≡ c.elements
    → IsCovectorOfCocircuits c X → IsCovectorOfCocircuits c (map opposite X)
negative_of_cocircuits c X v l h = record {
  size = length-map X opposite ∙ l;
  composed = λ i nonzero. negative_member i (h.composed i (nonzero_back X i nonzero));
}
  where
    negative_member : (i : ℕ) → HasConformingMember c.members X i → HasConformingMember c.members (map opposite X) i
    negative_member i (Y, in_members, conformal, same) =
        (map opposite Y, v.axioms.symmetric Y in_members, conformal_negative X Y conformal, same_negative X Y i same)

-- ---- a set of covectors

zero_is : (X : List Sign) (n : ℕ) → length X ≡ n → IsZero X → X ≡ replicate n Zero
zero_is X n size zero = ext_get_or Zero X (replicate n Zero) (size ∙ sym (length-replicate n Zero))
    (λ i l. (let e : i ≡ i + 1 - 1 = omega arith in ap (at X) e) ∙ zero (i + 1) ∙ sym (at-replicate n i))

contains_replaced : (members : List (List Sign)) (X Y : List Sign) → X ≡ Y → Contains members X → Contains members Y
contains_replaced members X Y same c = subst (Contains members) same c

pub zero_of_covectors : (c : Listing) → covector_sets.IsCovectorSet c.elements c.members
    → IsCovectorOfCovectors c (replicate c.elements Zero)
zero_of_covectors c v =
    let z = v.axioms.zero in
    record {
      size = length-replicate c.elements Zero;
      member = contains_replaced c.members z.0 (replicate c.elements Zero)
          (zero_is z.0 c.elements (length_of c v z.0 z.1) z.2) z.1;
    }
  where
    length_of : (c : Listing) → covector_sets.IsCovectorSet c.elements c.members → (X : List Sign)
        → Contains c.members X → length X ≡ c.elements
    length_of c v X m = All-contains (λ Y. length Y ≡ c.elements) c.members X v.lengths m

pub negative_of_covectors : (c : Listing) (X : List Sign) → covector_sets.IsCovectorSet c.elements c.members
    → length X ≡ c.elements → IsCovectorOfCovectors c X → IsCovectorOfCovectors c (map opposite X)
negative_of_covectors c X v l h = record { size = length-map X opposite ∙ l; member = v.axioms.symmetric X h.member }
