-- Lists of signs that are negated at the elements of a mask.
--
-- Main results: twice on one mask gives the list back (flip_twice); nonzero places and supports stay (nonzero_flipped,
-- support_flipped), and so does orthogonality where both lists are negated (orthogonal_flipped); the members of least
-- support of a reorientation (least_flipped), and its dual (dual_reorientation); the members of a list, each negated
-- (contains_flipped, flipped_distinct).
-- Reference: Björner, Las Vergnas, Sturmfels, White and Ziegler, Oriented Matroids, chapter 3.
use Rattle.std.specs.Prelude.{ℕ, ◌≡◌, ◌↔◌, ◌+◌, ◌-◌, ◌<◌, List, length, map, cond, nat_eq, Bool, true, false, refl}
use Rattle.std.specs.Int.{bit_at}
use Rattle.std.specs.List.{Contains, All}
use Rattle.std.proofs.Common.{sym, ◌∙◌, ap, subst, arith, get_or}
use Rattle.std.proofs.lemmas.List.{ext_get_or, length-map, get_or-map}
use Rattle.om_signs.specs.declared.sign.Sign.{Sign}
use Rattle.om_signs.specs.declared.sign.Sign.TheVariants.{Zero}
use Rattle.om_signs.specs.Sign.{opposite, product}
use Rattle.om_signs.specs.SignVec.{at, flip, HasProduct, IsOrthogonal}
use Rattle.om_signs.proofs.ListPlaces.{at-flip_from, length-flip_from}
use Rattle.om_members.specs.Listings.{AreDistinct}
use Rattle.om_members.specs.Vectors.{HasSupportIn}
use Rattle.om_denotation.specs.Circuits.{HasNonzero}
use Rattle.om_denotation.specs.Compositions.{IsOfLeastSupport}
use Rattle.om_denotation.specs.Operations.{IsDual, IsReorientation}

-- ---- one sign

twice_turned : (b : Bool) (s : Sign) → cond b (opposite (cond b (opposite s) s)) (cond b (opposite s) s) ≡ s
twice_turned true s = grind arith
twice_turned false s = refl

zero_turned : (b : Bool) (s : Sign) → s ≡ Zero → cond b (opposite s) s ≡ Zero
zero_turned true s z = ap opposite z
zero_turned false s z = z

turned_zero : (b : Bool) (s : Sign) → cond b (opposite s) s ≡ Zero → s ≡ Zero
turned_zero true s z = grind arith
turned_zero false s z = z

both_turned : (b : Bool) (s t : Sign) → product (cond b (opposite s) s) (cond b (opposite t) t) ≡ product s t
both_turned true s t = grind arith
both_turned false s t = refl

-- ---- lists of signs

module _ (mask : ℕ) where
  pub length-flip : (X : List Sign) → length (flip mask X) ≡ length X
  length-flip X = length-flip_from 0 mask X

  at-flip : (X : List Sign) (i : ℕ)
      → at (flip mask X) i ≡ cond (nat_eq (bit_at mask (0 + i)) 1) (opposite (at X i)) (at X i)
  at-flip X i = at-flip_from 0 mask X i

  pub flip_twice : (X : List Sign) → flip mask (flip mask X) ≡ X
  flip_twice X = ext_get_or Zero (flip mask (flip mask X)) X (length-flip (flip mask X) ∙ length-flip X) (λ i lt.
      at-flip (flip mask X) i ∙ ap (λ s. cond (nat_eq (bit_at mask (0 + i)) 1) (opposite s) s) (at-flip X i)
      ∙ twice_turned (nat_eq (bit_at mask (0 + i)) 1) (at X i))

  zero_flipped : (X : List Sign) (i : ℕ) → at X i ≡ Zero → at (flip mask X) i ≡ Zero
  zero_flipped X i z = at-flip X i ∙ zero_turned (nat_eq (bit_at mask (0 + i)) 1) (at X i) z

  flipped_zero : (X : List Sign) (i : ℕ) → at (flip mask X) i ≡ Zero → at X i ≡ Zero
  flipped_zero X i z = turned_zero (nat_eq (bit_at mask (0 + i)) 1) (at X i) (sym (at-flip X i) ∙ z)

  nonzero_flipped : (X : List Sign) → HasNonzero X → HasNonzero (flip mask X)
  nonzero_flipped X (i, k) = (i, λ z. k (flipped_zero X i z))

  support_flipped : (X Y : List Sign) → HasSupportIn X Y → HasSupportIn (flip mask X) (flip mask Y)
  support_flipped X Y h e z = zero_flipped X (e - 1) (h e (flipped_zero Y (e - 1) z))

  -- the support of one of two lists in that of the other, where one of them is negated
  support_from_left : (X Y : List Sign) → HasSupportIn (flip mask X) Y → HasSupportIn X (flip mask Y)
  support_from_left X Y h e z = flipped_zero X (e - 1) (h e (flipped_zero Y (e - 1) z))

  support_from_right : (X Y : List Sign) → HasSupportIn X (flip mask Y) → HasSupportIn (flip mask X) Y
  support_from_right X Y h e z = zero_flipped X (e - 1) (h e (zero_flipped Y (e - 1) z))

  product_flipped : (X Y : List Sign) (i : ℕ) → product (at (flip mask X) i) (at (flip mask Y) i)
      ≡ product (at X i) (at Y i)
  product_flipped X Y i = ap (λ s. product s (at (flip mask Y) i)) (at-flip X i)
      ∙ ap (product (cond (nat_eq (bit_at mask (0 + i)) 1) (opposite (at X i)) (at X i))) (at-flip Y i)
      ∙ both_turned (nat_eq (bit_at mask (0 + i)) 1) (at X i) (at Y i)

  unflipped : (X Y : List Sign) (s : Sign) → HasProduct (flip mask X) (flip mask Y) s → HasProduct X Y s
  unflipped X Y s (i, p) = (i, sym (product_flipped X Y i) ∙ p)

  flipped : (X Y : List Sign) (s : Sign) → HasProduct X Y s → HasProduct (flip mask X) (flip mask Y) s
  flipped X Y s (i, p) = (i, product_flipped X Y i ∙ p)

  orthogonal_flipped : (X Y : List Sign) → IsOrthogonal X Y → IsOrthogonal (flip mask X) (flip mask Y)
  orthogonal_flipped X Y o =
      (λ p. flipped X Y _ (o.0 (unflipped X Y _ p)), λ p. flipped X Y _ (o.1 (unflipped X Y _ p)))

  -- ---- reorientations

  module _ (n : ℕ) (P Q : List Sign → Type 0) (reorientation : IsReorientation n mask P Q) where
    -- the negative of a member of the one is a member of the other
    pub flipped_member : (X : List Sign) → length X ≡ n → P X → Q (flip mask X)
    flipped_member X l x = (reorientation (flip mask X) (length-flip X ∙ l)).1 (subst P (sym (flip_twice X)) x)

    module _ (size : (X : List Sign) → P X → length X ≡ n) (sizes : (X : List Sign) → Q X → length X ≡ n) where
      pub least_flipped : (X : List Sign) → IsOfLeastSupport Q X ↔ IsOfLeastSupport P (flip mask X)
      least_flipped X = (
        λ x. record {
          member = (reorientation X (sizes X x.member)).0 x.member;
          nonzero = nonzero_flipped X x.nonzero;
          least = λ Y y k sub. support_from_right X Y
              (x.least (flip mask Y) (flipped_member Y (size Y y) y) (nonzero_flipped Y k)
              (support_from_right Y X sub));
        },
        λ x. record {
          member = (reorientation X (sym (length-flip X) ∙ size (flip mask X) x.member)).1 x.member;
          nonzero = subst HasNonzero (flip_twice X) (nonzero_flipped (flip mask X) x.nonzero);
          least = λ Y y k sub.
              let back = x.least (flip mask Y) ((reorientation Y (sizes Y y)).0 y) (nonzero_flipped Y k)
              (support_flipped Y X sub) in
              subst (HasSupportIn X) (flip_twice Y) (support_from_left X (flip mask Y) back);
        },
      )

    pub dual_reorientation : (P' Q' : List Sign → Type 0) → IsDual n P P' → IsDual n Q Q' → IsReorientation n mask P' Q'
    dual_reorientation P' Q' dual other X l = (
      λ x. (dual (flip mask X) (length-flip X ∙ l)).1 (λ W lw w. subst (IsOrthogonal (flip mask X)) (flip_twice W)
          (orthogonal_flipped X (flip mask W)
          ((other X l).0 x (flip mask W) (length-flip W ∙ lw) (flipped_member W lw w)))),
      λ x. (other X l).1
          (λ Z lz z. subst (λ V. IsOrthogonal V Z) (flip_twice X)
          (subst (IsOrthogonal (flip mask (flip mask X))) (flip_twice Z)
          (orthogonal_flipped (flip mask X) (flip mask Z)
          ((dual (flip mask X) (length-flip X ∙ l)).0 x (flip mask Z) (length-flip Z ∙ lz)
          ((reorientation Z lz).0 z))))),
    )

  -- ---- the members of a list

  pub flipped_contains : (members : List (List Sign)) (X : List Sign) → Contains (map (flip mask) members) X
      → Contains members (flip mask X)
  flipped_contains members X (k, l, q) =
      let inner : k < length members = subst (λ n. k < n) (length-map members (flip mask)) l in (
        k,
        inner,
        sym (flip_twice (get_or members k (flip mask X)))
            ∙ ap (flip mask) (sym (get_or-map (flip mask) members k (flip mask X) X inner) ∙ q),
      )

  pub contains_flipped : (members : List (List Sign)) (X : List Sign) → Contains members (flip mask X)
      → Contains (map (flip mask) members) X
  contains_flipped members X (k, l, q) = (
    k,
    subst (λ n. k < n) (sym (length-map members (flip mask))) l,
    get_or-map (flip mask) members k (flip mask X) X l ∙ ap (flip mask) q ∙ flip_twice X,
  )

  -- distinct vectors stay so when all are reoriented on a mask
  pub flipped_distinct : (members : List (List Sign)) → AreDistinct members → AreDistinct (map (flip mask) members)
  flipped_distinct members distinct i j d before l q =
      let later : j < length members = subst (λ n. j < n) (length-map members (flip mask)) l in
      let earlier : i < length members = omega arith in
      distinct i j d before later (sym (flip_twice (get_or members i d))
      ∙ ap (flip mask) (sym (get_or-map (flip mask) members i d d earlier) ∙ q
      ∙ get_or-map (flip mask) members j d d later) ∙ flip_twice (get_or members j d))

  -- vectors with n signs each keep this number when all are reoriented on a mask
  pub flipped_lengths : (n : ℕ) (members : List (List Sign)) → All (λ X. length X ≡ n) members
      → All (λ X. length X ≡ n) (map (flip mask) members)
  flipped_lengths n members lengths k d l =
      let inner : k < length members = subst (λ m. k < m) (length-map members (flip mask)) l in
      ap length (get_or-map (flip mask) members k d d inner) ∙ length-flip (get_or members k d) ∙ lengths k d inner
