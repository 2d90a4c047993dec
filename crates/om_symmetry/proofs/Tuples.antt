-- The tuple of the old elements of a set, and the sign of the negatives among them, one element after the other.
--
-- Main results: none so far (tuple_begun), one more element (tuple_more), and the whole tuple (tuple_all, signs_all,
-- tuple_within).
use Rattle.std.proofs.Common.{ℕ, ◌≡◌, ◌+◌, ◌<◌, ◌≤◌, List, [], ◌∷◌, ◌++◌, length, map, take, set, refl}
use Rattle.std.proofs.Common.{sym, ap, subst, ◌∙◌, arith, append_assoc, append-nil}
use Rattle.std.proofs.lemmas.List.{take_more_set, length-set, nil_from_length}
use Rattle.om_signs.specs.declared.sign.Sign.{Sign}
use Rattle.om_signs.specs.declared.sign.Sign.TheVariants.{Plus}
use Rattle.om_signs.specs.declared.limits.TheConstants.{MAX_PLACES}
use Rattle.om_signs.specs.Sign.{product}
use Rattle.om_signs.proofs.SignLaws.{product_assoc, product-plus}
use Rattle.om_subsets.specs.Lists.{IsWithin}
use Rattle.om_laws.specs.Reorientation.{turning, signs_product}
use Rattle.om_laws.specs.Sorting.{IsElement, IsTuple}
use Rattle.om_laws.proofs.TupleSizes.{each_member}
use Rattle.om_symmetry.specs.declared.signed_element.SignedElement.{SignedElement}
use Rattle.om_symmetry.specs.Permutations.{IsSignedPermutation, element_at, is_negated_at}
use Rattle.om_symmetry.proofs.Images.{tuple_image}

-- the old elements of the first elements of s stand in the table, `sign` is theirs, and `rest` are the others of s
pub record IsTupleTo (w : List SignedElement) (s table : List ℕ) (size : ℕ) (sign : Sign) (rest : List ℕ) : Type 0 where
  pub whole : length table ≡ MAX_PLACES
  pub count : size + length rest ≡ length s
  pub tuple : take size table ++ map (element_at w) rest ≡ map (element_at w) s
  pub signs : product sign (signs_product (turning (is_negated_at w)) rest)
      ≡ signs_product (turning (is_negated_at w)) s

pub tuple_begun : (w : List SignedElement) (s table : List ℕ) → length table ≡ MAX_PLACES
    → IsTupleTo w s table 0 Plus s
tuple_begun w s table l = record { whole = l; count = omega arith; tuple = refl; signs = refl }

pub tuple_more : (w : List SignedElement) (s table new : List ℕ) (size : ℕ) (sign next : Sign) (rest behind : List ℕ)
    (i e : ℕ) (turn : Sign) → rest ≡ i ∷ behind → e ≡ element_at w i → turn ≡ turning (is_negated_at w) i
    → new ≡ set table size e → next ≡ product sign turn → length s ≤ MAX_PLACES → IsTupleTo w s table size sign rest
    → IsTupleTo w s new (size + 1) next behind
tuple_more w s table new size sign next rest behind i e turn qr qe qt qn qs few h =
    let l = h.whole in
    let c = h.count in
    let r = ap length qr in
    let room : size < length table = omega arith in
    record {
      whole = ap length qn ∙ length-set table size e ∙ l;
      count = omega arith;
      tuple = ap (λ x. take (size + 1) x ++ map (element_at w) behind) qn
          ∙ ap (λ x. x ++ map (element_at w) behind) (take_more_set table size e room)
          ∙ append_assoc (take size table) (e ∷ []) (map (element_at w) behind)
          ∙ ap (λ x. take size table ++ x ∷ map (element_at w) behind) qe
          ∙ ap (λ x. take size table ++ map (element_at w) x) (sym qr) ∙ h.tuple;
      signs = ap (λ x. product x (signs_product (turning (is_negated_at w)) behind)) (qs ∙ ap (product sign) qt)
          ∙ product_assoc sign (turning (is_negated_at w) i) (signs_product (turning (is_negated_at w)) behind)
          ∙ ap (λ x. product sign (signs_product (turning (is_negated_at w)) x)) (sym qr) ∙ h.signs;
    }

module _ (w : List SignedElement) (s table : List ℕ) (size : ℕ) (sign : Sign) (rest : List ℕ) (none : length rest ≡ 0)
    (h : IsTupleTo w s table size sign rest) where
  -- once no element of s is left, the first places of the table have the old elements of s
  pub tuple_all : take size table ≡ map (element_at w) s
  tuple_all = sym (append-nil (take size table))
      ∙ ap (λ x. take size table ++ map (element_at w) x) (sym (nil_from_length rest none)) ∙ h.tuple

  pub signs_all : sign ≡ signs_product (turning (is_negated_at w)) s
  signs_all = sym (product-plus sign)
      ∙ ap (λ x. product sign (signs_product (turning (is_negated_at w)) x)) (sym (nil_from_length rest none)) ∙ h.signs

  pub tuple_within : (n r : ℕ) → IsSignedPermutation n w → IsTuple n r s → IsWithin 1 n (take size table)
  tuple_within n r p t =
      subst (IsWithin 1 n) (sym tuple_all)
      (λ e m. each_member (IsElement n) (map (element_at w) s) (tuple_image n w p r s t).within e m)
