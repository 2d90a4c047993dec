-- Images of the members of a list, and members that are found by their images.
--
-- Main results: images_more, one image more; found_member.
use Rattle.std.proofs.Common.{ℕ, List, ◌≡◌, ◌+◌, ◌<◌, ◌∷◌, [], ◌++◌, ◌∙◌, Option, Some, None, sym, ap, subst, inl, inr}
use Rattle.std.proofs.Common.{length, get_or, arith, IfSome}
use Rattle.std.proofs.lemmas.Bool.{cases_lt}
use Rattle.std.proofs.lemmas.List.{get_or_append_left, get_or_push, get_or_default, length_push}
use Rattle.om_subsets.specs.Subsets.{choose}
use Rattle.om_chirotope.specs.Map.{SignMap}
use Rattle.om_symmetry.specs.Permutations.{AreIsomorphic}
use Rattle.om_symmetry.proofs.Groups.{isomorphic_back, isomorphic_on}
use Rattle.om_levels.specs.Packing.{packed}
use Rattle.om_levels.specs.Levels.{Members, IsChirotopeOfRank3, IsMemberAt, IsRowOf, IsIsomorphicTo, AreImages}

-- there is one member at a place
pub same_member : (maps : List SignMap) (place : ℕ) (m d : SignMap) → IsMemberAt maps place m → IsMemberAt maps place d
    → m ≡ d
same_member maps place m d a b = sym a.same ∙ get_or_default maps place m d a.below ∙ b.same

-- the second list has an image of each member so far
pub record AreImagesBelow (l images : Members) (k : ℕ) : Type 0 where
  pub elements : images.elements ≡ l.elements
  pub as_many : length images.maps ≡ k
  pub each : (place : ℕ) (m d : SignMap) → IsMemberAt l.maps place m → IsMemberAt images.maps place d
      → AreIsomorphic d m

pub no_images : (l images : Members) → images.elements ≡ l.elements → images.maps ≡ [] → AreImagesBelow l images 0
no_images l images e none = record {
  elements = e;
  as_many = ap (λ (xs : List SignMap). length xs) none;
  each = λ place m d a b.
      let l = b.below in
      let z = ap (λ (xs : List SignMap). length xs) none in
      absurd (omega arith);
}

-- one image more
pub images_more : (l images new : Members) (k n : ℕ) (member image : SignMap) → AreImagesBelow l images k
    → IsMemberAt l.maps k member → IsChirotopeOfRank3 n member → AreIsomorphic member image
    → new.elements ≡ images.elements → new.maps ≡ images.maps ++ image ∷ [] → AreImagesBelow l new (k + 1)
images_more l images new k n member image below at kind iso qe q = record {
  elements = qe ∙ below.elements;
  as_many = ap (λ (xs : List SignMap). length xs) q ∙ length_push images.maps image ∙ ap (λ j. j + 1) below.as_many;
  each = each;
}
  where
    size : length new.maps ≡ k + 1
    size = ap (λ (xs : List SignMap). length xs) q ∙ length_push images.maps image ∙ ap (λ j. j + 1) below.as_many

    earlier : (place : ℕ) (d : SignMap) → place < k → IsMemberAt new.maps place d → IsMemberAt images.maps place d
    earlier place d lt b =
        let s = below.as_many in
        let inside : place < length images.maps = omega arith in
        record {
          below = inside;
          same = sym (ap (λ xs. get_or xs place d) q ∙ get_or_append_left images.maps (image ∷ []) d place inside)
              ∙ b.same;
        }

    last : (place : ℕ) (d : SignMap) → place ≡ k → IsMemberAt new.maps place d → image ≡ d
    last place d e b =
        sym (ap (λ xs. get_or xs place d) q
        ∙ get_or_push images.maps image d place (below.as_many ∙ sym e)) ∙ b.same

    each : (place : ℕ) (m d : SignMap) → IsMemberAt l.maps place m → IsMemberAt new.maps place d → AreIsomorphic d m
    each place m d a b = elim (cases_lt place k) [
      | inl lt ↦ below.each place m d a (earlier place d lt b)
      | inr ge ↦
          let under = b.below in
          let s = size in
          let e : place ≡ k = omega arith in
          let here : IsMemberAt l.maps k m = subst (λ j. IsMemberAt l.maps j m) e a in
          subst (λ x. AreIsomorphic x m) (last place d e b) (subst (AreIsomorphic image)
          (same_member l.maps k member m at here) (isomorphic_back member image kind.axioms.whole iso))
    ]

pub all_images : (l images : Members) (k : ℕ) → AreImagesBelow l images k → k ≡ length l.maps → AreImages l images
all_images l images k below all = record {
  elements = below.elements;
  as_many = below.as_many ∙ all;
  each = below.each;
}

-- the member whose image is that of a map
pub found_member : (l images : Members) (n : ℕ) (chi image : SignMap) (key : List ℕ) (r : Option ℕ)
    → AreImages l images → AreIsomorphic chi image → IsChirotopeOfRank3 n image → n ≡ l.elements
    → key ≡ packed image.signs → IfSome r (λ place. (place < length images.maps) × IsRowOf images place key)
    → IfSome r (IsIsomorphicTo l.maps chi)
found_member l images n chi image key None are iso kind e q found = tt
found_member l images n chi image key (Some place) are iso kind e q (lt, row) =
    let en : image.elements ≡ images.elements = kind.elements ∙ e ∙ sym are.elements in
    let size : length image.signs ≡ choose images.elements 3 =
    kind.axioms.whole.whole ∙ ap (λ k. choose k image.rank) en ∙ ap (choose images.elements) kind.rank in
    let at = row image kind.rank en size q lt in
    let s = are.as_many in
    let inside : place < length l.maps = omega arith in
    let m = get_or l.maps place image in
    let here : IsMemberAt l.maps place m = record {
      below = inside;
      same = get_or_default l.maps place m image inside;
    } in
    record {
      member = m;
      at = here;
      isomorphic = isomorphic_on chi image m iso (are.each place m image here at);
    }
