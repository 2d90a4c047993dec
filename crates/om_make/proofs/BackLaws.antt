-- The way back from what a chirotope denotes to its normal form.
--
-- Main results: comes_back, every normal chirotope that denotes the same is the normal form; back_from_cocircuits,
-- back_from_covectors; the lists of a map of rank 3 are not too wide (narrow_cocircuits, narrow_covectors).
use Rattle.std.specs.Prelude.{◌≡◌, ◌≤◌}
use Rattle.std.specs.List.{Contains}
use Rattle.std.proofs.Common.{sym, subst, ◌∙◌}
use Rattle.om_signs.specs.declared.limits.TheConstants.{MAX_ELEMENTS}
use Rattle.om_signs.specs.declared.sign.Sign.TheVariants.{Plus}
use Rattle.om_chirotope.specs.Map.{SignMap, IsLedBy}
use Rattle.om_chirotope.specs.Chirotope.{IsChirotope}
use Rattle.om_members.specs.Listings.{Listing}
use Rattle.om_denotation.specs.Covectors.{IsCovectorOfChirotope, IsCovectorOfCocircuits}
use Rattle.om_denotation.specs.Denotation.{DenoteTheSame}
use Rattle.om_denotation.specs.Maps.{IsNormalFormOf}
use Rattle.om_denotation.proofs.Uniqueness.{same_by_covectors}
use Rattle.om_convert.specs.Limits.{HasFewValuesFor}
use Rattle.om_convert.proofs.WidthLaws.{narrow_of_rank_3}
use Rattle.om_make.specs.Lists.{ListsCocircuits, ListsCovectors}
use Rattle.om_make.specs.Tallies.{ComesBack}

-- each chirotope that denotes the same as a given one, and that a plus leads, is the normal form of the given one
pub comes_back : (m : SignMap) → IsChirotope m → ComesBack m
comes_back m om k ok elements same led = record { same = same_by_covectors m k om ok elements same; normal = led }

pub back_from_cocircuits : (m k : SignMap) (c : Listing) → ListsCocircuits m c → IsChirotope k → k.elements ≡ c.elements
    → DenoteTheSame c.elements (IsCovectorOfCocircuits c) (IsCovectorOfChirotope k) → IsLedBy Plus k.signs
    → IsNormalFormOf m k
back_from_cocircuits m k c lists ok elements same led =
    comes_back m lists.axioms k ok (elements ∙ lists.elements) (λ X size. (
      λ x. (same X (size ∙ sym lists.elements)).0 ((lists.same X size).0 x),
      λ x. (lists.same X size).1 ((same X (size ∙ sym lists.elements)).1 x),
    )) led

pub back_from_covectors : (m k : SignMap) (c : Listing) → ListsCovectors m c → IsChirotope k → k.elements ≡ c.elements
    → DenoteTheSame c.elements (Contains c.members) (IsCovectorOfChirotope k) → IsLedBy Plus k.signs
    → IsNormalFormOf m k
back_from_covectors m k c lists ok elements same led =
    comes_back m lists.axioms k ok (elements ∙ lists.elements) (λ X size. (
      λ x. (same X (size ∙ sym lists.elements)).0 ((lists.same X size).0 x).member,
      λ x. (lists.same X size).1
          (record { size = size ∙ sym lists.elements; member = (same X (size ∙ sym lists.elements)).1 x }),
    )) led

-- ---- widths

-- the chirotope of the cocircuits of a map of rank 3 has no more than MAX_VALUES values
pub narrow_cocircuits : (m : SignMap) (c : Listing) → ListsCocircuits m c → m.rank ≡ 3 → m.elements ≤ MAX_ELEMENTS
    → HasFewValuesFor c.elements (IsCovectorOfCocircuits c)
narrow_cocircuits m c lists three high =
    let few = subst (λ k. k ≤ MAX_ELEMENTS) (sym lists.elements) high in
    narrow_of_rank_3 c.elements (IsCovectorOfCocircuits c) m few lists.axioms (sym lists.elements) (λ X size. (
      λ x. (lists.same X (size ∙ lists.elements)).1 x,
      λ x. (lists.same X (size ∙ lists.elements)).0 x,
    )) three

-- and so has that of its covectors
pub narrow_covectors : (m : SignMap) (c : Listing) → ListsCovectors m c → m.rank ≡ 3 → m.elements ≤ MAX_ELEMENTS
    → HasFewValuesFor c.elements (Contains c.members)
narrow_covectors m c lists three high =
    let few = subst (λ k. k ≤ MAX_ELEMENTS) (sym lists.elements) high in
    narrow_of_rank_3 c.elements (Contains c.members) m few lists.axioms (sym lists.elements) (λ X size. (
      λ x. (lists.same X (size ∙ lists.elements)).1 (record { size = size; member = x }),
      λ x. ((lists.same X (size ∙ lists.elements)).0 x).member,
    )) three
