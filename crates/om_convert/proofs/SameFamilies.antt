-- What is said of a family of sign vectors, of an equal family.
--
-- Main results: things that denote the same in turn (joined); the same lists (all_same), limits (within_same) and
-- causes (cause_same); families that denote the same are equal where both have n signs (equal_families); the members of
-- least support (least_same), and the cocircuits (cocircuits_of) and the covectors (covectors_listed) of a chirotope
-- that denotes the same.
use Rattle.std.specs.List.{Contains}
use Rattle.std.proofs.lemmas.List.Elements.{All-contains}
use Rattle.std.proofs.Common.{ℕ, ◌≡◌, ◌↔◌, List, length, sym, ◌∙◌}
use Rattle.om_signs.specs.declared.sign.Sign.{Sign}
use Rattle.om_signs.specs.declared.limits.TheConstants.{MAX_MEMBERS}
use Rattle.om_chirotope.specs.Map.{SignMap}
use Rattle.om_chirotope.specs.Chirotope.{IsChirotope}
use Rattle.om_members.specs.Listings.{Listing, HaveLength}
use Rattle.om_denotation.specs.Circuits.{IsCocircuitOfChirotope}
use Rattle.om_denotation.specs.Compositions.{IsOfLeastSupport}
use Rattle.om_denotation.specs.Covectors.{IsCovectorOfChirotope}
use Rattle.om_denotation.specs.Denotation.{DenoteTheSame}
use Rattle.om_denotation.specs.Listings.{AreAllOf, HasMoreThan}
use Rattle.om_denotation.proofs.FamilyLaws.{least_both}
use Rattle.om_convert.specs.declared.convert_error.ConvertError.{ConvertError}
use Rattle.om_convert.specs.declared.convert_error.ConvertError.TheVariants.{TooWide, TooMany, Memory}
use Rattle.om_convert.specs.Limits.{IsWithinLimit, IsCause}

pub joined : (n k : ℕ) (P Q R : List Sign → Type 0) → k ≡ n → DenoteTheSame n P Q → DenoteTheSame k Q R
    → DenoteTheSame n P R
joined n k P Q R q a b X l = (λ x. (b X (l ∙ sym q)).0 ((a X l).0 x), λ x. (a X l).1 ((b X (l ∙ sym q)).1 x))

module _ (P Q : List Sign → Type 0) (both : (X : List Sign) → P X ↔ Q X) where
  -- a list of the members of a family is one of the members of an equal family
  pub all_same : (members : List (List Sign)) → AreAllOf P members → AreAllOf Q members
  all_same members h = record { sound = λ X x. (both X).0 (h.sound X x); complete = λ X x. h.complete X ((both X).1 x) }

  more_same : HasMoreThan MAX_MEMBERS P → HasMoreThan MAX_MEMBERS Q
  more_same h =
      record { members = h.members; many = h.many; distinct = h.distinct; each = λ k d l. (both _).0 (h.each k d l) }

  -- why the members of a family aren't listed is why those of an equal family aren't
  pub cause_same : (e : ConvertError) → IsCause P e → IsCause Q e
  cause_same (TooWide values) h = h
  cause_same (TooMany limit) h = (h.0, more_same h.1)
  cause_same Memory h = tt

  pub least_same : (X : List Sign) → IsOfLeastSupport P X → IsOfLeastSupport Q X
  least_same X h = record { member = (both X).0 h.member; nonzero = h.nonzero; least = λ Y y. h.least Y ((both Y).1 y) }

pub turned : (P Q : List Sign → Type 0) → ((X : List Sign) → P X ↔ Q X) → (X : List Sign) → Q X ↔ P X
turned P Q both X = ((both X).1, (both X).0)

-- if a family has no more members than a list may have, then neither has an equal family
pub within_same : (P Q : List Sign → Type 0) → ((X : List Sign) → P X ↔ Q X) → IsWithinLimit P → IsWithinLimit Q
within_same P Q both h = λ more. h (more_same Q P (turned P Q both) more)

-- families of lists of n signs that denote the same
pub equal_families : (n : ℕ) (P Q : List Sign → Type 0) → ((X : List Sign) → P X → length X ≡ n)
    → ((X : List Sign) → Q X → length X ≡ n) → DenoteTheSame n P Q → (X : List Sign) → Q X ↔ P X
equal_families n P Q sp sq same X = (λ q. (same X (sq X q)).1 q, λ p. (same X (sp X p)).0 p)

-- the cocircuits of a chirotope that denotes the same
pub cocircuits_of : (n : ℕ) (P : List Sign → Type 0) (m : SignMap) → IsChirotope m → m.elements ≡ n
    → ((X : List Sign) → P X → length X ≡ n) → DenoteTheSame n P (IsCovectorOfChirotope m)
    → (X : List Sign) → IsCocircuitOfChirotope m X ↔ IsOfLeastSupport P X
cocircuits_of n P m om q size same X =
    let both = equal_families n P (IsCovectorOfChirotope m) size (λ Y y. y.size ∙ q) same in
    let least = least_both m om X in (
      λ x. least_same (IsCovectorOfChirotope m) P both X (least.0 x),
      λ x. least.1 (least_same P (IsCovectorOfChirotope m) (turned (IsCovectorOfChirotope m) P both) X x),
    )

-- the covectors of a chirotope that denotes the same as a list of covectors, by what denotes the same as both
pub covectors_listed : (c : Listing) (m : SignMap) (k : ℕ) (P : List Sign → Type 0) → HaveLength c.elements c.members
    → k ≡ c.elements → m.elements ≡ k
    → DenoteTheSame c.elements (Contains c.members) P → DenoteTheSame k P (IsCovectorOfChirotope m)
    → AreAllOf (IsCovectorOfChirotope m) c.members
covectors_listed c m k P lengths q r a b =
    let same = joined c.elements k (Contains c.members) P (IsCovectorOfChirotope m) q a b in
    record {
      sound = λ X x. (same X (All-contains (λ Y. length Y ≡ c.elements) c.members X lengths x)).0 x;
      complete = λ X x. (same X (x.size ∙ r ∙ q)).1 x;
    }
