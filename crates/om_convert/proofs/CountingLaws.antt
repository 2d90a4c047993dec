-- Distinct vectors of one list that all stand in another are no more than those of the other.
--
-- Main results: distinct_few, more_of_more (a family that holds another has as many members), listed_within (a family
-- that is listed within the limit has no more members than it).
use Rattle.std.specs.List.{Contains}
use Rattle.std.proofs.lemmas.List.{length-append}
use Rattle.std.proofs.lemmas.List.Elements.{All-contains, Contains-append_left, Contains-append_right}
use Rattle.std.proofs.lemmas.List.Elements.{Contains-append_cases}
use Rattle.std.proofs.Common.{ℕ, suc, ◌≡◌, ◌≢◌, ◌≤◌, List, [], ◌∷◌, ◌++◌, length, sym, ap, subst, ◌∙◌, ⊎_elim, arith}
use Rattle.om_signs.specs.declared.sign.Sign.{Sign}
use Rattle.om_signs.specs.declared.limits.TheConstants.{MAX_MEMBERS}
use Rattle.om_signs.proofs.Contained.{none_contained, contains_first, contains_later, first_or_later}
use Rattle.om_members.specs.Listings.{AreDistinct}
use Rattle.om_denotation.specs.Listings.{AreAllOf, HasMoreThan}
use Rattle.om_convert.specs.declared.convert_error.ConvertError.{ConvertError}
use Rattle.om_convert.specs.declared.convert_error.ConvertError.TheVariants.{TooWide, TooMany, Memory}
use Rattle.om_convert.specs.Limits.{IsWithinLimit, IsCause}

-- ---- distinct members

-- a list before and behind a member
split_at : (ys : List (List Sign)) (X : List Sign) → Contains ys X → (u v : List (List Sign)) × (ys ≡ u ++ X ∷ v)
split_at [] X c = absurd (none_contained X c)
split_at (Y ∷ ys) X c = ⊎_elim
    (λ q. ([], ys, ap (λ Z. Z ∷ ys) q))
    (λ k. let r = split_at ys X k in (Y ∷ r.0, r.1, ap (λ l. Y ∷ l) r.2))
    (first_or_later Y ys X c)

other_member : (u v : List (List Sign)) (X Z : List Sign) → X ≢ Z → Contains (u ++ X ∷ v) Z → Contains (u ++ v) Z
other_member u v X Z ne c = ⊎_elim
    (λ k. Contains-append_left u v Z k)
    (λ k. ⊎_elim (λ q. absurd (ne q)) (λ l. Contains-append_right u v Z l) (first_or_later X v Z k))
    (Contains-append_cases u (X ∷ v) Z c)

tail_distinct : (X : List Sign) (xs : List (List Sign)) → AreDistinct (X ∷ xs) → AreDistinct xs
tail_distinct X xs d = λ i j e l m. d (suc i) (suc j) e (omega arith) (omega arith)

head_distinct : (X : List Sign) (xs : List (List Sign)) → AreDistinct (X ∷ xs) → (Z : List Sign) → Contains xs Z → X ≢ Z
head_distinct X xs d Z c q = d 0 (suc c.0) Z (omega arith) (let l = c.1 in omega arith) (q ∙ sym c.2)

-- if distinct vectors all stand in a list, they are no more than its members
pub distinct_few : (xs ys : List (List Sign)) → AreDistinct xs → ((X : List Sign) → Contains xs X → Contains ys X)
    → length xs ≤ length ys
distinct_few [] ys d h = omega arith
distinct_few (X ∷ xs) ys d h =
    let s = split_at ys X (h X (contains_first X xs)) in
    let k = distinct_few xs (s.0 ++ s.1) (tail_distinct X xs d)
    (λ Z c. other_member s.0 s.1 X Z (head_distinct X xs d Z c)
    (subst (λ l. Contains l Z) s.2 (h Z (contains_later X xs Z c)))) in
    let e = ap length s.2 in
    let a = length-append s.0 (X ∷ s.1) in
    let b = length-append s.0 s.1 in
    omega arith

-- ---- families

-- if a family has more than k members, then so has each family that holds it
pub more_of_more : (k : ℕ) (P Q : List Sign → Type 0) → ((X : List Sign) → P X → Q X) → HasMoreThan k P
    → HasMoreThan k Q
more_of_more k P Q f h =
    record { members = h.members; many = h.many; distinct = h.distinct; each = λ i d l. f _ (h.each i d l) }

pub cause_of_cause : (P Q : List Sign → Type 0) → ((X : List Sign) → P X → Q X) → (e : ConvertError) → IsCause P e
    → IsCause Q e
cause_of_cause P Q f (TooWide values) c = c
cause_of_cause P Q f (TooMany limit) c = (c.0, more_of_more MAX_MEMBERS P Q f c.1)
cause_of_cause P Q f Memory c = tt

-- a family has no more members than a list may have, if all stand in a list of at most so many
pub listed_within : (P : List Sign → Type 0) (members : List (List Sign)) → AreAllOf P members
    → length members ≤ MAX_MEMBERS → IsWithinLimit P
listed_within P members all few h =
    let l = distinct_few h.members members h.distinct (λ X c. all.complete X (All-contains P h.members X h.each c)) in
    let m = h.many in
    absurd (omega arith)
