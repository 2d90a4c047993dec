-- Lists of what is made of the members of a list.
--
-- Main results: shorter_list: a family of members without an element is listed, and the list is no longer;
-- flipped_on: so it is with the members, each negated on a mask.
use Rattle.std.specs.Prelude.{ℕ, ◌≡◌, ◌-◌, ◌<◌, ◌≤◌, List, length, map}
use Rattle.std.specs.List.{Contains, remove}
use Rattle.std.proofs.Common.{sym, ◌∙◌, ap, subst, arith}
use Rattle.std.proofs.lemmas.List.{length-map, get_or-map}
use Rattle.om_signs.specs.declared.limits.TheConstants.{MAX_MEMBERS}
use Rattle.om_signs.specs.declared.sign.Sign.{Sign}
use Rattle.om_signs.specs.SignVec.{flip}
use Rattle.om_members.specs.Listings.{AreDistinct}
use Rattle.om_convert.proofs.CountingLaws.{distinct_few}
use Rattle.om_denotation.specs.Listings.{AreAllOf}
use Rattle.om_denotation.specs.Operations.{IsWithout}
use Rattle.om_minors.proofs.DroppedPlaces.{shorter_of}
use Rattle.om_minors.proofs.FlippedLists.{flipped_distinct, flipped_lengths}
use Rattle.om_document.specs.Form.{AreMembersOn}
use Rattle.om_existence.specs.Possible.{IsPossible}
use Rattle.om_existence.proofs.Possible.{mapped}
use Rattle.om_existence.proofs.Listed.{listed_possible}
use Rattle.om_existence.proofs.OperationCases.{IsOneOfSeveral}
use Rattle.om_existence.proofs.WithinLimits.{HasList, members_on}

mapped_contains : (f : List Sign → List Sign) (members : List (List Sign)) (W X : List Sign)
    → Contains members W → f W ≡ X → Contains (map f members) X
mapped_contains f members W X (k, l, q) same = (
  k,
  subst (λ n. k < n) (sym (length-map members f)) l,
  get_or-map f members k W X l ∙ ap f q ∙ same,
)

-- ---- without an element

module _ (n : ℕ) (members : List (List Sign)) (on : AreMembersOn n members) (e : ℕ) (one : IsOneOfSeveral n e) where
  abbrev dropped : List Sign → List Sign
  dropped W = remove W (e - 1)

  -- a family of members without e
  module _ (P : List Sign → Type 0) (from : (X : List Sign) → P X → IsWithout n e (Contains members) X) where
    shorter : (X : List Sign) → P X → length X ≡ n - 1
    shorter X p =
        let w = from X p in
        let size = shorter_of n e one.low one.high X w.0 w.1 w.3 in
        omega (arith, size)

    module _ (list : List (List Sign)) (all : AreAllOf P list) (distinct : AreDistinct list) where
      among : (X : List Sign) → Contains list X → Contains (map dropped members) X
      among X c = let w = from X (all.sound X c) in mapped_contains dropped members w.0 X w.2 w.3

      no_more : length list ≤ MAX_MEMBERS
      no_more =
          let few = distinct_few list (map dropped members) distinct among in
          let count = length-map members dropped in
          let most = on.few in
          omega (arith, few, count, most)

    pub shorter_list : IsPossible (HasList (n - 1) P)
    shorter_list =
        mapped (λ h. (h.0, members_on (n - 1) P shorter h.0 h.1.0 h.1.1 (no_more h.0 h.1.0 h.1.1)))
        (listed_possible (n - 1) P shorter)

-- ---- with signs negated

pub flipped_on : (mask n : ℕ) (members : List (List Sign)) → AreMembersOn n members
    → AreMembersOn n (map (flip mask) members)
flipped_on mask n members on = record {
  few = subst (λ k. k ≤ MAX_MEMBERS) (sym (length-map members (flip mask))) on.few;
  long = flipped_lengths mask n members on.long;
  distinct = flipped_distinct mask members on.distinct;
}
