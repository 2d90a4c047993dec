-- The members of a list, by place.
--
-- Main results: a member that a loop reads is the one at its place (nth_read); each member stands at some place
-- (nth_contained), and what stands at a place is a member (contains_nth, position_member); what holds of the members at
-- all pairs of places holds of all pairs of members (pairs_of_members); each member has the length of the list
-- (length_of_member).
use Rattle.std.proofs.Common.{ℕ, ◌≡◌, ◌-◌, ◌<◌, List, [], length, get_or, arith, subst, sym, ◌∙◌}
use Rattle.std.specs.List.{Contains}
use Rattle.std.proofs.lemmas.List.{get_or_default}
use Rattle.std.proofs.lemmas.List.Elements.{All-contains}
use Rattle.om_signs.specs.declared.sign.Sign.{Sign}
use Rattle.om_members.specs.Listings.{HaveLength}
use Rattle.om_members.specs.Positions.{IsPosition}
use Rattle.om_members.specs.Scans.{nth, AllBelow}

-- a member that a loop reads is the one at its place
pub nth_read : (members : List (List Sign)) (k : ℕ) (x : List Sign) → k < length members → x ≡ get_or members k x
    → nth members k ≡ x
nth_read members k x lt e = get_or_default members k [] x lt ∙ sym e

-- a member stands at the place at which the list is said to contain it
pub nth_contained : (members : List (List Sign)) (X : List Sign) (h : Contains members X) → nth members h.0 ≡ X
nth_contained members X h = get_or_default members h.0 [] X h.1 ∙ h.2

-- what stands at a place of the list is a member
pub contains_nth : (members : List (List Sign)) (k : ℕ) → k < length members → Contains members (nth members k)
contains_nth members k lt = (k, lt, get_or_default members k (nth members k) [] lt)

-- a member at a position, from 1 on
pub position_member : (members : List (List Sign)) (i : ℕ) → IsPosition members i
    → Contains members (nth members (i - 1))
position_member members i p = let a = p.0 in let b = p.1 in contains_nth members (i - 1) (omega arith)

-- what holds of the members at all pairs of places holds of all pairs of members
pub pairs_of_members : (members : List (List Sign)) (P : List Sign → List Sign → Type 0)
    → AllBelow (length members) (λ i. AllBelow (length members) (λ j. P (nth members i) (nth members j)))
    → (X Y : List Sign) → Contains members X → Contains members Y → P X Y
pairs_of_members members P h X Y x y =
    subst (λ Z. P Z Y) (nth_contained members X x)
    (subst (λ Z. P (nth members x.0) Z) (nth_contained members Y y) (h x.0 x.1 y.0 y.1))

-- if all members have n signs, so has each single one
pub length_of_member : (n : ℕ) (members : List (List Sign)) → HaveLength n members → (X : List Sign)
    → Contains members X → length X ≡ n
length_of_member n members lengths X m = All-contains (λ Y. length Y ≡ n) members X lengths m
