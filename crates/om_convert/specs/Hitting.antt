-- Sets that meet every cocircuit of a list, and the chirotope that a list of cocircuits determines.
--
-- Reference: Björner, Las Vergnas, Sturmfels, White and Ziegler, Oriented Matroids, chapter 3.
use Rattle.std.specs.Prelude.{ℕ, ◌≡◌, ◌≢◌, ◌<◌, ◌≤◌, ◌⊎◌, List, length}
use Rattle.std.specs.List.{Contains}
use Rattle.om_signs.specs.declared.sign.Sign.{Sign}
use Rattle.om_signs.specs.declared.sign.Sign.TheVariants.{Zero, Plus}
use Rattle.om_signs.specs.Sign.{product}
use Rattle.om_signs.specs.SignVec.{at, at_element}
use Rattle.om_members.specs.Vectors.{IsZero}
use Rattle.om_subsets.specs.Subsets.{IsMember, with_element, without_element, count_above, rank_of}
use Rattle.om_chirotope.specs.Map.{SignMap, IsLedBy, parity_sign}
use Rattle.om_chirotope.specs.Chirotope.{IsChirotope}
use Rattle.om_denotation.specs.Circuits.{IsCocircuitOfChirotope}
use Rattle.om_denotation.specs.Listings.{AreAllOf}

-- Y is nonzero at some element of the set
abbrev pub IsNonzeroOn : List ℕ → List Sign → Type 0
IsNonzeroOn s Y = (e : ℕ) × IsMember e s × (at_element Y e ≢ Zero)

-- the set meets every vector of a family: the vector is nonzero at some element of the set
abbrev pub MeetsFamily : (List Sign → Type 0) → List ℕ → Type 0
MeetsFamily P s = (Y : List Sign) → P Y → IsNonzeroOn s Y

-- some vector of a family is zero on the set
abbrev pub MissesOne : (List Sign → Type 0) → List ℕ → Type 0
MissesOne P s = (Y : List Sign) × P Y × (IsNonzeroOn s Y → ⊥)

-- the set meets every vector of a list
abbrev pub MeetsEach : List (List Sign) → List ℕ → Type 0
MeetsEach members s = MeetsFamily (Contains members) s

-- a nonzero vector of a list
abbrev pub IsNonzeroMember : List (List Sign) → List Sign → Type 0
IsNonzeroMember members Y = Contains members Y × (IsZero Y → ⊥)

-- the set without e, if this meets every vector of a family, and else the set itself
abbrev pub IsNarrowed : (List Sign → Type 0) → List ℕ → ℕ → List ℕ → Type 0
IsNarrowed P s e t = ((t ≡ without_element e s) × MeetsFamily P t) ⊎ ((t ≡ s) × MissesOne P (without_element e s))

-- a minimal set that meets every vector of a family: without any of its elements it misses some vector
pub record IsMinimalMeeting (P : List Sign → Type 0) (s : List ℕ) : Type 0 where
  pub each : MeetsFamily P s
  pub minimal : (e : ℕ) → IsMember e s → MissesOne P (without_element e s)

-- a chirotope on n elements with these cocircuits, whose first nonzero sign is plus
pub record IsNormalOf (n : ℕ) (members : List (List Sign)) (m : SignMap) : Type 0 where
  pub axioms : IsChirotope m
  pub elements : m.elements ≡ n
  pub cocircuits : AreAllOf (IsCocircuitOfChirotope m) members
  pub normal : IsLedBy Plus m.signs

-- each normal chirotope of the list has this rank
abbrev pub IsRankOfNormal : ℕ → List (List Sign) → ℕ → Type 0
IsRankOfNormal n members rank = (m : SignMap) → IsNormalOf n members m → m.rank ≡ rank

-- the first signs of each normal chirotope of the list that has this rank
abbrev pub AreFirstSigns : ℕ → ℕ → List (List Sign) → List Sign → Type 0
AreFirstSigns n rank members signs = (m : SignMap) → IsNormalOf n members m → m.rank ≡ rank → (k : ℕ) → k < length signs
    → at signs k ≡ at m.signs k

-- the sign at place k of each normal chirotope of the list that has this rank
abbrev pub IsNextSign : ℕ → ℕ → List (List Sign) → ℕ → Sign → Type 0
IsNextSign n rank members k s = (m : SignMap) → IsNormalOf n members m → m.rank ≡ rank → s ≡ at m.signs k

-- the sign of the set a with e, from the sign s of the set a with h, by a vector y that is zero on a
abbrev pub carried_sign : List ℕ → ℕ → ℕ → List Sign → Sign → Sign
carried_sign a e h y s =
    product (product
    (product (product (parity_sign (count_above e a)) (parity_sign (count_above h a))) (at_element y e))
    (at_element y h)) s

-- the set t with h in place of its element e
abbrev pub replaced : ℕ → ℕ → List ℕ → List ℕ
replaced h e t = with_element h (without_element e t)

-- the sign of a set of elements from 1 to n, by the signs of the first sets
abbrev pub sign_among : ℕ → List Sign → List ℕ → Sign
sign_among n signs t = at signs (rank_of n t)

-- the vector y of a list relates t to the set with a smaller element h in place of e: it is zero on what both share,
-- and not at h
pub record IsCarrier (members : List (List Sign)) (t : List ℕ) (e h : ℕ) (y : List Sign) : Type 0 where
  pub member : Contains members y
  pub missed : IsNonzeroOn (without_element e t) y → ⊥
  pub low : 1 ≤ h
  pub below : h < e
  pub nonzero : at_element y h ≢ Zero

-- some vector carries the sign s to t, from the set with a smaller element in place of e
pub record IsCarried (n : ℕ) (members : List (List Sign)) (before : List Sign) (t : List ℕ) (e : ℕ) (s : Sign) : Type
    0 where
  pub inside : IsMember e t
  pub other : ℕ
  pub vector : List Sign
  pub carrier : IsCarrier members t e other vector
  pub value : s ≡ carried_sign (without_element e t) e other vector (sign_among n before (replaced other e t))

-- some vector is zero on t without e, and on all elements below e
pub record IsLeastAt (members : List (List Sign)) (t : List ℕ) (e : ℕ) : Type 0 where
  pub vector : List Sign
  pub member : Contains members vector
  pub missed : IsNonzeroOn (without_element e t) vector → ⊥
  pub zero : (h : ℕ) → 1 ≤ h → h < e → at_element vector h ≡ Zero

-- no sign is carried to t over its element e: t without e meets each vector, or no smaller element takes the place of e
abbrev pub HasNoneCarried : List (List Sign) → List ℕ → ℕ → Type 0
HasNoneCarried members t e = IsMember e t → MeetsEach members (without_element e t) ⊎ IsLeastAt members t e

-- the map equals each normal chirotope of the list that has its rank
abbrev pub IsEachNormalOf : ℕ → List (List Sign) → SignMap → Type 0
IsEachNormalOf n members map = (m : SignMap) → IsNormalOf n members m → m.rank ≡ map.rank → map ≡ m
