-- Marks of the sets that contain a basis.
--
-- Main definitions: AreBasesMarkedBelow, AreMarkedUpTo
-- Main results: mark_kept, basis_marked, all_marked, none_marked, mark_only, basis_in_itself, nothing_above,
-- above_more, all_above; turn_marked and turn_left_out, for a walk over the sets
use Rattle.std.specs.Prelude.{ℕ, ◌≡◌, ◌≢◌, ◌+◌, ◌-◌, ◌*◌, ◌/◌, ◌%◌, ◌<◌, ◌≤◌, ◌^◌, ◌⊎◌}
use Rattle.std.specs.Prelude.{◌↔◌, List, [], ◌∷◌, ◌++◌, length}
use Rattle.std.specs.Int.{bit_at}
use Rattle.std.proofs.Common.{refl, sym, ◌∙◌, ap, arith, inl, inr, subst, get_or}
use Rattle.std.proofs.lemmas.Bool.{cases_eq}
use Rattle.std.proofs.lemmas.List.{length-append}
use Rattle.std.proofs.lemmas.Nat.Bits.{bit_at_above, bit_at-zero, same_from_bits_below}
use Rattle.om_signs.specs.declared.sign.Sign.TheVariants.{Zero}
use Rattle.om_signs.specs.SignVec.{IsMaskOf}
use Rattle.om_signs.proofs.Bits.{not_zero_and_one, bit_one_or_zero}
use Rattle.om_subsets.specs.Subsets.{choose, rank_of, IsSubsetFrom, IsMember}
use Rattle.om_subsets.specs.Members.{Chosen, mask_of}
use Rattle.om_subsets.proofs.Masks.{mask_of-lt, members-mask_of, bits_are_members}
use Rattle.om_subsets.proofs.Order.{members_from, rank_from-lt, same_place}
use Rattle.om_subsets.proofs.SetChains.{IsTurn}
use Rattle.om_laws.proofs.MemberLaws.{member_or_not}
use Rattle.om_chirotope.specs.Map.{SignMap, value_of}
use Rattle.om_chirotope.specs.ThreeTerm.{IsBasis}
use Rattle.om_chirotope.specs.Marks.{mark_at, IsMarked, IsSpread, IsSpreadFrom}
use Rattle.om_chirotope.specs.Pictures.{AreMarked, AreMarkedAbove, HasBasisIn, IsInMask}
use Rattle.om_chirotope.proofs.WordBits.{add_bit_other, take_bit}

-- a mark at each basis among the first k sets of its size
pub record AreBasesMarkedBelow (m : SignMap) (words : List ℕ) (k : ℕ) : Type 0 where
  pub room : 2 ^ m.elements ≤ 64 * length words
  pub bases : (b : List ℕ) → IsBasis m b → rank_of m.elements b < k → IsMarked words (mask_of 1 b m.elements)
  pub only : (mask : ℕ) → IsMarked words mask → HasBasisIn m mask

-- a mark at each set that has, beside the elements of a basis, only elements up to a limit
pub record AreMarkedUpTo (m : SignMap) (words : List ℕ) (limit : ℕ) : Type 0 where
  pub room : 2 ^ m.elements ≤ 64 * length words
  pub above : (mask : ℕ) (b : List ℕ) → mask < 2 ^ m.elements → IsBasis m b → IsInMask b mask
      → ((i : ℕ) → limit ≤ i → bit_at mask i ≡ 1 → IsMember (i + 1) b) → IsMarked words mask
  pub only : (mask : ℕ) → IsMarked words mask → HasBasisIn m mask

-- ---- marks of bases

-- a mark more keeps each mark
pub mark_kept : (words words' : List ℕ) (i j : ℕ) → IsMarked words' i → (j ≢ i → mark_at words' j ≡ mark_at words j)
    → IsMarked words j → IsMarked words' j
mark_kept words words' i j here others h = elim (cases_eq j i) [
  | inl q ↦ subst (IsMarked words') (sym q) here
  | inr n ↦ others n ∙ h
]

pub basis_marked : (m : SignMap) (words words' : List ℕ) (b : List ℕ) (k : ℕ) → IsSubsetFrom 1 m.elements b
    → length b ≡ m.rank → rank_of m.elements b ≡ k → length words' ≡ length words
    → ((j : ℕ) → IsMarked words j → IsMarked words' j) → (IsBasis m b → IsMarked words' (mask_of 1 b m.elements))
    → ((j : ℕ) → IsMarked words' j → HasBasisIn m j) → AreBasesMarkedBelow m words k
    → AreBasesMarkedBelow m words' (k + 1)
basis_marked m words words' b k hb lb rb len keeps here only all =
    record { room = (let r = all.room in omega arith); bases = bases; only = only }
  where
    bases : (c : List ℕ) → IsBasis m c → rank_of m.elements c < k + 1 → IsMarked words' (mask_of 1 c m.elements)
    bases c basis l = elim (cases_eq (rank_of m.elements c) k) [
      | inl e ↦
          let same : c ≡ b = same_place m.elements c b basis.list hb (basis.size ∙ sym lb) (e ∙ sym rb) in
          subst (λ x. IsMarked words' (mask_of 1 x m.elements)) (sym same) (here (subst (IsBasis m) same basis))
      | inr n ↦ keeps (mask_of 1 c m.elements) (all.bases c basis (omega arith))
    ]

pub all_marked : (m : SignMap) (words : List ℕ) (k : ℕ) → choose m.elements m.rank ≤ k → AreBasesMarkedBelow m words k
    → AreMarked m words
all_marked m words k le all = record {
  room = all.room;
  bases = λ b basis.
      let few : rank_of m.elements b < choose m.elements m.rank =
      subst (λ i. rank_of m.elements b < choose m.elements i) basis.size (rank_from-lt 1 m.elements b basis.list)
      in
      all.bases b basis (omega arith);
  only = all.only;
}

pub none_marked : (m : SignMap) (words : List ℕ) → 2 ^ m.elements ≤ 64 * length words → ((i : ℕ) → get_or words i 0 ≡ 0)
    → AreBasesMarkedBelow m words 0
none_marked m words room clear = record {
  room = room;
  bases = λ b basis l. absurd (omega arith);
  only = λ mask h. absurd
      (not_zero_and_one (mark_at words mask)
      (ap (λ w. bit_at w (mask % 64)) (clear (mask / 64)) ∙ bit_at-zero (mask % 64)) h);
}

-- a mark more says no more than there is
pub mark_only : (m : SignMap) (words words' : List ℕ) (i : ℕ) → HasBasisIn m i
    → ((j : ℕ) → j ≢ i → mark_at words' j ≡ mark_at words j) → ((j : ℕ) → IsMarked words j → HasBasisIn m j) → (j : ℕ)
    → IsMarked words' j → HasBasisIn m j
mark_only m words words' i here others only j h = elim (cases_eq j i) [
  | inl q ↦ subst (HasBasisIn m) (sym q) here
  | inr n ↦ only j (sym (others j n) ∙ h)
]

-- ---- marks of the sets that contain a basis

mask_bits : (n : ℕ) (b : List ℕ) → IsSubsetFrom 1 n b → IsMaskOf n (λ i. IsMember (i + 1) b) (mask_of 1 b n)
mask_bits n b h = subst (λ x. IsMaskOf n (λ i. IsMember (i + 1) x) (mask_of 1 b n)) (members-mask_of 1 n b h)
    (bits_are_members (mask_of 1 b n) n (mask_of-lt 1 n b))

-- a basis is in the set of its own mask
pub basis_in_itself : (m : SignMap) (b : List ℕ) (mask : ℕ) → mask ≡ mask_of 1 b m.elements → IsBasis m b
    → HasBasisIn m mask
basis_in_itself m b mask q basis = (
  b,
  basis,
  λ i k.
      let bits = mask_bits m.elements b basis.list in
      let bound = (members_from 1 m.elements (i + 1) b basis.list k).1 in
      ap (λ x. bit_at x i) q ∙ (bits.holds i (omega arith)).1 k,
)

-- the only set that has a basis in it, and nothing else, is the basis itself
pub nothing_above : (m : SignMap) (words : List ℕ) → AreMarked m words → AreMarkedUpTo m words 0
nothing_above m words h = record { room = h.room; above = above; only = h.only }
  where
    above : (mask : ℕ) (b : List ℕ) → mask < 2 ^ m.elements → IsBasis m b → IsInMask b mask
        → ((i : ℕ) → 0 ≤ i → bit_at mask i ≡ 1 → IsMember (i + 1) b) → IsMarked words mask
    above mask b within basis inside each =
        let bits = mask_bits m.elements b basis.list in
        let same : mask_of 1 b m.elements ≡ mask =
        same_from_bits_below m.elements (mask_of 1 b m.elements) mask bits.within within
        (λ i l. same_bit i (bits.holds i l)) in
        subst (IsMarked words) same (h.bases b basis)
      where
        same_bit : (i : ℕ) → (bit_at (mask_of 1 b m.elements) i ≡ 1) ↔ IsMember (i + 1) b
            → bit_at (mask_of 1 b m.elements) i ≡ bit_at mask i
        same_bit i holds = elim (bit_one_or_zero mask i) [
          | inl o ↦ holds.1 (each i (omega arith) o) ∙ sym o
          | inr z ↦ elim (bit_one_or_zero (mask_of 1 b m.elements) i) [
            | inl o ↦ absurd (not_zero_and_one (bit_at mask i) z (inside i (holds.0 o)))
            | inr z2 ↦ z2 ∙ sym z
          ]
        ]

pub above_more : (m : SignMap) (words words' : List ℕ) (e : ℕ) → IsSpread words words' e → AreMarkedUpTo m words e
    → AreMarkedUpTo m words' (e + 1)
above_more m words words' e spread all =
    record {
      room = (let r = all.room in let s = spread.size in omega arith);
      above = above;
      only =
          λ mask h. from mask (spread.only mask h);
    }
  where
    from : (mask : ℕ) → IsMarked words mask ⊎ IsSpreadFrom words mask e → HasBasisIn m mask
    from mask (inl k) = all.only mask k
    from mask (inr (t, sum, z, k)) = more (all.only t k)
      where
        more : HasBasisIn m t → HasBasisIn m mask
        more (b, basis, inside) = (
          b,
          basis,
          λ j k. elim (cases_eq j e) [
            | inl q ↦ absurd (not_zero_and_one (bit_at t j) (ap (bit_at t) q ∙ z) (inside j k))
            | inr n ↦ sym (ap (λ s. bit_at s j) sum) ∙ add_bit_other t e j z n ∙ inside j k
          ],
        )

    -- with e in the basis or not in the set, nothing is added
    before : (mask : ℕ) (b : List ℕ) → mask < 2 ^ m.elements → IsBasis m b → IsInMask b mask
        → ((i : ℕ) → e + 1 ≤ i → bit_at mask i ≡ 1 → IsMember (i + 1) b) → (bit_at mask e ≡ 1 → IsMember (e + 1) b)
        → IsMarked words' mask
    before mask b within basis inside each here =
        spread.keeps mask (all.above mask b within basis inside (λ i l one. elim (cases_eq i e) [
          | inl q ↦ subst (λ j. IsMember (j + 1) b) (sym q) (here (ap (bit_at mask) (sym q) ∙ one))
          | inr n ↦ each i (omega arith) one
        ]))

    added : (mask : ℕ) (b : List ℕ) → mask < 2 ^ m.elements → IsBasis m b → IsInMask b mask
        → ((i : ℕ) → e + 1 ≤ i → bit_at mask i ≡ 1 → IsMember (i + 1) b) → bit_at mask e ≡ 1 → (IsMember (e + 1) b → ⊥)
        → IsMarked words' mask
    added mask b within basis inside each one out =
        let t = take_bit mask e one in
        let le = t.0 in
        let sum : mask - 2 ^ e + 2 ^ e ≡ mask = omega arith in
        let room = all.room in
        let same : (j : ℕ) → j ≢ e → bit_at (mask - 2 ^ e) j ≡ bit_at mask j =
        (λ j n. sym (add_bit_other (mask - 2 ^ e) e j t.1 n) ∙ ap (λ s. bit_at s j) sum) in
        let low : IsMarked words (mask - 2 ^ e) = all.above (mask - 2 ^ e) b (omega arith) basis
        (λ j k. same j (λ q. out (subst (λ i. IsMember (i + 1) b) q k)) ∙ inside j k)
        (λ i l on. elim (cases_eq i e) [
          | inl q ↦ absurd (not_zero_and_one (bit_at (mask - 2 ^ e) i) (ap (bit_at (mask - 2 ^ e)) q ∙ t.1) on)
          | inr n ↦ each i (omega arith) (sym (same i n) ∙ on)
        ]) in
        subst (IsMarked words') sum (spread.adds (mask - 2 ^ e) t.1 (omega arith) low)

    above : (mask : ℕ) (b : List ℕ) → mask < 2 ^ m.elements → IsBasis m b → IsInMask b mask
        → ((i : ℕ) → e + 1 ≤ i → bit_at mask i ≡ 1 → IsMember (i + 1) b) → IsMarked words' mask
    above mask b within basis inside each = elim (bit_one_or_zero mask e) [
      | inl one ↦ elim (member_or_not (e + 1) b) [
        | inl k ↦ before mask b within basis inside each (λ o. k)
        | inr out ↦ added mask b within basis inside each one out
      ]
      | inr z ↦ before mask b within basis inside each (λ one. absurd (not_zero_and_one (bit_at mask e) z one))
    ]

pub all_above : (m : SignMap) (words : List ℕ) (e : ℕ) → m.elements ≤ e → AreMarkedUpTo m words e
    → AreMarkedAbove m words
all_above m words e le all = record {
  room = all.room;
  above = λ mask b within basis inside. all.above mask b within basis inside
      (λ i l one. absurd (not_zero_and_one (bit_at mask i) (bit_at_above mask m.elements i within (omega arith)) one));
  only = all.only;
}

-- ---- the turns of a walk over the sets

-- a turn marks its set, which is a basis
pub turn_marked : {X : Type 0} (m : SignMap) (words marked : List ℕ) (xs : List X) (x : X) (mask : ℕ) (b : Chosen)
    → IsTurn m.elements m.rank (length xs) b
    → mask ≡ mask_of 1 b.elements b.n → (value_of m b.elements ≢ Zero) → length marked ≡ length words
    → IsMarked marked mask → ((j : ℕ) → j ≢ mask → mark_at marked j ≡ mark_at words j)
    → AreBasesMarkedBelow m words (length xs) → AreBasesMarkedBelow m marked (length (xs ++ x ∷ []))
turn_marked m words marked xs x mask b turn e nonzero size here others all =
    let at = turn.at in
    let same : mask ≡ mask_of 1 b.elements m.elements = e ∙ ap (λ n. mask_of 1 b.elements n) at.n_is in
    rw (length-append xs (x ∷ []))
    (basis_marked m words marked b.elements (length xs) at.list at.size (at.place turn.inside) size
    (λ j h. mark_kept words marked mask j here (others j) h) (λ basis. subst (IsMarked marked) same here)
    (mark_only m words marked mask
    (basis_in_itself m b.elements mask same (record { list = at.list; size = at.size; nonzero = nonzero }))
    others all.only) all)

-- a turn leaves out its set, which is no basis
pub turn_left_out : {X : Type 0} (m : SignMap) (words : List ℕ) (xs : List X) (x : X) (b : Chosen)
    → IsTurn m.elements m.rank (length xs) b → (value_of m b.elements ≢ Zero → ⊥)
    → AreBasesMarkedBelow m words (length xs) → AreBasesMarkedBelow m words (length (xs ++ x ∷ []))
turn_left_out m words xs x b turn zero all =
    let at = turn.at in
    rw (length-append xs (x ∷ []))
    (basis_marked m words words b.elements (length xs) at.list at.size (at.place turn.inside) refl (λ j h. h)
    (λ basis. absurd (zero basis.nonzero)) all.only all)
