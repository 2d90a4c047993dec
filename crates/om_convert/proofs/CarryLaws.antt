-- The signs of the normal chirotope of a list of cocircuits: that of a basis from that of one before it, and that of
-- the first basis.
--
-- Main results: rest_misses, other_nonzero, other_fresh, carried_is, first_is_plus, earlier_place, zero_sign,
-- carried_value, plus_sign, none_more, none_all
-- Reference: Björner, Las Vergnas, Sturmfels, White and Ziegler, Oriented Matroids, chapter 3.
use Rattle.std.specs.Prelude.{ℕ, ◌≡◌, ◌≢◌, ◌+◌, ◌<◌, ◌≤◌, List, [], ◌∷◌, ◌++◌, length, refl}
use Rattle.std.specs.List.{Contains}
use Rattle.std.proofs.Common.{sym, ap, subst, ◌∙◌, ⊎_elim, inl, inr, arith}
use Rattle.std.proofs.lemmas.Bool.{cases_eq, cases_lt}
use Rattle.std.proofs.lemmas.List.{length-append}
use Rattle.om_signs.specs.declared.sign.Sign.{Sign}
use Rattle.om_signs.specs.declared.sign.Sign.TheVariants.{Zero, Plus}
use Rattle.om_signs.specs.Sign.{product}
use Rattle.om_signs.specs.SignVec.{at, at_element}
use Rattle.om_signs.proofs.SignLaws.{zero_or_nonzero, plus_nonzero, right_factor_nonzero, product_nonzero}
use Rattle.om_subsets.specs.Subsets.{IsSubsetFrom, IsMember, with_element, without_element, count_above, rank_of}
use Rattle.om_subsets.specs.Subsets.{choose, subset_at}
use Rattle.om_subsets.specs.Lists.{IsBefore}
use Rattle.om_subsets.proofs.OneElement.{subset_without, with_without}
use Rattle.om_subsets.proofs.Order.{members_from, lexicographic, listed, rank_from-lt}
use Rattle.om_subsets.proofs.Statements.{members_without}
use Rattle.om_laws.specs.Signs.{IsNonzero}
use Rattle.om_laws.specs.Vectors.{AreEqualUpToSign}
use Rattle.om_laws.specs.Tuples.{sorted}
use Rattle.om_laws.specs.Sorting.{IsElement, IsTuple}
use Rattle.om_laws.specs.Relations.{along}
use Rattle.om_laws.specs.Chirotope.{elements_to}
use Rattle.om_laws.specs.Circuits.{IsCocircuit}
use Rattle.om_laws.specs.Bridge.{as_function}
use Rattle.om_laws.proofs.MemberLaws.{member_last}
use Rattle.om_laws.proofs.TupleSizes.{each_from, on_tuples_at}
use Rattle.om_laws.proofs.FundamentalCircuits.{along_member_zero}
use Rattle.om_laws.proofs.VectorLaws.{same_products, same_zero, same_sym}
use Rattle.om_chirotope.specs.Map.{SignMap, chi_of, parity_sign}
use Rattle.om_chirotope.proofs.Circuits.{length-without}
use Rattle.om_chirotope.proofs.Cocircuits.{sorted_end, insert_with, sign_end, length-with}
use Rattle.om_chirotope.proofs.InOrder.{value_in_order}
use Rattle.om_chirotope.proofs.Theory.{lawful_with}
use Rattle.om_matroid.specs.Bases.{IsExchange}
use Rattle.om_chirotope.specs.ThreeTerm.{IsBasis}
use Rattle.om_matroid.proofs.ExchangeLaws.{symmetric_exchange}
use Rattle.om_denotation.proofs.ChirotopeBridge.{tuples_of}
use Rattle.om_denotation.proofs.ListFunctions.{place_function}
use Rattle.om_convert.specs.Hitting.{IsNonzeroOn, MeetsEach, MissesOne, IsNormalOf, carried_sign, IsCarried}
use Rattle.om_convert.specs.Hitting.{HasNoneCarried, AreFirstSigns, IsCarrier, replaced}
use Rattle.om_convert.proofs.HittingLaws.{vanishing_same}
use Rattle.om_convert.proofs.SetLaws.{exchanged_before, first_new, IsFirstNew}
use Rattle.om_convert.proofs.MeetingBases.{parity_nonzero, carry, met_list, om, of_member, basis_meets, meets_all}
use Rattle.om_convert.proofs.MeetingBases.{meeting_basis}

module _ (n : ℕ) (members : List (List Sign)) (m : SignMap) (h : IsNormalOf n members m) where
  abbrev E : List ℕ
  E = elements_to m.elements

  abbrev chi : List ℕ → Sign
  chi = tuples_of m

  -- ---- a basis without an element, and another element

  module _ (t : List ℕ) (list : IsSubsetFrom 1 m.elements t) (size : length t ≡ m.rank) (e : ℕ)
      (inside : IsMember e t) where
    abbrev rest : List ℕ
    rest = without_element e t

    rest_list : IsSubsetFrom 1 m.elements rest
    rest_list = subset_without 1 m.elements e t list

    rest_size : length rest + 1 ≡ m.rank
    rest_size = length-without 1 m.elements e t list inside ∙ size

    own : IsMember e rest → ⊥
    own k = ((members_without e e t).0 k).0 refl

    -- the value of the rest with an element behind it
    value_behind : (g : ℕ) → 1 ≤ g → g ≤ m.elements → (IsMember g rest → ⊥)
        → chi (rest ++ g ∷ []) ≡ product (parity_sign (count_above g rest)) (chi_of m (with_element g rest))
    value_behind g low high fresh =
        let s = rest_size in
        let k = length-append rest (g ∷ []) in
        let one : length (g ∷ []) ≡ 1 = refl in
        let tuple : IsTuple m.elements m.rank (rest ++ g ∷ []) = record {
          size = omega (arith, s, k, one);
          within = each_from (IsElement m.elements) (rest ++ g ∷ []) (λ x j. ⊎_elim
              (λ i. let b = members_from 1 m.elements x rest rest_list i in let lo = b.0 in let hi = b.1 in
              (lo, omega (arith, hi)))
              (λ q. subst (IsElement m.elements) (sym q) (low, high))
              (member_last x g rest j));
        } in
        on_tuples_at m.elements m.rank (chi_of m) (rest ++ g ∷ []) tuple
        ∙ ap (λ x. product x (chi_of m (sorted (rest ++ g ∷ [])))) (sign_end 1 m.elements g rest rest_list fresh)
        ∙ ap (λ x. product (parity_sign (count_above g rest)) (chi_of m x))
        (sorted_end 1 m.elements g rest rest_list fresh ∙ insert_with g rest fresh)

    bounds : (1 ≤ e) × (e ≤ m.elements)
    bounds = let b = members_from 1 m.elements e t list inside in let lo = b.0 in let hi = b.1 in
        (lo, omega (arith, hi))

    own_value : chi (rest ++ e ∷ []) ≡ product (parity_sign (count_above e rest)) (chi_of m t)
    own_value = value_behind e bounds.0 bounds.1 own
        ∙ ap (λ x. product (parity_sign (count_above e rest)) (chi_of m x)) (with_without 1 m.elements e t list inside)

    module _ (basis : chi_of m t ≢ Zero) where
      own_nonzero : IsNonzero (chi (rest ++ e ∷ []))
      own_nonzero =
          subst IsNonzero (sym own_value)
          (product_nonzero (parity_sign (count_above e rest)) (chi_of m t) (parity_nonzero (count_above e rest)) basis)

      -- some member is zero on the rest
      pub rest_misses : MeetsEach members rest → ⊥
      rest_misses each =
          let f : IsCocircuit chi (along chi rest) =
          record { tuple = rest; nonzero = (e, own_nonzero); same = inl (λ g. refl) } in
          let k = meets_all n members m h rest rest_list each (along chi rest) f in
          k.2 (along_member_zero E chi (om n members m h) rest k.0 k.1)

      module _ (Y : List Sign) (y : Contains members Y) (missed : IsNonzeroOn rest Y → ⊥) where
        same : AreEqualUpToSign (as_function Y) (along chi rest)
        same = vanishing_same E chi (om n members m h) rest e own_nonzero (as_function Y) (of_member n members m h Y y)
            (λ g k. ⊎_elim (λ z. z) (λ nz. absurd (missed (met_list rest Y (g, k, nz))))
            (zero_or_nonzero (as_function Y g)))

        -- nonzero exactly where the rest with the element is a basis
        pub other_nonzero : (g : ℕ) → 1 ≤ g → g ≤ m.elements → (IsMember g rest → ⊥)
            → chi_of m (with_element g rest) ≢ Zero → at_element Y g ≢ Zero
        other_nonzero g low high fresh k z =
            let behind : IsNonzero (chi (rest ++ g ∷ [])) =
            subst IsNonzero (sym (value_behind g low high fresh))
            (product_nonzero (parity_sign (count_above g rest)) (chi_of m (with_element g rest))
            (parity_nonzero (count_above g rest)) k) in
            behind (same_zero (along chi rest) (as_function Y) (same_sym (as_function Y) (along chi rest) same) g
            (sym (place_function Y g low) ∙ z))

        pub other_fresh : (g : ℕ) → at_element Y g ≢ Zero → IsMember g rest → ⊥
        other_fresh g k j = missed (g, j, k)

        pub carried_is : (g : ℕ) → 1 ≤ g → g ≤ m.elements → at_element Y g ≢ Zero
            → carried_sign rest e g Y (chi_of m (with_element g rest)) ≡ chi_of m t
        carried_is g low high k =
            let fresh = other_fresh g k in
            let behind : IsNonzero (chi (rest ++ g ∷ [])) =
            (λ z. k (place_function Y g low ∙ same_zero (as_function Y) (along chi rest) same g z)) in
            let other : IsNonzero (chi_of m (with_element g rest)) =
            right_factor_nonzero (parity_sign (count_above g rest)) (chi_of m (with_element g rest))
            (subst IsNonzero (value_behind g low high fresh) behind) in
            let products : product (at_element Y e) (at_element Y g)
            ≡ product (chi (rest ++ e ∷ [])) (chi (rest ++ g ∷ [])) =
            ap (λ x. product x (at_element Y g)) (place_function Y e bounds.0)
            ∙ ap (product (as_function Y e)) (place_function Y g low)
            ∙ same_products (as_function Y) (along chi rest) same e g in
            carry (parity_sign (count_above e rest)) (parity_sign (count_above g rest)) (chi_of m (with_element g rest))
            (chi_of m t) (at_element Y e) (at_element Y g)
            (parity_nonzero (count_above e rest)) (parity_nonzero (count_above g rest)) other
            (products ∙ ap (λ x. product x (chi (rest ++ g ∷ []))) own_value
            ∙ ap (product (product (parity_sign (count_above e rest)) (chi_of m t)))
            (value_behind g low high fresh))

  -- ---- the first basis

  module _ (t : List ℕ) (list : IsSubsetFrom 1 m.elements t) (size : length t ≡ m.rank) (basis : chi_of m t ≢ Zero)
      (none : (e : ℕ) → IsMember e t → HasNoneCarried members t e) where
    basis_from : (b : List ℕ) → IsSubsetFrom 1 m.elements b → length b ≡ m.rank → chi_of m b ≢ Zero → IsBasis m b
    basis_from b l s k =
        record { list = l; size = s; nonzero = λ z. k (sym (value_in_order 1 m.elements (chi_of m) b l) ∙ z) }

    no_earlier : (b : List ℕ) → IsSubsetFrom 1 m.elements b → length b ≡ m.rank → chi_of m b ≢ Zero → IsBefore b t → ⊥
    no_earlier b l s k before = against (first_new 1 m.elements b t l list (s ∙ sym size) before)
      where
        against : IsFirstNew b t → ⊥
        against r =
            changed (symmetric_exchange m h.axioms b t r.element (basis_from b l s k) (basis_from t list size basis)
            r.inside r.outside)
          where
            changed : (f : ℕ) × IsExchange m b t r.element f × IsBasis m (with_element r.element (without_element f t))
                → ⊥
            changed (f, x, y) = ⊎_elim
                (λ each. rest_misses t list size f x.inside basis each)
                (λ least.
                let b1 = members_from 1 m.elements r.element b l r.inside in
                let lo = b1.0 in
                let hi = b1.1 in
                other_nonzero t list size f x.inside basis least.vector least.member least.missed r.element lo
                (omega (arith, hi))
                (λ j. r.outside ((members_without f r.element t).0 j).1)
                (λ z. y.nonzero
                (value_in_order 1 m.elements (chi_of m) (with_element r.element (without_element f t)) y.list ∙ z))
                (least.zero r.element lo (r.less f x.inside x.outside)))
                (none f x.inside x.inside)

    pub first_is_plus : chi_of m t ≡ Plus
    first_is_plus = by_leader h.normal.0 h.normal.1 h.normal.2
      where
        place_below : rank_of m.elements t < choose m.elements m.rank
        place_below = subst (λ k. rank_of m.elements t < choose m.elements k) size (rank_from-lt 1 m.elements t list)

        by_leader : (k : ℕ) → at m.signs k ≡ Plus → ((j : ℕ) → j < k → at m.signs j ≡ Zero) → chi_of m t ≡ Plus
        by_leader k plus zeros = elim (cases_lt (rank_of m.elements t) k) [
          | inl lt ↦ absurd (basis (zeros (rank_of m.elements t) lt))
          | inr ge ↦ elim (cases_eq k (rank_of m.elements t)) [
            | inl q ↦ ap (at m.signs) (sym q) ∙ plus
            | inr ne ↦
                let few : k < choose m.elements m.rank = omega (arith, place_below, ge) in
                let f = listed 1 m.elements m.rank k few in
                let b = subset_at m.elements m.rank k in
                let at_k : chi_of m b ≡ Plus = ap (at m.signs) f.place ∙ plus in
                let earlier : rank_of m.elements b < rank_of m.elements t = let p = f.place in
                omega (arith, p, ge, ne) in
                absurd (no_earlier b f.lawful f.size (λ z. plus_nonzero (sym at_k ∙ z))
                ((lexicographic 1 m.elements b t f.lawful list (f.size ∙ sym size)).1 earlier))
          ]
        ]

-- ---- the signs of the code

pub earlier_place : (n : ℕ) (t : List ℕ) (e h : ℕ) → IsSubsetFrom 1 n t → IsMember e t → 1 ≤ h → h < e
    → (IsMember h (without_element e t) → ⊥)
    → rank_of n (with_element h (without_element e t)) < rank_of n t
earlier_place n t e h list inside low below fresh =
    let b = members_from 1 n e t list inside in
    let high = b.1 in
    let rest = subset_without 1 n e t list in
    let lawful = lawful_with 1 n h (without_element e t) rest low (omega (arith, high, below)) in
    let size = length-with h (without_element e t) fresh ∙ length-without 1 n e t list inside in
    (lexicographic 1 n (with_element h (without_element e t)) t lawful list size).0
    (exchanged_before 1 n e h t list inside below fresh)

-- a set from which a sign is carried to t comes before t, for `sign_over`
pub carrier_earlier : (n : ℕ) (members : List (List Sign)) (t : List ℕ) (e h : ℕ) (y : List Sign) → IsSubsetFrom 1 n t
    → IsMember e t → IsCarrier members t e h y → rank_of n (replaced h e t) < rank_of n t
carrier_earlier n members t e h y list inside c =
    earlier_place n t e h list inside c.low c.below (λ m. c.missed (h, m, c.nonzero))

pub zero_sign : (n : ℕ) (members : List (List Sign)) (t : List ℕ) (k : ℕ) → IsSubsetFrom 1 n t → rank_of n t ≡ k
    → MissesOne (Contains members) t → (m : SignMap) → IsNormalOf n members m → m.rank ≡ length t
    → Zero ≡ at m.signs k
zero_sign n members t k list at_element misses m h r =
    subst (λ i. IsSubsetFrom 1 i t → rank_of i t ≡ k → IsNormalOf i members m → Zero ≡ at m.signs k) h.elements
    (λ l p g. sym
    (⊎_elim (λ z. z) (λ nz. absurd (misses.2 (basis_meets m.elements members m g t l (sym r) nz misses.0 misses.1)))
    (zero_or_nonzero (chi_of m t))) ∙ ap (at m.signs) p)
    list at_element h

pub carried_value : (n : ℕ) (members : List (List Sign)) (before : List Sign) (t : List ℕ) (e : ℕ) (s : Sign)
    → IsSubsetFrom 1 n t → MeetsEach members t → rank_of n t ≡ length before
    → AreFirstSigns n (length t) members before → IsCarried n members before t e s → (m : SignMap)
    → IsNormalOf n members m → m.rank ≡ length t → s ≡ at m.signs (length before)
carried_value n members before t e s list each at_element first carried m h r =
    subst (λ i. IsSubsetFrom 1 i t → rank_of i t ≡ length before → AreFirstSigns i (length t) members before
    → IsCarried i members before t e s → IsNormalOf i members m → s ≡ at m.signs (length before)) h.elements
    inner list at_element first carried h
  where
    inner : IsSubsetFrom 1 m.elements t → rank_of m.elements t ≡ length before
        → AreFirstSigns m.elements (length t) members before → IsCarried m.elements members before t e s
        → IsNormalOf m.elements members m
        → s ≡ at m.signs (length before)
    inner l p f c g =
        let basis = meeting_basis m.elements members m g t l (sym r) each in
        let fresh = other_fresh m.elements members m g t l (sym r) e c.inside basis c.vector c.carrier.member
        c.carrier.missed c.other c.carrier.nonzero in
        let b = members_from 1 m.elements e t l c.inside in
        let high = b.1 in
        let low = c.carrier.low in
        let below = c.carrier.below in
        let few : rank_of m.elements (with_element c.other (without_element e t)) < length before =
        subst (λ k. rank_of m.elements (with_element c.other (without_element e t)) < k) p
        (earlier_place m.elements t e c.other l c.inside low below fresh) in
        c.value
        ∙ ap (carried_sign (without_element e t) e c.other c.vector)
        (f m g r (rank_of m.elements (with_element c.other (without_element e t))) few)
        ∙ carried_is m.elements members m g t l (sym r) e c.inside basis c.vector c.carrier.member c.carrier.missed
        c.other low (omega (arith, high, below)) c.carrier.nonzero
        ∙ ap (at m.signs) p

pub plus_sign : (n : ℕ) (members : List (List Sign)) (t : List ℕ) (k : ℕ) → IsSubsetFrom 1 n t → MeetsEach members t
    → rank_of n t ≡ k → ((e : ℕ) → IsMember e t → HasNoneCarried members t e)
    → (m : SignMap) → IsNormalOf n members m → m.rank ≡ length t → Plus ≡ at m.signs k
plus_sign n members t k list each at_element none m h r =
    subst (λ i. IsSubsetFrom 1 i t → rank_of i t ≡ k → IsNormalOf i members m → Plus ≡ at m.signs k) h.elements
    (λ l p g. sym
    (first_is_plus m.elements members m g t l (sym r) (meeting_basis m.elements members m g t l (sym r) each) none)
    ∙ ap (at m.signs) p)
    list at_element h

-- one element fewer is left, and no sign is carried over it
pub none_more : (n : ℕ) (members : List (List Sign)) (t : List ℕ) (e k : ℕ) → k + 1 ≡ e
    → ((f : ℕ) → e ≤ f → f ≤ n → HasNoneCarried members t f) → HasNoneCarried members t k → (f : ℕ) → k ≤ f → f ≤ n
    → HasNoneCarried members t f
none_more n members t e k next old new f low high = elim (cases_eq f k) [
  | inl q ↦ subst (HasNoneCarried members t) (sym q) new
  | inr ne ↦ old f (omega (arith, next, low, ne)) high
]

-- no element is left
pub none_all : (n : ℕ) (members : List (List Sign)) (t : List ℕ) (e : ℕ) → IsSubsetFrom 1 n t → e ≤ 1
    → ((f : ℕ) → e ≤ f → f ≤ n → HasNoneCarried members t f) → (f : ℕ) → IsMember f t → HasNoneCarried members t f
none_all n members t e list le all f m = let b = members_from 1 n f t list m in let low = b.0 in let high = b.1 in
    all f (omega (arith, low, le)) (omega (arith, high))
