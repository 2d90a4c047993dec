-- Which bases a vector's support meets, by the marks of the sets off it.
--
-- Main definitions: off_support
-- Main results: off_support_lt, met_of_mark, met_of_zero, not_met, met_of_exchange, exchange_of_met, table_length
use Rattle.std.specs.Prelude.{ℕ, ◌≡◌, ◌≢◌, ◌+◌, ◌-◌, ◌*◌, ◌%◌, ◌<◌, ◌≤◌, ◌^◌, ◌⊎◌, List, [], ◌∷◌, ◌++◌, length, refl}
use Rattle.std.specs.Prelude.{bit_and}
use Rattle.std.specs.Int.{bit_at}
use Rattle.std.proofs.Common.{sym, ◌∙◌, ap, arith, inl, inr, subst, get_or}
use Rattle.std.proofs.lemmas.Bool.{cases_lt}
use Rattle.std.proofs.lemmas.Nat.{and_le_l}
use Rattle.std.proofs.Math.Pow.{pow_mono, pow_pos}
use Rattle.std.proofs.lemmas.Nat.Bits.{bit_at_above, bit_at_ones}
use Rattle.om_signs.specs.declared.limits.TheConstants.{MAX_PLACES}
use Rattle.om_signs.specs.declared.sign.Sign.{Sign}
use Rattle.om_signs.specs.declared.sign.Sign.TheVariants.{Zero}
use Rattle.om_signs.specs.SignVec.{at, at_element, IsMaskOf, IsInSupport}
use Rattle.om_signs.proofs.Bits.{bit_at_and_not, one_shl_32, some_bit, zero_has_no_bit, bit_one_or_zero}
use Rattle.om_signs.proofs.SignLaws.{zero_or_nonzero}
use Rattle.om_subsets.specs.Subsets.{rank_of, subset_at, IsSubsetFrom, IsMember}
use Rattle.om_subsets.proofs.Order.{members_from}
use Rattle.om_laws.specs.Relations.{along}
use Rattle.om_laws.proofs.MemberLaws.{search_members}
use Rattle.om_laws.proofs.BridgeLaws.{length-as_list}
use Rattle.om_chirotope.specs.Map.{SignMap, value_of, cocircuit_vector, cocircuit_vectors}
use Rattle.om_chirotope.specs.ThreeTerm.{HasListExchange}
use Rattle.om_chirotope.specs.Marks.{IsMarked}
use Rattle.om_chirotope.specs.Pictures.{AreMarkedAbove, HasBasisIn, IsMet}
use Rattle.om_chirotope.proofs.Places.{cocircuit_place}
use Rattle.om_chirotope.proofs.Tables.{vector_of_place, length-table, table_at}

-- ---- the vectors U

-- off the support of a vector, as the code has it
abbrev pub off_support : ℕ → ℕ → ℕ
off_support n support = bit_and (1 * 2 ^ n % 4294967296 - 1) (4294967295 - support)

pub off_support_lt : (n support : ℕ) → n ≤ MAX_PLACES → off_support n support < 2 ^ n
off_support_lt n support few =
    let a = and_le_l (1 * 2 ^ n % 4294967296 - 1) (4294967295 - support) in
    let s : 1 * 2 ^ n % 4294967296 ≡ 2 ^ n = one_shl_32 n (omega arith) in
    let p = pow_pos n in
    omega arith

-- an element of the support isn't off it
off_support_bit : (n support j : ℕ) → n ≤ MAX_PLACES → j < n → support < 2 ^ n → bit_at support j ≡ 1
    → bit_at (off_support n support) j ≡ 0
off_support_bit n support j few jn small on =
    let room : 2 ^ n ≤ 2 ^ MAX_PLACES = pow_mono {j = MAX_PLACES} few in
    let p : 0 < 2 ^ n = pow_pos n in
    let shifted : 1 * 2 ^ n % 4294967296 ≡ 2 ^ n = one_shl_32 n (omega (arith, few)) in
    rw shifted (bit_at_and_not (2 ^ n - 1) support j (omega (arith, room, p)) (omega (arith, room, small))
    ∙ rw (bit_at_ones n j jn, on) refl)

pub met_of_mark : (m : SignMap) (words : List ℕ) (u : List Sign) (support : ℕ) → m.elements ≤ MAX_PLACES
    → length u ≡ m.elements → IsMaskOf (length u) (IsInSupport u) support → AreMarkedAbove m words
    → (IsMarked words (off_support m.elements support) → ⊥) → IsMet m u
met_of_mark m words u support few len is all none i l nz b basis =
    elim (search_members (λ f. at_element u f ≢ Zero) (λ f. at_element u f ≡ Zero) decided b) [
      | inl found ↦ found
      | inr zeros ↦
          absurd (none (all.above (off_support m.elements support) b inside_limit basis (λ j k. inside zeros j k)))
    ]
  where
    decided : (f : ℕ) → (at_element u f ≢ Zero) ⊎ (at_element u f ≡ Zero)
    decided f = elim (zero_or_nonzero (at_element u f)) [ inl z ↦ inr z | inr k ↦ inl k ]

    room : 2 ^ m.elements ≤ 2 ^ MAX_PLACES
    room = pow_mono {j = MAX_PLACES} few

    pos : 0 < 2 ^ m.elements
    pos = pow_pos m.elements

    shifted : 1 * 2 ^ m.elements % 4294967296 ≡ 2 ^ m.elements
    shifted = one_shl_32 m.elements (let f = few in omega arith)

    inside_limit : off_support m.elements support < 2 ^ m.elements
    inside_limit = let a = and_le_l (1 * 2 ^ m.elements % 4294967296 - 1) (4294967295 - support) in let s = shifted in
        let p = pos in omega arith

    inside : ((f : ℕ) → IsMember f b → at_element u f ≡ Zero) → (j : ℕ) → IsMember (j + 1) b
        → bit_at (off_support m.elements support) j ≡ 1
    inside zeros j k =
        let bound = (members_from 1 m.elements (j + 1) b basis.list k).1 in
        let jn : j < m.elements = omega (arith, bound) in
        let at_j : j + 1 - 1 ≡ j = omega arith in
        let zero : at u j ≡ Zero = ap (at u) (sym at_j) ∙ zeros (j + 1) k in
        let jl : j < length u = omega (arith, jn, len) in
        let bit : bit_at support j ≡ 0 =
        elim (bit_one_or_zero support j) [ inl o ↦ absurd ((is.holds j jl).0 o zero) | inr z ↦ z ] in
        let within = is.within in
        let r = room in
        let p = pos in
        let small : support < 2 ^ m.elements = subst (λ y. support < 2 ^ y) len within in
        rw shifted (bit_at_and_not (2 ^ m.elements - 1) support j (omega (arith, r, p)) (omega (arith, r, small))
        ∙ rw (bit_at_ones m.elements j jn, bit) refl)

pub met_of_zero : (m : SignMap) (u : List Sign) (support : ℕ) → length u ≡ m.elements
    → IsMaskOf (length u) (IsInSupport u) support → support ≡ 0 → IsMet m u
met_of_zero m u support len is z i l nz b basis =
    let il : i < length u = omega (arith, l, len) in
    absurd (zero_has_no_bit i (sym (ap (λ k. bit_at k i) z) ∙ (is.holds i il).1 nz))

-- where some set off the support of a vector that isn't zero has a basis in it, that basis has no element of the
-- support
pub not_met : (m : SignMap) (u : List Sign) (support : ℕ) → m.elements ≤ MAX_PLACES → length u ≡ m.elements
    → IsMaskOf (length u) (IsInSupport u) support → support ≢ 0 → HasBasisIn m (off_support m.elements support)
    → IsMet m u → ⊥
not_met m u support few len is some (b, basis, inside) met =
    go (some_bit support some (let w = within_32 in omega (arith, w)))
  where
    within_32 : support < 4294967296
    within_32 =
        let w = is.within in
        let room : 2 ^ length u ≤ 2 ^ MAX_PLACES = pow_mono {j = MAX_PLACES} (omega (arith, few, len)) in
        omega (arith, w, room)

    apart : (f : ℕ) → IsMember f b → at_element u f ≢ Zero → ⊥
    apart f k nz =
        let bound = members_from 1 m.elements f b basis.list k in
        let fl = bound.0 in
        let fh = bound.1 in
        let back : f - 1 + 1 ≡ f = omega (arith, fl) in
        let jl : f - 1 < length u = omega (arith, fl, fh, len) in
        let jn : f - 1 < m.elements = omega (arith, fl, fh) in
        let on : bit_at support (f - 1) ≡ 1 = (is.holds (f - 1) jl).1 nz in
        let off = inside (f - 1) (subst (λ y. IsMember y b) (sym back) k) in
        let within = is.within in
        let small : support < 2 ^ m.elements = subst (λ y. support < 2 ^ y) len within in
        let zero = off_support_bit m.elements support (f - 1) few jn small on in
        omega (arith, off, zero)

    go : (i : ℕ) × (bit_at support i ≡ 1) → ⊥
    go (i, one) =
        let il : i < length u =
        elim (cases_lt i (length u)) [
          | inl l ↦ l
          | inr g ↦ let z = bit_at_above support (length u) i is.within g in
              absurd (omega (arith, one, z))
        ] in
        let f = met i (omega (arith, il, len)) ((is.holds i il).0 one) b basis in
        apart f.0 f.1 f.2

pub met_of_exchange : (m : SignMap) (a : List ℕ) → IsSubsetFrom 1 m.elements a → length a + 1 ≡ m.rank
    → HasListExchange m → IsMet m (cocircuit_vector m a)
met_of_exchange m a list size ex i l nz b basis =
    let back : i + 1 - 1 ≡ i = omega arith in
    let high : i + 1 ≤ m.elements = omega (arith, l) in
    let nonzero : value_of m (a ++ (i + 1) ∷ []) ≢ Zero =
    (λ z. nz (ap (at (cocircuit_vector m a)) (sym back) ∙ cocircuit_place m a (i + 1) (omega arith) high ∙ z)) in
    let f = ex a b (i + 1) (record { list = list; size = size; low = omega arith; high = high; nonzero = nonzero })
    basis in
    let bound = members_from 1 m.elements f.0 b basis.list f.1 in
    let fl = bound.0 in
    let fh = bound.1 in
    (f.0, f.1, λ z. f.2 (sym (cocircuit_place m a f.0 fl (omega (arith, fh))) ∙ z))

pub exchange_of_met : (m : SignMap) (table : List (List Sign)) (k : ℕ) → table ≡ cocircuit_vectors m → length table ≤ k
    → ((j : ℕ) → j < k → IsMet m (get_or table j [])) → HasListExchange m
exchange_of_met m table k et le met a c e h basis =
    let v = vector_of_place m a h.list h.size in
    let size = ap length et ∙ length-table m in
    let few = v.0 in
    let here : IsMet m (cocircuit_vector m a) =
    subst (IsMet m) (ap (λ t. get_or t (rank_of m.elements a) []) et ∙ v.1)
    (met (rank_of m.elements a) (omega (arith, few, size, le))) in
    let low = h.low in
    let high = h.high in
    let f = here (e - 1) (omega (arith, low, high)) (λ z. h.nonzero (sym (cocircuit_place m a e h.low h.high) ∙ z)) c
    basis in
    let bound = members_from 1 m.elements f.0 c basis.list f.1 in
    let fl = bound.0 in
    let fh = bound.1 in
    (f.0, f.1, λ z. f.2 (cocircuit_place m a f.0 fl (omega (arith, fh)) ∙ z))

pub table_length : (m : SignMap) (table : List (List Sign)) (k : ℕ) → table ≡ cocircuit_vectors m → k < length table
    → length (get_or table k []) ≡ m.elements
table_length m table k et l =
    let size = ap length et ∙ length-table m in
    ap (λ t. length (get_or t k [])) et ∙ ap length (table_at m k (omega (arith, l, size)))
    ∙ length-as_list m.elements (along (value_of m) (subset_at m.elements (m.rank - 1) k))
