-- The tests and loops that find sets which meet every vector.
--
-- Main definitions: IsNarrowedTo
-- Main results: meets_test, passed, met_more, met_all, narrowed_start, narrowed_more, narrowed_minimal, all_meet
use Rattle.std.specs.Prelude.{ℕ, ◌≡◌, ◌≢◌, ◌+◌, ◌<◌, ◌≤◌, ◌-◌, ◌↔◌, ◌⊎◌, List, length, refl, not, nat_eq, true, false}
use Rattle.std.specs.Prelude.{IsTrue, bit_and, slice_index_or}
use Rattle.std.specs.Int.{bit_at}
use Rattle.std.specs.List.{Contains}
use Rattle.std.proofs.Common.{zero, suc, sym, ap, subst, ◌∙◌, ⊎_elim, inl, inr, arith, min}
use Rattle.std.proofs.lemmas.Bool.{cases_eq, cases_lt, eq-eqb, ne_eqb}
use Rattle.std.proofs.lemmas.Nat.Bits.{bit_at_and}
use Rattle.std.proofs.lemmas.List.{get_or_past}
use Rattle.std.proofs.lemmas.List.Elements.{All-contains}
use Rattle.om_signs.specs.declared.sign.Sign.{Sign}
use Rattle.om_signs.specs.declared.sign.Sign.TheVariants.{Zero}
use Rattle.om_signs.specs.SignVec.{IsMaskOf, IsInSupport}
use Rattle.om_signs.proofs.Bits.{bit_one_or_zero}
use Rattle.om_subsets.specs.Subsets.{IsSubsetFrom, IsMember, without_element, first_of}
use Rattle.om_subsets.proofs.Order.{members_from}
use Rattle.om_subsets.proofs.Statements.{members_without}
use Rattle.om_laws.specs.Bridge.{as_function}
use Rattle.om_laws.proofs.ChirotopeLaws.{element_from_member}
use Rattle.om_members.specs.Vectors.{IsZero}
use Rattle.om_members.specs.Listings.{HaveLength}
use Rattle.om_members.specs.Scans.{nth, AllBelow}
use Rattle.om_members.proofs.MaskLaws.{zero_mask, support_bit}
use Rattle.om_members.proofs.ScanLaws.{nth_read, nth_contained}
use Rattle.om_denotation.proofs.ChirotopeBridge.{list_supported}
use Rattle.om_denotation.proofs.ListFunctions.{place_function}
use Rattle.om_denotation.proofs.FunctionLaws.{nonzero_element}
use Rattle.om_convert.specs.Hitting.{IsNonzeroOn, MeetsFamily, MissesOne, IsNonzeroMember, IsNarrowed, IsMinimalMeeting}
use Rattle.om_convert.proofs.HittingLaws.{meets_or_zero}
use Rattle.om_convert.proofs.MeetingBases.{met_list}

-- ---- one vector

member_bit : (n : ℕ) (s : List ℕ) (b : ℕ) → IsSubsetFrom 1 n s → IsMaskOf n (λ i. IsMember (i + 1) s) b → (e : ℕ)
    → IsMember e s → bit_at b (e - 1) ≡ 1
member_bit n s b list mask e m =
    let k = members_from 1 n e s list m in
    let low = k.0 in
    let high = k.1 in
    let q : e - 1 + 1 ≡ e = omega arith in
    (mask.holds (e - 1) (omega (arith, low, high))).1 (subst (λ j. IsMember j s) (sym q) m)

pub meets_test : (n : ℕ) (Y : List Sign) (s : List ℕ) (a b : ℕ) → length Y ≡ n → IsSubsetFrom 1 n s
    → IsMaskOf (length Y) (IsInSupport Y) a → IsMaskOf n (λ i. IsMember (i + 1) s) b
    → IsTrue (not (nat_eq (bit_and a b) 0)) ↔ IsNonzeroOn s Y
meets_test n Y s a b l list ha hb = elim (meets_or_zero s (as_function Y)) [
  | inl met ↦ ((λ t. met_list s Y met), (λ k. common k))
  | inr zeros ↦ ((λ t. absurd (apart zeros t)), (λ k. common k))
]
  where
    common : IsNonzeroOn s Y → IsTrue (not (nat_eq (bit_and a b) 0))
    common (e, m, k) =
        let one : bit_at (bit_and a b) (e - 1) ≡ 1 = bit_at_and a b (e - 1)
        ∙ rw ((support_bit Y a ha (e - 1)).1 k, member_bit n s b list hb e m) refl in
        let ne : bit_and a b ≢ 0 = (λ z. (zero_mask (bit_and a b)).0 z (e - 1) one) in
        rw (ne_eqb (bit_and a b) 0 ne) refl

    zero_and : ((g : ℕ) → IsMember g s → as_function Y g ≡ Zero) → bit_and a b ≡ 0
    zero_and zeros = (zero_mask (bit_and a b)).1 (λ i one.
        let q : min (bit_at a i) (bit_at b i) ≡ 1 = sym (bit_at_and a b i) ∙ one in
        elim (bit_one_or_zero a i) [
          | inl ka ↦ elim (bit_one_or_zero b i) [
            | inl kb ↦ elim (cases_lt i n) [
              | inl lt ↦
                  (support_bit Y a ha i).0 ka
                  (zeros (suc i) (let e : i + 1 ≡ suc i = omega arith in
                  subst (λ j. IsMember j s) e ((hb.holds i lt).0 kb)))
              | inr ge ↦ (support_bit Y a ha i).0 ka (get_or_past Y i Zero (omega (arith, ge, l)))
            ]
            | inr kb ↦ absurd (omega (arith, q, kb))
          ]
          | inr ka ↦ absurd (omega (arith, q, ka))
        ])

    apart : ((g : ℕ) → IsMember g s → as_function Y g ≡ Zero) → IsTrue (not (nat_eq (bit_and a b) 0)) → ⊥
    apart zeros t = let e : not (nat_eq (bit_and a b) 0) ≡ false = rw (eq-eqb (bit_and a b) 0 (zero_and zeros)) refl in
        not_both (sym e ∙ t)
      where
        not_both : false ≡ true → ⊥
        not_both q = cc

-- what is zero or met is met where it isn't zero
pub passed : (Y : List Sign) (s : List ℕ) → IsZero Y ⊎ IsNonzeroOn s Y → (IsZero Y → ⊥) → IsNonzeroOn s Y
passed Y s h nonzero = ⊎_elim (λ z. absurd (nonzero z)) (λ m. m) h

-- ---- the members of a list

pub met_more : (members : List (List Sign)) (P : List Sign → Type 0) (i : ℕ) (y : List Sign) → i < length members
    → y ≡ slice_index_or members i y → AllBelow i (λ k. P (nth members k)) → P y
    → AllBelow (i + 1) (λ k. P (nth members k))
met_more members P i y lt q old new k l = elim (cases_eq k i) [
  | inl e ↦ subst P (sym (ap (nth members) e ∙ nth_read members i y lt q)) new
  | inr ne ↦ old k (omega arith)
]

pub met_all : (members : List (List Sign)) (P : List Sign → Type 0) (i : ℕ) → length members ≤ i
    → AllBelow i (λ k. P (nth members k)) → (Y : List Sign) → Contains members Y → P Y
met_all members P i le all Y y = let l = y.1 in subst P (nth_contained members Y y) (all y.0 (omega (arith, l, le)))

-- ---- one element after another

pub record IsNarrowedTo (n : ℕ) (P : List Sign → Type 0) (e k : ℕ) (s : List ℕ) : Type 0 where
  pub n_is : k ≡ n
  pub lawful : IsSubsetFrom 1 n s
  pub each : MeetsFamily P s
  pub minimal : (f : ℕ) → IsMember f s → f < e → MissesOne P (without_element f s)

pub narrowed_start : (n : ℕ) (P : List Sign → Type 0) (k : ℕ) (s : List ℕ) → k ≡ n → IsSubsetFrom 1 n s
    → s ≡ first_of 1 n → MeetsFamily P (first_of 1 n) → IsNarrowedTo n P 1 k s
narrowed_start n P k s q list e each = record {
  n_is = q;
  lawful = list;
  each = subst (MeetsFamily P) (sym e) each;
  minimal = λ f m lt. let low = (members_from 1 n f s list m).0 in absurd (omega (arith, low, lt));
}

pub narrowed_more : (n : ℕ) (P : List Sign → Type 0) (e k j : ℕ) (s t : List ℕ) → IsNarrowedTo n P e k s → j ≡ k
    → IsSubsetFrom 1 j t → IsNarrowed P s e t → IsNarrowedTo n P (e + 1) j t
narrowed_more n P e k j s t h q list (inl (w, each)) = record {
  n_is = q ∙ h.n_is;
  lawful = subst (λ i. IsSubsetFrom 1 i t) (q ∙ h.n_is) list;
  each = each;
  minimal = λ f m lt.
      let b = (members_without e f s).0 (subst (IsMember f) w m) in
      let ne = b.0 in
      let y = h.minimal f b.1 (omega arith) in
      (y.0, y.1, λ met. y.2 (met.0, passed f met.0 met.1, met.2));
}
  where
    passed : (f g : ℕ) → IsMember g (without_element f t) → IsMember g (without_element f s)
    passed f g m = let a = (members_without f g t).0 m in
        (members_without f g s).1 (a.0, ((members_without e g s).0 (subst (IsMember g) w a.1)).1)
narrowed_more n P e k j s t h q list (inr (w, misses)) = record {
  n_is = q ∙ h.n_is;
  lawful = subst (λ i. IsSubsetFrom 1 i t) (q ∙ h.n_is) list;
  each = subst (MeetsFamily P) (sym w) h.each;
  minimal = λ f m lt. subst (λ l. MissesOne P (without_element f l)) (sym w) (elim (cases_eq f e) [
    | inl p ↦ subst (λ i. MissesOne P (without_element i s)) (sym p) misses
    | inr ne ↦ h.minimal f (subst (IsMember f) w m) (omega arith)
  ]);
}

pub narrowed_minimal : (n : ℕ) (P : List Sign → Type 0) (e k : ℕ) (s : List ℕ) → n + 1 ≤ e → IsNarrowedTo n P e k s
    → IsMinimalMeeting P s
narrowed_minimal n P e k s le h = record {
  each = h.each;
  minimal = λ f m. let high = (members_from 1 n f s h.lawful m).1 in h.minimal f m (omega (arith, high, le));
}

-- ---- all elements

first_member : (low n e : ℕ) → low ≤ e → e < low + n → IsMember e (first_of low n)
first_member low zero e a b = absurd (omega (arith, a, b))
first_member low (suc n) e a b =
    elim (cases_eq e low) [ inl q ↦ inl q | inr ne ↦ inr (first_member (low + 1) n e (omega arith) (omega arith)) ]

-- the set of all elements meets each member that isn't zero
pub all_meet : (n : ℕ) (members : List (List Sign)) → HaveLength n members
    → MeetsFamily (IsNonzeroMember members) (first_of 1 n)
all_meet n members lengths Y (y, nonzero) =
    let k = nonzero_element Y nonzero in
    let i = element_from_member n k.0
    (list_supported n Y (All-contains (λ X. length X ≡ n) members Y lengths y) k.0 k.1) in
    let low = i.0 in
    let high = i.1 in
    (k.0, first_member 1 n k.0 low (omega (arith, high)), λ z. k.1 (sym (place_function Y k.0 low) ∙ z))
