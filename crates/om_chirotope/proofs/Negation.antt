-- The negative of a map, and the first sign that isn't zero.
--
-- Main results: negated_chirotope, the negative of a chirotope is one; leads, some sign leads a list that isn't all
-- zero; zero_more, led_here, led_otherwise and led_by_none, the search for the leading sign; turned_more and
-- rest_more, the loop that turns the signs.
use Rattle.std.specs.Prelude.{ℕ, ◌≡◌, ◌+◌, ◌<◌, List, [], ◌∷◌, ◌++◌, length, map, cond, nat_eq, Bool, true, false, refl}
use Rattle.std.specs.Prelude.{◌≤◌, ◌⊎◌, ◌↔◌, IsTrue, slice_get, slice_set}
use Rattle.std.proofs.Common.{zero, suc, sym, ◌∙◌, ap, arith, inl, inr, get_or, below_more, Some}
use Rattle.std.proofs.lemmas.Bool.{cases_lt, cases_eq, cases_order, false≢true}
use Rattle.std.proofs.lemmas.List.{length-map, ext_get_or, get_or_past, get_or_default}
use Rattle.std.proofs.lemmas.List.{get_or-set_same, get_or-set_other}
use Rattle.std.proofs.lemmas.Option.{get_or_from_slice_get}
use Rattle.std.proofs.lemmas.List.FromFn.{get_or-map-range_with_len}
use Rattle.om_signs.specs.declared.sign.Sign.{Sign}
use Rattle.om_signs.specs.declared.sign.Sign.TheVariants.{Minus, Zero, Plus}
use Rattle.om_signs.specs.Sign.{opposite, product}
use Rattle.om_signs.specs.SignVec.{at, HasProduct, IsOrthogonal}
use Rattle.om_signs.proofs.ListPlaces.{at-map-opposite}
use Rattle.om_signs.proofs.SignLaws.{product-opposite_right, product_turned_both, opposite_swap, zero_from_opposite}
use Rattle.om_subsets.specs.Subsets.{rank_of}
use Rattle.om_laws.specs.Tuples.{sorted, sort_sign}
use Rattle.om_laws.specs.Relations.{around, along}
use Rattle.om_laws.specs.Bridge.{as_list}
use Rattle.om_laws.proofs.BridgeLaws.{length-as_list}
use Rattle.om_chirotope.specs.Map.{SignMap, value_of, negated, IsLedBy}
use Rattle.om_chirotope.specs.Chirotope.{HasNonzeroValue, IsChirotope, IsChirotopeWithinLimits, IsAllZero}
use Rattle.om_chirotope.proofs.Axioms.{not_all_zero}

value_negated : (m : SignMap) (t : List ℕ) → value_of (negated m) t ≡ opposite (value_of m t)
value_negated m t =
    ap (product (sort_sign t)) (at-map-opposite m.signs (rank_of m.elements (sorted t)))
    ∙ product-opposite_right (sort_sign t) (at m.signs (rank_of m.elements (sorted t)))

around_negated : (chi psi : List ℕ → Sign) (xs : List ℕ) (e : ℕ) → ((t : List ℕ) → psi t ≡ opposite (chi t))
    → around psi xs e ≡ opposite (around chi xs e)
around_negated chi psi [] e n = refl
around_negated chi psi (x ∷ xs) e n =
    ap opposite
    (by_case (nat_eq e x) (n xs) (around_negated (λ t. chi (x ∷ t)) (λ t. psi (x ∷ t)) xs e (λ t. n (x ∷ t))))
  where
    by_case : (b : Bool) → psi xs ≡ opposite (chi xs)
        → around (λ t. psi (x ∷ t)) xs e ≡ opposite (around (λ t. chi (x ∷ t)) xs e)
        → cond b (psi xs) (around (λ t. psi (x ∷ t)) xs e) ≡ opposite (cond b (chi xs) (around (λ t. chi (x ∷ t)) xs e))
    by_case true p q = p
    by_case false p q = q

at-vector : (n : ℕ) (f : ℕ → Sign) (i : ℕ) → i < n → at (as_list n f) i ≡ f (i + 1)
at-vector n f i l = let e : 1 + i ≡ i + 1 = omega arith in get_or-map-range_with_len f 1 n i (i + 1) Zero l e

-- two vectors, each place of the second opposite to that of the first
at-vector_negated : (n : ℕ) (f g : ℕ → Sign) (i : ℕ) → ((e : ℕ) → g e ≡ opposite (f e))
    → at (as_list n g) i ≡ opposite (at (as_list n f) i)
at-vector_negated n f g i h = elim (cases_lt i n) [
  | inl l ↦ at-vector n g i l ∙ h (i + 1) ∙ ap opposite (sym (at-vector n f i l))
  | inr ge ↦
      let zf : at (as_list n f) i ≡ Zero = get_or_past (as_list n f) i Zero (rw (length-as_list n f) ge) in
      let zg : at (as_list n g) i ≡ Zero = get_or_past (as_list n g) i Zero (rw (length-as_list n g) ge) in
      zg ∙ ap opposite (sym zf)
]

product_kept : (xs ys us vs : List Sign) (s : Sign) → ((i : ℕ) → at us i ≡ opposite (at xs i))
    → ((i : ℕ) → at vs i ≡ opposite (at ys i)) → HasProduct xs ys s → HasProduct us vs s
product_kept xs ys us vs s hu hv (i, p) =
    (i, product_turned_both (at xs i) (at us i) (at ys i) (at vs i) (hu i) (hv i) ∙ p)

turned_back : (xs us : List Sign) → ((i : ℕ) → at us i ≡ opposite (at xs i)) → (i : ℕ) → at xs i ≡ opposite (at us i)
turned_back xs us h i = opposite_swap (at us i) (at xs i) (h i)

orthogonal_kept : (xs ys us vs : List Sign) → ((i : ℕ) → at us i ≡ opposite (at xs i))
    → ((i : ℕ) → at vs i ≡ opposite (at ys i)) → IsOrthogonal xs ys → IsOrthogonal us vs
orthogonal_kept xs ys us vs hu hv (f, g) = (
  λ h. product_kept xs ys us vs Minus hu hv
      (f (product_kept us vs xs ys Plus (turned_back xs us hu) (turned_back ys vs hv) h)),
  λ h. product_kept xs ys us vs Plus hu hv
      (g (product_kept us vs xs ys Minus (turned_back xs us hu) (turned_back ys vs hv) h)),
)

-- the negative of a chirotope is a chirotope
pub negated_chirotope : (m : SignMap) → IsChirotope m → IsChirotope (negated m)
negated_chirotope m c = record {
  whole = record { part = c.whole.part; whole = length-map m.signs opposite ∙ c.whole.whole };
  nonzero = some c.nonzero;
  orthogonal = λ s a p. orthogonal_kept _ _ _ _
      (λ i. at-vector_negated m.elements (around (value_of m) s) (around (value_of (negated m)) s) i
      (λ e. around_negated (value_of m) (value_of (negated m)) s e (value_negated m)))
      (λ i. at-vector_negated m.elements (along (value_of m) a) (along (value_of (negated m)) a) i
      (λ e. value_negated m (a ++ e ∷ [])))
      (c.orthogonal s a (record { s_list = p.s_list; s_size = p.s_size; a_list = p.a_list; a_size = p.a_size }));
}
  where
    some : HasNonzeroValue m → HasNonzeroValue (negated m)
    some (xs, h, l, n) = (xs, h, l, λ z. n (zero_from_opposite (value_of m xs) (sym (value_negated m xs) ∙ z)))

-- ---- the first sign that isn't zero

led_later : (x : Sign) (xs : List Sign) (s : Sign) → x ≡ Zero → IsLedBy s xs → IsLedBy s (x ∷ xs)
led_later x xs s z (k, p, q) = (suc k, p, before)
  where
    before : (j : ℕ) → j < suc k → at (x ∷ xs) j ≡ Zero
    before zero l = z
    before (suc j) l = q j (omega arith)

-- the first nonzero sign of a list is plus or minus, or all its signs are zero
pub leader : (xs : List Sign) → IsLedBy Plus xs ⊎ IsLedBy Minus xs ⊎ IsAllZero xs
leader [] = inr (inr (λ k d l. absurd (omega arith)))
leader (x ∷ xs) = go x refl (leader xs)
  where
    go : (y : Sign) → x ≡ y → IsLedBy Plus xs ⊎ IsLedBy Minus xs ⊎ IsAllZero xs → IsLedBy Plus (x ∷ xs)
        ⊎ IsLedBy Minus (x ∷ xs) ⊎ IsAllZero (x ∷ xs)
    go Plus e r = inl (0, e, λ j l. absurd (omega arith))
    go Minus e r = inr (inl (0, e, λ j l. absurd (omega arith)))
    go Zero e (inl p) = inl (led_later x xs Plus e p)
    go Zero e (inr (inl p)) = inr (inl (led_later x xs Minus e p))
    go Zero e (inr (inr all)) = inr (inr (each e all))
      where
        each : x ≡ Zero → IsAllZero xs → (k : ℕ) (d : Sign) → k < length (x ∷ xs) → get_or (x ∷ xs) k d ≡ Zero
        each z all zero d l = z
        each z all (suc k) d l = all k d (omega arith)

-- a chirotope that no minus leads is led by a plus
pub led_by_plus : (m : SignMap) → IsChirotope m → (IsLedBy Minus m.signs → ⊥) → IsLedBy Plus m.signs
led_by_plus m c n = go (leader m.signs)
  where
    go : IsLedBy Plus m.signs ⊎ IsLedBy Minus m.signs ⊎ IsAllZero m.signs → IsLedBy Plus m.signs
    go (inl p) = p
    go (inr (inl p)) = absurd (n p)
    go (inr (inr z)) = absurd (not_all_zero m c.whole z c.nonzero)

-- if the first nonzero sign of a list is minus, that of the negated list is plus
pub led_negated : (xs : List Sign) → IsLedBy Minus xs → IsLedBy Plus (map opposite xs)
led_negated xs (k, p, q) = (k, at-map-opposite xs k ∙ ap opposite p, λ j l. at-map-opposite xs j ∙ ap opposite (q j l))

-- ---- the search for the first sign that isn't zero

-- one sign more that is zero
pub zero_more : (xs : List Sign) (k : ℕ) (d : Sign) → ((j : ℕ) → j < k → at xs j ≡ Zero) → k < length xs
    → get_or xs k d ≡ Zero → (j : ℕ) → j < k + 1 → at xs j ≡ Zero
zero_more xs k d z l e = below_more _ _ z (get_or_default xs k Zero d l ∙ e)

-- the first sign that isn't zero is minus
pub led_here : (xs : List Sign) (k : ℕ) (d : Sign) → ((j : ℕ) → j < k → at xs j ≡ Zero) → k < length xs
    → get_or xs k d ≡ Minus → IsTrue true ↔ IsLedBy Minus xs
led_here xs k d z l e = (λ q. (k, get_or_default xs k Zero d l ∙ e, z), λ h. refl)

two_leaders : (xs : List Sign) (k x : ℕ) → ((j : ℕ) → j < k → at xs j ≡ Zero) → at xs k ≡ Plus → at xs x ≡ Minus
    → ((j : ℕ) → j < x → at xs j ≡ Zero) → ⊥
two_leaders xs k x z p m y = elim (cases_order k x) [
  | inl q ↦ let e = ap (at xs) q in cc
  | inr (inl l) ↦ let e = y k l in cc
  | inr (inr g) ↦ let e = z x g in cc
]

-- the first sign that isn't zero is plus
pub led_otherwise : (xs : List Sign) (k : ℕ) (d : Sign) → ((j : ℕ) → j < k → at xs j ≡ Zero) → k < length xs
    → get_or xs k d ≡ Plus → IsTrue false ↔ IsLedBy Minus xs
led_otherwise xs k d z l e = (
  λ q. absurd (false≢true q),
  λ h. absurd (two_leaders xs k h.0 z (get_or_default xs k Zero d l ∙ e) h.1 h.2),
)

-- no sign but zero
pub led_by_none : (xs : List Sign) (k : ℕ) → ((j : ℕ) → j < k → at xs j ≡ Zero) → length xs ≤ k
    → IsTrue false ↔ IsLedBy Minus xs
led_by_none xs k z over = (
  λ q. absurd (false≢true q),
  λ h. elim (cases_lt h.0 k) [
    | inl l ↦ let a = h.1 in let e = z h.0 l in absurd cc
    | inr g ↦ let a = h.1 in let e = get_or_past xs h.0 Zero (omega (arith, g, over)) in absurd cc
  ],
)

-- ---- the loop that turns the signs

-- one sign more that is turned
pub turned_more : (old now next : List Sign) (i : ℕ) (s turned : Sign) → i < length now → slice_get now i ≡ Some s
    → turned ≡ opposite s → next ≡ slice_set now i turned → ((k : ℕ) → k < i → at now k ≡ opposite (at old k))
    → ((k : ℕ) → i ≤ k → at now k ≡ at old k) → (k : ℕ) → k < i + 1 → at next k ≡ opposite (at old k)
turned_more old now next i s turned l g e n before rest k b = elim (cases_eq k i) [
  | inl q ↦ rw (n, q, e)
      (get_or-set_same now i (opposite s) Zero l
      ∙ ap opposite (sym (get_or_from_slice_get now i s Zero g) ∙ rest i (omega arith)))
  | inr other ↦ rw n (get_or-set_other now i k turned Zero other ∙ before k (omega (arith, b, other)))
]

-- and the signs after it
pub rest_more : (old now next : List Sign) (i : ℕ) (turned : Sign) → next ≡ slice_set now i turned
    → ((k : ℕ) → i ≤ k → at now k ≡ at old k) → (k : ℕ) → i + 1 ≤ k → at next k ≡ at old k
rest_more old now next i turned n rest k b =
    rw n (get_or-set_other now i k turned Zero (λ q. absurd (omega (arith, b, q))) ∙ rest k (omega (arith, b)))

-- what the loop that turns the signs has made
pub turned_map : (rank elements r e : ℕ) (xs ys : List Sign) → r ≡ rank → e ≡ elements → length ys ≡ length xs
    → ((k : ℕ) → k < length xs → at ys k ≡ opposite (at xs k))
    → record { rank = r; elements = e; signs = ys } ≡ negated (record { rank = rank; elements = elements; signs = xs })
turned_map rank elements r e xs ys er ee l h =
    let es : ys ≡ map opposite xs =
    ext_get_or Zero ys (map opposite xs) (l ∙ sym (length-map xs opposite))
    (λ k lt. h k (omega arith) ∙ sym (at-map-opposite xs k)) in
    rw (er, ee, es) refl

pub negated_sound : (m : SignMap) → IsChirotopeWithinLimits m → IsChirotopeWithinLimits (negated m)
negated_sound m h = record {
  axioms = negated_chirotope m h.axioms;
  limits = record { low = h.limits.low; high = h.limits.high };
}
