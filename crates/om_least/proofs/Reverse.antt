-- Sets in reverse lexicographic order: those of the first elements come first.
--
-- Main results: sets of the first elements begin the list of all (begins_within, first_set); rules that agree on sets
-- give the same signs in this order (same_in_reverse); the sign at a place (sign_at), and how many there are
-- (number_of_signs); two rules that differ at a set (differs_at), agree on one more (agrees_more) or on all
-- (agrees_on_all).
use Rattle.std.proofs.Common.{ℕ, zero, suc, ◌≡◌, ◌+◌, ◌-◌, ◌<◌, ◌≤◌, List, [], ◌∷◌, ◌++◌, length, get_or, map, take}
use Rattle.std.proofs.Common.{refl, sym, ap, subst, ◌∙◌, arith, append_assoc, append-nil}
use Rattle.std.proofs.lemmas.List.{length-map, get_or-map, get_or_append_left, ext_get_or, take_all}
use Rattle.std.proofs.lemmas.List.{take_more_same}
use Rattle.std.specs.declared.cmp.Ordering.{Ordering}
use Rattle.std.specs.declared.cmp.Ordering.TheVariants.{Equal}
use Rattle.om_signs.specs.declared.sign.Sign.{Sign}
use Rattle.om_signs.specs.declared.sign.Sign.TheVariants.{Zero}
use Rattle.om_signs.specs.SignVec.{at}
use Rattle.om_signs.specs.Order.{sign_order, lexicographic}
use Rattle.om_signs.specs.OrderLaws.{same_sign, order_of_same}
use Rattle.om_subsets.specs.Subsets.{choose, IsSubsetFrom}
use Rattle.om_subsets.specs.Reverse.{revlex_subsets, revlex_subset_at}
use Rattle.om_subsets.proofs.OneElement.{subset_wider}
use Rattle.om_subsets.proofs.ReversePlaces.{length-revlex_subsets, reverse_listed}
use Rattle.om_least.proofs.Signs.{decided}

empty_alone : (n : ℕ) → revlex_subsets n 0 ≡ [] ∷ []
empty_alone zero = refl
empty_alone (suc n) = refl

pub begins : (d k n r : ℕ) → n ≡ d + k → (rest : List (List ℕ)) × (revlex_subsets n r ≡ revlex_subsets k r ++ rest)
begins zero k n r q =
    let e : k ≡ n = omega arith in
    ([], subst (λ z. revlex_subsets z r ≡ revlex_subsets k r ++ []) e (sym (append-nil (revlex_subsets k r))))
begins (suc d) k zero r q = absurd (omega arith)
begins (suc d) k (suc n) zero q = ([], sym (ap (λ l. l ++ []) (empty_alone k)))
begins (suc d) k (suc n) (suc r) q =
    let b = begins d k n (suc r) (omega arith) in (
      b.0 ++ map (λ s. s ++ suc n ∷ []) (revlex_subsets n r),
      ap (λ l. l ++ map (λ s. s ++ suc n ∷ []) (revlex_subsets n r)) b.1
          ∙ append_assoc (revlex_subsets k (suc r)) b.0 (map (λ s. s ++ suc n ∷ []) (revlex_subsets n r)),
    )

pub begins_within : (k n r : ℕ) → k ≤ n
    → (rest : List (List ℕ)) × (revlex_subsets n r ≡ revlex_subsets k r ++ rest)
begins_within k n r le = begins (n - k) k n r (omega arith)

pub first_set : (k n r j : ℕ) → k ≤ n → j < choose k r → revlex_subset_at n r j ≡ revlex_subset_at k r j
first_set k n r j le lt =
    let b = begins_within k n r le in
    ap (λ l. get_or l j []) b.1
    ∙ get_or_append_left (revlex_subsets k r) b.0 [] j (subst (λ z. j < z) (sym (length-revlex_subsets k r)) lt)

widened : (d k n : ℕ) (xs : List ℕ) → n ≡ d + k → IsSubsetFrom 1 k xs → IsSubsetFrom 1 n xs
widened zero k n xs q h = let e : k ≡ n = omega arith in subst (λ z. IsSubsetFrom 1 z xs) e h
widened (suc d) k zero xs q h = absurd (omega arith)
widened (suc d) k (suc n) xs q h = subset_wider 1 n xs (widened d k n xs (omega arith) h)

pub wider : (k n : ℕ) (xs : List ℕ) → k ≤ n → IsSubsetFrom 1 k xs → IsSubsetFrom 1 n xs
wider k n xs le h = widened (n - k) k n xs (omega arith) h

pub same_in_reverse : (k r : ℕ) (f g : List ℕ → Sign)
    → ((xs : List ℕ) → IsSubsetFrom 1 k xs → length xs ≡ r → f xs ≡ g xs)
    → map f (revlex_subsets k r) ≡ map g (revlex_subsets k r)
same_in_reverse k r f g h = ext_get_or Zero (map f (revlex_subsets k r)) (map g (revlex_subsets k r))
    (length-map (revlex_subsets k r) f ∙ sym (length-map (revlex_subsets k r) g)) (λ j lt.
    let whole = length-map (revlex_subsets k r) f in
    let size = length-revlex_subsets k r in
    let few : j < length (revlex_subsets k r) = omega arith in
    let small : j < choose k r = omega arith in
    let t = reverse_listed k r j small in
    get_or-map f (revlex_subsets k r) j [] Zero few ∙ h (revlex_subset_at k r j) t.lawful t.size
    ∙ sym (get_or-map g (revlex_subsets k r) j [] Zero few))

-- the sign at a place, and how many there are
pub sign_at : (k r j : ℕ) (f : List ℕ → Sign) → j < choose k r
    → get_or (map f (revlex_subsets k r)) j Zero ≡ f (revlex_subset_at k r j)
sign_at k r j f lt =
    get_or-map f (revlex_subsets k r) j [] Zero (subst (λ z. j < z) (sym (length-revlex_subsets k r)) lt)

pub number_of_signs : (k r : ℕ) (f : List ℕ → Sign) → length (map f (revlex_subsets k r)) ≡ choose k r
number_of_signs k r f = length-map (revlex_subsets k r) f ∙ length-revlex_subsets k r

-- ---- signs of two rules, compared set by set

module _ (n r : ℕ) (f g : List ℕ → Sign) where
  -- they differ at a set, and not before
  pub differs_at : (j : ℕ) (xs : List ℕ) (x y : Sign) (o : Ordering) → j < choose n r → xs ≡ revlex_subset_at n r j
      → x ≡ f xs → y ≡ g xs → take j (map f (revlex_subsets n r)) ≡ take j (map g (revlex_subsets n r))
      → o ≡ sign_order x y → (o ≡ Equal → ⊥)
      → lexicographic (map f (revlex_subsets n r)) (map g (revlex_subsets n r)) ≡ o
  differs_at j xs x y o lt here fx gy same so ne =
      decided (map f (revlex_subsets n r)) (map g (revlex_subsets n r)) j o
      (number_of_signs n r f ∙ sym (number_of_signs n r g)) (subst (λ z. j < z) (sym (number_of_signs n r f)) lt) same
      (ap (λ s. sign_order s (at (map g (revlex_subsets n r)) j)) (sign_at n r j f lt ∙ ap f (sym here) ∙ sym fx)
      ∙ ap (sign_order x) (sign_at n r j g lt ∙ ap g (sym here) ∙ sym gy) ∙ sym so)
      ne

  -- they are the same at one more set
  pub agrees_more : (j : ℕ) (xs : List ℕ) (x y : Sign) → j < choose n r → xs ≡ revlex_subset_at n r j → x ≡ f xs
      → y ≡ g xs → take j (map f (revlex_subsets n r)) ≡ take j (map g (revlex_subsets n r)) → Equal ≡ sign_order x y
      → take (j + 1) (map f (revlex_subsets n r)) ≡ take (j + 1) (map g (revlex_subsets n r))
  agrees_more j xs x y lt here fx gy same so =
      take_more_same (map f (revlex_subsets n r)) (map g (revlex_subsets n r)) j Zero
      (subst (λ z. j < z) (sym (number_of_signs n r f)) lt) (subst (λ z. j < z) (sym (number_of_signs n r g)) lt) same
      (sign_at n r j f lt ∙ ap f (sym here) ∙ sym fx ∙ same_sign x y (sym so) ∙ gy ∙ ap g here
      ∙ sym (sign_at n r j g lt))

  -- they are the same at all sets
  pub agrees_on_all : (j : ℕ) → choose n r ≤ j
      → take j (map f (revlex_subsets n r)) ≡ take j (map g (revlex_subsets n r))
      → lexicographic (map f (revlex_subsets n r)) (map g (revlex_subsets n r)) ≡ Equal
  agrees_on_all j ge same =
      order_of_same (map f (revlex_subsets n r)) (map g (revlex_subsets n r))
      (sym (take_all j (map f (revlex_subsets n r)) (subst (λ z. z ≤ j) (sym (number_of_signs n r f)) ge)) ∙ same
      ∙ take_all j (map g (revlex_subsets n r)) (subst (λ z. z ≤ j) (sym (number_of_signs n r g)) ge))
