-- The signs of a signature on a circle, by places, and the forms that are open at first.
--
-- Main results: low_sign, turned_sign, own_sign, decided_same, all_open, at_pushed, last_pushed
use Rattle.std.proofs.Common.{ℕ, ◌≡◌, ◌≢◌, ◌+◌, ◌-◌, ◌<◌, ◌≤◌, ◌^◌, List, [], ◌∷◌, ◌++◌, length, get_or, refl, sym}
use Rattle.std.proofs.Common.{◌∙◌, ap, subst, ⊎_elim, arith, inl, inr, bit_and}
use Rattle.std.specs.Int.{bit_at, w128}
use Rattle.std.proofs.lemmas.List.{get_or-set_same, get_or-set_other, get_or_append_left, get_or-append-add}
use Rattle.std.proofs.lemmas.Nat.Bits.{bit_at-trailing_zeros}
use Rattle.om_signs.specs.declared.sign.Sign.{Sign}
use Rattle.om_signs.specs.declared.sign.Sign.TheVariants.{Zero}
use Rattle.om_signs.specs.Sign.{opposite}
use Rattle.om_signs.specs.SignVec.{at}
use Rattle.om_signs.proofs.SignLaws.{zero_or_nonzero, own_opposite}
use Rattle.om_subsets.specs.Subsets.{rank_of}
use Rattle.om_laws.specs.Vectors.{IsSupportedOn}
use Rattle.om_laws.specs.Sorting.{IsElement}
use Rattle.om_laws.specs.Chirotope.{elements_to}
use Rattle.om_laws.proofs.SortingLaws.{value_increasing}
use Rattle.om_laws.proofs.TupleSizes.{on_tuples_at, on_tuples_tuple, on_tuples_alternating}
use Rattle.om_laws.proofs.ChirotopeLaws.{member_from_element}
use Rattle.om_localize.specs.declared.circles.TheConstants.{MAX_OLD}
use Rattle.om_localize.specs.Circles.{pair_sign, signs_on_circle}
use Rattle.om_localize.specs.Masks.{mask_place, HasSign, IsDecided, AreOpen, cut_entry}

-- ---- the signs on a circle, by places

-- on the circle of e, the sign at a later element f stands in the signature at the place of the pair e, f
pub low_sign : (n : ℕ) (xs : List Sign) (e f : ℕ) → 1 ≤ e → e < f → f ≤ n
    → signs_on_circle n xs e f ≡ at xs (rank_of n (e ∷ f ∷ []))
low_sign n xs e f el lt fh =
    on_tuples_at n 2 (pair_sign n xs) (e ∷ f ∷ [])
    (record { size = refl; within = ((el, omega arith), ((omega arith, fh), tt)) })
    ∙ value_increasing (pair_sign n xs) (e ∷ f ∷ []) (lt, tt)

-- the sign at e on the circle of f is the opposite of that at f on the circle of e
pub turned_sign : (n : ℕ) (xs : List Sign) (e f : ℕ) → signs_on_circle n xs f e ≡ opposite (signs_on_circle n xs e f)
turned_sign n xs e f = on_tuples_alternating n 2 (pair_sign n xs) e f [] []

-- on the circle of e the sign at e is zero
pub own_sign : (n : ℕ) (xs : List Sign) (e : ℕ) → signs_on_circle n xs e e ≡ Zero
own_sign n xs e = own_opposite (signs_on_circle n xs e e) (turned_sign n xs e e)

-- on the circle of e the signs are zero off the elements
pub supported_signs : (n : ℕ) (xs : List Sign) (e : ℕ) → IsSupportedOn (elements_to n) (signs_on_circle n xs e)
supported_signs n xs e f nz = member_from_element n f (on_tuples_tuple n 2 (pair_sign n xs) (e ∷ f ∷ []) nz).within.1.0

pub outside_circle : (n : ℕ) (xs : List Sign) (e : ℕ) → (IsElement n e → ⊥) → (f : ℕ) → signs_on_circle n xs e f ≡ Zero
outside_circle n xs e o f =
    ⊎_elim (λ z. z) (λ nz. absurd (o (on_tuples_tuple n 2 (pair_sign n xs) (e ∷ f ∷ []) nz).within.0))
    (zero_or_nonzero (signs_on_circle n xs e f))

-- lists that agree on the first k signs have the same decided signs
pub decided_same : (n k : ℕ) (xs ys : List Sign) → ((i : ℕ) → i < k → at xs i ≡ at ys i) → (e f : ℕ) → 1 ≤ e → e ≤ n
    → 1 ≤ f → f ≤ n → IsDecided n k e f → signs_on_circle n xs e f ≡ signs_on_circle n ys e f
decided_same n k xs ys same e f el eh fl fh (inl q) =
    subst (λ z. signs_on_circle n xs e z ≡ signs_on_circle n ys e z) (sym q) (own_sign n xs e ∙ sym (own_sign n ys e))
decided_same n k xs ys same e f el eh fl fh (inr (inl (lt, r))) = low_sign n xs e f el lt fh
    ∙ same (rank_of n (e ∷ f ∷ [])) r ∙ sym (low_sign n ys e f el lt fh)
decided_same n k xs ys same e f el eh fl fh (inr (inr (lt, r))) =
    turned_sign n xs f e
    ∙ ap opposite (low_sign n xs f e fl lt eh ∙ same (rank_of n (f ∷ e ∷ [])) r ∙ sym (low_sign n ys f e fl lt eh))
    ∙ sym (turned_sign n ys f e)

-- ---- bits of two masks

pub some_bit : (x : ℕ) → x < 2 ^ 128 → x ≢ 0 → (k : ℕ) × (bit_at x k ≡ 1)
some_bit x lt nz = let h = bit_at-trailing_zeros w128 x (omega arith) lt in (_, h.1)

-- ---- at first

pub all_open : (n : ℕ) (masks open_forms : List ℕ) → length open_forms ≡ MAX_OLD
    → ((e : ℕ) → 1 ≤ e → e ≤ n → get_or open_forms (e - 1) 0 ≡ get_or masks (mask_place e e Zero) 0)
    → AreOpen n masks [] open_forms
all_open n masks open_forms w each = record {
  whole = w;
  bits = λ e el eh k. (
    λ h f fl fh d. own e f k el (subst (λ x. bit_at x k ≡ 1) (each e el eh) h) d,
    λ h. subst (λ x. bit_at x k ≡ 1) (sym (each e el eh))
        (subst (λ t. HasSign masks e e t k) (own_sign n [] e) (h e el eh (inl refl))),
  );
}
  where
    own : (e f k : ℕ) → 1 ≤ e → HasSign masks e e Zero k → IsDecided n 0 e f
        → HasSign masks e f (signs_on_circle n [] e f) k
    own e f k el h (inl q) =
        subst (λ z. HasSign masks e z (signs_on_circle n [] e z) k) (sym q)
        (subst (λ t. HasSign masks e e t k) (sym (own_sign n [] e)) h)
    own e f k el h (inr (inl (lt, r))) = absurd (omega arith)
    own e f k el h (inr (inr (lt, r))) = absurd (omega arith)

-- ---- one sign more

pub at_pushed : (xs : List Sign) (s : Sign) (i : ℕ) → i < length xs → at (xs ++ s ∷ []) i ≡ at xs i
at_pushed xs s i l = get_or_append_left xs (s ∷ []) Zero i l

pub last_pushed : (xs : List Sign) (s : Sign) → at (xs ++ s ∷ []) (length xs) ≡ s
last_pushed xs s = let e : length xs + 0 ≡ length xs = omega arith in ap (at (xs ++ s ∷ [])) (sym e)
    ∙ get_or-append-add xs (s ∷ []) 0 Zero

pub entry_same : (forms : List ℕ) (e mask : ℕ) → e - 1 < length forms
    → get_or (cut_entry forms e mask) (e - 1) 0 ≡ bit_and (get_or forms (e - 1) 0) mask
entry_same forms e mask l = get_or-set_same forms (e - 1) (bit_and (get_or forms (e - 1) 0) mask) 0 l

pub entry_other : (forms : List ℕ) (e d mask : ℕ) → 1 ≤ e → 1 ≤ d → d ≢ e
    → get_or (cut_entry forms e mask) (d - 1) 0 ≡ get_or forms (d - 1) 0
entry_other forms e d mask el dl ne = let n : d - 1 ≢ e - 1 = omega arith in
    get_or-set_other forms (e - 1) (d - 1) (bit_and (get_or forms (e - 1) 0) mask) 0 n
