-- What the answers of the check say of the axioms.
--
-- Main results: nonzero_value, nonzero_or_zeros, not_all_zero
use Rattle.std.specs.Prelude.{ℕ, ◌≡◌, ◌≢◌, ◌<◌, List, [], ◌∷◌, length, ◌⊎◌}
use Rattle.std.proofs.Common.{zero, suc, sym, ◌∙◌, ap, arith, inl, inr, subst, get_or}
use Rattle.om_signs.specs.declared.sign.Sign.{Sign}
use Rattle.om_signs.specs.declared.sign.Sign.TheVariants.{Zero}
use Rattle.om_signs.specs.SignVec.{at}
use Rattle.om_signs.proofs.SignLaws.{zero_or_nonzero}
use Rattle.om_subsets.specs.Subsets.{choose, rank_of, subset_at}
use Rattle.om_subsets.proofs.Order.{listed, rank_from-lt}
use Rattle.om_chirotope.specs.Map.{SignMap, IsMap, chi_of}
use Rattle.om_chirotope.specs.Chirotope.{HasNonzeroValue, IsAllZero}
use Rattle.om_chirotope.proofs.InOrder.{value_in_order}

-- some place has a sign that isn't zero, or all are zero
some_place : (xs : List Sign) → ((k : ℕ) × (k < length xs) × (at xs k ≢ Zero)) ⊎ IsAllZero xs
some_place [] = inr (λ k d l. absurd (omega arith))
some_place (x ∷ xs) = go (zero_or_nonzero x) (some_place xs)
  where
    go : (x ≡ Zero) ⊎ (x ≢ Zero) → ((k : ℕ) × (k < length xs) × (at xs k ≢ Zero)) ⊎ IsAllZero xs
        → ((k : ℕ) × (k < length (x ∷ xs)) × (at (x ∷ xs) k ≢ Zero)) ⊎ IsAllZero (x ∷ xs)
    go (inr n) i = inl (0, omega arith, n)
    go (inl z) (inl (k, l, n)) = inl (suc k, omega arith, n)
    go (inl z) (inr all) = inr (each z all)
      where
        each : x ≡ Zero → IsAllZero xs → (k : ℕ) (d : Sign) → k < length (x ∷ xs) → get_or (x ∷ xs) k d ≡ Zero
        each z all zero d l = z
        each z all (suc k) d l = all k d (omega arith)

-- if not all signs of a map are zero, some value isn't zero
pub nonzero_value : (m : SignMap) → IsMap m → (IsAllZero m.signs → ⊥) → HasNonzeroValue m
nonzero_value m w n = go (some_place m.signs)
  where
    go : ((k : ℕ) × (k < length m.signs) × (at m.signs k ≢ Zero)) ⊎ IsAllZero m.signs → HasNonzeroValue m
    go (inr all) = absurd (n all)
    go (inl (k, l, s)) =
        let whole = w.whole in
        let t = listed 1 m.elements m.rank k (omega arith) in (
          subset_at m.elements m.rank k,
          t.lawful,
          t.size,
          λ z. s (sym (ap (at m.signs) t.place)
              ∙ sym (value_in_order 1 m.elements (chi_of m) (subset_at m.elements m.rank k) t.lawful) ∙ z),
        )

-- a map has a value that isn't zero, or all its signs are zero
pub nonzero_or_zeros : (m : SignMap) → IsMap m → HasNonzeroValue m ⊎ IsAllZero m.signs
nonzero_or_zeros m w = go (some_place m.signs)
  where
    go : ((k : ℕ) × (k < length m.signs) × (at m.signs k ≢ Zero)) ⊎ IsAllZero m.signs → HasNonzeroValue m
        ⊎ IsAllZero m.signs
    go (inr all) = inr all
    go (inl (k, l, s)) = inl (nonzero_value m w (λ all. s (all k Zero l)))

-- where all signs of a map are zero, no value is nonzero
pub not_all_zero : (m : SignMap) → IsMap m → IsAllZero m.signs → HasNonzeroValue m → ⊥
not_all_zero m w z (xs, h, l, n) =
    let whole = w.whole in
    let few : rank_of m.elements xs < choose m.elements m.rank =
    subst (λ i. rank_of m.elements xs < choose m.elements i) l (rank_from-lt 1 m.elements xs h) in
    n (value_in_order 1 m.elements (chi_of m) xs h ∙ z (rank_of m.elements xs) Zero (omega arith))
