-- Increasing lists of the elements before the last, and elements off a list.
--
-- Main results: longer and shorter, an increasing list of 1 to n as one of 1 to n + 1, and back; off_list, an element
-- that a short list doesn't have.
use Rattle.std.proofs.Common.{ℕ, zero, suc, ◌≢◌, ◌+◌, ◌<◌, ◌≤◌, List, [], ◌∷◌, length, subst}
use Rattle.std.proofs.Common.{inl, inr, ⊎_elim, arith}
use Rattle.om_subsets.specs.Subsets.{IsSubsetFrom, IsMember}
use Rattle.om_subsets.proofs.Order.{members_from}
use Rattle.om_subsets.proofs.Statements.{subset_is_increasing}

pub longer : (n : ℕ) (xs : List ℕ) → IsSubsetFrom 1 n xs → IsSubsetFrom 1 (suc n) xs
longer n xs h = let k = (subset_is_increasing n xs).0 h in
    (subset_is_increasing (suc n) xs).1 (
      k.0,
      λ e m. let b = k.1 e m in let low = b.0 in let high = b.1 in
          (low, omega arith),
    )

pub shorter : (n : ℕ) (xs : List ℕ) → IsSubsetFrom 1 (suc n) xs → (IsMember (suc n) xs → ⊥) → IsSubsetFrom 1 n xs
shorter n xs h off = let k = (subset_is_increasing (suc n) xs).0 h in
    (subset_is_increasing n xs).1 (
      k.0,
      λ e m.
          let b = k.1 e m in
          let low = b.0 in
          let high = b.1 in
          let other : e ≢ suc n = (λ q. off (subst (λ z. IsMember z xs) q m)) in
          (low, omega arith),
    )

-- an element that the list doesn't have
pub record IsOff (low m : ℕ) (xs : List ℕ) (e : ℕ) : Type 0 where
  pub low_is : low ≤ e
  pub high_is : e < low + m
  pub off : IsMember e xs → ⊥

pub off_list : (low m : ℕ) (xs : List ℕ) → IsSubsetFrom low m xs → length xs < m → (e : ℕ) × IsOff low m xs e
off_list low zero xs h l = absurd (omega arith)
off_list low (suc m) [] h l = (low, record { low_is = omega arith; high_is = omega arith; off = λ k. absurd k })
off_list low (suc m) (x ∷ xs) (inl (q, h)) l =
    let r = off_list (low + 1) m xs h (omega arith) in
    let a = r.1.low_is in
    let b = r.1.high_is in (
      r.0,
      record {
        low_is = omega arith;
        high_is = omega arith;
        off = λ k. ⊎_elim (λ e. absurd (omega arith)) (λ j. r.1.off j) k;
      },
    )
off_list low (suc m) (x ∷ xs) (inr (q, h)) l = (
  low,
  record {
    low_is = omega arith;
    high_is = omega arith;
    off = λ k. (let b = members_from (low + 1) m low (x ∷ xs) h k in let c = b.0 in omega arith);
  },
)
