-- Increasing lists without an element, and within one another.
--
-- Main results: a part has no more elements (length_of_part); leaving out an element that stands in the middle
-- (without_middle).
use Rattle.std.proofs.Common.{ℕ, zero, suc, ◌≡◌, ◌≢◌, ◌+◌, ◌≤◌, List, [], ◌∷◌, ◌++◌, length, refl, sym, ap, inl, inr}
use Rattle.std.proofs.Common.{arith}
use Rattle.std.proofs.lemmas.Bool.{eq-eqb, ne_eqb}
use Rattle.om_subsets.specs.Subsets.{IsSubsetFrom, IsMember, without_element, IsPartOf}
use Rattle.om_subsets.proofs.OneElement.{without_other}
use Rattle.om_subsets.proofs.Order.{members_from}
use Rattle.om_laws.specs.Members.{IsDistinct}
use Rattle.om_laws.proofs.MemberLaws.{member_middle}

pub length_of_part : (low m : ℕ) (t s : List ℕ) → IsSubsetFrom low m t → IsSubsetFrom low m s → IsPartOf t s
    → length t ≤ length s
length_of_part low m [] s a b part = omega arith
length_of_part low m (x ∷ xs) [] a b part = absurd (part x (inl refl))
length_of_part low zero (x ∷ xs) (y ∷ ys) a b part = absurd a
length_of_part low (suc m) (x ∷ xs) (y ∷ ys) (inl (p, a)) (inl (q, b)) part =
    let i = length_of_part (low + 1) m xs ys a b (λ e k. later e k (part e (inr k))) in
    omega arith
  where
    later : (e : ℕ) → IsMember e xs → IsMember e (y ∷ ys) → IsMember e ys
    later e k (inl r) = let bound = members_from (low + 1) m e xs a k in absurd (omega arith)
    later e k (inr l) = l
length_of_part low (suc m) (x ∷ xs) (y ∷ ys) (inl (p, a)) (inr (q, b)) part =
    let bound = members_from (low + 1) m x (y ∷ ys) b (part x (inl refl)) in absurd (omega arith)
length_of_part low (suc m) (x ∷ xs) (y ∷ ys) (inr (p, a)) (inl (q, b)) part =
    let i = length_of_part (low + 1) m (x ∷ xs) ys a b (λ e k. later e k (part e k)) in
    omega arith
  where
    later : (e : ℕ) → IsMember e (x ∷ xs) → IsMember e (y ∷ ys) → IsMember e ys
    later e k (inl r) = let bound = members_from (low + 1) m e (x ∷ xs) a k in absurd (omega arith)
    later e k (inr l) = l
length_of_part low (suc m) (x ∷ xs) (y ∷ ys) (inr (p, a)) (inr (q, b)) part =
    length_of_part (low + 1) m (x ∷ xs) (y ∷ ys) a b part

pub without_middle : (u : List ℕ) (e : ℕ) (v : List ℕ) → IsDistinct (u ++ e ∷ v)
    → without_element e (u ++ e ∷ v) ≡ u ++ v
without_middle [] e v d = rw (eq-eqb e e refl) (without_other e v d.0)
without_middle (x ∷ u) e v d =
    let ne : e ≢ x = (λ q. d.0 (rw (sym q) (member_middle e u v))) in
    rw (ne_eqb e x ne) (ap (λ l. x ∷ l) (without_middle u e v d.1))
