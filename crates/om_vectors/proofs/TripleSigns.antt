-- The signs of triple products as a map on tuples, and the chirotope that they make.
--
-- Main results: alternating, that the map alternates; realized_value, that a realized map has these signs on all
-- tuples; relations, its relations; own_signs, that vectors realize the map of their signs; chirotope_of, that it is a
-- chirotope.
use Rattle.std.proofs.Common.{ℕ, ◌≡◌, ◌≢◌, ◌<◌, ◌≤◌, ◌⊎◌, ◌↔◌, List, [], ◌∷◌, length, get_or, refl, sym, ◌∙◌, ap, inl}
use Rattle.std.proofs.Common.{inr, arith}
use Rattle.std.specs.Prelude.{ℤ, pos, ◌+ℤ◌, ◌-ℤ◌, ◌*ℤ◌, neg_ℤ}
use Rattle.std.proofs.lemmas.List.{length-map, get_or-map}
use Rattle.om_signs.specs.declared.sign.Sign.{Sign}
use Rattle.om_signs.specs.declared.sign.Sign.TheVariants.{Minus, Zero, Plus}
use Rattle.om_signs.specs.Sign.{opposite, product}
use Rattle.om_signs.proofs.SignLaws.{product_comm, opposite-opposite}
use Rattle.om_signs.proofs.Rings.{sums}
use Rattle.om_subsets.specs.Subsets.{IsSubsetFrom, all_subsets, rank_of}
use Rattle.om_subsets.proofs.Order.{length-subsets_from, rank_from-lt, get_or-rank_from}
use Rattle.om_subsets.proofs.Triples.{triple_subset}
use Rattle.om_laws.specs.Tuples.{IsAlternating, value}
use Rattle.om_laws.specs.Sorting.{IsIncreasing, IsElement, IsTuple, on_tuples}
use Rattle.om_laws.specs.Relations.{HasIncreasingRelations, IsBalanced, along}
use Rattle.om_laws.proofs.TupleLaws.{value_alternating}
use Rattle.om_laws.proofs.TupleSizes.{is_tuple_cases, on_tuples_at, on_tuples_off, on_tuples_alternating}
use Rattle.om_laws.proofs.TupleSizes.{triple_is_tuple}
use Rattle.om_laws.proofs.SortingLaws.{value_increasing, alternating_equal}
use Rattle.om_laws.proofs.ChirotopeLaws.{chirotope_from_increasing}
use Rattle.om_chirotope.specs.Map.{SignMap, IsMap, chi_of, value_of}
use Rattle.om_chirotope.specs.Chirotope.{IsChirotope}
use Rattle.om_chirotope.proofs.Theory.{map_chirotope}
use Rattle.om_vectors.specs.WholeVectors.{WholeVector, triple_product, sign_of}
use Rattle.om_vectors.specs.Balance.{total, HasSign}
use Rattle.om_vectors.specs.Realizations.{vector_at, triple_sign, signs_map, Realizes}
use Rattle.om_vectors.proofs.Identities.{swap_first, swap_last, four_terms}
use Rattle.om_vectors.proofs.NumberSigns.{sign-neg, sign-times, sign_zero, balanced}

-- the triple product of the vectors of three elements
abbrev pub bracket : List WholeVector → ℕ → ℕ → ℕ → ℤ
bracket vs a b c = triple_product (vector_at vs a) (vector_at vs b) (vector_at vs c)

pub alternating : (vs : List WholeVector) → IsAlternating (triple_sign vs)
alternating vs x y [] [] = refl
alternating vs x y [] (c ∷ []) = ap sign_of (swap_first (vector_at vs x) (vector_at vs y) (vector_at vs c))
    ∙ sign-neg (bracket vs x y c)
alternating vs x y [] (c ∷ d ∷ ds) = refl
alternating vs x y (a ∷ []) [] = ap sign_of (swap_last (vector_at vs a) (vector_at vs x) (vector_at vs y))
    ∙ sign-neg (bracket vs a x y)
alternating vs x y (a ∷ []) (d ∷ ds) = refl
alternating vs x y (a ∷ b ∷ []) bs = refl
alternating vs x y (a ∷ b ∷ c ∷ []) bs = refl
alternating vs x y (a ∷ b ∷ c ∷ d ∷ cs) bs = refl

-- a map that vectors realize has the signs of their triple products on all tuples of three elements
pub realized_value : (vs : List WholeVector) (m : SignMap) → Realizes vs m → (t : List ℕ) → IsTuple m.elements 3 t
    → value_of m t ≡ triple_sign vs t
realized_value vs m h t tuple =
    sym (on_tuples_at m.elements 3 (chi_of m) t tuple)
    ∙ alternating_equal (on_tuples m.elements 3 (chi_of m)) (on_tuples m.elements 3 (triple_sign vs))
    (on_tuples_alternating m.elements 3 (chi_of m)) (on_tuples_alternating m.elements 3 (triple_sign vs)) same t
    ∙ on_tuples_at m.elements 3 (triple_sign vs) t tuple
    ∙ sym (alternating_equal (triple_sign vs) (value (triple_sign vs)) (alternating vs)
    (value_alternating (triple_sign vs)) (λ xs i. sym (value_increasing (triple_sign vs) xs i)) t)
  where
    in_order : (xs : List ℕ) → IsTuple m.elements 3 xs → IsIncreasing xs → chi_of m xs ≡ triple_sign vs xs
    in_order [] u i = let s = u.size in absurd (omega arith)
    in_order (a ∷ []) u i = let s = u.size in absurd (omega arith)
    in_order (a ∷ b ∷ []) u i = let s = u.size in absurd (omega arith)
    in_order (a ∷ b ∷ c ∷ []) u i = sym (h.signs a b c u.within.0.0 i.0 i.1.0 u.within.1.1.0.1)
    in_order (a ∷ b ∷ c ∷ d ∷ ds) u i = let s = u.size in absurd (omega arith)

    same : (xs : List ℕ) → IsIncreasing xs → on_tuples m.elements 3 (chi_of m) xs
        ≡ on_tuples m.elements 3 (triple_sign vs) xs
    same xs i = elim (is_tuple_cases m.elements 3 xs) [
      | inl u ↦ on_tuples_at m.elements 3 (chi_of m) xs u.0 ∙ value_increasing (chi_of m) xs i ∙ in_order xs u.0 i
          ∙ sym (value_increasing (triple_sign vs) xs i) ∙ sym (on_tuples_at m.elements 3 (triple_sign vs) xs u.0)
      | inr n ↦ on_tuples_off m.elements 3 (chi_of m) xs n.0 ∙ sym (on_tuples_off m.elements 3 (triple_sign vs) xs n.0)
    ]

-- ---- the relation of four elements with two

-- some of four signs, taken with alternating signs, is s
abbrev pub HasOneOf : Sign → Sign → Sign → Sign → Sign → Type 0
HasOneOf p q r t s = (p ≡ opposite s)
    ⊎ ((q ≡ opposite (opposite s))
    ⊎ ((r ≡ opposite (opposite (opposite s))) ⊎ ((t ≡ opposite (opposite (opposite (opposite s)))) ⊎ ⊥)))

four_balanced : (p q r t : Sign) (w x y z : ℤ) → p ≡ sign_of w → q ≡ sign_of x → r ≡ sign_of y → t ≡ sign_of z
    → w -ℤ x +ℤ y -ℤ z ≡ pos 0 → HasOneOf p q r t Plus ↔ HasOneOf p q r t Minus
four_balanced p q r t w x y z ep eq er et e =
    let b = balanced (neg_ℤ w ∷ x ∷ neg_ℤ y ∷ z ∷ []) none in
    (λ h. from Minus (b.0 (to Plus h)), λ h. from Plus (b.1 (to Minus h)))
  where
    none : total (neg_ℤ w ∷ x ∷ neg_ℤ y ∷ z ∷ []) ≡ pos 0
    none = omega sums

    four_times : (s : Sign) → opposite (opposite (opposite (opposite s))) ≡ s
    four_times s = opposite-opposite (opposite (opposite s)) ∙ opposite-opposite s

    turned : (v : ℤ) (s : Sign) → sign_of (neg_ℤ v) ≡ s → sign_of v ≡ opposite s
    turned v s h = sym (opposite-opposite (sign_of v)) ∙ ap opposite (sym (sign-neg v) ∙ h)

    to : (s : Sign) → HasOneOf p q r t s → HasSign (neg_ℤ w ∷ x ∷ neg_ℤ y ∷ z ∷ []) s
    to s (inl h) = inl (sign-neg w ∙ ap opposite (sym ep ∙ h) ∙ opposite-opposite s)
    to s (inr (inl h)) = inr (inl (sym eq ∙ h ∙ opposite-opposite s))
    to s (inr (inr (inl h))) = inr (inr (inl (sign-neg y ∙ ap opposite (sym er ∙ h) ∙ four_times s)))
    to s (inr (inr (inr (inl h)))) = inr (inr (inr (inl (sym et ∙ h ∙ four_times s))))
    to s (inr (inr (inr (inr h)))) = absurd h

    from : (s : Sign) → HasSign (neg_ℤ w ∷ x ∷ neg_ℤ y ∷ z ∷ []) s → HasOneOf p q r t s
    from s (inl h) = inl (ep ∙ turned w s h)
    from s (inr (inl h)) = inr (inl (eq ∙ h ∙ sym (opposite-opposite s)))
    from s (inr (inr (inl h))) = inr (inr (inl (er ∙ turned y s h ∙ sym (opposite-opposite (opposite s)))))
    from s (inr (inr (inr (inl h)))) = inr (inr (inr (inl (et ∙ h ∙ sym (four_times s)))))
    from s (inr (inr (inr (inr h)))) = absurd h

-- a product of two values is the sign of the product of two triple products
term : (vs : List WholeVector) (m : SignMap) → Realizes vs m → (a b c d e f : ℕ) → IsTuple m.elements 3 (a ∷ b ∷ c ∷ [])
    → IsTuple m.elements 3 (d ∷ e ∷ f ∷ []) → product (value_of m (a ∷ b ∷ c ∷ [])) (value_of m (d ∷ e ∷ f ∷ []))
    ≡ sign_of (bracket vs d e f *ℤ bracket vs a b c)
term vs m h a b c d e f t u =
    ap (λ s. product s (value_of m (d ∷ e ∷ f ∷ []))) (realized_value vs m h (a ∷ b ∷ c ∷ []) t)
    ∙ ap (λ s. product (triple_sign vs (a ∷ b ∷ c ∷ [])) s) (realized_value vs m h (d ∷ e ∷ f ∷ []) u)
    ∙ product_comm (sign_of (bracket vs a b c)) (sign_of (bracket vs d e f))
    ∙ sym (sign-times (bracket vs d e f) (bracket vs a b c))

four_relation : (vs : List WholeVector) (m : SignMap) → Realizes vs m → (s t u v a b : ℕ) → IsElement m.elements s
    → IsElement m.elements t → IsElement m.elements u → IsElement m.elements v → IsElement m.elements a
    → IsElement m.elements b → IsBalanced (value_of m) (s ∷ t ∷ u ∷ v ∷ []) (along (value_of m) (a ∷ b ∷ []))
four_relation vs m h s t u v a b hs ht hu hv ha hb =
    let n = m.elements in
    four_balanced
    (product (value_of m (t ∷ u ∷ v ∷ [])) (value_of m (a ∷ b ∷ s ∷ [])))
    (product (value_of m (s ∷ u ∷ v ∷ [])) (value_of m (a ∷ b ∷ t ∷ [])))
    (product (value_of m (s ∷ t ∷ v ∷ [])) (value_of m (a ∷ b ∷ u ∷ [])))
    (product (value_of m (s ∷ t ∷ u ∷ [])) (value_of m (a ∷ b ∷ v ∷ [])))
    (bracket vs a b s *ℤ bracket vs t u v) (bracket vs a b t *ℤ bracket vs s u v) (bracket vs a b u *ℤ bracket vs s t v)
    (bracket vs a b v *ℤ bracket vs s t u)
    (term vs m h t u v a b s (triple_is_tuple n t u v ht hu hv) (triple_is_tuple n a b s ha hb hs))
    (term vs m h s u v a b t (triple_is_tuple n s u v hs hu hv) (triple_is_tuple n a b t ha hb ht))
    (term vs m h s t v a b u (triple_is_tuple n s t v hs ht hv) (triple_is_tuple n a b u ha hb hu))
    (term vs m h s t u a b v (triple_is_tuple n s t u hs ht hu) (triple_is_tuple n a b v ha hb hv))
    (four_terms (vector_at vs a) (vector_at vs b) (vector_at vs s) (vector_at vs t) (vector_at vs u) (vector_at vs v))

pub relations : (vs : List WholeVector) (m : SignMap) → Realizes vs m → HasIncreasingRelations m.elements 3 (value_of m)
relations vs m h s a low ts ta is ia = four_of s ts
  where
    two_of : (s t u v : ℕ) → IsTuple m.elements 4 (s ∷ t ∷ u ∷ v ∷ []) → (a : List ℕ) → IsTuple m.elements 2 a
        → IsBalanced (value_of m) (s ∷ t ∷ u ∷ v ∷ []) (along (value_of m) a)
    two_of s t u v ts [] ta = let l = ta.size in absurd (omega arith)
    two_of s t u v ts (a ∷ []) ta = let l = ta.size in absurd (omega arith)
    two_of s t u v ts (a ∷ b ∷ []) ta =
        four_relation vs m h s t u v a b ts.within.0 ts.within.1.0 ts.within.1.1.0 ts.within.1.1.1.0 ta.within.0
        ta.within.1.0
    two_of s t u v ts (a ∷ b ∷ c ∷ cs) ta = let l = ta.size in absurd (omega arith)

    four_of : (s : List ℕ) → IsTuple m.elements 4 s → IsBalanced (value_of m) s (along (value_of m) a)
    four_of [] ts = let l = ts.size in absurd (omega arith)
    four_of (s ∷ []) ts = let l = ts.size in absurd (omega arith)
    four_of (s ∷ t ∷ []) ts = let l = ts.size in absurd (omega arith)
    four_of (s ∷ t ∷ u ∷ []) ts = let l = ts.size in absurd (omega arith)
    four_of (s ∷ t ∷ u ∷ v ∷ []) ts = two_of s t u v ts a ta
    four_of (s ∷ t ∷ u ∷ v ∷ w ∷ ws) ts = let l = ts.size in absurd (omega arith)

-- ---- the map of the signs

pub sign_at : (vs : List WholeVector) (t : List ℕ) → IsSubsetFrom 1 (length vs) t → length t ≡ 3
    → chi_of (signs_map vs) t ≡ triple_sign vs t
sign_at vs t h l =
    let n = length vs in
    let few : rank_of n t < length (all_subsets n 3) = rw (length-subsets_from 1 n 3, ← l) (rank_from-lt 1 n t h) in
    let back : get_or (all_subsets n 3) (rank_of n t) [] ≡ t = rw (← l) (get_or-rank_from 1 n t h) in
    get_or-map (triple_sign vs) (all_subsets n 3) (rank_of n t) [] Zero few ∙ ap (triple_sign vs) back

pub own_signs : (vs : List WholeVector) → Realizes vs (signs_map vs)
own_signs vs = record {
  rank = refl;
  elements = refl;
  signs = λ a b c low ab bc high. sym
      (sign_at vs (a ∷ b ∷ c ∷ []) (triple_subset (length vs) a b c low ab bc high) refl);
}

pub whole_map : (vs : List WholeVector) → 3 ≤ length vs → IsMap (signs_map vs)
whole_map vs l =
    record {
      part = l;
      whole = length-map (all_subsets (length vs) 3) (triple_sign vs)
          ∙ length-subsets_from 1 (length vs) 3;
    }

pub chirotope_of : (vs : List WholeVector) (a b c : ℕ) → 1 ≤ a → a < b → b < c → c ≤ length vs
    → bracket vs a b c ≢ pos 0 → IsChirotope (signs_map vs)
chirotope_of vs a b c low ab bc high n =
    let m = signs_map vs in
    let h = own_signs vs in
    map_chirotope m (whole_map vs (omega arith))
    (chirotope_from_increasing m.elements 3 (chi_of m) (relations vs m h) (a ∷ b ∷ c ∷ [])
    (triple_is_tuple m.elements a b c (low, omega arith) (omega arith, omega arith) (omega arith, high))
    (ab, (bc, tt))
    (λ z. n (sign_zero (bracket vs a b c) (h.signs a b c low ab bc high ∙ z))))
