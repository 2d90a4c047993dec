-- Maps of rank 3 that are given by a sign for each list, and the order in which a wire crosses two others, as a pencil.
--
-- Main definitions: listed_map
-- Main results: listed_sign, listed_whole, on_triple, swap_first, swap_last, rotated, first_equal, last_equal,
-- ends_equal, pencil
-- Reference: Björner, Las Vergnas, Sturmfels, White and Ziegler, Oriented Matroids, chapter 6.
use Rattle.std.specs.Prelude.{ℕ, ◌≡◌, ◌<◌, ◌≤◌, List, [], ◌∷◌, length, map}
use Rattle.std.proofs.Common.{refl, sym, ap, ◌∙◌, subst, inl, inr, arith, get_or}
use Rattle.std.proofs.lemmas.Bool.{cases_eq, cases_lt}
use Rattle.std.proofs.lemmas.List.{length-map, get_or-map}
use Rattle.om_signs.specs.declared.sign.Sign.{Sign}
use Rattle.om_signs.specs.declared.sign.Sign.TheVariants.{Minus, Zero, Plus}
use Rattle.om_signs.specs.Sign.{opposite, product}
use Rattle.om_signs.proofs.SignLaws.{product_zero_left, product_zero_right, equal_if_twice_opposite, own_opposite}
use Rattle.om_subsets.specs.Subsets.{IsSubsetFrom, all_subsets, rank_of}
use Rattle.om_subsets.proofs.Order.{length-subsets_from, rank_from-lt, get_or-rank_from}
use Rattle.om_laws.specs.Tuples.{IsAlternating, order_sign}
use Rattle.om_laws.specs.Sorting.{IsElement, on_tuples}
use Rattle.om_laws.proofs.TupleSizes.{on_tuples_at, triple_is_tuple}
use Rattle.om_laws.proofs.SortingLaws.{value_increasing}
use Rattle.om_laws.proofs.OrderSigns.{order_sign_less, order_sign_equal, order_sign_greater, order_sign_swap}
use Rattle.om_subsets.proofs.Triples.{triple_subset}
use Rattle.om_chirotope.specs.Map.{SignMap, IsMap, chi_of}
use Rattle.om_wiring.proofs.CrossingSteps.{InOneOrder}
use Rattle.om_wiring.proofs.Pencils.{IsPencil}

-- ---- maps of rank 3 that are given by a sign for each list

abbrev pub listed_map : ℕ → (List ℕ → Sign) → SignMap
listed_map n f = record { rank = 3; elements = n; signs = map f (all_subsets n 3) }

-- in a listed map each increasing list of three elements has the sign that is given for it
pub listed_sign : (n : ℕ) (f : List ℕ → Sign) (t : List ℕ) → IsSubsetFrom 1 n t → length t ≡ 3
    → chi_of (listed_map n f) t ≡ f t
listed_sign n f t h l =
    let few : rank_of n t < length (all_subsets n 3) = rw (length-subsets_from 1 n 3, ← l) (rank_from-lt 1 n t h) in
    let back : get_or (all_subsets n 3) (rank_of n t) [] ≡ t = rw (← l) (get_or-rank_from 1 n t h) in
    get_or-map f (all_subsets n 3) (rank_of n t) [] Zero few ∙ ap f back

-- a listed map of at least three elements has a sign for each increasing list of three
pub listed_whole : (n : ℕ) (f : List ℕ → Sign) → 3 ≤ n → IsMap (listed_map n f)
listed_whole n f l = record { part = l; whole = length-map (all_subsets n 3) f ∙ length-subsets_from 1 n 3 }

-- the value of an increasing triple
pub on_triple : (n : ℕ) (f : List ℕ → Sign) (a b c : ℕ) → IsElement n a → IsElement n b → IsElement n c → a < b → b < c
    → on_tuples n 3 (chi_of (listed_map n f)) (a ∷ b ∷ c ∷ []) ≡ f (a ∷ b ∷ c ∷ [])
on_triple n f a b c ia ib ic ab bc =
    on_tuples_at n 3 (chi_of (listed_map n f)) (a ∷ b ∷ c ∷ []) (triple_is_tuple n a b c ia ib ic)
    ∙ value_increasing (chi_of (listed_map n f)) (a ∷ b ∷ c ∷ []) (ab, (bc, tt))
    ∙ listed_sign n f (a ∷ b ∷ c ∷ []) (triple_subset n a b c ia.0 ab bc ic.1) refl

-- ---- the order in which a wire crosses others, from the order of the crossings of three wires

same_order : (ab ac bc : ℕ) → InOneOrder ab ac bc → (order_sign ab bc ≡ order_sign ab ac)
    × (order_sign ab bc ≡ order_sign ac bc)
same_order ab ac bc (inl h) = let e = h.0 in let f = h.1 in
    let z = order_sign_equal ab bc (omega (arith, e, f)) in
    (z ∙ sym (order_sign_equal ab ac e), z ∙ sym (order_sign_equal ac bc (sym f)))
same_order ab ac bc (inr (inl h)) = let e = h.0 in let f = h.1 in
    let z = order_sign_less ab bc (omega (arith, e, f)) in
    (z ∙ sym (order_sign_less ab ac e), z ∙ sym (order_sign_less ac bc f))
same_order ab ac bc (inr (inr h)) = let e = h.0 in let f = h.1 in
    let z = order_sign_greater ab bc (omega (arith, e, f)) in
    (z ∙ sym (order_sign_greater ab ac f), z ∙ sym (order_sign_greater ac bc e))

plain : (s t u v w : Sign) → s ≡ t → u ≡ Plus → v ≡ Plus → t ≡ w → s ≡ product (product u v) w
plain s t u v w e f g h = grind arith

both_minus : (s t u v w : Sign) → s ≡ t → u ≡ Minus → v ≡ Minus → t ≡ w → s ≡ product (product u v) w
both_minus s t u v w e f g h = grind arith

left_minus : (s t u v w : Sign) → s ≡ opposite t → u ≡ Minus → v ≡ Plus → t ≡ w → s ≡ product (product u v) w
left_minus s t u v w e f g h = grind arith

module _ (chi : List ℕ → Sign) (alt : IsAlternating chi) where
  -- an alternating map is negated where the first two of three elements are exchanged
  pub swap_first : (a b c : ℕ) → chi (b ∷ a ∷ c ∷ []) ≡ opposite (chi (a ∷ b ∷ c ∷ []))
  swap_first a b c = alt a b [] (c ∷ [])

  -- an alternating map is negated where the last two of three elements are exchanged
  pub swap_last : (a b c : ℕ) → chi (a ∷ c ∷ b ∷ []) ≡ opposite (chi (a ∷ b ∷ c ∷ []))
  swap_last a b c = alt b c (a ∷ []) []

  -- an alternating map keeps its value where the last of three elements moves to the front
  pub rotated : (a b c : ℕ) → chi (c ∷ a ∷ b ∷ []) ≡ chi (a ∷ b ∷ c ∷ [])
  rotated a b c = equal_if_twice_opposite (chi (c ∷ a ∷ b ∷ [])) (chi (a ∷ c ∷ b ∷ [])) (chi (a ∷ b ∷ c ∷ []))
      (swap_first a c b)
      (swap_last a b c)

  -- an alternating map is zero where the first two of three elements are equal
  pub first_equal : (a b : ℕ) → chi (a ∷ a ∷ b ∷ []) ≡ Zero
  first_equal a b = own_opposite (chi (a ∷ a ∷ b ∷ [])) (swap_first a a b)

  -- an alternating map is zero where the last two of three elements are equal
  pub last_equal : (a b : ℕ) → chi (a ∷ b ∷ b ∷ []) ≡ Zero
  last_equal a b = own_opposite (chi (a ∷ b ∷ b ∷ [])) (swap_last a b b)

  pub ends_equal : (a b : ℕ) → chi (a ∷ b ∷ a ∷ []) ≡ Zero
  ends_equal a b = rotated b a a ∙ last_equal b a

  module _ (n : ℕ) (time : ℕ → ℕ → ℕ)
      (symmetric : (a b : ℕ) → time a b ≡ time b a)
      (in_order : (a b c : ℕ) → IsElement n a → IsElement n b → IsElement n c → a < b → b < c
      → InOneOrder (time a b) (time a c) (time b c))
      (value : (a b c : ℕ) → IsElement n a → IsElement n b → IsElement n c → a < b → b < c
      → chi (a ∷ b ∷ c ∷ []) ≡ order_sign (time a b) (time b c))
    where
      on_order : (p b c : ℕ) → IsElement n p → IsElement n b → IsElement n c → b < c
          → chi (p ∷ b ∷ c ∷ []) ≡ product (product (order_sign p b) (order_sign p c))
          (order_sign (time p b) (time p c))
      on_order p b c ip ib ic bc = elim (cases_lt p b) [
        | inl pb ↦ plain (chi (p ∷ b ∷ c ∷ [])) (order_sign (time p b) (time b c)) (order_sign p b) (order_sign p c)
            (order_sign (time p b) (time p c))
            (value p b c ip ib ic pb bc) (order_sign_less p b pb) (order_sign_less p c (omega (arith, pb, bc)))
            (same_order (time p b) (time p c) (time b c) (in_order p b c ip ib ic pb bc)).0
        | inr bp ↦ elim (cases_eq p b) [
          | inl e ↦
              subst (λ z. chi (p ∷ z ∷ c ∷ []) ≡ product (product (order_sign p z) (order_sign p c))
              (order_sign (time p z) (time p c))) e
              (first_equal p c
              ∙ sym (product_zero_left (product (order_sign p p) (order_sign p c))
              (order_sign (time p p) (time p c))
              (product_zero_left (order_sign p p) (order_sign p c) (order_sign_equal p p refl))))
          | inr ne ↦
              let lt : b < p = grind (arith, bp, ne) in elim (cases_lt p c) [
                | inl pc ↦ left_minus (chi (p ∷ b ∷ c ∷ [])) (order_sign (time b p) (time p c)) (order_sign p b)
                    (order_sign p c) (order_sign (time p b) (time p c))
                    (swap_first b p c ∙ ap opposite (value b p c ib ip ic lt pc)) (order_sign_greater p b lt)
                    (order_sign_less p c pc) (ap (λ k. order_sign k (time p c)) (symmetric b p))
                | inr cp ↦ elim (cases_eq p c) [
                  | inl e ↦
                      subst (λ z. chi (p ∷ b ∷ z ∷ [])
                      ≡ product (product (order_sign p b) (order_sign p z)) (order_sign (time p b) (time p z))) e
                      (ends_equal p b
                      ∙ sym (product_zero_left (product (order_sign p b) (order_sign p p))
                      (order_sign (time p b) (time p p))
                      (product_zero_right (order_sign p b) (order_sign p p) (order_sign_equal p p refl))))
                  | inr nc ↦
                      let gt : c < p = grind (arith, cp, nc) in
                      both_minus (chi (p ∷ b ∷ c ∷ [])) (order_sign (time b c) (time c p)) (order_sign p b)
                      (order_sign p c) (order_sign (time p b) (time p c))
                      (rotated b c p ∙ value b c p ib ic ip bc gt) (order_sign_greater p b lt)
                      (order_sign_greater p c gt)
                      ((same_order (time b c) (time b p) (time c p) (in_order b c p ib ic ip bc gt)).1
                      ∙ ap (λ k. order_sign k (time c p)) (symmetric b p)
                      ∙ ap (order_sign (time p b)) (symmetric c p))
                ]
              ]
        ]
      ]

      turned : (s s' u v w w' : Sign) → s ≡ opposite s' → w ≡ opposite w' → s' ≡ product (product v u) w'
          → s ≡ product (product u v) w
      turned s s' u v w w' e f g = grind arith

      pub pencil : IsPencil n time chi
      pencil p b c ip ib ic = elim (cases_lt b c) [
        | inl l ↦ on_order p b c ip ib ic l
        | inr g ↦ elim (cases_eq b c) [
          | inl e ↦
              subst (λ z. chi (p ∷ b ∷ z ∷ []) ≡ product (product (order_sign p b) (order_sign p z))
              (order_sign (time p b) (time p z))) e
              (last_equal p b
              ∙ sym (product_zero_right (product (order_sign p b) (order_sign p b))
              (order_sign (time p b) (time p b)) (order_sign_equal (time p b) (time p b) refl)))
          | inr n ↦
              let l : c < b = grind (arith, g, n) in
              turned (chi (p ∷ b ∷ c ∷ [])) (chi (p ∷ c ∷ b ∷ [])) (order_sign p b) (order_sign p c)
              (order_sign (time p b) (time p c)) (order_sign (time p c) (time p b))
              (swap_last p c b) (order_sign_swap (time p c) (time p b)) (on_order p c b ip ic ib l)
        ]
      ]
