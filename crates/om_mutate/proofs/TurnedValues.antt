-- The values of a map with the sign of one triple turned.
--
-- Main results: other_value, a tuple with an element off the triple keeps its value; kept_or_turned, an increasing
-- list; corner_or_kept, three elements in order; corner_turned, corner_kept and corner_kept_third, the values with two
-- elements of the triple.
use Rattle.std.specs.Prelude.{ℕ, ◌≡◌, ◌≢◌, ◌⊎◌, ◌<◌, List, [], ◌∷◌, ◌++◌, length}
use Rattle.std.proofs.Common.{refl, sym, ap, ◌∙◌, subst, inl, inr, arith}
use Rattle.std.proofs.lemmas.Bool.{cases_eq}
use Rattle.std.proofs.lemmas.List.{get_or-set_other}
use Rattle.om_signs.specs.declared.sign.Sign.TheVariants.{Zero}
use Rattle.om_signs.specs.Sign.{opposite}
use Rattle.om_subsets.specs.Subsets.{IsSubsetFrom, rank_of, IsTriple}
use Rattle.om_subsets.proofs.Order.{same_place}
use Rattle.om_subsets.proofs.Triples.{IsRising, triple_from}
use Rattle.om_laws.specs.Members.{IsMember}
use Rattle.om_laws.specs.Sorting.{IsElement, IsIncreasing, IsTuple}
use Rattle.om_laws.proofs.MemberLaws.{member_or_not, member_swap}
use Rattle.om_laws.proofs.SortingLaws.{by_sorting, value_increasing}
use Rattle.om_laws.proofs.TupleLaws.{neighbours_zero, value_alternating}
use Rattle.om_laws.proofs.TupleSizes.{swap_tuple, triple_is_tuple}
use Rattle.om_chirotope.specs.Map.{SignMap, IsMap, chi_of, value_of}
use Rattle.om_chirotope.proofs.Theory.{from_tuple}
use Rattle.om_wiring.proofs.ListedMaps.{swap_first, swap_last, rotated, first_equal}
use Rattle.om_mutate.specs.Mutations.{flipped}
use Rattle.om_mutate.proofs.FlipLaws.{flipped_sign}

module _ (m : SignMap) (t : List ℕ) (w : IsMap m) (r : m.rank ≡ 3) (h : IsTriple m.elements t) where
  other_sign : (u : List ℕ) → IsSubsetFrom 1 m.elements u → length u ≡ 3 → u ≢ t → chi_of (flipped m t) u ≡ chi_of m u
  other_sign u i s ne =
      get_or-set_other m.signs (rank_of m.elements t) (rank_of m.elements u) (opposite (chi_of m t)) Zero
      (λ e. ne (same_place m.elements u t i h.list (s ∙ sym h.size) e))

  abbrev Kept : ℕ → List ℕ → Type 0
  Kept z xs = IsTuple m.elements 3 xs → IsMember z xs → value_of (flipped m t) xs ≡ value_of m xs

  pub other_value : (z : ℕ) → (IsMember z t → ⊥) → (xs : List ℕ) → IsTuple m.elements 3 xs → IsMember z xs
      → value_of (flipped m t) xs ≡ value_of m xs
  other_value z out = by_sorting (Kept z) swap repeat increasing
    where
      swap : (x y : ℕ) (cs bs : List ℕ) → Kept z (cs ++ x ∷ y ∷ bs) → Kept z (cs ++ y ∷ x ∷ bs)
      swap x y cs bs k tuple q =
          value_alternating (chi_of (flipped m t)) x y cs bs
          ∙ ap opposite (k (swap_tuple m.elements 3 x y cs bs tuple) (member_swap z y x cs bs q))
          ∙ sym (value_alternating (chi_of m) x y cs bs)

      repeat : (x : ℕ) (cs bs : List ℕ) → Kept z (cs ++ x ∷ x ∷ bs)
      repeat x cs bs tuple q =
          neighbours_zero (value_of (flipped m t)) (value_alternating (chi_of (flipped m t))) x cs bs
          ∙ sym (neighbours_zero (value_of m) (value_alternating (chi_of m)) x cs bs)

      increasing : (xs : List ℕ) → IsIncreasing xs → Kept z xs
      increasing xs i tuple q =
          value_increasing (chi_of (flipped m t)) xs i
          ∙ other_sign xs (from_tuple m.elements 3 xs tuple i) tuple.size (λ e. out (subst (IsMember z) e q))
          ∙ sym (value_increasing (chi_of m) xs i)

  -- an increasing list keeps its sign, or it is the triple
  pub kept_or_turned : (u : List ℕ) → IsSubsetFrom 1 m.elements u → length u ≡ 3 → (u ≡ t)
      ⊎ (chi_of (flipped m t) u ≡ chi_of m u)
  kept_or_turned u i s = elim (cases_eq (rank_of m.elements u) (rank_of m.elements t)) [
    | inl e ↦ inl (same_place m.elements u t i h.list (s ∙ sym h.size) e)
    | inr ne ↦
        inr (get_or-set_other m.signs (rank_of m.elements t) (rank_of m.elements u) (opposite (chi_of m t)) Zero ne)
  ]

-- ---- two elements of the triple a, b, c, and a third one

-- one of three rising numbers, and the other two in order
abbrev pub IsCorner : ℕ → ℕ → ℕ → ℕ → ℕ → ℕ → Type 0
IsCorner a b c p x y = ((p ≡ a) × (x ≡ b) × (y ≡ c)) ⊎ (((p ≡ b) × (x ≡ a) × (y ≡ c)) ⊎ ((p ≡ c) × (x ≡ a) × (y ≡ b)))

module _ (m : SignMap) (a b c : ℕ) (w : IsMap m) (r : m.rank ≡ 3) (i : IsRising m.elements a b c) where
  pub the_triple : IsTriple m.elements (a ∷ b ∷ c ∷ [])
  the_triple = triple_from m.elements a b c i.low i.first i.second i.high

  abbrev pub turned_map : SignMap
  turned_map = flipped m (a ∷ b ∷ c ∷ [])

  turned : value_of turned_map (a ∷ b ∷ c ∷ []) ≡ opposite (value_of m (a ∷ b ∷ c ∷ []))
  turned =
      value_increasing (chi_of turned_map) (a ∷ b ∷ c ∷ []) (i.first, (i.second, tt))
      ∙ flipped_sign m (a ∷ b ∷ c ∷ []) w r the_triple
      ∙ ap opposite (sym (value_increasing (chi_of m) (a ∷ b ∷ c ∷ []) (i.first, (i.second, tt))))

  turned_at : (p x y : ℕ) → IsCorner a b c p x y → value_of turned_map (p ∷ x ∷ y ∷ [])
      ≡ opposite (value_of m (p ∷ x ∷ y ∷ []))
  turned_at p x y (inl (e, f, g)) = rw (e, f, g) turned
  turned_at p x y (inr (inl (e, f, g))) =
      rw (e, f, g)
      (swap_first (value_of turned_map) (value_alternating (chi_of turned_map)) a b c
      ∙ ap opposite (turned ∙ sym (swap_first (value_of m) (value_alternating (chi_of m)) a b c)))
  turned_at p x y (inr (inr (e, f, g))) =
      rw (e, f, g)
      (rotated (value_of turned_map) (value_alternating (chi_of turned_map)) a b c
      ∙ turned
      ∙ ap opposite (sym (rotated (value_of m) (value_alternating (chi_of m)) a b c)))

  pub corner_turned : (p x y : ℕ) → IsCorner a b c p x y
      → value_of (flipped m (a ∷ b ∷ c ∷ [])) (p ∷ x ∷ y ∷ []) ≡ opposite (value_of m (p ∷ x ∷ y ∷ []))
  corner_turned = turned_at

  -- another element is off the triple
  off_corner : (p x y z : ℕ) → IsCorner a b c p x y → z ≢ p → z ≢ x → z ≢ y → IsMember z (a ∷ b ∷ c ∷ []) → ⊥
  off_corner p x y z (inl (e, f, g)) np nx ny (inl q) = np (q ∙ sym e)
  off_corner p x y z (inl (e, f, g)) np nx ny (inr (inl q)) = nx (q ∙ sym f)
  off_corner p x y z (inl (e, f, g)) np nx ny (inr (inr (inl q))) = ny (q ∙ sym g)
  off_corner p x y z (inl (e, f, g)) np nx ny (inr (inr (inr q))) = absurd q
  off_corner p x y z (inr (inl (e, f, g))) np nx ny (inl q) = nx (q ∙ sym f)
  off_corner p x y z (inr (inl (e, f, g))) np nx ny (inr (inl q)) = np (q ∙ sym e)
  off_corner p x y z (inr (inl (e, f, g))) np nx ny (inr (inr (inl q))) = ny (q ∙ sym g)
  off_corner p x y z (inr (inl (e, f, g))) np nx ny (inr (inr (inr q))) = absurd q
  off_corner p x y z (inr (inr (e, f, g))) np nx ny (inl q) = nx (q ∙ sym f)
  off_corner p x y z (inr (inr (e, f, g))) np nx ny (inr (inl q)) = ny (q ∙ sym g)
  off_corner p x y z (inr (inr (e, f, g))) np nx ny (inr (inr (inl q))) = np (q ∙ sym e)
  off_corner p x y z (inr (inr (e, f, g))) np nx ny (inr (inr (inr q))) = absurd q

  pub corner_kept : (p x y z v : ℕ) → IsCorner a b c p x y → IsElement m.elements p → IsElement m.elements z
      → IsElement m.elements v → z ≢ x → z ≢ y → value_of (flipped m (a ∷ b ∷ c ∷ [])) (p ∷ z ∷ v ∷ [])
      ≡ value_of m (p ∷ z ∷ v ∷ [])
  corner_kept p x y z v k ip iz iv nx ny = elim (cases_eq z p) [
    | inl e ↦
        rw e
        (first_equal (value_of turned_map) (value_alternating (chi_of turned_map)) p v
        ∙ sym (first_equal (value_of m) (value_alternating (chi_of m)) p v))
    | inr np ↦ other_value m (a ∷ b ∷ c ∷ []) w r the_triple z (off_corner p x y z k np nx ny) (p ∷ z ∷ v ∷ [])
        (triple_is_tuple m.elements p z v ip iz iv) (inr (inl refl))
  ]

  pub corner_kept_third : (p x y z v : ℕ) → IsCorner a b c p x y → IsElement m.elements p → IsElement m.elements z
      → IsElement m.elements v → z ≢ x → z ≢ y → value_of (flipped m (a ∷ b ∷ c ∷ [])) (p ∷ v ∷ z ∷ [])
      ≡ value_of m (p ∷ v ∷ z ∷ [])
  corner_kept_third p x y z v k ip iz iv nx ny =
      swap_last (value_of turned_map) (value_alternating (chi_of turned_map)) p z v
      ∙ ap opposite (corner_kept p x y z v k ip iz iv nx ny)
      ∙ sym (swap_last (value_of m) (value_alternating (chi_of m)) p z v)

  -- three elements of the triple, the last two in order
  corner_of : (p x y : ℕ) → p ≢ x → p ≢ y → x < y → IsMember p (a ∷ b ∷ c ∷ []) → IsMember x (a ∷ b ∷ c ∷ [])
      → IsMember y (a ∷ b ∷ c ∷ []) → IsCorner a b c p x y
  corner_of p x y nx ny l (inl e) (inl f) k = absurd (nx (e ∙ sym f))
  corner_of p x y nx ny l (inl e) (inr (inl f)) (inl g) = absurd (ny (e ∙ sym g))
  corner_of p x y nx ny l (inl e) (inr (inl f)) (inr (inl g)) = absurd (omega (arith, f, g, l))
  corner_of p x y nx ny l (inl e) (inr (inl f)) (inr (inr (inl g))) = inl (e, f, g)
  corner_of p x y nx ny l (inl e) (inr (inr (inl f))) (inl g) = absurd (ny (e ∙ sym g))
  corner_of p x y nx ny l (inl e) (inr (inr (inl f))) (inr (inl g)) = let o = i.second in
      absurd (omega (arith, f, g, l, o))
  corner_of p x y nx ny l (inl e) (inr (inr (inl f))) (inr (inr (inl g))) = absurd (omega (arith, f, g, l))
  corner_of p x y nx ny l (inr (inl e)) (inl f) (inl g) = absurd (omega (arith, f, g, l))
  corner_of p x y nx ny l (inr (inl e)) (inl f) (inr (inl g)) = absurd (ny (e ∙ sym g))
  corner_of p x y nx ny l (inr (inl e)) (inl f) (inr (inr (inl g))) = inr (inl (e, f, g))
  corner_of p x y nx ny l (inr (inl e)) (inr (inl f)) k = absurd (nx (e ∙ sym f))
  corner_of p x y nx ny l (inr (inl e)) (inr (inr (inl f))) (inl g) = let o = i.first in let q = i.second in
      absurd (omega (arith, f, g, l, o, q))
  corner_of p x y nx ny l (inr (inl e)) (inr (inr (inl f))) (inr (inl g)) = absurd (ny (e ∙ sym g))
  corner_of p x y nx ny l (inr (inl e)) (inr (inr (inl f))) (inr (inr (inl g))) = absurd (omega (arith, f, g, l))
  corner_of p x y nx ny l (inr (inr (inl e))) (inl f) (inl g) = absurd (omega (arith, f, g, l))
  corner_of p x y nx ny l (inr (inr (inl e))) (inl f) (inr (inl g)) = inr (inr (e, f, g))
  corner_of p x y nx ny l (inr (inr (inl e))) (inl f) (inr (inr (inl g))) = absurd (ny (e ∙ sym g))
  corner_of p x y nx ny l (inr (inr (inl e))) (inr (inl f)) (inl g) = let o = i.first in
      absurd (omega (arith, f, g, l, o))
  corner_of p x y nx ny l (inr (inr (inl e))) (inr (inl f)) (inr (inl g)) = absurd (omega (arith, f, g, l))
  corner_of p x y nx ny l (inr (inr (inl e))) (inr (inl f)) (inr (inr (inl g))) = absurd (ny (e ∙ sym g))
  corner_of p x y nx ny l (inr (inr (inl e))) (inr (inr (inl f))) k = absurd (nx (e ∙ sym f))
  corner_of p x y nx ny l (inr (inr (inr e))) f g = absurd e
  corner_of p x y nx ny l e (inr (inr (inr f))) g = absurd f
  corner_of p x y nx ny l e f (inr (inr (inr g))) = absurd g

  -- three elements, the last two in order, are the triple or keep their value
  pub corner_or_kept : (p x y : ℕ) → IsElement m.elements p → IsElement m.elements x → IsElement m.elements y → p ≢ x
      → p ≢ y → x < y → IsCorner a b c p x y
      ⊎ (value_of (flipped m (a ∷ b ∷ c ∷ [])) (p ∷ x ∷ y ∷ []) ≡ value_of m (p ∷ x ∷ y ∷ []))
  corner_or_kept p x y ip ix iy nx ny l =
      let u = triple_is_tuple m.elements p x y ip ix iy in
      let other = other_value m (a ∷ b ∷ c ∷ []) w r the_triple in elim (member_or_not p (a ∷ b ∷ c ∷ [])) [
        | inr out ↦ inr (other p out (p ∷ x ∷ y ∷ []) u (inl refl))
        | inl mp ↦ elim (member_or_not x (a ∷ b ∷ c ∷ [])) [
          | inr out ↦ inr (other x out (p ∷ x ∷ y ∷ []) u (inr (inl refl)))
          | inl mx ↦ elim (member_or_not y (a ∷ b ∷ c ∷ [])) [
            | inr out ↦ inr (other y out (p ∷ x ∷ y ∷ []) u (inr (inr (inl refl))))
            | inl my ↦ inl (corner_of p x y nx ny l mp mx my)
          ]
        ]
      ]
