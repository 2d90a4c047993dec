-- Exchange and the relations of a map in terms of its values on lists: the relations of a list with any four elements.
--
-- Main results: relations_of_low_rank, relations_at
use Rattle.std.specs.Prelude.{ℕ, ◌≡◌, ◌≢◌, ◌+◌, ◌-◌, ◌<◌, ◌⊎◌, List, [], ◌∷◌, ◌++◌, length, refl}
use Rattle.std.proofs.Common.{suc, sym, ap, subst, ◌∙◌, arith, inl, inr}
use Rattle.std.proofs.lemmas.List.{length-append, append-nil}
use Rattle.om_signs.specs.declared.sign.Sign.{Sign}
use Rattle.om_signs.specs.declared.sign.Sign.TheVariants.{Zero}
use Rattle.om_signs.specs.Sign.{opposite, product}
use Rattle.om_signs.proofs.SignLaws.{product_zero_left, product_zero_right, zero_or_nonzero, opposite_zero}
use Rattle.om_subsets.specs.Subsets.{IsSubsetFrom}
use Rattle.om_subsets.proofs.Statements.{subset_is_increasing}
use Rattle.om_laws.specs.Bases.{IsBase, HasIncreasingExchange}
use Rattle.om_laws.specs.Members.{IsMember}
use Rattle.om_laws.specs.Sorting.{IsElement, IsTuple, on_tuples}
use Rattle.om_laws.specs.ThreeTerm.{AreBalanced, HasIncreasingThreeTermRelations}
use Rattle.om_laws.proofs.MemberLaws.{member_append, member_left, member_right}
use Rattle.om_laws.proofs.ThreeTermOrders.{three_terms_in_order}
use Rattle.om_laws.proofs.TupleSizes.{each_from, each_member, is_tuple_cases, on_tuples_alternating, on_tuples_at}
use Rattle.om_laws.proofs.TupleSizes.{on_tuples_tuple, tuple_last, tuple_rank, tuple_with}
use Rattle.om_laws.proofs.BalancedSigns.{balanced_same, balanced_zeros}
use Rattle.om_chirotope.specs.Map.{SignMap, chi_of, value_of}
use Rattle.om_chirotope.specs.Pictures.{HasRelationsAt}
use Rattle.om_chirotope.specs.ThreeTerm.{HasListExchange, HasThreeTermRelations}
use Rattle.om_chirotope.proofs.Theory.{from_tuple, to_tuple}

-- a tuple p of two elements less than the rank, and four elements
pub record AreFour (n r : ℕ) (p : List ℕ) (a b c d : ℕ) : Type 0 where
  pub size : length p + 2 ≡ r
  pub within : (e : ℕ) → IsMember e p → IsElement n e
  pub first : IsElement n a
  pub second : IsElement n b
  pub third : IsElement n c
  pub fourth : IsElement n d

module _ (m : SignMap) where
  abbrev n : ℕ
  n = m.elements

  abbrev r : ℕ
  r = m.rank

  abbrev chi : List ℕ → Sign
  chi = on_tuples m.elements m.rank (chi_of m)

  at_tuple : (xs : List ℕ) → IsTuple n r xs → chi xs ≡ value_of m xs
  at_tuple xs t = on_tuples_at n r (chi_of m) xs t

  pub of_base : (xs : List ℕ) → IsBase chi xs → IsTuple n r xs
  of_base xs k = on_tuples_tuple n r (chi_of m) xs k

  nonzero_value : (xs : List ℕ) → IsBase chi xs → value_of m xs ≢ Zero
  nonzero_value xs k z = k (at_tuple xs (of_base xs k) ∙ z)

  pub base_from : (xs : List ℕ) → IsTuple n r xs → value_of m xs ≢ Zero → IsBase chi xs
  base_from xs t k z = k (sym (at_tuple xs t) ∙ z)

  -- ---- exchange

  with_element : (a : List ℕ) (f : ℕ) → IsSubsetFrom 1 n a → length a + 1 ≡ r → IsElement n f
      → IsTuple n r (a ++ f ∷ [])
  with_element a f h l i =
      let t = to_tuple n (length a) a h refl in
      let q : suc (length a) ≡ r = omega (arith, l) in
      subst (λ k. IsTuple n k (a ++ f ∷ [])) q
      (tuple_with n (length a) a [] f (subst (IsTuple n (length a)) (sym (append-nil a)) t) i)

  pub theory_exchange : HasListExchange m → HasIncreasingExchange chi
  theory_exchange ex a c e ia ic na nc =
      let t = of_base (a ++ e ∷ []) na in
      let last = tuple_last n r a e t in
      let rank = tuple_rank n r a e t in
      let tc = of_base c nc in
      let size = last.0.size in
      let list = from_tuple n (r - 1) a last.0 ia in
      let sized : length a + 1 ≡ r = omega (arith, size, rank) in
      let k = ex a c e
      (record { list = list; size = sized; low = last.1.0; high = last.1.1; nonzero = nonzero_value (a ++ e ∷ []) na })
      (record { list = from_tuple n r c tc ic; size = tc.size; nonzero = nonzero_value c nc }) in (
        k.0,
        k.1,
        base_from (a ++ k.0 ∷ []) (with_element a k.0 list sized (each_member (IsElement n) c tc.within k.0 k.1)) k.2,
      )

  pub map_exchange : HasIncreasingExchange chi → HasListExchange m
  map_exchange ex a c e h b =
      let k = ex a c e ((subset_is_increasing n a).0 h.list).0 ((subset_is_increasing n c).0 b.list).0
      (base_from (a ++ e ∷ []) (with_element a e h.list h.size (h.low, h.high)) h.nonzero)
      (base_from c (to_tuple n r c b.list b.size) b.nonzero) in
      (k.0, k.1, nonzero_value (a ++ k.0 ∷ []) k.2)

  -- ---- the three-term relations

  pair_tuple : (p : List ℕ) (x y : ℕ) → length p + 2 ≡ r → ((e : ℕ) → IsMember e p → IsElement n e) → IsElement n x
      → IsElement n y → IsTuple n r (p ++ x ∷ y ∷ [])
  pair_tuple p x y l w i j = record {
    size = (let q = length-append p (x ∷ y ∷ []) in let t : length (x ∷ y ∷ []) ≡ 2 = refl in omega (arith, l, q, t));
    within = each_from (IsElement n) (p ++ x ∷ y ∷ []) (λ e k. each e (member_append e p (x ∷ y ∷ []) k));
  }
    where
      each : (e : ℕ) → IsMember e p ⊎ IsMember e (x ∷ y ∷ []) → IsElement n e
      each e (inl k) = w e k
      each e (inr (inl q)) = subst (IsElement n) (sym q) i
      each e (inr (inr (inl q))) = subst (IsElement n) (sym q) j
      each e (inr (inr (inr k))) = absurd k

  four_from : (p : List ℕ) (a b c d : ℕ) → IsTuple n r (p ++ a ∷ b ∷ []) → IsTuple n r (p ++ c ∷ d ∷ [])
      → AreFour n r p a b c d
  four_from p a b c d s t = record {
    size = (let k = s.size in let q = length-append p (a ∷ b ∷ []) in let l : length (a ∷ b ∷ []) ≡ 2 = refl in
        omega (arith, k, q, l));
    within = λ e k. each_member (IsElement n) (p ++ a ∷ b ∷ []) s.within e (member_left e p (a ∷ b ∷ []) k);
    first = each_member (IsElement n) (p ++ a ∷ b ∷ []) s.within a (member_right a p (a ∷ b ∷ []) (inl refl));
    second = each_member (IsElement n) (p ++ a ∷ b ∷ []) s.within b (member_right b p (a ∷ b ∷ []) (inr (inl refl)));
    third = each_member (IsElement n) (p ++ c ∷ d ∷ []) t.within c (member_right c p (c ∷ d ∷ []) (inl refl));
    fourth = each_member (IsElement n) (p ++ c ∷ d ∷ []) t.within d (member_right d p (c ∷ d ∷ []) (inr (inl refl)));
  }

  -- a product of two values, zero unless both lists are tuples
  zero_product : (xs ys : List ℕ) → (IsTuple n r xs → IsTuple n r ys → ⊥) → product (chi xs) (chi ys) ≡ Zero
  zero_product xs ys none = elim (zero_or_nonzero (chi xs)) [
    | inl z ↦ product_zero_left (chi xs) (chi ys) z
    | inr k ↦ elim (zero_or_nonzero (chi ys)) [
      | inl z ↦ product_zero_right (chi xs) (chi ys) z
      | inr l ↦ absurd (none (of_base xs k) (of_base ys l))
    ]
  ]

  same_product : (xs ys : List ℕ) → IsTuple n r xs → IsTuple n r ys
      → product (chi xs) (chi ys) ≡ product (value_of m xs) (value_of m ys)
  same_product xs ys s t = ap (λ k. product k (chi ys)) (at_tuple xs s) ∙ ap (product (value_of m xs)) (at_tuple ys t)

  four_or_not : (p : List ℕ) (a b c d : ℕ) → AreFour n r p a b c d ⊎ (AreFour n r p a b c d → ⊥)
  four_or_not p a b c d = elim (is_tuple_cases n r (p ++ a ∷ b ∷ [])) [
    | inl s ↦ elim (is_tuple_cases n r (p ++ c ∷ d ∷ [])) [
      | inl t ↦ inl (four_from p a b c d s.0 t.0)
      | inr k ↦ inr (λ h. k.0 (pair_tuple p c d h.size h.within h.third h.fourth))
    ]
    | inr k ↦ inr (λ h. k.0 (pair_tuple p a b h.size h.within h.first h.second))
  ]

  pub theory_three_terms : HasThreeTermRelations m → HasIncreasingThreeTermRelations chi
  theory_three_terms rel p a b c d ip ia na nb nc nd = go (four_or_not p a b c d)
    where
      turn : AreFour n r p a c b d → AreFour n r p a b c d
      turn h = record {
        size = h.size;
        within = h.within;
        first = h.first;
        second = h.third;
        third = h.second;
        fourth =
            h.fourth;
      }

      turn_last : AreFour n r p a d b c → AreFour n r p a b c d
      turn_last h =
          record {
            size = h.size;
            within = h.within;
            first = h.first;
            second = h.third;
            third = h.fourth;
            fourth =
                h.second;
          }

      listed : AreFour n r p a b c d → (e : ℕ) → IsMember e (a ∷ b ∷ c ∷ d ∷ []) → IsElement n e
      listed h e (inl q) = subst (IsElement n) (sym q) h.first
      listed h e (inr (inl q)) = subst (IsElement n) (sym q) h.second
      listed h e (inr (inr (inl q))) = subst (IsElement n) (sym q) h.third
      listed h e (inr (inr (inr (inl q)))) = subst (IsElement n) (sym q) h.fourth
      listed h e (inr (inr (inr (inr k)))) = absurd k

      go : AreFour n r p a b c d ⊎ (AreFour n r p a b c d → ⊥)
          → AreBalanced (product (chi (p ++ a ∷ b ∷ [])) (chi (p ++ c ∷ d ∷ [])))
          (opposite (product (chi (p ++ a ∷ c ∷ [])) (chi (p ++ b ∷ d ∷ []))))
          (product (chi (p ++ a ∷ d ∷ [])) (chi (p ++ b ∷ c ∷ [])))
      go (inl h) =
          let t : (x y : ℕ) → IsElement n x → IsElement n y → IsTuple n r (p ++ x ∷ y ∷ []) =
          λ x y i j. pair_tuple p x y h.size h.within i j in
          balanced_same _ _ _ _ _ _
          (same_product _ _ (t a b h.first h.second) (t c d h.third h.fourth))
          (ap opposite (same_product _ _ (t a c h.first h.third) (t b d h.second h.fourth)))
          (same_product _ _ (t a d h.first h.fourth) (t b c h.second h.third))
          (rel p a b c d (record {
            list = (subset_is_increasing n p).1 (ip, h.within);
            size = h.size;
            four = (subset_is_increasing n (a ∷ b ∷ c ∷ d ∷ [])).1 (ia, listed h);
            a_off = na;
            b_off = nb;
            c_off = nc;
            d_off = nd;
          }))
      go (inr none) = balanced_zeros _ _ _
          (zero_product _ _ (λ s t. none (four_from p a b c d s t)))
          (opposite_zero _ (zero_product _ _ (λ s t. none (turn (four_from p a c b d s t)))))
          (zero_product _ _ (λ s t. none (turn_last (four_from p a d b c s t))))

  pub relations_of_low_rank : m.rank < 2 → HasThreeTermRelations m
  relations_of_low_rank l p a b c d f = let s = f.size in absurd (omega (arith, l, s))

  -- the relations of P with any four elements
  pub relations_at : HasThreeTermRelations m → (p : List ℕ) → IsSubsetFrom 1 n p → length p + 2 ≡ r → HasRelationsAt m p
  relations_at rel p list size x y z ix iy iz = record {
    each = λ w wl wh.
        let wp = ((subset_is_increasing n p).0 list).1 in
        let t : (a b : ℕ) → IsElement n a → IsElement n b → IsTuple n r (p ++ a ∷ b ∷ []) =
        λ a b i j. pair_tuple p a b size wp i j in
        let iw : IsElement n w = (wl, wh) in
        balanced_same _ _ _ _ _ _
        (sym (same_product _ _ (t x y ix iy) (t z w iz iw)))
        (ap opposite (sym (same_product _ _ (t x z ix iz) (t y w iy iw))))
        (sym (same_product _ _ (t x w ix iw) (t y z iy iz)))
        (three_terms_in_order chi (on_tuples_alternating n r (chi_of m)) (theory_three_terms rel) p x y z w);
  }

  pub map_three_terms : ((p : List ℕ) (a b c d : ℕ)
      → AreBalanced (product (chi (p ++ a ∷ b ∷ [])) (chi (p ++ c ∷ d ∷ [])))
      (opposite (product (chi (p ++ a ∷ c ∷ [])) (chi (p ++ b ∷ d ∷ []))))
      (product (chi (p ++ a ∷ d ∷ [])) (chi (p ++ b ∷ c ∷ [])))) → HasThreeTermRelations m
  map_three_terms rel p a b c d h =
      let wp = ((subset_is_increasing n p).0 h.list).1 in
      let w = ((subset_is_increasing n (a ∷ b ∷ c ∷ d ∷ [])).0 h.four).1 in
      let ia = w a (inl refl) in
      let ib = w b (inr (inl refl)) in
      let ic = w c (inr (inr (inl refl))) in
      let id = w d (inr (inr (inr (inl refl)))) in
      let t : (x y : ℕ) → IsElement n x → IsElement n y → IsTuple n r (p ++ x ∷ y ∷ []) =
      λ x y i j. pair_tuple p x y h.size wp i j in
      balanced_same _ _ _ _ _ _
      (sym (same_product _ _ (t a b ia ib) (t c d ic id)))
      (ap opposite (sym (same_product _ _ (t a c ia ic) (t b d ib id))))
      (sym (same_product _ _ (t a d ia id) (t b c ib ic)))
      (rel p a b c d)
