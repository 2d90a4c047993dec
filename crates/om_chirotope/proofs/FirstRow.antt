-- The relations of the first row that isn't zero, with two later ones at a time, give all relations of a picture.
--
-- Main results: relations_of_first_row; triple_from_relations.
use Rattle.std.specs.Prelude.{ℕ, ◌≡◌, ◌≢◌, ◌+◌, ◌-◌, ◌<◌, ◌⊎◌, List, [], ◌∷◌, ◌++◌, length, refl}
use Rattle.std.specs.Int.{bit_at}
use Rattle.std.proofs.Common.{sym, ap, subst, ◌∙◌, inl, inr, arith, get_or, append_assoc}
use Rattle.std.proofs.lemmas.Bool.{cases_lt, cases_order}
use Rattle.std.proofs.lemmas.List.{get_or_past}
use Rattle.om_signs.specs.declared.sign.Sign.{Sign}
use Rattle.om_signs.specs.declared.sign.Sign.TheVariants.{Zero}
use Rattle.om_signs.specs.Sign.{opposite, product}
use Rattle.om_signs.specs.SignVec.{at, at_element}
use Rattle.om_signs.proofs.SignLaws.{product_zero_left, product_zero_right, zero_or_nonzero, own_opposite}
use Rattle.om_signs.proofs.SignLaws.{zero_if_opposite, opposite_zero, right_factor_zero, product_comm}
use Rattle.om_signs.proofs.SignLaws.{opposite-opposite, product_turned_right, product-same, product_turned_comm}
use Rattle.om_laws.specs.Relations.{along}
use Rattle.om_laws.specs.Sorting.{IsElement}
use Rattle.om_laws.specs.ThreeTerm.{AreBalanced}
use Rattle.om_laws.proofs.TupleLaws.{value_alternating}
use Rattle.om_laws.proofs.BridgeLaws.{length-as_list}
use Rattle.om_laws.proofs.BalancedSigns.{balanced_first_exchanged, balanced_last_two, balanced_ends, balanced_first_two}
use Rattle.om_laws.proofs.BalancedSigns.{balanced_same, balanced_zeros, balanced_alone}
use Rattle.om_chirotope.specs.Map.{SignMap, chi_of, value_of}
use Rattle.om_chirotope.specs.Pictures.{AreRowsBelow, HasRelationsAt, IsLive, IsTriple}
use Rattle.om_chirotope.proofs.Places.{cocircuit_place}
use Rattle.om_chirotope.proofs.SignChecks.{relation_of_four}

module _ (m : SignMap) (p : List ℕ) where
  abbrev n : ℕ
  n = m.elements

  -- the sign of two elements in the picture of P
  abbrev pair : ℕ → ℕ → Sign
  pair a b = value_of m (p ++ a ∷ b ∷ [])

  abbrev IsRelation : ℕ → ℕ → ℕ → ℕ → Type 0
  IsRelation a b c d = AreBalanced (product (pair a b) (pair c d)) (opposite (product (pair a c) (pair b d)))
      (product (pair a d) (pair b c))

  turned : (a b : ℕ) → pair a b ≡ opposite (pair b a)
  turned a b = value_alternating (chi_of m) b a p []

  same : (a : ℕ) → pair a a ≡ Zero
  same a = own_opposite (pair a a) (turned a a)

  -- an element whose signs are all zero
  abbrev IsSilent : ℕ → Type 0
  IsSilent b = (e : ℕ) → IsElement n e → pair b e ≡ Zero

  heard_from : (b a : ℕ) → IsSilent b → IsElement n a → pair a b ≡ Zero
  heard_from b a s i = zero_if_opposite (pair a b) (pair b a) (turned a b) (s a i)

  -- ---- the relations of x with three elements

  relation_same_first : (x c d : ℕ) → IsRelation x x c d
  relation_same_first x c d =
      balanced_same _ _ _ _ _ _ (product_zero_left _ _ (same x)) refl (product_comm (pair x d) (pair x c))
      (balanced_last_two (product (pair x c) (pair x d)))

  relation_same_second : (x b d : ℕ) → IsRelation x b x d
  relation_same_second x b d =
      balanced_same _ _ _ _ _ _ refl (opposite_zero _ (product_zero_left _ _ (same x)))
      (product_turned_comm (pair x d) (pair x b) (pair b x) (turned b x))
      (balanced_ends (product (pair x b) (pair x d)))

  relation_same_third : (x b d : ℕ) → IsRelation x b b d
  relation_same_third x b d =
      balanced_same _ _ _ _ _ _ refl refl (product_zero_right _ _ (same b))
      (balanced_first_two (product (pair x b) (pair b d)))

  relation_silent_first : (x b c d : ℕ) → IsElement n x → IsElement n c → IsElement n d → IsSilent b
      → IsRelation x b c d
  relation_silent_first x b c d ix ic id s =
      balanced_zeros _ _ _ (product_zero_left _ _ (heard_from b x s ix))
      (opposite_zero _ (product_zero_right _ _ (s d id))) (product_zero_right _ _ (s c ic))

  relation_silent_second : (x b c d : ℕ) → IsElement n x → IsElement n b → IsElement n d → IsSilent c
      → IsRelation x b c d
  relation_silent_second x b c d ix ib id s =
      balanced_zeros _ _ _ (product_zero_right _ _ (s d id))
      (opposite_zero _ (product_zero_left _ _ (heard_from c x s ix))) (product_zero_right _ _ (heard_from c b s ib))

  relation_swapped : (x b c d : ℕ) → IsRelation x b c d → IsRelation x c b d
  relation_swapped x b c d h =
      balanced_same _ _ _ _ _ _ (sym (opposite-opposite (product (pair x c) (pair b d)))) refl
      (product_turned_right (pair x d) (pair b c) (pair c b) (turned c b))
      (balanced_first_exchanged (product (pair x b) (pair c d)) (opposite (product (pair x c) (pair b d)))
      (product (pair x d) (pair b c)) h)

  -- what an element is to x: x itself, silent, or one of some later ones
  abbrev IsKind : ℕ → (ℕ → Type 0) → ℕ → Type 0
  IsKind x Later b = (b ≡ x) ⊎ (IsSilent b ⊎ Later b)

  relations_with : (x : ℕ) (Later : ℕ → Type 0) → IsElement n x → ((b : ℕ) → IsElement n b → IsKind x Later b)
      → ((b c d : ℕ) → b < c → Later b → Later c → IsElement n d → IsRelation x b c d)
      → (b c d : ℕ) → IsElement n b → IsElement n c → IsElement n d → IsRelation x b c d
  relations_with x Later ix kinds later b c d ib ic id = go (kinds b ib) (kinds c ic)
    where
      go : IsKind x Later b → IsKind x Later c → IsRelation x b c d
      go (inl q) k = subst (λ e. IsRelation x e c d) (sym q) (relation_same_first x c d)
      go (inr (inl s)) k = relation_silent_first x b c d ix ic id s
      go (inr (inr lb)) (inl q) = subst (λ e. IsRelation x b e d) (sym q) (relation_same_second x b d)
      go (inr (inr lb)) (inr (inl s)) = relation_silent_second x b c d ix ib id s
      go (inr (inr lb)) (inr (inr lc)) = elim (cases_order b c) [
        | inl q ↦ subst (λ e. IsRelation x b e d) q (relation_same_third x b d)
        | inr (inl lt) ↦ later b c d lt lb lc id
        | inr (inr gt) ↦ relation_swapped x c b d (later c b d gt lc lb id)
      ]

  -- ---- and all relations

  all_relations : (x t : ℕ) → IsElement n x → IsElement n t → pair x t ≢ Zero
      → ((b c d : ℕ) → IsElement n b → IsElement n c → IsElement n d → IsRelation x b c d)
      → (a b c d : ℕ) → IsElement n a → IsElement n b → IsElement n c → IsElement n d → IsRelation a b c d
  all_relations x t ix it nz with a b c d ia ib ic id =
      go (zero_or_nonzero (pair x a)) (zero_or_nonzero (pair x b)) (zero_or_nonzero (pair x c))
      (zero_or_nonzero (pair x d))
    where
      four : (pair x a ≢ Zero) ⊎ ((pair x b ≢ Zero) ⊎ ((pair x c ≢ Zero) ⊎ (pair x d ≢ Zero))) → IsRelation a b c d
      four k = relation_of_four (pair x a) (pair x b) (pair x c) (pair x d) (pair a b) (pair a c) (pair a d) (pair b c)
          (pair b d) (pair c d) k (with a b c ia ib ic) (with a b d ia ib id) (with a c d ia ic id)
          (with b c d ib ic id)

      -- two elements that are zero with x are zero with one another
      none : (e f : ℕ) → IsElement n e → IsElement n f → pair x e ≡ Zero → pair x f ≡ Zero → pair e f ≡ Zero
      none e f ie if_ ze zf =
          right_factor_zero (pair x t) (pair e f) nz
          (balanced_alone (product (pair x t) (pair e f))
          (balanced_same _ _ _ _ _ _ refl (sym (opposite_zero _ (product_zero_left _ _ ze)))
          (sym (product_zero_left _ _ zf)) (with t e f it ie if_)))

      go : (pair x a ≡ Zero) ⊎ (pair x a ≢ Zero) → (pair x b ≡ Zero) ⊎ (pair x b ≢ Zero) → (pair x c ≡ Zero)
          ⊎ (pair x c ≢ Zero) → (pair x d ≡ Zero) ⊎ (pair x d ≢ Zero) → IsRelation a b c d
      go (inr k) zb zc zd = four (inl k)
      go (inl za) (inr k) zc zd = four (inr (inl k))
      go (inl za) (inl zb) (inr k) zd = four (inr (inr (inl k)))
      go (inl za) (inl zb) (inl zc) (inr k) = four (inr (inr (inr k)))
      go (inl za) (inl zb) (inl zc) (inl zd) = balanced_zeros _ _ _
          (product_zero_left _ _ (none a b ia ib za zb))
          (opposite_zero _ (product_zero_left _ _ (none a c ia ic za zc)))
          (product_zero_left _ _ (none a d ia id za zd))

  -- ---- by the rows

  -- an element with a bit in a mask
  abbrev IsLater : ℕ → ℕ → Type 0
  IsLater later b = IsElement n b × (bit_at later (b - 1) ≡ 1)

  module _ (rows : List (List Sign)) (are : AreRowsBelow m p rows (m.elements + 1)) where
    at_row : (a b : ℕ) → IsElement n a → IsElement n b → at (get_or rows (a - 1) []) (b - 1) ≡ pair a b
    at_row a b ia ib =
        let high = ia.1 in
        ap (λ r. at_element r b) (are.row a ia.0 (omega (arith, high))) ∙ cocircuit_place m (p ++ a ∷ []) b ib.0 ib.1
        ∙ ap (value_of m) (append_assoc p (a ∷ []) (b ∷ []))

    row_length : (a : ℕ) → IsElement n a → length (get_or rows (a - 1) []) ≡ n
    row_length a ia = let high = ia.1 in ap length (are.row a ia.0 (omega (arith, high)))
        ∙ length-as_list n (along (value_of m) (p ++ a ∷ []))

    relation_of_triple : (x b c d : ℕ) → IsElement n x → IsElement n b → IsElement n c → IsElement n d
        → IsTriple rows (x - 1) (b - 1) (c - 1) → IsRelation x b c d
    relation_of_triple x b c d ix ib ic id h =
        let len = row_length x ix in
        let low = id.0 in
        let high = id.1 in
        balanced_same _ _ _ _ _ _
        (sym (product-same (at_row x b ix ib) (at_row c d ic id)))
        (ap opposite (sym (product-same (at_row x c ix ic) (at_row b d ib id))))
        (sym (product-same (at_row x d ix id) (at_row b c ib ic)))
        (h.each (d - 1) (omega (arith, len, low, high)))

    pub triple_from_relations : (i j k : ℕ) → i < m.elements → j < m.elements → k < m.elements → HasRelationsAt m p
        → IsTriple rows i j k
    triple_from_relations i j k il jl kl all = record { each = each }
      where
        one : (i : ℕ) → i < m.elements → IsElement n (i + 1)
        one i l = (omega arith, omega (arith, l))

        back : (i : ℕ) → i + 1 - 1 ≡ i
        back i = omega arith

        sign : (a b : ℕ) → a < m.elements → b < m.elements → at (get_or rows a []) b ≡ pair (a + 1) (b + 1)
        sign a b al bl = ap (λ r. at (get_or rows r []) b) (sym (back a))
            ∙ ap (at (get_or rows (a + 1 - 1) [])) (sym (back b)) ∙ at_row (a + 1) (b + 1) (one a al) (one b bl)

        each : (l : ℕ) → l < length (get_or rows i [])
            → AreBalanced (product (at (get_or rows i []) j) (at (get_or rows k []) l))
            (opposite (product (at (get_or rows i []) k) (at (get_or rows j []) l)))
            (product (at (get_or rows i []) l) (at (get_or rows j []) k))
        each l lt =
            let len = ap (λ r. length (get_or rows r [])) (sym (back i)) ∙ row_length (i + 1) (one i il) in
            let ll : l < m.elements = omega (arith, lt, len) in
            balanced_same _ _ _ _ _ _
            (product-same (sign i j il jl) (sign k l kl ll))
            (ap opposite (product-same (sign i k il kl) (sign j l jl ll)))
            (product-same (sign i l il ll) (sign j k jl kl))
            ((all (i + 1) (j + 1) (k + 1) (one i il) (one j jl) (one k kl)).each (l + 1) (omega arith)
            (omega (arith, ll)))

    -- a row that isn't zero, and a mask of all others that aren't
    pub relations_of_first_row : (i later : ℕ) → i < m.elements → IsLive rows i
        → ((j : ℕ) → j < m.elements → j ≢ i → (bit_at later j ≡ 1) ⊎ (IsLive rows j → ⊥))
        → ((j k : ℕ) → j < k → bit_at later j ≡ 1 → bit_at later k ≡ 1 → IsTriple rows i j k) → HasRelationsAt m p
    relations_of_first_row i later il live others triples = go live
      where
        ix : IsElement n (i + 1)
        ix = (omega arith, omega (arith, il))

        silent : (b : ℕ) → IsElement n b → (IsLive rows (b - 1) → ⊥) → IsSilent b
        silent b ib dead e ie =
            elim (zero_or_nonzero (pair b e))
            [ inl z ↦ z | inr k ↦ absurd (dead (e - 1, λ z. k (sym (at_row b e ib ie) ∙ z))) ]

        kinds : (b : ℕ) → IsElement n b → IsKind (i + 1) (IsLater later) b
        kinds b ib =
            elim (cases_order b (i + 1)) [
              | inl q ↦ inl q
              | inr (inl lt) ↦ other (omega (arith, lt))
              | inr (inr gt) ↦
                  other (omega (arith, gt))
            ]
          where
            other : b - 1 ≢ i → IsKind (i + 1) (IsLater later) b
            other ne = let low = ib.0 in let high = ib.1 in
                elim (others (b - 1) (omega (arith, low, high)) ne)
                [ inl o ↦ inr (inr (ib, o)) | inr d ↦ inr (inl (silent b ib d)) ]

        back : i + 1 - 1 ≡ i
        back = omega arith

        later_ones : (b c d : ℕ) → b < c → IsLater later b → IsLater later c → IsElement n d → IsRelation (i + 1) b c d
        later_ones b c d lt lb lc id =
            let low = lb.0.0 in
            relation_of_triple (i + 1) b c d ix lb.0 lc.0 id
            (subst (λ r. IsTriple rows r (b - 1) (c - 1)) (sym back)
            (triples (b - 1) (c - 1) (omega (arith, lt, low)) lb.1 lc.1))

        go : IsLive rows i → HasRelationsAt m p
        go (l, nz) x y z jx jy jz =
            record {
              each = λ w wl wh. all_relations (i + 1) (l + 1) ix it nonzero
                  (relations_with (i + 1) (IsLater later) ix kinds later_ones) x y z w jx jy jz (wl, wh);
            }
          where
            len : length (get_or rows i []) ≡ m.elements
            len = ap (λ r. length (get_or rows r [])) (sym back) ∙ row_length (i + 1) ix

            it : IsElement n (l + 1)
            it = elim (cases_lt l (length (get_or rows i []))) [
              | inl lt ↦ let s = len in (omega arith, omega (arith, lt, s))
              | inr ge ↦ absurd (nz (get_or_past (get_or rows i []) l Zero ge))
            ]

            nonzero : pair (i + 1) (l + 1) ≢ Zero
            nonzero q =
                nz (ap (λ r. at (get_or rows r []) l) (sym back) ∙ ap (at (get_or rows (i + 1 - 1) [])) (l_back l)
                ∙ at_row (i + 1) (l + 1) ix it ∙ q)
              where
                l_back : (l : ℕ) → l ≡ l + 1 - 1
                l_back l = omega arith

    -- where all rows are zero, all terms are
    pub relations_of_zeros : ((j : ℕ) → j < m.elements → IsLive rows j → ⊥) → HasRelationsAt m p
    relations_of_zeros dead x y z jx jy jz = record {
      each = λ w wl wh.
          balanced_zeros _ _ _ (product_zero_left _ _ (silent y jy))
          (opposite_zero _ (product_zero_left _ _ (silent z jz))) (product_zero_left _ _ (silent w (wl, wh)));
    }
      where
        silent : (e : ℕ) → IsElement n e → pair x e ≡ Zero
        silent e ie =
            let lx = jx.0 in
            let hx = jx.1 in
            elim (zero_or_nonzero (pair x e)) [
              | inl z ↦ z
              | inr k ↦
                  absurd (dead (x - 1) (omega (arith, lx, hx)) (e - 1, λ z. k (sym (at_row x e jx ie) ∙ z)))
            ]
