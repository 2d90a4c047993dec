-- The rows of the pictures of a map: the row of an element, the relations of all lists, and the rows that a loop has
-- written.
--
-- Main definitions: AreWritten
-- Main results: row_even, row_odd, relations_of_pictures, filled_zero, none_written, rows_more,
-- rows_skip
use Rattle.std.specs.Prelude.{ℕ, ◌≡◌, ◌≢◌, ◌+◌, ◌-◌, ◌%◌, ◌<◌, ◌≤◌, ◌⊎◌, List, [], ◌∷◌, ◌++◌, length, map, refl}
use Rattle.std.proofs.Common.{sym, ◌∙◌, ap, arith, inl, inr, subst, get_or, set, replicate, zero, suc, append_assoc}
use Rattle.std.proofs.lemmas.Bool.{cases_eq, cases_order, eq-eqb, ne_eqb, lt-ltb, le-ltb}
use Rattle.std.proofs.lemmas.List.{length-set, length-map, length-replicate, get_or-map, get_or-replicate}
use Rattle.std.proofs.lemmas.List.{get_or-set_same, get_or-set_other}
use Rattle.std.proofs.lemmas.List.FromFn.{get_or-map-range_with_len}
use Rattle.om_signs.specs.declared.limits.TheConstants.{MAX_PLACES}
use Rattle.om_signs.specs.declared.sign.Sign.{Sign}
use Rattle.om_signs.specs.declared.sign.Sign.TheVariants.{Minus, Zero, Plus}
use Rattle.om_signs.specs.Sign.{opposite, product}
use Rattle.om_signs.specs.SignVec.{at}
use Rattle.om_signs.proofs.SignLaws.{product-opposite_left}
use Rattle.om_subsets.specs.Subsets.{IsSubsetFrom, IsMember, with_element, count_above}
use Rattle.om_laws.specs.Bridge.{as_list}
use Rattle.om_laws.specs.Relations.{along}
use Rattle.om_laws.specs.Signs.{negated_times}
use Rattle.om_laws.specs.Tuples.{IsAlternating}
use Rattle.om_laws.specs.ThreeTerm.{AreBalanced}
use Rattle.om_laws.proofs.MemberLaws.{member_left}
use Rattle.om_laws.proofs.TupleLaws.{last_repeat_zero, moved_over, value_alternating}
use Rattle.om_laws.proofs.BridgeLaws.{length-as_list}
use Rattle.om_subsets.proofs.Statements.{subset_is_increasing}
use Rattle.om_chirotope.specs.Map.{SignMap, chi_of, value_of, cocircuit_vector, parity_sign}
use Rattle.om_chirotope.specs.ThreeTerm.{HasThreeTermRelations}
use Rattle.om_chirotope.specs.Pictures.{AreRowsBelow, HasRelationsAt, IsBalancedTriple}
use Rattle.om_chirotope.proofs.Circuits.{parity_sign-suc, count_below}
use Rattle.om_chirotope.proofs.Places.{vector_is}

-- ---- the row of an element: the vector of P with it, negated where the number of later elements of P is odd

times_parity : (k : ℕ) (s : Sign) → negated_times k s ≡ product (parity_sign k) s
times_parity zero s = refl
times_parity (suc k) s = rw (times_parity k s, parity_sign-suc k) (sym (product-opposite_left (parity_sign k) s))

parity_cases : (k : ℕ) → (parity_sign k ≡ Plus) ⊎ (parity_sign k ≡ Minus)
parity_cases k = elim (cases_eq (k % 2) 0) [
  | inl q ↦ inl (rw (eq-eqb (k % 2) 0 q) refl)
  | inr q ↦ inr (rw (ne_eqb (k % 2) 0 q) refl)
]

turned_back : (c s t : Sign) → (c ≡ Plus) ⊎ (c ≡ Minus) → s ≡ product c t → t ≡ product c s
turned_back c s t (inl p) e = grind arith
turned_back c s t (inr p) e = grind arith

moved_in : (low m x : ℕ) (chi : List ℕ → Sign) (p v : List ℕ) → IsAlternating chi → IsSubsetFrom low m p
    → (IsMember x p → ⊥) → chi (p ++ x ∷ v) ≡ product (parity_sign (count_above x p)) (chi (with_element x p ++ v))
moved_in low m x chi [] v alt h off = refl
moved_in low zero x chi (y ∷ ys) v alt h off = absurd h
moved_in low (suc m) x chi (y ∷ ys) v alt (inl (q, h)) off =
    go (moved_in (low + 1) m x (λ t. chi (y ∷ t)) ys v (λ a b cs bs. alt a b (y ∷ cs) bs) h (λ k. off (inr k)))
    (cases_order x y)
  where
    ne : x ≢ y
    ne e = off (inl e)

    go : chi (y ∷ (ys ++ x ∷ v)) ≡ product (parity_sign (count_above x ys)) (chi (y ∷ (with_element x ys ++ v)))
        → (x ≡ y) ⊎ ((x < y) ⊎ (y < x)) → chi (y ∷ (ys ++ x ∷ v))
        ≡ product (parity_sign (count_above x (y ∷ ys))) (chi (with_element x (y ∷ ys) ++ v))
    go rest (inl e) = absurd (ne e)
    go rest (inr (inl lt)) =
        let all : count_above x (y ∷ ys) ≡ length (y ∷ ys) =
        count_below low (suc m) x (y ∷ ys) (inl (q, h)) (omega arith) in
        let over = moved_over chi alt (y ∷ ys) [] x v ∙ times_parity (length (y ∷ ys)) (chi (y ∷ (ys ++ x ∷ v))) in
        let back = turned_back (parity_sign (length (y ∷ ys))) (chi (x ∷ y ∷ (ys ++ v))) (chi (y ∷ (ys ++ x ∷ v)))
        (parity_cases (length (y ∷ ys))) over in
        back ∙ ap (λ k. product (parity_sign k) (chi (x ∷ y ∷ (ys ++ v)))) (sym all)
        ∙ ap (λ l. product (parity_sign (count_above x (y ∷ ys))) (chi (l ++ v))) (sym front)
      where
        front : with_element x (y ∷ ys) ≡ x ∷ y ∷ ys
        front = rw (ne_eqb x y ne, lt-ltb x y lt) refl
    go rest (inr (inr gt)) =
        let ge : y ≤ x = omega arith in
        rest ∙ ap (λ k. product (parity_sign k) (chi (y ∷ (with_element x ys ++ v)))) (sym (count ge))
        ∙ ap (λ l. product (parity_sign (count_above x (y ∷ ys))) (chi (l ++ v))) (sym (later ge))
      where
        count : y ≤ x → count_above x (y ∷ ys) ≡ count_above x ys
        count ge = rw (le-ltb x y ge) (omega arith)

        later : y ≤ x → with_element x (y ∷ ys) ≡ y ∷ with_element x ys
        later ge = rw (ne_eqb x y ne, le-ltb x y ge) refl
moved_in low (suc m) x chi (y ∷ ys) v alt (inr (q, h)) off = moved_in (low + 1) m x chi (y ∷ ys) v alt h off

module _ (m : SignMap) (p : List ℕ) (x : ℕ) (h : IsSubsetFrom 1 m.elements p) (off : IsMember x p → ⊥) where
  row_sign : (e : ℕ) → along (value_of m) (p ++ x ∷ []) e
      ≡ product (parity_sign (count_above x p)) (along (value_of m) (with_element x p) e)
  row_sign e = ap (value_of m) (append_assoc p (x ∷ []) (e ∷ []))
      ∙ moved_in 1 m.elements x (value_of m) p (e ∷ []) (value_alternating (chi_of m)) h off

  at_vector : (a : List ℕ) (k : ℕ) → k < m.elements → at (cocircuit_vector m a) k ≡ along (value_of m) a (k + 1)
  at_vector a k l = let e : 1 + k ≡ k + 1 = omega arith in
      get_or-map-range_with_len (along (value_of m) a) 1 m.elements k (k + 1) Zero l e

  -- if x is off P and below an even number of its elements, the row of x is the vector U of P with x
  pub row_even : (count_above x p % 2 ≡ 1 → ⊥) → cocircuit_vector m (with_element x p)
      ≡ cocircuit_vector m (p ++ x ∷ [])
  row_even n = vector_is m.elements (along (value_of m) (p ++ x ∷ [])) (cocircuit_vector m (with_element x p))
      (length-as_list m.elements (along (value_of m) (with_element x p)))
      (λ k l. at_vector (with_element x p) k l
      ∙ sym (row_sign (k + 1) ∙ plus (along (value_of m) (with_element x p) (k + 1))))
    where
      plus : (s : Sign) → product (parity_sign (count_above x p)) s ≡ s
      plus s = let z : count_above x p % 2 ≡ 0 = omega arith in rw (eq-eqb (count_above x p % 2) 0 z) refl

  -- if x is off P and below an odd number of its elements, the row of x is the negative of the vector U of P with x
  pub row_odd : count_above x p % 2 ≡ 1 → map opposite (cocircuit_vector m (with_element x p))
      ≡ cocircuit_vector m (p ++ x ∷ [])
  row_odd o =
      let len = length-as_list m.elements (along (value_of m) (with_element x p)) in
      vector_is m.elements (along (value_of m) (p ++ x ∷ [])) (map opposite (cocircuit_vector m (with_element x p)))
      (length-map (cocircuit_vector m (with_element x p)) opposite ∙ len)
      (λ k l. get_or-map opposite (cocircuit_vector m (with_element x p)) k Zero Zero (subst (λ i. k < i) (sym len) l)
      ∙ ap opposite (at_vector (with_element x p) k l)
      ∙ sym (row_sign (k + 1) ∙ minus (along (value_of m) (with_element x p) (k + 1))))
    where
      minus : (s : Sign) → product (parity_sign (count_above x p)) s ≡ opposite s
      minus s = let n : count_above x p % 2 ≢ 0 = omega arith in rw (ne_eqb (count_above x p % 2) 0 n) refl

-- ---- the relations of all lists P

pub relations_of_pictures : (m : SignMap) → ((p : List ℕ) → IsSubsetFrom 1 m.elements p → length p + 2 ≡ m.rank
    → HasRelationsAt m p) → HasThreeTermRelations m
relations_of_pictures m all p a b c d f =
    let each = ((subset_is_increasing m.elements (a ∷ b ∷ c ∷ d ∷ [])).0 f.four).1 in
    let d_in = each d (inr (inr (inr (inl refl)))) in
    swapped (all p f.list f.size a b c (each a (inl refl)) (each b (inr (inl refl)))
    (each c (inr (inr (inl refl))))) d d_in.0 d_in.1
  where
    swapped : IsBalancedTriple m p a b c → (d : ℕ) → 1 ≤ d → d ≤ m.elements
        → AreBalanced (product (value_of m (p ++ a ∷ b ∷ [])) (value_of m (p ++ c ∷ d ∷ [])))
        (opposite (product (value_of m (p ++ a ∷ c ∷ [])) (value_of m (p ++ b ∷ d ∷ []))))
        (product (value_of m (p ++ a ∷ d ∷ [])) (value_of m (p ++ b ∷ c ∷ [])))
    swapped t d low high = t.each d low high

-- ---- what the loops keep

-- the rows of the elements below x are written, and the others are zero
pub record AreWritten (m : SignMap) (p : List ℕ) (rows : List (List Sign)) (x : ℕ) : Type 0 where
  pub room : MAX_PLACES ≤ length rows
  pub below : AreRowsBelow m p rows x
  pub rest : (k : ℕ) → x ≤ k + 1 → k < length rows → get_or rows k [] ≡ replicate m.elements Zero

zeros_are : (n : ℕ) (f : ℕ → Sign) → ((e : ℕ) → 1 ≤ e → e ≤ n → f e ≡ Zero) → replicate n Zero ≡ as_list n f
zeros_are n f h = vector_is n f (replicate n Zero) (length-replicate n Zero)
    (λ k l. get_or-replicate n k Zero Zero l ∙ sym (h (k + 1) (omega arith) (omega (arith, l))))

-- 21 equal rows that are zero
pub filled_zero : (n : ℕ) (row : List Sign) → row ≡ replicate n Zero → (k : ℕ) → k < 21
    → get_or (replicate 21 row) k [] ≡ replicate n Zero
filled_zero n row e k l = get_or-replicate 21 k row [] l ∙ e

-- where all rows are zero, none is written yet
pub none_written : (m : SignMap) (p : List ℕ) (rows : List (List Sign)) → MAX_PLACES ≤ length rows
    → ((k : ℕ) → k < length rows → get_or rows k [] ≡ replicate m.elements Zero) → AreWritten m p rows 1
none_written m p rows room h = record {
  room = room;
  below = record {
    lengths = λ k l. ap length (h k l) ∙ length-replicate m.elements Zero;
    row =
        λ x low l. absurd (omega (arith, low, l));
  };
  rest = λ k g l. h k l;
}

-- if the rows of the elements below x are written, and that of x is set, those below x + 1 are written
pub rows_more : (m : SignMap) (p : List ℕ) (rows : List (List Sign)) (x : ℕ) (row : List Sign) → 1 ≤ x
    → x - 1 < length rows → row ≡ cocircuit_vector m (p ++ x ∷ []) → AreWritten m p rows x
    → AreWritten m p (set rows (x - 1) row) (x + 1)
rows_more m p rows x row low l e h =
    record {
      room = (let a = h.room in let b = length-set rows (x - 1) row in omega (arith, a, b));
      below =
          record { lengths = lengths; row = each };
      rest = rest;
    }
  where
    lengths : (k : ℕ) → k < length (set rows (x - 1) row) → length (get_or (set rows (x - 1) row) k []) ≡ m.elements
    lengths k lt = elim (cases_eq k (x - 1)) [
      | inl q ↦ ap (λ j. length (get_or (set rows (x - 1) row) j [])) q
          ∙ ap length (get_or-set_same rows (x - 1) row [] l) ∙ ap length e
          ∙ length-as_list m.elements (along (value_of m) (p ++ x ∷ []))
      | inr n ↦ ap length (get_or-set_other rows (x - 1) k row [] n)
          ∙ h.below.lengths k (let s = length-set rows (x - 1) row in omega (arith, lt, s))
    ]

    each : (y : ℕ) → 1 ≤ y → y < x + 1 → get_or (set rows (x - 1) row) (y - 1) [] ≡ cocircuit_vector m (p ++ y ∷ [])
    each y yl yh = elim (cases_eq y x) [
      | inl q ↦ ap (λ j. get_or (set rows (x - 1) row) (j - 1) []) q ∙ get_or-set_same rows (x - 1) row [] l ∙ e
          ∙ ap (λ j. cocircuit_vector m (p ++ j ∷ [])) (sym q)
      | inr n ↦ let ne : y - 1 ≢ x - 1 = omega (arith, n, yl, low) in get_or-set_other rows (x - 1) (y - 1) row [] ne
          ∙ h.below.row y yl (omega (arith, n, yh))
    ]

    rest : (k : ℕ) → x + 1 ≤ k + 1 → k < length (set rows (x - 1) row)
        → get_or (set rows (x - 1) row) k [] ≡ replicate m.elements Zero
    rest k g lt = let ne : k ≢ x - 1 = omega (arith, g, low) in get_or-set_other rows (x - 1) k row [] ne
        ∙ h.rest k (omega (arith, g)) (let s = length-set rows (x - 1) row in omega (arith, lt, s))

-- an element of P has the row of zeros
pub rows_skip : (m : SignMap) (p : List ℕ) (rows : List (List Sign)) (x : ℕ) → 1 ≤ x → x - 1 < length rows
    → IsSubsetFrom 1 m.elements p → IsMember x p → AreWritten m p rows x → AreWritten m p rows (x + 1)
rows_skip m p rows x low inside list k h = record {
  room = h.room;
  below = record { lengths = h.below.lengths; row = each };
  rest = λ j g l. h.rest j (omega (arith, g)) l;
}
  where
    each : (y : ℕ) → 1 ≤ y → y < x + 1 → get_or rows (y - 1) [] ≡ cocircuit_vector m (p ++ y ∷ [])
    each y yl yh = elim (cases_eq y x) [
      | inl q ↦
          ap (λ j. get_or rows (j - 1) []) q ∙ h.rest (x - 1) (omega (arith, low)) inside
          ∙ zeros_are m.elements (along (value_of m) (p ++ x ∷ [])) (λ e el eh. repeated e)
          ∙ ap (λ j. cocircuit_vector m (p ++ j ∷ [])) (sym q)
      | inr n ↦ h.below.row y yl (omega (arith, n, yh))
    ]
      where
        repeated : (e : ℕ) → along (value_of m) (p ++ x ∷ []) e ≡ Zero
        repeated e =
            let alt = value_alternating (chi_of m) in
            let zero : value_of m (p ++ e ∷ x ∷ []) ≡ Zero = ap (value_of m) (sym (append_assoc p (e ∷ []) (x ∷ [])))
            ∙ last_repeat_zero (value_of m) alt (p ++ e ∷ []) x (member_left x p (e ∷ []) k) in
            ap (value_of m) (append_assoc p (x ∷ []) (e ∷ [])) ∙ alt e x p [] ∙ ap opposite zero
