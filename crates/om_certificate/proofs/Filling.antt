-- The table of the weights of all triples.
--
-- Main results: none_filled, turn_filled and all_filled, the start, the step and the end of filling it from the last
-- weight on; turn_triple
use Rattle.std.specs.Prelude.{ℕ, ◌≡◌, ◌≢◌, ◌+◌, ◌-◌, ◌<◌, ◌≤◌, ℤ, pos, List, [], ◌∷◌, length, map, drop, All}
use Rattle.std.specs.Prelude.{unsigned_abs}
use Rattle.std.proofs.Common.{refl, sym, ◌∙◌, ap, subst, arith, inl, inr, ◌⊎◌, zero, suc, reverse}
use Rattle.std.proofs.Math.ListN.{get_or, set}
use Rattle.std.proofs.lemmas.Bool.{cases_eq, eq-eqb, ne_eqb, cases_lt}
use Rattle.std.proofs.lemmas.List.{get_or-set_same, get_or-set_other, get_or_past, length-map, length-reverse}
use Rattle.std.proofs.lemmas.List.{get_or-reverse}
use Rattle.std.proofs.Math.Seq.{drop-cons}
use Rattle.std.proofs.lemmas.Int.{to_z-of_z, fits_signed_from_abs}
use mir.Syntax.{w128}
use mir.Val.{to_z, of_z}
use Rattle.om_signs.specs.declared.limits.TheConstants.{MAX_WEIGHT}
use Rattle.om_subsets.specs.Subsets.{choose, rank_of, IsTriple}
use Rattle.om_subsets.proofs.Triples.{place_below, rising_of_triple}
use Rattle.om_chirotope.specs.Map.{SignMap}
use Rattle.om_certificate.specs.declared.weight.Weight.{Weight}
use Rattle.om_certificate.specs.Weights.{bracket_of, weight_of, AreOfBrackets}
use Rattle.om_certificate.specs.Tables.{IsWeightTable, AreSmall, IsOfTriple}
use Rattle.om_certificate.proofs.NonzeroBrackets.{bracket_triples}
use Rattle.om_certificate.proofs.Triples.{same-place}

-- the table has the weights from the index j on
pub record IsFilling (n : ℕ) (ws : List Weight) (j : ℕ) (table : List ℤ) : Type 0 where
  pub weights : (b : List ℕ) → IsTriple n b → get_or table (rank_of n b) (pos 0) ≡ weight_of (drop j ws) b
  pub small : AreSmall table

zero_at : (table : List ℤ) → All (λ z. z ≡ pos 0) table → (k : ℕ) → get_or table k (pos 0) ≡ pos 0
zero_at table z k = elim (cases_lt k (length table)) [ inl l ↦ z k (pos 0) l | inr g ↦ get_or_past table k (pos 0) g ]

pub none_filled : (n : ℕ) (ws : List Weight) (j : ℕ) (table : List ℤ) → length ws ≤ j → All (λ z. z ≡ pos 0) table
    → IsFilling n ws j table
none_filled n ws j table l z = record {
  weights = λ b hb. zero_at table z (rank_of n b) ∙ sym (ap (λ xs. weight_of xs b) (drop_past ws j l));
  small = λ k. let e = ap unsigned_abs (zero_at table z k) in omega (arith, e);
}
  where
    drop_none : {X : Type 0} (j : ℕ) → drop {A = X} j [] ≡ []
    drop_none zero = refl
    drop_none (suc j) = refl

    drop_past : {X : Type 0} (xs : List X) (j : ℕ) → length xs ≤ j → drop j xs ≡ []
    drop_past [] j l = drop_none j
    drop_past (x ∷ xs) zero l = absurd (omega arith)
    drop_past (x ∷ xs) (suc j) l = drop_past xs j (omega arith)

-- the bracket of each weight is an increasing triple
weight_triple : (m : SignMap) (ws : List Weight) (j : ℕ) (d : Weight) → AreOfBrackets m ws → j < length ws
    → IsTriple m.elements (bracket_of (get_or ws j d))
weight_triple m ws j d e l =
    subst (IsTriple m.elements) (ap (λ xs. get_or xs j (bracket_of d)) (sym e) ∙ at_map ws j l)
    (bracket_triples m j (bracket_of d) (let f = ap length (sym e) ∙ length-map ws bracket_of in omega (arith, f)))
  where
    at_map : (ws : List Weight) (j : ℕ) → j < length ws
        → get_or (map bracket_of ws) j (bracket_of d) ≡ bracket_of (get_or ws j d)
    at_map [] j l = absurd (omega arith)
    at_map (w ∷ ws) zero l = refl
    at_map (w ∷ ws) (suc j) l = at_map ws j (omega arith)

pub is_of_triple : (n : ℕ) (w : Weight) → IsTriple n (bracket_of w) → IsOfTriple n w
is_of_triple n w t = let p = rising_of_triple n w.a w.b w.c t in
    record { a = p.low; a_b = p.first; b_c = p.second; c = p.high }

pub one_filled :
    (n : ℕ) (ws : List Weight) (j p : ℕ) (d : Weight) (table : List ℤ)
    → j < length ws
    → IsTriple n (bracket_of (get_or ws j d))
    → p ≡ rank_of n (bracket_of (get_or ws j d))
    → choose n 3 ≤ length table
    → unsigned_abs (get_or ws j d).value ≤ unsigned_abs MAX_WEIGHT
    → IsFilling n ws (j + 1) table
    → IsFilling n ws j (set table p (get_or ws j d).value)
one_filled n ws j p d table l t q room s h = record {
  weights = λ b hb. at_triple b hb (cases_eq (rank_of n b) p) ∙ sym (ap (λ xs. weight_of xs b) (drop-cons ws j d l));
  small = λ k. small k (cases_eq k p);
}
  where
    within : p < length table
    within = let f = place_below n (bracket_of (get_or ws j d)) t in omega (arith, q)

    at_triple : (b : List ℕ) → IsTriple n b → (rank_of n b ≡ p) ⊎ (rank_of n b ≢ p)
        → get_or (set table p (get_or ws j d).value) (rank_of n b) (pos 0)
        ≡ weight_of (get_or ws j d ∷ drop (suc j) ws) b
    at_triple b hb (inl e) =
        rw (
          same-place n b (bracket_of (get_or ws j d)) hb t,
          eq-eqb (rank_of n b) (rank_of n (bracket_of (get_or ws j d))) (e ∙ q),
        )
        (ap (λ k. get_or (set table p (get_or ws j d).value) k (pos 0)) e
        ∙ get_or-set_same table p (get_or ws j d).value (pos 0) within)
    at_triple b hb (inr n') =
        rw (
          same-place n b (bracket_of (get_or ws j d)) hb t,
          ne_eqb (rank_of n b) (rank_of n (bracket_of (get_or ws j d))) (λ e. n' (e ∙ sym q)),
        )
        (get_or-set_other table p (rank_of n b) (get_or ws j d).value (pos 0) n' ∙ h.weights b hb
        ∙ ap (λ i. weight_of (drop i ws) b) (let f : j + 1 ≡ suc j = omega arith in f))

    small : (k : ℕ) → (k ≡ p) ⊎ (k ≢ p) → unsigned_abs (get_or (set table p (get_or ws j d).value) k (pos 0))
        ≤ unsigned_abs MAX_WEIGHT
    small k (inl e) = subst (λ z. unsigned_abs z ≤ unsigned_abs MAX_WEIGHT)
        (sym (ap (λ i. get_or (set table p (get_or ws j d).value) i (pos 0)) e
        ∙ get_or-set_same table p (get_or ws j d).value (pos 0) within)) s
    small k (inr n') = subst (λ z. unsigned_abs z ≤ unsigned_abs MAX_WEIGHT)
        (sym (get_or-set_other table p k (get_or ws j d).value (pos 0) n')) (h.small k)

fill_step :
    (m : SignMap) (ws : List Weight) (i p : ℕ) (d : Weight) (table : List ℤ)
    → AreOfBrackets m ws
    → i < length ws
    → p ≡ rank_of m.elements (bracket_of (get_or ws (length ws - 1 - i) d))
    → choose m.elements 3 ≤ length table
    → All (λ w. unsigned_abs w.value ≤ unsigned_abs MAX_WEIGHT) ws
    → IsFilling m.elements ws (length ws - i) table
    → IsFilling m.elements ws (length ws - (i + 1))
    (set table p (to_z w128 (of_z w128 (get_or ws (length ws - 1 - i) d).value)))
fill_step m ws i p d table e l q room small h =
    let within : length ws - 1 - i < length ws = omega arith in
    let size : unsigned_abs (get_or ws (length ws - 1 - i) d).value ≤ unsigned_abs MAX_WEIGHT =
    small (length ws - 1 - i) d within in
    let back = to_z-of_z w128 (get_or ws (length ws - 1 - i) d).value
    (fits_signed_from_abs w128 (get_or ws (length ws - 1 - i) d).value (omega arith)) in
    let before : length ws - i ≡ length ws - 1 - i + 1 = omega arith in
    let after : length ws - 1 - i ≡ length ws - (i + 1) = omega arith in
    subst (λ k. IsFilling m.elements ws k (set table p (to_z w128 (of_z w128 (get_or ws (length ws - 1 - i) d).value))))
    after
    (subst (λ z. IsFilling m.elements ws (length ws - 1 - i) (set table p z)) (sym back)
    (one_filled m.elements ws (length ws - 1 - i) p d table within (weight_triple m ws (length ws - 1 - i) d e within) q
    room size (subst (λ k. IsFilling m.elements ws k table) before h)))

-- the weight of a turn of a loop from the last weight to the first
abbrev pub IsTurn : List Weight → ℕ → Weight → Type 0
IsTurn ws i w = (i < length (reverse ws)) × (w ≡ get_or (reverse ws) i w)

turn_below : (ws : List Weight) (i : ℕ) (w : Weight) → IsTurn ws i w → i < length ws
turn_below ws i w t = let l = t.0 in let e = length-reverse ws in omega arith

turn_is : (ws : List Weight) (i : ℕ) (w : Weight) → IsTurn ws i w → w ≡ get_or ws (length ws - 1 - i) w
turn_is ws i w t = t.1 ∙ get_or-reverse ws i w (turn_below ws i w t)

pub turn_triple : (m : SignMap) (ws : List Weight) (i : ℕ) (w : Weight) → AreOfBrackets m ws → IsTurn ws i w
    → IsTriple m.elements (bracket_of w)
turn_triple m ws i w h t = subst (λ x. IsTriple m.elements (bracket_of x)) (sym (turn_is ws i w t))
    (weight_triple m ws (length ws - 1 - i) w h (let l = turn_below ws i w t in omega arith))

pub turn_filled :
    (m : SignMap) (ws : List Weight) (i p k : ℕ) (w : Weight) (table : List ℤ)
    → AreOfBrackets m ws
    → IsTurn ws i w
    → p ≡ rank_of m.elements (bracket_of w)
    → k ≡ i + 1
    → choose m.elements 3 ≤ length table
    → All (λ w. unsigned_abs w.value ≤ unsigned_abs MAX_WEIGHT) ws
    → IsFilling m.elements ws (length ws - i) table
    → IsFilling m.elements ws (length ws - k) (set table p (to_z w128 (of_z w128 w.value)))
turn_filled m ws i p k w table h t q e room small f =
    subst (λ k. IsFilling m.elements ws (length ws - k) (set table p (to_z w128 (of_z w128 w.value)))) (sym e)
    (subst (λ x. IsFilling m.elements ws (length ws - (i + 1)) (set table p (to_z w128 (of_z w128 x.value))))
    (sym (turn_is ws i w t))
    (fill_step m ws i p w table h (turn_below ws i w t)
    (q ∙ ap (λ x. rank_of m.elements (bracket_of x)) (turn_is ws i w t)) room small f))

pub all_filled : (n : ℕ) (ws : List Weight) (j : ℕ) (table : List ℤ) → j ≡ 0 → choose n 3 ≤ length table
    → IsFilling n ws j table → IsWeightTable n ws table
all_filled n ws j table e room h = record {
  room = room;
  weights = λ b hb. h.weights b hb ∙ ap (λ k. weight_of (drop k ws) b) e;
  small = h.small;
}
