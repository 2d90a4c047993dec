-- In a state of a sweep, a wire that hasn't crossed all others crosses some wire next, above it or below it.
--
-- Main definitions: IsOpenRun
-- Main results: uncrossed_or_not
-- Reference: Björner, Las Vergnas, Sturmfels, White and Ziegler, Oriented Matroids, chapter 6.
use Rattle.std.specs.Prelude.{ℕ, ◌≡◌, ◌≢◌, ◌⊎◌, ◌<◌, ◌≤◌}
use Rattle.std.proofs.Common.{zero, suc, sym, subst, inl, inr, arith, ⊎_elim}
use Rattle.std.proofs.lemmas.Bool.{cases_lt}
use Rattle.om_signs.specs.declared.sign.Sign.{Sign}
use Rattle.om_signs.specs.declared.sign.Sign.TheVariants.{Minus, Zero, Plus}
use Rattle.om_signs.specs.Sign.{opposite}
use Rattle.om_signs.proofs.SignLaws.{minus_or_not, own_opposite_not_minus}
use Rattle.om_laws.specs.Sorting.{IsElement}
use Rattle.om_wiring.specs.Sweeps.{AreUncrossed}
use Rattle.om_wiring.proofs.Searches.{some_element, last_or_before}
use Rattle.om_wiring.proofs.WireOrders.{CrossesNext, IsSweepState, balanced_not_minus}

-- a run of positions whose wires cross at once, before they cross any other wire
pub record IsOpenRun (n : ℕ) (ord : ℕ → ℕ → ℕ → Sign) (pos : ℕ → ℕ) (i j : ℕ) : Type 0 where
  pub low : 1 ≤ i
  pub proper : i < j
  pub high : j ≤ n
  pub uncrossed : (x y : ℕ) → IsElement n x → IsElement n y → x ≢ y → i ≤ pos x → pos x ≤ j → i ≤ pos y → pos y ≤ j
      → AreUncrossed pos x y
  pub at_once : (x y z : ℕ) → IsElement n x → IsElement n y → IsElement n z → x ≢ y → x ≢ z → y ≢ z → i ≤ pos x
      → pos x ≤ j → i ≤ pos y → pos y ≤ j → i ≤ pos z → pos z ≤ j → ord x y z ≡ Zero
  pub before : (x y z : ℕ) → IsElement n x → IsElement n y → IsElement n z → x ≢ y → i ≤ pos x → pos x ≤ j → i ≤ pos y
      → pos y ≤ j → (pos z < i) ⊎ (j < pos z) → AreUncrossed pos x z → ord x y z ≡ Plus

pub uncrossed_symmetric : (pos : ℕ → ℕ) (x y : ℕ) → AreUncrossed pos x y → AreUncrossed pos y x
uncrossed_symmetric pos x y (inl u) = inr u
uncrossed_symmetric pos x y (inr u) = inl u

pub uncrossed_or_not : (pos : ℕ → ℕ) (x y : ℕ) → AreUncrossed pos x y ⊎ (AreUncrossed pos x y → ⊥)
uncrossed_or_not pos x y = elim (cases_lt x y) [
  | inl l ↦ elim (cases_lt (pos x) (pos y)) [
    | inl k ↦ inl (inl (l, k))
    | inr g ↦ inr (λ u. ⊎_elim (λ h. let a = h.1 in omega (arith, a, g)) (λ h. let a = h.0 in omega (arith, a, l)) u)
  ]
  | inr g ↦ elim (cases_lt y x) [
    | inl l ↦ elim (cases_lt (pos y) (pos x)) [
      | inl k ↦ inl (inr (l, k))
      | inr h ↦ inr (λ u. ⊎_elim (λ k. let a = k.0 in omega (arith, a, l)) (λ k. let a = k.1 in omega (arith, a, h)) u)
    ]
    | inr h ↦ inr (λ u. ⊎_elim (λ k. let a = k.0 in omega (arith, a, g)) (λ k. let a = k.0 in omega (arith, a, h)) u)
  ]
]

module _ (n : ℕ) (ord : ℕ → ℕ → ℕ → Sign) (pos : ℕ → ℕ) (state : IsSweepState n ord pos)
    (wire : ℕ → ℕ) (wire_within : (k : ℕ) → IsElement n k → IsElement n (wire k))
    (pos_wire : (k : ℕ) → pos (wire k) ≡ k)
    (pos_within : (x : ℕ) → IsElement n x → IsElement n (pos x))
  where
    abbrev Uncrossed : ℕ → ℕ → Type 0
    Uncrossed = AreUncrossed pos

    abbrev Next : ℕ → ℕ → Type 0
    Next = CrossesNext (IsElement n) ord pos

    pub wire_pos : (x : ℕ) → wire (pos x) ≡ x
    wire_pos x = state.apart (wire (pos x)) x (pos_wire (pos x))

    -- of the wires that p crosses next, one above it, and one below it
    abbrev Up : ℕ → Type 0
    Up p = (b : ℕ) × IsElement n b × Uncrossed p b × Next p b × (pos p < pos b)

    abbrev Down : ℕ → Type 0
    Down p = (b : ℕ) × IsElement n b × Uncrossed p b × Next p b × (pos b < pos p)

    pub partner_ne : (x y : ℕ) → Uncrossed x y → y ≢ x
    partner_ne x y (inl u) e = let h = u.0 in omega (arith, h, e)
    partner_ne x y (inr u) e = let h = u.0 in omega (arith, h, e)

    next_or_not : (p b : ℕ) → Next p b ⊎ (Next p b → ⊥)
    next_or_not p b = ⊎_elim
        (λ k. inr (λ next. next k.0 k.1 k.2.0 k.2.1))
        (λ none. inl (λ c ic u. none c ic u))
        (some_element (λ c. Uncrossed p c × (ord p b c ≡ Minus)) (λ c. Uncrossed p c → ord p b c ≢ Minus)
        (λ c. ⊎_elim
        (λ u. ⊎_elim (λ q. inl (u, q)) (λ q. inr (λ _. q)) (minus_or_not (ord p b c)))
        (λ u. inr (λ v. absurd (u v)))
        (uncrossed_or_not pos p c))
        n)

    abbrev Near : ℕ → ℕ → Type 0
    Near p b = Uncrossed p b × Next p b

    near_or_not : (p b : ℕ) → Near p b ⊎ (Near p b → ⊥)
    near_or_not p b = ⊎_elim
        (λ u. ⊎_elim (λ k. inl (u, k)) (λ k. inr (λ h. k h.1)) (next_or_not p b))
        (λ u. inr (λ h. u h.0))
        (uncrossed_or_not pos p b)

    pub up_or_not : (p : ℕ) → Up p ⊎ (Up p → ⊥)
    up_or_not p = ⊎_elim
        (λ k. inl (k.0, k.1, k.2.0.0, k.2.0.1, k.2.1))
        (λ none. inr (λ u. none u.0 u.1 ((u.2, u.3), u.4)))
        (some_element (λ b. Near p b × (pos p < pos b)) (λ b. Near p b × (pos p < pos b) → ⊥)
        (λ b. ⊎_elim
        (λ k. elim (cases_lt (pos p) (pos b))
        [ inl l ↦ inl (k, l) | inr g ↦ inr (λ h. let l = h.1 in omega (arith, g, l)) ])
        (λ k. inr (λ h. k h.0))
        (near_or_not p b))
        n)

    pub down_or_not : (p : ℕ) → Down p ⊎ (Down p → ⊥)
    down_or_not p = ⊎_elim
        (λ k. inl (k.0, k.1, k.2.0.0, k.2.0.1, k.2.1))
        (λ none. inr (λ u. none u.0 u.1 ((u.2, u.3), u.4)))
        (some_element (λ b. Near p b × (pos b < pos p)) (λ b. Near p b × (pos b < pos p) → ⊥)
        (λ b. ⊎_elim
        (λ k. elim (cases_lt (pos b) (pos p))
        [ inl l ↦ inl (k, l) | inr g ↦ inr (λ h. let l = h.1 in omega (arith, g, l)) ])
        (λ k. inr (λ h. k h.0))
        (near_or_not p b))
        n)

    -- ---- a wire that hasn't crossed all others crosses some wire next

    abbrev NearestUpTo : ℕ → ℕ → Type 0
    NearestUpTo p k = ((c : ℕ) → IsElement k c → Uncrossed p c → ⊥)
        ⊎ ((b : ℕ) × IsElement k b × Uncrossed p b × ((c : ℕ) → IsElement k c → Uncrossed p c → ord p b c ≢ Minus))

    own_not_minus : (p b : ℕ) → ord p b b ≢ Minus
    own_not_minus p b e = let s = state.alternating p b b in own_opposite_not_minus (ord p b b) s e

    turned_minus : (p b c : ℕ) → ord p b c ≡ Minus → ord p c b ≢ Minus
    turned_minus p b c e q = not_both (ord p b c) (ord p c b) (state.alternating p b c) e q
      where
        not_both : (s t : Sign) → t ≡ opposite s → s ≡ Minus → t ≡ Minus → ⊥
        not_both s t h e q = grind (arith, h, e, q)

    nearest_up_to : (p : ℕ) → IsElement n p → (k : ℕ) → k ≤ n → NearestUpTo p k
    nearest_up_to p ip zero l = inl (λ c i u. let a = i.0 in let b = i.1 in omega (arith, a, b))
    nearest_up_to p ip (suc k) l =
        let is : IsElement n (suc k) = (omega arith, l) in
        let longer : (c : ℕ) → IsElement k c → IsElement n c = λ c i. let h = i.1 in (i.0, omega (arith, h, l)) in
        let more : (c : ℕ) → IsElement k c → IsElement (suc k) c = λ c i. let h = i.1 in (i.0, omega (arith, h)) in
        ⊎_elim
        (λ none. ⊎_elim
        (λ u. inr (
          suc k,
          (omega arith, omega arith),
          u,
          λ c i v. ⊎_elim (λ q. subst (λ z. ord p (suc k) z ≢ Minus) (sym q) (own_not_minus p (suc k)))
              (λ h. absurd (none c h v)) (last_or_before k c i),
        ))
        (λ u. inl (λ c i v. ⊎_elim (λ q. u (subst (Uncrossed p) q v)) (λ h. none c h v) (last_or_before k c i)))
        (uncrossed_or_not pos p (suc k)))
        (λ b. ⊎_elim
        (λ u. ⊎_elim
        (λ q. inr (
          suc k,
          (omega arith, omega arith),
          u,
          λ c i v. ⊎_elim
              (λ e. subst (λ z. ord p (suc k) z ≢ Minus) (sym e) (own_not_minus p (suc k)))
              (λ h. balanced_not_minus (ord p (suc k) b.0) (ord p (suc k) c) (ord p b.0 c)
              (state.balanced p (suc k) b.0 c ip is (longer b.0 b.1) (longer c h) (partner_ne p (suc k) u)
              (partner_ne p b.0 b.2) (partner_ne p c v))
              (turned_minus p b.0 (suc k) q) (b.3 c h v))
              (last_or_before k c i),
        ))
        (λ q. inr (
          b.0,
          more b.0 b.1,
          b.2,
          λ c i v. ⊎_elim (λ e. subst (λ z. ord p b.0 z ≢ Minus) (sym e) q) (λ h. b.3 c h v) (last_or_before k c i),
        ))
        (minus_or_not (ord p b.0 (suc k))))
        (λ u. inr (
          b.0,
          more b.0 b.1,
          b.2,
          λ c i v. ⊎_elim (λ e. absurd (u (subst (Uncrossed p) e v))) (λ h. b.3 c h v) (last_or_before k c i),
        ))
        (uncrossed_or_not pos p (suc k)))
        (nearest_up_to p ip k (omega (arith, l)))

    abbrev HasPartner : ℕ → Type 0
    HasPartner p = (b : ℕ) × IsElement n b × Uncrossed p b

    -- a wire that is neither up nor down has crossed all others
    pub up_or_down : (p : ℕ) → IsElement n p → HasPartner p → Up p ⊎ Down p
    up_or_down p ip h = elim (nearest_up_to p ip n (omega arith)) [
      | inl none ↦ absurd (none h.0 h.1 h.2)
      | inr b ↦ elim (cases_lt (pos p) (pos b.0)) [
        | inl l ↦ inl (b.0, b.1, b.2, b.3, l)
        | inr g ↦ let ne : pos b.0 ≢ pos p = (λ e. partner_ne p b.0 b.2 (state.apart b.0 p e)) in
            inr (b.0, b.1, b.2, b.3, grind (arith, g, ne))
      ]
    ]
