-- The wires of a run of neighbours that cross each other next cross at once, before all other wires.
--
-- Main definitions: Class
-- Main results: pair, at_once, strictly
-- Reference: Björner, Las Vergnas, Sturmfels, White and Ziegler, Oriented Matroids, chapter 6.
use Rattle.std.specs.Prelude.{◌≡◌, ◌≢◌, ◌⊎◌, ℕ, ◌+◌, ◌<◌, ◌≤◌}
use Rattle.std.proofs.Common.{zero, suc, sym, ap, subst, ⊎_elim, inl, arith}
use Rattle.std.proofs.lemmas.Bool.{cases_eq}
use Rattle.om_signs.specs.declared.sign.Sign.{Sign}
use Rattle.om_signs.specs.declared.sign.Sign.TheVariants.{Minus, Zero, Plus}
use Rattle.om_signs.specs.Sign.{opposite}
use Rattle.om_signs.proofs.SignLaws.{not_zero_and_minus}
use Rattle.om_laws.specs.ThreeTerm.{AreBalanced}
use Rattle.om_wiring.specs.Sweeps.{AreUncrossed}
use Rattle.om_wiring.proofs.WireOrders.{balanced_not_minus, zero_if_neither_minus, zero_or_plus, gap, AreCrossed}
use Rattle.om_wiring.proofs.WireOrders.{CrossesNext, not_crossed_and_uncrossed, partner_ne, flip, zero_triple}
use Rattle.om_wiring.proofs.WireOrders.{uncrossed_sym, crossed_or_not}

module _ (Wire : ℕ → Type 0) (ord : ℕ → ℕ → ℕ → Sign) (pos : ℕ → ℕ)
    (alternating : (p b c : ℕ) → ord p c b ≡ opposite (ord p b c))
    (balanced : (p b c d : ℕ) → Wire p → Wire b → Wire c → Wire d → b ≢ p → c ≢ p → d ≢ p
    → AreBalanced (ord p b c) (opposite (ord p b d)) (ord p c d))
    (one : (a b c : ℕ) → Wire a → Wire b → Wire c → a < b → b < c → ord a b c ≡ ord b a c)
    (two : (a b c : ℕ) → Wire a → Wire b → Wire c → a < b → b < c → ord b a c ≡ ord c a b)
  where
    abbrev Uncrossed : ℕ → ℕ → Type 0
    Uncrossed = AreUncrossed pos

    abbrev Crossed : ℕ → ℕ → Type 0
    Crossed = AreCrossed pos

    abbrev Next : ℕ → ℕ → Type 0
    Next = CrossesNext Wire ord pos

    module _ (good : (p b c : ℕ) → Wire p → Wire b → Wire c → Crossed p c → b ≢ p → b ≢ c → ord p b c ≢ Minus
        → Crossed p b) where
      module _ (apart : (a b : ℕ) → Wire a → Wire b → a ≢ b → pos a ≢ pos b) where
        abbrev pub Class : ℕ → ℕ → Type 0
        Class y z = Uncrossed y z × Next y z × (Next z y)

        class : (x y z : ℕ) → Wire x → Wire y → Wire z → Uncrossed x y → Next x y → Next y x → Uncrossed x z → Next x z
            → z ≢ y → Uncrossed y z × Next y z
        class x y z ix iy iz uxy nxy nyx uxz nxz zy =
            let yx : y ≢ x = partner_ne Wire ord pos alternating balanced one two x y uxy in
            let zx : z ≢ x = partner_ne Wire ord pos alternating balanced one two x z uxz in
            let same : ord x y z ≡ Zero =
            zero_if_neither_minus (ord x y z) (ord x z y) (alternating x y z) (nxy z iz uxz) (nxz y iy uxy) in
            let on_y : ord y x z ≡ Zero =
            zero_triple Wire ord pos alternating balanced one two good x y z ix iy iz (λ e. yx (sym e))
            (λ e. zx (sym e)) (λ e. zy (sym e)) same in
            let u : Uncrossed y z = ⊎_elim
            (λ c. absurd
            (not_crossed_and_uncrossed Wire ord pos alternating balanced one two y x
            (good y x z iy ix iz c (λ e. yx (sym e)) (λ e. zx (sym e)) (not_zero_and_minus (ord y x z) on_y))
            (uncrossed_sym Wire ord pos alternating balanced one two good x y uxy)))
            (λ v. v)
            (crossed_or_not Wire ord pos alternating balanced one two good y z (λ e. zy (sym e))
            (apart y z iy iz (λ e. zy (sym e)))) in (
              u,
              λ c ic uc. balanced_not_minus (ord y z x) (ord y z c) (ord y x c)
                  (balanced y z x c iy iz ix ic zy (λ e. yx (sym e))
                  (partner_ne Wire ord pos alternating balanced one two y c uc))
                  (not_zero_and_minus (ord y z x) (flip Wire ord pos alternating balanced one two good y x z on_y))
                  (nyx c ic uc),
            )

        -- a run of neighbours that meet each other next
        module _ (x : ℕ → ℕ) (i j : ℕ) (ij : i < j) (wire : (k : ℕ) → i ≤ k → k ≤ j → Wire (x k))
            (rise : (k : ℕ) → i ≤ k → k < j → (x k < x (k + 1)) × (pos (x k) < pos (x (k + 1))))
            (next : (k : ℕ) → i ≤ k → k < j → Next (x k) (x (k + 1)) × Next (x (k + 1)) (x k))
            (top : (u : ℕ) → Wire u → Uncrossed (x j) u → Next (x j) u → pos u < pos (x j))
            (bottom : (u : ℕ) → Wire u → Uncrossed (x i) u → Next (x i) u → pos (x i) < pos u)
          where
            rises : (d k : ℕ) → i ≤ k → k + 1 + d ≤ j → (x k < x (k + 1 + d)) × (pos (x k) < pos (x (k + 1 + d)))
            rises zero k h l = let e : k + 1 + 0 ≡ k + 1 = omega arith in
                subst (λ m. (x k < x m) × (pos (x k) < pos (x m))) (sym e) (rise k h (omega (arith, l)))
            rises (suc d) k h l =
                let r = rises d k h (omega (arith, l)) in
                let s = rise (k + 1 + d) (omega (arith, h)) (omega (arith, l)) in
                let e : k + 1 + suc d ≡ (k + 1 + d) + 1 = omega arith in
                let r0 = r.0 in
                let r1 = r.1 in
                let s0 = s.0 in
                let s1 = s.1 in
                subst (λ m. (x k < x m) × (pos (x k) < pos (x m))) (sym e)
                (omega (arith, r0, s0), omega (arith, r1, s1))

            up_u : (d k : ℕ) → i ≤ k → k + 1 + d ≤ j → Uncrossed (x k) (x (k + 1 + d))
            up_u d k h l = inl (rises d k h l)

            meets : (d k : ℕ) → i ≤ k → k + 1 + d ≤ j → Next (x k) (x (k + 1 + d)) × Next (x (k + 1 + d)) (x k)
            meets zero k h l = let e : k + 1 + 0 ≡ k + 1 = omega arith in
                subst (λ m. Next (x k) (x m) × Next (x m) (x k)) (sym e) (next k h (omega (arith, l)))
            meets (suc d) k h l =
                let m : ℕ = k + 1 + d in
                let lm : m < j = omega (arith, l) in
                let hm : i ≤ m = omega (arith, h) in
                let r = meets d k h (omega (arith, lm)) in
                let s = next m hm lm in
                let um = rise m hm lm in
                let wk = wire k h (omega (arith, lm)) in
                let wm = wire m hm (omega (arith, lm)) in
                let wn = wire (m + 1) (omega (arith, hm)) (omega (arith, lm)) in
                let ukm : Uncrossed (x k) (x m) = up_u d k h (omega (arith, lm)) in
                let rk = rises d k h (omega (arith, lm)) in
                let e : k + 1 + suc d ≡ m + 1 = omega arith in
                let ne : x (m + 1) ≢ x k = λ q. (let a = rk.0 in let b = um.0 in omega (arith, a, b, q)) in
                let one' =
                class (x m) (x k) (x (m + 1)) wm wk wn (uncrossed_sym Wire ord pos alternating balanced one two good
                (x k) (x m) ukm) r.1 r.0 (inl um) s.0
                ne in
                let two' =
                class (x m) (x (m + 1)) (x k) wm wn wk (inl um) s.0 s.1
                (uncrossed_sym Wire ord pos alternating balanced one two good (x k) (x m) ukm) r.1
                (λ q. ne (sym q)) in
                subst (λ n. Next (x k) (x n) × Next (x n) (x k)) (sym e) (one'.1, two'.1)

            -- any two of the run
            pub pair : (k l : ℕ) → i ≤ k → k < l → l ≤ j → Uncrossed (x k) (x l) × Next (x k) (x l) × (Next (x l) (x k))
            pair k l h kl lj = let d : (d : ℕ) × (k + 1 + d ≡ l) = gap k l kl in
                subst (λ m. Uncrossed (x k) (x m) × Next (x k) (x m) × (Next (x m) (x k))) d.1 (
                  up_u d.0 k h (let e = d.1 in omega (arith, e, lj)),
                  (meets d.0 k h (let e = d.1 in omega (arith, e, lj))).0,
                  (meets d.0 k h (let e = d.1 in omega (arith, e, lj))).1,
                )

            rises_ij : pos (x i) < pos (x j)
            rises_ij = let d = gap i j ij in
                subst (λ m. pos (x i) < pos (x m)) d.1 (rises d.0 i (omega arith) (let e = d.1 in omega (arith, e))).1

            -- what a wire of the run meets next stands in the run
            outside_go : (u : ℕ) → Wire u → Uncrossed (x j) u → Next (x j) u → (pos u < pos (x i)) ⊎ (pos (x j) < pos u)
                → ⊥
            outside_go u iu uu nu o =
                let t = top u iu uu nu in
                let below : pos u < pos (x i) = ⊎_elim (λ q. q) (λ q. absurd (omega (arith, q, t))) o in
                let p = pair i j (omega arith) ij (omega arith) in
                let ne : u ≢ x i = λ q. (let e : pos u ≡ pos (x i) = ap pos q in omega (arith, below, e)) in
                let c = class (x j) (x i) u (wire j (omega (arith, ij)) (omega arith))
                (wire i (omega arith) (omega (arith, ij))) iu
                (uncrossed_sym Wire ord pos alternating balanced one two good (x i) (x j) p.0) p.2 p.1 uu nu ne in
                let b = bottom u iu c.0 c.1 in
                omega (arith, b, below)

            outside : (k u : ℕ) → i ≤ k → k ≤ j → Wire u → Uncrossed (x k) u → Next (x k) u → (pos u < pos (x i))
                ⊎ (pos (x j) < pos u) → ⊥
            outside k u h l iu uu nu o =
                ⊎_elim
                (λ q. outside_go u iu (subst (λ m. Uncrossed (x m) u) q uu) (subst (λ m. Next (x m) u) q nu) o)
                (λ n.
                let kj : k < j = grind (arith, l, n) in
                let p = pair k j h kj (omega arith) in
                let ne : u ≢ x j =
                λ q. (let e : pos u ≡ pos (x j) = ap pos q in
                ⊎_elim (λ a. (let r = (rises_ij) in omega (arith, a, e, r))) (λ a. omega (arith, a, e)) o) in
                let c = class (x k) (x j) u (wire k h l) (wire j (omega (arith, ij)) (omega arith)) iu p.0 p.1 p.2 uu nu
                ne in
                outside_go u iu c.0 c.1 o)
                (cases_eq k j)

            pub at_once : (k l m : ℕ) → i ≤ k → k ≤ j → Wire (x l) → Wire (x m) → Uncrossed (x k) (x l)
                → Uncrossed (x k) (x m) → Next (x k) (x l) → Next (x k) (x m) → ord (x k) (x l) (x m) ≡ Zero
            at_once k l m h q wl wm ul um nl nm =
                zero_if_neither_minus (ord (x k) (x l) (x m)) (ord (x k) (x m) (x l)) (alternating (x k) (x l) (x m))
                (nl (x m) wm um) (nm (x l) wl ul)

            pub strictly : (k l u : ℕ) → i ≤ k → k ≤ j → Wire (x l) → Uncrossed (x k) (x l) → Next (x k) (x l) → Wire u
                → Uncrossed (x k) u → (pos u < pos (x i)) ⊎ (pos (x j) < pos u) → ord (x k) (x l) u ≡ Plus
            strictly k l u h q wl ul nl iu uu o =
                ⊎_elim
                (λ z.
                let nu : Next (x k) u =
                λ c ic uc. balanced_not_minus (ord (x k) u (x l)) (ord (x k) u c) (ord (x k) (x l) c)
                (balanced (x k) u (x l) c (wire k h q) iu wl ic
                (partner_ne Wire ord pos alternating balanced one two (x k) u uu)
                (partner_ne Wire ord pos alternating balanced one two (x k) (x l) ul)
                (partner_ne Wire ord pos alternating balanced one two (x k) c uc))
                (not_zero_and_minus (ord (x k) u (x l)) (flip Wire ord pos alternating balanced one two good (x k) (x l)
                u z)) (nl c ic uc) in
                absurd (outside k u h q iu uu nu o))
                (λ z. z)
                (zero_or_plus (ord (x k) (x l) u) (nl u iu uu))
