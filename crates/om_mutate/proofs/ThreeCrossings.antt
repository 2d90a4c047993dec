-- The steps at which wires at three neighbouring positions cross, where the three are reversed by pairs.
--
-- Main results: lower_01, upper_12, lower_02, upper_02, lower_12, upper_01, lower_off, upper_off
-- Reference: Björner, Las Vergnas, Sturmfels, White and Ziegler, Oriented Matroids, chapter 6.
use Rattle.std.specs.Prelude.{ℕ, ◌≡◌, ◌⊎◌, ◌+◌, ◌<◌, List, ◌∷◌, ◌++◌}
use Rattle.std.proofs.Common.{refl, sym, ap, ◌∙◌, inl, inr, arith}
use Rattle.om_signs.specs.declared.block.Block.{Block}
use Rattle.om_wiring.specs.Wirings.{Holds, mirror, crossed}
use Rattle.om_wiring.proofs.CrossingSteps.{crossed_now, crossed_later}
use Rattle.om_mutate.specs.Flips.{pair_at, lower_first, upper_first}
use Rattle.om_mutate.proofs.ThreeWires.{three_at, low_0, low_1, low_2, high_0, high_1, high_2, low_other, high_other}
use Rattle.om_mutate.proofs.ThreeWires.{lower_turns, upper_turns, next}

module _ (p : ℕ) where
  abbrev low : ℕ → ℕ
  low = mirror (pair_at p)

  abbrev high : ℕ → ℕ
  high = mirror (pair_at (p + 1))

  -- ---- the crossings

  holds_pair : (q k l : ℕ) → k ≡ q → l ≡ q + 1 → Holds (pair_at q) k × Holds (pair_at q) l
  holds_pair q k l e f = ((omega (arith, e), omega (arith, e)), (omega (arith, f), omega (arith, f)))

  misses : (q k : ℕ) → (k < q) ⊎ (q + 1 < k) → Holds (pair_at q) k → ⊥
  misses q k (inl l) h = let a = h.0 in omega (arith, l, a)
  misses q k (inr l) h = let a = h.1 in omega (arith, l, a)

  abbrev lower : List Block → List Block
  lower rest = lower_first p ++ rest

  abbrev upper : List Block → List Block
  upper rest = upper_first p ++ rest

  plus_one : (k : ℕ) → 1 + k ≡ k + 1
  plus_one k = omega arith

  -- the numbers of the crossings of the three positions, from here on
  pub lower_01 : (rest : List Block) → crossed (lower rest) p (p + 1) ≡ 1
  lower_01 rest = let h = holds_pair p p (p + 1) refl refl in
      crossed_now (pair_at p) (pair_at (p + 1) ∷ pair_at p ∷ rest) p (p + 1) h.0 h.1

  pub upper_12 : (rest : List Block) → crossed (upper rest) (p + 1) (p + 2) ≡ 1
  upper_12 rest = let h = holds_pair (p + 1) (p + 1) (p + 2) refl (sym (next p)) in
      crossed_now (pair_at (p + 1)) (pair_at p ∷ pair_at (p + 1) ∷ rest) (p + 1) (p + 2) h.0 h.1

  pub lower_02 : (rest : List Block) → crossed (lower rest) p (p + 2) ≡ 2
  lower_02 rest =
      let out : Holds (pair_at p) p → Holds (pair_at p) (p + 2) → ⊥ = λ _ h. misses p (p + 2) (inr (omega arith)) h in
      let e = crossed_later (pair_at p) (pair_at (p + 1) ∷ pair_at p ∷ rest) p (p + 2) out in
      let h = holds_pair (p + 1) (low p) (low (p + 2)) (low_0 p) (low_2 p ∙ sym (next p)) in
      let f = crossed_now (pair_at (p + 1)) (pair_at p ∷ rest) (low p) (low (p + 2)) h.0 h.1 in
      omega (arith, e, f)

  pub upper_02 : (rest : List Block) → crossed (upper rest) p (p + 2) ≡ 2
  upper_02 rest =
      let out : Holds (pair_at (p + 1)) p → Holds (pair_at (p + 1)) (p + 2) → ⊥ =
      λ h _. misses (p + 1) p (inl (omega arith)) h in
      let e = crossed_later (pair_at (p + 1)) (pair_at p ∷ pair_at (p + 1) ∷ rest) p (p + 2) out in
      let h = holds_pair p (high p) (high (p + 2)) (high_0 p) (high_2 p) in
      let f = crossed_now (pair_at p) (pair_at (p + 1) ∷ rest) (high p) (high (p + 2)) h.0 h.1 in
      omega (arith, e, f)

  pub lower_12 : (rest : List Block) → crossed (lower rest) (p + 1) (p + 2) ≡ 3
  lower_12 rest =
      let e = crossed_later (pair_at p) (pair_at (p + 1) ∷ pair_at p ∷ rest) (p + 1) (p + 2)
      (λ _ h. misses p (p + 2) (inr (omega arith)) h) in
      let e1 = low_1 p in
      let f = crossed_later (pair_at (p + 1)) (pair_at p ∷ rest) (low (p + 1)) (low (p + 2))
      (λ h _. misses (p + 1) (low (p + 1)) (inl (omega (arith, e1))) h) in
      let h =
      holds_pair p (high (low (p + 1))) (high (low (p + 2))) (ap high (low_1 p) ∙ high_0 p)
      (ap high (low_2 p) ∙ high_2 p)
      in
      let g = crossed_now (pair_at p) rest (high (low (p + 1))) (high (low (p + 2))) h.0 h.1 in
      omega (arith, e, f, g)

  pub upper_01 : (rest : List Block) → crossed (upper rest) p (p + 1) ≡ 3
  upper_01 rest =
      let e = crossed_later (pair_at (p + 1)) (pair_at p ∷ pair_at (p + 1) ∷ rest) p (p + 1)
      (λ h _. misses (p + 1) p (inl (omega arith)) h) in
      let e1 = high_1 p in
      let f = crossed_later (pair_at p) (pair_at (p + 1) ∷ rest) (high p) (high (p + 1))
      (λ _ h. misses p (high (p + 1)) (inr (omega (arith, e1))) h) in
      let h = holds_pair (p + 1) (low (high p)) (low (high (p + 1))) (ap low (high_0 p) ∙ low_0 p)
      (ap low (high_1 p) ∙ low_2 p ∙ sym (next p)) in
      let g = crossed_now (pair_at (p + 1)) rest (low (high p)) (low (high (p + 1))) h.0 h.1 in
      omega (arith, e, f, g)

  -- a position off the three crosses nothing in them
  out_low : (k : ℕ) → (k < p) ⊎ (p + 2 < k) → Holds (pair_at p) k → ⊥
  out_low k (inl l) h = misses p k (inl l) h
  out_low k (inr l) h = misses p k (inr (omega (arith, l))) h

  out_high : (k : ℕ) → (k < p) ⊎ (p + 2 < k) → Holds (pair_at (p + 1)) k → ⊥
  out_high k (inl l) h = misses (p + 1) k (inl (omega (arith, l))) h
  out_high k (inr l) h = misses (p + 1) k (inr (omega (arith, l))) h

  off_three : (k j : ℕ) → (k < p) ⊎ (p + 2 < k) → k ≡ j → (j < p) ⊎ (p + 2 < j)
  off_three k j (inl l) e = inl (omega (arith, l, e))
  off_three k j (inr l) e = inr (omega (arith, l, e))

  pub lower_off : (rest : List Block) (k j : ℕ) → (k < p) ⊎ (p + 2 < k)
      → crossed (lower rest) k j ≡ 3 + crossed rest (mirror (three_at p) k) (mirror (three_at p) j)
  lower_off rest k j o =
      let o1 = off_three k (low k) o (sym (low_other p k o)) in
      let o2 = off_three (low k) (high (low k)) o1 (sym (high_other p (low k) o1)) in
      let e = crossed_later (pair_at p) (pair_at (p + 1) ∷ pair_at p ∷ rest) k j (λ h _. out_low k o h) in
      let f = crossed_later (pair_at (p + 1)) (pair_at p ∷ rest) (low k) (low j) (λ h _. out_high (low k) o1 h) in
      let g = crossed_later (pair_at p) rest (high (low k)) (high (low j)) (λ h _. out_low (high (low k)) o2 h) in
      let same : crossed rest (low (high (low k))) (low (high (low j)))
      ≡ crossed rest (mirror (three_at p) k) (mirror (three_at p) j) =
      ap (λ z. crossed rest z (low (high (low j)))) (lower_turns p k)
      ∙ ap (crossed rest (mirror (three_at p) k)) (lower_turns p j) in
      omega (arith, e, f, g, same)

  pub upper_off : (rest : List Block) (k j : ℕ) → (k < p) ⊎ (p + 2 < k)
      → crossed (upper rest) k j ≡ 3 + crossed rest (mirror (three_at p) k) (mirror (three_at p) j)
  upper_off rest k j o =
      let o1 = off_three k (high k) o (sym (high_other p k o)) in
      let o2 = off_three (high k) (low (high k)) o1 (sym (low_other p (high k) o1)) in
      let e = crossed_later (pair_at (p + 1)) (pair_at p ∷ pair_at (p + 1) ∷ rest) k j (λ h _. out_high k o h) in
      let f = crossed_later (pair_at p) (pair_at (p + 1) ∷ rest) (high k) (high j) (λ h _. out_low (high k) o1 h) in
      let g = crossed_later (pair_at (p + 1)) rest (low (high k)) (low (high j)) (λ h _. out_high (low (high k)) o2 h)
      in
      let same : crossed rest (high (low (high k))) (high (low (high j)))
      ≡ crossed rest (mirror (three_at p) k) (mirror (three_at p) j) =
      ap (λ z. crossed rest z (high (low (high j)))) (upper_turns p k)
      ∙ ap (crossed rest (mirror (three_at p) k)) (upper_turns p j) in
      omega (arith, e, f, g, same)
