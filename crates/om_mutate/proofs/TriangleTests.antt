-- What the tests of `triangle_at` say of a list of blocks.
--
-- Main results: flippable, what holds of a list with a triangle to flip; no_flip_at_zero, no_flip_past_end and
-- no_flip_of_others, lists without; triangle_found, a list with one.
use Rattle.std.specs.Prelude.{ℕ, ◌≡◌, ◌+◌, ◌-◌, ◌<◌, ◌≤◌, List, ◌∷◌, ◌++◌, length, Some}
use Rattle.std.proofs.Common.{Bool, true, false, not, eqb, ◌&&◌, refl, sym, ap, ◌∙◌, subst, inl, inr, arith, get_or}
use Rattle.std.proofs.lemmas.Bool.{not-false, not_from_true, and_parts, eqb-true, eq-eqb, false≢true}
use Rattle.std.proofs.lemmas.List.{length-append, get_or-append-add}
use Rattle.std.proofs.lemmas.Option.{slice_get-get_or}
use Rattle.om_signs.specs.declared.block.Block.{Block}
use Rattle.om_mutate.specs.Flips.{pair_at, IsTriangleFlip, AreTriangle, IsTriangleAt}

-- ---- a list with a triangle to flip

-- the blocks at the three steps are `outer`, `inner` and `outer` of a triangle
pub record IsFlippable (blocks : List Block) (step : ℕ) (d : Block) : Type 0 where
  pub low : 1 ≤ step
  pub high : step + 1 < length blocks
  pub third : get_or blocks (step + 1) d ≡ get_or blocks (step - 1) d
  pub triangle : AreTriangle (get_or blocks (step - 1) d) (get_or blocks step d)

three_blocks : (blocks done rest : List Block) (outer inner : Block) (step : ℕ) (d : Block) → length done + 1 ≡ step
    → blocks ≡ done ++ (outer ∷ inner ∷ outer ∷ rest) → AreTriangle outer inner → IsFlippable blocks step d
three_blocks blocks done rest outer inner step d n e t =
    let l = ap length e ∙ length-append done (outer ∷ inner ∷ outer ∷ rest) in
    let at : (k : ℕ) → get_or blocks (length done + k) d ≡ get_or (outer ∷ inner ∷ outer ∷ rest) k d =
    λ k. ap (λ bs. get_or bs (length done + k) d) e ∙ get_or-append-add done (outer ∷ inner ∷ outer ∷ rest) k d in
    let i0 : length done + 0 ≡ step - 1 = omega (arith, n) in
    let i2 : length done + 2 ≡ step + 1 = omega (arith, n) in
    let first : get_or blocks (step - 1) d ≡ outer = subst (λ i. get_or blocks i d ≡ outer) i0 (at 0) in
    let second : get_or blocks step d ≡ inner = subst (λ i. get_or blocks i d ≡ inner) n (at 1) in
    let third : get_or blocks (step + 1) d ≡ outer = subst (λ i. get_or blocks i d ≡ outer) i2 (at 2) in
    record {
      low = omega (arith, n);
      high = omega (arith, n, l);
      third = third ∙ sym first;
      triangle = subst (λ b. AreTriangle b (get_or blocks step d)) (sym first)
          (subst (AreTriangle outer) (sym second) t);
    }

-- what holds of a list with a triangle to flip
pub flippable : (blocks other : List Block) (step : ℕ) (d : Block) → IsTriangleFlip blocks step other
    → IsFlippable blocks step d
flippable blocks other step d f = elim f.ways [
  | inl w ↦ three_blocks blocks f.done f.rest (pair_at f.position) (pair_at (f.position + 1)) step d f.number w.0
      (f.position, inl (refl, refl))
  | inr w ↦ three_blocks blocks f.done f.rest (pair_at (f.position + 1)) (pair_at f.position) step d f.number w.0
      (f.position, inr (refl, refl))
]

-- ---- the tests

-- whether two blocks differ, as it is tested
differ : (a b : Block) (r : Bool) → r ≡ not (eqb a.first b.first && eqb a.last b.last) → r ≡ true → a ≡ b → ⊥
differ a b r e t same =
    let f = eq-eqb a.first b.first (ap (λ c. c.first) same) in
    let l = eq-eqb a.last b.last (ap (λ c. c.last) same) in
    false≢true (sym (not_from_true (eqb a.first b.first && eqb a.last b.last) (rw f l)) ∙ sym e ∙ t)

same : (a b : Block) (r : Bool) → r ≡ not (eqb a.first b.first && eqb a.last b.last) → r ≡ false → a ≡ b
same a b r e t =
    let p = and_parts (eqb a.first b.first) (eqb a.last b.last)
    (not-false (eqb a.first b.first && eqb a.last b.last) (sym e ∙ t)) in
    let f = eqb-true a.first b.first p.0 in
    let l = eqb-true a.last b.last p.1 in
    ap (λ x. record { first = x; last = a.last }) f ∙ ap (λ y. record { first = b.first; last = y }) l

-- steps are counted from 1
pub no_flip_at_zero : (blocks other : List Block) (step : ℕ) → step ≡ 0 → IsTriangleFlip blocks step other → ⊥
no_flip_at_zero blocks other step z f = let n = f.number in absurd (omega (arith, n, z))

-- there are three steps
pub no_flip_past_end : (blocks other : List Block) (step : ℕ) (d : Block) → length blocks ≤ step + 1
    → IsTriangleFlip blocks step other → ⊥
no_flip_past_end blocks other step d l f =
    let h = (flippable blocks other step d f).high in absurd (omega (arith, l, h))

-- the last of the three steps is the first one again
pub no_flip_of_others : (blocks other : List Block) (step : ℕ) (d : Block) (r : Bool)
    → r ≡ not (eqb (get_or blocks (step + 1) d).first (get_or blocks (step - 1) d).first
    && eqb (get_or blocks (step + 1) d).last (get_or blocks (step - 1) d).last)
    → r ≡ true → IsTriangleFlip blocks step other → ⊥
no_flip_of_others blocks other step d r e t f =
    differ (get_or blocks (step + 1) d) (get_or blocks (step - 1) d) r e t (flippable blocks other step d f).third

-- the three steps that pass all tests
pub triangle_found : (blocks : List Block) (step : ℕ) (d : Block) (r : Bool) → (step ≡ 0 → ⊥)
    → step + 1 < length blocks
    → r ≡ not (eqb (get_or blocks (step + 1) d).first (get_or blocks (step - 1) d).first
    && eqb (get_or blocks (step + 1) d).last (get_or blocks (step - 1) d).last)
    → r ≡ false → AreTriangle (get_or blocks (step - 1) d) (get_or blocks step d)
    → IsTriangleAt blocks step (get_or blocks (step - 1) d) (get_or blocks step d)
triangle_found blocks step d r low high e f t = record {
  low = omega (arith, low);
  high = high;
  first = slice_get-get_or blocks (step - 1) d (omega (arith, high));
  second = slice_get-get_or blocks step d (omega (arith, high));
  third = slice_get-get_or blocks (step + 1) d high
      ∙ ap Some (same (get_or blocks (step + 1) d) (get_or blocks (step - 1) d) r e f);
  triangle = t;
}
