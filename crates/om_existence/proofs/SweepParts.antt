-- A chirotope of rank 3 has a least wiring diagram, or isn't sweepable.
--
-- Main results: wiring_possible.
-- Reference: Björner, Las Vergnas, Sturmfels, White and Ziegler, Oriented Matroids, chapter 6.
use Rattle.std.specs.Prelude.{ℕ, ◌≡◌, ◌+◌, ◌*◌, ◌<◌, ◌≤◌, ◌⊎◌, List, [], ◌∷◌, ◌++◌, length, refl}
use Rattle.std.proofs.Common.{zero, suc, sym, ap, subst, inl, inr, arith}
use Rattle.std.proofs.Math.Nat.{mul-le-mul_left}
use Rattle.std.proofs.lemmas.Bool.{cases_eq, cases_lt}
use Rattle.om_signs.specs.declared.block.Block.{Block}
use Rattle.om_signs.specs.declared.limits.TheConstants.{MAX_ELEMENTS, MAX_BLOCKS}
use Rattle.om_chirotope.specs.Map.{SignMap, IsMap}
use Rattle.om_chirotope.specs.Chirotope.{HasOrthogonalPairs, IsChirotopeWithinLimits}
use Rattle.om_wiring.specs.Maps.{extended, IsSweepable}
use Rattle.om_wiring.specs.Sweeps.{IsOpen, IsFirstOpen, IsLeastWiring}
use Rattle.om_wiring.specs.Wirings.{IsBlockBefore, mirror, position}
use Rattle.om_wiring.proofs.ExtendedLaws.{three_elements_of, made_sweepable}
use Rattle.om_wiring.proofs.Reversals.{position_last}
use Rattle.om_wiring.proofs.SweepEnds.{least_wiring, not_empty, sweep_order, sweep_more, uncrossed_count, count_falls}
use Rattle.om_wiring.proofs.SweepEnds.{few_blocks}
use Rattle.om_wiring.proofs.OpenSweeps.{IsSweep}
use Rattle.om_printing.specs.declared.line.Line.TheVariants as line
use Rattle.om_reply.specs.declared.answer.Answer.{Answer}
use Rattle.om_reply.specs.Answers.{says, shows}
use Rattle.om_plane.specs.Sweeps.{wiring_document, IsWiringOfMap, other_rank, not_sweepable, least as is_least}
use Rattle.om_plane.proofs.SweepLaws.{wiring_in_form}
use Rattle.om_existence.specs.Possible.{IsPossible}
use Rattle.om_existence.proofs.Possible.{held, then, mapped, either_way, least, IsLeast}
use Rattle.om_existence.proofs.MapRefusals.{first_pair_possible}

-- ---- the first open block

module _ (m : SignMap) (pos : ℕ → ℕ) where
  -- some block that begins here is open
  abbrev OpensAt : ℕ → Type 0
  OpensAt first = (b : Block) × (b.first ≡ first) × IsOpen m pos b

  -- some block between these positions is open
  abbrev OpensTo : ℕ → ℕ → Type 0
  OpensTo first last = (b : Block) × (b.first ≡ first) × (b.last ≡ last) × IsOpen m pos b

  same_block : (b c : Block) → b.first ≡ c.first → b.last ≡ c.last → b ≡ c
  same_block b c p q = λ i. record { first = p i; last = q i }

  none_before : (b : Block) → IsOpen m pos b → ((k : ℕ) → k < b.first → OpensAt k → ⊥)
      → ((k : ℕ) → k < b.last → OpensTo b.first k → ⊥) → (c : Block) → IsOpen m pos c → (c ≡ b) ⊎ IsBlockBefore b c
  none_before b is earlier shorter c also = elim (cases_lt c.first b.first) [
    | inl less ↦ absurd (earlier c.first less (c, refl, also))
    | inr least_first ↦ elim (cases_lt b.first c.first) [
      | inl more ↦ inr (inl more)
      | inr least_too ↦
          let same : c.first ≡ b.first = omega (arith, least_first, least_too) in
          elim (cases_lt c.last b.last) [
            | inl less ↦ absurd (shorter c.last less (c, same, refl, also))
            | inr least_last ↦ elim (cases_lt b.last c.last) [
              | inl more ↦ inr (inr (sym same, more))
              | inr most ↦ inl (same_block c b same (omega (arith, least_last, most)))
            ]
          ]
    ]
  ]

  first_open : (first : ℕ) → IsLeast (λ k. k) OpensAt first → (last : ℕ) → IsLeast (λ k. k) (OpensTo first) last
      → (b : Block) × IsFirstOpen m pos b
  first_open first f last g = (
    g.has.0,
    record {
      is_open = g.has.3;
      first = none_before g.has.0 g.has.3 (λ k less. f.below k (subst (λ j. k < j) g.has.1 less))
          (λ k less h. g.below k (subst (λ j. k < j) g.has.2 less) (subst (λ j. OpensTo j k) g.has.1 h));
    },
  )

  first_open_possible : (b : Block) → IsOpen m pos b → IsPossible ((c : Block) × IsFirstOpen m pos c)
  first_open_possible b is =
      then (least (λ k. k) OpensAt b.first (b, refl, is)) (λ f.
      let c = f.1.has in
      mapped (λ g. first_open f.0 f.1 g.0 g.1) (least (λ k. k) (OpensTo f.0) c.0.last (c.0, c.1, refl, c.2)))

-- ---- a sweep to its end

module _ (m : SignMap) (three : m.rank ≡ 3) (whole : IsMap m) (sweepable : IsSweepable m) where
  -- with the next step fewer pairs are uncrossed
  fewer : (blocks : List Block) (b : Block) → IsSweep m blocks → IsFirstOpen m (position blocks) b
      → uncrossed_count m.elements (position (blocks ++ b ∷ [])) < uncrossed_count m.elements (position blocks)
  fewer blocks b sweep f =
      let h = count_falls m.elements (position blocks) b (sweep_order m blocks sweep) f.is_open.step in
      let same : uncrossed_count m.elements (position (blocks ++ b ∷ []))
      ≡ uncrossed_count m.elements (λ z. mirror b (position blocks z)) =
      ap (uncrossed_count m.elements) (λ i z. position_last blocks b z i) in
      omega (arith, h, same)

  swept_on : (k : ℕ) (blocks : List Block) → IsSweep m blocks → uncrossed_count m.elements (position blocks) < k
      → IsPossible ((blocks : List Block) × IsLeastWiring m blocks)
  swept_on zero blocks sweep few = absurd (omega (arith, few))
  swept_on (suc k) blocks sweep few = then (either_way ((b : Block) × IsOpen m (position blocks) b)) (λ e. elim e [
    | inr none ↦ held (blocks, least_wiring m blocks three whole sweepable sweep (λ b is. none (b, is)))
    | inl h ↦ then (first_open_possible m (position blocks) h.0 h.1)
        (λ f. swept_on k (blocks ++ f.0 ∷ []) (sweep_more m blocks f.0 sweep f.1)
        (let l = fewer blocks f.0 sweep f.1 in omega (arith, l, few)))
  ])

  no_sweep : IsSweep m []
  no_sweep done b rest e = absurd (not_empty done b rest e)

  least_possible : IsPossible ((blocks : List Block) × IsLeastWiring m blocks)
  least_possible = swept_on (uncrossed_count m.elements (position []) + 1) [] no_sweep (omega arith)

-- ---- the answer

few_enough : (n k : ℕ) → n ≤ MAX_ELEMENTS → k ≤ n * n → k ≤ MAX_BLOCKS
few_enough n k high few = let l = mul-le-mul_left n high in omega (arith, l, high, few)

pub wiring_possible : (m : SignMap) → IsChirotopeWithinLimits m → IsPossible ((a : Answer) × IsWiringOfMap m a)
wiring_possible m s = elim (cases_eq m.rank 3) [
  | inr other ↦ held (says (line.RefusedNotrank3 m.rank), other_rank other)
  | inl three ↦
      let some : 2 ≤ m.elements = let l = three_elements_of m three s.axioms in omega (arith, l) in
      then (either_way (HasOrthogonalPairs (extended m))) (λ e. elim e [
        | inr fails ↦ mapped (λ h. (says (line.RefusedNotsweepable h.0 h.1.0), not_sweepable h.0 h.1.0 three h.1.1))
            (first_pair_possible (extended m) fails)
        | inl orthogonal ↦
            let sweepable = made_sweepable m (extended m) refl some orthogonal in
            mapped (λ h. (
              shows (wiring_document m.elements h.0),
              is_least h.0 three sweepable h.1
                  (wiring_in_form m.elements m.elements h.0 h.0 [] refl refl refl s.limits.low s.limits.high
                  (few_enough m.elements (length h.0) s.limits.high (few_blocks m.elements h.0 h.1.wiring))
                  h.1.wiring),
            ))
            (least_possible m three s.axioms.whole sweepable)
      ])
]
