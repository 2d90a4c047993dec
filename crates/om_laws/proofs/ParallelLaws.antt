-- Loops, coloops and parallel elements of a chirotope.
--
-- Main results: all covectors are zero at a loop, all circuits at a coloop (loop_covector, coloop_circuit); at two
-- parallel elements all covectors are equal, or all are opposite (parallel_covectors).
-- Reference: Björner, Las Vergnas, Sturmfels, White and Ziegler, Oriented Matroids, chapter 3.
use Rattle.std.specs.Prelude.{ℕ, ◌≡◌, ◌≢◌, refl, List, [], ◌∷◌, ◌++◌}
use Rattle.std.proofs.Common.{arith, inl, inr, sym, ◌∙◌, subst, ⊎_elim}
use Rattle.om_signs.specs.declared.sign.Sign.{Sign}
use Rattle.om_signs.specs.declared.sign.Sign.TheVariants.{Zero}
use Rattle.om_signs.specs.Sign.{opposite, product}
use Rattle.om_signs.proofs.SignLaws.{zero_or_nonzero, product_zero_left, product_nonzero, opposite_nonzero}
use Rattle.om_signs.proofs.SignLaws.{opposite_zero, left_nonzero, not_own_opposite, opposite_swap}
use Rattle.om_laws.specs.Bases.{IsFundamentalCircuit, IsBase}
use Rattle.om_laws.specs.Chirotope.{IsChirotope}
use Rattle.om_laws.specs.Circuits.{IsCircuit}
use Rattle.om_laws.specs.Covectors.{IsCovector}
use Rattle.om_laws.specs.Members.{IsMember, IsDistinct}
use Rattle.om_laws.specs.Parallel.{IsLoop, IsColoop, IsInBase}
use Rattle.om_laws.specs.Relations.{around, along}
use Rattle.om_laws.specs.Signs.{IsNonzero}
use Rattle.om_laws.specs.Vectors.{SignVector, Orthogonal}
use Rattle.om_laws.proofs.FundamentalCircuits.{fundamental_circuit}
use Rattle.om_laws.proofs.ChirotopeCovectors.{cocircuit_covector}
use Rattle.om_laws.proofs.MemberLaws.{split_at, member_middle, member_drop, member_insert, distinct_drop}
use Rattle.om_laws.proofs.RelationLaws.{around_member, nonzero_from_around}
use Rattle.om_laws.proofs.TupleLaws.{nonzero_to_end}
use Rattle.om_laws.proofs.VectorLaws.{opposite_product, orthogonal_sym, same_zero, two_places}

balanced_places : (x y : SignVector) → Orthogonal x y → (e h : ℕ)
    → ((g : ℕ) → g ≢ e → g ≢ h → product (x g) (y g) ≡ Zero) → product (x h) (y h) ≡ opposite (product (x e) (y e))
balanced_places x y o e h zero = elim (zero_or_nonzero (product (x e) (y e))) [
  | inl z ↦ elim (zero_or_nonzero (product (x h) (y h))) [
    | inl w ↦ w ∙ sym (opposite_zero (product (x e) (y e)) z)
    | inr n ↦ opposite_swap (product (x e) (y e)) (product (x h) (y h)) (two_places x y o h e (λ g a b. zero g b a) n)
  ]
  | inr n ↦ two_places x y o e h zero n
]

module _ (E : List ℕ) (chi : List ℕ → Sign) (om : IsChirotope E chi) where
  -- ---- loops and coloops

  pub loop_covector : (e : ℕ) → IsMember e E → IsLoop chi e → (W : SignVector) → IsCovector E chi W → W e ≡ Zero
  loop_covector e ie loop W w = elim (zero_or_nonzero (W e)) [
    | inl z ↦ z
    | inr nw ↦
        let t = om.base.0 in
        let X : SignVector = around chi (t ++ e ∷ []) in
        let f = fundamental_circuit E chi om t e ie om.base.1 (loop t om.base.1) in
        let s : Sign = product (X e) (W e) in
        let ns : IsNonzero s = product_nonzero (X e) (W e) f.at_element nw in
        let k = opposite_product X W (orthogonal_sym W X (w.orthogonal X f.circuit)) e s ns refl in
        let nk : IsNonzero (X k.0) = left_nonzero (X k.0) (W k.0) (opposite s) k.1 (opposite_nonzero s ns) in
        absurd (⊎_elim
        (λ m. (let p = split_at k.0 t m in
        loop (p.0 ++ e ∷ p.1) ((f.exchange p.0 k.0 p.1 p.2).0 nk) (member_middle e p.0 p.1)))
        (λ q. not_own_opposite s ns (subst (λ z. product (X z) (W z) ≡ opposite s) q k.1))
        (f.support k.0 nk))
  ]

  pub coloop_circuit : (e : ℕ) → IsColoop chi e → (X : SignVector) → IsCircuit E chi X → X e ≡ Zero
  coloop_circuit e coloop X c =
      same_zero X (around chi c.tuple) c.same e (elim (zero_or_nonzero (around chi c.tuple e)) [
        | inl z ↦ z
        | inr m ↦
            let s = split_at e c.tuple (around_member chi c.tuple e m) in
            let ds = subst IsDistinct s.2 c.distinct in
            absurd ((distinct_drop s.0 e s.1 ds).1
            (coloop (s.0 ++ s.1)
            (nonzero_from_around chi s.0 e s.1 ds (subst (λ l. IsNonzero (around chi l e)) s.2 m))))
      ])

  -- ---- parallel elements

  module _ (e h : ℕ) (ne : e ≢ h) (be : IsInBase chi e) (bh : IsInBase chi h)
      (parallel : (t : List ℕ) → IsBase chi t → IsMember e t → IsMember h t → ⊥) (ih : IsMember h E) where
    off : IsMember h (be.0 ++ e ∷ be.1) → ⊥
    off m = parallel (be.0 ++ e ∷ be.1) be.2 (member_middle e be.0 be.1) m

    fundamental : IsFundamentalCircuit E chi (be.0 ++ e ∷ be.1) h (around chi ((be.0 ++ e ∷ be.1) ++ h ∷ []))
    fundamental = fundamental_circuit E chi om (be.0 ++ e ∷ be.1) h ih be.2 off

    -- the circuit of the two is zero elsewhere
    elsewhere : (g : ℕ) → g ≢ e → g ≢ h → around chi ((be.0 ++ e ∷ be.1) ++ h ∷ []) g ≡ Zero
    elsewhere g ge gh = elim (zero_or_nonzero (around chi ((be.0 ++ e ∷ be.1) ++ h ∷ []) g)) [
      | inl z ↦ z
      | inr n ↦ absurd (⊎_elim
          (λ m.
          let s = split_at g (be.0 ++ e ∷ be.1) m in
          let b = (fundamental.exchange s.0 g s.1 s.2).0 n in
          let me : IsMember e (s.0 ++ s.1) =
          ⊎_elim (λ q. absurd (ge (sym q))) (λ k. k)
          (member_drop e s.0 g s.1 (subst (IsMember e) s.2 (member_middle e be.0 be.1))) in
          parallel (s.0 ++ h ∷ s.1) b (member_insert e s.0 h s.1 me) (member_middle h s.0 s.1))
          (λ q. gh q)
          (fundamental.support g n))
    ]

    places : (W : SignVector) → IsCovector E chi W → product (around chi ((be.0 ++ e ∷ be.1) ++ h ∷ []) h) (W h)
        ≡ opposite (product (around chi ((be.0 ++ e ∷ be.1) ++ h ∷ []) e) (W e))
    places W w = balanced_places (around chi ((be.0 ++ e ∷ be.1) ++ h ∷ [])) W
        (orthogonal_sym W (around chi ((be.0 ++ e ∷ be.1) ++ h ∷ []))
        (w.orthogonal (around chi ((be.0 ++ e ∷ be.1) ++ h ∷ [])) fundamental.circuit)) e h
        (λ g a b. product_zero_left (around chi ((be.0 ++ e ∷ be.1) ++ h ∷ []) g) (W g) (elsewhere g a b))

    -- some covector is nonzero at h, so the circuit is nonzero at e
    at_other : IsNonzero (around chi ((be.0 ++ e ∷ be.1) ++ h ∷ []) e)
    at_other z =
        let y = along chi (bh.0 ++ bh.1) in
        let ny : IsNonzero (y h) = nonzero_to_end chi om.alternating bh.0 bh.1 h bh.2 in
        let p = places y
        (cocircuit_covector E chi om y
        (record { tuple = bh.0 ++ bh.1; nonzero = (h, ny); same = inl (λ g. refl) })) in
        product_nonzero (around chi ((be.0 ++ e ∷ be.1) ++ h ∷ []) h) (y h) fundamental.at_element ny
        (p ∙ opposite_zero (product (around chi ((be.0 ++ e ∷ be.1) ++ h ∷ []) e) (y e))
        (product_zero_left (around chi ((be.0 ++ e ∷ be.1) ++ h ∷ []) e) (y e) z))

    sign_of_parallel : (a b u v : Sign) → IsNonzero a → product b v ≡ opposite (product a u) → IsNonzero b
        → v ≡ product (opposite (product a b)) u
    sign_of_parallel a b u v na q nb = grind arith

    -- all covectors have the same product of signs at two parallel elements
    pub parallel_covectors : (s : Sign) × IsNonzero s × ((W : SignVector) → IsCovector E chi W → W h ≡ product s (W e))
    parallel_covectors =
        let X : SignVector = around chi ((be.0 ++ e ∷ be.1) ++ h ∷ []) in (
          opposite (product (X e) (X h)),
          opposite_nonzero (product (X e) (X h)) (product_nonzero (X e) (X h) at_other fundamental.at_element),
          λ W w. sign_of_parallel (X e) (X h) (W e) (W h) at_other (places W w) fundamental.at_element,
        )
