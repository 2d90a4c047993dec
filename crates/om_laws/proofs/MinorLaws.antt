-- Deletion and contraction of one element.
--
-- Main results: both are chirotopes, for a deletion of an element that some base avoids and a contraction of one of
-- some base (deletion_chirotope, contraction_chirotope); the covectors of a deletion are the covectors without that
-- element (deletion_both), those of a contraction are the covectors that are zero there, without it (contraction_both);
-- the same with the other map where the element is a coloop (coloop_both), or a loop (loop_both); the numbers from e
-- on, moved up by one (skip_below, skip_above, skip_other).
-- Reference: Björner, Las Vergnas, Sturmfels, White and Ziegler, Oriented Matroids, chapters 3 and 4.
use Rattle.std.specs.Prelude.{ℕ, ◌≡◌, ◌↔◌, ◌≢◌, ◌+◌, ◌-◌, ◌<◌, ◌≤◌, refl, List, [], ◌∷◌, ◌++◌, map, cond, nat_lt}
use Rattle.std.proofs.Common.{suc, arith, inl, inr, sym, ◌∙◌, ap, subst, ⊎_elim, append-nil}
use Rattle.std.proofs.lemmas.Bool.{cases_lt, lt-ltb, le-ltb}
use Rattle.om_signs.specs.declared.sign.Sign.{Sign}
use Rattle.om_signs.specs.declared.sign.Sign.TheVariants.{Zero}
use Rattle.om_laws.specs.Chirotope.{IsChirotope, elements_to}
use Rattle.om_laws.specs.Covectors.{IsCovector}
use Rattle.om_laws.specs.Members.{IsMember, IsDistinct}
use Rattle.om_laws.specs.Relations.{around}
use Rattle.om_laws.specs.Signs.{IsNonzero}
use Rattle.om_laws.specs.Sorting.{IsElement}
use Rattle.om_laws.specs.Vectors.{SignVector}
use Rattle.om_laws.proofs.ChirotopeLaws.{member_from_element, element_from_member}
use Rattle.om_laws.proofs.MemberLaws.{split_at, distinct_drop}
use Rattle.om_laws.proofs.ParallelLaws.{loop_covector}
use Rattle.om_laws.proofs.PulledBackMaps.{map_image, renamed_distinct}
use Rattle.om_laws.proofs.PullbackLaws.{pullback_chirotope, covector_lifted, covector_pullback}
use Rattle.om_laws.proofs.RelationLaws.{around_member, nonzero_from_around}
use Rattle.om_laws.proofs.TupleLaws.{nonzero_distinct, nonzero_to_end}
use Rattle.om_laws.proofs.PairCovectors.{covector_same}
use Rattle.om_laws.specs.Minors.{skip, deletion, contraction, IsAvoided, IsCovectorWithout, IsZeroCovectorWithout}
use Rattle.om_laws.specs.Parallel.{IsLoop, IsColoop, IsInBase}
use Rattle.om_laws.specs.Circuits.{IsCircuit}
pub use Rattle.om_signs.proofs.Numbers.{skip_below, skip_above}

abbrev pub unskip : ℕ → ℕ → ℕ
unskip e g = cond (nat_lt g e) g (g - 1)

-- the numbering of the elements other than e never gives e
pub skip_other : (e p : ℕ) → skip e p ≢ e
skip_other e p q = elim (cases_lt p e) [
  | inl l ↦ (let k = skip_below e p l in omega (arith, k, q, l))
  | inr g ↦ (let k = skip_above e p g in omega (arith, k, q, g))
]

skip_apart : (e x y : ℕ) → skip e x ≡ skip e y → x ≡ y
skip_apart e x y q = elim (cases_lt x e) [
  | inl l ↦ elim (cases_lt y e) [
    | inl m ↦ sym (skip_below e x l) ∙ q ∙ skip_below e y m
    | inr m ↦ (let a = skip_below e x l in let b = skip_above e y m in absurd (omega (arith, a, b, q, l, m)))
  ]
  | inr l ↦ elim (cases_lt y e) [
    | inl m ↦ (let a = skip_above e x l in let b = skip_below e y m in absurd (omega (arith, a, b, q, l, m)))
    | inr m ↦ (let a = skip_above e x l in let b = skip_above e y m in omega (arith, a, b, q))
  ]
]

skip-unskip : (e g : ℕ) → g ≢ e → skip e (unskip e g) ≡ g
skip-unskip e g n = elim (cases_lt g e) [
  | inl l ↦ rw (lt-ltb g e l) (skip_below e g l)
  | inr m ↦ rw (le-ltb g e m) (let k : e ≤ g - 1 = omega arith in skip_above e (g - 1) k ∙ omega arith)
]

skip_image : (e g : ℕ) → g ≢ e → (p : ℕ) × (g ≡ skip e p)
skip_image e g n = (unskip e g, sym (skip-unskip e g n))

skip_map : (e : ℕ) (t : List ℕ) → (IsMember e t → ⊥) → map (skip e) (map (unskip e) t) ≡ t
skip_map e [] n = refl
skip_map e (x ∷ t) n = ap (λ k. k ∷ map (skip e) (map (unskip e) t)) (skip-unskip e x (λ q. n (inl (sym q))))
    ∙ ap (λ l. x ∷ l) (skip_map e t (λ m. n (inr m)))

skip_inside : (n e p : ℕ) → IsElement (suc n) e → IsMember (skip e p) (elements_to (suc n)) → IsMember p (elements_to n)
skip_inside n e p (a, b) m =
    let k = element_from_member (suc n) (skip e p) m in
    let k0 = k.0 in
    let k1 = k.1 in
    elim (cases_lt p e) [
      | inl l ↦ (let q = skip_below e p l in member_from_element n p (omega (arith, k0, q), omega (arith, l, b)))
      | inr g ↦ (let q = skip_above e p g in member_from_element n p (omega (arith, a, g), omega (arith, k1, q)))
    ]

skip_onto : (n e p : ℕ) → IsElement (suc n) e → IsMember p (elements_to n) → IsMember (skip e p) (elements_to (suc n))
skip_onto n e p (a, b) m =
    let k = element_from_member n p m in
    let k0 = k.0 in
    let k1 = k.1 in
    elim (cases_lt p e) [
      | inl l ↦
          (let q = skip_below e p l in
          member_from_element (suc n) (skip e p) (omega (arith, k0, q), omega (arith, k1, q)))
      | inr g ↦
          (let q = skip_above e p g in
          member_from_element (suc n) (skip e p) (omega (arith, k0, q), omega (arith, k1, q)))
    ]

module _ (n e : ℕ) (ie : IsElement (suc n) e) (chi : List ℕ → Sign) (om : IsChirotope (elements_to (suc n)) chi) where
  e_member : IsMember e (elements_to (suc n))
  e_member = member_from_element (suc n) e ie

  inside : (p : ℕ) → IsMember (skip e p) (elements_to (suc n)) → IsMember p (elements_to n)
  inside p m = skip_inside n e p ie m

  not_e : (p : ℕ) → IsMember (skip e p) (e ∷ []) → ⊥
  not_e p (inl q) = skip_other e p q
  not_e p (inr m) = absurd m

  not_renamed : (x : List ℕ) → IsMember e (map (skip e) x) → ⊥
  not_renamed x m = let r = map_image (skip e) [] e x m in skip_other e r.0 (sym r.2)

  -- ---- deletion

  deletion_value : (t : List ℕ) → IsNonzero (chi t) → (IsMember e t → ⊥) → IsNonzero (deletion e chi (map (unskip e) t))
  deletion_value t n off =
      subst (λ l. IsNonzero (chi l)) (sym (append-nil (map (skip e) (map (unskip e) t)) ∙ skip_map e t off)) n

  -- the deletion of an element that some basis avoids is a chirotope
  pub deletion_chirotope : IsAvoided chi e → IsChirotope (elements_to n) (deletion e chi)
  deletion_chirotope b = pullback_chirotope (elements_to (suc n)) chi om (skip e) [] (elements_to n) inside
      (map (unskip e) b.0) (deletion_value b.0 b.1 b.2)

  -- a covector of the deletion is a covector without e
  deletion_covector_from : IsAvoided chi e → (X : SignVector) → IsCovector (elements_to n) (deletion e chi) X
      → (W : SignVector) × IsCovector (elements_to (suc n)) chi W × ((p : ℕ) → W (skip e p) ≡ X p)
  deletion_covector_from b X x =
      let w = covector_lifted (elements_to (suc n)) chi om (skip e) [] (elements_to n) inside (map (unskip e) b.0)
      (deletion_value b.0 b.1 b.2) X x in
      (w.0, w.1.covector, w.1.renamed)

  deletion_covector_to : IsAvoided chi e → (W : SignVector) → IsCovector (elements_to (suc n)) chi W
      → IsCovector (elements_to n) (deletion e chi) (λ p. W (skip e p))
  deletion_covector_to b W w =
      covector_pullback (elements_to (suc n)) chi om (skip e) [] (elements_to n) inside (map (unskip e) b.0)
      (deletion_value b.0 b.1 b.2)
      (skip_apart e) (λ x m. m) (λ x m. skip_onto n e x ie m) tt (λ g m. absurd m) W w
      (λ x d g ng nw. skip_image e g
      (λ q. not_renamed x
      (subst (IsMember e) (append-nil (map (skip e) x))
      (subst (λ z. IsMember z (map (skip e) x ++ [])) q (around_member chi (map (skip e) x ++ []) g ng)))))

  -- ---- contraction

  contraction_value : (b : IsInBase chi e) → IsNonzero (contraction e chi (map (unskip e) (b.0 ++ b.1)))
  contraction_value b =
      let d = distinct_drop b.0 e b.1 (nonzero_distinct chi om.alternating (b.0 ++ e ∷ b.1) b.2) in
      subst (λ l. IsNonzero (chi (l ++ e ∷ []))) (sym (skip_map e (b.0 ++ b.1) d.1))
      (nonzero_to_end chi om.alternating b.0 b.1 e b.2)

  -- the contraction of an element of some basis is a chirotope
  pub contraction_chirotope : IsInBase chi e → IsChirotope (elements_to n) (contraction e chi)
  contraction_chirotope b = pullback_chirotope (elements_to (suc n)) chi om (skip e) (e ∷ []) (elements_to n) inside
      (map (unskip e) (b.0 ++ b.1)) (contraction_value b)

  -- a covector of the contraction is a covector that is zero at e, without it
  contraction_covector_from : IsInBase chi e → (X : SignVector) → IsCovector (elements_to n) (contraction e chi) X
      → (W : SignVector) × IsCovector (elements_to (suc n)) chi W × (W e ≡ Zero) × ((p : ℕ) → W (skip e p) ≡ X p)
  contraction_covector_from b X x =
      let w = covector_lifted (elements_to (suc n)) chi om (skip e) (e ∷ []) (elements_to n) inside
      (map (unskip e) (b.0 ++ b.1)) (contraction_value b) X x in
      (w.0, w.1.covector, w.1.added e (inl refl), w.1.renamed)

  contraction_seen : (b : IsInBase chi e) → (W : SignVector) → IsCovector (elements_to (suc n)) chi W
      → ((x : List ℕ) → IsDistinct x → IsNonzero (around chi x e) → IsNonzero (W e) → ⊥)
      → IsCovector (elements_to n) (contraction e chi) (λ p. W (skip e p))
  contraction_seen b W w none =
      covector_pullback (elements_to (suc n)) chi om (skip e) (e ∷ []) (elements_to n) inside
      (map (unskip e) (b.0 ++ b.1)) (contraction_value b)
      (skip_apart e) not_e (λ x m. skip_onto n e x ie m) ((λ m. m), tt)
      (λ g m. ⊎_elim (λ q. subst (λ z. IsMember z (elements_to (suc n))) (sym q) e_member) (λ k. absurd k) m) W w
      (λ x d g ng nw. skip_image e g
      (λ q. none (map (skip e) x ++ e ∷ [])
      (renamed_distinct (skip e) (e ∷ []) (skip_apart e) not_e x d ((λ m. m), tt))
      (subst (λ z. IsNonzero (around chi (map (skip e) x ++ e ∷ []) z)) q ng) (subst (λ z. IsNonzero (W z)) q nw)))

  contraction_covector_to : IsInBase chi e → (W : SignVector) → IsCovector (elements_to (suc n)) chi W → W e ≡ Zero
      → IsCovector (elements_to n) (contraction e chi) (λ p. W (skip e p))
  contraction_covector_to b W w z = contraction_seen b W w (λ x d a k. k z)

  -- ---- a coloop, whose deletion is its contraction

  coloop_around : IsColoop chi e → (x : List ℕ) → IsDistinct x → IsNonzero (around chi x e) → ⊥
  coloop_around co x d m =
      let s = split_at e x (around_member chi x e m) in
      let ds = subst IsDistinct s.2 d in
      (distinct_drop s.0 e s.1 ds).1
      (co (s.0 ++ s.1) (nonzero_from_around chi s.0 e s.1 ds (subst (λ l. IsNonzero (around chi l e)) s.2 m)))

  coloop_base : IsColoop chi e → IsInBase chi e
  coloop_base co =
      let s = split_at e om.base.0 (co om.base.0 om.base.1) in
      (s.0, s.1, subst (λ l. IsNonzero (chi l)) s.2 om.base.1)

  -- the covectors without a coloop e are the covectors of the contraction
  coloop_covector_to : IsColoop chi e → (W : SignVector) → IsCovector (elements_to (suc n)) chi W
      → IsCovector (elements_to n) (contraction e chi) (λ p. W (skip e p))
  coloop_covector_to co W w = contraction_seen (coloop_base co) W w (λ x d a k. coloop_around co x d a)

  coloop_covector_from : IsColoop chi e → (X : SignVector) → IsCovector (elements_to n) (contraction e chi) X
      → (W : SignVector) × IsCovector (elements_to (suc n)) chi W × ((p : ℕ) → W (skip e p) ≡ X p)
  coloop_covector_from co X x = let w = contraction_covector_from (coloop_base co) X x in (w.0, w.1, w.3)

  -- ---- a loop, whose contraction is its deletion

  -- each covector is zero at a loop
  loop_covector_zero : IsLoop chi e → (W : SignVector) → IsCovector (elements_to (suc n)) chi W → W e ≡ Zero
  loop_covector_zero loop W w = loop_covector (elements_to (suc n)) chi om e e_member loop W w

  loop_base : IsLoop chi e → IsAvoided chi e
  loop_base loop = (om.base.0, om.base.1, loop om.base.0 om.base.1)

  -- the covectors that are zero at a loop e, without it, are the covectors of the deletion
  loop_covector_to : IsLoop chi e → (W : SignVector) → IsCovector (elements_to (suc n)) chi W
      → IsCovector (elements_to n) (deletion e chi) (λ p. W (skip e p))
  loop_covector_to loop = deletion_covector_to (loop_base loop)

  loop_covector_from : IsLoop chi e → (X : SignVector) → IsCovector (elements_to n) (deletion e chi) X
      → (W : SignVector) × IsCovector (elements_to (suc n)) chi W × (W e ≡ Zero) × ((p : ℕ) → W (skip e p) ≡ X p)
  loop_covector_from loop X x =
      let w = deletion_covector_from (loop_base loop) X x in
      (w.0, w.1, loop_covector_zero loop w.0 w.1, w.2)

  -- ---- both ways

  without_e : (psi : List ℕ → Sign) (X W : SignVector) → ((p : ℕ) → W (skip e p) ≡ X p)
      → IsCovector (elements_to n) psi (λ p. W (skip e p)) → IsCovector (elements_to n) psi X
  without_e psi X W q w = covector_same (elements_to n) (IsCircuit (elements_to n) psi) X (λ p. W (skip e p))
      (λ p. sym (q p)) w

  -- if some basis avoids e, the covectors of the deletion are those of the map, without e
  pub deletion_both : IsAvoided chi e → (X : SignVector) → IsCovector (elements_to n) (deletion e chi) X
      ↔ IsCovectorWithout e (elements_to (suc n)) chi X
  deletion_both b X =
      (deletion_covector_from b X, λ w. without_e (deletion e chi) X w.0 w.2 (deletion_covector_to b w.0 w.1))

  -- if e is in some basis, the covectors of the contraction are those of the map that are zero at e, without e
  pub contraction_both : IsInBase chi e → (X : SignVector) → IsCovector (elements_to n) (contraction e chi) X
      ↔ IsZeroCovectorWithout e (elements_to (suc n)) chi X
  contraction_both b X = (
    contraction_covector_from b X,
    λ w. without_e (contraction e chi) X w.0 w.3 (contraction_covector_to b w.0 w.1 w.2),
  )

  -- if e is a coloop, the covectors of the contraction are those of the map, without e
  pub coloop_both : IsColoop chi e → (X : SignVector) → IsCovector (elements_to n) (contraction e chi) X
      ↔ IsCovectorWithout e (elements_to (suc n)) chi X
  coloop_both co X =
      (coloop_covector_from co X, λ w. without_e (contraction e chi) X w.0 w.2 (coloop_covector_to co w.0 w.1))

  -- if e is a loop, the covectors of the deletion are those of the map that are zero at e, without e
  pub loop_both : IsLoop chi e → (X : SignVector) → IsCovector (elements_to n) (deletion e chi) X
      ↔ IsZeroCovectorWithout e (elements_to (suc n)) chi X
  loop_both lo X = (loop_covector_from lo X, λ w. without_e (deletion e chi) X w.0 w.3 (loop_covector_to lo w.0 w.1))
