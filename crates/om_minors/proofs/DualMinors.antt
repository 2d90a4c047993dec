-- Deletion in the dual is the dual of contraction, as sets of lists of signs.
--
-- Main results: dual_exists, deletion_exists, chirotopes with these covectors; dual_deletion.
use Rattle.std.specs.Prelude.{ℕ, ◌≡◌, ◌+◌, ◌-◌, ◌<◌, ◌≤◌, List, length, refl, false}
use Rattle.std.specs.List.{insert, remove}
use Rattle.std.proofs.Common.{sym, ◌∙◌, ap, subst, inl, inr, ⊎_elim, arith}
use Rattle.std.proofs.lemmas.Bool.{cases_lt, cases_eq}
use Rattle.std.proofs.lemmas.List.{ext_get_or}
use Rattle.std.proofs.lemmas.List.Edits.{length-insert, length-remove, get_or-insert_below, get_or-insert_at}
use Rattle.std.proofs.lemmas.List.Edits.{get_or-insert_above, get_or-remove_below, get_or-remove_above}
use Rattle.om_signs.specs.declared.sign.Sign.{Sign}
use Rattle.om_signs.specs.declared.sign.Sign.TheVariants.{Minus, Zero, Plus}
use Rattle.om_signs.specs.Sign.{product}
use Rattle.om_signs.specs.SignVec.{at, HasProduct, IsOrthogonal}
use Rattle.om_signs.proofs.SignLaws.{product_comm, product_zero_right, plus_nonzero, minus_nonzero}
use Rattle.om_laws.specs.Signs.{IsNonzero}
use Rattle.om_chirotope.specs.Map.{SignMap}
use Rattle.om_chirotope.specs.Chirotope.{IsChirotope}
use Rattle.om_denotation.specs.Covectors.{IsCovectorOfChirotope}
use Rattle.om_denotation.specs.Operations.{IsDual, IsDeletion, IsContraction, IsWithout}
use Rattle.om_denotation.specs.Dual.{dual_of}
use Rattle.om_denotation.proofs.DualMaps.{dual_axioms, is_dual, dual_normal}
use Rattle.om_denotation.proofs.NormalForms.{normal_covectors, normal_elements, normal_exists}
use Rattle.om_denotation.proofs.Uniqueness.{normal_axioms}
use Rattle.om_minors.specs.Minors.{deleted, contracted}
use Rattle.om_minors.proofs.BasisLaws.{basis_with, decide_basis}
use Rattle.om_minors.proofs.MinorLists.{deletion_at, coloop_deletion}
use Rattle.om_minors.proofs.MinorMaps.{deleted_axioms, contracted_axioms}

-- ---- a place that is zero in one of two lists

-- products at a place that isn't zero are those without the place of e
product_removed : (Y W : List Sign) (i : ℕ) (s : Sign) → i < length Y → length W ≡ length Y → at W i ≡ Zero
    → IsNonzero s → HasProduct Y W s → HasProduct (remove Y i) (remove W i) s
product_removed Y W i s l q z ns (j, p) = elim (cases_lt j i) [
  | inl lt ↦ (
    j,
    ap (λ x. product x (at (remove W i) j)) (get_or-remove_below Y i Zero j lt l)
        ∙ ap (product (at Y j)) (get_or-remove_below W i Zero j lt (omega arith)) ∙ p,
  )
  | inr ge ↦ elim (cases_eq j i) [
    | inl e ↦ absurd (ns (sym p ∙ product_zero_right (at Y j) (at W j) (ap (at W) e ∙ z)))
    | inr ne ↦
        let up : j - 1 + 1 ≡ j = omega arith in (
          j - 1,
          ap (λ x. product x (at (remove W i) (j - 1)))
              (get_or-remove_above Y i Zero (j - 1) (omega arith) l ∙ ap (at Y) up)
              ∙ ap (product (at Y j)) (get_or-remove_above W i Zero (j - 1) (omega arith) (omega arith) ∙ ap (at W) up)
              ∙ p,
        )
  ]
]

product_restored : (Y W : List Sign) (i : ℕ) (s : Sign) → i < length Y → length W ≡ length Y
    → HasProduct (remove Y i) (remove W i) s → HasProduct Y W s
product_restored Y W i s l q (j, p) = elim (cases_lt j i) [
  | inl lt ↦ (
    j,
    ap (λ x. product x (at W j)) (sym (get_or-remove_below Y i Zero j lt l))
        ∙ ap (product (at (remove Y i) j)) (sym (get_or-remove_below W i Zero j lt (omega arith))) ∙ p,
  )
  | inr ge ↦ (
    j + 1,
    ap (λ x. product x (at W (j + 1))) (sym (get_or-remove_above Y i Zero j ge l))
        ∙ ap (product (at (remove Y i) j)) (sym (get_or-remove_above W i Zero j ge (omega arith))) ∙ p,
  )
]

pub orthogonal_removed : (Y W : List Sign) (i : ℕ) → i < length Y → length W ≡ length Y → at W i ≡ Zero
    → IsOrthogonal Y W → IsOrthogonal (remove Y i) (remove W i)
orthogonal_removed Y W i l q z o = (
  (λ h. product_removed Y W i Minus l q z minus_nonzero (o.0 (product_restored Y W i Plus l q h))),
  (λ h. product_removed Y W i Plus l q z plus_nonzero (o.1 (product_restored Y W i Minus l q h))),
)

pub orthogonal_restored : (Y W : List Sign) (i : ℕ) → i < length Y → length W ≡ length Y → at W i ≡ Zero
    → IsOrthogonal (remove Y i) (remove W i) → IsOrthogonal Y W
orthogonal_restored Y W i l q z o = (
  (λ h. product_restored Y W i Minus l q (o.0 (product_removed Y W i Plus l q z plus_nonzero h))),
  (λ h. product_restored Y W i Plus l q (o.1 (product_removed Y W i Minus l q z minus_nonzero h))),
)

-- a list with a zero put in, and without it
pub removed_insert : (Z : List Sign) (i : ℕ) → i ≤ length Z → remove (insert Z i Zero) i ≡ Z
removed_insert Z i l =
    let longer = length-insert Z i Zero l in
    let inside : i < length (insert Z i Zero) = omega arith in
    let back = length-remove (insert Z i Zero) i inside in
    ext_get_or Zero (remove (insert Z i Zero) i) Z (omega arith) (λ k lt. elim (cases_lt k i) [
      | inl u ↦ get_or-remove_below (insert Z i Zero) i Zero k u inside ∙ get_or-insert_below Z i Zero Zero k u l
      | inr g ↦ get_or-remove_above (insert Z i Zero) i Zero k g inside ∙ get_or-insert_above Z i Zero Zero k g l
    ])

pub orthogonal_turned : (X Y : List Sign) → IsOrthogonal X Y → IsOrthogonal Y X
orthogonal_turned X Y o =
    ((λ h. turned Y X Minus (o.0 (turned X Y Plus h))), (λ h. turned Y X Plus (o.1 (turned X Y Minus h))))
  where
    turned : (X Y : List Sign) (s : Sign) → HasProduct Y X s → HasProduct X Y s
    turned X Y s (i, p) = (i, product_comm (at X i) (at Y i) ∙ p)

-- ---- covectors of a chirotope

-- a chirotope whose covectors are those of the dual, and back
pub record HasDual (m : SignMap) (d : SignMap) : Type 0 where
  pub forth : IsDual m.elements (IsCovectorOfChirotope m) (IsCovectorOfChirotope d)
  pub back : IsDual m.elements (IsCovectorOfChirotope d) (IsCovectorOfChirotope m)
  pub axioms : IsChirotope d
  pub size : d.elements ≡ m.elements

dual_exists : (m : SignMap) → IsChirotope m → (d : SignMap) × HasDual m d
dual_exists m om =
    let d = normal_exists (dual_of m) (dual_axioms m om) in
    let od = normal_axioms (dual_of m) d.0 (dual_axioms m om) d.1 in
    let c = normal_exists (dual_of d.0) (dual_axioms d.0 od) in
    let h = dual_normal m om d.0 c.0 d.1 c.1 in
    let size : d.0.elements ≡ m.elements = normal_elements (dual_of m) d.0 d.1 in (
      d.0,
      record {
        forth = is_dual m om d.0 d.1;
        back = λ Y l. (
          (λ p. (subst (λ n. IsDual n (IsCovectorOfChirotope d.0) (IsCovectorOfChirotope c.0)) size
              (is_dual d.0 od c.0 c.1) Y l).0 ((normal_covectors m c.0 h Y l).1 p)),
          (λ all. (normal_covectors m c.0 h Y l).0
              ((subst (λ n. IsDual n (IsCovectorOfChirotope d.0) (IsCovectorOfChirotope c.0)) size
              (is_dual d.0 od c.0 c.1) Y l).1 all)),
        );
        axioms = od;
        size = size;
      },
    )

-- a chirotope whose covectors are those of the deletion
pub deletion_exists : (m : SignMap) → IsChirotope m → (e : ℕ) → 2 ≤ m.elements → 1 ≤ e → e ≤ m.elements
    → (d : SignMap) × IsChirotope d × (d.elements ≡ m.elements - 1)
    × IsDeletion m.elements e (IsCovectorOfChirotope m) (IsCovectorOfChirotope d)
deletion_exists m om e several low high = ⊎_elim
    (λ b.
    let o = deleted_axioms m om e several low high b in
    let d = normal_exists (deleted e m) o in (
      d.0,
      normal_axioms (deleted e m) d.0 o d.1,
      normal_elements (deleted e m) d.0 d.1,
      deletion_at m om e several low high d.0 b d.1,
    ))
    (λ none.
    let o = contracted_axioms m om e several low high (basis_with m om e none) in
    let d = normal_exists (contracted e m) o in (
      d.0,
      normal_axioms (contracted e m) d.0 o d.1,
      normal_elements (contracted e m) d.0 d.1,
      coloop_deletion m om e several low high d.0 none d.1,
    ))
    (decide_basis m e false)

-- ---- the law

module _ (m d k l : SignMap) (e : ℕ) (om : IsChirotope m) (several : 2 ≤ m.elements) (low : 1 ≤ e)
    (high : e ≤ m.elements)
    (dual : IsDual m.elements (IsCovectorOfChirotope m) (IsCovectorOfChirotope d))
    (less : IsContraction m.elements e (IsCovectorOfChirotope m) (IsCovectorOfChirotope k))
    (last : IsDual (m.elements - 1) (IsCovectorOfChirotope k) (IsCovectorOfChirotope l)) where
  -- what a covector of d leaves without e is orthogonal to the contraction
  from_without : (X : List Sign) → length X + 1 ≡ m.elements → IsWithout m.elements e (IsCovectorOfChirotope d) X
      → IsCovectorOfChirotope l X
  from_without X s (Y, ly, cy, r) =
      let sx : length X ≡ m.elements - 1 = omega arith in
      (last X sx).1 (λ Z lz cz.
      let sz : length Z + 1 ≡ m.elements = omega arith in
      let w = (less Z sz).0 cz in
      let W = w.0 in
      let lw = w.1 in
      let inside : e - 1 < length Y = omega arith in
      let same : length w.0 ≡ length Y = lw ∙ sym ly in
      subst (λ V. IsOrthogonal X V) w.4 (subst (λ V. IsOrthogonal V (remove w.0 (e - 1))) r
      (orthogonal_removed Y w.0 (e - 1) inside same w.3 ((dual Y ly).0 cy w.0 lw w.2))))

  -- what is orthogonal to the deletion of the dual is a covector of the contraction: with a zero put in it is a
  -- covector
  zero_put : (D N Q : SignMap) → HasDual m D → HasDual N Q → N.elements ≡ m.elements - 1
      → IsDeletion m.elements e (IsCovectorOfChirotope D) (IsCovectorOfChirotope N)
      → (Z : List Sign) → length Z ≡ m.elements - 1 → IsCovectorOfChirotope Q Z → IsCovectorOfChirotope k Z
  zero_put D N Q hd hq sn del Z lz cz =
      let sz : length Z + 1 ≡ m.elements = omega arith in
      let before : e - 1 ≤ length Z = omega arith in
      let longer = length-insert Z (e - 1) Zero before in
      let l0 : length (insert Z (e - 1) Zero) ≡ m.elements = omega arith in
      let c0 : IsCovectorOfChirotope m (insert Z (e - 1) Zero) = (hd.back (insert Z (e - 1) Zero) l0).1 (λ Y ly cy.
      let inside : e - 1 < length Y = omega arith in
      let shorter = length-remove Y (e - 1) inside in
      let ry : length (remove Y (e - 1)) + 1 ≡ m.elements = omega arith in
      let rn : length (remove Y (e - 1)) ≡ N.elements = omega arith in
      let o : IsOrthogonal Z (remove Y (e - 1)) =
      (hq.forth Z (lz ∙ sym sn)).0 cz (remove Y (e - 1)) rn ((del (remove Y (e - 1)) ry).1 (Y, ly, cy, refl)) in
      orthogonal_turned Y (insert Z (e - 1) Zero)
      (orthogonal_restored Y (insert Z (e - 1) Zero) (e - 1) inside (l0 ∙ sym ly)
      (get_or-insert_at Z (e - 1) Zero Zero before)
      (orthogonal_turned (remove (insert Z (e - 1) Zero) (e - 1)) (remove Y (e - 1))
      (subst (λ V. IsOrthogonal V (remove Y (e - 1))) (sym (removed_insert Z (e - 1) before)) o)))) in
      (less Z sz).1 (
        insert Z (e - 1) Zero,
        l0,
        c0,
        get_or-insert_at Z (e - 1) Zero Zero before,
        removed_insert Z (e - 1) before,
      )

  -- what is orthogonal to the contraction comes from a covector of the dual
  to_without : (X : List Sign) → length X + 1 ≡ m.elements → IsCovectorOfChirotope l X
      → IsWithout m.elements e (IsCovectorOfChirotope d) X
  to_without X s c =
      let D = dual_exists m om in
      let sd = D.1.size in
      let N = deletion_exists D.0 D.1.axioms e (omega (arith, sd, several)) low (omega (arith, sd, high)) in
      let del = subst (λ n. IsDeletion n e (IsCovectorOfChirotope D.0) (IsCovectorOfChirotope N.0)) sd N.3 in
      let Q = dual_exists N.0 N.1 in
      let sn : N.0.elements ≡ m.elements - 1 = N.2 ∙ ap (λ n. n - 1) sd in
      let sx : length X ≡ m.elements - 1 = omega (arith, s) in
      let sxn : length X ≡ N.0.elements = sx ∙ sym sn in
      let inner : IsCovectorOfChirotope N.0 X = (Q.1.back X sxn).1 (λ Z lz cz.
      let lz' : length Z ≡ m.elements - 1 = lz ∙ sn in
      (last X sx).0 c Z lz' (zero_put D.0 N.0 Q.0 D.1 Q.1 sn del Z lz' cz)) in
      let w = (del X s).0 inner in
      (w.0, w.1, (dual w.0 w.1).1 ((D.1.forth w.0 w.1).0 w.2), w.3)

  pub dual_deletion : IsDeletion m.elements e (IsCovectorOfChirotope d) (IsCovectorOfChirotope l)
  dual_deletion X s = (to_without X s, from_without X s)
