-- A chirotope is known, up to sign, by its covectors.
--
-- Main results: the bases are known by the covectors (seen_base, base_from_seen); two chirotopes with the same
-- covectors are equal or opposite (unique).
-- Reference: Björner, Las Vergnas, Sturmfels, White and Ziegler, Oriented Matroids, chapter 3.
use Rattle.std.specs.Prelude.{◌≡◌, ◌≢◌, ◌⊎◌, ℕ, ◌≤◌, List, [], ◌∷◌, ◌++◌, refl}
use Rattle.std.proofs.Common.{zero, suc, sym, ap, ◌∙◌, subst, ⊎_elim, inl, inr, arith, append_assoc}
use Rattle.om_signs.specs.declared.sign.Sign.{Sign}
use Rattle.om_signs.specs.declared.sign.Sign.TheVariants.{Zero}
use Rattle.om_signs.specs.Sign.{opposite, product}
use Rattle.om_signs.proofs.SignLaws.{left_nonzero, not_own_opposite, opposite_nonzero, plus_or_minus, product_nonzero}
use Rattle.om_signs.proofs.SignLaws.{product_opposites, right_nonzero, zero_not_nonzero, zero_or_nonzero}
use Rattle.om_signs.proofs.SignLaws.{zeros_opposite, equal_if_product_plus, opposite_if_product_minus}
use Rattle.om_laws.specs.Chirotope.{IsChirotope}
use Rattle.om_laws.specs.Circuits.{IsCircuit}
use Rattle.om_laws.specs.Covectors.{IsCovector}
use Rattle.om_laws.specs.Members.{IsDistinct, IsMember}
use Rattle.om_laws.specs.Relations.{along, around}
use Rattle.om_laws.specs.Signs.{IsNonzero}
use Rattle.om_laws.specs.Vectors.{AreEqualUpToSign, Orthogonal, SignVector}
use Rattle.om_laws.proofs.BaseLaws.{exchange, around_orthogonal_along}
use Rattle.om_laws.proofs.DualExchangeLaws.{contained}
use Rattle.om_laws.proofs.BlockLaws.{same_members}
use Rattle.om_laws.proofs.ChirotopeCovectors.{covector_in_cocircuit}
use Rattle.om_laws.proofs.MemberLaws.{distinct_last, member_drop, member_insert, member_last, member_left}
use Rattle.om_laws.proofs.MemberLaws.{member_middle, member_or_not, member_right, search_members, split_at}
use Rattle.om_laws.proofs.Missing.{missing, missing_middle_member, missing_middle_other}
use Rattle.om_laws.proofs.RelationLaws.{around_last_nonzero, around_member, nonzero_from_around}
use Rattle.om_laws.proofs.TupleLaws.{last_repeat_zero, nonzero_distinct, nonzero_from_end, nonzero_swapped}
use Rattle.om_laws.proofs.TupleLaws.{nonzero_to_end}
use Rattle.om_laws.proofs.VectorLaws.{opposite_product, orthogonal_from, orthogonal_sym, orthogonal_up_to_sign}
use Rattle.om_laws.proofs.VectorLaws.{same_products}

ratio : (fe fh ge gh : Sign) → product fe fh ≡ product ge gh → IsNonzero fe → IsNonzero fh → IsNonzero ge → IsNonzero gh
    → product fe ge ≡ product fh gh
ratio fe fh ge gh e a b c d = grind arith

-- what covectors say of a base
abbrev IsSeen : (SignVector → Type 0) → List ℕ → Type 0
IsSeen Cov b =
    ((i : ℕ) → IsMember i b → (Y : SignVector) × Cov Y × IsNonzero (Y i)
    × ((g : ℕ) → IsMember g b → g ≢ i → Y g ≡ Zero))
    × ((Y : SignVector) → Cov Y → ((g : ℕ) → IsMember g b → Y g ≡ Zero) → (e : ℕ) → Y e ≡ Zero)

module _ (E : List ℕ) (chi : List ℕ → Sign) (om : IsChirotope E chi) where
  -- a covector is orthogonal to the vector around each tuple
  covector_around : (Y : SignVector) → IsCovector E chi Y → (x : List ℕ) → IsDistinct x
      → ((i : ℕ) → IsMember i x → IsMember i E) → Orthogonal (around chi x) Y
  covector_around Y y x d o = orthogonal_from (around chi x) Y (λ e t n h.
      let c : IsCircuit E chi (around chi x) =
      record {
        tuple = x;
        distinct = d;
        within = o;
        nonzero = (e, left_nonzero (around chi x e) (Y e) t h n);
        same = inl (λ i. refl);
      } in
      opposite_product (around chi x) Y (orthogonal_sym Y (around chi x) (y.orthogonal (around chi x) c)) e t n h)

  along_covector : (y : List ℕ) → IsCovector E chi (along chi y)
  along_covector y = record {
    orthogonal =
        λ V c. orthogonal_sym V (along chi y)
        (orthogonal_up_to_sign V (around chi c.tuple) (along chi y) c.same
        (around_orthogonal_along E chi om c.tuple y c.distinct));
    supported = λ e n. om.within (y ++ e ∷ []) n e (member_middle e y []);
  }

  -- a base, by the covectors
  seen_base : (b : List ℕ) → IsNonzero (chi b) → IsSeen (IsCovector E chi) b
  seen_base b n = (
    (λ i m.
        let s = split_at i b m in
        let nb : IsNonzero (chi (s.0 ++ i ∷ s.1)) = subst (λ l. IsNonzero (chi l)) s.2 n in (
          along chi (s.0 ++ s.1),
          along_covector (s.0 ++ s.1),
          nonzero_to_end chi om.alternating s.0 s.1 i nb,
          λ g mg d. last_repeat_zero chi om.alternating (s.0 ++ s.1) g
              (⊎_elim (λ q. absurd (d q)) (λ k. k) (member_drop g s.0 i s.1 (subst (IsMember g) s.2 mg))),
        )),
    λ Y cy v e. ⊎_elim (λ q. q)
        (λ ne.
        let out : IsMember e b → ⊥ = λ m. zero_not_nonzero (Y e) (v e m) ne in
        let r : IsDistinct (b ++ e ∷ []) = distinct_last b e (nonzero_distinct chi om.alternating b n) out in
        let o : (i : ℕ) → IsMember i (b ++ e ∷ []) → IsMember i E =
        λ i m. ⊎_elim (λ k. om.within b n i k) (λ q. subst (λ z. IsMember z E) (sym q) (cy.supported e ne))
        (member_last i e b m) in
        let c : Sign = around chi (b ++ e ∷ []) e in
        let nc : IsNonzero c = around_last_nonzero chi b e r n in
        let t = product c (Y e) in
        let nt : IsNonzero t = product_nonzero c (Y e) nc ne in
        let k = opposite_product (around chi (b ++ e ∷ [])) Y (covector_around Y cy (b ++ e ∷ []) r o) e t nt refl in
        let nk : IsNonzero (Y k.0) =
        right_nonzero (around chi (b ++ e ∷ []) k.0) (Y k.0) (opposite t) k.1 (opposite_nonzero t nt) in
        let mk = around_member chi (b ++ e ∷ []) k.0
        (left_nonzero (around chi (b ++ e ∷ []) k.0) (Y k.0) (opposite t) k.1 (opposite_nonzero t nt)) in
        absurd (⊎_elim
        (λ m. zero_not_nonzero (Y k.0) (v k.0 m) nk)
        (λ q. not_own_opposite t nt (subst (λ i. product (around chi (b ++ e ∷ []) i) (Y i) ≡ opposite t) q k.1))
        (member_last k.0 e b mk)))
        (zero_or_nonzero (Y e)),
  )

  seen_swap : (b t : List ℕ) (i h : ℕ) → IsNonzero (chi t) → IsDistinct (t ++ i ∷ []) → IsMember i b → IsMember h t
      → (IsMember h b → ⊥) → IsNonzero (around chi (t ++ i ∷ []) h)
      → ((t' : List ℕ) → IsNonzero (chi t') → suc (missing b t') ≤ missing b t → IsNonzero (chi b)) → IsNonzero (chi b)
  seen_swap b t i h n r mi mt hb nh rec =
      let s = split_at h t mt in
      let q : t ++ i ∷ [] ≡ s.0 ++ h ∷ (s.1 ++ i ∷ []) = ap (λ l. l ++ i ∷ []) s.2
      ∙ append_assoc s.0 (h ∷ s.1) (i ∷ []) in
      let n1 : IsNonzero (chi (s.0 ++ (s.1 ++ i ∷ []))) =
      nonzero_from_around chi s.0 h (s.1 ++ i ∷ []) (subst IsDistinct q r)
      (subst (λ l. IsNonzero (around chi l h)) q nh) in
      let n2 : IsNonzero (chi (s.0 ++ i ∷ s.1)) =
      nonzero_from_end chi om.alternating s.0 s.1 i
      (subst (λ l. IsNonzero (chi l)) (sym (append_assoc s.0 s.1 (i ∷ []))) n1) in
      let c1 : missing b t ≡ suc (missing b (s.0 ++ s.1)) = ap (missing b) s.2 ∙ missing_middle_other b s.0 h s.1 hb in
      let c2 = missing_middle_member b s.0 i s.1 mi in
      rec (s.0 ++ i ∷ s.1) n2 (omega (arith, c1, c2))

  -- and back: a base with more and more entries of b
  seen_step : (b : List ℕ) → IsDistinct b → ((i : ℕ) → IsMember i b → IsMember i E) → IsSeen (IsCovector E chi) b
      → (t : List ℕ) → IsNonzero (chi t)
      → ((t' : List ℕ) → IsNonzero (chi t') → suc (missing b t') ≤ missing b t → IsNonzero (chi b)) → IsNonzero (chi b)
  seen_step b rb ob seen t n rec =
      ⊎_elim
      (λ k.
      let i = k.0 in
      let y = seen.0 i k.1 in
      let r : IsDistinct (t ++ i ∷ []) = distinct_last t i (nonzero_distinct chi om.alternating t n) k.2 in
      let o : (j : ℕ) → IsMember j (t ++ i ∷ []) → IsMember j E =
      λ j m. ⊎_elim (λ q. om.within t n j q) (λ q. subst (λ z. IsMember z E) (sym q) (ob i k.1))
      (member_last j i t m) in
      let c = around chi (t ++ i ∷ []) in
      let nc : IsNonzero (c i) = around_last_nonzero chi t i r n in
      let s = product (c i) (y.0 i) in
      let ns : IsNonzero s = product_nonzero (c i) (y.0 i) nc y.2 in
      let h = opposite_product (around chi (t ++ i ∷ [])) y.0 (covector_around y.0 y.1 (t ++ i ∷ []) r o) i s ns refl in
      let nh : IsNonzero (c h.0) = left_nonzero (c h.0) (y.0 h.0) (opposite s) h.1 (opposite_nonzero s ns) in
      let yh : IsNonzero (y.0 h.0) = right_nonzero (c h.0) (y.0 h.0) (opposite s) h.1 (opposite_nonzero s ns) in
      let hi : h.0 ≢ i = λ q. not_own_opposite s ns (subst (λ z. product (c z) (y.0 z) ≡ opposite s) q h.1) in
      let mt : IsMember h.0 t =
      ⊎_elim (λ m. m) (λ q. absurd (hi q)) (member_last h.0 i t (around_member chi (t ++ i ∷ []) h.0 nh)) in
      let hb : IsMember h.0 b → ⊥ = λ m. zero_not_nonzero (y.0 h.0) (y.3 h.0 m hi) yh in
      seen_swap b t i h.0 n r k.1 mt hb nh rec)
      (λ inside.
      let all : (g : ℕ) → IsMember g t → IsMember g b = λ g m. ⊎_elim (λ q. q)
      (λ out.
      let s = split_at g t m in
      let ns : IsNonzero (chi (s.0 ++ g ∷ s.1)) = subst (λ l. IsNonzero (chi l)) s.2 n in
      let van : (i : ℕ) → IsMember i b → along chi (s.0 ++ s.1) i ≡ Zero =
      λ i mi. last_repeat_zero chi om.alternating (s.0 ++ s.1) i
      (⊎_elim (λ q. absurd (out (subst (λ z. IsMember z b) q mi))) (λ j. j)
      (member_drop i s.0 g s.1 (subst (IsMember i) s.2 (inside i mi)))) in
      absurd (zero_not_nonzero (along chi (s.0 ++ s.1) g)
      (seen.1 (along chi (s.0 ++ s.1)) (along_covector (s.0 ++ s.1)) van g)
      (nonzero_to_end chi om.alternating s.0 s.1 g ns)))
      (member_or_not g b) in
      same_members (λ l. IsNonzero (chi l)) (nonzero_swapped chi om.alternating) t [] b
      (nonzero_distinct chi om.alternating t n) rb all inside n)
      (search_members (λ i. IsMember i t → ⊥) (λ i. IsMember i t)
      (λ i. ⊎_elim (λ q. inr q) (λ q. inl q) (member_or_not i t)) b)

  base_from_seen : (k : ℕ) (b : List ℕ) → IsDistinct b → ((i : ℕ) → IsMember i b → IsMember i E)
      → IsSeen (IsCovector E chi) b → (t : List ℕ) → IsNonzero (chi t) → missing b t ≤ k → IsNonzero (chi b)
  base_from_seen zero b rb ob seen t n c =
      seen_step b rb ob seen t n
      (λ t' n' q. absurd (let r : suc (missing b t') ≤ missing b t = q in omega (arith, r, c)))
  base_from_seen (suc k) b rb ob seen t n c =
      seen_step b rb ob seen t n (λ t' n' q. base_from_seen k b rb ob seen t' n' (omega (arith, q, c)))

-- two maps with the same covectors
module _ (E : List ℕ) (chi psi : List ℕ → Sign) (omf : IsChirotope E chi) (omg : IsChirotope E psi)
    (fg : (Y : SignVector) → IsCovector E chi Y → IsCovector E psi Y)
    (gf : (Y : SignVector) → IsCovector E psi Y → IsCovector E chi Y)
  where
    -- the bases are the same
    pub same_bases : (t : List ℕ) → IsNonzero (chi t) → IsNonzero (psi t)
    same_bases t n =
        let s = seen_base E chi omf t n in
        base_from_seen E psi omg (missing t omg.base.0) t (nonzero_distinct chi omf.alternating t n) (omf.within t n)
        ((λ i m. (let y = s.0 i m in (y.0, fg y.0 y.1, y.2, y.3))), λ Y cy v. s.1 Y (gf Y cy) v) omg.base.0 omg.base.1
        (omega arith)

    same_support : (y : List ℕ) (e : ℕ) → IsNonzero (chi (y ++ e ∷ [])) → AreEqualUpToSign (along chi y) (along psi y)
    same_support y e n =
        covector_in_cocircuit E psi omg (along chi y) (along psi y)
        (fg (along chi y) (along_covector E chi omf y))
        (record { tuple = y; nonzero = (e, same_bases (y ++ e ∷ []) n); same = inl (λ i. refl) })
        (λ i m. same_bases (y ++ i ∷ []) m) (e, n)

    -- the products of the values at two bases that differ in one element are the same
    adjacent : (u v : List ℕ) (e h : ℕ) → IsNonzero (chi (u ++ e ∷ v)) → IsNonzero (chi (u ++ h ∷ v))
        → product (chi ((u ++ v) ++ e ∷ [])) (psi ((u ++ v) ++ e ∷ []))
        ≡ product (chi ((u ++ v) ++ h ∷ [])) (psi ((u ++ v) ++ h ∷ []))
    adjacent u v e h ne nh =
        let y = u ++ v in
        let fe = nonzero_to_end chi omf.alternating u v e ne in
        let fh = nonzero_to_end chi omf.alternating u v h nh in
        let p = same_products (along chi y) (along psi y) (same_support y e fe) e h in
        ratio (chi (y ++ e ∷ [])) (chi (y ++ h ∷ [])) (psi (y ++ e ∷ [])) (psi (y ++ h ∷ [])) p fe fh
        (same_bases (y ++ e ∷ []) fe) (same_bases (y ++ h ∷ []) fh)

    prod_swapped : (r : Sign) (u : List ℕ) (x y : ℕ) (v : List ℕ)
        → product (chi (u ++ x ∷ y ∷ v)) (psi (u ++ x ∷ y ∷ v)) ≡ r
        → product (chi (u ++ y ∷ x ∷ v)) (psi (u ++ y ∷ x ∷ v)) ≡ r
    prod_swapped r u x y v q = sym (product_opposites (chi (u ++ y ∷ x ∷ v)) (psi (u ++ y ∷ x ∷ v)))
        ∙ ap (λ k. product k (opposite (psi (u ++ y ∷ x ∷ v)))) (sym (omf.alternating y x u v))
        ∙ ap (product (chi (u ++ x ∷ y ∷ v))) (sym (omg.alternating y x u v)) ∙ q

    -- the product doesn't depend on the order
    prod_members : (s t : List ℕ) → IsDistinct s → IsDistinct t → ((i : ℕ) → IsMember i s → IsMember i t)
        → ((i : ℕ) → IsMember i t → IsMember i s) → product (chi t) (psi t) ≡ product (chi s) (psi s)
    prod_members s t rs rt to from =
        same_members (λ l. product (chi l) (psi l) ≡ product (chi s) (psi s)) (prod_swapped (product (chi s) (psi s))) s
        [] t rs rt to from refl

    end_prod : (u v : List ℕ) (e : ℕ) → IsNonzero (chi (u ++ e ∷ v))
        → product (chi ((u ++ v) ++ e ∷ [])) (psi ((u ++ v) ++ e ∷ [])) ≡ product (chi (u ++ e ∷ v)) (psi (u ++ e ∷ v))
    end_prod u v e n =
        prod_members (u ++ e ∷ v) ((u ++ v) ++ e ∷ []) (nonzero_distinct chi omf.alternating (u ++ e ∷ v) n)
        (nonzero_distinct chi omf.alternating ((u ++ v) ++ e ∷ []) (nonzero_to_end chi omf.alternating u v e n))
        (λ i m. ⊎_elim (λ q. member_right i (u ++ v) (e ∷ []) (inl q)) (λ k. member_left i (u ++ v) (e ∷ []) k)
        (member_drop i u e v m))
        (λ i m. ⊎_elim (λ k. member_insert i u e v k) (λ q. member_right i u (e ∷ v) (inl q))
        (member_last i e (u ++ v) m))

    -- from base to base
    connect_step : (c t : List ℕ) → IsNonzero (chi c) → IsNonzero (chi t)
        → ((t' : List ℕ) → IsNonzero (chi t') → suc (missing c t') ≤ missing c t
        → product (chi t') (psi t') ≡ product (chi c) (psi c)) → product (chi t) (psi t) ≡ product (chi c) (psi c)
    connect_step c t nc nt rec =
        ⊎_elim
        (λ k.
        let s = split_at k.0 t k.1 in
        let n1 : IsNonzero (chi (s.0 ++ k.0 ∷ s.1)) = subst (λ l. IsNonzero (chi l)) s.2 nt in
        let h = exchange E chi omf s.0 k.0 s.1 c n1 nc k.2 in
        let c1 : missing c t ≡ suc (missing c (s.0 ++ s.1)) = ap (missing c) s.2
        ∙ missing_middle_other c s.0 k.0 s.1 k.2 in
        let c2 = missing_middle_member c s.0 h.0 s.1 h.1 in
        ap (λ l. product (chi l) (psi l)) s.2 ∙ sym (end_prod s.0 s.1 k.0 n1) ∙ adjacent s.0 s.1 k.0 h.0 n1 h.3
        ∙ end_prod s.0 s.1 h.0 h.3 ∙ rec (s.0 ++ h.0 ∷ s.1) h.3 (omega (arith, c1, c2)))
        (λ inside.
        prod_members c t (nonzero_distinct chi omf.alternating c nc) (nonzero_distinct chi omf.alternating t nt)
        (contained chi omf.alternating (exchange E chi omf) t c nt nc inside) inside)
        (search_members (λ i. IsMember i c → ⊥) (λ i. IsMember i c)
        (λ i. ⊎_elim (λ q. inr q) (λ q. inl q) (member_or_not i c)) t)

    connect : (k : ℕ) (c t : List ℕ) → IsNonzero (chi c) → IsNonzero (chi t) → missing c t ≤ k
        → product (chi t) (psi t) ≡ product (chi c) (psi c)
    connect zero c t nc nt l =
        connect_step c t nc nt (λ t' n' q. absurd (let r : suc (missing c t') ≤ missing c t = q in omega (arith, r, l)))
    connect (suc k) c t nc nt l = connect_step c t nc nt (λ t' n' q. connect k c t' nc n' (omega (arith, q, l)))

    -- the product of the values is the same at all bases
    pub same_ratio : (t : List ℕ) → IsNonzero (chi t)
        → product (chi t) (psi t) ≡ product (chi omf.base.0) (psi omf.base.0)
    same_ratio t n = connect (missing omf.base.0 t) omf.base.0 t omf.base.1 n (omega arith)

-- two chirotopes with the same covectors are equal or opposite
pub unique : (E : List ℕ) (chi psi : List ℕ → Sign) → IsChirotope E chi → IsChirotope E psi
    → ((Y : SignVector) → IsCovector E chi Y → IsCovector E psi Y)
    → ((Y : SignVector) → IsCovector E psi Y → IsCovector E chi Y)
    → ((t : List ℕ) → chi t ≡ psi t) ⊎ ((t : List ℕ) → chi t ≡ opposite (psi t))
unique E chi psi omf omg fg gf =
    let there = same_bases E chi psi omf omg fg gf in
    let back = same_bases E psi chi omg omf gf fg in
    let rho = same_ratio E chi psi omf omg fg gf in
    let r : Sign = product (chi omf.base.0) (psi omf.base.0) in
    let zero : (t : List ℕ) → chi t ≡ Zero → psi t ≡ Zero =
    λ t z. ⊎_elim (λ q. q) (λ n. absurd (zero_not_nonzero (chi t) z (back t n))) (zero_or_nonzero (psi t)) in
    ⊎_elim
    (λ p. inl
    (λ t. ⊎_elim (λ z. z ∙ sym (zero t z)) (λ n. equal_if_product_plus (chi t) (psi t) (rho t n ∙ p))
    (zero_or_nonzero (chi t))))
    (λ p. inr
    (λ t. ⊎_elim (λ z. zeros_opposite (chi t) (psi t) z (zero t z))
    (λ n. opposite_if_product_minus (chi t) (psi t) (rho t n ∙ p)) (zero_or_nonzero (chi t))))
    (plus_or_minus r (product_nonzero (chi omf.base.0) (psi omf.base.0) omf.base.1 (there omf.base.0 omf.base.1)))
