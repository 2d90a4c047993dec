-- Relations of two lists of which one has few entries outside the other, from the three-term relations: the contraction
-- to rank 2.
--
-- Main results: good_two, picture
-- Reference: Björner, Las Vergnas, Sturmfels, White and Ziegler, Oriented Matroids, chapter 3.
use Rattle.std.specs.Prelude.{◌≡◌, ◌≢◌, ◌⊎◌, ℕ, ◌≤◌, List, [], ◌∷◌, ◌++◌}
use Rattle.std.proofs.Common.{suc, sym, ap, ◌∙◌, subst, ⊎_elim, arith, append_assoc, append-nil}
use Rattle.om_signs.specs.declared.sign.Sign.{Sign}
use Rattle.om_signs.specs.declared.sign.Sign.TheVariants.{Minus, Plus}
use Rattle.om_signs.specs.Sign.{opposite, product}
use Rattle.om_signs.proofs.SignLaws.{left_nonzero, opposite_nonzero, plus_nonzero, product_nonzero, right_nonzero}
use Rattle.om_laws.specs.Bases.{HasExchange}
use Rattle.om_laws.specs.Members.{IsDistinct, IsMember}
use Rattle.om_laws.specs.Relations.{along, around}
use Rattle.om_laws.specs.Signs.{IsNonzero}
use Rattle.om_laws.specs.ThreeTerm.{HasThreeTermRelations}
use Rattle.om_laws.specs.Tuples.{IsAlternating}
use Rattle.om_laws.specs.Vectors.{Orthogonal}
use Rattle.om_laws.proofs.BlockLaws.{negated_for, negated_for_last, negated_for_nonzero, negated_for_product}
use Rattle.om_laws.proofs.MemberLaws.{distinct_drop, distinct_last, member_append, member_drop, member_left}
use Rattle.om_laws.proofs.MemberLaws.{member_middle}
use Rattle.om_laws.proofs.Missing.{missing, missing_less}
use Rattle.om_laws.proofs.RankTwoLaws.{no_other_direction}
use Rattle.om_laws.proofs.RelationLaws.{around_at, around_member}
use Rattle.om_laws.proofs.TupleLaws.{moved_over, nonzero_distinct}
use Rattle.om_laws.proofs.VectorLaws.{opposite_product, orthogonal_from}

-- d: the sign of a move; t: the sign on one side
side_sign : (d t vx uy ps : Sign) → IsNonzero d → IsNonzero t → uy ≡ product d ps → product vx uy ≢ opposite t
    → product (product (product d t) vx) ps ≢ Minus
side_sign d t vx uy ps nd nt e n k = grind arith

off_sign : (d t vx uy ps : Sign) → IsNonzero d → IsNonzero t → uy ≡ product d ps → product vx uy ≡ t
    → product (product (product d t) vx) ps ≡ Plus
off_sign d t vx uy ps nd nt e n = grind arith

family_in : (c vx ps t : Sign) → IsNonzero c → product (product c vx) ps ≡ t → product vx ps ≡ product c t
family_in c vx ps t n e = grind arith

family_out : (c vx ps t : Sign) → IsNonzero c → product vx ps ≡ opposite (product c t)
    → product (product c vx) ps ≡ opposite t
family_out c vx ps t n e = grind arith

two_products : (d p q : Sign) → product (opposite (product d p)) q ≡ opposite (product (product d q) p)
two_products d p q = grind arith

turn_back : (a b t : Sign) → a ≡ opposite b → a ≡ t → b ≡ opposite t
turn_back a b t e h = grind arith

go_on : (a b t : Sign) → a ≡ opposite b → b ≡ t → a ≡ opposite t
go_on a b t e h = grind arith

module _ (chi : List ℕ → Sign) (alt : IsAlternating chi) (ex : HasExchange chi) where
  module _ (g3 : HasThreeTermRelations chi) where
    abbrev AreOrthogonal : List ℕ → List ℕ → Type 0
    AreOrthogonal x y = Orthogonal (around chi x) (along chi y)

    last_out : (y : List ℕ) (a : ℕ) → IsNonzero (chi (y ++ a ∷ [])) → IsMember a y → ⊥
    last_out y a n m = (distinct_drop y a [] (nonzero_distinct chi alt (y ++ a ∷ []) n)).1 (member_left a y [] m)

    -- two entries of x outside y
    pub good_two : (y : List ℕ) (x0 e1 : ℕ) → IsNonzero (chi (y ++ x0 ∷ [])) → (IsMember e1 (y ++ x0 ∷ []) → ⊥)
        → AreOrthogonal (y ++ x0 ∷ e1 ∷ []) y
    good_two y x0 e1 n ne = orthogonal_from (around chi (y ++ x0 ∷ e1 ∷ [])) (along chi y) (λ e t nt h.
        let z = y ++ x0 ∷ e1 ∷ [] in
        let q : (y ++ x0 ∷ []) ++ e1 ∷ [] ≡ z = append_assoc y (x0 ∷ []) (e1 ∷ []) in
        let r1 = distinct_last (y ++ x0 ∷ []) e1 (nonzero_distinct chi alt (y ++ x0 ∷ []) n) ne in
        let r : IsDistinct z = subst IsDistinct q r1 in
        let d = negated_for (x0 ∷ y) Plus in
        let p = chi (y ++ x0 ∷ []) in
        let o = chi (y ++ e1 ∷ []) in
        let c0 : around chi z x0 ≡ product d o = around_at chi y x0 (e1 ∷ []) r ∙ negated_for_product (x0 ∷ y) o in
        let c1a : around chi ((y ++ x0 ∷ []) ++ e1 ∷ []) e1
        ≡ negated_for (e1 ∷ (y ++ x0 ∷ [])) (chi ((y ++ x0 ∷ []) ++ [])) =
        around_at chi (y ++ x0 ∷ []) e1 [] r1 in
        let c1b : negated_for (e1 ∷ (y ++ x0 ∷ [])) (chi ((y ++ x0 ∷ []) ++ [])) ≡ opposite (product d p) =
        ap (λ l. negated_for (e1 ∷ (y ++ x0 ∷ [])) (chi l)) (append-nil (y ++ x0 ∷ []))
        ∙ ap opposite (negated_for_last y x0 p) ∙ ap opposite (negated_for_product (x0 ∷ y) p) in
        let c1 : around chi z e1 ≡ opposite (product d p) = ap (λ l. around chi l e1) (sym q) ∙ c1a ∙ c1b in
        let op : product (around chi z e1) o ≡ opposite (product (around chi z x0) p) =
        ap (λ s. product s o) c1 ∙ two_products d p o ∙ ap (λ s. opposite (product s p)) (sym c0) in
        let m : IsMember e z = around_member chi z e (left_nonzero (around chi z e) (chi (y ++ e ∷ [])) t h nt) in
        let ny : IsMember e y → ⊥ = last_out y e (right_nonzero (around chi z e) (chi (y ++ e ∷ [])) t h nt) in
        ⊎_elim
        (λ k. absurd (ny k))
        (λ k. ⊎_elim
        (λ w. (
          e1,
          go_on (product (around chi z e1) o) (product (around chi z x0) p) t op
              (subst (λ i. product (around chi z i) (chi (y ++ i ∷ [])) ≡ t) w h),
        ))
        (λ k2. ⊎_elim
        (λ w. (
          x0,
          turn_back (product (around chi z e1) o) (product (around chi z x0) p) t op
              (subst (λ i. product (around chi z i) (chi (y ++ i ∷ [])) ≡ t) w h),
        ))
        (λ b. absurd b)
        k2)
        k)
        (member_append e y (x0 ∷ e1 ∷ []) m))

    -- the contraction to rank 2 seen from a: all products on one side contradict
    pub picture : (x u w : List ℕ) (a : ℕ) → IsDistinct x → (IsMember a x → ⊥) → IsDistinct (u ++ a ∷ w)
        → ((y' : List ℕ) → IsDistinct y' → suc (missing y' x) ≤ missing (u ++ a ∷ w) x → AreOrthogonal x y')
        → (t : Sign) → IsNonzero t
        → ((g : ℕ) → IsMember g x → product (around chi x g) (along chi (u ++ a ∷ w) g) ≢ opposite t)
        → (x0 : ℕ) → IsMember x0 x → product (around chi x x0) (along chi (u ++ a ∷ w) x0) ≡ t
        → (s : ℕ) → IsMember s x → IsNonzero (chi ((u ++ w) ++ s ∷ x0 ∷ [])) → ⊥
    picture x u w a rx na ry rec t nt one x0 mx e0 s ms ns =
        let y = u ++ a ∷ w in
        let pr = u ++ w in
        let psi : ℕ → ℕ → Sign = λ g h. chi (pr ++ g ∷ h ∷ []) in
        let d = negated_for w Plus in
        let nd : IsNonzero d = negated_for_nonzero w Plus plus_nonzero in
        let c = product d t in
        let nc : IsNonzero c = product_nonzero d t nd nt in
        let v : ℕ → Sign = λ g. product c (around chi x g) in
        let uy : (g : ℕ) → along chi y g ≡ product d (psi a g) = λ g.
        ap chi (append_assoc u (a ∷ w) (g ∷ [])) ∙ moved_over chi alt w u a (g ∷ [])
        ∙ ap (λ l. negated_for w (chi l)) (sym (append_assoc u w (a ∷ g ∷ []))) ∙ negated_for_product w (psi a g) in
        no_other_direction psi (λ g h. alt h g pr []) (λ i j k l. g3 pr i j k l) x v a x0
        (λ g m. side_sign d t (around chi x g) (along chi y g) (psi a g) nd nt (uy g) (one g m))
        mx
        (off_sign d t (around chi x x0) (along chi y x0) (psi a x0) nd nt (uy x0) e0)
        (λ s' m' h mh t' nt' eq.
        let eh : product (around chi x h) (psi s' h) ≡ product c t' =
        family_in c (around chi x h) (psi s' h) t' nc eq in
        let np : IsNonzero (psi s' h) =
        right_nonzero (around chi x h) (psi s' h) (product c t') eh (product_nonzero c t' nc nt') in
        let off_pr : IsMember s' pr → ⊥ =
        λ k. (distinct_drop pr s' (h ∷ []) (nonzero_distinct chi alt (pr ++ s' ∷ h ∷ []) np)).1
        (member_left s' pr (h ∷ []) k) in
        let ns' : IsMember s' y → ⊥ =
        λ k. ⊎_elim (λ q. na (subst (λ z. IsMember z x) q m')) off_pr (member_drop s' u a w k) in
        let y' = pr ++ s' ∷ [] in
        let less : suc (missing y' x) ≤ missing y x = missing_less y y' x
        (λ g i j. member_left g pr (s' ∷ [])
        (⊎_elim (λ q. absurd (na (subst (λ z. IsMember z x) q i))) (λ k. k) (member_drop g u a w j)))
        s' m' ns' (member_middle s' pr []) in
        let ps : (g : ℕ) → along chi y' g ≡ psi s' g = λ g. ap chi (append_assoc pr (s' ∷ []) (g ∷ [])) in
        let k = opposite_product (around chi x) (along chi y')
        (rec y' (distinct_last pr s' (distinct_drop u a w ry).0 off_pr) less) h (product c t')
        (product_nonzero c t' nc nt') (ap (product (around chi x h)) (ps h) ∙ eh) in
        let ek : product (around chi x k.0) (psi s' k.0) ≡ opposite (product c t') =
        ap (product (around chi x k.0)) (sym (ps k.0)) ∙ k.1 in (
          k.0,
          around_member chi x k.0
              (left_nonzero (around chi x k.0) (psi s' k.0) (opposite (product c t')) ek
              (opposite_nonzero (product c t') (product_nonzero c t' nc nt'))),
          family_out c (around chi x k.0) (psi s' k.0) t' nc ek,
        ))
        s ms ns
