-- Exchange and the three-term relations give the relations of all tuples, in every rank.
--
-- Main results: three_term_relations
-- Reference: Björner, Las Vergnas, Sturmfels, White and Ziegler, Oriented Matroids, chapter 3.
use Rattle.std.specs.Prelude.{◌≡◌, ◌≢◌, ◌⊎◌, ℕ, ◌≤◌, List, [], ◌∷◌, ◌++◌}
use Rattle.std.proofs.Common.{zero, suc, sym, ap, ◌∙◌, subst, ⊎_elim, inl, inr, arith, append_assoc}
use Rattle.std.proofs.lemmas.Bool.{cases_eq}
use Rattle.om_signs.specs.declared.sign.Sign.{Sign}
use Rattle.om_signs.specs.Sign.{opposite, product}
use Rattle.om_signs.proofs.SignLaws.{left_nonzero, opposite_nonzero, right_nonzero, same_or_different}
use Rattle.om_laws.specs.Bases.{HasExchange}
use Rattle.om_laws.specs.Members.{IsDistinct, IsMember}
use Rattle.om_laws.specs.Relations.{HasRelations, IsBalanced, along, around}
use Rattle.om_laws.specs.Signs.{IsNonzero}
use Rattle.om_laws.specs.ThreeTerm.{HasThreeTermRelations}
use Rattle.om_laws.specs.Tuples.{IsAlternating}
use Rattle.om_laws.specs.Vectors.{Orthogonal}
use Rattle.om_laws.proofs.BlockLaws.{same_members}
use Rattle.om_laws.proofs.MemberLaws.{distinct_drop, distinct_last, member_append, member_drop, member_insert}
use Rattle.om_laws.proofs.MemberLaws.{member_last, member_left, member_middle, member_or_not, member_right}
use Rattle.om_laws.proofs.MemberLaws.{search_members, split_at}
use Rattle.om_laws.proofs.Missing.{missing}
use Rattle.om_laws.proofs.RelationLaws.{IsBalanced_swap, around_member, balanced_from_orthogonal, nonzero_from_around}
use Rattle.om_laws.proofs.RelationLaws.{orthogonal_from_balanced, relations_by_sorting}
use Rattle.om_laws.proofs.SortingLaws.{increasing_distinct}
use Rattle.om_laws.proofs.TupleLaws.{nonzero_distinct, nonzero_swapped, nonzero_to_end}
use Rattle.om_laws.proofs.VectorLaws.{opposite_product, orthogonal_from}
use Rattle.om_laws.proofs.DualExchangeLaws.{contained, dual_exchange}
use Rattle.om_laws.proofs.RankTwoPictures.{good_two, picture}

module _ (chi : List ℕ → Sign) (alt : IsAlternating chi) (ex : HasExchange chi) where
  module _ (g3 : HasThreeTermRelations chi) where
    abbrev AreOrthogonal : List ℕ → List ℕ → Type 0
    AreOrthogonal x y = Orthogonal (around chi x) (along chi y)

    members_two : (x y : List ℕ) (x0 e1 : ℕ) → ((g : ℕ) → IsMember g x → IsMember g y ⊎ ((g ≡ x0) ⊎ (g ≡ e1))) → (g : ℕ)
        → IsMember g x → IsMember g (y ++ x0 ∷ e1 ∷ [])
    members_two x y x0 e1 h g m =
        ⊎_elim (λ k. member_left g y (x0 ∷ e1 ∷ []) k)
        (λ k. member_right g y (x0 ∷ e1 ∷ []) (⊎_elim (λ q. inl q) (λ q. inr (inl q)) k)) (h g m)

    from_two : (x y : List ℕ) (x0 e1 : ℕ) → IsMember x0 x → IsMember e1 x → ((g : ℕ) → IsMember g y → IsMember g x)
        → (g : ℕ) → IsMember g (y ++ x0 ∷ e1 ∷ []) → IsMember g x
    from_two x y x0 e1 m0 m1 h g m =
        ⊎_elim (λ k. h g k)
        (λ k. ⊎_elim (λ q. subst (λ z. IsMember z x) (sym q) m0)
        (λ j. ⊎_elim (λ q. subst (λ z. IsMember z x) (sym q) m1) (λ b. absurd b) j) k)
        (member_append g y (x0 ∷ e1 ∷ []) m)

    -- an entry a of y replaced by g, seen from another split of y
    spread : (y u w b1 b2 : List ℕ) (x0 a g : ℕ) → y ≡ u ++ a ∷ w → y ++ x0 ∷ [] ≡ b1 ++ a ∷ b2
        → IsNonzero (chi (y ++ x0 ∷ [])) → IsNonzero (chi (b1 ++ g ∷ b2)) → IsNonzero (chi ((u ++ w) ++ g ∷ x0 ∷ []))
    spread y u w b1 b2 x0 a g ey eb nb n =
        let c : List ℕ = u ++ (w ++ x0 ∷ []) in
        let o : List ℕ = b1 ++ b2 in
        let eB : y ++ x0 ∷ [] ≡ u ++ a ∷ (w ++ x0 ∷ []) = ap (λ l. l ++ x0 ∷ []) ey
        ∙ append_assoc u (a ∷ w) (x0 ∷ []) in
        let rB : IsDistinct (y ++ x0 ∷ []) = nonzero_distinct chi alt (y ++ x0 ∷ []) nb in
        let r1 = distinct_drop b1 a b2 (subst IsDistinct eb rB) in
        let r2 = distinct_drop u a (w ++ x0 ∷ []) (subst IsDistinct eB rB) in
        let forth : b1 ++ a ∷ b2 ≡ u ++ a ∷ (w ++ x0 ∷ []) = sym eb ∙ eB in
        let to : (i : ℕ) → IsMember i o → IsMember i c = λ i m.
        ⊎_elim (λ q. absurd (r1.1 (subst (λ z. IsMember z o) q m))) (λ j. j)
        (member_drop i u a (w ++ x0 ∷ []) (subst (IsMember i) forth (member_insert i b1 a b2 m))) in
        let from : (i : ℕ) → IsMember i c → IsMember i o = λ i m.
        ⊎_elim (λ q. absurd (r2.1 (subst (λ z. IsMember z c) q m))) (λ j. j)
        (member_drop i b1 a b2 (subst (IsMember i) (sym forth) (member_insert i u a (w ++ x0 ∷ []) m))) in
        let n2 : IsNonzero (chi (c ++ g ∷ [])) = same_members (λ l. IsNonzero (chi (l ++ g ∷ [])))
        (λ p i j q z. subst (λ l. IsNonzero (chi l)) (sym (append_assoc p (j ∷ i ∷ q) (g ∷ [])))
        (nonzero_swapped chi alt p i j (q ++ g ∷ [])
        (subst (λ l. IsNonzero (chi l)) (append_assoc p (i ∷ j ∷ q) (g ∷ [])) z)))
        o [] c r1.0 r2.0 to from (nonzero_to_end chi alt b1 b2 g n) in
        let e3 : c ++ g ∷ [] ≡ (u ++ w) ++ x0 ∷ g ∷ [] = ap (λ l. l ++ g ∷ []) (sym (append_assoc u w (x0 ∷ [])))
        ∙ append_assoc (u ++ w) (x0 ∷ []) (g ∷ []) in
        nonzero_swapped chi alt (u ++ w) x0 g [] (subst (λ l. IsNonzero (chi l)) e3 n2)

    abbrev OneSide : List ℕ → List ℕ → Sign → Type 0
    OneSide x y t = (g : ℕ) → IsMember g x → product (around chi x g) (along chi y g) ≢ opposite t

    abbrev Before : List ℕ → List ℕ → Type 0
    Before x y = (y' : List ℕ) → IsDistinct y' → suc (missing y' x) ≤ missing y x → AreOrthogonal x y'

    -- y known by a split
    at_split : (x y u w : List ℕ) (a : ℕ) → y ≡ u ++ a ∷ w → IsDistinct x → IsDistinct y → Before x y → (t : Sign)
        → IsNonzero t → OneSide x y t → (IsMember a x → ⊥)
        → (x0 : ℕ) → IsMember x0 x → product (around chi x x0) (along chi y x0) ≡ t → (s : ℕ) → IsMember s x
        → IsNonzero (chi ((u ++ w) ++ s ∷ x0 ∷ [])) → ⊥
    at_split x y u w a ey rx ry rec t nt one na x0 m0 h s ms ns =
        picture chi alt ex g3 x u w a rx na (subst IsDistinct ey ry)
        (λ y' r' less. rec y' r' (subst (λ l. suc (missing y' x) ≤ missing l x) (sym ey) less))
        t nt (λ i m. subst (λ l. product (around chi x i) (along chi l i) ≢ opposite t) ey (one i m))
        x0 m0 (subst (λ l. product (around chi x x0) (along chi l x0) ≡ t) ey h) s ms ns

    -- a third entry g of x outside y
    use_some : (x y t' : List ℕ) (x0 e1 g : ℕ) → IsDistinct x → IsDistinct y → Before x y → (t : Sign) → IsNonzero t
        → OneSide x y t
        → product (around chi x x0) (along chi y x0) ≡ t → IsMember x0 x → IsNonzero (chi (y ++ x0 ∷ []))
        → IsNonzero (chi t') → (IsMember e1 (y ++ x0 ∷ []) → ⊥) → IsMember x0 t'
        → ((i : ℕ) → IsMember i x → i ≢ e1 → IsMember i t') → IsMember g x → (IsMember g y → ⊥) → g ≢ x0 → g ≢ e1 → ⊥
    use_some x y t' x0 e1 g rx ry rec t nt one h m0 nb n5 d4 mx0 to_t' mg ny n0 n1 =
        let nB : IsMember g (y ++ x0 ∷ []) → ⊥ = λ m. ⊎_elim ny n0 (member_last g x0 y m) in
        let a =
        dual_exchange chi alt ex (missing (y ++ x0 ∷ []) t') (y ++ x0 ∷ []) t' (omega arith) nb n5 g (to_t' g mg n1) nB
        in
        let maB : IsMember a.1 (y ++ x0 ∷ []) = subst (IsMember a.1) (sym a.3) (member_middle a.1 a.0 a.2) in
        let nax : IsMember a.1 x → ⊥ = λ m. a.4 (to_t' a.1 m (λ q. d4 (subst (λ z. IsMember z (y ++ x0 ∷ [])) q maB)))
        in
        let may : IsMember a.1 y =
        ⊎_elim (λ j. j) (λ q. absurd (a.4 (subst (λ z. IsMember z t') (sym q) mx0))) (member_last a.1 x0 y maB) in
        let sy = split_at a.1 y may in
        at_split x y sy.0 sy.1 a.1 sy.2 rx ry rec t nt one nax x0 m0 h g mg
        (spread y sy.0 sy.1 a.0 a.2 x0 a.1 g sy.2 a.3 nb a.5)

    -- no third entry
    use_none : (x y t' : List ℕ) (x0 e1 : ℕ) → IsDistinct x → (t : Sign) → IsNonzero t → OneSide x y t
        → product (around chi x x0) (along chi y x0) ≡ t → IsMember x0 x → IsMember e1 x
        → IsNonzero (chi (y ++ x0 ∷ [])) → IsNonzero (chi t') → (IsMember e1 (y ++ x0 ∷ []) → ⊥)
        → ((i : ℕ) → IsMember i t' → IsMember i x) → (IsMember e1 t' → ⊥)
        → ((g : ℕ) → IsMember g x → IsMember g y ⊎ ((g ≡ x0) ⊎ (g ≡ e1))) → ⊥
    use_none x y t' x0 e1 rx t nt one h m0 m1 nb n5 d4 of_t' not_e1 none =
        let in_B : (g : ℕ) → IsMember g t' → IsMember g (y ++ x0 ∷ []) = λ g m.
        ⊎_elim (λ j. member_left g y (x0 ∷ []) j)
        (λ j. ⊎_elim (λ q. subst (λ z. IsMember z (y ++ x0 ∷ [])) (sym q) (member_middle x0 y []))
        (λ q. absurd (not_e1 (subst (λ z. IsMember z t') q m))) j)
        (none g (of_t' g m)) in
        let back = contained chi alt ex t' (y ++ x0 ∷ []) n5 nb in_B in
        let y_in_x : (g : ℕ) → IsMember g y → IsMember g x = λ g m. of_t' g (back g (member_left g y (x0 ∷ []) m)) in
        let z : List ℕ = y ++ x0 ∷ e1 ∷ [] in
        let rz : IsDistinct z =
        subst IsDistinct (append_assoc y (x0 ∷ []) (e1 ∷ []))
        (distinct_last (y ++ x0 ∷ []) e1 (nonzero_distinct chi alt (y ++ x0 ∷ []) nb) d4) in
        let bz : IsBalanced chi z (along chi y) =
        balanced_from_orthogonal chi z (along chi y) rz (good_two chi alt ex g3 y x0 e1 nb d4) in
        let bx : IsBalanced chi x (along chi y) =
        same_members (λ l. IsBalanced chi l (along chi y))
        (λ u i j v q. IsBalanced_swap chi i j u v (along chi y) alt q) z [] x rz rx
        (from_two x y x0 e1 m0 m1 y_in_x) (members_two x y x0 e1 none) bz in
        let k = opposite_product (around chi x) (along chi y) (orthogonal_from_balanced chi x (along chi y) rx bx) x0 t
        nt h in
        one k.0 (around_member chi x k.0
        (left_nonzero (around chi x k.0) (along chi y k.0) (opposite t) k.1 (opposite_nonzero t nt))) k.1

    -- x split at x0, its rest split at e1
    with_splits : (x y s1 s2 d1 d2 : List ℕ) (x0 e1 : ℕ) → x ≡ s1 ++ x0 ∷ s2 → s1 ++ s2 ≡ d1 ++ e1 ∷ d2 → IsDistinct x
        → IsDistinct y → Before x y → (t : Sign) → IsNonzero t → OneSide x y t
        → product (around chi x x0) (along chi y x0) ≡ t → IsNonzero (chi (y ++ x0 ∷ []))
        → IsNonzero (chi (d1 ++ x0 ∷ d2)) → (IsMember e1 (y ++ x0 ∷ []) → ⊥) → ⊥
    with_splits x y s1 s2 d1 d2 x0 e1 ex' ed rx ry rec t nt one h nb n5 d4 =
        let m0 : IsMember x0 x = subst (IsMember x0) (sym ex') (member_middle x0 s1 s2) in
        let dx = distinct_drop s1 x0 s2 (subst IsDistinct ex' rx) in
        let dd = distinct_drop d1 e1 d2 (subst IsDistinct ed dx.0) in
        let to_T : (g : ℕ) → IsMember g x → g ≢ x0 → IsMember g (d1 ++ e1 ∷ d2) = λ g m n.
        subst (IsMember g) ed (⊎_elim (λ q. absurd (n q)) (λ k. k) (member_drop g s1 x0 s2 (subst (IsMember g) ex' m)))
        in
        let to_x : (g : ℕ) → IsMember g (d1 ++ e1 ∷ d2) → IsMember g x =
        λ g m. subst (IsMember g) (sym ex') (member_insert g s1 x0 s2 (subst (IsMember g) (sym ed) m)) in
        let m1 : IsMember e1 x = to_x e1 (member_middle e1 d1 d2) in
        let to_t' : (g : ℕ) → IsMember g x → g ≢ e1 → IsMember g (d1 ++ x0 ∷ d2) = λ g m n.
        ⊎_elim (λ q. subst (λ z. IsMember z (d1 ++ x0 ∷ d2)) (sym q) (member_middle x0 d1 d2))
        (λ k. member_insert g d1 x0 d2 (⊎_elim (λ q. absurd (n q)) (λ j. j) (member_drop g d1 e1 d2 (to_T g m k))))
        (cases_eq g x0) in
        let of_t' : (g : ℕ) → IsMember g (d1 ++ x0 ∷ d2) → IsMember g x = λ g m.
        ⊎_elim (λ q. subst (λ z. IsMember z x) (sym q) m0) (λ k. to_x g (member_insert g d1 e1 d2 k))
        (member_drop g d1 x0 d2 m) in
        let not_e1 : IsMember e1 (d1 ++ x0 ∷ d2) → ⊥ = λ m.
        ⊎_elim (λ q. d4 (subst (λ z. IsMember z (y ++ x0 ∷ [])) (sym q) (member_middle x0 y []))) (λ k. dd.1 k)
        (member_drop e1 d1 x0 d2 m) in
        ⊎_elim
        (λ k. use_some x y (d1 ++ x0 ∷ d2) x0 e1 k.0 rx ry rec t nt one h m0 nb n5 d4 (member_middle x0 d1 d2) to_t' k.1
        k.2.0 k.2.1 k.2.2)
        (λ none. use_none x y (d1 ++ x0 ∷ d2) x0 e1 rx t nt one h m0 m1 nb n5 d4 of_t' not_e1 none)
        (search_members (λ g. (IsMember g y → ⊥) × (g ≢ x0) × (g ≢ e1)) (λ g. IsMember g y ⊎ ((g ≡ x0) ⊎ (g ≡ e1)))
        (λ g. ⊎_elim (λ m. inr (inl m))
        (λ n. ⊎_elim (λ q. inr (inr (inl q)))
        (λ n0. ⊎_elim (λ q. inr (inr (inr q))) (λ n1. inl (n, n0, n1)) (cases_eq g e1)) (cases_eq g x0))
        (member_or_not g y))
        x)

    contradiction : (x y : List ℕ) → IsDistinct x → IsDistinct y → Before x y → (t : Sign) → IsNonzero t → OneSide x y t
        → (x0 : ℕ) → product (around chi x x0) (along chi y x0) ≡ t → ⊥
    contradiction x y rx ry rec t nt one x0 h =
        let nv : IsNonzero (around chi x x0) = left_nonzero (around chi x x0) (along chi y x0) t h nt in
        let nb : IsNonzero (chi (y ++ x0 ∷ [])) = right_nonzero (around chi x x0) (along chi y x0) t h nt in
        let s = split_at x0 x (around_member chi x x0 nv) in
        let rs = subst IsDistinct s.2 rx in
        let nT : IsNonzero (chi (s.0 ++ s.1)) =
        nonzero_from_around chi s.0 x0 s.1 rs (subst (λ l. IsNonzero (around chi l x0)) s.2 nv) in
        let d =
        dual_exchange chi alt ex (missing (s.0 ++ s.1) (y ++ x0 ∷ [])) (s.0 ++ s.1) (y ++ x0 ∷ []) (omega arith) nT nb
        x0
        (member_middle x0 y []) (distinct_drop s.0 x0 s.1 rs).1 in
        with_splits x y s.0 s.1 d.0 d.2 x0 d.1 s.2 d.3 rx ry rec t nt one h nb d.5 d.4

    step : (x y : List ℕ) → IsDistinct x → IsDistinct y
        → ((y' : List ℕ) → IsDistinct y' → suc (missing y' x) ≤ missing y x → AreOrthogonal x y') → AreOrthogonal x y
    step x y rx ry rec = orthogonal_from (around chi x) (along chi y) (λ x0 t nt h.
        ⊎_elim
        (λ k. (k.0, k.2))
        (λ one. absurd (contradiction x y rx ry rec t nt one x0 h))
        (search_members (λ g. product (around chi x g) (along chi y g) ≡ opposite t)
        (λ g. product (around chi x g) (along chi y g) ≢ opposite t)
        (λ g. same_or_different (product (around chi x g) (along chi y g)) (opposite t)) x))

    all : (k : ℕ) (x y : List ℕ) → IsDistinct x → IsDistinct y → missing y x ≤ k → AreOrthogonal x y
    all zero x y rx ry c =
        step x y rx ry (λ y' r q. absurd (let z : suc (missing y' x) ≤ missing y x = q in omega (arith, z, c)))
    all (suc k) x y rx ry c = step x y rx ry (λ y' r q. all k x y' rx r (omega (arith, q, c)))

    -- an alternating map with exchange of bases and the three-term relations has the relations of all lists
    pub three_term_relations : HasRelations chi
    three_term_relations = relations_by_sorting chi alt (λ s a is ia.
        balanced_from_orthogonal chi s (along chi a) (increasing_distinct s is)
        (all (missing a s) s a (increasing_distinct s is) (increasing_distinct a ia) (omega arith)))
