-- A map that fits a set of cocircuits has exchange and the three-term relations, so it has the relations of all tuples.
--
-- Main definitions: none.
-- Main results: each nonzero vector along a tuple is a member (row_is_member); exchange (made_exchange); the three-term
-- relations (made_three_terms); the relations of all tuples (made_relations).
-- Reference: Björner, Las Vergnas, Sturmfels, White and Ziegler, Oriented Matroids, sections 3.5 and 3.6.
use Rattle.std.specs.Prelude.{◌≡◌, ◌⊎◌, ℕ, List, [], ◌∷◌, ◌++◌, refl}
use Rattle.std.proofs.Common.{sym, ap, ◌∙◌, subst, ⊎_elim, inl, inr, arith, append_assoc}
use Rattle.om_signs.specs.declared.sign.Sign.{Sign}
use Rattle.om_signs.specs.declared.sign.Sign.TheVariants.{Minus, Zero, Plus}
use Rattle.om_signs.specs.Sign.{opposite, product}
use Rattle.om_signs.proofs.SignLaws.{minus_nonzero, nonzero_if_opposite, opposite-opposite, opposite_nonzero}
use Rattle.om_signs.proofs.SignLaws.{opposite_swap, opposite_zero, plus_nonzero, plus_or_minus, product-opposite_right}
use Rattle.om_signs.proofs.SignLaws.{product_nonzero, right_factor_nonzero, zero_not_nonzero, zero_or_nonzero}
use Rattle.om_signs.proofs.SignLaws.{left_factor_nonzero, product_plus_left}
use Rattle.om_laws.specs.Signs.{IsNonzero}
use Rattle.om_laws.proofs.ExistenceHelpers.{left_of_two, zero_of_two}
use Rattle.om_laws.specs.Members.{IsMember}
use Rattle.om_laws.proofs.MemberLaws.{distinct_drop, member_drop, member_insert, member_last, member_left}
use Rattle.om_laws.proofs.MemberLaws.{member_middle}
use Rattle.om_laws.specs.Vectors.{SignVector}
use Rattle.om_laws.proofs.ExistenceHelpers.{Vanishes, same_nonzero}
use Rattle.om_laws.specs.Tuples.{IsAlternating}
use Rattle.om_laws.specs.Relations.{HasRelations}
use Rattle.om_laws.specs.Bases.{HasExchange}
use Rattle.om_laws.specs.ThreeTerm.{AreBalanced}
use Rattle.om_laws.specs.ThreeTerm.{HasThreeTermRelations}
use Rattle.om_laws.proofs.ThreeTermLaws.{three_term_relations}
use Rattle.om_laws.proofs.CocircuitBases.{ExtendsToBase, IsCocircuitBase, base_exchange, extending_member}
use Rattle.om_laws.proofs.CocircuitBases.{extending_nonzero, extending_same, opposed_at}
use Rattle.om_laws.proofs.VectorLaws.{same_products, same_zero}

-- a nonzero value has an opposite one
abbrev Answers : Sign → Sign → Sign → Type 0
Answers a b c = IsNonzero a → (b ≡ opposite a) ⊎ (c ≡ opposite a)

of_answers : (a b c : Sign) → Answers a b c → Answers b a c → Answers c a b → AreBalanced a b c
of_answers Minus Minus Minus h k l = ⊎_elim (λ e. grind (arith, e)) (λ e. grind (arith, e)) (h minus_nonzero)
of_answers Minus Minus Zero h k l = ⊎_elim (λ e. grind (arith, e)) (λ e. grind (arith, e)) (h minus_nonzero)
of_answers Minus Minus Plus h k l = tt
of_answers Minus Zero Minus h k l = ⊎_elim (λ e. grind (arith, e)) (λ e. grind (arith, e)) (h minus_nonzero)
of_answers Minus Zero Zero h k l = ⊎_elim (λ e. grind (arith, e)) (λ e. grind (arith, e)) (h minus_nonzero)
of_answers Minus Zero Plus h k l = tt
of_answers Minus Plus c h k l = tt
of_answers Zero Minus Minus h k l = ⊎_elim (λ e. grind (arith, e)) (λ e. grind (arith, e)) (k minus_nonzero)
of_answers Zero Minus Zero h k l = ⊎_elim (λ e. grind (arith, e)) (λ e. grind (arith, e)) (k minus_nonzero)
of_answers Zero Minus Plus h k l = tt
of_answers Zero Zero Minus h k l = ⊎_elim (λ e. grind (arith, e)) (λ e. grind (arith, e)) (l minus_nonzero)
of_answers Zero Zero Zero h k l = tt
of_answers Zero Zero Plus h k l = ⊎_elim (λ e. grind (arith, e)) (λ e. grind (arith, e)) (l plus_nonzero)
of_answers Zero Plus Minus h k l = tt
of_answers Zero Plus Zero h k l = ⊎_elim (λ e. grind (arith, e)) (λ e. grind (arith, e)) (k plus_nonzero)
of_answers Zero Plus Plus h k l = ⊎_elim (λ e. grind (arith, e)) (λ e. grind (arith, e)) (k plus_nonzero)
of_answers Plus Minus c h k l = tt
of_answers Plus Zero Minus h k l = tt
of_answers Plus Zero Zero h k l = ⊎_elim (λ e. grind (arith, e)) (λ e. grind (arith, e)) (h plus_nonzero)
of_answers Plus Zero Plus h k l = ⊎_elim (λ e. grind (arith, e)) (λ e. grind (arith, e)) (h plus_nonzero)
of_answers Plus Plus Minus h k l = tt
of_answers Plus Plus Zero h k l = ⊎_elim (λ e. grind (arith, e)) (λ e. grind (arith, e)) (h plus_nonzero)
of_answers Plus Plus Plus h k l = ⊎_elim (λ e. grind (arith, e)) (λ e. grind (arith, e)) (h plus_nonzero)

-- signs of the three cases; ab stands for the value at (a, b), and so on
case_one : (ab ad bc cd : Sign) → (opposite bc ≡ ab) × (cd ≡ ad) → product ad bc ≡ opposite (product ab cd)
case_one ab ad bc cd e = let h = e.0 in let k = e.1 in grind (arith, h, k)

case_one' : (ab ad bc cd : Sign) → opposite bc ≡ opposite ab → cd ≡ opposite ad
    → product ad bc ≡ opposite (product ab cd)
case_one' ab ad bc cd h k = grind (arith, h, k)

case_two : (ab ac bd cd : Sign) → opposite ac ≡ opposite ab → cd ≡ bd
    → opposite (product ac bd) ≡ opposite (product ab cd)
case_two ab ac bd cd h k = grind (arith, h, k)

case_two' : (ab ac bd cd : Sign) → opposite ac ≡ opposite (opposite ab) → cd ≡ opposite bd
    → opposite (product ac bd) ≡ opposite (product ab cd)
case_two' ab ac bd cd h k = grind (arith, h, k)

three_one : (ab ac bd cd : Sign) → product (opposite ab) bd ≡ product (opposite ac) cd → IsNonzero ab → IsNonzero cd
    → IsNonzero ac → opposite (product ac bd) ≡ opposite (product ab cd)
three_one ab ac bd cd h n1 n2 n3 = grind arith

three_two : (ab ac ad bc cd oa oc : Sign) → product oa oc ≡ product (opposite ab) bc → oc ≡ opposite ac
    → product oa ad ≡ product (opposite ac) cd → IsNonzero ab → IsNonzero cd → IsNonzero ac → IsNonzero bc
    → product ad bc ≡ opposite (product ab cd)
three_two ab ac ad bc cd oa oc h k l n1 n2 n3 n4 = grind arith

pivot_sign : (fe fh ye yh : Sign) → product fe yh ≡ product fh ye → IsNonzero yh → fe ≡ product (product fh yh) ye
pivot_sign fe fh ye yh e n = grind arith

product_by_minus : (s t : Sign) → s ≡ Minus → opposite t ≡ product s t
product_by_minus s t e = grind (arith, e)

opposites_swapped : (s t : Sign) → opposite s ≡ opposite (opposite t) → opposite t ≡ opposite (opposite s)
opposites_swapped s t e = grind arith

opposite_of_double : (s t : Sign) → s ≡ opposite (opposite t) → opposite t ≡ opposite s
opposite_of_double s t e = grind arith

back_sign : (a b a' b' : Sign) → a' ≡ opposite a → b' ≡ opposite b → b' ≡ opposite a' → b ≡ opposite a
back_sign a b a' b' ea eb q = grind arith

turn_answers : (a b c a' b' c' : Sign) → a' ≡ opposite a → b' ≡ opposite b → c' ≡ opposite c
    → (IsNonzero a' → (b' ≡ opposite a') ⊎ (c' ≡ opposite a')) → Answers a b c
turn_answers a b c a' b' c' ea eb ec h n =
    ⊎_elim
    (λ q. inl (back_sign a b a' b' ea eb q)) (λ q. inr (back_sign a c a' c' ea ec q))
    (h (subst IsNonzero (sym ea) (opposite_nonzero a n)))

module _ (K : SignVector → Type 0)
    (neg_k : (X : SignVector) → K X → K (λ e. opposite (X e)))
    (elim_k : (X Y : SignVector) → K X → K Y → (e : ℕ) → IsNonzero (X e) → X e ≡ opposite (Y e) → (h : ℕ)
    → (X h ≡ opposite (Y h) → ⊥) → (Z : SignVector) × K Z × (Z e ≡ Zero)
    × ((g : ℕ) → IsNonzero (Z g) → (Z g ≡ X g) ⊎ (Z g ≡ Y g)))
    (f : List ℕ → Sign) (alt : IsAlternating f)
    (value_base : (t : List ℕ) → IsNonzero (f t) → IsCocircuitBase K neg_k elim_k t)
    (base_value : (t : List ℕ) → IsCocircuitBase K neg_k elim_k t → IsNonzero (f t))
    (pivot : (a : List ℕ) (Y : SignVector) → K Y → Vanishes Y a → (e h : ℕ)
    → product (f (a ++ e ∷ [])) (Y h) ≡ product (f (a ++ h ∷ [])) (Y e))
  where
    abbrev U : List ℕ → Type 0
    U a = (Y : SignVector) × K Y × Vanishes Y a × ((e : ℕ) → Y e ≡ f (a ++ e ∷ []))

    pub row_is_member : (a : List ℕ) (h : ℕ) → IsNonzero (f (a ++ h ∷ [])) → U a
    row_is_member a h n =
        let b = value_base (a ++ h ∷ []) n in
        let y = extending_member K neg_k elim_k a (h, b) in
        let nh : IsNonzero (y.0 h) = extending_nonzero K neg_k elim_k a h b y.0 y.1 y.2 in
        let s : Sign = product (f (a ++ h ∷ [])) (y.0 h) in
        let v : (e : ℕ) → f (a ++ e ∷ []) ≡ product s (y.0 e) =
        λ e. pivot_sign (f (a ++ e ∷ [])) (f (a ++ h ∷ [])) (y.0 e) (y.0 h) (pivot a y.0 y.1 y.2 e h) nh in
        ⊎_elim
        (λ q. (y.0, y.1, y.2, λ e. sym (product_plus_left s (y.0 e) q) ∙ sym (v e)))
        (λ q. (
          (λ e. opposite (y.0 e)),
          neg_k y.0 y.1,
          (λ g m. opposite_zero (y.0 g) (y.2 g m)),
          λ e. product_by_minus s (y.0 e) q ∙ sym (v e),
        ))
        (plus_or_minus s (product_nonzero (f (a ++ h ∷ [])) (y.0 h) n nh))

    module _ (p : List ℕ) where
      q : ℕ → ℕ → Sign
      q x y = f (p ++ x ∷ y ∷ [])

      q_eq : (x y : ℕ) → q x y ≡ f ((p ++ x ∷ []) ++ y ∷ [])
      unfolding q
      q_eq x y = ap f (sym (append_assoc p (x ∷ []) (y ∷ [])))

      q_anti : (x y : ℕ) → q x y ≡ opposite (q y x)
      unfolding q
      q_anti x y = alt y x p []

      row : (x h : ℕ) → IsNonzero (q x h) → (Y : SignVector) × K Y × Vanishes Y (p ++ x ∷ []) × ((e : ℕ) → Y e ≡ q x e)
      row x h n = let m = row_is_member (p ++ x ∷ []) h (subst IsNonzero (q_eq x h) n) in
          (m.0, m.1, m.2, λ e. m.3 e ∙ sym (q_eq x e))

      extending_at : (x h : ℕ) → IsNonzero (q x h) → ExtendsToBase K neg_k elim_k (p ++ x ∷ [])
      extending_at x h n = (h, value_base ((p ++ x ∷ []) ++ h ∷ []) (subst IsNonzero (q_eq x h) n))

      van_at : (Y : SignVector) (x c : ℕ) → Vanishes Y (p ++ x ∷ []) → Y c ≡ Zero → Vanishes Y (p ++ c ∷ [])
      van_at Y x c v z g m = ⊎_elim (λ k. v g (member_left g p (x ∷ []) k)) (λ e. ap Y e ∙ z) (member_last g c p m)

      star : (a b c d : ℕ) → IsNonzero (product (q a b) (q c d))
          → (opposite (product (q a c) (q b d)) ≡ opposite (product (q a b) (q c d)))
          ⊎ (product (q a d) (q b c) ≡ opposite (product (q a b) (q c d)))
      star a b c d n =
          let nab : IsNonzero (q a b) = left_factor_nonzero (q a b) (q c d) n in
          let ncd : IsNonzero (q c d) = right_factor_nonzero (q a b) (q c d) n in
          let y = row a b nab in
          let w = row b a (nonzero_if_opposite (q b a) (q a b) (q_anti b a) nab) in
          let z = row c d ncd in
          let ok = extending_at c d ncd in
          let za : z.0 a ≡ opposite (q a c) = z.3 a ∙ q_anti c a in
          let zb : z.0 b ≡ opposite (q b c) = z.3 b ∙ q_anti c b in
          let wa : w.0 a ≡ opposite (q a b) = w.3 a ∙ q_anti b a in
          ⊎_elim
          (λ ac0.
          let s = extending_same K neg_k elim_k (p ++ c ∷ []) ok y.0 z.0 y.1 z.1 (van_at y.0 a c y.2 (y.3 c ∙ ac0)) z.2
          in
          inr (⊎_elim
          (λ e. case_one (q a b) (q a d) (q b c) (q c d) (sym zb ∙ sym (e b) ∙ y.3 b, sym (z.3 d) ∙ sym (e d) ∙ y.3 d))
          (λ e. case_one' (q a b) (q a d) (q b c) (q c d)
          (opposite_of_double (q a b) (q b c) (sym (y.3 b) ∙ e b ∙ ap opposite zb))
          (opposite_swap (q a d) (q c d) (sym (y.3 d) ∙ e d ∙ ap opposite (z.3 d))))
          s))
          (λ ac.
          ⊎_elim
          (λ bc0.
          let s = extending_same K neg_k elim_k (p ++ c ∷ []) ok w.0 z.0 w.1 z.1 (van_at w.0 b c w.2 (w.3 c ∙ bc0)) z.2
          in
          inl (⊎_elim
          (λ e. case_two (q a b) (q a c) (q b d) (q c d) (sym za ∙ sym (e a) ∙ wa) (sym (z.3 d) ∙ sym (e d) ∙ w.3 d))
          (λ e. case_two' (q a b) (q a c) (q b d) (q c d)
          (opposites_swapped (q a b) (q a c) (sym wa ∙ e a ∙ ap opposite za))
          (opposite_swap (q b d) (q c d) (sym (w.3 d) ∙ e d ∙ ap opposite (z.3 d))))
          s))
          (λ bc.
          let yc : IsNonzero (y.0 c) = subst IsNonzero (sym (y.3 c)) ac in
          let wc : IsNonzero (w.0 c) = subst IsNonzero (sym (w.3 c)) bc in
          let o = opposed_at K neg_k elim_k w.0 y.0 w.1 c wc yc in
          let ya : y.0 a ≡ Zero = y.2 a (member_middle a p []) in
          let oa : IsNonzero (o.0 a) = same_nonzero o.0 w.0 o.3 a (nonzero_if_opposite (w.0 a) (q a b) wa nab) in
          let x = elim_k o.0 y.0 o.1 y.1 c (same_nonzero o.0 w.0 o.3 c wc) o.2 a
          (λ e. zero_not_nonzero (o.0 a) (e ∙ opposite_zero (y.0 a) ya) oa) in
          let vx : Vanishes x.0 (p ++ c ∷ []) = λ g m. ⊎_elim
          (λ k. zero_of_two (x.0 g) (o.0 g) (y.0 g) (same_zero o.0 w.0 o.3 g (w.2 g (member_left g p (b ∷ []) k)))
          (y.2 g (member_left g p (a ∷ []) k)) (x.3 g))
          (λ e. ap x.0 e ∙ x.2) (member_last g c p m) in
          let s = extending_same K neg_k elim_k (p ++ c ∷ []) ok x.0 z.0 x.1 z.1 vx z.2 in
          let xa : IsNonzero (x.0 a) = same_nonzero x.0 z.0 s a (nonzero_if_opposite (z.0 a) (q a c) za ac) in
          let xd : IsNonzero (x.0 d) = same_nonzero x.0 z.0 s d (subst IsNonzero (sym (z.3 d)) ncd) in
          let ea : x.0 a ≡ o.0 a = left_of_two (x.0 a) (o.0 a) (y.0 a) ya xa (x.3 a) in
          let prod : product (x.0 a) (x.0 d) ≡ product (opposite (q a c)) (q c d) = same_products x.0 z.0 s a d
          ∙ ap (λ k. product k (z.0 d)) za ∙ ap (product (opposite (q a c))) (z.3 d) in
          ⊎_elim
          (λ e.
          let h : product (o.0 a) (o.0 d) ≡ product (opposite (q a b)) (q b d) = same_products o.0 w.0 o.3 a d
          ∙ ap (λ k. product k (w.0 d)) wa ∙ ap (product (opposite (q a b))) (w.3 d) in
          inl (three_one (q a b) (q a c) (q b d) (q c d)
          (sym h ∙ ap (λ k. product k (o.0 d)) (sym ea) ∙ ap (product (x.0 a)) (sym e) ∙ prod) nab ncd ac))
          (λ e.
          let h : product (o.0 a) (o.0 c) ≡ product (opposite (q a b)) (q b c) = same_products o.0 w.0 o.3 a c
          ∙ ap (λ k. product k (w.0 c)) wa ∙ ap (product (opposite (q a b))) (w.3 c) in
          let oc : o.0 c ≡ opposite (q a c) = o.2 ∙ ap opposite (y.3 c) in
          let k : product (o.0 a) (q a d) ≡ product (opposite (q a c)) (q c d) = ap (λ i. product i (q a d)) (sym ea)
          ∙ ap (product (x.0 a)) (sym (e ∙ y.3 d)) ∙ prod in
          inr (three_two (q a b) (q a c) (q a d) (q b c) (q c d) (o.0 a) (o.0 c) h oc k nab ncd ac bc))
          (x.3 d xd))
          (zero_or_nonzero (q b c)))
          (zero_or_nonzero (q a c))

      relation : (a b c d : ℕ)
          → AreBalanced (product (q a b) (q c d)) (opposite (product (q a c) (q b d))) (product (q a d) (q b c))
      relation a b c d =
          let t1 = product (q a b) (q c d) in
          let t2 = opposite (product (q a c) (q b d)) in
          let t3 = product (q a d) (q b c) in
          of_answers t1 t2 t3 (star a b c d)
          (turn_answers t2 t1 t3 (product (q a c) (q b d)) (opposite (product (q a b) (q c d)))
          (product (q a d) (q c b))
          (sym (opposite-opposite (product (q a c) (q b d)))) refl
          (ap (product (q a d)) (q_anti c b) ∙ product-opposite_right (q a d) (q b c)) (star a c b d))
          (turn_answers t3 t1 t2 (product (q a d) (q c b)) (product (q a b) (q d c))
          (opposite (product (q a c) (q d b)))
          (ap (product (q a d)) (q_anti c b) ∙ product-opposite_right (q a d) (q b c))
          (ap (product (q a b)) (q_anti d c) ∙ product-opposite_right (q a b) (q c d))
          (ap opposite (ap (product (q a c)) (q_anti d b) ∙ product-opposite_right (q a c) (q b d)))
          (λ m. ⊎_elim (λ k. inr k) (λ k. inl k) (star a d c b m)))

    pub made_three_terms : HasThreeTermRelations f
    unfolding q
    made_three_terms p a b c d = relation p a b c d

    pub made_exchange : HasExchange f
    made_exchange u e v c nb nc out =
        let b = value_base (u ++ e ∷ v) nb in
        let bc = value_base c nc in
        let y = b.2 e (member_middle e u v) in
        let drop = distinct_drop u e v b.0 in
        let vy : Vanishes y.0 (u ++ v) =
        λ g m. y.2 g (member_insert g u e v m) (λ k. drop.1 (subst (λ z. IsMember z (u ++ v)) k m)) in
        let h = bc.1 y.0 y.1 in (
          h.0,
          h.1,
          (λ m. ⊎_elim (λ k. out (subst (λ z. IsMember z c) k h.1)) (λ k. zero_not_nonzero (y.0 h.0) (vy h.0 k) h.2)
              (member_drop h.0 u e v m)),
          base_value (u ++ h.0 ∷ v) (base_exchange K neg_k elim_k u v e h.0 b y.0 y.1 vy h.2),
        )

    pub made_relations : HasRelations f
    made_relations = three_term_relations f alt made_exchange made_three_terms
