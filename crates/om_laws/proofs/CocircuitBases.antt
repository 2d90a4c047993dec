-- Bases of a set of cocircuits.
--
-- Main definitions: HitsAll, IsSharp, IsCocircuitBase; ExtendsToBase.
-- Main results: a member that vanishes on a base less one element is unique up to sign (vanishing_unique); elements of
-- a base can be exchanged (base_exchange); in rank 2 three members satisfy a relation of signs (triangle).
-- Reference: Björner, Las Vergnas, Sturmfels, White and Ziegler, Oriented Matroids, section 3.5.
use Rattle.std.specs.Prelude.{◌≡◌, ◌≢◌, ◌⊎◌, ℕ, List, [], ◌∷◌, ◌++◌, refl}
use Rattle.std.proofs.Common.{sym, ap, ◌∙◌, subst, ⊎_elim, inl, inr, arith, append-nil}
use Rattle.std.proofs.lemmas.Bool.{cases_eq}
use Rattle.om_signs.specs.declared.sign.Sign.{Sign}
use Rattle.om_signs.specs.declared.sign.Sign.TheVariants.{Minus, Zero}
use Rattle.om_signs.specs.Sign.{opposite, product}
use Rattle.om_signs.proofs.SignLaws.{equal_or_opposite, opposite-opposite, opposite_zero, same_or_different}
use Rattle.om_signs.proofs.SignLaws.{zero_not_nonzero, zero_or_nonzero}
use Rattle.om_laws.specs.Signs.{IsNonzero}
use Rattle.om_laws.proofs.ExistenceHelpers.{left_of_two, right_of_two, zero_of_two}
use Rattle.om_laws.specs.Members.{IsDistinct, IsMember}
use Rattle.om_laws.proofs.MemberLaws.{distinct_drop, member_append, member_drop, member_insert, member_left}
use Rattle.om_laws.proofs.MemberLaws.{member_middle, search_members}
use Rattle.om_laws.proofs.ExistenceHelpers.{distinct_insert}
use Rattle.om_laws.specs.Vectors.{AreEqualUpToSign, SignVector}
use Rattle.om_laws.proofs.ExistenceHelpers.{Vanishes, same_nonzero}
use Rattle.om_laws.proofs.VectorLaws.{same_products, same_zero}

module _ (K : SignVector → Type 0)
    (neg_k : (X : SignVector) → K X → K (λ e. opposite (X e)))
    (elim_k : (X Y : SignVector) → K X → K Y → (e : ℕ) → IsNonzero (X e) → X e ≡ opposite (Y e) → (h : ℕ)
    → (X h ≡ opposite (Y h) → ⊥) → (Z : SignVector) × K Z × (Z e ≡ Zero)
    × ((g : ℕ) → IsNonzero (Z g) → (Z g ≡ X g) ⊎ (Z g ≡ Y g)))
  where
    abbrev pub HitsAll : List ℕ → Type 0
    HitsAll t = (X : SignVector) → K X → (e : ℕ) × IsMember e t × IsNonzero (X e)

    abbrev pub IsSharp : List ℕ → Type 0
    IsSharp t = (i : ℕ) → IsMember i t → (Y : SignVector) × K Y × ((g : ℕ) → IsMember g t → g ≢ i → Y g ≡ Zero)

    abbrev pub IsCocircuitBase : List ℕ → Type 0
    IsCocircuitBase t = IsDistinct t × HitsAll t × IsSharp t

    -- a member that vanishes on the rest isn't 0 at the place itself
    at_place : (u v : List ℕ) (e : ℕ) → HitsAll (u ++ e ∷ v) → (Y : SignVector) → K Y → Vanishes Y (u ++ v)
        → IsNonzero (Y e)
    at_place u v e hit Y k van =
        let h = hit Y k in
        ⊎_elim (λ q. subst (λ z. IsNonzero (Y z)) q h.2) (λ m. absurd (zero_not_nonzero (Y h.0) (van h.0 m) h.2))
        (member_drop h.0 u e v h.1)

    vanishing_opposite : (u v : List ℕ) (e : ℕ) → HitsAll (u ++ e ∷ v) → (X Y : SignVector) → K X → K Y
        → Vanishes X (u ++ v) → Vanishes Y (u ++ v) → IsNonzero (X e) → X e ≡ opposite (Y e) → (g : ℕ)
        → X g ≡ opposite (Y g)
    vanishing_opposite u v e hit X Y kx ky vx vy n op g =
        ⊎_elim (λ q. q)
        (λ d.
        let z = elim_k X Y kx ky e n op g d in
        let h = hit z.0 z.1 in
        absurd (⊎_elim
        (λ q. zero_not_nonzero (z.0 e) z.2 (subst (λ i. IsNonzero (z.0 i)) q h.2))
        (λ m. zero_not_nonzero (z.0 h.0) (zero_of_two (z.0 h.0) (X h.0) (Y h.0) (vx h.0 m) (vy h.0 m) (z.3 h.0)) h.2)
        (member_drop h.0 u e v h.1)))
        (same_or_different (X g) (opposite (Y g)))

    -- two members that vanish on a base less one element are equal up to sign
    pub vanishing_unique : (u v : List ℕ) (e : ℕ) → HitsAll (u ++ e ∷ v) → (X Y : SignVector) → K X → K Y
        → Vanishes X (u ++ v) → Vanishes Y (u ++ v) → AreEqualUpToSign X Y
    vanishing_unique u v e hit X Y kx ky vx vy =
        let nx = at_place u v e hit X kx vx in
        let ny = at_place u v e hit Y ky vy in
        ⊎_elim
        (λ q. inl
        (λ g. vanishing_opposite u v e hit X (λ i. opposite (Y i)) kx (neg_k Y ky) vx
        (λ i m. opposite_zero (Y i) (vy i m)) nx (q ∙ sym (opposite-opposite (Y e))) g ∙ opposite-opposite (Y g)))
        (λ q. inr (λ g. vanishing_opposite u v e hit X Y kx ky vx vy nx q g))
        (equal_or_opposite (X e) (Y e) nx ny)

    -- opposite at one place, by a choice of sign
    pub opposed_at : (X Y : SignVector) → K X → (h : ℕ) → IsNonzero (X h) → IsNonzero (Y h) → (W : SignVector) × K W
        × (W h ≡ opposite (Y h)) × AreEqualUpToSign W X
    opposed_at X Y kx h nx ny =
        ⊎_elim
        (λ q. ((λ i. opposite (X i)), neg_k X kx, ap opposite q, inr (λ i. refl)))
        (λ q. (X, kx, q, inl (λ i. refl)))
        (equal_or_opposite (X h) (Y h) nx ny)

    -- an element of a base exchanged
    pub base_exchange : (u v : List ℕ) (e h : ℕ) → IsCocircuitBase (u ++ e ∷ v) → (Y : SignVector) → K Y
        → Vanishes Y (u ++ v) → IsNonzero (Y h) → IsCocircuitBase (u ++ h ∷ v)
    base_exchange u v e h b Y ky vy nh =
        let drop = distinct_drop u e v b.0 in
        let h_out : IsMember h (u ++ v) → ⊥ = λ m. zero_not_nonzero (Y h) (vy h m) nh in
        let hits : HitsAll (u ++ h ∷ v) = λ Z kz.
        ⊎_elim
        (λ k. (k.0, k.1, k.2))
        (λ none.
        let vz : Vanishes Z (u ++ v) = λ g m. none g (member_insert g u h v m) in
        let s = vanishing_unique u v e b.1 Z Y kz ky vz vy in
        absurd (zero_not_nonzero (Z h) (none h (member_middle h u v)) (same_nonzero Z Y s h nh)))
        (search_members (λ g. IsNonzero (Z g)) (λ g. Z g ≡ Zero)
        (λ g. ⊎_elim (λ q. inr q) (λ q. inl q) (zero_or_nonzero (Z g))) (u ++ h ∷ v)) in (
          distinct_insert u h v drop.0 h_out,
          hits,
          λ i mi.
              ⊎_elim
              (λ q. (Y, ky, λ g m n. ⊎_elim (λ k. absurd (n (k ∙ sym q))) (λ k. vy g k) (member_drop g u h v m)))
              (λ mi2.
              let ni : i ≢ h = λ q. h_out (subst (λ z. IsMember z (u ++ v)) q mi2) in
              let nie : i ≢ e = λ q. drop.1 (subst (λ z. IsMember z (u ++ v)) q mi2) in
              let w = b.2 i (member_insert i u e v mi2) in
              let we : w.0 e ≡ Zero = w.2 e (member_middle e u v) (λ q. nie (sym q)) in
              let wi : IsNonzero (w.0 i) =
              let k = b.1 w.0 w.1 in
              ⊎_elim (λ q. subst (λ z. IsNonzero (w.0 z)) q k.2)
              (λ n. absurd (zero_not_nonzero (w.0 k.0) (w.2 k.0 k.1 n) k.2)) (cases_eq k.0 i) in
              ⊎_elim
              (λ z. (
                w.0,
                w.1,
                λ g m n. ⊎_elim (λ q. ap w.0 q ∙ z) (λ k. w.2 g (member_insert g u e v k) n) (member_drop g u h v m),
              ))
              (λ nz.
              let o = opposed_at w.0 Y w.1 h nz nh in
              let oi : IsNonzero (o.0 i) = same_nonzero o.0 w.0 o.3 i wi in
              let z = elim_k o.0 Y o.1 ky h (same_nonzero o.0 w.0 o.3 h nz) o.2 i
              (λ q. zero_not_nonzero (o.0 i) (q ∙ opposite_zero (Y i) (vy i mi2)) oi) in (
                z.0,
                z.1,
                λ g m n. ⊎_elim
                    (λ q. ap z.0 q ∙ z.2)
                    (λ k. zero_of_two (z.0 g) (o.0 g) (Y g)
                    (same_zero o.0 w.0 o.3 g (w.2 g (member_insert g u e v k) n)) (vy g k) (z.3 g))
                    (member_drop g u h v m),
              ))
              (zero_or_nonzero (w.0 h)))
              (member_drop i u h v mi),
        )

    -- a tuple that becomes a base with one more entry
    abbrev pub ExtendsToBase : List ℕ → Type 0
    ExtendsToBase a = (e : ℕ) × IsCocircuitBase (a ++ e ∷ [])

    vanishes_with_none : (Y : SignVector) (a : List ℕ) → Vanishes Y a → Vanishes Y (a ++ [])
    vanishes_with_none Y a v = subst (Vanishes Y) (sym (append-nil a)) v

    -- a list that becomes a base with one more element: a member vanishes on it, one up to sign
    pub extending_member : (a : List ℕ) → ExtendsToBase a → (Y : SignVector) × K Y × Vanishes Y a
    extending_member a g =
        let s = g.1.2 g.0 (member_middle g.0 a []) in
        let d = distinct_drop a g.0 [] g.1.0 in (
          s.0,
          s.1,
          λ i m. s.2 i (member_left i a (g.0 ∷ []) m)
              (λ q. d.1 (member_left g.0 a [] (subst (λ z. IsMember z a) q m))),
        )

    pub extending_same : (a : List ℕ) → ExtendsToBase a → (X Y : SignVector) → K X → K Y → Vanishes X a → Vanishes Y a
        → AreEqualUpToSign X Y
    extending_same a g X Y kx ky vx vy =
        vanishing_unique a [] g.0 g.1.1 X Y kx ky (vanishes_with_none X a vx) (vanishes_with_none Y a vy)

    pub extending_base : (a : List ℕ) → ExtendsToBase a → (Y : SignVector) → K Y → Vanishes Y a → (h : ℕ)
        → IsNonzero (Y h) → IsCocircuitBase (a ++ h ∷ [])
    extending_base a g Y ky vy h n = base_exchange a [] g.0 h g.1 Y ky (vanishes_with_none Y a vy) n

    pub extending_nonzero : (a : List ℕ) (h : ℕ) → IsCocircuitBase (a ++ h ∷ []) → (Y : SignVector) → K Y → Vanishes Y a
        → IsNonzero (Y h)
    extending_nonzero a h b Y ky vy = at_place a [] h b.1 Y ky (vanishes_with_none Y a vy)

    -- bases depend on their members alone
    pub base_from_members : (s t : List ℕ) → ((g : ℕ) → IsMember g s → IsMember g t)
        → ((g : ℕ) → IsMember g t → IsMember g s) → IsDistinct t → IsCocircuitBase s → IsCocircuitBase t
    base_from_members s t to from r b = (
      r,
      λ X k. (let h = b.1 X k in (h.0, to h.0 h.1, h.2)),
      λ i m. (let y = b.2 i (from i m) in (y.0, y.1, λ g n d. y.2 g (from g n) d)),
    )

    -- three members that vanish on p and on one of a, b, c each: the product of six signs is minus
    triangle_core : (yb yc oa oc xa xb : Sign) → oc ≡ opposite yc → xa ≡ oa → xb ≡ yb → IsNonzero yb → IsNonzero yc
        → IsNonzero oa → product (product (product yb yc) (product oa oc)) (product xa xb) ≡ Minus
    triangle_core yb yc oa oc xa xb e1 e2 e3 n1 n2 n3 = grind arith

    triangle_end : (yb yc wa wc za zb xa xb oa oc : Sign) → oc ≡ opposite yc → xa ≡ oa → xb ≡ yb
        → product oa oc ≡ product wa wc → product xa xb ≡ product za zb → IsNonzero yb → IsNonzero yc → IsNonzero oa
        → product (product (product yb yc) (product wa wc)) (product za zb) ≡ Minus
    triangle_end yb yc wa wc za zb xa xb oa oc e1 e2 e3 e4 e5 n1 n2 n3 =
        ap (λ q. product (product (product yb yc) q) (product za zb)) (sym e4)
        ∙ ap (product (product (product yb yc) (product oa oc))) (sym e5)
        ∙ triangle_core yb yc oa oc xa xb e1 e2 e3 n1 n2 n3

    pub triangle : (p : List ℕ) (a b c : ℕ) (Y W Z : SignVector) → K Y → K W → K Z → Vanishes Y (p ++ a ∷ [])
        → Vanishes W (p ++ b ∷ []) → Vanishes Z (p ++ c ∷ []) → ExtendsToBase (p ++ c ∷ [])
        → IsNonzero (Y b) → IsNonzero (Y c) → IsNonzero (W a) → IsNonzero (W c) → IsNonzero (Z a) → IsNonzero (Z b)
        → product (product (product (Y b) (Y c)) (product (W a) (W c))) (product (Z a) (Z b)) ≡ Minus
    triangle p a b c Y W Z ky kw kz vy vw vz good yb yc wa wc za zb =
        let o = opposed_at W Y kw c wc yc in
        let ya : Y a ≡ Zero = vy a (member_middle a p []) in
        let oa : IsNonzero (o.0 a) = same_nonzero o.0 W o.3 a wa in
        let ob : o.0 b ≡ Zero = same_zero o.0 W o.3 b (vw b (member_middle b p [])) in
        let x = elim_k o.0 Y o.1 ky c (same_nonzero o.0 W o.3 c wc) o.2 a
        (λ q. zero_not_nonzero (o.0 a) (q ∙ opposite_zero (Y a) ya) oa) in
        let vx : Vanishes x.0 (p ++ c ∷ []) = λ g m. ⊎_elim
        (λ k. zero_of_two (x.0 g) (o.0 g) (Y g) (same_zero o.0 W o.3 g (vw g (member_left g p (b ∷ []) k)))
        (vy g (member_left g p (a ∷ []) k)) (x.3 g))
        (λ k. ⊎_elim (λ q. ap x.0 q ∙ x.2) (λ f. absurd f) k)
        (member_append g p (c ∷ []) m) in
        let s = extending_same (p ++ c ∷ []) good x.0 Z x.1 kz vx vz in
        let xa : x.0 a ≡ o.0 a = left_of_two (x.0 a) (o.0 a) (Y a) ya (same_nonzero x.0 Z s a za) (x.3 a) in
        let xb : x.0 b ≡ Y b = right_of_two (x.0 b) (o.0 b) (Y b) ob (same_nonzero x.0 Z s b zb) (x.3 b) in
        let oc : o.0 c ≡ opposite (Y c) = o.2 in
        let op : product (o.0 a) (o.0 c) ≡ product (W a) (W c) = same_products o.0 W o.3 a c in
        let sz : product (x.0 a) (x.0 b) ≡ product (Z a) (Z b) = same_products x.0 Z s a b in
        triangle_end (Y b) (Y c) (W a) (W c) (Z a) (Z b) (x.0 a) (x.0 b) (o.0 a) (o.0 c) oc xa xb op sz yb yc oa
