-- A finite family of sign vectors that is closed under negation and has the elimination of covectors.
--
-- Main results: at each element of its support a member has the sign of a member of minimal support that conforms to it
-- (decompose); members of minimal support are equal up to sign where one support lies in the other
-- (least_incomparable), and have elimination (least_elimination).
-- Reference: Björner, Las Vergnas, Sturmfels, White and Ziegler, Oriented Matroids, chapters 3 and 4.
use Rattle.std.specs.Prelude.{◌≡◌, ◌⊎◌, ℕ, ◌≤◌, List, [], ◌∷◌, refl}
use Rattle.std.proofs.Common.{zero, suc, sym, ap, ◌∙◌, subst, ⊎_elim, inl, inr, arith}
use Rattle.om_signs.specs.declared.sign.Sign.{Sign}
use Rattle.om_signs.specs.declared.sign.Sign.TheVariants.{Zero}
use Rattle.om_signs.specs.Sign.{opposite, first_nonzero}
use Rattle.om_signs.proofs.SignLaws.{equal_not_opposite, equal_or_opposite, first_nonzero_either, first_nonzero_left}
use Rattle.om_signs.proofs.SignLaws.{first_nonzero_right, nonzero_either, opposite-opposite, opposite_back}
use Rattle.om_signs.proofs.SignLaws.{opposite_nonzero, opposite_swap, opposite_zero, same_or_different}
use Rattle.om_signs.proofs.SignLaws.{zero_not_nonzero, zero_or_nonzero}
use Rattle.om_laws.specs.Signs.{IsNonzero}
use Rattle.om_laws.specs.Members.{IsMember}
use Rattle.om_laws.specs.Vectors.{AreEqualUpToSign, HasSupportIn, IsConformal, SignVector}
use Rattle.om_laws.specs.Covectors.{HasLeastSupport}
use Rattle.om_laws.specs.Families.{IsListed}
use Rattle.om_laws.proofs.MemberLaws.{search_members}
use Rattle.om_laws.proofs.Counts.{count, count_less}

-- a family has each vector that has the signs of a listed one
pub listed_same : (X Y : SignVector) (l : List SignVector) → ((e : ℕ) → X e ≡ Y e) → IsListed l Y → IsListed l X
listed_same X Y [] q m = m
listed_same X Y (Z ∷ l) q (inl r) = inl (λ e. q e ∙ r e)
listed_same X Y (Z ∷ l) q (inr m) = inr (listed_same X Y l q m)

pub search_vectors : (P N : SignVector → Type 0) → ((X : SignVector) → P X ⊎ N X)
    → ((X Y : SignVector) → ((e : ℕ) → X e ≡ Y e) → N Y → N X) → (l : List SignVector)
    → ((X : SignVector) × IsListed l X × P X) ⊎ ((X : SignVector) → IsListed l X → N X)
search_vectors P N dec same [] = inr (λ X m. absurd m)
search_vectors P N dec same (Y ∷ l) =
    ⊎_elim
    (λ p. inl (Y, inl (λ e. refl), p))
    (λ n. ⊎_elim
    (λ k. inl (k.0, inr k.1, k.2))
    (λ k. inr (λ X m. ⊎_elim (λ q. same X Y q n) (λ j. k X j) m))
    (search_vectors P N dec same l))
    (dec Y)

module _ (Ls : List SignVector) (E : List ℕ)
    (supported : (X : SignVector) → IsListed Ls X → (e : ℕ) → IsNonzero (X e) → IsMember e E)
    (l1 : (X : SignVector) → IsListed Ls X → IsListed Ls (λ e. opposite (X e)))
    (l3 : (X Y : SignVector) → IsListed Ls X → IsListed Ls Y → (e : ℕ) → IsNonzero (X e) → Y e ≡ opposite (X e)
    → (Z : SignVector) × IsListed Ls Z × (Z e ≡ Zero)
    × ((g : ℕ) → (IsNonzero (X g) → Y g ≡ opposite (X g) → ⊥) → Z g ≡ first_nonzero (X g) (Y g)))
  where
    abbrev pub L : SignVector → Type 0
    L X = IsListed Ls X

    abbrev AreSeparated : SignVector → SignVector → ℕ → Type 0
    AreSeparated Y W g = IsNonzero (Y g) × (W g ≡ opposite (Y g))

    abbrev AreNotSeparated : SignVector → SignVector → ℕ → Type 0
    AreNotSeparated Y W g = IsNonzero (Y g) → W g ≡ opposite (Y g) → ⊥

    separated_or_not : (Y W : SignVector) (g : ℕ) → AreSeparated Y W g ⊎ AreNotSeparated Y W g
    separated_or_not Y W g =
        ⊎_elim (λ z. inr (λ n q. zero_not_nonzero (Y g) z n))
        (λ n. ⊎_elim (λ q. inl (n, q)) (λ d. inr (λ m q. d q)) (same_or_different (W g) (opposite (Y g))))
        (zero_or_nonzero (Y g))

    separation_size : SignVector → SignVector → ℕ
    separation_size Y W = count (AreSeparated Y W) (AreNotSeparated Y W) (separated_or_not Y W) E

    -- the result of elimination between Y and a W within it
    within_step : (Y W Z : SignVector) → HasSupportIn W Y
        → ((g : ℕ) → AreNotSeparated Y W g → Z g ≡ first_nonzero (Y g) (W g)) → (g : ℕ) → AreNotSeparated Y W g
        → Z g ≡ Y g
    within_step Y W Z sub z g ns =
        ⊎_elim
        (λ q. z g ns ∙ first_nonzero_right (Y g) (W g) q
        ∙ ⊎_elim (λ w. w ∙ sym q) (λ n. absurd (zero_not_nonzero (Y g) q (sub g n))) (zero_or_nonzero (W g)))
        (λ n. z g ns ∙ first_nonzero_left (Y g) (W g) n)
        (zero_or_nonzero (Y g))

    within_of : (Y W Z : SignVector) → ((g : ℕ) → AreNotSeparated Y W g → Z g ≡ Y g) → HasSupportIn Z Y
    within_of Y W Z z g n = ⊎_elim (λ s. s.0) (λ ns. subst IsNonzero (z g ns) n) (separated_or_not Y W g)

    abbrev Smaller : SignVector → ℕ → Type 0
    Smaller Y e = (W : SignVector) × L W × IsConformal W Y × (W e ≡ Y e) × ((h : ℕ) × IsNonzero (Y h) × (W h ≡ Zero))

    -- from a vector of the list within Y, and equal to it at e, to a smaller one that conforms to Y
    pull_go : (Y W : SignVector) → L Y → L W → (e h : ℕ) → IsNonzero (Y e) → HasSupportIn W Y → W e ≡ Y e
        → IsNonzero (Y h) → W h ≡ Zero
        → ((Z : SignVector) → L Z → (g : ℕ) → HasSupportIn Z Y → Z e ≡ Y e → IsNonzero (Y g) → Z g ≡ Zero
        → suc (separation_size Y Z) ≤ separation_size Y W → Smaller Y e) → Smaller Y e
    unfolding separation_size
    pull_go Y W ly lw e h ne sub we nh wh rec =
        ⊎_elim
        (λ k.
        let g = k.0 in
        let z = l3 Y W ly lw g k.2.0 k.2.1 in
        let zy = within_step Y W z.0 sub z.3 in
        let ze : z.0 e ≡ Y e = zy e (λ n q. equal_not_opposite (W e) (Y e) we q ne) in
        rec z.0 z.1 g (within_of Y W z.0 zy) ze k.2.0 z.2
        (count_less (AreSeparated Y W) (AreNotSeparated Y W) (separated_or_not Y W) (λ x p n. n p.0 p.1)
        (AreSeparated Y z.0) (AreNotSeparated Y z.0) (separated_or_not Y z.0) (λ x p n. n p.0 p.1)
        (λ x p. ⊎_elim (λ s. s) (λ ns. absurd (equal_not_opposite (z.0 x) (Y x) (zy x ns) p.1 p.0))
        (separated_or_not Y W x))
        E g k.1 k.2 (λ n q. zero_not_nonzero (z.0 g) z.2 (subst IsNonzero (sym q) (opposite_nonzero (Y g) n)))))
        (λ none. (
          W,
          lw,
          (λ g n. ⊎_elim (λ q. q) (λ q. absurd (none g (supported W lw g n) (sub g n) q))
              (equal_or_opposite (W g) (Y g) n (sub g n))),
          we,
          (h, nh, wh),
        ))
        (search_members (AreSeparated Y W) (AreNotSeparated Y W) (separated_or_not Y W) E)

    pulled : (n : ℕ) (Y W : SignVector) → L Y → L W → (e h : ℕ) → IsNonzero (Y e) → HasSupportIn W Y → W e ≡ Y e
        → IsNonzero (Y h) → W h ≡ Zero → separation_size Y W ≤ n → Smaller Y e
    pulled zero Y W ly lw e h ne sub we nh wh c =
        pull_go Y W ly lw e h ne sub we nh wh
        (λ Z lz g s ze ng zg q. absurd (let r : suc (separation_size Y Z) ≤ separation_size Y W = q in
        omega (arith, r, c)))
    pulled (suc n) Y W ly lw e h ne sub we nh wh c =
        pull_go Y W ly lw e h ne sub we nh wh
        (λ Z lz g s ze ng zg q. pulled n Y Z ly lz e g ne s ze ng zg (omega (arith, q, c)))

    -- with a given sign at one place
    signed : (Z : SignVector) → L Z → (e : ℕ) (s : Sign) → IsNonzero (Z e) → IsNonzero s → (W : SignVector) × L W
        × (W e ≡ s) × ((g : ℕ) → IsNonzero (W g) → IsNonzero (Z g)) × ((g : ℕ) → Z g ≡ Zero → W g ≡ Zero)
    signed Z lz e s n m =
        ⊎_elim
        (λ q. (Z, lz, q, (λ g k. k), λ g k. k))
        (λ q. (
          (λ g. opposite (Z g)),
          l1 Z lz,
          ap opposite q ∙ opposite-opposite s,
          (λ g k. subst IsNonzero (opposite-opposite (Z g)) (opposite_nonzero (opposite (Z g)) k)),
          λ g k. opposite_zero (Z g) k,
        ))
        (equal_or_opposite (Z e) s n m)

    -- a nonzero Z properly within Y gives a smaller one through e
    shrink : (Y Z : SignVector) → L Y → L Z → (e d h : ℕ) → IsNonzero (Y e) → IsNonzero (Z d) → HasSupportIn Z Y
        → IsNonzero (Y h) → Z h ≡ Zero → Smaller Y e
    shrink Y Z ly lz e d h ne nd sub nh zh =
        ⊎_elim
        (λ ze.
        let w = signed Z lz d (opposite (Y d)) nd (opposite_nonzero (Y d) (sub d nd)) in
        let subw : HasSupportIn w.0 Y = λ g n. sub g (w.3 g n) in
        let z = l3 Y w.0 ly w.1 d (sub d nd) w.2 in
        let zy = within_step Y w.0 z.0 subw z.3 in
        pulled (separation_size Y z.0) Y z.0 ly z.1 e d ne (within_of Y w.0 z.0 zy)
        (zy e (λ n q. zero_not_nonzero (w.0 e) (w.4 e ze) (subst IsNonzero (sym q) (opposite_nonzero (Y e) n))))
        (sub d nd) z.2 (omega arith))
        (λ nze.
        let w = signed Z lz e (Y e) nze ne in
        pulled (separation_size Y w.0) Y w.0 ly w.1 e h ne (λ g n. sub g (w.3 g n)) w.2 nh (w.4 h zh) (omega arith))
        (zero_or_nonzero (Z e))

    -- of minimal support
    size_of_support : SignVector → ℕ
    size_of_support X =
        count (λ g. IsNonzero (X g)) (λ g. X g ≡ Zero) (λ g. ⊎_elim (λ q. inr q) (λ q. inl q) (zero_or_nonzero (X g))) E

    -- as found by searches over E
    abbrev pub Found : SignVector → SignVector → Type 0
    Found Y Z = (d : ℕ) × (h : ℕ) × IsNonzero (Z d) × ((g : ℕ) → IsMember g E → (Z g ≡ Zero) ⊎ IsNonzero (Y g))
        × IsNonzero (Y h) × (Z h ≡ Zero)

    abbrev pub NotFound : SignVector → SignVector → Type 0
    NotFound Y Z = ((g : ℕ) → IsMember g E → Z g ≡ Zero)
        ⊎ (((g : ℕ) × IsNonzero (Z g) × (Y g ≡ Zero)) ⊎ ((g : ℕ) → IsMember g E → (Y g ≡ Zero) ⊎ IsNonzero (Z g)))

    pub found_or_not : (Y Z : SignVector) → Found Y Z ⊎ NotFound Y Z
    found_or_not Y Z =
        ⊎_elim
        (λ d. ⊎_elim
        (λ k. inr (inr (inl (k.0, k.2.0, k.2.1))))
        (λ inside. ⊎_elim
        (λ h. inl (d.0, h.0, d.2, inside, h.2.0, h.2.1))
        (λ all. inr (inr (inr all)))
        (search_members (λ g. IsNonzero (Y g) × (Z g ≡ Zero)) (λ g. (Y g ≡ Zero) ⊎ IsNonzero (Z g))
        (λ g. ⊎_elim (λ q. inr (inl q)) (λ n. ⊎_elim (λ z. inl (n, z)) (λ m. inr (inr m)) (zero_or_nonzero (Z g)))
        (zero_or_nonzero (Y g))) E))
        (search_members (λ g. IsNonzero (Z g) × (Y g ≡ Zero)) (λ g. (Z g ≡ Zero) ⊎ IsNonzero (Y g))
        (λ g. ⊎_elim (λ q. inr (inl q)) (λ n. ⊎_elim (λ z. inl (n, z)) (λ m. inr (inr m)) (zero_or_nonzero (Y g)))
        (zero_or_nonzero (Z g))) E))
        (λ none. inr (inl none))
        (search_members (λ g. IsNonzero (Z g)) (λ g. Z g ≡ Zero)
        (λ g. ⊎_elim (λ q. inr q) (λ q. inl q) (zero_or_nonzero (Z g))) E)

    pub not_found_same : (Y X Z : SignVector) → ((e : ℕ) → X e ≡ Z e) → NotFound Y Z → NotFound Y X
    not_found_same Y X Z q (inl a) = inl (λ g m. q g ∙ a g m)
    not_found_same Y X Z q (inr (inl k)) = inr (inl (k.0, subst IsNonzero (sym (q k.0)) k.1, k.2))
    not_found_same Y X Z q (inr (inr a)) =
        inr (inr (λ g m. ⊎_elim (λ z. inl z) (λ n. inr (subst IsNonzero (sym (q g)) n)) (a g m)))

    minimal_go : (Y : SignVector) → L Y → (Z : SignVector) → L Z → (d : ℕ) → IsNonzero (Z d) → HasSupportIn Z Y
        → (g : ℕ) → IsNonzero (Y g) → NotFound Y Z → IsNonzero (Z g)
    minimal_go Y ly Z lz d nd sub g n (inl a) = absurd (zero_not_nonzero (Z d) (a d (supported Z lz d nd)) nd)
    minimal_go Y ly Z lz d nd sub g n (inr (inl k)) = absurd (zero_not_nonzero (Y k.0) k.2 (sub k.0 k.1))
    minimal_go Y ly Z lz d nd sub g n (inr (inr a)) =
        ⊎_elim (λ z. absurd (zero_not_nonzero (Y g) z n)) (λ q. q) (a g (supported Y ly g n))

    pub minimal_of : (Y : SignVector) → L Y → ((Z : SignVector) → L Z → NotFound Y Z) → HasLeastSupport L Y
    minimal_of Y ly all Z lz nz sub g n = minimal_go Y ly Z lz nz.0 nz.1 sub g n (all Z lz)

    abbrev pub Part : SignVector → ℕ → Type 0
    Part X e = (Y : SignVector) × L Y × IsConformal Y X × (Y e ≡ X e) × HasLeastSupport L Y

    -- from one candidate to a smaller one
    conform_go : (X Y : SignVector) → L Y → (e : ℕ) → IsNonzero (Y e) → IsConformal Y X → Y e ≡ X e
        → ((W : SignVector) → L W → IsNonzero (W e) → IsConformal W X → W e ≡ X e
        → suc (size_of_support W) ≤ size_of_support Y → Part X e) → Part X e
    unfolding size_of_support
    conform_go X Y ly e ne cy ye rec =
        ⊎_elim
        (λ k.
        let f = k.2 in
        let sub : HasSupportIn k.0 Y =
        λ g n. ⊎_elim (λ z. absurd (zero_not_nonzero (k.0 g) z n)) (λ q. q) (f.3 g (supported k.0 k.1 g n)) in
        let w = shrink Y k.0 ly k.1 e f.0 f.1 ne f.2 sub f.4 f.5 in
        let w_in : HasSupportIn w.0 Y = λ g n. subst IsNonzero (w.2 g n) n in
        let dz : (V : SignVector) (g : ℕ) → IsNonzero (V g) ⊎ (V g ≡ Zero) =
        λ V g. ⊎_elim (λ q. inr q) (λ q. inl q) (zero_or_nonzero (V g)) in
        rec w.0 w.1 (subst IsNonzero (sym w.3) ne) (λ g n. w.2 g n ∙ cy g (w_in g n)) (w.3 ∙ ye)
        (count_less (λ g. IsNonzero (Y g)) (λ g. Y g ≡ Zero) (dz Y) (λ x p n. zero_not_nonzero (Y x) n p)
        (λ g. IsNonzero (w.0 g)) (λ g. w.0 g ≡ Zero) (dz w.0) (λ x p n. zero_not_nonzero (w.0 x) n p)
        (λ x p. w_in x p) E w.4.0 (supported Y ly w.4.0 w.4.1) w.4.1 w.4.2))
        (λ none. (Y, ly, cy, ye, minimal_of Y ly none))
        (search_vectors (Found Y) (NotFound Y) (found_or_not Y) (not_found_same Y) Ls)

    conform : (n : ℕ) (X Y : SignVector) → L Y → (e : ℕ) → IsNonzero (Y e) → IsConformal Y X → Y e ≡ X e
        → size_of_support Y ≤ n → Part X e
    conform zero X Y ly e ne cy ye c =
        conform_go X Y ly e ne cy ye
        (λ W lw nw cw we q. absurd (let r : suc (size_of_support W) ≤ size_of_support Y = q in omega (arith, r, c)))
    conform (suc n) X Y ly e ne cy ye c =
        conform_go X Y ly e ne cy ye (λ W lw nw cw we q. conform n X W lw e nw cw we (omega (arith, q, c)))

    -- conformal decomposition
    pub decompose : (X : SignVector) → L X → (e : ℕ) → IsNonzero (X e) → Part X e
    decompose X lx e n = conform (size_of_support X) X X lx e n (λ g m. refl) refl (omega arith)

    -- members of minimal support with one support inside the other are equal up to sign
    pub least_incomparable : (X Y : SignVector) → L X → L Y → HasLeastSupport L X → HasLeastSupport L Y → (e : ℕ)
        → IsNonzero (X e) → HasSupportIn X Y → AreEqualUpToSign X Y
    least_incomparable X Y lx ly mx my e n sub =
        let back : HasSupportIn Y X = my X lx (e, n) sub in
        let same : (V : SignVector) → L V → V e ≡ Y e → HasSupportIn V X → HasSupportIn X V → (g : ℕ) → V g ≡ Y g =
        λ V lv ve vx xv g.
        ⊎_elim
        (λ z. z ∙ sym
        (⊎_elim (λ q. q) (λ m. absurd (zero_not_nonzero (V g) z (xv g (back g m)))) (zero_or_nonzero (Y g))))
        (λ nv.
        let ny : IsNonzero (Y g) = sub g (vx g nv) in
        ⊎_elim (λ q. q)
        (λ q.
        let z = l3 V Y lv ly g nv (opposite_swap (V g) (Y g) q) in
        let ne : IsNonzero (V e) = xv e n in
        let ze : z.0 e ≡ V e = z.3 e (λ m r. equal_not_opposite (Y e) (V e) (sym ve) r ne)
        ∙ first_nonzero_left (V e) (Y e) ne in
        let inside : HasSupportIn z.0 Y = λ i m. ⊎_elim
        (λ s. sub i (vx i s.0))
        (λ ns. ⊎_elim (λ k. sub i (vx i k)) (λ k. k)
        (nonzero_either (V i) (Y i) (subst IsNonzero (z.3 i (λ m2 r. ns m2 r)) m)))
        (separated_or_not V Y i) in
        absurd (zero_not_nonzero (z.0 g) z.2 (my z.0 z.1 (e, (subst IsNonzero (sym ze) ne)) inside g ny)))
        (equal_or_opposite (V g) (Y g) nv ny))
        (zero_or_nonzero (V g)) in
        ⊎_elim
        (λ q. inl (same X lx q (λ g m. m) (λ g m. m)))
        (λ q. inr
        (λ g. opposite_back (X g) (Y g)
        (same (λ i. opposite (X i)) (l1 X lx) (ap opposite q ∙ opposite-opposite (Y e))
        (λ i m. subst IsNonzero (opposite-opposite (X i)) (opposite_nonzero (opposite (X i)) m))
        (λ i m. opposite_nonzero (X i) m) g)))
        (equal_or_opposite (X e) (Y e) n (sub e n))

    -- elimination for members of minimal support
    pub least_elimination : (X Y : SignVector) → L X → L Y → (e h : ℕ) → IsNonzero (X e) → Y e ≡ opposite (X e)
        → IsNonzero (first_nonzero (X h) (Y h)) → (IsNonzero (X h) → Y h ≡ opposite (X h) → ⊥)
        → (Z : SignVector) × L Z × HasLeastSupport L Z × (Z e ≡ Zero) × IsNonzero (Z h)
        × ((g : ℕ) → IsNonzero (Z g) → (Z g ≡ X g) ⊎ (Z g ≡ Y g))
    least_elimination X Y lx ly e h n op nh no_op =
        let w = l3 X Y lx ly e n op in
        let wh : IsNonzero (w.0 h) = subst IsNonzero (sym (w.3 h no_op)) nh in
        let z = decompose w.0 w.1 h wh in (
          z.0,
          z.1,
          z.4,
          ⊎_elim (λ q. q) (λ m. absurd (zero_not_nonzero (w.0 e) w.2 (subst IsNonzero (z.2 e m) m)))
              (zero_or_nonzero (z.0 e)),
          subst IsNonzero (sym z.3) wh,
          λ g m. ⊎_elim
              (λ s.
              let nx : IsNonzero (X g) = s.0 in
              ⊎_elim (λ q. inl q) (λ q. inr (q ∙ sym s.1)) (equal_or_opposite (z.0 g) (X g) m nx))
              (λ ns. ⊎_elim (λ q. inl (z.2 g m ∙ w.3 g ns ∙ q)) (λ q. inr (z.2 g m ∙ w.3 g ns ∙ q))
              (first_nonzero_either (X g) (Y g)))
              (separated_or_not X Y g),
        )
