-- Elimination, and decomposition into cocircuits, for a dual pair of sets of sign vectors.
--
-- Main results: a vector orthogonal to all circuits is made of cocircuits that conform to it (conformal_decomposition,
-- orthogonal_from_parts); strong elimination for such vectors and for cocircuits (strong_elimination, elimination_at);
-- elimination for such vectors (vector_elimination); compositions, negatives and zero are such (covector_composition,
-- covector_negated, covector_zero). For circuits and vectors, take the pair in the other order.
-- Reference: Björner, Las Vergnas, Sturmfels, White and Ziegler, Oriented Matroids, chapters 3 and 4.
use Rattle.std.specs.Prelude.{ℕ, ◌≡◌, ◌≢◌, refl, ◌⊎◌, List, [], ◌∷◌, cond, nat_eq}
use Rattle.std.proofs.Common.{inl, inr, sym, ◌∙◌, ap, subst, ⊎_elim}
use Rattle.std.proofs.lemmas.Bool.{cases_eq, eq-eqb, ne_eqb}
use Rattle.om_signs.specs.declared.sign.Sign.TheVariants.{Minus, Zero, Plus}
use Rattle.om_signs.specs.Sign.{opposite, product, first_nonzero}
use Rattle.om_signs.proofs.SignLaws.{plus_nonzero, zero_or_nonzero, opposite_nonzero, opposite_or_not}
use Rattle.om_signs.proofs.SignLaws.{not_plus_and_minus, nonzero_either, first_nonzero_right, first_nonzero_cases}
use Rattle.om_signs.proofs.SignLaws.{first_nonzero_from_left, first_nonzero_from_right, first_nonzero_zero}
use Rattle.om_signs.proofs.SignLaws.{first_of_two, nonzero_if_opposite, left_nonzero}
use Rattle.om_laws.specs.Colours.{Colour, black, CircuitMay, CocircuitMay, IsColoured}
use Rattle.om_laws.specs.Compositions.{HasConformingParts}
use Rattle.om_laws.specs.Covectors.{IsOrthogonalToAll}
use Rattle.om_laws.specs.Members.{IsMember}
use Rattle.om_laws.specs.Signs.{IsNonzero}
use Rattle.om_laws.specs.Vectors.{SignVector, zero_vector, negated, composition, IsSupportedOn}
use Rattle.om_laws.proofs.DualPairs.{IsDualPair}
use Rattle.om_laws.proofs.PaintingLaws.{painting}
use Rattle.om_laws.proofs.PairColours.{colour_of, colour_of_two, colour_of_coloured, nonzero_from_colour}
use Rattle.om_laws.proofs.PairColours.{circuit_not_minus, circuit_plus, cocircuit_equal, circuit_not_minus_left}
use Rattle.om_laws.proofs.PairColours.{circuit_not_minus_right, colour_of_two_coloured, nonzero_from_colour_of_two}
use Rattle.om_laws.proofs.PairColours.{cocircuit_either, cocircuit_first_nonzero, circuit_plus_left, circuit_plus_right}
use Rattle.om_laws.proofs.PairColours.{turned_left, turned_right, cocircuit_zero}
use Rattle.om_laws.proofs.VectorLaws.{opposite_product, orthogonal_from, orthogonal_sym, orthogonal_negated}
use Rattle.om_laws.proofs.VectorLaws.{orthogonal_zero, orthogonal_composition}

module _ (E : List ℕ) (C D : SignVector → Type 0) (pair : IsDualPair E C D) where
  painted : (col : ℕ → Colour) (e : ℕ) → IsMember e E → IsColoured (col e)
      → ((g : ℕ) → IsColoured (col g) → IsMember g E)
      → ((X : SignVector) × C X × IsNonzero (X e) × ((g : ℕ) → CircuitMay (col g) (X g)))
      ⊎ ((Y : SignVector) × D Y × IsNonzero (Y e) × ((g : ℕ) → CocircuitMay (col g) (Y g)))
  painted = painting E C D pair

  -- a vector orthogonal to all circuits is made of cocircuits that conform to it
  pub conformal_decomposition : (X : SignVector) → IsSupportedOn E X → IsOrthogonalToAll C X → (e : ℕ) → IsNonzero (X e)
      → (Y : SignVector) × D Y × (Y e ≡ X e) × ((g : ℕ) → IsNonzero (Y g) → Y g ≡ X g)
  conformal_decomposition X on cov e n =
      ⊎_elim
      (λ c.
      let k = opposite_product X c.0 (cov c.0 c.1) e Plus plus_nonzero (circuit_plus (X e) (c.0 e) n c.2 (c.3 e)) in
      absurd (circuit_not_minus (X k.0) (c.0 k.0) (c.3 k.0) k.1))
      (λ d. (d.0, d.1, cocircuit_equal (X e) (d.0 e) (d.3 e) d.2, λ g m. cocircuit_equal (X g) (d.0 g) (d.3 g) m))
      (painted (λ g. colour_of (X g)) e (on e n) (colour_of_coloured (X e) n)
      (λ g r. on g (nonzero_from_colour (X g) r)))

  pub orthogonal_from_parts : (X : SignVector) → HasConformingParts D X → IsOrthogonalToAll C X
  orthogonal_from_parts X d V v = orthogonal_from X V (λ e t n h.
      let y = d e (left_nonzero (X e) (V e) t h n) in
      let k = opposite_product y.0 V (orthogonal_sym V y.0 (pair.orthogonal V y.0 v y.1)) e t n
      (ap (λ s. product s (V e)) y.2 ∙ h) in (
        k.0,
        ap (λ s. product s (V k.0))
            (sym (y.3 k.0 (left_nonzero (y.0 k.0) (V k.0) (opposite t) k.1 (opposite_nonzero t n)))) ∙ k.1,
      ))

  -- a colouring for elimination at e
  abbrev scheme : SignVector → SignVector → ℕ → ℕ → Colour
  scheme X Y e g = cond (nat_eq g e) black (colour_of_two (X g) (Y g))

  scheme_at : (X Y : SignVector) (e g : ℕ) → g ≡ e → scheme X Y e g ≡ black
  scheme_at X Y e g q = rw (eq-eqb g e q)

  scheme_off : (X Y : SignVector) (e g : ℕ) → g ≢ e → scheme X Y e g ≡ colour_of_two (X g) (Y g)
  scheme_off X Y e g q = rw (ne_eqb g e q)

  black_not_coloured : (c : Colour) → c ≡ black → IsColoured c → ⊥
  black_not_coloured c q r = subst IsColoured q r

  -- a fitting member of C contradicts
  clash : (X Y : SignVector) → IsOrthogonalToAll C X → IsOrthogonalToAll C Y → (e h : ℕ) → X e ≡ opposite (Y e) → h ≢ e
      → IsColoured (colour_of_two (X h) (Y h)) → (V : SignVector) → C V → IsNonzero (V h)
      → ((g : ℕ) → g ≢ e → CircuitMay (colour_of_two (X g) (Y g)) (V g)) → ⊥
  clash X Y cx cy e h op ne r V v n ok =
      let not_x : (g : ℕ) → g ≢ e → product (X g) (V g) ≢ Minus =
      λ g m. circuit_not_minus_left (X g) (Y g) (V g) (ok g m) in
      let not_y : (g : ℕ) → g ≢ e → product (Y g) (V g) ≢ Minus =
      λ g m. circuit_not_minus_right (X g) (Y g) (V g) (ok g m) in
      let end_y : product (Y e) (V e) ≡ Plus → ⊥ = λ p.
      let k = opposite_product Y V (cy V v) e Plus plus_nonzero p in
      ⊎_elim (λ q. not_plus_and_minus (product (Y e) (V e)) p (subst (λ z. product (Y z) (V z) ≡ Minus) q k.1))
      (λ m. not_y k.0 m k.1) (cases_eq k.0 e) in
      let end_x : product (X e) (V e) ≡ Plus → ⊥ = λ p.
      let k = opposite_product X V (cx V v) e Plus plus_nonzero p in
      ⊎_elim (λ q. not_plus_and_minus (product (X e) (V e)) p (subst (λ z. product (X z) (V z) ≡ Minus) q k.1))
      (λ m. not_x k.0 m k.1) (cases_eq k.0 e) in
      ⊎_elim
      (λ m.
      let k = opposite_product X V (cx V v) h Plus plus_nonzero (circuit_plus_left (X h) (Y h) (V h) r (ok h ne) n m) in
      ⊎_elim (λ q. end_y (turned_left (X e) (Y e) (V e) op (subst (λ z. product (X z) (V z) ≡ Minus) q k.1)))
      (λ w. not_x k.0 w k.1) (cases_eq k.0 e))
      (λ m.
      let k = opposite_product Y V (cy V v) h Plus plus_nonzero (circuit_plus_right (X h) (Y h) (V h) r (ok h ne) n m)
      in
      ⊎_elim (λ q. end_x (turned_right (X e) (Y e) (V e) op (subst (λ z. product (Y z) (V z) ≡ Minus) q k.1)))
      (λ w. not_y k.0 w k.1) (cases_eq k.0 e))
      (nonzero_either (X h) (Y h) (nonzero_from_colour_of_two (X h) (Y h) r))

  pub composition_supported : (X Y : SignVector) → IsSupportedOn E X → IsSupportedOn E Y → (g : ℕ)
      → IsNonzero (first_nonzero (X g) (Y g)) → IsMember g E
  composition_supported X Y ox oy g n = ⊎_elim (λ m. ox g m) (λ m. oy g m) (nonzero_either (X g) (Y g) n)

  -- strong elimination, for vectors that are orthogonal to all circuits
  pub strong_elimination : (X Y : SignVector) → IsSupportedOn E X → IsSupportedOn E Y → IsOrthogonalToAll C X
      → IsOrthogonalToAll C Y → (e h : ℕ) → X e ≡ opposite (Y e) → h ≢ e → IsNonzero (first_nonzero (X h) (Y h))
      → (X h ≡ opposite (Y h) → ⊥)
      → (Z : SignVector) × D Z × (Z e ≡ Zero) × (Z h ≡ first_nonzero (X h) (Y h))
      × ((g : ℕ) → IsNonzero (Z g) → (Z g ≡ X g) ⊎ (Z g ≡ Y g))
  strong_elimination X Y ox oy cx cy e h op ne n no_op =
      let rh : IsColoured (colour_of_two (X h) (Y h)) = colour_of_two_coloured (X h) (Y h) n no_op in
      let off_c : (g : ℕ) → g ≢ e → scheme X Y e g ≡ colour_of_two (X g) (Y g) = scheme_off X Y e in
      ⊎_elim
      (λ c. absurd
      (clash X Y cx cy e h op ne rh c.0 c.1 c.2 (λ g m. subst (λ k. CircuitMay k (c.0 g)) (off_c g m) (c.3 g))))
      (λ d.
      let ze : d.0 e ≡ Zero =
      cocircuit_zero (d.0 e) (subst (λ k. CocircuitMay k (d.0 e)) (scheme_at X Y e e refl) (d.3 e)) in (
        d.0,
        d.1,
        ze,
        cocircuit_first_nonzero (X h) (Y h) (d.0 h) rh (subst (λ k. CocircuitMay k (d.0 h)) (off_c h ne) (d.3 h)) d.2,
        λ g m. ⊎_elim
            (λ q. absurd (m (ap d.0 q ∙ ze)))
            (λ w. cocircuit_either (X g) (Y g) (d.0 g) (subst (λ k. CocircuitMay k (d.0 g)) (off_c g w) (d.3 g)) m)
            (cases_eq g e),
      ))
      (painted (scheme X Y e) h (composition_supported X Y ox oy h n) (subst IsColoured (sym (off_c h ne)) rh)
      (λ g r. ⊎_elim
      (λ q. absurd (black_not_coloured (scheme X Y e g) (scheme_at X Y e g q) r))
      (λ w. composition_supported X Y ox oy g (nonzero_from_colour_of_two (X g) (Y g) (subst IsColoured (off_c g w) r)))
      (cases_eq g e)))

  -- strong elimination, for cocircuits
  pub elimination_at : ((X : SignVector) → D X → IsSupportedOn E X) → (X Y : SignVector) → D X → D Y → (e h : ℕ)
      → X e ≡ opposite (Y e) → IsNonzero (X e) → IsNonzero (first_nonzero (X h) (Y h)) → (X h ≡ opposite (Y h) → ⊥)
      → (Z : SignVector) × D Z × (Z e ≡ Zero) × (Z h ≡ first_nonzero (X h) (Y h))
      × ((g : ℕ) → IsNonzero (Z g) → (Z g ≡ X g) ⊎ (Z g ≡ Y g))
  elimination_at ond X Y dx dy e h op ne nh no_op =
      strong_elimination X Y (ond X dx) (ond Y dy) (λ V v. orthogonal_sym V X (pair.orthogonal V X v dx))
      (λ V v. orthogonal_sym V Y (pair.orthogonal V Y v dy)) e h op
      (λ q. no_op (subst (λ z. X z ≡ opposite (Y z)) (sym q) op)) nh no_op

  pub covector_composition : (X Y : SignVector) → IsOrthogonalToAll C X → IsOrthogonalToAll C Y
      → IsOrthogonalToAll C (composition X Y)
  covector_composition X Y cx cy V v = orthogonal_composition X Y V (cx V v) (cy V v)

  pub covector_negated : (X : SignVector) → IsOrthogonalToAll C X → IsOrthogonalToAll C (negated X)
  covector_negated X cx V v = orthogonal_negated X V (cx V v)

  pub covector_zero : IsOrthogonalToAll C zero_vector
  covector_zero V v = orthogonal_zero V

  -- elimination for vectors orthogonal to all circuits, one element after another
  abbrev Part : SignVector → SignVector → ℕ → List ℕ → Type 0
  Part X Y e l =
      (Z : SignVector) × IsOrthogonalToAll C Z × (Z e ≡ Zero) × ((g : ℕ) → IsNonzero (Z g) → (Z g ≡ X g) ⊎ (Z g ≡ Y g))
      × ((g : ℕ) → IsMember g l → IsNonzero (first_nonzero (X g) (Y g)) → (X g ≡ opposite (Y g) → ⊥) → IsNonzero (Z g))

  join_part : (X Y : SignVector) (e h : ℕ) (l : List ℕ) → Part X Y e l → (W : SignVector) → IsOrthogonalToAll C W
      → W e ≡ Zero → ((g : ℕ) → IsNonzero (W g) → (W g ≡ X g) ⊎ (W g ≡ Y g))
      → (IsNonzero (first_nonzero (X h) (Y h)) → (X h ≡ opposite (Y h) → ⊥) → IsNonzero (W h)) → Part X Y e (h ∷ l)
  join_part X Y e h l z W cw we ww wh = (
    composition W z.0,
    covector_composition W z.0 cw z.1,
    first_nonzero_right (W e) (z.0 e) we ∙ z.2,
    λ g n. ⊎_elim
        (λ a. ⊎_elim (λ q. inl (a.1 ∙ q)) (λ q. inr (a.1 ∙ q)) (ww g a.0))
        (λ b. ⊎_elim (λ q. inl (b.2 ∙ q)) (λ q. inr (b.2 ∙ q)) (z.3 g b.1))
        (first_nonzero_cases (W g) (z.0 g) n),
    λ g m n o. ⊎_elim
        (λ q. first_nonzero_from_left (W g) (z.0 g)
        (subst (λ k. IsNonzero (W k)) (sym q)
        (wh (subst (λ k. IsNonzero (first_nonzero (X k) (Y k))) q n)
        (λ k. o (subst (λ j. X j ≡ opposite (Y j)) (sym q) k)))))
        (λ b. first_nonzero_from_right (W g) (z.0 g) (z.4 g b n o))
        m,
  )

  zero_part : (X Y : SignVector) (e h : ℕ) (l : List ℕ) → Part X Y e l
      → ((IsNonzero (first_nonzero (X h) (Y h))) → (X h ≡ opposite (Y h) → ⊥) → ⊥) → Part X Y e (h ∷ l)
  zero_part X Y e h l z none = (
    z.0,
    z.1,
    z.2,
    z.3,
    λ g m n o. ⊎_elim
        (λ q. absurd
        (none (subst (λ k. IsNonzero (first_nonzero (X k) (Y k))) q n)
        (λ k. o (subst (λ j. X j ≡ opposite (Y j)) (sym q) k))))
        (λ b. z.4 g b n o) m,
  )

  parts : (X Y : SignVector) → IsSupportedOn E X → IsSupportedOn E Y → IsOrthogonalToAll C X → IsOrthogonalToAll C Y
      → (e : ℕ) → X e ≡ opposite (Y e) → (l : List ℕ) → Part X Y e l
  parts X Y ox oy cx cy e op [] = (zero_vector, covector_zero, refl, (λ g n. absurd (n refl)), λ g m n o. absurd m)
  parts X Y ox oy cx cy e op (h ∷ l) =
      let z = parts X Y ox oy cx cy e op l in
      ⊎_elim
      (λ q. zero_part X Y e h l z (λ n o. o q))
      (λ o. ⊎_elim
      (λ c. zero_part X Y e h l z (λ n k. n c))
      (λ n.
      let w = strong_elimination X Y ox oy cx cy e h op (λ q. o (subst (λ j. X j ≡ opposite (Y j)) (sym q) op)) n o in
      join_part X Y e h l z w.0 (λ V v. orthogonal_sym V w.0 (pair.orthogonal V w.0 v w.1)) w.2 w.4
      (λ a b. subst IsNonzero (sym w.3) n))
      (zero_or_nonzero (first_nonzero (X h) (Y h))))
      (opposite_or_not (X h) (Y h))

  -- elimination for vectors orthogonal to all circuits
  pub vector_elimination : (X Y : SignVector) → IsSupportedOn E X → IsSupportedOn E Y → IsOrthogonalToAll C X
      → IsOrthogonalToAll C Y → (e : ℕ) → X e ≡ opposite (Y e)
      → (Z : SignVector) × IsOrthogonalToAll C Z × (Z e ≡ Zero)
      × ((g : ℕ) → (IsNonzero (X g) → X g ≡ opposite (Y g) → ⊥) → Z g ≡ first_nonzero (X g) (Y g))
  vector_elimination X Y ox oy cx cy e op =
      let z = parts X Y ox oy cx cy e op E in (
        z.0,
        z.1,
        z.2,
        λ g no_sep. ⊎_elim
            (λ c.
            let k = first_nonzero_zero (X g) (Y g) c in
            ⊎_elim (λ q. q ∙ sym c)
            (λ n. ⊎_elim (λ q. q ∙ k.0 ∙ sym c) (λ q. q ∙ k.1 ∙ sym c) (z.3 g n))
            (zero_or_nonzero (z.0 g)))
            (λ n.
            let m = composition_supported X Y ox oy g n in
            let o : X g ≡ opposite (Y g) → ⊥ =
            λ q. ⊎_elim (λ v. no_sep v q) (λ v. no_sep (nonzero_if_opposite (X g) (Y g) q v) q)
            (nonzero_either (X g) (Y g) n) in
            let nz = z.4 g m n o in
            first_of_two (X g) (Y g) (z.0 g) nz (z.3 g nz) no_sep)
            (zero_or_nonzero (first_nonzero (X g) (Y g))),
      )
