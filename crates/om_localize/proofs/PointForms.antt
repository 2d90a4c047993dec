-- One form more on a circle, and the forms of one point.
--
-- Main definitions: AreSame, IsAtPoint
-- Main results: sign_kept, sign_elsewhere, sign_of_other_bit, forms_elsewhere, done_elsewhere, empty_elsewhere,
-- forms_here, below_more, zeros_forth, zeros_back, cut_forth, cut_back
use Rattle.std.proofs.Common.{ℕ, ◌≡◌, ◌≢◌, ◌+◌, ◌≤◌, ◌⊎◌, ◌↔◌, List, refl, sym, ◌∙◌, ap, subst, ⊎_elim, arith, inl, inr}
use Rattle.std.proofs.lemmas.Bool.{cases_eq}
use Rattle.om_signs.specs.declared.sign.Sign.{Sign}
use Rattle.om_signs.specs.declared.sign.Sign.TheVariants.{Minus, Zero, Plus}
use Rattle.om_signs.specs.Sign.{opposite, product, first_nonzero}
use Rattle.om_signs.specs.SignVec.{at_element}
use Rattle.om_signs.proofs.SignLaws.{zero_or_nonzero, product_zero_right}
use Rattle.om_laws.specs.ThreeTerm.{AreBalanced}
use Rattle.om_laws.specs.Vectors.{SignVector, IsSupportedOn}
use Rattle.om_laws.specs.Sorting.{IsElement}
use Rattle.om_laws.specs.Chirotope.{elements_to}
use Rattle.om_laws.proofs.TupleSizes.{element_or_not}
use Rattle.om_laws.proofs.ChirotopeLaws.{element_from_member}
use Rattle.om_chirotope.specs.Map.{SignMap}
use Rattle.om_chirotope.specs.Chirotope.{IsChirotope}
use Rattle.om_localize.specs.declared.circles.TheConstants.{MAX_OLD}
use Rattle.om_localize.specs.Circles.{Circle, IsPoint, HasZerosAt, IsCutBeside, circle_of}
use Rattle.om_localize.proofs.SignatureCircles.{circle_three, circle_within}
use Rattle.om_localize.specs.Masks.{mask_place, HasSign, HasForm, HasSomeForm, IsBitOfForm, IsFormAdded, IsCircleDone}
use Rattle.om_localize.specs.Masks.{IsCircleEmpty, IsOnHalvesBelow}
use Rattle.om_localize.proofs.MaskBits.{same_place}

-- ---- one form more on a circle

-- the same signs at 1 to n
abbrev pub AreSame : ℕ → SignVector → SignVector → Type 0
AreSame n s t = (g : ℕ) → 1 ≤ g → g ≤ n → s g ≡ t g

module _ (n e : ℕ) (few : n ≤ MAX_OLD) (e_low : 1 ≤ e) (u : SignVector) (k : ℕ) (old new : List ℕ)
    (added : IsFormAdded n e u k old new) where
  pub sign_kept : (d g : ℕ) (s : Sign) (j : ℕ) → HasSign old d g s j → HasSign new d g s j
  sign_kept d g s j h = (added.bits (mask_place d g s) j).1 (inl h)

  pub sign_elsewhere : (d g : ℕ) (s : Sign) (j : ℕ) → d ≢ e → 1 ≤ d → 1 ≤ g → g ≤ n → HasSign new d g s j
      → HasSign old d g s j
  sign_elsewhere d g s j ne dl gl gh h = ⊎_elim
      (λ b. b)
      (λ b. (let q = same_place d g e b.1.0 s (u b.1.0) dl gl (omega arith) e_low b.1.1 (let x = b.1.2 in omega arith)
      b.1.3 in absurd (ne q.circle)))
      ((added.bits (mask_place d g s) j).0 h)

  pub sign_of_other_bit : (g : ℕ) (s : Sign) (j : ℕ) → j ≢ k → HasSign new e g s j → HasSign old e g s j
  sign_of_other_bit g s j ne h = ⊎_elim (λ b. b) (λ b. absurd (ne b.0)) ((added.bits (mask_place e g s) j).0 h)

  pub forms_elsewhere : (d : ℕ) (s : SignVector) → d ≢ e → 1 ≤ d → HasSomeForm new n d s ↔ HasSomeForm old n d s
  forms_elsewhere d s ne dl = (
    λ h. (h.0, λ g gl gh. sign_elsewhere d g (s g) h.0 ne dl gl gh (h.1 g gl gh)),
    λ h. (h.0, λ g gl gh. sign_kept d g (s g) h.0 (h.1 g gl gh)),
  )

  pub done_elsewhere : (m : SignMap) (d : ℕ) → m.elements ≡ n → d ≢ e → 1 ≤ d → IsCircleDone m old d
      → IsCircleDone m new d
  done_elsewhere m d q ne dl h s supported =
      let f : HasSomeForm new m.elements d s ↔ HasSomeForm old m.elements d s =
      subst (λ z. HasSomeForm new z d s ↔ HasSomeForm old z d s) (sym q) (forms_elsewhere d s ne dl) in
      (λ x. (h s supported).0 (f.0 x), λ x. f.1 ((h s supported).1 x))

  pub empty_elsewhere : (m : SignMap) (d : ℕ) → m.elements ≡ n → d ≢ e → 1 ≤ d → IsCircleEmpty m old d
      → IsCircleEmpty m new d
  empty_elsewhere m d q ne dl h f fl fh s j x =
      h f fl fh s j (sign_elsewhere d f s j ne dl fl (let y = fh in omega arith) x)

  pub forms_here : ((g : ℕ) → 1 ≤ g → g ≤ n → (s : Sign) → HasSign old e g s k → ⊥) → (s : SignVector)
      → HasSomeForm new n e s ↔ (HasSomeForm old n e s ⊎ AreSame n s u)
  forms_here fresh s = (
    λ h. forth h.0 h.1 (cases_eq h.0 k),
    λ h. ⊎_elim (λ x. (x.0, λ g gl gh. sign_kept e g (s g) x.0 (x.1 g gl gh)))
        (λ x. (
          k,
          λ g gl gh. (added.bits (mask_place e g (s g)) k).1
              (inr (refl, (g, gl, gh, ap (mask_place e g) (x g gl gh)))),
        )) h,
  )
    where
      same_sign : (g : ℕ) → 1 ≤ g → g ≤ n → IsBitOfForm n e u k (mask_place e g (s g)) k → s g ≡ u g
      same_sign g gl gh b =
          let q = same_place e g e b.1.0 (s g) (u b.1.0) e_low gl (omega arith) e_low b.1.1
          (let x = b.1.2 in omega arith) b.1.3 in
          q.sign ∙ ap u (sym q.element)

      forth : (j : ℕ) → HasForm new n e s j → (j ≡ k) ⊎ (j ≢ k) → HasSomeForm old n e s ⊎ AreSame n s u
      forth j h (inr ne) = inl (j, λ g gl gh. sign_of_other_bit g (s g) j ne (h g gl gh))
      forth j h (inl q) = inr (λ g gl gh.
          let b : HasSign new e g (s g) k = subst (λ z. HasSign new e g (s g) z) q (h g gl gh) in
          ⊎_elim (λ x. absurd (fresh g gl gh (s g) x)) (λ x. same_sign g gl gh x)
          ((added.bits (mask_place e g (s g)) k).0 b))

-- ---- the forms of one point

-- zeros at f, or a cut beside it
abbrev pub IsAtPoint : Circle → SignVector → ℕ → Type 0
IsAtPoint circle s f = (c : Sign) × (HasZerosAt circle s f c ⊎ IsCutBeside circle s f c)

pub below_more : (circle : Circle) (f : ℕ) (s : SignVector) → IsOnHalvesBelow circle (f + 1) s
    ↔ (IsOnHalvesBelow circle f s ⊎ IsAtPoint circle s f)
below_more circle f s = (forth, back)
  where
    forth : IsOnHalvesBelow circle (f + 1) s → IsOnHalvesBelow circle f s ⊎ IsAtPoint circle s f
    forth (inl z) = inl (inl z)
    forth (inr (g, c, l, h)) = elim (cases_eq g f) [
      | inl q ↦ inr (c, subst (λ z. HasZerosAt circle s z c ⊎ IsCutBeside circle s z c) q h)
      | inr ne ↦ inl (inr (g, c, omega arith, h))
    ]

    back : IsOnHalvesBelow circle f s ⊎ IsAtPoint circle s f → IsOnHalvesBelow circle (f + 1) s
    back (inl (inl z)) = inl z
    back (inl (inr (g, c, l, h))) = inr (g, c, omega arith, h)
    back (inr (c, h)) = inr (f, c, omega arith, h)

-- the cut is the same for each point off f
same_cut : (fg fh fk gh gk hk : Sign) → fh ≢ Zero → fk ≢ Zero
    → AreBalanced (product fg hk) (opposite (product fh gk)) (product fk gh)
    → first_nonzero fg (product fh gh) ≡ first_nonzero fg (product fk gk)
same_cut Minus fh fk gh gk hk a b h = refl
same_cut Zero fh fk gh gk hk a b h = grind arith
same_cut Plus fh fk gh gk hk a b h = refl

module _ (m : SignMap) (r : m.rank ≡ 3) (h : IsChirotope m) (e f : ℕ) (points cut : List Sign)
    (points_are : (g : ℕ) → 1 ≤ g → g ≤ m.elements → at_element points g ≡ circle_of m e f g)
  where
    abbrev circle : Circle
    circle = circle_of m e

    zero_off : (g : ℕ) → (IsElement m.elements g → ⊥) → circle_of m e f g ≡ Zero
    zero_off g o = ⊎_elim (λ z. z) (λ nz. absurd (o (circle_within m e f g nz).1)) (zero_or_nonzero (circle_of m e f g))

    zero_sign : (s : SignVector) → IsSupportedOn (elements_to m.elements) s → (g : ℕ) → (IsElement m.elements g → ⊥)
        → s g ≡ Zero
    zero_sign s supported g o =
        ⊎_elim (λ z. z) (λ nz. absurd (o (element_from_member m.elements g (supported g nz)))) (zero_or_nonzero (s g))

    -- a supported vector is equal to another one where it is so at the elements
    everywhere : (s t : SignVector) → IsSupportedOn (elements_to m.elements) s
        → ((g : ℕ) → (IsElement m.elements g → ⊥) → t g ≡ Zero) → AreSame m.elements s t → (g : ℕ) → s g ≡ t g
    everywhere s t supported off same g =
        ⊎_elim (λ x. same g x.0 x.1) (λ o. zero_sign s supported g o ∙ sym (off g o)) (element_or_not m.elements g)

    -- the signs of the zeros at f, on either side
    pub zeros_forth : (c : Sign) → c ≢ Zero → IsPoint (circle_of m e) f → (s : SignVector)
        → IsSupportedOn (elements_to m.elements) s → AreSame m.elements s (λ g. product c (at_element points g))
        → HasZerosAt (circle_of m e) s f c
    zeros_forth c nz p s supported same = record {
      point = p;
      side = nz;
      halves = everywhere s (λ g. product c (circle_of m e f g)) supported
          (λ g o. product_zero_right c (circle_of m e f g) (zero_off g o))
          (λ g gl gh. same g gl gh ∙ ap (product c) (points_are g gl gh));
    }

    pub zeros_back : (c : Sign) (s : SignVector) → HasZerosAt (circle_of m e) s f c
        → AreSame m.elements s (λ g. product c (at_element points g))
    zeros_back c s z g gl gh = z.halves g ∙ ap (product c) (sym (points_are g gl gh))

    module _ (k : ℕ) (k_low : 1 ≤ k) (k_high : k ≤ m.elements) (beside : circle_of m e f k ≢ Zero)
        (cut_is : (g : ℕ) → 1 ≤ g → g ≤ m.elements
        → at_element cut g ≡ first_nonzero (at_element points g)
        (product (at_element points k) (circle_of m e g k)))
      where
        cut_values : (g : ℕ) → 1 ≤ g → g ≤ m.elements
            → at_element cut g ≡ first_nonzero (circle_of m e f g) (product (circle_of m e f k) (circle_of m e g k))
        cut_values g gl gh = rw (← points_are g gl gh, ← points_are k k_low k_high) (cut_is g gl gh)

        off_cut : (x g : ℕ) → (IsElement m.elements g → ⊥)
            → first_nonzero (circle_of m e f g) (product (circle_of m e f x) (circle_of m e g x)) ≡ Zero
        off_cut x g o = lemma (circle_of m e f g) (circle_of m e f x) (circle_of m e g x) (zero_off g o)
            (⊎_elim (λ z. z) (λ nz. absurd (o (circle_within m e g x nz).0)) (zero_or_nonzero (circle_of m e g x)))
          where
            lemma : (a b d : Sign) → a ≡ Zero → d ≡ Zero → first_nonzero a (product b d) ≡ Zero
            lemma a b d p q = grind arith

        pub cut_forth : (c : Sign) → c ≢ Zero → (s : SignVector) → IsSupportedOn (elements_to m.elements) s
            → AreSame m.elements s (λ g. product c (at_element cut g)) → IsCutBeside (circle_of m e) s f c
        cut_forth c nz s supported same = record {
          point = (k, beside);
          side = nz;
          halves = λ x nx. everywhere s
              (λ g. product c (first_nonzero (circle_of m e f g) (product (circle_of m e f x) (circle_of m e g x))))
              supported
              (λ g o. product_zero_right c _ (off_cut x g o))
              (λ g gl gh. same g gl gh
              ∙ ap (product c)
              (cut_values g gl gh
              ∙ same_cut (circle_of m e f g) (circle_of m e f k) (circle_of m e f x) (circle_of m e g k)
              (circle_of m e g x) (circle_of m e k x) beside nx (circle_three m r h e f g k x)));
        }

        pub cut_back : (c : Sign) (s : SignVector) → IsCutBeside (circle_of m e) s f c
            → AreSame m.elements s (λ g. product c (at_element cut g))
        cut_back c s z g gl gh = z.halves k beside g ∙ ap (product c) (sym (cut_values g gl gh))
