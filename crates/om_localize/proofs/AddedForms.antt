-- The four forms of one point, added to those on a circle.
--
-- Main results: no_point, four_forms
use Rattle.std.proofs.Common.{ℕ, ◌≡◌, ◌≢◌, ◌+◌, ◌-◌, ◌*◌, ◌≤◌, ◌⊎◌, ◌↔◌, List, map, refl, sym, ◌∙◌, ⊎_elim, arith, inl}
use Rattle.std.proofs.Common.{inr, subst}
use Rattle.om_signs.specs.declared.sign.Sign.{Sign}
use Rattle.om_signs.specs.declared.sign.Sign.TheVariants.{Minus, Zero, Plus}
use Rattle.om_signs.specs.Sign.{opposite, product, first_nonzero}
use Rattle.om_signs.specs.SignVec.{at_element}
use Rattle.om_signs.proofs.ListPlaces.{at-map-opposite}
use Rattle.om_signs.proofs.SignLaws.{plus_nonzero, minus_nonzero}
use Rattle.om_laws.specs.Vectors.{SignVector, IsSupportedOn}
use Rattle.om_laws.specs.Chirotope.{elements_to}
use Rattle.om_chirotope.specs.Map.{SignMap}
use Rattle.om_chirotope.specs.Chirotope.{IsChirotope}
use Rattle.om_localize.specs.declared.circles.TheConstants.{MAX_OLD}
use Rattle.om_localize.specs.Circles.{IsPoint, circle_of}
use Rattle.om_localize.proofs.SignatureCircles.{circle_within}
use Rattle.om_localize.specs.Masks.{HasSign, HasSomeForm, IsFormAdded, AreBothAdded, IsOnHalvesBelow}
use Rattle.om_localize.specs.Masks.{AreMasksUpTo}
use Rattle.om_localize.proofs.PointForms.{AreSame, sign_of_other_bit, done_elsewhere, empty_elsewhere, forms_here}
use Rattle.om_localize.proofs.PointForms.{IsAtPoint, below_more, zeros_forth, zeros_back, cut_forth, cut_back}

-- ---- the forms of one point, added

-- the forms on a circle are those of a family of signs, and the bits from k on are free
record HaveForms (n e : ℕ) (Q : SignVector → Type 0) (k : ℕ) (masks : List ℕ) : Type 0 where
  forms : (s : SignVector) → IsSupportedOn (elements_to n) s → HasSomeForm masks n e s ↔ Q s
  free : (g : ℕ) → 1 ≤ g → g ≤ n → (s : Sign) (j : ℕ) → k ≤ j → HasSign masks e g s j → ⊥

one_more : (n e : ℕ) (Q : SignVector → Type 0) (k next : ℕ) (u : SignVector) (old new : List ℕ) → next ≡ k + 1
    → n ≤ MAX_OLD → 1 ≤ e → IsFormAdded n e u k old new → HaveForms n e Q k old
    → HaveForms n e (λ s. Q s ⊎ AreSame n s u) next new
one_more n e Q k next u old new is_next few low added h = record {
  forms = λ s supported.
      let f = forms_here n e few low u k old new added (λ g gl gh t x. h.free g gl gh t k (omega arith) x) s in
      let q = h.forms s supported in
      (λ x. ⊎_elim (λ a. inl (q.0 a)) (λ a. inr a) (f.0 x), λ x. f.1 (⊎_elim (λ a. inl (q.1 a)) (λ a. inr a) x));
  free = λ g gl gh t j l x. h.free g gl gh t j (omega arith)
      (sign_of_other_bit n e few low u k old new added g t j (omega arith) x);
}

abbrev IsNew : ℕ → List Sign → List Sign → SignVector → Type 0
IsNew n points cut s =
    ((AreSame n s (at_element points) ⊎ AreSame n s (at_element (map opposite points))) ⊎ AreSame n s (at_element cut))
    ⊎ AreSame n s (at_element (map opposite cut))

-- with the old forms
abbrev IsOldOrNew : (SignVector → Type 0) → ℕ → List Sign → List Sign → SignVector → Type 0
IsOldOrNew Q n points cut s =
    (((Q s ⊎ AreSame n s (at_element points)) ⊎ AreSame n s (at_element (map opposite points)))
    ⊎ AreSame n s (at_element cut)) ⊎ AreSame n s (at_element (map opposite cut))

place_opposite : (xs : List Sign) (g : ℕ) → at_element (map opposite xs) g ≡ opposite (at_element xs g)
place_opposite xs g = at-map-opposite xs (g - 1)

same_turned : (n : ℕ) (s : SignVector) (xs : List Sign) → AreSame n s (at_element (map opposite xs))
    ↔ AreSame n s (λ g. product Minus (at_element xs g))
same_turned n s xs = (λ h g gl gh. h g gl gh ∙ place_opposite xs g, λ h g gl gh. h g gl gh ∙ sym (place_opposite xs g))

module _ (m : SignMap) (r : m.rank ≡ 3) (h : IsChirotope m) (e f : ℕ) (points : List Sign)
    (points_are : (g : ℕ) → 1 ≤ g → g ≤ m.elements → at_element points g ≡ circle_of m e f g)
  where
    -- f is no point of the circle
    pub no_point : (masks : List ℕ) → ((g : ℕ) → 1 ≤ g → g ≤ m.elements → at_element points g ≡ Zero)
        → AreMasksUpTo m masks e f → AreMasksUpTo m masks e (f + 1)
    no_point masks none b = record {
      whole = b.whole;
      done = b.done;
      here = record {
        forms = λ s supported.
            let q = b.here.forms s supported in
            let t = below_more (circle_of m e) f s in
            (λ x. t.1 (inl (q.0 x)), λ x. q.1 (⊎_elim (λ a. a) (λ a. absurd (not_at s a)) (t.0 x)));
        free = λ g gl gh t k l x. b.here.free g gl gh t k (omega arith) x;
      };
      empty = b.empty;
    }
      where
        no_points : IsPoint (circle_of m e) f → ⊥
        no_points (g, nz) = let w = (circle_within m e f g nz).1 in nz (sym (points_are g w.0 w.1) ∙ none g w.0 w.1)

        not_at : (s : SignVector) → IsAtPoint (circle_of m e) s f → ⊥
        not_at s (c, inl x) = no_points x.point
        not_at s (c, inr x) = no_points x.point

    module _ (cut : List Sign) (k : ℕ) (k_low : 1 ≤ k) (k_high : k ≤ m.elements) (beside : at_element points k ≢ Zero)
        (cut_is : (g : ℕ) → 1 ≤ g → g ≤ m.elements
        → at_element cut g ≡ first_nonzero (at_element points g)
        (product (at_element points k) (circle_of m e g k)))
      where
        off : circle_of m e f k ≢ Zero
        off z = beside (points_are k k_low k_high ∙ z)

        new_forms : (s : SignVector) → IsSupportedOn (elements_to m.elements) s → IsNew m.elements points cut s
            ↔ IsAtPoint (circle_of m e) s f
        new_forms s supported = (forth, back)
          where
            point : IsPoint (circle_of m e) f
            point = (k, off)

            forth : IsNew m.elements points cut s → IsAtPoint (circle_of m e) s f
            forth (inl (inl (inl x))) =
                (Plus, inl (zeros_forth m r h e f points cut points_are Plus plus_nonzero point s supported x))
            forth (inl (inl (inr x))) = (
              Minus,
              inl
                  (zeros_forth m r h e f points cut points_are Minus minus_nonzero point s supported
                  ((same_turned m.elements s points).0 x)),
            )
            forth (inl (inr x)) = (
              Plus,
              inr
                  (cut_forth m r h e f points cut points_are k k_low k_high off cut_is Plus plus_nonzero s supported x),
            )
            forth (inr x) = (
              Minus,
              inr
                  (cut_forth m r h e f points cut points_are k k_low k_high off cut_is Minus minus_nonzero s supported
                  ((same_turned m.elements s cut).0 x)),
            )

            back : IsAtPoint (circle_of m e) s f → IsNew m.elements points cut s
            back (Minus, inl x) =
                inl (inl (inr
                ((same_turned m.elements s points).1 (zeros_back m r h e f points cut points_are Minus s x))))
            back (Zero, inl x) = absurd (x.side refl)
            back (Plus, inl x) = inl (inl (inl (zeros_back m r h e f points cut points_are Plus s x)))
            back (Minus, inr x) =
                inr ((same_turned m.elements s cut).1
                (cut_back m r h e f points cut points_are k k_low k_high off cut_is Minus s x))
            back (Zero, inr x) = absurd (x.side refl)
            back (Plus, inr x) = inl (inr (cut_back m r h e f points cut points_are k k_low k_high off cut_is Plus s x))

        pub four_forms : (b : ℕ) (m0 m2 m4 : List ℕ) → m.elements ≤ MAX_OLD → 1 ≤ e → 1 ≤ f → b ≡ 4 * (f - 1) + 1
            → AreMasksUpTo m m0 e f → AreBothAdded m.elements e points b m0 m2
            → AreBothAdded m.elements e cut (b + 2) m2 m4 → AreMasksUpTo m m4 e (f + 1)
        four_forms b m0 m2 m4 few low f_low q before points_added cut_added =
            let m1 = points_added.between in
            let m3 = cut_added.between in
            let a1 = points_added.first in
            let a2 = points_added.second in
            let a3 = cut_added.first in
            let next : b + 2 + 1 ≡ b + 3 = omega arith in
            let a4 = subst (λ k. IsFormAdded m.elements e (at_element (map opposite cut)) k m3 m4) next
            cut_added.second in
            let h0 : HaveForms m.elements e (IsOnHalvesBelow (circle_of m e) f) b m0 =
            record {
              forms = before.here.forms;
              free =
                  λ g gl gh t j l x. before.here.free g gl gh t j (omega arith) x;
            } in
            let h1 = one_more m.elements e _ b (b + 1) (at_element points) m0 m1 refl few low a1 h0 in
            let h2 = one_more m.elements e _ (b + 1) (b + 2) (at_element (map opposite points)) m1 m2 (omega arith) few
            low a2 h1 in
            let h3 = one_more m.elements e _ (b + 2) (b + 3) (at_element cut) m2 m3 (omega arith) few low a3 h2 in
            let h4 = one_more m.elements e _ (b + 3) (b + 4) (at_element (map opposite cut)) m3 m4 (omega arith) few low
            a4 h3 in
            record {
              whole = a4.whole ∙ a3.whole ∙ a2.whole ∙ a1.whole ∙ before.whole;
              done = λ d dl lt.
                  let ne : d ≢ e = omega arith in
                  done_elsewhere m.elements e few low _ (b + 3) m3 m4 a4 m d refl ne dl
                  (done_elsewhere m.elements e few low _ (b + 2) m2 m3 a3 m d refl ne dl
                  (done_elsewhere m.elements e few low _ (b + 1) m1 m2 a2 m d refl ne dl
                  (done_elsewhere m.elements e few low _ b m0 m1 a1 m d refl ne dl (before.done d dl lt))));
              here = record {
                forms = λ s supported.
                    let t = below_more (circle_of m e) f s in
                    let p = new_forms s supported in
                    let x = h4.forms s supported in
                    (λ y. t.1 (forward s p (x.0 y)), λ y. x.1 (backward s p (t.0 y)));
                free = λ g gl gh t j l x. h4.free g gl gh t j (omega arith) x;
              };
              empty = λ d lt dh.
                  let ne : d ≢ e = omega arith in
                  let dl : 1 ≤ d = omega arith in
                  empty_elsewhere m.elements e few low _ (b + 3) m3 m4 a4 m d refl ne dl
                  (empty_elsewhere m.elements e few low _ (b + 2) m2 m3 a3 m d refl ne dl
                  (empty_elsewhere m.elements e few low _ (b + 1) m1 m2 a2 m d refl ne dl
                  (empty_elsewhere m.elements e few low _ b m0 m1 a1 m d refl ne dl (before.empty d lt dh))));
            }
          where
            forward : (s : SignVector) → IsNew m.elements points cut s ↔ IsAtPoint (circle_of m e) s f
                → IsOldOrNew (IsOnHalvesBelow (circle_of m e) f) m.elements points cut s
                → IsOnHalvesBelow (circle_of m e) f s ⊎ IsAtPoint (circle_of m e) s f
            forward s p (inl (inl (inl (inl x)))) = inl x
            forward s p (inl (inl (inl (inr x)))) = inr (p.0 (inl (inl (inl x))))
            forward s p (inl (inl (inr x))) = inr (p.0 (inl (inl (inr x))))
            forward s p (inl (inr x)) = inr (p.0 (inl (inr x)))
            forward s p (inr x) = inr (p.0 (inr x))

            backward : (s : SignVector) → IsNew m.elements points cut s ↔ IsAtPoint (circle_of m e) s f
                → IsOnHalvesBelow (circle_of m e) f s ⊎ IsAtPoint (circle_of m e) s f
                → IsOldOrNew (IsOnHalvesBelow (circle_of m e) f) m.elements points cut s
            backward s p (inl x) = inl (inl (inl (inl x)))
            backward s p (inr x) = new (p.1 x)
              where
                new : IsNew m.elements points cut s
                    → IsOldOrNew (IsOnHalvesBelow (circle_of m e) f) m.elements points cut s
                new (inl (inl (inl y))) = inl (inl (inl (inr y)))
                new (inl (inl (inr y))) = inl (inl (inr y))
                new (inl (inr y)) = inl (inr y)
                new (inr y) = inr y
