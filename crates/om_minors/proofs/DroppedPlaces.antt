-- Lists of signs without the place of an element.
--
-- Main results: what supports, conforming signs and nonzero places of lists say of the lists without the place, and
-- back where the place is zero (support_removed, support_restored, nonzero_removed, nonzero_restored,
-- conformal_removed); of the families of minors, the members of least support: those of a contraction are the members
-- of least support that are zero at the element (least_contracted), and those of a deletion are the members of least
-- support of any family that the others are made of, without the place (least_deleted).
-- Reference: Björner, Las Vergnas, Sturmfels, White and Ziegler, Oriented Matroids, chapters 3 and 4.
use Rattle.std.specs.Prelude.{ℕ, ◌≡◌, ◌≢◌, ◌↔◌, ◌+◌, ◌-◌, ◌<◌, ◌≤◌, List, length, cond, nat_lt, refl}
use Rattle.std.specs.List.{remove}
use Rattle.std.proofs.Common.{suc, sym, ◌∙◌, ap, subst, inl, inr, ⊎_elim, arith}
use Rattle.std.proofs.lemmas.Bool.{cases_lt, cases_eq, lt-ltb, le-ltb}
use Rattle.std.proofs.lemmas.List.{ext_get_or}
use Rattle.std.proofs.lemmas.List.Edits.{length-remove, get_or-remove_below, get_or-remove_above}
use Rattle.om_signs.specs.declared.sign.Sign.{Sign}
use Rattle.om_signs.specs.declared.sign.Sign.TheVariants.{Zero}
use Rattle.om_signs.specs.SignVec.{at, at_element, IsInSupport, IsConformal}
use Rattle.om_signs.proofs.SignLaws.{zero_or_nonzero}
use Rattle.om_members.specs.Vectors.{HasSupportIn}
use Rattle.om_denotation.specs.Circuits.{HasNonzero}
use Rattle.om_denotation.specs.Compositions.{IsOfLeastSupport, HasConformingParts}
use Rattle.om_denotation.specs.Operations.{IsWithout, IsZeroWithout, IsDeletion, IsContraction}
use Rattle.om_denotation.proofs.ListFunctions.{at_place}

-- ---- places

-- the place in the whole list of place i of the list without place k
abbrev raised : ℕ → ℕ → ℕ
raised k i = cond (nat_lt i k) i (i + 1)

at-remove : (X : List Sign) (k i : ℕ) → k < length X → at (remove X k) i ≡ at X (raised k i)
at-remove X k i l = elim (cases_lt i k) [
  | inl lt ↦ rw (lt-ltb i k lt) (get_or-remove_below X k Zero i lt l)
  | inr ge ↦ rw (le-ltb i k ge) (get_or-remove_above X k Zero i ge l)
]

-- each place but k is one of the list without it
lowered : (k j : ℕ) → j ≢ k → (i : ℕ) × (raised k i ≡ j)
lowered k j n = elim (cases_lt j k) [
  | inl lt ↦ (j, rw (lt-ltb j k lt) refl)
  | inr ge ↦ let low : k ≤ j - 1 = omega arith in (j - 1, rw (le-ltb (j - 1) k low) (omega arith))
]

-- ---- supports

pub support_places : (X Y : List Sign) → HasSupportIn X Y → (i : ℕ) → at Y i ≡ Zero → at X i ≡ Zero
support_places X Y h i z = sym (at_place X i) ∙ h (suc i) (at_place Y i ∙ z)

pub support_through : (X Y Z : List Sign) → HasSupportIn X Y → HasSupportIn Y Z → HasSupportIn X Z
support_through X Y Z h k e z = h e (k e z)

conformal_support : (Y X : List Sign) → IsConformal Y X → HasSupportIn Y X
conformal_support Y X h e z = ⊎_elim (λ q. q) (λ n. absurd (n (h (e - 1) n ∙ z))) (zero_or_nonzero (at_element Y e))

-- a list that conforms to one with no more support is the same
conformal_same : (Y X : List Sign) → length X ≡ length Y → IsConformal Y X → HasSupportIn X Y → X ≡ Y
conformal_same Y X l h sub =
    ext_get_or Zero X Y l
    (λ i lt. ⊎_elim (λ z. support_places X Y sub i z ∙ sym z) (λ n. sym (h i n)) (zero_or_nonzero (at Y i)))

-- ---- without the place of e

module _ (n e : ℕ) (low : 1 ≤ e) (high : e ≤ n) where
  inside : (X : List Sign) → length X ≡ n → e - 1 < length X
  inside X l = omega (arith, l, low, high)

  pub shorter : (X : List Sign) → length X ≡ n → length (remove X (e - 1)) + 1 ≡ n
  shorter X l = length-remove X (e - 1) (inside X l) ∙ l

  -- n signs without the place of e are one sign fewer
  pub shorter_of : (X W : List Sign) → length W ≡ n → remove W (e - 1) ≡ X → length X + 1 ≡ n
  shorter_of X W l r = ap (λ V. length V + 1) (sym r) ∙ shorter W l

  support_removed : (X Y : List Sign) → length X ≡ n → length Y ≡ n → HasSupportIn X Y
      → HasSupportIn (remove X (e - 1)) (remove Y (e - 1))
  support_removed X Y lx ly h f z =
      at-remove X (e - 1) (f - 1) (inside X lx)
      ∙ support_places X Y h (raised (e - 1) (f - 1)) (sym (at-remove Y (e - 1) (f - 1) (inside Y ly)) ∙ z)

  support_restored : (X Y : List Sign) → length X ≡ n → length Y ≡ n → at_element X e ≡ Zero
      → HasSupportIn (remove X (e - 1)) (remove Y (e - 1)) → HasSupportIn X Y
  support_restored X Y lx ly gone h f z = elim (cases_eq (f - 1) (e - 1)) [
    | inl q ↦ ap (at X) q ∙ gone
    | inr other ↦
        let i = lowered (e - 1) (f - 1) other in
        ap (at X) (sym i.1) ∙ sym (at-remove X (e - 1) i.0 (inside X lx))
        ∙ support_places (remove X (e - 1)) (remove Y (e - 1)) h i.0
        (at-remove Y (e - 1) i.0 (inside Y ly) ∙ ap (at Y) i.1 ∙ z)
  ]

  nonzero_removed : (X : List Sign) → length X ≡ n → at_element X e ≡ Zero → HasNonzero X
      → HasNonzero (remove X (e - 1))
  nonzero_removed X l gone (j, k) =
      let i = lowered (e - 1) j (λ q. k (ap (at X) q ∙ gone)) in
      (i.0, λ z. k (ap (at X) (sym i.1) ∙ sym (at-remove X (e - 1) i.0 (inside X l)) ∙ z))

  nonzero_restored : (X : List Sign) → length X ≡ n → HasNonzero (remove X (e - 1)) → HasNonzero X
  nonzero_restored X l (i, k) = (raised (e - 1) i, λ z. k (at-remove X (e - 1) i (inside X l) ∙ z))

  conformal_removed : (Y X : List Sign) → length Y ≡ n → length X ≡ n → IsConformal Y X
      → IsConformal (remove Y (e - 1)) (remove X (e - 1))
  conformal_removed Y X ly lx h i k =
      at-remove Y (e - 1) i (inside Y ly) ∙ h (raised (e - 1) i) (λ z. k (at-remove Y (e - 1) i (inside Y ly) ∙ z))
      ∙ sym (at-remove X (e - 1) i (inside X lx))

  pub without_within : (P Q : List Sign → Type 0) → ((X : List Sign) → P X → Q X) → (X : List Sign) → IsWithout n e P X
      → IsWithout n e Q X
  without_within P Q h X (W, l, p, r) = (W, l, h W p, r)

  pub zero_without_within : (P Q : List Sign → Type 0) → ((X : List Sign) → P X → Q X) → (X : List Sign)
      → IsZeroWithout n e P X → IsZeroWithout n e Q X
  zero_without_within P Q h X (W, l, p, z, r) = (W, l, h W p, z, r)

  -- ---- members of least support

  module _ (P Q : List Sign → Type 0) (size : (X : List Sign) → P X → length X ≡ n)
      (sizes : (X : List Sign) → Q X → length X + 1 ≡ n) where
    module _ (contraction : IsContraction n e P Q) where
      -- a member of least support of the contraction comes from one of the whole
      from_least : (X W : List Sign) → IsOfLeastSupport Q X → length W ≡ n → P W → at_element W e ≡ Zero
          → remove W (e - 1) ≡ X → IsOfLeastSupport P W
      from_least X W x lw w z r = record {
        member = w;
        nonzero = nonzero_restored W lw (subst HasNonzero (sym r) x.nonzero);
        least = λ Y y k sub.
            let ly = size Y y in
            let gone = sub e z in
            let part = (contraction (remove Y (e - 1)) (shorter Y ly)).1 (Y, ly, y, gone, refl) in
            let back = x.least (remove Y (e - 1)) part (nonzero_removed Y ly gone k)
            (subst (HasSupportIn (remove Y (e - 1))) r (support_removed Y W ly lw sub)) in
            support_restored W Y lw ly z (subst (λ V. HasSupportIn V (remove Y (e - 1))) (sym r) back);
      }

      to_least : (X W : List Sign) → IsOfLeastSupport P W → length W ≡ n → at_element W e ≡ Zero → remove W (e - 1) ≡ X
          → IsOfLeastSupport Q X
      to_least X W w lw z r = record {
        member = (contraction X (shorter_of X W lw r)).1 (W, lw, w.member, z, r);
        nonzero = subst HasNonzero r (nonzero_removed W lw z w.nonzero);
        least = λ Y y k sub. of_other Y k sub ((contraction Y (sizes Y y)).0 y);
      }
        where
          of_other : (Y : List Sign) → HasNonzero Y → HasSupportIn Y X → IsZeroWithout n e P Y → HasSupportIn X Y
          of_other Y k sub (V, lv, v, gone, s) =
              let inner : HasSupportIn (remove V (e - 1)) (remove W (e - 1)) =
              subst (HasSupportIn (remove V (e - 1))) (sym r) (subst (λ U. HasSupportIn U X) (sym s) sub) in
              let back = w.least V v (nonzero_restored V lv (subst HasNonzero (sym s) k))
              (support_restored V W lv lw gone inner) in
              subst (λ U. HasSupportIn U Y) r
              (subst (HasSupportIn (remove W (e - 1))) s (support_removed W V lw lv back))

      pub least_contracted : (X : List Sign) → IsOfLeastSupport Q X ↔ IsZeroWithout n e (IsOfLeastSupport P) X
      least_contracted X = (
        λ x. let w = (contraction X (sizes X x.member)).0 x.member in
            (w.0, w.1, from_least X w.0 x w.1 w.2 w.3 w.4, w.3, w.4),
        λ w. to_least X w.0 w.2 w.1 w.3 w.4,
      )

    module _ (deletion : IsDeletion n e P Q) (K : List Sign → Type 0) (within : (X : List Sign) → K X → P X)
        (parts : (X : List Sign) → P X → HasConformingParts K X) where
      member_of : (X : List Sign) → IsWithout n e K X → Q X
      member_of X (W, l, w, r) = (deletion X (shorter_of X W l r)).1 (W, l, within W w, r)

      -- a member of the deletion, at a place where it isn't zero, has the sign of a conforming part
      part_at : (X : List Sign) → Q X → (i : ℕ) → IsInSupport X i → (Y : List Sign) × IsWithout n e K Y
          × IsConformal Y X × IsInSupport Y i
      part_at X x i k = of_whole ((deletion X (sizes X x)).0 x)
        where
          of_whole : IsWithout n e P X → (Y : List Sign) × IsWithout n e K Y × IsConformal Y X × IsInSupport Y i
          of_whole (W, lw, w, r) =
              let sign : at X i ≡ at W (raised (e - 1) i) = ap (λ V. at V i) (sym r)
              ∙ at-remove W (e - 1) i (inside W lw) in
              let p = parts W w (raised (e - 1) i) (λ z. k (sign ∙ z)) in
              let ly = size p.0 (within p.0 p.1) in (
                remove p.0 (e - 1),
                (p.0, ly, p.1, refl),
                subst (IsConformal (remove p.0 (e - 1))) r (conformal_removed p.0 W ly lw p.2),
                λ z. k (sign ∙ sym p.3 ∙ sym (at-remove p.0 (e - 1) i (inside p.0 ly)) ∙ z),
              )

      of_parts : (X : List Sign) → IsOfLeastSupport Q X → IsOfLeastSupport (IsWithout n e K) X
      of_parts X x = by_part (part_at X x.member x.nonzero.0 x.nonzero.1)
        where
          by_part : (Y : List Sign) × IsWithout n e K Y × IsConformal Y X × IsInSupport Y x.nonzero.0
              → IsOfLeastSupport (IsWithout n e K) X
          by_part (Y, y, conformal, k) =
              let back = x.least Y (member_of Y y) (x.nonzero.0, k) (conformal_support Y X conformal) in
              let lx = sizes X x.member in
              let ly = sizes Y (member_of Y y) in
              let same = conformal_same Y X (omega (arith, lx, ly)) conformal back in
              record {
                member = subst (IsWithout n e K) (sym same) y;
                nonzero = x.nonzero;
                least =
                    λ Z z. x.least Z (member_of Z z);
              }

      of_members : (X : List Sign) → IsOfLeastSupport (IsWithout n e K) X → IsOfLeastSupport Q X
      of_members X x = record {
        member = member_of X x.member;
        nonzero = x.nonzero;
        least = λ Z z k sub. by_part Z sub k.0 (part_at Z z k.0 k.1);
      }
        where
          by_part : (Z : List Sign) → HasSupportIn Z X → (i : ℕ) → (Y : List Sign) × IsWithout n e K Y × IsConformal Y Z
              × IsInSupport Y i → HasSupportIn X Z
          by_part Z sub i (Y, y, conformal, k) =
              let part = conformal_support Y Z conformal in
              support_through X Y Z (x.least Y y (i, k) (support_through Y Z X part sub)) part

      pub least_deleted : (X : List Sign) → IsOfLeastSupport Q X ↔ IsOfLeastSupport (IsWithout n e K) X
      least_deleted X = (of_parts X, of_members X)
