-- Compositions of sign vectors as lists of signs, and lists that are closed under them.
--
-- Main results: composed_more (a composition with one vector more behind it), closed_all (a list that holds zero, only
-- compositions of some vectors, and with each member its composition with each of them, holds exactly their
-- compositions).
-- Reference: Björner, Las Vergnas, Sturmfels, White and Ziegler, Oriented Matroids, chapter 3.
use Rattle.std.specs.List.{Contains}
use Rattle.std.proofs.lemmas.List.{length-replicate, length-append, get_or_append_left, get_or_default}
use Rattle.std.proofs.lemmas.Bool.{cases_lt}
use Rattle.std.proofs.lemmas.List.Elements.{All-contains, Contains-append_left}
use Rattle.std.proofs.Common.{ℕ, zero, suc, ◌≡◌, ◌+◌, ◌<◌, ◌≤◌, ◌⊎◌, List, [], ◌∷◌, length, replicate, get_or, refl}
use Rattle.std.proofs.Common.{sym, ap, subst, ◌∙◌, inl, inr, ⊎_elim, arith}
use Rattle.om_signs.specs.declared.sign.Sign.{Sign}
use Rattle.om_signs.specs.declared.sign.Sign.TheVariants.{Minus, Zero, Plus}
use Rattle.om_signs.specs.Sign.{first_nonzero}
use Rattle.om_signs.specs.SignVec.{compose}
use Rattle.om_signs.proofs.ListPlaces.{length-compose}
use Rattle.om_signs.proofs.SignLaws.{first_nonzero-zero}
use Rattle.om_signs.proofs.Contained.{none_contained}
use Rattle.om_members.specs.Listings.{HaveLength}
use Rattle.om_denotation.specs.Compositions.{IsCompositionOf, none, front}
use Rattle.om_denotation.specs.Listings.{AreAllOf}
use Rattle.om_convert.specs.declared.convert_error.ConvertError.{ConvertError}
use Rattle.om_convert.specs.Gathering.{IsOldOrAdded, IsExtendedBy, IsComposedWith}
use Rattle.om_convert.specs.Limits.{IsCause}
use Rattle.om_convert.proofs.CountingLaws.{cause_of_cause}

-- ---- compositions

first_assoc : (r s t : Sign) → first_nonzero r (first_nonzero s t) ≡ first_nonzero (first_nonzero r s) t
first_assoc Minus s t = refl
first_assoc Zero s t = refl
first_assoc Plus s t = refl

pub compose_assoc : (X Y Z : List Sign) → compose X (compose Y Z) ≡ compose (compose X Y) Z
compose_assoc [] Y Z = refl
compose_assoc (x ∷ xs) [] Z = refl
compose_assoc (x ∷ xs) (y ∷ ys) [] = refl
compose_assoc (x ∷ xs) (y ∷ ys) (z ∷ zs) = λ i. first_assoc x y z i ∷ compose_assoc xs ys zs i

compose_zero : (X : List Sign) (n : ℕ) → length X ≡ n → compose X (replicate n Zero) ≡ X
compose_zero [] zero l = refl
compose_zero [] (suc n) l = absurd (omega arith)
compose_zero (x ∷ xs) zero l = refl
compose_zero (x ∷ xs) (suc n) l = λ i. first_nonzero-zero x i ∷ compose_zero xs n (omega arith) i

zero_compose : (X : List Sign) (n : ℕ) → length X ≡ n → compose (replicate n Zero) X ≡ X
zero_compose [] zero l = refl
zero_compose [] (suc n) l = absurd (omega arith)
zero_compose (x ∷ xs) zero l = refl
zero_compose (x ∷ xs) (suc n) l = ap (λ ys. x ∷ ys) (zero_compose xs n (omega arith))

-- zero is a member, all members are compositions, and those below a place are done: their compositions with each vector
-- are members
pub record IsClosedBelow (n : ℕ) (Ys : List (List Sign)) (done : ℕ) (members : List (List Sign)) : Type 0 where
  pub within : done ≤ length members
  pub sound : (X : List Sign) → Contains members X → IsCompositionOf n (Contains Ys) X
  pub zero_member : Contains members (replicate n Zero)
  pub closed : (i : ℕ) → i < done → (Y : List Sign) → Contains Ys Y → Contains members (compose (get_or members i []) Y)

module _ (n : ℕ) (Ys : List (List Sign)) (lengths : HaveLength n Ys) where
  length_from : (Y : List Sign) → Contains Ys Y → length Y ≡ n
  length_from Y c = All-contains (λ Z. length Z ≡ n) Ys Y lengths c

  pub composition_length : (X : List Sign) → IsCompositionOf n (Contains Ys) X → length X ≡ n
  composition_length X none = length-replicate n Zero
  composition_length X (front Y Z y z) = let l = length_from Y y in
      length-compose Y Z (l ∙ sym (composition_length Z z)) ∙ l

  pub composed_more : (X Y : List Sign) → IsCompositionOf n (Contains Ys) X → Contains Ys Y
      → IsCompositionOf n (Contains Ys) (compose X Y)
  composed_more X Y none c =
      let l = length_from Y c in
      subst (IsCompositionOf n (Contains Ys)) (compose_zero Y n l ∙ sym (zero_compose Y n l))
      (front Y (replicate n Zero) c none)
  composed_more X Y (front Z W z w) c =
      subst (IsCompositionOf n (Contains Ys)) (compose_assoc Z W Y) (front Z (compose W Y) z (composed_more W Y w c))

  pub composed_with : (X Z : List Sign) → IsCompositionOf n (Contains Ys) X → IsComposedWith X Ys Z
      → IsCompositionOf n (Contains Ys) Z
  composed_with X Z h c = subst (IsCompositionOf n (Contains Ys)) (sym c.2) (composed_more X c.0 h c.1)

  -- ---- lists that are closed under composition

  pub closed_start : (members : List (List Sign)) → IsExtendedBy (λ X. X ≡ replicate n Zero) [] members
      → IsClosedBelow n Ys 0 members
  closed_start members h = record {
    within = omega arith;
    sound = λ X c. ⊎_elim (λ k. let l = k.1 in absurd (omega (arith, l)))
        (λ q. subst (IsCompositionOf n (Contains Ys)) (sym q) none) (h.sound X c);
    zero_member = h.complete (replicate n Zero) refl;
    closed = λ i l. absurd (omega arith);
  }

  pub closed_more : (done : ℕ) (old new : List (List Sign)) (X : List Sign) → done < length old → get_or old done [] ≡ X
      → IsClosedBelow n Ys done old → IsExtendedBy (IsComposedWith X Ys) old new → IsClosedBelow n Ys (done + 1) new
  closed_more done old new X lt at h k = record {
    within = longer;
    sound = λ Z c. ⊎_elim (λ o. h.sound Z o) (λ a. composed_with X Z (h.sound X here) a) (k.sound Z c);
    zero_member = kept (replicate n Zero) h.zero_member;
    closed = λ i l Y c. ⊎_elim (λ b. below i b Y c) (λ e. last i e Y c) (cases i l);
  }
    where
      longer : done + 1 ≤ length new
      longer = let e = ap length k.kept in let a = length-append old k.rest in omega arith

      here : Contains old X
      here = (done, lt, get_or_default old done X [] lt ∙ at)

      kept : (Z : List Sign) → Contains old Z → Contains new Z
      kept Z c = subst (λ l. Contains l Z) (sym k.kept) (Contains-append_left old k.rest Z c)

      cases : (i : ℕ) → i < done + 1 → (i < done) ⊎ (i ≡ done)
      cases i l = elim (cases_lt i done) [ inl lt ↦ inl lt | inr ge ↦ inr (omega arith) ]

      same_place : (i : ℕ) → i < length old → get_or new i [] ≡ get_or old i []
      same_place i l = ap (λ zs. get_or zs i []) k.kept ∙ get_or_append_left old k.rest [] i l

      below : (i : ℕ) → i < done → (Y : List Sign) → Contains Ys Y → Contains new (compose (get_or new i []) Y)
      below i l Y c = subst (λ Z. Contains new (compose Z Y)) (sym (same_place i (omega arith)))
          (kept _ (h.closed i l Y c))

      last : (i : ℕ) → i ≡ done → (Y : List Sign) → Contains Ys Y → Contains new (compose (get_or new i []) Y)
      last i e Y c =
          subst (λ Z. Contains new (compose Z Y)) (sym (same_place i (omega arith) ∙ ap (λ j. get_or old j []) e ∙ at))
          (k.complete (compose X Y) (Y, c, refl))

  module _ (members : List (List Sign)) (h : IsClosedBelow n Ys (length members) members) where
    closed_member : (X Y : List Sign) → Contains members X → Contains Ys Y → Contains members (compose X Y)
    closed_member X Y x y = subst (λ Z. Contains members (compose Z Y)) (get_or_default members x.0 [] X x.1 ∙ x.2)
        (h.closed x.0 x.1 Y y)

    closed_parts : (X Z : List Sign) → IsCompositionOf n (Contains Ys) Z → Contains members X → length X ≡ n
        → Contains members (compose X Z)
    closed_parts X Z none x l = subst (Contains members) (sym (compose_zero X n l)) x
    closed_parts X Z (front Y W y w) x l =
        subst (Contains members) (sym (compose_assoc X Y W))
        (closed_parts (compose X Y) W w (closed_member X Y x y) (length-compose X Y (l ∙ sym (length_from Y y)) ∙ l))

    pub closed_all : AreAllOf (IsCompositionOf n (Contains Ys)) members
    closed_all = record {
      sound = h.sound;
      complete = λ X c. subst (Contains members) (zero_compose X n (composition_length X c))
          (closed_parts (replicate n Zero) X c h.zero_member (length-replicate n Zero));
    }

  -- ---- why the compositions are not listed

  pub start_cause : (e : ConvertError) → IsCause (IsOldOrAdded [] (λ X. X ≡ replicate n Zero)) e
      → IsCause (IsCompositionOf n (Contains Ys)) e
  start_cause e c = cause_of_cause (IsOldOrAdded [] (λ X. X ≡ replicate n Zero)) (IsCompositionOf n (Contains Ys))
      (λ X a. ⊎_elim (λ k. absurd (none_contained X k)) (λ q. subst (IsCompositionOf n (Contains Ys)) (sym q) none) a) e
      c

  pub composed_cause : (done : ℕ) (old : List (List Sign)) (X : List Sign) → Contains old X
      → IsClosedBelow n Ys done old → (e : ConvertError) → IsCause (IsOldOrAdded old (IsComposedWith X Ys)) e
      → IsCause (IsCompositionOf n (Contains Ys)) e
  composed_cause done old X x h e c =
      cause_of_cause (IsOldOrAdded old (IsComposedWith X Ys)) (IsCompositionOf n (Contains Ys))
      (λ Z a. ⊎_elim (λ o. h.sound Z o) (λ b. composed_with X Z (h.sound X x) b) a) e c
