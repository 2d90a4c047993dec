-- Lists of distinct sign vectors that grow at their end.
--
-- Main results: what was added in two steps was added in one (extended_twice, cause_later); a vector more at the end
-- (pushed, full); when all of a family were added (gathered).
use Rattle.std.specs.List.{Contains}
use Rattle.std.proofs.lemmas.List.{append-nil, append_assoc, length-append, get_or_default}
use Rattle.std.proofs.lemmas.Bool.{cases_lt}
use Rattle.std.proofs.lemmas.List.Elements.{All-contains_itself, Contains-append_left, Contains-push}
use Rattle.std.proofs.lemmas.List.Elements.{Contains-push_cases, Contains-get_or}
use Rattle.std.proofs.lemmas.List.Quantifiers.{all_pairs_push}
use Rattle.std.proofs.Common.{ℕ, ◌≡◌, ◌≢◌, ◌+◌, ◌<◌, ◌≤◌, ◌⊎◌, get_or, map, List, [], ◌∷◌, ◌++◌, length, refl, sym, ap}
use Rattle.std.proofs.Common.{subst, ◌∙◌, inl, inr, ⊎_elim, arith}
use Rattle.om_signs.specs.declared.sign.Sign.{Sign}
use Rattle.om_signs.specs.declared.limits.TheConstants.{MAX_MEMBERS}
use Rattle.om_signs.specs.Sign.{opposite}
use Rattle.om_signs.specs.SignVec.{at, compose}
use Rattle.om_signs.proofs.ListPlaces.{at-map-opposite}
use Rattle.om_signs.proofs.SignLaws.{opposite_nonzero}
use Rattle.om_signs.proofs.Contained.{none_contained}
use Rattle.om_members.specs.Listings.{AreDistinct}
use Rattle.om_denotation.specs.Circuits.{HasNonzero}
use Rattle.om_denotation.specs.Listings.{AreAllOf, HasMoreThan}
use Rattle.om_convert.specs.declared.convert_error.ConvertError.{ConvertError}
use Rattle.om_convert.specs.Gathering.{IsOldOrAdded, IsExtendedBy, IsNonzeroUpToSign, IsComposedWith}
use Rattle.om_convert.specs.Limits.{IsCause}
use Rattle.om_convert.proofs.CountingLaws.{cause_of_cause}

-- ---- one vector

pub unchanged : (P : List Sign → Type 0) (old : List (List Sign)) → ((X : List Sign) → P X → Contains old X)
    → IsExtendedBy P old old
unchanged P old h = record { rest = []; kept = sym (append-nil old); sound = λ X c. inl c; complete = h }

-- a list with a vector put at its end is extended by this vector alone
pub pushed : (old : List (List Sign)) (X : List Sign) → IsExtendedBy (λ Z. Z ≡ X) old (old ++ X ∷ [])
pushed old X = record {
  rest = X ∷ [];
  kept = refl;
  sound = λ Z c. ⊎_elim (λ k. inl k) (λ q. inr (sym q)) (Contains-push_cases old X Z c);
  complete = λ Z q. subst (Contains (old ++ X ∷ [])) (sym q) (Contains-push old X);
}

-- distinct vectors stay so with a new vector at their end
pub pushed_distinct : (old : List (List Sign)) (X : List Sign) → AreDistinct old → (Contains old X → ⊥)
    → AreDistinct (old ++ X ∷ [])
pushed_distinct old X d n =
    all_pairs_push (λ Y Z. Y ≢ Z) old X d (λ k e l q. n (subst (Contains old) q (Contains-get_or old k e l)))

pub full : (old : List (List Sign)) (X : List Sign) → AreDistinct old → (Contains old X → ⊥) → MAX_MEMBERS ≤ length old
    → HasMoreThan MAX_MEMBERS (IsOldOrAdded old (λ Z. Z ≡ X))
full old X d n l = record {
  members = old ++ X ∷ [];
  many = let e = length-append old (X ∷ []) in omega arith;
  distinct = pushed_distinct old X d n;
  each = λ k e m. ⊎_elim (λ c. inl c) (λ q. inr (sym q))
      (Contains-push_cases old X _ (All-contains_itself (old ++ X ∷ []) k e m));
}

-- ---- two steps

pub extended_twice : (P Q R : List Sign → Type 0) → ((X : List Sign) → P X → R X) → ((X : List Sign) → Q X → R X)
    → ((X : List Sign) → R X → P X ⊎ Q X)
    → (old mid new : List (List Sign)) → IsExtendedBy P old mid → IsExtendedBy Q mid new → IsExtendedBy R old new
extended_twice P Q R p q r old mid new h k = record {
  rest = h.rest ++ k.rest;
  kept = k.kept ∙ ap (λ l. l ++ k.rest) h.kept ∙ append_assoc old h.rest k.rest;
  sound = λ X c. ⊎_elim (λ m. ⊎_elim (λ o. inl o) (λ a. inr (p X a)) (h.sound X m)) (λ a. inr (q X a)) (k.sound X c);
  complete =
      λ X a. ⊎_elim (λ b. subst (λ l. Contains l X) (sym k.kept) (Contains-append_left mid k.rest X (h.complete X b)))
      (λ b. k.complete X b) (r X a);
}

pub extended_same : (P R : List Sign → Type 0) → ((X : List Sign) → P X → R X) → ((X : List Sign) → R X → P X)
    → (old new : List (List Sign)) → IsExtendedBy P old new → IsExtendedBy R old new
extended_same P R p r old new h = record {
  rest = h.rest;
  kept = h.kept;
  sound = λ X c. ⊎_elim (λ o. inl o) (λ a. inr (p X a)) (h.sound X c);
  complete = λ X a. h.complete X (r X a);
}

-- the cause of a later step is one of all steps
pub cause_later : (P Q R : List Sign → Type 0) → ((X : List Sign) → P X → R X) → ((X : List Sign) → Q X → R X)
    → (old mid : List (List Sign)) (e : ConvertError) → IsExtendedBy P old mid → IsCause (IsOldOrAdded mid Q) e
    → IsCause (IsOldOrAdded old R) e
cause_later P Q R p q old mid e h c = cause_of_cause (IsOldOrAdded mid Q) (IsOldOrAdded old R)
    (λ X a. ⊎_elim (λ m. ⊎_elim (λ o. inl o) (λ b. inr (p X b)) (h.sound X m)) (λ b. inr (q X b)) a) e c

pub cause_first : (P R : List Sign → Type 0) → ((X : List Sign) → P X → R X)
    → (old : List (List Sign)) (e : ConvertError) → IsCause (IsOldOrAdded old P) e → IsCause (IsOldOrAdded old R) e
cause_first P R p old e c = cause_of_cause (IsOldOrAdded old P) (IsOldOrAdded old R)
    (λ X a. ⊎_elim (λ o. inl o) (λ b. inr (p X b)) a) e c

-- ---- a vector and its negative

nonzero_negative : (V : List Sign) → HasNonzero V → HasNonzero (map opposite V)
nonzero_negative V (i, n) = (i, λ e. opposite_nonzero (at V i) n (sym (at-map-opposite V i) ∙ e))

nonzero_of_signed : (V X : List Sign) → IsNonzeroUpToSign V X → HasNonzero V
nonzero_of_signed V X (n, inl q) = subst HasNonzero q n
nonzero_of_signed V X ((i, n), inr q) = (i, λ e. n (ap (λ Z. at Z i) q ∙ at-map-opposite V i ∙ ap opposite e))

itself : (V : List Sign) → HasNonzero V → (X : List Sign) → X ≡ V → IsNonzeroUpToSign V X
itself V n X q = (subst HasNonzero (sym q) n, inl q)

negative : (V : List Sign) → HasNonzero V → (X : List Sign) → X ≡ map opposite V → IsNonzeroUpToSign V X
negative V n X q = (subst HasNonzero (sym q) (nonzero_negative V n), inr q)

either_sign : (V X : List Sign) → IsNonzeroUpToSign V X → (X ≡ V) ⊎ (X ≡ map opposite V)
either_sign V X h = h.1

pub zero_added : (V : List Sign) (old : List (List Sign)) → (HasNonzero V → ⊥)
    → IsExtendedBy (IsNonzeroUpToSign V) old old
zero_added V old z = unchanged (IsNonzeroUpToSign V) old (λ X h. absurd (z (nonzero_of_signed V X h)))

pub signed_added : (V : List Sign) → HasNonzero V → (old mid new : List (List Sign)) → IsExtendedBy (λ X. X ≡ V) old mid
    → IsExtendedBy (λ X. X ≡ map opposite V) mid new → IsExtendedBy (IsNonzeroUpToSign V) old new
signed_added V n old mid new h k =
    extended_twice (λ X. X ≡ V) (λ X. X ≡ map opposite V) (IsNonzeroUpToSign V) (itself V n) (negative V n)
    (either_sign V) old mid new h k

pub signed_cause : (V : List Sign) → HasNonzero V → (old : List (List Sign)) (e : ConvertError)
    → IsCause (IsOldOrAdded old (λ X. X ≡ V)) e → IsCause (IsOldOrAdded old (IsNonzeroUpToSign V)) e
signed_cause V n old e c = cause_first (λ X. X ≡ V) (IsNonzeroUpToSign V) (itself V n) old e c

pub negative_cause : (V : List Sign) → HasNonzero V → (old mid : List (List Sign)) (e : ConvertError)
    → IsExtendedBy (λ X. X ≡ V) old mid → IsCause (IsOldOrAdded mid (λ X. X ≡ map opposite V)) e
    → IsCause (IsOldOrAdded old (IsNonzeroUpToSign V)) e
negative_cause V n old mid e h c =
    cause_later (λ X. X ≡ V) (λ X. X ≡ map opposite V) (IsNonzeroUpToSign V) (itself V n) (negative V n) old mid e h c

-- ---- all of a family

pub none_gathered : (P : List Sign → Type 0) → ((X : List Sign) → P X → ⊥) → AreAllOf P []
none_gathered P h = record { sound = λ X c. absurd (none_contained X c); complete = λ X a. absurd (h X a) }

pub gathered : (P Q R : List Sign → Type 0) → ((X : List Sign) → P X → R X) → ((X : List Sign) → Q X → R X)
    → ((X : List Sign) → R X → P X ⊎ Q X)
    → (old new : List (List Sign)) → AreAllOf P old → IsExtendedBy Q old new → AreAllOf R new
gathered P Q R p q r old new h k = record {
  sound = λ X c. ⊎_elim (λ o. p X (h.sound X o)) (λ a. q X a) (k.sound X c);
  complete =
      λ X a. ⊎_elim (λ b. subst (λ l. Contains l X) (sym k.kept) (Contains-append_left old k.rest X (h.complete X b)))
      (λ b. k.complete X b) (r X a);
}

pub cause_gathered : (P Q R : List Sign → Type 0) → ((X : List Sign) → P X → R X) → ((X : List Sign) → Q X → R X)
    → (old : List (List Sign)) (e : ConvertError) → AreAllOf P old → IsCause (IsOldOrAdded old Q) e → IsCause R e
cause_gathered P Q R p q old e h c =
    cause_of_cause (IsOldOrAdded old Q) R (λ X a. ⊎_elim (λ o. p X (h.sound X o)) (λ b. q X b) a) e c

-- ---- compositions with the vectors of a list

-- the composition of a vector with one of the first k of a list
abbrev pub IsComposedBelow : List Sign → List (List Sign) → ℕ → List Sign → Type 0
IsComposedBelow X Ys k Z = (i : ℕ) × (i < k) × (i < length Ys) × (Z ≡ compose X (get_or Ys i []))

-- those that are composed so far were added, and two vectors are members
pub record AreComposedBelow (X : List Sign) (Ys : List (List Sign)) (k : ℕ) (old new : List (List Sign))
    (before last : List Sign) : Type 0 where
  pub added : IsExtendedBy (IsComposedBelow X Ys k) old new
  pub first : Contains new before
  pub second : Contains new last

-- a member stays one
pub still_member : (P : List Sign → Type 0) (old new : List (List Sign)) (X : List Sign) → IsExtendedBy P old new
    → Contains old X → Contains new X
still_member P old new X h c = subst (λ l. Contains l X) (sym h.kept) (Contains-append_left old h.rest X c)

pub none_composed : (X : List Sign) (Ys : List (List Sign)) (old : List (List Sign))
    → IsExtendedBy (IsComposedBelow X Ys 0) old old
none_composed X Ys old = unchanged (IsComposedBelow X Ys 0) old (λ Z h. let l = h.1 in absurd (omega (arith, l)))

contained_at : (Ys : List (List Sign)) (i : ℕ) (Y : List Sign) → i < length Ys → get_or Ys i [] ≡ Y → Contains Ys Y
contained_at Ys i Y l q = (i, l, get_or_default Ys i Y [] l ∙ q)

composed_within : (X : List Sign) (Ys : List (List Sign)) (k : ℕ) (Z : List Sign) → IsComposedBelow X Ys k Z
    → IsComposedWith X Ys Z
composed_within X Ys k Z (i, l, m, q) = (get_or Ys i [], contained_at Ys i (get_or Ys i []) m refl, q)

module _ (X : List Sign) (Ys : List (List Sign)) (k : ℕ) (Y : List Sign) (lt : k < length Ys)
    (at : get_or Ys k [] ≡ Y) where
  earlier : (Z : List Sign) → IsComposedBelow X Ys k Z → IsComposedBelow X Ys (k + 1) Z
  earlier Z h = (h.0, (let l = h.1 in omega (arith, l)), h.2, h.3)

  last : (Z : List Sign) → Z ≡ compose X Y → IsComposedBelow X Ys (k + 1) Z
  last Z q = (k, omega arith, lt, q ∙ ap (compose X) (sym at))

  either : (Z : List Sign) → IsComposedBelow X Ys (k + 1) Z → IsComposedBelow X Ys k Z ⊎ (Z ≡ compose X Y)
  either Z (i, l, m, q) = elim (cases_lt i k) [
    | inl b ↦ inl (i, b, m, q)
    | inr ge ↦ let e : i ≡ k = omega (arith, l, ge) in
        inr (q ∙ ap (λ j. compose X (get_or Ys j [])) e ∙ ap (compose X) at)
  ]

  pub composed_below_more : (old mid new : List (List Sign)) → IsExtendedBy (IsComposedBelow X Ys k) old mid
      → IsExtendedBy (λ Z. Z ≡ compose X Y) mid new → IsExtendedBy (IsComposedBelow X Ys (k + 1)) old new
  composed_below_more old mid new h g =
      extended_twice (IsComposedBelow X Ys k) (λ Z. Z ≡ compose X Y) (IsComposedBelow X Ys (k + 1)) earlier last either
      old mid new h g

  pub composed_below_cause : (old mid : List (List Sign)) (e : ConvertError)
      → IsExtendedBy (IsComposedBelow X Ys k) old mid → IsCause (IsOldOrAdded mid (λ Z. Z ≡ compose X Y)) e
      → IsCause (IsOldOrAdded old (IsComposedWith X Ys)) e
  composed_below_cause old mid e h c = cause_later (IsComposedBelow X Ys k) (λ Z. Z ≡ compose X Y) (IsComposedWith X Ys)
      (composed_within X Ys k) (λ Z q. (Y, contained_at Ys k Y lt at, q)) old mid e h c

pub composed_below_all : (X : List Sign) (Ys : List (List Sign)) (old new : List (List Sign))
    → IsExtendedBy (IsComposedBelow X Ys (length Ys)) old new → IsExtendedBy (IsComposedWith X Ys) old new
composed_below_all X Ys old new h =
    extended_same (IsComposedBelow X Ys (length Ys)) (IsComposedWith X Ys) (composed_within X Ys (length Ys))
    (λ Z c. (c.1.0, c.1.1, c.1.1, c.2 ∙ ap (compose X) (sym (get_or_default Ys c.1.0 [] c.0 c.1.1 ∙ c.1.2)))) old new h
