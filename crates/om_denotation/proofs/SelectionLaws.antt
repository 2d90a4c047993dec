-- The selection of those of a list with a property.
--
-- Main results: the selected are the members with the property (those_contained, contained_those); they are no more
-- than the members (those_few), distinct where the members are (those_distinct), and have what all members have
-- (those_all).
use Rattle.std.specs.List.{Contains, All, AllPairs}
use Rattle.std.proofs.lemmas.List.Elements.{All-contains, All-contains_itself}
use Rattle.std.proofs.lemmas.List.Kept.{AllPairs-cons}
use Rattle.std.proofs.Common.{suc, ◌≢◌, ◌≤◌, List, [], ◌∷◌, length, sym, ap, subst, inl, inr}
use Rattle.std.proofs.Common.{⊎_elim, arith}
use Rattle.om_signs.specs.declared.sign.Sign.{Sign}
use Rattle.om_signs.proofs.Contained.{none_contained, contains_first, contains_later, first_or_later}
use Rattle.om_covectors.specs.Minimality.{AreThose}

-- ---- those with a property

module _ (P : List Sign → Type 0) where
  -- a selected vector is a member and has the property
  pub those_contained : (xs ys : List (List Sign)) → AreThose P xs ys → (X : List Sign) → Contains ys X → Contains xs X
      × P X
  those_contained [] ys h X m = absurd (none_contained X (subst (λ l. Contains l X) h m))
  those_contained (Z ∷ xs) ys (inl h) X m = ⊎_elim
      (λ q. (subst (Contains (Z ∷ xs)) q (contains_first Z xs), subst P q h.0))
      (λ k. let r = those_contained xs h.1 h.3 X k in (contains_later Z xs X r.0, r.1))
      (first_or_later Z h.1 X (subst (λ l. Contains l X) h.2 m))
  those_contained (Z ∷ xs) ys (inr h) X m = let r = those_contained xs ys h.1 X m in (contains_later Z xs X r.0, r.1)

  -- a member with the property is selected
  pub contained_those : (xs ys : List (List Sign)) → AreThose P xs ys → (X : List Sign) → Contains xs X → P X
      → Contains ys X
  contained_those [] ys h X m p = absurd (none_contained X m)
  contained_those (Z ∷ xs) ys (inl h) X m p = subst (λ l. Contains l X) (sym h.2) (⊎_elim
      (λ q. subst (Contains (Z ∷ h.1)) q (contains_first Z h.1))
      (λ k. contains_later Z h.1 X (contained_those xs h.1 h.3 X k p))
      (first_or_later Z xs X m))
  contained_those (Z ∷ xs) ys (inr h) X m p = ⊎_elim
      (λ q. absurd (h.0 (subst P (sym q) p)))
      (λ k. contained_those xs ys h.1 X k p)
      (first_or_later Z xs X m)

  -- no more are selected than there are members
  pub those_few : (xs ys : List (List Sign)) → AreThose P xs ys → length ys ≤ length xs
  those_few [] ys h = let e = ap length h in omega arith
  those_few (Z ∷ xs) ys (inl h) = let e = ap length h.2 in let r = those_few xs h.1 h.3 in omega arith
  those_few (Z ∷ xs) ys (inr h) = let r = those_few xs ys h.1 in omega arith

  -- what holds of each member holds of each one that is selected
  pub those_all : (Q : List Sign → Type 0) (xs ys : List (List Sign)) → AreThose P xs ys → All Q xs → All Q ys
  those_all Q xs ys h all =
      λ k d l. All-contains Q xs _ all (those_contained xs ys h _ (All-contains_itself ys k d l)).0

  -- if the members are distinct, so are those that are selected
  pub those_distinct : (xs ys : List (List Sign)) → AreThose P xs ys → AllPairs (λ X Y. X ≢ Y) xs
      → AllPairs (λ X Y. X ≢ Y) ys
  those_distinct [] ys h d = subst (AllPairs (λ X Y. X ≢ Y)) (sym h) d
  those_distinct (Z ∷ xs) ys (inl h) d = subst (AllPairs (λ X Y. X ≢ Y)) (sym h.2) (AllPairs-cons (λ X Y. X ≢ Y) Z h.1
      (those_all (λ Y. Z ≢ Y) xs h.1 h.3 (λ k e l. d 0 (suc k) e (omega arith) (omega arith)))
      (those_distinct xs h.1 h.3 (λ i j e l m. d (suc i) (suc j) e (omega arith) (omega arith))))
  those_distinct (Z ∷ xs) ys (inr h) d =
      those_distinct xs ys h.1 (λ i j e l m. d (suc i) (suc j) e (omega arith) (omega arith))
