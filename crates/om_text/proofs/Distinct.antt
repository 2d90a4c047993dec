-- The distinct members of a list, member by member.
--
-- Main results: distinct-append, distinct-each, with_member_grows, with_each_grows, any_same_row,
-- member_tested
use Rattle.std.proofs.Common.{◌≡◌, ◌≤◌, List, [], ◌∷◌, ◌++◌, Bool, true, false, cond, not, ◌||◌, inl, inr}
use Rattle.std.proofs.Common.{length, refl, sym, ap, ◌∙◌, arith, length-append, append_assoc, append-nil}
use Rattle.std.specs.Prelude.{filter}
use Rattle.std.specs.Cmp.{both_ways, Equal-is}
use Rattle.std.specs.Ordering.{is_eq}
use Rattle.std.specs.List.{list_any}
use Rattle.std.proofs.lemmas.Bool.{cases_Bool}
use Rattle.om_signs.specs.declared.sign.Sign.{Sign}
use Rattle.om_signs.specs.Order.{lexicographic}
use Rattle.om_signs.specs.OrderLaws.{same_masks, matches_eq, same_from_order, order_of_same}
use Rattle.om_document.specs.Rows.{same_row, distinct}
use Rattle.om_document.proofs.SameRow.{same_row-Decides}
use Rattle.om_text.specs.Reading.{with_member, with_each}

-- the members other than y
abbrev others : List Sign → List (List Sign) → List (List Sign)
others y ms = filter (λ z. not (same_row y z)) ms

any_other : (x y : List Sign) (ms : List (List Sign)) → same_row y x ≡ false
    → list_any (λ z. same_row z x) (others y ms) ≡ list_any (λ z. same_row z x) ms
any_other x y [] n = refl
any_other x y (z ∷ zs) n = elim (cases_Bool (same_row y z)) [
  | inl e ↦ let q : y ≡ z = (same_row-Decides y z).0 e in
      let m : same_row z x ≡ false = rw (← q) n in
      rw (e, m) (any_other x y zs n)
  | inr e ↦ rw e (ap (λ b. same_row z x || b) (any_other x y zs n))
]

others-append : (y x : List Sign) (ms : List (List Sign)) → others y (ms ++ x ∷ []) ≡ others y ms ++ others y (x ∷ [])
others-append y x [] = refl
others-append y x (z ∷ zs) = elim (cases_Bool (same_row y z)) [
  | inl e ↦ rw e (others-append y x zs)
  | inr e ↦ rw e (ap (λ r. z ∷ r) (others-append y x zs))
]

others-with_same : (y x : List Sign) (ms : List (List Sign)) → same_row y x ≡ true
    → others y (with_member ms x) ≡ others y ms
others-with_same y x ms e = elim (cases_Bool (list_any (λ z. same_row z x) ms)) [
  | inl a ↦ rw a refl
  | inr a ↦ rw a (others-append y x ms ∙ ap (λ r. others y ms ++ r) gone ∙ append-nil (others y ms))
]
  where
    gone : others y (x ∷ []) ≡ []
    gone = rw e refl

others-with_other : (y x : List Sign) (ms : List (List Sign)) → same_row y x ≡ false
    → others y (with_member ms x) ≡ with_member (others y ms) x
others-with_other y x ms n = elim (cases_Bool (list_any (λ z. same_row z x) ms)) [
  | inl a ↦ rw (any_other x y ms n, a) refl
  | inr a ↦ rw (any_other x y ms n, a) (others-append y x ms ∙ ap (λ r. others y ms ++ r) kept)
]
  where
    kept : others y (x ∷ []) ≡ x ∷ []
    kept = rw n refl

-- a head in front of either choice
pull : (y x : List Sign) (b : Bool) (r : List (List Sign))
    → ◌≡◌ {A = List (List Sign)} (y ∷ cond b r (r ++ x ∷ [])) (cond b (y ∷ r) (y ∷ (r ++ x ∷ [])))
pull y x true r = refl
pull y x false r = refl

pub distinct-append : (xs : List (List Sign)) (x : List Sign) → distinct (xs ++ x ∷ []) ≡ with_member (distinct xs) x
distinct-append [] x = refl
distinct-append (y ∷ ys) x = ap (λ r. y ∷ others y r) (distinct-append ys x) ∙ elim (cases_Bool (same_row y x)) [
  | inl e ↦ rw e (ap (λ r. y ∷ r) (others-with_same y x (distinct ys) e))
  | inr n ↦
      rw n (ap (λ r. y ∷ r) (others-with_other y x (distinct ys) n)
      ∙ pull y x (list_any (λ z. same_row z x) (others y (distinct ys))) (others y (distinct ys)))
]

-- several members more
pub distinct-each : (xs ys : List (List Sign)) → distinct (xs ++ ys) ≡ with_each (distinct xs) ys
distinct-each xs [] = ap distinct (append-nil xs)
distinct-each xs (y ∷ ys) = ap distinct (sym (append_assoc xs (y ∷ []) ys)) ∙ distinct-each (xs ++ y ∷ []) ys
    ∙ ap (λ ms. with_each ms ys) (distinct-append xs y)

pub with_member_grows : (ms : List (List Sign)) (x : List Sign) → length ms ≤ length (with_member ms x)
with_member_grows ms x = elim (cases_Bool (list_any (λ z. same_row z x) ms)) [
  | inl a ↦ rw a (omega arith)
  | inr a ↦ rw a (omega (arith, length-append ms (x ∷ [])))
]

pub with_each_grows : (ms xs : List (List Sign)) → length ms ≤ length (with_each ms xs)
with_each_grows ms [] = omega arith
with_each_grows ms (x ∷ xs) = let a = with_member_grows ms x in let b = with_each_grows (with_member ms x) xs in
    omega arith

-- `==` of two sign vectors is the test of the definition
same_masks_row : (y x : List Sign) → same_masks y x ≡ same_row y x
same_masks_row y x = both_ways (same_masks y x) (same_row y x)
    (λ h. (same_row-Decides y x).1 (same_from_order y x ((Equal-is (lexicographic y x)).0 (sym (matches_eq y x) ∙ h))))
    (λ h. matches_eq y x ∙ ap is_eq (order_of_same y x ((same_row-Decides y x).0 h)))

-- and so `contains` says whether one of the members passes it
pub any_same_row : (x : List Sign) (ms : List (List Sign))
    → list_any (λ y. same_masks y x) ms ≡ list_any (λ y. same_row y x) ms
any_same_row x [] = refl
any_same_row x (y ∷ ys) = ap (λ b. b || list_any (λ y. same_masks y x) ys) (same_masks_row y x)
    ∙ ap (λ b. same_row y x || b) (any_same_row x ys)

-- the members with one more, after the test whether it is one of them
pub member_tested : (ms xs : List (List Sign)) (x : List Sign) (found : Bool)
    → found ≡ list_any (λ y. same_masks y x) xs → xs ≡ ms → with_member ms x ≡ cond found ms (ms ++ x ∷ [])
member_tested ms xs x found v s =
    ap (λ b. cond b ms (ms ++ x ∷ []))
    (sym (v ∙ ap (list_any (λ y. same_masks y x)) s ∙ any_same_row x ms))
