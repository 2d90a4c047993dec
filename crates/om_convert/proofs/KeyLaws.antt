-- What an ordered set of sign vectors has.
--
-- Main results: what the set finds is in its list, and what it doesn't find is not (contained, is_found,
-- not_contained); what is inserted goes last, if it isn't there (new_key), and changes nothing else (old_key); so the
-- set has it then (inserted), and stays a set of members, if there is room or it was there (inserted_set).
use Rattle.std.specs.List.{Contains, list_any}
use Rattle.std.proofs.Common.{true, false, ◌≡◌, List, [], ◌∷◌, ◌++◌, if◌then◌else◌, get_or, refl, sym, ap, ◌∙◌}
use Rattle.std.proofs.Common.{true≢false, ◌<◌, length, subst, inl, inr, arith}
use Rattle.std.proofs.lemmas.Bool.{cases_Bool}
use Rattle.std.proofs.lemmas.List.{length-append}
use Rattle.std.proofs.lemmas.List.Folds.{list_any_at}
use Rattle.om_signs.specs.declared.sign.Sign.{Sign}
use Rattle.om_signs.specs.OrderLaws.{same_masks}
use Rattle.om_signs.specs.declared.limits.TheConstants.{MAX_MEMBERS}
use Rattle.om_denotation.proofs.Compositions.{same_vectors}
use Rattle.om_convert.specs.Gathering.{IsMemberSet, IsExtendedBy}
use Rattle.om_convert.proofs.GatheringLaws.{unchanged, pushed, pushed_distinct}
use Rattle.indexmap.specs.IndexSet.{insert_key}
use Rattle.indexmap.proofs.CallerLemmas.{Contains-list_any}

found : (X Y : List Sign) → same_masks X Y ≡ true → X ≡ Y
found X Y h = (same_vectors X Y (same_masks X Y) refl).0 h

masks_of_same : (X Y : List Sign) → X ≡ Y → same_masks X Y ≡ true
masks_of_same X Y q = (same_vectors X Y (same_masks X Y) refl).1 q

-- a vector that has the masks of some member of a list is in the list
pub contained : (keys : List (List Sign)) (X : List Sign) → list_any (same_masks X) keys ≡ true → Contains keys X
contained keys X h = Contains-list_any same_masks found keys X h

pub is_found : (keys : List (List Sign)) (X : List Sign) → Contains keys X → list_any (same_masks X) keys ≡ true
is_found keys X c = list_any_at (same_masks X) keys c.0 X c.1 (masks_of_same X (get_or keys c.0 X) (sym c.2))

-- a vector that has the masks of no member of a list isn't in the list
pub not_contained : (keys : List (List Sign)) (X : List Sign) → list_any (same_masks X) keys ≡ false → Contains keys X
    → ⊥
not_contained keys X h c = true≢false (sym (is_found keys X c) ∙ h)

-- a vector that isn't found goes last
pub new_key : (keys new : List (List Sign)) (X : List Sign) → list_any (same_masks X) keys ≡ false
    → new ≡ insert_key same_masks keys X → new ≡ keys ++ X ∷ []
new_key keys new X h q = q ∙ ap (λ b. if b then keys else keys ++ X ∷ []) h

-- one that is found is there once
pub old_key : (keys new : List (List Sign)) (X : List Sign) → list_any (same_masks X) keys ≡ true
    → new ≡ insert_key same_masks keys X → new ≡ keys
old_key keys new X h q = q ∙ ap (λ b. if b then keys else keys ++ X ∷ []) h

-- what is inserted is there, and nothing else has changed
pub inserted : (keys new : List (List Sign)) (X : List Sign) → new ≡ insert_key same_masks keys X
    → IsExtendedBy (λ Z. Z ≡ X) keys new
inserted keys new X q = elim (cases_Bool (list_any (same_masks X) keys)) [
  | inl there ↦
      subst (IsExtendedBy (λ Z. Z ≡ X) keys) (sym (old_key keys new X there q))
      (unchanged (λ Z. Z ≡ X) keys (λ Z e. subst (Contains keys) (sym e) (contained keys X there)))
  | inr absent ↦
      subst (IsExtendedBy (λ Z. Z ≡ X) keys) (sym (new_key keys new X absent q)) (pushed keys X)
]

-- a set of members stays one, if there is room for what is new
pub inserted_set : (keys new : List (List Sign)) (X : List Sign) → new ≡ insert_key same_masks keys X
    → (list_any (same_masks X) keys ≡ false → length keys < MAX_MEMBERS) → IsMemberSet keys → IsMemberSet new
inserted_set keys new X q room s = elim (cases_Bool (list_any (same_masks X) keys)) [
  | inl there ↦ subst IsMemberSet (sym (old_key keys new X there q)) s
  | inr absent ↦
      let l = length-append keys (X ∷ []) in
      let less = room absent in
      let whole : IsMemberSet (keys ++ X ∷ []) = record {
        distinct = pushed_distinct keys X s.distinct (not_contained keys X absent);
        few = omega (arith, l, less);
      } in
      subst IsMemberSet (sym (new_key keys new X absent q)) whole
]
