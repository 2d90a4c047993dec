-- Lists that are gathered from the vectors of a list, one after the other.
--
-- Main definitions: AreGathered.
-- Main results: one vector more gives nothing new (gathered_kept) or something new (gathered_more), till all are read
-- (gathered_all); vectors that are the same without a place where they have the same sign are the same (same_restored),
-- so that of distinct vectors none is dropped twice (not_twice).
use Rattle.std.specs.Prelude.{ℕ, ◌≡◌, ◌⊎◌, ◌+◌, ◌-◌, ◌<◌, ◌≤◌, List, [], ◌∷◌, ◌++◌, length}
use Rattle.std.specs.List.{Contains, remove}
use Rattle.std.proofs.Common.{take, drop, get_or, sym, ◌∙◌, ap, subst, inl, inr, ⊎_elim, arith}
use Rattle.std.proofs.lemmas.Bool.{cases_lt, cases_eq}
use Rattle.std.proofs.lemmas.List.{length-append, length-take-le, take_all, take_more, get_or-take, ext_get_or}
use Rattle.std.proofs.lemmas.List.{take-append-drop}
use Rattle.std.proofs.lemmas.List.Edits.{length-remove, get_or-remove_below, get_or-remove_above}
use Rattle.std.proofs.lemmas.List.Elements.{All-contains, Contains-append_left, Contains-push, Contains-push_cases}
use Rattle.om_signs.specs.declared.sign.Sign.{Sign}
use Rattle.om_signs.specs.declared.sign.Sign.TheVariants.{Zero}
use Rattle.om_signs.specs.SignVec.{at, at_element}
use Rattle.om_members.specs.Listings.{AreDistinct}
use Rattle.om_denotation.specs.Listings.{AreAllOf}
use Rattle.om_convert.proofs.GatheringLaws.{pushed_distinct}
use Rattle.om_minors.specs.Dropped.{HavePlace}

-- what is related to some vector of a list
abbrev pub IsMade : (List Sign → List Sign → Type 0) → List (List Sign) → List Sign → Type 0
IsMade R vectors X = (W : List Sign) × Contains vectors W × R W X

-- what is related to some of the first k vectors, each once
pub record AreGathered (R : List Sign → List Sign → Type 0) (vectors list : List (List Sign)) (k : ℕ) : Type 0 where
  pub members : AreAllOf (IsMade R (take k vectors)) list
  pub distinct : AreDistinct list
  pub few : length list ≤ k

module _ (R : List Sign → List Sign → Type 0) (vectors : List (List Sign)) where
  module _ (k : ℕ) (x : List Sign) (lt : k < length vectors) (is : x ≡ get_or vectors k x) where
    one_more : take (k + 1) vectors ≡ take k vectors ++ x ∷ []
    one_more = take_more vectors k x lt ∙ ap (λ y. take k vectors ++ y ∷ []) (sym is)

    earlier : (X : List Sign) → IsMade R (take k vectors) X → IsMade R (take (k + 1) vectors) X
    earlier X (W, w, r) =
        (W, subst (λ l. Contains l W) (sym one_more) (Contains-append_left (take k vectors) (x ∷ []) W w), r)

    last : (X : List Sign) → R x X → IsMade R (take (k + 1) vectors) X
    last X r = (x, subst (λ l. Contains l x) (sym one_more) (Contains-push (take k vectors) x), r)

    either : (X : List Sign) → IsMade R (take (k + 1) vectors) X → IsMade R (take k vectors) X ⊎ R x X
    either X (W, w, r) = ⊎_elim (λ c. inl (W, c, r)) (λ q. inr (subst (λ V. R V X) (sym q) r))
        (Contains-push_cases (take k vectors) x W (subst (λ l. Contains l W) one_more w))

    pub gathered_kept : (list : List (List Sign)) → AreGathered R vectors list k
        → ((X : List Sign) → R x X → Contains list X) → AreGathered R vectors list (k + 1)
    gathered_kept list h there = record {
      members = record {
        sound = λ X c. earlier X (h.members.sound X c);
        complete = λ X m. ⊎_elim (λ o. h.members.complete X o) (λ r. there X r) (either X m);
      };
      distinct = h.distinct;
      few = let f = h.few in omega arith;
    }

    pub gathered_more : (list : List (List Sign)) (y : List Sign) → AreGathered R vectors list k → R x y
        → ((X : List Sign) → R x X → X ≡ y) → (Contains list y → ⊥) → AreGathered R vectors (list ++ y ∷ []) (k + 1)
    gathered_more list y h new only absent = record {
      members = record {
        sound = λ X c. ⊎_elim (λ o. earlier X (h.members.sound X o)) (λ q. last X (subst (R x) q new))
            (Contains-push_cases list y X c);
        complete = λ X m. ⊎_elim (λ o. Contains-append_left list (y ∷ []) X (h.members.complete X o))
            (λ r. subst (Contains (list ++ y ∷ [])) (sym (only X r)) (Contains-push list y)) (either X m);
      };
      distinct = pushed_distinct list y h.distinct absent;
      few = let f = h.few in let l = length-append list (y ∷ []) in omega arith;
    }

  pub gathered_all : (k : ℕ) (list : List (List Sign)) → length vectors ≤ k → AreGathered R vectors list k
      → AreAllOf (IsMade R vectors) list
  gathered_all k list le h = subst (λ vs. AreAllOf (IsMade R vs) list) (take_all k vectors le) h.members

-- ---- distinct vectors

pub same_restored : (X W : List Sign) (i : ℕ) → i < length X → i < length W → at X i ≡ at W i → remove X i ≡ remove W i
    → X ≡ W
same_restored X W i lx lw here q =
    let sx = length-remove X i lx in
    let sw = length-remove W i lw in
    let s = ap length q in
    ext_get_or Zero X W (omega arith) (λ k l. elim (cases_lt k i) [
      | inl before ↦ sym (get_or-remove_below X i Zero k before lx) ∙ ap (λ V. at V k) q
          ∙ get_or-remove_below W i Zero k before lw
      | inr ge ↦ elim (cases_eq k i) [
        | inl e ↦ ap (at X) e ∙ here ∙ ap (at W) (sym e)
        | inr n ↦
            let up : k - 1 + 1 ≡ k = omega arith in
            let late : i ≤ k - 1 = omega arith in
            ap (at X) (sym up) ∙ sym (get_or-remove_above X i Zero (k - 1) late lx) ∙ ap (λ V. at V (k - 1)) q
            ∙ get_or-remove_above W i Zero (k - 1) late lw ∙ ap (at W) up
      ]
    ])

-- a vector at a place of a list of distinct ones stands at none of the places before
pub not_before : (vectors : List (List Sign)) (k : ℕ) (x : List Sign) → k < length vectors → x ≡ get_or vectors k x
    → AreDistinct vectors → Contains (take k vectors) x → ⊥
not_before vectors k x lt is distinct (j, l, q) =
    let size = length-take-le k vectors (omega arith) in
    let before : j < k = omega arith in
    distinct j k x before lt (sym (get_or-take k vectors j x before) ∙ q ∙ is)

-- of distinct vectors that are zero at e none gives the same as one before it
pub not_twice : (e : ℕ) (vectors : List (List Sign)) (k : ℕ) (x : List Sign) → k < length vectors
    → x ≡ get_or vectors k x → AreDistinct vectors → 1 ≤ e → HavePlace e vectors
    → at_element x e ≡ Zero → (list : List (List Sign)) (y : List Sign) → y ≡ remove x (e - 1)
    → AreAllOf (IsMade (λ W X. (at_element W e ≡ Zero) × (remove W (e - 1) ≡ X)) (take k vectors)) list
    → Contains list y → ⊥
not_twice e vectors k x lt is distinct low places zero list y made all c = by_vector (all.sound y c)
  where
    long : (W : List Sign) → Contains vectors W → e - 1 < length W
    long W w = let h = All-contains (λ X. (e ≤ length X) × (2 ≤ length X)) vectors W places w in let l = h.0 in
        omega (arith, l, low)

    whole : (W : List Sign) → Contains (take k vectors) W → Contains vectors W
    whole W w = subst (λ l. Contains l W) (take-append-drop k vectors)
        (Contains-append_left (take k vectors) (drop k vectors) W w)

    by_vector : IsMade (λ W X. (at_element W e ≡ Zero) × (remove W (e - 1) ≡ X)) (take k vectors) y → ⊥
    by_vector (W, w, zr) =
        let same : W ≡ x = same_restored W x (e - 1) (long W (whole W w)) (long x (k, lt, sym is)) (zr.0 ∙ sym zero)
        (zr.1 ∙ made) in
        not_before vectors k x lt is distinct (subst (Contains (take k vectors)) same w)
