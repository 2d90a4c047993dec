-- The composition of the members that conform to a vector.
--
-- Main definitions: IsComposition
-- Main results: a conforming member may be composed (one_more), and another left out (passed); the composition of all
-- conforming members is the vector exactly where each sign of its support is that of a conforming member (composed_is).
use Rattle.std.specs.Prelude.{ℕ, ◌≡◌, ◌+◌, ◌<◌, ◌≤◌, ◌↔◌, ◌⊎◌, List, length, Bool, IsTrue}
use Rattle.std.specs.List.{Contains}
use Rattle.std.proofs.Common.{sym, ◌∙◌, ap, subst, arith, inl, inr}
use Rattle.std.proofs.lemmas.Bool.{cases_eq}
use Rattle.std.proofs.lemmas.List.{ext_get_or}
use Rattle.om_signs.specs.declared.sign.Sign.{Sign}
use Rattle.om_signs.specs.declared.sign.Sign.TheVariants.{Zero}
use Rattle.om_signs.specs.Sign.{first_nonzero}
use Rattle.om_signs.specs.SignVec.{at, compose, IsInSupport, IsConformal}
use Rattle.std.specs.Cmp.{tied_itself, Equal-is}
use Rattle.std.specs.Ordering.{is_eq}
use Rattle.om_signs.specs.Order.{lexicographic}
use Rattle.om_signs.specs.OrderLaws.{lexicographic-total, same_from_order, same_masks, matches_eq}
use Rattle.om_signs.proofs.ListPlaces.{at-compose, length-compose}
use Rattle.om_signs.proofs.SignLaws.{zero_or_nonzero, first_nonzero_left}
use Rattle.om_members.specs.Scans.{nth}
use Rattle.om_members.proofs.ScanLaws.{nth_contained}
use Rattle.om_denotation.specs.Covectors.{HasConformingMember}

-- Z is the composition of those of the first k members that conform to X
pub record IsComposition (members : List (List Sign)) (X : List Sign) (k : ℕ) (Z : List Sign) : Type 0 where
  pub size : length Z ≡ length X
  pub conformal : IsConformal Z X
  pub member : (i : ℕ) → IsInSupport Z i → HasConformingMember members X i
  pub all : (j i : ℕ) → j < k → IsConformal (nth members j) X → IsInSupport (nth members j) i → IsInSupport Z i

module _ (members : List (List Sign)) (X : List Sign) (k : ℕ) (Z : List Sign) (h : IsComposition members X k Z) where
  -- a member that doesn't conform
  pub passed : (Y : List Sign) → Y ≡ nth members k → (IsConformal Y X → ⊥) → IsComposition members X (k + 1) Z
  passed Y e apart = record {
    size = h.size;
    conformal = h.conformal;
    member = h.member;
    all = λ j i lt conformal nonzero. elim (cases_eq j k) [
      | inl q ↦
          absurd (apart (subst (λ W. IsConformal W X) (sym e) (subst (λ a. IsConformal (nth members a) X) q conformal)))
      | inr n ↦ h.all j i (omega arith) conformal nonzero
    ];
  }

  -- a member that conforms
  module _ (Y : List Sign) (in_members : Contains members Y) (e : Y ≡ nth members k) (l : length Y ≡ length X)
      (conformal : IsConformal Y X) where
    sign_at : (i : ℕ) → at (compose Z Y) i ≡ first_nonzero (at Z i) (at Y i)
    sign_at i = at-compose Z Y i

    from_zero : (i : ℕ) → at Z i ≡ Zero → at (compose Z Y) i ≡ at Y i
    from_zero i z = sign_at i ∙ ap (λ s. first_nonzero s (at Y i)) z

    from_nonzero : (i : ℕ) → IsInSupport Z i → at (compose Z Y) i ≡ at Z i
    from_nonzero i nonzero = sign_at i ∙ first_nonzero_left (at Z i) (at Y i) nonzero

    nonzero_of_member : (i : ℕ) → at Z i ≡ Zero → IsInSupport (compose Z Y) i → IsInSupport Y i
    nonzero_of_member i z nonzero y = nonzero (from_zero i z ∙ y)

    same_sign : (i : ℕ) → (at Z i ≡ Zero) ⊎ IsInSupport Z i → IsInSupport (compose Z Y) i → at (compose Z Y) i ≡ at X i
    same_sign i (inl z) nonzero = from_zero i z ∙ conformal i (nonzero_of_member i z nonzero)
    same_sign i (inr n) nonzero = from_nonzero i n ∙ h.conformal i n

    with_member : (i : ℕ) → (at Z i ≡ Zero) ⊎ IsInSupport Z i → IsInSupport (compose Z Y) i
        → HasConformingMember members X i
    with_member i (inl z) nonzero = (Y, in_members, conformal, conformal i (nonzero_of_member i z nonzero))
    with_member i (inr n) nonzero = h.member i n

    still_nonzero : (i : ℕ) → IsInSupport Z i → IsInSupport (compose Z Y) i
    still_nonzero i nonzero z = nonzero (sym (from_nonzero i nonzero) ∙ z)

    now_nonzero : (i : ℕ) → (at Z i ≡ Zero) ⊎ IsInSupport Z i → IsInSupport Y i → IsInSupport (compose Z Y) i
    now_nonzero i (inl z) nonzero q = nonzero (sym (from_zero i z) ∙ q)
    now_nonzero i (inr n) nonzero z = still_nonzero i n z

    -- if the next member conforms to X, the composition goes on with this member behind Z
    pub one_more : (W : List Sign) → W ≡ compose Z Y → IsComposition members X (k + 1) W
    one_more W is = subst (IsComposition members X (k + 1)) (sym is) (record {
      size = length-compose Z Y (h.size ∙ sym l) ∙ h.size;
      conformal = λ i nonzero. same_sign i (zero_or_nonzero (at Z i)) nonzero;
      member = λ i nonzero. with_member i (zero_or_nonzero (at Z i)) nonzero;
      all = λ j i lt conformal nonzero. elim (cases_eq j k) [
        | inl q ↦
            now_nonzero i (zero_or_nonzero (at Z i))
            (subst (λ V. IsInSupport V i) (sym e) (subst (λ a. IsInSupport (nth members a) i) q nonzero))
        | inr n ↦ still_nonzero i (h.all j i (omega arith) conformal nonzero)
      ];
    })

-- the test of two vectors
pub same_vectors : (xs ys : List Sign) (r : Bool) → r ≡ same_masks xs ys → IsTrue r ↔ (xs ≡ ys)
same_vectors xs ys r e = (
  λ t. same_from_order xs ys ((Equal-is (lexicographic xs ys)).0 (sym (e ∙ matches_eq xs ys) ∙ t)),
  λ q. e ∙ matches_eq xs ys ∙ ap is_eq (ap (lexicographic xs) (sym q) ∙ tied_itself lexicographic-total xs),
)

-- all members are composed
pub composed_is : (members : List (List Sign)) (X Z : List Sign) (k : ℕ) (r : Bool) → length members ≤ k
    → IsComposition members X k Z → (IsTrue r ↔ (Z ≡ X)) → IsTrue r
    ↔ ((i : ℕ) → IsInSupport X i → HasConformingMember members X i)
composed_is members X Z k r few h f = (
  λ t i nonzero. h.member i (λ z. nonzero (sym (ap (λ W. at W i) (f.0 t)) ∙ z)),
  λ g. f.1 (ext_get_or Zero Z X h.size (λ i lt. same_at i (zero_or_nonzero (at Z i)) (zero_or_nonzero (at X i)) g)),
)
  where
    found : (i : ℕ) → IsInSupport X i → HasConformingMember members X i → IsInSupport Z i
    found i nonzero (Y, in_members, conformal, same) =
        let lt = in_members.1 in
        let here : Y ≡ nth members in_members.0 = sym (nth_contained members Y in_members) in
        h.all in_members.0 i (omega arith) (subst (λ W. IsConformal W X) here conformal)
        (subst (λ W. IsInSupport W i) here (λ z. nonzero (sym same ∙ z)))

    same_at : (i : ℕ) → (at Z i ≡ Zero) ⊎ IsInSupport Z i → (at X i ≡ Zero) ⊎ IsInSupport X i
        → ((a : ℕ) → IsInSupport X a → HasConformingMember members X a) → at Z i ≡ at X i
    same_at i (inr n) x g = h.conformal i n
    same_at i (inl z) (inl x) g = z ∙ sym x
    same_at i (inl z) (inr n) g = absurd (found i n (g i n) z)
