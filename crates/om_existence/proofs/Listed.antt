-- Lists of all members of a family of sign vectors.
--
-- Main results: listed_possible: a list of exactly the members of a family of vectors of n signs, each once, is
-- possible.
use Rattle.std.specs.Prelude.{ℕ, ◌≡◌, ◌<◌, ◌^◌, List, [], ◌∷◌, ◌++◌, length}
use Rattle.std.proofs.Common.{zero, suc, sym, ◌∙◌, ap, subst, inl, inr, arith}
use Rattle.std.proofs.lemmas.Bool.{cases_eq, cases_lt}
use Rattle.std.specs.List.{Contains}
use Rattle.std.proofs.lemmas.List.Elements.{Contains-append_left}
use Rattle.om_signs.specs.declared.sign.Sign.{Sign}
use Rattle.om_members.specs.Listings.{AreDistinct}
use Rattle.om_denotation.specs.Listings.{AreAllOf}
use Rattle.om_convert.proofs.GatheringLaws.{pushed, pushed_distinct}
use Rattle.om_oriented.proofs.PlaceLaws.{base_three-lt, same_place}
use Rattle.om_oriented.specs.Places.{base_three}
use Rattle.om_existence.specs.Possible.{IsPossible}
use Rattle.om_existence.proofs.Possible.{held, then, mapped, either_way}

-- the members of a family at the places below k, each once
record AreBelow (P : List Sign → Type 0) (k : ℕ) (members : List (List Sign)) : Type 0 where
  sound : (X : List Sign) → Contains members X → P X × (base_three X < k)
  complete : (X : List Sign) → P X → base_three X < k → Contains members X
  distinct : AreDistinct members

module _ (n : ℕ) (P : List Sign → Type 0) (long : (X : List Sign) → P X → length X ≡ n) where
  none_listed : AreBelow P 0 []
  none_listed = record {
    sound = λ X c. let l = c.1 in absurd (omega (arith, l));
    complete = λ X p l. absurd (omega (arith, l));
    distinct = λ i j d a b. absurd (omega (arith, a, b));
  }

  -- the member at place k, which is the only one there
  one_more : (k : ℕ) (members : List (List Sign)) (X : List Sign) → AreBelow P k members → P X → base_three X ≡ k
      → AreBelow P (suc k) (members ++ X ∷ [])
  one_more k members X h p at = record {
    sound = λ Y c. elim ((pushed members X).sound Y c) [
      | inl old ↦ let s = h.sound Y old in let l = s.1 in (s.0, omega (arith, l))
      | inr new ↦ (subst P (sym new) p, let e = ap base_three new in omega (arith, e, at))
    ];
    complete = λ Y q l. elim (cases_lt (base_three Y) k) [
      | inl less ↦ Contains-append_left members (X ∷ []) Y (h.complete Y q less)
      | inr most ↦
          (pushed members X).complete Y (same_place Y X (long Y q ∙ sym (long X p)) (omega (arith, l, most, at)))
    ];
    distinct = pushed_distinct members X h.distinct (λ c. let l = (h.sound X c).1 in omega (arith, l, at));
  }

  none_more : (k : ℕ) (members : List (List Sign)) → AreBelow P k members
      → ((X : List Sign) → P X → base_three X ≡ k → ⊥) → AreBelow P (suc k) members
  none_more k members h none = record {
    sound = λ Y c. let s = h.sound Y c in let l = s.1 in (s.0, omega (arith, l));
    complete = λ Y q l. elim (cases_eq (base_three Y) k) [
      | inl same ↦ absurd (none Y q same)
      | inr other ↦ h.complete Y q (grind (arith, l, other))
    ];
    distinct = h.distinct;
  }

  below_possible : (k : ℕ) → IsPossible ((members : List (List Sign)) × AreBelow P k members)
  below_possible zero = held ([], none_listed)
  below_possible (suc k) = then (below_possible k) (λ h. mapped (λ e. elim e [
    | inl m ↦ (h.0 ++ m.0 ∷ [], one_more k h.0 m.0 h.1 m.1.0 m.1.1)
    | inr none ↦ (h.0, none_more k h.0 h.1 (λ X p at. none (X, (p, at))))
  ]) (either_way ((X : List Sign) × (P X × (base_three X ≡ k)))))

  pub listed_possible : IsPossible ((members : List (List Sign)) × (AreAllOf P members × AreDistinct members))
  listed_possible = mapped (λ h. (
    h.0,
    (
      record {
        sound = λ X c. (h.1.sound X c).0;
        complete = λ X p. h.1.complete X p (subst (λ k. base_three X < 3 ^ k) (long X p) (base_three-lt X));
      },
      h.1.distinct,
    ),
  )) (below_possible (3 ^ n))
