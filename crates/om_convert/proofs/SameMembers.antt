-- Lists with the same vectors.
--
-- Main results: distinct vectors that are as many as those of another list, and all stand in it, are the same
-- (same_members, equal_numbers); what holds of all cocircuits or covectors of a chirotope holds of a list of the same
-- vectors (cocircuits_seen, covectors_seen).
use Rattle.std.specs.List.{Contains, list_any}
use Rattle.std.proofs.lemmas.List.{length-append}
use Rattle.std.proofs.lemmas.List.Elements.{Contains-push_cases}
use Rattle.std.proofs.lemmas.Bool.{cases_eq}
use Rattle.std.proofs.Common.{ℕ, Bool, true, false, ◌≡◌, ◌+◌, ◌<◌, ◌≤◌, ◌⊎◌, List, [], ◌∷◌, ◌++◌, length, get_or, refl}
use Rattle.std.proofs.Common.{sym, ap, subst, ◌∙◌, inl, inr, ⊎_elim, arith}
use Rattle.om_signs.specs.declared.sign.Sign.{Sign}
use Rattle.om_chirotope.specs.Map.{SignMap}
use Rattle.om_chirotope.specs.Chirotope.{IsChirotope}
use Rattle.om_members.specs.Listings.{AreDistinct}
use Rattle.om_members.specs.Scans.{AllBelow, nth}
use Rattle.om_members.proofs.ScanLaws.{nth_read, nth_contained}
use Rattle.om_circuits.specs.Axioms.{MeetsCircuitAxioms}
use Rattle.om_covectors.specs.Axioms.{MeetsCovectorAxioms}
use Rattle.om_denotation.specs.Circuits.{IsCocircuitOfChirotope}
use Rattle.om_denotation.specs.Covectors.{IsCovectorOfChirotope}
use Rattle.om_denotation.specs.Listings.{AreAllOf}
use Rattle.om_signs.specs.OrderLaws.{same_masks}
use Rattle.om_convert.specs.Gathering.{HaveTheSame}
use Rattle.om_convert.proofs.ChirotopeLaws.{cocircuits_lawful, covectors_lawful}
use Rattle.om_convert.proofs.CountingLaws.{distinct_few}
use Rattle.om_convert.proofs.GatheringLaws.{pushed_distinct}
use Rattle.om_convert.proofs.KeyLaws.{contained, not_contained}

-- a vector stands in a list, or it doesn't
is_listed : (xs : List (List Sign)) (X : List Sign) → Contains xs X ⊎ (Contains xs X → ⊥)
is_listed xs X = by_test (list_any (same_masks X) xs) refl
  where
    by_test : (b : Bool) → list_any (same_masks X) xs ≡ b → Contains xs X ⊎ (Contains xs X → ⊥)
    by_test true q = inl (contained xs X q)
    by_test false q = inr (not_contained xs X q)

pub equal_numbers : (xs ys : List (List Sign)) → AreDistinct xs → AreDistinct ys → HaveTheSame xs ys
    → length xs ≡ length ys
equal_numbers xs ys d e h =
    let a = distinct_few xs ys d (λ X c. (h X).0 c) in
    let b = distinct_few ys xs e (λ X c. (h X).1 c) in
    omega (arith, a, b)

-- as many distinct vectors as those of a list leave none of it out
none_left : (xs ys : List (List Sign)) (X : List Sign) → AreDistinct ys → length xs ≡ length ys
    → ((Z : List Sign) → Contains ys Z → Contains xs Z) → Contains xs X → (Contains ys X → ⊥) → ⊥
none_left xs ys X d q h x n =
    let few = distinct_few (ys ++ X ∷ []) xs (pushed_distinct ys X d n)
    (λ Z c. ⊎_elim (λ k. h Z k) (λ e. subst (Contains xs) e x) (Contains-push_cases ys X Z c)) in
    let l = length-append ys (X ∷ []) in
    absurd (omega arith)

pub same_members : (xs ys : List (List Sign)) → AreDistinct ys → length xs ≡ length ys
    → ((Z : List Sign) → Contains ys Z → Contains xs Z) → HaveTheSame xs ys
same_members xs ys d q h X = (λ c. ⊎_elim (λ k. k) (λ n. absurd (none_left xs ys X d q h c n)) (is_listed ys X), h X)

-- ---- the test of each vector

pub contained_more : (xs ys : List (List Sign)) (i : ℕ) (y : List Sign) → i < length ys → y ≡ get_or ys i y
    → AllBelow i (λ k. Contains xs (nth ys k)) → Contains xs y → AllBelow (i + 1) (λ k. Contains xs (nth ys k))
contained_more xs ys i y lt q old new k l = elim (cases_eq k i) [
  | inl e ↦ subst (Contains xs) (sym (ap (nth ys) e ∙ nth_read ys i y lt q)) new
  | inr ne ↦ old k (omega arith)
]

pub contained_all : (xs ys : List (List Sign)) (i : ℕ) → length ys ≤ i → AllBelow i (λ k. Contains xs (nth ys k))
    → (Z : List Sign) → Contains ys Z → Contains xs Z
contained_all xs ys i le all Z z = let l = z.1 in
    subst (Contains xs) (nth_contained ys Z z) (all z.0 (omega (arith, l, le)))

-- ---- lists of all vectors of a family

all_listed : (P : List Sign → Type 0) (made list : List (List Sign)) → AreAllOf P made → HaveTheSame made list
    → AreAllOf P list
all_listed P made list all same =
    record { sound = λ X x. all.sound X ((same X).1 x); complete = λ X x. (same X).0 (all.complete X x) }

module _ (m : SignMap) (c : IsChirotope m) (made list : List (List Sign)) where
  pub cocircuits_seen : AreAllOf (IsCocircuitOfChirotope m) made → HaveTheSame made list → MeetsCircuitAxioms list
  cocircuits_seen all same = cocircuits_lawful m c list (all_listed (IsCocircuitOfChirotope m) made list all same)

  pub covectors_seen : AreAllOf (IsCovectorOfChirotope m) made → HaveTheSame made list → MeetsCovectorAxioms list
  covectors_seen all same = covectors_lawful m list (all_listed (IsCovectorOfChirotope m) made list all same) c
