-- A list that fails the axioms of circuits, or those of covectors, has a first violated instance.
--
-- Main results: circuits_refused, covectors_refused.
use Rattle.std.specs.Prelude.{ℕ, ◌≡◌, ◌+◌, ◌-◌, ◌≤◌, ◌≢◌, ◌⊎◌, List, length, refl}
use Rattle.std.proofs.Common.{sym, ◌∙◌, ap, subst, inl, inr, arith}
use Rattle.std.specs.List.{Contains}
use Rattle.std.proofs.lemmas.List.{get_or_past}
use Rattle.om_signs.specs.declared.sign.Sign.{Sign}
use Rattle.om_signs.specs.declared.sign.Sign.TheVariants.{Zero}
use Rattle.om_signs.specs.SignVec.{compose, at_element}
use Rattle.om_signs.proofs.SignLaws.{same_or_different}
use Rattle.om_members.specs.Positions.{IsPosition, member_at, IsBefore}
use Rattle.om_members.specs.Scans.{nth}
use Rattle.om_members.specs.Vectors.{negated, IsZero, HasSupportIn}
use Rattle.om_members.proofs.DecisionLaws.{IsDecided, not_false, decided_either, same_vector, each_place}
use Rattle.om_members.proofs.DecisionLaws.{some_member, is_contained}
use Rattle.om_members.proofs.ScanLaws.{nth_contained}
use Rattle.om_circuits.specs.declared.set_refused.SetRefused.{SetRefused}
use Rattle.om_circuits.specs.declared.set_refused.SetRefused.TheVariants as set
use Rattle.om_circuits.specs.Axioms.{MeetsCircuitAxioms, HasEliminator}
use Rattle.om_circuits.specs.Vectors.{IsOpposedAt}
use Rattle.om_circuits.specs.Instances.{IsNestedIn, HasNoEliminator, IsViolated, key, IsFirstViolated}
use Rattle.om_covectors.specs.declared.cov_refused.CovRefused.{CovRefused}
use Rattle.om_covectors.specs.declared.cov_refused.CovRefused.TheVariants as cov
use Rattle.om_covectors.specs.Axioms.{MeetsCovectorAxioms, HasZero, HasCovectorEliminator}
use Rattle.om_covectors.specs.Vectors.{IsSeparatedAt}
use Rattle.om_covectors.specs.Instances.{HasNoCovectorEliminator, IsViolatedCovectorAxiom, covector_key}
use Rattle.om_covectors.specs.Instances.{IsFirstViolatedCovectorAxiom}
use Rattle.om_circuits.proofs.DecisionLaws as circuits
use Rattle.om_covectors.proofs.DecisionLaws as covectors
use Rattle.om_existence.specs.Possible.{IsPossible}
use Rattle.om_existence.proofs.Possible.{then, mapped}
use Rattle.om_existence.proofs.Firsts.{IsFirst, first_key}

-- a member stands at a position
record StandsAt (members : List (List Sign)) (X : List Sign) : Type 0 where
  place : ℕ
  within : IsPosition members place
  is : member_at members place ≡ X

position_of : (members : List (List Sign)) (X : List Sign) → Contains members X → StandsAt members X
position_of members X h = record {
  place = h.0 + 1;
  within = (let l = h.1 in omega (arith, l), let l = h.1 in omega (arith, l));
  is = ap (nth members) back ∙ nth_contained members X h;
}
  where
    back : h.0 + 1 - 1 ≡ h.0
    back = omega arith

-- a vector is zero, or it isn't
zero_or_other : (Z : List Sign) → IsDecided (IsZero Z)
zero_or_other Z = each_place (length Z + 1) (λ f. at_element Z f ≡ Zero) (λ f. same_or_different (at_element Z f) Zero)
    (λ f ge. get_or_past Z (f - 1) Zero (omega arith))

-- ---- circuits

module _ (members : List (List Sign)) (none : (why : SetRefused) → IsViolated members why → ⊥) where
  no_zero : (X : List Sign) → Contains members X → IsZero X → ⊥
  no_zero X c zero = let p = position_of members X c in none (set.Zero p.place) (p.within, subst IsZero (sym p.is) zero)

  symmetric : (X : List Sign) → Contains members X → Contains members (negated X)
  symmetric X c = let p = position_of members X c in
      not_false _ (is_contained members (negated X))
      (λ no. none (set.NoNegative p.place) (p.within, subst (λ Y. Contains members (negated Y) → ⊥) (sym p.is) no))

  incomparable : (X Y : List Sign) → Contains members X → Contains members Y → HasSupportIn X Y → (X ≡ Y)
      ⊎ (X ≡ negated Y)
  incomparable X Y c d within =
      let p = position_of members X c in
      let q = position_of members Y d in
      not_false _ (decided_either _ _ (same_vector X Y) (same_vector X (negated Y)))
      (λ no. none (set.Nested p.place q.place) (
        p.within,
        q.within,
        subst (λ U. IsNestedIn U (member_at members q.place)) (sym p.is)
            (subst (λ V. IsNestedIn X V) (sym q.is)
            (record { within = within; other = λ e. no (inl e); not_negative = λ e. no (inr e) })),
      ))

  elimination : (X Y : List Sign) → Contains members X → Contains members Y → X ≢ negated Y → (e : ℕ) → 1 ≤ e
      → IsOpposedAt X Y e → HasEliminator members X Y e
  elimination X Y c d other e low opposed =
      let p = position_of members X c in
      let q = position_of members Y d in
      not_false _ (some_member members _ (circuits.eliminates X Y e))
      (λ no. none (set.NoElimination p.place q.place e) (
        p.within,
        q.within,
        subst (λ U. HasNoEliminator members U (member_at members q.place) e) (sym p.is)
            (subst (λ V. HasNoEliminator members X V e) (sym q.is)
            (record { element = low; not_negative = other; opposed = opposed; none = no })),
      ))

  -- where no instance is violated, the axioms are met
  circuits_met : MeetsCircuitAxioms members
  circuits_met =
      record { no_zero = no_zero; symmetric = symmetric; incomparable = incomparable; elimination = elimination }

-- the key of a violated instance
abbrev IsKeyOf : List (List Sign) → List ℕ → Type 0
IsKeyOf members k = (why : SetRefused) × (key why ≡ k) × IsViolated members why

key_short : (why : SetRefused) → length (key why) ≤ 4
key_short (set.Zero i) = omega arith
key_short (set.NoNegative i) = omega arith
key_short (set.Nested i j) = omega arith
key_short (set.NoElimination i j e) = omega arith

of_first_key : (members : List (List Sign)) (k : List ℕ) → IsFirst IsBefore (IsKeyOf members) k → (why : SetRefused)
    × IsFirstViolated members why
of_first_key members k f = (
  f.has.0,
  record {
    violated = f.has.2;
    first = λ other before violated. f.before (key other) (subst (λ u. IsBefore (key other) u) f.has.1 before)
        (other, refl, violated);
  },
)

pub circuits_refused : (members : List (List Sign)) → (MeetsCircuitAxioms members → ⊥)
    → IsPossible ((why : SetRefused) × IsFirstViolated members why)
circuits_refused members fails =
    then some
    (λ h. mapped (λ f. of_first_key members f.0 f.1)
    (first_key 4 (IsKeyOf members) (λ k g. subst (λ u. length u ≤ 4) g.1 (key_short g.0)) (key h.0) (h.0, refl, h.1)))
  where
    some : IsPossible ((why : SetRefused) × IsViolated members why)
    some none = fails (circuits_met members (λ why v. none (why, v)))

-- ---- covectors

module _ (members : List (List Sign)) (none : (why : CovRefused) → IsViolatedCovectorAxiom members why → ⊥) where
  has_zero : HasZero members
  has_zero = not_false _ (some_member members IsZero zero_or_other) (none cov.NoZero)

  covectors_symmetric : (X : List Sign) → Contains members X → Contains members (negated X)
  covectors_symmetric X c = let p = position_of members X c in
      not_false _ (is_contained members (negated X))
      (λ no. none (cov.NoNegative p.place) (p.within, subst (λ Y. Contains members (negated Y) → ⊥) (sym p.is) no))

  compositions : (X Y : List Sign) → Contains members X → Contains members Y → Contains members (compose X Y)
  compositions X Y c d =
      let p = position_of members X c in
      let q = position_of members Y d in
      not_false _ (is_contained members (compose X Y)) (λ no. none (cov.NoComposition p.place q.place) (
        p.within,
        q.within,
        subst (λ U. Contains members (compose U (member_at members q.place)) → ⊥) (sym p.is)
            (subst (λ V. Contains members (compose X V) → ⊥) (sym q.is) no),
      ))

  covector_elimination : (X Y : List Sign) → Contains members X → Contains members Y → (e : ℕ) → 1 ≤ e
      → IsSeparatedAt X Y e → HasCovectorEliminator members X Y e
  covector_elimination X Y c d e low separated =
      let p = position_of members X c in
      let q = position_of members Y d in
      not_false _ (some_member members _ (covectors.eliminates X Y e))
      (λ no. none (cov.NoElimination p.place q.place e) (
        p.within,
        q.within,
        subst (λ U. HasNoCovectorEliminator members U (member_at members q.place) e) (sym p.is)
            (subst (λ V. HasNoCovectorEliminator members X V e) (sym q.is)
            (record { element = low; separated = separated; none = no })),
      ))

  covectors_met : MeetsCovectorAxioms members
  covectors_met =
      record {
        zero = has_zero;
        symmetric = covectors_symmetric;
        compositions = compositions;
        elimination =
            covector_elimination;
      }

abbrev IsCovectorKeyOf : List (List Sign) → List ℕ → Type 0
IsCovectorKeyOf members k = (why : CovRefused) × (covector_key why ≡ k) × IsViolatedCovectorAxiom members why

covector_key_short : (why : CovRefused) → length (covector_key why) ≤ 4
covector_key_short cov.NoZero = omega arith
covector_key_short (cov.NoNegative i) = omega arith
covector_key_short (cov.NoComposition i j) = omega arith
covector_key_short (cov.NoElimination i j e) = omega arith

of_first_covector_key : (members : List (List Sign)) (k : List ℕ) → IsFirst IsBefore (IsCovectorKeyOf members) k
    → (why : CovRefused) × IsFirstViolatedCovectorAxiom members why
of_first_covector_key members k f = (
  f.has.0,
  record {
    violated = f.has.2;
    first = λ other before violated. f.before (covector_key other)
        (subst (λ u. IsBefore (covector_key other) u) f.has.1 before) (other, refl, violated);
  },
)

pub covectors_refused : (members : List (List Sign)) → (MeetsCovectorAxioms members → ⊥)
    → IsPossible ((why : CovRefused) × IsFirstViolatedCovectorAxiom members why)
covectors_refused members fails =
    then some
    (λ h. mapped (λ f. of_first_covector_key members f.0 f.1)
    (first_key 4 (IsCovectorKeyOf members) (λ k g. subst (λ u. length u ≤ 4) g.1 (covector_key_short g.0))
    (covector_key h.0) (h.0, refl, h.1)))
  where
    some : IsPossible ((why : CovRefused) × IsViolatedCovectorAxiom members why)
    some none = fails (covectors_met members (λ why v. none (why, v)))
