-- A list that meets the axioms of circuits, as a family of functions.
--
-- Main results: the family meets the axioms of circuits (circuit_axioms); a list whose function is listed is a member
-- (member_from_function).
use Rattle.std.specs.List.{Contains}
use Rattle.std.proofs.lemmas.List.Elements.{All-contains}
use Rattle.std.proofs.Common.{ℕ, zero, suc, ◌≡◌, List, length, refl, sym, ap, subst, ◌∙◌, inl, inr, ⊎_elim, arith}
use Rattle.om_signs.specs.declared.sign.Sign.{Sign}
use Rattle.om_signs.specs.declared.sign.Sign.TheVariants.{Minus, Zero, Plus}
use Rattle.om_signs.specs.Sign.{opposite}
use Rattle.om_signs.specs.SignVec.{at}
use Rattle.om_signs.proofs.SignLaws.{plus_or_minus, opposite_swap}
use Rattle.om_laws.specs.Signs.{IsNonzero}
use Rattle.om_laws.specs.Vectors.{SignVector, HasSupportIn, AreEqualUpToSign}
use Rattle.om_laws.specs.Vectors as vectors
use Rattle.om_laws.specs.Axioms.{CircuitAxioms, AreSeparatedAt, IsFromEither}
use Rattle.om_laws.specs.Families.{IsListed}
use Rattle.om_laws.specs.Bridge.{as_function}
use Rattle.om_laws.proofs.BridgeLaws.{as_function-negated}
use Rattle.om_members.specs.Vectors.{negated}
use Rattle.om_members.specs.Listings.{HaveLength}
use Rattle.om_circuits.specs.Vectors.{Eliminates}
use Rattle.om_circuits.specs.Axioms.{MeetsCircuitAxioms}
use Rattle.om_denotation.specs.Families.{as_functions}
use Rattle.om_denotation.proofs.ChirotopeBridge.{same_lists}
use Rattle.om_denotation.proofs.ListFunctions.{at_place, support_list}
use Rattle.om_denotation.proofs.FunctionLaws.{listed, unlisted, nonzero_element}

pub function_listed : (members : List (List Sign)) (X : List Sign) → Contains members X
    → IsListed (as_functions members) (as_function X)
function_listed members X m = listed members X (as_function X) m (λ e. refl)

pub member_from_function : (n : ℕ) (members : List (List Sign)) → HaveLength n members → (X : List Sign) → length X ≡ n
    → IsListed (as_functions members) (as_function X) → Contains members X
member_from_function n members lengths X l h =
    let u = unlisted members (as_function X) h in
    subst (Contains members)
    (same_lists n u.0 X (All-contains (λ Y. length Y ≡ n) members u.0 lengths u.1) l (λ e. sym (u.2 e))) u.1

-- ---- elimination

from_either : (X Y Z : List Sign) (e : ℕ) → Eliminates X Y e Z
    → IsFromEither (as_function X) (as_function Y) (as_function Z)
from_either X Y Z e z zero n = absurd (n refl)
from_either X Y Z e z (suc k) n = ⊎_elim
    (λ p. ⊎_elim (λ q. inl (p ∙ sym q ∙ at_place X k)) (λ q. inr (p ∙ sym q ∙ at_place Y k))
    (z.plus (suc k) (at_place Z k ∙ p)))
    (λ p. ⊎_elim (λ q. inl (p ∙ sym q ∙ at_place X k)) (λ q. inr (p ∙ sym q ∙ at_place Y k))
    (z.minus (suc k) (at_place Z k ∙ p)))
    (plus_or_minus (at Z k) n)

other_order : (X Y Z : SignVector) → IsFromEither Y X Z → IsFromEither X Y Z
other_order X Y Z h g n = ⊎_elim (λ q. inr q) (λ q. inl q) (h g n)

module _ (members : List (List Sign)) (axioms : MeetsCircuitAxioms members) where
  abbrev pub IsEliminated : List Sign → List Sign → ℕ → Type 0
  IsEliminated X Y e = (Z : SignVector) × IsListed (as_functions members) Z × (Z e ≡ Zero)
      × IsFromEither (as_function X) (as_function Y) Z

  -- where the first is plus and the second minus
  in_order : (X Y : List Sign) → Contains members X → Contains members Y
      → (((g : ℕ) → as_function X g ≡ opposite (as_function Y g)) → ⊥)
      → (i : ℕ) → at X i ≡ Plus → at Y i ≡ Minus → IsEliminated X Y (suc i)
  in_order X Y x y apart i p q =
      let z = axioms.elimination X Y x y (λ r. apart (λ g. ap (λ Z. as_function Z g) r ∙ as_function-negated Y g))
      (suc i) (omega arith)
      (record { plus = at_place X i ∙ p; minus = at_place Y i ∙ q }) in (
        as_function z.0,
        function_listed members z.0 z.1,
        sym (at_place z.0 i) ∙ z.2.zero,
        from_either X Y z.0 (suc i) z.2,
      )

  eliminate : (X Y : List Sign) → Contains members X → Contains members Y
      → (((g : ℕ) → as_function X g ≡ opposite (as_function Y g)) → ⊥)
      → (e : ℕ) → AreSeparatedAt (as_function X) (as_function Y) e → IsEliminated X Y e
  eliminate X Y x y apart zero s = absurd (s.0 refl)
  eliminate X Y x y apart (suc i) s = ⊎_elim
      (λ p. in_order X Y x y apart i p (opposite_swap (at X i) (at Y i) s.1 ∙ ap opposite p))
      (λ p. let z = in_order Y X y x (λ h. apart (λ g. opposite_swap (as_function Y g) (as_function X g) (h g))) i
      (opposite_swap (at X i) (at Y i) s.1 ∙ ap opposite p) p in
      (z.0, z.1, z.2, other_order (as_function X) (as_function Y) z.0 z.3))
      (plus_or_minus (at X i) s.0)

  same_up_to_sign : (f g : SignVector) → IsListed (as_functions members) f → IsListed (as_functions members) g
      → HasSupportIn f g → AreEqualUpToSign f g
  same_up_to_sign f g h k sub =
      let u = unlisted members f h in
      let v = unlisted members g k in
      ⊎_elim
      (λ q. inl (λ e. u.2 e ∙ ap (λ Z. as_function Z e) q ∙ sym (v.2 e)))
      (λ q. inr (λ e. u.2 e ∙ ap (λ Z. as_function Z e) q ∙ as_function-negated v.0 e ∙ ap opposite (sym (v.2 e))))
      (axioms.incomparable u.0 v.0 u.1 v.1
      (support_list u.0 v.0 (λ e n. subst IsNonzero (v.2 e) (sub e (subst IsNonzero (sym (u.2 e)) n)))))

  pub circuit_axioms : CircuitAxioms (IsListed (as_functions members))
  circuit_axioms = record {
    nonzero = λ f h. let u = unlisted members f h in let k = nonzero_element u.0 (axioms.no_zero u.0 u.1) in
        (k.0, subst IsNonzero (sym (u.2 k.0)) k.1);
    negation = λ f h. let u = unlisted members f h in
        listed members (negated u.0) (vectors.negated f) (axioms.symmetric u.0 u.1)
        (λ e. ap opposite (u.2 e) ∙ sym (as_function-negated u.0 e));
    incomparable = same_up_to_sign;
    elimination = λ f g h k apart e s. let u = unlisted members f h in let v = unlisted members g k in
        let z = eliminate u.0 v.0 u.1 v.1 (λ q. apart (λ d. u.2 d ∙ q d ∙ ap opposite (sym (v.2 d)))) e
        (subst IsNonzero (u.2 e) s.0, sym (u.2 e) ∙ s.1 ∙ ap opposite (v.2 e)) in
        (z.0, z.1, z.2, λ d n. ⊎_elim (λ q. inl (q ∙ sym (u.2 d))) (λ q. inr (q ∙ sym (v.2 d))) (z.3 d n));
  }
