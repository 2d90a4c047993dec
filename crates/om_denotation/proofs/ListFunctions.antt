-- Lists of signs and their functions from elements to signs.
--
-- Main definitions: AreFunctionsOf, the functions of the one family are those of the other.
-- Main results: the sign of a list at an element is that of its function (at_place, place_function); supports of lists
-- are those of functions (support_function, support_list); lists whose functions are equal up to sign are so
-- (up_to_sign, negative_list); what separates or eliminates as a function does so as a list (opposed, separated,
-- eliminates, eliminates_from_composition).
use Rattle.std.proofs.Common.{ℕ, zero, suc, ◌≡◌, ◌-◌, ◌≤◌, ◌⊎◌, List, length, map, replicate, refl, sym, ap, ◌∙◌, inl}
use Rattle.std.proofs.Common.{inr, ⊎_elim, arith}
use Rattle.std.proofs.lemmas.List.{length-map}
use Rattle.om_signs.specs.declared.sign.Sign.{Sign}
use Rattle.om_signs.specs.declared.sign.Sign.TheVariants.{Minus, Zero, Plus}
use Rattle.om_signs.specs.Sign.{opposite}
use Rattle.om_signs.specs.SignVec.{at, at_element}
use Rattle.om_signs.proofs.SignLaws.{zero_or_nonzero, plus_nonzero, minus_nonzero, product_minus_if_opposite}
use Rattle.om_signs.proofs.SignLaws.{opposite_if_product_minus, left_nonzero}
use Rattle.om_signs.proofs.ListPlaces.{at-replicate}
use Rattle.om_members.specs.Vectors.{negated, HasSupportIn}
use Rattle.om_circuits.specs.Vectors.{IsOpposedAt, Eliminates}
use Rattle.om_covectors.specs.Vectors.{IsSeparatedAt, EliminatesFromComposition}
use Rattle.om_laws.specs.Signs.{IsNonzero}
use Rattle.om_laws.specs.Vectors.{SignVector, zero_vector, composition, AreEqualUpToSign}
use Rattle.om_laws.specs.Vectors as vectors
use Rattle.om_laws.specs.Axioms.{AreSeparatedAt, IsFromEither}
use Rattle.om_laws.specs.Bridge.{as_function}
use Rattle.om_laws.proofs.BridgeLaws.{as_function-negated, as_function-compose}
use Rattle.om_denotation.specs.Circuits.{IsUpToSign}
use Rattle.om_denotation.proofs.ChirotopeBridge.{same_lists}

-- the functions of the lists of P, which have n signs, are those of D
pub record AreFunctionsOf (n : ℕ) (P : List Sign → Type 0) (D : SignVector → Type 0) : Type 0 where
  pub size : (X : List Sign) → P X → length X ≡ n
  pub function : (X : List Sign) → P X → D (as_function X)
  pub list : (Z : SignVector) → D Z → (X : List Sign) × P X × ((e : ℕ) → Z e ≡ as_function X e)

-- ---- signs at elements

-- the sign at element i + 1 is the sign at place i
pub at_place : (X : List Sign) (i : ℕ) → at_element X (suc i) ≡ at X i
at_place X i = let e : suc i - 1 ≡ i = omega arith in ap (at X) e

-- the sign of a list at an element is the value of its function
pub place_function : (X : List Sign) (e : ℕ) → 1 ≤ e → at_element X e ≡ as_function X e
place_function X zero low = absurd (omega arith)
place_function X (suc i) low = at_place X i

pub zero_is_list : (n : ℕ) (e : ℕ) → as_function (replicate n Zero) e ≡ zero_vector e
zero_is_list n zero = refl
zero_is_list n (suc i) = at-replicate n i

-- ---- supports

pub support_function : (X Y : List Sign) → HasSupportIn X Y → vectors.HasSupportIn (as_function X) (as_function Y)
support_function X Y h zero n = n
support_function X Y h (suc i) n = λ z. n (sym (at_place X i) ∙ h (suc i) (at_place Y i ∙ z))

pub support_list : (X Y : List Sign) → vectors.HasSupportIn (as_function X) (as_function Y) → HasSupportIn X Y
support_list X Y s e z = ⊎_elim (λ q. q) (λ n. absurd (s (suc (e - 1)) n z)) (zero_or_nonzero (at_element X e))

-- ---- up to sign

pub negative_list : (n : ℕ) (X Y : List Sign) → length X ≡ n → length Y ≡ n
    → ((e : ℕ) → as_function X e ≡ opposite (as_function Y e)) → X ≡ negated Y
negative_list n X Y l k q = same_lists n X (map opposite Y) l (length-map Y opposite ∙ k)
    (λ e. q e ∙ sym (as_function-negated Y e))

pub up_to_sign : (n : ℕ) (X Y : List Sign) → length X ≡ n → length Y ≡ n
    → AreEqualUpToSign (as_function X) (as_function Y) → IsUpToSign X Y
up_to_sign n X Y l k (inl q) = inl (same_lists n X Y l k q)
up_to_sign n X Y l k (inr q) = inr (negative_list n X Y l k q)

-- ---- separation

pub opposed : (X Y : List Sign) (e : ℕ) → IsOpposedAt X Y e
    → AreSeparatedAt (as_function X) (as_function Y) (suc (e - 1))
opposed X Y e o = (λ z. plus_nonzero (sym o.plus ∙ z), o.plus ∙ sym (ap opposite o.minus))

pub separated : (X Y : List Sign) (e : ℕ) → IsSeparatedAt X Y e
    → AreSeparatedAt (as_function X) (as_function Y) (suc (e - 1))
separated X Y e s = (
  left_nonzero (at_element X e) (at_element Y e) Minus s minus_nonzero,
  opposite_if_product_minus (at_element X e) (at_element Y e) s,
)

-- ---- elimination

-- a list whose function eliminates
pub eliminates : (X Y : List Sign) (e : ℕ) (Z : SignVector) (W : List Sign) → Z (suc (e - 1)) ≡ Zero
    → IsFromEither (as_function X) (as_function Y) Z → ((g : ℕ) → Z g ≡ as_function W g) → Eliminates X Y e W
eliminates X Y e Z W gone either q = record {
  zero = sym (q (suc (e - 1))) ∙ gone;
  plus = λ f p. from f Plus plus_nonzero p;
  minus = λ f p. from f Minus minus_nonzero p;
}
  where
    from : (f : ℕ) (s : Sign) → IsNonzero s → at_element W f ≡ s → (at_element X f ≡ s) ⊎ (at_element Y f ≡ s)
    from f s n p =
        let v : Z (suc (f - 1)) ≡ s = q (suc (f - 1)) ∙ p in
        ⊎_elim (λ r. inl (sym r ∙ v)) (λ r. inr (sym r ∙ v)) (either (suc (f - 1)) (λ z. n (sym v ∙ z)))

-- a list whose function eliminates from the composition
pub eliminates_from_composition : (X Y : List Sign) (e : ℕ) (Z : SignVector) (W : List Sign) → Z (suc (e - 1)) ≡ Zero
    → ((g : ℕ) → (AreSeparatedAt (as_function X) (as_function Y) g → ⊥)
    → Z g ≡ composition (as_function X) (as_function Y) g) → ((g : ℕ) → Z g ≡ as_function W g)
    → EliminatesFromComposition X Y e W
eliminates_from_composition X Y e Z W gone outside q = record {
  zero = sym (q (suc (e - 1))) ∙ gone;
  outside = λ f apart. sym (q (suc (f - 1)))
      ∙ outside (suc (f - 1)) (λ s. apart (product_minus_if_opposite (at_element X f) (at_element Y f) s.0 s.1))
      ∙ sym (as_function-compose X Y (suc (f - 1)));
}
