-- What fits a colouring, by masks.
--
-- Main results: what the masks of a colouring allow is what fits it (allowed_both); the families that the searches go
-- over are those of the painting lemma (fitting_circuits, fitting_cocircuits, first_fitting, none_fitting,
-- first_cofitting, not_unpainted).
use Rattle.std.proofs.Common.{ℕ, ◌≡◌, ◌≢◌, ◌+◌, ◌-◌, ◌<◌, ◌≤◌, ◌↔◌, List, length, get_or, refl, sym, subst, ◌∙◌, ⊎_elim}
use Rattle.std.proofs.Common.{arith}
use Rattle.std.specs.Prelude.{Option}
use Rattle.std.specs.Int.{bit_at}
use Rattle.om_signs.specs.declared.sign.Sign.{Sign}
use Rattle.om_signs.specs.declared.sign.Sign.TheVariants.{Minus, Zero, Plus}
use Rattle.om_signs.specs.SignVec.{at, at_element, IsMaskOf}
use Rattle.om_signs.proofs.SignLaws.{plus_nonzero, minus_nonzero}
use Rattle.om_laws.specs.Colours.{red, green, black, white, IsColoured}
use Rattle.om_laws.specs.Colours as laws
use Rattle.om_chirotope.specs.Map.{SignMap}
use Rattle.om_chirotope.specs.Chirotope.{IsChirotope}
use Rattle.om_denotation.specs.Circuits.{IsCircuitOfChirotope, IsCocircuitOfChirotope}
use Rattle.om_denotation.specs.Painting.{IsFittingCircuit, IsFittingCocircuit}
use Rattle.om_denotation.proofs.ChirotopeBridge.{circuit_length, cocircuit_length}
use Rattle.om_denotation.proofs.FamilyPaintings.{painting_one}
use Rattle.om_oriented.specs.declared.colour.Colour.{Colour}
use Rattle.om_oriented.specs.declared.colour.Colour.TheVariants.{Black}
use Rattle.om_paint.specs.Paintings.{shade, colouring, FitsCircuit, FitsCocircuit, IsFirst, IsFirstIfAny}
use Rattle.om_paint.specs.Classes.{IsAllowed}
use Rattle.om_paint.proofs.FirstVectors.{first_same}
use Rattle.om_paint.proofs.Masks.{inside}

-- ---- the masks of a colouring

pub circuit_zero : (c : laws.Colour) → laws.CircuitMay c Zero
circuit_zero red = λ e. cc
circuit_zero green = λ e. cc
circuit_zero black = tt
circuit_zero white = refl

pub cocircuit_zero : (c : laws.Colour) → laws.CocircuitMay c Zero
cocircuit_zero red = λ e. cc
cocircuit_zero green = λ e. cc
cocircuit_zero black = refl
cocircuit_zero white = tt

module _ (may : laws.Colour → Sign → Type 0) (zero_may : (c : laws.Colour) → may c Zero) (colours : List Colour)
    (plus minus : ℕ)
    (p : IsMaskOf (length colours) (λ i. may (shade (get_or colours i Black)) Plus) plus)
    (m : IsMaskOf (length colours) (λ i. may (shade (get_or colours i Black)) Minus) minus) (X : List Sign)
    (size : length X ≡ length colours) where
  allowed_sign : ((i : ℕ) → at X i ≡ Plus → bit_at plus i ≡ 1) → ((i : ℕ) → at X i ≡ Minus → bit_at minus i ≡ 1)
      → (i : ℕ) → i < length colours → (s : Sign) → at X i ≡ s → may (shade (get_or colours i Black)) s
  allowed_sign a b i lt Minus q = (m.holds i lt).0 (b i q)
  allowed_sign a b i lt Zero q = zero_may (shade (get_or colours i Black))
  allowed_sign a b i lt Plus q = (p.holds i lt).0 (a i q)

  sign_allowed : ((f : ℕ) → 1 ≤ f → f ≤ length colours → may (colouring colours f) (at_element X f)) → (s : Sign)
      → s ≢ Zero → (i : ℕ) → at X i ≡ s → (i < length colours) × may (shade (get_or colours i Black)) s
  sign_allowed h s n i q =
      let lt : i < length colours = subst (λ k. i < k) size (inside X i s n q) in
      let back : i + 1 - 1 ≡ i = omega arith in (
        lt,
        subst (may (shade (get_or colours i Black))) q
            (subst (λ j. may (shade (get_or colours j Black)) (at X j)) back
            (h (i + 1) (omega arith) (omega (arith, lt)))),
      )

  pub allowed_both : (e : ℕ) → IsAllowed plus minus e X
      ↔ ((at_element X e ≢ Zero) × ((f : ℕ) → 1 ≤ f → f ≤ length colours → may (colouring colours f) (at_element X f)))
  allowed_both e = (
    λ h. (h.0, λ f low high. allowed_sign h.1 h.2 (f - 1) (omega (arith, low, high)) (at_element X f) refl),
    λ h. (
      h.0,
      λ i q. let a = sign_allowed h.1 Plus plus_nonzero i q in (p.holds i a.0).1 a.1,
      λ i q. let a =
          sign_allowed h.1 Minus minus_nonzero i q in (m.holds i a.0).1 a.1,
    ),
  )

-- ---- the painting lemma

abbrev IsClassZero : ℕ → Type 0
IsClassZero i = i ≡ 0

module _ (m : SignMap) (colours : List Colour) (e : ℕ) (whole : length colours ≡ m.elements) where
  abbrev pub Circuits : List Sign → Type 0
  Circuits X = IsCircuitOfChirotope m X × FitsCircuit colours e X

  abbrev pub Cocircuits : List Sign → Type 0
  Cocircuits X = IsCocircuitOfChirotope m X × FitsCocircuit colours e X

  to_fitting : (X : List Sign) → Circuits X → IsFittingCircuit m (colouring colours) e X
  to_fitting X h =
      record { circuit = h.0; through = h.1.0; fits = λ f low high. h.1.1 f low (subst (λ n. f ≤ n) (sym whole) high) }

  from_fitting : (X : List Sign) → IsFittingCircuit m (colouring colours) e X → Circuits X
  from_fitting X h = (h.circuit, (h.through, λ f low high. h.fits f low (subst (λ n. f ≤ n) whole high)))

  to_cofitting : (X : List Sign) → Cocircuits X → IsFittingCocircuit m (colouring colours) e X
  to_cofitting X h =
      record {
        cocircuit = h.0;
        through = h.1.0;
        fits =
            λ f low high. h.1.1 f low (subst (λ n. f ≤ n) (sym whole) high);
      }

  from_cofitting : (X : List Sign) → IsFittingCocircuit m (colouring colours) e X → Cocircuits X
  from_cofitting X h = (h.cocircuit, (h.through, λ f low high. h.fits f low (subst (λ n. f ≤ n) whole high)))

  pub first_fitting : (X : List Sign) → IsFirst Circuits X → IsFirst (IsFittingCircuit m (colouring colours) e) X
  first_fitting X h = record { member = to_fitting X h.member; first = λ Y p l. h.first Y (from_fitting Y p) l }

  pub none_fitting : ((X : List Sign) → Circuits X → ⊥) → (X : List Sign) → IsFittingCircuit m (colouring colours) e X
      → ⊥
  none_fitting h X p = h X (from_fitting X p)

  pub first_cofitting : (X : List Sign) → IsFirst Cocircuits X → IsFirst (IsFittingCocircuit m (colouring colours) e) X
  first_cofitting X h = record { member = to_cofitting X h.member; first = λ Y p l. h.first Y (from_cofitting Y p) l }

  pub not_unpainted : IsChirotope m → 1 ≤ e → e ≤ m.elements → IsColoured (colouring colours e)
      → ((X : List Sign) → Circuits X → ⊥) → ((X : List Sign) → Cocircuits X → ⊥) → ⊥
  not_unpainted chirotope low high coloured c d =
      ⊎_elim (λ h. c h.0 (from_fitting h.0 h.1)) (λ h. d h.0 (from_cofitting h.0 h.1))
      (painting_one m chirotope (colouring colours) e (low, high) coloured)

  pub fitting_circuits : (Q : List Sign → Type 0)
      → ((X : List Sign) → length X ≡ length colours → Q X ↔ FitsCircuit colours e X)
      → (o : Option (List Sign)) → IsFirstIfAny (λ X. IsCircuitOfChirotope m X × (IsClassZero 0 × Q X)) o
      → IsFirstIfAny Circuits o
  fitting_circuits Q q o h = first_same (λ X. IsCircuitOfChirotope m X × (IsClassZero 0 × Q X)) Circuits
      (λ X a. (a.0, (q X (circuit_length m X a.0 ∙ sym whole)).0 a.1.1))
      (λ X a. (a.0, (refl, (q X (circuit_length m X a.0 ∙ sym whole)).1 a.1))) o h

  pub fitting_cocircuits : (Q : List Sign → Type 0)
      → ((X : List Sign) → length X ≡ length colours → Q X ↔ FitsCocircuit colours e X)
      → (o : Option (List Sign)) → IsFirstIfAny (λ X. IsCocircuitOfChirotope m X × (IsClassZero 0 × Q X)) o
      → IsFirstIfAny Cocircuits o
  fitting_cocircuits Q q o h = first_same (λ X. IsCocircuitOfChirotope m X × (IsClassZero 0 × Q X)) Cocircuits
      (λ X a. (a.0, (q X (cocircuit_length m X a.0 ∙ sym whole)).0 a.1.1))
      (λ X a. (a.0, (refl, (q X (cocircuit_length m X a.0 ∙ sym whole)).1 a.1))) o h
