-- Acyclic chirotopes and their extreme elements.
--
-- Main results: the vector of pluses is orthogonal to a nonzero vector exactly where that has both signs, so that
-- acyclic chirotopes are those without a circuit without a minus (acyclic_both); the circuits and cocircuits that fit
-- where one element is green are those with it as their only minus place (first_circuit_at, first_cocircuit_at,
-- some_item, extreme_item, extreme_both).
use Rattle.std.proofs.Common.{ℕ, zero, suc, ◌≡◌, ◌≢◌, ◌+◌, ◌-◌, ◌<◌, ◌≤◌, ◌⊎◌, ◌↔◌, List, [], ◌∷◌, ◌++◌, length}
use Rattle.std.proofs.Common.{get_or, replicate, refl, sym, ap, subst, ◌∙◌, inl, inr, ⊎_elim, arith}
use Rattle.std.specs.Prelude.{Option, None}
use Rattle.std.proofs.lemmas.Bool.{cases_eq, eq-eqb, ne_eqb}
use Rattle.std.proofs.lemmas.List.{length-replicate, get_or-replicate, get_or_past, ext_get_or}
use Rattle.om_signs.specs.declared.sign.Sign.{Sign}
use Rattle.om_signs.specs.declared.sign.Sign.TheVariants.{Minus, Zero, Plus}
use Rattle.om_signs.specs.SignVec.{at, at_element, HasProduct}
use Rattle.om_members.specs.Vectors.{negated}
use Rattle.om_laws.specs.Colours.{red, green, IsColoured}
use Rattle.om_laws.specs.Colours as laws
use Rattle.om_chirotope.specs.Map.{SignMap}
use Rattle.om_chirotope.specs.Chirotope.{IsChirotope}
use Rattle.om_denotation.specs.Circuits.{IsCircuitOfChirotope, IsCocircuitOfChirotope}
use Rattle.om_denotation.specs.Covectors.{IsCovectorOfChirotope}
use Rattle.om_denotation.specs.Painting.{IsFittingCircuit, IsFittingCocircuit}
use Rattle.om_denotation.proofs.ChirotopeBridge.{circuit_length, cocircuit_length}
use Rattle.om_denotation.proofs.FamilyAxioms.{circuit_axioms}
use Rattle.om_denotation.proofs.FamilyLaws.{orthogonal_both}
use Rattle.om_denotation.proofs.FamilyPaintings.{painting_one, painting_both}
use Rattle.om_signs.specs.declared.limits.TheConstants.{MAX_ELEMENTS}
use Rattle.om_signs.proofs.ListPlaces.{at-map-opposite}
use Rattle.om_signs.proofs.SignLaws.{opposite_back, plus_or_minus, minus_or_not, right_nonzero, plus_nonzero}
use Rattle.om_signs.proofs.SignLaws.{minus_nonzero, product_plus_left}
use Rattle.om_paint.specs.declared.classes.TheConstants.{CLASSES}
use Rattle.om_oriented.specs.declared.painted.Painted.{Painted}
use Rattle.om_oriented.specs.declared.painted.Painted.TheVariants.{Circuit, Cocircuit}
use Rattle.om_paint.specs.Paintings.{HasNoMinus, IsFirstIfAny, IsPaintingOf}
use Rattle.om_paint.specs.Classes.{HasMinusAloneAt}
use Rattle.om_paint.specs.Hulls.{all_plus, IsPositiveCircuit, IsOnlyMinus, IsExtreme, green_alone, IsCocircuitItem}
use Rattle.om_paint.specs.Hulls.{EachItem}
use Rattle.om_paint.proofs.FirstVectors.{first_same}
use Rattle.om_paint.proofs.Firsts.{placed}
use Rattle.om_paint.proofs.Masks.{inside}

pub all_pluses : (n : ℕ) (x : List Sign) → length x ≡ n → ((k : ℕ) → k < n → at x k ≡ Plus) → x ≡ all_plus n
all_pluses n x l h = ext_get_or Zero x (replicate n Plus) (l ∙ sym (length-replicate n Plus)) (λ k lt.
    let few : k < n = omega (arith, lt, l) in
    h k few ∙ sym (get_or-replicate n k Plus Zero few))

-- ---- acyclic chirotopes

plus_at : (n i : ℕ) → i < n → at (all_plus n) i ≡ Plus
plus_at n i lt = get_or-replicate n i Plus Zero lt

-- a product with the vector of pluses is a sign of the vector
product_from : (n : ℕ) (X : List Sign) (s : Sign) → length X ≡ n → s ≢ Zero → HasProduct (all_plus n) X s → (i : ℕ)
    × (at X i ≡ s)
product_from n X s size not h =
    let lt = inside X h.0 (at X h.0) (right_nonzero (at (all_plus n) h.0) (at X h.0) s h.1 not) refl in
    (h.0, sym (product_plus_left (at (all_plus n) h.0) (at X h.0) (plus_at n h.0 (subst (λ k. h.0 < k) size lt))) ∙ h.1)

product_to : (n : ℕ) (X : List Sign) (s : Sign) → length X ≡ n → s ≢ Zero → (i : ℕ) → at X i ≡ s
    → HasProduct (all_plus n) X s
product_to n X s size not i e =
    (i, product_plus_left (at (all_plus n) i) (at X i) (plus_at n i (subst (λ k. i < k) size (inside X i s not e))) ∙ e)

some_minus : (X : List Sign) → ((i : ℕ) × (at X i ≡ Minus)) ⊎ HasNoMinus X
some_minus [] = inr (λ i e. let z = get_or_past [] i Zero (omega arith) in cc)
some_minus (x ∷ xs) = ⊎_elim
    (λ q. inl (0, q))
    (λ n. ⊎_elim
    (λ k. inl (suc k.0, k.1))
    (λ none. inr (both n none))
    (some_minus xs))
    (minus_or_not x)
  where
    both : (x ≢ Minus) → HasNoMinus xs → HasNoMinus (x ∷ xs)
    both n none zero e = n e
    both n none (suc i) e = none i e

green_at : (e f : ℕ) → f ≡ e → green_alone e f ≡ green
green_at e f q = rw (eq-eqb f e q) refl

red_at : (e f : ℕ) → f ≢ e → green_alone e f ≡ red
red_at e f n = rw (ne_eqb f e n) refl

-- ---- one minus or none

none_both : (X : List Sign) → HasMinusAloneAt 0 X ↔ HasNoMinus X
none_both X =
    (λ h i q. let z = (h i).0 q in omega (arith, z), λ h i. (λ q. absurd (h i q), λ z. absurd (omega (arith, z))))

alone_both : (n e : ℕ) (X : List Sign) → length X ≡ n → 1 ≤ e → e ≤ n → HasMinusAloneAt e X ↔ IsOnlyMinus n e X
alone_both n e X size low high = (
  λ h. ((h (e - 1)).1 (omega (arith, low)), λ f a b d q. let s = (h (f - 1)).0 q in d (omega (arith, a, s))),
  λ h i. (only h i, λ s. let back : e - 1 ≡ i = omega (arith, s) in ap (at X) (sym back) ∙ h.0),
)
  where
    only : IsOnlyMinus n e X → (i : ℕ) → at X i ≡ Minus → i + 1 ≡ e
    only h i q = elim (cases_eq (i + 1) e) [
      | inl s ↦ s
      | inr d ↦
          let lt = subst (λ k. i < k) size (inside X i Minus minus_nonzero q) in
          let back : i ≡ i + 1 - 1 = omega arith in
          absurd (h.1 (i + 1) (omega arith) (omega (arith, lt)) d (ap (at X) (sym back) ∙ q))
    ]

-- each element has a class
pub has_class : (n e : ℕ) → e ≤ n → n ≤ MAX_ELEMENTS → e < CLASSES
has_class n e high few = omega arith

module _ (m : SignMap) (chirotope : IsChirotope m) where
  size_of : (X : List Sign) → IsCircuitOfChirotope m X → length X ≡ m.elements
  size_of X c = circuit_length m X c

  -- a covector of pluses meets no circuit without a minus
  no_positive : IsCovectorOfChirotope m (all_plus m.elements) → (X : List Sign) → IsPositiveCircuit m X → ⊥
  no_positive v X (c, none) =
      let o = (orthogonal_both m chirotope (all_plus m.elements) (length-replicate m.elements Plus)).0 v X c in
      let i = c.nonzero in
      ⊎_elim
      (λ p. let q = product_from m.elements X Minus (size_of X c) minus_nonzero
      (o.0 (product_to m.elements X Plus (size_of X c) plus_nonzero i.0 p)) in none q.0 q.1)
      (λ q. none i.0 q)
      (plus_or_minus (at X i.0) i.1)

  minus_of : ((X : List Sign) → IsPositiveCircuit m X → ⊥) → (X : List Sign) → IsCircuitOfChirotope m X → (i : ℕ)
      × (at X i ≡ Minus)
  minus_of h X c = ⊎_elim (λ k. k) (λ none. absurd (h X (c, none))) (some_minus X)

  plus_of : ((X : List Sign) → IsPositiveCircuit m X → ⊥) → (X : List Sign) → IsCircuitOfChirotope m X → (i : ℕ)
      × (at X i ≡ Plus)
  plus_of h X c = let k = minus_of h (negated X) ((circuit_axioms m chirotope).symmetric X c) in
      (k.0, opposite_back (at X k.0) Minus (sym (at-map-opposite X k.0) ∙ k.1))

  covector_of_none : ((X : List Sign) → IsPositiveCircuit m X → ⊥) → IsCovectorOfChirotope m (all_plus m.elements)
  covector_of_none h = (orthogonal_both m chirotope (all_plus m.elements) (length-replicate m.elements Plus)).1 (λ X c.
      let p = plus_of h X c in
      let q = minus_of h X c in (
        λ t. product_to m.elements X Minus (size_of X c) minus_nonzero q.0 q.1,
        λ t. product_to m.elements X Plus (size_of X c) plus_nonzero p.0 p.1,
      ))

  -- of a chirotope, the vector of pluses is a covector exactly if each circuit has a minus
  pub acyclic_both : IsCovectorOfChirotope m (all_plus m.elements) ↔ ((X : List Sign) → IsPositiveCircuit m X → ⊥)
  acyclic_both = (no_positive, covector_of_none)

  -- ---- extreme elements

  only_minus : (e : ℕ) → 1 ≤ e → e ≤ m.elements → (X : List Sign) → IsFittingCircuit m (green_alone e) e X
      → IsOnlyMinus m.elements e X
  only_minus e low high X h = (
    ⊎_elim (λ p. absurd ((subst (λ k. laws.CircuitMay k (at_element X e)) (green_at e e refl) (h.fits e low high)) p))
        (λ q. q) (plus_or_minus (at_element X e) h.through),
    λ f a b n. subst (λ k. laws.CircuitMay k (at_element X f)) (red_at e f n) (h.fits f a b),
  )

  from_only_minus : (e : ℕ) → (X : List Sign) → IsCircuitOfChirotope m X → IsOnlyMinus m.elements e X
      → IsFittingCircuit m (green_alone e) e X
  from_only_minus e X c (q, others) = record {
    circuit = c;
    through = λ z. let s = sym q ∙ z in cc;
    fits = λ f a b. ⊎_elim
        (λ s. subst (λ k. laws.CircuitMay k (at_element X f)) (sym (green_at e f s))
        (subst (λ g. at_element X g ≢ Plus) (sym s) (λ p. let t = sym q ∙ p in cc)))
        (λ n. subst (λ k. laws.CircuitMay k (at_element X f)) (sym (red_at e f n)) (others f a b n))
        (cases_eq f e);
  }

  -- with e green and all others red, the painting at e is a cocircuit exactly if e is extreme
  pub extreme_item : (e : ℕ) → 1 ≤ e → e ≤ m.elements → (item : Painted) → IsPaintingOf m (green_alone e) e item
      → IsCocircuitItem item ↔ IsExtreme m e
  extreme_item e low high (Circuit X) h = (λ a. absurd a, λ k. k X h.member.circuit (only_minus e low high X h.member))
  extreme_item e low high (Cocircuit Y) h = (λ a X c o. h.0 X (from_only_minus e X c o), λ k. tt)

  only_minus_of_cocircuit : (e : ℕ) → 1 ≤ e → e ≤ m.elements → (Y : List Sign)
      → IsFittingCocircuit m (green_alone e) e Y → IsOnlyMinus m.elements e Y
  only_minus_of_cocircuit e low high Y h = (
    ⊎_elim (λ p. absurd ((subst (λ k. laws.CocircuitMay k (at_element Y e)) (green_at e e refl) (h.fits e low high)) p))
        (λ q. q) (plus_or_minus (at_element Y e) h.through),
    λ f a b n. subst (λ k. laws.CocircuitMay k (at_element Y f)) (red_at e f n) (h.fits f a b),
  )

  cocircuit_from_only_minus : (e : ℕ) → (Y : List Sign) → IsCocircuitOfChirotope m Y → IsOnlyMinus m.elements e Y
      → IsFittingCocircuit m (green_alone e) e Y
  cocircuit_from_only_minus e Y c (q, others) = record {
    cocircuit = c;
    through = λ z. let s = sym q ∙ z in cc;
    fits = λ f a b. ⊎_elim
        (λ s. subst (λ k. laws.CocircuitMay k (at_element Y f)) (sym (green_at e f s))
        (subst (λ g. at_element Y g ≢ Plus) (sym s) (λ p. let t = sym q ∙ p in cc)))
        (λ n. subst (λ k. laws.CocircuitMay k (at_element Y f)) (sym (red_at e f n)) (others f a b n))
        (cases_eq f e);
  }

  coloured_alone : (e : ℕ) → IsColoured (green_alone e e)
  coloured_alone e = subst IsColoured (sym (green_at e e refl)) tt

  pub extreme_both : (e : ℕ) → 1 ≤ e → e ≤ m.elements → IsExtreme m e
      ↔ ((Y : List Sign) × IsFittingCocircuit m (green_alone e) e Y)
  extreme_both e low high = (
    λ k. ⊎_elim (λ x. absurd (k x.0 x.1.circuit (only_minus e low high x.0 x.1))) (λ y. y)
        (painting_one m chirotope (green_alone e) e (low, high) (coloured_alone e)),
    λ y X c o. painting_both m chirotope (green_alone e) e (low, high) (coloured_alone e) X y.0
        (from_only_minus e X c o) y.1,
  )

  -- ---- the places of the classes

  pub positive_first : (o : Option (List Sign)) → IsFirstIfAny (λ X. IsCircuitOfChirotope m X × HasMinusAloneAt 0 X) o
      → IsFirstIfAny (IsPositiveCircuit m) o
  positive_first o h = first_same (λ X. IsCircuitOfChirotope m X × HasMinusAloneAt 0 X) (IsPositiveCircuit m)
      (λ X a. (a.0, (none_both X).0 a.1)) (λ X a. (a.0, (none_both X).1 a.1)) o h

  -- what stands at place 0 of the first circuits, whatever is read past the end, for `hull`
  pub positive_at : (firsts : List (Option (List Sign))) → length firsts ≡ CLASSES
      → ((i : ℕ) → i < CLASSES → IsFirstIfAny (λ X. IsCircuitOfChirotope m X × HasMinusAloneAt i X)
      (get_or firsts i None)) → (d o : Option (List Sign)) → get_or firsts 0 d ≡ o
      → IsFirstIfAny (IsPositiveCircuit m) o
  positive_at firsts size are d o is =
      positive_first o
      (placed (λ i X. IsCircuitOfChirotope m X × HasMinusAloneAt i X) firsts 0 size (omega arith) are d o is)

  module _ (e : ℕ) (low : 1 ≤ e) (high : e ≤ m.elements) where
    pub first_circuit_at : (o : Option (List Sign))
        → IsFirstIfAny (λ X. IsCircuitOfChirotope m X × HasMinusAloneAt e X) o
        → IsFirstIfAny (IsFittingCircuit m (green_alone e) e) o
    first_circuit_at o h = first_same (λ X. IsCircuitOfChirotope m X × HasMinusAloneAt e X)
        (IsFittingCircuit m (green_alone e) e)
        (λ X a. from_only_minus e X a.0 ((alone_both m.elements e X (circuit_length m X a.0) low high).0 a.1))
        (λ X a. (
          a.circuit,
          (alone_both m.elements e X (circuit_length m X a.circuit) low high).1
              (only_minus e low high X a),
        )) o h

    pub first_cocircuit_at : (o : Option (List Sign))
        → IsFirstIfAny (λ X. IsCocircuitOfChirotope m X × HasMinusAloneAt e X) o
        → IsFirstIfAny (IsFittingCocircuit m (green_alone e) e) o
    first_cocircuit_at o h =
        first_same (λ X. IsCocircuitOfChirotope m X × HasMinusAloneAt e X) (IsFittingCocircuit m (green_alone e) e)
        (λ X a. cocircuit_from_only_minus e X a.0
        ((alone_both m.elements e X (cocircuit_length m X a.0) low high).0 a.1))
        (λ X a. (
          a.cocircuit,
          (alone_both m.elements e X (cocircuit_length m X a.cocircuit) low high).1
              (only_minus_of_cocircuit e low high X a),
        )) o h

    pub some_item : IsFirstIfAny (IsFittingCircuit m (green_alone e) e) None
        → IsFirstIfAny (IsFittingCocircuit m (green_alone e) e) None → ⊥
    some_item a b =
        ⊎_elim (λ x. a x.0 x.1) (λ y. b y.0 y.1)
        (painting_one m chirotope (green_alone e) e (low, high) (coloured_alone e))

-- ---- the list of items

-- each item still has the property, with one more at the end that has it for the next element
pub item_more : (P : ℕ → Painted → Type 0) (e : ℕ) (items : List Painted) (x : Painted) → EachItem P e items
    → P (e + length items) x → EachItem P e (items ++ x ∷ [])
item_more P e [] x h p = (let q : e + 0 ≡ e = omega arith in subst (λ k. P k x) q p, tt)
item_more P e (y ∷ items) x h p = (
  h.0,
  item_more P (e + 1) items x h.1 (let q : e + suc (length items) ≡ e + 1 + length items = omega arith in
      subst (λ k. P k x) q p),
)
