-- A list that meets the axioms of covectors, as a family of functions.
--
-- Main results: the family is supported on the elements 1 to n (supported), and meets the axioms of covectors
-- (covector_axioms); its members of minimal support are the functions of the minimal members (minimal_function,
-- minimal_list).
use Rattle.std.specs.List.{Contains}
use Rattle.std.proofs.lemmas.List.Elements.{All-contains}
use Rattle.std.proofs.Common.{ℕ, zero, suc, ◌≡◌, ◌-◌, List, length, refl, sym, ap, subst, ◌∙◌, arith}
use Rattle.om_signs.specs.declared.sign.Sign.{Sign}
use Rattle.om_signs.specs.declared.sign.Sign.TheVariants.{Minus, Zero}
use Rattle.om_signs.specs.Sign.{opposite, product, first_nonzero}
use Rattle.om_signs.specs.SignVec.{at, compose}
use Rattle.om_signs.proofs.SignLaws.{product_minus_if_opposite, opposite_if_product_minus, left_nonzero, minus_nonzero}
use Rattle.om_laws.specs.Signs.{IsNonzero}
use Rattle.om_laws.specs.Vectors.{SignVector, zero_vector, composition}
use Rattle.om_laws.specs.Vectors as vectors
use Rattle.om_laws.specs.Axioms.{CovectorAxioms, AreSeparatedAt}
use Rattle.om_laws.specs.Covectors as families
use Rattle.om_laws.specs.Families.{IsListed, AreSupportedOn}
use Rattle.om_laws.specs.Bridge.{as_function}
use Rattle.om_laws.specs.Chirotope.{elements_to}
use Rattle.om_laws.proofs.BridgeLaws.{as_function-compose, as_function-negated}
use Rattle.om_members.specs.Vectors.{negated}
use Rattle.om_covectors.specs.Vectors.{IsSeparatedAt}
use Rattle.om_covectors.specs.Axioms.{MeetsCovectorAxioms}
use Rattle.om_members.specs.Listings.{HaveLength}
use Rattle.om_covectors.specs.Minimality.{IsMinimal}
use Rattle.om_denotation.specs.Families.{as_functions}
use Rattle.om_denotation.proofs.ChirotopeBridge.{list_supported}
use Rattle.om_denotation.proofs.ListFunctions.{at_place, support_list, support_function}
use Rattle.om_denotation.proofs.FunctionLaws.{listed, unlisted, zero_function, nonzero_element}

-- ---- support

-- the functions of members with n signs are zero off the elements 1 to n
pub supported : (n : ℕ) (members : List (List Sign)) → HaveLength n members
    → AreSupportedOn (elements_to n) (as_functions members)
supported n members lengths f h e k =
    let u = unlisted members f h in
    list_supported n u.0 (All-contains (λ X. length X ≡ n) members u.0 lengths u.1) e (subst IsNonzero (u.2 e) k)

-- ---- axioms

separated_lists : (X Y : List Sign) (i : ℕ) → IsNonzero (at X i) → at X i ≡ opposite (at Y i)
    → IsSeparatedAt X Y (suc i)
separated_lists X Y i n q = ap (λ k. product (at X k) (at Y k)) (let e : suc i - 1 ≡ i = omega arith in e)
    ∙ product_minus_if_opposite (at X i) (at Y i) n q

separated_functions : (X Y : List Sign) (i : ℕ) → IsSeparatedAt X Y (suc i)
    → AreSeparatedAt (as_function X) (as_function Y) (suc i)
separated_functions X Y i s =
    let q : product (at X i) (at Y i) ≡ Minus =
    ap (λ k. product (at X k) (at Y k)) (let e : i ≡ suc i - 1 = omega arith in e) ∙ s in
    (left_nonzero (at X i) (at Y i) Minus q minus_nonzero, opposite_if_product_minus (at X i) (at Y i) q)

module _ (members : List (List Sign)) (axioms : MeetsCovectorAxioms members) where
  pub own : (X : List Sign) → Contains members X → IsListed (as_functions members) (as_function X)
  own X m = listed members X (as_function X) m (λ e. refl)

  eliminate : (X Y : List Sign) → Contains members X → Contains members Y → (e : ℕ)
      → AreSeparatedAt (as_function X) (as_function Y) e
      → (Z : SignVector) × IsListed (as_functions members) Z × (Z e ≡ Zero)
      × ((g : ℕ) → (AreSeparatedAt (as_function X) (as_function Y) g → ⊥)
      → Z g ≡ composition (as_function X) (as_function Y) g)
  eliminate X Y x y zero s = absurd (s.0 refl)
  eliminate X Y x y (suc i) s =
      let z = axioms.elimination X Y x y (suc i) (omega arith) (separated_lists X Y i s.0 s.1) in
      (as_function z.0, own z.0 z.1, sym (at_place z.0 i) ∙ z.2.zero, outside z.0 z.2.outside)
    where
      outside : (Z : List Sign) → ((f : ℕ) → (IsSeparatedAt X Y f → ⊥) → at Z (f - 1) ≡ at (compose X Y) (f - 1))
          → (g : ℕ) → (AreSeparatedAt (as_function X) (as_function Y) g → ⊥)
          → as_function Z g ≡ composition (as_function X) (as_function Y) g
      outside Z h zero apart = refl
      outside Z h (suc k) apart = sym (at_place Z k) ∙ h (suc k) (λ t. apart (separated_functions X Y k t))
          ∙ at_place (compose X Y) k ∙ as_function-compose X Y (suc k)

  same_composition : (f g : SignVector) (X Y : List Sign) → ((e : ℕ) → f e ≡ as_function X e)
      → ((e : ℕ) → g e ≡ as_function Y e) → (e : ℕ) → composition f g e ≡ composition (as_function X) (as_function Y) e
  same_composition f g X Y p q e = ap (λ s. first_nonzero s (g e)) (p e) ∙ ap (first_nonzero (as_function X e)) (q e)

  same_separation : (f g : SignVector) (X Y : List Sign) → ((e : ℕ) → f e ≡ as_function X e)
      → ((e : ℕ) → g e ≡ as_function Y e) → (e : ℕ) → AreSeparatedAt f g e
      → AreSeparatedAt (as_function X) (as_function Y) e
  same_separation f g X Y p q e s = (subst IsNonzero (p e) s.0, sym (p e) ∙ s.1 ∙ ap opposite (q e))

  back_separation : (f g : SignVector) (X Y : List Sign) → ((e : ℕ) → f e ≡ as_function X e)
      → ((e : ℕ) → g e ≡ as_function Y e) → (e : ℕ) → AreSeparatedAt (as_function X) (as_function Y) e
      → AreSeparatedAt f g e
  back_separation f g X Y p q e s = (subst IsNonzero (sym (p e)) s.0, p e ∙ s.1 ∙ ap opposite (sym (q e)))

  -- if the members meet the axioms of covectors, so does the family of their functions
  pub covector_axioms : CovectorAxioms (IsListed (as_functions members))
  covector_axioms = record {
    zero = let z = axioms.zero in listed members z.0 zero_vector z.1 (λ e. sym (zero_function z.0 z.2 e));
    negation = λ f h. let u = unlisted members f h in
        listed members (negated u.0) (vectors.negated f) (axioms.symmetric u.0 u.1)
        (λ e. ap opposite (u.2 e) ∙ sym (as_function-negated u.0 e));
    composition_closed = λ f g h k. let u = unlisted members f h in let v = unlisted members g k in
        listed members (compose u.0 v.0) (composition f g) (axioms.compositions u.0 v.0 u.1 v.1)
        (λ e. same_composition f g u.0 v.0 u.2 v.2 e ∙ sym (as_function-compose u.0 v.0 e));
    elimination = λ f g h k e s. let u = unlisted members f h in let v = unlisted members g k in
        let z = eliminate u.0 v.0 u.1 v.1 e (same_separation f g u.0 v.0 u.2 v.2 e s) in (
          z.0,
          z.1,
          z.2,
          λ d apart. z.3 d (λ t. apart (back_separation f g u.0 v.0 u.2 v.2 d t))
              ∙ sym (same_composition f g u.0 v.0 u.2 v.2 d),
        );
  }

  -- ---- minimal members

  least_function : (X : List Sign) → IsMinimal members X
      → families.HasLeastSupport (IsListed (as_functions members)) (as_function X)
  least_function X m Z lz nz sub g k =
      let u = unlisted members Z lz in
      let within : vectors.HasSupportIn (as_function u.0) (as_function X) =
      λ h n. sub h (subst IsNonzero (sym (u.2 h)) n) in
      let back = m.least u.0 u.1 (λ z. nz.1 (u.2 nz.0 ∙ zero_function u.0 z nz.0)) (support_list u.0 X within) in
      subst IsNonzero (sym (u.2 g)) (support_function X u.0 back g k)

  pub minimal_function : (X : List Sign) → Contains members X → IsMinimal members X
      → families.IsMinimal (IsListed (as_functions members)) (as_function X)
  minimal_function X c m =
      record { member = own X c; nonzero = nonzero_element X m.nonzero; least = least_function X m }

  pub minimal_list : (f : SignVector) (X : List Sign) → families.IsMinimal (IsListed (as_functions members)) f
      → ((e : ℕ) → f e ≡ as_function X e) → IsMinimal members X
  minimal_list f X m q = record {
    nonzero = λ z. m.nonzero.1 (q m.nonzero.0 ∙ zero_function X z m.nonzero.0);
    least = λ Y y nonzero sub. support_list X Y (λ g n. m.least (as_function Y) (own Y y) (nonzero_element Y nonzero)
        (λ h k. subst IsNonzero (sym (q h)) (support_function Y X sub h k)) g (subst IsNonzero (sym (q g)) n));
  }
