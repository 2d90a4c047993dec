-- Lists of signs and functions from elements to signs.
--
-- Main results: each is the other's inverse (as_function-as_list, as_list-as_function); orthogonality, composition,
-- conformity and negation of lists are those of functions; the relation of an increasing list is the orthogonality of
-- two lists of signs (relation_from_lists, relation_to_lists).
use Rattle.std.specs.List.{range_with_len}
use Rattle.std.proofs.lemmas.Bool.{cases_lt}
use Rattle.std.proofs.lemmas.List.{get_or_past}
use Rattle.std.proofs.lemmas.List.FromFn.{length-map-range_with_len, get_or-map-range_with_len}
use Rattle.std.proofs.Common.{ℕ, zero, suc, List, refl, arith, inl, inr, sym, ap, ⊎_elim, length, map, ◌≡◌, ◌∷◌, ◌<◌}
use Rattle.std.proofs.Common.{[], ◌+◌, ◌∙◌}
use Rattle.om_signs.specs.declared.sign.Sign.{Sign}
use Rattle.om_signs.specs.declared.sign.Sign.TheVariants.{Minus, Zero, Plus}
use Rattle.om_signs.specs.Sign.{opposite, product}
use Rattle.om_signs.specs.SignVec.{at, compose, IsOrthogonal, IsConformal}
use Rattle.om_signs.proofs.SignLaws.{zero_or_nonzero, product_zero_left}
use Rattle.om_signs.proofs.ListPlaces.{at-compose, at-map-opposite}
use Rattle.om_laws.specs.Vectors.{SignVector, negated, composition, HasProduct, Orthogonal, IsSupportedOn}
use Rattle.om_laws.specs.Bridge.{as_function, as_list}
use Rattle.om_laws.specs.Chirotope.{elements_to}
use Rattle.om_laws.specs.Sorting.{IsIncreasing, IsElement, IsTuple}
use Rattle.om_laws.specs.Signs.{IsNonzero}
use Rattle.om_laws.specs.Relations.{around, along, IsBalanced}
use Rattle.om_laws.proofs.SortingLaws.{increasing_distinct}
use Rattle.om_laws.proofs.RelationLaws.{around_member, orthogonal_from_balanced, balanced_from_orthogonal}
use Rattle.om_laws.proofs.ChirotopeLaws.{member_from_element, element_from_member}
use Rattle.om_laws.proofs.TupleSizes.{each_member}
use Rattle.om_laws.specs.Vectors as vectors

pub at-as_list : (n : ℕ) (f : SignVector) (i : ℕ) → i < n → at (as_list n f) i ≡ f (suc i)
at-as_list n f i l = get_or-map-range_with_len f 1 n i (suc i) Zero l (omega arith)

-- the list of the signs at 1 to n has n signs
pub length-as_list : (n : ℕ) (f : SignVector) → length (as_list n f) ≡ n
length-as_list n f = length-map-range_with_len f 1 n

-- a sign vector that is zero off 1 to n comes back from the list of its signs
pub as_function-as_list : (n : ℕ) (f : SignVector) → IsSupportedOn (elements_to n) f → (e : ℕ)
    → as_function (as_list n f) e ≡ f e
as_function-as_list n f s zero =
    sym (⊎_elim (λ z. z) (λ k. absurd (let h = (element_from_member n 0 (s 0 k)).0 in omega (arith, h)))
    (zero_or_nonzero (f 0)))
as_function-as_list n f s (suc i) = elim (cases_lt i n) [
  | inl l ↦ at-as_list n f i l
  | inr g ↦ get_or_past (as_list n f) i Zero (let h = length-as_list n f in omega (arith, h, g))
      ∙ sym (⊎_elim (λ z. z)
      (λ k. absurd (let h = (element_from_member n (suc i) (s (suc i) k)).1 in omega (arith, h, g)))
      (zero_or_nonzero (f (suc i))))
]

to_functions : (xs ys : List Sign) (s : Sign) → (i : ℕ) × (product (at xs i) (at ys i) ≡ s)
    → HasProduct (as_function xs) (as_function ys) s
to_functions xs ys s (i, p) = (suc i, p)

to_lists : (xs ys : List Sign) (s : Sign) → IsNonzero s → HasProduct (as_function xs) (as_function ys) s → (i : ℕ)
    × (product (at xs i) (at ys i) ≡ s)
to_lists xs ys s n (zero, p) = absurd (n (sym p))
to_lists xs ys s n (suc i, p) = (i, p)

-- orthogonal lists of signs are orthogonal as functions
pub orthogonal_functions : (xs ys : List Sign) → IsOrthogonal xs ys → Orthogonal (as_function xs) (as_function ys)
orthogonal_functions xs ys (a, b) = record {
  minus = λ h. to_functions xs ys Minus (a (to_lists xs ys Plus (λ e. cc) h));
  plus = λ h. to_functions xs ys Plus (b (to_lists xs ys Minus (λ e. cc) h));
}

-- lists of signs that are orthogonal as functions are orthogonal
pub orthogonal_lists : (xs ys : List Sign) → Orthogonal (as_function xs) (as_function ys) → IsOrthogonal xs ys
orthogonal_lists xs ys o = (
  λ h. to_lists xs ys Minus (λ e. cc) (o.minus (to_functions xs ys Plus h)),
  λ h. to_lists xs ys Plus (λ e. cc) (o.plus (to_functions xs ys Minus h)),
)

-- the composition of two lists of signs is, as a function, that of the two functions
pub as_function-compose : (xs ys : List Sign) (e : ℕ)
    → as_function (compose xs ys) e ≡ composition (as_function xs) (as_function ys) e
as_function-compose xs ys zero = refl
as_function-compose xs ys (suc i) = at-compose xs ys i

-- a list of signs that conforms to another does so as a function
pub conformal_functions : (xs ys : List Sign) → IsConformal xs ys
    → vectors.IsConformal (as_function xs) (as_function ys)
conformal_functions xs ys h zero n = absurd (n refl)
conformal_functions xs ys h (suc i) n = h i n

-- a list of signs that conforms to another as a function does so as a list
pub conformal_lists : (xs ys : List Sign) → vectors.IsConformal (as_function xs) (as_function ys) → IsConformal xs ys
conformal_lists xs ys h i n = h (suc i) n

-- a list of signs with all signs negated is, as a function, the negative
pub as_function-negated : (xs : List Sign) (e : ℕ) → as_function (map opposite xs) e ≡ negated (as_function xs) e
as_function-negated xs zero = refl
as_function-negated xs (suc i) = at-map-opposite xs i

list_of_signs : (xs : List Sign) (low : ℕ) (f : SignVector) → ((i : ℕ) → f (low + i) ≡ at xs i)
    → map f (range_with_len low (length xs)) ≡ xs
list_of_signs [] low f h = refl
list_of_signs (x ∷ xs) low f h =
    ap (λ s. s ∷ map f (range_with_len (low + 1) (length xs))) (ap f (let e : low ≡ low + 0 = omega arith in e) ∙ h 0)
    ∙ ap (λ l. x ∷ l)
    (list_of_signs xs (low + 1) f (λ i. (let e : low + 1 + i ≡ low + suc i = omega arith in ap f e) ∙ h (suc i)))

-- a list of n signs comes back from its function
pub as_list-as_function : (n : ℕ) (xs : List Sign) → length xs ≡ n → as_list n (as_function xs) ≡ xs
as_list-as_function n xs q = ap (λ k. as_list k (as_function xs)) (sym q)
    ∙ list_of_signs xs 1 (as_function xs) (λ i. (let e : 1 + i ≡ suc i = omega arith in ap (as_function xs) e))

seen : (n : ℕ) (f g : SignVector) (s : Sign) → IsSupportedOn (elements_to n) f → IsNonzero s → HasProduct f g s
    → (i : ℕ) × (product (at (as_list n f) i) (at (as_list n g) i) ≡ s)
seen n f g s sup ns (zero, p) =
    absurd (let h = (element_from_member n 0 (sup 0 (λ z. ns (sym p ∙ product_zero_left (f 0) (g 0) z)))).0 in
    omega (arith, h))
seen n f g s sup ns (suc i, p) =
    let h = (element_from_member n (suc i)
    (sup (suc i) (λ z. ns (sym p ∙ product_zero_left (f (suc i)) (g (suc i)) z)))).1 in
    let l : i < n = omega (arith, h) in (
      i,
      ap (λ k. product k (at (as_list n g) i)) (at-as_list n f i l) ∙ ap (product (f (suc i))) (at-as_list n g i l)
          ∙ p,
    )

unseen : (n : ℕ) (f g : SignVector) (s : Sign) → IsNonzero s → (i : ℕ)
    × (product (at (as_list n f) i) (at (as_list n g) i) ≡ s) → HasProduct f g s
unseen n f g s ns (i, p) = elim (cases_lt i n) [
  | inl l ↦ (
    suc i,
    ap (λ k. product k (g (suc i))) (sym (at-as_list n f i l))
        ∙ ap (product (at (as_list n f) i)) (sym (at-as_list n g i l)) ∙ p,
  )
  | inr ge ↦
      absurd (ns
      (sym p ∙ product_zero_left (at (as_list n f) i) (at (as_list n g) i)
      (get_or_past (as_list n f) i Zero (let h = length-as_list n f in omega (arith, h, ge)))))
]

-- only the first has to be zero off the elements
pub orthogonal_from_lists : (n : ℕ) (f g : SignVector) → IsSupportedOn (elements_to n) f
    → IsOrthogonal (as_list n f) (as_list n g) → Orthogonal f g
orthogonal_from_lists n f g sup (a, b) = record {
  minus = λ h. unseen n f g Minus (λ e. cc) (a (seen n f g Plus sup (λ e. cc) h));
  plus = λ h. unseen n f g Plus (λ e. cc) (b (seen n f g Minus sup (λ e. cc) h));
}

pub orthogonal_to_lists : (n : ℕ) (f g : SignVector) → IsSupportedOn (elements_to n) f → Orthogonal f g
    → IsOrthogonal (as_list n f) (as_list n g)
orthogonal_to_lists n f g sup o = (
  λ h. seen n f g Minus sup (λ e. cc) (o.minus (unseen n f g Plus (λ e. cc) h)),
  λ h. seen n f g Plus sup (λ e. cc) (o.plus (unseen n f g Minus (λ e. cc) h)),
)

-- the relation of increasing lists s and a, as orthogonality of two lists of signs
pub relation_from_lists : (n r : ℕ) (chi : List ℕ → Sign) (s a : List ℕ) → IsTuple n r s → IsIncreasing s
    → IsOrthogonal (as_list n (around chi s)) (as_list n (along chi a)) → IsBalanced chi s (along chi a)
relation_from_lists n r chi s a t i o = balanced_from_orthogonal chi s (along chi a) (increasing_distinct s i)
    (orthogonal_from_lists n (around chi s) (along chi a)
    (λ e k. member_from_element n e (each_member (IsElement n) s t.within e (around_member chi s e k))) o)

-- if the relation of an increasing tuple s and a list a holds, the lists around s and along a are orthogonal
pub relation_to_lists : (n r : ℕ) (chi : List ℕ → Sign) (s a : List ℕ) → IsTuple n r s → IsIncreasing s
    → IsBalanced chi s (along chi a) → IsOrthogonal (as_list n (around chi s)) (as_list n (along chi a))
relation_to_lists n r chi s a t i b =
    orthogonal_to_lists n (around chi s) (along chi a)
    (λ e k. member_from_element n e (each_member (IsElement n) s t.within e (around_member chi s e k)))
    (orthogonal_from_balanced chi s (along chi a) (increasing_distinct s i) b)
