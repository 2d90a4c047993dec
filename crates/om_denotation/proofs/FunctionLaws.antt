-- Lists of lists of signs as families of functions.
--
-- Main results: a function is listed exactly where it is that of a member (listed, unlisted); zero vectors of lists are
-- those of functions (zero_function, nonzero_element).
use Rattle.std.specs.List.{Contains}
use Rattle.std.proofs.Common.{ℕ, zero, suc, ◌≡◌, ◌-◌, List, [], ◌∷◌, refl, sym, ap, ◌∙◌, inl, inr, ⊎_elim, arith}
use Rattle.om_signs.specs.declared.sign.Sign.{Sign}
use Rattle.om_signs.specs.declared.sign.Sign.TheVariants.{Zero}
use Rattle.om_signs.specs.SignVec.{at}
use Rattle.om_signs.proofs.SignLaws.{zero_or_nonzero}
use Rattle.om_signs.proofs.Contained.{contains_first, contains_later, first_or_later}
use Rattle.om_laws.specs.Signs.{IsNonzero}
use Rattle.om_laws.specs.Vectors.{SignVector}
use Rattle.om_laws.specs.Vectors as vectors
use Rattle.om_laws.specs.Families.{IsListed}
use Rattle.om_laws.specs.Bridge.{as_function}
use Rattle.om_members.specs.Vectors.{IsZero}
use Rattle.om_denotation.proofs.ListFunctions.{at_place}
use Rattle.om_denotation.specs.Families.{as_functions}
use Rattle.om_denotation.specs.Circuits.{HasNonzero}

-- ---- listed functions

pub listed : (members : List (List Sign)) (X : List Sign) (f : SignVector) → Contains members X
    → ((e : ℕ) → f e ≡ as_function X e) → IsListed (as_functions members) f
listed [] X f m q = let l = m.1 in absurd (omega (arith, l))
listed (Y ∷ Ys) X f m q = ⊎_elim
    (λ r. inl (λ e. q e ∙ ap (λ Z. as_function Z e) (sym r)))
    (λ k. inr (listed Ys X f k q))
    (first_or_later Y Ys X m)

pub unlisted : (members : List (List Sign)) (f : SignVector) → IsListed (as_functions members) f → (X : List Sign)
    × Contains members X × ((e : ℕ) → f e ≡ as_function X e)
unlisted [] f h = absurd h
unlisted (Y ∷ Ys) f (inl q) = (Y, contains_first Y Ys, q)
unlisted (Y ∷ Ys) f (inr h) = let r = unlisted Ys f h in (r.0, contains_later Y Ys r.0 r.1, r.2)

-- ---- signs at elements

pub zero_function : (X : List Sign) → IsZero X → (e : ℕ) → as_function X e ≡ Zero
zero_function X z zero = refl
zero_function X z (suc i) = sym (at_place X i) ∙ z (suc i)

-- a list with a sign that isn't zero isn't the zero vector
pub nonzero_list_not_zero : (X : List Sign) → HasNonzero X → IsZero X → ⊥
nonzero_list_not_zero X (i, k) z = k (sym (at_place X i) ∙ z (suc i))

nonzero_place : (X : List Sign) → (((i : ℕ) → at X i ≡ Zero) → ⊥) → (i : ℕ) × IsNonzero (at X i)
nonzero_place [] h = absurd (h (λ i. refl))
nonzero_place (x ∷ xs) h = ⊎_elim
    (λ z. let r = nonzero_place xs (λ all. h (both z all)) in (suc r.0, r.1))
    (λ n. (0, n))
    (zero_or_nonzero x)
  where
    both : x ≡ Zero → ((i : ℕ) → at xs i ≡ Zero) → (i : ℕ) → at (x ∷ xs) i ≡ Zero
    both z all zero = z
    both z all (suc i) = all i

-- the function of a list that isn't the zero vector is nonzero somewhere
pub nonzero_element : (X : List Sign) → (IsZero X → ⊥) → vectors.HasNonzero (as_function X)
nonzero_element X h = let r = nonzero_place X (λ all. h (λ e. all (e - 1))) in (suc r.0, r.1)
