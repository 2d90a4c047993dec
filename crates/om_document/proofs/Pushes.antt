-- Lists that are gone through item by item: the bytes that are written of them, and the first sign other than zero.
--
-- Main results: taken_all, mapped_more, mapped_all, begun_by_order
use Rattle.std.proofs.Common.{◌≡◌, ℕ, ◌+◌, ◌<◌, ◌≤◌, List, [], ◌∷◌, ◌++◌, length, get_or, take, map, refl}
use Rattle.std.proofs.Common.{ap, ◌∙◌, add-one, append_assoc, take-suc, take_all}
use Rattle.std.specs.Ordering.{is_le}
use Rattle.std.proofs.lemmas.List.{map-append}
use Rattle.om_signs.specs.declared.sign.Sign.{Sign}
use Rattle.om_signs.specs.declared.sign.Sign.TheVariants.{Minus, Zero, Plus}
use Rattle.om_signs.specs.Sign.{opposite}
use Rattle.om_signs.specs.Order.{lexicographic}
use Rattle.om_document.specs.PrintTwo.{begins_with_plus}

-- what was written of the items so far, where these are all
pub taken_all : {A : Type 0} (f : List A → List ℕ) (xs : List A) (i : ℕ) (out before : List ℕ) → length xs ≤ i
    → out ≡ before ++ f (take i xs) → out ≡ before ++ f xs
taken_all f xs i out before l o = o ∙ ap (λ ys. before ++ f ys) (take_all i xs l)

-- one more byte
pub mapped_more : {A : Type 0} (f : A → ℕ) (xs : List A) (i : ℕ) (d x : A) (out before now : List ℕ) (b : ℕ)
    → i < length xs → out ≡ before ++ map f (take i xs) → x ≡ get_or xs i d → b ≡ f x → now ≡ out ++ b ∷ []
    → now ≡ before ++ map f (take (i + 1) xs)
mapped_more f xs i d x out before now b l o e h n =
    rw (add-one, take-suc xs i d l, map-append f)
    (n ∙ rw (o, h, e) (append_assoc before (map f (take i xs)) (f (get_or xs i d) ∷ [])))

-- a last byte behind those of all items
pub mapped_all : {A : Type 0} (f : A → ℕ) (xs : List A) (i : ℕ) (out before now : List ℕ) (b : ℕ) → length xs ≤ i
    → out ≡ before ++ map f (take i xs) → now ≡ out ++ b ∷ [] → now ≡ (before ++ map f xs) ++ b ∷ []
mapped_all f xs i out before now b l o n =
    n ∙ ap (λ ys. ys ++ b ∷ []) (taken_all (map f) xs i out before l o)

-- the first sign other than zero is the first place where signs and their negative differ
pub begun_by_order : (xs : List Sign) → is_le (lexicographic (map opposite xs) xs) ≡ begins_with_plus xs
begun_by_order [] = refl
begun_by_order (Minus ∷ xs) = refl
begun_by_order (Zero ∷ xs) = begun_by_order xs
begun_by_order (Plus ∷ xs) = refl
