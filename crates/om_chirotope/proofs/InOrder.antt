-- The value of a map on an increasing list.
--
-- Main results: value_in_order
use Rattle.std.specs.Prelude.{ℕ, ◌≡◌, ◌+◌, ◌<◌, List, [], ◌∷◌, refl}
use Rattle.std.proofs.Common.{zero, suc, ◌∙◌, ap, arith, inl, inr}
use Rattle.std.proofs.lemmas.Bool.{lt-ltb}
use Rattle.om_signs.specs.declared.sign.Sign.{Sign}
use Rattle.om_signs.specs.declared.sign.Sign.TheVariants.{Plus}
use Rattle.om_subsets.specs.Subsets.{IsSubsetFrom}
use Rattle.om_laws.specs.Tuples.{value, sorted, insert, sort_sign, before_sign}

insert_front : (low m x : ℕ) (xs : List ℕ) → IsSubsetFrom low m xs → x < low → (insert x xs ≡ x ∷ xs)
    × (before_sign x xs ≡ Plus)
insert_front low m x [] h l = (refl, refl)
insert_front low zero x (y ∷ ys) h l = absurd h
insert_front low (suc m) x (y ∷ ys) (inl (q, h)) l =
    let lt : x < y = omega arith in
    let i = insert_front (low + 1) m x ys h (omega arith) in
    rw (lt-ltb x y lt) (refl, i.1)
insert_front low (suc m) x (y ∷ ys) (inr (q, h)) l = insert_front (low + 1) m x (y ∷ ys) h (omega arith)

in_order : (low m : ℕ) (xs : List ℕ) → IsSubsetFrom low m xs → (sorted xs ≡ xs) × (sort_sign xs ≡ Plus)
in_order low m [] h = (refl, refl)
in_order low zero (x ∷ xs) h = absurd h
in_order low (suc m) (x ∷ xs) (inl (q, h)) =
    let i = in_order (low + 1) m xs h in
    let f = insert_front (low + 1) m x xs h (omega arith) in
    (ap (insert x) i.0 ∙ f.0, rw (f.1, i.1) refl)
in_order low (suc m) (x ∷ xs) (inr (q, h)) = in_order (low + 1) m (x ∷ xs) h

-- on an increasing list the value is the given one
pub value_in_order : (low m : ℕ) (f : List ℕ → Sign) (xs : List ℕ) → IsSubsetFrom low m xs → value f xs ≡ f xs
value_in_order low m f xs h = let i = in_order low m xs h in rw (i.1, i.0) refl
