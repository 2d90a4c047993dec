-- Weights on the nonzero brackets.
--
-- Main results: length-weights_on, weights_of_pairs, weights_at_end and weight_made.
use Rattle.std.specs.Prelude.{ℕ, ◌≡◌, ◌≤◌, ℤ, List, [], ◌∷◌, length, map}
use Rattle.std.specs.List.{zip}
use Rattle.std.proofs.Common.{arith, sym, ◌∙◌, ap, refl}
use Rattle.std.proofs.lemmas.Simd.{map-map}
use Rattle.om_subsets.specs.Members.{Chosen}
use Rattle.om_certificate.specs.declared.weight.Weight.{Weight}
use Rattle.om_decide.specs.Columns.{weight_on, weights_on}

pub length-weights_on : (bs : List (List ℕ)) (zs : List ℤ) → length bs ≤ length zs
    → length (weights_on bs zs) ≡ length bs
length-weights_on [] zs l = refl
length-weights_on (b ∷ bs) [] l = absurd (omega arith)
length-weights_on (b ∷ bs) (z ∷ zs) l = let h = length-weights_on bs zs (omega arith) in omega arith

-- each bracket with the weight at its place
pub weights_of_pairs : (bs : List (List ℕ)) (zs : List ℤ) → map (λ p. weight_on p.0 p.1) (zip bs zs) ≡ weights_on bs zs
weights_of_pairs [] zs = refl
weights_of_pairs (b ∷ bs) [] = refl
weights_of_pairs (b ∷ bs) (z ∷ zs) = ap (λ ws. weight_on b z ∷ ws) (weights_of_pairs bs zs)

-- the weights of all pairs that came
pub weights_at_end : (ps : List (Chosen × ℤ)) (bs : List (List ℕ)) (zs : List ℤ)
    → map (λ p. (p.0.elements, p.1)) ps ≡ zip bs zs → map (λ p. weight_on p.0.elements p.1) ps ≡ weights_on bs zs
weights_at_end ps bs zs e =
    sym (map-map (λ (p : List ℕ × ℤ). weight_on p.0 p.1) (λ p. (p.0.elements, p.1)) ps)
    ∙ ap (map (λ (p : List ℕ × ℤ). weight_on p.0 p.1)) e ∙ weights_of_pairs bs zs

-- ---- one weight

pub weight_made : (xs : List ℕ) (a b c : ℕ) (z v : ℤ) → xs ≡ a ∷ b ∷ c ∷ [] → v ≡ z
    → (let w : Weight = record { a = a; b = b; c = c; value = v } in w) ≡ weight_on xs z
weight_made xs a b c z v e q = ap (λ x. let w : Weight = record { a = a; b = b; c = c; value = x } in w) q
    ∙ ap (λ ys. weight_on ys z) (sym e)
