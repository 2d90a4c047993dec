-- Sets with their elements from e on moved up by one.
--
-- Main results: they avoid e (skip_avoids); the value of such a set with e behind it (behind_even, behind_odd).
use Rattle.std.specs.Prelude.{ℕ, ◌≡◌, ◌-◌, ◌%◌, ◌≤◌, List, [], ◌∷◌, ◌++◌, length, map}
use Rattle.std.proofs.Common.{sym, ◌∙◌, ap, subst, inl, inr, arith}
use Rattle.om_subsets.specs.Subsets.{IsSubsetFrom, IsMember, with_element, count_above}
use Rattle.om_laws.specs.Minors.{skip, contraction}
use Rattle.om_laws.proofs.MinorLaws.{skip_other}
use Rattle.om_signs.specs.declared.sign.Sign.{Sign}
use Rattle.om_signs.specs.Sign.{opposite}
use Rattle.om_chirotope.specs.Map.{SignMap, chi_of, value_of}
use Rattle.om_chirotope.proofs.Cocircuits.{along_even, along_odd, length-with}

pub skip_avoids : (e : ℕ) (t : List ℕ) → IsMember e (map (skip e) t) → ⊥
skip_avoids e [] h = h
skip_avoids e (x ∷ t) (inl q) = skip_other e x (sym q)
skip_avoids e (x ∷ t) (inr h) = skip_avoids e t h

-- the value of a list that avoids e with e behind it, by the sign of the list with e
pub behind_even : (m : SignMap) (e : ℕ) (xs a w : List ℕ) (s : Sign) → a ≡ map (skip e) xs → IsSubsetFrom 1 m.elements a
    → w ≡ with_element e a → IsSubsetFrom 1 m.elements w → (count_above e a % 2 ≡ 1 → ⊥) → s ≡ value_of m w
    → s ≡ contraction e (value_of m) xs
behind_even m e xs a w s qa ha qw hw even v =
    v ∙ ap (value_of m) qw
    ∙ along_even 1 m.elements e (chi_of m) a ha (subst (IsSubsetFrom 1 m.elements) qw hw)
    (λ k. skip_avoids e xs (subst (IsMember e) qa k)) even
    ∙ ap (λ t. value_of m (t ++ e ∷ [])) qa

pub behind_odd : (m : SignMap) (e : ℕ) (xs a w : List ℕ) (s : Sign) → a ≡ map (skip e) xs → IsSubsetFrom 1 m.elements a
    → w ≡ with_element e a → IsSubsetFrom 1 m.elements w → count_above e a % 2 ≡ 1 → s ≡ opposite (value_of m w)
    → s ≡ contraction e (value_of m) xs
behind_odd m e xs a w s qa ha qw hw odd v =
    v ∙ ap (λ t. opposite (value_of m t)) qw
    ∙ along_odd 1 m.elements e (chi_of m) a ha (subst (IsSubsetFrom 1 m.elements) qw hw)
    (λ k. skip_avoids e xs (subst (IsMember e) qa k)) odd
    ∙ ap (λ t. value_of m (t ++ e ∷ [])) qa

pub behind_size : (e : ℕ) (xs a w : List ℕ) (r : ℕ) → a ≡ map (skip e) xs → w ≡ with_element e a → length a ≡ r - 1
    → 1 ≤ r → length w ≡ r
behind_size e xs a w r qa qw l low =
    let k = length-with e a (λ h. skip_avoids e xs (subst (IsMember e) qa h)) in
    ap length qw ∙ omega (arith, k, l, low)
