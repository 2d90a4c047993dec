-- The order of two maps of one rank on as many elements.
--
-- Main results: the order over sets that are named otherwise (same_order); the three answers differ (less_not_equal,
-- greater_not_equal, greater_not_less, equal_not_less).
use Rattle.std.proofs.Common.{ℕ, ◌≡◌, map, ap, ◌∙◌}
use Rattle.std.specs.declared.cmp.Ordering.TheVariants.{Less, Equal, Greater}
use Rattle.om_signs.specs.Order.{lexicographic}
use Rattle.om_subsets.specs.Reverse.{revlex_subsets}
use Rattle.om_chirotope.specs.Map.{SignMap, chi_of}
use Rattle.om_least.specs.Least.{signs_in_reverse}

pub same_order : (a b : SignMap) (n r : ℕ) → n ≡ a.elements → r ≡ a.rank → a.elements ≡ b.elements → a.rank ≡ b.rank
    → lexicographic (map (chi_of a) (revlex_subsets n r)) (map (chi_of b) (revlex_subsets n r))
    ≡ lexicographic (signs_in_reverse a) (signs_in_reverse b)
same_order a b n r qn qr en er =
    ap (λ sets. lexicographic (map (chi_of a) sets) (map (chi_of b) sets))
    (ap (λ k. revlex_subsets k r) qn ∙ ap (revlex_subsets a.elements) qr)
    ∙ ap (λ sets. lexicographic (signs_in_reverse a) (map (chi_of b) sets))
    (ap (λ k. revlex_subsets k a.rank) en ∙ ap (revlex_subsets b.elements) er)

pub less_not_equal : Less ≡ Equal → ⊥
less_not_equal q = cc

pub greater_not_equal : Greater ≡ Equal → ⊥
greater_not_equal q = cc

pub greater_not_less : Greater ≡ Less → ⊥
greater_not_less q = cc

pub equal_not_less : Equal ≡ Less → ⊥
equal_not_less q = cc
