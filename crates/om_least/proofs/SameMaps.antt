-- Maps with the same signs in reverse lexicographic order are the same, and so are two isomorphic least maps.
--
-- Main results: least_same
use Rattle.std.proofs.Common.{ℕ, ◌≡◌, ◌<◌, List, length, get_or, map, refl, sym, ap, subst, ◌∙◌}
use Rattle.std.specs.declared.cmp.Ordering.{Ordering}
use Rattle.std.specs.declared.cmp.Ordering.TheVariants.{Less, Equal, Greater}
use Rattle.std.specs.Ordering.{ordering_reverse}
use Rattle.om_signs.specs.declared.sign.Sign.{Sign}
use Rattle.om_signs.specs.declared.sign.Sign.TheVariants.{Zero}
use Rattle.om_signs.specs.Order.{lexicographic}
use Rattle.om_signs.specs.OrderLaws.{lexicographic-total, same_from_order}
use Rattle.om_subsets.specs.Subsets.{choose, IsSubsetFrom}
use Rattle.om_subsets.specs.Reverse.{revlex_subsets, revlex_rank_of, revlex_subset_at}
use Rattle.om_subsets.proofs.ReversePlaces.{reverse_small, at_reverse_rank}
use Rattle.om_chirotope.specs.Map.{SignMap, IsMap, chi_of}
use Rattle.om_symmetry.specs.Permutations.{acted, AreIsomorphic}
use Rattle.om_symmetry.proofs.Axioms.{acted_whole}
use Rattle.om_symmetry.proofs.Groups.{isomorphic_back}
use Rattle.om_symmetry.proofs.Images.{own_signs, same_listed}
use Rattle.om_least.specs.Least.{signs_in_reverse, IsBefore, IsLeast}
use Rattle.om_least.proofs.Reverse.{sign_at}

-- rules with the same signs in reverse lexicographic order agree on all sets
same_rules : (n r : ℕ) (f g : List ℕ → Sign) → map f (revlex_subsets n r) ≡ map g (revlex_subsets n r)
    → (xs : List ℕ) → IsSubsetFrom 1 n xs → length xs ≡ r → f xs ≡ g xs
same_rules n r f g q xs h l =
    let few : revlex_rank_of xs < choose n r = subst (λ k. revlex_rank_of xs < choose n k) l (reverse_small n xs h) in
    let here : revlex_subset_at n r (revlex_rank_of xs) ≡ xs =
    subst (λ k. revlex_subset_at n k (revlex_rank_of xs) ≡ xs) l (at_reverse_rank n xs h) in
    ap f (sym here) ∙ sym (sign_at n r (revlex_rank_of xs) f few)
    ∙ ap (λ (signs : List Sign). get_or signs (revlex_rank_of xs) Zero) q
    ∙ sign_at n r (revlex_rank_of xs) g few ∙ ap g here

abbrev with_signs : ℕ → ℕ → List Sign → SignMap
with_signs r n s = record { rank = r; elements = n; signs = s }

same_signs : (r n : ℕ) (s t : List Sign) → IsMap (with_signs r n s) → IsMap (with_signs r n t)
    → signs_in_reverse (with_signs r n s) ≡ signs_in_reverse (with_signs r n t) → s ≡ t
same_signs r n s t hs ht q = sym (own_signs (with_signs r n s) hs)
    ∙ same_listed r n (chi_of (with_signs r n s)) (chi_of (with_signs r n t))
    (same_rules n r (chi_of (with_signs r n s)) (chi_of (with_signs r n t)) q)
    ∙ own_signs (with_signs r n t) ht

tie : (o p : Ordering) → o ≡ ordering_reverse p → (o ≡ Less → ⊥) → (p ≡ Less → ⊥) → o ≡ Equal
tie Less p q a b = absurd (a refl)
tie Equal p q a b = refl
tie Greater Less q a b = absurd (b refl)
tie Greater Equal q a b = cc
tie Greater Greater q a b = cc

pub least_same : (m k : SignMap) → IsMap m → IsLeast m → IsLeast k → AreIsomorphic m k → m ≡ k
least_same m k whole lm lk (w, p, e) =
    let j = acted w m in
    let back = isomorphic_back m j whole (w, p, refl) in
    let lj : IsLeast j = subst IsLeast (sym e) lk in
    let not_before : IsBefore j m → ⊥ = lm w p in
    let not_behind : IsBefore m j → ⊥ =
    (λ b. lj back.0 back.1 (subst (λ i. IsBefore i j) (sym back.2) b)) in
    let same = same_from_order (signs_in_reverse m) (signs_in_reverse j)
    (tie (lexicographic (signs_in_reverse m) (signs_in_reverse j))
    (lexicographic (signs_in_reverse j) (signs_in_reverse m))
    (lexicographic-total.antisymm (signs_in_reverse m) (signs_in_reverse j)) not_behind not_before) in
    ap (with_signs m.rank m.elements)
    (same_signs m.rank m.elements m.signs j.signs whole (acted_whole m w whole) same) ∙ e
