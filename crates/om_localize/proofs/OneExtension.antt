-- A signature tells the extension of a map of rank 3.
--
-- Main results: same_extensions.
-- Reference: Björner, Las Vergnas, Sturmfels, White and Ziegler, Oriented Matroids, chapter 7.
use Rattle.std.specs.Prelude.{ℕ, ◌≡◌, ◌+◌, ◌<◌, ◌≤◌, List, [], ◌∷◌, ◌++◌, length, refl}
use Rattle.std.proofs.Common.{sym, ◌∙◌, ap, subst, arith, inl, inr}
use Rattle.std.proofs.lemmas.Bool.{cases_eq}
use Rattle.std.proofs.lemmas.List.{ext_get_or}
use Rattle.om_signs.specs.declared.sign.Sign.TheVariants.{Zero}
use Rattle.om_signs.specs.SignVec.{at}
use Rattle.om_subsets.specs.Subsets.{IsSubsetFrom, choose, rank_of, subset_at}
use Rattle.om_subsets.proofs.Order.{listed}
use Rattle.om_subsets.proofs.Statements.{subset_is_increasing}
use Rattle.om_chirotope.specs.Map.{SignMap, chi_of}
use Rattle.om_chirotope.proofs.Theory.{from_tuple}
use Rattle.om_localize.specs.Extensions.{IsExtension, signature_of}
use Rattle.om_localize.proofs.SignatureCircles.{pair_list, table_sign}

-- the size, and the values by their places
module _ (m w : SignMap) (r : m.rank ≡ 3) (x : IsExtension m w) where
  number_of_signs : length w.signs ≡ choose (m.elements + 1) 3
  number_of_signs = x.chirotope.whole.whole ∙ ap (λ n. choose n w.rank) x.elements
      ∙ ap (choose (m.elements + 1)) (x.rank ∙ r)

  value_at_place : (t : List ℕ) → at w.signs (rank_of (m.elements + 1) t) ≡ chi_of w t
  value_at_place t = ap (λ n. at w.signs (rank_of n t)) (sym x.elements)

  value_of_pair : (a b : ℕ) → 1 ≤ a → a < b → b ≤ m.elements
      → at (signature_of m.elements w) (rank_of m.elements (a ∷ b ∷ [])) ≡ chi_of w (a ∷ b ∷ (m.elements + 1) ∷ [])
  value_of_pair a b low less high =
      table_sign m.elements 2 (λ pair. chi_of w (pair ++ (m.elements + 1) ∷ [])) (a ∷ b ∷ [])
      (pair_list m.elements a b low less high) refl

module _ (m w v : SignMap) (r : m.rank ≡ 3) (x : IsExtension m w) (y : IsExtension m v)
    (same : signature_of m.elements w ≡ signature_of m.elements v) where
  same_value : (t : List ℕ) → IsSubsetFrom 1 (m.elements + 1) t → length t ≡ 3 → chi_of w t ≡ chi_of v t
  same_value [] i l = absurd (omega arith)
  same_value (a ∷ []) i l = absurd (omega arith)
  same_value (a ∷ b ∷ []) i l = absurd (omega arith)
  same_value (a ∷ b ∷ c ∷ []) i l =
      let p = (subset_is_increasing (m.elements + 1) (a ∷ b ∷ c ∷ [])).0 i in
      let low = (p.1 a (inl refl)).0 in
      let first = p.0.0 in
      let second = p.0.1.0 in
      let high = (p.1 c (inr (inr (inl refl)))).1 in elim (cases_eq c (m.elements + 1)) [
        | inl q ↦
            let within : b ≤ m.elements = omega (arith, second, q) in
            subst (λ k. chi_of w (a ∷ b ∷ k ∷ []) ≡ chi_of v (a ∷ b ∷ k ∷ [])) (sym q)
            (sym (value_of_pair m w r x a b low first within)
            ∙ ap (λ signs. at signs (rank_of m.elements (a ∷ b ∷ []))) same
            ∙ value_of_pair m v r y a b low first within)
        | inr ne ↦
            let within : c ≤ m.elements = grind (arith, high, ne) in
            let old = from_tuple m.elements 3 (a ∷ b ∷ c ∷ [])
            (record {
              size = refl;
              within = (
                (low, omega (arith, first, second, within)),
                (
                  (omega (arith, low, first), omega (arith, second, within)),
                  ((omega (arith, low, first, second), within), tt),
                ),
              );
            }) (first, (second, tt)) in
            x.agrees (a ∷ b ∷ c ∷ []) old (sym r) ∙ sym (y.agrees (a ∷ b ∷ c ∷ []) old (sym r))
      ]
  same_value (a ∷ b ∷ c ∷ d ∷ ds) i l = absurd (omega arith)

  same_signs : w.signs ≡ v.signs
  same_signs = ext_get_or Zero w.signs v.signs (number_of_signs m w r x ∙ sym (number_of_signs m v r y)) (λ k l.
      let size = number_of_signs m w r x in
      let t = listed 1 (m.elements + 1) 3 k (omega (arith, l, size)) in
      subst (λ j. at w.signs j ≡ at v.signs j) t.place
      (value_at_place m w r x (subset_at (m.elements + 1) 3 k)
      ∙ same_value (subset_at (m.elements + 1) 3 k) t.lawful t.size
      ∙ sym (value_at_place m v r y (subset_at (m.elements + 1) 3 k))))

  pub same_extensions : w ≡ v
  same_extensions =
      λ i. record { rank = (x.rank ∙ sym y.rank) i; elements = (x.elements ∙ sym y.elements) i; signs = same_signs i }
