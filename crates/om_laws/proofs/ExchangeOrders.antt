-- Exchange of increasing bases is exchange of bases.
--
-- Main results: exchange_in_order and back, exchange_of_increasing.
-- Reference: Björner, Las Vergnas, Sturmfels, White and Ziegler, Oriented Matroids, chapter 3.
use Rattle.std.specs.Prelude.{ℕ, List, [], ◌∷◌, ◌++◌}
use Rattle.std.proofs.Common.{sym, ap, subst, ◌∙◌, ⊎_elim, append_assoc}
use Rattle.om_signs.specs.declared.sign.Sign.{Sign}
use Rattle.om_laws.specs.Members.{IsMember}
use Rattle.om_laws.specs.Tuples.{IsAlternating}
use Rattle.om_laws.specs.Bases.{IsBase, HasExchange, HasIncreasingExchange}
use Rattle.om_laws.proofs.MemberLaws.{distinct_drop, member_drop, member_or_not, member_swap}
use Rattle.om_laws.proofs.TupleLaws.{neighbours_zero, nonzero_distinct, nonzero_from_end, nonzero_swapped}
use Rattle.om_laws.proofs.TupleLaws.{nonzero_to_end}
use Rattle.om_laws.proofs.SortingLaws.{by_sorting}

module _ (chi : List ℕ → Sign) (alt : IsAlternating chi) where
  -- where a and e make a base, and c is one, some element of c makes one with a
  abbrev IsExchanged : List ℕ → List ℕ → Type 0
  IsExchanged a c = (e : ℕ) → IsBase chi (a ++ e ∷ []) → IsBase chi c → (h : ℕ) × IsMember h c
      × IsBase chi (a ++ h ∷ [])

  base_swapped : (x y : ℕ) (cs bs : List ℕ) (e : ℕ) → IsBase chi ((cs ++ x ∷ y ∷ bs) ++ e ∷ [])
      → IsBase chi ((cs ++ y ∷ x ∷ bs) ++ e ∷ [])
  base_swapped x y cs bs e n =
      subst (IsBase chi) (sym (append_assoc cs (y ∷ x ∷ bs) (e ∷ [])))
      (nonzero_swapped chi alt cs x y (bs ++ e ∷ []) (subst (IsBase chi) (append_assoc cs (x ∷ y ∷ bs) (e ∷ [])) n))

  first_swapped : (x y : ℕ) (cs bs c : List ℕ) → IsExchanged (cs ++ x ∷ y ∷ bs) c → IsExchanged (cs ++ y ∷ x ∷ bs) c
  first_swapped x y cs bs c ex e na nc =
      let k = ex e (base_swapped y x cs bs e na) nc in
      (k.0, k.1, base_swapped x y cs bs k.0 k.2)

  first_repeated : (x : ℕ) (cs bs c : List ℕ) → IsExchanged (cs ++ x ∷ x ∷ bs) c
  first_repeated x cs bs c e na nc =
      absurd (na (ap chi (append_assoc cs (x ∷ x ∷ bs) (e ∷ [])) ∙ neighbours_zero chi alt x cs (bs ++ e ∷ [])))

  second_swapped : (a : List ℕ) (x y : ℕ) (cs bs : List ℕ) → IsExchanged a (cs ++ x ∷ y ∷ bs)
      → IsExchanged a (cs ++ y ∷ x ∷ bs)
  second_swapped a x y cs bs ex e na nc =
      let k = ex e na (nonzero_swapped chi alt cs y x bs nc) in
      (k.0, member_swap k.0 x y cs bs k.1, k.2)

  second_repeated : (a : List ℕ) (x : ℕ) (cs bs : List ℕ) → IsExchanged a (cs ++ x ∷ x ∷ bs)
  second_repeated a x cs bs e na nc = absurd (nc (neighbours_zero chi alt x cs bs))

  exchanged : HasIncreasingExchange chi → (a c : List ℕ) → IsExchanged a c
  exchanged ex a = by_sorting (λ a. (c : List ℕ) → IsExchanged a c)
      (λ x y cs bs h c. first_swapped x y cs bs c (h c))
      (λ x cs bs c. first_repeated x cs bs c)
      (λ a i c. by_sorting (IsExchanged a) (second_swapped a) (second_repeated a) (λ c j e na nc. ex a c e i j na nc) c)
      a

  -- an alternating map with exchange for increasing lists has exchange of all bases
  pub exchange_in_order : HasIncreasingExchange chi → HasExchange chi
  exchange_in_order ex u e v c nb nc out =
      let k = exchanged ex (u ++ v) c e (nonzero_to_end chi alt u v e nb) nc in
      let nh = nonzero_from_end chi alt u v k.0 k.2 in (
        k.0,
        k.1,
        λ m. ⊎_elim (λ q. out (subst (λ z. IsMember z c) q k.1))
            (λ j. (distinct_drop u k.0 v (nonzero_distinct chi alt (u ++ k.0 ∷ v) nh)).1 j) (member_drop k.0 u e v m),
        nh,
      )

  -- an alternating map with exchange of all bases has it for increasing lists
  pub exchange_of_increasing : HasExchange chi → HasIncreasingExchange chi
  exchange_of_increasing ex a c e i j na nc =
      ⊎_elim (λ m. (e, m, na)) (λ n. let k = ex a e [] c na nc n in (k.0, k.1, k.3)) (member_or_not e c)
