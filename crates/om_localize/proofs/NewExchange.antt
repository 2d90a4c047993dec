-- A map of rank 3 on one element more has exchange of bases where it has the relation at each element.
--
-- Main results: relations_from_elements
-- Reference: Björner, Las Vergnas, Sturmfels, White and Ziegler, Oriented Matroids, chapter 7.
use Rattle.std.specs.Prelude.{ℕ, ◌≡◌, ◌≢◌, ◌<◌, ◌≤◌, List, [], ◌∷◌, ◌++◌, length, refl}
use Rattle.std.proofs.Common.{suc, sym, ◌∙◌, subst, ⊎_elim, arith, inl, inr}
use Rattle.std.proofs.lemmas.Bool.{cases_eq}
use Rattle.om_signs.specs.declared.sign.Sign.{Sign}
use Rattle.om_signs.specs.declared.sign.Sign.TheVariants.{Zero}
use Rattle.om_signs.specs.Sign.{opposite, product}
use Rattle.om_signs.proofs.SignLaws.{zero_or_nonzero, nonzero_of_opposite}
use Rattle.om_laws.specs.Members.{IsMember}
use Rattle.om_laws.specs.Signs.{IsNonzero}
use Rattle.om_laws.specs.Bases.{HasExchange}
use Rattle.om_laws.specs.ThreeTerm.{AreBalanced}
use Rattle.om_laws.specs.Relations.{HasRelations}
use Rattle.om_laws.specs.Sorting.{IsTuple, IsIncreasing, on_tuples}
use Rattle.om_laws.proofs.MemberLaws.{member_drop, distinct_drop}
use Rattle.om_laws.proofs.TupleLaws.{nonzero_to_end, nonzero_from_end, nonzero_distinct}
use Rattle.om_laws.proofs.TupleSizes.{on_tuples_tuple}
use Rattle.om_laws.proofs.ThreeTermLaws.{three_term_relations}
use Rattle.om_localize.proofs.ExchangeCases as relations
use Rattle.om_localize.proofs.NewElement.{old_values, new_alternates, new_swap_first, new_swap_last, turn, swap_first}
use Rattle.om_localize.proofs.NewElement.{swap_last, new_values, new_in_middle, new_in_front, first_old, second_old}
use Rattle.om_localize.proofs.NewRelations.{three, last, point_or_not, three_term_new}

module _ (n : ℕ) (f g k : List ℕ → Sign)
    (agrees : (t : List ℕ) → IsTuple n 3 t → IsIncreasing t → k t ≡ f t)
    (signs : (x y : ℕ) → 1 ≤ x → x < y → y ≤ n → k (x ∷ y ∷ suc n ∷ []) ≡ g (x ∷ y ∷ []))
  where
    abbrev old : List ℕ → Sign
    old = on_tuples n 3 f

    abbrev pairs : List ℕ → Sign
    pairs = on_tuples n 2 g

    abbrev new : List ℕ → Sign
    new = on_tuples (suc n) 3 k

    abbrev c : ℕ → ℕ → ℕ → Sign
    c x y z = old (x ∷ y ∷ z ∷ [])

    abbrev s : ℕ → ℕ → Sign
    s x y = pairs (x ∷ y ∷ [])

    abbrev new_at : ℕ → ℕ → ℕ → Sign
    new_at x y z = new (x ∷ y ∷ z ∷ [])

    abbrev RelationAt : ℕ → ℕ → ℕ → ℕ → Type 0
    RelationAt e x y z = AreBalanced (product (c e x y) (s e z)) (opposite (product (c e x z) (s e y)))
        (product (c e y z) (s e x))

    module _ (rel : HasRelations old) (relation : (e x y z : ℕ) → RelationAt e x y z)
        (spanned : (e x : ℕ) → IsNonzero (s e x) → (h : ℕ) × IsNonzero (c e x h)) where
      -- ---- exchange of bases

      swapped_last : (x y z : ℕ) → IsNonzero (new_at x y z) → IsNonzero (new_at x z y)
      swapped_last x y z m = nonzero_of_opposite (new_at x y z) (new_at x z y)
          (new_swap_last n f g k agrees signs x z y) m

      swapped_first : (x y z : ℕ) → IsNonzero (new_at x y z) → IsNonzero (new_at y x z)
      swapped_first x y z m = nonzero_of_opposite (new_at x y z) (new_at y x z)
          (new_swap_first n f g k agrees signs y x z) m

      old_base : (x y z : ℕ) → x ≢ suc n → y ≢ suc n → z ≢ suc n → IsNonzero (new_at x y z) → IsNonzero (c x y z)
      old_base x y z nx ny nz m = subst IsNonzero (old_values n f g k agrees signs x y z nx ny nz) m

      new_base : (x y : ℕ) → IsNonzero (new_at x y (suc n)) → IsNonzero (s x y)
      new_base x y m = subst IsNonzero (new_values n f g k agrees signs x y) m

      -- x and the new element in a base with e, and a second base of which no element stands in a base with the two
      no_other_with_new : (x e a b d : ℕ) → IsNonzero (s x e) → IsNonzero (new_at a b d) → s x a ≡ Zero → s x b ≡ Zero
          → s x d ≡ Zero → ⊥
      no_other_with_new x e a b d ns nb za zb zd = elim (cases_eq d (suc n)) [
        | inl q ↦ relations.new_with_new c s (swap_first n f g k agrees signs) (swap_last n f g k agrees signs)
            (turn n f g k agrees signs) (three n f g k agrees signs rel relation spanned)
            (last n f g k agrees signs rel relation spanned) relation spanned
            (point_or_not n f g k agrees signs rel relation spanned) x e a b
            ns (new_base a b (subst (λ t. IsNonzero (new_at a b t)) q nb)) za zb
        | inr nd ↦ elim (cases_eq b (suc n)) [
          | inl q ↦ relations.new_with_new c s (swap_first n f g k agrees signs) (swap_last n f g k agrees signs)
              (turn n f g k agrees signs) (three n f g k agrees signs rel relation spanned)
              (last n f g k agrees signs rel relation spanned) relation spanned
              (point_or_not n f g k agrees signs rel relation spanned) x e a
              d ns (new_base a d (subst (λ t. IsNonzero (new_at a d t)) q (swapped_last a b d nb))) za zd
          | inr nbn ↦ elim (cases_eq a (suc n)) [
            | inl q ↦ relations.new_with_new c s (swap_first n f g k agrees signs) (swap_last n f g k agrees signs)
                (turn n f g k agrees signs) (three n f g k agrees signs rel relation spanned)
                (last n f g k agrees signs rel relation spanned) relation spanned
                (point_or_not n f g k agrees signs rel relation spanned) x e
                b d ns (new_base b d
                (subst (λ t. IsNonzero (new_at b d t)) q (swapped_last b a d (swapped_first a b d nb)))) zb zd
            | inr na ↦ relations.new_pair c s (swap_first n f g k agrees signs) (swap_last n f g k agrees signs)
                (turn n f g k agrees signs) (three n f g k agrees signs rel relation spanned)
                (last n f g k agrees signs rel relation spanned) relation spanned
                (point_or_not n f g k agrees signs rel relation spanned) x e a b
                d ns (old_base a b d na nbn nd nb) za zb zd
          ]
        ]
      ]

      no_other_of_old : (x y e a b d : ℕ) → x ≢ suc n → y ≢ suc n → IsNonzero (new_at x y e) → IsNonzero (new_at a b d)
          → new_at x y a ≡ Zero → new_at x y b ≡ Zero → new_at x y d ≡ Zero → ⊥
      no_other_of_old x y e a b d nx ny ne nb za zb zd = elim (cases_eq d (suc n)) [
        | inl q ↦ with_new a b (subst (λ t. IsNonzero (new_at a b t)) q nb) za zb
            (subst (λ t. new_at x y t ≡ Zero) q zd)
        | inr nd ↦ elim (cases_eq b (suc n)) [
          | inl q ↦ with_new a d (subst (λ t. IsNonzero (new_at a d t)) q (swapped_last a b d nb)) za zd
              (subst (λ t. new_at x y t ≡ Zero) q zb)
          | inr nbn ↦ elim (cases_eq a (suc n)) [
            | inl q ↦
                with_new b d (subst (λ t. IsNonzero (new_at b d t)) q (swapped_last b a d (swapped_first a b d nb))) zb
                zd (subst (λ t. new_at x y t ≡ Zero) q za)
            | inr na ↦
                let base = old_base a b d na nbn nd nb in
                let ca : c x y a ≡ Zero = sym (old_values n f g k agrees signs x y a nx ny na) ∙ za in
                let cb : c x y b ≡ Zero = sym (old_values n f g k agrees signs x y b nx ny nbn) ∙ zb in
                let cd : c x y d ≡ Zero = sym (old_values n f g k agrees signs x y d nx ny nd) ∙ zd in
                elim (cases_eq e (suc n)) [
                  | inl q ↦ let h = spanned x y (new_base x y (subst (λ t. IsNonzero (new_at x y t)) q ne)) in
                      relations.inner_pair c s (swap_first n f g k agrees signs) (swap_last n f g k agrees signs)
                      (turn n f g k agrees signs) (three n f g k agrees signs rel relation spanned)
                      (last n f g k agrees signs rel relation spanned) relation spanned
                      (point_or_not n f g k agrees signs rel relation spanned) x y
                      h.0 a b d h.1 base ca cb cd
                  | inr nen ↦
                      relations.inner_pair c s (swap_first n f g k agrees signs) (swap_last n f g k agrees signs)
                      (turn n f g k agrees signs) (three n f g k agrees signs rel relation spanned)
                      (last n f g k agrees signs rel relation spanned) relation spanned
                      (point_or_not n f g k agrees signs rel relation spanned) x y e
                      a b d (old_base x y e nx ny nen ne) base ca cb cd
                ]
          ]
        ]
      ]
        where
          with_new : (a b : ℕ) → IsNonzero (new_at a b (suc n)) → new_at x y a ≡ Zero → new_at x y b ≡ Zero
              → new_at x y (suc n) ≡ Zero → ⊥
          with_new a b m za zb z =
              let ns = new_base a b m in
              let na = first_old n f g k agrees signs a b ns in
              let nbn = second_old n f g k agrees signs a b ns in
              elim (cases_eq e (suc n)) [
                | inl q ↦ subst (λ t. IsNonzero (new_at x y t)) q ne z
                | inr nen ↦ relations.pair_with_new c s (swap_first n f g k agrees signs)
                    (swap_last n f g k agrees signs) (turn n f g k agrees signs)
                    (three n f g k agrees signs rel relation spanned) (last n f g k agrees signs rel relation spanned)
                    relation spanned
                    (point_or_not n f g k agrees signs rel relation spanned) x y e a b (old_base x y e nx ny nen ne) ns
                    (sym (old_values n f g k agrees signs x y a nx ny na) ∙ za)
                    (sym (old_values n f g k agrees signs x y b nx ny nbn) ∙ zb)
                    (sym (new_values n f g k agrees signs x y) ∙ z)
              ]

      no_other : (x y e a b d : ℕ) → IsNonzero (new_at x y e) → IsNonzero (new_at a b d) → new_at x y a ≡ Zero
          → new_at x y b ≡ Zero → new_at x y d ≡ Zero → ⊥
      no_other x y e a b d ne nb za zb zd = elim (cases_eq x (suc n)) [
        | inl q ↦
            let front : (t : ℕ) → new_at x y t ≡ s y t =
            λ t. subst (λ z. new_at z y t ≡ s y t) (sym q) (new_in_front n f g k agrees signs y t) in
            no_other_with_new y e a b d (subst IsNonzero (front e) ne) nb (sym (front a) ∙ za) (sym (front b) ∙ zb)
            (sym (front d) ∙ zd)
        | inr nx ↦ elim (cases_eq y (suc n)) [
          | inl q ↦
              let middle : (t : ℕ) → new_at x y t ≡ opposite (s x t) =
              λ t. subst (λ z. new_at x z t ≡ opposite (s x t)) (sym q) (new_in_middle n f g k agrees signs x t) in
              no_other_with_new x e a b d (nonzero_of_opposite (new_at x y e) (s x e) (middle e) ne) nb
              (opposite_zero_of (new_at x y a) (s x a) (middle a) za)
              (opposite_zero_of (new_at x y b) (s x b) (middle b) zb)
              (opposite_zero_of (new_at x y d) (s x d) (middle d) zd)
          | inr ny ↦ no_other_of_old x y e a b d nx ny ne nb za zb zd
        ]
      ]
        where
          opposite_zero_of : (u v : Sign) → u ≡ opposite v → u ≡ Zero → v ≡ Zero
          opposite_zero_of u v q z = grind arith

      abbrev Other : List ℕ → List ℕ → Type 0
      Other t b = (h : ℕ) × IsMember h b × IsNonzero (new (t ++ h ∷ []))

      other_of_three : (x y e a b d : ℕ) → IsNonzero (new_at x y e) → IsNonzero (new_at a b d)
          → Other (x ∷ y ∷ []) (a ∷ b ∷ d ∷ [])
      other_of_three x y e a b d ne nb = ⊎_elim
          (λ za. ⊎_elim
          (λ zb. ⊎_elim
          (λ zd. absurd (no_other x y e a b d ne nb za zb zd))
          (λ m. (d, inr (inr (inl refl)), m))
          (zero_or_nonzero (new_at x y d)))
          (λ m. (b, inr (inl refl), m))
          (zero_or_nonzero (new_at x y b)))
          (λ m. (a, inl refl, m))
          (zero_or_nonzero (new_at x y a))

      size_of : (t : List ℕ) → IsNonzero (new t) → length t ≡ 3
      size_of t m = (on_tuples_tuple (suc n) 3 k t m).size

      other : (t : List ℕ) (e : ℕ) (b : List ℕ) → IsNonzero (new (t ++ e ∷ [])) → IsNonzero (new b) → Other t b
      other (x ∷ y ∷ []) e (a ∷ b ∷ d ∷ []) ne nb = other_of_three x y e a b d ne nb
      other t e [] ne nb = let l = size_of [] nb in absurd (omega arith)
      other t e (a ∷ []) ne nb = let l = size_of (a ∷ []) nb in absurd (omega arith)
      other t e (a ∷ b ∷ []) ne nb = let l = size_of (a ∷ b ∷ []) nb in absurd (omega arith)
      other t e (a ∷ b ∷ d ∷ r ∷ q) ne nb = let l = size_of (a ∷ b ∷ d ∷ r ∷ q) nb in absurd (omega arith)
      other [] e b ne nb = let l = size_of (e ∷ []) ne in absurd (omega arith)
      other (x ∷ []) e b ne nb = let l = size_of (x ∷ e ∷ []) ne in absurd (omega arith)
      other (x ∷ y ∷ r ∷ q) e b ne nb = let l = size_of (x ∷ y ∷ r ∷ (q ++ e ∷ [])) ne in absurd (longer q l)
        where
          longer : (q : List ℕ) → length (x ∷ y ∷ r ∷ (q ++ e ∷ [])) ≡ 3 → ⊥
          longer [] l = omega arith
          longer (p ∷ q) l = omega arith

      exchange_new : HasExchange new
      exchange_new u e v b nu nb out =
          let o = other (u ++ v) e b (nonzero_to_end new (new_alternates n f g k agrees signs) u v e nu) nb in
          let base : IsNonzero (new (u ++ o.0 ∷ v)) =
          nonzero_from_end new (new_alternates n f g k agrees signs) u v o.0 o.2 in (
            o.0,
            o.1,
            λ m. ⊎_elim
                (λ q. out (subst (λ z. IsMember z b) q o.1))
                (λ j. (distinct_drop u o.0 v (nonzero_distinct new (new_alternates n f g k agrees signs) (u ++ o.0 ∷ v)
                base)).1 j)
                (member_drop o.0 u e v m),
            base,
          )

      pub relations_from_elements : HasRelations new
      relations_from_elements = three_term_relations new (new_alternates n f g k agrees signs) exchange_new
          (three_term_new n f g k agrees signs rel relation spanned)
