-- Violated three-term relations: the frame that a list of four elements makes, and the first violated relation.
--
-- Main definitions: AreInOrder
-- Main results: balanced_or_not, not_true, not_from, frame_of, in_order, unbalanced_at, of_four, none_of_p, first_of_p,
-- relations_of_none, first_of_least, some_unbalanced
use Rattle.std.specs.Prelude.{ℕ, ◌≡◌, ◌+◌, ◌-◌, ◌<◌, ◌≤◌, ◌↔◌, ◌⊎◌, List, [], ◌∷◌, length, Bool, true, false, IsTrue}
use Rattle.std.specs.Prelude.{Option, Some, None, is_some, IfNone, IfSome}
use Rattle.std.proofs.Common.{refl, sym, ◌∙◌, ap, arith, inl, inr, subst, ⊎_elim, not}
use Rattle.std.proofs.lemmas.Bool.{false≢true}
use Rattle.om_signs.specs.declared.sign.Sign.{Sign}
use Rattle.om_signs.specs.declared.sign.Sign.TheVariants.{Minus, Zero, Plus}
use Rattle.om_subsets.specs.Subsets.{AreApart, choose, subset_at, rank_of, IsSubsetFrom, IsMember}
use Rattle.om_subsets.specs.Members.{Chosen}
use Rattle.om_subsets.proofs.Order.{listed}
use Rattle.om_subsets.proofs.Statements.{subset_is_increasing}
use Rattle.om_laws.specs.ThreeTerm.{AreBalanced}
use Rattle.om_chirotope.specs.Map.{SignMap}
use Rattle.om_chirotope.specs.ThreeTerm.{IsFrame, HasThreeTermRelations}
use Rattle.om_matroid.proofs.WalkLaws.{HasNoneBefore, none_at_all, none_earlier}
use Rattle.om_parallel.specs.FirstBad.{IsNoneBad, IsLeastBad}
use Rattle.om_threeterm.specs.Violations.{HasRelation, IsUnbalancedList, IsFirstUnbalanced, IsFirstUnbalancedOf}
use Rattle.om_threeterm.specs.Sets.{IsUnbalancedAt}

-- ---- the balance of three signs

-- three signs are balanced or not
pub balanced_or_not : (x y z : Sign) → AreBalanced x y z ⊎ (AreBalanced x y z → ⊥)
balanced_or_not Plus Minus s = inl tt
balanced_or_not Plus Zero Minus = inl tt
balanced_or_not Plus Zero Zero = inr (λ h. h)
balanced_or_not Plus Zero Plus = inr (λ h. h)
balanced_or_not Plus Plus Minus = inl tt
balanced_or_not Plus Plus Zero = inr (λ h. h)
balanced_or_not Plus Plus Plus = inr (λ h. h)
balanced_or_not Minus Plus s = inl tt
balanced_or_not Minus Zero Plus = inl tt
balanced_or_not Minus Zero Zero = inr (λ h. h)
balanced_or_not Minus Zero Minus = inr (λ h. h)
balanced_or_not Minus Minus Plus = inl tt
balanced_or_not Minus Minus Zero = inr (λ h. h)
balanced_or_not Minus Minus Minus = inr (λ h. h)
balanced_or_not Zero Plus Minus = inl tt
balanced_or_not Zero Plus Zero = inr (λ h. h)
balanced_or_not Zero Plus Plus = inr (λ h. h)
balanced_or_not Zero Minus Plus = inl tt
balanced_or_not Zero Minus Zero = inr (λ h. h)
balanced_or_not Zero Minus Minus = inr (λ h. h)
balanced_or_not Zero Zero Zero = inl tt
balanced_or_not Zero Zero Plus = inr (λ h. h)
balanced_or_not Zero Zero Minus = inr (λ h. h)

-- ---- the frame of a list of four elements

-- the test that is negated
pub not_true : (r : Bool) → IsTrue (not r) → IsTrue r → ⊥
not_true true t h = false≢true t
not_true false t h = false≢true h

pub not_from : (r : Bool) → (IsTrue r → ⊥) → IsTrue (not r)
not_from true n = absurd (n refl)
not_from false n = refl

pub frame_of : (m : SignMap) (p q : List ℕ) (a b c d : ℕ) → IsSubsetFrom 1 m.elements p → length p + 2 ≡ m.rank
    → IsSubsetFrom 1 m.elements q → q ≡ a ∷ b ∷ c ∷ d ∷ [] → AreApart p q → IsFrame m p a b c d
frame_of m p q a b c d list size four is apart = record {
  list = list;
  size = size;
  four = subst (IsSubsetFrom 1 m.elements) is four;
  a_off = off a (inl refl);
  b_off = off b (inr (inl refl));
  c_off = off c (inr (inr (inl refl)));
  d_off = off d (inr (inr (inr (inl refl))));
}
  where
    off : (e : ℕ) → IsMember e (a ∷ b ∷ c ∷ d ∷ []) → IsMember e p → ⊥
    off e k j = apart e j (subst (IsMember e) (sym is) k)

-- the order of the four elements of a list
pub record AreInOrder (n a b c d : ℕ) : Type 0 where
  pub low : 1 ≤ a
  pub a_b : a < b
  pub b_c : b < c
  pub c_d : c < d
  pub high : d ≤ n

pub in_order : (n : ℕ) (q : List ℕ) (a b c d : ℕ) → IsSubsetFrom 1 n q → q ≡ a ∷ b ∷ c ∷ d ∷ [] → AreInOrder n a b c d
in_order n q a b c d four is =
    let list = (subset_is_increasing n (a ∷ b ∷ c ∷ d ∷ [])).0 (subst (IsSubsetFrom 1 n) is four) in
    record {
      low = (list.1 a (inl refl)).0;
      a_b = list.0.0;
      b_c = list.0.1.0;
      c_d = list.0.1.1.0;
      high = (list.1 d (inr (inr (inr (inl refl))))).1;
    }

-- the relation of a list of four elements is that of its elements
pub unbalanced_at : (m : SignMap) (p q : List ℕ) (a b c d : ℕ) → q ≡ a ∷ b ∷ c ∷ d ∷ [] → IsUnbalancedList m p q
    → HasRelation m p a b c d → ⊥
unbalanced_at m p q a b c d is (a', b', c', d', is', u) h = u.violated (moved (sym is ∙ is'))
  where
    moved : a ∷ b ∷ c ∷ d ∷ [] ≡ a' ∷ b' ∷ c' ∷ d' ∷ [] → HasRelation m p a' b' c' d'
    moved e =
        let ea : a ≡ a' = cc in
        let eb : b ≡ b' = cc in
        let ec : c ≡ c' = cc in
        let ed : d ≡ d' = cc in
        subst (λ k. HasRelation m p k b' c' d') ea
        (subst (λ k. HasRelation m p a k c' d') eb
        (subst (λ k. HasRelation m p a b k d') ec (subst (λ k. HasRelation m p a b c k) ed h)))

module _ (m : SignMap) where
  -- ---- all sets of four elements

  pub of_four : (p q : List ℕ) → IsUnbalancedList m p q → IsSubsetFrom 1 m.elements q × (length q ≡ 4)
  of_four p q (a, b, c, d, is, u) = (subst (IsSubsetFrom 1 m.elements) (sym is) u.frame.four, ap length is)

  pub none_of_p : (p : List ℕ) (k : ℕ) → choose m.elements 4 ≤ k → HasNoneBefore (IsUnbalancedList m p) m.elements 4 k
      → (q : List ℕ) → IsUnbalancedList m p q → ⊥
  none_of_p p k le none q u =
      let four = of_four p q u in
      none_at_all (IsUnbalancedList m p) m.elements 4 (λ j l. none j (omega arith)) q four.0 four.1 u

  pub first_of_p : (p : List ℕ) (q : Chosen) (k : ℕ) → k < choose m.elements 4 → q.n ≡ m.elements
      → q.elements ≡ subset_at m.elements 4 k → IsUnbalancedList m p q.elements
      → HasNoneBefore (IsUnbalancedList m p) m.elements 4 k → IsFirstUnbalancedOf m p q
  first_of_p p q k l qn qe u none = record {
    q_n = qn;
    violated = u;
    earlier_q = λ t before v.
        let here = of_four p q.elements u in
        let there = of_four p t v in
        none_earlier (IsUnbalancedList m p) m.elements 4 q.elements t
        (subst (HasNoneBefore (IsUnbalancedList m p) m.elements 4) (sym place) none) here.0 here.1 there.0 there.1
        before v;
  }
    where
      place : rank_of m.elements q.elements ≡ k
      place = ap (rank_of m.elements) qe ∙ (listed 1 m.elements 4 k l).place

  -- ---- all lists P

  -- some relation of a list is violated
  abbrev IsBad : List ℕ → Type 0
  IsBad p = (q : List ℕ) × IsUnbalancedList m p q

  list_of : (p q : List ℕ) → 2 ≤ m.rank → IsUnbalancedList m p q → IsSubsetFrom 1 m.elements p × (length p ≡ m.rank - 2)
  list_of p q low (a, b, c, d, is, u) = let size = u.frame.size in (u.frame.list, omega arith)

  none_below : (k : ℕ) → IsNoneBad (IsUnbalancedAt m) 0 k → k ≤ choose m.elements (m.rank - 2)
      → HasNoneBefore IsBad m.elements (m.rank - 2) k
  none_below k none le j l bad = none j (omega arith) l (omega arith, bad)

  relations_of_no_violated : ((p q : List ℕ) → IsUnbalancedList m p q → ⊥) → HasThreeTermRelations m
  relations_of_no_violated none p a b c d frame =
      ⊎_elim (λ h. h)
      (λ n. absurd (none p (a ∷ b ∷ c ∷ d ∷ []) (a, b, c, d, refl, record { frame = frame; violated = n })))
      (balanced_or_not _ _ _)

  pub relations_of_none : (count : ℕ) → 2 ≤ m.rank → count ≡ choose m.elements (m.rank - 2)
      → IsNoneBad (IsUnbalancedAt m) 0 count → HasThreeTermRelations m
  relations_of_none count low is none = relations_of_no_violated (λ p q u.
      let list = list_of p q low u in
      none_at_all IsBad m.elements (m.rank - 2)
      (subst (HasNoneBefore IsBad m.elements (m.rank - 2)) is (none_below count none (omega arith))) p list.0 list.1
      (q, u))

  pub first_of_least : (count k : ℕ) (p q : Chosen) → 2 ≤ m.rank → count ≡ choose m.elements (m.rank - 2)
      → IsLeastBad (IsUnbalancedAt m) 0 count k → p.n ≡ m.elements → p.elements ≡ subset_at m.elements (m.rank - 2) k
      → IsFirstUnbalancedOf m p.elements q → IsFirstUnbalanced m p q
  first_of_least count k p q low is least pn pe first = record {
    p_n = pn;
    first = first;
    earlier_p = λ s t before u.
        let here = list_of p.elements q.elements low first.violated in
        let there = list_of s t low u in
        none_earlier IsBad m.elements (m.rank - 2) p.elements s before_p here.0 here.1 there.0 there.1 before (t, u);
  }
    where
      below : k < choose m.elements (m.rank - 2)
      below = let l = least.below in omega arith

      place : rank_of m.elements p.elements ≡ k
      place = ap (rank_of m.elements) pe ∙ (listed 1 m.elements (m.rank - 2) k below).place

      before_p : HasNoneBefore IsBad m.elements (m.rank - 2) (rank_of m.elements p.elements)
      before_p = subst (HasNoneBefore IsBad m.elements (m.rank - 2)) (sym place)
          (none_below k least.earlier (omega (arith, below)))

  -- whether some relation of the list P at place k is violated, by the first one
  pub some_unbalanced : (k : ℕ) (p : List ℕ) (r : Option Chosen) → k < choose m.elements (m.rank - 2)
      → p ≡ subset_at m.elements (m.rank - 2) k → IfNone r ((q : List ℕ) → IsUnbalancedList m p q → ⊥)
      → IfSome r (λ q. IsFirstUnbalancedOf m p q)
      → IsTrue (is_some r) ↔ IsUnbalancedAt m k
  some_unbalanced k p None few is none first = (
    λ t. absurd (false≢true t),
    λ bad. absurd (none bad.1.0 (subst (λ x. IsUnbalancedList m x bad.1.0) (sym is) bad.1.1)),
  )
  some_unbalanced k p (Some q) few is none first = (
    λ t. (few, (q.elements, subst (λ x. IsUnbalancedList m x q.elements) is first.violated)),
    λ b. refl,
  )
