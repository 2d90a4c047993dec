-- Parallel elements, by what one walk over the bases tells.
--
-- Main definitions: IsSeenBefore, HasBoth, AreSeen.
-- Main results: what is seen after one set more (seen_more, seen_next); an element is seen by the end of the walk
-- exactly where it is no loop (no_loop); elements that stand in one basis are not parallel (not_parallel); where no
-- basis has both of two elements, they are parallel exactly where neither is a loop (parallel_at_last).
use Rattle.std.proofs.Common.{ℕ, ◌≡◌, ◌≢◌, ◌+◌, ◌<◌, ◌≤◌, ◌↔◌, ◌⊎◌, List, [], ◌∷◌, ◌++◌, length, refl, sym, ap, subst}
use Rattle.std.proofs.Common.{◌∙◌, inl, inr, arith, below_more, Bool, true, false, IsTrue, ◌||◌}
use Rattle.std.proofs.lemmas.Bool.{cases_eq, false≢true}
use Rattle.std.proofs.lemmas.List.{length-append}
use Rattle.om_subsets.specs.Members.{Chosen}
use Rattle.om_subsets.specs.Subsets.{IsSubsetFrom, IsMember, with_element, choose, rank_of, subset_at, IsPartOf}
use Rattle.om_subsets.proofs.Order.{members_from}
use Rattle.om_subsets.proofs.Statements.{subset_is_increasing, members_with}
use Rattle.om_laws.proofs.SortingLaws.{increasing_distinct}
use Rattle.om_chirotope.specs.Map.{SignMap}
use Rattle.om_chirotope.proofs.Cocircuits.{length-with}
use Rattle.om_chirotope.proofs.Theory.{lawful_with}
use Rattle.om_matroid.specs.Bases.{IsRankOf, IsLoop, AreParallel}
use Rattle.om_chirotope.specs.ThreeTerm.{IsBasis}
use Rattle.om_matroid.proofs.WalkLaws.{HasNoneBefore, none_at_all, place_of}

-- the basis at some place below k has e
abbrev pub IsSeenBefore : SignMap → ℕ → ℕ → Type 0
IsSeenBefore m e k = (j : ℕ) × (j < k) × IsBasis m (subset_at m.elements m.rank j)
    × IsMember e (subset_at m.elements m.rank j)

-- a basis that has both elements
abbrev pub HasBoth : SignMap → ℕ → ℕ → List ℕ → Type 0
HasBoth m e f b = IsBasis m b × IsMember e b × IsMember f b

-- one set more, where its basis is looked at if the element wasn't seen yet
pub seen_more : (m : SignMap) (e k : ℕ) (b : List ℕ) (seen here : Bool) → b ≡ subset_at m.elements m.rank k
    → IsTrue seen ↔ IsSeenBefore m e k → IsTrue here ↔ (IsBasis m b × IsMember e b)
    → IsTrue (seen || here) ↔ IsSeenBefore m e (k + 1)
seen_more m e k b true here place was at =
    (λ n. let s = was.0 refl in (s.0, (let l = s.1 in omega arith), s.2, s.3), λ s. refl)
seen_more m e k b false here place was at = (
  λ n. let h = at.0 n in (k, omega arith, subst (IsBasis m) place h.0, subst (IsMember e) place h.1),
  λ s. elim (cases_eq s.0 k) [
    | inl q ↦
        at.1 (
          subst (IsBasis m) (ap (subset_at m.elements m.rank) q ∙ sym place) s.2,
          subst (IsMember e) (ap (subset_at m.elements m.rank) q ∙ sym place) s.3,
        )
    | inr n ↦ absurd (false≢true (was.1 (s.0, (let l = s.1 in omega arith), s.2, s.3)))
  ],
)

-- what the bases at the places below k say: whether each of two elements is in one, and that none has both
pub record AreSeen (m : SignMap) (e f k : ℕ) (first second : Bool) : Type 0 where
  pub one : IsTrue first ↔ IsSeenBefore m e k
  pub other : IsTrue second ↔ IsSeenBefore m f k
  pub apart : e ≢ f → HasNoneBefore (HasBoth m e f) m.elements m.rank k

-- the same after one set more, which no basis with both elements is, for `parallel`
pub seen_next : (m : SignMap) (e f : ℕ) (xs : List Chosen) (b : Chosen) (first second here there : Bool)
    → b.elements ≡ subset_at m.elements m.rank (length xs)
    → IsTrue here ↔ (IsBasis m b.elements × IsMember e b.elements)
    → IsTrue there ↔ (IsBasis m b.elements × IsMember f b.elements) → (IsTrue here → IsTrue there → e ≡ f)
    → AreSeen m e f (length xs) first second
    → AreSeen m e f (length (xs ++ b ∷ [])) (first || here) (second || there)
seen_next m e f xs b first second here there place at_e at_f same h = rw (length-append xs (b ∷ [])) (record {
  one = seen_more m e (length xs) b.elements first here place h.one at_e;
  other = seen_more m f (length xs) b.elements second there place h.other at_f;
  apart = λ ne. below_more _ _ (h.apart ne) (λ both.
      let basis = subst (IsBasis m) (sym place) both.0 in
      ne
      (same (at_e.1 (basis, subst (IsMember e) (sym place) both.1))
      (at_f.1 (basis, subst (IsMember f) (sym place) both.2))));
})

module _ (m : SignMap) (e : ℕ) where
  pub no_loop : (seen : Bool) → IsTrue seen ↔ IsSeenBefore m e (choose m.elements m.rank) → IsTrue seen
      ↔ (IsLoop m e → ⊥)
  no_loop true both = (λ t loop. let s = both.0 t in loop (subset_at m.elements m.rank s.0) s.2 s.3, λ n. refl)
  no_loop false both = (λ t. absurd (false≢true t), λ n. absurd (n unseen))
    where
      unseen : IsLoop m e
      unseen b basis k =
          let p = place_of (IsBasis m) m.elements m.rank b basis.list basis.size in
          false≢true
          (both.1 (rank_of m.elements b, p.0, subst (IsBasis m) (sym p.1) basis, subst (IsMember e) (sym p.1) k))

module _ (m : SignMap) (e f : ℕ) where
  -- an increasing list of both, where they stand in one basis
  pub not_parallel : e ≢ f → (b : List ℕ) → HasBoth m e f b → AreParallel m e f → ⊥
  not_parallel ne b (basis, k, l) parallel =
      let low = members_from 1 m.elements e b basis.list k in
      let high = members_from 1 m.elements f b basis.list l in
      let list = lawful_with 1 m.elements e (f ∷ []) (lawful_with 1 m.elements f [] tt (omega arith) (omega arith))
      (omega arith) (omega arith) in
      let few = parallel.rank.greatest (with_element e (f ∷ []))
      (record {
        list = list;
        part = λ g q. (members_with e g (f ∷ [])).0 q;
        independent =
            (b, basis, λ g q. either g ((members_with e g (f ∷ [])).0 q));
      }) in
      let size : length (with_element e (f ∷ [])) ≡ length (f ∷ []) + 1 = length-with e (f ∷ []) other in
      absurd (omega arith)
    where
      either : (g : ℕ) → (g ≡ e) ⊎ IsMember g (f ∷ []) → IsMember g b
      either g (inl p) = subst (λ x. IsMember x b) (sym p) k
      either g (inr (inl p)) = subst (λ x. IsMember x b) (sym p) l
      either g (inr (inr none)) = absurd none

      other : IsMember e (f ∷ []) → ⊥
      other (inl p) = ne p
      other (inr none) = none

  module _ (apart : e ≢ f → (b : List ℕ) → HasBoth m e f b → ⊥) where
    -- two elements of a basis that are e or f
    two : (b : List ℕ) (x y : ℕ) → IsBasis m b → (x ≡ y → ⊥) → IsMember x (e ∷ f ∷ []) → IsMember y (e ∷ f ∷ [])
        → IsMember x b → IsMember y b → ⊥
    two b x y basis ne (inl p) (inl q) k l = ne (p ∙ sym q)
    two b x y basis ne (inl p) (inr (inl q)) k l =
        apart (λ s. ne (p ∙ s ∙ sym q)) b (basis, subst (λ g. IsMember g b) p k, subst (λ g. IsMember g b) q l)
    two b x y basis ne (inr (inl p)) (inl q) k l =
        apart (λ s. ne (p ∙ sym s ∙ sym q)) b (basis, subst (λ g. IsMember g b) q l, subst (λ g. IsMember g b) p k)
    two b x y basis ne (inr (inl p)) (inr (inl q)) k l = ne (p ∙ sym q)
    two b x y basis ne (inr (inr none)) h k l = none
    two b x y basis ne h (inr (inr none)) k l = none

    short : (t : List ℕ) → IsSubsetFrom 1 m.elements t → IsPartOf t (e ∷ f ∷ []) → (b : List ℕ) × IsBasis m b
        × IsPartOf t b → length t ≤ 1
    short [] list part h = omega arith
    short (x ∷ []) list part h = omega arith
    short (x ∷ y ∷ t) list part (b, basis, inside) =
        let distinct = increasing_distinct (x ∷ y ∷ t) ((subset_is_increasing m.elements (x ∷ y ∷ t)).0 list).0 in
        absurd (two b x y basis (λ q. distinct.0 (inl q)) (part x (inl refl)) (part y (inr (inl refl)))
        (inside x (inl refl)) (inside y (inr (inl refl))))

    rank_one : (b : List ℕ) → IsBasis m b → IsMember e b → IsRankOf m (e ∷ f ∷ []) 1
    rank_one b basis k = let bound = members_from 1 m.elements e b basis.list k in record {
      reached = (
        e ∷ [],
        record {
          list = lawful_with 1 m.elements e [] tt (omega arith) (omega arith);
          part =
              λ g q. first g q;
          independent = (b, basis, λ g q. only g q);
        },
        refl,
      );
      greatest = λ t p. short t p.list p.part p.independent;
    }
      where
        first : (g : ℕ) → IsMember g (e ∷ []) → IsMember g (e ∷ f ∷ [])
        first g (inl p) = inl p
        first g (inr none) = absurd none

        only : (g : ℕ) → IsMember g (e ∷ []) → IsMember g b
        only g (inl p) = subst (λ x. IsMember x b) (sym p) k
        only g (inr none) = absurd none

  pub parallel_at_last : (first second : Bool) → IsTrue first ↔ IsSeenBefore m e (choose m.elements m.rank)
      → IsTrue second ↔ IsSeenBefore m f (choose m.elements m.rank)
      → (e ≢ f → HasNoneBefore (HasBoth m e f) m.elements m.rank (choose m.elements m.rank)) → IsTrue first
      → IsTrue second ↔ AreParallel m e f
  parallel_at_last first second one other none seen = (
    λ t.
        let s = one.0 seen in
        record {
          first = (no_loop m e first one).0 seen;
          second = (no_loop m f second other).0 t;
          rank = rank_one (λ ne b h. none_at_all (HasBoth m e f) m.elements m.rank (none ne) b h.0.list h.0.size h)
              (subset_at m.elements m.rank s.0) s.2 s.3;
        },
    λ parallel. (no_loop m f second other).1 parallel.second,
  )

  pub loop_not_parallel : (first : Bool) → IsTrue first ↔ IsSeenBefore m e (choose m.elements m.rank) → first ≡ false
      → AreParallel m e f → ⊥
  loop_not_parallel first one unseen parallel = false≢true (sym unseen ∙ (no_loop m e first one).1 parallel.first)
