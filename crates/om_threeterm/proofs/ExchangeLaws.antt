-- Violated exchanges: the first of a set, and the first of all.
--
-- Main definitions: place_pair
-- Main results: no_element_zero, at_its_place, none_of_best, first_of_best, exchange_of_no_violated, exchange_of_none,
-- first_of_least, some_unexchanged
use Rattle.std.specs.Prelude.{ℕ, ◌≡◌, ◌+◌, ◌<◌, ◌≤◌, ◌↔◌, ◌⊎◌, List, length, IsTrue, Option, Some, None, is_some}
use Rattle.std.specs.Prelude.{IfNone, IfSome}
use Rattle.std.proofs.Common.{refl, sym, ◌∙◌, ap, arith, inl, inr, subst, ⊎_elim}
use Rattle.std.proofs.lemmas.Bool.{false≢true}
use Rattle.om_signs.proofs.SignLaws.{zero_or_nonzero}
use Rattle.om_subsets.specs.Subsets.{choose, subset_at, rank_of, IsSubsetFrom, IsMember, with_element, without_element}
use Rattle.om_subsets.specs.Members.{Chosen}
use Rattle.om_subsets.proofs.OneElement.{subset_without}
use Rattle.om_subsets.proofs.Order.{members_from, listed}
use Rattle.om_subsets.proofs.Statements.{members_without}
use Rattle.om_laws.proofs.MemberLaws.{member_or_not, search_members}
use Rattle.om_chirotope.specs.Map.{SignMap, value_of}
use Rattle.om_chirotope.specs.ThreeTerm.{IsBasis, HasExchange}
use Rattle.om_chirotope.proofs.Circuits.{length-without}
use Rattle.om_chirotope.proofs.Cocircuits.{length-with}
use Rattle.om_chirotope.proofs.Theory.{lawful_with}
use Rattle.om_matroid.proofs.WalkLaws.{HasNoneBefore, place_of, none_at_all, none_earlier}
use Rattle.om_parallel.specs.FirstBad.{IsNoneBad, IsLeastBad}
use Rattle.om_threeterm.specs.Violations.{IsExchanged, IsUnexchanged, IsFirstUnexchanged, IsFirstUnexchangedOf}
use Rattle.om_threeterm.specs.Sets.{IsUnexchangedAt}
use Rattle.om_threeterm.proofs.ExchangePlaces.{IsBestBefore}

module _ (m : SignMap) where
  -- ---- a set and all bases

  abbrev pub place_pair : List ℕ → ℕ → ℕ → Type 0
  place_pair b j x = IsUnexchanged m b (subset_at m.elements m.rank j) x

  pub no_element_zero : (b : List ℕ) (j x : ℕ) → x < 1 → place_pair b j x → ⊥
  no_element_zero b j x l h =
      let low = (members_from 1 m.elements x b h.first.list h.inside).0 in
      absurd (omega arith)

  -- the places of a violated exchange
  pub at_its_place : (b c : List ℕ) (e : ℕ) → IsUnexchanged m b c e → (rank_of m.elements c < choose m.elements m.rank)
      × place_pair b (rank_of m.elements c) e
  at_its_place b c e h =
      let p = place_of (λ d. IsUnexchanged m b d e) m.elements m.rank c h.second.list h.second.size in
      (p.0, subst (λ d. IsUnexchanged m b d e) (sym p.1) h)

  pub none_of_best : (b : List ℕ) (limit e : ℕ) → m.elements + 1 ≤ e
      → IsBestBefore (place_pair b) (choose m.elements m.rank) limit e None → (c : List ℕ) (x : ℕ)
      → IsUnexchanged m b c x → ⊥
  none_of_best b limit e over h c x u =
      let p = at_its_place b c x u in
      let high = (members_from 1 m.elements x b u.first.list u.inside).1 in
      let all = h.found_is in
      let below = p.0 in
      h.none_below (rank_of m.elements c) x (omega arith) (omega arith) p.1

  pub first_of_best : (b : List ℕ) (limit e x : ℕ) (c : Chosen) → m.elements + 1 ≤ e → c.n ≡ m.elements
      → c.elements ≡ subset_at m.elements m.rank limit
      → IsBestBefore (place_pair b) (choose m.elements m.rank) limit e (Some x) → IsFirstUnexchangedOf m b c x
  first_of_best b limit e x c over cn ce h =
      let found = h.found_is in
      let here : IsUnexchanged m b c.elements x = subst (λ d. IsUnexchanged m b d x) (sym ce) found.here in
      record {
        c_n = cn;
        violated = here;
        earlier_c = λ d y before u.
            let high = (members_from 1 m.elements y b u.first.list u.inside).1 in
            none_earlier (λ a. IsUnexchanged m b a y) m.elements m.rank c.elements d
            (λ j l. h.none_below j y (place_below j l) (omega arith))
            here.second.list here.second.size u.second.list u.second.size before u;
        earlier_e = λ y l u. found.earlier y l (subst (λ d. IsUnexchanged m b d y) ce u);
      }
    where
      place_below : (j : ℕ) → j < rank_of m.elements c.elements → j < limit
      place_below j l =
          let found = h.found_is in
          let within = found.within in
          let same : rank_of m.elements c.elements ≡ limit = ap (rank_of m.elements) ce ∙ place_at limit within in
          omega arith
        where
          place_at : (k : ℕ) → k < choose m.elements m.rank → rank_of m.elements (subset_at m.elements m.rank k) ≡ k
          place_at k l = (listed 1 m.elements m.rank k l).place

  -- ---- all sets

  -- a violated exchange is found, or there is none
  exchanged_or_not : (b c : List ℕ) (e : ℕ) → IsBasis m b → IsBasis m c → IsMember e b → IsExchanged m b c e
      ⊎ (IsExchanged m b c e → ⊥)
  exchanged_or_not b c e first second inside = go (search_members P N each c)
    where
      rest : List ℕ
      rest = without_element e b

      P : ℕ → Type 0
      P f = (IsMember f b → ⊥) × IsBasis m (with_element f rest)

      N : ℕ → Type 0
      N f = IsMember f c → P f → ⊥

      go : ((f : ℕ) × IsMember f c × P f) ⊎ ((f : ℕ) → IsMember f c → N f) → IsExchanged m b c e
          ⊎ (IsExchanged m b c e → ⊥)
      go (inl x) = inl (x.0, x.1, x.2.0, x.2.1)
      go (inr n) = inr (λ x. n x.0 x.1 x.1 (x.2, x.3))

      each : (f : ℕ) → P f ⊎ N f
      each f = ⊎_elim (λ k. member k (member_or_not f b)) (λ n. inr (λ k p. n k)) (member_or_not f c)
        where
          member : IsMember f c → IsMember f b ⊎ (IsMember f b → ⊥) → P f ⊎ N f
          member k (inl i) = inr (λ j p. p.0 i)
          member k (inr n) =
              ⊎_elim (λ z. inr (λ j p. p.1.nonzero z))
              (λ nz. inl (n, record { list = lawful; size = size; nonzero = nz }))
              (zero_or_nonzero (value_of m (with_element f rest)))
            where
              lawful : IsSubsetFrom 1 m.elements (with_element f rest)
              lawful =
                  let bound = members_from 1 m.elements f c second.list k in
                  lawful_with 1 m.elements f rest (subset_without 1 m.elements e b first.list) bound.0 bound.1

              size : length (with_element f rest) ≡ m.rank
              size = length-with f rest (λ j. n ((members_without e f b).0 j).1)
                  ∙ length-without 1 m.elements e b first.list inside ∙ first.size

  -- a map without a violated exchange has exchange of bases
  pub exchange_of_no_violated : ((b c : List ℕ) (e : ℕ) → IsUnexchanged m b c e → ⊥) → HasExchange m
  exchange_of_no_violated none b c e first second inside outside =
      ⊎_elim (λ x. x)
      (λ n. absurd
      (none b c e (record { first = first; second = second; inside = inside; outside = outside; violated = n })))
      (exchanged_or_not b c e first second inside)

  -- some exchange of a set is violated
  abbrev IsBad : List ℕ → Type 0
  IsBad b = (c : List ℕ) × (e : ℕ) × IsUnexchanged m b c e

  none_below : (k : ℕ) → IsNoneBad (IsUnexchangedAt m) 0 k → k ≤ choose m.elements m.rank
      → HasNoneBefore IsBad m.elements m.rank k
  none_below k none le j l bad = none j (omega arith) l (omega arith, bad)

  pub exchange_of_none : (count : ℕ) → count ≡ choose m.elements m.rank → IsNoneBad (IsUnexchangedAt m) 0 count
      → HasExchange m
  exchange_of_none count is none = exchange_of_no_violated (λ b c e u.
      none_at_all IsBad m.elements m.rank
      (subst (HasNoneBefore IsBad m.elements m.rank) is (none_below count none (omega arith))) b u.first.list
      u.first.size (c, e, u))

  pub first_of_least : (count k e : ℕ) (b c : Chosen) → count ≡ choose m.elements m.rank
      → IsLeastBad (IsUnexchangedAt m) 0 count k → b.n ≡ m.elements → b.elements ≡ subset_at m.elements m.rank k
      → IsFirstUnexchangedOf m b.elements c e → IsFirstUnexchanged m b c e
  first_of_least count k e b c is least bn be first = record {
    b_n = bn;
    first = first;
    earlier_b = λ t d x before u.
        none_earlier IsBad m.elements m.rank b.elements t before_b first.violated.first.list first.violated.first.size
        u.first.list u.first.size before (d, x, u);
  }
    where
      below : k < choose m.elements m.rank
      below = let l = least.below in omega arith

      place : rank_of m.elements b.elements ≡ k
      place = ap (rank_of m.elements) be ∙ (listed 1 m.elements m.rank k below).place

      before_b : HasNoneBefore IsBad m.elements m.rank (rank_of m.elements b.elements)
      before_b = subst (HasNoneBefore IsBad m.elements m.rank) (sym place)
          (none_below k least.earlier (omega (arith, below)))

  -- whether some exchange of the set at place k is violated, by the first one
  pub some_unexchanged : (k : ℕ) (b : List ℕ) (r : Option (Chosen × ℕ)) → k < choose m.elements m.rank
      → b ≡ subset_at m.elements m.rank k → IfNone r ((c : List ℕ) (e : ℕ) → IsUnexchanged m b c e → ⊥)
      → IfSome r (λ x. IsFirstUnexchangedOf m b x.0 x.1)
      → IsTrue (is_some r) ↔ IsUnexchangedAt m k
  some_unexchanged k b None few is none first = (
    λ t. absurd (false≢true t),
    λ bad. absurd (none bad.1.0 bad.1.1 (subst (λ x. IsUnexchanged m x bad.1.0 bad.1.1) (sym is) bad.1.2)),
  )
  some_unexchanged k b (Some (c, e)) few is none first = (
    λ t. (few, (c.elements, e, subst (λ x. IsUnexchanged m x c.elements e) is first.violated)),
    λ y. refl,
  )
