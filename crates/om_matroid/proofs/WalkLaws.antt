-- The walk over the sets of one size, by their places.
--
-- Main definitions: HasNoneBefore.
-- Main results: what holds at each place holds of each set (each_set); after the last place there is no set with a
-- property (none_at_all); what `find` gives is the first basis that contains one set and has no element of another
-- (first_between), and None where there is none (none_between).
use Rattle.std.specs.Prelude.{Option, Some, None, IsNone, ◌↔◌}
use Rattle.std.proofs.Common.{refl, true≢false, ℕ, ◌≡◌, ◌<◌, List, length, sym, subst, ◌∙◌}
use Rattle.om_subsets.specs.Subsets.{IsSubsetFrom, choose, rank_of, subset_at}
use Rattle.om_subsets.specs.Lists.{IsBefore}
use Rattle.om_subsets.specs.Members.{Chosen}
use Rattle.om_subsets.proofs.SetChains.{IsFirstSet, FindsFirst}
use Rattle.om_subsets.proofs.Order.{rank_from-lt, get_or-rank_from, lexicographic}
use Rattle.om_chirotope.specs.Map.{SignMap}
use Rattle.om_matroid.specs.Search.{IsBasisBetween, IsFirstBetween}

-- no set of r of the elements 1 to n at a place below k has the property
abbrev pub HasNoneBefore : (List ℕ → Type 0) → ℕ → ℕ → ℕ → Type 0
HasNoneBefore P n r k = (j : ℕ) → j < k → P (subset_at n r j) → ⊥

module _ (P : List ℕ → Type 0) (n r : ℕ) where
  -- a set stands at its place
  pub place_of : (b : List ℕ) → IsSubsetFrom 1 n b → length b ≡ r → (rank_of n b < choose n r)
      × (subset_at n r (rank_of n b) ≡ b)
  place_of b list size = (
    subst (λ k. rank_of n b < choose n k) size (rank_from-lt 1 n b list),
    subst (λ k. subset_at n k (rank_of n b) ≡ b) size (get_or-rank_from 1 n b list),
  )

  pub each_set : ((j : ℕ) → j < choose n r → P (subset_at n r j)) → (b : List ℕ) → IsSubsetFrom 1 n b → length b ≡ r
      → P b
  each_set h b list size = let p = place_of b list size in subst P p.1 (h (rank_of n b) p.0)

  -- if the property holds at no place below choose n r, no set of r of the elements 1 to n has it
  pub none_at_all : HasNoneBefore P n r (choose n r) → (b : List ℕ) → IsSubsetFrom 1 n b → length b ≡ r → P b → ⊥
  none_at_all h b list size p = let q = place_of b list size in h (rank_of n b) q.0 (subst P (sym q.1) p)

  -- nor does a set that comes before the one at place k
  pub none_earlier : (b c : List ℕ) → HasNoneBefore P n r (rank_of n b) → IsSubsetFrom 1 n b → length b ≡ r
      → IsSubsetFrom 1 n c → length c ≡ r → IsBefore c b → P c → ⊥
  none_earlier b c h blist bsize clist csize before p =
      let q = place_of c clist csize in
      h (rank_of n c) ((lexicographic 1 n c b clist blist (csize ∙ sym bsize)).0 before) (subst P (sym q.1) p)

module _ (m : SignMap) (inside outside : List ℕ) where
  abbrev IsBetween : List ℕ → Type 0
  IsBetween = IsBasisBetween m inside outside

  -- what `find` gives of the sets of as many elements as the rank
  abbrev pub FindsBetween : Option Chosen → Type 0
  FindsBetween = FindsFirst m.elements m.rank IsBetween (λ b. IsBetween b → ⊥)

  pub none_between : (o : Option Chosen) → FindsBetween o → IsNone o ↔ ((b : List ℕ) → IsBetween b → ⊥)
  none_between None h = (λ e b w. h.none b w.basis.list w.basis.size w, λ w. refl)
  none_between (Some x) h = (λ e. absurd (true≢false e), λ w. absurd (w x.elements h.first.yes))

  pub first_between : (a : Chosen) → IsFirstSet m.elements m.rank IsBetween (λ b. IsBetween b → ⊥) a
      → IsFirstBetween m inside outside a.elements
  first_between a h = record {
    between = h.yes;
    first = λ c other before. h.earlier c other.basis.list other.basis.size before other;
  }
