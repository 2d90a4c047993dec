-- The rank of a set, as the most elements that it has in common with a basis.
--
-- Main definitions: IsRankBefore.
-- Main results: the empty set has the first rank (rank_at_first); a basis with more elements raises the rank
-- (rank_raised), and others keep it (rank_kept_small, rank_kept_other); after the last set it is the rank
-- (rank_at_last).
use Rattle.std.proofs.Common.{ℕ, ◌≡◌, ◌+◌, ◌<◌, ◌≤◌, ◌↔◌, List, [], length, refl, sym, subst, inl, inr, arith}
use Rattle.std.proofs.lemmas.Bool.{cases_eq}
use Rattle.om_subsets.specs.Subsets.{IsSubsetFrom, IsMember, choose, subset_at, IsPartOf}
use Rattle.om_chirotope.specs.Map.{SignMap}
use Rattle.om_chirotope.specs.Chirotope.{IsChirotope}
use Rattle.om_matroid.specs.Bases.{IsIndependentPart, IsRankOf}
use Rattle.om_chirotope.specs.ThreeTerm.{IsBasis}
use Rattle.om_matroid.proofs.ListLaws.{length_of_part}
use Rattle.om_matroid.proofs.WalkLaws.{each_set}

-- no part of the set in the basis at place j has more than k elements
abbrev pub IsBoundAt : SignMap → List ℕ → ℕ → ℕ → Type 0
IsBoundAt m s k j = IsBasis m (subset_at m.elements m.rank j) → (t : List ℕ) → IsSubsetFrom 1 m.elements t
    → IsPartOf t s → IsPartOf t (subset_at m.elements m.rank j) → length t ≤ k

-- some independent part has k elements, and none in a basis at a place below i has more
pub record IsRankBefore (m : SignMap) (s : List ℕ) (i k : ℕ) : Type 0 where
  pub reached : (t : List ℕ) × IsIndependentPart m s t × (length t ≡ k)
  pub greatest : (j : ℕ) → j < i → IsBoundAt m s k j

pub some_basis : (m : SignMap) → IsChirotope m → (b : List ℕ) × IsBasis m b
some_basis m c = (c.nonzero.0, record { list = c.nonzero.1; size = c.nonzero.2; nonzero = c.nonzero.3 })

pub rank_at_first : (m : SignMap) (s : List ℕ) → IsChirotope m → IsRankBefore m s 0 0
rank_at_first m s c =
    let b = some_basis m c in
    record {
      reached = ([], record { list = tt; part = λ e k. absurd k; independent = (b.0, b.1, λ e k. absurd k) }, refl);
      greatest = λ j l. absurd (omega arith);
    }

module _ (m : SignMap) (s : List ℕ) (i k : ℕ) (h : IsRankBefore m s i k) where
  -- the common elements of the set and of the set at place i
  module _ (b t : List ℕ) (place : b ≡ subset_at m.elements m.rank i) (list : IsSubsetFrom 1 m.elements t)
      (common : (e : ℕ) → IsMember e t ↔ (IsMember e s × IsMember e b)) where
    no_longer : (u : List ℕ) → IsSubsetFrom 1 m.elements u → IsPartOf u s → IsPartOf u (subset_at m.elements m.rank i)
        → length u ≤ length t
    no_longer u lawful part inside =
        length_of_part 1 m.elements u t lawful list
        (λ e l. (common e).1 (part e l, subst (IsMember e) (sym place) (inside e l)))

    pub rank_raised : IsBasis m b → k < length t → IsRankBefore m s (i + 1) (length t)
    rank_raised basis more = record {
      reached = (
        t,
        record {
          list = list;
          part = λ e l. ((common e).0 l).0;
          independent =
              (b, basis, λ e l. ((common e).0 l).1);
        },
        refl,
      );
      greatest = λ j l. elim (cases_eq j i) [
        | inl q ↦ subst (IsBoundAt m s (length t)) (sym q) (λ other. no_longer)
        | inr n ↦ λ other u lawful part inside. let few = h.greatest j (omega arith) other u lawful part inside in
            omega arith
      ];
    }

    pub rank_kept_small : length t ≤ k → IsRankBefore m s (i + 1) k
    rank_kept_small few = record {
      reached = h.reached;
      greatest = λ j l. elim (cases_eq j i) [
        | inl q ↦
            subst (IsBoundAt m s k) (sym q) (λ other u lawful part inside. let n = no_longer u lawful part inside in
            omega arith)
        | inr n ↦ h.greatest j (omega arith)
      ];
    }

  pub rank_kept_other : (b : List ℕ) → b ≡ subset_at m.elements m.rank i → (IsBasis m b → ⊥)
      → IsRankBefore m s (i + 1) k
  rank_kept_other b place none = record {
    reached = h.reached;
    greatest = λ j l. elim (cases_eq j i) [
      | inl q ↦ subst (IsBoundAt m s k) (sym q) (λ basis. absurd (none (subst (IsBasis m) (sym place) basis)))
      | inr n ↦ h.greatest j (omega arith)
    ];
  }

pub rank_at_last : (m : SignMap) (s : List ℕ) (k : ℕ) → IsRankBefore m s (choose m.elements m.rank) k → IsRankOf m s k
rank_at_last m s k h = record {
  reached = h.reached;
  greatest = λ t p. within t p.list p.part p.independent;
}
  where
    within : (t : List ℕ) → IsSubsetFrom 1 m.elements t → IsPartOf t s → (b : List ℕ) × IsBasis m b × IsPartOf t b
        → length t ≤ k
    within t list part (b, basis, inside) =
        each_set (λ c. IsBasis m c → IsPartOf t c → length t ≤ k) m.elements m.rank
        (λ j l other sub. h.greatest j l other t list part sub) b basis.list basis.size basis inside
