-- The mutations of a chirotope are listed, and each triple is flipped or refused.
--
-- Main results: mutations_possible, flip_possible.
use Rattle.std.specs.Prelude.{ℕ, ◌≡◌, ◌+◌, ◌<◌, ◌≤◌, List, [], ◌∷◌, ◌++◌, None, refl}
use Rattle.std.proofs.Common.{zero, suc, sym, subst, inl, inr, arith}
use Rattle.std.proofs.lemmas.Bool.{cases_eq}
use Rattle.om_signs.proofs.SignLaws.{zero_or_nonzero}
use Rattle.om_subsets.specs.Members.{Chosen}
use Rattle.om_subsets.specs.Subsets.{choose, subset_at, rank_of, IsMember, IsTriple}
use Rattle.om_subsets.proofs.Order.{rank_from-lt, listed, from_increasing}
use Rattle.om_chirotope.specs.Chirotope.{HasOrthogonalPairs, IsChirotopeWithinLimits}
use Rattle.om_chirotope.specs.Map.{SignMap, chi_of}
use Rattle.om_mutate.specs.Mutations.{flipped, IsMutation, ListsMutations}
use Rattle.om_mutate.proofs.FlipLaws.{flipped_whole, mutation_from}
use Rattle.om_mutate.proofs.MutationLists.{ListsBelow, listed_none, listed_other, listed_more}
use Rattle.om_words.specs.Tasks.{AreIncreasing}
use Rattle.om_document.specs.declared.document.Document.{Document}
use Rattle.om_printing.specs.declared.line.Line.TheVariants as line
use Rattle.om_representation.specs.Documents.{map_document}
use Rattle.om_reply.specs.declared.answer.Answer.{Answer}
use Rattle.om_reply.specs.Answers.{says, shows, lists}
use Rattle.om_plane.specs.Flips.{triple_of, IsFlipOfMap, other_rank, no_basis, no_mutation, turned, IsFlip, outside}
use Rattle.om_plane.specs.Flips.{inside}
use Rattle.om_plane.specs.MutationLists as mutations
use Rattle.om_reply.specs.Above.{first_above}
use Rattle.om_plane.proofs.FlipLaws.{within_of_none}
use Rattle.om_existence.specs.Possible.{IsPossible}
use Rattle.om_existence.proofs.Possible.{held, then, mapped, either_way, found_or_not}
use Rattle.om_existence.proofs.MapRefusals.{first_pair_possible}
use Rattle.om_existence.proofs.MapForms.{rank3_form}
use Rattle.om_existence.proofs.Worked.{IsWorked, for_chirotope_possible}

-- ---- all mutations

below_possible : (m : SignMap) (k : ℕ) → k ≤ choose m.elements 3
    → IsPossible ((sets : List Chosen) × ListsBelow m k sets)
below_possible m zero few = held ([], listed_none m)
below_possible m (suc k) few =
    subst (λ j. IsPossible ((sets : List Chosen) × ListsBelow m j sets)) (let e : k + 1 ≡ suc k = omega arith in e)
    (then (below_possible m k (omega arith)) (λ h.
    mapped (λ e. elim e [
      | inl is ↦ (h.0 ++ next ∷ [], listed_more m k h.0 next h.1 refl place is)
      | inr not ↦ (h.0, listed_other m k h.0 next.elements h.1 triple place not)
    ]) (either_way (IsMutation m next.elements))))
  where
    next : Chosen
    next = record { n = m.elements; elements = subset_at m.elements 3 k }

    triple : IsTriple m.elements (subset_at m.elements 3 k)
    triple = let l = listed 1 m.elements 3 k (omega arith) in record { list = l.lawful; size = l.size }

    place : rank_of m.elements (subset_at m.elements 3 k) ≡ k
    place = (listed 1 m.elements 3 k (omega arith)).place

all_listed : (m : SignMap) (sets : List Chosen) → ListsBelow m (choose m.elements 3) sets → ListsMutations m sets
all_listed m sets h = record {
  mutations = h.mutations;
  all = λ t is. h.all t is
      (subst (λ r. rank_of m.elements t < choose m.elements r) is.triple.size
      (rank_from-lt 1 m.elements t is.triple.list));
  order = h.order;
}

-- the list of all mutations
pub list_possible : (m : SignMap) → IsPossible ((sets : List Chosen) × ListsMutations m sets)
list_possible m = mapped (λ h. (h.0, all_listed m h.0 h.1)) (below_possible m (choose m.elements 3) (omega arith))

pub mutations_possible : (m : SignMap) → IsChirotopeWithinLimits m
    → IsPossible ((a : Answer) × mutations.AreMutationsOfMap m a)
mutations_possible m s = elim (cases_eq m.rank 3) [
  | inr other ↦ held (says (line.RefusedNotrank3 m.rank), mutations.other_rank other)
  | inl three ↦ mapped (λ h. (lists h.0, mutations.listed h.0 three h.1)) (list_possible m)
]

-- ---- a flip

lawful_triple : (n a b c : ℕ) → AreIncreasing a b c → c ≤ n → IsTriple n (triple_of a b c)
lawful_triple n a b c is high = record {
  list = from_increasing 1 n (triple_of a b c) (is.first, (is.second, tt)) within;
  size = refl;
}
  where
    within : (e : ℕ) → IsMember e (triple_of a b c) → (1 ≤ e) × (e < 1 + n)
    within e (inl same) = let l = is.low in let f = is.first in let g = is.second in
        (omega (arith, l, same), omega (arith, f, g, high, same))
    within e (inr (inl same)) = let l = is.low in let f = is.first in let g = is.second in
        (omega (arith, l, f, same), omega (arith, f, g, high, same))
    within e (inr (inr (inl same))) = let l = is.low in let f = is.first in let g = is.second in
        (omega (arith, l, f, g, same), omega (arith, high, same))
    within e (inr (inr (inr none))) = absurd none

map_flip_possible : (a b c : ℕ) → AreIncreasing a b c → (m : SignMap) → IsChirotopeWithinLimits m → c ≤ m.elements
    → IsPossible ((answer : Answer) × IsFlipOfMap (triple_of a b c) m answer)
map_flip_possible a b c is m s high = elim (cases_eq m.rank 3) [
  | inr other ↦ held (says (line.RefusedNotrank3 m.rank), other_rank other)
  | inl three ↦ elim (zero_or_nonzero (chi_of m t)) [
    | inl null ↦ held (says line.RefusedNotbasis, no_basis three null)
    | inr some ↦
        let triple = lawful_triple m.elements a b c is high in
        let whole = s.axioms.whole in
        then (either_way (HasOrthogonalPairs (flipped m t))) (λ e. elim e [
          | inl orthogonal ↦
              held (
                shows (map_document (flipped m t)),
                turned (map_document (flipped m t)) three (mutation_from m t whole three triple some orthogonal) refl
                    (rank3_form (flipped m t) (flipped_whole m t whole three triple) three s.limits.low s.limits.high),
              )
          | inr fails ↦ mapped (λ h. (says (line.RefusedNotmutation h.0 h.1.0), no_mutation h.0 h.1.0 three some h.1.1))
              (first_pair_possible (flipped m t) fails)
        ])
  ]
]
  where
    t : List ℕ
    t = triple_of a b c

pub flip_possible : (a b c : ℕ) → AreIncreasing a b c → (d : Document) → IsWorked d
    → IsPossible ((answer : Answer) × IsFlip a b c d answer)
flip_possible a b c is d w = elim (found_or_not (first_above d.elements t)) [
  | inl h ↦ held (says (line.RefusedPlace h.0), outside h.0 h.1)
  | inr none ↦ mapped (λ h. (h.0, inside h.0 none h.1)) (for_chirotope_possible (IsFlipOfMap t) d w (λ m s e.
      map_flip_possible a b c is m s
      (within_of_none m.elements a b c (subst (λ n. first_above n t ≡ None) (sym e) none))))
]
  where
    t : List ℕ
    t = triple_of a b c
