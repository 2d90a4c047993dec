-- Commands on a map of rank 3 have one answer each.
--
-- Main results: one list of all mutations (one_mutation_list); mutations_determined, extension_lists_determined,
-- decisions_determined, wirings_determined and flips_determined.
use Rattle.std.specs.Prelude.{ℕ, ◌≡◌, ◌<◌, ◌≤◌, List, [], length, refl}
use Rattle.std.proofs.Common.{zero, suc, inl, inr, sym, ◌∙◌, ap, arith}
use Rattle.std.proofs.lemmas.Bool.{cases_order}
use Rattle.std.proofs.lemmas.List.{ext_get_or}
use Rattle.std.proofs.lemmas.Option.{none-some}
use Rattle.om_signs.specs.declared.sign.Sign.{Sign}
use Rattle.om_subsets.specs.Members.{Chosen}
use Rattle.om_subsets.specs.Subsets.{choose, rank_of}
use Rattle.om_subsets.proofs.Firsts.{same_chosen}
use Rattle.om_subsets.proofs.Order.{lexicographic, same_triple}
use Rattle.om_chirotope.specs.Map.{SignMap}
use Rattle.om_wiring.specs.Maps.{extended}
use Rattle.om_wiring.proofs.Existence.{one_least}
use Rattle.om_localize.specs.Extensions.{IsSignature}
use Rattle.om_localize.proofs.Localizations.{signature_size}
use Rattle.om_localize.proofs.FirstMembers.{same_lines, same_more}
use Rattle.om_mutate.specs.Mutations.{flipped, nth, ListsMutations}
use Rattle.om_budgets.specs.declared.budgets.Budgets.{Budgets}
use Rattle.om_decide.proofs.VerdictLaws.{one_verdict}
use Rattle.om_document.specs.declared.document.Document.{Document}
use Rattle.om_printing.specs.declared.line.Line.TheVariants as line
use Rattle.om_reply.specs.Answers.{shows, lists, lists_extensions, judges}
use Rattle.om_plane.specs.Decisions as decisions
use Rattle.om_plane.specs.Decisions.{DecisionMeans}
use Rattle.om_reply.specs.Determined.{AreAlike, IsDetermined}
use Rattle.om_plane.specs.ExtensionLists as extensions
use Rattle.om_plane.specs.ExtensionLists.{AreExtensionsOfMap}
use Rattle.om_plane.specs.Flips as flips
use Rattle.om_plane.specs.Flips.{IsFlip, IsFlipOfMap, triple_of}
use Rattle.om_plane.specs.MutationLists as mutations
use Rattle.om_plane.specs.MutationLists.{AreMutationsOfMap}
use Rattle.om_plane.specs.Sweeps as sweeps
use Rattle.om_plane.specs.Sweeps.{IsWiringOfMap, wiring_document}
use Rattle.om_reply.proofs.Alike.{alike, both_say, one_place}
use Rattle.om_representation.proofs.OneChirotope.{for_chirotope_determined}
use Rattle.om_representation.proofs.OneRefusal.{one_violated, not_violated}

-- ---- mutations

-- increasing numbers that all stand among others, which increase too: at each place the others have a number too, and
-- no greater one
module _ (l p : ℕ) (f g : ℕ → ℕ) (rises : (i j : ℕ) → i < j → j < l → f i < f j)
    (climbs : (i j : ℕ) → i < j → j < p → g i < g j) (found : (i : ℕ) → i < l → (j : ℕ) × (j < p) × (g j ≡ f i)) where
  behind : (i j : ℕ) → i < p → g i ≤ f i → f i < g j → i < j
  behind i j few low less = elim (cases_order i j) [
    | inl e ↦ absurd (let q = ap g e in omega arith)
    | inr r ↦ elim r [ inl before ↦ before | inr after ↦ absurd (let q = climbs j i after few in omega arith) ]
  ]

  from_place : (i j : ℕ) → i ≤ j → j < p → g j ≡ f i → (i < p) × (g i ≤ f i)
  from_place i j low few same = elim (cases_order i j) [
    | inl e ↦ (omega arith, let q = ap g e in omega arith)
    | inr r ↦
        elim r [
          | inl before ↦ (omega arith, let q = climbs i j before few in omega arith)
          | inr after ↦
              absurd (omega arith)
        ]
  ]

  no_later : (i : ℕ) → i < l → (i < p) × (g i ≤ f i)
  no_later zero less = let q = found 0 less in from_place 0 q.0 (omega arith) q.1 q.2
  no_later (suc i) less =
      let q = found (suc i) less in
      let before = no_later i (omega arith) in
      let grown = rises i (suc i) (omega arith) less in
      let same = q.2 in
      from_place (suc i) q.0 (behind i q.0 before.0 before.1 (omega arith)) q.1 q.2

module _ (m : SignMap) where
  -- the place of the i-th set among the sets of its size
  abbrev place : List Chosen → ℕ → ℕ
  place sets i = rank_of m.elements (nth sets i).elements

  place_rises : (sets : List Chosen) → ListsMutations m sets → (i j : ℕ) → i < j → j < length sets
      → place sets i < place sets j
  place_rises sets all i j less few =
      let a = (all.mutations i (omega arith)).1.triple in
      let b = (all.mutations j few).1.triple in
      (lexicographic 1 m.elements (nth sets i).elements (nth sets j).elements a.list b.list (a.size ∙ sym b.size)).0
      (all.order i j less few)

  place_found : (sets others : List Chosen) → ListsMutations m sets → ListsMutations m others → (i : ℕ)
      → i < length sets → (j : ℕ) × (j < length others) × (place others j ≡ place sets i)
  place_found sets others all also i less =
      let q = also.all (nth sets i).elements (all.mutations i less).1 in
      (q.0, q.1, ap (rank_of m.elements) q.2)

  place_low : (sets others : List Chosen) → ListsMutations m sets → ListsMutations m others → (i : ℕ) → i < length sets
      → (i < length others) × (place others i ≤ place sets i)
  place_low sets others all also =
      no_later (length sets) (length others) (place sets) (place others) (place_rises sets all)
      (place_rises others also) (place_found sets others all also)

  no_longer : (sets others : List Chosen) → ListsMutations m sets → ListsMutations m others
      → length sets ≤ length others
  no_longer sets others all also = by_size (length sets) refl
    where
      by_size : (n : ℕ) → length sets ≡ n → n ≤ length others
      by_size zero e = omega arith
      by_size (suc k) e = (place_low sets others all also k (omega arith)).0

  pub one_mutation_list : (sets others : List Chosen) → ListsMutations m sets → ListsMutations m others → sets ≡ others
  one_mutation_list sets others all also =
      let a = no_longer sets others all also in
      let b = no_longer others sets also all in
      ext_get_or (record { n = 0; elements = [] }) sets others (omega arith) (λ i less.
      let few : i < length others = omega arith in
      let s = all.mutations i less in
      let t = also.mutations i few in
      let c = (place_low sets others all also i less).1 in
      let d = (place_low others sets also all i few).1 in
      same_chosen (nth sets i) (nth others i) (s.0 ∙ sym t.0)
      (same_triple m.elements (nth sets i).elements (nth others i).elements s.1.triple t.1.triple (omega arith)))

  -- all answers of `mutations` to a map look alike
  pub mutations_determined : IsDetermined (AreMutationsOfMap m)
  mutations_determined a b (mutations.other_rank other) (mutations.other_rank another) = (refl, refl)
  mutations_determined a b (mutations.other_rank other) (mutations.listed sets three all) = absurd (other three)
  mutations_determined a b (mutations.listed sets three all) (mutations.other_rank other) = absurd (other three)
  mutations_determined a b (mutations.listed sets three all) (mutations.listed others again also) =
      alike (lists sets) (lists others) (ap lists (one_mutation_list sets others all also))

-- ---- extensions

-- all answers of `extend` to a map look alike, for the same greatest number of lines
pub extension_lists_determined : (first : ℕ) (m : SignMap) → IsDetermined (AreExtensionsOfMap first m)
extension_lists_determined first m a b (extensions.other_rank other) (extensions.other_rank another) = (refl, refl)
extension_lists_determined first m a b (extensions.other_rank other) (extensions.full three most) = absurd (other three)
extension_lists_determined first m a b (extensions.other_rank other) (extensions.listed l three few are) =
    absurd (other three)
extension_lists_determined first m a b (extensions.full three most) (extensions.other_rank other) = absurd (other three)
extension_lists_determined first m a b (extensions.full three most) (extensions.full again also) = (refl, refl)
extension_lists_determined first m a b (extensions.full three most) (extensions.listed l again few are) =
    absurd (omega arith)
extension_lists_determined first m a b (extensions.listed l three few are) (extensions.other_rank other) =
    absurd (other three)
extension_lists_determined first m a b (extensions.listed l three few are) (extensions.full again most) =
    absurd (omega arith)
extension_lists_determined first m a b (extensions.listed l three few are) (extensions.listed k again fewer also) =
    alike (lists_extensions m.elements l) (lists_extensions m.elements k)
    (λ i. lists_extensions m.elements (record { lines = lines i; more = more i }))
  where
    lines : l.lines ≡ k.lines
    lines = same_lines (IsSignature m) (choose m.elements 2) first (signature_size m) l.lines k.lines l.more k.more are
        also

    more : l.more ≡ k.more
    more = same_more (IsSignature m) (choose m.elements 2) first (signature_size m) l.lines k.lines l.more k.more are
        also

-- ---- decisions

-- all answers of `decide` to a map look alike, within the same budgets
pub decisions_determined : (b : Budgets) (m : SignMap) → IsDetermined (DecisionMeans b m)
decisions_determined b m x y (decisions.other_rank other) (decisions.other_rank another) = (refl, refl)
decisions_determined b m x y (decisions.other_rank other) (decisions.decided v is) = absurd (other is.rank)
decisions_determined b m x y (decisions.decided v is) (decisions.other_rank other) = absurd (other is.rank)
decisions_determined b m x y (decisions.decided v is) (decisions.decided w also) =
    alike (judges m v) (judges m w) (ap (judges m) (one_verdict m b v w is.verdict also.verdict))

-- ---- wirings and flips

-- all answers of `wiring` to a map look alike
pub wirings_determined : (m : SignMap) → IsDetermined (IsWiringOfMap m)
wirings_determined m a b (sweeps.other_rank other) (sweeps.other_rank another) = (refl, refl)
wirings_determined m a b (sweeps.other_rank other) (sweeps.not_sweepable s t three first) = absurd (other three)
wirings_determined m a b (sweeps.other_rank other) (sweeps.least blocks three sweepable least form) =
    absurd (other three)
wirings_determined m a b (sweeps.not_sweepable s t three first) (sweeps.other_rank other) = absurd (other three)
wirings_determined m a b (sweeps.not_sweepable s t three first) (sweeps.not_sweepable u v again also) =
    let same = one_violated (extended m) s t u v first also in
    both_say (line.RefusedNotsweepable s t) (line.RefusedNotsweepable u v)
    (λ i. line.RefusedNotsweepable (same.0 i) (same.1 i))
wirings_determined m a b (sweeps.not_sweepable s t three first) (sweeps.least blocks again sweepable least form) =
    absurd (not_violated (extended m) s t sweepable first)
wirings_determined m a b (sweeps.least blocks three sweepable least form) (sweeps.other_rank other) =
    absurd (other three)
wirings_determined m a b (sweeps.least blocks three sweepable least form) (sweeps.not_sweepable s t again first) =
    absurd (not_violated (extended m) s t sweepable first)
wirings_determined m a b (sweeps.least blocks three sweepable least form)
    (sweeps.least others again also lowest whole) =
    alike (shows (wiring_document m.elements blocks)) (shows (wiring_document m.elements others))
    (ap (λ bs. shows (wiring_document m.elements bs)) (one_least m blocks others least lowest))

flips_determined_of_map : (t : List ℕ) (m : SignMap) → IsDetermined (IsFlipOfMap t m)
flips_determined_of_map t m a b (flips.other_rank other) (flips.other_rank another) = (refl, refl)
flips_determined_of_map t m a b (flips.other_rank other) (flips.no_basis three null) = absurd (other three)
flips_determined_of_map t m a b (flips.other_rank other) (flips.no_mutation u v three some first) = absurd (other three)
flips_determined_of_map t m a b (flips.other_rank other) (flips.turned d three mutation made form) =
    absurd (other three)
flips_determined_of_map t m a b (flips.no_basis three null) (flips.other_rank other) = absurd (other three)
flips_determined_of_map t m a b (flips.no_basis three null) (flips.no_basis again likewise) = (refl, refl)
flips_determined_of_map t m a b (flips.no_basis three null) (flips.no_mutation u v again some first) =
    absurd (some null)
flips_determined_of_map t m a b (flips.no_basis three null) (flips.turned d again mutation made form) =
    absurd (mutation.basis null)
flips_determined_of_map t m a b (flips.no_mutation s r three some first) (flips.other_rank other) = absurd (other three)
flips_determined_of_map t m a b (flips.no_mutation s r three some first) (flips.no_basis again null) =
    absurd (some null)
flips_determined_of_map t m a b (flips.no_mutation s r three some first) (flips.no_mutation u v again nonzero second) =
    let same = one_violated (flipped m t) s r u v first second in
    both_say (line.RefusedNotmutation s r) (line.RefusedNotmutation u v)
    (λ i. line.RefusedNotmutation (same.0 i) (same.1 i))
flips_determined_of_map t m a b (flips.no_mutation s r three some first) (flips.turned d again mutation made form) =
    absurd (not_violated (flipped m t) s r mutation.axioms first)
flips_determined_of_map t m a b (flips.turned d three mutation made form) (flips.other_rank other) =
    absurd (other three)
flips_determined_of_map t m a b (flips.turned d three mutation made form) (flips.no_basis again null) =
    absurd (mutation.basis null)
flips_determined_of_map t m a b (flips.turned d three mutation made form) (flips.no_mutation u v again some first) =
    absurd (not_violated (flipped m t) u v mutation.axioms first)
flips_determined_of_map t m a b (flips.turned d three mutation made form) (flips.turned f again turned by whole) =
    alike (shows d) (shows f) (ap shows (made ∙ sym by))

-- all answers of `flip` to a document look alike, for the same three elements
pub flips_determined : (x y z : ℕ) (d : Document) → IsDetermined (IsFlip x y z d)
flips_determined x y z d a b (flips.outside e p) (flips.outside f q) = one_place _ e f p q
flips_determined x y z d a b (flips.outside e p) (flips.inside b' none means) = absurd (none-some e (sym none ∙ p))
flips_determined x y z d a b (flips.inside a' none means) (flips.outside f q) = absurd (none-some f (sym none ∙ q))
flips_determined x y z d a b (flips.inside a' none means) (flips.inside b' nor also) =
    for_chirotope_determined AreAlike (IsFlipOfMap (triple_of x y z)) (flips_determined_of_map (triple_of x y z)) d a b
    means also
