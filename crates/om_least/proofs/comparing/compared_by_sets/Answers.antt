use Rattle.std.proofs.Common.{ℕ, ◌≡◌, ◌∙◌, ◌-◌, ◌<◌, ◌≤◌, List, length, take, sym, ap, subst, arith}
use Rattle.om_subsets.specs.Subsets.{choose, IsSubsetFrom}
use Rattle.om_subsets.specs.Reverse.{revlex_subset_at}
use Rattle.om_subsets.proofs.Counts.{choose_grows}
use Rattle.om_subsets.proofs.ReversePlaces.{reverse_listed}
use Rattle.om_chirotope.specs.Map.{chi_of, value_of}
use Rattle.om_symmetry.specs.Permutations.{image_value}
use Rattle.om_least.specs.Beginnings.{first_signs, first_image_signs}
use Rattle.om_least.proofs.Reverse.{first_set, differs_at, agrees_more, agrees_on_all}
use Rattle.om_least.proofs.comparing.compared_by_sets.Goals as goal

pub loop-place-init : goal.loop-place-init
loop-place-init c =
    let m = c.args.chi.now in
    let w = c.args.beginning.now in
    let start = c.choose-place.ensures.value ∙ ap (λ k. choose (k - 1) c.rank-rank.result) c.len-last.ensures.value
    ∙ ap (choose (length w - 1)) c.rank-rank.ensures.value in
    subst (λ j. take j (first_image_signs m w) ≡ take j (first_signs m (length w))) (sym start) c.requires.tied

-- the place is that of a set of the first elements
small_place : (k r j last rank end : ℕ) → j < end → end ≡ choose last rank → last ≡ k → rank ≡ r → j < choose k r
small_place k r j last rank end lt e ql qr = subst (λ z. j < z) (e ∙ ap (λ i. choose i rank) ql ∙ ap (choose k) qr) lt

pub unrank_revlex-s-requires-clause-place : goal.unrank_revlex-s-requires-clause-place
unrank_revlex-s-requires-clause-place c =
    let m = c.args.chi.now in
    let lt = small_place _ m.rank _ _ _ _ c.loop-place-test.true c.choose-place-end.ensures.value
    c.len-last.ensures.value c.rank-rank.ensures.value in
    let whole : choose c.elements-elements.result c.rank-rank.result ≡ choose m.elements m.rank =
    ap (λ i. choose i c.rank-rank.result) c.elements-elements.ensures.value
    ∙ ap (choose m.elements) c.rank-rank.ensures.value in
    omega (arith, lt, choose_grows (length c.args.beginning.now) m.elements m.rank c.requires.few, whole)

-- the set at a place, in the numbers that the calls give
placed : (k n r j last rank elements end : ℕ) (xs : List ℕ) → k ≤ n → j < end → end ≡ choose last rank → last ≡ k
    → rank ≡ r → elements ≡ n → xs ≡ revlex_subset_at elements rank j
    → (j < choose k r) × (xs ≡ revlex_subset_at k r j)
placed k n r j last rank elements end xs le lt e ql qr qn q =
    let small = small_place k r j last rank end lt e ql qr in
    let here = ap (λ i. revlex_subset_at i rank j) qn ∙ ap (λ i. revlex_subset_at n i j) qr in
    (small, q ∙ here ∙ first_set k n r j le small)

pub image_sign-requires-clause-first : goal.image_sign-requires-clause-first
image_sign-requires-clause-first c =
    let k = length c.args.beginning.now in
    let p = placed k _ _ _ _ _ _ _ _ c.requires.few c.loop-place-test.true c.choose-place-end.ensures.value
    c.len-last.ensures.value c.rank-rank.ensures.value c.elements-elements.ensures.value
    c.unrank_revlex-s.ensures.elements in
    subst (IsSubsetFrom 1 k) (sym p.1) (reverse_listed k c.args.chi.now.rank c.loop-place.place p.0).lawful

pub returns-in_default : goal.returns-in_default
returns-in_default c =
    let m = c.args.chi.now in
    let k = length c.args.beginning.now in
    let p = placed k _ _ _ _ _ _ _ _ c.requires.few c.loop-place-test.true c.choose-place-end.ensures.value
    c.len-last.ensures.value c.rank-rank.ensures.value c.elements-elements.ensures.value
    c.unrank_revlex-s.ensures.elements in
    sym (differs_at k m.rank (image_value c.args.beginning.now (value_of m)) (chi_of m) c.loop-place.place
    c.unrank_revlex-s.result.elements c.image_sign.result c.at.result _ p.0 p.1 c.image_sign.ensures
    c.at.ensures.place c.loop-place.invariant c.cmp.ensures c.in_default.not-Equal)

pub loop-place-preserved : goal.loop-place-preserved
loop-place-preserved c =
    let m = c.args.chi.now in
    let k = length c.args.beginning.now in
    let p = placed k _ _ _ _ _ _ _ _ c.requires.few c.loop-place-test.true c.choose-place-end.ensures.value
    c.len-last.ensures.value c.rank-rank.ensures.value c.elements-elements.ensures.value
    c.unrank_revlex-s.ensures.elements in
    agrees_more k m.rank (image_value c.args.beginning.now (value_of m)) (chi_of m) c.loop-place.place
    c.unrank_revlex-s.result.elements c.image_sign.result c.at.result p.0 p.1 c.image_sign.ensures
    c.at.ensures.place c.loop-place.invariant c.in-Equal.ensures

pub returns : goal.returns
returns c =
    let m = c.args.chi.now in
    let k = length c.args.beginning.now in
    let end = c.choose-place-end.ensures.value ∙ ap (λ i. choose i c.rank-rank.result) c.len-last.ensures.value
    ∙ ap (choose k) c.rank-rank.ensures.value in
    sym (agrees_on_all k m.rank (image_value c.args.beginning.now (value_of m)) (chi_of m) c.loop-place.place
    (omega (arith, end, c.loop-place-test.false)) c.loop-place.invariant)
