-- Steps of the comparison of the signs of triples with the last of the first elements.
--
-- Main definitions: AgreeTo
-- Main results: no triple so far (triples_begun), triples that differ (triples_differ), one triple more (triples_more),
-- all with a second element (next_second) and all (triples_all); the value of a triple in an image (image_triple); the
-- elements of a triple (old_triple), and what a table says of it (looked).
use Rattle.std.proofs.Common.{ℕ, zero, suc, ◌≡◌, ◌+◌, ◌-◌, ◌<◌, ◌≤◌, List, [], ◌∷◌, length, map, take, sym, ap}
use Rattle.std.proofs.Common.{subst, ◌∙◌, arith}
use Rattle.std.specs.declared.cmp.Ordering.{Ordering}
use Rattle.std.specs.declared.cmp.Ordering.TheVariants.{Equal}
use Rattle.om_signs.specs.declared.sign.Sign.{Sign}
use Rattle.om_signs.specs.declared.sign.Sign.TheVariants.{Plus}
use Rattle.om_signs.specs.Sign.{product}
use Rattle.om_signs.specs.SignVec.{at}
use Rattle.om_signs.specs.Order.{sign_order, lexicographic}
use Rattle.om_signs.proofs.SignLaws.{product-plus}
use Rattle.om_subsets.specs.Subsets.{choose}
use Rattle.om_subsets.specs.Reverse.{revlex_subsets, revlex_subset_at, revlex_rank_of}
use Rattle.om_subsets.proofs.Counts.{choose_one, choose_grows}
use Rattle.om_subsets.proofs.ReversePlaces.{reverse_small, at_reverse_rank}
use Rattle.om_subsets.proofs.Triples.{triple_subset}
use Rattle.om_laws.specs.Sorting.{IsElement}
use Rattle.om_laws.proofs.SortingLaws.{value_increasing}
use Rattle.om_chirotope.specs.Map.{SignMap, chi_of, value_of}
use Rattle.om_symmetry.specs.declared.signed_element.SignedElement.{SignedElement}
use Rattle.om_symmetry.specs.Permutations.{signed_at, sign_of, image_value}
use Rattle.om_least.specs.Beginnings.{IsBeginning, first_signs, first_image_signs}
use Rattle.om_least.specs.Triples.{IsTableOfValues, place_of_triple}
use Rattle.om_least.proofs.Tuples.{entry_within}
use Rattle.om_least.proofs.Reverse.{differs_at, agrees_more, agrees_on_all}

-- the first signs of the images and of the map are the same up to a place
abbrev pub AgreeTo : SignMap → List SignedElement → ℕ → Type 0
AgreeTo m w p = take p (map (image_value w (value_of m)) (revlex_subsets (length w) 3))
    ≡ take p (map (chi_of m) (revlex_subsets (length w) 3))

-- ---- places

-- the place of the first triple with this second and third element
abbrev pub place_with : ℕ → ℕ → ℕ
place_with j k = choose (k - 1) 3 + choose (j - 1) 2

pairs_more : (j : ℕ) → 1 ≤ j → choose (j + 1 - 1) 2 ≡ choose (j - 1) 2 + (j - 1)
pairs_more zero low = absurd (omega arith)
pairs_more (suc j) low =
    let e : suc j + 1 - 1 ≡ suc j = omega arith in
    let f : suc j - 1 ≡ j = omega arith in
    let o = choose_one j in
    rw (e, f) (omega (arith, o))

all_triples : (k j : ℕ) → 1 ≤ k → k ≤ j → choose k 3 ≤ place_with j k
all_triples zero j low le = absurd (omega arith)
all_triples (suc k) j low le =
    let f : suc k - 1 ≡ k = omega arith in
    let g = choose_grows k (j - 1) 2 (omega arith) in
    rw f (omega (arith, g))

-- a triple at its place
record IsPlaced (i j k : ℕ) : Type 0 where
  pub small : place_with j k + (i - 1) < choose k 3
  pub here : i ∷ j ∷ k ∷ [] ≡ revlex_subset_at k 3 (place_with j k + (i - 1))

placed : (i j k : ℕ) → 1 ≤ i → i < j → j < k → IsPlaced i j k
placed i j k low ij jk =
    let xs = i ∷ j ∷ k ∷ [] in
    let h = triple_subset k i j k low ij jk (omega arith) in
    let o = choose_one (i - 1) in
    let place : revlex_rank_of xs ≡ place_with j k + (i - 1) = omega (arith, o) in
    record {
      small = subst (λ p. p < choose k 3) place (reverse_small k xs h);
      here = sym (at_reverse_rank k xs h) ∙ ap (revlex_subset_at k 3) place;
    }

-- ---- values

pub image_triple : (m : SignMap) (w : List SignedElement) (i j k : ℕ) (a b c : SignedElement) (v : Sign)
    → a ≡ signed_at w i → b ≡ signed_at w j → c ≡ signed_at w k
    → v ≡ value_of m (a.element ∷ b.element ∷ c.element ∷ [])
    → product (product (sign_of a) (product (sign_of b) (sign_of c))) v ≡ image_value w (value_of m) (i ∷ j ∷ k ∷ [])
image_triple m w i j k a b c v qa qb qc qv =
    let F : SignedElement → SignedElement → SignedElement → Sign =
    (λ x y z. product (product (sign_of x) (product (sign_of y) (product (sign_of z) Plus)))
    (value_of m (x.element ∷ y.element ∷ z.element ∷ []))) in
    ap (product (product (sign_of a) (product (sign_of b) (sign_of c)))) qv
    ∙ ap (λ s. product (product (sign_of a) (product (sign_of b) s))
    (value_of m (a.element ∷ b.element ∷ c.element ∷ []))) (sym (product-plus (sign_of c)))
    ∙ ap (λ x. F x b c) qa ∙ ap (λ y. F (signed_at w i) y c) qb ∙ ap (F (signed_at w i) (signed_at w j)) qc

own_triple : (m : SignMap) (i j k : ℕ) (u : Sign) → i < j → j < k → u ≡ value_of m (i ∷ j ∷ k ∷ [])
    → u ≡ chi_of m (i ∷ j ∷ k ∷ [])
own_triple m i j k u ij jk q = q ∙ value_increasing (chi_of m) (i ∷ j ∷ k ∷ []) (ij, (jk, tt))

-- what a table of the values says of a triple of the first elements: its sign in the images, and its own
pub record IsLooked (m : SignMap) (w : List SignedElement) (i j : ℕ) (s u : Sign) : Type 0 where
  pub image : s ≡ image_value w (value_of m) (i ∷ j ∷ length w ∷ [])
  pub own : u ≡ value_of m (i ∷ j ∷ length w ∷ [])

module _ (m : SignMap) (w : List SignedElement) (begun : IsBeginning m.elements w) (few : length w ≤ m.elements)
    (i j k : ℕ) (a b c : SignedElement) (qa : a ≡ signed_at w i) (qb : b ≡ signed_at w j) (qc : c ≡ signed_at w k)
    (qk : k ≡ length w) (low : 1 ≤ i) (ij : i < j) (jk : j < k) where
  pub old_triple : IsElement m.elements a.element × IsElement m.elements b.element × IsElement m.elements c.element
  old_triple = (
    entry_within m.elements w begun i a qa low (omega (arith, ij, jk, qk)),
    entry_within m.elements w begun j b qb (omega (arith, low, ij)) (omega (arith, jk, qk)),
    entry_within m.elements w begun k c qc (omega (arith, low, ij, jk)) (omega (arith, qk)),
  )

  pub looked : (values : List Sign) → IsTableOfValues m values → (s u : Sign)
      → s ≡ product (product (sign_of a) (product (sign_of b) (sign_of c)))
      (at values (place_of_triple a.element b.element c.element))
      → u ≡ at values (place_of_triple i j k) → IsLooked m w i j s u
  looked values table s u qs qu =
      let t = old_triple in
      record {
        image = qs ∙ image_triple m w i j (length w) a b c (at values (place_of_triple a.element b.element c.element))
            qa qb (qc ∙ ap (signed_at w) qk) (table.values a.element b.element c.element t.0 t.1 t.2);
        own = qu ∙ table.values i j k (low, omega (arith, ij, jk, qk, few)) (
          omega (arith, low, ij),
          omega (arith, jk, qk, few),
        ) (omega (arith, low, ij, jk), omega (arith, qk, few))
            ∙ ap (λ z. value_of m (i ∷ j ∷ z ∷ [])) qk;
      }

-- ---- steps

module _ (m : SignMap) (w : List SignedElement) (rank : m.rank ≡ 3) (some : 1 ≤ length w) where
  in_rank : (o : Ordering) → lexicographic (map (image_value w (value_of m)) (revlex_subsets (length w) 3))
      (map (chi_of m) (revlex_subsets (length w) 3)) ≡ o
      → lexicographic (first_image_signs m w) (first_signs m (length w)) ≡ o
  in_rank o = subst (λ r. lexicographic (map (image_value w (value_of m)) (revlex_subsets (length w) r))
      (map (chi_of m) (revlex_subsets (length w) r)) ≡ o) (sym rank)

  pub triples_begun : take (choose (length w - 1) m.rank) (first_image_signs m w)
      ≡ take (choose (length w - 1) m.rank) (first_signs m (length w)) → AgreeTo m w (place_with 2 (length w))
  triples_begun h =
      let start : choose (length w - 1) 3 ≡ place_with 2 (length w) = omega arith in
      subst (AgreeTo m w) start
      (subst (λ r. take (choose (length w - 1) r) (map (image_value w (value_of m)) (revlex_subsets (length w) r))
      ≡ take (choose (length w - 1) r) (map (chi_of m) (revlex_subsets (length w) r))) rank h)

  module _ (i j : ℕ) (s u : Sign) (low : 1 ≤ i) (ij : i < j) (jk : j < length w)
      (image : s ≡ image_value w (value_of m) (i ∷ j ∷ length w ∷ []))
      (own : u ≡ value_of m (i ∷ j ∷ length w ∷ [])) (same : AgreeTo m w (place_with j (length w) + (i - 1))) where
    pub triples_differ : (o : Ordering) → o ≡ sign_order s u → (o ≡ Equal → ⊥)
        → o ≡ lexicographic (first_image_signs m w) (first_signs m (length w))
    triples_differ o q ne =
        let p = placed i j (length w) low ij jk in
        sym (in_rank o (differs_at (length w) 3 (image_value w (value_of m)) (chi_of m)
        (place_with j (length w) + (i - 1)) (i ∷ j ∷ length w ∷ []) s u o p.small p.here image
        (own_triple m i j (length w) u ij jk own) same q ne))

    pub triples_more : Equal ≡ sign_order s u → AgreeTo m w (place_with j (length w) + (i + 1 - 1))
    triples_more q =
        let p = placed i j (length w) low ij jk in
        let e : place_with j (length w) + (i - 1) + 1 ≡ place_with j (length w) + (i + 1 - 1) = omega arith in
        subst (AgreeTo m w) e
        (agrees_more (length w) 3 (image_value w (value_of m)) (chi_of m) (place_with j (length w) + (i - 1))
        (i ∷ j ∷ length w ∷ []) s u p.small p.here image (own_triple m i j (length w) u ij jk own) same q)

  pub second_begun : (j : ℕ) → AgreeTo m w (place_with j (length w))
      → AgreeTo m w (place_with j (length w) + (1 - 1))
  second_begun j h =
      let e : place_with j (length w) ≡ place_with j (length w) + (1 - 1) = omega arith in
      subst (AgreeTo m w) e h

  pub next_second : (i j : ℕ) → 1 ≤ j → i ≡ j → AgreeTo m w (place_with j (length w) + (i - 1))
      → AgreeTo m w (place_with (j + 1) (length w))
  next_second i j low q h =
      let p = pairs_more j low in
      let e : place_with j (length w) + (i - 1) ≡ place_with (j + 1) (length w) = omega (arith, p, q) in
      subst (AgreeTo m w) e h

  pub triples_all : (j : ℕ) → length w ≤ j → AgreeTo m w (place_with j (length w))
      → Equal ≡ lexicographic (first_image_signs m w) (first_signs m (length w))
  triples_all j le h =
      sym (in_rank Equal (agrees_on_all (length w) 3 (image_value w (value_of m)) (chi_of m)
      (place_with j (length w)) (all_triples (length w) j some le) h))
