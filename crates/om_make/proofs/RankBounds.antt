-- How many members a family of sign vectors has, by its rank.
--
-- Main definitions: IsClosed, the zero, the symmetry and the elimination of covectors; HasRankAtMost, a bound of the
-- rank; IsBound, a bound of the number of members by the rank.
-- Main results: rank_moved (a family that is read off another has no larger rank); bound_in_rank_one (3),
-- bound_in_rank_two (4 n + 1) and bound_in_rank_three (4 n (n - 1) + 3) on n elements.
-- Reference: Björner, Las Vergnas, Sturmfels, White and Ziegler, Oriented Matroids, chapter 4.
use Rattle.std.proofs.Common.{ℕ, zero, suc, ◌≡◌, ◌≢◌, ◌+◌, ◌-◌, ◌*◌, ◌<◌, ◌≤◌, List, [], ◌∷◌, length, get_or, map}
use Rattle.std.proofs.Common.{replicate, refl, sym, ap, subst, ◌∙◌, ⊎_elim, arith}
use Rattle.std.specs.List.{Contains}
use Rattle.std.proofs.lemmas.List.{ext_get_or, nil_from_length}
use Rattle.std.proofs.lemmas.List.Elements.{All-contains, Contains-get_or}
use Rattle.om_signs.specs.declared.sign.Sign.{Sign}
use Rattle.om_signs.specs.declared.sign.Sign.TheVariants.{Minus, Zero, Plus}
use Rattle.om_signs.specs.Sign.{opposite, product, first_nonzero}
use Rattle.om_signs.specs.SignVec.{at, IsSeparated}
use Rattle.om_signs.proofs.ListPlaces.{at-map-opposite, at-replicate}
use Rattle.om_signs.proofs.SignLaws.{zero_or_nonzero, same_or_different, equal_or_opposite, product_zero_right}
use Rattle.om_signs.proofs.SignLaws.{first_nonzero-zero, product_minus_if_opposite}
use Rattle.om_laws.specs.Signs.{IsNonzero}
use Rattle.om_members.specs.Listings.{AreDistinct}
use Rattle.om_denotation.specs.Listings.{HasMoreThan}
use Rattle.om_make.proofs.FirstSigns.{IsDeleted, IsContracted, fewer, few_by_minors}

-- Z is zero at the place, and where X and Y are not separated it is their composition
pub record IsEliminator (X Y : List Sign) (i : ℕ) (Z : List Sign) : Type 0 where
  pub zero : at Z i ≡ Zero
  pub outside : (j : ℕ) → (IsSeparated X Y j → ⊥) → at Z j ≡ first_nonzero (at X j) (at Y j)

-- members with n signs, with zero among them, and with negatives and elimination
pub record IsClosed (n : ℕ) (P : List Sign → Type 0) : Type 0 where
  pub size : (X : List Sign) → P X → length X ≡ n
  pub zero : P (replicate n Zero)
  pub symmetric : (X : List Sign) → P X → P (map opposite X)
  pub elimination : (X Y : List Sign) → P X → P Y → (i : ℕ) → IsSeparated X Y i → (Z : List Sign) × P Z
      × IsEliminator X Y i Z

-- a member that is zero at a place
abbrev pub IsZeroAt : (List Sign → Type 0) → ℕ → List Sign → Type 0
IsZeroAt P i X = P X × (at X i ≡ Zero)

-- rank r at most: in rank 0 all members are zero, and those that are zero where some member isn't have less rank
abbrev pub HasRankAtMost : ℕ → (List Sign → Type 0) → Type 0
HasRankAtMost zero P = (X : List Sign) → P X → (i : ℕ) → at X i ≡ Zero
HasRankAtMost (suc r) P = (X : List Sign) → P X → (i : ℕ) → at X i ≢ Zero → HasRankAtMost r (IsZeroAt P i)

-- each member of Q is read off one of P, at places that f names
pub rank_moved : (r : ℕ) (P Q : List Sign → Type 0) (f : ℕ → ℕ)
    → ((Y : List Sign) → Q Y → (X : List Sign) × P X × ((i : ℕ) → at X (f i) ≡ at Y i)) → HasRankAtMost r P
    → HasRankAtMost r Q
rank_moved zero P Q f from h = λ Y y i. let x = from Y y in sym (x.2 i) ∙ h x.0 x.1 (f i)
rank_moved (suc r) P Q f from h = λ Y y i n.
    let x = from Y y in
    rank_moved r (IsZeroAt P (f i)) (IsZeroAt Q i) f
    (λ W w. let v = from W w.0 in (v.0, (v.1, v.2 i ∙ w.1), v.2))
    (h x.0 x.1 (f i) (λ z. n (sym (x.2 i) ∙ z)))

-- ---- the deletion and the contraction of the first element

-- the second sign isn't against the first, and adds nothing to it
abbrev AddsNothing : Sign → Sign → Type 0
AddsNothing s t = (product s t ≢ Minus) × (first_nonzero s t ≡ s)

same_adds_nothing : (s : Sign) → AddsNothing s s
same_adds_nothing Minus = (λ e. cc, refl)
same_adds_nothing Zero = (λ e. cc, refl)
same_adds_nothing Plus = (λ e. cc, refl)

zero_adds_nothing : (s t : Sign) → t ≡ Zero → AddsNothing s t
zero_adds_nothing s t e = (λ q. let z = product_zero_right s t e in cc, ap (first_nonzero s) e ∙ first_nonzero-zero s)

apart_from_negative : (s t : Sign) → s ≡ t → s ≢ Zero → product s (opposite t) ≡ Minus
apart_from_negative s t e n = grind arith

module _ (n : ℕ) (P : List Sign → Type 0) (closed : IsClosed (suc n) P) where
  -- a member by its first sign and the rest
  with_first : (X : List Sign) → P X → (s : Sign) × (Y : List Sign) × (X ≡ s ∷ Y)
  with_first [] x = absurd (let l = closed.size [] x in omega arith)
  with_first (s ∷ Y) x = (s, Y, refl)

  rest_size : (s : Sign) (Y : List Sign) → P (s ∷ Y) → length Y ≡ n
  rest_size s Y x = let l = closed.size (s ∷ Y) x in omega arith

  eliminated : (s t : Sign) (X Y : List Sign) → P (s ∷ X) → P (t ∷ Y) → (i : ℕ) → IsSeparated (s ∷ X) (t ∷ Y) i
      → (u : Sign) × (Z : List Sign) × P (u ∷ Z) × IsEliminator (s ∷ X) (t ∷ Y) i (u ∷ Z)
  eliminated s t X Y x y i apart =
      let z = closed.elimination (s ∷ X) (t ∷ Y) x y i apart in
      let w = with_first z.0 z.1 in
      (w.0, w.1, subst P w.2 z.1, subst (IsEliminator (s ∷ X) (t ∷ Y) i) w.2 z.2)

  rest_eliminator : (s t u : Sign) (X Y Z : List Sign) (i : ℕ) → IsEliminator (s ∷ X) (t ∷ Y) (suc i) (u ∷ Z)
      → IsEliminator X Y i Z
  rest_eliminator s t u X Y Z i e = record { zero = e.zero; outside = λ j. e.outside (suc j) }

  deleted_closed : IsClosed n (IsDeleted P)
  deleted_closed = record {
    size = λ Y y. rest_size y.0 Y y.1;
    zero = (Zero, closed.zero);
    symmetric = λ Y y. (opposite y.0, closed.symmetric (y.0 ∷ Y) y.1);
    elimination = λ X Y x y i apart.
        let z = eliminated x.0 y.0 X Y x.1 y.1 (suc i) apart in
        (z.1, (z.0, z.2), rest_eliminator x.0 y.0 z.0 X Y z.1 i z.3);
  }

  contracted_closed : IsClosed n (IsContracted P)
  contracted_closed = record {
    size = rest_size Zero;
    zero = closed.zero;
    symmetric = λ Y y. closed.symmetric (Zero ∷ Y) y;
    elimination = λ X Y x y i apart.
        let z = eliminated Zero Zero X Y x y (suc i) apart in
        (z.1, subst (λ s. P (s ∷ z.1)) (z.3.outside 0 (λ e. cc)) z.2, rest_eliminator Zero Zero z.0 X Y z.1 i z.3);
  }

  -- opposite first signs, where the rest of the second member adds nothing to that of the first
  dropped : (s t : Sign) (Y Z : List Sign) → product s t ≡ Minus → ((i : ℕ) → AddsNothing (at Y i) (at Z i)) → P (s ∷ Y)
      → P (t ∷ Z) → IsContracted P Y
  dropped s t Y Z apart none y z =
      let w = eliminated s t Y Z y z 0 apart in
      let same : w.1 ≡ Y = ext_get_or Zero w.1 Y (rest_size w.0 w.1 w.2 ∙ sym (rest_size s Y y))
      (λ i l. w.3.outside (suc i) (none i).0 ∙ (none i).1) in
      subst (λ V. P (Zero ∷ V)) same (subst (λ u. P (u ∷ w.1)) w.3.zero w.2)

  first_eliminated : (Y : List Sign) → P (Plus ∷ Y) → P (Minus ∷ Y) → IsContracted P Y
  first_eliminated Y = dropped Plus Minus Y Y refl (λ i. same_adds_nothing (at Y i))

  -- if the vector that is nonzero at the first element alone is a member, each member of the deletion is one of the
  -- contraction
  first_dropped : (s t : Sign) (Y : List Sign) → IsNonzero s → IsNonzero t → P (s ∷ replicate n Zero) → P (t ∷ Y)
      → IsContracted P Y
  first_dropped s t Y ns nt o y = ⊎_elim
      (λ e. dropped t (opposite s) Y (map opposite (replicate n Zero)) (apart_from_negative t s e nt)
      (λ i. zero_adds_nothing (at Y i) (at (map opposite (replicate n Zero)) i)
      (at-map-opposite (replicate n Zero) i ∙ ap opposite (at-replicate n i)))
      y (closed.symmetric (s ∷ replicate n Zero) o))
      (λ e. dropped t s Y (replicate n Zero) (product_minus_if_opposite t s nt e)
      (λ i. zero_adds_nothing (at Y i) (at (replicate n Zero) i) (at-replicate n i)) y o)
      (equal_or_opposite t s nt ns)

  deleted_rank : (r : ℕ) → HasRankAtMost r P → HasRankAtMost r (IsDeleted P)
  deleted_rank r h = rank_moved r P (IsDeleted P) suc (λ Y y. (y.0 ∷ Y, y.1, λ i. refl)) h

  contracted_rank : (r : ℕ) → HasRankAtMost (suc r) P → (s : Sign) (X : List Sign) → s ≢ Zero → P (s ∷ X)
      → HasRankAtMost r (IsContracted P)
  contracted_rank r h s X n x =
      rank_moved r (IsZeroAt P 0) (IsContracted P) suc (λ Y y. (Zero ∷ Y, (y, refl), λ i. refl)) (h (s ∷ X) x 0 n)

-- ---- rank 1

four_signs : (s t u v : Sign) → s ≢ t → s ≢ u → s ≢ v → t ≢ u → t ≢ v → u ≢ v → ⊥
four_signs s t u v a b c d e f = grind arith

-- two vectors that differ do so at some place
place_of_difference : (X Y : List Sign) → length X ≡ length Y → X ≢ Y → (i : ℕ) × (at X i ≢ at Y i)
place_of_difference [] [] l n = absurd (n refl)
place_of_difference [] (t ∷ Y) l n = absurd (omega arith)
place_of_difference (s ∷ X) [] l n = absurd (omega arith)
place_of_difference (s ∷ X) (t ∷ Y) l n = ⊎_elim
    (λ q. let d = place_of_difference X Y (omega arith) (λ e. n cc) in (suc d.0, d.1))
    (λ d. (0, d))
    (same_or_different s t)

-- the same, if one and the opposite of the other are separated or have the composition zero
same_signs : (s t : Sign) → ((product s (opposite t) ≡ Minus → ⊥) → first_nonzero s (opposite t) ≡ Zero) → s ≡ t
same_signs s t h = grind arith

module _ (n : ℕ) (P : List Sign → Type 0) (closed : IsClosed n P) (rank : HasRankAtMost 1 P) where
  both_zero : (U : List Sign) → P U → (i : ℕ) → at U i ≢ Zero → (X Y : List Sign) → P X → P Y → at X i ≡ Zero
      → at Y i ≡ Zero → X ≡ Y
  both_zero U u i n X Y x y zx zy =
      ext_get_or Zero X Y (closed.size X x ∙ sym (closed.size Y y))
      (λ j l. rank U u i n X (x, zx) j ∙ sym (rank U u i n Y (y, zy) j))

  -- a member is known by its sign where some member isn't zero
  known_by_sign : (U : List Sign) → P U → (i : ℕ) → at U i ≢ Zero → (X Y : List Sign) → P X → P Y → at X i ≡ at Y i
      → X ≡ Y
  known_by_sign U u i n X Y x y e = ⊎_elim
      (λ z. both_zero U u i n X Y x y z (sym e ∙ z))
      (λ nx.
      let apart : IsSeparated X (map opposite Y) i =
      rw (at-map-opposite Y i) (apart_from_negative (at X i) (at Y i) e nx) in
      let z = closed.elimination X (map opposite Y) x (closed.symmetric Y y) i apart in
      ext_get_or Zero X Y (closed.size X x ∙ sym (closed.size Y y)) (λ j l. same_signs (at X j) (at Y j) (λ out.
      let o = z.2.outside j (λ s. out (rw at-map-opposite at s)) in
      sym (rw at-map-opposite at o) ∙ rank U u i n z.0 (z.1, z.2.zero) j)))
      (zero_or_nonzero (at X i))

  known_apart : (U : List Sign) → P U → (i : ℕ) → at U i ≢ Zero → (X Y : List Sign) → P X → P Y → X ≢ Y
      → at X i ≢ at Y i
  known_apart U u i n X Y x y d e = d (known_by_sign U u i n X Y x y e)

  few_in_rank_one : HasMoreThan 3 P → ⊥
  few_in_rank_one more = four more.members more.many more.distinct (λ X c. All-contains P more.members X more.each c)
    where
      four : (xs : List (List Sign)) → 3 < length xs → AreDistinct xs → ((X : List Sign) → Contains xs X → P X) → ⊥
      four (A ∷ B ∷ C ∷ D ∷ xs) l d each =
          let a = each A (0, omega arith, refl) in
          let b = each B (1, omega arith, refl) in
          let p = place_of_difference A B (closed.size A a ∙ sym (closed.size B b))
          (d 0 1 A (omega arith) (omega arith)) in
          ⊎_elim
          (λ z. distinct B b p.0 (λ y. p.1 (z ∙ sym y)))
          (distinct A a p.0)
          (zero_or_nonzero (at A p.0))
        where
          member : (k : ℕ) → k < 4 → P (get_or (A ∷ B ∷ C ∷ D ∷ xs) k [])
          member k h = each _ (Contains-get_or (A ∷ B ∷ C ∷ D ∷ xs) k [] (omega arith))

          distinct : (U : List Sign) → P U → (i : ℕ) → at U i ≢ Zero → ⊥
          distinct U u i n =
              let signs = λ (j k : ℕ) (h : j < k) (g : k < 4). known_apart U u i n _ _ (member j (omega arith))
              (member k g) (d j k [] h (omega arith)) in
              four_signs (at A i) (at B i) (at C i) (at D i)
              (signs 0 1 (omega arith) (omega arith)) (signs 0 2 (omega arith) (omega arith))
              (signs 0 3 (omega arith) (omega arith))
              (signs 1 2 (omega arith) (omega arith)) (signs 1 3 (omega arith) (omega arith))
              (signs 2 3 (omega arith) (omega arith))
      four xs l d each = absurd (omega arith)

-- ---- few elements

few_on_none : (P : List Sign → Type 0) → IsClosed 0 P → HasMoreThan 1 P → ⊥
few_on_none P closed more =
    more.distinct 0 1 [] (omega arith) more.many (empty 0 (let l = more.many in omega arith) ∙ sym (empty 1 more.many))
  where
    empty : (k : ℕ) → k < length more.members → get_or more.members k [] ≡ []
    empty k l = nil_from_length _ (closed.size _ (more.each k [] l))

-- one element has rank 1 at most
rank_of_one : (P : List Sign → Type 0) → IsClosed 1 P → HasRankAtMost 1 P
rank_of_one P closed = λ X x i n Y y. on_one X Y (closed.size X x) (closed.size Y y.0) i n y.1
  where
    behind : (X : List Sign) → length X ≡ 1 → (i : ℕ) → at X (suc i) ≡ Zero
    behind [] l i = refl
    behind (s ∷ []) l i = refl
    behind (s ∷ t ∷ X) l i = absurd (omega arith)

    on_one : (X Y : List Sign) → length X ≡ 1 → length Y ≡ 1 → (i : ℕ) → at X i ≢ Zero → at Y i ≡ Zero → (j : ℕ)
        → at Y j ≡ Zero
    on_one X Y l m (suc i) n z j = absurd (n (behind X l i))
    on_one X Y l m zero n z zero = z
    on_one X Y l m zero n z (suc j) = behind Y m j

few_on_one : (P : List Sign → Type 0) → IsClosed 1 P → HasMoreThan 3 P → ⊥
few_on_one P closed = few_in_rank_one 1 P closed (rank_of_one P closed)

-- ---- bounds by the rank

-- no closed family of rank r at most has more than k members on n elements
abbrev pub IsBound : ℕ → ℕ → ℕ → Type 1
IsBound r n k = (P : List Sign → Type 0) → IsClosed n P → HasRankAtMost r P → HasMoreThan k P → ⊥

-- from bounds of the deletion and of the contraction
bound_on_one_more : (r n b z k : ℕ) → b ≤ k → 3 * z ≤ k → b + 2 * z ≤ k + 2 → IsBound (suc r) n b → IsBound r n z
    → IsBound (suc r) (suc n) k
bound_on_one_more r n b z k loop coloop neither deleted contracted =
    λ P closed rank. few_by_minors n b z k P closed.size (first_eliminated n P closed)
    (replicate n Zero) closed.zero (first_dropped n P closed)
    (deleted (IsDeleted P) (deleted_closed n P closed) (deleted_rank n P closed (suc r) rank))
    (λ s Y a y. contracted (IsContracted P) (contracted_closed n P closed) (contracted_rank n P closed r rank s Y a y))
    loop coloop neither

bound_in_rank_one : (n : ℕ) → IsBound 1 n 3
bound_in_rank_one n = λ P closed rank. few_in_rank_one n P closed rank

-- on one element there are 3, and not 5
bound_in_rank_two : (n : ℕ) → IsBound 2 n (4 * n + 1)
bound_in_rank_two zero = λ P closed rank. few_on_none P closed
bound_in_rank_two (suc zero) = λ P closed rank. fewer 3 5 P (omega arith) (few_on_one P closed)
bound_in_rank_two (suc (suc n)) =
    bound_on_one_more 1 (suc n) (4 * suc n + 1) 3 (4 * suc (suc n) + 1) (omega arith) (omega arith) (omega arith)
    (bound_in_rank_two (suc n)) (bound_in_rank_one (suc n))

-- n elements in rank 3
abbrev most : ℕ → ℕ
most n = 4 * (n * (n - 1)) + 3

most_of_more : (n : ℕ) → most (suc n) ≡ 4 * (n * n + n) + 3
most_of_more n = let e : suc n - 1 ≡ n = omega arith in rw e (grind arith)

-- on none there is 1, and on two there are 9
pub bound_in_rank_three : (n : ℕ) → IsBound 3 n (4 * (n * (n - 1)) + 3)
bound_in_rank_three zero = λ P closed rank. fewer 1 3 P (omega arith) (few_on_none P closed)
bound_in_rank_three (suc zero) = λ P closed rank. few_on_one P closed
bound_in_rank_three (suc (suc zero)) =
    bound_on_one_more 2 1 3 3 11 (omega arith) (omega arith) (omega arith) (bound_in_rank_three (suc zero))
    (λ P closed rank. few_on_one P closed)
bound_in_rank_three (suc (suc (suc n))) =
    let p = most_of_more (suc n) in
    let q = most_of_more (suc (suc n)) in
    bound_on_one_more 2 (suc (suc n)) (most (suc (suc n))) (4 * suc (suc n) + 1) (most (suc (suc (suc n))))
    (grind arith) (grind arith) (grind arith)
    (bound_in_rank_three (suc (suc n))) (bound_in_rank_two (suc (suc n)))
