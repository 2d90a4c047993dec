-- What a `for` or a chain of iterators over the sets of one size gives.
--
-- Main definitions: IsSetOf, IsFirstSet, FindsFirst
-- Main results: gives_all_sets and gives_all_subsets, the sets that come and their lists; at_turn, number_at_end,
-- all_at_end, mapped_more and mapped_at_end, for a `for`; callable_at_sets, where a closure may be called;
-- holds_of_all, what `all` gives; finds_first and none_at_places, what `find` gives; set_of_pair, for sets that come
-- with other values
use Rattle.std.specs.Prelude.{ℕ, ◌≡◌, ◌<◌, List, [], ◌∷◌, ◌++◌, length, map, Option, Some, None, Bool, true, false}
use Rattle.std.specs.Prelude.{MatchOption, ⊤, IfNone, IfSome, IsTrue, ◌↔◌}
use Rattle.std.specs.Bool.{MatchBool}
use Rattle.std.proofs.Common.{zero, suc, refl, sym, ◌∙◌, ap, arith, subst, get_or}
use Rattle.std.specs.Iterator.{YieldsFirst, YieldsThen, Yields, CallableAtEachTurn}
use Rattle.std.specs.List.{FoldsTo, AllWithin, HoldsAt, All, filter, zip}
use Rattle.std.proofs.lemmas.List.Elements.{All-filter, All-from_get_or}
use Rattle.std.specs.Fn.{Called, CalledAt}
use denote.Param.Members.{Mut}
use denote.Ref.{Bor}
use Rattle.std.proofs.lemmas.Bool.{false≢true}
use Rattle.std.proofs.lemmas.Iterator.{YieldsList, cases_from_all, first_from_find}
use Rattle.std.proofs.lemmas.Iterator.Adapters.{serves_from_places}
use Rattle.std.proofs.lemmas.Iterator.Consumers.{YieldsList-from_shown, YieldsList-from_first, YieldsList-turn}
use Rattle.std.proofs.lemmas.Iterator.Consumers.{YieldsList-end}
use Rattle.std.proofs.lemmas.List.{get_or-map, map-append}
use Rattle.std.proofs.lemmas.Simd.{map-map}
use Rattle.om_subsets.specs.Lists.{IsBefore}
use Rattle.om_subsets.specs.Subsets.{choose, all_subsets, subset_at, rank_of, IsSubsetFrom}
use Rattle.om_subsets.specs.Members.{Chosen}
use Rattle.om_subsets.specs.Sets.{set_of, all_sets}
use Rattle.om_subsets.proofs.Order.{length-subsets_from, get_or-rank_from, rank_from-lt, lexicographic, listed}
use Rattle.om_subsets.proofs.Sets.{length-all_sets}
use Rattle.om_subsets.proofs.Walks.{IsAt}

-- a call of `next` gives the first of the sets that are to come
abbrev pub set_steps : List Chosen → Option Chosen → List Chosen → Type 0
set_steps = YieldsFirst (λ s. s)

-- one of the sets of r of the elements 1 to n
pub record IsSetOf (n r : ℕ) (a : Chosen) : Type 0 where
  pub n_is : a.n ≡ n
  pub size : length a.elements ≡ r
  pub list : IsSubsetFrom 1 n a.elements

place_within : (n r k : ℕ) → k < length (all_sets n r) → k < choose n r
place_within n r k l = let q = length-all_sets n r in omega (arith, q, l)

set_at : (n r k : ℕ) (d : Chosen) → k < choose n r → get_or (all_sets n r) k d ≡ set_of n (subset_at n r k)
set_at n r k d l = get_or-map (set_of n) (all_subsets n r) k [] d
    (let e = length-subsets_from 1 n r in omega (arith, e))

set_is : (n r k : ℕ) (a : Chosen) → k < choose n r → a ≡ set_of n (subset_at n r k) → IsSetOf n r a
set_is n r k a l e =
    let h = listed 1 n r k l in
    subst (IsSetOf n r) (sym e) (record { n_is = refl; size = h.size; list = h.lawful })

listed_is_set : (n r k : ℕ) (a : Chosen) → k < length (all_sets n r) → a ≡ get_or (all_sets n r) k a → IsSetOf n r a
listed_is_set n r k a l e =
    let inside = place_within n r k l in set_is n r k a inside (e ∙ set_at n r k a inside)

all_are_sets : (n r : ℕ) → All (IsSetOf n r) (all_sets n r)
all_are_sets n r = All-from_get_or (IsSetOf n r) (all_sets n r) (set_of n [])
    (λ k l.
    let inside = place_within n r k l in
    set_is n r k (get_or (all_sets n r) k (set_of n [])) inside (set_at n r k (set_of n []) inside))

-- the same sets, where n and r are what two calls gave
pub all_sets_of : {n r m q : ℕ} {s : List Chosen} → s ≡ all_sets m q → m ≡ n → q ≡ r → s ≡ all_sets n r
all_sets_of {n} {r} {m} {q} e mn qr = e ∙ ap (λ i. all_sets i q) mn ∙ ap (all_sets n) qr

-- the sets that come
pub gives_all_sets : (n r : ℕ) {s : List Chosen} → s ≡ all_sets n r → YieldsList set_steps (λ c. c) s (all_sets n r)
gives_all_sets n r {s} e = YieldsList-from_first (λ c. c) (λ t. t) (all_sets n r) e

-- the lists of their elements
pub gives_all_subsets : (n r : ℕ) {s : List Chosen} → s ≡ all_sets n r
    → YieldsList set_steps (λ c. c.elements) s (all_subsets n r)
gives_all_subsets n r {s} e =
    subst (λ l. YieldsList set_steps (λ c. c.elements) s l) (ap (map (λ c. c.elements)) e ∙ lists (all_subsets n r))
    (YieldsList-from_shown set_steps (λ c. c.elements) (map (λ c. c.elements))
    (λ t u h. ap (λ l. length (map (λ c. c.elements) l)) h.0) (λ t x u h. ap (map (λ c. c.elements)) h) s)
  where
    lists : (l : List (List ℕ)) → map (λ c. c.elements) (map (set_of n) l) ≡ l
    lists [] = refl
    lists (x ∷ l) = ap (λ m. x ∷ m) (lists l)

-- ---- a `for` over the sets, which has yielded xs and has t to come

-- the set of a turn, at the place that the number of sets so far tells
pub record IsTurn (n r k : ℕ) (a : Chosen) : Type 0 where
  pub inside : k < choose n r
  pub at : IsAt n r k a
  pub here : a.elements ≡ subset_at n r k

-- the set of a turn is the one at its place
pub at_turn : (n r : ℕ) {s : List Chosen} (xs t u : List Chosen) {o : Option Chosen} {x : Chosen} → s ≡ all_sets n r
    → Yields set_steps s xs t → o ≡ Some x → set_steps t o u → IsTurn n r (length xs) x
at_turn n r {s} xs t u {o} {x} e y is step =
    let h = YieldsList-turn (gives_all_sets n r e) xs t y o u x is step in
    let inside = place_within n r (length xs) h.0 in
    let here : x ≡ set_of n (subset_at n r (length xs)) = h.1 ∙ set_at n r (length xs) x inside in
    let set = set_is n r (length xs) x inside here in
    record {
      inside = inside;
      at = record {
        n_is = set.n_is;
        size = set.size;
        list = set.list;
        place = λ l. ap (λ c. rank_of n c.elements) here ∙ (listed 1 n r (length xs) inside).place;
      };
      here = ap (λ c. c.elements) here;
    }

-- at the end as many sets came as there are
pub number_at_end : (n r : ℕ) {s : List Chosen} (xs t u : List Chosen) {o : Option Chosen} → s ≡ all_sets n r
    → Yields set_steps s xs t → o ≡ None → set_steps t o u → length xs ≡ choose n r
number_at_end n r {s} xs t u {o} e y is step =
    (YieldsList-end (gives_all_sets n r e) xs t y o u is step).1 ∙ length-all_sets n r

-- at the end all sets came, in their order
pub all_at_end : (n r : ℕ) {s : List Chosen} (xs t u : List Chosen) {o : Option Chosen} → s ≡ all_sets n r
    → Yields set_steps s xs t → o ≡ None → set_steps t o u → map (λ c. c.elements) xs ≡ all_subsets n r
all_at_end n r {s} xs t u {o} e y is step =
    (YieldsList-end (gives_all_subsets n r e) xs t y o u is step).0

-- one more is listed, for the set of this turn
pub mapped_more : {X : Type 0} (f : List ℕ → X) (xs : List Chosen) (x : Chosen) (ys : List X) (y : X)
    → ys ≡ map (λ c. f c.elements) xs → y ≡ f x.elements → ys ++ y ∷ [] ≡ map (λ c. f c.elements) (xs ++ x ∷ [])
mapped_more f xs x ys y made e = ap (λ l. l ++ y ∷ []) made ∙ ap (λ z. map (λ c. f c.elements) xs ++ z ∷ []) e
    ∙ sym (map-append (λ c. f c.elements) xs (x ∷ []))

-- what was listed for each set that came is then listed for all sets
pub mapped_at_end : {X : Type 0} (n r : ℕ) (f : List ℕ → X) (ys : List X) {s : List Chosen} (xs t u : List Chosen)
    {o : Option Chosen} → ys ≡ map (λ c. f c.elements) xs → s ≡ all_sets n r → Yields set_steps s xs t → o ≡ None
    → set_steps t o u → ys ≡ map f (all_subsets n r)
mapped_at_end n r f ys xs t u made e y is step =
    made ∙ sym (map-map f (λ c. c.elements) xs) ∙ ap (map f) (all_at_end n r xs t u e y is step)

-- ---- a chain with closures

-- a closure that leaves itself as it was may be called at each of the sets
pub callable_at_sets : (n r : ℕ) {s : List Chosen} → s ≡ all_sets n r → {F : Type 0} {R : F → Chosen → F → Type 0}
    {Q : F → Chosen → Type 0} {f : F} → ((x : Chosen) (q : F) → R f x q → q ≡ f)
    → ((x : Chosen) → IsSetOf n r x → Q f x) → CallableAtEachTurn set_steps R Q s f
callable_at_sets n r e keeps takes =
    serves_from_places (gives_all_sets n r e) keeps (λ x k l h. takes x (listed_is_set n r k x l h))

-- the first of a pair, where some of the sets come together with other values
pub set_of_pair : {W : Type 0} (n r : ℕ) (test : Chosen → Bool) (ws : List W) (k : ℕ) (x : Chosen × W)
    → k < length (zip (filter test (all_sets n r)) ws) → x ≡ get_or (zip (filter test (all_sets n r)) ws) k x
    → IsSetOf n r x.0
set_of_pair {W} n r test ws k x l e =
    subst (λ p. IsSetOf n r p.0) (sym e)
    (in_pair (filter test (all_sets n r)) ws k x (All-filter test (IsSetOf n r) (all_sets n r) (all_are_sets n r)) l)
  where
    in_pair : (xs : List Chosen) (vs : List W) (j : ℕ) (d : Chosen × W) → All (IsSetOf n r) xs → j < length (zip xs vs)
        → IsSetOf n r (get_or (zip xs vs) j d).0
    in_pair [] vs j d h m = absurd (omega arith)
    in_pair (y ∷ xs) [] j d h m = absurd (omega arith)
    in_pair (y ∷ xs) (v ∷ vs) zero d h m = h 0 y (omega arith)
    in_pair (y ∷ xs) (v ∷ vs) (suc j) d h m = in_pair xs vs j d (λ k e l. h (suc k) e (omega arith)) (omega arith)

-- what holds of the sets at the places below i, of the set at one of them
at_place : (n r : ℕ) (P : List ℕ → Type 0) (k i : ℕ) → AllWithin (λ c. P c.elements) (all_sets n r) 0 i
    → k < choose n r → k < i → P (subset_at n r k)
at_place n r P k i h inside l = subst P (ap (λ c. c.elements) (set_at n r k (set_of n []) inside))
    (h k (set_of n []) (omega arith) l)

-- the same, of a set whose place is below i
at_list : (n r : ℕ) (P : List ℕ → Type 0) (i : ℕ) → AllWithin (λ c. P c.elements) (all_sets n r) 0 i → (t : List ℕ)
    → IsSubsetFrom 1 n t → length t ≡ r → rank_of n t < i → P t
at_list n r P i h t list size l =
    let inside : rank_of n t < choose n r = subst (λ m. rank_of n t < choose n m) size (rank_from-lt 1 n t list) in
    let here : subset_at n r (rank_of n t) ≡ t = ap (λ m. subset_at n m (rank_of n t)) (sym size)
    ∙ get_or-rank_from 1 n t list in
    subst P here (at_place n r P (rank_of n t) i h inside l)

-- what `all` gives, by its clause `ran`
pub holds_of_all : (n r : ℕ) (Yes : List ℕ → Type 0) {F : Type 0} {g : Mut F (Chosen × Unit {0}) Bool}
    {s : List Chosen} → s ≡ all_sets n r → (u : List Chosen) (f : F) (b : Bool)
    → (xs : List Chosen) × (o : Option Chosen) × (j : F) × YieldsThen set_steps s xs o u
    × FoldsTo (λ p x q. Called g p (x, tt) true q) f xs j
    × MatchOption o (b ≡ true) (λ x. (b ≡ false) × ((h : F) × Called g j (x, tt) false h))
    → ((x : Chosen) (q : F) → Called g f (x, tt) true q → (q ≡ f) × Yes x.elements)
    → ((x : Chosen) (q : F) → Called g f (x, tt) false q → Yes x.elements → ⊥)
    → IsTrue b ↔ ((t : List ℕ) → IsSubsetFrom 1 n t → length t ≡ r → Yes t)
holds_of_all n r Yes e u f b ran hit miss =
    read b
    (cases_from_all u f b (λ c. Yes c.elements) (λ c. Yes c.elements → ⊥) ran (gives_all_sets n r e) hit miss)
  where
    read : (b : Bool)
        → MatchBool b (AllWithin (λ c. Yes c.elements) (all_sets n r) 0 (length (all_sets n r)))
        ((k : ℕ) × (k < length (all_sets n r)) × HoldsAt (λ c. Yes c.elements → ⊥) (all_sets n r) k)
        → IsTrue b ↔ ((t : List ℕ) → IsSubsetFrom 1 n t → length t ≡ r → Yes t)
    read true h = (
      λ e t list size.
          let l = rank_from-lt 1 n t list in
          let q = length-all_sets n r in
          let m = ap (choose n) size in
          at_list n r Yes (length (all_sets n r)) h t list size (omega (arith, l, q, m)),
      λ w. refl,
    )
    read false (k, l, other) =
        let inside = place_within n r k l in
        let set = listed 1 n r k inside in (
          λ e. absurd (false≢true e),
          λ w. absurd
              (other (set_of n [])
              (subst Yes (sym (ap (λ c. c.elements) (set_at n r k (set_of n []) inside)))
              (w (subset_at n r k) set.lawful set.size))),
        )

-- the first of the sets, in lexicographic order, with Yes; those before it have No, by their places and by their lists
pub record IsFirstSet (n r : ℕ) (Yes No : List ℕ → Type 0) (a : Chosen) : Type 0 where
  pub set : IsSetOf n r a
  pub yes : Yes a.elements
  pub below : (k : ℕ) → k < rank_of n a.elements → No (subset_at n r k)
  pub earlier : (t : List ℕ) → IsSubsetFrom 1 n t → length t ≡ r → IsBefore t a.elements → No t

-- None where all sets have No, and else the first that has Yes
pub record FindsFirst (n r : ℕ) (Yes No : List ℕ → Type 0) (o : Option Chosen) : Type 0 where
  pub none : IfNone o ((t : List ℕ) → IsSubsetFrom 1 n t → length t ≡ r → No t)
  pub first : IfSome o (IsFirstSet n r Yes No)

-- what `find` gives, by its clause `ran`; a closure that answers true shows Yes, and one that answers false shows No
pub finds_first : (n r : ℕ) (Yes No : List ℕ → Type 0) {F : Type 0} {g : Mut F (Bor Chosen × Unit {0}) Bool}
    {s : List Chosen} → s ≡ all_sets n r → (u : List Chosen) (f : F) (o : Option Chosen)
    → (xs : List Chosen) × (j : F) × YieldsThen set_steps s xs o u × FoldsTo (λ p x q. CalledAt g p x false q) f xs j
    × MatchOption o ⊤ (λ x. (h : F) × CalledAt g j x true h)
    → ((x : Chosen) (q : F) → CalledAt g f x true q → Yes x.elements)
    → ((x : Chosen) (q : F) → CalledAt g f x false q → (q ≡ f) × No x.elements)
    → FindsFirst n r Yes No o
finds_first n r Yes No e u f o ran hit miss =
    read o
    (first_from_find u f o (λ c. Yes c.elements) (λ c. No c.elements) ran (gives_all_sets n r e) hit miss)
  where
    read : (o : Option Chosen)
        → MatchOption o (AllWithin (λ c. No c.elements) (all_sets n r) 0 (length (all_sets n r)))
        (λ x. Yes x.elements × (i : ℕ) × (i < length (all_sets n r)) × HoldsAt (λ y. y ≡ x) (all_sets n r) i
        × AllWithin (λ c. No c.elements) (all_sets n r) 0 i)
        → FindsFirst n r Yes No o
    read None h = record {
      none = λ t list size.
          let l = rank_from-lt 1 n t list in
          let q = length-all_sets n r in
          let m = ap (choose n) size in
          at_list n r No (length (all_sets n r)) h t list size (omega (arith, l, q, m));
      first = tt;
    }
    read (Some x) (y, i, l, at, before) =
        let inside = place_within n r i l in
        let here : x ≡ set_of n (subset_at n r i) = sym (at x) ∙ set_at n r i x inside in
        let set = set_is n r i x inside here in
        let place : rank_of n x.elements ≡ i = ap (λ c. rank_of n c.elements) here ∙ (listed 1 n r i inside).place in
        record {
          none = tt;
          first = record {
            set = set;
            yes = y;
            below = λ k lt. at_place n r No k i before (omega (arith, lt, place, inside)) (omega (arith, lt, place));
            earlier = λ t list size b.
                let lt = (lexicographic 1 n t x.elements list set.list (size ∙ sym set.size)).0 b in
                at_list n r No i before t list size (omega (arith, lt, place));
          };
        }

-- where `find` gives None, each place has No
pub none_at_places : (n r : ℕ) (Yes No : List ℕ → Type 0) (o : Option Chosen) → FindsFirst n r Yes No o
    → IfNone o ((k : ℕ) → k < choose n r → No (subset_at n r k))
none_at_places n r Yes No None h = λ k l. let s = listed 1 n r k l in h.none (subset_at n r k) s.lawful s.size
none_at_places n r Yes No (Some x) h = tt
