-- The places of the sets with one element more, by one walk over the elements.
--
-- Main results: walk_start, walk_in and walk_off, the steps of the walk; places_in and places_off, what it has found.
use Rattle.std.specs.Prelude.{ℕ, ◌≡◌, ◌≢◌, ◌+◌, ◌-◌, ◌<◌, ◌≤◌, ◌↔◌, ◌⊎◌, List, [], ◌∷◌, length, refl}
use Rattle.std.proofs.Common.{zero, suc, sym, ◌∙◌, ap, arith, inl, inr, subst, get_or, set}
use Rattle.std.proofs.lemmas.Bool.{cases_eq, cases_order, eq-eqb, ne_eqb, lt-ltb, le-ltb}
use Rattle.std.proofs.lemmas.List.{get_or-set_same, get_or-set_other}
use Rattle.om_subsets.specs.Subsets.{choose, rank_from, rank_of, IsSubsetFrom, IsMember, with_element}
use Rattle.om_subsets.proofs.Order.{head_low, members_from}
use Rattle.om_chirotope.proofs.Cocircuits.{length-with}

-- the elements ys of a set xs from e on, of m that are left; the place of the set with a further element f from e on is
-- that of ys with f among the elements from e on, and `head` more; and what the walk has passed, if `later` sets come
-- from xs on
pub record IsWalkOf (n : ℕ) (xs : List ℕ) (e m left passed later head : ℕ) (ys : List ℕ) : Type 0 where
  pub end : e + m ≡ n + 1
  pub list : IsSubsetFrom e m ys
  pub size : length ys ≡ left
  pub here : head + rank_from e m ys + later ≡ passed + choose m left
  pub same : (f : ℕ) → e ≤ f → IsMember f xs ↔ IsMember f ys
  pub more : (f : ℕ) → e ≤ f → f ≤ n → (IsMember f ys → ⊥)
      → rank_of n (with_element f xs) ≡ head + rank_from e m (with_element f ys)

abbrev pub IsWalk : ℕ → List ℕ → ℕ → ℕ → ℕ → ℕ → Type 0
IsWalk n xs e left passed later = (m : ℕ) × (head : ℕ) × (ys : List ℕ) × IsWalkOf n xs e m left passed later head ys

pub walk_start : (n : ℕ) (xs : List ℕ) (later : ℕ) → IsSubsetFrom 1 n xs
    → rank_of n xs + later ≡ choose n (length xs) → IsWalk n xs 1 (length xs) 0 later
walk_start n xs later h all = (
  n,
  0,
  xs,
  record {
    end = omega arith;
    list = h;
    size = refl;
    here = omega (arith, all);
    same = λ f l. (λ k. k, λ k. k);
    more =
        λ f l u k. omega arith;
  },
)

-- ---- what is in the set

in_step : (n : ℕ) (xs : List ℕ) (e m left passed later head : ℕ) (ys : List ℕ) → IsMember e xs
    → IsWalkOf n xs e (suc m) left passed later head ys
    → (1 ≤ left) × IsWalk n xs (e + 1) (left - 1) (passed + choose m left) later
in_step n xs e m left passed later head [] k w = absurd ((w.same e (omega arith)).0 k)
in_step n xs e m left passed later head (y ∷ ys) k w = go w.list
  where
    go : (y ≡ e) × IsSubsetFrom (e + 1) m ys ⊎ (y ≢ e) × IsSubsetFrom (e + 1) m (y ∷ ys) → (1 ≤ left)
        × IsWalk n xs (e + 1) (left - 1) (passed + choose m left) later
    go (inr (ne, h)) = absurd (no_member h)
      where
        no_member : IsSubsetFrom (e + 1) m (y ∷ ys) → ⊥
        no_member h =
            let b = (members_from (e + 1) m e (y ∷ ys) h ((w.same e (omega arith)).0 k)).0 in
            omega (arith, b)
    go (inl (q, h)) =
        let s = w.size in
        let end = w.end in (
          omega (arith, s),
          (
            m,
            head,
            ys,
            record {
              end = omega (arith, end);
              list = h;
              size = omega (arith, s);
              here = after (length ys) left s (rank_from (e + 1) m ys) (sym (ap (λ k. head + k + later) (step ys))
                  ∙ w.here);
              same = λ f l. (
                λ i. tail f l ((w.same f (omega (arith, l))).0 i),
                λ i. (w.same f (omega (arith, l))).1 (inr i),
              );
              more = λ f l u out. w.more f (omega (arith, l)) u (λ i. out (tail f l i))
                  ∙ ap (λ k. head + k) (ap (rank_from e (suc m)) (with_later f l) ∙ step (with_element f ys));
            },
          ),
        )
      where
        turned : (a b c : ℕ) → a + (b + c) ≡ a + c + b
        turned a b c = omega arith

        after : (size left : ℕ) → suc size ≡ left → (rank : ℕ) → head + rank + later ≡ passed + choose (suc m) left
            → head + rank + later ≡ passed + choose m left + choose m (left - 1)
        after size zero q rank h = absurd (omega (arith, q))
        after size (suc k) q rank h = let back : suc k - 1 ≡ k = omega arith in
            rw back (h ∙ turned passed (choose m k) (choose m (suc k)))

        step : (zs : List ℕ) → rank_from e (suc m) (y ∷ zs) ≡ rank_from (e + 1) m zs
        step zs = rw (eq-eqb y e q) refl

        tail : (f : ℕ) → e + 1 ≤ f → IsMember f (y ∷ ys) → IsMember f ys
        tail f l (inl p) = absurd (omega (arith, l, p, q))
        tail f l (inr i) = i

        with_later : (f : ℕ) → e + 1 ≤ f → with_element f (y ∷ ys) ≡ y ∷ with_element f ys
        with_later f l =
            let ne : f ≢ y = omega (arith, l, q) in
            let ge : y ≤ f = omega (arith, l, q) in
            rw (ne_eqb f y ne, le-ltb f y ge) refl

none_left : (e : ℕ) (ys : List ℕ) → IsSubsetFrom e zero ys → IsMember e ys → ⊥
none_left e [] h k = k
none_left e (y ∷ ys) h k = h

pub walk_in : (n : ℕ) (xs : List ℕ) (e left passed later without k : ℕ) → IsMember e xs → k ≡ n
    → without ≡ choose (k - e) left → IsWalk n xs e left passed later
    → (1 ≤ left) × IsWalk n xs (e + 1) (left - 1) (passed + without) later
walk_in n xs e left passed later without k i kn wk (zero, head, ys, w) =
    absurd (none_left e ys w.list ((w.same e (omega arith)).0 i))
walk_in n xs e left passed later without k i kn wk (suc m, head, ys, w) =
    let end = w.end in
    let q : k - e ≡ m = omega (arith, end, kn) in
    subst (λ j. (1 ≤ left) × IsWalk n xs (e + 1) (left - 1) (passed + j) later) (sym (wk ∙ ap (λ j. choose j left) q))
    (in_step n xs e m left passed later head ys i w)

-- ---- what isn't

-- the place of a list that begins later
skipped : (e m : ℕ) (ys : List ℕ) → IsSubsetFrom (e + 1) m ys
    → rank_from e (suc m) ys + choose m (length ys) ≡ rank_from (e + 1) m ys + choose (suc m) (length ys)
skipped e m [] h = first m
  where
    none : (m : ℕ) → choose m 0 ≡ 1
    none zero = refl
    none (suc m) = refl

    first : (m : ℕ) → rank_from e (suc m) [] + choose m 0 ≡ rank_from (e + 1) m [] + choose (suc m) 0
    first m = rw (none m) refl
skipped e m (y ∷ ys) h =
    let low = head_low (e + 1) m y ys h in
    let ne : y ≢ e = omega (arith, low) in
    rw (ne_eqb y e ne) (omega arith)

-- and with a further element
skipped_with : (e m f : ℕ) (ys : List ℕ) → IsSubsetFrom (e + 1) m ys → e + 1 ≤ f → (IsMember f ys → ⊥)
    → rank_from e (suc m) (with_element f ys) ≡ choose m (length ys) + rank_from (e + 1) m (with_element f ys)
skipped_with e m f [] h l out = let ne : f ≢ e = omega (arith, l) in rw (ne_eqb f e ne) refl
skipped_with e m f (y ∷ ys) h l out =
    let ne : f ≢ e = omega (arith, l) in
    let nf : f ≢ y = λ q. out (inl q) in
    let low = head_low (e + 1) m y ys h in
    let ny : y ≢ e = omega (arith, low) in
    elim (cases_order f y) [
      | inl q ↦ absurd (nf q)
      | inr o ↦ elim o [
        | inl lt ↦ rw (ne_eqb f y nf, lt-ltb f y lt) (rw (ne_eqb f e ne) refl)
        | inr gt ↦
            let ge : y ≤ f = omega (arith, gt) in
            let size : length (with_element f ys) ≡ suc (length ys) = length-with f ys (λ k. out (inr k))
            ∙ plus_one (length ys) in
            rw (ne_eqb f y nf, le-ltb f y ge) (rw (ne_eqb y e ny, size) refl)
      ]
    ]
  where
    plus_one : (k : ℕ) → k + 1 ≡ suc k
    plus_one k = omega arith

-- with the element that is looked at
with_here : (e m : ℕ) (ys : List ℕ) → IsSubsetFrom (e + 1) m ys
    → rank_from e (suc m) (with_element e ys) ≡ rank_from (e + 1) m ys
with_here e m [] h = rw (eq-eqb e e refl) refl
with_here e m (y ∷ ys) h =
    let low = head_low (e + 1) m y ys h in
    let ne : e ≢ y = omega (arith, low) in
    let lt : e < y = omega (arith, low) in
    rw (ne_eqb e y ne, lt-ltb e y lt) (rw (eq-eqb e e refl) refl)

-- what is known where the element isn't in the set
pub record IsStep (n : ℕ) (xs : List ℕ) (e left passed later : ℕ) : Type 0 where
  pub room : later ≤ passed
  pub here : passed - later ≡ rank_of n (with_element e xs)
  pub walk : IsWalk n xs (e + 1) left passed later

off_step : (n : ℕ) (xs : List ℕ) (e m left passed later head : ℕ) (ys : List ℕ) → e ≤ n → (IsMember e xs → ⊥)
    → IsWalkOf n xs e (suc m) left passed later head ys → IsStep n xs e left (passed + choose m left) later
off_step n xs e m left passed later head ys le out w =
    let q = skipped e m ys after in
    let at = w.here in
    let s = w.size in
    let end = w.end in
    let q' : rank_from e (suc m) ys + choose m left ≡ rank_from (e + 1) m ys + choose (suc m) left =
    subst (λ k. rank_from e (suc m) ys + choose m k ≡ rank_from (e + 1) m ys + choose (suc m) k) s q in
    let here : passed + choose m left - later ≡ head + rank_from (e + 1) m ys = omega (arith, q', at) in
    record {
      room = omega (arith, q', at);
      here = here ∙ sym (w.more e (omega arith) le none ∙ ap (λ k. head + k) (with_here e m ys after));
      walk = (
        m,
        head + choose m left,
        ys,
        record {
          end = omega (arith, end);
          list = after;
          size = s;
          here = omega (arith, q', at);
          same = λ f l. w.same f (omega (arith, l));
          more = λ f l u no. w.more f (omega (arith, l)) u no
              ∙ ap (λ k. head + k) (skipped_with e m f ys after l no
              ∙ ap (λ k. choose m k + rank_from (e + 1) m (with_element f ys)) s)
              ∙ sum head (choose m left) (rank_from (e + 1) m (with_element f ys));
        },
      );
    }
  where
    none : IsMember e ys → ⊥
    none k = out ((w.same e (omega arith)).1 k)

    after_of : (zs : List ℕ) → (IsMember e zs → ⊥) → IsSubsetFrom e (suc m) zs → IsSubsetFrom (e + 1) m zs
    after_of [] k h = nothing m
      where
        nothing : (m : ℕ) → IsSubsetFrom (e + 1) m []
        nothing zero = tt
        nothing (suc m) = tt
    after_of (z ∷ zs) k (inl (q, h)) = absurd (k (inl (sym q)))
    after_of (z ∷ zs) k (inr (ne, h)) = h

    after : IsSubsetFrom (e + 1) m ys
    after = after_of ys none w.list

    sum : (a b c : ℕ) → a + (b + c) ≡ a + b + c
    sum a b c = omega arith

pub walk_off : (n : ℕ) (xs : List ℕ) (e left passed later without k : ℕ) → e ≤ n → (IsMember e xs → ⊥) → k ≡ n
    → without ≡ choose (k - e) left → IsWalk n xs e left passed later → IsStep n xs e left (passed + without) later
walk_off n xs e left passed later without k le out kn wk (zero, head, ys, w) = let end = w.end in
    absurd (omega (arith, end, le))
walk_off n xs e left passed later without k le out kn wk (suc m, head, ys, w) =
    let end = w.end in
    let q : k - e ≡ m = omega (arith, end, kn) in
    subst (λ j. IsStep n xs e left (passed + j) later) (sym (wk ∙ ap (λ j. choose j left) q))
    (off_step n xs e m left passed later head ys le out w)

-- ---- the places that are found

-- each element below e that isn't in the set has its place
abbrev pub HasPlacesBelow : ℕ → List ℕ → List ℕ → ℕ → Type 0
HasPlacesBelow n xs places e = (f : ℕ) → 1 ≤ f → f < e → (IsMember f xs → ⊥)
    → get_or places (f - 1) 0 ≡ rank_of n (with_element f xs)

pub places_in : (n : ℕ) (xs places : List ℕ) (e : ℕ) → IsMember e xs → HasPlacesBelow n xs places e
    → HasPlacesBelow n xs places (e + 1)
places_in n xs places e i done f low l out = elim (cases_eq f e) [
  | inl q ↦ absurd (out (subst (λ k. IsMember k xs) (sym q) i))
  | inr ne ↦ done f low (omega (arith, l, ne)) out
]

pub places_off : (n : ℕ) (xs places : List ℕ) (e place : ℕ) → 1 ≤ e → e ≤ length places
    → place ≡ rank_of n (with_element e xs) → HasPlacesBelow n xs places e
    → HasPlacesBelow n xs (set places (e - 1) place) (e + 1)
places_off n xs places e place low room is done f fl l out = elim (cases_eq f e) [
  | inl q ↦ rw (q, get_or-set_same places (e - 1) place 0 (omega (arith, low, room))) is
  | inr ne ↦ get_or-set_other places (e - 1) (f - 1) place 0 (omega (arith, ne, fl, low))
      ∙ done f fl (omega (arith, l, ne)) out
]
