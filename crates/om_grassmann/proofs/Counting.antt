-- The lawful statements in a list, by their number.
--
-- Main results: following_none and following_next, for one step of the walk; number_first, number_next and number_last,
-- for the count; number_exceeds, that no statement has the number k where there are at most k; same_number, that a
-- number belongs to one statement; before_first and none_lawful, for the number 0; increasing_push, that a list with a
-- later statement at its end increases.
use Rattle.std.specs.Prelude.{ℕ, ◌≡◌, ◌+◌, ◌*◌, ◌<◌, ◌≤◌, ◌⊎◌, ◌↔◌, List, [], ◌∷◌, ◌++◌, length, Option, Some, None}
use Rattle.std.specs.Prelude.{IsNone, IfNone, IfSome}
use Rattle.std.specs.List.{Contains}
use Rattle.std.proofs.Common.{refl, sym, ◌∙◌, ap, subst, arith, inl, inr, length-append}
use Rattle.std.proofs.lemmas.Bool.{false≢true}
use Rattle.std.proofs.lemmas.Option.{IfSome_then}
use Rattle.std.proofs.lemmas.List.Elements.{Contains-push, Contains-push_cases, Contains-append_left}
use Rattle.om_signs.proofs.Contained.{none_contained, first_or_later, contains_first, contains_later}
use Rattle.om_chirotope.specs.Map.{SignMap}
use Rattle.om_grassmann.specs.declared.statement.Statement.{Statement}
use Rattle.om_grassmann.specs.Statements.{IsLawful}
use Rattle.om_grassmann.specs.Order.{IsBefore, IsIncreasing, IsNext, IsLast, IsNumber, HasAtMost}
use Rattle.om_grassmann.specs.Walk.{frame_place, place, HasNoneFrom, IsFirstFrom}
use Rattle.om_grassmann.proofs.OrderLaws.{before_self, before_then, before_total}
use Rattle.om_grassmann.proofs.Places.{lawful_places, next_from, last_from}

-- ---- one step of the walk

later_not_last : (m : SignMap) (low : ℕ) (s t : Statement) → m.elements < 256 → low ≡ place s + 1 → IsLawful m s
    → IsFirstFrom m low t → IsLast m s → ⊥
later_not_last m low s t l e hs h last = elim (last t h.lawful) [
  | inl q ↦ let p : place t ≡ place s = ap place q in let f = h.from in omega arith
  | inr b ↦ let p = lawful_places m t s l h.lawful hs b in let f = h.from in omega arith
]

pub following_none : (m : SignMap) (low : ℕ) (s : Statement) (r : Option Statement) → m.elements < 256
    → low ≡ place s + 1 → IsLawful m s → IfNone r (HasNoneFrom m low) → IfSome r (λ t. IsFirstFrom m low t) → IsNone r
    ↔ IsLast m s
following_none m low s None l e hs none first = (λ q. last_from m low s l e hs none, λ last. refl)
following_none m low s (Some t) l e hs none first =
    (λ q. absurd (false≢true (sym q)), λ last. absurd (later_not_last m low s t l e hs first last))

pub following_next : (m : SignMap) (low : ℕ) (s : Statement) (r : Option Statement) → m.elements < 256
    → low ≡ place s + 1 → IsLawful m s → IfSome r (λ t. IsFirstFrom m low t) → IfSome r (λ t. IsNext m s t)
following_next m low s r l e hs h = IfSome_then r h (λ t f. next_from m low s t l e hs f)

-- ---- lists of statements

-- an increasing list of statements stays so with one at its end that comes after all of them
pub increasing_push : (xs : List Statement) (t : Statement) → IsIncreasing xs
    → ((u : Statement) → Contains xs u → IsBefore u t) → IsIncreasing (xs ++ t ∷ [])
increasing_push [] t h before = tt
increasing_push (x ∷ []) t h before = (before x (contains_first x []), tt)
increasing_push (x ∷ y ∷ ys) t h before =
    (h.0, increasing_push (y ∷ ys) t h.1 (λ u c. before u (contains_later x (y ∷ ys) u c)))

-- an increasing list of statements is increasing without its first one too
pub increasing_tail : (x : Statement) (xs : List Statement) → IsIncreasing (x ∷ xs) → IsIncreasing xs
increasing_tail x [] h = tt
increasing_tail x (y ∷ ys) h = h.1

-- the first of an increasing list of statements comes before each of the others
pub head_before : (x : Statement) (xs : List Statement) (u : Statement) → IsIncreasing (x ∷ xs) → Contains xs u
    → IsBefore x u
head_before x [] u h c = absurd (none_contained u c)
head_before x (y ∷ ys) u h c = elim (first_or_later y ys u c) [
  | inl q ↦ subst (IsBefore x) q h.0
  | inr k ↦ before_then x y u h.0 (head_before y ys u h.1 k)
]

-- an increasing list is no longer than one that has all its members
no_longer : (ys xs : List Statement) → IsIncreasing xs → IsIncreasing ys
    → ((u : Statement) → Contains xs u → Contains ys u) → length xs ≤ length ys
no_longer ys [] hx hy h = omega arith
no_longer [] (x ∷ xs) hx hy h = absurd (none_contained x (h x (contains_first x xs)))
no_longer (y ∷ ys) (x ∷ xs) hx hy h = elim (first_or_later y ys x (h x (contains_first x xs))) [
  | inl q ↦ let l = no_longer ys xs (increasing_tail x xs hx) (increasing_tail y ys hy) (rest q) in omega arith
  | inr k ↦ let l = no_longer ys (x ∷ xs) hx (increasing_tail y ys hy) (later k) in omega arith
]
  where
    rest : y ≡ x → (u : Statement) → Contains xs u → Contains ys u
    rest q u c = elim (first_or_later y ys u (h u (contains_later x xs u c))) [
      | inl p ↦ absurd (before_self u (subst (λ z. IsBefore z u) (sym q ∙ p) (head_before x xs u hx c)))
      | inr k ↦ k
    ]

    above : Contains ys x → (u : Statement) → Contains (x ∷ xs) u → IsBefore y u
    above k u c = elim (first_or_later x xs u c) [
      | inl p ↦ subst (IsBefore y) p (head_before y ys x hy k)
      | inr d ↦ before_then y x u (head_before y ys x hy k) (head_before x xs u hx d)
    ]

    later : Contains ys x → (u : Statement) → Contains (x ∷ xs) u → Contains ys u
    later k u c = elim (first_or_later y ys u (h u c)) [
      | inl p ↦ absurd (before_self u (subst (λ z. IsBefore z u) p (above k u c)))
      | inr d ↦ d
    ]

-- ---- numbers

pub none_at_all : (m : SignMap) (k : ℕ) → ((u : Statement) → IsLawful m u → ⊥) → HasAtMost m k
none_at_all m k h = record {
  all = [];
  are_all = record { increasing = tt; members = λ s. (λ c. absurd (none_contained s c), λ hs. absurd (h s hs)) };
  count = omega arith;
}

first_place : (m : SignMap) (u : Statement) → IsLawful m u
    → frame_place (record { a = 1; b = 1; c = 2; d = 3; e = 4 }) * 9 ≤ place u
unfolding frame_place
first_place m u h = let p = h.placed in omega arith

pub number_none : (m : SignMap) (low : ℕ) (r : Option Statement)
    → low ≡ frame_place (record { a = 1; b = 1; c = 2; d = 3; e = 4 }) * 9 → IfNone r (HasNoneFrom m low)
    → IfNone r (HasAtMost m 0)
number_none m low None e h = none_at_all m 0 (λ u hu. let p = h u hu in let q = first_place m u hu in omega arith)
number_none m low (Some t) e h = tt

pub number_first : (m : SignMap) (low : ℕ) (r : Option Statement) → m.elements < 256
    → low ≡ frame_place (record { a = 1; b = 1; c = 2; d = 3; e = 4 }) * 9 → IfSome r (λ t. IsFirstFrom m low t)
    → IfSome r (λ t. IsNumber m 0 t)
number_first m low r l e h = IfSome_then r h (λ t f. record {
  lawful = f.lawful;
  before = [];
  are_before =
      record {
        increasing = tt;
        members =
            λ s. (λ c. absurd (none_contained s c), λ (hs, b). absurd (none_before t f s hs b));
      };
  count = refl;
})
  where
    none_before : (t : Statement) → IsFirstFrom m low t → (s : Statement) → IsLawful m s → IsBefore s t → ⊥
    none_before t f s hs b =
        let p = lawful_places m s t l hs f.lawful b in
        let q = first_place m s hs in
        let g = f.first s hs (omega arith) in
        omega arith

pub number_next : (m : SignMap) (k : ℕ) (s t : Statement) → IsNumber m k s → IsNext m s t → IsNumber m (k + 1) t
number_next m k s t h n = record {
  lawful = n.lawful;
  before = h.before ++ s ∷ [];
  are_before = record {
    increasing = increasing_push h.before s h.are_before.increasing (λ u c. ((h.are_before.members u).0 c).1);
    members = λ u. (into u, λ (hu, b). back u hu b);
  };
  count = length-append h.before (s ∷ []) ∙ ap (λ j. j + 1) h.count;
}
  where
    into : (u : Statement) → Contains (h.before ++ s ∷ []) u → IsLawful m u × IsBefore u t
    into u c = elim (Contains-push_cases h.before s u c) [
      | inl d ↦ let f = (h.are_before.members u).0 d in (f.0, before_then u s t f.1 n.later)
      | inr q ↦ (subst (IsLawful m) q h.lawful, subst (λ z. IsBefore z t) q n.later)
    ]

    back : (u : Statement) → IsLawful m u → IsBefore u t → Contains (h.before ++ s ∷ []) u
    back u hu b = elim (n.next u hu b) [
      | inl q ↦ subst (Contains (h.before ++ s ∷ [])) (sym q) (Contains-push h.before s)
      | inr d ↦ Contains-append_left h.before (s ∷ []) u ((h.are_before.members u).1 (hu, d))
    ]

pub number_last : (m : SignMap) (j k : ℕ) (s : Statement) → IsNumber m j s → IsLast m s → j < k → HasAtMost m k
number_last m j k s h last less = record {
  all = h.before ++ s ∷ [];
  are_all = record {
    increasing = increasing_push h.before s h.are_before.increasing (λ u c. ((h.are_before.members u).0 c).1);
    members = λ u. (into u, λ hu. back u hu);
  };
  count = let e = length-append h.before (s ∷ []) in let c = h.count in omega arith;
}
  where
    into : (u : Statement) → Contains (h.before ++ s ∷ []) u → IsLawful m u
    into u c = elim (Contains-push_cases h.before s u c) [
      | inl d ↦ ((h.are_before.members u).0 d).0
      | inr q ↦ subst (IsLawful m) q h.lawful
    ]

    back : (u : Statement) → IsLawful m u → Contains (h.before ++ s ∷ []) u
    back u hu = elim (last u hu) [
      | inl q ↦ subst (Contains (h.before ++ s ∷ [])) (sym q) (Contains-push h.before s)
      | inr d ↦ Contains-append_left h.before (s ∷ []) u ((h.are_before.members u).1 (hu, d))
    ]

pub number_exceeds : (m : SignMap) (k : ℕ) (t : Statement) → IsNumber m k t → HasAtMost m k → ⊥
number_exceeds m k t h a =
    let up = increasing_push h.before t h.are_before.increasing (λ u c. ((h.are_before.members u).0 c).1) in
    let l = no_longer a.all (h.before ++ t ∷ []) up a.are_all.increasing within in
    let e = length-append h.before (t ∷ []) in
    let c = h.count in
    let d = a.count in
    omega arith
  where
    within : (u : Statement) → Contains (h.before ++ t ∷ []) u → Contains a.all u
    within u c = elim (Contains-push_cases h.before t u c) [
      | inl d ↦ (a.are_all.members u).1 ((h.are_before.members u).0 d).0
      | inr q ↦ subst (Contains a.all) q ((a.are_all.members t).1 h.lawful)
    ]

not_numbered_before : (m : SignMap) (k : ℕ) (s t : Statement) → IsNumber m k s → IsNumber m k t → IsBefore s t → ⊥
not_numbered_before m k s t h n b =
    let up = increasing_push h.before s h.are_before.increasing (λ u c. ((h.are_before.members u).0 c).1) in
    let l = no_longer n.before (h.before ++ s ∷ []) up n.are_before.increasing within in
    let e = length-append h.before (s ∷ []) in
    let c = h.count in
    let d = n.count in
    omega arith
  where
    within : (u : Statement) → Contains (h.before ++ s ∷ []) u → Contains n.before u
    within u c = elim (Contains-push_cases h.before s u c) [
      | inl d ↦ let f = (h.are_before.members u).0 d in (n.are_before.members u).1 (f.0, before_then u s t f.1 b)
      | inr q ↦ subst (Contains n.before) q ((n.are_before.members s).1 (h.lawful, b))
    ]

pub same_number : (m : SignMap) (k : ℕ) (s t : Statement) → IsNumber m k s → IsNumber m k t → s ≡ t
same_number m k s t h n = elim (before_total m s t h.lawful n.lawful) [
  | inl b ↦ absurd (not_numbered_before m k s t h n b)
  | inr (inl q) ↦ q
  | inr (inr b) ↦ absurd (not_numbered_before m k t s n h b)
]

empty_list : (xs : List Statement) (u : Statement) → length xs ≤ 0 → Contains xs u → ⊥
empty_list xs u l c = let h = c.1 in omega arith

pub before_first : (m : SignMap) (s u : Statement) → IsNumber m 0 s → IsLawful m u → (u ≡ s) ⊎ IsBefore s u
before_first m s u h hu = elim (before_total m s u h.lawful hu) [
  | inl b ↦ inr b
  | inr (inl q) ↦ inl (sym q)
  | inr (inr b) ↦ let c = h.count in absurd (empty_list h.before u (omega arith) ((h.are_before.members u).1 (hu, b)))
]

pub none_lawful : (m : SignMap) (u : Statement) → HasAtMost m 0 → IsLawful m u → ⊥
none_lawful m u a hu = empty_list a.all u a.count ((a.are_all.members u).1 hu)
