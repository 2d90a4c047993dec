-- The number of things with a property: how two numbers compare, and what it is for a property that is made of others.
--
-- Main results: number_less; number_same, number_none, number_one, number_either, number_without, number_pairs.
use Rattle.std.proofs.Common.{ℕ, ◌≡◌, ◌+◌, ◌-◌, ◌*◌, ◌<◌, ◌≤◌, ◌⊎◌, ◌↔◌, List, [], ◌∷◌, ◌++◌, length, map, inl, inr}
use Rattle.std.proofs.Common.{arith, sym, ◌∙◌, refl, ap, subst}
use Rattle.std.proofs.lemmas.List.{length-append, length-map}
use Rattle.std.proofs.Math.Nat.{suc-mul}
use Rattle.om_points.specs.Numbers.{IsAmong, AreDifferent, HasNumber}

-- ---- comparing

-- a list at one of whose places x stands
record Split {A : Type 0} (x : A) (ys : List A) : Type 0 where
  pub front : List A
  pub back : List A
  pub whole : ys ≡ front ++ x ∷ back

split_at : {A : Type 0} (x : A) (ys : List A) → IsAmong x ys → Split x ys
split_at x [] h = absurd h
split_at x (y ∷ ys) (inl e) = record { front = []; back = ys; whole = cc }
split_at x (y ∷ ys) (inr h) = let s = split_at x ys h in let e = s.whole in
    record { front = y ∷ s.front; back = s.back; whole = ap (λ t. y ∷ t) e }

without : {A : Type 0} (y x : A) (a b : List A) → IsAmong y (a ++ x ∷ b) → (y ≡ x → ⊥) → IsAmong y (a ++ b)
without y x [] b (inl e) n = absurd (n e)
without y x [] b (inr h) n = h
without y x (z ∷ a) b (inl e) n = inl e
without y x (z ∷ a) b (inr h) n = inr (without y x a b h n)

fewer : {A : Type 0} (xs ys : List A) → AreDifferent xs → ((x : A) → IsAmong x xs → IsAmong x ys)
    → length xs ≤ length ys
fewer [] ys d h = omega arith
fewer (x ∷ xs) ys d h =
    let s = split_at x ys (h x (inl refl)) in
    let i = fewer xs (s.front ++ s.back) d.1
    (λ y a. without y x s.front s.back (subst (λ t. IsAmong y t) s.whole (h y (inr a)))
    (λ e. d.0 (subst (λ t. IsAmong t xs) e a))) in
    let l = ap length s.whole ∙ length-append s.front (x ∷ s.back) in
    let k = length-append s.front s.back in
    omega arith

-- a number of things, and one thing more
pub number_less : {A : Type 0} (P Q : A → Type 0) (k j : ℕ) (x : A) → HasNumber P k → HasNumber Q j
    → ((y : A) → P y → Q y) → Q x → (P x → ⊥) → k < j
number_less {A} P Q k j x p q sub here out =
    let n = fewer (x ∷ p.0) q.0 (λ a. out ((p.1.exactly x).0 a), p.1.different) (λ y a. (q.1.exactly y).1 (from y a)) in
    let a = p.2 in
    let b = q.2 in
    omega arith
  where
    from : (y : A) → IsAmong y (x ∷ p.0) → Q y
    from y (inl e) = subst Q (sym e) here
    from y (inr h) = sub y ((p.1.exactly y).0 h)

-- ---- counting

-- as many things have one property as another, if the two are equivalent
pub number_same : {A : Type 0} (P Q : A → Type 0) (k : ℕ) → HasNumber P k → ((x : A) → P x ↔ Q x) → HasNumber Q k
number_same P Q k h e = (
  h.0,
  record {
    different = h.1.different;
    exactly = λ x. (λ a. (e x).0 ((h.1.exactly x).0 a), λ q. (h.1.exactly x).1 ((e x).1 q));
  },
  h.2,
)

-- if nothing has a property, then 0 things have it
pub number_none : {A : Type 0} (P : A → Type 0) → ((x : A) → P x → ⊥) → HasNumber P 0
number_none P n = ([], record { different = tt; exactly = λ x. (λ h. absurd h, λ p. n x p) }, refl)

-- exactly 1 thing is equal to x
pub number_one : {A : Type 0} (x : A) → HasNumber (λ y. y ≡ x) 1
number_one x = (
  x ∷ [],
  record { different = (λ h. h, tt); exactly = λ y. (λ h. elim h [ inl e ↦ e | inr n ↦ absurd n ], λ e. inl e) },
  refl,
)

among_append : {A : Type 0} (x : A) (xs ys : List A) → IsAmong x (xs ++ ys) ↔ (IsAmong x xs ⊎ IsAmong x ys)
among_append x xs ys = (there xs, back xs)
  where
    there : (xs : List _) → IsAmong x (xs ++ ys) → IsAmong x xs ⊎ IsAmong x ys
    there [] h = inr h
    there (z ∷ xs) (inl e) = inl (inl e)
    there (z ∷ xs) (inr h) = elim (there xs h) [ inl a ↦ inl (inr a) | inr a ↦ inr a ]

    back : (xs : List _) → IsAmong x xs ⊎ IsAmong x ys → IsAmong x (xs ++ ys)
    back [] (inl h) = absurd h
    back [] (inr h) = h
    back (z ∷ xs) (inl (inl e)) = inl e
    back (z ∷ xs) (inl (inr h)) = inr (back xs (inl h))
    back (z ∷ xs) (inr h) = inr (back xs (inr h))

different_append : {A : Type 0} (xs ys : List A) → AreDifferent xs → AreDifferent ys
    → ((x : A) → IsAmong x xs → IsAmong x ys → ⊥) → AreDifferent (xs ++ ys)
different_append [] ys d e n = e
different_append (x ∷ xs) ys d e n = (
  λ h. elim ((among_append x xs ys).0 h) [ inl a ↦ d.0 a | inr a ↦ n x (inl refl) a ],
  different_append xs ys d.1 e (λ y a b. n y (inr a) b),
)

-- the numbers of things with two properties add up, if nothing has both
pub number_either : {A : Type 0} (P Q : A → Type 0) (k j : ℕ) → HasNumber P k → HasNumber Q j
    → ((x : A) → P x → Q x → ⊥) → HasNumber (λ x. P x ⊎ Q x) (k + j)
number_either P Q k j p q n = (
  p.0 ++ q.0,
  record {
    different = different_append p.0 q.0 p.1.different q.1.different
        (λ x a b. n x ((p.1.exactly x).0 a) ((q.1.exactly x).0 b));
    exactly = λ x. (
      λ h. elim ((among_append x p.0 q.0).0 h)
          [ inl a ↦ inl ((p.1.exactly x).0 a) | inr a ↦ inr ((q.1.exactly x).0 a) ],
      λ h. (among_append x p.0 q.0).1
          (elim h [ inl a ↦ inl ((p.1.exactly x).1 a) | inr a ↦ inr ((q.1.exactly x).1 a) ]),
    );
  },
  (let l = length-append p.0 q.0 in let a = p.2 in let b = q.2 in omega arith),
)

-- those but for one of them
pub number_without : {A : Type 0} (P : A → Type 0) (k : ℕ) (x : A) → HasNumber P k → P x
    → HasNumber (λ y. P y × (y ≡ x → ⊥)) (k - 1)
number_without {A} P k x p here = (
  s.front ++ s.back,
  record {
    different = shorter s.front s.back whole;
    exactly = λ y. (
      λ a. (
        (p.1.exactly y).0 (subst (λ t. IsAmong y t) (sym s.whole) (wider y s.front s.back a)),
        λ e. alone s.front s.back whole (subst (λ t. IsAmong t (s.front ++ s.back)) e a),
      ),
      λ h. without y x s.front s.back (subst (λ t. IsAmong y t) s.whole ((p.1.exactly y).1 h.0)) h.1,
    );
  },
  (let l = ap length s.whole ∙ length-append s.front (x ∷ s.back) in let j = length-append s.front s.back in let a =
      p.2 in omega arith),
)
  where
    s : Split x p.0
    s = split_at x p.0 ((p.1.exactly x).1 here)

    whole : AreDifferent (s.front ++ x ∷ s.back)
    whole = subst AreDifferent s.whole p.1.different

    wider : (y : A) (a b : List A) → IsAmong y (a ++ b) → IsAmong y (a ++ x ∷ b)
    wider y [] b h = inr h
    wider y (z ∷ a) b (inl e) = inl e
    wider y (z ∷ a) b (inr h) = inr (wider y a b h)

    shorter : (a b : List A) → AreDifferent (a ++ x ∷ b) → AreDifferent (a ++ b)
    shorter [] b d = d.1
    shorter (z ∷ a) b d = (λ h. d.0 (wider z a b h), shorter a b d.1)

    inside : (a b : List A) → IsAmong x (a ++ x ∷ b)
    inside [] b = inl refl
    inside (z ∷ a) b = inr (inside a b)

    alone : (a b : List A) → AreDifferent (a ++ x ∷ b) → IsAmong x (a ++ b) → ⊥
    alone [] b d h = d.0 h
    alone (z ∷ a) b d (inl e) = d.0 (subst (λ t. IsAmong t (a ++ x ∷ b)) e (inside a b))
    alone (z ∷ a) b d (inr h) = alone a b d.1 h

-- c is made of one thing with the property P
record IsImage {A C : Type 0} (f : A → C) (P : A → Type 0) (c : C) : Type 0 where
  pub thing : A
  pub has : P thing
  pub made : c ≡ f thing

number_image : {A C : Type 0} (f : A → C) (P : A → Type 0) (k : ℕ) → ((a b : A) → f a ≡ f b → a ≡ b) → HasNumber P k
    → HasNumber (IsImage f P) k
number_image {A} {C} f P k same p = (
  map f p.0,
  record {
    different = apart p.0 p.1.different;
    exactly = λ c. (
      λ h. let g = there c p.0 h in record { thing = g.thing; has = (p.1.exactly g.thing).0 g.has; made = g.made },
      λ g. subst (λ t. IsAmong t (map f p.0)) (sym g.made) (back g.thing p.0 ((p.1.exactly g.thing).1 g.has)),
    );
  },
  length-map p.0 f ∙ p.2,
)
  where
    there : (c : C) (xs : List A) → IsAmong c (map f xs) → IsImage f (λ a. IsAmong a xs) c
    there c [] h = absurd h
    there c (x ∷ xs) (inl e) = record { thing = x; has = inl refl; made = e }
    there c (x ∷ xs) (inr h) = let g = there c xs h in record { thing = g.thing; has = inr g.has; made = g.made }

    back : (a : A) (xs : List A) → IsAmong a xs → IsAmong (f a) (map f xs)
    back a [] h = absurd h
    back a (x ∷ xs) (inl e) = inl (ap f e)
    back a (x ∷ xs) (inr h) = inr (back a xs h)

    apart : (xs : List A) → AreDifferent xs → AreDifferent (map f xs)
    apart [] d = tt
    apart (x ∷ xs) d = (
      λ h. let g = there (f x) xs h in d.0 (subst (λ t. IsAmong t xs) (sym (same x g.thing g.made)) g.has),
      apart xs d.1,
    )

-- c is made of one thing with the property P and one with the property Q
pub record IsPair {A B C : Type 0} (f : A → B → C) (P : A → Type 0) (Q : B → Type 0) (c : C) : Type 0 where
  pub first : A
  pub second : B
  pub one : P first
  pub other : Q second
  pub made : c ≡ f first second

pub number_pairs : {A B C : Type 0} (f : A → B → C) (P : A → Type 0) (Q : B → Type 0) (k j : ℕ)
    → ((a b : A) (x y : B) → f a x ≡ f b y → (a ≡ b) × (x ≡ y)) → HasNumber P k → HasNumber Q j
    → HasNumber (IsPair f P Q) (k * j)
number_pairs {A} {B} {C} f P Q k j same p q =
    subst (λ n. HasNumber (IsPair f P Q) (n * j)) p.2
    (number_same (IsPair f (λ a. IsAmong a p.0) Q) (IsPair f P Q) (length p.0 * j) (from p.0 p.1.different) (λ c. (
      λ h. record {
        first = h.first;
        second = h.second;
        one = (p.1.exactly h.first).0 h.one;
        other = h.other;
        made =
            h.made;
      },
      λ h. record {
        first = h.first;
        second = h.second;
        one = (p.1.exactly h.first).1 h.one;
        other = h.other;
        made =
            h.made;
      },
    )))
  where
    from : (xs : List A) → AreDifferent xs → HasNumber (IsPair f (λ a. IsAmong a xs) Q) (length xs * j)
    from [] d = subst (λ n. HasNumber (IsPair f (λ a. IsAmong a []) Q) n) (let z : 0 ≡ 0 * j = omega arith in z)
        (number_none (IsPair f (λ a. IsAmong a []) Q) (λ c h. h.one))
    from (x ∷ xs) d = subst (λ n. HasNumber (IsPair f (λ a. IsAmong a (x ∷ xs)) Q) n)
        (let m = suc-mul (length xs) j in let z : j + length xs * j ≡ length (x ∷ xs) * j = omega arith in z)
        (number_same (λ c. IsImage (f x) Q c ⊎ IsPair f (λ a. IsAmong a xs) Q c) (IsPair f (λ a. IsAmong a (x ∷ xs)) Q)
        (j + length xs * j)
        (number_either (IsImage (f x) Q) (IsPair f (λ a. IsAmong a xs) Q) j (length xs * j)
        (number_image (f x) Q j (λ a b e. (same x x a b e).1) q) (from xs d.1)
        (λ c g h. d.0
        (subst (λ t. IsAmong t xs) (sym (same x h.first g.thing h.second (sym g.made ∙ h.made)).0) h.one)))
        (λ c. (
          λ h. elim h [
            | inl g ↦ record { first = x; second = g.thing; one = inl refl; other = g.has; made = g.made }
            | inr g ↦ record { first = g.first; second = g.second; one = inr g.one; other = g.other; made = g.made }
          ],
          λ h. apart c h h.one,
        )))
      where
        apart : (c : C) (h : IsPair f (λ a. IsAmong a (x ∷ xs)) Q c) → IsAmong h.first (x ∷ xs) → IsImage (f x) Q c
            ⊎ IsPair f (λ a. IsAmong a xs) Q c
        apart c h (inl e) = inl (record { thing = h.second; has = h.other; made = h.made ∙ ap (λ t. f t h.second) e })
        apart c h (inr i) = inr (record { first = h.first; second = h.second; one = i; other = h.other; made = h.made })
