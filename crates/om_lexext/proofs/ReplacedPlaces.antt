-- Lists with an element in the place of another, how often an element stands in a list, and two entries that change
-- places.
--
-- Main definitions: swap_in, instead, count
-- Main results: swap_at, instead_off, instead_append, count_none, none_from_count, count_last
-- Reference: Björner, Las Vergnas, Sturmfels, White and Ziegler, Oriented Matroids, chapter 7.
use Rattle.std.specs.Prelude.{◌≡◌, ◌≢◌, ◌⊎◌, ℕ, ◌+◌, ◌<◌, List, [], ◌∷◌, ◌++◌, length, map, cond, nat_eq, get_or, refl}
use Rattle.std.specs.List.{remove}
use Rattle.std.proofs.Common.{zero, suc, sym, ap, ◌∙◌, subst, ⊎_elim, inl, inr, arith}
use Rattle.std.proofs.lemmas.Bool.{cases_eq, eq-eqb, ne_eqb}
use Rattle.om_signs.specs.declared.sign.Sign.{Sign}
use Rattle.om_signs.specs.Sign.{opposite}
use Rattle.om_signs.proofs.SignLaws.{opposite-opposite}
use Rattle.om_laws.specs.Members.{IsMember, IsDistinct}
use Rattle.om_laws.specs.Tuples.{IsAlternating}
use Rattle.om_laws.proofs.MemberLaws.{member_at}

-- ---- the terms of lists with a place replaced

abbrev pub swap_in : ℕ → ℕ → ℕ → ℕ
swap_in p e x = cond (nat_eq x p) e x

-- the list with e in place of p
abbrev pub instead : ℕ → ℕ → List ℕ → List ℕ
instead p e t = map (swap_in p e) t

pub swap_at : (p e x : ℕ) → x ≡ p → swap_in p e x ≡ e
swap_at p e x q = rw (eq-eqb x p q) refl

pub swap_off : (p e x : ℕ) → x ≢ p → swap_in p e x ≡ x
swap_off p e x n = rw (ne_eqb x p n) refl

pub instead_off : (p e : ℕ) (t : List ℕ) → (IsMember p t → ⊥) → instead p e t ≡ t
instead_off p e [] n = refl
instead_off p e (x ∷ t) n = ap (λ k. k ∷ instead p e t) (swap_off p e x (λ q. n (inl (sym q))))
    ∙ ap (λ l. x ∷ l) (instead_off p e t (λ m. n (inr m)))

pub instead_append : (p e : ℕ) (s t : List ℕ) → instead p e (s ++ t) ≡ instead p e s ++ instead p e t
instead_append p e [] t = refl
instead_append p e (x ∷ s) t = ap (λ l. swap_in p e x ∷ l) (instead_append p e s t)

pub instead_remove : (p e : ℕ) (s : List ℕ) (i : ℕ) → i < length s → remove (instead p e s) i ≡ instead p e (remove s i)
instead_remove p e [] i l = absurd (omega (arith, l))
instead_remove p e (x ∷ s) zero l = refl
instead_remove p e (x ∷ s) (suc i) l = ap (λ k. swap_in p e x ∷ k) (instead_remove p e s i (omega (arith, l)))

pub instead_at : (p e : ℕ) (s : List ℕ) (i : ℕ) → i < length s → get_or (instead p e s) i 0 ≡ swap_in p e (get_or s i 0)
instead_at p e [] i l = absurd (omega (arith, l))
instead_at p e (x ∷ s) zero l = refl
instead_at p e (x ∷ s) (suc i) l = instead_at p e s i (omega (arith, l))

-- members of what is left
pub removed_member : (s : List ℕ) (i g : ℕ) → IsMember g (remove s i) → IsMember g s
removed_member [] zero g m = absurd m
removed_member [] (suc i) g m = absurd m
removed_member (x ∷ s) zero g m = inr m
removed_member (x ∷ s) (suc i) g (inl q) = inl q
removed_member (x ∷ s) (suc i) g (inr m) = inr (removed_member s i g m)

-- a member is removed, or is left
pub at_or_left : (s : List ℕ) (i g : ℕ) → i < length s → IsMember g s → (get_or s i 0 ≡ g) ⊎ IsMember g (remove s i)
at_or_left [] i g l m = absurd m
at_or_left (x ∷ s) zero g l (inl q) = inl (sym q)
at_or_left (x ∷ s) zero g l (inr m) = inr m
at_or_left (x ∷ s) (suc i) g l (inl q) = inr (inl q)
at_or_left (x ∷ s) (suc i) g l (inr m) = ⊎_elim (λ a. inl a) (λ a. inr (inr a)) (at_or_left s i g (omega (arith, l)) m)

-- without repeats, what is removed isn't left
pub not_left : (s : List ℕ) (i : ℕ) → i < length s → IsDistinct s → IsMember (get_or s i 0) (remove s i) → ⊥
not_left [] i l d m = absurd (omega (arith, l))
not_left (x ∷ s) zero l d m = d.0 m
not_left (x ∷ s) (suc i) l d (inl q) = d.0 (subst (λ g. IsMember g s) q (member_at s i (omega (arith, l))))
not_left (x ∷ s) (suc i) l d (inr m) = not_left s i (omega (arith, l)) d.1 m

pub distinct_removed : (s : List ℕ) (i : ℕ) → IsDistinct s → IsDistinct (remove s i)
distinct_removed [] zero d = tt
distinct_removed [] (suc i) d = tt
distinct_removed (x ∷ s) zero d = d.1
distinct_removed (x ∷ s) (suc i) d = (λ m. d.0 (removed_member s i x m), distinct_removed s i d.1)

-- the place of a member
pub place_of : (s : List ℕ) (g : ℕ) → IsMember g s → (i : ℕ) × (i < length s) × (get_or s i 0 ≡ g)
place_of [] g m = absurd m
place_of (x ∷ s) g (inl q) = (0, omega arith, sym q)
place_of (x ∷ s) g (inr m) = let k = place_of s g m in let l = k.1 in (suc k.0, omega (arith, l), k.2)

-- two places without repeats are the same
pub one_place : (s : List ℕ) (i k : ℕ) → IsDistinct s → i < length s → k < length s → get_or s i 0 ≡ get_or s k 0 → i
    ≡ k
one_place [] i k d l u q = absurd (omega (arith, l))
one_place (x ∷ s) zero zero d l u q = refl
one_place (x ∷ s) zero (suc k) d l u q =
    absurd (d.0 (subst (λ g. IsMember g s) (sym q) (member_at s k (omega (arith, u)))))
one_place (x ∷ s) (suc i) zero d l u q = absurd (d.0 (subst (λ g. IsMember g s) q (member_at s i (omega (arith, l)))))
one_place (x ∷ s) (suc i) (suc k) d l u q = ap suc (one_place s i k d.1 (omega (arith, l)) (omega (arith, u)) q)

-- how often p stands in a list
abbrev pub count : ℕ → List ℕ → ℕ
count p [] = 0
count p (x ∷ t) = cond (nat_eq x p) (suc (count p t)) (count p t)

count_at : (p x : ℕ) (t : List ℕ) → x ≡ p → count p (x ∷ t) ≡ suc (count p t)
count_at p x t q = rw (eq-eqb x p q) refl

count_off : (p x : ℕ) (t : List ℕ) → x ≢ p → count p (x ∷ t) ≡ count p t
count_off p x t n = rw (ne_eqb x p n) refl

pub count_none : (p : ℕ) (t : List ℕ) → (IsMember p t → ⊥) → count p t ≡ 0
count_none p [] n = refl
count_none p (x ∷ t) n = count_off p x t (λ q. n (inl (sym q))) ∙ count_none p t (λ m. n (inr m))

count_append : (p : ℕ) (s t : List ℕ) → count p (s ++ t) ≡ count p s + count p t
count_append p [] t = let z : count p t ≡ 0 + count p t = omega arith in z
count_append p (x ∷ s) t = elim (cases_eq x p) [
  | inl q ↦
      (let a = count_at p x (s ++ t) q in let b = count_at p x s q in let h = count_append p s t in
      omega (arith, a, b, h))
  | inr n ↦
      (let a = count_off p x (s ++ t) n in let b = count_off p x s n in let h = count_append p s t in
      omega (arith, a, b, h))
]

pub count_once : (p : ℕ) (t : List ℕ) → IsDistinct t → IsMember p t → count p t ≡ 1
count_once p [] d m = absurd m
count_once p (x ∷ t) d m = elim (cases_eq x p) [
  | inl q ↦ count_at p x t q ∙ ap suc (count_none p t (subst (λ g. IsMember g t → ⊥) q d.0))
  | inr n ↦ count_off p x t n ∙ count_once p t d.1 (⊎_elim (λ e. absurd (n (sym e))) (λ k. k) m)
]

pub none_from_count : (p : ℕ) (t : List ℕ) → count p t ≡ 0 → IsMember p t → ⊥
none_from_count p [] c m = m
none_from_count p (x ∷ t) c m = elim (cases_eq x p) [
  | inl q ↦ (let k = count_at p x t q in omega (arith, k, c))
  | inr n ↦ none_from_count p t (sym (count_off p x t n) ∙ c) (⊎_elim (λ e. absurd (n (sym e))) (λ k. k) m)
]

-- p at the end of a list
pub count_last : (p : ℕ) (t : List ℕ) (x : ℕ) → x ≡ p → count p (t ++ x ∷ []) ≡ suc (count p t)
count_last p t x q = let a = count_append p t (x ∷ []) in let b = count_at p x [] q in omega (arith, a, b)

pub count_not_last : (p : ℕ) (t : List ℕ) (x : ℕ) → x ≢ p → count p (t ++ x ∷ []) ≡ count p t
count_not_last p t x n = let a = count_append p t (x ∷ []) in let b = count_off p x [] n in omega (arith, a, b)

pub count_swap : (p x y : ℕ) (cs bs : List ℕ) → count p (cs ++ y ∷ x ∷ bs) ≡ count p (cs ++ x ∷ y ∷ bs)
count_swap p x y cs bs =
    let a = count_append p cs (y ∷ x ∷ bs) in
    let b = count_append p cs (x ∷ y ∷ bs) in
    let c = count_append p (y ∷ []) (x ∷ bs) in
    let d = count_append p (x ∷ []) (y ∷ bs) in
    let e = count_append p (x ∷ []) bs in
    let f = count_append p (y ∷ []) bs in
    omega (arith, a, b, c, d, e, f)

-- ---- two entries that change places

ends_swapped : (chi : List ℕ → Sign) → IsAlternating chi → (x : ℕ) (m : List ℕ) (y : ℕ) (w : List ℕ)
    → chi (x ∷ (m ++ y ∷ w)) ≡ opposite (chi (y ∷ (m ++ x ∷ w)))
ends_swapped chi alt x [] y w = alt y x [] w
ends_swapped chi alt x (c ∷ m) y w =
    let a = alt c x [] (m ++ y ∷ w) in
    let b = ends_swapped (λ t. chi (c ∷ t)) (λ x y cs bs. alt x y (c ∷ cs) bs) x m y w in
    let d = alt c y [] (m ++ x ∷ w) in
    a ∙ ap opposite b ∙ opposite-opposite (chi (c ∷ y ∷ (m ++ x ∷ w)))
    ∙ sym (opposite-opposite (chi (c ∷ y ∷ (m ++ x ∷ w)))) ∙ ap opposite (sym d)

-- e and f change places at a place of the list and at its end
pub last_swapped : (chi : List ℕ → Sign) → IsAlternating chi → (p e f : ℕ) (t : List ℕ) → count p t ≡ 1
    → chi (instead p e t ++ f ∷ []) ≡ opposite (chi (instead p f t ++ e ∷ []))
last_swapped chi alt p e f [] c = absurd (omega (arith, c))
last_swapped chi alt p e f (x ∷ t) c = elim (cases_eq x p) [
  | inl q ↦
      let z : count p t ≡ 0 = (let k = count_at p x t q in omega (arith, k, c)) in
      ap (λ g. chi (g ∷ (instead p e t ++ f ∷ []))) (swap_at p e x q)
      ∙ ap (λ l. chi (e ∷ (l ++ f ∷ []))) (instead_off p e t (none_from_count p t z))
      ∙ ends_swapped chi alt e t f []
      ∙ ap opposite (ap (λ l. chi (f ∷ (l ++ e ∷ []))) (sym (instead_off p f t (none_from_count p t z)))
      ∙ ap (λ g. chi (g ∷ (instead p f t ++ e ∷ []))) (sym (swap_at p f x q)))
  | inr n ↦
      ap (λ g. chi (g ∷ (instead p e t ++ f ∷ []))) (swap_off p e x n)
      ∙ last_swapped (λ t. chi (x ∷ t)) (λ x' y cs bs. alt x' y (x ∷ cs) bs) p e f t (sym (count_off p x t n) ∙ c)
      ∙ ap opposite (ap (λ g. chi (g ∷ (instead p f t ++ e ∷ []))) (sym (swap_off p f x n)))
]
