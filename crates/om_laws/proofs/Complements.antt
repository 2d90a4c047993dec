-- Complements of lists of elements.
--
-- Main definitions: IsComplement, b lists the elements off a, each once.
-- Main results: the complement is one (complement_is_complement), and its complement is the list (complement_back); an
-- element goes over to the complement (complement_more), or comes over from it (complement_less).
-- Reference: Björner, Las Vergnas, Sturmfels, White and Ziegler, Oriented Matroids, chapter 3.
use Rattle.std.specs.Prelude.{ℕ, ◌≡◌, refl, ◌⊎◌, List, [], ◌∷◌, ◌++◌, cond, nat_eq, true, false}
use Rattle.std.proofs.Common.{inl, inr, sym, ◌∙◌, ap, subst, ⊎_elim}
use Rattle.std.proofs.lemmas.Bool.{cases_eq, eq-eqb, ne_eqb}
use Rattle.om_laws.specs.Dual.{are_members, complement, is_member}
use Rattle.om_laws.specs.Members.{IsDistinct, IsMember, AreAmong}
use Rattle.om_laws.proofs.MemberLaws.{distinct_drop, distinct_last, member_append, member_drop, member_insert}
use Rattle.om_laws.proofs.MemberLaws.{member_last, member_left, member_middle, member_or_not, member_right}

-- b lists the elements off a, each once
pub record IsComplement (E a b : List ℕ) : Type 0 where
  pub distinct : IsDistinct b
  pub among : AreAmong E b
  pub apart : (g : ℕ) → IsMember g b → IsMember g a → ⊥
  pub all : (g : ℕ) → IsMember g E → (IsMember g a → ⊥) → IsMember g b

-- a number is a member of a list or not, as the test says
pub is_member_cases : (e : ℕ) (xs : List ℕ) → (IsMember e xs × (is_member e xs ≡ true))
    ⊎ ((IsMember e xs → ⊥) × (is_member e xs ≡ false))
is_member_cases e [] = inr ((λ m. m), refl)
is_member_cases e (x ∷ xs) = elim (cases_eq e x) [
  | inl q ↦ inl (inl q, rw (eq-eqb e x q) refl)
  | inr ne ↦ elim (is_member_cases e xs) [
    | inl k ↦ inl (inr k.0, rw (ne_eqb e x ne) k.1)
    | inr k ↦ inr ((λ m. ⊎_elim (λ q. ne q) (λ j. k.0 j) m), rw (ne_eqb e x ne) k.1)
  ]
]

-- all entries of a list are among the elements or not, as the test says
pub are_members_cases : (E a : List ℕ) → (AreAmong E a × (are_members E a ≡ true))
    ⊎ ((AreAmong E a → ⊥) × (are_members E a ≡ false))
are_members_cases E [] = inl ((λ g m. absurd m), refl)
are_members_cases E (x ∷ xs) = elim (is_member_cases x E) [
  | inl k ↦ elim (are_members_cases E xs) [
    | inl r ↦ inl ((λ g m. ⊎_elim (λ q. subst (λ z. IsMember z E) (sym q) k.0) (λ j. r.0 g j) m), rw k.1 r.1)
    | inr r ↦ inr ((λ h. r.0 (λ g m. h g (inr m))), rw k.1 r.1)
  ]
  | inr k ↦ inr ((λ h. k.0 (h x (inl refl))), rw k.1 refl)
]

kept : (E a : List ℕ) (e g : ℕ) → (IsMember e a → ⊥) → (IsMember g (complement E a) → IsMember g E × (IsMember g a → ⊥))
    → IsMember g (e ∷ complement E a) → IsMember g (e ∷ E) × (IsMember g a → ⊥)
kept E a e g n rec (inl q) = (inl q, λ j. n (subst (λ z. IsMember z a) q j))
kept E a e g n rec (inr j) = let r = rec j in (inr r.0, r.1)

complement_among : (E a : List ℕ) (g : ℕ) → IsMember g (complement E a) → IsMember g E × (IsMember g a → ⊥)
complement_among [] a g m = absurd m
complement_among (e ∷ E) a g m = elim (is_member_cases e a) [
  | inl k ↦ let r = complement_among E a g (rw k.1 at m) in (inr r.0, r.1)
  | inr k ↦ kept E a e g k.0 (λ j. complement_among E a g j) (rw k.1 at m)
]

complement_all : (E a : List ℕ) (g : ℕ) → IsMember g E → (IsMember g a → ⊥) → IsMember g (complement E a)
complement_all [] a g m n = absurd m
complement_all (e ∷ E) a g m n = elim (is_member_cases e a) [
  | inl k ↦ rw k.1 (⊎_elim (λ q. absurd (n (subst (λ z. IsMember z a) (sym q) k.0))) (λ j. complement_all E a g j n) m)
  | inr k ↦ rw k.1 (⊎_elim (λ q. inl q) (λ j. inr (complement_all E a g j n)) m)
]

complement_distinct : (E a : List ℕ) → IsDistinct E → IsDistinct (complement E a)
complement_distinct [] a d = tt
complement_distinct (e ∷ E) a d = elim (is_member_cases e a) [
  | inl k ↦ rw k.1 (complement_distinct E a d.1)
  | inr k ↦ rw k.1 ((λ m. d.0 (complement_among E a e m).0), complement_distinct E a d.1)
]

-- the complement of a in a list without repeats lists the elements off a, each once
pub complement_is_complement : (E a : List ℕ) → IsDistinct E → IsComplement E a (complement E a)
complement_is_complement E a d = record {
  distinct = complement_distinct E a d;
  among = λ g m. (complement_among E a g m).0;
  apart = λ g m. (complement_among E a g m).1;
  all = complement_all E a;
}

-- a list is a listing of the complement of its complement
pub complement_back : (E a b : List ℕ) → IsDistinct a → AreAmong E a → IsComplement E a b → IsComplement E b a
complement_back E a b d i c = record {
  distinct = d;
  among = i;
  apart = λ g m k. c.apart g k m;
  all = λ g m n. ⊎_elim (λ k. k) (λ o. absurd (n (c.all g m o))) (member_or_not g a);
}

pub complement_joined : (E a b : List ℕ) → IsDistinct a → IsComplement E a b → IsDistinct (a ++ b)
complement_joined E a b d c = joined a d (λ g m. c.apart g m)
  where
    joined : (a : List ℕ) → IsDistinct a → ((g : ℕ) → IsMember g b → IsMember g a → ⊥) → IsDistinct (a ++ b)
    joined [] d n = c.distinct
    joined (x ∷ a) d n = (
      (λ m. ⊎_elim (λ k. d.0 k) (λ k. n x k (inl refl)) (member_append x a b m)),
      joined a d.1 (λ g m k. n g m (inr k)),
    )

-- an element of a list goes over to its complement
pub complement_more : (E u v y : List ℕ) (e : ℕ) → IsDistinct (u ++ e ∷ v) → AreAmong E (u ++ e ∷ v)
    → IsComplement E (u ++ e ∷ v) y → IsComplement E (u ++ v) (y ++ e ∷ [])
complement_more E u v y e d i c =
    let k = distinct_drop u e v d in
    record {
      distinct = distinct_last y e c.distinct (λ m. c.apart e m (member_middle e u v));
      among = λ g m. ⊎_elim (λ j. c.among g j) (λ q. subst (λ z. IsMember z E) (sym q) (i e (member_middle e u v)))
          (member_last g e y m);
      apart = λ g m n. ⊎_elim (λ j. c.apart g j (member_insert g u e v n))
          (λ q. k.1 (subst (λ z. IsMember z (u ++ v)) q n)) (member_last g e y m);
      all = λ g m n. ⊎_elim
          (λ j. ⊎_elim (λ q. member_right g y (e ∷ []) (inl q)) (λ p. absurd (n p)) (member_drop g u e v j))
          (λ o. member_left g y (e ∷ []) (c.all g m o))
          (member_or_not g (u ++ e ∷ v));
    }

-- an element of the complement comes over
pub complement_less : (E y u v : List ℕ) (e : ℕ) → IsComplement E y (u ++ e ∷ v) → IsComplement E (y ++ e ∷ []) (u ++ v)
complement_less E y u v e c =
    let k = distinct_drop u e v c.distinct in
    record {
      distinct = k.0;
      among = λ g m. c.among g (member_insert g u e v m);
      apart = λ g m n. ⊎_elim (λ j. c.apart g (member_insert g u e v m) j)
          (λ q. k.1 (subst (λ z. IsMember z (u ++ v)) q m)) (member_last g e y n);
      all = λ g m n. ⊎_elim (λ q. absurd (n (member_right g y (e ∷ []) (inl q)))) (λ j. j)
          (member_drop g u e v (c.all g m (λ j. n (member_left g y (e ∷ []) j))));
    }

is_member_swap : (e x y : ℕ) (cs bs : List ℕ) → is_member e (cs ++ y ∷ x ∷ bs) ≡ is_member e (cs ++ x ∷ y ∷ bs)
is_member_swap e x y [] bs = elim (cases_eq e x) [
  | inl p ↦ elim (cases_eq e y) [
    | inl q ↦ rw (eq-eqb e x p, eq-eqb e y q) refl
    | inr q ↦ rw (eq-eqb e x p, ne_eqb e y q) refl
  ]
  | inr p ↦ elim (cases_eq e y) [
    | inl q ↦ rw (ne_eqb e x p, eq-eqb e y q) refl
    | inr q ↦ rw (ne_eqb e x p, ne_eqb e y q) refl
  ]
]
is_member_swap e x y (c ∷ cs) bs = ap (λ k. cond (nat_eq e c) true k) (is_member_swap e x y cs bs)

pub complement_swap : (E : List ℕ) (x y : ℕ) (cs bs : List ℕ)
    → complement E (cs ++ y ∷ x ∷ bs) ≡ complement E (cs ++ x ∷ y ∷ bs)
complement_swap [] x y cs bs = refl
complement_swap (e ∷ E) x y cs bs =
    ap (λ k. cond k (complement E (cs ++ y ∷ x ∷ bs)) (e ∷ complement E (cs ++ y ∷ x ∷ bs)))
    (is_member_swap e x y cs bs)
    ∙ ap (λ l. cond (is_member e (cs ++ x ∷ y ∷ bs)) l (e ∷ l)) (complement_swap E x y cs bs)

pub among_swap : (E : List ℕ) (x y : ℕ) (cs bs : List ℕ) → AreAmong E (cs ++ y ∷ x ∷ bs) → AreAmong E (cs ++ x ∷ y ∷ bs)
among_swap E x y cs bs h g m = ⊎_elim
    (λ k. h g (member_left g cs (y ∷ x ∷ bs) k))
    (λ k. h g
    (member_right g cs (y ∷ x ∷ bs) (⊎_elim (λ q. inr (inl q)) (λ j. ⊎_elim (λ q. inl q) (λ i. inr (inr i)) j) k)))
    (member_append g cs (x ∷ y ∷ bs) m)
