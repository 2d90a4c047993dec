-- Members of lists of elements.
--
-- Main definitions: HasRepeat.
-- Main results: a list is distinct or has a repeat (distinct_or_repeat); membership is decided (member_or_not); members
-- of two lists put together (member_append), of a list whose neighbours change places (member_swap), at a place
-- (member_at), and of a list with an element left out (member_drop, distinct_drop); a search (search_members).
use Rattle.std.proofs.lemmas.Bool.{cases_eq}
use Rattle.std.proofs.Common.{ℕ, zero, suc, List, refl, inl, inr, sym, ap, subst, arith, ⊎_elim, ◌≡◌, ◌<◌, ◌⊎◌, ◌∷◌}
use Rattle.std.proofs.Common.{◌++◌, [], length, get_or}
use Rattle.om_laws.specs.Members.{IsMember, IsDistinct}

-- a list with a member e is split at e into what stands before it and what stands behind it
pub split_at : (e : ℕ) (l : List ℕ) → IsMember e l → (u : List ℕ) × (v : List ℕ) × (l ≡ u ++ e ∷ v)
split_at e [] m = absurd m
split_at e (a ∷ l) (inl q) = ([], l, ap (λ z. z ∷ l) (sym q))
split_at e (a ∷ l) (inr m) = let k = split_at e l m in (a ∷ k.0, k.1, ap (λ z. a ∷ z) k.2)

-- an element between two lists is a member of the whole
pub member_middle : (e : ℕ) (u v : List ℕ) → IsMember e (u ++ e ∷ v)
member_middle e [] v = inl refl
member_middle e (a ∷ u) v = inr (member_middle e u v)

-- an element is a member of a list or not
pub member_or_not : (e : ℕ) (l : List ℕ) → IsMember e l ⊎ (IsMember e l → ⊥)
member_or_not e [] = inr (λ m. m)
member_or_not e (a ∷ l) =
    ⊎_elim (λ q. inl (inl q))
    (λ n. ⊎_elim (λ m. inl (inr m)) (λ k. inr (λ m. ⊎_elim (λ q. n q) (λ b. k b) m)) (member_or_not e l))
    (cases_eq e a)

abbrev pub HasRepeat : List ℕ → Type 0
HasRepeat t = (u : List ℕ) × (x : ℕ) × (m : List ℕ) × (w : List ℕ) × (t ≡ u ++ x ∷ (m ++ x ∷ w))

-- a list is distinct, or some element occurs twice in it
pub distinct_or_repeat : (t : List ℕ) → IsDistinct t ⊎ HasRepeat t
distinct_or_repeat [] = inl tt
distinct_or_repeat (a ∷ l) =
    ⊎_elim
    (λ m. let k = split_at a l m in inr ([], a, k.0, k.1, ap (λ z. a ∷ z) k.2))
    (λ n. ⊎_elim (λ r. inl (n, r)) (λ r. inr (a ∷ r.0, r.1, r.2, r.3, ap (λ z. a ∷ z) r.4)) (distinct_or_repeat l))
    (member_or_not a l)

-- a member of two lists put together is a member of one of them
pub member_append : (g : ℕ) (u v : List ℕ) → IsMember g (u ++ v) → IsMember g u ⊎ IsMember g v
member_append g [] v m = inr m
member_append g (a ∷ u) v (inl q) = inl (inl q)
member_append g (a ∷ u) v (inr m) = ⊎_elim (λ k. inl (inr k)) (λ k. inr k) (member_append g u v m)

-- a member of the first of two lists is a member of both put together
pub member_left : (g : ℕ) (u v : List ℕ) → IsMember g u → IsMember g (u ++ v)
member_left g [] v m = absurd m
member_left g (a ∷ u) v (inl q) = inl q
member_left g (a ∷ u) v (inr m) = inr (member_left g u v m)

-- a member of the second of two lists is a member of both put together
pub member_right : (g : ℕ) (u v : List ℕ) → IsMember g v → IsMember g (u ++ v)
member_right g [] v m = m
member_right g (a ∷ u) v m = inr (member_right g u v m)

-- a member of a list in which two neighbours change places
pub member_swap : (g x y : ℕ) (cs bs : List ℕ) → IsMember g (cs ++ x ∷ y ∷ bs) → IsMember g (cs ++ y ∷ x ∷ bs)
member_swap g x y [] bs (inl q) = inr (inl q)
member_swap g x y [] bs (inr (inl q)) = inl q
member_swap g x y [] bs (inr (inr m)) = inr (inr m)
member_swap g x y (c ∷ cs) bs (inl q) = inl q
member_swap g x y (c ∷ cs) bs (inr m) = inr (member_swap g x y cs bs m)

-- the entry at each place of a list is a member
pub member_at : (xs : List ℕ) (i : ℕ) → i < length xs → IsMember (get_or xs i 0) xs
member_at [] i l = absurd (omega (arith, l))
member_at (x ∷ xs) zero l = inl refl
member_at (x ∷ xs) (suc i) l = inr (member_at xs i (omega (arith, l)))

-- a member of a list with e put last is e or a member of the list
pub member_last : (g e : ℕ) (t : List ℕ) → IsMember g (t ++ e ∷ []) → IsMember g t ⊎ (g ≡ e)
member_last g e [] (inl q) = inr q
member_last g e [] (inr m) = absurd m
member_last g e (a ∷ t) (inl q) = inl (inl q)
member_last g e (a ∷ t) (inr m) = ⊎_elim (λ k. inl (inr k)) (λ q. inr q) (member_last g e t m)

-- a distinct list with an element put last stays distinct, if the element wasn't in it
pub distinct_last : (t : List ℕ) (e : ℕ) → IsDistinct t → (IsMember e t → ⊥) → IsDistinct (t ++ e ∷ [])
distinct_last [] e r n = (λ m. m, tt)
distinct_last (a ∷ t) e r n =
    (λ m. ⊎_elim (λ k. r.0 k) (λ q. n (inl (sym q))) (member_last a e t m), distinct_last t e r.1 (λ m. n (inr m)))

-- a member in the middle, moved to the front of the tail
pub member_drop : (g : ℕ) (u : List ℕ) (a : ℕ) (v : List ℕ) → IsMember g (u ++ a ∷ v) → (g ≡ a) ⊎ IsMember g (u ++ v)
member_drop g u a v m =
    ⊎_elim (λ p. inr (member_left g u v p)) (λ p. ⊎_elim (λ q. inl q) (λ q. inr (member_right g u v q)) p)
    (member_append g u (a ∷ v) m)

-- a member of a list stays one if an element is put in
pub member_insert : (g : ℕ) (u : List ℕ) (a : ℕ) (v : List ℕ) → IsMember g (u ++ v) → IsMember g (u ++ a ∷ v)
member_insert g u a v m = ⊎_elim (λ p. member_left g u (a ∷ v) p) (λ p. member_right g u (a ∷ v) (inr p))
    (member_append g u v m)

-- a distinct list with an element left out is distinct, and the element isn't in it any more
pub distinct_drop : (u : List ℕ) (a : ℕ) (v : List ℕ) → IsDistinct (u ++ a ∷ v) → IsDistinct (u ++ v)
    × (IsMember a (u ++ v) → ⊥)
distinct_drop [] a v r = (r.1, r.0)
distinct_drop (c ∷ u) a v r =
    let k = distinct_drop u a v r.1 in (
      (λ m. r.0 (member_insert c u a v m), k.0),
      λ m. ⊎_elim (λ q. r.0 (subst (λ z. IsMember z (u ++ a ∷ v)) q (member_middle a u v))) (λ p. k.1 p) m,
    )

-- a member with a property, or none
pub search_members : (P N : ℕ → Type 0) → ((x : ℕ) → P x ⊎ N x) → (l : List ℕ) → ((x : ℕ) × IsMember x l × P x)
    ⊎ ((x : ℕ) → IsMember x l → N x)
search_members P N dec [] = inr (λ x m. absurd m)
search_members P N dec (a ∷ l) =
    ⊎_elim
    (λ p. inl (a, inl refl, p))
    (λ n. ⊎_elim
    (λ k. inl (k.0, inr k.1, k.2))
    (λ k. inr (λ x m. ⊎_elim (λ q. subst N (sym q) n) (λ b. k x b) m))
    (search_members P N dec l))
    (dec a)

-- some element of s isn't in t, or all elements of s are in t
pub outside_or_within : (s t : List ℕ) → ((e : ℕ) × IsMember e s × (IsMember e t → ⊥))
    ⊎ ((e : ℕ) → IsMember e s → IsMember e t)
outside_or_within s t = search_members (λ e. IsMember e t → ⊥) (λ e. IsMember e t)
    (λ e. ⊎_elim (λ k. inr k) (λ n. inl n) (member_or_not e t)) s

pub distinct_front : (t : List ℕ) (e : ℕ) → IsDistinct (t ++ e ∷ []) → IsDistinct t
distinct_front [] e d = tt
distinct_front (x ∷ t) e d = ((λ m. d.0 (member_left x t (e ∷ []) m)), distinct_front t e d.1)
