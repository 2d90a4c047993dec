-- Relations of a map by the places of their terms, and families of first signs.
--
-- Main definitions: turn, term, AreBalanced, below
-- Main results: balanced_from, balanced_to, balanced_same, balanced_times, below_member, member_below, lead_family
-- Reference: Björner, Las Vergnas, Sturmfels, White and Ziegler, Oriented Matroids, chapter 7.
use Rattle.std.specs.Prelude.{◌≡◌, ◌≢◌, ◌⊎◌, ℕ, ◌<◌, List, [], ◌∷◌, length, get_or, refl}
use Rattle.std.specs.List.{remove}
use Rattle.std.proofs.Common.{zero, suc, sym, ap, ◌∙◌, inl, inr, arith}
use Rattle.std.proofs.lemmas.Bool.{cases_eq}
use Rattle.om_signs.specs.declared.sign.Sign.{Sign}
use Rattle.om_signs.specs.declared.sign.Sign.TheVariants.{Minus, Zero, Plus}
use Rattle.om_signs.specs.Sign.{opposite, product}
use Rattle.om_signs.proofs.SignLaws.{opposite_nonzero, plus_nonzero, minus_nonzero, opposite-opposite, product-plus}
use Rattle.om_signs.proofs.SignLaws.{product_turned_out, product_turned_in}
use Rattle.om_laws.specs.Signs.{IsNonzero}
use Rattle.om_laws.specs.Members.{IsMember}
use Rattle.om_laws.specs.Relations.{HasTerm, IsBalanced}
use Rattle.om_lexext.proofs.Leads.{lead, lead_balanced, lead_plus}

-- ---- relations by places

-- (-1) to the power k + 1
abbrev pub turn : ℕ → Sign
turn zero = Minus
turn (suc k) = opposite (turn k)

-- the i-th term of the relation of xs and u
abbrev pub term : (List ℕ → Sign) → List ℕ → (ℕ → Sign) → ℕ → Sign
term chi xs u i = product (turn i) (product (chi (remove xs i)) (u (get_or xs i 0)))

abbrev HasTermAt : (List ℕ → Sign) → List ℕ → (ℕ → Sign) → Sign → Type 0
HasTermAt chi xs u s = (i : ℕ) × (i < length xs) × (term chi xs u i ≡ s)

minus_times : (a s : Sign) → product Minus a ≡ s → a ≡ opposite s
minus_times Minus s e = ap opposite e
minus_times Zero s e = ap opposite e
minus_times Plus s e = ap opposite e

times_minus : (a s : Sign) → a ≡ opposite s → product Minus a ≡ s
times_minus a Minus e = ap opposite e
times_minus a Zero e = ap opposite e
times_minus a Plus e = ap opposite e

at_from_term : (chi : List ℕ → Sign) (xs : List ℕ) (u : ℕ → Sign) (s : Sign) → HasTerm chi xs u s → HasTermAt chi xs u s
at_from_term chi [] u s h = absurd h
at_from_term chi (x ∷ xs) u s (inl e) = (0, omega arith, times_minus (product (chi xs) (u x)) s e)
at_from_term chi (x ∷ xs) u s (inr h) =
    let k = at_from_term (λ t. chi (x ∷ t)) xs u (opposite s) h in
    let l = k.1 in (
      suc k.0,
      omega (arith, l),
      product_turned_in (turn k.0)
          (product (chi (x ∷ remove xs k.0)) (u (get_or xs k.0 0))) s k.2,
    )

term_from_at : (chi : List ℕ → Sign) (xs : List ℕ) (u : ℕ → Sign) (s : Sign) → HasTermAt chi xs u s → HasTerm chi xs u s
term_from_at chi [] u s (i, l, e) = absurd (omega (arith, l))
term_from_at chi (x ∷ xs) u s (zero, l, e) = inl (minus_times (product (chi xs) (u x)) s e)
term_from_at chi (x ∷ xs) u s (suc i, l, e) =
    inr (term_from_at (λ t. chi (x ∷ t)) xs u (opposite s)
    (i, omega (arith, l), product_turned_out (turn i) (product (chi (x ∷ remove xs i)) (u (get_or xs i 0))) s e))

-- the terms below n include with a sign its opposite
abbrev pub AreBalanced : ℕ → (ℕ → Sign) → Type 0
AreBalanced n T = (t : Sign) → IsNonzero t → (i : ℕ) → i < n → T i ≡ t → (k : ℕ) × (k < n) × (T k ≡ opposite t)

pub balanced_from : (chi : List ℕ → Sign) (xs : List ℕ) (u : ℕ → Sign) → AreBalanced (length xs) (term chi xs u)
    → IsBalanced chi xs u
balanced_from chi xs u h = (
  λ p. let k = at_from_term chi xs u Plus p in term_from_at chi xs u Minus (h Plus plus_nonzero k.0 k.1 k.2),
  λ p. let k = at_from_term chi xs u Minus p in term_from_at chi xs u Plus (h Minus minus_nonzero k.0 k.1 k.2),
)

pub balanced_to : (chi : List ℕ → Sign) (xs : List ℕ) (u : ℕ → Sign) → IsBalanced chi xs u
    → AreBalanced (length xs) (term chi xs u)
balanced_to chi xs u b Minus n i l e = at_from_term chi xs u Plus (b.1 (term_from_at chi xs u Minus (i, l, e)))
balanced_to chi xs u b Zero n i l e = absurd (n refl)
balanced_to chi xs u b Plus n i l e = at_from_term chi xs u Minus (b.0 (term_from_at chi xs u Plus (i, l, e)))

pub balanced_same : (n : ℕ) (S T : ℕ → Sign) → ((i : ℕ) → i < n → S i ≡ T i) → AreBalanced n T → AreBalanced n S
balanced_same n S T q b t nt i l e = let k = b t nt i l (sym (q i l) ∙ e) in (k.0, k.1, q k.0 k.1 ∙ k.2)

-- a family times a sign
undo : (c a t : Sign) → IsNonzero t → product c a ≡ t → a ≡ product c t
undo Minus a t n e = sym (opposite-opposite a) ∙ ap opposite e
undo Zero a t n e = absurd (n (sym e))
undo Plus a t n e = e

redo : (c a t : Sign) → IsNonzero c → a ≡ opposite (product c t) → product c a ≡ opposite t
redo Minus a t n e = ap opposite e ∙ opposite-opposite (opposite t)
redo Zero a t n e = absurd (n refl)
redo Plus a t n e = e

times_nonzero : (c a t : Sign) → IsNonzero t → product c a ≡ t → IsNonzero c × IsNonzero (product c t)
times_nonzero Minus a t n e = (minus_nonzero, opposite_nonzero t n)
times_nonzero Zero a t n e = absurd (n (sym e))
times_nonzero Plus a t n e = (plus_nonzero, n)

pub balanced_times : (n : ℕ) (c : Sign) (T : ℕ → Sign) → AreBalanced n T → AreBalanced n (λ i. product c (T i))
balanced_times n c T b t nt i l e =
    let h = times_nonzero c (T i) t nt e in
    let k = b (product c t) h.1 i l (undo c (T i) t nt e) in
    (k.0, k.1, redo c (T k.0) t h.0 k.2)

-- ---- families of first signs

-- the numbers below n
abbrev pub below : ℕ → List ℕ
below zero = []
below (suc n) = n ∷ below n

pub below_member : (n i : ℕ) → i < n → IsMember i (below n)
below_member zero i l = absurd (omega (arith, l))
below_member (suc n) i l = elim (cases_eq i n) [
  | inl q ↦ inl q
  | inr d ↦ inr (below_member n i (let e : i ≢ n = d in omega (arith, l, e)))
]

pub member_below : (n i : ℕ) → IsMember i (below n) → i < n
member_below zero i m = absurd m
member_below (suc n) i (inl q) = omega (arith, q)
member_below (suc n) i (inr m) = let l = member_below n i m in omega (arith, l)

pub lead_family : (n m : ℕ) (F : ℕ → ℕ → Sign) → ((j : ℕ) → j < m → AreBalanced n (F j))
    → AreBalanced n (λ i. lead (λ j. F j i) 0 m)
lead_family n m F b t nt i l e =
    let r = lead_balanced (below n) m F (λ j i. Plus) (λ j k. Zero) (λ j k. refl) step t nt i (below_member n i l)
    (lead_plus (λ j. F j i) m 0 ∙ e) in
    (r.0, member_below n r.0 r.1, sym (lead_plus (λ j. F j r.0) m 0) ∙ r.2)
  where
    step : (j k : ℕ) → j < m → k < m → (t : Sign) → IsNonzero t
        → ((i : ℕ) × IsMember i (below n) × (product (F j i) Plus ≡ t)) ⊎ (Zero ≡ t)
        → ((i : ℕ) × IsMember i (below n) × (product (F j i) Plus ≡ opposite t)) ⊎ (Zero ≡ opposite t)
    step j k lj lk t nt (inr z) = absurd (nt (sym z))
    step j k lj lk t nt (inl (i, mi, e)) =
        let r = b j lj t nt i (member_below n i mi) (sym (product-plus (F j i)) ∙ e) in
        inl (r.0, below_member n r.0 r.1, product-plus (F j r.0) ∙ r.2)
