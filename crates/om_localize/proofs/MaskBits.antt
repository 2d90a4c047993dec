-- Vectors of signs written place by place, and the bits and places of the masks of forms.
--
-- Main definitions: IsCutUpTo
-- Main results: circle_value, place_more, place_kept, form_more, cut_set, cut_kept
use Rattle.std.proofs.Common.{ℕ, ◌≡◌, ◌≢◌, ◌+◌, ◌-◌, ◌*◌, ◌<◌, ◌≤◌, ◌⊎◌, ◌↔◌, ◌^◌, ◌%◌, List, [], ◌∷◌, length, set}
use Rattle.std.proofs.Common.{get_or, refl, sym, ◌∙◌, ap, subst, ⊎_elim, arith, inl, inr, bit_or}
use Rattle.std.specs.Int.{bit_at, w128}
use Rattle.std.proofs.lemmas.Bool.{cases_eq}
use Rattle.std.proofs.lemmas.List.{length-set, get_or-set_same, get_or-set_other}
use Rattle.std.proofs.lemmas.Nat.Bits.{bit_at_set_same, bit_at_set_other}
use Rattle.om_signs.specs.declared.sign.Sign.{Sign}
use Rattle.om_signs.specs.declared.sign.Sign.TheVariants.{Zero}
use Rattle.om_signs.specs.Sign.{product, first_nonzero}
use Rattle.om_signs.specs.SignVec.{at_element}
use Rattle.om_signs.proofs.SignLaws.{first_nonzero_right, first_nonzero_left}
use Rattle.om_signs.proofs.SignRanks.{sign_rank-lt, sign_rank-injective}
use Rattle.om_laws.specs.Vectors.{SignVector}
use Rattle.om_laws.proofs.TupleSizes.{on_tuples_at}
use Rattle.om_chirotope.specs.Map.{SignMap, chi_of, value_of}
use Rattle.om_localize.specs.declared.circles.TheConstants.{MAX_OLD}
use Rattle.om_localize.specs.Circles.{Circle, circle_of}
use Rattle.om_localize.specs.Masks.{mask_place, IsBitOfForm, IsFormAdded}

-- ---- vectors of signs, place by place

pub circle_value : (m : SignMap) (e f g : ℕ) → 1 ≤ e → e ≤ m.elements → 1 ≤ f → f ≤ m.elements → 1 ≤ g → g ≤ m.elements
    → value_of m (e ∷ f ∷ g ∷ []) ≡ circle_of m e f g
circle_value m e f g el eh fl fh gl gh =
    sym (on_tuples_at m.elements 3 (chi_of m) (e ∷ f ∷ g ∷ [])
    (record { size = refl; within = ((el, eh), ((fl, fh), ((gl, gh), tt))) }))

-- a sign more of a vector, written place by place
pub place_more : (e : ℕ) (t : SignVector) (xs : List Sign) (s : Sign) → 1 ≤ e → e ≤ length xs → s ≡ t e
    → ((g : ℕ) → 1 ≤ g → g < e → at_element xs g ≡ t g) → (g : ℕ) → 1 ≤ g → g < e + 1
    → at_element (set xs (e - 1) s) g ≡ t g
place_more e t xs s low high q done g gl gh = elim (cases_eq g e) [
  | inl p ↦ let lt : e - 1 < length xs = omega arith in rw (p, get_or-set_same xs (e - 1) s Zero lt) q
  | inr n ↦ let ne : g - 1 ≢ e - 1 = omega arith in get_or-set_other xs (e - 1) (g - 1) s Zero ne
      ∙ done g gl (omega arith)
]

pub place_kept : (e g : ℕ) (xs : List Sign) (s : Sign) → 1 ≤ e → 1 ≤ g → g ≢ e
    → at_element (set xs (e - 1) s) g ≡ at_element xs g
place_kept e g xs s el gl n = let ne : g - 1 ≢ e - 1 = omega arith in get_or-set_other xs (e - 1) (g - 1) s Zero ne

-- ---- places of masks

-- different elements or signs have different masks
pub record IsSamePlace (e f d g : ℕ) (s t : Sign) : Type 0 where
  pub circle : e ≡ d
  pub element : f ≡ g
  pub sign : s ≡ t

pub same_place : (e f d g : ℕ) (s t : Sign) → 1 ≤ e → 1 ≤ f → f ≤ MAX_OLD → 1 ≤ d → 1 ≤ g → g ≤ MAX_OLD
    → mask_place e f s ≡ mask_place d g t → IsSamePlace e f d g s t
same_place e f d g s t el fl fh dl gl gh q =
    let a = sign_rank-lt s in
    let b = sign_rank-lt t in
    record { circle = omega arith; element = omega arith; sign = sign_rank-injective s t (omega arith) }

-- ---- one bit more

bit_set : (x k j : ℕ) → k < 128 → (bit_at (bit_or x (1 * 2 ^ k % 2 ^ 128)) j ≡ 1) ↔ ((bit_at x j ≡ 1) ⊎ (j ≡ k))
bit_set x k j l = elim (cases_eq j k) [
  | inl q ↦ (λ h. inr q, λ h. rw q (bit_at_set_same w128 x k l))
  | inr n ↦ (
    λ h. inl (sym (bit_at_set_other w128 x k l j n) ∙ h),
    λ h. bit_at_set_other w128 x k l j n
        ∙ ⊎_elim (λ b. b) (λ q. absurd (n q)) h,
  )
]

pub form_more : (f e : ℕ) (s : SignVector) (k i : ℕ) (old mid : List ℕ) → 1 ≤ f → k < 128 → i ≡ mask_place e f (s f)
    → i < length mid → IsFormAdded (f - 1) e s k old mid
    → IsFormAdded (f + 1 - 1) e s k old (set mid i (bit_or (get_or mid i 0) (1 * 2 ^ k % 2 ^ 128)))
form_more f e s k i old mid low l q few h = record {
  whole = length-set mid i _ ∙ h.whole;
  bits = λ p j. elim (cases_eq p i) [
    | inl r ↦ (
      λ b.
          let b' : bit_at (bit_or (get_or mid i 0) (1 * 2 ^ k % 2 ^ 128)) j ≡ 1 =
          rw (r, get_or-set_same mid i _ 0 few) at b in
          ⊎_elim (λ c. ⊎_elim (λ d. inl d) (λ d. inr (wider p j d))
          ((h.bits p j).0 (subst (λ z. bit_at (get_or mid z 0) j ≡ 1) (sym r) c)))
          (λ c. inr (c, (f, low, omega arith, r ∙ q))) ((bit_set (get_or mid i 0) k j l).0 b'),
      λ b.
          let c : (bit_at (get_or mid i 0) j ≡ 1) ⊎ (j ≡ k) =
          ⊎_elim (λ d. inl (subst (λ z. bit_at (get_or mid z 0) j ≡ 1) r ((h.bits p j).1 (inl d)))) (λ d. inr d.0)
          b in
          rw (r, get_or-set_same mid i (bit_or (get_or mid i 0) (1 * 2 ^ k % 2 ^ 128)) 0 few)
          ((bit_set (get_or mid i 0) k j l).1 c),
    )
    | inr n ↦ (
      λ b. ⊎_elim (λ d. inl d) (λ d. inr (wider p j d))
          ((h.bits p j).0 (sym (ap (λ x. bit_at x j) (get_or-set_other mid i p _ 0 n)) ∙ b)),
      λ b. ap (λ x. bit_at x j) (get_or-set_other mid i p _ 0 n)
          ∙ (h.bits p j).1 (⊎_elim (λ d. inl d) (λ d. inr (narrower p j n d)) b),
    )
  ];
}
  where
    wider : (p j : ℕ) → IsBitOfForm (f - 1) e s k p j → IsBitOfForm (f + 1 - 1) e s k p j
    wider p j (a, (g, gl, gh, r)) = (a, (g, gl, omega arith, r))

    narrower : (p j : ℕ) → p ≢ i → IsBitOfForm (f + 1 - 1) e s k p j → IsBitOfForm (f - 1) e s k p j
    narrower p j n (a, (g, gl, gh, r)) = elim (cases_eq g f) [
      | inl x ↦ absurd (n (r ∙ ap (λ z. mask_place e z (s z)) x ∙ sym q))
      | inr x ↦ (a, (g, gl, omega arith, r))
    ]

-- ---- the half that begins beside a point

pub record IsCutUpTo (points cut : List Sign) (circle : Circle) (h n g : ℕ) : Type 0 where
  pub len : length cut ≡ n
  pub done : (j : ℕ) → 1 ≤ j → j < g
      → at_element cut j ≡ first_nonzero (at_element points j) (product (at_element points h) (circle j h))
  pub rest : (j : ℕ) → g ≤ j → at_element cut j ≡ at_element points j

pub cut_set : (points cut : List Sign) (circle : Circle) (h n g : ℕ) (s : Sign) → 1 ≤ g → g ≤ n
    → at_element points g ≡ Zero → s ≡ product (at_element points h) (circle g h) → IsCutUpTo points cut circle h n g
    → IsCutUpTo points (set cut (g - 1) s) circle h n (g + 1)
cut_set points cut circle h n g s low high z q c =
    let len = c.len in
    record {
      len = length-set cut (g - 1) s ∙ c.len;
      done = place_more g (λ j. first_nonzero (at_element points j) (product (at_element points h) (circle j h))) cut s
          low (omega arith) (q ∙ sym
          (first_nonzero_right (at_element points g) (product (at_element points h) (circle g h)) z))
          c.done;
      rest = λ j l. place_kept g j cut s low (omega arith) (omega arith) ∙ c.rest j (omega arith);
    }

pub cut_kept : (points cut : List Sign) (circle : Circle) (h n g : ℕ) → 1 ≤ g → at_element points g ≢ Zero
    → IsCutUpTo points cut circle h n g → IsCutUpTo points cut circle h n (g + 1)
cut_kept points cut circle h n g low nz c = record {
  len = c.len;
  done = λ j a b. elim (cases_eq j g) [
    | inl q ↦
        rw q (c.rest g (omega arith)
        ∙ sym (first_nonzero_left (at_element points g) (product (at_element points h) (circle g h)) nz))
    | inr ne ↦ c.done j a (omega arith)
  ];
  rest = λ j l. c.rest j (omega arith);
}
