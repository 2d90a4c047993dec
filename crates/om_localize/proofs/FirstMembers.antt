-- The first members in lexicographic order are determined.
--
-- Main results: number_of_before, no_longer, same_at, same_lines, same_more
use Rattle.std.proofs.Common.{ℕ, zero, suc, Bool, ◌≡◌, ◌<◌, ◌≤◌, List, [], ◌∷◌, length, get_or, refl, sym, ◌∙◌, ap}
use Rattle.std.proofs.Common.{subst, arith, inl, inr}
use Rattle.std.specs.List.{Contains}
use Rattle.std.specs.declared.cmp.Ordering.{Ordering}
use Rattle.std.specs.declared.cmp.Ordering.TheVariants.{Less, Greater}
use Rattle.std.specs.Ordering.{ordering_then}
use Rattle.std.specs.Cmp.{both_ways}
use Rattle.std.proofs.lemmas.Bool.{cases_lt, cases_eq}
use Rattle.std.proofs.lemmas.List.{ext_get_or, get_or_default}
use Rattle.om_signs.specs.declared.sign.Sign.{Sign}
use Rattle.om_signs.specs.declared.sign.Sign.TheVariants.{Minus, Zero, Plus}
use Rattle.om_signs.specs.Order.{sign_rank, sign_order, lexicographic}
use Rattle.om_signs.proofs.SignRanks.{sign_rank-injective}
use Rattle.om_localize.specs.Listings.{IsBefore, AreFirst}
use Rattle.om_localize.specs.Searches.{scaled, number}
use Rattle.om_localize.proofs.ListNumbers.{smaller_head, same_number, own_order}

-- ---- the first members are determined

behind : (x y : Sign) (o : Ordering) → sign_rank y < sign_rank x → ordering_then (sign_order x y) o ≡ Greater
behind Minus y o l = absurd (omega arith)
behind Zero Minus o l = refl
behind Zero Zero o l = absurd (omega arith)
behind Zero Plus o l = absurd (omega arith)
behind Plus Minus o l = refl
behind Plus Zero o l = refl
behind Plus Plus o l = absurd (omega arith)

-- of two lists with as many signs the one that comes before has the smaller number
pub number_of_before : (xs ys : List Sign) → length xs ≡ length ys → IsBefore xs ys → number xs < number ys
number_of_before [] [] l q = cc
number_of_before [] (y ∷ ys) l q = absurd (omega arith)
number_of_before (x ∷ xs) [] l q = absurd (omega arith)
number_of_before (x ∷ xs) (y ∷ ys) l q =
    let k : length xs ≡ length ys = omega arith in
    elim (cases_lt (sign_rank x) (sign_rank y)) [
      | inl lt ↦ smaller_head x y xs ys k lt
      | inr ge ↦ elim (cases_lt (sign_rank y) (sign_rank x)) [
        | inl gt ↦ let g = behind x y (lexicographic xs ys) gt in absurd (less_not_greater (sym q ∙ g))
        | inr le ↦
            let r : sign_rank x ≡ sign_rank y = omega arith in
            let d : scaled (length xs) (sign_rank x) ≡ scaled (length ys) (sign_rank y) =
            ap (λ n. scaled n (sign_rank x)) k ∙ ap (scaled (length ys)) r in
            let s : IsBefore xs ys = sym (own_order x (lexicographic xs ys))
            ∙ ap (λ t. ordering_then (sign_order x t) (lexicographic xs ys)) (sign_rank-injective x y r) ∙ q in
            let i = number_of_before xs ys k s in
            omega (arith, d, i)
      ]
    ]
  where
    less_not_greater : Less ≡ Greater → ⊥
    less_not_greater e = cc

module _ (P : List Sign → Type 0) (n k : ℕ) (sized : (xs : List Sign) → P xs → length xs ≡ n) where
  -- the member at a place of one list of first members stands at this place in each other one
  module _ (lines others : List (List Sign)) (more also : Bool) (h : AreFirst P k lines more)
      (g : AreFirst P k others also) where
    smaller : (i j : ℕ) → i < j → j < length lines → number (get_or lines i []) < number (get_or lines j [])
    smaller i j lt l = number_of_before (get_or lines i []) (get_or lines j [])
        (sized (get_or lines i []) (h.members i [] (omega arith)) ∙ sym (sized (get_or lines j []) (h.members j [] l)))
        (h.ordered i j [] lt l)

    smaller_other : (i j : ℕ) → i < j → j < length others → number (get_or others i []) < number (get_or others j [])
    smaller_other i j lt l =
        number_of_before (get_or others i []) (get_or others j [])
        (sized (get_or others i []) (g.members i [] (omega arith))
        ∙ sym (sized (get_or others j []) (g.members j [] l))) (g.ordered i j [] lt l)

    abbrev Agrees : ℕ → Type 0
    Agrees i = (i < length others) × (get_or lines i [] ≡ get_or others i [])

    -- the first list is full before the other's member at i, or has it from place i on
    later : (i : ℕ) → i < length lines → ((j : ℕ) → j < i → Agrees j) → (few : i < length others)
        → number (get_or lines i []) ≤ number (get_or others i [])
    later i l before few = elim (h.complete (get_or others i []) (g.members i [] few)) [
      | inl c ↦
          let same : get_or lines c.0 [] ≡ get_or others i [] = get_or_default lines c.0 [] (get_or others i []) c.1
          ∙ c.2 in
          elim (cases_lt c.0 i) [
            | inl lt ↦
                let e = ap number (sym (before c.0 lt).1 ∙ same) in
                let s = smaller_other c.0 i lt few in
                absurd (omega (arith, e, s))
            | inr ge ↦ elim (cases_eq c.0 i) [
              | inl q ↦ let e = ap number (ap (λ z. get_or lines z []) (sym q) ∙ same) in omega (arith, e)
              | inr ne ↦ let e = ap number same in let s = smaller i c.0 (omega arith) c.1 in omega (arith, e, s)
            ]
          ]
      | inr f ↦
          let s = number_of_before (get_or lines i []) (get_or others i [])
          (sized (get_or lines i []) (h.members i [] l) ∙ sym (sized (get_or others i []) (g.members i [] few)))
          (f.1 i [] l) in
          omega (arith, s)
    ]

    -- and the other way round
    earlier_or_same : (i : ℕ) → i < length lines → ((j : ℕ) → j < i → Agrees j) → (i < length others)
        × (number (get_or others i []) ≤ number (get_or lines i []))
    earlier_or_same i l before = elim (g.complete (get_or lines i []) (h.members i [] l)) [
      | inl c ↦
          let same : get_or others c.0 [] ≡ get_or lines i [] = get_or_default others c.0 [] (get_or lines i []) c.1
          ∙ c.2 in
          elim (cases_lt c.0 i) [
            | inl lt ↦
                let e = ap number ((before c.0 lt).1 ∙ same) in
                let s = smaller c.0 i lt l in
                absurd (omega (arith, e, s))
            | inr ge ↦ elim (cases_eq c.0 i) [
              | inl q ↦ (
                let a = c.1 in omega arith,
                (let e = ap number (ap (λ z. get_or others z []) (sym q) ∙ same) in omega (arith, e)),
              )
              | inr ne ↦ (
                let a = c.1 in omega arith,
                (let e = ap number same in let s = smaller_other i c.0 (omega arith) c.1 in omega (arith, e, s)),
              )
            ]
          ]
      | inr f ↦
          let a = h.few in
          let b = f.0 in
          let few : i < length others = omega arith in
          let s = number_of_before (get_or others i []) (get_or lines i [])
          (sized (get_or others i []) (g.members i [] few) ∙ sym (sized (get_or lines i []) (h.members i [] l)))
          (f.1 i [] few) in
          (few, omega (arith, s))
    ]

    agree : (i : ℕ) → i < length lines → ((j : ℕ) → j < i → Agrees j) → Agrees i
    agree i l before =
        let e = earlier_or_same i l before in
        let s = later i l before e.0 in
        let q = e.1 in (
          e.0,
          same_number (get_or lines i []) (get_or others i [])
              (sized (get_or lines i []) (h.members i [] l) ∙ sym (sized (get_or others i []) (g.members i [] e.0)))
              (omega (arith, s, q)),
        )

    agree_below : (i : ℕ) → i ≤ length lines → (j : ℕ) → j < i → Agrees j
    agree_below zero l j lt = absurd (omega arith)
    agree_below (suc i) l j lt = elim (cases_eq j i) [
      | inl q ↦ subst Agrees (sym q) (agree i (omega arith) (λ d dl. agree_below i (omega arith) d dl))
      | inr ne ↦ agree_below i (omega arith) j (omega arith)
    ]

    pub no_longer : length lines ≤ length others
    no_longer = elim (cases_lt (length others) (length lines)) [
      | inl lt ↦ let a = (agree_below (length lines) (omega arith) (length others) lt).0 in absurd (omega arith)
      | inr ge ↦ ge
    ]

    pub same_at : (i : ℕ) → i < length lines → get_or lines i [] ≡ get_or others i []
    same_at i l = (agree_below (length lines) (omega arith) i l).1

  -- lists of the first k members of a family whose members all have n signs are equal
  pub same_lines : (lines others : List (List Sign)) (more also : Bool) → AreFirst P k lines more
      → AreFirst P k others also → lines ≡ others
  same_lines lines others more also h g =
      let a = no_longer lines others more also h g in
      let b = no_longer others lines also more g h in
      ext_get_or [] lines others (omega arith) (same_at lines others more also h g)

  -- lists of the first k members of a family whose members all have n signs agree on whether there are more
  pub same_more : (lines others : List (List Sign)) (more also : Bool) → AreFirst P k lines more
      → AreFirst P k others also → more ≡ also
  same_more lines others more also h g =
      let q = same_lines lines others more also h g in
      both_ways more also
      (λ t. (let w = h.more.0 t in g.more.1 (w.0, w.1, λ c. w.2 (subst (λ ls. Contains ls w.0) (sym q) c))))
      (λ t. (let w = g.more.0 t in h.more.1 (w.0, w.1, λ c. w.2 (subst (λ ls. Contains ls w.0) q c))))
