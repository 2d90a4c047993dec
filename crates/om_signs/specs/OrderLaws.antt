-- The lexicographic order of sign vectors is a total order, in which only equal vectors tie.
--
-- Main results: sign_order-total, lexicographic-total, same_from_order, order_of_same, same_from_masks, matches_eq
use Rattle.std.specs.Prelude.{ℕ, ◌≡◌, ◌+◌, ◌*◌, ◌<◌, List, [], ◌∷◌, length, Bool, true, nat_eq, refl}
use Rattle.std.specs.Cmp.{IsTotalOrder, on_total, nat_cmp_total, tied_itself, both_ways, Equal-is}
use Rattle.std.specs.Cmp.Lexicographic.{lists_total}
use Rattle.std.specs.Ordering.{ordering_then, is_eq}
use Rattle.std.specs.declared.cmp.Ordering.{Ordering}
use Rattle.std.specs.declared.cmp.Ordering.TheVariants.{Less, Equal, Greater}
use Rattle.std.proofs.Common.{sym, ◌∙◌, ap, arith, ◌&&◌}
use Rattle.std.proofs.lemmas.Bool.{eq-eqb}
use Rattle.om_signs.specs.declared.sign.Sign.{Sign}
use Rattle.om_signs.specs.declared.sign.Sign.TheVariants.{Minus, Zero, Plus}
use Rattle.om_signs.specs.Sign.{is_plus, is_minus}
use Rattle.om_signs.specs.Masks.{plus_mask, minus_mask, is_plus-lt, is_minus-lt}
use Rattle.om_signs.specs.Order.{sign_rank, sign_order, lexicographic}

pub sign_order-total : IsTotalOrder sign_order
sign_order-total = on_total sign_rank nat_cmp_total

pub lexicographic-total : IsTotalOrder lexicographic
lexicographic-total = lists_total sign_order-total

-- ---- ties

pub same_sign : (s t : Sign) → sign_order s t ≡ Equal → s ≡ t
same_sign Minus Minus e = refl
same_sign Minus Zero e = cc
same_sign Minus Plus e = cc
same_sign Zero Minus e = cc
same_sign Zero Zero e = refl
same_sign Zero Plus e = cc
same_sign Plus Minus e = cc
same_sign Plus Zero e = cc
same_sign Plus Plus e = refl

-- a statement on two signs, from all nine pairs
pub by_pairs : (P : Sign → Sign → Type 0) (s t : Sign) → P Minus Minus → P Minus Zero → P Minus Plus → P Zero Minus
    → P Zero Zero → P Zero Plus → P Plus Minus → P Plus Zero → P Plus Plus → P s t
by_pairs P Minus Minus mm mz mp zm zz zp pm pz pp = mm
by_pairs P Minus Zero mm mz mp zm zz zp pm pz pp = mz
by_pairs P Minus Plus mm mz mp zm zz zp pm pz pp = mp
by_pairs P Zero Minus mm mz mp zm zz zp pm pz pp = zm
by_pairs P Zero Zero mm mz mp zm zz zp pm pz pp = zz
by_pairs P Zero Plus mm mz mp zm zz zp pm pz pp = zp
by_pairs P Plus Minus mm mz mp zm zz zp pm pz pp = pm
by_pairs P Plus Zero mm mz mp zm zz zp pm pz pp = pz
by_pairs P Plus Plus mm mz mp zm zz zp pm pz pp = pp

both_tied : (r s : Ordering) → ordering_then r s ≡ Equal → (r ≡ Equal) × (s ≡ Equal)
both_tied Less s e = cc
both_tied Equal s e = (refl, e)
both_tied Greater s e = cc

pub same_from_order : (xs ys : List Sign) → lexicographic xs ys ≡ Equal → xs ≡ ys
same_from_order [] [] e = refl
same_from_order [] (y ∷ ys) e = cc
same_from_order (x ∷ xs) [] e = cc
same_from_order (x ∷ xs) (y ∷ ys) e =
    let h = both_tied (sign_order x y) (lexicographic xs ys) e in
    let s = same_sign x y h.0 in
    let t = same_from_order xs ys h.1 in
    λ i. s i ∷ t i

pub order_of_same : (xs ys : List Sign) → xs ≡ ys → lexicographic xs ys ≡ Equal
order_of_same xs ys e = ap (λ zs. lexicographic xs zs) (sym e) ∙ tied_itself lexicographic-total xs

-- ---- the masks and the length determine the signs

pub sign_from_bits : (s t : Sign) → is_plus s ≡ is_plus t → is_minus s ≡ is_minus t → s ≡ t
sign_from_bits Minus Minus p m = refl
sign_from_bits Minus Zero p m = cc
sign_from_bits Minus Plus p m = cc
sign_from_bits Zero Minus p m = cc
sign_from_bits Zero Zero p m = refl
sign_from_bits Zero Plus p m = cc
sign_from_bits Plus Minus p m = cc
sign_from_bits Plus Zero p m = cc
sign_from_bits Plus Plus p m = refl

-- a mask is determined by its lowest bit and the rest
parted : (a b c d : ℕ) → a < 2 → c < 2 → a + 2 * b ≡ c + 2 * d → (a ≡ c) × (b ≡ d)
parted a b c d la lc e = (omega arith, omega arith)

pub same_from_masks : (xs ys : List Sign) → plus_mask xs ≡ plus_mask ys → minus_mask xs ≡ minus_mask ys
    → length xs ≡ length ys → xs ≡ ys
same_from_masks [] [] p m n = refl
same_from_masks [] (y ∷ ys) p m n = absurd (omega arith)
same_from_masks (x ∷ xs) [] p m n = absurd (omega arith)
same_from_masks (x ∷ xs) (y ∷ ys) p m n =
    let hp = parted (is_plus x) (plus_mask xs) (is_plus y) (plus_mask ys) (is_plus-lt x) (is_plus-lt y) p in
    let hm = parted (is_minus x) (minus_mask xs) (is_minus y) (minus_mask ys) (is_minus-lt x) (is_minus-lt y) m in
    let s = sign_from_bits x y hp.0 hm.0 in
    let t = same_from_masks xs ys hp.1 hm.1 (omega arith) in
    λ i. s i ∷ t i

-- the test that `==` of two sign vectors makes of their masks and lengths
abbrev pub same_masks : List Sign → List Sign → Bool
same_masks xs ys = nat_eq (plus_mask xs) (plus_mask ys)
    && (nat_eq (minus_mask xs) (minus_mask ys) && nat_eq (length xs) (length ys))

three : (a b c d e f : ℕ) → (nat_eq a b && (nat_eq c d && nat_eq e f)) ≡ true → (a ≡ b) × (c ≡ d) × (e ≡ f)
three a b c d e f h = grind arith

itself : (xs : List Sign) → same_masks xs xs ≡ true
itself xs =
    rw (
      eq-eqb (plus_mask xs) (plus_mask xs) refl,
      eq-eqb (minus_mask xs) (minus_mask xs) refl,
      eq-eqb (length xs) (length xs) refl,
    ) refl

pub matches_eq : (xs ys : List Sign) → same_masks xs ys ≡ is_eq (lexicographic xs ys)
matches_eq xs ys = both_ways (same_masks xs ys) (is_eq (lexicographic xs ys))
    (λ h. let t = three _ _ _ _ _ _ h in
    let e = same_from_masks xs ys t.0 t.1 t.2 in
    ap (λ zs. is_eq (lexicographic xs zs)) (sym e) ∙ ap is_eq (tied_itself lexicographic-total xs))
    (λ h. let e = same_from_order xs ys ((Equal-is (lexicographic xs ys)).0 h) in
    ap (λ zs. same_masks xs zs) (sym e) ∙ itself xs)
