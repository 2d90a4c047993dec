use Rattle.std.proofs.Common.{ℕ, ◌≡◌, ◌≢◌, ◌+◌, ◌*◌, ◌↔◌, List, arith, refl, sym, ◌∙◌, subst, length, map}
use Rattle.std.proofs.lemmas.List.{get_or-map}
use Rattle.std.proofs.lemmas.Nat.Bits.{bit_at-zero}
use Rattle.om_signs.specs.declared.sign.Sign.{Sign}
use Rattle.om_signs.specs.declared.sign.Sign.TheVariants.{Minus, Zero, Plus}
use Rattle.om_signs.specs.Sign.{opposite, product, is_plus, is_minus}
use Rattle.om_signs.specs.SignVec.{at, IsMaskOf}
use Rattle.om_chirotope.proofs.three_terms.scaled.Goals as goal

-- the mask of a sign in a vector is that of another sign in its image
mask_of_image : (f : Sign → Sign) (s t : Sign) (xs : List Sign) (mask : ℕ) → ((u : Sign) → (u ≡ s) ↔ (f u ≡ t))
    → IsMaskOf (length xs) (λ i. at xs i ≡ s) mask → IsMaskOf (length xs) (λ i. at (map f xs) i ≡ t) mask
mask_of_image f s t xs mask same h = record {
  within = h.within;
  holds = λ i l.
      let q = get_or-map f xs i Zero Zero l in (
        λ o. q ∙ (same (at xs i)).0 ((h.holds i l).0 o),
        λ z. (h.holds i l).1 ((same (at xs i)).1 (sym q ∙ z)),
      );
}

no_mask : (xs : List Sign) (t : Sign) (mask : ℕ) (P : ℕ → Type 0) → t ≢ Zero → IsMaskOf (length xs) P mask
    → IsMaskOf (length xs) (λ i. at (map (product Zero) xs) i ≡ t) 0
no_mask xs t mask P ne h = record {
  within = (let w = h.within in omega (arith, w));
  holds = λ i l.
      let z = bit_at-zero i in
      (λ o. absurd (omega (arith, o, z)), λ e. absurd (ne (sym e ∙ get_or-map (product Zero) xs i Zero Zero l)));
}

turns : (t u : Sign) → (u ≡ opposite t) ↔ (product Minus u ≡ t)
turns Minus Minus = (λ e. cc, λ e. cc)
turns Minus Zero = (λ e. cc, λ e. cc)
turns Minus Plus = (λ e. refl, λ e. refl)
turns Zero Minus = (λ e. cc, λ e. cc)
turns Zero Zero = (λ e. refl, λ e. refl)
turns Zero Plus = (λ e. cc, λ e. cc)
turns Plus Minus = (λ e. refl, λ e. refl)
turns Plus Zero = (λ e. cc, λ e. cc)
turns Plus Plus = (λ e. cc, λ e. cc)

-- the mask of a sign t in the vector with each sign multiplied by s
scaled_mask : (s t : Sign) (xs : List Sign) (same turned mine other : ℕ) → same ≡ is_plus s → turned ≡ is_minus s
    → t ≢ Zero → IsMaskOf (length xs) (λ i. at xs i ≡ t) mine → IsMaskOf (length xs) (λ i. at xs i ≡ opposite t) other
    → IsMaskOf (length xs) (λ i. at (map (product s) xs) i ≡ t) (same * mine + turned * other)
scaled_mask Minus t xs same turned mine other p m ne h k =
    let e : other ≡ same * mine + turned * other = rw (p, m) (omega arith) in
    subst (IsMaskOf (length xs) (λ i. at (map (product Minus) xs) i ≡ t)) e
    (mask_of_image (product Minus) (opposite t) t xs other (turns t) k)
scaled_mask Zero t xs same turned mine other p m ne h k =
    let e : 0 ≡ same * mine + turned * other = rw (p, m) (omega arith) in
    subst (IsMaskOf (length xs) (λ i. at (map (product Zero) xs) i ≡ t)) e (no_mask xs t mine _ ne h)
scaled_mask Plus t xs same turned mine other p m ne h k =
    let e : mine ≡ same * mine + turned * other = rw (p, m) (omega arith) in
    subst (IsMaskOf (length xs) (λ i. at (map (product Plus) xs) i ≡ t)) e
    (mask_of_image (product Plus) t t xs mine (λ u. (λ q. q, λ q. q)) h)

pub returns-clause-plus : goal.returns-clause-plus
returns-clause-plus c =
    scaled_mask c.args.s Plus c.args.vector _ _ _ _ c.plus_bit-same.ensures c.minus_bit-turned.ensures (λ e. cc)
    c.plus.ensures c.minus.ensures

pub returns-clause-minus : goal.returns-clause-minus
returns-clause-minus c =
    scaled_mask c.args.s Minus c.args.vector _ _ _ _ c.plus_bit-same.ensures c.minus_bit-turned.ensures (λ e. cc)
    c.minus-2.ensures c.plus-2.ensures
