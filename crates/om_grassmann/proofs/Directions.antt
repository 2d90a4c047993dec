-- The two directions of an equation.
--
-- Main results: exchanged_lawful, that a lawful equation is lawful with its sides exchanged; exchanged_strict, that a
-- strict statement isn't.
use Rattle.std.specs.Prelude.{ℕ, ◌≡◌, ◌+◌, ◌-◌, Bool, true, false}
use Rattle.std.proofs.Common.{sym, ◌∙◌, ap, subst, arith}
use Rattle.om_signs.specs.declared.sign.Sign.{Sign}
use Rattle.om_signs.specs.Sign.{opposite}
use Rattle.om_signs.proofs.SignLaws.{opposite_swap, own_opposite}
use Rattle.om_chirotope.specs.Map.{SignMap}
use Rattle.om_grassmann.specs.declared.statement.Statement.{Statement}
use Rattle.om_grassmann.specs.Terms.{term, third}
use Rattle.om_grassmann.specs.Statements.{IsPlaced, HasSigns, IsLawful, exchanged}

same_third : (i j : ℕ) → third i j ≡ third j i
same_third i j = ap (λ k. 6 - k) (let e : i + j ≡ j + i = omega arith in e)

-- the signs of an equation, from the other side
equal_signs : (strict : Bool) (s t b : Sign) → strict ≡ false → HasSigns strict s t b → HasSigns strict b t s
equal_signs true s t b q h = absurd (cc)
equal_signs false s t b q h =
    let o = opposite_swap b s h.opposed in
    record { nonzero = λ z. h.nonzero (o ∙ ap opposite z); opposed = o; rest = h.rest }

-- the signs of a strict statement aren't so from the other side
strict_signs : (strict : Bool) (s t b : Sign) → strict ≡ true → HasSigns strict s t b → HasSigns strict b t s → ⊥
strict_signs false s t b q h g = absurd (cc)
strict_signs true s t b q h g = h.nonzero (own_opposite s (sym h.rest ∙ g.rest ∙ h.opposed))

-- the elements stay
still_placed : (n : ℕ) (st : Statement) → IsPlaced n st → IsPlaced n (exchanged st)
still_placed n st p = record {
  a = p.a;
  b = p.b;
  b_c = p.b_c;
  c_d = p.c_d;
  d_e = p.d_e;
  e = p.e;
  apart = record { b = p.apart.b; c = p.apart.c; d = p.apart.d; e = p.apart.e };
}

pub exchanged_lawful : (m : SignMap) (st : Statement) → IsLawful m st → st.strict ≡ false → IsLawful m (exchanged st)
exchanged_lawful m st h q = record {
  rank = h.rank;
  placed = still_placed m.elements st h.placed;
  two = record { first = h.two.second; second = h.two.first; differ = λ e. h.two.differ (sym e) };
  signs = subst (λ k. HasSigns st.strict (term m st st.big) (term m st k) (term m st st.small))
      (same_third st.small st.big)
      (equal_signs st.strict (term m st st.small) (term m st (third st.small st.big)) (term m st st.big) q h.signs);
}

pub exchanged_strict : (m : SignMap) (st : Statement) → IsLawful m st → st.strict ≡ true → IsLawful m (exchanged st) → ⊥
exchanged_strict m st h q g =
    strict_signs st.strict (term m st st.small) (term m st (third st.small st.big)) (term m st st.big) q h.signs
    (subst (λ k. HasSigns st.strict (term m st st.big) (term m st k) (term m st st.small)) (same_third st.big st.small)
    g.signs)
