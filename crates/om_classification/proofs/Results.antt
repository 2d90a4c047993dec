-- Results, and texts that are put behind others.
--
-- Main results: ok_both, behind
use Rattle.std.specs.Prelude.{ℕ, ◌≡◌, ◌++◌, List, Result, Ok, Err, IfOk, OnOk}
use Rattle.std.proofs.Common.{sym, ap, ◌∙◌, append_assoc}

-- what two facts on a result say together
pub ok_both : {A E : Type 0} (result : Result A E) (P Q R : A → Type 0) → ((a : A) → P a → Q a → R a)
    → IfOk result P → IfOk result Q → IfOk result R
ok_both (Ok a) P Q R f p q = f a p q
ok_both (Err e) P Q R f p q = tt

-- two parts that are put behind a text, one after the other, are the whole
pub behind : {A E : Type 0} (result : Result A E) (old mid new head tail whole : List ℕ) → mid ≡ old ++ head
    → whole ≡ head ++ tail → OnOk result (new ≡ mid ++ tail) → OnOk result (new ≡ old ++ whole)
behind (Ok a) old mid new head tail whole m w e =
    e ∙ ap (λ x. x ++ tail) m ∙ append_assoc old head tail ∙ ap (λ x. old ++ x) (sym w)
behind (Err e) old mid new head tail whole m w k = tt
