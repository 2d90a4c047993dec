-- What deletion and contraction return where there is more than one element.
--
-- Main results: no chirotope and no error that memory ran out names the last element (none_of_ok, none_of_memory).
use Rattle.std.specs.Prelude.{ℕ, ◌≡◌, ◌≢◌, ◌↔◌, Result, Ok, Err, IsErrOf, IsErrAnd}
use Rattle.std.proofs.Common.{sym, ◌∙◌}
use Rattle.om_signs.proofs.Results.{err-ne-ok}
use Rattle.om_minors.specs.declared.minor_error.MinorError.{MinorError}
use Rattle.om_minors.specs.declared.minor_error.MinorError.TheVariants.{LastElement, Memory}

-- a result is no error that names the last element, for n elements, of which the code counts k
pub none_of_ok : {T : Type 0} (d : T) (n k : ℕ) → k ≡ n → k ≢ 1 → IsErrOf {T = T} (Ok d) LastElement ↔ (n ≡ 1)
none_of_ok d n k is several =
    (λ f. absurd (err-ne-ok LastElement d (sym f)), λ one. absurd (several (is ∙ one)))

-- nor is an error that memory ran out
pub none_of_memory : {T : Type 0} (x : Result T MinorError) (n k : ℕ) → IsErrAnd x (λ e. e ≡ Memory) → k ≡ n → k ≢ 1
    → IsErrOf x LastElement ↔ (n ≡ 1)
none_of_memory (Ok y) n k h is several = absurd h
none_of_memory (Err e) n k h is several = (λ f. absurd cc, λ one. absurd (several (is ∙ one)))
