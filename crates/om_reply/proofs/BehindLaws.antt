-- Texts that are put behind others.
--
-- Main results: a piece more behind what stands behind a base (put_behind).
use Rattle.std.specs.Prelude.{ℕ, ◌≡◌, List, ◌++◌}
use Rattle.std.proofs.Common.{ap, ◌∙◌, append_assoc}

pub put_behind : (base old text piece new : List ℕ) → old ≡ base ++ text → new ≡ old ++ piece
    → new ≡ base ++ (text ++ piece)
put_behind base old text piece new before put = put ∙ ap (λ x. x ++ piece) before ∙ append_assoc base text piece
