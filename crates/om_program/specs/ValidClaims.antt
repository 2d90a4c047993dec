-- What `decide` answers is a claim that `check` finds valid, or a limit that has no certificate.
use Rattle.std.specs.Prelude.{ℕ, ◌≡◌, List, [], ◌∷◌, ◌++◌, codes}
use Rattle.om_chirotope.specs.Map.{SignMap}
use Rattle.om_certificate.specs.declared.verdict.Verdict.{Verdict}
use Rattle.om_certificate.specs.declared.verdict.Verdict.TheVariants as verdict
use Rattle.om_printing.specs.declared.line.Line.{Line}
use Rattle.om_printing.specs.declared.line.Line.TheVariants.{RefusedNocertificate}
use Rattle.om_printing.specs.Texts.{line_text}
use Rattle.om_reply.specs.VerdictText.{verdict_name, verdict_text}
use Rattle.om_reply.specs.Answers.{says, judges}
use Rattle.om_program.specs.Meaning.{Means}

-- the verdict is a limit
abbrev pub IsLimit : Verdict → Type 0
IsLimit (verdict.Limit end unfound) = Unit {0}
IsLimit _ = ⊥

-- `check` answers `valid` to these bytes, with the word of the verdict
pub record IsFoundValid (bytes : List ℕ) (v : Verdict) : Type 0 where
  pub line : Line
  pub word : line_text line ≡ codes "valid " ++ verdict_name v ++ 10 ∷ []
  pub means : Means (codes "check" ∷ []) bytes (says line)

-- `check` finds the text of each verdict of `decide`, other than a limit, valid
abbrev pub VerdictsAreFoundValid : Type 0
VerdictsAreFoundValid = (options : List (List ℕ)) (bytes : List ℕ) (m : SignMap) (v : Verdict)
    → Means (codes "decide" ∷ options) bytes (judges m v) → (IsLimit v → ⊥) → IsFoundValid (verdict_text m v) v

-- to the text of each limit that `decide` answers, `check` answers that it has no certificate
abbrev pub LimitsAreFoundWithoutCertificate : Type 0
LimitsAreFoundWithoutCertificate = (options : List (List ℕ)) (bytes : List ℕ) (m : SignMap) (v : Verdict)
    → Means (codes "decide" ∷ options) bytes (judges m v) → IsLimit v
    → Means (codes "check" ∷ []) (verdict_text m v) (says RefusedNocertificate)
