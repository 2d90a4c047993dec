-- The pieces of the bytes of one reading, and of the end of the input.
--
-- Main results: loop_outcome, loop_going, loop_ends
use Rattle.std.specs.Prelude.{ℕ, ◌≡◌, ◌+◌, ◌<◌, ◌≤◌, List, ◌∷◌, ◌++◌, Option, length, drop, get_or}
use Rattle.std.proofs.Common.{ap, subst}
use Rattle.std.proofs.lemmas.List.{drop_all}
use Rattle.om_pieces.specs.Making.{Making, made}
use Rattle.om_pieces.proofs.Steps.{bytes_at}
use Rattle.om_reply.specs.declared.status.Status.{Status}
use Rattle.om_reply.specs.declared.status.Status.TheVariants.{Done}
use Rattle.om_classification.specs.declared.progress.Progress.{Progress}
use Rattle.om_classification.specs.declared.request.Request.{Request}
use Rattle.om_classification.specs.Answers.{IsGoing, IsOutcome}
use Rattle.om_classification.proofs.Written.{still}

-- a byte behind which the run goes on
pub loop_going : (r : Request) (all : List (List ℕ)) (now later : Making) (s new : Progress) (bytes rest : List ℕ)
    (i : ℕ)
    (t : Status) (o p q : Option (List ℕ)) → i < length bytes → t ≡ Done
    → IsGoing r all s (made now (drop i bytes ++ rest)) o p
    → ((a : List (List ℕ)) (more : List ℕ) (first : Option (List ℕ))
    → IsGoing r a s (made now (get_or bytes i 0 ∷ more)) first p
    → IsOutcome r a t new (made later more) first q)
    → IsGoing r all new (made later (drop (i + 1) bytes ++ rest)) o q
loop_going r all now later s new bytes rest i t o p q h e g f =
    subst (λ x. IsOutcome r all x new (made later (drop (i + 1) bytes ++ rest)) o q) e
    (f all (drop (i + 1) bytes ++ rest) o (subst (λ l. IsGoing r all s (made now l) o p) (bytes_at bytes rest i h) g))

-- a byte behind which the run ends
pub loop_outcome : (r : Request) (all : List (List ℕ)) (now later : Making) (s new : Progress) (bytes rest : List ℕ)
    (i : ℕ) (t : Status) (o p q : Option (List ℕ)) → i < length bytes → (t ≡ Done → ⊥)
    → IsGoing r all s (made now (drop i bytes ++ rest)) o p
    → ((a : List (List ℕ)) (more : List ℕ) (first : Option (List ℕ))
    → IsGoing r a s (made now (get_or bytes i 0 ∷ more)) first p
    → IsOutcome r a t new (made later more) first q)
    → IsOutcome r all t new (made later rest) o q
loop_outcome r all now later s new bytes rest i t o p q h e g f =
    still r all t new new _ (made later rest) o q e
    (f all (drop (i + 1) bytes ++ rest) o (subst (λ l. IsGoing r all s (made now l) o p) (bytes_at bytes rest i h) g))

pub loop_ends : (r : Request) (all : List (List ℕ)) (now : Making) (s : Progress) (bytes rest : List ℕ) (i : ℕ)
    (o p : Option (List ℕ)) → length bytes ≤ i → IsGoing r all s (made now (drop i bytes ++ rest)) o p
    → IsGoing r all s (made now rest) o p
loop_ends r all now s bytes rest i o p h g =
    subst (λ l. IsGoing r all s (made now l) o p) (ap (λ l. l ++ rest) (drop_all i bytes h)) g
