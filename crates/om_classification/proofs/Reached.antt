-- How far a run has come after a reading.
--
-- Main definitions: Reaches
-- Main results: reach_start, reach_further, reach_stops_later, reach_end, reach_read_fault, reach_no_memory
use Rattle.std.specs.Prelude.{ℕ, ◌≡◌, ◌++◌, List, [], Option, Some, None, IfSome}
use Rattle.std.proofs.Common.{refl, sym, ◌∙◌, subst}
use Rattle.std.specs.Io.KnownBytes.{Consumes, IsAtEnd}
use Rattle.om_pieces.specs.Making.{Making, made, nothing}
use Rattle.om_reply.specs.declared.status.Status.{Status}
use Rattle.om_reply.specs.declared.status.Status.TheVariants.{Done, ReadFault, NoMemory}
use Rattle.om_classification.specs.declared.progress.Progress.{Progress}
use Rattle.om_classification.specs.declared.request.Request.{Request}
use Rattle.om_classification.specs.Answers.{IsGoing, IsOutcome, IsStopped, started}
use Rattle.om_classification.specs.Runs.{ends, HasRun}
use Rattle.om_classification.proofs.Whole.{run_stopped}
use Rattle.om_classification.proofs.Written.{begins, going_first, stopped}

-- how far the run has come in the pieces that are made with all bytes, where the source tells those that it had left
abbrev pub Reaches : Request → Option (List ℕ) → Making → Progress → Option (List ℕ) → Option (List ℕ)
    → Option (List ℕ) → Type 0
Reaches r None now s left old new = Unit {0}
Reaches r (Some all) now s None old new = ⊥
Reaches r (Some all) now s (Some rest) old new = IsGoing r (made (nothing ends) all) s (made now rest) old new

pub reach_start : (r : Request) (m : Making) (s : Progress) (left o : Option (List ℕ)) → m ≡ nothing ends
    → s ≡ started r → Reaches r left m s left o o
reach_start r m s None o e f = tt
reach_start r m s (Some all) o e f =
    subst (λ k. IsGoing r (made (nothing ends) all) s (made k all) o o) (sym e)
    (begins r (made (nothing ends) all) s o f)

pub reach_further : (r : Request) (now later : Making) (s new : Progress) (all left rest : Option (List ℕ))
    (bytes : List ℕ) (t : Status) (o p q : Option (List ℕ)) → Reaches r all now s left o p → Consumes left rest bytes
    → t ≡ Done
    → ((a : List (List ℕ)) (more : List ℕ) (first : Option (List ℕ)) → IsGoing r a s (made now (bytes ++ more)) first p
    → IsOutcome r a t new (made later more) first q)
    → Reaches r all later new rest o q
reach_further r now later s new None left rest bytes t o p q g c e f = tt
reach_further r now later s new (Some all) None rest bytes t o p q g c e f = absurd g
reach_further r now later s new (Some all) (Some left) None bytes t o p q g c e f = absurd c
reach_further r now later s new (Some all) (Some left) (Some rest) bytes t o p q g c e f =
    subst (λ x. IsOutcome r (made (nothing ends) all) x new (made later rest) o q) e
    (f (made (nothing ends) all) rest o (subst (λ l. IsGoing r (made (nothing ends) all) s (made now l) o p) c g))

-- the run ends with what was read last
pub reach_stops_later : (r : Request) (now later : Making) (s new : Progress) (all left rest : Option (List ℕ))
    (bytes : List ℕ) (t : Status) (o p q : Option (List ℕ)) → Reaches r all now s left o p → Consumes left rest bytes
    → (t ≡ Done → ⊥)
    → ((a : List (List ℕ)) (more : List ℕ) (first : Option (List ℕ)) → IsGoing r a s (made now (bytes ++ more)) first p
    → IsOutcome r a t new (made later more) first q)
    → IfSome all (λ bytes. HasRun r bytes t o q)
reach_stops_later r now later s new None left rest bytes t o p q g c e f = tt
reach_stops_later r now later s new (Some all) None rest bytes t o p q g c e f = absurd g
reach_stops_later r now later s new (Some all) (Some left) None bytes t o p q g c e f = absurd c
reach_stops_later r now later s new (Some all) (Some left) (Some rest) bytes t o p q g c e f =
    run_stopped r all t o q (stopped r (made (nothing ends) all) t new (made later rest) o q e
    (f (made (nothing ends) all) rest o (subst (λ l. IsGoing r (made (nothing ends) all) s (made now l) o p) c g)))

-- the run ends with the end of the source
pub reach_end : (r : Request) (now : Making) (s : Progress) (all left rest : Option (List ℕ)) (t : Status)
    (o p q : Option (List ℕ)) → Reaches r all now s left o p → Consumes left rest [] → IsAtEnd rest
    → ((a : List (List ℕ)) (first : Option (List ℕ)) → IsGoing r a s (made now []) first p → IsStopped r a t first q)
    → IfSome all (λ bytes. HasRun r bytes t o q)
reach_end r now s None left rest t o p q g c e f = tt
reach_end r now s (Some all) None rest t o p q g c e f = absurd g
reach_end r now s (Some all) (Some left) None t o p q g c e f = absurd c
reach_end r now s (Some all) (Some left) (Some rest) t o p q g c e f =
    run_stopped r all t o q (f (made (nothing ends) all) o
    (subst (λ l. IsGoing r (made (nothing ends) all) s (made now l) o p) (c ∙ e) g))

-- the run ends between two readings
pub reach_read_fault : (r : Request) (now : Making) (s : Progress) (all left o p : Option (List ℕ))
    → Reaches r all now s left o p → IfSome all (λ bytes. HasRun r bytes ReadFault o p)
reach_read_fault r now s None left o p g = tt
reach_read_fault r now s (Some all) None o p g = absurd g
reach_read_fault r now s (Some all) (Some left) o p g =
    run_stopped r all ReadFault o p (going_first r (made (nothing ends) all) s (made now left) o p g)

pub reach_no_memory : (r : Request) (now : Making) (s : Progress) (all left o p : Option (List ℕ))
    → Reaches r all now s left o p → IfSome all (λ bytes. HasRun r bytes NoMemory o p)
reach_no_memory r now s None left o p g = tt
reach_no_memory r now s (Some all) None o p g = absurd g
reach_no_memory r now s (Some all) (Some left) o p g =
    run_stopped r all NoMemory o p (going_first r (made (nothing ends) all) s (made now left) o p g)

-- the run ends before it has begun
pub reach_nothing : (r : Request) (all o : Option (List ℕ)) → IfSome all (λ bytes. HasRun r bytes NoMemory o o)
reach_nothing r None o = tt
reach_nothing r (Some all) o =
    run_stopped r all NoMemory o o
    (going_first r (made (nothing ends) all) (started r) (made (nothing ends) all) o o
    (begins r (made (nothing ends) all) (started r) o refl))
