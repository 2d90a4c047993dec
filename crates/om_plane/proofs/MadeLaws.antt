-- Vectors that a number gives, as an answer.
--
-- Main results: the vectors that are made begin with the unit vectors (made_units), and are an answer that can be
-- written (made_replies), by what the call says (made_meant).
use Rattle.std.specs.Prelude.{ℕ, ◌≡◌, ◌≤◌, ◌-◌, List, length, refl}
use Rattle.std.proofs.Common.{arith, sym, subst}
use Rattle.std.proofs.lemmas.List.{length-append}
use Rattle.om_vectors.specs.declared.tally.Tally.{Tally}
use Rattle.om_make.specs.Generator.{unit_vectors, vectors_drawn, made_vectors}
use Rattle.om_make.specs.Tallies.{BeginsWithUnits, IsTally, ComesBack}
use Rattle.om_vectors.specs.WholeVectors.{WholeVector}
use Rattle.om_vectors.specs.Realizations.{signs_map}
use Rattle.om_reply.specs.declared.answer.Answer.{Answer}
use Rattle.om_reply.specs.Answers.{IsReply, makes}
use Rattle.om_plane.specs.MadeInputs.{IsMade, made}

pub made_some : (seed count : ℕ) → 1 ≤ length (made_vectors seed count)
made_some seed count = let e = length-append unit_vectors (vectors_drawn seed (count - 3)) in omega arith

-- the answers of `make` are answers to a command
pub made_replies : (seed count : ℕ) (a : Answer) → IsMade seed count a → IsReply a
made_replies seed count a (made t tally back) = made_some seed count

pub made_units : (seed count : ℕ) (vs : List WholeVector) → vs ≡ made_vectors seed count → BeginsWithUnits vs
made_units seed count vs e = rw e refl

pub made_meant : (seed count : ℕ) (vs : List WholeVector) (t : Tally) → vs ≡ made_vectors seed count → IsTally vs t
    → ComesBack (signs_map vs) → IsMade seed count (makes vs t)
made_meant seed count vs t e tally back =
    let P : List WholeVector → Type 0 = λ ws. IsTally ws t in
    let Q : List WholeVector → Type 0 = λ ws. ComesBack (signs_map ws) in
    subst (λ ws. IsMade seed count (makes ws t)) (sym e) (made t (subst P e tally) (subst Q e back))
