-- Lines have one reading: they come to one claim, or to one fault.
--
-- Main results: same_claim, same_fault, no_fault, claim_or_fault
use Rattle.std.proofs.Common.{◌≡◌, ◌⊎◌, inl, inr, ℕ, List, refl, sym, ap, ◌∙◌}
use Rattle.std.specs.Prelude.{Result, Ok, Err}
use Rattle.om_document.specs.declared.code.Code.{Code}
use Rattle.om_text.specs.declared.state.State.TheVariants.{Start}
use Rattle.om_reply.specs.declared.claim.Claim.{Claim}
use Rattle.om_answer.specs.Claim.{IsClaim}
use Rattle.om_answer.specs.ClaimFault.{IsClaimFault}
use Rattle.om_answer.proofs.ClaimSteps.{in_document}
use Rattle.om_answer.proofs.ClaimCourse.{claim_outcome, claim_comes, claim_from, claim_fault_from, claim_fault_comes}

pub same_claim : (ls : List (List ℕ)) (c d : Claim) → IsClaim ls c → IsClaim ls d → c ≡ d
same_claim ls c d a b = let p = claim_comes ls c a in let q = claim_comes ls d b in cc

pub same_fault : (ls : List (List ℕ)) (l m : ℕ) (c e : Code) → IsClaimFault ls l c → IsClaimFault ls m e → (l ≡ m)
    × (c ≡ e)
same_fault ls l m c e a b =
    let p : ◌≡◌ {A = Result Claim (ℕ × Code)} (Err (l, c)) (Err (m, e)) = sym (claim_fault_comes ls l c a)
    ∙ claim_fault_comes ls m e b in
    let q : ◌≡◌ {A = ℕ × Code} (l, c) (m, e) = cc in
    (ap (λ x. x.0) q, ap (λ x. x.1) q)

pub no_fault : (ls : List (List ℕ)) (c : Claim) (l : ℕ) (e : Code) → IsClaim ls c → IsClaimFault ls l e → ⊥
no_fault ls c l e a b = let p = claim_comes ls c a in let q = claim_fault_comes ls l e b in cc

-- lines are a claim, or have a first line at fault and a code for it
pub claim_or_fault : (ls : List (List ℕ)) → ((c : Claim) × IsClaim ls c) ⊎ ((l : ℕ) × (e : Code) × IsClaimFault ls l e)
claim_or_fault ls = at (claim_outcome (in_document Start) 0 ls) refl
  where
    at : (r : Result Claim (ℕ × Code)) → claim_outcome (in_document Start) 0 ls ≡ r → ((c : Claim) × IsClaim ls c)
        ⊎ ((l : ℕ) × (e : Code) × IsClaimFault ls l e)
    at (Ok c) h = inl (c, claim_from ls c h)
    at (Err (l, e)) h = inr (l, e, claim_fault_from ls l e h)
