use Rattle.om_answer.proofs.ClaimBeginnings.{begins_bytes, bytes_begin}
use Rattle.om_answer.proofs.laws.claims_begin_as_bytes.Goals as goal

pub returns : goal.returns
returns c = λ bytes k h. (λ b. begins_bytes bytes k h b, λ t. bytes_begin bytes k t)
