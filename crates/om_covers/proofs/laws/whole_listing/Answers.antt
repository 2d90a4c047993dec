use Rattle.om_localize.specs.Extensions.{IsSignature}
use Rattle.om_covers.proofs.Listings as laws
use Rattle.om_covers.proofs.laws.whole_listing.Goals as goal

pub returns : goal.returns
returns c = λ m k lines signs h s. laws.whole_listing (IsSignature m) k lines h signs s
