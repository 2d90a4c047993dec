-- The list of the extensions of a chirotope by one element.
use Rattle.std.specs.Prelude.{ℕ, ◌≡◌, ◌≢◌, ◌<◌}
use Rattle.om_signs.specs.declared.limits.TheConstants.{MAX_ELEMENTS}
use Rattle.om_chirotope.specs.Map.{SignMap}
use Rattle.om_localize.specs.declared.listing.Listing.{Listing}
use Rattle.om_localize.specs.Extensions.{IsSignature}
use Rattle.om_localize.specs.Listings.{AreFirst}
use Rattle.om_document.specs.declared.document.Document.{Document}
use Rattle.om_printing.specs.declared.line.Line.TheVariants as line
use Rattle.om_reply.specs.declared.answer.Answer.{Answer}
use Rattle.om_reply.specs.Answers.{says, lists_extensions}
use Rattle.om_representation.specs.RankThree.{IsForChirotope}

-- the first extensions of a map
pub data AreExtensionsOfMap (first : ℕ) (m : SignMap) : Answer → Type 0 where
  -- the rank isn't 3, and extensions are listed in rank 3
  other_rank : m.rank ≢ 3 → AreExtensionsOfMap first m (says (line.RefusedNotrank3 m.rank))
  -- the map has the greatest number of elements already
  full : m.rank ≡ 3 → m.elements ≡ MAX_ELEMENTS → AreExtensionsOfMap first m (says (line.RefusedFull m.elements))
  -- the first of their signatures in lexicographic order, each once, or all if there are fewer, and whether a
  -- further one exists
  listed : (l : Listing) → m.rank ≡ 3 → m.elements < MAX_ELEMENTS → AreFirst (IsSignature m) first l.lines l.more
      → AreExtensionsOfMap first m (lists_extensions m.elements l)

-- the first extensions of the chirotope of a document
abbrev pub AreExtensions : ℕ → Document → Answer → Type 0
AreExtensions first d answer = IsForChirotope (AreExtensionsOfMap first) d answer
