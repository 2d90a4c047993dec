-- The flip of a triple: the chirotope with the sign of three elements negated.
use Rattle.std.specs.Prelude.{ℕ, ◌≡◌, ◌≢◌, List, [], ◌∷◌, Some, None}
use Rattle.om_signs.specs.declared.sign.Sign.TheVariants.{Zero}
use Rattle.om_subsets.specs.Members.{Chosen}
use Rattle.om_chirotope.specs.Map.{SignMap, chi_of}
use Rattle.om_chirotope.specs.Chirotope.{IsFirstViolated}
use Rattle.om_mutate.specs.declared.flip_refused.FlipRefused.{FlipRefused}
use Rattle.om_mutate.specs.declared.flip_refused.FlipRefused.TheVariants as why
use Rattle.om_mutate.specs.Mutations.{flipped, IsMutation}
use Rattle.om_document.specs.declared.document.Document.{Document}
use Rattle.om_document.specs.Form.{IsInForm}
use Rattle.om_printing.specs.declared.line.Line.{Line}
use Rattle.om_printing.specs.declared.line.Line.TheVariants as line
use Rattle.om_reply.specs.declared.answer.Answer.{Answer}
use Rattle.om_reply.specs.Answers.{says, shows}
use Rattle.om_reply.specs.Above.{first_above}
use Rattle.om_representation.specs.Documents.{map_document}
use Rattle.om_representation.specs.RankThree.{IsForChirotope}

-- the list of three elements
abbrev pub triple_of : ℕ → ℕ → ℕ → List ℕ
triple_of a b c = a ∷ b ∷ c ∷ []

-- the line that says why a triple can't be flipped
abbrev pub flip_refusal : FlipRefused → Line
flip_refusal (why.NotRank3 r) = line.RefusedNotrank3 r
flip_refusal why.NotBasis = line.RefusedNotbasis
flip_refusal (why.NotMutation s a) = line.RefusedNotmutation s a

-- the flip of a triple of a map
pub data IsFlipOfMap (t : List ℕ) (m : SignMap) : Answer → Type 0 where
  -- flips are of rank 3
  other_rank : m.rank ≢ 3 → IsFlipOfMap t m (says (line.RefusedNotrank3 m.rank))
  -- its sign is zero
  no_basis : m.rank ≡ 3 → chi_of m t ≡ Zero → IsFlipOfMap t m (says line.RefusedNotbasis)
  -- with its sign turned the map breaks the axioms, and this pair is the first one
  no_mutation : (s a : Chosen) → m.rank ≡ 3 → chi_of m t ≢ Zero → IsFirstViolated (flipped m t) s a
      → IsFlipOfMap t m (says (line.RefusedNotmutation s a))
  -- it is a mutation: the document of the map with its sign turned
  turned : (e : Document) → m.rank ≡ 3 → IsMutation m t → e ≡ map_document (flipped m t) → IsInForm e
      → IsFlipOfMap t m (shows e)

-- the flip of three elements of a document
pub data IsFlip (a b c : ℕ) (d : Document) : Answer → Type 0 where
  -- the first of them that is above the number of elements
  outside : (e : ℕ) → first_above d.elements (triple_of a b c) ≡ Some e → IsFlip a b c d (says (line.RefusedPlace e))
  -- that of the chirotope of the document
  inside : (answer : Answer) → first_above d.elements (triple_of a b c) ≡ None
      → IsForChirotope (IsFlipOfMap (triple_of a b c)) d answer → IsFlip a b c d answer
