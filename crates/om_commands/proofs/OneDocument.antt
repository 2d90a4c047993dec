-- What a command answers to a document is determined where what it answers to the chirotope of the document is.
--
-- Main results: paintings_determined, lexical_extensions_determined.
use Rattle.std.specs.Prelude.{refl}
use Rattle.std.proofs.Common.{arith, sym, ◌∙◌}
use Rattle.std.proofs.lemmas.Option.{none-some}
use Rattle.om_chirotope.specs.Map.{SignMap}
use Rattle.om_document.specs.declared.document.Document.{Document}
use Rattle.om_words.specs.declared.colouring.Colouring.{Colouring}
use Rattle.om_words.specs.declared.leading.Leading.{Leading}
use Rattle.om_words.specs.Tasks.{given_list}
use Rattle.om_printing.specs.declared.line.Line.TheVariants as line
use Rattle.om_reply.specs.Determined.{IsDetermined}
use Rattle.om_commands.specs.LexicalExtensions.{IsExtensionOfMap, IsLexicalExtension, outside, full, fewer}
use Rattle.om_commands.specs.Paintings as paintings
use Rattle.om_reply.proofs.Alike.{both_say, one_place}
use Rattle.om_commands.proofs.KeptLaws.{for_kept_chirotope_determined}

-- ---- lexicographic extensions

-- if all answers of `lexext` to each map look alike, then so do those to a document
pub lexical_extensions_determined : (l : Leading) → ((m : SignMap) → IsDetermined (IsExtensionOfMap (given_list l) m))
    → (d : Document) → IsDetermined (IsLexicalExtension l d)
lexical_extensions_determined l determined d x y (outside e p) (outside f q) = one_place _ e f p q
lexical_extensions_determined l determined d x y (outside e p) (full q most) = absurd (none-some e (sym q ∙ p))
lexical_extensions_determined l determined d x y (outside e p) (fewer y' q less also) = absurd (none-some e (sym q ∙ p))
lexical_extensions_determined l determined d x y (full p most) (outside f q) = absurd (none-some f (sym p ∙ q))
lexical_extensions_determined l determined d x y (full p most) (full q most') =
    both_say (line.RefusedFull d.elements) (line.RefusedFull d.elements) refl
lexical_extensions_determined l determined d x y (full p most) (fewer y' q less also) = absurd (omega arith)
lexical_extensions_determined l determined d x y (fewer x' p less means) (outside f q) =
    absurd (none-some f (sym p ∙ q))
lexical_extensions_determined l determined d x y (fewer x' p less means) (full q most) = absurd (omega arith)
lexical_extensions_determined l determined d x y (fewer x' p less means) (fewer y' q less' also) =
    for_kept_chirotope_determined (IsExtensionOfMap (given_list l)) determined d x y means also

-- ---- paintings

module _ (c : Colouring) (determined : (m : SignMap) → IsDetermined (paintings.IsPaintingOfMap c m))
    (d : Document) where
  -- if all answers of `paint` to each map look alike, then so do those to a document
  pub paintings_determined : IsDetermined (paintings.IsPainting c d)
  paintings_determined x y (paintings.other_length p) (paintings.other_length q) =
      both_say (line.RefusedLength c.count) (line.RefusedLength c.count) refl
  paintings_determined x y (paintings.other_length p) (paintings.outside q high) = absurd (p q)
  paintings_determined x y (paintings.other_length p) (paintings.uncoloured q low none) = absurd (p q)
  paintings_determined x y (paintings.other_length p) (paintings.coloured y' q low some also) = absurd (p q)
  paintings_determined x y (paintings.outside p high) (paintings.other_length q) = absurd (q p)
  paintings_determined x y (paintings.outside p high) (paintings.outside q high') =
      both_say (line.RefusedPlace c.e) (line.RefusedPlace c.e) refl
  paintings_determined x y (paintings.outside p high) (paintings.uncoloured q low none) = absurd (omega arith)
  paintings_determined x y (paintings.outside p high) (paintings.coloured y' q low some also) = absurd (omega arith)
  paintings_determined x y (paintings.uncoloured p low none) (paintings.other_length q) = absurd (q p)
  paintings_determined x y (paintings.uncoloured p low none) (paintings.outside q high) = absurd (omega arith)
  paintings_determined x y (paintings.uncoloured p low none) (paintings.uncoloured q low' none') =
      both_say (line.RefusedColour c.e) (line.RefusedColour c.e) refl
  paintings_determined x y (paintings.uncoloured p low none) (paintings.coloured y' q low' some also) =
      absurd (none some)
  paintings_determined x y (paintings.coloured x' p low some means) (paintings.other_length q) = absurd (q p)
  paintings_determined x y (paintings.coloured x' p low some means) (paintings.outside q high) = absurd (omega arith)
  paintings_determined x y (paintings.coloured x' p low some means) (paintings.uncoloured q low' none) =
      absurd (none some)
  paintings_determined x y (paintings.coloured x' p low some means) (paintings.coloured y' q low' some' also) =
      for_kept_chirotope_determined (paintings.IsPaintingOfMap c) determined d x y means also
