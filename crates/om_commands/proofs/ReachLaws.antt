-- The answers of `paint`, `hull` and `lexext` are answers to a command.
--
-- Main results: painting_replies, hull_replies, extension_replies.
use Rattle.std.specs.Prelude.{List}
use Rattle.om_chirotope.specs.Map.{SignMap}
use Rattle.om_lexext.specs.declared.signed.Signed.{Signed}
use Rattle.om_oriented.specs.declared.painted.Painted.{Painted}
use Rattle.om_oriented.specs.declared.painted.Painted.TheVariants.{Circuit, Cocircuit}
use Rattle.om_document.specs.declared.document.Document.{Document}
use Rattle.om_reply.specs.declared.answer.Answer.{Answer}
use Rattle.om_words.specs.declared.colouring.Colouring.{Colouring}
use Rattle.om_words.specs.declared.leading.Leading.{Leading}
use Rattle.om_reply.specs.Answers.{IsReply, says}
use Rattle.om_commands.specs.Paintings as paintings
use Rattle.om_commands.specs.Hulls as hulls
use Rattle.om_words.specs.Tasks.{given_list}
use Rattle.om_commands.specs.LexicalExtensions as extensions
use Rattle.om_commands.proofs.KeptLaws.{kept_replies}

painted_replies : (item : Painted) → IsReply (says (paintings.painted_line item))
painted_replies (Circuit X) = tt
painted_replies (Cocircuit Y) = tt

painting_of_map_replies : (c : Colouring) (m : SignMap) (a : Answer) → paintings.IsPaintingOfMap c m a → IsReply a
painting_of_map_replies c m a (paintings.painted item is) = painted_replies item

-- the answers of `paint` are answers to a command
pub painting_replies : (c : Colouring) (d : Document) (a : Answer) → paintings.IsPainting c d a → IsReply a
painting_replies c d a (paintings.other_length other) = tt
painting_replies c d a (paintings.outside count above) = tt
painting_replies c d a (paintings.uncoloured count within not) = tt
painting_replies c d a (paintings.coloured b count within coloured is) =
    kept_replies (paintings.IsPaintingOfMap c) d a (painting_of_map_replies c) is

hull_of_map_replies : (m : SignMap) (a : Answer) → hulls.IsHullOfMap m a → IsReply a
hull_of_map_replies m a (hulls.cyclic X not first) = tt
hull_of_map_replies m a (hulls.acyclic items is size each extreme) = tt

-- the answers of `hull` are answers to a command
pub hull_replies : (d : Document) (a : Answer) → hulls.IsHull d a → IsReply a
hull_replies d a is = kept_replies hulls.IsHullOfMap d a hull_of_map_replies is

extension_of_map_replies : (list : List Signed) (m : SignMap) (a : Answer) → extensions.IsExtensionOfMap list m a
    → IsReply a
extension_of_map_replies list m a (extensions.limited many) = tt
extension_of_map_replies list m a (extensions.extended x e fits is same form axioms) = form

-- the answers of `lexext` are answers to a command
pub extension_replies : (l : Leading) (d : Document) (a : Answer) → extensions.IsLexicalExtension l d a → IsReply a
extension_replies l d a (extensions.outside e above) = tt
extension_replies l d a (extensions.full none most) = tt
extension_replies l d a (extensions.fewer b none few is) =
    kept_replies (extensions.IsExtensionOfMap (given_list l)) d a (extension_of_map_replies (given_list l)) is
