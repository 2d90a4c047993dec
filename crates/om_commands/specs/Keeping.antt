-- A document that is held against the axioms of its kind and kept whole. It is no part of the meaning.
use Rattle.std.specs.Prelude.{◌≡◌, Result, Ok, Err}
use Rattle.om_document.specs.declared.document.Document.{Document}
use Rattle.om_representation.specs.Axioms.{MeetsAxioms, IsRefused}
use Rattle.om_representation.specs.declared.unrepresented.Unrepresented.{Unrepresented}
use Rattle.om_representation.specs.declared.unrepresented.Unrepresented.TheVariants as unrepresented
use Rattle.om_commands.specs.declared.keeping.Unkept.{Unkept}
use Rattle.om_commands.specs.declared.keeping.Unkept.TheVariants.{Refused, Memory}

-- it comes back as it was if it meets its axioms, and else the first violated instance, or memory ran out
abbrev pub IsKept : Document → Result Document Unkept → Type 0
IsKept d (Ok kept) = (kept ≡ d) × MeetsAxioms d
IsKept d (Err (Refused why)) = IsRefused d why
IsKept d (Err Memory) = Unit {0}

-- why a document isn't kept that gives no oriented matroid and isn't flat
abbrev pub unkept : Unrepresented → Unkept
unkept (unrepresented.Refused why) = Refused why
unkept _ = Memory
