use Rattle.std.proofs.Common.{List, refl}
use Rattle.om_chirotope.specs.Map.{SignMap, IsMap}
use Rattle.om_chirotope.specs.Chirotope.{IsChirotope}
use Rattle.om_localize.specs.Extensions.{IsExtension}
use Rattle.om_lexext.specs.declared.signed.Signed.{Signed}
use Rattle.om_lexext.specs.Lexicographic.{AreEntries, IsLexicographicExtension}
use Rattle.om_lexext.proofs.Extensions.{extensions_meet}
use Rattle.om_lexext.proofs.laws.extensions_of_rank_3.Goals as goal

is_extension : (m x : SignMap) (list : List Signed) → IsChirotope m → AreEntries m.elements list → IsMap x
    → IsLexicographicExtension m list x → IsExtension m x
is_extension m x list chirotope entries w e = record {
  rank = e.rank;
  elements = e.elements;
  agrees = e.agrees;
  chirotope = extensions_meet m x list chirotope entries w e;
}

pub returns : goal.returns
returns c = record {
  extension = λ m x list r chirotope entries w e. is_extension m x list chirotope entries w e;
  signature = λ m x list r chirotope entries w e. (x, is_extension m x list chirotope entries w e, refl);
}
