use Rattle.std.proofs.lemmas.List.Elements.{All-contains}
use Rattle.om_covers.specs.Classes.{IsSimpleChirotope, IsUniformChirotope}
use Rattle.om_covers.specs.Covers.{IsSimpleHalf, IsUniformHalf}
use Rattle.om_covers.proofs.CoversByLines.{cover_from_lines}
use Rattle.om_covers.proofs.laws.cover_by_lines.Goals as goal

pub returns-clause-simple : goal.returns-clause-simple
returns-clause-simple c = λ n classes next complete cover. cover_from_lines (IsSimpleHalf n) n classes next
    (record {
      rank = λ c k. (All-contains (IsSimpleChirotope n) classes c complete.members k).rank;
      elements = λ c k. (All-contains (IsSimpleChirotope n) classes c complete.members k).elements;
    }) cover

pub returns-clause-uniform : goal.returns-clause-uniform
returns-clause-uniform c = λ n classes next complete cover. cover_from_lines IsUniformHalf n classes next
    (record {
      rank = λ c k. (All-contains (IsUniformChirotope n) classes c complete.members k).rank;
      elements = λ c k. (All-contains (IsUniformChirotope n) classes c complete.members k).elements;
    }) cover
