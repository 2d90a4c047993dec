use Rattle.std.proofs.Common.{subst, refl, arith, sym, ◌∙◌}
use Rattle.std.proofs.lemmas.Bool.{false≢true}
use Rattle.om_chirotope.specs.Map.{IsWholeMap, IsMap}
use Rattle.om_chirotope.proofs.Tables.{table_whole}
use Rattle.om_chirotope.proofs.Theory.{orthogonal_of_relations}
use Rattle.om_chirotope.proofs.ThreeTerms.{relations_of_test, test_of_orthogonal}
use Rattle.om_chirotope.proofs.three_terms.meets_test.Goals as goal

pub has_relations-requires : goal.has_relations-requires
has_relations-requires c = table_whole c.args.map.now c.args.cocircuits.now c.requires.filled

pub returns-then-has_list_exchange : goal.returns-then-has_list_exchange
returns-then-has_list_exchange c =
    let m = c.args.map.now in
    let whole : IsMap m = record {
      part = (let h = c.requires.rank_high in omega (arith, h));
      whole = (subst
          IsWholeMap c.map.view_is c.map.invariant).whole;
    }
    in (
      λ t. orthogonal_of_relations m
          (relations_of_test m (c.if-has_list_exchange.ensures.0 refl) (c.has_relations.ensures.0 t)),
      λ h. c.has_relations.ensures.1 (test_of_orthogonal m whole h).1,
    )

pub returns-else-has_list_exchange : goal.returns-else-has_list_exchange
returns-else-has_list_exchange c =
    let m = c.args.map.now in
    let whole : IsMap m = record {
      part = (let h = c.requires.rank_high in omega (arith, h));
      whole = (subst
          IsWholeMap c.map.view_is c.map.invariant).whole;
    }
    in (
      λ t. absurd (false≢true (sym c.if-has_list_exchange.false ∙ t)),
      λ h. c.has_list_exchange.ensures.1 (test_of_orthogonal m whole h).0,
    )
