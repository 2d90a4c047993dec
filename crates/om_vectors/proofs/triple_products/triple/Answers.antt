use Rattle.std.proofs.Common.{sym, ◌∙◌}
use Rattle.om_vectors.proofs.Identities.{by_last}
use Rattle.om_vectors.proofs.Sizes.{two_terms, three_terms, read_sum, read_back, coordinate_back}
use Rattle.om_vectors.proofs.triple_products.triple.Goals as goal

pub term-requires : goal.term-requires
term-requires c =
    record {
      x = coordinate_back c.x.result c.x.ensures.size;
      a = coordinate_back c.y-by.result c.y-by.ensures.size;
      d = coordinate_back c.z-cz.result c.z-cz.ensures.size;
      b = coordinate_back c.z-bz.result c.z-bz.ensures.size;
      c = coordinate_back c.y-cy.result c.y-cy.ensures.size;
    }

pub term-requires-2 : goal.term-requires-2
term-requires-2 c =
    record {
      x = coordinate_back c.y.result c.y.ensures.size;
      a = coordinate_back c.z-bz.result c.z-bz.ensures.size;
      d = coordinate_back c.x-cx.result c.x-cx.ensures.size;
      b = coordinate_back c.x-bx.result c.x-bx.ensures.size;
      c = coordinate_back c.z-cz.result c.z-cz.ensures.size;
    }

pub term-requires-3 : goal.term-requires-3
term-requires-3 c =
    record {
      x = coordinate_back c.z.result c.z.ensures.size;
      a = coordinate_back c.x-bx.result c.x-bx.ensures.size;
      d = coordinate_back c.y-cy.result c.y-cy.ensures.size;
      b = coordinate_back c.y-by.result c.y-by.ensures.size;
      c = coordinate_back c.x-cx.result c.x-cx.ensures.size;
    }

pub overflow_add-result : goal.overflow_add-result
overflow_add-result c = two_terms c.term.result c.term-2.result c.term.ensures.size c.term-2.ensures.size

pub overflow_add-result-2 : goal.overflow_add-result-2
overflow_add-result-2 c =
    three_terms c.term.result c.term-2.result c.term-3.result c.term.ensures.size c.term-2.ensures.size
    c.term-3.ensures.size

pub returns : goal.returns
returns c =
    read_sum c.term.result c.term-2.result c.term-3.result c.term.ensures.size c.term-2.ensures.size
    c.term-3.ensures.size ∙ simp (
      c.term.ensures.value,
      c.term-2.ensures.value,
      c.term-3.ensures.value,
      read_back _ _ c.x-bx.ensures.size c.x-bx.ensures.value,
      read_back _ _ c.y-by.ensures.size c.y-by.ensures.value,
      read_back _ _ c.z-bz.ensures.size c.z-bz.ensures.value,
      read_back _ _ c.x-cx.ensures.size c.x-cx.ensures.value,
      read_back _ _ c.y-cy.ensures.size c.y-cy.ensures.value,
      read_back _ _ c.z-cz.ensures.size c.z-cz.ensures.value,
      read_back _ _ c.x.ensures.size c.x.ensures.value,
      read_back _ _ c.y.ensures.size c.y.ensures.value,
      read_back _ _ c.z.ensures.size c.z.ensures.value,
    ) (sym (by_last c.args.a c.args.b c.args.c))
