use Rattle.std.proofs.Common.{◌∙◌}
use Rattle.om_points.proofs.Codes.{short_back}
use Rattle.om_points.proofs.Sizes.{two_terms_fit, three_terms_fit, read_terms, terms_size, read_back, read_form}
use Rattle.om_points.proofs.Sizes.{coefficient_back}
use Rattle.om_points.proofs.form.Form.value.Goals as goal

pub term-requires : goal.term-requires
term-requires c =
    record { a = coefficient_back c.self.inside.x c.self.invariant.x; x = short_back c.x.result c.x.ensures.size }

pub term-requires-2 : goal.term-requires-2
term-requires-2 c =
    record { a = coefficient_back c.self.inside.y c.self.invariant.y; x = short_back c.y.result c.y.ensures.size }

pub term-requires-3 : goal.term-requires-3
term-requires-3 c =
    record { a = coefficient_back c.self.inside.z c.self.invariant.z; x = short_back c.z.result c.z.ensures.size }

pub overflow_add-result : goal.overflow_add-result
overflow_add-result c = two_terms_fit c.term.result c.term-2.result c.term.ensures.size c.term-2.ensures.size

pub overflow_add-result-2 : goal.overflow_add-result-2
overflow_add-result-2 c = three_terms_fit c.term.result c.term-2.result c.term-3.result c.term.ensures.size
    c.term-2.ensures.size c.term-3.ensures.size

pub returns-clause-value : goal.returns-clause-value
returns-clause-value c =
    let f = read_form _ _ c.self.invariant c.self.view_is in
    read_terms c.term.result c.term-2.result c.term-3.result c.term.ensures.size c.term-2.ensures.size
    c.term-3.ensures.size ∙ simp (
      c.term.ensures.value,
      c.term-2.ensures.value,
      c.term-3.ensures.value,
      f.x,
      read_back _ _ c.x.ensures.size c.x.ensures.value,
      f.y,
      read_back _ _ c.y.ensures.size c.y.ensures.value,
      f.z,
      read_back _ _ c.z.ensures.size c.z.ensures.value,
    )

pub returns-clause-size : goal.returns-clause-size
returns-clause-size c =
    rw (read_terms c.term.result c.term-2.result c.term-3.result c.term.ensures.size c.term-2.ensures.size
    c.term-3.ensures.size)
    (terms_size c.term.result c.term-2.result c.term-3.result c.term.ensures.size c.term-2.ensures.size
    c.term-3.ensures.size)
