use Rattle.std.proofs.Common.{◌∙◌}
use Rattle.om_points.proofs.Codes.{short_back}
use Rattle.om_points.proofs.Forms.{of_minors, refused}
use Rattle.om_points.proofs.Sizes.{read_back, read_minor, minor_back}
use Rattle.om_points.proofs.form.Form.of.Goals as goal

pub minor-requires : goal.minor-requires
minor-requires c =
    record {
      a = short_back c.y.result c.y.ensures.size;
      b = short_back c.z-2.result c.z-2.ensures.size;
      c = short_back c.y-2.result c.y-2.ensures.size;
      d = short_back c.z.result c.z.ensures.size;
    }

pub minor-requires-2 : goal.minor-requires-2
minor-requires-2 c =
    record {
      a = short_back c.z-3.result c.z-3.ensures.size;
      b = short_back c.x-2.result c.x-2.ensures.size;
      c = short_back c.z-4.result c.z-4.ensures.size;
      d = short_back c.x.result c.x.ensures.size;
    }

pub minor-requires-3 : goal.minor-requires-3
minor-requires-3 c =
    record {
      a = short_back c.x-3.result c.x-3.ensures.size;
      b = short_back c.y-4.result c.y-4.ensures.size;
      c = short_back c.x-4.result c.x-4.ensures.size;
      d = short_back c.y-3.result c.y-3.ensures.size;
    }

pub returns-clause-values : goal.returns-clause-values
returns-clause-values c = λ v. of_minors c.args.a c.args.b v _ _ _
    (read_minor c.minor.result c.minor.ensures.size ∙ c.minor.ensures.value
    ∙ simp (
      read_back _ _ c.y.ensures.size c.y.ensures.value,
      read_back _ _ c.z.ensures.size c.z.ensures.value,
      read_back _ _ c.z-2.ensures.size c.z-2.ensures.value,
      read_back _ _ c.y-2.ensures.size c.y-2.ensures.value,
    ))
    (read_minor c.minor-2.result c.minor-2.ensures.size ∙ c.minor-2.ensures.value
    ∙ simp (
      read_back _ _ c.z-3.ensures.size c.z-3.ensures.value,
      read_back _ _ c.x.ensures.size c.x.ensures.value,
      read_back _ _ c.x-2.ensures.size c.x-2.ensures.value,
      read_back _ _ c.z-4.ensures.size c.z-4.ensures.value,
    ))
    (read_minor c.minor-3.result c.minor-3.ensures.size ∙ c.minor-3.ensures.value
    ∙ simp (
      read_back _ _ c.x-3.ensures.size c.x-3.ensures.value,
      read_back _ _ c.y-3.ensures.size c.y-3.ensures.value,
      read_back _ _ c.y-4.ensures.size c.y-4.ensures.value,
      read_back _ _ c.x-4.ensures.size c.x-4.ensures.value,
    ))

pub returns-clause-refuses : goal.returns-clause-refuses
returns-clause-refuses c = λ v. refused _ v _ _ (returns-clause-values c v) (read_minor c.args.least c.requires)

pub returns-clause-minors : goal.returns-clause-minors
returns-clause-minors c =
    record {
      x = minor_back c.minor.result c.minor.ensures.size;
      y = minor_back c.minor-2.result c.minor-2.ensures.size;
      z = minor_back c.minor-3.result c.minor-3.ensures.size;
      least = minor_back c.args.least c.requires;
    }
