use Rattle.std.proofs.Common.{◌≡◌, ◌∙◌, ap, refl, arith}
use Rattle.std.specs.Prelude.{neg_ℤ}
use Rattle.om_points.proofs.Eliminations.{sum_refuses, not_negative}
use Rattle.om_points.proofs.Sizes.{wide, read_minor, read_form, read_coefficient, coefficient_back, minor_back}
use Rattle.om_points.proofs.form.Form.without_z.Goals as goal

pub opposite-a-requires : goal.opposite-a-requires
opposite-a-requires c = rw (read_form _ _ c.other.invariant c.other.view_is).z c.requires.second.z

pub mixed-requires : goal.mixed-requires
mixed-requires c =
    let f = read_form _ _ c.self.invariant c.self.view_is in
    record {
      a = minor_back c.opposite-a.result c.opposite-a.ensures.size;
      p = rw f.x c.requires.first.x;
      b = rw f.z c.requires.first.z;
      q = rw (read_form _ _ c.other.invariant c.other.view_is).x c.requires.second.x;
    }

pub mixed-requires-2 : goal.mixed-requires-2
mixed-requires-2 c =
    let f = read_form _ _ c.self.invariant c.self.view_is in
    record {
      a = minor_back c.opposite-a.result c.opposite-a.ensures.size;
      p = rw f.y c.requires.first.y;
      b = rw f.z c.requires.first.z;
      q = rw (read_form _ _ c.other.invariant c.other.view_is).y c.requires.second.y;
    }

pub mixed-requires-3 : goal.mixed-requires-3
mixed-requires-3 c =
    let f = read_form _ _ c.self.invariant c.self.view_is in
    record {
      a = minor_back c.opposite-a.result c.opposite-a.ensures.size;
      p = rw f.least c.requires.first.least;
      b = rw f.z c.requires.first.z;
      q = rw (read_form _ _ c.other.invariant c.other.view_is).least c.requires.second.least;
    }

pub invariant_of-result : goal.invariant_of-result
invariant_of-result c = record {
  x = coefficient_back c.mixed.result c.mixed.ensures.size;
  y = coefficient_back c.mixed-2.result c.mixed-2.ensures.size;
  z = omega arith;
  least = coefficient_back c.mixed-3.result c.mixed-3.ensures.size;
}

pub returns : goal.returns
returns c = λ v h nf ng.
    let f = read_form _ _ c.self.invariant c.self.view_is in
    let g = read_form _ _ c.other.invariant c.other.view_is in
    let a : wide c.opposite-a.result ≡ neg_ℤ c.args.other.z =
    read_minor c.opposite-a.result c.opposite-a.ensures.size ∙ c.opposite-a.ensures.value ∙ ap neg_ℤ g.z in
    sum_refuses c.args.self c.args.other _ _ _ _
    (read_coefficient c.mixed.result _ c.mixed.ensures.size (c.mixed.ensures.value ∙ simp (a, f.z, f.x, g.x)))
    (read_coefficient c.mixed-2.result _ c.mixed-2.ensures.size (c.mixed-2.ensures.value ∙ simp (a, f.z, f.y, g.y)))
    refl
    (read_coefficient c.mixed-3.result _ c.mixed-3.ensures.size
    (c.mixed-3.ensures.value ∙ simp (a, f.z, f.least, g.least)))
    (not_negative _ _ f.z c.if-b-le0.false) (not_negative _ _ a c.if-a-le0.false) v h nf ng
