use Rattle.std.proofs.Common.{◌≡◌, ◌∙◌, refl, subst}
use Rattle.std.specs.Prelude.{◌+ℤ◌, ◌-ℤ◌}
use Rattle.std.specs.Option.{SomeIff}
use Rattle.om_rows.specs.Rows.{IsNarrow}
use Rattle.om_rows.proofs.Casts.{stored-narrow}
use Rattle.om_rows.proofs.Eighths.{stored_sum}
use Rattle.om_rows.proofs.products.exact_sum.Goals as goal

pub sum_of_small-requires : goal.sum_of_small-requires
sum_of_small-requires c = record {
  a = c.if-is_small.ensures.0 refl;
  b = c.if-is_small-2.ensures.0 refl;
  c = c.if-is_small-3.ensures.0 refl;
  d = c.if-is_small-4.ensures.0 refl;
  e = c.if-is_small-5.ensures.0 refl;
}

pub returns-then-is_small-5 : goal.returns-then-is_small-5
returns-then-is_small-5 c =
    let r = c.ranges in
    let n : IsNarrow c.sum_of_small.result = record { sfits = c.sum_of_small.type_inv } in
    let s : c.sum_of_small.result ≡ c.args.a +ℤ c.args.b -ℤ c.args.c -ℤ c.args.d +ℤ c.args.e = c.sum_of_small.ensures
    ∙ stored_sum c.args.a c.args.b c.args.c c.args.d c.args.e r.a r.b r.c r.d r.e in
    (subst IsNarrow s n, stored-narrow _ n ∙ s)

pub returns-else-is_small : goal.returns-else-is_small
returns-else-is_small c =
    let r = c.ranges in
    subst (λ z. SomeIff c.sum_by_eighths.result (IsNarrow z) z)
    (stored_sum c.args.a c.args.b c.args.c c.args.d c.args.e r.a r.b r.c r.d r.e) c.sum_by_eighths.ensures
