use Rattle.std.proofs.Common.{◌≡◌, ◌≤◌, ◌∙◌, length, sym, subst, refl}
use Rattle.om_mutate.proofs.TurnedRows.{rows_balanced, balanced_rows, turned_size, always_balanced}
use Rattle.om_mutate.proofs.relations.stays_balanced_with.Goals as goal

pub returns-then-z-x : goal.returns-then-z-x
returns-then-z-x c = (
  λ _. always_balanced c.args.chi.now c.args.p c.args.x c.args.y c.args.z (λ zx _. zx c.if-z-x.true),
  λ _. refl,
)

pub returns-then-z-y : goal.returns-then-z-y
returns-then-z-y c = (
  λ _. always_balanced c.args.chi.now c.args.p c.args.x c.args.y c.args.z (λ _ zy. zy c.if-z-y.true),
  λ _. refl,
)

pub row-requires : goal.row-requires
row-requires c = record { p = c.requires.p; x = c.requires.z }

pub are_balanced-requires : goal.are_balanced-requires
are_balanced-requires c =
    let n : length c.args.first ≡ c.args.chi.now.elements =
    turned_size c.args.chi.now c.args.p c.args.x c.args.y c.args.first c.requires.first in
    record {
      second = turned_size c.args.chi.now c.args.p c.args.y c.args.x c.args.second c.requires.second ∙ sym n;
      third = c.row.ensures.size ∙ sym n;
      y_low = c.requires.y.0;
      y_high = subst (λ k. c.args.y ≤ k) (sym n) c.requires.y.1;
      z_low = c.requires.z.0;
      z_high = subst (λ k. c.args.z ≤ k) (sym n) c.requires.z.1;
    }

pub returns : goal.returns
returns c = (
  λ t. balanced_rows c.args.chi.now c.args.p c.args.x c.args.y c.args.z c.requires.x c.requires.y c.requires.z
      c.if-z-x.false c.if-z-y.false c.args.first c.args.second c.row.result c.requires.first c.requires.second
      c.row.ensures.row
      (c.are_balanced.ensures.0 t),
  λ h. c.are_balanced.ensures.1
      (rows_balanced c.args.chi.now c.args.p c.args.x c.args.y c.args.z c.requires.x c.requires.y c.requires.z
      c.if-z-x.false c.if-z-y.false c.args.first c.args.second c.row.result c.requires.first c.requires.second
      c.row.ensures.row h),
)
