use Rattle.std.proofs.Common.{◌∙◌, sym}
use Rattle.std.proofs.lemmas.Bool.{false≢true}
use Rattle.om_mutate.proofs.relations.stays_balanced_around.Goals as goal

pub stays_balanced_at-requires : goal.stays_balanced_at-requires
stays_balanced_at-requires c =
    record { rank = c.requires.rank; p = c.requires.a; x = c.requires.b; y = c.requires.c }

pub returns-then-not-stays_balanced_at : goal.returns-then-not-stays_balanced_at
returns-then-not-stays_balanced_at c = (
  λ t. absurd (false≢true t),
  λ h. sym c.if-not-stays_balanced_at.true ∙ c.stays_balanced_at.ensures.1 h.first,
)

pub stays_balanced_at-requires-2 : goal.stays_balanced_at-requires-2
stays_balanced_at-requires-2 c =
    record { rank = c.requires.rank; p = c.requires.b; x = c.requires.a; y = c.requires.c }

pub returns-then-not-stays_balanced_at-2 : goal.returns-then-not-stays_balanced_at-2
returns-then-not-stays_balanced_at-2 c = (
  λ t. absurd (false≢true t),
  λ h. sym c.if-not-stays_balanced_at-2.true ∙ c.stays_balanced_at-2.ensures.1 h.second,
)

pub stays_balanced_at-requires-3 : goal.stays_balanced_at-requires-3
stays_balanced_at-requires-3 c =
    record { rank = c.requires.rank; p = c.requires.c; x = c.requires.a; y = c.requires.b }

pub returns : goal.returns
returns c = (
  λ t. record {
    first = c.stays_balanced_at.ensures.0 c.if-not-stays_balanced_at.false;
    second = c.stays_balanced_at-2.ensures.0 c.if-not-stays_balanced_at-2.false;
    third = c.stays_balanced_at-3.ensures.0 t;
  },
  λ h. c.stays_balanced_at-3.ensures.1 h.third,
)
