use Rattle.std.proofs.Common.{refl, sym, ◌∙◌}
use Rattle.std.proofs.lemmas.Option.{same_Some}
use Rattle.om_words.proofs.ArgumentLaws.{alone_bad, alone_many, alone_read, none_some}
use Rattle.om_words.proofs.argument.alone.Goals as goal

pub returns-in_default : goal.returns-in_default
returns-in_default g c =
    alone_bad _ _ _ g.met.A.Argument.some (λ a spells. none_some a c.in_default.is ((c.read.ensures a).1 spells))

pub returns-then-is_empty : goal.returns-then-is_empty
returns-then-is_empty g c = alone_read _ _ _ _ c.in-Some.a ((c.in-Some.ensures c.in-Some.a).0 refl)
    (λ b spells. same_Some _ _ ((c.in-Some.ensures b).1 spells)) (sym c.if-is_empty.true ∙ c.is_empty.ensures)

pub returns-else-is_empty : goal.returns-else-is_empty
returns-else-is_empty g c = alone_many _ _ _ _ c.in-Some.a ((c.in-Some.ensures c.in-Some.a).0 refl)
    (sym c.if-is_empty.false ∙ c.is_empty.ensures)
