use Rattle.std.proofs.Common.{◌≡◌, ◌↔◌, IsTrue, ap, refl, subst, sym, ◌∙◌, true, is_lt}
use Rattle.std.specs.declared.cmp.Ordering.{Ordering}
use Rattle.std.specs.declared.cmp.Ordering.TheVariants.{Less, Equal, Greater}
use Rattle.om_paint.specs.Paintings.{ComesBefore}
use Rattle.om_paint.proofs.search.is_earlier.Goals as goal

less_from_test : (r : Ordering) → is_lt r ≡ true → r ≡ Less
less_from_test Less e = refl
less_from_test Equal e = cc
less_from_test Greater e = cc

pub returns-in-Some : goal.returns-in-Some
returns-in-Some c = subst (λ o. IsTrue c.lt.result ↔ ComesBefore c.args.x o) (sym c.in-Some.is)
    (λ t. less_from_test _ (sym c.lt.ensures ∙ t), λ l. c.lt.ensures ∙ ap is_lt l)
