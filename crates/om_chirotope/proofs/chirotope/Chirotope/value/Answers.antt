use Rattle.std.proofs.Common.{sym, subst}
use Rattle.om_subsets.specs.Lists.{IsWithin}
use Rattle.om_chirotope.specs.Map.{SignMap}
use Rattle.om_chirotope.proofs.chirotope.Chirotope.value.Goals as goal

pub value_at-requires-clause-within : goal.value_at-requires-clause-within
value_at-requires-clause-within c =
    let P : SignMap → Type 0 = λ m. IsWithin 1 m.elements c.args.tuple.now in
    subst P (sym c.self.view_is) c.requires.within
