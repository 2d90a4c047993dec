-- Words that spell a value.
use Rattle.std.specs.Prelude.{◌∷◌, [], codes, refl}
use Rattle.std.proofs.Common.{lit≤, sym}
use Rattle.std.proofs.lemmas.Fmt.{decimal_digit}
use Rattle.om_signs.specs.declared.sign.Sign.TheVariants.{Plus}
use Rattle.om_words.specs.Words.{Spells, IsElement}

pub plus_spelled : Spells (codes "+") (Plus ∷ [])
plus_spelled = record { some = lit≤ tt; few = lit≤ tt; signs = refl; value = refl }

pub one_spelled : IsElement (codes "1") 1
one_spelled = record { low = lit≤ tt; high = lit≤ tt; digits = sym (decimal_digit 1 (lit≤ tt)) }
