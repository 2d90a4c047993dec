use Rattle.std.specs.Prelude.{map, string_bytes}
use Rattle.std.proofs.Common.{sym, subst}
use Rattle.om_words.specs.Words.{IsAlone, IsRead}
use Rattle.om_words.proofs.ArgumentLaws.{alone_empty}
use Rattle.om_words.proofs.WordLaws.{first_and_rest}
use Rattle.om_words.proofs.argument.only.Goals as goal

pub returns-in-empty : goal.returns-in-empty
returns-in-empty g c = alone_empty _ _ _ g.met.A.Argument.some c.in-empty.len_below

pub returns-in-len1-up : goal.returns-in-len1-up
returns-in-len1-up g c =
    subst (λ words. IsRead (IsAlone g.A.Argument.spells) (map string_bytes words) c.alone.result)
    (sym (first_and_rest _ _ c.in-len1-up.len_at_least c.word-item.is)) c.alone.ensures
