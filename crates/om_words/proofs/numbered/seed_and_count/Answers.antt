use Rattle.std.specs.Prelude.{map, string_bytes}
use Rattle.std.proofs.Common.{sym, subst}
use Rattle.om_words.specs.Options.{AreSeedAndCount}
use Rattle.om_words.specs.Words.{IsRead}
use Rattle.om_words.proofs.OptionCommands.{seed_missing}
use Rattle.om_words.proofs.WordLaws.{first_and_rest}
use Rattle.om_words.proofs.numbered.seed_and_count.Goals as goal

pub returns-in-empty : goal.returns-in-empty
returns-in-empty c = seed_missing _ _ c.in-empty.len_below

pub returns-in-len1-up : goal.returns-in-len1-up
returns-in-len1-up c =
    subst (λ words. IsRead AreSeedAndCount (map string_bytes words) c.seed_before.result)
    (sym (first_and_rest _ _ c.in-len1-up.len_at_least c.word-item.is)) c.seed_before.ensures
