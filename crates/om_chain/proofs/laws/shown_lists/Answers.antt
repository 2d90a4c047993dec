use Rattle.std.proofs.lemmas.List.Elements.{All-contains}
use Rattle.om_levels.specs.Families.{IsOfFamily}
use Rattle.om_chain.proofs.Shown.{shown_complete}
use Rattle.om_chain.proofs.laws.shown_lists.Goals as goal

pub returns-clause-members : goal.returns-clause-members
returns-clause-members c = λ asked family n classes m h k.
    All-contains (IsOfFamily family n) classes m (shown_complete asked family n classes h).members k

pub returns-clause-each : goal.returns-clause-each
returns-clause-each c = λ asked family n classes m h p. (shown_complete asked family n classes h).each m p
