-- The texts of lines, and the status with which a run ends after each.
use Rattle.std.specs.Prelude.{ℕ, ◌+◌, List, [], ◌∷◌, ◌++◌, codes}
use Rattle.om_chain.specs.declared.asked.Asked.{Asked}
use Rattle.om_chain.specs.declared.asked.Asked.TheVariants.{Complete, Exact}
use Rattle.om_chain.specs.declared.gap.Gap.{Gap}
use Rattle.om_chain.specs.declared.gap.Gap.TheVariants.{Missing, Unmet, TooMany}
use Rattle.om_chain.specs.declared.unfit.Unfit.{Unfit as Misfit}
use Rattle.om_chain.specs.declared.unfit.Unfit.TheVariants.{Dependent, Zero, Order, NotLeast}
use Rattle.om_printing.specs.Texts.{number, spaced, subset_text, signs_text, code_text}
use Rattle.om_reply.specs.declared.status.Status.{Status}
use Rattle.om_reply.specs.declared.status.Status.TheVariants.{Done, Refused, Limit}
use Rattle.om_classification.specs.declared.fault.Fault.{Fault as DocumentFault}
use Rattle.om_classification.specs.declared.fault.Fault.TheVariants.{Long, Line as LineAt, Kind, Axioms, Rank}
use Rattle.om_classification.specs.declared.line.Line.{Line}
use Rattle.om_classification.specs.declared.line.Line.TheVariants.{Shown, Empty, Fault, Elements, Unfit, Gap as GapIn}

-- a line feed
abbrev pub line_feed : List ℕ
line_feed = 10 ∷ []

-- words and a number
abbrev pub named : List ℕ → ℕ → List ℕ
named words n = words ++ number n

-- what is shown of a list
abbrev pub asked_word : Asked → List ℕ
asked_word Complete = codes "complete"
asked_word Exact = codes "exact"

-- what is at fault with a document
abbrev pub fault_text : DocumentFault → List ℕ
fault_text Long = codes " long\n"
fault_text (LineAt n c) = named (codes " line") n ++ spaced (code_text c) ++ line_feed
fault_text Kind = codes " kind\n"
fault_text Axioms = codes " axioms\n"
fault_text Rank = codes " rank\n"

-- why a document can't be the next member: two elements, a set, the order, or a lesser one of its class
abbrev pub unfit_text : Misfit → List ℕ
unfit_text (Dependent e f) = named (codes " dependent") e ++ number f ++ line_feed
unfit_text (Zero set) = codes " zero" ++ spaced (subset_text set.elements) ++ line_feed
unfit_text Order = codes " order\n"
unfit_text NotLeast = codes " least\n"

-- why a list on n elements isn't shown; members count from 1
abbrev pub gap_text : ℕ → Gap → List ℕ
gap_text n (Missing member signs) =
    named (codes "refused list") n ++ named (codes " missing") (member + 1) ++ spaced (signs_text signs) ++ line_feed
gap_text n (Unmet member) = named (codes "refused list") n ++ named (codes " unmet") (member + 1) ++ line_feed
gap_text n (TooMany member) = named (codes "limit list") n ++ named (codes " member") (member + 1) ++ line_feed

-- a line
abbrev pub line_text : Line → List ℕ
line_text (Shown asked n k) = named (asked_word asked) n ++ number k ++ line_feed
line_text Empty = codes "refused empty\n"
line_text (Fault document fault) = named (codes "refused document") document ++ fault_text fault
line_text (Elements document) = named (codes "refused document") document ++ codes " elements\n"
line_text (Unfit document unfit) = named (codes "refused document") document ++ unfit_text unfit
line_text (GapIn n gap) = gap_text n gap

-- the status after a gap: a limit, or a refusal
abbrev pub gap_status : Gap → Status
gap_status (TooMany member) = Limit
gap_status _ = Refused

-- the status after a line
abbrev pub line_status : Line → Status
line_status (Shown asked n k) = Done
line_status (GapIn n gap) = gap_status gap
line_status _ = Refused
