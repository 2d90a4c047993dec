-- How runs end.
use Rattle.std.specs.Prelude.{ℕ}
use Rattle.om_reply.specs.declared.status.Status.{Status}
use Rattle.om_reply.specs.declared.status.Status.TheVariants.{Done, Refused, Usage, Limit, ReadFault, WriteFault}
use Rattle.om_reply.specs.declared.status.Status.TheVariants.{NoMemory}

-- the program's exit code
abbrev pub code_of : Status → ℕ
code_of Done = 0
code_of Refused = 1
code_of Usage = 2
code_of Limit = 3
code_of ReadFault = 4
code_of WriteFault = 5
code_of NoMemory = 6

-- a status with which the whole text was written: no read fault, no write fault, and memory did not run out
abbrev pub IsAnswered : Status → Type 0
IsAnswered ReadFault = ⊥
IsAnswered WriteFault = ⊥
IsAnswered NoMemory = ⊥
IsAnswered _ = Unit {0}

-- a status with which the whole answer to a command was written: one of the above, but not that of words that
-- aren't a command
abbrev pub IsReplied : Status → Type 0
IsReplied Usage = ⊥
IsReplied ReadFault = ⊥
IsReplied WriteFault = ⊥
IsReplied NoMemory = ⊥
IsReplied _ = Unit {0}
