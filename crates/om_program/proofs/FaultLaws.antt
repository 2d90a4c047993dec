-- Statuses of a read fault, of a lack of memory and of usage are no others.
--
-- Main results: read_fault_ne_usage, read_fault_ne_write_fault, no_memory_ne_usage, no_memory_ne_read_fault,
-- no_memory_ne_write_fault, usage_ne_read_fault, usage_ne_no_memory; IsUnanswered, unanswered
use Rattle.std.specs.Prelude.{◌≡◌, ◌≢◌, ◌⊎◌}
use Rattle.std.proofs.Common.{inl, inr}
use Rattle.om_reply.specs.declared.status.Status.{Status}
use Rattle.om_reply.specs.Statuses.{IsAnswered}
use Rattle.om_reply.specs.declared.status.Status.TheVariants.{Usage, ReadFault, WriteFault, NoMemory}

-- a read fault
pub read_fault_ne_usage : ReadFault ≡ Usage → ⊥
read_fault_ne_usage same = cc

pub read_fault_ne_write_fault : ReadFault ≡ WriteFault → ⊥
read_fault_ne_write_fault same = cc

-- a lack of memory
pub no_memory_ne_usage : NoMemory ≡ Usage → ⊥
no_memory_ne_usage same = cc

pub no_memory_ne_read_fault : NoMemory ≡ ReadFault → ⊥
no_memory_ne_read_fault same = cc

pub no_memory_ne_write_fault : NoMemory ≡ WriteFault → ⊥
no_memory_ne_write_fault same = cc

-- the end of a run that has only its usage to write
pub usage_ne_read_fault : (s : Status) → (s ≡ Usage) ⊎ (s ≡ WriteFault) → s ≢ ReadFault
usage_ne_read_fault s (inl is) fault = cc
usage_ne_read_fault s (inr is) fault = cc

pub usage_ne_no_memory : (s : Status) → (s ≡ Usage) ⊎ (s ≡ WriteFault) → s ≢ NoMemory
usage_ne_no_memory s (inl is) memory = cc
usage_ne_no_memory s (inr is) memory = cc

-- the end of a run without an answer
pub record IsUnanswered (s : Status) : Type 0 where
  pub no_usage : s ≢ Usage
  pub no_cut : s ≢ WriteFault
  pub no_answer : IsAnswered s → ⊥

pub unanswered : (s : Status) → (s ≡ ReadFault) ⊎ (s ≡ NoMemory) → IsUnanswered s
unanswered s (inl is) = rw is (record {
  no_usage = read_fault_ne_usage;
  no_cut = read_fault_ne_write_fault;
  no_answer = λ answered. answered;
})
unanswered s (inr is) = rw is (record {
  no_usage = no_memory_ne_usage;
  no_cut = no_memory_ne_write_fault;
  no_answer = λ answered. answered;
})
