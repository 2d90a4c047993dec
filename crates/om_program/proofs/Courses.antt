-- A run on the pieces of a source: how it goes on with each reading, and how it ends.
--
-- Main definitions: IsUnderWay
-- Main results: begins, goes_on_with; at_end, cut_short, out_of_readings, reading_failed
use Rattle.std.specs.Prelude.{ℕ, ◌≡◌, ◌≢◌, ◌≤◌, ◌-◌, ◌^◌, ◌++◌, List, [], Option, Some, None}
use Rattle.std.proofs.Common.{refl, sym, inl, inr}
use Rattle.std.proofs.lemmas.Option.{none-some}
use Rattle.std.proofs.Math.Nat.{le_refl, le_trans}
use Rattle.std.specs.Io.KnownBytes.{Consumes, IsAtEnd, Keeps}
use Rattle.om_pieces.specs.Making.{Making, completed, made, nothing}
use Rattle.om_port.specs.Causes.{Rose, TakesAtLeast, TakesSome}
use Rattle.om_port.proofs.Taking.{all_taken, rose_before, taken_more, taken_still, takes_none}
use Rattle.om_reply.specs.declared.answer.Answer.{Answer}
use Rattle.om_reply.specs.declared.status.Status.{Status}
use Rattle.om_reply.specs.declared.status.Status.TheVariants as status
use Rattle.om_reply.specs.Statuses.{IsAnswered}
use Rattle.om_program.specs.Answered.{AreAnswered, GoesOn, Stops, Breaks}
use Rattle.om_program.specs.Each.{IsCourse}
use Rattle.om_program.proofs.FaultLaws.{no_memory_ne_usage, no_memory_ne_read_fault, no_memory_ne_write_fault}
use Rattle.om_program.proofs.FaultLaws.{read_fault_ne_usage, read_fault_ne_write_fault}
use Rattle.om_program.proofs.Readings.{Reaches, KeepsUp, starts, reach_further, reach_stops, reach_stops_later}
use Rattle.om_program.proofs.Readings.{reach_breaks_later, reach_end, reach_end_stops, reach_end_breaks, no_first}
use Rattle.om_program.proofs.Readings.{keeps_up_start, keeps_up_further, keeps_up_at_fault}

-- what was done after some readings, with this state of the cutter and this status so far
pub record IsUnderWay (M : List ℕ → Answer → Type 0) (n : ℕ) (now : Making) (s : Status) (left rest : Option (List ℕ))
    (failed fails : ℕ) (old new : Option (List ℕ)) (cut_before cuts : ℕ) : Type 0 where
  pub reached : Reaches M (nothing n) left now rest status.Done s old new
  pub prompt : KeepsUp M (nothing n) left now rest status.Done s old new
  pub some : TakesSome left rest
  pub source_later : failed ≤ fails
  pub sink_later : cut_before ≤ cuts

-- before the first reading
pub begins : (M : List ℕ → Answer → Type 0) (now : Making) (n : ℕ) (left : Option (List ℕ)) (f : ℕ)
    (o : Option (List ℕ)) (l : ℕ) → now ≡ nothing n
    → IsUnderWay M n now status.Done left left f f o o l l
begins M now n left f o l start = record {
  reached = starts M now (nothing n) left status.Done o start;
  prompt = keeps_up_start M now (nothing n) left status.Done o start;
  some = takes_none left;
  source_later = le_refl _;
  sink_later = le_refl _;
}

-- the bytes of one more reading are answered
pub goes_on_with : {M : List ℕ → Answer → Type 0} {n : ℕ} {now later : Making} {s t : Status}
    {left r z : Option (List ℕ)} {f g h : ℕ} {o p q : Option (List ℕ)}
    {k l m : ℕ} (bytes : List ℕ)
    → IsUnderWay M n now s left r f g o p k l → Consumes r z bytes
    → g ≤ h → l ≤ m
    → ((more : List ℕ) → GoesOn M (made now (bytes ++ more)) (made later more) s t p q)
    → ((more : List ℕ) → GoesOn M (completed now (bytes ++ more)) (completed later more) s t p q)
    → IsUnderWay M n later t left z f h o q k m
goes_on_with {M} {n} {now} {later} {s} {t} {left} {r} {z} {f} {g} {h} {o} {p} {q} bytes way
    given source sink goes prompt = record {
      reached = reach_further M (nothing n) now later left r z bytes status.Done s t o p q way.reached given goes;
      prompt = keeps_up_further M (nothing n) now later left r z bytes status.Done s t o p q way.prompt given prompt;
      some = taken_more left r z bytes way.some given;
      source_later = le_trans way.source_later source;
      sink_later = le_trans way.sink_later sink;
    }

-- the end of the source was read, and the last pieces are answered
pub at_end : {M : List ℕ → Answer → Type 0} {n : ℕ} {now : Making} {s t : Status} {left rest rest2 : Option (List ℕ)}
    {Ready : Type 0} {f g h : ℕ} {o p q : Option (List ℕ)} {k l m : ℕ}
    → IsUnderWay M n now s left rest f g o p k l → Consumes rest rest2 [] → IsAtEnd rest2
    → g ≤ h → (IsAnswered t → AreAnswered M (made now []) s t p q)
    → (t ≡ status.NoMemory → Stops M (made now []) p q)
    → (t ≡ status.WriteFault → Breaks M (made now []) p q) → t ≢ status.Usage → t ≢ status.ReadFault
    → (t ≡ status.WriteFault → Rose l m) → l ≤ m
    → IsCourse M n (Some t) left rest2 Ready f h o q k m
at_end {M} {n} {now} {s} {t} {left} {rest} {rest2} {Ready} {f} {g} {h} {o} {p} {q} way none end
    source answer memory cut no_usage no_read write sink = record {
      answer = λ answered. reach_end M (nothing n) now left rest rest2 status.Done s t o p q way.reached none end
          (answer answered);
      fault = λ fault. reach_end_stops M (nothing n) now left rest rest2 status.Done s o p q way.reached none end
          (memory (no_first _ _ fault no_read));
      cut = λ is. reach_end_breaks M (nothing n) now left rest rest2 status.Done s o p q way.reached none end (cut is);
      no_usage = no_usage;
      read = λ is. absurd (no_read is);
      write = λ is. rose_before _ _ _ way.sink_later (write is);
      taken = λ answered. all_taken left rest rest2 way.some none end;
      prefix = taken_more left rest rest2 [] way.some none;
      source_later = le_trans way.source_later source;
      sink_later = le_trans way.sink_later sink;
      still = λ other. inr (all_taken left rest rest2 way.some none end);
      prompt = λ is. absurd (no_read is);
      readings = λ none. absurd (none-some t (sym none));
    }

-- the pieces of one more reading weren't all answered
pub cut_short : {M : List ℕ → Answer → Type 0} {n : ℕ} {now : Making} {s t : Status}
    {left rest rest2 : Option (List ℕ)} {Ready : Type 0} {f g h : ℕ} {o p q : Option (List ℕ)}
    {k l m : ℕ} (bytes : List ℕ)
    → IsUnderWay M n now s left rest f g o p k l → Consumes rest rest2 bytes
    → g ≤ h → Ready → (IsAnswered t → ⊥)
    → (t ≡ status.NoMemory → (more : List ℕ) → Stops M (made now (bytes ++ more)) p q)
    → (t ≡ status.WriteFault → (more : List ℕ) → Breaks M (made now (bytes ++ more)) p q)
    → t ≢ status.Usage → t ≢ status.ReadFault → (t ≡ status.WriteFault → Rose l m) → l ≤ m
    → IsCourse M n (Some t) left rest2 Ready f h o q k m
cut_short {M} {n} {now} {s} {t} {left} {rest} {rest2} {Ready} {f} {g} {h} {o} {p} {q} bytes way
    given source ready unanswered memory cut no_usage no_read write sink = record {
      answer = λ answered. absurd (unanswered answered);
      fault = λ fault. reach_stops_later M (nothing n) now left rest rest2 bytes status.Done s o p q way.reached given
          (memory (no_first _ _ fault no_read));
      cut = λ is. reach_breaks_later M (nothing n) now left rest rest2 bytes status.Done s o p q way.reached given
          (cut is);
      no_usage = no_usage;
      read = λ is. absurd (no_read is);
      write = λ is. rose_before _ _ _ way.sink_later (write is);
      taken = λ answered. absurd (unanswered answered);
      prefix = taken_more left rest rest2 bytes way.some given;
      source_later = le_trans way.source_later source;
      sink_later = le_trans way.sink_later sink;
      still = λ other. inl ready;
      prompt = λ is. absurd (no_read is);
      readings = λ none. absurd (none-some t (sym none));
    }

-- no reading is left, of as many as there may be
pub out_of_readings : {M : List ℕ → Answer → Type 0} {n : ℕ} {now : Making} {s : Status} {left rest : Option (List ℕ)}
    {Ready : Type 0} {f g : ℕ} {o p : Option (List ℕ)} {k l : ℕ}
    → IsUnderWay M n now s left rest f g o p k l → Ready
    → TakesAtLeast (2 ^ 64 - 1) left rest → IsCourse M n None left rest Ready f g o p k l
out_of_readings {M} {n} {now} {s} {left} {rest} {Ready} {f} {g} {o} {p} way ready many = record {
  answer = λ answered. absurd answered;
  fault = λ fault. reach_stops M (nothing n) now left rest status.Done s o p way.reached;
  cut = λ is. absurd (no_memory_ne_write_fault is);
  no_usage = no_memory_ne_usage;
  read = λ is. absurd (no_memory_ne_read_fault is);
  write = λ is. absurd (no_memory_ne_write_fault is);
  taken = λ answered. absurd answered;
  prefix = way.some;
  source_later = way.source_later;
  sink_later = way.sink_later;
  still = λ other. inl ready;
  prompt = λ is. absurd (no_memory_ne_read_fault is);
  readings = λ none. many;
}

-- a reading failed
pub reading_failed : {M : List ℕ → Answer → Type 0} {n : ℕ} {now : Making} {s : Status}
    {left r z : Option (List ℕ)}
    {Ready : Type 0} {f g h : ℕ} {o p : Option (List ℕ)} {k l : ℕ}
    → IsUnderWay M n now s left r f g o p k l → Keeps r z → Rose g h
    → g ≤ h → IsCourse M n (Some status.ReadFault) left z Ready f h o p k l
reading_failed {M} {n} {now} {s} {left} {r} {z} {Ready} {f} {g} {h} {o} {p} way kept rose source = record {
  answer = λ answered. absurd answered;
  fault = λ fault. reach_stops M (nothing n) now left r status.Done s o p way.reached;
  cut = λ is. absurd (read_fault_ne_write_fault is);
  no_usage = read_fault_ne_usage;
  read = λ is. rose_before _ _ _ way.source_later rose;
  write = λ is. absurd (read_fault_ne_write_fault is);
  taken = λ answered. absurd answered;
  prefix = taken_still left r z way.some kept;
  source_later = le_trans way.source_later source;
  sink_later = way.sink_later;
  still = λ other. absurd (other refl);
  prompt = λ is. keeps_up_at_fault M n now left r z status.Done s o p way.prompt kept;
  readings = λ none. absurd (none-some status.ReadFault (sym none));
}
