-- What the call of each mode promises, whatever the mode.
use Rattle.std.specs.Prelude.{◌≡◌, ℕ, ◌<◌, List, Bool, Option, IfSome, IsTrue}
use Rattle.std.specs.Io.KnownBytes.{Appends, Keeps}
use Rattle.ps_io.specs.Bytes.{GaveAtMost, TookPrefix}
use Rattle.ps_io.specs.Causes.{Rose}
use Rattle.ps_modes.specs.Owes.{IsVerdict, OwesStatus, SomeAnswer}
use Rattle.ps_modes.specs.Status.{Exactly, code}
use Rattle.ps_modes.specs.declared.input.TheConstants.{MOST_BYTES}
use Rattle.ps_modes.specs.declared.status.Status.{Status}
use Rattle.ps_modes.specs.declared.status.Status.TheVariants.{BadWords, ReadFault, WriteFault, NoMemory}

-- What a call answers that found this input and bytes written before it, and left these written: the status and the whole
-- text that the input owes, each status exactly where it is owed; or, after a fault of the sink, a prefix of that text.
pub record Answers (Owed : List ℕ → Status → List ℕ → Type 0) (input before after : Option (List ℕ)) (result : ℕ) : Type 0 where
  pub answer : result < code BadWords → SomeAnswer Owed input
      (λ status text. (result ≡ code status) × Appends before after text)
  pub exactly : IfSome input (λ bytes. (status : Status) → IsVerdict status
      → Exactly result status (OwesStatus Owed bytes status))
  pub prefix : result ≡ code WriteFault → SomeAnswer Owed input (λ status text. TookPrefix before after text)

-- a source as a call finds it and leaves it: the bytes that are left, where it tells them, its count of faults, and whether
-- its last call failed
pub record SourceChange : Type 0 where
  pub left : Option (List ℕ)
  pub left_after : Option (List ℕ)
  pub faults : ℕ
  pub faults_after : ℕ
  pub failed_after : Bool

-- a sink as a call finds it and leaves it: the bytes written, where it tells them, and its count of faults
pub record SinkChange : Type 0 where
  pub written : Option (List ℕ)
  pub written_after : Option (List ℕ)
  pub faults : ℕ
  pub faults_after : ℕ

-- A fault of the outside is told exactly where one came: of the source within the limit, which ended the reading, so that
-- nothing was written; of the sink. Without memory nothing was written.
pub record HasCauses (reading : SourceChange) (writing : SinkChange) (result : ℕ) : Type 0 where
  pub read_fault : result ≡ code ReadFault → Rose reading.faults reading.faults_after
  pub read_fault_last : result ≡ code ReadFault → IsTrue reading.failed_after
  pub read_fault_within : result ≡ code ReadFault → GaveAtMost MOST_BYTES reading.left reading.left_after
  pub read_fault_text : result ≡ code ReadFault → Keeps writing.written writing.written_after
  pub read_stayed : ¬ (result ≡ code ReadFault) → reading.faults_after ≡ reading.faults
  pub write_fault : result ≡ code WriteFault → Rose writing.faults writing.faults_after
  pub write_stayed : ¬ (result ≡ code WriteFault) → writing.faults_after ≡ writing.faults
  pub no_memory_text : result ≡ code NoMemory → Keeps writing.written writing.written_after
