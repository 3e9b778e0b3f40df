-- The lines on proofs that aren't accepted.
use Rattle.std.specs.Prelude.{ℕ, List, ◌++◌, Option, Some, None, codes}
use Rattle.std.specs.Fmt.{decimal}
use Rattle.ps_check.specs.declared.fault.CheckFault.{CheckFault}
use Rattle.ps_check.specs.declared.fault.CheckFault.TheVariants.{Predicate, Entry, ConfigNumber, ConfigThread, Accepting, Uncovered}
use Rattle.ps_triple.specs.declared.entry_end.EntryFault.{EntryFault}
use Rattle.ps_triple.specs.declared.entry_end.EntryFault.TheVariants.{BadNumber, ThreadTwice, FreeThread, Length, Past128, Sum}

-- what is wrong with an entry
abbrev pub entry_fault_text : EntryFault → List ℕ
entry_fault_text BadNumber = codes "bad number"
entry_fault_text ThreadTwice = codes "thread twice"
entry_fault_text FreeThread = codes "free thread"
entry_fault_text (Length found rows) = decimal found ++ (codes " multipliers for " ++ (decimal rows ++ codes " rows"))
entry_fault_text Past128 = codes "past 128 bits"
entry_fault_text Sum = codes "sum is no positive constant"

-- a number, or a word where there is none
abbrev pub number_or : Option ℕ → List ℕ → List ℕ
number_or (Some n) word = decimal n
number_or None word = word

-- that a step back isn't covered
abbrev pub uncovered_text : List ℕ → ℕ → List ℕ → List ℕ
uncovered_text config edge thread =
    codes "config " ++ (config ++ (codes " edge " ++ (decimal edge ++ (codes " thread " ++ (thread ++ codes " is not covered")))))

-- what is wrong with a proof
abbrev pub check_fault_text : CheckFault → List ℕ
check_fault_text (Predicate n) = codes "predicate " ++ (decimal n ++ codes ": bad number")
check_fault_text (Entry n fault) = codes "entry " ++ (decimal n ++ (codes ": " ++ entry_fault_text fault))
check_fault_text (ConfigNumber n) = codes "config " ++ (decimal n ++ codes ": bad number")
check_fault_text (ConfigThread n) = codes "config " ++ (decimal n ++ codes ": thread twice")
check_fault_text (Accepting n) = codes "config " ++ (decimal n ++ codes " is accepting")
check_fault_text (Uncovered config edge thread) =
    uncovered_text (number_or config (codes "start")) edge (number_or thread (codes "new"))

-- the line that tells the first fault
abbrev pub not_accepted_line : CheckFault → List ℕ
not_accepted_line fault = codes "not accepted: " ++ (check_fault_text fault ++ codes "\n")
