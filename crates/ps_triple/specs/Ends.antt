-- What an end of a check says.
use Rattle.ps_triple.specs.declared.entry_end.EntryEnd.{EntryEnd}
use Rattle.ps_triple.specs.declared.entry_end.EntryEnd.TheVariants.{Fault, Memory}
use Rattle.ps_triple.specs.declared.entry_end.EntryFault.{EntryFault}

-- the fact holds of the fault; of want of memory nothing is said
abbrev pub EntryEndsBy : (EntryFault → Type 0) → EntryEnd → Type 0
EntryEndsBy P (Fault fault) = P fault
EntryEndsBy P (Memory _) = Unit {0}
