-- What code keeps of the letters so far, as what the rows of a trace are made of.
use Rattle.ps_trace.specs.Rows.{SoFar}
use Rattle.ps_trace.specs.declared.so_far.SoFar.{SoFar as Kept}

abbrev pub so_far_of : Kept → SoFar
so_far_of f = record { after = f.after; havocs = f.havocs }
