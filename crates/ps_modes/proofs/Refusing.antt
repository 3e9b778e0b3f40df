-- What holds of a line that refuses a text.
use Rattle.std.proofs.Common.{ℕ, List, subst}
use Rattle.ps_modes.specs.Inner.Graphs.{IfLine, IsRefusal}
use Rattle.ps_modes.specs.declared.graphs.GraphEnd.{GraphEnd}
use Rattle.ps_modes.specs.declared.graphs.GraphEnd.TheVariants.{Refused, Memory}

pub IfLine-weaker : (end : GraphEnd) (P Q : List ℕ → Type 0) → ((line : List ℕ) → P line → Q line) → IfLine P end → IfLine Q end
IfLine-weaker (Refused text) P Q each p = each text.items p
IfLine-weaker (Memory end) P Q each p = tt

pub refused_by : (end : GraphEnd) (P : List ℕ → Type 0) (line : List ℕ) → IfLine P end → IsRefusal end line → P line
refused_by (Refused text) P line p is = subst P is p
refused_by (Memory end) P line p is = absurd is
