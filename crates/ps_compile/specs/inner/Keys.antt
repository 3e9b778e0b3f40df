-- What the table of commands looks commands up by, and how it hashes them.
use Rattle.std.specs.Prelude.{ℤ, Bool, false, ◌&&◌, ◌++◌, map}
use Rattle.std.specs.Cmp.Lexicographic.{pointwise}
use Rattle.std.specs.Hash as fed
use Rattle.std.specs.Ordering.{int_eq}
use Rattle.ps_command.specs.declared.command.Command.{Command}
use Rattle.ps_command.specs.declared.op.Op.{Op}
use Rattle.ps_command.specs.declared.op.Op.TheVariants.{Assume, Assign, Havoc}
use Rattle.ps_compile.specs.declared.command_key.CommandKey.{CommandKey}
use Rattle.ps_compile.specs.declared.command_key.OpKey.{OpKey}
use Rattle.ps_term.specs.Hashed.{pair_eq, pair_fed}
use Rattle.ps_term.specs.contracts.var.VarHash.TheImpl as hashes
use Rattle.ps_term.specs.contracts.var.VarPartialEq.TheImpl as tests
use Rattle.ps_term.specs.declared.term.Term.{Term}
use Rattle.ps_term.specs.declared.var.Var.{Var}

-- an op, and a command, as a key; and the command of a key
abbrev pub op_key : Op → OpKey
op_key op = record { op = op }

abbrev pub key_of : Command → CommandKey
key_of c = record { ops = map op_key c.ops }

abbrev pub command_of : CommandKey → Command
command_of k = record { ops = map (λ (o : OpKey). o.op) k.ops }

-- the two are one
abbrev pub term_eq : Term → Term → Bool
term_eq a b = int_eq a.constant b.constant && pointwise pair_eq a.pairs b.pairs

abbrev pub op_eq : Op → Op → Bool
op_eq (Assume r) (Assume s) = term_eq r.term s.term
op_eq (Assign x t) (Assign y u) = tests.ghosts.eq x y && term_eq t u
op_eq (Havoc x) (Havoc y) = tests.ghosts.eq x y
op_eq _ _ = false

abbrev pub op_key_eq : OpKey → OpKey → Bool
op_key_eq a b = op_eq a.op b.op

abbrev pub key_eq : CommandKey → CommandKey → Bool
key_eq a b = pointwise op_key_eq a.ops b.ops

-- what a hash is fed; of an assignment the term alone
abbrev pub term_fed : Term → fed.HashWrites
term_fed t = fed.i128 t.constant ++ fed.slice pair_fed t.pairs

abbrev pub op_fed : Op → fed.HashWrites
op_fed (Assume r) = term_fed r.term
op_fed (Assign _ t) = term_fed t
op_fed (Havoc x) = hashes.ghosts.hash_input x

abbrev pub op_key_fed : OpKey → fed.HashWrites
op_key_fed a = op_fed a.op

abbrev pub key_fed : CommandKey → fed.HashWrites
key_fed a = fed.slice op_key_fed a.ops
