-- Edges whose commands have got their numbers.
use Rattle.std.specs.Prelude.{◌≡◌, ◌<◌, ◌^◌, true, List, [], ◌∷◌, ◌⊎◌, Some, slice_get}
use Rattle.std.specs.List.{AllByRecursion, AllZip, position_or_len}
use Rattle.indexmap.specs.IndexSet.{insert_key}
use Rattle.ps_command.specs.Commands.{ops_of}
use Rattle.ps_command.specs.declared.command.Command.{Command}
use Rattle.ps_compile.specs.Compiled.{AreNumbered}
use Rattle.ps_compile.specs.declared.command_key.CommandKey.{CommandKey}
use Rattle.ps_compile.specs.declared.draft.Draft.{Draft}
use Rattle.ps_compile.specs.inner.Keys.{key_eq, key_of}
use Rattle.ps_graph.specs.declared.edge.Edge.{Edge}

-- the locations of the edge are numbers of 32 bits
abbrev pub FitsEdge : Draft → Type 0
FitsEdge d = (d.source < 2 ^ 32) × (d.target < 2 ^ 32)

-- the edge is that of the draft, whose command has this number
pub record IsDraftEdge (commands : List Command) (d : Draft) (e : Edge) : Type 0 where
  pub source : e.source ≡ d.source
  pub target : e.target ≡ d.target
  pub ops : ops_of commands e.command ≡ d.route.command.ops
  pub picks : e.picks ≡ d.route.picks

-- the command is that of one of the drafts
abbrev pub ComesFrom : List Draft → Command → Type 0
ComesFrom [] c = ⊥
ComesFrom (d ∷ drafts) c = (d.route.command ≡ c) ⊎ ComesFrom drafts c

-- the edges are those of the drafts, one by one, with commands numbered by first appearance
pub record AreNumberedDrafts (commands : List Command) (drafts : List Draft) (es : List Edge) : Type 0 where
  pub edges : AllZip (IsDraftEdge commands) drafts es
  pub numbered : AreNumbered commands es
  pub used : AllByRecursion (ComesFrom drafts) commands

-- the edge of one draft more, whose command was entered in the table
pub record AreNumberedSoFar (old new : List CommandKey) (d : Draft) (e : Edge) : Type 0 where
  pub source : e.source ≡ d.source
  pub target : e.target ≡ d.target
  pub picks : e.picks ≡ d.route.picks
  pub keys : new ≡ insert_key key_eq old (key_of d.route.command)
  pub number : e.command ≡ position_or_len (key_eq (key_of d.route.command)) old
  pub stored : (k : CommandKey) × (slice_get new e.command ≡ Some k) × (key_eq (key_of d.route.command) k ≡ true)
