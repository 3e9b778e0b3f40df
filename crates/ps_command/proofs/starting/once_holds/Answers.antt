use Rattle.std.proofs.Common.{◌≡◌, true, ℤ, List, length, SomeIff, sym, subst₂}
use Rattle.std.specs.List.{list_all}
use Rattle.ps_term.specs.declared.row.Row.{Row}
use Rattle.ps_command.specs.Named.{is_declared_row}
use Rattle.ps_command.specs.Run.{holds}
use Rattle.ps_command.specs.RunFits.{TestsFit}
use Rattle.ps_command.specs.Values.{Values, value_at}
use Rattle.ps_command.proofs.InitialStates.{first_seen, once_named}
use Rattle.ps_command.proofs.starting.once_holds.Goals as goal

pub all_hold-requires : goal.all_hold-requires
all_hold-requires c =
    subst₂ (λ (gs : List ℤ) (rows : List Row). list_all (is_declared_row (length gs) (length c.as_slice-3.result.now)) rows ≡ true) (sym c.as_slice-2.ensures) (sym c.as_slice-4.ensures)
    (once_named c.args.setting.now c.args.state.now c.as_slice-3.result.now c.requires.sized)

pub returns : goal.returns
returns c =
    subst₂ (λ (v : Values) (rows : List Row). SomeIff c.all_hold.result (TestsFit (value_at v) rows) (list_all (holds (value_at v)) rows))
    (first_seen c.args.state.now c.as_slice.result.now c.index-as_slice-0.result c.as_slice-2.result.now c.as_slice-3.result.now c.as_slice.ensures c.requires.threads c.index-as_slice-0.is c.as_slice-2.ensures c.as_slice-3.ensures)
    c.as_slice-4.ensures c.all_hold.ensures
