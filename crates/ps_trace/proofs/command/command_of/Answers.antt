use Rattle.std.proofs.Common.{◌≡◌, ◌<◌, ap, sym, subst, List, length, get_or}
use Rattle.std.specs.Prelude.{Some, option_map, slice_get}
use Rattle.std.proofs.lemmas.Option.{slice_get-get_or}
use Rattle.ps_graph.specs.declared.edge.Edge.{Edge}
use Rattle.ps_trace.proofs.Owning.{has_form}
use Rattle.ps_trace.proofs.command.command_of.Goals as goal

pub returns-clause-command : goal.returns-clause-command
returns-clause-command c =
    subst (λ (es : List Edge). option_map (λ (e : Edge). e.command) (slice_get c.args.graph.now.edges c.args.edge) ≡ Some (get_or es c.args.edge c.index-as_slice-edge.result).command) (sym c.as_slice.ensures)
    (ap (option_map (λ (e : Edge). e.command)) (slice_get-get_or c.args.graph.now.edges c.args.edge c.index-as_slice-edge.result c.requires))

pub returns-clause-there : goal.returns-clause-there
returns-clause-there c =
    subst (λ (es : List Edge). (get_or es c.args.edge c.index-as_slice-edge.result).command < length c.args.graph.now.setting.symbols) (sym c.as_slice.ensures)
    (has_form c.args.graph.now c.args.edge c.index-as_slice-edge.result c.requires)
