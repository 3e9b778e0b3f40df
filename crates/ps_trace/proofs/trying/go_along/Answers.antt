use Rattle.std.proofs.Common.{◌<◌, Bool, List, length, sym, ap, ◌∙◌, subst, if◌then◌else◌}
use Rattle.std.specs.Prelude.{Some, None}
use Rattle.ps_command.specs.declared.command.Command.{Command}
use Rattle.ps_graph.specs.Picks.{havocs_of}
use Rattle.ps_graph.specs.declared.edge.Pick.{Pick}
use Rattle.ps_trace.proofs.Results.{both_on, if_ok, on_ok}
use Rattle.ps_trace.proofs.Tried.{edge_command, edge_fits, edge_past, runs_here, sized_after}
use Rattle.ps_trace.proofs.trying.go_along.Goals as goal

pub bounds-as_slice-edge : goal.bounds-as_slice-edge
bounds-as_slice-edge c = subst (λ (cs : List Command). c.args.edge.now.command < length cs) (sym c.as_slice-2.ensures) (edge_command c.args.graph.now c.args.edge.now c.requires.edge)

pub run-requires-clause-named : goal.run-requires-clause-named
run-requires-clause-named c =
    let hs = c.as_slice-3.result.now in
    let fit = ap (λ (ps : List Pick). havocs_of ps c.args.choices.now) (sym c.as_slice.ensures) ∙ c.in_ok-read_havocs.ensures.fit
    ∙ ap (λ (b : Bool). if b then Some c.read_havocs.new.havocs.items else None) c.if-not-branch.false ∙ ap Some (sym c.as_slice-3.ensures.value) in
    (runs_here c.args.graph.now c.args.edge.now c.args.runner.now c.args.choices.now c.as_slice-3.result.now c.as_slice-2.result.now c.index-as_slice-edge.result c.requires.edge c.requires.sized fit c.as_slice-2.ensures c.index-as_slice-edge.is).named

pub run-requires-clause-values : goal.run-requires-clause-values
run-requires-clause-values c =
    let fit = ap (λ (ps : List Pick). havocs_of ps c.args.choices.now) (sym c.as_slice.ensures) ∙ c.in_ok-read_havocs.ensures.fit
    ∙ ap (λ (b : Bool). if b then Some c.read_havocs.new.havocs.items else None) c.if-not-branch.false ∙ ap Some (sym c.as_slice-3.ensures.value) in
    (runs_here c.args.graph.now c.args.edge.now c.args.runner.now c.args.choices.now c.as_slice-3.result.now c.as_slice-2.result.now c.index-as_slice-edge.result c.requires.edge c.requires.sized fit c.as_slice-2.ensures c.index-as_slice-edge.is).count

pub returns-clause-goes : goal.returns-clause-goes
returns-clause-goes c =
    let fit = ap (λ (ps : List Pick). havocs_of ps c.args.choices.now) (sym c.as_slice.ensures) ∙ c.in_ok-read_havocs.ensures.fit
    ∙ ap (λ (b : Bool). if b then Some c.read_havocs.new.havocs.items else None) c.if-not-branch.false ∙ ap Some (sym c.as_slice-3.ensures.value) in
    let r = runs_here c.args.graph.now c.args.edge.now c.args.runner.now c.args.choices.now c.as_slice-3.result.now c.as_slice-2.result.now c.index-as_slice-edge.result c.requires.edge c.requires.sized fit c.as_slice-2.ensures c.index-as_slice-edge.is in
    if_ok c.run.result (λ on h. r.after ∙ h) c.run.ensures.runs

pub returns-clause-sized : goal.returns-clause-sized
returns-clause-sized c =
    both_on c.run.result (λ on runs stays. sized_after c.args.graph.now.setting c.index-as_slice-edge.result.ops c.args.runner.now c.run.new.self c.as_slice-3.result.now on c.requires.sized runs stays)
    c.run.ensures.runs c.run.ensures.fails

pub returns-clause-fits : goal.returns-clause-fits
returns-clause-fits c =
    let fit = ap (λ (ps : List Pick). havocs_of ps c.args.choices.now) (sym c.as_slice.ensures) ∙ c.in_ok-read_havocs.ensures.fit
    ∙ ap (λ (b : Bool). if b then Some c.read_havocs.new.havocs.items else None) c.if-not-branch.false ∙ ap Some (sym c.as_slice-3.ensures.value) in
    let r = runs_here c.args.graph.now c.args.edge.now c.args.runner.now c.args.choices.now c.as_slice-3.result.now c.as_slice-2.result.now c.index-as_slice-edge.result c.requires.edge c.requires.sized fit c.as_slice-2.ensures c.index-as_slice-edge.is in
    on_ok c.run.result (λ f. edge_fits c.args.graph.now c.args.edge.now c.args.runner.now c.args.choices.now c.as_slice-3.result.now c.index-as_slice-edge.result r fit f) c.run.ensures.fits

pub returns-clause-past : goal.returns-clause-past
returns-clause-past c =
    let fit = ap (λ (ps : List Pick). havocs_of ps c.args.choices.now) (sym c.as_slice.ensures) ∙ c.in_ok-read_havocs.ensures.fit
    ∙ ap (λ (b : Bool). if b then Some c.read_havocs.new.havocs.items else None) c.if-not-branch.false ∙ ap Some (sym c.as_slice-3.ensures.value) in
    let r = runs_here c.args.graph.now c.args.edge.now c.args.runner.now c.args.choices.now c.as_slice-3.result.now c.as_slice-2.result.now c.index-as_slice-edge.result c.requires.edge c.requires.sized fit c.as_slice-2.ensures c.index-as_slice-edge.is in
    λ p. edge_past c.args.graph.now c.args.edge.now c.args.runner.now c.args.choices.now c.as_slice-3.result.now c.index-as_slice-edge.result r fit (c.run.ensures.past p)
