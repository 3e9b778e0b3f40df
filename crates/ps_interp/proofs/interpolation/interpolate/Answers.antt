use Rattle.std.proofs.Common.{◌≡◌, List, subst}
use Rattle.std.specs.Prelude.{Some, slice_get}
use Rattle.ps_atom.specs.Numbers.{false_predicate}
use Rattle.ps_atom.specs.declared.predicate.Predicate.{Predicate}
use Rattle.ps_interp.specs.inner.Meetings.{IsFound}
use Rattle.ps_soundness.specs.Traces.{trace_of}
use Rattle.ps_trace.specs.Traces.{pairs_in}
use Rattle.ps_trace.specs.declared.trace.Letter.{Letter}
use Rattle.ps_interp.proofs.Concluding.{held_of, made_of, proved_of}
use Rattle.ps_interp.proofs.interpolation.interpolate.Goals as goal

pub returns-in-Ok-refutation-clause-made : goal.returns-in-Ok-refutation-clause-made
returns-in-Ok-refutation-clause-made c =
    made_of c.args.graph.now c.args.trace.now.letters c.args.lambda.now c.requires.edges c.requires.refutes c.args.predicates.now
    (subst (λ (ps : List Predicate). slice_get ps 0 ≡ Some false_predicate) c.list-known.ensures.list c.list-known.ensures.table.first)
    c.in-Ok.found c.in-Ok-refutation.refutation.predicates c.in-Ok-refutation.refutation.entries
    (subst (λ (ls : List Letter). IsFound c.args.graph.now.setting c.args.predicates.now (trace_of c.args.graph.now.edges (pairs_in ls)) c.args.lambda.now c.in-Ok.found) c.as_slice-letters.ensures c.in-Ok.ensures.found)
    c.in-Ok-refutation.ensures.predicates c.in-Ok-refutation.ensures.entries

pub returns-in-Ok-refutation-clause-hold : goal.returns-in-Ok-refutation-clause-hold
returns-in-Ok-refutation-clause-hold c =
    held_of c.args.graph.now c.args.trace.now.letters c.args.lambda.now c.requires.edges c.requires.refutes c.args.predicates.now
    (subst (λ (ps : List Predicate). slice_get ps 0 ≡ Some false_predicate) c.list-known.ensures.list c.list-known.ensures.table.first)
    c.in-Ok-refutation.refutation.predicates c.in-Ok-refutation.refutation.entries
    (made_of c.args.graph.now c.args.trace.now.letters c.args.lambda.now c.requires.edges c.requires.refutes c.args.predicates.now
    (subst (λ (ps : List Predicate). slice_get ps 0 ≡ Some false_predicate) c.list-known.ensures.list c.list-known.ensures.table.first)
    c.in-Ok.found c.in-Ok-refutation.refutation.predicates c.in-Ok-refutation.refutation.entries
    (subst (λ (ls : List Letter). IsFound c.args.graph.now.setting c.args.predicates.now (trace_of c.args.graph.now.edges (pairs_in ls)) c.args.lambda.now c.in-Ok.found) c.as_slice-letters.ensures c.in-Ok.ensures.found)
    c.in-Ok-refutation.ensures.predicates c.in-Ok-refutation.ensures.entries)

pub returns-in-Ok-refutation-clause-prove : goal.returns-in-Ok-refutation-clause-prove
returns-in-Ok-refutation-clause-prove c =
    proved_of c.args.graph.now c.args.trace.now.letters c.args.lambda.now c.requires.edges c.requires.refutes c.args.predicates.now
    (subst (λ (ps : List Predicate). slice_get ps 0 ≡ Some false_predicate) c.list-known.ensures.list c.list-known.ensures.table.first)
    c.in-Ok-refutation.refutation.predicates c.in-Ok-refutation.refutation.entries c.requires.letters
    (made_of c.args.graph.now c.args.trace.now.letters c.args.lambda.now c.requires.edges c.requires.refutes c.args.predicates.now
    (subst (λ (ps : List Predicate). slice_get ps 0 ≡ Some false_predicate) c.list-known.ensures.list c.list-known.ensures.table.first)
    c.in-Ok.found c.in-Ok-refutation.refutation.predicates c.in-Ok-refutation.refutation.entries
    (subst (λ (ls : List Letter). IsFound c.args.graph.now.setting c.args.predicates.now (trace_of c.args.graph.now.edges (pairs_in ls)) c.args.lambda.now c.in-Ok.found) c.as_slice-letters.ensures c.in-Ok.ensures.found)
    c.in-Ok-refutation.ensures.predicates c.in-Ok-refutation.ensures.entries)
