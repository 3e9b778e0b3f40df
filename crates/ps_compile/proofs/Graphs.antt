-- A plan whose commands have numbers is a compiled graph.
use Rattle.std.proofs.Common.{◌≡◌, true, not, filter, sym, ◌∙◌, subst, ℕ, List, [], ◌∷◌, map, length, Option, None, IsTrue}
use Rattle.std.specs.List.{AllByRecursion, AllZip, list_all}
use Rattle.ps_command.specs.Named.{is_declared_command, is_declared_op, is_declared_row, names_local}
use Rattle.ps_command.specs.declared.command.Command.{Command}
use Rattle.ps_compile.proofs.Declaring.{IsNamedPlan, body_named, each_declared, each_local, once_declared}
use Rattle.ps_compile.proofs.Facts.{all_pass, facts_kept}
use Rattle.ps_compile.proofs.Numbering.{planned_edges}
use Rattle.ps_compile.proofs.Planning.{plan_counted}
use Rattle.ps_compile.specs.Compiled.{IsLaidOut, one_owner, start_rows}
use Rattle.ps_compile.specs.Conditions.{IsCompilable}
use Rattle.ps_compile.specs.Kept.{KeepsFacts}
use Rattle.ps_compile.specs.Layout.{Planned, all_planned, body_sites, body_size}
use Rattle.ps_compile.specs.declared.draft.Draft.{Draft}
use Rattle.ps_compile.specs.declared.plan.Plan.{Plan}
use Rattle.ps_compile.specs.inner.Drafts.{draft_of}
use Rattle.ps_compile.specs.inner.Numbered.{AreNumberedDrafts, IsDraftEdge}
use Rattle.ps_compile.specs.inner.Plans.{IsPlanOf}
use Rattle.ps_compile.specs.inner.Settings.{AreDeclaredIn}
use Rattle.ps_graph.specs.Facts.{names_exist, entries_owned, error_is_final, picks_fit, stay_in_bodies}
use Rattle.ps_graph.specs.declared.edge.Edge.{Edge}
use Rattle.ps_term.specs.declared.row.Row.{Row}
use Rattle.ps_tree.specs.declared.program.Program.{Program}
use Rattle.ps_tree.specs.declared.stmt.Stmt.{Stmt}

-- the body is laid out
pub plan_laid_out : (body : List Stmt) (plan : Plan) (locations : ℕ) (commands cs : List Command) (es : List Edge) → IsPlanOf body plan → locations ≡ length plan.owners.items →
    cs ≡ commands → AreNumberedDrafts commands plan.drafts.items es → IsLaidOut body locations cs es
plan_laid_out body plan locations commands cs es p l c n = subst (λ (k : List Command). IsLaidOut body locations k es) (sym c) (record {
  counted = l ∙ plan_counted body plan p;
  planned = planned_edges commands (all_planned (body_sites body 0 2)) es (subst (λ (ds : List Draft). AllZip (IsDraftEdge commands) ds es) p.drafts n.edges);
  numbered = n.numbered;
})

-- the facts of its parts
pub record KeepsParts (locations : ℕ) (edges : List Edge) (entries : List ℕ) (owner : List (Option ℕ)) (commands : List Command) : Type 0 where
  pub names : IsTrue (names_exist locations edges entries None owner commands)
  pub entered : IsTrue (entries_owned owner entries)
  pub error : IsTrue (error_is_final owner edges)
  pub picks : IsTrue (picks_fit commands edges)
  pub bodies : IsTrue (stay_in_bodies owner edges)

pub parts_kept : (body : List Stmt) (locations : ℕ) (edges : List Edge) (entries : List ℕ) (owner : List (Option ℕ)) (commands : List Command) →
    IsLaidOut body locations commands edges → entries ≡ 0 ∷ [] → owner ≡ one_owner (body_size body) → KeepsParts locations edges entries owner commands
parts_kept body locations edges entries owner commands h e o =
    subst (λ (es : List ℕ). KeepsParts locations edges es owner commands) (sym e)
    (subst (λ (os : List (Option ℕ)). KeepsParts locations edges (0 ∷ []) os commands) (sym o) (
    let k : KeepsFacts (body_size body) locations commands edges = facts_kept body locations commands edges h in
    record { names = k.names; entered = k.entries; error = k.error; picks = k.picks; bodies = k.bodies }))

-- the commands name declared variables alone
pub plan_declared : (p : Program) (plan : Plan) → IsCompilable p → IsPlanOf p.body plan →
    AllByRecursion (λ (d : Draft). list_all (is_declared_op (length p.globals) (length p.locals)) d.route.command.ops ≡ true) plan.drafts.items
plan_declared p plan h q =
    subst (AllByRecursion (λ (d : Draft). list_all (is_declared_op (length p.globals) (length p.locals)) d.route.command.ops ≡ true)) (sym q.drafts)
    (each (all_planned (body_sites p.body 0 2)) (body_named p h))
  where
    each : (ps : List Planned) → AllByRecursion (IsNamedPlan (length p.globals) (length p.locals)) ps →
        AllByRecursion (λ (d : Draft). list_all (is_declared_op (length p.globals) (length p.locals)) d.route.command.ops ≡ true) (map draft_of ps)
    each [] k = tt
    each (w ∷ ws) k = (k.0, each ws k.1)

pub commands_declared : (p : Program) (commands cs : List Command) (g l : ℕ) → AreDeclaredIn p commands → cs ≡ commands → g ≡ length p.globals → l ≡ length p.locals →
    IsTrue (list_all (is_declared_command g l) cs)
commands_declared p commands cs g l h c a b =
    subst (λ (n : ℕ). IsTrue (list_all (is_declared_command n l) cs)) (sym a)
    (subst (λ (n : ℕ). IsTrue (list_all (is_declared_command (length p.globals) n) cs)) (sym b)
    (subst (λ (k : List Command). IsTrue (list_all (is_declared_command (length p.globals) (length p.locals)) k)) (sym c)
    (all_pass (is_declared_command (length p.globals) (length p.locals)) commands h)))

-- rows at the start name declared variables alone, those that hold for each thread a local
pub once_fits : (p : Program) (g : ℕ) (rows : List Row) → IsCompilable p → g ≡ length p.globals → rows ≡ filter (λ (r : Row). not (names_local r)) (start_rows p) →
    IsTrue (list_all (is_declared_row g 0) rows)
once_fits p g rows h e r =
    subst (λ (n : ℕ). IsTrue (list_all (is_declared_row n 0) rows)) (sym e)
    (subst (λ (rs : List Row). IsTrue (list_all (is_declared_row (length p.globals) 0) rs)) (sym r) (once_declared p h))

pub each_fits : (p : Program) (g l : ℕ) (rows : List Row) → IsCompilable p → g ≡ length p.globals → l ≡ length p.locals → rows ≡ filter names_local (start_rows p) →
    IsTrue (list_all (is_declared_row g l) rows)
each_fits p g l rows h a b r =
    subst (λ (n : ℕ). IsTrue (list_all (is_declared_row n l) rows)) (sym a)
    (subst (λ (n : ℕ). IsTrue (list_all (is_declared_row (length p.globals) n) rows)) (sym b)
    (subst (λ (rs : List Row). IsTrue (list_all (is_declared_row (length p.globals) (length p.locals)) rs)) (sym r) (each_declared p h)))

pub each_names : (p : Program) (rows : List Row) → rows ≡ filter names_local (start_rows p) → IsTrue (list_all names_local rows)
each_names p rows r = subst (λ (rs : List Row). IsTrue (list_all names_local rs)) (sym r) (each_local p)
