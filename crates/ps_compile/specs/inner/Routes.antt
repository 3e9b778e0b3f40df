-- Paths as what they do.
use Rattle.std.specs.Prelude.{Bool, true, false, List, [], ◌∷◌, ◌++◌, map, if◌then◌else◌}
use Rattle.ps_graph.specs.Alternatives.{Bound, alternatives}
use Rattle.ps_graph.specs.Paths.{Act, Fails, guarded_by}
use Rattle.ps_tree.specs.declared.cond.Cond.{Cond}
use Rattle.ps_command.specs.declared.op.Op.TheVariants.{Assign, Assume}
use Rattle.ps_compile.specs.declared.route.Route.{Route}
use Rattle.ps_term.specs.declared.row.Row.{Row}
use Rattle.ps_term.specs.declared.term.Term.{Term}
use Rattle.ps_term.specs.declared.var.Var.{Var}

-- the route that assumes rows
abbrev pub guarded_route : Bool → List Row → Route
guarded_route fails rows = record { command = record { ops = map Assume rows }; picks = []; fails = fails }

-- the route that sets a variable to what a term is worth
abbrev pub assigned_route : Var → Term → Route
assigned_route x t = record { command = record { ops = Assign x t ∷ [] }; picks = []; fails = false }

-- one after another
abbrev pub join : Route → Route → Route
join p q = record { command = record { ops = p.command.ops ++ q.command.ops }; picks = p.picks ++ q.picks; fails = q.fails }

abbrev pub after_one : Route → List Route → List Route
after_one p qs = if p.fails then p ∷ [] else map (join p) qs

abbrev pub after_all : List Route → List Route → List Route
after_all [] qs = []
after_all (p ∷ ps) qs = after_one p qs ++ after_all ps qs

-- the paths of a condition that holds, at true, or fails, with a failed assertion at their end or without
abbrev pub cond_paths : Bool → Bool → Cond → List (List Act)
cond_paths h true c = map (λ (bs : List Bound). guarded_by bs ++ Fails ∷ []) (alternatives h c)
cond_paths h false c = map guarded_by (alternatives h c)
