-- The names of a graph stay where another body, or none, runs once.
use Rattle.std.proofs.Common.{◌≡◌, ◌==◌, ℕ, Bool, true, ◌&&◌, List, length, nat_lt}
use Rattle.std.specs.List.{list_all}
use Rattle.std.specs.Prelude.{Option}
use Rattle.std.proofs.lemmas.Bool.{and_from, and_parts}
use Rattle.ps_command.specs.declared.command.Command.{Command}
use Rattle.ps_graph.specs.Facts.{is_below, names_exist}
use Rattle.ps_graph.specs.declared.edge.Edge.{Edge}

other_part : (first before after third last : Bool) → (first && before && third && last) ≡ true → after ≡ true → (first && after && third && last) ≡ true
other_part first before after third last h new =
    let x = and_parts (first && before && third) last h in
    let y = and_parts (first && before) third x.0 in
    let z = and_parts first before y.0 in
    and_from (first && after && third) last (and_from (first && after) third (and_from first after z.0 new) y.1) x.1

pub named_once : (locations : ℕ) (edges : List Edge) (entries : List ℕ) (before after : Option ℕ) (owner : List (Option ℕ)) (commands : List Command) →
    names_exist locations edges entries before owner commands ≡ true → is_below (length entries) after ≡ true → names_exist locations edges entries after owner commands ≡ true
unfolding names_exist
named_once locations edges entries before after owner commands h below =
    other_part
    (nat_lt 1 locations
    && list_all (λ (e : Edge). nat_lt e.source locations && nat_lt e.target locations && nat_lt e.command (length commands)) edges
    && list_all (λ (a : ℕ). nat_lt a locations) entries)
    (is_below (length entries) before) (is_below (length entries) after) (list_all (is_below (length entries)) owner) (length owner == locations) h below
