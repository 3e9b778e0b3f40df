-- The facts that a graph keeps.
use Rattle.std.specs.Prelude.{◌≡◌, ℕ, suc, ℤ, Bool, true, false, not, ◌&&◌, ◌||◌, ◌==◌, nat_lt, List, [], ◌∷◌, length, slice_index_or, slice_get, Option, Some, None, option_map, unwrap_or, Contains}
use Rattle.std.specs.List.{list_all}
use Rattle.ps_command.specs.Commands.{ops_of}
use Rattle.ps_command.specs.Run.{havocs_in}
use Rattle.ps_command.specs.Values.{Values}
use Rattle.ps_command.specs.declared.command.Command.{Command}
use Rattle.ps_graph.specs.Picks.{values_in, run_with}
use Rattle.ps_graph.specs.declared.edge.Edge.{Edge}

-- the body of a location; past the list there is none
abbrev pub owner_of : List (Option ℕ) → ℕ → Option ℕ
owner_of owner a = slice_index_or owner a None

-- a number that stands is below the bound
abbrev pub is_below : ℕ → Option ℕ → Bool
is_below bound None = true
is_below bound (Some n) = nat_lt n bound

-- the two are one body, or neither is one
abbrev pub is_same_body : Option ℕ → Option ℕ → Bool
is_same_body None None = true
is_same_body (Some m) (Some n) = m == n
is_same_body _ _ = false

-- The error is a location, the edges lead between locations and run commands, the entries are locations, `once` and
-- the owners are bodies, and there are as many owners as locations.
unfoldable pub names_exist : ℕ → List Edge → List ℕ → Option ℕ → List (Option ℕ) → List Command → Bool
names_exist locations edges entries once owner commands =
    nat_lt 1 locations
    && list_all (λ (e : Edge). nat_lt e.source locations && nat_lt e.target locations && nat_lt e.command (length commands)) edges
    && list_all (λ (a : ℕ). nat_lt a locations) entries
    && is_below (length entries) once
    && list_all (is_below (length entries)) owner
    && length owner == locations

-- each entry, the first of which belongs to the body of this number, belongs to its body
abbrev pub entries_owned_from : ℕ → List (Option ℕ) → List ℕ → Bool
entries_owned_from body owner [] = true
entries_owned_from body owner (a ∷ entries) = is_same_body (owner_of owner a) (Some body) && entries_owned_from (suc body) owner entries

-- entry i belongs to body i
unfoldable pub entries_owned : List (Option ℕ) → List ℕ → Bool
entries_owned owner entries = entries_owned_from 0 owner entries

-- location 1 belongs to no body, and no edge leaves it
unfoldable pub error_is_final : List (Option ℕ) → List Edge → Bool
error_is_final owner edges = is_same_body (owner_of owner 1) None && list_all (λ (e : Edge). not (e.source == 1)) edges

-- the picks of an edge have as many values as its command has havocs
unfoldable pub picks_fit : List Command → List Edge → Bool
picks_fit commands edges = list_all (λ (e : Edge). values_in e.picks == havocs_in (ops_of commands e.command)) edges

-- each edge that doesn't enter the error stays in the body of its source
unfoldable pub stay_in_bodies : List (Option ℕ) → List Edge → Bool
stay_in_bodies owner edges = list_all (λ (e : Edge). e.target == 1 || is_same_body (owner_of owner e.source) (owner_of owner e.target)) edges

-- the values after an edge, run from these values with these choices
abbrev pub after_edge : List Command → Edge → Values → List ℤ → Option Values
after_edge commands e v cs = run_with e.picks (ops_of commands e.command) v cs

-- where two edges of one location run from the same values with the same choices, they have one target and give one result
unfoldable pub IsDeterministic : List Command → List Edge → Type 0
IsDeterministic commands edges = (d e : Edge) → Contains edges d → Contains edges e → d.source ≡ e.source →
    (v w x : Values) (cs : List ℤ) → after_edge commands d v cs ≡ Some w → after_edge commands e v cs ≡ Some x →
    (d.target ≡ e.target) × (w ≡ x)
