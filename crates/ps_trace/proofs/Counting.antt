-- Havocs of the letters of a trace, letter by letter: what is left of the most is counted down.
use Rattle.std.proofs.Common.{◌≡◌, ap, ℕ, ◌+◌, ◌-◌, ◌<◌, ◌≤◌, List, length, drop, get_or, arith}
use Rattle.std.proofs.lemmas.List.{drop_all, drop_more}
use Rattle.ps_graph.specs.declared.graph.Graph.{Graph}
use Rattle.ps_trace.specs.Rows.{form_at, havocs_of_letters}
use Rattle.ps_trace.specs.Traces.{pairs_in}
use Rattle.ps_trace.specs.declared.trace.Letter.{Letter}

abbrev pub havocs_in : Graph → List Letter → ℕ
havocs_in graph letters = havocs_of_letters graph (pairs_in letters)

-- what was counted and what is left are the most, and the letters from the i-th on are still to be counted
abbrev pub AreCounted : Graph → List Letter → ℕ → ℕ → ℕ → Type 0
AreCounted graph letters i left most = havocs_in graph letters + left ≡ most + havocs_in graph (drop i letters)

next : (graph : Graph) (letters : List Letter) (i : ℕ) (d : Letter) → i < length letters →
    havocs_in graph (drop i letters) ≡ (form_at graph (get_or letters i d).edge).havocs + havocs_in graph (drop (i + 1) letters)
next graph letters i d below = ap (havocs_in graph) (drop_more letters i d below)

pub one_more : (graph : Graph) (letters : List Letter) (i left n most : ℕ) (d : Letter) → i < length letters → AreCounted graph letters i left most →
    n ≡ (form_at graph (get_or letters i d).edge).havocs → n ≤ left → AreCounted graph letters (i + 1) (left - n) most
one_more graph letters i left n most d below told is few = omega (arith, told, is, few, next graph letters i d below)

pub too_many : (graph : Graph) (letters : List Letter) (i left n most : ℕ) (d : Letter) → i < length letters → AreCounted graph letters i left most →
    n ≡ (form_at graph (get_or letters i d).edge).havocs → left < n → most < havocs_in graph letters
too_many graph letters i left n most d below told is many = omega (arith, told, is, many, next graph letters i d below)

pub all_counted : (graph : Graph) (letters : List Letter) (i left most : ℕ) → length letters ≤ i → AreCounted graph letters i left most → havocs_in graph letters ≤ most
all_counted graph letters i left most end told =
    let e : havocs_in graph (drop i letters) ≡ 0 = ap (havocs_in graph) (drop_all i letters end) in
    omega (arith, told, e)
