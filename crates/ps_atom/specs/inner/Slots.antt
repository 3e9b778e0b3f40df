-- The pairs of a row with slots put for its threads, part by part.
use Rattle.std.specs.Prelude.{ℕ, ℤ, ◌+◌, Bool, true, false, List, [], ◌∷◌, ◌++◌, Option, Some, None, ◌==◌, if◌then◌else◌, map, filter}
use Rattle.std.specs.Option.{option_to_list}
use Rattle.ps_term.specs.declared.var.Var.{Var}
use Rattle.ps_term.specs.declared.var.Var.TheVariants.{Global, Local, Havoc}

-- the variable is a global
abbrev pub is_global : Var → Bool
is_global (Global _) = true
is_global (Local _ _) = false
is_global (Havoc _) = false

-- the variable is a havoc
abbrev pub is_havoc : Var → Bool
is_havoc (Global _) = false
is_havoc (Local _ _) = false
is_havoc (Havoc _) = true

-- the pairs as locals of the slot
abbrev pub in_slot : ℕ → List (ℕ × ℤ) → List (Var × ℤ)
in_slot slot own = map (λ pair. (Local slot pair.0, pair.1)) own

-- the pairs of the threads, as locals of the slots from this one on
abbrev pub in_slots : ℕ → List (List (ℕ × ℤ)) → List (Var × ℤ)
in_slots slot [] = []
in_slots slot (own ∷ rest) = in_slot slot own ++ in_slots (slot + 1) rest

-- the globals, the threads in the order of their slots, and the havocs
abbrev pub put_in_slots : List (List (ℕ × ℤ)) → List (Var × ℤ) → List (Var × ℤ)
put_in_slots owns pairs = filter (λ pair. is_global pair.0) pairs ++ (in_slots 0 owns ++ filter (λ pair. is_havoc pair.0) pairs)

-- the thread of a local, unless it is the last one that was met
abbrev pub next_thread : Option ℕ → Var → Option ℕ
next_thread last (Global _) = None
next_thread None (Local t _) = Some t
next_thread (Some last) (Local t _) = if t == last then None else Some t
next_thread last (Havoc _) = None

-- the thread that was met last, once the next one is, if there is one
abbrev pub latest : Option ℕ → Option ℕ → Option ℕ
latest last None = last
latest last (Some t) = Some t

-- the threads of the pairs, without repeating the one before
abbrev pub threads_after : Option ℕ → List (Var × ℤ) → List ℕ
threads_after last [] = []
threads_after last (pair ∷ pairs) = option_to_list (next_thread last pair.0) ++ threads_after (latest last (next_thread last pair.0)) pairs
