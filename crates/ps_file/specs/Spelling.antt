-- How proofs are spelled, and which ones have a spelling.
use Rattle.std.specs.Prelude.{ℕ, ◌≤◌, List, [], ◌∷◌, ◌++◌, map, length, decimal, codes}
use Rattle.std.specs.List.{AllByRecursion}
use Rattle.ps_atom_text.specs.Spelling.{predicate_line, entry_line, config_line, PredicateHasSpelling, EntryHasSpelling, ConfigHasSpelling}
use Rattle.ps_file.specs.declared.limits.TheConstants.{MOST_CONFIGS, MOST_ENTRIES, MOST_PREDICATES}
use Rattle.ps_file.specs.declared.proof.Proof.{Proof}

-- A word and how many there are, and a line for each.
abbrev pub listed : {A : Type 0} → List ℕ → (A → List ℕ × List (List ℕ)) → List A → List (List ℕ × List (List ℕ))
listed word line xs = (word, decimal (length xs) ∷ []) ∷ map line xs

-- `proof 1`, the predicates, the entries, the configurations, and `end`.
abbrev pub proof_lines : Proof → List (List ℕ × List (List ℕ))
proof_lines p =
    (codes "proof", codes "1" ∷ [])
    ∷ (listed (codes "preds") predicate_line p.predicates
    ++ (listed (codes "entries") entry_line p.entries
    ++ (listed (codes "configs") config_line p.configs
    ++ ((codes "end", []) ∷ []))))

-- Each of the lists is within its limit, and each member has a spelling.
pub record ProofFits (p : Proof) : Type 0 where
  pub few_predicates : length p.predicates ≤ MOST_PREDICATES
  pub few_entries : length p.entries ≤ MOST_ENTRIES
  pub few_configs : length p.configs ≤ MOST_CONFIGS
  pub predicates : AllByRecursion PredicateHasSpelling p.predicates
  pub entries : AllByRecursion EntryHasSpelling p.entries
  pub configs : AllByRecursion ConfigHasSpelling p.configs
