-- Worked examples: what whole texts are read as, and which fault is the first.
use Rattle.std.specs.Prelude.{◌≡◌, ℕ, pos, negsuc, List, [], ◌∷◌, ◌++◌, Result, Ok, Err, codes}
use Rattle.std.specs.List.{flat_map}
use Rattle.ps_file.specs.Reading.{proof_at}
use Rattle.ps_file.specs.declared.proof.Proof.{Proof}
use Rattle.ps_lines.specs.declared.form_fault.FormFault.{FormFault}
use Rattle.ps_lines.specs.declared.form_name.FormName.{FormName}
use Rattle.ps_lines.specs.declared.form_name.FormName.TheVariants as name
use Rattle.ps_lines.specs.Reading.{text_start}
use Rattle.ps_term.specs.declared.var.Var.TheVariants.{Global}

-- what is read from lines, the last one not ended
abbrev pub text_read : List (List ℕ) → List ℕ → Result Proof FormFault
text_read lines rest = proof_at (text_start 1 (flat_map (λ line. line ++ 10 ∷ []) lines ++ rest))

abbrev pub empty_lines : List (List ℕ)
empty_lines = codes "proof 1" ∷ codes "preds 0" ∷ codes "entries 0" ∷ codes "configs 0" ∷ codes "end" ∷ []

-- the predicate `x >= 1`, of the first global, and nothing else
abbrev pub one_predicate : Proof
one_predicate = record {
  predicates = record { arity = 0; row = record { term = record { pairs = (Global 0, negsuc 0) ∷ []; constant = pos 1 } } } ∷ [];
  entries = [];
  configs = [];
}

abbrev pub refused : ℕ → ℕ → FormName → FormFault
refused line field what = record { line = line; field = field; what = what }

-- A proof without members and one with a predicate. A further version, a count above its limit, and bytes after the end.
abbrev pub ProofsAre : Type 0
ProofsAre =
    (text_read empty_lines [] ≡ Ok (record { predicates = []; entries = []; configs = [] }))
    × (text_read (codes "proof 1" ∷ codes "preds 1" ∷ codes "pred 0 -1*g0 1" ∷ codes "entries 0" ∷ codes "configs 0" ∷ codes "end" ∷ []) [] ≡ Ok one_predicate)
    × (text_read (codes "proof 3" ∷ []) [] ≡ Err (refused 1 2 name.Word))
    × (text_read (codes "proof 1" ∷ codes "preds 128" ∷ []) [] ≡ Err (refused 2 2 name.Limit))
    × (text_read empty_lines (codes "x") ≡ Err (refused 6 0 name.Word))
