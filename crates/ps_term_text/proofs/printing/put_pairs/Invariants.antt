use Rattle.std.proofs.Common.{◌≡◌, ◌++◌, drop}
use Rattle.std.specs.List.{flat_map}
use Rattle.ps_lines.specs.Tokens.{after_blank}
use Rattle.ps_term_text.specs.Spelling.{pair_text}
use Rattle.ps_term_text.proofs.printing.put_pairs.Given as goal

abbrev pub invariant-loop-pair : goal.invariant-loop-pair
invariant-loop-pair l = l.out.items ++ flat_map (λ p. after_blank (pair_text p)) (drop l.pair-index l.pairs) ≡ l.fn.out.items ++ flat_map (λ p. after_blank (pair_text p)) l.pairs
