use Rattle.std.proofs.Common.{ℕ, List, sym, ap, ◌∷◌, []}
use Rattle.ps_grammar.specs.Spelling.{NamePiece}
use Rattle.ps_print.proofs.Putting.{chain, respell}
use Rattle.ps_print.proofs.printing.put_global.Goals as goal

pub returns : goal.returns
returns c = chain c.in_ok-put_mark.ensures (chain (respell (ap (λ (x : List ℕ). NamePiece x ∷ []) (sym c.as_slice.ensures)) c.in_ok-put_name.ensures) (chain c.in_ok-put_value.ensures c.in_ok-put_mark-2.ensures))
