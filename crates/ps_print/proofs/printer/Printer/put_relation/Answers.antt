use Rattle.std.proofs.Common.{sym, ap, ◌∷◌, []}
use Rattle.ps_token.specs.declared.token_kind.TokenKind.{TokenKind}
use Rattle.ps_grammar.specs.Spelling.{Mark}
use Rattle.ps_print.proofs.Putting.{chain, respell}
use Rattle.ps_print.proofs.printer.Printer.put_relation.Goals as goal

pub returns : goal.returns
returns c = chain c.in_ok-put_sum.ensures (chain (respell (ap (λ (k : TokenKind). Mark k ∷ []) (sym c.kind_of.ensures)) c.in_ok-put_mark.ensures) c.in_ok-put_sum-2.ensures)
