use Rattle.std.proofs.Common.{◌++◌, drop}
use Rattle.ps_token.specs.declared.token_kind.TokenKind.TheVariants as kind
use Rattle.ps_print.specs.Printed.{printed}
use Rattle.ps_print.proofs.Members.{and_pieces, conj_put, member_put, or_pieces, threaded, unary_put}
use Rattle.ps_print.proofs.Putting.{PutsRest}
use Rattle.ps_print.proofs.printer.Printer.+put_unary.Given as goal

abbrev pub invariant-put_all-loop-member : goal.invariant-put_all-loop-member
invariant-put_all-loop-member l = PutsRest (threaded (member_put kind.And (unary_put l.self)) l.is_first) l.out.items (drop l.member-index l.members) (l.initial.out.items ++ printed (and_pieces l.self l.members))

abbrev pub invariant-put_some-loop-member : goal.invariant-put_some-loop-member
invariant-put_some-loop-member l = PutsRest (threaded (member_put kind.Or (conj_put l.self)) l.is_first) l.out.items (drop l.member-index l.members) (l.initial.out.items ++ printed (or_pieces l.self l.members))
