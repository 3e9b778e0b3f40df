use Rattle.std.proofs.Common.{◌∙◌, sym, ap}
use Rattle.ps_token.specs.declared.token_kind.TokenKind.TheVariants as kind
use Rattle.ps_print.proofs.Members.{and_is, and_none, conj_not, conj_put, member_put, no_members, or_is, or_none, threaded, unary_not, unary_put}
use Rattle.ps_print.proofs.Putting.{chain, nothing, respell, rest_put}
use Rattle.ps_print.proofs.printer.Printer.+put_unary.Goals as goal

pub put_all-returns-then-is_empty : goal.put_all-returns-then-is_empty
put_all-returns-then-is_empty t c = respell (and_none c.args.self.now c.args.members.now (no_members c.args.members.now c.if-is_empty.ensures)) c.in_ok-put_zeros.ensures

pub put_all-returns : goal.put_all-returns
put_all-returns t c = respell (and_is c.args.self.now c.args.members.now) (rest_put (threaded (member_put kind.And (unary_put c.args.self.now)) c.loop-member.is_first) c.args.members.now c.loop-member.member-index c.loop-member-test.false c.loop-member.invariant (nothing c.loop-member.out.items))

pub put_conj-returns-in_ok-put_unary-in-Not : goal.put_conj-returns-in_ok-put_unary-in-Not
put_conj-returns-in_ok-put_unary-in-Not t c = respell (ap (conj_put c.args.self.now) c.in-Not.is ∙ conj_not c.args.self.now c.in-Not.negated) (chain c.in_ok-put_mark-in-Not.ensures (respell (ap (unary_put c.args.self.now) (sym c.get.ensures)) c.in_ok-put_unary-in-Not.ensures))

pub put_some-returns-then-is_empty : goal.put_some-returns-then-is_empty
put_some-returns-then-is_empty t c = respell (or_none c.args.self.now c.args.members.now (no_members c.args.members.now c.if-is_empty.ensures)) c.in_ok-put_zeros.ensures

pub put_some-returns : goal.put_some-returns
put_some-returns t c = respell (or_is c.args.self.now c.args.members.now) (rest_put (threaded (member_put kind.Or (conj_put c.args.self.now)) c.loop-member.is_first) c.args.members.now c.loop-member.member-index c.loop-member-test.false c.loop-member.invariant (nothing c.loop-member.out.items))

pub put_unary-returns-in_ok-put_unary-in-Not : goal.put_unary-returns-in_ok-put_unary-in-Not
put_unary-returns-in_ok-put_unary-in-Not t c = respell (ap (unary_put c.args.self.now) c.in-Not.is ∙ unary_not c.args.self.now c.in-Not.negated) (chain c.in_ok-put_mark-in-Not.ensures (respell (ap (unary_put c.args.self.now) (sym c.get.ensures)) c.in_ok-put_unary-in-Not.ensures))
