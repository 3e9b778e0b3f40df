use Rattle.ps_print.proofs.Putting.{number_put}
use Rattle.std.specs.Prelude.{decimal}
use Rattle.ps_print.proofs.print_words.put_number.Goals as goal

pub returns : goal.returns
returns c = number_put c.args.out.now.items c.put_digits.new.out.items c.push.new.self.items (decimal c.args.number) c.in_ok-put_digits.ensures c.in_ok-push.ensures.items
