use Rattle.ps_print.proofs.Putting.{name_put}
use Rattle.ps_print.proofs.print_words.put_name.Goals as goal

pub returns : goal.returns
returns c = name_put c.args.out.now.items c.extend_from_slice.new.self.items c.push.new.self.items c.args.name.now c.in_ok-extend_from_slice.ensures.items c.in_ok-push.ensures.items
