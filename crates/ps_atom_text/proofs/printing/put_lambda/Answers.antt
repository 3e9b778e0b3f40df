use Rattle.ps_atom_text.proofs.Printed.{lambda_begun}
use Rattle.ps_atom_text.proofs.printing.put_lambda.Goals as goal

pub loop-n-init : goal.loop-n-init
loop-n-init c = lambda_begun c.args.out.now.items c.put_field.new.out.items c.args.lambda.now c.in_ok-put_field.ensures
