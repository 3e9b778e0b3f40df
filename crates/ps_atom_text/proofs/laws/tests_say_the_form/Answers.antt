use Rattle.ps_atom_text.proofs.InForm.{tests_say_form}
use Rattle.ps_atom_text.proofs.laws.tests_say_the_form.Goals as goal

pub returns : goal.returns
returns c = tests_say_form
