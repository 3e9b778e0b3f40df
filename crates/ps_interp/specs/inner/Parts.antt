-- The letters of a trace with the multipliers of their rows, apart from the sums that they give.
use Rattle.std.specs.Prelude.{◌≡◌, ℕ, ◌<◌, pos, List, [], ◌∷◌, length, map, slice_index_or}
use Rattle.ps_command.specs.declared.setting.Setting.{Setting}
use Rattle.ps_interp.specs.Sums.{Weighed, sum_before, weigh}
use Rattle.ps_interp.specs.declared.weights.WeighedLetter.{WeighedLetter}
use Rattle.ps_term.specs.Exact.{number_term}
use Rattle.ps_term.specs.declared.term.Term.{Term}
use Rattle.ps_triple.specs.Rows.{form_in}

-- A letter's thread, its command, and the multipliers of the command's rows.
pub record Part : Type 0 where
  pub thread : ℕ
  pub command : ℕ
  pub weights : List ℕ

abbrev pub part_of : WeighedLetter → Part
part_of l = record { thread = l.thread; command = l.command; weights = l.weights.now }

abbrev pub part_in : Weighed → Part
part_in w = record { thread = w.thread; command = w.command; weights = w.weights }

-- a letter before a sum
abbrev pub weighed_before : Setting → Part → Term → Weighed
weighed_before setting p sum = record {
  thread = p.thread;
  command = p.command;
  weights = p.weights;
  before = sum_before p.thread (form_in setting p.command) p.weights sum;
  after = sum;
}

-- the letters with these parts, with the sums that they give
abbrev pub weighed_by : Setting → List Part → List Weighed
weighed_by setting [] = []
weighed_by setting (p ∷ ps) = weigh setting (p.thread, p.command) p.weights (weighed_by setting ps) ∷ weighed_by setting ps

abbrev pub letters_by : Setting → List WeighedLetter → List Weighed
letters_by setting letters = weighed_by setting (map part_of letters)

-- the command is there, and has as many rows as the letter has multipliers
pub record IsWeighedIn (setting : Setting) (l : WeighedLetter) : Type 0 where
  pub there : l.command < length setting.symbols
  pub as_many : length l.weights.now ≡ length (form_in setting l.command).rows

-- the sums at all cuts, that after the last letter too
abbrev pub cut_sums : List Weighed → List Term
cut_sums [] = number_term (pos 0) ∷ []
cut_sums (w ∷ ws) = w.before ∷ cut_sums ws

-- the sum of a number; past the list it is 0
abbrev pub sum_in : List Term → ℕ → Term
sum_in sums cut = slice_index_or sums cut (number_term (pos 0))
