use Rattle.std.proofs.Common.{List, ℕ, subst}
use Rattle.std.proofs.lemmas.Result.{IfOk-weaker}
use Rattle.ps_elim.specs.inner.Entries.{entries_of}
use Rattle.ps_elim.specs.inner.Words.{AreWordsOf}
use Rattle.ps_elim.proofs.vector.Vector.words.Goals as goal

pub returns : goal.returns
returns c =
    IfOk-weaker c.words_of.result (λ words. AreWordsOf (entries_of c.self.inside.entries c.self.inside.places) words.items) (λ words. AreWordsOf c.args.self.now words.items) (λ words h. subst (λ (ns : List ℕ). AreWordsOf ns words.items) c.self.view_is h) c.words_of.ensures
