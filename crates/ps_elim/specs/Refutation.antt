-- What is said of an answer that refutes, or that has stages.
use Rattle.std.specs.Prelude.{ℕ, List, All}
use Rattle.ps_elim.specs.declared.answer.Elim.{Elim}
use Rattle.ps_elim.specs.declared.answer.Elim.TheVariants.{Refuted, Stages, Past128, TooWide}
use Rattle.ps_elim.specs.declared.stage.Stage.{Stage}
use Rattle.ps_term.specs.Pairs.{IsCanonical}

-- where the answer is a refutation, the fact holds of its multipliers
abbrev pub IfRefuted : Elim → (List ℕ → Type 0) → Type 0
IfRefuted (Refuted v) fact = fact v
IfRefuted (Stages stages) fact = Unit {0}
IfRefuted (Past128 stage) fact = Unit {0}
IfRefuted (TooWide stage count) fact = Unit {0}

-- where the answer is the stages, the fact holds of them
abbrev pub IfStages : Elim → (List Stage → Type 0) → Type 0
IfStages (Refuted v) fact = Unit {0}
IfStages (Stages stages) fact = fact stages
IfStages (Past128 stage) fact = Unit {0}
IfStages (TooWide stage count) fact = Unit {0}

-- the rows of the stages have no coefficient 0, and their variables strictly ascend
abbrev pub HasCanonicalRows : Elim → Type 0
HasCanonicalRows answer = IfStages answer (All (λ stage. All (λ row. IsCanonical row.term.pairs) stage.rows))
