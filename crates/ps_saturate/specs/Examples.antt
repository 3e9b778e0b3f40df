-- Worked examples. The counter: each thread adds 1 to the global x by command 0; predicate 1 is x >= 1, and predicate 2 is x >= 0.
use Rattle.std.specs.Prelude.{◌≡◌, ℕ, [], ◌∷◌}
use Rattle.ps_saturate.specs.Answered.{IsAnswerTo}
use Rattle.ps_saturate.specs.Patterns.{post_threads}
use Rattle.ps_saturate.specs.declared.pattern.Pattern.TheVariants.{None, Mover, Other}
use Rattle.ps_saturate.specs.declared.question.Question.{Question}
use Rattle.ps_triple.specs.Examples.{counter_predicates, counter_setting, leads}

-- what leads by command 0 to x >= 1, over the three predicates, of which so many were known before
abbrev pub adding : ℕ → Question
adding old = record { post = 1; command = 0; pattern = None; old = old; now = 3 }

-- both x >= 1 and x >= 0 do, in this order; the empty set doesn't
abbrev pub BothLeadToOne : Type 0
BothLeadToOne = IsAnswerTo counter_setting counter_predicates (adding 0) 1 (leads 1 0 1 (1 ∷ 1 ∷ []) ∷ leads 2 0 1 (1 ∷ 1 ∷ []) ∷ [])

-- of two predicates x >= 1 alone, and what is new beside these is x >= 0
abbrev pub OneIsNew : Type 0
OneIsNew = IsAnswerTo counter_setting counter_predicates (adding 2) 1 (leads 2 0 1 (1 ∷ 1 ∷ []) ∷ [])

-- where all three were known before, nothing is new
abbrev pub NothingIsNew : Type 0
NothingIsNew = IsAnswerTo counter_setting counter_predicates (adding 3) 1 []

-- with no atom before the command none leads there
abbrev pub NothingLeadsAlone : Type 0
NothingLeadsAlone = IsAnswerTo counter_setting counter_predicates (adding 0) 0 []

-- the mover is thread 0 in whichever slot it stands, and the others are numbered from 1 on
abbrev pub ThreadsOfPosts : Type 0
ThreadsOfPosts =
    (post_threads None 0 ≡ []) × (post_threads (Mover 0) 1 ≡ 0 ∷ []) × (post_threads Other 1 ≡ 1 ∷ [])
    × (post_threads (Mover 0) 2 ≡ 0 ∷ 1 ∷ []) × (post_threads (Mover 1) 2 ≡ 1 ∷ 0 ∷ []) × (post_threads Other 2 ≡ 1 ∷ 2 ∷ [])
