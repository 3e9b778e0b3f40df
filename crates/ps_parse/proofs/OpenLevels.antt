-- The levels that are open: which are once each `!` is ended, and whether an atomic block is one of them.
use Rattle.std.proofs.Common.{◌≡◌, Bool, true, false, inl, inr, List, [], ◌∷◌, refl, arith}
use Rattle.std.specs.Prelude.{Contains}
use Rattle.std.proofs.lemmas.List.Elements.{Contains-append_left, Contains-append_right, Contains-push, Contains-push_cases, Contains-append_cases}
use Rattle.ps_grammar.specs.Words.{Word}
use Rattle.ps_parse.specs.declared.level.Level.{Level}
use Rattle.ps_parse.specs.declared.level.Level.TheVariants as level
use Rattle.ps_parse.specs.Causes.{without_negations, block_level, levels}

-- ---- ended `!`

-- these levels are open once each `!` is ended
abbrev pub Settles : List Level → List Word → Type 0
Settles ls back = without_negations (levels back) ≡ ls

pub settled_again : (ls : List Level) → without_negations (without_negations ls) ≡ without_negations ls
settled_again [] = refl
settled_again (level.Negation ∷ ls) = settled_again ls
settled_again (l ∷ ls) = refl

-- ---- atomic blocks

-- an atomic block is open, or none is
abbrev pub Matches : Bool → List Level → Type 0
Matches true ls = Contains ls level.AtomicBlock
Matches false ls = ¬ Contains ls level.AtomicBlock

no_block : level.Block ≡ level.AtomicBlock → ⊥
no_block e = cc

pub matches_block : (inside : Bool) (ls : List Level) → Matches inside ls → Matches inside (level.Block ∷ ls)
matches_block true ls h = Contains-append_right (level.Block ∷ []) ls level.AtomicBlock h
matches_block false ls h = λ c.
    elim (Contains-append_cases (level.Block ∷ []) ls level.AtomicBlock c) [
      | inl d ↦ elim (Contains-push_cases [] level.Block level.AtomicBlock d) [ inl n ↦ omega (arith, n.1) | inr e ↦ no_block e ]
      | inr d ↦ h d
    ]

pub matches_atomic : (ls : List Level) → Matches true (level.AtomicBlock ∷ ls)
matches_atomic ls = Contains-append_left (level.AtomicBlock ∷ []) ls level.AtomicBlock (Contains-push [] level.AtomicBlock)

-- in the body none is open
pub outside : Matches false (block_level false ∷ [])
outside = matches_block false [] (λ c. omega (arith, c.1))

pub settled_block : (after : Bool) (ls : List Level) → without_negations (block_level after ∷ ls) ≡ block_level after ∷ ls
settled_block true ls = refl
settled_block false ls = refl
