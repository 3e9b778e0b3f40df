use Rattle.std.proofs.Common.{◌≡◌, ◌∙◌, ℕ, List, Option, Some, None, MatchOption, sym, ap, codes, option_map}
use Rattle.clap.proofs.WalkLemmas.{first_value-rows}
use Rattle.clap.specs.Matches.{found_of}
use Rattle.ps_words.specs.Modes.{mode_name}
use Rattle.ps_words.specs.declared.mode.Mode.{Mode}
use Rattle.ps_words.proofs.words.mode_matched.Goals as goal

named_so : (first : Option (List ℕ)) (name : List ℕ) (r : Option Mode) → first ≡ Some name
    → MatchOption r ((mode : Mode) → mode_name mode ≡ name → ⊥) (λ mode. mode_name mode ≡ name)
    → MatchOption r ((mode : Mode) → ¬ (first ≡ Some (mode_name mode))) (λ mode. first ≡ Some (mode_name mode))
named_so first name None is none = λ mode same. none mode (let e : Some name ≡ Some (mode_name mode) = sym is ∙ same in cc)
named_so first name (Some mode) is names = is ∙ ap Some (sym names)

pub returns-in-Some : goal.returns-in-Some
returns-in-Some c =
    named_so _ c.in-Some.name.now c.named.result
    (sym (first_value-rows (found_of c.args.matches.now) (codes "MODE")) ∙ sym c.get_str.ensures ∙ ap (option_map (λ s. s.now)) c.in-Some.is) c.named.ensures

pub returns-in-None : goal.returns-in-None
returns-in-None c = λ mode same.
    let none = sym (first_value-rows (found_of c.args.matches.now) (codes "MODE")) ∙ sym c.get_str.ensures ∙ ap (option_map (λ s. s.now)) c.in-None.is in
    let bad : Some (mode_name mode) ≡ None = sym same ∙ none in cc
